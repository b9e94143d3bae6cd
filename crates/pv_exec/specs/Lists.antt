-- A bridge: what is done for each of a list, by the name of what is done: the objects of a block, the stores of an initializer, the parts of a unit.
use Rattle.std.specs.Prelude.{List, ℕ}
use Rattle.pv_eval.specs.Operations.{Makes, act, MakesLiteral, MakesFunction}
use Rattle.pv_eval.specs.States.{Res, Setting, State}
use Rattle.pv_world.specs.Worlds.{Worth}
use Rattle.pv_exec.specs.Flows.{each}
use Rattle.pv_exec.specs.OfRuns.{stores_value, make_static, store_static}
use Rattle.pv_typed.specs.TypedUnits.{object_at, Store, literal_at, function_at}
use Rattle.pv_eval.specs.Steps.{Calling}

-- the objects of a block are made when it is entered, in the order of their declarations (which is our choice)
abbrev pub make_all : Setting → List ℕ → State → Res Worth
make_all b os s = each (λ (o : ℕ) s. act b (object_at b.unit o).line (Makes o) s) os s

-- all stores, in the order of the list (p23 leaves the order of evaluation open)
abbrev pub store_all : Setting → Calling → (object : ℕ) → List Store → State → Res Worth
store_all b call o xs s = each (λ (x : Store) s. stores_value b call o x x.what s) xs s

-- all of them, in the order of the list
abbrev pub make_statics : Setting → List ℕ → State → Res Worth
make_statics b os s = each (make_static b) os s

-- the arrays of string literals
abbrev pub make_literals : Setting → List ℕ → State → Res Worth
make_literals b ls s = each (λ (l : ℕ) s. act b (literal_at b.unit l).line (MakesLiteral l) s) ls s

-- the instances of the functions that are pointed to
abbrev pub make_functions : Setting → List ℕ → State → Res Worth
make_functions b fs s = each (λ (f : ℕ) s. act b (function_at b.unit f).line (MakesFunction f) s) fs s

-- all stores of an object, in the order of the list
abbrev pub store_statics : Setting → (object : ℕ) → List Store → State → Res Worth
store_statics b o xs s = each (λ (x : Store) s. store_static b o x x.what s) xs s

-- all stores of all static objects, in their order
abbrev pub initialize_statics : Setting → List ℕ → State → Res Worth
initialize_statics b os s = each (λ (o : ℕ) s. store_statics b o (object_at b.unit o).inits s) os s
