-- Before the first turn (C17 5.1.2p1): static objects, literals, functions, and static initializers.
use Rattle.std.specs.Prelude.{ℕ, None, Some}
use Rattle.std.specs.declared.option.Option.{Option}
use Rattle.pv_typed.specs.declared.values.Const.{Const}
use Rattle.pv_typed.specs.Addresses.{constant_of}
use Rattle.pv_typed.specs.TypedUnits.{Store, StoredValue, ValueOf, TextOf, object_at, function_at, literal_at}
use Rattle.pv_world.specs.Worlds.{Worth, Nothing}
use Rattle.pv_eval.specs.States.{Setting, State, Res, Gives, then_do}
use Rattle.pv_eval.specs.TypeForms.{lvalue, size_of}
use Rattle.pv_eval.specs.Operations.{Makes, MakesLiteral, MakesFunction, Fills, Puts, PutsText}
use Rattle.pv_eval.specs.Constants.{constant_worth}
use Rattle.pv_exec.specs.Rules.{Rules, unruled}
use Rattle.pv_exec.specs.Flows.{each}

-- 6.2.4p3, 6.7.9p10: an object with static storage is made, each byte 0
abbrev pub make_static_by : Rules → Setting → ℕ → State → Res Worth
make_static_by R b o s = then_do (R.act b (object_at b.unit o).line (Makes o) s) (λ v s. R.act b (object_at b.unit o).line (Fills o (Some 0)) s)

-- 6.7.9p4, 6.6p7: what a static initializer stores is the value of a constant expression
abbrev pub store_constant_by : Rules → Setting → (object : ℕ) → Store → Option Const → State → Res Worth
store_constant_by R b o x None s = unruled R (Gives Nothing s) s
store_constant_by R b o x (Some c) s = R.act b x.line (Puts o x.offset (lvalue b x.t) (constant_worth s.world c)) s

-- 6.7.9p4, p14: such a value, or a string's characters
abbrev pub store_static_by : Rules → Setting → (object : ℕ) → Store → StoredValue → State → Res Worth
store_static_by R b o x (ValueOf e) s = store_constant_by R b o x (constant_of b.unit e) s
store_static_by R b o x (TextOf l) s = R.act b x.line (PutsText o x.offset (size_of b x.t) l) s

-- 5.1.2p1: before `main` is called: static objects are made in the order in which their names are first declared, then
-- the arrays of literals (6.4.5p6) in the order of the source, then the functions that are pointed to (6.3.2.1p4) in the order of their first
-- declarations, and then the initializers are stored, each in the order of its list (6.7.9p19). None of it takes a turn
abbrev pub prepare_by : Rules → Setting → State → Res Worth
prepare_by R b s =
    then_do (each (make_static_by R b) b.unit.statics s) (λ v s.
    then_do (each (λ (l : ℕ) s. R.act b (literal_at b.unit l).line (MakesLiteral l) s) b.unit.instances s) (λ v s.
    then_do (each (λ (f : ℕ) s. R.act b (function_at b.unit f).line (MakesFunction f) s) b.unit.placed s) (λ v s.
    each (λ (o : ℕ) s. each (λ (x : Store) s. store_static_by R b o x x.what s) (object_at b.unit o).inits s) b.unit.statics s)))
