-- What the test of a pointer that is called passes: a function (C17 6.5.2.2p1).
use Rattle.std.proofs.Common.{◌≡◌, ℕ, Bool, true, false, cond, eqb, Option, Some, None, Result, Ok, Err, IfOk, is_ok, refl, ap}
use Rattle.std.proofs.lemmas.Bool.{false≢true}
use Rattle.pv_prov.specs.declared.names.Prov.{Prov}
use Rattle.pv_prov.specs.declared.names.Prov.TheVariants.{Empty, Inst, Pair}
use Rattle.pv_prov.specs.Names.{stands, is_empty}
use Rattle.pv_inst.specs.declared.values.Instance.{Instance}
use Rattle.pv_inst.specs.declared.values.Test.TheVariants.{Code}
use Rattle.pv_inst.specs.declared.values.Tried.{Tried}
use Rattle.pv_inst.specs.declared.values.Miss.{Miss}
use Rattle.pv_inst.specs.Table.{Table, instance_at}
use Rattle.pv_inst.specs.Use.{use_answer, is_function}
use Rattle.pv_inst.specs.SameParts.{made_passes}
use Rattle.pv_inst.proofs.Fitting.{and_left, and_right}
use Rattle.pv_object.specs.declared.values.Pointer.{Pointer}
use Rattle.pv_object.specs.declared.values.Stop.{Stop}
use Rattle.pv_object.specs.Access.{first_survivor, is_null}
use Rattle.pv_object.specs.Operations.{code, code_in, code_by}
use Rattle.pv_object.proofs.Survivors.{pick}
use Rattle.pv_guards.specs.Soundness.{IsCode, IsCodeIn}

no-error : {A : Type 0} (m : Miss) (x : A) → Err m ≡ Ok x → ⊥
no-error m x e = false≢true (ap is_ok e)

-- 6.5.2.2p1: the function at a pointer's address
code-passes : (zap : Bool) (o : Option Instance) (a : ℕ) → made_passes zap o (Code a) ≡ true → IsCodeIn o
code-passes zap None a h = absurd (false≢true h)
code-passes zap (Some x) a h = and_left (is_function x.kind) (eqb x.base a) (and_right x.live _ h)

chosen-code : (T : Table) (p : Prov) (a : ℕ) (tried : Tried) (i : ℕ) → use_answer T p (Code a) ≡ Ok tried → first_survivor (stands T.pairs p) tried ≡ Some i → IsCode T i
chosen-code T Empty a tried i e h = absurd (no-error _ tried e)
chosen-code T (Inst j) a tried i e h =
    let s = stands T.pairs (Inst j) in
    code-passes T.zap (instance_at T.instances i) a (pick _ _ s.low s.high T.zap T.instances (Code a) _ _ tried i refl refl e h)
chosen-code T (Pair k) a tried i e h =
    let s = stands T.pairs (Pair k) in
    code-passes T.zap (instance_at T.instances i) a (pick _ _ s.low s.high T.zap T.instances (Code a) _ _ tried i refl refl e h)

abbrev IsCodeOf : Table → ℕ × Tried → Type 0
IsCodeOf T r = IsCode T r.0

code-in : (T : Table) (o : Option ℕ) (tried : Tried) → ((i : ℕ) → o ≡ Some i → IsCode T i) → IfOk (code_in o tried) (IsCodeOf T)
code-in T None tried h = tt
code-in T (Some i) tried h = h i refl

code-by : (T : Table) (p : Pointer) (r : Result Tried Miss) → use_answer T p.prov (Code p.address) ≡ r → IfOk (code_by (stands T.pairs p.prov) r) (IsCodeOf T)
code-by T p (Ok tried) e = code-in T (first_survivor (stands T.pairs p.prov) tried) tried (λ i f. chosen-code T p.prov p.address tried i e f)
code-by T p (Err m) e = tt

found-if : (T : Table) (c : Bool) (w v : Result (ℕ × Tried) Stop × Table) → IfOk w.0 (IsCodeOf T) → IfOk v.0 (IsCodeOf T) → IfOk (cond c w v).0 (IsCodeOf T)
found-if T true w v h g = h
found-if T false w v h g = g

pub code-found : (T : Table) (p : Pointer) → IfOk (code T p).0 (IsCodeOf T)
code-found T p = found-if T (is_null p) _ _ tt (found-if T (is_empty p.prov) _ _ tt (code-by T p (use_answer T p.prov (Code p.address)) refl))
