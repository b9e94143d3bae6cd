-- What comes of a unit, from what the parts of the code found.
use Rattle.std.proofs.Common.{◌≡◌, ℕ, ◌≤◌, ◌^◌, List, Result, Ok, Err, IfErr, OnOk, IsTrue, is_some, map, sym, ap, ◌∙◌, subst}
use Rattle.pv_token.specs.Table.{Table}
use Rattle.pv_tree.specs.Syntax.{DeclarationTree}
use Rattle.pv_types.specs.Known.{Known, env}
use Rattle.pv_types.specs.Layouts.{layout_in}
use Rattle.pv_types.specs.Ty.{StructTag}
use Rattle.pv_typed.specs.Formed.{Grown}
use Rattle.pv_typed.specs.Known.{AreKnown}
use Rattle.pv_typed.specs.Mains.{main_of}
use Rattle.pv_typed.specs.Tables.{Stored, whole_unit}
use Rattle.pv_typed.specs.TypedUnits.{WholeUnit}
use Rattle.pv_typed.proofs.Adding.{grown_trans}
use Rattle.pv_check.specs.Growing.{AreSized}
use Rattle.pv_check.proofs.Growth.{sized_small}
use Rattle.pv_check.specs.Raw.{Raw, used_of}
use Rattle.pv_unit.specs.declared.checking.CheckError.{CheckError}
use Rattle.pv_unit.specs.declared.checking.CheckError.TheVariants as error
use Rattle.pv_unit.specs.Checking.{IsCause, IsLack, IsNamed, IsResolved, IsStop}
use Rattle.pv_unit.specs.Redeclarations.{UnitState}
use Rattle.pv_unit.specs.declared.entities.Outer.{Outer}
use Rattle.pv_unit.specs.Outside.{unit_state}
use Rattle.pv_unit.specs.Units.{Breaks, IsTyped, Typed, UnitComes, finished_unit, unit_at_first, placed_from, statics_from, with_statics, with_placed}
use Rattle.pv_unit.proofs.Resolutions.{main_found}

pub stop_cause : (t : Table) (ds : List DeclarationTree) (u : UnitState) (e : CheckError) → u ≡ unit_at_first t → IsStop ds u e → IsCause t ds e
stop_cause t ds u (error.Constraint n) same h = subst (λ v. Breaks ds v n) same h
stop_cause t ds u (error.Unresolved n) same h = absurd h
stop_cause t ds u error.NoMain same h = absurd h
stop_cause t ds u error.NoMemory same h = tt

pub stop_named : (t : Table) (ds : List DeclarationTree) (u : UnitState) (e : CheckError) → IsStop ds u e → IsNamed t e
stop_named t ds u (error.Constraint n) h = tt
stop_named t ds u (error.Unresolved n) h = absurd h
stop_named t ds u error.NoMain h = tt
stop_named t ds u error.NoMemory h = tt

lack_cause : (t : Table) (ds : List DeclarationTree) (u : UnitState) (e : CheckError) → IsTyped ds (unit_at_first t) u → IsLack u e → IsCause t ds e
lack_cause t ds u (error.Constraint n) typed h = absurd h
lack_cause t ds u (error.Unresolved n) typed h = (u, (typed, h))
lack_cause t ds u error.NoMain typed h = (u, (typed, h.0, h.1))
lack_cause t ds u error.NoMemory typed h = tt

pub lack_refused : {T : Type 0} (t : Table) (ds : List DeclarationTree) (u : UnitState) (r : Result T CheckError) → IsTyped ds (unit_at_first t) u → IfErr r (IsLack u) → IfErr r (IsCause t ds)
lack_refused t ds u (Ok x) typed h = tt
lack_refused t ds u (Err e) typed h = lack_cause t ds u e typed h

pub unit_comes : {T : Type 0} (t : Table) (ds : List DeclarationTree) (u : UnitState) (w : WholeUnit) (r : Result T CheckError) → IsTyped ds (unit_at_first t) u → OnOk r (IsResolved u) → OnOk r (w ≡ finished_unit u) → OnOk r (UnitComes t ds (Typed w))
unit_comes t ds u w (Ok x) typed h k = (u, (typed, h.0, h.1, k))
unit_comes t ds u w (Err e) typed h k = tt

pub main_on : {T : Type 0} (u : UnitState) (w : WholeUnit) (r : Result T CheckError) → OnOk r (IsResolved u) → OnOk r (w ≡ finished_unit u) → OnOk r (IsTrue (is_some (main_of w)))
main_on u w (Ok x) h k = subst (λ (v : WholeUnit). IsTrue (is_some (main_of v))) (sym k) (main_found u.state.unit.names u.state.unit.functions h.1)
main_on u w (Err e) h k = tt

pub known_on : {T E : Type 0} (a b : Stored) (r : Result T E) → AreKnown a → OnOk r (Grown a b) → OnOk r (AreKnown b)
known_on a b (Ok x) known h = h.known known
known_on a b (Err e) known h = tt

small_in : (m : Known) → AreSized m → (n : ℕ) → (layout_in (env m) (StructTag n)).size ≤ 2 ^ 32
small_in m sized n = sized_small (env m) (StructTag n) (sized.tags n)

pub small_on : {T E : Type 0} (a b : Known) (r : Result T E) → AreSized a → OnOk r (b ≡ a) → OnOk r ((n : ℕ) → (layout_in (env b) (StructTag n)).size ≤ 2 ^ 32)
small_on a b (Ok x) sized e = subst (λ (m : Known). (n : ℕ) → (layout_in (env m) (StructTag n)).size ≤ 2 ^ 32) (sym e) (small_in a sized)
small_on a b (Err x) sized e = tt

-- want of memory is no cause that tells of the unit
pub memory_lack : {T : Type 0} (u : UnitState) (r : Result T CheckError) → IfErr r (λ e. e ≡ error.NoMemory) → IfErr r (IsLack u)
memory_lack u (Ok x) h = tt
memory_lack u (Err e) h = subst (λ z. IsLack u z) (sym h) tt

pub memory_named : {T : Type 0} (t : Table) (r : Result T CheckError) → IfErr r (λ e. e ≡ error.NoMemory) → IfErr r (IsNamed t)
memory_named t (Ok x) h = tt
memory_named t (Err e) h = subst (λ z. IsNamed t z) (sym h) tt

pub resolved_on : {T E : Type 0} {P : Type 0} (r : Result T E) → P → OnOk r P
resolved_on (Ok x) h = h
resolved_on (Err e) h = tt

-- ---- the static objects are noted, and then the functions that are pointed to

pub both_noted : {T E : Type 0} (texts : List (List ℕ)) (s : Raw) (a b c : Stored) (o : Outer) (r : Result T E) → whole_unit b ≡ with_statics (statics_from o.entities 0 (whole_unit a).objects) (whole_unit a)
    → OnOk r (whole_unit c ≡ with_placed (placed_from (map used_of s.used) 0 (whole_unit b).functions) (whole_unit b)) → OnOk r (whole_unit c ≡ finished_unit (unit_state texts s a o))
both_noted texts s a b c o (Ok x) h k = k ∙ ap (λ (u : WholeUnit). with_placed (placed_from (map used_of s.used) 0 u.functions) u) h
both_noted texts s a b c o (Err e) h k = tt

pub types_further : {T E : Type 0} (a b c : Stored) (r : Result T E) → b.known ≡ a.known → OnOk r (c.known ≡ b.known) → OnOk r (c.known ≡ a.known)
types_further a b c (Ok x) h k = k ∙ h
types_further a b c (Err e) h k = tt

pub grown_further : {T E : Type 0} (a b c : Stored) (r : Result T E) → Grown a b → OnOk r (Grown b c) → OnOk r (Grown a c)
grown_further a b c (Ok x) h k = grown_trans a b c h k
grown_further a b c (Err e) h k = tt
