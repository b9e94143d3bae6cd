-- Reads and writes through a type, by their guards.
use Rattle.std.proofs.Common.{◌≡◌, ℕ, ◌≤◌, Bool, true, false, List, ◌∷◌, length, refl, sym, ap, ◌∙◌, subst, arith}
use Rattle.std.specs.Prelude.{◌&&◌, nat_le, Result, Ok, Err, IfOk, OnOk}
use Rattle.std.proofs.lemmas.Bool.{le-leb}
use Rattle.pv_types.specs.Ty.{Ty}
use Rattle.pv_types.specs.Known.{tree, env}
use Rattle.pv_types.specs.Layouts.{is_complete_in, layout_in}
use Rattle.pv_types.specs.Sorts.{bare_type}
use Rattle.pv_layout.proofs.Ahead.{bare_complete}
use Rattle.pv_typed.specs.TypedUnits.{WholeUnit, layouts}
use Rattle.pv_typed.specs.Tables.{Stored, whole_unit}
use Rattle.pv_seq.specs.Sequencing.{Access, Open, with_access}
use Rattle.pv_seq.specs.SequencingParts.{access_of}
use Rattle.pv_seq.specs.Rivals.{top, below}
use Rattle.pv_object.specs.declared.values.Pointer.{Pointer}
use Rattle.pv_world.specs.declared.got.Got.{Got}
use Rattle.pv_world.specs.declared.got.Failure.{Failure as WorldFailure}
use Rattle.pv_world.specs.declared.got.Shape.{Shape}
use Rattle.pv_world.specs.declared.got.Shape.TheVariants as shape
use Rattle.pv_world.specs.Worlds.{Worth, Nothing, Missing, Scalar, Whole, World}
use Rattle.pv_world.specs.Worths.{on_present_value}
use Rattle.pv_world.specs.Doing.{Done}
use Rattle.pv_world.specs.Preconditions.{IsStored}
use Rattle.pv_eval.specs.declared.failure.Failure.{Failure}
use Rattle.pv_eval.specs.declared.types.Complete.{Complete}
use Rattle.pv_eval.specs.States.{Setting}
use Rattle.pv_world.specs.Suiting.{is_size}
use Rattle.pv_eval.specs.TypeForms.{lvalue, size_of}
use Rattle.pv_eval.specs.Sizes.{setting_of, size_in, IsComplete}
use Rattle.pv_eval.specs.Accesses.{access_to}
use Rattle.pv_eval.specs.Moments.{Moment, IsSetting, Noted}
use Rattle.pv_world.proofs.Guards.{both_of}

-- the guard of an lvalue's type
abbrev pub fits_lvalue : Stored → Ty → Bool
fits_lvalue u t = is_complete_in (layouts (whole_unit u)) (bare_type t) && (nat_le 1 (size_of (setting_of u) t) && is_size (size_of (setting_of u) t))

pub lvalue_fits : (u : Stored) (l : Complete) → IsComplete u.known l → fits_lvalue u (tree u.known l.t.0) ≡ true
lvalue_fits u l h =
    let t = tree u.known l.t.0 in
    let n = size_in u.known t in
    let some : 1 ≤ n = omega (arith, h.some, h.size) in
    both_of (is_complete_in (layouts (whole_unit u)) (bare_type t)) (nat_le 1 n && is_size n)
    (bare_complete (env u.known) t ∙ h.complete) (both_of (nat_le 1 n) (is_size n) (le-leb 1 n some) (le-leb n 4294967296 h.small))

pub lvalue_unfit : (u : Stored) (t : Ty) → false ≡ (is_complete_in (env u.known) t && is_size (size_in u.known t)) → fits_lvalue u t ≡ false
lvalue_unfit u t h =
    let n = size_in u.known t in
    ap (λ c. c && (nat_le 1 n && is_size n)) (bare_complete (env u.known) t) ∙ neither (is_complete_in (env u.known) t) (nat_le 1 n) (is_size n) h
  where
    neither : (a b c : Bool) → false ≡ (a && c) → (a && (b && c)) ≡ false
    neither false b c e = refl
    neither true false c e = refl
    neither true true c e = sym e

pub left_false : (a b : Bool) → a ≡ false → (a && b) ≡ false
left_false a b e = ap (λ x. x && b) e

pub right_false : (a b : Bool) → b ≡ false → (a && b) ≡ false
right_false true b e = e
right_false false b e = refl

-- a value that is stored is there
pub stored_present : (s : Shape) (n : ℕ) (v : Worth) (w : World) (go : Worth → Done) → IsStored s n v → on_present_value v w go ≡ go v
stored_present s n (Scalar v) w go h = refl
stored_present s n (Whole bytes origin) w go h = refl
stored_present s n Nothing w go h = refl
stored_present (shape.Int k) n Missing w go h = absurd h
stored_present shape.Pointer n Missing w go h = absurd h
stored_present shape.Whole n Missing w go h = absurd h

-- the access that was noted, once its operation is closed
module _ (x : Access) (answer : Result Got WorldFailure) (old new : List Open) where
  abbrev IsNoted : Type 0
  IsNoted = new ≡ with_access x (top old) ∷ below old

  pub noted_closed : (a : Setting → Access) (u : Stored) (m : Moment) (result : Result Got Failure) → IfOk result (λ g. answer ≡ Ok g) → OnOk answer IsNoted → ((b : Setting) → IsSetting b u m → x ≡ a b)
      → Noted a result old new u m
  noted_closed a u m (Ok g) same h k = λ b hs. subst (λ r. OnOk r IsNoted) same h ∙ ap (λ y. with_access y (top old) ∷ below old) (k b hs)
  noted_closed a u m (Err e) same h k = tt

  pub below_closed : (result : Result Got Failure) → IfOk result (λ g. answer ≡ Ok g) → OnOk answer IsNoted → IfOk result (λ v. below new ≡ below old)
  below_closed (Ok g) same h = ap below (subst (λ r. OnOk r IsNoted) same h)
  below_closed (Err e) same h = tt

  pub some_closed : (result : Result Got Failure) → IfOk result (λ g. answer ≡ Ok g) → OnOk answer IsNoted → IfOk result (λ v. 1 ≤ length new)
  some_closed (Ok g) same h =
      let is : new ≡ with_access x (top old) ∷ below old = subst (λ r. OnOk r IsNoted) same h in
      subst (λ (js : List Open). 1 ≤ length js) (sym is) (omega arith)
  some_closed (Err e) same h = tt

-- an access by the tables of the unit is that in its setting
pub access_is : (b : Setting) (u : Stored) (t v : Ty) (p : Pointer) (writes : Bool) → b.unit ≡ whole_unit u → t ≡ v → access_to (lvalue (setting_of u) t) p writes ≡ access_to (lvalue b v) p writes
access_is b u t v p writes unit e =
    ap (λ (z : Ty). access_to (lvalue (setting_of u) z) p writes) e
    ∙ ap (λ (w : WholeUnit). access_of p.address (layout_in (layouts w) v).size writes) (sym unit)
