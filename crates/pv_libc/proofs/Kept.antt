-- A request ends no instance.
use Rattle.std.proofs.Common.{ℕ, zero, suc, ◌+◌, ◌-◌, ◌^◌, ◌%◌, Bool, true, false, not, cond, eqb, List, [], ◌∷◌, ◌++◌, Option, Some, None, Result, Ok, Err, IsSomeAnd, IsTrue}
use Rattle.std.specs.List.{slice_get}
use Rattle.std.specs.Prelude.{nat_lt, ◌||◌}
use Rattle.pv_script.specs.declared.script.Place.{Place}
use Rattle.pv_script.specs.declared.script.Place.TheVariants.{At, Null}
use Rattle.pv_script.specs.Places.{place_of}
use Rattle.pv_inst.specs.declared.values.Instance.{Instance}
use Rattle.pv_inst.specs.declared.values.CreateError.{CreateError}
use Rattle.pv_inst.specs.Table.{Table, live_bytes, count_of}
use Rattle.pv_inst.specs.Answers.{IsLive}
use Rattle.pv_inst.specs.Placing.{Request, place, place_said, place_at, unless_overlap, first_overlap}
use Rattle.pv_inst.specs.PlacingParts.{multiple_of_16}
use Rattle.pv_object.specs.Memory.{Mem}
use Rattle.pv_object.specs.Creating.{with_new_bytes, creation}

live_before : (xs : List Instance) (y : Instance) (k : ℕ) → IsSomeAnd (slice_get xs k) (λ (x : Instance). IsTrue x.live) → IsSomeAnd (slice_get (xs ++ y ∷ []) k) (λ (x : Instance). IsTrue x.live)
live_before [] y k h = absurd h
live_before (x ∷ xs) y zero h = h
live_before (x ∷ xs) y (suc k) h = live_before xs y k h

live_numbered : (b : Bool) (o p : Option Instance) → (IsSomeAnd o (λ (x : Instance). IsTrue x.live) → IsSomeAnd p (λ (x : Instance). IsTrue x.live)) → IsSomeAnd (cond b None o) (λ (x : Instance). IsTrue x.live) → IsSomeAnd (cond b None p) (λ (x : Instance). IsTrue x.live)
live_numbered true o p f h = absurd h
live_numbered false o p f h = f h

live_added : (xs : List Instance) (y : Instance) (i : ℕ) → IsLive xs i → IsLive (xs ++ y ∷ []) i
live_added xs y i h = live_numbered (eqb i 0) (slice_get xs (i - 1)) (slice_get (xs ++ y ∷ []) (i - 1)) (live_before xs y (i - 1)) h

module _ (i : ℕ) where
  abbrev Keeps : Table → Result ℕ CreateError × Table → Type 0
  Keeps T w = IsLive T.instances i → IsLive w.1.instances i

  keeps_if : (b : Bool) (T : Table) (v w : Result ℕ CreateError × Table) → Keeps T v → Keeps T w → Keeps T (cond b v w)
  keeps_if true T v w f g = f
  keeps_if false T v w f g = g

  keeps_unless : (o : Option (ℕ × ℕ)) (T : Table) (r : Request) (k base : ℕ) (b : Bool) → Keeps T (unless_overlap o T r k base b)
  keeps_unless None T r k base b = live_added T.instances _ i
  keeps_unless (Some hit) T r k base b = λ h. h

  keeps_at : (T : Table) (r : Request) (k base : ℕ) (b : Bool) → Keeps T (place_at T r k base b)
  keeps_at T r k base b =
      keeps_if (nat_lt base 4096 || nat_lt (2 ^ 47) (base + r.size)) T _ _ (λ h. h)
      (keeps_if (not (eqb (base % r.align) 0)) T _ _ (λ h. h) (keeps_unless (first_overlap T.instances base r.size) T r k base b))

  keeps_said : (o : Option Place) (T : Table) (r : Request) (k : ℕ) → Keeps T (place_said o T r k)
  keeps_said None T r k = keeps_at T r k (multiple_of_16 T.cursor) true
  keeps_said (Some (At base)) T r k = keeps_at T r k base false
  keeps_said (Some Null) T r k = λ h. h

  keeps_place : (T : Table) (r : Request) → Keeps T (place T r)
  keeps_place T r = keeps_if (nat_lt (2 ^ 24) (live_bytes T.instances + r.size)) T _ _ (λ h. h) (keeps_said (place_of T.script r.text (count_of T r.name + 1)) T r (count_of T r.name + 1))

  keeps_made : (M : Mem) (w : Result ℕ CreateError × Table) → Keeps M.table w → IsLive M.table.instances i → IsLive (with_new_bytes M w).1.table.instances i
  keeps_made M ((Ok j), U) f h = f h
  keeps_made M ((Err e), U) f h = f h

pub created_live : (M : Mem) (r : Request) (i : ℕ) → IsLive M.table.instances i → IsLive (creation M r).1.table.instances i
created_live M r i h = keeps_made i M (place M.table r) (keeps_place i M.table r) h
