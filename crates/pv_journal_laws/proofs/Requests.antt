-- What a request for an instance tells (C17 6.2.4p2, 7.22.3p1): the new instance, or nothing where it is refused.
use Rattle.std.proofs.Common.{◌≡◌, ℕ, ◌+◌, ◌<◌, ◌≤◌, ◌^◌, ◌%◌, Bool, true, false, ◌||◌, not, cond, eqb, ltb, List, [], ◌∷◌, ◌++◌, codes, length, Option, Some, None, Result, Ok, Err, refl, ◌∙◌, arith, subst}
use Rattle.std.proofs.lemmas.Bool.{ltb-false}
use Rattle.std.proofs.lemmas.Bool.Decides.{nat_tests}
use Rattle.pv_script.specs.Words.{is_name}
use Rattle.pv_script.specs.Names.{name_at}
use Rattle.pv_journal_laws.specs.Naming.{AreDistinct}
use Rattle.pv_script.specs.declared.script.Place.{Place}
use Rattle.pv_script.specs.declared.script.Place.TheVariants.{At, Null}
use Rattle.pv_script.specs.Places.{place_of}
use Rattle.pv_inst.specs.declared.values.CreateError.{CreateError}
use Rattle.pv_inst.specs.declared.values.CreateError.TheVariants.{Range, Misaligned, Denied, Storage}
use Rattle.pv_inst.specs.Table.{Table, instance_at, live_bytes, count_of}
use Rattle.pv_inst.specs.Use.{is_heap}
use Rattle.pv_inst.specs.Placing.{Request, place, place_said, place_at, unless_overlap, with_fresh, with_number_used, first_overlap}
use Rattle.pv_inst.specs.PlacingParts.{multiple_of_16, fresh}
use Rattle.pv_object.specs.Memory.{Mem}
use Rattle.pv_object.specs.Creating.{creation, with_new_bytes as made_in}
use Rattle.pv_object.proofs.Born.{slice_last, at_next}
use Rattle.pv_watch.specs.declared.event.What.{What}
use Rattle.pv_exec.proofs.Memory.Rows.{push-led, led-itself}
use Rattle.pv_world.specs.ObjectParts.{made_row}
use Rattle.pv_world.specs.Telling.{event_of_making}
use Rattle.pv_journal_laws.proofs.Makings.{make_tells}
use Rattle.pv_journal_laws.proofs.Calling.{called_more, called_push}
use Rattle.pv_journal_laws.proofs.Changes.{AreFew, Tells, tells-itself}

-- a request under a name that instances may have, for a byte at least
pub record IsAsked (names : List (List ℕ)) (r : Request) : Type 0 where
  pub named : r.name < length names
  pub valid : is_name (name_at names r.name) ≡ true
  pub heap : is_heap r.kind ≡ true → name_at names r.name ≡ codes "@heap"
  pub some : 1 ≤ r.size

-- what is told of an answer
abbrev pub answer_told : Result ℕ CreateError → Table → List What
answer_told (Ok i) U = event_of_making U i
answer_told (Err e) U = []

-- within the addresses
bounds : (base size : ℕ) → (ltb base 4096 || ltb (2 ^ 47) (base + size)) ≡ false → (4096 ≤ base) × (base + size ≤ 2 ^ 47)
bounds base size e = grind (arith, nat_tests)

module _ (names : List (List ℕ)) (distinct : AreDistinct names) (turn : ℕ) where
  abbrev pub Places : Table → Result ℕ CreateError × Table → Type 0
  Places T w = Tells names turn T (answer_told w.0 w.1) w.1

  few_made : (T : Table) (r : Request) (k base : ℕ) (default : Bool) → AreFew (event_of_making (with_fresh T r k base default) (length T.instances + 1)) → k < 2 ^ 64
  few_made T r k base default f =
      let x = fresh r k base in
      let got : instance_at (T.instances ++ x ∷ []) (length T.instances + 1) ≡ Some x = at_next T.instances (T.instances ++ x ∷ []) (length T.instances) refl ∙ slice_last T.instances x in
      (subst (λ o. AreFew (made_row (length T.instances + 1) o)) got f).0

  overlap-places : (T : Table) (r : Request) (k base : ℕ) (default : Bool) (o : Option (ℕ × ℕ)) → first_overlap T.instances base r.size ≡ o → (ltb base 4096 || ltb (2 ^ 47) (base + r.size)) ≡ false
      → live_bytes T.instances + r.size ≤ 2 ^ 24 → k ≡ count_of T r.name + 1 → IsAsked names r → Places T (unless_overlap o T r k base default)
  overlap-places T r k base default (Some hit) e b few next asked = tells-itself
  overlap-places T r k base default None e b few next asked =
      let within = bounds base r.size b in
      record {
        led = push-led T.instances T.pairs (fresh r k base) refl (record { some = λ u. asked.some; from = within.0; upto = within.1 }) few e;
        zap = refl;
        pending = refl;
        called = λ c. called_push names T.instances T.counts (fresh r k base) asked.named asked.valid next asked.heap c;
        told = λ s f. make_tells names distinct turn false T r k base default s.called s.sound.met asked.named asked.valid next (few_made T r k base default f) asked.some within.0 within.1 e few;
      }

  at-places : (T : Table) (r : Request) (k base : ℕ) (default : Bool) → live_bytes T.instances + r.size ≤ 2 ^ 24 → k ≡ count_of T r.name + 1 → IsAsked names r → Places T (place_at T r k base default)
  at-places T r k base default few next asked = by (ltb base 4096 || ltb (2 ^ 47) (base + r.size)) (eqb (base % r.align) 0) refl
    where
      by : (b c : Bool) → (ltb base 4096 || ltb (2 ^ 47) (base + r.size)) ≡ b
          → Places T (cond b (Err (Range k base), T) (cond (not c) (Err (Misaligned k base), T) (unless_overlap (first_overlap T.instances base r.size) T r k base default)))
      by true c e = tells-itself
      by false false e = tells-itself
      by false true e = overlap-places T r k base default (first_overlap T.instances base r.size) refl e few next asked

  -- a request that is denied counts
  counted-tells : (T : Table) (name : ℕ) → Tells names turn T [] (with_number_used T name)
  counted-tells T name = record {
    led = led-itself;
    zap = refl;
    pending = refl;
    called = λ c. called_more names T.instances T.counts name (count_of T name + 1) (omega arith) c;
    told = λ s f. refl;
  }

  said-places : (T : Table) (r : Request) (k : ℕ) (o : Option Place) → live_bytes T.instances + r.size ≤ 2 ^ 24 → k ≡ count_of T r.name + 1 → IsAsked names r → Places T (place_said o T r k)
  said-places T r k None few next asked = at-places T r k (multiple_of_16 T.cursor) true few next asked
  said-places T r k (Some (At base)) few next asked = at-places T r k base false few next asked
  said-places T r k (Some Null) few next asked = counted-tells T r.name

  places-if : (T : Table) (b : Bool) (w v : Result ℕ CreateError × Table) → Places T w → (b ≡ false → Places T v) → Places T (cond b w v)
  places-if T true w v h g = h
  places-if T false w v h g = g refl

  pub place-tells : (T : Table) (r : Request) → IsAsked names r → Places T (place T r)
  place-tells T r asked =
      let k = count_of T r.name + 1 in
      places-if T (ltb (2 ^ 24) (live_bytes T.instances + r.size)) (Err (cond (is_heap r.kind) Denied (Storage (live_bytes T.instances) r.size)), with_number_used T r.name) (place_said (place_of T.script r.text k) T r k)
      (counted-tells T r.name)
      (λ e. said-places T r k (place_of T.script r.text k) (ltb-false (2 ^ 24) (live_bytes T.instances + r.size) e) refl asked)

  -- the same with the bytes of the instance
  abbrev pub Creates : Mem → Result ℕ CreateError × Mem → Type 0
  Creates M w = Tells names turn M.table (answer_told w.0 w.1.table) w.1.table

  made-creates : (M : Mem) (w : Result ℕ CreateError × Table) → Places M.table w → Creates M (made_in M w)
  made-creates M ((Ok i), U) h = h
  made-creates M ((Err e), U) h = h

  pub created-tells : (M : Mem) (r : Request) → IsAsked names r → Creates M (creation M r)
  created-tells M r asked = made-creates M (place M.table r) (place-tells M.table r asked)
