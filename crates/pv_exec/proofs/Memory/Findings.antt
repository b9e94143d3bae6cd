-- Two instances that are found at an address meet there: so a pair that is made of them keeps what pairs keep (C17 6.3.2.3p5).
use Rattle.std.proofs.Common.{◌≡◌, ℕ, zero, suc, ◌+◌, ◌-◌, ◌<◌, ◌≤◌, Bool, true, false, ◌&&◌, ◌||◌, cond, eqb, ltb, List, [], ◌∷◌, length, get_or, Option, Some, None, refl, sym, ap, ◌∙◌, subst, inl, inr, ⊎_elim, arith, AllPairs, position, IsTrue}
use Rattle.std.specs.Option.{option_map}
use Rattle.std.specs.List.{slice_get}
use Rattle.std.proofs.lemmas.Bool.{cases_lt, false≢true}
use Rattle.std.proofs.lemmas.Bool.Decides.{nat_tests}
use Rattle.std.proofs.lemmas.Option.{none-some}
use Rattle.std.proofs.lemmas.List.Elements.{All-push}
use Rattle.std.proofs.lemmas.List.Quantifiers.{position-Some}
use Rattle.pv_prov.specs.declared.pairs.Twin.{Twin}
use Rattle.pv_prov.specs.Names.{nobody, with_twin}
use Rattle.pv_inst.specs.declared.values.Instance.{Instance}
use Rattle.pv_inst.specs.declared.values.Kind.TheVariants.{Heap}
use Rattle.pv_inst.specs.Table.{Table, instance_at}
use Rattle.pv_inst.specs.Finding.{reaches, begins, number_of, both_found, table_by, after_name, fitting}
use Rattle.pv_inst.specs.WellFormed.{Apart, Disjoint, Meet, AreMet}
use Rattle.pv_inst.proofs.Meetings.{met_added}
use Rattle.pv_exec.proofs.Memory.Rows.{Leads, led-itself, pairs-led, added-settle}

abbrev no_instance : Instance
no_instance = record { name = 0; k = 0; base = 0; size = 0; kind = Heap; live = false; exposed = false }

slice_here : (xs : List Instance) (k : ℕ) (d : Instance) → k < length xs → slice_get xs k ≡ Some (get_or xs k d)
slice_here [] k d h = absurd (omega arith)
slice_here (x ∷ xs) zero d h = refl
slice_here (x ∷ xs) (suc k) d h = slice_here xs k d (omega arith)

-- what a search by place found
record IsFound (p : Instance → Bool) (xs : List Instance) (i : ℕ) : Type 0 where
  place : ℕ
  number : i ≡ place + 1
  within : place < length xs
  passes : p (get_or xs place no_instance) ≡ true

found_by : (p : Instance → Bool) (xs : List Instance) (i : ℕ) (o : Option ℕ) → position p xs ≡ o → Some i ≡ option_map (λ n. n + 1) o → IsFound p xs i
found_by p xs i None e h = absurd (none-some i (sym h))
found_by p xs i (Some k) e h =
    let f = position-Some p xs k no_instance e in
    record { place = k; number = (cc); within = f.0; passes = f.1 }

at_number : (xs : List Instance) (i k : ℕ) → i ≡ k + 1 → k < length xs → instance_at xs i ≡ Some (get_or xs k no_instance)
at_number xs i k e h =
    let z : eqb i 0 ≡ false = grind (arith, nat_tests) in
    let same : i - 1 ≡ k = omega arith in
    ap (λ b. cond b None (slice_get xs (i - 1))) z ∙ ap (slice_get xs) same ∙ slice_here xs k no_instance h

and_left : (a b : Bool) → (a && b) ≡ true → a ≡ true
and_left true b h = refl
and_left false b h = absurd (false≢true h)

and_right : (a b : Bool) → (a && b) ≡ true → b ≡ true
and_right true b h = h
and_right false b h = absurd (false≢true h)

turned : (x y : Instance) → Disjoint x y → Disjoint y x
turned x y (inl h) = inr h
turned x y (inr h) = inl h

-- those found at an address meet there
found-met : (xs : List Instance) (a i j : ℕ) → AllPairs Apart xs → Some i ≡ number_of (reaches a) xs → Some j ≡ number_of (begins a) xs → AreMet xs i j
found-met xs a i j apart hi hj =
    let f = found_by (reaches a) xs i (position (reaches a) xs) refl hi in
    let g = found_by (begins a) xs j (position (begins a) xs) refl hj in
    let x = get_or xs f.place no_instance in
    let y = get_or xs g.place no_instance in
    let lx = and_left x.live _ f.passes in
    let ly = and_left y.live _ g.passes in
    let rx = and_right x.live _ f.passes in
    let ry = and_right y.live _ g.passes in
    let tests = and_right x.exposed _ rx in
    let below : x.base < a = let t = and_left (ltb x.base a) _ tests in grind (arith, nat_tests) in
    let upto : a ≤ x.base + x.size = let t = and_right (ltb x.base a) _ tests in grind (arith, nat_tests) in
    let here : y.base ≡ a = let t = and_right y.exposed _ ry in grind (arith, nat_tests) in
    let d : Disjoint x y = ⊎_elim
    (λ l. apart f.place g.place no_instance l g.within lx ly)
    (λ l. ⊎_elim
    (λ m. turned y x (apart g.place f.place no_instance m f.within ly lx))
    (λ m. absurd (let e : f.place ≡ g.place = omega arith in let same : x.base ≡ y.base = ap (λ k. (get_or xs k no_instance).base) e in omega arith))
    (cases_lt g.place f.place))
    (cases_lt f.place g.place) in
    let meet : Meet (Some x) (Some y) = (and_left x.exposed _ rx, and_left y.exposed _ ry, ⊎_elim (λ l. omega arith) (λ l. absurd (omega arith)) d) in
    let Q : Option Instance → Type 0 = λ o. Meet o (instance_at xs j) in
    let R : Option Instance → Type 0 = λ o. Meet (Some x) o in
    subst Q (sym (at_number xs i f.place f.number f.within)) (subst R (sym (at_number xs j g.place g.number g.within)) meet)

module _ {F : Type 0} where
  both-leads : (T : Table) (a : ℕ) (low high : Option ℕ) → low ≡ number_of (reaches a) T.instances → high ≡ number_of (begins a) T.instances → Leads F T (table_by T (both_found low high))
  both-leads T a None None e f = led-itself
  both-leads T a None (Some i) e f = led-itself
  both-leads T a (Some i) None e f = led-itself
  both-leads T a (Some i) (Some j) e f =
      pairs-led T.instances T.pairs (with_twin T.pairs i j) (added-settle T.pairs i j)
      (λ s. met_added T.instances T.pairs i j (found-met T.instances a i j s.apart e f) s.met)
      (λ s. All-push (λ (t : Twin). IsTrue (t.keeps_low || t.keeps_high)) T.pairs (record { low = i; high = j; keeps_low = true; keeps_high = true }) s.one refl)

  found-leads : (T : Table) (a : ℕ) (null : Bool) → Leads F T (table_by T (cond null nobody (fitting T.instances a)))
  found-leads T a true = led-itself
  found-leads T a false = both-leads T a (number_of (reaches a) T.instances) (number_of (begins a) T.instances) refl refl

  -- an integer that is converted to a pointer
  pub name-leads : (T : Table) (a : ℕ) → Leads F T (after_name T a)
  name-leads T a = found-leads T a (eqb a 0)
