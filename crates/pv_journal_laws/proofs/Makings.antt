-- What is made of an integer's address, and a new instance: each is told, and passes.
use Rattle.std.proofs.Common.{◌≡◌, ℕ, ◌+◌, ◌<◌, ◌≤◌, ◌^◌, Bool, true, false, eqb, cond, List, [], ◌∷◌, ◌++◌, length, get_or, drop, All, AllPairs, Option, Some, None, refl, sym, ap, ◌∙◌, arith, subst}
use Rattle.std.proofs.lemmas.Bool.Decides.{Decides-eqb}
use Rattle.std.proofs.lemmas.Bool.{and_parts}
use Rattle.std.proofs.lemmas.Option.{none-some, same_Some}
use Rattle.std.proofs.lemmas.List.{length-append, length-map}
use Rattle.std.proofs.lemmas.List.Quantifiers.{position-Some}
use Rattle.std.specs.List.{position}
use Rattle.std.specs.Option.{option_and_then, option_map}
use Rattle.pv_script.specs.Words.{is_name}
use Rattle.pv_script.specs.Names.{name_at}
use Rattle.pv_journal_laws.specs.Naming.{AreDistinct}
use Rattle.pv_prov.specs.declared.pairs.Twin.{Twin}
use Rattle.pv_prov.specs.declared.names.Stands.{Stands}
use Rattle.pv_prov.specs.Names.{nobody, with_twin}
use Rattle.pv_inst.specs.declared.values.Instance.{Instance}
use Rattle.pv_inst.specs.Table.{Table, instance_at, live_bytes, count_of}
use Rattle.pv_inst.specs.Infos.{base_of}
use Rattle.pv_inst.specs.Placing.{Request, with_fresh, first_overlap}
use Rattle.pv_inst.specs.PlacingParts.{fresh}
use Rattle.pv_inst.specs.Finding.{reaches, begins, number_of, both_found, table_by, after_name, fitting}
use Rattle.pv_inst.specs.WellFormed.{HasMet, IsPlaced, Apart}
use Rattle.pv_inst.proofs.Meetings.{met_found}
use Rattle.pv_world.specs.Telling.{pairings, each_paired, event_of_making}
use Rattle.pv_world.specs.ObjectParts.{made_row}
use Rattle.pv_journal.specs.Journals.{Made, Paired}
use Rattle.pv_journal.specs.Obeying.{after_fact}
use Rattle.pv_journal_laws.proofs.Telling.{id_of, held_of, known, state_of, told_from, AreCalled}
use Rattle.pv_journal_laws.proofs.Uses.{at_table}
use Rattle.pv_journal_laws.proofs.Rows.{row_at, known_as, met_rows, make_passes, pair_passes}

-- ---- searches

-- the number of the first that passes is that of one that does
number_passes : {P : Type 0} (p : Instance → Bool) (xs : List Instance) (i : ℕ) (x : Instance) → Some i ≡ number_of p xs → instance_at xs i ≡ Some x → (p x ≡ true → P) → P
number_passes {P} p xs i x h at k = by (position p xs) refl h
  where
    by : (o : Option ℕ) → position p xs ≡ o → Some i ≡ option_map (λ n. n + 1) o → P
    by None e h = absurd (none-some i (sym h))
    by (Some n) e h =
        let f = position-Some p xs n x e in
        let number : i ≡ n + 1 = same_Some i (n + 1) h in
        let got : instance_at xs i ≡ Some (get_or xs n x) = ap (instance_at xs) number ∙ row_at xs n x f.0 in
        let same : get_or xs n x ≡ x = same_Some (get_or xs n x) x (sym got ∙ at) in
        k (subst (λ y. p y ≡ true) same f.1)

drop_whole : {X : Type 0} (xs : List X) → drop (length xs) xs ≡ []
drop_whole [] = refl
drop_whole (x ∷ xs) = drop_whole xs

drop_front : {X : Type 0} (xs ys : List X) → drop (length xs) (xs ++ ys) ≡ ys
drop_front [] ys = refl
drop_front (x ∷ xs) ys = drop_front xs ys

module _ (names : List (List ℕ)) (distinct : AreDistinct names) (turn : ℕ) (past : Bool) where
  -- nothing is made
  none_paired : (T : Table) → told_from names (at_table names turn past T) (pairings T T) ≡ Some (state_of names turn past T.instances T.pairs)
  none_paired T =
      ap (λ ts. told_from names (at_table names turn past T) (each_paired T (length T.pairs + 1) ts)) (drop_whole T.pairs)

  -- a pair is
  one_paired : (T : Table) (a i j : ℕ) → AreCalled names T → All IsPlaced T.instances → AllPairs Apart T.instances → Some i ≡ number_of (reaches a) T.instances → Some j ≡ number_of (begins a) T.instances
      → let U = record T { pairs = with_twin T.pairs i j } in
      told_from names (at_table names turn past T) (pairings T U) ≡ Some (state_of names turn past T.instances U.pairs)
  one_paired T a i j called placed apart low high =
      met_rows T.instances i j (met_found T.instances a i j placed apart low high) (λ x y xi yj meet.
      number_passes (reaches a) T.instances i x low xi (λ rx. number_passes (begins a) T.instances j y high yj (λ by.
      let xl = and_parts x.live _ rx in
      let xe = and_parts x.exposed _ xl.1 in
      let yl = and_parts y.live _ by in
      let ye = and_parts y.exposed _ yl.1 in
      let t : Twin = record { low = i; high = j; keeps_low = true; keeps_high = true } in
      let U = record T { pairs = with_twin T.pairs i j } in
      let s = at_table names turn past T in
      ap (λ ts. told_from names s (each_paired U (length T.pairs + 1) ts)) (drop_front T.pairs (t ∷ []))
      ∙ ap (λ o. option_and_then (λ u. Some u) (option_and_then (after_fact s) (option_and_then (λ l. option_map (λ h. Paired (length T.pairs + 1) (base_of o) l h) (known s.held j)) (known s.held i)))) yj
      ∙ ap (λ o. option_and_then (λ u. Some u) (option_and_then (after_fact s) (option_and_then (λ l. option_map (λ h. Paired (length T.pairs + 1) y.base l h) (known s.held j)) o))) (known_as names T.instances i x xi)
      ∙ ap (λ o. option_and_then (λ u. Some u) (option_and_then (after_fact s) (option_map (λ h. Paired (length T.pairs + 1) y.base (id_of names x) h) o))) (known_as names T.instances j y yj)
      ∙ ap (option_and_then (λ u. Some u)) (pair_passes names distinct turn past T i j x y called xi yj xl.0 yl.0 xe.0 ye.0 meet))))

  -- by the candidates that are found
  abbrev NameTells : Table → Stands → Type 0
  NameTells T s = told_from names (at_table names turn past T) (pairings T (table_by T s)) ≡ Some (state_of names turn past (table_by T s).instances (table_by T s).pairs)

  fit_tells : (T : Table) (a : ℕ) → AreCalled names T → All IsPlaced T.instances → AllPairs Apart T.instances → (o p : Option ℕ) → number_of (reaches a) T.instances ≡ o → number_of (begins a) T.instances ≡ p
      → NameTells T (both_found o p)
  fit_tells T a called placed apart None None e f = none_paired T
  fit_tells T a called placed apart None (Some j) e f = none_paired T
  fit_tells T a called placed apart (Some i) None e f = none_paired T
  fit_tells T a called placed apart (Some i) (Some j) e f = one_paired T a i j called placed apart (sym e) (sym f)

  null_tells : (T : Table) (a : ℕ) → AreCalled names T → All IsPlaced T.instances → AllPairs Apart T.instances → (b : Bool) → NameTells T (cond b nobody (fitting T.instances a))
  null_tells T a called placed apart true = none_paired T
  null_tells T a called placed apart false = fit_tells T a called placed apart (number_of (reaches a) T.instances) (number_of (begins a) T.instances) refl refl

  -- the name of an integer (6.3.2.3p5)
  pub name_tells : (T : Table) (a : ℕ) → AreCalled names T → All IsPlaced T.instances → AllPairs Apart T.instances
      → told_from names (at_table names turn past T) (pairings T (after_name T a)) ≡ Some (state_of names turn past (after_name T a).instances (after_name T a).pairs)
  name_tells T a called placed apart = null_tells T a called placed apart (eqb a 0)

  -- a new instance
  pub make_tells : (T : Table) (r : Request) (k base : ℕ) (default : Bool) → AreCalled names T → All (HasMet T.instances) T.pairs → r.name < length names → is_name (name_at names r.name) ≡ true
      → k ≡ count_of T r.name + 1 → k < 2 ^ 64 → 1 ≤ r.size → 4096 ≤ base → base + r.size ≤ 2 ^ 47 → first_overlap T.instances base r.size ≡ None → live_bytes T.instances + r.size ≤ 2 ^ 24
      → let U = with_fresh T r k base default in
      told_from names (at_table names turn past T) (event_of_making U (length T.instances + 1)) ≡ Some (state_of names turn past U.instances U.pairs)
  make_tells T r k base default called met named valid next few some low high free room =
      let U = with_fresh T r k base default in
      let x = fresh r k base in
      let last : length T.instances < length (T.instances ++ x ∷ []) = (let l = length-append T.instances (x ∷ []) in omega (arith, l)) in
      let got : instance_at U.instances (length T.instances + 1) ≡ Some x = row_at U.instances (length T.instances) x last ∙ ap Some (end_is T.instances x) in
      let s = at_table names turn past T in
      let next_one : eqb (length T.instances + 1) (length s.held + 1) ≡ true = (Decides-eqb (length T.instances + 1) (length s.held + 1)).1 (ap (λ n. n + 1) (sym (length-map T.instances (held_of names)))) in
      ap (λ o. told_from names s (made_row (length T.instances + 1) o)) got
      ∙ ap (λ b. option_and_then (λ u. Some u) (option_and_then (after_fact s) (cond b (Some (Made (id_of names x) base r.size)) None))) next_one
      ∙ ap (option_and_then (λ u. Some u)) (make_passes names distinct turn past T x called met refl refl named valid (omega (arith, next)) (omega (arith, next)) few some low high free room)
    where
      end_is : {X : Type 0} (xs : List X) (x : X) → get_or (xs ++ x ∷ []) (length xs) x ≡ x
      end_is [] x = refl
      end_is (y ∷ ys) x = end_is ys x
