-- Where a pointer with a name leads: what is found at an address, and where a pointer may be moved (C17 6.3.2.3p5, 6.5.6p8).
use Rattle.std.proofs.Common.{◌≡◌, ℕ, ◌+◌, ◌-◌, ◌<◌, ◌≤◌, ◌^◌, Bool, true, false, ◌||◌, cond, leb, eqb, List, [], ◌∷◌, length, length-append, Option, Some, None, Ok, Err, refl, sym, ap, ◌∙◌, arith}
use Rattle.std.specs.List.{slice_get}
use Rattle.std.proofs.lemmas.Bool.{false≢true}
use Rattle.std.proofs.lemmas.Bool.Decides.{nat_tests}
use Rattle.pv_prov.specs.declared.names.Prov.{Prov}
use Rattle.pv_prov.specs.declared.names.Prov.TheVariants.{Empty, Inst, Pair}
use Rattle.pv_prov.specs.declared.names.Stands.{Stands}
use Rattle.pv_prov.specs.Names.{is_empty, nobody, one_candidate, stands}
use Rattle.pv_inst.specs.declared.values.Instance.{Instance}
use Rattle.pv_inst.specs.declared.values.Kind.TheVariants.{Heap}
use Rattle.pv_inst.specs.declared.values.Test.TheVariants.{Range}
use Rattle.pv_inst.specs.declared.values.Tried.{Tried}
use Rattle.pv_inst.specs.declared.values.Miss.{Miss}
use Rattle.pv_inst.specs.Table.{Table, instance_at, IsNumber, IsMadeIn}
use Rattle.pv_inst.specs.Use.{passes, survives, any_survives, test_answer, if_two, use_answer, holds}
use Rattle.pv_inst.specs.SameParts.{made_passes}
use Rattle.pv_inst.specs.Finding.{reaches, begins, number_of, both_found, name_by, table_by, name_at, after_name, fitting}
use Rattle.pv_inst.proofs.Rows.{IsRow}
use Rattle.pv_inst.proofs.Fitting.{and_left, and_right, reach_of}
use Rattle.pv_inst.proofs.Index.{number_row}

abbrev no_instance : Instance
no_instance = record { name = 0; k = 0; base = 0; size = 0; kind = Heap; live = false; exposed = false }

row-instance : (xs : List Instance) (i : ℕ) (x : Instance) → IsRow xs i x → instance_at xs i ≡ Some x
row-instance xs i x r =
    let some : 1 ≤ i = r.from_one in
    let z : eqb i 0 ≡ false = grind (arith, nat_tests) in
    ap (λ b. cond b None (slice_get xs (i - 1))) z ∙ r.got

begin-of : (a : ℕ) (x : Instance) → begins a x ≡ true → x.base ≡ a
begin-of a x h = let t = and_right x.exposed _ (and_right x.live _ h) in grind (arith, nat_tests)

pub no-name : true ≡ false → ⊥
no-name e = absurd cc

module _ (T : Table) (within : (i : ℕ) (x : Instance) → instance_at T.instances i ≡ Some x → x.base + x.size ≤ 2 ^ 47) where
  -- an integer that is converted to a pointer
  found-row : (p : Instance → Bool) (i : ℕ) → Some i ≡ number_of p T.instances → (x : Instance) × IsNumber T.instances i × (p x ≡ true) × (x.base + x.size ≤ 2 ^ 47)
  found-row p i e =
      let r = number_row p T.instances i no_instance (sym e) in
      let w = within i r.0 (row-instance T.instances i r.0 r.1.0) in
      (r.0, (r.1.0.from_one, omega (arith, r.1.0.from_one, r.1.0.within)), r.1.1, w)

  found-by : (a : ℕ) (low high : Option ℕ) → low ≡ number_of (reaches a) T.instances → high ≡ number_of (begins a) T.instances
      → IsMadeIn (table_by T (both_found low high)) (name_by (both_found low high) (length T.pairs)) × (is_empty (name_by (both_found low high) (length T.pairs)) ≡ false → a < 2 ^ 48)
  found-by a None None e f = (tt, λ q. absurd (no-name q))
  found-by a None (Some i) e f =
      let r = found-row (begins a) i f in
      let b = begin-of a r.0 r.2 in
      (r.1, λ q. omega (arith, r.3, b))
  found-by a (Some i) None e f =
      let r = found-row (reaches a) i e in
      let b = reach_of a r.0 r.2 in
      (r.1, λ q. omega (arith, r.3, b.1))
  found-by a (Some i) (Some j) e f =
      let r = found-row (reaches a) i e in
      let b = reach_of a r.0 r.2 in
      let l = length-append T.pairs (record { low = i; high = j; keeps_low = true; keeps_high = true } ∷ []) in
      ((omega arith, omega (arith, l)), λ q. omega (arith, r.3, b.1))

  found-if : (a : ℕ) (null : Bool) → IsMadeIn (table_by T (cond null nobody (fitting T.instances a))) (name_by (cond null nobody (fitting T.instances a)) (length T.pairs)) × (is_empty (name_by (cond null nobody (fitting T.instances a)) (length T.pairs)) ≡ false → a < 2 ^ 48)
  found-if a true = (tt, λ q. absurd (no-name q))
  found-if a false = found-by a (number_of (reaches a) T.instances) (number_of (begins a) T.instances) refl refl

  pub name-fair : (a : ℕ) → IsMadeIn (after_name T a) (name_at T a) × (is_empty (name_at T a) ≡ false → a < 2 ^ 48)
  name-fair a = found-if a (eqb a 0)

  -- a range that lies in a candidate
  passes-low : (zap : Bool) (x : Instance) (a n : ℕ) → passes zap x (Range a n) ≡ true → a + n ≤ x.base + x.size
  passes-low zap x a n e =
      let t = and_left (leb (a + n) (x.base + x.size)) (holds x.kind n) (and_right (leb x.base a) _ (and_right x.live _ e)) in
      grind (arith, nat_tests)

  made-low : (zap : Bool) (i : ℕ) (o : Option Instance) (a n : ℕ) → instance_at T.instances i ≡ o → made_passes zap o (Range a n) ≡ true → a < 2 ^ 48
  made-low zap i None a n e h = absurd (false≢true h)
  made-low zap i (Some x) a n e h =
      let l = passes-low zap x a n h in
      let w = within i x e in
      omega (arith, l, w)

  survives-low : (zap : Bool) (o : Option ℕ) (a n : ℕ) → survives zap T.instances o (Range a n) ≡ true → a < 2 ^ 48
  survives-low zap None a n h = absurd (false≢true h)
  survives-low zap (Some i) a n h = made-low zap i (instance_at T.instances i) a n refl h

  either-low : (zap : Bool) (s : Stands) (a n : ℕ) → any_survives zap T.instances s (Range a n) ≡ true → a < 2 ^ 48
  either-low zap s a n h = by (survives zap T.instances s.low (Range a n)) refl h
    where
      by : (c : Bool) → survives zap T.instances s.low (Range a n) ≡ c → (c || survives zap T.instances s.high (Range a n)) ≡ true → a < 2 ^ 48
      by true e k = survives-low zap s.low a n e
      by false e k = survives-low zap s.high a n k

  judged-low : (zap : Bool) (s : Stands) (pair : Option ℕ) (a n : ℕ) (tried : Tried) → test_answer zap T.instances s pair (Range a n) ≡ Ok tried → a < 2 ^ 48
  judged-low zap s pair a n tried h = by (any_survives zap T.instances s (Range a n)) _ _ refl h
    where
      by : (c : Bool) (x : Tried) (m : Miss) → any_survives zap T.instances s (Range a n) ≡ c → cond c (Ok x) (Err m) ≡ Ok tried → a < 2 ^ 48
      by true x m e f = either-low zap s a n e
      by false x m e f = absurd cc

  pub range-low : (p : Prov) (a n : ℕ) (tried : Tried) → use_answer T p (Range a n) ≡ Ok tried → a < 2 ^ 48
  range-low Empty a n tried h = absurd cc
  range-low (Inst i) a n tried h = judged-low T.zap (one_candidate i) None a n tried h
  range-low (Pair k) a n tried h = judged-low T.zap (stands T.pairs (Pair k)) (if_two k (stands T.pairs (Pair k))) a n tried h
