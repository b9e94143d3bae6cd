-- Order and subtraction (6.5.8p5, 6.5.6p9): both names settle to what they have in common. In a settled run each name has one candidate.
use Rattle.std.proofs.Common.{◌≡◌, ℕ, zero, suc, ◌-◌, ◌≤◌, Bool, true, false, not, ◌&&◌, ◌||◌, cond, eqb, List, [], ◌∷◌, length, set, Option, Some, None, Ok, refl, sym, ap, ◌∙◌, subst, ◌⊎◌, inl, inr, ⊎_elim, arith, true≢false}
use Rattle.std.specs.List.{slice_get}
use Rattle.std.proofs.lemmas.Bool.Decides.{nat_tests}
use Rattle.std.proofs.lemmas.Option.{none-some, same_Some}
use Rattle.pv_prov.specs.declared.pairs.Twin.{Twin}
use Rattle.pv_prov.specs.declared.names.Stands.{Stands}
use Rattle.pv_prov.specs.declared.names.Prov.{Prov}
use Rattle.pv_prov.specs.declared.names.Prov.TheVariants.{Empty, Inst, Pair}
use Rattle.pv_prov.specs.Names.{stands, stands_of, twin_at, is_empty, same_name}
use Rattle.pv_prov.specs.NameParts.{keeping}
use Rattle.pv_inst.specs.declared.values.Instance.{Instance}
use Rattle.pv_inst.specs.declared.values.Test.TheVariants.{Live}
use Rattle.pv_inst.specs.declared.values.Miss.{Miss}
use Rattle.pv_inst.specs.declared.values.Miss.TheVariants.{Empty as NoName, Ended, Apart, Undecided}
use Rattle.pv_inst.specs.Table.{Table, IsMadeIn}
use Rattle.pv_inst.specs.Use.{survives, any_survives, after_use}
use Rattle.pv_inst.specs.TwoPointers.{is_number, in_common, tried_beside, miss_of_two}
use Rattle.pv_exec.proofs.Settling.Sides.{to_side, on_sides, on_table, holds, Allows, Covers, keeping_of, IsOnSide}

-- the one candidate that a name has in a settled run
pub data One : Stands → ℕ → Type 0 where
  AsLow : (x : ℕ) → One (record { low = Some x; high = None }) x
  AsHigh : (x : ℕ) → One (record { low = None; high = Some x }) x

-- one of those that it has in the late run
abbrev pub Of : Stands → ℕ → Type 0
Of s x = (s.low ≡ Some x) ⊎ (s.high ≡ Some x)

abbrev pub alive : List Instance → ℕ → Bool
alive xs x = survives true xs (Some x) Live

-- why two names with one candidate each are apart, or are not
abbrev pub verdict : Bool → Bool → Bool → Option Miss
verdict u v e = cond u (cond v (cond e None (Some Apart)) (Some Ended)) (Some Ended)

module _ (nm : Bool) where
  abbrev pub shape : (none any any' low high : Bool) → Option Miss
  shape none any any' low high = cond none (Some NoName) (cond (not any) (Some Ended) (cond (not any') (Some Ended) (cond (not (low || high)) (Some Apart) (cond ((low && high) && not nm) (Some Undecided) None))))

  low-low : (u v e : Bool) → shape false (u || false) (v || false) (u && (e || false)) false ≡ verdict u v e
  low-low true true true = refl
  low-low true true false = refl
  low-low true false e = refl
  low-low false v e = refl

  low-high : (u v e : Bool) → shape false (u || false) (false || v) (u && (false || e)) false ≡ verdict u v e
  low-high true true true = refl
  low-high true true false = refl
  low-high true false e = refl
  low-high false v e = refl

  high-low : (u v e : Bool) → shape false (false || u) (v || false) false (u && (e || false)) ≡ verdict u v e
  high-low true true true = refl
  high-low true true false = refl
  high-low true false e = refl
  high-low false v e = refl

  high-high : (u v e : Bool) → shape false (false || u) (false || v) false (u && (false || e)) ≡ verdict u v e
  high-high true true true = refl
  high-high true true false = refl
  high-high true false e = refl
  high-high false v e = refl

  -- nothing is undecided where there is no miss
  pub decided : (none any any' low high : Bool) → shape none any any' low high ≡ None → ((low && high) && not nm) ≡ false
  decided none any any' low high h = by none any any' (low || high) ((low && high) && not nm) h
    where
      by : (a b c d e : Bool) → cond a (Some NoName) (cond (not b) (Some Ended) (cond (not c) (Some Ended) (cond (not d) (Some Apart) (cond e (Some Undecided) None)))) ≡ None → e ≡ false
      by true b c d e h = absurd (none-some NoName (sym h))
      by false false c d e h = absurd (none-some Ended (sym h))
      by false true false d e h = absurd (none-some Ended (sym h))
      by false true true false e h = absurd (none-some Apart (sym h))
      by false true true true true h = absurd (none-some Undecided (sym h))
      by false true true true false h = refl

  -- where all is live and something is in common, no other miss is left
  pub open_only : (any any' low high : Bool) → any ≡ true → any' ≡ true → (low || high) ≡ true → shape false any any' low high ≡ cond ((low && high) && not nm) (Some Undecided) None
  open_only true true low high e f g = ap (λ b. cond (not b) (Some Apart) (cond ((low && high) && not nm) (Some Undecided) None)) g
  open_only true false low high e f g = absurd (true≢false (sym f))
  open_only false any' low high e f g = absurd (true≢false (sym e))

-- what two names with one candidate each come to
pub one-miss : (xs : List Instance) (p q : Prov) (s r : Stands) (x y : ℕ) → (is_empty p || is_empty q) ≡ false → One s x → One r y → miss_of_two xs p q s r ≡ verdict (alive xs x) (alive xs y) (eqb x y)
unfolding miss_of_two
one-miss xs p q s r x y e (AsLow _) (AsLow _) = ap (λ b. shape (same_name p q) b (alive xs x || false) (alive xs y || false) (alive xs x && (eqb x y || false)) false) e ∙ low-low (same_name p q) (alive xs x) (alive xs y) (eqb x y)
one-miss xs p q s r x y e (AsLow _) (AsHigh _) = ap (λ b. shape (same_name p q) b (alive xs x || false) (false || alive xs y) (alive xs x && (false || eqb x y)) false) e ∙ low-high (same_name p q) (alive xs x) (alive xs y) (eqb x y)
one-miss xs p q s r x y e (AsHigh _) (AsLow _) = ap (λ b. shape (same_name p q) b (false || alive xs x) (alive xs y || false) false (alive xs x && (eqb x y || false))) e ∙ high-low (same_name p q) (alive xs x) (alive xs y) (eqb x y)
one-miss xs p q s r x y e (AsHigh _) (AsHigh _) = ap (λ b. shape (same_name p q) b (false || alive xs x) (false || alive xs y) false (alive xs x && (false || eqb x y))) e ∙ high-high (same_name p q) (alive xs x) (alive xs y) (eqb x y)

pub one-is : (s : Stands) (x y : ℕ) → One s x → One s y → x ≡ y
one-is s x y (AsLow _) h = low-is x y h
  where
    low-is : (x y : ℕ) → One (record { low = Some x; high = None }) y → x ≡ y
    low-is x y (AsLow _) = refl
one-is s x y (AsHigh _) h = high-is x y h
  where
    high-is : (x y : ℕ) → One (record { low = None; high = Some x }) y → x ≡ y
    high-is x y (AsHigh _) = refl

-- Booleans
or-left : (a b : Bool) → a ≡ true → (a || b) ≡ true
or-left true b h = refl
or-left false b h = absurd (true≢false (sym h))

or-right : (a b : Bool) → b ≡ true → (a || b) ≡ true
or-right true b h = refl
or-right false b h = h

or-cases : (a b : Bool) → (a || b) ≡ true → (a ≡ true) ⊎ (b ≡ true)
or-cases true b h = inl refl
or-cases false b h = inr h

pub and-left : (a b : Bool) → (a && b) ≡ true → a ≡ true
and-left true b h = refl
and-left false b h = absurd (true≢false (sym h))

and-right : (a b : Bool) → (a && b) ≡ true → b ≡ true
and-right true b h = h
and-right false b h = absurd (true≢false (sym h))

and-both : (a b : Bool) → a ≡ true → b ≡ true → (a && b) ≡ true
and-both true b h g = g
and-both false b h g = absurd (true≢false (sym h))

pub itself : (x : ℕ) → eqb x x ≡ true
itself x = grind (arith, nat_tests)

-- a member, told by a number
has : Stands → ℕ → Bool
has r x = is_number r.low x || is_number r.high x

number-is : (o : Option ℕ) (x : ℕ) → is_number o x ≡ true → o ≡ Some x
number-is None x h = absurd (true≢false (sym h))
number-is (Some j) x h = let e : j ≡ x = grind (arith, nat_tests) in ap Some e

has-of : (r : Stands) (x : ℕ) → Of r x → (is_number r.low x || is_number r.high x) ≡ true
has-of r x (inl e) = or-left (is_number r.low x) (is_number r.high x) (ap (λ o. is_number o x) e ∙ itself x)
has-of r x (inr e) = or-right (is_number r.low x) (is_number r.high x) (ap (λ o. is_number o x) e ∙ itself x)

of-has : (r : Stands) (x : ℕ) → (is_number r.low x || is_number r.high x) ≡ true → Of r x
of-has r x h = ⊎_elim (λ e. inl (number-is r.low x e)) (λ e. inr (number-is r.high x e)) (or-cases (is_number r.low x) (is_number r.high x) h)

pub of-one : (r : Stands) (x : ℕ) → One r x → Of r x
of-one r x (AsLow _) = inl refl
of-one r x (AsHigh _) = inr refl

pub common-of : (xs : List Instance) (x : ℕ) (r : Stands) → alive xs x ≡ true → Of r x → in_common xs (Some x) r ≡ true
common-of xs x r a o = and-both (alive xs x) (is_number r.low x || is_number r.high x) a (has-of r x o)

pub common-alive : (xs : List Instance) (x : ℕ) (r : Stands) → in_common xs (Some x) r ≡ true → alive xs x ≡ true
common-alive xs x r h = and-left (alive xs x) (is_number r.low x || is_number r.high x) h

pub common-in : (xs : List Instance) (x : ℕ) (r : Stands) → in_common xs (Some x) r ≡ true → Of r x
common-in xs x r h = of-has r x (and-right (alive xs x) (is_number r.low x || is_number r.high x) h)

pub any-of : (xs : List Instance) (s : Stands) (x : ℕ) → alive xs x ≡ true → Of s x → any_survives true xs s Live ≡ true
any-of xs s x a (inl e) = or-left (survives true xs s.low Live) (survives true xs s.high Live) (ap (λ o. survives true xs o Live) e ∙ a)
any-of xs s x a (inr e) = or-right (survives true xs s.low Live) (survives true xs s.high Live) (ap (λ o. survives true xs o Live) e ∙ a)

pub some-common : (xs : List Instance) (s r : Stands) (x : ℕ) → alive xs x ≡ true → Of s x → Of r x → (in_common xs s.low r || in_common xs s.high r) ≡ true
some-common xs s r x a (inl e) o = or-left (in_common xs s.low r) (in_common xs s.high r) (ap (λ i. in_common xs i r) e ∙ common-of xs x r a o)
some-common xs s r x a (inr e) o = or-right (in_common xs s.low r) (in_common xs s.high r) (ap (λ i. in_common xs i r) e ∙ common-of xs x r a o)

-- two different members in common are all of at most two
pub both-common : (xs : List Instance) (s r : Stands) (x y : ℕ) → eqb x y ≡ false → Of s x → Of s y → in_common xs (Some x) r ≡ true → in_common xs (Some y) r ≡ true → (in_common xs s.low r && in_common xs s.high r) ≡ true
both-common xs s r x y n (inl e) (inr f) h g = and-both (in_common xs s.low r) (in_common xs s.high r) (ap (λ i. in_common xs i r) e ∙ h) (ap (λ i. in_common xs i r) f ∙ g)
both-common xs s r x y n (inr e) (inl f) h g = and-both (in_common xs s.low r) (in_common xs s.high r) (ap (λ i. in_common xs i r) f ∙ g) (ap (λ i. in_common xs i r) e ∙ h)
both-common xs s r x y n (inl e) (inl f) h g = let same : x ≡ y = same_Some x y (sym e ∙ f) in absurd (true≢false (sym (ap (λ z. eqb x z) (sym same) ∙ itself x) ∙ n))
both-common xs s r x y n (inr e) (inr f) h g = let same : x ≡ y = same_Some x y (sym e ∙ f) in absurd (true≢false (sym (ap (λ z. eqb x z) (sym same) ∙ itself x) ∙ n))

-- a name and its one candidate in a settled run
pub record IsCand (ds : List Bool) (T : Table) (p : Prov) (x : ℕ) : Type 0 where
  pub one : One (stands (on_sides ds T.pairs) p) x
  pub member : Of (stands T.pairs p) x
  pub allows : (other : Stands) → in_common T.instances (Some x) other ≡ true → Allows ds (after_use T p (Ok (tried_beside T p other))).pairs
  pub refuses : (other : Stands) → ((i : ℕ) → p ≡ Inst i → in_common T.instances (Some i) other ≡ true) → Allows ds (after_use T p (Ok (tried_beside T p other))).pairs → in_common T.instances (Some x) other ≡ true
  pub stays : (other : Stands) → on_table ds (after_use T p (Ok (tried_beside T p other))) ≡ on_table ds T
  pub own : (other : Stands) → in_common T.instances (Some x) other ≡ true → after_use (on_table ds T) p (Ok (tried_beside (on_table ds T) p other)) ≡ on_table ds T

-- the same of a pair
abbrev kept_by : Table → ℕ → Option Twin → Stands → List Twin
kept_by T k o other = keeping o T.pairs k (in_common T.instances (stands_of o).low other) (in_common T.instances (stands_of o).high other)

record IsPairCand (ds : List Bool) (T : Table) (k : ℕ) (o o' : Option Twin) (x : ℕ) : Type 0 where
  one : One (stands_of o') x
  member : Of (stands_of o) x
  allows : (other : Stands) → in_common T.instances (Some x) other ≡ true → Allows ds (kept_by T k o other)
  refuses : (other : Stands) → Allows ds (kept_by T k o other) → in_common T.instances (Some x) other ≡ true
  stays : (other : Stands) → on_sides ds (kept_by T k o other) ≡ on_sides ds T.pairs
  own : (other : Stands) → in_common T.instances (Some x) other ≡ true → kept_by (on_table ds T) k o' other ≡ on_sides ds T.pairs

set-same : (ts : List Twin) (k : ℕ) (t : Twin) → slice_get ts k ≡ Some t → set ts k t ≡ ts
set-same [] k t e = refl
set-same (v ∷ ts) zero t e = ap (λ x. x ∷ ts) (sym (same_Some v t e))
set-same (v ∷ ts) (suc k) t e = ap (λ xs. v ∷ xs) (set-same ts k t e)

within-some : (ts : List Twin) (i : ℕ) → suc i ≤ length ts → slice_get ts i ≡ None → ⊥
within-some [] i h e = absurd (omega (arith, h))
within-some (t ∷ ts) zero h e = none-some t (sym e)
within-some (t ∷ ts) (suc i) h e = within-some ts i (omega (arith, h)) e

covered : (ds : List Bool) (ts : List Twin) (k : ℕ) (t : Twin) → Covers ds ts → Allows ds ts → slice_get ts k ≡ Some t → IsOnSide ds ts k t
covered [] [] k t c a e = absurd (none-some t e)
covered [] (v ∷ ts) k t c a e = absurd c
covered (d ∷ ds) [] k t c a e = absurd c
covered (d ∷ ds) (v ∷ ts) zero t c a e =
    let same : v ≡ t = same_Some v t e in
    record {
      side = d;
      kept = subst (λ (x : Twin). holds d x.keeps_low x.keeps_high ≡ true) same a.0;
      there = ap (λ x. Some (to_side d x)) same;
      after = λ l h. refl;
      allows = λ l h b. (b, a.1);
      refuses = λ l h b c. absurd (true≢false (sym c.0 ∙ b));
    }
covered (d ∷ ds) (v ∷ ts) (suc k) t c a e =
    let r = covered ds ts k t c a.1 e in
    record {
      side = r.side;
      kept = r.kept;
      there = r.there;
      after = λ l h. ap (λ xs. to_side d v ∷ xs) (r.after l h);
      allows = λ l h b. (a.0, r.allows l h b);
      refuses = λ l h b c. r.refuses l h b c.1;
    }

-- what is allowed holds the side
held : (ds : List Bool) (ts : List Twin) (k : ℕ) (t : Twin) (at : IsOnSide ds ts k t) (l h : Bool) → Allows ds (set ts k (keeping_of t l h)) → holds at.side l h ≡ true
held ds ts k t at l h a = by (holds at.side l h) refl
  where
    by : (b : Bool) → holds at.side l h ≡ b → holds at.side l h ≡ true
    by true e = e
    by false e = absurd (at.refuses l h e a)

module _ (ds : List Bool) (T : Table) (k : ℕ) (w : Twin) (at : IsOnSide ds T.pairs (k - 1) w) where
  stay : (l h : Bool) → on_sides ds (set T.pairs (k - 1) (keeping_of w l h)) ≡ on_sides ds T.pairs
  stay l h = sym (at.after l h) ∙ set-same (on_sides ds T.pairs) (k - 1) (to_side at.side w) at.there

  low-cand : at.side ≡ false → (x : ℕ) × IsPairCand ds T k (Some w) (Some (to_side false w)) x
  low-cand d =
      let keeps : w.keeps_low ≡ true = ap (λ b. holds b w.keeps_low w.keeps_high) (sym d) ∙ at.kept in
      let is : cond w.keeps_low (Some w.low) None ≡ Some w.low = ap (λ b. cond b (Some w.low) None) keeps in
      let there : slice_get (on_sides ds T.pairs) (k - 1) ≡ Some (to_side false w) = at.there ∙ ap (λ b. Some (to_side b w)) d in (
        w.low,
        record {
          one = AsLow w.low;
          member = inl is;
          allows = λ other h. at.allows _ _ (ap (λ b. holds b (in_common T.instances (cond w.keeps_low (Some w.low) None) other) (in_common T.instances (cond w.keeps_high (Some w.high) None) other)) d ∙ ap (λ o. in_common T.instances o other) is ∙ h);
          refuses = λ other a. ap (λ o. in_common T.instances o other) (sym is) ∙ ap (λ b. holds b (in_common T.instances (cond w.keeps_low (Some w.low) None) other) (in_common T.instances (cond w.keeps_high (Some w.high) None) other)) (sym d) ∙ held ds T.pairs (k - 1) w at _ _ a;
          stays = λ other. stay _ _;
          own = λ other h. ap (λ b. set (on_sides ds T.pairs) (k - 1) (keeping_of w b false)) h ∙ set-same (on_sides ds T.pairs) (k - 1) (to_side false w) there;
        },
      )

  high-cand : at.side ≡ true → (x : ℕ) × IsPairCand ds T k (Some w) (Some (to_side true w)) x
  high-cand d =
      let keeps : w.keeps_high ≡ true = ap (λ b. holds b w.keeps_low w.keeps_high) (sym d) ∙ at.kept in
      let is : cond w.keeps_high (Some w.high) None ≡ Some w.high = ap (λ b. cond b (Some w.high) None) keeps in
      let there : slice_get (on_sides ds T.pairs) (k - 1) ≡ Some (to_side true w) = at.there ∙ ap (λ b. Some (to_side b w)) d in (
        w.high,
        record {
          one = AsHigh w.high;
          member = inr is;
          allows = λ other h. at.allows _ _ (ap (λ b. holds b (in_common T.instances (cond w.keeps_low (Some w.low) None) other) (in_common T.instances (cond w.keeps_high (Some w.high) None) other)) d ∙ ap (λ o. in_common T.instances o other) is ∙ h);
          refuses = λ other a. ap (λ o. in_common T.instances o other) (sym is) ∙ ap (λ b. holds b (in_common T.instances (cond w.keeps_low (Some w.low) None) other) (in_common T.instances (cond w.keeps_high (Some w.high) None) other)) (sym d) ∙ held ds T.pairs (k - 1) w at _ _ a;
          stays = λ other. stay _ _;
          own = λ other h. ap (λ b. set (on_sides ds T.pairs) (k - 1) (keeping_of w false b)) h ∙ set-same (on_sides ds T.pairs) (k - 1) (to_side true w) there;
        },
      )

  side-cand : (d : Bool) → at.side ≡ d → (x : ℕ) × IsPairCand ds T k (Some w) (Some (to_side d w)) x
  side-cand false d = low-cand d
  side-cand true d = high-cand d

pair-cand : (ds : List Bool) (T : Table) (k : ℕ) (o : Option Twin) → twin_at T.pairs k ≡ o → 1 ≤ k → k ≤ length T.pairs → Covers ds T.pairs → Allows ds T.pairs → (x : ℕ) × IsPairCand ds T k o (twin_at (on_sides ds T.pairs) k) x
pair-cand ds T k None e a b c al = absurd (within-some T.pairs (k - 1) (omega (arith, a, b)) e)
pair-cand ds T k (Some w) e a b c al =
    let at = covered ds T.pairs (k - 1) w c al e in
    subst (λ o. (x : ℕ) × IsPairCand ds T k (Some w) o x) (sym at.there) (side-cand ds T k w at at.side refl)

pub cand : (ds : List Bool) (T : Table) (p : Prov) → is_empty p ≡ false → IsMadeIn T p → Covers ds T.pairs → Allows ds T.pairs → (x : ℕ) × IsCand ds T p x
unfolding tried_beside
cand ds T Empty e m c al = absurd (true≢false e)
cand ds T (Inst i) e m c al = (
  i,
  record {
    one = AsLow i;
    member = inl refl;
    allows = λ other h. al;
    refuses = λ other h a. h i refl;
    stays = λ other. refl;
    own = λ other h. refl;
  },
)
cand ds T (Pair k) e m c al =
    let r = pair-cand ds T k (twin_at T.pairs k) refl m.0 m.1 c al in (
      r.0,
      record {
        one = r.1.one;
        member = r.1.member;
        allows = λ other h. r.1.allows other h;
        refuses = λ other h a. r.1.refuses other a;
        stays = λ other. ap (λ ts. record T { pairs = ts }) (r.1.stays other);
        own = λ other h. ap (λ ts. record T { pairs = ts }) (r.1.own other h);
      },
    )
