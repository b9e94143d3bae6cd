-- Structures and unions that are completed (C17 6.7.2.1): their members are complete, and so each has a byte, and none is too large.
use Rattle.std.proofs.Common.{◌≡◌, ℕ, ◌≤◌, ◌^◌, ◌==◌, nat_le, nat_lt, Bool, true, false, not, ◌&&◌, Option, Some, None, is_some, List, [], ◌∷◌, ◌++◌, length, refl, sym, subst, arith}
use Rattle.std.specs.Prelude.{if◌then◌else◌}
use Rattle.std.proofs.lemmas.Bool.{leb-true}
use Rattle.pv_types.specs.Formed.{AreComplete}
use Rattle.pv_types.specs.Layouts.{Layout, Entry, Named, Completed, Fills, AllFill, look, layout_in, layout_of, layouts_of, is_complete_in, tag_type}
use Rattle.pv_types.specs.LayoutParts.{or_none}
use Rattle.pv_types.specs.Ty.{Ty}
use Rattle.pv_types.proofs.Fills.{lt_true, layout_of-fills, AllFill-append}
use Rattle.pv_types.proofs.LayoutLaws.{look-last, layouts-push, AreComplete-append}
use Rattle.pv_check.specs.Derivations.{Steps, derived_type}
use Rattle.pv_check.specs.Rows.{member_of}
use Rattle.pv_check.specs.State.{After, give, env}
use Rattle.pv_typed.specs.Constants.{and_then}
use Rattle.pv_check.specs.Tags.{with_member}
use Rattle.pv_check.specs.TagParts.{is_new_member, some_members}
use Rattle.pv_well_typed.proofs.Operands.{some-same}
use Rattle.pv_well_typed.proofs.UnaryRows.{both-true}
use Rattle.pv_well_typed.proofs.DeclaredTypes.{from-some}
use Rattle.pv_well_typed.proofs.Moving.{Grows, AreLaid}

-- ---- the layouts

-- 6.7.2.3p3: at first no tag is complete
no-layouts : layouts_of [] ≡ []
unfolding layouts_of
no-layouts = refl

pub laid-none : AreLaid (layouts_of [])
laid-none = subst AreLaid (sym no-layouts) (record { filled = tt; small = λ n. omega arith })

abbrev made : List Entry → Bool → ℕ → List Named → Entry
made es u k ms = record { tag = k; layout = layout_of es k u ms }

-- 6.7.2.1p8: it has a member, and so a byte
some-fill : (es : List Entry) (u : Bool) (k : ℕ) (ms : List Named) → AllFill es → AreComplete es ms → nat_lt 0 (length ms) ≡ true → Fills (layout_of es k u ms)
some-fill es u k [] f c some = let lt = lt_true 0 0 some in absurd (omega (arith, lt))
some-fill es u k (m ∷ ms) f c some = layout_of-fills es k u m ms f c

-- 5.2.4.1p1: with one more that is small each tag is so
look-small : (most : ℕ) (es : List Entry) (e : Entry) (n : ℕ) → (or_none (look es n)).size ≤ most → e.layout.size ≤ most → (or_none (look (es ++ (e ∷ [])) n)).size ≤ most
look-small most [] e n h g = by (e.tag == n)
  where
    by : (b : Bool) → (or_none (if b then Some e.layout else None)).size ≤ most
    by true = g
    by false = h
look-small most (x ∷ es) e n h g = by (x.tag == n) (λ k. look-small most es e n k g) h
  where
    by : (b : Bool) → ((or_none (look es n)).size ≤ most → (or_none (look (es ++ (e ∷ [])) n)).size ≤ most) → (or_none (if b then Some x.layout else look es n)).size ≤ most
        → (or_none (if b then Some x.layout else look (es ++ (e ∷ [])) n)).size ≤ most
    by true rest h = h
    by false rest h = rest h

tag-layout : (es : List Entry) (u : Bool) (k : ℕ) → layout_in es (tag_type u k) ≡ or_none (look es k)
tag-layout es true k = refl
tag-layout es false k = refl

pub none-there : {A : Type 0} (o : Option A) → not (is_some o) ≡ true → o ≡ None
none-there None e = refl
none-there (Some a) e = absurd cc

made-small : (es : List Entry) (u : Bool) (k : ℕ) (ms : List Named) → look es k ≡ None → (layout_in (es ++ (made es u k ms ∷ [])) (tag_type u k)).size ≤ 2 ^ 32 → (layout_of es k u ms).size ≤ 2 ^ 32
made-small es u k ms none h =
    subst (λ (o : Option Layout). (or_none o).size ≤ 2 ^ 32) (look-last es k (layout_of es k u ms) none) (subst (λ (l : Layout). l.size ≤ 2 ^ 32) (tag-layout (es ++ (made es u k ms ∷ [])) u k) h)

-- 6.7.2.1p8: one tag more is complete, which was not; its members are complete, there are some, and the whole is small
pub laid-done : (ds : List Completed) (u : Bool) (k : ℕ) (ms : List Named) → AreLaid (layouts_of ds) → not (is_some (look (layouts_of ds) k)) ≡ true → AreComplete (layouts_of ds) ms → nat_lt 0 (length ms) ≡ true
    → nat_le (layout_in (layouts_of (ds ++ (record { tag = k; union = u; members = ms } ∷ []))) (tag_type u k)).size (2 ^ 32) ≡ true → AreLaid (layouts_of (ds ++ (record { tag = k; union = u; members = ms } ∷ [])))
laid-done ds u k ms h new complete some little =
    let es = layouts_of ds in
    let d : Completed = record { tag = k; union = u; members = ms } in
    let pushed = layouts-push ds d in
    let few = subst (λ (xs : List Entry). (layout_in xs (tag_type u k)).size ≤ 2 ^ 32) pushed (leb-true (layout_in (layouts_of (ds ++ (d ∷ []))) (tag_type u k)).size (2 ^ 32) little) in
    subst AreLaid (sym pushed) (record {
      filled = AllFill-append es (made es u k ms) h.filled (some-fill es u k ms h.filled complete some);
      small = λ n. look-small (2 ^ 32) es (made es u k ms) n (h.small n) (made-small es u k ms (none-there (look es k) new) few);
    })

-- ---- 6.7.2.1p3: members are complete

-- members, in the layouts of the state behind them
abbrev pub HasCompleteMembers : After (List Named) → Type 0
HasCompleteMembers a = AreComplete (env a.state) a.value

-- what is complete stays so
pub complete-grown : (es fs : List Entry) (ms : List Named) → Grows es fs → AreComplete es ms → AreComplete fs ms
complete-grown es fs ms g h = subst (λ (xs : List Entry). AreComplete xs ms) (sym g.1) (AreComplete-append es g.0 ms h)

complete-more : (es : List Entry) (ms : List Named) (m : Named) → AreComplete es ms → is_complete_in es m.t ≡ true → AreComplete es (ms ++ (m ∷ []))
complete-more es [] m h e = (e, tt)
complete-more es (x ∷ xs) m h e = (h.0, complete-more es xs m h.1 e)

-- one member more
pub member-complete : (k : Option (ℕ × ℕ)) (t : Ty) (ms : List Named) (a : After Steps) (m : After (List Named)) → AreComplete (env a.state) ms → member_of k t ms a ≡ Some m → HasCompleteMembers m
member-complete None t ms a m h e = absurd cc
member-complete (Some (n, line)) t ms a m h e =
    let u = from-some (derived_type false (env a.state) a.value.list t) (λ u. give (with_member a.state ms n u) a.state) m e in
    by u.0 (is_complete_in (env a.state) u.0 && is_new_member n ms) refl u.2
  where
    by : (u : Ty) (b : Bool) → (is_complete_in (env a.state) u && is_new_member n ms) ≡ b → give (if b then Some (ms ++ (record { name = n; t = u } ∷ [])) else None) a.state ≡ Some m → HasCompleteMembers m
    by u true q e =
        let complete = (both-true (is_complete_in (env a.state) u) (is_new_member n ms) q).0 in
        subst HasCompleteMembers (some-same (record { value = ms ++ (record { name = n; t = u } ∷ []); state = a.state }) m e) (complete-more (env a.state) ms (record { name = n; t = u }) h complete)
    by u false q e = absurd cc

-- 6.7.2.1p1: all members of a structure or union, of which there is one
pub some-complete : (o : Option (After (List Named))) → ((a : After (List Named)) → o ≡ Some a → HasCompleteMembers a) → (m : After (List Named)) → and_then o some_members ≡ Some m → HasCompleteMembers m × (nat_lt 0 (length m.value) ≡ true)
some-complete o h m e =
    let a = from-some o some_members m e in
    by a.0 (h a.0 a.1) (nat_lt 0 (length a.0.value)) refl a.2
  where
    by : (a : After (List Named)) → HasCompleteMembers a → (b : Bool) → nat_lt 0 (length a.value) ≡ b → (if b then Some a else None) ≡ Some m → HasCompleteMembers m × (nat_lt 0 (length m.value) ≡ true)
    by a h true q e = subst (λ (x : After (List Named)). HasCompleteMembers x × (nat_lt 0 (length x.value) ≡ true)) (some-same a m e) (h, q)
    by a h false q e = absurd cc
