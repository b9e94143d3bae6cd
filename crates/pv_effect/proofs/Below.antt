-- What is below an array, a structure or a union, as a search for a byte goes through it.
use Rattle.std.proofs.Common.{◌≡◌, ℕ, suc, ◌+◌, ◌-◌, ◌/◌, ◌%◌, ◌<◌, ◌≤◌, ◌^◌, Bool, false, IsTrue, List, [], ◌∷◌, Some, None, length, drop, drop-cons, get_or, add-one, refl, sym, ◌∙◌, ap, subst, arith, is_some}
use Rattle.std.proofs.Math.ListN.{drop_of_length-le}
use Rattle.std.specs.Int.{next_multiple_of}
use Rattle.pv_types.specs.declared.terms.Member.{Member}
use Rattle.pv_types.specs.Ty.{Ty}
use Rattle.pv_types.specs.Layouts.{Entry, Named, look, layout_in, is_complete_in, parts_of_elements, shifted_parts}
use Rattle.pv_types.specs.LayoutParts.{part_count, struct_parts, or_none}
use Rattle.pv_types.specs.Known.{Known, tree, trees, env, named_in}
use Rattle.pv_types.specs.Formed.{named_members, members_in, is_union_in, IsBuilt}
use Rattle.pv_types.specs.declared.terms.TypeId.{TypeId}
use Rattle.pv_types.specs.Places.{struct_places, holder}
use Rattle.pv_types.proofs.Peeling.{positive_size}
use Rattle.pv_types.proofs.Walks.{begin_of, stop_of, walk_hit, walk_miss}
use Rattle.pv_layout.proofs.Ahead.{Ahead, ahead_start, ahead_next, next_at}
use Rattle.pv_layout.proofs.PartLaws.{lt_test, ge_test}
use Rattle.pv_effect.specs.EffectiveType.{some_over}
use Rattle.pv_effect.proofs.Over.{AreInside, or_none as or_false, some_over-append, some_over-shifted, some_over-before, some_over-past, over_repeated}
use Rattle.pv_effect.proofs.Inside.{inside}

-- an array: the element that holds the byte
pub element_hit : (m : Known) (e n s o : ℕ) (f : ℕ → Ty → Bool) → IsBuilt m → IsTrue (is_complete_in (env m) (tree m e)) → s ≡ (layout_in (env m) (tree m e)).size → o / s < n
    → some_over (env m) f (o % s) (layout_in (env m) (tree m e)).parts ≡ some_over (env m) f o (parts_of_elements n (layout_in (env m) (tree m e)).size (layout_in (env m) (tree m e)).parts)
element_hit m e n s o f built complete same lt =
    let within : o / (layout_in (env m) (tree m e)).size < n = rw (← same) lt in
    sym (over_repeated (env m) f (layout_in (env m) (tree m e)).size o (layout_in (env m) (tree m e)).parts n (positive_size m e built complete) (inside m (tree m e) built complete)
    ∙ rw (lt_test (o / (layout_in (env m) (tree m e)).size) n within, same) refl)

pub element_miss : (m : Known) (e n s o : ℕ) (f : ℕ → Ty → Bool) → IsBuilt m → IsTrue (is_complete_in (env m) (tree m e)) → s ≡ (layout_in (env m) (tree m e)).size → n ≤ o / s
    → false ≡ some_over (env m) f o (parts_of_elements n (layout_in (env m) (tree m e)).size (layout_in (env m) (tree m e)).parts)
element_miss m e n s o f built complete same ge =
    let outside : n ≤ o / (layout_in (env m) (tree m e)).size = rw (← same) ge in
    sym (over_repeated (env m) f (layout_in (env m) (tree m e)).size o (layout_in (env m) (tree m e)).parts n (positive_size m e built complete) (inside m (tree m e) built complete)
    ∙ rw (ge_test (o / (layout_in (env m) (tree m e)).size) n outside) refl)

-- members that begin at p or later cover nothing before it
nothing_before : (env : List Entry) (ms : List Named) (p o : ℕ) (f : ℕ → Ty → Bool) → o < p → some_over env f o (struct_parts env ms p) ≡ false
nothing_before env [] p o f lt = refl
nothing_before env (x ∷ ms) p o f lt =
    some_over-append env f o (shifted_parts (next_multiple_of p (layout_in env x.t).align) (layout_in env x.t).parts) _
    ∙ rw (
      some_over-before env f (next_multiple_of p (layout_in env x.t).align) o (layout_in env x.t).parts (omega (arith, lt)),
      nothing_before env ms (next_multiple_of p (layout_in env x.t).align + (layout_in env x.t).size) o f (omega (arith, lt)),
    ) refl

-- the next member holds the byte
member_hit : (env : List Entry) (x : Named) (ms : List Named) (p o : ℕ) (f : ℕ → Ty → Bool) → next_multiple_of p (layout_in env x.t).align ≤ o → o < next_multiple_of p (layout_in env x.t).align + (layout_in env x.t).size
    → some_over env f o (struct_parts env (x ∷ ms) p) ≡ some_over env f (o - next_multiple_of p (layout_in env x.t).align) (layout_in env x.t).parts
member_hit env x ms p o f ge lt =
    some_over-append env f o (shifted_parts (next_multiple_of p (layout_in env x.t).align) (layout_in env x.t).parts) _
    ∙ rw (
      some_over-shifted env f (next_multiple_of p (layout_in env x.t).align) o (layout_in env x.t).parts ge,
      nothing_before env ms (next_multiple_of p (layout_in env x.t).align + (layout_in env x.t).size) o f lt,
    ) (or_false _)

-- the next member ends before the byte
member_past : (env : List Entry) (x : Named) (ms : List Named) (p o : ℕ) (f : ℕ → Ty → Bool) → AreInside env (layout_in env x.t).size (layout_in env x.t).parts → next_multiple_of p (layout_in env x.t).align + (layout_in env x.t).size ≤ o
    → some_over env f o (struct_parts env (x ∷ ms) p) ≡ some_over env f o (struct_parts env ms (next_multiple_of p (layout_in env x.t).align + (layout_in env x.t).size))
member_past env x ms p o f within ge =
    some_over-append env f o (shifted_parts (next_multiple_of p (layout_in env x.t).align) (layout_in env x.t).parts) _
    ∙ rw (
      some_over-shifted env f (next_multiple_of p (layout_in env x.t).align) o (layout_in env x.t).parts (omega (arith, ge)),
      some_over-past env f (layout_in env x.t).size (o - next_multiple_of p (layout_in env x.t).align) (layout_in env x.t).parts within (omega (arith, ge)),
    ) refl

-- the next member begins behind the byte
member_before : (env : List Entry) (x : Named) (ms : List Named) (p o : ℕ) (f : ℕ → Ty → Bool) → o < next_multiple_of p (layout_in env x.t).align → some_over env f o (struct_parts env (x ∷ ms) p) ≡ false
member_before env x ms p o f lt =
    some_over-append env f o (shifted_parts (next_multiple_of p (layout_in env x.t).align) (layout_in env x.t).parts) _
    ∙ rw (
      some_over-before env f (next_multiple_of p (layout_in env x.t).align) o (layout_in env x.t).parts lt,
      nothing_before env ms (next_multiple_of p (layout_in env x.t).align + (layout_in env x.t).size) o f (omega (arith, lt)),
    ) refl

-- what covers the byte in the whole structure is in the members ahead
pub record Held (m : Known) (tag p o : ℕ) (ms : List Member) : Type 0 where
  pub ahead : Ahead m tag p ms
  pub rest : (f : ℕ → Ty → Bool) → some_over (env m) f o (struct_parts (env m) (named_members m tag) 0) ≡ some_over (env m) f o (struct_parts (env m) (named_in (trees m) ms) p)

pub held_start : (m : Known) (tag o : ℕ) → IsBuilt m → IsTrue (is_some (look (env m) tag)) → is_union_in m.done tag ≡ false → (or_none (look (env m) tag)).size ≤ 2 ^ 32 → Held m tag 0 o (members_in m.done tag)
held_start m tag o built there flag size = record { ahead = ahead_start m tag built there flag size; rest = λ f. refl }

front : (m : Known) (tag p o i : ℕ) (items : List Member) (d : Member) → i < length items → Held m tag p o (drop i items) → Held m tag p o (get_or items i d ∷ drop (suc i) items)
front m tag p o i items d lt h = subst (λ (ms : List Member). Held m tag p o ms) (drop-cons items i d lt) h

module _ (m : Known) (tag p o i start end : ℕ) (items : List Member) (d : Member) (lt : i < length items) (h : Held m tag p o (drop i items))
    (begins : start ≡ next_multiple_of p (layout_in (env m) (tree m (get_or items i d).t.0)).align) where
  abbrev here : Named
  here = record { name = (get_or items i d).name; t = tree m (get_or items i d).t.0 }

  abbrev size : ℕ
  size = (layout_in (env m) (tree m (get_or items i d).t.0)).size

  pub held_before : o < start → (f : ℕ → Ty → Bool) → false ≡ some_over (env m) f o (struct_parts (env m) (named_members m tag) 0)
  held_before below f =
      let there = front m tag p o i items d lt h in
      sym (there.rest f ∙ member_before (env m) here (named_in (trees m) (drop (suc i) items)) p o f (rw (← begins) below))

  pub held_in : end ≡ start + size → start ≤ o → o < end → (f : ℕ → Ty → Bool) → some_over (env m) f (o - start) (layout_in (env m) (tree m (get_or items i d).t.0)).parts ≡ some_over (env m) f o (struct_parts (env m) (named_members m tag) 0)
  held_in ends ge below f =
      let there = front m tag p o i items d lt h in
      let stops : end ≡ next_multiple_of p (layout_in (env m) (tree m (get_or items i d).t.0)).align + size = ends ∙ ap (λ k. k + size) begins in
      sym (there.rest f ∙ member_hit (env m) here (named_in (trees m) (drop (suc i) items)) p o f (rw (← begins) ge) (rw (← stops) below)
      ∙ ap (λ k. some_over (env m) f (o - k) (layout_in (env m) (tree m (get_or items i d).t.0)).parts) (sym begins))

  pub held_next : end ≡ start + size → end ≤ o → Held m tag end o (drop (i + 1) items)
  held_next ends ge =
      let there = front m tag p o i items d lt h in
      let stops : end ≡ next_multiple_of p (layout_in (env m) (tree m (get_or items i d).t.0)).align + size = ends ∙ ap (λ k. k + size) begins in
      let next = next_at m tag p i items d lt h.ahead in
      record {
        ahead = ahead_next m tag p end i items d lt h.ahead stops;
        rest = λ f. there.rest f ∙ member_past (env m) here (named_in (trees m) (drop (suc i) items)) p o f (inside m here.t h.ahead.built next.complete) (rw (← stops) ge)
            ∙ rw (add-one, stops) refl;
      }

-- no member is left
pub held_none : (m : Known) (tag p o i : ℕ) (items : List Member) → length items ≤ i → Held m tag p o (drop i items) → (f : ℕ → Ty → Bool) → false ≡ some_over (env m) f o (struct_parts (env m) (named_members m tag) 0)
held_none m tag p o i items ge h f =
    let empty : Held m tag p o [] = subst (λ (ms : List Member). Held m tag p o ms) (drop_of_length-le items ge) h in
    sym (empty.rest f)

-- what the search goes on in, where a member of a structure holds the byte
pub record Landed (m : Known) (tag o start : ℕ) (t : TypeId) : Type 0 where
  pub begins : start ≤ o
  pub known : t.0 < length m.terms
  pub complete : IsTrue (is_complete_in (env m) (tree m t.0))
  pub small : (layout_in (env m) (tree m t.0)).size ≤ 2 ^ 32
  pub lower : part_count (layout_in (env m) (tree m t.0)) < part_count (or_none (look (env m) tag))
  pub same : (f : ℕ → Ty → Bool) → some_over (env m) f (o - start) (layout_in (env m) (tree m t.0)).parts ≡ some_over (env m) f o (struct_parts (env m) (named_members m tag) 0)

module _ (m : Known) (tag o : ℕ) (built : IsBuilt m) (there : IsTrue (is_some (look (env m) tag))) (flag : is_union_in m.done tag ≡ false) (size : (or_none (look (env m) tag)).size ≤ 2 ^ 32) where
  abbrev HeldAt : ℕ → List Member → Type 0
  HeldAt p ms = Held m tag p o ms

  next : (p : ℕ) (x : Member) (ms : List Member) → HeldAt p (x ∷ ms) → stop_of m p x ≤ o → HeldAt (stop_of m p x) ms
  next p x ms h ge = held_next m tag p o 0 (begin_of m p x) (stop_of m p x) (x ∷ ms) x (omega arith) h refl refl ge

  landed : (p : ℕ) (x : Member) (ms : List Member) → HeldAt p (x ∷ ms) → begin_of m p x ≤ o → o < stop_of m p x → Landed m tag o (begin_of m p x) x.t
  landed p x ms h ge lt =
      let n = next_at m tag p 0 (x ∷ ms) x (omega arith) h.ahead in
      let small = n.small in
      record {
        begins = ge;
        known = n.known;
        complete = n.complete;
        small = omega (arith, small);
        lower = n.lower;
        same = held_in m tag p o 0 (begin_of m p x) (stop_of m p x) (x ∷ ms) x (omega arith) h refl refl ge lt;
      }

  pub held_some : (start : ℕ) (t : TypeId) → Some (start, t) ≡ holder o (struct_places m 0 (members_in m.done tag)) → Landed m tag o start t
  held_some start t e =
      walk_hit m HeldAt o next (Landed m tag o start t) start t (λ p x ms h begins is ge lt. rw (begins, is) (landed p x ms h ge lt))
      (members_in m.done tag) 0 (held_start m tag o built there flag size) e

  pub held_nowhere : None ≡ holder o (struct_places m 0 (members_in m.done tag)) → (f : ℕ → Ty → Bool) → false ≡ some_over (env m) f o (struct_parts (env m) (named_members m tag) 0)
  held_nowhere e =
      walk_miss m HeldAt o next ((f : ℕ → Ty → Bool) → false ≡ some_over (env m) f o (struct_parts (env m) (named_members m tag) 0))
      (λ p h. held_none m tag p o 0 [] (omega arith) h)
      (λ p x ms h lt. held_before m tag p o 0 (begin_of m p x) 0 (x ∷ ms) x (omega arith) h refl lt)
      (members_in m.done tag) 0 (held_start m tag o built there flag size) e
