-- What declares a tag, what completes it, and enumerators (C17 6.7.2): what typing does to its state, and what it gives.
use Rattle.std.proofs.Common.{◌≡◌, ℕ, ◌<◌, ◌-◌, ℤ, pos, ◌+ℤ◌, Bool, true, false, ◌&&◌, Option, Some, None, is_some, List, [], ◌∷◌, ◌++◌, length, refl, sym, ap, subst, ◌∙◌, arith, length-append, append-nil}
use Rattle.std.specs.Prelude.{if◌then◌else◌, nat_lt}
use Rattle.std.specs.Bool.{beq}
use Rattle.pv_num.specs.Kinds.{Fits, fits_of}
use Rattle.pv_num.specs.declared.kinds.IntKind.TheVariants.{Int}
use Rattle.pv_token.specs.declared.words.Word.{Word}
use Rattle.pv_token.specs.declared.words.Word.TheVariants as word
use Rattle.pv_types.specs.Formed.{AreComplete}
use Rattle.pv_types.specs.Known.{Heading, heading_at}
use Rattle.pv_types.specs.Layouts.{Named, look, tag_type}
use Rattle.pv_types.specs.Ty.{Ty, IntTy}
use Rattle.pv_types.proofs.LayoutLaws.{layouts-push}
use Rattle.pv_typed.specs.Known.{Each}
use Rattle.pv_typed.specs.TypedUnits.{WholeUnit}
use Rattle.pv_check.specs.State.{State, After, Scope, Meaning, ConstantOf, TagMeaning, CompositeTag, EnumerationTag, OpenEnumeration, give, env}
use Rattle.pv_check.specs.Scopes.{no_scope, innermost_scope, find, look_tag, bind, bind_tag, is_file_scope}
use Rattle.pv_check.specs.ScopeParts.{with_meaning}
use Rattle.pv_typed.specs.Constants.{and_then}
use Rattle.pv_check.specs.Tags.{declared_new, composite_named, enumeration_named, tag_named, is_open, opened_named, tag_before_list, filed_with, with_done, completion_of, opened_enumeration, closed_enumeration, may_enumerate, enumerator_step}
use Rattle.pv_check.specs.TagParts.{some_members, is_small}
use Rattle.pv_well_typed.specs.Proper.{IsProper}
use Rattle.pv_well_typed.specs.Later.{Later}
use Rattle.pv_well_typed.specs.ProperStates.{IsMember, IsTagMeaning, IsProperState, IsVisible}
use Rattle.pv_well_typed.proofs.Operands.{some-same}
use Rattle.pv_well_typed.proofs.PrimaryRows.{last-at, each-at, fits-read}
use Rattle.pv_well_typed.proofs.UnaryRows.{both-true}
use Rattle.pv_well_typed.proofs.Changes.{find-bound, each-set, each-bound, more_heading, more_filed, made_entry, tag-meaning, inner-tag, bind-proper, bind-tag-proper, bind-visible, bind-tag-visible, heading-later, heading-proper, filed-later, filed-proper, completed-later, completed-proper}
use Rattle.pv_well_typed.proofs.Moving.{IsKnownMeaning, AreKnownNames, AreLaid, Orderly, HasMade, none-made, Moves, Gives, same-outer, set-outer, same-moves, then-moves, gives-none, gives-some, gives-here, gives-if, gives-from}
use Rattle.pv_well_typed.proofs.Laid.{none-there, laid-done}

pub bits-equal : (a b : Bool) → beq a b ≡ true → a ≡ b
bits-equal true true h = refl
bits-equal false false h = refl
bits-equal true false h = absurd cc
bits-equal false true h = absurd cc

tag-proper : (v : WholeUnit) (u : Bool) (n : ℕ) → (heading_at v.headings n).union ≡ u → IsProper v (tag_type u n)
tag-proper v true n e = e
tag-proper v false n e = e

-- 6.2.1p4: a name or a tag gets a meaning
inner-known : (n : ℕ) (ss : List Scope) → Each (AreKnownNames n) ss → AreKnownNames n (innermost_scope ss)
inner-known n ss h = each-at (AreKnownNames n) no_scope ss (length ss - 1) tt h

bound-orderly : (n : ℕ) (m : Meaning) (s : State) → IsKnownMeaning (length s.unit.functions) m → Orderly s → Orderly (bind n m s)
bound-orderly n m s known h = record {
  names = each-set (AreKnownNames (length s.unit.functions)) s.scopes (length s.scopes - 1) _ h.names
      (each-bound (IsKnownMeaning (length s.unit.functions)) n m (innermost_scope s.scopes).names known (inner-known (length s.unit.functions) s.scopes h.names));
  uses = h.uses;
  sources = h.sources;
  written = h.written;
  ended = h.ended;
  laid = h.laid;
  apart = h.apart;
}

bound-tag-orderly : (n : ℕ) (m : TagMeaning) (s : State) → Orderly s → Orderly (bind_tag n m s)
bound-tag-orderly n m s h = record {
  names = each-set (AreKnownNames (length s.unit.functions)) s.scopes (length s.scopes - 1) _ h.names (inner-known (length s.unit.functions) s.scopes h.names);
  uses = h.uses;
  sources = h.sources;
  written = h.written;
  ended = h.ended;
  laid = h.laid;
  apart = h.apart;
}

done-orderly : (k : ℕ) (u : Bool) (ms : List Named) (s : State) → (AreLaid (env s) → AreLaid (env (with_done u k ms s))) → Orderly s → Orderly (with_done u k ms s)
done-orderly k u ms s more h = record { names = h.names; uses = h.uses; sources = h.sources; written = h.written; ended = h.ended; laid = more h.laid; apart = h.apart }

module _ (F : Type 0) (v : WholeUnit) (os : List ℕ) where
  -- ---- changes of the state

  pub bind-moves : (n : ℕ) (m : Meaning) (s : State) → (F → (w : WholeUnit) (ps : List ℕ) → IsVisible w ps m) → IsKnownMeaning (length s.unit.functions) m → Moves F v os s (bind n m s)
  bind-moves n m s h known = record {
    later = λ l. record { unit = l.unit; used = l.used };
    outer = set-outer s.scopes (record (innermost_scope s.scopes) { names = with_meaning n m (innermost_scope s.scopes).names }) (λ k h. find-bound n k m (innermost_scope s.scopes).names h);
    grows = ([], sym (append-nil (env s)));
    names = λ f w ps k. bind-visible w ps n m s (h f w ps) k;
    evaluated = refl;
    functions = refl;
    spelled = refl;
    noted = (refl, refl);
    orderly = λ k. bound-orderly n m s known k;
    count = omega arith;
    older = λ o lt. refl;
  }

  pub bind-tag-moves : (n : ℕ) (m : TagMeaning) (s : State) → Moves F v os s (bind_tag n m s)
  bind-tag-moves n m s = record {
    later = λ l. record { unit = l.unit; used = l.used };
    outer = set-outer s.scopes (record (innermost_scope s.scopes) { tags = with_meaning n m (innermost_scope s.scopes).tags }) (λ k h. h);
    grows = ([], sym (append-nil (env s)));
    names = λ f w ps k. bind-tag-visible w ps n m s k;
    evaluated = refl;
    functions = refl;
    spelled = refl;
    noted = (refl, refl);
    orderly = λ k. bound-tag-orderly n m s k;
    count = omega arith;
    older = λ o lt. refl;
  }

  heading-moves : (x : Heading) (s : State) → Moves F v os s (more_heading x s)
  heading-moves x s = record { later = heading-later v x s; outer = same-outer s.scopes; grows = ([], sym (append-nil (env s))); names = λ f w ps k. k; evaluated = refl; functions = refl; spelled = refl; noted = (refl, refl); orderly = λ h. h; count = omega arith; older = λ o lt. refl }

  filed-moves : (t : Ty) (s : State) → Moves F v os s (more_filed t s)
  filed-moves t s = record { later = filed-later v t s; outer = same-outer s.scopes; grows = ([], sym (append-nil (env s))); names = λ f w ps k. k; evaluated = refl; functions = refl; spelled = refl; noted = (refl, refl); orderly = λ h. h; count = omega arith; older = λ o lt. refl }

  completed-moves : (k : ℕ) (u : Bool) (ms : List Named) (s : State) → (AreLaid (env s) → AreLaid (env (with_done u k ms s))) → Moves F v os s (with_done u k ms s)
  completed-moves k u ms s more = record {
    later = completed-later v (record { tag = k; union = u; members = ms }) s;
    outer = same-outer s.scopes;
    grows = (made_entry s.unit.completed (record { tag = k; union = u; members = ms }) ∷ [], layouts-push s.unit.completed (record { tag = k; union = u; members = ms }));
    names = λ f w ps h. h;
    evaluated = refl;
    functions = refl;
    spelled = refl;
    noted = (refl, refl);
    orderly = λ h. done-orderly k u ms s more h;
    count = omega arith;
    older = λ o lt. refl;
  }

  -- ---- 6.7.2.3: tags

  -- the number of a tag, by the word that it was declared with
  abbrev pub HasWord : Bool → After ℕ → Type 0
  HasWord u a = (heading_at v.headings a.value).union ≡ u

  new-word : (n : Option ℕ) (u : Bool) (s : State) → Later (more_heading (record { name = n; union = u }) s) v → (heading_at v.headings (length s.unit.headings)).union ≡ u
  new-word n u s l =
      let more = length-append s.unit.headings (record { name = n; union = u } ∷ []) in
      let there : length s.unit.headings < length (s.unit.headings ++ (record { name = n; union = u } ∷ [])) = omega (arith, more) in
      ap (λ (x : Heading). x.union) (l.unit.headings (length s.unit.headings) there ∙ last-at (record { name = None; union = false }) s.unit.headings (record { name = n; union = u }))

  -- 6.7.2.3p8: a new one
  declared-gives : (P : Type 0) (n : ℕ) (u : Bool) (s : State) → Gives F v os P s (HasWord u) (Some (declared_new n u s))
  declared-gives P n u s =
      let h : State = more_heading (record { name = Some n; union = u }) s in
      gives-some F v os P s (HasWord u) (declared_new n u s)
      (then-moves F v os s h (declared_new n u s).state (heading-moves (record { name = Some n; union = u }) s) (bind-tag-moves n (CompositeTag u (length s.unit.headings)) h))
      (λ l p g.
      let word = new-word (Some n) u s (record { unit = l.unit; used = l.used }) in
      (bind-tag-proper v n (CompositeTag u (length s.unit.headings)) h word (heading-proper v (record { name = Some n; union = u }) s g), word, none-made v s (declared_new n u s).state refl))

  abbrev pub HasProperType : After Ty → Type 0
  HasProperType a = IsProper v a.value

  pub composite-gives : (P : Type 0) (u : Bool) (n : ℕ) (m : Option TagMeaning) (s : State) → (IsProperState v s → (k : TagMeaning) → m ≡ Some k → IsTagMeaning v k) → Gives F v os P s HasProperType (composite_named u n m s)
  composite-gives P u n None s h = record { held = λ a e. next a e }
    where
      next : (a : After Ty) → Some (record { value = tag_type u (length s.unit.headings); state = (declared_new n u s).state }) ≡ Some a
          → Moves F v os s a.state × (Later a.state v → P → IsProperState v s → IsProperState v a.state × IsProper v a.value × HasMade v s a.state)
      next a e =
          let r = (declared-gives P n u s).held (declared_new n u s) refl in
          let q : record { value = tag_type u (length s.unit.headings); state = (declared_new n u s).state } ≡ a = cc in
          subst (λ (b : After Ty). Moves F v os s b.state × (Later b.state v → P → IsProperState v s → IsProperState v b.state × IsProper v b.value × HasMade v s b.state)) q
          (r.0, λ l p g. let z = r.1 l p g in (z.0, tag-proper v u (length s.unit.headings) z.1, z.2))
  composite-gives P u n (Some (CompositeTag w k)) s h =
      gives-if F v os P s HasProperType (beq w u) (give (Some (tag_type w k)) s)
      (λ e. gives-here F v os P s HasProperType (Some (tag_type w k)) (λ x q l p g. subst (IsProper v) (some-same (tag_type w k) x q) (tag-proper v w k (h g (CompositeTag w k) refl))))
  composite-gives P u n (Some EnumerationTag) s h = gives-none F v os P s HasProperType
  composite-gives P u n (Some OpenEnumeration) s h = gives-none F v os P s HasProperType

  enumeration-gives : (P : Type 0) (m : Option TagMeaning) (s : State) → Gives F v os P s HasProperType (enumeration_named m s)
  enumeration-gives P None s = gives-none F v os P s HasProperType
  enumeration-gives P (Some (CompositeTag w k)) s = gives-none F v os P s HasProperType
  enumeration-gives P (Some EnumerationTag) s = gives-here F v os P s HasProperType (Some (IntTy Int)) (λ x q l p g. subst (IsProper v) (some-same (IntTy Int) x q) tt)
  enumeration-gives P (Some OpenEnumeration) s = gives-none F v os P s HasProperType

  -- a word and a tag
  pub tag-gives : (P : Type 0) (w : Word) (n : ℕ) (s : State) → Gives F v os P s HasProperType (tag_named w n s)
  tag-gives P word.Struct n s = composite-gives P false n (look_tag s.scopes n) s (λ g k e. tag-meaning v s g n k e)
  tag-gives P word.Union n s = composite-gives P true n (look_tag s.scopes n) s (λ g k e. tag-meaning v s g n k e)
  tag-gives P word.Enum n s = enumeration-gives P (look_tag s.scopes n) s
  tag-gives P _ n s = gives-none F v os P s HasProperType

  opened-named-gives : (P : Type 0) (u : Bool) (n : ℕ) (m : Option TagMeaning) (s : State) → (IsProperState v s → (k : TagMeaning) → m ≡ Some k → IsTagMeaning v k) → Gives F v os P s (HasWord u) (opened_named u n m s)
  opened-named-gives P u n None s h = declared-gives P n u s
  opened-named-gives P u n (Some (CompositeTag w k)) s h =
      gives-if F v os P s (HasWord u) (beq w u && is_open s k) (give (Some k) s)
      (λ e. gives-here F v os P s (HasWord u) (Some k)
      (λ x q l p g. subst (λ i. (heading_at v.headings i).union ≡ u) (some-same k x q) (h g (CompositeTag w k) refl ∙ bits-equal w u (both-true (beq w u) (is_open s k) e).0)))
  opened-named-gives P u n (Some EnumerationTag) s h = gives-none F v os P s (HasWord u)
  opened-named-gives P u n (Some OpenEnumeration) s h = gives-none F v os P s (HasWord u)

  -- before `{`
  pub opened-gives : (P : Type 0) (u : Bool) (n : Option ℕ) (s : State) → Gives F v os P s (HasWord u) (tag_before_list u n s)
  opened-gives P u None s =
      gives-some F v os P s (HasWord u) (record { value = length s.unit.headings; state = more_heading (record { name = None; union = u }) s }) (heading-moves (record { name = None; union = u }) s)
      (λ l p g. (heading-proper v (record { name = None; union = u }) s g, new-word None u s l, none-made v s (more_heading (record { name = None; union = u }) s) refl))
  opened-gives P u (Some n) s = opened-named-gives P u n (find (innermost_scope s.scopes).tags n) s (λ g k e. inner-tag v s g n k e)

  -- 6.7.2.1p3: members, in the layouts of the state behind them
  abbrev pub HasMembers : After (List Named) → Type 0
  HasMembers a = Each (IsMember v (env a.state)) a.value

  pub some-members-gives : (a : After (List Named)) → Gives F v os (HasMembers a) a.state HasMembers (some_members a)
  some-members-gives a =
      gives-if F v os (HasMembers a) a.state HasMembers (nat_lt 0 (length a.value)) (Some a)
      (λ e. gives-some F v os (HasMembers a) a.state HasMembers a (same-moves F v os a.state) (λ l p g. (g, p, none-made v a.state a.state refl)))

  filed-gives : (P : Type 0) (n : Option ℕ) (t : Ty) (s : State) → (P → IsProper v t) → Gives F v os P s HasProperType (Some (record { value = t; state = filed_with n t s }))
  filed-gives P None t s h = gives-some F v os P s HasProperType (record { value = t; state = s }) (same-moves F v os s) (λ l p g. (g, h p, none-made v s s refl))
  filed-gives P (Some n) t s h = by (is_file_scope s)
    where
      by : (b : Bool) → Gives F v os P s HasProperType (Some (record { value = t; state = if b then more_filed t s else s }))
      by true = gives-some F v os P s HasProperType (record { value = t; state = more_filed t s }) (filed-moves t s) (λ l p g. (filed-proper v t s g, h p, none-made v s (more_filed t s) refl))
      by false = gives-some F v os P s HasProperType (record { value = t; state = s }) (same-moves F v os s) (λ l p g. (g, h p, none-made v s s refl))

  -- the number of the tag has its word, and the members are complete
  abbrev pub MayComplete : Bool → ℕ → List Named → State → Type 0
  MayComplete u k ms s = ((heading_at v.headings k).union ≡ u) × Each (IsMember v (env s)) ms

  -- 6.7.2.1p8: the type is complete from the `}` on
  pub completed-gives : (u : Bool) (n : Option ℕ) (k : ℕ) (ms : List Named) (s : State) → AreComplete (env s) ms → nat_lt 0 (length ms) ≡ true → Gives F v os (MayComplete u k ms s) s HasProperType (completion_of u n k ms s)
  completed-gives u n k ms s complete some =
      gives-if F v os (MayComplete u k ms s) s HasProperType (is_open s k) _
      (λ e. gives-if F v os (MayComplete u k ms s) s HasProperType (is_small (with_done u k ms s) (tag_type u k)) _
      (λ f. gives-from F v os (MayComplete u k ms s) (MayComplete u k ms s) s (with_done u k ms s) HasProperType _ (completed-moves k u ms s (λ h. laid-done s.unit.completed u k ms h e complete some f))
      (λ l p g. (completed-proper v k u ms s p.0 (none-there (look (env s) k) e) p.1 g, p, none-made v s (with_done u k ms s) refl))
      (filed-gives (MayComplete u k ms s) n (tag_type u k) (with_done u k ms s) (λ p. tag-proper v u k p.0))))

  -- ---- 6.7.2.2: enumerations

  pub opened-then : {A : Type 0} (P : Type 0) (n : Option ℕ) (s : State) (Q : After A → Type 0) (f : State → Option (After A)) → ((t : State) → Gives F v os P t Q (f t)) → Gives F v os P s Q (and_then (opened_enumeration n s) f)
  opened-then P None s Q f h = h s
  opened-then {A} P (Some n) s Q f h = by (is_some (find (innermost_scope s.scopes).tags n))
    where
      by : (b : Bool) → Gives F v os P s Q (and_then (if b then None else Some (bind_tag n OpenEnumeration s)) f)
      by true = gives-none F v os P s Q
      by false = gives-from F v os P P s (bind_tag n OpenEnumeration s) Q (f (bind_tag n OpenEnumeration s)) (bind-tag-moves n OpenEnumeration s) (λ l p g. (bind-tag-proper v n OpenEnumeration s tt g, p, none-made v s (bind_tag n OpenEnumeration s) refl)) (h (bind_tag n OpenEnumeration s))

  pub closed-gives : {A : Type 0} (P : Type 0) (n : Option ℕ) (s : State) (Q : After A → Type 0) (f : State → Option (After A)) → ((t : State) → Gives F v os P t Q (f t)) → Gives F v os P s Q (f (closed_enumeration n s))
  closed-gives P None s Q f h = h s
  closed-gives P (Some n) s Q f h = gives-from F v os P P s (bind_tag n EnumerationTag s) Q (f (bind_tag n EnumerationTag s)) (bind-tag-moves n EnumerationTag s) (λ l p g. (bind-tag-proper v n EnumerationTag s tt g, p, none-made v s (bind_tag n EnumerationTag s) refl)) (h (bind_tag n EnumerationTag s))

  abbrev pub IsAny : {A : Type 0} → After A → Type 0
  IsAny a = Unit {0}

  pub enumerated-gives : (P : Type 0) (n : ℕ) (k : ℤ) (s : State) → Gives F v os P s IsAny (enumerator_step n k s)
  enumerated-gives P n k s = gives-if F v os P s IsAny (may_enumerate n k s) _ (λ e. by (fits-read Int k (fits e)) (is_some (find (innermost_scope s.scopes).names n)))
    where
      fits : may_enumerate n k s ≡ true → fits_of Int k ≡ true
      fits e = (both-true (fits_of Int k) _ e).0

      by : Fits Int k → (b : Bool) → Gives F v os P s IsAny (and_then (if b then None else Some (bind n (ConstantOf k) s)) (give (Some (k +ℤ pos 1))))
      by h true = gives-none F v os P s IsAny
      by h false = gives-some F v os P s IsAny (record { value = k +ℤ pos 1; state = bind n (ConstantOf k) s }) (bind-moves n (ConstantOf k) s (λ f w ps. tt) tt) (λ l p g. (bind-proper v n (ConstantOf k) s h g, tt, none-made v s (bind n (ConstantOf k) s) refl))
