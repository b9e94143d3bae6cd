-- Tables that typing fills: what is there stays there, and stands for the same.
use Rattle.std.proofs.Common.{◌≡◌, ℕ, ◌-◌, ◌<◌, ◌≤◌, cond, Bool, true, false, List, [], ◌∷◌, ◌++◌, Option, Some, None, IfSome, length, nat_eq, refl, sym, ◌∙◌, ap, arith, set, map, subst, zero, suc, length-set, append_assoc}
use Rattle.std.specs.Prelude.{if◌then◌else◌}
use Rattle.pv_types.specs.Known.{Known, Heading, env, heading_at}
use Rattle.pv_types.specs.Layouts.{Entry as LayoutEntry}
use Rattle.pv_check.proofs.Growth.{env_more}
use Rattle.pv_typed.specs.Known.{Each, AreKnown}
use Rattle.pv_typed.specs.Tables.{Stored, whole_unit}
use Rattle.pv_typed.proofs.Adding.{grown_refl, grown_trans}
use Rattle.pv_typed.proofs.Each.{each_weaker, each_at, map_same}
use Rattle.pv_check.specs.declared.scopes.Entry.{Entry}
use Rattle.pv_check.specs.declared.scopes.Entry.TheVariants as entry
use Rattle.pv_check.specs.declared.scopes.TagEntry.{TagEntry}
use Rattle.pv_check.specs.declared.scopes.TagEntry.TheVariants as tag
use Rattle.pv_check.specs.Growing.{Lengthens, Grows}
use Rattle.pv_check.specs.State.{TypedefOf, CompositeTag}
use Rattle.pv_check.specs.Scopes.{find, look_by, innermost_scope, with_innermost, bind_tag}
use Rattle.std.specs.Option.{option_or}
use Rattle.pv_check.specs.ScopeParts.{with_meaning}
use Rattle.pv_check.specs.Raw.{Raw, RawScope, no_raw, raw_innermost, raw_names, raw_tags, with_tag, with_name, name_shown, tag_shown, scope_shown, scopes_shown, meaning_in, tag_meaning, used_of}
use Rattle.pv_check.proofs.Keeping.{grown_typed, whole_typed}
use Rattle.pv_check.proofs.Showing.{tag_bound_shown}
use Rattle.pv_check.specs.Open.{state_of, EntryKnown, TagKnown, HasTag, NameKnown, TagNameKnown, ScopeKnown, IsOpen, Goes}

append_nil : (es : List LayoutEntry) → es ++ [] ≡ es
append_nil [] = refl
append_nil (e ∷ es) = ap (λ xs. e ∷ xs) (append_nil es)

-- with nothing behind
pub lengthens_same : (es fs : List LayoutEntry) → fs ≡ es → Lengthens es fs
lengthens_same es fs e = ([], e ∙ sym (append_nil es))

lengthens_on : (es fs gs : List LayoutEntry) → Lengthens es fs → Lengthens fs gs → Lengthens es gs
lengthens_on es fs gs h k = (h.0 ++ k.0, k.1 ∙ ap (λ xs. xs ++ k.0) h.1 ∙ append_assoc es h.0 k.0)

pub then_goes : (a b c : Stored) → Goes a b → Goes b c → Goes a c
then_goes a b c h k =
    let more : length a.known.tags ≤ length b.known.tags = h.grown.headings in
    let lists : length a.known.lists ≤ length b.known.lists = h.grown.params in
    record {
      grown = grown_trans a b c h.grown k.grown;
      parameters = λ p lt. k.parameters p (omega (arith, lt, lists)) ∙ h.parameters p lt;
      headings = λ n lt. k.headings n (omega (arith, lt, more)) ∙ h.headings n lt;
      sized = λ s. k.sized (h.sized s);
      completed = lengthens_on (env a.known) (env b.known) (env c.known) h.completed k.completed;
    }

-- ---- what is there stays there

entry_stays : (a b : Stored) → Goes a b → (e : Entry) → EntryKnown a e → EntryKnown b e
entry_stays a b g (entry.Object o) h = let more : length a.objects ≤ length b.objects = g.grown.objects in let here : o < length a.objects = h in omega (arith, more, here)
entry_stays a b g (entry.Function f) h = let more : length a.functions ≤ length b.functions = g.grown.functions in let here : f < length a.functions = h in omega (arith, more, here)
entry_stays a b g (entry.Typedef t) h = let more : length a.known.terms ≤ length b.known.terms = g.grown.terms in let here : t.0 < length a.known.terms = h in omega (arith, more, here)
entry_stays a b g (entry.Constant value) h = tt

pub tag_stays : (a b : Stored) → Goes a b → (e : TagEntry) → TagKnown a e → TagKnown b e
tag_stays a b g (tag.Composite n) h =
    let more : length a.known.tags ≤ length b.known.tags = g.grown.headings in
    let here : n < length a.known.tags = h in
    omega (arith, more, here)
tag_stays a b g tag.Enumerated h = tt
tag_stays a b g tag.Unfinished h = tt

-- of the kind that it was
pub has_tag_stays : (a b : Stored) → Goes a b → (union : Bool) (n : ℕ) → HasTag a union n → HasTag b union n
has_tag_stays a b g union n h =
    let more : length a.known.tags ≤ length b.known.tags = g.grown.headings in
    let here : n < length a.known.tags = h.0 in
    (omega (arith, more, here), ap (λ (x : Heading). x.union) (g.headings n here) ∙ h.1)

pub scope_stays : (a b : Stored) → Goes a b → (x : RawScope) → ScopeKnown a x → ScopeKnown b x
scope_stays a b g x h = (
  each_weaker (NameKnown a) (NameKnown b) (λ e k. entry_stays a b g e.1 k) x.names h.0,
  each_weaker (TagNameKnown a) (TagNameKnown b) (λ e k. tag_stays a b g e.1 k) x.tags h.1,
)

pub open_goes : (a b : Stored) (s : Raw) → IsOpen a s → Goes a b → IsOpen b s
open_goes a b s h g = record {
  known = g.grown.known h.known;
  sized = g.sized h.sized;
  some = h.some;
  scopes = each_weaker (ScopeKnown a) (ScopeKnown b) (λ x k. scope_stays a b g x k) s.scopes h.scopes;
}

-- ---- and stands for the same

meaning_stays : (a b : Stored) → Goes a b → (e : Entry) → EntryKnown a e → meaning_in b.known e ≡ meaning_in a.known e
meaning_stays a b g (entry.Object o) h = refl
meaning_stays a b g (entry.Function f) h = refl
meaning_stays a b g (entry.Typedef t) h = ap TypedefOf (g.grown.types t.0 h)
meaning_stays a b g (entry.Constant value) h = refl

tag_meaning_stays : (a b : Stored) → Goes a b → (e : TagEntry) → TagKnown a e → tag_meaning b.known e ≡ tag_meaning a.known e
tag_meaning_stays a b g (tag.Composite n) h = ap (λ (x : Heading). CompositeTag x.union n) (g.headings n h)
tag_meaning_stays a b g tag.Enumerated h = refl
tag_meaning_stays a b g tag.Unfinished h = refl

pub shown_stays : (a b : Stored) → Goes a b → (x : RawScope) → ScopeKnown a x → scope_shown b.known x ≡ scope_shown a.known x
shown_stays a b g x h =
    ap (λ es. record { names = es; tags = map (tag_shown b.known) x.tags })
    (map_same (name_shown b.known) (name_shown a.known) (NameKnown a) (λ e k. ap (λ y. (e.0, y)) (meaning_stays a b g e.1 k)) x.names h.0)
    ∙ ap (λ es. record { names = map (name_shown a.known) x.names; tags = es })
    (map_same (tag_shown b.known) (tag_shown a.known) (TagNameKnown a) (λ e k. ap (λ y. (e.0, y)) (tag_meaning_stays a b g e.1 k)) x.tags h.1)

pub scopes_stay : (a b : Stored) (s : Raw) → IsOpen a s → Goes a b → scopes_shown b.known s.scopes ≡ scopes_shown a.known s.scopes
scopes_stay a b s h g = map_same (scope_shown b.known) (scope_shown a.known) (ScopeKnown a) (λ x k. shown_stays a b g x k) s.scopes h.scopes

-- where the unit is the same, the state is
pub state_stays : (texts : List (List ℕ)) (u : Bool) (a b : Stored) (s : Raw) → IsOpen a s → Goes a b → whole_unit b ≡ whole_unit a → state_of texts u s b ≡ state_of texts u s a
state_stays texts u a b s h g same =
    ap (λ ss. record { scopes = ss; unit = whole_unit b; texts = texts; used = map used_of s.used; unevaluated = u }) (scopes_stay a b s h g)
    ∙ ap (λ w. record { scopes = scopes_shown a.known s.scopes; unit = w; texts = texts; used = map used_of s.used; unevaluated = u }) same

-- ---- a tag more in the innermost scope

each_bound : {V : Type 0} (P : V → Type 0) (n : ℕ) (x : V) (es : List (ℕ × V)) → Each (λ (e : ℕ × V). P e.1) es → P x → Each (λ (e : ℕ × V). P e.1) (with_meaning n x es)
each_bound P n x [] h k = (k, tt)
each_bound {V} P n x (e ∷ es) h k = at (nat_eq n e.0) h.0 h.1 (each_bound P n x es h.1 k)
  where
    at : (b : Bool) → P e.1 → Each (λ (y : ℕ × V). P y.1) es → Each (λ (y : ℕ × V). P y.1) (with_meaning n x es) → Each (λ (y : ℕ × V). P y.1) (if b then (e.0, x) ∷ es else e ∷ with_meaning n x es)
    at true p q r = (k, q)
    at false p q r = (p, r)

each_set : {A : Type 0} (P : A → Type 0) (xs : List A) (i : ℕ) (x : A) → Each P xs → P x → Each P (set xs i x)
each_set P [] i x h k = tt
each_set P (y ∷ ys) zero x h k = (k, h.1)
each_set P (y ∷ ys) (suc i) x h k = (h.0, each_set P ys i x h.1 k)

pub inner_known : (m : Stored) (s : Raw) → IsOpen m s → ScopeKnown m (raw_innermost s.scopes)
inner_known m s h = let some : 0 < length s.scopes = h.some in each_at (ScopeKnown m) no_raw s.scopes h.scopes (length s.scopes - 1) (omega (arith, some))

pub open_tag : (m : Stored) (s : Raw) (n : ℕ) (x : TagEntry) → IsOpen m s → TagKnown m x → IsOpen m (with_tag s n x)
open_tag m s n x h k =
    let inner = inner_known m s h in
    let some : 0 < length s.scopes = h.some in
    record {
      known = h.known;
      sized = h.sized;
      some = omega (arith, some, length-set s.scopes (length s.scopes - 1) (record (raw_innermost s.scopes) { tags = with_meaning n x (raw_innermost s.scopes).tags }));
      scopes = each_set (ScopeKnown m) s.scopes (length s.scopes - 1) _ h.scopes (inner.0, each_bound (TagKnown m) n x (raw_innermost s.scopes).tags inner.1 k);
    }

pub open_name : (m : Stored) (s : Raw) (n : ℕ) (x : Entry) → IsOpen m s → EntryKnown m x → IsOpen m (with_name s n x)
open_name m s n x h k =
    let inner = inner_known m s h in
    let some : 0 < length s.scopes = h.some in
    record {
      known = h.known;
      sized = h.sized;
      some = omega (arith, some, length-set s.scopes (length s.scopes - 1) (record (raw_innermost s.scopes) { names = with_meaning n x (raw_innermost s.scopes).names }));
      scopes = each_set (ScopeKnown m) s.scopes (length s.scopes - 1) _ h.scopes (each_bound (EntryKnown m) n x (raw_innermost s.scopes).names inner.0 k, inner.1);
    }

-- ---- what scopes have for a name is there

find_known : {V : Type 0} (P : V → Type 0) (es : List (ℕ × V)) (n : ℕ) → Each (λ (e : ℕ × V). P e.1) es → IfSome (find es n) P
find_known P [] n h = tt
find_known {V} P (e ∷ es) n h = at (nat_eq n e.0) h.0 (find_known P es n h.1)
  where
    at : (b : Bool) → P e.1 → IfSome (find es n) P → IfSome (cond b (Some e.1) (find es n)) P
    at true p k = p
    at false p k = k

or_known : {V : Type 0} (P : V → Type 0) (a b : Option V) → IfSome a P → IfSome b P → IfSome (option_or a b) P
or_known P None b h k = k
or_known P (Some x) b h k = h

pub look_tag_known : (m : Stored) (ss : List RawScope) (n : ℕ) → Each (ScopeKnown m) ss → IfSome (look_by raw_tags ss n) (TagKnown m)
look_tag_known m [] n h = tt
look_tag_known m (s ∷ ss) n h = or_known (TagKnown m) (look_by raw_tags ss n) (find s.tags n) (look_tag_known m ss n h.1) (find_known (TagKnown m) s.tags n h.0.1)

pub look_known : (m : Stored) (ss : List RawScope) (n : ℕ) → Each (ScopeKnown m) ss → IfSome (look_by raw_names ss n) (EntryKnown m)
look_known m [] n h = tt
look_known m (s ∷ ss) n h = or_known (EntryKnown m) (look_by raw_names ss n) (find s.names n) (look_known m ss n h.1) (find_known (EntryKnown m) s.names n h.0.0)

pub inner_tag_known : (m : Stored) (s : Raw) (n : ℕ) → IsOpen m s → IfSome (find (raw_innermost s.scopes).tags n) (TagKnown m)
inner_tag_known m s n h = find_known (TagKnown m) (raw_innermost s.scopes).tags n (inner_known m s h).1

-- ---- tables whose types alone grow, and tables with one tag more

pub goes_types : (s : Stored) (lent k : Known) → lent ≡ s.known → AreKnown s → Grows lent k → Goes s (record s { known = k })
goes_types s lent k e known =
    subst (λ (m : Known). Grows m k → Goes s (record s { known = k })) (sym e)
    (λ g. record {
      grown = grown_typed s k known g.more.trees g.more.terms g.more.lists (rw g.more.headings (omega arith));
      headings = λ n lt. ap (λ ts. heading_at ts n) g.more.headings;
      parameters = g.more.parameters;
      sized = g.sized;
      completed = lengthens_same (env s.known) (env k) (env_more s.known k g.more);
    })

pub whole_types : (s : Stored) (lent k : Known) → lent ≡ s.known → AreKnown s → Grows lent k → whole_unit (record s { known = k }) ≡ whole_unit s
whole_types s lent k e known =
    subst (λ (m : Known). Grows m k → whole_unit (record s { known = k }) ≡ whole_unit s) (sym e)
    (λ g. whole_typed s k known g.more.trees g.more.terms g.more.completed g.more.headings)

-- a tag more in the innermost scope, and tables that have more
pub state_tag : (texts : List (List ℕ)) (u : Bool) (a b : Stored) (s : Raw) (n : ℕ) (x : TagEntry) → IsOpen a s → Goes a b
    → state_of texts u (with_tag s n x) b ≡ bind_tag n (tag_meaning b.known x) (record (state_of texts u s a) { unit = whole_unit b })
state_tag texts u a b s n x h g =
    ap (λ ss. record { scopes = ss; unit = whole_unit b; texts = texts; used = map used_of s.used; unevaluated = u })
    (tag_bound_shown b.known s n x h.some
    ∙ ap (λ ss. with_innermost ss (record (innermost_scope ss) { tags = with_meaning n (tag_meaning b.known x) (innermost_scope ss).tags })) (scopes_stay a b s h g))

pub state_tagged : (texts : List (List ℕ)) (u : Bool) (a b : Stored) (s t : Raw) (n : ℕ) (x : TagEntry) → IsOpen a s → Goes a b → t ≡ with_tag s n x
    → state_of texts u t b ≡ bind_tag n (tag_meaning b.known x) (record (state_of texts u s a) { unit = whole_unit b })
state_tagged texts u a b s t n x h g e = ap (λ r. state_of texts u r b) e ∙ state_tag texts u a b s n x h g

pub open_tagged : (a b : Stored) (s t : Raw) (n : ℕ) (x : TagEntry) → IsOpen a s → Goes a b → TagKnown b x → t ≡ with_tag s n x → IsOpen b t
open_tagged a b s t n x h g k e = subst (λ r. IsOpen b r) (sym e) (open_tag b s n x (open_goes a b s h g) k)

pub same_goes : (a : Stored) → Goes a a
same_goes a = record {
  grown = grown_refl a;
  headings = λ n lt. refl;
  parameters = λ p lt. refl;
  sized = λ h. h;
  completed = lengthens_same (env a.known) (env a.known) refl;
}
