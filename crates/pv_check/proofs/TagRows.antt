-- Rows of tags, on states that scopes and tables stand for.
use Rattle.std.proofs.Common.{◌≡◌, ◌<◌, ℕ, Bool, true, false, List, Option, Some, None, length, IfSome, is_some, ◌&&◌, subst, refl, sym, ◌∙◌, ap, map}
use Rattle.std.specs.Bool.{beq}
use Rattle.pv_types.specs.Known.{Known, tree, heading_at}
use Rattle.pv_types.specs.Ty.{Ty}
use Rattle.pv_types.specs.Layouts.{tag_type}
use Rattle.pv_types.specs.declared.terms.TypeId.{TypeId}
use Rattle.pv_typed.specs.Entries.{with_heading}
use Rattle.pv_typed.specs.Tables.{Stored, whole_unit}
use Rattle.pv_typed.specs.TypedUnits.{WholeUnit}
use Rattle.pv_check.specs.declared.scopes.TagEntry.{TagEntry}
use Rattle.pv_check.specs.declared.scopes.TagEntry.TheVariants as tag
use Rattle.pv_check.specs.Raw.{Raw, raw_innermost, tag_meaning_if, with_tag, used_of}
use Rattle.pv_check.proofs.Showing.{inner_tag_shown}
use Rattle.pv_check.specs.State.{State, After, CompositeTag}
use Rattle.pv_check.specs.Scopes.{bind_tag, find, innermost_scope}
use Rattle.pv_check.specs.Open.{state_of, IsOpen, Goes, HasTag, TagKnown}
use Rattle.pv_check.specs.Tags.{new_tag, declared_new}
use Rattle.pv_check.specs.TagParts.{composite_type}
use Rattle.pv_check.proofs.Growth.{left_true}
use Rattle.pv_check.proofs.Opening.{state_tagged, state_stays, scopes_stay}

pub declared_after : (texts : List (List ℕ)) (u : Bool) (a b : Stored) (s t : Raw) (n : ℕ) (union : Bool) (k : ℕ) → IsOpen a s → Goes a b
    → t ≡ with_tag s n (tag.Composite k) → (heading_at b.known.tags k).union ≡ union → k ≡ length a.known.tags → whole_unit b ≡ with_heading (whole_unit a) (record { name = Some n; union = union })
    → record { value = k; state = state_of texts u t b } ≡ declared_new n union (state_of texts u s a)
declared_after texts u a b s t n union k h g e kind number made =
    ap (λ (st : State). record { value = k; state = st }) (state_tagged texts u a b s t n (tag.Composite k) h g e)
    ∙ ap (λ (v : Bool). record { value = k; state = bind_tag n (CompositeTag v k) (record (state_of texts u s a) { unit = whole_unit b }) }) kind
    ∙ ap (λ (w : WholeUnit). record { value = k; state = bind_tag n (CompositeTag union k) (record (state_of texts u s a) { unit = w }) }) made
    ∙ ap (λ (i : ℕ). record { value = i; state = bind_tag n (CompositeTag union i) (record (state_of texts u s a) { unit = with_heading (whole_unit a) (record { name = Some n; union = union }) }) }) number

pub unnamed_after : (texts : List (List ℕ)) (u : Bool) (a b : Stored) (s : Raw) (union : Bool) (k : ℕ) → IsOpen a s → Goes a b
    → k ≡ length a.known.tags → whole_unit b ≡ with_heading (whole_unit a) (record { name = None; union = union })
    → record { value = k; state = state_of texts u s b } ≡ new_tag None union (state_of texts u s a)
unnamed_after texts u a b s union k h g number made =
    ap (λ ss. record { value = k; state = record { scopes = ss; unit = whole_unit b; texts = texts; used = map used_of s.used; unevaluated = u } }) (scopes_stay a b s h g)
    ∙ ap (λ (w : WholeUnit). record { value = k; state = record (state_of texts u s a) { unit = w } }) made
    ∙ ap (λ (i : ℕ). record { value = i; state = record (state_of texts u s a) { unit = with_heading (whole_unit a) (record { name = None; union = union }) } }) number

-- the type of a tag's number, in tables that have more types
pub typed_after : (texts : List (List ℕ)) (u : Bool) (a b : Stored) (s : Raw) (union : Bool) (k : ℕ) (t : TypeId) (x : After ℕ) → IsOpen a s → Goes a b
    → whole_unit b ≡ whole_unit a → tree b.known t.0 ≡ tag_type union k → record { value = k; state = state_of texts u s a } ≡ x
    → record { value = tree b.known t.0; state = state_of texts u s b } ≡ composite_type union x
typed_after texts u a b s union k t x h g same is e =
    ap (λ (st : State). record { value = tree b.known t.0; state = st }) (state_stays texts u a b s h g same)
    ∙ ap (λ (v : Ty). record { value = v; state = state_of texts u s a }) is
    ∙ ap (composite_type union) e

-- a type, in tables that have more types
pub known_after : (texts : List (List ℕ)) (u : Bool) (a b : Stored) (s : Raw) (v : Ty) (t : TypeId) → IsOpen a s → Goes a b
    → whole_unit b ≡ whole_unit a → tree b.known t.0 ≡ v
    → ◌≡◌ {A = After Ty} (record { value = tree b.known t.0; state = state_of texts u s b }) (record { value = v; state = state_of texts u s a })
known_after texts u a b s v t h g same is =
    ap (λ (st : State). record { value = tree b.known t.0; state = st }) (state_stays texts u a b s h g same)
    ∙ ap (λ (w : Ty). record { value = w; state = state_of texts u s a }) is

same_flag : (a b : Bool) → beq a b ≡ true → a ≡ b
same_flag true true e = refl
same_flag false false e = refl
same_flag true false e = absurd cc
same_flag false true e = absurd cc

-- a tag of the same kind that a scope has
pub same_kind_known : (m : Stored) (o : Option TagEntry) (union : Bool) (k : ℕ) (rest : Bool) → IfSome o (TagKnown m) → o ≡ Some (tag.Composite k)
    → (beq (heading_at m.known.tags k).union union && rest) ≡ true → HasTag m union k
same_kind_known m o union k rest h is may =
    let known : k < length m.known.tags = subst (λ x. IfSome x (TagKnown m)) is h in
    (known, same_flag (heading_at m.known.tags k).union union (left_true (beq (heading_at m.known.tags k).union union) rest may))

some_meaning : (m : Known) (o : Option TagEntry) → is_some (tag_meaning_if m o) ≡ is_some o
some_meaning m None = refl
some_meaning m (Some x) = refl

-- whether the innermost scope has a tag
pub has_tag : (texts : List (List ℕ)) (u : Bool) (m : Stored) (s : Raw) (n : ℕ) (found : Option TagEntry) (has : Bool) → IsOpen m s → found ≡ find (raw_innermost s.scopes).tags n → has ≡ is_some found
    → is_some (find (innermost_scope (state_of texts u s m).scopes).tags n) ≡ has
has_tag texts u m s n found has h e k =
    ap is_some (inner_tag_shown m.known s.scopes n h.some) ∙ some_meaning m.known (find (raw_innermost s.scopes).tags n) ∙ ap is_some (sym e) ∙ sym k
