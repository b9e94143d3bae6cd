-- One specifier more.
use Rattle.std.proofs.Common.{◌≡◌, ℕ, Bool, Some, None, List, Option, IfSome, ◌<◌, ◌≤◌, arith, length, subst, refl, sym, ap, ◌∙◌}
use Rattle.pv_types.specs.declared.terms.TypeId.{TypeId}
use Rattle.pv_types.specs.Known.{Known, tree}
use Rattle.pv_types.specs.Ty.{Ty}
use Rattle.pv_typed.specs.Tables.{Stored}
use Rattle.pv_check.specs.declared.specifiers.Seen.{Seen}
use Rattle.pv_check.specs.Growing.{IsType, type_if}
use Rattle.pv_check.specs.Open.{state_of, Goes}
use Rattle.pv_check.specs.declared.scopes.Entry.{Entry}
use Rattle.pv_check.specs.Raw.{Raw, raw_names, meaning_if, scopes_shown}
use Rattle.pv_check.proofs.Showing.{look_shown}
use Rattle.pv_check.specs.Seeing.{seen_in, seen_if}
use Rattle.pv_check.specs.SeenAfter.{after_seen}
use Rattle.pv_check.specs.Specifiers.{with_type, typedef_of}
use Rattle.pv_check.specs.State.{After, give}
use Rattle.pv_check.specs.Scopes.{look, look_by}
use Rattle.pv_typed.specs.Constants.{and_then}

pub after_gives : (texts : List (List ℕ)) (u : Bool) (s : Raw) (m : Stored) (o : Option Seen) → after_seen texts u s m o ≡ give (seen_if m.known o) (state_of texts u s m)
after_gives texts u s m None = refl
after_gives texts u s m (Some x) = refl

type_stays : (a b : Stored) (o : Option TypeId) → Goes a b → IsType a.known o → type_if b.known o ≡ type_if a.known o
type_stays a b None g h = refl
type_stays a b (Some t) g h = ap Some (g.grown.types t.0 h)

pub seen_stays : (a b : Stored) (x : Seen) → Goes a b → IsType a.known x.named → seen_in b.known x ≡ seen_in a.known x
seen_stays a b x g h = ap (λ o. record { storage = x.storage; constant = x.constant; words = x.words; named = o }) (type_stays a b x.named g h)

-- a type that a specifier names
pub named_after : (texts : List (List ℕ)) (u : Bool) (a b : Stored) (s : Raw) (x : Seen) (t : TypeId) (o : Option Seen) (w : Option (After Ty)) → Goes a b → IsType a.known x.named
    → seen_if b.known o ≡ with_type (seen_in b.known x) (tree b.known t.0) → Some (record { value = tree b.known t.0; state = state_of texts u s b }) ≡ w
    → after_seen texts u s b o ≡ and_then w (λ y. give (with_type (seen_in a.known x) y.value) y.state)
named_after texts u a b s x t o w g h e f =
    after_gives texts u s b o
    ∙ ap (λ r. give r (state_of texts u s b)) e
    ∙ ap (λ r. give (with_type r (tree b.known t.0)) (state_of texts u s b)) (seen_stays a b x g h)
    ∙ ap (λ (r : Option (After Ty)). and_then r (λ y. give (with_type (seen_in a.known x) y.value) y.state)) f

-- a typedef name
pub typedef_none : (texts : List (List ℕ)) (u : Bool) (s : Raw) (m : Stored) (x : Seen) (n : ℕ) (f : Option Entry) → f ≡ look_by raw_names s.scopes n → None ≡ typedef_of (meaning_if m.known f)
    → None ≡ give (and_then (typedef_of (look (scopes_shown m.known s.scopes) n)) (with_type (seen_in m.known x))) (state_of texts u s m)
typedef_none texts u s m x n f e h =
    ap (λ o. give (and_then o (with_type (seen_in m.known x))) (state_of texts u s m)) (h ∙ ap typedef_of (ap (meaning_if m.known) e ∙ sym (look_shown m.known s.scopes n)))

pub typedef_some : (texts : List (List ℕ)) (u : Bool) (s : Raw) (m : Stored) (x : Seen) (n : ℕ) (f : Option Entry) (t : TypeId) (o : Option Seen) → f ≡ look_by raw_names s.scopes n
    → Some (tree m.known t.0) ≡ typedef_of (meaning_if m.known f) → seen_if m.known o ≡ with_type (seen_in m.known x) (tree m.known t.0)
    → after_seen texts u s m o ≡ give (and_then (typedef_of (look (scopes_shown m.known s.scopes) n)) (with_type (seen_in m.known x))) (state_of texts u s m)
typedef_some texts u s m x n f t o e h k =
    after_gives texts u s m o
    ∙ ap (λ r. give r (state_of texts u s m)) k
    ∙ ap (λ r. give (and_then r (with_type (seen_in m.known x))) (state_of texts u s m)) (h ∙ ap typedef_of (ap (meaning_if m.known) e ∙ sym (look_shown m.known s.scopes n)))

pub named_known : (m : Known) (o : Option Seen) (t : TypeId) → IfSome o (λ r. r.named ≡ Some t) → t.0 < length m.terms → IfSome o (λ x. IsType m x.named)
named_known m None t h lt = tt
named_known m (Some x) t h lt = subst (λ o. IsType m o) (sym h) lt

-- a type that is there stays there
pub type_known : (a b : Stored) (o : Option TypeId) → Goes a b → IsType a.known o → IsType b.known o
type_known a b None g h = tt
type_known a b (Some t) g h = let more : length a.known.terms ≤ length b.known.terms = g.grown.terms in let here : t.0 < length a.known.terms = h in omega (arith, more, here)

pub is_type : (m : Known) (o : Option TypeId) → IsType m o → IfSome o (λ t. t.0 < length m.terms)
is_type m None h = tt
is_type m (Some t) h = h
