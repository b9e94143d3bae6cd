-- The names of the innermost scope, one after the other.
use Rattle.std.proofs.Common.{◌≡◌, ℕ, zero, suc, ◌+◌, ◌<◌, ◌≤◌, ◌==◌, Bool, true, false, List, [], ◌∷◌, map, Option, Some, None, length, drop, slice_get, option_map, refl, sym, ◌∙◌, ap, arith}
use Rattle.std.specs.Prelude.{◌&&◌}
use Rattle.std.proofs.lemmas.List.{length-map}
use Rattle.std.proofs.lemmas.Bool.Decides.{nat_tests}
use Rattle.pv_types.specs.Known.{Known}
use Rattle.pv_typed.specs.Tables.{Stored}
use Rattle.pv_check.specs.declared.scopes.Entry.{Entry}
use Rattle.pv_check.specs.Raw.{Raw, raw_innermost, meaning_in, name_shown, tag_shown}
use Rattle.pv_check.specs.Open.{state_of, EntryKnown, NameKnown, IsOpen}
use Rattle.pv_check.specs.State.{State, Scope}
use Rattle.pv_check.proofs.Opening.{inner_known}
use Rattle.pv_check.proofs.Showing.{innermost_shown}
use Rattle.pv_typed.specs.Known.{Each}
use Rattle.pv_unit.specs.Statements.{is_automatic}
use Rattle.pv_unit.specs.StatementParts.{automatic_alone, are_automatic}

abbrev pub what_at : List (ℕ × Entry) → ℕ → Option Entry
what_at es i = option_map (λ (e : ℕ × Entry). e.1) (slice_get es i)

pub there_at : (es : List (ℕ × Entry)) (i : ℕ) (x : Entry) → Some x ≡ what_at es i → i < length es
there_at [] i x e = cc
there_at (y ∷ es) zero x e = omega arith
there_at (y ∷ es) (suc i) x e = let h : i < length es = there_at es i x e in omega (arith, h)

pub none_at : (es : List (ℕ × Entry)) (i : ℕ) → None ≡ what_at es i → length es ≤ i
none_at [] i e = omega arith
none_at (y ∷ es) zero e = cc
none_at (y ∷ es) (suc i) e = let h : length es ≤ i = none_at es i e in omega (arith, h)

pub known_at : (m : Stored) (es : List (ℕ × Entry)) (i : ℕ) (x : Entry) → Each (NameKnown m) es → Some x ≡ what_at es i → EntryKnown m x
known_at m [] i x h e = cc
known_at m (y ∷ es) zero x h e = rw (some_is x y.1 e) h.0
  where
    some_is : (a b : Entry) → Some a ≡ Some b → a ≡ b
    some_is a b e = cc
known_at m (y ∷ es) (suc i) x h e = known_at m es i x h.1 e

from_at : (s : State) (m : Known) (es : List (ℕ × Entry)) (i : ℕ) (x : Entry) → Some x ≡ what_at es i
    → are_automatic s (map (name_shown m) (drop i es)) ≡ (is_automatic s (meaning_in m x) && are_automatic s (map (name_shown m) (drop (suc i) es)))
from_at s m [] i x e = cc
from_at s m (y ∷ es) zero x e = ap (λ (z : Entry). is_automatic s (meaning_in m z) && are_automatic s (map (name_shown m) es)) (some_is y.1 x (sym e))
  where
    some_is : (a b : Entry) → Some a ≡ Some b → a ≡ b
    some_is a b e = cc
from_at s m (y ∷ es) (suc i) x e = from_at s m es i x e

pub rest_next : (s : State) (m : Known) (es : List (ℕ × Entry)) (i : ℕ) (x : Entry) → Some x ≡ what_at es i → is_automatic s (meaning_in m x) ≡ true
    → are_automatic s (map (name_shown m) (drop (i + 1) es)) ≡ are_automatic s (map (name_shown m) (drop i es))
rest_next s m es i x e h =
    let next : suc i ≡ i + 1 = omega arith in
    ap (λ k. are_automatic s (map (name_shown m) (drop k es))) (sym next) ∙ sym (from_at s m es i x e ∙ ap (λ b. b && are_automatic s (map (name_shown m) (drop (suc i) es))) h)

pub rest_stops : (s : State) (m : Known) (es : List (ℕ × Entry)) (i : ℕ) (x : Entry) → Some x ≡ what_at es i → is_automatic s (meaning_in m x) ≡ false
    → are_automatic s (map (name_shown m) (drop i es)) ≡ false
rest_stops s m es i x e h = from_at s m es i x e ∙ ap (λ b. b && are_automatic s (map (name_shown m) (drop (suc i) es))) h

all_dropped : (s : State) (m : Known) (es : List (ℕ × Entry)) (i : ℕ) → length es ≤ i → are_automatic s (map (name_shown m) (drop i es)) ≡ true
all_dropped s m [] zero h = refl
all_dropped s m [] (suc i) h = refl
all_dropped s m (e ∷ es) zero h = absurd (omega (arith, h))
all_dropped s m (e ∷ es) (suc i) h = all_dropped s m es i (omega (arith, h))

and_false : (b : Bool) → (b && false) ≡ false
and_false true = refl
and_false false = refl

-- ---- the innermost scope

abbrev alone_in : State → Scope → Bool
alone_in z x = are_automatic z x.names && (length x.tags == 0)

alone_shown : (texts : List (List ℕ)) (m : Stored) (s : Raw) → IsOpen m s
    → automatic_alone (state_of texts false s m) ≡ (are_automatic (state_of texts false s m) (map (name_shown m.known) (raw_innermost s.scopes).names) && (length (raw_innermost s.scopes).tags == 0))
alone_shown texts m s h =
    let z = state_of texts false s m in
    let x = raw_innermost s.scopes in
    ap (alone_in z) (innermost_shown m.known s.scopes h.some)
    ∙ ap (λ k. are_automatic z (map (name_shown m.known) x.names) && (k == 0)) (length-map x.tags (tag_shown m.known))

pub inner_names : (m : Stored) (s : Raw) → IsOpen m s → Each (NameKnown m) (raw_innermost s.scopes).names
inner_names m s h = (inner_known m s h).0

-- a tag among them
pub has_tag : (texts : List (List ℕ)) (m : Stored) (s : Raw) (i : ℕ) → IsOpen m s → None ≡ what_at (raw_innermost s.scopes).names i
    → i < length (raw_innermost s.scopes).names + length (raw_innermost s.scopes).tags → false ≡ automatic_alone (state_of texts false s m)
has_tag texts m s i h e lt =
    let z = state_of texts false s m in
    let x = raw_innermost s.scopes in
    let end : length x.names ≤ i = none_at x.names i e in
    let some : 0 < length x.tags = omega (arith, end, lt) in
    let no : (length x.tags == 0) ≡ false = grind (arith, nat_tests) in
    sym (alone_shown texts m s h ∙ ap (λ b. are_automatic z (map (name_shown m.known) x.names) && b) no ∙ and_false (are_automatic z (map (name_shown m.known) x.names)))

pub has_other : (texts : List (List ℕ)) (m : Stored) (s : Raw) (i : ℕ) (x : Entry) → IsOpen m s → Some x ≡ what_at (raw_innermost s.scopes).names i → is_automatic (state_of texts false s m) (meaning_in m.known x) ≡ false
    → are_automatic (state_of texts false s m) (map (name_shown m.known) (drop i (raw_innermost s.scopes).names)) ≡ are_automatic (state_of texts false s m) (map (name_shown m.known) (raw_innermost s.scopes).names)
    → false ≡ automatic_alone (state_of texts false s m)
has_other texts m s i x h e other same =
    let z = state_of texts false s m in
    let ns = (raw_innermost s.scopes).names in
    sym (alone_shown texts m s h ∙ ap (λ b. b && (length (raw_innermost s.scopes).tags == 0)) (sym same ∙ rest_stops z m.known ns i x e other))

pub all_are : (texts : List (List ℕ)) (m : Stored) (s : Raw) (i : ℕ) → IsOpen m s → i ≤ length (raw_innermost s.scopes).names
    → length (raw_innermost s.scopes).names + length (raw_innermost s.scopes).tags ≤ i
    → are_automatic (state_of texts false s m) (map (name_shown m.known) (drop i (raw_innermost s.scopes).names)) ≡ are_automatic (state_of texts false s m) (map (name_shown m.known) (raw_innermost s.scopes).names)
    → true ≡ automatic_alone (state_of texts false s m)
all_are texts m s i h within end same =
    let z = state_of texts false s m in
    let x = raw_innermost s.scopes in
    let names_end : length x.names ≤ i = omega (arith, end) in
    let none : length x.tags ≡ 0 = omega (arith, within, end) in
    sym (alone_shown texts m s h ∙ ap (λ b. b && (length x.tags == 0)) (sym same ∙ all_dropped z m.known x.names i names_end) ∙ ap (λ k. k == 0) none)
