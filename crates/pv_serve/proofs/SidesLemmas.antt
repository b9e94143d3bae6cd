-- Sides of pairs (the memory model): a letter more of those that are told, and whether they are told.
use Rattle.std.proofs.Common.{◌≡◌, ℕ, ◌+◌, Bool, true, false, List, [], ◌∷◌, ◌++◌, take, get_or, refl, sym, ap, ◌∙◌}
use Rattle.std.specs.Prelude.{Option, Some, None, is_some, is_none, not, map, slice_get}
use Rattle.std.proofs.lemmas.List.{take_more, map-append}
use Rattle.std.proofs.lemmas.Option.{slice_get_within, get_or_from_slice_get}
use Rattle.pv_exec.specs.declared.sides.Side.{Side}
use Rattle.pv_exec.specs.Answering.{highs}
use Rattle.pv_serve.specs.Report.{letter_of}

pub next_letter : (sides : List Side) (k : ℕ) (s : Side) (letter : ℕ) (now new : List ℕ) → slice_get sides k ≡ Some s → letter ≡ letter_of s → now ≡ map letter_of (take k sides)
    → new ≡ now ++ letter ∷ [] → new ≡ map letter_of (take (k + 1) sides)
next_letter sides k s letter now new there is so more =
    let got : get_or sides k s ≡ s = get_or_from_slice_get sides k s s there in
    let e1 : take (k + 1) sides ≡ take k sides ++ s ∷ [] = take_more sides k s (slice_get_within sides k s there) ∙ ap (λ (x : Side). take k sides ++ x ∷ []) got in
    let e2 : map letter_of (take (k + 1) sides) ≡ map letter_of (take k sides) ++ letter_of s ∷ [] = ap (map letter_of) e1 ∙ map-append letter_of (take k sides) (s ∷ []) in
    more ∙ ap (λ (l : List ℕ). l ++ letter ∷ []) so ∙ ap (λ (c : ℕ). map letter_of (take k sides) ++ c ∷ []) is ∙ sym e2

-- what `is_none` answers of sides that may be given
pub are_listed : {R : Type 0} (o : Option R) (view : R → List Side) (listed : Bool) → is_some o ≡ not listed → listed ≡ is_none (highs o view)
are_listed None view true e = refl
are_listed None view false e = absurd cc
are_listed (Some r) view true e = absurd cc
are_listed (Some r) view false e = refl
