-- A bridge: what functions answer that do a part of what Table says.
use Rattle.std.specs.Prelude.{if◌then◌else◌, ◌++◌, ◌∷◌, nat_eq, ℕ, List, []}
use Rattle.std.specs.Cmp.Lexicographic.{pointwise}
use Rattle.std.specs.List.{list_any, flat_map}
use Rattle.pv_token.specs.Table.{text_of}
use Rattle.pv_token.specs.Said.{Spelt}

-- A name that is new goes behind the others; two identifiers are one where all bytes are the same (6.4.2.1p5).
abbrev pub with_name : List (List ℕ) → List ℕ → List (List ℕ)
with_name names name = if list_any (pointwise nat_eq name) names then names else names ++ name ∷ []

-- Every string literal, in order; adjacent ones stay apart (6.4.5: they are joined in a later phase, 5.1.1.2p1).
abbrev pub texts_of : List Spelt → List (List ℕ)
texts_of ss = flat_map (λ s. text_of s.said) ss
