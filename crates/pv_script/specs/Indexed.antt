-- A bridge: how the lines of a script are found: by the number of the name, and the count.
use Rattle.std.specs.Prelude.{◌≡◌, ℕ, ◌+◌, ◌==◌, ◌&&◌, Bool, List, [], ◌∷◌, Option, None, Some, if◌then◌else◌, All, slice_get}
use Rattle.std.specs.Option.{option_map}
use Rattle.std.specs.declared.cmp.Ordering.{Ordering}
use Rattle.std.specs.Ordering.{nat_cmp, ordering_then}
use Rattle.std.specs.Map.{lookup}
use Rattle.std.specs.BTreeMap.{is_at}
use Rattle.std.specs.Str.{bytes_eq}
use Rattle.pv_script.specs.declared.script.Line.{Line}
use Rattle.pv_script.specs.Scripts.{NumberedLine}

-- the first line for the name and the count, which says where the request goes (C17 6.2.4p2)
abbrev pub line_for : List NumberedLine → List ℕ → ℕ → Option NumberedLine
line_for [] name k = None
line_for (e ∷ es) name k = if e.says.k == k && bytes_eq e.says.name name then Some e else line_for es name k

-- where the first one stands that passes: of the lines for a request the first decides (C17 6.2.4p2)
abbrev pub first_place : {X : Type 0} → (X → Bool) → List X → Option ℕ
first_place p [] = None
first_place p (x ∷ xs) = if p x then Some 0 else option_map (λ i. i + 1) (first_place p xs)

-- the line has this number of a name, and this count: both say which instance is asked for (C17 6.2.4p2)
abbrev pub has_key : ℕ × ℕ → Line → Bool
has_key q l = l.number == q.0 && l.k == q.1

-- keys of requests for instances (C17 6.2.4p2) in order: by the name's number, and then by the count
abbrev pub key_cmp : ℕ × ℕ → ℕ × ℕ → Ordering
key_cmp p q = ordering_then (nat_cmp p.0 q.0) (nat_cmp p.1 q.1)

-- the line's name has its number among the names; equal texts are one identifier (C17 6.4.2.1p6)
pub record IsNamed (names : List (List ℕ)) (l : Line) : Type 0 where
  pub named : slice_get names l.number ≡ Some l.name.items

-- what the ordered map has at a key is where the first line for that request stands (C17 6.2.4p2)
pub record IsIndexed (names : List (List ℕ)) (lines : List Line) (entries : List ((ℕ × ℕ) × ℕ)) : Type 0 where
  pub known : All (IsNamed names) lines
  pub places : (q : ℕ × ℕ) → lookup (is_at (key_cmp q)) entries ≡ first_place (has_key q) lines
