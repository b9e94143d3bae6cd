-- A bridge: what a table of type names has at each place (6.7.7).
use Rattle.std.specs.Prelude.{◌≡◌, ◌≤◌, ◌<◌, ◌⊎◌, ℕ, suc, Bool, None, List, ◌∷◌, drop}
use Rattle.pv_token.specs.declared.token_table.Token.{Token}
use Rattle.pv_token.specs.declared.token_table.TokenKind.TheVariants as kind
use Rattle.pv_token.specs.declared.marks.Mark.TheVariants as mark
use Rattle.pv_tree.specs.Tables.{Tables}
use Rattle.pv_tree.specs.TypeNames.{TypeMap, names_of}
use Rattle.pv_decl_forms.specs.Answers.{piece_from}
use Rattle.pv_decl_forms.specs.Reader.{type_name}

-- 6.7.7: behind each `(` from one place to before another, the longest type name of at most so much depth, where those within it are
-- the table's own; at no other place any
pub record AreTypeNames (is_type : ℕ → Bool) (types : TypeMap) (u : Tables) (tokens : List Token) (deep from to : ℕ) : Type 0 where
  pub behind : (at : ℕ) (o : Token) (ts : List Token) → from ≤ suc at → suc at < to → drop at tokens ≡ o ∷ ts → o.kind ≡ kind.Mark mark.OpenParen
      → piece_from u.forest tokens (types (suc at)) ≡ type_name (names_of is_type types u.forest tokens) deep ts
  pub elsewhere : (at : ℕ) (o : Token) (ts : List Token) → drop at tokens ≡ o ∷ ts → (o.kind ≡ kind.Mark mark.OpenParen → ⊥) → types (suc at) ≡ None
  pub outside : (at : ℕ) → (at < from) ⊎ (to ≤ at) → types at ≡ None
