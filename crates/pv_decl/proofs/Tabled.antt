-- What a table of type names promises, from what reading gives.
use Rattle.std.proofs.Common.{◌≡◌, ◌≤◌, ◌<◌, ◌+◌, ◌⊎◌, ℕ, zero, suc, true, false, List, [], ◌∷◌, length, drop, Option, Some, None, refl, sym, ap, ◌∙◌, arith, nat_eq}
use Rattle.std.specs.Prelude.{min}
use Rattle.indexmap.specs.IndexSet.{IndexSet, contains}
use Rattle.pv_token.specs.declared.token_table.Token.{Token}
use Rattle.pv_token.specs.declared.token_table.TokenKind.TheVariants as kind
use Rattle.pv_token.specs.declared.marks.Mark.TheVariants as mark
use Rattle.pv_tree.specs.declared.nodes.NodeId.{NodeId}
use Rattle.pv_tree.specs.Tables.{Tables, declaration_at, is_declaration, Is}
use Rattle.pv_tree.specs.TypeNames.{TypeMap, names_of, AreTied}
use Rattle.pv_expr_forms.specs.Known.{names_in}
use Rattle.pv_expr_forms.specs.Reader.{is_open}
use Rattle.pv_expr_forms.specs.Spelled.{IsSpelled, IsLongest, IsOnly, NothingSpells}
use Rattle.pv_expr_forms.proofs.Marks.{open_is}
use Rattle.pv_decl_forms.specs.Answers.{piece_from, IsThere, Answers}
use Rattle.pv_decl.specs.NameTables.{NameTable, type_map, opens, is_behind_open, EachBehindOpen}
use Rattle.pv_decl_forms.specs.Grammar.{SpellsTypeName}
use Rattle.pv_decl_forms.specs.Reader.{type_name}
use Rattle.pv_decl_forms.specs.TypeNames.{AreTypeNames}
use Rattle.pv_decl.proofs.Filling.{cut_by, behind_it, open_at, not_open, IsFilled, filled_outside, filled_elsewhere, filled_whole}
use Rattle.pv_decl_forms.proofs.Promises.{type_name_found, type_name_most, type_name_only, type_name_none, type_name_read}

-- a place, and what a table has there
record IsAnswered {S : Type 0} (typedefs : IndexSet ℕ S) (types : TypeMap) (u : Tables) (tokens : List Token) (deep at : ℕ) : Type 0 where
  place : at ≤ length tokens
  answer : Answers u is_declaration tokens (types at) (type_name (names_in typedefs types u tokens) deep (drop at tokens))

module _ {S : Type 0} (typedefs : IndexSet ℕ S) (types : TypeMap) (u : Tables) (tokens : List Token) (deep from to : ℕ) (tied : AreTied types u tokens)
    (table : AreTypeNames (contains nat_eq typedefs) types u tokens deep from to) where
  there : (at : ℕ) (o : Option (NodeId × ℕ)) → types at ≡ o → IsThere u is_declaration tokens o
  there at None e = tt
  there at (Some x) e = let k = tied at x e in (k.node, k.place)

  by_token : (at : ℕ) (xs : List Token) → drop at tokens ≡ xs → from ≤ suc at → suc at < to → opens xs ≡ true → IsAnswered typedefs types u tokens deep (suc at)
  unfolding names_in
  by_token at [] e low high stands = absurd cc
  by_token at (o ∷ ts) e low high stands =
      let b = behind_it tokens at o ts e in
      let next : at + 1 ≡ suc at = omega arith in
      let rest : ts ≡ drop (suc at) tokens = b.1 ∙ ap (λ (n : ℕ). drop n tokens) next in
      record {
        place = omega (arith, b.0);
        answer = record {
          is = table.behind at o ts low high e (open_is o.kind stands) ∙ ap (type_name (names_in typedefs types u tokens) deep) rest;
          there = there (suc at) (types (suc at)) refl;
        };
      }

  answered : (at : ℕ) → from ≤ at → at < to → is_behind_open tokens at ≡ true → IsAnswered typedefs types u tokens deep at
  answered zero low high stands = absurd cc
  answered (suc at) low high stands = by_token at (drop at tokens) refl low high stands

  table_found : EachBehindOpen tokens from to (λ at. IsSpelled (SpellsTypeName (names_in typedefs types u tokens) deep tokens at) (Is u is_declaration) (declaration_at u.forest) tokens at (types at))
  unfolding names_in
  table_found at low high stands =
      let k = answered at low high stands in
      type_name_found (contains nat_eq typedefs) types u u tokens at deep tied k.place (types at) k.answer

  table_longest : EachBehindOpen tokens from to (λ at. IsLongest (SpellsTypeName (names_in typedefs types u tokens) deep tokens at) tokens at (types at))
  unfolding names_in
  table_longest at low high stands =
      let k = answered at low high stands in
      type_name_most (contains nat_eq typedefs) types u u tokens at deep tied k.place (types at) k.answer

  table_only : EachBehindOpen tokens from to (λ at. IsOnly (SpellsTypeName (names_in typedefs types u tokens) deep tokens at) (declaration_at u.forest) (types at))
  unfolding names_in
  table_only at low high stands =
      let k = answered at low high stands in
      type_name_only (contains nat_eq typedefs) types u u tokens at deep tied k.place (types at) k.answer

  table_none : EachBehindOpen tokens from to (λ at. types at ≡ None → NothingSpells (SpellsTypeName (names_in typedefs types u tokens) deep tokens at) tokens at)
  unfolding names_in
  table_none at low high stands =
      let k = answered at low high stands in
      type_name_none (contains nat_eq typedefs) types u u tokens at deep tied k.place (types at) k.answer

-- a table that is filled to its first place
module _ {S : Type 0} (typedefs : IndexSet ℕ S) (u : Tables) (tokens : List Token) (deep : ℕ) (table : NameTable) (at from to : ℕ)
    (filled : IsFilled (contains nat_eq typedefs) u tokens deep table.to table.found at) (reached : at ≤ from) (low : (from ≤ at) ⊎ (table.to ≤ at)) (cut : table.to ≡ min to (length tokens)) where
  whole : AreTypeNames (contains nat_eq typedefs) (type_map table) u tokens deep from to
  whole = let k = cut_by table.to to (length tokens) cut in filled_whole (contains nat_eq typedefs) u tokens deep table.to table.found at from to filled reached low k.2 k.0

  pub whole_found : EachBehindOpen tokens from to (λ p. IsSpelled (SpellsTypeName (names_in typedefs (type_map table) u tokens) deep tokens p) (Is u is_declaration) (declaration_at u.forest) tokens p (type_map table p))
  whole_found = table_found typedefs (type_map table) u tokens deep from to filled.tied whole

  pub whole_longest : EachBehindOpen tokens from to (λ p. IsLongest (SpellsTypeName (names_in typedefs (type_map table) u tokens) deep tokens p) tokens p (type_map table p))
  whole_longest = table_longest typedefs (type_map table) u tokens deep from to filled.tied whole

  pub whole_only : EachBehindOpen tokens from to (λ p. IsOnly (SpellsTypeName (names_in typedefs (type_map table) u tokens) deep tokens p) (declaration_at u.forest) (type_map table p))
  whole_only = table_only typedefs (type_map table) u tokens deep from to filled.tied whole

  pub whole_none : EachBehindOpen tokens from to (λ p. type_map table p ≡ None → NothingSpells (SpellsTypeName (names_in typedefs (type_map table) u tokens) deep tokens p) tokens p)
  whole_none = table_none typedefs (type_map table) u tokens deep from to filled.tied whole

  pub whole_elsewhere : (p : ℕ) → is_behind_open tokens p ≡ false → type_map table p ≡ None
  whole_elsewhere =
      let k = cut_by table.to to (length tokens) cut in
      filled_elsewhere (contains nat_eq typedefs) u tokens deep table.to table.found at from to filled reached low k.2 k.0

  pub whole_outside : (p : ℕ) → (p < from) ⊎ (to ≤ p) → type_map table p ≡ None
  whole_outside = let k = cut_by table.to to (length tokens) cut in filled_outside (contains nat_eq typedefs) u tokens deep table.to table.found at from to filled reached low k.2 k.0

-- what a table promises is what reading gives
module _ {S : Type 0} (typedefs : IndexSet ℕ S) (types : TypeMap) (u : Tables) (tokens : List Token) (deep from to : ℕ) (tied : AreTied types u tokens)
    (found : EachBehindOpen tokens from to (λ at. IsSpelled (SpellsTypeName (names_in typedefs types u tokens) deep tokens at) (Is u is_declaration) (declaration_at u.forest) tokens at (types at)))
    (longest : EachBehindOpen tokens from to (λ at. IsLongest (SpellsTypeName (names_in typedefs types u tokens) deep tokens at) tokens at (types at)))
    (none : EachBehindOpen tokens from to (λ at. types at ≡ None → NothingSpells (SpellsTypeName (names_in typedefs types u tokens) deep tokens at) tokens at))
    (elsewhere : (at : ℕ) → is_behind_open tokens at ≡ false → types at ≡ None) (outside : (at : ℕ) → (at < from) ⊎ (to ≤ at) → types at ≡ None) where
  read_behind : (at : ℕ) (o : Token) (ts : List Token) → from ≤ suc at → suc at < to → drop at tokens ≡ o ∷ ts → o.kind ≡ kind.Mark mark.OpenParen
      → piece_from u.forest tokens (types (suc at)) ≡ type_name (names_of (contains nat_eq typedefs) types u.forest tokens) deep ts
  unfolding names_in
  read_behind at o ts low high e paren =
      let b = behind_it tokens at o ts e in
      let stands : is_behind_open tokens (suc at) ≡ true = open_at tokens at o ts e ∙ ap is_open paren in
      let next : at + 1 ≡ suc at = omega arith in
      let rest : ts ≡ drop (suc at) tokens = b.1 ∙ ap (λ (n : ℕ). drop n tokens) next in
      let answer = type_name_read (contains nat_eq typedefs) types u u tokens (suc at) deep tied (omega (arith, b.0)) (types (suc at)) (found (suc at) low high stands) (longest (suc at) low high stands) (none (suc at) low high stands) in
      answer.is ∙ ap (type_name (names_of (contains nat_eq typedefs) types u.forest tokens) deep) (sym rest)

  pub are_read : AreTypeNames (contains nat_eq typedefs) types u tokens deep from to
  are_read = record {
    behind = read_behind;
    elsewhere = λ at o ts e other. elsewhere (suc at) (open_at tokens at o ts e ∙ not_open o.kind other);
    outside = outside;
  }
