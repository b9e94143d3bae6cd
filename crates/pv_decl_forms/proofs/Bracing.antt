-- Specifiers: keywords and typedef names, tags, and what stands in their braces.
use Rattle.std.proofs.Common.{◌≡◌, ◌<◌, ◌-◌, ℕ, zero, suc, List, [], ◌∷◌, length, Option, Some, None, option_and_then, refl, sym, ap, subst, ◌∙◌, arith, sub-one, nat_eq}
use Rattle.indexmap.specs.IndexSet.{IndexSet, contains}
use Rattle.pv_token.specs.declared.token_table.Token.{Token}
use Rattle.pv_token.specs.declared.token_table.TokenKind.{TokenKind}
use Rattle.pv_token.specs.declared.token_table.TokenKind.TheVariants as kind
use Rattle.pv_token.specs.declared.words.Word.{Word}
use Rattle.pv_token.specs.declared.words.Word.TheVariants as word
use Rattle.pv_tree.specs.declared.nodes.NodeId.{NodeId}
use Rattle.pv_tree.specs.Syntax.{Composite, Enumeration, OfSpecifier, Trees, NoTrees}
use Rattle.pv_tree.specs.Spells.{Names}
use Rattle.pv_tree.specs.Places.{Place, Specifiers, Members, Enumerators}
use Rattle.pv_tree.specs.Tables.{Tables, is_specifier}
use Rattle.pv_tree.specs.TypeNames.{TypeMap, names_of}
use Rattle.pv_expr_forms.specs.Follows.{or_else}
use Rattle.pv_expr_forms.specs.Known.{names_in}
use Rattle.pv_expr_forms.specs.Reader.{after}
use Rattle.pv_decl_forms.specs.declared.forms.CompositeWord.{CompositeWord}
use Rattle.pv_decl_forms.specs.declared.forms.CompositeWord.TheVariants as composite
use Rattle.pv_decl_forms.specs.declared.forms.TagWord.{TagWord}
use Rattle.pv_decl_forms.specs.declared.forms.TagWord.TheVariants as tag_word
use Rattle.pv_decl_forms.specs.Pieces.{Piece, Reads, is_open_brace, row_for, row, comma_list}
use Rattle.pv_decl_forms.specs.Reader.{listed_in_braces, row_in_braces, tag_at, tag_alone, behind_open_brace, with_tag, specifier_of, specifier, nothing, readers}
use Rattle.pv_decl_forms.specs.Parts.{word_of_composite, word_of_tag, tag_word_of, plain_of, within}
use Rattle.pv_decl_forms.specs.Answers.{Answers}
use Rattle.pv_decl_forms.proofs.Answered.{got_none}
use Rattle.pv_decl_forms.proofs.Rounds.{specifier_by, leaf_by}

-- ---- what reads the parts of a specifier

within_zero : (names : Names) (place : Place) (ts : List Token) → nothing place ts ≡ within names zero place ts
unfolding within
within_zero names place ts = refl

within_suc : (names : Names) (depth : ℕ) (place : Place) (ts : List Token) → readers names depth place ts ≡ within names (suc depth) place ts
unfolding within
within_suc names depth place ts = refl

nothing_within : (names : Names) → nothing ≡ within names zero
nothing_within names = λ i place ts. within_zero names place ts i

readers_within : (names : Names) (depth : ℕ) → readers names depth ≡ within names (suc depth)
readers_within names depth = λ i place ts. within_suc names depth place ts i

parts_within : (names : Names) (depth : ℕ) → 0 < depth → readers names (depth - 1) ≡ within names depth
parts_within names zero h = absurd (omega arith)
parts_within names (suc depth) h = rw sub-one (readers_within names depth)

specifiers_are : (names : Names) (depth : ℕ) (ts : List Token) → specifier names (within names depth) ts ≡ readers names depth Specifiers ts
specifiers_are names zero ts = ap (λ (r : Reads). specifier names r ts) (sym (nothing_within names)) ∙ sym (leaf_by names ts)
specifiers_are names (suc depth) ts = ap (λ (r : Reads). specifier names r ts) (sym (readers_within names depth)) ∙ sym (specifier_by names depth ts)

-- ---- from the first token on

pub specifier_end : (names : Names) (depth : ℕ) (ts : List Token) → ts ≡ [] → None ≡ readers names depth Specifiers ts
unfolding specifier
specifier_end names depth ts e = specifiers_are names depth [] ∙ ap (readers names depth Specifiers) (sym e)

from_first : (names : Names) (depth : ℕ) (ts : List Token) (t : Token) (rest : List Token) → ts ≡ t ∷ rest → specifier_of names (within names depth) t.line t.kind rest ≡ readers names depth Specifiers ts
unfolding specifier
from_first names depth ts t rest e = specifiers_are names depth (t ∷ rest) ∙ ap (readers names depth Specifiers) (sym e)

plain_by : (names : Names) (below : Reads) (line : ℕ) (k : TokenKind) (ts : List Token) → tag_word_of k ≡ None → plain_of names.is_type line k ts ≡ specifier_of names below line k ts
unfolding plain_of specifier_of
plain_by names below line (kind.Name n) ts e = refl
plain_by names below line (kind.Word word.Struct) ts e = absurd cc
plain_by names below line (kind.Word word.Union) ts e = absurd cc
plain_by names below line (kind.Word word.Enum) ts e = absurd cc
plain_by names below line (kind.Word _) ts e = refl
plain_by names below line _ ts e = refl

pub specifier_plain : {S : Type 0} (typedefs : IndexSet ℕ S) (types : TypeMap) (u : Tables) (tokens : List Token) (depth : ℕ) (ts : List Token) (t : Token) (rest : List Token) → ts ≡ t ∷ rest → tag_word_of t.kind ≡ None
    → plain_of (contains nat_eq typedefs) t.line t.kind rest ≡ readers (names_in typedefs types u tokens) depth Specifiers ts
unfolding names_in names_of
specifier_plain typedefs types u tokens depth ts t rest e h =
    let names = names_in typedefs types u tokens in
    plain_by names (within names depth) t.line t.kind rest h ∙ from_first names depth ts t rest e

tagged_by : (names : Names) (below : Reads) (line : ℕ) (k : TokenKind) (ts : List Token) (w : TagWord) → tag_word_of k ≡ Some w → with_tag below line (word_of_tag w) (tag_at ts) ≡ specifier_of names below line k ts
unfolding specifier_of
tagged_by names below line (kind.Word word.Struct) ts w e = let p : w ≡ tag_word.Composite composite.Struct = cc in ap (λ (x : TagWord). with_tag below line (word_of_tag x) (tag_at ts)) p
tagged_by names below line (kind.Word word.Union) ts w e = let p : w ≡ tag_word.Composite composite.Union = cc in ap (λ (x : TagWord). with_tag below line (word_of_tag x) (tag_at ts)) p
tagged_by names below line (kind.Word word.Enum) ts w e = let p : w ≡ tag_word.Enum = cc in ap (λ (x : TagWord). with_tag below line (word_of_tag x) (tag_at ts)) p
tagged_by names below line _ ts w e = absurd cc

pub specifier_tagged : (names : Names) (depth : ℕ) (ts : List Token) (t : Token) (rest : List Token) → ts ≡ t ∷ rest → (w : TagWord) → tag_word_of t.kind ≡ Some w
    → with_tag (within names depth) t.line (word_of_tag w) (tag_at rest) ≡ readers names depth Specifiers ts
specifier_tagged names depth ts t rest e w h = tagged_by names (within names depth) t.line t.kind rest w h ∙ from_first names depth ts t rest e

-- ---- braces, or a tag alone

module _ (v : Tables) (tokens : List Token) (below : Reads) (line : ℕ) (w : Word) (here : List Token) (tag : Option ℕ) (mid : List Token) (is : ◌≡◌ {A = Option ℕ × List Token} (tag, mid) (tag_at here))
    (answer : Option (NodeId × ℕ)) (a : Answers v is_specifier tokens answer (option_and_then (behind_open_brace below line w tag) (after is_open_brace mid))) where
  either : (o : Piece) → o ≡ option_and_then (behind_open_brace below line w tag) (after is_open_brace mid) → or_else o (tag_alone line w tag mid) ≡ with_tag below line w (tag_at here)
  unfolding with_tag
  either o e = ap (λ (p : Piece). or_else p (tag_alone line w tag mid)) e ∙ ap (with_tag below line w) is

  pub tagged_braced : (x : NodeId × ℕ) → answer ≡ Some x → Answers v is_specifier tokens (Some x) (with_tag below line w (tag_at here))
  tagged_braced x e =
      let b : Answers v is_specifier tokens (Some x) (option_and_then (behind_open_brace below line w tag) (after is_open_brace mid)) = subst (λ (o : Option (NodeId × ℕ)). Answers v is_specifier tokens o (option_and_then (behind_open_brace below line w tag) (after is_open_brace mid))) e a in
      record { is = either _ b.is; there = b.there }

  pub tagged_alone : answer ≡ None → tag_alone line w tag mid ≡ with_tag below line w (tag_at here)
  tagged_alone e = either None (got_none v is_specifier tokens answer _ a e)

-- ---- what stands in braces

row_nothing : (steps : ℕ) (place : Place) (ts : List Token) → ◌≡◌ {A = Trees × List Token} (NoTrees, ts) (row_for steps (nothing place) NoTrees ts)
unfolding row_for
row_nothing zero place ts = refl
row_nothing (suc steps) place ts = refl

braced_nothing : (line : ℕ) (w : TagWord) (tag : Option ℕ) (ts : List Token) → None ≡ behind_open_brace nothing line (word_of_tag w) tag ts
unfolding behind_open_brace row comma_list listed_in_braces row_in_braces
braced_nothing line (tag_word.Composite composite.Struct) tag ts = ap (row_in_braces (λ members. OfSpecifier (Composite line word.Struct tag members))) (row_nothing (length ts) Members ts)
braced_nothing line (tag_word.Composite composite.Union) tag ts = ap (row_in_braces (λ members. OfSpecifier (Composite line word.Union tag members))) (row_nothing (length ts) Members ts)
braced_nothing line tag_word.Enum tag ts = refl

braced_enum : (below : Reads) (line : ℕ) (w : TagWord) (tag : Option ℕ) (ts : List Token) → w ≡ tag_word.Enum
    → listed_in_braces (λ trees comma. OfSpecifier (Enumeration line tag trees comma)) (comma_list (below Enumerators) ts) ≡ behind_open_brace below line (word_of_tag w) tag ts
unfolding behind_open_brace
braced_enum below line w tag ts e = ap (λ (x : TagWord). behind_open_brace below line (word_of_tag x) tag ts) (sym e)

composite_by : (below : Reads) (line : ℕ) (c : CompositeWord) (tag : Option ℕ) (ts : List Token)
    → row_in_braces (λ trees. OfSpecifier (Composite line (word_of_composite c) tag trees)) (row (below Members) NoTrees ts) ≡ behind_open_brace below line (word_of_composite c) tag ts
unfolding behind_open_brace
composite_by below line composite.Struct tag ts = refl
composite_by below line composite.Union tag ts = refl

braced_composite : (below : Reads) (line : ℕ) (w : TagWord) (c : CompositeWord) (tag : Option ℕ) (ts : List Token) → w ≡ tag_word.Composite c
    → row_in_braces (λ trees. OfSpecifier (Composite line (word_of_composite c) tag trees)) (row (below Members) NoTrees ts) ≡ behind_open_brace below line (word_of_tag w) tag ts
braced_composite below line w c tag ts e = composite_by below line c tag ts ∙ ap (λ (x : TagWord). behind_open_brace below line (word_of_tag x) tag ts) (sym e)

module _ (names : Names) (depth line : ℕ) (w : TagWord) (tag : Option ℕ) (ts : List Token) where
  pub no_brace : after is_open_brace ts ≡ None → None ≡ option_and_then (behind_open_brace (within names depth) line (word_of_tag w) tag) (after is_open_brace ts)
  no_brace e = ap (option_and_then (behind_open_brace (within names depth) line (word_of_tag w) tag)) (sym e)

  module _ (rest : List Token) (e : after is_open_brace ts ≡ Some rest) where
    behind_brace : (o : Piece) → o ≡ behind_open_brace (within names depth) line (word_of_tag w) tag rest → o ≡ option_and_then (behind_open_brace (within names depth) line (word_of_tag w) tag) (after is_open_brace ts)
    behind_brace o h = h ∙ ap (option_and_then (behind_open_brace (within names depth) line (word_of_tag w) tag)) (sym e)

    pub no_depth : depth ≡ 0 → None ≡ option_and_then (behind_open_brace (within names depth) line (word_of_tag w) tag) (after is_open_brace ts)
    no_depth z = behind_brace None
        (braced_nothing line w tag rest
        ∙ ap (λ (r : Reads). behind_open_brace r line (word_of_tag w) tag rest) (nothing_within names)
        ∙ ap (λ (d : ℕ). behind_open_brace (within names d) line (word_of_tag w) tag rest) (sym z))

    pub enumerators_in : 0 < depth → w ≡ tag_word.Enum
        → listed_in_braces (λ trees comma. OfSpecifier (Enumeration line tag trees comma)) (comma_list (readers names (depth - 1) Enumerators) rest) ≡ option_and_then (behind_open_brace (within names depth) line (word_of_tag w) tag) (after is_open_brace ts)
    enumerators_in positive is = behind_brace _ (braced_enum (readers names (depth - 1)) line w tag rest is ∙ ap (λ (r : Reads). behind_open_brace r line (word_of_tag w) tag rest) (parts_within names depth positive))

    pub members_in : 0 < depth → (c : CompositeWord) → w ≡ tag_word.Composite c
        → row_in_braces (λ trees. OfSpecifier (Composite line (word_of_composite c) tag trees)) (row (readers names (depth - 1) Members) NoTrees rest) ≡ option_and_then (behind_open_brace (within names depth) line (word_of_tag w) tag) (after is_open_brace ts)
    members_in positive c is = behind_brace _ (braced_composite (readers names (depth - 1)) line w c tag rest is ∙ ap (λ (r : Reads). behind_open_brace r line (word_of_tag w) tag rest) (parts_within names depth positive))
