-- A type name of one keyword that a unit has already.
use Rattle.std.proofs.Common.{◌≡◌, ◌<◌, ℕ, Bool, true, false, List, [], ◌∷◌, length, All, Option, Some, None, get_or, refl, sym, ap, subst, ◌∙◌, arith}
use Rattle.std.specs.Prelude.{is_some, if◌then◌else◌}
use Rattle.pv_token.specs.declared.token_table.Token.{Token}
use Rattle.pv_token.specs.declared.token_table.TokenKind.TheVariants as kind
use Rattle.pv_token.specs.declared.words.Word.{Word}
use Rattle.pv_tree.specs.declared.nodes.ListId.{ListId}
use Rattle.pv_tree.specs.declared.nodes.NodeId.{NodeId}
use Rattle.pv_tree.specs.declared.nodes.Spec.{Spec}
use Rattle.pv_tree.specs.Nodes.{specifier_of}
use Rattle.pv_tree.specs.Places.{is_plain_word}
use Rattle.pv_tree.specs.Syntax.{Keyword, TypeName, Tree, OfDeclaration, OfSpecifier, Absent}
use Rattle.pv_tree.specs.Tables.{Forest, Tables, tree_at, trees_of, trees_at, list_at, optional_at, is_specifier, HasList, Is}
use Rattle.pv_decl_forms.specs.Parts.{plain_of}
use Rattle.pv_decl_forms.specs.Pieces.{Piece}
use Rattle.pv_decl.proofs.Givens.{list_below}

-- ---- the keyword

word_if : (b : Bool) (w : Tree) (ts : List Token) → b ≡ true → ◌≡◌ {A = Piece} (if b then Some (w, ts) else None) (Some (w, ts))
word_if true w ts e = refl
word_if false w ts e = absurd cc

pub piece_same : (a b : Tree) (ts : List Token) → a ≡ b → ◌≡◌ {A = Piece} (Some (a, ts)) (Some (b, ts))
piece_same a b ts e = ap (λ (x : Tree). let y : Piece = Some (x, ts) in y) e

-- a node that is a keyword is what reading the keyword gives
pub word_plain : (f : Forest) (n : NodeId) (s : Spec) (w : Word) (here line : ℕ) → tree_at f n ≡ OfSpecifier (specifier_of f here s) → here ≡ line
    → ((g : Forest) (l : ℕ) → specifier_of g l s ≡ Keyword l w) → is_plain_word w ≡ true → (is_type : ℕ → Bool) (ts : List Token) → plain_of is_type line (kind.Word w) ts ≡ Some (tree_at f n, ts)
unfolding plain_of
word_plain f n s w here line tree same word plain is_type ts =
    word_if (is_plain_word w) (OfSpecifier (Keyword line w)) ts plain
    ∙ piece_same (OfSpecifier (Keyword line w)) (tree_at f n) ts (sym (tree ∙ ap (λ (l : ℕ). OfSpecifier (specifier_of f l s)) same ∙ ap OfSpecifier (word f line)))

-- ---- a list of one specifier

one_node : (ns : List NodeId) (d : NodeId) → length ns ≡ 1 → ns ≡ get_or ns 0 d ∷ []
one_node [] d e = absurd (omega (arith, e))
one_node (x ∷ []) d e = refl
one_node (x ∷ y ∷ ns) d e = absurd (omega (arith, e))

module _ (u : Tables) (specs : ListId) (ns : List NodeId) (d : NodeId) (same : ns ≡ list_at u.forest specs) (one : length ns ≡ 1) where
  listed : list_at u.forest specs ≡ get_or ns 0 d ∷ []
  listed = sym same ∙ one_node ns d one

  pub one_specifier : (n : ℕ) → n < length u.forest.trees → HasList u.forest n is_specifier specs → Is u is_specifier (get_or ns 0 d)
  one_specifier n lt h =
      let all : All (λ m. Is u is_specifier m) (get_or ns 0 d ∷ []) = subst (All (λ m. Is u is_specifier m)) listed (list_below u.forest is_specifier n (length u.forest.trees) specs lt h).1 in
      all 0 d (omega arith)

  pub one_word : (name : NodeId) (line : ℕ) (o : Option NodeId) → is_some o ≡ false → tree_at u.forest name ≡ OfDeclaration (TypeName line (trees_at u.forest specs) (optional_at u.forest o))
      → tree_at u.forest name ≡ OfDeclaration (TypeName line (trees_of u.forest (get_or ns 0 d ∷ [])) Absent)
  one_word name line None h e = e ∙ ap (λ (l : List NodeId). OfDeclaration (TypeName line (trees_of u.forest l) Absent)) listed
  one_word name line (Some x) h e = absurd cc
