-- Parts that expressions stand in.
use Rattle.std.proofs.Common.{◌≡◌, ◌≤◌, ℕ, zero, suc, Bool, true, false, List, [], ◌∷◌, length, drop, Option, Some, None, option_map, refl, sym, ap, ◌∙◌, nat_eq}
use Rattle.std.specs.Prelude.{IfSome}
use Rattle.indexmap.specs.IndexSet.{IndexSet, contains}
use Rattle.pv_token.specs.declared.token_table.Token.{Token}
use Rattle.pv_tree.specs.declared.nodes.NodeId.{NodeId}
use Rattle.pv_tree.specs.Syntax.{ExpressionTree, Enumerator, Tree, OfExpression, OfDeclaration, OptionalTree, Absent, Present}
use Rattle.pv_tree.specs.Tables.{Tables, tree_at, as_expression, optional_at, is_expression, is_declarator, Is, Extends}
use Rattle.pv_tree.specs.Places.{Constants, Enumerators}
use Rattle.pv_tree.specs.Spells.{Names}
use Rattle.pv_tree.specs.TypeNames.{TypeMap, names_of}
use Rattle.pv_tree.proofs.Kept.{tree_kept}
use Rattle.pv_expr_forms.specs.Reader.{read, after}
use Rattle.pv_expr_forms.specs.Known.{names_in}
use Rattle.pv_expr_forms.specs.Answers.{Answers as ExpressionAnswers}
use Rattle.pv_decl_forms.specs.Pieces.{Piece, Reads, is_equals, part_if_any, value}
use Rattle.pv_decl_forms.specs.Declarators.{behind_size, size_behind}
use Rattle.pv_decl_forms.specs.Reader.{name_of, enumerator, enumerator_of, node_readers, leaves, with_parts, readers}
use Rattle.pv_decl_forms.specs.Parts.{array_of}
use Rattle.pv_decl_forms.specs.Answers.{Answers}
use Rattle.pv_decl_forms.specs.Rows.{MayBeAnswered}
use Rattle.pv_decl_forms.proofs.Answered.{got, got_none}

-- ---- constant expressions

pub tree_is : (t : Tree) → is_expression t ≡ true → OfExpression (as_expression t) ≡ t
tree_is (OfExpression a) e = refl
tree_is _ e = absurd cc

abbrev pub as_piece : Option (ExpressionTree × List Token) → Piece
as_piece o = option_map (λ x. (OfExpression x.0, x.1)) o

pub constants_are : (names : Names) (depth : ℕ) (ts : List Token) → as_piece (read names depth 3 ts) ≡ readers names depth Constants ts
unfolding readers with_parts leaves node_readers read
constants_are names zero ts = refl
constants_are names (suc depth) ts = refl

pub constant_answers : (u : Tables) (tokens : List Token) (names : Names) (depth : ℕ) (ts : List Token) (answer : Option (NodeId × ℕ))
    → ExpressionAnswers u tokens answer (read names depth 3 ts) → Answers u is_expression tokens answer (readers names depth Constants ts)
constant_answers u tokens names depth ts None a = record { is = ap as_piece a.is ∙ constants_are names depth ts; there = tt }
constant_answers u tokens names depth ts (Some x) a = record {
  is = ap (λ (t : Tree). Some (t, drop x.1 tokens)) (sym (tree_is (tree_at u.forest x.0) a.there.0.1)) ∙ ap as_piece a.is ∙ constants_are names depth ts;
  there = a.there;
}

-- ---- parts that may be left out

pub optional_kept : (u v : Tables) (kind : Tree → Bool) (o : Option NodeId) → Extends u v → IfSome o (λ n. Is u kind n) → optional_at v.forest o ≡ optional_at u.forest o
optional_kept u v kind None e h = refl
optional_kept u v kind (Some n) e h = ap (λ (t : Tree). Present t) (tree_kept u v n e h.0)

module _ (u v : Tables) (tokens : List Token) (at line : ℕ) (below : Reads) (left : Option NodeId) (keeps : Extends u v) (there : IfSome left (λ n. Is u is_declarator n))
    (answer : Option (NodeId × ℕ)) (a : Answers v is_expression tokens answer (below Constants (drop at tokens))) where
  abbrev Whole : Piece
  Whole = size_behind (array_of line (optional_at u.forest left)) below (drop at tokens)

  from_parts : (o : Piece) → o ≡ below Constants (drop at tokens) → behind_size (array_of line (optional_at v.forest left)) (part_if_any (drop at tokens) o) ≡ Whole
  unfolding size_behind
  from_parts o e =
      ap (λ (d : OptionalTree). behind_size (array_of line d) (part_if_any (drop at tokens) o)) (optional_kept u v is_declarator left keeps there)
      ∙ ap (λ (p : Piece). behind_size (array_of line (optional_at u.forest left)) (part_if_any (drop at tokens) p)) e

  pub array_some : (n : NodeId) (next : ℕ) → answer ≡ Some (n, next) → behind_size (array_of line (optional_at v.forest left)) (Present (tree_at v.forest n), drop next tokens) ≡ Whole
  array_some n next e = from_parts (Some (tree_at v.forest n, drop next tokens)) (got v is_expression tokens answer _ n next a e).0

  pub array_none : answer ≡ None → behind_size (array_of line (optional_at v.forest left)) (Absent, drop at tokens) ≡ Whole
  array_none e = from_parts None (got_none v is_expression tokens answer _ a e)

-- ---- values behind `=`

module _ (u : Tables) (kind : Tree → Bool) (tokens : List Token) (at : ℕ) (place : at ≤ length tokens) (part : List Token → Piece) where
  module _ (behind : ℕ) (e : after is_equals (drop at tokens) ≡ Some (drop behind tokens)) (answer : Option (NodeId × ℕ)) (a : Answers u kind tokens answer (part (drop behind tokens))) where
    pub value_none : answer ≡ None → MayBeAnswered u kind tokens None at (value part (drop at tokens))
    unfolding value
    value_none h = record { is = rw (e, ← got_none u kind tokens answer _ a h) refl; there = tt; place = place }

    pub value_some : (n : NodeId) (next : ℕ) → answer ≡ Some (n, next) → MayBeAnswered u kind tokens (Some n) next (value part (drop at tokens))
    unfolding value
    value_some n next h =
        let g = got u kind tokens answer _ n next a h in
        record { is = rw (e, ← g.0) refl; there = g.1; place = g.2 }

-- ---- enumerators

pub enumerators_are : (names : Names) (depth : ℕ) (ts : List Token) → enumerator names (readers names depth) ts ≡ readers names depth Enumerators ts
unfolding readers with_parts enumerator enumerator_of leaves node_readers
enumerators_are names zero [] = refl
enumerators_are names zero (t ∷ ts) = refl
enumerators_are names (suc depth) [] = refl
enumerators_are names (suc depth) (t ∷ ts) = refl

pub type_in : {S : Type 0} (typedefs : IndexSet ℕ S) (types : TypeMap) (u : Tables) (tokens : List Token) (n : ℕ) → (names_in typedefs types u tokens).is_type n ≡ contains nat_eq typedefs n
unfolding names_in names_of
type_in typedefs types u tokens n = refl

pub enumerator_end : (names : Names) (depth : ℕ) (ts : List Token) → ts ≡ [] → None ≡ readers names depth Enumerators ts
unfolding enumerator
enumerator_end names depth ts e = rw e (enumerators_are names depth [])

module _ (names : Names) (depth : ℕ) (ts : List Token) (t : Token) (rest : List Token) (is : ts ≡ t ∷ rest) where
  pub enumerator_unnamed : name_of t.kind ≡ None → None ≡ readers names depth Enumerators ts
  unfolding enumerator enumerator_of
  enumerator_unnamed e = ap (λ (x : Option ℕ). enumerator_of names (readers names depth) t.line x rest) (sym e) ∙ enumerators_are names depth (t ∷ rest) ∙ ap (readers names depth Enumerators) (sym is)

  module _ (n : ℕ) (e : name_of t.kind ≡ Some n) where
    as_of : (o : Piece) → o ≡ enumerator_of names (readers names depth) t.line (Some n) rest → o ≡ readers names depth Enumerators ts
    unfolding enumerator
    as_of o h = h ∙ ap (λ (x : Option ℕ). enumerator_of names (readers names depth) t.line x rest) (sym e) ∙ enumerators_are names depth (t ∷ rest) ∙ ap (readers names depth Enumerators) (sym is)

    pub enumerator_type : names.is_type n ≡ true → None ≡ readers names depth Enumerators ts
    unfolding enumerator_of
    enumerator_type h = as_of None (rw h refl)

    pub enumerator_made : names.is_type n ≡ false → (v : Tables) (tokens : List Token) (o : Option NodeId) (end : ℕ) → MayBeAnswered v is_expression tokens o end (value (readers names depth Constants) rest)
        → Some (OfDeclaration (Enumerator t.line n (optional_at v.forest o)), drop end tokens) ≡ readers names depth Enumerators ts
    unfolding enumerator_of
    enumerator_made h v tokens o end a = as_of _ (rw (h, ← a.is) refl)
