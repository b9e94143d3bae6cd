-- Initializers.
use Rattle.std.proofs.Common.{◌≡◌, ◌<◌, ◌-◌, ℕ, zero, suc, Bool, true, false, cond, List, [], ◌∷◌, drop, Option, Some, None, option_map, refl, sym, ap, ◌∙◌, arith, sub-one}
use Rattle.pv_token.specs.declared.token_table.Token.{Token}
use Rattle.pv_tree.specs.declared.nodes.NodeId.{NodeId}
use Rattle.pv_tree.specs.Syntax.{InitDeclarator, Initial, Braces, Tree, OfExpression, OfDeclaration, OfInitializer, Trees, OptionalTree}
use Rattle.pv_tree.specs.Tables.{Tables, tree_at, as_expression, as_declarator, expression_at, declarator_at, optional_at, is_expression, is_declarator, is_initializer, Is, Extends}
use Rattle.pv_tree.proofs.Kept.{tree_kept}
use Rattle.pv_tree.specs.Places.{Initializers}
use Rattle.pv_tree.specs.Grammar.{line_here}
use Rattle.pv_tree.specs.Spells.{Names}
use Rattle.pv_expr_forms.specs.Reader.{Read, read, after}
use Rattle.pv_expr_forms.specs.Answers.{Answers as ExpressionAnswers}
use Rattle.pv_expr_forms.proofs.Listing.{read_end}
use Rattle.pv_expr_forms.proofs.Steps.{some_is}
use Rattle.pv_decl_forms.specs.Pieces.{Piece, Reads, is_open_brace, value, comma_list}
use Rattle.pv_decl_forms.specs.Reader.{listed_in_braces, initializer, declarator_and_value, node_readers, leaves, with_parts, readers}
use Rattle.pv_decl_forms.specs.Parts.{assignment_expression}
use Rattle.pv_decl_forms.specs.Answers.{Answers}
use Rattle.pv_decl_forms.specs.Rows.{MayBeAnswered}
use Rattle.pv_decl_forms.proofs.Answered.{got, got_none}
use Rattle.pv_decl_forms.proofs.Constants.{tree_is}

pub assigned_answers : (u : Tables) (tokens : List Token) (names : Names) (depth : ℕ) (ts : List Token) (answer : Option (NodeId × ℕ))
    → ExpressionAnswers u tokens answer (read names depth 2 ts) → Answers u is_expression tokens answer (assignment_expression names depth ts)
unfolding assignment_expression
assigned_answers u tokens names depth ts None a = record { is = ap (λ (o : Read). option_map (λ x. let y : Tree × List Token = (OfExpression x.0, x.1) in y) o) a.is; there = tt }
assigned_answers u tokens names depth ts (Some x) a = record {
  is = ap (λ (t : Tree). Some (t, drop x.1 tokens)) (sym (tree_is (tree_at u.forest x.0) a.there.0.1)) ∙ ap (λ (o : Read). option_map (λ x. let y : Tree × List Token = (OfExpression x.0, x.1) in y) o) a.is;
  there = a.there;
}

pub initializer_zero : (names : Names) (depth : ℕ) (ts : List Token) → depth ≡ 0 → None ≡ readers names depth Initializers ts
unfolding readers with_parts leaves
initializer_zero names depth ts e = rw e refl

-- from the first token on
by_first : (names : Names) (depth : ℕ) (ts : List Token) → 0 < depth → initializer names (readers names (depth - 1)) (depth - 1) ts ≡ readers names depth Initializers ts
unfolding readers with_parts node_readers
by_first names zero ts h = absurd (omega arith)
by_first names (suc depth) ts h = rw sub-one refl

braced_if : (names : Names) (below depth : ℕ) (t : Token) (ts rest : List Token) (b : Bool) → is_open_brace t.kind ≡ b → ◌≡◌ {A = Option (List Token)} (cond b (Some ts) None) (Some rest)
    → listed_in_braces (λ inits comma. OfInitializer (Braces t.line inits comma)) (comma_list (readers names below Initializers) rest) ≡ initializer names (readers names below) depth (t ∷ ts)
unfolding initializer
braced_if names below depth t ts rest true h e =
    rw h (ap (λ (x : List Token). listed_in_braces (λ inits comma. OfInitializer (Braces t.line inits comma)) (comma_list (readers names below Initializers) x)) (sym (some_is ts rest e)))
braced_if names below depth t ts rest false h e = absurd cc

braced_by : (names : Names) (below depth : ℕ) (ts rest : List Token) → after is_open_brace ts ≡ Some rest
    → listed_in_braces (λ inits comma. OfInitializer (Braces (line_here ts) inits comma)) (comma_list (readers names below Initializers) rest) ≡ initializer names (readers names below) depth ts
braced_by names below depth [] rest e = absurd cc
braced_by names below depth (t ∷ ts) rest e = braced_if names below depth t ts rest (is_open_brace t.kind) refl e

abbrev pub initial_of : (line : ℕ) → Read → Piece
initial_of line o = option_map (λ x. (OfInitializer (Initial line x.0), x.1)) o

plain_if : (names : Names) (below : Reads) (depth : ℕ) (t : Token) (ts : List Token) (b : Bool) → is_open_brace t.kind ≡ b → ◌≡◌ {A = Option (List Token)} (cond b (Some ts) None) None
    → initial_of t.line (read names depth 2 (t ∷ ts)) ≡ initializer names below depth (t ∷ ts)
unfolding initializer
plain_if names below depth t ts true h e = absurd cc
plain_if names below depth t ts false h e = rw h refl

plain_by : (names : Names) (below : Reads) (depth : ℕ) (ts : List Token) → after is_open_brace ts ≡ None
    → initial_of (line_here ts) (read names depth 2 ts) ≡ initializer names below depth ts
unfolding initializer
plain_by names below depth [] e = ap (initial_of 0) (sym (read_end names depth 2 0 [] (omega arith)))
plain_by names below depth (t ∷ ts) e = plain_if names below depth t ts (is_open_brace t.kind) refl e

pub initializer_braced : (names : Names) (depth : ℕ) (ts rest : List Token) (x : Trees × List Token) → 0 < depth → after is_open_brace ts ≡ Some rest → x ≡ comma_list (readers names (depth - 1) Initializers) rest
    → listed_in_braces (λ inits comma. OfInitializer (Braces (line_here ts) inits comma)) x ≡ readers names depth Initializers ts
initializer_braced names depth ts rest x h e is =
    ap (listed_in_braces (λ inits comma. OfInitializer (Braces (line_here ts) inits comma))) is ∙ braced_by names (depth - 1) (depth - 1) ts rest e ∙ by_first names depth ts h

pub initializer_plain : (names : Names) (depth : ℕ) (ts : List Token) → 0 < depth → after is_open_brace ts ≡ None → initial_of (line_here ts) (read names (depth - 1) 2 ts) ≡ readers names depth Initializers ts
initializer_plain names depth ts h e = plain_by names (readers names (depth - 1)) (depth - 1) ts e ∙ by_first names depth ts h

initial_some : (line : ℕ) (o : Read) (t : Tree) (rest : List Token) → Some (t, rest) ≡ option_map (λ x. let y : Tree × List Token = (OfExpression x.0, x.1) in y) o → Some (OfInitializer (Initial line (as_expression t)), rest) ≡ initial_of line o
initial_some line None t rest e = absurd cc
initial_some line (Some x) t rest e =
    let p : ◌≡◌ {A = Tree × List Token} (t, rest) (OfExpression x.0, x.1) = cc in
    ap (λ (y : Tree × List Token). Some (OfInitializer (Initial line (as_expression y.0)), y.1)) p

initial_none : (line : ℕ) (o : Read) → None ≡ option_map (λ x. let y : Tree × List Token = (OfExpression x.0, x.1) in y) o → None ≡ initial_of line o
initial_none line None e = refl
initial_none line (Some x) e = absurd cc

module _ (names : Names) (depth : ℕ) (ts : List Token) (positive : 0 < depth) (plain : after is_open_brace ts ≡ None) (v : Tables) (tokens : List Token) (answer : Option (NodeId × ℕ))
    (a : Answers v is_expression tokens answer (assignment_expression names (depth - 1) ts)) where
  pub initializer_some : (n : NodeId) (next : ℕ) → answer ≡ Some (n, next) → Some (OfInitializer (Initial (line_here ts) (expression_at v.forest n)), drop next tokens) ≡ readers names depth Initializers ts
  unfolding assignment_expression
  initializer_some n next e = initial_some (line_here ts) (read names (depth - 1) 2 ts) (tree_at v.forest n) (drop next tokens) (got v is_expression tokens answer _ n next a e).0 ∙ initializer_plain names depth ts positive plain

  pub initializer_none : answer ≡ None → None ≡ readers names depth Initializers ts
  unfolding assignment_expression
  initializer_none e = initial_none (line_here ts) (read names (depth - 1) 2 ts) (got_none v is_expression tokens answer _ a e) ∙ initializer_plain names depth ts positive plain

-- a declarator with an initializer that may be left out
pub initialized_is : (u v : Tables) (tokens : List Token) (r : Reads) (line : ℕ) (d : NodeId) (ts : List Token) (o : Option NodeId) (end : ℕ) → Extends u v → Is u is_declarator d
    → MayBeAnswered v is_initializer tokens o end (value (r Initializers) ts)
    → ◌≡◌ {A = Piece} (Some (OfDeclaration (InitDeclarator line (declarator_at v.forest d) (optional_at v.forest o)), drop end tokens)) (Some (declarator_and_value r line (tree_at u.forest d) ts))
unfolding declarator_and_value
initialized_is u v tokens r line d ts o end keeps there a =
    ap (λ (t : Tree). let x : Tree × List Token = (OfDeclaration (InitDeclarator line (as_declarator t) (optional_at v.forest o)), drop end tokens) in Some x) (tree_kept u v d keeps there.0)
    ∙ ap (λ (y : OptionalTree × List Token). let x : Tree × List Token = (OfDeclaration (InitDeclarator line (as_declarator (tree_at u.forest d)) y.0), y.1) in Some x) a.is
