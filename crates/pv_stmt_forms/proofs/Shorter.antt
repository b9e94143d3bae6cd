-- What is read takes a token, and what is left is an end of the tokens.
use Rattle.std.proofs.Common.{◌≡◌, ◌≤◌, ◌<◌, ℕ, zero, suc, Bool, true, false, cond, List, [], ◌∷◌, length, Option, Some, None, option_map, option_and_then, refl, ap, subst, arith, nat_eq}
use Rattle.indexmap.specs.IndexSet.{IndexSet, contains}
use Rattle.pv_token.specs.declared.token_table.Token.{Token}
use Rattle.pv_token.specs.declared.token_table.TokenKind.{TokenKind}
use Rattle.pv_token.specs.declared.token_table.TokenKind.TheVariants as kind
use Rattle.pv_token.specs.declared.words.Word.TheVariants as word
use Rattle.pv_token.specs.declared.marks.Mark.TheVariants as mark
use Rattle.pv_tree.specs.Syntax.{ExpressionTree, While, DoWhile, For, ForDeclaration, Switch, Labelled, Case, Default, Break, Continue, Return, ExpressionStatement, Tree, OfExpression, OfStatement, Trees, NoTrees, OptionalTree}
use Rattle.pv_tree.specs.Spelling.{declaration_tokens}
use Rattle.pv_tree.specs.Grammar.{line_here}
use Rattle.pv_tree.specs.Spells.{Names, begins_type}
use Rattle.pv_tree.specs.Tables.{Tables, as_expression, as_declaration, as_statement}
use Rattle.pv_tree.specs.TypeNames.{TypeMap, AreTied}
use Rattle.pv_tree.specs.Places.{is_declaration_tree, ends_open, some}
use Rattle.pv_expr_forms.specs.Known.{names_in}
use Rattle.pv_expr_forms.specs.Reader.{is_open, is_close, is_colon, after, read}
use Rattle.pv_expr_forms.proofs.Heads.{IsSpelled}
use Rattle.pv_expr_forms.proofs.Runs.{takes_length, takes_known}
use Rattle.pv_expr_forms.proofs.Sound.{read_shortens}
use Rattle.pv_expr_forms.proofs.Spans.{IsEnd, names_spelled}
use Rattle.pv_expr_forms.proofs.Steps.{guarded, mapped, followed, some_is}
use Rattle.pv_decl_forms.specs.Pieces.{Piece, is_semicolon, is_close_brace, part_if_any, row}
use Rattle.pv_decl_forms.specs.Reader.{declaration}
use Rattle.pv_decl_forms.proofs.Externals.{declaration_good}
use Rattle.pv_decl_forms.proofs.Steps.{Shortens, row_holds}
use Rattle.pv_stmt_forms.specs.declared.forms.Within.{Within}
use Rattle.pv_stmt_forms.specs.declared.forms.Within.TheVariants as within
use Rattle.pv_stmt_forms.specs.Parts.{item_in}
use Rattle.pv_stmt_forms.specs.Statements.{is_else, is_while, expression, before, optional_before, condition, expression_before, only_declaration, second, else_part, selection, loop, do_end, do_loop, for_rest, for_parts, for_loop, switch, block_end, item, block, label_of, label, with_labels, labels_and_statement, switch_block_of, switch_block, simple, return_behind, statement_of, statement_by, Form, Statements, SwitchBlocks, readers}

-- what is read leaves fewer tokens, of which K holds
abbrev pub Nears : {A : Type 0} → (K : List Token → Type 0) → List Token → Option (A × List Token) → Type 0
Nears {A = A} K ts o = (x : A × List Token) → o ≡ Some x → K x.1 × (length x.1 < length ts)

module _ (K : List Token → Type 0) (tail : (t : Token) (ts : List Token) → K (t ∷ ts) → K ts) where
  -- ---- tokens

  after_near : (test : TokenKind → Bool) (ts : List Token) → K ts → (rest : List Token) → after test ts ≡ Some rest → K rest × (length rest < length ts)
  after_near test [] known rest e = absurd cc
  after_near test (t ∷ ts) known rest e =
      let s = some_is ts rest (guarded (test t.kind) (Some ts) rest e).1 in
      (subst K s (tail t ts known), omega (arith, ap length s))

  -- ---- made of what is near

  none_near : {A : Type 0} (ts : List Token) (x : A × List Token) → ◌≡◌ {A = Option (A × List Token)} None (Some x) → K x.1 × (length x.1 < length ts)
  none_near ts x e = absurd cc

  some_near : {A : Type 0} (ts : List Token) (y : A × List Token) → K y.1 → length y.1 < length ts → Nears K ts (Some y)
  some_near {A = A} ts y known less x e =
      let s = some_is y x e in
      (subst (λ (z : A × List Token). K z.1) s known, omega (arith, less, ap (λ (z : A × List Token). length z.1) s))

  wider_near : {A : Type 0} (t : Token) (ts : List Token) (o : Option (A × List Token)) → Nears K ts o → Nears K (t ∷ ts) o
  wider_near t ts o h x e = let r = h x e in (r.0, omega (arith, r.1))

  map_near : {A B : Type 0} (f : A → B) (ts : List Token) (o : Option (A × List Token)) → Nears K ts o → Nears {A = B} K ts (option_map (λ x. (f x.0, x.1)) o)
  map_near {A = A} {B = B} f ts o h y e =
      let m = mapped (λ x. let z : B × List Token = (f x.0, x.1) in z) o y e in
      let r = h m.0 m.1 in
      subst (λ (z : B × List Token). K z.1 × (length z.1 < length ts)) m.2 r

  then_near : {A B : Type 0} (g : A × List Token → Option (B × List Token)) (ts : List Token) (o : Option (A × List Token)) → Nears K ts o
      → ((x : A × List Token) → K x.1 → Nears K x.1 (g x)) → Nears K ts (option_and_then g o)
  then_near g ts o h k y e =
      let f = followed g o y e in
      let r = h f.0 f.1 in
      let s = k f.0 r.0 y f.2 in
      (s.0, omega (arith, r.1, s.1))

  behind_near : {B : Type 0} (g : List Token → Option (B × List Token)) (test : TokenKind → Bool) (ts : List Token) → K ts
      → ((rest : List Token) → K rest → Nears K rest (g rest)) → Nears K ts (option_and_then g (after test ts))
  behind_near g test ts known k y e =
      let f = followed g (after test ts) y e in
      let r = after_near test ts known f.0 f.1 in
      let s = k f.0 r.0 y f.2 in
      (s.0, omega (arith, r.1, s.1))

  ends_near : {A : Type 0} (a : A) (test : TokenKind → Bool) (ts : List Token) → K ts → Nears {A = A} K ts (option_map (λ rest. (a, rest)) (after test ts))
  ends_near {A = A} a test ts known y e =
      let m = mapped (λ rest. let z : A × List Token = (a, rest) in z) (after test ts) y e in
      subst (λ (z : A × List Token). K z.1 × (length z.1 < length ts)) m.2 (after_near test ts known m.0 m.1)

  before_near : (test : TokenKind → Bool) (ts : List Token) (o : Piece) → Nears K ts o → Nears K ts (before test o)
  unfolding before
  before_near test ts None h y e = absurd cc
  before_near test ts (Some x) h y e =
      let r = h x refl in
      let s = ends_near x.0 test x.1 r.0 y e in
      (s.0, omega (arith, r.1, s.1))

  cond_near : {A : Type 0} (b : Bool) (ts : List Token) (o p : Option (A × List Token)) → Nears K ts o → Nears K ts p → Nears K ts (cond b o p)
  cond_near true ts o p h k = h
  cond_near false ts o p h k = k

  optional_near : (ts : List Token) (o : Piece) → K ts → Nears K ts o → K (part_if_any ts o).1 × (length (part_if_any ts o).1 ≤ length ts)
  optional_near ts None known h = (known, omega arith)
  optional_near ts (Some x) known h = let r = h x refl in (r.0, omega (arith, r.1))

  module _ (names : Names) (spelled : IsSpelled names K) where
    expression_near : (depth level : ℕ) (ts : List Token) → K ts → Nears K ts (expression names depth level ts)
    expression_near depth level ts known =
        let short = read_shortens names K spelled depth in
        map_near {A = ExpressionTree} {B = Tree} (λ a. OfExpression a) ts (read names depth level ts) (λ x e. (short.known level ts x.0 x.1 known e, short.less level ts x.0 x.1 known e))

    condition_near : (depth : ℕ) (ts : List Token) → K ts → Nears K ts (condition names depth ts)
    unfolding condition
    condition_near depth ts known =
        behind_near (λ rest. before is_close (expression names depth 1 rest)) is_open ts known
        (λ rest k. before_near is_close rest (expression names depth 1 rest) (expression_near depth 1 rest k))

    expression_before_near : (depth : ℕ) (test : TokenKind → Bool) (ts : List Token) → K ts → Nears K ts (expression_before names depth test ts)
    unfolding expression_before optional_before
    expression_before_near depth test ts known y e =
        let o = part_if_any ts (expression names depth 1 ts) in
        let r = optional_near ts (expression names depth 1 ts) known (expression_near depth 1 ts known) in
        let s = ends_near o.0 test o.1 r.0 y e in
        (s.0, omega (arith, r.1, s.1))

    declaration_near : (depth : ℕ) (ts : List Token) → K ts → Nears K ts (declaration names depth ts)
    declaration_near depth ts known x e =
        let g = declaration_good names K spelled depth ts x.0 x.1 known e in
        (takes_known K tail (declaration_tokens g.tree) ts x.1 g.takes known, omega (arith, takes_length (declaration_tokens g.tree) ts x.1 g.takes, g.spells))

    declared_near : (ts : List Token) (o : Piece) → Nears K ts o → Nears K ts (only_declaration o)
    unfolding only_declaration
    declared_near ts None h = h
    declared_near ts (Some x) h = cond_near (is_declaration_tree (as_declaration x.0)) ts (Some x) None h (none_near ts)

    item_near : (depth : ℕ) (r : List Token → Piece) → ((ts : List Token) → K ts → Nears K ts (r ts)) → (ts : List Token) → K ts → Nears K ts (item names depth r ts)
    unfolding item
    item_near depth r h ts known =
        cond_near (begins_type names ts) ts (only_declaration (declaration names depth ts)) (r ts) (declared_near ts (declaration names depth ts) (declaration_near depth ts known)) (h ts known)

    label_of_near : (depth line : ℕ) (k : TokenKind) (ts : List Token) → K ts → Nears K ts (label_of names depth line k ts)
    unfolding label_of
    label_of_near depth line (kind.Word word.Case) ts known =
        before_near is_colon ts (option_map (λ a. (OfStatement (Case line (as_expression a.0)), a.1)) (expression names depth 3 ts))
        (map_near {A = Tree} {B = Tree} (λ a. OfStatement (Case line (as_expression a))) ts (expression names depth 3 ts) (expression_near depth 3 ts known))
    label_of_near depth line (kind.Word word.Default) ts known = ends_near {A = Tree} (OfStatement (Default line)) is_colon ts known
    label_of_near depth line _ ts known = none_near {A = Tree} ts

    pub label_near : (depth : ℕ) (ts : List Token) → K ts → Nears K ts (label names depth ts)
    unfolding label
    label_near depth [] known = none_near {A = Tree} []
    label_near depth (t ∷ ts) known = wider_near t ts (label_of names depth t.line t.kind ts) (label_of_near depth t.line t.kind ts (tail t ts known))

    -- ---- rows

    row_near : (r : List Token → Piece) → ((ts : List Token) → K ts → Nears K ts (r ts)) → (ts : List Token) → K ts
        → K (row r NoTrees ts).1 × (length (row r NoTrees ts).1 ≤ length ts)
    row_near r h ts known =
        row_holds K r (λ parts rest. length rest ≤ length ts) (λ parts here t rest k less e. let s = h here k (t, rest) e in (s.0, omega (arith, less, s.1))) NoTrees ts known (omega arith)

    block_near : (make : Trees → Tree) (ts : List Token) (x : Trees × List Token) → K x.1 → length x.1 ≤ length ts → Nears K ts (block_end make x)
    unfolding block_end
    block_near make ts x known less y e =
        let s = ends_near (make x.0) is_close_brace x.1 known y e in
        (s.0, omega (arith, less, s.1))

    labelled_near : (depth : ℕ) (r : List Token → Piece) → ((ts : List Token) → K ts → Nears K ts (r ts)) → (ts : List Token) → K ts → Nears K ts (labels_and_statement names depth r ts)
    unfolding labels_and_statement with_labels
    labelled_near depth r h ts known y e =
        let x = row (label names depth) NoTrees ts in
        let l = row_near (label names depth) (label_near depth) ts known in
        let s = cond_near (some x.0) x.1 (option_map (λ s. (OfStatement (Labelled (line_here ts) x.0 (as_statement s.0)), s.1)) (r x.1)) (r x.1)
        (map_near {A = Tree} {B = Tree} (λ t. OfStatement (Labelled (line_here ts) x.0 (as_statement t))) x.1 (r x.1) (h x.1 l.0)) (h x.1 l.0) y e in
        (s.0, omega (arith, l.1, s.1))

    -- ---- statements

    module _ (below : ℕ) (r b : List Token → Piece) (h : (ts : List Token) → K ts → Nears K ts (r ts)) (hb : (ts : List Token) → K ts → Nears K ts (b ts)) (line : ℕ) where
      second_near : (a body : Tree) (ts here : List Token) (o : Piece) → K here → length here < length ts → Nears K here o → Nears K ts (second line a body here o)
      second_near a body ts here None known less k = some_near {A = Tree} ts _ known less
      second_near a body ts here (Some x) known less k = let s = k x refl in some_near {A = Tree} ts _ s.0 (omega (arith, less, s.1))

      chosen_near : (a body : Tree) (ts here : List Token) → K here → length here < length ts → Nears K ts (else_part r line a body here)
      unfolding else_part
      chosen_near a body ts here known less =
          cond_near {A = Tree} (ends_open (as_statement body)) ts _ (second line a body here (option_and_then r (after is_else here))) (some_near {A = Tree} ts _ known less)
          (second_near a body ts here (option_and_then r (after is_else here)) known less (behind_near r is_else here known h))

      selection_near : (ts : List Token) → K ts → Nears K ts (selection names below r line ts)
      unfolding selection
      selection_near ts known y e =
          let c = followed (λ (a : Tree × List Token). option_and_then (λ x. else_part r line a.0 x.0 x.1) (r a.1)) (condition names below ts) y e in
          let near = condition_near below ts known c.0 c.1 in
          let s = followed (λ (x : Tree × List Token). else_part r line c.0.0 x.0 x.1) (r c.0.1) y c.2 in
          let first = h c.0.1 near.0 s.0 s.1 in
          chosen_near c.0.0 s.0.0 ts s.0.1 first.0 (omega (arith, near.1, first.1)) y s.2

      loop_near : (ts : List Token) → K ts → Nears K ts (loop names below r line ts)
      unfolding loop
      loop_near ts known =
          then_near (λ (a : Tree × List Token). option_map (λ x. (OfStatement (While line (as_expression a.0) (as_statement x.0)), x.1)) (r a.1)) ts (condition names below ts) (condition_near below ts known)
          (λ a k. map_near {A = Tree} {B = Tree} (λ t. OfStatement (While line (as_expression a.0) (as_statement t))) a.1 (r a.1) (h a.1 k))

      do_end_near : (body : Tree) (ts : List Token) → K ts → Nears K ts (do_end names below line body ts)
      unfolding do_end
      do_end_near body ts known =
          behind_near (λ rest. before is_semicolon (option_map (λ a. (OfStatement (DoWhile line (as_statement body) (as_expression a.0)), a.1)) (condition names below rest))) is_while ts known
          (λ rest k. before_near is_semicolon rest (option_map (λ a. (OfStatement (DoWhile line (as_statement body) (as_expression a.0)), a.1)) (condition names below rest))
          (map_near {A = Tree} {B = Tree} (λ a. OfStatement (DoWhile line (as_statement body) (as_expression a))) rest (condition names below rest) (condition_near below rest k)))

      do_near : (ts : List Token) → K ts → Nears K ts (do_loop names below r line ts)
      unfolding do_loop
      do_near ts known = then_near (λ (x : Tree × List Token). do_end names below line x.0 x.1) ts (r ts) (h ts known) (λ x k. do_end_near x.0 x.1 k)

      rest_near : (make : OptionalTree → OptionalTree → Tree → Tree) (ts : List Token) → K ts → Nears K ts (for_rest names below r make ts)
      unfolding for_rest
      rest_near make ts known =
          then_near (λ (c : OptionalTree × List Token). option_and_then (λ s. option_map (λ x. (make c.0 s.0 x.0, x.1)) (r s.1)) (expression_before names below is_close c.1)) ts (expression_before names below is_semicolon ts) (expression_before_near below is_semicolon ts known)
          (λ c k. then_near (λ (s : OptionalTree × List Token). option_map (λ x. (make c.0 s.0 x.0, x.1)) (r s.1)) c.1 (expression_before names below is_close c.1) (expression_before_near below is_close c.1 k)
          (λ s k'. map_near {A = Tree} {B = Tree} (λ t. make c.0 s.0 t) s.1 (r s.1) (h s.1 k')))

      parts_near : (ts : List Token) → K ts → Nears K ts (for_parts names below r line ts)
      unfolding for_parts
      parts_near ts known =
          cond_near (begins_type names ts) ts
          (option_and_then (λ d. for_rest names below r (λ c s x. OfStatement (ForDeclaration line (as_declaration d.0) c s (as_statement x))) d.1) (only_declaration (declaration names below ts)))
          (option_and_then (λ f. for_rest names below r (λ c s x. OfStatement (For line f.0 c s (as_statement x))) f.1) (expression_before names below is_semicolon ts))
          (then_near (λ (d : Tree × List Token). for_rest names below r (λ c s x. OfStatement (ForDeclaration line (as_declaration d.0) c s (as_statement x))) d.1) ts (only_declaration (declaration names below ts)) (declared_near ts (declaration names below ts) (declaration_near below ts known))
          (λ d k. rest_near (λ c s x. OfStatement (ForDeclaration line (as_declaration d.0) c s (as_statement x))) d.1 k))
          (then_near (λ (f : OptionalTree × List Token). for_rest names below r (λ c s x. OfStatement (For line f.0 c s (as_statement x))) f.1) ts (expression_before names below is_semicolon ts) (expression_before_near below is_semicolon ts known)
          (λ f k. rest_near (λ c s x. OfStatement (For line f.0 c s (as_statement x))) f.1 k))

      for_near : (ts : List Token) → K ts → Nears K ts (for_loop names below r line ts)
      unfolding for_loop
      for_near ts known = behind_near (λ rest. for_parts names below r line rest) is_open ts known parts_near

      switch_near : (ts : List Token) → K ts → Nears K ts (switch names below b line ts)
      unfolding switch
      switch_near ts known =
          then_near (λ (a : Tree × List Token). option_map (λ x. (OfStatement (Switch line (as_expression a.0) (as_statement x.0)), x.1)) (b a.1)) ts (condition names below ts) (condition_near below ts known)
          (λ a k. map_near {A = Tree} {B = Tree} (λ t. OfStatement (Switch line (as_expression a.0) (as_statement t))) a.1 (b a.1) (hb a.1 k))

      braces_near : (ts : List Token) → K ts → Nears K ts (block names below r line ts)
      unfolding block
      braces_near ts known =
          let l = row_near (item names below r) (item_near below r h) ts known in
          block_near _ ts (row (item names below r) NoTrees ts) l.0 l.1

      simple_near : (ts : List Token) → K ts → Nears K ts (simple names below line ts)
      unfolding simple
      simple_near ts known = map_near {A = OptionalTree} {B = Tree} (λ o. OfStatement (ExpressionStatement line o)) ts (expression_before names below is_semicolon ts) (expression_before_near below is_semicolon ts known)

      returned_near : (ts : List Token) → K ts → Nears K ts (return_behind names below line ts)
      unfolding return_behind
      returned_near ts known = map_near {A = OptionalTree} {B = Tree} (λ o. OfStatement (Return line o)) ts (expression_before names below is_semicolon ts) (expression_before_near below is_semicolon ts known)

      begun_near : (k : TokenKind) (t : Token) (ts : List Token) → K (t ∷ ts) → K ts → Nears K (t ∷ ts) (statement_of names below r b line k (t ∷ ts) ts)
      unfolding statement_of
      begun_near (kind.Mark mark.OpenBrace) t ts all known = wider_near t ts _ (braces_near ts known)
      begun_near (kind.Word word.If) t ts all known = wider_near t ts _ (selection_near ts known)
      begun_near (kind.Word word.While) t ts all known = wider_near t ts _ (loop_near ts known)
      begun_near (kind.Word word.Do) t ts all known = wider_near t ts _ (do_near ts known)
      begun_near (kind.Word word.For) t ts all known = wider_near t ts _ (for_near ts known)
      begun_near (kind.Word word.Switch) t ts all known = wider_near t ts _ (switch_near ts known)
      begun_near (kind.Word word.Break) t ts all known = wider_near t ts _ (ends_near {A = Tree} (OfStatement (Break line)) is_semicolon ts known)
      begun_near (kind.Word word.Continue) t ts all known = wider_near t ts _ (ends_near {A = Tree} (OfStatement (Continue line)) is_semicolon ts known)
      begun_near (kind.Word word.Return) t ts all known = wider_near t ts _ (returned_near ts known)
      begun_near _ t ts all known = simple_near (t ∷ ts) all

      switched_near : (k : TokenKind) (ts : List Token) → K ts → Nears K ts (switch_block_of names below r line k ts)
      unfolding switch_block_of
      switched_near (kind.Mark mark.OpenBrace) ts known =
          let i = item_near below (labels_and_statement names below r) (labelled_near below r h) in
          let l = row_near (item names below (labels_and_statement names below r)) i ts known in
          block_near _ ts (row (item names below (labels_and_statement names below r)) NoTrees ts) l.0 l.1
      switched_near _ ts known = none_near {A = Tree} ts

    pub readers_near : (depth : ℕ) (form : Form) (ts : List Token) → K ts → Nears K ts (readers names depth form ts)
    unfolding readers statement_by switch_block
    readers_near zero form ts known = none_near {A = Tree} ts
    readers_near (suc below) Statements [] known = none_near {A = Tree} []
    readers_near (suc below) Statements (t ∷ ts) known =
        begun_near below (readers names below Statements) (readers names below SwitchBlocks) (readers_near below Statements) (readers_near below SwitchBlocks) t.line t.kind t ts known (tail t ts known)
    readers_near (suc below) SwitchBlocks [] known = none_near {A = Tree} []
    readers_near (suc below) SwitchBlocks (t ∷ ts) known =
        wider_near t ts _ (switched_near below (readers names below Statements) (readers names below SwitchBlocks) (readers_near below Statements) (readers_near below SwitchBlocks) t.line t.kind ts (tail t ts known))

    pub item_in_near : (w : Within) (depth : ℕ) (ts : List Token) → K ts → Nears K ts (item_in w names depth ts)
    item_in_near within.Block depth ts known = item_near depth (readers names depth Statements) (readers_near depth Statements) ts known
    item_in_near within.Switch depth ts known =
        item_near depth (labels_and_statement names depth (readers names depth Statements)) (labelled_near depth (readers names depth Statements) (readers_near depth Statements)) ts known

-- ---- at the places of one token list

shortens : (K : List Token → Type 0) (r : List Token → Piece) → ((ts : List Token) → K ts → Nears K ts (r ts)) → Shortens K r
shortens K r h = record { less = λ ts t rest k e. (h ts k (t, rest) e).1; known = λ ts t rest k e. (h ts k (t, rest) e).0 }

pub items_shorten : {S : Type 0} (typedefs : IndexSet ℕ S) (types : TypeMap) (u : Tables) (tokens : List Token) → AreTied types u tokens → (w : Within) (depth : ℕ)
    → Shortens (IsEnd tokens) (item_in w (names_in typedefs types u tokens) depth)
unfolding names_in
items_shorten typedefs types u tokens tied w depth =
    let spelled = names_spelled (contains nat_eq typedefs) types u tokens tied in
    shortens (IsEnd tokens) _ (item_in_near (IsEnd tokens) spelled.tail _ spelled w depth)

pub labels_shorten : {S : Type 0} (typedefs : IndexSet ℕ S) (types : TypeMap) (u : Tables) (tokens : List Token) → AreTied types u tokens → (depth : ℕ)
    → Shortens (IsEnd tokens) (label (names_in typedefs types u tokens) depth)
unfolding names_in
labels_shorten typedefs types u tokens tied depth =
    let spelled = names_spelled (contains nat_eq typedefs) types u tokens tied in
    shortens (IsEnd tokens) _ (label_near (IsEnd tokens) spelled.tail _ spelled depth)
