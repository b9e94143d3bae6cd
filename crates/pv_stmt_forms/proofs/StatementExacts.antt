-- What is spelled as a statement, or as the block of a `switch`, is read.
use Rattle.std.proofs.Common.{◌≡◌, ◌≤◌, ℕ, zero, suc, true, false, List, [], ◌∷◌, ◌++◌, drop, Some, None, refl, ap, subst, ◌∙◌, arith}
use Rattle.pv_token.specs.declared.token_table.Token.{Token}
use Rattle.pv_token.specs.declared.token_table.TokenKind.{TokenKind}
use Rattle.pv_token.specs.declared.token_table.TokenKind.TheVariants as kind
use Rattle.pv_token.specs.declared.words.Word.TheVariants as word
use Rattle.pv_token.specs.declared.marks.Mark.TheVariants as mark
use Rattle.pv_tree.specs.Syntax.{ExpressionTree, DeclarationTree, StatementTree, Block, ExpressionStatement, If, IfElse, While, DoWhile, For, ForDeclaration, Switch, SwitchBlock, Labelled, Case, Default, Break, Continue, Return, OfDeclaration, OfStatement, Trees, NoTrees}
use Rattle.pv_tree.specs.Depths.{expression_depth, statement_depth, trees_depth, tree_depth}
use Rattle.pv_tree.specs.Levels.{rank}
use Rattle.pv_tree.specs.Spelling.{expression_tokens, statement_tokens, tree_tokens, trees_tokens}
use Rattle.pv_tree.specs.Grammar.{line_here}
use Rattle.pv_tree.specs.Spells.{Names, begins_type, Fits}
use Rattle.pv_tree.specs.Places.{BlockItems, SwitchItems, Labels, Expressions, stands, is_declaration_tree, is_whole_statement, is_switch_block, ends_open, some}
use Rattle.pv_tree.specs.Fitting.{StatementFits, TreeFits, RowFits, past}
use Rattle.pv_expr_forms.specs.Reader.{is_colon}
use Rattle.pv_expr_forms.proofs.Runs.{Takes, takes_parts, takes_rest, parts_at}
use Rattle.pv_expr_forms.proofs.Heads.{IsSpelled}
use Rattle.pv_expr_forms.proofs.Ends.{stops_at}
use Rattle.pv_decl_forms.specs.Pieces.{Piece, is_semicolon, is_close_brace, row}
use Rattle.pv_decl_forms.proofs.Marks.{after_taken, after_other}
use Rattle.pv_decl_forms.proofs.Steps.{Shortens}
use Rattle.pv_decl_forms.proofs.Goods.{known_behind, part_shortens}
use Rattle.pv_decl_forms.proofs.Stops.{row_quits}
use Rattle.pv_decl_forms.proofs.Wholes.{on_line}
use Rattle.pv_stmt_forms.specs.Statements.{Statements, SwitchBlocks, before, optional_before, expression_before, block_end, item, block, label_of, label, with_labels, labels_and_statement, switch_block_of, switch_block, simple, statement_of, statement_by, readers}
use Rattle.pv_stmt_forms.proofs.FormTokens.{NoElse, no_else_on}
use Rattle.pv_stmt_forms.proofs.PartGoods.{nowhere, placed, IsGoodAt, nowhere_good, placed_sound}
use Rattle.pv_stmt_forms.proofs.StatementGoods.{item_good, label_good, statement_item, labelled_good, statement_good}
use Rattle.pv_stmt_forms.proofs.FormStarts.{read_none, begins_label, NoLabel, label_none, statement_opens, declaration_begins, type_before, labels_open}
use Rattle.pv_stmt_forms.proofs.FormRows.{ExactWhere, LetsEnd, row_whole}
use Rattle.pv_stmt_forms.proofs.PartExacts.{expression_exact}
use Rattle.pv_stmt_forms.proofs.FormExacts.{AreExact, by_kind, break_exact, continue_exact, return_exact, simple_exact, while_exact, switch_exact, if_exact, else_exact, do_exact, for_exact, declared_exact, for_declaration_exact}

-- ---- what is read at one place takes a token

item_shortens : (names : Names) (K : List Token → Type 0) → IsSpelled names K → (deep : ℕ) (f : List Token → Piece) → IsGoodAt names K BlockItems deep f → Shortens K f
item_shortens names K spelled deep f good =
    part_shortens names K spelled deep (placed f nowhere nowhere nowhere)
    (placed_sound names K deep f nowhere nowhere nowhere good (nowhere_good names K SwitchItems deep) (nowhere_good names K Labels deep) (nowhere_good names K Expressions deep)) BlockItems

switched_shortens : (names : Names) (K : List Token → Type 0) → IsSpelled names K → (deep : ℕ) (f : List Token → Piece) → IsGoodAt names K SwitchItems deep f
    → Shortens K f
switched_shortens names K spelled deep f good =
    part_shortens names K spelled deep (placed nowhere f nowhere nowhere)
    (placed_sound names K deep nowhere f nowhere nowhere (nowhere_good names K BlockItems deep) good (nowhere_good names K Labels deep) (nowhere_good names K Expressions deep)) SwitchItems

label_shortens : (names : Names) (K : List Token → Type 0) → IsSpelled names K → (deep : ℕ) (f : List Token → Piece) → IsGoodAt names K Labels deep f → Shortens K f
label_shortens names K spelled deep f good =
    part_shortens names K spelled deep (placed nowhere nowhere f nowhere)
    (placed_sound names K deep nowhere nowhere f nowhere (nowhere_good names K BlockItems deep) (nowhere_good names K SwitchItems deep) good (nowhere_good names K Expressions deep)) Labels

-- ---- labels

-- a label ends wherever it does
abbrev Anything : List Token → Type 0
Anything ts = Unit {0}

case_exact : (names : Names) (deep line : ℕ) (a : ExpressionTree) (here rest : List Token) → line ≡ line_here here → 3 ≤ rank a → Fits names a (drop 1 here)
    → expression_depth a ≤ deep
    → Takes (kind.Word word.Case ∷ (expression_tokens a ++ kind.Mark mark.Colon ∷ [])) here rest → label names deep here ≡ Some (OfStatement (Case line a), rest)
unfolding label label_of before
case_exact names deep line a [] rest e l f d h = absurd h
case_exact names deep line a (t ∷ ts) rest e l f d h =
    let p = parts_at (expression_tokens a) (kind.Mark mark.Colon) [] ts rest h.1 in
    let x = expression_exact names deep 3 a ts (p.token ∷ p.after) l f d p.left (stops_at (kind.Mark mark.Colon) 3 p.token p.after p.kind (omega arith)) in
    let c = after_taken is_colon (kind.Mark mark.Colon) (p.token ∷ p.after) rest refl (p.kind, p.right) in
    on_line (λ n. OfStatement (Case n a)) line t.line rest _ e (ap (λ (k : TokenKind). label_of names deep t.line k ts) h.0 ∙ rw (x, c) refl)

default_exact : (names : Names) (deep line : ℕ) (here rest : List Token) → line ≡ line_here here
    → Takes (kind.Word word.Default ∷ kind.Mark mark.Colon ∷ []) here rest → label names deep here ≡ Some (OfStatement (Default line), rest)
unfolding label label_of
default_exact names deep line [] rest e h = absurd h
default_exact names deep line (t ∷ ts) rest e h =
    let c = after_taken is_colon (kind.Mark mark.Colon) ts rest refl h.1 in
    on_line (λ n. OfStatement (Default n)) line t.line rest _ e (ap (λ (k : TokenKind). label_of names deep t.line k ts) h.0 ∙ rw c refl)

label_exact : (names : Names) (K : List Token → Type 0) (deep : ℕ) → ExactWhere names K Labels deep Anything (label names deep)
label_exact names K deep (OfStatement (Case line a)) here rest known s f d h any = case_exact names deep line a here rest f.0 f.1 f.2 d h
label_exact names K deep (OfStatement (Default line)) here rest known s f d h any = default_exact names deep line here rest f h
label_exact names K deep _ here rest known s f d h any = absurd cc

module _ (names : Names) (K : List Token → Type 0) (spelled : IsSpelled names K) (deep : ℕ) (read switched : List Token → Piece) (x : AreExact names K deep read switched) where
  labels_exact : (labels : Trees) (here mid : List Token) → K here → RowFits names.is_type (Fits names) Labels labels here → trees_depth labels ≤ deep
      → Takes (trees_tokens labels) here mid → NoLabel mid
      → row (label names deep) NoTrees here ≡ (labels, mid)
  labels_exact labels here mid known f d h none =
      row_whole names K spelled Labels deep Anything (label names deep) (label_shortens names K spelled deep (label names deep) (label_good names K spelled deep))
      (label_exact names K deep) (λ t ts end s g i. tt) labels here mid known f d h tt (label_none names deep mid none)

  -- ---- items of blocks

  item_statement : (f : List Token → Piece) (here : List Token) (o : Piece) → begins_type names here ≡ false → f here ≡ o → item names deep f here ≡ o
  unfolding item
  item_statement f here o none e = rw none e

  item_declaration : (f : List Token → Piece) (d : DeclarationTree) (here rest : List Token) → K here → is_declaration_tree d ≡ true
      → TreeFits names.is_type (Fits names) (OfDeclaration d) here → tree_depth (OfDeclaration d) ≤ deep
      → Takes (tree_tokens (OfDeclaration d)) here rest → item names deep f here ≡ Some (OfDeclaration d, rest)
  unfolding item
  item_declaration f d here rest known s fits l h =
      let b = declaration_begins names d here rest s fits h in
      rw b (declared_exact names K spelled deep read switched x d here rest known s fits l h)

  block_item_exact : ExactWhere names K BlockItems deep NoElse (item names deep read)
  block_item_exact (OfDeclaration d) here rest known s f d' h n = item_declaration read d here rest known s f d' h
  block_item_exact (OfStatement t) here rest known s f d h n =
      item_statement read here (Some (OfStatement t, rest)) (statement_opens names t here rest s f h).no_type (x.exact t here rest known s f d h (λ o. n))
  block_item_exact _ here rest known s f d h n = absurd cc

  block_item_lets : LetsEnd names BlockItems NoElse
  block_item_lets (OfDeclaration d) here rest s f h = type_before names here (declaration_begins names d here rest s f h)
  block_item_lets (OfStatement t) here rest s f h = (statement_opens names t here rest s f h).no_else
  block_item_lets _ here rest s f h = absurd cc

  -- labels, and a statement
  behind_labels : (line : ℕ) (labels : Trees) (s : StatementTree) (here rest : List Token) → K here → line ≡ line_here here → some labels ≡ true
      → RowFits names.is_type (Fits names) Labels labels here
      → is_whole_statement s ≡ true → StatementFits names.is_type (Fits names) s (past (trees_tokens labels) here)
      → trees_depth labels ≤ deep → statement_depth s ≤ deep
      → Takes (trees_tokens labels ++ statement_tokens s) here rest → NoElse rest → labels_and_statement names deep read here ≡ Some (OfStatement (Labelled line labels s), rest)
  unfolding labels_and_statement with_labels
  behind_labels line labels s here rest known e has f w fits d l h n =
      let p = takes_parts (trees_tokens labels) (statement_tokens s) here rest h in
      let at = takes_rest (trees_tokens labels) here p.0 p.1 in
      let fits' = subst (λ (y : List Token). StatementFits names.is_type (Fits names) s y) at fits in
      let known' = known_behind names K spelled (trees_tokens labels) here p.0 p.1 known in
      let o = statement_opens names s p.0 rest w fits' p.2 in
      let r = labels_exact labels here p.0 known f d p.1 o.no_label in
      let b = x.exact s p.0 rest known' w fits' l p.2 (λ open'. n) in
      on_line (λ k. OfStatement (Labelled k labels s)) line (line_here here) rest _ e (rw (r, has, b) refl)

  without_labels : (s : StatementTree) (here rest : List Token) → K here → is_whole_statement s ≡ true → StatementFits names.is_type (Fits names) s here
      → statement_depth s ≤ deep
      → Takes (statement_tokens s) here rest → NoElse rest → labels_and_statement names deep read here ≡ Some (OfStatement s, rest)
  unfolding labels_and_statement with_labels
  without_labels s here rest known w f d h n =
      let o = statement_opens names s here rest w f h in
      let r = row_quits (label names deep) NoTrees here (label_none names deep here o.no_label) in
      rw r (x.exact s here rest known w f d h (λ open'. n))

  labelled_exact : (s : StatementTree) (here rest : List Token) → K here → stands SwitchItems (OfStatement s) ≡ true → StatementFits names.is_type (Fits names) s here
      → statement_depth s ≤ deep
      → Takes (statement_tokens s) here rest → NoElse rest → labels_and_statement names deep read here ≡ Some (OfStatement s, rest)
  labelled_exact (Labelled line labels s) here rest known w f d h n =
      behind_labels line labels s here rest known f.0 f.1 f.2 f.3 f.4 (omega (arith, d)) (omega (arith, d)) h n
  labelled_exact s here rest known w f d h n = without_labels s here rest known w f d h n

  switched_opens : (s : StatementTree) (here rest : List Token) → stands SwitchItems (OfStatement s) ≡ true → StatementFits names.is_type (Fits names) s here
      → Takes (statement_tokens s) here rest → (begins_type names here ≡ false) × NoElse here
  switched_opens (Labelled line labels s) here rest w f h =
      let p = takes_parts (trees_tokens labels) (statement_tokens s) here rest h in
      let o = labels_open names labels here p.0 f.1 f.2 p.1 in
      (o.no_type, o.no_else)
  switched_opens s here rest w f h = let o = statement_opens names s here rest w f h in (o.no_type, o.no_else)

  switch_item_exact : ExactWhere names K SwitchItems deep NoElse (item names deep (labels_and_statement names deep read))
  switch_item_exact (OfDeclaration d) here rest known s f d' h n = item_declaration (labels_and_statement names deep read) d here rest known s f d' h
  switch_item_exact (OfStatement t) here rest known s f d h n =
      item_statement (labels_and_statement names deep read) here (Some (OfStatement t, rest)) (switched_opens t here rest s f h).0 (labelled_exact t here rest known s f d h n)
  switch_item_exact _ here rest known s f d h n = absurd cc

  switch_item_lets : LetsEnd names SwitchItems NoElse
  switch_item_lets (OfDeclaration d) here rest s f h = type_before names here (declaration_begins names d here rest s f h)
  switch_item_lets (OfStatement t) here rest s f h = (switched_opens t here rest s f h).1
  switch_item_lets _ here rest s f h = absurd cc

  -- ---- blocks

  -- nothing begins with a brace that closes
  brace_no_type : (t : Token) (ts : List Token) → t.kind ≡ kind.Mark mark.CloseBrace → begins_type names (t ∷ ts) ≡ false
  brace_no_type t ts k = rw k refl

  brace_no_label : (t : Token) (ts : List Token) → t.kind ≡ kind.Mark mark.CloseBrace → NoLabel (t ∷ ts)
  brace_no_label t ts k = ap begins_label k

  block_item_shut : (t : Token) (ts : List Token) → t.kind ≡ kind.Mark mark.CloseBrace → item names deep read (t ∷ ts) ≡ None
  block_item_shut t ts k = item_statement read (t ∷ ts) None (brace_no_type t ts k) (x.shut t ts k)

  labelled_shut : (t : Token) (ts : List Token) → t.kind ≡ kind.Mark mark.CloseBrace → labels_and_statement names deep read (t ∷ ts) ≡ None
  unfolding labels_and_statement with_labels
  labelled_shut t ts k =
      let r = row_quits (label names deep) NoTrees (t ∷ ts) (label_none names deep (t ∷ ts) (brace_no_label t ts k)) in
      rw r (x.shut t ts k)

  switch_item_shut : (t : Token) (ts : List Token) → t.kind ≡ kind.Mark mark.CloseBrace → item names deep (labels_and_statement names deep read) (t ∷ ts) ≡ None
  switch_item_shut t ts k = item_statement (labels_and_statement names deep read) (t ∷ ts) None (brace_no_type t ts k) (labelled_shut t ts k)

  block_exact : (line : ℕ) (items : Trees) (here rest : List Token) → K here → line ≡ line_here here
      → RowFits names.is_type (Fits names) BlockItems items (drop 1 here) → trees_depth items ≤ deep
      → Takes (kind.Mark mark.OpenBrace ∷ (trees_tokens items ++ kind.Mark mark.CloseBrace ∷ [])) here rest
      → statement_by names deep read switched here ≡ Some (OfStatement (Block line items), rest)
  unfolding statement_of block block_end
  block_exact line items [] rest known e f d h = absurd h
  block_exact line items (t ∷ ts) rest known e f d h =
      let p = parts_at (trees_tokens items) (kind.Mark mark.CloseBrace) [] ts rest h.1 in
      let good = item_good names K spelled deep BlockItems (λ d h. h) read (statement_item names K spelled deep read x.sound) in
      let r = row_whole names K spelled BlockItems deep NoElse (item names deep read) (item_shortens names K spelled deep (item names deep read) good) block_item_exact block_item_lets
      items ts (p.token ∷ p.after) (spelled.tail t ts known) f d p.left (no_else_on (kind.Mark mark.CloseBrace) p.token p.after p.kind refl) (block_item_shut p.token p.after p.kind) in
      let c = after_taken is_close_brace (kind.Mark mark.CloseBrace) (p.token ∷ p.after) rest refl (p.kind, p.right) in
      on_line (λ n. OfStatement (Block n items)) line t.line rest _ e (by_kind names K spelled deep read switched x (kind.Mark mark.OpenBrace) t ts _ h.0 (rw (r, c) refl))

  switch_block_exact : (line : ℕ) (items : Trees) (here rest : List Token) → K here → line ≡ line_here here
      → RowFits names.is_type (Fits names) SwitchItems items (drop 1 here) → trees_depth items ≤ deep
      → Takes (kind.Mark mark.OpenBrace ∷ (trees_tokens items ++ kind.Mark mark.CloseBrace ∷ [])) here rest
      → switch_block names deep read here ≡ Some (OfStatement (SwitchBlock line items), rest)
  unfolding switch_block switch_block_of block_end
  switch_block_exact line items [] rest known e f d h = absurd h
  switch_block_exact line items (t ∷ ts) rest known e f d h =
      let p = parts_at (trees_tokens items) (kind.Mark mark.CloseBrace) [] ts rest h.1 in
      let g = labels_and_statement names deep read in
      let good = item_good names K spelled deep SwitchItems (λ d h. h) g (labelled_good names K spelled deep read x.sound) in
      let r = row_whole names K spelled SwitchItems deep NoElse (item names deep g) (switched_shortens names K spelled deep (item names deep g) good) switch_item_exact switch_item_lets
      items ts (p.token ∷ p.after) (spelled.tail t ts known) f d p.left (no_else_on (kind.Mark mark.CloseBrace) p.token p.after p.kind refl) (switch_item_shut p.token p.after p.kind) in
      let c = after_taken is_close_brace (kind.Mark mark.CloseBrace) (p.token ∷ p.after) rest refl (p.kind, p.right) in
      on_line (λ n. OfStatement (SwitchBlock n items)) line t.line rest _ e (ap (λ (k : TokenKind). switch_block_of names deep read t.line k ts) h.0 ∙ rw (r, c) refl)

  -- ---- one level of depth more

  more_exact : (s : StatementTree) (here rest : List Token) → K here → is_whole_statement s ≡ true → StatementFits names.is_type (Fits names) s here
      → statement_depth s ≤ suc deep
      → Takes (statement_tokens s) here rest → (ends_open s ≡ true → NoElse rest) → statement_by names deep read switched here ≡ Some (OfStatement s, rest)
  more_exact (Block line items) here rest known w f d h o = block_exact line items here rest known f.0 f.1 (omega (arith, d)) h
  more_exact (ExpressionStatement line a) here rest known w f d h o = simple_exact names K spelled deep read switched x line a here rest f.0 f.1 (omega (arith, d)) h
  more_exact (If line a body) here rest known w f d h o =
      if_exact names K spelled deep read switched x line a body here rest known f.0 f.1 f.2 f.3 (omega (arith, d)) (omega (arith, d)) h (o refl)
  more_exact (IfElse line a body other) here rest known w f d h o =
      else_exact names K spelled deep read switched x line a body other here rest known f.0 f.1 f.2 f.3 f.4 f.5 f.6 (omega (arith, d)) (omega (arith, d)) (omega (arith, d)) h o
  more_exact (While line a body) here rest known w f d h o =
      while_exact names K spelled deep read switched x line a body here rest known f.0 f.1 f.2 f.3 (omega (arith, d)) (omega (arith, d)) h o
  more_exact (DoWhile line body a) here rest known w f d h o =
      do_exact names K spelled deep read switched x line body a here rest known f.0 f.1 f.2 f.3 (omega (arith, d)) (omega (arith, d)) h
  more_exact (For line first second step body) here rest known w f d h o = for_exact names K spelled deep read switched x line first second step body here rest known f d h o
  more_exact (ForDeclaration line first second step body) here rest known w f d h o =
      for_declaration_exact names K spelled deep read switched x line first second step body here rest known f d h o
  more_exact (Switch line a body) here rest known w f d h o =
      switch_exact names K spelled deep read switched x line a body here rest known f.0 f.1 f.2 f.3 (omega (arith, d)) (omega (arith, d)) h
  more_exact (Break line) here rest known w f d h o = break_exact names K spelled deep read switched x line here rest f h
  more_exact (Continue line) here rest known w f d h o = continue_exact names K spelled deep read switched x line here rest f h
  more_exact (Return line a) here rest known w f d h o = return_exact names K spelled deep read switched x line a here rest f.0 f.1 (omega (arith, d)) h
  more_exact _ here rest known w f d h o = absurd cc

  more_block : (s : StatementTree) (here rest : List Token) → K here → is_switch_block s ≡ true → StatementFits names.is_type (Fits names) s here
      → statement_depth s ≤ suc deep
      → Takes (statement_tokens s) here rest → switch_block names deep read here ≡ Some (OfStatement s, rest)
  more_block (SwitchBlock line items) here rest known w f d h = switch_block_exact line items here rest known f.0 f.1 (omega (arith, d)) h
  more_block _ here rest known w f d h = absurd cc

  simple_shut : (line : ℕ) (t : Token) (ts : List Token) → t.kind ≡ kind.Mark mark.CloseBrace → simple names deep line (t ∷ ts) ≡ None
  unfolding simple expression_before optional_before
  simple_shut line t ts k =
      let e = read_none names deep 1 t ts (rw k refl) in
      let c = after_other is_semicolon (kind.Mark mark.CloseBrace) t ts k refl in
      rw (e, c) refl

  more_shut : (t : Token) (ts : List Token) → t.kind ≡ kind.Mark mark.CloseBrace → statement_by names deep read switched (t ∷ ts) ≡ None
  unfolding statement_of
  more_shut t ts k = by_kind names K spelled deep read switched x (kind.Mark mark.CloseBrace) t ts None k (simple_shut t.line t ts k)

-- each statement that stands alone is a node
whole_deep : (s : StatementTree) → is_whole_statement s ≡ true → 1 ≤ statement_depth s
whole_deep (SwitchBlock line items) w = absurd cc
whole_deep (Labelled line labels s) w = absurd cc
whole_deep (Case line a) w = absurd cc
whole_deep (Default line) w = absurd cc
whole_deep _ w = omega arith

block_deep : (s : StatementTree) → is_switch_block s ≡ true → 1 ≤ statement_depth s
block_deep (SwitchBlock line items) w = omega arith
block_deep _ w = absurd cc

pub are_exact : (names : Names) (K : List Token → Type 0) → IsSpelled names K → (deep : ℕ)
    → AreExact names K deep (readers names deep Statements) (readers names deep SwitchBlocks)
unfolding readers
are_exact names K spelled zero = record {
  sound = statement_good names K spelled zero Statements;
  exact = λ s here rest known w f d h o. absurd (omega (arith, whole_deep s w, d));
  block = λ s here rest known w f d h. absurd (omega (arith, block_deep s w, d));
  shut = λ t ts k. refl;
}
are_exact names K spelled (suc below) =
    let x = are_exact names K spelled below in
    let r = readers names below Statements in
    let b = readers names below SwitchBlocks in
    record {
      sound = statement_good names K spelled (suc below) Statements;
      exact = more_exact names K spelled below r b x;
      block = more_block names K spelled below r b x;
      shut = more_shut names K spelled below r b x;
    }

-- a statement that stands alone, where no `else` follows that it could take
pub statement_exact : (names : Names) (K : List Token → Type 0) → IsSpelled names K → (deep : ℕ) (s : StatementTree) (here rest : List Token) → K here
    → is_whole_statement s ≡ true → StatementFits names.is_type (Fits names) s here → statement_depth s ≤ deep → Takes (statement_tokens s) here rest
    → (ends_open s ≡ true → NoElse rest) → readers names deep Statements here ≡ Some (OfStatement s, rest)
statement_exact names K spelled deep s here rest known w f d h o = (are_exact names K spelled deep).exact s here rest known w f d h o
