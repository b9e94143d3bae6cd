-- What is spelled as a form of a statement is read: selection, iteration and jumps.
use Rattle.std.proofs.Common.{◌≡◌, ◌≤◌, ℕ, suc, Bool, true, false, cond, List, [], ◌∷◌, ◌++◌, drop, Some, None, option_and_then, refl, sym, ap, subst, ◌∙◌, arith}
use Rattle.pv_token.specs.declared.token_table.Token.{Token}
use Rattle.pv_token.specs.declared.token_table.TokenKind.{TokenKind}
use Rattle.pv_token.specs.declared.token_table.TokenKind.TheVariants as kind
use Rattle.pv_token.specs.declared.words.Word.TheVariants as word
use Rattle.pv_token.specs.declared.marks.Mark.TheVariants as mark
use Rattle.pv_tree.specs.Syntax.{ExpressionTree, DeclarationTree, Declaration, StatementTree, ExpressionStatement, If, IfElse, While, DoWhile, For, ForDeclaration, Switch, Break, Continue, Return, Tree, OfExpression, OfDeclaration, OfStatement, OptionalTree, Absent, Present}
use Rattle.pv_tree.specs.Depths.{expression_depth, declaration_depth, statement_depth, optional_depth}
use Rattle.pv_tree.specs.Spelling.{with_semicolon, in_parens, expression_tokens, declaration_tokens, statement_tokens, optional_tokens}
use Rattle.pv_tree.specs.Grammar.{line_here}
use Rattle.pv_tree.specs.Spells.{Names, Fits}
use Rattle.pv_tree.specs.Tables.{as_statement}
use Rattle.pv_tree.specs.Places.{Expressions, is_whole_statement, is_switch_block, is_declaration_tree, ends_open}
use Rattle.pv_tree.specs.Fitting.{DeclarationFits, StatementFits, OptionalFits, past}
use Rattle.pv_expr_forms.specs.Reader.{is_open, is_close, after}
use Rattle.pv_expr_forms.proofs.Runs.{Takes, takes_then, takes_parts, takes_rest, takes_length, parts_at}
use Rattle.pv_expr_forms.proofs.Trees.{some_tokens}
use Rattle.pv_expr_forms.proofs.Heads.{IsSpelled}
use Rattle.pv_expr_forms.proofs.Ends.{stops_at}
use Rattle.pv_decl_forms.specs.Pieces.{Piece, is_semicolon}
use Rattle.pv_decl_forms.specs.Reader.{declaration}
use Rattle.pv_decl_forms.proofs.Marks.{after_taken}
use Rattle.pv_decl_forms.proofs.Goods.{known_behind}
use Rattle.pv_decl_forms.proofs.Wholes.{on_line}
use Rattle.pv_decl_forms.proofs.Declarings.{declaration_exact}
use Rattle.pv_stmt_forms.specs.Statements.{Statements, is_else, is_while, before, expression_before, only_declaration, second, else_part, selection, loop, do_end, do_loop, for_rest, for_parts, for_loop, switch, simple, return_behind, statement_of, statement_by}
use Rattle.pv_stmt_forms.proofs.FormTokens.{NoElse, else_none, no_else_on}
use Rattle.pv_stmt_forms.proofs.PartGoods.{IsStated}
use Rattle.pv_stmt_forms.proofs.FormStarts.{optional_opens, expression_begins, plain_statement, declaration_begins}
use Rattle.pv_stmt_forms.proofs.PartExacts.{governs, part_exact}

-- statements and blocks of a `switch` of at most so much depth are read
pub record AreExact (names : Names) (K : List Token → Type 0) (deep : ℕ) (read switched : List Token → Piece) : Type 0 where
  pub sound : IsStated names K Statements deep read
  pub exact : (s : StatementTree) (here rest : List Token) → K here → is_whole_statement s ≡ true → StatementFits names.is_type (Fits names) s here
      → statement_depth s ≤ deep
      → Takes (statement_tokens s) here rest → (ends_open s ≡ true → NoElse rest) → read here ≡ Some (OfStatement s, rest)
  pub block : (s : StatementTree) (here rest : List Token) → K here → is_switch_block s ≡ true → StatementFits names.is_type (Fits names) s here
      → statement_depth s ≤ deep
      → Takes (statement_tokens s) here rest → switched here ≡ Some (OfStatement s, rest)
  pub shut : (t : Token) (ts : List Token) → t.kind ≡ kind.Mark mark.CloseBrace → read (t ∷ ts) ≡ None

-- the parts of a `for` between its parentheses, and its body
pub record Parted (front cs ss bs : List TokenKind) (here rest : List Token) : Type 0 where
  pub second : List Token
  pub third : List Token
  pub inner : List Token
  pub front_takes : Takes front here second
  pub condition_takes : Takes (cs ++ kind.Mark mark.Semicolon ∷ []) second third
  pub step_takes : Takes (ss ++ kind.Mark mark.CloseParen ∷ []) third inner
  pub body_takes : Takes bs inner rest

pub parted_at : (front cs ss bs : List TokenKind) (here rest : List Token)
    → Takes (((front ++ (with_semicolon cs ++ ss)) ++ kind.Mark mark.CloseParen ∷ []) ++ bs) here rest → Parted front cs ss bs here rest
parted_at front cs ss bs here rest h =
    let p = takes_parts ((front ++ (with_semicolon cs ++ ss)) ++ kind.Mark mark.CloseParen ∷ []) bs here rest h in
    let q = takes_parts (front ++ (with_semicolon cs ++ ss)) (kind.Mark mark.CloseParen ∷ []) here p.0 p.1 in
    let r = takes_parts front (with_semicolon cs ++ ss) here q.0 q.1 in
    let s = takes_parts (with_semicolon cs) ss r.0 q.0 r.2 in
    record {
      second = r.0;
      third = s.0;
      inner = p.0;
      front_takes = r.1;
      condition_takes = s.1;
      step_takes = takes_then ss (kind.Mark mark.CloseParen ∷ []) s.0 q.0 p.0 s.2 q.2;
      body_takes = p.2;
    }

behind_part : (ks : List TokenKind) (k : TokenKind) (here rest : List Token) → Takes (ks ++ k ∷ []) here rest → drop 1 (past ks here) ≡ rest
behind_part ks k here rest h =
    let p = takes_parts ks (k ∷ []) here rest h in
    ap (drop 1) (takes_rest ks here p.0 p.1) ∙ takes_rest (k ∷ []) p.0 rest p.2

not_open : (s : StatementTree) (ts : List Token) → ends_open s ≡ false → ends_open s ≡ true → NoElse ts
not_open s ts shut o = absurd (let clash : false ≡ true = sym shut ∙ o in cc)

module _ (names : Names) (K : List Token → Type 0) (spelled : IsSpelled names K) (deep : ℕ) (read switched : List Token → Piece) (x : AreExact names K deep read switched) where
  -- by the kind of the first token
  pub by_kind : (k : TokenKind) (t : Token) (ts : List Token) (o : Piece) → t.kind ≡ k
      → statement_of names deep read switched t.line k (t ∷ ts) ts ≡ o → statement_by names deep read switched (t ∷ ts) ≡ o
  unfolding statement_by
  by_kind k t ts o e h = ap (λ (y : TokenKind). statement_of names deep read switched t.line y (t ∷ ts) ts) e ∙ h

  -- ---- statements that end with a semicolon

  pub break_exact : (line : ℕ) (here rest : List Token) → line ≡ line_here here → Takes (kind.Word word.Break ∷ kind.Mark mark.Semicolon ∷ []) here rest
      → statement_by names deep read switched here ≡ Some (OfStatement (Break line), rest)
  unfolding statement_of
  break_exact line [] rest e h = absurd h
  break_exact line (t ∷ ts) rest e h =
      let c = after_taken is_semicolon (kind.Mark mark.Semicolon) ts rest refl h.1 in
      on_line (λ l. OfStatement (Break l)) line t.line rest _ e (by_kind (kind.Word word.Break) t ts _ h.0 (rw c refl))

  pub continue_exact : (line : ℕ) (here rest : List Token) → line ≡ line_here here
      → Takes (kind.Word word.Continue ∷ kind.Mark mark.Semicolon ∷ []) here rest
      → statement_by names deep read switched here ≡ Some (OfStatement (Continue line), rest)
  unfolding statement_of
  continue_exact line [] rest e h = absurd h
  continue_exact line (t ∷ ts) rest e h =
      let c = after_taken is_semicolon (kind.Mark mark.Semicolon) ts rest refl h.1 in
      on_line (λ l. OfStatement (Continue l)) line t.line rest _ e (by_kind (kind.Word word.Continue) t ts _ h.0 (rw c refl))

  semicolon_part : (o : OptionalTree) (here rest : List Token) → OptionalFits names.is_type (Fits names) Expressions o here → optional_depth o ≤ deep
      → Takes (with_semicolon (optional_tokens o)) here rest → expression_before names deep is_semicolon here ≡ Some (o, rest)
  semicolon_part o here rest f d h = part_exact names deep is_semicolon (kind.Mark mark.Semicolon) refl refl (omega arith) o here rest f d h

  close_part : (o : OptionalTree) (here rest : List Token) → OptionalFits names.is_type (Fits names) Expressions o here → optional_depth o ≤ deep
      → Takes (optional_tokens o ++ kind.Mark mark.CloseParen ∷ []) here rest → expression_before names deep is_close here ≡ Some (o, rest)
  close_part o here rest f d h = part_exact names deep is_close (kind.Mark mark.CloseParen) refl refl (omega arith) o here rest f d h

  pub return_exact : (line : ℕ) (o : OptionalTree) (here rest : List Token) → line ≡ line_here here
      → OptionalFits names.is_type (Fits names) Expressions o (drop 1 here) → optional_depth o ≤ deep
      → Takes (kind.Word word.Return ∷ with_semicolon (optional_tokens o)) here rest
      → statement_by names deep read switched here ≡ Some (OfStatement (Return line o), rest)
  unfolding statement_of return_behind
  return_exact line o [] rest e f d h = absurd h
  return_exact line o (t ∷ ts) rest e f d h =
      let c = semicolon_part o ts rest f d h.1 in
      on_line (λ l. OfStatement (Return l o)) line t.line rest _ e (by_kind (kind.Word word.Return) t ts _ h.0 (rw c refl))

  simple_read : (o : OptionalTree) (t : Token) (ts rest : List Token) → OptionalFits names.is_type (Fits names) Expressions o (t ∷ ts) → optional_depth o ≤ deep
      → Takes (with_semicolon (optional_tokens o)) (t ∷ ts) rest
      → simple names deep t.line (t ∷ ts) ≡ Some (OfStatement (ExpressionStatement t.line o), rest)
  unfolding simple
  simple_read o t ts rest f d h = rw (semicolon_part o (t ∷ ts) rest f d h) refl

  pub simple_exact : (line : ℕ) (o : OptionalTree) (here rest : List Token) → line ≡ line_here here
      → OptionalFits names.is_type (Fits names) Expressions o here → optional_depth o ≤ deep
      → Takes (with_semicolon (optional_tokens o)) here rest
      → statement_by names deep read switched here ≡ Some (OfStatement (ExpressionStatement line o), rest)
  unfolding statement_of
  simple_exact line Absent [] rest e f d h = absurd h
  simple_exact line Absent (t ∷ ts) rest e f d h =
      on_line (λ l. OfStatement (ExpressionStatement l Absent)) line t.line rest _ e (by_kind (kind.Mark mark.Semicolon) t ts _ h.0 (simple_read Absent t ts rest f d h))
  simple_exact line (Present (OfExpression a)) [] rest e f d h =
      let p = takes_parts (expression_tokens a) (kind.Mark mark.Semicolon ∷ []) [] rest h in
      absurd (omega (arith, some_tokens a, takes_length (expression_tokens a) [] p.0 p.1))
  simple_exact line (Present (OfExpression a)) (t ∷ ts) rest e f d h =
      let p = parts_at (expression_tokens a) (kind.Mark mark.Semicolon) [] (t ∷ ts) rest h in
      let b = expression_begins names a t ts (p.token ∷ p.after) f.1 p.left (stops_at (kind.Mark mark.Semicolon) 1 p.token p.after p.kind (omega arith)) in
      on_line (λ l. OfStatement (ExpressionStatement l (Present (OfExpression a)))) line t.line rest _ e
      (by_kind t.kind t ts _ refl (plain_statement names deep read switched t.line t.kind (t ∷ ts) ts b ∙ simple_read (Present (OfExpression a)) t ts rest f d h))
  simple_exact line (Present _) here rest e f d h = absurd (let e : false ≡ true = f.0 in cc)

  -- ---- `while` and `switch`

  pub while_exact : (line : ℕ) (a : ExpressionTree) (body : StatementTree) (here rest : List Token) → K here → line ≡ line_here here → Fits names a (drop 2 here)
      → is_whole_statement body ≡ true → StatementFits names.is_type (Fits names) body (drop 1 (past (expression_tokens a) (drop 2 here)))
      → expression_depth a ≤ deep → statement_depth body ≤ deep
      → Takes (kind.Word word.While ∷ (in_parens (expression_tokens a) ++ statement_tokens body)) here rest → (ends_open body ≡ true → NoElse rest)
      → statement_by names deep read switched here ≡ Some (OfStatement (While line a body), rest)
  unfolding statement_of loop
  while_exact line a body [] rest known e f w fits d l h o = absurd h
  while_exact line a body (t ∷ ts) rest known e f w fits d l h o =
      let g = governs names K spelled deep a (statement_tokens body) ts rest (spelled.tail t ts known) f d h.1 in
      let b = x.exact body g.inner rest g.known w (subst (λ (y : List Token). StatementFits names.is_type (Fits names) body y) g.at fits) l g.takes o in
      on_line (λ n. OfStatement (While n a body)) line t.line rest _ e (by_kind (kind.Word word.While) t ts _ h.0 (rw (g.is, b) refl))

  pub switch_exact : (line : ℕ) (a : ExpressionTree) (body : StatementTree) (here rest : List Token) → K here → line ≡ line_here here → Fits names a (drop 2 here)
      → is_switch_block body ≡ true → StatementFits names.is_type (Fits names) body (drop 1 (past (expression_tokens a) (drop 2 here)))
      → expression_depth a ≤ deep → statement_depth body ≤ deep
      → Takes (kind.Word word.Switch ∷ (in_parens (expression_tokens a) ++ statement_tokens body)) here rest
      → statement_by names deep read switched here ≡ Some (OfStatement (Switch line a body), rest)
  unfolding statement_of switch
  switch_exact line a body [] rest known e f w fits d l h = absurd h
  switch_exact line a body (t ∷ ts) rest known e f w fits d l h =
      let g = governs names K spelled deep a (statement_tokens body) ts rest (spelled.tail t ts known) f d h.1 in
      let b = x.block body g.inner rest g.known w (subst (λ (y : List Token). StatementFits names.is_type (Fits names) body y) g.at fits) l g.takes in
      on_line (λ n. OfStatement (Switch n a body)) line t.line rest _ e (by_kind (kind.Word word.Switch) t ts _ h.0 (rw (g.is, b) refl))

  -- ---- `if`

  only_chosen : (open' : Bool) (line : ℕ) (a : ExpressionTree) (body : StatementTree) (ts : List Token) → NoElse ts
      → cond {A = Piece} open' (Some (OfStatement (If line a body), ts)) (second line (OfExpression a) (OfStatement body) ts (option_and_then read (after is_else ts))) ≡ Some (OfStatement (If line a body), ts)
  only_chosen true line a body ts n = refl
  only_chosen false line a body ts n = rw (else_none ts n) refl

  pub if_exact : (line : ℕ) (a : ExpressionTree) (body : StatementTree) (here rest : List Token) → K here → line ≡ line_here here → Fits names a (drop 2 here)
      → is_whole_statement body ≡ true → StatementFits names.is_type (Fits names) body (drop 1 (past (expression_tokens a) (drop 2 here)))
      → expression_depth a ≤ deep → statement_depth body ≤ deep
      → Takes (kind.Word word.If ∷ (in_parens (expression_tokens a) ++ statement_tokens body)) here rest → NoElse rest
      → statement_by names deep read switched here ≡ Some (OfStatement (If line a body), rest)
  unfolding statement_of selection else_part
  if_exact line a body [] rest known e f w fits d l h o = absurd h
  if_exact line a body (t ∷ ts) rest known e f w fits d l h o =
      let g = governs names K spelled deep a (statement_tokens body) ts rest (spelled.tail t ts known) f d h.1 in
      let b = x.exact body g.inner rest g.known w (subst (λ (y : List Token). StatementFits names.is_type (Fits names) body y) g.at fits) l g.takes (λ open'. o) in
      on_line (λ n. OfStatement (If n a body)) line t.line rest _ e (by_kind (kind.Word word.If) t ts _ h.0 (rw (g.is, b) (only_chosen (ends_open body) t.line a body rest o)))

  pub else_exact : (line : ℕ) (a : ExpressionTree) (body other : StatementTree) (here rest : List Token) → K here → line ≡ line_here here → Fits names a (drop 2 here)
      → is_whole_statement body ≡ true → ends_open body ≡ false
      → StatementFits names.is_type (Fits names) body (drop 1 (past (expression_tokens a) (drop 2 here)))
      → is_whole_statement other ≡ true
      → StatementFits names.is_type (Fits names) other (drop 1 (past (statement_tokens body) (drop 1 (past (expression_tokens a) (drop 2 here)))))
      → expression_depth a ≤ deep → statement_depth body ≤ deep → statement_depth other ≤ deep
      → Takes (kind.Word word.If ∷ (in_parens (expression_tokens a) ++ (statement_tokens body ++ (kind.Word word.Else ∷ statement_tokens other)))) here rest
      → (ends_open other ≡ true → NoElse rest)
      → statement_by names deep read switched here ≡ Some (OfStatement (IfElse line a body other), rest)
  unfolding statement_of selection else_part
  else_exact line a body other [] rest known e f w shut fits v others d l m h o = absurd h
  else_exact line a body other (t ∷ ts) rest known e f w shut fits v others d l m h o =
      let bs = statement_tokens body in
      let g = governs names K spelled deep a (bs ++ (kind.Word word.Else ∷ statement_tokens other)) ts rest (spelled.tail t ts known) f d h.1 in
      let p = parts_at bs (kind.Word word.Else) (statement_tokens other) g.inner rest g.takes in
      let b = x.exact body g.inner (p.token ∷ p.after) g.known w (subst (λ (y : List Token). StatementFits names.is_type (Fits names) body y) g.at fits) l p.left (not_open body (p.token ∷ p.after) shut) in
      let known' = spelled.tail p.token p.after (known_behind names K spelled bs g.inner (p.token ∷ p.after) p.left g.known) in
      let at : drop 1 (past bs (drop 1 (past (expression_tokens a) (drop 1 ts)))) ≡ p.after = ap (λ (y : List Token). drop 1 (past bs y)) g.at ∙ ap (drop 1) (takes_rest bs g.inner (p.token ∷ p.after) p.left) in
      let c = x.exact other p.after rest known' v (subst (λ (y : List Token). StatementFits names.is_type (Fits names) other y) at others) m p.right o in
      let there = after_taken is_else (kind.Word word.Else) (p.token ∷ p.after) p.after refl (p.kind, refl) in
      on_line (λ n. OfStatement (IfElse n a body other)) line t.line rest _ e (by_kind (kind.Word word.If) t ts _ h.0 (rw (g.is, b, shut, there, c) refl))

  -- ---- `do`

  pub do_exact : (line : ℕ) (body : StatementTree) (a : ExpressionTree) (here rest : List Token) → K here → line ≡ line_here here
      → is_whole_statement body ≡ true → StatementFits names.is_type (Fits names) body (drop 1 here) → Fits names a (drop 2 (past (statement_tokens body) (drop 1 here)))
      → statement_depth body ≤ deep → expression_depth a ≤ deep
      → Takes (kind.Word word.Do ∷ (statement_tokens body ++ (kind.Word word.While ∷ with_semicolon (in_parens (expression_tokens a))))) here rest
      → statement_by names deep read switched here ≡ Some (OfStatement (DoWhile line body a), rest)
  unfolding statement_of do_loop do_end before
  do_exact line body a [] rest known e w fits f l d h = absurd h
  do_exact line body a (t ∷ ts) rest known e w fits f l d h =
      let bs = statement_tokens body in
      let p = parts_at bs (kind.Word word.While) (with_semicolon (in_parens (expression_tokens a))) ts rest h.1 in
      let b = x.exact body ts (p.token ∷ p.after) (spelled.tail t ts known) w fits l p.left (λ open'. no_else_on (kind.Word word.While) p.token p.after p.kind refl) in
      let known' = spelled.tail p.token p.after (known_behind names K spelled bs ts (p.token ∷ p.after) p.left (spelled.tail t ts known)) in
      let at : drop 2 (past bs ts) ≡ drop 1 p.after = ap (drop 2) (takes_rest bs ts (p.token ∷ p.after) p.left) in
      let g = governs names K spelled deep a (kind.Mark mark.Semicolon ∷ []) p.after rest known' (subst (λ (y : List Token). Fits names a y) at f) d p.right in
      let there = after_taken is_while (kind.Word word.While) (p.token ∷ p.after) p.after refl (p.kind, refl) in
      let c = after_taken is_semicolon (kind.Mark mark.Semicolon) g.inner rest refl g.takes in
      on_line (λ n. OfStatement (DoWhile n body a)) line t.line rest _ e (by_kind (kind.Word word.Do) t ts _ h.0 (rw (b, there, g.is, c) refl))

  -- ---- `for`

  for_rest_exact : (make : OptionalTree → OptionalTree → Tree → Tree) (second step : OptionalTree) (body : StatementTree) (here mid inner rest : List Token) → K inner
      → OptionalFits names.is_type (Fits names) Expressions second here → OptionalFits names.is_type (Fits names) Expressions step mid
      → is_whole_statement body ≡ true → StatementFits names.is_type (Fits names) body inner
      → optional_depth second ≤ deep → optional_depth step ≤ deep → statement_depth body ≤ deep
      → Takes (optional_tokens second ++ kind.Mark mark.Semicolon ∷ []) here mid → Takes (optional_tokens step ++ kind.Mark mark.CloseParen ∷ []) mid inner
      → Takes (statement_tokens body) inner rest → (ends_open body ≡ true → NoElse rest)
      → for_rest names deep read make here ≡ Some (make second step (OfStatement body), rest)
  unfolding for_rest
  for_rest_exact make second step body here mid inner rest known f g w fits d k l h i j o =
      rw (semicolon_part second here mid f d h, close_part step mid inner g k i, x.exact body inner rest known w fits l j o) refl

  -- behind the parenthesis that opens
  begun_for : (t : Token) (ts : List Token) (a : Tree) (rest : List Token) (opens : Token) (inside : List Token) → t.kind ≡ kind.Word word.For → ts ≡ opens ∷ inside
      → opens.kind ≡ kind.Mark mark.OpenParen
      → for_parts names deep read t.line inside ≡ Some (a, rest) → statement_by names deep read switched (t ∷ ts) ≡ Some (a, rest)
  unfolding statement_of for_loop
  begun_for t ts a rest opens inside k is o h =
      let there : after is_open ts ≡ Some inside = ap (after is_open) is ∙ after_taken is_open (kind.Mark mark.OpenParen) (opens ∷ inside) inside refl (o, refl) in
      by_kind (kind.Word word.For) t ts _ k (rw there h)

  for_parts_plain : (line : ℕ) (first second step : OptionalTree) (body : StatementTree) (here rest : List Token) → K here
      → OptionalFits names.is_type (Fits names) Expressions first here
      → OptionalFits names.is_type (Fits names) Expressions second (drop 1 (past (optional_tokens first) here))
      → OptionalFits names.is_type (Fits names) Expressions step (drop 1 (past (optional_tokens second) (drop 1 (past (optional_tokens first) here))))
      → is_whole_statement body ≡ true
      → StatementFits names.is_type (Fits names) body (drop 1 (past (optional_tokens step) (drop 1 (past (optional_tokens second) (drop 1 (past (optional_tokens first) here))))))
      → optional_depth first ≤ deep → optional_depth second ≤ deep → optional_depth step ≤ deep → statement_depth body ≤ deep
      → Takes (((with_semicolon (optional_tokens first) ++ (with_semicolon (optional_tokens second) ++ optional_tokens step)) ++ kind.Mark mark.CloseParen ∷ []) ++ statement_tokens body) here rest
      → (ends_open body ≡ true → NoElse rest)
      → for_parts names deep read line here ≡ Some (OfStatement (For line first second step body), rest)
  unfolding for_parts
  for_parts_plain line first second step body here rest known f g p w fits d k n l h o =
      let fs = optional_tokens first in
      let cs = optional_tokens second in
      let ss = optional_tokens step in
      let q = parted_at (with_semicolon fs) cs ss (statement_tokens body) here rest h in
      let at1 = behind_part fs (kind.Mark mark.Semicolon) here q.second q.front_takes in
      let at2 = ap (λ (y : List Token). drop 1 (past cs y)) at1 ∙ behind_part cs (kind.Mark mark.Semicolon) q.second q.third q.condition_takes in
      let at3 = ap (λ (y : List Token). drop 1 (past ss y)) at2 ∙ behind_part ss (kind.Mark mark.CloseParen) q.third q.inner q.step_takes in
      let known1 = known_behind names K spelled (with_semicolon fs) here q.second q.front_takes known in
      let known2 = known_behind names K spelled (cs ++ kind.Mark mark.Semicolon ∷ []) q.second q.third q.condition_takes known1 in
      let known3 = known_behind names K spelled (ss ++ kind.Mark mark.CloseParen ∷ []) q.third q.inner q.step_takes known2 in
      let none = (optional_opens names first here q.second f q.front_takes).no_type in
      let e = semicolon_part first here q.second f d q.front_takes in
      let r = for_rest_exact (λ c s y. OfStatement (For line first c s (as_statement y))) second step body q.second q.third q.inner rest known3
      (subst (λ (y : List Token). OptionalFits names.is_type (Fits names) Expressions second y) at1 g)
      (subst (λ (y : List Token). OptionalFits names.is_type (Fits names) Expressions step y) at2 p) w
      (subst (λ (y : List Token). StatementFits names.is_type (Fits names) body y) at3 fits) k n l q.condition_takes q.step_takes q.body_takes o in
      rw (none, e) r

  pub for_exact : (line : ℕ) (first second step : OptionalTree) (body : StatementTree) (here rest : List Token) → K here
      → StatementFits names.is_type (Fits names) (For line first second step body) here → statement_depth (For line first second step body) ≤ suc deep
      → Takes (statement_tokens (For line first second step body)) here rest → (ends_open body ≡ true → NoElse rest)
      → statement_by names deep read switched here ≡ Some (OfStatement (For line first second step body), rest)
  for_exact line first second step body [] rest known f d h o = absurd h
  for_exact line first second step body (t ∷ []) rest known f d h o = absurd h.1
  for_exact line first second step body (t ∷ u ∷ us) rest known f d h o =
      let known' = spelled.tail u us (spelled.tail t (u ∷ us) known) in
      let e = for_parts_plain t.line first second step body us rest known' f.1 f.2 f.3 f.4 f.5 (omega (arith, d)) (omega (arith, d)) (omega (arith, d)) (omega (arith, d)) h.1.1 o in
      on_line (λ n. OfStatement (For n first second step body)) line t.line rest _ f.0 (begun_for t (u ∷ us) (OfStatement (For t.line first second step body)) rest u us h.0 refl h.1.0 e)

  pub declared_exact : (d : DeclarationTree) (here rest : List Token) → K here → is_declaration_tree d ≡ true → DeclarationFits names.is_type (Fits names) d here
      → declaration_depth d ≤ deep → Takes (declaration_tokens d) here rest
      → only_declaration (declaration names deep here) ≡ Some (OfDeclaration d, rest)
  unfolding only_declaration
  declared_exact (Declaration line specs parts) here rest known s f d h =
      rw (declaration_exact names K spelled deep (Declaration line specs parts) here rest known refl f d h) refl
  declared_exact _ here rest known s f d h = absurd cc

  for_parts_declared : (line : ℕ) (first : DeclarationTree) (second step : OptionalTree) (body : StatementTree) (here rest : List Token) → K here
      → is_declaration_tree first ≡ true → DeclarationFits names.is_type (Fits names) first here
      → OptionalFits names.is_type (Fits names) Expressions second (past (declaration_tokens first) here)
      → OptionalFits names.is_type (Fits names) Expressions step (drop 1 (past (optional_tokens second) (past (declaration_tokens first) here)))
      → is_whole_statement body ≡ true
      → StatementFits names.is_type (Fits names) body (drop 1 (past (optional_tokens step) (drop 1 (past (optional_tokens second) (past (declaration_tokens first) here)))))
      → declaration_depth first ≤ deep → optional_depth second ≤ deep → optional_depth step ≤ deep → statement_depth body ≤ deep
      → Takes (((declaration_tokens first ++ (with_semicolon (optional_tokens second) ++ optional_tokens step)) ++ kind.Mark mark.CloseParen ∷ []) ++ statement_tokens body) here rest
      → (ends_open body ≡ true → NoElse rest)
      → for_parts names deep read line here ≡ Some (OfStatement (ForDeclaration line first second step body), rest)
  unfolding for_parts
  for_parts_declared line first second step body here rest known is f g p w fits d k n l h o =
      let fs = declaration_tokens first in
      let cs = optional_tokens second in
      let ss = optional_tokens step in
      let q = parted_at fs cs ss (statement_tokens body) here rest h in
      let at1 = takes_rest fs here q.second q.front_takes in
      let at2 = ap (λ (y : List Token). drop 1 (past cs y)) at1 ∙ behind_part cs (kind.Mark mark.Semicolon) q.second q.third q.condition_takes in
      let at3 = ap (λ (y : List Token). drop 1 (past ss y)) at2 ∙ behind_part ss (kind.Mark mark.CloseParen) q.third q.inner q.step_takes in
      let known1 = known_behind names K spelled fs here q.second q.front_takes known in
      let known2 = known_behind names K spelled (cs ++ kind.Mark mark.Semicolon ∷ []) q.second q.third q.condition_takes known1 in
      let known3 = known_behind names K spelled (ss ++ kind.Mark mark.CloseParen ∷ []) q.third q.inner q.step_takes known2 in
      let some_type = declaration_begins names first here q.second is f q.front_takes in
      let e = declared_exact first here q.second known is f d q.front_takes in
      let r = for_rest_exact (λ c s y. OfStatement (ForDeclaration line first c s (as_statement y))) second step body q.second q.third q.inner rest known3
      (subst (λ (y : List Token). OptionalFits names.is_type (Fits names) Expressions second y) at1 g)
      (subst (λ (y : List Token). OptionalFits names.is_type (Fits names) Expressions step y) at2 p) w
      (subst (λ (y : List Token). StatementFits names.is_type (Fits names) body y) at3 fits) k n l q.condition_takes q.step_takes q.body_takes o in
      rw (some_type, e) r

  pub for_declaration_exact : (line : ℕ) (first : DeclarationTree) (second step : OptionalTree) (body : StatementTree) (here rest : List Token) → K here
      → StatementFits names.is_type (Fits names) (ForDeclaration line first second step body) here
      → statement_depth (ForDeclaration line first second step body) ≤ suc deep
      → Takes (statement_tokens (ForDeclaration line first second step body)) here rest → (ends_open body ≡ true → NoElse rest)
      → statement_by names deep read switched here ≡ Some (OfStatement (ForDeclaration line first second step body), rest)
  for_declaration_exact line first second step body [] rest known f d h o = absurd h
  for_declaration_exact line first second step body (t ∷ []) rest known f d h o = absurd h.1
  for_declaration_exact line first second step body (t ∷ u ∷ us) rest known f d h o =
      let known' = spelled.tail u us (spelled.tail t (u ∷ us) known) in
      let e = for_parts_declared t.line first second step body us rest known' f.1 f.2 f.3 f.4 f.5 f.6 (omega (arith, d)) (omega (arith, d)) (omega (arith, d)) (omega (arith, d)) h.1.1 o in
      on_line (λ n. OfStatement (ForDeclaration n first second step body)) line t.line rest _ f.0 (begun_for t (u ∷ us) (OfStatement (ForDeclaration t.line first second step body)) rest u us h.0 refl h.1.0 e)
