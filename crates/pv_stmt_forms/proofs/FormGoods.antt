-- What is read as a form of a statement fits, and spells what was taken: selection, iteration, jumps, and blocks.
use Rattle.std.proofs.Common.{◌≡◌, ◌≤◌, ℕ, suc, Bool, true, false, cond, List, [], ◌∷◌, ◌++◌, drop, Some, None, option_map, option_and_then, refl, sym, ap, subst, ◌∙◌, arith}
use Rattle.std.proofs.lemmas.List.{length-append}
use Rattle.pv_token.specs.declared.token_table.Token.{Token}
use Rattle.pv_token.specs.declared.token_table.TokenKind.TheVariants as kind
use Rattle.pv_token.specs.declared.words.Word.TheVariants as word
use Rattle.pv_token.specs.declared.marks.Mark.TheVariants as mark
use Rattle.pv_tree.specs.Syntax.{ExpressionStatement, If, IfElse, While, DoWhile, For, ForDeclaration, Switch, Break, Continue, Return, Tree, OfStatement, OptionalTree}
use Rattle.pv_tree.specs.Depths.{expression_depth}
use Rattle.pv_tree.specs.Spelling.{with_semicolon, in_parens, expression_tokens, declaration_tokens, statement_tokens, optional_tokens}
use Rattle.pv_tree.specs.Spells.{Names, begins_type, Fits}
use Rattle.pv_tree.specs.Tables.{as_expression, as_declaration, as_statement}
use Rattle.pv_tree.specs.Places.{Expressions, ends_open}
use Rattle.pv_tree.specs.Fitting.{StatementFits, DeclarationFits, OptionalFits, past}
use Rattle.pv_expr_forms.specs.Reader.{is_open, after}
use Rattle.pv_expr_forms.proofs.Runs.{Takes, takes_then, takes_rest, takes_behind}
use Rattle.pv_expr_forms.proofs.Steps.{mapped, followed}
use Rattle.pv_expr_forms.proofs.Heads.{IsSpelled}
use Rattle.pv_decl_forms.specs.Pieces.{Piece, is_semicolon}
use Rattle.pv_decl_forms.specs.Reader.{declaration}
use Rattle.pv_decl_forms.proofs.Marks.{semicolon_taken}
use Rattle.pv_decl_forms.proofs.Steps.{piece_is}
use Rattle.pv_decl_forms.proofs.Goods.{known_behind}
use Rattle.pv_stmt_forms.specs.Statements.{Form, Statements, SwitchBlocks, is_else, is_while, before, condition, expression_before, only_declaration, second, else_part, selection, loop, do_end, do_loop, for_rest, for_parts, for_loop, switch, simple, return_behind}
use Rattle.pv_stmt_forms.proofs.FormTokens.{else_taken, while_taken, open_taken, before_is}
use Rattle.pv_stmt_forms.proofs.PartGoods.{Stated, stated_at, IsStated, behind_one, condition_good, parted_good, declared_good, for_rest_good}

module _ (names : Names) (K : List Token → Type 0) (spelled : IsSpelled names K) (deep : ℕ) where
  -- an expression in parentheses, and a statement
  pub record Governed (form : Form) (here : List Token) (a body : Tree) (rest : List Token) : Type 0 where
    pub inner : List Token
    pub condition_fits : Fits names (as_expression a) (drop 1 here)
    pub condition_takes : Takes (in_parens (expression_tokens (as_expression a))) here inner
    pub condition_shallow : expression_depth (as_expression a) ≤ deep
    pub at : drop 1 (past (expression_tokens (as_expression a)) (drop 1 here)) ≡ inner
    pub statement : Stated names form deep inner body rest
    pub known : K rest

  governed_good : (form : Form) (read : List Token → Piece) → IsStated names K form deep read → (ts : List Token) (c x : Tree × List Token) → K ts
      → condition names deep ts ≡ Some c
      → read c.1 ≡ Some x → Governed form ts c.0 x.0 x.1
  governed_good form read s ts c x known e h =
      let g = condition_good names K spelled deep ts c.0 c.1 known e in
      let known' = known_behind names K spelled (in_parens (expression_tokens (as_expression c.0))) ts c.1 g.takes known in
      let b = s c.1 x.0 x.1 known' h in
      record {
        inner = c.1;
        condition_fits = g.fits;
        condition_takes = g.takes;
        condition_shallow = g.shallow;
        at = g.at;
        statement = b;
        known = known_behind names K spelled (statement_tokens (as_statement x.0)) c.1 x.1 b.takes known';
      }

  governed_takes : (form : Form) (ts : List Token) (a body : Tree) (rest : List Token) → Governed form ts a body rest
      → Takes (in_parens (expression_tokens (as_expression a)) ++ statement_tokens (as_statement body)) ts rest
  governed_takes form ts a body rest g =
      takes_then (in_parens (expression_tokens (as_expression a))) (statement_tokens (as_statement body)) ts g.inner rest g.condition_takes g.statement.takes

  governed_fits : (form : Form) (ts : List Token) (a body : Tree) (rest : List Token) → Governed form ts a body rest
      → StatementFits names.is_type (Fits names) (as_statement body) (drop 1 (past (expression_tokens (as_expression a)) (drop 1 ts)))
  governed_fits form ts a body rest g = subst (λ (y : List Token). StatementFits names.is_type (Fits names) (as_statement body) y) (sym g.at) g.statement.fits

  abbrev IsGood : List Token → Tree → List Token → Type 0
  IsGood here a rest = Stated names Statements (suc deep) here a rest

  pub switch_good : (switched : List Token → Piece) → IsStated names K SwitchBlocks deep switched → (t : Token) (ts : List Token) (a : Tree) (rest : List Token)
      → K ts → t.kind ≡ kind.Word word.Switch
      → switch names deep switched t.line ts ≡ Some (a, rest) → IsGood (t ∷ ts) a rest
  unfolding switch
  switch_good switched s t ts a rest known k e =
      let f = followed (λ (c : Tree × List Token). option_map (λ (x : Tree × List Token). let z : Tree × List Token = (OfStatement (Switch t.line (as_expression c.0) (as_statement x.0)), x.1) in z) (switched c.1)) (condition names deep ts) (a, rest) e in
      let c = f.0 in
      let m = mapped (λ (x : Tree × List Token). let z : Tree × List Token = (OfStatement (Switch t.line (as_expression c.0) (as_statement x.0)), x.1) in z) (switched c.1) (a, rest) f.2 in
      let x = m.0 in
      let g = governed_good SwitchBlocks switched s ts c x known f.1 m.1 in
      stated_at names Statements (suc deep) (t ∷ ts) (OfStatement (Switch t.line (as_expression c.0) (as_statement x.0)), x.1) a rest m.2 (record {
        is = refl;
        stands = refl;
        fits = (refl, g.condition_fits, g.statement.stands, governed_fits SwitchBlocks ts c.0 x.0 x.1 g);
        shallow = omega (arith, g.condition_shallow, g.statement.shallow);
        spells = omega arith;
        takes = (k, governed_takes SwitchBlocks ts c.0 x.0 x.1 g);
      })

  -- ---- jumps, and statements that end with a semicolon

  pub break_good : (t : Token) (ts : List Token) (a : Tree) (rest : List Token) → t.kind ≡ kind.Word word.Break
      → option_map {U = Tree × List Token} (λ y. (OfStatement (Break t.line), y)) (after is_semicolon ts) ≡ Some (a, rest) → IsGood (t ∷ ts) a rest
  break_good t ts a rest k e =
      let m = mapped (λ (y : List Token). let z : Tree × List Token = (OfStatement (Break t.line), y) in z) (after is_semicolon ts) (a, rest) e in
      stated_at names Statements (suc deep) (t ∷ ts) (OfStatement (Break t.line), m.0) a rest m.2
      (record { is = refl; stands = refl; fits = refl; shallow = omega arith; spells = omega arith; takes = (k, semicolon_taken ts m.0 m.1) })

  pub continue_good : (t : Token) (ts : List Token) (a : Tree) (rest : List Token) → t.kind ≡ kind.Word word.Continue
      → option_map {U = Tree × List Token} (λ y. (OfStatement (Continue t.line), y)) (after is_semicolon ts) ≡ Some (a, rest) → IsGood (t ∷ ts) a rest
  continue_good t ts a rest k e =
      let m = mapped (λ (y : List Token). let z : Tree × List Token = (OfStatement (Continue t.line), y) in z) (after is_semicolon ts) (a, rest) e in
      stated_at names Statements (suc deep) (t ∷ ts) (OfStatement (Continue t.line), m.0) a rest m.2
      (record { is = refl; stands = refl; fits = refl; shallow = omega arith; spells = omega arith; takes = (k, semicolon_taken ts m.0 m.1) })

  pub return_good : (t : Token) (ts : List Token) (a : Tree) (rest : List Token) → K ts → t.kind ≡ kind.Word word.Return
      → return_behind names deep t.line ts ≡ Some (a, rest) → IsGood (t ∷ ts) a rest
  unfolding return_behind
  return_good t ts a rest known k e =
      let m = mapped (λ (x : OptionalTree × List Token). let z : Tree × List Token = (OfStatement (Return t.line x.0), x.1) in z) (expression_before names deep is_semicolon ts) (a, rest) e in
      let x = m.0 in
      let g = parted_good names K spelled deep is_semicolon (kind.Mark mark.Semicolon) semicolon_taken ts x.0 x.1 known m.1 in
      stated_at names Statements (suc deep) (t ∷ ts) (OfStatement (Return t.line x.0), x.1) a rest m.2
      (record { is = refl; stands = refl; fits = (refl, g.fits); shallow = omega (arith, g.shallow); spells = omega arith; takes = (k, g.takes) })

  pub simple_good : (t : Token) (ts : List Token) (a : Tree) (rest : List Token) → K (t ∷ ts) → simple names deep t.line (t ∷ ts) ≡ Some (a, rest)
      → IsGood (t ∷ ts) a rest
  unfolding simple
  simple_good t ts a rest known e =
      let m = mapped (λ (x : OptionalTree × List Token). let z : Tree × List Token = (OfStatement (ExpressionStatement t.line x.0), x.1) in z) (expression_before names deep is_semicolon (t ∷ ts)) (a, rest) e in
      let x = m.0 in
      let g = parted_good names K spelled deep is_semicolon (kind.Mark mark.Semicolon) semicolon_taken (t ∷ ts) x.0 x.1 known m.1 in
      stated_at names Statements (suc deep) (t ∷ ts) (OfStatement (ExpressionStatement t.line x.0), x.1) a rest m.2 (record {
        is = refl;
        stands = refl;
        fits = (refl, g.fits);
        shallow = omega (arith, g.shallow);
        spells = omega (arith, length-append (optional_tokens x.0) (kind.Mark mark.Semicolon ∷ []));
        takes = g.takes;
      })

  module _ (read : List Token → Piece) (s : IsStated names K Statements deep read) where
    -- ---- selection (6.8.4)

    only_good : (t : Token) (ts : List Token) (c x : Tree) (mid : List Token) (a : Tree) (rest : List Token) → t.kind ≡ kind.Word word.If
        → Governed Statements ts c x mid
        → ◌≡◌ {A = Piece} (Some (OfStatement (If t.line (as_expression c) (as_statement x)), mid)) (Some (a, rest)) → IsGood (t ∷ ts) a rest
    only_good t ts c x mid a rest k g e =
        stated_at names Statements (suc deep) (t ∷ ts) (OfStatement (If t.line (as_expression c) (as_statement x)), mid) a rest (piece_is _ _ _ _ e) (record {
          is = refl;
          stands = refl;
          fits = (refl, g.condition_fits, g.statement.stands, governed_fits Statements ts c x mid g);
          shallow = omega (arith, g.condition_shallow, g.statement.shallow);
          spells = omega arith;
          takes = (k, governed_takes Statements ts c x mid g);
        })

    second_good : (t : Token) (ts : List Token) (c x : Tree) (mid : List Token) (o : Piece) (a : Tree) (rest : List Token) → t.kind ≡ kind.Word word.If
        → Governed Statements ts c x mid → ends_open (as_statement x) ≡ false → option_and_then read (after is_else mid) ≡ o
        → second t.line c x mid o ≡ Some (a, rest) → IsGood (t ∷ ts) a rest
    second_good t ts c x mid None a rest k g shut is e = only_good t ts c x mid a rest k g e
    second_good t ts c x mid (Some y) a rest k g shut is e =
        let f = followed read (after is_else mid) y is in
        let w = else_taken mid f.0 f.1 in
        let b = s f.0 y.0 y.1 (known_behind names K spelled (kind.Word word.Else ∷ []) mid f.0 w g.known) f.2 in
        let cs = expression_tokens (as_expression c) in
        let xs = statement_tokens (as_statement x) in
        let ys = statement_tokens (as_statement y.0) in
        let at : drop 1 (past xs (drop 1 (past cs (drop 1 ts)))) ≡ f.0 = ap (λ (z : List Token). drop 1 (past xs z)) g.at ∙ behind_one xs (kind.Word word.Else) g.inner mid f.0 g.statement.takes w in
        stated_at names Statements (suc deep) (t ∷ ts) (OfStatement (IfElse t.line (as_expression c) (as_statement x) (as_statement y.0)), y.1) a rest (piece_is _ _ _ _ e) (record {
          is = refl;
          stands = refl;
          fits = (refl, g.condition_fits, g.statement.stands, shut, governed_fits Statements ts c x mid g, b.stands, subst (λ (z : List Token). StatementFits names.is_type (Fits names) (as_statement y.0) z) (sym at) b.fits);
          shallow = omega (arith, g.condition_shallow, g.statement.shallow, b.shallow);
          spells = omega arith;
          takes = (
            k,
            takes_then (in_parens cs) (xs ++ (kind.Word word.Else ∷ ys)) ts g.inner y.1 g.condition_takes
                (takes_then xs (kind.Word word.Else ∷ ys) g.inner mid y.1 g.statement.takes (takes_then (kind.Word word.Else ∷ []) ys mid f.0 y.1 w b.takes)),
          );
        })

    chosen_by : (open' : Bool) (t : Token) (ts : List Token) (c x : Tree) (mid : List Token) (a : Tree) (rest : List Token) → t.kind ≡ kind.Word word.If
        → Governed Statements ts c x mid → ends_open (as_statement x) ≡ open'
        → cond {A = Piece} open' (Some (OfStatement (If t.line (as_expression c) (as_statement x)), mid)) (second t.line c x mid (option_and_then read (after is_else mid))) ≡ Some (a, rest)
        → IsGood (t ∷ ts) a rest
    chosen_by true t ts c x mid a rest k g o e = only_good t ts c x mid a rest k g e
    chosen_by false t ts c x mid a rest k g o e = second_good t ts c x mid (option_and_then read (after is_else mid)) a rest k g o refl e

    pub selection_good : (t : Token) (ts : List Token) (a : Tree) (rest : List Token) → K ts → t.kind ≡ kind.Word word.If
        → selection names deep read t.line ts ≡ Some (a, rest) → IsGood (t ∷ ts) a rest
    unfolding selection else_part
    selection_good t ts a rest known k e =
        let f = followed (λ (c : Tree × List Token). option_and_then (λ (x : Tree × List Token). else_part read t.line c.0 x.0 x.1) (read c.1)) (condition names deep ts) (a, rest) e in
        let c = f.0 in
        let h = followed (λ (x : Tree × List Token). else_part read t.line c.0 x.0 x.1) (read c.1) (a, rest) f.2 in
        let x = h.0 in
        chosen_by (ends_open (as_statement x.0)) t ts c.0 x.0 x.1 a rest k (governed_good Statements read s ts c x known f.1 h.1) refl h.2

    -- ---- iteration (6.8.5)

    pub loop_good : (t : Token) (ts : List Token) (a : Tree) (rest : List Token) → K ts → t.kind ≡ kind.Word word.While
        → loop names deep read t.line ts ≡ Some (a, rest) → IsGood (t ∷ ts) a rest
    unfolding loop
    loop_good t ts a rest known k e =
        let f = followed (λ (c : Tree × List Token). option_map (λ (x : Tree × List Token). let z : Tree × List Token = (OfStatement (While t.line (as_expression c.0) (as_statement x.0)), x.1) in z) (read c.1)) (condition names deep ts) (a, rest) e in
        let c = f.0 in
        let m = mapped (λ (x : Tree × List Token). let z : Tree × List Token = (OfStatement (While t.line (as_expression c.0) (as_statement x.0)), x.1) in z) (read c.1) (a, rest) f.2 in
        let x = m.0 in
        let g = governed_good Statements read s ts c x known f.1 m.1 in
        stated_at names Statements (suc deep) (t ∷ ts) (OfStatement (While t.line (as_expression c.0) (as_statement x.0)), x.1) a rest m.2 (record {
          is = refl;
          stands = refl;
          fits = (refl, g.condition_fits, g.statement.stands, governed_fits Statements ts c.0 x.0 x.1 g);
          shallow = omega (arith, g.condition_shallow, g.statement.shallow);
          spells = omega arith;
          takes = (k, governed_takes Statements ts c.0 x.0 x.1 g);
        })

    do_end_good : (t : Token) (ts : List Token) (x : Tree × List Token) (a : Tree) (rest : List Token) → K x.1 → t.kind ≡ kind.Word word.Do
        → Stated names Statements deep ts x.0 x.1
        → do_end names deep t.line x.0 x.1 ≡ Some (a, rest) → IsGood (t ∷ ts) a rest
    unfolding do_end
    do_end_good t ts x a rest known k b e =
        let f = followed (λ (y : List Token). before is_semicolon (option_map (λ (c : Tree × List Token). let z : Tree × List Token = (OfStatement (DoWhile t.line (as_statement x.0) (as_expression c.0)), c.1) in z) (condition names deep y))) (after is_while x.1) (a, rest) e in
        let w = while_taken x.1 f.0 f.1 in
        let d = before_is is_semicolon (option_map (λ (c : Tree × List Token). let z : Tree × List Token = (OfStatement (DoWhile t.line (as_statement x.0) (as_expression c.0)), c.1) in z) (condition names deep f.0)) a rest f.2 in
        let m = mapped (λ (c : Tree × List Token). let z : Tree × List Token = (OfStatement (DoWhile t.line (as_statement x.0) (as_expression c.0)), c.1) in z) (condition names deep f.0) (a, d.0) d.1 in
        let c = m.0 in
        let g = condition_good names K spelled deep f.0 c.0 c.1 (known_behind names K spelled (kind.Word word.While ∷ []) x.1 f.0 w known) m.1 in
        let end : Takes (kind.Mark mark.Semicolon ∷ []) c.1 rest = subst (λ (y : List Token). Takes (kind.Mark mark.Semicolon ∷ []) y rest) (sym (ap (λ (y : Tree × List Token). y.1) m.2)) (semicolon_taken d.0 rest d.2) in
        let cs = in_parens (expression_tokens (as_expression c.0)) in
        let xs = statement_tokens (as_statement x.0) in
        let at : drop 2 (past xs ts) ≡ drop 1 f.0 = ap (drop 2) (takes_rest xs ts x.1 b.takes) ∙ takes_behind 1 (kind.Word word.While ∷ []) x.1 f.0 w in
        stated_at names Statements (suc deep) (t ∷ ts) (OfStatement (DoWhile t.line (as_statement x.0) (as_expression c.0)), rest) a rest
        (ap (λ (y : Tree × List Token). let z : Tree × List Token = (y.0, rest) in z) m.2) (record {
          is = refl;
          stands = refl;
          fits = (refl, b.stands, b.fits, subst (λ (y : List Token). Fits names (as_expression c.0) y) (sym at) g.fits);
          shallow = omega (arith, g.shallow, b.shallow);
          spells = omega arith;
          takes = (
            k,
            takes_then xs (kind.Word word.While ∷ with_semicolon cs) ts x.1 rest b.takes
                (takes_then (kind.Word word.While ∷ []) (with_semicolon cs) x.1 f.0 rest w (takes_then cs (kind.Mark mark.Semicolon ∷ []) f.0 c.1 rest g.takes end)),
          );
        })

    pub do_good : (t : Token) (ts : List Token) (a : Tree) (rest : List Token) → K ts → t.kind ≡ kind.Word word.Do
        → do_loop names deep read t.line ts ≡ Some (a, rest) → IsGood (t ∷ ts) a rest
    unfolding do_loop
    do_good t ts a rest known k e =
        let f = followed (λ (x : Tree × List Token). do_end names deep t.line x.0 x.1) (read ts) (a, rest) e in
        let x = f.0 in
        let b = s ts x.0 x.1 known f.1 in
        do_end_good t ts x a rest (known_behind names K spelled (statement_tokens (as_statement x.0)) ts x.1 b.takes known) k b f.2

    for_good : (t : Token) (ts mid : List Token) (a : Tree) (rest : List Token) → K mid → t.kind ≡ kind.Word word.For
        → Takes (kind.Mark mark.OpenParen ∷ []) ts mid
        → option_and_then (λ f. for_rest names deep read (λ c p x. OfStatement (For t.line f.0 c p (as_statement x))) f.1) (expression_before names deep is_semicolon mid) ≡ Some (a, rest)
        → IsGood (t ∷ ts) a rest
    for_good t ts mid a rest known k o e =
        let h = followed (λ (f : OptionalTree × List Token). for_rest names deep read (λ c p x. OfStatement (For t.line f.0 c p (as_statement x))) f.1) (expression_before names deep is_semicolon mid) (a, rest) e in
        let f = h.0 in
        let g = parted_good names K spelled deep is_semicolon (kind.Mark mark.Semicolon) semicolon_taken mid f.0 f.1 known h.1 in
        let fs = optional_tokens f.0 in
        let l = for_rest_good names K spelled deep read s (λ c p x. OfStatement (For t.line f.0 c p (as_statement x))) f.1 a rest (known_behind names K spelled (fs ++ kind.Mark mark.Semicolon ∷ []) mid f.1 g.takes known) h.2 in
        let cs = optional_tokens l.condition in
        let ps = optional_tokens l.step in
        let at : drop 1 ts ≡ mid = takes_rest (kind.Mark mark.OpenParen ∷ []) ts mid o in
        let at' : drop 1 (past fs (drop 1 ts)) ≡ f.1 = ap (λ (y : List Token). drop 1 (past fs y)) at ∙ g.at in
        let run = l.takes (with_semicolon fs) mid g.takes in
        subst (λ (y : Tree). IsGood (t ∷ ts) y rest) l.is (record {
          is = refl;
          stands = refl;
          fits = (
            refl,
            subst (λ (y : List Token). OptionalFits names.is_type (Fits names) Expressions f.0 y) (sym at) g.fits,
            subst (λ (y : List Token). OptionalFits names.is_type (Fits names) Expressions l.condition y) (sym at') l.condition_fits,
            subst (λ (y : List Token). OptionalFits names.is_type (Fits names) Expressions l.step (drop 1 (past cs y))) (sym at') l.step_fits,
            l.stands,
            subst (λ (y : List Token). StatementFits names.is_type (Fits names) (as_statement l.body) (drop 1 (past ps (drop 1 (past cs y))))) (sym at') l.fits,
          );
          shallow = omega (arith, g.shallow, l.shallow);
          spells = omega arith;
          takes = (k, takes_then (kind.Mark mark.OpenParen ∷ []) (((with_semicolon fs ++ (with_semicolon cs ++ ps)) ++ kind.Mark mark.CloseParen ∷ []) ++ statement_tokens (as_statement l.body)) ts mid rest o run);
        })

    for_declaration_good : (t : Token) (ts mid : List Token) (a : Tree) (rest : List Token) → K mid → t.kind ≡ kind.Word word.For
        → Takes (kind.Mark mark.OpenParen ∷ []) ts mid
        → option_and_then (λ d. for_rest names deep read (λ c p x. OfStatement (ForDeclaration t.line (as_declaration d.0) c p (as_statement x))) d.1) (only_declaration (declaration names deep mid)) ≡ Some (a, rest)
        → IsGood (t ∷ ts) a rest
    for_declaration_good t ts mid a rest known k o e =
        let h = followed (λ (d : Tree × List Token). for_rest names deep read (λ c p x. OfStatement (ForDeclaration t.line (as_declaration d.0) c p (as_statement x))) d.1) (only_declaration (declaration names deep mid)) (a, rest) e in
        let d = h.0 in
        let g = declared_good names K spelled deep mid d.0 d.1 known h.1 in
        let ds = declaration_tokens (as_declaration d.0) in
        let l = for_rest_good names K spelled deep read s (λ c p x. OfStatement (ForDeclaration t.line (as_declaration d.0) c p (as_statement x))) d.1 a rest (known_behind names K spelled ds mid d.1 g.takes known) h.2 in
        let cs = optional_tokens l.condition in
        let ps = optional_tokens l.step in
        let at : drop 1 ts ≡ mid = takes_rest (kind.Mark mark.OpenParen ∷ []) ts mid o in
        let at' : past ds (drop 1 ts) ≡ d.1 = ap (λ (y : List Token). past ds y) at ∙ takes_rest ds mid d.1 g.takes in
        let run = l.takes ds mid g.takes in
        subst (λ (y : Tree). IsGood (t ∷ ts) y rest) l.is (record {
          is = refl;
          stands = refl;
          fits = (
            refl,
            g.stands,
            subst (λ (y : List Token). DeclarationFits names.is_type (Fits names) (as_declaration d.0) y) (sym at) g.fits,
            subst (λ (y : List Token). OptionalFits names.is_type (Fits names) Expressions l.condition y) (sym at') l.condition_fits,
            subst (λ (y : List Token). OptionalFits names.is_type (Fits names) Expressions l.step (drop 1 (past cs y))) (sym at') l.step_fits,
            l.stands,
            subst (λ (y : List Token). StatementFits names.is_type (Fits names) (as_statement l.body) (drop 1 (past ps (drop 1 (past cs y))))) (sym at') l.fits,
          );
          shallow = omega (arith, g.shallow, l.shallow);
          spells = omega arith;
          takes = (k, takes_then (kind.Mark mark.OpenParen ∷ []) (((ds ++ (with_semicolon cs ++ ps)) ++ kind.Mark mark.CloseParen ∷ []) ++ statement_tokens (as_statement l.body)) ts mid rest o run);
        })

    for_parts_by : (type : Bool) (t : Token) (ts mid : List Token) (a : Tree) (rest : List Token) → K mid → t.kind ≡ kind.Word word.For
        → Takes (kind.Mark mark.OpenParen ∷ []) ts mid
        → cond {A = Piece} type
        (option_and_then (λ d. for_rest names deep read (λ c p x. OfStatement (ForDeclaration t.line (as_declaration d.0) c p (as_statement x))) d.1) (only_declaration (declaration names deep mid)))
        (option_and_then (λ f. for_rest names deep read (λ c p x. OfStatement (For t.line f.0 c p (as_statement x))) f.1) (expression_before names deep is_semicolon mid)) ≡ Some (a, rest)
        → IsGood (t ∷ ts) a rest
    for_parts_by true t ts mid a rest known k o e = for_declaration_good t ts mid a rest known k o e
    for_parts_by false t ts mid a rest known k o e = for_good t ts mid a rest known k o e

    pub for_loop_good : (t : Token) (ts : List Token) (a : Tree) (rest : List Token) → K ts → t.kind ≡ kind.Word word.For
        → for_loop names deep read t.line ts ≡ Some (a, rest) → IsGood (t ∷ ts) a rest
    unfolding for_loop for_parts
    for_loop_good t ts a rest known k e =
        let f = followed (λ (y : List Token). for_parts names deep read t.line y) (after is_open ts) (a, rest) e in
        let o = open_taken ts f.0 f.1 in
        for_parts_by (begins_type names f.0) t ts f.0 a rest (known_behind names K spelled (kind.Mark mark.OpenParen ∷ []) ts f.0 o known) k o f.2
