-- What is read as a statement, or as the block of a `switch`, fits, and spells what was taken.
use Rattle.std.proofs.Common.{◌≡◌, ℕ, zero, suc, Bool, true, false, cond, List, [], ◌∷◌, Some, option_map, refl, sym, ap, subst, arith}
use Rattle.pv_token.specs.declared.token_table.Token.{Token}
use Rattle.pv_token.specs.declared.token_table.TokenKind.{TokenKind}
use Rattle.pv_token.specs.declared.token_table.TokenKind.TheVariants as kind
use Rattle.pv_token.specs.declared.words.Word.TheVariants as word
use Rattle.pv_token.specs.declared.marks.Mark.TheVariants as mark
use Rattle.pv_tree.specs.Syntax.{DeclarationTree, StatementTree, Block, SwitchBlock, Labelled, Case, Default, Tree, OfDeclaration, OfStatement, Trees, NoTrees, Then}
use Rattle.pv_tree.specs.Spelling.{expression_tokens, statement_tokens, trees_tokens}
use Rattle.pv_tree.specs.Grammar.{line_here}
use Rattle.pv_tree.specs.Spells.{Names, begins_type, Fits}
use Rattle.pv_tree.specs.Tables.{as_expression, as_declaration, as_statement}
use Rattle.pv_tree.specs.Places.{Place, BlockItems, SwitchItems, Labels, Expressions, stands, is_declaration_tree, is_whole_statement, stands_item, some}
use Rattle.pv_tree.specs.Fitting.{StatementFits, past}
use Rattle.pv_expr_forms.specs.Reader.{is_colon, after}
use Rattle.pv_expr_forms.proofs.Runs.{Takes, takes_then, takes_rest}
use Rattle.pv_expr_forms.proofs.Steps.{mapped}
use Rattle.pv_expr_forms.proofs.Marks.{after_colon}
use Rattle.pv_expr_forms.proofs.Heads.{IsSpelled}
use Rattle.pv_decl_forms.specs.Pieces.{Piece, row}
use Rattle.pv_decl_forms.specs.Reader.{declaration}
use Rattle.pv_decl_forms.proofs.Goods.{Good, Rowed, good_at, right_spells, row_good}
use Rattle.pv_stmt_forms.specs.Statements.{Form, Statements, SwitchBlocks, expression, only_declaration, item, block, label_of, label, with_labels, labels_and_statement, switch_block_of, switch_block, statement_of, statement_by, readers}
use Rattle.pv_stmt_forms.proofs.FormTokens.{before_is, block_end_is}
use Rattle.pv_stmt_forms.proofs.PartGoods.{nowhere, placed, IsGoodAt, nowhere_good, placed_sound, Stated, IsStated, expression_good, declared_good}
use Rattle.pv_stmt_forms.proofs.FormGoods.{switch_good, break_good, continue_good, return_good, simple_good, selection_good, loop_good, do_good, for_loop_good}

-- a statement that stands alone stands in the block of a `switch` too
whole_item : (s : StatementTree) → is_whole_statement s ≡ true → stands_item s ≡ true
whole_item (Labelled line labels statement) e = refl
whole_item _ e = e

module _ (names : Names) (K : List Token → Type 0) (spelled : IsSpelled names K) (deep : ℕ) where
  -- ---- items of blocks

  module _ (place : Place) (items : (d : DeclarationTree) → is_declaration_tree d ≡ true → stands place (OfDeclaration d) ≡ true) (read : List Token → Piece)
      (s : IsGoodAt names K place deep read) where
    item_by : (type : Bool) (ts : List Token) (a : Tree) (rest : List Token) → K ts
        → cond type (only_declaration (declaration names deep ts)) (read ts) ≡ Some (a, rest) → Good names place deep ts a rest
    item_by true ts a rest known e =
        let d = declared_good names K spelled deep ts a rest known e in
        subst (λ (y : Tree). Good names place deep ts y rest) d.is
        (record { stand = items (as_declaration a) d.stands; fits = d.fits; shallow = d.shallow; spells = d.spells; takes = d.takes })
    item_by false ts a rest known e = s ts a rest known e

    pub item_good : IsGoodAt names K place deep (item names deep read)
    unfolding item
    item_good ts a rest known e = item_by (begins_type names ts) ts a rest known e

  -- ---- labels (6.8.1)

  case_good : (t : Token) (ts : List Token) (a : Tree) (rest : List Token) → K ts → t.kind ≡ kind.Word word.Case
      → label_of names deep t.line (kind.Word word.Case) ts ≡ Some (a, rest) → Good names Labels deep (t ∷ ts) a rest
  unfolding label_of
  case_good t ts a rest known k e =
      let make = λ (c : Tree × List Token). let z : Tree × List Token = (OfStatement (Case t.line (as_expression c.0)), c.1) in z in
      let b = before_is is_colon (option_map make (expression names deep 3 ts)) a rest e in
      let m = mapped make (expression names deep 3 ts) (a, b.0) b.1 in
      let c = m.0 in
      let g = expression_good names K spelled deep 3 ts c.0 c.1 known m.1 in
      let cs = expression_tokens (as_expression c.0) in
      let end : Takes (kind.Mark mark.Colon ∷ []) c.1 rest = subst (λ (y : List Token). Takes (kind.Mark mark.Colon ∷ []) y rest) (sym (ap (λ (y : Tree × List Token). y.1) m.2)) (after_colon b.0 rest b.2) in
      good_at names Labels deep (t ∷ ts) (OfStatement (Case t.line (as_expression c.0)), rest) a rest (ap (λ (y : Tree × List Token). let z : Tree × List Token = (y.0, rest) in z) m.2)
      (record { stand = refl; fits = (refl, g.tight, g.fits); shallow = g.shallow; spells = omega arith; takes = (k, takes_then cs (kind.Mark mark.Colon ∷ []) ts c.1 rest g.takes end) })

  default_good : (t : Token) (ts : List Token) (a : Tree) (rest : List Token) → t.kind ≡ kind.Word word.Default
      → label_of names deep t.line (kind.Word word.Default) ts ≡ Some (a, rest) → Good names Labels deep (t ∷ ts) a rest
  unfolding label_of
  default_good t ts a rest k e =
      let m = mapped (λ (y : List Token). let z : Tree × List Token = (OfStatement (Default t.line), y) in z) (after is_colon ts) (a, rest) e in
      good_at names Labels deep (t ∷ ts) (OfStatement (Default t.line), m.0) a rest m.2
      (record { stand = refl; fits = refl; shallow = omega arith; spells = omega arith; takes = (k, after_colon ts m.0 m.1) })

  label_of_good : (k : TokenKind) (t : Token) (ts : List Token) (a : Tree) (rest : List Token) → K ts → t.kind ≡ k
      → label_of names deep t.line k ts ≡ Some (a, rest) → Good names Labels deep (t ∷ ts) a rest
  unfolding label_of
  label_of_good (kind.Word word.Case) t ts a rest known k e = case_good t ts a rest known k e
  label_of_good (kind.Word word.Default) t ts a rest known k e = default_good t ts a rest k e
  label_of_good _ t ts a rest known k e = absurd cc

  pub label_good : IsGoodAt names K Labels deep (label names deep)
  unfolding label
  label_good [] a rest known e = absurd cc
  label_good (t ∷ ts) a rest known e = label_of_good t.kind t ts a rest (spelled.tail t ts known) refl e

  pub labels_good : (ts : List Token) → K ts
      → K (row (label names deep) NoTrees ts).1 × Rowed names Labels deep ts (row (label names deep) NoTrees ts).0 (row (label names deep) NoTrees ts).1
  labels_good ts known =
      let s = placed_sound names K deep nowhere nowhere (label names deep) nowhere (nowhere_good names K BlockItems deep) (nowhere_good names K SwitchItems deep) label_good (nowhere_good names K Expressions deep) in
      row_good names K spelled deep (placed nowhere nowhere (label names deep) nowhere) s Labels ts known

  module _ (read : List Token → Piece) (s : IsStated names K Statements deep read) where
    pub statement_item : IsGoodAt names K BlockItems deep read
    statement_item ts a rest known e =
        let g = s ts a rest known e in
        subst (λ (y : Tree). Good names BlockItems deep ts y rest) g.is
        (record { stand = g.stands; fits = g.fits; shallow = g.shallow; spells = g.spells; takes = g.takes })

    -- behind labels
    behind_labels : (ts : List Token) (x : Trees × List Token) (a : Tree) (rest : List Token) → K x.1 → Rowed names Labels deep ts x.0 x.1 → some x.0 ≡ true
        → option_map {U = Tree × List Token} (λ y. (OfStatement (Labelled (line_here ts) x.0 (as_statement y.0)), y.1)) (read x.1) ≡ Some (a, rest)
        → Good names SwitchItems deep ts a rest
    behind_labels ts x a rest known b has e =
        let m = mapped (λ (y : Tree × List Token). let z : Tree × List Token = (OfStatement (Labelled (line_here ts) x.0 (as_statement y.0)), y.1) in z) (read x.1) (a, rest) e in
        let y = m.0 in
        let g = s x.1 y.0 y.1 known m.1 in
        let ls = trees_tokens x.0 in
        let ys = statement_tokens (as_statement y.0) in
        let at : past ls ts ≡ x.1 = takes_rest ls ts x.1 b.takes in
        good_at names SwitchItems deep ts (OfStatement (Labelled (line_here ts) x.0 (as_statement y.0)), y.1) a rest m.2 (record {
          stand = refl;
          fits = (refl, has, b.fits, g.stands, subst (λ (z : List Token). StatementFits names.is_type (Fits names) (as_statement y.0) z) (sym at) g.fits);
          shallow = omega (arith, b.shallow, g.shallow);
          spells = right_spells ls ys g.spells;
          takes = takes_then ls ys ts x.1 y.1 b.takes g.takes;
        })

    without_labels : (ts : List Token) (x : Trees × List Token) (a : Tree) (rest : List Token) → K x.1 → Rowed names Labels deep ts x.0 x.1 → some x.0 ≡ false
        → read x.1 ≡ Some (a, rest) → Good names SwitchItems deep ts a rest
    without_labels ts (NoTrees, here) a rest known b none e =
        let g = s here a rest known e in
        let same : ts ≡ here = b.takes in
        subst (λ (y : List Token). Good names SwitchItems deep y a rest) (sym same) (subst (λ (y : Tree). Good names SwitchItems deep here y rest) g.is
        (record { stand = whole_item (as_statement a) g.stands; fits = g.fits; shallow = g.shallow; spells = g.spells; takes = g.takes }))
    without_labels ts (Then before last, here) a rest known b none e = absurd cc

    labelled_by : (has : Bool) (ts : List Token) (x : Trees × List Token) (a : Tree) (rest : List Token) → K x.1 → Rowed names Labels deep ts x.0 x.1
        → some x.0 ≡ has
        → cond {A = Piece} has (option_map {U = Tree × List Token} (λ y. (OfStatement (Labelled (line_here ts) x.0 (as_statement y.0)), y.1)) (read x.1)) (read x.1) ≡ Some (a, rest)
        → Good names SwitchItems deep ts a rest
    labelled_by true ts x a rest known b has e = behind_labels ts x a rest known b has e
    labelled_by false ts x a rest known b has e = without_labels ts x a rest known b has e

    pub labelled_good : IsGoodAt names K SwitchItems deep (labels_and_statement names deep read)
    unfolding labels_and_statement with_labels
    labelled_good ts a rest known e =
        let x = row (label names deep) NoTrees ts in
        let b = labels_good ts known in
        labelled_by (some x.0) ts x a rest b.0 b.1 refl e

    -- ---- blocks (6.8.2, 6.8.4.2)

    pub block_good : (t : Token) (ts : List Token) (a : Tree) (rest : List Token) → K ts → t.kind ≡ kind.Mark mark.OpenBrace
        → block names deep read t.line ts ≡ Some (a, rest) → Stated names Statements (suc deep) (t ∷ ts) a rest
    unfolding block
    block_good t ts a rest known k e =
        let f = item names deep read in
        let x = row f NoTrees ts in
        let good = item_good BlockItems (λ d h. h) read statement_item in
        let s = placed_sound names K deep f nowhere nowhere nowhere good (nowhere_good names K SwitchItems deep) (nowhere_good names K Labels deep) (nowhere_good names K Expressions deep) in
        let b = row_good names K spelled deep (placed f nowhere nowhere nowhere) s BlockItems ts known in
        let c = block_end_is (λ items. OfStatement (Block t.line items)) x a rest e in
        subst (λ (y : Tree). Stated names Statements (suc deep) (t ∷ ts) y rest) c.1 (record {
          is = refl;
          stands = refl;
          fits = (refl, b.1.fits);
          shallow = omega (arith, b.1.shallow);
          spells = omega arith;
          takes = (k, takes_then (trees_tokens x.0) (kind.Mark mark.CloseBrace ∷ []) ts x.1 rest b.1.takes c.0);
        })

    switch_block_of_good : (k : TokenKind) (t : Token) (ts : List Token) (a : Tree) (rest : List Token) → K ts → t.kind ≡ k
        → switch_block_of names deep read t.line k ts ≡ Some (a, rest) → Stated names SwitchBlocks (suc deep) (t ∷ ts) a rest
    unfolding switch_block_of
    switch_block_of_good (kind.Mark mark.OpenBrace) t ts a rest known k e =
        let f = item names deep (labels_and_statement names deep read) in
        let x = row f NoTrees ts in
        let good = item_good SwitchItems (λ d h. h) (labels_and_statement names deep read) labelled_good in
        let s = placed_sound names K deep nowhere f nowhere nowhere (nowhere_good names K BlockItems deep) good (nowhere_good names K Labels deep) (nowhere_good names K Expressions deep) in
        let b = row_good names K spelled deep (placed nowhere f nowhere nowhere) s SwitchItems ts known in
        let c = block_end_is (λ items. OfStatement (SwitchBlock t.line items)) x a rest e in
        subst (λ (y : Tree). Stated names SwitchBlocks (suc deep) (t ∷ ts) y rest) c.1 (record {
          is = refl;
          stands = refl;
          fits = (refl, b.1.fits);
          shallow = omega (arith, b.1.shallow);
          spells = omega arith;
          takes = (k, takes_then (trees_tokens x.0) (kind.Mark mark.CloseBrace ∷ []) ts x.1 rest b.1.takes c.0);
        })
    switch_block_of_good _ t ts a rest known k e = absurd cc

    pub switch_block_good : IsStated names K SwitchBlocks (suc deep) (switch_block names deep read)
    unfolding switch_block
    switch_block_good [] a rest known e = absurd cc
    switch_block_good (t ∷ ts) a rest known e = switch_block_of_good t.kind t ts a rest (spelled.tail t ts known) refl e

    -- ---- all statements

    module _ (switched : List Token → Piece) (w : IsStated names K SwitchBlocks deep switched) where
      statement_of_good : (k : TokenKind) (t : Token) (ts : List Token) (a : Tree) (rest : List Token) → K (t ∷ ts) → K ts → t.kind ≡ k
          → statement_of names deep read switched t.line k (t ∷ ts) ts ≡ Some (a, rest) → Stated names Statements (suc deep) (t ∷ ts) a rest
      unfolding statement_of
      statement_of_good (kind.Mark mark.OpenBrace) t ts a rest all known k e = block_good t ts a rest known k e
      statement_of_good (kind.Word word.If) t ts a rest all known k e = selection_good names K spelled deep read s t ts a rest known k e
      statement_of_good (kind.Word word.While) t ts a rest all known k e = loop_good names K spelled deep read s t ts a rest known k e
      statement_of_good (kind.Word word.Do) t ts a rest all known k e = do_good names K spelled deep read s t ts a rest known k e
      statement_of_good (kind.Word word.For) t ts a rest all known k e = for_loop_good names K spelled deep read s t ts a rest known k e
      statement_of_good (kind.Word word.Switch) t ts a rest all known k e = switch_good names K spelled deep switched w t ts a rest known k e
      statement_of_good (kind.Word word.Break) t ts a rest all known k e = break_good names K spelled deep t ts a rest k e
      statement_of_good (kind.Word word.Continue) t ts a rest all known k e = continue_good names K spelled deep t ts a rest k e
      statement_of_good (kind.Word word.Return) t ts a rest all known k e = return_good names K spelled deep t ts a rest known k e
      statement_of_good _ t ts a rest all known k e = simple_good names K spelled deep t ts a rest all e

      pub statement_by_good : IsStated names K Statements (suc deep) (statement_by names deep read switched)
      unfolding statement_by
      statement_by_good [] a rest known e = absurd cc
      statement_by_good (t ∷ ts) a rest known e = statement_of_good t.kind t ts a rest known (spelled.tail t ts known) refl e

pub statement_good : (names : Names) (K : List Token → Type 0) → IsSpelled names K → (deep : ℕ) (form : Form) (ts : List Token) (a : Tree) (rest : List Token)
    → K ts → readers names deep form ts ≡ Some (a, rest) → Stated names form deep ts a rest
unfolding readers
statement_good names K spelled zero form ts a rest known e = absurd cc
statement_good names K spelled (suc below) Statements ts a rest known e =
    statement_by_good names K spelled below (readers names below Statements) (statement_good names K spelled below Statements) (readers names below SwitchBlocks) (statement_good names K spelled below SwitchBlocks) ts a rest known e
statement_good names K spelled (suc below) SwitchBlocks ts a rest known e =
    switch_block_good names K spelled below (readers names below Statements) (statement_good names K spelled below Statements) ts a rest known e
