-- What a part of a statement answers, under the names at the start, and what its parts make of it.
use Rattle.std.proofs.Common.{◌≡◌, ◌≤◌, ℕ, Bool, true, false, cond, List, [], ◌∷◌, length, drop, Option, Some, None, Result, option_map, refl, sym, ap, subst, ◌∙◌}
use Rattle.std.specs.Prelude.{IfOk}
use Rattle.std.proofs.lemmas.Result.{MatchResult-weaker}
use Rattle.indexmap.specs.IndexSet.{IndexSet}
use Rattle.pv_token.specs.declared.token_table.Token.{Token}
use Rattle.pv_token.specs.declared.token_table.TokenKind.{TokenKind}
use Rattle.pv_token.specs.declared.token_table.TokenKind.TheVariants as kind
use Rattle.pv_token.specs.declared.words.Word.TheVariants as word
use Rattle.pv_tree.specs.declared.nodes.NodeId.{NodeId}
use Rattle.pv_tree.specs.Syntax.{If, IfElse, While, Switch, DoWhile, Labelled, ExpressionStatement, Return, Case, Default, Tree, OfExpression, OfDeclaration, OfStatement, Trees, NoTrees, OptionalTree}
use Rattle.pv_tree.specs.Grammar.{line_here}
use Rattle.pv_tree.specs.Spells.{Names}
use Rattle.pv_tree.specs.Places.{is_declaration_tree, ends_open, some}
use Rattle.pv_tree.specs.Tables.{Tables, tree_at, as_expression, as_declaration, as_statement, expression_at, statement_at, optional_at, is_expression, is_declaration, is_statement, is_item, HasOptional, Is, Extends}
use Rattle.pv_tree.specs.TypeNames.{TypeMap, AreTied}
use Rattle.pv_tree.proofs.Kept.{tree_kept}
use Rattle.pv_expr_forms.specs.Known.{names_in}
use Rattle.pv_expr_forms.specs.Reader.{Read, is_open, is_close, is_colon, after, read}
use Rattle.pv_expr_forms.specs.Answers.{Answers as ExpressionAnswers}
use Rattle.pv_decl_forms.specs.Answers.{Answers}
use Rattle.pv_decl_forms.specs.Rows.{MayBeAnswered}
use Rattle.pv_decl_forms.specs.Pieces.{Piece, is_semicolon, is_close_brace, part_if_any, row}
use Rattle.pv_decl_forms.proofs.Answered.{got, got_none}
use Rattle.pv_decl_forms.proofs.Constants.{tree_is}
use Rattle.pv_decl_forms.proofs.Loops.{at_start}
use Rattle.pv_stmt_forms.specs.declared.forms.LabelWord.TheVariants as label_word
use Rattle.pv_stmt_forms.specs.Parts.{label_word_of, case_label, PartAnswers, part_seen, IsPartThere}
use Rattle.pv_stmt_forms.specs.Statements.{is_else, is_while, expression, before, optional_before, condition, expression_before, only_declaration, else_part, selection, loop, do_end, do_loop, switch, block_end, with_labels, labels_and_statement, simple, return_behind, label_of, label}

-- ---- answers

-- the answer to a reading that is an equal one
pub same_answers : (u : Tables) (kind : Tree → Bool) (tokens : List Token) (answer : Option (NodeId × ℕ)) (a b : Piece) → a ≡ b → Answers u kind tokens answer a → Answers u kind tokens answer b
same_answers u kind tokens answer a b e h = subst (Answers u kind tokens answer) e h

-- one that answers so with more kinds of trees
pub wider : (u : Tables) (k l : Tree → Bool) → ((t : Tree) → k t ≡ true → l t ≡ true) → (tokens : List Token) (answer : Option (NodeId × ℕ)) (reading : Piece)
    → Answers u k tokens answer reading → Answers u l tokens answer reading
wider u k l w tokens None reading a = record { is = a.is; there = tt }
wider u k l w tokens (Some x) reading a = record { is = a.is; there = ((a.there.0.0, w (tree_at u.forest x.0) a.there.0.1), a.there.1) }

pub statement_item : (t : Tree) → is_statement t ≡ true → is_item t ≡ true
statement_item (OfStatement s) e = refl
statement_item _ e = absurd cc

pub declaration_item : (t : Tree) → is_declaration t ≡ true → is_item t ≡ true
declaration_item (OfDeclaration d) e = refl
declaration_item _ e = absurd cc

pub as_items : {E : Type 0} (result : Result (Option (NodeId × ℕ)) E) (u : Tables) (k : Tree → Bool) (tokens : List Token) (a b : Piece) → ((t : Tree) → k t ≡ true → is_item t ≡ true) → a ≡ b
    → IfOk result (λ r. Answers u k tokens r a) → IfOk result (λ r. Answers u is_item tokens r b)
as_items result u k tokens a b w e h = MatchResult-weaker result h (λ r x. same_answers u is_item tokens r a b e (wider u k is_item w tokens r a x)) (λ e h. h)

-- an expression
pub expression_answers : (u : Tables) (tokens : List Token) (names : Names) (depth level : ℕ) (ts : List Token) (answer : Option (NodeId × ℕ))
    → ExpressionAnswers u tokens answer (read names depth level ts) → Answers u is_expression tokens answer (expression names depth level ts)
expression_answers u tokens names depth level ts None a = record { is = ap (λ (o : Read). option_map (λ x. let y : Tree × List Token = (OfExpression x.0, x.1) in y) o) a.is; there = tt }
expression_answers u tokens names depth level ts (Some x) a = record {
  is = ap (λ (t : Tree). Some (t, drop x.1 tokens)) (sym (tree_is (tree_at u.forest x.0) a.there.0.1)) ∙ ap (λ (o : Read). option_map (λ x. let y : Tree × List Token = (OfExpression x.0, x.1) in y) o) a.is;
  there = a.there;
}

-- ---- a part that is read in a unit that has grown, under the names at the start

module _ {S : Type 0} (typedefs : IndexSet ℕ S) (types : TypeMap) (u v w : Tables) (tokens : List Token) (tied : AreTied types u tokens) (keeps : Extends u v) (kind : Tree → Bool) (answer : Option (NodeId × ℕ))
    (reading : Names → Piece) (a : Answers w kind tokens answer (reading (names_in typedefs types v tokens))) where
  pub later_some : (n : NodeId) (next : ℕ) → answer ≡ Some (n, next) → reading (names_in typedefs types u tokens) ≡ Some (tree_at w.forest n, drop next tokens)
  later_some n next e = sym (got w kind tokens answer _ n next (at_start typedefs types u v w tokens tied keeps kind answer reading a) e).0

  pub later_none : answer ≡ None → reading (names_in typedefs types u tokens) ≡ None
  later_none e = sym (got_none w kind tokens answer _ (at_start typedefs types u v w tokens tied keeps kind answer reading a) e)

-- a part that is read in the unit at the start
pub first_some : (w : Tables) (kind : Tree → Bool) (tokens : List Token) (answer : Option (NodeId × ℕ)) (reading : Piece) → Answers w kind tokens answer reading → (n : NodeId) (next : ℕ) → answer ≡ Some (n, next)
    → reading ≡ Some (tree_at w.forest n, drop next tokens)
first_some w kind tokens answer reading a n next e = sym (got w kind tokens answer reading n next a e).0

pub first_none : (w : Tables) (kind : Tree → Bool) (tokens : List Token) (answer : Option (NodeId × ℕ)) (reading : Piece) → Answers w kind tokens answer reading → answer ≡ None → reading ≡ None
first_none w kind tokens answer reading a e = sym (got_none w kind tokens answer reading a e)

-- a node of a kind, and its place
pub there_of : (w : Tables) (kind : Tree → Bool) (tokens : List Token) (answer : Option (NodeId × ℕ)) (reading : Piece) → Answers w kind tokens answer reading → (n : NodeId) (next : ℕ) → answer ≡ Some (n, next)
    → Is w kind n × (next ≤ length tokens)
there_of w kind tokens answer reading a n next e = let g = got w kind tokens answer reading n next a e in (g.1, g.2)

-- ---- a sign behind what is read

pub sign_none : (t : Tree) (test : TokenKind → Bool) (ts : List Token) → after test ts ≡ None → None ≡ option_map (λ rest. let x : Tree × List Token = (t, rest) in x) (after test ts)
sign_none t test ts e = rw e refl

pub sign_some : (t : Tree) (test : TokenKind → Bool) (ts rest : List Token) → after test ts ≡ Some rest → Some (t, rest) ≡ option_map (λ rest. let x : Tree × List Token = (t, rest) in x) (after test ts)
sign_some t test ts rest e = rw e refl

-- ---- braces

pub block_shut : (make : Trees → Tree) (items : Trees) (ts : List Token) → after is_close_brace ts ≡ None → None ≡ block_end make (items, ts)
unfolding block_end
block_shut make items ts e = rw e refl

pub block_so : (make : Trees → Tree) (items : Trees) (ts rest : List Token) (t : Tree) → after is_close_brace ts ≡ Some rest → t ≡ make items → Some (t, rest) ≡ block_end make (items, ts)
unfolding block_end
block_so make items ts rest t a is = rw (a, is) refl

-- ---- conditions

module _ (names : Names) (depth : ℕ) (ts : List Token) where
  pub condition_shut : after is_open ts ≡ None → None ≡ condition names depth ts
  unfolding condition
  condition_shut e = rw e refl

  module _ (inside : List Token) (o : after is_open ts ≡ Some inside) where
    pub condition_unread : expression names depth 1 inside ≡ None → None ≡ condition names depth ts
    unfolding condition before
    condition_unread e = rw (o, e) refl

    pub condition_behind : (x : Tree × List Token) (c : Option (List Token)) → expression names depth 1 inside ≡ Some x → after is_close x.1 ≡ c
        → option_map (λ rest. let y : Tree × List Token = (x.0, rest) in y) c ≡ condition names depth ts
    unfolding condition before
    condition_behind x c e k = rw (o, e, k) refl

-- ---- parts that may be left out

module _ (u : Tables) (tokens : List Token) (at : ℕ) (place : at ≤ length tokens) (answer : Option (NodeId × ℕ)) (reading : Piece) (a : Answers u is_expression tokens answer reading) where
  pub optional_some : (n : NodeId) (next : ℕ) → answer ≡ Some (n, next) → MayBeAnswered u is_expression tokens (Some n) next (part_if_any (drop at tokens) reading)
  optional_some n next e = let g = got u is_expression tokens answer reading n next a e in record { is = ap (part_if_any (drop at tokens)) g.0; there = g.1; place = g.2 }

  pub optional_none : answer ≡ None → MayBeAnswered u is_expression tokens None at (part_if_any (drop at tokens) reading)
  optional_none e = record { is = ap (part_if_any (drop at tokens)) (got_none u is_expression tokens answer reading a e); there = tt; place = place }

before_joined : (test : TokenKind → Bool) (x y : OptionalTree × List Token) (c : Option (List Token)) → x ≡ y → after test x.1 ≡ c
    → option_map (λ rest. let z : OptionalTree × List Token = (x.0, rest) in z) c ≡ optional_before test y
unfolding optional_before
before_joined test x y c e k = rw (← e, k) refl

module _ (u : Tables) (tokens : List Token) (names : Names) (depth : ℕ) (test : TokenKind → Bool) (ts : List Token) (o : Option NodeId) (end : ℕ)
    (a : MayBeAnswered u is_expression tokens o end (part_if_any ts (expression names depth 1 ts))) where
  by_optional : (c : Option (List Token)) → after test (drop end tokens) ≡ c → option_map (λ rest. let y : OptionalTree × List Token = (optional_at u.forest o, rest) in y) c ≡ expression_before names depth test ts
  unfolding expression_before
  by_optional c k = before_joined test (optional_at u.forest o, drop end tokens) (part_if_any ts (expression names depth 1 ts)) c a.is k

  pub part_none : after test (drop end tokens) ≡ None → PartAnswers u tokens None (expression_before names depth test ts)
  part_none k = record { is = by_optional None k; there = tt }

  pub part_some : (next : ℕ) → after test (drop end tokens) ≡ Some (drop next tokens) → next ≤ length tokens → PartAnswers u tokens (Some (o, next)) (expression_before names depth test ts)
  part_some next k p = record { is = by_optional (Some (drop next tokens)) k; there = (a.there, p) }

pub part_got : (u : Tables) (tokens : List Token) (answer : Option (Option NodeId × ℕ)) (reading : Option (OptionalTree × List Token)) (o : Option NodeId) (next : ℕ) → PartAnswers u tokens answer reading → answer ≡ Some (o, next)
    → reading ≡ Some (optional_at u.forest o, drop next tokens)
part_got u tokens answer reading o next a e = sym (ap (part_seen u.forest tokens) (sym e) ∙ a.is)

pub part_lost : (u : Tables) (tokens : List Token) (answer : Option (Option NodeId × ℕ)) (reading : Option (OptionalTree × List Token)) → PartAnswers u tokens answer reading → answer ≡ None → reading ≡ None
part_lost u tokens answer reading a e = sym (ap (part_seen u.forest tokens) (sym e) ∙ a.is)

pub part_stands : (u : Tables) (tokens : List Token) (answer : Option (Option NodeId × ℕ)) (reading : Option (OptionalTree × List Token)) (o : Option NodeId) (next : ℕ) → PartAnswers u tokens answer reading → answer ≡ Some (o, next)
    → HasOptional u.forest (length u.forest.trees) is_expression o × (next ≤ length tokens)
part_stands u tokens answer reading o next a e = subst (IsPartThere u tokens) e a.there

-- ---- an expression and `;`

module _ (names : Names) (depth line : ℕ) (ts : List Token) (u : Tables) (tokens : List Token) (answer : Option (Option NodeId × ℕ)) (a : PartAnswers u tokens answer (expression_before names depth is_semicolon ts)) where
  pub simple_none : answer ≡ None → None ≡ simple names depth line ts
  unfolding simple
  simple_none e = rw (part_lost u tokens answer _ a e) refl

  pub simple_some : (o : Option NodeId) (next : ℕ) → answer ≡ Some (o, next) → Some (OfStatement (ExpressionStatement line (optional_at u.forest o)), drop next tokens) ≡ simple names depth line ts
  unfolding simple
  simple_some o next e = rw (part_got u tokens answer _ o next a e) refl

  pub returned_none : answer ≡ None → None ≡ return_behind names depth line ts
  unfolding return_behind
  returned_none e = rw (part_lost u tokens answer _ a e) refl

  pub returned_some : (o : Option NodeId) (next : ℕ) → answer ≡ Some (o, next) → Some (OfStatement (Return line (optional_at u.forest o)), drop next tokens) ≡ return_behind names depth line ts
  unfolding return_behind
  returned_some o next e = rw (part_got u tokens answer _ o next a e) refl

-- ---- declarations

pub declared_none : (reading : Piece) → reading ≡ None → None ≡ only_declaration reading
unfolding only_declaration
declared_none reading e = rw e refl

pub declared_other : (reading : Piece) (x : Tree × List Token) → reading ≡ Some x → is_declaration_tree (as_declaration x.0) ≡ false → None ≡ only_declaration reading
unfolding only_declaration
declared_other reading x e k = rw (e, k) refl

pub declared_so : (reading : Piece) (x : Tree × List Token) → reading ≡ Some x → is_declaration_tree (as_declaration x.0) ≡ true → Some x ≡ only_declaration reading
unfolding only_declaration
declared_so reading x e k = rw (e, k) refl

-- ---- what stands behind the body of a `do`

module _ (names : Names) (depth line : ℕ) (body : Tree) (ts : List Token) where
  pub do_shut : after is_while ts ≡ None → None ≡ do_end names depth line body ts
  unfolding do_end
  do_shut e = rw e refl

  module _ (rest : List Token) (e : after is_while ts ≡ Some rest) where
    pub do_unread : condition names depth rest ≡ None → None ≡ do_end names depth line body ts
    unfolding do_end before
    do_unread c = rw (e, c) refl

    pub do_so : (x : Tree × List Token) → condition names depth rest ≡ Some x
        → option_map (λ more. let y : Tree × List Token = (OfStatement (DoWhile line (as_statement body) (as_expression x.0)), more) in y) (after is_semicolon x.1) ≡ do_end names depth line body ts
    unfolding do_end before
    do_so x c = rw (e, c) refl

-- ---- labels

pub case_none : (names : Names) (depth line : ℕ) (ts : List Token) → expression names depth 3 ts ≡ None → None ≡ case_label names depth line ts
unfolding label_of before
case_none names depth line ts e = rw e refl

pub case_so : (names : Names) (depth line : ℕ) (ts : List Token) (x : Tree × List Token) → expression names depth 3 ts ≡ Some x
    → option_map (λ rest. let y : Tree × List Token = (OfStatement (Case line (as_expression x.0)), rest) in y) (after is_colon x.1) ≡ case_label names depth line ts
unfolding label_of before
case_so names depth line ts x e = rw e refl

label_by : (names : Names) (depth line : ℕ) (k : TokenKind) (ts : List Token) → label_word_of k ≡ None → None ≡ label_of names depth line k ts
unfolding label_of
label_by names depth line (kind.Word word.Case) ts e = absurd cc
label_by names depth line (kind.Word word.Default) ts e = absurd cc
label_by names depth line _ ts e = refl

is_case : (k : TokenKind) → label_word_of k ≡ Some label_word.Case → k ≡ kind.Word word.Case
is_case (kind.Word word.Case) e = refl
is_case (kind.Word word.Default) e = absurd cc
is_case _ e = absurd cc

is_default : (k : TokenKind) → label_word_of k ≡ Some label_word.Default → k ≡ kind.Word word.Default
is_default (kind.Word word.Case) e = absurd cc
is_default (kind.Word word.Default) e = refl
is_default _ e = absurd cc

default_is : (names : Names) (depth line : ℕ) (ts : List Token)
    → option_map (λ more. let y : Tree × List Token = (OfStatement (Default line), more) in y) (after is_colon ts) ≡ label_of names depth line (kind.Word word.Default) ts
unfolding label_of
default_is names depth line ts = refl

pub label_end : (names : Names) (depth : ℕ) (ts : List Token) → ts ≡ [] → None ≡ label names depth ts
unfolding label
label_end names depth ts e = rw e refl

module _ (names : Names) (depth : ℕ) (ts : List Token) (t : Token) (rest : List Token) (is : ts ≡ t ∷ rest) where
  pub label_other : label_word_of t.kind ≡ None → None ≡ label names depth ts
  unfolding label
  label_other e = rw is (label_by names depth t.line t.kind rest e)

  pub label_case : label_word_of t.kind ≡ Some label_word.Case → case_label names depth t.line rest ≡ label names depth ts
  unfolding label
  label_case e = rw is (ap (λ (k : TokenKind). label_of names depth t.line k rest) (sym (is_case t.kind e)))

  pub label_default : label_word_of t.kind ≡ Some label_word.Default
      → option_map (λ more. let y : Tree × List Token = (OfStatement (Default t.line), more) in y) (after is_colon rest) ≡ label names depth ts
  unfolding label
  label_default e = rw is (default_is names depth t.line rest ∙ ap (λ (k : TokenKind). label_of names depth t.line k rest) (sym (is_default t.kind e)))

-- labels that are read, and a statement behind them
module _ (names : Names) (depth : ℕ) (r : List Token → Piece) (ts : List Token) (x : Trees × List Token) (e : x ≡ row (label names depth) NoTrees ts) where
  by_labels : (o : Piece) → o ≡ with_labels r (line_here ts) x → o ≡ labels_and_statement names depth r ts
  unfolding labels_and_statement
  by_labels o h = h ∙ ap (with_labels r (line_here ts)) e

  neither : {A : Type 0} (b : Bool) → ◌≡◌ {A = Option A} None (cond b None None)
  neither true = refl
  neither false = refl

  pub labelled_none : r x.1 ≡ None → None ≡ labels_and_statement names depth r ts
  unfolding with_labels
  labelled_none h = by_labels None (rw h (neither (some x.0)))

  pub labelled_bare : (y : Tree × List Token) → some x.0 ≡ false → r x.1 ≡ Some y → Some y ≡ labels_and_statement names depth r ts
  unfolding with_labels
  labelled_bare y b h = by_labels (Some y) (rw (b, h) refl)

  pub labelled_so : (y : Tree × List Token) → some x.0 ≡ true → r x.1 ≡ Some y
      → Some (OfStatement (Labelled (line_here ts) x.0 (as_statement y.0)), y.1) ≡ labels_and_statement names depth r ts
  unfolding with_labels
  labelled_so y b h = by_labels _ (rw (b, h) refl)

-- ---- selection and iteration

module _ (names : Names) (below line : ℕ) (r : List Token → Piece) (ts : List Token) where
  pub selection_shut : condition names below ts ≡ None → None ≡ selection names below r line ts
  unfolding selection
  selection_shut e = rw e refl

  pub loop_shut : condition names below ts ≡ None → None ≡ loop names below r line ts
  unfolding loop
  loop_shut e = rw e refl

  pub switch_shut : condition names below ts ≡ None → None ≡ switch names below r line ts
  unfolding switch
  switch_shut e = rw e refl

  module _ (a : Tree × List Token) (e : condition names below ts ≡ Some a) where
    pub selection_none : r a.1 ≡ None → None ≡ selection names below r line ts
    unfolding selection
    selection_none h = rw (e, h) refl

    pub selection_so : (x : Tree × List Token) → r a.1 ≡ Some x → else_part r line a.0 x.0 x.1 ≡ selection names below r line ts
    unfolding selection
    selection_so x h = rw (e, h) refl

    pub loop_none : r a.1 ≡ None → None ≡ loop names below r line ts
    unfolding loop
    loop_none h = rw (e, h) refl

    pub loop_so : (x : Tree × List Token) → r a.1 ≡ Some x → Some (OfStatement (While line (as_expression a.0) (as_statement x.0)), x.1) ≡ loop names below r line ts
    unfolding loop
    loop_so x h = rw (e, h) refl

    pub switch_none : r a.1 ≡ None → None ≡ switch names below r line ts
    unfolding switch
    switch_none h = rw (e, h) refl

    pub switch_so : (x : Tree × List Token) → r a.1 ≡ Some x → Some (OfStatement (Switch line (as_expression a.0) (as_statement x.0)), x.1) ≡ switch names below r line ts
    unfolding switch
    switch_so x h = rw (e, h) refl

  pub do_none : r ts ≡ None → None ≡ do_loop names below r line ts
  unfolding do_loop
  do_none h = rw h refl

  pub do_on : (x : Tree × List Token) → r ts ≡ Some x → do_end names below line x.0 x.1 ≡ do_loop names below r line ts
  unfolding do_loop
  do_on x h = rw h refl

-- ---- an `if` whose first statement is read

both_same : {A : Type 0} (b : Bool) (x : A) → x ≡ cond b x x
both_same true x = refl
both_same false x = refl

module _ (r : List Token → Piece) (line : ℕ) (a body : Tree) (ts : List Token) where
  abbrev alone : Piece
  alone = Some (OfStatement (If line (as_expression a) (as_statement body)), ts)

  pub chosen_plain : after is_else ts ≡ None → alone ≡ else_part r line a body ts
  unfolding else_part
  chosen_plain e = rw e (both_same (ends_open (as_statement body)) alone)

  pub chosen_open : ends_open (as_statement body) ≡ true → alone ≡ else_part r line a body ts
  unfolding else_part
  chosen_open o = rw o refl

  module _ (rest : List Token) (e : after is_else ts ≡ Some rest) where
    pub chosen_unread : r rest ≡ None → alone ≡ else_part r line a body ts
    unfolding else_part
    chosen_unread h = rw (e, h) (both_same (ends_open (as_statement body)) alone)

    pub chosen_both : (x : Tree × List Token) → ends_open (as_statement body) ≡ false → r rest ≡ Some x
        → Some (OfStatement (IfElse line (as_expression a) (as_statement body) (as_statement x.0)), x.1) ≡ else_part r line a body ts
    unfolding else_part
    chosen_both x o h = rw (o, e, h) refl

-- an `if` that is made once the unit has grown
module _ (u w : Tables) (grows : Extends u w) (line : ℕ) (c b : NodeId) (hc : Is u is_expression c) (hb : Is u is_statement b) (ts : List Token) where
  pub alone_kept : ◌≡◌ {A = Piece} (Some (OfStatement (If line (expression_at w.forest c) (statement_at w.forest b)), ts)) (Some (OfStatement (If line (expression_at u.forest c) (statement_at u.forest b)), ts))
  alone_kept =
      ap (λ (t : Tree). let x : Tree × List Token = (OfStatement (If line (as_expression t) (statement_at w.forest b)), ts) in Some x) (tree_kept u w c grows hc.0)
      ∙ ap (λ (t : Tree). let x : Tree × List Token = (OfStatement (If line (expression_at u.forest c) (as_statement t)), ts) in Some x) (tree_kept u w b grows hb.0)

  pub both_kept : (o : Tree) → ◌≡◌ {A = Piece} (Some (OfStatement (IfElse line (expression_at w.forest c) (statement_at w.forest b) (as_statement o)), ts)) (Some (OfStatement (IfElse line (expression_at u.forest c) (statement_at u.forest b) (as_statement o)), ts))
  both_kept o =
      ap (λ (t : Tree). let x : Tree × List Token = (OfStatement (IfElse line (as_expression t) (statement_at w.forest b) (as_statement o)), ts) in Some x) (tree_kept u w c grows hc.0)
      ∙ ap (λ (t : Tree). let x : Tree × List Token = (OfStatement (IfElse line (expression_at u.forest c) (as_statement t) (as_statement o)), ts) in Some x) (tree_kept u w b grows hb.0)
