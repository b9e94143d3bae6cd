-- What is read as a part of a statement fits, and spells what was taken: expressions, declarations, conditions, and the rest of a `for`.
use Rattle.std.proofs.Common.{◌≡◌, ◌≤◌, ◌<◌, ℕ, max, Bool, true, List, [], ◌∷◌, ◌++◌, length, drop, Some, None, option_map, option_and_then, refl, sym, ap, subst, ◌∙◌, arith}
use Rattle.pv_token.specs.declared.token_table.Token.{Token}
use Rattle.pv_token.specs.declared.token_table.TokenKind.{TokenKind}
use Rattle.pv_token.specs.declared.token_table.TokenKind.TheVariants as kind
use Rattle.pv_token.specs.declared.marks.Mark.TheVariants as mark
use Rattle.pv_tree.specs.Syntax.{ExpressionTree, DeclarationTree, StatementTree, Tree, OfExpression, OfDeclaration, OfStatement, OptionalTree}
use Rattle.pv_tree.specs.Depths.{expression_depth, declaration_depth, statement_depth, optional_depth}
use Rattle.pv_tree.specs.Levels.{rank}
use Rattle.pv_tree.specs.Spelling.{with_semicolon, in_parens, expression_tokens, declaration_tokens, statement_tokens, optional_tokens}
use Rattle.pv_tree.specs.Spells.{Names, Fits}
use Rattle.pv_tree.specs.Tables.{as_expression, as_declaration, as_statement}
use Rattle.pv_tree.specs.Places.{Place, Expressions, BlockItems, SwitchItems, Labels, is_declaration_tree, is_whole_statement, is_switch_block}
use Rattle.pv_tree.specs.Fitting.{DeclarationFits, StatementFits, OptionalFits, past}
use Rattle.pv_expr_forms.specs.Reader.{is_open, is_close, after, read}
use Rattle.pv_expr_forms.proofs.Runs.{Takes, takes_then, takes_parts, takes_rest}
use Rattle.pv_expr_forms.proofs.Steps.{guarded, mapped, followed, some_is}
use Rattle.pv_expr_forms.proofs.Marks.{after_close}
use Rattle.pv_expr_forms.proofs.Trees.{some_tokens}
use Rattle.pv_expr_forms.proofs.Heads.{IsSpelled}
use Rattle.pv_expr_forms.proofs.Sound.{read_sound}
use Rattle.pv_decl_forms.specs.Pieces.{Piece, Reads, is_semicolon, part_if_any}
use Rattle.pv_decl_forms.specs.Reader.{declaration}
use Rattle.pv_decl_forms.proofs.Marks.{semicolon_taken}
use Rattle.pv_decl_forms.proofs.Goods.{Good, IsSound, Optioned, known_behind, optional_good}
use Rattle.pv_decl_forms.proofs.Externals.{declaration_good}
use Rattle.pv_stmt_forms.specs.Statements.{Form, Statements, SwitchBlocks, expression, before, condition, expression_before, only_declaration, for_rest}
use Rattle.pv_stmt_forms.proofs.FormTokens.{open_taken, before_is, optional_before_is}

-- ---- readers by the place of what they read

abbrev pub nowhere : List Token → Piece
nowhere ts = None

abbrev pub placed : (item switched label part : List Token → Piece) → Reads
placed item switched label part BlockItems = item
placed item switched label part SwitchItems = switched
placed item switched label part Labels = label
placed item switched label part Expressions = part
placed item switched label part _ = nowhere

abbrev pub IsGoodAt : Names → (K : List Token → Type 0) → Place → (deep : ℕ) → (List Token → Piece) → Type 0
IsGoodAt names K place deep read = (ts : List Token) (t : Tree) (rest : List Token) → K ts → read ts ≡ Some (t, rest) → Good names place deep ts t rest

pub nowhere_good : (names : Names) (K : List Token → Type 0) (place : Place) (deep : ℕ) → IsGoodAt names K place deep nowhere
nowhere_good names K place deep ts t rest known e = absurd cc

module _ (names : Names) (K : List Token → Type 0) (deep : ℕ) (f g h p : List Token → Piece) (items : IsGoodAt names K BlockItems deep f) (switched : IsGoodAt names K SwitchItems deep g)
    (labels : IsGoodAt names K Labels deep h) (parts : IsGoodAt names K Expressions deep p) where
  placed_good : (place : Place) → IsGoodAt names K place deep (placed f g h p place)
  placed_good BlockItems ts t rest known e = items ts t rest known e
  placed_good SwitchItems ts t rest known e = switched ts t rest known e
  placed_good Labels ts t rest known e = labels ts t rest known e
  placed_good Expressions ts t rest known e = parts ts t rest known e
  placed_good _ ts t rest known e = absurd cc

  pub placed_sound : IsSound names K deep (placed f g h p)
  placed_sound = record { good = placed_good }

-- ---- what a part was read as

-- an expression
pub record Expressed (names : Names) (level deep : ℕ) (here : List Token) (a : Tree) (rest : List Token) : Type 0 where
  pub is : OfExpression (as_expression a) ≡ a
  pub tight : level ≤ rank (as_expression a)
  pub fits : Fits names (as_expression a) here
  pub shallow : expression_depth (as_expression a) ≤ deep
  pub takes : Takes (expression_tokens (as_expression a)) here rest

-- a declaration
pub record Declared (names : Names) (deep : ℕ) (here : List Token) (a : Tree) (rest : List Token) : Type 0 where
  pub is : OfDeclaration (as_declaration a) ≡ a
  pub stands : is_declaration_tree (as_declaration a) ≡ true
  pub fits : DeclarationFits names.is_type (Fits names) (as_declaration a) here
  pub shallow : declaration_depth (as_declaration a) ≤ deep
  pub spells : 0 < length (declaration_tokens (as_declaration a))
  pub takes : Takes (declaration_tokens (as_declaration a)) here rest

-- which statements a form has
abbrev pub is_of : Form → StatementTree → Bool
is_of Statements s = is_whole_statement s
is_of SwitchBlocks s = is_switch_block s

-- a statement of a form
pub record Stated (names : Names) (form : Form) (deep : ℕ) (here : List Token) (a : Tree) (rest : List Token) : Type 0 where
  pub is : OfStatement (as_statement a) ≡ a
  pub stands : is_of form (as_statement a) ≡ true
  pub fits : StatementFits names.is_type (Fits names) (as_statement a) here
  pub shallow : statement_depth (as_statement a) ≤ deep
  pub spells : 0 < length (statement_tokens (as_statement a))
  pub takes : Takes (statement_tokens (as_statement a)) here rest

pub stated_at : (names : Names) (form : Form) (deep : ℕ) (here : List Token) (x : Tree × List Token) (a : Tree) (rest : List Token) → x ≡ (a, rest)
    → Stated names form deep here x.0 x.1 → Stated names form deep here a rest
stated_at names form deep here x a rest e g = subst (λ (y : Tree × List Token). Stated names form deep here y.0 y.1) e g

abbrev pub IsStated : Names → (K : List Token → Type 0) → Form → (deep : ℕ) → (List Token → Piece) → Type 0
IsStated names K form deep read = (ts : List Token) (a : Tree) (rest : List Token) → K ts → read ts ≡ Some (a, rest) → Stated names form deep ts a rest

-- an expression in parentheses, which others follow
pub record Conditioned (names : Names) (deep : ℕ) (here : List Token) (a : Tree) (rest : List Token) : Type 0 where
  pub fits : Fits names (as_expression a) (drop 1 here)
  pub shallow : expression_depth (as_expression a) ≤ deep
  pub takes : Takes (in_parens (expression_tokens (as_expression a))) here rest
  pub at : drop 1 (past (expression_tokens (as_expression a)) (drop 1 here)) ≡ rest

-- an expression that may be left out, and a token
pub record Parted (names : Names) (deep : ℕ) (k : TokenKind) (here : List Token) (o : OptionalTree) (rest : List Token) : Type 0 where
  pub fits : OptionalFits names.is_type (Fits names) Expressions o here
  pub shallow : optional_depth o ≤ deep
  pub takes : Takes (optional_tokens o ++ k ∷ []) here rest
  pub at : drop 1 (past (optional_tokens o) here) ≡ rest

-- the condition, the step and the body of a `for`
pub record Looped (names : Names) (deep : ℕ) (here : List Token) (make : OptionalTree → OptionalTree → Tree → Tree) (a : Tree) (rest : List Token) : Type 0 where
  pub condition : OptionalTree
  pub step : OptionalTree
  pub body : Tree
  pub is : make condition step body ≡ a
  pub condition_fits : OptionalFits names.is_type (Fits names) Expressions condition here
  pub step_fits : OptionalFits names.is_type (Fits names) Expressions step (drop 1 (past (optional_tokens condition) here))
  pub stands : is_whole_statement (as_statement body) ≡ true
  pub fits : StatementFits names.is_type (Fits names) (as_statement body) (drop 1 (past (optional_tokens step) (drop 1 (past (optional_tokens condition) here))))
  pub shallow : max (optional_depth condition) (max (optional_depth step) (statement_depth (as_statement body))) ≤ deep
  pub takes : (front : List TokenKind) (before : List Token) → Takes front before here
      → Takes (((front ++ (with_semicolon (optional_tokens condition) ++ optional_tokens step)) ++ kind.Mark mark.CloseParen ∷ []) ++ statement_tokens (as_statement body)) before rest

-- kinds, and one more
pub behind_one : (ks : List TokenKind) (k : TokenKind) (here mid rest : List Token) → Takes ks here mid → Takes (k ∷ []) mid rest
    → drop 1 (past ks here) ≡ rest
behind_one ks k here mid rest h c = ap (drop 1) (takes_rest ks here mid h) ∙ takes_rest (k ∷ []) mid rest c

module _ (names : Names) (K : List Token → Type 0) (spelled : IsSpelled names K) (deep : ℕ) where
  pub expression_good : (level : ℕ) (ts : List Token) (a : Tree) (rest : List Token) → K ts → expression names deep level ts ≡ Some (a, rest)
      → Expressed names level deep ts a rest
  expression_good level ts a rest known e =
      let m = mapped (λ (x : ExpressionTree × List Token). let y : Tree × List Token = (OfExpression x.0, x.1) in y) (read names deep level ts) (a, rest) e in
      let g = (read_sound names K spelled deep).good level ts m.0.0 m.0.1 known m.1 in
      subst (λ (y : Tree × List Token). Expressed names level deep ts y.0 y.1) m.2
      (record { is = refl; tight = g.tight; fits = g.fits; shallow = g.shallow; takes = g.takes })

  pub part_good : IsGoodAt names K Expressions deep (expression names deep 1)
  part_good ts a rest known e =
      let g = expression_good 1 ts a rest known e in
      subst (λ (y : Tree). Good names Expressions deep ts y rest) g.is
      (record { stand = refl; fits = g.fits; shallow = g.shallow; spells = some_tokens (as_expression a); takes = g.takes })

  pub condition_good : (ts : List Token) (a : Tree) (rest : List Token) → K ts → condition names deep ts ≡ Some (a, rest)
      → Conditioned names deep ts a rest
  unfolding condition
  condition_good ts a rest known e =
      let f = followed (λ (y : List Token). before is_close (expression names deep 1 y)) (after is_open ts) (a, rest) e in
      let o = open_taken ts f.0 f.1 in
      let b = before_is is_close (expression names deep 1 f.0) a rest f.2 in
      let g = expression_good 1 f.0 a b.0 (known_behind names K spelled (kind.Mark mark.OpenParen ∷ []) ts f.0 o known) b.1 in
      let c = after_close b.0 rest b.2 in
      let ks = expression_tokens (as_expression a) in
      let at = takes_rest (kind.Mark mark.OpenParen ∷ []) ts f.0 o in
      record {
        fits = subst (λ (y : List Token). Fits names (as_expression a) y) (sym at) g.fits;
        shallow = g.shallow;
        takes = takes_then (kind.Mark mark.OpenParen ∷ []) (ks ++ kind.Mark mark.CloseParen ∷ []) ts f.0 rest o (takes_then ks (kind.Mark mark.CloseParen ∷ []) f.0 b.0 rest g.takes c);
        at = ap (λ (y : List Token). drop 1 (past ks y)) at ∙ behind_one ks (kind.Mark mark.CloseParen) f.0 b.0 rest g.takes c;
      }

  -- ---- parts that may be left out

  expression_optional : (ts : List Token) → K ts
      → Optioned names Expressions deep ts (part_if_any ts (expression names deep 1 ts)).0 (part_if_any ts (expression names deep 1 ts)).1
  expression_optional ts known =
      let s = placed_sound names K deep nowhere nowhere nowhere (expression names deep 1) (nowhere_good names K BlockItems deep) (nowhere_good names K SwitchItems deep) (nowhere_good names K Labels deep) part_good in
      (optional_good names K spelled deep (placed nowhere nowhere nowhere (expression names deep 1)) s Expressions ts known).1

  pub parted_good : (test : TokenKind → Bool) (k : TokenKind) → ((ts rest : List Token) → after test ts ≡ Some rest → Takes (k ∷ []) ts rest)
      → (ts : List Token) (o : OptionalTree) (rest : List Token) → K ts → expression_before names deep test ts ≡ Some (o, rest)
      → Parted names deep k ts o rest
  unfolding expression_before
  parted_good test k taken ts o rest known e =
      let x = part_if_any ts (expression names deep 1 ts) in
      let b = optional_before_is test x o rest e in
      let g = expression_optional ts known in
      let c = taken x.1 rest b.0 in
      subst (λ (y : OptionalTree). Parted names deep k ts y rest) b.1 (record {
        fits = g.fits;
        shallow = g.shallow;
        takes = takes_then (optional_tokens x.0) (k ∷ []) ts x.1 rest g.takes c;
        at = behind_one (optional_tokens x.0) k ts x.1 rest g.takes c;
      })

  -- ---- declarations

  declared_by : (o : Piece) (ts : List Token) (a : Tree) (rest : List Token) → K ts → declaration names deep ts ≡ o → only_declaration o ≡ Some (a, rest)
      → Declared names deep ts a rest
  unfolding only_declaration
  declared_by None ts a rest known is e = absurd cc
  declared_by (Some x) ts a rest known is e =
      let g = guarded (is_declaration_tree (as_declaration x.0)) (Some x) (a, rest) e in
      let d = declaration_good names K spelled deep ts x.0 x.1 known is in
      let tree : d.tree ≡ as_declaration x.0 = ap as_declaration d.is in
      subst (λ (y : Tree × List Token). Declared names deep ts y.0 y.1) (some_is x (a, rest) g.1) (record {
        is = ap (λ (y : DeclarationTree). OfDeclaration y) (sym tree) ∙ d.is;
        stands = g.0;
        fits = subst (λ (y : DeclarationTree). DeclarationFits names.is_type (Fits names) y ts) tree d.fits;
        shallow = subst (λ (y : DeclarationTree). declaration_depth y ≤ deep) tree d.shallow;
        spells = subst (λ (y : DeclarationTree). 0 < length (declaration_tokens y)) tree d.spells;
        takes = subst (λ (y : DeclarationTree). Takes (declaration_tokens y) ts x.1) tree d.takes;
      })

  pub declared_good : (ts : List Token) (a : Tree) (rest : List Token) → K ts → only_declaration (declaration names deep ts) ≡ Some (a, rest)
      → Declared names deep ts a rest
  declared_good ts a rest known e = declared_by (declaration names deep ts) ts a rest known refl e

  -- ---- the rest of a `for`

  known_part : (k : TokenKind) (ts : List Token) (o : OptionalTree) (rest : List Token) → K ts → Parted names deep k ts o rest → K rest
  known_part k ts o rest known p = known_behind names K spelled (optional_tokens o ++ k ∷ []) ts rest p.takes known

  -- `step )` in front of the body
  step_takes : (cs ss bs front : List TokenKind) (start here mid inner rest : List Token) → Takes front start here → Takes cs here mid
      → Takes (ss ++ kind.Mark mark.CloseParen ∷ []) mid inner → Takes bs inner rest
      → Takes (((front ++ (cs ++ ss)) ++ kind.Mark mark.CloseParen ∷ []) ++ bs) start rest
  step_takes cs ss bs front start here mid inner rest h c s b =
      let p = takes_parts ss (kind.Mark mark.CloseParen ∷ []) mid inner s in
      takes_then ((front ++ (cs ++ ss)) ++ kind.Mark mark.CloseParen ∷ []) bs start inner rest
      (takes_then (front ++ (cs ++ ss)) (kind.Mark mark.CloseParen ∷ []) start p.0 inner (takes_then front (cs ++ ss) start here p.0 h (takes_then cs ss here mid p.0 c p.1)) p.2) b

  looped_at : (make : OptionalTree → OptionalTree → Tree → Tree) (here : List Token) (x : Tree × List Token) (a : Tree) (rest : List Token) → x ≡ (a, rest)
      → Looped names deep here make x.0 x.1 → Looped names deep here make a rest
  looped_at make here x a rest e g = subst (λ (y : Tree × List Token). Looped names deep here make y.0 y.1) e g

  module _ (read : List Token → Piece) (s : IsStated names K Statements deep read) where
    looped_from : (make : OptionalTree → OptionalTree → Tree → Tree) (ts : List Token) (c p : OptionalTree × List Token) (x : Tree × List Token) → K ts
        → expression_before names deep is_semicolon ts ≡ Some c → expression_before names deep is_close c.1 ≡ Some p → read p.1 ≡ Some x
        → Looped names deep ts make (make c.0 p.0 x.0) x.1
    looped_from make ts c p x known ec ep ex =
        let gc = parted_good is_semicolon (kind.Mark mark.Semicolon) semicolon_taken ts c.0 c.1 known ec in
        let known1 = known_part (kind.Mark mark.Semicolon) ts c.0 c.1 known gc in
        let gs = parted_good is_close (kind.Mark mark.CloseParen) after_close c.1 p.0 p.1 known1 ep in
        let b = s p.1 x.0 x.1 (known_part (kind.Mark mark.CloseParen) c.1 p.0 p.1 known1 gs) ex in
        let at : drop 1 (past (optional_tokens p.0) (drop 1 (past (optional_tokens c.0) ts))) ≡ p.1 = ap (λ (y : List Token). drop 1 (past (optional_tokens p.0) y)) gc.at ∙ gs.at in
        record {
          condition = c.0;
          step = p.0;
          body = x.0;
          is = refl;
          condition_fits = gc.fits;
          step_fits = subst (λ (y : List Token). OptionalFits names.is_type (Fits names) Expressions p.0 y) (sym gc.at) gs.fits;
          stands = b.stands;
          fits = subst (λ (y : List Token). StatementFits names.is_type (Fits names) (as_statement x.0) y) (sym at) b.fits;
          shallow = omega (arith, gc.shallow, gs.shallow, b.shallow);
          takes = λ front start h. step_takes (with_semicolon (optional_tokens c.0)) (optional_tokens p.0) (statement_tokens (as_statement x.0)) front start ts c.1 p.1 x.1 h gc.takes gs.takes b.takes;
        }

    pub for_rest_good : (make : OptionalTree → OptionalTree → Tree → Tree) (ts : List Token) (a : Tree) (rest : List Token) → K ts
        → for_rest names deep read make ts ≡ Some (a, rest) → Looped names deep ts make a rest
    unfolding for_rest
    for_rest_good make ts a rest known e =
        let f = followed (λ (c : OptionalTree × List Token). option_and_then (λ (s : OptionalTree × List Token). option_map (λ (x : Tree × List Token). let z : Tree × List Token = (make c.0 s.0 x.0, x.1) in z) (read s.1)) (expression_before names deep is_close c.1))
        (expression_before names deep is_semicolon ts) (a, rest) e in
        let c = f.0 in
        let h = followed (λ (s : OptionalTree × List Token). option_map (λ (x : Tree × List Token). let z : Tree × List Token = (make c.0 s.0 x.0, x.1) in z) (read s.1)) (expression_before names deep is_close c.1) (a, rest) f.2 in
        let p = h.0 in
        let m = mapped (λ (x : Tree × List Token). let z : Tree × List Token = (make c.0 p.0 x.0, x.1) in z) (read p.1) (a, rest) h.2 in
        looped_at make ts (make c.0 p.0 m.0.0, m.0.1) a rest m.2 (looped_from make ts c p m.0 known f.1 h.1 m.1)
