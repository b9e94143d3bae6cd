-- What is read as a declarator is spelled so.
use Rattle.std.proofs.Common.{◌≡◌, ◌≤◌, ◌&&◌, ℕ, zero, suc, Bool, true, false, cond, List, [], ◌∷◌, ◌++◌, drop, Some, None, option_and_then, refl, sym, ap, subst, ◌∙◌, arith, leb}
use Rattle.std.proofs.lemmas.Bool.{leb-true, and_parts, false≢true, true≢false}
use Rattle.std.proofs.lemmas.Option.{none-some}
use Rattle.pv_token.specs.declared.token_table.Token.{Token}
use Rattle.pv_token.specs.declared.token_table.TokenKind.{TokenKind}
use Rattle.pv_token.specs.declared.token_table.TokenKind.TheVariants as kind
use Rattle.pv_token.specs.declared.marks.Mark.TheVariants as mark
use Rattle.pv_tree.specs.Syntax.{DeclaratorTree, DeclaredName, ParenDeclarator, Pointer, Array, FunctionDeclarator, AbstractParen, AbstractPointer, AbstractArray, AbstractFunction, Tree, OfDeclarator, Absent, Present}
use Rattle.pv_tree.specs.Depths.{declarator_depth}
use Rattle.pv_tree.specs.Spelling.{declarator_tokens, optional_tokens, listed_tokens, variadic_tokens, const_tokens}
use Rattle.pv_tree.specs.Grammar.{line_here}
use Rattle.pv_tree.specs.Spells.{Names, Fits}
use Rattle.pv_tree.specs.Places.{Parameters, Constants, stands, is_named, is_abstract, is_direct}
use Rattle.pv_tree.specs.Fitting.{ListFits, OptionalFits, past}
use Rattle.pv_expr_forms.specs.Reader.{is_close, after}
use Rattle.pv_expr_forms.proofs.Runs.{Takes, takes_then, takes_rest}
use Rattle.pv_expr_forms.proofs.Steps.{guarded, unless, mapped, followed}
use Rattle.pv_expr_forms.proofs.Marks.{after_close}
use Rattle.pv_expr_forms.proofs.Heads.{IsSpelled}
use Rattle.pv_decl_forms.specs.declared.forms.Form.{Form}
use Rattle.pv_decl_forms.specs.declared.forms.Form.TheVariants as form
use Rattle.pv_decl_forms.specs.Pieces.{Piece, Reads}
use Rattle.pv_decl_forms.specs.Declarators.{place_of, allows_name, allows_abstract, paren_tree, pointing, array_tree, function_tree, size_behind, parameters_behind, consts_in_row, pointer_tree, pointer, opens_parameters, in_parentheses, behind_paren, head_of, head, declarator_on, longer_declarator, on_with, grown_for, longest_declarator, declarator}
use Rattle.pv_decl_forms.proofs.Marks.{consts_taken}
use Rattle.pv_decl_forms.proofs.Steps.{piece_is}
use Rattle.pv_decl_forms.proofs.Goods.{Good, IsSound, Sized, Parametered, good_at, left_spells, known_behind, sized_good, parametrized_good}

-- ---- which declarators are asked for

pub abstract_unnamed : (d : DeclaratorTree) → is_abstract d ≡ true → is_named d ≡ false
abstract_unnamed (AbstractParen line d) e = refl
abstract_unnamed (AbstractPointer line consts d) e = refl
abstract_unnamed (AbstractArray line d size) e = refl
abstract_unnamed (AbstractFunction line d parameters variadic) e = refl
abstract_unnamed _ e = absurd (false≢true e)

pub unnamed_abstract : (d : DeclaratorTree) → is_named d ≡ false → is_abstract d ≡ true
unnamed_abstract (AbstractParen line d) e = refl
unnamed_abstract (AbstractPointer line consts d) e = refl
unnamed_abstract (AbstractArray line d size) e = refl
unnamed_abstract (AbstractFunction line d parameters variadic) e = refl
unnamed_abstract _ e = absurd (true≢false e)

stand_named : (f : Form) (d : DeclaratorTree) → allows_name f ≡ true → is_named d ≡ true → stands (place_of f) (OfDeclarator d) ≡ true
stand_named form.Named d a e = e
stand_named form.Abstract d a e = absurd cc
stand_named form.Either d a e = refl

stand_abstract : (f : Form) (d : DeclaratorTree) → allows_abstract f ≡ true → is_abstract d ≡ true → stands (place_of f) (OfDeclarator d) ≡ true
stand_abstract form.Named d a e = absurd cc
stand_abstract form.Abstract d a e = e
stand_abstract form.Either d a e = refl

-- where one stands, another that has a name as it has one stands, too
pub stand_like : (f : Form) (d e : DeclaratorTree) → is_named d ≡ is_named e → stands (place_of f) (OfDeclarator d) ≡ true
    → stands (place_of f) (OfDeclarator e) ≡ true
stand_like form.Named d e same h = sym same ∙ h
stand_like form.Abstract d e same h = unnamed_abstract e (sym same ∙ abstract_unnamed d h)
stand_like form.Either d e same h = refl

pub declarator_stands : (f : Form) (t : Tree) → stands (place_of f) t ≡ true → (d : DeclaratorTree) × (t ≡ OfDeclarator d)
declarator_stands form.Named (OfDeclarator d) e = (d, refl)
declarator_stands form.Named _ e = absurd (false≢true e)
declarator_stands form.Abstract (OfDeclarator d) e = (d, refl)
declarator_stands form.Abstract _ e = absurd (false≢true e)
declarator_stands form.Either (OfDeclarator d) e = (d, refl)
declarator_stands form.Either _ e = absurd (false≢true e)

-- a declarator that is read
abbrev pub GoodAs : Names → Form → (deep : ℕ) → (here : List Token) → DeclaratorTree → (rest : List Token) → Type 0
GoodAs names f deep here d rest = Good names (place_of f) deep here (OfDeclarator d) rest

-- as one with a name or one without
as_one : (names : Names) (f : Form) (deep : ℕ) (here : List Token) (b : Bool) (d e : DeclaratorTree) (rest : List Token)
    → (b ≡ true → GoodAs names f deep here d rest) → (b ≡ false → GoodAs names f deep here e rest)
    → Good names (place_of f) deep here (cond b (OfDeclarator d) (OfDeclarator e)) rest
as_one names f deep here true d e rest g h = g refl
as_one names f deep here false d e rest g h = h refl

module _ (names : Names) (K : List Token → Type 0) (spelled : IsSpelled names K) (depth : ℕ) (r : Reads) (s : IsSound names K depth r) (f : Form) where
  -- ---- how a declarator begins

  paren_good : (t : Token) (ts : List Token) (d : DeclaratorTree) (mid rest : List Token) → t.kind ≡ kind.Mark mark.OpenParen
      → GoodAs names f depth ts d mid → after is_close mid ≡ Some rest
      → Good names (place_of f) (suc depth) (t ∷ ts) (paren_tree t.line (OfDeclarator d)) rest
  paren_good t ts d mid rest o g c =
      let run : Takes (kind.Mark mark.OpenParen ∷ (declarator_tokens d ++ kind.Mark mark.CloseParen ∷ [])) (t ∷ ts) rest =
      (o, takes_then (declarator_tokens d) (kind.Mark mark.CloseParen ∷ []) ts mid rest g.takes (after_close mid rest c)) in
      as_one names f (suc depth) (t ∷ ts) (is_named d) (ParenDeclarator t.line d) (AbstractParen t.line d) rest
      (λ e. record { stand = stand_like f d (ParenDeclarator t.line d) e g.stand; fits = (refl, e, g.fits); shallow = omega (arith, g.shallow); spells = omega arith; takes = run })
      (λ e. record { stand = stand_like f d (AbstractParen t.line d) e g.stand; fits = (refl, unnamed_abstract d e, g.fits); shallow = omega (arith, g.shallow); spells = omega arith; takes = run })

  within_good : (t : Token) (ts : List Token) (x : Tree) (mid : List Token) (a : Tree) (rest : List Token) → t.kind ≡ kind.Mark mark.OpenParen
      → Good names (place_of f) depth ts x mid → in_parentheses t.line x mid ≡ Some (a, rest) → Good names (place_of f) (suc depth) (t ∷ ts) a rest
  unfolding in_parentheses
  within_good t ts x mid a rest o g e =
      let m = mapped (λ (y : List Token). let z : Tree × List Token = (paren_tree t.line x, y) in z) (after is_close mid) (a, rest) e in
      let d = declarator_stands f x g.stand in
      let g' = subst (λ (y : Tree). Good names (place_of f) depth ts y mid) d.1 g in
      good_at names (place_of f) (suc depth) (t ∷ ts) (paren_tree t.line x, m.0) a rest m.2
      (subst (λ (y : Tree). Good names (place_of f) (suc depth) (t ∷ ts) (paren_tree t.line y) m.0) (sym d.1) (paren_good t ts d.0 mid m.0 o g' m.1))

  -- parameters with nothing before them
  parameters_good : (t : Token) (ts : List Token) (a : Tree) (rest : List Token) → t.kind ≡ kind.Mark mark.OpenParen → allows_abstract f ≡ true
      → Parametered names depth ts (λ parameters variadic. OfDeclarator (AbstractFunction t.line Absent parameters variadic)) a rest
      → Good names (place_of f) (suc depth) (t ∷ ts) a rest
  parameters_good t ts a rest o may p =
      subst (λ (y : Tree). Good names (place_of f) (suc depth) (t ∷ ts) y rest) p.is (record {
        stand = stand_abstract f (AbstractFunction t.line Absent p.parameters p.variadic) may refl;
        fits = (refl, p.may, tt, p.fits);
        shallow = omega (arith, p.shallow);
        spells = omega arith;
        takes = (o, p.takes);
      })

  size_good : (t : Token) (ts : List Token) (a : Tree) (rest : List Token) → t.kind ≡ kind.Mark mark.OpenBracket → allows_abstract f ≡ true
      → Sized names depth ts (λ size. OfDeclarator (AbstractArray t.line Absent size)) a rest → Good names (place_of f) (suc depth) (t ∷ ts) a rest
  size_good t ts a rest o may p =
      subst (λ (y : Tree). Good names (place_of f) (suc depth) (t ∷ ts) y rest) p.is (record {
        stand = stand_abstract f (AbstractArray t.line Absent p.size) may refl;
        fits = (refl, tt, p.fits);
        shallow = omega (arith, p.shallow);
        spells = omega arith;
        takes = (o, p.takes);
      })

  opened_by : (b c : Bool) (t : Token) (ts : List Token) (a : Tree) (rest : List Token) → K ts → t.kind ≡ kind.Mark mark.OpenParen
      → allows_abstract f ≡ c
      → cond b (cond c (parameters_behind (λ parameters variadic. OfDeclarator (AbstractFunction t.line Absent parameters variadic)) r ts) None)
      (option_and_then (λ x. in_parentheses t.line x.0 x.1) (r (place_of f) ts)) ≡ Some (a, rest)
      → Good names (place_of f) (suc depth) (t ∷ ts) a rest
  opened_by true true t ts a rest known o may e =
      parameters_good t ts a rest o may (parametrized_good names K spelled depth r s (λ parameters variadic. OfDeclarator (AbstractFunction t.line Absent parameters variadic)) ts a rest known e)
  opened_by true false t ts a rest known o may e = absurd cc
  opened_by false c t ts a rest known o may e =
      let m = followed (λ (x : Tree × List Token). in_parentheses t.line x.0 x.1) (r (place_of f) ts) (a, rest) e in
      within_good t ts m.0.0 m.0.1 a rest o (s.good (place_of f) ts m.0.0 m.0.1 known m.1) m.2

  -- behind a star and words `const`
  star_run : (t : Token) (ts : List Token) (ks : List TokenKind) (rest : List Token) → t.kind ≡ kind.Mark mark.Star
      → Takes ks (drop (consts_in_row ts) ts) rest → Takes (kind.Mark mark.Star ∷ (const_tokens (consts_in_row ts) ++ ks)) (t ∷ ts) rest
  star_run t ts ks rest o h = (o, takes_then (const_tokens (consts_in_row ts)) ks ts (drop (consts_in_row ts) ts) rest (consts_taken ts) h)

  pointing_good : (t : Token) (ts : List Token) (d : DeclaratorTree) (rest : List Token) → t.kind ≡ kind.Mark mark.Star
      → GoodAs names f depth (drop (consts_in_row ts) ts) d rest
      → Good names (place_of f) (suc depth) (t ∷ ts) (pointing t.line (consts_in_row ts) (OfDeclarator d)) rest
  pointing_good t ts d rest o g =
      let n = consts_in_row ts in
      as_one names f (suc depth) (t ∷ ts) (is_named d) (Pointer t.line n d) (AbstractPointer t.line n (Present (OfDeclarator d))) rest
      (λ e. record { stand = stand_like f d (Pointer t.line n d) e g.stand; fits = (refl, e, g.fits); shallow = omega (arith, g.shallow); spells = omega arith; takes = star_run t ts (declarator_tokens d) rest o g.takes })
      (λ e. record { stand = stand_like f d (AbstractPointer t.line n (Present (OfDeclarator d))) e g.stand; fits = (refl, (unnamed_abstract d e, g.fits)); shallow = omega (arith, g.shallow); spells = omega arith; takes = star_run t ts (declarator_tokens d) rest o g.takes })

  alone_good : (b : Bool) (t : Token) (ts : List Token) (a : Tree) (rest : List Token) → t.kind ≡ kind.Mark mark.Star → allows_abstract f ≡ b
      → cond {A = Piece} b (Some (OfDeclarator (AbstractPointer t.line (consts_in_row ts) Absent), drop (consts_in_row ts) ts)) None ≡ Some (a, rest)
      → Good names (place_of f) (suc depth) (t ∷ ts) a rest
  alone_good true t ts a rest o may e =
      let n = consts_in_row ts in
      good_at names (place_of f) (suc depth) (t ∷ ts) (OfDeclarator (AbstractPointer t.line n Absent), drop n ts) a rest (piece_is _ _ _ _ e) (record {
        stand = stand_abstract f (AbstractPointer t.line n Absent) may refl;
        fits = (refl, tt);
        shallow = omega arith;
        spells = omega arith;
        takes = star_run t ts [] (drop n ts) o refl;
      })
  alone_good false t ts a rest o may e = absurd cc

  pointed_good : (t : Token) (ts : List Token) (o : Piece) (a : Tree) (rest : List Token) → K (drop (consts_in_row ts) ts)
      → t.kind ≡ kind.Mark mark.Star
      → r (place_of f) (drop (consts_in_row ts) ts) ≡ o → pointer_tree f t.line (consts_in_row ts) (drop (consts_in_row ts) ts) o ≡ Some (a, rest)
      → Good names (place_of f) (suc depth) (t ∷ ts) a rest
  unfolding pointer_tree
  pointed_good t ts None a rest known star is e = alone_good (allows_abstract f) t ts a rest star refl e
  pointed_good t ts (Some x) a rest known star is e =
      let g = s.good (place_of f) (drop (consts_in_row ts) ts) x.0 x.1 known is in
      let d = declarator_stands f x.0 g.stand in
      let g' = subst (λ (y : Tree). Good names (place_of f) depth (drop (consts_in_row ts) ts) y x.1) d.1 g in
      good_at names (place_of f) (suc depth) (t ∷ ts) (pointing t.line (consts_in_row ts) x.0, x.1) a rest (piece_is _ _ _ _ e)
      (subst (λ (y : Tree). Good names (place_of f) (suc depth) (t ∷ ts) (pointing t.line (consts_in_row ts) y) x.1) (sym d.1) (pointing_good t ts d.0 x.1 star g'))

  named_good : (b : Bool) (t : Token) (n : ℕ) (ts : List Token) (a : Tree) (rest : List Token) → t.kind ≡ kind.Name n → names.is_type n ≡ false
      → allows_name f ≡ b
      → cond {A = Piece} b (Some (OfDeclarator (DeclaredName t.line n), ts)) None ≡ Some (a, rest) → Good names (place_of f) (suc depth) (t ∷ ts) a rest
  named_good true t n ts a rest is free may e =
      good_at names (place_of f) (suc depth) (t ∷ ts) (OfDeclarator (DeclaredName t.line n), ts) a rest (piece_is _ _ _ _ e) (record {
        stand = stand_named f (DeclaredName t.line n) may refl;
        fits = (refl, free);
        shallow = omega arith;
        spells = omega arith;
        takes = (is, refl);
      })
  named_good false t n ts a rest is free may e = absurd cc

  bracket_good : (b : Bool) (t : Token) (ts : List Token) (a : Tree) (rest : List Token) → K ts → t.kind ≡ kind.Mark mark.OpenBracket
      → allows_abstract f ≡ b
      → cond b (size_behind (λ size. OfDeclarator (AbstractArray t.line Absent size)) r ts) None ≡ Some (a, rest)
      → Good names (place_of f) (suc depth) (t ∷ ts) a rest
  bracket_good true t ts a rest known o may e = size_good t ts a rest o may (sized_good names K spelled depth r s (λ size. OfDeclarator (AbstractArray t.line Absent size)) ts a rest known e)
  bracket_good false t ts a rest known o may e = absurd cc

  head_of_good : (t : Token) (k : TokenKind) (ts : List Token) (a : Tree) (rest : List Token) → t.kind ≡ k → K ts
      → head_of names r f t.line k ts ≡ Some (a, rest)
      → Good names (place_of f) (suc depth) (t ∷ ts) a rest
  unfolding head_of pointer behind_paren
  head_of_good t (kind.Name n) ts a rest is known e =
      let g = unless {A = Tree × List Token} (names.is_type n) (cond {A = Piece} (allows_name f) (Some (OfDeclarator (DeclaredName t.line n), ts)) None) (a, rest) e in
      named_good (allows_name f) t n ts a rest is g.0 refl g.1
  head_of_good t (kind.Mark mark.Star) ts a rest is known e =
      let n = consts_in_row ts in
      pointed_good t ts (r (place_of f) (drop n ts)) a rest (known_behind names K spelled (const_tokens n) ts (drop n ts) (consts_taken ts) known) is refl e
  head_of_good t (kind.Mark mark.OpenParen) ts a rest is known e = opened_by (opens_parameters names ts) (allows_abstract f) t ts a rest known is refl e
  head_of_good t (kind.Mark mark.OpenBracket) ts a rest is known e = bracket_good (allows_abstract f) t ts a rest known is refl e
  head_of_good t _ ts a rest is known e = absurd (none-some (a, rest) e)

  pub head_good : (ts : List Token) (a : Tree) (rest : List Token) → K ts → head names r f ts ≡ Some (a, rest)
      → Good names (place_of f) (suc depth) ts a rest
  unfolding head
  head_good [] a rest known e = absurd cc
  head_good (t ∷ ts) a rest known e = head_of_good t t.kind ts a rest refl (spelled.tail t ts known) e

  -- ---- how it goes on

  module _ (here : List Token) (d : DeclaratorTree) (t : Token) (ts : List Token) (g : GoodAs names f (suc depth) here d (t ∷ ts)) (direct : is_direct d ≡ true) (low : declarator_depth d ≤ depth) where
    behind : drop 1 (past (declarator_tokens d) here) ≡ ts
    behind = ap (drop 1) (takes_rest (declarator_tokens d) here (t ∷ ts) g.takes)

    array_good : (a : Tree) (rest : List Token) → t.kind ≡ kind.Mark mark.OpenBracket
        → Sized names depth ts (array_tree (line_here here) (OfDeclarator d)) a rest
        → Good names (place_of f) (suc depth) here a rest
    array_good a rest o p =
        let line = line_here here in
        let run = takes_then (declarator_tokens d) (kind.Mark mark.OpenBracket ∷ (optional_tokens p.size ++ kind.Mark mark.CloseBracket ∷ [])) here (t ∷ ts) rest g.takes (o, p.takes) in
        let size = subst (λ (x : List Token). OptionalFits names.is_type (Fits names) Constants p.size x) (sym behind) p.fits in
        subst (λ (y : Tree). Good names (place_of f) (suc depth) here y rest) p.is
        (as_one names f (suc depth) here (is_named d) (Array line d p.size) (AbstractArray line (Present (OfDeclarator d)) p.size) rest
        (λ e. record { stand = stand_like f d (Array line d p.size) e g.stand; fits = (refl, e, direct, g.fits, size); shallow = omega (arith, p.shallow, low); spells = left_spells (declarator_tokens d) _ g.spells; takes = run })
        (λ e. record { stand = stand_like f d (AbstractArray line (Present (OfDeclarator d)) p.size) e g.stand; fits = (refl, (rw (unnamed_abstract d e, direct) refl, g.fits), size); shallow = omega (arith, p.shallow, low); spells = left_spells (declarator_tokens d) _ g.spells; takes = run }))

    function_good : (a : Tree) (rest : List Token) → t.kind ≡ kind.Mark mark.OpenParen
        → Parametered names depth ts (function_tree (line_here here) (OfDeclarator d)) a rest
        → Good names (place_of f) (suc depth) here a rest
    function_good a rest o p =
        let line = line_here here in
        let inner = listed_tokens p.parameters ++ variadic_tokens p.variadic in
        let run = takes_then (declarator_tokens d) (kind.Mark mark.OpenParen ∷ (inner ++ kind.Mark mark.CloseParen ∷ [])) here (t ∷ ts) rest g.takes (o, p.takes) in
        let parameters = subst (λ (x : List Token). ListFits names.is_type (Fits names) Parameters p.parameters x) (sym behind) p.fits in
        subst (λ (y : Tree). Good names (place_of f) (suc depth) here y rest) p.is
        (as_one names f (suc depth) here (is_named d) (FunctionDeclarator line d p.parameters p.variadic) (AbstractFunction line (Present (OfDeclarator d)) p.parameters p.variadic) rest
        (λ e. record { stand = stand_like f d (FunctionDeclarator line d p.parameters p.variadic) e g.stand; fits = (refl, e, direct, p.may, g.fits, parameters); shallow = omega (arith, p.shallow, low); spells = left_spells (declarator_tokens d) _ g.spells; takes = run })
        (λ e. record { stand = stand_like f d (AbstractFunction line (Present (OfDeclarator d)) p.parameters p.variadic) e g.stand; fits = (refl, p.may, (rw (unnamed_abstract d e, direct) refl, g.fits), parameters); shallow = omega (arith, p.shallow, low); spells = left_spells (declarator_tokens d) _ g.spells; takes = run }))

    tried_good : (k : TokenKind) (a : Tree) (rest : List Token) → t.kind ≡ k → K ts → declarator_on r (line_here here) (OfDeclarator d) k ts ≡ Some (a, rest)
        → Good names (place_of f) (suc depth) here a rest
    unfolding declarator_on
    tried_good (kind.Mark mark.OpenBracket) a rest is known e =
        array_good a rest is (sized_good names K spelled depth r s (array_tree (line_here here) (OfDeclarator d)) ts a rest known e)
    tried_good (kind.Mark mark.OpenParen) a rest is known e =
        function_good a rest is (parametrized_good names K spelled depth r s (function_tree (line_here here) (OfDeclarator d)) ts a rest known e)
    tried_good _ a rest is known e = absurd (none-some (a, rest) e)

  longer_by : (here : List Token) (d : DeclaratorTree) (ts : List Token) (a : Tree) (rest : List Token) → K here
      → GoodAs names f (suc depth) here d ts
      → longer_declarator r depth (line_here here) (OfDeclarator d) ts ≡ Some (a, rest) → Good names (place_of f) (suc depth) here a rest
  unfolding longer_declarator
  longer_by here d [] a rest known g e = absurd cc
  longer_by here d (t ∷ ts) a rest known g e =
      let p = guarded (is_direct d && leb (declarator_depth d) depth) (declarator_on r (line_here here) (OfDeclarator d) t.kind ts) (a, rest) e in
      let q = and_parts (is_direct d) (leb (declarator_depth d) depth) p.0 in
      tried_good here d t ts g q.0 (leb-true _ _ q.1) t.kind a rest refl (spelled.tail t ts (known_behind names K spelled (declarator_tokens d) here (t ∷ ts) g.takes known)) p.1

  pub longer_good : (here : List Token) (left : Tree) (ts : List Token) (a : Tree) (rest : List Token) → K here
      → Good names (place_of f) (suc depth) here left ts
      → longer_declarator r depth (line_here here) left ts ≡ Some (a, rest) → Good names (place_of f) (suc depth) here a rest
  longer_good here left ts a rest known g e =
      let d = declarator_stands f left g.stand in
      longer_by here d.0 ts a rest known (subst (λ (y : Tree). Good names (place_of f) (suc depth) here y ts) d.1 g)
      (ap (λ (y : Tree). longer_declarator r depth (line_here here) y ts) (sym d.1) ∙ e)

  carried_good : (go : Tree → List Token → Tree × List Token) (here : List Token) (left : Tree) (ts : List Token) (o : Piece) → K here
      → longer_declarator r depth (line_here here) left ts ≡ o → Good names (place_of f) (suc depth) here left ts
      → ((a : Tree) (rest : List Token) → Good names (place_of f) (suc depth) here a rest → Good names (place_of f) (suc depth) here (go a rest).0 (go a rest).1)
      → Good names (place_of f) (suc depth) here (on_with go left ts o).0 (on_with go left ts o).1
  carried_good go here left ts None known e g h = g
  carried_good go here left ts (Some x) known e g h = h x.0 x.1 (longer_good here left ts x.0 x.1 known g e)

  grown_for_good : (steps : ℕ) (here : List Token) (left : Tree) (ts : List Token) → K here → Good names (place_of f) (suc depth) here left ts
      → let x = grown_for steps r depth (line_here here) left ts in Good names (place_of f) (suc depth) here x.0 x.1
  unfolding grown_for
  grown_for_good zero here left ts known g = g
  grown_for_good (suc steps) here left ts known g =
      carried_good (grown_for steps r depth (line_here here)) here left ts (longer_declarator r depth (line_here here) left ts) known refl g (λ a rest g'. grown_for_good steps here a rest known g')

  pub grown_good : (here : List Token) (left : Tree) (ts : List Token) → K here → Good names (place_of f) (suc depth) here left ts
      → let x = longest_declarator r depth (line_here here) left ts in Good names (place_of f) (suc depth) here x.0 x.1
  unfolding longest_declarator
  grown_good here left ts known g = grown_for_good (suc depth) here left ts known g

  pub declarator_good : (ts : List Token) (a : Tree) (rest : List Token) → K ts → declarator names r depth f ts ≡ Some (a, rest)
      → Good names (place_of f) (suc depth) ts a rest
  unfolding declarator
  declarator_good ts a rest known e =
      let m = mapped (λ (x : Tree × List Token). longest_declarator r depth (line_here ts) x.0 x.1) (head names r f ts) (a, rest) e in
      good_at names (place_of f) (suc depth) ts (longest_declarator r depth (line_here ts) m.0.0 m.0.1) a rest m.2
      (grown_good ts m.0.0 m.0.1 known (head_good ts m.0.0 m.0.1 known m.1))
