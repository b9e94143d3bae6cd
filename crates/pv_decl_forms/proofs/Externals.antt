-- A declaration, and the head of a function: what is read is spelled so.
use Rattle.std.proofs.Common.{◌≡◌, ◌≤◌, ◌<◌, ℕ, zero, suc, Bool, true, false, cond, List, [], ◌∷◌, ◌++◌, length, Some, option_and_then, refl, sym, ap, subst, ◌∙◌, arith, inl, inr}
use Rattle.pv_token.specs.declared.token_table.Token.{Token}
use Rattle.pv_token.specs.declared.token_table.TokenKind.TheVariants as kind
use Rattle.pv_token.specs.declared.marks.Mark.TheVariants as mark
use Rattle.pv_tree.specs.Syntax.{DeclarationTree, Declaration, Parameter, DeclaratorTree, Tree, OfDeclaration, OfDeclarator, Trees, NoTrees, Then, Present}
use Rattle.pv_tree.specs.Depths.{declaration_depth}
use Rattle.pv_tree.specs.Spelling.{declaration_tokens, tree_tokens, trees_tokens, listed_tokens}
use Rattle.pv_tree.specs.Grammar.{line_here}
use Rattle.pv_tree.specs.Spells.{Names, Fits}
use Rattle.pv_tree.specs.Places.{Specifiers, InitDeclarators, MemberDeclarators, some}
use Rattle.pv_tree.specs.Fitting.{TreeFits, DeclarationFits, ListFits}
use Rattle.pv_expr_forms.specs.Reader.{after}
use Rattle.pv_expr_forms.proofs.Runs.{Takes, takes_then, takes_rest}
use Rattle.pv_expr_forms.proofs.Steps.{guarded, mapped, followed}
use Rattle.pv_expr_forms.proofs.Heads.{IsSpelled}
use Rattle.pv_decl_forms.specs.declared.forms.Form.TheVariants as form
use Rattle.pv_decl_forms.specs.Pieces.{Piece, Reads, is_semicolon, row, after_comma}
use Rattle.pv_decl_forms.specs.Grammar.{opens_block, is_declared}
use Rattle.pv_decl_forms.specs.Reader.{semicolon_behind, declarator_and_value, readers, behind_declarators, after_declarator, after_specifiers, declaration_with, declaration}
use Rattle.pv_decl_forms.proofs.Marks.{semicolon_taken}
use Rattle.pv_decl_forms.proofs.Steps.{piece_is}
use Rattle.pv_decl_forms.proofs.Goods.{Good, IsSound, Rowed, Commas, left_spells, known_behind, row_good, list_good}
use Rattle.pv_decl_forms.proofs.Directs.{declarator_stands}
use Rattle.pv_decl_forms.proofs.Parts.{or_else_is, initialized_good}
use Rattle.pv_decl_forms.proofs.Sound.{readers_sound}

pub record Declaring (names : Names) (deep : ℕ) (here : List Token) (a : Tree) (rest : List Token) : Type 0 where
  pub tree : DeclarationTree
  pub is : OfDeclaration tree ≡ a
  pub stands : is_declared tree rest ≡ true
  pub fits : DeclarationFits names.is_type (Fits names) tree here
  pub shallow : declaration_depth tree ≤ deep
  pub spells : 0 < length (declaration_tokens tree)
  pub takes : Takes (declaration_tokens tree) here rest

module _ (names : Names) (K : List Token → Type 0) (spelled : IsSpelled names K) (depth : ℕ) (r : Reads) (s : IsSound names K depth r)
    (here : List Token) (specs : Trees) (mid : List Token) (b : Rowed names Specifiers depth here specs mid) (has : some specs ≡ true) where
  abbrev IsGood : Tree → List Token → Type 0
  IsGood a rest = Declaring names (suc depth) here a rest

  -- to a semicolon
  ended_good : (parts : Trees) (ts : List Token) (a : Tree) (rest : List Token) → Commas names InitDeclarators depth mid parts ts
      → semicolon_behind (Declaration (line_here here) specs parts) ts ≡ Some (a, rest) → IsGood a rest
  unfolding semicolon_behind
  ended_good parts ts a rest l e =
      let d = Declaration (line_here here) specs parts in
      let m = mapped (λ (y : List Token). let z : Tree × List Token = (OfDeclaration d, y) in z) (after is_semicolon ts) (a, rest) e in
      let at = takes_rest (trees_tokens specs) here mid b.takes in
      let run = takes_then (trees_tokens specs ++ listed_tokens parts) (kind.Mark mark.Semicolon ∷ []) here ts m.0 (takes_then (trees_tokens specs) (listed_tokens parts) here mid ts b.takes l.takes) (semicolon_taken ts m.0 m.1) in
      record {
        tree = d;
        is = ap (λ (y : Tree × List Token). y.0) m.2;
        stands = refl;
        fits = (refl, has, b.fits, subst (λ (y : List Token). ListFits names.is_type (Fits names) InitDeclarators parts y) (sym at) l.fits);
        shallow = omega (arith, b.shallow, l.shallow);
        spells = left_spells (trees_tokens specs ++ listed_tokens parts) _ (left_spells (trees_tokens specs) (listed_tokens parts) (b.spells has));
        takes = subst (λ (y : List Token). Takes (declaration_tokens d) here y) (ap (λ (y : Tree × List Token). y.1) m.2) run;
      }

  head_good : (d : DeclaratorTree) (rest : List Token) → Good names MemberDeclarators depth mid (OfDeclarator d) rest → opens_block rest ≡ true
      → IsGood (OfDeclaration (Parameter (line_here here) specs (Present (OfDeclarator d)))) rest
  head_good d rest g o =
      let at = takes_rest (trees_tokens specs) here mid b.takes in
      record {
        tree = Parameter (line_here here) specs (Present (OfDeclarator d));
        is = refl;
        stands = rw (g.stand, o) refl;
        fits = (refl, has, b.fits, (refl, subst (λ (y : List Token). TreeFits names.is_type (Fits names) (OfDeclarator d) y) (sym at) g.fits));
        shallow = omega (arith, b.shallow, g.shallow);
        spells = left_spells (trees_tokens specs) _ (b.spells has);
        takes = takes_then (trees_tokens specs) (tree_tokens (OfDeclarator d)) here mid rest b.takes g.takes;
      }

  behind_by : (block : Bool) (d : DeclaratorTree) (ts : List Token) (a : Tree) (rest : List Token) → K ts
      → Good names MemberDeclarators depth mid (OfDeclarator d) ts → opens_block ts ≡ block
      → cond {A = Piece} block (Some (OfDeclaration (Parameter (line_here here) specs (Present (OfDeclarator d))), ts))
      (behind_declarators (line_here here) specs (row (after_comma (r InitDeclarators)) (Then NoTrees (declarator_and_value r (line_here mid) (OfDeclarator d) ts).0) (declarator_and_value r (line_here mid) (OfDeclarator d) ts).1)) ≡ Some (a, rest)
      → IsGood a rest
  unfolding behind_declarators
  behind_by true d ts a rest known g o e =
      let same = piece_is _ _ _ _ e in
      subst (λ (y : Tree × List Token). IsGood y.0 y.1) same (head_good d ts g o)
  behind_by false d ts a rest known g o e =
      let i = declarator_and_value r (line_here mid) (OfDeclarator d) ts in
      let first = initialized_good names K spelled depth r s mid (OfDeclarator d) ts known g in
      let x = row (after_comma (r InitDeclarators)) (Then NoTrees i.0) i.1 in
      let l = list_good names K spelled depth r s InitDeclarators mid i.0 i.1 first.0 first.1 in
      ended_good x.0 x.1 a rest l.1.1 e

  behind_good : (t : Tree) (ts : List Token) (a : Tree) (rest : List Token) → K ts → Good names MemberDeclarators depth mid t ts
      → after_declarator r (line_here here) (line_here mid) specs t ts ≡ Some (a, rest) → IsGood a rest
  unfolding after_declarator
  behind_good t ts a rest known g e =
      let d = declarator_stands form.Named t g.stand in
      behind_by (opens_block ts) d.0 ts a rest known (subst (λ (y : Tree). Good names MemberDeclarators depth mid y ts) d.1 g) refl
      (ap (λ (y : Tree). after_declarator r (line_here here) (line_here mid) specs y ts) (sym d.1) ∙ e)

  pub specified_good : (a : Tree) (rest : List Token) → K mid → after_specifiers r (line_here here) specs mid ≡ Some (a, rest) → IsGood a rest
  unfolding after_specifiers
  specified_good a rest known e =
      elim (or_else_is (semicolon_behind (Declaration (line_here here) specs NoTrees) mid) (option_and_then (λ y. after_declarator r (line_here here) (line_here mid) specs y.0 y.1) (r MemberDeclarators mid)) (a, rest) e) [
        | inl h ↦ ended_good NoTrees mid a rest (record { fits = tt; shallow = omega arith; spells = λ more. absurd cc; takes = refl }) h
        | inr h ↦
            let m = followed (λ (y : Tree × List Token). after_declarator r (line_here here) (line_here mid) specs y.0 y.1) (r MemberDeclarators mid) (a, rest) h in
            let g = s.good MemberDeclarators mid m.0.0 m.0.1 known m.1 in
            behind_good m.0.0 m.0.1 a rest (known_behind names K spelled (tree_tokens m.0.0) mid m.0.1 g.takes known) g m.2
      ]

pub declaration_good : (names : Names) (K : List Token → Type 0) → IsSpelled names K → (deep : ℕ) (here : List Token) (a : Tree) (rest : List Token)
    → K here
    → declaration names deep here ≡ Some (a, rest) → Declaring names deep here a rest
unfolding declaration declaration_with
declaration_good names K spelled zero here a rest known e = absurd cc
declaration_good names K spelled (suc depth) here a rest known e =
    let r = readers names depth in
    let s = readers_sound names K spelled depth in
    let x = row (r Specifiers) NoTrees here in
    let g = guarded (some x.0) (after_specifiers r (line_here here) x.0 x.1) (a, rest) e in
    let b = row_good names K spelled depth r s Specifiers here known in
    specified_good names K spelled depth r s here x.0 x.1 b.1 g.0 a rest b.0 g.1
