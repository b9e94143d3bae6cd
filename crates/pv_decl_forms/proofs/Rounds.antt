-- The readers by what they read, and one step of reading at a place of one token list.
use Rattle.std.proofs.Common.{◌≡◌, ◌≤◌, ◌<◌, ℕ, zero, suc, List, length, drop, Some, None, refl, arith}
use Rattle.std.proofs.lemmas.List.{length-drop}
use Rattle.pv_token.specs.declared.token_table.Token.{Token}
use Rattle.pv_tree.specs.Syntax.{Tree, Trees}
use Rattle.pv_tree.specs.Spells.{Names}
use Rattle.pv_tree.specs.Places.{Place, Specifiers, Members, Enumerators, Parameters, Initializers}
use Rattle.pv_expr_forms.proofs.Heads.{IsSpelled}
use Rattle.pv_expr_forms.proofs.Spans.{IsEnd, at_end}
use Rattle.pv_decl_forms.specs.declared.forms.Form.{Form}
use Rattle.pv_decl_forms.specs.declared.forms.Form.TheVariants as form
use Rattle.pv_decl_forms.specs.Pieces.{row_on, row, after_comma}
use Rattle.pv_decl_forms.specs.Declarators.{place_of, declarator}
use Rattle.pv_decl_forms.specs.Reader.{nothing, specifier, parameter, initializer, member_with, member, enumerator_of, enumerator, node_readers, leaves, with_parts, readers}
use Rattle.pv_decl_forms.proofs.Steps.{row_step}
use Rattle.pv_decl_forms.proofs.Goods.{part_shortens, comma_shortens}
use Rattle.pv_decl_forms.proofs.Sound.{readers_sound}

-- ---- nodes

pub specifier_by : (names : Names) (depth : ℕ) (ts : List Token) → readers names (suc depth) Specifiers ts ≡ specifier names (readers names depth) ts
unfolding readers with_parts node_readers
specifier_by names depth ts = refl

pub leaf_by : (names : Names) (ts : List Token) → readers names zero Specifiers ts ≡ specifier names nothing ts
unfolding readers with_parts leaves
leaf_by names ts = refl

pub declarator_by : (names : Names) (depth : ℕ) (f : Form) (ts : List Token)
    → readers names (suc depth) (place_of f) ts ≡ declarator names (readers names depth) depth f ts
unfolding readers with_parts node_readers
declarator_by names depth form.Named ts = refl
declarator_by names depth form.Abstract ts = refl
declarator_by names depth form.Either ts = refl

pub no_declarator : (names : Names) (f : Form) (ts : List Token) → readers names zero (place_of f) ts ≡ None
unfolding readers with_parts leaves
no_declarator names form.Named ts = refl
no_declarator names form.Abstract ts = refl
no_declarator names form.Either ts = refl

pub parameter_by : (names : Names) (depth : ℕ) (ts : List Token) → readers names (suc depth) Parameters ts ≡ parameter (readers names depth) ts
unfolding readers with_parts node_readers
parameter_by names depth ts = refl

pub no_parameter : (names : Names) (ts : List Token) → readers names zero Parameters ts ≡ None
unfolding readers with_parts leaves
no_parameter names ts = refl

pub initializer_by : (names : Names) (depth : ℕ) (ts : List Token)
    → readers names (suc depth) Initializers ts ≡ initializer names (readers names depth) depth ts
unfolding readers with_parts node_readers
initializer_by names depth ts = refl

-- ---- what is no node of its own

pub member_by : (names : Names) (depth : ℕ) (ts : List Token) → readers names depth Members ts ≡ member (readers names depth) ts
unfolding readers with_parts node_readers leaves member member_with
member_by names zero ts = refl
member_by names (suc depth) ts = refl

pub enumerator_by : (names : Names) (depth : ℕ) (ts : List Token) → readers names depth Enumerators ts ≡ enumerator names (readers names depth) ts
unfolding readers with_parts node_readers leaves enumerator enumerator_of
enumerator_by names zero ts = refl
enumerator_by names (suc depth) ts = refl

-- ---- at a place

module _ (names : Names) (tokens : List Token) (spelled : IsSpelled names (IsEnd tokens)) (depth : ℕ) (place : Place) where
  pub comma_forward : (at next : ℕ) (t : Tree) → at ≤ length tokens → next ≤ length tokens
      → after_comma (readers names depth place) (drop at tokens) ≡ Some (t, drop next tokens) → at < next
  comma_forward at next t p q e =
      let short = comma_shortens names (IsEnd tokens) spelled depth (readers names depth) (readers_sound names (IsEnd tokens) spelled depth) place in
      omega (arith, short.less (drop at tokens) t (drop next tokens) (at_end tokens at p) e, length-drop at tokens, length-drop next tokens)

  pub row_at : (before : Trees) (at : ℕ) → at ≤ length tokens → row (readers names depth place) before (drop at tokens)
      ≡ row_on (row (readers names depth place)) before (drop at tokens) (readers names depth place (drop at tokens))
  row_at before at p =
      row_step (IsEnd tokens) (readers names depth place) (part_shortens names (IsEnd tokens) spelled depth (readers names depth) (readers_sound names (IsEnd tokens) spelled depth) place)
      before (drop at tokens) (at_end tokens at p)

  pub list_at : (before : Trees) (at : ℕ) → at ≤ length tokens → row (after_comma (readers names depth place)) before (drop at tokens)
      ≡ row_on (row (after_comma (readers names depth place))) before (drop at tokens) (after_comma (readers names depth place) (drop at tokens))
  list_at before at p =
      row_step (IsEnd tokens) (after_comma (readers names depth place)) (comma_shortens names (IsEnd tokens) spelled depth (readers names depth) (readers_sound names (IsEnd tokens) spelled depth) place)
      before (drop at tokens) (at_end tokens at p)
