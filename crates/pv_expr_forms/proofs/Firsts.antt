-- What the first token decides.
use Rattle.std.proofs.Common.{◌≡◌, ℕ, Bool, true, false, cond, List, [], ◌∷◌, drop, Option, Some, None, option_map, option_and_then, refl, sym, ap, ◌∙◌}
use Rattle.std.specs.Prelude.{nat_le}
use Rattle.pv_token.specs.declared.token_table.Token.{Token}
use Rattle.pv_token.specs.declared.token_table.TokenKind.{TokenKind}
use Rattle.pv_token.specs.declared.token_table.TokenKind.TheVariants as kind
use Rattle.pv_token.specs.declared.words.Word.TheVariants as word
use Rattle.pv_token.specs.declared.marks.Mark.TheVariants as mark
use Rattle.pv_tree.specs.Syntax.{ExpressionTree, SizeofType, Cast, DeclarationTree}
use Rattle.pv_tree.specs.Depths.{declaration_depth}
use Rattle.pv_tree.specs.Spells.{Names, begins_type}
use Rattle.pv_expr_forms.specs.declared.follows.Prefix.{Prefix}
use Rattle.pv_expr_forms.specs.Follows.{prefix_of}
use Rattle.pv_expr_forms.specs.Reader.{Read, Reads, is_open, is_close, after, paren_end, cast_to, behind_open, prefix_behind, sizeof_named_type, sizeof_behind, head_of, selected_by, selection_behind}
use Rattle.pv_expr_forms.specs.Parts.{leaf_of, measures_type, type_closed, name_of_kind, name_next, made_with_name}

module _ (names : Names) (read : Reads) (below line : ℕ) where
  pub head_open : (k : TokenKind) (ts : List Token) → is_open k ≡ true → behind_open names read below line ts ≡ head_of names read below line k ts
  unfolding head_of
  head_open (kind.Mark mark.OpenParen) ts e = refl
  head_open _ ts e = absurd cc

  pub head_measure : (k : TokenKind) (ts : List Token) → measures_type names k ts ≡ true → option_and_then (λ x. sizeof_named_type below line x.0 x.1) (names.type_at (drop 1 ts)) ≡ head_of names read below line k ts
  unfolding head_of sizeof_behind
  head_measure (kind.Word word.Sizeof) ts e = rw e refl
  head_measure _ ts e = absurd cc

  pub head_front : (k : TokenKind) (ts : List Token) (op : Prefix) → is_open k ≡ false → measures_type names k ts ≡ false → prefix_of k ≡ Some op → prefix_behind read line (Some op) ts ≡ head_of names read below line k ts
  unfolding head_of sizeof_behind
  head_front (kind.Name n) ts op o m e = absurd cc
  head_front (kind.Number value decimal unsigned longs) ts op o m e = absurd cc
  head_front (kind.Character value) ts op o m e = absurd cc
  head_front (kind.Text n) ts op o m e = absurd cc
  head_front (kind.Word word.Sizeof) ts op o m e = rw m (ap (λ (x : Option Prefix). prefix_behind read line x ts) (sym e))
  head_front (kind.Mark mark.OpenParen) ts op o m e = absurd cc
  head_front k ts op o m e = ap (λ (x : Option Prefix). prefix_behind read line x ts) (sym e)

  pub head_leaf : (k : TokenKind) (ts : List Token) → is_open k ≡ false → prefix_of k ≡ None → leaf_of names.is_type line k ts ≡ head_of names read below line k ts
  unfolding head_of leaf_of prefix_behind
  head_leaf (kind.Name n) ts o e = refl
  head_leaf (kind.Number value decimal unsigned longs) ts o e = refl
  head_leaf (kind.Character value) ts o e = refl
  head_leaf (kind.Text n) ts o e = refl
  head_leaf (kind.Word word.Sizeof) ts o e = absurd cc
  head_leaf (kind.Mark mark.OpenParen) ts o e = absurd cc
  head_leaf k ts o e = ap (λ (x : Option Prefix). prefix_behind read line x ts) (sym e)

-- ---- a type name in parentheses

module _ (names : Names) (below line : ℕ) where
  measured_by : (d : DeclarationTree) (b : Bool) (o : Option (List Token)) → option_map (λ y. (SizeofType line y.0, y.1)) (cond {A = Option (DeclarationTree × List Token)} b (option_map (λ next. (d, next)) o) None) ≡ cond {A = Read} b (option_map (λ next. (SizeofType line d, next)) o) None
  measured_by d false o = refl
  measured_by d true None = refl
  measured_by d true (Some next) = refl

  measured_all : (o : Option (DeclarationTree × List Token)) → option_map (λ y. (SizeofType line y.0, y.1)) (option_and_then (λ x. cond {A = Option (DeclarationTree × List Token)} (nat_le (declaration_depth x.0) below) (option_map (λ rest. (x.0, rest)) (after is_close x.1)) None) o) ≡ option_and_then (λ x. sizeof_named_type below line x.0 x.1) o
  unfolding sizeof_named_type
  measured_all None = refl
  measured_all (Some x) = measured_by x.0 (nat_le (declaration_depth x.0) below) (after is_close x.1)

  -- the size of a type
  pub measured_is : (ts : List Token) (o : Option (DeclarationTree × List Token)) → type_closed names below ts ≡ o → option_map (λ y. (SizeofType line y.0, y.1)) o ≡ option_and_then (λ x. sizeof_named_type below line x.0 x.1) (names.type_at ts)
  unfolding type_closed
  measured_is ts o e = ap (option_map (λ (y : DeclarationTree × List Token). let x : ExpressionTree × List Token = (SizeofType line y.0, y.1) in x)) (sym e) ∙ measured_all (names.type_at ts)

module _ (names : Names) (read : Reads) (below line : ℕ) where
  abbrev casts : DeclarationTree × List Token → Read
  casts y = option_map (λ x. (Cast line y.0 x.0, x.1)) (read 14 y.1)

  cast_by : (d : DeclarationTree) (b : Bool) (o : Option (List Token)) → option_and_then casts (cond {A = Option (DeclarationTree × List Token)} b (option_map (λ next. (d, next)) o) None) ≡ cond {A = Read} b (option_and_then (λ next. option_map (λ x. (Cast line d x.0, x.1)) (read 14 next)) o) None
  cast_by d false o = refl
  cast_by d true None = refl
  cast_by d true (Some next) = refl

  cast_all : (o : Option (DeclarationTree × List Token)) → option_and_then casts (option_and_then (λ x. cond {A = Option (DeclarationTree × List Token)} (nat_le (declaration_depth x.0) below) (option_map (λ rest. (x.0, rest)) (after is_close x.1)) None) o) ≡ option_and_then (λ x. cast_to read below line x.0 x.1) o
  unfolding cast_to
  cast_all None = refl
  cast_all (Some x) = cast_by x.0 (nat_le (declaration_depth x.0) below) (after is_close x.1)

  -- a cast
  pub opened_cast : (ts : List Token) (o : Option (DeclarationTree × List Token)) → begins_type names ts ≡ true → type_closed names below ts ≡ o → option_and_then (λ y. option_map (λ x. (Cast line y.0 x.0, x.1)) (read 14 y.1)) o ≡ behind_open names read below line ts
  unfolding type_closed behind_open
  opened_cast ts o b e = rw b (ap (option_and_then casts) (sym e) ∙ cast_all (names.type_at ts))

  -- what stands in parentheses
  pub opened_paren : (ts : List Token) → begins_type names ts ≡ false → option_and_then (λ x. paren_end line x.0 x.1) (read 1 ts) ≡ behind_open names read below line ts
  unfolding behind_open
  opened_paren ts b = rw b refl

-- ---- a member's name

named_if : (make : ℕ → ExpressionTree) (ts : List Token) (b : Bool) (n : ℕ) → option_map (λ (x : ℕ × List Token). let y : ExpressionTree × List Token = (make x.0, x.1) in y) (option_map (λ (m : ℕ). let y : ℕ × List Token = (m, ts) in y) (cond b None (Some n))) ≡ cond {A = Read} b None (Some (make n, ts))
named_if make ts true n = refl
named_if make ts false n = refl

named_by : (names : Names) (make : ℕ → ExpressionTree) (k : TokenKind) (ts : List Token) → option_map (λ (x : ℕ × List Token). let y : ExpressionTree × List Token = (make x.0, x.1) in y) (option_map (λ (m : ℕ). let y : ℕ × List Token = (m, ts) in y) (name_of_kind names.is_type k)) ≡ selected_by names make k ts
unfolding selected_by
named_by names make (kind.Name n) ts = named_if make ts (names.is_type n) n
named_by names make _ ts = refl

pub named_is : (names : Names) (make : ℕ → ExpressionTree) (ts : List Token) → made_with_name names.is_type make ts ≡ selection_behind names make ts
unfolding made_with_name name_next selection_behind
named_is names make [] = refl
named_is names make (t ∷ ts) = named_by names make t.kind ts
