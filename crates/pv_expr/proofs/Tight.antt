-- A tree that nothing went on from yet is a cast or tighter.
use Rattle.std.proofs.Common.{◌≡◌, ◌≤◌, ℕ, suc, Bool, true, false, cond, List, [], ◌∷◌, drop, Option, Some, None, option_map, option_and_then, subst, arith}
use Rattle.pv_token.specs.declared.token_table.Token.{Token}
use Rattle.pv_token.specs.declared.token_table.TokenKind.{TokenKind}
use Rattle.pv_token.specs.declared.token_table.TokenKind.TheVariants as kind
use Rattle.pv_token.specs.declared.words.Word.TheVariants as word
use Rattle.pv_token.specs.declared.marks.Mark.TheVariants as mark
use Rattle.pv_tree.specs.Syntax.{ExpressionTree, Name, Number, Character, Text, Paren, SizeofType, Cast, DeclarationTree}
use Rattle.pv_tree.specs.Levels.{rank}
use Rattle.pv_tree.specs.Spells.{Names, begins_type}
use Rattle.pv_expr_forms.specs.declared.follows.Prefix.{Prefix}
use Rattle.pv_expr_forms.specs.declared.follows.Prefix.TheVariants as prefix
use Rattle.pv_expr_forms.specs.Follows.{prefix_of, prefix_operand, prefix_tree}
use Rattle.pv_expr_forms.specs.Reader.{Read, Reads, is_close, after, texts_in_row, paren_end, cast_to, behind_open, prefix_behind, sizeof_named_type, opens_type, sizeof_behind, head_of, head}
use Rattle.pv_expr_forms.proofs.Steps.{guarded, unless, mapped, followed, some_is}

tight_at : (x : ExpressionTree × List Token) (b : ExpressionTree) (rest : List Token) → x ≡ (b, rest) → 14 ≤ rank x.0 → 14 ≤ rank b
tight_at x b rest e h = subst (λ (y : ExpressionTree × List Token). 14 ≤ rank y.0) e h

primary : 14 ≤ 17
primary = omega arith

unary : 14 ≤ 15
unary = omega arith

cast : 14 ≤ 14
cast = omega arith

prefixed_tight : (line : ℕ) (op : Prefix) (a : ExpressionTree) → 14 ≤ rank (prefix_tree line op a)
prefixed_tight line prefix.Increment a = unary
prefixed_tight line prefix.Decrement a = unary
prefixed_tight line prefix.Sizeof a = unary
prefixed_tight line (prefix.Unary op) a = unary

module _ (names : Names) (r : Reads) (below : ℕ) where
  closed_tight : (line : ℕ) (a : ExpressionTree) (ts : List Token) (b : ExpressionTree) (rest : List Token) → paren_end line a ts ≡ Some (b, rest) → 14 ≤ rank b
  unfolding paren_end
  closed_tight line a ts b rest e =
      let m = mapped _ (after is_close ts) (b, rest) e in
      tight_at (Paren line a, m.0) b rest m.2 primary

  cast_tight : (line : ℕ) (type : DeclarationTree) (ts : List Token) (b : ExpressionTree) (rest : List Token) → cast_to r below line type ts ≡ Some (b, rest) → 14 ≤ rank b
  unfolding cast_to
  cast_tight line type ts b rest e =
      let g = guarded _ (option_and_then (λ (x : List Token). option_map (λ y. (Cast line type y.0, y.1)) (r 14 x)) (after is_close ts)) (b, rest) e in
      let f = followed (λ (x : List Token). option_map (λ y. (Cast line type y.0, y.1)) (r 14 x)) (after is_close ts) (b, rest) g.1 in
      let m = mapped _ (r 14 f.0) (b, rest) f.2 in
      tight_at (Cast line type m.0.0, m.0.1) b rest m.2 cast

  opened_tight : (begins : Bool) (line : ℕ) (ts : List Token) (b : ExpressionTree) (rest : List Token)
      → cond begins (option_and_then (λ x. cast_to r below line x.0 x.1) (names.type_at ts)) (option_and_then (λ x. paren_end line x.0 x.1) (r 1 ts)) ≡ Some (b, rest) → 14 ≤ rank b
  opened_tight true line ts b rest e =
      let f = followed (λ (x : DeclarationTree × List Token). cast_to r below line x.0 x.1) (names.type_at ts) (b, rest) e in
      cast_tight line f.0.0 f.0.1 b rest f.2
  opened_tight false line ts b rest e =
      let f = followed (λ (x : ExpressionTree × List Token). paren_end line x.0 x.1) (r 1 ts) (b, rest) e in
      closed_tight line f.0.0 f.0.1 b rest f.2

  fronted_tight : (line : ℕ) (o : Option Prefix) (ts : List Token) (b : ExpressionTree) (rest : List Token) → prefix_behind r line o ts ≡ Some (b, rest) → 14 ≤ rank b
  unfolding prefix_behind
  fronted_tight line None ts b rest e = absurd cc
  fronted_tight line (Some op) ts b rest e =
      let m = mapped _ (r (prefix_operand op) ts) (b, rest) e in
      tight_at (prefix_tree line op m.0.0, m.0.1) b rest m.2 (prefixed_tight line op m.0.0)

  measured_tight : (line : ℕ) (type : DeclarationTree) (ts : List Token) (b : ExpressionTree) (rest : List Token) → sizeof_named_type below line type ts ≡ Some (b, rest) → 14 ≤ rank b
  unfolding sizeof_named_type
  measured_tight line type ts b rest e =
      let g = guarded _ (option_map (λ (x : List Token). let y : ExpressionTree × List Token = (SizeofType line type, x) in y) (after is_close ts)) (b, rest) e in
      let m = mapped (λ (x : List Token). let y : ExpressionTree × List Token = (SizeofType line type, x) in y) (after is_close ts) (b, rest) g.1 in
      tight_at (SizeofType line type, m.0) b rest m.2 unary

  sized_tight : (begins : Bool) (line : ℕ) (ts : List Token) (b : ExpressionTree) (rest : List Token)
      → cond begins (option_and_then (λ x. sizeof_named_type below line x.0 x.1) (names.type_at (drop 1 ts))) (prefix_behind r line (Some prefix.Sizeof) ts) ≡ Some (b, rest) → 14 ≤ rank b
  sized_tight true line ts b rest e =
      let f = followed (λ (x : DeclarationTree × List Token). sizeof_named_type below line x.0 x.1) (names.type_at (drop 1 ts)) (b, rest) e in
      measured_tight line f.0.0 f.0.1 b rest f.2
  sized_tight false line ts b rest e = fronted_tight line (Some prefix.Sizeof) ts b rest e

  leaf_tight : (x : ExpressionTree × List Token) (b : ExpressionTree) (rest : List Token) → 14 ≤ rank x.0 → Some x ≡ Some (b, rest) → 14 ≤ rank b
  leaf_tight x b rest h e = tight_at x b rest (some_is x (b, rest) e) h

  named_tight : (line n : ℕ) (ts : List Token) (b : ExpressionTree) (rest : List Token) → cond {A = Read} (names.is_type n) None (Some (Name line n, ts)) ≡ Some (b, rest) → 14 ≤ rank b
  named_tight line n ts b rest e =
      let g = unless {A = ExpressionTree × List Token} (names.is_type n) (Some (Name line n, ts)) (b, rest) e in
      leaf_tight (Name line n, ts) b rest primary g.1

  head_of_tight : (line : ℕ) (k : TokenKind) (ts : List Token) (b : ExpressionTree) (rest : List Token) → head_of names r below line k ts ≡ Some (b, rest) → 14 ≤ rank b
  unfolding head_of behind_open sizeof_behind
  head_of_tight line (kind.Name n) ts b rest e = named_tight line n ts b rest e
  head_of_tight line (kind.Number value decimal unsigned longs) ts b rest e = leaf_tight (Number line value decimal unsigned longs, ts) b rest primary e
  head_of_tight line (kind.Character value) ts b rest e = leaf_tight (Character line value, ts) b rest primary e
  head_of_tight line (kind.Text n) ts b rest e = leaf_tight (Text line n (texts_in_row (suc n) ts), drop (texts_in_row (suc n) ts) ts) b rest primary e
  head_of_tight line (kind.Word word.Sizeof) ts b rest e = sized_tight (opens_type names ts) line ts b rest e
  head_of_tight line (kind.Mark mark.OpenParen) ts b rest e = opened_tight (begins_type names ts) line ts b rest e
  head_of_tight line k ts b rest e = fronted_tight line (prefix_of k) ts b rest e

  pub head_tight : (ts : List Token) (b : ExpressionTree) (rest : List Token) → head names r below ts ≡ Some (b, rest) → 14 ≤ rank b
  unfolding head
  head_tight [] b rest e = absurd cc
  head_tight (t ∷ ts) b rest e = head_of_tight t.line t.kind ts b rest e
