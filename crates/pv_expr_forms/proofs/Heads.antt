-- What is read as the first form of an expression is spelled so.
use Rattle.std.proofs.Common.{◌≡◌, ◌≤◌, ℕ, suc, Bool, true, false, cond, List, [], ◌∷◌, ◌++◌, drop, Option, Some, None, option_map, option_and_then, refl, sym, ap, subst, ◌∙◌, arith}
use Rattle.std.proofs.lemmas.Bool.{leb-true, and_parts}
use Rattle.pv_token.specs.declared.token_table.Token.{Token}
use Rattle.pv_token.specs.declared.token_table.TokenKind.{TokenKind}
use Rattle.pv_token.specs.declared.token_table.TokenKind.TheVariants as kind
use Rattle.pv_token.specs.declared.words.Word.TheVariants as word
use Rattle.pv_token.specs.declared.marks.Mark.TheVariants as mark
use Rattle.pv_tree.specs.Syntax.{ExpressionTree, Name, Number, Character, Text, Paren, SizeofType, Cast, DeclarationTree}
use Rattle.pv_tree.specs.Depths.{expression_depth}
use Rattle.pv_tree.specs.Levels.{rank}
use Rattle.pv_tree.specs.Spelling.{expression_tokens, declaration_tokens}
use Rattle.pv_tree.specs.Spells.{Names, begins_type, IsTypeName, Fits}
use Rattle.pv_expr_forms.specs.declared.follows.Prefix.{Prefix}
use Rattle.pv_expr_forms.specs.declared.follows.Prefix.TheVariants as prefix
use Rattle.pv_expr_forms.specs.Follows.{prefix_token, prefix_of, prefix_operand, prefix_tree}
use Rattle.pv_expr_forms.specs.Reader.{Read, Reads, is_open, is_close, after, texts_in_row, paren_end, cast_to, behind_open, prefix_behind, sizeof_named_type, opens_type, sizeof_behind, head_of, head}
use Rattle.pv_expr_forms.proofs.Runs.{Takes, takes_then, takes_rest, takes_known, takes_past}
use Rattle.pv_expr_forms.proofs.Operators.{prefix_of_is}
use Rattle.pv_expr_forms.proofs.Steps.{guarded, unless, mapped, followed, some_is}
use Rattle.pv_expr_forms.proofs.Marks.{open_is, after_close, texts_taken}
use Rattle.pv_expr_forms.proofs.Trees.{tokens_prefixed, depth_prefixed, fits_prefixed}

-- each type name spells what it takes, where K holds of the tokens, as it does of those behind them
pub record IsSpelled (names : Names) (K : List Token → Type 0) : Type 0 where
  pub tail : (t : Token) (ts : List Token) → K (t ∷ ts) → K ts
  pub type_is : (ts : List Token) (type : DeclarationTree) (rest : List Token) → K ts → names.type_at ts ≡ Some (type, rest) → Takes (declaration_tokens type) ts rest

-- what was read fits, and spells what was taken
pub record Good (names : Names) (level deep : ℕ) (here : List Token) (a : ExpressionTree) (rest : List Token) : Type 0 where
  pub fits : Fits names a here
  pub tight : level ≤ rank a
  pub shallow : expression_depth a ≤ deep
  pub takes : Takes (expression_tokens a) here rest

pub record IsSound (names : Names) (K : List Token → Type 0) (deep : ℕ) (r : Reads) : Type 0 where
  pub good : (level : ℕ) (ts : List Token) (a : ExpressionTree) (rest : List Token) → K ts → r level ts ≡ Some (a, rest) → Good names level deep ts a rest

-- what holds of the answer given holds of the answer
pub good_at : (names : Names) (level deep : ℕ) (here : List Token) (x : ExpressionTree × List Token) (a : ExpressionTree) (rest : List Token) → x ≡ (a, rest)
    → Good names level deep here x.0 x.1 → Good names level deep here a rest
good_at names level deep here x a rest e g = subst (λ (y : ExpressionTree × List Token). Good names level deep here y.0 y.1) e g

module _ (names : Names) (K : List Token → Type 0) (spelled : IsSpelled names K) (below : ℕ) (r : Reads) (s : IsSound names K below r) where
  closed_good : (t : Token) (ts : List Token) (a : ExpressionTree) (mid : List Token) (b : ExpressionTree) (rest : List Token) → t.kind ≡ kind.Mark mark.OpenParen
      → Good names 1 below ts a mid → paren_end t.line a mid ≡ Some (b, rest) → Good names 0 (suc below) (t ∷ ts) b rest
  unfolding paren_end
  closed_good t ts a mid b rest o g e =
      let m = mapped _ (after is_close mid) (b, rest) e in
      good_at names 0 (suc below) (t ∷ ts) (Paren t.line a, m.0) b rest m.2 (record {
        fits = (refl, g.tight, g.fits);
        tight = omega arith;
        shallow = omega (arith, g.shallow);
        takes = (o, takes_then (expression_tokens a) (kind.Mark mark.CloseParen ∷ []) ts mid m.0 g.takes (after_close mid m.0 m.1));
      })

  cast_good : (t : Token) (ts : List Token) (type : DeclarationTree) (mid : List Token) (b : ExpressionTree) (rest : List Token) → K ts
      → t.kind ≡ kind.Mark mark.OpenParen → begins_type names ts ≡ true → names.type_at ts ≡ Some (type, mid) → cast_to r below t.line type mid ≡ Some (b, rest)
      → Good names 0 (suc below) (t ∷ ts) b rest
  unfolding cast_to
  cast_good t ts type mid b rest known o begins is e =
      let g = guarded _ (option_and_then (λ (x : List Token). option_map (λ y. (Cast t.line type y.0, y.1)) (r 14 x)) (after is_close mid)) (b, rest) e in
      let f = followed (λ (x : List Token). option_map (λ y. (Cast t.line type y.0, y.1)) (r 14 x)) (after is_close mid) (b, rest) g.1 in
      let m = mapped _ (r 14 f.0) (b, rest) f.2 in
      let d = spelled.type_is ts type mid known is in
      let c = after_close mid f.0 f.1 in
      let both = takes_then (declaration_tokens type) (kind.Mark mark.CloseParen ∷ []) ts mid f.0 d c in
      let a = s.good 14 f.0 m.0.0 m.0.1 (takes_known K spelled.tail _ ts f.0 both known) m.1 in
      let place = takes_past t (declaration_tokens type) (kind.Mark mark.CloseParen) ts mid f.0 d c in
      let name : IsTypeName names type ts = record { begins = begins; is = is ∙ ap (λ (x : List Token). Some (type, x)) (sym (takes_rest (declaration_tokens type) ts mid d)) } in
      good_at names 0 (suc below) (t ∷ ts) (Cast t.line type m.0.0, m.0.1) b rest m.2 (record {
        fits = (refl, name, a.tight, subst (λ (x : List Token). Fits names m.0.0 x) (sym place) a.fits);
        tight = omega arith;
        shallow = omega (arith, a.shallow, leb-true _ _ g.0);
        takes = (o, takes_then (declaration_tokens type ++ kind.Mark mark.CloseParen ∷ []) (expression_tokens m.0.0) ts f.0 m.0.1 both a.takes);
      })

  opened_good : (begins : Bool) (t : Token) (ts : List Token) (b : ExpressionTree) (rest : List Token) → K ts → t.kind ≡ kind.Mark mark.OpenParen
      → begins_type names ts ≡ begins
      → cond begins (option_and_then (λ x. cast_to r below t.line x.0 x.1) (names.type_at ts)) (option_and_then (λ x. paren_end t.line x.0 x.1) (r 1 ts)) ≡ Some (b, rest)
      → Good names 0 (suc below) (t ∷ ts) b rest
  opened_good true t ts b rest known o begins e =
      let f = followed (λ (x : DeclarationTree × List Token). cast_to r below t.line x.0 x.1) (names.type_at ts) (b, rest) e in
      cast_good t ts f.0.0 f.0.1 b rest known o begins f.1 f.2
  opened_good false t ts b rest known o begins e =
      let f = followed (λ (x : ExpressionTree × List Token). paren_end t.line x.0 x.1) (r 1 ts) (b, rest) e in
      closed_good t ts f.0.0 f.0.1 b rest o (s.good 1 ts f.0.0 f.0.1 known f.1) f.2

  fronted_good : (t : Token) (op : Prefix) (ts : List Token) (b : ExpressionTree) (rest : List Token) → K ts → t.kind ≡ prefix_token op
      → prefix_behind r t.line (Some op) ts ≡ Some (b, rest) → Good names 0 (suc below) (t ∷ ts) b rest
  unfolding prefix_behind
  fronted_good t op ts b rest known o e =
      let m = mapped _ (r (prefix_operand op) ts) (b, rest) e in
      let a = s.good (prefix_operand op) ts m.0.0 m.0.1 known m.1 in
      good_at names 0 (suc below) (t ∷ ts) (prefix_tree t.line op m.0.0, m.0.1) b rest m.2 (record {
        fits = fits_prefixed names t.line op m.0.0 (t ∷ ts) refl a.tight a.fits;
        tight = omega arith;
        shallow = omega (arith, a.shallow, depth_prefixed t.line op m.0.0);
        takes = subst (λ (ks : List TokenKind). Takes ks (t ∷ ts) m.0.1) (sym (tokens_prefixed t.line op m.0.0)) (o, a.takes);
      })

  fronted_by_good : (t : Token) (k : TokenKind) (o : Option Prefix) (ts : List Token) (b : ExpressionTree) (rest : List Token) → K ts → t.kind ≡ k → prefix_of k ≡ o
      → prefix_behind r t.line o ts ≡ Some (b, rest) → Good names 0 (suc below) (t ∷ ts) b rest
  unfolding prefix_behind
  fronted_by_good t k None ts b rest known is p e = absurd cc
  fronted_by_good t k (Some op) ts b rest known is p e = fronted_good t op ts b rest known (is ∙ prefix_of_is k op p) e

  measured_good : (t p : Token) (ts : List Token) (type : DeclarationTree) (mid : List Token) (b : ExpressionTree) (rest : List Token) → K ts
      → t.kind ≡ kind.Word word.Sizeof → p.kind ≡ kind.Mark mark.OpenParen → begins_type names ts ≡ true → names.type_at ts ≡ Some (type, mid)
      → sizeof_named_type below t.line type mid ≡ Some (b, rest) → Good names 0 (suc below) (t ∷ p ∷ ts) b rest
  unfolding sizeof_named_type
  measured_good t p ts type mid b rest known w o begins is e =
      let g = guarded _ (option_map (λ (x : List Token). let y : ExpressionTree × List Token = (SizeofType t.line type, x) in y) (after is_close mid)) (b, rest) e in
      let m = mapped (λ (x : List Token). let y : ExpressionTree × List Token = (SizeofType t.line type, x) in y) (after is_close mid) (b, rest) g.1 in
      let d = spelled.type_is ts type mid known is in
      let name : IsTypeName names type ts = record { begins = begins; is = is ∙ ap (λ (x : List Token). Some (type, x)) (sym (takes_rest (declaration_tokens type) ts mid d)) } in
      good_at names 0 (suc below) (t ∷ p ∷ ts) (SizeofType t.line type, m.0) b rest m.2 (record {
        fits = (refl, name);
        tight = omega arith;
        shallow = omega (arith, leb-true _ _ g.0);
        takes = (w, (o, takes_then (declaration_tokens type) (kind.Mark mark.CloseParen ∷ []) ts mid m.0 d (after_close mid m.0 m.1)));
      })

  sized_type_good : (t : Token) (ts : List Token) (b : ExpressionTree) (rest : List Token) → K ts → t.kind ≡ kind.Word word.Sizeof → opens_type names ts ≡ true
      → option_and_then (λ x. sizeof_named_type below t.line x.0 x.1) (names.type_at (drop 1 ts)) ≡ Some (b, rest) → Good names 0 (suc below) (t ∷ ts) b rest
  sized_type_good t [] b rest known w begins e = absurd cc
  sized_type_good t (p ∷ ts) b rest known w begins e =
      let f = followed (λ (x : DeclarationTree × List Token). sizeof_named_type below t.line x.0 x.1) (names.type_at ts) (b, rest) e in
      let both = and_parts (is_open p.kind) (begins_type names ts) begins in
      measured_good t p ts f.0.0 f.0.1 b rest (spelled.tail p ts known) w (open_is p.kind both.0) both.1 f.1 f.2

  sized_good : (begins : Bool) (t : Token) (ts : List Token) (b : ExpressionTree) (rest : List Token) → K ts → t.kind ≡ kind.Word word.Sizeof
      → opens_type names ts ≡ begins
      → cond begins (option_and_then (λ x. sizeof_named_type below t.line x.0 x.1) (names.type_at (drop 1 ts))) (prefix_behind r t.line (Some prefix.Sizeof) ts) ≡ Some (b, rest)
      → Good names 0 (suc below) (t ∷ ts) b rest
  sized_good true t ts b rest known w begins e = sized_type_good t ts b rest known w begins e
  sized_good false t ts b rest known w begins e = fronted_good t prefix.Sizeof ts b rest known w e

  -- a token that is a whole expression
  leaf_good : (t : Token) (ts : List Token) (x : ExpressionTree × List Token) (b : ExpressionTree) (rest : List Token) → Good names 0 (suc below) (t ∷ ts) x.0 x.1
      → Some x ≡ Some (b, rest) → Good names 0 (suc below) (t ∷ ts) b rest
  leaf_good t ts x b rest g e = good_at names 0 (suc below) (t ∷ ts) x b rest (some_is x (b, rest) e) g

  named_good : (t : Token) (n : ℕ) (ts : List Token) (b : ExpressionTree) (rest : List Token) → t.kind ≡ kind.Name n
      → cond {A = Read} (names.is_type n) None (Some (Name t.line n, ts)) ≡ Some (b, rest) → Good names 0 (suc below) (t ∷ ts) b rest
  named_good t n ts b rest is e =
      let g = unless {A = ExpressionTree × List Token} (names.is_type n) (Some (Name t.line n, ts)) (b, rest) e in
      leaf_good t ts (Name t.line n, ts) b rest (record { fits = (refl, g.0); tight = omega arith; shallow = omega arith; takes = (is, refl) }) g.1

  head_of_good : (t : Token) (k : TokenKind) (ts : List Token) (b : ExpressionTree) (rest : List Token) → t.kind ≡ k → K ts
      → head_of names r below t.line k ts ≡ Some (b, rest) → Good names 0 (suc below) (t ∷ ts) b rest
  unfolding head_of behind_open sizeof_behind
  head_of_good t (kind.Name n) ts b rest is known e = named_good t n ts b rest is e
  head_of_good t (kind.Number value decimal unsigned longs) ts b rest is known e =
      leaf_good t ts (Number t.line value decimal unsigned longs, ts) b rest (record { fits = refl; tight = omega arith; shallow = omega arith; takes = (is, refl) }) e
  head_of_good t (kind.Character value) ts b rest is known e =
      leaf_good t ts (Character t.line value, ts) b rest (record { fits = refl; tight = omega arith; shallow = omega arith; takes = (is, refl) }) e
  head_of_good t (kind.Text n) ts b rest is known e =
      let more = texts_in_row (suc n) ts in
      leaf_good t ts (Text t.line n more, drop more ts) b rest (record { fits = refl; tight = omega arith; shallow = omega arith; takes = (is, texts_taken (suc n) ts) }) e
  head_of_good t (kind.Word word.Sizeof) ts b rest is known e = sized_good (opens_type names ts) t ts b rest known is refl e
  head_of_good t (kind.Mark mark.OpenParen) ts b rest is known e = opened_good (begins_type names ts) t ts b rest known is refl e
  head_of_good t k ts b rest is known e = fronted_by_good t k (prefix_of k) ts b rest known is refl e

  pub head_good : (ts : List Token) (b : ExpressionTree) (rest : List Token) → K ts → head names r below ts ≡ Some (b, rest) → Good names 0 (suc below) ts b rest
  unfolding head
  head_good [] b rest known e = absurd cc
  head_good (t ∷ ts) b rest known e = head_of_good t t.kind ts b rest refl (spelled.tail t ts known) e
