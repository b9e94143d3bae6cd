-- What `expression` promises, from what reading gives, and that what keeps these promises is what reading gives.
use Rattle.std.proofs.Common.{◌≡◌, ◌≤◌, ℕ, Bool, List, length, drop, Option, Some, None, refl, sym, ap, subst, ◌∙◌, arith, inl, inr}
use Rattle.std.specs.Prelude.{IfSome}
use Rattle.std.proofs.lemmas.List.{length-drop}
use Rattle.pv_token.specs.declared.token_table.Token.{Token}
use Rattle.pv_tree.specs.declared.nodes.NodeId.{NodeId}
use Rattle.pv_tree.specs.Syntax.{ExpressionTree}
use Rattle.pv_tree.specs.Tables.{Tables, expression_at, is_expression, Is}
use Rattle.pv_tree.specs.Spelling.{expression_tokens}
use Rattle.pv_tree.specs.Spells.{Spells}
use Rattle.pv_tree.specs.TypeNames.{TypeMap, names_of, AreTied}
use Rattle.pv_expr_forms.specs.Reader.{Read, read}
use Rattle.pv_expr_forms.specs.Answers.{Answers}
use Rattle.pv_expr_forms.proofs.Runs.{Takes}
use Rattle.pv_expr_forms.proofs.Steps.{some_is}
use Rattle.pv_expr_forms.proofs.Sound.{read_sound}
use Rattle.pv_expr_forms.proofs.Longest.{Within, Reaches, longest}
use Rattle.pv_expr_forms.proofs.Spans.{IsEnd, names_spelled, at_end, takes_spelled, spelled_taken, ends_at}

module _ (is_type : ℕ → Bool) (types : TypeMap) (u v : Tables) (tokens : List Token) (at level deep : ℕ) (tied : AreTied types u tokens) (place : at ≤ length tokens) where
  abbrev Reading : Read
  Reading = read (names_of is_type types u.forest tokens) deep level (drop at tokens)

  abbrev Spelled : ℕ → ExpressionTree → Type 0
  Spelled end a = Spells (names_of is_type types u.forest tokens) level deep tokens at end a

  is_found : (x : NodeId × ℕ) → Answers v tokens (Some x) Reading → Is v is_expression x.0 × (at ≤ x.1) × (x.1 ≤ length tokens) × Spelled x.1 (expression_at v.forest x.0)
  is_found x a =
      let names = names_of is_type types u.forest tokens in
      let e = expression_at v.forest x.0 in
      let g = (read_sound names (IsEnd tokens) (names_spelled is_type types u tokens tied) deep).good level (drop at tokens) e (drop x.1 tokens) (at_end tokens at place) (sym a.is) in
      let run = spelled_taken (expression_tokens e) tokens at x.1 place a.there.1 g.takes in
      (a.there.0, run.0, a.there.1, record { fits = g.fits; tight = g.tight; shallow = g.shallow; is = run.1 })

  pub expression_found : (r : Option (NodeId × ℕ)) → Answers v tokens r Reading
      → IfSome r (λ x. Is v is_expression x.0 × (at ≤ x.1) × (x.1 ≤ length tokens) × Spells (names_of is_type types u.forest tokens) level deep tokens at x.1 (expression_at v.forest x.0))
  expression_found None a = tt
  expression_found (Some x) a = is_found x a

  reached : (a : ExpressionTree) (end : ℕ) → at ≤ end → Spelled end a → Reaches Reading (a, drop end tokens)
  reached a end from s =
      let names = names_of is_type types u.forest tokens in
      longest names (IsEnd tokens) (names_spelled is_type types u tokens tied) a (drop at tokens) s.fits (drop end tokens) (at_end tokens at place) (takes_spelled (expression_tokens a) tokens at end from s.is) deep level s.tight s.shallow

  -- the answer is what was reached
  answer_within : (x : NodeId × ℕ) (a : ExpressionTree) (end : ℕ) → Answers v tokens (Some x) Reading → at ≤ end → Spelled end a
      → Within (expression_at v.forest x.0, drop x.1 tokens) (a, drop end tokens)
  answer_within x a end k from s =
      let o = reached a end from s in
      let same : ◌≡◌ {A = ExpressionTree × List Token} (expression_at v.forest x.0, drop x.1 tokens) o.found = some_is _ _ (k.is ∙ o.is) in
      subst (λ (y : ExpressionTree × List Token). Within y (a, drop end tokens)) (sym same) o.within

  ends_later : (a b : ExpressionTree) (next end : ℕ) → next ≤ length tokens → end ≤ length tokens → Within (a, drop next tokens) (b, drop end tokens) → end ≤ next
  ends_later a b next end inside to (inl h) = omega (arith, length-drop next tokens, length-drop end tokens)
  ends_later a b next end inside to (inr e) =
      let same : length (drop next tokens) ≡ length (drop end tokens) = ap (λ (y : ExpressionTree × List Token). length y.1) e in
      omega (arith, length-drop next tokens, length-drop end tokens)

  pub expression_longest : (r : Option (NodeId × ℕ)) → Answers v tokens r Reading
      → IfSome r (λ x. (a : ExpressionTree) (end : ℕ) → at ≤ end → end ≤ length tokens → Spells (names_of is_type types u.forest tokens) level deep tokens at end a → end ≤ x.1)
  expression_longest None k = tt
  expression_longest (Some x) k = λ a end from to s. ends_later (expression_at v.forest x.0) a x.1 end k.there.1 to (answer_within x a end k from s)

  same_tree : (a b : ExpressionTree) (ts : List Token) → Within (a, ts) (b, ts) → b ≡ a
  same_tree a b ts (inl h) = absurd (omega arith)
  same_tree a b ts (inr e) = sym (ap (λ (y : ExpressionTree × List Token). y.0) e)

  pub expression_only : (r : Option (NodeId × ℕ)) → Answers v tokens r Reading
      → IfSome r (λ x. (a : ExpressionTree) → Spells (names_of is_type types u.forest tokens) level deep tokens at x.1 a → a ≡ expression_at v.forest x.0)
  expression_only None k = tt
  expression_only (Some x) k = λ a s. same_tree (expression_at v.forest x.0) a (drop x.1 tokens) (answer_within x a x.1 k (is_found x k).1 s)

  pub expression_none : (r : Option (NodeId × ℕ)) → Answers v tokens r Reading → r ≡ None → (a : ExpressionTree) (end : ℕ) → at ≤ end → end ≤ length tokens
      → Spells (names_of is_type types u.forest tokens) level deep tokens at end a → ⊥
  expression_none None k e a end from to s = let o = reached a end from s in let p : ◌≡◌ {A = Read} None (Some o.found) = k.is ∙ o.is in absurd cc
  expression_none (Some x) k e a end from to s = absurd cc

  -- what reading gives spells the tokens up to a place
  read_spelled : (a : ExpressionTree) (rest : List Token) → Reading ≡ Some (a, rest)
      → (end : ℕ) × (at ≤ end) × (end ≤ length tokens) × (rest ≡ drop end tokens) × Spelled end a
  read_spelled a rest e =
      let names = names_of is_type types u.forest tokens in
      let ks = expression_tokens a in
      let g = (read_sound names (IsEnd tokens) (names_spelled is_type types u tokens tied) deep).good level (drop at tokens) a rest (at_end tokens at place) e in
      let p = ends_at ks tokens at rest place g.takes in
      let run = spelled_taken ks tokens at p.0 place p.1 (subst (λ (x : List Token). Takes ks (drop at tokens) x) p.2 g.takes) in
      (p.0, run.0, p.1, p.2, record { fits = g.fits; tight = g.tight; shallow = g.shallow; is = run.1 })

  none_by : (o : Read) → Reading ≡ o → ((a : ExpressionTree) (end : ℕ) → at ≤ end → end ≤ length tokens → Spelled end a → ⊥) → Answers v tokens None Reading
  none_by None e h = record { is = sym e; there = tt }
  none_by (Some x) e h = let s = read_spelled x.0 x.1 e in absurd (h x.0 s.0 s.1 s.2 s.4)

  -- where nothing is spelled, reading gives nothing
  pub none_read : ((a : ExpressionTree) (end : ℕ) → at ≤ end → end ≤ length tokens → Spells (names_of is_type types u.forest tokens) level deep tokens at end a → ⊥) → Answers v tokens None Reading
  none_read = none_by Reading refl

  -- what is within the longest that is spelled, and ends no later, is it
  is_longest : (x y : ExpressionTree × List Token) (end next : ℕ) → x.1 ≡ drop end tokens → y.1 ≡ drop next tokens → end ≤ next → Within x y → x ≡ y
  is_longest x y end next e f le (inl h) = absurd (omega (arith, h, le, ap length e, ap length f, length-drop end tokens, length-drop next tokens))
  is_longest x y end next e f le (inr same) = same

  -- the longest that is spelled is what reading gives
  pub longest_read : (x : NodeId × ℕ) → Is v is_expression x.0 × (at ≤ x.1) × (x.1 ≤ length tokens) × Spells (names_of is_type types u.forest tokens) level deep tokens at x.1 (expression_at v.forest x.0)
      → ((a : ExpressionTree) (end : ℕ) → at ≤ end → end ≤ length tokens → Spells (names_of is_type types u.forest tokens) level deep tokens at end a → end ≤ x.1)
      → Answers v tokens (Some x) Reading
  longest_read x f far =
      let o = reached (expression_at v.forest x.0) x.1 f.1 f.3 in
      let s = read_spelled o.found.0 o.found.1 o.is in
      let e = is_longest o.found (expression_at v.forest x.0, drop x.1 tokens) s.0 x.1 s.3 refl (far o.found.0 s.0 s.1 s.2 s.4) o.within in
      record { is = sym (o.is ∙ ap (λ (y : ExpressionTree × List Token). Some y) e); there = (f.0, f.2) }
