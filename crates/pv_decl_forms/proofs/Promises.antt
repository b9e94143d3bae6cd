-- What the readers of declarations and of type names promise, from what reading gives, and that what keeps these promises is what reading gives.
use Rattle.std.proofs.Common.{◌≡◌, ◌≤◌, ℕ, Bool, List, length, drop, true, Option, Some, None, refl, sym, ap, subst, ◌∙◌, arith, inl, inr}
use Rattle.std.specs.Prelude.{IfSome}
use Rattle.std.proofs.lemmas.List.{length-drop}
use Rattle.pv_token.specs.declared.token_table.Token.{Token}
use Rattle.pv_tree.specs.declared.nodes.NodeId.{NodeId}
use Rattle.pv_tree.specs.Syntax.{DeclarationTree, Tree, OfExpression, OfStatement, OfDeclaration, OfDeclarator, OfSpecifier, OfInitializer}
use Rattle.pv_tree.specs.Tables.{Tables, tree_at, as_declaration, declaration_at, is_declaration, Is}
use Rattle.pv_tree.specs.Spelling.{declaration_tokens}
use Rattle.pv_tree.specs.Spells.{Names}
use Rattle.pv_tree.specs.TypeNames.{TypeMap, names_of, AreTied}
use Rattle.pv_expr_forms.proofs.Spans.{IsEnd, names_spelled, at_end, takes_spelled, spelled_taken, ends_at}
use Rattle.pv_decl_forms.specs.Pieces.{Piece}
use Rattle.pv_decl_forms.specs.Grammar.{SpellsDeclaration, SpellsTypeName}
use Rattle.pv_decl_forms.specs.Reader.{declaration, type_name}
use Rattle.pv_decl_forms.specs.Answers.{Answers}
use Rattle.pv_decl_forms.proofs.Externals.{declaration_good}
use Rattle.pv_decl_forms.proofs.Declarings.{declaration_exact}
use Rattle.pv_decl_forms.proofs.Naming.{type_name_good, type_name_longest}
use Rattle.pv_decl_forms.proofs.Longest.{Within, Reaches, reached}

-- ---- of any form, whose trees are reached where they are spelled

ends_later : (tokens : List Token) (a b : Tree) (next end : ℕ) → next ≤ length tokens → end ≤ length tokens
    → Within (a, drop next tokens) (b, drop end tokens) → end ≤ next
ends_later tokens a b next end inside to (inl h) = omega (arith, length-drop next tokens, length-drop end tokens)
ends_later tokens a b next end inside to (inr e) =
    let same : length (drop next tokens) ≡ length (drop end tokens) = ap (λ (y : Tree × List Token). length y.1) e in
    omega (arith, length-drop next tokens, length-drop end tokens)

same_tree : (a b : Tree) (ts : List Token) → Within (a, ts) (b, ts) → b ≡ a
same_tree a b ts (inl h) = absurd (omega arith)
same_tree a b ts (inr e) = sym (ap (λ (y : Tree × List Token). y.0) e)

module _ (tokens : List Token) (at : ℕ) (reading : Piece) (Spelled : ℕ → DeclarationTree → Type 0)
    (sound : (t : Tree) (next : ℕ) → next ≤ length tokens → reading ≡ Some (t, drop next tokens) → (at ≤ next) × (d : DeclarationTree) × (OfDeclaration d ≡ t) × Spelled next d)
    (reach : (d : DeclarationTree) (end : ℕ) → at ≤ end → Spelled end d → Reaches reading (OfDeclaration d, drop end tokens)) (v : Tables) where
  is_found : (x : NodeId × ℕ) → Answers v is_declaration tokens (Some x) reading
      → Is v is_declaration x.0 × (at ≤ x.1) × (x.1 ≤ length tokens) × Spelled x.1 (declaration_at v.forest x.0)
  is_found x k =
      let s = sound (tree_at v.forest x.0) x.1 k.there.1 (sym k.is) in
      (k.there.0, s.0, k.there.1, subst (λ (d : DeclarationTree). Spelled x.1 d) (ap as_declaration s.2) s.3)

  pub found_by : (r : Option (NodeId × ℕ)) → Answers v is_declaration tokens r reading
      → IfSome r (λ x. Is v is_declaration x.0 × (at ≤ x.1) × (x.1 ≤ length tokens) × Spelled x.1 (declaration_at v.forest x.0))
  found_by None k = tt
  found_by (Some x) k = is_found x k

  -- the answer is what was reached
  answer_within : (x : NodeId × ℕ) (d : DeclarationTree) (end : ℕ) → Answers v is_declaration tokens (Some x) reading → at ≤ end → Spelled end d
      → Within (tree_at v.forest x.0, drop x.1 tokens) (OfDeclaration d, drop end tokens)
  answer_within x d end k from s =
      let o = reach d end from s in
      let one : Some (tree_at v.forest x.0, drop x.1 tokens) ≡ Some o.found = k.is ∙ o.is in
      let same : ◌≡◌ {A = Tree × List Token} (tree_at v.forest x.0, drop x.1 tokens) o.found = cc in
      subst (λ (y : Tree × List Token). Within y (OfDeclaration d, drop end tokens)) (sym same) o.within

  pub longest_by : (r : Option (NodeId × ℕ)) → Answers v is_declaration tokens r reading
      → IfSome r (λ x. (d : DeclarationTree) (end : ℕ) → at ≤ end → end ≤ length tokens → Spelled end d → end ≤ x.1)
  longest_by None k = tt
  longest_by (Some x) k = λ d end from to s. ends_later tokens (tree_at v.forest x.0) (OfDeclaration d) x.1 end k.there.1 to (answer_within x d end k from s)

  pub only_by : (r : Option (NodeId × ℕ)) → Answers v is_declaration tokens r reading
      → IfSome r (λ x. (d : DeclarationTree) → Spelled x.1 d → d ≡ declaration_at v.forest x.0)
  only_by None k = tt
  only_by (Some x) k = λ d s. ap as_declaration (same_tree (tree_at v.forest x.0) (OfDeclaration d) (drop x.1 tokens) (answer_within x d x.1 k (is_found x k).1 s))

  pub none_by : (r : Option (NodeId × ℕ)) → Answers v is_declaration tokens r reading → r ≡ None → (d : DeclarationTree) (end : ℕ) → at ≤ end
      → end ≤ length tokens → Spelled end d → ⊥
  none_by None k e d end from to s = let o = reach d end from s in let p : ◌≡◌ {A = Piece} None (Some o.found) = k.is ∙ o.is in absurd cc
  none_by (Some x) k e d end from to s = absurd cc

-- ---- what is promised is what reading gives

is_node : (t : Tree) → is_declaration t ≡ true → t ≡ OfDeclaration (as_declaration t)
is_node (OfExpression a) e = absurd cc
is_node (OfStatement a) e = absurd cc
is_node (OfDeclaration d) e = refl
is_node (OfDeclarator d) e = absurd cc
is_node (OfSpecifier d) e = absurd cc
is_node (OfInitializer d) e = absurd cc

-- what is within the longest that is spelled, and ends no later, is it
is_longest : (tokens : List Token) (x y : Tree × List Token) (end next : ℕ) → x.1 ≡ drop end tokens → y.1 ≡ drop next tokens → end ≤ length tokens → next ≤ length tokens → end ≤ next → Within x y → x ≡ y
is_longest tokens x y end next e f to inside le (inl h) = absurd (omega (arith, h, le, to, inside, ap length e, ap length f, length-drop end tokens, length-drop next tokens))
is_longest tokens x y end next e f to inside le (inr same) = same

module _ (tokens : List Token) (at : ℕ) (reading : Piece) (Spelled : ℕ → DeclarationTree → Type 0)
    (sound : (t : Tree) (next : ℕ) → next ≤ length tokens → reading ≡ Some (t, drop next tokens) → (at ≤ next) × (d : DeclarationTree) × (OfDeclaration d ≡ t) × Spelled next d)
    (reach : (d : DeclarationTree) (end : ℕ) → at ≤ end → Spelled end d → Reaches reading (OfDeclaration d, drop end tokens))
    (ends : (t : Tree) (rest : List Token) → reading ≡ Some (t, rest) → (next : ℕ) × (next ≤ length tokens) × (rest ≡ drop next tokens)) (v : Tables) where
  spelled_by : (t : Tree) (rest : List Token) → reading ≡ Some (t, rest) → (next : ℕ) × (at ≤ next) × (next ≤ length tokens) × (rest ≡ drop next tokens) × (d : DeclarationTree) × Spelled next d
  spelled_by t rest e =
      let p = ends t rest e in
      let s = sound t p.0 p.1 (e ∙ ap (λ (ts : List Token). let y : Tree × List Token = (t, ts) in Some y) p.2) in
      (p.0, s.0, p.1, p.2, s.1, s.3)

  none_from : (o : Piece) → reading ≡ o → ((d : DeclarationTree) (end : ℕ) → at ≤ end → end ≤ length tokens → Spelled end d → ⊥) → Answers v is_declaration tokens None reading
  none_from None e h = record { is = sym e; there = tt }
  none_from (Some x) e h = let s = spelled_by x.0 x.1 e in absurd (h s.4 s.0 s.1 s.2 s.5)

  longest_from : (x : NodeId × ℕ) → Is v is_declaration x.0 × (at ≤ x.1) × (x.1 ≤ length tokens) × Spelled x.1 (declaration_at v.forest x.0)
      → ((d : DeclarationTree) (end : ℕ) → at ≤ end → end ≤ length tokens → Spelled end d → end ≤ x.1) → Answers v is_declaration tokens (Some x) reading
  longest_from x f far =
      let o = reach (declaration_at v.forest x.0) x.1 f.1 f.3 in
      let s = spelled_by o.found.0 o.found.1 o.is in
      let same = is_longest tokens o.found (OfDeclaration (declaration_at v.forest x.0), drop x.1 tokens) s.0 x.1 s.3 refl s.2 f.2 (far s.4 s.0 s.1 s.2 s.5) o.within in
      record {
        is = ap (λ (t : Tree). let y : Tree × List Token = (t, drop x.1 tokens) in Some y) (is_node (tree_at v.forest x.0) f.0.1) ∙ sym (o.is ∙ ap (λ (y : Tree × List Token). Some y) same);
        there = (f.0, f.2);
      }

  pub read_by : (r : Option (NodeId × ℕ))
      → IfSome r (λ x. Is v is_declaration x.0 × (at ≤ x.1) × (x.1 ≤ length tokens) × Spelled x.1 (declaration_at v.forest x.0))
      → IfSome r (λ x. (d : DeclarationTree) (end : ℕ) → at ≤ end → end ≤ length tokens → Spelled end d → end ≤ x.1)
      → (r ≡ None → (d : DeclarationTree) (end : ℕ) → at ≤ end → end ≤ length tokens → Spelled end d → ⊥) → Answers v is_declaration tokens r reading
  read_by None f l n = none_from reading refl (n refl)
  read_by (Some x) f l n = longest_from x f l

-- ---- declarations and heads of functions, and type names

module _ (is_type : ℕ → Bool) (types : TypeMap) (u v : Tables) (tokens : List Token) (at deep : ℕ) (tied : AreTied types u tokens) (place : at ≤ length tokens) where
  abbrev names : Names
  names = names_of is_type types u.forest tokens

  abbrev Declared : ℕ → DeclarationTree → Type 0
  Declared end d = SpellsDeclaration (names_of is_type types u.forest tokens) deep tokens at end d

  abbrev Declaring : Piece
  Declaring = declaration (names_of is_type types u.forest tokens) deep (drop at tokens)

  declared_sound : (t : Tree) (next : ℕ) → next ≤ length tokens → Declaring ≡ Some (t, drop next tokens)
      → (at ≤ next) × (d : DeclarationTree) × (OfDeclaration d ≡ t) × Declared next d
  declared_sound t next to e =
      let g = declaration_good names (IsEnd tokens) (names_spelled is_type types u tokens tied) deep (drop at tokens) t (drop next tokens) (at_end tokens at place) e in
      let run = spelled_taken (declaration_tokens g.tree) tokens at next place to g.takes in
      (run.0, g.tree, g.is, record { stands = g.stands; fits = g.fits; shallow = g.shallow; is = run.1 })

  declared_reach : (d : DeclarationTree) (end : ℕ) → at ≤ end → Declared end d → Reaches Declaring (OfDeclaration d, drop end tokens)
  declared_reach d end from s =
      reached Declaring (OfDeclaration d) (drop end tokens)
      (declaration_exact names (IsEnd tokens) (names_spelled is_type types u tokens tied) deep d (drop at tokens) (drop end tokens) (at_end tokens at place) s.stands s.fits s.shallow
      (takes_spelled (declaration_tokens d) tokens at end from s.is))

  pub declaration_found : (r : Option (NodeId × ℕ)) → Answers v is_declaration tokens r Declaring
      → IfSome r (λ x. Is v is_declaration x.0 × (at ≤ x.1) × (x.1 ≤ length tokens) × SpellsDeclaration (names_of is_type types u.forest tokens) deep tokens at x.1 (declaration_at v.forest x.0))
  declaration_found r k = found_by tokens at Declaring Declared declared_sound declared_reach v r k

  pub declaration_longest : (r : Option (NodeId × ℕ)) → Answers v is_declaration tokens r Declaring
      → IfSome r (λ x. (d : DeclarationTree) (end : ℕ) → at ≤ end → end ≤ length tokens → SpellsDeclaration (names_of is_type types u.forest tokens) deep tokens at end d → end ≤ x.1)
  declaration_longest r k = longest_by tokens at Declaring Declared declared_sound declared_reach v r k

  pub declaration_only : (r : Option (NodeId × ℕ)) → Answers v is_declaration tokens r Declaring
      → IfSome r (λ x. (d : DeclarationTree) → SpellsDeclaration (names_of is_type types u.forest tokens) deep tokens at x.1 d → d ≡ declaration_at v.forest x.0)
  declaration_only r k = only_by tokens at Declaring Declared declared_sound declared_reach v r k

  pub declaration_none : (r : Option (NodeId × ℕ)) → Answers v is_declaration tokens r Declaring → r ≡ None → (d : DeclarationTree) (end : ℕ)
      → at ≤ end → end ≤ length tokens
      → SpellsDeclaration (names_of is_type types u.forest tokens) deep tokens at end d → ⊥
  declaration_none r k e d end from to s = none_by tokens at Declaring Declared declared_sound declared_reach v r k e d end from to s

  declared_ends : (t : Tree) (rest : List Token) → Declaring ≡ Some (t, rest) → (next : ℕ) × (next ≤ length tokens) × (rest ≡ drop next tokens)
  declared_ends t rest e =
      let g = declaration_good names (IsEnd tokens) (names_spelled is_type types u tokens tied) deep (drop at tokens) t rest (at_end tokens at place) e in
      ends_at (declaration_tokens g.tree) tokens at rest place g.takes

  pub declaration_read : (r : Option (NodeId × ℕ))
      → IfSome r (λ x. Is v is_declaration x.0 × (at ≤ x.1) × (x.1 ≤ length tokens) × SpellsDeclaration (names_of is_type types u.forest tokens) deep tokens at x.1 (declaration_at v.forest x.0))
      → IfSome r (λ x. (d : DeclarationTree) (end : ℕ) → at ≤ end → end ≤ length tokens → SpellsDeclaration (names_of is_type types u.forest tokens) deep tokens at end d → end ≤ x.1)
      → (r ≡ None → (d : DeclarationTree) (end : ℕ) → at ≤ end → end ≤ length tokens → SpellsDeclaration (names_of is_type types u.forest tokens) deep tokens at end d → ⊥)
      → Answers v is_declaration tokens r Declaring
  declaration_read r f l n = read_by tokens at Declaring Declared declared_sound declared_reach declared_ends v r f l n

  abbrev Named : ℕ → DeclarationTree → Type 0
  Named end d = SpellsTypeName (names_of is_type types u.forest tokens) deep tokens at end d

  abbrev Naming : Piece
  Naming = type_name (names_of is_type types u.forest tokens) deep (drop at tokens)

  named_sound : (t : Tree) (next : ℕ) → next ≤ length tokens → Naming ≡ Some (t, drop next tokens)
      → (at ≤ next) × (d : DeclarationTree) × (OfDeclaration d ≡ t) × Named next d
  named_sound t next to e =
      let g = type_name_good names (IsEnd tokens) (names_spelled is_type types u tokens tied) deep (drop at tokens) t (drop next tokens) (at_end tokens at place) e in
      let run = spelled_taken (declaration_tokens g.tree) tokens at next place to g.takes in
      (run.0, g.tree, g.is, record { stands = g.stands; fits = g.fits; shallow = g.shallow; is = run.1 })

  named_reach : (d : DeclarationTree) (end : ℕ) → at ≤ end → Named end d → Reaches Naming (OfDeclaration d, drop end tokens)
  named_reach d end from s =
      type_name_longest names (IsEnd tokens) (names_spelled is_type types u tokens tied) deep d (drop at tokens) (drop end tokens) (at_end tokens at place) s.stands s.fits s.shallow
      (takes_spelled (declaration_tokens d) tokens at end from s.is)

  pub type_name_found : (r : Option (NodeId × ℕ)) → Answers v is_declaration tokens r Naming
      → IfSome r (λ x. Is v is_declaration x.0 × (at ≤ x.1) × (x.1 ≤ length tokens) × SpellsTypeName (names_of is_type types u.forest tokens) deep tokens at x.1 (declaration_at v.forest x.0))
  type_name_found r k = found_by tokens at Naming Named named_sound named_reach v r k

  pub type_name_most : (r : Option (NodeId × ℕ)) → Answers v is_declaration tokens r Naming
      → IfSome r (λ x. (d : DeclarationTree) (end : ℕ) → at ≤ end → end ≤ length tokens → SpellsTypeName (names_of is_type types u.forest tokens) deep tokens at end d → end ≤ x.1)
  type_name_most r k = longest_by tokens at Naming Named named_sound named_reach v r k

  pub type_name_only : (r : Option (NodeId × ℕ)) → Answers v is_declaration tokens r Naming
      → IfSome r (λ x. (d : DeclarationTree) → SpellsTypeName (names_of is_type types u.forest tokens) deep tokens at x.1 d → d ≡ declaration_at v.forest x.0)
  type_name_only r k = only_by tokens at Naming Named named_sound named_reach v r k

  pub type_name_none : (r : Option (NodeId × ℕ)) → Answers v is_declaration tokens r Naming → r ≡ None → (d : DeclarationTree) (end : ℕ) → at ≤ end
      → end ≤ length tokens
      → SpellsTypeName (names_of is_type types u.forest tokens) deep tokens at end d → ⊥
  type_name_none r k e d end from to s = none_by tokens at Naming Named named_sound named_reach v r k e d end from to s

  named_ends : (t : Tree) (rest : List Token) → Naming ≡ Some (t, rest) → (next : ℕ) × (next ≤ length tokens) × (rest ≡ drop next tokens)
  named_ends t rest e =
      let g = type_name_good names (IsEnd tokens) (names_spelled is_type types u tokens tied) deep (drop at tokens) t rest (at_end tokens at place) e in
      ends_at (declaration_tokens g.tree) tokens at rest place g.takes

  pub type_name_read : (r : Option (NodeId × ℕ))
      → IfSome r (λ x. Is v is_declaration x.0 × (at ≤ x.1) × (x.1 ≤ length tokens) × SpellsTypeName (names_of is_type types u.forest tokens) deep tokens at x.1 (declaration_at v.forest x.0))
      → IfSome r (λ x. (d : DeclarationTree) (end : ℕ) → at ≤ end → end ≤ length tokens → SpellsTypeName (names_of is_type types u.forest tokens) deep tokens at end d → end ≤ x.1)
      → (r ≡ None → (d : DeclarationTree) (end : ℕ) → at ≤ end → end ≤ length tokens → SpellsTypeName (names_of is_type types u.forest tokens) deep tokens at end d → ⊥)
      → Answers v is_declaration tokens r Naming
  type_name_read r f l n = read_by tokens at Naming Named named_sound named_reach named_ends v r f l n
