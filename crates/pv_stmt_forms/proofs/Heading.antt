-- The head of a `for`.
use Rattle.std.proofs.Common.{◌≡◌, ◌≤◌, ℕ, Bool, true, false, List, length, drop, Option, Some, None, option_map, refl, sym, ap, subst, ◌∙◌}
use Rattle.indexmap.specs.IndexSet.{IndexSet}
use Rattle.pv_token.specs.declared.token_table.Token.{Token}
use Rattle.pv_token.specs.declared.token_table.TokenKind.{TokenKind}
use Rattle.pv_tree.specs.declared.nodes.NodeId.{NodeId}
use Rattle.pv_tree.specs.Syntax.{For, ForDeclaration, Tree, OfStatement, OptionalTree}
use Rattle.pv_tree.specs.Spells.{Names, begins_type}
use Rattle.pv_tree.specs.Tables.{Tables, as_declaration, as_statement, optional_at, is_expression, is_declaration, HasOptional, Extends}
use Rattle.pv_tree.specs.TypeNames.{TypeMap, AreTied}
use Rattle.pv_tree.proofs.Kept.{tree_kept, is_kept}
use Rattle.pv_expr_forms.specs.Known.{names_in}
use Rattle.pv_expr_forms.specs.Reader.{is_open, is_close, after}
use Rattle.pv_expr_forms.proofs.Naming.{names_kept}
use Rattle.pv_decl_forms.specs.Pieces.{Piece, is_semicolon}
use Rattle.pv_decl_forms.specs.Answers.{Answers}
use Rattle.pv_decl_forms.specs.Reader.{declaration}
use Rattle.pv_decl_forms.proofs.Constants.{optional_kept}
use Rattle.pv_stmt_forms.specs.declared.forms.First.{First}
use Rattle.pv_stmt_forms.specs.declared.forms.First.TheVariants as first
use Rattle.pv_stmt_forms.specs.declared.forms.ForHead.{ForHead}
use Rattle.pv_stmt_forms.specs.Parts.{PartAnswers, HasFirst, HasHead, for_with, for_by, after_first, IsFirstThere, FirstAnswers, after_head, IsHeadThere, HeadAnswers}
use Rattle.pv_stmt_forms.specs.Statements.{expression_before, only_declaration, for_rest, for_parts, for_loop}
use Rattle.pv_stmt_forms.proofs.Chains.{first_some, first_none, there_of, part_got, part_lost, part_stands}

-- ---- the first part

module _ (names : Names) (depth : ℕ) (ts : List Token) where
  module _ (begins : begins_type names ts ≡ true) (u : Tables) (tokens : List Token) (answer : Option (NodeId × ℕ)) (a : Answers u is_declaration tokens answer (only_declaration (declaration names depth ts))) where
    pub declaration_none : answer ≡ None → FirstAnswers u names depth tokens None ts
    unfolding for_parts
    declaration_none e = record { is = λ read line. rw (begins, first_none u is_declaration tokens answer _ a e) refl; there = tt }

    pub declaration_some : (n : NodeId) (next : ℕ) → answer ≡ Some (n, next) → FirstAnswers u names depth tokens (Some (first.Declaration n, next)) ts
    unfolding for_parts
    declaration_some n next e = record { is = λ read line. rw (begins, first_some u is_declaration tokens answer _ a n next e) refl; there = there_of u is_declaration tokens answer _ a n next e }

  module _ (begins : begins_type names ts ≡ false) (u : Tables) (tokens : List Token) (answer : Option (Option NodeId × ℕ)) (a : PartAnswers u tokens answer (expression_before names depth is_semicolon ts)) where
    pub expression_none : answer ≡ None → FirstAnswers u names depth tokens None ts
    unfolding for_parts
    expression_none e = record { is = λ read line. rw (begins, part_lost u tokens answer _ a e) refl; there = tt }

    pub expression_some : (o : Option NodeId) (next : ℕ) → answer ≡ Some (o, next) → FirstAnswers u names depth tokens (Some (first.Expression o, next)) ts
    unfolding for_parts
    expression_some o next e = record { is = λ read line. rw (begins, part_got u tokens answer _ o next a e) refl; there = part_stands u tokens answer _ o next a e }

-- ---- what is kept as a unit grows

optional_has : (u v : Tables) (kind : Tree → Bool) (o : Option NodeId) → Extends u v → HasOptional u.forest (length u.forest.trees) kind o → HasOptional v.forest (length v.forest.trees) kind o
optional_has u v kind None e h = tt
optional_has u v kind (Some n) e h = is_kept u v kind n e h

first_has : (u v : Tables) (f : First) → Extends u v → HasFirst u.forest (length u.forest.trees) f → HasFirst v.forest (length v.forest.trees) f
first_has u v (first.Declaration d) e h = is_kept u v is_declaration d e h
first_has u v (first.Expression o) e h = optional_has u v is_expression o e h

first_kept : (u v : Tables) (f : First) → Extends u v → HasFirst u.forest (length u.forest.trees) f → (line : ℕ) (c s : OptionalTree) (t : Tree) → for_with v.forest line f c s t ≡ for_with u.forest line f c s t
first_kept u v (first.Declaration d) e h line c s t = ap (λ (x : Tree). OfStatement (ForDeclaration line (as_declaration x) c s (as_statement t))) (tree_kept u v d e h.0)
first_kept u v (first.Expression o) e h line c s t = ap (λ (x : OptionalTree). OfStatement (For line x c s (as_statement t))) (optional_kept u v is_expression o e h)

head_has : (u v : Tables) (h : ForHead) → Extends u v → HasHead u.forest (length u.forest.trees) h → HasHead v.forest (length v.forest.trees) h
head_has u v h e k = record { begins = first_has u v h.first e k.begins; tests = optional_has u v is_expression h.condition e k.tests; steps = optional_has u v is_expression h.step e k.steps }

pub head_kept : (u v : Tables) (h : ForHead) → Extends u v → HasHead u.forest (length u.forest.trees) h → (line : ℕ) (t : Tree) → for_by v.forest line h t ≡ for_by u.forest line h t
head_kept u v h e k line t =
    first_kept u v h.first e k.begins line (optional_at v.forest h.condition) (optional_at v.forest h.step) t
    ∙ ap (λ (c : OptionalTree). for_with u.forest line h.first c (optional_at v.forest h.step) t) (optional_kept u v is_expression h.condition e k.tests)
    ∙ ap (λ (s : OptionalTree). for_with u.forest line h.first (optional_at u.forest h.condition) s t) (optional_kept u v is_expression h.step e k.steps)

map_same : {A B : Type 0} (f g : A → B) (o : Option A) → ((x : A) → f x ≡ g x) → option_map f o ≡ option_map g o
map_same f g None h = refl
map_same f g (Some x) h = ap (λ y. Some y) (h x)

-- ---- the answers of parts in a unit that has grown, under the names at the start

pub part_start : {S : Type 0} (typedefs : IndexSet ℕ S) (types : TypeMap) (u v w : Tables) (tokens : List Token) → AreTied types u tokens → Extends u v → (depth : ℕ) (test : TokenKind → Bool) (ts : List Token) (answer : Option (Option NodeId × ℕ))
    → PartAnswers w tokens answer (expression_before (names_in typedefs types v tokens) depth test ts) → PartAnswers w tokens answer (expression_before (names_in typedefs types u tokens) depth test ts)
part_start typedefs types u v w tokens tied keeps depth test ts answer a = record { is = a.is ∙ ap (λ (n : Names). expression_before n depth test ts) (names_kept typedefs types u v tokens tied keeps); there = a.there }

first_got : (u : Tables) (names : Names) (depth : ℕ) (tokens : List Token) (answer : Option (First × ℕ)) (ts : List Token) (f : First) (next : ℕ) → FirstAnswers u names depth tokens answer ts → answer ≡ Some (f, next)
    → (read : List Token → Piece) (line : ℕ) → for_rest names depth read (for_with u.forest line f) (drop next tokens) ≡ for_parts names depth read line ts
first_got u names depth tokens answer ts f next a e read line = ap (after_first u.forest names depth read line tokens) (sym e) ∙ a.is read line

first_lost : (u : Tables) (names : Names) (depth : ℕ) (tokens : List Token) (answer : Option (First × ℕ)) (ts : List Token) → FirstAnswers u names depth tokens answer ts → answer ≡ None
    → (read : List Token → Piece) (line : ℕ) → None ≡ for_parts names depth read line ts
first_lost u names depth tokens answer ts a e read line = ap (after_first u.forest names depth read line tokens) (sym e) ∙ a.is read line

pub first_there : (u : Tables) (names : Names) (depth : ℕ) (tokens : List Token) (answer : Option (First × ℕ)) (ts : List Token) (f : First) (next : ℕ) → FirstAnswers u names depth tokens answer ts → answer ≡ Some (f, next)
    → HasFirst u.forest (length u.forest.trees) f × (next ≤ length tokens)
first_there u names depth tokens answer ts f next a e = subst (IsFirstThere u tokens) e a.there

-- ---- the whole head

module _ (names : Names) (depth : ℕ) (ts : List Token) (tokens : List Token) where
  pub head_shut : (u : Tables) → after is_open ts ≡ None → HeadAnswers u names depth tokens None ts
  unfolding for_loop
  head_shut u e = record { is = λ read line. rw e refl; there = tt }

  module _ (inside : List Token) (o : after is_open ts ≡ Some inside) (v : Tables) (answer : Option (First × ℕ)) (a : FirstAnswers v names depth tokens answer inside) where
    opened : (x : Piece) (read : List Token → Piece) (line : ℕ) → x ≡ for_parts names depth read line inside → x ≡ for_loop names depth read line ts
    unfolding for_loop
    opened x read line h = rw o h

    pub head_unbegun : (u : Tables) → answer ≡ None → HeadAnswers u names depth tokens None ts
    head_unbegun u e = record { is = λ read line. opened None read line (first_lost v names depth tokens answer inside a e read line); there = tt }

    module _ (f : First) (next : ℕ) (e : answer ≡ Some (f, next)) where
      by_first : (x : Piece) (read : List Token → Piece) (line : ℕ) → x ≡ for_rest names depth read (for_with v.forest line f) (drop next tokens) → x ≡ for_loop names depth read line ts
      by_first x read line h = opened x read line (h ∙ first_got v names depth tokens answer inside f next a e read line)

      pub head_untested : (u : Tables) → expression_before names depth is_semicolon (drop next tokens) ≡ None → HeadAnswers u names depth tokens None ts
      unfolding for_rest
      head_untested u h = record { is = λ read line. by_first None read line (rw h refl); there = tt }

      module _ (w : Tables) (c : Option NodeId) (behind : ℕ) (k : expression_before names depth is_semicolon (drop next tokens) ≡ Some (optional_at w.forest c, drop behind tokens)) where
        pub head_unstepped : (u : Tables) → expression_before names depth is_close (drop behind tokens) ≡ None → HeadAnswers u names depth tokens None ts
        unfolding for_rest
        head_unstepped u h = record { is = λ read line. by_first None read line (rw (k, h) refl); there = tt }

        pub head_so : (x : Tables) → Extends v w → Extends w x → Extends v x → HasOptional w.forest (length w.forest.trees) is_expression c → (s : Option NodeId) (end : ℕ)
            → expression_before names depth is_close (drop behind tokens) ≡ Some (optional_at x.forest s, drop end tokens) → HasOptional x.forest (length x.forest.trees) is_expression s → end ≤ length tokens
            → HeadAnswers x names depth tokens (Some (record { first = f; condition = c; step = s }, end)) ts
        unfolding for_rest
        head_so x grows more all hc s end h hs place =
            let there = first_there v names depth tokens answer inside f next a e in
            record {
              is = λ read line. by_first _ read line
                  (map_same (λ (y : Tree × List Token). let z : Tree × List Token = (for_with x.forest line f (optional_at x.forest c) (optional_at x.forest s) y.0, y.1) in z)
                  (λ (y : Tree × List Token). let z : Tree × List Token = (for_with v.forest line f (optional_at w.forest c) (optional_at x.forest s) y.0, y.1) in z) (read (drop end tokens))
                  (λ y. ap (λ (t : Tree). let z : Tree × List Token = (t, y.1) in z) (first_kept v x f all there.0 line (optional_at x.forest c) (optional_at x.forest s) y.0
                  ∙ ap (λ (o : OptionalTree). for_with v.forest line f o (optional_at x.forest s) y.0) (optional_kept w x is_expression c more hc)))
                  ∙ rw (k, h) refl);
              there = (record { begins = first_has v x f all there.0; tests = optional_has w x is_expression c more hc; steps = hs }, place);
            }

-- ---- a `for` whose head is read

module _ (v : Tables) (names : Names) (depth : ℕ) (tokens : List Token) (answer : Option (ForHead × ℕ)) (ts : List Token) (a : HeadAnswers v names depth tokens answer ts) (read : List Token → Piece) (line : ℕ) where
  pub for_shut : answer ≡ None → None ≡ for_loop names depth read line ts
  for_shut e = ap (after_head v.forest read line tokens) (sym e) ∙ a.is read line

  module _ (h : ForHead) (next : ℕ) (e : answer ≡ Some (h, next)) where
    pub head_there : HasHead v.forest (length v.forest.trees) h × (next ≤ length tokens)
    head_there = subst (IsHeadThere v tokens) e a.there

    by_head : option_map (λ y. let z : Tree × List Token = (for_by v.forest line h y.0, y.1) in z) (read (drop next tokens)) ≡ for_loop names depth read line ts
    by_head = ap (after_head v.forest read line tokens) (sym e) ∙ a.is read line

    pub for_none : read (drop next tokens) ≡ None → None ≡ for_loop names depth read line ts
    for_none k = ap (option_map (λ y. let z : Tree × List Token = (for_by v.forest line h y.0, y.1) in z)) (sym k) ∙ by_head

    pub for_so : (w : Tables) → Extends v w → (x : Tree × List Token) → read (drop next tokens) ≡ Some x → Some (for_by w.forest line h x.0, x.1) ≡ for_loop names depth read line ts
    for_so w grows x k =
        ap (λ (t : Tree). let z : Tree × List Token = (t, x.1) in Some z) (head_kept v w h grows head_there.0 line x.0)
        ∙ ap (option_map (λ y. let z : Tree × List Token = (for_by v.forest line h y.0, y.1) in z)) (sym k) ∙ by_head

    pub for_children : (w : Tables) → Extends v w → HasHead w.forest (length w.forest.trees) h
    for_children w grows = head_has v w h grows head_there.0
