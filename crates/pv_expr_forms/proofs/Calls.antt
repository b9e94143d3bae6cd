-- One more argument of a call: what the loop over them keeps, and what it answers.
use Rattle.std.proofs.Common.{◌≡◌, ◌≤◌, ◌<◌, ℕ, true, false, List, [], ◌∷◌, ◌++◌, All, length, drop, Option, Some, None, option_map, option_and_then, refl, sym, ap, ◌∙◌, nat_eq}
use Rattle.indexmap.specs.IndexSet.{IndexSet, contains}
use Rattle.pv_token.specs.declared.token_table.Token.{Token}
use Rattle.pv_tree.specs.declared.nodes.NodeId.{NodeId}
use Rattle.pv_tree.specs.Syntax.{ExpressionTree, ArgumentTrees, NoArguments, Argument, Call}
use Rattle.pv_tree.specs.Lines.{expression_line}
use Rattle.pv_tree.specs.Tables.{Tables, expression_at, arguments_of, is_expression, Is, Extends}
use Rattle.pv_tree.specs.Spells.{Names}
use Rattle.pv_tree.specs.TypeNames.{TypeMap, AreTied}
use Rattle.pv_tree.proofs.Kept.{extends_then}
use Rattle.pv_expr_forms.specs.Reader.{Read, is_close, is_comma, after, more_arguments, arguments, call_behind, read}
use Rattle.pv_expr_forms.specs.Known.{names_in}
use Rattle.pv_expr_forms.specs.Answers.{Answers}
use Rattle.pv_expr_forms.proofs.Answered.{got, got_none}
use Rattle.pv_expr_forms.proofs.Listing.{expression_kept, arguments_more, all_more, called_arguments}
use Rattle.pv_expr_forms.proofs.Naming.{names_kept}
use Rattle.pv_expr_forms.proofs.Spans.{arguments_next, read_forward}

step_in : {S : Type 0} (typedefs : IndexSet ℕ S) (types : TypeMap) (u : Tables) (tokens : List Token) → AreTied types u tokens → (below : ℕ) (before : ArgumentTrees) (at : ℕ) → at ≤ length tokens
    → arguments (read (names_in typedefs types u tokens) below) before (drop at tokens) ≡ option_and_then (λ x. more_arguments (arguments (read (names_in typedefs types u tokens) below)) (Argument before x.0) x.1) (read (names_in typedefs types u tokens) below 2 (drop at tokens))
unfolding names_in
step_in typedefs types u tokens tied below before at p = arguments_next (contains nat_eq typedefs) types u tokens tied below before at p

forward_in : {S : Type 0} (typedefs : IndexSet ℕ S) (types : TypeMap) (u : Tables) (tokens : List Token) → AreTied types u tokens → (deep level at next : ℕ) (a : ExpressionTree)
    → at ≤ length tokens → next ≤ length tokens → read (names_in typedefs types u tokens) deep level (drop at tokens) ≡ Some (a, drop next tokens) → at < next
unfolding names_in
forward_in typedefs types u tokens tied deep level at next a p q e = read_forward (contains nat_eq typedefs) types u tokens tied deep level at next a p q e

module _ {S : Type 0} (typedefs : IndexSet ℕ S) (types : TypeMap) (u v w : Tables) (tokens : List Token) (at below : ℕ) (callee : NodeId) (ns : List NodeId) (next : ℕ)
    (tied : AreTied types u tokens) (keeps : Extends u v) (nodes : All (λ m. Is v is_expression m) ns) (place : next ≤ length tokens)
    (open_end : after is_close (drop at tokens) ≡ None)
    (same : arguments (read (names_in typedefs types u tokens) below) (arguments_of v.forest ns) (drop next tokens) ≡ arguments (read (names_in typedefs types u tokens) below) NoArguments (drop at tokens))
    (grows : Extends v w) (answer : Option (NodeId × ℕ)) (a : Answers w tokens answer (read (names_in typedefs types v tokens) below 2 (drop next tokens))) where
  abbrev Called : Read
  Called = call_behind (read (names_in typedefs types u tokens) below) (expression_at u.forest callee) (drop at tokens)

  abbrev Rest : Option (ArgumentTrees × List Token)
  Rest = arguments (read (names_in typedefs types u tokens) below) NoArguments (drop at tokens)

  -- the same under the names at the start
  argument : Answers w tokens answer (read (names_in typedefs types u tokens) below 2 (drop next tokens))
  argument = record { is = a.is ∙ ap (λ (n : Names). read n below 2 (drop next tokens)) (names_kept typedefs types u v tokens tied keeps); there = a.there }

  step : (o : Read) → read (names_in typedefs types u tokens) below 2 (drop next tokens) ≡ o
      → Rest ≡ option_and_then (λ x. more_arguments (arguments (read (names_in typedefs types u tokens) below)) (Argument (arguments_of v.forest ns) x.0) x.1) o
  step o e = sym same ∙ step_in typedefs types u tokens tied below (arguments_of v.forest ns) next place
      ∙ ap (option_and_then (λ (x : ExpressionTree × List Token). more_arguments (arguments (read (names_in typedefs types u tokens) below)) (Argument (arguments_of v.forest ns) x.0) x.1)) e

  ends_with : (o : Option (ArgumentTrees × List Token)) → Rest ≡ o → option_map (λ x. (Call (expression_line (expression_at u.forest callee)) (expression_at u.forest callee) x.0, x.1)) o ≡ Called
  ends_with o e = called_arguments (names_in typedefs types u tokens) below (expression_at u.forest callee) (drop at tokens) o open_end e

  -- there is no further argument
  pub call_none : answer ≡ None → Answers w tokens None Called
  call_none e = record { is = ends_with None (step None (sym (got_none w tokens answer _ argument e))); there = tt }

  module _ (n : NodeId) (end : ℕ) (e : answer ≡ Some (n, end)) where
    pub call_there : Is w is_expression n × (end ≤ length tokens)
    call_there = let g = got w tokens answer _ n end argument e in (g.1, g.2)

    pub call_forward : next < end
    call_forward = let g = got w tokens answer _ n end argument e in forward_in typedefs types u tokens tied below 2 next end (expression_at w.forest n) place g.2 (sym g.0)

    pub call_nodes : (items : List NodeId) → items ≡ ns ++ (n ∷ []) → All (λ m. Is w is_expression m) items
    call_nodes items is = rw is (all_more v w ns n grows nodes call_there.0)

    pub call_kept : Extends u w
    call_kept = extends_then u v w keeps grows

    goes : (rest : List Token) → drop end tokens ≡ rest → Rest ≡ more_arguments (arguments (read (names_in typedefs types u tokens) below)) (Argument (arguments_of v.forest ns) (expression_at w.forest n)) rest
    goes rest d = step (Some (expression_at w.forest n, drop end tokens)) (sym (got w tokens answer _ n end argument e).0)
        ∙ ap (more_arguments (arguments (read (names_in typedefs types u tokens) below)) (Argument (arguments_of v.forest ns) (expression_at w.forest n))) d

    -- the tokens end behind it
    pub call_end : drop end tokens ≡ [] → Answers w tokens None Called
    unfolding more_arguments
    call_end d = record { is = ends_with None (goes [] d); there = tt }

    module _ (t : Token) (others : List Token) (d : drop end tokens ≡ t ∷ others) where
      -- neither a comma nor a parenthesis is behind it
      pub call_stop : is_comma t.kind ≡ false → is_close t.kind ≡ false → Answers w tokens None Called
      unfolding more_arguments
      call_stop c k = record { is = ends_with None (goes (t ∷ others) d ∙ rw (c, k) refl); there = tt }

      module _ (items : List NodeId) (is : items ≡ ns ++ (n ∷ [])) where
        more : arguments_of w.forest items ≡ Argument (arguments_of v.forest ns) (expression_at w.forest n)
        more = ap (arguments_of w.forest) is ∙ arguments_more v w ns n grows nodes

        -- a comma is behind it
        pub call_next : is_comma t.kind ≡ true → arguments (read (names_in typedefs types u tokens) below) (arguments_of w.forest items) others ≡ Rest
        unfolding more_arguments
        call_next c = ap (λ (b : ArgumentTrees). arguments (read (names_in typedefs types u tokens) below) b others) more ∙ sym (goes (t ∷ others) d ∙ rw c refl)

        -- the closing parenthesis is behind it
        pub call_last : is_comma t.kind ≡ false → is_close t.kind ≡ true → Is u is_expression callee
            → Some (Call (expression_line (expression_at w.forest callee)) (expression_at w.forest callee) (arguments_of w.forest items), others) ≡ Called
        unfolding more_arguments
        call_last c k h =
            let old = expression_kept u w callee call_kept h in
            ap (λ (x : ExpressionTree). Some (Call (expression_line x) x (arguments_of w.forest items), others)) old
            ∙ ap (λ (b : ArgumentTrees). Some (Call (expression_line (expression_at u.forest callee)) (expression_at u.forest callee) b, others)) more
            ∙ ends_with (Some (Argument (arguments_of v.forest ns) (expression_at w.forest n), others)) (goes (t ∷ others) d ∙ rw (c, k) refl)
