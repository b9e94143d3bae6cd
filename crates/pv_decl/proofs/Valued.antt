-- What stands behind a `=`, if both are read.
use Rattle.std.proofs.Common.{◌≡◌, ◌≤◌, ◌∙◌, ℕ, Bool, List, length, drop, Option, Some, None, option_and_then, sym, ap}
use Rattle.pv_token.specs.declared.token_table.Token.{Token}
use Rattle.pv_tree.specs.declared.nodes.NodeId.{NodeId}
use Rattle.pv_tree.specs.Syntax.{Tree}
use Rattle.pv_tree.specs.Tables.{Tables}
use Rattle.pv_expr_forms.specs.Reader.{after}
use Rattle.pv_decl_forms.specs.Answers.{Answers}
use Rattle.pv_decl_forms.specs.Pieces.{Piece, is_equals, part_if_any, value}
use Rattle.pv_decl_forms.specs.Rows.{MayBeAnswered}
use Rattle.pv_decl_forms.proofs.Answered.{got, got_none}

module _ (u : Tables) (kind : Tree → Bool) (tokens : List Token) (read : List Token → Piece) (at : ℕ) where
  abbrev from : Option (List Token) → Piece
  from rest = option_and_then read rest

  pub no_equals : at ≤ length tokens → after is_equals (drop at tokens) ≡ None → MayBeAnswered u kind tokens None at (value read (drop at tokens))
  unfolding value
  no_equals place e = record { is = sym (ap (λ (rest : Option (List Token)). part_if_any (drop at tokens) (from rest)) e); there = tt; place = place }

  module _ (rest : List Token) (e : after is_equals (drop at tokens) ≡ Some rest) (answer : Option (NodeId × ℕ)) (a : Answers u kind tokens answer (read rest)) where
    pub no_value : at ≤ length tokens → answer ≡ None → MayBeAnswered u kind tokens None at (value read (drop at tokens))
    unfolding value
    no_value place n = record {
      is = ap (part_if_any (drop at tokens)) (got_none u kind tokens answer _ a n) ∙ sym (ap (λ (o : Option (List Token)). part_if_any (drop at tokens) (from o)) e);
      there = tt;
      place = place;
    }

    pub one_value : (n : NodeId) (end : ℕ) → answer ≡ Some (n, end) → MayBeAnswered u kind tokens (Some n) end (value read (drop at tokens))
    unfolding value
    one_value n end s =
        let g = got u kind tokens answer _ n end a s in
        record {
          is = ap (part_if_any (drop at tokens)) g.0 ∙ sym (ap (λ (o : Option (List Token)). part_if_any (drop at tokens) (from o)) e);
          there = g.1;
          place = g.2;
        }
