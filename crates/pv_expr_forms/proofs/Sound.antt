-- What is read is spelled so.
use Rattle.std.proofs.Common.{ℕ, zero, suc, cond, List, Some, None, arith, leb}
use Rattle.std.proofs.lemmas.Bool.{leb-true}
use Rattle.pv_token.specs.declared.token_table.Token.{Token}
use Rattle.pv_tree.specs.Syntax.{ExpressionTree}
use Rattle.pv_tree.specs.Levels.{rank}
use Rattle.pv_tree.specs.Spelling.{expression_tokens}
use Rattle.pv_tree.specs.Spells.{Names}
use Rattle.pv_expr_forms.specs.Reader.{Reads, head, longest_tree, deeper, read}
use Rattle.pv_expr_forms.proofs.Runs.{takes_length, takes_known}
use Rattle.pv_expr_forms.proofs.Steps.{guarded, followed, some_is, Shortens}
use Rattle.pv_expr_forms.proofs.Trees.{some_tokens}
use Rattle.pv_expr_forms.proofs.Heads.{IsSpelled, IsSound, good_at, head_good}
use Rattle.pv_expr_forms.proofs.Growth.{grown_good}

deeper_good : (names : Names) (K : List Token → Type 0) → IsSpelled names K → (below : ℕ) (r : Reads) → IsSound names K below r
    → IsSound names K (suc below) (deeper names r below)
unfolding deeper
deeper_good names K spelled below r s = record {
  good = λ level ts a rest known e.
      let f = followed (λ (x : ExpressionTree × List Token). cond (leb level (rank x.0)) (Some (longest_tree names r level below x.0 x.1)) None) (head names r below ts) (a, rest) e in
      let x = longest_tree names r level below f.0.0 f.0.1 in
      let g = guarded (leb level (rank f.0.0)) (Some x) (a, rest) f.2 in
      let h = head_good names K spelled below r s ts f.0.0 f.0.1 known f.1 in
      let b = grown_good names K spelled below r s level ts known f.0.0 f.0.1 h.fits (leb-true _ _ g.0) h.shallow h.takes in
      good_at names level (suc below) ts x a rest (some_is x (a, rest) g.1) (record { fits = b.fits; tight = b.tight; shallow = b.shallow; takes = b.takes });
}

pub read_sound : (names : Names) (K : List Token → Type 0) → IsSpelled names K → (deep : ℕ) → IsSound names K deep (read names deep)
unfolding read
read_sound names K spelled zero = record { good = λ level ts a rest known e. absurd cc }
read_sound names K spelled (suc below) = deeper_good names K spelled below (read names below) (read_sound names K spelled below)

-- what is read takes a token
pub read_shortens : (names : Names) (K : List Token → Type 0) → IsSpelled names K → (deep : ℕ) → Shortens K (read names deep)
read_shortens names K spelled deep = record {
  tail = spelled.tail;
  less = λ level ts a rest known e.
      let g = (read_sound names K spelled deep).good level ts a rest known e in
      omega (arith, takes_length (expression_tokens a) ts rest g.takes, some_tokens a);
  known = λ level ts a rest known e.
      let g = (read_sound names K spelled deep).good level ts a rest known e in
      takes_known K spelled.tail (expression_tokens a) ts rest g.takes known;
}
