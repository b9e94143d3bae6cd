-- String literals (6.4.5): literals in a row are one, and a literal is an array of `char`.
use Rattle.std.specs.Prelude.{suc, slice_index_or, zero, ℕ, ◌+◌, List, [], ◌++◌, ◌∷◌, length, not, Some}
use Rattle.pv_check.specs.State.{After, State}
use Rattle.pv_check.specs.Values.{source_node}
use Rattle.pv_typed.specs.TypedTree.{String, TypedTree}
use Rattle.pv_typed.specs.Adding.{with_literal}
use Rattle.pv_types.specs.Ty.{ArrayOf, IntTy}
use Rattle.pv_num.specs.declared.kinds.IntKind.TheVariants.{Char}

-- 6.4.5p5: the bytes of literals in a row, from the first on
abbrev pub concatenation_of : List (List ℕ) → ℕ → ℕ → List ℕ
concatenation_of texts first zero = slice_index_or texts first []
concatenation_of texts first (suc more) = concatenation_of texts first more ++ slice_index_or texts (first + suc more) []

-- 6.4.5p6: with a zero behind them
-- worked: adjacent_literal_rows (proofs/OperandExamples)
abbrev pub bytes_of_text : List (List ℕ) → ℕ → ℕ → List ℕ
bytes_of_text texts first more = concatenation_of texts first more ++ 0 ∷ []

-- 6.4.5p6: an array of `char`, which is an lvalue; in the operand of sizeof it makes no instance
abbrev pub text_of : ℕ → List ℕ → State → After TypedTree
text_of line bytes s =
    record {
      value = source_node line (ArrayOf (IntTy Char) (Some (length bytes))) (String (length s.unit.literals));
      state = record s { unit = with_literal s.unit (record { bytes = bytes; line = line }) (not s.unevaluated) };
    }
