-- A bridge: what functions answer that do a part of what Calls says.
use Rattle.pv_typed.specs.TypedUnits.{name_at, function_at, WholeUnit, literal_at}
use Rattle.pv_typed.specs.TypedTree.{TypedTree, type_of, arguments_of, CallPointer, LibraryCall, Call}
use Rattle.pv_types.specs.Ty.{Ty}
use Rattle.pv_library.specs.LibraryNames.{library_named}
use Rattle.pv_check.specs.PrintfFormats.{is_format}
use Rattle.pv_check.specs.Calls.{typed_call, call_to, call_at, may_pass}
use Rattle.pv_types.specs.Sorts.{pointed_by}
use Rattle.pv_check.specs.Values.{source_node}
use Rattle.pv_check.specs.State.{◌>>=◌}
use Rattle.std.specs.Prelude.{Option, ℕ, List, None, ◌∷◌, Some, false, Bool, if◌then◌else◌}
use Rattle.std.specs.Option.{option_map, option_map_or}
use Rattle.pv_library.specs.declared.library.Library.{Library}

-- 6.5.2.2p5: a call of a function by its number: its name says whether it is one of the library (7.1.3p1)
abbrev pub called_by_name : WholeUnit → ℕ → ℕ → Ty → Option (List TypedTree) → Option TypedTree
called_by_name u line f t args = typed_call u line f (library_named (name_at u (function_at u f).name)) t args

-- 6.5.2.2p1: a call by a value that is a pointer to a function
-- worked: pointer_call_rows (proofs/FunctionExamples)
abbrev pub call_through : WholeUnit → ℕ → TypedTree → List TypedTree → Option TypedTree
call_through u line a args = call_to u line a (pointed_by (type_of a)) args

-- 6.5.2.2p1: a call by the number of the function, whose type is looked up
abbrev pub call_of : WholeUnit → ℕ → ℕ → List TypedTree → Option TypedTree
call_of u line f args = call_at u line f (function_at u f).t args

-- one argument before others, where all may be passed: a list helper (6.5.2.2p4)
abbrev pub more : Option TypedTree → Option (List TypedTree) → Option (List TypedTree)
more x xs = do x ← x; xs ← xs; Some (x ∷ xs)

-- 7.21.6.1p8: the format is such a literal, and one of the conversions that the profile has
abbrev pub is_format_literal : WholeUnit → Option ℕ → Bool
is_format_literal u l = option_map_or (λ l. is_format (literal_at u l).bytes) l false

-- 6.5.2.2p5: a call of the function that a pointer points to, with the type of its result
abbrev pub pointed_call : ℕ → TypedTree → Ty → Option (List TypedTree) → Option TypedTree
pointed_call line a t args = option_map (λ xs. source_node line t (CallPointer a (arguments_of xs))) args

-- 7.1.4p1: a call of a function of the library
-- worked: library_call_rows (proofs/FurtherExamples); memory_function_rows, block_function_rows, string_function_rows,
--   ending_function_rows (proofs/LibraryExamples)
abbrev pub library_call : WholeUnit → ℕ → Library → Ty → Option (List TypedTree) → Option TypedTree
library_call u line f t args = do xs ← args; if may_pass u f xs then Some (source_node line t (LibraryCall f (arguments_of xs))) else None

-- 6.5.2.2p5: a call of a function of the program, with the type of its result
abbrev pub program_call : ℕ → ℕ → Ty → Option (List TypedTree) → Option TypedTree
program_call line f t args = option_map (λ xs. source_node line t (Call f (arguments_of xs))) args
