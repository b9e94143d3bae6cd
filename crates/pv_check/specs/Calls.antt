-- Calls of functions (6.5.2.2).
use Rattle.std.specs.Prelude.{ℕ, Bool, true, false, ◌||◌, if◌then◌else◌, Option, Some, None, List, [], ◌∷◌}
use Rattle.pv_library.specs.declared.library.Library.{Library}
use Rattle.pv_library.specs.declared.library.Library.TheVariants as library
use Rattle.pv_types.specs.Layouts.{is_complete_in}
use Rattle.pv_types.specs.Ty.{Ty, Tys, NoTys, MoreTys, FunctionTy}
use Rattle.pv_typed.specs.TypedTree.{TypedTree, Form, Node, Call, CallPointer, LibraryCall, Convert, ArrayPointer, String, arguments_of, form_of, type_of}
use Rattle.pv_typed.specs.TypedUnits.{WholeUnit, function_at, name_at, literal_at, layouts}
use Rattle.pv_library.specs.LibraryNames.{library_named}
use Rattle.pv_check.specs.PrintfFormats.{is_format}
use Rattle.pv_types.specs.Sorts.{is_void}
use Rattle.pv_check.specs.Values.{source_node, promoted_value, as_if_assigned}
use Rattle.pv_check.specs.State.{◌>>=◌}
use Rattle.std.specs.Option.{option_map_or, option_map}

-- 6.5.2.2p6 and p7: an argument beyond the parameters is promoted
-- worked: further_argument_rows (proofs/FormatExamples)
abbrev pub further_argument : TypedTree → Option TypedTree
further_argument a = if is_void (type_of a) then None else Some (promoted_value a)

-- 6.5.2.2p2 and p7: as many arguments as parameters, each as if assigned to its parameter, and further ones where the function takes them
-- worked: function_call_rows (proofs/FurtherExamples); call_operand_rows (proofs/OperandExamples); passed_pointer_rows
--   (proofs/QualifierExamples); passed_null_pointer_rows (proofs/ConstantExamples)
abbrev pub passed_arguments : Tys → (variadic : Bool) → List TypedTree → Option (List TypedTree)
passed_arguments NoTys variadic [] = Some []
passed_arguments NoTys true (a ∷ rest) = do x ← further_argument a; xs ← passed_arguments NoTys true rest; Some (x ∷ xs)
passed_arguments NoTys false (a ∷ rest) = None
passed_arguments (MoreTys t ts) variadic [] = None
passed_arguments (MoreTys t ts) variadic (a ∷ rest) = do x ← as_if_assigned t a; xs ← passed_arguments ts variadic rest; Some (x ∷ xs)

-- the number of the string literal that an expression is (6.5.1p4)
abbrev pub string_in : Form → Option ℕ
string_in (String l) = Some l
string_in _ = None

-- 6.3.2.1p3: the number of the string literal whose first byte an argument points to
abbrev pub literal_in : Form → Option ℕ
literal_in (Convert (Node t line turn x)) = literal_in x
literal_in (ArrayPointer a) = string_in (form_of a)
literal_in _ = None

-- 7.21.6.1p8: the format of `printf` is a string literal, and one of conversions that the profile has
-- worked: format_literal_rows, called_printf_rows (proofs/FormatExamples)
abbrev pub may_pass : WholeUnit → Library → List TypedTree → Bool
may_pass u library.Printf (Node t line turn x ∷ rest) = option_map_or (λ l. is_format (literal_at u l).bytes) (literal_in x) false
may_pass u library.Printf [] = false
may_pass u f args = true

-- 6.5.2.2p5: the call, with the type of its result, where the arguments may be passed: of a function of the library (7.1.4p1), or of one of the
-- program
-- worked: library_call_rows (proofs/FurtherExamples); memory_function_rows, block_function_rows, string_function_rows,
--   ending_function_rows (proofs/LibraryExamples)
abbrev pub typed_call : WholeUnit → ℕ → ℕ → Option Library → Ty → Option (List TypedTree) → Option TypedTree
typed_call u line f (Some l) t args = do xs ← args; if may_pass u l xs then Some (source_node line t (LibraryCall l (arguments_of xs))) else None
typed_call u line f None t args = option_map (λ xs. source_node line t (Call f (arguments_of xs))) args

-- 6.5.2.2p1 and p5: the function returns void or a complete object type, which the call has; its name says whether it is one of the library (7.1.3p1)
-- worked: incomplete_result_rows (proofs/IncompleteExamples)
abbrev pub call_at : WholeUnit → ℕ → ℕ → Ty → List TypedTree → Option TypedTree
call_at u line f (FunctionTy t ts variadic) args =
    if is_void t || is_complete_in (layouts u) t
    then typed_call u line f (library_named (name_at u (function_at u f).name)) t (passed_arguments ts variadic args)
    else None
call_at u line f t args = None

-- 6.5.2.2p1 and p5: a call by what a value points to: a function that returns void or a complete object type
abbrev pub call_to : WholeUnit → ℕ → TypedTree → Option Ty → List TypedTree → Option TypedTree
call_to u line a (Some (FunctionTy t ts variadic)) args =
    if is_void t || is_complete_in (layouts u) t then option_map (λ xs. source_node line t (CallPointer a (arguments_of xs))) (passed_arguments ts variadic args)
    else None
call_to u line a _ args = None
