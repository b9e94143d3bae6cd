-- Whether C has a rule for an operation on such operands (C17 6.3, 6.5, 6.7.9, 7), which typing makes sure of. The definitions of a run are total: some of
-- their rows take an operand that is no number for 0, one that is no pointer for a null pointer, and one that is no structure for no bytes. No rule of C does.
use Rattle.std.specs.Prelude.{ℕ, ◌^◌, Bool, true, false, ◌&&◌, ◌||◌, nat_lt, pos, is_ok, is_some, Result, Ok, Err, List, [], ◌∷◌}
use Rattle.std.specs.FinMap.{get}
use Rattle.pv_num.specs.declared.kinds.IntKind.TheVariants.{Int as IntKindOfInt}
use Rattle.pv_num.specs.declared.operators.BinOp.{BinOp}
use Rattle.pv_num.specs.Kinds.{fits_of}
use Rattle.pv_num.specs.Arithmetic.{binary_of}
use Rattle.pv_types.specs.Ty.{Ty, Tys, IntTy, PointerTo, FunctionTy, NoTys, MoreTys}
use Rattle.pv_inst.specs.declared.values.Tried.{Tried}
use Rattle.pv_object.specs.declared.values.Stop.{Stop}
use Rattle.pv_object.specs.Operations.{code}
use Rattle.pv_object.specs.declared.values.Value.{Value}
use Rattle.pv_object.specs.declared.values.Value.TheVariants.{Int as IntValue, Unset, Pointer as PointerValue}
use Rattle.pv_library.specs.LibraryTypes.{prototype}
use Rattle.pv_libc.specs.declared.values.Arg.{Arg}
use Rattle.pv_world.specs.declared.got.How.{How}
use Rattle.pv_world.specs.declared.got.How.TheVariants as how
use Rattle.pv_world.specs.Worlds.{Worth, Missing, Scalar, Whole, World}
use Rattle.pv_world.specs.Worths.{pointer_of}
use Rattle.pv_world.specs.Objects.{owner_of, bound_to}
use Rattle.pv_world.specs.Suiting.{is_stored}
use Rattle.pv_typed.specs.TypedUnits.{object_at}
use Rattle.pv_eval.specs.States.{Setting}
use Rattle.pv_eval.specs.Operations.{Op, Converts, Calculates, CalculatesOne, Tests, Negates, Needs, Moves, Subtracts, Orders, Equals, Follows, Selects, Finds, TakesPart, Reads, Writes, NamesObject, NamesLiteral, NamesFunction, Ends, Fills, Puts, PutsText, Asks}

-- 6.9.1p12: it is missing, which ends the run by a rule of its own
abbrev pub is_missing : Worth → Bool
is_missing Missing = true
is_missing _ = false

-- 6.2.5p17: an operand that is a number, where it is there and was set (3.19.2)
abbrev pub may_be_number : Worth → Bool
may_be_number (Scalar (IntValue n)) = true
may_be_number (Scalar Unset) = true
may_be_number v = is_missing v

-- 6.2.5p20: an operand that is a pointer, where it is there
abbrev pub may_be_pointer : Worth → Bool
may_be_pointer (Scalar (PointerValue p)) = true
may_be_pointer v = is_missing v

-- 6.2.5p21: an operand that is a scalar, where it is there
abbrev pub may_be_scalar : Worth → Bool
may_be_scalar (Scalar v) = true
may_be_scalar v = is_missing v

-- 6.2.5p20: an operand that is a structure or a union, where it is there
abbrev pub may_be_whole : Worth → Bool
may_be_whole (Whole bytes origin) = true
may_be_whole v = is_missing v

-- 6.3.2.1p1: the place of an lvalue, which is there
abbrev pub is_place : Worth → Bool
is_place (Scalar (PointerValue p)) = true
is_place _ = false

-- 6.3: the operand of each conversion
abbrev pub is_source_of : How → Worth → Bool
is_source_of (how.Rounds k) v = may_be_number v
is_source_of (how.Passes k) v = may_be_number v
is_source_of how.Tests v = may_be_scalar v
is_source_of (how.Numbers k) v = may_be_pointer v
is_source_of how.Points v = may_be_number v
is_source_of (how.Recasts n) v = may_be_pointer v
-- 6.3.2.2
is_source_of how.Voids v = true

-- 6.5.6p2, 6.5.2.1p1: of the operands of a sum one is a pointer, and the other a number
abbrev pub are_shifted : (pointer_first : Bool) → Worth → Worth → Bool
are_shifted true v x = may_be_pointer v && may_be_number x
are_shifted false v x = may_be_number v && may_be_pointer x

-- 6.5.8p6: the addresses of two operands that are pointers, where they are there, are compared, which has a result
abbrev pub are_compared : BinOp → Worth → Worth → Bool
are_compared o v x = (may_be_pointer v && may_be_pointer x) && is_ok (binary_of o IntKindOfInt (pos (pointer_of v).address) (pos (pointer_of x).address))

-- 6.5.2.2p1: what is found at a pointer that is called is the instance of a function
abbrev pub is_of_function : World → Result (ℕ × Tried) Stop → Bool
is_of_function w (Ok found) = is_some (owner_of w found.0)
is_of_function w (Err stop) = true

-- 6.5.2.2p1: a function is called by a pointer, where it is there
abbrev pub is_callee : World → Worth → Bool
is_callee w v = may_be_pointer v && is_of_function w (code w.memory.table (pointer_of v)).0

-- 7.1.4p1: an argument of a function of the library is a value of its parameter's type, which was set
abbrev pub is_taken : Ty → Value → Bool
is_taken (IntTy k) (IntValue n) = fits_of k n
is_taken (PointerTo t) (PointerValue p) = nat_lt p.address (2 ^ 64)
is_taken _ _ = false

-- 6.5.2.2p2: there are as many as there are parameters; behind `...` (7.21.6.1p2) each conversion of the format looks at its argument itself
abbrev pub are_taken : Tys → (variadic : Bool) → List Arg → Bool
are_taken NoTys variadic [] = true
are_taken NoTys true (x ∷ args) = true
are_taken NoTys false (x ∷ args) = false
are_taken (MoreTys t ts) variadic [] = false
are_taken (MoreTys t ts) variadic (x ∷ args) = is_taken t x.value && are_taken ts variadic args

-- 7.1.4p1: the arguments of a function of this type
abbrev pub takes_arguments : Ty → List Arg → Bool
takes_arguments (FunctionTy t ts variadic) args = are_taken ts variadic args
takes_arguments _ args = false

-- 6.2.4p2: the object has an instance
abbrev pub has_instance : Setting → ℕ → World → Bool
has_instance b o w = is_some (bound_to w o (object_at b.unit o).lasting)

-- 6.3, 6.5, 6.7.9, 7: there is a rule for such operands
abbrev pub has_rule : Setting → Op → World → Bool
has_rule b (Converts how v) w = is_source_of how v
has_rule b (Calculates op k v x) w = may_be_number v && may_be_number x
has_rule b (CalculatesOne op k v) w = may_be_number v
has_rule b (Tests v) w = may_be_scalar v
has_rule b (Negates v) w = may_be_scalar v
has_rule b (Needs v) w = may_be_number v
has_rule b (Moves minus first size v x) w = are_shifted first v x
has_rule b (Subtracts size v x) w = may_be_pointer v && may_be_pointer x
has_rule b (Orders op v x) w = are_compared op v x
has_rule b (Equals negated v x) w = may_be_pointer v && may_be_pointer x
has_rule b (Follows nothing v) w = may_be_pointer v
has_rule b (Selects offset v) w = may_be_pointer v
has_rule b (Finds t v) w = is_callee w v
has_rule b (TakesPart offset l v) w = may_be_whole v
has_rule b (Reads l place rivals) w = is_place place
has_rule b (Writes l place v from rivals) w = is_place place && (is_missing v || is_stored l.shape l.size v)
has_rule b (NamesObject o) w = has_instance b o w
has_rule b (NamesLiteral l) w = is_some (get w.literals l)
has_rule b (NamesFunction f) w = is_some (get w.functions f)
has_rule b (Ends o) w = has_instance b o w
has_rule b (Fills o v) w = has_instance b o w
has_rule b (Puts o offset l v) w = has_instance b o w && is_stored l.shape l.size v
has_rule b (PutsText o offset size l) w = has_instance b o w
has_rule b (Asks f args) w = takes_arguments (prototype f) args
-- the others take what there is
has_rule b _ w = true
