-- Operations on pointers (C17 6.5.2.3, 6.5.3.2, 6.5.6, 6.5.8, 6.5.9): sums, differences, comparisons, and members.
use Rattle.std.specs.Prelude.{ℕ, ℤ, pos, neg_ℤ, ◌*ℤ◌, ◌-ℤ◌, int_div, int_rem, Bool, true, false, not, List, ◌++◌, Option, Some, None, if◌then◌else◌, Result, Ok, Err, unwrap_or}
use Rattle.std.specs.Ordering.{int_eq}
use Rattle.std.specs.declared.cmp.Ordering.{Ordering}
use Rattle.pv_num.specs.declared.kinds.IntKind.TheVariants.{Int as IntOfInt}
use Rattle.pv_num.specs.declared.operators.BinOp.{BinOp}
use Rattle.pv_num.specs.declared.operators.BinOp.TheVariants.{Lt, Gt, Le, Ge}
use Rattle.pv_num.specs.declared.operators.ArithmeticFault.{ArithmeticFault}
use Rattle.pv_fault.specs.declared.faults.Clause.TheVariants.{SubtractionOfPointers, PointerToFunction}
use Rattle.pv_fault.specs.declared.faults.Reason.TheVariants.{Uneven, WrongType}
use Rattle.pv_num.specs.Arithmetic.{binary_of}
use Rattle.pv_inst.specs.declared.values.Tried.{Tried}
use Rattle.pv_inst.specs.Table.{Table}
use Rattle.pv_object.specs.declared.values.Pointer.{Pointer}
use Rattle.pv_object.specs.declared.values.Stop.{Stop}
use Rattle.pv_object.specs.Operations.{together, order, pointer_equality, code, shift}
use Rattle.pv_world.specs.Worlds.{Worth, World, with_table}
use Rattle.pv_watch.specs.declared.event.What.{What}
use Rattle.pv_world.specs.Telling.{no_telling, telling, event_of_use, live_use, both_used, live_test, range_test, code_test}
use Rattle.pv_world.specs.Objects.{owner_of}
use Rattle.pv_world.specs.Doing.{Done, Answers, Fails}
use Rattle.pv_world.specs.Worths.{int, pointer, truth_int, int_of, pointer_of, undefined_behaviour, on_set_value, wrong_of}

-- 6.5.6p8: what a pointer gives that is moved, and what is told: the use for the range of no bytes at the new address
abbrev pub moved_by : World → Pointer → Result (Pointer × Tried) Stop × Table → Done
moved_by w p (Ok r, T) = Answers (pointer r.0) (with_table w T) (telling (event_of_use range_test r.1))
moved_by w p (Err y, T) = Fails (wrong_of y) (Some p.prov) (with_table w T) no_telling

-- 6.5.6p8: so many elements of this size, in bytes; taken off where the operator is `-`
abbrev pub distance : (minus : Bool) → (size : ℕ) → ℤ → ℤ
distance false size n = n *ℤ pos size
distance true size n = neg_ℤ (n *ℤ pos size)

-- 6.5.6p8: the pointer so many elements further on, or back
abbrev pub moves_pointer : (minus : Bool) → (size : ℕ) → Worth → Worth → World → Done
moves_pointer minus size p n w = moved_by w (pointer_of p) (shift w.memory.table (pointer_of p) (distance minus size (int_of n)))

-- 6.5.6p8: one operand is the pointer, the other one the integer
abbrev pub moves : (minus pointer_first : Bool) → (size : ℕ) → Worth → Worth → World → Done
moves minus true size v x w = on_set_value v w (λ v. on_set_value x w (λ x. moves_pointer minus size v x w))
moves minus false size v x w = on_set_value v w (λ v. on_set_value x w (λ x. moves_pointer minus size x v w))

-- 6.5.6p9: the difference in elements of this size. The two settle to what they have in common before it is known to be whole
abbrev pub in_elements : ℤ → (size : ℕ) → Option ℤ
in_elements bytes size = if int_eq (int_rem bytes (pos size)) (pos 0) then Some (int_div bytes (pos size)) else None

-- 6.5.6p9: the difference, or that it is not whole
abbrev pub elements_by : World → Pointer → List What → Option ℤ → Done
elements_by w p us (Some n) = Answers (int n) w (telling us)
elements_by w p us None = Fails (undefined_behaviour SubtractionOfPointers Uneven) (Some p.prov) w (telling us)

-- 6.5.6p9: once the two are in one instance, their addresses are subtracted
abbrev pub between_by : (size : ℕ) → Pointer → Pointer → World → Result (Tried × Tried) Stop × Table → Done
between_by size p q w (Ok both, T) = elements_by (with_table w T) p (both_used both.0 both.1) (in_elements (pos p.address -ℤ pos q.address) size)
between_by size p q w (Err y, T) = Fails (wrong_of y) (Some p.prov) (with_table w T) no_telling

-- 6.5.6p9: two values that are there and were set settle to what they have in common (the memory model: pairs of candidates), and are subtracted
abbrev pub subtracts : (size : ℕ) → Worth → Worth → World → Done
subtracts size v x w =
    on_set_value v w (λ v. on_set_value x w (λ x.
    between_by size (pointer_of v) (pointer_of x) w (together SubtractionOfPointers w.memory.table (pointer_of v) (pointer_of x))))

-- 6.5.8p5: once the two are in one object, their addresses are compared
abbrev pub ordered_by : BinOp → World → Pointer → Pointer → Result (Ordering × Tried × Tried) Stop × Table → Done
ordered_by op w p q (Ok r, T) = compared (binary_of op IntOfInt (pos p.address) (pos q.address)) (with_table w T) r.1 r.2
  where
    compared : Result ℤ ArithmeticFault → World → Tried → Tried → Done
    compared (Ok n) w left right = Answers (int n) w (telling (both_used left right))
    compared (Err f) w left right = Answers (int (pos 0)) w (telling (both_used left right))
ordered_by op w p q (Err y, T) = Fails (wrong_of y) (Some p.prov) (with_table w T) no_telling

-- 6.5.8p5: two values that are there and were set are compared, the left one looked at first
abbrev pub orders : BinOp → Worth → Worth → World → Done
orders op v x w = on_set_value v w (λ v. on_set_value x w (λ x. ordered_by op w (pointer_of v) (pointer_of x) (order w.memory.table (pointer_of v) (pointer_of x))))

-- 6.5.9p6: the live test of each, the left one first, and the addresses compared
abbrev pub equal_by : (negated : Bool) → World → Pointer → Pointer → Result (Bool × Tried × Tried) Stop × Table → Done
equal_by negated w p q (Ok r, T) =
    Answers (truth_int (if negated then not r.0 else r.0)) (with_table w T) (telling (live_use w.memory.table p ++ event_of_use live_test r.2))
equal_by negated w p q (Err y, T) = Fails (wrong_of y) (Some p.prov) (with_table w T) (telling (live_use w.memory.table p))

-- 6.5.9p6: two values that are there and were set are compared, the left one looked at first
abbrev pub equals : (negated : Bool) → Worth → Worth → World → Done
equals negated v x w = on_set_value v w (λ v. on_set_value x w (λ x. equal_by negated w (pointer_of v) (pointer_of x) (pointer_equality w.memory.table (pointer_of v) (pointer_of x))))

-- 6.5.2.2p1, 6.3.2.3p8: the number of the function, where it is one that may be called so; in any case the use is told
abbrev pub found_in : World → Pointer → (fits : Option ℕ → Bool) → Option ℕ → List What → Done
found_in w p fits o us =
    if fits o then Answers (int (pos (unwrap_or o 0))) w (telling us) else Fails (undefined_behaviour PointerToFunction WrongType) (Some p.prov) w (telling us)

-- 6.5.2.2p1: what the pointer points to, by the instance that its name is settled to
abbrev pub found_by : World → Pointer → (fits : Option ℕ → Bool) → Result (ℕ × Tried) Stop × Table → Done
found_by w p fits (Ok r, T) = found_in (with_table w T) p fits (owner_of w r.0) (event_of_use code_test r.1)
found_by w p fits (Err y, T) = Fails (wrong_of y) (Some p.prov) (with_table w T) no_telling

-- 6.5.2.2p1: the function that is called by a value, which is there and was set; it is one of those that may be called so
abbrev pub finds : (fits : Option ℕ → Bool) → Worth → World → Done
finds fits v w = on_set_value v w (λ v. found_by w (pointer_of v) fits (code w.memory.table (pointer_of v)))

-- 6.5.8: the operators of order
abbrev pub is_order : BinOp → Bool
is_order Lt = true
is_order Gt = true
is_order Le = true
is_order Ge = true
is_order _ = false
