-- Conversions (C17 6.3), and the truth of a value.
use Rattle.std.specs.Prelude.{ℤ, pos, Bool, true, false, not, ◌++◌, Some, None, Result, Ok, Err}
use Rattle.std.specs.Ordering.{int_eq}
use Rattle.pv_num.specs.declared.kinds.IntKind.{IntKind}
use Rattle.pv_num.specs.Kinds.{convert_of}
use Rattle.pv_inst.specs.declared.values.Tried.{Tried}
use Rattle.pv_inst.specs.Table.{Table}
use Rattle.pv_object.specs.declared.values.Pointer.{Pointer}
use Rattle.pv_object.specs.declared.values.Value.{Value}
use Rattle.pv_object.specs.declared.values.Value.TheVariants.{Int as IntValue, Unset, Pointer as PointerValue}
use Rattle.pv_object.specs.declared.values.Stop.{Stop}
use Rattle.pv_object.specs.Operations.{truth, to_ptr, recast, to_int}
use Rattle.pv_world.specs.declared.got.How.{How}
use Rattle.pv_world.specs.declared.got.How.TheVariants.{Rounds, Passes, Tests, Numbers, Points, Recasts, Voids}
use Rattle.pv_world.specs.Worlds.{Worth, Nothing, Scalar, World, with_table}
use Rattle.pv_world.specs.Telling.{no_telling, telling, event_of_use, live_use, live_test, exposures, all_told, pairings}
use Rattle.pv_world.specs.Doing.{Done, Answers, Fails}
use Rattle.pv_world.specs.Worths.{int, pointer, truth_int, int_of, pointer_of, on_set_value, on_present_value, wrong_of}

-- 6.5.9p6, 6.3.1.2: whether a pointer is not null, once its name passed the live test
abbrev pub truth_by : World → Pointer → Result (Bool × Tried) Stop × Table → (Bool → Worth) → Done
truth_by w p (Ok r, T) give = Answers (give r.0) (with_table w T) (telling (event_of_use live_test r.1))
truth_by w p (Err y, T) give = Fails (wrong_of y) (Some p.prov) (with_table w T) no_telling

-- 6.5.13p3, 6.5.14p3, 6.5.15p4, 6.8.4.1p2, 6.8.5p4: a value compared with 0
abbrev pub truth_value : World → Value → (Bool → Worth) → Done
truth_value w (IntValue n) give = Answers (give (not (int_eq n (pos 0)))) w no_telling
truth_value w (PointerValue p) give = truth_by w p (truth w.memory.table p) give
truth_value w Unset give = Answers (give false) w no_telling

-- 6.5.13p3: what an expression gives, compared with 0
abbrev pub truth_worth : World → (Bool → Worth) → Worth → Done
truth_worth w give (Scalar v) = truth_value w v give
truth_worth w give _ = Answers (give false) w no_telling

-- 6.5.13p3, 6.8.4.1p2: a value that is there and was set, compared with 0, as the operator gives it
abbrev pub tests : (Bool → Worth) → Worth → World → Done
tests give v w = on_set_value v w (truth_worth w give)

-- 6.5.3.3p5: what `!` gives
abbrev pub opposite : Bool → Worth
opposite true = truth_int false
opposite false = truth_int true

-- 6.3.2.3p6: a pointer to an integer type: the live test, then whether the address fits, then exposure (the memory model)
abbrev pub number_by : World → Pointer → Result (ℤ × Tried) Stop × Table → Done
number_by w p (Ok r, T) = Answers (int r.0) (with_table w (all_told T)) (telling (live_use w.memory.table p ++ exposures T))
number_by w p (Err y, T) = Fails (wrong_of y) (Some p.prov) (with_table w T) (telling (live_use w.memory.table p))

-- 6.3.2.3p5: an integer to a pointer type; two instances that fit make a pair of candidates (the memory model)
abbrev pub pointer_by_number : World → Result Pointer Stop × Table → Done
pointer_by_number w (Ok p, T) = Answers (pointer p) (with_table w T) (telling (pairings w.memory.table T))
pointer_by_number w (Err y, T) = Fails (wrong_of y) None (with_table w T) no_telling

-- 6.3.2.3p7: to another pointer type: the live test (6.2.4p2), then the alignment
abbrev pub recast_by : World → Pointer → Result Tried Stop × Table → Done
recast_by w p (Ok tried, T) = Answers (pointer p) (with_table w T) (telling (live_use w.memory.table p))
recast_by w p (Err y, T) = Fails (wrong_of y) (Some p.prov) (with_table w T) (telling (live_use w.memory.table p))

-- 6.3.1.2, 6.3.1.3: between character types, where the conversion is implied; a value that was never set stays one
abbrev pub character_conversion : IntKind → Value → Worth
character_conversion k (IntValue n) = int (convert_of k n)
character_conversion k Unset = Scalar Unset
character_conversion k (PointerValue p) = Scalar (PointerValue p)

-- 6.3.1.3: what an expression gives, between character types
abbrev pub passes : IntKind → World → Worth → Done
passes k w (Scalar v) = Answers (character_conversion k v) w no_telling
passes k w v = Answers v w no_telling

-- 6.3: each conversion, of a value that is there
abbrev pub converts : How → Worth → World → Done
converts (Rounds k) v w = on_set_value v w (λ v. Answers (int (convert_of k (int_of v))) w no_telling)
converts (Passes k) v w = on_present_value v w (passes k w)
converts Tests v w = tests truth_int v w
converts (Numbers k) v w = on_set_value v w (λ v. number_by w (pointer_of v) (to_int w.memory.table (pointer_of v) k))
converts Points v w = on_set_value v w (λ v. pointer_by_number w (to_ptr w.memory.table (int_of v)))
converts (Recasts n) v w = on_set_value v w (λ v. recast_by w (pointer_of v) (recast w.memory.table (pointer_of v) n))
-- 6.3.2.2: dropped
converts Voids v w = Answers Nothing w no_telling
