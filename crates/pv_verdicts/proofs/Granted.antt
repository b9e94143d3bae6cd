-- How an operation of a world may end a run (C17 6.2.4, 6.3, 6.4.5, 6.5): not by a request that is denied, if none for objects and literals is.
use Rattle.std.proofs.Common.{◌≡◌, ℕ, ℤ, pos, ◌-ℤ◌, Bool, true, false, List, Option, Some, None, Result, Ok, Err, refl, take, drop}
use Rattle.std.specs.Prelude.{unwrap_or, if◌then◌else◌}
use Rattle.std.specs.declared.cmp.Ordering.{Ordering}
use Rattle.pv_num.specs.declared.kinds.IntKind.{IntKind}
use Rattle.pv_num.specs.declared.kinds.IntKind.TheVariants.{Int as IntOfInt}
use Rattle.pv_num.specs.declared.operators.BinOp.{BinOp}
use Rattle.pv_num.specs.declared.operators.UnOp.{UnOp}
use Rattle.pv_num.specs.declared.operators.ArithmeticFault.{ArithmeticFault}
use Rattle.pv_fault.specs.declared.faults.Clause.TheVariants.{SubtractionOfPointers}
use Rattle.pv_num.specs.Arithmetic.{binary_of, unary_of}
use Rattle.pv_prov.specs.declared.names.Prov.{Prov}
use Rattle.pv_inst.specs.declared.values.Tried.{Tried}
use Rattle.pv_inst.specs.declared.values.CreateError.{CreateError}
use Rattle.pv_inst.specs.Table.{Table}
use Rattle.pv_inst.specs.Placing.{Request}
use Rattle.pv_shadow.specs.declared.byte.Byte.{Byte}
use Rattle.pv_object.specs.declared.values.Pointer.{Pointer}
use Rattle.pv_object.specs.declared.values.Reach.{Reach}
use Rattle.pv_object.specs.declared.values.Stop.{Stop}
use Rattle.pv_object.specs.declared.values.Asker.TheVariants.{Access}
use Rattle.pv_object.specs.declared.values.Value.{Value}
use Rattle.pv_object.specs.declared.values.Value.TheVariants.{Int as IntValue, Unset, Pointer as PointerValue}
use Rattle.pv_object.specs.Memory.{Mem}
use Rattle.pv_object.specs.Access.{reach}
use Rattle.pv_object.specs.Creating.{creation}
use Rattle.pv_object.specs.Loading.{Loaded}
use Rattle.pv_object.specs.Operations.{truth, to_ptr, recast, to_int, code, together, order, pointer_equality, shift, select}
use Rattle.pv_watch.specs.declared.event.What.{What}
use Rattle.pv_world.specs.declared.got.Shape.{Shape}
use Rattle.pv_world.specs.declared.got.Shape.TheVariants as shape
use Rattle.pv_world.specs.declared.got.How.{How}
use Rattle.pv_world.specs.declared.got.How.TheVariants.{Rounds, Passes, Tests, Numbers, Points, Recasts, Voids}
use Rattle.pv_world.specs.Worlds.{Worth, Nothing, Missing, Scalar, Whole, World, Wrong, with_table}
use Rattle.pv_world.specs.Telling.{Told, no_telling, telling, event_of_use, both_used, code_test}
use Rattle.pv_world.specs.Doing.{Done, Answers, Fails, Breaks}
use Rattle.pv_world.specs.Worths.{int, truth_int, int_of, pointer_of, unless, why_not_set, why_missing, arithmetic_result, bytes_of}
use Rattle.pv_world.specs.Conversions.{truth_by, truth_value, truth_worth, tests, number_by, pointer_by_number, recast_by, passes, converts}
use Rattle.pv_world.specs.Calculations.{follows_to}
use Rattle.pv_world.specs.CalculationParts.{calculates, calculates_one}
use Rattle.pv_world.specs.Pointers.{moved_by, distance, moves, in_elements, elements_by, between_by, ordered_by, equal_by, equals, found_in, found_by, finds}
use Rattle.pv_world.specs.PointerParts.{between, unlike, selects}
use Rattle.pv_world.specs.Accesses.{reaching_by, reaching, scalar_as, scalar_by, worth_in, takes_bytes}
use Rattle.pv_world.specs.AccessParts.{range_use}
use Rattle.pv_world.specs.Objects.{makes_object, makes_function, owner_of, makes_literal_of}
use Rattle.pv_world.specs.ObjectParts.{object_made, function_made, literal_request, literal_made}
use Rattle.pv_verdicts.proofs.Refusals.{FineAnswer, FineWrong, FineIf, stop-fine, plain-fine, present-fine}

-- a run that ends by it has an outcome
abbrev pub FineDone : Done → Type 0
FineDone (Answers v w t) = Unit {0}
FineDone (Fails y p w t) = FineWrong y
FineDone (Breaks y b w t) = FineWrong y

-- what is done ends the run by no request that is denied
pub record Granted (d : Done) : Type 0 where
  pub fine : FineDone d

unless-on : (o : Option Wrong) (w : World) (d : Done) → FineIf o → Granted d → Granted (unless o w d)
unless-on None w d f h = h
unless-on (Some y) w d f h = record { fine = f }

pub plain-on : (v : Worth) (w : World) (d : Done) → Granted d → Granted (unless (why_not_set v) w d)
plain-on v w d h = unless-on (why_not_set v) w d (plain-fine v) h

pub present-on : (v : Worth) (w : World) (d : Done) → Granted d → Granted (unless (why_missing v) w d)
present-on v w d h = unless-on (why_missing v) w d (present-fine v) h

-- conversions
truth-by : (w : World) (p : Pointer) (got : Result (Bool × Tried) Stop × Table) (give : Bool → Worth) → Granted (truth_by w p got give)
truth-by w p ((Ok r), T) give = record { fine = tt }
truth-by w p ((Err y), T) give = record { fine = stop-fine y }

truth-value : (w : World) (v : Value) (give : Bool → Worth) → Granted (truth_value w v give)
truth-value w (IntValue n) give = record { fine = tt }
truth-value w (PointerValue p) give = truth-by w p (truth w.memory.table p) give
truth-value w Unset give = record { fine = tt }

truth-worth : (w : World) (give : Bool → Worth) (v : Worth) → Granted (truth_worth w give v)
truth-worth w give (Scalar v) = truth-value w v give
truth-worth w give Nothing = record { fine = tt }
truth-worth w give Missing = record { fine = tt }
truth-worth w give (Whole bs a) = record { fine = tt }

pub tests-on : (give : Bool → Worth) (v : Worth) (w : World) → Granted (tests give v w)
tests-on give v w = plain-on v w _ (truth-worth w give v)

number-by : (w : World) (p : Pointer) (got : Result (ℤ × Tried) Stop × Table) → Granted (number_by w p got)
number-by w p ((Ok r), T) = record { fine = tt }
number-by w p ((Err y), T) = record { fine = stop-fine y }

pointed-on : (w : World) (got : Result Pointer Stop × Table) → Granted (pointer_by_number w got)
pointed-on w ((Ok r), T) = record { fine = tt }
pointed-on w ((Err y), T) = record { fine = stop-fine y }

recast-by : (w : World) (p : Pointer) (got : Result Tried Stop × Table) → Granted (recast_by w p got)
recast-by w p ((Ok r), T) = record { fine = tt }
recast-by w p ((Err y), T) = record { fine = stop-fine y }

passes-on : (k : IntKind) (w : World) (v : Worth) → Granted (passes k w v)
passes-on k w (Scalar v) = record { fine = tt }
passes-on k w Nothing = record { fine = tt }
passes-on k w Missing = record { fine = tt }
passes-on k w (Whole bs a) = record { fine = tt }

pub converts-on : (how : How) (v : Worth) (w : World) → Granted (converts how v w)
converts-on (Rounds k) v w = plain-on v w _ (record { fine = tt })
converts-on (Passes k) v w = present-on v w _ (passes-on k w v)
converts-on Tests v w = tests-on truth_int v w
converts-on (Numbers k) v w = plain-on v w _ (number-by w (pointer_of v) (to_int w.memory.table (pointer_of v) k))
converts-on Points v w = plain-on v w _ (pointed-on w (to_ptr w.memory.table (int_of v)))
converts-on (Recasts n) v w = plain-on v w _ (recast-by w (pointer_of v) (recast w.memory.table (pointer_of v) n))
converts-on Voids v w = record { fine = tt }

-- operators on integers
computed-on : (w : World) (r : Result ℤ ArithmeticFault) → Granted (arithmetic_result w r)
computed-on w (Ok n) = record { fine = tt }
computed-on w (Err f) = record { fine = tt }

pub calculates-on : (op : BinOp) (k : IntKind) (v x : Worth) (w : World) → Granted (calculates op k v x w)
calculates-on op k v x w = plain-on v w _ (plain-on x w _ (computed-on w (binary_of op k (int_of v) (int_of x))))

pub calculates-one-on : (op : UnOp) (k : IntKind) (v : Worth) (w : World) → Granted (calculates_one op k v w)
calculates-one-on op k v w = plain-on v w _ (computed-on w (unary_of op k (int_of v)))

pub follows-on : (nothing : Bool) (v : Worth) (w : World) → Granted (follows_to nothing v w)
follows-on true v w = present-on v w _ (record { fine = tt })
follows-on false v w = present-on v w _ (record { fine = tt })

-- operations on pointers
moved-by : (w : World) (p : Pointer) (got : Result (Pointer × Tried) Stop × Table) → Granted (moved_by w p got)
moved-by w p ((Ok r), T) = record { fine = tt }
moved-by w p ((Err y), T) = record { fine = stop-fine y }

pointer-moves : (minus : Bool) (size : ℕ) (p n : Worth) (w : World) → Granted (moved_by w (pointer_of p) (shift w.memory.table (pointer_of p) (distance minus size (int_of n))))
pointer-moves minus size p n w = moved-by w (pointer_of p) (shift w.memory.table (pointer_of p) (distance minus size (int_of n)))

pub moves-on : (minus first : Bool) (size : ℕ) (v x : Worth) (w : World) → Granted (moves minus first size v x w)
moves-on minus true size v x w = plain-on v w _ (plain-on x w _ (pointer-moves minus size v x w))
moves-on minus false size v x w = plain-on v w _ (plain-on x w _ (pointer-moves minus size x v w))

found-in : (w : World) (p : Pointer) (fits : Option ℕ → Bool) (o : Option ℕ) (us : List What) → Granted (found_in w p fits o us)
found-in w p fits o us = by (fits o)
  where
    by : (t : Bool) → Granted (if t then Answers (int (pos (unwrap_or o 0))) w (telling us) else Fails unlike (Some p.prov) w (telling us))
    by true = record { fine = tt }
    by false = record { fine = tt }

found-by : (w : World) (p : Pointer) (fits : Option ℕ → Bool) (got : Result (ℕ × Tried) Stop × Table) → Granted (found_by w p fits got)
found-by w p fits ((Ok r), T) = found-in (with_table w T) p fits (owner_of w r.0) (event_of_use code_test r.1)
found-by w p fits ((Err y), T) = record { fine = stop-fine y }

pub finds-on : (fits : Option ℕ → Bool) (v : Worth) (w : World) → Granted (finds fits v w)
finds-on fits v w = plain-on v w _ (found-by w (pointer_of v) fits (code w.memory.table (pointer_of v)))

pub selects-on : (offset : ℕ) (v : Worth) (w : World) → Granted (selects offset v w)
selects-on offset v w = present-on v w _ (moved-by w (pointer_of v) (select w.memory.table (pointer_of v) offset))

elements-by : (w : World) (p : Pointer) (us : List What) (o : Option ℤ) → Granted (elements_by w p us o)
elements-by w p us (Some n) = record { fine = tt }
elements-by w p us None = record { fine = tt }

between-by : (size : ℕ) (p q : Pointer) (w : World) (got : Result (Tried × Tried) Stop × Table) → Granted (between_by size p q w got)
between-by size p q w ((Ok both), T) = elements-by (with_table w T) p (both_used both.0 both.1) (in_elements (pos p.address -ℤ pos q.address) size)
between-by size p q w ((Err y), T) = record { fine = stop-fine y }

pub between-on : (size : ℕ) (p q : Pointer) (w : World) → Granted (between size p q w)
between-on size p q w = between-by size p q w (together SubtractionOfPointers w.memory.table p q)

ordered-by : (op : BinOp) (w : World) (p q : Pointer) (got : Result (Ordering × Tried × Tried) Stop × Table) → Granted (ordered_by op w p q got)
ordered-by op w p q ((Ok r), T) = by (binary_of op IntOfInt (pos p.address) (pos q.address)) refl
  where
    by : (o : Result ℤ ArithmeticFault) → binary_of op IntOfInt (pos p.address) (pos q.address) ≡ o → Granted (ordered_by op w p q ((Ok r), T))
    by (Ok n) e = rw e (record { fine = tt })
    by (Err f) e = rw e (record { fine = tt })
ordered-by op w p q ((Err y), T) = record { fine = stop-fine y }

pub order-on : (op : BinOp) (p q : Pointer) (w : World) → Granted (ordered_by op w p q (order w.memory.table p q))
order-on op p q w = ordered-by op w p q (order w.memory.table p q)

equal-by : (negated : Bool) (w : World) (p q : Pointer) (got : Result (Bool × Tried × Tried) Stop × Table) → Granted (equal_by negated w p q got)
equal-by negated w p q ((Ok r), T) = record { fine = tt }
equal-by negated w p q ((Err y), T) = record { fine = stop-fine y }

pub equals-on : (negated : Bool) (v x : Worth) (w : World) → Granted (equals negated v x w)
equals-on negated v x w = plain-on v w _ (plain-on x w _ (equal-by negated w (pointer_of v) (pointer_of x) (pointer_equality w.memory.table (pointer_of v) (pointer_of x))))

-- accesses
reaching-by : (w : World) (p : Pointer) (us : List What) (got : Result Reach Stop × Table) (go : Reach → World → Told → Done) → ((at : Reach) (v : World) (t : Told) → Granted (go at v t)) → Granted (reaching_by w p us got go)
reaching-by w p us ((Ok at), T) go g = g at (with_table w T) (telling us)
reaching-by w p us ((Err y), T) go g = record { fine = stop-fine y }

pub reaching-on : (p : Pointer) (n align : ℕ) (write : Bool) (w : World) (go : Reach → World → Told → Done) → ((at : Reach) (v : World) (t : Told) → Granted (go at v t)) → Granted (reaching p n align write w go)
reaching-on p n align write w go g = reaching-by w p (range_use w.memory.table p n) (reach w.memory.table p n align write Access) go g

scalar-by : (w : World) (bytes : List Byte) (s : Shape) (p : Option Prov) (t : Told) (got : Loaded) → Granted (scalar_by w bytes s p t got)
scalar-by w bytes s p t ((Ok r), T) = record { fine = tt }
scalar-by w bytes s p t ((Err y), T) = record { fine = stop-fine y }

pub worth-on : (w : World) (bytes : List Byte) (s : Shape) (origin : Option ℕ) (p : Option Prov) (t : Told) → Granted (worth_in w bytes s origin p t)
worth-on w bytes shape.Whole origin p t = record { fine = tt }
worth-on w bytes shape.Pointer origin p t = scalar-by w bytes shape.Pointer p t (scalar_as w.memory.table bytes shape.Pointer)
worth-on w bytes (shape.Int k) origin p t = scalar-by w bytes (shape.Int k) p t (scalar_as w.memory.table bytes (shape.Int k))

pub takes-on : (offset size : ℕ) (s : Shape) (v : Worth) (w : World) → Granted (takes_bytes offset size s v w)
takes-on offset size s v w = present-on v w _ (worth-on w (take size (drop offset (bytes_of v))) s None None no_telling)

-- instances
object-made : (w : World) (o : ℕ) (lasting : Bool) (name : ℕ) (got : Result ℕ CreateError × Mem) → FineAnswer got.0 → Granted (object_made w o lasting name got)
object-made w o true name ((Ok i), M) f = record { fine = tt }
object-made w o false name ((Ok i), M) f = record { fine = tt }
object-made w o lasting name ((Err e), M) f = record { fine = f }

pub object-on : (o : ℕ) (lasting : Bool) (r : Request) (w : World) → FineAnswer (creation w.memory r).0 → Granted (makes_object o lasting r w)
object-on o lasting r w f = object-made w o lasting r.name (creation w.memory r) f

function-made : (w : World) (f name : ℕ) (got : Result ℕ CreateError × Mem) → FineAnswer got.0 → Granted (function_made w f name got)
function-made w f name ((Ok i), M) h = record { fine = tt }
function-made w f name ((Err e), M) h = record { fine = h }

pub function-on : (f : ℕ) (r : Request) (w : World) → FineAnswer (creation w.memory r).0 → Granted (makes_function f r w)
function-on f r w h = function-made w f r.name (creation w.memory r) h

literal-made : (w : World) (l : ℕ) (bytes : List ℕ) (got : Result ℕ CreateError × Mem) → FineAnswer got.0 → Granted (literal_made w l bytes got)
literal-made w l bytes ((Ok i), M) f = record { fine = tt }
literal-made w l bytes ((Err e), M) f = record { fine = f }

pub literal-on : (l : ℕ) (text bytes : List ℕ) (w : World) → FineAnswer (creation w.memory (literal_request text bytes)).0 → Granted (makes_literal_of l text bytes w)
literal-on l text bytes w f = literal-made w l bytes (creation w.memory (literal_request text bytes)) f
