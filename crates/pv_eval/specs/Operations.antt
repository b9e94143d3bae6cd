-- The operations of a run (C17 6.3, 6.5, 6.7.9, 7), and what each does.
use Rattle.std.specs.Prelude.{ℕ, nat_le, Bool, true, ◌&&◌, List, Option, drop}
use Rattle.pv_num.specs.declared.kinds.IntKind.{IntKind}
use Rattle.pv_num.specs.declared.operators.BinOp.{BinOp}
use Rattle.pv_num.specs.declared.operators.UnOp.{UnOp}
use Rattle.pv_num.specs.Arithmetic.{binary_of, unary_of}
use Rattle.pv_types.specs.Layouts.{is_complete_in}
use Rattle.pv_typed.specs.TypedUnits.{layouts}
use Rattle.pv_library.specs.declared.library.Library.{Library}
use Rattle.pv_seq.specs.Sequencing.{Access}
use Rattle.pv_libc.specs.declared.values.Arg.{Arg}
use Rattle.pv_world.specs.declared.got.How.{How}
use Rattle.pv_world.specs.Worlds.{Worth, Nothing, World}
use Rattle.pv_world.specs.Worths.{truth_int, int_of, pointer, on_set_value, on_present_value, arithmetic_result, pointer_of}
use Rattle.pv_world.specs.Telling.{no_telling}
use Rattle.pv_world.specs.Doing.{Done, Answers}
use Rattle.pv_world.specs.Conversions.{converts, opposite, tests}
use Rattle.pv_world.specs.Calculations.{follows_to}
use Rattle.pv_world.specs.Pointers.{moves, subtracts, orders, equals, is_order, moved_by, finds}
use Rattle.pv_world.specs.Objects as object
use Rattle.pv_eval.specs.States.{Setting, State, Res}
use Rattle.pv_eval.specs.Acting.{after_doing}
use Rattle.pv_eval.specs.TypeForms.{Lvalue}
use Rattle.pv_eval.specs.Accesses.{reads, writes}
use Rattle.pv_eval.specs.Objects.{makes, ends, makes_literal, makes_function, fills, puts, puts_text, instance_for}
use Rattle.pv_eval.specs.Callees.{may_call}
use Rattle.pv_types.specs.Ty.{Ty}
use Rattle.pv_eval.specs.Library.{asks}
use Rattle.pv_world.specs.Suiting.{where_suiting, knows_value, knows_worth, knows_both, is_convertible, can_shift, is_integer, is_of_promoted, are_operands, is_size, is_stored, has_part}
use Rattle.std.specs.List.{list_all}
use Rattle.pv_world.specs.Accesses.{takes_bytes}
use Rattle.pv_object.specs.Operations.{select}

-- an operation of a run (6.3, 6.5, 6.7.9, 7), with its operands
pub data Op : Type 0 where
  -- 6.3, 6.5.3.3, 6.5.5 to 6.5.14
  Converts : How → Worth → Op
  Calculates : BinOp → IntKind → Worth → Worth → Op
  CalculatesOne : UnOp → IntKind → Worth → Op
  Tests : Worth → Op
  Negates : Worth → Op
  -- a value is passed on: an argument, a return, a comparison of a switch
  Accepts : Worth → Op
  Needs : Worth → Op
  -- 6.5.2.1, 6.5.2.3, 6.5.3.2, 6.5.6, 6.5.8, 6.5.9
  Moves : (minus pointer_first : Bool) → (size : ℕ) → Worth → Worth → Op
  Subtracts : (size : ℕ) → Worth → Worth → Op
  Orders : BinOp → Worth → Worth → Op
  Equals : (negated : Bool) → Worth → Worth → Op
  Follows : (nothing : Bool) → Worth → Op
  Selects : (offset : ℕ) → Worth → Op
  -- 6.5.2.2p1: of the function type that is called
  Finds : Ty → Worth → Op
  TakesPart : (offset : ℕ) → Lvalue → Worth → Op
  -- 6.3.2.1p2, 6.5.16p3
  Reads : Lvalue → (place : Worth) → List Access → Op
  Writes : Lvalue → (place value : Worth) → (from : Option ℕ) → List Access → Op
  -- 6.5.1, 6.2.4
  NamesObject : (object : ℕ) → Op
  NamesLiteral : (literal : ℕ) → Op
  NamesFunction : (function : ℕ) → Op
  Makes : (object : ℕ) → Op
  MakesLiteral : (literal : ℕ) → Op
  MakesFunction : (function : ℕ) → Op
  Ends : (object : ℕ) → Op
  -- 6.9.1: of the function with this name, for the call in this line
  BeginsBody : (function line : ℕ) → Op
  EndsBody : Op
  -- 6.7.9
  Fills : (object : ℕ) → Option ℕ → Op
  Puts : (object offset : ℕ) → Lvalue → Worth → Op
  PutsText : (object offset size literal : ℕ) → Op
  -- 7
  Asks : Library → List Arg → Op

-- 6.3, 6.5, 6.7.9: what typing promises of the operands of an operation: an operand of another kind comes from no checked unit
abbrev pub suits : Setting → Op → World → Bool
suits b (Converts how v) w = is_convertible w.memory.table v
suits b (Calculates op k v x) w = are_operands op k v x
suits b (CalculatesOne op k v) w = is_of_promoted k v
suits b (Tests v) w = knows_worth w.memory.table v
suits b (Negates v) w = knows_worth w.memory.table v
suits b (Needs v) w = is_integer v
suits b (Moves minus first size v x) w = is_size size && can_shift w.memory.table v x
suits b (Subtracts size v x) w = is_size size && (nat_le 1 size && knows_both w.memory.table v x)
suits b (Orders op v x) w = is_order op && knows_both w.memory.table v x
suits b (Equals negated v x) w = knows_both w.memory.table v x
suits b (Selects offset v) w = knows_worth w.memory.table v
suits b (Finds t v) w = knows_worth w.memory.table v
suits b (TakesPart offset l v) w = is_size l.size && (has_part v offset l.size && knows_worth w.memory.table v)
suits b (Reads l place rivals) w = (is_complete_in (layouts b.unit) l.t && (nat_le 1 l.size && is_size l.size)) && knows_worth w.memory.table place
suits b (Writes l place v from rivals) w =
    (is_complete_in (layouts b.unit) l.t && (nat_le 1 l.size && is_size l.size)) && (is_stored l.shape l.size v && knows_both w.memory.table place v)
suits b (Asks f args) w = list_all (λ (x : Arg). knows_value w.memory.table x.value) args
-- the others take every value
suits b _ w = true

-- 6.3, 6.5, 6.7.9, 7: what each operation does, one line an operation
abbrev pub works : Setting → Op → World → Done
works b (Converts how v) = converts how v
works b (Calculates op k v x) = λ w. on_set_value v w (λ v. on_set_value x w (λ x. arithmetic_result w (binary_of op k (int_of v) (int_of x))))
works b (CalculatesOne op k v) = λ w. on_set_value v w (λ v. arithmetic_result w (unary_of op k (int_of v)))
works b (Tests v) = tests truth_int v
works b (Negates v) = tests opposite v
works b (Accepts v) = λ w. on_present_value v w (λ v. Answers v w no_telling)
works b (Needs v) = λ w. on_set_value v w (λ v. Answers v w no_telling)
works b (Moves minus first size v x) = moves minus first size v x
works b (Subtracts size v x) = subtracts size v x
works b (Orders op v x) = orders op v x
works b (Equals negated v x) = equals negated v x
works b (Follows nothing v) = follows_to nothing v
works b (Selects offset v) = λ w. on_present_value v w (λ v. moved_by w (pointer_of v) (select w.memory.table (pointer_of v) offset))
works b (Finds t v) = finds (may_call b t) v
works b (TakesPart offset l v) = takes_bytes offset l.size l.shape v
works b (Reads l place rivals) = reads b l place rivals
works b (Writes l place v from rivals) = writes b l place v from rivals
works b (NamesObject o) = λ w. Answers (pointer (object.address_of w (instance_for b o w))) w no_telling
works b (NamesLiteral l) = λ w. Answers (pointer (object.address_of w (object.literal_of w l))) w no_telling
works b (NamesFunction f) = λ w. Answers (pointer (object.address_of w (object.function_of w f))) w no_telling
works b (Makes o) = makes b o
works b (MakesLiteral l) = makes_literal b l
works b (MakesFunction f) = makes_function b f
works b (Ends o) = ends b o
works b (BeginsBody f line) = λ w. Answers Nothing (object.begun_body w f line) no_telling
works b EndsBody = λ w. Answers Nothing (record w { bodies = drop 1 w.bodies }) no_telling
works b (Fills o v) = fills b o v
works b (Puts o offset l v) = puts b o offset l v
works b (PutsText o offset size l) = puts_text b o offset size l
works b (Asks f args) = asks f args

-- 6.9.1p12: on a value that isn't of its expression's type it ends the run as on a value that is missing
abbrev pub does : Setting → Op → World → Done
does b op w = where_suiting (suits b op w) (works b op) w

-- what an operation does in the state of a run (5.1.2.3), for the node in this line
abbrev pub act : Setting → (line : ℕ) → Op → State → Res Worth
act b line op s = after_doing b line (does b op s.world) s
