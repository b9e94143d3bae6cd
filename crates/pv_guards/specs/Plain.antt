-- What operations do without their guards (C17 6.2.4, 6.3, 6.5, 6.7.9, 7).
use Rattle.std.specs.Prelude.{ℕ, false, None, if◌then◌else◌}
use Rattle.pv_script.specs.Names.{name_at as text_of}
use Rattle.pv_shadow.specs.Whole.{number_bytes}
use Rattle.pv_typed.specs.TypedUnits.{object_at, function_at, literal_at}
use Rattle.pv_world.specs.Worlds.{Worth, World}
use Rattle.pv_world.specs.Doing.{Done}
use Rattle.pv_world.specs.Accesses.{stored_as}
use Rattle.pv_world.specs.Objects.{makes_object, makes_literal_of, makes_function, ends_object, fills_object, puts_bytes, function_request}
use Rattle.pv_eval.specs.States.{Setting, State, Res, Stops, Unreached}
use Rattle.pv_eval.specs.TypeForms.{size_of}
use Rattle.pv_eval.specs.Acting.{after_doing}
use Rattle.pv_eval.specs.Objects.{request_of, text_for}
use Rattle.pv_exec.specs.Rules.{Rules}
use Rattle.pv_eval.specs.Operations.{Op, Makes, MakesLiteral, MakesFunction, Ends, Fills, Puts, PutsText, works}
use Rattle.pv_guards.specs.Ruled.{has_rule}

-- each operation does what its rule says (6.2.4, 6.3, 6.5, 6.7.9, 7). It is not asked whether its operands are of their types, and not whether
-- an object has a complete type and is made, lives, and has room for what is stored
abbrev pub plain_doing : Setting → Op → World → Done
plain_doing b (Makes o) w = makes_object o (object_at b.unit o).lasting (request_of b (object_at b.unit o)) w
plain_doing b (MakesLiteral l) w = makes_literal_of l (text_of b.unit.names 0) (literal_at b.unit l).bytes w
plain_doing b (MakesFunction f) w = makes_function f (function_request (function_at b.unit f).name (text_of b.unit.names (function_at b.unit f).name)) w
plain_doing b (Ends o) w = ends_object o (object_at b.unit o).lasting w
plain_doing b (Fills o v) w = fills_object o (object_at b.unit o).lasting (size_of b (object_at b.unit o).t) v w
plain_doing b (Puts o offset l v) w = puts_bytes o (object_at b.unit o).lasting offset (stored_as l.number l.shape v) w
plain_doing b (PutsText o offset size l) w = puts_bytes o (object_at b.unit o).lasting offset (number_bytes None 0 (text_for b size l)) w
-- no other operation asks for more than suiting operands
plain_doing b op w = works b op w

-- what an operation does without its guards in the state of a run (5.1.2.3), for the node in this line; on operands for which C has no rule there is no
-- outcome
abbrev pub act_plainly : Setting → (line : ℕ) → Op → State → Res Worth
act_plainly b line op s = if has_rule b op s.world then after_doing b line (plain_doing b op s.world) s else Stops Unreached s

-- what a run without guards goes by (5.1.2.3): there is no outcome where C has no rule
abbrev pub rules : Rules
rules = record { act = act_plainly; total = false }
