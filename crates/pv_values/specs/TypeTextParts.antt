-- A bridge: what is left of a type while it is written, from its declarator outwards.
use Rattle.std.specs.Prelude.{ℕ, ◌<◌, false, List, ◌++◌, length}
use Rattle.pv_types.specs.Known.{Known, tree}
use Rattle.pv_types.specs.Formed.{parameters_at}
use Rattle.pv_typed.specs.TypedUnits.{WholeUnit}
use Rattle.pv_values.specs.declared.declarators.Rest.{Rest}
use Rattle.pv_values.specs.declared.declarators.Called.{Called}
use Rattle.pv_values.specs.declared.declarators.Step.{Step}
use Rattle.pv_values.specs.declared.declarators.Step.TheVariants as step
use Rattle.pv_values.specs.TypeTexts.{declared, params_text}

-- 6.7.6p4: all that will be written, where this is left
abbrev pub rest_text : WholeUnit → Known → (levels : ℕ) → Rest → List ℕ
rest_text u k l r = declared u l r.constant (tree k r.t.0) r.declarator.items

-- 6.7.6.3: a function's declarator with its parameters
abbrev pub called_declarator : WholeUnit → Known → (levels : ℕ) → Called → List ℕ
called_declarator u k l c = c.declarator.items ++ params_text u l (parameters_at k c.params) c.variadic

-- 6.7.6p4: all that will be written, where this step was made
abbrev pub step_text : WholeUnit → Known → (levels : ℕ) → Step → List ℕ
step_text u k l (step.Whole text) = text.items
step_text u k l (step.On r) = rest_text u k l r
step_text u k l (step.Calls c) = declared u l false (tree k c.returned.0) (called_declarator u k l c)

-- 6.2.5: what is left are types of lower numbers
abbrev pub IsOutward : Known → (t : ℕ) → Step → Type 0
IsOutward k t (step.Whole text) = Unit {0}
IsOutward k t (step.On r) = r.t.0 < t
IsOutward k t (step.Calls c) = (c.returned.0 < t) × (c.params < length k.lists)
