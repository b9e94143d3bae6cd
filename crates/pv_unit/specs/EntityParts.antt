-- A bridge: what functions answer that do a part of what Entities says.
use Rattle.pv_types.specs.Ty.{Ty}
use Rattle.pv_types.specs.Compatible.{are_compatible}
use Rattle.pv_unit.specs.Redeclarations.{function_again, UnitState}
use Rattle.pv_library.specs.LibraryTypes.{prototype}
use Rattle.pv_check.specs.Scopes.{find, innermost_scope}
use Rattle.std.specs.declared.option.Option.{Option}
use Rattle.std.specs.Prelude.{ℕ, Bool, true}
use Rattle.pv_library.specs.declared.library.Library.{Library}
use Rattle.std.specs.Option.{option_map_or}

-- 6.7p4: by what the name stands for at file scope
abbrev pub function_found : ℕ → ℕ → Ty → UnitState → Option (ℕ × UnitState)
function_found n line t u = function_again (find (innermost_scope u.state.scopes).names n) n line t u

-- 7.1.4p2: a declaration of a function of the library has a type that is compatible with its
abbrev pub agrees : Option Library → Ty → Bool
agrees f t = option_map_or (λ f. are_compatible t (prototype f)) f true
