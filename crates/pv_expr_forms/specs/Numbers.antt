-- A bridge: the levels that a caller may ask for, by their numbers.
use Rattle.std.specs.Prelude.{ℕ}
use Rattle.pv_expr_forms.specs.declared.levels.Level.{Level}
use Rattle.pv_expr_forms.specs.declared.levels.Level.TheVariants as level

-- 6.5.17, 6.5.16, 6.5.15: the number of a level
abbrev pub level_number : Level → ℕ
level_number level.Comma = 1
level_number level.Assignment = 2
level_number level.Conditional = 3
