-- A bridge: what functions answer that do a part of what Addresses says.
use Rattle.pv_typed.specs.TypedUnits.{object_at, WholeUnit}
use Rattle.pv_typed.specs.declared.values.Const.TheVariants as const
use Rattle.pv_typed.specs.declared.values.Const.{Const}
use Rattle.std.specs.Prelude.{ℕ, if◌then◌else◌, None, Option, Some, unwrap_or}

-- 6.2.4p3, 6.6p9: an object with static storage is a place that is constant
abbrev pub lasting_at : WholeUnit → ℕ → Option Const
lasting_at u o = if (object_at u o).lasting then Some (const.Address o 0) else None

-- a size (6.5.3.4p2), or 0 where there is none
abbrev pub or_zero : Option ℕ → ℕ
or_zero o = unwrap_or o 0
