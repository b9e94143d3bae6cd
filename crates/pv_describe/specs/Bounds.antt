-- A bridge: sizes that the text of a layout can have.
use Rattle.std.specs.Prelude.{◌≤◌, ◌^◌, ℕ}
use Rattle.pv_types.specs.Ty.{StructTag}
use Rattle.pv_types.specs.Known.{Known, env}
use Rattle.pv_types.specs.Layouts.{layout_in}

-- no structure or union takes more than 2^32 bytes
abbrev pub AreSmall : Known → Type 0
AreSmall m = (n : ℕ) → (layout_in (env m) (StructTag n)).size ≤ 2 ^ 32
