-- A bridge: what functions answer that do a part of what Labels says.
use Rattle.std.specs.Prelude.{Bool, ℤ}
use Rattle.pv_typed.specs.TypedStatement.{Statements}
use Rattle.pv_exec.specs.Labels.{has_case, has_default, some_statement}

-- 6.8.4.2p5: a statement of the body has a `case` with this value
abbrev pub some_case : ℤ → Statements → Bool
some_case v xs = some_statement (has_case v) xs

-- 6.8.4.2p5: a statement of the body has a `default`
abbrev pub some_default : Statements → Bool
some_default xs = some_statement has_default xs
