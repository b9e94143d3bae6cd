-- A bridge: how the code keeps which instance an object has (6.2.4): a few bindings in the order in which they were made, and the others.
use Rattle.std.specs.Prelude.{ℕ, ◌==◌, List, [], ◌∷◌, Option, None, Some, if◌then◌else◌}
use Rattle.std.specs.FinMap.{insert}
use Rattle.std.specs.Option.{option_or}
use Rattle.pv_world.specs.Worlds.{Bindings}

-- 6.2.4: these bindings, made one after the other
abbrev pub with_bindings : Bindings → List (ℕ × ℕ) → Bindings
with_bindings m [] = m
with_bindings m (e ∷ es) = with_bindings (insert m e.0 e.1) es

-- 6.2.4: the last of these bindings of a number
abbrev pub last_at : List (ℕ × ℕ) → ℕ → Option ℕ
last_at [] n = None
last_at (e ∷ es) n = option_or (last_at es n) (if n == e.0 then Some e.1 else None)
