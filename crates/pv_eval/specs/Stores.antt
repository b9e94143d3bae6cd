-- A bridge: stores in objects without a unit (C17 6.7.9, 6.9.1p10): the object, its bytes and their size are told.
use Rattle.std.specs.Prelude.{ℕ, Bool, ◌&&◌, List, Option, length}
use Rattle.pv_shadow.specs.declared.byte.Byte.{Byte}
use Rattle.pv_world.specs.declared.got.Shape.{Shape}
use Rattle.pv_world.specs.Worlds.{Worth, World}
use Rattle.pv_world.specs.Doing.{Done}
use Rattle.pv_world.specs.Accesses.{stored_as}
use Rattle.pv_world.specs.Objects.{instance_of, fills_object, puts_bytes}
use Rattle.pv_world.specs.Suiting.{is_stored, knows_worth, has_room}
use Rattle.pv_eval.specs.Objects.{where_possible}

-- 6.7.9p10, p19, p21: every one of so many bytes becomes this one, where the object has them
abbrev pub fills_sized : ℕ → (lasting : Bool) → (size : ℕ) → Option ℕ → World → Done
fills_sized o lasting size v w = where_possible (has_room w (instance_of w o lasting) 0 size) w (fills_object o lasting size v w)

-- 6.7.9p11, 6.9.1p10: an object that lives, with room for a value of this shape
abbrev pub can_store : ℕ → (lasting : Bool) → (offset size : ℕ) → Shape → Worth → World → Bool
can_store o lasting offset size s v w = (is_stored s size v && knows_worth w.memory.table v) && has_room w (instance_of w o lasting) offset size

-- 6.7.9p11, 6.9.1p10: a value is stored in so many bytes, as one of a type of this number and shape
abbrev pub stores : ℕ → (lasting : Bool) → (offset size number : ℕ) → Shape → Worth → World → Done
stores o lasting offset size number s v w = where_possible (can_store o lasting offset size s v w) w (puts_bytes o lasting offset (stored_as number s v) w)

-- 6.7.9p11, p14: these bytes are stored, those of a value or the characters of a string
abbrev pub stores_bytes : ℕ → (lasting : Bool) → (offset : ℕ) → List Byte → World → Done
stores_bytes o lasting offset bytes w = where_possible (has_room w (instance_of w o lasting) offset (length bytes)) w (puts_bytes o lasting offset bytes w)
