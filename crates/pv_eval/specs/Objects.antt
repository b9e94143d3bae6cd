-- Objects and literals of a unit (C17 6.2.4, 6.4.5, 6.7.9): their instances, their places, and the stores of initialisers and
-- parameters. In a checked unit all of these can be done. One that can't, does nothing: of an object without a complete type, or with
-- the name of allocations; in an instance that isn't live, or past its end; of a value that isn't one of the type.
use Rattle.std.specs.Prelude.{ℕ, Bool, not, ◌&&◌, ◌==◌, List, Option, None, take, length, nat_le, if◌then◌else◌}
use Rattle.pv_script.specs.Names.{name_at as text_of}
use Rattle.pv_inst.specs.Placing.{Request}
use Rattle.pv_shadow.specs.Whole.{number_bytes}
use Rattle.pv_types.specs.Ty.{Ty}
use Rattle.pv_types.specs.Layouts.{is_complete_in}
use Rattle.pv_typed.specs.TypedUnits.{TypedObject, layouts, object_at, function_at, literal_at}
use Rattle.pv_world.specs.Worlds.{Worth, Nothing, World}
use Rattle.pv_world.specs.Telling.{no_telling}
use Rattle.pv_world.specs.Doing.{Done, Answers}
use Rattle.pv_world.specs.Accesses.{stored_as}
use Rattle.pv_world.specs.Objects as object
use Rattle.pv_eval.specs.States.{Setting}
use Rattle.pv_eval.specs.TypeForms.{Lvalue, size_of, align_of, is_constant}
use Rattle.pv_world.specs.Suiting.{is_size, is_stored, knows_worth, is_live, has_room}

-- what is done to an object (6.2.4, 6.7.9) is nothing where it can't be done, which never comes in a checked unit
abbrev pub where_possible : Bool → World → Done → Done
where_possible can w d = if can then d else Answers Nothing w no_telling

-- 6.2.5p1: a complete type, whose size is known
abbrev pub has_extent : Setting → Ty → Bool
has_extent b t = is_complete_in (layouts b.unit) t && is_size (size_of b t)

-- 7.22.3: the number of the name that allocations have
abbrev pub heap_name : ℕ
heap_name = 1

-- 6.2.4p2: the storage instance that an object is to have: its name, its size, its alignment (6.2.8), and whether it is const-qualified
abbrev pub request_of : Setting → TypedObject → Request
request_of b x = object.object_request x.name (text_of b.unit.names x.name) (size_of b x.t) (align_of b x.t) (is_constant x.t)

-- 6.2.5p1: an object of a complete type, whose name isn't that of allocations
abbrev pub can_make : Setting → TypedObject → Bool
can_make b x = has_extent b x.t && not (x.name == heap_name)

-- 6.2.4p2: the lifetime of an object begins, if its type is complete (6.2.5p1) and its name isn't that of allocations
abbrev pub makes : Setting → ℕ → World → Done
makes b o w = where_possible (can_make b (object_at b.unit o)) w (object.makes_object o (object_at b.unit o).lasting (request_of b (object_at b.unit o)) w)

-- 6.5.1p2: the storage instance of an object in scope
abbrev pub instance_for : Setting → ℕ → World → ℕ
instance_for b o w = object.instance_of w o (object_at b.unit o).lasting

-- 6.2.4p2: its lifetime ends
abbrev pub ends : Setting → ℕ → World → Done
ends b o w = where_possible (is_live w (instance_for b o w)) w (object.ends_object o (object_at b.unit o).lasting w)

-- 6.4.5p6: the array of a literal is made; it has an element at least, its zero
abbrev pub makes_literal : Setting → ℕ → World → Done
makes_literal b l w =
    where_possible (nat_le 1 (length (literal_at b.unit l).bytes)) w (object.makes_literal_of l (text_of b.unit.names 0) (literal_at b.unit l).bytes w)

-- 6.3.2.1p4: a function that is pointed to has an instance, if its name isn't that of allocations, as none's in a checked unit is
abbrev pub makes_function : Setting → ℕ → World → Done
makes_function b f w =
    where_possible (not ((function_at b.unit f).name == heap_name)) w
    (object.makes_function f (object.function_request (function_at b.unit f).name (text_of b.unit.names (function_at b.unit f).name)) w)

-- 6.7.9p10: an object that lives, with room for its type
abbrev pub can_fill : Setting → ℕ → World → Bool
can_fill b o w = is_size (size_of b (object_at b.unit o).t) && has_room w (instance_for b o w) 0 (size_of b (object_at b.unit o).t)

-- 6.7.9p10, p19, p21: every byte of an object becomes this one
abbrev pub fills : Setting → ℕ → Option ℕ → World → Done
fills b o v w = where_possible (can_fill b o w) w (object.fills_object o (object_at b.unit o).lasting (size_of b (object_at b.unit o).t) v w)

-- 6.7.9p11, 6.9.1p10: an object that lives, with room for a value that is one of the type
abbrev pub can_put : Setting → ℕ → (offset : ℕ) → Lvalue → Worth → World → Bool
can_put b o offset l v w = is_size l.size && ((is_stored l.shape l.size v && knows_worth w.memory.table v) && has_room w (instance_for b o w) offset l.size)

-- 6.7.9p11, p13, 6.9.1p10: a store of an initialiser, or of a parameter, which checks nothing
abbrev pub puts : Setting → ℕ → (offset : ℕ) → Lvalue → Worth → World → Done
puts b o offset l v w =
    where_possible (can_put b o offset l v w) w (object.puts_bytes o (object_at b.unit o).lasting offset (stored_as l.number l.shape v) w)

-- 6.7.9p14: the first characters of a string, as many as the array has elements
abbrev pub text_for : Setting → (size literal : ℕ) → List ℕ
text_for b size l = take size (literal_at b.unit l).bytes

-- 6.7.9p14: an object that lives, with room for them
abbrev pub can_put_text : Setting → ℕ → (offset size literal : ℕ) → World → Bool
can_put_text b o offset size l w = is_size size && has_room w (instance_for b o w) offset (length (text_for b size l))

-- 6.7.9p14: the array has these characters, perhaps without the zero
abbrev pub puts_text : Setting → ℕ → (offset size literal : ℕ) → World → Done
puts_text b o offset size l w =
    where_possible (can_put_text b o offset size l w) w (object.puts_bytes o (object_at b.unit o).lasting offset (number_bytes None 0 (text_for b size l)) w)
