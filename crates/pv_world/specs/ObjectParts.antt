-- A bridge: what functions answer that do a part of what Objects says.
use Rattle.std.specs.Prelude.{◌++◌, None, length, [], ◌-◌, ℕ, replicate, List, ◌∷◌, drop, Some, Bool, Result}
use Rattle.std.specs.declared.option.Option.{Option}
use Rattle.pv_world.specs.Worlds.{World, Body, Nothing}
use Rattle.pv_world.specs.declared.bodies.Call.{Call}
use Rattle.pv_world.specs.Objects.{owning, bind, begun_body, instance_made, address_of, literal_of, function_of, instance_of, function_bound, literal_bound, with_characters}
use Rattle.pv_world.specs.Doing.{Done, Answers}
use Rattle.pv_shadow.specs.Bytes.{Store}
use Rattle.pv_shadow.specs.declared.byte.Byte.{Byte}
use Rattle.pv_inst.specs.declared.values.Kind.TheVariants.{Literal}
use Rattle.pv_inst.specs.Placing.{Request}
use Rattle.pv_inst.specs.declared.values.Instance.{Instance}
use Rattle.pv_inst.specs.declared.values.Tried.{Tried}
use Rattle.pv_inst.specs.declared.values.CreateError.{CreateError}
use Rattle.pv_prov.specs.declared.names.Prov.TheVariants.{Empty}
use Rattle.pv_watch.specs.declared.event.What.{What}
use Rattle.pv_watch.specs.declared.event.What.TheVariants as what
use Rattle.pv_object.specs.Memory.{Mem}
use Rattle.std.specs.Option.{option_map_or}
use Rattle.pv_world.specs.Worths.{pointer}
use Rattle.pv_world.specs.Telling.{no_telling}
use Rattle.std.specs.FinMap as map

-- 6.5p6: of the instances up to so many, and of the next one, the objects that they were made for
abbrev pub owned_next : List (Option ℕ) → (before : ℕ) → Option ℕ → List (Option ℕ)
owned_next os n o = (os ++ replicate (n - length os) None) ++ o ∷ []

-- the world, with these abstract bytes (the memory model)
abbrev pub with_bytes : World → Store → World
with_bytes w m = record w { memory = record w.memory { bytes = m } }

-- 6.4.5p6: a literal's array
abbrev pub literal_request : (text bytes : List ℕ) → Request
literal_request text bytes = record { text = text; name = 0; size = length bytes; align = 1; kind = Literal }

-- an abstract byte of this value, or of none: without provenance and mark (the memory model)
abbrev pub filling : Option ℕ → Byte
filling v = record { value = v; prov = Empty; index = None; mark = None }

-- the bodies below the innermost one
abbrev pub without_first : List Body → List Body
without_first ms = drop 1 ms

-- an instance that was made (6.2.4p2)
abbrev pub made_row : ℕ → Option Instance → List What
made_row i x = option_map_or (λ (x : Instance). what.Made i x.name x.k x.base x.size ∷ []) x []

-- the memory model: a use that found survivors is told of where its name stood for two before it, a pair of candidates
abbrev pub used_pair : Option ℕ → (test : ℕ) → Tried → List What
used_pair k test tried = option_map_or (λ k. what.Tried k test tried.low tried.high ∷ []) k []

-- 6.2.4p2: the object begins its lifetime with this instance, or why it has none
abbrev pub object_made : World → ℕ → (lasting : Bool) → (name : ℕ) → Result ℕ CreateError × Mem → Done
object_made w o lasting name x = instance_made w name x (λ i M. bind (owning w M i (Some o)) o lasting i)

-- 6.3.2.1p4: a function's instance, or why it has none
abbrev pub function_made : World → ℕ → (name : ℕ) → Result ℕ CreateError × Mem → Done
function_made w f name x = instance_made w name x (λ i M. function_bound (owning w M i (Some f)) f i)

-- 6.4.5p6: a literal's array with its characters, or why it has none
abbrev pub literal_made : World → ℕ → (bytes : List ℕ) → Result ℕ CreateError × Mem → Done
literal_made w l bytes x = instance_made w 0 x (λ i M. with_characters (literal_bound (owning w M i None) l i) i bytes)

-- a string literal is an lvalue: the array that was made for it
abbrev pub names_literal : ℕ → World → Done
names_literal l w = Answers (pointer (address_of w (literal_of w l))) w no_telling

-- an identifier designates its function
abbrev pub names_function : ℕ → World → Done
names_function f w = Answers (pointer (address_of w (function_of w f))) w no_telling

-- a body begins with no objects of its own
abbrev pub begins_body : (function line : ℕ) → World → Done
begins_body f line w = Answers Nothing (begun_body w f line) no_telling

-- a body ends; those below it are left
abbrev pub ends_body : World → Done
ends_body w = Answers Nothing (record w { bodies = drop 1 w.bodies }) no_telling

-- 6.5.1p2: an identifier designates its object
abbrev pub names_object : ℕ → (lasting : Bool) → World → Done
names_object o lasting w = Answers (pointer (address_of w (instance_of w o lasting))) w no_telling

-- 6.5.2.2: the call of a body that was begun
abbrev pub call_of : Body → Call
call_of b = record { function = b.function; line = b.line }

-- 6.2.4p6: the instance of an object in a body
abbrev pub binding_in : (object : ℕ) → Body → Option ℕ
binding_in o b = map.get b.bindings o
