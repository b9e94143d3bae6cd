-- Objects and literals: their instances, their places, and the stores of initialisers and parameters.
use Rattle.std.specs.Prelude.{ℕ, ◌+◌, ◌-◌, Bool, List, [], ◌∷◌, ◌++◌, length, replicate, Some, None, if◌then◌else◌, ◌==◌, slice_index_or, Result, Ok, Err, unwrap_or}
use Rattle.std.specs.declared.option.Option.{Option}
use Rattle.std.specs.FinMap as map
use Rattle.pv_prov.specs.declared.names.Prov.TheVariants.{Empty, Inst}
use Rattle.pv_inst.specs.declared.values.Kind.TheVariants.{Literal, Function, Declared}
use Rattle.pv_inst.specs.declared.values.CreateError.{CreateError}
use Rattle.pv_inst.specs.Table.{instance_at}
use Rattle.pv_inst.specs.Infos.{base_of}
use Rattle.pv_inst.specs.Placing.{Request}
use Rattle.pv_shadow.specs.declared.byte.Byte.{Byte}
use Rattle.pv_shadow.specs.Bytes.{with_bytes_at}
use Rattle.pv_shadow.specs.Whole.{number_bytes}
use Rattle.pv_object.specs.declared.values.Pointer.{Pointer}
use Rattle.pv_object.specs.Memory.{Mem}
use Rattle.pv_object.specs.Creating.{creation, without}
use Rattle.pv_watch.specs.declared.event.What.TheVariants as what
use Rattle.pv_world.specs.Worlds.{Nothing, World, Body, Halts, Refused}
use Rattle.pv_world.specs.Telling.{no_telling, telling, event_of_making}
use Rattle.pv_world.specs.Doing.{Done, Answers, Fails}

-- 6.9.1: a body begins, with no objects of its own: of this function, for the call in this line
abbrev pub begun_body : World → (function line : ℕ) → World
begun_body w f line = record w { bodies = record { function = f; line = line; bindings = map.empty } ∷ w.bodies }

-- 6.2.4p6: the instance of an object in the innermost body
abbrev pub bound_in : List Body → ℕ → Option ℕ
bound_in [] o = None
bound_in (m ∷ ms) o = map.get m.bindings o

-- 6.2.4p6: in the innermost body, the object has this instance from now on
abbrev pub bind_in : List Body → ℕ → ℕ → List Body
bind_in [] o i = []
bind_in (m ∷ ms) o i = record m { bindings = map.insert m.bindings o i } ∷ ms

-- 6.2.1, 6.2.4: the instance of an object in scope, if it has one; one with static storage is no body's
abbrev pub bound_to : World → ℕ → (lasting : Bool) → Option ℕ
bound_to w o lasting = if lasting then map.get w.statics o else bound_in w.bodies o

-- 6.2.4: the number of the instance of an object
abbrev pub instance_of : World → ℕ → (lasting : Bool) → ℕ
instance_of w o lasting = unwrap_or (bound_to w o lasting) 0

-- 6.2.4: the object has this instance from now on
abbrev pub bind : World → ℕ → (lasting : Bool) → ℕ → World
bind w o lasting i = if lasting then record w { statics = map.insert w.statics o i } else record w { bodies = bind_in w.bodies o i }

-- 6.5p6: the object that an instance was made for, which has a declared type
abbrev pub owner_of : World → ℕ → Option ℕ
owner_of w i = if i == 0 then None else slice_index_or w.owners (i - 1) None

-- where an instance begins (the memory model: storage instance)
abbrev pub base_in : World → ℕ → ℕ
base_in w i = base_of (instance_at w.memory.table.instances i)

-- 6.5.3.2p3: the pointer to the first byte of an instance, with the instance for its provenance (the memory model)
abbrev pub address_of : World → ℕ → Pointer
address_of w i = record { address = base_in w i; prov = Inst i }

-- 6.5.1p4: the instance of a literal
abbrev pub literal_of : World → ℕ → ℕ
literal_of w l = unwrap_or (map.get w.literals l) 0

-- 6.5p6: the world in which the instance was made for the object, and all before it for what they were
abbrev pub owning : World → Mem → ℕ → Option ℕ → World
owning w M i o = record w { memory = M; owners = (w.owners ++ replicate ((i - 1) - length w.owners) None) ++ o ∷ [] }

-- 6.2.4: the request for an object's storage instance (the memory model)
abbrev pub object_request : (name : ℕ) (text : List ℕ) (size align : ℕ) (constant : Bool) → Request
object_request name text size align constant = record { text = text; name = name; size = size; align = align; kind = Declared constant }

-- 6.2.4p2, 6.4.5p6: what a request came to: the world with the new instance, or why there is none
abbrev pub instance_made : World → (name : ℕ) → Result ℕ CreateError × Mem → (ℕ → Mem → World) → Done
instance_made w name (Ok i, M) go = Answers Nothing (go i M) (telling (event_of_making M.table i))
instance_made w name (Err e, M) go = Fails (Halts (Refused name e)) None (record w { memory = M }) no_telling

-- 6.2.4p2: the object begins its lifetime
abbrev pub makes_object : ℕ → (lasting : Bool) → Request → World → Done
makes_object o lasting r w = instance_made w r.name (creation w.memory r) (λ i M. bind (owning w M i (Some o)) o lasting i)

-- 6.2.4p2: an instance ends; its address may be used again, its number never (the memory model)
abbrev pub ends_instance : World → ℕ → Done
ends_instance w i = Answers Nothing (record w { memory = without w.memory i }) (telling (what.Ended i ∷ []))

-- 6.2.4p2: the object ends its lifetime
abbrev pub ends_object : ℕ → (lasting : Bool) → World → Done
ends_object o lasting w = ends_instance w (instance_of w o lasting)

-- 6.2.6.1p4: the abstract bytes from an address on become these
abbrev pub put_at : World → (address : ℕ) → List Byte → World
put_at w a bytes = record w { memory = record w.memory { bytes = with_bytes_at w.memory.bytes a bytes } }

-- 6.4.5p6: the literal has this instance
abbrev pub literal_bound : World → ℕ → ℕ → World
literal_bound w l i = record w { literals = map.insert w.literals l i }

-- 6.4.5p6: its bytes are the characters
abbrev pub with_characters : World → (i : ℕ) → (bytes : List ℕ) → World
with_characters w i bytes = put_at w (base_in w i) (number_bytes None 0 bytes)

-- 6.4.5p6: a literal's array is made, with its characters
abbrev pub makes_literal_of : ℕ → (text bytes : List ℕ) → World → Done
makes_literal_of l text bytes w =
    instance_made w 0 (creation w.memory (record { text = text; name = 0; size = length bytes; align = 1; kind = Literal }))
    (λ i M. with_characters (literal_bound (owning w M i None) l i) i bytes)

-- 6.3.2.1p4: the instance of a function
abbrev pub function_of : World → ℕ → ℕ
function_of w f = unwrap_or (map.get w.functions f) 0

-- 6.3.2.1p4: the request for the storage instance of a function (the memory model): one byte, which is never accessed
abbrev pub function_request : (name : ℕ) (text : List ℕ) → Request
function_request name text = record { text = text; name = name; size = 1; align = 1; kind = Function }

-- 6.3.2.1p4: the function has this instance
abbrev pub function_bound : World → ℕ → ℕ → World
function_bound w f i = record w { functions = map.insert w.functions f i }

-- 6.3.2.1p4: a function that is pointed to has an instance, which never ends
abbrev pub makes_function : ℕ → Request → World → Done
makes_function f r w = instance_made w r.name (creation w.memory r) (λ i M. function_bound (owning w M i (Some f)) f i)

-- 6.7.9p10, p19, p21: every byte of an object becomes this one, or has no value; without provenance and mark (the memory model)
abbrev pub fills_object : ℕ → (lasting : Bool) → (size : ℕ) → Option ℕ → World → Done
fills_object o lasting size v w =
    Answers Nothing (put_at w (base_in w (instance_of w o lasting)) (replicate size (record { value = v; prov = Empty; index = None; mark = None }))) no_telling

-- 6.7.9p11, p14, 6.9.1p10: the bytes of an object from an offset on become these. Nothing is checked
abbrev pub puts_bytes : ℕ → (lasting : Bool) → (offset : ℕ) → List Byte → World → Done
puts_bytes o lasting offset bytes w = Answers Nothing (put_at w (base_in w (instance_of w o lasting) + offset) bytes) no_telling
