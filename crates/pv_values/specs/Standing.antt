-- Where a run stands: the calls that are active (6.5.2.2), and the named objects that live (6.2.4p2), each with its type, address and value. C17 leaves
-- the form of such a text to its implementation (5.1.1.3p1): docs/FORMATS.md, Where a run stands, has the rules.
use Rattle.std.specs.Prelude.{ℕ, zero, suc, ◌+◌, ◌-◌, min, ◌==◌, ◌||◌, Bool, nat_lt, List, [], ◌∷◌, ◌++◌, length, codes, Option, if◌then◌else◌, slice_get}
use Rattle.std.specs.Option.{option_map_or, option_and_then}
use Rattle.std.specs.FinMap.{get}
use Rattle.std.specs.Fmt.{decimal}
use Rattle.pv_inst.specs.declared.values.Instance.{Instance}
use Rattle.pv_inst.specs.Table.{instance_at}
use Rattle.pv_object.specs.Memory.{Mem}
use Rattle.pv_print.specs.Texts.{address_text}
use Rattle.pv_types.specs.Ty.{Ty}
use Rattle.pv_typed.specs.TypedUnits.{WholeUnit, object_at, name_at}
use Rattle.pv_world.specs.Worlds.{World, Body}
use Rattle.pv_values.specs.TypeTexts.{type_text}
use Rattle.pv_values.specs.Values.{id_text, value_text}

-- 7.21.2p2: a line ends with a line feed
abbrev pub line : List ℕ → List ℕ
line text = text ++ (10 ∷ [])

-- the texts of so many numbers from i on, one behind the other
abbrev pub texts_from : (text : ℕ → List ℕ) → (i count : ℕ) → List ℕ
texts_from text i zero = []
texts_from text i (suc count) = text i ++ texts_from text (i + 1) count

-- ---- objects

-- docs/FORMATS.md, Where a run stands (6.2.4p2): the line of an object of this type that has this instance: its name, type, address, size and value
abbrev pub object_line : WholeUnit → Mem → (word : List ℕ) → Ty → Instance → List ℕ
object_line u M word t x =
    line (word ++ codes " " ++ id_text u x ++ codes " type=" ++ type_text u t ++ codes " address=" ++ address_text x.base ++ codes " size=" ++ decimal x.size
    ++ codes " value=" ++ value_text u M x t)

-- 6.2.4p2: an object is shown while its instance lives
abbrev pub live_object : WholeUnit → Mem → (word : List ℕ) → Ty → Instance → List ℕ
live_object u M word t x = if x.live then object_line u M word t x else []

-- 6.2.4: an object of this type, by the number of its instance, if it has one
abbrev pub object_text : WholeUnit → Mem → (word : List ℕ) → Ty → Option ℕ → List ℕ
object_text u M word t i = option_map_or (live_object u M word t) (option_and_then (instance_at M.table.instances) i) []

-- 6.2.4p6: the instance of object number n of the unit in body number k from the innermost one, if it has one
abbrev pub bound_in_body : World → (k n : ℕ) → Option ℕ
bound_in_body w k n = option_and_then (λ (b : Body). get b.bindings n) (slice_get w.bodies k)

-- 6.2.4p6: an object of the unit, in body number k from the innermost one: it is none of those with static storage (6.2.4p3)
abbrev pub own_text : WholeUnit → World → (k n : ℕ) → List ℕ
own_text u w k n =
    if (object_at u n).lasting then [] else object_text u w.memory (codes "object") (object_at u n).t (bound_in_body w k n)

-- 6.2.4p6: the objects of body number k from the innermost one, in the order of their numbers
abbrev pub objects_text : WholeUnit → World → (k : ℕ) → List ℕ
objects_text u w k = texts_from (own_text u w k) 0 (length u.objects)

-- 6.2.4p3: an object of the unit, where its storage is static
abbrev pub static_text : WholeUnit → World → (n : ℕ) → List ℕ
static_text u w n = if (object_at u n).lasting then object_text u w.memory (codes "static") (object_at u n).t (get w.statics n) else []

-- 6.2.4p3: the objects with static storage, in the order of their numbers
abbrev pub statics_text : WholeUnit → World → List ℕ
statics_text u w = texts_from (static_text u w) 0 (length u.objects)

-- ---- calls

-- docs/FORMATS.md, Where a run stands: the most calls that are shown (6.5.2.2)
abbrev pub most_calls : ℕ
most_calls = 64

-- docs/FORMATS.md, Where a run stands (6.5.2.2): the line of a call: the function that was called, and the line in which it was; of `main` it is the
-- line of its name (5.1.2.2.1p1)
abbrev pub call_line : WholeUnit → (function line : ℕ) → List ℕ
call_line u f l = line (codes "call " ++ name_at u f ++ codes " line=" ++ decimal l)

-- docs/FORMATS.md, Where a run stands (6.5.2.2): call number k from the innermost one, with the objects of its body where it is the innermost, or all are
-- wanted
abbrev pub body_text : WholeUnit → World → (all : Bool) → (k : ℕ) → Body → List ℕ
body_text u w all k b = call_line u b.function b.line ++ (if all || k == 0 then objects_text u w k else [])

-- 6.5.2.2: the same by its number
abbrev pub call_text : WholeUnit → World → (all : Bool) → (k : ℕ) → List ℕ
call_text u w all k = option_map_or (body_text u w all k) (slice_get w.bodies k) []

-- docs/FORMATS.md, Where a run stands (6.5.2.2): how many calls more there are
abbrev pub more_calls : (calls : ℕ) → List ℕ
more_calls n = if nat_lt most_calls n then line (codes "calls more=" ++ decimal (n - most_calls)) else []

-- docs/FORMATS.md, Where a run stands (5.1.2.3): what there is where a run stands: the calls, the innermost first, with the objects of its body, or of
-- each where all are wanted; and then those with static storage too
-- worked: calls, no_calls, ended_object
abbrev pub state_text : WholeUnit → World → (all : Bool) → List ℕ
state_text u w all =
    texts_from (call_text u w all) 0 (min (length w.bodies) most_calls) ++ more_calls (length w.bodies) ++ (if all then statics_text u w else [])
