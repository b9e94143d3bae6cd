-- A bridge: the tables with one more entry, or with another one in its place.
use Rattle.std.specs.Prelude.{[], ◌∷◌, ◌++◌, ℕ, set, List}
use Rattle.pv_types.specs.Ty.{Ty}
use Rattle.pv_types.specs.Known.{Heading}
use Rattle.pv_types.specs.Layouts.{Completed}
use Rattle.pv_script.specs.Texts.{with_text}
use Rattle.pv_typed.specs.TypedUnits.{WholeUnit, TypedObject, object_at, Store, TypedFunction, function_at}

-- 6.7: one more object
abbrev pub with_object : WholeUnit → TypedObject → WholeUnit
with_object u x = record u { objects = u.objects ++ (x ∷ []) }

-- the object o as x says (6.7), with the stores that it has
abbrev pub with_object_at : WholeUnit → ℕ → TypedObject → WholeUnit
with_object_at u o x = record u { objects = set u.objects o (record x { inits = (object_at u o).inits }) }

-- 6.7.9: one more store of the object o
abbrev pub stored_in : TypedObject → Store → TypedObject
stored_in x i = record x { inits = x.inits ++ (i ∷ []) }

-- 6.7.9: the object o with one more store
abbrev pub with_store : WholeUnit → ℕ → Store → WholeUnit
with_store u o i = record u { objects = set u.objects o (stored_in (object_at u o) i) }

-- 6.9.1: one more function
abbrev pub with_function : WholeUnit → TypedFunction → WholeUnit
with_function u x = record u { functions = u.functions ++ (x ∷ []) }

-- the function f as x says (6.9.1), with the parameters that it has
abbrev pub with_function_at : WholeUnit → ℕ → TypedFunction → WholeUnit
with_function_at u f x = record u { functions = set u.functions f (record x { params = (function_at u f).params }) }

-- 6.2.4p3: the object o is the next with static storage that is made
abbrev pub with_static : WholeUnit → ℕ → WholeUnit
with_static u o = record u { statics = u.statics ++ (o ∷ []) }

-- 6.3.2.1p4: the function f is the next that is pointed to
abbrev pub with_placed : WholeUnit → ℕ → WholeUnit
with_placed u f = record u { placed = u.placed ++ (f ∷ []) }

-- 6.7.2.3: the type is the next with a tag that was completed at file scope
abbrev pub with_tag : WholeUnit → Ty → WholeUnit
with_tag u t = record u { tags = u.tags ++ (t ∷ []) }

-- 6.7.2.3: one more tag without members
abbrev pub with_heading : WholeUnit → Heading → WholeUnit
with_heading u x = record u { headings = u.headings ++ (x ∷ []) }

-- 6.7.2.1p8: one more tag that is completed
abbrev pub with_completed : WholeUnit → Completed → WholeUnit
with_completed u x = record u { completed = u.completed ++ (x ∷ []) }

-- 6.4.2: the name, behind the others where it is new
abbrev pub with_name : WholeUnit → List ℕ → WholeUnit
with_name u text = record u { names = with_text u.names text }
