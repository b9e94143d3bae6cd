-- A bridge: parts of the rules of declarations and initializers, one for each function of the code that makes a part.
use Rattle.std.specs.Prelude.{ℕ, Bool, Some, true, false, if◌then◌else◌, None}
use Rattle.std.specs.declared.option.Option.{Option}
use Rattle.pv_tree.specs.Syntax.{InitializerTree, Initial, Braces}
use Rattle.pv_types.specs.Ty.{Ty}
use Rattle.pv_types.specs.Compatible.{are_compatible}
use Rattle.pv_types.specs.Layouts.{Part}
use Rattle.pv_typed.specs.TypedUnits.{object_at, function_at}
use Rattle.pv_check.specs.State.{State}
use Rattle.pv_check.specs.Scopes.{innermost_scope, find}
use Rattle.pv_typed.specs.Constants.{and_then}
use Rattle.pv_check.specs.Tags.{composite_named}
use Rattle.pv_check.specs.declared.specifiers.Storage.{Storage}
use Rattle.pv_check.specs.declared.specifiers.Storage.TheVariants as storage
use Rattle.pv_check.specs.Composite.{composite_of}
use Rattle.pv_unit.specs.Redeclarations.{with_object_type, with_function_type}
use Rattle.pv_unit.specs.Rules.{Rules, After}
use Rattle.pv_unit.specs.Initializers.{Stores, each_initialized, initializer_stores as part_initialized}
use Rattle.pv_unit.specs.ValueRules.{values, typed_initializer, with_given}

-- 6.7.2.3p7: `struct n ;` or `union n ;`, which is about the innermost scope
abbrev pub composite_alone : (union : Bool) → ℕ → State → Option State
composite_alone union n s = and_then (composite_named union n (find (innermost_scope s.scopes).tags n) s) (λ a. Some a.state)

-- 6.7.1p5: the storage-class specifier `typedef`
abbrev pub is_typedef : Storage → Bool
is_typedef storage.Typedef = true
is_typedef _ = false

-- 6.7p4, 6.2.7p4: an object that is declared once more, with a compatible type: its type is then the composite one
abbrev pub object_composed : ℕ → Ty → State → Option State
object_composed o t s = if are_compatible (object_at s.unit o).t t then Some (with_object_type o (composite_of (object_at s.unit o).t t) s) else None

-- 6.7p4, 6.2.7p4: a function that is declared once more, with a compatible type: its type is then the composite one
abbrev pub function_composed : ℕ → Ty → State → Option State
function_composed f t s = if are_compatible (function_at s.unit f).t t then Some (with_function_type f (composite_of (function_at s.unit f).t t) s) else None

-- 6.7.9p16: the initializers of a list in braces, one after the other
abbrev pub each_of : {S : Type 0} → Rules S → (lasting : Bool) → Part → InitializerTree → S → Option (After S Stores)
each_of r lasting p (Initial line a) s = None
each_of r lasting p (Braces line inits comma) s = each_initialized r lasting p inits s

-- ---- objects

-- 6.7.9p11 to p17: the stores of an initializer into a part of an object
abbrev pub part_stores : (lasting : Bool) → Part → InitializerTree → State → Option (After State Stores)
part_stores lasting p i s = part_initialized values lasting p i s

-- 6.7.9p16: the stores of a list in braces into a part of an object
abbrev pub list_stores : (lasting : Bool) → Part → InitializerTree → State → Option (After State Stores)
list_stores lasting p i s = each_of values lasting p i s

-- 6.7.9: an object with what its initializer gives it
abbrev pub object_given : (lasting : Bool) → ℕ → InitializerTree → State → Option State
object_given lasting o i s = and_then (typed_initializer lasting (object_at s.unit o).t i s) (λ f. Some (with_given o f.value f.state))
