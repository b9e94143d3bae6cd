-- A bridge: what functions answer that do a part of what Initializers says.
use Rattle.pv_types.specs.Ty.{Ty}
use Rattle.pv_types.specs.Layouts.{Part, Completed}
use Rattle.pv_unit.specs.Initializers.{Single, Shape, filling, is_zero, shape_of, Stores, one, single_store, is_braces, is_filling}
use Rattle.pv_unit.specs.Parts.{is_text, part_at, first_leaf, aggregate_layer}
use Rattle.pv_unit.specs.Rules.{Rules, After}
use Rattle.pv_tree.specs.Syntax.{ExpressionTree, InitializerTree}
use Rattle.std.specs.Prelude.{List, ◌&&◌, Bool, not, ◌||◌, None, ℕ, if◌then◌else◌, Some, Option, option_and_then, unwrap_or, false}
use Rattle.pv_typed.specs.TypedTree.{TypedTree}
use Rattle.pv_typed.specs.TypedUnits.{ValueOf}
use Rattle.pv_types.specs.Sorts.{bare_type}
use Rattle.std.specs.Option.{option_map_or}

-- 6.7.9p14: string literals where they fill an array, or else the other shape
abbrev pub or_shape : Option Shape → Shape → Shape
or_shape o x = unwrap_or o x

-- 6.7.9p11, p13, p14: an expression without braces
abbrev pub expression_shape : Ty → ExpressionTree → Shape
expression_shape t a = or_shape (filling (is_text t) a) (Single a)

-- 6.7.9p20: the part that the list `{0}` begins with has parts itself
abbrev pub has_deep_part : Option Part → Bool
has_deep_part p = option_map_or (λ (p : Part). aggregate_layer (bare_type p.t)) p false

-- 6.7.9p20: the list `{0}` for an object whose first part has parts
abbrev pub begins_deep : List Completed → Part → ExpressionTree → Bool
begins_deep done p a = is_zero a && has_deep_part (part_at done p 0)

-- 6.7.9p4: what initializes a lasting object is constant
abbrev pub is_allowed : {S : Type 0} → Rules S → (lasting : Bool) → S → TypedTree → Bool
is_allowed r lasting s e = not lasting || r.constant s e

-- 6.7.9p4: one store of a value that may stand there; what initializes a lasting object is constant
abbrev pub as_constant : {S : Type 0} → Rules S → (lasting : Bool) → Part → ℕ → S → TypedTree → Option (After S Stores)
as_constant r lasting p line s e = if not lasting || r.constant s e then Some (one p line (ValueOf e) s) else None

-- 6.7.9p11: a part of the unqualified version of its type
abbrev pub unqualified_part : Part → Part
unqualified_part p = record { offset = p.offset; t = bare_type p.t }

-- 6.7.9p20: of the list `{0}`, the first scalar of the first part
abbrev pub zero_leaf : List Completed → Part → Option Part
zero_leaf done p = option_and_then (first_leaf done) (part_at done p 0)

-- 6.7.9p20, p21: the first scalar of the first part gets the zero of `{0}`
abbrev pub zero : {S : Type 0} → Rules S → (lasting : Bool) → Part → ExpressionTree → S → Option (After S Stores)
zero r lasting p a s = option_and_then (λ leaf. single_store r lasting leaf a s) (option_and_then (first_leaf (r.completed s)) (part_at (r.completed s) p 0))

-- 6.7.9p14, p16, p21: a list in braces, or string literals that fill an array
abbrev pub is_braced : List Completed → Part → InitializerTree → Bool
is_braced done p i = is_braces i || is_filling (shape_of done p i)
