-- Types by declarators (C17 6.7.6, 6.7.7): what a declarator puts round the type that its specifiers name.
use Rattle.std.specs.Prelude.{ℕ, ℤ, pos, negsuc, ◌+◌, ◌*◌, ◌^◌, nat_le, nat_lt, Bool, true, false, ◌&&◌, not, if◌then◌else◌, Some, None, is_some, List, [], ◌∷◌, ◌++◌, length}
use Rattle.std.specs.declared.option.Option.{Option}
use Rattle.pv_types.specs.Adjusted.{is_adjusted}
use Rattle.pv_types.specs.Ty.{Ty, Tys, PointerTo, ArrayOf, FunctionTy, ConstOf, NoTys, MoreTys}
use Rattle.pv_types.specs.Layouts.{Entry, layout_in, is_complete_in}
use Rattle.pv_tree.specs.Syntax.{DeclaratorTree, DeclaredName, ParenDeclarator, Pointer, Array, FunctionDeclarator, OfDeclarator, OptionalTree, Present}
use Rattle.pv_check.specs.Qualified.{with_const}
use Rattle.pv_check.specs.Sorts.{is_array}
use Rattle.pv_types.specs.Sorts.{is_void_in, is_void, bare_type}
use Rattle.pv_typed.specs.TypedTree.{is_function}
use Rattle.pv_check.specs.State.{State, After, Scope, ObjectName, give, env}
use Rattle.pv_check.specs.Scopes.{innermost_scope, declare, behind_scope, is_file_scope}
use Rattle.pv_typed.specs.Constants.{and_then}
use Rattle.pv_check.specs.PrintfFormats.{is_printf}

-- a parameter (6.7.6.3): its type as an object has it, and if it has a name, this and the number of its object
pub record Parameter : Type 0 where
  pub t : Ty
  pub name : Option ℕ
  pub object : Option ℕ

-- a list of parameters, and the scope that it leaves (6.2.1p4)
pub record Signature : Type 0 where
  pub parameters : List Parameter
  pub variadic : Bool
  pub scope : Scope

-- one step from the name outwards (6.7.6p4)
pub data Derivation : Type 0 where
  ByPointer : (constant : Bool) → Derivation
  ByArray : (size : Option ℕ) → Derivation
  ByFunction : (parameters : Tys) → (variadic : Bool) → Derivation

-- the steps of a declarator from its name outwards, and the list of parameters that stands next to the name, if one does (6.9.1p2)
pub record Steps : Type 0 where
  pub list : List Derivation
  pub signature : Option Signature

-- the declarator that is a name alone, or nothing (6.7.6p4, 6.7.7p2)
abbrev pub no_steps : Steps
no_steps = record { list = []; signature = None }

-- 6.7.6p4: one step more
abbrev pub with_step : Steps → Derivation → Steps
with_step x d = record { list = x.list ++ (d ∷ []); signature = x.signature }

-- 6.9.1p2: the list of parameters of the step that is nearest to the name
abbrev pub nearest_parameters : List Derivation → Option Signature → Signature → Option Signature
nearest_parameters [] old g = Some g
nearest_parameters (d ∷ ds) old g = old

-- 6.7.6p2: the name that a declarator declares, and its line
abbrev pub declared_name : DeclaratorTree → Option (ℕ × ℕ)
declared_name (DeclaredName line n) = Some (n, line)
declared_name (ParenDeclarator line d) = declared_name d
declared_name (Pointer line consts d) = declared_name d
declared_name (Array line d size) = declared_name d
declared_name (FunctionDeclarator line d parameters variadic) = declared_name d
declared_name _ = None

-- the name that a declarator declares which may be left out or abstract (6.7.6.3p1)
abbrev pub optional_name : OptionalTree → Option (ℕ × ℕ)
optional_name (Present (OfDeclarator d)) = declared_name d
optional_name _ = None

-- 6.7.6.2p1: the size is greater than zero; and no array has more than 2 ^ 32 elements (5.2.4.1)
abbrev pub size_of : ℤ → Option ℕ
size_of (pos n) = if nat_lt 0 n && nat_le n (2 ^ 32) then Some n else None
size_of (negsuc n) = None

-- 6.7.6.3p15: of a parameter's type in that of its function no qualifiers count
abbrev pub parameter_types : List Parameter → Tys
parameter_types [] = NoTys
parameter_types (p ∷ ps) = MoreTys (bare_type p.t) (parameter_types ps)

-- 6.7.6.3p5: one step more, a function with these parameters
abbrev pub with_function : Steps → Signature → Steps
with_function x g = record { list = x.list ++ (ByFunction (parameter_types g.parameters) g.variadic ∷ []); signature = nearest_parameters x.list x.signature g }

-- 6.7.6.2p1: of a complete object type; no size where `unsized` says so; no more than 2 ^ 32 bytes (5.2.4.1)
abbrev pub array_of : (unsized : Bool) → List Entry → Option ℕ → Ty → Option Ty
array_of unsized env None t = if unsized && is_complete_in env t then Some (ArrayOf t None) else None
array_of unsized env (Some n) t = if is_complete_in env t && nat_le (n * (layout_in env t).size) (2 ^ 32) then Some (ArrayOf t (Some n)) else None

-- one step round a type: a pointer, `const` or not (6.7.6.1p1); an array (6.7.6.2p3) of a complete object type (6.7.6.2p1), without a size where
-- `unsized` says so, and of no more than 2 ^ 32 bytes (5.2.4.1); a function (6.7.6.3p5), whose result is no function and no array (6.7.6.3p1) and
-- bare
abbrev pub step : Bool → List Entry → Derivation → Ty → Option Ty
step unsized env (ByPointer constant) t = with_const constant (PointerTo t)
step unsized env (ByArray n) t = array_of unsized env n t
step unsized env (ByFunction ts variadic) t = if is_function t then None else (if is_array t then None else Some (FunctionTy (bare_type t) ts variadic))

-- 6.7.6p4: the step that is furthest from the name comes first
abbrev pub derived_type : Bool → List Entry → List Derivation → Ty → Option Ty
derived_type unsized env [] t = Some t
derived_type unsized env (d ∷ ds) t = and_then (derived_type unsized env ds t) (step unsized env d)

-- 6.7.6.3p7, p8: a parameter of array type is a pointer to its element, one of function type a pointer to it. 6.7.3p9: no array or
-- function type has a qualifier
abbrev pub adjustment_of : Ty → Option Ty
adjustment_of (ArrayOf t n) = Some (PointerTo t)
adjustment_of (FunctionTy t ts v) = Some (PointerTo (FunctionTy t ts v))
adjustment_of (ConstOf t) = if is_adjusted t then Some (ConstOf t) else None
adjustment_of t = Some t

-- the name of a parameter (6.7.6.3), if it has one
abbrev pub name_of : Option (ℕ × ℕ) → Option ℕ
name_of None = None
name_of (Some (n, line)) = Some n

-- the number of its object (6.2.4), if it has a name
abbrev pub object_of : Option (ℕ × ℕ) → ℕ → Option ℕ
object_of None o = None
object_of (Some (n, line)) o = Some o

-- 6.2.4p5: the unit with an automatic object for a parameter that has a name
abbrev pub with_object : Option (ℕ × ℕ) → Ty → State → State
with_object None t s = s
with_object (Some (n, line)) t s = record s { unit = record s.unit { objects = s.unit.objects ++ (record { name = n + 2; t = t; line = line; lasting = false; braced = false; inits = [] } ∷ []) } }

-- 6.7p3, 6.2.1p7: the parameter's name in the innermost scope, where it is new
abbrev pub with_name : Option (ℕ × ℕ) → State → Option State
with_name None s = Some s
with_name (Some (n, line)) s = declare n (ObjectName (length s.unit.objects)) s

-- 6.7.6.3p2, 6.2.1p7: a parameter, whose name begins behind its declarator
abbrev pub with_parameter : List Parameter → Option (ℕ × ℕ) → State → Ty → Option (After (List Parameter))
with_parameter ps n s t =
    and_then (with_name n s) (λ named.
    give (Some (ps ++ (record { t = t; name = name_of n; object = object_of n (length s.unit.objects) } ∷ []))) (with_object n t named))

-- 6.7.6.3p10: `void` alone, without a name, means no parameters; p4 of 6.7.6.3, 6.9.1p7: else a parameter is an object, not `void`
abbrev pub no_void : List Parameter → Bool
no_void [] = true
no_void (p ∷ ps) = if is_void p.t then false else no_void ps

-- 6.7.6.3p10: the list `(void)`
abbrev pub means_none : List Parameter → Bool
means_none (p ∷ []) = is_void_in p.t && not (is_some p.name)
means_none _ = false

-- the parameters that a list stands for (6.7.6.3p10): none, or objects
abbrev pub proper_parameters : Bool → List Parameter → Option (List Parameter)
proper_parameters variadic ps = if not variadic && means_none ps then Some [] else (if no_void ps then Some ps else None)

-- 6.7.6.3p1: a list of parameters, and the scope that it leaves (6.2.1p4), which ends
abbrev pub signature : Bool → After (List Parameter) → Option (After Signature)
signature variadic a =
    and_then (proper_parameters variadic a.value) (λ ps.
    give (Some (record { parameters = ps; variadic = variadic; scope = innermost_scope a.state.scopes })) (behind_scope a.state))

-- our choice: `...` stands in the declaration of `printf` alone (7.21.6.3p1), at file scope
abbrev pub is_printf_declarator : List (List ℕ) → DeclaratorTree → Bool
is_printf_declarator texts (DeclaredName line n) = is_printf texts (n + 2)
is_printf_declarator texts (ParenDeclarator line d) = is_printf_declarator texts d
is_printf_declarator texts _ = false

-- a list of parameters may end with `...` (6.7.6.3p9)
abbrev pub may_be_variadic : Bool → DeclaratorTree → State → Bool
may_be_variadic true d s = is_file_scope s && is_printf_declarator s.unit.names d
may_be_variadic false d s = true
