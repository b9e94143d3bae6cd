-- Texts of a small unit's types, values and states, worked out by hand. Numbers and addresses are left unwritten.
use Rattle.std.specs.Prelude.{◌≡◌, ℕ, Bool, true, false, List, [], ◌∷◌, ◌++◌, map, codes, Some, None}
use Rattle.std.proofs.Common.{refl}
use Rattle.std.specs.FinMap.{empty}
use Rattle.std.specs.Fmt.{decimal}
use Rattle.pv_num.specs.declared.kinds.IntKind.TheVariants as kind
use Rattle.pv_prov.specs.declared.names.Prov.TheVariants.{Empty, Inst, Pair}
use Rattle.pv_inst.specs.declared.values.Instance.{Instance}
use Rattle.pv_inst.specs.declared.values.Kind.{Kind}
use Rattle.pv_inst.specs.declared.values.Kind.TheVariants.{Declared, Heap, Function}
use Rattle.pv_inst.specs.Table.{Table}
use Rattle.pv_object.specs.Memory.{Mem}
use Rattle.pv_print.specs.Texts.{address_text}
use Rattle.pv_types.specs.Ty.{Ty, VoidTy, IntTy, PointerTo, ArrayOf, StructTag, UnionTag, FunctionTy, ConstOf, NoTys, MoreTys}
use Rattle.pv_types.specs.Layouts.{layouts_of}
use Rattle.pv_typed.specs.TypedUnits.{WholeUnit, TypedObject}
use Rattle.pv_world.specs.Worlds.{World, Body}
use Rattle.pv_values.specs.TypeTexts.{type_text}
use Rattle.pv_values.specs.Values.{integer_text, pointer_text, value_at}
use Rattle.pv_values.specs.Standing.{state_text, live_object}

-- ---- a unit: struct node { int value; struct node *next; }, a structure without a tag, and five objects

abbrev object : (name : ℕ) → Ty → (lasting : Bool) → TypedObject
object name t lasting = record { name = name; t = t; line = 1; lasting = lasting; braced = false; inits = [] }

abbrev int : Ty
int = IntTy kind.Int

abbrev unit : WholeUnit
unit = record {
  names = codes "@lit" ∷ codes "@heap" ∷ codes "node" ∷ codes "value" ∷ codes "next" ∷ codes "f" ∷ codes "main" ∷ codes "a" ∷ codes "b" ∷ codes "p" ∷ codes "all" ∷ [];
  headings = record { name = Some 0; union = false } ∷ record { name = None; union = true } ∷ [];
  completed = record { tag = 0; union = false; members = record { name = 1; t = int } ∷ record { name = 2; t = PointerTo (StructTag 0) } ∷ [] } ∷ [];
  objects = object 7 (ArrayOf int (Some 2)) false ∷ object 8 (StructTag 0) false ∷ object 8 int false ∷ object 9 (PointerTo int) false ∷ object 10 int true ∷ [];
  functions = [];
  literals = [];
  instances = [];
  statics = 4 ∷ [];
  placed = [];
  tags = [];
  declarations = 3;
}

-- ---- types

type_names : map (type_text unit)
    (int ∷ ArrayOf (PointerTo int) (Some 3) ∷ PointerTo (ArrayOf int (Some 3)) ∷ PointerTo (FunctionTy int NoTys false) ∷ ConstOf (PointerTo (ConstOf (IntTy kind.Char)))
    ∷ PointerTo (ConstOf (PointerTo (IntTy kind.ULong))) ∷ PointerTo (StructTag 0) ∷ UnionTag 1 ∷ ConstOf (ArrayOf int None) ∷ FunctionTy VoidTy (MoreTys int (MoreTys (PointerTo VoidTy) NoTys)) true
    ∷ PointerTo (FunctionTy (PointerTo (FunctionTy VoidTy (MoreTys int NoTys) false)) (MoreTys (PointerTo (FunctionTy VoidTy (MoreTys int NoTys) false)) NoTys) false) ∷ [])
    ≡ codes "int" ∷ (codes "int *[" ++ decimal 3 ++ codes "]") ∷ (codes "int (*)[" ++ decimal 3 ++ codes "]") ∷ codes "int (*)(void)" ∷ codes "const char *const"
    ∷ codes "unsigned long *const *" ∷ codes "struct node *" ∷ codes "union {..}" ∷ codes "const int []" ∷ codes "void (int, void *, ...)"
    ∷ codes "void (*(*)(void (*)(int)))(int)" ∷ []
type_names = refl

-- ---- values

abbrev instance : (name k base size : ℕ) → Kind → (live : Bool) → Instance
instance name k base size kind live = record { name = name; k = k; base = base; size = size; kind = kind; live = live; exposed = true }

-- a (1), b (2) behind it, an allocation that has ended (3), the function f (4), p (5), all (6), an earlier b that has ended (7)
abbrev table : Table
table = record {
  script = [];
  instances =
      instance 7 1 4096 8 (Declared false) true ∷ instance 8 2 4104 16 (Declared false) true ∷ instance 1 1 8192 16 Heap false ∷ instance 5 1 12288 1 Function true
      ∷ instance 9 1 16384 8 (Declared false) true ∷ instance 10 1 20480 4 (Declared false) true ∷ instance 8 1 24576 4 (Declared false) false ∷ [];
  pairs = record { low = 1; high = 2; keeps_low = true; keeps_high = true } ∷ record { low = 1; high = 2; keeps_low = false; keeps_high = true } ∷ [];
  cursor = 65536;
  counts = empty;
  pending = [];
  zap = true;
}

integers : map (integer_text kind.Int) (Some 7 ∷ Some 4294967291 ∷ None ∷ []) ≡ decimal 7 ∷ (45 ∷ decimal 5) ∷ codes "unset" ∷ []
integers = refl

traps : map (integer_text kind.Bool) (Some 1 ∷ Some 2 ∷ None ∷ []) ≡ decimal 1 ∷ codes "trap" ∷ codes "unset" ∷ []
traps = refl

-- an address by its instance
abbrev place : (name : List ℕ) → (k : ℕ) → (sign : List ℕ) → (distance : ℕ) → (remark : List ℕ) → List ℕ
place name k sign d remark = codes "{" ++ (name ++ codes "#" ++ decimal k) ++ (sign ++ decimal d) ++ remark ++ codes "}"

pointers : map (pointer_text unit table)
    (None ∷ Some (0, Some Empty) ∷ Some (0, None) ∷ Some (4100, Some (Inst 1)) ∷ Some (4104, Some (Inst 1)) ∷ Some (4092, Some (Inst 1)) ∷ Some (4108, Some (Inst 1)) ∷ Some (8192, Some (Inst 3))
    ∷ Some (12288, Some (Inst 4)) ∷ Some (4100, None) ∷ Some (100, None) ∷ [])
    ≡ codes "unset" ∷ codes "null" ∷ codes "null" ∷ place (codes "a") 1 (codes " + ") 4 [] ∷ place (codes "a") 1 (codes " + ") 8 (codes ", one past the end")
    ∷ place (codes "a") 1 (codes " - ") 4 (codes ", outside") ∷ place (codes "a") 1 (codes " + ") 12 (codes ", outside") ∷ place (codes "@heap") 1 (codes " + ") 0 (codes ", ended")
    ∷ codes "f" ∷ place (codes "a") 1 (codes " + ") 4 [] ∷ (address_text 100 ++ codes " of no object") ∷ []
pointers = refl

abbrev end_of_a : List ℕ
end_of_a = place (codes "a") 1 (codes " + ") 8 (codes ", one past the end")

abbrev first_of_b : List ℕ
first_of_b = place (codes "b") 2 (codes " + ") 0 []

-- a pair that keeps both, one that was settled, and a number that finds both
pairs : map (pointer_text unit table) (Some (4104, Some (Pair 1)) ∷ Some (4104, Some (Pair 2)) ∷ Some (4104, None) ∷ [])
    ≡ (codes "pair " ++ decimal 1 ++ codes " " ++ (end_of_a ++ codes " or " ++ first_of_b)) ∷ (codes "pair " ++ decimal 2 ++ codes " " ++ first_of_b)
    ∷ (address_text 4104 ++ codes " " ++ (end_of_a ++ codes " or " ++ first_of_b)) ∷ []
pairs = refl

-- ---- parts, of what has no bytes

aggregates : (M : Mem) → map (value_at unit M None 3 0) (ArrayOf int (Some 2) ∷ ArrayOf (StructTag 0) (Some 1) ∷ ArrayOf int None ∷ UnionTag 1 ∷ [])
    ≡ codes "[unset, unset]" ∷ codes "[{.value = unset, .next = unset}]" ∷ codes ".." ∷ codes ".." ∷ []
unfolding layouts_of
aggregates M = refl

-- seventeen elements, and a fourth level
bounds : (M : Mem) → map (value_at unit M None 3 0) (ArrayOf int (Some 17) ∷ ArrayOf (ArrayOf (ArrayOf (ArrayOf int (Some 1)) (Some 1)) (Some 1)) (Some 1) ∷ [])
    ≡ codes "[unset, unset, unset, unset, unset, unset, unset, unset, unset, unset, unset, unset, unset, unset, unset, unset, ..]" ∷ codes "[[[..]]]" ∷ []
unfolding layouts_of
bounds M = refl

-- ---- states

abbrev body : (function line : ℕ) → Body
body f l = record { function = f; line = l; bindings = empty }

abbrev world : Mem → List Body → World
world M bs = record { memory = M; owners = []; statics = empty; literals = empty; functions = empty; bodies = bs }

-- the innermost call first, with its own line; a unit without objects
calls : (M : Mem) → state_text (record unit { objects = [] }) (world M (body 5 3 ∷ body 6 9 ∷ [])) true
    ≡ (codes "call f line=" ++ decimal 3 ++ codes "\n") ++ [] ++ ((codes "call main line=" ++ decimal 9 ++ codes "\n") ++ [] ++ []) ++ [] ++ []
calls M = refl

-- where `main` has returned
no_calls : (M : Mem) → state_text (record unit { objects = [] }) (world M []) false ≡ []
no_calls M = refl

-- an object of a block that was left is not shown
ended_object : (M : Mem) → live_object unit M (codes "object") int (instance 8 1 24576 4 (Declared false) false) ≡ []
ended_object M = refl
