-- Typing translation units (C17 6.9).
use Rattle.std.specs.Prelude.{◌≡◌, ◌<◌, ℕ, ◌+◌, ◌==◌, Bool, true, false, not, ◌&&◌, if◌then◌else◌, List, [], ◌∷◌, ◌++◌, length, take, nat_lt, is_some, Option, Some, None}
use Rattle.pv_token.specs.Table.{Table}
use Rattle.pv_tree.specs.Syntax.{DeclarationTree}
use Rattle.pv_typed.specs.Mains.{literal_text, heap_text, named_main}
use Rattle.pv_typed.specs.TypedUnits.{WholeUnit, TypedObject, TypedFunction, name_at}
use Rattle.pv_library.specs.LibraryNames.{library_named}
use Rattle.pv_check.specs.State.{State, Used, UsedObject, UsedFunction, PointedFunction}
use Rattle.pv_check.specs.Scopes.{no_scope}
use Rattle.pv_typed.specs.Constants.{and_then}
use Rattle.pv_unit.specs.Definitions.{may_end, is_defined}
use Rattle.pv_unit.specs.Redeclarations.{Entity, UnitState, unit_name}
use Rattle.pv_unit.specs.Functions.{typed_external}
use Rattle.std.specs.List.{list_any}

-- 6.9p1: the first external declarations of a unit, one after the other
abbrev pub typed_first : List DeclarationTree → UnitState → Option UnitState
typed_first [] u = Some u
typed_first (d ∷ ds) u = and_then (typed_external d u) (typed_first ds)

-- 6.9.2p2, p3: what the declarations of a unit leave incomplete breaks a constraint of its last one (our choice of the place)
abbrev pub typed_last : List DeclarationTree → UnitState → Option UnitState
typed_last [] u = Some u
typed_last (d ∷ ds) u = if may_end u then Some u else None

-- 6.9p1: the first n external declarations of a unit
unfoldable pub typed_to : List DeclarationTree → (n : ℕ) → UnitState → Option UnitState
typed_to ds n u = if nat_lt n (length ds) then typed_first (take n ds) u else and_then (typed_first ds u) (typed_last ds)

-- ---- names that nothing defines

-- 6.9p5: an expression names the object or the function
abbrev pub uses : Bool → ℕ → Used → Bool
uses false k (UsedObject o) = o == k
uses true k (UsedFunction f) = f == k
uses true k (PointedFunction f) = f == k
uses _ k _ = false

-- 6.9p5: an expression names it, that of sizeof counts as well (our choice), and neither the unit nor the library (7.1.3p1) defines it
abbrev pub is_unresolved : State → Entity → Bool
is_unresolved s e =
    list_any (uses e.function e.number) s.used && (not e.defined && not (e.function && is_some (library_named (name_at s.unit (unit_name e.name)))))

-- 6.9p5: the name of the first one, in the order of their first declarations
abbrev pub first_unresolved : State → List Entity → Option ℕ
first_unresolved s [] = None
first_unresolved s (e ∷ es) = if is_unresolved s e then Some e.name else first_unresolved s es

-- 5.1.2.2.1p1: the unit defines `main`: one of its functions has this name and a body
abbrev pub has_main : WholeUnit → Bool
has_main w = list_any (λ (f : TypedFunction). is_some f.body && named_main w.names f.name) w.functions

-- ---- static objects

-- 6.2.4p3: those with static storage that are defined, from number k on
abbrev pub statics_from : List Entity → ℕ → List TypedObject → List ℕ
statics_from es k [] = []
statics_from es k (o ∷ os) = if o.lasting && is_defined k es then k ∷ statics_from es (k + 1) os else statics_from es (k + 1) os

-- ---- units

-- before the first declaration: the unit's names are those of the tokens, behind two that no token has (6.2.1p4: one scope, of the file)
abbrev pub unit_at_first : Table → UnitState
unit_at_first t = record {
  state = record {
    scopes = no_scope ∷ [];
    unit = record {
      names = literal_text ∷ heap_text ∷ t.names;
      headings = [];
      completed = [];
      objects = [];
      functions = [];
      literals = [];
      instances = [];
      statics = [];
      placed = [];
      tags = [];
      declarations = 0;
    };
    texts = t.texts;
    used = [];
    unevaluated = false;
  };
  entities = [];
  unsized_typedef = false;
}

-- 6.2.4p3: the unit with these static objects
abbrev pub with_statics : List ℕ → WholeUnit → WholeUnit
with_statics os u = record u { statics = u.statics ++ os }

-- ---- functions that are pointed to

-- 6.3.2.1p4: a pointer to the function is evaluated
abbrev pub points : ℕ → Used → Bool
points k (PointedFunction f) = f == k
points k _ = false

-- 6.3.2.1p4, 6.9.1p1: those of the functions that are pointed to that the unit defines, from number k on, in the order of their first declarations
abbrev pub placed_from : List Used → ℕ → List TypedFunction → List ℕ
placed_from us k [] = []
placed_from us k (f ∷ fs) = if is_some f.body && list_any (points k) us then k ∷ placed_from us (k + 1) fs else placed_from us (k + 1) fs

-- 6.3.2.1p4: the unit with these functions that are pointed to
abbrev pub with_placed : List ℕ → WholeUnit → WholeUnit
with_placed fs u = record u { placed = u.placed ++ fs }

-- 6.9p1, 6.2.4p3: the unit behind the last one, with the static objects, and the functions that are pointed to
abbrev pub finished_unit : UnitState → WholeUnit
finished_unit u =
    with_placed (placed_from u.state.used 0 u.state.unit.functions) (with_statics (statics_from u.entities 0 u.state.unit.objects) u.state.unit)

-- 5.1.1.3p1: what comes of a unit: its typing, or why there is none
pub data Checked : Type 0 where
  Typed : WholeUnit → Checked
  Constraint : ℕ → Checked
  Unresolved : ℕ → Checked
  NoMain : Checked

-- 5.1.1.3p1: the first n external declarations have a typing, and one more have none
pub record Breaks (ds : List DeclarationTree) (u : UnitState) (n : ℕ) : Type 0 where
  pub within : n < length ds
  pub before : is_some (typed_to ds n u) ≡ true
  pub at : typed_to ds (n + 1) u ≡ None

-- 6.9p1: all have one
abbrev pub IsTyped : List DeclarationTree → (before behind : UnitState) → Type 0
IsTyped ds before behind = typed_to ds (length ds) before ≡ Some behind

-- 5.1.1.3p1, 6.9p5, 5.1.2.2.1p1: what a unit comes to: the first constraint that is broken, a name without definition, no `main`, its typing
-- worked: unresolved_names, static_objects (proofs/WorkedUnits); pointed_rows, unpointed_rows, refused_rows, undefined_rows
--   (proofs/WorkedPointers)
abbrev pub UnitComes : Table → List DeclarationTree → Checked → Type 0
UnitComes t ds (Constraint n) = Breaks ds (unit_at_first t) n
UnitComes t ds (Unresolved name) = (u : UnitState) × (IsTyped ds (unit_at_first t) u × (first_unresolved u.state u.entities ≡ Some name))
UnitComes t ds NoMain = (u : UnitState) × (IsTyped ds (unit_at_first t) u × (first_unresolved u.state u.entities ≡ None) × (has_main u.state.unit ≡ false))
UnitComes t ds (Typed w) =
    (u : UnitState) × (IsTyped ds (unit_at_first t) u × (first_unresolved u.state u.entities ≡ None) × (has_main u.state.unit ≡ true) × (w ≡ finished_unit u))
