-- A bridge: which names of a unit stand for allocations, and which requests a script denies (C17 7.22.3).
use Rattle.std.specs.Prelude.{◌≡◌, ℕ, List, Some}
use Rattle.pv_script.specs.declared.script.Place.TheVariants.{Null}
use Rattle.pv_script.specs.Lines.{ScriptLine}
use Rattle.pv_script.specs.Names.{name_at}
use Rattle.pv_script.specs.Places.{place_of}
use Rattle.pv_typed.specs.Mains.{heap_text}

-- 7.22.3p1: of a unit's names number 1 alone is that of allocated objects, `@heap`; identifiers (6.4.2.1) are others
abbrev pub OwnNames : List (List ℕ) → Type 0
OwnNames names = (i : ℕ) → name_at names i ≡ heap_text → i ≡ 1

-- 7.22.3p1: where the script denies a request, it is one for an allocation
abbrev pub DeniesHeap : List ScriptLine → Type 0
DeniesHeap lines = (text : List ℕ) (k : ℕ) → place_of lines text k ≡ Some Null → text ≡ heap_text
