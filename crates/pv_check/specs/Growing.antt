-- A bridge: a table of types that has more types than before, and what typing keeps true of it.
use Rattle.std.specs.Prelude.{◌≡◌, ℕ, ◌<◌, ◌≤◌, ◌^◌, nat_le, Bool, true, ◌&&◌, Some, None, List, ◌++◌, length, IsTrue}
use Rattle.std.specs.declared.option.Option.{Option}
use Rattle.pv_types.specs.declared.terms.TypeId.{TypeId}
use Rattle.pv_types.specs.Ty.{Ty, ArrayOf, StructTag, UnionTag, ConstOf}
use Rattle.pv_types.specs.Known.{Known, env, tree}
use Rattle.pv_types.specs.Formed.{completions, parameters_at}
use Rattle.pv_types.specs.Layouts.{Entry, layout_in, is_complete_in}

-- what stood in the table stands for the same, and no tag was made or completed
pub record HasMore (old new : Known) : Type 0 where
  pub terms : length old.terms ≤ length new.terms
  pub trees : (i : ℕ) → i < length old.terms → tree new i ≡ tree old i
  pub lists : length old.lists ≤ length new.lists
  pub parameters : (p : ℕ) → p < length old.lists → parameters_at new p ≡ parameters_at old p
  pub headings : new.tags ≡ old.tags
  pub completed : completions new ≡ completions old

-- 6.7.6.2p1: an array's elements are complete; no type is larger than 2 ^ 32 bytes
abbrev pub is_sized : List Entry → Ty → Bool
is_sized env (ArrayOf t n) = is_complete_in env t && is_sized env t && nat_le (layout_in env (ArrayOf t n)).size (2 ^ 32)
is_sized env (ConstOf t) = is_sized env t
is_sized env (StructTag n) = nat_le (layout_in env (StructTag n)).size (2 ^ 32)
is_sized env (UnionTag n) = nat_le (layout_in env (UnionTag n)).size (2 ^ 32)
is_sized env _ = true

-- every type of the table is so, and every structure
pub record AreSized (m : Known) : Type 0 where
  pub types : (i : ℕ) → i < length m.terms → IsTrue (is_sized (env m) (tree m i))
  pub tags : (n : ℕ) → IsTrue (is_sized (env m) (StructTag n))

-- the layouts of completed tags are those of before, perhaps with more behind
abbrev pub Lengthens : List Entry → List Entry → Type 0
Lengthens old new = (more : List Entry) × (new ≡ old ++ more)

-- what a table of types that typing fills keeps
pub record Grows (old new : Known) : Type 0 where
  pub more : HasMore old new
  pub sized : AreSized old → AreSized new

-- a number of a type, where there is one
abbrev pub IsType : Known → Option TypeId → Type 0
IsType m None = Unit {0}
IsType m (Some t) = t.0 < length m.terms

-- the type of a number, where there is one
abbrev pub type_if : Known → Option TypeId → Option Ty
type_if m None = None
type_if m (Some t) = Some (tree m t.0)
