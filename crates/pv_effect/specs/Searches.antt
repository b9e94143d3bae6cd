-- A bridge: what a search for the scalars that a byte lies in asks, and what it comes to.
use Rattle.std.specs.Prelude.{List, ℕ, ◌<◌, ◌≤◌, ◌^◌, ◌&&◌, Bool, true, IsTrue, length}
use Rattle.pv_types.specs.Ty.{Ty}
use Rattle.pv_types.specs.Layouts.{Layout, Part, parts_of_elements, layout_in, is_complete_in}
use Rattle.pv_types.specs.LayoutParts.{part_count, union_parts}
use Rattle.pv_types.specs.Known.{Known, tree, env}
use Rattle.pv_types.specs.Formed.{named_members}
use Rattle.pv_types.specs.Sorts.{is_scalar}
use Rattle.pv_effect.specs.EffectiveType.{accepts, some_over}
use Rattle.pv_effect.specs.declared.bytes.Sought.{Sought}
use Rattle.pv_effect.specs.declared.bytes.Sought.TheVariants.{Any, Accepting}
use Rattle.pv_effect.specs.declared.bytes.Search.{Search}
use Rattle.pv_effect.specs.declared.bytes.Search.TheVariants.{Settled, In}

-- 6.5p6, p7: whether a scalar whose byte j is asked about is what is sought
abbrev pub is_sought : Known → Sought → ℕ → Ty → Bool
is_sought m Any j t = true
is_sought m (Accepting u k) j t = accepts m (u, k) j t

-- 6.5p6, p7: the same of a part that need not be a scalar
abbrev pub passes : Known → Sought → ℕ → Ty → Bool
passes m s j t = is_scalar t && is_sought m s j t

-- 6.5p6, p7: whether what is sought lies over this byte of the type of a number
abbrev pub is_over_type : Known → Sought → (byte t : ℕ) → Bool
is_over_type m s b t = some_over (env m) (passes m s) b (layout_in (env m) (tree m t)).parts

-- 6.5p6, p7, 6.7.2.1p16: whether it lies over this byte of a member of the union with the tag
abbrev pub is_over_members : Known → Sought → (byte tag : ℕ) → Bool
is_over_members m s b tag = some_over (env m) (passes m s) b (union_parts (env m) (named_members m tag))

-- 6.2.5p20: the parts of n elements of this layout, one right behind the other
abbrev pub element_parts : ℕ → Layout → List Part
element_parts n l = parts_of_elements n l.size l.parts

-- 6.5p7: what a search comes to, once what it goes on in is searched
abbrev pub comes_to : (ℕ → Ty → Bool) → Known → Search → Bool
comes_to f m (Settled b) = b
comes_to f m (In t offset) = some_over (env m) f offset (layout_in (env m) (tree m t.0)).parts

-- what it goes on in may be searched, and has fewer parts
abbrev pub IsBelow : Known → ℕ → Search → Type 0
IsBelow m h (Settled b) = Unit {0}
IsBelow m h (In t offset) = (t.0 < length m.terms) × IsTrue (is_complete_in (env m) (tree m t.0)) × ((layout_in (env m) (tree m t.0)).size ≤ 2 ^ 32) × (part_count (layout_in (env m) (tree m t.0)) < h)
