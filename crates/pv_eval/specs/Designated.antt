-- A bridge: what is known, before a run, of what an lvalue of a scalar type designates (6.3.2.1p1, 6.5p7).
use Rattle.std.specs.Prelude.{◌≡◌, ◌<◌, ◌≤◌, ◌^◌, ◌-◌, ◌/◌, ◌%◌, ◌&&◌, ℕ, Bool, true, IsTrue}
use Rattle.pv_types.specs.Ty.{Ty}
use Rattle.pv_types.specs.declared.terms.TypeId.{TypeId}
use Rattle.pv_types.specs.Known.{Known, tree, env}
use Rattle.pv_types.specs.Layouts.{Fills, layout_in, is_complete_in}
use Rattle.pv_types.specs.Sorts.{is_scalar, is_scalar_in}
use Rattle.pv_layout.specs.Parts.{some_at, agrees}
use Rattle.pv_typed.specs.Tables.{Stored}
use Rattle.pv_eval.specs.declared.members.MemberPlace.{MemberPlace}
use Rattle.pv_eval.specs.declared.members.Designated.{Designated}
use Rattle.pv_eval.specs.declared.members.Designated.TheVariants as designated
use Rattle.pv_eval.specs.Sizes.{size_in}
use Rattle.pv_eval.specs.Plainly.{IsOwnType}

-- 6.5p7: at this offset of the type begins a scalar that an lvalue of another type may access
abbrev pub has_scalar : Known → (t want : Ty) → (offset : ℕ) → Bool
has_scalar m t want o = some_at (λ (x : Ty). is_scalar x && agrees want x) o (layout_in (env m) t).parts

-- 6.2.5p20: a scalar of this type, or an array of such scalars, of whatever depth: one begins at each multiple of their size
pub record IsUniform (m : Known) (want t : Ty) : Type 0 where
  pub whole : size_in m t % size_in m want ≡ 0
  pub some : (o : ℕ) → o < size_in m t → o % size_in m want ≡ 0 → has_scalar m t want o ≡ true

-- 6.7.2.1p15: at this offset of the structure begins a scalar of so many bytes that the member has
pub record StandsAt (p : MemberPlace) (o width : ℕ) : Type 0 where
  pub low : p.start ≤ o
  pub within : o - p.start < p.length
  pub begins : (o - p.start) % width ≡ 0

-- 6.5.2.1p2: the same of an element of an array of so many of the structures
pub record StandsInElement (p : MemberPlace) (n o width : ℕ) : Type 0 where
  pub within : o / p.size < n
  pub many : n ≤ 2 ^ 20
  pub small : p.size ≤ 2 ^ 12
  pub stands : StandsAt p (o % p.size) width

-- 6.5p7: a member of a structure is a scalar of this type, or has such scalars: an lvalue of the type may access each of them
pub record IsMemberPlace (m : Known) (p : MemberPlace) (t : TypeId) : Type 0 where
  pub complete : IsTrue (is_complete_in (env m) (tree m p.whole.0))
  pub size : p.size ≡ size_in m (tree m p.whole.0)
  pub small : p.size ≤ 2 ^ 32
  pub fills : Fills (layout_in (env m) (tree m p.whole.0))
  pub scalar : is_scalar_in (tree m t.0) ≡ true
  pub permits : (o : ℕ) → StandsAt p o (size_in m (tree m t.0)) → has_scalar m (tree m p.whole.0) (tree m t.0) o ≡ true

-- 6.5p7: what is known of what an lvalue of this type designates is so
abbrev pub IsDesignated : Stored → Designated → TypeId → Type 0
IsDesignated u designated.Unknown t = Unit {0}
IsDesignated u (designated.Object o) t = IsOwnType u o t
IsDesignated u (designated.Member p) t = IsMemberPlace u.known p t
