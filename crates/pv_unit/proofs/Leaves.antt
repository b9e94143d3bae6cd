-- Each part of a type has fewer parts.
use Rattle.std.proofs.Common.{◌≡◌, ℕ, zero, suc, ◌+◌, ◌<◌, Bool, true, false, List, [], ◌∷◌, Option, Some, None, option_map, option_and_then, if◌then◌else◌, refl, sym, ◌∙◌, ap, arith, is_some}
use Rattle.pv_types.specs.Ty.{Ty, VoidTy, IntTy, PointerTo, ArrayOf, StructTag, UnionTag, FunctionTy, ConstOf}
use Rattle.pv_types.specs.Layouts.{Entry, Part, Named, layout_in, layout_at, layout_of, struct_placed, union_placed, is_complete_in, look}
use Rattle.pv_types.specs.LayoutParts.{part_count, or_none}
use Rattle.pv_types.specs.Known.{Known, trees, env}
use Rattle.pv_types.specs.Formed.{completions, named_members, is_union_in, IsBuilt}
use Rattle.pv_types.proofs.Counted.{AreFewer, const_count, element_fewer, members_fewer}
use Rattle.pv_types.proofs.Fills.{left_true, lt_true}
use Rattle.pv_types.proofs.Made.{made}
use Rattle.pv_types.proofs.Placed.{members_named}
use Rattle.pv_types.specs.Sorts.{bare_type, is_scalar}
use Rattle.pv_unit.specs.Parts.{part_number, first_member, part_in, part_at, has_element, leaf_within}
use Rattle.pv_unit.specs.PartParts.{within}

abbrev part_or : Part → Option Part → Part
part_or d None = d
part_or d (Some p) = p

first_fewer : (env : List Entry) (h : ℕ) (m : Named) (ms : List Named) → AreFewer env h (m ∷ ms) → part_count (layout_in env m.t) < h
first_fewer env h m ms fewer = fewer.0

struct_lower : (env : List Entry) (h : ℕ) (ms : List Named) (p : Part) → AreFewer env h ms → part_number 0 (struct_placed (layout_at env) 0 ms) ≡ Some p → part_count (layout_in env p.t) < h
struct_lower env h [] p fewer e = cc
struct_lower env h (m ∷ ms) p fewer e = let same = sym (ap (part_or p) e) in rw same (first_fewer env h m ms fewer)

union_lower : (env : List Entry) (h : ℕ) (ms : List Named) (p : Part) → AreFewer env h ms → part_number 0 (first_member (union_placed (layout_at env) ms)) ≡ Some p → part_count (layout_in env p.t) < h
union_lower env h [] p fewer e = cc
union_lower env h (m ∷ ms) p fewer e = let same = sym (ap (part_or p) e) in rw same (first_fewer env h m ms fewer)

-- a completed structure or union has more parts than each of its members
tag_fewer : (m : Known) (n : ℕ) → IsBuilt m → is_some (look (env m) n) ≡ true → AreFewer (env m) (part_count (or_none (look (env m) n))) (named_members m n)
tag_fewer m n built there =
    let whole : or_none (look (env m) n) ≡ layout_of (env m) n (is_union_in m.done n) (named_members m n) = ap or_none (made m n built there).laid in
    rw whole (members_fewer (env m) n (is_union_in m.done n) (named_members m n))

element_step : (b : Bool) (p q : Part) → (if b then Some p else None) ≡ Some q → p ≡ q
element_step true p q e = ap (part_or p) e
element_step false p q e = cc

-- the first part of a complete type
pub part_lower : (m : Known) (t : Ty) (q : Part) → IsBuilt m → is_complete_in (env m) t ≡ true → part_in (completions m) (bare_type t) 0 ≡ Some q → part_count (layout_in (env m) q.t) < part_count (layout_in (env m) t)
part_lower m (ConstOf t) q built complete e =
    let h = part_lower m t q built complete e in
    let more = const_count t (layout_in (env m) t) in
    omega (arith, h, more)
part_lower m (ArrayOf t (Some n)) q built complete e =
    let same = sym (element_step (has_element (Some n) (layout_in (env m) t).size 0) _ q e) in
    rw same (element_fewer (env m) t n (lt_true 0 n (left_true _ (is_complete_in (env m) t) complete)))
part_lower m (ArrayOf t None) q built complete e = cc
part_lower m (StructTag n) q built complete e =
    let members = members_named (trees m) m.done n in
    let at : part_number 0 (struct_placed (layout_at (env m)) 0 (named_members m n)) ≡ Some q = sym (ap (λ ms. part_number 0 (struct_placed (layout_at (env m)) 0 ms)) members) ∙ e in
    struct_lower (env m) (part_count (or_none (look (env m) n))) (named_members m n) q (tag_fewer m n built complete) at
part_lower m (UnionTag n) q built complete e =
    let members = members_named (trees m) m.done n in
    let at : part_number 0 (first_member (union_placed (layout_at (env m)) (named_members m n))) ≡ Some q = sym (ap (λ ms. part_number 0 (first_member (union_placed (layout_at (env m)) ms))) members) ∙ e in
    union_lower (env m) (part_count (or_none (look (env m) n))) (named_members m n) q (tag_fewer m n built complete) at
part_lower m VoidTy q built complete e = cc
part_lower m (IntTy k) q built complete e = cc
part_lower m (PointerTo t) q built complete e = cc
part_lower m (FunctionTy t ts v) q built complete e = cc

map_some : (whole : Part) (o : Option Part) (q : Part) → option_map (within whole) o ≡ Some q → (p : Part) × ((o ≡ Some p) × (p.t ≡ q.t))
map_some whole None q e = cc
map_some whole (Some p) q e = (p, (refl, ap (λ o. (part_or p o).t) e))

pub part_at_lower : (m : Known) (p q : Part) → IsBuilt m → is_complete_in (env m) p.t ≡ true → part_at (completions m) p 0 ≡ Some q → part_count (layout_in (env m) q.t) < part_count (layout_in (env m) p.t)
part_at_lower m p q built complete e =
    let h = map_some p (part_in (completions m) (bare_type p.t) 0) q e in
    let low = part_lower m p.t h.0 built complete h.1.0 in
    let same = sym h.1.1 in
    rw same low

-- the search for the first scalar has come to a part, and what is left of its depth
abbrev pub Going : Known → (whole at : Part) → Type 0
Going m whole at = (n : ℕ) × (part_count (layout_in (env m) at.t) < n) × (leaf_within n (completions m) at ≡ leaf_within (part_count (layout_in (env m) whole.t) + 1) (completions m) whole)

pub going_start : (m : Known) (whole : Part) → Going m whole whole
going_start m whole = (part_count (layout_in (env m) whole.t) + 1, omega arith, refl)

leaf_step : (b : Bool) (p : Part) (o : Option Part) → b ≡ false → (if b then Some p else o) ≡ o
leaf_step true p o e = cc
leaf_step false p o e = refl

leaf_here : (b : Bool) (p : Part) (o : Option Part) → b ≡ true → (if b then Some p else o) ≡ Some p
leaf_here true p o e = refl
leaf_here false p o e = cc

going_on : (m : Known) (whole at q : Part) (n : ℕ) → part_count (layout_in (env m) at.t) < n → leaf_within n (completions m) at ≡ leaf_within (part_count (layout_in (env m) whole.t) + 1) (completions m) whole
    → is_scalar at.t ≡ false → part_count (layout_in (env m) q.t) < part_count (layout_in (env m) at.t) → part_at (completions m) at 0 ≡ Some q → Going m whole q
going_on m whole at q zero lt same scalar low e = absurd (omega arith)
going_on m whole at q (suc n) lt same scalar low e =
    (n, omega (arith, lt, low), sym (leaf_step (is_scalar at.t) at (option_and_then (leaf_within n (completions m)) (part_at (completions m) at 0)) scalar ∙ ap (option_and_then (leaf_within n (completions m))) e) ∙ same)

pub going_next : (m : Known) (whole at q : Part) → IsBuilt m → is_complete_in (env m) at.t ≡ true → is_scalar at.t ≡ false → part_at (completions m) at 0 ≡ Some q → Going m whole at → Going m whole q
going_next m whole at q built complete scalar e g = going_on m whole at q g.0 g.1 g.2 scalar (part_at_lower m at q built complete e) e

ended : (m : Known) (whole at : Part) (n : ℕ) → part_count (layout_in (env m) at.t) < n → leaf_within n (completions m) at ≡ leaf_within (part_count (layout_in (env m) whole.t) + 1) (completions m) whole
    → is_scalar at.t ≡ false → None ≡ part_at (completions m) at 0 → None ≡ leaf_within (part_count (layout_in (env m) whole.t) + 1) (completions m) whole
ended m whole at zero lt same scalar e = absurd (omega arith)
ended m whole at (suc n) lt same scalar e =
    ap (option_and_then (leaf_within n (completions m))) e ∙ sym (leaf_step (is_scalar at.t) at _ scalar) ∙ same

reached : (m : Known) (whole at : Part) (n : ℕ) → part_count (layout_in (env m) at.t) < n → leaf_within n (completions m) at ≡ leaf_within (part_count (layout_in (env m) whole.t) + 1) (completions m) whole
    → is_scalar at.t ≡ true → Some at ≡ leaf_within (part_count (layout_in (env m) whole.t) + 1) (completions m) whole
reached m whole at zero lt same scalar = absurd (omega arith)
reached m whole at (suc n) lt same scalar = sym (leaf_here (is_scalar at.t) at _ scalar) ∙ same
