-- How many parts a type has: more than each of its elements and members.
use Rattle.std.proofs.Common.{◌≡◌, ℕ, zero, suc, ◌+◌, ◌*◌, ◌<◌, ◌≤◌, Bool, true, false, List, [], ◌∷◌, Some, length, length-append, refl, ap, arith}
use Rattle.std.specs.Int.{next_multiple_of}
use Rattle.pv_types.specs.Ty.{Ty, ArrayOf}
use Rattle.pv_types.specs.Layouts.{Part, Layout, Entry, Named, shifted_parts, parts_of_elements, const_layout, layout_in, layout_of}
use Rattle.pv_types.specs.LayoutParts.{part_count, union_parts, struct_parts, behind_whole}

count_shifted : (k : ℕ) (ps : List Part) → length (shifted_parts k ps) ≡ length ps
count_shifted k [] = refl
count_shifted k (p ∷ ps) = ap suc (count_shifted k ps)

count_repeated : (n s : ℕ) (ps : List Part) → length ps ≤ length (parts_of_elements (suc n) s ps)
count_repeated n s ps =
    let all : length (parts_of_elements (suc n) s ps) ≡ length (parts_of_elements n s ps) + length (shifted_parts (n * s) ps) = length-append (parts_of_elements n s ps) (shifted_parts (n * s) ps) in
    let last = count_shifted (n * s) ps in
    omega (arith, all, last)

-- an array has more parts than one element
pub element_fewer : (env : List Entry) (t : Ty) (n : ℕ) → 0 < n → part_count (layout_in env t) < part_count (layout_in env (ArrayOf t (Some n)))
element_fewer env t zero some = absurd (omega arith)
element_fewer env t (suc n) some = let more = count_repeated n (layout_in env t).size (layout_in env t).parts in omega (arith, more)

-- each of the members has fewer parts
abbrev pub AreFewer : List Entry → ℕ → List Named → Type 0
AreFewer env h [] = Unit {0}
AreFewer env h (m ∷ ms) = (part_count (layout_in env m.t) < h) × AreFewer env h ms

struct_fewer : (env : List Entry) (ms : List Named) (o h : ℕ) → length (struct_parts env ms o) < h → AreFewer env h ms
struct_fewer env [] o h lt = tt
struct_fewer env (m ∷ ms) o h lt =
    let first = shifted_parts (next_multiple_of o (layout_in env m.t).align) (layout_in env m.t).parts in
    let others = struct_parts env ms (next_multiple_of o (layout_in env m.t).align + (layout_in env m.t).size) in
    let all : length (struct_parts env (m ∷ ms) o) ≡ length first + length others = length-append first others in
    let same = count_shifted (next_multiple_of o (layout_in env m.t).align) (layout_in env m.t).parts in
    (omega (arith, lt, all, same), struct_fewer env ms (next_multiple_of o (layout_in env m.t).align + (layout_in env m.t).size) h (omega (arith, lt, all)))

union_fewer : (env : List Entry) (ms : List Named) (h : ℕ) → length (union_parts env ms) < h → AreFewer env h ms
union_fewer env [] h lt = tt
union_fewer env (m ∷ ms) h lt =
    let first = shifted_parts 0 (layout_in env m.t).parts in
    let all : length (union_parts env (m ∷ ms)) ≡ length first + length (union_parts env ms) = length-append first (union_parts env ms) in
    let same = count_shifted 0 (layout_in env m.t).parts in
    (omega (arith, lt, all, same), union_fewer env ms h (omega (arith, lt, all)))

-- a structure or union has more parts than each of its members
pub members_fewer : (env : List Entry) (n : ℕ) (u : Bool) (ms : List Named) → AreFewer env (part_count (layout_of env n u ms)) ms
members_fewer env n true ms = union_fewer env ms (part_count (layout_of env n true ms)) (omega arith)
members_fewer env n false ms = struct_fewer env ms 0 (part_count (layout_of env n false ms)) (omega arith)

count_behind : (ps : List Part) → length ps ≤ suc (length (behind_whole ps))
count_behind [] = omega arith
count_behind (p ∷ ps) = omega arith

-- `const` takes no part away
pub const_count : (t : Ty) (l : Layout) → part_count l ≤ part_count (const_layout t l)
const_count t l = count_behind l.parts
