-- The measure of typing: what lies above a node, and above each node of a list.
use Rattle.std.proofs.Common.{◌≡◌, ℕ, ◌+◌, ◌*◌, ◌<◌, ◌≤◌, max, zero, suc, Bool, Option, Some, None, All, List, [], ◌∷◌, length, get_or, arith, subst, sym}
use Rattle.pv_tree.specs.declared.nodes.NodeId.{NodeId}
use Rattle.pv_tree.specs.declared.nodes.ListId.{ListId}
use Rattle.pv_tree.specs.Syntax.{Tree}
use Rattle.pv_tree.specs.Tables.{Forest, list_at, Has, HasList, HasOptional}

-- where there is a node
abbrev pub above : ℕ → Option NodeId → ℕ
above k None = 0
above k (Some n) = n.0 * 8 + k

-- above every node of a list
abbrev pub above_all : List NodeId → ℕ
above_all [] = 0
above_all (n ∷ ns) = max (n.0 + 1) (above_all ns)

pub below_all : (ns : List NodeId) (i : ℕ) (d : NodeId) → i < length ns → (get_or ns i d).0 < above_all ns
below_all [] i d lt = absurd (omega (arith, lt))
below_all (n ∷ ns) zero d lt = omega arith
below_all (n ∷ ns) (suc i) d lt = let h : (get_or ns i d).0 < above_all ns = below_all ns i d (omega (arith, lt)) in omega (arith, h)

all_below : (f : Forest) (kind : Tree → Bool) (k : ℕ) (ns : List NodeId) → All (λ n. Has f k kind n) ns → above_all ns ≤ k
all_below f kind k [] h = omega arith
all_below f kind k (n ∷ ns) h =
    let here : n.0 < k = (h 0 n (omega arith)).0 in
    let rest : above_all ns ≤ k = all_below f kind k ns (λ i d lt. h (suc i) d (omega (arith, lt))) in
    omega (arith, here, rest)

-- a list of nodes below a number
pub list_above : (f : Forest) (kind : Tree → Bool) (k : ℕ) (l : ListId) → HasList f k kind l → above_all (list_at f l) ≤ k
list_above f kind k l h = all_below f kind k (list_at f l) h.1

-- the node at a place of a list that is read
pub has_at : (f : Forest) (kind : Tree → Bool) (k : ℕ) (l : ListId) (ns : List NodeId) (i : ℕ) (d : NodeId) → ns ≡ list_at f l → HasList f k kind l → i < length ns → Has f k kind (get_or ns i d)
has_at f kind k l ns i d same h lt = (subst (λ (xs : List NodeId). i < length xs → Has f k kind (get_or xs i d)) (sym same) (λ g. h.1 i d g)) lt

pub lower_at : (f : Forest) (l : ListId) (ns : List NodeId) (i : ℕ) (d : NodeId) → ns ≡ list_at f l → i < length ns → (get_or ns i d).0 < above_all (list_at f l)
lower_at f l ns i d same lt = subst (λ (xs : List NodeId). (get_or ns i d).0 < above_all xs) same (below_all ns i d lt)

-- a node that may be left out
pub optional_above : (f : Forest) (kind : Tree → Bool) (k : ℕ) (o : Option NodeId) → HasOptional f k kind o → above 5 o ≤ k * 8
optional_above f kind k None h = omega arith
optional_above f kind k (Some n) h = let lt : n.0 < k = h.0 in omega (arith, lt)

pub optional_within : (f : Forest) (kind : Tree → Bool) (n k : ℕ) (o : Option NodeId) → n ≤ k → HasOptional f n kind o → HasOptional f k kind o
optional_within f kind n k None le h = tt
optional_within f kind n k (Some x) le h = let lt : x.0 < n = h.0 in (omega (arith, lt, le), h.1)

pub optional_inside : (f : Forest) (kind : Tree → Bool) (n k : ℕ) (o : Option NodeId) → n < k → HasOptional f n kind o → HasOptional f k kind o
optional_inside f kind n k o lt h = optional_within f kind n k o (omega (arith, lt)) h
