-- The parts that are shown: of a table, and as trees.
use Rattle.std.proofs.Common.{◌≡◌, ◌≢◌, ℕ, zero, suc, ◌+◌, ◌-◌, ◌*◌, ◌<◌, ◌≤◌, ◌^◌, Bool, true, false, IsTrue, List, [], ◌∷◌, ◌++◌, length, map, take, drop, drop-cons, get_or, add-one, nat_lt, nat_le, Some, refl, sym, ap, ◌∙◌, subst, arith, is_some, append_assoc, mul-le-mul_right}
use Rattle.std.specs.Prelude.{Option, None, Result, IfOk, if◌then◌else◌, ◌&&◌}
use Rattle.std.specs.Int.{next_multiple_of}
use Rattle.std.proofs.lemmas.Bool.{and_parts}
use Rattle.std.proofs.lemmas.Bool.Decides.{nat_tests}
use Rattle.pv_types.specs.declared.terms.Member.{Member}
use Rattle.pv_types.specs.declared.terms.TypeId.{TypeId}
use Rattle.pv_types.specs.Ty.{Ty, ArrayOf, StructTag, UnionTag}
use Rattle.pv_types.specs.Known.{Known, tree, trees, tree_in, env}
use Rattle.pv_types.specs.declared.terms.Term.{Term}
use Rattle.pv_types.specs.declared.terms.Term.TheVariants as term
use Rattle.pv_types.specs.Layouts.{Named, Placed, layout_in, look, is_complete_in, up_to}
use Rattle.pv_types.specs.Formed.{members_in, MembersBelow, IsBuilt}
use Rattle.pv_types.specs.Members.{placed_in}
use Rattle.pv_types.specs.Places.{member_layout, struct_places, union_places}
use Rattle.pv_types.proofs.Made.{made}
use Rattle.pv_types.proofs.Placed.{named_place, struct_placed_in, union_placed_in}
use Rattle.pv_layout.proofs.Ahead.{Ahead, nobody, next_at, ahead_next}
use Rattle.pv_layout.proofs.Below.{one_of}
use Rattle.pv_typed.specs.Known.{Each}
use Rattle.pv_typed.specs.Tables.{Stored, whole_unit}
use Rattle.pv_typed.specs.TypedUnits.{WholeUnit}
use Rattle.pv_values.specs.declared.shapes.Shape as declared
use Rattle.pv_values.specs.declared.shapes.Part.{Part}
use Rattle.pv_values.specs.Values.{Shown, Shape, member_part, most_members, element_parts, is_measured, tag_shape, array_shape}
use Rattle.pv_values.specs.ShapeParts.{shown_part, seen_shape, AreShown, IsPart, elements_of, part_of, with_part, first_parts, shown_of}

-- ---- each of a list

pub each_take : {A : Type 0} (P : A → Type 0) (n : ℕ) (xs : List A) → Each P xs → Each P (take n xs)
each_take P zero xs h = tt
each_take P (suc n) [] h = tt
each_take P (suc n) (x ∷ xs) h = (h.0, each_take P n xs h.1)

pub each_at : {A : Type 0} (P : A → Type 0) (xs : List A) (i : ℕ) (d : A) → i < length xs → Each P xs → P (get_or xs i d)
each_at P [] i d lt h = absurd (omega arith)
each_at P (x ∷ xs) zero d lt h = h.0
each_at P (x ∷ xs) (suc i) d lt h = each_at P xs i d (omega arith) h.1

map_take : {A B : Type 0} (f : A → B) (n : ℕ) (xs : List A) → map f (take n xs) ≡ take n (map f xs)
map_take f zero xs = refl
map_take f (suc n) [] = refl
map_take f (suc n) (x ∷ xs) = ap (λ ys. f x ∷ ys) (map_take f n xs)

-- ---- the parts so far, and those that are left

abbrev pub so_far : (parts : List Part) → (left : List Part) → List Part
so_far ps left = ps ++ take (most_members - length ps) left

length_more : (ps : List Part) (p : Part) → length (ps ++ p ∷ []) ≡ suc (length ps)
length_more [] p = refl
length_more (x ∷ ps) p = ap suc (length_more ps p)

next_in : (ps : List Part) (p : Part) (left : List Part) (b : Bool) → nat_lt (length ps) most_members ≡ b → so_far (if b then ps ++ p ∷ [] else ps) left ≡ so_far ps (p ∷ left)
next_in ps p left true is =
    let less : length ps < 64 = grind (arith, nat_tests) in
    let more : 64 - length ps ≡ suc (64 - length (ps ++ p ∷ [])) = omega (arith, less, length_more ps p) in
    append_assoc ps (p ∷ []) (take (64 - length (ps ++ p ∷ [])) left) ∙ ap (λ (k : ℕ). ps ++ take k (p ∷ left)) (sym more)
next_in ps p left false is =
    let most : 64 ≤ length ps = grind (arith, nat_tests) in
    let none : 64 - length ps ≡ 0 = omega (arith, most) in
    ap (λ (k : ℕ). ps ++ take k left) none ∙ ap (λ (k : ℕ). ps ++ take k (p ∷ left)) (sym none)

pub next_part : (ps new : List Part) (p : Part) (left : List Part) → new ≡ with_part ps p → so_far new left ≡ so_far ps (p ∷ left)
next_part ps new p left is = ap (λ (qs : List Part). so_far qs left) is ∙ next_in ps p left (nat_lt (length ps) most_members) refl

append_none : {A : Type 0} (xs : List A) → xs ++ [] ≡ xs
append_none [] = refl
append_none (x ∷ xs) = ap (λ ys. x ∷ ys) (append_none xs)

take_none : {A : Type 0} (n : ℕ) → ◌≡◌ {A = List A} (take n []) []
take_none zero = refl
take_none (suc n) = refl

-- none is left
pub last_part : (ps all : List Part) → so_far ps [] ≡ all → ps ≡ all
last_part ps all is = sym (append_none ps) ∙ ap (λ (qs : List Part). ps ++ qs) (sym (take_none (64 - length ps))) ∙ is

-- ---- structures

abbrev pub struct_left : Known → (end : ℕ) → List Member → List Part
struct_left m o ms = map part_of (struct_places m o ms)

pub struct_next : (m : Known) (o p start size i : ℕ) (items : List Member) (parts new : List Part) (all : List Part) → i < length items
    → start ≡ next_multiple_of o (layout_in (env m) (tree m (get_or items i nobody).t.0)).align → p ≡ start + (layout_in (env m) (tree m (get_or items i nobody).t.0)).size
    → new ≡ with_part parts (record { name = Some (get_or items i nobody).name; offset = start; t = (get_or items i nobody).t })
    → so_far parts (struct_left m o (drop i items)) ≡ all → so_far new (struct_left m p (drop (i + 1) items)) ≡ all
struct_next m o p start size i items parts new all lt b e is before =
    let x = get_or items i nobody in
    let l = layout_in (env m) (tree m x.t.0) in
    let rest = drop (suc i) items in
    let whole : so_far parts (struct_left m o (x ∷ rest)) ≡ all = subst (λ (ms : List Member). so_far parts (struct_left m o ms) ≡ all) (drop-cons items i nobody lt) before in
    let first = next_part parts new (record { name = Some x.name; offset = start; t = x.t }) (struct_left m p rest) is in
    let same : (record { name = Some x.name; offset = start; t = x.t }) ∷ struct_left m p rest ≡ struct_left m o (x ∷ rest) = λ k. (record { name = Some x.name; offset = b k; t = x.t }) ∷ struct_left m ((e ∙ ap (λ s. s + l.size) b) k) rest in
    rw add-one (first ∙ ap (so_far parts) same ∙ whole)

-- each begins within the whole
struct_bounds : (m : Known) (tag o : ℕ) (ms : List Member) → Ahead m tag o ms → Each (IsPart (length m.terms)) (struct_left m o ms)
struct_bounds m tag o [] h = tt
struct_bounds m tag o (x ∷ ms) h =
    let next = next_at m tag o 0 (x ∷ ms) nobody (omega arith) h in
    let small = next.small in
    let p = next_multiple_of o (layout_in (env m) (tree m x.t.0)).align + (layout_in (env m) (tree m x.t.0)).size in
    ((next.known, omega (arith, small)), struct_bounds m tag p ms (ahead_next m tag o p 0 (x ∷ ms) nobody (omega arith) h refl))

pub struct_parts_within : (m : Known) (tag : ℕ) (ps : List Part) → Ahead m tag 0 (members_in m.done tag) → ps ≡ first_parts (struct_places m 0 (members_in m.done tag)) → Each (IsPart (length m.terms)) ps
struct_parts_within m tag ps h is =
    subst (Each (IsPart (length m.terms))) (sym is) (each_take (IsPart (length m.terms)) most_members (struct_left m 0 (members_in m.done tag)) (struct_bounds m tag 0 (members_in m.done tag) h))

-- ---- unions

abbrev pub union_left : Known → List Member → List Part
union_left m ms = map part_of (union_places m ms)

pub union_next : (m : Known) (i : ℕ) (items : List Member) (parts new : List Part) (all : List Part) → i < length items
    → new ≡ with_part parts (record { name = Some (get_or items i nobody).name; offset = 0; t = (get_or items i nobody).t })
    → so_far parts (union_left m (drop i items)) ≡ all → so_far new (union_left m (drop (i + 1) items)) ≡ all
union_next m i items parts new all lt is before =
    let x = get_or items i nobody in
    let rest = drop (suc i) items in
    let whole : so_far parts (union_left m (x ∷ rest)) ≡ all = subst (λ (ms : List Member). so_far parts (union_left m ms) ≡ all) (drop-cons items i nobody lt) before in
    rw add-one (next_part parts new (record { name = Some x.name; offset = 0; t = x.t }) (union_left m rest) is ∙ whole)

union_bounds : (m : Known) (ms : List Member) → MembersBelow (length m.terms) ms → Each (IsPart (length m.terms)) (union_left m ms)
union_bounds m [] h = tt
union_bounds m (x ∷ ms) h = ((h.0, omega arith), union_bounds m ms h.1)

pub union_parts_within : (m : Known) (tag : ℕ) (ps : List Part) → IsBuilt m → IsTrue (is_some (look (env m) tag)) → ps ≡ first_parts (union_places m (members_in m.done tag)) → Each (IsPart (length m.terms)) ps
union_parts_within m tag ps built there is =
    subst (Each (IsPart (length m.terms))) (sym is) (each_take (IsPart (length m.terms)) most_members (union_left m (members_in m.done tag)) (union_bounds m (members_in m.done tag) (made m tag built there).known))

-- ---- as trees

shown_places : (m : Known) (ps : List (Placed Member)) → map (shown_part m) (map part_of ps) ≡ map member_part (map (named_place m) ps)
shown_places m [] = refl
shown_places m (p ∷ ps) = ap (λ (qs : List Shown). member_part (named_place m p) ∷ qs) (shown_places m ps)

first_shown : (m : Known) (ps : List (Placed Member)) (parts : List Part) (placed : List (Placed Named)) → parts ≡ first_parts ps → placed ≡ map (named_place m) ps
    → map (shown_part m) parts ≡ map member_part (take most_members placed)
first_shown m ps parts placed is same =
    ap (map (shown_part m)) is ∙ map_take (shown_part m) most_members (map part_of ps) ∙ ap (take most_members) (shown_places m ps ∙ ap (map member_part) (sym same))
    ∙ sym (map_take member_part most_members placed)

struct_count : (m : Known) (o : ℕ) (ms : List Member) → length (map (named_place m) (struct_places m o ms)) ≡ length ms
struct_count m o [] = refl
struct_count m o (x ∷ ms) = ap suc (struct_count m (next_multiple_of o (member_layout m x).align + (member_layout m x).size) ms)

union_count : (m : Known) (ms : List Member) → length (map (named_place m) (union_places m ms)) ≡ length ms
union_count m [] = refl
union_count m (x ∷ ms) = ap suc (union_count m ms)

tag_shown : (m : Known) (ps : List (Placed Member)) (parts : List Part) (placed : List (Placed Named)) (count : ℕ) → parts ≡ first_parts ps → placed ≡ map (named_place m) ps
    → length (map (named_place m) ps) ≡ count
    → ◌≡◌ {A = Shape} (record { opens = 123; closes = 125; parts = map (shown_part m) parts; more = nat_lt 64 count }) (tag_shape placed)
tag_shown m ps parts placed count is same n =
    λ i. record { opens = 123; closes = 125; parts = first_shown m ps parts placed is same i; more = nat_lt 64 ((sym n ∙ ap length (sym same)) i) }

-- a tag that is completed, and one that isn't
pub some_true : (b : Bool) (count : ℕ) → b ≡ nat_lt 0 count → 0 < count → b ≡ true
some_true true count is some = refl
some_true false count is some = absurd (grind (arith, nat_tests))

tagged_some : (b : Bool) (count : ℕ) (s t : Shape) → b ≡ nat_lt 0 count → 0 < count → s ≡ t → Some s ≡ (if b then Some t else None)
tagged_some true count s t is some same = ap Some same
tagged_some false count s t is some same = absurd (grind (arith, nat_tests))

tagged_none : (b : Bool) (count : ℕ) (t : Shape) → b ≡ nat_lt 0 count → count ≡ 0 → ◌≡◌ {A = Option Shape} None (if b then Some t else None)
tagged_none true count t is none = absurd (grind (arith, nat_tests))
tagged_none false count t is none = refl

pub struct_some : (S : Stored) (tag count : ℕ) (s : declared.Shape) (parts : _) → s ≡ record { opens = 123; closes = 125; parts = parts; more = nat_lt 64 count }
    → parts.items ≡ first_parts (struct_places S.known 0 (members_in S.known.done tag)) → count ≡ length (members_in S.known.done tag)
    → is_some (look (env S.known) tag) ≡ nat_lt 0 count → 0 < count → AreShown (whole_unit S) S.known (StructTag tag) (Some s)
struct_some S tag count s parts is items n there some =
    let m = S.known in
    let ms = members_in m.done tag in
    ap (λ (x : declared.Shape). Some (seen_shape m x)) is
    ∙ tagged_some (is_some (look (env m) tag)) count _ _ there some
    (tag_shown m (struct_places m 0 ms) parts.items (placed_in (whole_unit S).completed (StructTag tag)) count items (struct_placed_in m tag) (struct_count m 0 ms ∙ sym n))

pub union_some : (S : Stored) (tag count : ℕ) (s : declared.Shape) (parts : _) → s ≡ record { opens = 123; closes = 125; parts = parts; more = nat_lt 64 count }
    → parts.items ≡ first_parts (union_places S.known (members_in S.known.done tag)) → count ≡ length (members_in S.known.done tag)
    → is_some (look (env S.known) tag) ≡ nat_lt 0 count → 0 < count → AreShown (whole_unit S) S.known (UnionTag tag) (Some s)
union_some S tag count s parts is items n there some =
    let m = S.known in
    let ms = members_in m.done tag in
    ap (λ (x : declared.Shape). Some (seen_shape m x)) is
    ∙ tagged_some (is_some (look (env m) tag)) count _ _ there some
    (tag_shown m (union_places m ms) parts.items (placed_in (whole_unit S).completed (UnionTag tag)) count items (union_placed_in m tag) (union_count m ms ∙ sym n))

pub struct_none : (S : Stored) (tag count : ℕ) → is_some (look (env S.known) tag) ≡ nat_lt 0 count → count ≡ 0 → AreShown (whole_unit S) S.known (StructTag tag) None
struct_none S tag count there none = tagged_none (is_some (look (env S.known) tag)) count (tag_shape (placed_in (whole_unit S).completed (StructTag tag))) there none

pub union_none : (S : Stored) (tag count : ℕ) → is_some (look (env S.known) tag) ≡ nat_lt 0 count → count ≡ 0 → AreShown (whole_unit S) S.known (UnionTag tag) None
union_none S tag count there none = tagged_none (is_some (look (env S.known) tag)) count (tag_shape (placed_in (whole_unit S).completed (UnionTag tag))) there none

-- ---- arrays

-- what is known of the elements of an array that is measured
pub record Measured (m : Known) (element n : ℕ) : Type 0 where
  pub complete : IsTrue (is_complete_in (env m) (tree m element))
  pub small : (layout_in (env m) (tree m element)).size ≤ 2 ^ 32
  pub whole : n * (layout_in (env m) (tree m element)).size ≤ 2 ^ 32
  pub is : is_measured (env m) (ArrayOf (tree m element) (Some n)) ≡ true

few_of : (n : ℕ) (b : Bool) → nat_le n (2 ^ 32) ≡ b → is_some (if b then Some n else None) ≡ true → n ≤ 2 ^ 32
few_of n true is some = grind (arith, nat_tests)
few_of n false is some = absurd cc

few : (n : ℕ) → is_some (up_to n) ≡ true → n ≤ 2 ^ 32
few n some = few_of n (nat_le n (2 ^ 32)) refl some

pub measured : (m : Known) (whole element n : ℕ) (b : Bool) → tree m whole ≡ ArrayOf (tree m element) (Some n) → b ≡ is_measured (env m) (tree m whole) → b ≡ true → Measured m element n
measured m whole element n b is test holds =
    let l = layout_in (env m) (tree m element) in
    let all : is_measured (env m) (ArrayOf (tree m element) (Some n)) ≡ true = ap (is_measured (env m)) (sym is) ∙ sym test ∙ holds in
    let both = and_parts (nat_lt 0 n && is_complete_in (env m) (tree m element)) (is_some (up_to (n * l.size))) all in
    let parts = and_parts (nat_lt 0 n) (is_complete_in (env m) (tree m element)) both.0 in
    let some : 0 < n = (let first = parts.0 in grind (arith, nat_tests)) in
    let size : n * l.size ≤ 2 ^ 32 = few (n * l.size) both.1 in
    record { complete = parts.1; small = one_of n l.size some size; whole = size; is = all }

elements_shown : (m : Known) (t : TypeId) (size i count : ℕ) → map (shown_part m) (elements_of t size i count) ≡ element_parts size (tree m t.0) i count
elements_shown m t size i zero = refl
elements_shown m t size i (suc count) = ap (λ (ps : List Shown). record { name = None; offset = i * size; t = tree m t.0 } ∷ ps) (elements_shown m t size (i + 1) count)

array_chosen : (b : Bool) (s t : Shape) → b ≡ true → s ≡ t → Some s ≡ (if b then Some t else None)
array_chosen true s t is same = ap Some same
array_chosen false s t is same = absurd cc

pub array_some : (S : Stored) (element : TypeId) (n bytes : ℕ) (s : declared.Shape) (parts : _) → s ≡ record { opens = 91; closes = 93; parts = parts; more = nat_lt 16 n }
    → parts.items ≡ elements_of element bytes 0 (shown_of n) → bytes ≡ (layout_in (env S.known) (tree S.known element.0)).size → Measured S.known element.0 n
    → AreShown (whole_unit S) S.known (ArrayOf (tree S.known element.0) (Some n)) (Some s)
array_some S element n bytes s parts is items size h =
    let m = S.known in
    let same : map (shown_part m) parts.items ≡ element_parts (layout_in (env m) (tree m element.0)).size (tree m element.0) 0 (shown_of n) =
    ap (map (shown_part m)) items ∙ elements_shown m element bytes 0 (shown_of n) ∙ ap (λ (k : ℕ). element_parts k (tree m element.0) 0 (shown_of n)) size in
    ap (λ (x : declared.Shape). Some (seen_shape m x)) is
    ∙ array_chosen (is_measured (env m) (ArrayOf (tree m element.0) (Some n))) _ _ h.is (λ i. record { opens = 91; closes = 93; parts = same i; more = nat_lt 16 n })

array_not : (b : Bool) (t : Shape) → b ≡ false → ◌≡◌ {A = Option Shape} None (if b then Some t else None)
array_not true t is = absurd cc
array_not false t is = refl

pub array_none : (S : Stored) (whole element n : ℕ) (b : Bool) → tree S.known whole ≡ ArrayOf (tree S.known element) (Some n) → b ≡ is_measured (env S.known) (tree S.known whole) → b ≡ false
    → AreShown (whole_unit S) S.known (ArrayOf (tree S.known element) (Some n)) None
array_none S whole element n b is test fails =
    array_not (is_measured (env S.known) (ArrayOf (tree S.known element) (Some n))) (array_shape (whole_unit S) (tree S.known element) n)
    (ap (is_measured (env S.known)) (sym is) ∙ sym test ∙ fails)

elements_bounds : (k : ℕ) (t : TypeId) (size i count : ℕ) → t.0 < k → (i + count) * size ≤ 2 ^ 32 → Each (IsPart k) (elements_of t size i count)
elements_bounds k t size i zero lt h = tt
elements_bounds k t size i (suc count) lt h =
    let low : i ≤ i + suc count = omega arith in
    let first : i * size ≤ 2 ^ 32 = omega (arith, h, mul-le-mul_right size low) in
    let rest : ((i + 1) + count) * size ≤ 2 ^ 32 = omega (arith, h) in
    ((lt, first), elements_bounds k t size (i + 1) count lt rest)

pub element_parts_within : (m : Known) (element : TypeId) (n bytes count : ℕ) (ps : List Part) → element.0 < length m.terms → ps ≡ elements_of element bytes 0 count → count ≤ n
    → bytes ≡ (layout_in (env m) (tree m element.0)).size → Measured m element.0 n → Each (IsPart (length m.terms)) ps
element_parts_within m element n bytes count ps lt is few size h =
    let most : n * bytes ≤ 2 ^ 32 = rw size h.whole in
    let less : count * bytes ≤ 2 ^ 32 = omega (arith, most, mul-le-mul_right bytes few) in
    subst (Each (IsPart (length m.terms))) (sym is) (elements_bounds (length m.terms) element bytes 0 count lt (omega (arith, less)))

pub count_within : (m : Known) (element n bytes count : ℕ) → count ≤ n → bytes ≡ (layout_in (env m) (tree m element)).size → Measured m element n → count * bytes ≤ 2 ^ 32
count_within m element n bytes count few size h =
    let most : n * bytes ≤ 2 ^ 32 = rw size h.whole in
    omega (arith, most, mul-le-mul_right bytes few)

pub element_small : (i count bytes : ℕ) → i < count → count * bytes ≤ 2 ^ 32 → i * bytes < 2 ^ 64
element_small i count bytes lt h = let low : i ≤ count = omega (arith, lt) in omega (arith, h, mul-le-mul_right bytes low)

pub element_next : (t : TypeId) (bytes i count : ℕ) (ps new all : List Part) → i < count → new ≡ ps ++ (record { name = None; offset = i * bytes; t = t }) ∷ []
    → ps ++ elements_of t bytes i (count - i) ≡ all → new ++ elements_of t bytes (i + 1) (count - (i + 1)) ≡ all
element_next t bytes i count ps new all lt is before =
    let left : count - i ≡ suc (count - (i + 1)) = omega (arith, lt) in
    ap (λ (qs : List Part). qs ++ elements_of t bytes (i + 1) (count - (i + 1))) is
    ∙ append_assoc ps ((record { name = None; offset = i * bytes; t = t }) ∷ []) (elements_of t bytes (i + 1) (count - (i + 1)))
    ∙ ap (λ (k : ℕ). ps ++ elements_of t bytes i k) (sym left) ∙ before

pub elements_end : (t : TypeId) (bytes i count : ℕ) (ps all : List Part) → count ≤ i → ps ++ elements_of t bytes i (count - i) ≡ all → ps ≡ all
elements_end t bytes i count ps all le is =
    let none : count - i ≡ 0 = omega (arith, le) in
    sym (append_none ps) ∙ ap (λ (k : ℕ). ps ++ elements_of t bytes i k) (sym none) ∙ is

-- ---- any type

pub shown_as : {E : Type 0} (U : WholeUnit) (m : Known) (t u : Ty) (r : Result (Option declared.Shape) E) → t ≡ u → IfOk r (AreShown U m t) → IfOk r (AreShown U m u)
shown_as U m t u r is h = subst (λ (x : Ty). IfOk r (AreShown U m x)) is h

-- other types have no parts
pub no_shape : (U : WholeUnit) (m : Known) (k : Term) (t : Ty) → t ≡ tree_in m.lists (trees m) k → ((x : TypeId) (n : ℕ) → k ≢ term.Array x (Some n)) → ((n : ℕ) → k ≢ term.Struct n)
    → ((n : ℕ) → k ≢ term.Union n) → AreShown U m t None
no_shape U m k t is a s u = subst (λ (x : Ty). AreShown U m x None) (sym is) (by k a s u)
  where
    by : (k : Term) → ((x : TypeId) (n : ℕ) → k ≢ term.Array x (Some n)) → ((n : ℕ) → k ≢ term.Struct n) → ((n : ℕ) → k ≢ term.Union n)
        → AreShown U m (tree_in m.lists (trees m) k) None
    by term.Void a s u = refl
    by (term.Int k) a s u = refl
    by (term.Pointer x) a s u = refl
    by (term.Array x None) a s u = refl
    by (term.Array x (Some n)) a s u = absurd (a x n refl)
    by (term.Struct n) a s u = absurd (s n refl)
    by (term.Union n) a s u = absurd (u n refl)
    by (term.Function x p v) a s u = refl
    by (term.Const x) a s u = refl
