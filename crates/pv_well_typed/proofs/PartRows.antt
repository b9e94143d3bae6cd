-- The parts of an object that an initializer goes to (C17 6.7.9p17 to p22): each is of a complete type, and lies within the object.
use Rattle.std.proofs.Common.{◌≡◌, ℕ, zero, suc, ◌<◌, ◌+◌, ◌*◌, ◌≤◌, ◌^◌, max, Bool, true, false, Option, Some, None, List, [], ◌∷◌, ◌++◌, nat_le, nat_lt, option_map, refl, sym, ap, subst, ◌∙◌, arith, ◌⊎◌, inl, inr}
use Rattle.std.proofs.lemmas.Bool.Decides.{nat_tests}
use Rattle.std.specs.Prelude.{if◌then◌else◌, option_and_then}
use Rattle.std.specs.Int.{next_multiple_of}
use Rattle.pv_num.specs.declared.kinds.IntKind.{IntKind}
use Rattle.pv_num.specs.declared.kinds.IntKind.TheVariants as kind
use Rattle.pv_types.specs.Sorts.{bare_type, is_scalar}
use Rattle.pv_types.specs.Layouts.{Entry, Named, Part, Completed, layout_in, layout_at, layouts_of, is_complete_in, struct_placed, union_placed}
use Rattle.pv_types.specs.LayoutParts.{part_count, struct_end, union_end}
use Rattle.pv_types.specs.Members.{completed_members}
use Rattle.pv_types.specs.Ty.{Ty, VoidTy, IntTy, PointerTo, ArrayOf, StructTag, UnionTag, FunctionTy, ConstOf}
use Rattle.pv_types.proofs.Fills.{struct_end-ge, union_end-ge}
use Rattle.pv_types.proofs.LayoutLaws.{complete-append}
use Rattle.pv_typed.specs.Known.{Each}
use Rattle.pv_typed.specs.TypedUnits.{WholeUnit}
use Rattle.pv_unit.specs.Parts.{part_number, first_member, part_in, part_at, with_size, can_be_initialized, leaf_within, first_leaf}
use Rattle.pv_num.specs.Kinds.{is_character_kind}
use Rattle.pv_unit.specs.PartParts.{within, character_layer}
use Rattle.pv_unit.specs.InitializerParts.{zero_leaf}
use Rattle.pv_well_typed.specs.Proper.{IsProper}
use Rattle.pv_well_typed.specs.Later.{Extends}
use Rattle.pv_well_typed.specs.ProperStates.{IsMember, IsCompleted}
use Rattle.pv_well_typed.proofs.Types.{plain-bare, layout-later, proper-bare}
use Rattle.pv_well_typed.proofs.UnaryRows.{both-true}
use Rattle.pv_well_typed.proofs.MemberRows.{IsFound, found-before, found-as, HasMembers, members-of, none-found, struct-size, union-size}
use Rattle.pv_well_typed.proofs.Moving.{Grows}

-- ---- types that can be initialized (6.7.9p3)

pub can-complete : (es : List Entry) (t : Ty) → is_complete_in es t ≡ true → can_be_initialized es t ≡ true
can-complete es VoidTy h = h
can-complete es (IntTy k) h = h
can-complete es (PointerTo t) h = h
can-complete es (ArrayOf t None) h = absurd cc
can-complete es (ArrayOf t (Some n)) h = h
can-complete es (StructTag n) h = h
can-complete es (UnionTag n) h = h
can-complete es (FunctionTy t ts c) h = h
can-complete es (ConstOf t) h = h

pub can-bare : (v : WholeUnit) (es : List Entry) (t : Ty) → IsProper v t → can_be_initialized es t ≡ true → can_be_initialized es (bare_type t) ≡ true
can-bare v es VoidTy p h = h
can-bare v es (IntTy k) p h = h
can-bare v es (PointerTo t) p h = h
can-bare v es (ArrayOf t n) p h = h
can-bare v es (StructTag n) p h = h
can-bare v es (UnionTag n) p h = h
can-bare v es (FunctionTy t ts c) p h = h
can-bare v es (ConstOf t) p h = subst (λ u. can_be_initialized es u ≡ true) (sym (plain-bare t p.0)) (can-complete es t h)

can-append : (es more : List Entry) (t : Ty) → can_be_initialized es t ≡ true → can_be_initialized (es ++ more) t ≡ true
can-append es more VoidTy h = absurd cc
can-append es more (IntTy k) h = h
can-append es more (PointerTo t) h = h
can-append es more (ArrayOf t None) h = complete-append es more t h ∙ h
can-append es more (ArrayOf t (Some n)) h = complete-append es more (ArrayOf t (Some n)) h ∙ h
can-append es more (StructTag n) h = complete-append es more (StructTag n) h ∙ h
can-append es more (UnionTag n) h = complete-append es more (UnionTag n) h ∙ h
can-append es more (FunctionTy t ts c) h = absurd cc
can-append es more (ConstOf t) h = complete-append es more (ConstOf t) h ∙ h

pub can-grown : (es fs : List Entry) (t : Ty) → Grows es fs → can_be_initialized es t ≡ true → can_be_initialized fs t ≡ true
can-grown es fs t g h = subst (λ (xs : List Entry). can_be_initialized xs t ≡ true) (sym g.1) (can-append es g.0 t h)

-- 6.2.5p26: as large as without qualifiers
pub bare-size : (es : List Entry) (t : Ty) → (layout_in es (bare_type t)).size ≡ (layout_in es t).size
bare-size es VoidTy = refl
bare-size es (IntTy k) = refl
bare-size es (PointerTo t) = refl
bare-size es (ArrayOf t n) = refl
bare-size es (StructTag n) = refl
bare-size es (UnionTag n) = refl
bare-size es (FunctionTy t ts c) = refl
bare-size es (ConstOf t) = bare-size es t

-- 6.7.9p22: a complete type stays as it is
pub sized-whole : (es : List Entry) (t : Ty) (n : ℕ) → is_complete_in es t ≡ true → with_size (bare_type t) n ≡ bare_type t
sized-whole es VoidTy n h = refl
sized-whole es (IntTy k) n h = refl
sized-whole es (PointerTo t) n h = refl
sized-whole es (ArrayOf t None) n h = absurd cc
sized-whole es (ArrayOf t (Some m)) n h = refl
sized-whole es (StructTag k) n h = refl
sized-whole es (UnionTag k) n h = refl
sized-whole es (FunctionTy t ts c) n h = refl
sized-whole es (ConstOf t) n h = sized-whole es t n h

pub sized-size : (es : List Entry) (t : Ty) (n : ℕ) → is_complete_in es t ≡ true → (layout_in es (with_size (bare_type t) n)).size ≡ (layout_in es t).size
sized-size es t n h = ap (λ u. (layout_in es u).size) (sized-whole es t n h) ∙ bare-size es t

-- 6.7.9p22: with more elements it is no smaller
pub sized-more : (es : List Entry) (t : Ty) (n : ℕ) → (layout_in es (with_size t n)).size ≤ (layout_in es (with_size t (n + 1))).size
sized-more es (ArrayOf t None) n = omega arith
sized-more es (ArrayOf t (Some m)) n = omega arith
sized-more es VoidTy n = omega arith
sized-more es (IntTy k) n = omega arith
sized-more es (PointerTo t) n = omega arith
sized-more es (StructTag k) n = omega arith
sized-more es (UnionTag k) n = omega arith
sized-more es (FunctionTy t ts c) n = omega arith
sized-more es (ConstOf t) n = omega arith

-- 6.2.5p15: a character has one byte
kind-byte : (k : IntKind) (es : List Entry) → is_character_kind k ≡ true → (layout_in es (IntTy k)).size ≡ 1
kind-byte kind.Char es e = refl
kind-byte kind.SChar es e = refl
kind-byte kind.UChar es e = refl
kind-byte _ es e = absurd cc

pub character-byte : (es : List Entry) (t : Ty) → character_layer (bare_type t) ≡ true → (layout_in es t).size ≡ 1
character-byte es (IntTy k) e = kind-byte k es e
character-byte es (ConstOf t) e = character-byte es t e
character-byte es VoidTy e = absurd cc
character-byte es (PointerTo t) e = absurd cc
character-byte es (ArrayOf t n) e = absurd cc
character-byte es (StructTag n) e = absurd cc
character-byte es (UnionTag n) e = absurd cc
character-byte es (FunctionTy t ts c) e = absurd cc

-- ---- members by number (6.7.9p17)

struct-number : (v : WholeUnit) (es : List Entry) (n o : ℕ) (ms : List Named) → Each (IsMember v es) ms → (p : Part) → part_number n (struct_placed (layout_at es) o ms) ≡ Some p → IsFound v es (struct_end es o ms) p
struct-number v es zero o [] h p e = absurd cc
struct-number v es (suc n) o [] h p e = absurd cc
struct-number v es zero o (m ∷ ms) h p e =
    let more = struct_end-ge es ms (next_multiple_of o (layout_in es m.t).align + (layout_in es m.t).size) in
    found-as v es _ (record { offset = next_multiple_of o (layout_in es m.t).align; t = m.t }) p (record { proper = h.0.0; complete = h.0.1; within = more }) e
struct-number v es (suc n) o (m ∷ ms) h p e = struct-number v es n (next_multiple_of o (layout_in es m.t).align + (layout_in es m.t).size) ms h.1 p e

none-numbered : (n : ℕ) (p : Part) → part_number n [] ≡ Some p → ⊥
none-numbered zero p e = absurd cc
none-numbered (suc n) p e = absurd cc

union-number : (v : WholeUnit) (es : List Entry) (n : ℕ) (ms : List Named) → Each (IsMember v es) ms → (p : Part) → part_number n (first_member (union_placed (layout_at es) ms)) ≡ Some p → IsFound v es (union_end es 0 ms) p
union-number v es n [] h p e = absurd (none-numbered n p e)
union-number v es zero (m ∷ ms) h p e =
    let more = union_end-ge es ms (max 0 (layout_in es m.t).size) in
    found-as v es _ (record { offset = 0; t = m.t }) p (record { proper = h.0.0; complete = h.0.1; within = omega (arith, more) }) e
union-number v es (suc n) (m ∷ ms) h p e = absurd (none-numbered n p e)

-- ---- elements (6.7.9p17, p22)

-- an element of an array, behind those before it (6.2.5p20)
abbrev element : List Entry → Ty → ℕ → Part
element es t i = record { offset = i * (layout_in es t).size; t = t }

element-within : (n m s : ℕ) → n < m → n * s + s ≤ m * s
element-within n m s lt = grind arith

-- a part: it lies within the object, which has so many parts then
pub record IsPart (v : WholeUnit) (es : List Entry) (end : ℕ) (t : Ty) (p : Part) : Type 0 where
  pub found : IsFound v es end p
  pub whole : IsProper v t

module _ (v : WholeUnit) (ds : List Completed) (all : Each (IsCompleted v (layouts_of ds)) ds) (later : Extends (layouts_of ds) v) where
  struct-part : (n k : ℕ) → IsProper v (StructTag k) → (p : Part) → part_in ds (StructTag k) n ≡ Some p → IsFound v (layouts_of ds) (layout_in (layouts_of ds) (StructTag k)).size p
  struct-part n k q p e = by (members-of v (layouts_of ds) ds k all)
    where
      by : (completed_members ds k ≡ []) ⊎ HasMembers v (layouts_of ds) k (completed_members ds k) → IsFound v (layouts_of ds) (layout_in (layouts_of ds) (StructTag k)).size p
      by (inl none) = absurd (none-numbered n p (subst (λ ms. part_number n (struct_placed (layout_at (layouts_of ds)) 0 ms) ≡ Some p) none e))
      by (inr h) = found-before v (layouts_of ds) _ _ p
          (struct-size (layouts_of ds) k h.union (completed_members ds k) h.laid (sym h.word ∙ q))
          (struct-number v (layouts_of ds) n 0 (completed_members ds k) h.members p e)

  union-part : (n k : ℕ) → IsProper v (UnionTag k) → (p : Part) → part_in ds (UnionTag k) n ≡ Some p → IsFound v (layouts_of ds) (layout_in (layouts_of ds) (UnionTag k)).size p
  union-part n k q p e = by (members-of v (layouts_of ds) ds k all)
    where
      by : (completed_members ds k ≡ []) ⊎ HasMembers v (layouts_of ds) k (completed_members ds k) → IsFound v (layouts_of ds) (layout_in (layouts_of ds) (UnionTag k)).size p
      by (inl none) = absurd (none-numbered n p (subst (λ ms. part_number n (first_member (union_placed (layout_at (layouts_of ds)) ms)) ≡ Some p) none e))
      by (inr h) = found-before v (layouts_of ds) _ _ p
          (union-size (layouts_of ds) k h.union (completed_members ds k) h.laid (sym h.word ∙ q))
          (union-number v (layouts_of ds) n (completed_members ds k) h.members p e)

  array-part : (n : ℕ) (t : Ty) (m : ℕ) → IsProper v (ArrayOf t (Some m)) → is_complete_in (layouts_of ds) (ArrayOf t (Some m)) ≡ true → (p : Part) → part_in ds (ArrayOf t (Some m)) n ≡ Some p
      → IsFound v (layouts_of ds) (layout_in (layouts_of ds) (ArrayOf t (Some m))).size p
  array-part n t m q c p e = by (nat_lt n m) refl e
    where
      by : (b : Bool) → nat_lt n m ≡ b → (if b then Some (element (layouts_of ds) t n) else None) ≡ Some p → IsFound v (layouts_of ds) (m * (layout_in (layouts_of ds) t).size) p
      by true less e =
          found-as v (layouts_of ds) _ (element (layouts_of ds) t n) p
          (record { proper = q.0; complete = (both-true (nat_lt 0 m) (is_complete_in (layouts_of ds) t) c).1; within = element-within n m (layout_in (layouts_of ds) t).size (grind (arith, nat_tests)) }) e
      by false less e = absurd (none-found p e)

  unsized-part : (n : ℕ) (t : Ty) → IsProper v (ArrayOf t None) → is_complete_in (layouts_of ds) t ≡ true → (p : Part) → part_in ds (ArrayOf t None) n ≡ Some p
      → IsPart v (layouts_of ds) ((n + 1) * (layout_in (layouts_of ds) t).size) (ArrayOf t (Some (n + 1))) p
  unsized-part n t q c p e = by (nat_le ((n + 1) * (layout_in (layouts_of ds) t).size) (2 ^ 32)) refl e
    where
      by : (b : Bool) → nat_le ((n + 1) * (layout_in (layouts_of ds) t).size) (2 ^ 32) ≡ b → (if b then Some (element (layouts_of ds) t n) else None) ≡ Some p
          → IsPart v (layouts_of ds) ((n + 1) * (layout_in (layouts_of ds) t).size) (ArrayOf t (Some (n + 1))) p
      by true small e = record {
        found = found-as v (layouts_of ds) _ (element (layouts_of ds) t n) p (record { proper = q.0; complete = c; within = omega arith }) e;
        whole = (q.0, q.1, subst (λ s. (n + 1) * s ≤ 2 ^ 32) (sym (ap (λ l. l.size) (layout-later (layouts_of ds) v later t c))) (grind (arith, nat_tests)));
      }
      by false small e = absurd (none-found p e)

  -- 6.7.9p17: the part that one of a list's initializers is for
  part-found : (t : Ty) → IsProper v t → can_be_initialized (layouts_of ds) t ≡ true → (n : ℕ) (p : Part) → part_in ds t n ≡ Some p
      → IsPart v (layouts_of ds) (layout_in (layouts_of ds) (with_size t (n + 1))).size (with_size t (n + 1)) p
  part-found (StructTag k) q c n p e = record { found = struct-part n k q p e; whole = q }
  part-found (UnionTag k) q c n p e = record { found = union-part n k q p e; whole = q }
  part-found (ArrayOf t (Some m)) q c n p e = record { found = array-part n t m q c p e; whole = q }
  part-found (ArrayOf t None) q c n p e = unsized-part n t q c p e
  part-found VoidTy q c n p e = absurd cc
  part-found (IntTy k) q c n p e = absurd cc
  part-found (PointerTo t) q c n p e = absurd cc
  part-found (FunctionTy t ts d) q c n p e = absurd cc
  part-found (ConstOf t) q c n p e = absurd cc

  -- the same within a part of an object
  pub part-at-found : (whole : Part) → IsProper v whole.t → can_be_initialized (layouts_of ds) whole.t ≡ true → (n : ℕ) (p : Part) → part_at ds whole n ≡ Some p
      → IsPart v (layouts_of ds) (whole.offset + (layout_in (layouts_of ds) (with_size (bare_type whole.t) (n + 1))).size) (with_size (bare_type whole.t) (n + 1)) p
  part-at-found whole q c n p e = by (part_in ds (bare_type whole.t) n) refl e
    where
      by : (o : Option Part) → part_in ds (bare_type whole.t) n ≡ o → option_map (within whole) o ≡ Some p
          → IsPart v (layouts_of ds) (whole.offset + (layout_in (layouts_of ds) (with_size (bare_type whole.t) (n + 1))).size) (with_size (bare_type whole.t) (n + 1)) p
      by None f e = absurd (none-found p e)
      by (Some x) f e =
          let h = part-found (bare_type whole.t) (proper-bare v whole.t q) (can-bare v (layouts_of ds) whole.t q c) n x f in
          let w = h.found.within in
          record { found = found-as v (layouts_of ds) _ (within whole x) p (record { proper = h.found.proper; complete = h.found.complete; within = omega (arith, w) }) e; whole = h.whole }

  -- 6.7.9p20: the first scalar of a part
  leaf-found : (k : ℕ) (whole : Part) → IsProper v whole.t → is_complete_in (layouts_of ds) whole.t ≡ true → (p : Part) → leaf_within k ds whole ≡ Some p
      → IsFound v (layouts_of ds) (whole.offset + (layout_in (layouts_of ds) whole.t).size) p
  leaf-found zero whole q c p e = absurd (none-found p e)
  leaf-found (suc k) whole q c p e = by (λ x y z. leaf-found k x y z p) (is_scalar whole.t) (part_at ds whole 0) refl e
    where
      by : ((x : Part) → IsProper v x.t → is_complete_in (layouts_of ds) x.t ≡ true → leaf_within k ds x ≡ Some p → IsFound v (layouts_of ds) (x.offset + (layout_in (layouts_of ds) x.t).size) p)
          → (b : Bool) (o : Option Part) → part_at ds whole 0 ≡ o → (if b then Some whole else option_and_then (leaf_within k ds) o) ≡ Some p
          → IsFound v (layouts_of ds) (whole.offset + (layout_in (layouts_of ds) whole.t).size) p
      by inner true o f e = found-as v (layouts_of ds) _ whole p (record { proper = q; complete = c; within = omega arith }) e
      by inner false None f e = absurd (none-found p e)
      by inner false (Some x) f e =
          let h = part-at-found whole q (can-complete (layouts_of ds) whole.t c) 0 x f in
          let w = h.found.within in
          let s = sized-size (layouts_of ds) whole.t (0 + 1) c in
          found-before v (layouts_of ds) _ _ p (omega (arith, w, s)) (inner x h.found.proper h.found.complete e)

  -- 6.7.9p20, p21: of the list `{0}`, the first scalar of the first part
  pub zero-found : (whole : Part) → IsProper v whole.t → can_be_initialized (layouts_of ds) whole.t ≡ true → (p : Part) → zero_leaf ds whole ≡ Some p
      → IsPart v (layouts_of ds) (whole.offset + (layout_in (layouts_of ds) (with_size (bare_type whole.t) 1)).size) (with_size (bare_type whole.t) 1) p
  zero-found whole q c p e = by (part_at ds whole 0) refl e
    where
      by : (o : Option Part) → part_at ds whole 0 ≡ o → option_and_then (first_leaf ds) o ≡ Some p
          → IsPart v (layouts_of ds) (whole.offset + (layout_in (layouts_of ds) (with_size (bare_type whole.t) 1)).size) (with_size (bare_type whole.t) 1) p
      by None f e = absurd (none-found p e)
      by (Some x) f e =
          let h = part-at-found whole q c 0 x f in
          let w = h.found.within in
          record {
            found = found-before v (layouts_of ds) _ _ p w (leaf-found (part_count (layout_in (layouts_of ds) x.t) + 1) x h.found.proper h.found.complete p e);
            whole = h.whole;
          }
