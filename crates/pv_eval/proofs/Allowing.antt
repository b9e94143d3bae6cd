-- What an effective type permits, of a live instance.
use Rattle.std.proofs.Common.{◌≡◌, ℕ, ◌*◌, ◌/◌, ◌%◌, ◌<◌, ◌≤◌, ◌^◌, ◌==◌, Bool, true, false, ◌&&◌, ◌||◌, List, [], ◌∷◌, drop, IsTrue, Some, None, refl, sym, ap, ◌∙◌, subst, arith, mul-le-mul_right}
use Rattle.std.specs.Prelude.{nat_le, Option, if◌then◌else◌}
use Rattle.std.specs.Option.{option_map}
use Rattle.std.proofs.lemmas.Bool.{lt-ltb, le-leb}
use Rattle.std.proofs.lemmas.Option.{same_Some, none-some}
use Rattle.pv_num.specs.Kinds.{width}
use Rattle.pv_num.specs.declared.kinds.IntKind.{IntKind}
use Rattle.pv_num.specs.declared.kinds.IntKind.TheVariants as kind
use Rattle.pv_types.specs.Ty.{Ty, VoidTy, IntTy, PointerTo, ArrayOf, StructTag, UnionTag, FunctionTy, ConstOf}
use Rattle.pv_types.specs.declared.terms.TypeId.{TypeId}
use Rattle.pv_types.specs.Compatible.{are_compatible}
use Rattle.pv_types.proofs.Compared.{alike_self}
use Rattle.pv_types.specs.Known.{Known, tree, env}
use Rattle.pv_types.specs.Layouts.{Part, Entry, parts_of_elements, layout_in, is_complete_in}
use Rattle.pv_layout.specs.Parts.{some_at, leaves, agrees, are_counterparts}
use Rattle.pv_types.specs.Sorts.{bare_type, is_scalar, is_character, is_scalar_in}
use Rattle.pv_layout.proofs.Ahead.{bare_size, bare_complete}
use Rattle.pv_layout.proofs.PartLaws.{at_repeated, some_leaf}
use Rattle.pv_inst.specs.declared.values.Instance.{Instance}
use Rattle.pv_inst.specs.declared.values.Info.{Info}
use Rattle.pv_inst.specs.declared.values.Kind.{Kind}
use Rattle.pv_inst.specs.declared.values.Kind.TheVariants.{Declared, Literal, Heap, Function}
use Rattle.pv_inst.specs.Table.{instance_at}
use Rattle.pv_inst.specs.Infos.{info_of}
use Rattle.pv_object.specs.declared.values.Reach.{Reach}
use Rattle.pv_world.specs.Worlds.{World}
use Rattle.pv_world.specs.Objects.{owner_of}
use Rattle.pv_typed.specs.Tables.{Stored, whole_unit}
use Rattle.pv_typed.specs.TypedUnits.{object_at, layouts}
use Rattle.pv_eval.specs.States.{Setting}
use Rattle.pv_eval.specs.Sizes.{setting_of, size_in}
use Rattle.pv_eval.specs.Objects.{has_extent}
use Rattle.pv_eval.specs.TypeForms.{Lvalue, lvalue}
use Rattle.pv_eval.specs.Permission.{parts_of, type_by, permits_object, permits_in, permits_row, permits}
use Rattle.pv_eval.specs.Plainly.{HasKind, IsObject, IsOwnType, is_declared}

abbrev told : Instance → Info
told x = record { name = x.name; k = x.k; base = x.base; size = x.size; kind = x.kind; exposed = x.exposed }

-- the type without its qualifiers
module _ (m k : Known) (i j : ℕ) (same : k ≡ m) (is : tree k i ≡ bare_type (tree k j)) where
  pub tree_bare : tree m i ≡ bare_type (tree m j)
  tree_bare = subst (λ (z : Known). tree z i ≡ bare_type (tree z j)) same is

  pub complete_bare : IsTrue (is_complete_in (env m) (tree m j)) → IsTrue (is_complete_in (env m) (tree m i))
  complete_bare h = ap (is_complete_in (env m)) tree_bare ∙ bare_complete (env m) (tree m j) ∙ h

  pub size_bare : size_in m (tree m i) ≡ size_in m (tree m j)
  size_bare = ap (size_in m) tree_bare ∙ bare_size (env m) (tree m j)

-- an object of an integer type that is accessed as a whole, at that type
own-kind : (b : Setting) (k : IntKind) → permits_object b (if has_extent b (IntTy k) then Some (IntTy k) else None) 0 (IntTy k) ≡ true
unfolding are_compatible
own-kind b kind.Bool = refl
own-kind b kind.Char = refl
own-kind b kind.SChar = refl
own-kind b kind.UChar = refl
own-kind b kind.Short = refl
own-kind b kind.UShort = refl
own-kind b kind.Int = refl
own-kind b kind.UInt = refl
own-kind b kind.Long = refl
own-kind b kind.ULong = refl
own-kind b kind.LLong = refl
own-kind b kind.ULLong = refl

pub whole_integer : (u : Stored) (o offset w : ℕ) (k : IntKind) → offset ≡ 0 → (object_at (whole_unit u) o).t ≡ tree u.known w → tree u.known w ≡ IntTy k
    → permits_object (setting_of u) (type_by (setting_of u) (Some o)) offset (tree u.known w) ≡ true
whole_integer u o offset w k zero same form =
    let b = setting_of u in
    let P : Ty → ℕ → Ty → Type 0 = λ t n want. permits_object b (if has_extent b t then Some t else None) n want ≡ true in
    subst (λ (n : ℕ). P (object_at (whole_unit u) o).t n (tree u.known w)) (sym zero)
    (subst (λ (t : Ty). P t 0 (tree u.known w)) (sym same)
    (subst (λ (t : Ty). P t 0 t) (sym form) (own-kind b k)))

-- integer and pointer types have no qualifiers around them
pub integer_bare : (m : Known) (w : ℕ) (k : IntKind) → tree m w ≡ IntTy k → bare_type (tree m w) ≡ tree m w
integer_bare m w k form = ap bare_type form ∙ sym form

pub pointer_bare : (m : Known) (w : ℕ) (t : Ty) → tree m w ≡ PointerTo t → bare_type (tree m w) ≡ tree m w
pointer_bare m w t form = ap bare_type form ∙ sym form

-- a type is compatible with itself
pub compatible-self : (t : Ty) → are_compatible t t ≡ true
unfolding are_compatible
compatible-self t = search alike_self

-- an object of a pointer type that is accessed as a whole, at that type
own-pointer : (b : Setting) (t : Ty) → permits_object b (if has_extent b (PointerTo t) then Some (PointerTo t) else None) 0 (PointerTo t) ≡ true
own-pointer b t = ap (λ (c : Bool). (0 == 0 && (c || false)) || false) (compatible-self (PointerTo t))

pub whole_pointer : (u : Stored) (o offset w : ℕ) (t : Ty) → offset ≡ 0 → (object_at (whole_unit u) o).t ≡ tree u.known w → tree u.known w ≡ PointerTo t
    → permits_object (setting_of u) (type_by (setting_of u) (Some o)) offset (tree u.known w) ≡ true
whole_pointer u o offset w t zero same form =
    let b = setting_of u in
    let P : Ty → ℕ → Ty → Type 0 = λ s n want. permits_object b (if has_extent b s then Some s else None) n want ≡ true in
    subst (λ (n : ℕ). P (object_at (whole_unit u) o).t n (tree u.known w)) (sym zero)
    (subst (λ (s : Ty). P s 0 (tree u.known w)) (sym same)
    (subst (λ (s : Ty). P s 0 s) (sym form) (own-pointer b t)))

-- the one part of a scalar type, qualified or not
abbrev one_part : Ty → List Part
one_part t = record { offset = 0; t = t } ∷ []

scalar-part : (m : List Entry) (t : Ty) → is_scalar t ≡ true → (layout_in m t).parts ≡ one_part t
scalar-part m (IntTy k) h = refl
scalar-part m (PointerTo t) h = refl
scalar-part m (ConstOf t) h = ap (λ (ps : List Part). record { offset = 0; t = ConstOf t } ∷ drop 1 ps) (scalar-part m t h)
scalar-part m VoidTy h = absurd cc
scalar-part m (ArrayOf t n) h = absurd cc
scalar-part m (StructTag n) h = absurd cc
scalar-part m (UnionTag n) h = absurd cc
scalar-part m (FunctionTy t ts v) h = absurd cc

-- an element of an array of integers, at that type
pub agrees-itself : (k : IntKind) → agrees (IntTy k) (IntTy k) ≡ true
unfolding are_compatible
agrees-itself kind.Bool = refl
agrees-itself kind.Char = refl
agrees-itself kind.SChar = refl
agrees-itself kind.UChar = refl
agrees-itself kind.Short = refl
agrees-itself kind.UShort = refl
agrees-itself kind.Int = refl
agrees-itself kind.UInt = refl
agrees-itself kind.Long = refl
agrees-itself kind.ULong = refl
agrees-itself kind.LLong = refl
agrees-itself kind.ULLong = refl

pub no-whole : (h g : Bool) → ((h && false) || g) ≡ g
no-whole true g = refl
no-whole false g = refl

pub true-or : (c x : Bool) → x ≡ true → (if c then true else x) ≡ true
true-or true x e = refl
true-or false x e = e

abbrev array_parts : Ty → (n size : ℕ) → List Part
array_parts t n s = record { offset = 0; t = ArrayOf t (Some n) } ∷ parts_of_elements n s (one_part t)

-- a type that is, qualifiers aside, an integer type
module _ (e : Ty) (k : IntKind) (bare : bare_type e ≡ IntTy k) where
  agrees-bare : agrees (IntTy k) e ≡ true
  agrees-bare = ap (λ (x : Ty). are_compatible x (IntTy k) || are_counterparts x (IntTy k)) bare ∙ agrees-itself k

  bare-leaf : (is_scalar e && agrees (IntTy k) e) ≡ true
  bare-leaf = ap (λ (x : Ty). is_scalar_in x && agrees (IntTy k) e) bare ∙ agrees-bare

  element-leaf : (n s o : ℕ) → 0 < s → o % s ≡ 0 → o / s < n → some_at (agrees (IntTy k)) o (leaves (array_parts e n s)) ≡ true
  element-leaf n s o some begins within =
      let g : Ty → Bool = λ t. is_scalar t && agrees (IntTy k) t in
      let one = one_part e in
      some_leaf (agrees (IntTy k)) o (array_parts e n s)
      ∙ no-whole (0 == o) (some_at g o (parts_of_elements n s one))
      ∙ at_repeated g s o one n some (some, tt)
      ∙ ap (λ b. b && some_at g (o % s) one) (lt-ltb (o / s) n within)
      ∙ ap (λ m. some_at g m one) begins
      ∙ ap (λ b. (0 == 0 && b) || false) bare-leaf

  element-size : (m : List Entry) → (layout_in m e).size ≡ width k / 8
  element-size m = sym (bare_size m e) ∙ ap (λ (x : Ty). (layout_in m x).size) bare

  element-complete : (m : List Entry) → is_complete_in m e ≡ true
  element-complete m = sym (bare_complete m e) ∙ ap (is_complete_in m) bare

  array-extent : (b : Setting) (n s : ℕ) → s ≡ width k / 8 → s ≤ 8 → 0 < n → n ≤ 2 ^ 29 → has_extent b (ArrayOf e (Some n)) ≡ true
  array-extent b n s size few some most =
      let m = layouts b.unit in
      let big : n * s ≤ (2 ^ 29) * s = mul-le-mul_right s most in
      let small : n * s ≤ 2 ^ 32 = omega (arith, big, few) in
      ap (λ c. (c && is_complete_in m e) && nat_le (n * (layout_in m e).size) (2 ^ 32)) (lt-ltb 0 n some)
      ∙ ap (λ c. c && nat_le (n * (layout_in m e).size) (2 ^ 32)) (element-complete m)
      ∙ ap (λ z. nat_le (n * z) (2 ^ 32)) (element-size m ∙ sym size)
      ∙ le-leb (n * s) (2 ^ 32) small

  array-row : (m : List Entry) (n s : ℕ) → s ≡ width k / 8 → (layout_in m (ArrayOf e (Some n))).parts ≡ array_parts e n s
  array-row m n s size =
      ap (λ z. record { offset = 0; t = ArrayOf e (Some n) } ∷ parts_of_elements n z (layout_in m e).parts) (element-size m ∙ sym size)
      ∙ ap (λ ps. record { offset = 0; t = ArrayOf e (Some n) } ∷ parts_of_elements n s ps) (scalar-part m e (ap is_scalar_in bare))

  whole-element : (b : Setting) (n s o : ℕ) → s ≡ width k / 8 → 1 ≤ s → s ≤ 8 → o % s ≡ 0 → o / s < n → n ≤ 2 ^ 29
      → permits_object b (if has_extent b (ArrayOf e (Some n)) then Some (ArrayOf e (Some n)) else None) o (IntTy k) ≡ true
  whole-element b n s o size some few begins within most =
      let t = ArrayOf e (Some n) in
      let row = array-row (layouts b.unit) n s size in
      ap (λ c. permits_object b (if c then Some t else None) o (IntTy k)) (array-extent b n s size few (omega (arith, within)) most)
      ∙ true-or (is_character (IntTy k)) (some_at (agrees (IntTy k)) o (leaves (parts_of b t)))
      (subst (λ ps. some_at (agrees (IntTy k)) o (leaves ps) ≡ true) (sym row) (element-leaf n s o some begins within))

pub element_permitted : (u : Stored) (o offset w : ℕ) (e : Ty) (k : IntKind) (n s : ℕ) → (object_at (whole_unit u) o).t ≡ ArrayOf e (Some n) → bare_type e ≡ tree u.known w → tree u.known w ≡ IntTy k → s ≡ width k / 8 → 1 ≤ s → s ≤ 8 → offset % s ≡ 0 → offset / s < n → n ≤ 2 ^ 29
    → permits_object (setting_of u) (type_by (setting_of u) (Some o)) offset (tree u.known w) ≡ true
element_permitted u o offset w e k n s same own form size some few begins within most =
    let b = setting_of u in
    let P : Ty → Ty → Type 0 = λ t want. permits_object b (if has_extent b t then Some t else None) offset want ≡ true in
    subst (λ (t : Ty). P t (tree u.known w)) (sym same)
    (subst (λ (want : Ty). P (ArrayOf e (Some n)) want) (sym form) (whole-element e k (own ∙ form) b n s offset size some few begins within most))

-- what is permitted in a live instance, by its kind
kind_of_live : (live : Bool) (x : Instance) (k : Kind) → option_map (λ (y : Info). y.kind) (if live then Some (told x) else None) ≡ Some k → x.kind ≡ k
kind_of_live true x k e = same_Some _ _ e
kind_of_live false x k e = absurd (none-some _ e)

row_in : (b : Setting) (w : World) (l : Lvalue) (at : Reach) (writes : Bool) (o : Option Instance) (k : Kind) → option_map (λ (y : Info). y.kind) (info_of o) ≡ Some k → permits_row b w l at writes o ≡ permits_in b w l at writes k
row_in b w l at writes None k e = absurd (none-some _ e)
row_in b w l at writes (Some x) k e = ap (permits_in b w l at writes) (kind_of_live x.live x k e)

pub permits_kind : (b : Setting) (w : World) (l : Lvalue) (at : Reach) (writes : Bool) (k : Kind) → HasKind w.memory.table at k → permits b w l at writes ≡ permits_in b w l at writes k
permits_kind b w l at writes k e = row_in b w l at writes (instance_at w.memory.table.instances at.inst) k e

-- an object of a type that is an integer or pointer type, qualifiers aside, and is accessed as a whole, at that type
scalar-extent : (b : Setting) (t : Ty) → is_scalar t ≡ true → has_extent b t ≡ true
scalar-extent b (IntTy kind.Bool) h = refl
scalar-extent b (IntTy kind.Char) h = refl
scalar-extent b (IntTy kind.SChar) h = refl
scalar-extent b (IntTy kind.UChar) h = refl
scalar-extent b (IntTy kind.Short) h = refl
scalar-extent b (IntTy kind.UShort) h = refl
scalar-extent b (IntTy kind.Int) h = refl
scalar-extent b (IntTy kind.UInt) h = refl
scalar-extent b (IntTy kind.Long) h = refl
scalar-extent b (IntTy kind.ULong) h = refl
scalar-extent b (IntTy kind.LLong) h = refl
scalar-extent b (IntTy kind.ULLong) h = refl
scalar-extent b (PointerTo t) h = refl
scalar-extent b (ConstOf t) h = scalar-extent b t h
scalar-extent b VoidTy h = absurd cc
scalar-extent b (ArrayOf t n) h = absurd cc
scalar-extent b (StructTag n) h = absurd cc
scalar-extent b (UnionTag n) h = absurd cc
scalar-extent b (FunctionTy t ts v) h = absurd cc

scalar-itself : (t : Ty) → is_scalar_in t ≡ true → bare_type t ≡ t
scalar-itself (IntTy k) h = refl
scalar-itself (PointerTo t) h = refl
scalar-itself (ConstOf t) h = absurd cc
scalar-itself VoidTy h = absurd cc
scalar-itself (ArrayOf t n) h = absurd cc
scalar-itself (StructTag n) h = absurd cc
scalar-itself (UnionTag n) h = absurd cc
scalar-itself (FunctionTy t ts v) h = absurd cc

-- the one part of such a type agrees with the wanted type
scalar-leaf : (t want : Ty) → bare_type t ≡ want → is_scalar_in want ≡ true → some_at (agrees want) 0 (leaves (one_part t)) ≡ true
scalar-leaf t want bare h =
    ap (λ c. some_at (agrees want) 0 (if c then one_part t else [])) (ap is_scalar_in bare ∙ h)
    ∙ ap (λ c. (0 == 0 && (c || are_counterparts (bare_type t) (bare_type want))) || false)
    (ap (λ (x : Ty). are_compatible x (bare_type want)) bare ∙ ap (are_compatible want) (scalar-itself want h) ∙ compatible-self want)

scalar-start : (b : Setting) (t want : Ty) → bare_type t ≡ want → is_scalar_in want ≡ true → some_at (agrees want) 0 (leaves (parts_of b t)) ≡ true
scalar-start b t want bare h = subst (λ (ps : List Part). some_at (agrees want) 0 (leaves ps) ≡ true) (sym (scalar-part (layouts b.unit) t (ap is_scalar_in bare ∙ h))) (scalar-leaf t want bare h)

whole-scalar : (b : Setting) (t want : Ty) → bare_type t ≡ want → is_scalar_in want ≡ true → permits_object b (if has_extent b t then Some t else None) 0 want ≡ true
whole-scalar b t (IntTy k) bare h =
    ap (λ c. permits_object b (if c then Some t else None) 0 (IntTy k)) (scalar-extent b t (ap is_scalar_in bare))
    ∙ true-or (is_character (IntTy k)) (some_at (agrees (IntTy k)) 0 (leaves (parts_of b t))) (scalar-start b t (IntTy k) bare refl)
whole-scalar b t (PointerTo s) bare h =
    ap (λ c. permits_object b (if c then Some t else None) 0 (PointerTo s)) (scalar-extent b t (ap is_scalar_in bare)) ∙ scalar-start b t (PointerTo s) bare refl
whole-scalar b t VoidTy bare h = absurd cc
whole-scalar b t (ArrayOf s n) bare h = absurd cc
whole-scalar b t (StructTag n) bare h = absurd cc
whole-scalar b t (UnionTag n) bare h = absurd cc
whole-scalar b t (FunctionTy s ts v) bare h = absurd cc
whole-scalar b t (ConstOf s) bare h = absurd cc

own_scalar : (u : Stored) (o offset w : ℕ) → is_scalar_in (tree u.known w) ≡ true → offset ≡ 0 → bare_type (object_at (whole_unit u) o).t ≡ tree u.known w
    → permits_object (setting_of u) (type_by (setting_of u) (Some o)) offset (bare_type (tree u.known w)) ≡ true
own_scalar u o offset w h zero same =
    let P : ℕ → Ty → Type 0 = λ n want. permits_object (setting_of u) (type_by (setting_of u) (Some o)) n want ≡ true in
    subst (λ (n : ℕ). P n (bare_type (tree u.known w))) (sym zero)
    (subst (λ (want : Ty). P 0 want) (sym (scalar-itself (tree u.known w) h)) (whole-scalar (setting_of u) (object_at (whole_unit u) o).t (tree u.known w) same h))

own_in : (u : Stored) (w : World) (o t : ℕ) (at : Reach) (writes : Bool) (k : Kind) → is_declared k ≡ true → owner_of w at.inst ≡ Some o → at.offset ≡ 0 → bare_type (object_at (whole_unit u) o).t ≡ tree u.known t → is_scalar_in (tree u.known t) ≡ true
    → permits_in (setting_of u) w (lvalue (setting_of u) (tree u.known t)) at writes k ≡ true
own_in u w o t at writes (Declared constant) d owner zero same scalar =
    ap (λ (q : Option ℕ). permits_object (setting_of u) (type_by (setting_of u) q) at.offset (bare_type (tree u.known t))) owner ∙ own_scalar u o at.offset t scalar zero same
own_in u w o t at writes Literal d owner zero same scalar = absurd cc
own_in u w o t at writes Heap d owner zero same scalar = absurd cc
own_in u w o t at writes Function d owner zero same scalar = absurd cc

pub own_permitted : (u : Stored) (w : World) (o : ℕ) (t : TypeId) (at : Reach) (writes : Bool) (k : Kind) → IsOwnType u o t → IsObject w o at k → permits_in (setting_of u) w (lvalue (setting_of u) (tree u.known t.0)) at writes k ≡ true
own_permitted u w o t at writes k own there = own_in u w o t.0 at writes k there.declared there.owner there.offset own.same own.scalar
