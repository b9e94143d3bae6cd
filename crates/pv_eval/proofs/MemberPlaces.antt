-- Where scalars stand in structures, and that they may be accessed there.
use Rattle.std.proofs.Common.{◌≡◌, ℕ, ◌+◌, ◌-◌, ◌*◌, ◌/◌, ◌%◌, ◌<◌, ◌≤◌, ◌^◌, ◌==◌, Bool, true, false, ◌&&◌, ◌||◌, List, ◌∷◌, IsTrue, Some, None, is_some, nat_le, refl, sym, ap, ◌∙◌, subst, arith, mul-le-mul_right, mul-zero, div-lt_iff_lt-mul, mod-lt, mod-eq_of_lt}
use Rattle.std.specs.Prelude.{Option, if◌then◌else◌, nat_lt}
use Rattle.std.proofs.Math.Nat.{mod_self, zero-mod, mod-mod_of_dvd, dvd_of_mod-eq-zero}
use Rattle.std.proofs.lemmas.Bool.{lt-ltb, le-leb}
use Rattle.std.proofs.lemmas.Nat.{mul-mod_second}
use Rattle.pv_types.specs.Ty.{Ty, VoidTy, IntTy, PointerTo, ArrayOf, StructTag, UnionTag, FunctionTy, ConstOf}
use Rattle.pv_types.specs.declared.terms.TypeId.{TypeId}
use Rattle.pv_types.specs.declared.terms.Member.{Member}
use Rattle.pv_types.specs.Known.{Known, heading_at, tree, env}
use Rattle.pv_types.specs.Formed.{named_members, members_in, is_union_in, IsBuilt}
use Rattle.pv_types.specs.Layouts.{Part, Fills, look, parts_of_elements, layout_in, is_complete_in}
use Rattle.pv_types.specs.LayoutParts.{struct_parts, or_none}
use Rattle.pv_types.specs.Places.{struct_places, holder}
use Rattle.pv_types.specs.Sorts.{bare_type, is_scalar, is_scalar_in, is_character}
use Rattle.pv_types.proofs.Fills.{right_true}
use Rattle.pv_types.proofs.Made.{flag}
use Rattle.pv_types.proofs.Walks.{begin_of, stop_of, walk_hit}
use Rattle.pv_layout.specs.Parts.{some_at, leaves, agrees}
use Rattle.pv_layout.proofs.PartLaws.{at_repeated, some_leaf}
use Rattle.pv_layout.proofs.Below.{Held, Landed, held_start, held_in, held_next, held_some, struct_whole}
use Rattle.pv_effect.specs.EffectiveType.{permits_declared}
use Rattle.pv_inst.specs.declared.values.Kind.{Kind}
use Rattle.pv_inst.specs.declared.values.Kind.TheVariants.{Declared, Literal, Heap, Function}
use Rattle.pv_object.specs.declared.values.Reach.{Reach}
use Rattle.pv_world.specs.Worlds.{World}
use Rattle.pv_world.specs.Objects.{owner_of}
use Rattle.pv_typed.specs.Tables.{Stored, whole_unit}
use Rattle.pv_typed.specs.TypedUnits.{object_at}
use Rattle.pv_eval.specs.Sizes.{setting_of, size_in}
use Rattle.pv_eval.specs.Objects.{has_extent}
use Rattle.pv_eval.specs.TypeForms.{lvalue}
use Rattle.pv_eval.specs.Permission.{parts_of, type_by, permits_object, permits_in}
use Rattle.pv_eval.specs.Plainly.{is_declared}
use Rattle.pv_eval.specs.declared.members.MemberPlace.{MemberPlace}
use Rattle.pv_eval.specs.Designated.{has_scalar, IsUniform, StandsAt, StandsInElement, IsMemberPlace}
use Rattle.pv_eval.proofs.Allowing.{agrees-itself, compatible-self, no-whole, true-or}

-- a scalar begins where it begins
scalar_itself : (m : Known) (t : Ty) → is_scalar_in t ≡ true → has_scalar m t t 0 ≡ true
scalar_itself m (IntTy k) h = ap (λ (b : Bool). (0 == 0 && b) || false) (agrees-itself k)
scalar_itself m (PointerTo t) h = ap (λ (c : Bool). (0 == 0 && (c || false)) || false) (compatible-self (PointerTo t))
scalar_itself m VoidTy h = absurd cc
scalar_itself m (ArrayOf t n) h = absurd cc
scalar_itself m (StructTag n) h = absurd cc
scalar_itself m (UnionTag n) h = absurd cc
scalar_itself m (FunctionTy t ts v) h = absurd cc
scalar_itself m (ConstOf t) h = absurd cc

pub uniform_itself : (m : Known) (t : Ty) → is_scalar_in t ≡ true → IsUniform m t t
uniform_itself m t h = record {
  whole = mod_self (size_in m t);
  some = λ o lt z. subst (λ (k : ℕ). has_scalar m t t k ≡ true) (sym (sym (mod-eq_of_lt lt) ∙ z)) (scalar_itself m t h);
}

-- what an element has, the array has
array_scalar : (m : Known) (e want : Ty) (n o : ℕ) → Fills (layout_in (env m) e) → o / size_in m e < n → has_scalar m e want (o % size_in m e) ≡ true → has_scalar m (ArrayOf e (Some n)) want o ≡ true
array_scalar m e want n o fills within h =
    let g : Ty → Bool = λ x. is_scalar x && agrees want x in
    let s = size_in m e in
    let ps = (layout_in (env m) e).parts in
    no-whole (0 == o) (some_at g o (parts_of_elements n s ps))
    ∙ at_repeated g s o ps n fills.0 fills.1
    ∙ ap (λ b. b && some_at g (o % s) ps) (lt-ltb (o / s) n within)
    ∙ h

pub element_complete : (m : Known) (e : Ty) (n : Option ℕ) → IsTrue (is_complete_in (env m) (ArrayOf e n)) → IsTrue (is_complete_in (env m) e)
element_complete m e None h = absurd cc
element_complete m e (Some n) h = right_true (nat_lt 0 n) _ h

pub uniform_array : (m : Known) (want e : Ty) (n : Option ℕ) → IsTrue (is_complete_in (env m) (ArrayOf e n)) → Fills (layout_in (env m) e) → IsUniform m want e → IsUniform m want (ArrayOf e n)
uniform_array m want e None h fills u = absurd cc
uniform_array m want e (Some n) h fills u =
    let s = size_in m e in
    let w = size_in m want in
    record {
      whole = sym (mul-mod_second n s w) ∙ ap (λ (k : ℕ). (n * k) % w) u.whole ∙ ap (λ (k : ℕ). k % w) (mul-zero n) ∙ zero-mod w;
      some = λ o lt z. array_scalar m e want n o fills ((div-lt_iff_lt-mul {k = size_in m e} {x = o} {y = n} fills.0).1 lt)
          (u.some (o % s) (mod-lt o fills.0) (mod-mod_of_dvd w {b = s} o (dvd_of_mod-eq-zero w u.whole) ∙ z));
    }

-- what a member has so many bytes behind its beginning, the structure has
module _ (m : Known) (tag start r : ℕ) (t : TypeId) (built : IsBuilt m) (there : IsTrue (is_some (look (env m) tag))) (flag : is_union_in m.done tag ≡ false) (size : (or_none (look (env m) tag)).size ≤ 2 ^ 32) where
  abbrev HeldFrom : ℕ → List Member → Type 0
  HeldFrom p ms = Held m tag p (start + r) ms

  abbrev Reaches : Type 0
  Reaches = r < size_in m (tree m t.0) → (f : Ty → Bool) → some_at f r (layout_in (env m) (tree m t.0)).parts ≡ some_at f (start + r) (struct_parts (env m) (named_members m tag) 0)

  next : (p : ℕ) (x : Member) (ms : List Member) → HeldFrom p (x ∷ ms) → stop_of m p x ≤ start → HeldFrom (stop_of m p x) ms
  next p x ms h ge = held_next m tag p (start + r) 0 (begin_of m p x) (stop_of m p x) (x ∷ ms) x (omega arith) h refl refl (omega (arith, ge))

  hit : (p : ℕ) (x : Member) (ms : List Member) → HeldFrom p (x ∷ ms) → start ≡ begin_of m p x → t ≡ x.t → begin_of m p x ≤ start → Reaches
  hit p x ms h begins is ge within f =
      let same : size_in m (tree m t.0) ≡ size_in m (tree m x.t.0) = ap (λ (q : TypeId). size_in m (tree m q.0)) is in
      let low : begin_of m p x ≤ start + r = omega (arith, ge) in
      let high : start + r < stop_of m p x = omega (arith, begins, same, within) in
      let rest : r ≡ (start + r) - begin_of m p x = omega (arith, begins) in
      ap (λ (q : TypeId). some_at f r (layout_in (env m) (tree m q.0)).parts) is
      ∙ ap (λ (k : ℕ). some_at f k (layout_in (env m) (tree m x.t.0)).parts) rest
      ∙ held_in m tag p (start + r) 0 (begin_of m p x) (stop_of m p x) (x ∷ ms) x (omega arith) h refl refl low high f

  held_from : Some (start, t) ≡ holder start (struct_places m 0 (members_in m.done tag)) → Reaches
  held_from e =
      walk_hit m HeldFrom start next Reaches start t (λ p x ms h begins is ge lt. hit p x ms h begins is ge)
      (members_in m.done tag) 0 (held_start m tag (start + r) built there flag size) e

stands_in : (m : Known) (w tag start : ℕ) (member : TypeId) (want : Ty) → IsBuilt m → IsTrue (is_some (look (env m) tag)) → is_union_in m.done tag ≡ false → (or_none (look (env m) tag)).size ≤ 2 ^ 32
    → tree m w ≡ StructTag tag → Some (start, member) ≡ holder start (struct_places m 0 (members_in m.done tag)) → IsUniform m want (tree m member.0)
    → (o : ℕ) → start ≤ o → o - start < size_in m (tree m member.0) → (o - start) % size_in m want ≡ 0 → has_scalar m (tree m w) want o ≡ true
stands_in m w tag start member want built there flag small is held u o low within begins =
    let f : Ty → Bool = λ x. is_scalar x && agrees want x in
    let b = some_at f (o - start) (layout_in (env m) (tree m member.0)).parts in
    let sum : start + (o - start) ≡ o = omega (arith, low) in
    let e : b ≡ some_at f (start + (o - start)) (struct_parts (env m) (named_members m tag) 0) = held_from m tag start (o - start) member built there flag small held within f in
    subst (λ (k : ℕ). has_scalar m (tree m w) want k ≡ true) sum
    (struct_whole m w tag (start + (o - start)) f b built there flag is e
    ∙ ap (λ (x : Ty). ((0 == start + (o - start)) && f x) || b) is
    ∙ no-whole (0 == start + (o - start)) b
    ∙ u.some (o - start) within begins)

-- a structure, as a search through its members asks for it
module _ (m : Known) (w tag : ℕ) (built : IsBuilt m) (complete : IsTrue (is_complete_in (env m) (tree m w))) (few : size_in m (tree m w) ≤ 2 ^ 32) (is : tree m w ≡ StructTag tag) (tagged : (heading_at m.tags tag).union ≡ false) where
  pub tag_there : IsTrue (is_some (look (env m) tag))
  tag_there = subst (λ (t : Ty). IsTrue (is_complete_in (env m) t)) is complete

  pub tag_structure : is_union_in m.done tag ≡ false
  tag_structure = flag m tag built tag_there ∙ tagged

  pub tag_small : (or_none (look (env m) tag)).size ≤ 2 ^ 32
  tag_small = subst (λ (t : Ty). (layout_in (env m) t).size ≤ 2 ^ 32) is few

  pub tag_landed : (offset start : ℕ) (member : TypeId) → Some (start, member) ≡ holder offset (struct_places m 0 (members_in m.done tag)) → Landed m tag offset start member
  tag_landed offset start member e = held_some m tag offset built tag_there tag_structure tag_small start member e

  pub tag_stands : (start : ℕ) (member : TypeId) (want : Ty) → Some (start, member) ≡ holder start (struct_places m 0 (members_in m.done tag)) → IsUniform m want (tree m member.0)
      → (o : ℕ) → start ≤ o → o - start < size_in m (tree m member.0) → (o - start) % size_in m want ≡ 0 → has_scalar m (tree m w) want o ≡ true
  tag_stands start member want = stands_in m w tag start member want built tag_there tag_structure tag_small is

-- a scalar that begins there may be accessed there
declared_scalar : (ps : List Part) (o : ℕ) (want : Ty) → is_scalar_in want ≡ true → some_at (λ (x : Ty). is_scalar x && agrees want x) o ps ≡ true → permits_declared ps o want ≡ true
declared_scalar ps o (IntTy k) h e = true-or (is_character (IntTy k)) (some_at (agrees (IntTy k)) o (leaves ps)) (some_leaf (agrees (IntTy k)) o ps ∙ e)
declared_scalar ps o (PointerTo t) h e = some_leaf (agrees (PointerTo t)) o ps ∙ e
declared_scalar ps o VoidTy h e = absurd cc
declared_scalar ps o (ArrayOf t n) h e = absurd cc
declared_scalar ps o (StructTag n) h e = absurd cc
declared_scalar ps o (UnionTag n) h e = absurd cc
declared_scalar ps o (FunctionTy t ts v) h e = absurd cc
declared_scalar ps o (ConstOf t) h e = absurd cc

extent_true : (u : Stored) (t : Ty) → IsTrue (is_complete_in (env u.known) t) → size_in u.known t ≤ 2 ^ 32 → has_extent (setting_of u) t ≡ true
extent_true u t complete small = ap (λ (c : Bool). c && nat_le (size_in u.known t) (2 ^ 32)) complete ∙ le-leb (size_in u.known t) (2 ^ 32) small

object_permits : (u : Stored) (o offset : ℕ) (t want : Ty) → (object_at (whole_unit u) o).t ≡ t → has_extent (setting_of u) t ≡ true → is_scalar_in want ≡ true → has_scalar u.known t want offset ≡ true
    → permits_object (setting_of u) (type_by (setting_of u) (Some o)) offset want ≡ true
object_permits u o offset t want same extent scalar h =
    let b = setting_of u in
    subst (λ (x : Ty). permits_object b (if has_extent b x then Some x else None) offset want ≡ true) (sym same)
    (ap (λ (c : Bool). permits_object b (if c then Some t else None) offset want) extent ∙ declared_scalar (parts_of b t) offset want scalar h)

many_fit : (n s : ℕ) → n ≤ 2 ^ 20 → s ≤ 2 ^ 12 → n * s ≤ 2 ^ 32
many_fit n s many few = let big : n * s ≤ (2 ^ 20) * s = mul-le-mul_right s many in omega (arith, big, few)

module _ (u : Stored) (p : MemberPlace) (t : TypeId) (is : IsMemberPlace u.known p t) (o offset width : ℕ) (wide : width ≡ size_in u.known (tree u.known t.0)) where
  -- an object that is the structure
  pub whole_permits : (object_at (whole_unit u) o).t ≡ tree u.known p.whole.0 → StandsAt p offset width → permits_object (setting_of u) (type_by (setting_of u) (Some o)) offset (tree u.known t.0) ≡ true
  whole_permits same s =
      let e = tree u.known p.whole.0 in
      let small : size_in u.known e ≤ 2 ^ 32 = subst (λ (k : ℕ). k ≤ 2 ^ 32) is.size is.small in
      object_permits u o offset e (tree u.known t.0) same (extent_true u e is.complete small) is.scalar (is.permits offset (subst (StandsAt p offset) wide s))

  -- an object that is an array of so many of the structures
  pub element_permits : (n : ℕ) → (object_at (whole_unit u) o).t ≡ ArrayOf (tree u.known p.whole.0) (Some n) → StandsInElement p n offset width
      → permits_object (setting_of u) (type_by (setting_of u) (Some o)) offset (tree u.known t.0) ≡ true
  element_permits n same s =
      let e = tree u.known p.whole.0 in
      let few : size_in u.known e ≤ 2 ^ 12 = subst (λ (k : ℕ). k ≤ 2 ^ 12) is.size s.small in
      let within : offset / size_in u.known e < n = subst (λ (k : ℕ). offset / k < n) is.size s.within in
      let some : 0 < n = omega (arith, within) in
      let complete : IsTrue (is_complete_in (env u.known) (ArrayOf e (Some n))) = ap (λ (c : Bool). c && is_complete_in (env u.known) e) (lt-ltb 0 n some) ∙ is.complete in
      let stands : StandsAt p (offset % size_in u.known e) width = subst (λ (k : ℕ). StandsAt p (offset % k) width) is.size s.stands in
      object_permits u o offset (ArrayOf e (Some n)) (tree u.known t.0) same (extent_true u (ArrayOf e (Some n)) complete (many_fit n (size_in u.known e) s.many few)) is.scalar
      (array_scalar u.known e (tree u.known t.0) n offset is.fills within (is.permits (offset % size_in u.known e) (subst (StandsAt p (offset % size_in u.known e)) wide stands)))

-- a scalar type has no qualifiers around it
bare_itself : (t : Ty) → is_scalar_in t ≡ true → bare_type t ≡ t
bare_itself (IntTy k) h = refl
bare_itself (PointerTo t) h = refl
bare_itself VoidTy h = absurd cc
bare_itself (ArrayOf t n) h = absurd cc
bare_itself (StructTag n) h = absurd cc
bare_itself (UnionTag n) h = absurd cc
bare_itself (FunctionTy t ts v) h = absurd cc
bare_itself (ConstOf t) h = absurd cc

pub declared_permits : (u : Stored) (w : World) (o t : ℕ) (at : Reach) (writes : Bool) (k : Kind) → is_declared k ≡ true → owner_of w at.inst ≡ Some o → is_scalar_in (tree u.known t) ≡ true
    → permits_object (setting_of u) (type_by (setting_of u) (Some o)) at.offset (tree u.known t) ≡ true → permits_in (setting_of u) w (lvalue (setting_of u) (tree u.known t)) at writes k ≡ true
declared_permits u w o t at writes (Declared constant) d owner scalar h =
    ap (λ (q : Option ℕ). permits_object (setting_of u) (type_by (setting_of u) q) at.offset (bare_type (tree u.known t))) owner
    ∙ ap (permits_object (setting_of u) (type_by (setting_of u) (Some o)) at.offset) (bare_itself (tree u.known t) scalar)
    ∙ h
declared_permits u w o t at writes Literal d owner scalar h = absurd cc
declared_permits u w o t at writes Heap d owner scalar h = absurd cc
declared_permits u w o t at writes Function d owner scalar h = absurd cc
