-- Constants that may initialize an object with static storage (C17 6.6p6 to p9): their places are there, and their values are of their types.
use Rattle.std.proofs.Common.{◌≡◌, ℕ, ◌≤◌, ◌^◌, ℤ, pos, ◌+ℤ◌, Bool, true, false, not, ◌&&◌, ◌||◌, Option, Some, None, Ok, Err, IfOk, List, length, option_map, int_le, nat_le, unsigned_abs, refl, sym, ap, subst, ◌∙◌, arith}
use Rattle.std.proofs.lemmas.Int.{ints}
use Rattle.std.proofs.lemmas.Bool.Decides.{nat_tests}
use Rattle.std.specs.Prelude.{if◌then◌else◌, ◌*ℤ◌}
use Rattle.std.specs.declared.result.Result.{Result}
use Rattle.pv_num.specs.declared.operators.ArithmeticFault.{ArithmeticFault}
use Rattle.pv_num.specs.declared.kinds.IntKind.{IntKind}
use Rattle.pv_num.specs.declared.kinds.IntKind.TheVariants as kind
use Rattle.pv_num.specs.declared.operators.BinOp.{BinOp}
use Rattle.pv_num.specs.declared.operators.UnOp.{UnOp}
use Rattle.pv_num.specs.Kinds.{Fits, fits_of, convert_of, width}
use Rattle.pv_num.specs.Arithmetic.{IsPromoted, yielded_kind, is_zero, one_if, binary_of, unary_of}
use Rattle.pv_num.proofs.Congruence.{equal_fits}
use Rattle.pv_num.proofs.Members.{binary_fits, unary_fits}
use Rattle.pv_types.specs.Layouts.{up_to, layout_in, is_complete_in}
use Rattle.pv_types.specs.Ty.{Ty, VoidTy, IntTy, PointerTo, ArrayOf, StructTag, UnionTag, FunctionTy, ConstOf}
use Rattle.pv_typed.specs.Addresses.{size_in, within, bytes_on, signed_count, elements_on, address_sum, null_if, address, address_form, place, place_form, constant_of, truth_in, is_null}
use Rattle.pv_typed.specs.AddressParts.{or_zero, lasting_at}
use Rattle.std.specs.Option.{option_or}
use Rattle.std.specs.Result.{result_ok}
use Rattle.pv_typed.specs.Constants.{and_then, is_integer, is_built, constant_in, converted_in, is_shift, suits, unary_in, arithmetic_in, number, number_form, integer}
use Rattle.pv_types.specs.Sorts.{kind_of as int_kind, pointed_by as pointee, is_pointer}
use Rattle.pv_typed.specs.declared.nodes.Sign.{Sign}
use Rattle.pv_typed.specs.declared.nodes.Sign.TheVariants.{Plus}
use Rattle.pv_typed.specs.declared.values.Const.{Const}
use Rattle.pv_typed.specs.declared.values.Const.TheVariants as const
use Rattle.pv_typed.specs.TypedTree.{TypedTree, Node, Form, Constant, Object, Function, String, Subscript, Member, Arrow, Address, Indirection, Unary, Not, Sizeof, Cast, Arithmetic, PointerSum, LogicalAnd, LogicalOr, Conditional, ArrayPointer, Convert, type_of, is_function}
use Rattle.pv_typed.specs.TypedUnits.{WholeUnit, layouts, object_at, literal_at}
use Rattle.pv_guards.specs.Typed.{IsIn, IsInScope, IsTyped, IsTypedForm, IsValueType}
use Rattle.pv_guards.specs.TypedStatements.{IsPlaced, IsConstantOf}
use Rattle.pv_guards.proofs.Numbers.{zero_fits}
use Rattle.pv_well_typed.specs.Later.{IsFinished}
use Rattle.pv_well_typed.proofs.Operands.{some-same}
use Rattle.pv_well_typed.proofs.UnaryRows.{both-true}
use Rattle.pv_well_typed.proofs.PrimaryRows.{fits-read}

-- 6.6p9: an address constant, or a null pointer constant
abbrev pub IsPointerConstant : Const → Type 0
IsPointerConstant (const.Int n) = ⊥
IsPointerConstant const.Null = Unit {0}
IsPointerConstant (const.Address o n) = Unit {0}
IsPointerConstant (const.Literal l n) = Unit {0}
IsPointerConstant (const.Function f) = Unit {0}

abbrev IsPlacedPointer : WholeUnit → Const → Type 0
IsPlacedPointer v c = IsPlaced v c × IsPointerConstant c

and-some : {A B : Type 0} (o : Option A) (f : A → Option B) (c : B) → and_then o f ≡ Some c → (a : A) × (o ≡ Some a) × (f a ≡ Some c)
and-some None f c e = absurd cc
and-some (Some a) f c e = (a, refl, e)

map-some : {A B : Type 0} (f : A → B) (o : Option A) (c : B) → option_map f o ≡ Some c → (a : A) × (o ≡ Some a) × (f a ≡ c)
map-some f None c e = absurd cc
map-some f (Some a) c e = (a, refl, some-same (f a) c e)

-- 6.5.6p8: an offset within so many bytes
within-size : (size : ℕ) (z : ℤ) (n : ℕ) → within size z ≡ Some n → n ≤ size
within-size size z n e = by (int_le (pos 0) z) (int_le z (pos size)) refl refl e
  where
    by : (b d : Bool) → int_le (pos 0) z ≡ b → int_le z (pos size) ≡ d → (if b && d then Some (unsigned_abs z) else None) ≡ Some n → n ≤ size
    by true true p q e = let same : unsigned_abs z ≡ n = cc in subst (λ k. k ≤ size) same (small p q)
      where
        small : int_le (pos 0) z ≡ true → int_le z (pos size) ≡ true → unsigned_abs z ≤ size
        small p q = grind (arith, ints, nat_tests)
    by true false p q e = absurd cc
    by false d p q e = absurd cc

size-small : (v : WholeUnit) (t : Ty) → or_zero (size_in v t) ≤ 2 ^ 32
size-small v t = by (is_complete_in (layouts v) t)
  where
    kept : (n : ℕ) (b : Bool) → (b ≡ true → n ≤ 2 ^ 32) → or_zero (if b then Some n else None) ≤ 2 ^ 32
    kept n true h = h refl
    kept n false h = omega arith

    by : (b : Bool) → or_zero (if b then up_to (layout_in (layouts v) t).size else None) ≤ 2 ^ 32
    by false = omega arith
    by true = kept (layout_in (layouts v) t).size _ (λ e. grind (arith, nat_tests))

module _ (v : WholeUnit) (os : List ℕ) (done : IsFinished v) where
  -- ---- 6.6p9: places

  moved-placed : (z : ℤ) (p c : Const) → IsPlaced v p → bytes_on v z p ≡ Some c → IsPlacedPointer v c
  moved-placed z (const.Address o n) c h e =
      let m = map-some (const.Address o) (within (or_zero (size_in v (object_at v o).t)) (pos n +ℤ z)) c e in
      let l = within-size (or_zero (size_in v (object_at v o).t)) (pos n +ℤ z) m.0 m.1 in
      let s = size-small v (object_at v o).t in
      subst (IsPlacedPointer v) m.2 ((h.0, omega (arith, l, s)), tt)
  moved-placed z (const.Literal k n) c h e =
      let m = map-some (const.Literal k) (within (length (literal_at v k).bytes) (pos n +ℤ z)) c e in
      let l = within-size (length (literal_at v k).bytes) (pos n +ℤ z) m.0 m.1 in
      let s = done.texts k in
      subst (IsPlacedPointer v) m.2 ((h.0, omega (arith, l, s)), tt)
  moved-placed z (const.Int n) c h e = absurd cc
  moved-placed z (const.Function f) c h e = absurd cc
  moved-placed z const.Null c h e = absurd cc

  moved-from : (o : Option Const) (z : ℤ) (c : Const) → ((p : Const) → o ≡ Some p → IsPlacedPointer v p) → and_then o (bytes_on v z) ≡ Some c → IsPlacedPointer v c
  moved-from o z c h e = let m = and-some o (bytes_on v z) c e in moved-placed z m.0 c (h m.0 m.1).0 m.2

  stepped-placed : (sign : Sign) (t : Ty) (o : Option Const) (i : Option ℤ) (c : Const) → ((p : Const) → o ≡ Some p → IsPlacedPointer v p) → elements_on v sign t o i ≡ Some c → IsPlacedPointer v c
  stepped-placed sign t o i c h e =
      let m = and-some o (λ p. and_then i (λ i. and_then (size_in v t) (λ n. bytes_on v (signed_count sign i *ℤ pos n) p))) c e in
      let k = and-some i (λ i. and_then (size_in v t) (λ n. bytes_on v (signed_count sign i *ℤ pos n) m.0)) c m.2 in
      let s = and-some (size_in v t) (λ n. bytes_on v (signed_count sign k.0 *ℤ pos n) m.0) c k.2 in
      moved-placed (signed_count sign k.0 *ℤ pos s.0) m.0 c (h m.0 m.1).0 s.2

  added-placed : (sign : Sign) (t : Ty) (o : Option Const) (i : Option ℤ) (c : Const) → ((p : Const) → o ≡ Some p → IsPlacedPointer v p) → address_sum v sign t o i ≡ Some c → IsPlacedPointer v c
  added-placed sign t o i c h e = let m = and-some (pointee t) (λ u. elements_on v sign u o i) c e in stepped-placed sign m.0 o i c h m.2

  null-placed : (n : Option ℤ) (c : Const) → null_if n ≡ Some c → IsPlacedPointer v c
  null-placed n c e = let m = and-some n (λ k. if is_zero k then Some const.Null else None) c e in by (is_zero m.0) m.2
    where
      by : (b : Bool) → (if b then Some const.Null else None) ≡ Some c → IsPlacedPointer v c
      by true q = subst (IsPlacedPointer v) (some-same const.Null c q) (tt, tt)
      by false q = absurd cc

  pointer-placed : (b d : Bool) (n : Option ℤ) (o : Option Const) (c : Const) → (o ≡ Some c → IsPlacedPointer v c) → (if b then (if d then null_if n else o) else None) ≡ Some c → IsPlacedPointer v c
  pointer-placed true true n o c h e = null-placed n c e
  pointer-placed true false n o c h e = h e
  pointer-placed false d n o c h e = absurd cc

  lasting-placed : (o : ℕ) (c : Const) → IsInScope v os o → lasting_at v o ≡ Some c → IsPlacedPointer v c
  lasting-placed o c h e = by (object_at v o).lasting h e
    where
      by : (b : Bool) → IsIn o (if b then v.statics else os) → (if b then Some (const.Address o 0) else None) ≡ Some c → IsPlacedPointer v c
      by true i q = subst (IsPlacedPointer v) (some-same (const.Address o 0) c q) ((i, omega arith), tt)
      by false i q = absurd cc

  one-placed : (b : Bool) (p q : Option Const) (c : Const) → (p ≡ Some c → IsPlacedPointer v c) → (q ≡ Some c → IsPlacedPointer v c) → (if b then p else q) ≡ Some c → IsPlacedPointer v c
  one-placed true p q c h k e = h e
  one-placed false p q c h k e = k e

  unless-placed : (b : Bool) (p : Option Const) (c : Const) → (p ≡ Some c → IsPlacedPointer v c) → (if b then None else p) ≡ Some c → IsPlacedPointer v c
  unless-placed true p c h e = absurd cc
  unless-placed false p c h e = h e

  mutual
    pub address-placed : (a : TypedTree) (c : Const) → IsTyped v os a → address v a ≡ Some c → IsPlacedPointer v c
    address-placed (Node t line turn x) c h e = address-form-placed t x c h e

    address-form-placed : (t : Ty) (x : Form) (c : Const) → IsTypedForm v os t x → address_form v t x ≡ Some c → IsPlacedPointer v c
    address-form-placed t (ArrayPointer a) c h e = place-placed a c h.0 e
    address-form-placed t (Address a) c h e = place-placed a c h.0 e
    address-form-placed t (Cast a) c h e = pointer-placed (is_pointer t) (is_integer (type_of a)) (integer a) (address v a) c (λ q. address-placed a c h.0 q) e
    address-form-placed t (Convert a) c h e = pointer-placed (is_pointer t) (is_integer (type_of a)) (integer a) (address v a) c (λ q. address-placed a c h.0 q) e
    address-form-placed t (PointerSum sign a b) c h e =
        one-placed (is_pointer (type_of a)) (address_sum v sign t (address v a) (integer b)) (address_sum v sign t (address v b) (integer a)) c
        (λ q. added-placed sign t (address v a) (integer b) c (λ p r. address-placed a p h.0 r) q) (λ q. added-placed sign t (address v b) (integer a) c (λ p r. address-placed b p h.2 r) q) e
    address-form-placed t _ c h e = absurd cc

    place-placed : (a : TypedTree) (c : Const) → IsTyped v os a → place v a ≡ Some c → IsPlacedPointer v c
    place-placed (Node t line turn x) c h e = place-form-placed t x c h e

    place-form-placed : (t : Ty) (x : Form) (c : Const) → IsTypedForm v os t x → place_form v t x ≡ Some c → IsPlacedPointer v c
    place-form-placed t (Object o) c h e = lasting-placed o c h e
    place-form-placed t (Function f) c h e = subst (IsPlacedPointer v) (some-same (const.Function f) c e) (h, tt)
    place-form-placed t (String l) c h e = subst (IsPlacedPointer v) (some-same (const.Literal l 0) c e) ((h, omega arith), tt)
    place-form-placed t (Subscript a b) c h e =
        one-placed (is_pointer (type_of a)) (elements_on v Plus t (address v a) (integer b)) (elements_on v Plus t (address v b) (integer a)) c
        (λ q. stepped-placed Plus t (address v a) (integer b) c (λ p r. address-placed a p h.0 r) q) (λ q. stepped-placed Plus t (address v b) (integer a) c (λ p r. address-placed b p h.2 r) q) e
    place-form-placed t (Member a offset) c h e = moved-from (place v a) (pos offset) c (λ p r. place-placed a p h.0 r) e
    place-form-placed t (Arrow a offset) c h e = moved-from (address v a) (pos offset) c (λ p r. address-placed a p h.1 r) e
    place-form-placed t (Indirection a) c h e = unless-placed (is_function t) (address v a) c (λ q. address-placed a c h.1 q) e
    place-form-placed t _ c h e = absurd cc

  -- ---- 6.6p6: numbers

  one-fits : (k : IntKind) (b : Bool) → Fits k (one_if b)
  one-fits k true = one k
    where
      one : (k : IntKind) → Fits k (pos 1)
      one kind.Bool = (grind (arith, ints), grind (arith, ints))
      one kind.Char = (grind (arith, ints), grind (arith, ints))
      one kind.SChar = (grind (arith, ints), grind (arith, ints))
      one kind.UChar = (grind (arith, ints), grind (arith, ints))
      one kind.Short = (grind (arith, ints), grind (arith, ints))
      one kind.UShort = (grind (arith, ints), grind (arith, ints))
      one kind.Int = (grind (arith, ints), grind (arith, ints))
      one kind.UInt = (grind (arith, ints), grind (arith, ints))
      one kind.Long = (grind (arith, ints), grind (arith, ints))
      one kind.ULong = (grind (arith, ints), grind (arith, ints))
      one kind.LLong = (grind (arith, ints), grind (arith, ints))
      one kind.ULLong = (grind (arith, ints), grind (arith, ints))
  one-fits k false = zero_fits k

  -- a number of an integer type
  abbrev FitsType : Ty → ℤ → Type 0
  FitsType t n = (k : IntKind) → int_kind t ≡ Some k → Fits k n

  constant-fits : (t : Ty) (m n : ℤ) → constant_in t m ≡ Some n → FitsType t n
  constant-fits t m n e k q = by (fits_of k m) refl (sym (ap (λ o. and_then o (λ j. if fits_of j m then Some m else None)) q) ∙ e)
    where
      by : (b : Bool) → fits_of k m ≡ b → (if b then Some m else None) ≡ Some n → Fits k n
      by true f e = subst (Fits k) (some-same m n e) (fits-read k m f)
      by false f e = absurd cc

  converted-fits : (t : Ty) (o : Option ℤ) (n : ℤ) → converted_in t o ≡ Some n → FitsType t n
  converted-fits t o n e k q =
      let m = map-some (convert_of k) o n (sym (ap (λ p. and_then p (λ j. option_map (convert_of j) o)) q) ∙ e) in
      subst (Fits k) m.2 (equal_fits k m.0 (convert_of k m.0) refl refl)

  -- 6.4p4: what is no fault
  number-ok : (P : ℤ → Type 0) (r : Result ℤ ArithmeticFault) (n : ℤ) → IfOk r P → result_ok r ≡ Some n → P n
  number-ok P (Ok m) n h e = subst P (some-same m n e) h
  number-ok P (Err f) n h e = absurd cc

  suits-both : (k : IntKind) (m : ℤ) → suits k m ≡ true → IsPromoted k × Fits k m
  suits-both k m e = let b = both-true (nat_le 32 (width k)) (fits_of k m) e in (wide b.0, fits-read k m b.1)
    where
      wide : nat_le 32 (width k) ≡ true → IsPromoted k
      wide h = grind (arith, nat_tests)

  unary-number : (k : IntKind) (op : UnOp) (m n : ℤ) → unary_in (IntTy k) op m ≡ Some n → Fits k n
  unary-number k op m n e = by (suits k m) refl e
    where
      by : (b : Bool) → suits k m ≡ b → (if b then result_ok (unary_of op k m) else None) ≡ Some n → Fits k n
      by true s e = let h = suits-both k m s in number-ok (Fits k) (unary_of op k m) n (unary_fits op k m h.0 h.1) e
      by false s e = absurd cc

  binary-number : (k : IntKind) (op : BinOp) (m w n : ℤ) → arithmetic_in (IntTy k) op m w ≡ Some n → Fits (yielded_kind op k) n
  binary-number k op m w n e = by (suits k m && (is_shift op || fits_of k w)) refl e
    where
      by : (b : Bool) → suits k m && (is_shift op || fits_of k w) ≡ b → (if b then result_ok (binary_of op k m w) else None) ≡ Some n → Fits (yielded_kind op k) n
      by true s e = let h = suits-both k m (both-true (suits k m) (is_shift op || fits_of k w) s).0 in number-ok (Fits (yielded_kind op k)) (binary_of op k m w) n (binary_fits op k m w h.0 h.1) e
      by false s e = absurd cc

  kind-same : (j k : IntKind) (t : Ty) → t ≡ IntTy j → int_kind t ≡ Some k → j ≡ k
  kind-same j k t e q = some-same j k (sym (ap int_kind e) ∙ q)

  int-fits : (t : Ty) (n : ℤ) → t ≡ IntTy kind.Int → Fits kind.Int n → FitsType t n
  int-fits t n e h k q = subst (λ j. Fits j n) (kind-same kind.Int k t e q) h

  second-fits : (b : Bool) (p : Option ℤ) (o : Option ℤ) (n : ℤ) → (p ≡ Some n → Fits kind.Int n) → (if b then p else and_then o (λ w. Some (one_if (not (is_zero w))))) ≡ Some n → Fits kind.Int n
  second-fits true p o n h e = h e
  second-fits false p o n h e = let m = and-some o (λ w. Some (one_if (not (is_zero w)))) n e in subst (Fits kind.Int) (some-same (one_if (not (is_zero m.0))) n m.2) (one-fits kind.Int (not (is_zero m.0)))

  other-fits : (b : Bool) (o : Option ℤ) (n : ℤ) → (if b then and_then o (λ w. Some (one_if (not (is_zero w)))) else Some (pos 1)) ≡ Some n → Fits kind.Int n
  other-fits true o n e = let m = and-some o (λ w. Some (one_if (not (is_zero w)))) n e in subst (Fits kind.Int) (some-same (one_if (not (is_zero m.0))) n m.2) (one-fits kind.Int (not (is_zero m.0)))
  other-fits false o n e = subst (Fits kind.Int) (some-same (pos 1) n e) (one-fits kind.Int true)

  chosen-fits : (t : Ty) (b : Bool) (p q : Option ℤ) (n : ℤ) → (p ≡ Some n → FitsType t n) → (q ≡ Some n → FitsType t n) → (if b then p else q) ≡ Some n → FitsType t n
  chosen-fits t true p q n h k e = h e
  chosen-fits t false p q n h k e = k e

  mutual
    number-fits : (a : TypedTree) (n : ℤ) → IsTyped v os a → number a ≡ Some n → FitsType (type_of a) n
    number-fits (Node t line turn x) n h e = number-form-fits t x n h e

    number-form-fits : (t : Ty) (x : Form) (n : ℤ) → IsTypedForm v os t x → number_form t x ≡ Some n → FitsType t n
    number-form-fits t (Constant m) n h e = constant-fits t m n e
    number-form-fits t (Sizeof m) n h e = constant-fits t (pos m) n e
    number-form-fits t (Unary op a) n h e =
        let m = and-some (number a) (unary_in (type_of a) op) n e in
        λ k q. subst (λ j. Fits j n) (kind-same h.0 k t h.4 q) (unary-number h.0 op m.0 n (subst (λ u. unary_in u op m.0 ≡ Some n) h.2.1 m.2))
    number-form-fits t (Not a) n h e = let m = and-some (number a) (λ k. Some (one_if (is_zero k))) n e in int-fits t n h.3 (subst (Fits kind.Int) (some-same (one_if (is_zero m.0)) n m.2) (one-fits kind.Int (is_zero m.0)))
    number-form-fits t (Cast a) n h e = converted-fits t (number a) n e
    number-form-fits t (Convert a) n h e = converted-fits t (number a) n e
    number-form-fits t (Arithmetic op a b) n h e =
        let m = and-some (number a) (λ x. and_then (number b) (arithmetic_in (type_of a) op x)) n e in
        let w = and-some (number b) (arithmetic_in (type_of a) op m.0) n m.2 in
        λ k q. subst (λ j. Fits j n) (kind-same (yielded_kind op h.0) k t h.8 q) (binary-number h.0 op m.0 w.0 n (subst (λ u. arithmetic_in u op m.0 w.0 ≡ Some n) h.3.1 w.2))
    number-form-fits t (LogicalAnd a b) n h e =
        let m = and-some (number a) (λ x. if is_zero x then Some (pos 0) else and_then (number b) (λ w. Some (one_if (not (is_zero w))))) n e in
        int-fits t n h.6 (second-fits (is_zero m.0) (Some (pos 0)) (number b) n (λ q. subst (Fits kind.Int) (some-same (pos 0) n q) (zero_fits kind.Int)) m.2)
    number-form-fits t (LogicalOr a b) n h e =
        let m = and-some (number a) (λ x. if is_zero x then and_then (number b) (λ w. Some (one_if (not (is_zero w)))) else Some (pos 1)) n e in
        int-fits t n h.6 (other-fits (is_zero m.0) (number b) n m.2)
    number-form-fits t (Conditional a b c) n h e =
        let m = and-some (number a) (λ x. if is_zero x then number c else number b) n e in
        chosen-fits t (is_zero m.0) (number c) (number b) n (λ q. subst (λ u. FitsType u n) h.6.1 (number-fits c n h.5 q)) (λ q. subst (λ u. FitsType u n) h.4.1 (number-fits b n h.3 q)) m.2
    number-form-fits t _ n h e = absurd cc

  integer-fits : (a : TypedTree) (n : ℤ) → IsTyped v os a → integer a ≡ Some n → FitsType (type_of a) n
  integer-fits a n h e = by (is_built a) e
    where
      by : (b : Bool) → (if b then number a else None) ≡ Some n → FitsType (type_of a) n
      by true q = number-fits a n h q
      by false q = absurd cc

  -- ---- 6.6p7: a constant of the type of the object

  abbrev IsGood : Ty → Const → Type 0
  IsGood t c = IsPlaced v c × IsConstantOf c t

  pointer-good : (s : Ty) (c : Const) → IsPlacedPointer v c → IsGood (PointerTo s) c
  pointer-good s (const.Int n) h = absurd h.1
  pointer-good s const.Null h = (tt, (s, refl))
  pointer-good s (const.Address o n) h = (h.0, (s, refl))
  pointer-good s (const.Literal l n) h = (h.0, (s, refl))
  pointer-good s (const.Function f) h = (h.0, (s, refl))

  -- 6.3.1.2: an address that is converted to `_Bool`
  truth-good : (k : IntKind) (x : Form) (c : Const) → truth_in v (IntTy k) x ≡ Some c → IsGood (IntTy k) c
  truth-good kind.Bool (Convert a) c e =
      let m = and-some (address v a) (λ p. Some (const.Int (one_if (not (is_null p))))) c e in
      subst (IsGood (IntTy kind.Bool)) (some-same (const.Int (one_if (not (is_null m.0)))) c m.2) (tt, (kind.Bool, refl, one-fits kind.Bool (not (is_null m.0))))
  truth-good _ _ c e = absurd cc

  integer-good : (k : IntKind) (line : ℕ) (turn : Bool) (x : Form) (c : Const) → IsTypedForm v os (IntTy k) x → constant_of v (Node (IntTy k) line turn x) ≡ Some c → IsGood (IntTy k) c
  integer-good k line turn x c h e = by (integer (Node (IntTy k) line turn x)) refl e
    where
      by : (o : Option ℤ) → integer (Node (IntTy k) line turn x) ≡ o → option_or (option_map const.Int o) (truth_in v (IntTy k) x) ≡ Some c → IsGood (IntTy k) c
      by None q e = truth-good k x c e
      by (Some n) q e = subst (IsGood (IntTy k)) (some-same (const.Int n) c e) (tt, (k, refl, integer-fits (Node (IntTy k) line turn x) n h q k refl))

  node-good : (t : Ty) (line : ℕ) (turn : Bool) (x : Form) (c : Const) → IsValueType t → IsTypedForm v os t x → constant_of v (Node t line turn x) ≡ Some c → IsGood t c
  node-good (IntTy k) line turn x c p h e = integer-good k line turn x c h e
  node-good (PointerTo s) line turn x c p h e = pointer-good s c (address-placed (Node (PointerTo s) line turn x) c h e)
  node-good (StructTag n) line turn x c p h e = absurd cc
  node-good (UnionTag n) line turn x c p h e = absurd cc
  node-good VoidTy line turn x c p h e = absurd p
  node-good (ArrayOf t n) line turn x c p h e = absurd p
  node-good (FunctionTy t ts d) line turn x c p h e = absurd p
  node-good (ConstOf t) line turn x c p h e = absurd p

  -- what is typed, and a constant of an initializer, is a constant of its type whose place is there
  pub constant-good : (a : TypedTree) (c : Const) → IsValueType (type_of a) → IsTyped v os a → constant_of v a ≡ Some c → IsPlaced v c × IsConstantOf c (type_of a)
  constant-good (Node t line turn x) c p h e = node-good t line turn x c p h e
