-- What a store leaves has as many bytes as its lvalue (C17 6.2.6.1p4), and the names in them were made.
use Rattle.std.proofs.Common.{◌≡◌, ℕ, zero, suc, ◌+◌, ◌/◌, true, All, List, [], ◌∷◌, length, replicate, Option, Some, None, refl, sym, ap, ◌∙◌, subst, arith}
use Rattle.std.specs.Prelude.{nat_le}
use Rattle.std.proofs.lemmas.Bool.{false≢true, leb-true}
use Rattle.std.proofs.lemmas.List.Elements.{All-cons, All-nil}
use Rattle.pv_num.specs.declared.kinds.IntKind.{IntKind}
use Rattle.pv_num.specs.declared.kinds.IntKind.TheVariants as kind
use Rattle.pv_num.specs.Kinds.{width, bits_of, is_character_kind as is_character}
use Rattle.pv_types.specs.Ty.{Ty, VoidTy, IntTy, PointerTo, ArrayOf, StructTag, UnionTag, FunctionTy, ConstOf}
use Rattle.pv_prov.specs.declared.names.Prov.{Prov}
use Rattle.pv_inst.specs.declared.values.Instance.{Instance}
use Rattle.pv_inst.specs.Infos.{base_of}
use Rattle.pv_inst.specs.Table.{Table, instance_at, IsMadeIn}
use Rattle.pv_shadow.specs.declared.byte.Byte.{Byte}
use Rattle.pv_shadow.specs.Whole.{number_bytes, pointer_bytes, little_endian}
use Rattle.pv_object.specs.declared.values.Scalar.{Scalar}
use Rattle.pv_object.specs.declared.values.Scalar.TheVariants as scalar
use Rattle.pv_object.specs.declared.values.Value.{Value}
use Rattle.pv_object.specs.declared.values.Value.TheVariants.{Int as IntValue, Unset, Pointer as PointerValue}
use Rattle.pv_object.specs.Answers.{IsMadeValue}
use Rattle.pv_object.specs.Encoding.{encode, size_of as scalar_size}
use Rattle.pv_object.specs.Later.{IsLater}
use Rattle.pv_object.specs.Values.{IsOf}
use Rattle.pv_object.proofs.Contents.{encode_made}
use Rattle.pv_object.proofs.Later.{made_later}
use Rattle.pv_world.specs.declared.got.Shape.{Shape}
use Rattle.pv_world.specs.declared.got.Shape.TheVariants as shape
use Rattle.pv_world.specs.Worlds.{Worth, Nothing, Missing, Scalar as ScalarWorth, Whole, World}
use Rattle.pv_world.specs.Worths.{value_of, bytes_of}
use Rattle.pv_world.specs.Accesses.{mark_of, stored_as}
use Rattle.pv_world.specs.Coming.{IsMadeWorth}
use Rattle.pv_world.specs.Objects.{base_in}
use Rattle.pv_world.specs.ObjectParts.{filling}
use Rattle.pv_world.specs.Preconditions.{HasSizeOf, IsStored}
use Rattle.pv_eval.specs.States.{Setting}
use Rattle.pv_eval.specs.TypeForms.{Lvalue, lvalue, shape_of, size_of}
use Rattle.pv_world.specs.Suiting.{is_stored, has_room}
use Rattle.pv_world.specs.SuitingParts.{room_in}
use Rattle.pv_eval.proofs.Closed.{IsLvalue}
use Rattle.pv_world.proofs.Guards.{left_of, right_of, stored_is}
use Rattle.pv_eval.proofs.Settings.{scalar_sized}
use Rattle.pv_exec.proofs.Memory.Reached.{AreInLive}

-- the names in bytes were made
abbrev pub AreMade : Table → List Byte → Type 0
AreMade T bytes = All (λ (x : Byte). IsMadeIn T x.prov) bytes

pub made-still : (T U : Table) (bytes : List Byte) → IsLater T U → AreMade T bytes → AreMade U bytes
made-still T U bytes l h = λ k d m. made_later T U _ l (h k d m)

-- as many bytes as values
pub plain-length : (mark : Option ℕ) (j : ℕ) (vs : List ℕ) → length (number_bytes mark j vs) ≡ length vs
plain-length mark j [] = refl
plain-length mark j (v ∷ vs) = ap suc (plain-length mark (j + 1) vs)

pointed-length : (mark : Option ℕ) (p : Prov) (j : ℕ) (vs : List ℕ) → length (pointer_bytes mark p j vs) ≡ length vs
pointed-length mark p j [] = refl
pointed-length mark p j (v ∷ vs) = ap suc (pointed-length mark p (j + 1) vs)

endian-length : (k n : ℕ) → length (little_endian k n) ≡ k
endian-length zero n = refl
endian-length (suc k) n = ap suc (endian-length k (n / 256))

pub plain-made : (T : Table) (mark : Option ℕ) (j : ℕ) (vs : List ℕ) → AreMade T (number_bytes mark j vs)
plain-made T mark j [] = All-nil (λ (x : Byte). IsMadeIn T x.prov)
plain-made T mark j (v ∷ vs) = All-cons (λ (x : Byte). IsMadeIn T x.prov) _ _ tt (plain-made T mark (j + 1) vs)

pub filling-made : (T : Table) (n : ℕ) (v : Option ℕ) → AreMade T (replicate n (filling v))
filling-made T zero v = All-nil (λ (x : Byte). IsMadeIn T x.prov)
filling-made T (suc n) v = All-cons (λ (x : Byte). IsMadeIn T x.prov) (filling v) (replicate n (filling v)) tt (filling-made T n v)

-- 3.19.2: an unset value is one of a character type
character-size : (k : IntKind) → is_character k ≡ true → width k / 8 ≡ 1
character-size kind.Char e = refl
character-size kind.SChar e = refl
character-size kind.UChar e = refl
character-size kind.Bool e = refl
character-size kind.Short e = absurd (false≢true e)
character-size kind.UShort e = absurd (false≢true e)
character-size kind.Int e = absurd (false≢true e)
character-size kind.UInt e = absurd (false≢true e)
character-size kind.Long e = absurd (false≢true e)
character-size kind.ULong e = absurd (false≢true e)
character-size kind.LLong e = absurd (false≢true e)
character-size kind.ULLong e = absurd (false≢true e)

encode-length : (t : Scalar) (v : Value) (mark : Option ℕ) → IsOf t v → length (encode t v mark) ≡ scalar_size t
encode-length (scalar.Int k) (IntValue n) mark h = plain-length mark 0 (little_endian (width k / 8) (bits_of k n)) ∙ endian-length (width k / 8) (bits_of k n)
encode-length (scalar.Int k) Unset mark h = sym (character-size k h)
encode-length (scalar.Int k) (PointerValue p) mark h = absurd h
encode-length scalar.Pointer (PointerValue p) mark h = pointed-length mark p.prov 0 (little_endian 8 p.address) ∙ endian-length 8 p.address
encode-length scalar.Pointer (IntValue n) mark h = absurd h
encode-length scalar.Pointer Unset mark h = absurd h

stored-size : (number : ℕ) (s : Shape) (n : ℕ) (v : Worth) → IsStored s n v → length (stored_as number s v) ≡ n
stored-size number (shape.Int k) n (ScalarWorth v) h = encode-length (scalar.Int k) v (mark_of number (shape.Int k)) h.1 ∙ sym h.0
stored-size number shape.Pointer n (ScalarWorth v) h = encode-length scalar.Pointer v (mark_of number shape.Pointer) h.1 ∙ sym h.0
stored-size number shape.Whole n (Whole bs a) h = sym h
stored-size number shape.Whole n (ScalarWorth v) h = absurd h
stored-size number (shape.Int k) n (Whole bs a) h = absurd h
stored-size number shape.Pointer n (Whole bs a) h = absurd h
stored-size number (shape.Int k) n Nothing h = absurd h
stored-size number shape.Pointer n Nothing h = absurd h
stored-size number shape.Whole n Nothing h = absurd h
stored-size number (shape.Int k) n Missing h = absurd h
stored-size number shape.Pointer n Missing h = absurd h
stored-size number shape.Whole n Missing h = absurd h

-- 6.2.6.1p4: an lvalue has the size of its shape
lvalue-sized : (b : Setting) (t : Ty) → HasSizeOf (shape_of t) (size_of b t)
lvalue-sized b (IntTy k) = scalar_sized b.types (IntTy k)
lvalue-sized b (PointerTo t) = refl
lvalue-sized b (ConstOf t) = lvalue-sized b t
lvalue-sized b VoidTy = tt
lvalue-sized b (ArrayOf t n) = tt
lvalue-sized b (StructTag n) = tt
lvalue-sized b (UnionTag n) = tt
lvalue-sized b (FunctionTy t ts v) = tt

pub stored-length : (b : Setting) (l : Lvalue) (v : Worth) → IsLvalue b l → is_stored l.shape l.size v ≡ true → length (stored_as l.number l.shape v) ≡ l.size
stored-length b l v (t, e) h =
    let P : Lvalue → Type 0 = λ l. is_stored l.shape l.size v ≡ true → length (stored_as l.number l.shape v) ≡ l.size in
    subst P (sym e) (λ g. stored-size (lvalue b t).number (shape_of t) (size_of b t) v (stored_is (shape_of t) (size_of b t) v (lvalue-sized b t) g)) h

-- the names in a value
value-made : (T : Table) (v : Worth) → IsMadeWorth T v → IsMadeValue T (value_of v)
value-made T (ScalarWorth v) h = h
value-made T Nothing h = tt
value-made T Missing h = tt
value-made T (Whole bs a) h = tt

bytes-made : (T : Table) (v : Worth) → IsMadeWorth T v → AreMade T (bytes_of v)
bytes-made T (Whole bs a) h = h
bytes-made T (ScalarWorth v) h = All-nil (λ (x : Byte). IsMadeIn T x.prov)
bytes-made T Nothing h = All-nil (λ (x : Byte). IsMadeIn T x.prov)
bytes-made T Missing h = All-nil (λ (x : Byte). IsMadeIn T x.prov)

pub stored-made : (T : Table) (number : ℕ) (s : Shape) (v : Worth) → IsMadeWorth T v → AreMade T (stored_as number s v)
stored-made T number (shape.Int k) v h = encode_made T (scalar.Int k) (value_of v) (mark_of number (shape.Int k)) (value-made T v h)
stored-made T number shape.Pointer v h = encode_made T scalar.Pointer (value_of v) (mark_of number shape.Pointer) (value-made T v h)
stored-made T number shape.Whole v h = bytes-made T v h

-- 6.2.4p2: the room that an object has
room-by : (T : Table) (i offset n : ℕ) (o : Option Instance) → instance_at T.instances i ≡ o → room_in o offset n ≡ true → AreInLive T (base_of o + offset) n
room-by T i offset n None e h = absurd (false≢true h)
room-by T i offset n (Some x) e h =
    let l = leb-true (offset + n) x.size (right_of x.live (nat_le (offset + n) x.size) h) in
    record { number = i; inst = x; is = e; live = left_of x.live (nat_le (offset + n) x.size) h; from = omega arith; upto = omega (arith, l) }

pub room-in-live : (w : World) (i offset n : ℕ) → has_room w i offset n ≡ true → AreInLive w.memory.table (base_in w i + offset) n
room-in-live w i offset n h = room-by w.memory.table i offset n (instance_at w.memory.table.instances i) refl h
