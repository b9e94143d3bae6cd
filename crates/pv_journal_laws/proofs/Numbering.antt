-- The names in abstract bytes are those of pairs that are numbered from 1 (the memory model), whatever is done to the bytes (C17 6.2.6.1).
use Rattle.std.proofs.Common.{◌≡◌, ℕ, zero, suc, ◌+◌, ◌/◌, Bool, true, false, cond, eqb, List, [], ◌∷◌, length, map, replicate, take, drop, All, Option, Some, None, Result, Ok, Err, refl, sym, ap, ◌∙◌, arith, subst}
use Rattle.std.proofs.lemmas.Option.{none-some, same_Some}
use Rattle.std.proofs.lemmas.List.Elements.{All-nil, All-cons}
use Rattle.std.specs.Option.{unwrap_or}
use Rattle.std.specs.Cmp.{nat_cmp_total, unsigned_tied}
use Rattle.std.specs.FinMap.{get, insert, remove, get-insert, get-remove}
use Rattle.pv_num.specs.Kinds.{width, bits_of}
use Rattle.pv_prov.specs.declared.names.Prov.{Prov}
use Rattle.pv_prov.specs.declared.names.Prov.TheVariants as prov
use Rattle.pv_prov.specs.declared.names.Stands.{Stands}
use Rattle.pv_inst.specs.declared.values.Instance.{Instance}
use Rattle.pv_inst.specs.declared.values.CreateError.{CreateError}
use Rattle.pv_inst.specs.Table.{Table, instance_at, IsMadeIn}
use Rattle.pv_inst.specs.Finding.{name_by, name_at}
use Rattle.pv_inst.specs.Placing.{Request, place}
use Rattle.pv_shadow.specs.declared.byte.Byte.{Byte}
use Rattle.pv_shadow.specs.Bytes.{Store, blank_byte, byte_at, bytes_from, with_bytes_at, with_blanks, without_bytes}
use Rattle.pv_shadow.specs.Whole.{number_bytes, pointer_bytes, little_endian}
use Rattle.pv_object.specs.declared.values.Scalar.{Scalar}
use Rattle.pv_object.specs.declared.values.Scalar.TheVariants as scalar
use Rattle.pv_object.specs.declared.values.Value.{Value}
use Rattle.pv_object.specs.declared.values.Value.TheVariants as value
use Rattle.pv_object.specs.Encoding.{encode}
use Rattle.pv_object.specs.EncodingParts.{unset_byte}
use Rattle.pv_object.specs.Memory.{Mem}
use Rattle.pv_object.specs.Creating.{creation, with_new_bytes, without}
use Rattle.pv_object.specs.OperationParts.{blank_in, cleared_in}
use Rattle.pv_journal_laws.proofs.Telling.{IsNumbered}

pub made_numbered : (T : Table) (p : Prov) → IsMadeIn T p → IsNumbered p
made_numbered T prov.Empty m = tt
made_numbered T (prov.Inst i) m = tt
made_numbered T (prov.Pair k) m = m.0

-- the same of the bytes in a list, and of all that there are
abbrev pub AreNumbered : List Byte → Type 0
AreNumbered bytes = All (λ (x : Byte). IsNumbered x.prov) bytes

abbrev pub Named : Store → Type 0
Named m = (a : ℕ) (x : Byte) → get m a ≡ Some x → IsNumbered x.prov

all_first : {X : Type 0} (P : X → Type 0) (x : X) (xs : List X) → All P (x ∷ xs) → P x
all_first P x xs all = all 0 x (omega arith)

all_rest : {X : Type 0} (P : X → Type 0) (x : X) (xs : List X) → All P (x ∷ xs) → All P xs
all_rest P x xs all k d l = all (suc k) d (omega (arith, l))

pub all_drop : {X : Type 0} (P : X → Type 0) (n : ℕ) (xs : List X) → All P xs → All P (drop n xs)
all_drop P zero xs all = all
all_drop P (suc n) [] all = All-nil P
all_drop P (suc n) (x ∷ xs) all = all_drop P n xs (all_rest P x xs all)

pub all_take : {X : Type 0} (P : X → Type 0) (n : ℕ) (xs : List X) → All P xs → All P (take n xs)
all_take P zero xs all = All-nil P
all_take P (suc n) [] all = All-nil P
all_take P (suc n) (x ∷ xs) all = All-cons P x (take n xs) (all_first P x xs all) (all_take P n xs (all_rest P x xs all))

-- what a store has
named_insert : (m : Store) (k : ℕ) (b : Byte) → Named m → IsNumbered b.prov → Named (insert m k b)
named_insert m k b h n a x e = by (eqb a k) (sym (get-insert nat_cmp_total m k b a ∙ ap (λ t. cond t (Some b) (get m a)) (unsigned_tied a k)) ∙ e)
  where
    by : (t : Bool) → cond t (Some b) (get m a) ≡ Some x → IsNumbered x.prov
    by true e = subst (λ (y : Byte). IsNumbered y.prov) (same_Some b x e) n
    by false e = h a x e

named_remove : (m : Store) (k : ℕ) → Named m → Named (remove m k)
named_remove m k h a x e = by (eqb a k) (sym (get-remove nat_cmp_total m k a ∙ ap (λ t. cond t None (get m a)) (unsigned_tied a k)) ∙ e)
  where
    by : (t : Bool) → cond t None (get m a) ≡ Some x → IsNumbered x.prov
    by true e = absurd (none-some x e)
    by false e = h a x e

pub named_written : (m : Store) (a : ℕ) (bs : List Byte) → AreNumbered bs → Named m → Named (with_bytes_at m a bs)
named_written m a [] all h = h
named_written m a (b ∷ bs) all h = named_written (insert m a b) (a + 1) bs (all_rest (λ (x : Byte). IsNumbered x.prov) b bs all) (named_insert m a b h (all_first (λ (x : Byte). IsNumbered x.prov) b bs all))

pub named_spread : (m : Store) (a n : ℕ) → Named m → Named (with_blanks m a n)
named_spread m a zero h = h
named_spread m a (suc n) h = named_spread (insert m a blank_byte) (a + 1) n (named_insert m a blank_byte h tt)

pub named_cleared : (m : Store) (a n : ℕ) → Named m → Named (without_bytes m a n)
named_cleared m a zero h = h
named_cleared m a (suc n) h = named_cleared (remove m a) (a + 1) n (named_remove m a h)

-- what is read of it
byte_numbered : (m : Store) (a : ℕ) → Named m → IsNumbered (byte_at m a).prov
byte_numbered m a h = by (get m a) refl
  where
    by : (o : Option Byte) → get m a ≡ o → IsNumbered (unwrap_or o blank_byte).prov
    by None e = tt
    by (Some x) e = h a x e

pub read_numbered : (m : Store) (a n : ℕ) → Named m → AreNumbered (bytes_from m a n)
unfolding bytes_from
read_numbered m a zero h = All-nil (λ (x : Byte). IsNumbered x.prov)
read_numbered m a (suc n) h = All-cons (λ (x : Byte). IsNumbered x.prov) (byte_at m a) (bytes_from m (a + 1) n) (byte_numbered m a h) (read_numbered m (a + 1) n h)

-- bytes that are made
pub plain_numbered : (mark : Option ℕ) (j : ℕ) (vs : List ℕ) → AreNumbered (number_bytes mark j vs)
plain_numbered mark j [] = All-nil (λ (x : Byte). IsNumbered x.prov)
plain_numbered mark j (v ∷ vs) = All-cons (λ (x : Byte). IsNumbered x.prov) _ (number_bytes mark (j + 1) vs) tt (plain_numbered mark (j + 1) vs)

pointed_numbered : (mark : Option ℕ) (p : Prov) (j : ℕ) (vs : List ℕ) → IsNumbered p → AreNumbered (pointer_bytes mark p j vs)
pointed_numbered mark p j [] h = All-nil (λ (x : Byte). IsNumbered x.prov)
pointed_numbered mark p j (v ∷ vs) h = All-cons (λ (x : Byte). IsNumbered x.prov) _ (pointer_bytes mark p (j + 1) vs) h (pointed_numbered mark p (j + 1) vs h)

pub same_numbered : (n : ℕ) (b : Byte) → IsNumbered b.prov → AreNumbered (replicate n b)
same_numbered zero b h = All-nil (λ (x : Byte). IsNumbered x.prov)
same_numbered (suc n) b h = All-cons (λ (x : Byte). IsNumbered x.prov) b (replicate n b) h (same_numbered n b h)

pub each_numbered : (f : ℕ → Byte) → ((v : ℕ) → IsNumbered (f v).prov) → (vs : List ℕ) → AreNumbered (map f vs)
each_numbered f h [] = All-nil (λ (x : Byte). IsNumbered x.prov)
each_numbered f h (v ∷ vs) = All-cons (λ (x : Byte). IsNumbered x.prov) (f v) (map f vs) (h v) (each_numbered f h vs)

-- the name in a value is such a name
abbrev pub IsNumberedValue : Value → Type 0
IsNumberedValue (value.Pointer p) = IsNumbered p.prov
IsNumberedValue (value.Int n) = Unit {0}
IsNumberedValue value.Unset = Unit {0}

pub encode_numbered : (t : Scalar) (v : Value) (mark : Option ℕ) → IsNumberedValue v → AreNumbered (encode t v mark)
encode_numbered (scalar.Int k) (value.Int n) mark h = plain_numbered mark 0 (little_endian (width k / 8) (bits_of k n))
encode_numbered (scalar.Int k) value.Unset mark h = All-cons (λ (x : Byte). IsNumbered x.prov) (unset_byte mark) [] tt (All-nil (λ (x : Byte). IsNumbered x.prov))
encode_numbered (scalar.Int k) (value.Pointer p) mark h = All-nil (λ (x : Byte). IsNumbered x.prov)
encode_numbered scalar.Pointer (value.Pointer p) mark h = pointed_numbered mark p.prov 0 (little_endian 8 p.address) h
encode_numbered scalar.Pointer (value.Int n) mark h = All-nil (λ (x : Byte). IsNumbered x.prov)
encode_numbered scalar.Pointer value.Unset mark h = All-nil (λ (x : Byte). IsNumbered x.prov)

-- instances that are made and ended
blank_named : (o : Option Instance) (m : Store) → Named m → Named (blank_in o m)
blank_named None m h = h
blank_named (Some x) m h = named_spread m x.base x.size h

cleared_named : (o : Option Instance) (m : Store) → Named m → Named (cleared_in o m)
cleared_named None m h = h
cleared_named (Some x) m h = named_cleared m x.base x.size h

made_named : (M : Mem) (w : Result ℕ CreateError × Table) → Named M.bytes → Named (with_new_bytes M w).1.bytes
made_named M ((Ok i), U) h = blank_named (instance_at U.instances i) M.bytes h
made_named M ((Err e), U) h = h

pub created_named : (M : Mem) (r : Request) → Named M.bytes → Named (creation M r).1.bytes
created_named M r h = made_named M (place M.table r) h

pub without_named : (M : Mem) (i : ℕ) → Named M.bytes → Named (without M i).bytes
without_named M i h = cleared_named (instance_at M.table.instances i) M.bytes h

-- the name of an integer
name_by_numbered : (o p : Option ℕ) (n : ℕ) → IsNumbered (name_by (record { low = o; high = p }) n)
name_by_numbered None p n = tt
name_by_numbered (Some i) None n = tt
name_by_numbered (Some i) (Some j) n = omega arith

stands_numbered : (s : Stands) (n : ℕ) → IsNumbered (name_by s n)
stands_numbered s n = name_by_numbered s.low s.high n

pub name_numbered : (T : Table) (a : ℕ) → IsNumbered (name_at T a)
name_numbered T a = stands_numbered _ (length T.pairs)
