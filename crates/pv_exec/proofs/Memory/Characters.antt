-- Characters that the library reads, and strings of them (C17 7.1.1p1, 7.24.1p3).
use Rattle.std.proofs.Common.{◌≡◌, ℕ, zero, suc, ◌+◌, ◌<◌, ◌≤◌, ◌^◌, ℤ, pos, negsuc, Bool, true, false, cond, eqb, List, [], ◌∷◌, ◌++◌, length, length-append, Option, Some, None, Result, Ok, Err, refl, arith}
use Rattle.std.specs.Prelude.{unsigned_abs}
use Rattle.std.proofs.lemmas.Int.{ints}
use Rattle.pv_num.specs.declared.kinds.IntKind.TheVariants.{UChar}
use Rattle.pv_num.specs.Kinds.{Fits, convert_of}
use Rattle.pv_num.proofs.Congruence.{equal_fits}
use Rattle.pv_inst.specs.declared.values.Tried.{Tried}
use Rattle.pv_inst.specs.Table.{Table}
use Rattle.pv_shadow.specs.declared.byte.Byte.{Byte}
use Rattle.pv_object.specs.declared.values.Asker.{Asker}
use Rattle.pv_object.specs.declared.values.Scalar.TheVariants as scalar
use Rattle.pv_object.specs.declared.values.Stop.{Stop}
use Rattle.pv_object.specs.declared.values.Value.{Value}
use Rattle.pv_object.specs.declared.values.Value.TheVariants as value
use Rattle.pv_shadow.specs.Whole.{number_in}
use Rattle.pv_object.specs.Loading.{Loaded, load, integer_of}
use Rattle.pv_libc.specs.declared.values.Note.{Note}
use Rattle.pv_libc.specs.Steps.{Now, Did, next, next_by, about, about_by, reach_for, bytes_further}
use Rattle.pv_libc.specs.Characters.{character_of, character_loaded, character_in, character_at, string_from, most, string_at}
use Rattle.pv_shadow.specs.Bytes.{bytes_from}
use Rattle.pv_typed.specs.Known.{Each}
use Rattle.pv_exec.proofs.Memory.Ways.{When}

-- a step, and another one behind it
when-by : {A B : Type 0} (P : A → Type 0) (Q : B → Type 0) (r : Result A Stop) (d : Did A) (rest : A → Now → Did B) → When P r → ((a : A) (T : Now) → P a → When Q (rest a T).answer) → When Q (next_by r d rest).answer
when-by P Q (Ok a) d rest p g = g a d.after p
when-by P Q (Err stop) d rest p g = tt

pub when-next : {A B : Type 0} (P : A → Type 0) (Q : B → Type 0) (d : Did A) (rest : A → Now → Did B) → When P d.answer → ((a : A) (T : Now) → P a → When Q (rest a T).answer) → When Q (next d rest).answer
when-next P Q d rest p g = when-by P Q d.answer d rest p g

about-by : {A : Type 0} (P : A → Type 0) (r : Result A Stop) (note : Note) (d : Did A) → r ≡ d.answer → When P d.answer → When P (about_by r note d).answer
about-by P (Ok a) note d e h = h
about-by P (Err y) note d e h = tt

pub when-about : {A : Type 0} (P : A → Type 0) (note : Note) (d : Did A) → When P d.answer → When P (about note d).answer
when-about P note d h = about-by P d.answer note d refl h

pub when-if : {A : Type 0} (P : A → Type 0) (c : Bool) (d e : Did A) → (c ≡ true → When P d.answer) → (c ≡ false → When P e.answer) → When P (cond c d e).answer
when-if P true d e h g = h refl
when-if P false d e h g = g refl

pub when-all : {A : Type 0} (P : A → Type 0) (r : Result A Stop) → ((a : A) → P a) → When P r
when-all P (Ok a) h = h a
when-all P (Err y) h = tt

-- 7.24.1p3: a character is an `unsigned char`
abbrev IsSmall : ℕ → Type 0
IsSmall v = v < 256

small-number : (n : ℤ) → Fits UChar n → unsigned_abs n < 256
small-number (pos a) h = grind (arith, ints)
small-number (negsuc a) h = grind (arith, ints)

abbrev SmallInt : Value × Tried → Type 0
SmallInt (value.Int n, tried) = Fits UChar n
SmallInt (value.Unset, tried) = Unit {0}
SmallInt (value.Pointer p, tried) = Unit {0}

small-of : (r : Result (Value × Tried) Stop) → When SmallInt r → When IsSmall (character_of r)
small-of (Ok (value.Int n, tried)) h = small-number n h
small-of (Ok (value.Unset, tried)) h = tt
small-of (Ok (value.Pointer p, tried)) h = tt
small-of (Err y) h = tt

loads-if : (c : Bool) (x y : Loaded) → When SmallInt x.0 → When SmallInt y.0 → When SmallInt (cond {A = Loaded} c x y).0
loads-if true x y h g = h
loads-if false x y h g = g

integer-small : (T : Table) (bytes : List Byte) (o : Option ℕ) → When SmallInt (integer_of T UChar bytes o).0
integer-small T bytes None = tt
integer-small T bytes (Some n) = equal_fits UChar (pos n) (convert_of UChar (pos n)) refl refl

character-small : (g : _) (a : ℕ) (S : Now) → When IsSmall (character_in g a S).answer
character-small g a S =
    when-about IsSmall g.stopped (character_loaded S (load S.memory a (scalar.Int UChar)))
    (small-of (load S.memory a (scalar.Int UChar)).0 (integer-small S.memory.table (bytes_from S.memory.bytes a 1) (number_in (bytes_from S.memory.bytes a 1))))

at-small : (by : Asker) (g : _) (i : ℕ) (S : Now) → When IsSmall (character_at by g i S).answer
at-small by g i S = when-next (λ r. Unit {0}) IsSmall (reach_for by false (bytes_further g i) 1 S) _ (when-all _ _ (λ r. tt)) (λ r T p. character-small g r.address T)

push-small : (vs : List ℕ) (v : ℕ) → Each IsSmall vs → v < 256 → Each IsSmall (vs ++ v ∷ [])
push-small [] v h l = (l, tt)
push-small (x ∷ vs) v h l = (h.0, push-small vs v h.1 l)

-- 7.1.1p1: a string's characters, and how many there are
abbrev IsString : ℕ → List ℕ → Type 0
IsString n s = Each IsSmall s × (length s ≤ n)

string-by : (k n : ℕ) (by : Asker) (g : _) (read : List ℕ) (S : Now) → Each IsSmall read → length read + k ≤ n → When (IsString n) (string_from k by g read S).answer
string-by zero n by g read S h l = tt
string-by (suc k) n by g read S h l =
    when-next IsSmall (IsString n) (character_at by g (length read) S) _ (at-small by g (length read) S) (λ c T p.
    when-if (IsString n) (eqb c 0) _ _ (λ e. (h, omega (arith, l)))
    (λ e. let a = length-append read (c ∷ []) in string-by k n by g (read ++ c ∷ []) T (push-small read c h p) (omega (arith, l, a))))

when-weaker : {A : Type 0} (P Q : A → Type 0) (r : Result A Stop) → ((a : A) → P a → Q a) → When P r → When Q r
when-weaker P Q (Ok a) f h = f a h
when-weaker P Q (Err y) f h = tt

pub string-small : (by : Asker) (g : _) (S : Now) → When (Each (λ (v : ℕ). v < 256)) (string_at by g S).answer
string-small by g S = when-weaker (IsString most) (Each IsSmall) (string_at by g S).answer (λ s h. h.0) (string-by most most by g [] S tt (omega arith))

pub string-short : (by : Asker) (g : _) (S : Now) → When (λ (s : List ℕ). length s ≤ 2 ^ 24) (string_at by g S).answer
unfolding most
string-short by g S = when-weaker (IsString most) (λ (s : List ℕ). length s ≤ 2 ^ 24) (string_at by g S).answer (λ s h. h.1) (string-by most most by g [] S tt (omega arith))
