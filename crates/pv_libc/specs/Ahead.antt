-- A bridge: characters that are plain: reading one leaves all as it was. What functions answer that read many of them at once.
use Rattle.std.specs.Prelude.{◌≡◌, ℕ, zero, suc, ℤ, ◌+◌, ◌/◌, ◌%◌, ◌==◌, ◌<◌, ◌≤◌, ◌^◌, true, List, [], length, Some, if◌then◌else◌}
use Rattle.pv_prov.specs.declared.names.Prov.TheVariants.{Inst}
use Rattle.pv_inst.specs.declared.values.Info.{Info}
use Rattle.pv_inst.specs.Table.{Table, instance_at}
use Rattle.pv_inst.specs.Infos.{info_of}
use Rattle.pv_inst.specs.Use.{holds}
use Rattle.pv_object.specs.declared.values.Pointer.{Pointer}
use Rattle.pv_object.specs.declared.values.Asker.{Asker}
use Rattle.pv_object.specs.declared.values.Value.TheVariants as value
use Rattle.pv_object.specs.Memory.{Mem}
use Rattle.pv_libc.specs.declared.values.Note.{Note}
use Rattle.pv_libc.specs.declared.values.Given.{Given}
use Rattle.pv_libc.specs.declared.values.Reply.{Reply}
use Rattle.pv_libc.specs.declared.values.Reply.TheVariants as reply
use Rattle.pv_libc.specs.Steps.{Now, Did, with_notes, answer_now, next}
use Rattle.pv_libc.specs.Blocks.{difference, sign_of}
use Rattle.pv_libc.specs.Characters.{character_at, characters_from, string_at, most}
use Rattle.pv_libc.specs.StringParts.{strcmp}

-- 7.24.1p2, 6.2.4p2, 6.5.6p8: so many bytes from a pointer on lie in the one live object that its name is
pub record HasRoom (T : Table) (p : Pointer) (n : ℕ) : Type 0 where
  pub number : ℕ
  pub info : Info
  pub name : p.prov ≡ Inst number
  pub there : info_of (instance_at T.instances number) ≡ Some info
  pub holding : holds info.kind 1 ≡ true
  pub from : info.base ≤ p.address
  pub upto : p.address + n ≤ info.base + info.size
  pub far : p.address + n ≤ 2 ^ 47
  -- an instance has at most 2^24 bytes
  pub few : n ≤ most

-- 7.24.1p3: the character so many bytes further on is this one, and reading it leaves all as it was
abbrev pub GivesAt : Mem → Given → (i c : ℕ) → Type 0
GivesAt M g i c = (by : Asker) (notes : List Note) → character_at by g i (with_notes M notes) ≡ answer_now c (with_notes M notes)

-- 7.1.1p1: the string is this one, and reading it leaves all as it was
pub record IsPlainString (M : Mem) (g : Given) (text : List ℕ) : Type 0 where
  pub few : length text < most
  pub is : (by : Asker) (notes : List Note) → string_at by g (with_notes M notes) ≡ answer_now text (with_notes M notes)

-- 7.24.4.2p2, p3: the comparison of two strings replies this, and leaves all as it was
abbrev pub ComparesPlainly : Mem → (p q : Given) → Reply → Type 0
ComparesPlainly M p q reply = (notes : List Note) → strcmp p q (with_notes M notes) ≡ answer_now reply (with_notes M notes)

-- 7.24.4p1: the sign of two characters that differ, or else what the rest answers
abbrev pub sign_or : (a b : ℕ) → ℤ → ℤ
sign_or a b rest = if a == b then rest else sign_of a b

-- 7.24.4p1: the same of the first of n digits to the base 256, the least significant first, in which two numbers differ
abbrev pub digits_or : (n x y : ℕ) → ℤ → ℤ
digits_or zero x y rest = rest
digits_or (suc n) x y rest = sign_or (x % 256) (y % 256) (digits_or n (x / 256) (y / 256) rest)

-- 7.24.4.1p2, p3: n characters are read from each of two addresses on, and compared
abbrev pub rows_compared : Given → Given → (a b n : ℕ) → Now → Did Reply
rows_compared p q a b n S =
    next (characters_from n p a [] S) (λ ls T.
    next (characters_from n q b [] T) (λ rs U. answer_now (reply.Value (value.Int (difference ls rs))) U))

-- 7.24.4.1p3: the comparison of the n characters from each of two addresses on replies this, and leaves all as it was
abbrev pub DiffersPlainly : Mem → (a b n : ℕ) → Reply → Type 0
DiffersPlainly M a b n reply = (p q : Given) (notes : List Note) → rows_compared p q a b n (with_notes M notes) ≡ answer_now reply (with_notes M notes)
