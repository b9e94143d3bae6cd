-- The ways in which an operation of a run, and a step of a call of the library, change a memory: its table of instances and pairs, and its
-- bytes (C17 6.2.4, 6.2.6.1, 6.5.16, 7.1.4, 7.22.3, 7.24); and steps of a call along them.
use Rattle.std.proofs.Common.{ℕ, zero, suc, ◌+◌, ◌≡◌, ◌<◌, ◌≤◌, Some, Bool, true, false, not, cond, eqb, All, List, [], ◌∷◌, ◌++◌, length, Result, Ok, Err}
use Rattle.pv_num.specs.declared.kinds.IntKind.{IntKind}
use Rattle.pv_num.specs.declared.kinds.IntKind.TheVariants.{UChar}
use Rattle.pv_prov.specs.declared.names.Prov.{Prov}
use Rattle.pv_prov.specs.declared.names.Prov.TheVariants.{Empty}
use Rattle.pv_prov.specs.Names.{twin_at, after_narrowing}
use Rattle.pv_inst.specs.declared.values.Test.{Test}
use Rattle.pv_inst.specs.Answers.{IsLive}
use Rattle.pv_inst.specs.declared.values.CreateError.{CreateError}
use Rattle.pv_inst.specs.Ending.{after_end}
use Rattle.pv_inst.specs.Table.{Table, IsMadeIn}
use Rattle.pv_inst.specs.Use.{use_answer, after_use, is_function}
use Rattle.pv_inst.specs.Placing.{Request, place}
use Rattle.pv_inst.specs.TwoPointers.{after_same}
use Rattle.pv_inst.specs.Finding.{after_name}
use Rattle.pv_inst.specs.Exposure.{expose}
use Rattle.pv_shadow.specs.declared.byte.Byte.{Byte}
use Rattle.pv_shadow.specs.Bytes.{bytes_from}
use Rattle.pv_object.specs.declared.values.Pointer.{Pointer}
use Rattle.pv_object.specs.declared.values.Scalar.{Scalar}
use Rattle.pv_object.specs.declared.values.Scalar.TheVariants as scalar
use Rattle.pv_object.specs.declared.values.Asker.{Asker}
use Rattle.pv_object.specs.declared.values.Stop.{Stop}
use Rattle.pv_object.specs.Memory.{Mem, with_table}
use Rattle.pv_object.specs.Access.{reach}
use Rattle.pv_object.specs.Creating.{creation, with_new_bytes, without}
use Rattle.pv_object.specs.Loading.{load, value_of}
use Rattle.pv_object.specs.Operations.{to_int}
use Rattle.pv_object.specs.Copying.{with_bytes, after_copy}
use Rattle.pv_libc.specs.declared.values.Note.{Note}
use Rattle.pv_libc.specs.Steps.{Now, Did, next, next_by, about, about_by, reach_for, reached_by, bytes_further}
use Rattle.pv_libc.specs.Characters.{character_in, character_loaded, character_at, characters_from, string_from, most, string_at}
use Rattle.pv_typed.specs.Known.{Each}
use Rattle.pv_eval.specs.ActingParts.{keeps_both}
use Rattle.pv_exec.proofs.Memory.Reached.{AreInLive, IsAllocation}

-- the ways in which an operation of a run changes a memory (6.2.4, 6.2.6.1, 6.3.2.3, 6.5.6, 6.5.8, 6.5.16), where each instance that is made has a
-- byte if F holds
pub record Changes (F : Type 0) (R : Mem → Mem → Type 0) : Type 0 where
  pub itself : {M : Mem} → R M M
  pub trans : {M N O : Mem} → R M N → R N O → R M O
  -- exposures were told
  pub told : (M : Mem) → R M (with_table M (record M.table { pending = [] }))
  pub uses : (M : Mem) (p : Prov) (t : Test) → R M (with_table M (after_use M.table p (use_answer M.table p t)))
  pub meets : (M : Mem) (p q : Prov) → IsMadeIn M.table p → IsMadeIn M.table q → R M (with_table M (after_same M.table p q))
  pub names : (M : Mem) (a : ℕ) → R M (with_table M (after_name M.table a))
  pub exposes : (M : Mem) (p : Prov) → R M (with_table M (expose M.table p))
  -- in a settled run a pair keeps one side from its making on
  pub settles : (M : Mem) (k : ℕ) (high : Bool) → keeps_both (twin_at M.table.pairs k) ≡ true → R M (with_table M (record M.table { pairs = after_narrowing M.table.pairs k (not high) high }))
  pub makes : (M : Mem) (r : Request) → (F → 1 ≤ r.size) → R M (creation M r).1
  -- only what lives ends
  pub ends : (M : Mem) (i : ℕ) → IsLive M.table.instances i → R M (without M i)
  -- what is stored lies in a live instance, and its names were made
  pub stores : (M : Mem) (a : ℕ) (bytes : List Byte) → AreInLive M.table a (length bytes) → All (λ (x : Byte). IsMadeIn M.table x.prov) bytes → R M (with_bytes M a bytes)
  pub copies : (M : Mem) (to from n : ℕ) → AreInLive M.table to n → AreInLive M.table from n → R M (after_copy M to from n)

-- of a relation of tables alone, which asks nothing of bytes
pub record TableChanges (F : Type 0) (Q : Table → Table → Type 0) : Type 0 where
  pub itself : {T : Table} → Q T T
  pub trans : {T U V : Table} → Q T U → Q U V → Q T V
  pub told : (T : Table) → Q T (record T { pending = [] })
  pub uses : (T : Table) (p : Prov) (t : Test) → Q T (after_use T p (use_answer T p t))
  pub meets : (T : Table) (p q : Prov) → IsMadeIn T p → IsMadeIn T q → Q T (after_same T p q)
  pub names : (T : Table) (a : ℕ) → Q T (after_name T a)
  pub exposes : (T : Table) (p : Prov) → Q T (expose T p)
  pub settles : (T : Table) (k : ℕ) (high : Bool) → keeps_both (twin_at T.pairs k) ≡ true → Q T (record T { pairs = after_narrowing T.pairs k (not high) high })
  pub places : (T : Table) (r : Request) → (F → 1 ≤ r.size) → Q T (place T r).1
  pub ends : (T : Table) (i : ℕ) → Q T (after_end T i)

abbrev pub OfTables : (Table → Table → Type 0) → Mem → Mem → Type 0
OfTables Q M N = Q M.table N.table

module _ {F : Type 0} (Q : Table → Table → Type 0) (changes : TableChanges F Q) where
  made-of : (M : Mem) (w : Result ℕ CreateError × Table) → Q M.table w.1 → OfTables Q M (with_new_bytes M w).1
  made-of M (Ok i, U) h = h
  made-of M (Err e, U) h = h

  pub of-tables : Changes F (OfTables Q)
  of-tables = record {
    itself = λ {M}. changes.itself;
    trans = λ h g. changes.trans h g;
    told = λ M. changes.told M.table;
    uses = λ M p t. changes.uses M.table p t;
    meets = λ M p q a b. changes.meets M.table p q a b;
    names = λ M a. changes.names M.table a;
    exposes = λ M p. changes.exposes M.table p;
    settles = λ M k high e. changes.settles M.table k high e;
    makes = λ M r some. made-of M (place M.table r) (changes.places M.table r some);
    ends = λ M i h. changes.ends M.table i;
    stores = λ M a bytes h g. changes.itself;
    copies = λ M to from n h g. changes.itself;
  }

-- where nothing is asked of the sizes of instances
pub of-all : {F : Type 0} {R : Mem → Mem → Type 0} → Changes ⊥ R → Changes F R
of-all changes = record {
  itself = λ {M}. changes.itself;
  trans = λ h g. changes.trans h g;
  told = λ M. changes.told M;
  uses = λ M p t. changes.uses M p t;
  meets = λ M p q a b. changes.meets M p q a b;
  names = λ M a. changes.names M a;
  exposes = λ M p. changes.exposes M p;
  settles = λ M k high e. changes.settles M k high e;
  makes = λ M r some. changes.makes M r (λ x. absurd x);
  ends = λ M i h. changes.ends M i h;
  stores = λ M a bytes h g. changes.stores M a bytes h g;
  copies = λ M to from n h g. changes.copies M to from n h g;
}

-- 7.1.1p1: the byte of a character: a value, and no name
pub record IsCharacter (x : Byte) : Type 0 where
  pub number : ℕ
  pub value : x.value ≡ Some number
  pub small : number < 256
  pub nameless : x.prov ≡ Empty

-- the ways in which a step of a call changes it
pub record Ways (R : Mem → Mem → Type 0) : Type 0 where
  pub itself : {M : Mem} → R M M
  pub trans : {M N O : Mem} → R M N → R N O → R M O
  pub told : (M : Mem) → R M (with_table M (record M.table { pending = [] }))
  pub uses : (M : Mem) (p : Prov) (t : Test) → R M (with_table M (after_use M.table p (use_answer M.table p t)))
  pub reaches : (M : Mem) (p : Pointer) (n align : ℕ) (write : Bool) (by : Asker) → R M (with_table M (reach M.table p n align write by).1)
  pub loads : (M : Mem) (bytes : List Byte) (t : Scalar) → R M (with_table M (value_of M.table bytes t).1)
  pub numbers : (M : Mem) (p : Pointer) (k : IntKind) → R M (with_table M (to_int M.table p k).1)
  -- 7.22.3p1: what is made is no function
  pub makes : (M : Mem) (r : Request) → 1 ≤ r.size → is_function r.kind ≡ false → R M (creation M r).1
  -- 7.22.3.3p2: only an allocation that lives ends
  pub ends : (M : Mem) (i : ℕ) → IsAllocation M.table i → R M (without M i)
  -- characters are stored, or bytes are copied whole, where a live instance has room for them
  pub stores : (M : Mem) (a : ℕ) (bytes : List Byte) → AreInLive M.table a (length bytes) → Each IsCharacter bytes → R M (with_bytes M a bytes)
  pub copies : (M : Mem) (to from n : ℕ) → AreInLive M.table to n → AreInLive M.table from n → R M (after_copy M to from n)

-- what is known of a step's answer
abbrev pub When : {A : Type 0} → (A → Type 0) → Result A Stop → Type 0
When P (Ok a) = P a
When P (Err y) = Unit {0}

module _ {R : Mem → Mem → Type 0} (w : Ways R) where
  -- a step of a call, from where it stands
  abbrev pub Steps : {A : Type 0} → Now → Did A → Type 0
  Steps S d = R S.memory d.after.memory

  next-by : {A B : Type 0} (S : Now) (r : Result A Stop) (d : Did A) (rest : A → Now → Did B) → Steps S d → ((a : A) (T : Now) → Steps T (rest a T)) → Steps S (next_by r d rest)
  next-by S (Ok a) d rest h g = w.trans h (g a d.after)
  next-by S (Err stop) d rest h g = h

  pub next-steps : {A B : Type 0} (S : Now) (d : Did A) (rest : A → Now → Did B) → Steps S d → ((a : A) (T : Now) → Steps T (rest a T)) → Steps S (next d rest)
  next-steps S d rest h g = next-by S d.answer d rest h g

  when-by : {A B : Type 0} (P : A → Now → Type 0) (S : Now) (r : Result A Stop) (d : Did A) (rest : A → Now → Did B) → Steps S d → When (λ a. P a d.after) r → ((a : A) (T : Now) → P a T → Steps T (rest a T)) → Steps S (next_by r d rest)
  when-by P S (Ok a) d rest h p g = w.trans h (g a d.after p)
  when-by P S (Err stop) d rest h p g = h

  pub when-steps : {A B : Type 0} (P : A → Now → Type 0) (S : Now) (d : Did A) (rest : A → Now → Did B) → Steps S d → When (λ a. P a d.after) d.answer → ((a : A) (T : Now) → P a T → Steps T (rest a T)) → Steps S (next d rest)
  when-steps P S d rest h p g = when-by P S d.answer d rest h p g

  about-by : {A : Type 0} (S : Now) (r : Result A Stop) (note : Note) (d : Did A) → Steps S d → Steps S (about_by r note d)
  about-by S (Ok a) note d h = h
  about-by S (Err stop) note d h = h

  pub about-steps : {A : Type 0} (S : Now) (note : Note) (d : Did A) → Steps S d → Steps S (about note d)
  about-steps S note d h = about-by S d.answer note d h

  pub step-if : {A : Type 0} (S : Now) (b : Bool) (d e : Did A) → Steps S d → Steps S e → Steps S (cond b d e)
  step-if S true d e h g = h
  step-if S false d e h g = g

  -- accesses (7.24.1p2, 7.1.4p1). A pointer with its note has a type of the library's own, which can't be named here: `_` stands for it
  pub reached-steps : (by : Asker) (write : Bool) (g : _) (n : ℕ) (S : Now) → Steps S (reach_for by write g n S)
  reached-steps by write g n S =
      about-steps S g.stopped (reached_by by write g n S (reach S.memory.table g.pointer n 1 write by)) (w.reaches S.memory g.pointer n 1 write by)

  -- characters (7.24.1p3)
  in-steps : (g : _) (a : ℕ) (S : Now) → Steps S (character_in g a S)
  in-steps g a S =
      about-steps S g.stopped (character_loaded S (load S.memory a (scalar.Int UChar)))
      (w.trans (w.loads S.memory (bytes_from S.memory.bytes a 1) (scalar.Int UChar)) (w.told (with_table S.memory (load S.memory a (scalar.Int UChar)).1)))

  pub at-steps : (by : Asker) (g : _) (i : ℕ) (S : Now) → Steps S (character_at by g i S)
  at-steps by g i S = next-steps S (reach_for by false (bytes_further g i) 1 S) _ (reached-steps by false (bytes_further g i) 1 S) (λ r T. in-steps g r.address T)

  pub row-steps : (n : ℕ) (g : _) (a : ℕ) (read : List ℕ) (S : Now) → Steps S (characters_from n g a read S)
  row-steps zero g a read S = w.itself
  row-steps (suc n) g a read S = next-steps S (character_in g a S) _ (in-steps g a S) (λ c T. row-steps n g (a + 1) (read ++ c ∷ []) T)

  -- strings (7.1.1p1)
  string-steps : (n : ℕ) (by : Asker) (g : _) (read : List ℕ) (S : Now) → Steps S (string_from n by g read S)
  string-steps zero by g read S = w.itself
  string-steps (suc n) by g read S =
      next-steps S (character_at by g (length read) S) _ (at-steps by g (length read) S) (λ c T. step-if T (eqb c 0) _ _ w.itself (string-steps n by g (read ++ c ∷ []) T))

  pub text-steps : (by : Asker) (g : _) (S : Now) → Steps S (string_at by g S)
  text-steps by g S = string-steps most by g [] S
