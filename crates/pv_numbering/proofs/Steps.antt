-- Steps of a call of the library in stores that are alike (C17 7.1.4): what each answers and notes is the same.
use Rattle.std.proofs.Common.{◌≡◌, ℕ, zero, suc, ◌+◌, ◌==◌, Bool, true, false, List, [], ◌∷◌, ◌++◌, length, Result, Ok, Err, if◌then◌else◌, refl, sym, ap, subst}
use Rattle.pv_num.specs.declared.kinds.IntKind.TheVariants.{UChar}
use Rattle.pv_types.specs.Known.{Known}
use Rattle.pv_inst.specs.Table.{Table}
use Rattle.pv_shadow.specs.Bytes.{Store, bytes_from}
use Rattle.pv_object.specs.declared.values.Reach.{Reach}
use Rattle.pv_object.specs.declared.values.Scalar.TheVariants as scalar
use Rattle.pv_object.specs.declared.values.Stop.{Stop}
use Rattle.pv_object.specs.declared.values.Asker.{Asker}
use Rattle.pv_object.specs.Encoding.{size_of}
use Rattle.pv_object.specs.Access.{reach}
use Rattle.pv_object.specs.Loading.{Loaded, load}
use Rattle.pv_libc.specs.declared.values.Note.{Note}
use Rattle.pv_libc.specs.Steps.{Now, Did, answer_now, stop_now, next_by, next, about_by, about, reached_by, reach_for, bytes_further}
use Rattle.pv_libc.specs.Characters.{character_loaded, character_in, character_at, characters_from, too_far, string_from, string_at, most}
use Rattle.pv_numbering.proofs.Marks.{AlikeStores}
use Rattle.pv_numbering.proofs.Bytes.{alike_read}
use Rattle.pv_numbering.proofs.Loading.{value-same}

-- where a call stands, with other bytes
abbrev pub at_bytes : Now → Store → Now
at_bytes S b = record S { memory = record S.memory { bytes = b } }

-- the same answer, and what is left differs in bytes alone, which are alike
pub record AlikeDid (m m' : Known) (A : Type 0) (d d' : Did A) : Type 0 where
  pub bytes : Store
  pub is : d' ≡ record { answer = d.answer; after = at_bytes d.after bytes }
  pub alike : AlikeStores m m' d.after.memory.bytes bytes

module _ (m m' : Known) where
  -- a step that is alike on bytes that are
  abbrev pub Keeps : (A : Type 0) → (Now → Did A) → Type 0
  Keeps A f = (S : Now) (b : Store) → AlikeStores m m' S.memory.bytes b → AlikeDid m m' A (f S) (f (at_bytes S b))

  pub done-keeps : (A : Type 0) (a : A) → Keeps A (answer_now a)
  done-keeps A a S b h = record { bytes = b; is = refl; alike = h }

  pub halted-keeps : (A : Type 0) (y : Stop) → Keeps A (stop_now y)
  halted-keeps A y S b h = record { bytes = b; is = refl; alike = h }

  pub either-keeps : (A : Type 0) (c : Bool) (d d' e e' : Did A) → AlikeDid m m' A d d' → AlikeDid m m' A e e' → AlikeDid m m' A (if c then d else e) (if c then d' else e')
  either-keeps A true d d' e e' h g = h
  either-keeps A false d d' e e' h g = g

  next_by-alike : (A B : Type 0) (r : Result A Stop) (d : Did A) (b : Store) (go : A → Now → Did B) → AlikeStores m m' d.after.memory.bytes b → ((a : A) → Keeps B (go a))
      → AlikeDid m m' B (next_by r d go) (next_by r (record { answer = d.answer; after = at_bytes d.after b }) go)
  next_by-alike A B (Ok a) d b go h k = k a d.after b h
  next_by-alike A B (Err y) d b go h k = record { bytes = b; is = refl; alike = h }

  pub next-alike : (A B : Type 0) (d d' : Did A) (go : A → Now → Did B) → AlikeDid m m' A d d' → ((a : A) → Keeps B (go a)) → AlikeDid m m' B (next d go) (next d' go)
  next-alike A B d d' go h k = subst (λ x. AlikeDid m m' B (next d go) (next x go)) (sym h.is) (next_by-alike A B d.answer d h.bytes go h.alike k)

  about_by-alike : (A : Type 0) (note : Note) (r : Result A Stop) (d : Did A) (b : Store) → AlikeStores m m' d.after.memory.bytes b
      → AlikeDid m m' A (about_by r note d) (about_by r note (record { answer = d.answer; after = at_bytes d.after b }))
  about_by-alike A note (Ok a) d b h = record { bytes = b; is = refl; alike = h }
  about_by-alike A note (Err y) d b h = record { bytes = b; is = refl; alike = h }

  pub about-alike : (A : Type 0) (note : Note) (d d' : Did A) → AlikeDid m m' A d d' → AlikeDid m m' A (about note d) (about note d')
  about-alike A note d d' h = subst (λ x. AlikeDid m m' A (about note d) (about note x)) (sym h.is) (about_by-alike A note d.answer d h.bytes h.alike)

  -- 7.24.1p2, 7.1.4p1: the checks of an access look at the table alone. (A pointer with its note has a type of the library's own, which can't be
  -- named here: `_` stands for it.)
  pub reached-keeps : (by : Asker) (write : Bool) (g : _) (n : ℕ) → Keeps Reach (reach_for by write g n)
  reached-keeps by write g n S b h =
      let r : Result Reach Stop × Table = reach S.memory.table g.pointer n 1 write by in
      about-alike Reach g.stopped (reached_by by write g n S r) (reached_by by write g n (at_bytes S b) r) (record { bytes = b; is = refl; alike = h })

  -- 7.24.1p3: characters
  loaded-alike : (S : Now) (b : Store) (r r' : Loaded) → r' ≡ r → AlikeStores m m' S.memory.bytes b → AlikeDid m m' ℕ (character_loaded S r) (character_loaded (at_bytes S b) r')
  loaded-alike S b r r' e h = record { bytes = b; is = ap (character_loaded (at_bytes S b)) e; alike = h }

  pub character_in-keeps : (g : _) (a : ℕ) → Keeps ℕ (character_in g a)
  character_in-keeps g a S b h =
      let n : ℕ = size_of (scalar.Int UChar) in
      about-alike ℕ g.stopped _ _ (loaded-alike S b (load S.memory a (scalar.Int UChar)) (load (at_bytes S b).memory a (scalar.Int UChar))
      (value-same m m' S.memory.table (scalar.Int UChar) (bytes_from S.memory.bytes a n) (bytes_from b a n) (alike_read m m' S.memory.bytes b a n h)) h)

  pub character_at-keeps : (by : Asker) (g : _) (i : ℕ) → Keeps ℕ (character_at by g i)
  character_at-keeps by g i S b h = next-alike Reach ℕ _ _ (λ r T. character_in g r.address T) (reached-keeps by false (bytes_further g i) 1 S b h) (λ r. character_in-keeps g r.address)

  pub characters-keep : (n : ℕ) (g : _) (a : ℕ) (read : List ℕ) → Keeps (List ℕ) (characters_from n g a read)
  characters-keep zero g a read S b h = done-keeps (List ℕ) read S b h
  characters-keep (suc n) g a read S b h =
      next-alike ℕ (List ℕ) _ _ (λ c T. characters_from n g (a + 1) (read ++ c ∷ []) T) (character_in-keeps g a S b h) (λ c. characters-keep n g (a + 1) (read ++ c ∷ []))

  -- 7.1.1p1: strings
  pub too_far-keeps : (A : Type 0) (by : Asker) (g : _) → Keeps A (too_far by g)
  too_far-keeps A by g S b h = record { bytes = b; is = refl; alike = h }

  strings-keep : (k : ℕ) (by : Asker) (g : _) (read : List ℕ) → Keeps (List ℕ) (string_from k by g read)
  strings-keep zero by g read S b h = too_far-keeps (List ℕ) by g S b h
  strings-keep (suc k) by g read S b h =
      next-alike ℕ (List ℕ) _ _ (λ c T. if c == 0 then answer_now read T else string_from k by g (read ++ c ∷ []) T) (character_at-keeps by g (length read) S b h)
      (λ c T b h. either-keeps (List ℕ) (c == 0) _ _ _ _ (done-keeps (List ℕ) read T b h) (strings-keep k by g (read ++ c ∷ []) T b h))

  pub string-keeps : (by : Asker) (g : _) → Keeps (List ℕ) (string_at by g)
  string-keeps by g = strings-keep most by g []
