-- The steps of a call of the library (C17 7.1.4): what is noted of each, and the table that it leaves.
use Rattle.std.proofs.Common.{◌≡◌, ℕ, zero, suc, ◌+◌, ◌-◌, ◌^◌, min, pos, Bool, true, false, cond, eqb, List, [], ◌∷◌, ◌++◌, length, map, Option, Some, None, Result, Ok, Err, refl, sym, ap, ◌∙◌, append-nil, append_assoc, subst}
use Rattle.std.proofs.lemmas.Bool.{and_parts, false≢true}
use Rattle.pv_num.specs.declared.kinds.IntKind.{IntKind}
use Rattle.pv_num.specs.declared.kinds.IntKind.TheVariants.{UChar}
use Rattle.pv_fault.specs.declared.faults.Clause.{Clause}
use Rattle.pv_num.specs.Kinds.{fits_of}
use Rattle.pv_journal_laws.specs.Naming.{AreDistinct}
use Rattle.pv_prov.specs.declared.names.Prov.{Prov}
use Rattle.pv_prov.specs.declared.names.Prov.TheVariants as prov
use Rattle.pv_prov.specs.Names.{is_empty}
use Rattle.pv_inst.specs.declared.values.Test.{Test}
use Rattle.pv_inst.specs.declared.values.Test.TheVariants.{Live, Range}
use Rattle.pv_inst.specs.declared.values.Tried.{Tried}
use Rattle.pv_inst.specs.declared.values.Miss.{Miss}
use Rattle.pv_inst.specs.Table.{Table}
use Rattle.pv_inst.specs.Use.{use_answer, after_use, test_number}
use Rattle.pv_shadow.specs.declared.byte.Byte.{Byte}
use Rattle.pv_shadow.specs.Bytes.{bytes_from}
use Rattle.pv_object.specs.declared.values.Pointer.{Pointer}
use Rattle.pv_object.specs.declared.values.Reach.{Reach}
use Rattle.pv_object.specs.declared.values.Scalar.TheVariants as scalar
use Rattle.pv_object.specs.declared.values.Asker.{Asker}
use Rattle.pv_object.specs.declared.values.Stop.{Stop}
use Rattle.pv_object.specs.Memory.{Mem}
use Rattle.pv_object.specs.Access.{reach, reach_after, clause_of, is_null}
use Rattle.pv_shadow.specs.Whole.{number_in}
use Rattle.pv_object.specs.Loading.{load, integer_of, exposed_by}
use Rattle.pv_object.specs.Operations.{to_int, to_int_after, exposed_to}
use Rattle.pv_libc.specs.declared.values.Note.{Note}
use Rattle.pv_libc.specs.declared.values.Note.TheVariants as note
use Rattle.pv_libc.specs.Steps.{Now, Did, next, next_by, about, about_by, with_more_notes, in_memory, in_table, use_notes as noted_use, with_exposures, reach_for, reached_by}
use Rattle.pv_libc.specs.Characters.{character_in, character_loaded, character_at, characters_from, string_from, most, string_at}
use Rattle.pv_watch.specs.declared.event.What.TheVariants as what
use Rattle.pv_world.specs.Telling.{uses, each_exposed, exposures, all_told}
use Rattle.pv_world.specs.ObjectParts.{used_pair}
use Rattle.pv_eval.specs.Library.{noted_as}
use Rattle.pv_eval.specs.LibraryParts.{all_noted}
use Rattle.pv_exec.proofs.Memory.Rows.{Leads, led-itself, led-trans}
use Rattle.pv_journal_laws.proofs.Telling.{IsNumbered}
use Rattle.pv_journal_laws.proofs.Changes.{Tells, Showing, tells-itself, tells-trans, tells-exposures, showing-itself, use-tells, expose-shows}
use Rattle.pv_journal_laws.proofs.Numbering.{Named}
use Rattle.pv_journal_laws.proofs.Accesses.{exposed-shows}

-- ---- notes as events

noted-append : (V : Table) (ns ms : List Note) → all_noted V (ns ++ ms) ≡ all_noted V ns ++ all_noted V ms
noted-append V [] ms = refl
noted-append V (n ∷ ns) ms = ap (λ l. noted_as V n ++ l) (noted-append V ns ms) ∙ sym (append_assoc (noted_as V n) (all_noted V ns) (all_noted V ms))

noted-exposed : (V : Table) (is : List ℕ) → all_noted V (map note.Exposed is) ≡ each_exposed is
noted-exposed V [] = refl
noted-exposed V (i ∷ is) = ap (λ l. what.Exposed i ∷ l) (noted-exposed V is)

noted-uses : (V : Table) (r : Result Tried Miss) (n : ℕ) → all_noted V (noted_use r n) ≡ uses n r
noted-uses V (Err m) n = refl
noted-uses V (Ok tried) n = by tried.pair tried.low tried.high
  where
    by : (o : Option ℕ) (l h : Bool) → all_noted V (noted_use (Ok (record { pair = o; low = l; high = h })) n) ≡ used_pair o n (record { pair = o; low = l; high = h })
    by None l h = refl
    by (Some k) l h = refl

-- a note of the pointer whose check stops the call is no event
abbrev pub IsStopped : Note → Type 0
IsStopped (note.Made i) = ⊥
IsStopped (note.Ended i) = ⊥
IsStopped (note.Exposed i) = ⊥
IsStopped (note.Used tried test) = ⊥
IsStopped (note.Stopped low high pair) = Unit {0}

stopped-as : (V : Table) (n : Note) → IsStopped n → all_noted V (n ∷ []) ≡ []
stopped-as V (note.Made i) h = absurd h
stopped-as V (note.Ended i) h = absurd h
stopped-as V (note.Exposed i) h = absurd h
stopped-as V (note.Used tried test) h = absurd h
stopped-as V (note.Stopped low high pair) h = refl

-- ---- from one moment of a call to a later one

-- more is noted, which tells of the change of the table, whatever table it is told by that comes later
pub record Goes (names : List (List ℕ)) (turn : ℕ) (S S' : Now) : Type 0 where
  pub more : List Note
  pub notes : S'.notes ≡ S.notes ++ more
  pub named : Named S.memory.bytes → Named S'.memory.bytes
  pub tells : S.memory.table.pending ≡ [] → (V : Table) → Leads (Unit {0}) S'.memory.table V → Tells names turn S.memory.table (all_noted V more) S'.memory.table

pub goes-itself : {names : List (List ℕ)} {turn : ℕ} {S : Now} → Goes names turn S S
goes-itself {names} {turn} {S} = record { more = []; notes = sym (append-nil S.notes); named = λ n. n; tells = λ none V l. tells-itself }

pub goes-trans : {names : List (List ℕ)} {turn : ℕ} {S T U : Now} → Goes names turn S T → Goes names turn T U → Goes names turn S U
goes-trans {names} {turn} {S} {T} {U} h g = record {
  more = h.more ++ g.more;
  notes = g.notes ∙ ap (λ l. l ++ g.more) h.notes ∙ append_assoc S.notes h.more g.more;
  named = λ n. g.named (h.named n);
  tells = λ none V l.
      let here = (h.tells none T.memory.table led-itself).pending ∙ none in
      let later = g.tells here V l in
      subst (λ es. Tells names turn S.memory.table es U.memory.table) (sym (noted-append V h.more g.more)) (tells-trans (h.tells none V (led-trans later.led l)) later);
}

-- a step that notes these, and leaves this table
pub noted-goes : {names : List (List ℕ)} {turn : ℕ} (S : Now) (ns : List Note) (U : Table) → (S.memory.table.pending ≡ [] → (V : Table) → Leads (Unit {0}) U V → Tells names turn S.memory.table (all_noted V ns) U)
    → Goes names turn S (with_more_notes ns (in_table S U))
noted-goes S ns U t = record { more = ns; notes = refl; named = λ n. n; tells = t }

module _ (names : List (List ℕ)) (distinct : AreDistinct names) (turn : ℕ) where
  -- a step of a call, from where it stands
  abbrev pub Steps : {A : Type 0} → Now → Did A → Type 0
  Steps S d = Goes names turn S d.after

  next-by : {A B : Type 0} (S : Now) (r : Result A Stop) (d : Did A) (rest : A → Now → Did B) → Steps S d → ((a : A) → r ≡ Ok a → Steps d.after (rest a d.after)) → Steps S (next_by r d rest)
  next-by S (Ok a) d rest h g = goes-trans h (g a refl)
  next-by S (Err stop) d rest h g = h

  -- what comes next may know what it was that was answered
  pub next-known : {A B : Type 0} (S : Now) (d : Did A) (rest : A → Now → Did B) → Steps S d → ((a : A) → d.answer ≡ Ok a → Steps d.after (rest a d.after)) → Steps S (next d rest)
  next-known S d rest h g = next-by S d.answer d rest h g

  pub next-steps : {A B : Type 0} (S : Now) (d : Did A) (rest : A → Now → Did B) → Steps S d → ((a : A) (T : Now) → Steps T (rest a T)) → Steps S (next d rest)
  next-steps S d rest h g = next-known S d rest h (λ a e. g a d.after)

  -- the note of the pointer whose check stops the call
  pub stopped-goes : (S : Now) (n : Note) → IsStopped n → Goes names turn S (with_more_notes (n ∷ []) S)
  stopped-goes S n h = record { more = n ∷ []; notes = refl; named = λ n. n; tells = λ none V l. subst (λ es. Tells names turn S.memory.table es S.memory.table) (sym (stopped-as V n h)) tells-itself }

  about-by : {A : Type 0} (S : Now) (r : Result A Stop) (n : Note) (d : Did A) → IsStopped n → Steps S d → Steps S (about_by r n d)
  about-by S (Ok a) n d s h = h
  about-by S (Err stop) n d s h = goes-trans h (stopped-goes d.after n s)

  pub about-steps : {A : Type 0} (S : Now) (n : Note) (d : Did A) → IsStopped n → Steps S d → Steps S (about n d)
  about-steps S n d s h = about-by S d.answer n d s h

  pub step-if : {A : Type 0} (S : Now) (b : Bool) (d e : Did A) → Steps S d → Steps S e → Steps S (cond b d e)
  step-if S true d e h g = h
  step-if S false d e h g = g

  -- bytes that become others
  pub bytes-goes : (S : Now) (M : Mem) → M.table ≡ S.memory.table → (Named S.memory.bytes → Named M.bytes) → Goes names turn S (in_memory S M)
  bytes-goes S M same named = record {
    more = [];
    notes = sym (append-nil S.notes);
    named = named;
    tells = λ none V l. subst (λ T. Tells names turn S.memory.table [] T) (sym same) tells-itself;
  }

  -- a use
  pub use-goes : (S : Now) (p : Prov) (t : Test) → IsNumbered p → Goes names turn S (with_more_notes (noted_use (use_answer S.memory.table p t) (test_number t)) (in_table S (after_use S.memory.table p (use_answer S.memory.table p t))))
  use-goes S p t n =
      let T = S.memory.table in
      noted-goes S (noted_use (use_answer T p t) (test_number t)) (after_use T p (use_answer T p t))
      (λ none V l. subst (λ es. Tells names turn T es (after_use T p (use_answer T p t))) (sym (noted-uses V (use_answer T p t) (test_number t))) (use-tells names distinct turn T p t n))

  -- accesses (7.24.1p2, 7.1.4p1): the use settles the name, where there is one
  missed : (T : Table) (p : Prov) (m : Miss) → after_use T p (Err m) ≡ T
  missed T prov.Empty m = refl
  missed T (prov.Inst i) m = refl
  missed T (prov.Pair k) m = refl

  nothing : (T : Table) (p : Prov) (r : Result Tried Miss) → is_empty p ≡ true → after_use T p r ≡ T
  nothing T prov.Empty r e = refl
  nothing T (prov.Inst i) r e = absurd (false≢true e)
  nothing T (prov.Pair k) r e = absurd (false≢true e)

  after-table : (T : Table) (p : Pointer) (n align : ℕ) (write : Bool) (c : Clause) (r : Result Tried Miss) → (reach_after T p n align write c r).1 ≡ after_use T p.prov r
  after-table T p n align write c (Err m) = sym (missed T p.prov m)
  after-table T p n align write c (Ok tried) = refl

  pair-if : {A : Type 0} (b : Bool) (T : Table) (x y : A × Table) → (b ≡ true → x.1 ≡ T) → (b ≡ false → y.1 ≡ T) → (cond b x y).1 ≡ T
  pair-if true T x y h g = h refl
  pair-if false T x y h g = g refl

  reach-table : (T : Table) (p : Pointer) (n align : ℕ) (write : Bool) (by : Asker) → (reach T p n align write by).1 ≡ after_use T p.prov (use_answer T p.prov (Range p.address n))
  reach-table T p n align write by =
      let r = use_answer T p.prov (Range p.address n) in
      pair-if (is_null p) (after_use T p.prov r) _ _ (λ e. sym (nothing T p.prov r (and_parts (eqb p.address 0) (is_empty p.prov) e).1))
      (λ e. pair-if (is_empty p.prov) (after_use T p.prov r) _ _ (λ e. sym (nothing T p.prov r e)) (λ e. after-table T p n align write (clause_of by) r))

  pub reached-steps : (by : Asker) (write : Bool) (p : Pointer) (m : Note) (n : ℕ) (S : Now) → IsNumbered p.prov → IsStopped m → Steps S (reach_for by write (record { pointer = p; stopped = m }) n S)
  reached-steps by write p m n S numbered s =
      let T = S.memory.table in
      let r = use_answer T p.prov (Range p.address n) in
      about-steps S m (reached_by by write (record { pointer = p; stopped = m }) n S (reach T p n 1 write by)) s
      (subst (λ U. Goes names turn S (with_more_notes (noted_use r (test_number (Range p.address n))) (in_table S U))) (sym (reach-table T p n 1 write by)) (use-goes S p.prov (Range p.address n) numbered))

  -- characters (7.24.1p3): what becomes exposed is told at once
  told-goes : (S : Now) (U : Table) → (S.memory.table.pending ≡ [] → Tells names turn S.memory.table (exposures U) (all_told U)) → Goes names turn S (with_exposures (in_table S U))
  told-goes S U t = record {
    more = map note.Exposed U.pending;
    notes = refl;
    named = λ n. n;
    tells = λ none V l. subst (λ es. Tells names turn S.memory.table es (all_told U)) (sym (noted-exposed V U.pending)) (t none);
  }

  character-table : (T : Table) (bytes : List Byte) (o : Option ℕ) → (integer_of T UChar bytes o).1 ≡ exposed_by T bytes
  character-table T bytes None = refl
  character-table T bytes (Some n) = refl

  pub in-steps : (p : Pointer) (m : Note) (a : ℕ) (S : Now) → IsStopped m → Steps S (character_in (record { pointer = p; stopped = m }) a S)
  in-steps p m a S s =
      let T = S.memory.table in
      let bytes = bytes_from S.memory.bytes a 1 in
      about-steps S m (character_loaded S (load S.memory a (scalar.Int UChar))) s
      (subst (λ U. Goes names turn S (with_exposures (in_table S U))) (sym (character-table T bytes (number_in bytes)))
      (told-goes S (exposed_by T bytes) (λ none. tells-exposures none tells-itself (exposed-shows names distinct turn T bytes))))

  pub at-steps : (by : Asker) (p : Pointer) (m : Note) (i : ℕ) (S : Now) → IsNumbered p.prov → IsStopped m → Steps S (character_at by (record { pointer = p; stopped = m }) i S)
  at-steps by p m i S n s =
      let q : Pointer = record p { address = min (p.address + i) (2 ^ 64 - 1) } in
      next-steps S (reach_for by false (record { pointer = q; stopped = m }) 1 S) (λ r T. character_in (record { pointer = p; stopped = m }) r.address T) (reached-steps by false q m 1 S n s)
      (λ (r : Reach) (T : Now). in-steps p m r.address T s)

  pub row-steps : (n : ℕ) (p : Pointer) (m : Note) (a : ℕ) (read : List ℕ) (S : Now) → IsStopped m → Steps S (characters_from n (record { pointer = p; stopped = m }) a read S)
  row-steps zero p m a read S s = goes-itself
  row-steps (suc n) p m a read S s = next-steps S (character_in (record { pointer = p; stopped = m }) a S) _ (in-steps p m a S s) (λ c T. row-steps n p m (a + 1) (read ++ c ∷ []) T s)

  -- strings (7.1.1p1)
  string-steps : (n : ℕ) (by : Asker) (p : Pointer) (m : Note) (read : List ℕ) (S : Now) → IsNumbered p.prov → IsStopped m → Steps S (string_from n by (record { pointer = p; stopped = m }) read S)
  string-steps zero by p m read S h s = stopped-goes S m s
  string-steps (suc n) by p m read S h s =
      next-steps S (character_at by (record { pointer = p; stopped = m }) (length read) S) _ (at-steps by p m (length read) S h s)
      (λ c T. step-if T (eqb c 0) _ _ goes-itself (string-steps n by p m (read ++ c ∷ []) T h s))

  pub text-steps : (by : Asker) (p : Pointer) (m : Note) (S : Now) → IsNumbered p.prov → IsStopped m → Steps S (string_at by (record { pointer = p; stopped = m }) S)
  text-steps by p m S h s = string-steps most by p m [] S h s

  -- an address that is printed (7.21.6.1p8)
  int-shows : (T : Table) (p : Pointer) (k : IntKind) (r : Result Tried Miss) → Showing names turn (after_use T p.prov r) (to_int_after T p k r).1
  int-shows T p k (Err m) = subst (λ U. Showing names turn U T) (sym (missed T p.prov m)) showing-itself
  int-shows T p k (Ok tried) = by (fits_of k (pos p.address))
    where
      by : (b : Bool) → Showing names turn (after_use T p.prov (Ok tried)) (exposed_to (after_use T p.prov (Ok tried)) p b tried).1
      by true = expose-shows names distinct turn (after_use T p.prov (Ok tried)) p.prov
      by false = showing-itself

  pub int-steps : (p : Pointer) (k : IntKind) (S : Now) → IsNumbered p.prov
      → Goes names turn S (with_exposures (with_more_notes (noted_use (use_answer S.memory.table p.prov Live) (test_number Live)) (in_table S (to_int S.memory.table p k).1)))
  int-steps p k S n =
      let T = S.memory.table in
      let r = use_answer T p.prov Live in
      let U = (to_int T p k).1 in
      record {
        more = noted_use r (test_number Live) ++ map note.Exposed U.pending;
        notes = append_assoc S.notes (noted_use r (test_number Live)) (map note.Exposed U.pending);
        named = λ n. n;
        tells = λ none V l.
            subst (λ es. Tells names turn T es (all_told U)) (sym (noted-append V (noted_use r (test_number Live)) (map note.Exposed U.pending) ∙ ap (λ es. es ++ all_noted V (map note.Exposed U.pending)) (noted-uses V r (test_number Live)) ∙ ap (λ es. uses (test_number Live) r ++ es) (noted-exposed V U.pending)))
            (tells-exposures none (use-tells names distinct turn T p.prov Live n) (int-shows T p k r));
      }
