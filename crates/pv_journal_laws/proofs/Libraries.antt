-- Each call of the library notes what tells of the change of the table (C17 7.21.6, 7.22.3, 7.24).
use Rattle.std.proofs.Common.{◌≡◌, ℕ, zero, suc, ◌+◌, ◌*◌, ◌≤◌, ◌<◌, min, ℤ, Bool, true, false, ◌&&◌, not, cond, eqb, List, [], ◌∷◌, ◌++◌, codes, length, map, replicate, Option, Some, None, Result, Ok, Err, IsSomeAnd, IsTrue, refl, sym, ap, ◌∙◌, append-nil, subst, arith}
use Rattle.std.proofs.lemmas.Bool.Decides.{nat_tests}
use Rattle.std.proofs.lemmas.Option.{none-some}
use Rattle.pv_fault.specs.declared.faults.Clause.{Clause}
use Rattle.pv_fault.specs.declared.faults.Clause.TheVariants as clause
use Rattle.pv_fault.specs.declared.faults.Reason.TheVariants as reason
use Rattle.pv_num.specs.declared.kinds.IntKind.TheVariants.{UChar}
use Rattle.pv_num.specs.Kinds.{bits_of}
use Rattle.pv_script.specs.Words.{is_name}
use Rattle.pv_script.specs.Names.{name_at}
use Rattle.pv_journal_laws.specs.Naming.{AreDistinct}
use Rattle.pv_prov.specs.declared.names.Prov.{Prov}
use Rattle.pv_prov.specs.declared.names.Prov.TheVariants as prov
use Rattle.pv_prov.specs.Names.{stands}
use Rattle.pv_inst.specs.declared.values.Info.{Info}
use Rattle.pv_inst.specs.declared.values.Instance.{Instance}
use Rattle.pv_inst.specs.declared.values.Test.TheVariants.{Block}
use Rattle.pv_inst.specs.declared.values.Tried.{Tried}
use Rattle.pv_inst.specs.declared.values.Miss.{Miss}
use Rattle.pv_inst.specs.declared.values.CreateError.{CreateError}
use Rattle.pv_inst.specs.declared.values.CreateError.TheVariants as error
use Rattle.pv_inst.specs.Table.{Table, instance_at}
use Rattle.pv_inst.specs.Use.{use_answer, after_use}
use Rattle.pv_inst.specs.Infos.{info_of}
use Rattle.pv_inst.specs.Ending.{after_end}
use Rattle.pv_inst.specs.Answers.{IsLive}
use Rattle.pv_inst.specs.Placing.{Request, place}
use Rattle.pv_shadow.specs.declared.byte.Byte.{Byte}
use Rattle.pv_shadow.specs.Bytes.{bytes_from}
use Rattle.pv_object.specs.declared.values.Asker.TheVariants.{Text}
use Rattle.pv_object.specs.declared.values.Pointer.{Pointer}
use Rattle.pv_object.specs.declared.values.Reach.{Reach}
use Rattle.pv_object.specs.declared.values.Stop.{Stop}
use Rattle.pv_object.specs.declared.values.Value.{Value}
use Rattle.pv_object.specs.declared.values.Value.TheVariants as value
use Rattle.pv_object.specs.Memory.{Mem}
use Rattle.pv_object.specs.Access.{fault, is_null, first_survivor}
use Rattle.pv_object.specs.Creating.{creation, with_new_bytes as made_in, without}
use Rattle.pv_object.specs.Copying.{with_bytes, after_copy}
use Rattle.pv_object.proofs.Born.{born}
use Rattle.pv_library.specs.declared.library.Library.{Library}
use Rattle.pv_library.specs.declared.library.Library.TheVariants as library
use Rattle.pv_libc.specs.declared.values.Arg.{Arg}
use Rattle.pv_libc.specs.declared.values.Note.{Note}
use Rattle.pv_libc.specs.declared.values.Note.TheVariants as note
use Rattle.pv_libc.specs.declared.values.Reply.{Reply}
use Rattle.pv_libc.specs.declared.values.Reply.TheVariants as reply
use Rattle.pv_libc.specs.Steps.{Now, Did, answer_now, stop_now, about_by, with_more_notes, in_memory, reach_for, with_notes}
use Rattle.pv_libc.specs.Characters.{character_at, characters_from, most, string_at}
use Rattle.pv_libc.specs.Blocks.{copy, memset, memcmp, after_filling, plain_byte, share, answers, difference}
use Rattle.pv_libc.specs.Strings.{strlen, compared_from, strcpy}
use Rattle.pv_libc.specs.StringParts.{compared_by}
use Rattle.pv_libc.specs.Heap.{null, told_of, grant_of, request_of_bytes, pointer_or_null, malloc, pointer_to_zeros, calloc, block_in, the_block, block_answer, block_by, block, end_of_block, free, after_block_copy, reply_after_move, resize_of, realloc}
use Rattle.pv_libc.specs.HeapParts.{heap_request, with_zeros}
use Rattle.pv_libc.specs.Calls.{pointer, pointer_in, number, size, stop_note, called_in, reply_to_call}
use Rattle.pv_libc.proofs.Filling.{all_filled}
use Rattle.pv_libc.proofs.Kept.{created_live}
use Rattle.pv_watch.specs.declared.event.What.TheVariants as what
use Rattle.pv_world.specs.Telling.{event_of_making}
use Rattle.pv_world.specs.ObjectParts.{made_row}
use Rattle.pv_eval.specs.LibraryParts.{all_noted}
use Rattle.pv_exec.specs.Staying.{Remains}
use Rattle.pv_exec.proofs.Memory.Rows.{Leads}
use Rattle.pv_journal_laws.proofs.Telling.{IsNumbered}
use Rattle.pv_journal_laws.proofs.Changes.{Tells, ends-tells}
use Rattle.pv_journal_laws.proofs.Requests.{IsAsked, Creates, created-tells}
use Rattle.pv_journal_laws.proofs.Numbering.{AreNumbered, Named, IsNumberedValue, named_written, read_numbered, same_numbered, each_numbered, created_named, without_named}
use Rattle.pv_journal_laws.proofs.Noting.{IsStopped, Goes, goes-itself, Steps, next-known, next-steps, about-steps, step-if, bytes-goes, stopped-goes, use-goes, reached-steps, at-steps, row-steps, text-steps}
use Rattle.pv_journal_laws.proofs.Printing.{AreNumberedArguments, printf-steps}

-- ---- the instance that is made

-- it is there, and is the same ever after
made_later : (N V : Table) (i : ℕ) (x : Instance) → instance_at N.instances i ≡ Some x → Leads (Unit {0}) N V → event_of_making V i ≡ event_of_making N i
made_later N V i x at l = by (instance_at V.instances i) (subst (λ o. Remains o (instance_at V.instances i)) at (l.remain i)) refl ∙ ap (made_row i) (sym at)
  where
    by : (o : Option Instance) → Remains (Some x) o → instance_at V.instances i ≡ o → made_row i (instance_at V.instances i) ≡ what.Made i x.name x.k x.base x.size ∷ []
    by None h e = absurd h
    by (Some y) h e = ap (made_row i) e ∙ (λ n. what.Made i (h.name n) (h.k n) (h.base n) (h.size n) ∷ [])

-- where a request is granted the instance is there
record IsThere (T : Table) (i : ℕ) : Type 0 where
  inst : Instance
  is : instance_at T.instances i ≡ Some inst

made_there : (M : Mem) (r : Request) (w : Result ℕ CreateError × Table) (i : ℕ) → place M.table r ≡ w → (made_in M w).0 ≡ Ok i → IsThere (made_in M w).1.table i
made_there M r ((Ok j), U) i e h =
    let b = born M.table U r j (sym (ap (λ (w : Result ℕ CreateError × Table). w.0) e)) (sym (ap (λ (w : Result ℕ CreateError × Table). w.1) e)) in
    let same : j ≡ i = ap (number_in j) h in
    record { inst = b.inst; is = ap (instance_at U.instances) (sym same) ∙ b.is }
  where
    number_in : ℕ → Result ℕ CreateError → ℕ
    number_in d (Ok n) = n
    number_in d (Err y) = d
made_there M r ((Err y), U) i e h = absurd (cc)

created_there : (M : Mem) (r : Request) (i : ℕ) → (creation M r).0 ≡ Ok i → IsThere (creation M r).1.table i
created_there M r i h = made_there M r (place M.table r) i refl h

-- a live instance
record Lives (T : Table) (i : ℕ) : Type 0 where
  inst : Instance
  is : instance_at T.instances i ≡ Some inst
  live : inst.live ≡ true

lives_by : (T : Table) (i : ℕ) (o : Option Instance) → instance_at T.instances i ≡ o → IsSomeAnd o (λ (x : Instance). IsTrue x.live) → Lives T i
lives_by T i None e h = absurd h
lives_by T i (Some x) e h = record { inst = x; is = e; live = h }

lives_of : (T : Table) (i : ℕ) → IsLive T.instances i → Lives T i
lives_of T i h = lives_by T i (instance_at T.instances i) refl h

is_live_of : (T : Table) (i : ℕ) → Lives T i → IsLive T.instances i
is_live_of T i l = subst (λ o. IsSomeAnd o (λ (x : Instance). IsTrue x.live)) (sym l.is) l.live

-- what is told of an instance that lives
info_lives : (T : Table) (i : ℕ) (x : Info) → info_of (instance_at T.instances i) ≡ Some x → Lives T i
info_lives T i x e = by (instance_at T.instances i) refl e
  where
    lives : (y : Instance) → instance_at T.instances i ≡ Some y → (b : Bool) → y.live ≡ b → cond b (Some (record { name = y.name; k = y.k; base = y.base; size = y.size; kind = y.kind; exposed = y.exposed })) None ≡ Some x → Lives T i
    lives y at true l e = record { inst = y; is = at; live = l }
    lives y at false l e = absurd (none-some x e)

    by : (o : Option Instance) → instance_at T.instances i ≡ o → info_of o ≡ Some x → Lives T i
    by None at e = absurd (none-some x e)
    by (Some y) at e = lives y at y.live refl e

-- the allocation that a pointer was found to mean lives
block_lives : (c : Clause) (M : Mem) (o : Option ℕ) (i : ℕ) → the_block c M o ≡ Ok i → Lives M.table i
block_lives c M None i e = absurd (cc)
block_lives c M (Some j) i e = by (told_of M j) refl e
  where
    number_in : ℕ → Result ℕ Stop → ℕ
    number_in d (Ok n) = n
    number_in d (Err y) = d

    by : (o : Option Info) → told_of M j ≡ o → block_in c j o ≡ Ok i → Lives M.table i
    by None t e = absurd (cc)
    by (Some x) t e = let same : j ≡ i = ap (number_in j) e in subst (Lives M.table) same (info_lives M.table j x t)

answer_lives : (c : Clause) (M : Mem) (p : Pointer) (r : Result Tried Miss) (i : ℕ) → block_answer c M p r ≡ Ok i → Lives M.table i
answer_lives c M p (Ok tried) i e = block_lives c M (first_survivor (stands M.table.pairs p.prov) tried) i e
answer_lives c M p (Err m) i e = absurd (cc)

settled_lives : (T : Table) (p : Prov) (r : Result Tried Miss) (i : ℕ) → Lives T i → Lives (after_use T p r) i
settled_lives T prov.Empty r i l = l
settled_lives T (prov.Inst j) r i l = l
settled_lives T (prov.Pair k) (Ok tried) i l = record { inst = l.inst; is = l.is; live = l.live }
settled_lives T (prov.Pair k) (Err m) i l = l

some-size : (n : ℕ) → eqb n 0 ≡ false → 1 ≤ n
some-size n e = grind (arith, nat_tests)

-- an allocation's name
pub record HasHeapName (names : List (List ℕ)) : Type 0 where
  pub there : 1 < length names
  pub text : name_at names 1 ≡ codes "@heap"

heap_asked : (names : List (List ℕ)) → HasHeapName names → (n : ℕ) → 1 ≤ n → IsAsked names (heap_request n)
heap_asked names h n some = record { named = h.there; valid = ap is_name h.text; heap = λ e. h.text; some = some }

module _ (names : List (List ℕ)) (distinct : AreDistinct names) (turn : ℕ) (heap : HasHeapName names) where
  abbrev G : {A : Type 0} → Now → Did A → Type 0
  G S d = Steps names distinct turn S d

  -- blocks
  bytes-at : (S : Now) (a : ℕ) (bs : List Byte) → AreNumbered bs → Goes names turn S (in_memory S (with_bytes S.memory a bs))
  bytes-at S a bs n = bytes-goes names distinct turn S (with_bytes S.memory a bs) refl (named_written S.memory.bytes a bs n)

  copied-goes : (S : Now) (to from n : ℕ) → Goes names turn S (in_memory S (after_copy S.memory to from n))
  copied-goes S to from n = bytes-goes names distinct turn S (after_copy S.memory to from n) refl (λ h. named_written S.memory.bytes to (bytes_from S.memory.bytes from n) (read_numbered S.memory.bytes from n h) h)

  filled-named : (M : Mem) (a n v : ℕ) → Named M.bytes → Named (after_filling M a n v).bytes
  filled-named M a n v h = subst (λ (N : Mem). Named N.bytes) (all_filled M a n v) (named_written M.bytes a (replicate n (plain_byte v)) (same_numbered n (plain_byte v) tt) h)

  copy-steps : (apart : Bool) (p q : Pointer) (l m : Note) (n : ℕ) (S : Now) → IsNumbered p.prov → IsNumbered q.prov → IsStopped l → IsStopped m → G S (copy apart (record { pointer = p; stopped = l }) (record { pointer = q; stopped = m }) n S)
  copy-steps apart p q l m n S hp hq hl hm =
      next-steps names distinct turn S (reach_for Text true (record { pointer = p; stopped = l }) n S) _ (reached-steps names distinct turn Text true p l n S hp hl) (λ (t : Reach) (T : Now).
      next-steps names distinct turn T (reach_for Text false (record { pointer = q; stopped = m }) n T) _ (reached-steps names distinct turn Text false q m n T hq hm) (λ (f : Reach) (U : Now).
      step-if names distinct turn U (apart && share p.address q.address n) (stop_now (fault clause.MemcpyOverlap reason.Overlap) (with_more_notes (l ∷ []) U)) (answers (record { pointer = p; stopped = l }) (in_memory U (after_copy U.memory t.address f.address n)))
      (stopped-goes names distinct turn U l hl) (copied-goes U t.address f.address n)))

  memset-steps : (p : Pointer) (l : Note) (c : ℤ) (n : ℕ) (S : Now) → IsNumbered p.prov → IsStopped l → G S (memset (record { pointer = p; stopped = l }) c n S)
  memset-steps p l c n S hp hl =
      next-steps names distinct turn S (reach_for Text true (record { pointer = p; stopped = l }) n S) _ (reached-steps names distinct turn Text true p l n S hp hl)
      (λ (r : Reach) (T : Now). bytes-goes names distinct turn T (after_filling T.memory r.address n (bits_of UChar c)) refl (filled-named T.memory r.address n (bits_of UChar c)))

  memcmp-steps : (p q : Pointer) (l m : Note) (n : ℕ) (S : Now) → IsNumbered p.prov → IsNumbered q.prov → IsStopped l → IsStopped m → G S (memcmp (record { pointer = p; stopped = l }) (record { pointer = q; stopped = m }) n S)
  memcmp-steps p q l m n S hp hq hl hm =
      next-steps names distinct turn S (reach_for Text false (record { pointer = p; stopped = l }) n S) _ (reached-steps names distinct turn Text false p l n S hp hl) (λ (f : Reach) (T : Now).
      next-steps names distinct turn T (reach_for Text false (record { pointer = q; stopped = m }) n T) _ (reached-steps names distinct turn Text false q m n T hq hm) (λ (r : Reach) (U : Now).
      next-steps names distinct turn U (characters_from n (record { pointer = p; stopped = l }) f.address [] U) _ (row-steps names distinct turn n p l f.address [] U hl) (λ (ls : List ℕ) (V : Now).
      next-steps names distinct turn V (characters_from n (record { pointer = q; stopped = m }) r.address [] V) (λ rs W. answer_now (reply.Value (value.Int (difference ls rs))) W) (row-steps names distinct turn n q m r.address [] V hm) (λ rs W. goes-itself))))

  -- strings
  strlen-steps : (p : Pointer) (l : Note) (S : Now) → IsNumbered p.prov → IsStopped l → G S (strlen (record { pointer = p; stopped = l }) S)
  strlen-steps p l S hp hl = next-steps names distinct turn S (string_at Text (record { pointer = p; stopped = l }) S) _ (text-steps names distinct turn Text p l S hp hl) (λ s T. goes-itself)

  by-steps : (a b : ℕ) (S : Now) (rest : Did Reply) → G S rest → G S (compared_by a b S rest)
  by-steps a b S rest h = step-if names distinct turn S (not (eqb a b)) _ _ goes-itself (step-if names distinct turn S (eqb a 0) _ _ goes-itself h)

  compared-steps : (n : ℕ) (p q : Pointer) (l m : Note) (i : ℕ) (S : Now) → IsNumbered p.prov → IsNumbered q.prov → IsStopped l → IsStopped m → G S (compared_from n (record { pointer = p; stopped = l }) (record { pointer = q; stopped = m }) i S)
  compared-steps zero p q l m i S hp hq hl hm = stopped-goes names distinct turn S l hl
  compared-steps (suc n) p q l m i S hp hq hl hm =
      next-steps names distinct turn S (character_at Text (record { pointer = p; stopped = l }) i S) _ (at-steps names distinct turn Text p l i S hp hl) (λ (a : ℕ) (T : Now).
      next-steps names distinct turn T (character_at Text (record { pointer = q; stopped = m }) i T) _ (at-steps names distinct turn Text q m i T hq hm) (λ (b : ℕ) (U : Now).
      by-steps a b U (compared_from n (record { pointer = p; stopped = l }) (record { pointer = q; stopped = m }) (i + 1) U) (compared-steps n p q l m (i + 1) U hp hq hl hm)))

  strcpy-steps : (p q : Pointer) (l m : Note) (S : Now) → IsNumbered p.prov → IsNumbered q.prov → IsStopped l → IsStopped m → G S (strcpy (record { pointer = p; stopped = l }) (record { pointer = q; stopped = m }) S)
  strcpy-steps p q l m S hp hq hl hm =
      next-steps names distinct turn S (string_at Text (record { pointer = q; stopped = m }) S) _ (text-steps names distinct turn Text q m S hq hm) (λ (s : List ℕ) (T : Now).
      next-steps names distinct turn T (reach_for Text true (record { pointer = p; stopped = l }) (length s + 1) T) _ (reached-steps names distinct turn Text true p l (length s + 1) T hp hl) (λ (t : Reach) (U : Now).
      step-if names distinct turn U (share p.address q.address (length s + 1)) (stop_now (fault clause.StrcpyOverlap reason.Overlap) (with_more_notes (l ∷ []) U)) (answers (record { pointer = p; stopped = l }) (in_memory U (with_bytes U.memory t.address (map plain_byte (s ++ 0 ∷ [])))))
      (stopped-goes names distinct turn U l hl) (bytes-at U t.address (map plain_byte (s ++ 0 ∷ [])) (each_numbered plain_byte (λ v. tt) (s ++ 0 ∷ [])))))

  -- memory management
  memory-goes : (S : Now) (N : Mem) (ns : List Note) → (Named S.memory.bytes → Named N.bytes) → ((V : Table) → Leads (Unit {0}) N.table V → Tells names turn S.memory.table (all_noted V ns) N.table) → Goes names turn S (with_more_notes ns (in_memory S N))
  memory-goes S N ns n t = record { more = ns; notes = refl; named = n; tells = λ none V l. t V l }

  unnoted-goes : (S : Now) (N : Mem) → (Named S.memory.bytes → Named N.bytes) → Tells names turn S.memory.table [] N.table → Goes names turn S (in_memory S N)
  unnoted-goes S N n t = record { more = []; notes = sym (append-nil S.notes); named = n; tells = λ none V l. t }

  granted-steps : (S : Now) (o : Result ℕ CreateError × Mem) → Creates names distinct turn S.memory o → (Named S.memory.bytes → Named o.1.bytes) → ((i : ℕ) → o.0 ≡ Ok i → IsThere o.1.table i) → G S (grant_of S o)
  granted-steps S ((Ok i), N) h n there =
      let x = there i refl in
      memory-goes S N (note.Made i ∷ []) n (λ V l. subst (λ es. Tells names turn S.memory.table es N.table) (sym (append-nil (event_of_making V i) ∙ made_later N.table V i x.inst x.is l)) h)
  granted-steps S ((Err error.Denied), N) h n there = unnoted-goes S N n h
  granted-steps S ((Err error.NoMemory), N) h n there = unnoted-goes S N n h
  granted-steps S ((Err (error.Storage live wanted)), N) h n there = unnoted-goes S N n h
  granted-steps S ((Err (error.Range k a)), N) h n there = unnoted-goes S N n h
  granted-steps S ((Err (error.Misaligned k a)), N) h n there = unnoted-goes S N n h
  granted-steps S ((Err (error.Overlap k a with)), N) h n there = unnoted-goes S N n h

  requested-by : (S : Now) (b : Bool) (d e : Did (Result ℕ Reply)) → G S d → (b ≡ false → G S e) → G S (cond b d e)
  requested-by S true d e h g = h
  requested-by S false d e h g = g refl

  requested-steps : (n : ℕ) (S : Now) → G S (request_of_bytes n S)
  requested-steps n S =
      let r = heap_request n in
      requested-by S (eqb n 0) _ (grant_of S (creation S.memory r)) goes-itself
      (λ e. granted-steps S (creation S.memory r) (created-tells names distinct turn S.memory r (heap_asked names heap n (some-size n e))) (created_named S.memory r) (created_there S.memory r))

  allocated-steps : (r : Result ℕ Reply) (S : Now) → G S (pointer_or_null r S)
  allocated-steps (Err x) S = goes-itself
  allocated-steps (Ok i) S = goes-itself

  malloc-steps : (n : ℕ) (S : Now) → G S (malloc n S)
  malloc-steps n S = next-steps names distinct turn S (request_of_bytes n S) pointer_or_null (requested-steps n S) allocated-steps

  zeroed-goes : (S : Now) (i : ℕ) (o : Option Info) → Goes names turn S (in_memory S (with_zeros i o S.memory))
  zeroed-goes S i None = bytes-goes names distinct turn S S.memory refl (λ n. n)
  zeroed-goes S i (Some x) = bytes-goes names distinct turn S (after_filling S.memory x.base x.size 0) refl (filled-named S.memory x.base x.size 0)

  cleared-steps : (r : Result ℕ Reply) (S : Now) → G S (pointer_to_zeros r S)
  cleared-steps (Err x) S = goes-itself
  cleared-steps (Ok i) S = zeroed-goes S i (told_of S.memory i)

  calloc-steps : (count n : ℕ) (S : Now) → G S (calloc count n S)
  calloc-steps count n S = next-steps names distinct turn S (request_of_bytes (count * n) S) pointer_to_zeros (requested-steps (count * n) S) cleared-steps

  block-steps : (c : Clause) (p : Pointer) (l : Note) (S : Now) → IsNumbered p.prov → IsStopped l → G S (block c (record { pointer = p; stopped = l }) S)
  block-steps c p l S hp hl =
      about-steps names distinct turn S l (block_by c (record { pointer = p; stopped = l }) S (use_answer S.memory.table p.prov (Block p.address))) hl (use-goes names distinct turn S p.prov (Block p.address) hp)

  -- the allocation that was found lives still
  found-by : (c : Clause) (l : Note) (r : Result ℕ Stop) (d : Did ℕ) (i : ℕ) → d.answer ≡ r → (about_by r l d).answer ≡ Ok i → (d.answer ≡ Ok i) × ((about_by r l d).after.memory.table ≡ d.after.memory.table)
  found-by c l (Ok j) d i e h = (h, refl)
  found-by c l (Err y) d i e h = absurd (cc)

  found-lives : (c : Clause) (p : Pointer) (l : Note) (S : Now) (i : ℕ) → (block c (record { pointer = p; stopped = l }) S).answer ≡ Ok i → Lives (block c (record { pointer = p; stopped = l }) S).after.memory.table i
  found-lives c p l S i e =
      let r = use_answer S.memory.table p.prov (Block p.address) in
      let d = block_by c (record { pointer = p; stopped = l }) S r in
      let f = found-by c l d.answer d i refl e in
      subst (λ T. Lives T i) (sym f.1) (settled_lives S.memory.table p.prov r i (answer_lives c S.memory p r i f.0))

  freed-goes : (i : ℕ) (S : Now) (M : Mem) → M.table ≡ S.memory.table → (Named S.memory.bytes → Named M.bytes) → Lives S.memory.table i → Goes names turn S (with_more_notes (note.Ended i ∷ []) (in_memory S (without M i)))
  freed-goes i S M same n l =
      memory-goes S (without M i) (note.Ended i ∷ []) (λ h. without_named M i (n h))
      (λ V k. subst (λ T. Tells names turn S.memory.table (what.Ended i ∷ []) (after_end T i)) (sym same) (ends-tells names distinct turn S.memory.table i l.inst l.is l.live))

  free-steps : (p : Pointer) (l : Note) (S : Now) → IsNumbered p.prov → IsStopped l → G S (free (record { pointer = p; stopped = l }) S)
  free-steps p l S hp hl =
      step-if names distinct turn S (is_null p) _ _ goes-itself
      (next-known names distinct turn S (block clause.Freeing (record { pointer = p; stopped = l }) S) end_of_block (block-steps clause.Freeing p l S hp hl)
      (λ i e. let T = (block clause.Freeing (record { pointer = p; stopped = l }) S).after in freed-goes i T T.memory refl (λ n. n) (found-lives clause.Freeing p l S i e)))

  both-same : (o x : Option Info) (M : Mem) → ((after_block_copy o x M).table ≡ M.table) × (Named M.bytes → Named (after_block_copy o x M).bytes)
  both-same (Some x) (Some y) M = (refl, λ h. named_written M.bytes y.base (bytes_from M.bytes x.base (min x.size y.size)) (read_numbered M.bytes x.base (min x.size y.size) h) h)
  both-same (Some x) None M = (refl, λ h. h)
  both-same None (Some y) M = (refl, λ h. h)
  both-same None None M = (refl, λ h. h)

  moved-steps : (i : ℕ) (r : Result ℕ Reply) (S : Now) → Lives S.memory.table i → G S (reply_after_move i r S)
  moved-steps i (Err x) S l = goes-itself
  moved-steps i (Ok j) S l =
      let s = both-same (told_of S.memory i) (told_of S.memory j) S.memory in
      freed-goes i S (after_block_copy (told_of S.memory i) (told_of S.memory j) S.memory) s.0 s.1 l

  granted-lives : (S : Now) (o : Result ℕ CreateError × Mem) (i : ℕ) → IsLive o.1.table.instances i → IsLive (grant_of S o).after.memory.table.instances i
  granted-lives S ((Ok j), N) i l = l
  granted-lives S ((Err error.Denied), N) i l = l
  granted-lives S ((Err error.NoMemory), N) i l = l
  granted-lives S ((Err (error.Storage live wanted)), N) i l = l
  granted-lives S ((Err (error.Range k a)), N) i l = l
  granted-lives S ((Err (error.Misaligned k a)), N) i l = l
  granted-lives S ((Err (error.Overlap k a with)), N) i l = l

  requested-lives : (n : ℕ) (S : Now) (i : ℕ) → Lives S.memory.table i → Lives (request_of_bytes n S).after.memory.table i
  requested-lives n S i l = by (eqb n 0)
    where
      by : (b : Bool) → Lives (cond b (answer_now (Err (reply.Value null)) S) (grant_of S (creation S.memory (heap_request n)))).after.memory.table i
      by true = l
      by false = lives_of (grant_of S (creation S.memory (heap_request n))).after.memory.table i (granted-lives S (creation S.memory (heap_request n)) i (created_live S.memory (heap_request n) i (is_live_of S.memory.table i l)))

  resized-steps : (n i : ℕ) (S : Now) → Lives S.memory.table i → G S (resize_of n i S)
  resized-steps n i S l =
      step-if names distinct turn S (eqb n 0) _ _ goes-itself
      (next-known names distinct turn S (request_of_bytes n S) (reply_after_move i) (requested-steps n S) (λ r e. moved-steps i r (request_of_bytes n S).after (requested-lives n S i l)))

  realloc-steps : (p : Pointer) (l : Note) (n : ℕ) (S : Now) → IsNumbered p.prov → IsStopped l → G S (realloc (record { pointer = p; stopped = l }) n S)
  realloc-steps p l n S hp hl =
      step-if names distinct turn S (is_null p) _ _ (malloc-steps n S)
      (next-known names distinct turn S (block clause.Reallocating (record { pointer = p; stopped = l }) S) (resize_of n) (block-steps clause.Reallocating p l S hp hl)
      (λ i e. resized-steps n i (block clause.Reallocating (record { pointer = p; stopped = l }) S).after (found-lives clause.Reallocating p l S i e)))

  -- the pointer that is an argument
  pointer-numbered : (args : List Arg) (i : ℕ) → AreNumberedArguments args → IsNumbered (pointer args i).prov
  pointer-numbered [] i h = none i
    where
      none : (i : ℕ) → IsNumbered (pointer [] i).prov
      none zero = tt
      none (suc i) = tt
  pointer-numbered (x ∷ xs) zero h = by x.value h.0
    where
      by : (v : Value) → IsNumberedValue v → IsNumbered (pointer_in v).prov
      by (value.Pointer p) h = h
      by (value.Int n) h = tt
      by value.Unset h = tt
  pointer-numbered (x ∷ xs) (suc i) h = pointer-numbered xs i h.1

  -- each function
  pub called-steps : (f : Library) (a : List Arg) (S : Now) → AreNumberedArguments a → G S (called_in f a S)
  called-steps library.Malloc a S h = malloc-steps (size a 0) S
  called-steps library.Calloc a S h = calloc-steps (size a 0) (size a 1) S
  called-steps library.Free a S h = free-steps (pointer a 0) (stop_note S.memory (pointer a 0).prov) S (pointer-numbered a 0 h) tt
  called-steps library.Realloc a S h = realloc-steps (pointer a 0) (stop_note S.memory (pointer a 0).prov) (size a 1) S (pointer-numbered a 0 h) tt
  called-steps library.Memcpy a S h = copy-steps true (pointer a 0) (pointer a 1) (stop_note S.memory (pointer a 0).prov) (stop_note S.memory (pointer a 1).prov) (size a 2) S (pointer-numbered a 0 h) (pointer-numbered a 1 h) tt tt
  called-steps library.Memmove a S h = copy-steps false (pointer a 0) (pointer a 1) (stop_note S.memory (pointer a 0).prov) (stop_note S.memory (pointer a 1).prov) (size a 2) S (pointer-numbered a 0 h) (pointer-numbered a 1 h) tt tt
  called-steps library.Memset a S h = memset-steps (pointer a 0) (stop_note S.memory (pointer a 0).prov) (number a 1) (size a 2) S (pointer-numbered a 0 h) tt
  called-steps library.Memcmp a S h = memcmp-steps (pointer a 0) (pointer a 1) (stop_note S.memory (pointer a 0).prov) (stop_note S.memory (pointer a 1).prov) (size a 2) S (pointer-numbered a 0 h) (pointer-numbered a 1 h) tt tt
  called-steps library.Strlen a S h = strlen-steps (pointer a 0) (stop_note S.memory (pointer a 0).prov) S (pointer-numbered a 0 h) tt
  called-steps library.Strcmp a S h = compared-steps most (pointer a 0) (pointer a 1) (stop_note S.memory (pointer a 0).prov) (stop_note S.memory (pointer a 1).prov) 0 S (pointer-numbered a 0 h) (pointer-numbered a 1 h) tt tt
  called-steps library.Strcpy a S h = strcpy-steps (pointer a 0) (pointer a 1) (stop_note S.memory (pointer a 0).prov) (stop_note S.memory (pointer a 1).prov) S (pointer-numbered a 0 h) (pointer-numbered a 1 h) tt tt
  called-steps library.Exit a S h = goes-itself
  called-steps library.Abort a S h = goes-itself
  called-steps library.Printf a S h = printf-steps names distinct turn a S h

  -- a call, with all that it notes
  pub called-goes : (f : Library) (a : List Arg) (M : Mem) → AreNumberedArguments a → Goes names turn (with_notes M []) (reply_to_call f a M).after
  called-goes f a M h = called-steps f a (with_notes M []) h
