-- An instance that a call notes as made is live when it ends: what `realloc` ends was there before the new one.
use Rattle.std.proofs.Common.{◌≡◌, ◌≢◌, ℕ, ◌*◌, Bool, true, false, cond, eqb, List, [], ◌∷◌, ◌++◌, drop, Option, Some, None, Result, Ok, Err, IsSomeAnd, IsTrue, All, refl, sym, ap, ◌∙◌, subst}
use Rattle.std.proofs.lemmas.Option.{none-some}
use Rattle.std.proofs.lemmas.List.Elements.{All-nil, All-append, All-push, All-weaker}
use Rattle.pv_fault.specs.declared.faults.Clause.{Clause}
use Rattle.pv_fault.specs.declared.faults.Clause.TheVariants as clause
use Rattle.pv_prov.specs.declared.names.Prov.{Prov}
use Rattle.pv_prov.specs.declared.names.Prov.TheVariants.{Empty, Inst, Pair}
use Rattle.pv_prov.specs.Names.{stands}
use Rattle.pv_library.specs.declared.library.Library.{Library}
use Rattle.pv_library.specs.declared.library.Library.TheVariants as library
use Rattle.pv_inst.specs.declared.values.Instance.{Instance}
use Rattle.pv_inst.specs.declared.values.Info.{Info}
use Rattle.pv_inst.specs.declared.values.Tried.{Tried}
use Rattle.pv_inst.specs.declared.values.Miss.{Miss}
use Rattle.pv_inst.specs.declared.values.Test.TheVariants.{Block}
use Rattle.pv_inst.specs.declared.values.CreateError.{CreateError}
use Rattle.pv_inst.specs.declared.values.CreateError.TheVariants as error
use Rattle.pv_inst.specs.Table.{Table, instance_at}
use Rattle.pv_inst.specs.Use.{use_answer, after_use}
use Rattle.pv_inst.specs.Infos.{info_of}
use Rattle.pv_inst.specs.Ending.{after_end}
use Rattle.pv_inst.specs.Answers.{IsLive}
use Rattle.pv_inst.specs.Placing.{Request, place}
use Rattle.pv_object.specs.declared.values.Pointer.{Pointer}
use Rattle.pv_object.specs.declared.values.Stop.{Stop}
use Rattle.pv_object.specs.declared.values.Stop.TheVariants.{Ends, NoMemory}
use Rattle.pv_object.specs.Memory.{Mem}
use Rattle.pv_object.specs.Access.{first_survivor, is_null}
use Rattle.pv_object.specs.Creating.{creation, with_new_bytes}
use Rattle.pv_object.proofs.Born.{IsBorn, born, live_born, over_ended, ok_err}
use Rattle.pv_libc.specs.declared.values.Arg.{Arg}
use Rattle.pv_libc.specs.declared.values.Note.{Note}
use Rattle.pv_libc.specs.declared.values.Note.TheVariants.{Made, Ended, Exposed, Used, Stopped}
use Rattle.pv_libc.specs.declared.values.Given.{Given}
use Rattle.pv_libc.specs.declared.values.Reply.{Reply}
use Rattle.pv_libc.specs.declared.values.Reply.TheVariants as reply
use Rattle.pv_libc.specs.Steps.{Now, Did, answer_now, next_by, with_notes, about_by}
use Rattle.pv_libc.specs.Answers.{OrNoMemory}
use Rattle.pv_libc.specs.Heap.{told_of, grant_of, request_of_bytes, pointer_or_null, malloc, pointer_to_zeros, calloc, block_in, the_block, block_answer, block_by, block, end_of_block, free, after_block_copy, reply_after_move, resize_of, realloc, null}
use Rattle.pv_libc.specs.HeapParts.{heap_request, with_zeros}
use Rattle.pv_libc.specs.Printing.{format_of}
use Rattle.pv_libc.specs.Calls.{argument_at, pointer, number, size, text_of_format, printf, called_in, reply_to_call}
use Rattle.pv_libc.specs.Makings.{IsLiveIfMade, AreLive, UnlessNoMemory}
use Rattle.pv_libc.proofs.Reaches.{told_live}
use Rattle.pv_libc.proofs.Quiet.{IsQuiet, AreQuiet, Quiet, quiet_next, quiet_if, copy_quiet, memset_quiet, memcmp_quiet, strlen_quiet, strcmp_quiet, strcpy_quiet, offered_quiet, printed_quiet, block_quiet}

abbrev Live : {A : Type 0} → Did A → Type 0
Live d = AreLive d.after.memory d.after.notes

-- where no instance is told of, there is nothing to show
quiet_note : (xs : List Instance) (n : Note) → IsQuiet n → IsLiveIfMade xs n
quiet_note xs (Made i) h = absurd h
quiet_note xs (Ended i) h = tt
quiet_note xs (Exposed i) h = tt
quiet_note xs (Used tried test) h = tt
quiet_note xs (Stopped low high pair) h = tt

live_quiet : (M : Mem) (notes : List Note) → AreQuiet notes → AreLive M notes
live_quiet M notes h = All-weaker IsQuiet (IsLiveIfMade M.table.instances) (quiet_note M.table.instances) notes h

live_by : {A B : Type 0} (r : Result A Stop) (d : Did A) (rest : A → Now → Did B) → Live d → ((a : A) → r ≡ Ok a → Live (rest a d.after)) → Live (next_by r d rest)
live_by (Ok a) d rest h g = g a refl
live_by (Err stop) d rest h g = h

live_if : {A : Type 0} (b : Bool) (d e : Did A) → Live d → Live e → Live (cond b d e)
live_if true d e h g = h
live_if false d e h g = g

-- a request that is met
born_by : (M N : Mem) (q : Request) (w : Result ℕ CreateError × Table) (i : ℕ) → w ≡ place M.table q → Ok i ≡ (with_new_bytes M w).0 → N ≡ (with_new_bytes M w).1 → IsBorn M.table N.table i
born_by M N q ((Ok j), U) i e a m = born M.table N.table q i (a ∙ ap (λ (v : Result ℕ CreateError × Table). v.0) e) (ap (λ (K : Mem). K.table) m ∙ ap (λ (v : Result ℕ CreateError × Table). v.1) e)
born_by M N q ((Err x), U) i e a m = absurd (ok_err i x a)

born_here : (M N : Mem) (q : Request) (i : ℕ) → (Ok i, N) ≡ creation M q → IsBorn M.table N.table i
born_here M N q i e = born_by M N q (place M.table q) i refl (ap (λ (v : Result ℕ CreateError × Mem). v.0) e) (ap (λ (v : Result ℕ CreateError × Mem). v.1) e)

granted_live : (S : Now) (q : Request) (w : Result ℕ CreateError × Mem) → w ≡ creation S.memory q → AreQuiet S.notes → Live (grant_of S w)
granted_live S q ((Ok i), N) e h = All-push (IsLiveIfMade N.table.instances) S.notes (Made i) (live_quiet N S.notes h) (live_born S.memory.table N.table i (born_here S.memory N q i e))
granted_live S q ((Err error.Denied), N) e h = live_quiet N S.notes h
granted_live S q ((Err error.NoMemory), N) e h = live_quiet N S.notes h
granted_live S q ((Err (error.Storage live wanted)), N) e h = live_quiet N S.notes h
granted_live S q ((Err (error.Range k a)), N) e h = live_quiet N S.notes h
granted_live S q ((Err (error.Misaligned k a)), N) e h = live_quiet N S.notes h
granted_live S q ((Err (error.Overlap k a with)), N) e h = live_quiet N S.notes h

requested_live : (n : ℕ) (S : Now) → AreQuiet S.notes → Live (request_of_bytes n S)
requested_live n S h = live_if (eqb n 0) _ _ (live_quiet S.memory S.notes h) (granted_live S (heap_request n) (creation S.memory (heap_request n)) refl h)

allocated_live : (r : Result ℕ Reply) (S : Now) → AreLive S.memory S.notes → Live (pointer_or_null r S)
allocated_live (Err x) S h = h
allocated_live (Ok i) S h = h

malloc_live : (n : ℕ) (S : Now) → AreQuiet S.notes → Live (malloc n S)
malloc_live n S h = live_by (request_of_bytes n S).answer (request_of_bytes n S) pointer_or_null (requested_live n S h) (λ r e. allocated_live r (request_of_bytes n S).after (requested_live n S h))

zeroed_live : (i : ℕ) (o : Option Info) (M : Mem) (notes : List Note) → AreLive M notes → AreLive (with_zeros i o M) notes
zeroed_live i None M notes h = h
zeroed_live i (Some x) M notes h = h

cleared_live : (r : Result ℕ Reply) (S : Now) → AreLive S.memory S.notes → Live (pointer_to_zeros r S)
cleared_live (Err x) S h = h
cleared_live (Ok i) S h = zeroed_live i (told_of S.memory i) S.memory S.notes h

calloc_live : (count n : ℕ) (S : Now) → AreQuiet S.notes → Live (calloc count n S)
calloc_live count n S h =
    let d = request_of_bytes (count * n) S in
    live_by d.answer d pointer_to_zeros (requested_live (count * n) S h) (λ r e. cleared_live r d.after (requested_live (count * n) S h))

-- what a request that is met leaves
record IsGranted (S : Now) (j : ℕ) (T : Now) : Type 0 where
  notes : T.notes ≡ S.notes ++ Made j ∷ []
  new : IsBorn S.memory.table T.memory.table j

granted_is : (S : Now) (q : Request) (j : ℕ) (w : Result ℕ CreateError × Mem) → w ≡ creation S.memory q → (grant_of S w).answer ≡ Ok (Ok j) → IsGranted S j (grant_of S w).after
granted_is S q j ((Ok i), N) e a =
    let same : i ≡ j = cc in
    record { notes = ap (λ k. S.notes ++ Made k ∷ []) same; new = subst (λ k. IsBorn S.memory.table N.table k) same (born_here S.memory N q i e) }
granted_is S q j ((Err error.Denied), N) e a = absurd cc
granted_is S q j ((Err error.NoMemory), N) e a = absurd cc
granted_is S q j ((Err (error.Storage live wanted)), N) e a = absurd cc
granted_is S q j ((Err (error.Range k b)), N) e a = absurd cc
granted_is S q j ((Err (error.Misaligned k b)), N) e a = absurd cc
granted_is S q j ((Err (error.Overlap k b with)), N) e a = absurd cc

requested_by : (b : Bool) (S : Now) (d : Did (Result ℕ Reply)) (j : ℕ) → (d.answer ≡ Ok (Ok j) → IsGranted S j d.after) → (cond b (answer_now (Err (reply.Value null)) S) d).answer ≡ Ok (Ok j) → IsGranted S j (cond b (answer_now (Err (reply.Value null)) S) d).after
requested_by true S d j f a = absurd cc
requested_by false S d j f a = f a

requested_is : (n : ℕ) (S : Now) (j : ℕ) → (request_of_bytes n S).answer ≡ Ok (Ok j) → IsGranted S j (request_of_bytes n S).after
requested_is n S j a = requested_by (eqb n 0) S (grant_of S (creation S.memory (heap_request n))) j (granted_is S (heap_request n) j (creation S.memory (heap_request n)) refl) a

-- the old allocation is another one
abbrev LiveIn : Option Instance → Type 0
LiveIn o = IsSomeAnd o (λ (x : Instance). IsTrue x.live)

none_live : (o : Option Instance) → o ≡ None → LiveIn o → ⊥
none_live None e h = h
none_live (Some x) e h = none-some x (sym e)

both_table : (o p : Option Info) (M : Mem) → (after_block_copy o p M).table ≡ M.table
both_table (Some x) (Some y) M = refl
both_table (Some x) None M = refl
both_table None (Some y) M = refl
both_table None None M = refl

moved_live : (S T : Now) (i j : ℕ) → IsGranted S j T → IsLive S.memory.table.instances i → AreQuiet S.notes → Live (reply_after_move i (Ok j) T)
moved_live S T i j g l h =
    let before = S.memory.table in
    let now = T.memory.table in
    let other : i ≢ j = λ e. none_live (instance_at before.instances i) (ap (λ k. instance_at before.instances k) e ∙ g.new.was) l in
    let old : IsLive now.instances i = subst LiveIn (sym (g.new.others i other)) l in
    let new : IsLive (after_end now i).instances j = subst LiveIn (sym ((over_ended now i old).others j (λ e. other (sym e)))) (live_born before now j g.new) in
    let P : List Instance → Note → Type 0 = λ xs n. IsLiveIfMade xs n in
    let all : All (P (after_end now i).instances) (S.notes ++ Made j ∷ []) = All-push (P (after_end now i).instances) S.notes (Made j) (All-weaker IsQuiet (P (after_end now i).instances) (quiet_note (after_end now i).instances) S.notes h) new in
    let held : All (P (after_end now i).instances) (T.notes ++ Ended i ∷ []) = All-push (P (after_end now i).instances) T.notes (Ended i) (subst (λ ns. All (P (after_end now i).instances) ns) (sym g.notes) all) tt in
    subst (λ (U : Table). All (P (after_end U i).instances) (T.notes ++ Ended i ∷ [])) (sym (both_table (told_of T.memory i) (told_of T.memory j) T.memory)) held

moved_by : (S : Now) (d : Did (Result ℕ Reply)) (i : ℕ) (r : Result ℕ Reply) → ((j : ℕ) → d.answer ≡ Ok (Ok j) → IsGranted S j d.after) → d.answer ≡ Ok r → Live d → IsLive S.memory.table.instances i → AreQuiet S.notes → Live (reply_after_move i r d.after)
moved_by S d i (Err x) f a v l h = v
moved_by S d i (Ok j) f a v l h = moved_live S d.after i j (f j a) l h

resized_live : (n i : ℕ) (S : Now) → IsLive S.memory.table.instances i → AreQuiet S.notes → Live (resize_of n i S)
resized_live n i S l h =
    let d = request_of_bytes n S in
    live_if (eqb n 0) _ _ (live_quiet S.memory S.notes h)
    (live_by d.answer d (reply_after_move i) (requested_live n S h) (λ r a. moved_by S d i r (requested_is n S) a (requested_live n S h) l h))

-- an allocation that is given back is live
about_is : {A : Type 0} (r : Result A Stop) (note : Note) (d : Did A) (a : A) → (about_by r note d).answer ≡ Ok a → (d.answer ≡ Ok a) × ((about_by r note d).after ≡ d.after)
about_is (Ok b) note d a e = (e, refl)
about_is (Err stop) note d a e = absurd cc

in_live : (c : Clause) (T : Table) (k i : ℕ) (o : Option Info) → info_of (instance_at T.instances k) ≡ o → block_in c k o ≡ Ok i → IsLive T.instances i
in_live c T k i None e a = absurd cc
in_live c T k i (Some x) e a = let same : k ≡ i = cc in subst (λ n. IsLive T.instances n) same (told_live T k x e)

the_live : (c : Clause) (M : Mem) (o : Option ℕ) (i : ℕ) → the_block c M o ≡ Ok i → IsLive M.table.instances i
the_live c M None i a = absurd cc
the_live c M (Some k) i a = in_live c M.table k i (told_of M k) refl a

answer_live : (c : Clause) (M : Mem) (p : Pointer) (found : Result Tried Miss) (i : ℕ) → block_answer c M p found ≡ Ok i → IsLive M.table.instances i
answer_live c M p (Ok tried) i a = the_live c M (first_survivor (stands M.table.pairs p.prov) tried) i a
answer_live c M p (Err m) i a = absurd cc

settled_same : (T : Table) (p : Prov) (r : Result Tried Miss) → (after_use T p r).instances ≡ T.instances
settled_same T Empty r = refl
settled_same T (Inst i) r = refl
settled_same T (Pair k) (Ok tried) = refl
settled_same T (Pair k) (Err m) = refl

block_live : (c : Clause) (g : Given) (S : Now) (i : ℕ) → (block c g S).answer ≡ Ok i → IsLive (block c g S).after.memory.table.instances i
block_live c g S i a =
    let found = use_answer S.memory.table g.pointer.prov (Block g.pointer.address) in
    let d = block_by c g S found in
    let w = about_is d.answer g.stopped d i a in
    let here : IsLive d.after.memory.table.instances i = subst (λ xs. IsLive xs i) (sym (settled_same S.memory.table g.pointer.prov found)) (answer_live c S.memory g.pointer found i w.0) in
    subst (λ (T : Now). IsLive T.memory.table.instances i) (sym w.1) here

realloc_live : (g : Given) (n : ℕ) (S : Now) → IsQuiet g.stopped → AreQuiet S.notes → Live (realloc g n S)
realloc_live g n S q h =
    let d = block clause.Reallocating g S in
    let still = block_quiet clause.Reallocating g S q h in
    live_if (is_null g.pointer) _ _ (malloc_live n S h)
    (live_by d.answer d (resize_of n) (live_quiet d.after.memory d.after.notes still) (λ i a. resized_live n i d.after (block_live clause.Reallocating g S i a) still))

free_quiet : (g : Given) (S : Now) → IsQuiet g.stopped → AreQuiet S.notes → Quiet (free g S)
free_quiet g S q h = quiet_if (is_null g.pointer) _ _ h (quiet_next (block clause.Freeing g S) end_of_block (block_quiet clause.Freeing g S q h) (λ i T k. All-push IsQuiet T.notes (Ended i) k tt))

printf_quiet : (a : List Arg) (S : Now) → AreQuiet S.notes → Quiet (printf a S)
printf_quiet a S h = quiet_next (text_of_format a S) _ (printed_quiet (format_of S.memory (pointer a 0).prov) _ S (offered_quiet S.memory (drop 1 a)) h) (λ text T k. k)

quiet_did : {A : Type 0} (d : Did A) → Quiet d → Live d
quiet_did d h = live_quiet d.after.memory d.after.notes h

called_in_live : (f : Library) (a : List Arg) (S : Now) → AreQuiet S.notes → Live (called_in f a S)
called_in_live library.Malloc a S h = malloc_live (size a 0) S h
called_in_live library.Calloc a S h = calloc_live (size a 0) (size a 1) S h
called_in_live library.Free a S h = quiet_did (free (argument_at a 0 S.memory) S) (free_quiet (argument_at a 0 S.memory) S tt h)
called_in_live library.Realloc a S h = realloc_live (argument_at a 0 S.memory) (size a 1) S tt h
called_in_live library.Memcpy a S h = quiet_did (called_in library.Memcpy a S) (copy_quiet true (argument_at a 0 S.memory) (argument_at a 1 S.memory) (size a 2) S tt tt h)
called_in_live library.Memmove a S h = quiet_did (called_in library.Memmove a S) (copy_quiet false (argument_at a 0 S.memory) (argument_at a 1 S.memory) (size a 2) S tt tt h)
called_in_live library.Memset a S h = quiet_did (called_in library.Memset a S) (memset_quiet (argument_at a 0 S.memory) (number a 1) (size a 2) S tt h)
called_in_live library.Memcmp a S h = quiet_did (called_in library.Memcmp a S) (memcmp_quiet (argument_at a 0 S.memory) (argument_at a 1 S.memory) (size a 2) S tt tt h)
called_in_live library.Strlen a S h = quiet_did (called_in library.Strlen a S) (strlen_quiet (argument_at a 0 S.memory) S tt h)
called_in_live library.Strcmp a S h = quiet_did (called_in library.Strcmp a S) (strcmp_quiet (argument_at a 0 S.memory) (argument_at a 1 S.memory) S tt tt h)
called_in_live library.Strcpy a S h = quiet_did (called_in library.Strcpy a S) (strcpy_quiet (argument_at a 0 S.memory) (argument_at a 1 S.memory) S tt tt h)
called_in_live library.Exit a S h = live_quiet S.memory S.notes h
called_in_live library.Abort a S h = live_quiet S.memory S.notes h
called_in_live library.Printf a S h = quiet_did (called_in library.Printf a S) (printf_quiet a S h)

-- each instance that a call notes as made
pub called_live : (f : Library) (a : List Arg) (M : Mem) → AreLive (reply_to_call f a M).after.memory (reply_to_call f a M).after.notes
called_live f a M = called_in_live f a (with_notes M []) (All-nil IsQuiet)

-- behind what was noted before it
behind_by : (M : Mem) (before notes all : List Note) (S : Now) → all ≡ before ++ notes → with_notes M notes ≡ S → AreLive S.memory S.notes → AreLive M before → AreLive M all
behind_by M before notes all S is e l b =
    let P : Note → Type 0 = IsLiveIfMade M.table.instances in
    subst (λ ns. All P ns) (sym is) (All-append P before notes b (subst (λ (T : Now). AreLive T.memory T.notes) (sym e) l))

behind_live : (r : Result Reply Stop) (M : Mem) (before notes all : List Note) (d : Did Reply) → all ≡ before ++ notes → OrNoMemory r (with_notes M notes) d → AreLive d.after.memory d.after.notes → UnlessNoMemory r (AreLive M before → AreLive M all)
behind_live (Ok a) M before notes all d is h l = behind_by M before notes all d.after is h.1 l
behind_live (Err NoMemory) M before notes all d is h l = tt
behind_live (Err (Ends v)) M before notes all d is h l = behind_by M before notes all d.after is h.1 l

pub noted_live : (r : Result Reply Stop) (M N : Mem) (f : Library) (a : List Arg) (none before notes all : List Note) → none ≡ [] → all ≡ before ++ notes → OrNoMemory r (with_notes N notes) (called_in f a (with_notes M none))
    → UnlessNoMemory r (AreLive N before → AreLive N all)
noted_live r M N f a none before notes all e is h =
    behind_live r N before notes all (reply_to_call f a M) is (subst (λ ns. OrNoMemory r (with_notes N notes) (called_in f a (with_notes M ns))) e h) (called_live f a M)
