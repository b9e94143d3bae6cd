-- Requests for storage instances that are not denied (C17 6.2.4, 6.4.5p6, 7.22.3).
use Rattle.std.proofs.Common.{◌≡◌, ℕ, zero, suc, Bool, true, false, cond, not, ◌||◌, ◌&&◌, List, [], Option, Some, None, Result, Ok, Err, refl, subst}
use Rattle.std.specs.Prelude.{nat_lt, nat_eq, if◌then◌else◌, ◌+◌, ◌%◌, ◌*◌, ◌^◌, length, ℤ}
use Rattle.pv_fault.specs.declared.faults.Clause.TheVariants as clause
use Rattle.pv_library.specs.declared.library.Library.{Library}
use Rattle.pv_library.specs.declared.library.Library.TheVariants as library
use Rattle.pv_script.specs.declared.script.Place.{Place}
use Rattle.pv_script.specs.declared.script.Place.TheVariants.{At, Null}
use Rattle.pv_script.specs.Lines.{ScriptLine}
use Rattle.pv_script.specs.Places.{place_of}
use Rattle.pv_inst.specs.declared.values.CreateError.{CreateError}
use Rattle.pv_inst.specs.declared.values.CreateError.TheVariants as refusal
use Rattle.pv_inst.specs.Table.{Table, live_bytes, count_of}
use Rattle.pv_inst.specs.Use.{is_heap}
use Rattle.pv_inst.specs.Placing.{Request, place, place_said, place_at, unless_overlap, first_overlap}
use Rattle.pv_inst.specs.PlacingParts.{multiple_of_16}
use Rattle.pv_object.specs.declared.values.Asker.TheVariants.{Text}
use Rattle.pv_object.specs.declared.values.Stop.{Stop}
use Rattle.pv_object.specs.declared.values.Stop.TheVariants as stop
use Rattle.pv_object.specs.Memory.{Mem}
use Rattle.pv_object.specs.Access.{is_null}
use Rattle.pv_object.specs.Creating.{creation, with_new_bytes}
use Rattle.pv_typed.specs.Mains.{heap_text}
use Rattle.pv_libc.specs.declared.values.Arg.{Arg}
use Rattle.pv_libc.specs.declared.values.Reply.{Reply}
use Rattle.pv_libc.specs.declared.values.Reply.TheVariants as reply
use Rattle.pv_libc.specs.Steps.{Now, Did, next_by, next, reach_for}
use Rattle.pv_libc.specs.Characters.{character_at, characters_from, most, string_at}
use Rattle.pv_libc.specs.Blocks.{share, copy, memset, memcmp}
use Rattle.pv_libc.specs.Strings.{strlen, compared_from, strcpy}
use Rattle.pv_libc.specs.Heap.{grant_of, request_of_bytes, pointer_or_null, malloc, pointer_to_zeros, calloc, block, end_of_block, free, reply_after_move, resize_of, realloc}
use Rattle.pv_libc.specs.HeapParts.{heap_request}
use Rattle.pv_libc.specs.Calls.{argument_at, number, size, text_of_format, called_in}
use Rattle.pv_world.specs.Worlds.{Wrong, ByVerdict, Halts, Halt, Exits, Aborts, Refused, SidesEnded, Worth, Nothing, Missing, Scalar, Whole}
use Rattle.pv_world.specs.Worths.{why_not_set, why_missing, wrong_of}
use Rattle.pv_object.specs.declared.values.Value.TheVariants.{Int as IntValue, Unset, Pointer as PointerValue}
use Rattle.pv_verdicts.specs.Own.{DeniesHeap}

-- a refusal that ends a run: the script's place can't be had, or there are too many live bytes
abbrev pub FineError : CreateError → Type 0
FineError (refusal.Storage live size) = Unit {0}
FineError refusal.Denied = ⊥
FineError (refusal.Range k address) = Unit {0}
FineError (refusal.Misaligned k address) = Unit {0}
FineError (refusal.Overlap k address other) = Unit {0}
FineError refusal.NoMemory = ⊥

abbrev pub FineAnswer : Result ℕ CreateError → Type 0
FineAnswer (Ok i) = Unit {0}
FineAnswer (Err e) = FineError e

abbrev FineHalt : Halt → Type 0
FineHalt (Exits n) = Unit {0}
FineHalt Aborts = Unit {0}
FineHalt (Refused name e) = FineError e
FineHalt (SidesEnded k) = Unit {0}

-- an operation ends a run in one of the ways that have an outcome
abbrev pub FineWrong : Wrong → Type 0
FineWrong (ByVerdict v) = Unit {0}
FineWrong (Halts h) = FineHalt h

abbrev pub FineIf : Option Wrong → Type 0
FineIf None = Unit {0}
FineIf (Some y) = FineWrong y

pub stop-fine : (y : Stop) → FineWrong (wrong_of y)
stop-fine (stop.Ends v) = tt
stop-fine stop.NoMemory = tt

pub plain-fine : (v : Worth) → FineIf (why_not_set v)
plain-fine Missing = tt
plain-fine Nothing = tt
plain-fine (Whole bs a) = tt
plain-fine (Scalar Unset) = tt
plain-fine (Scalar (IntValue n)) = tt
plain-fine (Scalar (PointerValue p)) = tt

pub present-fine : (v : Worth) → FineIf (why_missing v)
present-fine Missing = tt
present-fine Nothing = tt
present-fine (Scalar v) = tt
present-fine (Whole bs a) = tt

-- ---- a request that is not for an allocation

answer-if : (b : Bool) (x y : Result ℕ CreateError × Table) → FineAnswer x.0 → FineAnswer y.0 → FineAnswer (cond b x y).0
answer-if true x y h g = h
answer-if false x y h g = g

overlap-fine : (o : Option (ℕ × ℕ)) (T : Table) (r : Request) (k base : ℕ) (default : Bool) → FineAnswer (unless_overlap o T r k base default).0
overlap-fine (Some hit) T r k base default = tt
overlap-fine None T r k base default = tt

at-fine : (T : Table) (r : Request) (k base : ℕ) (default : Bool) → FineAnswer (place_at T r k base default).0
at-fine T r k base default =
    answer-if (nat_lt base 4096 || nat_lt (2 ^ 47) (base + r.size)) (Err (refusal.Range k base), T) _ tt
    (answer-if (not (nat_eq (base % r.align) 0)) (Err (refusal.Misaligned k base), T) _ tt (overlap-fine (first_overlap T.instances base r.size) T r k base default))

said-fine : (o : Option Place) (T : Table) (r : Request) (k : ℕ) → (o ≡ Some Null → ⊥) → FineAnswer (place_said o T r k).0
said-fine None T r k h = at-fine T r k (multiple_of_16 T.cursor) true
said-fine (Some (At base)) T r k h = at-fine T r k base false
said-fine (Some Null) T r k h = h refl

storage-fine : (heap : Bool) (live size : ℕ) → heap ≡ false → FineError (if heap then refusal.Denied else refusal.Storage live size)
storage-fine true live size e = absurd cc
storage-fine false live size e = tt

place-fine : (T : Table) (r : Request) → is_heap r.kind ≡ false → ((k : ℕ) → place_of T.script r.text k ≡ Some Null → ⊥) → FineAnswer (place T r).0
place-fine T r e h =
    let k = count_of T r.name + 1 in
    answer-if (nat_lt (2 ^ 24) (live_bytes T.instances + r.size)) (_, _) (place_said (place_of T.script r.text k) T r k) (storage-fine (is_heap r.kind) (live_bytes T.instances) r.size e)
    (said-fine (place_of T.script r.text k) T r k (h k))

made-fine : (M : Mem) (w : Result ℕ CreateError × Table) → FineAnswer w.0 → FineAnswer (with_new_bytes M w).0
made-fine M ((Ok i), U) h = tt
made-fine M ((Err e), U) h = h

pub created-fine : (lines : List ScriptLine) (M : Mem) (r : Request) → DeniesHeap lines → M.table.script ≡ lines → is_heap r.kind ≡ false → (r.text ≡ heap_text → ⊥) → FineAnswer (creation M r).0
created-fine lines M r d same e other =
    made-fine M (place M.table r) (place-fine M.table r e (λ k at. other (d r.text k (subst (λ (ls : List ScriptLine). place_of ls r.text k ≡ Some Null) same at))))

-- ---- calls of the library

abbrev FineReply : Reply → Type 0
FineReply reply.Nothing = Unit {0}
FineReply (reply.Value v) = Unit {0}
FineReply (reply.Exit n) = Unit {0}
FineReply reply.Abort = Unit {0}
FineReply (reply.Placement e) = FineError e

abbrev pub FineReplied : Result Reply Stop → Type 0
FineReplied (Ok r) = FineReply r
FineReplied (Err y) = Unit {0}

-- what a request gives in place of an instance
abbrev FineGrant : Result ℕ Reply → Type 0
FineGrant (Ok i) = Unit {0}
FineGrant (Err r) = FineReply r

abbrev Each : {A : Type 0} → (A → Type 0) → Result A Stop → Type 0
Each P (Ok a) = P a
Each P (Err y) = Unit {0}

-- nothing is asked
abbrev Any : {A : Type 0} → A → Type 0
Any a = Unit {0}

any-each : {A : Type 0} (r : Result A Stop) → Each Any r
any-each (Ok a) = tt
any-each (Err y) = tt

next-fine : {A : Type 0} (P : A → Type 0) (d : Did A) (rest : A → Now → Did Reply) → Each P d.answer → ((a : A) (S : Now) → P a → FineReplied (rest a S).answer) → FineReplied (next d rest).answer
next-fine {A} P d rest h g = by d.answer h
  where
    by : (r : Result A Stop) → Each P r → FineReplied (next_by r d rest).answer
    by (Ok a) h = g a d.after h
    by (Err y) h = tt

-- behind a step of which nothing is asked
then-fine : {A : Type 0} (d : Did A) (rest : A → Now → Did Reply) → ((a : A) (S : Now) → FineReplied (rest a S).answer) → FineReplied (next d rest).answer
then-fine d rest g = next-fine Any d rest (any-each d.answer) (λ a S h. g a S)

reply-if : (b : Bool) (d e : Did Reply) → FineReplied d.answer → FineReplied e.answer → FineReplied (cond b d e).answer
reply-if true d e h g = h
reply-if false d e h g = g

granted-fine : (S : Now) (o : Result ℕ CreateError × Mem) → Each FineGrant (grant_of S o).answer
granted-fine S ((Ok i), N) = tt
granted-fine S ((Err refusal.Denied), N) = tt
granted-fine S ((Err refusal.NoMemory), N) = tt
granted-fine S ((Err (refusal.Storage live wanted)), N) = tt
granted-fine S ((Err (refusal.Range k a)), N) = tt
granted-fine S ((Err (refusal.Misaligned k a)), N) = tt
granted-fine S ((Err (refusal.Overlap k a other)), N) = tt

grant-if : (b : Bool) (d e : Did (Result ℕ Reply)) → Each FineGrant d.answer → Each FineGrant e.answer → Each FineGrant (cond b d e).answer
grant-if true d e h g = h
grant-if false d e h g = g

requested-fine : (n : ℕ) (S : Now) → Each FineGrant (request_of_bytes n S).answer
requested-fine n S = grant-if (nat_eq n 0) _ (grant_of S (creation S.memory (heap_request n))) tt (granted-fine S (creation S.memory (heap_request n)))

allocated-fine : (r : Result ℕ Reply) (S : Now) → FineGrant r → FineReplied (pointer_or_null r S).answer
allocated-fine (Err x) S h = h
allocated-fine (Ok i) S h = tt

malloc-fine : (n : ℕ) (S : Now) → FineReplied (malloc n S).answer
malloc-fine n S = next-fine FineGrant (request_of_bytes n S) pointer_or_null (requested-fine n S) (λ r T h. allocated-fine r T h)

cleared-fine : (r : Result ℕ Reply) (S : Now) → FineGrant r → FineReplied (pointer_to_zeros r S).answer
cleared-fine (Err x) S h = h
cleared-fine (Ok i) S h = tt

calloc-fine : (count n : ℕ) (S : Now) → FineReplied (calloc count n S).answer
calloc-fine count n S = next-fine FineGrant (request_of_bytes (count * n) S) pointer_to_zeros (requested-fine (count * n) S) (λ r T h. cleared-fine r T h)

free-fine : (g : _) (S : Now) → FineReplied (free g S).answer
free-fine g S = reply-if (is_null g.pointer) _ _ tt (then-fine (block clause.Freeing g S) end_of_block (λ i T. tt))

moved-fine : (i : ℕ) (r : Result ℕ Reply) (S : Now) → FineGrant r → FineReplied (reply_after_move i r S).answer
moved-fine i (Err x) S h = h
moved-fine i (Ok j) S h = tt

resized-fine : (n i : ℕ) (S : Now) → FineReplied (resize_of n i S).answer
resized-fine n i S = reply-if (nat_eq n 0) _ _ tt (next-fine FineGrant (request_of_bytes n S) (reply_after_move i) (requested-fine n S) (λ r T h. moved-fine i r T h))

realloc-fine : (g : _) (n : ℕ) (S : Now) → FineReplied (realloc g n S).answer
realloc-fine g n S = reply-if (is_null g.pointer) _ _ (malloc-fine n S) (then-fine (block clause.Reallocating g S) (resize_of n) (λ i T. resized-fine n i T))

copy-fine : (apart : Bool) (to from : _) (n : ℕ) (S : Now) → FineReplied (copy apart to from n S).answer
copy-fine apart to from n S = then-fine (reach_for Text true to n S) _ (λ t T. then-fine (reach_for Text false from n T) _ (λ f U. reply-if (apart && share to.pointer.address from.pointer.address n) _ _ tt tt))

memset-fine : (g : _) (c : ℤ) (n : ℕ) (S : Now) → FineReplied (memset g c n S).answer
memset-fine g c n S = then-fine (reach_for Text true g n S) _ (λ r T. tt)

memcmp-fine : (p q : _) (n : ℕ) (S : Now) → FineReplied (memcmp p q n S).answer
memcmp-fine p q n S =
    then-fine (reach_for Text false p n S) _ (λ l T. then-fine (reach_for Text false q n T) _ (λ r U.
    then-fine (characters_from n p l.address [] U) _ (λ ls V. then-fine (characters_from n q r.address [] V) _ (λ rs W. tt))))

strlen-fine : (g : _) (S : Now) → FineReplied (strlen g S).answer
strlen-fine g S = then-fine (string_at Text g S) _ (λ s T. tt)

compared-fine : (k : ℕ) (p q : _) (i : ℕ) (S : Now) → FineReplied (compared_from k p q i S).answer
compared-fine zero p q i S = tt
compared-fine (suc k) p q i S =
    then-fine (character_at Text p i S) _ (λ a T. then-fine (character_at Text q i T) _
    (λ b U. reply-if (not (nat_eq a b)) _ _ tt (reply-if (nat_eq a 0) _ (compared_from k p q (i + 1) U) tt (compared-fine k p q (i + 1) U))))

strcpy-fine : (to from : _) (S : Now) → FineReplied (strcpy to from S).answer
strcpy-fine to from S =
    then-fine (string_at Text from S) _ (λ s T. then-fine (reach_for Text true to (length s + 1) T) _
    (λ t U. reply-if (share to.pointer.address from.pointer.address (length s + 1)) _ _ tt tt))

-- no call replies that a request was denied: it answers a null pointer then
pub called-fine : (f : Library) (a : List Arg) (S : Now) → FineReplied (called_in f a S).answer
called-fine library.Malloc a S = malloc-fine (size a 0) S
called-fine library.Calloc a S = calloc-fine (size a 0) (size a 1) S
called-fine library.Free a S = free-fine (argument_at a 0 S.memory) S
called-fine library.Realloc a S = realloc-fine (argument_at a 0 S.memory) (size a 1) S
called-fine library.Memcpy a S = copy-fine true (argument_at a 0 S.memory) (argument_at a 1 S.memory) (size a 2) S
called-fine library.Memmove a S = copy-fine false (argument_at a 0 S.memory) (argument_at a 1 S.memory) (size a 2) S
called-fine library.Memset a S = memset-fine (argument_at a 0 S.memory) (number a 1) (size a 2) S
called-fine library.Memcmp a S = memcmp-fine (argument_at a 0 S.memory) (argument_at a 1 S.memory) (size a 2) S
called-fine library.Strlen a S = strlen-fine (argument_at a 0 S.memory) S
called-fine library.Strcmp a S = compared-fine most (argument_at a 0 S.memory) (argument_at a 1 S.memory) 0 S
called-fine library.Strcpy a S = strcpy-fine (argument_at a 0 S.memory) (argument_at a 1 S.memory) S
called-fine library.Exit a S = tt
called-fine library.Abort a S = tt
called-fine library.Printf a S = then-fine (text_of_format a S) _ (λ text T. tt)
