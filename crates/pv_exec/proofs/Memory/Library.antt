-- What holds of a memory and itself, and of a memory before and behind each way in which a step of a call changes it, holds of every call
-- of the library (C17 7.21.6, 7.22.3, 7.24). Only memory management functions make and end instances (7.22.3).
use Rattle.std.proofs.Common.{◌≡◌, ℕ, zero, suc, ◌+◌, ◌*◌, ◌<◌, ◌≤◌, ◌∷◌, ◌++◌, map, pos, negsuc, ℤ, Bool, true, false, not, cond, eqb, List, [], length, length-append, Option, Some, None, Result, Ok, Err, refl, sym, ap, ◌∙◌, subst, arith}
use Rattle.std.proofs.lemmas.List.{length-map}
use Rattle.std.proofs.lemmas.Bool.Decides.{nat_tests}
use Rattle.pv_fault.specs.declared.faults.Clause.{Clause}
use Rattle.pv_fault.specs.declared.faults.Clause.TheVariants as clause
use Rattle.pv_inst.specs.declared.values.Info.{Info}
use Rattle.pv_inst.specs.declared.values.Test.TheVariants.{Block}
use Rattle.pv_inst.specs.declared.values.CreateError.{CreateError}
use Rattle.pv_inst.specs.declared.values.CreateError.TheVariants as error
use Rattle.pv_inst.specs.Use.{use_answer}
use Rattle.pv_object.specs.declared.values.Asker.TheVariants.{Text}
use Rattle.pv_object.specs.Memory.{Mem}
use Rattle.pv_object.specs.Access.{is_null}
use Rattle.pv_object.specs.Creating.{creation}
use Rattle.pv_library.specs.declared.library.Library.{Library}
use Rattle.pv_library.specs.declared.library.Library.TheVariants as library
use Rattle.pv_libc.specs.declared.values.Arg.{Arg}
use Rattle.pv_libc.specs.declared.values.Reply.{Reply}
use Rattle.pv_libc.specs.Steps.{Now, Did, reach_for}
use Rattle.pv_libc.specs.Characters.{character_at, characters_from, most, string_at}
use Rattle.pv_libc.specs.Blocks.{plain_byte, after_filling, copy, memset, memcmp}
use Rattle.std.specs.List.{repeat}
use Rattle.std.specs.Prelude.{min}
use Rattle.pv_num.specs.declared.kinds.IntKind.TheVariants.{UChar}
use Rattle.pv_num.specs.Kinds.{bits_of}
use Rattle.pv_typed.specs.Known.{Each}
use Rattle.pv_libc.specs.Strings.{strlen, compared_from, strcpy}
use Rattle.pv_libc.specs.StringParts.{compared_by, strcmp}
use Rattle.pv_libc.specs.Heap.{told_of, grant_of, request_of_bytes, pointer_or_null, malloc, pointer_to_zeros, calloc, block_by, block, end_of_block, free, after_block_copy, reply_after_move, resize_of, realloc}
use Rattle.pv_libc.specs.HeapParts.{heap_request, with_zeros}
use Rattle.pv_libc.specs.Calls.{argument_at, number, size, called_in, reply_to_call}
use Rattle.pv_exec.proofs.Memory.Reached.{AreInLive, IsAllocation}
use Rattle.pv_exec.proofs.Memory.Ways.{Ways, IsCharacter, when-steps, Steps, next-steps, about-steps, step-if, reached-steps, at-steps, row-steps, text-steps}
use Rattle.pv_exec.proofs.Memory.Characters.{string-small}
use Rattle.pv_exec.proofs.Memory.Printing.{printf-steps}
use Rattle.pv_exec.proofs.Memory.Allocations.{block-is, requested-is, both-table, reached-is, both-reached, told-in-live}

some-size : (n : ℕ) → eqb n 0 ≡ false → 1 ≤ n
some-size n e = grind (arith, nat_tests)

-- 7.24.1p3: characters
plain-character : (v : ℕ) → v < 256 → IsCharacter (plain_byte v)
plain-character v h = record { number = v; value = refl; small = h; nameless = refl }

characters-plain : (vs : List ℕ) → Each (λ (v : ℕ). v < 256) vs → Each IsCharacter (map plain_byte vs)
characters-plain [] h = tt
characters-plain (v ∷ vs) h = (plain-character v h.0, characters-plain vs h.1)

zero-behind : (vs : List ℕ) → Each (λ (v : ℕ). v < 256) vs → Each (λ (v : ℕ). v < 256) (vs ++ 0 ∷ [])
zero-behind [] h = (omega arith, tt)
zero-behind (v ∷ vs) h = (h.0, zero-behind vs h.1)

repeated : (n v : ℕ) → v < 256 → Each IsCharacter (repeat n (plain_byte v ∷ []))
repeated zero v h = tt
repeated (suc n) v h = (plain-character v h, repeated n v h)

repeated-length : (n v : ℕ) → length (repeat n (plain_byte v ∷ [])) ≡ n
repeated-length zero v = refl
repeated-length (suc n) v = ap suc (repeated-length n v)

characters-length : (s : List ℕ) → length (map plain_byte (s ++ 0 ∷ [])) ≡ length s + 1
characters-length s = length-map (s ++ 0 ∷ []) plain_byte ∙ length-append s (0 ∷ [])

character-bits : (c : ℤ) → bits_of UChar c < 256
character-bits (pos a) = omega arith
character-bits (negsuc a) = omega arith

module _ {R : Mem → Mem → Type 0} (w : Ways R) where
  filled-step : (a n v : ℕ) (M : Mem) → v < 256 → AreInLive M.table a n → R M (after_filling M a n v)
  filled-step a n v M h l = w.stores M a (repeat n (plain_byte v ∷ [])) (subst (λ k. AreInLive M.table a k) (sym (repeated-length n v)) l) (repeated n v h)

  -- blocks
  copy-steps : (apart : Bool) (to from : _) (n : ℕ) (S : Now) → Steps w S (copy apart to from n S)
  copy-steps apart to from n S =
      when-steps w (λ t T. AreInLive T.memory.table t.address n) S (reach_for Text true to n S) _ (reached-steps w Text true to n S) (reached-is Text true to n S) (λ t T h.
      when-steps w (λ f U. AreInLive U.memory.table t.address n × AreInLive U.memory.table f.address n) T (reach_for Text false from n T) _ (reached-steps w Text false from n T) (both-reached Text false from n T t.address n h)
      (λ f U g. step-if w U _ _ _ w.itself (w.copies U.memory t.address f.address n g.0 g.1)))

  memset-steps : (g : _) (c : ℤ) (n : ℕ) (S : Now) → Steps w S (memset g c n S)
  memset-steps g c n S =
      when-steps w (λ r T. AreInLive T.memory.table r.address n) S (reach_for Text true g n S) _ (reached-steps w Text true g n S) (reached-is Text true g n S)
      (λ r T h. filled-step r.address n (bits_of UChar c) T.memory (character-bits c) h)

  memcmp-steps : (p q : _) (n : ℕ) (S : Now) → Steps w S (memcmp p q n S)
  memcmp-steps p q n S =
      next-steps w S (reach_for Text false p n S) _ (reached-steps w Text false p n S) (λ l T.
      next-steps w T (reach_for Text false q n T) _ (reached-steps w Text false q n T) (λ r U.
      next-steps w U (characters_from n p l.address [] U) _ (row-steps w n p l.address [] U) (λ ls V.
      next-steps w V (characters_from n q r.address [] V) _ (row-steps w n q r.address [] V) (λ rs W. w.itself))))

  -- strings
  strlen-steps : (g : _) (S : Now) → Steps w S (strlen g S)
  strlen-steps g S = next-steps w S (string_at Text g S) _ (text-steps w Text g S) (λ s T. w.itself)

  by-steps : (a b : ℕ) (S : Now) (rest : Did Reply) → Steps w S rest → Steps w S (compared_by a b S rest)
  by-steps a b S rest h = step-if w S (not (eqb a b)) _ _ w.itself (step-if w S (eqb a 0) _ _ w.itself h)

  compared-steps : (n : ℕ) (p q : _) (i : ℕ) (S : Now) → Steps w S (compared_from n p q i S)
  compared-steps zero p q i S = w.itself
  compared-steps (suc n) p q i S =
      next-steps w S (character_at Text p i S) _ (at-steps w Text p i S) (λ a T.
      next-steps w T (character_at Text q i T) _ (at-steps w Text q i T) (λ b U. by-steps a b U (compared_from n p q (i + 1) U) (compared-steps n p q (i + 1) U)))

  strcmp-steps : (p q : _) (S : Now) → Steps w S (strcmp p q S)
  strcmp-steps p q S = compared-steps most p q 0 S

  strcpy-steps : (to from : _) (S : Now) → Steps w S (strcpy to from S)
  strcpy-steps to from S =
      when-steps w (λ s T. Each (λ (v : ℕ). v < 256) s) S (string_at Text from S) _ (text-steps w Text from S) (string-small Text from S) (λ s T q.
      when-steps w (λ t U. AreInLive U.memory.table t.address (length s + 1)) T (reach_for Text true to (length s + 1) T) _ (reached-steps w Text true to (length s + 1) T) (reached-is Text true to (length s + 1) T)
      (λ t U h. step-if w U _ _ _ w.itself
      (w.stores U.memory t.address (map plain_byte (s ++ 0 ∷ [])) (subst (λ k. AreInLive U.memory.table t.address k) (sym (characters-length s)) h) (characters-plain (s ++ 0 ∷ []) (zero-behind s q)))))

  -- memory management
  granted-steps : (S : Now) (o : Result ℕ CreateError × Mem) → R S.memory o.1 → Steps w S (grant_of S o)
  granted-steps S ((Ok i), N) h = h
  granted-steps S ((Err error.Denied), N) h = h
  granted-steps S ((Err error.NoMemory), N) h = h
  granted-steps S ((Err (error.Storage live wanted)), N) h = h
  granted-steps S ((Err (error.Range k a)), N) h = h
  granted-steps S ((Err (error.Misaligned k a)), N) h = h
  granted-steps S ((Err (error.Overlap k a with)), N) h = h

  requested-by : (S : Now) (b : Bool) (d e : Did (Result ℕ Reply)) → Steps w S d → (b ≡ false → Steps w S e) → Steps w S (cond b d e)
  requested-by S true d e h g = h
  requested-by S false d e h g = g refl

  requested-steps : (n : ℕ) (S : Now) → Steps w S (request_of_bytes n S)
  requested-steps n S =
      requested-by S (eqb n 0) _ (grant_of S (creation S.memory (heap_request n))) w.itself
      (λ e. granted-steps S (creation S.memory (heap_request n)) (w.makes S.memory (heap_request n) (some-size n e) refl))

  allocated-steps : (r : Result ℕ Reply) (S : Now) → Steps w S (pointer_or_null r S)
  allocated-steps (Err x) S = w.itself
  allocated-steps (Ok i) S = w.itself

  malloc-steps : (n : ℕ) (S : Now) → Steps w S (malloc n S)
  malloc-steps n S = next-steps w S (request_of_bytes n S) pointer_or_null (requested-steps n S) allocated-steps

  zeroed-closed : (i : ℕ) (o : Option Info) (M : Mem) → told_of M i ≡ o → R M (with_zeros i o M)
  zeroed-closed i None M e = w.itself
  zeroed-closed i (Some x) M e = filled-step x.base x.size 0 M (omega arith) (told-in-live M i x x.size e (omega arith))

  cleared-steps : (r : Result ℕ Reply) (S : Now) → Steps w S (pointer_to_zeros r S)
  cleared-steps (Err x) S = w.itself
  cleared-steps (Ok i) S = zeroed-closed i (told_of S.memory i) S.memory refl

  calloc-steps : (count n : ℕ) (S : Now) → Steps w S (calloc count n S)
  calloc-steps count n S = next-steps w S (request_of_bytes (count * n) S) pointer_to_zeros (requested-steps (count * n) S) cleared-steps

  block-steps : (c : Clause) (g : _) (S : Now) → Steps w S (block c g S)
  block-steps c g S =
      let t = Block g.pointer.address in
      about-steps w S g.stopped (block_by c g S (use_answer S.memory.table g.pointer.prov t)) (w.uses S.memory g.pointer.prov t)

  free-steps : (g : _) (S : Now) → Steps w S (free g S)
  free-steps g S = step-if w S (is_null g.pointer) _ _ w.itself (when-steps w (λ i T. IsAllocation T.memory.table i) S (block clause.Freeing g S) end_of_block (block-steps clause.Freeing g S) (block-is clause.Freeing g S) (λ i T h. w.ends T.memory i h))

  both-closed : (i j : ℕ) (o p : Option Info) (M : Mem) → told_of M i ≡ o → told_of M j ≡ p → R M (after_block_copy o p M)
  both-closed i j (Some x) (Some y) M e f =
      w.copies M y.base x.base (min x.size y.size) (told-in-live M j y (min x.size y.size) f (omega arith)) (told-in-live M i x (min x.size y.size) e (omega arith))
  both-closed i j (Some x) None M e f = w.itself
  both-closed i j None (Some y) M e f = w.itself
  both-closed i j None None M e f = w.itself

  moved-steps : (i : ℕ) (r : Result ℕ Reply) (S : Now) → IsAllocation S.memory.table i → Steps w S (reply_after_move i r S)
  moved-steps i (Err x) S h = w.itself
  moved-steps i (Ok j) S h =
      let M = after_block_copy (told_of S.memory i) (told_of S.memory j) S.memory in
      w.trans (both-closed i j (told_of S.memory i) (told_of S.memory j) S.memory refl refl) (w.ends M i (subst (λ T. IsAllocation T i) (sym (both-table (told_of S.memory i) (told_of S.memory j) S.memory)) h))

  resized-steps : (n i : ℕ) (S : Now) → IsAllocation S.memory.table i → Steps w S (resize_of n i S)
  resized-steps n i S h =
      step-if w S (eqb n 0) _ _ w.itself (when-steps w (λ r T. IsAllocation T.memory.table i) S (request_of_bytes n S) (reply_after_move i) (requested-steps n S) (requested-is n i S h) (λ r T k. moved-steps i r T k))

  realloc-steps : (g : _) (n : ℕ) (S : Now) → Steps w S (realloc g n S)
  realloc-steps g n S =
      step-if w S (is_null g.pointer) _ _ (malloc-steps n S) (when-steps w (λ i T. IsAllocation T.memory.table i) S (block clause.Reallocating g S) (resize_of n) (block-steps clause.Reallocating g S) (block-is clause.Reallocating g S) (λ i T h. resized-steps n i T h))

  -- each function
  pub called-steps : (f : Library) (a : List Arg) (S : Now) → Steps w S (called_in f a S)
  called-steps library.Malloc a S = malloc-steps (size a 0) S
  called-steps library.Calloc a S = calloc-steps (size a 0) (size a 1) S
  called-steps library.Free a S = free-steps (argument_at a 0 S.memory) S
  called-steps library.Realloc a S = realloc-steps (argument_at a 0 S.memory) (size a 1) S
  called-steps library.Memcpy a S = copy-steps true (argument_at a 0 S.memory) (argument_at a 1 S.memory) (size a 2) S
  called-steps library.Memmove a S = copy-steps false (argument_at a 0 S.memory) (argument_at a 1 S.memory) (size a 2) S
  called-steps library.Memset a S = memset-steps (argument_at a 0 S.memory) (number a 1) (size a 2) S
  called-steps library.Memcmp a S = memcmp-steps (argument_at a 0 S.memory) (argument_at a 1 S.memory) (size a 2) S
  called-steps library.Strlen a S = strlen-steps (argument_at a 0 S.memory) S
  called-steps library.Strcmp a S = strcmp-steps (argument_at a 0 S.memory) (argument_at a 1 S.memory) S
  called-steps library.Strcpy a S = strcpy-steps (argument_at a 0 S.memory) (argument_at a 1 S.memory) S
  called-steps library.Exit a S = w.itself
  called-steps library.Abort a S = w.itself
  called-steps library.Printf a S = printf-steps w a S

  pub called-closed : (f : Library) (args : List Arg) (M : Mem) → R M (reply_to_call f args M).after.memory
  called-closed f args M = called-steps f args (record { memory = M; notes = [] })
