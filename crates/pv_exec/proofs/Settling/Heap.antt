-- Memory management functions (C17 7.22.3) in both runs.
use Rattle.std.proofs.Common.{◌≡◌, ℕ, ◌*◌, ◌≤◌, Bool, true, false, cond, eqb, List, Option, Some, None, Result, Ok, Err, refl, sym, ap, ◌∙◌, subst, arith}
use Rattle.std.proofs.lemmas.Bool.Decides.{nat_tests}
use Rattle.pv_fault.specs.declared.faults.Clause.{Clause}
use Rattle.pv_fault.specs.declared.faults.Clause.TheVariants as clause
use Rattle.pv_prov.specs.Names.{stands}
use Rattle.pv_inst.specs.declared.values.Instance.{Instance}
use Rattle.pv_inst.specs.declared.values.Info.{Info}
use Rattle.pv_inst.specs.declared.values.Test.TheVariants.{Block}
use Rattle.pv_inst.specs.declared.values.Tried.{Tried}
use Rattle.pv_inst.specs.declared.values.Miss.{Miss}
use Rattle.pv_inst.specs.declared.values.Miss.TheVariants as miss
use Rattle.pv_inst.specs.declared.values.CreateError.{CreateError}
use Rattle.pv_inst.specs.declared.values.CreateError.TheVariants as error
use Rattle.pv_inst.specs.Table.{Table, instance_at}
use Rattle.pv_inst.specs.Infos.{info_of}
use Rattle.pv_inst.specs.Use.{use_answer, after_use}
use Rattle.pv_object.specs.declared.values.Pointer.{Pointer}
use Rattle.pv_object.specs.declared.values.Stop.{Stop}
use Rattle.pv_object.specs.declared.values.Stop.TheVariants as stop
use Rattle.pv_fault.specs.declared.verdict.Verdict.TheVariants as verdict
use Rattle.pv_object.specs.Memory.{Mem}
use Rattle.pv_object.specs.Access.{first_survivor, is_null}
use Rattle.pv_object.specs.Creating.{creation, without}
use Rattle.pv_libc.specs.declared.values.Note.{Note}
use Rattle.pv_libc.specs.declared.values.Reply.{Reply}
use Rattle.pv_libc.specs.declared.values.Reply.TheVariants as reply
use Rattle.pv_libc.specs.Steps.{Now, Did, answer_now, next}
use Rattle.pv_libc.specs.Heap.{null, told_of, grant_of, request_of_bytes, pointer_or_null, malloc, pointer_to_zeros, calloc, block_stop, block_in, the_block, block_by, block, end_of_block, free, after_block_copy, reply_after_move, resize_of, realloc}
use Rattle.pv_libc.specs.HeapParts.{heap_request, with_zeros}
use Rattle.pv_exec.proofs.Memory.Rows.{Sound, Leads, led-itself}
use Rattle.pv_exec.proofs.Memory.Tables.{leading, use-leads, ended-leads}
use Rattle.pv_exec.proofs.Settling.Sides.{on_sides, on_table, on_memory, Allows, Covers}
use Rattle.pv_exec.proofs.Settling.Uses.{Agree, use-agrees, settled-covers}
use Rattle.pv_exec.proofs.Settling.Along.{IsFault}
use Rattle.pv_exec.proofs.Settling.Pointers.{Equal}
use Rattle.pv_exec.proofs.Settling.Starts.{start-hit, start-same, block-fixes}
use Rattle.pv_exec.proofs.Settling.Accesses.{created-on, created-pairs, without-on, without-pairs}
use Rattle.pv_exec.proofs.Settling.Steps.{on_now, Beside, Walks, lost-beside, Goes, done-goes, either-goes, next-goes, about-goes}

some-size : (n : ℕ) → eqb n 0 ≡ false → 1 ≤ n
some-size n e = grind (arith, nat_tests)

module _ (F : Type 0) (full : F) (ds : List Bool) where
  block-fault : (c : Clause) (m : Miss) → IsFault (block_stop c m)
  block-fault c miss.Ended = tt
  block-fault c miss.Empty = tt
  block-fault c miss.Outside = tt
  block-fault c miss.Block = tt
  block-fault c miss.Apart = tt
  block-fault c miss.Undecided = tt

  -- what the test answers
  block-is : (c : Clause) (M : Mem) (xs : List Instance) (o : Option ℕ) (i : ℕ) (x : Instance) → M.table.instances ≡ xs → o ≡ Some i → instance_at xs i ≡ Some x → x.live ≡ true → the_block c M o ≡ Ok i
  block-is c M xs o i x e f g l =
      ap (the_block c M) f ∙ ap (λ ys. block_in c i (info_of (instance_at ys i))) e ∙ ap (λ q. block_in c i (info_of q)) g
      ∙ ap (λ b. block_in c i (cond b (Some (record { name = x.name; k = x.k; base = x.base; size = x.size; kind = x.kind; exposed = x.exposed })) None)) l

  block-by : (c : Clause) (p : Pointer) (n n' : Note) (S : Now) (ns : List Note) → Sound F S.memory.table.instances S.memory.table.pairs → (r r' : Result Tried Miss)
      → use_answer S.memory.table p.prov (Block p.address) ≡ r → use_answer (on_table ds S.memory.table) p.prov (Block p.address) ≡ r' → Agree ds r (after_use S.memory.table p.prov r) r' (after_use (on_table ds S.memory.table) p.prov r')
      → Walks ds Equal (block_by c (record { pointer = p; stopped = n }) S r) (block_by c (record { pointer = p; stopped = n' }) (on_now ds ns S) r')
  block-by c p n n' S ns so (Ok t) (Ok t') e f h =
      let T = S.memory.table in
      let g = start-hit T p.prov (Block p.address) p.address (block-fixes T.zap p.address) t e in
      let k = start-hit (on_table ds T) p.prov (Block p.address) p.address (block-fixes T.zap p.address) t' f in
      let U = after_use T p.prov (Ok t) in
      let U' = after_use (on_table ds T) p.prov (Ok t') in
      let late : the_block c S.memory (first_survivor (stands T.pairs p.prov) t) ≡ Ok g.number = block-is c S.memory T.instances (first_survivor (stands T.pairs p.prov) t) g.number g.inst refl g.is g.here g.live in
      let other : the_block c (on_memory ds S.memory) (first_survivor (stands (on_sides ds T.pairs) p.prov) t') ≡ Ok k.number = block-is c (on_memory ds S.memory) T.instances (first_survivor (stands (on_sides ds T.pairs) p.prov) t') k.number k.inst refl k.is k.here k.live in
      subst (λ x. Beside ds Equal x (record S.memory { table = U }) (the_block c (on_memory ds S.memory) (first_survivor (stands (on_sides ds T.pairs) p.prov) t')) (record (on_memory ds S.memory) { table = U' })) (sym late)
      (subst (λ x. Beside ds Equal (Ok g.number) (record S.memory { table = U }) x (record (on_memory ds S.memory) { table = U' })) (sym other)
      (start-same F full ds T so p.prov p.address t t' g k, h.0, ap (λ (W : Table). record S.memory { table = W }) h.1))
  block-by c p n n' S ns so (Ok t) (Err m') e f h =
      lost-beside ds Equal (the_block c S.memory (first_survivor (stands S.memory.table.pairs p.prov) t)) (record S.memory { table = after_use S.memory.table p.prov (Ok t) }) (block_stop c m') (record (on_memory ds S.memory) { table = after_use (on_table ds S.memory.table) p.prov (Err m') }) (block-fault c m') h
  block-by c p n n' S ns so (Err m) (Ok t') e f h = absurd h
  block-by c p n n' S ns so (Err m) (Err m') e f h = go (block_stop c m) (block-fault c m)
    where
      go : (y : Stop) → IsFault y → Beside {A = ℕ} ds Equal (Err y) (record S.memory { table = after_use S.memory.table p.prov (Err m) }) (Err (block_stop c m')) (record (on_memory ds S.memory) { table = after_use (on_table ds S.memory.table) p.prov (Err m') })
      go (stop.Ends (verdict.Undefined x)) k = block-fault c m'
      go (stop.Ends verdict.Indeterminate) k = absurd k
      go (stop.Ends verdict.Undecided) k = tt
      go stop.NoMemory k = tt

  pub block-goes : (c : Clause) (p : Pointer) (n n' : Note) → Goes F ds ℕ Equal (block c (record { pointer = p; stopped = n })) (block c (record { pointer = p; stopped = n' }))
  block-goes c p n n' =
      about-goes F ds Equal n n' (λ S. block_by c (record { pointer = p; stopped = n }) S (use_answer S.memory.table p.prov (Block p.address))) (λ S. block_by c (record { pointer = p; stopped = n' }) S (use_answer S.memory.table p.prov (Block p.address)))
      (record {
        leads = λ S. use-leads {F = F} S.memory.table p.prov (Block p.address);
        covers = λ S k. settled-covers ds S.memory.table p.prov (use_answer S.memory.table p.prov (Block p.address)) k;
        walks = λ S ns so al k. block-by c p n n' S ns so (use_answer S.memory.table p.prov (Block p.address)) (use_answer (on_table ds S.memory.table) p.prov (Block p.address)) refl refl (use-agrees ds S.memory.table p.prov (Block p.address) al);
      })

  -- a request
  granted-by : (S : Now) (ns : List Note) (got : Result ℕ CreateError × Mem) → Allows ds got.1.table.pairs → Walks ds Equal (grant_of S got) (grant_of (on_now ds ns S) (got.0, on_memory ds got.1))
  granted-by S ns ((Ok i), N) al = (refl, al, refl)
  granted-by S ns ((Err error.Denied), N) al = (refl, al, refl)
  granted-by S ns ((Err error.NoMemory), N) al = tt
  granted-by S ns ((Err (error.Storage live wanted)), N) al = (refl, al, refl)
  granted-by S ns ((Err (error.Range k a)), N) al = (refl, al, refl)
  granted-by S ns ((Err (error.Misaligned k a)), N) al = (refl, al, refl)
  granted-by S ns ((Err (error.Overlap k a with)), N) al = (refl, al, refl)

  granted-leads : (S : Now) (got : Result ℕ CreateError × Mem) → Leads F S.memory.table got.1.table → Leads F S.memory.table (grant_of S got).after.memory.table
  granted-leads S ((Ok i), N) h = h
  granted-leads S ((Err error.Denied), N) h = h
  granted-leads S ((Err error.NoMemory), N) h = h
  granted-leads S ((Err (error.Storage live wanted)), N) h = h
  granted-leads S ((Err (error.Range k a)), N) h = h
  granted-leads S ((Err (error.Misaligned k a)), N) h = h
  granted-leads S ((Err (error.Overlap k a with)), N) h = h

  granted-covers : (S : Now) (got : Result ℕ CreateError × Mem) → Covers ds got.1.table.pairs → Covers ds (grant_of S got).after.memory.table.pairs
  granted-covers S ((Ok i), N) h = h
  granted-covers S ((Err error.Denied), N) h = h
  granted-covers S ((Err error.NoMemory), N) h = h
  granted-covers S ((Err (error.Storage live wanted)), N) h = h
  granted-covers S ((Err (error.Range k a)), N) h = h
  granted-covers S ((Err (error.Misaligned k a)), N) h = h
  granted-covers S ((Err (error.Overlap k a with)), N) h = h

  requested-by : (size : ℕ) (b : Bool) → eqb size 0 ≡ b → Goes F ds (Result ℕ Reply) Equal (λ S. cond b (answer_now (Err (reply.Value null)) S) (grant_of S (creation S.memory (heap_request size)))) (λ S. cond b (answer_now (Err (reply.Value null)) S) (grant_of S (creation S.memory (heap_request size))))
  requested-by size true e = done-goes F ds Equal (Err (reply.Value null)) (Err (reply.Value null)) refl
  requested-by size false e = record {
    leads = λ S. granted-leads S (creation S.memory (heap_request size)) ((leading F).makes S.memory (heap_request size) (λ f. some-size size e));
    covers = λ S k. granted-covers S (creation S.memory (heap_request size)) (subst (λ ts. Covers ds ts) (sym (created-pairs S.memory (heap_request size))) k);
    walks = λ S ns so al k.
        subst (λ q. Walks ds Equal (grant_of S (creation S.memory (heap_request size))) (grant_of (on_now ds ns S) q)) (sym (created-on ds S.memory (heap_request size)))
        (granted-by S ns (creation S.memory (heap_request size)) (subst (λ ts. Allows ds ts) (sym (created-pairs S.memory (heap_request size))) al));
  }

  requested-goes : (size : ℕ) → Goes F ds (Result ℕ Reply) Equal (request_of_bytes size) (request_of_bytes size)
  requested-goes size = requested-by size (eqb size 0) refl

  -- steps that change bytes alone
  allocated-goes : (r : Result ℕ Reply) → Goes F ds Reply Equal (pointer_or_null r) (pointer_or_null r)
  allocated-goes (Err x) = done-goes F ds Equal x x refl
  allocated-goes (Ok i) = record { leads = λ S. led-itself; covers = λ S k. k; walks = λ S ns so al k. (refl, al, refl) }

  same-step : {A B : Type 0} (g : A → Now → Did B) → ((a : A) → Goes F ds B Equal (g a) (g a)) → (a a' : A) → Equal a a' → Goes F ds B Equal (g a) (g a')
  same-step {A} {B} g h a a' e = subst (λ x. Goes F ds B Equal (g a) (g x)) (sym e) (h a)

  pub malloc-goes : (size : ℕ) → Goes F ds Reply Equal (malloc size) (malloc size)
  malloc-goes size = next-goes F ds Equal Equal (λ a. refl) (request_of_bytes size) (request_of_bytes size) pointer_or_null pointer_or_null (requested-goes size) (same-step pointer_or_null allocated-goes)

  zeroed-table : (i : ℕ) (o : Option Info) (M : Mem) → (with_zeros i o M).table ≡ M.table
  zeroed-table i None M = refl
  zeroed-table i (Some x) M = refl

  zeroed-on : (i : ℕ) (o : Option Info) (M : Mem) → with_zeros i o (on_memory ds M) ≡ on_memory ds (with_zeros i o M)
  zeroed-on i None M = refl
  zeroed-on i (Some x) M = refl

  cleared-goes : (r : Result ℕ Reply) → Goes F ds Reply Equal (pointer_to_zeros r) (pointer_to_zeros r)
  cleared-goes (Err x) = done-goes F ds Equal x x refl
  cleared-goes (Ok i) = record {
    leads = λ S. subst (λ (T : Table). Leads F S.memory.table T) (sym (zeroed-table i (told_of S.memory i) S.memory)) led-itself;
    covers = λ S k. subst (λ (T : Table). Covers ds T.pairs) (sym (zeroed-table i (told_of S.memory i) S.memory)) k;
    walks = λ S ns so al k. (refl, subst (λ (T : Table). Allows ds T.pairs) (sym (zeroed-table i (told_of S.memory i) S.memory)) al, zeroed-on i (told_of S.memory i) S.memory);
  }

  pub calloc-goes : (count size : ℕ) → Goes F ds Reply Equal (calloc count size) (calloc count size)
  calloc-goes count size = next-goes F ds Equal Equal (λ a. refl) (request_of_bytes (count * size)) (request_of_bytes (count * size)) pointer_to_zeros pointer_to_zeros (requested-goes (count * size)) (same-step pointer_to_zeros cleared-goes)

  freed-goes : (i : ℕ) → Goes F ds Reply Equal (end_of_block i) (end_of_block i)
  freed-goes i = record {
    leads = λ S. ended-leads {F = F} S.memory.table i;
    covers = λ S k. subst (λ ts. Covers ds ts) (sym (without-pairs S.memory i)) k;
    walks = λ S ns so al k. (refl, subst (λ ts. Allows ds ts) (sym (without-pairs S.memory i)) al, without-on ds S.memory i);
  }

  pub free-goes : (p : Pointer) (n n' : Note) → Goes F ds Reply Equal (free (record { pointer = p; stopped = n })) (free (record { pointer = p; stopped = n' }))
  free-goes p n n' =
      either-goes F ds Equal (is_null p) (answer_now reply.Nothing) (answer_now reply.Nothing) (λ S. next (block clause.Freeing (record { pointer = p; stopped = n }) S) end_of_block) (λ S. next (block clause.Freeing (record { pointer = p; stopped = n' }) S) end_of_block)
      (done-goes F ds Equal reply.Nothing reply.Nothing refl)
      (next-goes F ds Equal Equal (λ a. refl) (block clause.Freeing (record { pointer = p; stopped = n })) (block clause.Freeing (record { pointer = p; stopped = n' })) end_of_block end_of_block (block-goes clause.Freeing p n n') (same-step end_of_block freed-goes))

  both-table : (o q : Option Info) (M : Mem) → (after_block_copy o q M).table ≡ M.table
  both-table (Some x) (Some y) M = refl
  both-table (Some x) None M = refl
  both-table None (Some y) M = refl
  both-table None None M = refl

  both-on : (o q : Option Info) (M : Mem) → after_block_copy o q (on_memory ds M) ≡ on_memory ds (after_block_copy o q M)
  both-on (Some x) (Some y) M = refl
  both-on (Some x) None M = refl
  both-on None (Some y) M = refl
  both-on None None M = refl

  moved-goes : (i : ℕ) (r : Result ℕ Reply) → Goes F ds Reply Equal (reply_after_move i r) (reply_after_move i r)
  moved-goes i (Err x) = done-goes F ds Equal x x refl
  moved-goes i (Ok j) = record {
    leads = λ S. subst (λ (T : Table). Leads F T (without (copies S) i).table) (both-table (told_of S.memory i) (told_of S.memory j) S.memory) (ended-leads {F = F} (copies S).table i);
    covers = λ S k. subst (λ ts. Covers ds ts) (sym (pairs S)) k;
    walks = λ S ns so al k. (refl, subst (λ ts. Allows ds ts) (sym (pairs S)) al, ap (λ (M : Mem). without M i) (both-on (told_of S.memory i) (told_of S.memory j) S.memory) ∙ without-on ds (copies S) i);
  }
    where
      copies : Now → Mem
      copies S = after_block_copy (told_of S.memory i) (told_of S.memory j) S.memory

      pairs : (S : Now) → (without (after_block_copy (told_of S.memory i) (told_of S.memory j) S.memory) i).table.pairs ≡ S.memory.table.pairs
      pairs S = without-pairs (after_block_copy (told_of S.memory i) (told_of S.memory j) S.memory) i ∙ ap (λ (T : Table). T.pairs) (both-table (told_of S.memory i) (told_of S.memory j) S.memory)

  resized-goes : (size i : ℕ) → Goes F ds Reply Equal (resize_of size i) (resize_of size i)
  resized-goes size i =
      either-goes F ds Equal (eqb size 0) (answer_now (reply.Value null)) (answer_now (reply.Value null)) (λ S. next (request_of_bytes size S) (reply_after_move i)) (λ S. next (request_of_bytes size S) (reply_after_move i))
      (done-goes F ds Equal (reply.Value null) (reply.Value null) refl)
      (next-goes F ds Equal Equal (λ a. refl) (request_of_bytes size) (request_of_bytes size) (reply_after_move i) (reply_after_move i) (requested-goes size) (same-step (reply_after_move i) (moved-goes i)))

  pub realloc-goes : (p : Pointer) (n n' : Note) (size : ℕ) → Goes F ds Reply Equal (realloc (record { pointer = p; stopped = n }) size) (realloc (record { pointer = p; stopped = n' }) size)
  realloc-goes p n n' size =
      either-goes F ds Equal (is_null p) (malloc size) (malloc size) (λ S. next (block clause.Reallocating (record { pointer = p; stopped = n }) S) (resize_of size)) (λ S. next (block clause.Reallocating (record { pointer = p; stopped = n' }) S) (resize_of size))
      (malloc-goes size)
      (next-goes F ds Equal Equal (λ a. refl) (block clause.Reallocating (record { pointer = p; stopped = n })) (block clause.Reallocating (record { pointer = p; stopped = n' })) (resize_of size) (resize_of size) (block-goes clause.Reallocating p n n') (same-step (resize_of size) (resized-goes size)))
