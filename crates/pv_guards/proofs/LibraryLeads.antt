-- A call of the library keeps bytes fair, and what it replies is of its type (C17 7.21.6, 7.22.3, 7.24).
use Rattle.std.proofs.Common.{◌≡◌, ℕ, zero, suc, ◌+◌, ◌*◌, ◌<◌, ◌≤◌, ◌^◌, ℤ, pos, negsuc, Bool, true, false, ◌&&◌, not, cond, eqb, ltb, List, [], ◌∷◌, ◌++◌, length, map, Option, Some, None, Result, Ok, Err, refl, sym, ap, ◌∙◌, subst, arith, ◌⊎◌, inl, inr}
use Rattle.std.specs.List.{slice_get}
use Rattle.std.proofs.lemmas.Int.{ints}
use Rattle.std.proofs.lemmas.Option.{none-some}
use Rattle.pv_num.specs.declared.kinds.IntKind.TheVariants.{Int, ULong}
use Rattle.pv_fault.specs.declared.faults.Clause.{Clause}
use Rattle.pv_fault.specs.declared.faults.Clause.TheVariants as clause
use Rattle.pv_num.specs.Kinds.{Fits, convert_of}
use Rattle.pv_num.proofs.Congruence.{equal_fits}
use Rattle.pv_types.specs.Ty.{Ty, VoidTy, IntTy, PointerTo}
use Rattle.pv_types.specs.Layouts.{Entry}
use Rattle.pv_prov.specs.declared.names.Prov.TheVariants.{Empty, Inst}
use Rattle.pv_inst.specs.declared.values.Info.{Info}
use Rattle.pv_inst.specs.declared.values.Instance.{Instance}
use Rattle.pv_inst.specs.declared.values.CreateError.{CreateError}
use Rattle.pv_inst.specs.declared.values.CreateError.TheVariants as error
use Rattle.pv_inst.specs.declared.values.Test.TheVariants.{Block}
use Rattle.pv_inst.specs.Infos.{info_of}
use Rattle.pv_inst.specs.Table.{Table, instance_at, IsNumber}
use Rattle.pv_inst.specs.Placing.{Request, place}
use Rattle.pv_inst.specs.Use.{use_answer, after_use}
use Rattle.pv_inst.specs.Ending.{after_end}
use Rattle.pv_shadow.specs.declared.byte.Byte.{Byte}
use Rattle.pv_shadow.specs.Bytes.{Store, bytes_from}
use Rattle.pv_object.specs.declared.values.Asker.TheVariants.{Text}
use Rattle.pv_object.specs.declared.values.Pointer.{Pointer}
use Rattle.pv_object.specs.declared.values.Stop.{Stop}
use Rattle.pv_object.specs.declared.values.Value.{Value}
use Rattle.pv_object.specs.declared.values.Value.TheVariants as value
use Rattle.pv_object.specs.Memory.{Mem, with_table}
use Rattle.pv_object.specs.Access.{is_null}
use Rattle.pv_object.specs.Creating.{with_new_bytes}
use Rattle.pv_object.specs.OperationParts.{blank_in, cleared_in}
use Rattle.pv_object.specs.Copying.{with_bytes, after_copy}
use Rattle.pv_object.proofs.Born.{born}
use Rattle.pv_library.specs.declared.library.Library.{Library}
use Rattle.pv_library.specs.declared.library.Library.TheVariants as library
use Rattle.pv_libc.specs.declared.values.Arg.{Arg}
use Rattle.pv_libc.specs.declared.values.Reply.{Reply}
use Rattle.pv_libc.specs.declared.values.Reply.TheVariants as reply
use Rattle.pv_libc.specs.Steps.{Now, Did, with_notes, in_memory, stop_now, next, next_by, about_by, reach_for}
use Rattle.pv_libc.specs.Characters.{character_at, characters_from, most, string_at}
use Rattle.pv_libc.specs.Blocks.{plain_byte, share, copy, memset, memcmp, difference, sign_of, answers}
use Rattle.pv_libc.specs.Strings.{strlen, compared_from, strcpy}
use Rattle.pv_libc.specs.StringParts.{compared_by}
use Rattle.pv_libc.specs.Heap.{told_of, grant_of, request_of_bytes, pointer_or_null, malloc, pointer_to_zeros, calloc, block_by, block, end_of_block, free, after_block_copy, reply_after_move, resize_of, realloc}
use Rattle.pv_libc.specs.HeapParts.{base_of, heap_request, with_zeros}
use Rattle.pv_libc.specs.Calls.{value_in, pointer_in, pointer, argument_at, number, size, text_of_format, printf, reply_to_call, output}
use Rattle.pv_typed.specs.Known.{Each}
use Rattle.pv_exec.specs.Laying.{IsLaidOut}
use Rattle.pv_exec.proofs.Memory.Rows.{Leads as Led, led-itself, led-trans}
use Rattle.pv_exec.proofs.Memory.Pointers.{reach-leads, value-leads, to_int-leads}
use Rattle.pv_exec.proofs.Memory.Tables.{use-leads, ended-leads, place-leads}
use Rattle.pv_exec.proofs.Memory.Ways.{Ways, IsCharacter, When}
use Rattle.pv_exec.proofs.Memory.Characters.{when-all, string-short}
use Rattle.pv_exec.proofs.Memory.Allocations.{both-table}
use Rattle.pv_exec.proofs.Memory.Library.{called-closed}
use Rattle.pv_exec.proofs.Memory.Calls.{called-leads}
use Rattle.pv_eval.specs.States.{Setting}
use Rattle.pv_eval.specs.Library.{done_by_reply, with_memory, done_by_call, asks}
use Rattle.pv_world.specs.Worlds.{Worth, Nothing, Scalar, World}
use Rattle.pv_world.specs.Telling.{Told}
use Rattle.pv_typed.specs.TypedUnits.{layouts}
use Rattle.pv_guards.specs.Worths.{IsOfType}
use Rattle.pv_guards.specs.Typed.{IsResultOf}
use Rattle.pv_guards.specs.Fair.{IsFair, AreFair, IsFairPointer, IsFairValue, IsArgument}
use Rattle.pv_guards.specs.Soundness.{IsSound, AllLiveStill}
use Rattle.pv_guards.specs.Soundness as sound
use Rattle.pv_guards.specs.Promises.{Promised}
use Rattle.pv_eval.specs.Operations.{Asks}
use Rattle.pv_guards.proofs.Fair.{Keeps, store-later, read-fair, written-fair, spread-fair, cleared-fair, nameless-fair}
use Rattle.pv_guards.proofs.Made.{instance-there, number-of, made-led, laid-led, led-changes}
use Rattle.pv_guards.proofs.Results.{Answering}
use Rattle.pv_guards.proofs.Living.{all-same, all-on, same-live, uses-live, reach-live, value-live, to_int-live, place-live, ended-live}
use Rattle.pv_guards.proofs.Leaving.{Keeping, value-later}

-- from a memory to a later one, whose bytes are as fair, and in which what is no allocation lives still
pub record Onto (b : Setting) (M N : Mem) : Type 0 where
  pub led : Led ⊥ M.table N.table
  pub live : AllLiveStill M.table N.table
  pub fair : AreFair M.table M.bytes → AreFair N.table N.bytes

module _ (b : Setting) where
  table-onto : (M : Mem) (U : Table) → Led ⊥ M.table U → AllLiveStill M.table U → Onto b M (with_table M U)
  table-onto M U l a = record { led = l; live = a; fair = λ h. store-later M.table U (made-led M.table U l) M.bytes h }

  characters-fair : (T : Table) (bytes : List Byte) → Each IsCharacter bytes → Each (IsFair T) bytes
  characters-fair T [] h = tt
  characters-fair T (x ∷ bytes) h = (nameless-fair T x h.0.number h.0.value h.0.small h.0.nameless, characters-fair T bytes h.1)

  pub blank-fair : (T : Table) (o : Option Instance) (m : Store) → AreFair T m → AreFair T (blank_in o m)
  blank-fair T None m h = h
  blank-fair T (Some x) m h = spread-fair T m x.base x.size h

  pub cleared-in-fair : (T : Table) (o : Option Instance) (m : Store) → AreFair T m → AreFair T (cleared_in o m)
  cleared-in-fair T None m h = h
  cleared-in-fair T (Some x) m h = cleared-fair T m x.base x.size h

  made-onto : (M : Mem) (w : Result ℕ CreateError × Table) → Led ⊥ M.table w.1 → AllLiveStill M.table w.1 → Onto b M (with_new_bytes M w).1
  made-onto M (Ok i, U) l a = record { led = l; live = a; fair = λ h. blank-fair U (instance_at U.instances i) M.bytes (store-later M.table U (made-led M.table U l) M.bytes h) }
  made-onto M (Err e, U) l a = table-onto M U l a

  pub onward : Ways (Onto b)
  onward = record {
    itself = λ {M}. record { led = led-itself; live = all-same M.table; fair = λ h. h };
    trans = λ {M} {N} {O} h g. record { led = led-trans h.led g.led; live = all-on M.table N.table O.table h.live g.live; fair = λ f. g.fair (h.fair f) };
    told = λ M. table-onto M (record M.table { pending = [] }) led-itself (same-live M.table (record M.table { pending = [] }) refl);
    uses = λ M p t. table-onto M _ (use-leads M.table p t) (uses-live M.table p (use_answer M.table p t));
    reaches = λ M p n align write by. table-onto M _ (reach-leads (led-changes b) M p n align write by) (reach-live M.table p n align write by);
    loads = λ M bytes t. table-onto M _ (value-leads (led-changes b) M bytes t) (value-live M.table bytes t);
    numbers = λ M p k. table-onto M _ (to_int-leads (led-changes b) M p k) (to_int-live M.table p k);
    makes = λ M r some none. made-onto M (place M.table r) (place-leads M.table r (λ x. absurd x)) (place-live M.table r none);
    ends = λ M i a. record { led = ended-leads M.table i; live = ended-live M.table i a; fair = λ h. cleared-in-fair (after_end M.table i) (instance_at M.table.instances i) M.bytes (store-later M.table (after_end M.table i) (made-led M.table (after_end M.table i) (ended-leads M.table i)) M.bytes h) };
    stores = λ M a bytes l c. record { led = led-itself; live = all-same M.table; fair = λ h. written-fair M.table M.bytes a bytes h (characters-fair M.table bytes c) };
    copies = λ M to from n l k. record { led = led-itself; live = all-same M.table; fair = λ h. written-fair M.table M.bytes to (bytes_from M.bytes from n) h (read-fair M.table M.bytes from n h) };
  }

  pub call-fair : (f : Library) (args : List Arg) (M : Mem) → AreFair M.table M.bytes → AreFair (reply_to_call f args M).after.memory.table (reply_to_call f args M).after.memory.bytes
  call-fair f args M h = (called-closed onward f args M).fair h

  -- replies
  abbrev IsScalarOf : Ty → Value → Type 0
  IsScalarOf t v = (env : List Entry) → IsOfType env t (Scalar v)

  -- a reply that is of this type: its name was made before the call, or by it
  abbrev Fitting : Ty → Table → Table → Reply → Type 0
  Fitting t T U reply.Nothing = t ≡ VoidTy
  Fitting t T U (reply.Value v) = IsScalarOf t v × (IsFairValue T v ⊎ IsFairValue U v)
  Fitting t T U (reply.Exit n) = Unit {0}
  Fitting t T U reply.Abort = Unit {0}
  Fitting t T U (reply.Placement e) = Unit {0}

  -- where a step answers, it holds of its answer and of what it leaves
  abbrev Leaves : {A : Type 0} → (A → Now → Type 0) → Did A → Type 0
  Leaves P d = When (λ a. P a d.after) d.answer

  leaves-by : {A B : Type 0} (P : A → Now → Type 0) (Q : B → Now → Type 0) (r : Result A Stop) (d : Did A) (rest : A → Now → Did B) → When (λ a. P a d.after) r → ((a : A) (T : Now) → P a T → Leaves Q (rest a T)) → Leaves Q (next_by r d rest)
  leaves-by P Q (Ok a) d rest p g = g a d.after p
  leaves-by P Q (Err y) d rest p g = tt

  leaves-next : {A B : Type 0} (P : A → Now → Type 0) (Q : B → Now → Type 0) (d : Did A) (rest : A → Now → Did B) → Leaves P d → ((a : A) (T : Now) → P a T → Leaves Q (rest a T)) → Leaves Q (next d rest)
  leaves-next P Q d rest p g = leaves-by P Q d.answer d rest p g

  leaves-if : {A : Type 0} (P : A → Now → Type 0) (c : Bool) (d e : Did A) → Leaves P d → Leaves P e → Leaves P (cond c d e)
  leaves-if P true d e h g = h
  leaves-if P false d e h g = g

  leaves-or-stops : {A : Type 0} (P : A → Now → Type 0) (c : Bool) (y : Stop) (V : Now) (e : Did A) → Leaves P e → Leaves P (cond c (stop_now y V) e)
  leaves-or-stops P true y V e h = tt
  leaves-or-stops P false y V e h = h

  any-step : {A : Type 0} (d : Did A) → Leaves (λ a T. Unit {0}) d
  any-step d = when-all _ d.answer (λ a. tt)

  -- pointers that are handed back
  module _ (t s : Ty) (T : Table) where
    abbrev Replies : Reply → Now → Type 0
    Replies r U = Fitting (PointerTo s) T U.memory.table r

    abbrev Handed : Pointer → Type 0
    Handed p = (p.address < 2 ^ 64) × IsFairPointer T p

    module _ (args : List Arg) (M : Mem) (h : Handed (pointer args 0)) where
      copy-replies : (apart : Bool) (n : ℕ) (S : Now) → Leaves Replies (copy apart (argument_at args 0 M) (argument_at args 1 M) n S)
      copy-replies apart n S =
          let to = argument_at args 0 M in
          let from = argument_at args 1 M in
          leaves-next (λ a T. Unit {0}) Replies (reach_for Text true to n S) _ (any-step (reach_for Text true to n S)) (λ a V u.
          leaves-next (λ a T. Unit {0}) Replies (reach_for Text false from n V) _ (any-step (reach_for Text false from n V)) (λ f U u. leaves-or-stops Replies (apart && share to.pointer.address from.pointer.address n) _ _ (answers to (in_memory U (after_copy U.memory a.address f.address n))) (λ env. h.0, inl h.1)))

      memset-replies : (c : ℤ) (n : ℕ) (S : Now) → Leaves Replies (memset (argument_at args 0 M) c n S)
      memset-replies c n S =
          let g = argument_at args 0 M in
          leaves-next (λ a T. Unit {0}) Replies (reach_for Text true g n S) _ (any-step (reach_for Text true g n S)) (λ a V u. (λ env. h.0, inl h.1))

      strcpy-replies : (S : Now) → Leaves Replies (strcpy (argument_at args 0 M) (argument_at args 1 M) S)
      strcpy-replies S =
          let to = argument_at args 0 M in
          let from = argument_at args 1 M in
          leaves-next (λ a T. Unit {0}) Replies (string_at Text from S) _ (any-step (string_at Text from S)) (λ x V u.
          leaves-next (λ a T. Unit {0}) Replies (reach_for Text true to (length x + 1) V) _ (any-step (reach_for Text true to (length x + 1) V)) (λ f U u. leaves-or-stops Replies (share to.pointer.address from.pointer.address (length x + 1)) _ _ (answers to (in_memory U (with_bytes U.memory f.address (map plain_byte (x ++ 0 ∷ []))))) (λ env. h.0, inl h.1)))

    -- allocations
    null-fits : (U : Table) → Fitting (PointerTo s) T U (reply.Value (value.Pointer (record { address = 0; prov = Empty })))
    null-fits U = (λ env. omega arith, inl (tt, λ q. absurd cc))

    abbrev Granted : Result ℕ Reply → Now → Type 0
    Granted (Ok i) U = IsNumber U.memory.table.instances i × IsLaidOut U.memory.table
    Granted (Err r) U = Replies r U

    made-number : (M : Mem) (r : Request) (w : Result ℕ CreateError × Table) → place M.table r ≡ w → (i : ℕ) → w.0 ≡ Ok i → IsNumber w.1.instances i
    made-number M r (Ok j, U) e i f =
        let n = born M.table U r i (sym f ∙ ap (λ (x : Result ℕ CreateError × Table). x.0) (sym e)) (ap (λ (x : Result ℕ CreateError × Table). x.1) (sym e)) in
        number-of U.instances i n.inst n.is
    made-number M r (Err y, U) e i f = absurd cc

    granted-by : (S : Now) (r : Request) (w : Result ℕ CreateError × Table) → place S.memory.table r ≡ w → Led ⊥ S.memory.table w.1 → IsLaidOut S.memory.table → Leaves Granted (grant_of S (with_new_bytes S.memory w))
    granted-by S r (Ok i, U) e l h = (made-number S.memory r (Ok i, U) e i refl, laid-led S.memory.table U l h)
    granted-by S r (Err error.Denied, U) e l h = null-fits U
    granted-by S r (Err error.NoMemory, U) e l h = tt
    granted-by S r (Err (error.Storage live wanted), U) e l h = tt
    granted-by S r (Err (error.Range k a), U) e l h = tt
    granted-by S r (Err (error.Misaligned k a), U) e l h = tt
    granted-by S r (Err (error.Overlap k a other), U) e l h = tt

    requested-gives : (n : ℕ) (S : Now) → IsLaidOut S.memory.table → Leaves Granted (request_of_bytes n S)
    requested-gives n S h =
        leaves-if Granted (eqb n 0) _ _ (null-fits S.memory.table)
        (granted-by S (heap_request n) (place S.memory.table (heap_request n)) refl (place-leads S.memory.table (heap_request n) (λ x. absurd x)) h)

    info-low : (c : Bool) (x : Info) → x.base ≤ 2 ^ 47 → base_of (cond c (Some x) None) < 2 ^ 48
    info-low true x h = omega (arith, h)
    info-low false x h = omega arith

    base-low : (o : Option Instance) (x : Instance) → o ≡ Some x → x.base + x.size ≤ 2 ^ 47 → base_of (info_of o) < 2 ^ 48
    base-low None x e h = absurd (none-some x e)
    base-low (Some y) x e h =
        let same : x ≡ y = cc in
        let l : y.base + y.size ≤ 2 ^ 47 = subst (λ (z : Instance). z.base + z.size ≤ 2 ^ 47) same h in
        info-low y.live _ (omega (arith, l))

    pointer-fits : (M : Mem) (i : ℕ) → IsNumber M.table.instances i → IsLaidOut M.table → (base_of (told_of M i) < 2 ^ 64) × IsFairPointer M.table (record { address = base_of (told_of M i); prov = Inst i })
    pointer-fits M i n h =
        let x = instance-there M.table.instances i n in
        let l = base-low (instance_at M.table.instances i) x.0 x.1 (h.within i x.0 x.1).upto in
        (omega (arith, l), (n, λ q. l))

    allocated-replies : (r : Result ℕ Reply) (S : Now) → Granted r S → Leaves Replies (pointer_or_null r S)
    allocated-replies (Err r) S h = h
    allocated-replies (Ok i) S h = let p = pointer-fits S.memory i h.0 h.1 in (λ env. p.0, inr p.1)

    malloc-replies : (n : ℕ) (S : Now) → IsLaidOut S.memory.table → Leaves Replies (malloc n S)
    malloc-replies n S h = leaves-next Granted Replies (request_of_bytes n S) pointer_or_null (requested-gives n S h) (λ r V g. allocated-replies r V g)

    zeroed-table : (i : ℕ) (o : Option Info) (M : Mem) → (with_zeros i o M).table ≡ M.table
    zeroed-table i None M = refl
    zeroed-table i (Some x) M = refl

    cleared-replies : (r : Result ℕ Reply) (S : Now) → Granted r S → Leaves Replies (pointer_to_zeros r S)
    cleared-replies (Err r) S h = h
    cleared-replies (Ok i) S h =
        let p = pointer-fits S.memory i h.0 h.1 in
        (λ env. p.0, inr (subst (λ U. IsFairPointer U (record { address = base_of (told_of S.memory i); prov = Inst i })) (sym (zeroed-table i (told_of S.memory i) S.memory)) p.1))

    calloc-replies : (count n : ℕ) (S : Now) → IsLaidOut S.memory.table → Leaves Replies (calloc count n S)
    calloc-replies count n S h = leaves-next Granted Replies (request_of_bytes (count * n) S) pointer_to_zeros (requested-gives (count * n) S h) (λ r V g. cleared-replies r V g)

    moved-replies : (i : ℕ) (r : Result ℕ Reply) (S : Now) → Granted r S → Leaves Replies (reply_after_move i r S)
    moved-replies i (Err r) S h = h
    moved-replies i (Ok j) S h =
        let p = pointer-fits S.memory j h.0 h.1 in
        let U = (after_block_copy (told_of S.memory i) (told_of S.memory j) S.memory).table in
        let same = both-table (told_of S.memory i) (told_of S.memory j) S.memory in
        let q : IsFairPointer U (record { address = base_of (told_of S.memory j); prov = Inst j }) = subst (λ V. IsFairPointer V (record { address = base_of (told_of S.memory j); prov = Inst j })) (sym same) p.1 in
        (λ env. p.0, inr (made-led U (after_end U i) (ended-leads U i) (Inst j) q.0, q.1))

    resized-replies : (n i : ℕ) (S : Now) → IsLaidOut S.memory.table → Leaves Replies (resize_of n i S)
    resized-replies n i S h =
        leaves-if Replies (eqb n 0) _ _ (null-fits S.memory.table) (leaves-next Granted Replies (request_of_bytes n S) (reply_after_move i) (requested-gives n S h) (λ r V g. moved-replies i r V g))

    laid-about : {A : Type 0} (r : Result A Stop) (note : _) (d : Did A) → IsLaidOut d.after.memory.table → When (λ (a : A). IsLaidOut (about_by r note d).after.memory.table) (about_by r note d).answer
    laid-about (Ok a) note d h = when-all _ d.answer (λ a. h)
    laid-about (Err y) note d h = tt

    block-laid : (c : Clause) (g : _) (S : Now) → IsLaidOut S.memory.table → Leaves (λ i V. IsLaidOut V.memory.table) (block c g S)
    block-laid c g S h =
        let found = use_answer S.memory.table g.pointer.prov (Block g.pointer.address) in
        laid-about (block_by c g S found).answer g.stopped (block_by c g S found) (laid-led S.memory.table (after_use S.memory.table g.pointer.prov found) (use-leads S.memory.table g.pointer.prov (Block g.pointer.address)) h)

    realloc-replies : (g : _) (n : ℕ) (S : Now) → IsLaidOut S.memory.table → Leaves Replies (realloc g n S)
    realloc-replies g n S h =
        leaves-if Replies (is_null g.pointer) _ _ (malloc-replies n S h)
        (leaves-next (λ i V. IsLaidOut V.memory.table) Replies (block clause.Reallocating g S) (resize_of n) (block-laid clause.Reallocating g S h) (λ i V l. resized-replies n i V l))

  -- nothing, and numbers
  module _ (T : Table) where
    abbrev Of : Ty → Reply → Now → Type 0
    Of t r U = Fitting t T U.memory.table r

    free-replies : (g : _) (S : Now) → Leaves (Of VoidTy) (free g S)
    free-replies g S = leaves-if (Of VoidTy) (is_null g.pointer) _ _ refl (leaves-next (λ a V. Unit {0}) (Of VoidTy) (block clause.Freeing g S) end_of_block (any-step (block clause.Freeing g S)) (λ i V u. refl))

    sign-fits : (a c : ℕ) → Fits Int (sign_of a c)
    sign-fits a c = by (ltb a c) (eqb a c)
      where
        by : (d e : Bool) → Fits Int (cond d (negsuc 0) (cond e (pos 0) (pos 1)))
        by true e = (grind (arith, ints), grind (arith, ints))
        by false true = (grind (arith, ints), grind (arith, ints))
        by false false = (grind (arith, ints), grind (arith, ints))

    zero-fits : Fits Int (pos 0)
    zero-fits = (grind (arith, ints), grind (arith, ints))

    fits-if : (c : Bool) (m n : ℤ) → Fits Int m → Fits Int n → Fits Int (cond c m n)
    fits-if true m n h g = h
    fits-if false m n h g = g

    difference-fits : (ls rs : List ℕ) → Fits Int (difference ls rs)
    difference-fits (a ∷ ls) (c ∷ rs) = fits-if (eqb a c) (difference ls rs) (sign_of a c) (difference-fits ls rs) (sign-fits a c)
    difference-fits [] rs = zero-fits
    difference-fits (a ∷ ls) [] = zero-fits

    memcmp-replies : (p q : _) (n : ℕ) (S : Now) → Leaves (Of (IntTy Int)) (memcmp p q n S)
    memcmp-replies p q n S =
        leaves-next (λ a V. Unit {0}) (Of (IntTy Int)) (reach_for Text false p n S) _ (any-step (reach_for Text false p n S)) (λ l V u.
        leaves-next (λ a V. Unit {0}) (Of (IntTy Int)) (reach_for Text false q n V) _ (any-step (reach_for Text false q n V)) (λ r W u.
        leaves-next (λ a V. Unit {0}) (Of (IntTy Int)) (characters_from n p l.address [] W) _ (any-step (characters_from n p l.address [] W)) (λ ls X u.
        leaves-next (λ a V. Unit {0}) (Of (IntTy Int)) (characters_from n q r.address [] X) _ (any-step (characters_from n q r.address [] X)) (λ rs Y u. (λ env. difference-fits ls rs, inl tt)))))

    length-fits : (n : ℕ) → n ≤ 2 ^ 24 → Fits ULong (pos n)
    length-fits n h = (grind (arith, ints), grind (arith, ints))

    strlen-replies : (g : _) (S : Now) → Leaves (Of (IntTy ULong)) (strlen g S)
    strlen-replies g S = leaves-next (λ s V. length s ≤ 2 ^ 24) (Of (IntTy ULong)) (string_at Text g S) _ (string-short Text g S) (λ s V h. (λ env. length-fits (length s) h, inl tt))

    by-replies : (a c : ℕ) (S : Now) (rest : Did Reply) → Leaves (Of (IntTy Int)) rest → Leaves (Of (IntTy Int)) (compared_by a c S rest)
    by-replies a c S rest h = leaves-if (Of (IntTy Int)) (not (eqb a c)) _ _ (λ env. sign-fits a c, inl tt) (leaves-if (Of (IntTy Int)) (eqb a 0) _ _ (λ env. zero-fits, inl tt) h)

    compared-replies : (n : ℕ) (p q : _) (i : ℕ) (S : Now) → Leaves (Of (IntTy Int)) (compared_from n p q i S)
    compared-replies zero p q i S = tt
    compared-replies (suc n) p q i S =
        leaves-next (λ a V. Unit {0}) (Of (IntTy Int)) (character_at Text p i S) _ (any-step (character_at Text p i S)) (λ a V u.
        leaves-next (λ a V. Unit {0}) (Of (IntTy Int)) (character_at Text q i V) _ (any-step (character_at Text q i V)) (λ c W u. by-replies a c W (compared_from n p q (i + 1) W) (compared-replies n p q (i + 1) W)))

    printf-replies : (args : List Arg) (S : Now) → Leaves (Of (IntTy Int)) (printf args S)
    printf-replies args S = leaves-next (λ a V. Unit {0}) (Of (IntTy Int)) (text_of_format args S) _ (any-step (text_of_format args S)) (λ text V u. (λ env. equal_fits Int (pos (length text)) (convert_of Int (pos (length text))) refl refl, inl tt))

  -- the pointer in an argument
  value-handed : (T : Table) (v : Value) → IsArgument T v → ((pointer_in v).address < 2 ^ 64) × IsFairPointer T (pointer_in v)
  value-handed T (value.Pointer p) h = (h.1, h.0)
  value-handed T (value.Int n) h = (omega arith, (tt, λ q. absurd cc))
  value-handed T value.Unset h = (omega arith, (tt, λ q. absurd cc))

  at-handed : (T : Table) (args : List Arg) (i : ℕ) → Each (λ (x : Arg). IsArgument T x.value) args → IsArgument T (value_in (slice_get args i))
  at-handed T [] i h = (tt, tt)
  at-handed T (x ∷ args) zero h = h.0
  at-handed T (x ∷ args) (suc i) h = at-handed T args i h.1

  argument-handed : (T : Table) (args : List Arg) (i : ℕ) → Each (λ (x : Arg). IsArgument T x.value) args → ((pointer args i).address < 2 ^ 64) × IsFairPointer T (pointer args i)
  argument-handed T args i h = value-handed T (value_in (slice_get args i)) (at-handed T args i h)

  abbrev Replied : Ty → Table → Did Reply → Type 0
  Replied t T d = Leaves (λ r U. Fitting t T U.memory.table r) d

  pub call-replies : (f : Library) (args : List Arg) (M : Mem) (t : Ty) → IsResultOf f t → Each (λ (x : Arg). IsArgument M.table x.value) args → IsLaidOut M.table → Replied t M.table (reply_to_call f args M)
  call-replies library.Malloc args M t r h l = subst (λ t. Replied t M.table (reply_to_call library.Malloc args M)) (sym r.1) (malloc-replies t r.0 M.table (size args 0) (with_notes M []) l)
  call-replies library.Calloc args M t r h l = subst (λ t. Replied t M.table (reply_to_call library.Calloc args M)) (sym r.1) (calloc-replies t r.0 M.table (size args 0) (size args 1) (with_notes M []) l)
  call-replies library.Realloc args M t r h l = subst (λ t. Replied t M.table (reply_to_call library.Realloc args M)) (sym r.1) (realloc-replies t r.0 M.table (argument_at args 0 M) (size args 1) (with_notes M []) l)
  call-replies library.Memcpy args M t r h l = subst (λ t. Replied t M.table (reply_to_call library.Memcpy args M)) (sym r.1) (copy-replies t r.0 M.table args M (argument-handed M.table args 0 h) true (size args 2) (with_notes M []))
  call-replies library.Memmove args M t r h l = subst (λ t. Replied t M.table (reply_to_call library.Memmove args M)) (sym r.1) (copy-replies t r.0 M.table args M (argument-handed M.table args 0 h) false (size args 2) (with_notes M []))
  call-replies library.Memset args M t r h l = subst (λ t. Replied t M.table (reply_to_call library.Memset args M)) (sym r.1) (memset-replies t r.0 M.table args M (argument-handed M.table args 0 h) (number args 1) (size args 2) (with_notes M []))
  call-replies library.Strcpy args M t r h l = subst (λ t. Replied t M.table (reply_to_call library.Strcpy args M)) (sym r.1) (strcpy-replies t r.0 M.table args M (argument-handed M.table args 0 h) (with_notes M []))
  call-replies library.Memcmp args M t r h l = subst (λ t. Replied t M.table (reply_to_call library.Memcmp args M)) (sym r) (memcmp-replies M.table (argument_at args 0 M) (argument_at args 1 M) (size args 2) (with_notes M []))
  call-replies library.Strcmp args M t r h l = subst (λ t. Replied t M.table (reply_to_call library.Strcmp args M)) (sym r) (compared-replies M.table most (argument_at args 0 M) (argument_at args 1 M) 0 (with_notes M []))
  call-replies library.Printf args M t r h l = subst (λ t. Replied t M.table (reply_to_call library.Printf args M)) (sym r) (printf-replies M.table args (with_notes M []))
  call-replies library.Strlen args M t r h l = subst (λ t. Replied t M.table (reply_to_call library.Strlen args M)) (sym r) (strlen-replies M.table (argument_at args 0 M) (with_notes M []))
  call-replies library.Free args M t r h l = subst (λ t. Replied t M.table (reply_to_call library.Free args M)) (sym r) (free-replies M.table (argument_at args 0 M) (with_notes M []))
  call-replies library.Exit args M t r h l = tt
  call-replies library.Abort args M t r h l = tt

-- 7.1.4: a call gives a value of its result's type, in a world whose bytes are fair
module _ (b : Setting) (os : List ℕ) (w : World) (s : IsSound b os w) where
  abbrev Q : Ty → Worth → World → Type 0
  Q t = Keeping b os w s (λ v z. sound.Value b z t v)

  replied-gives : (t : Ty) (r : Reply) (S : Now) (told : Told) → Keeps w.memory.table S.memory.table → AllLiveStill w.memory.table S.memory.table → AreFair S.memory.table S.memory.bytes → Fitting b t w.memory.table S.memory.table r → Answering (Q t) (done_by_reply r (with_memory w S.memory) told)
  replied-gives t reply.Nothing S told k a f h = subst (λ u. Q u Nothing (with_memory w S.memory)) (sym h) (refl, refl, refl, refl, refl, a, f, (tt, tt))
  replied-gives t (reply.Value v) S told k a f (h, inl g) = (refl, refl, refl, refl, refl, a, f, (h (layouts b.unit), value-later w.memory.table S.memory.table k (Scalar v) g))
  replied-gives t (reply.Value v) S told k a f (h, inr g) = (refl, refl, refl, refl, refl, a, f, (h (layouts b.unit), g))
  replied-gives t (reply.Exit n) S told k a f h = tt
  replied-gives t reply.Abort S told k a f h = tt
  replied-gives t (reply.Placement e) S told k a f h = tt

  asked-gives : (t : Ty) (text : List ℕ) (r : Result Reply Stop) (S : Now) → Keeps w.memory.table S.memory.table → AllLiveStill w.memory.table S.memory.table → AreFair S.memory.table S.memory.bytes → When (λ r. Fitting b t w.memory.table S.memory.table r) r → Answering (Q t) (done_by_call w text r S)
  asked-gives t text (Ok r) S k a f h = replied-gives t r S _ k a f h
  asked-gives t text (Err y) S k a f h = tt

  pub asks-gives : (f : Library) (args : List Arg) (t : Ty) → Promised b os w (Asks f args) t → Answering (Q t) (asks f args w)
  asks-gives f args t h =
      asked-gives t (output f args w.memory) (reply_to_call f args w.memory).answer (reply_to_call f args w.memory).after
      (made-led w.memory.table (reply_to_call f args w.memory).after.memory.table (called-leads (led-changes b) f args w.memory))
      (called-closed (onward b) f args w.memory).live (call-fair b f args w.memory s.bytes) (call-replies b f args w.memory t h.0 h.1 s.laid)
