-- A call of the library as an operation of a run (C17 7.1.4), in both runs.
use Rattle.std.proofs.Common.{◌≡◌, ℕ, pos, Bool, true, false, List, [], length, None, Result, Ok, Err, refl, sym, ap, subst, inl}
use Rattle.pv_num.specs.declared.kinds.IntKind.TheVariants.{Int as IntOfInt}
use Rattle.pv_num.specs.Kinds.{convert_of}
use Rattle.pv_object.specs.declared.values.Stop.{Stop}
use Rattle.pv_object.specs.declared.values.Value.TheVariants as value
use Rattle.pv_object.specs.Memory.{Mem}
use Rattle.pv_library.specs.declared.library.Library.{Library}
use Rattle.pv_library.specs.declared.library.Library.TheVariants as library
use Rattle.pv_libc.specs.declared.values.Arg.{Arg}
use Rattle.pv_libc.specs.declared.values.Reply.{Reply}
use Rattle.pv_libc.specs.declared.values.Reply.TheVariants as reply
use Rattle.pv_libc.specs.Steps.{Now, Did, answer_now, next_by, with_notes}
use Rattle.pv_libc.specs.Calls.{number, size, pointer, stop_note, status, text_of_format}
use Rattle.pv_libc.specs.StringParts.{text_or_none}
use Rattle.pv_world.specs.Worlds.{Nothing, Scalar, World, Halts, Exits, Aborts, Refused}
use Rattle.pv_world.specs.Telling.{Told}
use Rattle.pv_world.specs.Doing.{Done, Answers, Fails, Breaks}
use Rattle.pv_world.specs.Worths.{wrong_of}
use Rattle.pv_eval.specs.Library.{told_of, with_memory, done_by_reply, blame_in, done_by_call, asks}
use Rattle.pv_exec.proofs.Memory.Rows.{Sound}
use Rattle.pv_exec.proofs.Settling.Sides.{on_memory, on_world, Allows, Covers, nearly}
use Rattle.pv_exec.proofs.Settling.Pointers.{Equal}
use Rattle.pv_exec.proofs.Settling.Doings.{pairs_of, IsBad, Tracks, done-lost, fault-wrong, ends-ok, ends-broken}
use Rattle.pv_exec.proofs.Settling.Worlds.{Fits}
use Rattle.pv_exec.proofs.Settling.Steps.{Beside, Walks, Goes, done-goes}
use Rattle.pv_exec.proofs.Settling.Heap.{malloc-goes, calloc-goes, free-goes, realloc-goes}
use Rattle.pv_exec.proofs.Settling.Library.{copy-goes, memset-goes, memcmp-goes, strlen-goes, strcmp-goes, strcpy-goes}
use Rattle.pv_exec.proofs.Settling.Printing.{printed-covers, printed-walks}

-- a call from a memory on in both runs
record IsCalled (ds : List Bool) (d d' : Did Reply) : Type 0 where
  covers : Covers ds d.after.memory.table.pairs
  walks : Walks ds Equal d d'

module _ (F : Type 0) (full : F) (ds : List Bool) where
  by-goes : (f f' : Now → Did Reply) → Goes F ds Reply Equal f f' → (M : Mem) → Sound F M.table.instances M.table.pairs → Allows ds M.table.pairs → Covers ds M.table.pairs → IsCalled ds (f (with_notes M [])) (f' (with_notes (on_memory ds M) []))
  by-goes f f' h M so al c = record { covers = h.covers (with_notes M []) c; walks = h.walks (with_notes M []) [] so al c }

  -- `printf` replies how many bytes it prints
  counts : List ℕ → Now → Did Reply
  counts text T = answer_now (reply.Value (value.Int (convert_of IntOfInt (pos (length text))))) T

  -- what a reply comes to
  replied-tracks : (r : Reply) (w w' : World) (t t' : Told) → t'.bytes ≡ t.bytes → Allows ds (pairs_of w) → Covers ds (pairs_of w) → w' ≡ on_world ds w → Tracks ds (done_by_reply r w t) (done_by_reply r w' t')
  replied-tracks reply.Nothing w w' t t' e al c q = (refl, e, al, q, nearly ds (pairs_of w) c)
  replied-tracks (reply.Value v) w w' t t' e al c q = (refl, e, al, q, nearly ds (pairs_of w) c)
  replied-tracks (reply.Exit n) w w' t t' e al c q = inl ((refl, e), al)
  replied-tracks reply.Abort w w' t t' e al c q = inl ((refl, e), al)
  replied-tracks (reply.Placement x) w w' t t' e al c q = inl ((refl, e), al)

  replied-lost : (r : Reply) (w : World) (t : Told) (d' : Done) → IsBad d' → (Allows ds (pairs_of w) → ⊥) → Tracks ds (done_by_reply r w t) d'
  replied-lost reply.Nothing w t d' h n = done-lost ds (Answers Nothing w t) d' h n
  replied-lost (reply.Value v) w t d' h n = done-lost ds (Answers (Scalar v) w t) d' h n
  replied-lost (reply.Exit x) w t d' h n = done-lost ds (Fails (Halts (Exits x)) None w t) d' h n
  replied-lost reply.Abort w t d' h n = done-lost ds (Fails (Halts Aborts) None w t) d' h n
  replied-lost (reply.Placement x) w t d' h n = done-lost ds (Fails (Halts (Refused 1 x)) None w t) d' h n

  asked-by : (w : World) (text : List ℕ) (r r' : Result Reply Stop) (S S' : Now) → Covers ds S.memory.table.pairs → Beside ds Equal r S.memory r' S'.memory → Tracks ds (done_by_call w text r S) (done_by_call (on_world ds w) text r' S')
  asked-by w text (Ok x) (Ok x') S S' c h =
      subst (λ y. Tracks ds (done_by_reply x (with_memory w S.memory) (told_of S.memory S.notes text)) (done_by_reply y (with_memory (on_world ds w) S'.memory) (told_of S'.memory S'.notes text))) (sym h.0)
      (replied-tracks x (with_memory w S.memory) (with_memory (on_world ds w) S'.memory) (told_of S.memory S.notes text) (told_of S'.memory S'.notes text) refl h.1 c (ap (λ (M : Mem). with_memory w M) h.2))
  asked-by w text (Ok x) (Err y') S S' c h = replied-lost x (with_memory w S.memory) (told_of S.memory S.notes text) (Breaks (wrong_of y') (blame_in S'.notes) (with_memory (on_world ds w) S'.memory) (told_of S'.memory S'.notes [])) (fault-wrong y' h.0) h.1
  asked-by w text (Err y) (Ok x') S S' c h = ends-ok ds y S.memory.table x' [] (done_by_call (on_world ds w) text (Ok x') S') h
  asked-by w text (Err y) (Err y') S S' c h = ends-broken Reply ds y y' S.memory.table [] (blame_in S'.notes) (with_memory (on_world ds w) S'.memory) (told_of S'.memory S'.notes []) refl h

  -- the same of `printf`, which prints what it has made
  prints-by : (w : World) (r r' : Result (List ℕ) Stop) (d d' : Did (List ℕ)) → Covers ds d.after.memory.table.pairs → Beside ds Equal r d.after.memory r' d'.after.memory
      → Tracks ds (done_by_call w (text_or_none r) (next_by r d (λ text T. answer_now (reply.Value (value.Int (convert_of IntOfInt (pos (length text))))) T)).answer (next_by r d (λ text T. answer_now (reply.Value (value.Int (convert_of IntOfInt (pos (length text))))) T)).after)
      (done_by_call (on_world ds w) (text_or_none r') (next_by r' d' (λ text T. answer_now (reply.Value (value.Int (convert_of IntOfInt (pos (length text))))) T)).answer (next_by r' d' (λ text T. answer_now (reply.Value (value.Int (convert_of IntOfInt (pos (length text))))) T)).after)
  prints-by w (Ok t) (Ok t') d d' c h = (ap (λ x. Scalar (value.Int (convert_of IntOfInt (pos (length x))))) h.0, h.0, h.1, ap (λ (M : Mem). with_memory w M) h.2, nearly ds d.after.memory.table.pairs c)
  prints-by w (Ok t) (Err y') d d' c h = (fault-wrong y' h.0, h.1)
  prints-by w (Err y) (Ok t') d d' c h = ends-ok ds y d.after.memory.table t' [] (done_by_call (on_world ds w) t' (Ok (reply.Value (value.Int (convert_of IntOfInt (pos (length t')))))) d'.after) h
  prints-by w (Err y) (Err y') d d' c h = ends-broken (List ℕ) ds y y' d.after.memory.table [] (blame_in d'.after.notes) (with_memory (on_world ds w) d'.after.memory) (told_of d'.after.memory d'.after.notes []) refl h

  quiet-asks : (w : World) (d d' : Did Reply) → IsCalled ds d d' → Tracks ds (done_by_call w [] d.answer d.after) (done_by_call (on_world ds w) [] d'.answer d'.after)
  quiet-asks w d d' h = asked-by w [] d.answer d'.answer d.after d'.after h.covers h.walks

  pub asks-track : (f : Library) (a : List Arg) (w : World) → Fits F ds w → Tracks ds (asks f a w) (asks f a (on_world ds w))
  asks-track library.Malloc a w f = let M = w.memory in quiet-asks w _ _ (by-goes _ _ (malloc-goes F full ds (size a 0)) M f.0 f.1 f.2)
  asks-track library.Calloc a w f = let M = w.memory in quiet-asks w _ _ (by-goes _ _ (calloc-goes F full ds (size a 0) (size a 1)) M f.0 f.1 f.2)
  asks-track library.Free a w f =
      let M = w.memory in let N = on_memory ds M in let p = pointer a 0 in
      quiet-asks w _ _ (by-goes _ _ (free-goes F full ds p (stop_note M p.prov) (stop_note N p.prov)) M f.0 f.1 f.2)
  asks-track library.Realloc a w f =
      let M = w.memory in let N = on_memory ds M in let p = pointer a 0 in
      quiet-asks w _ _ (by-goes _ _ (realloc-goes F full ds p (stop_note M p.prov) (stop_note N p.prov) (size a 1)) M f.0 f.1 f.2)
  asks-track library.Memcpy a w f =
      let M = w.memory in let N = on_memory ds M in let p = pointer a 0 in let q = pointer a 1 in
      quiet-asks w _ _ (by-goes _ _ (copy-goes F full ds true p q (stop_note M p.prov) (stop_note N p.prov) (stop_note M q.prov) (stop_note N q.prov) (size a 2)) M f.0 f.1 f.2)
  asks-track library.Memmove a w f =
      let M = w.memory in let N = on_memory ds M in let p = pointer a 0 in let q = pointer a 1 in
      quiet-asks w _ _ (by-goes _ _ (copy-goes F full ds false p q (stop_note M p.prov) (stop_note N p.prov) (stop_note M q.prov) (stop_note N q.prov) (size a 2)) M f.0 f.1 f.2)
  asks-track library.Memset a w f =
      let M = w.memory in let N = on_memory ds M in let p = pointer a 0 in
      quiet-asks w _ _ (by-goes _ _ (memset-goes F full ds p (stop_note M p.prov) (stop_note N p.prov) (number a 1) (size a 2)) M f.0 f.1 f.2)
  asks-track library.Memcmp a w f =
      let M = w.memory in let N = on_memory ds M in let p = pointer a 0 in let q = pointer a 1 in
      quiet-asks w _ _ (by-goes _ _ (memcmp-goes F full ds p q (stop_note M p.prov) (stop_note N p.prov) (stop_note M q.prov) (stop_note N q.prov) (size a 2)) M f.0 f.1 f.2)
  asks-track library.Strlen a w f =
      let M = w.memory in let N = on_memory ds M in let p = pointer a 0 in
      quiet-asks w _ _ (by-goes _ _ (strlen-goes F full ds p (stop_note M p.prov) (stop_note N p.prov)) M f.0 f.1 f.2)
  asks-track library.Strcmp a w f =
      let M = w.memory in let N = on_memory ds M in let p = pointer a 0 in let q = pointer a 1 in
      quiet-asks w _ _ (by-goes _ _ (strcmp-goes F full ds p q (stop_note M p.prov) (stop_note N p.prov) (stop_note M q.prov) (stop_note N q.prov)) M f.0 f.1 f.2)
  asks-track library.Strcpy a w f =
      let M = w.memory in let N = on_memory ds M in let p = pointer a 0 in let q = pointer a 1 in
      quiet-asks w _ _ (by-goes _ _ (strcpy-goes F full ds p q (stop_note M p.prov) (stop_note N p.prov) (stop_note M q.prov) (stop_note N q.prov)) M f.0 f.1 f.2)
  asks-track library.Exit a w f = let M = w.memory in quiet-asks w _ _ (by-goes _ _ (done-goes F ds Equal (reply.Exit (status a 0)) (reply.Exit (status a 0)) refl) M f.0 f.1 f.2)
  asks-track library.Abort a w f = let M = w.memory in quiet-asks w _ _ (by-goes _ _ (done-goes F ds Equal reply.Abort reply.Abort refl) M f.0 f.1 f.2)
  asks-track library.Printf a w f =
      let S = with_notes w.memory [] in
      let S' = with_notes (on_memory ds w.memory) [] in
      prints-by w (text_of_format a S).answer (text_of_format a S').answer (text_of_format a S) (text_of_format a S') (printed-covers F ds a S f.2) (printed-walks F ds a S [] f.0 f.1 f.2)
