-- Calls of the library in stores that are alike (C17 7): what each comes to is alike, and what it prints is the same.
use Rattle.std.proofs.Common.{◌≡◌, ℕ, true, false, List, [], Result, Ok, Err, refl, ap}
use Rattle.pv_library.specs.declared.library.Library.{Library}
use Rattle.pv_library.specs.declared.library.Library.TheVariants as library
use Rattle.pv_types.specs.Known.{Known}
use Rattle.pv_shadow.specs.Bytes.{Store}
use Rattle.pv_object.specs.declared.values.Stop.{Stop}
use Rattle.pv_libc.specs.declared.values.Arg.{Arg}
use Rattle.pv_libc.specs.declared.values.Reply.{Reply}
use Rattle.pv_libc.specs.declared.values.Reply.TheVariants as reply
use Rattle.pv_libc.specs.Steps.{Now, Did, with_notes}
use Rattle.pv_libc.specs.Calls.{argument_at, number, size, status, called_in, reply_to_call, output_in, output}
use Rattle.pv_libc.specs.StringParts.{text_or_none}
use Rattle.pv_world.specs.Worlds.{World}
use Rattle.pv_world.specs.Telling.{Told}
use Rattle.pv_world.specs.ObjectParts.{with_bytes}
use Rattle.pv_eval.specs.Library.{told_of, with_memory, done_by_reply, done_by_call, asks}
use Rattle.pv_numbering.proofs.Marks.{AlikeStores}
use Rattle.pv_numbering.proofs.Doing.{AlikeDone, at_two, Alikes, alike_world}
use Rattle.pv_numbering.proofs.Steps.{at_bytes, AlikeDid, Keeps, done-keeps}
use Rattle.pv_numbering.proofs.Blocks.{copy-keeps, memset-keeps, memcmp-keeps, strlen-keeps, strcmp-keeps, strcpy-keeps}
use Rattle.pv_numbering.proofs.Heap.{malloc-keeps, calloc-keeps, free-keeps, realloc-keeps}
use Rattle.pv_numbering.proofs.Printing.{printed-keeps, printf-keeps}

module _ (m m' : Known) where
  called-keeps : (f : Library) (a : List Arg) → Keeps m m' Reply (called_in f a)
  called-keeps library.Malloc a S b h = malloc-keeps m m' (size a 0) S b h
  called-keeps library.Calloc a S b h = calloc-keeps m m' (size a 0) (size a 1) S b h
  called-keeps library.Free a S b h = free-keeps m m' (argument_at a 0 S.memory) S b h
  called-keeps library.Realloc a S b h = realloc-keeps m m' (argument_at a 0 S.memory) (size a 1) S b h
  called-keeps library.Memcpy a S b h = copy-keeps m m' true (argument_at a 0 S.memory) (argument_at a 1 S.memory) (size a 2) S b h
  called-keeps library.Memmove a S b h = copy-keeps m m' false (argument_at a 0 S.memory) (argument_at a 1 S.memory) (size a 2) S b h
  called-keeps library.Memset a S b h = memset-keeps m m' (argument_at a 0 S.memory) (number a 1) (size a 2) S b h
  called-keeps library.Memcmp a S b h = memcmp-keeps m m' (argument_at a 0 S.memory) (argument_at a 1 S.memory) (size a 2) S b h
  called-keeps library.Strlen a S b h = strlen-keeps m m' (argument_at a 0 S.memory) S b h
  called-keeps library.Strcmp a S b h = strcmp-keeps m m' (argument_at a 0 S.memory) (argument_at a 1 S.memory) S b h
  called-keeps library.Strcpy a S b h = strcpy-keeps m m' (argument_at a 0 S.memory) (argument_at a 1 S.memory) S b h
  called-keeps library.Exit a S b h = done-keeps m m' Reply (reply.Exit (status a 0)) S b h
  called-keeps library.Abort a S b h = done-keeps m m' Reply reply.Abort S b h
  called-keeps library.Printf a S b h = printf-keeps m m' a S b h

  -- 7.21.6.3: what is printed
  output-same : (f : Library) (a : List Arg) (S : Now) (b : Store) → AlikeStores m m' S.memory.bytes b → output_in f a (at_bytes S b) ≡ output_in f a S
  output-same library.Printf a S b h = ap (λ (d : Did (List ℕ)). text_or_none d.answer) (printed-keeps m m' a S b h).is
  output-same library.Malloc a S b h = refl
  output-same library.Calloc a S b h = refl
  output-same library.Free a S b h = refl
  output-same library.Realloc a S b h = refl
  output-same library.Memcpy a S b h = refl
  output-same library.Memmove a S b h = refl
  output-same library.Memset a S b h = refl
  output-same library.Memcmp a S b h = refl
  output-same library.Strlen a S b h = refl
  output-same library.Strcmp a S b h = refl
  output-same library.Strcpy a S b h = refl
  output-same library.Exit a S b h = refl
  output-same library.Abort a S b h = refl

  -- 7.22.4.1, 7.22.4.4
  replied-alike : (r : Reply) (w : World) (b : Store) (t : Told) → Alikes m m' w b → AlikeDone m m' (done_by_reply r w t) (done_by_reply r (with_bytes w b) t)
  replied-alike reply.Nothing w b t h = (tt, alike_world m m' w b h, refl)
  replied-alike (reply.Value v) w b t h = (refl, alike_world m m' w b h, refl)
  replied-alike (reply.Exit n) w b t h = (refl, refl, alike_world m m' w b h, refl)
  replied-alike reply.Abort w b t h = (refl, refl, alike_world m m' w b h, refl)
  replied-alike (reply.Placement e) w b t h = (refl, refl, alike_world m m' w b h, refl)

  asked-alike : (w : World) (b0 : Store) (text : List ℕ) (r : Result Reply Stop) (S : Now) (b : Store) → AlikeStores m m' S.memory.bytes b
      → AlikeDone m m' (done_by_call w text r S) (done_by_call (with_bytes w b0) text r (at_bytes S b))
  asked-alike w b0 text (Ok r) S b h = replied-alike r (with_memory w S.memory) b (told_of S.memory S.notes text) h
  asked-alike w b0 text (Err y) S b h = (refl, refl, alike_world m m' (with_memory w S.memory) b h, refl)

  -- 7.1.4
  pub asks-alike : (f : Library) (args : List Arg) (w : World) (b : Store) → Alikes m m' w b → AlikeDone m m' (asks f args w) (asks f args (with_bytes w b))
  asks-alike f args w b h =
      let S : Now = with_notes w.memory [] in
      let d : Did Reply = reply_to_call f args w.memory in
      let g : AlikeDid m m' Reply d (called_in f args (at_bytes S b)) = called-keeps f args S b h in
      at_two (λ text (x : Did Reply). AlikeDone m m' (asks f args w) (done_by_call (with_bytes w b) text x.answer x.after)) (output f args w.memory) (output_in f args (at_bytes S b))
      (record { answer = d.answer; after = at_bytes d.after g.bytes }) (called_in f args (at_bytes S b)) (output-same f args S b h) g.is
      (asked-alike w b (output f args w.memory) d.answer d.after g.bytes g.alike)
