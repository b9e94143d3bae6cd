-- Memory management functions in stores that are alike (C17 7.22.3).
use Rattle.std.proofs.Common.{ℕ, ◌*◌, min, ◌==◌, [], ◌∷◌, Option, Some, None, Result, Ok, Err, refl}
use Rattle.std.specs.List.{repeat}
use Rattle.pv_fault.specs.declared.faults.Clause.{Clause}
use Rattle.pv_fault.specs.declared.faults.Clause.TheVariants as clause
use Rattle.pv_types.specs.Known.{Known}
use Rattle.pv_inst.specs.declared.values.Info.{Info}
use Rattle.pv_inst.specs.declared.values.Test.TheVariants.{Block}
use Rattle.pv_inst.specs.declared.values.Tried.{Tried}
use Rattle.pv_inst.specs.declared.values.Miss.{Miss}
use Rattle.pv_inst.specs.declared.values.CreateError.{CreateError}
use Rattle.pv_inst.specs.declared.values.CreateError.TheVariants as create
use Rattle.pv_inst.specs.Table.{Table, instance_at}
use Rattle.pv_inst.specs.Placing.{place}
use Rattle.pv_inst.specs.Use.{use_answer}
use Rattle.pv_shadow.specs.Bytes.{Store, bytes_from, with_bytes_at}
use Rattle.pv_object.specs.Access.{is_null}
use Rattle.pv_object.specs.Creating.{with_new_bytes, without}
use Rattle.pv_object.specs.OperationParts.{blank_in, cleared_in}
use Rattle.pv_libc.specs.declared.values.Note.TheVariants.{Ended}
use Rattle.pv_libc.specs.declared.values.Reply.{Reply}
use Rattle.pv_libc.specs.declared.values.Reply.TheVariants as reply
use Rattle.pv_libc.specs.Steps.{Now, Did, answer_now, with_more_notes, in_memory}
use Rattle.pv_libc.specs.Blocks.{plain_byte}
use Rattle.pv_libc.specs.Heap.{null, told_of, pointer_to, grant_of, request_of_bytes, pointer_or_null, malloc, pointer_to_zeros, calloc, block_by, block, end_of_block, free, after_block_copy, reply_after_move, resize_of, realloc}
use Rattle.pv_libc.specs.HeapParts.{heap_request, with_zeros}
use Rattle.pv_numbering.proofs.Marks.{AlikeStores}
use Rattle.pv_numbering.proofs.Objects.{blanks_alike, cleared_alike}
use Rattle.pv_numbering.proofs.Steps.{at_bytes, AlikeDid, Keeps, done-keeps, either-keeps, next-alike, about-alike}
use Rattle.pv_numbering.proofs.Blocks.{fills-alike, copies-alike}

module _ (m m' : Known) where
  -- 7.22.3p1: a new instance, by the answer of the table
  granted-alike : (S : Now) (b : Store) (r : Result ℕ CreateError × Table) → AlikeStores m m' S.memory.bytes b
      → AlikeDid m m' (Result ℕ Reply) (grant_of S (with_new_bytes S.memory r)) (grant_of (at_bytes S b) (with_new_bytes (at_bytes S b).memory r))
  granted-alike S b (Ok i, T) h = record { bytes = blank_in (instance_at T.instances i) b; is = refl; alike = blanks_alike m m' (instance_at T.instances i) S.memory.bytes b h }
  granted-alike S b (Err create.Denied, T) h = record { bytes = b; is = refl; alike = h }
  granted-alike S b (Err create.NoMemory, T) h = record { bytes = b; is = refl; alike = h }
  granted-alike S b (Err (create.Storage live size), T) h = record { bytes = b; is = refl; alike = h }
  granted-alike S b (Err (create.Range k a), T) h = record { bytes = b; is = refl; alike = h }
  granted-alike S b (Err (create.Misaligned k a), T) h = record { bytes = b; is = refl; alike = h }
  granted-alike S b (Err (create.Overlap k a other), T) h = record { bytes = b; is = refl; alike = h }

  requested-keeps : (size : ℕ) → Keeps m m' (Result ℕ Reply) (request_of_bytes size)
  requested-keeps size S b h =
      either-keeps m m' (Result ℕ Reply) (size == 0) _ _ _ _ (done-keeps m m' (Result ℕ Reply) (Err (reply.Value null)) S b h) (granted-alike S b (place S.memory.table (heap_request size)) h)

  allocated-keeps : (r : Result ℕ Reply) → Keeps m m' Reply (pointer_or_null r)
  allocated-keeps (Ok i) S b h = record { bytes = b; is = refl; alike = h }
  allocated-keeps (Err r) S b h = record { bytes = b; is = refl; alike = h }

  -- 7.22.3.4
  pub malloc-keeps : (size : ℕ) → Keeps m m' Reply (malloc size)
  malloc-keeps size S b h = next-alike m m' (Result ℕ Reply) Reply _ _ pointer_or_null (requested-keeps size S b h) allocated-keeps

  -- 7.22.3.2
  zeroed-alike : (i : ℕ) (o : Option Info) (S : Now) (b : Store) → AlikeStores m m' S.memory.bytes b
      → AlikeDid m m' Reply (answer_now (pointer_to S.memory i) (in_memory S (with_zeros i o S.memory))) (answer_now (pointer_to S.memory i) (in_memory (at_bytes S b) (with_zeros i o (at_bytes S b).memory)))
  zeroed-alike i None S b h = record { bytes = b; is = refl; alike = h }
  zeroed-alike i (Some x) S b h = record { bytes = with_bytes_at b x.base (repeat x.size (plain_byte 0 ∷ [])); is = refl; alike = fills-alike m m' S.memory.bytes b x.base x.size 0 h }

  cleared-keeps : (r : Result ℕ Reply) → Keeps m m' Reply (pointer_to_zeros r)
  cleared-keeps (Ok i) S b h = zeroed-alike i (told_of S.memory i) S b h
  cleared-keeps (Err r) S b h = record { bytes = b; is = refl; alike = h }

  pub calloc-keeps : (count size : ℕ) → Keeps m m' Reply (calloc count size)
  calloc-keeps count size S b h = next-alike m m' (Result ℕ Reply) Reply _ _ pointer_to_zeros (requested-keeps (count * size) S b h) cleared-keeps

  -- 7.22.3.3
  block-keeps : (c : Clause) (g : _) → Keeps m m' ℕ (block c g)
  block-keeps c g S b h =
      let r : Result Tried Miss = use_answer S.memory.table g.pointer.prov (Block g.pointer.address) in
      about-alike m m' ℕ g.stopped (block_by c g S r) (block_by c g (at_bytes S b) r) (record { bytes = b; is = refl; alike = h })

  freed-keeps : (i : ℕ) → Keeps m m' Reply (end_of_block i)
  freed-keeps i S b h =
      let o = instance_at S.memory.table.instances i in record { bytes = cleared_in o b; is = refl; alike = cleared_alike m m' o S.memory.bytes b h }

  pub free-keeps : (g : _) → Keeps m m' Reply (free g)
  free-keeps g S b h =
      either-keeps m m' Reply (is_null g.pointer) _ _ _ _ (done-keeps m m' Reply reply.Nothing S b h) (next-alike m m' ℕ Reply _ _ end_of_block (block-keeps clause.Freeing g S b h) freed-keeps)

  -- 7.22.3.5
  abbrev resettled : (i j : ℕ) (o p : Option Info) → Now → Did Reply
  resettled i j o p S = answer_now (pointer_to S.memory j) (with_more_notes (Ended i ∷ []) (in_memory S (without (after_block_copy o p S.memory) i)))

  resettled-keeps : (i j : ℕ) (o p : Option Info) → Keeps m m' Reply (resettled i j o p)
  resettled-keeps i j None None S b h = let x = instance_at S.memory.table.instances i in record { bytes = cleared_in x b; is = refl; alike = cleared_alike m m' x S.memory.bytes b h }
  resettled-keeps i j None (Some new) S b h = let x = instance_at S.memory.table.instances i in record { bytes = cleared_in x b; is = refl; alike = cleared_alike m m' x S.memory.bytes b h }
  resettled-keeps i j (Some old) None S b h = let x = instance_at S.memory.table.instances i in record { bytes = cleared_in x b; is = refl; alike = cleared_alike m m' x S.memory.bytes b h }
  resettled-keeps i j (Some old) (Some new) S b h =
      let x = instance_at S.memory.table.instances i in
      let n : ℕ = min old.size new.size in
      record {
        bytes = cleared_in x (with_bytes_at b new.base (bytes_from b old.base n));
        is = refl;
        alike = cleared_alike m m' x (with_bytes_at S.memory.bytes new.base (bytes_from S.memory.bytes old.base n)) (with_bytes_at b new.base (bytes_from b old.base n)) (copies-alike m m' S.memory.bytes b new.base old.base n h);
      }

  moved-keeps : (i : ℕ) (r : Result ℕ Reply) → Keeps m m' Reply (reply_after_move i r)
  moved-keeps i (Ok j) S b h = resettled-keeps i j (told_of S.memory i) (told_of S.memory j) S b h
  moved-keeps i (Err r) S b h = record { bytes = b; is = refl; alike = h }

  resized-keeps : (size i : ℕ) → Keeps m m' Reply (resize_of size i)
  resized-keeps size i S b h =
      either-keeps m m' Reply (size == 0) _ _ _ _ (done-keeps m m' Reply (reply.Value null) S b h)
      (next-alike m m' (Result ℕ Reply) Reply _ _ (reply_after_move i) (requested-keeps size S b h) (moved-keeps i))

  pub realloc-keeps : (g : _) (size : ℕ) → Keeps m m' Reply (realloc g size)
  realloc-keeps g size S b h =
      either-keeps m m' Reply (is_null g.pointer) _ _ _ _ (malloc-keeps size S b h)
      (next-alike m m' ℕ Reply _ _ (resize_of size) (block-keeps clause.Reallocating g S b h) (resized-keeps size))
