-- Memory management functions (C17 7.22.3).
use Rattle.std.specs.Prelude.{ℕ, ◌*◌, min, ◌==◌, [], ◌∷◌, Option, None, Some, Result, Ok, Err, if◌then◌else◌, codes}
use Rattle.pv_fault.specs.declared.faults.Clause.{Clause}
use Rattle.pv_fault.specs.declared.faults.Clause.TheVariants as clause
use Rattle.pv_fault.specs.declared.faults.Reason.TheVariants as reason
use Rattle.pv_prov.specs.declared.names.Prov.TheVariants.{Empty, Inst}
use Rattle.pv_prov.specs.Names.{stands}
use Rattle.pv_inst.specs.declared.values.Info.{Info}
use Rattle.pv_inst.specs.declared.values.Kind.TheVariants.{Heap}
use Rattle.pv_inst.specs.declared.values.CreateError.{CreateError}
use Rattle.pv_inst.specs.declared.values.CreateError.TheVariants as create
use Rattle.pv_inst.specs.declared.values.Test.TheVariants.{Block}
use Rattle.pv_inst.specs.declared.values.Tried.{Tried}
use Rattle.pv_inst.specs.declared.values.Miss.{Miss}
use Rattle.pv_inst.specs.declared.values.Miss.TheVariants as miss
use Rattle.pv_inst.specs.Table.{instance_at}
use Rattle.pv_inst.specs.Infos.{info_of}
use Rattle.pv_inst.specs.Use.{use_answer, after_use, test_number}
use Rattle.pv_object.specs.declared.values.Pointer.{Pointer}
use Rattle.pv_object.specs.declared.values.Value.{Value}
use Rattle.pv_object.specs.declared.values.Value.TheVariants as value
use Rattle.pv_object.specs.declared.values.Stop.{Stop}
use Rattle.pv_object.specs.declared.values.Stop.TheVariants.{NoMemory}
use Rattle.pv_object.specs.Memory.{Mem}
use Rattle.pv_object.specs.Access.{fault, first_survivor, is_null}
use Rattle.pv_object.specs.Creating.{creation, without}
use Rattle.pv_object.specs.Copying.{after_copy}
use Rattle.pv_libc.specs.declared.values.Given.{Given}
use Rattle.pv_libc.specs.declared.values.Note.TheVariants.{Made, Ended}
use Rattle.pv_libc.specs.declared.values.Reply.{Reply}
use Rattle.pv_libc.specs.declared.values.Reply.TheVariants as reply
use Rattle.pv_libc.specs.Steps.{Now, Did, answer_now, stop_now, next, with_more_notes, in_memory, in_table, about, use_notes}
use Rattle.pv_libc.specs.Blocks.{after_filling}
use Rattle.std.specs.Option.{option_map_or}

-- 6.3.2.3p3: the null pointer
abbrev pub null : Value
null = value.Pointer (record { address = 0; prov = Empty })

-- 6.2.4p2: what is known of a live instance
abbrev pub told_of : Mem → ℕ → Option Info
told_of M i = info_of (instance_at M.table.instances i)

-- 7.22.3p1: a pointer to the first byte
abbrev pub pointer_to : Mem → ℕ → Reply
pointer_to M i = reply.Value (value.Pointer (record { address = option_map_or (λ (x : Info). x.base) (told_of M i) 0; prov = Inst i }))

-- 7.22.3p1: the number of the new instance, or else what the call replies: null where the script denies it or live bytes are too many
abbrev pub grant_of : Now → Result ℕ CreateError × Mem → Did (Result ℕ Reply)
grant_of S ((Ok i), N) = answer_now (Ok i) (with_more_notes (Made i ∷ []) (in_memory S N))
grant_of S ((Err create.Denied), N) = answer_now (Err (reply.Value null)) (in_memory S N)
grant_of S ((Err create.NoMemory), N) = stop_now NoMemory (in_memory S N)
grant_of S ((Err other), N) = answer_now (Err (reply.Placement other)) (in_memory S N)

-- 7.22.3p1: of no byte there is no allocation, and no request; an allocation is aligned for every object type
abbrev pub request_of_bytes : ℕ → Now → Did (Result ℕ Reply)
request_of_bytes size S =
    if size == 0 then answer_now (Err (reply.Value null)) S
    else grant_of S (creation S.memory (record { text = codes "@heap"; name = 1; size = size; align = 16; kind = Heap }))

-- 7.22.3.4p3: a pointer to the allocation, or a null pointer
abbrev pub pointer_or_null : Result ℕ Reply → Now → Did Reply
pointer_or_null (Err r) S = answer_now r S
pointer_or_null (Ok i) S = answer_now (pointer_to S.memory i) S

-- 7.22.3.4p2: space whose value is indeterminate
abbrev pub malloc : ℕ → Now → Did Reply
malloc size S = next (request_of_bytes size S) pointer_or_null

-- 7.22.3.2p2, p3: a pointer to the allocation, whose bytes are 0, or a null pointer
abbrev pub pointer_to_zeros : Result ℕ Reply → Now → Did Reply
pointer_to_zeros (Err r) S = answer_now r S
pointer_to_zeros (Ok i) S = answer_now (pointer_to S.memory i) (in_memory S (option_map_or (λ (x : Info). after_filling S.memory x.base x.size 0) (told_of S.memory i) S.memory))

-- 7.22.3.2p2: the product is exact
abbrev pub calloc : ℕ → ℕ → Now → Did Reply
calloc count size S = next (request_of_bytes (count * size) S) pointer_to_zeros

-- 7.22.3.3p2, 7.22.3.5p3: why a pointer is none to an allocation that is live
abbrev pub block_stop : Clause → Miss → Stop
block_stop c miss.Ended = fault c reason.Ended
block_stop c miss.Empty = fault c reason.Empty
block_stop c _ = fault c reason.Block

-- 7.22.3.3p2: the survivor, which is live
abbrev pub block_in : Clause → ℕ → Option Info → Result ℕ Stop
block_in c i None = Err (fault c reason.Block)
block_in c i (Some x) = Ok i

-- 7.22.3.3p2: the survivor, if there is one
abbrev pub the_block : Clause → Mem → Option ℕ → Result ℕ Stop
the_block c M None = Err (fault c reason.Block)
the_block c M (Some i) = block_in c i (told_of M i)

-- 7.22.3.3p2: the allocation, by what the block test found
abbrev pub block_answer : Clause → Mem → Pointer → Result Tried Miss → Result ℕ Stop
block_answer c M p (Ok tried) = the_block c M (first_survivor (stands M.table.pairs p.prov) tried)
block_answer c M p (Err m) = Err (block_stop c m)

-- 7.22.3.3p2: the allocation, with the use of the pointer that the test makes (the memory model)
abbrev pub block_by : Clause → Given → Now → Result Tried Miss → Did ℕ
block_by c g S found = record {
  answer = block_answer c S.memory g.pointer found;
  after = with_more_notes (use_notes found (test_number (Block g.pointer.address))) (in_table S (after_use S.memory.table g.pointer.prov found));
}

-- 7.22.3.3p2, 7.22.3.5p3: the allocation that a pointer to its first byte means
abbrev pub block : Clause → Given → Now → Did ℕ
block c g S = about g.stopped (block_by c g S (use_answer S.memory.table g.pointer.prov (Block g.pointer.address)))

-- 7.22.3.3p2: the allocation ends
abbrev pub end_of_block : ℕ → Now → Did Reply
end_of_block i S = answer_now reply.Nothing (with_more_notes (Ended i ∷ []) (in_memory S (without S.memory i)))

-- 7.22.3.3p2: of a null pointer nothing; else the allocation that it points to is deallocated
abbrev pub free : Given → Now → Did Reply
free g S = if is_null g.pointer then answer_now reply.Nothing S else next (block clause.Freeing g S) end_of_block

-- 7.22.3.5p2: the first bytes that both have are copied whole
abbrev pub after_block_copy : Option Info → Option Info → Mem → Mem
after_block_copy (Some old) (Some new) N = after_copy N new.base old.base (min old.size new.size)
after_block_copy _ _ N = N

-- 7.22.3.5p2, p4: a pointer to the new allocation, and the old one ends; or a null pointer, and the old one stays
abbrev pub reply_after_move : ℕ → Result ℕ Reply → Now → Did Reply
reply_after_move i (Err r) S = answer_now r S
reply_after_move i (Ok j) S = answer_now (pointer_to S.memory j) (with_more_notes (Ended i ∷ []) (in_memory S (without (after_block_copy (told_of S.memory i) (told_of S.memory j) S.memory) i)))

-- 7.22.3.5p3, p4: the request is made while the old allocation is live; where none is had, it stays. For no byte it stays, too
abbrev pub resize_of : ℕ → ℕ → Now → Did Reply
resize_of size i S = if size == 0 then answer_now (reply.Value null) S else next (request_of_bytes size S) (reply_after_move i)

-- 7.22.3.5p2, p3: as `malloc` for a null pointer; else the allocation that it points to gets this size
abbrev pub realloc : Given → ℕ → Now → Did Reply
realloc g size S = if is_null g.pointer then malloc size S else next (block clause.Reallocating g S) (resize_of size)
