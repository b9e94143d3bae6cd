use Rattle.std.proofs.Common.{rules, ◌≡◌, false}
use Rattle.pv_object.specs.Access.{is_null}
use Rattle.pv_libc.specs.Steps.{with_notes}
use Rattle.pv_libc.proofs.Steps.{realloc_next}
use Rattle.pv_libc.proofs.heap.realloc.Goals as goal

pub returns-in-Ok : goal.returns-in-Ok
returns-in-Ok c =
    let start = with_notes c.args.memory.now c.args.notes.now.items in
    let found = with_notes c.block_noted.new.memory c.block_noted.new.notes.items in
    let end = with_notes c.resized.new.memory c.resized.new.notes.items in
    let some : is_null c.args.given.pointer ≡ false = search rules in
    realloc_next c.resized.result end start found c.args.given c.args.size c.in-Ok.i some c.in-Ok.ensures.answer c.resized.ensures
