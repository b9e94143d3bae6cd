use Rattle.std.proofs.Common.{rules, ◌≡◌, ◌++◌, Ok, Err}
use Rattle.pv_libc.proofs.Makings.{noted_live}
use Rattle.pv_libc.proofs.calls.call.Goals as goal

pub returns-in-Ok-extend_from_slice-clause-live : goal.returns-in-Ok-extend_from_slice-clause-live
returns-in-Ok-extend_from_slice-clause-live c =
    let before = c.args.notes.now.items in
    let within = c.called-reply.new.notes.items in
    let all = c.extend_from_slice.new.self.items in
    let is : all ≡ before ++ within = search rules in
    noted_live (Ok c.in-Ok.reply) c.args.m.now c.called-reply.new.m c.args.f c.args.args.now c.new-within.result.items before within all c.new-within.ensures.items is c.in-Ok.ensures.answer

pub returns-clause-live : goal.returns-clause-live
returns-clause-live c =
    let before = c.args.notes.now.items in
    let within = c.called-reply.new.notes.items in
    let all = c.extend_from_slice.new.self.items in
    let is : all ≡ before ++ within = search rules in
    noted_live (Err c.in-Err.stop) c.args.m.now c.called-reply.new.m c.args.f c.args.args.now c.new-within.result.items before within all c.new-within.ensures.items is c.in-Err.ensures.answer
