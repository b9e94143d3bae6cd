use Rattle.pv_serve.specs.Replying.{WasTold}
use Rattle.pv_state.proofs.calling.state_of.Goals as goal

pub tell_reply-requires : goal.tell_reply-requires
tell_reply-requires g c = c.in-Ok.ensures.own.no_write_fault

pub returns-in-Ok : goal.returns-in-Ok
returns-in-Ok g c = WasTold _ c.in-Ok.ensures.answered c.in-Ok.ensures.own c.tell_reply.ensures
