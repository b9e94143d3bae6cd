use Rattle.std.proofs.Common.{◌≡◌, ap, sym, subst, List, [], ◌∷◌, arith}
use Rattle.std.specs.Prelude.{map}
use Rattle.std.proofs.lemmas.Grind.{common_steps}
use Rattle.pv_seq.specs.Rivals.{top}
use Rattle.pv_world.specs.Worlds.{Worth}
use Rattle.pv_world.specs.Coming.{worth_of}
use Rattle.pv_eval.specs.Moments.{state_of}
use Rattle.pv_eval.specs.Ahead.{Led}
use Rattle.pv_eval.specs.Pieces.{through}
use Rattle.pv_eval.proofs.pointed_calls.begin_pointed.Goals as goal

pub returns-clause-led : goal.returns-clause-led
returns-clause-led c = λ b out es hs hl call js.
    let u = c.args.unit.now in
    let items : c.push.new.self.items ≡ c.args.v ∷ [] = grind (arith, common_steps) in
    let P : List Worth → Type 0 = λ ws. Led b call u (through u c.args.n c.args.a c.args.l ws b call (top js) (state_of c.args.moment.now out es)) c.next_pointed.result js (state_of c.next_pointed.new.moment out es) in
    subst P (ap (map worth_of) items) (c.next_pointed.ensures.led b out es hs hl call js)
