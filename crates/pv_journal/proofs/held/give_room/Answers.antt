use Rattle.std.proofs.Common.{◌≡◌, ◌+◌, ◌∙◌, List, ℕ, get_or, length, refl, ap, arith}
use Rattle.pv_journal.proofs.Indexing.{zero_more}
use Rattle.pv_journal.proofs.Passing.{length-snoc}
use Rattle.pv_journal.proofs.held.give_room.Goals as goal

pub loop-tops-init : goal.loop-tops-init
loop-tops-init c = λ n. refl

pub loop-tops-smaller : goal.loop-tops-smaller
loop-tops-smaller c =
    let longer : length c.push.new.self.items ≡ length c.loop-tops.tops.items + 1 = ap length c.in_ok-push.ensures.items ∙ length-snoc c.loop-tops.tops.items 0 in
    omega (arith, longer, c.loop-tops.tops.ok.0, c.len.ensures)

pub loop-tops-preserved : goal.loop-tops-preserved
loop-tops-preserved c = λ n. ap (λ (l : List ℕ). get_or l n 0) c.in_ok-push.ensures.items ∙ zero_more c.loop-tops.tops.items n ∙ c.loop-tops.invariant n

pub returns-in_err-push-clause-same : goal.returns-in_err-push-clause-same
returns-in_err-push-clause-same c = λ n. ap (λ (l : List ℕ). get_or l n 0) c.in_err-push.ensures.items ∙ c.loop-tops.invariant n

pub returns-clause-room : goal.returns-clause-room
returns-clause-room c = omega (arith, c.loop-tops.tops.ok.0, c.len.ensures)

pub returns-clause-same : goal.returns-clause-same
returns-clause-same c = c.loop-tops.invariant
