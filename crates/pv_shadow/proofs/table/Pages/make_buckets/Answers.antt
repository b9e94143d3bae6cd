use Rattle.std.proofs.Common.{◌≡◌, ◌+◌, vec_len, ap, ◌∙◌, arith}
use Rattle.pv_shadow.specs.Buckets.{by_buckets}
use Rattle.pv_shadow.proofs.Buckets.{free_last}
use Rattle.pv_shadow.proofs.table.Pages.make_buckets.Goals as goal

pub loop-self-smaller : goal.loop-self-smaller
loop-self-smaller c =
    let longer : vec_len c.push.new.self ≡ vec_len c.loop-self.self.buckets + 1 = c.in_ok-push.ensures.len in
    omega (arith, longer, c.len.ensures)

pub loop-self-preserved : goal.loop-self-preserved
loop-self-preserved c =
    ap (λ ws. by_buckets 0 ws c.loop-self.self.overflow.entries) c.in_ok-push.ensures.items
    ∙ free_last c.loop-self.self.buckets.items 0 c.loop-self.self.overflow.entries ∙ c.loop-self.invariant

pub returns-in_err-push : goal.returns-in_err-push
returns-in_err-push c = ap (λ ws. by_buckets 0 ws c.loop-self.self.overflow.entries) c.in_err-push.ensures.items ∙ c.loop-self.invariant

pub returns : goal.returns
returns c = c.loop-self.invariant
