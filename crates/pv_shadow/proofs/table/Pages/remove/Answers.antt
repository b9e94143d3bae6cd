use Rattle.std.proofs.Common.{◌%◌, IsSome, None, ap, sym, subst, ◌∙◌, arith}
use Rattle.pv_shadow.specs.declared.table.Bucket.{Bucket}
use Rattle.pv_shadow.specs.Buckets.{page_in}
use Rattle.pv_shadow.proofs.Buckets.{bucket_at, is_within, is_none, says_near, says_far, others_change, goes_near}
use Rattle.pv_shadow.proofs.table.Pages.remove.Goals as goal

pub index_mut-requires : goal.index_mut-requires
index_mut-requires c =
    let within = is_within c.args.self.now.buckets.items (c.args.k % 256) c.args.k (sym c.is_near.ensures ∙ c.if-is_near.true) in
    omega (arith, within, c.bucket_of.ensures, c.args.self.now.buckets.ok.0)

pub returns-then-is_near-clause-value : goal.returns-then-is_near-clause-value
returns-then-is_near-clause-value c =
    let ws = c.args.self.now.buckets.items in
    let k = c.args.k in
    let there = sym c.is_near.ensures ∙ c.if-is_near.true in
    let is = bucket_at ws c.bucket_of.result k c.index_mut.result.now c.bucket_of.ensures c.index_mut.ensures.value (is_within ws (k % 256) k there) in
    let P : Bucket → Type 0 = λ w. IsSome (page_in w k) in
    c.take.ensures.value k (subst P (sym is) there) ∙ ap (λ w. page_in w k) is ∙ says_near ws c.args.self.now.overflow.entries k there

pub returns-then-is_near-clause-updates : goal.returns-then-is_near-clause-updates
returns-then-is_near-clause-updates c =
    goes_near c.args.self.now.buckets.items c.args.self.now.overflow.entries c.remove-farther.new.self.entries c.bucket_of.result c.args.k c.take.new.self
    c.bucket_of.ensures c.take.ensures.free (sym c.is_near.ensures ∙ c.if-is_near.true) c.remove-farther.ensures.updates.0

pub returns-clause-value : goal.returns-clause-value
returns-clause-value c =
    c.remove-farther.ensures.value ∙ says_far c.args.self.now.buckets.items c.args.self.now.overflow.entries c.args.k (is_none _ (sym c.is_near.ensures ∙ c.if-is_near.false))

pub returns-clause-updates : goal.returns-clause-updates
returns-clause-updates c =
    others_change c.args.self.now.buckets.items c.args.self.now.overflow.entries c.remove-farther.new.self.entries c.args.k None (is_none _ (sym c.is_near.ensures ∙ c.if-is_near.false)) c.remove-farther.ensures.updates.0
