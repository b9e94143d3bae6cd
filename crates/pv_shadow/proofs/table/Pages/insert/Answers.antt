use Rattle.std.proofs.Common.{ap, ◌∙◌, arith}
use Rattle.pv_shadow.specs.Buckets.{by_buckets, all_pages}
use Rattle.pv_shadow.proofs.Buckets.{comes_near, comes_farther, at_err}
use Rattle.pv_shadow.proofs.table.Pages.insert.Goals as goal

pub index_mut-requires : goal.index_mut-requires
index_mut-requires c = omega (arith, c.is_free.ensures.within c.if-is_free.true, c.bucket_of.ensures, c.make_buckets.new.self.buckets.ok.0)

pub returns-then-is_free-clause-ok : goal.returns-then-is_free-clause-ok
returns-then-is_free-clause-ok c =
    let p = c.make_buckets.new.self in
    comes_near (all_pages c.args.self.now) p.overflow.entries p.buckets.items c.bucket_of.result c.args.k c.fill.new.self c.args.page c.make_buckets.ensures c.bucket_of.ensures c.fill.ensures
    (c.is_free.ensures.within c.if-is_free.true) (c.is_free.ensures.free c.if-is_free.true)

pub returns-in_err-insert-clause-err : goal.returns-in_err-insert-clause-err
returns-in_err-insert-clause-err c =
    at_err _ c.from_residual-in_err-insert.result (ap (λ es. by_buckets 0 c.make_buckets.new.self.buckets.items es) c.in_err-insert.ensures.err ∙ c.make_buckets.ensures)

pub returns-clause-ok : goal.returns-clause-ok
returns-clause-ok c =
    let p = c.make_buckets.new.self in
    comes_farther (all_pages c.args.self.now) p.overflow.entries c.insert.new.self.entries p.buckets.items c.args.k c.args.page c.make_buckets.ensures c.requires c.in_ok-insert.ensures.updates.0
