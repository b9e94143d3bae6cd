use Rattle.std.proofs.Common.{length, sym, ap, ◌∙◌, arith}
use Rattle.pv_shadow.specs.declared.table.Bucket.TheVariants.{Free}
use Rattle.pv_shadow.proofs.Buckets.{bucket_there}
use Rattle.pv_shadow.proofs.table.Pages.is_free.Goals as goal

pub returns-in-Some-clause-within : goal.returns-in-Some-clause-within
returns-in-Some-clause-within c = λ t. omega (arith, c.in-Some.ensures.lookup.3.0, c.bucket_of.ensures, ap length c.deref.ensures.value)

pub returns-in-Some-clause-free : goal.returns-in-Some-clause-free
returns-in-Some-clause-free c = λ t.
    sym (bucket_there c.args.self.now.buckets.items c.deref.result.now c.bucket_of.result c.args.k c.in-Some.bucket.now
    c.deref.ensures.value c.bucket_of.ensures (c.in-Some.ensures.lookup.3.1 Free)) ∙ c.is_free.ensures t
