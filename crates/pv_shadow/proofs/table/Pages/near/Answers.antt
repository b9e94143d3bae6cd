use Rattle.std.proofs.Common.{sym, ap, ◌∙◌}
use Rattle.std.proofs.lemmas.List.{get_or_past}
use Rattle.pv_shadow.specs.declared.table.Bucket.TheVariants.{Free}
use Rattle.pv_shadow.specs.Buckets.{page_in}
use Rattle.pv_shadow.proofs.Buckets.{bucket_there}
use Rattle.pv_shadow.proofs.table.Pages.near.Goals as goal

pub returns-in-Some : goal.returns-in-Some
returns-in-Some c = record {
  value = c.page.ensures.value ∙ ap (λ w. page_in w c.args.k) (bucket_there c.args.self.now.buckets.items c.deref.result.now c.bucket_of.result c.args.k c.in-Some.bucket.now
      c.deref.ensures.value c.bucket_of.ensures (c.in-Some.ensures.lookup.3.1 Free));
}

pub returns-in-None : goal.returns-in-None
returns-in-None c = record {
  value = ap (λ w. page_in w c.args.k) (bucket_there c.args.self.now.buckets.items c.deref.result.now c.bucket_of.result c.args.k Free
      c.deref.ensures.value c.bucket_of.ensures (sym (get_or_past c.deref.result.now c.bucket_of.result Free c.in-None.ensures.lookup.3)));
}
