use Rattle.std.proofs.Common.{◌%◌, IsSome, refl, ap, sym, subst, ◌∙◌, arith}
use Rattle.pv_shadow.specs.declared.table.Bucket.{Bucket}
use Rattle.pv_shadow.specs.Buckets.{page_in}
use Rattle.pv_shadow.proofs.Buckets.{bucket_at, is_within, near_is}
use Rattle.pv_shadow.proofs.table.Pages.near_mut.Goals as goal

pub index_mut-requires : goal.index_mut-requires
index_mut-requires c =
    let within = is_within c.args.self.now.buckets.items (c.args.k % 256) c.args.k c.requires in
    omega (arith, within, c.bucket_of.ensures, c.args.self.now.buckets.ok.0)

pub page_mut-requires : goal.page_mut-requires
page_mut-requires c =
    let ws = c.args.self.now.buckets.items in
    let there = bucket_at ws c.bucket_of.result c.args.k c.index_mut.result.now c.bucket_of.ensures c.index_mut.ensures.value (is_within ws (c.args.k % 256) c.args.k c.requires) in
    let P : Bucket → Type 0 = λ w. IsSome (page_in w c.args.k) in
    subst P (sym there) c.requires

pub returns : goal.returns
returns c =
    let p = c.args.self.now in
    let there = bucket_at p.buckets.items c.bucket_of.result c.args.k c.index_mut.result.now c.bucket_of.ensures c.index_mut.ensures.value (is_within p.buckets.items (c.args.k % 256) c.args.k c.requires) in (
      (refl, λ w. near_is p c.bucket_of.result c.args.k c.index_mut.result.now w c.bucket_of.ensures c.index_mut.ensures.value c.requires),
      record { writes_back = tt; value = sym (ap (λ v. page_in v c.args.k) there) ∙ c.page_mut.ensures.value },
    )
