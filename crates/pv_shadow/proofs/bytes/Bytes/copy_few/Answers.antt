use Rattle.std.proofs.Common.{◌≡◌, ℕ, sym, subst}
use Rattle.pv_shadow.specs.Bytes.{bytes_from, with_bytes_at}
use Rattle.pv_shadow.specs.Readings.{HasBytes}
use Rattle.pv_shadow.proofs.bytes.Bytes.copy_few.Goals as goal

pub copy_group-requires-clause-target : goal.copy_group-requires-clause-target
copy_group-requires-clause-target c = subst (λ (m : ℕ). HasBytes c.args.self.now c.args.to m) (c.are_groups.ensures.eight c.if-are_groups.true) c.requires.target

pub copy_group-requires-clause-source : goal.copy_group-requires-clause-source
copy_group-requires-clause-source c = subst (λ (m : ℕ). HasBytes c.args.self.now c.args.from m) (c.are_groups.ensures.eight c.if-are_groups.true) c.requires.source

pub returns-then-are_groups : goal.returns-then-are_groups
returns-then-are_groups c =
    subst (λ (m : ℕ). c.copy_group.new.self ≡ with_bytes_at c.args.self.now c.args.to (bytes_from c.args.self.now c.args.from m)) (sym (c.are_groups.ensures.eight c.if-are_groups.true)) c.copy_group.ensures
