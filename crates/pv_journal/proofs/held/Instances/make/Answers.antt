use Rattle.std.proofs.Common.{Some, None, cond, [], ◌∷◌, ◌++◌, sym, ap, ◌∙◌}
use Rattle.pv_journal.specs.Keyed.{fresh}
use Rattle.pv_journal.proofs.Indexing.{free_by}
use Rattle.pv_journal.proofs.held.Instances.make.Goals as goal

pub push-requires : goal.push-requires
push-requires c = free_by c.args.self.now c.args.valid c.args.key c.args.base c.args.size (sym c.may_make.ensures ∙ c.if-not-may_make.false)

pub returns : goal.returns
returns c =
    ap (λ b. cond b (Some (c.args.self.now ++ fresh c.args.key c.args.base c.args.size ∷ [])) None) (sym c.may_make.ensures ∙ c.if-not-may_make.false) ∙ ap Some (sym c.in_ok-push.ensures)
