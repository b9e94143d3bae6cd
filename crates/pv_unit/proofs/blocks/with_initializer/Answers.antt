use Rattle.std.proofs.Common.{Some, None, false, sym, ap, ◌∙◌}
use Rattle.std.specs.Prelude.{if◌then◌else◌}
use Rattle.pv_tree.specs.Tables.{optional_at}
use Rattle.pv_check.specs.Open.{state_of}
use Rattle.pv_unit.specs.Blocks.{with_initializer}
use Rattle.pv_unit.proofs.BlockRows.{either}
use Rattle.pv_unit.proofs.blocks.with_initializer.Goals as goal

pub returns-in-None-clause-answer : goal.returns-in-None-clause-answer
returns-in-None-clause-answer c =
    let start = state_of c.args.t.now.texts false c.args.s.now c.args.into.now in
    either c.args.t.now.texts c.args.s.now c.args.into.now c.is_whole.result
    ∙ ap (λ b. if b then Some start else None) (c.is_whole.ensures c.args.t.now.texts)
    ∙ ap (λ i. with_initializer c.args.lasting c.args.o (optional_at c.args.u.now.forest i) start) (sym c.in-None.is)
