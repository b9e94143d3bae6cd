use Rattle.pv_unit.proofs.Causes.{both_noted, grown_further, types_further}
use Rattle.pv_unit.proofs.checking.with_both.Goals as goal

pub returns-in-Ok-clause-whole : goal.returns-in-Ok-clause-whole
returns-in-Ok-clause-whole c = λ texts.
    both_noted texts c.args.s.now c.args.into.now c.with_statics.new.into c.with_placed.new.into c.args.outer.now c.with_placed.result c.in-Ok.ensures.whole c.with_placed.ensures.whole

pub returns-in-Ok-clause-types : goal.returns-in-Ok-clause-types
returns-in-Ok-clause-types c = types_further c.args.into.now c.with_statics.new.into c.with_placed.new.into c.with_placed.result c.in-Ok.ensures.types c.with_placed.ensures.types

pub returns-in-Ok-clause-grown : goal.returns-in-Ok-clause-grown
returns-in-Ok-clause-grown c = grown_further c.args.into.now c.with_statics.new.into c.with_placed.new.into c.with_placed.result c.in-Ok.ensures.grown c.with_placed.ensures.grown
