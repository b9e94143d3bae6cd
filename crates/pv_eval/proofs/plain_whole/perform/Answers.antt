use Rattle.std.proofs.Common.{sym, ◌∙◌, subst}
use Rattle.pv_eval.specs.Codes.{IsCode}
use Rattle.pv_eval.proofs.plain_whole.perform.Goals as goal

pub assign_integer-requires-clause-code : goal.assign_integer-requires-clause-code
assign_integer-requires-clause-code c = subst (IsCode c.args.unit.now c.args.n) (sym c.code-code.ensures ∙ c.in-Assign.is) (c.requires.codes c.args.n c.requires.there)

pub increment_integer-requires-clause-code : goal.increment_integer-requires-clause-code
increment_integer-requires-clause-code c = subst (IsCode c.args.unit.now c.args.n) (sym c.code-code.ensures ∙ c.in-Increment.is) (c.requires.codes c.args.n c.requires.there)

pub compound_integer-requires-clause-code : goal.compound_integer-requires-clause-code
compound_integer-requires-clause-code c = subst (IsCode c.args.unit.now c.args.n) (sym c.code-code.ensures ∙ c.in-Compound.is) (c.requires.codes c.args.n c.requires.there)

pub assign_pointer-requires-clause-code : goal.assign_pointer-requires-clause-code
assign_pointer-requires-clause-code c = subst (IsCode c.args.unit.now c.args.n) (sym c.code-code.ensures ∙ c.in-AssignPointer.is) (c.requires.codes c.args.n c.requires.there)
