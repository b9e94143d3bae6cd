use Rattle.pv_effect.proofs.Below.{held_some, held_nowhere}
use Rattle.pv_effect.proofs.bytes.in_structure.Goals as goal

pub overflow_sub-result : goal.overflow_sub-result
overflow_sub-result c = (held_some c.args.types.now c.args.tag c.args.offset c.member_over.ensures.built c.requires.complete c.requires.structure c.requires.small c.in-Some.start c.in-Some.t (rw (← c.in-Some.is) c.member_over.ensures.holder)).begins

pub returns-in-Some-clause-value : goal.returns-in-Some-clause-value
returns-in-Some-clause-value c = (held_some c.args.types.now c.args.tag c.args.offset c.member_over.ensures.built c.requires.complete c.requires.structure c.requires.small c.in-Some.start c.in-Some.t (rw (← c.in-Some.is) c.member_over.ensures.holder)).same

pub returns-in-Some-clause-below : goal.returns-in-Some-clause-below
returns-in-Some-clause-below c =
    let l = held_some c.args.types.now c.args.tag c.args.offset c.member_over.ensures.built c.requires.complete c.requires.structure c.requires.small c.in-Some.start c.in-Some.t (rw (← c.in-Some.is) c.member_over.ensures.holder) in
    (l.known, l.complete, l.small, l.lower)

pub returns-in-None-clause-value : goal.returns-in-None-clause-value
returns-in-None-clause-value c = held_nowhere c.args.types.now c.args.tag c.args.offset c.member_over.ensures.built c.requires.complete c.requires.structure c.requires.small (rw (← c.in-None.is) c.member_over.ensures.holder)
