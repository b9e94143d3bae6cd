use Rattle.pv_check.proofs.Opening.{open_goes, goes_types, whole_types}
use Rattle.pv_check.proofs.WordTypes.{made_after}
use Rattle.pv_check.proofs.type_names.word_type.Goals as goal

pub returns-clause-open : goal.returns-clause-open
returns-clause-open c = (c.in_ok-r.ensures.known, open_goes c.args.into.now _ c.args.s.now c.requires.opened (goes_types c.args.into.now _ _ c.types_mut.ensures.value c.requires.opened.known c.in_ok-r.ensures.grows))

pub returns-clause-goes : goal.returns-clause-goes
returns-clause-goes c = goes_types c.args.into.now _ _ c.types_mut.ensures.value c.requires.opened.known c.in_ok-r.ensures.grows

pub returns-clause-answer : goal.returns-clause-answer
returns-clause-answer c = λ texts hidden.
    made_after texts hidden c.args.into.now _ c.args.s.now c.in_ok-r.r _ c.requires.opened
    (goes_types c.args.into.now _ _ c.types_mut.ensures.value c.requires.opened.known c.in_ok-r.ensures.grows)
    (whole_types c.args.into.now _ _ c.types_mut.ensures.value c.requires.opened.known c.in_ok-r.ensures.grows)
    c.in_ok-r.ensures.tree
