use Rattle.std.proofs.Common.{Option, ap, ◌∙◌}
use Rattle.pv_num.specs.declared.kinds.IntKind.TheVariants as kind
use Rattle.pv_types.specs.Ty.{Ty, IntTy}
use Rattle.pv_check.specs.Open.{state_of}
use Rattle.pv_check.specs.Seeing.{seen_in}
use Rattle.pv_check.specs.Specifiers.{with_type, Seen as WhatIsSeen}
use Rattle.pv_check.specs.State.{State, give}
use Rattle.pv_check.proofs.Opening.{open_goes, state_stays}
use Rattle.pv_check.proofs.SeenRows.{after_gives, seen_stays, named_known}
use Rattle.pv_check.proofs.enumerations.enumeration_seen.Goals as goal

pub returns-clause-opened : goal.returns-clause-opened
returns-clause-opened c = open_goes c.args.into.now c.interned_in.new.into c.closed_enumeration.new.s c.in_ok-closed_enumeration.ensures.opened c.in_ok-t.ensures.goes

pub returns-clause-known : goal.returns-clause-known
returns-clause-known c = named_known c.interned_in.new.into.known c.with_type.result c.in_ok-t.t c.with_type.ensures.named c.in_ok-t.ensures.known

pub returns-clause-answer : goal.returns-clause-answer
returns-clause-answer c = λ texts u.
    let a = c.args.into.now in
    let b = c.interned_in.new.into in
    let s = c.closed_enumeration.new.s in
    after_gives texts u s b c.with_type.result
    ∙ ap (λ (o : Option WhatIsSeen). give o (state_of texts u s b)) (c.with_type.ensures.value b.known ∙ ap (λ (t : Ty). with_type (seen_in b.known c.args.seen) t) c.in_ok-t.ensures.tree)
    ∙ ap (λ (x : WhatIsSeen). give (with_type x (IntTy kind.Int)) (state_of texts u s b)) (seen_stays a b c.args.seen c.in_ok-t.ensures.goes c.requires.named)
    ∙ ap (λ (z : State). give (with_type (seen_in a.known c.args.seen) (IntTy kind.Int)) z) (state_stays texts u a b s c.in_ok-closed_enumeration.ensures.opened c.in_ok-t.ensures.goes c.in_ok-t.ensures.whole ∙ c.in_ok-closed_enumeration.ensures.answer texts u)
