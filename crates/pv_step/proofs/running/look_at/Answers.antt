use Rattle.pv_serve.proofs.RepliesLemmas.{own_of}
use Rattle.pv_step.proofs.RunLemmas.{ran_journal, ran_shown, refusal_shown, own_shown, heard_so}
use Rattle.pv_step.proofs.running.look_at.Goals as goal

pub show-requires : goal.show-requires
show-requires g c =
    ran_journal c.args.text.now.source.items c.args.text.now.script.items c.requires.0 c.requires.1 _ _ _ _ _ c.as_slice-journal.result.now
    c.as_slice-journal.ensures.value c.requires.2 c.in-Ran.is c.requires.4 (heard_so _ _ c.requires.3 c.in_ok-text-in-Ran.ensures)

pub returns-in_ok-text-in-Ran-clause-looked : goal.returns-in_ok-text-in-Ran-clause-looked
returns-in_ok-text-in-Ran-clause-looked g c =
    ran_shown c.args.text.now.source.items c.args.text.now.script.items c.args.commands.now c.requires.0 c.requires.1 _ _ _ _ _ _ c.as_slice-journal.result.now
    c.as_slice-line.result.now _ c.as_slice-journal.ensures.value c.as_slice-line.ensures.value c.requires.2 c.in-Ran.is c.requires.4
    (heard_so _ _ c.requires.3 c.in_ok-text-in-Ran.ensures) c.is_text.ensures c.in_ok-told.ensures c.show.ensures.shown

pub returns-in_ok-text-in-Ran-clause-own : goal.returns-in_ok-text-in-Ran-clause-own
returns-in_ok-text-in-Ran-clause-own g c = own_shown c.show.result c.show.ensures.own

pub returns-in_default-clause-looked : goal.returns-in_default-clause-looked
returns-in_default-clause-looked g c =
    refusal_shown c.args.text.now.source.items c.args.text.now.script.items c.args.commands.now c.requires.0 c.requires.1 _ c.status.result c.in_ok-told.told.items
    (λ ran names most same. c.in_default.not-Ran ran names most same) c.requires.4 c.status.ensures.value c.in_ok-told.ensures

pub returns-in_default-clause-own : goal.returns-in_default-clause-own
returns-in_default-clause-own g c = own_of c.status.result c.status.ensures.own
