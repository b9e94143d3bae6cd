use Rattle.std.proofs.Common.{subst, arith}
use Rattle.std.specs.Prelude.{List, map}
use Rattle.std.proofs.lemmas.List.{take_all}
use Rattle.pv_watch.specs.Slots.{Told}
use Rattle.pv_eval.specs.declared.marked.Marked.{Marked}
use Rattle.pv_watch.specs.Halls.{hall_slots}
use Rattle.pv_exec.specs.Outlets.{event_of}
use Rattle.pv_typed.specs.Known.{Each}
use Rattle.pv_exec.specs.Words.{FitsWords}
use Rattle.pv_exec.proofs.Outside.{told-next, words-next}
use Rattle.pv_exec.proofs.delivering.tell.Goals as goal

pub events-preserved : goal.events-preserved
events-preserved g c = record {
  told = told-next _ _ _ c.args.events.now c.events.i c.names.result.now c.args.unit.now.names c.events.invariant.told (omega (arith, c.events-test.true)) c.names.ensures c.in_ok-tell.ensures;
  within = omega (arith, c.events-test.true);
  words = words-next c.events.i c.args.events.now c.events.invariant.words (omega (arith, c.events-test.true)) c.fits_words.ensures;
}

pub returns-clause-words : goal.returns-clause-words
returns-clause-words g c = subst (λ (xs : List Marked). Each FitsWords xs) (take_all c.events.i c.args.events.now (omega (arith, c.events-test.false))) c.events.invariant.words

pub returns-clause-told : goal.returns-clause-told
returns-clause-told g c =
    subst (λ (xs : List Marked). Told (hall_slots c.args.hall.now (λ z. (goal.Watch-dyn g z).its_kind z.1) (λ z. (goal.Watch-dyn g z).its_wants z.1) (λ z. (goal.Watch-dyn g z).seen z.1)) (map event_of xs) c.args.unit.now.names (hall_slots c.events.hall (λ z. (goal.Watch-dyn g z).its_kind z.1) (λ z. (goal.Watch-dyn g z).its_wants z.1) (λ z. (goal.Watch-dyn g z).seen z.1)))
    (take_all c.events.i c.args.events.now (omega (arith, c.events-test.false))) c.events.invariant.told
