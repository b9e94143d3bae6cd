use Rattle.pv_state.specs.Answering.{look_of}
use Rattle.pv_state.proofs.TellingLemmas.{refused_source, refused_script, own_shown}
use Rattle.pv_state.proofs.running.answer.Goals as goal

pub shown-requires : goal.shown-requires
shown-requires c = record {
  bound = c.requires.bound;
  places = c.requires.places;
  fit = (rw c.in-Ok-Program.field-0-is at c.in-Ok-Program.ensures).fit;
  reads = (rw c.in-Ok-Program.field-0-is at c.in-Ok-Program.ensures).reads;
}

pub returns-in-Ok-Program-clause-answered : goal.returns-in-Ok-Program-clause-answered
returns-in-Ok-Program-clause-answered c = c.shown.ensures.answered _ (rw c.in-Ok-Program.field-0-is at c.in-Ok-Program.ensures)

pub returns-in-Ok-Program-clause-own : goal.returns-in-Ok-Program-clause-own
returns-in-Ok-Program-clause-own c = own_shown c.shown.result c.shown.ensures.own

pub returns-in-Ok-Source-clause-answered : goal.returns-in-Ok-Source-clause-answered
returns-in-Ok-Source-clause-answered c =
    refused_source c.args.source.now c.args.script.now (look_of c.args.look) c.args.places.now _ _ (rw c.in-Ok-Source.field-0-is at c.in-Ok-Source.ensures) c.refused.ensures.told

pub returns-in-Ok-Script-clause-answered : goal.returns-in-Ok-Script-clause-answered
returns-in-Ok-Script-clause-answered c =
    refused_script c.args.source.now c.args.script.now (look_of c.args.look) c.args.places.now _ _ (rw c.in-Ok-Script.field-0-is at c.in-Ok-Script.ensures) c.refused-in-Ok-Script.ensures.told
