use Rattle.pv_typed.specs.Tables.{whole_unit}
use Rattle.pv_state.specs.Answering.{look_of}
use Rattle.pv_state.proofs.TellingLemmas.{told_next, told_all}
use Rattle.pv_state.proofs.running.texts_at.Goals as goal

pub loop-place-preserved : goal.loop-place-preserved
loop-place-preserved c = λ lines is.
    told_next (whole_unit c.args.unit.now) lines (look_of c.args.look) c.args.places.now c.loop-place.place-index _ c.loop-place.text.items _ _ _ c.loop-place-test.true
    c.in_ok-extend_from_slice.ensures.items c.as_slice.ensures.value (c.in_ok-one.ensures lines is) (c.loop-place.invariant lines is)

pub returns : goal.returns
returns c = λ lines is.
    told_all (whole_unit c.args.unit.now) lines (look_of c.args.look) c.args.places.now c.loop-place.place-index c.loop-place.text.items c.loop-place-test.false (c.loop-place.invariant lines is)
