use Rattle.std.proofs.Common.{◌∙◌}
use Rattle.pv_state.proofs.PlaceLemmas.{left_first, left_next, left_none, left_last, named_places, no_places, each_none, each_more}
use Rattle.pv_state.proofs.WordLemmas.{zero_is, some_is}
use Rattle.pv_state.proofs.words.places_of.Goals.{in-Some+in_ok-push-in-Some, in-None}
use Rattle.pv_state.proofs.words.places_of.Goals as goal

pub returns-then-is_empty-clause-read : goal.returns-then-is_empty-clause-read
returns-then-is_empty-clause-read c =
    no_places c.args.bound c.args.words.now _ _ (zero_is _ _ c.is_empty.ensures c.if-is_empty.true) c.new-places.ensures.items c.in_ok-push.ensures.items

pub loop-word-init : goal.loop-word-init
loop-word-init c = (left_first c.args.bound c.args.words.now _ c.new-places.ensures.items c.requires.places, each_none c.args.bound _ c.new-places.ensures.items)

pub loop-word-preserved : goal.loop-word-preserved
loop-word-preserved c = elim c.match-place_in.branch [
  | in-Some+in_ok-push-in-Some w ↦ rw w.places-is (
    left_next c.args.bound c.args.words.now c.loop-word.word-index c.word-item.result c.as_str.result.now w.in-Some.place _ _ _ c.loop-word-test.true c.word-item.is c.as_str.ensures.value
        w.in-Some.ensures.place w.in_ok-push-in-Some.ensures.items c.loop-word.invariant.0,
    each_more c.args.bound _ _ w.in-Some.place w.in_ok-push-in-Some.ensures.items c.loop-word.invariant.1 w.in-Some.ensures.within,
  )
  | in-None w ↦
      absurd (left_none c.args.bound c.args.words.now c.loop-word.word-index c.word-item.result c.as_str.result.now _ _ c.loop-word-test.true c.word-item.is c.as_str.ensures.value
      w.in-None.ensures.place c.loop-word.invariant.0)
]

pub returns-clause-read : goal.returns-clause-read
returns-clause-read c =
    left_last c.args.bound c.args.words.now c.loop-word.word-index _ c.loop-word.places.items c.loop-word-test.false c.loop-word.invariant.0
    ∙ named_places c.args.bound c.args.words.now (some_is _ _ c.is_empty.ensures c.if-is_empty.false) c.requires.places
