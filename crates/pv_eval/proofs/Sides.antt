-- The value of an operation, once what it told is marked and its pair keeps its side.
use Rattle.std.proofs.Common.{◌≡◌, ℕ, ◌<◌, Bool, true, false, List, [], length, Some, None, refl, sym, ap, ◌∙◌, arith}
use Rattle.std.specs.Prelude.{Option, Result, Ok, Err, OnOk, IfErr, nat_lt, slice_get, if◌then◌else◌}
use Rattle.std.proofs.lemmas.Bool.{ltb-true, le-ltb}
use Rattle.pv_watch.specs.declared.event.What.{What}
use Rattle.pv_world.specs.declared.got.Got.{Got}
use Rattle.pv_world.specs.Worlds.{Worth, Nothing, World}
use Rattle.pv_world.specs.Telling.{Told, telling}
use Rattle.pv_world.specs.Doing.{Done}
use Rattle.pv_world.specs.Coming.{Did, worth_of, no_worth}
use Rattle.pv_eval.specs.declared.failure.Failure.{Failure}
use Rattle.pv_eval.specs.declared.failure.Failure.TheVariants as failure
use Rattle.pv_eval.specs.declared.marked.Marked.{Marked}
use Rattle.pv_eval.specs.declared.siding.Side.TheVariants.{Keeps}
use Rattle.pv_eval.specs.States.{Setting, State, Gives}
use Rattle.pv_eval.specs.Acting.{after_telling, by_side, answer_with_sides, after_doing, pair_count}
use Rattle.pv_eval.specs.Siding.{side_by, side_for, Settled}
use Rattle.pv_eval.specs.Moments.{Moment, Follows, state_of, with_waiting, Came, Made}
use Rattle.pv_eval.proofs.Marking.{state_marked, doing_seen, acted_seen}

-- a pair that keeps its side was made
made_by : (c : Bool) (o : Option Bool) (high : Bool) → side_by c o ≡ Keeps high → c ≡ true
made_by true o high e = refl
made_by false o high e = absurd cc

pub keeps_made : (sides : Option (List Bool)) (n m : ℕ) (high : Bool) → side_for sides n m ≡ Keeps high → n < m
keeps_made None n m high e = absurd cc
keeps_made (Some sides) n m high e = ltb-true n m (made_by (nat_lt n m) (slice_get sides n) high e)

-- what makes no pair
still_by : (c : Bool) (o : Option Bool) (v : Worth) (line : ℕ) (w : World) (t : Told) (s : State) → c ≡ false → (if c then by_side o v line w t s else Gives v (after_telling w t s)) ≡ Gives v (after_telling w t s)
still_by c o v line w t s e = ap (λ x. if x then by_side o v line w t s else Gives v (after_telling w t s)) e

answered_still : (sides : Option (List Bool)) (v : Worth) (line : ℕ) (w : World) (t : Told) (s : State) → pair_count w ≡ pair_count s.world → answer_with_sides sides v line w t s ≡ Gives v (after_telling w t s)
answered_still None v line w t s e = refl
answered_still (Some sides) v line w t s e =
    still_by (nat_lt (pair_count s.world) (pair_count w)) (slice_get sides (pair_count s.world)) v line w t s (le-ltb (pair_count s.world) (pair_count w) (omega (arith, e)))

-- an operation that gave its value
module _ (b : Setting) (line : ℕ) (old new : Moment) (w : World) (op : World → Done) (told : List What) (out : List ℕ) (es : List Marked) where
  acted_value : (g : Got) → Did worth_of op (Ok g) w old.world [] told
      → after_doing b line (op w) (state_of (record old { world = w }) out es) ≡ answer_with_sides b.sides (worth_of g) line old.world (telling told) (state_of (record old { world = w }) out es)
  acted_value g did =
      let s : State = state_of (record old { world = w }) out es in
      acted_seen b line (op w) s ∙ ap (λ z. doing_seen b line [] z s) did

  pub closed_value : (g : Got) → Did worth_of op (Ok g) w old.world [] told
      → Settled (worth_of g) (answer_with_sides b.sides (worth_of g) line old.world (telling told) (state_of (record old { world = w }) out es)) (Ok tt) (state_of new out es)
      → Came (after_doing b line (op w) (state_of (record old { world = w }) out es)) (Ok g) (state_of new out es)
  closed_value g did settled = acted_value g did ∙ settled

  pub closed_side : (g : Got) (e : Failure) → Did worth_of op (Ok g) w old.world [] told
      → Settled (worth_of g) (answer_with_sides b.sides (worth_of g) line old.world (telling told) (state_of (record old { world = w }) out es)) (Err e) (state_of new out es)
      → Came (after_doing b line (op w) (state_of (record old { world = w }) out es)) (Err e) (state_of new out es)
  closed_side g (failure.Stop y at) did settled = acted_value g did ∙ settled
  closed_side g failure.NoMemory did settled = tt

  -- one that makes no pair, whatever its line
  done_still : pair_count old.world ≡ pair_count w → Did no_worth op (Ok tt) w old.world [] told → Follows old (length out) → new ≡ with_waiting old old.world told
      → after_doing b line (op w) (state_of (record old { world = w }) out es) ≡ Gives Nothing (state_of new out es)
  done_still many did h new_is =
      let s : State = state_of (record old { world = w }) out es in
      acted_seen b line (op w) s ∙ ap (λ z. doing_seen b line [] z s) did
      ∙ answered_still b.sides Nothing line old.world (telling told) s many
      ∙ ap (Gives Nothing) (state_marked (record old { world = w }) old.world told out es h ∙ ap (λ n. state_of n out es) (sym new_is))

  pub closed_done : (r : Result (Unit {0}) Failure) → pair_count old.world ≡ pair_count w → Follows old (length out) → Did no_worth op (Ok tt) w old.world [] told
      → OnOk r (new ≡ with_waiting old old.world told) → IfErr r (λ e. e ≡ failure.NoMemory)
      → Made (after_doing b line (op w) (state_of (record old { world = w }) out es)) r (state_of new out es)
  closed_done (Ok u) many h did marked memory = done_still many did h marked
  closed_done (Err (failure.Stop y at)) many h did marked memory = absurd cc
  closed_done (Err failure.NoMemory) many h did marked memory = tt
