-- Operations that make no pair.
use Rattle.std.proofs.Common.{◌≡◌, ℕ, Bool, true, false, List, [], ◌∷◌, length, Some, None, refl, sym, ap, ◌∙◌}
use Rattle.std.specs.Prelude.{Option, Ok}
use Rattle.pv_inst.specs.declared.values.Instance.{Instance}
use Rattle.pv_inst.specs.Table.{Table, instance_at}
use Rattle.pv_inst.specs.EndingParts.{ending}
use Rattle.pv_watch.specs.declared.event.What.{What}
use Rattle.pv_world.specs.Worlds.{Worth, Nothing, World, Wrong}
use Rattle.pv_world.specs.Doing.{Done, Answers, Fails, Breaks}
use Rattle.pv_world.specs.Coming.{Gave, Ended, printing, coming_of, Did, no_worth}
use Rattle.pv_shadow.specs.Whole.{number_bytes}
use Rattle.pv_world.specs.Accesses.{stored_as}
use Rattle.pv_world.specs.Objects.{ends_object, fills_object, puts_bytes}
use Rattle.pv_typed.specs.TypedUnits.{object_at}
use Rattle.pv_eval.specs.States.{Setting}
use Rattle.pv_eval.specs.TypeForms.{Lvalue, size_of}
use Rattle.pv_eval.specs.Acting.{pair_count}
use Rattle.pv_eval.specs.Objects.{where_possible, instance_for, can_fill, can_put, can_put_text, text_for}
use Rattle.pv_world.specs.Suiting.{is_live}
use Rattle.pv_eval.specs.Operations.{Op, Ends, Fills, Puts, PutsText, does}

-- the pairs of the world that a doing leaves
abbrev pairs_left : Done → ℕ
pairs_left (Answers v w t) = pair_count w
pairs_left (Fails y p w t) = pair_count w
pairs_left (Breaks y b w t) = pair_count w

gave_left : (bytes : List ℕ) (v x : Worth) (w y : World) (es fs : List What) → printing bytes (Gave v w es) ≡ Gave x y fs → pair_count w ≡ pair_count y
gave_left [] v x w y es fs e = let same : w ≡ y = cc in ap pair_count same
gave_left (b ∷ bs) v x w y es fs e = absurd cc

ended_left : (bytes : List ℕ) (z : Wrong) (x : Worth) (w y : World) (es fs : List What) → printing bytes (Ended z w es) ≡ Gave x y fs → pair_count w ≡ pair_count y
ended_left [] z x w y es fs e = absurd cc
ended_left (b ∷ bs) z x w y es fs e = absurd cc

left_by : (d : Done) (w : World) (es : List What) (x : Worth) (y : World) (fs : List What) → coming_of es w d ≡ Gave x y fs → pairs_left d ≡ pair_count y
left_by (Answers v u t) w es x y fs e = gave_left t.bytes v x u y _ fs e
left_by (Fails z p u t) w es x y fs e = ended_left t.bytes z x u y _ fs e
left_by (Breaks z b u t) w es x y fs e = ended_left t.bytes z x u y _ fs e

pub still : (b : Setting) (o : Op) (w v : World) (es fs : List What) → Did no_worth (does b o) (Ok tt) w v es fs → pairs_left (does b o w) ≡ pair_count w → pair_count v ≡ pair_count w
still b o w v es fs did e = sym (left_by (does b o w) w es Nothing v fs did) ∙ e

possible_left : (c : Bool) (w : World) (d : Done) → pairs_left d ≡ pair_count w → pairs_left (where_possible c w d) ≡ pair_count w
possible_left true w d e = e
possible_left false w d e = refl

ending_left : (T : Table) (i : ℕ) (o : Option Instance) → length (ending T i o).pairs ≡ length T.pairs
ending_left T i None = refl
ending_left T i (Some x) = refl

pub ends_still : (b : Setting) (o : ℕ) (w : World) → pairs_left (does b (Ends o) w) ≡ pair_count w
ends_still b o w =
    let i = instance_for b o w in
    possible_left (is_live w i) w (ends_object o (object_at b.unit o).lasting w) (ending_left w.memory.table i (instance_at w.memory.table.instances i))

pub fills_still : (b : Setting) (o : ℕ) (v : Option ℕ) (w : World) → pairs_left (does b (Fills o v) w) ≡ pair_count w
fills_still b o v w = possible_left (can_fill b o w) w (fills_object o (object_at b.unit o).lasting (size_of b (object_at b.unit o).t) v w) refl

pub puts_still : (b : Setting) (o offset : ℕ) (l : Lvalue) (v : Worth) (w : World) → pairs_left (does b (Puts o offset l v) w) ≡ pair_count w
puts_still b o offset l v w = possible_left (can_put b o offset l v w) w (puts_bytes o (object_at b.unit o).lasting offset (stored_as l.number l.shape v) w) refl

pub puts_text_still : (b : Setting) (o offset size l : ℕ) (w : World) → pairs_left (does b (PutsText o offset size l) w) ≡ pair_count w
puts_text_still b o offset size l w = possible_left (can_put_text b o offset size l w) w (puts_bytes o (object_at b.unit o).lasting offset (number_bytes None 0 (text_for b size l)) w) refl
