-- From an operation on a world to the same in the state of a run (C17 5.1.2.3): guards make no difference, and what it leaves is sound.
use Rattle.std.proofs.Common.{◌≡◌, ℕ, refl, sym, subst, List, Some, None, IfSome, IsTrue, ◌⊎◌, inl, inr}
use Rattle.std.specs.Prelude.{Bool, true, false, not, nat_lt, if◌then◌else◌, slice_get}
use Rattle.std.specs.declared.option.Option.{Option}
use Rattle.pv_types.specs.Ty.{Ty, IntTy, PointerTo}
use Rattle.pv_prov.specs.declared.pairs.Twin.{Twin}
use Rattle.pv_prov.specs.Names.{twin_at}
use Rattle.pv_world.specs.Worlds.{Worth, World}
use Rattle.pv_world.specs.Telling.{Told}
use Rattle.pv_world.specs.Doing.{Done, Answers, Fails, Breaks}
use Rattle.pv_library.specs.declared.library.Library.{Library}
use Rattle.pv_libc.specs.declared.values.Arg.{Arg}
use Rattle.pv_typed.specs.Known.{Each}
use Rattle.pv_eval.specs.States.{Setting, State, Gives}
use Rattle.pv_eval.specs.Acting.{after_doing, answer_with_sides, by_side, with_side, pair_count, after_telling}
use Rattle.pv_eval.specs.ActingParts.{one_kept, keeps_both}
use Rattle.pv_eval.specs.Operations.{Op, Converts, Calculates, CalculatesOne, Tests, Negates, Accepts, Needs, Moves, Subtracts, Orders, Equals, Follows, Selects, Finds, TakesPart, Reads, Writes, NamesObject, NamesLiteral, NamesFunction, Makes, MakesLiteral, MakesFunction, Ends, BeginsBody, EndsBody, Fills, Puts, PutsText, Asks, does, act}
use Rattle.pv_eval.specs.Library.{asks}
use Rattle.pv_world.proofs.Guards.{left_of, right_of}
use Rattle.pv_exec.proofs.Memory.Rows.{Leads as Led, led-itself, kept-led}
use Rattle.pv_exec.proofs.Memory.Ways.{OfTables}
use Rattle.pv_exec.proofs.Memory.Worlds.{Onward}
use Rattle.pv_exec.proofs.Memory.Operations.{does-on}
use Rattle.pv_guards.specs.Worths.{IsThere}
use Rattle.pv_guards.specs.Fair.{IsArgument}
use Rattle.pv_guards.specs.Soundness.{Value, IsSound, IsAfter}
use Rattle.pv_guards.specs.Ruled.{has_rule}
use Rattle.pv_guards.specs.Plain.{plain_doing, act_plainly}
use Rattle.pv_guards.specs.Promises.{Promised}
use Rattle.pv_guards.proofs.Living.{same-live}
use Rattle.pv_guards.proofs.Made.{led-changes}
use Rattle.pv_guards.proofs.Suits.{finds-it, fair-known}
use Rattle.pv_guards.proofs.Ruled.{acts-plainly, pointer-may, ruled}
use Rattle.pv_guards.proofs.Promised.{promised}
use Rattle.pv_guards.proofs.Results.{Answering}
use Rattle.pv_guards.proofs.Triples.{Order, Holds, After}
use Rattle.pv_guards.proofs.Leaving.{ordered, after-both, after-table, sound-table, Keeping, MayBeCalled, answers, accepted, callee, found, values-later}

-- a side of a pair that keeps both
one-side : (high : Bool) → (not high ≡ true) ⊎ (high ≡ true)
one-side true = inr refl
one-side false = inl refl

both-kept : (o : Option Twin) → keeps_both o ≡ true → IfSome o (λ (t : Twin). IsTrue t.keeps_low) × IfSome o (λ (t : Twin). IsTrue t.keeps_high)
both-kept None e = (tt, tt)
both-kept (Some t) e = (left_of t.keeps_low t.keeps_high e, right_of t.keeps_low t.keeps_high e)

pub kept-if : (c : Bool) (w : World) (k : ℕ) (high : Bool) → keeps_both (twin_at w.memory.table.pairs k) ≡ c → Led ⊥ w.memory.table (if c then one_kept w k high else w).memory.table
kept-if true w k high e =
    let both = both-kept (twin_at w.memory.table.pairs k) e in
    kept-led w.memory.table.instances w.memory.table.pairs k (not high) high (one-side high, λ l. both.0, λ l. both.1)
kept-if false w k high e = led-itself

module _ (b : Setting) (os : List ℕ) where
  abbrev order : Order b (IsSound b os) IsAfter
  order = ordered b os

  -- in a settled run
  side-if : (c : Bool) (w : World) (k : ℕ) (high : Bool) → IsSound b os w → Led ⊥ w.memory.table (if c then one_kept w k high else w).memory.table → IsAfter w (if c then one_kept w k high else w) × IsSound b os (if c then one_kept w k high else w)
  side-if true w k high s l =
      let z = one_kept w k high in
      let a = same-live w.memory.table z.memory.table refl in
      (after-table b os w s z l a refl, sound-table b os w s z l a refl)
  side-if false w k high s l = (order.here, s)

  pub sides-keep : (w : World) (k : ℕ) (high : Bool) → IsSound b os w → IsAfter w (with_side w k high) × IsSound b os (with_side w k high)
  sides-keep w k high s = let c = keeps_both (twin_at w.memory.table.pairs k) in side-if c w k high s (kept-if c w k high refl)

  module _ (Q : Worth → World → Type 0) (keeps : (v : Worth) (w z : World) → IsAfter w z → Q v w → Q v z) where
    abbrev Left : World → Worth → World → Type 0
    Left w v z = IsAfter w z × IsSound b os z × Q v z

    side-after : (o : Option Bool) (v : Worth) (line : ℕ) (z : World) (told : Told) (s : State) → Left s.world v z → After order Q s.world (by_side o v line z told s)
    side-after None v line z told s h = tt
    side-after (Some high) v line z told s h =
        let g = sides-keep z (pair_count z) high h.1 in
        (after-both h.0 g.0, g.1, keeps v z (with_side z (pair_count z) high) g.0 h.2)

    pair-after : (c : Bool) (o : Option Bool) (v : Worth) (line : ℕ) (z : World) (told : Told) (s : State) → Left s.world v z → After order Q s.world (if c then by_side o v line z told s else Gives v (after_telling z told s))
    pair-after true o v line z told s h = side-after o v line z told s h
    pair-after false o v line z told s h = h

    answered-after : (sides : Option (List Bool)) (v : Worth) (line : ℕ) (z : World) (told : Told) (s : State) → Left s.world v z → After order Q s.world (answer_with_sides sides v line z told s)
    answered-after None v line z told s h = h
    answered-after (Some sides) v line z told s h = pair-after (nat_lt (pair_count s.world) (pair_count z)) (slice_get sides (pair_count s.world)) v line z told s h

    pub acted-after : (line : ℕ) (d : Done) (s : State) → Answering (Left s.world) d → After order Q s.world (after_doing b line d s)
    acted-after line (Answers v z told) s h = answered-after b.sides v line z told s h
    acted-after line (Fails y p z told) s h = tt
    acted-after line (Breaks y p z told) s h = tt

    -- an operation that has a rule, and does what that says, and what it leaves
    pub acts-so : (line : ℕ) (o : Op) (w : World) → ((z : World) → IsAfter w z → IsSound b os z → (has_rule b o z ≡ true) × (does b o z ≡ plain_doing b o z) × Answering (Left z) (plain_doing b o z)) → Holds order Q w (act b line o) (act_plainly b line o)
    acts-so line o w h s g sound =
        let p = h s.world g sound in
        (acts-plainly b line o s p.0 p.1, subst (λ d. After order Q s.world (after_doing b line d s)) (sym p.1) (acted-after line (plain_doing b o s.world) s p.2))

  -- what was promised is promised in a later world
  arguments-keep : (w z : World) (args : List Arg) → IsAfter w z → Each (λ (x : Arg). IsArgument w.memory.table x.value) args → Each (λ (x : Arg). IsArgument z.memory.table x.value) args
  arguments-keep w z args g h = values-later w.memory.table z.memory.table g.made args h

  promised-keeps : (w z : World) (o : Op) (t : Ty) → IsAfter w z → Promised b os w o t → Promised b os z o t
  promised-keeps w z (Converts how v) t g h = (h.0, order.keeps h.0 v g h.1, h.2)
  promised-keeps w z (Calculates o k v x) t g h = (h.0, h.1, h.2, h.3, h.4, order.keeps (IntTy h.0) v g h.5, order.keeps (IntTy h.1) x g h.6, h.7)
  promised-keeps w z (CalculatesOne o k v) t g h = (h.0, order.keeps (IntTy k) v g h.1, h.2)
  promised-keeps w z (Tests v) t g h = (h.0, order.keeps h.0 v g h.1, h.2, h.3)
  promised-keeps w z (Negates v) t g h = (h.0, order.keeps h.0 v g h.1, h.2, h.3)
  promised-keeps w z (Accepts v) t g h = order.keeps t v g h
  promised-keeps w z (Needs v) t g h = (h.0, h.1, order.keeps t v g h.2)
  promised-keeps w z (Moves minus first size v x) t g h = (h.0, h.1, h.2, order.keeps h.0 v g h.3, order.keeps h.1 x g h.4, h.5, h.6, h.7)
  promised-keeps w z (Subtracts size v x) t g h = (h.0, h.1, order.keeps (PointerTo h.0) v g h.2, order.keeps (PointerTo h.1) x g h.3, h.4, h.5, h.6)
  promised-keeps w z (Orders o v x) t g h = (h.0, h.1, order.keeps (PointerTo h.0) v g h.2, order.keeps (PointerTo h.1) x g h.3, h.4, h.5)
  promised-keeps w z (Equals negated v x) t g h = (h.0, h.1, order.keeps (PointerTo h.0) v g h.2, order.keeps (PointerTo h.1) x g h.3, h.4)
  promised-keeps w z (Follows nothing v) t g h = (h.0, order.keeps (PointerTo h.0) v g h.1, h.2)
  promised-keeps w z (Selects offset v) t g h = (h.0, h.1, order.keeps (PointerTo h.0) v g h.2, h.3)
  promised-keeps w z (TakesPart offset l v) t g h = (h.0, order.keeps h.0 v g h.1, h.2, h.3, h.4, h.5, h.6)
  promised-keeps w z (Reads l place rivals) t g h = (h.0, h.1, h.2, h.3, h.4, order.keeps (PointerTo h.0) place g h.5, h.6)
  promised-keeps w z (Writes l place v from rivals) t g h = (h.0, h.1, h.2, h.3, h.4, order.keeps (PointerTo h.0) place g h.5, order.keeps t v g h.6, h.7)
  promised-keeps w z (NamesObject o) t g h = h
  promised-keeps w z (NamesLiteral l) t g h = h
  promised-keeps w z (NamesFunction f) t g h = h
  promised-keeps w z (Asks f args) t g h = (h.0, arguments-keep w z args g h.1, h.2)
  promised-keeps w z (Finds r v) t g h = absurd h
  promised-keeps w z (Makes o) t g h = absurd h
  promised-keeps w z (MakesLiteral l) t g h = absurd h
  promised-keeps w z (MakesFunction f) t g h = absurd h
  promised-keeps w z (Ends o) t g h = absurd h
  promised-keeps w z (BeginsBody f n) t g h = absurd h
  promised-keeps w z EndsBody t g h = absurd h
  promised-keeps w z (Fills o v) t g h = absurd h
  promised-keeps w z (Puts o offset l v) t g h = absurd h
  promised-keeps w z (PutsText o offset size l) t g h = absurd h

  pub accepts-way : (line : ℕ) (t : Ty) (v : Worth) (w : World) → Value b w t v → Holds order (λ v w. Value b w t v × IsThere v) w (act b line (Accepts v)) (act_plainly b line (Accepts v))
  accepts-way line t v w h =
      acts-so (λ v w. Value b w t v × IsThere v) (λ v w z g q. (order.keeps t v g q.0, q.1)) line (Accepts v) w (λ z g s. (refl, refl, accepted b os z s t v (order.keeps t v g h)))

  pub finds-way : (line : ℕ) (t r : Ty) (v : Worth) (w : World) → Value b w (PointerTo r) v → Holds order (λ f z. MayBeCalled b t f z) w (act b line (Finds t v)) (act_plainly b line (Finds t v))
  finds-way line t r v w h =
      acts-so (λ f z. MayBeCalled b t f z) (λ f w z g q. q) line (Finds t v) w (λ z g s.
      let same = finds-it b z t v (fair-known z v (order.keeps (PointerTo r) v g h).1) in
      (callee b os z s v (pointer-may v h.0), same, found b os z s t v (subst (λ d. Onward (OfTables (Led ⊥)) z d) same (does-on b (led-changes b) (Finds t v) tt z))))

  -- each operation of an expression is the same with its guard and without, and leaves what it does
  pub acts : ((f : Library) (args : List Arg) (t : Ty) (w : World) (s : IsSound b os w) → Promised b os w (Asks f args) t → Answering (Keeping b os w s (λ v z. Value b z t v)) (asks f args w))
      → (line : ℕ) (o : Op) (t : Ty) (w : World) → Promised b os w o t → Holds order (λ v w. Value b w t v) w (act b line o) (act_plainly b line o)
  acts a line o t w p =
      acts-so (λ v w. Value b w t v) (λ v w z g q. order.keeps t v g q) line o w (λ z g s.
      let q = promised-keeps w z o t g p in
      (ruled b os z s o t q, promised b os z o t q, answers b os z s o t q (λ f args h. a f args t z s h)))
