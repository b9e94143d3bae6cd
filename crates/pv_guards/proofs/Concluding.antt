-- The laws: from what holds of pieces of a run to what is said of expressions and operations (C17 6.3, 6.5).
use Rattle.std.proofs.Common.{◌≡◌, ℕ, List, [], ◌∷◌, sym, subst}
use Rattle.pv_types.specs.Ty.{Ty, Tys, NoTys, MoreTys, PointerTo}
use Rattle.pv_types.specs.Sorts.{bare_type}
use Rattle.pv_seq.specs.Sequencing.{Access}
use Rattle.pv_typed.specs.TypedTree.{TypedTree}
use Rattle.pv_library.specs.declared.library.Library.{Library}
use Rattle.pv_libc.specs.declared.values.Arg.{Arg}
use Rattle.pv_world.specs.Worlds.{Worth, World}
use Rattle.pv_world.specs.Doing.{Done, Answers, Fails, Breaks}
use Rattle.pv_eval.specs.States.{Setting, State, Res, Gives, Stops}
use Rattle.pv_eval.specs.Sequenced.{Given}
use Rattle.pv_eval.specs.Steps.{Calling}
use Rattle.pv_eval.specs.Evaluation.{ev}
use Rattle.pv_eval.specs.Library.{asks}
use Rattle.pv_eval.specs.CalleeParts.{function_in}
use Rattle.pv_eval.specs.Operations.{Op, Asks, Finds, does}
use Rattle.pv_exec.proofs.Memory.Rows.{Leads as Led}
use Rattle.pv_exec.proofs.Memory.Ways.{OfTables}
use Rattle.pv_exec.proofs.Memory.Worlds.{Onward}
use Rattle.pv_exec.proofs.Memory.Operations.{does-on}
use Rattle.pv_guards.specs.Typed.{given_type, IsTyped, IsFunction}
use Rattle.pv_guards.specs.Soundness.{Value, AreValues, IsSound, IsAfter}
use Rattle.pv_guards.specs.PlainRun as plain
use Rattle.pv_guards.specs.Promises.{Promised}
use Rattle.pv_guards.specs.Laws.{GivesSound, AnswersSound, CallsAgree, MeetsNoGuard, GivesItsType, DoesItsRule, AnswersFunction, FindsFunction}
use Rattle.pv_guards.proofs.Results.{Answering}
use Rattle.pv_guards.proofs.Triples.{Order, Holds, After, Gave}
use Rattle.pv_guards.proofs.Leaving.{ordered, after-itself, Keeping, Leaving, MayBeCalled, answers, callee, found}
use Rattle.pv_guards.proofs.Promised.{promised}
use Rattle.pv_guards.proofs.Ruled.{pointer-may, ruled}
use Rattle.pv_guards.proofs.Suits.{finds-it, fair-known}
use Rattle.pv_guards.proofs.Made.{led-changes}
use Rattle.pv_guards.proofs.LibraryLeads.{asks-gives}
use Rattle.pv_guards.proofs.Expressions.{ev-typed}

module _ (b : Setting) (os : List ℕ) where
  abbrev order : Order b (IsSound b os) IsAfter
  order = ordered b os

  pub asked : (f : Library) (args : List Arg) (t : Ty) (w : World) (s : IsSound b os w) → Promised b os w (Asks f args) t → Answering (Keeping b os w s (λ v z. Value b z t v)) (asks f args w)
  asked f args t w s h = asks-gives b os w s f args t h

  values-later : (w z : World) (ts : Tys) (vs : List Worth) → IsAfter w z → AreValues b w ts vs → AreValues b z ts vs
  values-later w z NoTys [] g h = tt
  values-later w z NoTys (v ∷ vs) g h = absurd h
  values-later w z (MoreTys t ts) [] g h = absurd h
  values-later w z (MoreTys t ts) (v ∷ vs) g h = (order.keeps (bare_type t) v g h.0, h.1, values-later w z ts vs g h.2)

  after-of : (t : Ty) (w : World) (r : Res Worth) → GivesSound b os (λ v. v) t w r → After order (λ v z. Value b z t v) w r
  after-of t w (Gives v s) h = (h.2, h.1, h.0)
  after-of t w (Stops y s) h = tt

  given-sound : (t : Ty) (w : World) (r : Res Given) → After order (Gave order t) w r → GivesSound b os (λ (g : Given). g.value) t w r
  given-sound t w (Gives g s) h = (h.2, h.1, h.0)
  given-sound t w (Stops y s) h = tt

  module _ (call other : Calling) (agree : CallsAgree b os call other) where
    calls-hold : (line f : ℕ) (t : Ty) (ts : Tys) (vs : List Worth) (w : World) → IsFunction b.unit f t ts → AreValues b w ts vs → Holds order (λ v z. Value b z t v) w (call f vs line) (other f vs line)
    calls-hold line f t ts vs w h k s g sound =
        let a = agree f line t ts vs s h (values-later w s.world ts vs g k) sound in
        (a.0, after-of t s.world (call f vs line s) a.1)

    pub typed : (x : TypedTree) → IsTyped b.unit os x → (foes : List Access) (s : State) → IsSound b os s.world → (ev b call x foes s ≡ plain.ev b other x foes s) × After order (Gave order (given_type x)) s.world (ev b call x foes s)
    typed x h foes s sound = ev-typed b os asked call other calls-hold x h foes s.world s after-itself sound

    pub no-guard : (x : TypedTree) → IsTyped b.unit os x → MeetsNoGuard b os call other x
    no-guard x h foes s sound = (typed x h foes s sound).0

    pub its-type : (x : TypedTree) → IsTyped b.unit os x → GivesItsType b os call x
    its-type x h foes s sound = given-sound (given_type x) s.world (ev b call x foes s) (typed x h foes s sound).1

  answers-sound : (w : World) (s : IsSound b os w) (t : Ty) (d : Done) → Answering (Leaving b os w s (λ v z. Value b z t v)) d → AnswersSound b os t w d
  answers-sound w s t (Answers v z told) h = (h.2, h.1, h.0)
  answers-sound w s t (Fails y p z told) h = tt
  answers-sound w s t (Breaks y p z told) h = tt

  pub its-rule : (o : Op) (t : Ty) (w : World) → IsSound b os w → Promised b os w o t → DoesItsRule b os o t w
  its-rule o t w s h =
      let same = promised b os w o t h in
      (ruled b os w s o t h, same, answers-sound w s t (does b o w) (subst (λ d. Answering (Leaving b os w s (λ v z. Value b z t v)) d) (sym same) (answers b os w s o t h (λ f args k. asked f args t w s k))))

  -- 6.5.2.2p1: the function behind a value
  answers-function : (t : Ty) (w : World) (s : IsSound b os w) (d : Done) → Answering (Leaving b os w s (MayBeCalled b t)) d → AnswersFunction b os t w d
  answers-function t w s (Answers v z told) h = (function_in v, h.2.2, h.2.0, h.2.1, h.1, h.0)
  answers-function t w s (Fails y p z told) h = tt
  answers-function t w s (Breaks y p z told) h = tt

  pub its-function : (t r : Ty) (v : Worth) (w : World) → IsSound b os w → Value b w (PointerTo r) v → FindsFunction b os t v w
  its-function t r v w s h =
      let same = finds-it b w t v (fair-known w v h.1) in
      let onward = subst (λ d. Onward (OfTables (Led ⊥)) w d) same (does-on b (led-changes b) (Finds t v) tt w) in
      (callee b os w s v (pointer-may v h.0), same, answers-function t w s (does b (Finds t v) w) (subst (λ d. Answering (Leaving b os w s (MayBeCalled b t)) d) (sym same) (found b os w s t v onward)))
