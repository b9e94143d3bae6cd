-- An operation whose operands are as typing promises does what its rule says: no guard of it is met (C17 6.3, 6.5).
use Rattle.std.proofs.Common.{◌≡◌, ℕ, refl, sym, subst, Option, List}
use Rattle.pv_types.specs.Ty.{Ty, PointerTo}
use Rattle.pv_typed.specs.TypedUnits.{layouts}
use Rattle.pv_seq.specs.Sequencing.{Access}
use Rattle.pv_world.specs.Worlds.{Worth, Nothing, Missing, Scalar, Whole, World}
use Rattle.pv_eval.specs.States.{Setting}
use Rattle.pv_eval.specs.TypeForms.{Lvalue}
use Rattle.pv_eval.specs.Operations.{Op, Converts, Calculates, CalculatesOne, Tests, Negates, Accepts, Needs, Moves, Subtracts, Orders, Equals, Follows, Selects, Finds, TakesPart, Reads, Writes, NamesObject, NamesLiteral, NamesFunction, Makes, MakesLiteral, MakesFunction, Ends, BeginsBody, EndsBody, Fills, Puts, PutsText, Asks, does}
use Rattle.pv_eval.proofs.Closed.{IsAsked}
use Rattle.pv_guards.specs.Worths.{IsOfType}
use Rattle.pv_guards.specs.Plain.{plain_doing}
use Rattle.pv_guards.specs.Soundness.{Value}
use Rattle.pv_guards.specs.Promises.{Promised}
use Rattle.pv_guards.proofs.Suits.{Known, fair-known, asks-it, converts, calculates, calculates-one, tests, negates, needs, moves, subtracts, orders, equals, selects, takes-part, reads, writes, writes-missing}

module _ (b : Setting) (os : List ℕ) (w : World) where
  known : (t : Ty) (v : Worth) → Value b w t v → Known w v
  known t v h = fair-known w v h.1

  -- 6.5.16p3, 6.9.1p12: of a value that is there or not
  writes-to : (l : Lvalue) (t : Ty) (place v : Worth) (from : Option ℕ) (rivals : List Access) → Promised b os w (Writes l place v from rivals) t → does b (Writes l place v from rivals) w ≡ plain_doing b (Writes l place v from rivals) w
  writes-to l t place Missing from rivals h = writes-missing b w l place from rivals
  writes-to l t place Nothing from rivals h = subst (λ l. does b (Writes l place Nothing from rivals) w ≡ plain_doing b (Writes l place Nothing from rivals) w) (sym h.1) (writes b w h.0 place Nothing from rivals h.2 h.3 (subst (λ q. IsOfType (layouts b.unit) q Nothing) h.4 h.6.0) tt (known (PointerTo h.0) place h.5) (known t Nothing h.6))
  writes-to l t place (Scalar v) from rivals h = subst (λ l. does b (Writes l place (Scalar v) from rivals) w ≡ plain_doing b (Writes l place (Scalar v) from rivals) w) (sym h.1) (writes b w h.0 place (Scalar v) from rivals h.2 h.3 (subst (λ q. IsOfType (layouts b.unit) q (Scalar v)) h.4 h.6.0) tt (known (PointerTo h.0) place h.5) (known t (Scalar v) h.6))
  writes-to l t place (Whole bs a) from rivals h = subst (λ l. does b (Writes l place (Whole bs a) from rivals) w ≡ plain_doing b (Writes l place (Whole bs a) from rivals) w) (sym h.1) (writes b w h.0 place (Whole bs a) from rivals h.2 h.3 (subst (λ q. IsOfType (layouts b.unit) q (Whole bs a)) h.4 h.6.0) tt (known (PointerTo h.0) place h.5) (known t (Whole bs a) h.6))

  pub promised : (o : Op) (t : Ty) → Promised b os w o t → does b o w ≡ plain_doing b o w
  promised (Converts how v) t h = converts b w how h.0 v h.1.0 (known h.0 v h.1)
  promised (Calculates o k v x) t h = calculates b w o h.0 k h.1 v x h.2 h.3 h.4 h.5.0 h.6.0
  promised (CalculatesOne o k v) t h = calculates-one b w o k v h.0 h.1.0
  promised (Tests v) t h = tests b w v (known h.0 v h.1)
  promised (Negates v) t h = negates b w v (known h.0 v h.1)
  promised (Accepts v) t h = refl
  promised (Needs v) t h = needs b w h.0 v (subst (λ t. IsOfType (layouts b.unit) t v) h.1 h.2.0)
  promised (Moves minus first size v x) t h = moves b w minus first size h.0 h.1 v x h.5 h.3.0 h.4.0 (known h.0 v h.3) (known h.1 x h.4)
  promised (Subtracts size v x) t h = subtracts b w size v x h.4 h.5 (known (PointerTo h.0) v h.2) (known (PointerTo h.1) x h.3)
  promised (Orders o v x) t h = orders b w o v x h.4 (known (PointerTo h.0) v h.2) (known (PointerTo h.1) x h.3)
  promised (Equals negated v x) t h = equals b w negated v x (known (PointerTo h.0) v h.2) (known (PointerTo h.1) x h.3)
  promised (Follows nothing v) t h = refl
  promised (Selects offset v) t h = selects b w offset v (known (PointerTo h.0) v h.2)
  promised (TakesPart offset l v) t h = subst (λ l. does b (TakesPart offset l v) w ≡ plain_doing b (TakesPart offset l v) w) (sym h.5) (takes-part b w offset t h.0 v h.3 h.2 h.6 h.1.0 (known h.0 v h.1))
  promised (Reads l place rivals) t h = subst (λ l. does b (Reads l place rivals) w ≡ plain_doing b (Reads l place rivals) w) (sym h.1) (reads b w h.0 place rivals h.2 (known (PointerTo h.0) place h.5))
  promised (Writes l place v from rivals) t h = writes-to l t place v from rivals h
  promised (NamesObject o) t h = refl
  promised (NamesLiteral l) t h = refl
  promised (Makes o) t h = absurd h
  promised (MakesLiteral l) t h = absurd h
  promised (Ends o) t h = absurd h
  promised (BeginsBody f n) t h = absurd h
  promised EndsBody t h = absurd h
  promised (Fills o v) t h = absurd h
  promised (Puts o offset l v) t h = absurd h
  promised (PutsText o offset size l) t h = absurd h
  promised (Asks f args) t h = asks-it b w f args h.1
  promised (NamesFunction f) t h = refl
  promised (Finds r v) t h = absurd h
  promised (MakesFunction f) t h = absurd h

  -- an operation on an lvalue is on that of a type
  pub asked : (o : Op) (t : Ty) → Promised b os w o t → IsAsked b o
  asked (Converts how v) t h = tt
  asked (Calculates o k v x) t h = tt
  asked (CalculatesOne o k v) t h = tt
  asked (Tests v) t h = tt
  asked (Negates v) t h = tt
  asked (Accepts v) t h = tt
  asked (Needs v) t h = tt
  asked (Moves minus first size v x) t h = tt
  asked (Subtracts size v x) t h = tt
  asked (Orders o v x) t h = tt
  asked (Equals negated v x) t h = tt
  asked (Follows nothing v) t h = tt
  asked (Selects offset v) t h = tt
  asked (TakesPart offset l v) t h = (t, h.5)
  asked (Reads l place rivals) t h = (h.0, h.1)
  asked (Writes l place v from rivals) t h = (h.0, h.1)
  asked (NamesObject o) t h = tt
  asked (NamesLiteral l) t h = tt
  asked (Makes o) t h = tt
  asked (MakesLiteral l) t h = tt
  asked (Ends o) t h = tt
  asked (BeginsBody f n) t h = tt
  asked EndsBody t h = tt
  asked (Fills o v) t h = tt
  asked (Puts o offset l v) t h = absurd h
  asked (PutsText o offset size l) t h = tt
  asked (Asks f args) t h = tt
  asked (NamesFunction f) t h = tt
  asked (Finds r v) t h = tt
  asked (MakesFunction f) t h = tt
