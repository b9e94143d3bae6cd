-- A call, of its callee and its arguments.
use Rattle.std.proofs.Common.{◌≡◌, ℕ, ◌<◌, ◌≤◌, Bool, Some, None, Option, List, length, refl, sym, ap, subst, arith, ◌∙◌}
use Rattle.pv_tree.specs.Syntax.{ExpressionTree}
use Rattle.pv_typed.specs.Tables.{Stored}
use Rattle.pv_typed.specs.Formed.{Grown}
use Rattle.pv_check.specs.declared.calls.Target.{Target as Called}
use Rattle.pv_check.specs.declared.calls.Target.TheVariants as called
use Rattle.pv_typed.specs.TypedTree.{TypedTree}
use Rattle.pv_check.specs.Callees.{AreCalled, callee_in, CalledIf, CalleeKnown}
use Rattle.pv_check.specs.Open.{state_of, IsOpen}
use Rattle.pv_check.specs.Raw.{Raw}
use Rattle.pv_check.specs.Rows.{Callee, ByName, ByValue, callee, called_by}
use Rattle.pv_check.specs.RowParts.{pointed_callee}
use Rattle.pv_check.specs.State.{State, After}
use Rattle.pv_check.proofs.PassingRows.{expression_stays}

-- a function whose name is the callee
pub named_callee : (texts : List (List ℕ)) (u : Bool) (s : Raw) (m : Stored) (e : ExpressionTree) (before : State) (f : ℕ) (a : Option (After TypedTree))
    → AreCalled texts u s m e before (Some f) → Some (record { value = ByName f; state = state_of texts u s m }) ≡ called_by (callee before.scopes e) before a
named_callee texts u s m e before f a h =
    ap (λ (z : State). Some (record { value = ByName f; state = z })) h.1 ∙ ap (λ (o : Option ℕ). called_by o before a) (sym h.0)

-- a callee that is no function's name is a value, typed in the state that the search for a name left as it was
pub valued_callee : (texts : List (List ℕ)) (u : Bool) (s : Raw) (m : Stored) (e : ExpressionTree) (before : State) (types : State → Option (After TypedTree))
    → AreCalled texts u s m e before None → pointed_callee (types (state_of texts u s m)) ≡ called_by (callee before.scopes e) before (types before)
valued_callee texts u s m e before types h =
    ap (λ (z : State). pointed_callee (types z)) h.1 ∙ ap (λ (o : Option ℕ). called_by o before (types before)) (sym h.0)

-- what is called stays what it is, while there is more
pub callee_stays : (a b : Stored) (c : Called) → Grown a b → CalleeKnown a c → callee_in b c ≡ callee_in a c
callee_stays a b (called.Named f) g h = refl
callee_stays a b (called.Pointed n) g h = ap ByValue (g.expressions n h.0)

-- what is called stays there, while there is more
pub callee_known : (a b : Stored) (c : Called) → Grown a b → CalleeKnown a c → CalleeKnown b c
callee_known a b (called.Named f) g h = let more : length a.functions ≤ length b.functions = g.functions in omega (arith, h, more)
callee_known a b (called.Pointed n) g h = expression_stays a b g n h

-- where there is what is called, it is there, and the scopes are open
pub called_there : (m : Stored) (s : Raw) (o : Option Called) (c : Called) → o ≡ Some c → CalledIf m s o → CalleeKnown m c × IsOpen m s
called_there m s o c is h = subst (λ x. CalledIf m s x) is h
