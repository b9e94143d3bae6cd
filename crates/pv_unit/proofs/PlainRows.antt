-- Statements without parts: what the code's answers come to.
use Rattle.std.proofs.Common.{◌≡◌, ℕ, Bool, true, false, List, [], Option, Some, None, refl, sym, ◌∙◌, ap}
use Rattle.std.specs.Prelude.{if◌then◌else◌, is_some}
use Rattle.pv_tree.specs.declared.nodes.NodeId.{NodeId}
use Rattle.pv_tree.specs.Syntax.{StatementTree, Break, Continue}
use Rattle.pv_typed.specs.TypedStatement.{TypedStatement}
use Rattle.pv_typed.specs.TypedStatement as typed
use Rattle.pv_typed.specs.Tables.{Stored}
use Rattle.pv_check.specs.Open.{state_of}
use Rattle.pv_check.specs.Raw.{Raw}
use Rattle.pv_check.specs.State.{State, After, give}
use Rattle.pv_typed.specs.Constants.{and_then}
use Rattle.pv_unit.specs.Blocks.{Reached}
use Rattle.pv_unit.specs.Stated.{items_in, items_if}
use Rattle.pv_unit.specs.Statements.{Around}
use Rattle.pv_unit.specs.StatementParts.{automatic_alone}
use Rattle.pv_unit.specs.TypedStatements.{typed_statement, if_automatic}
use Rattle.pv_unit.specs.Made.{with_reached}

pub break_is : (w : Around) (line : ℕ) (x : StatementTree) (z : State) (r : Option (After TypedStatement)) → x ≡ Break line → w.breaks ≡ true → r ≡ give (Some (typed.Break line)) z → r ≡ typed_statement w x z
break_is w line x z r is may h = h ∙ sym (ap (λ y. typed_statement w y z) is ∙ ap (λ (b : Bool). if b then give (Some (typed.Break line)) z else None) may)

pub continue_is : (w : Around) (line : ℕ) (x : StatementTree) (z : State) (r : Option (After TypedStatement)) → x ≡ Continue line → w.continues ≡ true → r ≡ give (Some (typed.Continue line)) z → r ≡ typed_statement w x z
continue_is w line x z r is may h = h ∙ sym (ap (λ y. typed_statement w y z) is ∙ ap (λ (b : Bool). if b then give (Some (typed.Continue line)) z else None) may)

-- the declaration of a `for`
if_list : (texts : List (List ℕ)) (s : Raw) (m : Stored) (ns : List NodeId) (b : Bool) → items_if texts s m ns b ≡ (if b then Some (items_in texts s m ns) else None)
if_list texts s m ns true = refl
if_list texts s m ns false = refl

abbrev automatic_if : After (List TypedStatement) → Option (After (List TypedStatement))
automatic_if y = if automatic_alone y.state then give (Some y.value) y.state else None

pub first_is : (texts : List (List ℕ)) (s : Raw) (m : Stored) (ns : List NodeId) (b : Bool) (o : Option (After (List Reached)))
    → Some (items_in texts s m ns) ≡ and_then o (with_reached []) → b ≡ automatic_alone (state_of texts false s m) → items_if texts s m ns b ≡ and_then o if_automatic
first_is texts s m ns b None e h = let no : true ≡ false = ap is_some e in absurd cc
first_is texts s m ns b (Some x) e h =
    if_list texts s m ns b ∙ ap (λ (y : Bool). if y then Some (items_in texts s m ns) else None) h ∙ ap (λ q. and_then q automatic_if) e
