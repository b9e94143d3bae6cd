-- The turns that a row keeps are those of the expression that it stands for.
use Rattle.std.proofs.Common.{◌≡◌, ◌<◌, ◌≤◌, ℕ, Bool, zero, suc, true, Option, length, sym, ap, ◌∙◌, arith}
use Rattle.pv_tree.specs.declared.nodes.NodeId.{NodeId}
use Rattle.pv_types.specs.declared.terms.TypeId.{TypeId}
use Rattle.pv_typed.specs.declared.nodes.Typed.{Typed}
use Rattle.pv_typed.specs.declared.rows.Row.{Row}
use Rattle.pv_typed.specs.declared.rows.What.{What}
use Rattle.pv_typed.specs.declared.rows.What.TheVariants as what
use Rattle.pv_typed.specs.Plain.{turns_of, turns_within, plain_turns}
use Rattle.pv_typed.specs.Nodes.{Tree, what_in, as_expression}
use Rattle.pv_typed.specs.Children.{is_expression, row_at, HasKind, HasChildren}
use Rattle.pv_typed.specs.Turns.{kept_in, turns_kept, HasTurns}
use Rattle.pv_typed.specs.Tables.{Stored, nodes, base}
use Rattle.pv_typed.specs.NodeTrees.{expression_at, IsExpression}
use Rattle.pv_typed.specs.Formed.{IsFormed}
use Rattle.pv_typed.proofs.Turning.{turns_same, turns_capped, turns_formed}
use Rattle.pv_typed.proofs.Growing.{row_shown}

module _ (s : Stored) where
  abbrev Shown : NodeId → Type 0
  Shown n = turns_kept s.rows n ≡ plain_turns (expression_at s n)

  -- a row whose operands keep the turns of their trees
  row_turns : (line count : ℕ) (w : What) → HasChildren s.rows s.lists s.blocks count w → is_expression w ≡ true → HasTurns s.rows w → ((n : NodeId) → HasKind s.rows count true n → Shown n)
      → kept_in w ≡ plain_turns (as_expression (what_in (base s) (nodes s) line w))
  row_turns line count (what.Expression x t counts plain) h k e before =
      e
      ∙ ap turns_within (turns_same (λ n. plain_turns (expression_at s n)) (turns_kept s.rows) (HasKind s.rows count true) before counts x h.0)
      ∙ turns_capped (λ n. turns_of (expression_at s n)) counts x
      ∙ ap turns_within (turns_formed s.lists (nodes s) counts x)
  row_turns line count (what.Statement x declared) h k e before = absurd cc

  turns_upto : IsFormed s → (count : ℕ) (n : NodeId) → count ≤ length s.rows → HasKind s.rows count true n → Shown n
  turns_upto formed zero n le h = absurd (omega (arith, h.0))
  turns_upto formed (suc count) n le h =
      let here : n.0 < length s.rows = omega (arith, le, h.0) in
      row_turns (row_at s.rows n.0).line n.0 (row_at s.rows n.0).what (formed.children n.0 here) h.1 (formed.plain n.0 here)
      (λ m p. turns_upto formed count m (omega (arith, le)) (omega (arith, p.0, h.0), p.1))
      ∙ ap (λ (t : Tree). plain_turns (as_expression t)) (sym (row_shown s n.0 formed here))

  pub turns_shown : IsFormed s → (n : NodeId) → IsExpression s n → turns_kept s.rows n ≡ plain_turns (expression_at s n)
  turns_shown formed n h = turns_upto formed (length s.rows) n (omega arith) h

  -- the same, where the row was read
  pub turns_read : (formed : IsFormed s) (n : NodeId) (r : Row) → IsExpression s n → row_at s.rows n.0 ≡ r → (x : Typed) (t : TypeId) (counts : Bool) (plain : Option ℕ) → r.what ≡ what.Expression x t counts plain
      → plain ≡ plain_turns (expression_at s n)
  turns_read formed n r h read x t counts plain e = ap kept_in (sym e) ∙ ap (λ (q : Row). kept_in q.what) (sym read) ∙ turns_shown formed n h
