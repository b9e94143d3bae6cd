-- Accesses of the node's own, and what follows.
use Rattle.std.proofs.Common.{◌≡◌, ℕ, List, sym, ap, ◌∙◌}
use Rattle.std.specs.Prelude.{Ok}
use Rattle.pv_tree.specs.declared.nodes.NodeId.{NodeId}
use Rattle.pv_typed.specs.declared.nodes.Typed.{Typed}
use Rattle.pv_typed.specs.TypedTree.{type_of, line_of, form_of}
use Rattle.pv_typed.specs.Nodes.{form_in}
use Rattle.pv_typed.specs.Tables.{Stored, nodes}
use Rattle.pv_typed.specs.NodeTrees.{expression_at}
use Rattle.pv_seq.specs.Sequencing.{Access, Open, with_access}
use Rattle.pv_seq.specs.Rivals.{top}
use Rattle.pv_world.specs.Worlds.{Worth}
use Rattle.pv_world.specs.declared.got.Got.{Got}
use Rattle.pv_world.specs.Coming.{worth_of}
use Rattle.pv_eval.specs.States.{Setting, State, Res, Gives, then_do}
use Rattle.pv_eval.specs.Sequenced.{Given, operand}
use Rattle.pv_eval.specs.Steps.{Calling}
use Rattle.pv_eval.specs.Evaluation.{ev}
use Rattle.pv_eval.specs.declared.frames.Stage.TheVariants.{Both}
use Rattle.pv_eval.specs.Moments.{Moment, IsSetting, Noted}
use Rattle.pv_eval.specs.Frames.{both_after, frame_after}
use Rattle.pv_eval.proofs.Cases.{frame-is}

module _ (b : Setting) (u : Stored) (m : Moment) (a : Setting → Access) (res : Res Worth) (old new : List Open) (s : State) (hs : IsSetting b u m) where
  -- a read, and then the second operand
  pub read-operand : (call : Calling) (n d : NodeId) (x : Typed) (line : ℕ) (p v : Got) → form_of (expression_at u n) ≡ form_in u.lists (nodes u) x → line ≡ line_of (expression_at u n) → res ≡ Gives (worth_of v) s → Noted a (Ok v) old new u m
      → then_do res (λ v s. operand (ev b call (expression_at u d)) (with_access (a b) (top old)) s (both_after b call (type_of (expression_at u n)) line (form_in u.lists (nodes u) x) (worth_of p) v))
      ≡ operand (ev b call (expression_at u d)) (top new) s (frame_after b call u (record { node = n; stage = Both (record { place = p; value = v }) }))
  read-operand call n d x line p v form is e k =
      ap (λ z. then_do z (λ v s. operand (ev b call (expression_at u d)) (with_access (a b) (top old)) s (both_after b call (type_of (expression_at u n)) line (form_in u.lists (nodes u) x) (worth_of p) v))) e
      ∙ ap (λ js. operand (ev b call (expression_at u d)) (top js) s (both_after b call (type_of (expression_at u n)) line (form_in u.lists (nodes u) x) (worth_of p) (worth_of v))) (sym (k b hs))
      ∙ ap (λ l. operand (ev b call (expression_at u d)) (top new) s (both_after b call (type_of (expression_at u n)) l (form_in u.lists (nodes u) x) (worth_of p) (worth_of v))) is
      ∙ ap (operand (ev b call (expression_at u d)) (top new) s) (sym (frame-is b call u n x form (Both (record { place = p; value = v }))))

  -- an access, and then anything that is done with the accesses so far
  pub access-then : (w : Got) (k : Open → Worth → State → Res Given) → res ≡ Gives (worth_of w) s → Noted a (Ok w) old new u m
      → then_do res (λ v s. k (with_access (a b) (top old)) v s) ≡ k (top new) (worth_of w) s
  access-then w k e n =
      ap (λ z. then_do z (λ v s. k (with_access (a b) (top old)) v s)) e ∙ ap (λ js. k (top js) (worth_of w) s) (sym (n b hs))
