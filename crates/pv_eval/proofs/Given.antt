-- Nodes that give the value of their first operand.
use Rattle.std.proofs.Common.{◌≡◌, ◌≢◌, ℕ, List, None, refl}
use Rattle.pv_num.specs.declared.kinds.IntKind.{IntKind}
use Rattle.pv_num.specs.declared.operators.BinOp.{BinOp}
use Rattle.pv_num.specs.declared.operators.UnOp.{UnOp}
use Rattle.pv_types.specs.Ty.{Ty}
use Rattle.pv_tree.specs.declared.nodes.NodeId.{NodeId}
use Rattle.pv_tree.specs.declared.nodes.ListId.{ListId}
use Rattle.pv_typed.specs.declared.nodes.IncrementOperator.{IncrementOperator}
use Rattle.pv_typed.specs.declared.nodes.Sign.{Sign}
use Rattle.pv_typed.specs.declared.nodes.Typed.{Typed}
use Rattle.pv_typed.specs.declared.nodes.Typed.TheVariants as typed
use Rattle.pv_typed.specs.Nodes.{Tree, form_in}
use Rattle.pv_seq.specs.Sequencing.{Open}
use Rattle.pv_world.specs.Worlds.{Worth}
use Rattle.pv_eval.specs.States.{Setting, State}
use Rattle.pv_eval.specs.Sequenced.{node_value}
use Rattle.pv_eval.specs.Steps.{Calling}
use Rattle.pv_eval.specs.Frames.{first_after, second_after}
use Rattle.pv_eval.specs.Ahead.{second_operand_of}

-- a node that has no work of its own
pub record IsIdle (x : Typed) : Type 0 where
  pub not-Read : (a : NodeId) → x ≢ typed.Read a
  pub not-Indirection : (a : NodeId) → x ≢ typed.Indirection a
  pub not-Member : (a : NodeId) (k : ℕ) → x ≢ typed.Member a k
  pub not-Arrow : (a : NodeId) (k : ℕ) → x ≢ typed.Arrow a k
  pub not-MemberOfValue : (a : NodeId) (k : ℕ) → x ≢ typed.MemberOfValue a k
  pub not-Unary : (o : UnOp) (a : NodeId) → x ≢ typed.Unary o a
  pub not-Not : (a : NodeId) → x ≢ typed.Not a
  pub not-Cast : (a : NodeId) → x ≢ typed.Cast a
  pub not-LogicalAnd : (a d : NodeId) → x ≢ typed.LogicalAnd a d
  pub not-LogicalOr : (a d : NodeId) → x ≢ typed.LogicalOr a d
  pub not-Conditional : (a d e : NodeId) → x ≢ typed.Conditional a d e
  pub not-Comma : (a d : NodeId) → x ≢ typed.Comma a d
  pub not-CompoundAssign : (o : BinOp) (k : IntKind) (a d : NodeId) → x ≢ typed.CompoundAssign o k a d
  pub not-PointerAssign : (g : Sign) (a d : NodeId) → x ≢ typed.PointerAssign g a d
  pub not-Increment : (o : IncrementOperator) (a : NodeId) → x ≢ typed.Increment o a
  pub not-CallPointer : (a : NodeId) (l : ListId) → x ≢ typed.CallPointer a l

module _ (b : Setting) (call : Calling) (t : Ty) (line : ℕ) (ls : List (List NodeId)) (ts : List Tree) (j : Open) (v : Worth) (s : State) where
  pub given-alone : (x : Typed) → second_operand_of x ≡ None → IsIdle x → first_after b call t line (form_in ls ts x) j v s ≡ node_value j v s
  given-alone (typed.Read a) e h = absurd (h.not-Read a refl)
  given-alone (typed.Indirection a) e h = absurd (h.not-Indirection a refl)
  given-alone (typed.Member a k) e h = absurd (h.not-Member a k refl)
  given-alone (typed.Arrow a k) e h = absurd (h.not-Arrow a k refl)
  given-alone (typed.MemberOfValue a k) e h = absurd (h.not-MemberOfValue a k refl)
  given-alone (typed.Unary o a) e h = absurd (h.not-Unary o a refl)
  given-alone (typed.Not a) e h = absurd (h.not-Not a refl)
  given-alone (typed.Cast a) e h = absurd (h.not-Cast a refl)
  given-alone (typed.LogicalAnd a d) e h = absurd (h.not-LogicalAnd a d refl)
  given-alone (typed.LogicalOr a d) e h = absurd (h.not-LogicalOr a d refl)
  given-alone (typed.Conditional a d g) e h = absurd (h.not-Conditional a d g refl)
  given-alone (typed.Comma a d) e h = absurd (h.not-Comma a d refl)
  given-alone (typed.CompoundAssign o k a d) e h = absurd (h.not-CompoundAssign o k a d refl)
  given-alone (typed.PointerAssign g a d) e h = absurd (h.not-PointerAssign g a d refl)
  given-alone (typed.Increment o a) e h = absurd (h.not-Increment o a refl)
  given-alone (typed.Subscript a d) e h = absurd cc
  given-alone (typed.Arithmetic o a d) e h = absurd cc
  given-alone (typed.PointerSum g a d) e h = absurd cc
  given-alone (typed.PointerDifference a d) e h = absurd cc
  given-alone (typed.PointerOrder o a d) e h = absurd cc
  given-alone (typed.PointerEquality o a d) e h = absurd cc
  given-alone (typed.Assign a d) e h = absurd cc
  given-alone (typed.Constant k) e h = refl
  given-alone (typed.LargeConstant k) e h = refl
  given-alone (typed.Object o) e h = refl
  given-alone (typed.Function f) e h = refl
  given-alone (typed.String l) e h = refl
  given-alone (typed.Call f l) e h = refl
  given-alone (typed.CallPointer a l) e h = absurd (h.not-CallPointer a l refl)
  given-alone (typed.LibraryCall f l) e h = refl
  given-alone (typed.Sizeof k) e h = refl
  given-alone (typed.Address a) e h = refl
  given-alone (typed.ArrayPointer a) e h = refl
  given-alone (typed.Convert a) e h = refl

-- a node that has no second operand from the start
pub record HasOne (x : Typed) : Type 0 where
  pub not-Subscript : (a d : NodeId) → x ≢ typed.Subscript a d
  pub not-Arithmetic : (o : BinOp) (a d : NodeId) → x ≢ typed.Arithmetic o a d
  pub not-PointerSum : (g : Sign) (a d : NodeId) → x ≢ typed.PointerSum g a d
  pub not-PointerDifference : (a d : NodeId) → x ≢ typed.PointerDifference a d
  pub not-PointerOrder : (o : BinOp) (a d : NodeId) → x ≢ typed.PointerOrder o a d
  pub not-PointerEquality : (o : BinOp) (a d : NodeId) → x ≢ typed.PointerEquality o a d
  pub not-Assign : (a d : NodeId) → x ≢ typed.Assign a d

module _ (b : Setting) (call : Calling) (t : Ty) (line : ℕ) (ls : List (List NodeId)) (ts : List Tree) (v w : Worth) (j : Open) (s : State) where
  pub second-alone : (x : Typed) → HasOne x → second_after b call t line (form_in ls ts x) v j w s ≡ node_value j w s
  second-alone (typed.Subscript a d) h = absurd (h.not-Subscript a d refl)
  second-alone (typed.Arithmetic o a d) h = absurd (h.not-Arithmetic o a d refl)
  second-alone (typed.PointerSum g a d) h = absurd (h.not-PointerSum g a d refl)
  second-alone (typed.PointerDifference a d) h = absurd (h.not-PointerDifference a d refl)
  second-alone (typed.PointerOrder o a d) h = absurd (h.not-PointerOrder o a d refl)
  second-alone (typed.PointerEquality o a d) h = absurd (h.not-PointerEquality o a d refl)
  second-alone (typed.Assign a d) h = absurd (h.not-Assign a d refl)
  second-alone (typed.Constant k) h = refl
  second-alone (typed.LargeConstant k) h = refl
  second-alone (typed.Object o) h = refl
  second-alone (typed.Function f) h = refl
  second-alone (typed.String l) h = refl
  second-alone (typed.Call f l) h = refl
  second-alone (typed.CallPointer a l) h = refl
  second-alone (typed.LibraryCall f l) h = refl
  second-alone (typed.Sizeof k) h = refl
  second-alone (typed.Address a) h = refl
  second-alone (typed.ArrayPointer a) h = refl
  second-alone (typed.Convert a) h = refl
  second-alone (typed.Read a) h = refl
  second-alone (typed.Indirection a) h = refl
  second-alone (typed.Member a k) h = refl
  second-alone (typed.Arrow a k) h = refl
  second-alone (typed.MemberOfValue a k) h = refl
  second-alone (typed.Unary o a) h = refl
  second-alone (typed.Not a) h = refl
  second-alone (typed.Cast a) h = refl
  second-alone (typed.LogicalAnd a d) h = refl
  second-alone (typed.LogicalOr a d) h = refl
  second-alone (typed.Conditional a d e) h = refl
  second-alone (typed.Comma a d) h = refl
  second-alone (typed.CompoundAssign o k a d) h = refl
  second-alone (typed.PointerAssign g a d) h = refl
  second-alone (typed.Increment o a) h = refl
