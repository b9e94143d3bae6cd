-- A bridge: what is known of the nodes of a unit before a run (C17 6.5), and that it is so.
use Rattle.std.specs.Prelude.{◌≡◌, ◌<◌, ◌≤◌, ◌^◌, ℕ, ℤ, Bool, true, List, Option, None, Some, length, slice_index_or}
use Rattle.pv_num.specs.declared.kinds.IntKind.{IntKind}
use Rattle.pv_num.specs.declared.operators.BinOp.{BinOp}
use Rattle.pv_num.specs.Kinds.{convert_of}
use Rattle.pv_tree.specs.declared.nodes.NodeId.{NodeId}
use Rattle.pv_types.specs.Ty.{Ty, IntTy}
use Rattle.pv_types.specs.declared.terms.TypeId.{TypeId}
use Rattle.pv_types.specs.Known.{tree}
use Rattle.pv_typed.specs.declared.nodes.Sign.{Sign}
use Rattle.pv_typed.specs.declared.nodes.IncrementOperator.{IncrementOperator}
use Rattle.pv_typed.specs.declared.nodes.Typed.{Typed}
use Rattle.pv_typed.specs.declared.nodes.Typed.TheVariants as typed
use Rattle.pv_typed.specs.TypedTree.{type_of, form_of, Convert}
use Rattle.pv_typed.specs.TypedUnits.{object_at}
use Rattle.pv_typed.specs.Tables.{Stored, whole_unit}
use Rattle.pv_typed.specs.NodeTrees.{expression_at, IsExpression}
use Rattle.pv_seq.specs.Sequencing.{Access}
use Rattle.pv_world.specs.declared.got.Shape.TheVariants as shape
use Rattle.pv_world.specs.Worlds.{Worth, World}
use Rattle.pv_world.specs.Worths.{int}
use Rattle.pv_eval.specs.declared.codes.Operand.{Operand}
use Rattle.pv_eval.specs.declared.codes.IntegerPlace.{IntegerPlace}
use Rattle.pv_eval.specs.declared.codes.PointerPlace.{PointerPlace}
use Rattle.pv_eval.specs.declared.codes.Code.{Code}
use Rattle.pv_eval.specs.declared.codes.Code.TheVariants as code
use Rattle.pv_eval.specs.TypeForms.{shape_of, kind_of}
use Rattle.pv_types.specs.Sorts.{bare_type, is_pointer}
use Rattle.pv_eval.specs.Sizes.{element_in, points}
use Rattle.pv_world.specs.Suiting.{is_small}
use Rattle.pv_eval.specs.declared.plain.Found.{Found}
use Rattle.pv_eval.specs.Operations.{Calculates, Selects}
use Rattle.pv_eval.specs.Ahead.{first_operand_of}
use Rattle.pv_eval.specs.Plainly.{YieldsNoting, AlwaysGives, GivesAt, GivesWith, IsConverted, IsOwnType, form_by, found_worth}
use Rattle.pv_eval.specs.Designated.{IsDesignated}

-- 6.3.1.3: a conversion between integer types, to this kind
pub record IsRounded (from to : Ty) (k : IntKind) : Type 0 where
  pub old : IntKind
  pub from_is : shape_of from ≡ shape.Int old
  pub to_is : shape_of to ≡ shape.Int k

-- an operand that stands before a node
abbrev pub IsBefore : Stored → (n a : NodeId) → Type 0
IsBefore u n a = IsExpression u a × (a.0 < n.0)

-- 6.3.1.8: of the operand a: the node that gives its value, and how that is converted
abbrev pub IsOperandBy : Stored → (a : NodeId) → (node : NodeId) → Option IntKind → Type 0
IsOperandBy u a m None = (m ≡ a) × ((v : Worth) → IsConverted (expression_at u a) v v)
IsOperandBy u a m (Some k) = (form_of (expression_at u a) ≡ Convert (expression_at u m)) × IsBefore u a m × IsRounded (type_of (expression_at u m)) (type_of (expression_at u a)) k

abbrev pub IsOperandCode : Stored → (a : NodeId) → Operand → Type 0
IsOperandCode u a o = IsOperandBy u a o.node o.to

-- 6.5.5 to 6.5.12: what is known of a node with an operator on two integers
pub record IsArithmetic (u : Stored) (n : NodeId) (op : BinOp) (k : IntKind) (left right : Operand) : Type 0 where
  pub a : NodeId
  pub d : NodeId
  pub form : form_of (expression_at u n) ≡ form_by u (typed.Arithmetic op a d)
  pub first : IsBefore u n a
  pub second : IsBefore u n d
  pub kind : k ≡ kind_of (type_of (expression_at u a))
  pub left_is : IsOperandCode u a left
  pub right_is : IsOperandCode u d right

-- 6.3.2.1p2: what is known of a node that reads at a place: the type of the place, qualifiers aside
pub record IsReadOf (u : Stored) (n a : NodeId) (t : TypeId) : Type 0 where
  pub form : form_of (expression_at u n) ≡ form_by u (typed.Read a)
  pub operand : IsBefore u n a
  pub known : t.0 < length u.known.terms
  pub same : tree u.known t.0 ≡ bare_type (type_of (expression_at u a))

-- 6.5.1p2: the node designates an object, and this is whether its storage is static
abbrev pub IsObjectOf : Stored → NodeId → (object : ℕ) → (lasting : Bool) → Type 0
IsObjectOf u n o lasting = (form_of (expression_at u n) ≡ form_by u (typed.Object o)) × ((object_at (whole_unit u) o).lasting ≡ lasting)

-- 6.3.2.1p3: what an operand gives is what this node gives: the operand itself, or the array to whose first element it points
pub record IsGivenBy (u : Stored) (a m : NodeId) : Type 0 where
  pub there : IsExpression u m
  pub least : m.0 ≤ a.0
  pub gives : (w : World) (v : Found) (noting : Bool) (js ks : List Access) → YieldsNoting u w (expression_at u m) (found_worth v) noting js ks → YieldsNoting u w (expression_at u a) (found_worth v) noting js ks

-- 6.5.2.1p2: what is known of a node that designates an element
pub record IsElementOf (u : Stored) (n m d : NodeId) (size : ℕ) : Type 0 where
  pub a : NodeId
  pub form : form_of (expression_at u n) ≡ form_by u (typed.Subscript a d)
  pub first : IsBefore u n a
  pub given : IsGivenBy u a m
  pub second : IsBefore u n d
  pub pointer : is_pointer (type_of (expression_at u a)) ≡ true
  pub is : size ≡ element_in u.known (type_of (expression_at u a))
  pub small : size ≤ 2 ^ 32

-- 6.5.6p8: what is known of a node that moves a pointer by an integer
pub record IsSumOf (u : Stored) (n : NodeId) (sign : Sign) (a d : NodeId) (size : ℕ) : Type 0 where
  pub form : form_of (expression_at u n) ≡ form_by u (typed.PointerSum sign a d)
  pub first : IsBefore u n a
  pub second : IsBefore u n d
  pub pointer : is_pointer (type_of (expression_at u a)) ≡ true
  pub is : size ≡ element_in u.known (type_of (expression_at u n))
  pub small : size ≤ 2 ^ 32

-- 6.3.2.1p3, 6.5.3.2p3, p4, 6.3: what is known of a node that gives what its operand gives
pub record IsSameAs (u : Stored) (n a : NodeId) : Type 0 where
  pub node : Typed
  pub form : form_of (expression_at u n) ≡ form_by u node
  pub operand : first_operand_of node ≡ Some a
  pub before : IsBefore u n a
  pub gives : (w : World) (v : Found) → GivesWith u w (type_of (expression_at u n)) node (found_worth v) (found_worth v)

-- 6.5.2.3p3, p4: what is known of a node that designates a member
pub record IsPartOf (u : Stored) (n a : NodeId) (offset : ℕ) : Type 0 where
  pub node : Typed
  pub form : form_of (expression_at u n) ≡ form_by u node
  pub operand : first_operand_of node ≡ Some a
  pub before : IsBefore u n a
  pub gives : (w : World) (first v : Worth) → GivesAt w (λ b. Selects offset first) v → GivesWith u w (type_of (expression_at u n)) node first v

-- 6.3.2.1p1: what is known of a node that designates a place of an integer type without qualifiers
pub record IsIntegerPlace (u : Stored) (p : IntegerPlace) : Type 0 where
  pub there : IsExpression u p.node
  pub known : p.t.0 < length u.known.terms
  pub same : tree u.known p.t.0 ≡ type_of (expression_at u p.node)
  pub integer : tree u.known p.t.0 ≡ IntTy p.kind
  pub own : IsDesignated u p.own p.t

-- 6.3.2.1p1: the same of a place of a pointer type without qualifiers
pub record IsPointerPlace (u : Stored) (p : PointerPlace) : Type 0 where
  pub there : IsExpression u p.node
  pub known : p.t.0 < length u.known.terms
  pub same : tree u.known p.t.0 ≡ type_of (expression_at u p.node)
  pub pointer : points (tree u.known p.t.0) ≡ true
  pub own : IsDesignated u p.own p.t

-- 6.5.16.1p2: what is known of a node that assigns to such a place what needs no conversion
pub record IsPointerAssignmentOf (u : Stored) (n : NodeId) (p : PointerPlace) (d : NodeId) : Type 0 where
  pub form : form_of (expression_at u n) ≡ form_by u (typed.Assign p.node d)
  pub place : IsPointerPlace u p
  pub right : IsExpression u d
  pub same : (v : Worth) → IsConverted (expression_at u d) v v

-- 6.5.16.1p2: what is known of a node that assigns to a place of an integer type
pub record IsAssignmentOf (u : Stored) (n : NodeId) (p : IntegerPlace) (right : Operand) : Type 0 where
  pub d : NodeId
  pub form : form_of (expression_at u n) ≡ form_by u (typed.Assign p.node d)
  pub place : IsIntegerPlace u p
  pub second : IsBefore u n d
  pub right_is : IsOperandCode u d right

-- 6.5.2.4p2, 6.5.3.1p2: of one that adds 1 to what is there, or takes 1 off it, in the kind of its own type
pub record IsIncrementOf (u : Stored) (n : NodeId) (p : IntegerPlace) (o : IncrementOperator) (back : IntKind) : Type 0 where
  pub form : form_of (expression_at u n) ≡ form_by u (typed.Increment o p.node)
  pub place : IsIntegerPlace u p
  pub back_is : shape_of (type_of (expression_at u n)) ≡ shape.Int back

-- 6.5.16.2p3: of one with an operator on what is there and its right operand, which works in a kind
pub record IsCompoundOf (u : Stored) (n : NodeId) (p : IntegerPlace) (right : Operand) (op : BinOp) (at back : IntKind) : Type 0 where
  pub d : NodeId
  pub form : form_of (expression_at u n) ≡ form_by u (typed.CompoundAssign op at p.node d)
  pub place : IsIntegerPlace u p
  pub second : IsBefore u n d
  pub right_is : IsOperandCode u d right
  pub back_is : back ≡ kind_of (type_of (expression_at u n))

-- what is known of an expression's node is so
abbrev pub IsCode : Stored → NodeId → Code → Type 0
IsCode u n code.Unknown = Unit {0}
IsCode u n (code.Number k) = form_of (expression_at u n) ≡ form_by u (typed.Constant k)
IsCode u n (code.Object o lasting) = IsObjectOf u n o lasting
IsCode u n (code.Same a) = IsSameAs u n a
IsCode u n (code.Part a offset) = IsPartOf u n a offset
IsCode u n (code.Integer a t k own) = IsReadOf u n a t × (tree u.known t.0 ≡ IntTy k) × IsDesignated u own t
IsCode u n (code.OwnInteger a t k o lasting) = IsReadOf u n a t × (tree u.known t.0 ≡ IntTy k) × IsOwnType u o t × IsObjectOf u a o lasting
IsCode u n (code.OwnPointer a t o lasting) = IsReadOf u n a t × (points (tree u.known t.0) ≡ true) × IsOwnType u o t × IsObjectOf u a o lasting
IsCode u n (code.Pointer a t own) = IsReadOf u n a t × (points (tree u.known t.0) ≡ true) × IsDesignated u own t
IsCode u n (code.Arithmetic op k left right) = IsArithmetic u n op k left right
IsCode u n (code.Element a d size) = IsElementOf u n a d size
IsCode u n (code.Sum sign a d size) = IsSumOf u n sign a d size
IsCode u n (code.Assign p right) = IsAssignmentOf u n p right
IsCode u n (code.AssignPointer p d) = IsPointerAssignmentOf u n p d
IsCode u n (code.Increment p o back) = IsIncrementOf u n p o back
IsCode u n (code.Compound p right op at back) = IsCompoundOf u n p right op at back

-- what is known of all nodes is so; of those beyond the end nothing is known
abbrev pub AreCodes : Stored → List Code → Type 0
AreCodes u codes = (n : NodeId) → IsExpression u n → IsCode u n (slice_index_or codes n.0 code.Unknown)

-- 6.3.1.3: what an operand gave is a number of 64 bits with a sign, which is converted to this kind
pub record RoundsTo (k : IntKind) (v z : Worth) : Type 0 where
  pub number : ℤ
  pub is : v ≡ int number
  pub small : is_small (int number) ≡ true
  pub rounded : z ≡ int (convert_of k number)

-- 6.3.1.3: the same where it is converted at all
abbrev pub RoundsBy : Option IntKind → (v z : Worth) → Type 0
RoundsBy None v z = v ≡ z
RoundsBy (Some k) v z = RoundsTo k v z

-- 6.5.5 to 6.5.12: an operator on what two operands gave, each converted so
pub record CalculatesBy (op : BinOp) (k : IntKind) (left right : Option IntKind) (first second z : Worth) : Type 0 where
  pub x : Worth
  pub y : Worth
  pub left_is : RoundsBy left first x
  pub right_is : RoundsBy right second y
  pub gives : AlwaysGives (λ b. Calculates op k x y) z
