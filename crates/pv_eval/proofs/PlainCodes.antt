-- What is known of the nodes of a unit, and what plain expressions give by it.
use Rattle.std.proofs.Common.{◌≡◌, ◌≢◌, ℕ, ℤ, ◌+◌, ◌++◌, Bool, true, false, List, [], ◌∷◌, length, Some, None, refl, sym, ap, ◌∙◌, subst, arith, ⊎_elim}
use Rattle.std.specs.Prelude.{Option, IfSome}
use Rattle.std.proofs.lemmas.Bool.{cases_lt}
use Rattle.std.proofs.lemmas.List.{get_or_append_left, get_or_push, get_or_past, length-append}
use Rattle.pv_num.specs.declared.kinds.IntKind.{IntKind}
use Rattle.pv_num.specs.declared.operators.BinOp.{BinOp}
use Rattle.pv_num.specs.Kinds.{convert_of}
use Rattle.pv_tree.specs.declared.nodes.NodeId.{NodeId}
use Rattle.pv_types.specs.Ty.{Ty, VoidTy, IntTy, PointerTo, ArrayOf, StructTag, UnionTag, FunctionTy, ConstOf}
use Rattle.pv_types.specs.declared.terms.TypeId.{TypeId}
use Rattle.pv_typed.specs.declared.nodes.Sign.{Sign}
use Rattle.pv_typed.specs.declared.nodes.Typed.{Typed}
use Rattle.pv_typed.specs.declared.nodes.Typed.TheVariants as typed
use Rattle.pv_typed.specs.Known.{Each}
use Rattle.pv_typed.specs.Children.{HasKind, HasOperands, operands}
use Rattle.pv_typed.specs.TypedTree.{TypedTree, Node, Form, type_of, form_of}
use Rattle.pv_typed.specs.Tables.{Stored}
use Rattle.pv_typed.specs.NodeTrees.{expression_at, IsExpression}
use Rattle.pv_seq.specs.Sequencing.{Access}
use Rattle.pv_world.specs.declared.got.Shape.TheVariants as shape
use Rattle.pv_world.specs.Worlds.{Worth, World}
use Rattle.pv_world.specs.Worths.{int, pointer}
use Rattle.pv_world.specs.Objects.{address_of, instance_of}
use Rattle.pv_eval.specs.declared.plain.Found.{Found}
use Rattle.pv_eval.specs.declared.codes.Operand.{Operand}
use Rattle.pv_eval.specs.declared.codes.Code.{Code}
use Rattle.pv_eval.specs.declared.codes.Code.TheVariants as code
use Rattle.pv_eval.specs.TypeForms.{shape_of}
use Rattle.pv_eval.specs.Sizes.{points}
use Rattle.pv_eval.specs.Conversions.{how_to}
use Rattle.pv_world.specs.Suiting.{is_small}
use Rattle.pv_eval.specs.States.{Setting, State, Gives}
use Rattle.pv_eval.specs.Steps.{is_minus}
use Rattle.pv_eval.specs.OfRuns.{with_conversion}
use Rattle.pv_eval.specs.Ahead.{first_operand_of}
use Rattle.pv_eval.specs.Operations.{Converts, Moves, Selects}
use Rattle.pv_eval.specs.Plainly.{Yields, YieldsNoting, AlwaysGives, GivesAt, GivesNoting, IsConverted, form_by, state_with, found_worth}
use Rattle.pv_eval.specs.Codes.{IsCode, AreCodes, IsOperandBy, IsOperandCode, IsArithmetic, IsReadOf, IsObjectOf, IsElementOf, IsGivenBy, IsSumOf, IsSameAs, IsPartOf, IsBefore, RoundsTo, RoundsBy, CalculatesBy}
use Rattle.pv_eval.proofs.PlainSteps.{some_map, alone_some, reading_some, both_some, noted_with, noted_both}
use Rattle.pv_eval.proofs.PlainNumbers.{constant_some, object_some, array_given, convert_given, converted_at, rounded_some, gives_calculated}
use Rattle.pv_eval.proofs.PlainPlaces.{subscript_some, summed_some}

-- what holds in any case
pub some_any : {A : Type 0} (r : Option A) (P : Type 0) → P → IfSome r (λ v. P)
some_any None P h = tt
some_any (Some v) P h = h

-- a pointer type without qualifiers is looked at as a pointer
pub pointer_shape : (t : Ty) → points t ≡ true → shape_of t ≡ shape.Pointer
pointer_shape (PointerTo t) h = refl
pointer_shape VoidTy h = absurd cc
pointer_shape (IntTy k) h = absurd cc
pointer_shape (ArrayOf t n) h = absurd cc
pointer_shape (StructTag n) h = absurd cc
pointer_shape (UnionTag n) h = absurd cc
pointer_shape (FunctionTy t ts v) h = absurd cc
pointer_shape (ConstOf t) h = absurd cc

-- a number that is converted
pub rounds_some : (k : IntKind) (v : Found) (x z : ℤ) (r : Option Found) → found_worth v ≡ int x → is_small (int x) ≡ true → z ≡ convert_of k x → IfSome r (λ q. found_worth q ≡ int z)
    → IfSome r (λ q. RoundsTo k (found_worth v) (found_worth q))
rounds_some k v x z None e small f h = tt
rounds_some k v x z (Some q) e small f h = record { number = x; is = e; small = small; rounded = h ∙ ap int f }

-- the node of a number
abbrev node_of : ℕ → NodeId
node_of k = record { 0 = k }

-- one node more
pub codes_more : (u : Stored) (cs : List Code) (c : Code) (m : NodeId) → m.0 ≡ length cs → AreCodes u cs → (IsExpression u m → IsCode u m c) → AreCodes u (cs ++ (c ∷ []))
codes_more u cs c m last old new n there =
    let longer : length (cs ++ (c ∷ [])) ≡ length cs + 1 = length-append cs (c ∷ []) in
    ⊎_elim
    (λ lt. subst (IsCode u n) (sym (get_or_append_left cs (c ∷ []) code.Unknown n.0 lt)) (old n there))
    (λ le.
    ⊎_elim
    (λ lt.
    let at : n.0 ≡ length cs = omega (arith, le, lt) in
    let same : n ≡ m = ap node_of (at ∙ sym last) in
    subst (IsCode u n) (sym (get_or_push cs c code.Unknown n.0 (sym at))) (subst (λ (k : NodeId). IsCode u k c) (sym same) (new (subst (IsExpression u) same there))))
    (λ beyond. subst (IsCode u n) (sym (get_or_past (cs ++ (c ∷ [])) n.0 code.Unknown (omega (arith, longer, beyond)))) tt)
    (cases_lt n.0 (length cs + 1)))
    (cases_lt n.0 (length cs))

-- the one operand of a node stands before it
pub one_before : (u : Stored) (n a : NodeId) (x : Typed) → IsExpression u n → HasOperands u.rows u.lists n.0 x → operands x ≡ (a ∷ []) → IsBefore u n a
one_before u n a x there h is =
    let k = (subst (Each (HasKind u.rows n.0 true)) is h.0).0 in
    ((omega (arith, k.0, there.0), k.1), k.0)

-- so do the two operands of a node
pub two_before : (u : Stored) (n a d : NodeId) (x : Typed) → IsExpression u n → HasOperands u.rows u.lists n.0 x → operands x ≡ (a ∷ d ∷ []) → IsBefore u n a × IsBefore u n d
two_before u n a d x there h is =
    let ks = subst (Each (HasKind u.rows n.0 true)) is h.0 in
    let k = ks.0 in
    let l = ks.1.0 in
    (((omega (arith, k.0, there.0), k.1), k.0), ((omega (arith, l.0, there.0), l.1), l.0))

-- so does the node that gives the value of an operand
operand_before_by : (u : Stored) (n a m : NodeId) (to : Option IntKind) → IsBefore u n a → IsOperandBy u a m to → IsBefore u n m
operand_before_by u n a m None b h = subst (λ (k : NodeId). IsBefore u n k) (sym h.0) b
operand_before_by u n a m (Some k) b h = (h.1.0, omega (arith, h.1.1, b.1))

pub operand_before : (u : Stored) (n a : NodeId) (o : Operand) → IsBefore u n a → IsOperandCode u a o → IsBefore u n o.node
operand_before u n a o b h = operand_before_by u n a o.node o.to b h

-- an operand that is no conversion gives its value as it is
not_converted : (u : Stored) (x : Typed) → ((i : NodeId) → x ≢ typed.Convert i) → (b : Setting) (t : Ty) (line : ℕ) (turn : Bool) (v : Worth) (s : State) → with_conversion b (Node t line turn (form_by u x)) v s ≡ Gives v s
not_converted u (typed.Constant value) h b t line turn v s = refl
not_converted u (typed.LargeConstant value) h b t line turn v s = refl
not_converted u (typed.Object o) h b t line turn v s = refl
not_converted u (typed.Function f) h b t line turn v s = refl
not_converted u (typed.String l) h b t line turn v s = refl
not_converted u (typed.Subscript x y) h b t line turn v s = refl
not_converted u (typed.Call f l) h b t line turn v s = refl
not_converted u (typed.CallPointer x l) h b t line turn v s = refl
not_converted u (typed.LibraryCall f l) h b t line turn v s = refl
not_converted u (typed.Member x offset) h b t line turn v s = refl
not_converted u (typed.MemberOfValue x offset) h b t line turn v s = refl
not_converted u (typed.Arrow x offset) h b t line turn v s = refl
not_converted u (typed.Increment op x) h b t line turn v s = refl
not_converted u (typed.Address x) h b t line turn v s = refl
not_converted u (typed.Indirection x) h b t line turn v s = refl
not_converted u (typed.Unary op x) h b t line turn v s = refl
not_converted u (typed.Not x) h b t line turn v s = refl
not_converted u (typed.Sizeof size) h b t line turn v s = refl
not_converted u (typed.Cast x) h b t line turn v s = refl
not_converted u (typed.Arithmetic op x y) h b t line turn v s = refl
not_converted u (typed.PointerSum sign x y) h b t line turn v s = refl
not_converted u (typed.PointerDifference x y) h b t line turn v s = refl
not_converted u (typed.PointerOrder op x y) h b t line turn v s = refl
not_converted u (typed.PointerEquality op x y) h b t line turn v s = refl
not_converted u (typed.LogicalAnd x y) h b t line turn v s = refl
not_converted u (typed.LogicalOr x y) h b t line turn v s = refl
not_converted u (typed.Conditional x y z) h b t line turn v s = refl
not_converted u (typed.Assign x y) h b t line turn v s = refl
not_converted u (typed.CompoundAssign op kind x y) h b t line turn v s = refl
not_converted u (typed.PointerAssign sign x y) h b t line turn v s = refl
not_converted u (typed.Comma x y) h b t line turn v s = refl
not_converted u (typed.Read x) h b t line turn v s = refl
not_converted u (typed.ArrayPointer x) h b t line turn v s = refl
not_converted u (typed.Convert x) h b t line turn v s = absurd (h x refl)

as_it_is : (x : TypedTree) (f : Form) → form_of x ≡ f → ((b : Setting) (t : Ty) (line : ℕ) (turn : Bool) (v : Worth) (s : State) → with_conversion b (Node t line turn f) v s ≡ Gives v s) → (v : Worth) → IsConverted x v v
as_it_is (Node t line turn g) f e h v = λ b w out es n. ap (λ (k : Form). with_conversion b (Node t line turn k) v (state_with w out es n)) e ∙ h b t line turn v (state_with w out es n)

pub unconverted : (u : Stored) (a : NodeId) (x : Typed) → form_of (expression_at u a) ≡ form_by u x → ((i : NodeId) → x ≢ typed.Convert i) → (v : Worth) → IsConverted (expression_at u a) v v
unconverted u a x e h v = as_it_is (expression_at u a) (form_by u x) e (not_converted u x h) v

-- none yet
pub codes_none : (u : Stored) → AreCodes u []
codes_none u n there = tt

module _ (u : Stored) (w : World) where
  -- an operand gives what the node behind its conversion gives, and it is converted so
  pub operand_by : {noting : Bool} {js ks : List Access} (a m : NodeId) (to : Option IntKind) (v z : Worth) → IsOperandBy u a m to → YieldsNoting u w (expression_at u m) v noting js ks → RoundsBy to v z → YieldsNoting u w (expression_at u a) v noting js ks × IsConverted (expression_at u a) v z
  operand_by {noting} {js} {ks} a m None v z h y r = (subst (λ (k : NodeId). YieldsNoting u w (expression_at u k) v noting js ks) h.0 y, subst (λ (q : Worth). IsConverted (expression_at u a) v q) r (h.1 v))
  operand_by {noting} {js} {ks} a m (Some k) v z h y r =
      let from = type_of (expression_at u m) in
      let to = type_of (expression_at u a) in
      let x = r.number in
      let rounds : AlwaysGives (λ b. Converts (how_to b true from to) (int x)) (int (convert_of k x)) = rounded_some from to h.2.old k x (convert_of k x) (Some (convert_of k x)) h.2.from_is h.2.to_is refl r.small refl true in (
        noted_with u w a (typed.Convert m) h.0 m v v refl y (convert_given u w to (typed.Convert m) m v refl),
        converted_at (expression_at u a) (expression_at u m) v z h.0
            (subst (λ (q : Worth). AlwaysGives (λ b. Converts (how_to b true from to) q) z) (sym r.is)
            (subst (λ (q : Worth). AlwaysGives (λ b. Converts (how_to b true from to) (int x)) q) (sym r.rounded) rounds)),
      )

  -- the same where nobody asks what it reads
  unasked : {A : Type 0} → false ≡ true → A
  unasked h = absurd cc

  pub operand_yields : (a m : NodeId) (to : Option IntKind) (v z : Worth) → IsOperandBy u a m to → Yields u w (expression_at u m) v → RoundsBy to v z → Yields u w (expression_at u a) v × IsConverted (expression_at u a) v z
  operand_yields a m to v z h y r =
      let noted : YieldsNoting u w (expression_at u m) v false [] [] = record { yields = y; noted = λ on. unasked on } in
      let both = operand_by {noting = false} {js = []} {ks = []} a m to v z h noted r in
      (both.0.yields, both.1)

  module _ (n : NodeId) where
    pub number_coded : (noting : Bool) (js : List Access) (k : ℤ) (r : Option Found) → IsCode u n (code.Number k) → IfSome r (λ v. found_worth v ≡ int k) → IfSome r (λ v. YieldsNoting u w (expression_at u n) (found_worth v) noting js js)
    number_coded noting js k r form h = alone_some u w n (typed.Constant k) form noting js r (constant_some u w (typed.Constant k) k r refl h)

    pub object_coded : (noting : Bool) (js : List Access) (o : ℕ) (lasting : Bool) (r : Option Found) → IsCode u n (code.Object o lasting) → IfSome r (λ v. found_worth v ≡ pointer (address_of w (instance_of w o lasting))) → IfSome r (λ v. YieldsNoting u w (expression_at u n) (found_worth v) noting js js)
    object_coded noting js o lasting r is h = alone_some u w n (typed.Object o) is.0 noting js r (object_some u w (typed.Object o) o lasting r refl is.1 h)

    pub same_coded : (noting : Bool) (js ks : List Access) (a : NodeId) (r : Option Found) → IsSameAs u n a → IfSome r (λ v. YieldsNoting u w (expression_at u a) (found_worth v) noting js ks) → IfSome r (λ v. YieldsNoting u w (expression_at u n) (found_worth v) noting js ks)
    same_coded noting js ks a r is h =
        some_map (λ v. YieldsNoting u w (expression_at u a) (found_worth v) noting js ks) (λ v. YieldsNoting u w (expression_at u n) (found_worth v) noting js ks) r
        (λ v y. noted_with u w n is.node is.form a (found_worth v) (found_worth v) is.operand y (is.gives w v)) h

    pub part_coded : {noting : Bool} {js ks : List Access} (a : NodeId) (offset : ℕ) (place : Found) (r : Option Found) → IsPartOf u n a offset → YieldsNoting u w (expression_at u a) (found_worth place) noting js ks
        → IfSome r (λ v. GivesAt w (λ b. Selects offset (found_worth place)) (found_worth v)) → IfSome r (λ v. YieldsNoting u w (expression_at u n) (found_worth v) noting js ks)
    part_coded {noting} {js} {ks} a offset place r is y h =
        some_map (λ v. GivesAt w (λ b. Selects offset (found_worth place)) (found_worth v)) (λ v. YieldsNoting u w (expression_at u n) (found_worth v) noting js ks) r
        (λ v g. noted_with u w n is.node is.form a (found_worth place) (found_worth v) is.operand y (is.gives w (found_worth place) (found_worth v) g)) h

    pub sum_coded : {noting : Bool} {js ks ls : List Access} (sign : Sign) (minus : Bool) (a d : NodeId) (size : ℕ) (first second : Found) (r : Option Found) → IsSumOf u n sign a d size → minus ≡ is_minus sign → YieldsNoting u w (expression_at u a) (found_worth first) noting js ks
        → YieldsNoting u w (expression_at u d) (found_worth second) noting ks ls → IfSome r (λ v. GivesAt w (λ b. Moves minus true size (found_worth first) (found_worth second)) (found_worth v)) → IfSome r (λ v. YieldsNoting u w (expression_at u n) (found_worth v) noting js ls)
    sum_coded {noting} {js} {ks} {ls} sign minus a d size first second r is e y z h =
        both_some u w n (typed.PointerSum sign a d) is.form a d first second r refl refl y z
        (summed_some u w a d size (found_worth first) (found_worth second) is.pointer (type_of (expression_at u n)) sign minus r e is.is h)

    pub read_coded : {noting : Bool} {js ks : List Access} (ls : List Access) (a : NodeId) (t : TypeId) (place : Found) (r : Option Found) → IsReadOf u n a t → YieldsNoting u w (expression_at u a) (found_worth place) noting js ks
        → ((s : Ty) → IfSome r (λ v. GivesNoting u w s (typed.Read a) (found_worth place) (found_worth v) noting ks ls)) → IfSome r (λ v. YieldsNoting u w (expression_at u n) (found_worth v) noting js ls)
    read_coded {noting} {js} {ks} ls a t place r is y h = reading_some u w n (typed.Read a) is.form ls a place r refl y (h (type_of (expression_at u n)))

    pub own_coded : (noting : Bool) (js ks : List Access) (a : NodeId) (t : TypeId) (o : ℕ) (lasting : Bool) (place : Found) (r : Option Found) → IsReadOf u n a t → IsObjectOf u a o lasting → found_worth place ≡ pointer (address_of w (instance_of w o lasting))
        → ((s : Ty) → IfSome r (λ v. GivesNoting u w s (typed.Read a) (found_worth place) (found_worth v) noting js ks)) → IfSome r (λ v. YieldsNoting u w (expression_at u n) (found_worth v) noting js ks)
    own_coded noting js ks a t o lasting place r is object at h =
        read_coded ks a t place r is (alone_some u w a (typed.Object o) object.0 noting js (Some place) (object_some u w (typed.Object o) o lasting (Some place) refl object.1 at)) h

    pub arithmetic_coded : {noting : Bool} {js ks ls : List Access} (op : BinOp) (k : IntKind) (left right : Operand) (x y : Found) (r : Option Found) → IsArithmetic u n op k left right
        → YieldsNoting u w (expression_at u left.node) (found_worth x) noting js ks → YieldsNoting u w (expression_at u right.node) (found_worth y) noting ks ls
        → IfSome r (λ z. CalculatesBy op k left.to right.to (found_worth x) (found_worth y) (found_worth z)) → IfSome r (λ v. YieldsNoting u w (expression_at u n) (found_worth v) noting js ls)
    arithmetic_coded {noting} {js} {ks} {ls} op k left right x y r is yx yy h =
        some_map (λ z. CalculatesBy op k left.to right.to (found_worth x) (found_worth y) (found_worth z)) (λ z. YieldsNoting u w (expression_at u n) (found_worth z) noting js ls) r
        (λ z c.
        let l = operand_by is.a left.node left.to (found_worth x) c.x is.left_is yx c.left_is in
        let m = operand_by is.d right.node right.to (found_worth y) c.y is.right_is yy c.right_is in
        noted_both u w n (typed.Arithmetic op is.a is.d) is.form is.a is.d (found_worth x) (found_worth y) (found_worth z) refl refl l.0 m.0
        (gives_calculated u w (type_of (expression_at u n)) op is.a is.d k (found_worth x) (found_worth y) c.x c.y (found_worth z) l.1 m.1 is.kind c.gives)) h

    pub element_coded : {noting : Bool} {js ks ls : List Access} (m d : NodeId) (size : ℕ) (first second : Found) (r : Option Found) → IsElementOf u n m d size → YieldsNoting u w (expression_at u m) (found_worth first) noting js ks → YieldsNoting u w (expression_at u d) (found_worth second) noting ks ls
        → IfSome r (λ v. GivesAt w (λ b. Moves false true size (found_worth first) (found_worth second)) (found_worth v)) → IfSome r (λ v. YieldsNoting u w (expression_at u n) (found_worth v) noting js ls)
    element_coded {noting} {js} {ks} {ls} m d size first second r is y z h =
        both_some u w n (typed.Subscript is.a d) is.form is.a d first second r refl refl (is.given.gives w first noting js ks y) z
        (subscript_some u w is.a d size (found_worth first) (found_worth second) is.pointer (type_of (expression_at u n)) r is.is h)

-- what an operand gives is given by itself, and by the array to whose first element it points
pub given_itself : (u : Stored) (a : NodeId) → IsExpression u a → IsGivenBy u a a
given_itself u a there = record { there = there; least = omega arith; gives = λ w v noting js ks y. y }

pub given_array : (u : Stored) (a b : NodeId) (x : Typed) → IsExpression u a → HasOperands u.rows u.lists a.0 x → form_of (expression_at u a) ≡ form_by u x → x ≡ typed.ArrayPointer b → IsGivenBy u a b
given_array u a b x there h form is =
    let before = one_before u a b x there h (ap operands is) in
    let same : IsSameAs u a b =
    record { node = x; form = form; operand = ap first_operand_of is; before = before; gives = λ w v. array_given u w (type_of (expression_at u a)) x b (found_worth v) is } in
    record { there = before.0; least = omega (arith, before.1); gives = λ w v noting js ks y. same_coded u w a noting js ks b (Some v) same y }
