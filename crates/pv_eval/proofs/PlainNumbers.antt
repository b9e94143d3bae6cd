-- Operations on integers that give a value, tell nothing and leave the world as it is.
use Rattle.std.proofs.Common.{◌≡◌, ℕ, zero, suc, ◌++◌, Bool, true, false, List, [], refl, sym, ap, ◌∙◌, arith, subst, Some, None, append-nil}
use Rattle.std.proofs.lemmas.Bool.{le-ltb}
use Rattle.std.proofs.lemmas.Bool.Decides.{nat_tests}
use Rattle.std.proofs.lemmas.Int.{ints}
use Rattle.std.specs.Prelude.{ℤ, pos, negsuc, int_div, int_rem, ◌&&◌, Option, IfSome, nat_lt, slice_get, if◌then◌else◌, SomeIff, Result, Ok, Err}
use Rattle.pv_num.specs.declared.kinds.IntKind.{IntKind}
use Rattle.pv_num.specs.declared.kinds.IntKind.TheVariants.{Bool as BoolKind, Char}
use Rattle.pv_num.specs.declared.operators.BinOp.{BinOp}
use Rattle.pv_num.specs.Kinds.{Fits, fits_of, bits_of, is_signed, convert_of, is_character_kind}
use Rattle.pv_num.specs.declared.operators.ArithmeticFault.{ArithmeticFault}
use Rattle.pv_num.specs.declared.operators.ArithmeticFault.TheVariants.{Overflow, ZeroDivisor, Quotient}
use Rattle.pv_num.specs.declared.operators.BinOp.TheVariants.{Div, Rem}
use Rattle.pv_num.specs.declared.operators.UnOp.{UnOp}
use Rattle.pv_num.specs.Arithmetic.{is_zero, exact_of, binary_of, unary_of}
use Rattle.pv_tree.specs.declared.nodes.NodeId.{NodeId}
use Rattle.pv_types.specs.Ty.{Ty}
use Rattle.pv_typed.specs.declared.nodes.Typed.{Typed}
use Rattle.pv_typed.specs.declared.nodes.Typed.TheVariants as typed
use Rattle.pv_typed.specs.TypedTree.{TypedTree, Node, Form, Convert, type_of, form_of}
use Rattle.pv_typed.specs.TypedUnits.{layouts, object_at}
use Rattle.pv_typed.specs.Tables.{Stored, whole_unit}
use Rattle.pv_typed.specs.NodeTrees.{expression_at}
use Rattle.pv_seq.specs.Sequencing.{open_against}
use Rattle.pv_world.specs.Worlds.{Worth, World}
use Rattle.pv_world.specs.declared.got.Shape.{Shape}
use Rattle.pv_world.specs.declared.got.Shape.TheVariants as shape
use Rattle.pv_world.specs.declared.got.How.TheVariants.{Rounds, Passes}
use Rattle.pv_world.specs.Worths.{int, pointer, null_pointer, missing_value, arithmetic_result}
use Rattle.pv_world.specs.Calculations.{follows_to}
use Rattle.pv_world.specs.CalculationParts.{calculates, calculates_one}
use Rattle.pv_world.specs.Objects.{address_of, instance_of}
use Rattle.pv_world.specs.Telling.{no_telling}
use Rattle.pv_world.specs.Doing.{Answers, Fails}
use Rattle.pv_eval.specs.declared.marked.Marked.{Marked}
use Rattle.pv_eval.specs.States.{Setting, Gives, then_do}
use Rattle.pv_eval.specs.Acting.{after_telling, pair_count, by_side, answer_with_sides, after_doing}
use Rattle.pv_eval.specs.Operations.{Op, Converts, Calculates, CalculatesOne, Negates, Follows, Selects, NamesObject, does, act}
use Rattle.pv_eval.specs.Sequenced.{node_value}
use Rattle.pv_eval.specs.OfRuns.{work, with_conversion}
use Rattle.pv_eval.specs.Evaluation.{ev_by, ev}
use Rattle.pv_eval.specs.TypeForms.{kind_of, shape_of, pointed_to}
use Rattle.pv_types.specs.Sorts.{is_void as is_none}
use Rattle.pv_eval.specs.Conversions.{how_to_int, how_by, how_to}
use Rattle.pv_world.specs.Suiting.{is_small, is_promoted, is_operand}
use Rattle.pv_world.proofs.Guards.{both_of}
use Rattle.pv_eval.specs.declared.plain.Found.{Found}
use Rattle.pv_eval.specs.declared.plain.Found.TheVariants as found
use Rattle.pv_eval.specs.Plainly.{setting_by, state_with, has_read, GivesAlone, GivesWith, GivesWithBoth, AlwaysGives, GivesAt, IsConverted, pointer_at, found_worth}

pub not_less : (n : ℕ) → nat_lt n n ≡ false
not_less n = le-ltb n n (omega arith)

module _ (w : World) (out : List ℕ) (es : List Marked) (n : ℕ) where
  noted_quiet : after_telling w no_telling (state_with w out es n) ≡ state_with w out es n
  noted_quiet = ap (λ (o : List ℕ). state_with w o (es ++ []) n) (append-nil out) ∙ ap (λ (e : List Marked). state_with w out e n) (append-nil es)

  answered_quiet : (sides : Option (List Bool)) (v : Worth) (line : ℕ) → answer_with_sides sides v line w no_telling (state_with w out es n) ≡ Gives v (state_with w out es n)
  answered_quiet None v line = ap (Gives v) noted_quiet
  answered_quiet (Some sides) v line =
      ap (λ c. if c then by_side (slice_get sides (pair_count w)) v line w no_telling (state_with w out es n) else Gives v (after_telling w no_telling (state_with w out es n))) (not_less (pair_count w))
      ∙ ap (Gives v) noted_quiet

  -- an operation that tells nothing gives its value in the state as it is
  pub act_gives : (b : Setting) (line : ℕ) (op : Op) (v : Worth) → does b op w ≡ Answers v w no_telling → act b line op (state_with w out es n) ≡ Gives v (state_with w out es n)
  act_gives b line op v h = ap (λ d. after_doing b line d (state_with w out es n)) h ∙ answered_quiet b.sides v line

-- the same operands
pub calculates_same : (op : BinOp) (k : IntKind) (x y left right : ℤ) (v : Worth) → x ≡ left → y ≡ right → AlwaysGives (λ b. Calculates op k (int x) (int y)) v → AlwaysGives (λ b. Calculates op k (int left) (int right)) v
calculates_same op k x y left right v e f h =
    subst (λ (n : ℤ). AlwaysGives (λ b. Calculates op k (int n) (int right)) v) e (subst (λ (n : ℤ). AlwaysGives (λ b. Calculates op k (int x) (int n)) v) f h)

pub operated_some : (op : BinOp) (k : IntKind) (v w : Found) (x y left right : ℤ) (z : Worth) → found_worth v ≡ int left → found_worth w ≡ int right → x ≡ left → y ≡ right → AlwaysGives (λ b. Calculates op k (int x) (int y)) z
    → AlwaysGives (λ b. Calculates op k (found_worth v) (found_worth w)) z
operated_some op k v w x y left right z ev ew e f h =
    subst (λ q. AlwaysGives (λ b. Calculates op k q (found_worth w)) z) (sym ev) (subst (λ q. AlwaysGives (λ b. Calculates op k (int left) q) z) (sym ew) (calculates_same op k x y left right z e f h))

-- an exact number is what an operator gives of two numbers, if it is a member of a kind that has a sign
pub joined_some : (op o : BinOp) (x y n : ℤ) (r : Option ℤ) (P : Type 0) → op ≡ o → ((k : IntKind) → binary_of o k x y ≡ exact_of k n) → SomeIff r P n → IfSome r (λ z. (k : IntKind) → binary_of op k x y ≡ exact_of k z)
joined_some op o x y n None P is e h = tt
joined_some op o x y n (Some z) P is e h = λ k. ap (λ q. binary_of q k x y) is ∙ e k ∙ ap (exact_of k) (sym h.1)

-- a result that reports an overflow is the number that an operator gives
pub some_exact : (a : Result ℤ ArithmeticFault) (r : Option ℤ) (P : Type 0) (n : ℤ) → a ≡ Ok n → SomeIff r P n → IfSome r (λ z. a ≡ Ok z)
some_exact a None P n e h = tt
some_exact a (Some z) P n e h = e ∙ ap Ok (sym h.1)

-- a quotient that is a member of a kind, and what it leaves, by a divisor that is not zero
module _ (op : BinOp) (k : IntKind) (x y : ℤ) (nonzero : is_zero y ≡ false) (fits : fits_of k (int_div x y) ≡ true) where
  pub quotient_is : op ≡ Div → binary_of op k x y ≡ Ok (int_div x y)
  quotient_is is =
      ap (λ q. binary_of q k x y) is
      ∙ ap (λ (b : Bool). if b then Err ZeroDivisor else (if fits_of k (int_div x y) then Ok (int_div x y) else Err Quotient)) nonzero
      ∙ ap (λ (b : Bool). if b then Ok (int_div x y) else Err Quotient) fits

  pub remainder_is : op ≡ Rem → binary_of op k x y ≡ Ok (int_rem x y)
  remainder_is is =
      ap (λ q. binary_of q k x y) is
      ∙ ap (λ (b : Bool). if b then Err ZeroDivisor else (if fits_of k (int_div x y) then Ok (int_rem x y) else Err Quotient)) nonzero
      ∙ ap (λ (b : Bool). if b then Ok (int_rem x y) else Err Quotient) fits

-- a comparison of two numbers, under other names of them
pub compared_is : (op o : BinOp) (k : IntKind) (x y a b : ℤ) → op ≡ o → a ≡ x → b ≡ y → binary_of op k x y ≡ binary_of o k a b
compared_is op o k x y a b is left right = ap (λ q. binary_of q k x y) is ∙ ap (λ (m : ℤ). binary_of o k m y) (sym left) ∙ ap (binary_of o k a) (sym right)

pub exactly_member : (k : IntKind) (n : ℤ) → is_signed k ≡ true → fits_of k n ≡ true → exact_of k n ≡ Ok n
exactly_member k n signed fits =
    ap (λ (b : Bool). if b then (if fits_of k n then Ok n else Err Overflow) else Ok (pos (bits_of k n))) signed
    ∙ ap (λ (b : Bool). if b then Ok n else Err Overflow) fits

-- what is calculated of two operands that fit
pub calculated_some : (op : BinOp) (k : IntKind) (x y z : ℤ) (r : Option ℤ) → is_promoted k ≡ true → fits_of k x ≡ true → is_operand op k y ≡ true → binary_of op k x y ≡ Ok z → IfSome r (λ q. q ≡ z)
    → IfSome r (λ q. AlwaysGives (λ b. Calculates op k (int x) (int y)) (int q))
calculated_some op k x y z None e f g h i = tt
calculated_some op k x y z (Some q) e f g h i = λ b w.
    ap (λ c. if c then calculates op k (int x) (int y) w else Fails missing_value None w no_telling) (both_of (is_promoted k && fits_of k x) (is_operand op k y) (both_of (is_promoted k) (fits_of k x) e f) g)
    ∙ ap (arithmetic_result w) h
    ∙ ap (λ (n : ℤ). Answers (int n) w no_telling) (sym i)

-- no conversion changes a member of the kind
pub member_kept : (k : IntKind) (z : ℤ) → Fits k z → convert_of k z ≡ z
member_kept BoolKind (pos zero) h = refl
member_kept BoolKind (pos (suc n)) h = grind (arith, ints)
member_kept BoolKind (negsuc n) h = grind (arith, ints)
member_kept Char z h = grind (arith, ints, nat_tests)
member_kept _ z h = grind (arith, ints, nat_tests)

-- a conversion between integer types
module _ (x : ℤ) (small : is_small (int x) ≡ true) (b : Setting) (w : World) where
  pub rounds : (k : IntKind) → does b (Converts (Rounds k) (int x)) w ≡ Answers (int (convert_of k x)) w no_telling
  rounds k = ap (λ c. if c then Answers (int (convert_of k x)) w no_telling else Fails missing_value None w no_telling) (both_of (is_small (int x)) true small refl)

  passes_on : (k : IntKind) → does b (Converts (Passes k) (int x)) w ≡ Answers (int (convert_of k x)) w no_telling
  passes_on k = ap (λ c. if c then Answers (int (convert_of k x)) w no_telling else Fails missing_value None w no_telling) (both_of (is_small (int x)) true small refl)

  rounds_or : (c : Bool) (k : IntKind) → does b (Converts (if c then Passes k else Rounds k) (int x)) w ≡ Answers (int (convert_of k x)) w no_telling
  rounds_or true k = passes_on k
  rounds_or false k = rounds k

  between_integers : (implied : Bool) (j k : IntKind) → does b (Converts (how_to_int implied (shape.Int j) k) (int x)) w ≡ Answers (int (convert_of k x)) w no_telling
  between_integers true j k = rounds_or (is_character_kind j && is_character_kind k) k
  between_integers false j k = rounds k

pub rounded_some : (from to : Ty) (j k : IntKind) (x z : ℤ) (r : Option ℤ) → shape_of from ≡ shape.Int j → shape_of to ≡ shape.Int k → z ≡ convert_of k x → is_small (int x) ≡ true → IfSome r (λ q. q ≡ z)
    → (implied : Bool) → IfSome r (λ q. AlwaysGives (λ b. Converts (how_to b implied from to) (int x)) (int q))
rounded_some from to j k x z None e f g small h implied = tt
rounded_some from to j k x z (Some q) e f g small h implied = λ b w.
    ap (λ (s : Shape). does b (Converts (how_by (layouts b.unit) implied s (shape_of to) (pointed_to to)) (int x)) w) e
    ∙ ap (λ (s : Shape). does b (Converts (how_by (layouts b.unit) implied (shape.Int j) s (pointed_to to)) (int x)) w) f
    ∙ between_integers x small b w implied j k
    ∙ ap (λ (n : ℤ). Answers (int n) w no_telling) (sym (h ∙ g))

pub kept_some : (k : IntKind) (v : Found) (x z : ℤ) (r : Option Found) → found_worth v ≡ int x → is_small (int x) ≡ true → z ≡ convert_of k x → IfSome r (λ q. found_worth q ≡ int z)
    → IfSome r (λ q. AlwaysGives (λ b. Converts (Rounds k) (found_worth v)) (found_worth q))
kept_some k v x z None e small f h = tt
kept_some k v x z (Some q) e small f h = λ b w.
    ap (λ y. does b (Converts (Rounds k) y) w) e
    ∙ rounds x small b w k
    ∙ ap (λ y. Answers y w no_telling) (ap int (sym f) ∙ sym h)

-- the operand of a node, converted by its own node
pub converted_at : (x i : TypedTree) (v z : Worth) → form_of x ≡ Convert i → AlwaysGives (λ b. Converts (how_to b true (type_of i) (type_of x)) v) z → IsConverted x v z
converted_at (Node t line turn f) (Node s m k y) v z e h = λ b w out es n.
    ap (λ (g : Form). with_conversion b (Node t line turn g) v (state_with w out es n)) e
    ∙ act_gives w out es n b line (Converts (how_to b true s t) v) z (h b w)

pub converted_some : (x i : TypedTree) (from to : Ty) (v : Worth) (k : ℤ) (r : Option ℤ) → form_of x ≡ Convert i → from ≡ type_of i → to ≡ type_of x → v ≡ int k
    → IfSome r (λ z. AlwaysGives (λ b. Converts (how_to b true from to) (int k)) (int z)) → IfSome r (λ z. IsConverted x v (int z))
converted_some x i from to v k None form e f g h = tt
converted_some x i from to v k (Some z) form e f g h =
    subst (λ y. IsConverted x y (int z)) (sym g)
    (converted_at x i (int k) (int z) form
    (subst (λ (t : Ty). AlwaysGives (λ b. Converts (how_to b true t (type_of x)) (int k)) (int z)) e
    (subst (λ (t : Ty). AlwaysGives (λ b. Converts (how_to b true from t) (int k)) (int z)) f h)))

-- an operator on two integers
pub gives_calculated : (u : Stored) (w : World) (t : Ty) (op : BinOp) (a d : NodeId) (k : IntKind) (x y left right v : Worth) → IsConverted (expression_at u a) x left → IsConverted (expression_at u d) y right
    → k ≡ kind_of (type_of (expression_at u a)) → AlwaysGives (λ b. Calculates op k left right) v → GivesWithBoth u w t (typed.Arithmetic op a d) x y v
gives_calculated u w t op a d k x y left right v hx hy e h = record {
  turns = λ turn. refl;
  gives = λ call bound sides zap line fs gs out es n hf ha.
      let b = setting_by u bound sides zap in
      let s = state_with w out es n in
      let j = has_read fs gs in
      let kind = kind_of (type_of (expression_at u a)) in
      record {
        reads = ha;
        is =
            ap (λ r. then_do r (λ v s. then_do (with_conversion b (expression_at u d) y s) (λ z s. work b line (Calculates op kind v z) j s))) (hx b w out es n)
            ∙ ap (λ r. then_do r (λ z s. work b line (Calculates op kind left z) j s)) (hy b w out es n)
            ∙ ap (λ (i : IntKind). work b line (Calculates op i left right) j s) (sym e)
            ∙ ap (λ r. then_do r (node_value j)) (act_gives w out es n b line (Calculates op k left right) v (h b w));
      };
}

-- nodes without operands, of what may have been found
pub constant_some : (u : Stored) (w : World) (x : Typed) (k : ℤ) (r : Option Found) → x ≡ typed.Constant k → IfSome r (λ v. found_worth v ≡ int k) → IfSome r (λ v. GivesAlone u w x (found_worth v))
unfolding ev_by
constant_some u w x k None is h = tt
constant_some u w x k (Some v) is h = subst (λ y. GivesAlone u w y (found_worth v)) (sym is) (record {
  turns = λ turn. refl;
  takes = λ turn. refl;
  gives = λ call bound sides zap t line fs out es n. ap (λ z. node_value (open_against fs) z (state_with w out es n)) (sym h);
})

pub size_some : (u : Stored) (w : World) (x : Typed) (k : ℕ) (r : Option Found) → x ≡ typed.Sizeof k → IfSome r (λ v. found_worth v ≡ int (pos k)) → IfSome r (λ v. GivesAlone u w x (found_worth v))
unfolding ev_by
size_some u w x k None is h = tt
size_some u w x k (Some v) is h = subst (λ y. GivesAlone u w y (found_worth v)) (sym is) (record {
  turns = λ turn. refl;
  takes = λ turn. refl;
  gives = λ call bound sides zap t line fs out es n. ap (λ z. node_value (open_against fs) z (state_with w out es n)) (sym h);
})

pub object_some : (u : Stored) (w : World) (x : Typed) (o : ℕ) (lasting : Bool) (r : Option Found) → x ≡ typed.Object o → (object_at (whole_unit u) o).lasting ≡ lasting
    → IfSome r (λ v. found_worth v ≡ pointer (address_of w (instance_of w o lasting))) → IfSome r (λ v. GivesAlone u w x (found_worth v))
unfolding ev_by
object_some u w x o lasting None is same h = tt
object_some u w x o lasting (Some v) is same h = subst (λ y. GivesAlone u w y (found_worth v)) (sym is) (record {
  turns = λ turn. refl;
  takes = λ turn. refl;
  gives = λ call bound sides zap t line fs out es n.
      let b = setting_by u bound sides zap in
      ap (λ r. then_do r (node_value (open_against fs)))
      (act_gives w out es n b line (NamesObject o) (found_worth v)
      (ap (λ (l : Bool). Answers (pointer (address_of w (instance_of w o l))) w no_telling) same ∙ ap (λ z. Answers z w no_telling) (sym h)));
})

-- nodes that give the value of their operand
pub array_given : (u : Stored) (w : World) (t : Ty) (x : Typed) (a : NodeId) (v : Worth) → x ≡ typed.ArrayPointer a → GivesWith u w t x v v
array_given u w t x a v is = subst (λ y. GivesWith u w t y v v) (sym is) (record { turns = λ turn. refl; gives = λ call bound sides zap line fs gs out es n hf hg. record { reads = hg; is = refl } })

pub convert_given : (u : Stored) (w : World) (t : Ty) (x : Typed) (a : NodeId) (v : Worth) → x ≡ typed.Convert a → GivesWith u w t x v v
convert_given u w t x a v is = subst (λ y. GivesWith u w t y v v) (sym is) (record { turns = λ turn. refl; gives = λ call bound sides zap line fs gs out es n hf hg. record { reads = hg; is = refl } })

pub address_given : (u : Stored) (w : World) (t : Ty) (x : Typed) (a : NodeId) (v : Worth) → x ≡ typed.Address a → GivesWith u w t x v v
address_given u w t x a v is = subst (λ y. GivesWith u w t y v v) (sym is) (record { turns = λ turn. refl; gives = λ call bound sides zap line fs gs out es n hf hg. record { reads = hg; is = refl } })

-- nodes with one operand, of an operation that gives a value whatever the setting
module _ (u : Stored) (w : World) (t : Ty) where
  pub followed_given : (x : Typed) (a : NodeId) (v : Found) → x ≡ typed.Indirection a → is_none t ≡ false → GivesWith u w t x (found_worth v) (found_worth v)
  followed_given x a v is e = subst (λ y. GivesWith u w t y (found_worth v) (found_worth v)) (sym is) (record {
    turns = λ turn. refl;
    gives = λ call bound sides zap line fs gs out es n hf hg. record {
      reads = hg;
      is = ap (λ r. then_do r (node_value (has_read fs gs))) (act_gives w out es n (setting_by u bound sides zap) line (Follows (is_none t) (found_worth v)) (found_worth v) (follows_found (setting_by u bound sides zap) v));
    };
  })
    where
      follows_found : (b : Setting) (v : Found) → does b (Follows (is_none t) (found_worth v)) w ≡ Answers (found_worth v) w no_telling
      follows_found b (found.Number k) = ap (λ c. follows_to c (int k) w) e
      follows_found b (found.Place p) = ap (λ c. follows_to c (pointer (pointer_at p)) w) e
      follows_found b found.Null = ap (λ c. follows_to c (pointer null_pointer) w) e

  pub member_given : (x : Typed) (a : NodeId) (offset : ℕ) (first v : Worth) → x ≡ typed.Member a offset → GivesAt w (λ b. Selects offset first) v → GivesWith u w t x first v
  member_given x a offset first v is h = subst (λ y. GivesWith u w t y first v) (sym is) (record {
    turns = λ turn. refl;
    gives = λ call bound sides zap line fs gs out es n hf hg. record {
      reads = hg;
      is = ap (λ r. then_do r (node_value (has_read fs gs))) (act_gives w out es n (setting_by u bound sides zap) line (Selects offset first) v (h (setting_by u bound sides zap)));
    };
  })

  pub arrow_given : (x : Typed) (a : NodeId) (offset : ℕ) (first v : Worth) → x ≡ typed.Arrow a offset → GivesAt w (λ b. Selects offset first) v → GivesWith u w t x first v
  arrow_given x a offset first v is h = subst (λ y. GivesWith u w t y first v) (sym is) (record {
    turns = λ turn. refl;
    gives = λ call bound sides zap line fs gs out es n hf hg. record {
      reads = hg;
      is = ap (λ r. then_do r (node_value (has_read fs gs))) (act_gives w out es n (setting_by u bound sides zap) line (Selects offset first) v (h (setting_by u bound sides zap)));
    };
  })

  pub not_given : (x : Typed) (a : NodeId) (first v : Worth) → x ≡ typed.Not a → GivesAt w (λ b. Negates first) v → GivesWith u w t x first v
  not_given x a first v is h = subst (λ y. GivesWith u w t y first v) (sym is) (record {
    turns = λ turn. refl;
    gives = λ call bound sides zap line fs gs out es n hf hg. record {
      reads = hg;
      is = ap (λ r. then_do r (node_value (has_read fs gs))) (act_gives w out es n (setting_by u bound sides zap) line (Negates first) v (h (setting_by u bound sides zap)));
    };
  })

  pub unary_given : (op : UnOp) (a : NodeId) (k : IntKind) (first operand v : Worth) → k ≡ kind_of t → IsConverted (expression_at u a) first operand → AlwaysGives (λ b. CalculatesOne op k operand) v → GivesWith u w t (typed.Unary op a) first v
  unary_given op a k first operand v e hx h = record {
    turns = λ turn. refl;
    gives = λ call bound sides zap line fs gs out es n hf hg.
        let b = setting_by u bound sides zap in
        let s = state_with w out es n in
        let j = has_read fs gs in
        record {
          reads = hg;
          is =
              ap (λ r. then_do r (λ v s. work b line (CalculatesOne op (kind_of t) v) j s)) (hx b w out es n)
              ∙ ap (λ (i : IntKind). work b line (CalculatesOne op i operand) j s) (sym e)
              ∙ ap (λ r. then_do r (node_value j)) (act_gives w out es n b line (CalculatesOne op k operand) v (h b w));
        };
  }

  pub cast_given : (a : NodeId) (from : Ty) (first v : Worth) → from ≡ type_of (expression_at u a) → AlwaysGives (λ b. Converts (how_to b false from t) first) v → GivesWith u w t (typed.Cast a) first v
  cast_given a from first v e h = record {
    turns = λ turn. refl;
    gives = λ call bound sides zap line fs gs out es n hf hg.
        let b = setting_by u bound sides zap in
        record {
          reads = hg;
          is =
              ap (λ r. then_do r (node_value (has_read fs gs)))
              (act_gives w out es n b line (Converts (how_to b false (type_of (expression_at u a)) t) first) v
              (ap (λ (s : Ty). does b (Converts (how_to b false s t) first) w) (sym e) ∙ h b w));
        };
  }

-- what is calculated of one operand that fits
pub calculated_one_some : (op : UnOp) (k : IntKind) (x z : ℤ) (r : Option ℤ) → is_promoted k ≡ true → fits_of k x ≡ true → unary_of op k x ≡ Ok z → IfSome r (λ q. q ≡ z) → IfSome r (λ q. AlwaysGives (λ b. CalculatesOne op k (int x)) (int q))
calculated_one_some op k x z None e f h i = tt
calculated_one_some op k x z (Some q) e f h i = λ b w.
    ap (λ c. if c then calculates_one op k (int x) w else Fails missing_value None w no_telling) (both_of (is_promoted k) (fits_of k x) e f)
    ∙ ap (arithmetic_result w) h
    ∙ ap (λ (n : ℤ). Answers (int n) w no_telling) (sym i)
