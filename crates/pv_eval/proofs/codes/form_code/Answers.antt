use Rattle.std.proofs.Common.{◌∙◌, ap, sym, subst, FitsSigned, rules, ℤ, w64}
use Rattle.std.proofs.lemmas.Int.{to_z-of_z}
use Rattle.pv_typed.specs.TypedTree.{type_of}
use Rattle.pv_typed.specs.TypedUnits.{TypedObject}
use Rattle.pv_typed.specs.Children.{operands}
use Rattle.pv_typed.specs.NodeTrees.{expression_at}
use Rattle.pv_eval.specs.declared.codes.Code.TheVariants as code
use Rattle.pv_eval.specs.Plainly.{form_by, found_worth}
use Rattle.pv_eval.specs.Codes.{IsCode}
use Rattle.pv_eval.specs.Ahead.{first_operand_of}
use Rattle.pv_eval.proofs.PlainCodes.{one_before, two_before}
use Rattle.pv_eval.proofs.PlainNumbers.{array_given, address_given, convert_given, member_given, arrow_given}
use Rattle.pv_eval.proofs.codes.form_code.Goals as goal

pub returns-in-Constant : goal.returns-in-Constant
returns-in-Constant c =
    let u = c.args.unit.now in
    let f : FitsSigned w64 c.in-Constant.k = search rules in
    subst (λ (z : ℤ). IsCode u c.args.n (code.Number z)) (sym (to_z-of_z w64 c.in-Constant.k f)) (c.requires.form ∙ ap (form_by u) c.in-Constant.is)

pub returns-in-Object : goal.returns-in-Object
returns-in-Object c = (c.requires.form ∙ ap (form_by c.args.unit.now) c.in-Object.is, ap (λ (x : TypedObject). x.lasting) c.object.ensures.object)

pub returns-in-ArrayPointer : goal.returns-in-ArrayPointer
returns-in-ArrayPointer c = record {
  node = c.args.x;
  form = c.requires.form;
  operand = ap first_operand_of c.in-ArrayPointer.is;
  before = one_before c.args.unit.now c.args.n c.in-ArrayPointer.a c.args.x c.requires.there c.requires.operands (ap operands c.in-ArrayPointer.is);
  gives = λ w v. array_given c.args.unit.now w (type_of (expression_at c.args.unit.now c.args.n)) c.args.x c.in-ArrayPointer.a (found_worth v) c.in-ArrayPointer.is;
}

pub returns-in-Address : goal.returns-in-Address
returns-in-Address c = record {
  node = c.args.x;
  form = c.requires.form;
  operand = ap first_operand_of c.in-Address.is;
  before = one_before c.args.unit.now c.args.n c.in-Address.a c.args.x c.requires.there c.requires.operands (ap operands c.in-Address.is);
  gives = λ w v. address_given c.args.unit.now w (type_of (expression_at c.args.unit.now c.args.n)) c.args.x c.in-Address.a (found_worth v) c.in-Address.is;
}

pub returns-in-Convert : goal.returns-in-Convert
returns-in-Convert c = record {
  node = c.args.x;
  form = c.requires.form;
  operand = ap first_operand_of c.in-Convert.is;
  before = one_before c.args.unit.now c.args.n c.in-Convert.a c.args.x c.requires.there c.requires.operands (ap operands c.in-Convert.is);
  gives = λ w v. convert_given c.args.unit.now w (type_of (expression_at c.args.unit.now c.args.n)) c.args.x c.in-Convert.a (found_worth v) c.in-Convert.is;
}

pub returns-in-Member : goal.returns-in-Member
returns-in-Member c = record {
  node = c.args.x;
  form = c.requires.form;
  operand = ap first_operand_of c.in-Member.is;
  before = one_before c.args.unit.now c.args.n c.in-Member.a c.args.x c.requires.there c.requires.operands (ap operands c.in-Member.is);
  gives = λ w first v h. member_given c.args.unit.now w (type_of (expression_at c.args.unit.now c.args.n)) c.args.x c.in-Member.a c.in-Member.offset first v c.in-Member.is h;
}

pub returns-in-Arrow : goal.returns-in-Arrow
returns-in-Arrow c = record {
  node = c.args.x;
  form = c.requires.form;
  operand = ap first_operand_of c.in-Arrow.is;
  before = one_before c.args.unit.now c.args.n c.in-Arrow.a c.args.x c.requires.there c.requires.operands (ap operands c.in-Arrow.is);
  gives = λ w first v h. arrow_given c.args.unit.now w (type_of (expression_at c.args.unit.now c.args.n)) c.args.x c.in-Arrow.a c.in-Arrow.offset first v c.in-Arrow.is h;
}

pub followed_code-requires-clause-operand : goal.followed_code-requires-clause-operand
followed_code-requires-clause-operand c = (one_before c.args.unit.now c.args.n c.in-Indirection.a c.args.x c.requires.there c.requires.operands (ap operands c.in-Indirection.is)).0

pub followed_code-requires-clause-less : goal.followed_code-requires-clause-less
followed_code-requires-clause-less c = (one_before c.args.unit.now c.args.n c.in-Indirection.a c.args.x c.requires.there c.requires.operands (ap operands c.in-Indirection.is)).1

pub followed_code-requires-clause-form : goal.followed_code-requires-clause-form
followed_code-requires-clause-form c = c.requires.form ∙ ap (form_by c.args.unit.now) c.in-Indirection.is

pub read_code-requires-clause-there : goal.read_code-requires-clause-there
read_code-requires-clause-there c = (one_before c.args.unit.now c.args.n c.in-Read.a c.args.x c.requires.there c.requires.operands (ap operands c.in-Read.is)).0

pub read_code-requires-clause-less : goal.read_code-requires-clause-less
read_code-requires-clause-less c = (one_before c.args.unit.now c.args.n c.in-Read.a c.args.x c.requires.there c.requires.operands (ap operands c.in-Read.is)).1

pub read_code-requires-clause-form : goal.read_code-requires-clause-form
read_code-requires-clause-form c = c.requires.form ∙ ap (form_by c.args.unit.now) c.in-Read.is

pub arithmetic_code-requires-clause-left : goal.arithmetic_code-requires-clause-left
arithmetic_code-requires-clause-left c = (two_before c.args.unit.now c.args.n c.in-Arithmetic.a c.in-Arithmetic.d c.args.x c.requires.there c.requires.operands (ap operands c.in-Arithmetic.is)).0.0

pub arithmetic_code-requires-clause-right : goal.arithmetic_code-requires-clause-right
arithmetic_code-requires-clause-right c = (two_before c.args.unit.now c.args.n c.in-Arithmetic.a c.in-Arithmetic.d c.args.x c.requires.there c.requires.operands (ap operands c.in-Arithmetic.is)).1.0

pub arithmetic_code-requires-clause-first : goal.arithmetic_code-requires-clause-first
arithmetic_code-requires-clause-first c = (two_before c.args.unit.now c.args.n c.in-Arithmetic.a c.in-Arithmetic.d c.args.x c.requires.there c.requires.operands (ap operands c.in-Arithmetic.is)).0.1

pub arithmetic_code-requires-clause-second : goal.arithmetic_code-requires-clause-second
arithmetic_code-requires-clause-second c = (two_before c.args.unit.now c.args.n c.in-Arithmetic.a c.in-Arithmetic.d c.args.x c.requires.there c.requires.operands (ap operands c.in-Arithmetic.is)).1.1

pub arithmetic_code-requires-clause-form : goal.arithmetic_code-requires-clause-form
arithmetic_code-requires-clause-form c = c.requires.form ∙ ap (form_by c.args.unit.now) c.in-Arithmetic.is

pub element_code-requires-clause-left : goal.element_code-requires-clause-left
element_code-requires-clause-left c = (two_before c.args.unit.now c.args.n c.in-Subscript.a c.in-Subscript.d c.args.x c.requires.there c.requires.operands (ap operands c.in-Subscript.is)).0.0

pub element_code-requires-clause-right : goal.element_code-requires-clause-right
element_code-requires-clause-right c = (two_before c.args.unit.now c.args.n c.in-Subscript.a c.in-Subscript.d c.args.x c.requires.there c.requires.operands (ap operands c.in-Subscript.is)).1.0

pub element_code-requires-clause-first : goal.element_code-requires-clause-first
element_code-requires-clause-first c = (two_before c.args.unit.now c.args.n c.in-Subscript.a c.in-Subscript.d c.args.x c.requires.there c.requires.operands (ap operands c.in-Subscript.is)).0.1

pub element_code-requires-clause-second : goal.element_code-requires-clause-second
element_code-requires-clause-second c = (two_before c.args.unit.now c.args.n c.in-Subscript.a c.in-Subscript.d c.args.x c.requires.there c.requires.operands (ap operands c.in-Subscript.is)).1.1

pub element_code-requires-clause-form : goal.element_code-requires-clause-form
element_code-requires-clause-form c = c.requires.form ∙ ap (form_by c.args.unit.now) c.in-Subscript.is

pub sum_code-requires-clause-left : goal.sum_code-requires-clause-left
sum_code-requires-clause-left c = (two_before c.args.unit.now c.args.n c.in-PointerSum.a c.in-PointerSum.d c.args.x c.requires.there c.requires.operands (ap operands c.in-PointerSum.is)).0.0

pub sum_code-requires-clause-right : goal.sum_code-requires-clause-right
sum_code-requires-clause-right c = (two_before c.args.unit.now c.args.n c.in-PointerSum.a c.in-PointerSum.d c.args.x c.requires.there c.requires.operands (ap operands c.in-PointerSum.is)).1.0

pub sum_code-requires-clause-first : goal.sum_code-requires-clause-first
sum_code-requires-clause-first c = (two_before c.args.unit.now c.args.n c.in-PointerSum.a c.in-PointerSum.d c.args.x c.requires.there c.requires.operands (ap operands c.in-PointerSum.is)).0.1

pub sum_code-requires-clause-second : goal.sum_code-requires-clause-second
sum_code-requires-clause-second c = (two_before c.args.unit.now c.args.n c.in-PointerSum.a c.in-PointerSum.d c.args.x c.requires.there c.requires.operands (ap operands c.in-PointerSum.is)).1.1

pub sum_code-requires-clause-form : goal.sum_code-requires-clause-form
sum_code-requires-clause-form c = c.requires.form ∙ ap (form_by c.args.unit.now) c.in-PointerSum.is

pub assigned_code-requires-clause-left : goal.assigned_code-requires-clause-left
assigned_code-requires-clause-left c = (two_before c.args.unit.now c.args.n c.in-Assign.a c.in-Assign.d c.args.x c.requires.there c.requires.operands (ap operands c.in-Assign.is)).0.0

pub assigned_code-requires-clause-right : goal.assigned_code-requires-clause-right
assigned_code-requires-clause-right c = (two_before c.args.unit.now c.args.n c.in-Assign.a c.in-Assign.d c.args.x c.requires.there c.requires.operands (ap operands c.in-Assign.is)).1.0

pub assigned_code-requires-clause-second : goal.assigned_code-requires-clause-second
assigned_code-requires-clause-second c = (two_before c.args.unit.now c.args.n c.in-Assign.a c.in-Assign.d c.args.x c.requires.there c.requires.operands (ap operands c.in-Assign.is)).1.1

pub assigned_code-requires-clause-form : goal.assigned_code-requires-clause-form
assigned_code-requires-clause-form c = c.requires.form ∙ ap (form_by c.args.unit.now) c.in-Assign.is

pub compound_code-requires-clause-left : goal.compound_code-requires-clause-left
compound_code-requires-clause-left c = (two_before c.args.unit.now c.args.n c.in-CompoundAssign.a c.in-CompoundAssign.d c.args.x c.requires.there c.requires.operands (ap operands c.in-CompoundAssign.is)).0.0

pub compound_code-requires-clause-right : goal.compound_code-requires-clause-right
compound_code-requires-clause-right c = (two_before c.args.unit.now c.args.n c.in-CompoundAssign.a c.in-CompoundAssign.d c.args.x c.requires.there c.requires.operands (ap operands c.in-CompoundAssign.is)).1.0

pub compound_code-requires-clause-second : goal.compound_code-requires-clause-second
compound_code-requires-clause-second c = (two_before c.args.unit.now c.args.n c.in-CompoundAssign.a c.in-CompoundAssign.d c.args.x c.requires.there c.requires.operands (ap operands c.in-CompoundAssign.is)).1.1

pub compound_code-requires-clause-form : goal.compound_code-requires-clause-form
compound_code-requires-clause-form c = c.requires.form ∙ ap (form_by c.args.unit.now) c.in-CompoundAssign.is

pub increment_code-requires-clause-left : goal.increment_code-requires-clause-left
increment_code-requires-clause-left c = (one_before c.args.unit.now c.args.n c.in-Increment.a c.args.x c.requires.there c.requires.operands (ap operands c.in-Increment.is)).0

pub increment_code-requires-clause-form : goal.increment_code-requires-clause-form
increment_code-requires-clause-form c = c.requires.form ∙ ap (form_by c.args.unit.now) c.in-Increment.is
