use Rattle.std.proofs.Common.{◌≡◌, true, false, sym, ap, arith, ◌∙◌, rules}
use Rattle.std.specs.Prelude.{if◌then◌else◌, Bool}
use Rattle.pv_check.specs.declared.scopes.Entry.TheVariants as entry
use Rattle.pv_check.specs.Raw.{with_name}
use Rattle.pv_check.proofs.Opening.{open_goes}
use Rattle.pv_check.proofs.ParameterRows.{name_is_there, name_declared, open_named}
use Rattle.pv_check.proofs.parameters.named_parameter.Goals as goal

pub returns-then-not-branch-clause-answer : goal.returns-then-not-branch-clause-answer
returns-then-not-branch-clause-answer c = λ texts u ps.
    let no : c.in_ok-declare.field-0 ≡ false = search rules in
    name_is_there texts u c.args.into.now c.parameter_object.new.into c.args.s.now c.declare.new.self c.args.n c.args.line c.args.t ps c.in_ok-o.o c.requires.opened c.in_ok-o.ensures.number
    (sym no ∙ c.in_ok-declare.ensures.fresh)

pub returns-clause-opened : goal.returns-clause-opened
returns-clause-opened c =
    let yes : c.in_ok-declare.field-0 ≡ true = search rules in
    let e : c.declare.new.self ≡ with_name c.args.s.now c.args.n (entry.Object c.in_ok-o.o) =
    c.in_ok-declare.ensures.declared ∙ ap (λ (b : Bool). if b then with_name c.args.s.now c.args.n (entry.Object c.in_ok-o.o) else c.args.s.now) yes in
    let number = c.in_ok-o.ensures.number in
    let more = c.in_ok-o.ensures.more in
    open_named c.parameter_object.new.into c.args.s.now c.declare.new.self c.args.n (entry.Object c.in_ok-o.o) (open_goes c.args.into.now c.parameter_object.new.into c.args.s.now c.requires.opened c.in_ok-o.ensures.goes)
    (omega (arith, number, more)) e

pub returns-clause-answer : goal.returns-clause-answer
returns-clause-answer c = λ texts u ps.
    let yes : c.in_ok-declare.field-0 ≡ true = search rules in
    let e : c.declare.new.self ≡ with_name c.args.s.now c.args.n (entry.Object c.in_ok-o.o) =
    c.in_ok-declare.ensures.declared ∙ ap (λ (b : Bool). if b then with_name c.args.s.now c.args.n (entry.Object c.in_ok-o.o) else c.args.s.now) yes in
    name_declared texts u c.args.into.now c.parameter_object.new.into c.args.s.now c.declare.new.self c.args.n c.args.line c.args.t ps c.in_ok-o.o c.requires.opened c.in_ok-o.ensures.number
    (sym yes ∙ c.in_ok-declare.ensures.fresh) e c.in_ok-o.ensures.types c.in_ok-o.ensures.whole
