use Rattle.std.proofs.Common.{◌≡◌, ℤ, pos, ◌+ℤ◌, Bool, true, false, Some, sym, ap, subst, ◌∙◌, rules, FitsSigned, to_z, of_z, w32}
use Rattle.std.specs.Int.{w128}
use Rattle.std.proofs.lemmas.Int.{to_z-of_z}
use Rattle.std.specs.Prelude.{if◌then◌else◌}
use Rattle.pv_check.specs.declared.scopes.Entry.TheVariants as entry
use Rattle.pv_check.specs.Open.{state_of, IsOpen}
use Rattle.pv_check.specs.Raw.{Raw, with_name}
use Rattle.pv_check.specs.Tags.{may_enumerate}
use Rattle.pv_check.proofs.ParameterRows.{open_named}
use Rattle.pv_check.proofs.EnumeratorRows.{may_not, is_there, constant_after}
use Rattle.pv_check.proofs.enumerations.enumerated.Goals as goal

pub returns-then-not-may_enumerate-clause-answer : goal.returns-then-not-may_enumerate-clause-answer
returns-then-not-may_enumerate-clause-answer c = λ texts u.
    let st = state_of texts u c.args.s.now c.args.into.now in
    let e : to_z w128 (of_z w128 c.args.k) ≡ c.args.k = to_z-of_z w128 c.args.k c.ranges.k in
    let no : c.may_enumerate.result ≡ false = search rules in
    may_not c.args.n c.args.k st (sym no ∙ c.may_enumerate.ensures.value texts u ∙ ap (λ (z : ℤ). may_enumerate c.args.n z st) e)

pub returns-then-not-branch-clause-opened : goal.returns-then-not-branch-clause-opened
returns-then-not-branch-clause-opened c =
    let no : c.in_ok-declare.field-0 ≡ false = search rules in
    let same : c.declare.new.self ≡ c.args.s.now = c.in_ok-declare.ensures.declared ∙ ap (λ (b : Bool). if b then with_name c.args.s.now c.args.n (entry.Constant (to_z w32 (of_z w32 c.int_of.result))) else c.args.s.now) no in
    subst (λ (r : Raw). IsOpen c.args.into.now r) (sym same) c.requires.opened

pub returns-then-not-branch-clause-answer : goal.returns-then-not-branch-clause-answer
returns-then-not-branch-clause-answer c = λ texts u.
    let st = state_of texts u c.args.s.now c.args.into.now in
    let e : to_z w128 (of_z w128 c.args.k) ≡ c.args.k = to_z-of_z w128 c.args.k c.ranges.k in
    let yes : c.may_enumerate.result ≡ true = search rules in
    let no : c.in_ok-declare.field-0 ≡ false = search rules in
    is_there texts u c.args.into.now c.args.s.now c.args.n c.args.k c.requires.opened (sym yes ∙ c.may_enumerate.ensures.value texts u ∙ ap (λ (z : ℤ). may_enumerate c.args.n z st) e) (sym no ∙ c.in_ok-declare.ensures.fresh)

pub returns-clause-opened : goal.returns-clause-opened
returns-clause-opened c =
    let yes : c.in_ok-declare.field-0 ≡ true = search rules in
    let k : ℤ = to_z w32 (of_z w32 c.int_of.result) in
    open_named c.args.into.now c.args.s.now c.declare.new.self c.args.n (entry.Constant k) c.requires.opened tt
    (c.in_ok-declare.ensures.declared ∙ ap (λ (b : Bool). if b then with_name c.args.s.now c.args.n (entry.Constant k) else c.args.s.now) yes)

pub returns-clause-answer : goal.returns-clause-answer
returns-clause-answer c = λ texts u.
    let st = state_of texts u c.args.s.now c.args.into.now in
    let e : to_z w128 (of_z w128 c.args.k) ≡ c.args.k = to_z-of_z w128 c.args.k c.ranges.k in
    let f : FitsSigned w128 c.after_enumerator.result = search rules in
    let g : FitsSigned w32 c.int_of.result = search rules in
    let may : c.may_enumerate.result ≡ true = search rules in
    let yes : c.in_ok-declare.field-0 ≡ true = search rules in
    let is : c.declare.new.self ≡ with_name c.args.s.now c.args.n (entry.Constant c.args.k) =
    c.in_ok-declare.ensures.declared
    ∙ ap (λ (b : Bool). if b then with_name c.args.s.now c.args.n (entry.Constant (to_z w32 (of_z w32 c.int_of.result))) else c.args.s.now) yes
    ∙ ap (λ (z : ℤ). with_name c.args.s.now c.args.n (entry.Constant z)) (to_z-of_z w32 c.int_of.result g ∙ c.int_of.ensures ∙ e) in
    let next : to_z w128 (of_z w128 c.after_enumerator.result) ≡ c.args.k +ℤ pos 1 = to_z-of_z w128 c.after_enumerator.result f ∙ c.after_enumerator.ensures ∙ ap (λ (z : ℤ). z +ℤ pos 1) e in
    ap (λ (z : ℤ). Some (record { value = z; state = state_of texts u c.declare.new.self c.args.into.now })) next
    ∙ constant_after texts u c.args.into.now c.args.s.now c.args.n c.args.k c.requires.opened (sym may ∙ c.may_enumerate.ensures.value texts u ∙ ap (λ (z : ℤ). may_enumerate c.args.n z st) e) c.declare.new.self
    (sym yes ∙ c.in_ok-declare.ensures.fresh) is
