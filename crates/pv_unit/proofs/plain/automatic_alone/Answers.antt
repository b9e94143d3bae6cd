use Rattle.std.proofs.Common.{rules, ◌≡◌, ◌<◌, ◌≤◌, ◌∙◌, sym, length, Some, None, true, false, arith}
use Rattle.pv_check.specs.Open.{state_of}
use Rattle.pv_check.specs.Raw.{raw_innermost}
use Rattle.pv_unit.proofs.Automatic.{what_at, there_at, known_at, inner_names, rest_next, has_tag, has_other, all_are}
use Rattle.pv_unit.proofs.plain.automatic_alone.Goals as goal

pub is_automatic-requires-clause-known : goal.is_automatic-requires-clause-known
is_automatic-requires-clause-known c =
    let is : Some c.in-Some.what ≡ what_at (raw_innermost c.args.s.now.scopes).names c.loop-i.i = search rules in
    known_at c.args.into.now (raw_innermost c.args.s.now.scopes).names c.loop-i.i c.in-Some.what (inner_names c.args.into.now c.args.s.now c.requires) is

pub returns-in_default : goal.returns-in_default
returns-in_default c = λ texts.
    let is : None ≡ what_at (raw_innermost c.args.s.now.scopes).names c.loop-i.i = search rules in
    let bound = c.bound-i-end.ensures in
    has_tag texts c.args.into.now c.args.s.now c.loop-i.i c.requires is (omega (arith, bound))

pub returns-then-not-is_automatic : goal.returns-then-not-is_automatic
returns-then-not-is_automatic c = λ texts.
    let is : Some c.in-Some.what ≡ what_at (raw_innermost c.args.s.now.scopes).names c.loop-i.i = search rules in
    let no : c.is_automatic.result ≡ false = search rules in
    has_other texts c.args.into.now c.args.s.now c.loop-i.i c.in-Some.what c.requires is (sym (c.is_automatic.ensures texts) ∙ no) (c.loop-i.invariant.1 texts)

pub loop-i-preserved : goal.loop-i-preserved
loop-i-preserved c =
    let names = (raw_innermost c.args.s.now.scopes).names in
    let is : Some c.in-Some.what ≡ what_at names c.loop-i.i = search rules in
    let yes : c.is_automatic.result ≡ true = search rules in
    let lt : c.loop-i.i < length names = there_at names c.loop-i.i c.in-Some.what is in
    (omega (arith, lt), λ texts. rest_next (state_of texts false c.args.s.now c.args.into.now) c.args.into.now.known names c.loop-i.i c.in-Some.what is (sym (c.is_automatic.ensures texts) ∙ yes) ∙ c.loop-i.invariant.1 texts)

pub returns : goal.returns
returns c = λ texts.
    let within : c.loop-i.i ≤ length (raw_innermost c.args.s.now.scopes).names = c.loop-i.invariant.0 in
    let bound = c.bound-i-end.ensures in
    all_are texts c.args.into.now c.args.s.now c.loop-i.i c.requires within (omega (arith, bound)) (c.loop-i.invariant.1 texts)
