use Rattle.std.proofs.Common.{◌≡◌, ◌-◌, ◌+◌, length, length-append, sym, ap, ◌∙◌, arith}
use Rattle.std.specs.Option.{option_map}
use Rattle.pv_token.specs.Said.{Text}
use Rattle.pv_lex.specs.Pieces.{or_bad, token}
use Rattle.pv_lex.specs.Characters.{string_literal}
use Rattle.pv_lex.proofs.Joining.{begins_byte, begins_other, characters_close, characters_none, characters_step, characters_end}
use Rattle.pv_lex.proofs.literals.string_literal.Goals as goal

pub returns-then-rest-eq34 : goal.returns-then-rest-eq34
unfolding string_literal
returns-then-rest-eq34 c =
    let e = characters_close c.loop-rest.out.items c.loop-rest.rest.now (length c.args.text.now - length c.loop-rest.out.items) _ (omega arith) (begins_byte 34 c.loop-rest.rest.now (omega arith) c.if-rest-eq34.true) c.loop-rest.invariant.reads in
    rw c.behind.ensures (ap (λ o. or_bad (option_map (λ x. token (Text x.0) x.1) o)) e)

pub returns-in-None : goal.returns-in-None
unfolding string_literal
returns-in-None c =
    let e = characters_none c.loop-rest.out.items c.loop-rest.rest.now (length c.args.text.now - length c.loop-rest.out.items) _ (omega arith) (begins_other 34 c.loop-rest.rest.now (omega arith) c.if-rest-eq34.false) (sym c.in-None.ensures.value) c.loop-rest.invariant.reads in
    ap (λ o. or_bad (option_map (λ x. token (Text x.0) x.1) o)) e

pub loop-rest-preserved : goal.loop-rest-preserved
loop-rest-preserved c =
    let pushed = c.in_ok-push-in-Some.ensures.items in
    let e = characters_step c.loop-rest.out.items c.loop-rest.rest.now (length c.args.text.now - length c.loop-rest.out.items) _ c.in-Some.b c.in-Some.after.now (omega arith) (begins_other 34 c.loop-rest.rest.now (omega arith) c.if-rest-eq34.false) (sym c.in-Some.ensures.value) c.loop-rest.invariant.reads in
    let len : length c.push.new.self.items ≡ length c.loop-rest.out.items + 1 = ap length pushed ∙ simp (length-append) (omega arith) in
    let k : length c.args.text.now - length c.push.new.self.items ≡ length c.args.text.now - length c.loop-rest.out.items - 1 = omega (arith, len) in
    record { room = omega (arith, len, c.in-Some.ensures.shorter); reads = rw (k, pushed) e }

pub returns : goal.returns
unfolding string_literal
returns c =
    let e = characters_end c.loop-rest.out.items c.loop-rest.rest.now (length c.args.text.now - length c.loop-rest.out.items) _ (omega arith) c.loop-rest.invariant.reads in
    ap (λ o. or_bad (option_map (λ x. token (Text x.0) x.1) o)) e
