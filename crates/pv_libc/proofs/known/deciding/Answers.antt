use Rattle.std.proofs.Common.{rules, ◌≡◌, eqb, cond, true, false, sym, ap, ◌∙◌}
use Rattle.pv_libc.specs.Blocks.{sign_of}
use Rattle.pv_libc.specs.Ahead.{sign_or}
use Rattle.pv_libc.proofs.Running.{equal_is}
use Rattle.pv_libc.proofs.known.deciding.Goals as goal

pub returns-then-a-b : goal.returns-then-a-b
returns-then-a-b c = λ rest.
    let a = c.args.before.left in
    let b = c.args.before.right in
    let differ : eqb a b ≡ false = search rules in
    ap (λ t. cond t rest (sign_of a b)) differ
    ∙ sym (ap (λ t. cond t (sign_or c.args.next.left c.args.next.right rest) (sign_of a b)) differ)

pub returns : goal.returns
returns c = λ rest.
    let a = c.args.before.left in
    let b = c.args.before.right in
    let same : eqb a b ≡ true = equal_is a b c.if-a-b.false in
    sym (ap (λ t. cond t (sign_or c.args.next.left c.args.next.right rest) (sign_of a b)) same)
