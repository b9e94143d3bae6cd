use Rattle.std.proofs.Common.{rules, ◌≡◌, ℕ, ◌≤◌, ◌<◌, ◌+◌, ◌-◌, ◌/◌, sym, ap, ◌∙◌, arith}
use Rattle.pv_libc.specs.Ahead.{sign_or, digits_or}
use Rattle.pv_libc.proofs.Rows.{digits_on, digits_done}
use Rattle.pv_libc.proofs.known.deciding_digits.Goals as goal

pub loop-i-init : goal.loop-i-init
loop-i-init c = λ rest.
    let all : c.args.n - 0 ≡ c.args.n = omega arith in
    ap (λ (k : ℕ). sign_or c.args.before.left c.args.before.right (digits_or k c.args.x c.args.y rest)) all

pub loop-i-preserved : goal.loop-i-preserved
loop-i-preserved c = λ rest.
    let n = c.args.n in
    let i = c.loop-i.i in
    let left = c.loop-i.left in
    let right = c.loop-i.right in
    let decided = c.loop-i.decided in
    let before : i < n = search rules in
    c.deciding-decided.ensures (digits_or (n - (i + 1)) (left / 256) (right / 256) rest)
    ∙ ap (sign_or decided.left decided.right) (sym (digits_on n i left right rest before))
    ∙ c.loop-i.invariant rest

pub returns : goal.returns
returns c = λ rest.
    let n = c.args.n in
    let i = c.loop-i.i in
    let decided = c.loop-i.decided in
    let over : n ≤ i = omega arith in
    ap (sign_or decided.left decided.right) (sym (digits_done n i c.loop-i.left c.loop-i.right rest over)) ∙ c.loop-i.invariant rest
