use Rattle.std.proofs.Common.{ℕ, sym, ap, ◌∙◌}
use Rattle.pv_libc.specs.Ahead.{sign_or, digits_or}
use Rattle.pv_libc.proofs.Rows.{digits_same}
use Rattle.pv_libc.proofs.known.deciding_number.Goals as goal

pub returns-then-x-y : goal.returns-then-x-y
returns-then-x-y c = λ rest.
    let a = c.args.before.left in
    let b = c.args.before.right in
    let x = c.args.x in
    ap (sign_or a b) (sym (digits_same c.args.n x rest) ∙ ap (λ (y : ℕ). digits_or c.args.n x y rest) c.if-x-y.true)
