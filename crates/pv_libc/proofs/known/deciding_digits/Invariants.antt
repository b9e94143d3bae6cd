use Rattle.std.proofs.Common.{◌≡◌, ◌-◌, ℤ}
use Rattle.pv_libc.specs.Ahead.{sign_or, digits_or}
use Rattle.pv_libc.proofs.known.deciding_digits.Given as goal

-- what decides, or else the digits that are left, is what all digits come to
abbrev pub invariant-loop-i : goal.invariant-loop-i
invariant-loop-i l = (rest : ℤ) → sign_or l.decided.left l.decided.right (digits_or (l.n - l.i) l.left l.right rest) ≡ sign_or l.fn.before.left l.fn.before.right (digits_or l.n l.x l.y rest)
