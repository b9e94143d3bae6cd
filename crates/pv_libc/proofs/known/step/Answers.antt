use Rattle.std.proofs.Common.{◌≡◌, ℕ, ◌+◌, ◌-◌, ◌/◌, ◌%◌, ◌<◌, sym, ap, ◌∙◌, subst, arith}
use Rattle.std.proofs.Math.Nat.{min-eq_left}
use Rattle.pv_shadow.specs.Readings.{HasDigits}
use Rattle.pv_libc.specs.declared.values.Given.{Given}
use Rattle.pv_libc.specs.declared.known.Digits.{Digits}
use Rattle.pv_libc.specs.Ahead.{GivesAt}
use Rattle.pv_libc.proofs.Ahead.{gives_at, first_digit, other_digits}
use Rattle.pv_libc.proofs.known.step.Goals as goal

pub known_from-requires-clause-known : goal.known_from-requires-clause-known
known_from-requires-clause-known c =
    let e : c.further-at.result.pointer.address ≡ c.args.given.pointer.address + c.args.i = ap (λ (f : Given). f.pointer.address) c.further-at.ensures ∙ min-eq_left (omega (arith, c.requires.room.far, c.requires.here)) in
    subst (λ (q : ℕ). HasDigits c.args.memory.now.bytes q c.args.known.count c.args.known.number) (sym e) c.requires.known

pub returns-clause-character : goal.returns-clause-character
returns-clause-character c =
    let M = c.args.memory.now in
    let here = c.in_ok-here.here in
    let a = c.args.given.pointer.address + c.args.i in
    let e : c.further-at.result.pointer.address ≡ a = ap (λ (f : Given). f.pointer.address) c.further-at.ensures ∙ min-eq_left (omega (arith, c.requires.room.far, c.requires.here)) in
    let digits = subst (λ (q : ℕ). HasDigits M.bytes q here.count here.number) e c.in_ok-here.ensures.known in
    let small : here.number % 256 < 256 = omega arith in
    subst (λ (v : ℕ). GivesAt M c.args.given c.args.i v) (sym c.first.ensures)
    (gives_at M c.args.given c.args.few c.args.i (here.number % 256) c.requires.told c.requires.room c.requires.here small (first_digit M.bytes a here.count here.number c.in_ok-here.ensures.some digits))

pub returns-clause-behind : goal.returns-clause-behind
returns-clause-behind c =
    let M = c.args.memory.now in
    let here = c.in_ok-here.here in
    let a = c.args.given.pointer.address + c.args.i in
    let e : c.further-at.result.pointer.address ≡ a = ap (λ (f : Given). f.pointer.address) c.further-at.ensures ∙ min-eq_left (omega (arith, c.requires.room.far, c.requires.here)) in
    let digits = subst (λ (q : ℕ). HasDigits M.bytes q here.count here.number) e c.in_ok-here.ensures.known in
    let next : a + 1 ≡ c.args.given.pointer.address + (c.args.i + 1) = omega arith in
    subst (λ (r : Digits). HasDigits M.bytes (c.args.given.pointer.address + (c.args.i + 1)) r.count r.number) (sym c.rest.ensures)
    (subst (λ (q : ℕ). HasDigits M.bytes q (here.count - 1) (here.number / 256)) next (other_digits M.bytes a here.count here.number digits))
