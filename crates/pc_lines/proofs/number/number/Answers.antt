-- A byte that is no digit, or a number that is too large, ends it.
use Rattle.std.proofs.Common.{◌≡◌, ◌+◌, ◌-◌, ◌*◌, get_or, sym, subst, arith}
use Rattle.pc_lines.proofs.DecimalLemmas.{Front, AllDigits-other, Front-more, Front-large, Front-all}
use Rattle.pc_lines.proofs.number.number.Goals as goal

pub returns-then-not-is_ascii_digit : goal.returns-then-not-is_ascii_digit
returns-then-not-is_ascii_digit c = λ given. AllDigits-other c.args.digits.now c.loop-digit.digit-index c.loop-digit-test.true (sym c.if-not-is_ascii_digit.ensures.value) given.0

pub returns-in_err-checked_mul : goal.returns-in_err-checked_mul
returns-in_err-checked_mul c =
    let digit = sym c.if-not-is_ascii_digit.ensures.value in
    rw c.from_residual.ensures (λ given.
    Front-large c.args.digits.now c.loop-digit.digit-index c.loop-digit.number c.loop-digit-test.true digit c.loop-digit.invariant (λ fits. c.in_err-checked_mul.ensures (omega arith)) given.1)

pub returns-in_err-number : goal.returns-in_err-number
returns-in_err-number c =
    let digit = sym c.if-not-is_ascii_digit.ensures.value in
    rw c.from_residual-in_err-number.ensures (λ given.
    Front-large c.args.digits.now c.loop-digit.digit-index c.loop-digit.number c.loop-digit-test.true digit c.loop-digit.invariant
    (λ fits. c.in_err-number.ensures (omega (arith, c.in_ok-checked_mul.ensures, c.from.ensures))) given.1)

pub loop-digit-preserved : goal.loop-digit-preserved
loop-digit-preserved c =
    let digit = sym c.if-not-is_ascii_digit.ensures.value in
    let next : c.loop-digit.number * 10 + (get_or c.args.digits.now c.loop-digit.digit-index 0 - 48) ≡ c.in_ok-number.number = omega (arith, c.in_ok-number.ensures, c.in_ok-checked_mul.ensures, c.from.ensures) in
    subst (λ n. Front c.args.digits.now (c.loop-digit.digit-index + 1) n) next
    (Front-more c.args.digits.now c.loop-digit.digit-index c.loop-digit.number c.loop-digit-test.true digit c.loop-digit.invariant (omega (arith, c.in_ok-number.ensures, next)))

pub returns : goal.returns
returns c = Front-all c.args.digits.now c.loop-digit.digit-index c.loop-digit.number c.loop-digit-test.false c.loop-digit.invariant
