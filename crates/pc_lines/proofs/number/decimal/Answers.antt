-- The empty word and a leading zero apart, the digits say it all.
use Rattle.std.proofs.Common.{◌<◌, length, sym, ap, ◌∙◌, arith}
use Rattle.std.proofs.lemmas.Bool.{eqb-true, eqb-false}
use Rattle.std.proofs.lemmas.List.{nil_from_length}
use Rattle.pc_lines.specs.Decimal.{number_of}
use Rattle.pc_lines.proofs.DecimalLemmas.{number_of-digits, number_of-leading_zero, number_of-zero, number_of-empty}
use Rattle.pc_lines.proofs.number.decimal.Goals as goal

pub returns-then-is_empty : goal.returns-then-is_empty
returns-then-is_empty c = sym (ap number_of (nil_from_length c.args.word.now (eqb-true _ 0 (sym c.if-is_empty.ensures))) ∙ number_of-empty)

pub returns-then-word-eq1 : goal.returns-then-word-eq1
returns-then-word-eq1 c = sym (number_of-zero c.args.word.now c.if-word-eq1.true c.if-word-eq48.true)

pub returns-else-word-eq1 : goal.returns-else-word-eq1
returns-else-word-eq1 c = sym (number_of-leading_zero c.args.word.now (omega (arith, eqb-false _ 0 (sym c.if-is_empty.ensures))) c.if-word-eq48.true)

pub returns : goal.returns
returns c =
    let some : 0 < length c.args.word.now = omega (arith, eqb-false _ 0 (sym c.if-is_empty.ensures)) in
    sym c.ok_or.ensures.ok_part ∙ number_of-digits c.args.word.now c.number.result some (λ zero. absurd (c.if-word-eq48.false zero)) c.number.ensures
