-- Two digits behind a percent sign, or nothing.
use Rattle.std.proofs.Common.{◌≡◌, ◌∷◌, None, drop, sym, ap, ◌∙◌}
use Rattle.std.proofs.lemmas.List.{take_rest}
use Rattle.pc_lines.specs.Escape.{onto, unescaped_of}
use Rattle.pc_lines.proofs.EscapeLemmas.{unescaped_of-cut, unescaped_of-at_code}
use Rattle.pc_lines.proofs.escape.byte_of_code.Goals as goal

pub returns-then-rest-lt2-clause-none : goal.returns-then-rest-lt2-clause-none
returns-then-rest-lt2-clause-none c = unescaped_of-cut c.args.rest.now c.if-rest-lt2.true

pub returns-in_err-byte-clause-none : goal.returns-in_err-byte-clause-none
returns-in_err-byte-clause-none c =
    let rest = c.args.rest.now in
    let none : unescaped_of (37 ∷ rest) ≡ None = unescaped_of-at_code rest c.if-rest-lt2.false ∙ ap (λ byte. onto byte (unescaped_of (drop 2 rest))) (sym c.in_err-byte.ensures) in
    rw c.from_residual.ensures none

pub returns-clause-first : goal.returns-clause-first
returns-clause-first c =
    let rest = c.args.rest.now in
    rw (take_rest rest 2) (unescaped_of-at_code rest c.if-rest-lt2.false ∙ ap (λ byte. onto byte (unescaped_of (drop 2 rest))) (sym c.in_ok-byte.ensures))
