-- A byte that is no percent sign stands for itself, if it is plain.
use Rattle.std.proofs.Common.{◌-◌, length, get_or, take, drop, ap, sym, ◌∙◌}
use Rattle.std.specs.Prelude.{Some, None, if◌then◌else◌}
use Rattle.pc_lines.specs.Escape.{onto, unescaped_of}
use Rattle.pc_lines.proofs.EscapeLemmas.{unescaped_of-at_other}
use Rattle.pc_lines.proofs.escape.first_byte.Goals as goal

pub returns-then-is_plain-clause-first : goal.returns-then-is_plain-clause-first
returns-then-is_plain-clause-first c =
    let word = c.args.word.now in
    unescaped_of-at_other word c.requires c.if-first-eq37.false ∙ ap (λ plain. onto (if plain then Some (get_or word 0 0) else None) (unescaped_of (take (length word - 1) (drop 1 word)))) (sym c.if-is_plain.ensures)

pub returns-else-is_plain-clause-none : goal.returns-else-is_plain-clause-none
returns-else-is_plain-clause-none c =
    let word = c.args.word.now in
    unescaped_of-at_other word c.requires c.if-first-eq37.false ∙ ap (λ plain. onto (if plain then Some (get_or word 0 0) else None) (unescaped_of (take (length word - 1) (drop 1 word)))) (sym c.if-is_plain.ensures)
