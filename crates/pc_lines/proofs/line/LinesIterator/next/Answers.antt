-- The line ends at the first line feed.
use Rattle.std.proofs.Common.{sym, ◌∙◌, arith}
use Rattle.std.proofs.lemmas.Bool.{eqb-false}
use Rattle.pc_lines.proofs.PieceLemmas.{goes_on, lines_of-step}
use Rattle.pc_lines.proofs.line.LinesIterator.next.Goals as goal

pub returns-clause-steps : goal.returns-clause-steps
returns-clause-steps c =
    sym c.self.view_is
    ∙ lines_of-step c.self.inside.rest.now c.cut.result.0.now c.cut.result.1.now (omega (arith, eqb-false _ 0 (sym c.if-is_empty.ensures))) c.cut.ensures.before c.cut.ensures.after

pub returns-clause-goes : goal.returns-clause-goes
returns-clause-goes c = goes_on _ (λ _. tt) _ c.cut.result.0.now _ c.cut.result.0 (returns-clause-steps c)
