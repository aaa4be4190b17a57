-- Leading spaces give no word, and the word ends at the next space.
use Rattle.std.proofs.Common.{◌≡◌, [], Some, None, position, sym, ◌∙◌}
use Rattle.std.proofs.lemmas.List.{take_rest}
use Rattle.pc_lines.proofs.PieceLemmas.{is_other, goes_on, words_of-step, words_of-none}
use Rattle.pc_lines.proofs.word.WordsIterator.next.Goals as goal

pub returns-in_err-start-clause-steps : goal.returns-in_err-start-clause-steps
returns-in_err-start-clause-steps c =
    let absent : position is_other c.self.inside.rest.now ≡ None = sym c.in_err-start.ensures in
    let none : c.args.self.now ≡ [] = sym c.self.view_is ∙ words_of-none c.self.inside.rest.now absent in
    rw c.from_residual.ensures (none, none)

pub returns-clause-steps : goal.returns-clause-steps
returns-clause-steps c =
    let line = c.self.inside.rest.now in
    let found : position is_other line ≡ Some c.in_ok-start.start = sym c.in_ok-start.ensures in
    let behind = take_rest line c.in_ok-start.start in
    sym c.self.view_is ∙ words_of-step line c.in_ok-start.start c.cut.result.0.now c.cut.result.1.now found (rw behind at c.cut.ensures.before) (rw behind at c.cut.ensures.after)

pub returns-clause-goes : goal.returns-clause-goes
returns-clause-goes c = goes_on _ (λ _. tt) _ c.cut.result.0.now _ c.cut.result.0 (returns-clause-steps c)
