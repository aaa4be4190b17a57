-- The pairs are the marks.
use Rattle.std.proofs.Common.{List, ap, ◌∙◌, subst}
use Rattle.pc_cursor.specs.Log.{contents_of, records_of}
use Rattle.pc_model.specs.Marks.{Mark}
use Rattle.pc_partition.specs.Window.{StandsFor, marks_of_pairs}
use Rattle.pc_commit.proofs.ResumeLemmas.{marks-of-pairs}
use Rattle.pc_commit.proofs.stored.resume.Goals as goal

pub returns-clause-state : goal.returns-clause-state
returns-clause-state c = subst (λ (marks : List Mark). StandsFor c.in_ok-start.field-0.window c.args.stored.now.position 0 marks)
    (ap marks_of_pairs (c.as_slice.ensures.value ∙ c.in_ok-pairs.ensures.pairs)
    ∙ marks-of-pairs c.args.stored.now (records_of (contents_of c.args.log.now)))
    c.in_ok-start.ensures
