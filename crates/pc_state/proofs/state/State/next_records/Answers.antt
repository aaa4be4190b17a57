-- The next records are those that are left of the log, up to what presses.
use Rattle.std.proofs.Common.{◌-◌, ap, sym, ◌∙◌}
use Rattle.std.specs.Prelude.{◌^◌, unwrap_or}
use Rattle.pc_cursor.specs.declared.cursor.Cursor.{Cursor}
use Rattle.pc_state.proofs.QueryLemmas.{are-next, first-few, next-taken}
use Rattle.pc_state.proofs.state.State.next_records.Goals as goal

pub returns-clause-next : goal.returns-clause-next
returns-clause-next c = λ given h knows held.
    c.new.ensures.left ∙ next-taken given h c.args.part c.args.max c.unwrap_or-upto.result
    c.again.result.left knows.legal held
    ((c.in_ok-held.ensures.knows given h knows).1.unpolled ∙ ap (λ (x : Cursor). x.left) (sym c.again.ensures))
    (c.unwrap_or-upto.ensures ∙ ap (λ o. unwrap_or o (2 ^ 64 - 1)) (c.pressing.ensures given h knows held))

pub returns-clause-are : goal.returns-clause-are
returns-clause-are c = λ given h knows held.
    are-next c.args.max c.unwrap_or-upto.result _ c.again.result.left c.new.result.left
    ((c.in_ok-held.ensures.knows given h knows).1.unpolled ∙ ap (λ (x : Cursor). x.left) (sym c.again.ensures))
    c.new.ensures.left

pub returns-clause-log : goal.returns-clause-log
returns-clause-log c = λ given h knows held. c.new.ensures.log ∙ ap (λ (x : Cursor). x.left) c.again.ensures
    ∙ sym (c.in_ok-held.ensures.knows given h knows).1.unpolled

pub returns-clause-few : goal.returns-clause-few
returns-clause-few c = let few = first-few c.args.max c.unwrap_or-upto.result c.again.result.left in
    rw c.new.ensures.left few
