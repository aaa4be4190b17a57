-- The logs are those of the texts.
use Rattle.std.proofs.Common.{◌∙◌, List, map, ap, sym}
use Rattle.pc_inputs.specs.declared.reading.LogText.{LogText}
use Rattle.pc_inputs.specs.Plan.{logs_of, logs_with}
use Rattle.pc_inputs.specs.Reading.{text_of}
use Rattle.pc_inputs.proofs.ReadingLemmas.{was-read}
use Rattle.pc_inputs.proofs.PlanLemmas.{few-are, logs-checked}
use Rattle.pc_inputs.proofs.plan.ground_of.Goals as goal

pub returns-clause-logs : goal.returns-clause-logs
returns-clause-logs c =
    few-are (logs_with c.in_ok-checked.checked.items) c.in_ok-logs.logs
    (was-read c.in_ok-logs.logs c.in_ok-logs.ensures)
    ∙ logs-checked (map text_of c.as_slice.result.now) c.in_ok-checked.checked.items
    (sym (was-read c.in_ok-checked.checked c.in_ok-checked.ensures.value))
    ∙ ap (λ (l : List LogText). logs_of (map text_of l)) c.as_slice.ensures.value
