-- The logs so far are checked.
use Rattle.std.proofs.Common.{◌≡◌, map, take, length}
use Rattle.pc_inputs.specs.Reading.{text_of}
use Rattle.pc_inputs.proofs.PlanLemmas.{AreChecked}
use Rattle.pc_inputs.proofs.plan.checked_logs.Given as goal

abbrev pub invariant-loop-text : goal.invariant-loop-text
invariant-loop-text l = record {
  checked : AreChecked (map text_of (take l.text-index l.texts)) l.logs.items;
  count : length l.logs.items ≡ l.text-index;
}
