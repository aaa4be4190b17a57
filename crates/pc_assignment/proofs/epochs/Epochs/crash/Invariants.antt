-- The parts before the index ended their epochs, and those from it on are as they were.
use Rattle.std.proofs.Common.{◌≡◌, ℕ, ◌+◌, ◌≤◌, ◌<◌, length, get_or, false}
use Rattle.pc_assignment.specs.declared.epochs.PartEpoch.{PartEpoch}
use Rattle.pc_assignment.proofs.epochs.Epochs.crash.Given as goal

abbrev pub invariant-loop-part : goal.invariant-loop-part
invariant-loop-part l = record {
  size : length l.part-items ≡ length l.initial.part-items;
  ended : (p : ℕ) (d : PartEpoch) → p < l.part-index → p < length l.initial.part-items
      → get_or l.part-items p d ≡ record
      { epoch = (get_or l.initial.part-items p d).epoch + 1; is_held = false };
  left : (p : ℕ) (d : PartEpoch) → l.part-index ≤ p → get_or l.part-items p d ≡ get_or
      l.initial.part-items p d;
}
