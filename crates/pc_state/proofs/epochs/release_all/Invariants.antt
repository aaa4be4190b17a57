-- The epochs of the parts before the index are over, and those from it on are as they were.
use Rattle.std.proofs.Common.{◌≡◌, ℕ, ◌+◌, ◌≤◌, ◌<◌, length, get_or, None}
use Rattle.pc_state.specs.declared.part.PartState.{PartState}
use Rattle.pc_state.proofs.epochs.release_all.Given as goal

abbrev pub invariant-loop-part : goal.invariant-loop-part
invariant-loop-part l = record {
  size : length l.parts ≡ length l.initial.parts;
  over : (p : ℕ) (d : PartState) → p < l.part-index → p < length l.initial.parts
      → get_or l.parts p d ≡ record
      { epoch = (get_or l.initial.parts p d).epoch + 1; held = None };
  left : (p : ℕ) (d : PartState) → l.part-index ≤ p → get_or l.parts p d ≡ get_or
      l.initial.parts p d;
}
