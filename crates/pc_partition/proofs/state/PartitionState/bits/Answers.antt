-- The bits are those of the marks, from their position to their high.
use Rattle.std.proofs.Common.{ℕ, List, Some, sym, ap, ◌∙◌}
use Rattle.pc_model.specs.Bits.{bits_between}
use Rattle.pc_partition.specs.Runs.{offsets_in}
use Rattle.pc_partition.specs.Window.{PartitionView}
use Rattle.pc_partition.proofs.BitsUpto.{AreRuns-position, bits_at-some, bits_at-none, bits_at-below}
use Rattle.pc_partition.proofs.state.PartitionState.bits.Goals as goal
use Rattle.pc_partition.proofs.state.PartitionState.bits.Goals.{in_default-via-in-Some+else-position-high, in_default-via-in_default}

pub bits_upto-requires-clause-in_order : goal.bits_upto-requires-clause-in_order
bits_upto-requires-clause-in_order c = rw c.as_slice.ensures.value
    (AreRuns-position c.self.inside.after c.self.inside.runs.list.items c.position-position.result
    c.self.invariant.in_order c.self.invariant.small
    (rw (← c.self.view_is) at c.position-position.ensures.least))

pub returns-in_ok-bits-in-Some : goal.returns-in_ok-bits-in-Some
returns-in_ok-bits-in-Some c = λ begin n marks is.
    let high = ap (λ (v : PartitionView). v.window.high) (sym c.self.view_is) ∙ c.in-Some.is in
    let incomplete = ap (λ (v : PartitionView). v.window.incomplete) c.self.view_is in
    ap Some (c.in_ok-bits-in-Some.ensures
    ∙ ap (λ (runs : List (ℕ × ℕ)). bits_between c.position-position.result c.in-Some.high (offsets_in runs)) c.as_slice.ensures.value
    ∙ ap (bits_between c.position-position.result c.in-Some.high) incomplete)
    ∙ bits_at-some c.args.self.now.window begin n marks c.position-position.result c.in-Some.high is high
    (c.position-position.ensures.position begin n marks is) c.if-position-high.true

pub returns-in_default : goal.returns-in_default
returns-in_default c = λ begin n marks is. elim c.in_default.branch [
  | in_default-via-in-Some+else-position-high w ↦
      let high = ap (λ (v : PartitionView). v.window.high) (sym c.self.view_is) ∙ w.in-Some.is in
      bits_at-below c.args.self.now.window begin n marks c.position-position.result w.in-Some.high is high
      (c.position-position.ensures.position begin n marks is) w.if-position-high.false
  | in_default-via-in_default w ↦
      let high = ap (λ (v : PartitionView). v.window.high) (sym c.self.view_is) ∙ w.in_default.is in
      bits_at-none c.args.self.now.window begin n marks is high
]
