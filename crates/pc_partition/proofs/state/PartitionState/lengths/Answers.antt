-- The lengths are those of the bits of the marks.
use Rattle.std.proofs.Common.{ℕ, List, Some, sym, ap, ◌∙◌}
use Rattle.std.specs.Option.{option_map}
use Rattle.pc_model.specs.Bits.{bits_between}
use Rattle.pc_partition.specs.Lengths.{lengths_of}
use Rattle.pc_partition.specs.Window.{PartitionView}
use Rattle.pc_partition.proofs.BitsUpto.{bits_at-some, bits_at-none, bits_at-below, high-after}
use Rattle.pc_partition.proofs.LengthsLemmas.{lengths_of-counts}
use Rattle.pc_partition.proofs.state.PartitionState.lengths.Goals as goal

pub of_counts-requires : goal.of_counts-requires
of_counts-requires c = c.self.invariant.counted.few

pub returns-in-Some : goal.returns-in-Some
returns-in-Some c = λ begin n marks is.
    let high = ap (λ (v : PartitionView). v.window.high) (sym c.self.view_is) ∙ c.in-Some.is in
    let incomplete = ap (λ (v : PartitionView). v.window.incomplete) c.self.view_is in
    let below = high-after c.self.inside.after c.in-Some.high c.self.inside.runs.high c.self.invariant.high_below c.in-Some.is in
    ap Some (c.of_counts.ensures
    ∙ lengths_of-counts c.position-position.result c.in-Some.high c.self.inside.after c.self.inside.runs.list.items c.self.inside.runs.counts
    c.self.invariant.in_order c.self.invariant.small (rw (← c.self.view_is) at c.position-position.ensures.least)
    c.if-position-high.true below (rw c.in-Some.is at c.self.invariant.high_apart)
    (rw c.in-Some.is at c.self.invariant.counted.are)
    ∙ ap (λ (os : List ℕ). lengths_of (bits_between c.position-position.result c.in-Some.high os)) incomplete)
    ∙ ap (option_map lengths_of) (bits_at-some c.args.self.now.window begin n marks c.position-position.result c.in-Some.high is high
    (c.position-position.ensures.position begin n marks is) c.if-position-high.true)

pub returns-in_default : goal.returns-in_default
returns-in_default c = λ begin n marks is.
    let high = ap (λ (v : PartitionView). v.window.high) (sym c.self.view_is) ∙ c.in-Some.is in
    ap (option_map lengths_of) (bits_at-below c.args.self.now.window begin n marks c.position-position.result c.in-Some.high is high
    (c.position-position.ensures.position begin n marks is) c.if-position-high.false)

pub returns-in_default-2 : goal.returns-in_default-2
returns-in_default-2 c = λ begin n marks is.
    let high = ap (λ (v : PartitionView). v.window.high) (sym c.self.view_is) ∙ c.in_default.is in
    ap (option_map lengths_of) (bits_at-none c.args.self.now.window begin n marks is high)
