-- The items so far, and those that are left.
use Rattle.std.proofs.Common.{◌≡◌, [], map, drop}
use Rattle.toml.specs.View.{view}
use Rattle.pc_config.specs.Lists.{read_each, delay_of}
use Rattle.pc_config.proofs.delays.each_delay.Given as goal

abbrev pub invariant-loop-value : goal.invariant-loop-value
invariant-loop-value l =
    read_each delay_of l.items.items (map view (drop l.value-index l.values)) ≡ read_each delay_of [] (map view l.values)
