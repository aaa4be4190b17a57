-- The items so far, and those that are left.
use Rattle.std.proofs.Common.{◌≡◌, [], map, drop}
use Rattle.toml.specs.View.{view}
use Rattle.pc_config.specs.Lists.{read_each, start_item}
use Rattle.pc_config.proofs.starts.each_start.Given as goal

abbrev pub invariant-loop-value : goal.invariant-loop-value
invariant-loop-value l =
    read_each start_item l.items.items (map view (drop l.value-index l.values)) ≡ read_each start_item [] (map view l.values)
