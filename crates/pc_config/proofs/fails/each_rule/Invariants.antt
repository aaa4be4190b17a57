-- The items so far, and those that are left.
use Rattle.std.proofs.Common.{◌≡◌, [], map, drop}
use Rattle.toml.specs.View.{view}
use Rattle.pc_config.specs.Lists.{read_each, fail_item}
use Rattle.pc_config.proofs.fails.each_rule.Given as goal

abbrev pub invariant-loop-value : goal.invariant-loop-value
invariant-loop-value l =
    read_each fail_item l.items.items (map view (drop l.value-index l.values)) ≡ read_each fail_item [] (map view l.values)
