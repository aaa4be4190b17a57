-- One item more, its fault, or the end.
use Rattle.toml.specs.View.{view}
use Rattle.pc_config.specs.Lists.{fail_item}
use Rattle.pc_config.proofs.ListLemmas.{read_each-next, read_each-fault, read_each-end}
use Rattle.pc_config.proofs.fails.each_rule.Goals as goal

pub returns-clause-ok : goal.returns-clause-ok
returns-clause-ok c = read_each-end fail_item view c.loop-value.items.items c.args.values.now c.loop-value.value-index _ c.loop-value.invariant c.loop-value-test.false

pub loop-value-preserved : goal.loop-value-preserved
loop-value-preserved c =
    rw c.in_ok-push-in-Ok.ensures.items (read_each-next fail_item view c.loop-value.items.items c.args.values.now c.loop-value.value-index _ c.loop-value.invariant c.value-item.result c.in-Ok.rule c.loop-value-test.true c.value-item.is c.in-Ok.ensures.ok)

pub returns-in-Err-clause-fault : goal.returns-in-Err-clause-fault
returns-in-Err-clause-fault c told =
    read_each-fault fail_item view c.loop-value.items.items c.args.values.now c.loop-value.value-index _ c.loop-value.invariant c.value-item.result c.in-Err.fault c.loop-value-test.true c.value-item.is (c.in-Err.ensures.fault told)
