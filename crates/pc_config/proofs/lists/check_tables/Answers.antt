-- The items are of one type where their views are.
use Rattle.std.proofs.Common.{sym, ◌∙◌}
use Rattle.pc_config.specs.Lists.{is_table}
use Rattle.pc_config.proofs.ListLemmas.{list_fits-all, list_fits-not}
use Rattle.pc_config.proofs.lists.check_tables.Goals as goal

pub returns-then-are_tables : goal.returns-then-are_tables
returns-then-are_tables c = c.check_count.ensures ∙ sym (list_fits-all c.args.key is_table c.args.values.now (sym c.if-are_tables.ensures))

pub returns-else-are_tables : goal.returns-else-are_tables
returns-else-are_tables c = sym (list_fits-not c.args.key is_table c.args.values.now (sym c.if-are_tables.ensures))
