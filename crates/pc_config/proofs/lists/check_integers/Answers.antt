-- The items are of one type where their views are.
use Rattle.std.proofs.Common.{sym, ◌∙◌}
use Rattle.pc_config.specs.Lists.{is_integer}
use Rattle.pc_config.proofs.ListLemmas.{list_fits-all, list_fits-not}
use Rattle.pc_config.proofs.lists.check_integers.Goals as goal

pub returns-then-are_integers : goal.returns-then-are_integers
returns-then-are_integers c = c.check_count.ensures ∙ sym (list_fits-all c.args.key is_integer c.args.values.now (sym c.if-are_integers.ensures))

pub returns-else-are_integers : goal.returns-else-are_integers
returns-else-are_integers c = sym (list_fits-not c.args.key is_integer c.args.values.now (sym c.if-are_integers.ensures))
