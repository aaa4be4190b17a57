-- The map of a table finds what the members have.
use Rattle.toml.proofs.Views.{table_get}
use Rattle.pc_config.proofs.member.value_at.Goals as goal

pub returns : goal.returns
returns c = table_get c.get.result c.args.word.now c.args.table.now.entries c.get.ensures.value
