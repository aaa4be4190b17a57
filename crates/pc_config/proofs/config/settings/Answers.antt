-- Each value that was read is in its range.
use Rattle.toml.specs.View.{table_view}
use Rattle.pc_config.specs.Config.{IsFront, IsBack}
use Rattle.pc_config.proofs.ConfigLemmas.{ok_public, settings_fault-in}
use Rattle.pc_config.proofs.RangeLemmas.{delays_of-in_range, fails_of-in_range, starts_of-in_range}
use Rattle.pc_config.proofs.config.settings.Goals as goal

pub returns-clause-in_range : goal.returns-clause-in_range
returns-clause-in_range c =
    settings_fault-in c.in_ok-front.front c.in_ok-delays.delays c.in_ok-back.back c.in_ok-fails.fails c.in_ok-starts.starts
    (ok_public IsFront c.front.result c.in_ok-front.front c.in_ok-front.ensures.ok c.front.ensures.in_range)
    (ok_public IsBack c.back.result c.in_ok-back.back c.in_ok-back.ensures.ok c.back.ensures.in_range)
    (delays_of-in_range (table_view c.args.table.now) c.in_ok-delays.delays c.in_ok-delays.ensures.ok)
    (fails_of-in_range (table_view c.args.table.now) c.in_ok-fails.fails c.in_ok-fails.ensures.ok)
    (starts_of-in_range (table_view c.args.table.now) c.in_ok-starts.starts c.in_ok-starts.ensures.ok)
