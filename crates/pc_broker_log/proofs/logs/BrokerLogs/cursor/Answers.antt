use Rattle.std.proofs.Common.{List, Option, Some, ap, ◌∙◌}
use Rattle.std.specs.Prelude.{option_map}
use Rattle.pc_model.specs.Record.{Record}
use Rattle.pc_cursor.specs.Cursor.{not_below}
use Rattle.pc_broker_log.proofs.logs.BrokerLogs.cursor.Goals as goal

pub returns : goal.returns
returns c =
    let left = c.seek.ensures.left ∙ ap (not_below c.args.from) c.cursor-cursor.ensures.all in
    ap (λ (l : List Record). Some l) left
    ∙ ap (λ (o : Option (List Record)). option_map (not_below c.args.from) o) c.in_ok-log.ensures.value
