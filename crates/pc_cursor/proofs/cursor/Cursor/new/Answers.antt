use Rattle.std.proofs.Common.{◌++◌, List, ap, ◌∙◌}
use Rattle.pc_model.specs.Record.{Record}
use Rattle.pc_cursor.specs.Cursor.{not_below, records_from}
use Rattle.pc_cursor.proofs.SeekLaws.{not_below-zero}
use Rattle.pc_cursor.proofs.Standing.{checked-records}
use Rattle.pc_cursor.proofs.cursor.Cursor.new.Goals as goal

pub returns-clause-left : goal.returns-clause-left
returns-clause-left c =
    ap (λ (l : List Record). not_below 0 (l ++ records_from c.args.bytes.now 0)) c.none.ensures
    ∙ not_below-zero (records_from c.args.bytes.now 0)
    ∙ checked-records c.args.bytes.now c.requires.checked
