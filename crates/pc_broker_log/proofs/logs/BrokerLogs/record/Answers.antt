-- What the cursor gives first is the record, where its offset is that.
use Rattle.std.proofs.Common.{List, [], Option, ◌==◌, find, ap, sym, ◌∙◌}
use Rattle.std.specs.Prelude.{option_map, unwrap_or}
use Rattle.pc_model.specs.Record.{Record}
use Rattle.pc_batch.specs.Record.{plain}
use Rattle.pc_cursor.specs.Cursor.{not_below}
use Rattle.pc_cursor.specs.Log.{contents_of, records_of}
use Rattle.pc_broker_log.proofs.RecordAt.{found-first, found-none, plain-then_some}
use Rattle.pc_broker_log.proofs.logs.BrokerLogs.record.Goals as goal

pub returns-in_err-record : goal.returns-in_err-record
returns-in_err-record c =
    let log = records_of (contents_of c.in_ok-log.field-0.now) in
    let left = c.seek.ensures.left ∙ ap (not_below c.args.offset) c.cursor-cursor.ensures.all in
    ap (option_map plain) c.from_residual-in_err-record.ensures
    ∙ sym (found-none c.args.offset log (sym left ∙ c.in_err-record.ensures.steps.0.0))
    ∙ ap (λ (o : Option (List Record)). find (λ r. r.offset == c.args.offset) (unwrap_or o []))
    c.in_ok-log.ensures.value

pub returns : goal.returns
returns c =
    let log = records_of (contents_of c.in_ok-log.field-0.now) in
    let left = c.seek.ensures.left ∙ ap (not_below c.args.offset) c.cursor-cursor.ensures.all in
    ap (option_map plain) c.then_some.ensures ∙ plain-then_some _ c.in_ok-record.record
    ∙ sym (found-first c.args.offset log _ (plain c.in_ok-record.record) c.in_ok-log.ensures.rise
    (sym left ∙ c.in_ok-record.ensures.steps.0))
    ∙ ap (λ (o : Option (List Record)). find (λ r. r.offset == c.args.offset) (unwrap_or o []))
    c.in_ok-log.ensures.value
