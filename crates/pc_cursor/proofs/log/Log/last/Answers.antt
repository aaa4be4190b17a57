use Rattle.std.proofs.Common.{◌-◌, List, length, ap, ◌∙◌}
use Rattle.std.specs.Prelude.{option_map, slice_get}
use Rattle.pc_batch.specs.Batch.{Placed}
use Rattle.pc_model.specs.Record.{Record}
use Rattle.pc_cursor.specs.Log.{records_of, contents_of}
use Rattle.pc_cursor.proofs.SeekLaws.{last-given}
use Rattle.pc_cursor.proofs.log.Log.last.Goals as goal

pub returns-in_err-record : goal.returns-in_err-record
returns-in_err-record c =
    let log = ap (λ (l : List Placed). records_of (contents_of l)) c.self.view_is in
    let given = last-given c.last_records.result _ c.in_err-record.ensures.ran in
    let last = given ∙ c.last_records.ensures ∙ ap
    (λ (l : List Record). slice_get l (length l - 1)) log in
    c.from_residual.ensures ∙ ap (option_map (λ (r : Record). r.offset)) last

pub returns : goal.returns
returns c =
    let log = ap (λ (l : List Placed). records_of (contents_of l)) c.self.view_is in
    let given = last-given c.last_records.result _ c.in_ok-record.ensures.ran in
    let last = given ∙ c.last_records.ensures ∙ ap
    (λ (l : List Record). slice_get l (length l - 1)) log in
    ap (option_map (λ (r : Record). r.offset)) last
