use Rattle.std.proofs.Common.{ltb, Option, Some, ap, sym, ◌∙◌, rules, tests}
use Rattle.std.proofs.lemmas.List.Sorted.{IsPartitionPoint-from_clause}
use Rattle.std.proofs.lemmas.Option.{slice_get-get_or, slice_get_past}
use Rattle.pc_cursor.specs.declared.entry.Entry.{Entry}
use Rattle.pc_cursor.specs.Cursor.{not_below, records_from}
use Rattle.pc_cursor.proofs.SeekLaws.{seek-place, lasts-part, place_at}
use Rattle.pc_cursor.proofs.cursor.batch_place.Goals as goal

pub returns-in-Some : goal.returns-in-Some
returns-in-Some c =
    let log = c.args.bytes.now in
    let entries = c.args.entries.now in
    let at = IsPartitionPoint-from_clause (λ (e : Entry). ltb e.last c.args.offset) entries
    c.partition_point-found.result c.partition_point-found.ensures.partitioned
    (lasts-part log entries c.args.offset c.requires) (λ a r f k. search (rules, tests)) in
    let got = c.in-Some.ensures.lookup in
    ap (λ (o : Option Entry). not_below c.args.offset (records_from log (place_at log o)))
    (ap (λ (e : Entry). Some e) got.1 ∙ sym (slice_get-get_or entries
    c.partition_point-found.result c.in-Some.entry.now got.3.0))
    ∙ seek-place log entries c.args.offset c.partition_point-found.result c.requires at.0

pub returns-in-None : goal.returns-in-None
returns-in-None c =
    let log = c.args.bytes.now in
    let entries = c.args.entries.now in
    let at = IsPartitionPoint-from_clause (λ (e : Entry). ltb e.last c.args.offset) entries
    c.partition_point-found.result c.partition_point-found.ensures.partitioned
    (lasts-part log entries c.args.offset c.requires) (λ a r f k. search (rules, tests)) in
    ap (λ (o : Option Entry). not_below c.args.offset (records_from log (place_at log o)))
    (sym (slice_get_past entries c.partition_point-found.result c.in-None.ensures.lookup.3))
    ∙ seek-place log entries c.args.offset c.partition_point-found.result c.requires at.0
