use Rattle.std.proofs.Common.{◌≡◌, ◌+◌, ◌∙◌, length, sym, ap, arith, rules}
use Rattle.std.specs.Prelude.{pos}
use Rattle.std.specs.Int.{cast_signed}
use Rattle.std.proofs.lemmas.Int.{to_z-of_z}
use mir.Val.{SFits}
use mir.Syntax.{w32, w64}
use Rattle.pc_batch.specs.Batch.{record_count}
use Rattle.pc_batch.proofs.BatchLaws.{batch-is, found-is}
use Rattle.pc_batch.proofs.batch.batch_of.Goals as goal

pub returns-clause-value : goal.returns-clause-value
returns-clause-value c =
    let header_fits : SFits w32 c.record_count-header.result = search rules in
    let header_fits_64 : SFits w64 c.from.result = search rules in
    let found_fits : SFits w64 c.from-2.result = search rules in
    let header : c.from.result ≡ record_count c.in_ok-text.text.now = c.from.ensures ∙ to_z-of_z w32 c.record_count-header.result header_fits ∙ c.record_count-header.ensures in
    let same : c.from.result ≡ c.from-2.result = sym (to_z-of_z w64 c.from.result header_fits_64) ∙ ap (cast_signed w64) c.if-from.false ∙ to_z-of_z w64 c.from-2.result found_fits in
    let n : record_count c.in_ok-text.text.now ≡ pos c.in_ok-found.found = sym header ∙ same ∙ c.from-2.ensures in
    batch-is c.args.at c.args.bytes.now c.in_ok-text.text.now c.split_at.result.1.now c.in_ok-frame.frame c.in_ok-found.found c.is_control.result
    c.in_ok-text.ensures.value c.in_ok-check_intact.ensures.value (sym c.in_ok-frame.ensures.value) c.split_at.ensures.back (sym c.in_ok-found.ensures) n c.is_control.ensures

pub invariant_of-result : goal.invariant_of-result
invariant_of-result c =
    let records = c.split_at.result.1.now in
    let frame = c.in_ok-frame.frame in
    (c.in_ok-frame.ensures.sound, found-is (c.args.at + 61 + length records) (length records) c.in_ok-found.found frame frame.base records (omega arith) (sym c.in_ok-found.ensures))
