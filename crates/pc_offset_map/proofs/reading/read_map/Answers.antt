-- The text, its bytes, and the bits after the letter.
use Rattle.std.proofs.Common.{◌≡◌, ◌+◌, ◌^◌, ◌≤◌, [], ◌∷◌, length, arith, inr, sym, ap, ◌∙◌}
use Rattle.std.proofs.lemmas.List.{nil_from_length}
use Rattle.std.specs.declared.result.Result.TheVariants.{Ok}
use Rattle.std.proofs.lemmas.Result.{err_from_is_err_and}
use Rattle.pc_offset_map.proofs.ReadingLemmas.{letter_reading-fits, letter_reading-past, map_reading-decoded, map_reading-empty, map_reading-fault, map_reading-no_bytes, map_reading-refused}
use Rattle.pc_offset_map.proofs.reading.read_map.Goals as goal
use Rattle.pc_offset_map.proofs.reading.read_map.Goals.{then-base-gt-LAST_END-via-then-base-gt-LAST_END, then-base-gt-LAST_END-via-else-base-gt-LAST_END+then-count-base}

pub returns-then-is_empty-clause-bits : goal.returns-then-is_empty-clause-bits
returns-then-is_empty-clause-bits c = map_reading-empty c.args.base c.args.text.now (sym c.if-is_empty.ensures)

pub returns-in_err-bytes-clause-fault : goal.returns-in_err-bytes-clause-fault
returns-in_err-bytes-clause-fault c =
    let p = err_from_is_err_and c.from_residual.result c.from_residual.ensures.1 in
    rw (p.1, p.2) (map_reading-refused c.args.base c.args.text.now _ c.in_err-bytes.ensures.fault)

pub returns-in_default-clause-bits : goal.returns-in_default-clause-bits
returns-in_default-clause-bits c =
    let none : c.in_ok-bytes.bytes.items ≡ [] = sym c.as_slice.ensures.value ∙ nil_from_length c.as_slice.result.now c.in_default.ensures.cases in
    map_reading-no_bytes c.args.base c.args.text.now (c.in_ok-bytes.ensures.bytes ∙ ap Ok none)

pub returns-in_err-bits-clause-fault : goal.returns-in_err-bits-clause-fault
returns-in_err-bits-clause-fault c =
    let bytes : c.in_ok-bytes.bytes.items ≡ c.in-Some.letter.now ∷ c.in-Some.body.now = sym c.as_slice.ensures.value ∙ c.in-Some.ensures.cases.0 in
    let p = err_from_is_err_and c.from_residual-in_err-bits.result c.from_residual-in_err-bits.ensures.1 in
    rw (p.1, p.2)
    (map_reading-fault c.args.base c.in-Some.letter.now c.args.text.now c.in-Some.body.now _ (c.in_ok-bytes.ensures.bytes ∙ ap Ok bytes) c.in_err-bits.ensures.fault)

pub returns-then-base-gt-LAST_END-clause-fault : goal.returns-then-base-gt-LAST_END-clause-fault
returns-then-base-gt-LAST_END-clause-fault c =
    let bytes : c.in_ok-bytes.bytes.items ≡ c.in-Some.letter.now ∷ c.in-Some.body.now = sym c.as_slice.ensures.value ∙ c.in-Some.ensures.cases.0 in
    let past : 2 ^ 63 ≤ c.args.base + length c.in_ok-bits.bits = elim c.then-base-gt-LAST_END.branch [
      | then-base-gt-LAST_END-via-then-base-gt-LAST_END w ↦ omega (arith, w.if-base-gt-LAST_END.true)
      | then-base-gt-LAST_END-via-else-base-gt-LAST_END+then-count-base w ↦
          omega (arith, w.if-base-gt-LAST_END.false, w.if-count-base.true, w.count.ensures.count)
    ] in
    inr (map_reading-decoded c.args.base c.in-Some.letter.now c.args.text.now c.in-Some.body.now (c.in_ok-bytes.ensures.bytes ∙ ap Ok bytes)
    ∙ letter_reading-past c.args.base c.in-Some.letter.now c.in-Some.body.now c.in_ok-bits.bits past c.in_ok-bits.ensures.bits)

pub returns-clause-bits : goal.returns-clause-bits
returns-clause-bits c =
    let bytes : c.in_ok-bytes.bytes.items ≡ c.in-Some.letter.now ∷ c.in-Some.body.now = sym c.as_slice.ensures.value ∙ c.in-Some.ensures.cases.0 in
    map_reading-decoded c.args.base c.in-Some.letter.now c.args.text.now c.in-Some.body.now (c.in_ok-bytes.ensures.bytes ∙ ap Ok bytes)
    ∙ letter_reading-fits c.args.base c.in-Some.letter.now c.in-Some.body.now c.in_ok-bits.bits
    (omega (arith, c.if-base-gt-LAST_END.false, c.if-count-base.false, c.count.ensures.count)) c.in_ok-bits.ensures.bits
