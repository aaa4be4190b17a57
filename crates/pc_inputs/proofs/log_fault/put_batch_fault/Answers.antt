-- The words of the long names.
use Rattle.std.proofs.Common.{w64, to_z, of_z, rules, ◌≡◌, ◌∙◌, ◌∷◌, [], ℕ, ℤ, ap, sym}
use Rattle.std.specs.Prelude.{codes}
use Rattle.std.specs.Fmt.{decimal, signed_decimal}
use Rattle.pc_inputs.specs.LogFault.{batch_words}
use Rattle.pc_inputs.proofs.LogFaultLemmas.{on-words}
use Rattle.pc_inputs.proofs.log_fault.put_batch_fault.Goals as goal

pub returns-in-Compressed-clause-ok : goal.returns-in-Compressed-clause-ok
returns-in-Compressed-clause-ok c =
    on-words c.put_one-in-Compressed.result _ _ _ _ _ _
    (ap (λ (n : ℕ). codes "compressed" ∷ decimal n ∷ []) c.from-in-Compressed.ensures
    ∙ ap batch_words (sym c.in-Compressed.is)) c.put_one-in-Compressed.ensures.ok

pub returns-in-OffsetRange-clause-ok : goal.returns-in-OffsetRange-clause-ok
returns-in-OffsetRange-clause-ok c =
    let base : to_z w64 (of_z w64 c.in-OffsetRange.base) ≡ c.in-OffsetRange.base = search rules in
    let delta : to_z w64 (of_z w64 c.from-in-OffsetRange.result) ≡ c.in-OffsetRange.delta =
    search rules in
    on-words c.put_two-in-OffsetRange.result _ _ _ _ _ _
    (ap (λ (n : ℤ). codes "offset-range" ∷ signed_decimal n
    ∷ signed_decimal (to_z w64 (of_z w64 c.from-in-OffsetRange.result)) ∷ []) base
    ∙ ap (λ (n : ℤ). codes "offset-range" ∷ signed_decimal c.in-OffsetRange.base
    ∷ signed_decimal n ∷ []) delta
    ∙ ap batch_words (sym c.in-OffsetRange.is)) c.put_two-in-OffsetRange.ensures.ok
