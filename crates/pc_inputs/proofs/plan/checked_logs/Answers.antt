-- The logs so far are checked.
use Rattle.std.proofs.Common.{◌+◌, ◌∙◌, inr, ap, sym, subst, arith, length-append, Err, ◌∷◌, [], length}
use Rattle.std.specs.Result.{result_map_both}
use Rattle.std.proofs.lemmas.Result.{err_from_is_err_and}
use Rattle.pc_inputs.specs.declared.status.Status.{Status}
use Rattle.pc_inputs.specs.Plan.{checked_logs}
use Rattle.pc_inputs.specs.Reading.{text_of}
use Rattle.pc_inputs.proofs.ListLemmas.{map-all}
use Rattle.pc_inputs.proofs.ReadingLemmas.{step-fault, was-read}
use Rattle.pc_inputs.proofs.PlanLemmas.{AreChecked, checked-all, checked-next, checked-none, checked-stops}
use Rattle.pc_inputs.proofs.plan.checked_logs.Goals as goal

pub loop-text-init : goal.loop-text-init
loop-text-init c = record {
  checked = subst (AreChecked []) (sym c.new-logs.ensures.items) checked-none;
  count = ap length c.new-logs.ensures.items;
}

pub loop-text-preserved : goal.loop-text-preserved
loop-text-preserved c = record {
  checked = checked-next text_of c.args.texts.now c.loop-text.text-index c.text-item.result
      c.as_slice.result.now c.loop-text.logs.items c.push.new.self.items c.in_ok-checked.field-0
      c.loop-text-test.true c.text-item.is c.as_slice.ensures.value
      (was-read c.in_ok-checked.field-0 c.in_ok-checked.ensures) c.in_ok-push.ensures.items
      c.loop-text.invariant.checked;
  count = ap length c.in_ok-push.ensures.items
      ∙ length-append c.loop-text.logs.items (c.in_ok-checked.field-0 ∷ [])
      ∙ ap (λ n. n + 1) c.loop-text.invariant.count;
}

pub returns-in_err-checked-clause-value : goal.returns-in_err-checked-clause-value
returns-in_err-checked-clause-value c =
    let got = err_from_is_err_and c.from_residual.result c.from_residual.ensures.1 in
    step-fault c.from_residual.result c.in_err-checked.field-0.0
    (got.1 ∙ ap (λ (s : Status). Err s) got.2) c.in_err-checked.ensures
    (λ is. ap (result_map_both (λ logs. logs.items) (λ s. s))
    (got.1 ∙ ap (λ (s : Status). Err s) got.2)
    ∙ sym (checked-stops text_of c.args.texts.now c.loop-text.text-index c.text-item.result
    c.as_slice.result.now c.loop-text.logs.items c.in_err-checked.field-0.0
    c.loop-text-test.true c.text-item.is c.as_slice.ensures.value is
    c.loop-text.invariant.checked))

pub returns : goal.returns
returns c = record {
  value = inr (sym (ap checked_logs
      (sym (map-all text_of c.args.texts.now c.loop-text.text-index c.loop-text-test.false))
      ∙ checked-all _ c.loop-text.logs.items c.loop-text.invariant.checked));
  count = omega (
    arith,
    c.loop-text.invariant.count,
    c.loop-text.auto.text-index-end,
    c.requires,
  );
}
