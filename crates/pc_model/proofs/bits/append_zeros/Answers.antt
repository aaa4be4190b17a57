-- The last run ends at the place, or the new one stands apart from it.
use Rattle.std.proofs.Common.{◌≡◌, ◌-◌, length, arith, rules, sym, ◌∙◌}
use Rattle.std.specs.List.{slice_get}
use Rattle.std.specs.declared.option.Option.TheVariants.{Some}
use Rattle.pc_model.proofs.BitsLemmas.{AreRuns-slice_get, add_run-last_apart, add_run-last_joins, add_run-none}
use Rattle.pc_model.proofs.bits.append_zeros.Goals as goal
use Rattle.pc_model.proofs.bits.append_zeros.Goals.{in_default-via-in-None-1, in_default-via-in-Some+else-start-length}

pub overflow_add-start : goal.overflow_add-start
overflow_add-start c =
    let last : Some c.in-Some.field-0.now ≡ slice_get c.args.zeros.now.items (length c.args.zeros.now.items - 1) = rw c.deref.ensures.value at c.in-Some.ensures.value in
    let run = AreRuns-slice_get 0 c.args.place c.args.zeros.now.items (length c.args.zeros.now.items - 1) c.in-Some.field-0.now c.requires.in_order (sym last) in
    omega (arith, run.2)

pub returns-clause-ok : goal.returns-clause-ok
returns-clause-ok c =
    let last : Some c.in-Some.field-0.now ≡ slice_get c.args.zeros.now.items (length c.args.zeros.now.items - 1) = rw c.deref.ensures.value at c.in-Some.ensures.value in
    let len = rw c.deref.ensures.value at c.deref.ensures.len in
    add_run-last_joins c.args.zeros.now.items c.args.place c.args.n _ c.in-Some.field-0.now (omega (arith, len)) (sym last) c.if-start-length.true

pub returns-2-clause-ok : goal.returns-2-clause-ok
returns-2-clause-ok c = elim c.in_default.branch [
  | in_default-via-in-None-1 w ↦ c.in_ok-push.ensures.items ∙ add_run-none _ _ _ (search (rules, c.last.ensures.value, c.deref.ensures.value))
  | in_default-via-in-Some+else-start-length w ↦
      let last : Some w.in-Some.field-0.now ≡ slice_get c.args.zeros.now.items (length c.args.zeros.now.items - 1) = rw c.deref.ensures.value at w.in-Some.ensures.value in
      c.in_ok-push.ensures.items ∙ add_run-last_apart _ _ _ w.in-Some.field-0.now (sym last) w.if-start-length.false
]
