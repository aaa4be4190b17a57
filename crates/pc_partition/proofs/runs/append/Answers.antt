-- The last run ends at the offset, or the new one stands apart from it.
use Rattle.std.proofs.Common.{◌≡◌, ◌-◌, length, arith, rules, sym, ◌∙◌}
use Rattle.std.specs.List.{slice_get}
use Rattle.std.specs.declared.option.Option.TheVariants.{Some}
use Rattle.pc_model.proofs.BitsLemmas.{AreRuns-slice_get, add_run-last_apart, add_run-last_joins, add_run-none}
use Rattle.pc_partition.proofs.runs.append.Goals as goal
use Rattle.pc_partition.proofs.runs.append.Goals.{in_default-via-in-None-1, in_default-via-in-Some+else-start-size}

pub overflow_add-start : goal.overflow_add-start
overflow_add-start c =
    let last : Some c.in-Some.field-0.now ≡ slice_get c.args.runs.now.items (length c.args.runs.now.items - 1) = rw c.deref.ensures.value at c.in-Some.ensures.value in
    let run = AreRuns-slice_get 0 c.args.offset c.args.runs.now.items (length c.args.runs.now.items - 1) c.in-Some.field-0.now c.requires.in_order (sym last) in
    omega (arith, run.2)

pub returns-clause-runs : goal.returns-clause-runs
returns-clause-runs c =
    let last : Some c.in-Some.field-0.now ≡ slice_get c.args.runs.now.items (length c.args.runs.now.items - 1) = rw c.deref.ensures.value at c.in-Some.ensures.value in
    let len = rw c.deref.ensures.value at c.deref.ensures.len in
    add_run-last_joins c.args.runs.now.items c.args.offset 1 _ c.in-Some.field-0.now (omega (arith, len)) (sym last) c.if-start-size.true

pub returns-2-clause-runs : goal.returns-2-clause-runs
returns-2-clause-runs c = elim c.in_default.branch [
  | in_default-via-in-None-1 w ↦ c.push_reserved.ensures.items ∙ add_run-none _ _ _ (search (rules, c.last.ensures.value, c.deref.ensures.value))
  | in_default-via-in-Some+else-start-size w ↦
      let last : Some w.in-Some.field-0.now ≡ slice_get c.args.runs.now.items (length c.args.runs.now.items - 1) = rw c.deref.ensures.value at w.in-Some.ensures.value in
      c.push_reserved.ensures.items ∙ add_run-last_apart _ _ _ w.in-Some.field-0.now (sym last) w.if-start-size.false
]
