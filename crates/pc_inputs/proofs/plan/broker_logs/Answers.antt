-- The logs so far, and one more.
use Rattle.std.proofs.Common.{◌≡◌, ◌<◌, ◌+◌, ◌∙◌, ◌∷◌, ◌++◌, [], inl, inr, sym, ap, refl, Ok, Err, List, length, append_assoc, append-nil, length-append, arith}
use Rattle.std.specs.Vec.Iter.{into_iter_items}
use Rattle.std.proofs.lemmas.List.{length-map}
use Rattle.std.proofs.lemmas.Result.{err_from_is_err_and}
use Rattle.pc_batch.specs.Batch.{Placed}
use Rattle.pc_inputs.specs.declared.status.Status.{Status}
use Rattle.pc_inputs.specs.Plan.{few_records, logs_with}
use Rattle.pc_inputs.proofs.PlanLemmas.{few-enough, table-next, table-overfull}
use Rattle.pc_inputs.proofs.plan.broker_logs.Goals as goal

nothing_left : {X : Type 0} (l : List X) → length l ≡ 0 → l ≡ []
nothing_left [] none = refl
nothing_left (x ∷ xs) none = absurd (omega arith)

-- a list with something behind it is shorter than the whole
front-shorter : {X : Type 0} (front rest all : List X) (x : X) → front ++ x ∷ rest ≡ all
    → length front < length all
front-shorter front rest all x is =
    let long = ap length (sym is) ∙ length-append front (x ∷ rest) in omega (arith, long)

pub add_next-requires-clause-next : goal.add_next-requires-clause-next
add_next-requires-clause-next c = c.loop-log.invariant.next
    ∙ sym (ap length c.loop-log.invariant.added ∙ length-map c.loop-log.yielded _)

pub add_next-requires-clause-known : goal.add_next-requires-clause-known
add_next-requires-clause-known c =
    let shorter = front-shorter c.loop-log.yielded (into_iter_items c.next.new.self)
    c.args.checked.items c.in-Some.log
    (ap (λ l. c.loop-log.yielded ++ l) (sym c.in-Some.ensures.steps.0) ∙ c.loop-log.invariant.split
    ∙ c.into_iter-log-iterator.ensures.into_iter_gives.0) in
    omega (arith, shorter, c.loop-log.invariant.next, c.requires)

pub returns-in_err-add_next : goal.returns-in_err-add_next
returns-in_err-add_next c =
    let got = err_from_is_err_and c.from_residual.result c.from_residual.ensures.1 in
    let is = got.1 ∙ ap (λ (s : Status). Err s) got.2 in
    elim c.in_err-add_next.ensures.err [
      | inl wanting ↦ inl (is ∙ ap (λ (s : Status). Err s) wanting)
      | inr over ↦ inr (is ∙ table-overfull c.loop-log.logs c.loop-log.yielded
          (into_iter_items c.next.new.self) c.args.checked.items c.in-Some.log
          c.in_err-add_next.field-0.0 c.loop-log.invariant.added
          (ap (λ l. c.loop-log.yielded ++ l) (sym c.in-Some.ensures.steps.0)
          ∙ c.loop-log.invariant.split ∙ c.into_iter-log-iterator.ensures.into_iter_gives.0) over)
    ]

pub overflow_add-part : goal.overflow_add-part
overflow_add-part c =
    let shorter = front-shorter c.loop-log.yielded (into_iter_items c.next.new.self)
    c.args.checked.items c.in-Some.log
    (ap (λ l. c.loop-log.yielded ++ l) (sym c.in-Some.ensures.steps.0) ∙ c.loop-log.invariant.split
    ∙ c.into_iter-log-iterator.ensures.into_iter_gives.0) in
    omega (arith, shorter, c.loop-log.invariant.next, c.requires)

pub loop-log-preserved : goal.loop-log-preserved
loop-log-preserved c =
    let table = table-next c.loop-log.logs c.add_next.new.logs c.loop-log.yielded c.in-Some.log
    c.loop-log.invariant.added c.in_ok-add_next.ensures.ok in
    record {
      split = append_assoc c.loop-log.yielded (c.in-Some.log ∷ []) _
          ∙ ap (λ l. c.loop-log.yielded ++ l) (sym c.in-Some.ensures.steps.0)
          ∙ c.loop-log.invariant.split;
      left = let short = ap length c.in-Some.ensures.steps.0 in
          omega (arith, short, c.in-Some.ensures.steps.1, c.loop-log.invariant.left);
      added = table.0;
      next = ap (λ n. n + 1) c.loop-log.invariant.next
          ∙ sym (length-append c.loop-log.yielded (c.in-Some.log ∷ []));
      few = table.1;
    }

pub returns : goal.returns
returns c =
    let empty = nothing_left (into_iter_items c.loop-log.log-iterator)
    (sym c.loop-log.invariant.left ∙ c.in-None.ensures.steps.0) in
    let all = sym (append-nil c.loop-log.yielded)
    ∙ ap (λ l. c.loop-log.yielded ++ l) (sym empty) ∙ c.loop-log.invariant.split
    ∙ c.into_iter-log-iterator.ensures.into_iter_gives.0 in
    inr (ap (λ l. Ok l) c.loop-log.invariant.added
    ∙ few-enough (logs_with c.loop-log.yielded) c.loop-log.invariant.few
    ∙ ap (λ (l : List (List Placed)). few_records (logs_with l)) all)
