-- Each turn adds one more part that is not held.
use Rattle.std.proofs.Common.{◌≡◌, ◌∙◌, ◌≤◌, ap, arith, None, length, replicate, ℕ}
use Rattle.std.proofs.lemmas.List.{length-replicate, replicate_more}
use Rattle.pc_state.specs.declared.part.PartState.{PartState}
use Rattle.pc_state.proofs.part.unheld.Goals as goal

pub loop-init : goal.loop-init
loop-init c = c.in_ok-parts.ensures.items

pub loop-preserved : goal.loop-preserved
loop-preserved c = c.in_ok-push.ensures.items ∙ rw c.loop.invariant
    (replicate_more {X = PartState} c.loop.counter (record { epoch = 0; held = None }))

ended : (n k : ℕ) → n ≤ k → k ≤ n → k ≡ n
ended n k le ge = omega arith

pub returns-clause-each : goal.returns-clause-each
returns-clause-each c = c.loop.invariant
    ∙ ap (λ n. replicate {A = PartState} n (record { epoch = 0; held = None }))
    (ended c.args.count c.loop.counter c.loop-test.false c.loop.auto.counter-end)

pub returns-clause-count : goal.returns-clause-count
returns-clause-count c = ap length (returns-clause-each c)
    ∙ length-replicate {A = PartState} c.args.count (record { epoch = 0; held = None })
