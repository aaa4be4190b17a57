-- A commit that fails has its cause, and what was before the last events of a run is a run.
use Rattle.std.proofs.Common.{◌⊎◌, ℕ, ◌+◌, ◌-◌, ◌^◌, ◌≤◌, Bool, List, [], ◌∷◌, ◌++◌, arith, inl, inr}
use Rattle.std.proofs.lemmas.Bool.{cases_Bool}
use Rattle.pc_model.specs.declared.event.Event.{Event}
use Rattle.pc_model.specs.declared.commit.Commit.{Commit}
use Rattle.pc_model.specs.declared.step.Step.{Step}
use Rattle.pc_model.specs.Given.{Given}
use Rattle.pc_run_laws.specs.Failed.{AreCaused, is_unrefused, last_count, unrefused_commits}
use Rattle.pc_run_laws.specs.Run.{IsRun}
use Rattle.pc_run_laws.proofs.RestLaw.{moves-before, paced-before}

pub failed-caused : (refuses : ℕ → Commit → Bool) (start : ℕ) (h : List Event) (counts : List ℕ)
    → AreCaused refuses start h counts
    → (start + unrefused_commits refuses h ≤ last_count start counts) ⊎ (2 ^ 64 - 1 ≤ last_count start counts)
failed-caused refuses start [] [] caused = inl (omega arith)
failed-caused refuses start [] (n ∷ counts) caused = absurd caused
failed-caused refuses start (e ∷ h) [] caused = absurd caused
failed-caused refuses start (e ∷ h) (n ∷ counts) caused =
    let later : last_count start counts ≤ n = caused.0 in
    elim (failed-caused refuses start h counts caused.2) [
      | inr most ↦ inr (omega arith)
      | inl few ↦ elim (cases_Bool (is_unrefused refuses e)) [
        | inr other ↦ inl (rw other (omega arith))
        | inl failed ↦ elim (caused.1 failed) [
          | inl risen ↦ inl (rw failed (omega arith))
          | inr end ↦ inr (omega arith)
        ]
      ]
    ]

pub prefix_is_run : (given : Given) (steps : List Step) (later h : List Event)
    → IsRun given steps (later ++ h) → IsRun given steps h
prefix_is_run given steps [] h run = run
prefix_is_run given steps (e ∷ later) h run = prefix_is_run given steps later h (record {
  legal = run.legal.2;
  follows = moves-before given steps e (later ++ h) run.follows;
  paced = paced-before given steps e (later ++ h) run.paced;
})
