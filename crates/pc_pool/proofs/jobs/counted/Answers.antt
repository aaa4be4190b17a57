-- As many zeros as workers become as many counts.
use Rattle.std.proofs.Common.{◌≡◌, ◌∙◌, ℕ, ◌++◌, List, length, take, ap, subst, sym, arith}
use Rattle.std.specs.Prelude.{replicate}
use Rattle.std.proofs.lemmas.List.{length-replicate}
use Rattle.std.proofs.Math.Seq.{take-append_seam}
use Rattle.pc_pool.specs.Jobs.{AreJobs}
use Rattle.pc_pool.proofs.jobs.counted.Goals as goal

pub count_jobs-requires : goal.count_jobs-requires
count_jobs-requires c =
    let zeros = c.as_mut_slice.ensures.value ∙ c.requires in
    zeros ∙ ap (λ (n : ℕ). replicate n 0)
    (sym (ap length zeros ∙ length-replicate c.args.workers 0))

-- what is written back is what was made of the slice
written : (n : ℕ) (new rest : List ℕ) → n ≡ length new → new ≡ take n (new ++ rest)
written n new rest is =
    sym (ap (λ (k : ℕ). take k (new ++ rest)) is ∙ take-append_seam new rest)

pub returns : goal.returns
returns c =
    let zeros = c.as_mut_slice.ensures.value ∙ c.requires in
    let many : length c.as_mut_slice.result.now ≡ c.args.workers =
    ap length zeros ∙ length-replicate c.args.workers 0 in
    let same = c.count_jobs.auto.jobs in
    let value = ap length c.as_mut_slice.ensures.value in
    let ok = c.args.zeros.ok.0 in
    subst (λ (jobs : List ℕ). AreJobs c.args.workers c.args.journal.now.events jobs)
    (written c.args.zeros.len c.count_jobs.new.jobs _ (omega (arith, same, value, ok)))
    (subst (λ (n : ℕ). AreJobs n c.args.journal.now.events c.count_jobs.new.jobs) many
    c.count_jobs.ensures)
