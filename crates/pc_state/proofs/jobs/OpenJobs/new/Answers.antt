use Rattle.std.proofs.Common.{ap, List, ℕ}
use Rattle.std.specs.Prelude.{nat_eq}
use Rattle.std.specs.Map.{lookup}
use Rattle.pc_state.specs.declared.jobs.OpenJob.{OpenJob}
use Rattle.pc_state.proofs.OpenJobsLemmas.{AreOpen-none}
use Rattle.pc_state.proofs.jobs.OpenJobs.new.Goals as goal

pub returns : goal.returns
returns c = λ h none. AreOpen-none h (record { jobs = c.new.result }) none
    (λ t. ap (λ (es : List (ℕ × OpenJob)). lookup (nat_eq t) es) c.new.ensures.empty) c.new.ensures.len
