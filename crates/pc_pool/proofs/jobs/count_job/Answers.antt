-- A job is one more of its worker, and another event is none.
use Rattle.std.proofs.Common.{ℕ, ◌+◌, ◌∷◌, List, get_or, length, subst, sym, arith}
use Rattle.std.specs.Prelude.{slice_set}
use Rattle.pc_model.specs.declared.event.Event.{Event}
use Rattle.pc_pool.specs.Jobs.{AreJobs}
use Rattle.pc_pool.proofs.JobLemmas.{jobs-few, jobs-more, jobs-same}
use Rattle.pc_pool.proofs.jobs.count_job.Goals as goal

pub count_one-requires : goal.count_one-requires
count_one-requires c =
    let few = jobs-few (length c.args.jobs.now) c.requires.0 c.args.jobs.now c.requires.1
    c.in-Dispatch.worker in
    let short = c.requires.2 in omega (arith, few, short)

pub returns-in-Dispatch : goal.returns-in-Dispatch
returns-in-Dispatch c = λ h are.
    subst (λ (jobs : List ℕ). AreJobs (length c.args.jobs.now) (c.args.event.now ∷ h) jobs)
    (sym c.count_one.ensures)
    (subst (λ (e : Event). AreJobs (length c.args.jobs.now) (e ∷ h)
    (slice_set c.args.jobs.now c.in-Dispatch.worker
    (get_or c.args.jobs.now c.in-Dispatch.worker 0 + 1))) (sym c.in-Dispatch.is)
    (jobs-more (length c.args.jobs.now) h c.args.jobs.now are c.in-Dispatch.ticket
    c.in-Dispatch.worker c.in-Dispatch.part c.in-Dispatch.offset c.in-Dispatch.epoch
    c.in-Dispatch.attempt))

pub returns-in_default : goal.returns-in_default
returns-in_default c = λ h are. jobs-same (length c.args.jobs.now) c.args.event.now h
    c.args.jobs.now c.in_default.not-Dispatch are
