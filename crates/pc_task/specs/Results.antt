-- The job that a result is of.
use Rattle.pc_batch.specs.Record.{plain}
use Rattle.pc_task.specs.declared.finished.Finished.{Finished}
use Rattle.pc_task.specs.declared.task.Task.{Ghosts}
use Rattle.pc_task.specs.Jobs.{PlainJob}

-- the job that a result is of
abbrev pub finished_job : {T : Type 0} {task : Ghosts T} → Finished T task → PlainJob
finished_job done = record {
  ticket = done.ticket;
  worker = done.worker;
  part = done.part;
  epoch = done.epoch;
  attempt = done.attempt;
  entry = plain done.entry;
  rules = done.rules.now;
}
