-- The take did its step, and a job that it gave came into hand.
use Rattle.std.proofs.Common.{Option, Some, None, Ok, Err, refl, ap, subst}
use Rattle.pc_script.specs.declared.play.PlayAct.TheVariants.{Take}
use Rattle.pc_task.specs.Jobs.{plain_job}
use Rattle.pc_task.specs.declared.job.Job.{Job}
use Rattle.pc_task.specs.declared.task.RuleTask.{RuleTask}
use Rattle.pc_engine.specs.Effect.{Does, take_step, taken}
use Rattle.pc_play.specs.declared.remark.Notice.TheVariants.{NoJob}
use Rattle.pc_play.specs.Play.{given_by_rules, moment}
use Rattle.pc_play.proofs.CallLemmas.{call-broke, calls-err, calls-refused, err-wants, ok-wants, take-comes, took}
use Rattle.pc_play.proofs.calls.take.Goals as goal

pub returns-in_ok-add-in-Ok-Some-clause-effect : goal.returns-in_ok-add-in-Ok-Some-clause-effect
returns-in_ok-add-in-Ok-Some-clause-effect g c jobs has = took (given_by_rules c.args.engine.now) c.args.engine.now.journal.events
    c.take.new.self.journal.events (g.L.Link.is_told c.args.engine.now.link)
    (moment (g.L.Link.store c.args.engine.now.link) (g.L.Link.faults c.args.engine.now.link))
    (moment (g.L.Link.store c.take.new.self.link) (g.L.Link.faults c.take.new.self.link))
    jobs c.args.hand.now has (ap (λ l. moment (g.L.Link.store l) (g.L.Link.faults l)) c.in-Ok-Some.ensures.keeps.link)
    c.add.new.self c.args.worker (Ok (Some (plain_job c.in-Ok-Some.job))) None
    (ok-wants (Some (plain_job c.in-Ok-Some.job))) refl
    (c.in_ok-add-in-Ok-Some.ensures jobs has.each) (subst
    (λ (x : Option (Job RuleTask)). Does (taken (Ok x))
    (take_step (given_by_rules c.args.engine.now) c.args.engine.now.journal.events c.args.worker)
    c.args.engine.now.journal.events c.take.new.self.journal.events) c.in-Ok-Some.field-0-is
    c.in-Ok-Some.ensures.effect)

pub returns-in_err-add-in-Ok-Some-clause-effect : goal.returns-in_err-add-in-Ok-Some-clause-effect
returns-in_err-add-in-Ok-Some-clause-effect g c =
    calls-err (g.L.Link.is_told c.args.engine.now.link)
    (given_by_rules c.args.engine.now) c.args.engine.now.journal.events (Take c.args.worker)
    (moment (g.L.Link.store c.args.engine.now.link) (g.L.Link.faults c.args.engine.now.link))
    (moment (g.L.Link.store c.take.new.self.link) (g.L.Link.faults c.take.new.self.link))
    c.take.new.self.journal.events c.args.hand.now c.add.new.self c.from_residual.result
    c.from_residual.ensures.0
    (take-comes (given_by_rules c.args.engine.now) c.args.engine.now.journal.events
    c.take.new.self.journal.events (g.L.Link.is_told c.args.engine.now.link)
    (moment (g.L.Link.store c.args.engine.now.link) (g.L.Link.faults c.args.engine.now.link))
    (moment (g.L.Link.store c.take.new.self.link) (g.L.Link.faults c.take.new.self.link))
    c.args.worker (Ok (Some (plain_job c.in-Ok-Some.job)))
    (ok-wants (Some (plain_job c.in-Ok-Some.job)))
    (ap (λ l. moment (g.L.Link.store l) (g.L.Link.faults l)) c.in-Ok-Some.ensures.keeps.link) (subst
    (λ (x : Option (Job RuleTask)). Does (taken (Ok x))
    (take_step (given_by_rules c.args.engine.now) c.args.engine.now.journal.events c.args.worker)
    c.args.engine.now.journal.events c.take.new.self.journal.events) c.in-Ok-Some.field-0-is
    c.in-Ok-Some.ensures.effect))

pub returns-in-Ok-None-clause-effect : goal.returns-in-Ok-None-clause-effect
returns-in-Ok-None-clause-effect g c jobs has = took (given_by_rules c.args.engine.now) c.args.engine.now.journal.events
    c.take.new.self.journal.events (g.L.Link.is_told c.args.engine.now.link)
    (moment (g.L.Link.store c.args.engine.now.link) (g.L.Link.faults c.args.engine.now.link))
    (moment (g.L.Link.store c.take.new.self.link) (g.L.Link.faults c.take.new.self.link))
    jobs c.args.hand.now has (ap (λ l. moment (g.L.Link.store l) (g.L.Link.faults l)) c.in-Ok-None.ensures.keeps.link)
    c.args.hand.now c.args.worker (Ok None) (Some NoJob) (ok-wants None) refl has.each
    (subst
    (λ (x : Option (Job RuleTask)). Does (taken (Ok x))
    (take_step (given_by_rules c.args.engine.now) c.args.engine.now.journal.events c.args.worker)
    c.args.engine.now.journal.events c.take.new.self.journal.events) c.in-Ok-None.field-0-is
    c.in-Ok-None.ensures.effect)

pub returns-in-Err-clause-effect : goal.returns-in-Err-clause-effect
returns-in-Err-clause-effect g c = calls-refused (g.L.Link.is_told c.args.engine.now.link)
    (given_by_rules c.args.engine.now) c.args.engine.now.journal.events (Take c.args.worker)
    (moment (g.L.Link.store c.args.engine.now.link) (g.L.Link.faults c.args.engine.now.link))
    (moment (g.L.Link.store c.take.new.self.link) (g.L.Link.faults c.take.new.self.link))
    c.take.new.self.journal.events c.args.hand.now c.args.hand.now c.in-Err.fault c.refused.result
    (λ notice other is jobs has. took (given_by_rules c.args.engine.now) c.args.engine.now.journal.events
    c.take.new.self.journal.events (g.L.Link.is_told c.args.engine.now.link)
    (moment (g.L.Link.store c.args.engine.now.link) (g.L.Link.faults c.args.engine.now.link))
    (moment (g.L.Link.store c.take.new.self.link) (g.L.Link.faults c.take.new.self.link))
    jobs c.args.hand.now has (ap (λ l. moment (g.L.Link.store l) (g.L.Link.faults l)) c.in-Err.ensures.keeps.link)
    c.args.hand.now c.args.worker (Err c.in-Err.fault) notice (err-wants c.in-Err.fault other) is
    has.each c.in-Err.ensures.effect)
    (λ none. call-broke (given_by_rules c.args.engine.now) c.args.engine.now.journal.events
    c.take.new.self.journal.events (g.L.Link.is_told c.args.engine.now.link)
    (moment (g.L.Link.store c.args.engine.now.link) (g.L.Link.faults c.args.engine.now.link))
    (moment (g.L.Link.store c.take.new.self.link) (g.L.Link.faults c.take.new.self.link))
    (Take c.args.worker) (take_step (given_by_rules c.args.engine.now) c.args.engine.now.journal.events c.args.worker) c.in-Err.fault none
    (ap (λ l. moment (g.L.Link.store l) (g.L.Link.faults l)) c.in-Err.ensures.keeps.link)
    c.in-Err.ensures.effect)
    c.refused.ensures
