-- The call did its step, unless memory ran out.
use Rattle.std.proofs.Common.{Ok, Err, None, Some, true, false, refl, ap}
use Rattle.pc_script.specs.declared.play.PlayAct.TheVariants.{Tick}
use Rattle.pc_engine.specs.Effect.{tick_step}
use Rattle.pc_play.specs.declared.remark.Notice.TheVariants.{OldTime}
use Rattle.pc_play.specs.Play.{given_by_rules, moment}
use Rattle.pc_play.proofs.CallLemmas.{call-broke, calls-refused, ticked, err-wants, ok-wants}
use Rattle.pc_play.proofs.calls.tick.Goals as goal

pub returns-in-Ok-true-clause-effect : goal.returns-in-Ok-true-clause-effect
returns-in-Ok-true-clause-effect g c hand jobs has = ticked (given_by_rules c.args.engine.now) c.args.engine.now.journal.events
    c.tick.new.self.journal.events (g.L.Link.is_told c.args.engine.now.link)
    (moment (g.L.Link.store c.args.engine.now.link) (g.L.Link.faults c.args.engine.now.link))
    (moment (g.L.Link.store c.tick.new.self.link) (g.L.Link.faults c.tick.new.self.link))
    jobs hand has
    (ap (λ l. moment (g.L.Link.store l) (g.L.Link.faults l)) c.in-Ok-true.ensures.keeps.link)
    c.args.now (Ok true) None (ok-wants true) refl
    (rw c.in-Ok-true.field-0-test at c.in-Ok-true.ensures.effect)

pub returns-in-Ok-false-clause-effect : goal.returns-in-Ok-false-clause-effect
returns-in-Ok-false-clause-effect g c hand jobs has = ticked (given_by_rules c.args.engine.now) c.args.engine.now.journal.events
    c.tick.new.self.journal.events (g.L.Link.is_told c.args.engine.now.link)
    (moment (g.L.Link.store c.args.engine.now.link) (g.L.Link.faults c.args.engine.now.link))
    (moment (g.L.Link.store c.tick.new.self.link) (g.L.Link.faults c.tick.new.self.link))
    jobs hand has
    (ap (λ l. moment (g.L.Link.store l) (g.L.Link.faults l)) c.in-Ok-false.ensures.keeps.link)
    c.args.now (Ok false) (Some OldTime) (ok-wants false) refl
    (rw c.in-Ok-false.field-0-test at c.in-Ok-false.ensures.effect)

pub returns-in-Err-clause-effect : goal.returns-in-Err-clause-effect
returns-in-Err-clause-effect g c hand = calls-refused (g.L.Link.is_told c.args.engine.now.link)
    (given_by_rules c.args.engine.now) c.args.engine.now.journal.events (Tick c.args.now)
    (moment (g.L.Link.store c.args.engine.now.link) (g.L.Link.faults c.args.engine.now.link))
    (moment (g.L.Link.store c.tick.new.self.link) (g.L.Link.faults c.tick.new.self.link))
    c.tick.new.self.journal.events hand hand c.in-Err.fault c.refused.result
    (λ notice other is jobs has. ticked (given_by_rules c.args.engine.now) c.args.engine.now.journal.events
    c.tick.new.self.journal.events (g.L.Link.is_told c.args.engine.now.link)
    (moment (g.L.Link.store c.args.engine.now.link) (g.L.Link.faults c.args.engine.now.link))
    (moment (g.L.Link.store c.tick.new.self.link) (g.L.Link.faults c.tick.new.self.link))
    jobs hand has
    (ap (λ l. moment (g.L.Link.store l) (g.L.Link.faults l)) c.in-Err.ensures.keeps.link)
    c.args.now (Err c.in-Err.fault) notice (err-wants c.in-Err.fault other) is c.in-Err.ensures.effect)
    (λ none. call-broke (given_by_rules c.args.engine.now) c.args.engine.now.journal.events
    c.tick.new.self.journal.events (g.L.Link.is_told c.args.engine.now.link)
    (moment (g.L.Link.store c.args.engine.now.link) (g.L.Link.faults c.args.engine.now.link))
    (moment (g.L.Link.store c.tick.new.self.link) (g.L.Link.faults c.tick.new.self.link))
    (Tick c.args.now) (tick_step c.args.engine.now.journal.events c.args.now) c.in-Err.fault none
    (ap (λ l. moment (g.L.Link.store l) (g.L.Link.faults l)) c.in-Err.ensures.keeps.link)
    c.in-Err.ensures.effect)
    c.refused.ensures
