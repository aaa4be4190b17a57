-- The call did its step, unless memory ran out.
use Rattle.std.proofs.Common.{Ok, Err, ap}
use Rattle.pc_script.specs.declared.play.PlayAct.TheVariants.{Poll}
use Rattle.pc_engine.specs.Effect.{poll_step}
use Rattle.pc_play.specs.Play.{given_by_rules, moment}
use Rattle.pc_play.proofs.CallLemmas.{call-broke, calls-refused, polled, err-wants, ok-wants}
use Rattle.pc_play.proofs.calls.poll.Goals as goal

pub returns-in-Ok-clause-effect : goal.returns-in-Ok-clause-effect
returns-in-Ok-clause-effect g c hand jobs has = polled (given_by_rules c.args.engine.now) c.args.engine.now.journal.events
    c.poll.new.self.journal.events (g.L.Link.is_told c.args.engine.now.link)
    (moment (g.L.Link.store c.args.engine.now.link) (g.L.Link.faults c.args.engine.now.link))
    (moment (g.L.Link.store c.poll.new.self.link) (g.L.Link.faults c.poll.new.self.link))
    jobs hand has
    (ap (λ l. moment (g.L.Link.store l) (g.L.Link.faults l)) c.in-Ok.ensures.keeps.link)
    c.args.part c.args.max (Ok c.in-Ok.count) c.polled.result (ok-wants c.in-Ok.count)
    c.polled.ensures c.in-Ok.ensures.effect

pub returns-in-Err-clause-effect : goal.returns-in-Err-clause-effect
returns-in-Err-clause-effect g c hand = calls-refused (g.L.Link.is_told c.args.engine.now.link)
    (given_by_rules c.args.engine.now) c.args.engine.now.journal.events (Poll c.args.part c.args.max)
    (moment (g.L.Link.store c.args.engine.now.link) (g.L.Link.faults c.args.engine.now.link))
    (moment (g.L.Link.store c.poll.new.self.link) (g.L.Link.faults c.poll.new.self.link))
    c.poll.new.self.journal.events hand hand c.in-Err.fault c.refused.result
    (λ notice other is jobs has. polled (given_by_rules c.args.engine.now) c.args.engine.now.journal.events
    c.poll.new.self.journal.events (g.L.Link.is_told c.args.engine.now.link)
    (moment (g.L.Link.store c.args.engine.now.link) (g.L.Link.faults c.args.engine.now.link))
    (moment (g.L.Link.store c.poll.new.self.link) (g.L.Link.faults c.poll.new.self.link))
    jobs hand has
    (ap (λ l. moment (g.L.Link.store l) (g.L.Link.faults l)) c.in-Err.ensures.keeps.link)
    c.args.part c.args.max (Err c.in-Err.fault) notice (err-wants c.in-Err.fault other) is c.in-Err.ensures.effect)
    (λ none. call-broke (given_by_rules c.args.engine.now) c.args.engine.now.journal.events
    c.poll.new.self.journal.events (g.L.Link.is_told c.args.engine.now.link)
    (moment (g.L.Link.store c.args.engine.now.link) (g.L.Link.faults c.args.engine.now.link))
    (moment (g.L.Link.store c.poll.new.self.link) (g.L.Link.faults c.poll.new.self.link))
    (Poll c.args.part c.args.max) (poll_step (given_by_rules c.args.engine.now) c.args.engine.now.journal.events c.args.part c.args.max) c.in-Err.fault none
    (ap (λ l. moment (g.L.Link.store l) (g.L.Link.faults l)) c.in-Err.ensures.keeps.link)
    c.in-Err.ensures.effect)
    c.refused.ensures
