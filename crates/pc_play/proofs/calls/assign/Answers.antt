-- What the link did is told by the answer.
use Rattle.std.proofs.Common.{Ok, Err, None, refl, ap}
use Rattle.pc_script.specs.declared.play.PlayAct.TheVariants.{Assign}
use Rattle.pc_play.specs.Play.{given_by_rules, moment}
use Rattle.pc_play.proofs.CallLemmas.{assigned, assign-broke, calls-refused, err-wants, ok-wants}
use Rattle.pc_engine.proofs.EngineLemmas.{stores_only-same}
use Rattle.pc_play.proofs.calls.assign.Goals as goal

pub returns-in-Ok-clause-effect : goal.returns-in-Ok-clause-effect
returns-in-Ok-clause-effect g c hand jobs has = assigned (given_by_rules c.args.engine.now) c.args.engine.now.journal.events
    c.assign.new.self.journal.events (g.L.Link.is_told c.args.engine.now.link)
    (moment (g.L.Link.store c.args.engine.now.link) (g.L.Link.faults c.args.engine.now.link))
    (moment (g.L.Link.store c.assign.new.self.link) (g.L.Link.faults c.assign.new.self.link))
    jobs hand has c.args.part (Ok tt) None (ok-wants tt) refl
    (λ fault is. ap (λ l. moment (g.L.Link.store l) (g.L.Link.faults l))
    (c.in-Ok.ensures.refused fault is).2) c.in-Ok.ensures.keeps c.in-Ok.ensures.asks.count
    c.in-Ok.ensures.effect

pub returns-in-Err-clause-effect : goal.returns-in-Err-clause-effect
returns-in-Err-clause-effect g c hand = calls-refused (g.L.Link.is_told c.args.engine.now.link)
    (given_by_rules c.args.engine.now) c.args.engine.now.journal.events (Assign c.args.part)
    (moment (g.L.Link.store c.args.engine.now.link) (g.L.Link.faults c.args.engine.now.link))
    (moment (g.L.Link.store c.assign.new.self.link) (g.L.Link.faults c.assign.new.self.link))
    c.assign.new.self.journal.events hand hand c.in-Err.fault c.refused.result
    (λ notice other is jobs has. assigned (given_by_rules c.args.engine.now) c.args.engine.now.journal.events
    c.assign.new.self.journal.events (g.L.Link.is_told c.args.engine.now.link)
    (moment (g.L.Link.store c.args.engine.now.link) (g.L.Link.faults c.args.engine.now.link))
    (moment (g.L.Link.store c.assign.new.self.link) (g.L.Link.faults c.assign.new.self.link))
    jobs hand has c.args.part (Err c.in-Err.fault) notice (err-wants c.in-Err.fault other) is
    (λ fault is. ap (λ l. moment (g.L.Link.store l) (g.L.Link.faults l))
    (c.in-Err.ensures.refused fault is).2) c.in-Err.ensures.keeps c.in-Err.ensures.asks.count
    c.in-Err.ensures.effect)
    (λ none. assign-broke (given_by_rules c.args.engine.now) c.args.engine.now.journal.events
    c.assign.new.self.journal.events (g.L.Link.is_told c.args.engine.now.link)
    (moment (g.L.Link.store c.args.engine.now.link) (g.L.Link.faults c.args.engine.now.link))
    (moment (g.L.Link.store c.assign.new.self.link) (g.L.Link.faults c.assign.new.self.link))
    c.args.part c.in-Err.fault none c.in-Err.ensures.keeps c.in-Err.ensures.asks.count
    c.in-Err.ensures.effect)
    c.refused.ensures

pub returns-in-Ok-clause-keeps : goal.returns-in-Ok-clause-keeps
returns-in-Ok-clause-keeps g c = λ told. stores_only-same _ _ _ (c.in-Ok.ensures.keeps told)

pub returns-in-Err-clause-keeps : goal.returns-in-Err-clause-keeps
returns-in-Err-clause-keeps g c = λ told. stores_only-same _ _ _ (c.in-Err.ensures.keeps told)
