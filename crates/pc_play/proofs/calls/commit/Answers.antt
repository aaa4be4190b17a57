-- What the link did is told by the answer.
use Rattle.std.proofs.Common.{Ok, Err, None, refl, ap}
use Rattle.pc_script.specs.declared.play.PlayAct.TheVariants.{Commit}
use Rattle.pc_engine.specs.Effect.{commit_step}
use Rattle.pc_model.specs.Known.{commit_of}
use Rattle.pc_play.specs.Play.{given_by_rules, moment}
use Rattle.pc_play.proofs.CallLemmas.{committed, store-broke, calls-refused, err-wants, ok-wants}
use Rattle.pc_play.proofs.calls.commit.Goals as goal

pub returns-in-Ok-clause-effect : goal.returns-in-Ok-clause-effect
returns-in-Ok-clause-effect g c hand jobs has = committed (given_by_rules c.args.engine.now) c.args.engine.now.journal.events
    c.commit.new.self.journal.events (g.L.Link.is_told c.args.engine.now.link)
    (moment (g.L.Link.store c.args.engine.now.link) (g.L.Link.faults c.args.engine.now.link))
    (moment (g.L.Link.store c.commit.new.self.link) (g.L.Link.faults c.commit.new.self.link))
    jobs hand has c.args.part (Ok c.in-Ok.field-0) None (ok-wants c.in-Ok.field-0) refl
    (λ fault is. ap (λ l. moment (g.L.Link.store l) (g.L.Link.faults l))
    (c.in-Ok.ensures.refused fault is).2) c.in-Ok.ensures.asks.count
    c.in-Ok.ensures.effect

pub returns-in-Err-clause-effect : goal.returns-in-Err-clause-effect
returns-in-Err-clause-effect g c hand = calls-refused (g.L.Link.is_told c.args.engine.now.link)
    (given_by_rules c.args.engine.now) c.args.engine.now.journal.events (Commit c.args.part)
    (moment (g.L.Link.store c.args.engine.now.link) (g.L.Link.faults c.args.engine.now.link))
    (moment (g.L.Link.store c.commit.new.self.link) (g.L.Link.faults c.commit.new.self.link))
    c.commit.new.self.journal.events hand hand c.in-Err.fault c.refused.result
    (λ notice other is jobs has. committed (given_by_rules c.args.engine.now) c.args.engine.now.journal.events
    c.commit.new.self.journal.events (g.L.Link.is_told c.args.engine.now.link)
    (moment (g.L.Link.store c.args.engine.now.link) (g.L.Link.faults c.args.engine.now.link))
    (moment (g.L.Link.store c.commit.new.self.link) (g.L.Link.faults c.commit.new.self.link))
    jobs hand has c.args.part (Err c.in-Err.fault) notice (err-wants c.in-Err.fault other) is
    (λ fault is. ap (λ l. moment (g.L.Link.store l) (g.L.Link.faults l))
    (c.in-Err.ensures.refused fault is).2) c.in-Err.ensures.asks.count
    c.in-Err.ensures.effect)
    (λ none. store-broke (given_by_rules c.args.engine.now) c.args.engine.now.journal.events
    c.commit.new.self.journal.events (g.L.Link.is_told c.args.engine.now.link)
    (moment (g.L.Link.store c.args.engine.now.link) (g.L.Link.faults c.args.engine.now.link))
    (moment (g.L.Link.store c.commit.new.self.link) (g.L.Link.faults c.commit.new.self.link))
    (Commit c.args.part)
    (commit_step (given_by_rules c.args.engine.now) c.args.engine.now.journal.events c.args.part)
    c.args.part (commit_of (given_by_rules c.args.engine.now) c.args.engine.now.journal.events c.args.part).commit
    c.in-Err.fault none c.in-Err.ensures.stays c.in-Err.ensures.asks.count c.in-Err.ensures.effect)
    c.refused.ensures
