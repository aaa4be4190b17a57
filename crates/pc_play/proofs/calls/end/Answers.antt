-- The job in hand is settled, or there is none.
use Rattle.std.proofs.Common.{refl, ap}
use Rattle.pc_script.specs.declared.play.PlayAct.TheVariants.{End}
use Rattle.pc_task.specs.Jobs.{plain_job}
use Rattle.pc_play.specs.Hand.{without}
use Rattle.pc_play.specs.Play.{given_by_rules, moment}
use Rattle.pc_play.proofs.CallLemmas.{calls-settled, ended, not-in-hand}
use Rattle.pc_play.proofs.calls.end.Goals as goal

pub returns-in-Some-clause-effect : goal.returns-in-Some-clause-effect
returns-in-Some-clause-effect g c = calls-settled (g.L.Link.is_told c.args.engine.now.link)
    (given_by_rules c.args.engine.now) c.args.engine.now.journal.events (End c.args.ticket)
    (moment (g.L.Link.store c.args.engine.now.link) (g.L.Link.faults c.args.engine.now.link))
    (moment (g.L.Link.store c.settle.new.engine.link) (g.L.Link.faults c.settle.new.engine.link))
    c.settle.new.engine.journal.events c.args.hand.now c.remove.new.self c.settle.result _
    (λ notice is jobs has. ended (given_by_rules c.args.engine.now) c.args.engine.now.journal.events
    c.settle.new.engine.journal.events (g.L.Link.is_told c.args.engine.now.link)
    (moment (g.L.Link.store c.args.engine.now.link) (g.L.Link.faults c.args.engine.now.link))
    (moment (g.L.Link.store c.settle.new.engine.link) (g.L.Link.faults c.settle.new.engine.link))
    jobs c.args.hand.now has (ap (λ l. moment (g.L.Link.store l) (g.L.Link.faults l)) c.settle.ensures.link)
    c.remove.new.self c.args.ticket (plain_job c.in-Some.job) notice
    (c.in-Some.ensures.job jobs has.each) (c.in-Some.ensures.others jobs has.each)
    (is (without c.args.ticket jobs)))
    (ap (λ l. moment (g.L.Link.store l) (g.L.Link.faults l)) c.settle.ensures.link)
    c.settle.ensures.settles c.settle.ensures.stays

pub returns-in-None-clause-effect : goal.returns-in-None-clause-effect
returns-in-None-clause-effect g c jobs has = not-in-hand (given_by_rules c.args.engine.now) c.args.engine.now.journal.events
    c.args.engine.now.journal.events (g.L.Link.is_told c.args.engine.now.link)
    (moment (g.L.Link.store c.args.engine.now.link) (g.L.Link.faults c.args.engine.now.link))
    (moment (g.L.Link.store c.args.engine.now.link) (g.L.Link.faults c.args.engine.now.link))
    jobs c.args.hand.now has refl
    c.remove.new.self c.args.ticket (c.in-None.ensures.job jobs has.each)
    (c.in-None.ensures.others jobs has.each) refl
