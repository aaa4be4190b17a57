-- A poll that is open is not refused, unless for want of room or memory.
use Rattle.pc_engine.specs.Engine.{given_of}
use Rattle.pc_laws.proofs.HeldLaw.{held-has_log}
use Rattle.pc_drain.proofs.RefusalLemmas.{opened, poll-refused}
use Rattle.pc_drain.proofs.act.poll.Goals as goal

pub poll-requires-clause-some : goal.poll-requires-clause-some
poll-requires-clause-some g c = (opened (given_of g.T.Task.outcome c.args.engine.now)
    c.args.engine.now.journal.events c.args.part c.args.count c.requires.opened).some

pub poll-requires-clause-few : goal.poll-requires-clause-few
poll-requires-clause-few g c = (opened (given_of g.T.Task.outcome c.args.engine.now)
    c.args.engine.now.journal.events c.args.part c.args.count c.requires.opened).few

pub called-requires : goal.called-requires
called-requires g c =
    let given = given_of g.T.Task.outcome c.args.engine.now in
    let h = c.args.engine.now.journal.events in
    let is = opened given h c.args.part c.args.count c.requires.opened in
    poll-refused given h c.poll.new.self.journal.events c.args.part c.args.count c.poll.result
    c.requires.goes_on
    (held-has_log given h c.args.part c.journal-legal.ensures.legal is.held) is
    c.poll.ensures.effect
