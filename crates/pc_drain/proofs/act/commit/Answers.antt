-- A held part has a log.
use Rattle.pc_engine.specs.Engine.{given_of}
use Rattle.pc_laws.proofs.HeldLaw.{held-has_log}
use Rattle.pc_drain.proofs.RefusalLemmas.{commit-refused, same-stand}
use Rattle.pc_drain.proofs.act.commit.Goals as goal

pub committed-requires : goal.committed-requires
committed-requires g c =
    let given = given_of g.T.Task.outcome c.args.engine.now in
    let h = c.args.engine.now.journal.events in
    commit-refused given h c.commit.new.self.journal.events c.args.part c.commit.ensures.effect.0
    c.commit.result c.requires.goes_on
    (held-has_log given h c.args.part c.journal-legal.ensures.legal c.requires.held) c.requires.held
    c.commit.ensures.effect.2

pub returns-clause-turn : goal.returns-clause-turn
returns-clause-turn g c = record {
  asked = c.commit.ensures.effect.0;
  stored = c.commit.ensures.effect.1;
  answer = c.commit.result;
  does = c.commit.ensures.effect.2;
  stays = c.commit.ensures.stays;
  unasked = λ refusal is.
      let same = c.commit.ensures.refused refusal is in
      same-stand g.L.Link.store g.L.Link.faults c.args.engine.now c.commit.new.self same.1 same.2;
  later = c.commit.ensures.asks.count;
  turn_is = c.committed.ensures;
}
