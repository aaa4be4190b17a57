-- Where all is saved, only a record that is not finished, room or memory refuses the end.
use Rattle.std.proofs.Common.{Err, subst}
use Rattle.std.specs.Prelude.{IfErr}
use Rattle.pc_engine.specs.Engine.{given_of}
use Rattle.pc_drain.specs.Turn.{IsEndRefusal}
use Rattle.pc_drain.proofs.RefusalLemmas.{finish-refused}
use Rattle.pc_drain.proofs.act.finish.Goals as goal

pub unfinished-requires : goal.unfinished-requires
unfinished-requires g c =
    finish-refused (given_of g.T.Task.outcome c.args.engine.now) c.args.engine.now.journal.events
    c.finish.new.self.journal.events (Err c.in-Err.fault) c.requires.goes_on c.requires.saved
    c.in-Err.ensures.effect
