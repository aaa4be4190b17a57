use Rattle.std.proofs.Common.{refl}
use Rattle.pc_model.specs.declared.event.Event.TheVariants.{Stale}
use Rattle.pc_state.proofs.ResultLemmas.{knows-stale}
use Rattle.pc_state.proofs.state.State.forget.Goals as goal

pub returns : goal.returns
returns c = λ given h knows may. knows-stale given h c.args.ticket c.args.self.now
    (record {
      setup = c.args.self.now.setup;
      logs = c.args.self.now.logs;
      parts = c.args.self.now.parts;
      shards = c.args.self.now.shards;
      retries = c.args.self.now.retries;
      jobs = c.remove.new.self;
      clock = c.args.self.now.clock;
      dispatched = c.args.self.now.dispatched;
      last = c.args.self.now.last;
      ledger = c.args.self.now.ledger;
    })
    knows may (record {
      setup = refl;
      logs = refl;
      items = refl;
      shards = refl;
      retries = refl;
      clock = refl;
      dispatched = refl;
      last = refl;
      ledger = refl;
    })
    (c.remove.ensures h (Stale c.args.ticket) knows.jobs)
