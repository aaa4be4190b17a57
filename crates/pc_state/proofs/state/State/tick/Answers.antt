-- Each retry that is taken out is of a record that waits, whose entry is free then.
use Rattle.std.proofs.Common.{refl, sym, ap, ◌∙◌}
use Rattle.pc_retry.specs.Waiting.{due_retry}
use Rattle.pc_state.proofs.DueLemmas.{none-due, one-due}
use Rattle.pc_state.proofs.TickLemmas.{knows-tick, ticks-fewer, ticks-none, ticks-start, ticks-step, ticks-there}
use Rattle.pc_state.proofs.state.State.tick.Goals as goal

pub loop-part-init : goal.loop-part-init
loop-part-init c = λ given h knows may. ticks-start given h c.args.self.now knows c.args.now _ refl
    refl refl refl refl refl refl refl refl refl

pub free-requires : goal.free-requires
free-requires c =
    let (given, h, knows, may) = c.requires in
    let one = one-due (due_retry c.args.now c.loop-part.self.retries.retries) c.in-Some.part
    c.in-Some.offset (sym c.due.ensures.due ∙ c.in-Some.is) in
    ticks-there given h c.args.now c.args.self.now c.loop-part.self one.0 c.in-Some.part
    c.in-Some.offset c.due.new.self.retries (c.loop-part.invariant given h knows may) one.1 one.2
    one.3 (c.due.ensures.taken one.0 one.1)

pub loop-part-smaller : goal.loop-part-smaller
loop-part-smaller c =
    let one = one-due (due_retry c.args.now c.loop-part.self.retries.retries) c.in-Some.part
    c.in-Some.offset (sym c.due.ensures.due ∙ c.in-Some.is) in
    ticks-fewer one.0 c.loop-part.self.retries.retries c.due.new.self.retries
    (c.due.ensures.taken one.0 one.1)

pub loop-part-preserved : goal.loop-part-preserved
loop-part-preserved c = λ given h knows may.
    let one = one-due (due_retry c.args.now c.loop-part.self.retries.retries) c.in-Some.part
    c.in-Some.offset (sym c.due.ensures.due ∙ c.in-Some.is) in
    ticks-step given h c.args.now c.args.self.now c.loop-part.self (record {
      setup = c.loop-part.self.setup;
      logs = c.loop-part.self.logs;
      parts = c.loop-part.self.parts;
      shards = c.free.new.self;
      retries = c.due.new.self;
      jobs = c.loop-part.self.jobs;
      clock = c.loop-part.self.clock;
      dispatched = c.loop-part.self.dispatched;
      last = c.loop-part.self.last;
      ledger = c.loop-part.self.ledger;
    }) one.0 c.in-Some.part c.in-Some.offset
    (c.loop-part.invariant given h knows may) one.1 (record {
      part = one.2;
      offset = one.3;
      setup = refl;
      logs = refl;
      items = refl;
      order = c.free.ensures.others.order;
      free = c.free.ensures.free;
      others = c.free.ensures.others.others;
      retries = c.due.ensures.taken one.0 one.1;
      room = c.due.ensures.room;
      rooms = c.due.ensures.rooms;
      jobs = refl;
      clock = refl;
      dispatched = refl;
      last = refl;
      ledger = refl;
    })

pub returns : goal.returns
returns c = λ given h knows may.
    let none = none-due (due_retry c.args.now c.loop-part.self.retries.retries)
    (sym c.due.ensures.due ∙ c.in_default.is) in
    let same = c.due.ensures.stays none in
    knows-tick given h c.args.now c.args.self.now
    (record c.loop-part.self { retries = c.due.new.self }) knows may
    (ticks-none given h c.args.now c.args.self.now c.loop-part.self c.due.new.self
    (c.loop-part.invariant given h knows may) same c.due.ensures.room c.due.ensures.rooms)
    (ap (due_retry c.args.now) same ∙ none)
