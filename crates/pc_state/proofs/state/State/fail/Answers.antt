-- The job is at work on a record that was polled and is incomplete.
use Rattle.std.proofs.Common.{◌<◌, ◌≤◌, ◌+◌, ◌∷◌, ℕ, true, false, refl, ap, sym, ◌∙◌, arith}
use Rattle.pc_model.specs.declared.event.Event.TheVariants.{Failure}
use Rattle.pc_shards.specs.Entries.{of_part, with_busy}
use Rattle.pc_state.specs.State.{is_early}
use Rattle.pc_state.proofs.AtWork.{at-work, open-at, state-first}
use Rattle.pc_state.proofs.OutLemmas.{out-some}
use Rattle.pc_laws.proofs.HeldLaw.{held-has_log, log-below}
use Rattle.pc_state.proofs.FailureLemmas.{knows-failure}
use Rattle.pc_state.proofs.FailureTests.{early-false, early-then, early-true, entry-failures, entry-there, place-there, spent-then}
use Rattle.pc_state.proofs.state.State.fail.Goals as goal

pub fail-requires-clause-first : goal.fail-requires-clause-first
fail-requires-clause-first c =
    let (given, h, job, knows, kept, part, offset, epoch, held) = c.requires in
    let work = at-work given h c.args.ticket c.args.part c.args.offset job kept part offset epoch
    held in
    state-first given h c.args.self.now c.args.part c.args.offset knows held
    (open-at given h c.args.ticket c.args.part c.args.offset knows.legal work)

small : (n : ℕ) → n ≤ 4000000 → n + 1 < 4294967296
small n le = omega (arith, le)

pub fail-requires-clause-fits : goal.fail-requires-clause-fits
fail-requires-clause-fits c = λ e i at.
    let (given, h, job, knows, kept, part, offset, epoch, held) = c.requires in
    small e.failures (entry-failures given h c.args.self.now c.args.part e knows i)

pub put-requires-clause-room : goal.put-requires-clause-room
put-requires-clause-room c =
    let (given, h, job, knows, kept, part, offset, epoch, held) = c.requires in
    place-there given h c.args.ticket c.args.part c.args.offset c.args.self.now knows
    (at-work given h c.args.ticket c.args.part c.args.offset job kept part offset epoch held)

pub put-requires-clause-part : goal.put-requires-clause-part
put-requires-clause-part c =
    let (given, h, job, knows, kept, part, offset, epoch, held) = c.requires in
    let some = out-some given h knows.legal c.args.ticket c.args.part c.args.offset
    (at-work given h c.args.ticket c.args.part c.args.offset job kept part offset epoch held) in
    let le = knows.part_places c.args.part held in omega (arith, some, le)

pub count_failure-requires : goal.count_failure-requires
count_failure-requires c =
    let (given, h, job, knows, kept, part, offset, epoch, held) = c.requires in (
      given,
      h,
      c.args.ticket,
      knows.ledger,
      knows.legal,
      at-work given h c.args.ticket c.args.part c.args.offset job kept part offset epoch held,
      log-below given.logs c.args.part (held-has_log given h c.args.part knows.legal held),
      omega (arith, knows.limit),
    )

pub free-requires : goal.free-requires
free-requires c =
    let (given, h, job, knows, kept, part, offset, epoch, held) = c.requires in
    let work = at-work given h c.args.ticket c.args.part c.args.offset job kept part offset epoch
    held in
    entry-there given h c.args.ticket c.args.part c.args.offset 0 c.args.ready_at c.args.self.now
    knows work (of_part c.fail.new.self c.args.part) c.fail.ensures.failed

pub returns-then-is_spent : goal.returns-then-is_spent
returns-then-is_spent c = λ given h job code knows kept part offset epoch held may.
    let work = at-work given h c.args.ticket c.args.part c.args.offset job kept part offset epoch
    held in
    let es = of_part c.fail.new.self c.args.part in
    knows-failure given h c.args.ticket c.args.part c.args.offset code c.args.ready_at
    c.args.self.now (record {
      setup = c.args.self.now.setup;
      logs = c.args.self.now.logs;
      parts = c.args.self.now.parts;
      shards = c.fail.new.self;
      retries = c.args.self.now.retries;
      jobs = c.remove.new.self;
      clock = c.args.self.now.clock;
      dispatched = c.args.self.now.dispatched;
      last = c.args.self.now.last;
      ledger = c.count_failure.new.self;
    }) true (is_early (Failure c.args.ticket code c.args.ready_at ∷ h) c.args.part c.args.offset)
    knows work
    (record {
      setup = refl;
      logs = refl;
      items = refl;
      order = c.fail.ensures.others.order;
      entries = c.fail.ensures.failed;
      others = c.fail.ensures.others.others;
      put = λ none. cc;
      stays = λ none. refl;
      room = omega arith;
      part_room = omega arith;
      rooms = λ q apart. refl;
      clock = refl;
      dispatched = refl;
      last = refl;
    })
    (sym c.if-is_spent.true ∙ c.is_spent.ensures ∙ spent-then given h c.args.ticket c.args.part
    c.args.offset code c.args.ready_at c.args.self.now knows work es c.fail.ensures.failed)
    refl may (c.remove.ensures h (Failure c.args.ticket code c.args.ready_at) knows.jobs)
    (c.count_failure.ensures given h c.args.ticket code c.args.ready_at knows.ledger knows.legal work
    (log-below given.logs c.args.part (held-has_log given h c.args.part knows.legal held)))

pub returns-then-self-ready_at : goal.returns-then-self-ready_at
returns-then-self-ready_at c = λ given h job code knows kept part offset epoch held may.
    let work = at-work given h c.args.ticket c.args.part c.args.offset job kept part offset epoch
    held in
    let es = of_part c.fail.new.self c.args.part in
    knows-failure given h c.args.ticket c.args.part c.args.offset code c.args.ready_at
    c.args.self.now (record {
      setup = c.args.self.now.setup;
      logs = c.args.self.now.logs;
      parts = c.args.self.now.parts;
      shards = c.fail.new.self;
      retries = c.put.new.self;
      jobs = c.remove.new.self;
      clock = c.args.self.now.clock;
      dispatched = c.args.self.now.dispatched;
      last = c.args.self.now.last;
      ledger = c.count_failure.new.self;
    }) false true knows work
    (record {
      setup = refl;
      logs = refl;
      items = refl;
      order = c.fail.ensures.others.order;
      entries = c.fail.ensures.failed;
      others = c.fail.ensures.others.others;
      put = λ waits. c.put.ensures.retries;
      stays = λ none. cc;
      room = c.put.ensures.room;
      part_room = c.put.ensures.part_room;
      rooms = c.put.ensures.rooms;
      clock = refl;
      dispatched = refl;
      last = refl;
    })
    (sym c.if-is_spent.false ∙ c.is_spent.ensures ∙ spent-then given h c.args.ticket c.args.part
    c.args.offset code c.args.ready_at c.args.self.now knows work es c.fail.ensures.failed)
    (early-true c.args.ready_at c.args.self.now.clock c.if-self-ready_at.true
    ∙ sym (early-then given h c.args.ticket c.args.part c.args.offset code c.args.ready_at
    c.args.self.now knows work es c.fail.ensures.failed))
    may (c.remove.ensures h (Failure c.args.ticket code c.args.ready_at) knows.jobs)
    (c.count_failure.ensures given h c.args.ticket code c.args.ready_at knows.ledger knows.legal work
    (log-below given.logs c.args.part (held-has_log given h c.args.part knows.legal held)))

pub returns-else-self-ready_at : goal.returns-else-self-ready_at
returns-else-self-ready_at c = λ given h job code knows kept part offset epoch held may.
    let work = at-work given h c.args.ticket c.args.part c.args.offset job kept part offset epoch
    held in
    let es = of_part c.fail.new.self c.args.part in
    knows-failure given h c.args.ticket c.args.part c.args.offset code c.args.ready_at
    c.args.self.now (record {
      setup = c.args.self.now.setup;
      logs = c.args.self.now.logs;
      parts = c.args.self.now.parts;
      shards = c.free.new.self;
      retries = c.args.self.now.retries;
      jobs = c.remove.new.self;
      clock = c.args.self.now.clock;
      dispatched = c.args.self.now.dispatched;
      last = c.args.self.now.last;
      ledger = c.count_failure.new.self;
    }) false false knows work
    (record {
      setup = refl;
      logs = refl;
      items = refl;
      order = c.free.ensures.others.order ∙ c.fail.ensures.others.order;
      entries = c.free.ensures.free ∙ ap (with_busy c.args.offset false) c.fail.ensures.failed;
      others = λ q apart. c.free.ensures.others.others q apart ∙ c.fail.ensures.others.others q apart;
      put = λ none. cc;
      stays = λ none. refl;
      room = omega arith;
      part_room = omega arith;
      rooms = λ q apart. refl;
      clock = refl;
      dispatched = refl;
      last = refl;
    })
    (sym c.if-is_spent.false ∙ c.is_spent.ensures ∙ spent-then given h c.args.ticket c.args.part
    c.args.offset code c.args.ready_at c.args.self.now knows work es c.fail.ensures.failed)
    (early-false c.args.ready_at c.args.self.now.clock c.if-self-ready_at.false
    ∙ sym (early-then given h c.args.ticket c.args.part c.args.offset code c.args.ready_at
    c.args.self.now knows work es c.fail.ensures.failed))
    may (c.remove.ensures h (Failure c.args.ticket code c.args.ready_at) knows.jobs)
    (c.count_failure.ensures given h c.args.ticket code c.args.ready_at knows.ledger knows.legal work
    (log-below given.logs c.args.part (held-has_log given h c.args.part knows.legal held)))
