-- A part that is held is known, and its epoch is small.
use Rattle.std.proofs.Common.{◌+◌, ℕ, None, refl, ap, arith}
use Rattle.std.specs.Vec.{with_item}
use Rattle.pc_model.specs.Epochs.{epoch_of}
use Rattle.pc_state.specs.declared.part.PartState.{PartState}
use Rattle.pc_laws.proofs.HeldLaw.{held-has_log, log-below}
use Rattle.pc_state.proofs.PartEvents.{known-below, known-epoch, known-epoch_small}
use Rattle.pc_state.proofs.LedgerLemmas.{ledger-below}
use Rattle.pc_state.proofs.ReleaseLemmas.{knows-lost, knows-revoked}
use Rattle.pc_state.proofs.state.State.release.Goals as goal

pub index_mut-state-requires : goal.index_mut-state-requires
index_mut-state-requires c =
    let (given, h, knows, held) = c.requires in
    let below = known-below given h c.args.self.now c.args.part knows
    (held-has_log given h c.args.part knows.legal held) in
    omega (arith, below, c.args.self.now.parts.ok.0)

pub overflow_add-state : goal.overflow_add-state
overflow_add-state c =
    let (given, h, knows, held) = c.requires in
    let small = known-epoch_small given h c.args.self.now c.args.part knows
    (held-has_log given h c.args.part knows.legal held)
    c.index_mut-state.result.now _ c.index_mut-state.ensures.value in omega (arith, small)

pub returns-clause-epoch : goal.returns-clause-epoch
returns-clause-epoch c = λ given h knows held. known-epoch given h c.args.self.now c.args.part knows
    (held-has_log given h c.args.part knows.legal held)
    c.index_mut-state.result.now _ c.index_mut-state.ensures.value

pub returns-clause-lost : goal.returns-clause-lost
returns-clause-lost c = λ given h knows held may.
    let part : PartState = record { epoch = c.index_mut-state.result.now.epoch + 1; held = None } in
    knows-lost given h c.args.self.now
    (record {
      setup = c.args.self.now.setup;
      logs = c.args.self.now.logs;
      parts = with_item c.args.self.now.parts c.args.part part;
      shards = c.drop_part.new.self;
      retries = c.drop_part-2.new.self;
      jobs = c.args.self.now.jobs;
      clock = c.args.self.now.clock;
      dispatched = c.args.self.now.dispatched;
      last = c.args.self.now.last;
      ledger = c.release.new.self;
    })
    c.args.part part knows
    (record {
      setup = refl;
      logs = refl;
      items = refl;
      order = c.drop_part.ensures.others.order;
      dropped = c.drop_part.ensures.dropped;
      others = c.drop_part.ensures.others.others;
      retries = c.drop_part-2.ensures.retries;
      room = c.drop_part-2.ensures.room;
      rooms = c.drop_part-2.ensures.rooms;
      jobs = refl;
      clock = refl;
      dispatched = refl;
      last = refl;
    })
    held (ap (λ (e : ℕ). e + 1) (returns-clause-epoch c given h knows held)) refl may
    (c.release.ensures.lost given h (epoch_of h c.args.part) knows.ledger)

pub returns-clause-revoked : goal.returns-clause-revoked
returns-clause-revoked c = λ given h knows held may.
    let part : PartState = record { epoch = c.index_mut-state.result.now.epoch + 1; held = None } in
    knows-revoked given h c.args.self.now
    (record {
      setup = c.args.self.now.setup;
      logs = c.args.self.now.logs;
      parts = with_item c.args.self.now.parts c.args.part part;
      shards = c.drop_part.new.self;
      retries = c.drop_part-2.new.self;
      jobs = c.args.self.now.jobs;
      clock = c.args.self.now.clock;
      dispatched = c.args.self.now.dispatched;
      last = c.args.self.now.last;
      ledger = c.release.new.self;
    })
    c.args.part part knows
    (record {
      setup = refl;
      logs = refl;
      items = refl;
      order = c.drop_part.ensures.others.order;
      dropped = c.drop_part.ensures.dropped;
      others = c.drop_part.ensures.others.others;
      retries = c.drop_part-2.ensures.retries;
      room = c.drop_part-2.ensures.room;
      rooms = c.drop_part-2.ensures.rooms;
      jobs = refl;
      clock = refl;
      dispatched = refl;
      last = refl;
    })
    held (ap (λ (e : ℕ). e + 1) (returns-clause-epoch c given h knows held)) refl may
    (c.release.ensures.revoked given h (epoch_of h c.args.part) knows.ledger)

pub release-requires : goal.release-requires
release-requires c =
    let (given, h, knows, held) = c.requires in
    ledger-below given h c.args.self.now c.args.part knows
    (log-below given.logs c.args.part (held-has_log given h c.args.part knows.legal held))
