-- The job is at work on a record that was polled and is incomplete.
use Rattle.std.proofs.Common.{◌≡◌, ◌+◌, ◌≤◌, ◌<◌, ℕ, length, vec_len, Some, refl, arith}
use Rattle.std.specs.Vec.{with_item}
use Rattle.pc_model.specs.declared.event.Event.TheVariants.{Success}
use Rattle.pc_model.specs.Jobs.{open_jobs}
use Rattle.pc_state.specs.declared.part.HeldPart.{HeldPart}
use Rattle.pc_state.specs.declared.part.PartState.{PartState}
use Rattle.pc_state.proofs.AtWork.{at-work, held-known, held-some, open-at, polled-below, state-first, window-incomplete}
use Rattle.pc_state.proofs.SuccessLemmas.{knows-success}
use Rattle.pc_state.proofs.state.State.succeed.Goals as goal

pub done-requires : goal.done-requires
done-requires c =
    let (given, h, job, knows, kept, part, offset, epoch, held) = c.requires in
    let work = at-work given h c.args.ticket c.args.part c.args.offset job kept part offset epoch
    held in
    let at = open-at given h c.args.ticket c.args.part c.args.offset knows.legal work in
    state-first given h c.args.self.now c.args.part c.args.offset knows held at

few-events : (n m : ℕ) → n + m ≤ 4000000 → n < 9223372036854775808
few-events n m limit = omega (arith, limit)

pub succeed-requires : goal.succeed-requires
succeed-requires c =
    let (given, h, job, knows, kept, part, offset, epoch, held) = c.requires in
    let work = at-work given h c.args.ticket c.args.part c.args.offset job kept part offset epoch
    held in
    let at = open-at given h c.args.ticket c.args.part c.args.offset knows.legal work in (
      given,
      h,
      c.args.ticket,
      c.args.offset,
      knows.ledger,
      knows.legal,
      work,
      polled-below given h c.args.part at.entry at.polled,
      few-events (length h) (length (open_jobs h)) knows.limit,
    )

within : (n m l k : ℕ) → n < m → k ≡ m → l ≡ k → n < l
within n m l k less count len = omega (arith, less, count, len)

pub index_mut-requires : goal.index_mut-requires
index_mut-requires c =
    let (given, h, job, knows, kept, part, offset, epoch, held) = c.requires in
    let work = at-work given h c.args.ticket c.args.part c.args.offset job kept part offset epoch
    held in
    let at = open-at given h c.args.ticket c.args.part c.args.offset knows.legal work in
    within c.args.part (length given.logs) (vec_len c.args.self.now.parts)
    (length c.args.self.now.parts.items) (polled-below given h c.args.part at.entry at.polled)
    knows.count c.args.self.now.parts.ok.0

pub succeed-requires-in-Some : goal.succeed-requires-in-Some
succeed-requires-in-Some c =
    let (given, h, job, knows, kept, part, offset, epoch, held) = c.requires in
    let work = at-work given h c.args.ticket c.args.part c.args.offset job kept part offset epoch
    held in
    let at = open-at given h c.args.ticket c.args.part c.args.offset knows.legal work in
    let below = polled-below given h c.args.part at.entry at.polled in
    window-incomplete given h c.args.part c.args.offset c.in-Some.held at
    (held-known given h c.args.self.now c.args.part c.index_mut.result.now c.in-Some.held knows
    below
    c.index_mut.ensures.value c.in-Some.is)

pub returns-in-Some : goal.returns-in-Some
returns-in-Some c = λ given h job answer knows kept part offset epoch held may.
    let next : HeldPart = record {
      window = c.succeed-in-Some.new.self;
      rest = c.in-Some.held.rest;
      size = c.in-Some.held.size;
    } in
    let state : PartState = record { epoch = c.index_mut.result.now.epoch; held = Some next } in
    let work = at-work given h c.args.ticket c.args.part c.args.offset job kept part offset epoch
    held in
    let at = open-at given h c.args.ticket c.args.part c.args.offset knows.legal work in
    knows-success given h c.args.ticket c.args.part c.args.offset answer c.args.self.now
    (record {
      setup = c.args.self.now.setup;
      logs = c.args.self.now.logs;
      parts = with_item c.args.self.now.parts c.args.part state;
      shards = c.done.new.self;
      retries = c.args.self.now.retries;
      jobs = c.remove.new.self;
      clock = c.args.self.now.clock;
      dispatched = c.args.self.now.dispatched;
      last = c.args.self.now.last;
      ledger = c.succeed.new.self;
    })
    c.index_mut.result.now state c.in-Some.held next knows may work
    (polled-below given h c.args.part at.entry at.polled)
    (record {
      setup = refl;
      logs = refl;
      items = refl;
      order = c.done.ensures.others.order;
      done = c.done.ensures.done;
      others = c.done.ensures.others.others;
      retries = refl;
      clock = refl;
      dispatched = refl;
      last = refl;
    })
    c.index_mut.ensures.value c.in-Some.is refl refl c.succeed-in-Some.ensures refl refl
    (c.remove.ensures h (Success c.args.ticket answer) knows.jobs)
    (c.succeed.ensures given h c.args.ticket c.args.offset answer knows.ledger knows.legal work
    (polled-below given h c.args.part at.entry at.polled))

pub returns-in_default : goal.returns-in_default
returns-in_default c = λ given h job answer knows kept part offset epoch held may.
    let work = at-work given h c.args.ticket c.args.part c.args.offset job kept part offset epoch
    held in
    let at = open-at given h c.args.ticket c.args.part c.args.offset knows.legal work in
    absurd (held-some given h c.args.self.now c.args.part c.index_mut.result.now knows
    (polled-below given h c.args.part at.entry at.polled) held c.index_mut.ensures.value
    c.in_default.is)
