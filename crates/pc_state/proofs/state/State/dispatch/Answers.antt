-- The next record was polled and is incomplete, and its part is held.
use Rattle.std.proofs.Common.{◌≡◌, ◌+◌, ◌<◌, ◌==◌, ℕ, List, length, vec_len, Option, None, Some, refl, ap, sym, ◌∙◌, arith}
use Rattle.std.specs.Prelude.{find, option_map}
use Rattle.pc_model.specs.declared.event.Event.{Event}
use Rattle.pc_model.specs.Given.{Given}
use Rattle.pc_model.specs.Jobs.{dispatch_count}
use Rattle.pc_model.specs.Epochs.{epoch_of}
use Rattle.pc_model.specs.Next.{next_record}
use Rattle.pc_model.specs.Retry.{failures_of}
use Rattle.pc_shards.specs.Entries.{Entry, of_part}
use Rattle.pc_shards.specs.Part.{plain}
use Rattle.pc_state.specs.declared.state.State.{State}
use Rattle.pc_state.specs.State.{Knows}
use Rattle.pc_state.proofs.DispatchLemmas.{dispatched-small, failed-small, job-due, knows-dispatch, next-below, next-held, next-open}
use Rattle.pc_state.proofs.AtWork.{entry-found, state-first}
use Rattle.pc_state.proofs.state.State.dispatch.Goals as goal

next-found : (given : Given) (h : List Event) (s : State) (p o : ℕ) (e : Option Entry)
    → Knows given h s → next_record given h ≡ Some (p, o)
    → e ≡ find (λ e. e.record.offset == o) (of_part s.shards p) → e ≡ None → ⊥
next-found given h s p o e knows next is none =
    let found = entry-found given h s p o knows (next-held given h p o next)
    (next-open given h p o next) in
    let nothing : ◌≡◌ {A = Option Entry} None (Some _) = sym none ∙ is ∙ found in cc nothing

pub make_places-requires : goal.make_places-requires
make_places-requires g c = let (given, h, knows, next) = c.requires in
    (given, h, knows, next-held given h c.args.part c.args.offset next)

pub unreachable-requires : goal.unreachable-requires
unreachable-requires g c =
    let (given, h, knows, next) = c.requires in
    next-found given h c.make_places.new.self c.args.part c.args.offset
    (option_map plain c.entry.result) (c.make_places.ensures.stays given h knows) next
    c.entry.ensures (ap (option_map plain) c.in_default.is)

pub overflow_add-attempt : goal.overflow_add-attempt
overflow_add-attempt g c =
    let (given, h, knows, next) = c.requires in
    let small = failed-small given h c.make_places.new.self c.args.part c.args.offset
    (plain c.in-Some.entry) (c.make_places.ensures.stays given h knows) next
    (sym (ap (option_map plain) c.in-Some.is) ∙ c.entry.ensures) in
    omega (arith, small)

pub overflow_add-ticket : goal.overflow_add-ticket
overflow_add-ticket g c =
    let (given, h, knows, next) = c.requires in
    let small = dispatched-small given h c.make_places.new.self
    (c.make_places.ensures.stays given h knows) in omega (arith, small)

within : (n m l k : ℕ) → n < m → k ≡ m → l ≡ k → n < l
within n m l k less count len = omega (arith, less, count, len)

pub index-requires : goal.index-requires
index-requires g c =
    let (given, h, knows, next) = c.requires in
    within c.args.part (length given.logs) (vec_len c.make_places.new.self.parts)
    (length c.make_places.new.self.parts.items) (next-below given h c.args.part c.args.offset next)
    (c.make_places.ensures.stays given h knows).count c.make_places.new.self.parts.ok.0

pub dispatch-requires-clause-held : goal.dispatch-requires-clause-held
dispatch-requires-clause-held g c = let (given, h, knows, next) = c.requires in
    let mid = c.make_places.ensures.stays given h knows in (
      given,
      h,
      mid.ledger,
      next-below given h c.args.part c.args.offset next,
      next-held given h c.args.part c.args.offset next,
      omega (arith, knows.limit),
    )

pub busy-requires : goal.busy-requires
busy-requires g c =
    let (given, h, knows, next) = c.requires in
    state-first given h c.make_places.new.self c.args.part c.args.offset
    (c.make_places.ensures.stays given h knows)
    (next-held given h c.args.part c.args.offset next)
    (next-open given h c.args.part c.args.offset next)

pub returns-clause-job : goal.returns-clause-job
returns-clause-job g c = λ given h knows next.
    let mid = c.make_places.ensures.stays given h knows in
    job-due given h c.make_places.new.self c.args.worker
    c.args.part c.args.offset c.index.result.now (plain c.in-Some.entry)
    c.make_places.new.self.setup.now.settings.rules mid next c.index.ensures
    (sym (ap (option_map plain) c.in-Some.is) ∙ c.entry.ensures) refl

pub returns-clause-dispatched : goal.returns-clause-dispatched
returns-clause-dispatched g c = λ given h knows next may.
    let mid = c.make_places.ensures.stays given h knows in
    let held = next-held given h c.args.part c.args.offset next in
    let below = next-below given h c.args.part c.args.offset next in
    knows-dispatch given h c.make_places.new.self
    (record {
      setup = c.make_places.new.self.setup;
      logs = c.make_places.new.self.logs;
      parts = c.make_places.new.self.parts;
      shards = c.busy.new.self;
      retries = c.make_places.new.self.retries;
      jobs = c.add.new.self;
      clock = c.make_places.new.self.clock;
      dispatched = c.make_places.new.self.dispatched + 1;
      last = Some c.args.part;
      ledger = c.dispatch.new.self;
    })
    c.args.worker c.args.part c.args.offset c.index.result.now (plain c.in-Some.entry) mid next may
    (record {
      setup = refl;
      logs = refl;
      items = refl;
      order = c.busy.ensures.others.order;
      busy = c.busy.ensures.busy;
      others = c.busy.ensures.others.others;
      retries = refl;
      rooms = λ q. omega arith;
      clock = refl;
      dispatched = refl;
      last = refl;
    })
    c.index.ensures (sym (ap (option_map plain) c.in-Some.is) ∙ c.entry.ensures)
    (c.in_ok-make_places.ensures.retries given h knows)
    (c.in_ok-make_places.ensures.part given h knows held)
    (λ settled. c.dispatch.ensures given h (dispatch_count h + 1) c.args.worker c.args.offset
    (epoch_of h c.args.part) (failures_of h c.args.part c.args.offset + 1) mid.ledger below held
    settled refl)
    (c.in_ok-add.ensures.added h c.args.worker)
