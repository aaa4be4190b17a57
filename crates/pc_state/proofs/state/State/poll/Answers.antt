-- The part is polled, and its open records are added.
use Rattle.std.proofs.Common.{◌≡◌, ◌≤◌, ℕ, true, false, length, List, refl, ap, sym, subst, ◌∙◌, arith}
use Rattle.std.specs.Prelude.{is_some, ◌<◌}
use Rattle.std.specs.List.{All}
use Rattle.pc_shards.specs.Entries.{Entry}
use Rattle.pc_model.specs.declared.event.Event.TheVariants.{Poll}
use Rattle.pc_state.specs.declared.part.PartState.{PartState}
use Rattle.pc_state.specs.State.{MayCome}
use Rattle.pc_laws.proofs.HeldLaw.{held-has_log}
use Rattle.pc_state.proofs.PartEvents.{known-below, known-epoch, known-held, known-part}
use Rattle.pc_state.proofs.PolledLemmas.{knows-taken, poll-above, poll-few, poll-next, poll-rises}
use Rattle.pc_state.proofs.QueryLemmas.{if_ok-of}
use Rattle.pc_state.proofs.state.State.poll.Goals as goal

pub index_mut-requires : goal.index_mut-requires
index_mut-requires c =
    let n = c.requires.held in
    let below = known-below n.0 n.1 c.args.self.now c.args.part n.2 (held-has_log n.0 n.1 c.args.part n.2.legal n.3) in
    omega (arith, below, c.args.self.now.parts.ok.0)

pub unreachable-requires-in_default-held : goal.unreachable-requires-in_default-held
unreachable-requires-in_default-held c =
    let n = c.requires.held in
    let keeps = known-part n.0 n.1 c.args.self.now c.args.part n.2 (held-has_log n.0 n.1 c.args.part n.2.legal n.3) _ in
    let none : false ≡ true = ap is_some (sym c.in_default-held.is)
    ∙ ap (λ (x : PartState). is_some x.held) c.index_mut.ensures.value ∙ keeps.held ∙ n.3 in cc

pub poll_held-requires-clause-log : goal.poll_held-requires-clause-log
poll_held-requires-clause-log c =
    let n = c.requires.held in
    let known = known-held n.0 n.1 c.args.self.now c.args.part n.2 n.3 c.index_mut.result.now _ c.in-Some-held.held
    c.index_mut.ensures.value c.in-Some-held.is in
    let are = c.in-Some.ensures.are n.0 n.1 n.2 n.3 in
    c.in-Some.ensures.log n.0 n.1 n.2 n.3 ∙ known.unpolled

pub poll_held-requires-clause-rises : goal.poll_held-requires-clause-rises
poll_held-requires-clause-rises c =
    let n = c.requires.held in
    let known = known-held n.0 n.1 c.args.self.now c.args.part n.2 n.3 c.index_mut.result.now _ c.in-Some-held.held
    c.index_mut.ensures.value c.in-Some-held.is in
    let are = c.in-Some.ensures.are n.0 n.1 n.2 n.3 in
    poll-rises n.0 n.1 c.args.self.now c.args.part 0 c.in-Some.next.left n.2 n.3 are c.in-Some-held.held known

pub poll_held-requires-clause-next : goal.poll_held-requires-clause-next
poll_held-requires-clause-next c =
    let n = c.requires.held in
    let known = known-held n.0 n.1 c.args.self.now c.args.part n.2 n.3 c.index_mut.result.now _ c.in-Some-held.held
    c.index_mut.ensures.value c.in-Some-held.is in
    let are = c.in-Some.ensures.are n.0 n.1 n.2 n.3 in
    poll-next n.0 n.1 c.args.self.now c.args.part 0 c.in-Some.next.left n.2 n.3 are c.in-Some-held.held known

pub poll_held-requires-clause-few : goal.poll_held-requires-clause-few
poll_held-requires-clause-few c =
    let n = c.requires.held in
    let known = known-held n.0 n.1 c.args.self.now c.args.part n.2 n.3 c.index_mut.result.now _ c.in-Some-held.held
    c.index_mut.ensures.value c.in-Some-held.is in
    let are = c.in-Some.ensures.are n.0 n.1 n.2 n.3 in
    let few : length c.in-Some.next.left ≤ 1000000 = omega (arith, c.in-Some.ensures.few, c.requires.few) in
    poll-few n.0 n.1 c.args.self.now c.args.part 0 c.in-Some.next.left n.2 n.3 are c.in-Some-held.held known few

pub poll_held-requires-clause-above : goal.poll_held-requires-clause-above
poll_held-requires-clause-above c =
    let n = c.requires.held in
    let known = known-held n.0 n.1 c.args.self.now c.args.part n.2 n.3 c.index_mut.result.now _ c.in-Some-held.held
    c.index_mut.ensures.value c.in-Some-held.is in
    let are = c.in-Some.ensures.are n.0 n.1 n.2 n.3 in
    subst (λ (es : List Entry). All (λ r. All (λ (e : Entry). e.record.offset < r.offset) es) c.in-Some.next.left)
    (sym (c.reserve.ensures.each c.args.part)) (poll-above n.0 n.1 c.args.self.now c.args.part 0 c.in-Some.next.left n.2 n.3 are c.in-Some-held.held known)

pub returns-clause-polled : goal.returns-clause-polled
returns-clause-polled c = if_ok-of c.poll_held.result _ _ _ _ _
    (λ taken is polled added others given h knows held may.
    let known = known-held given h c.args.self.now c.args.part knows held c.index_mut.result.now _ c.in-Some-held.held
    c.index_mut.ensures.value c.in-Some-held.is in
    let log = held-has_log given h c.args.part knows.legal held in
    knows-taken given h c.args.self.now c.args.part taken.last c.in-Some.next.left knows held
    (c.in-Some.ensures.are given h knows held) c.in-Some-held.held known
    (subst (λ (n : ℕ). MayCome given (Poll c.args.part n taken.last) h) is.count may)
    c.reserve.new.self _ c.index_mut.result.now.epoch taken.count c.poll_held.new.held c.reserve.ensures is.count
    (known-epoch given h c.args.self.now c.args.part knows log c.index_mut.result.now _ c.index_mut.ensures.value)
    refl refl refl added others refl refl refl refl refl refl polled)
    c.poll_held.ensures.taken c.poll_held.ensures.held c.poll_held.ensures.added c.poll_held.ensures.others
