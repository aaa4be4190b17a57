-- The poll is open where there is room, nothing drains, and the next record may be polled.
use Rattle.std.proofs.Common.{ℕ, ◌-◌, min, ap, sym, ◌∙◌}
use Rattle.pc_model.specs.declared.setup.Setup.{Setup}
use Rattle.pc_state.proofs.PollOpen.{none-draining, none-next, none-room, some-room}
use Rattle.pc_state.proofs.state.State.poll_open.Goals as goal
use Rattle.pc_state.proofs.state.State.poll_open.Goals.{then-room-eq0-via-then-room-eq0, then-room-eq0-via-else-room-eq0+then-self, then-room-eq0-via-else-room-eq0+else-self+then-not-may_poll}

pub returns-then-room-eq0 : goal.returns-then-room-eq0
returns-then-room-eq0 c = λ given h knows. elim c.then-room-eq0.branch [
  | then-room-eq0-via-then-room-eq0 w ↦
      none-room given h c.args.self.now c.args.part c.count.result knows c.count.ensures
      (ap (λ (s : Setup). s.settings.buffer - c.count.result) knows.setup
      ∙ sym c.saturating_sub-room.ensures ∙ w.if-room-eq0.true)
  | then-room-eq0-via-else-room-eq0+then-self w ↦
      none-draining given h c.args.part (sym knows.ledger.drains ∙ w.if-self.true)
  | then-room-eq0-via-else-room-eq0+else-self+then-not-may_poll w ↦
      none-next given h c.args.part (sym (w.may_poll.ensures given h knows) ∙ w.if-not-may_poll.true)
]

pub returns : goal.returns
returns c = λ given h knows.
    let buffer = ap (λ (s : Setup). s.settings.buffer - c.count.result) knows.setup in
    some-room given h c.args.self.now c.args.part c.count.result knows c.count.ensures
    (sym knows.ledger.drains ∙ c.if-self.false)
    (sym (c.may_poll.ensures given h knows) ∙ c.if-not-may_poll.false)
    (λ none. c.if-room-eq0.false (c.saturating_sub-room.ensures ∙ sym buffer ∙ none))
    c.min.result (c.min.ensures ∙ ap (λ (n : ℕ). min c.args.self.now.setup.now.settings.poll_max n)
    c.saturating_sub-room.ensures
    ∙ sym (ap (λ (s : Setup). min s.settings.poll_max (s.settings.buffer - c.count.result)) knows.setup))
