-- The first record that is left, and the high that presses.
use Rattle.pc_state.proofs.PollOpen.{one-free, one-pressed}
use Rattle.pc_state.proofs.state.State.may_poll.Goals as goal

pub returns-in-Some-pressing : goal.returns-in-Some-pressing
returns-in-Some-pressing c = λ given h knows.
    let held = (c.in-Some.ensures.knows given h knows).0 in
    one-pressed given h c.args.part held c.in-Some-first_left.first
    (c.in-Some-first_left.ensures given h knows held) c.in-Some-pressing.high
    (c.in-Some-pressing.ensures given h knows held)

pub returns-in-None : goal.returns-in-None
returns-in-None c = λ given h knows.
    let held = (c.in-Some.ensures.knows given h knows).0 in
    one-free given h c.args.part held c.in-Some-first_left.first
    (c.in-Some-first_left.ensures given h knows held) knows.legal
    (c.in-None.ensures given h knows held)
