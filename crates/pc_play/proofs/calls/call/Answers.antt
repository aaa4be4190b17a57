-- Each call does what its line asks for.
use Rattle.pc_play.proofs.calls.call.Goals as goal

pub returns-in-Assign-clause-effect : goal.returns-in-Assign-clause-effect
returns-in-Assign-clause-effect g c =
    rw c.in-Assign.is (c.assign.ensures.effect c.args.hand.now)

pub returns-in-Commit-clause-effect : goal.returns-in-Commit-clause-effect
returns-in-Commit-clause-effect g c =
    rw c.in-Commit.is (c.commit.ensures.effect c.args.hand.now)

pub returns-in-Poll-clause-effect : goal.returns-in-Poll-clause-effect
returns-in-Poll-clause-effect g c =
    rw c.in-Poll.is (c.poll.ensures.effect c.args.hand.now)

pub returns-in-Tick-clause-effect : goal.returns-in-Tick-clause-effect
returns-in-Tick-clause-effect g c =
    rw c.in-Tick.is (c.tick.ensures.effect c.args.hand.now)

pub returns-in-Revoke-clause-effect : goal.returns-in-Revoke-clause-effect
returns-in-Revoke-clause-effect g c =
    rw c.in-Revoke.is (c.revoke.ensures.effect c.args.hand.now)

pub returns-in-Lose-clause-effect : goal.returns-in-Lose-clause-effect
returns-in-Lose-clause-effect g c =
    rw c.in-Lose.is (c.lose.ensures.effect c.args.hand.now)

pub returns-in-Crash-clause-effect : goal.returns-in-Crash-clause-effect
returns-in-Crash-clause-effect g c =
    rw c.in-Crash.is (c.crash.ensures.effect c.args.hand.now)

pub returns-in-Drain-clause-effect : goal.returns-in-Drain-clause-effect
returns-in-Drain-clause-effect g c =
    rw c.in-Drain.is (c.drain.ensures.effect c.args.hand.now)

pub returns-in-Done-clause-effect : goal.returns-in-Done-clause-effect
returns-in-Done-clause-effect g c =
    rw c.in-Done.is (c.done.ensures.effect c.args.hand.now)

pub returns-in-Close-clause-effect : goal.returns-in-Close-clause-effect
returns-in-Close-clause-effect g c =
    rw c.in-Close.is (c.close.ensures.effect c.args.hand.now)
