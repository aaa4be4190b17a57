-- Which action a control turn does where it found no result.
use Rattle.std.specs.Prelude.{ℕ, Bool, true, not, ◌&&◌, if◌then◌else◌, nat_lt, List, Option, Some, None, find, is_some, unwrap_or}
use Rattle.pc_model.specs.declared.event.Event.{Event}
use Rattle.pc_model.specs.Given.{Given, parts_of}
use Rattle.pc_model.specs.Jobs.{is_draining}
use Rattle.pc_model.specs.Pace.{is_time}
use Rattle.pc_model.specs.Retry.{now_of}
use Rattle.pc_model.specs.Run.{is_at_rest, is_commit_due, is_unsaved, poll_number}
use Rattle.pc_drain.specs.declared.action.Action.{Action}
use Rattle.pc_drain.specs.declared.action.Action.TheVariants.{MoveClock, Commit, Poll, BeginDrain, Save, Finish, Rest}

-- whether a record waits for this time or an earlier one, and the clock is not there yet
abbrev pub is_clock_due : Given → List Event → ℕ → Bool
is_clock_due given h now = is_time given h now && nat_lt (now_of h) now

-- the least part that has something to save, or else the end
abbrev pub save_action : Option ℕ → Action
save_action None = Finish
save_action (Some p) = Save p

-- the action of a run at rest whose steps are used up
abbrev pub rest_action : Given → List Event → Action
rest_action given h = if is_draining h
    then save_action (find (is_unsaved given h) (parts_of given)) else BeginDrain

-- the action after all polls, by whether the steps are used up
abbrev pub last_action : Given → List Event → Bool → Action
last_action given h last = if last && is_at_rest given h then rest_action given h else Rest

-- a poll of the least part whose poll is open, or else what comes after
abbrev pub poll_action : Given → List Event → Option ℕ → Action → Action
poll_action given h None after = after
poll_action given h (Some p) after = Poll p (unwrap_or (poll_number given h p) 0)

-- a commit of the least part whose commit is due, or else what comes after
abbrev pub commit_action : Option ℕ → Action → Action
commit_action None after = after
commit_action (Some p) after = Commit p

-- the first action that applies
abbrev pub action_of : Given → List Event → ℕ → Bool → Action
action_of given h now last = if is_clock_due given h now then MoveClock
    else commit_action (find (is_commit_due given h) (parts_of given))
    (poll_action given h (find (λ p. is_some (poll_number given h p)) (parts_of given))
    (last_action given h last))
