-- Jobs and tickets, and whether a history has ended or drains. A history is a list of events, the
-- newest first.
use Rattle.std.specs.Prelude.{ℕ, Bool, true, false, not, ◌&&◌, ◌||◌, ◌==◌, List, [], ◌∷◌, length, Option, Some, None, is_some, find, filter}
use Rattle.std.specs.List.{cons_option}
use Rattle.pc_model.specs.declared.event.Event.{Event}
use Rattle.pc_model.specs.declared.event.Event.TheVariants.{Dispatch, Success, Failure, Stale, Crash, Drain, Done, Closed}

-- the job that a dispatch begins
pub record Job : Type 0 where
  pub ticket : ℕ
  pub worker : ℕ
  pub part : ℕ
  pub offset : ℕ
  pub epoch : ℕ
  pub attempt : ℕ

-- the job that this event dispatches
abbrev pub job_in : Event → Option Job
job_in (Dispatch t w p o e a) = Some
    (record { ticket = t; worker = w; part = p; offset = o; epoch = e; attempt = a })
job_in _ = None

-- the jobs that were dispatched, the newest first
abbrev pub jobs_of : List Event → List Job
jobs_of [] = []
jobs_of (e ∷ h) = cons_option (job_in e) (jobs_of h)

-- how many jobs were dispatched. The next ticket is one more
abbrev pub dispatch_count : List Event → ℕ
dispatch_count h = length (jobs_of h)

-- the job of a ticket, if it was dispatched
abbrev pub job_of : List Event → ℕ → Option Job
job_of h t = find (λ j. j.ticket == t) (jobs_of h)

-- whether this event settles the ticket
abbrev pub settles : Event → ℕ → Bool
settles (Success t answer) u = t == u
settles (Failure t code ready) u = t == u
settles (Stale t) u = t == u
settles _ u = false

-- whether the ticket has its result
abbrev pub is_settled : List Event → ℕ → Bool
is_settled [] t = false
is_settled (e ∷ h) t = settles e t || is_settled h t

-- whether the ticket was dispatched and has no result yet
abbrev pub is_outstanding : List Event → ℕ → Bool
is_outstanding h t = is_some (job_of h t) && not (is_settled h t)

-- the jobs without a result, the newest first
abbrev pub open_jobs : List Event → List Job
open_jobs h = filter (λ j. not (is_settled h j.ticket)) (jobs_of h)

-- whether this event is the last that a history may have
abbrev pub is_end : Event → Bool
is_end Done = true
is_end Closed = true
is_end _ = false

-- whether the history holds an event after which none may follow
abbrev pub has_ended : List Event → Bool
has_ended [] = false
has_ended (e ∷ h) = is_end e || has_ended h

-- whether a history drains after this event, if it did so before or not
abbrev pub drains_after : Event → Bool → Bool
drains_after Drain before = true
drains_after Crash before = false
drains_after _ before = before

-- whether a drain was begun since the last crash
abbrev pub is_draining : List Event → Bool
is_draining [] = false
is_draining (e ∷ h) = drains_after e (is_draining h)
