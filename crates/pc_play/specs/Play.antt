-- The play of a script: what each line does to the history and to the jobs in hand, and what it
-- leaves to be remarked.
use Rattle.std.specs.Prelude.{ℕ, ◌≡◌, ◌≤◌, ◌⊎◌, ◌==◌, Bool, true, false, if◌then◌else◌, List, [], ◌∷◌, ◌++◌, take, Option, Some, None, Result, Ok, Err}
use Rattle.pc_model.specs.declared.commit.Commit.{Commit as StoredCommit}
use Rattle.pc_model.specs.declared.event.Event.{Event}
use Rattle.pc_model.specs.Given.{Given}
use Rattle.pc_model.specs.Jobs.{has_ended}
use Rattle.pc_model.specs.Known.{commit_of}
use Rattle.pc_model.specs.Broker.{Broker}
use Rattle.pc_model.specs.Outcomes.{outcome_of}
use Rattle.pc_task.specs.declared.task.RuleTask.{RuleTask}
use Rattle.pc_task.specs.declared.task.Task.{Ghosts}
use Rattle.pc_task.specs.Jobs.{PlainJob, due_outcome}
use Rattle.pc_script.specs.declared.play.PlayAct.{PlayAct}
use Rattle.pc_script.specs.declared.play.PlayAct.TheVariants.{Assign, Commit, Poll, Take, End, Tick, Revoke, Lose, Crash, Drain, Done, Close}
use Rattle.pc_script.specs.declared.play.PlayLine.{PlayLine}
use Rattle.pc_offset_client.specs.declared.fault.ClientFault.{ClientFault}
use Rattle.pc_offset_client.specs.declared.fault.ClientFault.TheVariants.{NoMemory}
use Rattle.pc_engine.specs.declared.fault.EngineFault.{EngineFault}
use Rattle.pc_engine.specs.declared.fault.EngineFault.TheVariants.{Closed}
use Rattle.pc_engine.specs.declared.settled.Settled.{Settled}
use Rattle.pc_engine.specs.declared.settled.Settled.TheVariants as settled
use Rattle.pc_engine.specs.Engine.{EngineView, given_of}
use Rattle.pc_engine.specs.Effect.{IsFetched, IsStored, assign_refusal, assign_step, commit_refusal, commit_step, crash_step, lose_step, poll_step, revoke_refusal, revoke_step, settle_event, take_step, tick_step}
use Rattle.pc_engine.specs.Ending.{close_step, drain_step, finish_step}
use Rattle.pc_play.specs.declared.remark.Notice.{Notice}
use Rattle.pc_play.specs.declared.remark.Notice.TheVariants.{Refused, NoJob, AtEnd, OldTime, Stranger}
use Rattle.pc_play.specs.declared.remark.Remark.{Remark}
use Rattle.pc_play.specs.declared.hand.Hand.{Hand}
use Rattle.pc_play.specs.Hand.{HasInHand, job_with, without}

-- what an engine was given that runs the function of the rules
abbrev pub given_by_rules : {L : Type 0} → EngineView L RuleTask → Given
given_by_rules engine = given_of (λ _. outcome_of) engine

-- what the link's client answered when a line's call asked it: the commit that it fetched, or a
-- fault. Of a commit that was stored it says no more.
abbrev pub Asked : Type 0
Asked = Result StoredCommit ClientFault

abbrev pub done_by : Asked → Result (Unit {0}) ClientFault
done_by (Ok fetched) = Ok tt
done_by (Err fault) = Err fault

-- where a play stands: the history, the newest event first, the jobs in hand, which were taken and
-- not ended, the newest first, and the remarks, the oldest first
pub record Play : Type 0 where
  pub history : List Event
  pub hand : List PlainJob
  pub remarks : List Remark

abbrev pub start : Play
start = record { history = []; hand = []; remarks = [] }

-- ---- one line

-- what a line's call comes to: the events that it adds, the newest first, the jobs that are in hand
-- after it, and what is to be remarked
pub record LineStep : Type 0 where
  pub events : List Event
  pub hand : List PlainJob
  pub notice : Option Notice

-- a refusal is remarked; that the commit of a revocation failed is not remarked
abbrev pub call_notice : {A : Type 0} → Result A EngineFault → Option Notice
call_notice (Ok done) = None
call_notice (Err fault) = Some (Refused fault)

-- and so is a poll at the end of its part's log
abbrev pub poll_notice : Result ℕ EngineFault → Option Notice
poll_notice (Ok count) = if count == 0 then Some AtEnd else None
poll_notice (Err fault) = Some (Refused fault)

-- and a take that gives no job
abbrev pub take_notice : Result (Option PlainJob) EngineFault → Option Notice
take_notice (Ok None) = Some NoJob
take_notice (Ok (Some job)) = None
take_notice (Err fault) = Some (Refused fault)

-- and a tick to a time that is not later
abbrev pub tick_notice : Result Bool EngineFault → Option Notice
tick_notice (Ok true) = None
tick_notice (Ok false) = Some OldTime
tick_notice (Err fault) = Some (Refused fault)

-- a job that was taken comes into hand
abbrev pub hand_after : Result (Option PlainJob) EngineFault → List PlainJob → List PlainJob
hand_after (Ok (Some job)) hand = job ∷ hand
hand_after answer hand = hand

-- what is to be remarked of a result that the engine was given
abbrev pub settled_notice : {T : Type 0} {task : Ghosts T} → Settled T task → Option Notice
settled_notice (settled.Closed done) = Some (Refused Closed)
settled_notice (settled.Stranger done) = Some Stranger
settled_notice answer = None

-- the end of a job that was in hand: it is settled with the outcome that its rules give, unless the
-- engine has ended
abbrev pub end_job : Given → List Event → List PlainJob → PlainJob → LineStep
end_job given h others job = record {
  events = if has_ended h then [] else settle_event given h job (due_outcome outcome_of job) ∷ [];
  hand = others;
  notice = if has_ended h then Some (Refused Closed) else None;
}

-- the end of the job with a ticket, if it is in hand
abbrev pub end_step : Given → List Event → List PlainJob → ℕ → Option PlainJob → LineStep
end_step given h hand t None = record { events = []; hand = hand; notice = Some Stranger }
end_step given h hand t (Some job) = end_job given h (without t hand) job

-- what the call of a line comes to. The jobs in hand stay so when their part is given back or lost,
-- at a crash, and when the engine ends.
abbrev pub step_of : Given → List Event → List PlainJob → PlayAct → Asked → LineStep
step_of given h hand (Assign part) asked =
    let step = assign_step given h part asked in
    record { events = step.events; hand = hand; notice = call_notice step.answer }
step_of given h hand (Commit part) asked =
    let step = commit_step given h part (done_by asked) in
    record { events = step.events; hand = hand; notice = call_notice step.answer }
step_of given h hand (Poll part max) asked =
    let step = poll_step given h part max in
    record { events = step.events; hand = hand; notice = poll_notice step.answer }
step_of given h hand (Take worker) asked =
    let step = take_step given h worker in
    record {
      events = step.events;
      hand = hand_after step.answer hand;
      notice = take_notice step.answer;
    }
step_of given h hand (End ticket) asked = end_step given h hand ticket (job_with ticket hand)
step_of given h hand (Tick now) asked =
    let step = tick_step h now in
    record { events = step.events; hand = hand; notice = tick_notice step.answer }
step_of given h hand (Revoke part) asked =
    let step = revoke_step given h part (done_by asked) in
    record { events = step.events; hand = hand; notice = call_notice step.answer }
step_of given h hand (Lose part) asked =
    let step = lose_step given h part in
    record { events = step.events; hand = hand; notice = call_notice step.answer }
step_of given h hand Crash asked =
    let step = crash_step h in
    record { events = step.events; hand = hand; notice = call_notice step.answer }
step_of given h hand Drain asked =
    let step = drain_step h in
    record { events = step.events; hand = hand; notice = call_notice step.answer }
step_of given h hand Done asked =
    let step = finish_step given h in
    record { events = step.events; hand = hand; notice = call_notice step.answer }
step_of given h hand Close asked =
    let step = close_step h in
    record { events = step.events; hand = hand; notice = call_notice step.answer }

abbrev pub remarks_on : ℕ → Option Notice → List Remark
remarks_on n None = []
remarks_on n (Some notice) = record { line = n; notice = notice } ∷ []

abbrev pub after_step : Play → ℕ → LineStep → Play
after_step s n step = record {
  history = step.events ++ s.history;
  hand = step.hand;
  remarks = s.remarks ++ remarks_on n step.notice;
}

-- where the play stands after a line
abbrev pub after_line : Given → Play → PlayLine → Asked → Play
after_line given s line asked = after_step s line.line
    (step_of given s.history s.hand line.act asked)

-- ---- the link

-- the link at a moment: what its broker stores, as far as that is told, and how often it has failed
pub record Moment : Type 0 where
  pub store : Broker
  pub faults : ℕ

abbrev pub moment : Broker → ℕ → Moment
moment store faults = record { store = store; faults = faults }

-- what the link's client answered at a line, and the link after it
pub record Entry : Type 0 where
  pub asked : Asked
  pub after : Moment

-- The link was asked for what it stores for the part: over a link that tells its store this is the
-- broker's answer, and the store stays. It failed only where its count of faults rose.
pub record Fetches (told : Bool) (p : ℕ) (before : Moment) (entry : Entry) : Type 0 where
  pub fetched : IsFetched told before.store before.faults entry.after.faults p entry.asked
  pub keeps : told ≡ true → entry.after.store ≡ before.store
  pub later : before.faults ≤ entry.after.faults
  pub answered : entry.asked ≡ Err NoMemory → ⊥

-- The link was asked to store a commit for the part: over a link that tells its store it was stored
-- or not as the broker's step says. It failed only where its count of faults rose.
pub record Stores (told : Bool) (p : ℕ) (commit : StoredCommit) (before : Moment) (entry : Entry)
    : Type 0 where
  pub stored : IsStored told before.store entry.after.store before.faults entry.after.faults p commit
      (done_by entry.asked)
  pub later : before.faults ≤ entry.after.faults
  pub answered : entry.asked ≡ Err NoMemory → ⊥

-- a call that is refused asks nothing, and the link stays
abbrev pub Unless : Option EngineFault → Type 0 → Moment → Moment → Type 0
Unless (Some fault) asks before after = after ≡ before
Unless None asks before after = asks

-- what a line's call does to the link, and what it answers. A poll, a take, an end, a tick, a loss, a
-- crash, a drain, a done and a close ask nothing of it.
abbrev pub Asks : Bool → Given → List Event → PlayAct → Moment → Entry → Type 0
Asks told given h (Assign p) before entry =
    Unless (assign_refusal given h p) (Fetches told p before entry) before entry.after
Asks told given h (Commit p) before entry =
    Unless (commit_refusal given h p) (Stores told p (commit_of given h p).commit before entry)
    before entry.after
Asks told given h (Revoke p) before entry =
    Unless (revoke_refusal given h p) (Stores told p (commit_of given h p).commit before entry)
    before entry.after
Asks told given h act before entry = entry.after ≡ before

-- ---- all lines

-- The lines lead from the one place and moment to the other, each by what the link did at it: there
-- is an entry for each line.
unfoldable pub Trace : Bool → Given → Play → Moment → List PlayLine → List Entry → Play → Moment
    → Type 0
Trace told given s m [] [] t n = (s ≡ t) × (m ≡ n)
Trace told given s m [] (e ∷ entries) t n = ⊥
Trace told given s m (line ∷ lines) [] t n = ⊥
Trace told given s m (line ∷ lines) (e ∷ entries) t n =
    Asks told given s.history line.act m e
    × Trace told given (after_line given s line e.asked) e.after lines entries t n

-- the lines lead from the one place and moment to the other
pub record PlaysTo (told : Bool) (given : Given) (s : Play) (m : Moment) (lines : List PlayLine)
    (t : Play) (n : Moment) : Type 0 where
  pub entries : List Entry
  pub trace : Trace told given s m lines entries t n

-- what a call leaves that ran out of memory: a told store is as before
pub record IsAborted (told : Bool) (before after : Moment) : Type 0 where
  pub keeps : told ≡ true → after.store ≡ before.store
  pub later : before.faults ≤ after.faults

-- ---- what the code keeps to

-- a line's call with these jobs in hand came to this
pub record Comes (told : Bool) (given : Given) (h : List Event) (jobs : List PlainJob)
    (act : PlayAct) (before after : Moment) (h' : List Event) : Type 0 where
  pub asked : Asked
  pub asks : Asks told given h act before (record { asked = asked; after = after })
  pub events : h' ≡ (step_of given h jobs act asked).events ++ h

-- the same, with what is to be remarked and the jobs in hand after it
pub record Makes (told : Bool) (given : Given) (h : List Event) (jobs : List PlainJob)
    (act : PlayAct) (before after : Moment) (h' : List Event) (hand : Hand)
    (notice : Option Notice) : Type 0 where
  pub comes : Comes told given h jobs act before after h'
  pub notice_is : notice ≡ (step_of given h jobs act comes.asked).notice
  pub in_hand : HasInHand given h' (step_of given h jobs act comes.asked).hand hand

-- memory ran out at a line: its call came to something, or nothing of it is left
abbrev pub Breaks : Bool → Given → List Event → List PlainJob → PlayAct → Moment → Moment
    → List Event → Type 0
Breaks told given h jobs act before after h' =
    ((h' ≡ h) × IsAborted told before after) ⊎ Comes told given h jobs act before after h'

-- what a line's call comes to with any jobs in hand, or what is left of it when out of memory
abbrev pub Calls : {E : Type 0} → Bool → Given → List Event → PlayAct → Moment → Moment → List Event
    → Hand → Hand → Result (Option Notice) E → Type 0
Calls told given h act before after h' hand hand' (Ok notice) =
    (jobs : List PlainJob) → HasInHand given h jobs hand
    → Makes told given h jobs act before after h' hand' notice
Calls told given h act before after h' hand hand' (Err error) =
    (jobs : List PlainJob) → Breaks told given h jobs act before after h'

-- a line led from one place to another, with other jobs in hand
pub record LeadsTo (told : Bool) (given : Given) (s : Play) (line : PlayLine)
    (before after : Moment) (h : List Event) (hand : Hand) (remarks : List Remark) : Type 0 where
  pub asked : Asked
  pub asks : Asks told given s.history line.act before (record { asked = asked; after = after })
  pub jobs : List PlainJob
  pub end : after_line given s line asked
      ≡ record { history = h; hand = jobs; remarks = remarks }
  pub in_hand : HasInHand given h jobs hand

-- and so did these lines
pub record LeadTo (told : Bool) (given : Given) (s : Play) (lines : List PlayLine)
    (before after : Moment) (h : List Event) (hand : Hand) (remarks : List Remark) : Type 0 where
  pub jobs : List PlainJob
  pub plays : PlaysTo told given s before lines
      (record { history = h; hand = jobs; remarks = remarks }) after
  pub in_hand : HasInHand given h jobs hand

-- Memory ran out while these lines were played: the first of them led to this history, and of what
-- came after them nothing is left.
pub record StopsIn (told : Bool) (given : Given) (s : Play) (lines : List PlayLine)
    (before after : Moment) (h : List Event) : Type 0 where
  pub count : ℕ
  pub play : Play
  pub last : Moment
  pub plays : PlaysTo told given s before (take count lines) play last
  pub history_is : h ≡ play.history
  pub stopped : IsAborted told last after

-- what a play of these lines left: all were played, or memory ran out in it
abbrev pub IsPlayed : {V E : Type 0} → (V → List Remark) → Bool → Given → List PlayLine → Moment
    → Moment → List Event → Result V E → Type 0
IsPlayed items told given lines before after h (Ok remarks) = (jobs : List PlainJob)
    × PlaysTo told given start before lines
    (record { history = h; hand = jobs; remarks = items remarks }) after
IsPlayed items told given lines before after h (Err error) =
    StopsIn told given start lines before after h
