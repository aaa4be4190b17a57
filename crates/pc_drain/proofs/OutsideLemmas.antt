-- Why a turn is idle, or found the journal full or the link failed.
use Rattle.std.proofs.Common.{◌≡◌, ◌∙◌, ℕ, Bool, true, false, not, ◌&&◌, List, [], ◌∷◌, ◌++◌, Option, Some, None, Result, Ok, Err, refl, ap, sym, subst}
use Rattle.std.specs.Prelude.{if◌then◌else◌, nat_le, option_map, unwrap_or}
use Rattle.std.specs.List.{list_all}
use Rattle.std.specs.Option.{option_or}
use Rattle.pc_model.specs.declared.commit.SizedCommit.{SizedCommit}
use Rattle.pc_model.specs.declared.event.Event.{Event}
use Rattle.pc_model.specs.declared.event.Event.TheVariants.{Drain, Done as AllDone, Tick}
use Rattle.pc_model.specs.declared.outcome.Outcome.{Outcome}
use Rattle.pc_model.specs.declared.outcome.Outcome.TheVariants.{Good, Bad}
use Rattle.pc_model.specs.Record.{Record}
use Rattle.pc_model.specs.Given.{Given, has_log, parts_of}
use Rattle.pc_model.specs.Jobs.{has_ended, is_draining}
use Rattle.pc_model.specs.Epochs.{is_held}
use Rattle.pc_model.specs.Known.{commit_of, high_of, unpolled_records}
use Rattle.pc_model.specs.Pace.{is_tended}
use Rattle.pc_model.specs.Pressure.{is_blocked, is_upto_high}
use Rattle.pc_model.specs.Retry.{now_of}
use Rattle.pc_model.specs.Run.{is_at_rest}
use Rattle.pc_state.specs.declared.queries.Unfinished.{Unfinished}
use Rattle.pc_state.specs.declared.queries.Unfinished.TheVariants as state
use Rattle.pc_state.specs.Calls.{next_records}
use Rattle.pc_state.specs.Queries.{unfinished_part}
use Rattle.pc_task.specs.Jobs.{PlainJob}
use Rattle.pc_offset_client.specs.declared.fault.ClientFault.{ClientFault}
use Rattle.pc_offset_client.specs.declared.fault.ClientFault.TheVariants as client
use Rattle.pc_offset_client.specs.declared.fault.ClientFault.TheVariants.{LinkFailed}
use Rattle.pc_world.specs.World.{HasRisen}
use Rattle.pc_engine.specs.declared.engine.Committed.{Committed as Receipt}
use Rattle.pc_engine.specs.declared.fault.EngineFault.{EngineFault}
use Rattle.pc_engine.specs.declared.fault.EngineFault.TheVariants as fault
use Rattle.pc_engine.specs.Effect.{Step, Does, commit_after, commit_refusal, commit_step, commit_with, is_full, poll_after, poll_left, poll_refusal, poll_step, polls, refuses, tick_after, tick_refusal, tick_step}
use Rattle.pc_engine.specs.Ending.{adds_after, drain_refusal, drain_step, finish_refusal, finish_step}
use Rattle.pc_engine.specs.Fault.{unfinished_fault}
use Rattle.pc_engine.specs.Stand.{DoesAlone, Stand}
use Rattle.pc_drain.specs.declared.action.Action.{Action}
use Rattle.pc_drain.specs.declared.action.Action.TheVariants.{MoveClock, Commit, Poll, BeginDrain, Save, Finish, Rest}
use Rattle.pc_drain.specs.declared.turn.Turn.{Turn}
use Rattle.pc_drain.specs.declared.turn.Turn.TheVariants as turns
use Rattle.pc_drain.specs.declared.turn.Turn.TheVariants.{Client, Idle, JournalFull}
use Rattle.pc_drain.specs.Turn.{AfterClock, DoesAction, SettlesFound, call_turn, commit_turn, finish_turn, refused_turn, save_turn}
use Rattle.pc_drain.proofs.ActionLemmas.{IsReason}
use Rattle.pc_drain.proofs.StepLemmas.{CommitComes, commit-comes}
use Rattle.pc_drain.proofs.StepLemmas.CommitComes.{Failed, Stored, Unmade}

-- ---- what an answer never is as a turn

refused-idle : (f : EngineFault) → refused_turn f ≡ Idle → ⊥
refused-idle fault.JournalFull is = cc
refused-idle f is = cc

call-idle : {A : Type 0} (r : Result A EngineFault) → call_turn r ≡ Idle → ⊥
call-idle (Ok it) is = cc
call-idle (Err f) is = refused-idle f is

commit-idle : (r : Result Receipt EngineFault) → commit_turn r ≡ Idle → ⊥
commit-idle (Ok it) is = cc
commit-idle (Err (fault.Client failed)) is = cc
commit-idle (Err f) is = refused-idle f is

save-idle : (r : Result Receipt EngineFault) → save_turn r ≡ Idle → ⊥
save-idle (Ok it) is = cc
save-idle (Err (fault.Client failed)) is = cc
save-idle (Err f) is = refused-idle f is

finish-idle : (h : List Event) (r : Result (Unit {0}) EngineFault) → finish_turn h r ≡ Idle → ⊥
finish-idle h (Ok it) is = cc
finish-idle h (Err (fault.NotDone p o)) is = cc
finish-idle h (Err f) is = refused-idle f is

-- ---- idle

-- a turn is idle where nothing is to be done
abbrev pub IsIdle : Given → List Event → List Event → Bool → Type 0
IsIdle given h h' last = (h' ≡ h) × (list_all (is_tended given h) (parts_of given) ≡ true)
    × (last ≡ true → is_at_rest given h ≡ false)

pub idle-action : (told : Bool) (given : Given) (now : ℕ) (last : Bool) (before after : Stand)
    (turn : Turn) (a : Action) → IsReason given before.history now last a
    → DoesAction told given now a before after turn → turn ≡ Idle
    → IsIdle given before.history after.history last
idle-action told given now last before after turn MoveClock why does is =
    absurd (call-idle does.answer (sym does.turn_is ∙ is))
idle-action told given now last before after turn (Commit p) why does is =
    absurd (commit-idle does.answer (sym does.turn_is ∙ is))
idle-action told given now last before after turn (Poll p n) why does is =
    absurd (call-idle does.answer (sym does.turn_is ∙ is))
idle-action told given now last before after turn BeginDrain why does is =
    absurd (call-idle does.answer (sym does.turn_is ∙ is))
idle-action told given now last before after turn (Save p) why does is =
    absurd (save-idle does.answer (sym does.turn_is ∙ is))
idle-action told given now last before after turn Finish why does is =
    absurd (finish-idle before.history does.answer (sym does.turn_is ∙ is))
idle-action told given now last before after turn Rest why does is =
    (ap (λ (s : Stand). s.history) does.0, why.0, why.1)

-- ---- the journal is full

-- the step is refused so only where the journal is full
abbrev IsFullOnly : {A : Type 0} → Step A → List Event → Type 0
IsFullOnly step h = step.answer ≡ Err fault.JournalFull
    → (is_full h 1 ≡ true) × (step.events ≡ [])

full-or-none : (b : Bool) → (if b then Some fault.JournalFull else None) ≡ Some fault.JournalFull
    → b ≡ true
full-or-none true is = refl
full-or-none false is = cc

refused-full : (f : EngineFault) → refused_turn f ≡ JournalFull → f ≡ fault.JournalFull
refused-full fault.JournalFull is = refl
refused-full f is = cc

-- a call that did its step so
does-full : {A : Type 0} (r : Result A EngineFault) (step : Step A) (h h' : List Event)
    → IsFullOnly step h → Does r step h h' → r ≡ Err fault.JournalFull → is_full h' 1 ≡ true
does-full {A} r step h h' only does is =
    let at : Does (Err fault.JournalFull) step h h' =
    subst (λ (x : Result A EngineFault). Does x step h h') is does in
    let full = only (sym at.0) in
    subst (λ (k : List Event). is_full k 1 ≡ true)
    (sym (at.1 ∙ ap (λ (es : List Event). es ++ h) full.1)) full.0

-- what a call that may be refused first is refused by
module _ {A : Type 0} (h : List Event) where
  refused-by : (after : Option EngineFault → Step A)
      → ((f : EngineFault) → after (Some f) ≡ refuses f) → (x : Option EngineFault)
      → (x ≡ Some fault.JournalFull → is_full h 1 ≡ true) → IsFullOnly (after None) h
      → IsFullOnly (after x) h
  refused-by after same None full rest is = rest is
  refused-by after same (Some f) full rest is = (
    full (ap (λ (e : EngineFault). Some e) (same-fault f fault.JournalFull
        (sym (ap (λ (s : Step A). s.answer) (same f)) ∙ is))),
    ap (λ (s : Step A). s.events) (same f),
  )
    where
      same-fault : (e g : EngineFault) → ◌≡◌ {A = Result A EngineFault} (Err e) (Err g) → e ≡ g
      same-fault e g is = cc

tick-room : (a b c : Bool) → (if a then Some fault.Closed else if b then None
    else if c then Some fault.JournalFull else None) ≡ Some fault.JournalFull → c ≡ true
tick-room true b c is = cc
tick-room false true c is = cc
tick-room false false c is = full-or-none c is

tick-went : (h : List Event) (now : ℕ) (b : Bool) → IsFullOnly
    (if b then record { answer = Ok false; events = [] }
    else record { answer = Ok true; events = Tick now ∷ [] }) h
tick-went h now true is = cc
tick-went h now false is = cc

tick-full : (h : List Event) (now : ℕ) → IsFullOnly (tick_step h now) h
tick-full h now = refused-by h (tick_after h now) (λ f. refl) (tick_refusal h now)
    (tick-room (has_ended h) (nat_le now (now_of h)) (is_full h 1))
    (tick-went h now (nat_le now (now_of h)))

drain-room : (a b c : Bool) → (if a then Some fault.Closed else if b then Some fault.Draining
    else if c then Some fault.JournalFull else None) ≡ Some fault.JournalFull → c ≡ true
drain-room true b c is = cc
drain-room false true c is = cc
drain-room false false c is = full-or-none c is

drain-full : (h : List Event) → IsFullOnly (drain_step h) h
drain-full h = refused-by h (adds_after Drain) (λ f. refl) (drain_refusal h)
    (drain-room (has_ended h) (is_draining h) (is_full h 1)) (λ is. cc)

commit-room : (a b c d : Bool) → (if a then Some fault.Closed else if b then Some fault.UnknownPart
    else if c then Some fault.NotHeld else if d then Some fault.JournalFull else None)
    ≡ Some fault.JournalFull → d ≡ true
commit-room true b c d is = cc
commit-room false true c d is = cc
commit-room false false true d is = cc
commit-room false false false d is = full-or-none d is

commit-went : (h : List Event) (p : ℕ) (c : SizedCommit) (asked : Result (Unit {0}) ClientFault)
    → IsFullOnly (commit_with p c asked) h
commit-went h p c (Ok done) is = cc
commit-went h p c (Err client.NoMemory) is = cc
commit-went h p c (Err failed) is = cc

commit-full : (given : Given) (h : List Event) (p : ℕ) (asked : Result (Unit {0}) ClientFault)
    → IsFullOnly (commit_step given h p asked) h
commit-full given h p asked = refused-by h (commit_after given h p asked) (λ f. refl)
    (commit_refusal given h p)
    (commit-room (has_ended h) (not (has_log given p)) (not (is_held h p)) (is_full h 1))
    (commit-went h p (commit_of given h p) asked)

poll-room : (a b c d : Bool) → (if a then Some fault.Closed else if b then Some fault.UnknownPart
    else if c then Some fault.NotHeld else if d then Some fault.Draining else None)
    ≡ Some fault.JournalFull → ⊥
poll-room true b c d is = cc
poll-room false true c d is = cc
poll-room false false true d is = cc
poll-room false false false true is = cc
poll-room false false false false is = cc

poll-by : (given : Given) (h : List Event) (p n : ℕ) (b : Bool) → is_full h 1 ≡ b → IsFullOnly
    (if b then refuses fault.JournalFull else polls p (next_records given h p n)) h
poll-by given h p n true full is = (full, refl)
poll-by given h p n false room is = cc

poll-pressed : (given : Given) (h : List Event) (p n : ℕ) (b : Bool) → IsFullOnly
    (if b then refuses (fault.Pressed (unwrap_or (high_of given h p) 0))
    else if is_full h 1 then refuses fault.JournalFull else polls p (next_records given h p n)) h
poll-pressed given h p n true is = cc
poll-pressed given h p n false is = poll-by given h p n (is_full h 1) refl is

poll-went : (given : Given) (h : List Event) (p n : ℕ) (rs : List Record)
    → IsFullOnly (poll_left given h p n rs) h
poll-went given h p n [] is = cc
poll-went given h p n (r ∷ rs) is = poll-pressed given h p n
    (is_blocked given h p && not (is_upto_high given h p r.offset)) is

poll-full : (given : Given) (h : List Event) (p n : ℕ) → IsFullOnly (poll_step given h p n) h
poll-full given h p n = refused-by h (poll_after given h p n) (λ f. refl) (poll_refusal given h p)
    (λ is. absurd (poll-room (has_ended h) (not (has_log given p)) (not (is_held h p))
    (is_draining h) is))
    (poll-went given h p n (unpolled_records given h p))

finish-room : (a c : Bool) (o : Option Unfinished) → (if a then Some fault.Closed
    else option_or (option_map unfinished_fault o) (if c then Some fault.JournalFull else None))
    ≡ Some fault.JournalFull → c ≡ true
finish-room true c o is = cc
finish-room false c None is = full-or-none c is
finish-room false c (Some (state.NotDone p o)) is = cc
finish-room false c (Some (state.Uncommitted p s o)) is = cc

finish-full : (given : Given) (h : List Event) → IsFullOnly (finish_step given h) h
finish-full given h = refused-by h (adds_after AllDone) (λ f. refl) (finish_refusal given h)
    (finish-room (has_ended h) (is_full h 1) (unfinished_part given h)) (λ is. cc)

-- which answers say so as a turn
call-is-full : {A : Type 0} (r : Result A EngineFault) → call_turn r ≡ JournalFull
    → r ≡ Err fault.JournalFull
call-is-full (Ok it) is = cc
call-is-full (Err f) is = ap (λ (e : EngineFault). Err e) (refused-full f is)

commit-is-full : (r : Result Receipt EngineFault) → commit_turn r ≡ JournalFull
    → r ≡ Err fault.JournalFull
commit-is-full (Ok it) is = cc
commit-is-full (Err (fault.Client failed)) is = cc
commit-is-full (Err f) is = ap (λ (e : EngineFault). Err e) (refused-full f is)

save-is-full : (r : Result Receipt EngineFault) → save_turn r ≡ JournalFull
    → r ≡ Err fault.JournalFull
save-is-full (Ok it) is = cc
save-is-full (Err (fault.Client failed)) is = cc
save-is-full (Err f) is = ap (λ (e : EngineFault). Err e) (refused-full f is)

finish-is-full : (h : List Event) (r : Result (Unit {0}) EngineFault)
    → finish_turn h r ≡ JournalFull → r ≡ Err fault.JournalFull
finish-is-full h (Ok it) is = cc
finish-is-full h (Err (fault.NotDone p o)) is = cc
finish-is-full h (Err f) is = ap (λ (e : EngineFault). Err e) (refused-full f is)

module _ (told : Bool) (given : Given) (now : ℕ) (before after : Stand) (turn : Turn) where
  pub full-action : (a : Action) → DoesAction told given now a before after turn
      → turn ≡ JournalFull → is_full after.history 1 ≡ true
  full-action MoveClock does is = does-full does.answer (tick_step before.history now)
      before.history after.history (tick-full before.history now) does.does.does
      (call-is-full does.answer (sym does.turn_is ∙ is))
  full-action (Commit p) does is = does-full does.answer
      (commit_step given before.history p does.asked) before.history after.history
      (commit-full given before.history p does.asked) does.does
      (commit-is-full does.answer (sym does.turn_is ∙ is))
  full-action (Poll p n) does is = does-full does.answer (poll_step given before.history p n)
      before.history after.history (poll-full given before.history p n) does.does.does
      (call-is-full does.answer (sym does.turn_is ∙ is))
  full-action BeginDrain does is = does-full does.answer (drain_step before.history)
      before.history after.history (drain-full before.history) does.does.does
      (call-is-full does.answer (sym does.turn_is ∙ is))
  full-action (Save p) does is = does-full does.answer
      (commit_step given before.history p does.asked) before.history after.history
      (commit-full given before.history p does.asked) does.does
      (save-is-full does.answer (sym does.turn_is ∙ is))
  full-action Finish does is = does-full does.answer (finish_step given before.history)
      before.history after.history (finish-full given before.history) does.does.does
      (finish-is-full before.history does.answer (sym does.turn_is ∙ is))
  full-action Rest does is = let at : Idle ≡ JournalFull = sym does.1 ∙ is in cc

-- ---- a commit failed because the link did

refused-client : (f : EngineFault) (failed : ClientFault) → refused_turn f ≡ Client failed → ⊥
refused-client fault.JournalFull failed is = cc
refused-client f failed is = cc

call-client : {A : Type 0} (r : Result A EngineFault) (failed : ClientFault)
    → call_turn r ≡ Client failed → ⊥
call-client (Ok it) failed is = cc
call-client (Err f) failed is = refused-client f failed is

commit-client : (r : Result Receipt EngineFault) (failed : ClientFault)
    → commit_turn r ≡ Client failed → ⊥
commit-client (Ok it) failed is = cc
commit-client (Err (fault.Client other)) failed is = cc
commit-client (Err f) failed is = refused-client f failed is

finish-client : (h : List Event) (r : Result (Unit {0}) EngineFault) (failed : ClientFault)
    → finish_turn h r ≡ Client failed → ⊥
finish-client h (Ok it) failed is = cc
finish-client h (Err (fault.NotDone p o)) failed is = cc
finish-client h (Err f) failed is = refused-client f failed is

save-client : (r : Result Receipt EngineFault) (failed : ClientFault)
    → save_turn r ≡ Client failed → r ≡ Err (fault.Client failed)
save-client (Ok it) failed is = cc
save-client (Err (fault.Client other)) failed is =
    let same : other ≡ failed = cc in ap (λ (f : ClientFault). Err (fault.Client f)) same
save-client (Err f) failed is = absurd (refused-client f failed is)

-- what the link's client answered to the commit
asked-failed : (p : ℕ) (c : SizedCommit) (h h' : List Event) (asked : Result (Unit {0}) ClientFault)
    (r : Result Receipt EngineFault) (failed : ClientFault) → CommitComes p c h h' asked r
    → r ≡ Err (fault.Client failed) → asked ≡ Err failed
asked-failed p c h h' asked r failed (Unmade other same) is = absurd (other failed is)
asked-failed p c h h' asked r failed (Stored other same) is = absurd (other failed is)
asked-failed p c h h' asked r failed (Failed it its asked-is memory same) is =
    asked-is ∙ ap (λ (f : ClientFault). Err f) (same-failed it failed (sym its ∙ is))
  where
    same-failed : (f g : ClientFault)
        → ◌≡◌ {A = Result Receipt EngineFault} (Err (fault.Client f)) (Err (fault.Client g)) → f ≡ g
    same-failed f g is = cc

module _ (told : Bool) (given : Given) (now : ℕ) (before after : Stand) (turn : Turn) where
  pub cause-action : (a : Action) → DoesAction told given now a before after turn
      → turn ≡ Client LinkFailed → HasRisen before.faults after.faults
  cause-action MoveClock does is =
      absurd (call-client does.answer LinkFailed (sym does.turn_is ∙ is))
  cause-action (Commit p) does is =
      absurd (commit-client does.answer LinkFailed (sym does.turn_is ∙ is))
  cause-action (Poll p n) does is =
      absurd (call-client does.answer LinkFailed (sym does.turn_is ∙ is))
  cause-action BeginDrain does is =
      absurd (call-client does.answer LinkFailed (sym does.turn_is ∙ is))
  cause-action (Save p) does is = does.stored.cause
      (asked-failed p (commit_of given before.history p) before.history after.history does.asked
      does.answer LinkFailed
      (commit-comes given before.history after.history p does.asked does.answer does.does)
      (save-client does.answer LinkFailed (sym does.turn_is ∙ is)))
  cause-action Finish does is =
      absurd (finish-client before.history does.answer LinkFailed (sym does.turn_is ∙ is))
  cause-action Rest does is = let at : Idle ≡ Client LinkFailed = sym does.1 ∙ is in cc

-- ---- a result

-- a turn that found a result went, or was refused when the clock was to be moved
data IsMoving (h h' : List Event) (turn : Turn) : Type 0 where
  Went : turn ≡ turns.Went → IsMoving h h' turn
  Refused : (f : EngineFault) → turn ≡ refused_turn f → (f ≡ fault.JournalFull → is_full h' 1 ≡ true)
      → IsMoving h h' turn

module _ (given : Given) (now : ℕ) (job : PlainJob) (before after : Stand) (turn : Turn) where
  failed-moving : (code : ℕ) (between : Stand) (r : Result Bool EngineFault)
      → DoesAlone (tick_step before.history now) before between r
      → AfterClock given job (Bad code) between after turn r
      → IsMoving before.history after.history turn
  failed-moving code between (Ok it) clock rest = Went rest.1
  failed-moving code between (Err f) clock rest = Refused f rest.1
      (λ is. subst (λ (s : Stand). is_full s.history 1 ≡ true) (sym rest.0)
      (does-full (Err f) (tick_step before.history now) before.history between.history
      (tick-full before.history now) clock.does (ap (λ (e : EngineFault). Err e) is)))

  found-moving : (expected : Bool) (outcome : Outcome)
      → SettlesFound given now expected job outcome before after turn
      → IsMoving before.history after.history turn
  found-moving false outcome found = Went found.1
  found-moving true (Good answer) found = Went found.1
  found-moving true (Bad code) found =
      failed-moving code found.between found.answer found.clock found.rest

moving-full : (h h' : List Event) (turn : Turn) → IsMoving h h' turn → turn ≡ JournalFull
    → is_full h' 1 ≡ true
moving-full h h' turn (Went went) is = let at : turns.Went ≡ JournalFull = sym went ∙ is in cc
moving-full h h' turn (Refused f refused full) is = full (refused-full f (sym refused ∙ is))

moving-idle : (h h' : List Event) (turn : Turn) → IsMoving h h' turn → turn ≡ Idle → ⊥
moving-idle h h' turn (Went went) is = let at : turns.Went ≡ Idle = sym went ∙ is in cc
moving-idle h h' turn (Refused f refused full) is = refused-idle f (sym refused ∙ is)

moving-client : (h h' : List Event) (turn : Turn) (failed : ClientFault) → IsMoving h h' turn
    → turn ≡ Client failed → ⊥
moving-client h h' turn failed (Went went) is =
    let at : turns.Went ≡ Client failed = sym went ∙ is in cc
moving-client h h' turn failed (Refused f refused full) is =
    refused-client f failed (sym refused ∙ is)

module _ (given : Given) (now : ℕ) (job : PlainJob) (before after : Stand) (turn : Turn)
    (expected : Bool) (outcome : Outcome)
    (found : SettlesFound given now expected job outcome before after turn) where
  pub full-found : turn ≡ JournalFull → is_full after.history 1 ≡ true
  full-found = moving-full before.history after.history turn
      (found-moving given now job before after turn expected outcome found)

  pub idle-found : turn ≡ Idle → ⊥
  idle-found = moving-idle before.history after.history turn
      (found-moving given now job before after turn expected outcome found)

  pub client-found : (failed : ClientFault) → turn ≡ Client failed → ⊥
  client-found failed = moving-client before.history after.history turn failed
      (found-moving given now job before after turn expected outcome found)
