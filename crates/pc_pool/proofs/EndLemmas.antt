-- What a control turn adds to a history, and what it means where it ends the run.
use Rattle.std.proofs.Common.{◌≡◌, ◌∙◌, ℕ, Bool, true, false, inl, inr, List, [], ◌∷◌, ◌++◌, Option, Some, None, Result, Ok, Err, refl, ap, sym, subst}
use Rattle.std.specs.Prelude.{if◌then◌else◌, option_map}
use Rattle.std.specs.Option.{option_or}
use Rattle.pc_model.specs.declared.commit.SizedCommit.{SizedCommit}
use Rattle.pc_model.specs.declared.event.Event.{Event}
use Rattle.pc_model.specs.declared.event.Event.TheVariants.{Poll as Polled, CommitFailed, Tick, Drain, Done as AllDone}
use Rattle.pc_model.specs.declared.outcome.Outcome.{Outcome}
use Rattle.pc_model.specs.declared.outcome.Outcome.TheVariants.{Good, Bad}
use Rattle.pc_model.specs.Given.{Given}
use Rattle.pc_model.specs.Jobs.{has_ended, is_draining}
use Rattle.pc_model.specs.Known.{commit_of, position_of}
use Rattle.pc_model.specs.Retry.{failures_of}
use Rattle.pc_state.specs.declared.queries.Unfinished.{Unfinished}
use Rattle.pc_state.specs.declared.queries.Unfinished.TheVariants as state
use Rattle.pc_state.specs.Queries.{first_uncommitted, first_unfinished, unfinished_part}
use Rattle.pc_task.specs.Jobs.{PlainJob}
use Rattle.pc_offset_client.specs.declared.fault.ClientFault.{ClientFault}
use Rattle.pc_offset_client.specs.declared.fault.ClientFault.TheVariants as client
use Rattle.pc_engine.specs.declared.engine.Committed.{Committed as Receipt}
use Rattle.pc_engine.specs.declared.fault.EngineFault.{EngineFault}
use Rattle.pc_engine.specs.declared.fault.EngineFault.TheVariants as fault
use Rattle.pc_engine.specs.Effect.{Does, IsStored, is_full, settle_event}
use Rattle.pc_engine.specs.Ending.{adds_after, finish_refusal, finish_step}
use Rattle.pc_engine.specs.Fault.{unfinished_fault}
use Rattle.pc_engine.specs.Stand.{Stand}
use Rattle.pc_state_lock.specs.History.{Continues}
use Rattle.pc_drain.specs.declared.action.Action.{Action}
use Rattle.pc_drain.specs.declared.action.Action.TheVariants.{MoveClock, Commit, Poll, BeginDrain, Save, Finish, Rest}
use Rattle.pc_drain.specs.declared.turn.Turn.{Turn}
use Rattle.pc_drain.specs.declared.turn.Turn.TheVariants.{Went, Idle, Done, Undrained, Client, JournalFull, NoMemory}
use Rattle.pc_drain.specs.Turn.{AfterClock, Commits, DoesAction, SettlesFound, call_turn, commit_turn, finish_turn, refused_turn, save_turn}
use Rattle.pc_drain.proofs.ActionLemmas.{IsOver, IsReason}
use Rattle.pc_drain.proofs.ResultLemmas.{Grows, tick-grows}
use Rattle.pc_drain.proofs.ResultLemmas.Grows.{Same, More}
use Rattle.pc_drain.proofs.StepLemmas.{CommitComes, commit-comes, drain-grows, finish-comes, poll-grows}
use Rattle.pc_drain.proofs.StepLemmas.CommitComes.{Failed, Stored, Unmade}

-- ---- the history goes on

pub later-same : (h h' : List Event) → h' ≡ h → Continues h' h
later-same h h' same = record { added = []; is = same }

later-more : (e : Event) (h h' : List Event) → h' ≡ e ∷ h → Continues h' h
later-more e h h' same = record { added = e ∷ []; is = same }

later-grown : (e : Event) (h h' : List Event) → Grows e h h' → Continues h' h
later-grown e h h' (Same same) = later-same h h' same
later-grown e h h' (More same) = later-more e h h' same

later-commit : (p : ℕ) (c : SizedCommit) (h h' : List Event) (asked : Result (Unit {0}) ClientFault)
    (r : Result Receipt EngineFault) → CommitComes p c h h' asked r → Continues h' h
later-commit p c h h' asked r (Unmade other same) = later-same h h' same
later-commit p c h h' asked r (Stored other same) = later-more _ h h' same
later-commit p c h h' asked r (Failed failed is asked-is memory same) = later-more _ h h' same

module _ (told : Bool) (given : Given) (now : ℕ) (before after : Stand) (turn : Turn) where
  later-commits : (p : ℕ) (as_turn : Result Receipt EngineFault → Turn)
      → Commits told given p as_turn before after turn → Continues after.history before.history
  later-commits p as_turn commits = later-commit p (commit_of given before.history p) before.history
      after.history commits.asked commits.answer
      (commit-comes given before.history after.history p commits.asked commits.answer commits.does)

  pub later-action : (a : Action) → DoesAction told given now a before after turn
      → Continues after.history before.history
  later-action MoveClock calls = later-grown (Tick now) before.history after.history
      (tick-grows before.history after.history now calls.answer calls.does.does)
  later-action (Commit p) commits = later-commits p commit_turn commits
  later-action (Poll p n) calls =
      let grows = poll-grows given before.history after.history p n calls.answer calls.does.does in
      later-grown (Polled p grows.0 grows.1) before.history after.history grows.3
  later-action BeginDrain calls = later-grown Drain before.history after.history
      (drain-grows before.history after.history calls.answer calls.does.does)
  later-action (Save p) commits = later-commits p save_turn commits
  later-action Finish finishes =
      elim (finish-comes given before.history after.history finishes.answer finishes.does.does) [
        | inl same ↦ later-same before.history after.history same
        | inr one ↦ later-more AllDone before.history after.history one.1
      ]
  later-action Rest rests = later-same before.history after.history
      (ap (λ (s : Stand). s.history) rests.0)

  later-failed : (job : PlainJob) (code : ℕ) (between : Stand) (r : Result Bool EngineFault)
      → Grows (Tick now) before.history between.history
      → AfterClock given job (Bad code) between after turn r → Continues after.history before.history
  later-failed job code between (Ok moved) grows rest = twice grows
    where
      twice : Grows (Tick now) before.history between.history → Continues after.history before.history
      twice (Same same) = record {
        added = settle_event given between.history job (Bad code) ∷ [];
        is = rest.0.history
            ∙ ap (λ (h : List Event). settle_event given between.history job (Bad code) ∷ h) same;
      }
      twice (More same) = record {
        added = settle_event given between.history job (Bad code) ∷ Tick now ∷ [];
        is = rest.0.history
            ∙ ap (λ (h : List Event). settle_event given between.history job (Bad code) ∷ h) same;
      }
  later-failed job code between (Err fault) grows rest =
      subst (λ (s : Stand). Continues s.history before.history) (sym rest.0)
      (later-grown (Tick now) before.history between.history grows)

  pub later-found : (expected : Bool) (job : PlainJob) (outcome : Outcome)
      → SettlesFound given now expected job outcome before after turn
      → Continues after.history before.history
  later-found false job outcome found = later-same before.history after.history
      (ap (λ (s : Stand). s.history) found.0)
  later-found true job (Good answer) found = later-more _ before.history after.history found.0.history
  later-found true job (Bad code) found = later-failed job code found.between found.answer
      (tick-grows before.history found.between.history now found.answer found.clock.does) found.rest

-- ---- turns that end the run

-- a turn of a call that neither ends nor saves
abbrev pub IsPlain : Turn → Type 0
IsPlain Went = Unit {0}
IsPlain JournalFull = Unit {0}
IsPlain NoMemory = Unit {0}
IsPlain _ = ⊥

refused-plain : (f : EngineFault) → IsPlain (refused_turn f)
refused-plain fault.JournalFull = tt
refused-plain f = tt

call-plain : {A : Type 0} (r : Result A EngineFault) → IsPlain (call_turn r)
call-plain (Ok it) = tt
call-plain (Err f) = refused-plain f

commit-plain : (r : Result Receipt EngineFault) → IsPlain (commit_turn r)
commit-plain (Ok it) = tt
commit-plain (Err (fault.Client failed)) = tt
commit-plain (Err fault.JournalFull) = tt
commit-plain (Err f) = tt

-- what a turn means that is not plain, by its action
pub data EndOf (told : Bool) (given : Given) (last : Bool) (before after : Stand) (turn : Turn)
    : Type 0 where
  Plain : IsPlain turn → EndOf told given last before after turn
  Rests : turn ≡ Idle → EndOf told given last before after turn
  -- all is done
  Ends : turn ≡ Done → IsOver given before.history last → after.history ≡ AllDone ∷ before.history
      → EndOf told given last before after turn
  -- the first record that is left is named
  Names : (p o : ℕ) → turn ≡ Undrained p o (failures_of before.history p o)
      → IsOver given before.history last → is_draining before.history ≡ true
      → first_unfinished given before.history ≡ Some (p, o) → after.history ≡ before.history
      → EndOf told given last before after turn
  -- a commit failed that was to save
  Loses : (failed : ClientFault) (p : ℕ) → turn ≡ Client failed → IsOver given before.history last
      → is_draining before.history ≡ true → (failed ≡ client.NoMemory → ⊥)
      → IsStored told before.store after.store before.faults after.faults p
      (commit_of given before.history p).commit (Err failed)
      → after.history ≡ CommitFailed p (commit_of given before.history p).commit.position
      (commit_of given before.history p).commit.map (commit_of given before.history p).size
      ∷ before.history → EndOf told given last before after turn

same-client : (a b : ClientFault)
    → ◌≡◌ {A = Result Receipt EngineFault} (Err (fault.Client a)) (Err (fault.Client b)) → a ≡ b
same-client a b is = cc

-- the end is refused by the first record that is left
named-by : (p o : ℕ) (u : ℕ × ℕ → Unfinished) (full : Bool) (a b : Option (ℕ × ℕ))
    → ((it : ℕ × ℕ) → unfinished_fault (u it) ≡ fault.NotDone p o → ⊥)
    → ◌≡◌ {A = Result (Unit {0}) EngineFault} (Err (fault.NotDone p o)) (adds_after AllDone
    (option_or (option_map unfinished_fault
    (option_or (option_map (λ it. state.NotDone it.0 it.1) a) (option_map u b)))
    (if full then Some fault.JournalFull else None))).answer
    → a ≡ Some (p, o)
named-by p o u full (Some it) b other is = same-pair it.0 it.1 is
  where
    same-pair : (q r : ℕ) → ◌≡◌ {A = Result (Unit {0}) EngineFault} (Err (fault.NotDone p o))
        (Err (fault.NotDone q r)) → ◌≡◌ {A = Option (ℕ × ℕ)} (Some (q, r)) (Some (p, o))
    same-pair q r same = let first : p ≡ q = cc in let second : o ≡ r = cc in
        ap (λ (n : ℕ). Some (n, r)) (sym first) ∙ ap (λ (n : ℕ). Some (p, n)) (sym second)
named-by p o u full None (Some it) other is =
    absurd (other it (err-same (unfinished_fault (u it)) (fault.NotDone p o) (sym is)))
  where
    err-same : (e f : EngineFault) → ◌≡◌ {A = Result (Unit {0}) EngineFault} (Err e) (Err f) → e ≡ f
    err-same e f same = cc
named-by p o u true None None other is = cc
named-by p o u false None None other is = cc

named : (given : Given) (h : List Event) (p o : ℕ) → has_ended h ≡ false
    → ◌≡◌ {A = Result (Unit {0}) EngineFault} (Err (fault.NotDone p o)) (finish_step given h).answer
    → first_unfinished given h ≡ Some (p, o)
named given h p o runs is = named-by p o
    (λ it. state.Uncommitted it.0 it.1 (position_of given h it.0)) (is_full h 1)
    (first_unfinished given h) (first_uncommitted given h) (λ it same. cc)
    (is ∙ ap (λ (b : Bool). (adds_after AllDone (if b then Some fault.Closed
    else option_or (option_map unfinished_fault (unfinished_part given h))
    (if is_full h 1 then Some fault.JournalFull else None))).answer) runs)

added-end : (x : Option EngineFault) → Ok tt ≡ (adds_after AllDone x).answer
    → (adds_after AllDone x).events ≡ AllDone ∷ []
added-end None is = refl
added-end (Some f) is = cc

module _ (told : Bool) (given : Given) (now : ℕ) (last : Bool) (before after : Stand) (turn : Turn)
    (runs : has_ended before.history ≡ false) where
  abbrev Means : Type 0
  Means = EndOf told given last before after turn

  plain-of : (other : Turn) → turn ≡ other → IsPlain other → Means
  plain-of other is plain = Plain (subst IsPlain (sym is) plain)

  finished : (r : Result (Unit {0}) EngineFault) → turn ≡ finish_turn before.history r
      → IsOver given before.history last → is_draining before.history ≡ true
      → Does r (finish_step given before.history) before.history after.history → Means
  finished (Ok done) is over drains does = Ends is over
      (does.1 ∙ ap (λ (es : List Event). es ++ before.history)
      (added-end (finish_refusal given before.history) does.0))
  finished (Err (fault.NotDone p o)) is over drains does = Names p o is over drains
      (named given before.history p o runs does.0)
      (elim (finish-comes given before.history after.history (Err (fault.NotDone p o)) does) [
        | inl same ↦ same
        | inr one ↦ let e : Err (fault.NotDone p o) ≡ Ok tt = one.0 in cc
      ])
  finished (Err f) is over drains does = plain-of (refused_turn f) is (refused-plain f)

  saved : (p : ℕ) (asked : Result (Unit {0}) ClientFault) (r : Result Receipt EngineFault)
      → turn ≡ save_turn r → IsOver given before.history last → is_draining before.history ≡ true
      → IsStored told before.store after.store before.faults after.faults p
      (commit_of given before.history p).commit asked
      → CommitComes p (commit_of given before.history p) before.history after.history asked r → Means
  saved p asked (Err (fault.Client failed)) is over drains stored (Unmade other same) =
      absurd (other failed refl)
  saved p asked (Err (fault.Client failed)) is over drains stored (Stored other same) =
      absurd (other failed refl)
  saved p asked (Err (fault.Client failed)) is over drains stored (Failed why named-is asked-is memory same) =
      let one = same-client failed why named-is in
      Loses why p (is ∙ ap (λ (f : ClientFault). Client f) one) over drains memory
      (subst (λ (a : Result (Unit {0}) ClientFault). IsStored told before.store after.store before.faults
      after.faults p (commit_of given before.history p).commit a) asked-is stored) same
  saved p asked (Ok it) is over drains stored comes = plain-of Went is tt
  saved p asked (Err f) is over drains stored comes = plain-of (refused_turn f) is (refused-plain f)

  pub means-action : (a : Action) → IsReason given before.history now last a
      → DoesAction told given now a before after turn → Means
  means-action MoveClock reason calls = plain-of (call_turn calls.answer) calls.turn_is
      (call-plain calls.answer)
  means-action (Commit p) reason commits = plain-of (commit_turn commits.answer) commits.turn_is
      (commit-plain commits.answer)
  means-action (Poll p n) reason calls = plain-of (call_turn calls.answer) calls.turn_is
      (call-plain calls.answer)
  means-action BeginDrain reason calls = plain-of (call_turn calls.answer) calls.turn_is
      (call-plain calls.answer)
  means-action (Save p) reason commits = saved p commits.asked commits.answer commits.turn_is reason.0
      reason.1 commits.stored
      (commit-comes given before.history after.history p commits.asked commits.answer commits.does)
  means-action Finish reason finishes = finished finishes.answer finishes.turn_is reason.0 reason.1
      finishes.does.does
  means-action Rest reason rests = Rests rests.1

  settled-plain : (job : PlainJob) (code : ℕ) (between : Stand) (r : Result Bool EngineFault)
      → AfterClock given job (Bad code) between after turn r → Means
  settled-plain job code between (Ok moved) rest = plain-of Went rest.1 tt
  settled-plain job code between (Err f) rest = plain-of (refused_turn f) rest.1 (refused-plain f)

  pub means-found : (expected : Bool) (job : PlainJob) (outcome : Outcome)
      → SettlesFound given now expected job outcome before after turn → Means
  means-found false job outcome found = plain-of Went found.1 tt
  means-found true job (Good answer) found = plain-of Went found.1 tt
  means-found true job (Bad code) found = settled-plain job code found.between found.answer found.rest
