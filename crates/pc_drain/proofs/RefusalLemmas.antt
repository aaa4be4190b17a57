-- Which refusals may come of the calls of a turn.
use Rattle.std.proofs.Common.{◌≡◌, ◌∙◌, ℕ, suc, ◌-◌, ◌<◌, ◌≤◌, min, Bool, true, false, not, ◌&&◌, ◌||◌, inl, inr, List, [], ◌∷◌, length, Option, Some, None, Result, Ok, Err, refl, ap, sym, subst, arith}
use Rattle.std.specs.Prelude.{IfErr, ◌==◌, find, if◌then◌else◌, nat_lt, option_map, slice_get}
use Rattle.std.specs.List.{list_all}
use Rattle.std.specs.Option.{option_or}
use Rattle.std.proofs.lemmas.Bool.{cases_Bool, ltb-true}
use Rattle.pc_model.specs.declared.commit.Commit.{Commit as StoredCommit}
use Rattle.pc_model.specs.declared.commit.SizedCommit.{SizedCommit}
use Rattle.pc_model.specs.declared.event.Event.{Event}
use Rattle.pc_model.specs.declared.event.Event.TheVariants.{Done}
use Rattle.pc_model.specs.declared.limits.TheConstants.{MAX_RECORDS}
use Rattle.pc_model.specs.Broker.{Broker}
use Rattle.pc_model.specs.Record.{Record}
use Rattle.pc_model.specs.Given.{Given, has_log, parts_of}
use Rattle.pc_model.specs.Jobs.{has_ended, is_draining}
use Rattle.pc_model.specs.Epochs.{epoch_of, is_held}
use Rattle.pc_model.specs.Known.{commit_of, position_of, unpolled_records}
use Rattle.pc_model.specs.Lawful.{is_stored}
use Rattle.pc_model.specs.Numbers.{first_some}
use Rattle.pc_model.specs.Pressure.{is_blocked, is_upto_high}
use Rattle.pc_model.specs.Run.{has_unstored_success, is_unsaved, may_poll_next, open_records, poll_number}
use Rattle.pc_model.specs.Stored.{may_store}
use Rattle.pc_model.proofs.SetupLaws.{setup-within}
use Rattle.pc_laws.proofs.Lists.{In, and-left, and-right, not-true}
use Rattle.pc_state.specs.declared.queries.Unfinished.{Unfinished}
use Rattle.pc_state.specs.declared.queries.Unfinished.TheVariants as state
use Rattle.pc_state.specs.Calls.{next_records}
use Rattle.pc_state.specs.Queries.{first_uncommitted, first_unfinished, other_stored, uncommitted_at, unfinished_part}
use Rattle.pc_offset_client.specs.declared.fault.ClientFault.{ClientFault}
use Rattle.pc_offset_client.specs.declared.fault.ClientFault.TheVariants as client
use Rattle.pc_engine.specs.declared.fault.EngineFault.{EngineFault}
use Rattle.pc_engine.specs.declared.fault.EngineFault.TheVariants.{JournalFull, NoMemory}
use Rattle.pc_engine.specs.declared.engine.Committed.{Committed as Receipt}
use Rattle.pc_engine.specs.Effect.{Step, Does, commit_after, commit_refusal, commit_step, commit_with, is_full, poll_left, poll_step, polls, refuses}
use Rattle.pc_engine.specs.Ending.{adds_after, finish_refusal, finish_step}
use Rattle.pc_engine.specs.Engine.{EngineView}
use Rattle.pc_engine.specs.Fault.{unfinished_fault}
use Rattle.pc_engine.specs.Stand.{stand_of}
use Rattle.pc_drain.specs.Turn.{IsCommitRefusal, IsEndRefusal, IsRefusal}
use Rattle.pc_drain.proofs.ActionLemmas.{find-none}

-- a call that did its step, or ran out of memory
pub does-refused : {A : Type 0} (Is : EngineFault → Type 0) (r : Result A EngineFault) (step : Step A)
    (h h' : List Event) → Is NoMemory → IfErr step.answer Is → Does r step h h' → IfErr r Is
does-refused Is (Ok it) step h h' out refusal does = tt
does-refused Is (Err NoMemory) step h h' out refusal does = out
does-refused {A} Is (Err fault) step h h' out refusal does =
    subst (λ (x : Result A EngineFault). IfErr x Is) (sym does.0) refusal

-- ---- a commit

with-refused : (p : ℕ) (c : SizedCommit) (asked : Result (Unit {0}) ClientFault)
    → IfErr (commit_with p c asked).answer IsCommitRefusal
with-refused p c (Ok done) = tt
with-refused p c (Err client.NoMemory) = tt
with-refused p c (Err failed) = tt

full-commit : (given : Given) (h : List Event) (p : ℕ) (asked : Result (Unit {0}) ClientFault)
    (full : Bool) → IfErr (commit_after given h p asked (if full then Some JournalFull else None)).answer
    IsCommitRefusal
full-commit given h p asked true = tt
full-commit given h p asked false = with-refused p (commit_of given h p) asked

pub commit-refused : (given : Given) (h h' : List Event) (p : ℕ)
    (asked : Result (Unit {0}) ClientFault) (r : Result Receipt EngineFault) → has_ended h ≡ false
    → has_log given p ≡ true → is_held h p ≡ true → Does r (commit_step given h p asked) h h'
    → IfErr r IsCommitRefusal
commit-refused given h h' p asked r runs known held does =
    does-refused IsCommitRefusal r (commit_step given h p asked) h h' tt
    (rw (runs, known, held) (full-commit given h p asked (is_full h 1))) does

-- ---- a poll

-- what a poll that is open says
pub record IsOpen (given : Given) (h : List Event) (p n : ℕ) : Type 0 where
  pub held : is_held h p ≡ true
  pub flows : is_draining h ≡ false
  pub free : may_poll_next given h p (slice_get (unpolled_records given h p) 0) ≡ true
  pub some : 0 < n
  pub few : n ≤ MAX_RECORDS

-- the number of an open poll
open-number : (given : Given) (b : Bool) (m buffer n : ℕ)
    → nat_lt m buffer ≡ true
    → min given.setup.settings.poll_max (buffer - m) ≡ n → (0 < n) × (n ≤ MAX_RECORDS)
open-number given b m buffer n room is =
    let within = (setup-within given.setup).poll_max in
    let least : 1 ≤ given.setup.settings.poll_max = within.least in
    let most : given.setup.settings.poll_max ≤ MAX_RECORDS = within.most in
    let less : m < buffer = ltb-true m buffer room in
    (omega (arith, least, less, is), omega (arith, most, is))

open-cases : (a b c d : Bool) (x n : ℕ) → (if a && b && c && d then Some x else None) ≡ Some n
    → (a ≡ true) × (b ≡ true) × (c ≡ true) × (d ≡ true) × (x ≡ n)
open-cases true true true true x n is = (refl, refl, refl, refl, cc)
open-cases true true true false x n is = cc
open-cases true true false d x n is = cc
open-cases true false c d x n is = cc
open-cases false b c d x n is = cc

pub opened : (given : Given) (h : List Event) (p n : ℕ) → poll_number given h p ≡ Some n
    → IsOpen given h p n
unfolding poll_number
opened given h p n is =
    let cases = open-cases (is_held h p) (not (is_draining h))
    (may_poll_next given h p (slice_get (unpolled_records given h p) 0))
    (nat_lt (length (open_records given h p)) given.setup.settings.buffer)
    (min given.setup.settings.poll_max
    (given.setup.settings.buffer - length (open_records given h p))) n is in
    let number = open-number given true (length (open_records given h p))
    given.setup.settings.buffer n cases.3 cases.4 in
    record {
      held = cases.0;
      flows = not-true (is_draining h) cases.1;
      free = cases.2;
      some = number.0;
      few = number.1;
    }

left-refused : (given : Given) (h : List Event) (p n : ℕ) (rs : List Record)
    → may_poll_next given h p (slice_get rs 0) ≡ true
    → IfErr (poll_left given h p n rs).answer IsRefusal
left-refused given h p n [] free = tt
left-refused given h p n (r ∷ rs) free =
    rw (unpressed (is_blocked given h p) (is_upto_high given h p r.offset) free)
    (by-room (is_full h 1))
  where
    unpressed : (blocked upto : Bool) → (not blocked || upto) ≡ true → (blocked && not upto) ≡ false
    unpressed true true free = refl
    unpressed true false free = cc
    unpressed false upto free = refl

    by-room : (full : Bool) → IfErr (if full then refuses JournalFull
        else polls p (next_records given h p n)).answer IsRefusal
    by-room true = tt
    by-room false = tt

pub poll-refused : (given : Given) (h h' : List Event) (p n : ℕ) (r : Result ℕ EngineFault)
    → has_ended h ≡ false → has_log given p ≡ true → IsOpen given h p n
    → Does r (poll_step given h p n) h h' → IfErr r IsRefusal
poll-refused given h h' p n r runs known is does =
    does-refused IsRefusal r (poll_step given h p n) h h' tt
    (rw (runs, known, is.held, is.flows)
    (left-refused given h p n (unpolled_records given h p) is.free)) does

-- ---- the end

-- nothing is found where nothing is given at each item
first-none : (f : ℕ → Option (ℕ × ℕ)) (xs : List ℕ) → ((x : ℕ) → In x xs → f x ≡ None)
    → first_some f xs ≡ None
first-none f [] none = refl
first-none f (x ∷ xs) none =
    rw (none x (inl refl)) (first-none f xs (λ y i. none y (inr i)))

-- no commit that may be stored has another position
no-other : (at : ℕ) (cs : List StoredCommit) → list_all (λ c. c.position == at) cs ≡ true
    → find (λ c. not (c.position == at)) cs ≡ None
no-other at [] all = refl
no-other at (c ∷ cs) all = rw (and-left (c.position == at) _ all)
    (no-other at cs (and-right (c.position == at) _ all))

saved-stored : (given : Given) (h : List Event) (p : ℕ) → is_unsaved given h p ≡ false
    → is_held h p ≡ true → is_stored given h p ≡ true
saved-stored given h p saved held =
    stored-of (is_stored given h p) (has_unstored_success h p (epoch_of h p)) (rw held at saved)
  where
    stored-of : (a b : Bool) → (not a || b) ≡ false → a ≡ true
    stored-of true b is = refl
    stored-of false b is = cc

none-uncommitted : (given : Given) (h : List Event)
    → find (is_unsaved given h) (parts_of given) ≡ None → first_uncommitted given h ≡ None
unfolding first_uncommitted is_stored
none-uncommitted given h saved = first-none (uncommitted_at given h) (parts_of given) (λ p i.
    elim (cases_Bool (is_held h p)) [
      | inl held ↦ rw (
        held,
        no-other (position_of given h p) (may_store given h p)
            (saved-stored given h p (find-none (is_unsaved given h) p (parts_of given) saved i) held),
      )
          refl
      | inr free ↦ rw free refl
    ])

end-cases : (o : Option (ℕ × ℕ)) (full : Bool)
    → IfErr (adds_after Done (option_or (option_map unfinished_fault (option_or
    (option_map (λ it. state.NotDone it.0 it.1) o) None)) (if full then Some JournalFull else None))).answer
    IsEndRefusal
end-cases None true = tt
end-cases None false = tt
end-cases (Some it) full = tt

pub finish-refused : (given : Given) (h h' : List Event) (r : Result (Unit {0}) EngineFault)
    → has_ended h ≡ false → find (is_unsaved given h) (parts_of given) ≡ None
    → Does r (finish_step given h) h h' → IfErr r IsEndRefusal
finish-refused given h h' r runs saved does =
    does-refused IsEndRefusal r (finish_step given h) h h' tt
    (rw (runs, none-uncommitted given h saved) (end-cases (first_unfinished given h) (is_full h 1)))
    does

-- where an engine stands whose journal and link are as before
pub same-stand : {L T : Type 0} (store : L → Broker) (faults : L → ℕ) (e e' : EngineView L T)
    → e'.journal.events ≡ e.journal.events → e'.link ≡ e.link
    → stand_of store faults e' ≡ stand_of store faults e
same-stand {L} {T} store faults e e' events link =
    ap (λ (h : List Event). record {
      history = h;
      store = store e'.link;
      faults = faults e'.link;
    }) events
    ∙ ap (λ (l : L). record {
      history = e.journal.events;
      store = store l;
      faults = faults l;
    }) link
