-- What the calls of a turn add to a history.
use Rattle.std.proofs.Common.{◌≡◌, ◌∙◌, ℕ, ◌≤◌, Bool, true, false, not, ◌&&◌, inl, inr, ◌⊎◌, List, [], ◌∷◌, ◌++◌, length, take, Option, Some, None, Result, Ok, Err, min, refl, ap, sym, subst, arith}
use Rattle.std.specs.Prelude.{if◌then◌else◌, nat_le, unwrap_or}
use Rattle.std.proofs.lemmas.Bool.{le-leb}
use Rattle.std.proofs.lemmas.List.{length-take}
use Rattle.pc_model.specs.declared.commit.SizedCommit.{SizedCommit}
use Rattle.pc_model.specs.declared.event.Event.{Event}
use Rattle.pc_model.specs.declared.event.Event.TheVariants.{Poll, Commit as Committed, CommitFailed, Tick, Drain, Done}
use Rattle.pc_model.specs.Record.{Record}
use Rattle.pc_model.specs.Given.{Given, has_log}
use Rattle.pc_model.specs.Jobs.{has_ended}
use Rattle.pc_model.specs.Epochs.{is_held}
use Rattle.pc_model.specs.Known.{commit_of, high_of, unpolled_records}
use Rattle.pc_model.specs.Pressure.{is_blocked, is_upto_high}
use Rattle.pc_model.specs.Retry.{now_of}
use Rattle.pc_state.specs.Calls.{next_records, pollable_records}
use Rattle.pc_offset_client.specs.declared.fault.ClientFault.{ClientFault}
use Rattle.pc_offset_client.specs.declared.fault.ClientFault.TheVariants as client
use Rattle.pc_engine.specs.declared.engine.Committed.{Committed as Receipt}
use Rattle.pc_engine.specs.declared.fault.EngineFault.{EngineFault}
use Rattle.pc_engine.specs.declared.fault.EngineFault.TheVariants.{Client, Closed, JournalFull, NoMemory, NotHeld, Pressed, UnknownPart}
use Rattle.pc_engine.specs.Effect.{Step, Does, commit_after, commit_refusal, commit_step, commit_with, is_full, last_offset, poll_after, poll_left, poll_refusal, poll_step, polls, refuses, tick_after, tick_refusal, tick_step}
use Rattle.pc_engine.specs.Ending.{adds_after, drain_refusal, drain_step, finish_refusal, finish_step}
use Rattle.pc_drain.proofs.ResultLemmas.{Grows, IsOf, grows-of}
use Rattle.pc_drain.proofs.ResultLemmas.Grows.{Same, More}
use Rattle.pc_drain.proofs.ResultLemmas.IsOf.{Nothing, This}

-- ---- a poll

-- one of at most so many records, or none
abbrev pub IsPollOf : ℕ → ℕ → Step ℕ → Type 0
IsPollOf p n step = (count : ℕ) × (last : ℕ) × (nat_le count n ≡ true) × IsOf (Poll p count last) step

no-poll : (p n : ℕ) (step : Step ℕ) → step.events ≡ [] → IsPollOf p n step
no-poll p n step none = (0, 0, le-leb 0 n (omega arith), Nothing none)

few-records : (n : ℕ) (rs : List Record) → nat_le (length (take n rs)) n ≡ true
few-records n rs =
    let is : length (take n rs) ≡ min n (length rs) = length-take n rs in
    le-leb (length (take n rs)) n (omega (arith, is))

polled : (given : Given) (h : List Event) (p n : ℕ) (full : Bool) → IsPollOf p n
    (if full then refuses JournalFull else polls p (next_records given h p n))
polled given h p n true = no-poll p n (refuses JournalFull) refl
polled given h p n false = (
  length (next_records given h p n),
  last_offset (next_records given h p n),
  few-records n (pollable_records given h p),
  This refl,
)

pressed : (given : Given) (h : List Event) (p n : ℕ) (b : Bool) → IsPollOf p n
    (if b then refuses (Pressed (unwrap_or (high_of given h p) 0))
    else if is_full h 1 then refuses JournalFull else polls p (next_records given h p n))
pressed given h p n true = no-poll p n (refuses (Pressed (unwrap_or (high_of given h p) 0))) refl
pressed given h p n false = polled given h p n (is_full h 1)

left : (given : Given) (h : List Event) (p n : ℕ) (rs : List Record)
    → IsPollOf p n (poll_left given h p n rs)
left given h p n [] = no-poll p n (record { answer = Ok 0; events = [] }) refl
left given h p n (r ∷ rs) =
    pressed given h p n (is_blocked given h p && not (is_upto_high given h p r.offset))

poll-of : (given : Given) (h : List Event) (p n : ℕ) (x : Option EngineFault)
    → IsPollOf p n (poll_after given h p n x)
poll-of given h p n (Some fault) = no-poll p n (refuses fault) refl
poll-of given h p n None = left given h p n (unpolled_records given h p)

pub poll-grows : (given : Given) (h h' : List Event) (p n : ℕ) (r : Result ℕ EngineFault)
    → Does r (poll_step given h p n) h h'
    → (count : ℕ) × (last : ℕ) × (nat_le count n ≡ true) × Grows (Poll p count last) h h'
poll-grows given h h' p n r does =
    let is = poll-of given h p n (poll_refusal given h p) in
    (is.0, is.1, is.2, grows-of (Poll p is.0 is.1) (poll_step given h p n) r h h' is.3 does)

-- ---- the drain and the end

adds-of : (e : Event) (x : Option EngineFault) → IsOf e (adds_after e x)
adds-of e (Some fault) = Nothing refl
adds-of e None = This refl

pub drain-grows : (h h' : List Event) (r : Result (Unit {0}) EngineFault)
    → Does r (drain_step h) h h' → Grows Drain h h'
drain-grows h h' r does = grows-of Drain (drain_step h) r h h' (adds-of Drain (drain_refusal h)) does

-- a refusal adds nothing, and else the end is there
finish-by : (h h' : List Event) (x : Option EngineFault) (r : Result (Unit {0}) EngineFault)
    → Does r (adds_after Done x) h h' → (h' ≡ h) ⊎ ((r ≡ Ok tt) × (h' ≡ Done ∷ h))
finish-by h h' x (Err NoMemory) does = inl does
finish-by h h' None (Ok done) does = inr (refl, does.1)
finish-by h h' None (Err fault) does = let is : Err fault ≡ Ok tt = does.0 in cc
finish-by h h' (Some fault) (Ok done) does = inl does.1
finish-by h h' (Some fault) (Err other) does = inl does.1

pub finish-comes : (given : Given) (h h' : List Event) (r : Result (Unit {0}) EngineFault)
    → Does r (finish_step given h) h h' → (h' ≡ h) ⊎ ((r ≡ Ok tt) × (h' ≡ Done ∷ h))
finish-comes given h h' r does = finish-by h h' (finish_refusal given h) r does

-- ---- the clock

-- a tick that was refused adds nothing
tick-refused : (h h' : List Event) (now : ℕ) (b : Bool) (fault : EngineFault)
    → Does (Err fault) (if b then record { answer = Ok false; events = [] }
    else record { answer = Ok true; events = Tick now ∷ [] }) h h' → h' ≡ h
tick-refused h h' now b NoMemory does = does
tick-refused h h' now true fault does = does.1
tick-refused h h' now false fault does = let is : Err fault ≡ Ok true = does.0 in cc

tick-none : (h h' : List Event) (now : ℕ) (x : Option EngineFault) (fault : EngineFault)
    → Does (Err fault) (tick_after h now x) h h' → h' ≡ h
tick-none h h' now (Some other) NoMemory does = does
tick-none h h' now (Some other) fault does = does.1
tick-none h h' now None fault does = tick-refused h h' now (nat_le now (now_of h)) fault does

pub tick-dropped : (h h' : List Event) (now : ℕ) (fault : EngineFault)
    → Does (Err fault) (tick_step h now) h h' → h' ≡ h
tick-dropped h h' now fault does = tick-none h h' now (tick_refusal h now) fault does

-- ---- a commit

-- it answered no fault of the client
abbrev pub IsUnfailed : Result Receipt EngineFault → Type 0
IsUnfailed r = (failed : ClientFault) → r ≡ Err (Client failed) → ⊥

-- what a commit of the part added, where this is its commit
pub data CommitComes (p : ℕ) (c : SizedCommit) (h h' : List Event)
    (asked : Result (Unit {0}) ClientFault) (r : Result Receipt EngineFault) : Type 0 where
  Unmade : IsUnfailed r → h' ≡ h → CommitComes p c h h' asked r
  Stored : IsUnfailed r → h' ≡ Committed p c.commit.position c.commit.map c.size ∷ h
      → CommitComes p c h h' asked r
  Failed : (failed : ClientFault) → r ≡ Err (Client failed) → asked ≡ Err failed
      → (failed ≡ client.NoMemory → ⊥)
      → h' ≡ CommitFailed p c.commit.position c.commit.map c.size ∷ h
      → CommitComes p c h h' asked r

-- the refusals of a commit's own are no faults of the client
own-refusal : (a b c d : Bool) (failed : ClientFault) → (if a then Some Closed
    else if b then Some UnknownPart else if c then Some NotHeld
    else if d then Some JournalFull else None) ≡ Some (Client failed) → ⊥
own-refusal true b c d failed is = cc
own-refusal false true c d failed is = cc
own-refusal false false true d failed is = cc
own-refusal false false false true failed is = cc
own-refusal false false false false failed is = cc

same-fault : (e f : EngineFault) → ◌≡◌ {A = Result Receipt EngineFault} (Err e) (Err f) → e ≡ f
same-fault e f is = cc

commit-with : (h h' : List Event) (p : ℕ) (c : SizedCommit) (asked : Result (Unit {0}) ClientFault)
    (r : Result Receipt EngineFault) → Does r (commit_with p c asked) h h'
    → CommitComes p c h h' asked r
commit-with h h' p c asked (Err NoMemory) does = Unmade (λ failed is. cc) does
commit-with h h' p c (Ok done) (Ok receipt) does = Stored (λ failed is. cc) does.1
commit-with h h' p c (Ok done) (Err fault) does =
    let is : Err fault ≡ Ok (record { position = c.commit.position; size = c.size }) = does.0 in cc
commit-with h h' p c (Err client.NoMemory) (Ok receipt) does = Unmade (λ failed is. cc) does.1
commit-with h h' p c (Err client.NoMemory) (Err fault) does =
    Unmade (λ failed is. let at = same-fault fault NoMemory does.0 in cc) does.1
commit-with h h' p c (Err failed) (Ok receipt) does =
    let is : Ok receipt ≡ Err (Client failed) = does.0 in cc
commit-with h h' p c (Err failed) (Err fault) does =
    Failed failed does.0 refl (λ is. cc) does.1

commit-by : (given : Given) (h h' : List Event) (p : ℕ) (asked : Result (Unit {0}) ClientFault)
    (x : Option EngineFault) (r : Result Receipt EngineFault)
    → ((failed : ClientFault) → x ≡ Some (Client failed) → ⊥)
    → Does r (commit_after given h p asked x) h h' → CommitComes p (commit_of given h p) h h' asked r
commit-by given h h' p asked (Some fault) (Err NoMemory) other does =
    Unmade (λ failed is. cc) does
commit-by given h h' p asked (Some fault) (Ok receipt) other does =
    Unmade (λ failed is. cc) does.1
commit-by given h h' p asked (Some fault) (Err own) other does =
    Unmade (λ failed is. other failed
    (ap (λ (f : EngineFault). Some f) (same-fault fault (Client failed) (sym does.0 ∙ is)))) does.1
commit-by given h h' p asked None r other does =
    commit-with h h' p (commit_of given h p) asked r does

pub commit-comes : (given : Given) (h h' : List Event) (p : ℕ)
    (asked : Result (Unit {0}) ClientFault) (r : Result Receipt EngineFault)
    → Does r (commit_step given h p asked) h h' → CommitComes p (commit_of given h p) h h' asked r
commit-comes given h h' p asked r does = commit-by given h h' p asked (commit_refusal given h p) r
    (own-refusal (has_ended h) (not (has_log given p)) (not (is_held h p)) (is_full h 1)) does
