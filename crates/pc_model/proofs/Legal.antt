-- The test of a history computes true exactly where the history is legal.
use Rattle.std.proofs.Common.{◌≡◌, ℕ, ◌+◌, ◌-◌, Bool, true, false, not, ◌&&◌, ◌||◌, ◌==◌, List, [], ◌∷◌, Option, Some, None, option_map, slice_get, bytes_eq, refl, ap, Decides, unwrap_or}
use Rattle.std.specs.List.{list_all}
use Rattle.std.proofs.lemmas.Bool.Decides.{Decides-and, Decides-eqb, Decides-ltb, Decides-like}
use Rattle.std.proofs.lemmas.Slice.Eq.{bytes_eq-Decides}
use Rattle.pc_model.specs.declared.event.Event.{Event}
use Rattle.pc_model.specs.declared.event.Event.TheVariants.{Assign, Poll, Dispatch, Success, Failure, Stale, Commit as Committed, CommitFailed, Revoke, Lost, Crash, Tick, Drain, Done, Closed}
use Rattle.pc_model.specs.declared.commit.SizedCommit.{SizedCommit}
use Rattle.pc_model.specs.declared.outcome.Outcome.{Outcome}
use Rattle.pc_model.specs.declared.outcome.Outcome.TheVariants.{Good, Bad}
use Rattle.pc_model.specs.Given.{Given, has_log, all_logs_rise}
use Rattle.pc_model.specs.Jobs.{dispatch_count, is_outstanding, has_ended, is_draining}
use Rattle.pc_model.specs.Epochs.{epoch_of, is_held, is_current_ticket}
use Rattle.pc_model.specs.Stored.{may_store, is_entry}
use Rattle.pc_model.specs.Known.{unpolled_records, commit_of}
use Rattle.pc_model.specs.Pressure.{is_blocked, is_upto_high}
use Rattle.pc_model.specs.Retry.{now_of, failures_of, ready_after}
use Rattle.pc_model.specs.Outcomes.{ticket_outcome, ticket_attempt}
use Rattle.pc_model.specs.Next.{next_record}
use Rattle.pc_model.specs.Lawful.{IsLawful, IsLegal, CommitIsLawful, ends_in_commit, is_finished, held_parts}
use Rattle.pc_model.specs.Test.{is_number, is_record, is_good, is_bad, is_sized, is_commit_lawful, is_lawful, is_legal}

-- a test decides that it is true
Decides-true : (b : Bool) → Decides b (b ≡ true)
Decides-true b = (λ (e : b ≡ true). e, λ (e : b ≡ true). e)

-- and its negation that it is false
Decides-false : (b : Bool) → Decides (not b) (b ≡ false)
Decides-false true = (λ (e : false ≡ true). cc, λ (e : true ≡ false). cc)
Decides-false false = (λ (e : true ≡ true). refl, λ (e : false ≡ false). refl)

-- that one test is true where another is
Decides-implies : (a b : Bool) → Decides (not a || b) (a ≡ true → b ≡ true)
Decides-implies true b = (
  λ (e : b ≡ true). λ (h : true ≡ true). e,
  λ (f : true ≡ true → b ≡ true). f refl,
)
Decides-implies false b =
    (λ (e : true ≡ true). λ (h : false ≡ true). cc, λ (f : false ≡ true → b ≡ true). refl)

Decides-number : (o : Option ℕ) (n : ℕ) → Decides (is_number o n) (o ≡ Some n)
Decides-number None n = (λ (e : false ≡ true). cc, λ (e : None ≡ Some n). cc)
Decides-number (Some m) n = Decides-like (m == n) (λ (e : m ≡ n). ap (λ k. Some k) e)
    (λ (e : Some m ≡ Some n). cc) (Decides-eqb m n)

Decides-record : (o : Option (ℕ × ℕ)) (p u : ℕ) → Decides (is_record o p u) (o ≡ Some (p, u))
Decides-record None p u = (λ (e : false ≡ true). cc, λ (e : None ≡ Some (p, u)). cc)
Decides-record (Some (q, v)) p u =
    Decides-like ((q == p) && (v == u))
    (λ (e : (q ≡ p) × (v ≡ u)). let a = e.0 in let b = e.1 in cc)
    (λ (e : Some (q, v) ≡ Some (p, u)). (
      ap (λ (o : Option (ℕ × ℕ)). (unwrap_or o (p, u)).0) e,
      ap
          (λ (o : Option (ℕ × ℕ)). (unwrap_or o (p, u)).1) e,
    ))
    (Decides-and (q == p) (v == u) (Decides-eqb q p) (Decides-eqb v u))

Decides-good : (o : Option Outcome) (bytes : List ℕ) → Decides (is_good o bytes)
    (o ≡ Some (Good bytes))
Decides-good None bytes = (λ (e : false ≡ true). cc, λ (e : None ≡ Some (Good bytes)). cc)
Decides-good (Some (Bad code)) bytes =
    (λ (e : false ≡ true). cc, λ (e : Some (Bad code) ≡ Some (Good bytes)). cc)
Decides-good (Some (Good answer)) bytes =
    Decides-like (bytes_eq answer bytes) (λ (e : answer ≡ bytes). ap (λ a. Some (Good a)) e)
    (λ (e : Some (Good answer) ≡ Some (Good bytes)). cc) (bytes_eq-Decides answer bytes)

Decides-bad : (o : Option Outcome) (code : ℕ) → Decides (is_bad o code) (o ≡ Some (Bad code))
Decides-bad None code = (λ (e : false ≡ true). cc, λ (e : None ≡ Some (Bad code)). cc)
Decides-bad (Some (Good answer)) code =
    (λ (e : false ≡ true). cc, λ (e : Some (Good answer) ≡ Some (Bad code)). cc)
Decides-bad (Some (Bad c)) code =
    Decides-like (c == code) (λ (e : c ≡ code). ap (λ a. Some (Bad a)) e)
    (λ (e : Some (Bad c) ≡ Some (Bad code)). cc) (Decides-eqb c code)

Decides-sized : (c : SizedCommit) (position : ℕ) (text : List ℕ) (size : ℕ) →
    Decides (is_sized c position text size)
    (c ≡ record { commit = record { position = position; map = text }; size = size })
Decides-sized c position text size =
    Decides-like (is_sized c position text size)
    (λ (e : (c.commit.position ≡ position) × ((c.commit.map ≡ text) × (c.size ≡ size))).
    rw (← e.0, ← e.1.0, ← e.1.1) refl)
    (λ (e : c ≡ record { commit = record { position = position; map = text }; size = size }).
    (ap (λ x. x.commit.position) e, (ap (λ x. x.commit.map) e, ap (λ x. x.size) e)))
    (Decides-and _ _ (Decides-eqb c.commit.position position)
    (Decides-and _ _ (bytes_eq-Decides c.commit.map text) (Decides-eqb c.size size)))

Decides-commit : (given : Given) (h : List Event) (p position : ℕ) (text : List ℕ) (size : ℕ) →
    Decides (is_commit_lawful given h p position text size)
    (CommitIsLawful given h p position text size)
Decides-commit given h p position text size =
    Decides-like _ (λ f. record { held = f.0; commit_is = f.1 }) (λ r. (r.held, r.commit_is))
    (Decides-and _ _ (Decides-true (is_held h p))
    (Decides-sized (commit_of given h p) position text size))

-- the test of an event
Decides-is_lawful : (given : Given) (e : Event) (h : List Event) → Decides (is_lawful given e h)
    (IsLawful given e h)
Decides-is_lawful given (Assign p epoch position text) h =
    Decides-like _ (λ f. record
    { known = f.0; free = f.1.0; running = f.1.1.0; epoch_is = f.1.1.1.0; stored = f.1.1.1.1 })
    (λ r. (r.known, (r.free, (r.running, (r.epoch_is, r.stored)))))
    (Decides-and _ _ (Decides-true (has_log given p)) (Decides-and _ _ (Decides-false (is_held h p))
    (Decides-and _ _ (Decides-false (is_draining h))
    (Decides-and _ _ (Decides-eqb epoch (epoch_of h p + 1))
    (Decides-implies given.is_told
    (is_entry (may_store given h p) (record { position = position; map = text })))))))
Decides-is_lawful given (Poll p count last) h =
    Decides-like _ (λ f. record
    { held = f.0; running = f.1.0; some = f.1.1.0; last_is = f.1.1.1.0; pressed = f.1.1.1.1 })
    (λ r. (r.held, (r.running, (r.some, (r.last_is, r.pressed)))))
    (Decides-and _ _ (Decides-true (is_held h p))
    (Decides-and _ _ (Decides-false (is_draining h)) (Decides-and _ _ (Decides-ltb 0 count)
    (Decides-and _ _ (Decides-number
    (option_map (λ r. r.offset) (slice_get (unpolled_records given h p) (count - 1))) last)
    (Decides-implies (is_blocked given h p) (is_upto_high given h p last))))))
Decides-is_lawful given (Dispatch ticket worker p o epoch attempt) h =
    Decides-like _ (λ f. record {
      ticket_is = f.0;
      worker_is = f.1.0;
      record_is = f.1.1.0;
      epoch_is = f.1.1.1.0;
      attempt_is
          = f.1.1.1.1;
    })
    (λ r. (r.ticket_is, (r.worker_is, (r.record_is, (r.epoch_is, r.attempt_is)))))
    (Decides-and _ _ (Decides-eqb ticket (dispatch_count h + 1))
    (Decides-and _ _ (Decides-ltb worker 256)
    (Decides-and _ _ (Decides-record (next_record given h) p o)
    (Decides-and _ _ (Decides-eqb epoch (epoch_of h p))
    (Decides-eqb attempt (failures_of h p o + 1))))))
Decides-is_lawful given (Success ticket answer) h =
    Decides-like _ (λ f. record { outstanding = f.0; current = f.1.0; outcome = f.1.1 })
    (λ r. (r.outstanding, (r.current, r.outcome)))
    (Decides-and _ _ (Decides-true (is_outstanding h ticket))
    (Decides-and _ _ (Decides-true (is_current_ticket h ticket))
    (Decides-good (ticket_outcome given h ticket) answer)))
Decides-is_lawful given (Failure ticket code ready) h =
    Decides-like _ (λ f. record
    { outstanding = f.0; current = f.1.0; outcome = f.1.1.0; ready_is = f.1.1.1 })
    (λ r. (r.outstanding, (r.current, (r.outcome, r.ready_is))))
    (Decides-and _ _ (Decides-true (is_outstanding h ticket))
    (Decides-and _ _ (Decides-true (is_current_ticket h ticket))
    (Decides-and _ _ (Decides-bad (ticket_outcome given h ticket) code)
    (Decides-eqb ready (ready_after given.setup.settings.delays (ticket_attempt h ticket) (now_of h))))))
Decides-is_lawful given (Stale ticket) h =
    Decides-like _ (λ f. record { outstanding = f.0; past = f.1 }) (λ r. (r.outstanding, r.past))
    (Decides-and _ _ (Decides-true (is_outstanding h ticket))
    (Decides-false (is_current_ticket h ticket)))
Decides-is_lawful given (Committed p position text size) h =
    Decides-commit given h p position text size
Decides-is_lawful given (CommitFailed p position text size) h =
    Decides-commit given h p position text size
Decides-is_lawful given (Revoke p epoch) h =
    Decides-like _ (λ f. record { after_commit = f.0; epoch_is = f.1 })
    (λ r. (r.after_commit, r.epoch_is))
    (Decides-and _ _ (Decides-true (ends_in_commit h p)) (Decides-eqb epoch (epoch_of h p)))
Decides-is_lawful given (Lost p epoch) h =
    Decides-like _ (λ f. record { held = f.0; epoch_is = f.1 }) (λ r. (r.held, r.epoch_is))
    (Decides-and _ _ (Decides-true (is_held h p)) (Decides-eqb epoch (epoch_of h p)))
Decides-is_lawful given Crash h = (λ _. tt, λ _. refl)
Decides-is_lawful given (Tick now) h = Decides-ltb (now_of h) now
Decides-is_lawful given Drain h = Decides-false (is_draining h)
Decides-is_lawful given Done h = Decides-true (list_all (is_finished given h) (held_parts given h))
Decides-is_lawful given Closed h = (λ _. tt, λ _. refl)

-- the test of a history
pub Decides-is_legal : (given : Given) (h : List Event) → Decides (is_legal given h)
    (IsLegal given h)
Decides-is_legal given [] = Decides-true (all_logs_rise given)
Decides-is_legal given (e ∷ h) =
    Decides-like _ (λ f. (f.0, f.1.0, f.1.1)) (λ r. (r.0, (r.1, r.2)))
    (Decides-and _ _ (Decides-is_lawful given e h)
    (Decides-and _ _ (Decides-false (has_ended h)) (Decides-is_legal given h)))
