-- Of which history a ledger is after one more event.
use Rattle.std.proofs.Common.{◌≡◌, ℕ, suc, ◌+◌, ◌≤◌, ◌<◌, Bool, true, false, not, ◌==◌, cond, List, [], ◌∷◌, ◌++◌, length, set, slice_get, Option, None, Some, refl, sym, ap, subst, ◌∙◌, inl, inr, arith, eq-eqb, get_or, get_or-set_other, get_or-set_same, length-set}
use Rattle.std.specs.Prelude.{nat_eq, option_map, unwrap_or}
use Rattle.std.specs.HashMap.{get, spare}
use Rattle.std.proofs.lemmas.Bool.{cases_Bool, eqb-true}
use Rattle.pc_model.specs.declared.commit.Commit.{Commit}
use Rattle.pc_model.specs.declared.event.Event.{Event}
use Rattle.pc_model.specs.declared.event.Event.TheVariants.{Assign, Closed, Commit as Committed, CommitFailed, Crash, Dispatch, Done, Drain, Failure, Lost, Poll, Revoke, Stale, Success, Tick}
use Rattle.pc_model.specs.Given.{Given}
use Rattle.pc_model.specs.Jobs.{Job, has_ended, is_draining, is_settled, jobs_of, open_jobs}
use Rattle.pc_model.specs.Epochs.{epoch_of, is_held}
use Rattle.pc_model.specs.Lawful.{IsLegal}
use Rattle.pc_model.specs.Retry.{count_one, failure_in, failures_in, failures_of}
use Rattle.pc_model.specs.Stored.{may_store}
use Rattle.pc_model.specs.Run.{has_unstored_success, is_commit_or_assign, is_success_of, new_successes, success_count}
use Rattle.pc_model.proofs.ListLemmas.{same_number}
use Rattle.pc_model.proofs.SamePart.{other_part}
use Rattle.pc_laws.specs.Lists.{In}
use Rattle.pc_laws.proofs.FailedLaw.{unfailed-moved}
use Rattle.pc_laws.proofs.Lists.{In-filtered, true-not-false}
use Rattle.pc_laws.proofs.PositionLaw.{held_apart}
use Rattle.pc_state.specs.declared.ledger.Ledger.{Ledger}
use Rattle.pc_state.specs.declared.ledger.PartLedger.{PartLedger}
use Rattle.pc_state.specs.declared.state.State.{State}
use Rattle.pc_state.specs.Calls.{IsAtWork}
use Rattle.pc_state.specs.Ledger.{Counts, CountsPart}
use Rattle.pc_state.specs.OpenJobs.{is_job_of, out_of}
use Rattle.pc_state.specs.State.{Knows}
use Rattle.pc_state.proofs.OutLemmas.{out-along, out-assign, out-dispatch, out-dispatch_other, out-settled, out-settled_other}
use Rattle.pc_laws.proofs.TicketLaw.{one-job}
use Rattle.pc_state.proofs.StateLemmas.{failures-same}

-- the position of the first of some commits
abbrev pub first_position : List Commit → Option ℕ
first_position cs = option_map (λ c. c.position) (slice_get cs 0)

-- the event says nothing of what is stored of the part, nor of its successes, of its jobs that are out
-- and of its failures
pub record IsQuiet (given : Given) (h : List Event) (v : Event) (p : ℕ) : Type 0 where
  pub held : is_held h p ≡ true
  pub stored : may_store given (v ∷ h) p ≡ may_store given h p
  pub fresh : new_successes (v ∷ h) p (epoch_of (v ∷ h) p) ≡ new_successes h p (epoch_of h p)
  pub unstored : has_unstored_success (v ∷ h) p (epoch_of (v ∷ h) p)
      ≡ has_unstored_success h p (epoch_of h p)
  pub out : out_of (v ∷ h) p ≡ out_of h p
  pub failed : (o : ℕ) → failures_of (v ∷ h) p o ≡ failures_of h p o

module _ (given : Given) (h : List Event) (v : Event) where
  counts-part : (p : ℕ) (part : PartLedger) → IsQuiet given h v p → CountsPart given h p part
      → CountsPart given (v ∷ h) p part
  counts-part p part quiet counts = record {
    stored = ap first_position quiet.stored ∙ counts.stored;
    fresh = counts.fresh ∙ sym quiet.fresh;
    unstored = counts.unstored ∙ sym quiet.unstored;
    out = counts.out ∙ sym quiet.out;
    failed = λ o. counts.failed o ∙ sym (quiet.failed o);
    places = counts.places;
  }

  -- an event that says nothing of any part
  pub counts-quiet : (old new : Ledger) → ((p : ℕ) → is_held (v ∷ h) p ≡ true → IsQuiet given h v p)
      → new.parts ≡ old.parts → new.successes ≡ success_count (v ∷ h)
      → new.drains ≡ is_draining (v ∷ h) → new.ended ≡ has_ended (v ∷ h) → Counts given h old
      → Counts given (v ∷ h) new
  counts-quiet old new quiet parts successes drains ended counts = record {
    count = rw parts counts.count;
    each = λ p d below held. rw parts
        (counts-part p _ (quiet p held) (counts.each p d below (quiet p held).held));
    successes = successes;
    drains = drains;
    ended = ended;
  }

  -- an event that says nothing of the other parts
  pub counts-set : (old new : Ledger) (q : ℕ) (part : PartLedger)
      → new.parts.items ≡ set old.parts.items q part → q < length old.parts.items
      → (is_held (v ∷ h) q ≡ true → CountsPart given (v ∷ h) q part)
      → ((p : ℕ) → (q == p) ≡ false → is_held (v ∷ h) p ≡ true → IsQuiet given h v p)
      → new.successes ≡ success_count (v ∷ h)
      → new.drains ≡ is_draining (v ∷ h) → new.ended ≡ has_ended (v ∷ h) → Counts given h old
      → Counts given (v ∷ h) new
  counts-set old new q part items below here quiet successes drains ended counts = record {
    count = ap length items ∙ length-set old.parts.items q part ∙ counts.count;
    each = λ p d within held. rw items (elim (cases_Bool (q == p)) [
      | inl same ↦ subst (λ (u : ℕ). CountsPart given (v ∷ h) u (get_or (set old.parts.items q part) u d))
          (eqb-true q p same) (rw (get_or-set_same old.parts.items q part d below)
          (here (subst (λ (u : ℕ). is_held (v ∷ h) u ≡ true) (sym (eqb-true q p same)) held)))
      | inr apart ↦
          let other : p ≡ q → ⊥ = λ (e : p ≡ q). true-not-false (q == p) (eq-eqb q p (sym e)) apart in
          rw (get_or-set_other old.parts.items q p part d other)
          (counts-part p _ (quiet p apart held) (counts.each p d within (quiet p apart held).held))
    ]);
    successes = successes;
    drains = drains;
    ended = ended;
  }

-- what is kept of a held part, where it is read
pub counts-read : (given : Given) (h : List Event) (ledger : Ledger) (q : ℕ) (was : PartLedger)
    → Counts given h ledger → q < length given.logs → is_held h q ≡ true
    → was ≡ get_or ledger.parts.items q was → CountsPart given h q was
counts-read given h ledger q was counts below held read =
    subst (CountsPart given h q) (sym read) (counts.each q was below held)

-- ---- what no ledger counts

module _ (given : Given) (h : List Event) where
  pub counts-poll : (q n last : ℕ) (ledger : Ledger) → Counts given h ledger
      → Counts given (Poll q n last ∷ h) ledger
  counts-poll q n last ledger counts = counts-quiet given h (Poll q n last) ledger ledger
      (λ p held. record {
        held = held;
        stored = refl;
        fresh = refl;
        unstored = refl;
        out = out-along h (Poll q n last ∷ h) p refl refl;
        failed = λ o. refl;
      }) refl counts.successes counts.drains counts.ended counts

  pub counts-tick : (now : ℕ) (ledger : Ledger) → Counts given h ledger
      → Counts given (Tick now ∷ h) ledger
  counts-tick now ledger counts = counts-quiet given h (Tick now) ledger ledger
      (λ p held. record {
        held = held;
        stored = refl;
        fresh = refl;
        unstored = refl;
        out = out-along h (Tick now ∷ h) p refl refl;
        failed = λ o. refl;
      }) refl counts.successes counts.drains counts.ended counts

  -- a result that came too late is of no job of a present epoch
  pub counts-stale : (t : ℕ) (ledger : Ledger)
      → ((p : ℕ) → is_held h p ≡ true → (j : Job) → In j (open_jobs h) → j.ticket ≡ t
      → is_job_of p (epoch_of h p) j ≡ false)
      → Counts given h ledger → Counts given (Stale t ∷ h) ledger
  counts-stale t ledger past counts = counts-quiet given h (Stale t) ledger ledger
      (λ p held. record {
        held = held;
        stored = refl;
        fresh = refl;
        unstored = refl;
        out = out-settled_other (Stale t) h t p refl (λ u. refl) refl (past p held);
        failed = λ o. refl;
      }) refl counts.successes counts.drains counts.ended counts

-- ---- the end of an epoch

module _ (given : Given) (h : List Event) (old new : Ledger) (q e : ℕ) (part : PartLedger)
    (items : new.parts.items ≡ set old.parts.items q part) (below : q < length old.parts.items)
    (successes : new.successes ≡ old.successes) (drains : new.drains ≡ old.drains)
    (ended : new.ended ≡ old.ended) (counts : Counts given h old) where
  ended-held : (b : Bool) → cond (q == q) false b ≡ true → ⊥
  ended-held b held = let out : false ≡ true = rw (same_number q) at held in cc out

  pub counts-revoke : Counts given (Revoke q e ∷ h) new
  counts-revoke = counts-set given h (Revoke q e) old new q part items below
      (λ held. absurd (ended-held (is_held h q) held))
      (λ p apart held. let before = held_apart (q == p) (is_held h p) held in record {
        held = before.1;
        stored = refl;
        fresh = rw apart refl;
        unstored = rw apart refl;
        out = out-along h (Revoke q e ∷ h) p refl (rw apart refl);
        failed = λ o. rw apart refl;
      })
      (successes ∙ counts.successes) (drains ∙ counts.drains) (ended ∙ counts.ended) counts

  pub counts-lost : Counts given (Lost q e ∷ h) new
  counts-lost = counts-set given h (Lost q e) old new q part items below
      (λ held. absurd (ended-held (is_held h q) held))
      (λ p apart held. let before = held_apart (q == p) (is_held h p) held in record {
        held = before.1;
        stored = refl;
        fresh = rw apart refl;
        unstored = rw apart refl;
        out = out-along h (Lost q e ∷ h) p refl (rw apart refl);
        failed = λ o. rw apart refl;
      })
      (successes ∙ counts.successes) (drains ∙ counts.drains) (ended ∙ counts.ended) counts

pub counts-crash : (given : Given) (h : List Event) (old new : Ledger)
    → length new.parts.items ≡ length old.parts.items
    → new.successes ≡ old.successes → new.drains ≡ false → new.ended ≡ old.ended
    → Counts given h old → Counts given (Crash ∷ h) new
counts-crash given h old new count successes drains ended counts = record {
  count = count ∙ counts.count;
  each = λ p d below held. let out : false ≡ true = held in cc out;
  successes = successes ∙ counts.successes;
  drains = drains;
  ended = ended ∙ counts.ended;
}

-- ---- what a ledger counts as a whole

pub counts-drain : (given : Given) (h : List Event) (old new : Ledger) → new.parts ≡ old.parts
    → new.successes ≡ old.successes → new.drains ≡ true → new.ended ≡ old.ended
    → Counts given h old → Counts given (Drain ∷ h) new
counts-drain given h old new parts successes drains ended counts =
    counts-quiet given h Drain old new
    (λ p held. record {
      held = held;
      stored = refl;
      fresh = refl;
      unstored = refl;
      out = out-along h (Drain ∷ h) p refl refl;
      failed = λ o. refl;
    }) parts
    (successes ∙ counts.successes) drains (ended ∙ counts.ended) counts

module _ (given : Given) (h : List Event) (old new : Ledger) (parts : new.parts ≡ old.parts)
    (successes : new.successes ≡ old.successes) (drains : new.drains ≡ old.drains)
    (ended : new.ended ≡ true) (counts : Counts given h old) where
  pub counts-done : Counts given (Done ∷ h) new
  counts-done = counts-quiet given h Done old new
      (λ p held. record {
        held = held;
        stored = refl;
        fresh = refl;
        unstored = refl;
        out = out-along h (Done ∷ h) p refl refl;
        failed = λ o. refl;
      }) parts
      (successes ∙ counts.successes) (drains ∙ counts.drains) ended counts

  pub counts-closed : Counts given (Closed ∷ h) new
  counts-closed = counts-quiet given h Closed old new
      (λ p held. record {
        held = held;
        stored = refl;
        fresh = refl;
        unstored = refl;
        out = out-along h (Closed ∷ h) p refl refl;
        failed = λ o. refl;
      }) parts
      (successes ∙ counts.successes) (drains ∙ counts.drains) ended counts

-- ---- an assignment, and a commit, stored or failed

-- what is kept of a part that was just assigned
pub record IsBegun (position : ℕ) (part : PartLedger) : Type 0 where
  pub stored : part.stored ≡ position
  pub fresh : part.fresh ≡ 0
  pub unstored : part.unstored ≡ false
  pub out : part.out ≡ 0
  pub failed : (o : ℕ) → unwrap_or (get nat_eq part.failed o) 0 ≡ 0

pub counts-assign : (given : Given) (h : List Event) (old new : Ledger) (q epoch position : ℕ)
    (text : List ℕ) (part : PartLedger) → IsBegun position part
    → new.parts.items ≡ set old.parts.items q part → q < length old.parts.items
    → new.successes ≡ old.successes → new.drains ≡ old.drains → new.ended ≡ old.ended
    → Counts given h old → IsLegal given h → Counts given (Assign q epoch position text ∷ h) new
counts-assign given h old new q epoch position text part begun items below successes drains ended
    counts legal =
    counts-set given h (Assign q epoch position text) old new q part items below
    (λ held. record {
      stored = rw (same_number q) (ap Some (sym begun.stored));
      fresh = rw (same_number q) begun.fresh;
      unstored = rw (same_number q) begun.unstored;
      out = begun.out ∙ sym (out-assign given h q epoch position text legal);
      failed = λ o. begun.failed o
          ∙ sym (unfailed-moved given (Assign q epoch position text) h legal q o (same_number q)).failures;
      places = let none = begun.out in omega (arith, none);
    })
    (λ p apart held. record {
      held = rw apart at held;
      stored = rw apart refl;
      fresh = rw apart refl;
      unstored = rw apart refl;
      out = out-along h (Assign q epoch position text ∷ h) p refl (rw apart refl);
      failed = λ o. rw apart refl;
    })
    (successes ∙ counts.successes) (drains ∙ counts.drains) (ended ∙ counts.ended) counts

-- one more after some is not the first
first-more : (cs : List Commit) (c : Commit) (n : ℕ) → first_position cs ≡ Some n
    → first_position (cs ++ c ∷ []) ≡ Some n
first-more [] c n is = cc
first-more (d ∷ cs) c n is = is

module _ (given : Given) (h : List Event) (old new : Ledger) (q position size : ℕ) (text : List ℕ)
    (was part : PartLedger) (read : was ≡ get_or old.parts.items q was)
    (items : new.parts.items ≡ set old.parts.items q part) (below : q < length old.parts.items)
    (successes : new.successes ≡ old.successes) (drains : new.drains ≡ old.drains)
    (ended : new.ended ≡ old.ended) (counts : Counts given h old) (held : is_held h q ≡ true)
    (fresh : part.fresh ≡ 0) (out : part.out ≡ was.out) (failed : part.failed ≡ was.failed) where
  known : CountsPart given h q was
  known = counts-read given h old q was counts (omega (arith, below, counts.count)) held read

  kept-failed : (o : ℕ) → unwrap_or (get nat_eq part.failed o) 0 ≡ failures_of h q o
  kept-failed o = ap (λ m. unwrap_or (get nat_eq m o) 0) failed ∙ known.failed o

  kept-places : part.out ≤ spare part.failed
  kept-places = rw failed (let le = known.places in omega (arith, out, le))

  pub counts-commit : part.stored ≡ position → part.unstored ≡ false
      → Counts given (Committed q position text size ∷ h) new
  counts-commit stored unstored = counts-set given h (Committed q position text size) old new q part
      items below (λ held_then. record {
        stored = rw (same_number q) (ap Some (sym stored));
        fresh = rw (same_number q) fresh;
        unstored = rw (same_number q) unstored;
        out = out ∙ known.out ∙ sym (out-along h (Committed q position text size ∷ h) q refl refl);
        failed = kept-failed;
        places = kept-places;
      })
      (λ p apart held_there. record {
        held = held_there;
        stored = rw apart refl;
        fresh = rw apart refl;
        unstored = rw apart refl;
        out = out-along h (Committed q position text size ∷ h) p refl refl;
        failed = λ o. refl;
      })
      (successes ∙ counts.successes) (drains ∙ counts.drains) (ended ∙ counts.ended) counts

  pub counts-failed : part.stored ≡ was.stored → part.unstored ≡ was.unstored
      → Counts given (CommitFailed q position text size ∷ h) new
  counts-failed stored unstored = counts-set given h (CommitFailed q position text size) old new q part
      items below (λ held_then. record {
        stored = rw (same_number q) (first-more _ _ _ known.stored ∙ ap Some (sym stored));
        fresh = rw (same_number q) fresh;
        unstored = unstored ∙ known.unstored;
        out = out ∙ known.out ∙ sym (out-along h (CommitFailed q position text size ∷ h) q refl refl);
        failed = kept-failed;
        places = kept-places;
      })
      (λ p apart held_there. record {
        held = held_there;
        stored = rw apart refl;
        fresh = rw apart refl;
        unstored = refl;
        out = out-along h (CommitFailed q position text size ∷ h) p refl refl;
        failed = λ o. refl;
      })
      (successes ∙ counts.successes) (drains ∙ counts.drains) (ended ∙ counts.ended) counts

-- ---- a dispatch

-- room was made, and nothing else changed
pub counts-roomy : (given : Given) (h : List Event) (old new : Ledger) (q : ℕ) (was part : PartLedger)
    → was ≡ get_or old.parts.items q was → new.parts.items ≡ set old.parts.items q part
    → q < length old.parts.items → new.successes ≡ old.successes → new.drains ≡ old.drains
    → new.ended ≡ old.ended → part.stored ≡ was.stored → part.fresh ≡ was.fresh
    → part.unstored ≡ was.unstored → part.out ≡ was.out
    → ((o : ℕ) → get nat_eq part.failed o ≡ get nat_eq was.failed o)
    → spare was.failed ≤ spare part.failed → Counts given h old → Counts given h new
counts-roomy given h old new q was part read items below successes drains ended stored fresh unstored
    out failed places counts = record {
      count = ap length items ∙ length-set old.parts.items q part ∙ counts.count;
      each = λ p d within held. rw items (elim (cases_Bool (q == p)) [
        | inl same ↦ subst (λ (u : ℕ). CountsPart given h u (get_or (set old.parts.items q part) u d))
            (eqb-true q p same) (rw (get_or-set_same old.parts.items q part d below)
            (here (subst (λ (u : ℕ). is_held h u ≡ true) (sym (eqb-true q p same)) held)))
        | inr apart ↦
            let other : p ≡ q → ⊥ = λ (e : p ≡ q). true-not-false (q == p) (eq-eqb q p (sym e)) apart in
            rw (get_or-set_other old.parts.items q p part d other) (counts.each p d within held)
      ]);
      successes = successes ∙ counts.successes;
      drains = drains ∙ counts.drains;
      ended = ended ∙ counts.ended;
    }
  where
    here : is_held h q ≡ true → CountsPart given h q part
    here held =
        let known = counts-read given h old q was counts (omega (arith, below, counts.count)) held read in
        record {
          stored = known.stored ∙ ap Some (sym stored);
          fresh = fresh ∙ known.fresh;
          unstored = unstored ∙ known.unstored;
          out = out ∙ known.out;
          failed = λ o. ap (λ x. unwrap_or x 0) (failed o) ∙ known.failed o;
          places = let le = known.places in omega (arith, out, le, places);
        }

pub counts-dispatch : (given : Given) (h : List Event) (t w q o e a : ℕ) (old new : Ledger)
    (was part : PartLedger) → was ≡ get_or old.parts.items q was
    → new.parts.items ≡ set old.parts.items q part → q < length given.logs → is_held h q ≡ true
    → is_settled h t ≡ false → e ≡ epoch_of h q → new.successes ≡ old.successes
    → new.drains ≡ old.drains → new.ended ≡ old.ended → part.stored ≡ was.stored
    → part.fresh ≡ was.fresh → part.unstored ≡ was.unstored → part.out ≡ was.out + 1
    → part.failed ≡ was.failed → was.out < spare was.failed → Counts given h old
    → Counts given (Dispatch t w q o e a ∷ h) new
counts-dispatch given h t w q o e a old new was part read items below held settled epoch successes
    drains ended stored fresh unstored out failed places counts =
    let known = counts-read given h old q was counts below held read in
    counts-set given h (Dispatch t w q o e a) old new q part items (omega (arith, below, counts.count))
    (λ held_then. record {
      stored = known.stored ∙ ap Some (sym stored);
      fresh = fresh ∙ known.fresh;
      unstored = unstored ∙ known.unstored;
      out = out ∙ ap (λ (n : ℕ). n + 1) known.out
          ∙ sym (out-dispatch h t w q o e a settled epoch);
      failed = λ u. ap (λ m. unwrap_or (get nat_eq m u) 0) failed ∙ known.failed u;
      places = rw failed (omega (arith, out, places));
    })
    (λ p apart held_there. record {
      held = held_there;
      stored = refl;
      fresh = refl;
      unstored = refl;
      out = out-dispatch_other h t w q o e a settled p apart;
      failed = λ u. refl;
    })
    (successes ∙ counts.successes) (drains ∙ counts.drains) (ended ∙ counts.ended) counts

-- ---- a result

-- there are no more successes than events
pub fresh-few : (h : List Event) (p e : ℕ) → new_successes h p e ≤ length h
fresh-few [] p e = omega arith
fresh-few (v ∷ h) p e = let few = fresh-few h p e in fewer (is_commit_or_assign v p) (is_success_of v h p e) few
  where
    fewer : (a b : Bool) → new_successes h p e ≤ length h
        → cond a 0 (cond b (new_successes h p e + 1) (new_successes h p e)) ≤ suc (length h)
    fewer true b few = omega arith
    fewer false true few = omega (arith, few)
    fewer false false few = omega (arith, few)

pub successes-few : (h : List Event) → success_count h ≤ length h
successes-few [] = omega arith
successes-few (Success t answer ∷ h) = let few = successes-few h in omega (arith, few)
successes-few (v ∷ h) = let few = successes-few h in omega (arith, few)

-- no record failed more often than there are events
pub failures_of-le : (h : List Event) (p e o : ℕ) → failures_in h p e o ≤ length h
failures_of-le [] p e o = omega arith
failures_of-le (v ∷ h) p e o = more (failure_in v h p e o) (failures_in h p e o) (length h)
    (failures_of-le h p e o)
  where
    more : (f : Option ℕ) (n k : ℕ) → n ≤ k → count_one f n ≤ suc k
    more None n k le = omega (arith, le)
    more (Some ready) n k le = omega (arith, le)

module _ (given : Given) (h : List Event) (t q o : ℕ) (legal : IsLegal given h)
    (work : IsAtWork h t q o) where
  succeeds : (answer : List ℕ) → is_success_of (Success t answer) h q (epoch_of h q) ≡ true
  succeeds answer = rw (
    work.is,
    eq-eqb work.job.part q work.part,
    eq-eqb work.job.epoch (epoch_of h q) work.epoch,
  ) refl

  apart-part : (p : ℕ) → (q == p) ≡ false → (work.job.part == p) ≡ false
  apart-part p apart = ap (λ (u : ℕ). u == p) work.part ∙ apart

  fails : (answer : List ℕ) (p e : ℕ) → (q == p) ≡ false
      → is_success_of (Success t answer) h p e ≡ false
  fails answer p e apart = rw (work.is, apart-part p apart) refl

  -- of another part the job is none
  other-job : (p e : ℕ) → (q == p) ≡ false → (j : Job) → In j (open_jobs h) → j.ticket ≡ t
      → is_job_of p e j ≡ false
  other-job p e apart j i ticket =
      let same : j.part ≡ q = ap (λ (k : Job). k.part) (only j i ticket) ∙ work.part in
      rw (ap (λ (u : ℕ). u == p) same ∙ apart) refl
    where
      only : (j : Job) → In j (open_jobs h) → j.ticket ≡ t → j ≡ work.job
      only j i ticket = one-job given h legal j work.job
          (In-filtered (λ (k : Job). not (is_settled h k.ticket)) j (jobs_of h) i).0
          (In-filtered (λ (k : Job). not (is_settled h k.ticket)) work.job (jobs_of h) work.out).0
          (ticket ∙ sym work.ticket)

  pub counts-success : (answer : List ℕ) (old new : Ledger) (was part : PartLedger)
      → was ≡ get_or old.parts.items q was → new.parts.items ≡ set old.parts.items q part
      → q < length given.logs → new.successes ≡ old.successes + 1 → new.drains ≡ old.drains
      → new.ended ≡ old.ended → part.stored ≡ was.stored → part.fresh ≡ was.fresh + 1
      → part.unstored ≡ true → part.out + 1 ≡ was.out → part.failed ≡ was.failed
      → Counts given h old → Counts given (Success t answer ∷ h) new
  counts-success answer old new was part read items below successes drains ended stored fresh unstored
      out failed counts =
      let known = counts-read given h old q was counts below work.held read in
      counts-set given h (Success t answer) old new q part items (omega (arith, below, counts.count))
      (λ held. record {
        stored = known.stored ∙ ap Some (sym stored);
        fresh = rw (succeeds answer) (fresh ∙ ap (λ (n : ℕ). n + 1) known.fresh);
        unstored = rw (succeeds answer) unstored;
        out = let less = out-settled given h legal t q o work (Success t answer) refl (λ u. refl) refl in
            let was_out = known.out in omega (arith, out, less, was_out);
        failed = λ u. ap (λ m. unwrap_or (get nat_eq m u) 0) failed ∙ known.failed u;
        places = rw failed (let le = known.places in omega (arith, out, le));
      })
      (λ p apart held. record {
        held = held;
        stored = refl;
        fresh = rw (fails answer p (epoch_of h p) apart) refl;
        unstored = rw (fails answer p (epoch_of h p) apart) refl;
        out = out-settled_other (Success t answer) h t p refl (λ u. refl) refl
            (other-job p (epoch_of h p) apart);
        failed = λ u. refl;
      })
      (successes ∙ ap (λ (n : ℕ). n + 1) counts.successes) (drains ∙ counts.drains)
      (ended ∙ counts.ended) counts

  -- the offset failed once more, and no other did
  failed-once : (code ready u : ℕ) → failures_of (Failure t code ready ∷ h) q u
      ≡ cond (o == u) (failures_of h q u + 1) (failures_of h q u)
  failed-once code ready u = elim (cases_Bool (o == u)) [
    | inl here ↦ rw (
      work.is,
      eq-eqb work.job.part q work.part,
      eq-eqb work.job.epoch (epoch_of h q) work.epoch,
      ap (λ (n : ℕ). n == u) work.offset ∙ here,
      here,
    ) refl
    | inr there ↦ rw (
      work.is,
      eq-eqb work.job.part q work.part,
      eq-eqb work.job.epoch (epoch_of h q) work.epoch,
      ap (λ (n : ℕ). n == u) work.offset ∙ there,
      there,
    ) refl
  ]

  pub counts-failure : (code ready : ℕ) (old new : Ledger) (was part : PartLedger)
      → was ≡ get_or old.parts.items q was → new.parts.items ≡ set old.parts.items q part
      → q < length given.logs → new.successes ≡ old.successes → new.drains ≡ old.drains
      → new.ended ≡ old.ended → part.stored ≡ was.stored → part.fresh ≡ was.fresh
      → part.unstored ≡ was.unstored → part.out + 1 ≡ was.out
      → ((u : ℕ) → unwrap_or (get nat_eq part.failed u) 0
      ≡ cond (o == u) (unwrap_or (get nat_eq was.failed o) 0 + 1) (unwrap_or (get nat_eq was.failed u) 0))
      → spare was.failed ≤ spare part.failed + 1
      → Counts given h old → Counts given (Failure t code ready ∷ h) new
  counts-failure code ready old new was part read items below successes drains ended stored fresh
      unstored out failed places counts =
      let known = counts-read given h old q was counts below work.held read in
      counts-set given h (Failure t code ready) old new q part items (omega (arith, below, counts.count))
      (λ held. record {
        stored = known.stored ∙ ap Some (sym stored);
        fresh = fresh ∙ known.fresh;
        unstored = unstored ∙ known.unstored;
        out = let less = out-settled given h legal t q o work (Failure t code ready) refl (λ u. refl) refl in
            let was_out = known.out in omega (arith, out, less, was_out);
        failed = λ u. failed u ∙ once known u ∙ sym (failed-once code ready u);
        places = let le = known.places in omega (arith, out, le, places);
      })
      (λ p apart held. record {
        held = held;
        stored = refl;
        fresh = refl;
        unstored = refl;
        out = out-settled_other (Failure t code ready) h t p refl (λ u. refl) refl
            (other-job p (epoch_of h p) apart);
        failed = λ u. failures-same given h (Failure t code ready ∷ h) p u
            (other_part given p (Failure t code ready) h (rw (work.is, apart-part p apart) refl));
      })
      (successes ∙ counts.successes) (drains ∙ counts.drains) (ended ∙ counts.ended) counts
    where
      once : CountsPart given h q was → (u : ℕ)
          → cond (o == u) (unwrap_or (get nat_eq was.failed o) 0 + 1) (unwrap_or (get nat_eq was.failed u) 0)
          ≡ cond (o == u) (failures_of h q u + 1) (failures_of h q u)
      once known u = elim (cases_Bool (o == u)) [
        | inl here ↦ rw here (ap (λ (n : ℕ). n + 1) (known.failed o
            ∙ ap (failures_of h q) (eqb-true o u here)))
        | inr there ↦ rw there (known.failed u)
      ]

-- each part has its place in the ledger
pub ledger-below : (given : Given) (h : List Event) (s : State) (p : ℕ) → Knows given h s
    → p < length given.logs → p < length s.ledger.parts.items
ledger-below given h s p knows below = let same = knows.ledger.count in omega (arith, below, same)
