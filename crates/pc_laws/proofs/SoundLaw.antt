-- Every legal history is sound, over a link that tells its store.
use Rattle.std.proofs.Common.{◌≡◌, ◌⊎◌, ℕ, ◌<◌, Bool, true, false, ◌&&◌, ◌==◌, cond, List, [], ◌∷◌, Option, Some, None, refl, sym, subst, inl, inr}
use Rattle.std.specs.Prelude.{nat_le, bytes_eq, unwrap_or}
use Rattle.std.specs.Option.{option_map_or}
use Rattle.std.proofs.lemmas.Bool.{cases_Bool, cases_lt, eqb-true, le-leb, lt-ltb}
use Rattle.std.proofs.lemmas.Slice.Eq.{bytes_eq-Decides}
use Rattle.pc_model.specs.declared.event.Event.{Event}
use Rattle.pc_model.specs.declared.event.Event.TheVariants.{Assign, Poll, Dispatch, Success, Failure, Stale, Commit as Committed, CommitFailed, Revoke, Lost, Crash, Tick, Drain, Done, Closed}
use Rattle.pc_model.specs.declared.commit.Commit.{Commit}
use Rattle.pc_model.specs.declared.commit.SizedCommit.{SizedCommit}
use Rattle.pc_model.specs.Record.{Record}
use Rattle.pc_model.specs.Given.{Given, records_of, record_at}
use Rattle.pc_model.specs.Jobs.{Job, job_of}
use Rattle.pc_model.specs.Epochs.{epoch_of, is_held, is_current}
use Rattle.pc_model.specs.Stored.{may_store, passes, map_end, stored_after, same_commit, is_entry}
use Rattle.pc_model.specs.Known.{assigned_commit, begin_of, polled_count, records_from_begin, polled_records, unpolled_records, known_records, is_job_at, is_success_at, has_succeeded, is_complete, marks_of, commit_of}
use Rattle.pc_model.specs.Lawful.{IsLegal, CommitIsLawful}
use Rattle.pc_model.specs.Sound.{is_current_job_at, is_current_success, was_done, MayPass, PassesSoundly, IsSound}
use Rattle.pc_laws.specs.Lists.{In}
use Rattle.pc_laws.specs.Kept.{KeepsPassing}
use Rattle.pc_laws.proofs.Lists.{and-left, and-right, or-cases, or-left, or-right, In-filter, In-find, In-list_any, In-append}
use Rattle.pc_laws.proofs.Rising.{Rises-filter, legal-rises}
use Rattle.pc_laws.proofs.Passing.{option_cases, passed_is_complete}

-- what may be passed over may be passed over after one more event
MayPass-more : (given : Given) (v : Event) (h : List Event) (p o : ℕ) → MayPass given h p o →
    MayPass given (v ∷ h) p o
MayPass-more given v h p o (inl none) = inl none
MayPass-more given v h p o (inr (inl start)) = inr (inl start)
MayPass-more given v h p o (inr (inr done)) = inr
    (inr (or-right (is_current_success v h p o) (was_done h p o) done))

PassesSoundly-more : (given : Given) (v : Event) (h : List Event) (p : ℕ) (c : Commit) →
    PassesSoundly given h p c → PassesSoundly given (v ∷ h) p c
PassesSoundly-more given v h p c sound o passed = MayPass-more given v h p o (sound o passed)

-- a success of a current job was done in an epoch then current
current_job : (h : List Event) (j : Option Job) (p e o : ℕ) → is_job_at j p e o ≡ true →
    option_map_or (is_current h) j false ≡ true
    → is_current_job_at h j p o ≡ true
current_job h None p e o at current = cc
current_job h (Some j) p e o at current =
    let front = and-left ((j.part == p) && (j.epoch == e)) (j.offset == o) at in
    rw (
      and-left (j.part == p) (j.epoch == e) front,
      and-right ((j.part == p) && (j.epoch == e))
          (j.offset == o) at,
      current,
    ) refl

-- ---- the commit of a held part

module _ (given : Given) (h : List Event) (legal : IsLegal given h) (kept : KeepsPassing given h)
    (p : ℕ)
    (held : is_held h p ≡ true) where
  -- a complete offset may be passed over
  complete_passes : (o : ℕ) → is_complete h p o ≡ true → MayPass given h p o
  unfolding is_complete
  complete_passes o complete = elim
      (or-cases (has_succeeded h p (epoch_of h p) o) (passes (assigned_commit h p) o) complete) [
        | inl succeeded ↦ inr (inr (kept.done p (epoch_of h p) o succeeded))
        | inr passed ↦ kept.assigned p held o passed
      ]

  -- so may each offset below the begin
  below_begin : (o : ℕ) → o < begin_of h p → MayPass given h p o
  unfolding passes
  below_begin o below = kept.assigned p held o (or-left _ _ (lt-ltb o (begin_of h p) below))

  record_passes : (r : Record) → In r (records_of given p) → passes
      (commit_of given h p).commit r.offset ≡ true → MayPass given h p r.offset
  unfolding marks_of known_records polled_records unpolled_records
  record_passes r i passed = elim (cases_lt r.offset (begin_of h p)) [
    | inl below ↦ below_begin r.offset below
    | inr from ↦ complete_passes r.offset
        (passed_is_complete (polled_count h p) (map_end (assigned_commit h p)) 0
        (begin_of h p) given.setup.settings.map_limit (records_from_begin given h p)
        (is_complete h p) (Rises-filter (λ r. nat_le (begin_of h p) r.offset) 0 (records_of given p)
        (legal-rises given h legal p))
        r (In-filter (λ r. nat_le (begin_of h p) r.offset) r (records_of given p) i
        (le-leb (begin_of h p) r.offset from)) from passed)
  ]

  -- and each that the part's commit passes over
  commit_of-sound : PassesSoundly given h p (commit_of given h p).commit
  commit_of-sound o passed = elim (option_cases (record_at given p o)) [
    | inl none ↦ inl none
    | inr found ↦
        let at = In-find (λ r. r.offset == o) found.0 (records_of given p) found.1 in
        let is : found.0.offset ≡ o = eqb-true found.0.offset o at.1 in
        subst (λ (u : ℕ). MayPass given h p u) is (record_passes found.0 at.0 (rw is passed))
  ]

-- ---- one more event

-- commits of the same position and map are the same
Commit-same : (x y : ℕ) (s t : List ℕ) → x ≡ y → s ≡ t → ◌≡◌ {A = Commit}
    (record { position = x; map = s }) (record { position = y; map = t })
Commit-same x y s t a b = cc

-- an entry is one of the commits
pub entry-In : (cs : List Commit) (c : Commit) → is_entry cs c ≡ true → In c cs
entry-In cs c entry =
    let at = In-list_any (same_commit c) cs entry in
    let position : c.position ≡ at.0.position = eqb-true c.position at.0.position
    (and-left _ _ at.2) in
    let text : c.map ≡ at.0.map =
    (bytes_eq-Decides c.map at.0.map).0
    (and-right (c.position == at.0.position) (bytes_eq c.map at.0.map) at.2) in
    rw (Commit-same c.position at.0.position c.map at.0.map position text) at.1

module _ (given : Given) (v : Event) (h : List Event) (kept : KeepsPassing given h)
    (done : (p e o : ℕ) → is_success_at v h p e o ≡ true → is_current_success v h p o ≡ true)
    (assigned : (p : ℕ) → is_held (v ∷ h) p ≡ true
    → ((is_held h p ≡ true) × (assigned_commit (v ∷ h) p ≡ assigned_commit h p))
    ⊎ PassesSoundly given h p (assigned_commit (v ∷ h) p))
    (stored : (p : ℕ) (c : Commit) → In c (may_store given (v ∷ h) p) → In c (may_store given h p)
    ⊎ PassesSoundly given h p c) where
  KeepsPassing-more : KeepsPassing given (v ∷ h)
  KeepsPassing-more = record {
    done = λ p e o succeeded. elim
        (or-cases (is_success_at v h p e o) (has_succeeded h p e o) succeeded) [
          | inl now ↦ or-left (is_current_success v h p o) (was_done h p o) (done p e o now)
          | inr before ↦ or-right (is_current_success v h p o) (was_done h p o)
              (kept.done p e o before)
        ];
    assigned = λ p held. elim (assigned p held) [
      | inl same ↦ PassesSoundly-more given v h p (assigned_commit (v ∷ h) p)
          (rw same.1 (kept.assigned p same.0))
      | inr sound ↦ PassesSoundly-more given v h p (assigned_commit (v ∷ h) p) sound
    ];
    stored = λ p c i. elim (stored p c i) [
      | inl before ↦ PassesSoundly-more given v h p c (kept.stored p c before)
      | inr sound ↦ PassesSoundly-more given v h p c sound
    ];
  }

-- a lawful commit, stored or failed, passes over nothing else
commit-sound : (given : Given) (h : List Event) → IsLegal given h → KeepsPassing given h →
    (q position : ℕ) (text : List ℕ) (size : ℕ)
    → CommitIsLawful given h q position text size → PassesSoundly given h q
    (record { position = position; map = text })
commit-sound given h legal kept q position text size lawful =
    subst (λ (c : SizedCommit). PassesSoundly given h q c.commit) lawful.commit_is
    (commit_of-sound given h legal kept q lawful.held)

-- what may be stored after a commit that was stored, or that failed
stored_after-In : (b : Bool) (c d : Commit) (before : List Commit) → In d
    (stored_after (cond b (Some c) None) None before) → In d before ⊎ ((b ≡ true) × (d ≡ c))
stored_after-In true c d before (inl same) = inr (refl, same)
stored_after-In true c d before (inr none) = absurd none
stored_after-In false c d before i = inl i

failed_after-In : (b : Bool) (c d : Commit) (before : List Commit) → In d
    (stored_after None (cond b (Some c) None) before) → In d before ⊎ ((b ≡ true) × (d ≡ c))
failed_after-In true c d before i = elim (In-append d before (c ∷ []) i) [
  | inl old ↦ inl old
  | inr new ↦ elim new [ inl same ↦ inr (refl, same) | inr none ↦ absurd none ]
]
failed_after-In false c d before i = inl i

stored_cases : (given : Given) (h : List Event) (q p : ℕ) (c d : Commit) → PassesSoundly given h q c
    → In d (may_store given h p) ⊎ (((q == p) ≡ true) × (d ≡ c)) → In d (may_store given h p)
    ⊎ PassesSoundly given h p d
stored_cases given h q p c d sound (inl old) = inl old
stored_cases given h q p c d sound (inr new) =
    inr (subst (λ (u : ℕ). PassesSoundly given h u d) (eqb-true q p new.0) (rw new.1 sound))

assigned_cases : (given : Given) (h : List Event) (q p : ℕ) (c : Commit) → PassesSoundly given h q c
    → cond (q == p) true (is_held h p) ≡ true
    → ((is_held h p ≡ true) ×
    (unwrap_or (cond (q == p) (Some c) None) (assigned_commit h p) ≡ assigned_commit h p))
    ⊎ PassesSoundly given h p (unwrap_or (cond (q == p) (Some c) None) (assigned_commit h p))
assigned_cases given h q p c sound held = elim (cases_Bool (q == p)) [
  | inl same ↦ inr (subst (λ (b : Bool). PassesSoundly given h p
      (unwrap_or (cond b (Some c) None) (assigned_commit h p))) (sym same)
      (subst (λ (u : ℕ). PassesSoundly given h u c) (eqb-true q p same) sound))
  | inr apart ↦ inl (rw apart at held, rw apart refl)
]

-- a part that is held after a revocation or a loss is another one
held_before : (b held : Bool) → cond b false held ≡ true → held ≡ true
held_before true held e = cc
held_before false held e = e

pub keeps_passing : (given : Given) (h : List Event) → given.is_told ≡ true → IsLegal given h →
    KeepsPassing given h
keeps_passing given [] told legal = record {
  done = λ p e o succeeded. cc;
  assigned = λ p held. cc;
  stored = λ p c i o passed. inr
      (inl (elim i [ inl same ↦ rw (← same) passed | inr none ↦ absurd none ]));
}
keeps_passing given (Poll q count last ∷ h) told legal = KeepsPassing-more given
    (Poll q count last) h
    (keeps_passing given h told legal.2) (λ p e o s. cc) (λ p held. inl (held, refl))
    (λ p c i. inl i)
keeps_passing given (Dispatch t w q o e a ∷ h) told legal = KeepsPassing-more given
    (Dispatch t w q o e a) h
    (keeps_passing given h told legal.2) (λ p e o s. cc) (λ p held. inl (held, refl))
    (λ p c i. inl i)
keeps_passing given (Failure t code ready ∷ h) told legal = KeepsPassing-more given
    (Failure t code ready) h
    (keeps_passing given h told legal.2) (λ p e o s. cc) (λ p held. inl (held, refl))
    (λ p c i. inl i)
keeps_passing given (Stale t ∷ h) told legal = KeepsPassing-more given (Stale t) h
    (keeps_passing given h told legal.2) (λ p e o s. cc) (λ p held. inl (held, refl))
    (λ p c i. inl i)
keeps_passing given (Tick now ∷ h) told legal = KeepsPassing-more given (Tick now) h
    (keeps_passing given h told legal.2) (λ p e o s. cc) (λ p held. inl (held, refl))
    (λ p c i. inl i)
keeps_passing given (Drain ∷ h) told legal = KeepsPassing-more given Drain h
    (keeps_passing given h told legal.2)
    (λ p e o s. cc) (λ p held. inl (held, refl)) (λ p c i. inl i)
keeps_passing given (Done ∷ h) told legal = KeepsPassing-more given Done h
    (keeps_passing given h told legal.2)
    (λ p e o s. cc) (λ p held. inl (held, refl)) (λ p c i. inl i)
keeps_passing given (Closed ∷ h) told legal = KeepsPassing-more given Closed h
    (keeps_passing given h told legal.2)
    (λ p e o s. cc) (λ p held. inl (held, refl)) (λ p c i. inl i)
keeps_passing given (Crash ∷ h) told legal = KeepsPassing-more given Crash h
    (keeps_passing given h told legal.2)
    (λ p e o s. cc) (λ p held. cc) (λ p c i. inl i)
keeps_passing given (Success t answer ∷ h) told legal = KeepsPassing-more given (Success t answer) h
    (keeps_passing given h told legal.2)
    (λ p e o s. current_job h (job_of h t) p e o s legal.0.current) (λ p held. inl (held, refl))
    (λ p c i. inl i)
keeps_passing given (Revoke q epoch ∷ h) told legal = KeepsPassing-more given (Revoke q epoch) h
    (keeps_passing given h told legal.2)
    (λ p e o s. cc) (λ p held. inl (held_before (q == p) (is_held h p) held, refl)) (λ p c i. inl i)
keeps_passing given (Lost q epoch ∷ h) told legal = KeepsPassing-more given (Lost q epoch) h
    (keeps_passing given h told legal.2)
    (λ p e o s. cc) (λ p held. inl (held_before (q == p) (is_held h p) held, refl)) (λ p c i. inl i)
keeps_passing given (Assign q epoch position text ∷ h) told legal =
    let kept = keeps_passing given h told legal.2 in
    let c : Commit = record { position = position; map = text } in
    let sound : PassesSoundly given h q c = kept.stored q c
    (entry-In (may_store given h q) c (legal.0.stored told)) in
    KeepsPassing-more given (Assign q epoch position text) h kept (λ p e o s. cc)
    (λ p held. assigned_cases given h q p c sound held)
    (λ p d i. stored_cases given h q p c d sound
    (stored_after-In (q == p) c d (may_store given h p) i))
keeps_passing given (Committed q position text size ∷ h) told legal =
    let kept = keeps_passing given h told legal.2 in
    KeepsPassing-more given (Committed q position text size) h kept (λ p e o s. cc)
    (λ p held. inl (held, refl))
    (λ p d i. stored_cases given h q p (record { position = position; map = text }) d
    (commit-sound given h legal.2 kept q position text size legal.0)
    (stored_after-In (q == p) (record { position = position; map = text }) d
    (may_store given h p) i))
keeps_passing given (CommitFailed q position text size ∷ h) told legal =
    let kept = keeps_passing given h told legal.2 in
    KeepsPassing-more given (CommitFailed q position text size) h kept (λ p e o s. cc)
    (λ p held. inl (held, refl))
    (λ p d i. stored_cases given h q p (record { position = position; map = text }) d
    (commit-sound given h legal.2 kept q position text size legal.0)
    (failed_after-In (q == p) (record { position = position; map = text }) d
    (may_store given h p) i))

-- ---- the law

pub is_sound : (given : Given) (h : List Event) → given.is_told ≡ true → IsLegal given h →
    IsSound given h
is_sound given [] told legal = tt
is_sound given (Committed q position text size ∷ h) told legal = (
  commit-sound given h legal.2
      (keeps_passing given h told legal.2) q position text size legal.0,
  is_sound given h told legal.2,
)
is_sound given (CommitFailed q position text size ∷ h) told legal = (
  commit-sound given h legal.2
      (keeps_passing given h told legal.2) q position text size legal.0,
  is_sound given h told legal.2,
)
is_sound given (v ∷ h) told legal = (tt, is_sound given h told legal.2)
