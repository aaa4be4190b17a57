-- The positions of a part's commits never go down, and its position never falls within an epoch.
use Rattle.std.proofs.Common.{◌≡◌, ℕ, ◌+◌, ◌≤◌, Bool, true, false, ◌||◌, ◌==◌, cond, List, [], ◌∷◌, ◌++◌, refl, ap, sym, subst, arith, inl, inr, eq-eqb}
use Rattle.std.specs.Prelude.{nat_le}
use Rattle.std.proofs.lemmas.Bool.{cases_Bool, eqb-true, leb-true}
use Rattle.pc_model.specs.declared.event.Event.{Event}
use Rattle.pc_model.specs.declared.event.Event.TheVariants.{Assign, Poll, Dispatch, Success, Failure, Stale, Commit as Committed, CommitFailed, Revoke, Lost, Crash, Tick, Drain, Done, Closed}
use Rattle.pc_model.specs.declared.commit.Commit.{Commit}
use Rattle.pc_model.specs.declared.commit.SizedCommit.{SizedCommit}
use Rattle.pc_model.specs.Record.{Record}
use Rattle.pc_model.specs.Given.{Given, records_of, start_of}
use Rattle.pc_model.specs.Jobs.{job_of}
use Rattle.pc_model.specs.Epochs.{epoch_of, is_held, moves}
use Rattle.pc_model.specs.Stored.{may_store, passes, map_end, is_entry}
use Rattle.pc_model.specs.Marks.{commit_at}
use Rattle.pc_model.specs.Known.{assigned_commit, begin_of, polled_count, records_from_begin, polled_records, unpolled_records, known_records, is_job_at, has_succeeded, is_complete, marks_of, position_of, commit_of}
use Rattle.pc_model.specs.Lawful.{IsLegal, CommitIsLawful}
use Rattle.pc_model.proofs.SamePart.{other_part}
use Rattle.pc_model.proofs.KnownLaws.{position_of-same, polled_count-poll, assigned_commit-assign}
use Rattle.pc_model.proofs.StoredLaws.{may_store-assign, may_store-commit, may_store-commit_failed}
use Rattle.pc_laws.specs.Lists.{In}
use Rattle.pc_laws.specs.Positions.{first_position, IsInOrder, CommitsUpTo, PositionsRise}
use Rattle.pc_laws.proofs.Lists.{or-cases, or-left, or-right, true-not-false, In-filtered, In-append, In-append_left}
use Rattle.pc_laws.proofs.Rising.{Rises, Rises-filter, legal-rises, known_of, known_of-In}
use Rattle.pc_laws.proofs.Position.{IsPosition, is_position, begin-le, position-le, known_of-more, known_of-above}
use Rattle.pc_laws.proofs.SoundLaw.{entry-In}

-- ---- the position of a part

-- the records that a part knows
abbrev pub known_by : Given → List Event → ℕ → List Record
known_by given h p = known_of (polled_count h p) (map_end (assigned_commit h p))
    (records_from_begin given h p)

pub is_position_of : (given : Given) (h : List Event) (p : ℕ) → IsPosition (begin_of h p)
    (position_of given h p) (is_complete h p) (known_by given h p)
unfolding marks_of known_records polled_records unpolled_records
is_position_of given h p = is_position (begin_of h p) (is_complete h p) (known_by given h p)

known-from_begin : (given : Given) (h : List Event) (p : ℕ) (r : Record) → In r
    (known_by given h p) → begin_of h p ≤ r.offset
known-from_begin given h p r i = leb-true (begin_of h p) r.offset
    (In-filtered (λ q. nat_le (begin_of h p) q.offset) r (records_of given p)
    (known_of-In _ _ (records_from_begin given h p) r i)).1

pub position_of-begin_le : (given : Given) (h : List Event) (p : ℕ) →
    begin_of h p ≤ position_of given h p
position_of-begin_le given h p = begin-le (begin_of h p) (position_of given h p) (is_complete h p)
    (known_by given h p) (is_position_of given h p) (known-from_begin given h p)

-- ---- one more event that does not move the part

module _ (given : Given) (h : List Event) (legal : IsLegal given h) (p : ℕ) where
  pub from_begin-rises : Rises 0 (records_from_begin given h p)
  from_begin-rises = Rises-filter (λ r. nat_le (begin_of h p) r.offset) 0 (records_of given p)
      (legal-rises given h legal p)

  position_of-poll : (count last : ℕ) → position_of given h p ≤ position_of given
      (Poll p count last ∷ h) p
  unfolding is_complete
  position_of-poll count last =
      position-le (begin_of h p) _ _ (is_complete h p) (is_complete (Poll p count last ∷ h) p)
      (known_by given h p)
      (known_of (polled_count h p + count) (map_end (assigned_commit h p))
      (records_from_begin given h p))
      (is_position_of given h p)
      (subst (λ (n : ℕ). IsPosition (begin_of h p) (position_of given (Poll p count last ∷ h) p)
      (is_complete (Poll p count last ∷ h) p)
      (known_of n (map_end (assigned_commit h p)) (records_from_begin given h p)))
      (polled_count-poll given h p count last) (is_position_of given (Poll p count last ∷ h) p))
      (λ r i. known_of-more (polled_count h p) count _ (records_from_begin given h p) r i)
      (λ r i done. done)
      (λ r i. known_of-above (polled_count h p) _ 0 (records_from_begin given h p)
      (is_complete h p) r from_begin-rises (known_of-In _ _ (records_from_begin given h p) r i))
      (λ r i. leb-true (begin_of h p) r.offset
      (In-filtered (λ q. nat_le (begin_of h p) q.offset) r (records_of given p)
      (known_of-In _ _ (records_from_begin given h p) r i)).1)

  position_of-success : (t : ℕ) (answer : List ℕ) → position_of given h p ≤ position_of given
      (Success t answer ∷ h) p
  unfolding is_complete
  position_of-success t answer =
      position-le (begin_of h p) _ _ (is_complete h p) (is_complete (Success t answer ∷ h) p)
      (known_by given h p) (known_by given h p)
      (is_position_of given h p) (is_position_of given (Success t answer ∷ h) p) (λ r i. i)
      (λ r i done. elim (or-cases (has_succeeded h p (epoch_of h p) r.offset)
      (passes (assigned_commit h p) r.offset) done) [
        | inl succeeded ↦ or-left _ (passes (assigned_commit h p) r.offset)
            (or-right (is_job_at (job_of h t) p (epoch_of h p) r.offset)
            (has_succeeded h p (epoch_of h p) r.offset) succeeded)
        | inr passed ↦ or-right (is_job_at (job_of h t) p (epoch_of h p) r.offset
            || has_succeeded h p (epoch_of h p) r.offset)
            (passes (assigned_commit h p) r.offset) passed
      ])
      (λ r i. inl i) (known-from_begin given h p)

-- an equal number is not lower
same-le : (x y : ℕ) → y ≡ x → x ≤ y
same-le x y e = omega arith

-- the position never falls within an epoch
pub position_of-le : (given : Given) (v : Event) (h : List Event) (p : ℕ) → IsLegal given h →
    moves v p ≡ false → position_of given h p ≤ position_of given (v ∷ h) p
unfolding marks_of known_records polled_records unpolled_records is_complete
position_of-le given (Assign q epoch position text) h p legal apart =
    same-le _ _ (position_of-same given p h (Assign q epoch position text ∷ h)
    (other_part given p (Assign q epoch position text) h apart))
position_of-le given (Poll q count last) h p legal apart = elim (cases_Bool (q == p)) [
  | inl same ↦ subst (λ (u : ℕ). position_of given h p ≤ position_of given
      (Poll u count last ∷ h) p) (sym (eqb-true q p same))
      (position_of-poll given h legal p count last)
  | inr other ↦ same-le _ _
      (position_of-same given p h (Poll q count last ∷ h)
      (other_part given p (Poll q count last) h other))
]
position_of-le given (Success t answer) h p legal apart =
    position_of-success given h legal p t answer
position_of-le given (Revoke q epoch) h p legal apart = same-le _ _
    (position_of-same given p h (Revoke q epoch ∷ h) (other_part given p (Revoke q epoch) h apart))
position_of-le given (Lost q epoch) h p legal apart = same-le _ _
    (position_of-same given p h (Lost q epoch ∷ h) (other_part given p (Lost q epoch) h apart))
position_of-le given Crash h p legal apart = cc
position_of-le given (Dispatch t w q o e a) h p legal apart = same-le _ _ refl
position_of-le given (Failure t code ready) h p legal apart = same-le _ _ refl
position_of-le given (Stale t) h p legal apart = same-le _ _ refl
position_of-le given (Committed q position text size) h p legal apart = same-le _ _ refl
position_of-le given (CommitFailed q position text size) h p legal apart = same-le _ _ refl
position_of-le given (Tick now) h p legal apart = same-le _ _ refl
position_of-le given Drain h p legal apart = same-le _ _ refl
position_of-le given Done h p legal apart = same-le _ _ refl
position_of-le given Closed h p legal apart = same-le _ _ refl

-- ---- what may be stored is in order

CommitsUpTo-more : (h : List Event) (p x y : ℕ) → x ≤ y → CommitsUpTo h p x → CommitsUpTo h p y
CommitsUpTo-more [] p x y le upto = tt
CommitsUpTo-more (Committed q position text size ∷ h) p x y le upto = (
  λ same. let below : position ≤ x = upto.0 same
      in omega arith,
  CommitsUpTo-more h p x y le upto.1,
)
CommitsUpTo-more (v ∷ h) p x y le upto = CommitsUpTo-more h p x y le upto

-- an event that leaves the part's commits and does not move it
module _ (given : Given) (v : Event) (h : List Event) (p : ℕ) (order : IsInOrder given h p)
    (stored : may_store given (v ∷ h) p ≡ may_store given h p)
    (held : is_held (v ∷ h) p ≡ true →
    (is_held h p ≡ true) × (position_of given h p ≤ position_of given (v ∷ h) p))
    (commits : (x : ℕ) → CommitsUpTo h p x → CommitsUpTo (v ∷ h) p x) where
  IsInOrder-more : IsInOrder given (v ∷ h) p
  IsInOrder-more = record {
    first = λ c i. rw stored (order.first c (rw stored at i));
    within = λ c is i. let at = held is in let le : c.position ≤ position_of given h p =
        order.within c at.0 (rw stored at i) in
        let up : position_of given h p ≤ position_of given (v ∷ h) p = at.1 in omega arith;
    commits = rw stored (commits (first_position (may_store given h p)) order.commits);
    some = rw stored order.some;
  }

-- the position is not below the first
first-le : (given : Given) (h : List Event) (p : ℕ) → IsInOrder given h p → is_held h p ≡ true →
    first_position (may_store given h p) ≤ position_of given h p
first-le given h p order held =
    let is : first_position (may_store given h p) ≡ order.some.0.position = order.some.2 in
    let le : order.some.0.position ≤ position_of given h p =
    order.within order.some.0 held order.some.1 in
    omega arith

In-one : {X : Type 0} (x y : X) → In x (y ∷ []) → x ≡ y
In-one x y (inl same) = same
In-one x y (inr none) = absurd none

first_position-append : (cs ds : List Commit) (c : Commit) → In c cs → first_position (cs ++ ds)
    ≡ first_position cs
first_position-append [] ds c i = absurd i
first_position-append (d ∷ cs) ds c i = refl

-- the position of the part's commit is the part's
position_of-commit : (given : Given) (h : List Event) (p position : ℕ) (text : List ℕ) (size : ℕ)
    → commit_of given h p ≡ record
    { commit = record { position = position; map = text }; size = size } → position_of given h p
    ≡ position
unfolding commit_at
position_of-commit given h p position text size is = ap (λ (c : SizedCommit). c.commit.position) is

-- an assignment with one of the commits that may be stored
order-assign : (given : Given) (h : List Event) (p epoch position : ℕ) (text : List ℕ) →
    IsInOrder given h p
    → In (record { position = position; map = text }) (may_store given h p) → IsInOrder given
    (Assign p epoch position text ∷ h) p
order-assign given h p epoch position text order entry = record {
  first = λ c i. let is : c ≡ record { position = position; map = text } = In-one c _
      (rw (may_store-assign given h p position text epoch) at i) in
      rw (may_store-assign given h p position text epoch, is) (same-le position position refl);
  within = λ c held i. let is : c ≡ record { position = position; map = text } = In-one c _
      (rw (may_store-assign given h p position text epoch) at i) in
      rw is (subst (λ (d : Commit). d.position ≤ position_of given
      (Assign p epoch position text ∷ h) p)
      (assigned_commit-assign given h p epoch position text)
      (position_of-begin_le given (Assign p epoch position text ∷ h) p));
  commits = rw (may_store-assign given h p position text epoch)
      (CommitsUpTo-more h p (first_position (may_store given h p)) position
      (order.first _ entry) order.commits);
  some = rw (may_store-assign given h p position text epoch)
      (record { position = position; map = text }, inl refl, refl);
}

-- a stored commit of the part as it stands
order-commit : (given : Given) (h : List Event) (p position : ℕ) (text : List ℕ) (size : ℕ) →
    IsInOrder given h p
    → CommitIsLawful given h p position text size → IsInOrder given
    (Committed p position text size ∷ h) p
unfolding marks_of known_records polled_records unpolled_records is_complete
order-commit given h p position text size order lawful =
    let is : position_of given h p ≡ position =
    position_of-commit given h p position text size lawful.commit_is in
    record {
      first = λ c i. let c_is : c ≡ record { position = position; map = text } = In-one c _
          (rw (may_store-commit given h p position text size) at i) in
          rw (may_store-commit given h p position text size, c_is) (same-le position position refl);
      within = λ c held i. let c_is : c ≡ record { position = position; map = text } = In-one c _
          (rw (may_store-commit given h p position text size) at i) in
          rw c_is (same-le position _ is);
      commits = rw (may_store-commit given h p position text size) (
        λ same. same-le position position refl,
        CommitsUpTo-more h p (first_position (may_store given h p)) position
            (rw (← is) (first-le given h p order lawful.held)) order.commits,
      );
      some = rw (may_store-commit given h p position text size)
          (record { position = position; map = text }, inl refl, refl);
    }

-- a commit of the part as it stands that failed
order-commit_failed : (given : Given) (h : List Event) (p position : ℕ) (text : List ℕ) (size : ℕ) →
    IsInOrder given h p
    → CommitIsLawful given h p position text size → IsInOrder given
    (CommitFailed p position text size ∷ h) p
unfolding marks_of known_records polled_records unpolled_records is_complete
order-commit_failed given h p position text size order lawful =
    let is : position_of given h p ≡ position =
    position_of-commit given h p position text size lawful.commit_is in
    let front = first_position-append (may_store given h p)
    (record { position = position; map = text } ∷ []) order.some.0 order.some.1 in
    record {
      first = λ c i. rw (may_store-commit_failed given h p position text size, front)
          (elim (In-append c (may_store given h p) _
          (rw (may_store-commit_failed given h p position text size) at i)) [
            | inl old ↦ order.first c old
            | inr new ↦ let c_is : c.position ≡ position = ap (λ (d : Commit). d.position)
                (In-one c _ new) in
                let le : first_position (may_store given h p) ≤ position_of given h p =
                first-le given h p order lawful.held in omega arith
          ]);
      within = λ c held i. elim
          (In-append c (may_store given h p) _
          (rw (may_store-commit_failed given h p position text size) at i)) [
            | inl old ↦ order.within c held old
            | inr new ↦ let c_is : c.position ≡ position = ap (λ (d : Commit). d.position)
                (In-one c _ new) in omega arith
          ];
      commits = rw (may_store-commit_failed given h p position text size, front) order.commits;
      some = rw (may_store-commit_failed given h p position text size, front) (
        order.some.0,
        In-append_left order.some.0
            (may_store given h p) _ order.some.1,
        order.some.2,
      );
    }

-- ---- every legal history, over a link that tells its store

pub held_apart : (b held : Bool) → cond b false held ≡ true → (b ≡ false) × (held ≡ true)
held_apart true held e = cc
held_apart false held e = (refl, e)

pub is_in_order : (given : Given) (h : List Event) (p : ℕ) → given.is_told ≡ true → IsLegal given h
    → IsInOrder given h p
is_in_order given [] p told legal = record {
  first = λ c i. let is : c ≡ start_of given p = In-one c _ i in rw is (same-le _ _ refl);
  within = λ c held i. cc;
  commits = tt;
  some = (start_of given p, inl refl, refl);
}
is_in_order given (Assign q epoch position text ∷ h) p told legal =
    let order = is_in_order given h p told legal.2 in elim (cases_Bool (q == p)) [
      | inl same ↦
          let is : q ≡ p = eqb-true q p same in
          subst (λ (u : ℕ). IsInOrder given (Assign u epoch position text ∷ h) p) (sym is)
          (order-assign given h p epoch position text order
          (entry-In (may_store given h p) _
          (subst (λ (u : ℕ). is_entry (may_store given h u)
          (record { position = position; map = text }) ≡ true) is (legal.0.stored told))))
      | inr apart ↦ IsInOrder-more given (Assign q epoch position text) h p order (rw apart refl)
          (λ held. (
            rw apart at held,
            position_of-le given
                (Assign q epoch position text) h p legal.2 apart,
          )) (λ x upto. upto)
    ]
is_in_order given (Committed q position text size ∷ h) p told legal =
    let order = is_in_order given h p told legal.2 in elim (cases_Bool (q == p)) [
      | inl same ↦
          let is : q ≡ p = eqb-true q p same in
          subst (λ (u : ℕ). IsInOrder given (Committed u position text size ∷ h) p) (sym is)
          (order-commit given h p position text size order
          (subst (λ (u : ℕ). CommitIsLawful given h u position text size) is legal.0))
      | inr apart ↦ IsInOrder-more given (Committed q position text size) h p order (rw apart refl)
          (λ held. (held, position_of-le given (Committed q position text size) h p legal.2 refl))
          (λ x upto. (λ same. true-not-false (q == p) (eq-eqb q p same) apart, upto))
    ]
is_in_order given (CommitFailed q position text size ∷ h) p told legal =
    let order = is_in_order given h p told legal.2 in elim (cases_Bool (q == p)) [
      | inl same ↦
          let is : q ≡ p = eqb-true q p same in
          subst (λ (u : ℕ). IsInOrder given (CommitFailed u position text size ∷ h) p) (sym is)
          (order-commit_failed given h p position text size order
          (subst (λ (u : ℕ). CommitIsLawful given h u position text size) is legal.0))
      | inr apart ↦ IsInOrder-more given (CommitFailed q position text size) h p order
          (rw apart refl)
          (λ held. (
            held,
            position_of-le given
                (CommitFailed q position text size) h p legal.2 refl,
          )) (λ x upto. upto)
    ]
is_in_order given (Revoke q epoch ∷ h) p told legal = IsInOrder-more given (Revoke q epoch) h p
    (is_in_order given h p told legal.2) refl
    (λ held. let at = held_apart (q == p) (is_held h p) held in
    (at.1, position_of-le given (Revoke q epoch) h p legal.2 at.0)) (λ x upto. upto)
is_in_order given (Lost q epoch ∷ h) p told legal = IsInOrder-more given (Lost q epoch) h p
    (is_in_order given h p told legal.2) refl
    (λ held. let at = held_apart (q == p) (is_held h p) held in
    (at.1, position_of-le given (Lost q epoch) h p legal.2 at.0)) (λ x upto. upto)
is_in_order given (Crash ∷ h) p told legal = IsInOrder-more given Crash h p
    (is_in_order given h p told legal.2) refl (λ held. cc) (λ x upto. upto)
is_in_order given (v ∷ h) p told legal = IsInOrder-more given v h p
    (is_in_order given h p told legal.2) refl
    (λ held. (held, position_of-le given v h p legal.2 refl)) (λ x upto. upto)

-- ---- the law

pub positions_rise : (given : Given) (h : List Event) → given.is_told ≡ true → IsLegal given h →
    PositionsRise h
positions_rise given [] told legal = tt
positions_rise given (Assign p epoch position text ∷ h) told legal =
    let order = is_in_order given h p told legal.2 in (
      CommitsUpTo-more h p (first_position (may_store given h p)) position
          (order.first (record { position = position; map = text })
          (entry-In (may_store given h p) _ (legal.0.stored told))) order.commits,
      positions_rise given h told legal.2,
    )
positions_rise given (Committed p position text size ∷ h) told legal =
    let order = is_in_order given h p told legal.2 in
    let is : position_of given h p ≡ position =
    position_of-commit given h p position text size legal.0.commit_is in (
      CommitsUpTo-more h p (first_position (may_store given h p)) position
          (rw (← is) (first-le given h p order legal.0.held)) order.commits,
      positions_rise given h told legal.2,
    )
positions_rise given (v ∷ h) told legal = (tt, positions_rise given h told legal.2)
