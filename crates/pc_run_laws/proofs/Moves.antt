-- The events in which parts move: at most one more for each step than there are parts, and of each
-- part no more assignments than its steps make.
use Rattle.std.proofs.Common.{◌≡◌, ℕ, zero, suc, ◌+◌, ◌*◌, ◌≤◌, ◌<◌, Bool, true, false, not, ◌&&◌, ◌==◌, List, [], ◌∷◌, drop, length, Option, Some, None, refl, ap, sym, subst, ◌∙◌, arith, inl, inr}
use Rattle.std.specs.Prelude.{filter, slice_get, if◌then◌else◌}
use Rattle.std.specs.List.{range_with_len}
use Rattle.std.specs.Option.{option_map_or}
use Rattle.std.proofs.Math.Nat.{suc-mul}
use Rattle.std.proofs.lemmas.Bool.{cases_Bool, cases_lt, eqb-true, ne_eqb}
use Rattle.std.proofs.lemmas.Option.{slice_get_past}
use Rattle.pc_model.specs.declared.event.Event.{Event}
use Rattle.pc_model.specs.declared.event.Event.TheVariants.{Assign, Poll, Dispatch, Success, Failure, Stale, Commit as Committed, CommitFailed, Revoke, Lost, Crash, Tick, Drain, Done, Closed}
use Rattle.pc_model.specs.declared.step.Act.{Act}
use Rattle.pc_model.specs.declared.step.Act.TheVariants as act
use Rattle.pc_model.specs.declared.step.Step.{Step}
use Rattle.pc_model.specs.Given.{Given, has_log, parts_of}
use Rattle.pc_model.specs.Epochs.{is_held}
use Rattle.pc_model.specs.Lawful.{IsLegal, ends_in_commit, held_parts, is_nil}
use Rattle.pc_model.specs.Steps.{place_of, may_begin, same_act, is_step_due, follows, is_next_part}
use Rattle.pc_model.specs.Pace.{goes_with, is_commit_paced, is_paced, is_revoke_of, may_commit}
use Rattle.pc_model.specs.Run.{is_commit_due}
use Rattle.pc_model.specs.Bound.{assigns_in, logged_parts, may_assign}
use Rattle.pc_laws.specs.Lists.{In}
use Rattle.pc_laws.proofs.Lists.{and-left, and-right, or-cases, or-left, true-not-false, In-filter}
use Rattle.pc_laws.proofs.DoneLaw.{In-range}
use Rattle.pc_laws.proofs.HeldLaw.{held-has_log, log-below}
use Rattle.pc_run_laws.proofs.RestLaw.{is_nil-of, moves-before, moves-now, paced-before, paced-now, paced-with}
use Rattle.pc_run_laws.proofs.Tally.{Test, add_if, add_if-apart, add_if-one, never, tally}
use Rattle.pc_run_laws.proofs.PartCounts.{assigned}

-- ---- held parts are parts that have a log

has_log-part : (given : Given) (p : ℕ) → has_log given p ≡ true → In p (parts_of given)
has_log-part given p log = In-range 0 (length given.logs) p p (omega arith) (log-below given.logs p log)

pub held-logged : (given : Given) (h : List Event) (p : ℕ) → IsLegal given h → is_held h p ≡ true
    → In p (logged_parts given)
held-logged given h p legal held =
    let log = held-has_log given h p legal held in
    In-filter (has_log given) p (parts_of given) (has_log-part given p log) log

pub held-part : (given : Given) (h : List Event) (p : ℕ) → IsLegal given h → is_held h p ≡ true
    → In p (held_parts given h)
held-part given h p legal held =
    In-filter (is_held h) p (parts_of given) (has_log-part given p (held-has_log given h p legal held)) held

some-In : {X : Type 0} (x : X) (xs : List X) → In x xs → 1 ≤ length xs
some-In x [] i = absurd i
some-In x (y ∷ ys) i = omega arith

filter-fewer : (f g : ℕ → Bool) (ps : List ℕ) → ((p : ℕ) → f p ≡ true → g p ≡ true)
    → length (filter f ps) ≤ length (filter g ps)
filter-fewer f g [] both = omega arith
filter-fewer f g (p ∷ ps) both =
    let rest : length (filter f ps) ≤ length (filter g ps) = filter-fewer f g ps both in
    elim (cases_Bool (f p)) [
      | inl passes ↦ rw (passes, both p passes) (omega arith)
      | inr out ↦ elim (cases_Bool (g p)) [
        | inl kept ↦ rw (out, kept) (omega arith)
        | inr not_kept ↦ rw (out, not_kept) rest
      ]
    ]

held-few : (given : Given) (h : List Event) → IsLegal given h
    → length (held_parts given h) ≤ length (logged_parts given)
held-few given h legal = filter-fewer (is_held h) (has_log given) (parts_of given)
    (λ p held. held-has_log given h p legal held)

-- ---- the next step

-- where the block of an act begins: the step, and what is left of the steps after it
pub record Begins (given : Given) (steps : List Step) (h : List Event) (act : Act) : Type 0 where
  pub step : Step
  pub found : slice_get steps (place_of given h).begun ≡ Some step
  pub is_act : same_act step.act act ≡ true
  pub whole : (place_of given h).left ≡ []

begins-step : (given : Given) (steps : List Step) (h : List Event) (act : Act) (found : Option Step)
    → slice_get steps (place_of given h).begun ≡ found → (place_of given h).left ≡ []
    → option_map_or (λ step. same_act step.act act && is_step_due given step h) found false ≡ true
    → Begins given steps h act
begins-step given steps h act None at whole test = cc
begins-step given steps h act (Some step) at whole test =
    record { step = step; found = at; is_act = and-left _ _ test; whole = whole }

pub begins : (given : Given) (steps : List Step) (h : List Event) (act : Act) → may_begin given steps h act ≡ true
    → Begins given steps h act
begins given steps h act may = begins-step given steps h act (slice_get steps (place_of given h).begun) refl
    (is_nil-of (place_of given h).left (and-left _ _ may))
    (and-right (is_nil (place_of given h).left) _ may)

found-below : (steps : List Step) (b : ℕ) (step : Step) → slice_get steps b ≡ Some step → suc b ≤ length steps
found-below steps b step found = elim (cases_lt b (length steps)) [
  | inl below ↦ omega arith
  | inr past ↦ let none = slice_get_past steps b past in let nothing = rw none at found in cc nothing
]

drop-step : (steps : List Step) (b : ℕ) (step : Step) → slice_get steps b ≡ Some step
    → drop b steps ≡ step ∷ drop (suc b) steps
drop-step [] b step found = cc
drop-step (s ∷ steps) zero step found = let same : s ≡ step = cc in ap (λ (x : Step). x ∷ steps) same
drop-step (s ∷ steps) (suc b) step found = drop-step steps b step found

-- ---- a commit that began a revocation, and stands last

abbrev pub revokes : Given → Test
revokes given (Committed p position text size) h = not (is_commit_paced given h p)
revokes given (CommitFailed p position text size) h = not (is_commit_paced given h p)
revokes given _ h = false

abbrev pub moves : Test
moves (Assign p epoch position text) h = true
moves (Revoke p epoch) h = true
moves (Lost p epoch) h = true
moves Crash h = true
moves _ h = false

abbrev pub pending : Given → List Event → ℕ
pending given [] = 0
pending given (e ∷ h) = add_if (revokes given e h) 0

-- after it comes a revocation alone
pending-none : (given : Given) (h : List Event) (e : Event) → goes_with given h e ≡ true
    → ((p : ℕ) → is_revoke_of e p ≡ false) → pending given h ≡ 0
pending-none given [] e goes other = refl
pending-none given (Committed p position text size ∷ h) e goes other =
    elim (or-cases (is_commit_paced given h p) (is_revoke_of e p) goes) [
      | inl paced ↦ let is : is_commit_paced given h p ≡ true = paced in rw is refl
      | inr revoke ↦ true-not-false _ revoke (other p)
    ]
pending-none given (CommitFailed p position text size ∷ h) e goes other =
    elim (or-cases (is_commit_due given h p) (is_revoke_of e p) goes) [
      | inl due ↦
          let paced : is_commit_paced given h p ≡ true = or-left (is_commit_due given h p) _ due in
          rw paced refl
      | inr revoke ↦ true-not-false _ revoke (other p)
    ]
pending-none given (v ∷ h) e goes other = refl

-- ---- the blocks

-- so far: each block that was begun has at most one event more than there are parts
pub record Blocks (given : Given) (steps : List Step) (h : List Event) : Type 0 where
  pub few : tally never moves h + tally never (revokes given) h + length (place_of given h).left
      ≤ (place_of given h).begun * (length (logged_parts given) + 1) + pending given h
  pub left : (place_of given h).begun + pending given h ≤ length steps

block-step : (n b most : ℕ) → suc b * (n + 1) ≡ b * (n + 1) + n + 1
block-step n b most = let next : suc b * (n + 1) ≡ b * (n + 1) + (n + 1) = suc-mul b (n + 1) in omega arith

nil-length : {X : Type 0} (xs : List X) → xs ≡ [] → length xs ≡ 0
nil-length xs e = rw e refl

module _ (given : Given) (steps : List Step) (h : List Event) (legal : IsLegal given h)
    (so_far : Blocks given steps h) where
  few-before : tally never moves h + tally never (revokes given) h + length (place_of given h).left
      ≤ (place_of given h).begun * (length (logged_parts given) + 1) + pending given h
  few-before = so_far.few

  left-before : (place_of given h).begun + pending given h ≤ length steps
  left-before = so_far.left

  -- an event that moves nothing and begins no revocation
  still : (e : Event) → moves e h ≡ false → revokes given e h ≡ false
      → place_of given (e ∷ h) ≡ place_of given h → pending given h ≡ 0 → Blocks given steps (e ∷ h)
  still e unmoved plain place none =
      let few = few-before in
      let below = left-before in
      record {
        few = rw (unmoved, plain, place) (omega arith);
        left = rw (plain, place) (omega arith);
      }

  -- a commit that begins a revocation
  revoking : (e : Event) (act : Act) → moves e h ≡ false → revokes given e h ≡ true
      → place_of given (e ∷ h) ≡ place_of given h → pending given h ≡ 0
      → Begins given steps h act → Blocks given steps (e ∷ h)
  revoking e act unmoved begun place none at =
      let few = few-before in
      let below = found-below steps (place_of given h).begun at.step at.found in
      record {
        few = rw (unmoved, begun, place) (omega arith);
        left = rw (begun, place) (omega arith);
      }

  -- a block of one event, or the first of a crash
  block : (e : Event) (act : Act) → moves e h ≡ true → revokes given e h ≡ false
      → (place_of given (e ∷ h)).begun ≡ (place_of given h).begun + 1
      → length (place_of given (e ∷ h)).left ≤ length (logged_parts given) → pending given h ≡ 0
      → Begins given steps h act → Blocks given steps (e ∷ h)
  block e act moved plain place few_left none at =
      let few = few-before in
      let below : suc (place_of given h).begun ≤ length steps = found-below steps (place_of given h).begun at.step at.found in
      let whole : length (place_of given h).left ≡ 0 = nil-length (place_of given h).left at.whole in
      let next : suc (place_of given h).begun * (length (logged_parts given) + 1)
      ≡ (place_of given h).begun * (length (logged_parts given) + 1) + length (logged_parts given) + 1 =
      block-step (length (logged_parts given)) (place_of given h).begun 0 in
      let is : (place_of given (e ∷ h)).begun ≡ suc (place_of given h).begun = omega arith in
      let all : tally never moves (e ∷ h) ≡ suc (tally never moves h) = rw moved refl in
      let same : tally never (revokes given) (e ∷ h) ≡ tally never (revokes given) h = rw plain refl in
      let not_pending : pending given (e ∷ h) ≡ 0 = rw plain refl in
      record {
        few = let le : tally never moves (e ∷ h) + tally never (revokes given) (e ∷ h)
            + length (place_of given (e ∷ h)).left
            ≤ suc (place_of given h).begun * (length (logged_parts given) + 1) + pending given (e ∷ h) = omega arith in
            subst (λ (b : ℕ). tally never moves (e ∷ h) + tally never (revokes given) (e ∷ h)
            + length (place_of given (e ∷ h)).left
            ≤ b * (length (logged_parts given) + 1) + pending given (e ∷ h)) (sym is) le;
        left = let le : (place_of given (e ∷ h)).begun + pending given (e ∷ h) ≤ length steps = omega arith in le;
      }

  -- an assignment within the block of a crash
  again : (p epoch position : ℕ) (text : List ℕ) (left : List ℕ) → (place_of given h).left ≡ left
      → is_next_part left p ≡ true → pending given h ≡ 0 → Blocks given steps (Assign p epoch position text ∷ h)
  again p epoch position text [] is next none = cc
  again p epoch position text (q ∷ left) is next none =
      let few = few-before in
      let below = left-before in
      let one : length (place_of given h).left ≡ suc (length left) = rw is refl in
      let begun : (place_of given (Assign p epoch position text ∷ h)).begun ≡ (place_of given h).begun = rw is refl in
      let rest : length (place_of given (Assign p epoch position text ∷ h)).left ≡ length left = rw is refl in
      record {
        few = let le : suc (tally never moves h) + tally never (revokes given) h
            + length (place_of given (Assign p epoch position text ∷ h)).left
            ≤ (place_of given h).begun * (length (logged_parts given) + 1) + 0 = omega arith in
            subst (λ (b : ℕ). suc (tally never moves h) + tally never (revokes given) h
            + length (place_of given (Assign p epoch position text ∷ h)).left
            ≤ b * (length (logged_parts given) + 1) + 0) (sym begun) le;
        left = let le : (place_of given (Assign p epoch position text ∷ h)).begun + 0 ≤ length steps = omega arith in le;
      }

next-part-nil : (p : ℕ) (left : List ℕ) → left ≡ [] → is_next_part left p ≡ true → ⊥
next-part-nil p [] e is = cc
next-part-nil p (q ∷ left) e is = cc

-- the place before the commit of a revocation
ends-in : (given : Given) (h : List Event) (p : ℕ) → IsLegal given h → ends_in_commit h p ≡ true
    → (place_of given (drop 1 h) ≡ place_of given h) × (1 ≤ length (logged_parts given)) × (pending given h ≤ 1)
ends-in given [] p legal e = cc
ends-in given (Committed q position text size ∷ h) p legal e = (
  refl,
  some-In q (logged_parts given) (held-logged given h q legal.2 legal.0.held),
  add_if-one (revokes given (Committed q position text size) h),
)
ends-in given (CommitFailed q position text size ∷ h) p legal e = (
  refl,
  some-In q (logged_parts given) (held-logged given h q legal.2 legal.0.held),
  add_if-one (revokes given (CommitFailed q position text size) h),
)
ends-in given (v ∷ h) p legal e = cc

-- the revocation after its commit
revoked : (given : Given) (steps : List Step) (h : List Event) (p epoch : ℕ) → IsLegal given h
    → ends_in_commit h p ≡ true → may_begin given steps (drop 1 h) (act.Revoke p) ≡ true
    → Blocks given steps h → Blocks given steps (Revoke p epoch ∷ h)
revoked given steps h p epoch legal ends may so_far =
    let tail = ends-in given h p legal ends in
    let at = begins given steps (drop 1 h) (act.Revoke p) may in
    let few : tally never moves h + tally never (revokes given) h + length (place_of given h).left
    ≤ (place_of given h).begun * (length (logged_parts given) + 1) + pending given h = so_far.few in
    let one : 1 ≤ length (logged_parts given) = tail.1 in
    let few_pending : pending given h ≤ 1 = tail.2 in
    let found : slice_get steps (place_of given h).begun ≡ Some at.step = rw tail.0 at at.found in
    let below : suc (place_of given h).begun ≤ length steps = found-below steps (place_of given h).begun at.step found in
    let whole : length (place_of given h).left ≡ 0 = nil-length (place_of given h).left (rw tail.0 at at.whole) in
    let next : suc (place_of given h).begun * (length (logged_parts given) + 1)
    ≡ (place_of given h).begun * (length (logged_parts given) + 1) + length (logged_parts given) + 1 =
    block-step (length (logged_parts given)) (place_of given h).begun 0 in
    let is : (place_of given h).begun + 1 ≡ suc (place_of given h).begun = omega arith in
    record {
      few = let le : suc (tally never moves h) + tally never (revokes given) h + length (place_of given h).left
          ≤ suc (place_of given h).begun * (length (logged_parts given) + 1) + 0 = omega arith in
          subst (λ (b : ℕ). suc (tally never moves h) + tally never (revokes given) h + length (place_of given h).left
          ≤ b * (length (logged_parts given) + 1) + 0) (sym is) le;
      left = let le : (place_of given h).begun + 1 + 0 ≤ length steps = omega arith in le;
    }

-- a commit, stored or failed
commit-block : (given : Given) (steps : List Step) (e : Event) (h : List Event) (p : ℕ) → IsLegal given h
    → moves e h ≡ false → revokes given e h ≡ not (is_commit_paced given h p)
    → place_of given (e ∷ h) ≡ place_of given h → pending given h ≡ 0 → may_commit given steps h p ≡ true
    → Blocks given steps h → Blocks given steps (e ∷ h)
commit-block given steps e h p legal unmoved test place none may so_far =
    elim (cases_Bool (is_commit_paced given h p)) [
      | inl paced ↦ still given steps h legal so_far e unmoved (test ∙ ap not paced) place none
      | inr unpaced ↦ elim (or-cases (is_commit_paced given h p) (may_begin given steps h (act.Revoke p)) may) [
        | inl paced ↦ true-not-false _ paced unpaced
        | inr begin ↦ revoking given steps h legal so_far e (act.Revoke p) unmoved (test ∙ ap not unpaced) place none
            (begins given steps h (act.Revoke p) begin)
      ]
    ]

pub blocks : (given : Given) (steps : List Step) (h : List Event) → IsLegal given h
    → follows given steps h ≡ true → is_paced given steps h ≡ true → Blocks given steps h
blocks given steps [] legal follow pace = record { few = omega arith; left = omega arith }
blocks given steps (Assign p epoch position text ∷ h) legal follow pace =
    let e : Event = Assign p epoch position text in
    let so_far = blocks given steps h legal.2 (moves-before given steps e h follow) (paced-before given steps e h pace) in
    let none = pending-none given h e (paced-with given steps e h pace) (λ q. refl) in
    elim (or-cases (is_next_part (place_of given h).left p) (may_begin given steps h (act.Assign p))
    (moves-now given steps e h follow)) [
      | inl next ↦ again given steps h legal.2 so_far p epoch position text (place_of given h).left refl next none
      | inr may ↦
          let at = begins given steps h (act.Assign p) may in
          block given steps h legal.2 so_far e (act.Assign p) refl refl (rw at.whole refl)
          (rw at.whole (omega arith)) none at
    ]
blocks given steps (Revoke p epoch ∷ h) legal follow pace =
    let e : Event = Revoke p epoch in
    revoked given steps h p epoch legal.2 legal.0.after_commit (moves-now given steps e h follow)
    (blocks given steps h legal.2 (moves-before given steps e h follow) (paced-before given steps e h pace))
blocks given steps (Lost p epoch ∷ h) legal follow pace =
    let e : Event = Lost p epoch in
    let at = begins given steps h (act.Lose p) (moves-now given steps e h follow) in
    block given steps h legal.2
    (blocks given steps h legal.2 (moves-before given steps e h follow) (paced-before given steps e h pace))
    e (act.Lose p) refl refl refl
    (let none : length (place_of given h).left ≡ 0 = nil-length (place_of given h).left at.whole in omega arith)
    (pending-none given h e (paced-with given steps e h pace) (λ q. refl)) at
blocks given steps (Crash ∷ h) legal follow pace =
    let at = begins given steps h act.Crash (moves-now given steps Crash h follow) in
    block given steps h legal.2
    (blocks given steps h legal.2 (moves-before given steps Crash h follow) (paced-before given steps Crash h pace))
    Crash act.Crash refl refl refl (held-few given h legal.2)
    (pending-none given h Crash (paced-with given steps Crash h pace) (λ q. refl)) at
blocks given steps (Committed p position text size ∷ h) legal follow pace =
    let e : Event = Committed p position text size in
    commit-block given steps e h p legal.2 refl refl refl
    (pending-none given h e (paced-with given steps e h pace) (λ q. refl)) (paced-now given steps e h pace)
    (blocks given steps h legal.2 (moves-before given steps e h follow) (paced-before given steps e h pace))
blocks given steps (CommitFailed p position text size ∷ h) legal follow pace =
    let e : Event = CommitFailed p position text size in
    commit-block given steps e h p legal.2 refl refl refl
    (pending-none given h e (paced-with given steps e h pace) (λ q. refl)) (paced-now given steps e h pace)
    (blocks given steps h legal.2 (moves-before given steps e h follow) (paced-before given steps e h pace))
blocks given steps (Poll q count last ∷ h) legal follow pace =
    still given steps h legal.2
    (blocks given steps h legal.2 (moves-before given steps (Poll q count last) h follow) (paced-before given steps (Poll q count last) h pace))
    (Poll q count last) refl refl refl (pending-none given h (Poll q count last) (paced-with given steps (Poll q count last) h pace) (λ p. refl))
blocks given steps (Dispatch t w q o e' a ∷ h) legal follow pace =
    still given steps h legal.2
    (blocks given steps h legal.2 (moves-before given steps (Dispatch t w q o e' a) h follow) (paced-before given steps (Dispatch t w q o e' a) h pace))
    (Dispatch t w q o e' a) refl refl refl (pending-none given h (Dispatch t w q o e' a) (paced-with given steps (Dispatch t w q o e' a) h pace) (λ p. refl))
blocks given steps (Success t answer ∷ h) legal follow pace =
    still given steps h legal.2
    (blocks given steps h legal.2 (moves-before given steps (Success t answer) h follow) (paced-before given steps (Success t answer) h pace))
    (Success t answer) refl refl refl (pending-none given h (Success t answer) (paced-with given steps (Success t answer) h pace) (λ p. refl))
blocks given steps (Failure t code ready ∷ h) legal follow pace =
    still given steps h legal.2
    (blocks given steps h legal.2 (moves-before given steps (Failure t code ready) h follow) (paced-before given steps (Failure t code ready) h pace))
    (Failure t code ready) refl refl refl (pending-none given h (Failure t code ready) (paced-with given steps (Failure t code ready) h pace) (λ p. refl))
blocks given steps (Stale t ∷ h) legal follow pace =
    still given steps h legal.2
    (blocks given steps h legal.2 (moves-before given steps (Stale t) h follow) (paced-before given steps (Stale t) h pace))
    (Stale t) refl refl refl (pending-none given h (Stale t) (paced-with given steps (Stale t) h pace) (λ p. refl))
blocks given steps (Tick now ∷ h) legal follow pace =
    still given steps h legal.2
    (blocks given steps h legal.2 (moves-before given steps (Tick now) h follow) (paced-before given steps (Tick now) h pace))
    (Tick now) refl refl refl (pending-none given h (Tick now) (paced-with given steps (Tick now) h pace) (λ p. refl))
blocks given steps (Drain ∷ h) legal follow pace =
    still given steps h legal.2
    (blocks given steps h legal.2 (moves-before given steps Drain h follow) (paced-before given steps Drain h pace))
    Drain refl refl refl (pending-none given h Drain (paced-with given steps Drain h pace) (λ p. refl))
blocks given steps (Done ∷ h) legal follow pace =
    still given steps h legal.2
    (blocks given steps h legal.2 (moves-before given steps Done h follow) (paced-before given steps Done h pace))
    Done refl refl refl (pending-none given h Done (paced-with given steps Done h pace) (λ p. refl))
blocks given steps (Closed ∷ h) legal follow pace =
    still given steps h legal.2
    (blocks given steps h legal.2 (moves-before given steps Closed h follow) (paced-before given steps Closed h pace))
    Closed refl refl refl (pending-none given h Closed (paced-with given steps Closed h pace) (λ p. refl))

-- ---- how often a part is assigned

abbrev count_in : ℕ → List ℕ → ℕ
count_in p [] = 0
count_in p (q ∷ qs) = add_if (q == p) (count_in p qs)

count-filter : (f : ℕ → Bool) (p : ℕ) (qs : List ℕ) → count_in p (filter f qs) ≤ count_in p qs
count-filter f p [] = omega arith
count-filter f p (q ∷ qs) =
    let rest : count_in p (filter f qs) ≤ count_in p qs = count-filter f p qs in
    elim (cases_Bool (q == p)) [
      | inl same ↦ elim (cases_Bool (f q)) [
        | inl kept ↦ rw (kept, same) (omega arith)
        | inr out ↦ rw (out, same) (omega arith)
      ]
      | inr apart ↦ elim (cases_Bool (f q)) [
        | inl kept ↦ rw (kept, apart) rest
        | inr out ↦ rw (out, apart) rest
      ]
    ]

-- a range has each number once at most
count-above : (a n p : ℕ) → p < a → count_in p (range_with_len a n) ≡ 0
count-above a zero p below = refl
count-above a (suc n) p below = rw (ne_eqb a p (λ (e : a ≡ p). omega arith)) (count-above (a + 1) n p (omega arith))

count-range : (a n p : ℕ) → count_in p (range_with_len a n) ≤ 1
count-range a zero p = omega arith
count-range a (suc n) p = elim (cases_Bool (a == p)) [
  | inl same ↦
      let is : a ≡ p = eqb-true a p same in
      let none : count_in p (range_with_len (a + 1) n) ≡ 0 = count-above (a + 1) n p (omega arith) in
      rw same (omega arith)
  | inr apart ↦ rw apart (count-range (a + 1) n p)
]

held-once : (given : Given) (h : List Event) (p : ℕ) → count_in p (held_parts given h) ≤ 1
held-once given h p =
    let few : count_in p (held_parts given h) ≤ count_in p (parts_of given) = count-filter (is_held h) p (parts_of given) in
    let once : count_in p (parts_of given) ≤ 1 = count-range 0 (length given.logs) p in omega arith

add-if : (b : Bool) (n : ℕ) → (if b then n + 1 else n) ≡ add_if b n
add-if true n = omega arith
add-if false n = refl

-- so far: with those that a crash still has to assign again, and those of the steps to come
AssignsAt : Given → List Step → List Event → ℕ → Type 0
AssignsAt given steps h p = tally never (assigned p) h + count_in p (place_of given h).left
    + assigns_in (drop (place_of given h).begun steps) p ≤ assigns_in steps p

drop-fewer : (steps : List Step) (b p : ℕ) (step : Step) → slice_get steps b ≡ Some step
    → assigns_in (drop b steps) p ≡ add_if (may_assign step.act p) (assigns_in (drop (suc b) steps) p)
drop-fewer steps b p step found =
    let is = drop-step steps b step found in
    ap (λ (ss : List Step). assigns_in ss p) is ∙ add-if (may_assign step.act p) (assigns_in (drop (suc b) steps) p)

assigns-act : (act act' : Act) (p : ℕ) → same_act act act' ≡ true → may_assign act p ≡ may_assign act' p
assigns-act (act.Assign q) (act.Assign x) p same = ap (λ (y : ℕ). y == p) (eqb-true q x same)
assigns-act (act.Revoke q) (act.Revoke x) p same = refl
assigns-act (act.Lose q) (act.Lose x) p same = refl
assigns-act act.Crash act.Crash p same = refl
assigns-act _ _ p same = cc

module _ (given : Given) (steps : List Step) (h : List Event) (p : ℕ) (so_far : AssignsAt given steps h p) where
  -- a block of an act begins at a place
  assigns-block : (e : Event) (act : Act) (at : Begins given steps h act)
      → (place_of given (e ∷ h)).begun ≡ (place_of given h).begun + 1
      → add_if (assigned p e h) 0 + count_in p (place_of given (e ∷ h)).left ≤ add_if (may_assign act p) 0
      → AssignsAt given steps (e ∷ h) p
  unfolding AssignsAt
  assigns-block e act at next few =
      let before : tally never (assigned p) h + count_in p (place_of given h).left
      + assigns_in (drop (place_of given h).begun steps) p ≤ assigns_in steps p = so_far in
      let fewer : assigns_in (drop (place_of given h).begun steps) p
      ≡ add_if (may_assign at.step.act p) (assigns_in (drop (suc (place_of given h).begun) steps) p) =
      drop-fewer steps (place_of given h).begun p at.step at.found in
      let is : add_if (may_assign at.step.act p) (assigns_in (drop (suc (place_of given h).begun) steps) p)
      ≡ add_if (may_assign act p) 0 + assigns_in (drop (suc (place_of given h).begun) steps) p =
      ap (λ (b : Bool). add_if b (assigns_in (drop (suc (place_of given h).begun) steps) p))
      (assigns-act at.step.act act p at.is_act)
      ∙ add_if-apart (may_assign act p) (assigns_in (drop (suc (place_of given h).begun) steps) p) in
      let more : tally never (assigned p) (e ∷ h) ≡ add_if (assigned p e h) 0 + tally never (assigned p) h =
      add_if-apart (assigned p e h) (tally never (assigned p) h) in
      let begun : suc (place_of given h).begun ≡ (place_of given (e ∷ h)).begun = omega arith in
      subst (λ (b : ℕ). tally never (assigned p) (e ∷ h) + count_in p (place_of given (e ∷ h)).left
      + assigns_in (drop b steps) p ≤ assigns_in steps p) begun (omega arith)

  assigns-again : (q epoch position : ℕ) (text : List ℕ) (left : List ℕ) → (place_of given h).left ≡ left
      → is_next_part left q ≡ true → AssignsAt given steps (Assign q epoch position text ∷ h) p
  unfolding AssignsAt
  assigns-again q epoch position text [] is next = cc
  assigns-again q epoch position text (x ∷ left) is next =
      let before : tally never (assigned p) h + count_in p (place_of given h).left
      + assigns_in (drop (place_of given h).begun steps) p ≤ assigns_in steps p = so_far in
      let same : x ≡ q = eqb-true x q next in
      let count : count_in p (place_of given h).left ≡ add_if (q == p) 0 + count_in p left =
      ap (count_in p) is ∙ ap (λ (y : ℕ). add_if (y == p) (count_in p left)) same
      ∙ add_if-apart (q == p) (count_in p left) in
      let begun : (place_of given (Assign q epoch position text ∷ h)).begun ≡ (place_of given h).begun = rw is refl in
      let rest : (place_of given (Assign q epoch position text ∷ h)).left ≡ left = rw is refl in
      let rest_count : count_in p (place_of given (Assign q epoch position text ∷ h)).left ≡ count_in p left =
      ap (count_in p) rest in
      let more : tally never (assigned p) (Assign q epoch position text ∷ h)
      ≡ add_if (q == p) 0 + tally never (assigned p) h = add_if-apart (q == p) (tally never (assigned p) h) in
      subst (λ (b : ℕ). tally never (assigned p) (Assign q epoch position text ∷ h)
      + count_in p (place_of given (Assign q epoch position text ∷ h)).left
      + assigns_in (drop b steps) p ≤ assigns_in steps p) (sym begun) (omega arith)

assigns : (given : Given) (steps : List Step) (h : List Event) (p : ℕ) → IsLegal given h
    → follows given steps h ≡ true → AssignsAt given steps h p
unfolding AssignsAt
assigns given steps [] p legal follow = omega arith
assigns given steps (Assign q epoch position text ∷ h) p legal follow =
    let e : Event = Assign q epoch position text in
    let so_far = assigns given steps h p legal.2 (moves-before given steps e h follow) in
    elim (or-cases (is_next_part (place_of given h).left q) (may_begin given steps h (act.Assign q))
    (moves-now given steps e h follow)) [
      | inl next ↦ assigns-again given steps h p so_far q epoch position text (place_of given h).left refl next
      | inr may ↦
          let at = begins given steps h (act.Assign q) may in
          assigns-block given steps h p so_far e (act.Assign q) at (rw at.whole refl)
          (rw at.whole (omega arith))
    ]
assigns given steps (Revoke q epoch ∷ h) p legal follow =
    let e : Event = Revoke q epoch in
    let tail = ends-in given h q legal.2 legal.0.after_commit in
    let at = begins given steps (drop 1 h) (act.Revoke q) (moves-now given steps e h follow) in
    let here : Begins given steps h (act.Revoke q) = record {
      step = at.step;
      found = rw tail.0 at at.found;
      is_act = at.is_act;
      whole = rw tail.0 at at.whole;
    } in
    assigns-block given steps h p (assigns given steps h p legal.2 (moves-before given steps e h follow))
    e (act.Revoke q) here refl (let none : count_in p (place_of given h).left ≡ 0 = ap (count_in p) here.whole in omega arith)
assigns given steps (Lost q epoch ∷ h) p legal follow =
    let e : Event = Lost q epoch in
    let at = begins given steps h (act.Lose q) (moves-now given steps e h follow) in
    assigns-block given steps h p (assigns given steps h p legal.2 (moves-before given steps e h follow))
    e (act.Lose q) at refl (let none : count_in p (place_of given h).left ≡ 0 = ap (count_in p) at.whole in omega arith)
assigns given steps (Crash ∷ h) p legal follow =
    let at = begins given steps h act.Crash (moves-now given steps Crash h follow) in
    assigns-block given steps h p (assigns given steps h p legal.2 (moves-before given steps Crash h follow))
    Crash act.Crash at refl (let once : count_in p (held_parts given h) ≤ 1 = held-once given h p in omega arith)
assigns given steps (Poll q count last ∷ h) p legal follow =
    assigns given steps h p legal.2 (moves-before given steps (Poll q count last) h follow)
assigns given steps (Dispatch t w q o e a ∷ h) p legal follow =
    assigns given steps h p legal.2 (moves-before given steps (Dispatch t w q o e a) h follow)
assigns given steps (Success t answer ∷ h) p legal follow =
    assigns given steps h p legal.2 (moves-before given steps (Success t answer) h follow)
assigns given steps (Failure t code ready ∷ h) p legal follow =
    assigns given steps h p legal.2 (moves-before given steps (Failure t code ready) h follow)
assigns given steps (Stale t ∷ h) p legal follow =
    assigns given steps h p legal.2 (moves-before given steps (Stale t) h follow)
assigns given steps (Committed q position text size ∷ h) p legal follow =
    assigns given steps h p legal.2 (moves-before given steps (Committed q position text size) h follow)
assigns given steps (CommitFailed q position text size ∷ h) p legal follow =
    assigns given steps h p legal.2 (moves-before given steps (CommitFailed q position text size) h follow)
assigns given steps (Tick now ∷ h) p legal follow =
    assigns given steps h p legal.2 (moves-before given steps (Tick now) h follow)
assigns given steps (Drain ∷ h) p legal follow =
    assigns given steps h p legal.2 (moves-before given steps Drain h follow)
assigns given steps (Done ∷ h) p legal follow =
    assigns given steps h p legal.2 (moves-before given steps Done h follow)
assigns given steps (Closed ∷ h) p legal follow =
    assigns given steps h p legal.2 (moves-before given steps Closed h follow)

pub assigned-few : (given : Given) (steps : List Step) (h : List Event) (p : ℕ) → IsLegal given h
    → follows given steps h ≡ true → tally never (assigned p) h ≤ assigns_in steps p
unfolding AssignsAt
assigned-few given steps h p legal follow =
    let all : tally never (assigned p) h + count_in p (place_of given h).left
    + assigns_in (drop (place_of given h).begun steps) p ≤ assigns_in steps p =
    assigns given steps h p legal follow in omega arith
