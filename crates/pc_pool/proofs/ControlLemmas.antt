-- What is kept of a run by a control turn.
use Rattle.std.proofs.Common.{◌≡◌, ◌∙◌, ℕ, ◌≤◌, Bool, true, false, inl, inr, List, [], ◌∷◌, ◌++◌, length, Option, Some, None, Err, refl, ap, sym, subst, arith}
use Rattle.std.specs.Prelude.{◌==◌, nat_lt, option_map, slice_get}
use Rattle.std.specs.List.{list_all}
use Rattle.std.specs.Option.{option_or}
use Rattle.std.proofs.lemmas.Bool.{cases_Bool, eqb-true}
use Rattle.pc_model.specs.declared.commit.Commit.{Commit}
use Rattle.pc_model.specs.declared.event.Event.{Event}
use Rattle.pc_model.specs.declared.step.Step.{Step as RunStep}
use Rattle.pc_model.specs.Broker.{Broker}
use Rattle.pc_model.specs.Epochs.{is_held}
use Rattle.pc_model.specs.Given.{Given, has_log, parts_of}
use Rattle.pc_model.specs.Jobs.{has_ended, is_draining}
use Rattle.pc_model.specs.Known.{commit_of, unpolled_records}
use Rattle.pc_model.specs.Lawful.{IsLegal}
use Rattle.pc_model.specs.Numbers.{first_some}
use Rattle.pc_model.specs.Pace.{is_paced}
use Rattle.pc_model.specs.Record.{Record}
use Rattle.pc_model.specs.Retry.{failures_of}
use Rattle.pc_model.specs.Run.{is_at_rest, open_records}
use Rattle.pc_model.specs.Steps.{Place, follows, place_of}
use Rattle.pc_state.specs.Queries.{first_unfinished, unfinished_at}
use Rattle.pc_world.specs.World.{HasRisen}
use Rattle.pc_offset_client.specs.declared.fault.ClientFault.{ClientFault}
use Rattle.pc_offset_client.specs.declared.fault.ClientFault.TheVariants.{LinkFailed, Refused, BadReply, OtherReply, NoMemory as Forgot}
use Rattle.pc_offset_client.specs.Client.{commit_code}
use Rattle.pc_engine.specs.Effect.{IsStored, StoresOnly, is_full}
use Rattle.pc_engine.specs.Stand.{Stand}
use Rattle.pc_run_laws.specs.Run.{AnyMayCome, IsFirstUnfinished, IsRun}
use Rattle.pc_drain.specs.declared.turn.Turn.{Turn}
use Rattle.pc_drain.specs.declared.turn.Turn.TheVariants as turn
use Rattle.pc_drain.specs.Causes.{HaveCauses, KeepsCauses, is_refused}
use Rattle.pc_drain.specs.Counts.{dispatch_workers}
use Rattle.pc_drain.specs.Turn.{EndsUnsaved}
use Rattle.pc_drain.proofs.ActionLemmas.{IsOver}
use Rattle.pc_state_lock.specs.Heading.{Heading}
use Rattle.pc_pool.specs.declared.ending.Ending.{Ending}
use Rattle.pc_pool.specs.Ending.{HasCause, HasEnding, IsUndrained}
use Rattle.pc_pool.specs.Run.{Ends, GoesOn, IsConsuming, ended_by, ending_of, heading_by}
use Rattle.pc_pool.proofs.EndLemmas.{EndOf, IsPlain}
use Rattle.pc_pool.proofs.EndLemmas.EndOf.{Plain, Rests, Ends as EndsRun, Names, Loses}
use Rattle.pc_pool.proofs.KeepLemmas.{IsKeptBy}
use Rattle.pc_task.specs.Jobs.{Outcomes}
use Rattle.pc_engine.specs.Engine.{Asks, EngineView, given_of}
use Rattle.pc_pool.proofs.StoreLemmas.{same-code, same-refused, stores-more}
use Rattle.pc_pool.proofs.TakeLemmas.{AreBounded, full-bound}

-- the law of what a run leaves at rest
abbrev pub GivesUp : Type 0
GivesUp = (given : Given) (steps : List RunStep) (h : List Event) (p : ℕ) (r : Record)
    → IsRun given steps h → is_at_rest given h ≡ true → is_held h p ≡ true
    → IsFirstUnfinished given h p r → failures_of h p r.offset ≡ given.setup.settings.give_up

-- ---- the first record that is left

-- an item at which something is found
first-item : {Y : Type 0} (f : ℕ → Option Y) (y : Y) (xs : List ℕ) → first_some f xs ≡ Some y
    → (x : ℕ) × (f x ≡ Some y)
first-item {Y} f y [] is = cc
first-item {Y} f y (x ∷ xs) is = at (f x) refl is (λ rest. first-item f y xs rest)
  where
    at : (o : Option Y) → f x ≡ o → option_or o (first_some f xs) ≡ Some y
        → (first_some f xs ≡ Some y → (z : ℕ) × (f z ≡ Some y)) → (z : ℕ) × (f z ≡ Some y)
    at None none rest next = next rest
    at (Some z) some same next = (x, some ∙ same)

-- the record of the part that is named
record Named (given : Given) (h : List Event) (p o : ℕ) : Type 0 where
  held : is_held h p ≡ true
  r : Record
  first : IsFirstUnfinished given h p r
  offset : r.offset ≡ o

named-at : (given : Given) (h : List Event) (q p o : ℕ) → unfinished_at given h q ≡ Some (p, o)
    → Named given h p o
named-at given h q p o is = elim (cases_Bool (is_held h q)) [
  | inl held ↦ by-record held (slice_get (open_records given h q ++ unpolled_records given h q) 0) refl
      (rw held at is)
  | inr free ↦ let none : None ≡ Some (p, o) = rw free at is in cc
]
  where
    by-record : is_held h q ≡ true → (x : Option Record)
        → slice_get (open_records given h q ++ unpolled_records given h q) 0 ≡ x
        → option_map {U = ℕ × ℕ} (λ n. (q, n)) (option_map (λ r. r.offset)
        (slice_get (open_records given h q ++ unpolled_records given h q) 0)) ≡ Some (p, o)
        → Named given h p o
    by-record held None none same = let e : None ≡ Some (p, o) = rw none at same in cc
    by-record held (Some r) some same =
        let pair : Some (q, r.offset) ≡ Some (p, o) = rw some at same in
        let part : q ≡ p = ap part_of pair in record {
          held = subst (λ (k : ℕ). is_held h k ≡ true) part held;
          r = r;
          first = subst (λ (k : ℕ). IsFirstUnfinished given h k r) part some;
          offset = ap offset_of pair;
        }
      where
        part_of : Option (ℕ × ℕ) → ℕ
        part_of None = 0
        part_of (Some x) = x.0

        offset_of : Option (ℕ × ℕ) → ℕ
        offset_of None = 0
        offset_of (Some x) = x.1

named-record : (given : Given) (h : List Event) (p o : ℕ) → first_unfinished given h ≡ Some (p, o)
    → Named given h p o
unfolding first_unfinished
named-record given h p o is =
    let at = first-item (unfinished_at given h) (p, o) (parts_of given) is in
    named-at given h at.0 p o at.1

-- a count that rose after another moment
risen-since : (a b c : ℕ) → a ≤ b → HasRisen b c → HasRisen a c
risen-since a b c le (inl less) = inl (omega (arith, le, less))
risen-since a b c le (inr most) = inr most

-- what cannot be where a link tells its store
untold : (told : Bool) → (told ≡ true → ⊥) → told ≡ false
untold true other = absurd (other refl)
untold false other = refl

-- ---- what a turn keeps

-- what a control turn says of a run that goes on, which it takes from one moment to another
pub record IsTurned (given : Given) (told last : Bool) (before after : Stand) (result : Turn)
    : Type 0 where
  pub legal : IsLegal given after.history
  pub follow : (steps : List RunStep) → (place_of given before.history).left ≡ []
      → follows given steps before.history ≡ true → follows given steps after.history ≡ true
  pub paced : (steps : List RunStep)
      → (last ≡ true → length steps ≤ (place_of given before.history).begun)
      → AnyMayCome given before.history → is_paced given steps before.history ≡ true
      → is_paced given steps after.history ≡ true
  pub place : place_of given after.history ≡ place_of given before.history
  pub any : AnyMayCome given before.history → (EndsUnsaved result → ⊥)
      → AnyMayCome given after.history
  pub goes_on : (result ≡ turn.Done → ⊥) → has_ended after.history ≡ false
  pub full : result ≡ turn.JournalFull → is_full after.history 1 ≡ true
  pub workers : dispatch_workers after.history ≡ dispatch_workers before.history
  pub later : before.faults ≤ after.faults
  pub causes : told ≡ true → KeepsCauses before after
  pub others : told ≡ true → StoresOnly (has_log given) before.store after.store
  pub means : EndOf told given last before after result

module _ (run : Heading) (told last : Bool) (before after : Stand) (result : Turn) (used : ℕ)
    (keeps : IsConsuming run told before.history before.store before.faults used None)
    (last_is : last ≡ (used == length run.steps))
    (turned : IsTurned run.given told last before after result) where
  goes : GoesOn run.given before.history used
  goes = keeps.goes_on refl

  all-used : last ≡ true → used ≡ length run.steps
  all-used is = eqb-true used (length run.steps) (sym last_is ∙ is)

  run-after : IsRun run.given run.steps after.history
  run-after = record {
    legal = turned.legal;
    follows = turned.follow run.steps goes.whole keeps.is_run.follows;
    paced = turned.paced run.steps
        (λ is. let same = all-used is in let begun = goes.begun in omega (arith, same, begun)) goes.any
        keeps.is_run.paced;
  }

  causes-after : told ≡ true → HaveCauses (is_refused run.store) run.faults after.history after.faults
  causes-after is = turned.causes is (is_refused run.store) run.faults
      (λ p c. sym (same-refused (has_log run.given) run.store before.store (keeps.stores is) p c))
      (keeps.causes is)

  begun-after : (place_of run.given after.history).begun ≡ used
  begun-after = ap (λ (place : Place). place.begun) turned.place ∙ goes.begun

  -- the run goes on, or ends
  after-turn : (ended : Option Ending)
      → (ended ≡ None → GoesOn run.given after.history used)
      → ((e : Ending) → ended ≡ Some e
      → HasEnding run told after.history after.store used after.faults e)
      → IsConsuming run told after.history after.store after.faults used ended
  after-turn ended on means = record {
    told_is = keeps.told_is;
    allowed = keeps.allowed;
    logged = keeps.logged;
    few = keeps.few;
    is_run = run-after;
    workers = ap (λ (ws : List ℕ). list_all (λ w. nat_lt w run.workers) ws) turned.workers
        ∙ keeps.workers;
    most = keeps.most;
    count = let before_count = keeps.count in let later = turned.later in
        omega (arith, before_count, later);
    causes = causes-after;
    stores = λ is. stores-more (has_log run.given) run.store before.store (keeps.stores is)
        after.store (turned.others is);
    goes_on = on;
    ending = means;
  }

  pub went-keeps : (Ends result → ⊥) → IsConsuming run told after.history after.store after.faults used
      None
  went-keeps other = after-turn None (λ none. record {
    begun = begun-after;
    whole = ap (λ (place : Place). place.left) turned.place ∙ goes.whole;
    any = turned.any goes.any (λ unsaved. other (unsaved-ends result unsaved));
    runs = turned.goes_on (λ done. other (subst Ends (sym done) tt));
  }) (λ e is. let some : None ≡ Some e = is in cc)
    where
      unsaved-ends : (t : Turn) → EndsUnsaved t → Ends t
      unsaved-ends (turn.Client failed) is = tt
      unsaved-ends turn.Went is = absurd is
      unsaved-ends turn.Idle is = absurd is
      unsaved-ends turn.Done is = tt
      unsaved-ends (turn.Undrained p o n) is = tt
      unsaved-ends turn.JournalFull is = tt
      unsaved-ends turn.NoMemory is = tt

  -- ---- the ending

  -- an ending that is plain
  plain-means : AreBounded → (t : Turn) → result ≡ t → IsPlain t → Ends t
      → HasEnding run told after.history after.store used after.faults (ending_of t)
  plain-means law turn.JournalFull is plain ends = full-bound law run.given run.steps after.history 1
      run-after (omega arith) (turned.full is)
  plain-means law turn.NoMemory is plain ends = tt
  plain-means law turn.Went is plain ends = absurd ends
  plain-means law turn.Idle is plain ends = absurd ends
  plain-means law turn.Done is plain ends = absurd plain
  plain-means law (turn.Undrained p o n) is plain ends = absurd plain
  plain-means law (turn.Client failed) is plain ends = absurd plain

  -- the first record that is left has failed as often as it may
  undrained : GivesUp → (p o : ℕ) → IsOver run.given before.history last
      → is_draining before.history ≡ true → first_unfinished run.given before.history ≡ Some (p, o)
      → after.history ≡ before.history
      → IsUndrained run after.history p o (failures_of before.history p o)
  undrained law p o over drains first same =
      let named = named-record run.given before.history p o first in
      subst (λ (h : List Event). IsUndrained run h p o (failures_of before.history p o)) (sym same)
      (record {
        used = goes.begun ∙ all-used over.last_is;
        drains = drains;
        rests = over.rests;
        first = first;
        failed = refl;
        spent = ap (λ (n : ℕ). failures_of before.history p n) (sym named.offset)
            ∙ law run.given run.steps before.history p named.r keeps.is_run over.rests named.held
            named.first;
      })

  -- what made a commit fail
  commit-cause : (failed : ClientFault) (p : ℕ) (c : Commit) → (failed ≡ Forgot → ⊥)
      → IsStored told before.store after.store before.faults after.faults p c (Err failed)
      → HasCause told run.faults after.faults (commit_code run.store p c) failed
  commit-cause LinkFailed p c memory stored = risen-since run.faults before.faults after.faults
      keeps.count (stored.cause refl)
  commit-cause (Refused code) p c memory stored = λ is.
      (stored.gives is).is
      ∙ same-code (has_log run.given) run.store before.store (keeps.stores is) p c
  commit-cause (BadReply fault) p c memory stored = untold told (λ is. stored.gives is)
  commit-cause (OtherReply asked got) p c memory stored = untold told (λ is. stored.gives is)
  commit-cause Forgot p c memory stored = absurd (memory refl)

  pub ending-means : AreBounded → GivesUp → Ends result
      → HasEnding run told after.history after.store used after.faults (ending_of result)
  ending-means bound gives ends = elim turned.means [
    | Plain plain ↦ plain-means bound result refl plain ends
    | Rests is ↦ absurd (subst Ends is ends)
    | EndsRun is over done ↦ means-at turn.Done is (record {
      used = begun-after ∙ all-used over.last_is;
      before = before.history;
      last = done;
    })
    | Names p o is over drains first same ↦ means-at
        (turn.Undrained p o (failures_of before.history p o)) is
        (undrained gives p o over drains first same)
    | Loses failed p is over drains memory stored lost ↦ means-at (turn.Client failed) is
        (inl (record {
          used = begun-after ∙ all-used over.last_is;
          drains = ap is_draining lost ∙ drains;
          part = p;
          commit = (commit_of run.given before.history p).commit;
          size = (commit_of run.given before.history p).size;
          before = before.history;
          last = lost;
          cause = commit-cause failed p (commit_of run.given before.history p).commit memory stored;
        }))
  ]
    where
      means-at : (t : Turn) → result ≡ t
          → HasEnding run told after.history after.store used after.faults (ending_of t)
          → HasEnding run told after.history after.store used after.faults (ending_of result)
      means-at t is means = subst (λ (x : Turn). HasEnding run told after.history after.store used
          after.faults (ending_of x)) (sym is) means

  pub ended-keeps : AreBounded → GivesUp → Ends result
      → IsConsuming run told after.history after.store after.faults used (Some (ending_of result))
  ended-keeps bound gives ends = after-turn (Some (ending_of result))
      (λ none. let e : Some (ending_of result) ≡ None = none in cc)
      (λ e is. subst (λ (k : Ending). HasEnding run told after.history after.store used after.faults k)
      (some-same is) (ending-means bound gives ends))
    where
      some-same : {f : Ending} → Some (ending_of result) ≡ Some f → ending_of result ≡ f
      some-same is = cc

  of-end : AreBounded → GivesUp → (t : Turn) → result ≡ t → Ends t
      → IsConsuming run told after.history after.store after.faults used (Some (ending_of t))
  of-end bound gives t is ends = subst
      (λ (x : Turn). IsConsuming run told after.history after.store after.faults used
      (Some (ending_of x))) is (ended-keeps bound gives (subst Ends (sym is) ends))

  -- the run goes on, or ends as the turn says
  pub turned-keeps : AreBounded → GivesUp
      → IsConsuming run told after.history after.store after.faults used (ended_by result)
  turned-keeps bound gives = at result refl
    where
      at : (t : Turn) → result ≡ t
          → IsConsuming run told after.history after.store after.faults used (ended_by t)
      at turn.Went is = went-keeps (λ ends. subst Ends is ends)
      at turn.Idle is = went-keeps (λ ends. subst Ends is ends)
      at turn.Done is = of-end bound gives turn.Done is tt
      at (turn.Undrained p o n) is = of-end bound gives (turn.Undrained p o n) is tt
      at (turn.Client failed) is = of-end bound gives (turn.Client failed) is tt
      at turn.JournalFull is = of-end bound gives turn.JournalFull is tt
      at turn.NoMemory is = of-end bound gives turn.NoMemory is tt

-- a turn that ends the run
pub ended-other : (t : Turn) → (t ≡ turn.Went → ⊥) → (t ≡ turn.Idle → ⊥)
    → ended_by t ≡ Some (ending_of t)
ended-other turn.Went went idle = absurd (went refl)
ended-other turn.Idle went idle = absurd (idle refl)
ended-other turn.Done went idle = refl
ended-other (turn.Undrained p o n) went idle = refl
ended-other (turn.Client failed) went idle = refl
ended-other turn.JournalFull went idle = refl
ended-other turn.NoMemory went idle = refl

-- a run with its engine is kept by a turn
pub run-turned : {L T : Type 0} (outcome_of : T → Outcomes) (told : L → Bool) (store : L → Broker)
    (faults : L → ℕ) (e e' : EngineView L T) (entry : L) (steps : List RunStep)
    (workers used n : ℕ) (ended : Option Ending) (after : Option Ending)
    → IsKeptBy outcome_of told store faults e entry steps workers used ended → ended ≡ None
    → n ≡ length steps → Asks outcome_of told faults e e'
    → ((run : Heading) (place : ℕ) → run.given ≡ given_of outcome_of e
    → (used == n) ≡ (place == length run.steps)
    → IsConsuming run (told e.link) e.journal.events (store e.link) (faults e.link) place None
    → IsConsuming run (told e'.link) e'.journal.events (store e'.link) (faults e'.link) place after)
    → IsKeptBy outcome_of told store faults e' entry steps workers used after
run-turned {L} {T} outcome_of told store faults e e' entry steps workers used n ended after keeps goes
    count asks turned =
    subst (λ (g : Given). IsConsuming (record {
      given = g;
      store = store entry;
      steps = steps;
      workers = workers;
      faults = faults entry;
    }) (told e'.link) e'.journal.events (store e'.link)
    (faults e'.link) used after) (sym asks.given)
    (turned (heading_by outcome_of store faults e entry steps workers) used refl
    (ap (λ (k : ℕ). used == k) count)
    (subst (λ (o : Option Ending). IsKeptBy outcome_of told store faults e entry steps workers used o)
    goes keeps))
