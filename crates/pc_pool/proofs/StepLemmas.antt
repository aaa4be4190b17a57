-- What is kept of a run when a step that is due is applied, and why a refusal ends it.
use Rattle.std.proofs.Common.{◌≡◌, ◌∙◌, ℕ, ◌+◌, ◌≤◌, ◌<◌, Bool, true, false, not, inl, inr, List, [], ◌∷◌, length, Option, Some, None, Result, Ok, Err, refl, ap, sym, subst, arith}
use Rattle.std.specs.Prelude.{ℤ, pos, nat_lt, slice_get}
use Rattle.std.specs.List.{list_all}
use Rattle.std.specs.Option.{option_map_or}
use Rattle.std.proofs.Math.Nat.{le_trans}
use Rattle.std.proofs.lemmas.Bool.{eq-eqb}
use Rattle.std.proofs.lemmas.Option.{slice_get_within}
use Rattle.pc_model.specs.declared.api.TheConstants.{UNKNOWN_TOPIC_OR_PARTITION}
use Rattle.pc_model.specs.declared.commit.Commit.{Commit}
use Rattle.pc_model.specs.declared.event.Event.{Event}
use Rattle.pc_model.specs.declared.map_fault.MapFault.{MapFault}
use Rattle.pc_model.specs.declared.step.Act.{Act}
use Rattle.pc_model.specs.declared.step.Act.TheVariants as act
use Rattle.pc_model.specs.declared.step.Step.{Step}
use Rattle.pc_model.specs.Bound.{may_assign}
use Rattle.pc_model.specs.Broker.{Broker, has_part}
use Rattle.pc_model.specs.Epochs.{is_held}
use Rattle.pc_model.specs.Given.{Given, has_log}
use Rattle.pc_model.specs.Lawful.{IsLegal}
use Rattle.pc_model.specs.Steps.{Place, is_step_due, may_begin, next_step}
use Rattle.pc_laws.specs.Lists.{In}
use Rattle.pc_laws.proofs.Lists.{In-find, not-true}
use Rattle.pc_offset_client.specs.Client.{FetchGives, TOPIC, kept_for}
use Rattle.pc_offset_client.specs.declared.fault.ClientFault.{ClientFault}
use Rattle.pc_offset_client.specs.declared.fault.ClientFault.TheVariants as client
use Rattle.pc_engine.specs.declared.fault.EngineFault.{EngineFault}
use Rattle.pc_engine.specs.declared.fault.EngineFault.TheVariants as fault
use Rattle.pc_engine.specs.Effect.{IsFetched, StoresOnly}
use Rattle.pc_engine.specs.Engine.{Asks, EngineView, given_of}
use Rattle.pc_engine.specs.Stand.{Stand, stand_of}
use Rattle.pc_engine.proofs.EngineLemmas.{may_assign as unrefused}
use Rattle.pc_task.specs.Jobs.{Outcomes}
use Rattle.pc_run_laws.specs.Run.{IsRun}
use Rattle.pc_drain.specs.Causes.{HaveCauses, is_refused}
use Rattle.pc_rebalance.specs.Apply.{Applies}
use Rattle.pc_rebalance.specs.Block.{assigned_parts}
use Rattle.pc_rebalance.specs.Refusal.{IsFromOutside, MayDo}
use Rattle.pc_rebalance.specs.Stop.{StopsAt, first_free}
use Rattle.pc_rebalance.proofs.BlockLemmas.{due-begins, keeps-applied}
use Rattle.pc_rebalance.proofs.HeldLemmas.{next-may-be-done}
use Rattle.pc_rebalance.proofs.StopLemmas.{applied-adds, applied-full, applied-stops, stopped-bad, stopped-client}
use Rattle.pc_state_lock.specs.Heading.{Heading}
use Rattle.pc_state_lock.proofs.HistoryLemmas.{Continues-further}
use Rattle.pc_pool.specs.declared.ending.Ending.{Ending}
use Rattle.pc_pool.specs.Applied.{ending_by, used_after}
use Rattle.pc_pool.specs.Ending.{HasCause, HasEnding, IsUnfetched, IsUnread, assigns_at}
use Rattle.pc_pool.specs.Run.{GoesFrom, GoesOn, IsConsuming, RunView, heading_by, is_due_at, steps_left}
use Rattle.pc_pool.proofs.BlockLemmas.{IsPlain, block-aside, causes-applied, causes-later, causes-plain}
use Rattle.pc_pool.proofs.KeepLemmas.{IsKeptBy}
use Rattle.pc_pool.proofs.StoreLemmas.{same-part, same-refused, stores-more}
use Rattle.pc_pool.proofs.TakeLemmas.{AreBounded, full-bound}

-- ---- the part at which a step stops

-- the act assigns it
stop-assigned : (given : Given) (h h' : List Event) (a : Act) (p : ℕ)
    → first_free h' (assigned_parts given h a) ≡ Some p → may_assign a p ≡ true
stop-assigned given h h' (act.Assign q) p first =
    by-place (In-find (λ r. not (is_held h' r)) p (q ∷ []) first).0
  where
    by-place : In p (q ∷ []) → may_assign (act.Assign q) p ≡ true
    by-place (inl same) = eq-eqb q p (sym same)
    by-place (inr none) = absurd none
stop-assigned given h h' (act.Revoke q) p first = cc
stop-assigned given h h' (act.Lose q) p first = cc
stop-assigned given h h' act.Crash p first = refl

assigns-plain : (a : Act) (p : ℕ) → may_assign a p ≡ true → IsPlain a
assigns-plain (act.Assign q) p may = tt
assigns-plain (act.Revoke q) p may = cc
assigns-plain (act.Lose q) p may = cc
assigns-plain act.Crash p may = tt

-- and it is not held
stop-free : (h : List Event) (parts : List ℕ) (p : ℕ) → first_free h parts ≡ Some p
    → is_held h p ≡ false
stop-free h parts p first =
    not-true (is_held h p) (In-find (λ r. not (is_held h r)) p parts first).1

-- ---- what made the client fail

not-told : (told : Bool) → (told ≡ true → ⊥) → told ≡ false
not-told true never = absurd (never refl)
not-told false never = refl

fetch-cause : (told : Bool) (store : Broker) (before after p : ℕ) (f : ClientFault)
    → (f ≡ client.NoMemory → ⊥) → IsFetched told store before after p (Err f)
    → HasCause told before after UNKNOWN_TOPIC_OR_PARTITION f
fetch-cause told store before after p client.LinkFailed memory fetched = fetched.cause refl
fetch-cause told store before after p (client.Refused code) memory fetched =
    λ is. (fetched.gives is).1
fetch-cause told store before after p (client.BadReply bad) memory fetched =
    not-told told fetched.gives
fetch-cause told store before after p (client.OtherReply wanted got) memory fetched =
    not-told told fetched.gives
fetch-cause told store before after p client.NoMemory memory fetched = memory refl

fetch-unknown : (told : Bool) (store : Broker) (before after p : ℕ) (f : ClientFault)
    → IsFetched told store before after p (Err f) → (code : ℤ) → f ≡ client.Refused code
    → told ≡ true → has_part store TOPIC (pos p) ≡ false
fetch-unknown told store before after p f fetched code is is_told =
    (subst (λ (x : ClientFault). FetchGives store p (Err x)) is (fetched.gives is_told)).0

-- ---- a step that is due

-- what is known where it is applied: all of the run before, and that it is the next and due
pub record IsDue (run : Heading) (told : Bool) (used : ℕ) (step : Step) (a : Stand) : Type 0 where
  pub keeps : IsConsuming run told a.history a.store a.faults used None
  pub at : slice_get run.steps used ≡ Some step
  pub due : is_step_due run.given step a.history ≡ true

-- and after it: what it did, and that the history is legal still
pub record IsApplied (run : Heading) (told : Bool) (step : Step) (a b : Stand)
    (r : Result (Unit {0}) EngineFault) : Type 0 where
  pub block : Applies told run.given step.act a b r
  pub legal : IsLegal run.given b.history
  pub others : told ≡ true → StoresOnly (has_log run.given) a.store b.store
  pub later : a.faults ≤ b.faults

module _ (run : Heading) (told : Bool) (used : ℕ) (step : Step) (a : Stand)
    (is : IsDue run told used step a) where
  goes : GoesOn run.given a.history used
  goes = is.keeps.goes_on refl

  next : next_step run.given run.steps a.history ≡ Some step
  next = ap (λ (n : ℕ). slice_get run.steps n) goes.begun ∙ is.at

  -- its act may be done
  pub may-do : MayDo run.given a.history step.act
  may-do = next-may-be-done run.given run.steps step a.history is.keeps.is_run goes.runs
      is.keeps.allowed is.keeps.logged goes.whole next

  begins : may_begin run.given run.steps a.history step.act ≡ true
  begins = due-begins run.given run.steps step a.history goes.whole next is.due

  pub one-left : used + 1 ≤ length run.steps
  one-left = let below : used < length run.steps = slice_get_within run.steps used step is.at in
      omega (arith, below)

module _ (run : Heading) (told : Bool) (used : ℕ) (step : Step) (a b : Stand)
    (r : Result (Unit {0}) EngineFault) (is : IsDue run told used step a)
    (does : IsApplied run told step a b r) where
  runs-on : IsRun run.given run.steps b.history
  runs-on =
      let kept = keeps-applied told run.given step.act a b r does.block in
      record {
        legal = does.legal;
        follows = kept.follow run.steps (begins run told used step a is) is.keeps.is_run.follows;
        paced = kept.paced run.steps (begins run told used step a is)
            (goes run told used step a is).any is.keeps.is_run.paced;
      }

  -- the broker of the start refuses what that of the link refuses
  agrees : told ≡ true → (p : ℕ) (c : Commit) → is_refused run.store p c ≡ is_refused a.store p c
  agrees is_told p c =
      sym (same-refused (has_log run.given) run.store a.store (is.keeps.stores is_told) p c)

  causes-then : told ≡ true → HaveCauses (is_refused run.store) run.faults b.history b.faults
  causes-then is_told = causes-applied (is_refused run.store) run.faults run.given step.act a b r
      (subst (λ (t : Bool). Applies t run.given step.act a b r) is_told does.block)
      (agrees is_told) does.later (is.keeps.causes is_told)

  -- what is kept, however the run goes on
  keeps-with : (used' : ℕ) (ended : Option Ending) → used' ≤ length run.steps
      → (ended ≡ None → GoesOn run.given b.history used')
      → ((e : Ending) → ended ≡ Some e
      → HasEnding run told b.history b.store used' b.faults e)
      → IsConsuming run told b.history b.store b.faults used' ended
  keeps-with used' ended few goes_on ending =
      let aside = block-aside step.act a.history b.history
      (applied-adds told run.given step.act a b r does.block) in
      record {
        told_is = is.keeps.told_is;
        allowed = is.keeps.allowed;
        logged = is.keeps.logged;
        few = few;
        is_run = runs-on;
        workers = ap (λ (ws : List ℕ). list_all (λ w. nat_lt w run.workers) ws) aside.workers
            ∙ is.keeps.workers;
        most = is.keeps.most;
        count = le_trans is.keeps.count does.later;
        causes = causes-then;
        stores = λ is_told. stores-more (has_log run.given) run.store a.store
            (is.keeps.stores is_told) b.store (does.others is_told);
        goes_on = goes_on;
        ending = ending;
      }

some-same : (e f : Ending) → Some e ≡ Some f → e ≡ f
some-same e f is = cc

-- it was applied
pub keeps-next : (run : Heading) (told : Bool) (used : ℕ) (step : Step) (a b : Stand)
    → IsDue run told used step a → IsApplied run told step a b (Ok tt)
    → IsConsuming run told b.history b.store b.faults (used + 1) None
keeps-next run told used step a b is does =
    let goes = goes run told used step a is in
    let kept = keeps-applied told run.given step.act a b (Ok tt) does.block in
    let place = kept.whole goes.whole in
    let aside = block-aside step.act a.history b.history
    (applied-adds told run.given step.act a b (Ok tt) does.block) in
    keeps-with run told used step a b (Ok tt) is does (used + 1) None
    (one-left run told used step a is)
    (λ none. record {
      begun = ap (λ (x : Place). x.begun) place ∙ ap (λ (n : ℕ). n + 1) goes.begun;
      whole = ap (λ (x : Place). x.left) place;
      any = kept.goes_on goes.any;
      runs = aside.ended ∙ goes.runs;
    })
    (λ e some. let none : None ≡ Some e = some in cc)

-- ---- an ending

module _ (run : Heading) (told : Bool) (used : ℕ) (step : Step) (a b : Stand)
    (is : IsDue run told used step a) where
  stop-at : (p : ℕ) → may_assign step.act p ≡ true → assigns_at run used p ≡ true
  stop-at p may =
      ap (λ (o : Option Step). option_map_or (λ s. may_assign s.act p) o false) is.at ∙ may

  ends-unfetched : (f : ClientFault) (p : ℕ)
      → IsApplied run told step a b (Err (fault.Client f))
      → StopsAt told run.given (assigned_parts run.given a.history step.act) a b (fault.Client f) p
      → IsUnfetched run told b.history used b.faults f
  ends-unfetched f p does stops =
      let mid = stops.between in
      let answered = stopped-client told run.given p mid b f stops.assigns stops.asked in
      let fetched = subst (λ (x : Result Commit ClientFault).
      IsFetched told mid.store mid.faults b.faults p x) answered.0 stops.assigns.fetched in
      let may = stop-assigned run.given a.history b.history step.act p stops.first in
      record {
        part = p;
        assigned = stop-at p may;
        logged = (unrefused run.given mid.history p stops.asked).known;
        free = stop-free b.history (assigned_parts run.given a.history step.act) p stops.first;
        count = mid.faults;
        causes = λ is_told. causes-later (is_refused run.store) run.faults b.history a.faults
            mid.faults stops.later
            (causes-plain (is_refused run.store) run.faults step.act a.faults a.history b.history
            (assigns-plain step.act p may)
            (applied-adds told run.given step.act a b (Err (fault.Client f)) does.block)
            (is.keeps.causes is_told));
        cause = fetch-cause told mid.store mid.faults b.faults p f answered.1 fetched;
        unknown = λ code refused is_told.
            sym (same-part (has_log run.given) run.store a.store (is.keeps.stores is_told) TOPIC
            (pos p))
            ∙ ap (λ (s : Broker). has_part s TOPIC (pos p)) (sym (stops.store is_told))
            ∙ fetch-unknown told mid.store mid.faults b.faults p f fetched code refused is_told;
      }

  ends-unread : (bad : MapFault) (p : ℕ)
      → StopsAt told run.given (assigned_parts run.given a.history step.act) a b (fault.BadMap bad) p
      → IsUnread run told b.history b.store used p bad
  ends-unread bad p stops =
      let mid = stops.between in
      let answered = stopped-bad told run.given p mid b bad stops.assigns stops.asked in
      let fetched = subst (λ (x : Result Commit ClientFault).
      IsFetched told mid.store mid.faults b.faults p x) answered.1 stops.assigns.fetched in
      record {
        assigned = stop-at p
            (stop-assigned run.given a.history b.history step.act p stops.first);
        logged = (unrefused run.given mid.history p stops.asked).known;
        free = stop-free b.history (assigned_parts run.given a.history step.act) p stops.first;
        stored = answered.0;
        kept = λ is_told. (fetched.gives is_told).1
            ∙ ap (λ (s : Broker). kept_for s p) (sym (stops.assigns.keeps is_told));
        refused = answered.2;
      }

  -- what the refusal means
  ends-so : AreBounded → (f : EngineFault) → IsFromOutside f
      → IsApplied run told step a b (Err f)
      → HasEnding run told b.history b.store used b.faults
      (ending_by f (first_free b.history (assigned_parts run.given a.history step.act)))
  ends-so law (fault.Client f) outside does =
      let stops = applied-stops told run.given step.act a b (Err (fault.Client f)) does.block tt in
      inr (ends-unfetched f stops.0 does stops.1)
  ends-so law (fault.BadMap bad) outside does =
      let stops = applied-stops told run.given step.act a b (Err (fault.BadMap bad)) does.block tt in
      subst (λ (o : Option ℕ). HasEnding run told b.history b.store used b.faults
      (ending_by (fault.BadMap bad) o)) (sym stops.1.first)
      (ends-unread bad stops.0 stops.1)
  ends-so law fault.JournalFull outside does =
      full-bound law run.given run.steps b.history 2
      (runs-on run told used step a b (Err fault.JournalFull) is does) (omega arith)
      (applied-full told run.given step.act a b (Err fault.JournalFull) does.block refl)
  ends-so law fault.NoMemory outside does = tt
  ends-so law f outside does = absurd outside

  -- what is kept of a run that it ends
  pub keeps-refused : AreBounded → (f : EngineFault) → IsFromOutside f
      → IsApplied run told step a b (Err f)
      → IsConsuming run told b.history b.store b.faults used
      (Some (ending_by f (first_free b.history (assigned_parts run.given a.history step.act))))
  keeps-refused law f outside does =
      let ending = ending_by f (first_free b.history (assigned_parts run.given a.history step.act)) in
      keeps-with run told used step a b (Err f) is does used (Some ending) is.keeps.few
      (λ none. let some : Some ending ≡ None = none in cc)
      (λ e some. subst (λ (x : Ending). HasEnding run told b.history b.store used b.faults x)
      (some-same ending e some) (ends-so law f outside does))

-- ---- the same of an engine

module _ {L T : Type 0} (outcome : T → Outcomes) (is_told : L → Bool) (store : L → Broker)
    (faults : L → ℕ) (e e' : EngineView L T) (step : Step) (run : Heading) (used : ℕ)
    (same : run.given ≡ given_of outcome e) (at : slice_get run.steps used ≡ Some step)
    (due : is_step_due run.given step e.journal.events ≡ true)
    (keeps : IsConsuming run (is_told e.link) e.journal.events (store e.link) (faults e.link) used
    None)
    (asks : Asks outcome is_told faults e e')
    (others : is_told e.link ≡ true
    → StoresOnly (has_log (given_of outcome e)) (store e.link) (store e'.link))
    (legal : IsLegal (given_of outcome e') e'.journal.events) where
  is-due : IsDue run (is_told e.link) used step (stand_of store faults e)
  is-due = record { keeps = keeps; at = at; due = due }

  is-applied : (r : Result (Unit {0}) EngineFault)
      → Applies (is_told e.link) (given_of outcome e) step.act (stand_of store faults e)
      (stand_of store faults e') r
      → IsApplied run (is_told e.link) step (stand_of store faults e) (stand_of store faults e') r
  is-applied r block = record {
    block = subst (λ (g : Given). Applies (is_told e.link) g step.act (stand_of store faults e)
        (stand_of store faults e') r) (sym same) block;
    legal = subst (λ (g : Given). IsLegal g e'.journal.events) (asks.given ∙ sym same) legal;
    others = λ is. subst (λ (g : Given). StoresOnly (has_log g) (store e.link) (store e'.link))
        (sym same) (others is);
    later = asks.count;
  }

  told-on : (used' : ℕ) (ended : Option Ending)
      → IsConsuming run (is_told e.link) e'.journal.events (store e'.link) (faults e'.link) used'
      ended → IsConsuming run (is_told e'.link) e'.journal.events (store e'.link) (faults e'.link)
      used' ended
  told-on used' ended kept = subst (λ (told : Bool). IsConsuming run told e'.journal.events
      (store e'.link) (faults e'.link) used' ended) (sym asks.told) kept

  pub engine-next : Applies (is_told e.link) (given_of outcome e) step.act
      (stand_of store faults e) (stand_of store faults e') (Ok tt)
      → IsConsuming run (is_told e'.link) e'.journal.events (store e'.link) (faults e'.link)
      (used + 1) None
  engine-next block = told-on (used + 1) None
      (keeps-next run (is_told e.link) used step (stand_of store faults e)
      (stand_of store faults e') is-due (is-applied (Ok tt) block))

  pub engine-refused : (f : EngineFault) (parts : List ℕ) (part : Option ℕ) (ending : Ending)
      → AreBounded → IsFromOutside f
      → Applies (is_told e.link) (given_of outcome e) step.act (stand_of store faults e)
      (stand_of store faults e') (Err f)
      → parts ≡ assigned_parts (given_of outcome e) e.journal.events step.act
      → part ≡ first_free e'.journal.events parts → ending ≡ ending_by f part
      → IsConsuming run (is_told e'.link) e'.journal.events (store e'.link) (faults e'.link) used
      (Some ending)
  engine-refused f parts part ending law outside block parts_are part_is ending_is =
      let means = ending_is
      ∙ ap (λ (o : Option ℕ). ending_by f o) part_is
      ∙ ap (λ (l : List ℕ). ending_by f (first_free e'.journal.events l)) parts_are
      ∙ ap (λ (g : Given). ending_by f (first_free e'.journal.events
      (assigned_parts g e.journal.events step.act))) (sym same) in
      subst (λ (x : Ending). IsConsuming run (is_told e'.link) e'.journal.events (store e'.link)
      (faults e'.link) used (Some x)) (sym means)
      (told-on used (Some (ending_by f (first_free e'.journal.events
      (assigned_parts run.given e.journal.events step.act))))
      (keeps-refused run (is_told e.link) used step (stand_of store faults e)
      (stand_of store faults e') is-due law f outside (is-applied (Err f) block)))

-- ---- the same of a run

module _ {L T : Type 0} (outcome : T → Outcomes) (is_told : L → Bool) (store : L → Broker)
    (faults : L → ℕ) (e : EngineView L T) (entry : L) (steps : List Step) (workers used : ℕ)
    (ended : Option Ending) (step : Step)
    (keeps : IsKeptBy outcome is_told store faults e entry steps workers used ended)
    (goes_on : ended ≡ None)
    (due : is_due_at (heading_by outcome store faults e entry steps workers) e.journal.events used
    ≡ true)
    (found : Some step ≡ slice_get steps used) where
  run-keeps : IsKeptBy outcome is_told store faults e entry steps workers used None
  run-keeps = subst (λ (o : Option Ending). IsKeptBy outcome is_told store faults e entry steps
      workers used o) goes_on keeps

  step-due : is_step_due (given_of outcome e) step e.journal.events ≡ true
  step-due = ap (λ (o : Option Step). option_map_or
      (λ s. is_step_due (given_of outcome e) s e.journal.events) o false) found ∙ due

  run-due : IsDue (heading_by outcome store faults e entry steps workers) (is_told e.link) used step
      (stand_of store faults e)
  run-due = record { keeps = run-keeps; at = sym found; due = step-due }

  -- the act of its next step may be done
  pub run-may-do : MayDo (given_of outcome e) e.journal.events step.act
  run-may-do = may-do (heading_by outcome store faults e entry steps workers) (is_told e.link) used
      step (stand_of store faults e) run-due

  -- one more step is left
  pub run-left : used + 1 ≤ length steps
  run-left = one-left (heading_by outcome store faults e entry steps workers) (is_told e.link) used
      step (stand_of store faults e) run-due

  pub run-fewer : steps_left (length steps) (used + 1) ended < steps_left (length steps) used ended
  run-fewer = subst (λ (o : Option Ending). steps_left (length steps) (used + 1) o
      < steps_left (length steps) used o) (sym goes_on)
      (let left = run-left in omega (arith, left))

  -- what an engine keeps of every run it keeps of this one
  pub run-applied : (e' : EngineView L T) (ended' : Option Ending)
      → Asks outcome is_told faults e e'
      → ((run : Heading) (used : ℕ) → run.given ≡ given_of outcome e
      → slice_get run.steps used ≡ Some step
      → is_step_due run.given step e.journal.events ≡ true
      → IsConsuming run (is_told e.link) e.journal.events (store e.link) (faults e.link) used None
      → IsConsuming run (is_told e'.link) e'.journal.events (store e'.link) (faults e'.link)
      (used_after used ended') ended')
      → IsKeptBy outcome is_told store faults e' entry steps workers (used_after used ended') ended'
  run-applied e' ended' asks every =
      subst (λ (g : Given). IsConsuming (record {
        given = g;
        store = store entry;
        steps = steps;
        workers = workers;
        faults = faults entry;
      }) (is_told e'.link) e'.journal.events (store e'.link) (faults e'.link)
      (used_after used ended') ended') (sym asks.given)
      (every (heading_by outcome store faults e entry steps workers) used refl (sym found) step-due
      run-keeps)

-- ---- one step after the other

pub goes-further : {L T : Type 0} (outcome : T → Outcomes) (store : L → Broker) (faults : L → ℕ)
    (a b c : RunView L T) → GoesFrom outcome store faults a b → GoesFrom outcome store faults b c
    → GoesFrom outcome store faults a c
goes-further outcome store faults a b c first next = record {
  heading = next.heading ∙ first.heading;
  later = Continues-further c.engine.journal.events b.engine.journal.events
      a.engine.journal.events next.later first.later;
}
