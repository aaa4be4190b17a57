-- What a step's block leaves of the counts of a run, and that failed commits keep their causes in it.
use Rattle.std.proofs.Common.{◌≡◌, ◌∙◌, ℕ, ◌≤◌, Bool, true, false, not, List, [], ◌∷◌, ◌++◌, Result, Err, refl, ap, sym, subst}
use Rattle.std.specs.List.{list_all}
use Rattle.std.proofs.Math.Nat.{le_trans}
use Rattle.std.proofs.lemmas.Bool.{and_parts}
use Rattle.pc_model.specs.declared.commit.Commit.{Commit}
use Rattle.pc_model.specs.declared.commit.SizedCommit.{SizedCommit}
use Rattle.pc_model.specs.declared.event.Event.{Event}
use Rattle.pc_model.specs.declared.event.Event.TheVariants.{Assign, Commit as Committed, CommitFailed, Revoke, Lost, Crash}
use Rattle.pc_model.specs.declared.step.Act.{Act}
use Rattle.pc_model.specs.declared.step.Act.TheVariants as act
use Rattle.pc_model.specs.Given.{Given}
use Rattle.pc_model.specs.Jobs.{has_ended}
use Rattle.pc_model.specs.Known.{commit_of}
use Rattle.pc_offset_client.specs.Client.{CommitGives}
use Rattle.pc_offset_client.specs.declared.fault.ClientFault.{ClientFault}
use Rattle.pc_offset_client.specs.declared.fault.ClientFault.TheVariants as client
use Rattle.pc_world.specs.World.{HasRisen}
use Rattle.pc_engine.specs.declared.fault.EngineFault.{EngineFault}
use Rattle.pc_engine.specs.Effect.{revoke_refusal}
use Rattle.pc_engine.specs.Stand.{Stand}
use Rattle.pc_run_laws.specs.Failed.{is_unrefused}
use Rattle.pc_drain.specs.Causes.{HaveCauses, is_refused}
use Rattle.pc_drain.specs.Counts.{dispatch_workers, settled_count}
use Rattle.pc_drain.proofs.CauseLemmas.{causes-more, failed-cause}
use Rattle.pc_rebalance.specs.Apply.{Applies}
use Rattle.pc_rebalance.specs.Block.{AddsBlock, is_event_of}
use Rattle.pc_rebalance.proofs.StopLemmas.{GivesBack, applied-adds, gives-back}
use Rattle.pc_rebalance.proofs.StopLemmas.GivesBack.{Same, Saved, Unsaved}
use Rattle.pc_pool.proofs.KeepLemmas.{causes-event}

-- ---- counts

-- what an event of a block leaves: the workers of the dispatches, how many results were settled, and
-- whether the history has ended
pub record IsAside (h h' : List Event) : Type 0 where
  pub workers : dispatch_workers h' ≡ dispatch_workers h
  pub settled : settled_count h' ≡ settled_count h
  pub ended : has_ended h' ≡ has_ended h

aside-event : (a : Act) (e : Event) (h : List Event) → is_event_of a e ≡ true → IsAside h (e ∷ h)
aside-event a (Assign p epoch position text) h is =
    record { workers = refl; settled = refl; ended = refl }
aside-event a (Committed p position text size) h is =
    record { workers = refl; settled = refl; ended = refl }
aside-event a (CommitFailed p position text size) h is =
    record { workers = refl; settled = refl; ended = refl }
aside-event a (Revoke p epoch) h is = record { workers = refl; settled = refl; ended = refl }
aside-event a (Lost p epoch) h is = record { workers = refl; settled = refl; ended = refl }
aside-event a Crash h is = record { workers = refl; settled = refl; ended = refl }
aside-event (act.Assign p) e h is = cc
aside-event (act.Revoke p) e h is = cc
aside-event (act.Lose p) e h is = cc
aside-event act.Crash e h is = cc

aside-events : (a : Act) (es h : List Event) → list_all (is_event_of a) es ≡ true
    → IsAside h (es ++ h)
aside-events a [] h are = record { workers = refl; settled = refl; ended = refl }
aside-events a (e ∷ es) h are =
    let both = and_parts (is_event_of a e) (list_all (is_event_of a) es) are in
    let first = aside-event a e (es ++ h) both.0 in
    let rest = aside-events a es h both.1 in
    record {
      workers = first.workers ∙ rest.workers;
      settled = first.settled ∙ rest.settled;
      ended = first.ended ∙ rest.ended;
    }

pub block-aside : (a : Act) (h h' : List Event) → AddsBlock a h h' → IsAside h h'
block-aside a h h' adds = subst (λ (k : List Event). IsAside h k) (sym adds.is)
    (aside-events a adds.events h adds.are)

-- ---- causes

-- an act that gives no part back
abbrev pub IsPlain : Act → Type 0
IsPlain (act.Assign p) = Unit {0}
IsPlain (act.Revoke p) = ⊥
IsPlain (act.Lose p) = Unit {0}
IsPlain act.Crash = Unit {0}

module _ (refuses : ℕ → Commit → Bool) (start : ℕ) where
  pub causes-later : (h : List Event) (n m : ℕ) → n ≤ m → HaveCauses refuses start h n
      → HaveCauses refuses start h m
  causes-later h n m le have = record {
    counts = have.counts;
    caused = have.caused;
    last = le_trans have.last le;
  }

  plain-event : (a : Act) (e : Event) → IsPlain a → is_event_of a e ≡ true
      → is_unrefused refuses e ≡ false
  plain-event a (Assign p epoch position text) plain is = refl
  plain-event a (Lost p epoch) plain is = refl
  plain-event a Crash plain is = refl
  plain-event (act.Assign p) e plain is = cc
  plain-event (act.Revoke p) e plain is = absurd plain
  plain-event (act.Lose p) e plain is = cc
  plain-event act.Crash e plain is = cc

  plain-events : (a : Act) (n : ℕ) (es h : List Event) → IsPlain a
      → list_all (is_event_of a) es ≡ true → HaveCauses refuses start h n
      → HaveCauses refuses start (es ++ h) n
  plain-events a n [] h plain are have = have
  plain-events a n (e ∷ es) h plain are have =
      let both = and_parts (is_event_of a e) (list_all (is_event_of a) es) are in
      causes-event refuses start n (es ++ h) e (plain-event a e plain both.0)
      (plain-events a n es h plain both.1 have)

  -- failed commits keep their causes in the block of such an act
  pub causes-plain : (a : Act) (n : ℕ) (h h' : List Event) → IsPlain a → AddsBlock a h h'
      → HaveCauses refuses start h n → HaveCauses refuses start h' n
  causes-plain a n h h' plain adds have =
      subst (λ (k : List Event). HaveCauses refuses start k n) (sym adds.is)
      (plain-events a n adds.events h plain adds.are have)

  -- and where a part is given back
  causes-back : (a b : Stand) (p : ℕ) (c : SizedCommit) (asked : Result (Unit {0}) ClientFault)
      → ((q : ℕ) (d : Commit) → refuses q d ≡ is_refused a.store q d) → a.faults ≤ b.faults
      → (◌≡◌ {A = Result (Unit {0}) ClientFault} asked (Err client.LinkFailed)
      → HasRisen a.faults b.faults)
      → CommitGives a.store b.store p c.commit asked
      → GivesBack p c asked a.history b.history → HaveCauses refuses start a.history a.faults
      → HaveCauses refuses start b.history b.faults
  causes-back a b p c asked agrees later cause gives (Same same) have =
      subst (λ (k : List Event). HaveCauses refuses start k b.faults) (sym same)
      (causes-later a.history a.faults b.faults later have)
  causes-back a b p c asked agrees later cause gives (Saved epoch same) have =
      let stored = Committed p c.commit.position c.commit.map c.size in
      subst (λ (k : List Event). HaveCauses refuses start k b.faults) (sym same)
      (causes-event refuses start b.faults (stored ∷ a.history) (Revoke p epoch) refl
      (causes-event refuses start b.faults a.history stored refl
      (causes-later a.history a.faults b.faults later have)))
  causes-back a b p c asked agrees later cause gives (Unsaved epoch failed is memory same) have =
      let unsaved = CommitFailed p c.commit.position c.commit.map c.size in
      subst (λ (k : List Event). HaveCauses refuses start k b.faults) (sym same)
      (causes-event refuses start b.faults (unsaved ∷ a.history) (Revoke p epoch) refl
      (causes-more a (record {
        history = unsaved ∷ a.history;
        store = b.store;
        faults = b.faults;
      }) later unsaved (λ others agree unrefused. failed-cause failed a b p c.commit memory
      (λ link. cause (is ∙ link))
      (subst (λ (x : Result (Unit {0}) ClientFault). CommitGives a.store b.store p c.commit x) is
      gives)
      (ap not (sym (agree p c.commit)) ∙ unrefused)) refl refuses start agrees have))

  -- in the block of any act
  pub causes-applied : (given : Given) (a : Act) (before after : Stand)
      (r : Result (Unit {0}) EngineFault) → Applies true given a before after r
      → ((q : ℕ) (d : Commit) → refuses q d ≡ is_refused before.store q d)
      → before.faults ≤ after.faults → HaveCauses refuses start before.history before.faults
      → HaveCauses refuses start after.history after.faults
  causes-applied given (act.Revoke p) before after r revokes agrees later have =
      causes-back before after p (commit_of given before.history p) revokes.asked agrees later
      revokes.stored.cause (revokes.stored.gives refl)
      (gives-back given before.history after.history p revokes.asked
      (revoke_refusal given before.history p) r revokes.does) have
  causes-applied given (act.Assign p) before after r applies agrees later have =
      causes-later after.history before.faults after.faults later
      (causes-plain (act.Assign p) before.faults before.history after.history tt
      (applied-adds true given (act.Assign p) before after r applies) have)
  causes-applied given (act.Lose p) before after r applies agrees later have =
      causes-later after.history before.faults after.faults later
      (causes-plain (act.Lose p) before.faults before.history after.history tt
      (applied-adds true given (act.Lose p) before after r applies) have)
  causes-applied given act.Crash before after r applies agrees later have =
      causes-later after.history before.faults after.faults later
      (causes-plain act.Crash before.faults before.history after.history tt
      (applied-adds true given act.Crash before after r applies) have)
