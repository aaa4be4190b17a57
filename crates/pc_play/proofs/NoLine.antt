-- A play of which no line was played.
use Rattle.std.proofs.Common.{◌≡◌, ◌≤◌, inl, ℕ, Bool, true, false, List, [], Option, refl, ap, sym, subst, arith}
use Rattle.pc_model.specs.Outcomes.{outcome_of}
use Rattle.pc_laws.proofs.Lists.{true-not-false}
use Rattle.pc_laws.specs.Lists.{In}
use Rattle.pc_model.specs.Broker.{Broker}
use Rattle.pc_model.specs.Record.{Record}
use Rattle.pc_model.specs.declared.setup.Setup.{Setup}
use Rattle.pc_model.specs.Given.{Given, has_log}
use Rattle.pc_model.specs.Lawful.{IsLegal}
use Rattle.pc_model.specs.Stored.{may_store}
use Rattle.pc_offset_client.specs.Client.{kept_for}
use Rattle.pc_laws.proofs.HeldLaw.{log-below}
use Rattle.pc_engine.specs.Engine.{given_by}
use Rattle.pc_engine.proofs.EngineLemmas.{start_of-given_by, stores_only-same}
use Rattle.pc_play.specs.Kept.{IsKept}
use Rattle.pc_play.specs.Play.{IsAborted, Moment, Play, PlaysTo, Trace}

false-not-true : false ≡ true → ⊥
false-not-true is = true-not-false true refl (sym is)

-- ---- the link

-- a link that stays
pub aborted-same : (told : Bool) (m m' : Moment) → m' ≡ m → IsAborted told m m'
aborted-same told m m' same = record {
  keeps = λ is. ap (λ (x : Moment). x.store) same;
  later = subst (λ (x : Moment). m.faults ≤ x.faults) (sym same) (omega arith);
}

-- no line leads nowhere
pub plays-nowhere : (told : Bool) (given : Given) (s : Play) (m : Moment)
    → PlaysTo told given s m [] s m
unfolding Trace
plays-nowhere told given s m = record { entries = []; trace = (refl, refl) }

-- ---- the history

stored-at-start : (setup : Setup) (logs : List (Option (List Record))) (told : Bool)
    (store : Broker) → told ≡ true → (p : ℕ)
    → has_log (given_by setup logs [] told outcome_of (kept_for store)) p ≡ true
    → In (kept_for store p) (may_store (given_by setup logs [] told outcome_of (kept_for store)) [] p)
stored-at-start setup logs true store is p log =
    inl (sym (start_of-given_by setup logs p [] outcome_of (kept_for store) (log-below logs p log)))
stored-at-start setup logs false store is p log = absurd (false-not-true is)

pub kept-at-start : (setup : Setup) (logs : List (Option (List Record))) (told : Bool)
    (store : Broker) → IsLegal (given_by setup logs [] told outcome_of (kept_for store)) []
    → IsKept (given_by setup logs [] told outcome_of (kept_for store)) store store []
kept-at-start setup logs told store legal = record {
  legal = legal;
  stored = λ t p log. stored-at-start setup logs told store t p log;
  others = λ t. stores_only-same (has_log (given_by setup logs [] told outcome_of (kept_for store))) store store
      refl;
}
