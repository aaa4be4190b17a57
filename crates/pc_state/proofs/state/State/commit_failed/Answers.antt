-- The part's last commit has this size.
use Rattle.std.proofs.Common.{refl, set, subst, sym, ap, arith}
use Rattle.pc_state.specs.declared.part.PartState.{PartState}
use Rattle.pc_state.specs.State.{PartKeeps}
use Rattle.pc_state.proofs.LedgerLemmas.{ledger-below}
use Rattle.pc_laws.proofs.HeldLaw.{held-has_log, log-below}
use Rattle.pc_state.proofs.PartEvents.{knows-failed, known-below, known-part}
use Rattle.pc_state.proofs.state.State.commit_failed.Goals as goal

pub commit_failed-requires : goal.commit_failed-requires
commit_failed-requires c =
    let (given, h, knows, held) = c.requires in
    ledger-below given h c.args.self.now c.args.part knows
    (log-below given.logs c.args.part (held-has_log given h c.args.part knows.legal held))

pub index_mut-requires : goal.index_mut-requires
index_mut-requires c =
    let (given, h, knows, held) = c.requires in
    let below = known-below given h c.args.self.now c.args.part knows
    (held-has_log given h c.args.part knows.legal held) in
    omega (arith, below, c.args.self.now.parts.ok.0)

pub returns : goal.returns
returns c = λ given h position text knows may.
    let known = held-has_log given h c.args.part knows.legal may.legal.0.held in
    let part = c.index_mut.result.now in
    knows-failed given h c.args.self.now _ c.args.part position c.args.size text part knows
    (log-below given.logs c.args.part known)
    (record {
      setup = refl;
      logs = refl;
      items = ap (λ (x : PartState). set c.args.self.now.parts.items c.args.part x)
          c.note_size.ensures;
      shards = refl;
      retries = refl;
      jobs = refl;
      clock = refl;
      dispatched = refl;
      last = refl;
    })
    (subst (λ (x : PartState). PartKeeps given h c.args.part x) (sym c.index_mut.ensures.value)
    (known-part given h c.args.self.now c.args.part knows known _)) may
    (c.commit_failed.ensures given h position text c.args.size knows.ledger may.legal.0.held)
