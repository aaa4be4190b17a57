use Rattle.std.proofs.Common.{◌≡◌, ◌+◌, ◌∙◌, ℕ, refl, ap, sym, subst, arith}
use Rattle.std.specs.Prelude.{option_map}
use Rattle.pc_model.specs.declared.commit.Commit.{Commit}
use Rattle.pc_model.specs.Given.{records_of}
use Rattle.pc_model.specs.Epochs.{epoch_of}
use Rattle.pc_state.proofs.LedgerLemmas.{ledger-below}
use Rattle.pc_partition.specs.Window.{StandsFor}
use Rattle.pc_broker_log.specs.Logs.{log_at}
use Rattle.pc_cursor.specs.Cursor.{not_below}
use Rattle.pc_cursor.specs.declared.cursor.Cursor.{Cursor}
use Rattle.pc_commit.specs.Resume.{resumed_marks}
use Rattle.pc_laws.proofs.HeldLaw.{log-below}
use Rattle.pc_state.proofs.PartEvents.{knows-assigned, known-epoch, known-epoch_small}
use Rattle.pc_state.proofs.QueryLemmas.{read-none, read-of}
use Rattle.pc_state.proofs.state.State.assign.Goals as goal

pub unreachable-requires : goal.unreachable-requires
unreachable-requires c =
    let (given, h, knows, known) = c.requires in
    read-none (log_at given.logs c.args.part) (not_below c.args.position)
    (rw knows.logs (ap (option_map (λ (x : Cursor). x.left)) (sym c.in_default.is) ∙ c.cursor.ensures)) known

pub overflow_add-state : goal.overflow_add-state
overflow_add-state c =
    let small = known-epoch_small c.requires.0 c.requires.1 c.args.self.now c.args.part c.requires.2 c.requires.3
    c.index_mut-state.result.now _ c.index_mut-state.ensures.value in omega (arith, small)

pub returns-clause-epoch : goal.returns-clause-epoch
returns-clause-epoch c = λ given h knows known. ap (λ (e : ℕ). e + 1)
    (known-epoch given h c.args.self.now c.args.part knows known c.index_mut-state.result.now _ c.index_mut-state.ensures.value)

pub returns-clause-knows : goal.returns-clause-knows
returns-clause-knows c = λ given h stored knows at stands may.
    let same : stored ≡ record { position = c.args.position; map = stored.map } =
    ap (λ (n : ℕ). record { position = n; map = stored.map }) at in
    knows-assigned given h c.args.self.now _ c.args.part
    (record { position = c.args.position; map = stored.map }) _ c.args.window c.new.result knows may
    (log-below given.logs c.args.part may.legal.0.known)
    (record {
      setup = refl;
      logs = refl;
      items = refl;
      shards = refl;
      retries = refl;
      jobs = refl;
      clock = refl;
      dispatched = refl;
      last = refl;
    })
    (ap (λ (e : ℕ). e + 1) (known-epoch given h c.args.self.now c.args.part knows may.legal.0.known
    c.index_mut-state.result.now _ c.index_mut-state.ensures.value)) refl
    (ap (λ (x : Cursor). x.left) c.new.ensures
    ∙ read-of (log_at given.logs c.args.part) (not_below c.args.position) c.in-Some.rest.left
    (rw knows.logs (ap (option_map (λ (x : Cursor). x.left)) (sym c.in-Some.is) ∙ c.cursor.ensures)))
    (subst (λ (s : Commit). StandsFor c.args.window.window c.args.position 0
    (resumed_marks s (records_of given c.args.part))) same stands)
    (c.assign.ensures given h (epoch_of h c.args.part + 1) stored.map knows.ledger knows.legal)

pub assign-requires : goal.assign-requires
assign-requires c =
    let (given, h, knows, known) = c.requires in
    ledger-below given h c.args.self.now c.args.part knows (log-below given.logs c.args.part known)
