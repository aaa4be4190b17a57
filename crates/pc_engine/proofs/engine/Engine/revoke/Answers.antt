-- A part that may be given back is committed and then released.
use Rattle.std.proofs.Common.{◌∙◌, ◌≤◌, ◌+◌, length, ap, subst, refl, Err, sym}
use Rattle.std.proofs.lemmas.Result.{err_from_is_err_and}
use Rattle.pc_offset_client.specs.Client.{kept_for}
use Rattle.pc_engine.specs.Engine.{given_of}
use Rattle.pc_engine.specs.declared.fault.EngineFault.{EngineFault}
use Rattle.pc_model.specs.Jobs.{open_jobs}
use Rattle.pc_engine.proofs.EngineLemmas.{refused-none}
use Rattle.pc_engine.proofs.EngineRelease.{may-release}
use Rattle.pc_engine.proofs.EngineRevoke.{Stores, commits, made-room, revoke-does, revoke-refused, revoke-unmade, revoke-unstored, revoked-given, revoked-keeps, still-held}
use Rattle.pc_engine.proofs.EngineStep.{given_to}
use Rattle.pc_engine.proofs.engine.Engine.revoke.Goals as goal

pub returns-in_err-may_release-clause-effect : goal.returns-in_err-may_release-clause-effect
returns-in_err-may_release-clause-effect g c =
    let got = err_from_is_err_and c.from_residual.result c.from_residual.ensures.1 in
    revoke-refused c.from_residual.result c.in_err-may_release.field-0.0 (given_of g.T.Task.outcome c.args.self.now)
    c.args.self.now.journal.events c.args.self.now.journal.events c.args.part
    (g.L.Link.is_told c.args.self.now.link) (g.L.Link.store c.args.self.now.link)
    (g.L.Link.store c.args.self.now.link) (g.L.Link.faults c.args.self.now.link) _
    (got.1 ∙ ap (λ (x : EngineFault). Err x) got.2) c.in_err-may_release.ensures refl refl

pub returns-in_err-reserve-clause-effect : goal.returns-in_err-reserve-clause-effect
returns-in_err-reserve-clause-effect g c =
    let got = err_from_is_err_and c.from_residual-in_err-reserve.result
    c.from_residual-in_err-reserve.ensures.1 in
    revoke-unmade c.from_residual-in_err-reserve.result _ (given_of g.T.Task.outcome c.args.self.now)
    c.args.self.now.journal.events c.reserve.new.self.events c.args.part
    (g.L.Link.is_told c.args.self.now.link) (g.L.Link.store c.args.self.now.link)
    (g.L.Link.store c.self.inside.client.link) (g.L.Link.faults c.args.self.now.link) _ got.1 got.2
    (ap (λ v. g.L.Link.store v.link) c.self.view_is)
    (c.in_err-reserve.ensures.events ∙ ap (λ v. v.journal.events) c.self.view_is)

pub returns-in_err-failed-clause-effect : goal.returns-in_err-failed-clause-effect
returns-in_err-failed-clause-effect g c =
    let link = c.self.inside.client.link in
    let none = refused-none _ _ c.in_ok-may_release.ensures in
    let refused = commits (given_of g.T.Task.outcome c.args.self.now) c.args.self.now.journal.events c.args.part none in
    let stores = subst (λ v. Stores (g.L.Link.is_told v.link) (g.L.Link.store v.link)
    (g.L.Link.store c.store.new.self.link) (g.L.Link.faults v.link)
    (g.L.Link.faults c.store.new.self.link) c.args.part (given_of g.T.Task.outcome v) v.journal.events c.store.result
    c.store.new.self.journal.events) c.self.view_is
    (subst (λ k. Stores (g.L.Link.is_told link) (g.L.Link.store link)
    (g.L.Link.store c.store.new.self.link) (g.L.Link.faults link)
    (g.L.Link.faults c.store.new.self.link) c.args.part
    (given_to c.self.inside.state k (g.L.Link.is_told link) (g.T.Task.outcome c.self.inside.task.now) (kept_for (g.L.Link.store link))) k
    c.store.result c.store.new.self.journal.events) c.in_ok-reserve.ensures.events
    c.store.ensures.effect) in
    let got = err_from_is_err_and c.from_residual-in_err-failed.result
    c.from_residual-in_err-failed.ensures.1 in
    revoke-unstored c.from_residual-in_err-failed.result c.in_err-failed.field-0.0
    (given_of g.T.Task.outcome c.args.self.now) c.args.self.now.journal.events c.store.new.self.journal.events
    c.args.part (g.L.Link.is_told c.args.self.now.link) (g.L.Link.store c.args.self.now.link)
    (g.L.Link.store c.store.new.self.link) (g.L.Link.faults c.args.self.now.link)
    (g.L.Link.faults c.store.new.self.link)
    (got.1 ∙ ap (λ (x : EngineFault). Err x) got.2) c.store.result refused
    c.in_err-failed.ensures stores

pub release-epoch-requires : goal.release-epoch-requires
release-epoch-requires g c =
    let link = c.self.inside.client.link in
    let none = refused-none _ _ c.in_ok-may_release.ensures in
    let refused = commits (given_of g.T.Task.outcome c.args.self.now) c.args.self.now.journal.events c.args.part none in
    let stores = subst (λ v. Stores (g.L.Link.is_told v.link) (g.L.Link.store v.link)
    (g.L.Link.store c.store.new.self.link) (g.L.Link.faults v.link)
    (g.L.Link.faults c.store.new.self.link) c.args.part (given_of g.T.Task.outcome v) v.journal.events c.store.result
    c.store.new.self.journal.events) c.self.view_is
    (subst (λ k. Stores (g.L.Link.is_told link) (g.L.Link.store link)
    (g.L.Link.store c.store.new.self.link) (g.L.Link.faults link)
    (g.L.Link.faults c.store.new.self.link) c.args.part
    (given_to c.self.inside.state k (g.L.Link.is_told link) (g.T.Task.outcome c.self.inside.task.now) (kept_for (g.L.Link.store link))) k
    c.store.result c.store.new.self.journal.events) c.in_ok-reserve.ensures.events
    c.store.ensures.effect) in
    let stores2 = subst (λ v. Stores (g.L.Link.is_told c.args.self.now.link)
    (g.L.Link.store c.args.self.now.link) (g.L.Link.store v.link)
    (g.L.Link.faults c.args.self.now.link) (g.L.Link.faults v.link) c.args.part
    (given_of g.T.Task.outcome c.args.self.now) c.args.self.now.journal.events c.store.result v.journal.events)
    (sym c.self-2.view_is) stores in
    let may = may-release (given_of g.T.Task.outcome c.args.self.now) c.args.self.now.journal.events c.args.part 2 _
    c.in_ok-may_release.ensures in
    let link2 = c.self-2.inside.client.link in
    let held = still-held (given_of g.T.Task.outcome c.args.self.now) c.args.self.now.journal.events
    c.self-2.inside.journal.events c.args.part (g.L.Link.is_told c.args.self.now.link)
    (g.L.Link.store c.args.self.now.link) (g.L.Link.store link2)
    (g.L.Link.faults c.args.self.now.link) (g.L.Link.faults link2) c.store.result
    c.in_ok-failed.failed refused c.in_ok-failed.ensures stores2 may.0 in (
      given_to c.self-2.inside.state c.self-2.inside.journal.events (g.L.Link.is_told link2)
          (g.T.Task.outcome c.self-2.inside.task.now) (kept_for (g.L.Link.store link2)),
      c.self-2.inside.journal.events,
      c.self-2.invariant.knows,
      held,
    )

pub invariant_of-self-3 : goal.invariant_of-self-3
invariant_of-self-3 g c =
    let link = c.self.inside.client.link in
    let none = refused-none _ _ c.in_ok-may_release.ensures in
    let refused = commits (given_of g.T.Task.outcome c.args.self.now) c.args.self.now.journal.events c.args.part none in
    let stores = subst (λ v. Stores (g.L.Link.is_told v.link) (g.L.Link.store v.link)
    (g.L.Link.store c.store.new.self.link) (g.L.Link.faults v.link)
    (g.L.Link.faults c.store.new.self.link) c.args.part (given_of g.T.Task.outcome v) v.journal.events c.store.result
    c.store.new.self.journal.events) c.self.view_is
    (subst (λ k. Stores (g.L.Link.is_told link) (g.L.Link.store link)
    (g.L.Link.store c.store.new.self.link) (g.L.Link.faults link)
    (g.L.Link.faults c.store.new.self.link) c.args.part
    (given_to c.self.inside.state k (g.L.Link.is_told link) (g.T.Task.outcome c.self.inside.task.now) (kept_for (g.L.Link.store link))) k
    c.store.result c.store.new.self.journal.events) c.in_ok-reserve.ensures.events
    c.store.ensures.effect) in
    let stores2 = subst (λ v. Stores (g.L.Link.is_told c.args.self.now.link)
    (g.L.Link.store c.args.self.now.link) (g.L.Link.store v.link)
    (g.L.Link.faults c.args.self.now.link) (g.L.Link.faults v.link) c.args.part
    (given_of g.T.Task.outcome c.args.self.now) c.args.self.now.journal.events c.store.result v.journal.events)
    (sym c.self-2.view_is) stores in
    let may = may-release (given_of g.T.Task.outcome c.args.self.now) c.args.self.now.journal.events c.args.part 2 _
    c.in_ok-may_release.ensures in
    let link2 = c.self-2.inside.client.link in
    let held = still-held (given_of g.T.Task.outcome c.args.self.now) c.args.self.now.journal.events
    c.self-2.inside.journal.events c.args.part (g.L.Link.is_told c.args.self.now.link)
    (g.L.Link.store c.args.self.now.link) (g.L.Link.store link2)
    (g.L.Link.faults c.args.self.now.link) (g.L.Link.faults link2) c.store.result
    c.in_ok-failed.failed refused c.in_ok-failed.ensures stores2 may.0 in
    revoked-keeps (given_of g.T.Task.outcome c.args.self.now) c.args.self.now.journal.events
    c.self-2.inside.journal.events c.args.part (g.L.Link.is_told c.args.self.now.link)
    (g.L.Link.store c.args.self.now.link) (g.L.Link.store link2)
    (g.L.Link.faults c.args.self.now.link) (g.L.Link.faults link2) c.store.result
    c.in_ok-failed.failed refused c.in_ok-failed.ensures stores2
    c.self-2.inside.state c.release-epoch.new.self (g.L.Link.is_told link2)
    (g.T.Task.outcome c.self-2.inside.task.now) (kept_for (g.L.Link.store link2)) c.self-2.inside.journal.room c.self-2.invariant may.1
    (c.release-epoch.ensures.revoked _ _ c.self-2.invariant.knows held) c.push.new.self.events
    c.release-epoch.result (c.release-epoch.ensures.epoch _ _ c.self-2.invariant.knows held)
    c.push.ensures.events
    c.reserve.new.self.room c.push.new.self.room c.outstanding.result
    (c.outstanding.ensures _ _ c.self.invariant.knows
    ∙ ap (λ v. length (open_jobs v.journal.events)) c.self.view_is)
    c.in_ok-reserve.ensures.room
    (ap (λ v. v.journal.room + 1) c.self-2.view_is
    ∙ made-room c.store.result c.in_ok-failed.failed _ _ c.in_ok-failed.ensures
    c.store.ensures.room)
    c.push.ensures.room

pub returns-clause-effect : goal.returns-clause-effect
returns-clause-effect g c =
    let link = c.self.inside.client.link in
    let none = refused-none _ _ c.in_ok-may_release.ensures in
    let refused = commits (given_of g.T.Task.outcome c.args.self.now) c.args.self.now.journal.events c.args.part none in
    let stores = subst (λ v. Stores (g.L.Link.is_told v.link) (g.L.Link.store v.link)
    (g.L.Link.store c.store.new.self.link) (g.L.Link.faults v.link)
    (g.L.Link.faults c.store.new.self.link) c.args.part (given_of g.T.Task.outcome v) v.journal.events c.store.result
    c.store.new.self.journal.events) c.self.view_is
    (subst (λ k. Stores (g.L.Link.is_told link) (g.L.Link.store link)
    (g.L.Link.store c.store.new.self.link) (g.L.Link.faults link)
    (g.L.Link.faults c.store.new.self.link) c.args.part
    (given_to c.self.inside.state k (g.L.Link.is_told link) (g.T.Task.outcome c.self.inside.task.now) (kept_for (g.L.Link.store link))) k
    c.store.result c.store.new.self.journal.events) c.in_ok-reserve.ensures.events
    c.store.ensures.effect) in
    let stores2 = subst (λ v. Stores (g.L.Link.is_told c.args.self.now.link)
    (g.L.Link.store c.args.self.now.link) (g.L.Link.store v.link)
    (g.L.Link.faults c.args.self.now.link) (g.L.Link.faults v.link) c.args.part
    (given_of g.T.Task.outcome c.args.self.now) c.args.self.now.journal.events c.store.result v.journal.events)
    (sym c.self-2.view_is) stores in
    let may = may-release (given_of g.T.Task.outcome c.args.self.now) c.args.self.now.journal.events c.args.part 2 _
    c.in_ok-may_release.ensures in
    let link2 = c.self-2.inside.client.link in
    let held = still-held (given_of g.T.Task.outcome c.args.self.now) c.args.self.now.journal.events
    c.self-2.inside.journal.events c.args.part (g.L.Link.is_told c.args.self.now.link)
    (g.L.Link.store c.args.self.now.link) (g.L.Link.store link2)
    (g.L.Link.faults c.args.self.now.link) (g.L.Link.faults link2) c.store.result
    c.in_ok-failed.failed refused c.in_ok-failed.ensures stores2 may.0 in
    revoke-does (given_of g.T.Task.outcome c.args.self.now) c.args.self.now.journal.events
    c.self-2.inside.journal.events c.args.part (g.L.Link.is_told c.args.self.now.link)
    (g.L.Link.store c.args.self.now.link) (g.L.Link.store link2)
    (g.L.Link.faults c.args.self.now.link) (g.L.Link.faults link2) c.store.result
    c.in_ok-failed.failed refused c.in_ok-failed.ensures stores2
    c.push.new.self.events c.release-epoch.result none
    (c.release-epoch.ensures.epoch _ _ c.self-2.invariant.knows held) c.push.ensures.events

pub returns-clause-asks : goal.returns-clause-asks
returns-clause-asks g c =
    let link = c.self.inside.client.link in
    let none = refused-none _ _ c.in_ok-may_release.ensures in
    let refused = commits (given_of g.T.Task.outcome c.args.self.now) c.args.self.now.journal.events c.args.part none in
    let stores = subst (λ v. Stores (g.L.Link.is_told v.link) (g.L.Link.store v.link)
    (g.L.Link.store c.store.new.self.link) (g.L.Link.faults v.link)
    (g.L.Link.faults c.store.new.self.link) c.args.part (given_of g.T.Task.outcome v) v.journal.events c.store.result
    c.store.new.self.journal.events) c.self.view_is
    (subst (λ k. Stores (g.L.Link.is_told link) (g.L.Link.store link)
    (g.L.Link.store c.store.new.self.link) (g.L.Link.faults link)
    (g.L.Link.faults c.store.new.self.link) c.args.part
    (given_to c.self.inside.state k (g.L.Link.is_told link) (g.T.Task.outcome c.self.inside.task.now) (kept_for (g.L.Link.store link))) k
    c.store.result c.store.new.self.journal.events) c.in_ok-reserve.ensures.events
    c.store.ensures.effect) in
    let stores2 = subst (λ v. Stores (g.L.Link.is_told c.args.self.now.link)
    (g.L.Link.store c.args.self.now.link) (g.L.Link.store v.link)
    (g.L.Link.faults c.args.self.now.link) (g.L.Link.faults v.link) c.args.part
    (given_of g.T.Task.outcome c.args.self.now) c.args.self.now.journal.events c.store.result v.journal.events)
    (sym c.self-2.view_is) stores in
    let may = may-release (given_of g.T.Task.outcome c.args.self.now) c.args.self.now.journal.events c.args.part 2 _
    c.in_ok-may_release.ensures in
    let link2 = c.self-2.inside.client.link in
    let held = still-held (given_of g.T.Task.outcome c.args.self.now) c.args.self.now.journal.events
    c.self-2.inside.journal.events c.args.part (g.L.Link.is_told c.args.self.now.link)
    (g.L.Link.store c.args.self.now.link) (g.L.Link.store link2)
    (g.L.Link.faults c.args.self.now.link) (g.L.Link.faults link2) c.store.result
    c.in_ok-failed.failed refused c.in_ok-failed.ensures stores2 may.0 in record {
      given = revoked-given (given_of g.T.Task.outcome c.args.self.now) c.args.self.now.journal.events
          c.self-2.inside.journal.events c.args.part (g.L.Link.is_told c.args.self.now.link)
          (g.L.Link.store c.args.self.now.link) (g.L.Link.store link2)
          (g.L.Link.faults c.args.self.now.link) (g.L.Link.faults link2) c.store.result
          c.in_ok-failed.failed refused c.in_ok-failed.ensures stores2
          c.self-2.inside.state c.release-epoch.new.self (g.L.Link.is_told link2)
          (g.T.Task.outcome c.self-2.inside.task.now) (kept_for (g.L.Link.store link2)) c.self-2.inside.journal.room c.self-2.invariant may.1
          (c.release-epoch.ensures.revoked _ _ c.self-2.invariant.knows held) c.push.new.self.events
          c.release-epoch.result (c.release-epoch.ensures.epoch _ _ c.self-2.invariant.knows held)
          c.push.ensures.events
          ∙ ap (λ v. (given_of g.T.Task.outcome v)) c.self-2.view_is ∙ c.store.ensures.asks.given
          ∙ ap (λ k. given_to c.self.inside.state k (g.L.Link.is_told link)
          (g.T.Task.outcome c.self.inside.task.now) (kept_for (g.L.Link.store link))) c.in_ok-reserve.ensures.events
          ∙ ap (λ v. given_of g.T.Task.outcome v) c.self.view_is;
      task = ap (λ v. v.task) c.self-2.view_is ∙ c.store.ensures.asks.task
          ∙ ap (λ v. v.task) c.self.view_is;
      told = ap (λ v. g.L.Link.is_told v.link) c.self-2.view_is ∙ c.store.ensures.asks.told
          ∙ ap (λ v. g.L.Link.is_told v.link) c.self.view_is;
      count = subst (λ v. g.L.Link.faults v.link ≤ g.L.Link.faults link2) c.self.view_is
          (subst (λ v. g.L.Link.faults link ≤ g.L.Link.faults v.link) (sym c.self-2.view_is)
          c.store.ensures.asks.count);
    }
