-- The link and the journal take the commit in, or the journal alone.
use Rattle.std.proofs.Common.{◌≡◌, ◌≤◌, ◌∙◌, None, true, Err, ap, refl, subst, arith}
use Rattle.std.proofs.lemmas.Result.{err_from_is_err_and}
use Rattle.pc_model.specs.Given.{has_log}
use Rattle.pc_model.specs.Known.{commit_of}
use Rattle.pc_offset_client.specs.Client.{kept_for}
use Rattle.pc_engine.specs.Engine.{given_of}
use Rattle.pc_engine.specs.declared.fault.EngineFault.{EngineFault}
use Rattle.pc_engine.specs.Effect.{StoresOnly, commit_refusal}
use Rattle.pc_engine.proofs.EngineCommit.{commit-small, committed-given, committed-keeps, failed-given, failed-keeps}
use Rattle.pc_engine.proofs.EngineLemmas.{commit-unmade, kept_for-accepts, may_commit, may_keep-failed, small-map, stores_only-accepts, stores_only-failed}
use Rattle.pc_engine.proofs.EngineStep.{given_to}
use Rattle.pc_engine.proofs.engine.Engine.store.Goals as goal

pub returns-in_err-sized-clause-effect : goal.returns-in_err-sized-clause-effect
returns-in_err-sized-clause-effect g c =
    let got = err_from_is_err_and c.from_residual.result c.from_residual.ensures.1 in
    commit-unmade c.from_residual.result (given_of g.T.Task.outcome c.args.self.now)
    c.args.self.now.journal.events c.args.self.now.journal.events c.args.part
    (g.L.Link.is_told c.args.self.now.link) (g.L.Link.store c.args.self.now.link)
    (g.L.Link.store c.args.self.now.link)
    (g.L.Link.faults c.args.self.now.link) _
    (got.1 ∙ ap (λ (x : EngineFault). Err x) got.2) refl refl

pub commit-requires-clause-map : goal.commit-requires-clause-map
commit-requires-clause-map g c = small-map c.self.inside.state.setup.now _
    (rw (← c.self.view_is) at c.in_ok-sized.ensures.map)

pub commit-requires-clause-part : goal.commit-requires-clause-part
commit-requires-clause-part g c =
    let inner : commit_refusal (given_to c.self.inside.state c.self.inside.journal.events
    (g.L.Link.is_told c.self.inside.client.link) (g.T.Task.outcome c.self.inside.task.now) (kept_for (g.L.Link.store c.self.inside.client.link)))
    c.self.inside.journal.events c.args.part ≡ None = rw (← c.self.view_is) at c.requires.may in
    let small = commit-small c.self.inside.state c.self.inside.journal.events
    (g.L.Link.is_told c.self.inside.client.link) (g.T.Task.outcome c.self.inside.task.now) (kept_for (g.L.Link.store c.self.inside.client.link))
    c.self.inside.journal.room c.self.invariant c.args.part inner in omega (arith, small)

pub committed-requires : goal.committed-requires
committed-requires g c =
    let inner : commit_refusal (given_to c.self.inside.state c.self.inside.journal.events
    (g.L.Link.is_told c.self.inside.client.link) (g.T.Task.outcome c.self.inside.task.now) (kept_for (g.L.Link.store c.self.inside.client.link)))
    c.self.inside.journal.events c.args.part ≡ None = rw (← c.self.view_is) at c.requires.may in (
      (given_to c.self.inside.state c.self.inside.journal.events
          (g.L.Link.is_told c.self.inside.client.link) (g.T.Task.outcome c.self.inside.task.now) (kept_for (g.L.Link.store c.self.inside.client.link))),
      c.self.inside.journal.events,
      c.self.invariant.knows,
      (may_commit (given_to c.self.inside.state c.self.inside.journal.events
          (g.L.Link.is_told c.self.inside.client.link) (g.T.Task.outcome c.self.inside.task.now) (kept_for (g.L.Link.store c.self.inside.client.link)))
          c.self.inside.journal.events c.args.part inner).held,
    )

pub commit_failed-requires : goal.commit_failed-requires
commit_failed-requires g c =
    let inner : commit_refusal (given_to c.self.inside.state c.self.inside.journal.events
    (g.L.Link.is_told c.self.inside.client.link) (g.T.Task.outcome c.self.inside.task.now) (kept_for (g.L.Link.store c.self.inside.client.link)))
    c.self.inside.journal.events c.args.part ≡ None = rw (← c.self.view_is) at c.requires.may in (
      (given_to c.self.inside.state c.self.inside.journal.events
          (g.L.Link.is_told c.self.inside.client.link) (g.T.Task.outcome c.self.inside.task.now) (kept_for (g.L.Link.store c.self.inside.client.link))),
      c.self.inside.journal.events,
      c.self.invariant.knows,
      (may_commit (given_to c.self.inside.state c.self.inside.journal.events
          (g.L.Link.is_told c.self.inside.client.link) (g.T.Task.outcome c.self.inside.task.now) (kept_for (g.L.Link.store c.self.inside.client.link)))
          c.self.inside.journal.events c.args.part inner).held,
    )

pub invariant_of-self : goal.invariant_of-self
invariant_of-self g c =
    let inner : commit_refusal (given_to c.self.inside.state c.self.inside.journal.events
    (g.L.Link.is_told c.self.inside.client.link) (g.T.Task.outcome c.self.inside.task.now) (kept_for (g.L.Link.store c.self.inside.client.link)))
    c.self.inside.journal.events c.args.part ≡ None = rw (← c.self.view_is) at c.requires.may in
    let commit_is : c.in_ok-sized.sized ≡ commit_of (given_to c.self.inside.state c.self.inside.journal.events
    (g.L.Link.is_told c.self.inside.client.link) (g.T.Task.outcome c.self.inside.task.now) (kept_for (g.L.Link.store c.self.inside.client.link)))
    c.self.inside.journal.events c.args.part = rw (← c.self.view_is) at c.in_ok-sized.ensures.commit in
    committed-keeps c.self.inside.state c.self.inside.journal.events
    (g.L.Link.is_told c.self.inside.client.link) (g.T.Task.outcome c.self.inside.task.now) (kept_for (g.L.Link.store c.self.inside.client.link))
    c.self.inside.journal.room c.self.invariant c.args.part inner c.in_ok-sized.sized
    commit_is
    (kept_for (g.L.Link.store c.commit.new.self.link)) c.committed.new.self
    (g.L.Link.is_told c.commit.new.self.link) c.commit.ensures.told c.push.new.self.events
    c.push.new.self.room
    (let enough = rw (← c.self.view_is) at c.requires.room in
    let less = c.push.ensures.room in omega (arith, enough, less))
    (λ is. kept_for-accepts _ _ _ _ (c.in-Ok.ensures.gives is))
    (c.committed.ensures (given_to c.self.inside.state c.self.inside.journal.events
    (g.L.Link.is_told c.self.inside.client.link) (g.T.Task.outcome c.self.inside.task.now) (kept_for (g.L.Link.store c.self.inside.client.link)))
    c.self.inside.journal.events c.in_ok-sized.sized.commit.map c.self.invariant.knows)
    c.push.ensures.events

pub invariant_of-self-in-Err : goal.invariant_of-self-in-Err
invariant_of-self-in-Err g c =
    let inner : commit_refusal (given_to c.self.inside.state c.self.inside.journal.events
    (g.L.Link.is_told c.self.inside.client.link) (g.T.Task.outcome c.self.inside.task.now) (kept_for (g.L.Link.store c.self.inside.client.link)))
    c.self.inside.journal.events c.args.part ≡ None = rw (← c.self.view_is) at c.requires.may in
    let commit_is : c.in_ok-sized.sized ≡ commit_of (given_to c.self.inside.state c.self.inside.journal.events
    (g.L.Link.is_told c.self.inside.client.link) (g.T.Task.outcome c.self.inside.task.now) (kept_for (g.L.Link.store c.self.inside.client.link)))
    c.self.inside.journal.events c.args.part = rw (← c.self.view_is) at c.in_ok-sized.ensures.commit in
    failed-keeps c.self.inside.state c.self.inside.journal.events
    (g.L.Link.is_told c.self.inside.client.link) (g.T.Task.outcome c.self.inside.task.now) (kept_for (g.L.Link.store c.self.inside.client.link))
    c.self.inside.journal.room c.self.invariant c.args.part inner c.in_ok-sized.sized
    commit_is
    (kept_for (g.L.Link.store c.commit.new.self.link)) c.commit_failed.new.self
    (g.L.Link.is_told c.commit.new.self.link) c.commit.ensures.told c.push-in-Err.new.self.events
    c.push-in-Err.new.self.room
    (let enough = rw (← c.self.view_is) at c.requires.room in
    let less = c.push-in-Err.ensures.room in omega (arith, enough, less))
    (λ is. may_keep-failed _ _ _ _ c.in-Err.fault (c.in-Err.ensures.gives is))
    (c.commit_failed.ensures (given_to c.self.inside.state c.self.inside.journal.events
    (g.L.Link.is_told c.self.inside.client.link) (g.T.Task.outcome c.self.inside.task.now) (kept_for (g.L.Link.store c.self.inside.client.link)))
    c.self.inside.journal.events c.in_ok-sized.sized.commit.position c.in_ok-sized.sized.commit.map c.self.invariant.knows)
    c.push-in-Err.ensures.events

pub returns-in-Ok-clause-asks : goal.returns-in-Ok-clause-asks
returns-in-Ok-clause-asks g c =
    let inner : commit_refusal (given_to c.self.inside.state c.self.inside.journal.events
    (g.L.Link.is_told c.self.inside.client.link) (g.T.Task.outcome c.self.inside.task.now) (kept_for (g.L.Link.store c.self.inside.client.link)))
    c.self.inside.journal.events c.args.part ≡ None = rw (← c.self.view_is) at c.requires.may in
    let commit_is : c.in_ok-sized.sized ≡ commit_of (given_to c.self.inside.state c.self.inside.journal.events
    (g.L.Link.is_told c.self.inside.client.link) (g.T.Task.outcome c.self.inside.task.now) (kept_for (g.L.Link.store c.self.inside.client.link)))
    c.self.inside.journal.events c.args.part = rw (← c.self.view_is) at c.in_ok-sized.ensures.commit in
    record {
      given = committed-given c.self.inside.state c.self.inside.journal.events
          (g.L.Link.is_told c.self.inside.client.link) (g.T.Task.outcome c.self.inside.task.now) (kept_for (g.L.Link.store c.self.inside.client.link))
          c.self.inside.journal.room c.self.invariant c.args.part inner c.in_ok-sized.sized
          commit_is
          (kept_for (g.L.Link.store c.commit.new.self.link)) c.committed.new.self
          (g.L.Link.is_told c.commit.new.self.link) c.commit.ensures.told c.push.new.self.events
          c.push.new.self.room
          (let enough = rw (← c.self.view_is) at c.requires.room in
          let less = c.push.ensures.room in omega (arith, enough, less))
          (λ is. kept_for-accepts _ _ _ _ (c.in-Ok.ensures.gives is))
          (c.committed.ensures (given_to c.self.inside.state c.self.inside.journal.events
          (g.L.Link.is_told c.self.inside.client.link) (g.T.Task.outcome c.self.inside.task.now) (kept_for (g.L.Link.store c.self.inside.client.link)))
          c.self.inside.journal.events c.in_ok-sized.sized.commit.map c.self.invariant.knows)
          c.push.ensures.events
          ∙ ap (λ v. given_of g.T.Task.outcome v) c.self.view_is;
      task = ap (λ v. v.task) c.self.view_is;
      told = c.commit.ensures.told
          ∙ ap (λ v. g.L.Link.is_told v.link) c.self.view_is;
      count = subst (λ v. g.L.Link.faults v.link ≤ g.L.Link.faults c.commit.new.self.link)
          c.self.view_is c.commit.ensures.count;
    }

pub returns-in-Ok-clause-others : goal.returns-in-Ok-clause-others
returns-in-Ok-clause-others g c =
    subst (λ v. g.L.Link.is_told v.link ≡ true → StoresOnly (has_log (given_of g.T.Task.outcome c.args.self.now))
    (g.L.Link.store v.link) (g.L.Link.store c.commit.new.self.link)) c.self.view_is
    (λ is. stores_only-accepts _ _ _ c.args.part _
    (may_commit (given_of g.T.Task.outcome c.args.self.now) c.args.self.now.journal.events c.args.part c.requires.may).known
    (c.in-Ok.ensures.gives is))

pub returns-in_ok-fault-in-Err-clause-others : goal.returns-in_ok-fault-in-Err-clause-others
returns-in_ok-fault-in-Err-clause-others g c =
    subst (λ v. g.L.Link.is_told v.link ≡ true → StoresOnly (has_log (given_of g.T.Task.outcome c.args.self.now))
    (g.L.Link.store v.link) (g.L.Link.store c.commit.new.self.link)) c.self.view_is
    (λ is. stores_only-failed _ _ _ c.args.part _ c.in-Err.fault
    (may_commit (given_of g.T.Task.outcome c.args.self.now) c.args.self.now.journal.events c.args.part c.requires.may).known
    (c.in-Err.ensures.gives is))

pub returns-in_ok-fault-in-Err-clause-asks : goal.returns-in_ok-fault-in-Err-clause-asks
returns-in_ok-fault-in-Err-clause-asks g c =
    let inner : commit_refusal (given_to c.self.inside.state c.self.inside.journal.events
    (g.L.Link.is_told c.self.inside.client.link) (g.T.Task.outcome c.self.inside.task.now) (kept_for (g.L.Link.store c.self.inside.client.link)))
    c.self.inside.journal.events c.args.part ≡ None = rw (← c.self.view_is) at c.requires.may in
    let commit_is : c.in_ok-sized.sized ≡ commit_of (given_to c.self.inside.state c.self.inside.journal.events
    (g.L.Link.is_told c.self.inside.client.link) (g.T.Task.outcome c.self.inside.task.now) (kept_for (g.L.Link.store c.self.inside.client.link)))
    c.self.inside.journal.events c.args.part = rw (← c.self.view_is) at c.in_ok-sized.ensures.commit in
    record {
      given = failed-given c.self.inside.state c.self.inside.journal.events
          (g.L.Link.is_told c.self.inside.client.link) (g.T.Task.outcome c.self.inside.task.now) (kept_for (g.L.Link.store c.self.inside.client.link))
          c.self.inside.journal.room c.self.invariant c.args.part inner c.in_ok-sized.sized
          commit_is
          (kept_for (g.L.Link.store c.commit.new.self.link)) c.commit_failed.new.self
          (g.L.Link.is_told c.commit.new.self.link) c.commit.ensures.told c.push-in-Err.new.self.events
          c.push-in-Err.new.self.room
          (let enough = rw (← c.self.view_is) at c.requires.room in
          let less = c.push-in-Err.ensures.room in omega (arith, enough, less))
          (λ is. may_keep-failed _ _ _ _ c.in-Err.fault (c.in-Err.ensures.gives is))
          (c.commit_failed.ensures (given_to c.self.inside.state c.self.inside.journal.events
          (g.L.Link.is_told c.self.inside.client.link) (g.T.Task.outcome c.self.inside.task.now) (kept_for (g.L.Link.store c.self.inside.client.link)))
          c.self.inside.journal.events c.in_ok-sized.sized.commit.position c.in_ok-sized.sized.commit.map c.self.invariant.knows)
          c.push-in-Err.ensures.events
          ∙ ap (λ v. given_of g.T.Task.outcome v) c.self.view_is;
      task = ap (λ v. v.task) c.self.view_is;
      told = c.commit.ensures.told
          ∙ ap (λ v. g.L.Link.is_told v.link) c.self.view_is;
      count = subst (λ v. g.L.Link.faults v.link ≤ g.L.Link.faults c.commit.new.self.link)
          c.self.view_is c.commit.ensures.count;
    }
