-- Each action has its reason.
use Rattle.std.proofs.Common.{◌≡◌, ◌∙◌, ◌&&◌, Some, true, sym, subst}
use Rattle.pc_model.specs.Epochs.{is_held}
use Rattle.pc_model.specs.Run.{is_commit_due, is_unsaved, poll_number}
use Rattle.pc_engine.specs.Engine.{given_of}
use Rattle.pc_laws.proofs.Lists.{and-left}
use Rattle.pc_drain.specs.declared.action.Action.{Action}
use Rattle.pc_drain.specs.declared.action.Action.TheVariants.{Commit, Poll, Save}
use Rattle.pc_drain.proofs.ActionLemmas.{IsReason, reason}
use Rattle.pc_drain.proofs.act.act.Goals as goal

pub commit-requires-clause-held : goal.commit-requires-clause-held
commit-requires-clause-held g c =
    let given = given_of g.T.Task.outcome c.args.engine.now in
    let h = c.args.engine.now.journal.events in
    let due : is_commit_due given h c.in-Commit.part ≡ true =
    subst (λ (a : Action). IsReason given h c.args.now c.args.last a)
    (sym c.next_action.ensures ∙ c.in-Commit.is) (reason given h c.args.now c.args.last) in
    and-left (is_held h c.in-Commit.part) _ due

pub poll-requires-clause-opened : goal.poll-requires-clause-opened
poll-requires-clause-opened g c =
    let given = given_of g.T.Task.outcome c.args.engine.now in
    let h = c.args.engine.now.journal.events in
    subst (λ (a : Action). IsReason given h c.args.now c.args.last a)
    (sym c.next_action.ensures ∙ c.in-Poll.is) (reason given h c.args.now c.args.last)

pub save-requires-clause-held : goal.save-requires-clause-held
save-requires-clause-held g c =
    let given = given_of g.T.Task.outcome c.args.engine.now in
    let h = c.args.engine.now.journal.events in
    let why : IsReason given h c.args.now c.args.last (Save c.in-Save.part) =
    subst (λ (a : Action). IsReason given h c.args.now c.args.last a)
    (sym c.next_action.ensures ∙ c.in-Save.is) (reason given h c.args.now c.args.last) in
    and-left (is_held h c.in-Save.part) _ why.2
