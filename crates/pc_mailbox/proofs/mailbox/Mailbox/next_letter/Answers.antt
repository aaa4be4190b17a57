-- The inbox takes what is in front.
use Rattle.std.proofs.Common.{rules}
use Rattle.pc_mailbox.proofs.DeliveryLemmas.{takes, next-taken-some}
use Rattle.pc_mailbox.proofs.mailbox.Mailbox.next_letter.Goals as goal

pub pop_as-requires-clause-rule : goal.pop_as-requires-clause-rule
pop_as-requires-clause-rule g c = (takes _ _ _ _ c.inbox.invariant.0, λ _ _ _ _. tt)

pub returns-clause-next : goal.returns-clause-next
returns-clause-next g c =
    next-taken-some c.args.inbox.now _ c.inbox.inside.pass.me.view.client c.pop_as.new.pass.me.view.client c.pop_as.result _ _ (search rules) (search rules) (search rules) c.pop_as.ensures.rule
