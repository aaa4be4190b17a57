-- The entry is one of the reply's.
use Rattle.std.proofs.Common.{sym, subst}
use Rattle.pc_model.specs.Messages.{AreTopics, IsEntry}
use Rattle.pc_offset_client.proofs.ClientLaws.{only_item-is}
use Rattle.pc_offset_client.proofs.answer.entry_in.Goals as goal

pub returns-clause-text : goal.returns-clause-text
returns-clause-text c = (only_item-is IsEntry _ _
    (subst (AreTopics IsEntry) (sym c.topics.ensures) c.in_ok-reply.ensures.found.topics)
    c.in_ok-found.ensures.ok).metadata
