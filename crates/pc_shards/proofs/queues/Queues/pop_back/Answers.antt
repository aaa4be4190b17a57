-- Only the queue of the key changes, and it is taken out where it is empty.
use Rattle.std.proofs.Common.{Some, None, is_some, ap, sym, ◌∙◌}
use Rattle.pc_shards.proofs.QueuesLemmas.{look-others}
use Rattle.pc_shards.proofs.queues.Queues.pop_back.Goals as goal

pub returns-else-is_empty-clause-others : goal.returns-else-is_empty-clause-others
returns-else-is_empty-clause-others c = look-others (λ q. q.items) c.args.self.now.map
    (c.get_mut.follows.lender c.pop_back.new.self) c.args.key (Some c.pop_back.new.self)
    ((c.get_mut.follows.holds c.pop_back.new.self).3
    (ap (λ o. is_some o) (sym c.in-Some.ensures.value)))

pub returns-then-is_empty-clause-others : goal.returns-then-is_empty-clause-others
returns-then-is_empty-clause-others c = λ k other. look-others (λ q. q.items)
    (c.get_mut.follows.lender c.pop_back.new.self) c.swap_remove.new.self c.args.key None
    c.swap_remove.ensures.updates k other
    ∙ look-others (λ q. q.items) c.args.self.now.map
    (c.get_mut.follows.lender c.pop_back.new.self) c.args.key (Some c.pop_back.new.self)
    ((c.get_mut.follows.holds c.pop_back.new.self).3
    (ap (λ o. is_some o) (sym c.in-Some.ensures.value))) k other
