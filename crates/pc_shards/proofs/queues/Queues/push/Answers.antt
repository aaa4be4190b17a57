-- Only the queue of the key changes.
use Rattle.std.proofs.Common.{Some, is_some, sym, ap, ◌∙◌}
use Rattle.pc_shards.proofs.Lists.{on_err}
use Rattle.pc_shards.proofs.QueuesLemmas.{look, look-found, look-others, look-stays}
use Rattle.pc_shards.proofs.queues.Queues.push.Goals as goal

pub returns-in_err-push_back-clause-stays : goal.returns-in_err-push_back-clause-stays
returns-in_err-push_back-clause-stays c =
    let wrote = (c.get_mut.follows.holds c.push_back.new.self).3
    (ap (λ o. is_some o) (sym c.in-Some.ensures.value)) in
    let had = look-found (λ q. q.items) c.args.self.now.map c.args.key (Some c.in-Some.queue.now)
    (sym c.in-Some.ensures.value) in
    on_err c.from_residual.result (look-stays (λ q. q.items) c.args.self.now.map
    (c.get_mut.follows.lender c.push_back.new.self) c.args.key (Some c.push_back.new.self) wrote
    (c.in_err-push_back.ensures.items ∙ sym had))

pub returns-in-Some-clause-others : goal.returns-in-Some-clause-others
returns-in-Some-clause-others c = look-others (λ q. q.items) c.args.self.now.map
    (c.get_mut.follows.lender c.push_back.new.self) c.args.key (Some c.push_back.new.self)
    ((c.get_mut.follows.holds c.push_back.new.self).3
    (ap (λ o. is_some o) (sym c.in-Some.ensures.value)))

pub returns-clause-others : goal.returns-clause-others
returns-clause-others c = λ k other.
    look-others (λ q. q.items) c.get_mut.follows.lender-at-none c.insert.new.self c.args.key _
    c.in_ok-insert.ensures.updates k other
    ∙ ap (λ m. look (λ q. q.items) m k) c.get_mut.follows.holds-at-none
