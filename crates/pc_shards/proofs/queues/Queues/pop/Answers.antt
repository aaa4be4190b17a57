-- Only the queue of the key changes, and it is taken out where it is empty.
use Rattle.std.proofs.Common.{◌≡◌, ℕ, List, drop, slice_get, Option, Some, None, is_some, false, sym, ap, ◌∙◌}
use Rattle.pc_shards.proofs.QueuesLemmas.{empty-first, front-first, look-found, look-others, look-updated}
use Rattle.pc_shards.proofs.queues.Queues.pop.Goals as goal

pub returns-else-is_none-clause-next : goal.returns-else-is_none-clause-next
returns-else-is_none-clause-next c =
    let wrote = (c.get_mut.follows.holds c.pop_front-next.new.self).3
    (ap (λ o. is_some o) (sym c.in_ok-queue.ensures.value)) in
    let new = look-updated (λ q. q.items) c.args.self.now.map
    (c.get_mut.follows.lender c.pop_front-next.new.self) c.args.key
    (Some c.pop_front-next.new.self) wrote in
    c.copied-next.ensures ∙ front-first c.pop_front-next.new.self.items c.front.result
    c.front.ensures.item
    ∙ ap (λ (xs : List ℕ). slice_get xs 0) (sym new)

pub returns-else-is_none-clause-queue : goal.returns-else-is_none-clause-queue
returns-else-is_none-clause-queue c =
    let wrote = (c.get_mut.follows.holds c.pop_front-next.new.self).3
    (ap (λ o. is_some o) (sym c.in_ok-queue.ensures.value)) in
    let new = look-updated (λ q. q.items) c.args.self.now.map
    (c.get_mut.follows.lender c.pop_front-next.new.self) c.args.key
    (Some c.pop_front-next.new.self) wrote in
    let had = look-found (λ q. q.items) c.args.self.now.map c.args.key
    (Some c.in_ok-queue.queue.now)
    (sym c.in_ok-queue.ensures.value) in
    new ∙ c.pop_front-next.ensures.rest ∙ ap (λ (xs : List ℕ). drop 1 xs) (sym had)

pub returns-else-is_none-clause-others : goal.returns-else-is_none-clause-others
returns-else-is_none-clause-others c = look-others (λ q. q.items) c.args.self.now.map
    (c.get_mut.follows.lender c.pop_front-next.new.self) c.args.key (Some c.pop_front-next.new.self)
    ((c.get_mut.follows.holds c.pop_front-next.new.self).3
    (ap (λ o. is_some o) (sym c.in_ok-queue.ensures.value)))

pub returns-then-is_none-clause-queue : goal.returns-then-is_none-clause-queue
returns-then-is_none-clause-queue c =
    let none : is_some c.copied-next.result ≡ false = c.if-is_none.ensures in
    let first = c.copied-next.ensures ∙ front-first c.pop_front-next.new.self.items c.front.result
    c.front.ensures.item in
    let had = look-found (λ q. q.items) c.args.self.now.map c.args.key
    (Some c.in_ok-queue.queue.now)
    (sym c.in_ok-queue.ensures.value) in
    look-updated (λ q. q.items) (c.get_mut.follows.lender c.pop_front-next.new.self)
    c.swap_remove.new.self
    c.args.key None c.swap_remove.ensures.updates
    ∙ sym (empty-first c.pop_front-next.new.self.items
    (ap (λ (o : Option ℕ). is_some o) (sym first) ∙ none))
    ∙ c.pop_front-next.ensures.rest ∙ ap (λ (xs : List ℕ). drop 1 xs) (sym had)

pub returns-then-is_none-clause-others : goal.returns-then-is_none-clause-others
returns-then-is_none-clause-others c = λ k other. look-others (λ q. q.items)
    (c.get_mut.follows.lender c.pop_front-next.new.self) c.swap_remove.new.self c.args.key None
    c.swap_remove.ensures.updates k other
    ∙ look-others (λ q. q.items) c.args.self.now.map
    (c.get_mut.follows.lender c.pop_front-next.new.self) c.args.key (Some c.pop_front-next.new.self)
    ((c.get_mut.follows.holds c.pop_front-next.new.self).3
    (ap (λ o. is_some o) (sym c.in_ok-queue.ensures.value))) k other
