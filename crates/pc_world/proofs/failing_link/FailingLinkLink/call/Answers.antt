use Rattle.std.proofs.Common.{sym, subst}
use Rattle.pc_model.specs.Broker.{request_reading}
use Rattle.pc_world.specs.World.{MayStore}
use Rattle.pc_world.proofs.LinkLemmas.{MayStore-none, MayStore-all}
use Rattle.pc_world.proofs.failing_link.FailingLinkLink.call.Goals as goal

pub returns-then-next_fails-clause-may_store : goal.returns-then-next_fails-clause-may_store
returns-then-next_fails-clause-may_store g c = λ told failed.
    subst (λ l. MayStore (request_reading c.args.frame.now) (g.L.Link.store c.args.self.now.link) (g.L.Link.store l))
    (sym c.fail.ensures.link) (MayStore-none _ (g.L.Link.store c.args.self.now.link) c.requires.reads)

pub returns-in-Ok-2-clause-may_store : goal.returns-in-Ok-2-clause-may_store
returns-in-Ok-2-clause-may_store g c = λ told failed.
    subst (λ l. MayStore (request_reading c.args.frame.now) (g.L.Link.store c.args.self.now.link) (g.L.Link.store l))
    (sym c.fail-in-Ok-2.ensures.link)
    (MayStore-all _ _ _ _ (c.in-Ok-2.ensures.answered told))
