-- The commit is that of the entry that was found.
use Rattle.std.proofs.Common.{◌∙◌, Some, None, ap, sym, subst}
use Rattle.std.specs.Option.{option_copied}
use Rattle.pc_model.specs.Broker.{Broker}
use Rattle.pc_world.specs.World.{AreStorable}
use Rattle.pc_offset_store.proofs.LookupLemmas.{stored_is, storable}
use Rattle.pc_offset_store.proofs.broker.OffsetBroker.stored.Goals as goal

pub returns-in-Some : goal.returns-in-Some
returns-in-Some c =
    let b = c.args.self.now in
    let all = ap (λ (b : Broker). b.commits) (sym c.self.view_is) in
    let found = sym (ap option_copied c.in-Some.is) ∙ rw c.as_slice.ensures.value at c.find.ensures in
    let is = stored_is b c.self.inside.commits.items c.args.group.now c.args.part (Some c.in-Some.stored.now) all found in
    record {
      value = sym is;
      storable = storable b c.args.group.now c.args.part c.in-Some.stored.now.commit
          (subst AreStorable c.self.view_is c.self.invariant) is;
    }

pub returns-in-None : goal.returns-in-None
returns-in-None c =
    let all = ap (λ (b : Broker). b.commits) (sym c.self.view_is) in
    let found = sym (ap option_copied c.in-None.is) ∙ rw c.as_slice.ensures.value at c.find.ensures in
    let is = stored_is c.args.self.now c.self.inside.commits.items c.args.group.now c.args.part None all found in
    record { value = sym is; storable = tt }
