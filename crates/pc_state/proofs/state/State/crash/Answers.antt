-- Each part's epoch is small, and no part has an entry afterwards.
use Rattle.std.proofs.Common.{◌<◌, ℕ, List, length, get_or, refl, sym, subst, ◌∙◌, ap}
use Rattle.std.specs.Vec.{with_items}
use Rattle.std.proofs.lemmas.List.{with_items_is}
use Rattle.pc_state.specs.declared.part.PartState.{PartState}
use Rattle.pc_state.specs.State.{AreReleased}
use Rattle.pc_state.proofs.ReleaseLemmas.{epochs-small, knows-crashed}
use Rattle.pc_state.proofs.state.State.crash.Goals as goal

pub release_all-requires : goal.release_all-requires
release_all-requires c = subst
    (λ (xs : List PartState). (p : ℕ) (d : PartState) → p < length xs
    → (get_or xs p d).epoch < 4000001) (sym c.deref_mut.ensures.value)
    (epochs-small c.requires.0 c.requires.1 c.args.self.now c.requires.2)

pub returns : goal.returns
returns c = λ given h knows may. knows-crashed given h c.args.self.now
    (record {
      setup = c.args.self.now.setup;
      logs = c.args.self.now.logs;
      parts = with_items c.args.self.now.parts c.release_all.new.parts;
      shards = c.clear.new.self;
      retries = c.clear-2.new.self;
      jobs = c.args.self.now.jobs;
      clock = c.args.self.now.clock;
      dispatched = c.args.self.now.dispatched;
      last = c.args.self.now.last;
      ledger = c.crash.new.self;
    })
    knows
    (record {
      setup = refl;
      logs = refl;
      parts = subst (λ (xs : List PartState). AreReleased c.args.self.now.parts.items xs)
          (sym (with_items_is c.args.self.now.parts c.release_all.new.parts
          (c.release_all.ensures.count ∙ ap length c.deref_mut.ensures.value
          ∙ sym c.args.self.now.parts.ok.0)))
          (subst (λ (xs : List PartState). AreReleased xs c.release_all.new.parts)
          c.deref_mut.ensures.value c.release_all.ensures);
      order = c.clear.ensures.order;
      empty = c.clear.ensures.empty;
      retries = c.clear-2.ensures.retries;
      room = c.clear-2.ensures.room;
      jobs = refl;
      clock = refl;
      dispatched = refl;
      last = refl;
    })
    may (c.crash.ensures given h knows.ledger)
