-- One more commit is put in the place that was left for it.
use Rattle.std.proofs.Common.{◌∙◌, List, sym, ap, length, map, arith}
use Rattle.std.proofs.lemmas.List.{nil_from_length}
use Rattle.std.specs.Vec.Iter.{into_iter_items}
use Rattle.pc_model.specs.Broker.{Stored}
use Rattle.pc_offset_store.specs.Store.{put_each, stored_of}
use Rattle.pc_offset_store.specs.declared.commits.GroupCommit.{GroupCommit}
use Rattle.pc_offset_store.proofs.commits.put_all.Goals as goal

pub loop-commit-init : goal.loop-commit-init
loop-commit-init c =
    let all = c.into_iter-commit-iterator.ensures.into_iter_gives.0 in
    record {
      left = ap (λ (ss : List GroupCommit). put_each (map stored_of ss) (map stored_of c.args.commits.now.items)) all;
      room = omega (arith, ap length all, c.args.others.ok.0);
    }

pub put-requires : goal.put-requires
put-requires c = omega (arith, ap length c.in-Some.ensures.steps.0)

pub loop-commit-preserved : goal.loop-commit-preserved
loop-commit-preserved c = record {
  left = ap (λ (ts : List Stored). put_each (map stored_of (into_iter_items c.next.new.self)) ts) c.put.ensures.put
      ∙ ap (λ (ss : List GroupCommit). put_each (map stored_of ss) (map stored_of c.loop-commit.commits.items)) (sym c.in-Some.ensures.steps.0)
      ∙ c.loop-commit.invariant.left;
  room = omega (arith, ap length c.in-Some.ensures.steps.0);
}

pub returns : goal.returns
returns c =
    let left = into_iter_items c.loop-commit.commit-iterator in
    let none = nil_from_length left (omega (arith, c.loop-commit.commit-iterator.rest.ok.0, c.in-None.ensures.steps.0)) in
    ap (λ (ss : List GroupCommit). put_each (map stored_of ss) (map stored_of c.loop-commit.commits.items)) (sym none)
    ∙ c.loop-commit.invariant.left
