-- What is decided of one more topic stands behind the others.
use Rattle.pc_offset_wire.specs.Views.{plain_commit_request}
use Rattle.pc_offset_store.specs.Store.{accepted_of, codes_of}
use Rattle.pc_offset_store.proofs.ListLemmas.{pieces-none, pieces-one}
use Rattle.pc_offset_store.proofs.verdict.of.Goals as goal

pub loop-name-preserved : goal.loop-name-preserved
loop-name-preserved c =
    let r = plain_commit_request c.args.request.now in
    record {
      codes = pieces-one (codes_of c.args.broker.now r) _ _ _ _ _ _ c.in-Some.ensures.steps
          c.in_ok-put_topic.ensures.codes_behind c.loop-name.invariant.codes;
      accepted = pieces-one (accepted_of c.args.broker.now r) _ _ _ _ _ _ c.in-Some.ensures.steps
          c.in_ok-put_topic.ensures.accepted_behind c.loop-name.invariant.accepted;
    }

pub returns : goal.returns
returns c =
    let r = plain_commit_request c.args.request.now in
    record {
      codes = pieces-none (codes_of c.args.broker.now r) _ _ _ c.in-None.ensures.steps.0 c.loop-name.invariant.codes;
      accepted = pieces-none (accepted_of c.args.broker.now r) _ _ _ c.in-None.ensures.steps.0 c.loop-name.invariant.accepted;
    }
