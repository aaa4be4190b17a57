-- One more topic's entries stand behind the others.
use Rattle.pc_offset_wire.specs.Views.{plain_fetch_request}
use Rattle.pc_offset_store.specs.Store.{entries_of}
use Rattle.pc_offset_store.proofs.ListLemmas.{pieces-none, pieces-one}
use Rattle.pc_offset_store.proofs.entries.of.Goals as goal

pub loop-name-preserved : goal.loop-name-preserved
loop-name-preserved c =
    pieces-one (entries_of c.args.broker.now (plain_fetch_request c.args.request.now)) _ _ _ _ _ _
    c.in-Some.ensures.steps c.in_ok-put_topic.ensures c.loop-name.invariant

pub returns : goal.returns
returns c =
    pieces-none (entries_of c.args.broker.now (plain_fetch_request c.args.request.now)) _ _ _
    c.in-None.ensures.steps.0 c.loop-name.invariant
