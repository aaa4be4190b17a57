-- What is decided of one more item stands behind the others.
use Rattle.std.proofs.Common.{◌∙◌, ◌++◌, [], ◌∷◌, List, ap, ℤ}
use Rattle.pc_model.specs.Broker.{item_code}
use Rattle.pc_model.specs.Messages.{CommitItem}
use Rattle.pc_model.specs.MessageReading.{commit_item_at}
use Rattle.pc_offset_wire.specs.Items.{items_left}
use Rattle.pc_offset_wire.specs.Views.{plain_commit_request}
use Rattle.pc_offset_store.specs.Store.{accepted_item}
use Rattle.pc_offset_store.proofs.ListLemmas.{flat-single, pieces-none, pieces-one}
use Rattle.pc_offset_store.proofs.verdict.put_topic.Goals as goal

pub loop-item-preserved : goal.loop-item-preserved
loop-item-preserved c =
    let r = plain_commit_request c.args.request.now in
    record {
      codes = pieces-one (λ (item : CommitItem). item_code c.args.broker.now r c.args.name.now item ∷ []) _ _ _ _ _ _
          c.in-Some.ensures.steps c.in_ok-put_item.ensures.codes_behind c.loop-item.invariant.codes;
      accepted = pieces-one (accepted_item c.args.broker.now r c.args.name.now) _ _ _ _ _ _
          c.in-Some.ensures.steps c.in_ok-put_item.ensures.accepted_behind c.loop-item.invariant.accepted;
    }

pub returns : goal.returns
returns c =
    let r = plain_commit_request c.args.request.now in
    let code : CommitItem → ℤ = item_code c.args.broker.now r c.args.name.now in
    record {
      codes_behind = pieces-none (λ (item : CommitItem). code item ∷ []) _ _ _ c.in-None.ensures.steps.0 c.loop-item.invariant.codes
          ∙ ap (λ (codes : List ℤ). c.args.verdict.now.codes.items ++ codes) (flat-single code (items_left commit_item_at c.args.items));
      accepted_behind = pieces-none (accepted_item c.args.broker.now r c.args.name.now) _ _ _ c.in-None.ensures.steps.0 c.loop-item.invariant.accepted;
    }
