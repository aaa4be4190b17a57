-- One more entry stands behind the others.
use Rattle.std.proofs.Common.{◌≡◌, ◌∙◌, ◌++◌, [], ◌∷◌, List, map, ap, ℤ, w32, rules}
use Rattle.std.specs.Prelude.{FitsSigned}
use Rattle.std.proofs.lemmas.Int.{to_z-of_z}
use Rattle.std.proofs.lemmas.List.{map-append}
use Rattle.pc_model.specs.Broker.{fetch_entry}
use Rattle.pc_model.specs.Messages.{FetchEntry}
use Rattle.pc_model.specs.MessageReading.{part_id_at}
use Rattle.pc_offset_wire.specs.Items.{items_left}
use Rattle.pc_offset_wire.specs.Views.{plain_fetch_entry}
use Rattle.pc_offset_store.proofs.ListLemmas.{flat-single, pieces-none, pieces-one}
use Rattle.pc_offset_store.proofs.entries.put_topic.Goals as goal

pub loop-part-preserved : goal.loop-part-preserved
loop-part-preserved c =
    let entry : ℤ → FetchEntry = fetch_entry c.args.broker.now c.args.group.now c.args.name.now in
    let now = map plain_fetch_entry c.loop-part.entries.items in
    let fits : FitsSigned w32 c.in-Some.part = search rules in
    let put : map plain_fetch_entry c.push.new.self.items ≡ now ++ entry c.in-Some.part ∷ [] =
    ap (map plain_fetch_entry) c.in_ok-push.ensures.items
    ∙ map-append plain_fetch_entry c.loop-part.entries.items (c.entry_of.result ∷ [])
    ∙ ap (λ (e : FetchEntry). now ++ e ∷ []) (c.entry_of.ensures ∙ ap entry (to_z-of_z w32 c.in-Some.part fits)) in
    pieces-one (λ part. entry part ∷ []) _ _ _ _ _ c.in-Some.part c.in-Some.ensures.steps put c.loop-part.invariant

pub returns : goal.returns
returns c =
    let entry : ℤ → FetchEntry = fetch_entry c.args.broker.now c.args.group.now c.args.name.now in
    let start = map plain_fetch_entry c.args.entries.now.items in
    pieces-none (λ part. entry part ∷ []) _ _ _ c.in-None.ensures.steps.0 c.loop-part.invariant
    ∙ ap (λ (es : List FetchEntry). start ++ es) (flat-single entry (items_left part_id_at c.args.parts))
