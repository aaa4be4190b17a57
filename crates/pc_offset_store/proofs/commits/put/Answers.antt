-- The commit stands where that of its group and part stood, or at the end.
use Rattle.std.proofs.Common.{refl, sym, ◌∙◌}
use Rattle.pc_model.specs.Broker.{is_for, put_stored}
use Rattle.pc_offset_store.specs.Store.{stored_of}
use Rattle.pc_offset_store.proofs.PutLemmas.{put-found, put-new}
use Rattle.pc_offset_store.proofs.commits.put.Goals as goal

pub returns-in-Some-clause-put : goal.returns-in-Some-clause-put
returns-in-Some-clause-put c =
    let at = rw (c.as_str.ensures.value, c.as_slice.ensures.value) at c.place_of.ensures in
    put-found stored_of (λ s t. is_for s.group s.part t) put_stored (λ s. refl) (λ s t ts. refl)
    c.args.commit c.args.commits.now.items c.in-Some.place (sym at ∙ c.in-Some.is)

pub returns-in-None-clause-put : goal.returns-in-None-clause-put
returns-in-None-clause-put c =
    let at = rw (c.as_str.ensures.value, c.as_slice.ensures.value) at c.place_of.ensures in
    rw c.push_reserved.ensures.items
    (put-new stored_of (λ s t. is_for s.group s.part t) put_stored (λ s. refl) (λ s t ts. refl)
    c.args.commit c.args.commits.now.items (sym at ∙ c.in-None.is))
