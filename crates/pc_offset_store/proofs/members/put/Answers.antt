-- The group stands where that of its name stood, or at the end.
use Rattle.std.proofs.Common.{refl, sym, ◌∙◌}
use Rattle.std.specs.Prelude.{bytes_eq}
use Rattle.pc_model.specs.Broker.{put_membership}
use Rattle.pc_offset_store.specs.Store.{membership_of}
use Rattle.pc_offset_store.proofs.PutLemmas.{put-found, put-new}
use Rattle.pc_offset_store.proofs.members.put.Goals as goal

pub returns-in-Some : goal.returns-in-Some
returns-in-Some c =
    let at = rw (c.as_str.ensures.value, c.as_slice.ensures.value) at c.place_of.ensures in
    put-found membership_of (λ m n. bytes_eq n.group m.group) put_membership (λ m. refl)
    (λ m n ns. refl) c.args.group c.args.groups.now.items c.in-Some.place (sym at ∙ c.in-Some.is)

pub returns-in-None : goal.returns-in-None
returns-in-None c =
    let at = rw (c.as_str.ensures.value, c.as_slice.ensures.value) at c.place_of.ensures in
    rw c.push_reserved.ensures.items
    (put-new membership_of (λ m n. bytes_eq n.group m.group) put_membership (λ m. refl)
    (λ m n ns. refl) c.args.group c.args.groups.now.items (sym at ∙ c.in-None.is))
