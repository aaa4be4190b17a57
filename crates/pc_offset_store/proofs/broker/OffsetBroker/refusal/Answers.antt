-- The membership is that of the group that was found.
use Rattle.std.proofs.Common.{◌∙◌, Some, None, Option, ℤ, w32, ap, sym, rules}
use Rattle.std.specs.Prelude.{FitsSigned}
use Rattle.std.proofs.lemmas.Int.{to_z-of_z}
use Rattle.std.specs.Option.{option_copied}
use Rattle.pc_model.specs.Broker.{Broker, Membership, membership_refusal}
use Rattle.pc_offset_store.specs.Store.{membership_of}
use Rattle.pc_offset_store.proofs.LookupLemmas.{membership_is}
use Rattle.pc_offset_store.proofs.broker.OffsetBroker.refusal.Goals as goal

pub returns-in-Some : goal.returns-in-Some
returns-in-Some c =
    let r = c.args.request.now in
    let all = ap (λ (b : Broker). b.memberships) (sym c.self.view_is) in
    let found = sym (ap option_copied c.in-Some.is) ∙ rw c.as_slice.ensures.value at c.find.ensures in
    let is = membership_is c.args.self.now c.self.inside.groups.items r.group.now (Some c.in-Some.group.now) all found in
    let fits : FitsSigned w32 r.generation = search rules in
    c.refusal.ensures
    ∙ ap (λ (g : ℤ). membership_refusal (Some (membership_of c.in-Some.group.now)) r.member.now g) (to_z-of_z w32 r.generation fits)
    ∙ ap (λ (m : Option Membership). membership_refusal m r.member.now r.generation) (sym is)

pub returns-in-None : goal.returns-in-None
returns-in-None c =
    let r = c.args.request.now in
    let all = ap (λ (b : Broker). b.memberships) (sym c.self.view_is) in
    let found = sym (ap option_copied c.in-None.is) ∙ rw c.as_slice.ensures.value at c.find.ensures in
    let is = membership_is c.args.self.now c.self.inside.groups.items r.group.now None all found in
    ap (λ (m : Option Membership). membership_refusal m r.member.now r.generation) (sym is)
