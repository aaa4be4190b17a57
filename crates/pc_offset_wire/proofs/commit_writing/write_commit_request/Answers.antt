use Rattle.std.proofs.Common.{◌≡◌, ℤ, [], w32, w64, refl, rules, subst}
use Rattle.std.specs.Prelude.{FitsSigned}
use Rattle.std.specs.Int.{cast_signed, cast_unsigned}
use Rattle.std.specs.Option.{option_copied}
use Rattle.std.proofs.lemmas.Int.{to_z-of_z}
use Rattle.pc_model.specs.Messages.{IsFrame}
use Rattle.pc_offset_wire.specs.Writing.{commit_message}
use Rattle.pc_offset_wire.proofs.WritingLemmas.{framed, is_commit_request}
use Rattle.pc_offset_wire.proofs.commit_writing.write_commit_request.Goals as goal

pub returns-clause-frame : goal.returns-clause-frame
returns-clause-frame c =
    let message = λ (x y z : ℤ). commit_message x (option_copied c.args.client) c.args.group.now y c.args.member.now z c.args.topics.now in
    let correlation : FitsSigned w32 c.args.correlation = search rules in
    let generation : FitsSigned w32 c.args.generation = search rules in
    let retention : FitsSigned w64 c.args.retention = search rules in
    let m = message c.args.correlation c.args.generation c.args.retention in
    let passed = message (cast_signed w32 (cast_unsigned w32 c.args.correlation)) (cast_signed w32 (cast_unsigned w32 c.args.generation)) (cast_signed w64 (cast_unsigned w64 c.args.retention)) in
    let same : passed ≡ m = rw (to_z-of_z w32 c.args.correlation correlation, to_z-of_z w32 c.args.generation generation, to_z-of_z w64 c.args.retention retention) refl in
    let empty : c.new-body.result.items ≡ [] = search rules in
    framed (λ f. f.items) c.frame_of.result _ _ c.frame_of.ensures.frame (λ f spelled. is_commit_request m passed f.items _ _ same empty c.in_ok-put_commit_request.ensures (subst (IsFrame f.items) c.deref.ensures.value spelled))
