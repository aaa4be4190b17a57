use Rattle.std.proofs.Common.{◌≡◌, ◌++◌, w32, w64, rules}
use Rattle.std.specs.Prelude.{FitsSigned}
use Rattle.std.specs.Option.{option_copied}
use Rattle.pc_model.specs.Messages.{int_spelling, header_spelling, IsNullable}
use Rattle.pc_model.specs.declared.api.TheConstants.{OFFSET_COMMIT, OFFSET_COMMIT_VERSION}
use Rattle.pc_offset_wire.specs.Writing.{commit_message}
use Rattle.pc_offset_wire.proofs.WritingLemmas.{commit_request-put}
use Rattle.pc_offset_wire.proofs.commit_writing.put_commit_request.Goals as goal

pub returns : goal.returns
returns c =
    let m = commit_message c.args.correlation (option_copied c.args.client) c.args.group.now c.args.generation c.args.member.now c.args.retention c.args.topics.now in
    let correlation : FitsSigned w32 c.args.correlation = search rules in
    let generation : FitsSigned w32 c.args.generation = search rules in
    let retention : FitsSigned w64 c.args.retention = search rules in
    let head : (c.put_header.new.out.items ≡ c.args.out.now.items ++ header_spelling OFFSET_COMMIT OFFSET_COMMIT_VERSION c.args.correlation (option_copied c.args.client)) × IsNullable (option_copied c.args.client) = search rules in
    let third : c.put_i32.new.out.items ≡ c.put_string.new.out.items ++ int_spelling w32 c.args.generation = search rules in
    let fifth : c.put_i64.new.out.items ≡ c.put_string-2.new.out.items ++ int_spelling w64 c.args.retention = search rules in
    commit_request-put _ m _ _ _ _ _ _ _ correlation generation retention head c.in_ok-put_string.ensures third c.in_ok-put_string-2.ensures fifth c.put_array.ensures
