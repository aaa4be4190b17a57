-- The keys of the map are the words of the table.
use Rattle.std.proofs.Common.{Some, None, not}
use Rattle.pc_config.specs.Members.{is_key}
use Rattle.pc_config.proofs.MemberLemmas.{least-view}
use Rattle.pc_config.proofs.unknown.unknown_word.Goals as goal

pub returns-in-Some : goal.returns-in-Some
returns-in-Some c = rw c.as_str.ensures.value (least-view (λ word. not (is_key c.args.place word)) c.args.table.now.entries (Some c.in-Some.word) c.in-Some.ensures.first c.in-Some.ensures.ascend)

pub returns-in-None : goal.returns-in-None
returns-in-None c = least-view (λ word. not (is_key c.args.place word)) c.args.table.now.entries None c.in-None.ensures.first c.in-None.ensures.ascend
