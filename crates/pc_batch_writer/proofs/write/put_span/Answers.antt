-- Four fields, one after the other.
use Rattle.std.proofs.Common.{◌≡◌, ◌++◌, pos, w16, w32, w64, OnOk, rules}
use Rattle.pc_model.specs.Messages.{int_spelling}
use Rattle.pc_batch_writer.specs.Writing.{span_spelling}
use Rattle.pc_batch_writer.proofs.WriteLemmas.{OnOk-then, four-put}
use Rattle.pc_batch_writer.proofs.write.put_span.Goals as goal

pub returns : goal.returns
unfolding span_spelling
returns c =
    let attributes : c.put_i16.new.out.items ≡ c.args.out.now.items ++ int_spelling w16 (pos 0) = search rules in
    let delta : c.put_i32.new.out.items ≡ c.put_i16.new.out.items ++ int_spelling w32 (pos c.args.delta) = search rules in
    let first : c.put_i64.new.out.items ≡ c.put_i32.new.out.items ++ int_spelling w64 c.args.first = search rules in
    let greatest : OnOk c.put_i64-2.result (c.put_i64-2.new.out.items ≡ c.put_i64.new.out.items ++ int_spelling w64 c.args.greatest) = search rules in
    OnOk-then _ _ _ (four-put _ _ _ _ _ _ _ _ _ attributes delta first) greatest
