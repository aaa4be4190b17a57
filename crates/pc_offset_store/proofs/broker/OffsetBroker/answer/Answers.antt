-- Each clause is a part of how the frame was answered.
use Rattle.pc_offset_store.proofs.FrameLemmas.{answer-known, answer-long, answer-short, answer-stays, answer-step, answer-unread}
use Rattle.pc_offset_store.proofs.broker.OffsetBroker.answer.Goals as goal

pub returns-then-is_fetch : goal.returns-then-is_fetch
returns-then-is_fetch c = record {
  step = answer-step (λ v. v.items) c.answer_fetches.result c.args.frame.now c.args.self.now c.answer_fetches.new.self c.answer_fetches.ensures.answer;
  unread = answer-unread (λ v. v.items) c.answer_fetches.result c.args.frame.now c.args.self.now c.answer_fetches.new.self c.answer_fetches.ensures.answer;
  too_long = answer-long (λ v. v.items) c.answer_fetches.result c.args.frame.now c.args.self.now c.answer_fetches.new.self c.answer_fetches.ensures.answer;
  known = answer-known (λ v. v.items) c.answer_fetches.result c.args.frame.now c.args.self.now c.answer_fetches.new.self c.answer_fetches.ensures.answer;
  stays = answer-stays (λ v. v.items) c.answer_fetches.result c.args.frame.now c.args.self.now c.answer_fetches.new.self c.answer_fetches.ensures.answer;
  storable = c.answer_fetches.ensures.storable;
  short = answer-short (λ v. v.items) c.answer_fetches.result c.args.frame.now c.args.self.now c.answer_fetches.new.self c.answer_fetches.ensures.answer;
}

pub returns-else-is_fetch : goal.returns-else-is_fetch
returns-else-is_fetch c = record {
  step = answer-step (λ v. v.items) c.answer_commits.result c.args.frame.now c.args.self.now c.answer_commits.new.self c.answer_commits.ensures.answer;
  unread = answer-unread (λ v. v.items) c.answer_commits.result c.args.frame.now c.args.self.now c.answer_commits.new.self c.answer_commits.ensures.answer;
  too_long = answer-long (λ v. v.items) c.answer_commits.result c.args.frame.now c.args.self.now c.answer_commits.new.self c.answer_commits.ensures.answer;
  known = answer-known (λ v. v.items) c.answer_commits.result c.args.frame.now c.args.self.now c.answer_commits.new.self c.answer_commits.ensures.answer;
  stays = answer-stays (λ v. v.items) c.answer_commits.result c.args.frame.now c.args.self.now c.answer_commits.new.self c.answer_commits.ensures.answer;
  storable = c.answer_commits.ensures.storable;
  short = answer-short (λ v. v.items) c.answer_commits.result c.args.frame.now c.args.self.now c.answer_commits.new.self c.answer_commits.ensures.answer;
}
