-- The best map in each of the four cases.
use Rattle.std.proofs.Common.{◌≡◌, length, refl, sym, ap, ◌∙◌}
use Rattle.pc_model.proofs.BestMapLemmas.{map_reading-best_map, size-best_map}
use Rattle.pc_model.specs.BestMap.{BestMap}
use Rattle.pc_choice.proofs.ChoiceLemmas.{HasNoLetter-best_map, best_map-empty, best_map-fits, best_map-long, best_map-none, no_letter, no_shorter_text, spelled-some}
use Rattle.pc_choice.proofs.choice.choose.Goals as goal

pub returns-then-count-eq0-clause-letter : goal.returns-then-count-eq0-clause-letter
returns-then-count-eq0-clause-letter c =
    rw (best_map-empty c.args.bits.now c.args.limit (sym c.count.ensures.count ∙ c.if-count-eq0.true)) c.left_out.ensures.letter

pub returns-then-count-eq0-clause-text : goal.returns-then-count-eq0-clause-text
returns-then-count-eq0-clause-text c =
    rw (best_map-empty c.args.bits.now c.args.limit (sym c.count.ensures.count ∙ c.if-count-eq0.true)) c.left_out.ensures.text

pub returns-then-count-eq0-clause-size : goal.returns-then-count-eq0-clause-size
returns-then-count-eq0-clause-size c =
    rw (best_map-empty c.args.bits.now c.args.limit (sym c.count.ensures.count ∙ c.if-count-eq0.true)) c.left_out.ensures.size

pub returns-in_default-clause-letter : goal.returns-in_default-clause-letter
returns-in_default-clause-letter c =
    rw (best_map-none c.args.bits.now c.args.limit (λ (none : length c.args.bits.now ≡ 0). c.if-count-eq0.false (c.count.ensures.count ∙ none)) c.in_default.ensures) c.left_out-in_default.ensures.letter

pub returns-in_default-clause-text : goal.returns-in_default-clause-text
returns-in_default-clause-text c =
    rw (best_map-none c.args.bits.now c.args.limit (λ (none : length c.args.bits.now ≡ 0). c.if-count-eq0.false (c.count.ensures.count ∙ none)) c.in_default.ensures) c.left_out-in_default.ensures.text

pub returns-in_default-clause-size : goal.returns-in_default-clause-size
returns-in_default-clause-size c =
    rw (best_map-none c.args.bits.now c.args.limit (λ (none : length c.args.bits.now ≡ 0). c.if-count-eq0.false (c.count.ensures.count ∙ none)) c.in_default.ensures) c.left_out-in_default.ensures.size

pub returns-in_default-clause-shortest : goal.returns-in_default-clause-shortest
returns-in_default-clause-shortest c =
    no_shorter_text (λ choice. choice.size) c.args.bits.now c.args.limit c.left_out-in_default.result (rw (best_map-none c.args.bits.now c.args.limit (λ (none : length c.args.bits.now ≡ 0). c.if-count-eq0.false (c.count.ensures.count ∙ none)) c.in_default.ensures) c.left_out-in_default.ensures.size)

pub returns-then-size-limit-clause-letter : goal.returns-then-size-limit-clause-letter
returns-then-size-limit-clause-letter c =
    rw (best_map-long c.args.bits.now c.args.limit _ _ (λ (none : length c.args.bits.now ≡ 0). c.if-count-eq0.false (c.count.ensures.count ∙ none)) c.in-Some.ensures c.if-size-limit.true) c.left_out-then-size-limit.ensures.letter

pub returns-then-size-limit-clause-text : goal.returns-then-size-limit-clause-text
returns-then-size-limit-clause-text c =
    rw (best_map-long c.args.bits.now c.args.limit _ _ (λ (none : length c.args.bits.now ≡ 0). c.if-count-eq0.false (c.count.ensures.count ∙ none)) c.in-Some.ensures c.if-size-limit.true) c.left_out-then-size-limit.ensures.text

pub returns-then-size-limit-clause-size : goal.returns-then-size-limit-clause-size
returns-then-size-limit-clause-size c =
    rw (best_map-long c.args.bits.now c.args.limit _ _ (λ (none : length c.args.bits.now ≡ 0). c.if-count-eq0.false (c.count.ensures.count ∙ none)) c.in-Some.ensures c.if-size-limit.true) c.left_out-then-size-limit.ensures.size

pub returns-then-size-limit-clause-shortest : goal.returns-then-size-limit-clause-shortest
returns-then-size-limit-clause-shortest c =
    no_shorter_text (λ choice. choice.size) c.args.bits.now c.args.limit c.left_out-then-size-limit.result (rw (best_map-long c.args.bits.now c.args.limit _ _ (λ (none : length c.args.bits.now ≡ 0). c.if-count-eq0.false (c.count.ensures.count ∙ none)) c.in-Some.ensures c.if-size-limit.true) c.left_out-then-size-limit.ensures.size)

pub unreachable-requires : goal.unreachable-requires
unreachable-requires c = spelled-some c.args.bits.now c.in-Some.letter c.in-Some.size c.in-Some.ensures (rw c.in_default-2.is at c.in_ok-text.ensures)

pub returns-clause-letter : goal.returns-clause-letter
returns-clause-letter c =
    let text = rw c.in-Some-2.is at c.in_ok-text.ensures in
    sym (ap (λ (best : BestMap). best.letter) (best_map-fits c.args.bits.now c.args.limit c.in-Some.letter c.in-Some.size c.in-Some-2.text (λ (none : length c.args.bits.now ≡ 0). c.if-count-eq0.false (c.count.ensures.count ∙ none)) c.in-Some.ensures c.if-size-limit.false text))

pub returns-clause-text : goal.returns-clause-text
returns-clause-text c =
    let text = rw c.in-Some-2.is at c.in_ok-text.ensures in
    sym (ap (λ (best : BestMap). best.text) (best_map-fits c.args.bits.now c.args.limit c.in-Some.letter c.in-Some.size c.in-Some-2.text (λ (none : length c.args.bits.now ≡ 0). c.if-count-eq0.false (c.count.ensures.count ∙ none)) c.in-Some.ensures c.if-size-limit.false text))

pub returns-clause-size : goal.returns-clause-size
returns-clause-size c =
    let text = rw c.in-Some-2.is at c.in_ok-text.ensures in
    sym (ap (λ (best : BestMap). best.size) (best_map-fits c.args.bits.now c.args.limit c.in-Some.letter c.in-Some.size c.in-Some-2.text (λ (none : length c.args.bits.now ≡ 0). c.if-count-eq0.false (c.count.ensures.count ∙ none)) c.in-Some.ensures c.if-size-limit.false text))

pub returns-clause-shortest : goal.returns-clause-shortest
returns-clause-shortest c letter other is =
    let text = rw c.in-Some-2.is at c.in_ok-text.ensures in
    let best = best_map-fits c.args.bits.now c.args.limit c.in-Some.letter c.in-Some.size c.in-Some-2.text (λ (none : length c.args.bits.now ≡ 0). c.if-count-eq0.false (c.count.ensures.count ∙ none)) c.in-Some.ensures c.if-size-limit.false text in
    rw best at (size-best_map letter c.args.limit c.args.bits.now other is)

pub returns-clause-read_back : goal.returns-clause-read_back
returns-clause-read_back c base room some =
    let text = rw c.in-Some-2.is at c.in_ok-text.ensures in
    let best = best_map-fits c.args.bits.now c.args.limit c.in-Some.letter c.in-Some.size c.in-Some-2.text (λ (none : length c.args.bits.now ≡ 0). c.if-count-eq0.false (c.count.ensures.count ∙ none)) c.in-Some.ensures c.if-size-limit.false text in
    rw best at (map_reading-best_map base c.args.limit c.args.bits.now room (rw best refl))

pub returns-then-count-eq0-clause-empty : goal.returns-then-count-eq0-clause-empty
returns-then-count-eq0-clause-empty c =
    no_letter (λ choice. choice.letter) (λ choice. choice.text) c.args.bits.now c.args.limit c.left_out.result
    (returns-then-count-eq0-clause-letter c) (returns-then-count-eq0-clause-text c)

pub returns-in_default-clause-empty : goal.returns-in_default-clause-empty
returns-in_default-clause-empty c =
    no_letter (λ choice. choice.letter) (λ choice. choice.text) c.args.bits.now c.args.limit c.left_out-in_default.result
    (returns-in_default-clause-letter c) (returns-in_default-clause-text c)

pub returns-then-size-limit-clause-empty : goal.returns-then-size-limit-clause-empty
returns-then-size-limit-clause-empty c =
    no_letter (λ choice. choice.letter) (λ choice. choice.text) c.args.bits.now c.args.limit c.left_out-then-size-limit.result
    (returns-then-size-limit-clause-letter c) (returns-then-size-limit-clause-text c)

pub returns-clause-empty : goal.returns-clause-empty
returns-clause-empty c = rw (returns-clause-letter c, returns-clause-text c) (HasNoLetter-best_map c.args.bits.now c.args.limit)
