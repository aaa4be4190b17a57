-- A word that could not be put leaves what was there before the line.
use Rattle.std.proofs.Common.{◌≡◌, ℕ, ◌≤◌, ◌++◌, ◌∷◌, [], List, length, take, vec_len, refl, sym, ap, ◌∙◌, append_assoc, arith}
use Rattle.std.specs.Prelude.{map}
use Rattle.std.proofs.lemmas.Result.{err_from_is_err_and}
use Rattle.std.proofs.lemmas.List.{take-take, take_at, length-append}
use Rattle.pc_print.specs.Line.{spaced}
use Rattle.pc_print.specs.Word.{word_text}
use Rattle.pc_print.proofs.word.put_words.Goals as goal

-- what keeps a longer front keeps a shorter one
front : (old tail now : List ℕ) (n : ℕ) → n ≡ length (old ++ tail) → take n now ≡ old ++ tail → take (length old) now ≡ old
front old tail now n len kept =
    let within : length old ≤ n = omega (arith, len, length-append old tail) in
    sym (take-take (length old) n now within) ∙ ap (take (length old)) kept ∙ take_at old tail (length old) refl

pub returns-in_err-put_word-clause-err : goal.returns-in_err-put_word-clause-err
returns-in_err-put_word-clause-err c =
    let p = err_from_is_err_and c.from_residual-in_err-put_word.result c.from_residual-in_err-put_word.ensures.1 in
    let old = c.args.out.now.items in
    let so_far = spaced (c.args.first.now ∷ map word_text (take c.loop-word.word-index c.args.others.now)) in
    let pushed : c.push.new.self.items ≡ old ++ (so_far ++ 32 ∷ []) = c.in_ok-push.ensures.items ∙ ap (λ (t : List ℕ). t ++ 32 ∷ []) c.loop-word.invariant ∙ append_assoc old so_far (32 ∷ []) in
    let kept = front old (so_far ++ 32 ∷ []) c.put_word.new.out.items (vec_len c.push.new.self) (c.push.new.self.ok.0 ∙ ap length pushed) (c.in_err-put_word.ensures.err ∙ pushed) in
    rw p.1 (ap (λ (n : ℕ). take n c.put_word.new.out.items) c.args.out.now.ok.0 ∙ kept)
