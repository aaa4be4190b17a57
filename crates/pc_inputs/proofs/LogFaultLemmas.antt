-- A log's fault line by its words.
use Rattle.std.proofs.Common.{◌≡◌, ◌++◌, ℕ, List, Result, subst}
use Rattle.std.specs.Prelude.{OnOk}
use Rattle.pc_inputs.specs.LogFault.{log_line}

-- the line of words is that of the same words
pub on-words : {T E : Type 0} (r : Result T E) (new old name : List ℕ) (place : ℕ)
    (words words' : List (List ℕ)) → words ≡ words'
    → OnOk r (new ≡ old ++ log_line name place words)
    → OnOk r (new ≡ old ++ log_line name place words')
on-words r new old name place words words' same put =
    subst (λ (w : List (List ℕ)). OnOk r (new ≡ old ++ log_line name place w)) same put
