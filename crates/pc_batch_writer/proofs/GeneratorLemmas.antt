-- One more number of the generator.
use Rattle.std.proofs.Common.{◌≡◌, ◌≢◌, ℕ, suc, ◌+◌, ◌-◌, ◌/◌, ◌%◌, ◌<◌, ◌≤◌, List, [], ◌∷◌, ◌++◌, length, map, Result, OnOk, refl, sym, ap, ◌∙◌, append_assoc, eq-eqb, ne_eqb, arith}
use Rattle.std.proofs.lemmas.List.{append-nil, length-map, map-append}
use mathlib.Core.Logic.{dite}
use native.Mathlib.Decide.{ℕ_discrete}
use Rattle.pc_batch_writer.proofs.WriteLemmas.{OnOk-then}
use Rattle.pc_model.specs.Record.{Record}
use Rattle.pc_model.specs.declared.outcome.FailRule.{FailRule}
use Rattle.pc_batch_writer.specs.declared.generator.Drawn.{Drawn}
use Rattle.pc_batch_writer.specs.Generator.{next_number, numbers_from, record_of, fails_by, batch_text, log_from, fails_from, plain_drawn}

-- the numbers to come are the next one and those after it
numbers-more : (n i x : ℕ) → i < n → numbers_from (n - i) x ≡ next_number x ∷ numbers_from (n - (i + 1)) (next_number x)
numbers-more n i x lt = let e : n - i ≡ suc (n - (i + 1)) = omega arith in ap (λ k. numbers_from k x) e

-- no numbers are left
numbers-none : (n i x : ℕ) → n ≤ i → numbers_from (n - i) x ≡ []
numbers-none n i x le = let e : n - i ≡ 0 = omega arith in ap (λ k. numbers_from k x) e

pub log-other : (part i : ℕ) (waiting : List Record) (x : ℕ) (xs : List ℕ) → i % 8 ≢ part → log_from part i waiting (x ∷ xs) ≡ log_from part (i + 1) waiting xs
unfolding log_from
log-other part i waiting x xs other = let e = ne_eqb (i % 8) part other in rw e refl

pub log-full : (part i : ℕ) (waiting : List Record) (x : ℕ) (xs : List ℕ) → i % 8 ≡ part → length waiting ≡ 99 → log_from part i waiting (x ∷ xs) ≡ batch_text (waiting ++ record_of (i / 8) x ∷ []) ++ log_from part (i + 1) [] xs
unfolding log_from
log-full part i waiting x xs own full = let e = eq-eqb (i % 8) part own in let f = eq-eqb (length waiting) 99 full in rw (e, f) refl

pub log-waits : (part i : ℕ) (waiting : List Record) (x : ℕ) (xs : List ℕ) → i % 8 ≡ part → length waiting < 99 → log_from part i waiting (x ∷ xs) ≡ log_from part (i + 1) (waiting ++ record_of (i / 8) x ∷ []) xs
unfolding log_from
log-waits part i waiting x xs own few = let e = eq-eqb (i % 8) part own in let f = ne_eqb (length waiting) 99 (λ k. omega arith) in rw (e, f) refl

pub log-ends : (part i : ℕ) (waiting : List Record) → log_from part i waiting [] ≡ batch_text waiting
unfolding log_from
log-ends part i waiting = refl

-- a batch is full
put-full : (part i number : ℕ) (others old new : List ℕ) (waiting after : List Drawn) (drawn : Drawn) → i % 8 ≡ part → length waiting ≡ 99 → plain_drawn drawn ≡ record_of (i / 8) number
    → after ≡ [] → new ≡ old ++ batch_text (map plain_drawn waiting ++ plain_drawn drawn ∷ [])
    → old ++ log_from part i (map plain_drawn waiting) (number ∷ others) ≡ new ++ log_from part (i + 1) (map plain_drawn after) others
put-full part i number others old new waiting after drawn own full is none e =
    ap (λ l. old ++ l) (log-full part i (map plain_drawn waiting) number others own (length-map waiting plain_drawn ∙ full))
    ∙ sym (append_assoc old (batch_text (map plain_drawn waiting ++ record_of (i / 8) number ∷ [])) (log_from part (i + 1) [] others))
    ∙ ap (λ (r : Record). (old ++ batch_text (map plain_drawn waiting ++ r ∷ [])) ++ log_from part (i + 1) [] others) (sym is)
    ∙ ap (λ l. l ++ log_from part (i + 1) [] others) (sym e)
    ∙ ap (λ (l : List Drawn). new ++ log_from part (i + 1) (map plain_drawn l) others) (sym none)

-- one more record waits
put-waits : (part i number : ℕ) (others old new : List ℕ) (waiting after : List Drawn) (drawn : Drawn) → i % 8 ≡ part → length waiting < 99 → plain_drawn drawn ≡ record_of (i / 8) number
    → new ≡ old → after ≡ waiting ++ drawn ∷ []
    → old ++ log_from part i (map plain_drawn waiting) (number ∷ others) ≡ new ++ log_from part (i + 1) (map plain_drawn after) others
put-waits part i number others old new waiting after drawn own few is same e =
    let short : length (map plain_drawn waiting) < 99 = let k = length-map waiting plain_drawn in omega arith in
    ap (λ l. old ++ l) (log-waits part i (map plain_drawn waiting) number others own short)
    ∙ ap (λ (r : Record). old ++ log_from part (i + 1) (map plain_drawn waiting ++ r ∷ []) others) (sym is)
    ∙ ap (λ (l : List Record). old ++ log_from part (i + 1) l others) (sym (ap (map plain_drawn) e ∙ map-append plain_drawn waiting (drawn ∷ [])))
    ∙ ap (λ l. l ++ log_from part (i + 1) (map plain_drawn after) others) (sym same)

pub fails-other : (i x : ℕ) (xs : List ℕ) → fails_by x ≢ 0 → fails_from i (x ∷ xs) ≡ fails_from (i + 1) xs
unfolding fails_from
fails-other i x xs other = let e = ne_eqb (fails_by x) 0 other in rw e refl

pub fails-own : (i x : ℕ) (xs : List ℕ) (old new : List FailRule) → fails_by x ≡ 0 → new ≡ old ++ record { part = i % 8; offset = i / 8; times = 1 } ∷ [] → old ++ fails_from i (x ∷ xs) ≡ new ++ fails_from (i + 1) xs
unfolding fails_from
fails-own i x xs old new own e =
    let k = eq-eqb (fails_by x) 0 own in rw (k, e) (sym (append_assoc old (record { part = i % 8; offset = i / 8; times = 1 } ∷ []) (fails_from (i + 1) xs)))

fails-none : (i : ℕ) → fails_from i [] ≡ []
unfolding fails_from
fails-none i = refl

-- ---- one number more in a loop

pub fails-step : (n i x y : ℕ) (old new all : List FailRule) → i < n → y ≡ next_number x → ((others : List ℕ) → old ++ fails_from i (y ∷ others) ≡ new ++ fails_from (i + 1) others)
    → old ++ fails_from i (numbers_from (n - i) x) ≡ all → new ++ fails_from (i + 1) (numbers_from (n - (i + 1)) y) ≡ all
fails-step n i x y old new all lt is goes_on e =
    sym (goes_on (numbers_from (n - (i + 1)) y))
    ∙ ap (λ z. old ++ fails_from i (z ∷ numbers_from (n - (i + 1)) z)) is
    ∙ ap (λ l. old ++ fails_from i l) (sym (numbers-more n i x lt))
    ∙ e

pub fails-done : (n i x : ℕ) (old all : List FailRule) → n ≤ i → old ++ fails_from i (numbers_from (n - i) x) ≡ all → old ≡ all
fails-done n i x old all le e = sym (append-nil old) ∙ ap (λ l. old ++ l) (sym (fails-none i)) ∙ ap (λ l. old ++ fails_from i l) (sym (numbers-none n i x le)) ∙ e

pub log-step : (part n i x y : ℕ) (old new all : List ℕ) (waiting after : List Record) → i < n → y ≡ next_number x
    → ((others : List ℕ) → old ++ log_from part i waiting (y ∷ others) ≡ new ++ log_from part (i + 1) after others)
    → old ++ log_from part i waiting (numbers_from (n - i) x) ≡ all → new ++ log_from part (i + 1) after (numbers_from (n - (i + 1)) y) ≡ all
log-step part n i x y old new all waiting after lt is goes_on e =
    sym (goes_on (numbers_from (n - (i + 1)) y))
    ∙ ap (λ z. old ++ log_from part i waiting (z ∷ numbers_from (n - (i + 1)) z)) is
    ∙ ap (λ l. old ++ log_from part i waiting l) (sym (numbers-more n i x lt))
    ∙ e

pub log-done : (part n i x : ℕ) (old new all : List ℕ) (waiting : List Record) → n ≤ i → new ≡ old ++ batch_text waiting → old ++ log_from part i waiting (numbers_from (n - i) x) ≡ all → new ≡ all
log-done part n i x old new all waiting le put e =
    put ∙ ap (λ l. old ++ l) (sym (log-ends part i waiting)) ∙ ap (λ l. old ++ log_from part i waiting l) (sym (numbers-none n i x le)) ∙ e

-- the record joins those that wait, or they are written
pub put-either : {E : Type 0} (r : Result (Unit {0}) E) (part i number n : ℕ) (old new : List ℕ) (waiting after : List Drawn) (drawn : Drawn) → i % 8 ≡ part → n ≡ length waiting → n < 100 → plain_drawn drawn ≡ record_of (i / 8) number
    → (n ≡ 99 → OnOk r ((after ≡ []) × (new ≡ old ++ batch_text (map plain_drawn waiting ++ plain_drawn drawn ∷ []))))
    → (n < 99 → OnOk r ((new ≡ old) × (after ≡ waiting ++ drawn ∷ [])))
    → OnOk r ((others : List ℕ) → old ++ log_from part i (map plain_drawn waiting) (number ∷ others) ≡ new ++ log_from part (i + 1) (map plain_drawn after) others)
put-either r part i number n old new waiting after drawn own long few is full waits =
    dite (ℕ_discrete n 99)
    (λ e. OnOk-then r _ _ (λ h others. put-full part i number others old new waiting after drawn own (sym long ∙ e) is h.0 h.1) (full e))
    (λ ne. OnOk-then r _ _ (λ h others. put-waits part i number others old new waiting after drawn own (omega arith) is h.0 h.1) (waits (omega arith)))
