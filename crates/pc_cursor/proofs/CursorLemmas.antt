-- Reading the batches of a log again, one after the other.
use Rattle.std.proofs.Common.{◌≡◌, ℕ, zero, suc, ◌+◌, ◌-◌, ◌<◌, ◌≤◌, List, [], ◌++◌, length, length-drop, Result, Ok, Err, refl, sym, ap, ◌∙◌, arith}
use Rattle.std.proofs.lemmas.List.{length-append}
use Rattle.pc_model.specs.Record.{Record}
use Rattle.pc_batch.specs.declared.fault.BatchFault.{BatchFault}
use Rattle.pc_batch.specs.Batch.{Placed, batch_from, given_by}
use Rattle.pc_batch.proofs.BatchLaws.{batch_from-takes}
use Rattle.pc_cursor.specs.Cursor.{and_on, front_from, records_from}

-- a batch lies inside the log, and ends further on
batch-inside : (log : List ℕ) (place : ℕ) (b : Placed) → batch_from log place ≡ Ok b
    → (place < length log) × (place < b.end)
batch-inside log place b e =
    let is = batch_from-takes log place b e in
    let long = is.is_batch.whole in (
      omega (arith, ap length is.parts, length-append is.text is.rest, length-drop place log, long),
      omega (arith, is.ends, long),
    )

on_by : (r : Result Placed BatchFault) (f g : Placed → List Record)
    → ((b : Placed) → r ≡ Ok b → f b ≡ g b) → and_on r f ≡ and_on r g
on_by (Ok b) f g same = same b refl
on_by (Err e) f g same = refl

on_none : (r : Result Placed BatchFault) (f : Placed → List Record) → ((b : Placed) → r ≡ Ok b → ⊥)
    → and_on r f ≡ []
on_none (Ok b) f none = absurd (none b refl)
on_none (Err e) f none = refl

-- more turns than bytes change nothing
front-turns : (m n : ℕ) (log : List ℕ) (place : ℕ) → length log ≤ m + place → length log ≤ n + place
    → front_from m log place ≡ front_from n log place
unfolding front_from
front-turns zero zero log place a b = refl
front-turns zero (suc n) log place a b = sym (on_none (batch_from log place) _ (λ x e. let i =
    batch-inside log place x e in absurd (omega arith)))
front-turns (suc m) zero log place a b = on_none (batch_from log place) _ (λ x e. let i =
    batch-inside log place x e in absurd (omega arith))
front-turns (suc m) (suc n) log place a b =
    on_by (batch_from log place) _ _ (λ x e. ap (λ (l : List Record). given_by x.contents
    ++ l) (front-turns m n log x.end (let i = batch-inside log place x e in
    omega arith) (let i = batch-inside log place x e in omega arith)))

front-fails : (n : ℕ) (log : List ℕ) (place : ℕ) (f : BatchFault) → batch_from log place ≡ Err f
    → front_from n log place ≡ []
unfolding front_from
front-fails zero log place f e = refl
front-fails (suc n) log place f e = rw e refl

pub front-suc : (n : ℕ) (log : List ℕ) (place : ℕ) (b : Placed) → batch_from log place ≡ Ok b
    → front_from (suc n) log place ≡ given_by b.contents ++ front_from n log b.end
unfolding front_from
front-suc n log place b e = rw e refl

front-zero : (log : List ℕ) (place : ℕ) → front_from 0 log place ≡ []
unfolding front_from
front-zero log place = refl

-- no batch stands behind the end
pub front-past : (n : ℕ) (log : List ℕ) (place : ℕ) → length log ≤ place
    → front_from n log place ≡ []
unfolding front_from
front-past zero log place le = refl
front-past (suc n) log place le = on_none (batch_from log place) _ (λ x e. let i =
    batch-inside log place x e in absurd (omega arith))

-- no batch, no records
pub from-none : (log : List ℕ) (place : ℕ) (f : BatchFault) → batch_from log place ≡ Err f
    → records_from log place ≡ []
from-none log place f e = front-fails (length log) log place f e

-- the records of a batch, and those behind it
pub from-step : (log : List ℕ) (place : ℕ) (b : Placed) → batch_from log place ≡ Ok b
    → records_from log place ≡ given_by b.contents ++ records_from log b.end
from-step log place b e =
    let i = batch-inside log place b e in
    let turns : length log ≡ suc (length log - 1) = omega arith in
    ap (λ (n : ℕ). front_from n log place) turns
    ∙ front-suc (length log - 1) log place b e
    ∙ ap (λ (l : List Record). given_by b.contents
    ++ l) (front-turns (length log - 1) (length log) log b.end (omega arith) (omega arith))
