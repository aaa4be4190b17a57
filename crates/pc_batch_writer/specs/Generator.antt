-- The logs of a run over made-up records, and the records that fail in it.
use Rattle.std.specs.Prelude.{◌≡◌, ℕ, zero, suc, ◌+◌, ◌*◌, ◌/◌, ◌%◌, ◌^◌, pos, List, [], ◌∷◌, ◌++◌, length, replicate, Some, Result, Ok, Err, decimal, string_bytes, ◌==◌, if◌then◌else◌}
use Rattle.std.specs.List.{flat_map, AllByRecursion}
use Rattle.pc_model.specs.Record.{Record}
use Rattle.pc_batch.specs.Batch.{Contents, IsBatch, given_by}
use Rattle.pc_model.specs.declared.outcome.FailRule.{FailRule}
use Rattle.pc_batch_writer.specs.declared.fault.WriteFault.{WriteFault}
use Rattle.pc_batch_writer.specs.declared.generator.Drawn.{Drawn}
use Rattle.pc_batch_writer.specs.Writing.{written_of}

-- the next number of a linear congruential generator of 64 bits
abbrev pub next_number : ℕ → ℕ
next_number x = (x * 6364136223846793005 + 1442695040888963407) % 2 ^ 64

-- the n numbers after a seed
abbrev pub numbers_from : ℕ → ℕ → List ℕ
numbers_from zero x = []
numbers_from (suc n) x = next_number x ∷ numbers_from n (next_number x)

-- the key is a k and a decimal below 1000
abbrev pub key_of : ℕ → List ℕ
key_of x = 107 ∷ decimal (x / 2 ^ 33 % 1000)

-- the value is up to 63 bytes, each the same letter
abbrev pub value_of : ℕ → List ℕ
value_of x = replicate (x / 2 ^ 20 % 64) (97 + x / 2 ^ 40 % 26)

-- the record that a number gives, at an offset
abbrev pub record_of : ℕ → ℕ → Record
record_of offset x = record { offset = offset; time = pos 0; key = Some (key_of x); value = Some (value_of x); headers = [] }

-- one record of fifty fails
abbrev pub fails_by : ℕ → ℕ
fails_by x = x / 2 ^ 50 % 50

abbrev pub text_of : Result (List ℕ) WriteFault → List ℕ
text_of (Ok text) = text
text_of (Err fault) = []

-- the batch of some records; none of no record
abbrev pub batch_text : List Record → List ℕ
batch_text rs = text_of (written_of rs)

-- Of the numbers from place i on, each eighth is a record of the part. The records that wait are
-- written where they are 100, and at the end.
unfoldable pub log_from : ℕ → ℕ → List Record → List ℕ → List ℕ
log_from part i waiting [] = batch_text waiting
log_from part i waiting (x ∷ xs) =
    if i % 8 == part then (
    if length waiting == 99 then batch_text (waiting ++ record_of (i / 8) x ∷ []) ++ log_from part (i + 1) [] xs
    else log_from part (i + 1) (waiting ++ record_of (i / 8) x ∷ []) xs)
    else log_from part (i + 1) waiting xs

-- the log of a part
abbrev pub generated_log : ℕ → ℕ → ℕ → List ℕ
generated_log seed n part = log_from part 0 [] (numbers_from n seed)

-- the records of a part, of the numbers from place i on
unfoldable pub records_from : ℕ → ℕ → List ℕ → List Record
records_from part i [] = []
records_from part i (x ∷ xs) = if i % 8 == part then record_of (i / 8) x ∷ records_from part (i + 1) xs else records_from part (i + 1) xs

-- the bytes are batches, one after the other, which give these records
pub record AreBatches (bytes : List ℕ) (rs : List Record) : Type 0 where
  pub parts : List (List ℕ × Contents)
  pub each : AllByRecursion (λ (p : List ℕ × Contents). IsBatch p.0 p.1) parts
  pub text : bytes ≡ flat_map (λ (p : List ℕ × Contents). p.0) parts
  pub gives : rs ≡ flat_map (λ (p : List ℕ × Contents). given_by p.1) parts

-- the fail rules of the records from place i on
unfoldable pub fails_from : ℕ → List ℕ → List FailRule
fails_from i [] = []
fails_from i (x ∷ xs) =
    if fails_by x == 0 then record { part = i % 8; offset = i / 8; times = 1 } ∷ fails_from (i + 1) xs
    else fails_from (i + 1) xs

-- a made-up record without where it lies in memory
abbrev pub plain_drawn : Drawn → Record
plain_drawn d = record { offset = d.offset; time = pos 0; key = Some (string_bytes d.key); value = Some d.value.items; headers = [] }
