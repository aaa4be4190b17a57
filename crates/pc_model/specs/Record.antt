-- The records of a log as plain values, in the sense of Kafka's record format.
use Rattle.std.specs.Prelude.{ℕ, ℤ, List, Option}

-- a record: its offset, its time in milliseconds, and its key, value and headers as bytes. A key or
-- a value may be null, which is not the empty one
pub record Record : Type 0 where
  pub offset : ℕ
  pub time : ℤ
  pub key : Option (List ℕ)
  pub value : Option (List ℕ)
  pub headers : List (List ℕ × Option (List ℕ))
