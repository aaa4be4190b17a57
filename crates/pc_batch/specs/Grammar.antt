-- The grammar of records: which whole byte strings they are.
use Rattle.std.specs.Prelude.{◌≡◌, ◌≤◌, ℕ, ◌+◌, ℤ, pos, ◌+ℤ◌, List, [], ◌∷◌, ◌++◌, length, Option, Some, None, IsTrue}
use Rattle.std.proofs.Common.{negsuc}
use Rattle.pc_model.specs.Record.{Record}
use Rattle.pc_bytes.specs.Varint.{IsVarint, IsVarlong}
use Rattle.pc_batch.specs.declared.frame.Times.{Times}
use Rattle.pc_batch.specs.declared.frame.Times.TheVariants as times
use Rattle.pc_batch.specs.declared.frame.Frame.{Frame}
use Rattle.pc_batch.specs.Record.{fits_64}

-- a length, and as many bytes
pub record IsSized (bytes part : List ℕ) : Type 0 where
  pub head : List ℕ
  pub len : IsVarint head (pos (length part))
  pub parts : bytes ≡ head ++ part

-- the same, or the length -1 for null
abbrev pub IsNullable : List ℕ → Option (List ℕ) → Type 0
IsNullable bytes None = IsVarint bytes (negsuc 0)
IsNullable bytes (Some part) = IsSized bytes part

-- a header's key and value
pub record IsHeader (bytes : List ℕ) (header : List ℕ × Option (List ℕ)) : Type 0 where
  pub key : List ℕ
  pub value : List ℕ
  pub is_key : IsSized key header.0
  pub is_value : IsNullable value header.1
  pub parts : bytes ≡ key ++ value

-- headers, one after the other
abbrev pub AreHeaders : List ℕ → List (List ℕ × Option (List ℕ)) → Type 0
AreHeaders bytes [] = bytes ≡ []
AreHeaders bytes (h ∷ hs) = (front : List ℕ) × (back : List ℕ) × IsHeader front h × AreHeaders back hs × (bytes ≡ front ++ back)

-- the record's time: its delta is added to the base, or all have the greatest
abbrev pub IsTime : Times → ℤ → ℤ → Type 0
IsTime (times.Each base) delta time = (time ≡ base +ℤ delta) × IsTrue (fits_64 time)
IsTime (times.All greatest) delta time = time ≡ greatest

-- The fields of a record. Its offset is the base and the delta, not below the least that is allowed,
-- and not above the last.
pub record IsBody (frame : Frame) (least : ℕ) (bytes : List ℕ) (r : Record) : Type 0 where
  pub attributes : ℕ
  pub stamp : List ℕ
  pub delta : List ℕ
  pub key : List ℕ
  pub value : List ℕ
  pub count : List ℕ
  pub headers : List ℕ
  pub parts : bytes ≡ attributes ∷ (stamp ++ (delta ++ (key ++ (value ++ (count ++ headers)))))
  pub stamped : ℤ
  pub is_stamp : IsVarlong stamp stamped
  pub is_time : IsTime frame.times stamped r.time
  pub moved : ℕ
  pub is_delta : IsVarint delta (pos moved)
  pub is_offset : r.offset ≡ frame.base + moved
  pub above : least ≤ r.offset
  pub within : r.offset ≤ frame.last
  pub is_key : IsNullable key r.key
  pub is_value : IsNullable value r.value
  pub is_count : IsVarint count (pos (length r.headers))
  pub are_headers : AreHeaders headers r.headers

-- a record: its length, and then its fields
pub record IsRecord (frame : Frame) (least : ℕ) (bytes : List ℕ) (r : Record) : Type 0 where
  pub body : List ℕ
  pub sized : IsSized bytes body
  pub fields : IsBody frame least body r

-- records, one after the other, their offsets rising
abbrev pub AreRecords : Frame → ℕ → List ℕ → List Record → Type 0
AreRecords frame least bytes [] = bytes ≡ []
AreRecords frame least bytes (r ∷ rs) = (front : List ℕ) × (back : List ℕ) × IsRecord frame least front r × AreRecords frame (r.offset + 1) back rs × (bytes ≡ front ++ back)
