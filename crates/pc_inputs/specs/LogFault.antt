-- The fault line of a log that does not read.
use Rattle.std.specs.Prelude.{ℕ, List, [], ◌∷◌, ◌++◌, codes}
use Rattle.std.specs.Fmt.{decimal, signed_decimal}
use Rattle.pc_batch.specs.declared.fault.BatchFault.{BatchFault}
use Rattle.pc_batch.specs.declared.fault.BatchFault.TheVariants.{Short, BadMagic, BadLength, BadCrc, Compressed, OffsetRange, BadRecord, Count}
use Rattle.pc_batch.specs.declared.fault.RecordKind.{RecordKind}
use Rattle.pc_batch.specs.declared.fault.RecordKind.TheVariants as kind
use Rattle.pc_cursor.specs.declared.fault.LogFaultKind.{LogFaultKind}
use Rattle.pc_cursor.specs.declared.fault.LogFaultKind.TheVariants.{Batch, OffsetsFall}
use Rattle.pc_print.specs.Line.{marked, spaced}

-- the word for what is wrong with a record
abbrev pub record_word : RecordKind → List ℕ
record_word kind.Varint = codes "varint"
record_word kind.Length = codes "length"
record_word kind.Time = codes "time"
record_word kind.Delta = codes "delta"
record_word kind.KeyLength = codes "keylength"
record_word kind.ValueLength = codes "valuelength"
record_word kind.HeaderCount = codes "headercount"
record_word kind.HeaderKeyLength = codes "headerkeylength"
record_word kind.HeaderValueLength = codes "headervaluelength"
record_word kind.Past = codes "past"
record_word kind.Leftover = codes "leftover"

-- the words of what is wrong with a batch
abbrev pub batch_words : BatchFault → List (List ℕ)
batch_words (Short place need) = codes "short" ∷ decimal place ∷ decimal need ∷ []
batch_words (BadMagic magic) = codes "magic" ∷ signed_decimal magic ∷ []
batch_words (BadLength length) = codes "length" ∷ signed_decimal length ∷ []
batch_words (BadCrc stored found) = codes "crc" ∷ decimal stored ∷ decimal found ∷ []
batch_words (Compressed code) = codes "compressed" ∷ decimal code ∷ []
batch_words (OffsetRange base delta) =
    codes "offset-range" ∷ signed_decimal base ∷ signed_decimal delta ∷ []
batch_words (BadRecord place kind) = codes "record" ∷ decimal place ∷ record_word kind ∷ []
batch_words (Count header found) = codes "count" ∷ signed_decimal header ∷ decimal found ∷ []

-- the words of what is wrong with a log
abbrev pub fault_words : LogFaultKind → List (List ℕ)
fault_words (Batch fault) = batch_words fault
fault_words (OffsetsFall last next) = codes "offsets-fall" ∷ decimal last ∷ decimal next ∷ []

-- the line of these words about a place of a file's log, with its line feed
unfoldable pub log_line : List ℕ → ℕ → List (List ℕ) → List ℕ
log_line name place words =
    spaced (codes "fault" ∷ codes "log" ∷ marked name ∷ codes "at" ∷ decimal place ∷ words)
    ++ 10 ∷ []
