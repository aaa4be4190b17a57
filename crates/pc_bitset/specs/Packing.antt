-- Runs of bits put into bytes, and bits taken out of them.
use Rattle.std.specs.Prelude.{◌≡◌, ℕ, ◌/◌, ◌%◌, ◌^◌, ◌==◌, Bool, List, ◌++◌, map, length, replicate}
use Rattle.std.specs.List.{range_with_len}
use Rattle.pc_model.specs.MapSpelling.{bit_bytes}

-- bytes that end with this many bits get a bit n times more
abbrev pub AppendsBits : ℕ → Bool → ℕ → List ℕ → List ℕ → Type 0
AppendsBits place bit n old new = (head : List ℕ) (bits : List Bool) → length bits ≡ place
    → old ≡ head ++ bit_bytes bits → new ≡ head ++ bit_bytes (bits ++ replicate n bit)

-- the lowest bits of a byte, the lowest first
abbrev pub byte_bits : ℕ → ℕ → List Bool
byte_bits n byte = map (λ i. (byte / 2 ^ i) % 2 == 1) (range_with_len 0 n)
