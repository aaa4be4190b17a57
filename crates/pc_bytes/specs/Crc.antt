-- CRC-32C, bit by bit: its reflected polynomial is 82F63B78, and it begins and ends with all bits turned.
use Rattle.std.specs.Prelude.{ℕ, zero, suc, ◌/◌, ◌%◌, List, [], ◌∷◌, bit_xor, ◌==◌, if◌then◌else◌}

-- One bit enters the register. Its lowest bit falls out, and where the two differ the polynomial is
-- exclusive-ored.
unfoldable pub with_bit : ℕ → ℕ → ℕ
with_bit register bit = if register % 2 == bit then register / 2 else bit_xor (register / 2) 0x82F6_3B78

-- the n low bits of a byte enter, the lowest first
unfoldable pub with_bits : ℕ → ℕ → ℕ → ℕ
with_bits zero register byte = register
with_bits (suc n) register byte = with_bits n (with_bit register (byte % 2)) (byte / 2)

-- the bytes enter, one after the other
unfoldable pub with_bytes : ℕ → List ℕ → ℕ
with_bytes register [] = register
with_bytes register (byte ∷ bytes) = with_bytes (with_bits 8 register byte) bytes

-- a register of 32 ones takes the bytes, and at the end all its bits are turned
unfoldable pub crc32c_of : List ℕ → ℕ
crc32c_of bytes = bit_xor (with_bytes 0xFFFF_FFFF bytes) 0xFFFF_FFFF
