-- A register takes bits linearly, so that each byte's part can be looked up by itself.
use Rattle.std.proofs.Common.{◌≡◌, ℕ, zero, suc, ◌+◌, ◌*◌, ◌/◌, ◌%◌, ◌^◌, ◌<◌, eqb, false, List, [], ◌∷◌, ◌++◌, length, get_or, take, drop, refl, sym, ap, ◌∙◌, inl, inr, ◌⊎◌, add-one, drop-cons, arith}
use Rattle.std.proofs.Math.Nat.{pow-suc, mul_assoc}
use Rattle.std.proofs.lemmas.List.{take-append-drop}
use Rattle.std.specs.Int.Bits.{bit_xor, xor_assoc, xor_comm, xor_self, xor_zero_r, xor_shr, xor_mod, xor_shifted}
use Rattle.pc_bytes.specs.Crc.{with_bit, with_bits, with_bytes}

abbrev poly : ℕ
poly = 0x82F6_3B78

parity : (a : ℕ) → (a % 2 ≡ 0) ⊎ (a % 2 ≡ 1)
parity a = grind arith

-- the bit that falls out of a sum
xor-low : (a b x y : ℕ) → a % 2 ≡ x → b % 2 ≡ y → bit_xor a b % 2 ≡ bit_xor x y
xor-low a b x y p q = xor_mod a b 1 ∙ ap (λ (m : ℕ). bit_xor m (b % 2)) p ∙ ap (bit_xor x) q

xor-half : (a b : ℕ) → bit_xor a b / 2 ≡ bit_xor (a / 2) (b / 2)
xor-half a b = xor_shr a b 1

swap-last : (a b c : ℕ) → bit_xor (bit_xor a b) c ≡ bit_xor (bit_xor a c) b
swap-last a b c = xor_assoc a b c ∙ ap (bit_xor a) (xor_comm b c) ∙ sym (xor_assoc a c b)

-- one bit: where it is the register's lowest, or not
with_bit-same : (r bit : ℕ) → r % 2 ≡ bit → with_bit r bit ≡ r / 2
unfolding with_bit
with_bit-same r bit e = rw e (grind arith)

with_bit-other : (r x bit : ℕ) → r % 2 ≡ x → eqb x bit ≡ false → with_bit r bit ≡ bit_xor (r / 2) poly
unfolding with_bit
with_bit-other r x bit e h = rw (e, h) refl

-- one zero bit acts on each part of a sum
with_bit-xor : (a b : ℕ) → with_bit (bit_xor a b) 0 ≡ bit_xor (with_bit a 0) (with_bit b 0)
with_bit-xor a b =
    let half = xor-half a b in
    elim (parity a) [
      | inl p ↦ elim (parity b) [
        | inl q ↦ with_bit-same (bit_xor a b) 0 (xor-low a b 0 0 p q) ∙ half
            ∙ sym (ap (λ (m : ℕ). bit_xor m (with_bit b 0)) (with_bit-same a 0 p) ∙ ap (bit_xor (a / 2)) (with_bit-same b 0 q))
        | inr q ↦ with_bit-other (bit_xor a b) 1 0 (xor-low a b 0 1 p q) refl ∙ ap (λ (m : ℕ). bit_xor m poly) half
            ∙ xor_assoc (a / 2) (b / 2) poly
            ∙ sym (ap (λ (m : ℕ). bit_xor m (with_bit b 0)) (with_bit-same a 0 p) ∙ ap (bit_xor (a / 2)) (with_bit-other b 1 0 q refl))
      ]
      | inr p ↦ elim (parity b) [
        | inl q ↦ with_bit-other (bit_xor a b) 1 0 (xor-low a b 1 0 p q) refl ∙ ap (λ (m : ℕ). bit_xor m poly) half
            ∙ swap-last (a / 2) (b / 2) poly
            ∙ sym (ap (λ (m : ℕ). bit_xor m (with_bit b 0)) (with_bit-other a 1 0 p refl) ∙ ap (bit_xor (bit_xor (a / 2) poly)) (with_bit-same b 0 q))
        | inr q ↦ with_bit-same (bit_xor a b) 0 (xor-low a b 1 1 p q) ∙ half
            ∙ sym (cancelled (a / 2) (b / 2) poly)
            ∙ sym (ap (λ (m : ℕ). bit_xor m (with_bit b 0)) (with_bit-other a 1 0 p refl) ∙ ap (bit_xor (bit_xor (a / 2) poly)) (with_bit-other b 1 0 q refl))
      ]
    ]
  where
    cancelled : (x y p : ℕ) → bit_xor (bit_xor x p) (bit_xor y p) ≡ bit_xor x y
    cancelled x y p =
        xor_assoc x p (bit_xor y p)
        ∙ ap (bit_xor x) (xor_comm p (bit_xor y p) ∙ xor_assoc y p p ∙ ap (bit_xor y) (xor_self p) ∙ xor_zero_r y)

-- zero bits act on each part of a sum
with_bits-xor : (n a b : ℕ) → with_bits n (bit_xor a b) 0 ≡ bit_xor (with_bits n a 0) (with_bits n b 0)
unfolding with_bits
with_bits-xor zero a b = refl
with_bits-xor (suc n) a b =
    ap (λ (r : ℕ). with_bits n r 0) (with_bit-xor a b) ∙ with_bits-xor n (with_bit a 0) (with_bit b 0)

-- a bit that enters may as well be put into the register before
with_bit-put : (r byte : ℕ) → bit_xor (with_bit r (byte % 2)) (byte / 2) ≡ with_bit (bit_xor r byte) 0
with_bit-put r byte =
    let half = xor-half r byte in
    elim (parity r) [
      | inl p ↦ elim (parity byte) [
        | inl q ↦ ap (λ (m : ℕ). bit_xor m (byte / 2)) (with_bit-same r (byte % 2) (p ∙ sym q)) ∙ sym half ∙ sym (with_bit-same (bit_xor r byte) 0 (xor-low r byte 0 0 p q))
        | inr q ↦ ap (λ (m : ℕ). bit_xor m (byte / 2)) (ap (with_bit r) q ∙ with_bit-other r 0 1 p refl)
            ∙ swap-last (r / 2) poly (byte / 2) ∙ ap (λ (m : ℕ). bit_xor m poly) (sym half)
            ∙ sym (with_bit-other (bit_xor r byte) 1 0 (xor-low r byte 0 1 p q) refl)
      ]
      | inr p ↦ elim (parity byte) [
        | inl q ↦ ap (λ (m : ℕ). bit_xor m (byte / 2)) (ap (with_bit r) q ∙ with_bit-other r 1 0 p refl)
            ∙ swap-last (r / 2) poly (byte / 2) ∙ ap (λ (m : ℕ). bit_xor m poly) (sym half)
            ∙ sym (with_bit-other (bit_xor r byte) 1 0 (xor-low r byte 1 0 p q) refl)
        | inr q ↦ ap (λ (m : ℕ). bit_xor m (byte / 2)) (with_bit-same r (byte % 2) (p ∙ sym q)) ∙ sym half ∙ sym (with_bit-same (bit_xor r byte) 0 (xor-low r byte 1 1 p q))
      ]
    ]

-- and so may all bits of a byte
with_bits-put : (n r byte : ℕ) → byte < 2 ^ n → with_bits n r byte ≡ with_bits n (bit_xor r byte) 0
unfolding with_bits
with_bits-put zero r byte h =
    let none : byte ≡ 0 = omega arith in
    sym (ap (bit_xor r) none ∙ xor_zero_r r)
with_bits-put (suc n) r byte h =
    let fits : byte / 2 < 2 ^ n = let e = pow-suc 2 n in omega arith in
    with_bits-put n (with_bit r (byte % 2)) (byte / 2) fits ∙ ap (λ (m : ℕ). with_bits n m 0) (with_bit-put r byte)

-- zero bits, and then more of them
with_bits-more : (m n r : ℕ) → with_bits n (with_bits m r 0) 0 ≡ with_bits (m + n) r 0
unfolding with_bits
with_bits-more zero n r = let none : n ≡ 0 + n = omega arith in ap (λ (k : ℕ). with_bits k r 0) none
with_bits-more (suc m) n r =
    let counted : suc (m + n) ≡ suc m + n = omega arith in
    with_bits-more m n (with_bit r 0) ∙ ap (λ (k : ℕ). with_bits k r 0) counted

-- what stands above n bits moves down by them
with_bits-high : (n x : ℕ) → with_bits n (x * 2 ^ n) 0 ≡ x
unfolding with_bits
with_bits-high zero x = omega arith
with_bits-high (suc n) x =
    let e = pow-suc 2 n in
    let even : x * 2 ^ suc n % 2 ≡ 0 = twice (x * 2 ^ n) (x * 2 ^ suc n) (rw e (sym (mul_assoc x (2 ^ n) 2))) in
    let half : x * 2 ^ suc n / 2 ≡ x * 2 ^ n = halved (x * 2 ^ n) (x * 2 ^ suc n) (rw e (sym (mul_assoc x (2 ^ n) 2))) in
    ap (λ (m : ℕ). with_bits n m 0) (with_bit-same (x * 2 ^ suc n) 0 even ∙ half) ∙ with_bits-high n x
  where
    twice : (y z : ℕ) → z ≡ y * 2 → z % 2 ≡ 0
    twice y z e = omega arith

    halved : (y z : ℕ) → z ≡ y * 2 → z / 2 ≡ y
    halved y z e = omega arith

-- the register above its low byte, which meets the byte that enters
with_byte-split : (r byte : ℕ) → byte < 256 → bit_xor r byte ≡ bit_xor (r / 256 * 2 ^ 8) (bit_xor (r % 256) byte)
with_byte-split r byte h =
    let low : r % 256 < 2 ^ 8 = omega arith in
    let whole : r ≡ bit_xor (r / 256 * 2 ^ 8) (r % 256) = let e = xor_shifted (r / 256) 8 (r % 256) low in omega arith in
    ap (λ (m : ℕ). bit_xor m byte) whole ∙ xor_assoc (r / 256 * 2 ^ 8) (r % 256) byte

-- one byte
pub with_byte-is : (r byte : ℕ) → byte < 256 → with_bits 8 r byte ≡ bit_xor (r / 256) (with_bits 8 (bit_xor (r % 256) byte) 0)
with_byte-is r byte h =
    with_bits-put 8 r byte h
    ∙ ap (λ (m : ℕ). with_bits 8 m 0) (with_byte-split r byte h)
    ∙ with_bits-xor 8 (r / 256 * 2 ^ 8) (bit_xor (r % 256) byte)
    ∙ ap (λ (m : ℕ). bit_xor m (with_bits 8 (bit_xor (r % 256) byte) 0)) (with_bits-high 8 (r / 256))

abbrev pub AreBytes : List ℕ → Type 0
AreBytes bytes = (i : ℕ) → get_or bytes i 0 < 256

AreBytes-rest : (b : ℕ) (bytes : List ℕ) → AreBytes (b ∷ bytes) → AreBytes bytes
AreBytes-rest b bytes fits i = fits (suc i)

no_bits : (s : ℕ) → with_bits 0 s 0 ≡ s
unfolding with_bits
no_bits s = refl

-- what is added to a register moves through the bytes by itself
with_bytes-xor : (bytes : List ℕ) (r s : ℕ) → AreBytes bytes → with_bytes (bit_xor r s) bytes ≡ bit_xor (with_bytes r bytes) (with_bits (8 * length bytes) s 0)
unfolding with_bytes
with_bytes-xor [] r s fits = ap (bit_xor r) (sym (no_bits s))
with_bytes-xor (b ∷ bytes) r s fits =
    let here : b < 2 ^ 8 = fits 0 in
    let rest : AreBytes bytes = λ i. fits (suc i) in
    let entered : with_bits 8 (bit_xor r s) b ≡ bit_xor (with_bits 8 r b) (with_bits 8 s 0) =
    with_bits-put 8 (bit_xor r s) b here
    ∙ ap (λ (m : ℕ). with_bits 8 m 0) (swap-last r s b)
    ∙ with_bits-xor 8 (bit_xor r b) s
    ∙ ap (λ (m : ℕ). bit_xor m (with_bits 8 s 0)) (sym (with_bits-put 8 r b here)) in
    let counted : 8 + 8 * length bytes ≡ 8 * suc (length bytes) = omega arith in
    ap (λ (m : ℕ). with_bytes m bytes) entered
    ∙ with_bytes-xor bytes (with_bits 8 r b) (with_bits 8 s 0) rest
    ∙ ap (bit_xor (with_bytes (with_bits 8 r b) bytes)) (with_bits-more 8 (8 * length bytes) s ∙ ap (λ (k : ℕ). with_bits k s 0) counted)

-- the first byte's part, by itself
with_bytes-first : (b : ℕ) (bytes : List ℕ) (r : ℕ) → AreBytes (b ∷ bytes) → with_bytes r (b ∷ bytes) ≡ bit_xor (with_bytes (r / 256) bytes) (with_bits (8 * suc (length bytes)) (bit_xor (r % 256) b) 0)
unfolding with_bytes
with_bytes-first b bytes r fits =
    let rest : AreBytes bytes = λ i. fits (suc i) in
    let counted : 8 + 8 * length bytes ≡ 8 * suc (length bytes) = omega arith in
    let met = bit_xor (r % 256) b in
    ap (λ (m : ℕ). with_bytes m bytes) (with_byte-is r b (fits 0))
    ∙ with_bytes-xor bytes (r / 256) (with_bits 8 met 0) rest
    ∙ ap (bit_xor (with_bytes (r / 256) bytes)) (with_bits-more 8 (8 * length bytes) met ∙ ap (λ (k : ℕ). with_bits k met 0) counted)

-- the bytes, one part after the other
with_bytes-append : (xs ys : List ℕ) (r : ℕ) → with_bytes r (xs ++ ys) ≡ with_bytes (with_bytes r xs) ys
unfolding with_bytes
with_bytes-append [] ys r = refl
with_bytes-append (x ∷ xs) ys r = with_bytes-append xs ys (with_bits 8 r x)

pub no_bytes : (r : ℕ) → with_bytes r [] ≡ r
unfolding with_bytes
no_bytes r = refl

-- one byte of eight, where the rest is known
step-of : (b : ℕ) (bytes : List ℕ) (r low high rest : ℕ) → AreBytes (b ∷ bytes) → r / 256 ≡ high → r % 256 ≡ low → with_bytes high bytes ≡ rest → with_bytes r (b ∷ bytes) ≡ bit_xor rest (with_bits (8 * suc (length bytes)) (bit_xor low b) 0)
step-of b bytes r low high rest fits high-is low-is rest-is =
    with_bytes-first b bytes r fits
    ∙ ap (λ (m : ℕ). bit_xor (with_bytes m bytes) (with_bits (8 * suc (length bytes)) (bit_xor (r % 256) b) 0)) high-is
    ∙ ap (λ (m : ℕ). bit_xor m (with_bits (8 * suc (length bytes)) (bit_xor (r % 256) b) 0)) rest-is
    ∙ ap (λ (m : ℕ). bit_xor rest (with_bits (8 * suc (length bytes)) (bit_xor m b) 0)) low-is

-- eight bytes, each by itself
with_block-is : (r b0 b1 b2 b3 b4 b5 b6 b7 : ℕ) → r < 2 ^ 32 → AreBytes (b0 ∷ b1 ∷ b2 ∷ b3 ∷ b4 ∷ b5 ∷ b6 ∷ b7 ∷ []) → with_bytes r (b0 ∷ b1 ∷ b2 ∷ b3 ∷ b4 ∷ b5 ∷ b6 ∷ b7 ∷ [])
    ≡ bit_xor (bit_xor (bit_xor (bit_xor (bit_xor (bit_xor (bit_xor (with_bits 8 b7 0) (with_bits 16 b6 0)) (with_bits 24 b5 0)) (with_bits 32 b4 0)) (with_bits 40 (bit_xor (r / 16777216 % 256) b3) 0)) (with_bits 48 (bit_xor (r / 65536 % 256) b2) 0)) (with_bits 56 (bit_xor (r / 256 % 256) b1) 0)) (with_bits 64 (bit_xor (r % 256) b0) 0)
with_block-is r b0 b1 b2 b3 b4 b5 b6 b7 fits bytes =
    let t1 = AreBytes-rest b0 (b1 ∷ b2 ∷ b3 ∷ b4 ∷ b5 ∷ b6 ∷ b7 ∷ []) bytes in
    let t2 = AreBytes-rest b1 (b2 ∷ b3 ∷ b4 ∷ b5 ∷ b6 ∷ b7 ∷ []) t1 in
    let t3 = AreBytes-rest b2 (b3 ∷ b4 ∷ b5 ∷ b6 ∷ b7 ∷ []) t2 in
    let t4 = AreBytes-rest b3 (b4 ∷ b5 ∷ b6 ∷ b7 ∷ []) t3 in
    let t5 = AreBytes-rest b4 (b5 ∷ b6 ∷ b7 ∷ []) t4 in
    let t6 = AreBytes-rest b5 (b6 ∷ b7 ∷ []) t5 in
    let t7 = AreBytes-rest b6 (b7 ∷ []) t6 in
    let s7 = step-of b7 [] 0 0 0 0 t7 refl refl (no_bytes 0) in
    let s6 = step-of b6 (b7 ∷ []) 0 0 0 _ t6 refl refl s7 in
    let s5 = step-of b5 (b6 ∷ b7 ∷ []) 0 0 0 _ t5 refl refl s6 in
    let s4 = step-of b4 (b5 ∷ b6 ∷ b7 ∷ []) 0 0 0 _ t4 refl refl s5 in
    let s3 = step-of b3 (b4 ∷ b5 ∷ b6 ∷ b7 ∷ []) (r / 16777216) (r / 16777216 % 256) 0 _ t3 (omega arith) refl s4 in
    let s2 = step-of b2 (b3 ∷ b4 ∷ b5 ∷ b6 ∷ b7 ∷ []) (r / 65536) (r / 65536 % 256) (r / 16777216) _ t2 (omega arith) refl s3 in
    let s1 = step-of b1 (b2 ∷ b3 ∷ b4 ∷ b5 ∷ b6 ∷ b7 ∷ []) (r / 256) (r / 256 % 256) (r / 65536) _ t1 (omega arith) refl s2 in
    step-of b0 (b1 ∷ b2 ∷ b3 ∷ b4 ∷ b5 ∷ b6 ∷ b7 ∷ []) r (r % 256) (r / 256) _ bytes refl refl s1

-- the same where each part was looked up
pub with_block-looked_up : (r : ℕ) (low block : List ℕ) (x8 x16 x24 x32 x40 x48 x56 x64 : ℕ) → r < 2 ^ 32 → length block ≡ 8 → AreBytes block
    → low ≡ r % 256 ∷ r / 256 % 256 ∷ r / 65536 % 256 ∷ r / 16777216 % 256 ∷ []
    → x8 ≡ with_bits 8 (get_or block 7 0) 0
    → x16 ≡ with_bits 16 (get_or block 6 0) 0
    → x24 ≡ with_bits 24 (get_or block 5 0) 0
    → x32 ≡ with_bits 32 (get_or block 4 0) 0
    → x40 ≡ with_bits 40 (bit_xor (get_or low 3 0) (get_or block 3 0)) 0
    → x48 ≡ with_bits 48 (bit_xor (get_or low 2 0) (get_or block 2 0)) 0
    → x56 ≡ with_bits 56 (bit_xor (get_or low 1 0) (get_or block 1 0)) 0
    → x64 ≡ with_bits 64 (bit_xor (get_or low 0 0) (get_or block 0 0)) 0
    → bit_xor (bit_xor (bit_xor (bit_xor (bit_xor (bit_xor (bit_xor x8 x16) x24) x32) x40) x48) x56) x64 ≡ with_bytes r block
with_block-looked_up r low ([]) x8 x16 x24 x32 x40 x48 x56 x64 fits long bytes low-is e8 e16 e24 e32 e40 e48 e56 e64 = absurd (omega arith)
with_block-looked_up r low (b0 ∷ []) x8 x16 x24 x32 x40 x48 x56 x64 fits long bytes low-is e8 e16 e24 e32 e40 e48 e56 e64 = absurd (omega arith)
with_block-looked_up r low (b0 ∷ b1 ∷ []) x8 x16 x24 x32 x40 x48 x56 x64 fits long bytes low-is e8 e16 e24 e32 e40 e48 e56 e64 = absurd (omega arith)
with_block-looked_up r low (b0 ∷ b1 ∷ b2 ∷ []) x8 x16 x24 x32 x40 x48 x56 x64 fits long bytes low-is e8 e16 e24 e32 e40 e48 e56 e64 = absurd (omega arith)
with_block-looked_up r low (b0 ∷ b1 ∷ b2 ∷ b3 ∷ []) x8 x16 x24 x32 x40 x48 x56 x64 fits long bytes low-is e8 e16 e24 e32 e40 e48 e56 e64 = absurd (omega arith)
with_block-looked_up r low (b0 ∷ b1 ∷ b2 ∷ b3 ∷ b4 ∷ []) x8 x16 x24 x32 x40 x48 x56 x64 fits long bytes low-is e8 e16 e24 e32 e40 e48 e56 e64 = absurd (omega arith)
with_block-looked_up r low (b0 ∷ b1 ∷ b2 ∷ b3 ∷ b4 ∷ b5 ∷ []) x8 x16 x24 x32 x40 x48 x56 x64 fits long bytes low-is e8 e16 e24 e32 e40 e48 e56 e64 = absurd (omega arith)
with_block-looked_up r low (b0 ∷ b1 ∷ b2 ∷ b3 ∷ b4 ∷ b5 ∷ b6 ∷ []) x8 x16 x24 x32 x40 x48 x56 x64 fits long bytes low-is e8 e16 e24 e32 e40 e48 e56 e64 = absurd (omega arith)
with_block-looked_up r low (b0 ∷ b1 ∷ b2 ∷ b3 ∷ b4 ∷ b5 ∷ b6 ∷ b7 ∷ []) x8 x16 x24 x32 x40 x48 x56 x64 fits long bytes low-is e8 e16 e24 e32 e40 e48 e56 e64 =
    rw (e8, e16, e24, e32, e40, e48, e56, e64, low-is) (sym (with_block-is r b0 b1 b2 b3 b4 b5 b6 b7 fits bytes))
with_block-looked_up r low (b0 ∷ b1 ∷ b2 ∷ b3 ∷ b4 ∷ b5 ∷ b6 ∷ b7 ∷ b8 ∷ rest) x8 x16 x24 x32 x40 x48 x56 x64 fits long bytes low-is e8 e16 e24 e32 e40 e48 e56 e64 = absurd (omega arith)

-- one more byte, and the bytes after it
pub with_bytes-step : (bytes : List ℕ) (i r x : ℕ) → i < length bytes → x ≡ with_bits 8 r (get_or bytes i 0) → with_bytes x (drop (i + 1) bytes) ≡ with_bytes r (drop i bytes)
unfolding with_bytes
with_bytes-step bytes i r x h e =
    rw (e, add-one) (sym (ap (with_bytes r) (drop-cons bytes i 0 h)))

-- eight bytes, and the bytes after them
pub with_bytes-block : (bytes : List ℕ) (n r x : ℕ) → x ≡ with_bytes r (take n bytes) → with_bytes x (drop n bytes) ≡ with_bytes r bytes
with_bytes-block bytes n r x e =
    ap (λ (m : ℕ). with_bytes m (drop n bytes)) e ∙ sym (with_bytes-append (take n bytes) (drop n bytes) r) ∙ ap (with_bytes r) (take-append-drop n bytes)
