-- Each entry of the tables is what its definition gives, by computing.
use Rattle.std.proofs.Common.{◌≡◌, ℕ, zero, suc, ◌+◌, ◌<◌, Bool, true, false, ◌&&◌, eqb, List, [], ◌∷◌, length, get_or, refl, sym, ap, ◌∙◌, add-zero, arith}
use Rattle.std.proofs.lemmas.Bool.{eqb-true}
use Rattle.pc_bytes.specs.Crc.{with_bit, with_bits}
use Rattle.pc_bytes.specs.declared.crc.tables.TheConstants.{AFTER_8, AFTER_16, AFTER_24, AFTER_32, AFTER_40, AFTER_48, AFTER_56, AFTER_64}

-- the entries from i on are bytes after n zero bits
abbrev are_after : ℕ → ℕ → List ℕ → Bool
are_after n i [] = true
are_after n i (x ∷ xs) = eqb x (with_bits n i 0) && are_after n (suc i) xs

both : (a b : Bool) → (a && b) ≡ true → (a ≡ true) × (b ≡ true)
both true true e = (refl, refl)
both true false e = absurd cc
both false b e = absurd cc

entry_of : (n i : ℕ) (xs : List ℕ) (k : ℕ) → are_after n i xs ≡ true → k < length xs → get_or xs k 0 ≡ with_bits n (i + k) 0
entry_of n i [] k e h = absurd (omega arith)
entry_of n i (x ∷ xs) zero e h = eqb-true _ _ (both _ _ e).0 ∙ ap (λ (m : ℕ). with_bits n m 0) (sym (add-zero i))
entry_of n i (x ∷ xs) (suc k) e h =
    let moved : suc i + k ≡ i + suc k = omega arith in
    entry_of n (suc i) xs k (both _ _ e).1 (omega arith) ∙ ap (λ (m : ℕ). with_bits n m 0) moved

table_8 : are_after 8 0 AFTER_8 ≡ true
unfolding with_bit with_bits
table_8 = refl

pub after_8_is : (i : ℕ) → i < 256 → get_or AFTER_8 i 0 ≡ with_bits 8 i 0
after_8_is i h = entry_of 8 0 AFTER_8 i table_8 h ∙ ap (λ (m : ℕ). with_bits 8 m 0) (omega arith)

table_16 : are_after 16 0 AFTER_16 ≡ true
unfolding with_bit with_bits
table_16 = refl

pub after_16_is : (i : ℕ) → i < 256 → get_or AFTER_16 i 0 ≡ with_bits 16 i 0
after_16_is i h = entry_of 16 0 AFTER_16 i table_16 h ∙ ap (λ (m : ℕ). with_bits 16 m 0) (omega arith)

table_24 : are_after 24 0 AFTER_24 ≡ true
unfolding with_bit with_bits
table_24 = refl

pub after_24_is : (i : ℕ) → i < 256 → get_or AFTER_24 i 0 ≡ with_bits 24 i 0
after_24_is i h = entry_of 24 0 AFTER_24 i table_24 h ∙ ap (λ (m : ℕ). with_bits 24 m 0) (omega arith)

table_32 : are_after 32 0 AFTER_32 ≡ true
unfolding with_bit with_bits
table_32 = refl

pub after_32_is : (i : ℕ) → i < 256 → get_or AFTER_32 i 0 ≡ with_bits 32 i 0
after_32_is i h = entry_of 32 0 AFTER_32 i table_32 h ∙ ap (λ (m : ℕ). with_bits 32 m 0) (omega arith)

table_40 : are_after 40 0 AFTER_40 ≡ true
unfolding with_bit with_bits
table_40 = refl

pub after_40_is : (i : ℕ) → i < 256 → get_or AFTER_40 i 0 ≡ with_bits 40 i 0
after_40_is i h = entry_of 40 0 AFTER_40 i table_40 h ∙ ap (λ (m : ℕ). with_bits 40 m 0) (omega arith)

table_48 : are_after 48 0 AFTER_48 ≡ true
unfolding with_bit with_bits
table_48 = refl

pub after_48_is : (i : ℕ) → i < 256 → get_or AFTER_48 i 0 ≡ with_bits 48 i 0
after_48_is i h = entry_of 48 0 AFTER_48 i table_48 h ∙ ap (λ (m : ℕ). with_bits 48 m 0) (omega arith)

table_56 : are_after 56 0 AFTER_56 ≡ true
unfolding with_bit with_bits
table_56 = refl

pub after_56_is : (i : ℕ) → i < 256 → get_or AFTER_56 i 0 ≡ with_bits 56 i 0
after_56_is i h = entry_of 56 0 AFTER_56 i table_56 h ∙ ap (λ (m : ℕ). with_bits 56 m 0) (omega arith)

table_64 : are_after 64 0 AFTER_64 ≡ true
unfolding with_bit with_bits
table_64 = refl

pub after_64_is : (i : ℕ) → i < 256 → get_or AFTER_64 i 0 ≡ with_bits 64 i 0
after_64_is i h = entry_of 64 0 AFTER_64 i table_64 h ∙ ap (λ (m : ℕ). with_bits 64 m 0) (omega arith)
