-- Maps that are written out.
use Rattle.std.proofs.Common.{◌≡◌, ℕ, zero, suc, ◌+◌, ◌-◌, ◌==◌, ◌≤◌, ◌<◌, Bool, true, false, not, List, [], ◌∷◌, ◌++◌, length, replicate, codes, refl, sym, ap, ◌∙◌, arith, lit<, lit≤}
use Rattle.std.proofs.lemmas.Bool.{eq-eqb, le-leb, le-ltb, lt-ltb, ne_eqb}
use Rattle.std.proofs.lemmas.List.{append-nil, length-append, length-replicate}
use Rattle.byteorder.specs.Endian.{big_bytes}
use Rattle.byteorder.specs.Numbers.{length-bytes_high_first}
use Rattle.pc_model.proofs.BestMapLemmas.{length-map_text}
use Rattle.pc_model.proofs.BytesLemmas.{length-bit_bytes}
use Rattle.pc_model.proofs.RunLemmas.{run_lengths_from-run}
use Rattle.pc_model.proofs.Tables.{table_const}
use Rattle.std.specs.List.{list_any}
use Rattle.std.specs.Prelude.{nat_le, nat_lt}
use Rattle.std.specs.declared.option.Option.TheVariants.{None, Some}
use Rattle.std.specs.declared.result.Result.TheVariants.{Ok}
use Rattle.base64.proofs.OnLiterals.{base64_on_literals}
use Rattle.pc_model.specs.Bits.{bits_between}
use Rattle.pc_model.specs.MapSpelling.{bit_bytes, run_lengths, run_lengths_from, spelling_of}
use Rattle.pc_model.specs.MapReading.{map_reading}
use Rattle.pc_model.specs.BestMap.{best_map, map_text, shortest_text, text_of}

-- the bits from 10 to 14 with 10 and 12 incomplete
five_bits : best_map (bits_between 10 14 (10 ∷ 12 ∷ [])) 4096 ≡ record { letter = Some 108; text = codes "bAAFGg=="; size = 8 }
unfolding best_map shortest_text text_of spelling_of base64_on_literals
five_bits = refl

-- they are read again
five_bits_read : map_reading 10 (codes "bAAFGg==") ≡ Ok (Some (false ∷ true ∷ false ∷ true ∷ true ∷ []))
unfolding map_reading base64_on_literals
five_bits_read = refl

-- the bits from 0 to 999 with 0 incomplete
thousand_bits : best_map (bits_between 0 999 (0 ∷ [])) 4096 ≡ record { letter = Some 110; text = codes "bgABA+c="; size = 8 }
unfolding best_map shortest_text text_of spelling_of base64_on_literals
thousand_bits = refl

-- the bits from the first of them on, which alone is incomplete
bits_between-first : (low high : ℕ) → low ≤ high → bits_between low high (low ∷ []) ≡ false ∷ replicate (high - low) true
bits_between-first low high some =
    let count : high + 1 - low ≡ suc (high - low) = omega arith in
    let is_complete : ℕ → Bool = λ offset. not (list_any (λ i. i == offset) (low ∷ [])) in
    let others = table_const is_complete true (low + 1) (high - low) (λ i h.
    rw (ne_eqb low i (λ (e : low ≡ i). omega (arith, h, e))) refl) in
    rw (count, eq-eqb low low refl, others) refl

-- ---- one 0 bit before many 1 bits

-- one 0 bit and then so many 1 bits
abbrev one_zero : ℕ → List Bool
one_zero n = false ∷ replicate n true

-- the lengths of the two runs
run_lengths-one_zero : (n : ℕ) → 0 < n → run_lengths (one_zero n) ≡ 1 ∷ n ∷ []
run_lengths-one_zero zero some = absurd (omega arith)
run_lengths-one_zero (suc n) some =
    let ones : run_lengths_from true (replicate (suc n) true) ≡ suc n ∷ [] =
    ap (run_lengths_from true) (sym (append-nil (replicate (suc n) true))) ∙ run_lengths_from-run true (suc n) [] tt (omega arith) in
    run_lengths_from-run false 1 (true ∷ replicate n true) tt (omega arith) ∙ ap (λ (l : List ℕ). 1 ∷ l) ones

-- the count does not fit 16 bits
text_of-bitset : (n : ℕ) → 32767 < n → text_of 108 (one_zero n) ≡ None
unfolding text_of spelling_of
text_of-bitset n large =
    let past : nat_lt (length (one_zero n)) 32768 ≡ false = rw (length-replicate n true) (le-ltb (suc n) 32768 (omega arith)) in
    rw past refl

-- the second run does not fit 16 bits
text_of-run : (n : ℕ) → 32767 < n → text_of 110 (one_zero n) ≡ None
unfolding text_of spelling_of
text_of-run n large = rw (run_lengths-one_zero n (omega arith), le-ltb n 32768 (omega arith)) refl

-- the runs fit 32 bits
text_of-run_2 : (n : ℕ) → 0 < n → n < 2147483648 → text_of 101 (one_zero n) ≡ Some (101, map_text 101 (big_bytes 4 1 ++ (big_bytes 4 n ++ [])))
unfolding text_of spelling_of
text_of-run_2 n some small =
    rw (run_lengths-one_zero n some, lt-ltb n 2147483648 small, length-map_text 101 (big_bytes 4 1 ++ (big_bytes 4 n ++ []))) refl

-- the bits in bytes are a longer text
text_of-bitset_2 : (n : ℕ) → 32767 < n → n < 2147483647
    → (text : List ℕ) × (text_of 111 (one_zero n) ≡ Some (111, text)) × (12 < length text)
unfolding text_of spelling_of
text_of-bitset_2 n large small =
    let bytes : List ℕ = big_bytes 4 (length (one_zero n)) ++ bit_bytes (one_zero n) in
    let count = length-replicate n true in
    let size = length-append (big_bytes 4 (length (one_zero n))) (bit_bytes (one_zero n)) in
    let head = length-bytes_high_first 4 (length (one_zero n)) in
    let body = length-bit_bytes (one_zero n) in
    let len = length-map_text 111 bytes in
    let fits : nat_lt (length (one_zero n)) 2147483648 ≡ true = lt-ltb (length (one_zero n)) 2147483648 (omega (arith, count)) in
    let short : nat_le (length (map_text 111 bytes)) 4294967294 ≡ true = le-leb (length (map_text 111 bytes)) 4294967294 (omega (arith, count, size, head, body, len)) in
    (map_text 111 bytes, rw (fits, short) refl, omega (arith, count, size, head, body, len))

-- the shortest text is the RunLength with numbers of 32 bits, where those of 16 bits are too small
shortest_text-one_zero : (n : ℕ) → 32767 < n → n < 2147483647
    → shortest_text (one_zero n) ≡ Some (101, map_text 101 (big_bytes 4 1 ++ (big_bytes 4 n ++ [])))
unfolding shortest_text
shortest_text-one_zero n large small =
    let bytes : List ℕ = big_bytes 4 1 ++ (big_bytes 4 n ++ []) in
    let long = text_of-bitset_2 n large small in
    let len : length (map_text 101 bytes) ≡ 12 = length-map_text 101 bytes ∙ refl in
    let less : nat_lt (length (map_text 101 bytes)) (length long.0) ≡ true = rw len (lt-ltb 12 (length long.0) long.2) in
    rw (text_of-bitset n large, text_of-run n large, long.1, text_of-run_2 n (omega arith) (omega arith), less) refl

-- the bits from 0 to 40,000 with 0 incomplete
forty_thousand_bits : best_map (bits_between 0 40000 (0 ∷ [])) 4096 ≡ record { letter = Some 101; text = codes "ZQAAAAEAAJxA"; size = 12 }
unfolding best_map base64_on_literals
forty_thousand_bits =
    rw (bits_between-first 0 40000 (lit≤ tt), shortest_text-one_zero 40000 (lit< tt) (lit< tt)) refl
