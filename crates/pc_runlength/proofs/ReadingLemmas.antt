-- The bits of the lengths of their runs.
use Rattle.std.proofs.Common.{◌≡◌, ℕ, ◌+◌, ◌-◌, ◌*◌, ◌/◌, ◌%◌, ◌^◌, ◌<◌, ◌≤◌, min, Bool, true, false, not, List, [], ◌∷◌, ◌++◌, length, drop, replicate, refl, sym, ap, ◌∙◌, arith}
use Rattle.std.proofs.lemmas.Bool.{le-ltb, lt-ltb}
use Rattle.std.proofs.lemmas.List.{append-nil, append_assoc, drop_all, drop_more, length-append, length-replicate}
use Rattle.std.proofs.lemmas.List.FromFn.{get_or-map-range_with_len, length-map-range_with_len}
use Rattle.std.specs.List.{list_all}
use Rattle.std.specs.Option.{IfSome, option_map}
use Rattle.std.specs.Result.{IfOk}
use Rattle.std.specs.declared.option.Option.{Option}
use Rattle.std.specs.declared.option.Option.TheVariants.{None, Some}
use Rattle.std.specs.declared.result.Result.{Result}
use Rattle.std.specs.declared.result.Result.TheVariants.{Ok, Err}
use Rattle.byteorder.specs.Endian.{big_number}
use Rattle.pc_model.proofs.ReadingLemmas.{length-flat_map-big_bytes, run_reading-spelling}
use Rattle.pc_model.specs.declared.bits_fault.BitsFault.TheVariants.{NegativeNumber, ShortNumber}
use Rattle.pc_model.specs.MapReading.{bits_in_turn, numbers_in, run_reading}
use Rattle.pc_model.specs.MapSpelling.{number_fits, run_lengths, run_spelling}
use Rattle.pc_runlength.specs.RunLengths.{checked_count}

-- ---- the numbers

-- the numbers from an index on
drop-numbers_in : (width i : ℕ) (bytes : List ℕ) → i < length bytes / width
    → drop i (numbers_in width bytes) ≡ big_number width (drop (width * i) bytes) ∷ drop (i + 1) (numbers_in width bytes)
drop-numbers_in width i bytes within =
    let number : ℕ → ℕ = λ k. big_number width (drop (width * k) bytes) in
    let count = length-map-range_with_len number 0 (length bytes / width) in
    let at = get_or-map-range_with_len number 0 (length bytes / width) i i 0 within (omega arith) in
    rw (← at) (drop_more (numbers_in width bytes) i 0 (omega (arith, count, within)))

-- the numbers from the end on
drop-numbers_in_end : (width i : ℕ) (bytes : List ℕ) → length bytes / width ≤ i → drop i (numbers_in width bytes) ≡ []
drop-numbers_in_end width i bytes past =
    let count = length-map-range_with_len (λ k. big_number width (drop (width * k) bytes)) 0 (length bytes / width) in
    drop_all i (numbers_in width bytes) (omega (arith, count, past))

-- so many bits whichever of them comes first
length-bits_in_turn : (lengths : List ℕ) → length (bits_in_turn true lengths) ≡ length (bits_in_turn false lengths)
length-bits_in_turn [] = refl
length-bits_in_turn (n ∷ lengths) =
    let first = length-append (replicate n true) (bits_in_turn false lengths) in
    let second = length-append (replicate n false) (bits_in_turn true lengths) in
    let ih = length-bits_in_turn lengths in
    let one = length-replicate n true in
    let zero = length-replicate n false in
    omega (arith, first, second, ih, one, zero)

-- one more run
length-bits_in_turn_cons : (n : ℕ) (lengths : List ℕ) → length (bits_in_turn false (n ∷ lengths)) ≡ n + length (bits_in_turn false lengths)
length-bits_in_turn_cons n lengths =
    let whole = length-append (replicate n false) (bits_in_turn true lengths) in
    let zeros = length-replicate n false in
    omega (arith, whole, zeros, length-bits_in_turn lengths)

-- ---- the check

-- a number that does not fit
pub checked_count-negative : (width i n : ℕ) (bytes : List ℕ) → i < length bytes / width → n ≡ big_number width (drop (width * i) bytes) → false ≡ number_fits width n
    → list_all (number_fits width) (drop i (numbers_in width bytes)) ≡ list_all (number_fits width) (numbers_in width bytes) → Err NegativeNumber ≡ checked_count (run_reading width bytes)
checked_count-negative width i n bytes within is negative same =
    let here : number_fits width (big_number width (drop (width * i) bytes)) ≡ false = rw (← is) (sym negative) in
    let all : list_all (number_fits width) (numbers_in width bytes) ≡ false = sym same ∙ rw (drop-numbers_in width i bytes within, here) refl in
    rw all refl

-- one more number that fits
pub list_all-fits_more : (width i n : ℕ) (bytes : List ℕ) → i < length bytes / width → n ≡ big_number width (drop (width * i) bytes) → true ≡ number_fits width n
    → list_all (number_fits width) (drop i (numbers_in width bytes)) ≡ list_all (number_fits width) (numbers_in width bytes)
    → list_all (number_fits width) (drop (i + 1) (numbers_in width bytes)) ≡ list_all (number_fits width) (numbers_in width bytes)
list_all-fits_more width i n bytes within is fits same =
    let here : number_fits width (big_number width (drop (width * i) bytes)) ≡ true = rw (← is) (sym fits) in
    sym (rw (drop-numbers_in width i bytes within, here) refl) ∙ same

-- the count with one more number
pub counted_more : (width i n count more : ℕ) (bytes : List ℕ) → i < length bytes / width → n ≡ big_number width (drop (width * i) bytes) → more ≡ min (count + n) (2 ^ 64 - 1)
    → min (count + length (bits_in_turn false (drop i (numbers_in width bytes)))) (2 ^ 64 - 1) ≡ min (length (bits_in_turn false (numbers_in width bytes))) (2 ^ 64 - 1)
    → min (more + length (bits_in_turn false (drop (i + 1) (numbers_in width bytes)))) (2 ^ 64 - 1) ≡ min (length (bits_in_turn false (numbers_in width bytes))) (2 ^ 64 - 1)
counted_more width i n count more bytes within is added before =
    let rest : List ℕ = drop (i + 1) (numbers_in width bytes) in
    let split = ap (λ (l : List ℕ). length (bits_in_turn false l)) (drop-numbers_in width i bytes within) ∙ length-bits_in_turn_cons (big_number width (drop (width * i) bytes)) rest in
    omega (arith, is, added, before, split)

-- all numbers fit, and bytes are left
pub checked_count-short : (width i : ℕ) (bytes : List ℕ) → length bytes / width ≤ i → 0 < length bytes % width
    → list_all (number_fits width) (drop i (numbers_in width bytes)) ≡ list_all (number_fits width) (numbers_in width bytes) → Err ShortNumber ≡ checked_count (run_reading width bytes)
checked_count-short width i bytes past part same =
    let all : list_all (number_fits width) (numbers_in width bytes) ≡ true = sym same ∙ rw (drop-numbers_in_end width i bytes past) refl in
    rw (all, lt-ltb 0 (length bytes % width) part) refl

-- all numbers fit, and no byte is left
pub checked_count-whole : (width i count : ℕ) (bytes : List ℕ) → length bytes / width ≤ i → length bytes % width ≤ 0 → count < 2 ^ 64
    → list_all (number_fits width) (drop i (numbers_in width bytes)) ≡ list_all (number_fits width) (numbers_in width bytes)
    → min (count + length (bits_in_turn false (drop i (numbers_in width bytes)))) (2 ^ 64 - 1) ≡ min (length (bits_in_turn false (numbers_in width bytes))) (2 ^ 64 - 1)
    → Ok count ≡ checked_count (run_reading width bytes)
checked_count-whole width i count bytes past whole small same counted =
    let none = drop-numbers_in_end width i bytes past in
    let all : list_all (number_fits width) (numbers_in width bytes) ≡ true = sym same ∙ rw none refl in
    let left : length (bits_in_turn false (drop i (numbers_in width bytes))) ≡ 0 = rw none refl in
    let exact : min (length (bits_in_turn false (numbers_in width bytes))) (2 ^ 64 - 1) ≡ count = omega (arith, counted, left, small) in
    rw (all, le-ltb 0 (length bytes % width) whole, exact) refl

-- ---- the bits

-- room for the next run
pub next_run_fits : (width i n : ℕ) (bytes : List ℕ) (bits : List Bool) (bit : Bool) → i < length bytes / width → n ≡ big_number width (drop (width * i) bytes)
    → bits ++ bits_in_turn bit (drop i (numbers_in width bytes)) ≡ bits_in_turn false (numbers_in width bytes) → length (bits_in_turn false (numbers_in width bytes)) < 2 ^ 63 → length bits + n < 2 ^ 63
next_run_fits width i n bytes bits bit within is so_far small =
    let rest : List Bool = bits_in_turn (not bit) (drop (i + 1) (numbers_in width bytes)) in
    let split : bits ++ (replicate n bit ++ rest) ≡ bits_in_turn false (numbers_in width bytes) = rw is (rw (drop-numbers_in width i bytes within) at so_far) in
    let whole = length-append bits (replicate n bit ++ rest) in
    let later = length-append (replicate n bit) rest in
    let run = length-replicate n bit in
    let same = ap (length {A = Bool}) split in
    omega (arith, whole, later, run, same, small)

-- the bits with the next run
pub next_run : (width i n : ℕ) (bytes : List ℕ) (bits new : List Bool) (bit : Bool) → i < length bytes / width → n ≡ big_number width (drop (width * i) bytes)
    → bits ++ bits_in_turn bit (drop i (numbers_in width bytes)) ≡ bits_in_turn false (numbers_in width bytes) → new ≡ bits ++ replicate n bit
    → new ++ bits_in_turn (not bit) (drop (i + 1) (numbers_in width bytes)) ≡ bits_in_turn false (numbers_in width bytes)
next_run width i n bytes bits new bit within is so_far more =
    rw (more, append_assoc, is) (rw (drop-numbers_in width i bytes within) at so_far)

-- the bits after the last run
pub last_run : (width i : ℕ) (bytes : List ℕ) (bits : List Bool) (bit : Bool) → length bytes / width ≤ i
    → bits ++ bits_in_turn bit (drop i (numbers_in width bytes)) ≡ bits_in_turn false (numbers_in width bytes) → bits ≡ bits_in_turn false (numbers_in width bytes)
last_run width i bytes bits bit past so_far =
    sym (append-nil bits) ∙ rw (drop-numbers_in_end width i bytes past) at so_far

-- ---- what is spelled

-- so many bytes a length
pub length-run_spelling : (width n : ℕ) (lengths : List ℕ) (bits : List Bool) → lengths ≡ run_lengths bits → n ≡ width * length lengths → list_all (number_fits width) lengths ≡ true
    → Some n ≡ option_map (length {A = ℕ}) (run_spelling width bits)
length-run_spelling width n lengths bits are count fit =
    let all : list_all (number_fits width) (run_lengths bits) ≡ true = rw are at fit in
    rw (all, length-flat_map-big_bytes width (run_lengths bits), count, are) refl

-- the bytes of a spelling are read as the bits
spelled_reads_back : {X : Type 0} (width : ℕ) (bits : List Bool) (items : X → List ℕ) (bytes : Option X) → 0 < width → option_map items bytes ≡ run_spelling width bits
    → IfSome bytes (λ v. run_reading width (items v) ≡ Ok bits)
spelled_reads_back width bits items None some is = tt
spelled_reads_back width bits items (Some v) some is = run_reading-spelling width bits (items v) some (sym is)

-- the same of a call that may lack memory
pub spelled_reads_back_ok : {X E : Type 0} (width : ℕ) (bits : List Bool) (items : X → List ℕ) (result : Result (Option X) E) → 0 < width
    → IfOk result (λ bytes. option_map items bytes ≡ run_spelling width bits) → IfOk result (λ bytes. IfSome bytes (λ v. run_reading width (items v) ≡ Ok bits))
spelled_reads_back_ok width bits items (Ok bytes) some is = spelled_reads_back width bits items bytes some is
spelled_reads_back_ok width bits items (Err e) some is = tt
