-- Runs of bits put into bytes.
use Rattle.std.proofs.Common.{◌≡◌, ◌⊎◌, ℕ, zero, suc, ◌+◌, ◌-◌, ◌*◌, ◌/◌, ◌%◌, ◌^◌, ◌<◌, ◌≤◌, min, Bool, true, false, List, [], ◌∷◌, ◌++◌, length, take, drop, replicate, get_or, set, bit_or, refl, sym, ap, ◌∙◌, arith, inl, inr, add-zero}
use Rattle.std.proofs.lemmas.List.{append-nil, append_assoc, get_or_at, length-append, length-drop, length-replicate, length-take-le, replicate-append-replicate, set-get_or, set_at, take-append-drop, take_all}
use Rattle.std.proofs.lemmas.Bool.{cases_eq}
use Rattle.std.proofs.lemmas.Nat.{one_shl, or_block, pow-add, pow_pos}
use Rattle.std.proofs.Math.Nat.{mod-eq_of_lt, mul-le-mul_right, zero-mul}
use Rattle.std.proofs.Math.Pow.{pow_mono}
use Rattle.pc_model.proofs.BytesLemmas.{bit_bytes-append, bit_bytes-byte, length-bit_bytes, low_first-append, low_first-false, low_first-lt, low_first-true}
use Rattle.pc_model.specs.MapSpelling.{bit_bytes, bitset_spelling, byte_count, low_first, number_fits}
use Rattle.byteorder.specs.Endian.{big_bytes}
use Rattle.byteorder.specs.Numbers.{length-bytes_high_first}
use Rattle.std.specs.Option.{IfSome, option_map}
use Rattle.std.specs.Result.{IfOk}
use Rattle.std.specs.declared.option.Option.{Option}
use Rattle.std.specs.declared.result.Result.{Result}
use Rattle.std.specs.declared.result.Result.TheVariants.{Ok, Err}
use Rattle.pc_model.proofs.ReadingLemmas.{bitset_reading-spelling}
use Rattle.pc_model.specs.MapReading.{bitset_reading}
use Rattle.std.specs.declared.option.Option.TheVariants.{None, Some}
use Rattle.std.specs.List.{slice_get}
use Rattle.pc_model.proofs.RunsAt.{IsAtRun, IsAtRun-end, IsNextRun}
use Rattle.pc_model.specs.Bits.{zero_runs}
use Rattle.std.specs.Int.{div_ceil}
use Rattle.pc_bitset.specs.Packing.{AppendsBits}
use lib.Bits.{or_zero_r}

-- a bytes count as `div_ceil` gives it
byte_count-div_ceil : (n : ℕ) → div_ceil n 8 ≡ byte_count n
byte_count-div_ceil n = omega arith

-- the length of a spelling
pub length-bitset_spelling : (width count : ℕ) (bits : List Bool) → count ≡ length bits → true ≡ number_fits width count
    → Some (width + div_ceil count 8) ≡ option_map (length {A = ℕ}) (bitset_spelling width bits)
length-bitset_spelling width count bits is fits =
    let held : number_fits width (length bits) ≡ true = rw (← is) (sym fits) in
    let len = length-append (big_bytes width (length bits)) (bit_bytes bits) in
    rw (held, len, length-bytes_high_first width (length bits), length-bit_bytes bits, is, byte_count-div_ceil (length bits)) refl

-- 1 bits as the code computes them
pub low_first-ones : (n : ℕ) → n ≤ 8 → (1 * 2 ^ n) % 65536 - 1 ≡ low_first (replicate n true)
low_first-ones n few = let shifted = one_shl n 16 (omega arith) in omega (arith, shifted, low_first-true n)

-- bits above those of a number
bit_or-high : (low n used : ℕ) → low < 2 ^ used → bit_or low (n * 2 ^ used) ≡ low + n * 2 ^ used
bit_or-high low n used small =
    let e = or_block used 0 n low 0 small (pow_pos used) in
    let left : 0 * 2 ^ used + low ≡ low = omega arith in
    let right : n * 2 ^ used + 0 ≡ n * 2 ^ used = omega arith in
    rw (left, right, or_zero_r low) at e ∙ omega arith

-- the bytes of one bit many times
bit_bytes-eights : (bit : Bool) (q : ℕ) → bit_bytes (replicate (8 * q) bit) ≡ replicate q (low_first (replicate 8 bit))
bit_bytes-eights bit zero = refl
bit_bytes-eights bit (suc q) =
    let e : 8 * suc q ≡ 8 + 8 * q = omega arith in
    rw (e, ← replicate-append-replicate 8 (8 * q) bit, bit_bytes-append 1 (replicate 8 bit) (replicate (8 * q) bit) refl, bit_bytes-eights bit q) refl

-- where the last of them fills its byte
bit_bytes-replicate_whole : (bit : Bool) (n : ℕ) → n % 8 ≡ 0 → bit_bytes (replicate n bit) ≡ replicate (n / 8) (low_first (replicate 8 bit))
bit_bytes-replicate_whole bit n whole =
    let e : n ≡ 8 * (n / 8) = omega arith in
    ap (λ (k : ℕ). bit_bytes (replicate k bit)) e ∙ bit_bytes-eights bit (n / 8)

-- where the last byte holds fewer than eight
bit_bytes-replicate_part : (bit : Bool) (n : ℕ) → 0 < n % 8 → bit_bytes (replicate n bit) ≡ replicate (n / 8) (low_first (replicate 8 bit)) ++ low_first (replicate (n % 8) bit) ∷ []
bit_bytes-replicate_part bit n part =
    let e : n ≡ 8 * (n / 8) + n % 8 = omega arith in
    let len = length-replicate (n % 8) bit in
    ap (λ (k : ℕ). bit_bytes (replicate k bit)) e
    ∙ rw (← replicate-append-replicate (8 * (n / 8)) (n % 8) bit, bit_bytes-append (n / 8) (replicate (8 * (n / 8)) bit) (replicate (n % 8) bit) (length-replicate (8 * (n / 8)) bit), bit_bytes-eights bit (n / 8), bit_bytes-byte (replicate (n % 8) bit) (omega (arith, len)) (omega (arith, len))) refl

-- the bytes after a resize
resized : (old : List ℕ) (len q x : ℕ) → len ≡ length old → take (len + q) old ++ replicate (len + q - len) x ≡ old ++ replicate q x
resized old len q x is =
    let count : len + q - len ≡ q = omega arith in
    rw (count, take_all (len + q) old (omega (arith, is))) refl

-- bytes that grew by whole ones
pub grown_whole : (old new : List ℕ) (len n x : ℕ) (bit : Bool) → len ≡ length old → x ≡ low_first (replicate 8 bit) → n % 8 ≡ 0
    → new ≡ take (len + n / 8) old ++ replicate (len + n / 8 - len) x → new ≡ old ++ bit_bytes (replicate n bit)
grown_whole old new len n x bit count byte whole is =
    is ∙ resized old len (n / 8) x count ∙ rw (byte, bit_bytes-replicate_whole bit n whole) refl

-- bytes that grew by whole ones and one more
pub grown_part : (old mid new : List ℕ) (len n x y : ℕ) (bit : Bool) → len ≡ length old → x ≡ low_first (replicate 8 bit) → y ≡ low_first (replicate (n % 8) bit) → 0 < n % 8
    → mid ≡ take (len + n / 8) old ++ replicate (len + n / 8 - len) x → new ≡ mid ++ y ∷ [] → new ≡ old ++ bit_bytes (replicate n bit)
grown_part old mid new len n x y bit count byte last part is more =
    more ∙ rw (is, resized old len (n / 8) x count, byte, last, bit_bytes-replicate_part bit n part, append_assoc) refl

-- more bits after those that bytes end with
pub AppendsBits-more : (place within n : ℕ) (bit : Bool) (old mid new : List ℕ) → within ≤ n → (n ≡ within) ⊎ ((place + within) % 8 ≡ 0)
    → AppendsBits place bit within old mid → new ≡ mid ++ bit_bytes (replicate (n - within) bit) → AppendsBits place bit n old new
AppendsBits-more place within n bit old mid new few ends appends is head bits count held = go ends where
  go : (n ≡ within) ⊎ ((place + within) % 8 ≡ 0) → new ≡ head ++ bit_bytes (bits ++ replicate n bit)
  go (inl all) =
      let none : n - within ≡ 0 = omega arith in
      is ∙ rw (none, append-nil, appends head bits count held, all) refl
  go (inr whole) =
      let len : length (bits ++ replicate within bit) ≡ 8 * ((place + within) / 8) = length-append bits (replicate within bit) ∙ rw (count, length-replicate within bit) (omega (arith, whole)) in
      let sum : within + (n - within) ≡ n = omega arith in
      let bits_is : (bits ++ replicate within bit) ++ replicate (n - within) bit ≡ bits ++ replicate n bit = append_assoc bits (replicate within bit) (replicate (n - within) bit) ∙ rw (replicate-append-replicate within (n - within) bit, sum) refl in
      is ∙ rw (appends head bits count held, append_assoc, ← bit_bytes-append ((place + within) / 8) (bits ++ replicate within bit) (replicate (n - within) bit) len, bits_is) refl

-- a byte with more bits above those that it has
low_first-or : (used n : ℕ) (bit : Bool) (bits : List Bool) → length bits ≡ used → used + n ≤ 8
    → bit_or (low_first bits) (low_first (replicate n bit) * 2 ^ used % 256) ≡ low_first (bits ++ replicate n bit)
low_first-or used n bit bits count room =
    let more : ℕ = low_first (replicate n bit) in
    let small : more < 2 ^ n = rw (length-replicate {A = Bool} n bit) at (low_first-lt (replicate n bit)) in
    let low : low_first bits < 2 ^ used = rw count at (low_first-lt bits) in
    let product : (more + 1) * 2 ^ used ≤ 2 ^ n * 2 ^ used = mul-le-mul_right (2 ^ used) (omega arith) in
    let power : 2 ^ n * 2 ^ used ≤ 2 ^ 8 = rw (← pow-add 2 n used) (pow_mono {j = 8} (omega arith)) in
    let one_more : (more + 1) * 2 ^ used ≡ more * 2 ^ used + 2 ^ used = omega arith in
    let pos = pow_pos used in
    let fits : more * 2 ^ used < 256 = omega arith in
    rw (mod-eq_of_lt fits, bit_or-high (low_first bits) more used low, low_first-append bits (replicate n bit), count) (omega arith)

-- bits in a last byte that holds some
AppendsBits-open : (m used n : ℕ) (bit : Bool) (head : List ℕ) (bits : List Bool) (old : List ℕ) (last : ℕ) → used + n ≤ 8 → 0 < used → used < 8 → length bits ≡ 8 * m + used
    → old ≡ head ++ bit_bytes bits → get_or old (length old - 1) last ≡ last
    → set old (length old - 1) (bit_or last (low_first (replicate n bit) * 2 ^ used % 256)) ≡ head ++ bit_bytes (bits ++ replicate n bit)
AppendsBits-open m used n bit head bits old last room some few count held is =
    let front : List Bool = take (8 * m) bits in
    let open_bits : List Bool = drop (8 * m) bits in
    let front_len : length front ≡ 8 * m = length-take-le (8 * m) bits (omega (arith, count)) in
    let open_len : length open_bits ≡ used = length-drop (8 * m) bits ∙ omega (arith, count) in
    let parts : front ++ open_bits ≡ bits = take-append-drop (8 * m) bits in
    let bytes : bit_bytes bits ≡ bit_bytes front ++ low_first open_bits ∷ [] =
    ap bit_bytes (sym parts) ∙ bit_bytes-append m front open_bits front_len ∙ rw (bit_bytes-byte open_bits (omega (arith, open_len)) (omega (arith, open_len))) refl in
    let before : old ≡ (head ++ bit_bytes front) ++ low_first open_bits ∷ [] = held ∙ rw (bytes, append_assoc) refl in
    let before_len = length-append (head ++ bit_bytes front) (low_first open_bits ∷ []) in
    let place : length (head ++ bit_bytes front) ≡ length old - 1 = rw before (omega (arith, before_len)) in
    let last_is : last ≡ low_first open_bits = sym is ∙ ap (λ (l : List ℕ). get_or l (length old - 1) last) before ∙ get_or_at (head ++ bit_bytes front) (low_first open_bits) [] last (length old - 1) place in
    let more_len = length-append open_bits (replicate n bit) in
    let n_len = length-replicate n bit in
    let after : bit_bytes (bits ++ replicate n bit) ≡ bit_bytes front ++ low_first (open_bits ++ replicate n bit) ∷ [] =
    ap (λ (l : List Bool). bit_bytes (l ++ replicate n bit)) (sym parts)
    ∙ rw (append_assoc, bit_bytes-append m front (open_bits ++ replicate n bit) front_len, bit_bytes-byte (open_bits ++ replicate n bit) (omega (arith, more_len, open_len)) (omega (arith, more_len, open_len, n_len))) refl in
    ap (λ (l : List ℕ). set l (length old - 1) (bit_or last (low_first (replicate n bit) * 2 ^ used % 256))) before
    ∙ set_at (head ++ bit_bytes front) (low_first open_bits) [] _ (length old - 1) place
    ∙ rw (last_is, low_first-or used n bit open_bits open_len room, after, append_assoc) refl

-- bits within the last byte
pub AppendsBits-within : (place n : ℕ) (bit : Bool) (old : List ℕ) (last : ℕ) → place % 8 + n ≤ 8 → (place % 8 ≡ 0 → n ≡ 0) → get_or old (length old - 1) last ≡ last
    → AppendsBits place bit n old (set old (length old - 1) (bit_or last (low_first (replicate n bit) * 2 ^ (place % 8) % 256)))
AppendsBits-within place n bit old last room begun is head bits count held = elim (cases_eq (place % 8) 0) [
  | inl none ↦
      let empty : n ≡ 0 = begun none in
      let zero_mul : 0 * 2 ^ (place % 8) % 256 ≡ 0 = rw (zero-mul (2 ^ (place % 8))) refl in
      let same : set old (length old - 1) last ≡ old = ap (λ (x : ℕ). set old (length old - 1) x) (sym is) ∙ set-get_or old (length old - 1) last in
      rw (empty, zero_mul, or_zero_r last, append-nil) (same ∙ held)
  | inr some ↦ AppendsBits-open (place / 8) (place % 8) n bit head bits old last room (omega (arith, some)) (omega arith) (omega (arith, count)) held is
]

-- ---- the walk over the runs

-- the bits up to the end of the next run
pub packed_run : (bits : List Bool) (i place start size : ℕ) (head old mid new : List ℕ) → IsAtRun bits i place → IsNextRun bits i place start size
    → old ≡ head ++ bit_bytes (take place bits) → AppendsBits place true (start - place) old mid → AppendsBits start false size mid new → new ≡ head ++ bit_bytes (take (start + size) bits)
packed_run bits i place start size head old mid new at next is ones zeros =
    let after_ones : mid ≡ head ++ bit_bytes (take start bits) = ones head (take place bits) (length-take-le place bits at.within) is ∙ rw next.ones refl in
    zeros head (take start bits) (length-take-le start bits (omega (arith, next.within))) after_ones ∙ rw next.zeros refl

-- the bits after the last run
pub packed_end : (bits : List Bool) (i place count : ℕ) (head old new : List ℕ) → count ≡ length bits → IsAtRun bits i place → None ≡ slice_get (zero_runs bits) i
    → old ≡ head ++ bit_bytes (take place bits) → AppendsBits place true (count - place) old new → new ≡ head ++ bit_bytes bits
packed_end bits i place count head old new all at ends is ones =
    ones head (take place bits) (length-take-le place bits at.within) is ∙ rw (all, ← IsAtRun-end bits i place at (sym ends)) refl

-- ---- what is spelled is read back

-- the bytes of a spelling are read as the bits
spelled_reads_back : {X : Type 0} (width : ℕ) (bits : List Bool) (items : X → List ℕ) (bytes : Option X) → option_map items bytes ≡ bitset_spelling width bits
    → IfSome bytes (λ v. bitset_reading width (items v) ≡ Ok bits)
spelled_reads_back width bits items None is = tt
spelled_reads_back width bits items (Some v) is = bitset_reading-spelling width bits (items v) (sym is)

-- the same of a call that may lack memory
pub spelled_reads_back_ok : {X E : Type 0} (width : ℕ) (bits : List Bool) (items : X → List ℕ) (result : Result (Option X) E) → IfOk result (λ bytes. option_map items bytes ≡ bitset_spelling width bits)
    → IfOk result (λ bytes. IfSome bytes (λ v. bitset_reading width (items v) ≡ Ok bits))
spelled_reads_back_ok width bits items (Ok bytes) is = spelled_reads_back width bits items bytes is
spelled_reads_back_ok width bits items (Err e) is = tt
