-- Reading headers one after the other, as the loop and the iterator do.
use Rattle.std.proofs.Common.{◌≡◌, ◌≢◌, ℕ, zero, suc, ◌-◌, ◌+◌, ◌<◌, ◌≤◌, eqb, false, List, [], ◌∷◌, length, Option, Result, Ok, Err, refl, sym, ap, ◌∙◌, arith}
use Rattle.pc_bytes.specs.Fields.{◌>>=◌}
use Rattle.pc_bytes.proofs.VarintLaws.{bind_ok}
use Rattle.pc_batch.specs.declared.fault.RecordKind.{RecordKind}
use Rattle.pc_batch.specs.declared.fault.RecordKind.TheVariants.{Leftover}
use Rattle.pc_batch.specs.Fields.{count_at}
use Rattle.pc_batch.specs.Headers.{header_at, headers_at, after_headers, all_headers_at, front_headers}

abbrev Header : Type 0
Header = List ℕ × Option (List ℕ)

abbrev Headed : Type 0
Headed = Result (List Header × List ℕ) RecordKind

abbrev headed : Header → List Header × List ℕ → Headed
headed h others = Ok (h ∷ others.0, others.1)

abbrev tail_of : List Header × List ℕ → Result (List ℕ) RecordKind
tail_of found = Ok found.1

after-rest : (h : Header) (r : Headed) → ((r >>= headed h) >>= tail_of) ≡ (r >>= tail_of)
after-rest h (Ok y) = refl
after-rest h (Err kind) = refl

-- one header passed
after-bind : (first : Result (Header × List ℕ) RecordKind) (more : List ℕ → Headed) → ((first >>= λ x. more x.1 >>= headed x.0) >>= tail_of) ≡ (first >>= λ x. more x.1 >>= tail_of)
after-bind (Err kind) more = refl
after-bind (Ok x) more = after-rest x.0 (more x.1)

after_headers-suc : (n : ℕ) (bytes : List ℕ) → after_headers (suc n) bytes ≡ (header_at bytes >>= λ x. after_headers n x.1)
unfolding after_headers headers_at
after_headers-suc n bytes = after-bind (header_at bytes) (headers_at n)

-- the loop goes on behind one more header
pub skips_one : (count i : ℕ) (bytes after : List ℕ) (x : Header) (total : Result (List ℕ) RecordKind) → i < count → header_at bytes ≡ Ok (x, after) → after_headers (count - i) bytes ≡ total → after_headers (count - (i + 1)) after ≡ total
skips_one count i bytes after x total lt h so_far =
    let k : count - i ≡ suc (count - (i + 1)) = omega arith in
    sym (ap (λ (n : ℕ). after_headers n bytes) k ∙ after_headers-suc (count - (i + 1)) bytes ∙ ap (λ (r : Result (Header × List ℕ) RecordKind). r >>= λ y. after_headers (count - (i + 1)) y.1) h) ∙ so_far

-- the loop ends at the first fault
pub skip_fails : (count i : ℕ) (bytes : List ℕ) (kind : RecordKind) (total : Result (List ℕ) RecordKind) → i < count → header_at bytes ≡ Err kind → after_headers (count - i) bytes ≡ total → total ≡ Err kind
skip_fails count i bytes kind total lt h so_far =
    let k : count - i ≡ suc (count - (i + 1)) = omega arith in
    sym so_far ∙ ap (λ (n : ℕ). after_headers n bytes) k ∙ after_headers-suc (count - (i + 1)) bytes ∙ ap (λ (r : Result (Header × List ℕ) RecordKind). r >>= λ y. after_headers (count - (i + 1)) y.1) h

-- the loop has passed them all
pub skipped_all : (count i : ℕ) (bytes : List ℕ) (total : Result (List ℕ) RecordKind) → count ≤ i → after_headers (count - i) bytes ≡ total → total ≡ Ok bytes
skipped_all count i bytes total le so_far =
    let k : count - i ≡ 0 = omega arith in
    sym so_far ∙ ap (λ (n : ℕ). after_headers n bytes) k ∙ none bytes
  where
    none : (bytes : List ℕ) → after_headers 0 bytes ≡ Ok bytes
    none bytes = unfold after_headers headers_at in refl

-- headers that are passed over are those that the iterator gives
headers_at-front : (n : ℕ) (bytes rest : List ℕ) → after_headers n bytes ≡ Ok rest → headers_at n bytes ≡ Ok (front_headers n bytes, rest)
unfolding after_headers headers_at front_headers
headers_at-front zero bytes rest h = ok_same bytes rest h
  where
    ok_same : (x y : List ℕ) → ◌≡◌ {A = Result (List ℕ) RecordKind} (Ok x) (Ok y) → ◌≡◌ {A = Result (List Header × List ℕ) RecordKind} (Ok ([], x)) (Ok ([], y))
    ok_same x y e = cc
headers_at-front (suc n) bytes rest h =
    let a = bind_ok (header_at bytes) (λ x. after_headers n x.1) rest (sym (after_headers-suc n bytes) ∙ h) in
    let more = headers_at-front n a.0.1 rest a.2 in
    rw (a.1, more) refl

-- ---- what the iterator gives

pub front-none : (count : ℕ) (bytes : List ℕ) → count ≡ 0 → front_headers count bytes ≡ []
unfolding front_headers
front-none zero bytes e = refl
front-none (suc n) bytes e = absurd (omega arith)

pub front-fails : (count : ℕ) (bytes : List ℕ) (kind : RecordKind) → header_at bytes ≡ Err kind → front_headers count bytes ≡ []
unfolding front_headers
front-fails zero bytes kind h = refl
front-fails (suc n) bytes kind h = rw h refl

pub front-step : (count : ℕ) (bytes rest : List ℕ) (x : Header) → count ≢ 0 → header_at bytes ≡ Ok (x, rest) → front_headers count bytes ≡ x ∷ front_headers (count - 1) rest
unfolding front_headers
front-step zero bytes rest x some h = absurd (some refl)
front-step (suc n) bytes rest x some h =
    let one : suc n - 1 ≡ n = omega arith in
    rw (h, one) refl

-- ---- a count, and so many headers

pub all-uncounted : (bytes : List ℕ) (kind : RecordKind) → count_at bytes ≡ Err kind → all_headers_at bytes ≡ Err kind
unfolding all_headers_at
all-uncounted bytes kind h = rw h refl

err_is : (a b : RecordKind) → ◌≡◌ {A = Result (List ℕ) RecordKind} (Err a) (Err b) → a ≡ b
err_is a b e = cc

headers_fail : (r : Headed) (kind : RecordKind) → (r >>= tail_of) ≡ Err kind → r ≡ Err kind
headers_fail (Ok x) kind e = absurd cc
headers_fail (Err k) kind e = ap (λ (k : RecordKind). Err k) (err_is k kind e)

pub all-fails : (bytes rest : List ℕ) (n : ℕ) (kind : RecordKind) → count_at bytes ≡ Ok (n, rest) → after_headers n rest ≡ Err kind → all_headers_at bytes ≡ Err kind
unfolding all_headers_at after_headers
all-fails bytes rest n kind h e = rw (h, headers_fail (headers_at n rest) kind e) refl

pub all-leftover : (bytes rest left : List ℕ) (n : ℕ) → count_at bytes ≡ Ok (n, rest) → after_headers n rest ≡ Ok left → 0 < length left → all_headers_at bytes ≡ Err Leftover
unfolding all_headers_at
all-leftover bytes rest left n h e some =
    let more : eqb (length left) 0 ≡ false = grind (arith, some) in
    rw (h, headers_at-front n rest left e, more) refl

pub all-is : (bytes rest left : List ℕ) (n : ℕ) → count_at bytes ≡ Ok (n, rest) → after_headers n rest ≡ Ok left → length left ≤ 0 → all_headers_at bytes ≡ Ok (front_headers n rest)
unfolding all_headers_at
all-is bytes rest left n h e none =
    let ended : length left ≡ 0 = omega arith in
    rw (h, headers_at-front n rest left e, ended) refl
