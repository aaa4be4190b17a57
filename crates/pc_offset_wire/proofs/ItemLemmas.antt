-- Reading items one after the other, as the loop and the iterator do.
use Rattle.std.proofs.Common.{◌≡◌, ◌≢◌, ℕ, zero, suc, ◌-◌, ◌+◌, ◌<◌, ◌≤◌, List, [], ◌∷◌, length, Result, Ok, Err, refl, sym, ap, ◌∙◌, arith}
use Rattle.pc_model.specs.declared.wire_fault.WireFault.{WireFault}
use Rattle.std.specs.Int.{w32}
use Rattle.pc_model.specs.MessageReading.{◌>>=◌, size_at, items_at, array_at}
use Rattle.pc_offset_wire.specs.Items.{after_items, and_on, front_items}

-- the value of a step that did not fail
pub bind_ok : {A B : Type 0} (r : Result A WireFault) (f : A → Result B WireFault) (y : B) → (r >>= f) ≡ Ok y → (x : A) × (r ≡ Ok x) × (f x ≡ Ok y)
bind_ok (Ok x) f y e = (x, refl, e)
bind_ok (Err d) f y e = absurd cc

-- an item, and the reading of those behind it
module _ {A : Type 0} (item_at : List ℕ → Result (A × List ℕ) WireFault) where
  abbrev Listed : Type 0
  Listed = Result (List A × List ℕ) WireFault

  abbrev with_first : A → List A × List ℕ → Listed
  with_first x others = Ok (x ∷ others.0, others.1)

  abbrev rest_of : List A × List ℕ → Result (List ℕ) WireFault
  rest_of found = Ok found.1

  after-rest : (x : A) (r : Listed) → ((r >>= with_first x) >>= rest_of) ≡ (r >>= rest_of)
  after-rest x (Ok y) = refl
  after-rest x (Err fault) = refl

  after-bind : (first : Result (A × List ℕ) WireFault) (more : List ℕ → Listed) → ((first >>= λ x. more x.1 >>= with_first x.0) >>= rest_of) ≡ (first >>= λ x. more x.1 >>= rest_of)
  after-bind (Err fault) more = refl
  after-bind (Ok x) more = after-rest x.0 (more x.1)

  after_items-suc : (n : ℕ) (bytes : List ℕ) → after_items item_at (suc n) bytes ≡ (item_at bytes >>= λ x. after_items item_at n x.1)
  unfolding after_items items_at
  after_items-suc n bytes = after-bind (item_at bytes) (items_at item_at n)

  -- the loop goes on behind one more item
  pub skips_one : (count i : ℕ) (bytes after : List ℕ) (x : A) (total : Result (List ℕ) WireFault) → i < count → item_at bytes ≡ Ok (x, after) → after_items item_at (count - i) bytes ≡ total → after_items item_at (count - (i + 1)) after ≡ total
  skips_one count i bytes after x total lt h so_far =
      let k : count - i ≡ suc (count - (i + 1)) = omega arith in
      sym (ap (λ (n : ℕ). after_items item_at n bytes) k ∙ after_items-suc (count - (i + 1)) bytes ∙ ap (λ (r : Result (A × List ℕ) WireFault). r >>= λ y. after_items item_at (count - (i + 1)) y.1) h) ∙ so_far

  -- the loop ends at the first fault
  pub skip_fails : (count i : ℕ) (bytes : List ℕ) (fault : WireFault) (total : Result (List ℕ) WireFault) → i < count → item_at bytes ≡ Err fault → after_items item_at (count - i) bytes ≡ total → total ≡ Err fault
  skip_fails count i bytes fault total lt h so_far =
      let k : count - i ≡ suc (count - (i + 1)) = omega arith in
      sym so_far ∙ ap (λ (n : ℕ). after_items item_at n bytes) k ∙ after_items-suc (count - (i + 1)) bytes ∙ ap (λ (r : Result (A × List ℕ) WireFault). r >>= λ y. after_items item_at (count - (i + 1)) y.1) h

  -- the loop has passed them all
  none_after : (bytes : List ℕ) → after_items item_at 0 bytes ≡ Ok bytes
  unfolding after_items items_at
  none_after bytes = refl

  pub skipped_all : (count i : ℕ) (bytes : List ℕ) (total : Result (List ℕ) WireFault) → count ≤ i → after_items item_at (count - i) bytes ≡ total → total ≡ Ok bytes
  skipped_all count i bytes total le so_far =
      let k : count - i ≡ 0 = omega arith in
      sym so_far ∙ ap (λ (n : ℕ). after_items item_at n bytes) k ∙ none_after bytes

  ok_same : (x y : List ℕ) → ◌≡◌ {A = Result (List ℕ) WireFault} (Ok x) (Ok y) → ◌≡◌ {A = Listed} (Ok ([], x)) (Ok ([], y))
  ok_same x y e = cc

  -- items that are passed over are those that the iterator gives
  items_at-front : (n : ℕ) (bytes rest : List ℕ) → after_items item_at n bytes ≡ Ok rest → items_at item_at n bytes ≡ Ok (front_items item_at n bytes, rest)
  unfolding after_items items_at front_items
  items_at-front zero bytes rest h = ok_same bytes rest h
  items_at-front (suc n) bytes rest h =
      let a = bind_ok (item_at bytes) (λ x. after_items item_at n x.1) rest (sym (after_items-suc n bytes) ∙ h) in
      let more = items_at-front n a.0.1 rest a.2 in
      rw (a.1, more) refl

  err_is : (a b : WireFault) → ◌≡◌ {A = Result (List ℕ) WireFault} (Err a) (Err b) → a ≡ b
  err_is a b e = cc

  fails_so : (r : Listed) (fault : WireFault) → (r >>= rest_of) ≡ Err fault → r ≡ Err fault
  fails_so (Ok x) fault e = absurd cc
  fails_so (Err k) fault e = ap (λ (k : WireFault). Err k) (err_is k fault e)

  items_at-fails : (n : ℕ) (bytes : List ℕ) (fault : WireFault) → after_items item_at n bytes ≡ Err fault → items_at item_at n bytes ≡ Err fault
  unfolding after_items
  items_at-fails n bytes fault h = fails_so (items_at item_at n bytes) fault h

  -- ---- what the iterator gives

  pub front-none : (count : ℕ) (bytes : List ℕ) → count ≡ 0 → front_items item_at count bytes ≡ []
  unfolding front_items
  front-none zero bytes e = refl
  front-none (suc n) bytes e = absurd (omega arith)

  pub front-fails : (count : ℕ) (bytes : List ℕ) (fault : WireFault) → item_at bytes ≡ Err fault → front_items item_at count bytes ≡ []
  unfolding front_items
  front-fails zero bytes fault h = refl
  front-fails (suc n) bytes fault h = rw h refl

  pub front-step : (count : ℕ) (bytes rest : List ℕ) (x : A) → count ≢ 0 → item_at bytes ≡ Ok (x, rest) → front_items item_at count bytes ≡ x ∷ front_items item_at (count - 1) rest
  unfolding front_items
  front-step zero bytes rest x some h = absurd (some refl)
  front-step (suc n) bytes rest x some h =
      let one : suc n - 1 ≡ n = omega arith in
      rw (h, one) refl

  fewer : (n : ℕ) → ((bytes : List ℕ) → length (front_items item_at n bytes) ≤ n) → (first : Result (A × List ℕ) WireFault) → length (and_on first (front_items item_at n)) ≤ suc n
  fewer n others (Ok x) = omega (arith, others x.1)
  fewer n others (Err fault) = omega arith

  -- they are so many at most
  pub length-front_items : (count : ℕ) (bytes : List ℕ) → length (front_items item_at count bytes) ≤ count
  unfolding front_items
  length-front_items zero bytes = omega arith
  length-front_items (suc n) bytes = fewer n (length-front_items n) (item_at bytes)

  -- ---- a count, and so many items

  pub array-uncounted : (bytes : List ℕ) (fault : WireFault) → size_at w32 bytes ≡ Err fault → array_at item_at bytes ≡ Err fault
  unfolding array_at
  array-uncounted bytes fault h = rw h refl

  pub array-fails : (bytes rest : List ℕ) (n : ℕ) (fault : WireFault) → size_at w32 bytes ≡ Ok (n, rest) → after_items item_at n rest ≡ Err fault → array_at item_at bytes ≡ Err fault
  unfolding array_at
  array-fails bytes rest n fault h e = rw h (items_at-fails n rest fault e)

  pub array-is : (bytes rest left : List ℕ) (n : ℕ) → size_at w32 bytes ≡ Ok (n, rest) → after_items item_at n rest ≡ Ok left → array_at item_at bytes ≡ Ok (front_items item_at n rest, left)
  unfolding array_at
  array-is bytes rest left n h e = rw h (items_at-front n rest left e)
