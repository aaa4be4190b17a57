-- Texts put one after the other.
use Rattle.std.proofs.Common.{◌≡◌, ℕ, zero, suc, ◌+◌, ◌<◌, ◌≤◌, ◌/◌, ◌%◌, ℤ, pos, Bool, true, false, nat_lt, if◌then◌else◌, List, [], ◌∷◌, ◌++◌, length, map, drop, get_or, Option, Result, Ok, Err, refl, sym, ap, ◌∙◌, append_assoc, length-append, drop-cons, add-one, arith}
use Rattle.std.specs.List.{flat_map}
use Rattle.std.proofs.lemmas.List.{append-nil, drop_all}
use Rattle.pc_model.specs.Record.{Record}
use Rattle.pc_bytes.specs.Varint.{groups_of, shortest_of, zigzag_of}
use Rattle.pc_batch_writer.specs.declared.fault.WriteFault.{WriteFault}
use Rattle.pc_batch_writer.specs.declared.fault.WriteFault.TheVariants.{Empty, OffsetsFall, OffsetTooLarge, TimeTooFar, TooLong, NoMemory}
use Rattle.pc_batch_writer.specs.Writing.{Fails, Puts, sized_spelling, nullable_spelling, header_spelling, headers_spelling, counted_spelling, body_spelling, record_spelling}

-- a part that was too long makes the whole too long
pub Fails-more : (fault : WriteFault) (size more : ℕ) → size ≤ more → Fails size fault → Fails more fault
Fails-more Empty size more le h = h
Fails-more (OffsetsFall a b) size more le h = h
Fails-more OffsetTooLarge size more le h = h
Fails-more TimeTooFar size more le h = h
Fails-more TooLong size more le h = omega arith
Fails-more NoMemory size more le h = tt

-- the first of two texts was put before
pub Puts-front : (result : Result (Unit {0}) WriteFault) (size more : ℕ) (front text old mid new : List ℕ) → mid ≡ old ++ front → size ≤ more → Puts size text mid new result → Puts more (front ++ text) old new result
Puts-front (Ok done) size more front text old mid new e le h = h ∙ ap (λ (x : List ℕ). x ++ text) e ∙ append_assoc old front text
Puts-front (Err fault) size more front text old mid new e le h = Fails-more fault size more le h

module _ {X Y : Type 0} (f : Y → List ℕ) (g : X → Y) (xs : List X) (i : ℕ) (d : X) (lt : i < length xs) where
  item-first : map g (drop i xs) ≡ g (get_or xs i d) ∷ map g (drop (i + 1) xs)
  item-first = let e : drop i xs ≡ get_or xs i d ∷ drop (i + 1) xs = rw (add-one, drop-cons xs i d lt) refl in ap (map g) e

  -- one item of those that are left is no longer than all
  pub item-le : (now old : List ℕ) → now ++ flat_map f (map g (drop i xs)) ≡ old ++ flat_map f (map g xs) → length old ≤ length now → length (f (g (get_or xs i d))) ≤ length (flat_map f (map g xs))
  item-le now old e more =
      let item = f (g (get_or xs i d)) in let rest = flat_map f (map g (drop (i + 1) xs)) in let all = flat_map f (map g xs) in
      let same : now ++ (item ++ rest) ≡ old ++ all = ap (λ ys. now ++ flat_map f ys) (sym item-first) ∙ e in
      let a = length-append now (item ++ rest) in let b = length-append item rest in let c = length-append old all in
      let k : length (now ++ (item ++ rest)) ≡ length (old ++ all) = ap length same in omega arith

  -- one more item was put
  item-put : (now new old : List ℕ) → new ≡ now ++ f (g (get_or xs i d)) → now ++ flat_map f (map g (drop i xs)) ≡ old ++ flat_map f (map g xs)
      → new ++ flat_map f (map g (drop (i + 1) xs)) ≡ old ++ flat_map f (map g xs)
  item-put now new old put e =
      let item = f (g (get_or xs i d)) in let rest = flat_map f (map g (drop (i + 1) xs)) in
      ap (λ (x : List ℕ). x ++ rest) put ∙ append_assoc now item rest ∙ ap (λ ys. now ++ flat_map f ys) (sym item-first) ∙ e

-- none is left
pub all-put : {X Y : Type 0} (f : Y → List ℕ) (g : X → Y) (xs : List X) (i : ℕ) (now old : List ℕ) → length xs ≤ i → now ++ flat_map f (map g (drop i xs)) ≡ old ++ flat_map f (map g xs) → now ≡ old ++ flat_map f (map g xs)
all-put f g xs i now old le e = sym (append-nil now) ∙ ap (λ ys. now ++ flat_map f (map g ys)) (sym (drop_all i xs le)) ∙ e

-- ---- a number takes a byte at least, and so does whatever has one

some-if : (b : Bool) (x y : ℕ) (xs ys : List ℕ) → 0 < length (if b then x ∷ xs else (y ∷ ys))
some-if true x y xs ys = omega arith
some-if false x y xs ys = omega arith

groups_of-some : (more u : ℕ) → 0 < length (groups_of more u)
unfolding groups_of
groups_of-some zero u = omega arith
groups_of-some (suc more) u = some-if (nat_lt u 128) u (128 + u % 128) [] (groups_of more (u / 128))

shortest_of-some : (n : ℤ) → 0 < length (shortest_of n)
unfolding shortest_of
shortest_of-some n = groups_of-some 9 (zigzag_of n)

pub sized-le : (part : List ℕ) → length part < length (sized_spelling part)
sized-le part = let a = length-append (shortest_of (pos (length part))) part in let b = shortest_of-some (pos (length part)) in omega arith

pub headers-le : (headers : List (List ℕ × Option (List ℕ))) → length headers ≤ length (headers_spelling headers)
headers-le [] = omega arith
headers-le (h ∷ hs) =
    let key = sized-le h.0 in let a = length-append (sized_spelling h.0) (nullable_spelling h.1) in let b = length-append (header_spelling h) (headers_spelling hs) in
    let r = headers-le hs in
    omega arith

pub records-le : (base : ℕ) (first : ℤ) (rs : List Record) → length rs ≤ length (flat_map (record_spelling base first) rs)
records-le base first [] = omega arith
records-le base first (r ∷ rs) =
    let one = sized-le (body_spelling base first r) in let b = length-append (record_spelling base first r) (flat_map (record_spelling base first) rs) in
    let more = records-le base first rs in
    omega arith

-- a count that is too large makes the whole too long
pub counted-fails : (fault : WriteFault) (count : ℕ) (headers : List (List ℕ × Option (List ℕ))) → count ≡ length headers → Fails count fault → Fails (length (counted_spelling headers)) fault
counted-fails fault count headers is h =
    let a = length-append (shortest_of (pos (length headers))) (headers_spelling headers) in let b = headers-le headers in
    Fails-more fault count (length (counted_spelling headers)) (omega arith) h
