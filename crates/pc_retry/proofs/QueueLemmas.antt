-- What a queue keeps of each part, while records begin to wait and are taken out.
use Rattle.std.proofs.Common.{◌≡◌, ℕ, zero, suc, ◌+◌, ◌<◌, ◌≤◌, Bool, true, false, not, ◌==◌, cond, List, [], ◌∷◌, ◌++◌, map, length, get_or, set, refl, sym, ap, subst, ◌∙◌, arith, inl, inr, eq-eqb, get_or-set_other, get_or-set_same}
use Rattle.std.specs.Prelude.{filter, slice_index}
use Rattle.std.specs.List.{sum_by}
use Rattle.std.specs.List.Sorted.{IsPermutation}
use Rattle.std.specs.BinaryHeap.{IsHeap}
use Rattle.std.specs.declared.cmp.Reverse.{Reverse}
use Rattle.std.proofs.lemmas.Bool.{cases_Bool, eqb-true}
use Rattle.std.proofs.lemmas.List.{length-map}
use Rattle.std.proofs.lemmas.List.Sums.{length-filter, sum_by-cons}
use Rattle.std.proofs.lemmas.List.Sorted.{IsPermutation-map, sum_by-IsPermutation}
use Rattle.pc_retry.specs.declared.queue.Retry.{Retry}
use Rattle.pc_retry.specs.Offsets.{Hold, Kept, times}
use Rattle.pc_retry.specs.Waiting.{DropsPart, IsQueue, KeepsParts, by_time, kept_at, nothing, offsets_of, room_at}

-- ---- the offsets of a part, in whatever order

times-step : (b : Bool) (p o : ℕ) (r : Retry) (rs : List Retry) (n : ℕ)
    → times o (offsets_of p rs) ≡ n
    → times o (map (λ r. r.offset) (cond b (r ∷ filter (λ r. r.part == p) rs) (filter (λ r. r.part == p) rs)))
    ≡ cond b (cond (r.offset == o) 1 0) 0 + n
times-step true p o r rs n more = sum_by-cons (λ u. cond (u == o) 1 0) r.offset (offsets_of p rs)
    ∙ ap (λ (m : ℕ). cond (r.offset == o) 1 0 + m) more
times-step false p o r rs n more = omega (arith, more)

times-offsets : (p o : ℕ) (rs : List Retry) → times o (offsets_of p rs)
    ≡ sum_by (λ r. cond (r.part == p) (cond (r.offset == o) 1 0) 0) rs
times-offsets p o [] = refl
times-offsets p o (r ∷ rs) = times-step (r.part == p) p o r rs _ (times-offsets p o rs)
    ∙ sym (sum_by-cons (λ (q : Retry). cond (q.part == p) (cond (q.offset == o) 1 0) 0) r rs)

length-offsets : (p : ℕ) (rs : List Retry) → length (offsets_of p rs)
    ≡ sum_by (λ r. cond (r.part == p) 1 0) rs
length-offsets p rs = length-map (filter (λ r. r.part == p) rs) (λ (r : Retry). r.offset)
    ∙ length-filter (λ (r : Retry). r.part == p) rs

-- retries in another order hold the same
pub hold-moved : (p : ℕ) (rs qs : List Retry) (kept : Kept) → IsPermutation rs qs
    → Hold (offsets_of p rs) kept → Hold (offsets_of p qs) kept
hold-moved p rs qs kept moved hold = record {
  each = λ o. hold.each o ∙ ap (λ (n : ℕ). n + times o kept.gone)
      (times-offsets p o rs
      ∙ sym (sum_by-IsPermutation (λ (r : Retry). cond (r.part == p) (cond (r.offset == o) 1 0) 0) rs qs moved)
      ∙ sym (times-offsets p o qs));
  count = hold.count ∙ ap (λ (n : ℕ). n + length kept.gone)
      (length-offsets p rs
      ∙ sym (sum_by-IsPermutation (λ (r : Retry). cond (r.part == p) 1 0) rs qs moved)
      ∙ sym (length-offsets p qs));
}

-- one more retry is one of its part alone
offsets-here : (r : Retry) (rs : List Retry) → offsets_of r.part (r ∷ rs)
    ≡ r.offset ∷ offsets_of r.part rs
offsets-here r rs = rw (eq-eqb r.part r.part refl) refl

offsets-apart : (p : ℕ) (r : Retry) (rs : List Retry) → (r.part == p) ≡ false
    → offsets_of p (r ∷ rs) ≡ offsets_of p rs
offsets-apart p r rs apart = rw apart refl

-- those of a part are none where its retries are left out, and those of another part the same
offsets-dropped : (p : ℕ) (rs : List Retry) → offsets_of p (filter (λ r. not (r.part == p)) rs) ≡ []
offsets-dropped p [] = refl
offsets-dropped p (r ∷ rs) = elim (cases_Bool (r.part == p)) [
  | inl here ↦ rw here (offsets-dropped p rs)
  | inr apart ↦ rw (apart, apart) (offsets-dropped p rs)
]

offsets-kept : (p q : ℕ) (rs : List Retry) → (p == q) ≡ false
    → offsets_of p (filter (λ r. not (r.part == q)) rs) ≡ offsets_of p rs
offsets-kept p q [] apart = refl
offsets-kept p q (r ∷ rs) apart = elim (cases_Bool (r.part == q)) [
  | inl here ↦
      let other : (r.part == p) ≡ false = flipped (r.part) (eqb-true r.part q here) in
      rw (here, other) (offsets-kept p q rs apart)
  | inr there ↦ rw there (elim (cases_Bool (r.part == p)) [
    | inl own ↦ rw own (ap (λ (os : List ℕ). r.offset ∷ os) (offsets-kept p q rs apart))
    | inr none ↦ rw none (offsets-kept p q rs apart)
  ])
]
  where
    flipped : (n : ℕ) → n ≡ q → (n == p) ≡ false
    flipped n is = elim (cases_Bool (n == p)) [
      | inl same ↦ let one : (p == q) ≡ true = eq-eqb p q (sym (eqb-true n p same) ∙ is) in
          let out : true ≡ false = sym one ∙ apart in cc out
      | inr other ↦ other
    ]

-- ---- what is kept at a place

kept-same : (parts : List Kept) (at : ℕ) (x : Kept) → at < length parts → kept_at (set parts at x) at ≡ x
kept-same parts at x below = get_or-set_same parts at x nothing below

kept-other : (parts : List Kept) (at : ℕ) (x : Kept) (p : ℕ) → (p == at) ≡ false
    → kept_at (set parts at x) p ≡ kept_at parts p
kept-other parts at x p apart = get_or-set_other parts at p x nothing (λ (e : p ≡ at).
    let one : (p == at) ≡ true = eq-eqb p at e in
    let out : true ≡ false = sym one ∙ apart in cc out)

-- what was read of a place is what is kept there
kept-read : (parts : List Kept) (at : ℕ) (x : Kept) → at < length parts → x ≡ get_or parts at x
    → x ≡ kept_at parts at
kept-read [] at x below is = absurd (omega arith)
kept-read (k ∷ ks) zero x below is = is
kept-read (k ∷ ks) (suc n) x below is = kept-read ks n x (omega (arith, below)) is

-- so it holds what is held there
pub hold-read : (parts : List Kept) (at : ℕ) (x : Kept) → at < length parts → x ≡ get_or parts at x
    → (offsets : List ℕ) → Hold offsets (kept_at parts at) → Hold offsets x
hold-read parts at x below read offsets hold =
    subst (Hold offsets) (sym (kept-read parts at x below read)) hold

pub rooms-at : (parts : List Kept) (p : ℕ) → slice_index (map (λ k. k.room) parts) p
    ≡ room_at parts p
rooms-at [] p = refl
rooms-at (k ∷ ks) zero = refl
rooms-at (k ∷ ks) (suc p) = rooms-at ks p

-- a part with room has a place
pub room-within : (parts : List Kept) (p : ℕ) → 0 < slice_index (map (λ k. k.room) parts) p
    → p < length parts
room-within [] p some = absurd (omega (arith, some))
room-within (k ∷ ks) zero some = omega arith
room-within (k ∷ ks) (suc p) some =
    let below : p < length ks = room-within ks p some in omega (arith, below)

-- and so does a part of which one waits
pub hold-within : (parts : List Kept) (p o : ℕ) (offsets : List ℕ) → Hold (o ∷ offsets) (kept_at parts p)
    → p < length parts
hold-within [] p o offsets hold = let none = hold.count in absurd (omega (arith, none))
hold-within (k ∷ ks) zero o offsets hold = omega arith
hold-within (k ∷ ks) (suc p) o offsets hold =
    let below : p < length ks = hold-within ks p o offsets hold in omega (arith, below)

-- ---- a queue with one part changed

-- the heap and the part at a place are others
queue-with : (items more : List (Reverse Retry)) (parts : List Kept) (at : ℕ) (x : Kept)
    → IsHeap by_time more → IsQueue items parts → at < length parts
    → Hold (offsets_of at (map (λ r. r.0) more)) x
    → ((p : ℕ) → (p == at) ≡ false → Hold (offsets_of p (map (λ r. r.0) items)) (kept_at parts p)
    → Hold (offsets_of p (map (λ r. r.0) more)) (kept_at parts p))
    → IsQueue more (set parts at x)
queue-with items more parts at x heap queue below here others = record {
  heap = heap;
  each = λ p. elim (cases_Bool (p == at)) [
    | inl same ↦ subst (λ (u : ℕ). Hold (offsets_of u (map (λ r. r.0) more)) (kept_at (set parts at x) u))
        (sym (eqb-true p at same)) (rw (kept-same parts at x below) here)
    | inr apart ↦ rw (kept-other parts at x p apart) (others p apart (queue.each p))
  ];
}

-- the retry of a part is not of another
not-of : (p q : ℕ) → (p == q) ≡ false → (q == p) ≡ false
not-of p q apart = elim (cases_Bool (q == p)) [
  | inl same ↦ let one : (p == q) ≡ true = eq-eqb p q (sym (eqb-true q p same)) in
      let out : true ≡ false = sym one ∙ apart in cc out
  | inr other ↦ other
]

-- one more waits
pub queue-put : (items more : List (Reverse Retry)) (parts : List Kept) (r : Retry) (was x : Kept)
    → IsQueue items parts → IsHeap by_time more → IsPermutation (record { 0 = r } ∷ items) more
    → r.part < length parts → was ≡ get_or parts r.part was
    → ((offsets : List ℕ) → Hold offsets was → Hold (r.offset ∷ offsets) x)
    → IsQueue more (set parts r.part x)
queue-put items more parts r was x queue heap moved below read put =
    let order = IsPermutation-map (λ (z : Reverse Retry). z.0) (record { 0 = r } ∷ items) more moved in
    queue-with items more parts r.part x heap queue below
    (hold-moved r.part (r ∷ map (λ z. z.0) items) (map (λ z. z.0) more) x order
    (rw (offsets-here r (map (λ z. z.0) items)) (put (offsets_of r.part (map (λ z. z.0) items))
    (rw (kept-read parts r.part was below read) (queue.each r.part)))))
    (λ p apart hold. hold-moved p (r ∷ map (λ z. z.0) items) (map (λ z. z.0) more) (kept_at parts p) order
    (rw (offsets-apart p r (map (λ z. z.0) items) (not-of p r.part apart)) hold))

-- of the part of a retry that is taken out, the offset was there
pub queue-there : (items left : List (Reverse Retry)) (parts : List Kept) (r : Reverse Retry)
    → IsQueue items parts → IsPermutation items (r ∷ left)
    → Hold (r.0.offset ∷ offsets_of r.0.part (map (λ z. z.0) left)) (kept_at parts r.0.part)
queue-there items left parts r queue moved =
    let order = IsPermutation-map (λ (z : Reverse Retry). z.0) items (r ∷ left) moved in
    rw (← offsets-here r.0 (map (λ z. z.0) left))
    (hold-moved r.0.part (map (λ z. z.0) items) (r.0 ∷ map (λ z. z.0) left) (kept_at parts r.0.part)
    order (queue.each r.0.part))

-- one is taken out
pub queue-taken : (items left : List (Reverse Retry)) (parts : List Kept) (r : Reverse Retry)
    (was x : Kept) → IsQueue items parts → IsHeap by_time left → IsPermutation items (r ∷ left)
    → was ≡ get_or parts r.0.part was
    → ((offsets : List ℕ) → Hold (r.0.offset ∷ offsets) was → Hold offsets x)
    → IsQueue left (set parts r.0.part x)
queue-taken items left parts r was x queue heap moved read take =
    let there = queue-there items left parts r queue moved in
    let below = hold-within parts r.0.part r.0.offset (offsets_of r.0.part (map (λ z. z.0) left)) there in
    let order = IsPermutation-map (λ (z : Reverse Retry). z.0) items (r ∷ left) moved in
    queue-with items left parts r.0.part x heap queue below
    (take (offsets_of r.0.part (map (λ z. z.0) left))
    (rw (kept-read parts r.0.part was below read) there))
    (λ p apart hold. rw (← offsets-apart p r.0 (map (λ z. z.0) left) (not-of p r.0.part apart))
    (hold-moved p (map (λ z. z.0) items) (r.0 ∷ map (λ z. z.0) left) (kept_at parts p) order hold))

-- those of a part are taken out
pub queue-dropped : (at : ℕ) (items left : List (Reverse Retry)) (parts more : List Kept)
    → IsQueue items parts → IsHeap by_time left
    → IsPermutation (filter (λ r. not (r.part == at)) (map (λ z. z.0) items)) (map (λ z. z.0) left)
    → DropsPart at parts more → IsQueue left more
queue-dropped at items left parts more queue heap moved drops = record {
  heap = heap;
  each = λ p. hold-moved p (filter (λ r. not (r.part == at)) (map (λ z. z.0) items))
      (map (λ z. z.0) left) (kept_at more p) moved (elim (cases_Bool (p == at)) [
        | inl same ↦ subst (λ (u : ℕ). Hold (offsets_of u (filter (λ r. not (r.part == at))
            (map (λ z. z.0) items))) (kept_at more u)) (sym (eqb-true p at same))
            (rw (offsets-dropped at (map (λ z. z.0) items)) drops.here)
        | inr apart ↦ rw (offsets-kept p at (map (λ z. z.0) items) apart, drops.others p apart)
            (queue.each p)
      ]);
}

-- ---- room

module _ (parts : List Kept) (at : ℕ) (was x : Kept) (below : at < length parts)
    (read : was ≡ get_or parts at was) where
  pub room-other : (p : ℕ) → (p == at) ≡ false → room_at (set parts at x) p ≡ room_at parts p
  room-other p apart = ap (λ (k : Kept). k.room) (kept-other parts at x p apart)

  pub room-less : was.room ≤ x.room + 1 → room_at parts at ≤ room_at (set parts at x) at + 1
  room-less le =
      let one = ap (λ (k : Kept). k.room) (kept-same parts at x below) in
      let two = ap (λ (k : Kept). k.room) (kept-read parts at was below read) in
      omega (arith, le, one, two)

  pub room-kept : was.room ≤ x.room → (p : ℕ) → room_at parts p ≤ room_at (set parts at x) p
  room-kept le p = elim (cases_Bool (p == at)) [
    | inl same ↦
        let is = eqb-true p at same in
        let one = ap (λ (k : Kept). k.room) (ap (kept_at (set parts at x)) is ∙ kept-same parts at x below) in
        let two = ap (λ (k : Kept). k.room) (kept-read parts at was below read
        ∙ ap (kept_at parts) (sym is)) in
        omega (arith, le, one, two)
    | inr apart ↦ let one = room-other p apart in omega (arith, one)
  ]

-- ---- room for a part

pub keeps-start : (parts : List Kept) → KeepsParts parts parts
keeps-start parts = record { offsets = λ p offsets hold. hold; rooms = λ p. omega arith }

pub keeps-then : (a b d : List Kept) → KeepsParts a b → KeepsParts b d → KeepsParts a d
keeps-then a b d one two = record {
  offsets = λ p offsets hold. two.offsets p offsets (one.offsets p offsets hold);
  rooms = λ p. let le = one.rooms p in let more = two.rooms p in omega (arith, le, more);
}

-- no offsets are held where none is kept
hold-nothing : (offsets : List ℕ) (x : Kept) → Hold offsets nothing → Hold [] x → Hold offsets x
hold-nothing [] x hold new = new
hold-nothing (o ∷ offsets) x hold new = let none = hold.count in absurd (omega (arith, none))

pub keeps-push : (parts : List Kept) (x : Kept) → Hold [] x → KeepsParts parts (parts ++ x ∷ [])
keeps-push parts x new = record {
  offsets = λ p offsets hold. pushed parts p offsets hold;
  rooms = λ p. roomier parts p;
}
  where
    pushed : (ks : List Kept) (p : ℕ) (offsets : List ℕ) → Hold offsets (kept_at ks p)
        → Hold offsets (kept_at (ks ++ x ∷ []) p)
    pushed [] zero offsets hold = hold-nothing offsets x hold new
    pushed [] (suc p) offsets hold = hold
    pushed (k ∷ ks) zero offsets hold = hold
    pushed (k ∷ ks) (suc p) offsets hold = pushed ks p offsets hold

    roomier : (ks : List Kept) (p : ℕ) → room_at ks p ≤ room_at (ks ++ x ∷ []) p
    roomier [] zero = omega arith
    roomier [] (suc p) = omega arith
    roomier (k ∷ ks) zero = omega arith
    roomier (k ∷ ks) (suc p) = roomier ks p

pub keeps-set : (parts : List Kept) (at : ℕ) (was x : Kept) → at < length parts
    → was ≡ get_or parts at was → was.room ≤ x.room
    → ((offsets : List ℕ) → Hold offsets was → Hold offsets x) → KeepsParts parts (set parts at x)
keeps-set parts at was x below read room same = record {
  offsets = λ p offsets hold. elim (cases_Bool (p == at)) [
    | inl is ↦ subst (λ (u : ℕ). Hold offsets (kept_at (set parts at x) u)) (sym (eqb-true p at is))
        (rw (kept-same parts at x below) (same offsets (rw (kept-read parts at was below read)
        (subst (λ (u : ℕ). Hold offsets (kept_at parts u)) (eqb-true p at is) hold))))
    | inr apart ↦ rw (kept-other parts at x p apart) hold
  ];
  rooms = λ p. room-kept parts at was x below read room p;
}

pub room-set : (parts : List Kept) (at : ℕ) (x : Kept) (n : ℕ) → at < length parts → n ≤ x.room
    → n ≤ room_at (set parts at x) at
room-set parts at x n below le =
    let one = ap (λ (k : Kept). k.room) (kept-same parts at x below) in omega (arith, le, one)

pub queue-kept : (items : List (Reverse Retry)) (parts more : List Kept) → IsQueue items parts
    → KeepsParts parts more → IsQueue items more
queue-kept items parts more queue keeps = record {
  heap = queue.heap;
  each = λ p. keeps.offsets p (offsets_of p (map (λ r. r.0) items)) (queue.each p);
}
