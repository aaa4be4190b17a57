-- The entry at an offset: where it stands, and what is left when it is changed or taken out.
use Rattle.std.proofs.Common.{◌≡◌, ℕ, zero, suc, ◌<◌, ◌≤◌, cond, Some, None, true, false, not, ◌==◌, List, [], ◌∷◌, map, length, get_or, set, refl, ap, sym, subst, inl, inr, ◌∙◌, arith}
use Rattle.std.specs.Prelude.{remove}
use Rattle.std.specs.List.{AllWithin}
use Rattle.std.proofs.lemmas.Bool.{cases_Bool}
use Rattle.pc_shards.specs.declared.part.EntryRef.{EntryRef}
use Rattle.pc_shards.specs.Entries.{Entry, entry_at, without}
use Rattle.pc_shards.specs.Part.{EachAt, offsets_of, plain, plain_entries}
use Rattle.pc_shards.specs.Rising.{In, Rises}
use Rattle.pc_shards.proofs.Lists.{AllByRecursion-In, In-map, In-mapped, filter-all, not-false, number-other, number-same, true-false}
use Rattle.pc_shards.proofs.RisingLemmas.{In-get_or}

pub offsets-plain : (es : List EntryRef) → offsets_of (plain_entries es) ≡ map (λ e. e.record.offset) es
offsets-plain [] = refl
offsets-plain (e ∷ es) = ap (λ (os : List ℕ). e.record.offset ∷ os) (offsets-plain es)

-- where items rise, the first whose number is not below one of the numbers has it
pub first-has : {X : Type 0} (f : X → ℕ) (o : ℕ) (xs : List X) (i : ℕ) → Rises (map f xs)
    → In o (map f xs)
    → AllWithin (λ x. f x < o) xs 0 i → AllWithin (λ x. o ≤ f x) xs i (length xs)
    → i ≤ length xs → (i < length xs) × ((d : X) → f (get_or xs i d) ≡ o)
first-has f o [] i r has below above within = elim has [ ]
first-has f o (x ∷ xs) zero r (inl e) below above within = (omega arith, λ d. sym e)
first-has f o (x ∷ xs) zero r (inr j) below above within =
    let le : o ≤ f x = above zero x (omega arith) (omega arith) in
    let more = AllByRecursion-In (λ y. f x < y) o (map f xs) r.0 j in
    absurd (omega (arith, le, more))
first-has f o (x ∷ xs) (suc i) r (inl e) below above within =
    let lt : f x < o = below zero x (omega arith) (omega arith) in absurd (omega (arith, lt, e))
first-has f o (x ∷ xs) (suc i) r (inr j) below above within =
    let rest = first-has f o xs i r.1 j
    (λ k d low high. below (suc k) d (omega arith) (omega arith))
    (λ k d low high. above (suc k) d (omega arith) (omega arith)) (omega arith) in
    (omega (arith, rest.0), rest.1)

-- an entry behind another is not at its offset
pub behind-other : (o : ℕ) (e : Entry) (es : List Entry) → Rises (offsets_of (e ∷ es))
    → e.record.offset ≡ o
    → (x : Entry) → In x es → (x.record.offset == o) ≡ false
behind-other o e es r is x i = number-other x.record.offset o (λ same.
    let more = AllByRecursion-In (λ y. e.record.offset < y) x.record.offset (offsets_of es) r.0 (In-map (λ
    (y : Entry). y.record.offset) x es i) in
    omega (arith, more, same, is))

-- an entry before another is not at its offset
before-other : (o : ℕ) (e : Entry) (es : List Entry) → Rises (offsets_of (e ∷ es))
    → (x : Entry) → In x es → x.record.offset ≡ o → (e.record.offset == o) ≡ false
before-other o e es r x i is = number-other e.record.offset o (λ same.
    let more = AllByRecursion-In (λ y. e.record.offset < y) x.record.offset (offsets_of es) r.0 (In-map (λ
    (y : Entry). y.record.offset) x es i) in
    omega (arith, more, same, is))

-- two entries at one offset are one
pub one-entry : (es : List Entry) → Rises (offsets_of es) → (a b : Entry) → In a es → In b es
    → a.record.offset ≡ b.record.offset → a ≡ b
one-entry [] r a b i j same = elim i [ ]
one-entry (e ∷ es) r a b (inl x) (inl y) same = x ∙ sym y
one-entry (e ∷ es) r a b (inl x) (inr j) same =
    let more = AllByRecursion-In (λ y. e.record.offset < y) b.record.offset (offsets_of es) r.0 (In-map (λ
    (y : Entry). y.record.offset) b es j) in
    let is : a.record.offset ≡ e.record.offset = ap (λ (y : Entry). y.record.offset) x in
    absurd (omega (arith, more, same, is))
one-entry (e ∷ es) r a b (inr i) (inl y) same =
    let more = AllByRecursion-In (λ y. e.record.offset < y) a.record.offset (offsets_of es) r.0 (In-map (λ
    (y : Entry). y.record.offset) a es i) in
    let is : b.record.offset ≡ e.record.offset = ap (λ (y : Entry). y.record.offset) y in
    absurd (omega (arith, more, same, is))
one-entry (e ∷ es) r a b (inr i) (inr j) same = one-entry es r.1 a b i j same

-- the entry, changed where it is at the offset
abbrev pub at_offset : ℕ → (Entry → Entry) → Entry → Entry
at_offset o f e = cond (e.record.offset == o) (f e) e

-- entries at other offsets stay
changed-other : (o : ℕ) (f : Entry → Entry) (es : List Entry) → ((x : Entry) → In x es
    → (x.record.offset == o) ≡ false) → map (at_offset o f) es ≡ es
changed-other o f [] other = refl
changed-other o f (e ∷ es) other = rw (other e (inl refl))
    (ap (λ (xs : List Entry). e ∷ xs) (changed-other o f es (λ x i. other x (inr i))))

-- a write at an offset's place changes its entry
pub set-changed : (o : ℕ) (f : Entry → Entry) (es : List EntryRef) (i : ℕ) (d x : EntryRef)
    → Rises (offsets_of (plain_entries es)) → i < length es
    → (get_or es i d).record.offset ≡ o → plain x ≡ f (plain (get_or es i d))
    → plain_entries (set es i x) ≡ map (at_offset o f) (plain_entries es)
set-changed o f [] i d x r within is new = absurd (omega arith)
set-changed o f (e ∷ es) zero d x r within is new = rw (
  number-same e.record.offset o is,
  changed-other o f (plain_entries es) (behind-other o (plain e) (plain_entries es) r is),
) (ap (λ (y : Entry). y ∷ plain_entries es) new)
set-changed o f (e ∷ es) (suc i) d x r within is new = rw (
  before-other o (plain e) (plain_entries es) r (plain (get_or es i d))
      (In-map plain (get_or es i d) es (In-get_or es i d (omega arith))) is,
  set-changed o f es i d x r.1 (omega arith) is new,
) refl

-- no entry is found where none is at the offset
pub find-none : (o : ℕ) (es : List Entry) → ((x : Entry) → In x es
    → (x.record.offset == o) ≡ false) → entry_at o es ≡ None
find-none o [] other = refl
find-none o (e ∷ es) other = rw (other e (inl refl)) (find-none o es (λ x i. other x (inr i)))

-- where items rise, what is found is the first that is not below the offset, if it is at it
pub find-place : (o : ℕ) (es : List EntryRef) (i : ℕ) (d : EntryRef)
    → Rises (offsets_of (plain_entries es))
    → AllWithin (λ x. x.record.offset < o) es 0 i
    → AllWithin (λ x. o ≤ x.record.offset) es i (length es) → i < length es
    → entry_at o (plain_entries es) ≡ cond ((get_or es i d).record.offset == o)
    (Some (plain (get_or es i d))) None
find-place o [] i d r below above h = absurd (omega arith)
find-place o (e ∷ es) zero d r below above h = elim (cases_Bool (e.record.offset == o)) [
  | inl at ↦ rw at refl
  | inr off ↦ let le : o ≤ e.record.offset = above zero e (omega arith) (omega arith) in
      rw off (find-none o (plain_entries es) (λ x i. number-other x.record.offset o (λ same.
      let more = AllByRecursion-In (λ y. e.record.offset < y) x.record.offset
      (offsets_of (plain_entries es)) r.0
      (In-map (λ (y : Entry). y.record.offset) x (plain_entries es) i) in
      omega (arith, le, more, same))))
]
find-place o (e ∷ es) (suc i) d r below above h =
    let lt : e.record.offset < o = below zero e (omega arith) (omega arith) in
    let off : (e.record.offset == o) ≡ false = number-other e.record.offset o (λ same.
    omega (arith, lt, same)) in
    rw off (find-place o es i d r.1
    (λ k d low high. below (suc k) d (omega arith) (omega arith))
    (λ k d low high. above (suc k) d (omega arith) (omega arith)) (omega arith))

-- and where all are below it none is
pub find-past : (o : ℕ) (es : List EntryRef) (i : ℕ)
    → AllWithin (λ x. x.record.offset < o) es 0 i → length es ≤ i
    → entry_at o (plain_entries es) ≡ None
find-past o [] i below h = refl
find-past o (e ∷ es) zero below h = absurd (omega arith)
find-past o (e ∷ es) (suc i) below h =
    let lt : e.record.offset < o = below zero e (omega arith) (omega arith) in
    let off : (e.record.offset == o) ≡ false = number-other e.record.offset o (λ same.
    omega (arith, lt, same)) in
    rw off (find-past o es i (λ k d low high. below (suc k) d (omega arith) (omega arith))
    (omega arith))

-- a removal at an offset's place takes its entry out
pub remove-without : (o : ℕ) (es : List EntryRef) (i : ℕ) (d : EntryRef)
    → Rises (offsets_of (plain_entries es)) → i < length es → (get_or es i d).record.offset ≡ o
    → plain_entries (remove es i) ≡ without o (plain_entries es)
remove-without o [] i d r within is = absurd (omega arith)
remove-without o (e ∷ es) zero d r within is = rw (number-same e.record.offset o is) (sym (filter-all
    (λ (x : Entry). not (x.record.offset == o)) (plain_entries es) (λ x j. not-false (x.record.offset == o)
    (behind-other o (plain e) (plain_entries es) r is x j))))
remove-without o (e ∷ es) (suc i) d r within is = rw (before-other o (plain e) (plain_entries es) r
    (plain (get_or es i d))
    (In-map plain (get_or es i d) es (In-get_or es i d (omega arith))) is) (ap (λ
    (xs : List Entry). plain e ∷ xs) (remove-without o es i d r.1 (omega arith) is))

-- what holds of the entry at an offset's place holds of each there
pub each-at : (o : ℕ) (es : List EntryRef) (i : ℕ) (d : EntryRef) (P : Entry → Type 0)
    → Rises (offsets_of (plain_entries es)) → i < length es → (get_or es i d).record.offset ≡ o
    → P (plain (get_or es i d)) → EachAt o (plain_entries es) P
each-at o es i d P r within is here = λ e j at. subst P (one-entry (plain_entries es) r
    (plain (get_or es i d)) e (In-map plain (get_or es i d) es (In-get_or es i d within)) j
    (is ∙ sym at)) here

-- an entry is not both busy and free
pub busy-or_free : {P : Type 0} (o : ℕ) (es : List Entry) → In o (offsets_of es)
    → EachAt o es (λ e. e.is_busy ≡ true) → EachAt o es (λ e. e.is_busy ≡ false) → P
busy-or_free o es has busy free = let m = In-mapped (λ (x : Entry). x.record.offset) o es has in
    true-false m.0.is_busy (busy m.0 m.1 (sym m.2)) (free m.0 m.1 (sym m.2))
