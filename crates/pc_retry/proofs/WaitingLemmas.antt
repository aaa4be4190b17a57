-- The first of a heap in order is the least retry, and its time is the least.
use Rattle.std.proofs.Common.{◌≡◌, ℕ, ◌<◌, ◌≤◌, min, Bool, true, false, cond, List, [], ◌∷◌, length, get_or, map, filter, Some, None, refl, sym, ap, ◌∙◌, arith}
use Rattle.std.specs.Option.{option_map_or}
use Rattle.std.specs.List.{AllByRecursion}
use Rattle.std.specs.BinaryHeap.{IsUpperBound}
use Rattle.std.specs.Ordering.{is_lt}
use Rattle.std.specs.declared.cmp.Reverse.{Reverse}
use Rattle.std.proofs.lemmas.Bool.Decides.{nat_tests}
use Rattle.pc_model.specs.Numbers.{least_of}
use Rattle.pc_retry.specs.declared.queue.Retry.{Retry}
use Rattle.pc_retry.specs.Waiting.{by_time, compare_retries, due_retry, lesser, least_retry}

-- that a retry is not before another
abbrev NotBefore : Retry → Retry → Type 0
NotBefore a b = is_lt (compare_retries b a) ≡ false

not_before-lesser : (a x y : Retry) → NotBefore a x → NotBefore a y → NotBefore a (lesser x y)
not_before-lesser a x y p q = elim (is_lt (compare_retries y x)) as
    (λ b. is_lt (compare_retries (cond b y x) a) ≡ false) [ true ↦ q | false ↦ p ]

-- one that is before none of the others is not after the least of them
not_before-least : (a x : Retry) (ys : List (Reverse Retry)) → NotBefore a x
    → AllByRecursion (λ y. NotBefore a y.0) ys
    → NotBefore a (option_map_or (lesser x) (least_retry (map (λ r. r.0) ys)) x)
not_before-least a x [] here others = here
not_before-least a x (y ∷ ys) here others = not_before-lesser a x
    (option_map_or (lesser y.0) (least_retry (map (λ r. r.0) ys)) y.0) here
    (not_before-least a y.0 ys others.0 others.1)

lesser-first : (x y : Retry) → NotBefore x y → lesser x y ≡ x
lesser-first x y h = ap (λ b. cond b y x) h

least-first : (x : Retry) (ys : List (Reverse Retry)) → AllByRecursion (λ y. NotBefore x y.0) ys
    → least_retry (x ∷ map (λ r. r.0) ys) ≡ Some x
least-first x [] h = refl
least-first x (y ∷ ys) h = ap Some (lesser-first x
    (option_map_or (lesser y.0) (least_retry (map (λ r. r.0) ys)) y.0)
    (not_before-least x y.0 ys h.0 h.1))

as_not_before : (x : Reverse Retry) (ys : List (Reverse Retry)) → IsUpperBound by_time x ys
    → AllByRecursion (λ y. NotBefore x.0 y.0) ys
as_not_before x ys h = h

-- the first of a heap in order is the least
pub least_retry-first : (x : Reverse Retry) (xs : List (Reverse Retry)) → 0 < length xs
    → x ≡ get_or xs 0 x → IsUpperBound by_time x xs
    → least_retry (map (λ r. r.0) xs) ≡ Some x.0
least_retry-first x [] some is bound = absurd (omega arith)
least_retry-first x (y ∷ ys) some is bound =
    ap (λ (r : Reverse Retry). least_retry (r.0 ∷ map (λ r. r.0) ys)) (sym is)
    ∙ least-first x.0 ys (as_not_before x (y ∷ ys) bound).1

pub due_retry-late : (now : ℕ) (rs : List Retry) (x : Retry) → least_retry rs ≡ Some x
    → now < x.ready_at → due_retry now rs ≡ None
due_retry-late now rs x least late = rw least (grind (arith, nat_tests))

due_retry-come : (now : ℕ) (rs : List Retry) (x : Retry) → least_retry rs ≡ Some x
    → x.ready_at ≤ now → due_retry now rs ≡ Some x
due_retry-come now rs x least come = rw least (grind (arith, nat_tests))

due_retry-least : (now : ℕ) (rs : List Retry) (x y : Retry) → least_retry rs ≡ Some x
    → least_retry rs ≡ Some y → x.ready_at ≤ now → due_retry now rs ≡ Some y
due_retry-least now rs x y least also come = due_retry-come now rs x least come ∙ (sym least ∙ also)

-- the first of a heap in order, seen twice, is due where its time has come
pub due_retry-popped : (now : ℕ) (xs : List (Reverse Retry)) (x y : Reverse Retry) → 0 < length xs
    → x ≡ get_or xs 0 x → y ≡ get_or xs 0 y → IsUpperBound by_time x xs → IsUpperBound by_time y xs
    → x.0.ready_at ≤ now → due_retry now (map (λ r. r.0) xs) ≡ Some y.0
due_retry-popped now xs x y some is also bound other come = due_retry-least now
    (map (λ r. r.0) xs) x.0 y.0 (least_retry-first x xs some is bound)
    (least_retry-first y xs some also other) come

-- ---- times

time-not_before : (a b : Retry) → NotBefore a b → a.ready_at ≤ b.ready_at
time-not_before a b h = grind (arith, nat_tests)

time-least : (t x : ℕ) (ys : List (Reverse Retry)) → t ≤ x
    → AllByRecursion (λ y. t ≤ y.0.ready_at) ys
    → t ≤ option_map_or (min x) (least_of (map (λ r. r.ready_at) (map (λ r. r.0) ys))) x
time-least t x [] here others = here
time-least t x (y ∷ ys) here others =
    let e = time-least t y.0.ready_at ys others.0 others.1 in omega (arith, e)

times : (x : Retry) (ys : List (Reverse Retry)) → AllByRecursion (λ y. NotBefore x y.0) ys
    → AllByRecursion (λ y. x.ready_at ≤ y.0.ready_at) ys
times x [] h = tt
times x (y ∷ ys) h = (time-not_before x y.0 h.0, times x ys h.1)

time-first : (x : ℕ) (ys : List (Reverse Retry)) → AllByRecursion (λ y. x ≤ y.0.ready_at) ys
    → least_of (x ∷ map (λ r. r.ready_at) (map (λ r. r.0) ys)) ≡ Some x
time-first x [] h = refl
time-first x (y ∷ ys) h =
    let e = time-least x y.0.ready_at ys h.0 h.1 in
    let same : min x (option_map_or (min y.0.ready_at)
    (least_of (map (λ r. r.ready_at) (map (λ r. r.0) ys))) y.0.ready_at) ≡ x = omega (arith, e) in
    ap Some same

pub least_of-first : (x : Reverse Retry) (xs : List (Reverse Retry)) → 0 < length xs
    → x ≡ get_or xs 0 x → IsUpperBound by_time x xs
    → least_of (map (λ r. r.ready_at) (map (λ r. r.0) xs)) ≡ Some x.0.ready_at
least_of-first x [] some is bound = absurd (omega arith)
least_of-first x (y ∷ ys) some is bound = ap (λ (r : Reverse Retry). least_of
    (r.0.ready_at ∷ map (λ r. r.ready_at) (map (λ r. r.0) ys))) (sym is)
    ∙ time-first x.0.ready_at ys (times x.0 ys (as_not_before x (y ∷ ys) bound).1)

pub filter-reversed : (test : Retry → Bool) (xs : List (Reverse Retry))
    → map (λ r. r.0) (filter (λ r. test r.0) xs) ≡ filter test (map (λ r. r.0) xs)
filter-reversed test [] = refl
filter-reversed test (x ∷ xs) = elim (test x.0) as (λ b. map (λ r. r.0)
    (cond b (x ∷ filter (λ r. test r.0) xs) (filter (λ r. test r.0) xs))
    ≡ cond b (x.0 ∷ filter test (map (λ r. r.0) xs)) (filter test (map (λ r. r.0) xs))) [
      | true ↦ ap (λ rs. x.0 ∷ rs) (filter-reversed test xs)
      | false ↦ filter-reversed test xs
    ]
