-- What a window stands for, and what a poll and a success make of that.
use Rattle.std.proofs.Common.{◌≡◌, ℕ, zero, suc, ◌+◌, ◌-◌, ◌^◌, ◌<◌, ◌≤◌, max, Bool, true, false, not, ◌||◌, cond, eqb, ltb, List, [], ◌∷◌, ◌++◌, length, get_or, take, drop, map, filter, Option, Some, None, refl, sym, ap, subst, ◌∙◌, arith, inl, inr, add-one, add-zero}
use Rattle.std.specs.List.{list_any, slice_get}
use Rattle.std.specs.Option.{option_map_or}
use Rattle.std.proofs.lemmas.Bool.{cases_Bool, cases_lt, cases_eq, eq-eqb, eqb-true, ne_eqb, lt-ltb, le-ltb}
use Rattle.std.proofs.lemmas.List.{append_assoc, append-nil, length-append, map-append, take_more}
use Rattle.std.proofs.Math.Seq.{drop-cons}
use Rattle.std.proofs.lemmas.List.Elements.{filter-append}
use Rattle.std.proofs.lemmas.Option.{same_Some}
use Rattle.pc_model.specs.Numbers.{greatest_of}
use Rattle.pc_model.specs.Marks.{Mark, complete_offsets, offsets_of, incomplete_offsets, high_at, end_at}
use Rattle.pc_model.specs.OneMore.{with_complete}
use Rattle.pc_partition.specs.Runs.{without}
use Rattle.pc_partition.specs.Window.{AreNext, RisesFrom, StandsFor, Window, inherit_window, marks_of_pairs, new_mark, open_polled, poll_all, poll_window, succeed_window, with_polled}

-- ---- rising offsets

-- the offset after the last
abbrev pub after_last : ℕ → List ℕ → ℕ
after_last b [] = b
after_last b (o ∷ os) = after_last (o + 1) os

after_last-le : (b : ℕ) (os : List ℕ) → RisesFrom b os → b ≤ after_last b os
after_last-le b [] rises = omega arith
after_last-le b (o ∷ os) rises =
    let ih = after_last-le (o + 1) os rises.2 in omega (arith, ih, rises.0)

after_last-small : (b : ℕ) (os : List ℕ) → RisesFrom b os → after_last b os < 2 ^ 63
after_last-small b [] rises = rises
after_last-small b (o ∷ os) rises = after_last-small (o + 1) os rises.2

after_last-append : (b : ℕ) (xs ys : List ℕ) → after_last b (xs ++ ys) ≡ after_last (after_last b xs) ys
after_last-append b [] ys = refl
after_last-append b (x ∷ xs) ys = after_last-append (x + 1) xs ys

RisesFrom-append : (b : ℕ) (xs ys : List ℕ) → RisesFrom b xs → RisesFrom (after_last b xs) ys → RisesFrom b (xs ++ ys)
RisesFrom-append b [] ys rises more = more
RisesFrom-append b (x ∷ xs) ys rises more = (rises.0, rises.1, RisesFrom-append (x + 1) xs ys rises.2 more)

greatest-after : (o : ℕ) (os : List ℕ) → RisesFrom (o + 1) os
    → option_map_or (max o) (greatest_of os) o + 1 ≡ after_last (o + 1) os
greatest-after o [] rises = refl
greatest-after o (p ∷ os) rises =
    let ih = greatest-after p os rises.2 in
    let up = after_last-le (p + 1) os rises.2 in
    let most : max o (option_map_or (max p) (greatest_of os) p) ≡ option_map_or (max p) (greatest_of os) p =
    omega (arith, ih, up, rises.0) in
    ap (λ n. n + 1) most ∙ ih

pub end_at-rises : (b : ℕ) (marks : List Mark) → RisesFrom b (offsets_of marks)
    → end_at b marks ≡ after_last b (offsets_of marks)
unfolding end_at
end_at-rises b [] rises = refl
end_at-rises b (m ∷ marks) rises = greatest-after m.offset (offsets_of marks) rises.2

offsets_of-append : (xs ys : List Mark) → offsets_of (xs ++ ys) ≡ offsets_of xs ++ offsets_of ys
offsets_of-append xs ys = map-append (λ (m : Mark). m.offset) xs ys

incomplete-append : (xs ys : List Mark) → incomplete_offsets (xs ++ ys) ≡ incomplete_offsets xs ++ incomplete_offsets ys
incomplete-append xs ys = ap offsets_of (filter-append (λ (m : Mark). not m.is_complete) xs ys)
    ∙ offsets_of-append (filter (λ m. not m.is_complete) xs) (filter (λ m. not m.is_complete) ys)

complete-append : (xs ys : List Mark) → complete_offsets (xs ++ ys) ≡ complete_offsets xs ++ complete_offsets ys
complete-append xs ys = ap offsets_of (filter-append (λ (m : Mark). m.is_complete) xs ys)
    ∙ offsets_of-append (filter (λ m. m.is_complete) xs) (filter (λ m. m.is_complete) ys)

-- a complete offset above the others is the greatest
greatest-complete : (b o : ℕ) (marks : List Mark) → RisesFrom b (offsets_of marks)
    → after_last b (offsets_of marks) ≤ o
    → greatest_of (complete_offsets marks ++ o ∷ []) ≡ Some o
greatest-complete b o [] rises above = refl
greatest-complete b o (m ∷ marks) rises above =
    let ih = greatest-complete (m.offset + 1) o marks rises.2 above in
    let le = after_last-le (m.offset + 1) (offsets_of marks) rises.2 in
    let most : max m.offset o ≡ o = omega (arith, le, above) in
    elim m.is_complete as (λ c. greatest_of (offsets_of (cond c (m ∷ filter (λ n. n.is_complete) marks)
    (filter (λ n. n.is_complete) marks)) ++ o ∷ []) ≡ Some o) [
      | true ↦ ap (λ g. Some (option_map_or (max m.offset) g m.offset)) ih ∙ ap Some most
      | false ↦ ih
    ]

-- ---- an assignment

pub StandsFor-start : (b : ℕ) → b < 2 ^ 63 → StandsFor
    (record { incomplete = []; high = None; after = b; polled_to = b }) b 0 []
unfolding high_at end_at
StandsFor-start b small = record { rises = small; polled = omega arith; incomplete = refl; high = refl; after = refl; polled_to = refl }

StandsFor-inherit : (w : Window) (b : ℕ) (marks : List Mark) (o : ℕ) (c : Bool) → StandsFor w b 0 marks
    → w.after ≤ o → o < 2 ^ 63 - 1 → StandsFor (inherit_window o c w) b 0
    (marks ++ record { offset = o; is_complete = c } ∷ [])
unfolding high_at
StandsFor-inherit w b marks o c is above small =
    let last = end_at-rises b marks is.rises in
    let from : after_last b (offsets_of marks) ≤ o = omega (arith, is.after, last, above) in
    let offsets = offsets_of-append marks (record { offset = o; is_complete = c } ∷ []) in
    let rises : RisesFrom b (offsets_of (marks ++ record { offset = o; is_complete = c } ∷ [])) =
    subst (RisesFrom b) (sym offsets) (RisesFrom-append b (offsets_of marks) (o ∷ []) is.rises
    (from, small, omega (arith, small))) in
    record {
      rises = rises;
      polled = omega arith;
      incomplete = elim c as (λ c. cond c w.incomplete (w.incomplete ++ o ∷ [])
          ≡ incomplete_offsets (marks ++ record { offset = o; is_complete = c } ∷ [])) [
            | true ↦ is.incomplete ∙ sym (append-nil (incomplete_offsets marks)) ∙ sym (incomplete-append marks (record { offset = o; is_complete = true } ∷ []))
            | false ↦ ap (λ l. l ++ o ∷ []) is.incomplete ∙ sym (incomplete-append marks (record { offset = o; is_complete = false } ∷ []))
          ];
      high = elim c as (λ c. cond c (Some o) w.high
          ≡ greatest_of (complete_offsets (marks ++ record { offset = o; is_complete = c } ∷ []))) [
            | true ↦ sym (greatest-complete b o marks is.rises from) ∙ ap greatest_of (sym (complete-append marks (record { offset = o; is_complete = true } ∷ [])))
            | false ↦ is.high ∙ ap greatest_of (sym (append-nil (complete_offsets marks)) ∙ sym (complete-append marks (record { offset = o; is_complete = false } ∷ [])))
          ];
      after = sym (end_at-rises b _ rises ∙ ap (after_last b) offsets ∙ after_last-append b (offsets_of marks) (o ∷ []));
      polled_to = is.polled_to;
    }

-- ---- the first marks

RisesFrom-take : (b n : ℕ) (marks : List Mark) → RisesFrom b (offsets_of marks) → RisesFrom b (offsets_of (take n marks))
RisesFrom-take b zero [] rises = rises
RisesFrom-take b zero (m ∷ marks) rises = omega (arith, rises.0, rises.1)
RisesFrom-take b (suc n) [] rises = rises
RisesFrom-take b (suc n) (m ∷ marks) rises = (rises.0, rises.1, RisesFrom-take (m.offset + 1) n marks rises.2)

-- an offset lies from the least on and below where the offsets end
slice-from : (b n o : ℕ) (os : List ℕ) → RisesFrom b os → slice_get os n ≡ Some o → b ≤ o
slice-from b n o [] rises is = cc
slice-from b zero o (p ∷ os) rises is = let at : p ≡ o = cc in omega (arith, rises.0, at)
slice-from b (suc n) o (p ∷ os) rises is =
    let ih = slice-from (p + 1) n o os rises.2 is in omega (arith, ih, rises.0)

slice-below : (b n o : ℕ) (os : List ℕ) → RisesFrom b os → slice_get os n ≡ Some o → o < after_last b os
slice-below b n o [] rises is = cc
slice-below b zero o (p ∷ os) rises is =
    let at : p ≡ o = cc in let le = after_last-le (p + 1) os rises.2 in omega (arith, le, at)
slice-below b (suc n) o (p ∷ os) rises is = slice-below (p + 1) n o os rises.2 is

-- where the first offsets end, up to one
after_last-take : (b n o : ℕ) (marks : List Mark) → slice_get (offsets_of marks) n ≡ Some o
    → after_last b (offsets_of (take (suc n) marks)) ≡ o + 1
after_last-take b n o [] is = cc
after_last-take b zero o (m ∷ marks) is = let at : m.offset ≡ o = cc in rw at refl
after_last-take b (suc n) o (m ∷ marks) is = after_last-take (m.offset + 1) n o marks is

-- ---- what is open

-- no incomplete offset lies below the least
filter-below : (b p : ℕ) (marks : List Mark) → RisesFrom b (offsets_of marks) → p ≤ b
    → filter (λ o. ltb o p) (incomplete_offsets marks) ≡ []
filter-below b p [] rises le = refl
filter-below b p (m ∷ marks) rises le =
    let ih = filter-below (m.offset + 1) p marks rises.2 (omega (arith, rises.0)) in
    elim m.is_complete as (λ c. filter (λ o. ltb o p) (offsets_of (cond (not c) (m ∷ filter (λ n. not n.is_complete) marks)
    (filter (λ n. not n.is_complete) marks))) ≡ []) [
      | true ↦ ih
      | false ↦ rw (le-ltb m.offset p (omega (arith, rises.0))) ih
    ]

any-below : (b o : ℕ) (marks : List Mark) → RisesFrom b (offsets_of marks) → o < b
    → list_any (λ x. eqb x o) (incomplete_offsets marks) ≡ false
any-below b o [] rises le = refl
any-below b o (m ∷ marks) rises le =
    let ih = any-below (m.offset + 1) o marks rises.2 (omega (arith, rises.0)) in
    elim m.is_complete as (λ c. list_any (λ x. eqb x o) (offsets_of (cond (not c) (m ∷ filter (λ n. not n.is_complete) marks)
    (filter (λ n. not n.is_complete) marks))) ≡ false) [
      | true ↦ ih
      | false ↦ rw (ne_eqb m.offset o (λ (e : m.offset ≡ o). omega (arith, rises.0, e))) ih
    ]

-- of the first marks, the incomplete offsets are those below where they end
filter-take : (b n : ℕ) (marks : List Mark) → RisesFrom b (offsets_of marks)
    → filter (λ o. ltb o (after_last b (offsets_of (take n marks)))) (incomplete_offsets marks) ≡ incomplete_offsets (take n marks)
filter-take b zero marks rises = filter-below b b marks rises (omega arith)
filter-take b (suc n) [] rises = refl
filter-take b (suc n) (m ∷ marks) rises =
    let ih = filter-take (m.offset + 1) n marks rises.2 in
    let le = after_last-le (m.offset + 1) (offsets_of (take n marks)) (RisesFrom-take (m.offset + 1) n marks rises.2) in
    elim m.is_complete as (λ c. filter (λ o. ltb o (after_last (m.offset + 1) (offsets_of (take n marks))))
    (offsets_of (cond (not c) (m ∷ filter (λ x. not x.is_complete) marks) (filter (λ x. not x.is_complete) marks)))
    ≡ offsets_of (cond (not c) (m ∷ filter (λ x. not x.is_complete) (take n marks)) (filter (λ x. not x.is_complete) (take n marks)))) [
      | true ↦ ih
      | false ↦ rw (lt-ltb m.offset (after_last (m.offset + 1) (offsets_of (take n marks))) (omega (arith, le))) (ap (λ (l : List ℕ). m.offset ∷ l) ih)
    ]

pub open_polled-is : (w : Window) (b n : ℕ) (marks : List Mark) → StandsFor w b n marks
    → length (filter (λ o. ltb o w.polled_to) w.incomplete) ≡ length (incomplete_offsets (take n marks))
open_polled-is w b n marks is =
    let to = is.polled_to ∙ end_at-rises b (take n marks) (RisesFrom-take b n marks is.rises) in
    rw (is.incomplete, to) (ap (λ (l : List ℕ). length l) (filter-take b n marks is.rises))

-- ---- a poll

one : Bool → ℕ
one b = cond b 1 0

-- the next offset is one more below where those polled end, if it is incomplete
count-next : (b n o : ℕ) (marks : List Mark) → RisesFrom b (offsets_of marks) → slice_get (offsets_of marks) n ≡ Some o
    → length (filter (λ x. ltb x (o + 1)) (incomplete_offsets marks))
    ≡ length (filter (λ x. ltb x (after_last b (offsets_of (take n marks)))) (incomplete_offsets marks))
    + cond (list_any (λ x. eqb x o) (incomplete_offsets marks)) 1 0
count-next b n o [] rises is = cc
count-next b zero o (m ∷ marks) rises is =
    let at : m.offset ≡ o = cc in
    let le : m.offset + 1 ≤ m.offset + 1 = omega arith in
    let none = filter-below (m.offset + 1) (m.offset + 1) marks rises.2 le in
    let low = filter-below (m.offset + 1) b marks rises.2 (omega (arith, rises.0)) in
    let apart = any-below (m.offset + 1) m.offset marks rises.2 (omega arith) in
    rw (← at) (elim m.is_complete as (λ c. length (filter (λ x. ltb x (m.offset + 1))
    (offsets_of (cond (not c) (m ∷ filter (λ x. not x.is_complete) marks) (filter (λ x. not x.is_complete) marks))))
    ≡ length (filter (λ x. ltb x b) (offsets_of (cond (not c) (m ∷ filter (λ x. not x.is_complete) marks) (filter (λ x. not x.is_complete) marks))))
    + cond (list_any (λ x. eqb x m.offset) (offsets_of (cond (not c) (m ∷ filter (λ x. not x.is_complete) marks) (filter (λ x. not x.is_complete) marks)))) 1 0) [
      | true ↦ rw (none, low, apart) refl
      | false ↦ rw (lt-ltb m.offset (m.offset + 1) (omega arith), le-ltb m.offset b rises.0, eq-eqb m.offset m.offset refl, none, low) refl
    ])
count-next b (suc n) o (m ∷ marks) rises is =
    let ih = count-next (m.offset + 1) n o marks rises.2 is in
    let from = slice-from (m.offset + 1) n o (offsets_of marks) rises.2 is in
    let le = after_last-le (m.offset + 1) (offsets_of (take n marks)) (RisesFrom-take (m.offset + 1) n marks rises.2) in
    elim m.is_complete as (λ c. length (filter (λ x. ltb x (o + 1))
    (offsets_of (cond (not c) (m ∷ filter (λ x. not x.is_complete) marks) (filter (λ x. not x.is_complete) marks))))
    ≡ length (filter (λ x. ltb x (after_last (m.offset + 1) (offsets_of (take n marks)))) (offsets_of (cond (not c) (m ∷ filter (λ x. not x.is_complete) marks) (filter (λ x. not x.is_complete) marks))))
    + cond (list_any (λ x. eqb x o) (offsets_of (cond (not c) (m ∷ filter (λ x. not x.is_complete) marks) (filter (λ x. not x.is_complete) marks)))) 1 0) [
      | true ↦ ih
      | false ↦ rw (
        lt-ltb m.offset (o + 1) (omega (arith, from)),
        lt-ltb m.offset (after_last (m.offset + 1) (offsets_of (take n marks))) (omega (arith, le)),
        ne_eqb m.offset o (λ (e : m.offset ≡ o). omega (arith, from, e)),
      ) (omega (arith, ih))
    ]

-- ---- one offset polled

take-nothing : {X : Type 0} (n : ℕ) (xs : List X) → xs ≡ [] → take n xs ≡ []
take-nothing zero xs none = refl
take-nothing (suc n) [] none = refl
take-nothing (suc n) (x ∷ xs) none = cc

drop-nothing : {X : Type 0} (n : ℕ) (xs : List X) → xs ≡ [] → drop n xs ≡ []
drop-nothing zero xs none = none
drop-nothing (suc n) [] none = refl
drop-nothing (suc n) (x ∷ xs) none = cc

drop-length : {X : Type 0} (n : ℕ) (xs : List X) → length xs ≤ n → drop n xs ≡ []
drop-length zero [] le = refl
drop-length zero (x ∷ xs) le = absurd (omega arith)
drop-length (suc n) [] le = refl
drop-length (suc n) (x ∷ xs) le = drop-length n xs (omega arith)

take-length : {X : Type 0} (n : ℕ) (xs : List X) → length xs ≤ n → take n xs ≡ xs
take-length zero [] le = refl
take-length zero (x ∷ xs) le = absurd (omega arith)
take-length (suc n) [] le = refl
take-length (suc n) (x ∷ xs) le = ap (λ l. x ∷ l) (take-length n xs (omega arith))

length-offsets : (marks : List Mark) → length (offsets_of marks) ≡ length marks
length-offsets [] = refl
length-offsets (m ∷ marks) = ap suc (length-offsets marks)

-- an offset of the marks with its place, and what follows it
record IsAt (n o : ℕ) (marks : List Mark) : Type 0 where
  pub here : slice_get (offsets_of marks) n ≡ Some o
  pub rest : drop n (offsets_of marks) ≡ o ∷ drop (suc n) (offsets_of marks)

at-drop : (n : ℕ) (os : List ℕ) → n < length os → (o : ℕ) × (slice_get os n ≡ Some o)
    × (drop n os ≡ o ∷ drop (suc n) os)
at-drop n [] lt = absurd (omega arith)
at-drop zero (o ∷ os) lt = (o, refl, refl)
at-drop (suc n) (o ∷ os) lt = at-drop n os (omega arith)

-- the next offset is known
record IsKnown (n : ℕ) (marks : List Mark) (o : ℕ) (os : List ℕ) : Type 0 where
  pub less : n < length marks
  pub here : slice_get (offsets_of marks) n ≡ Some o
  pub next : AreNext (n + 1) marks os
  pub same : with_polled n marks (o ∷ os) ≡ with_polled (n + 1) marks os

known : (n k o : ℕ) (os : List ℕ) (marks : List Mark) → length marks - n ≡ suc k → AreNext n marks (o ∷ os) → IsKnown n marks o os
known n k o os marks left next =
    let less : n < length marks = omega arith in
    let len = length-offsets marks in
    let at = at-drop n (offsets_of marks) (omega (arith, len)) in
    let listed : o ∷ take k os ≡ at.0 ∷ take (length os) (drop (suc n) (offsets_of marks)) = rw (left, at.2) at next in
    let same : o ≡ at.0 = cc in
    let others : take k os ≡ take (length os) (drop (suc n) (offsets_of marks)) = cc in
    let fewer : length marks - (n + 1) ≡ k = omega arith in
    record {
      less = less;
      here = at.1 ∙ ap Some (sym same);
      next = rw (fewer, add-one n) others;
      same = rw (left, fewer) refl;
    }

-- the next offset is new
record IsNew (n : ℕ) (marks : List Mark) (o : ℕ) (os : List ℕ) : Type 0 where
  pub all : n ≡ length marks
  pub next : AreNext (n + 1) (marks ++ new_mark o ∷ []) os
  pub same : with_polled n marks (o ∷ os) ≡ with_polled (n + 1) (marks ++ new_mark o ∷ []) os
  pub here : with_polled n marks (o ∷ []) ≡ marks ++ new_mark o ∷ []

new : (n o : ℕ) (os : List ℕ) (marks : List Mark) → n ≡ length marks → IsNew n marks o os
new n o os marks all =
    let none : length marks - n ≡ 0 = omega arith in
    let len = length-append marks (new_mark o ∷ []) in
    let more : length (marks ++ new_mark o ∷ []) - (n + 1) ≡ 0 = omega (arith, len) in
    let past : length (offsets_of (marks ++ new_mark o ∷ [])) ≤ n + 1 =
    let l = length-offsets (marks ++ new_mark o ∷ []) in omega (arith, l, len) in
    record {
      all = all;
      next = rw more (sym (take-nothing (length os) _ (drop-length (n + 1) (offsets_of (marks ++ new_mark o ∷ [])) past)));
      same = rw (none, more) (sym (append_assoc marks (new_mark o ∷ []) (map new_mark os)));
      here = rw none refl;
    }

known-poll : (w : Window) (b n : ℕ) (marks : List Mark) (o : ℕ) → StandsFor w b n marks
    → n < length marks → slice_get (offsets_of marks) n ≡ Some o
    → StandsFor (poll_window o w) b (n + 1) marks
known-poll w b n marks o is less here =
    let last = end_at-rises b marks is.rises in
    let lt = slice-below b n o (offsets_of marks) is.rises here in
    let known : ltb o w.after ≡ true = lt-ltb o w.after (omega (arith, is.after, last, lt)) in
    record {
      rises = is.rises;
      polled = omega arith;
      incomplete = rw known is.incomplete;
      high = is.high;
      after = rw known is.after;
      polled_to = rw (add-one n) (sym (end_at-rises b (take (suc n) marks) (RisesFrom-take b (suc n) marks is.rises)
          ∙ after_last-take b n o marks here));
    }

new-poll : (w : Window) (b n : ℕ) (marks : List Mark) (o : ℕ) → StandsFor w b n marks
    → n ≡ length marks → w.polled_to ≤ o → o < 2 ^ 63 - 1
    → StandsFor (poll_window o w) b (n + 1) (marks ++ new_mark o ∷ [])
unfolding high_at
new-poll w b n marks o is all follows small =
    let last = end_at-rises b marks is.rises in
    let whole : take n marks ≡ marks = take-length n marks (omega (arith, all)) in
    let to : w.polled_to ≡ w.after = is.polled_to ∙ ap (end_at b) whole ∙ sym is.after in
    let beyond : ltb o w.after ≡ false = le-ltb o w.after (omega (arith, to, follows)) in
    let from : after_last b (offsets_of marks) ≤ o = omega (arith, is.after, last, to, follows) in
    let offsets = offsets_of-append marks (new_mark o ∷ []) in
    let rises : RisesFrom b (offsets_of (marks ++ new_mark o ∷ [])) =
    subst (RisesFrom b) (sym offsets) (RisesFrom-append b (offsets_of marks) (o ∷ []) is.rises
    (from, small, omega (arith, small))) in
    let len = length-append marks (new_mark o ∷ []) in
    let end : o + 1 ≡ end_at b (marks ++ new_mark o ∷ []) =
    sym (end_at-rises b _ rises ∙ ap (after_last b) offsets ∙ after_last-append b (offsets_of marks) (o ∷ [])) in
    record {
      rises = rises;
      polled = omega (arith, len, all);
      incomplete = rw beyond (ap (λ l. l ++ o ∷ []) is.incomplete ∙ sym (incomplete-append marks (new_mark o ∷ [])));
      high = is.high ∙ ap greatest_of (sym (append-nil (complete_offsets marks)) ∙ sym (complete-append marks (new_mark o ∷ [])));
      after = rw beyond end;
      polled_to = end ∙ ap (end_at b) (sym (take-length (n + 1) (marks ++ new_mark o ∷ []) (omega (arith, len, all))));
    }

nothing-polled : (n : ℕ) (marks : List Mark) → with_polled n marks [] ≡ marks
nothing-polled n marks = ap (λ l. marks ++ map new_mark l) (drop-nothing (length marks - n) [] refl) ∙ append-nil marks

-- each offset in turn
StandsFor-poll_all : (os : List ℕ) (w : Window) (b n : ℕ) (marks : List Mark) → StandsFor w b n marks
    → RisesFrom w.polled_to os → AreNext n marks os
    → StandsFor (poll_all os w) b (n + length os) (with_polled n marks os)
StandsFor-poll_all [] w b n marks is rises next =
    rw (nothing-polled n marks, add-zero n) is
StandsFor-poll_all (o ∷ os) w b n marks is rises next = elim (cases_lt n (length marks)) [
  | inl less ↦
      let at = known n (length marks - n - 1) o os marks (omega arith) next in
      let step = known-poll w b n marks o is less at.here in
      let count : n + 1 + length os ≡ n + suc (length os) = omega arith in
      rw (at.same, ← count) (StandsFor-poll_all os (poll_window o w) b (n + 1) marks step rises.2 at.next)
  | inr more ↦
      let at = new n o os marks (omega (arith, more, is.polled)) in
      let step = new-poll w b n marks o is at.all rises.0 rises.1 in
      let count : n + 1 + length os ≡ n + suc (length os) = omega arith in
      rw (at.same, ← count) (StandsFor-poll_all os (poll_window o w) b (n + 1) (marks ++ new_mark o ∷ []) step rises.2 at.next)
]

-- ---- a success

same-test : (o p : ℕ) → eqb o p ≡ eqb p o
same-test o p = elim (cases_eq o p) [
  | inl same ↦ rw (eq-eqb o p same, eq-eqb p o (sym same)) refl
  | inr apart ↦ rw (ne_eqb o p apart, ne_eqb p o (λ (e : p ≡ o). apart (sym e))) refl
]

offsets-complete : (o : ℕ) (marks : List Mark) → offsets_of (with_complete o marks) ≡ offsets_of marks
offsets-complete o [] = refl
offsets-complete o (m ∷ marks) = ap (λ (l : List ℕ). m.offset ∷ l) (offsets-complete o marks)

take-complete : (o n : ℕ) (marks : List Mark) → take n (with_complete o marks) ≡ with_complete o (take n marks)
take-complete o zero marks = refl
take-complete o (suc n) [] = refl
take-complete o (suc n) (m ∷ marks) = ap (λ l. record { offset = m.offset; is_complete = (eqb o m.offset) || m.is_complete } ∷ l) (take-complete o n marks)

length-complete : (o : ℕ) (marks : List Mark) → length (with_complete o marks) ≡ length marks
length-complete o [] = refl
length-complete o (m ∷ marks) = ap suc (length-complete o marks)

incomplete-complete : (o : ℕ) (marks : List Mark) → incomplete_offsets (with_complete o marks) ≡ without o (incomplete_offsets marks)
incomplete-complete o [] = refl
incomplete-complete o (m ∷ marks) =
    let ih = incomplete-complete o marks in
    elim m.is_complete as (λ c.
    offsets_of (cond (not (eqb o m.offset || c)) (record { offset = m.offset; is_complete = eqb o m.offset || c } ∷ filter (λ x. not x.is_complete) (with_complete o marks)) (filter (λ x. not x.is_complete) (with_complete o marks)))
    ≡ without o (offsets_of (cond (not c) (m ∷ filter (λ x. not x.is_complete) marks) (filter (λ x. not x.is_complete) marks)))) [
      | true ↦ elim (cases_Bool (eqb o m.offset)) [ inl t ↦ rw t ih | inr f ↦ rw f ih ]
      | false ↦ elim (cases_Bool (eqb o m.offset)) [
        | inl t ↦ rw (same-test m.offset o, t) ih
        | inr f ↦ rw (same-test m.offset o, f) (ap (λ (l : List ℕ). m.offset ∷ l) ih)
      ]
    ]

-- the greatest of these and of one more
abbrev most : ℕ → Option ℕ → ℕ
most o high = option_map_or (max o) high o

most-swap : (o p : ℕ) (high : Option ℕ) → max o (most p high) ≡ max p (most o high)
most-swap o p None = omega arith
most-swap o p (Some h) = omega arith

most-twice : (o : ℕ) (high : Option ℕ) → max o (most o high) ≡ most o high
most-twice o None = omega arith
most-twice o (Some h) = omega arith

most-complete : (o : ℕ) (marks : List Mark)
    → most o (greatest_of (complete_offsets (with_complete o marks))) ≡ most o (greatest_of (complete_offsets marks))
most-complete o [] = refl
most-complete o (m ∷ marks) =
    let ih = most-complete o marks in
    let G = greatest_of (complete_offsets marks) in
    let H = greatest_of (complete_offsets (with_complete o marks)) in
    elim m.is_complete as (λ c.
    most o (greatest_of (offsets_of (cond (eqb o m.offset || c) (record { offset = m.offset; is_complete = eqb o m.offset || c } ∷ filter (λ x. x.is_complete) (with_complete o marks)) (filter (λ x. x.is_complete) (with_complete o marks)))))
    ≡ most o (greatest_of (offsets_of (cond c (m ∷ filter (λ x. x.is_complete) marks) (filter (λ x. x.is_complete) marks))))) [
      | true ↦ elim (cases_Bool (eqb o m.offset)) [
        | inl t ↦ rw t (most-swap o m.offset H ∙ ap (max m.offset) ih ∙ sym (most-swap o m.offset G))
        | inr f ↦ rw f (most-swap o m.offset H ∙ ap (max m.offset) ih ∙ sym (most-swap o m.offset G))
      ]
      | false ↦ elim (cases_Bool (eqb o m.offset)) [
        | inl t ↦ let at : o ≡ m.offset = eqb-true o m.offset t in
            rw t (rw (← at) (most-twice o H ∙ ih))
        | inr f ↦ rw f ih
      ]
    ]

greatest-complete_one : (o : ℕ) (marks : List Mark) → list_any (λ x. eqb x o) (incomplete_offsets marks) ≡ true
    → greatest_of (complete_offsets (with_complete o marks)) ≡ Some (most o (greatest_of (complete_offsets marks)))
greatest-complete_one o [] has = cc
greatest-complete_one o (m ∷ marks) has =
    let G = greatest_of (complete_offsets marks) in
    let H = greatest_of (complete_offsets (with_complete o marks)) in
    let all = most-complete o marks in
    (elim m.is_complete as (λ c. list_any (λ x. eqb x o) (offsets_of (cond (not c) (m ∷ filter (λ x. not x.is_complete) marks) (filter (λ x. not x.is_complete) marks))) ≡ true →
    greatest_of (offsets_of (cond (eqb o m.offset || c) (record { offset = m.offset; is_complete = eqb o m.offset || c } ∷ filter (λ x. x.is_complete) (with_complete o marks)) (filter (λ x. x.is_complete) (with_complete o marks))))
    ≡ Some (most o (greatest_of (offsets_of (cond c (m ∷ filter (λ x. x.is_complete) marks) (filter (λ x. x.is_complete) marks)))))) [
      | true ↦ λ h. let ih = greatest-complete_one o marks h in
          elim (cases_Bool (eqb o m.offset)) [
            | inl t ↦ rw t (ap Some (ap (λ (g : Option ℕ). most m.offset g) ih ∙ sym (most-swap o m.offset G)))
            | inr f ↦ rw f (ap Some (ap (λ (g : Option ℕ). most m.offset g) ih ∙ sym (most-swap o m.offset G)))
          ]
      | false ↦ λ h. elim (cases_Bool (eqb o m.offset)) [
        | inl t ↦ let at : o ≡ m.offset = eqb-true o m.offset t in
            rw t (rw (← at) (ap Some all))
        | inr f ↦ rw f (greatest-complete_one o marks (rw (same-test m.offset o, f) at h))
      ]
    ]) has

pub StandsFor-succeed : (w : Window) (b n : ℕ) (marks : List Mark) (o : ℕ) → StandsFor w b n marks
    → list_any (λ x. eqb x o) w.incomplete ≡ true → StandsFor (succeed_window o w) b n (with_complete o marks)
unfolding high_at end_at
StandsFor-succeed w b n marks o is has =
    let offsets = offsets-complete o marks in
    let first = offsets-complete o (take n marks) in
    record {
      rises = rw offsets is.rises;
      polled = rw (length-complete o marks) is.polled;
      incomplete = ap (without o) is.incomplete ∙ sym (incomplete-complete o marks);
      high = ap (λ (h : Option ℕ). Some (most o h)) is.high
          ∙ sym (greatest-complete_one o marks (rw is.incomplete at has));
      after = rw offsets is.after;
      polled_to = rw (take-complete o n marks, first) is.polled_to;
    }

-- ---- the next offset, as the state meets it

known_left : (n m : ℕ) → n < m → (k : ℕ) × (m - n ≡ suc k)
known_left n m less = (m - n - 1, omega arith)

-- an offset that is not known comes only where all that are known were polled
pub next-new : (w : Window) (b n : ℕ) (marks : List Mark) (o : ℕ) → StandsFor w b n marks
    → AreNext n marks (o ∷ []) → w.after ≤ o → w.polled_to ≡ w.after
next-new w b n marks o is next above = elim (cases_lt n (length marks)) [
  | inl less ↦
      let k = known_left n (length marks) less in
      let at = known n k.0 o [] marks k.1 next in
      let last = end_at-rises b marks is.rises in
      let lt = slice-below b n o (offsets_of marks) is.rises at.here in
      absurd (omega (arith, is.after, last, lt, above))
  | inr more ↦ is.polled_to ∙ ap (end_at b) (take-length n marks more) ∙ sym is.after
]

-- an offset that is known is the next one
pub next-known : (w : Window) (b n : ℕ) (marks : List Mark) (o : ℕ) → StandsFor w b n marks
    → AreNext n marks (o ∷ []) → w.polled_to ≤ o → o < w.after
    → length (filter (λ x. ltb x (o + 1)) w.incomplete) ≡ length (filter (λ x. ltb x w.polled_to) w.incomplete)
    + cond (list_any (λ x. eqb x o) w.incomplete) 1 0
next-known w b n marks o is next follows known_o = elim (cases_lt n (length marks)) [
  | inl less ↦
      let k = known_left n (length marks) less in
      let at = known n k.0 o [] marks k.1 next in
      let to = is.polled_to ∙ end_at-rises b (take n marks) (RisesFrom-take b n marks is.rises) in
      rw (is.incomplete, to) (count-next b n o marks is.rises at.here)
  | inr more ↦
      let to = is.polled_to ∙ ap (end_at b) (take-length n marks more) ∙ sym is.after in
      absurd (omega (arith, to, follows, known_o))
]

length-filter-le : (p : ℕ → Bool) (xs : List ℕ) → length (filter p xs) ≤ length xs
length-filter-le p [] = omega arith
length-filter-le p (x ∷ xs) = let ih = length-filter-le p xs in
    elim (p x) as (λ b. length (cond b (x ∷ filter p xs) (filter p xs)) ≤ suc (length xs)) [
      | true ↦ omega (arith, ih)
      | false ↦ omega (arith, ih)
    ]

-- the first of the next ones is the next one
next-one : (n o : ℕ) (os : List ℕ) (marks : List Mark) → AreNext n marks (o ∷ os) → AreNext n marks (o ∷ [])
next-one n o os marks next = elim (cases_lt n (length marks)) [
  | inl less ↦
      let k = known_left n (length marks) less in
      let at = known n k.0 o os marks k.1 next in
      let len = length-offsets marks in
      let place = at-drop n (offsets_of marks) (omega (arith, len, less)) in
      let same : place.0 ≡ o = same_Some place.0 o (sym place.1 ∙ at.here) in
      rw (k.1, place.2, same) (ap (λ l. o ∷ l) (take-nothing k.0 [] refl))
  | inr more ↦
      let none : length marks - n ≡ 0 = omega arith in
      let len = length-offsets marks in
      rw none (sym (take-nothing 1 _ (drop-length n (offsets_of marks) (omega (arith, len, more)))))
]

-- a poll of one offset, with others to follow
pub record IsPolled (w : Window) (b n : ℕ) (marks : List Mark) (o : ℕ) (os : List ℕ) : Type 0 where
  pub first : AreNext n marks (o ∷ [])
  pub stands : StandsFor (poll_window o w) b (n + 1) (with_polled n marks (o ∷ []))
  pub next : AreNext (n + 1) (with_polled n marks (o ∷ [])) os
  pub few : length (filter (λ x. ltb x (o + 1)) (poll_window o w).incomplete)
      ≤ length (filter (λ x. ltb x w.polled_to) w.incomplete) + 1

IsPolled-one : (w : Window) (b n : ℕ) (marks : List Mark) (o : ℕ) (os : List ℕ) → StandsFor w b n marks
    → AreNext n marks (o ∷ os) → w.polled_to ≤ o → o < 2 ^ 63 - 1 → IsPolled w b n marks o os
IsPolled-one w b n marks o os is next follows small = elim (cases_lt n (length marks)) [
  | inl less ↦
      let k = known_left n (length marks) less in
      let at = known n k.0 o os marks k.1 next in
      let first = next-one n o os marks next in
      let alone = known n k.0 o [] marks k.1 first in
      let same : with_polled n marks (o ∷ []) ≡ marks = alone.same ∙ nothing-polled (n + 1) marks in
      let last = end_at-rises b marks is.rises in
      let lt = slice-below b n o (offsets_of marks) is.rises at.here in
      let below : o < w.after = omega (arith, is.after, last, lt) in
      let count = next-known w b n marks o is first follows below in
      record {
        first = first;
        stands = rw same (known-poll w b n marks o is less at.here);
        next = rw same at.next;
        few = rw (lt-ltb o w.after below) (elim (cases_Bool (list_any (λ x. eqb x o) w.incomplete)) [
          | inl t ↦ let c = rw t at count in omega (arith, c)
          | inr f ↦ let c = rw f at count in omega (arith, c)
        ]);
      }
  | inr more ↦
      let at = new n o os marks (omega (arith, more, is.polled)) in
      let whole = take-length n marks more in
      let to : w.polled_to ≡ w.after = is.polled_to ∙ ap (end_at b) whole ∙ sym is.after in
      let all = open_polled-is w b n marks is in
      let every = ap (λ (ms : List Mark). length (incomplete_offsets ms)) whole in
      let size = ap (λ (l : List ℕ). length l) is.incomplete in
      let len = length-append w.incomplete (o ∷ []) in
      let fewer = length-filter-le (λ x. ltb x (o + 1)) (w.incomplete ++ o ∷ []) in
      record {
        first = next-one n o os marks next;
        stands = rw at.here (new-poll w b n marks o is at.all follows small);
        next = rw at.here at.next;
        few = rw (le-ltb o w.after (omega (arith, to, follows))) (omega (arith, all, every, size, len, fewer));
      }
]

-- one more offset polled
poll_all-more : (xs : List ℕ) (o : ℕ) (w : Window) → poll_all (xs ++ o ∷ []) w ≡ poll_window o (poll_all xs w)
poll_all-more [] o w = refl
poll_all-more (x ∷ xs) o w = poll_all-more xs o (poll_window x w)

-- ---- the loops

-- one more entry of an assignment's map
pub record IsInherited (w : Window) (b i : ℕ) (pairs : List (ℕ × Bool)) (pair : ℕ × Bool) : Type 0 where
  pub above : w.after ≤ pair.0
  pub small : pair.0 < 2 ^ 63 - 1
  pub stands : StandsFor (inherit_window pair.0 pair.1 w) b 0 (marks_of_pairs (take (i + 1) pairs))
  pub rises : RisesFrom (pair.0 + 1) (map (λ p. p.0) (drop (i + 1) pairs))

pub IsInherited-one : (w : Window) (b i : ℕ) (pairs : List (ℕ × Bool)) (d : ℕ × Bool) → i < length pairs
    → StandsFor w b 0 (marks_of_pairs (take i pairs)) → RisesFrom w.after (map (λ p. p.0) (drop i pairs))
    → IsInherited w b i pairs (get_or pairs i d)
IsInherited-one w b i pairs d within is rises =
    let here : drop i pairs ≡ get_or pairs i d ∷ drop (suc i) pairs = drop-cons pairs i d within in
    let up : RisesFrom w.after (map (λ p. p.0) (get_or pairs i d ∷ drop (suc i) pairs)) =
    subst (λ (ps : List (ℕ × Bool)). RisesFrom w.after (map (λ p. p.0) ps)) here rises in
    let more : marks_of_pairs (take (i + 1) pairs) ≡ marks_of_pairs (take i pairs)
    ++ record { offset = (get_or pairs i d).0; is_complete = (get_or pairs i d).1 } ∷ [] =
    ap marks_of_pairs (take_more pairs i d within)
    ∙ map-append (λ (p : ℕ × Bool). record { offset = p.0; is_complete = p.1 }) (take i pairs) (get_or pairs i d ∷ []) in
    record {
      above = up.0;
      small = up.1;
      stands = rw more (StandsFor-inherit w b (marks_of_pairs (take i pairs)) (get_or pairs i d).0 (get_or pairs i d).1 is up.0 up.1);
      rises = rw (add-one i) up.2;
    }

-- what holds where the first offsets are polled
pub record IsPolledUpto (first w : Window) (i : ℕ) (os : List ℕ) : Type 0 where
  pub window : w ≡ poll_all (take i os) first
  pub rises : RisesFrom w.polled_to (drop i os)
  pub next : (b n : ℕ) × (marks : List Mark) × StandsFor w b n marks × AreNext n marks (drop i os)
  pub few : open_polled w + length (drop i os) < 2 ^ 32

-- one more offset
pub record IsPolledNext (first w new : Window) (i o : ℕ) (os : List ℕ) : Type 0 where
  pub follows : w.polled_to ≤ o
  pub small : o < 2 ^ 63 - 1
  pub next : (b n : ℕ) × (marks : List Mark) × StandsFor w b n marks × AreNext n marks (o ∷ [])
  pub few : open_polled w + 1 < 2 ^ 32
  pub upto : new ≡ poll_window o w → IsPolledUpto first new (i + 1) os

pub IsPolledNext-one : (first w new : Window) (i d : ℕ) (os : List ℕ) → i < length os → IsPolledUpto first w i os
    → IsPolledNext first w new i (get_or os i d) os
IsPolledNext-one first w new i d os within upto =
    let o = get_or os i d in
    let here : drop i os ≡ o ∷ drop (suc i) os = drop-cons os i d within in
    let up : RisesFrom w.polled_to (o ∷ drop (suc i) os) = subst (RisesFrom w.polled_to) here upto.rises in
    let b = upto.next.0 in
    let n = upto.next.1 in
    let marks = upto.next.2 in
    let next : AreNext n marks (o ∷ drop (suc i) os) = subst (AreNext n marks) here upto.next.4 in
    let one = IsPolled-one w b n marks o (drop (suc i) os) upto.next.3 next up.0 up.1 in
    let size = ap (λ (l : List ℕ). length l) here in
    let few = upto.few in
    record {
      follows = up.0;
      small = up.1;
      next = (b, n, marks, upto.next.3, one.first);
      few = omega (arith, few, size);
      upto = λ is. subst (λ (v : Window). IsPolledUpto first v (i + 1) os) (sym is) (record {
        window = ap (poll_window o) upto.window ∙ sym (poll_all-more (take i os) o first) ∙ ap (λ l. poll_all l first) (sym (take_more os i d within));
        rises = rw (add-one i) up.2;
        next = (b, n + 1, with_polled n marks (o ∷ []), one.stands, rw (add-one i) one.next);
        few = rw (add-one i) (let more = one.few in omega (arith, few, size, more));
      });
    }

-- all offsets are polled
pub StandsFor-polled : (first w : Window) (i : ℕ) (os : List ℕ) (b n : ℕ) (marks : List Mark)
    → w ≡ poll_all (take i os) first → length os ≤ i → RisesFrom first.polled_to os
    → StandsFor first b n marks → AreNext n marks os → StandsFor w b (n + length os) (with_polled n marks os)
StandsFor-polled first w i os b n marks window all rises is next =
    rw (window, take-length i os all) (StandsFor-poll_all os first b n marks is rises next)

pub begin-small : (b : ℕ) (os : List ℕ) → RisesFrom b os → b < 2 ^ 63
begin-small b os rises =
    let le = after_last-le b os rises in let small = after_last-small b os rises in omega (arith, le, small)
