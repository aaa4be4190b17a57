-- Counts of the jobs of each worker, one event after the other.
use Rattle.std.proofs.Common.{◌≡◌, ◌∙◌, ℕ, ◌+◌, ◌<◌, ◌≤◌, ◌==◌, Bool, true, false, cond, inl, inr, List, [], ◌∷◌, length, filter, get_or, refl, ap, sym, subst, eq-eqb, get_or-set_other, get_or-set_same, arith}
use Rattle.std.specs.Prelude.{replicate, slice_set}
use Rattle.std.proofs.lemmas.Bool.{cases_lt, eqb-true}
use Rattle.std.proofs.lemmas.List.{get_or-replicate, get_or_past, length-set, length-replicate}
use Rattle.std.proofs.lemmas.List.FromFn.{fill_by_all, get_or-map-range_with_len, length-map-range_with_len}
use Rattle.pc_model.specs.declared.event.Event.{Event}
use Rattle.pc_model.specs.declared.event.Event.TheVariants.{Dispatch}
use Rattle.pc_drain.specs.Counts.{dispatch_workers}
use Rattle.pc_pool.specs.Jobs.{AreJobs, jobs_of}

one-more : (b : Bool) (x : ℕ) (xs : List ℕ) (n : ℕ) → length xs ≤ n
    → length (cond b (x ∷ xs) xs) ≤ n + 1
one-more true x xs n few = omega arith
one-more false x xs n few = omega arith

filter-few : (p : ℕ → Bool) (xs : List ℕ) → length (filter p xs) ≤ length xs
filter-few p [] = omega arith
filter-few p (x ∷ xs) = let few = one-more (p x) x (filter p xs) (length xs) (filter-few p xs) in
    omega (arith, few)

workers-few : (h : List Event) → length (dispatch_workers h) ≤ length h
workers-few [] = omega arith
workers-few (Dispatch ticket worker part offset epoch attempt ∷ h) =
    let few = workers-few h in omega (arith, few)
workers-few (e ∷ h) = let few = workers-few h in omega (arith, few)

module _ (n : ℕ) (h : List Event) (jobs : List ℕ) (are : AreJobs n h jobs) where
  pub jobs-length : length jobs ≡ n
  jobs-length = ap length are ∙ length-map-range_with_len (jobs_of h) 0 n

  job-at : (k : ℕ) → k < n → get_or jobs k 0 ≡ jobs_of h k
  job-at k below = ap (λ (xs : List ℕ). get_or xs k 0) are
      ∙ get_or-map-range_with_len (jobs_of h) 0 n k k 0 below (omega arith)

  -- a worker has no more jobs than there are events
  pub jobs-few : (k : ℕ) → get_or jobs k 0 ≤ length h
  jobs-few k = elim (cases_lt k n) [
    | inl below ↦
        let at = job-at k below in
        let some = filter-few (λ w. w == k) (dispatch_workers h) in let all = workers-few h in
        omega (arith, at, some, all)
    | inr past ↦
        let long = jobs-length in
        let none = get_or_past jobs k 0 (omega (arith, long, past)) in omega (arith, none)
  ]

  -- one job more
  module _ (ticket worker part offset epoch attempt : ℕ) where
    more-at : (k : ℕ) → k < n → (b : Bool) → (worker == k) ≡ b
        → get_or (slice_set jobs worker (get_or jobs worker 0 + 1)) k 0
        ≡ length (cond b (worker ∷ filter (λ w. w == k) (dispatch_workers h))
        (filter (λ w. w == k) (dispatch_workers h)))
    more-at k below true is =
        let same : worker ≡ k = eqb-true worker k is in
        let long = jobs-length in
        let at = job-at worker (omega (arith, same, below)) in
        let was : get_or (slice_set jobs worker (get_or jobs worker 0 + 1)) worker 0
        ≡ length (worker ∷ filter (λ w. w == worker) (dispatch_workers h)) =
        get_or-set_same jobs worker (get_or jobs worker 0 + 1) 0 (omega (arith, same, below, long))
        ∙ omega (arith, at) in
        subst (λ (j : ℕ). get_or (slice_set jobs worker (get_or jobs worker 0 + 1)) j 0
        ≡ length (worker ∷ filter (λ w. w == j) (dispatch_workers h))) same was
    more-at k below false is =
        let other : k ≡ worker → ⊥ = λ (e : k ≡ worker). apart e in
        get_or-set_other jobs worker k (get_or jobs worker 0 + 1) 0 other ∙ job-at k below
      where
        apart : k ≡ worker → ⊥
        apart e = let same = eq-eqb worker k (sym e) in cc

    pub jobs-more : AreJobs n (Dispatch ticket worker part offset epoch attempt ∷ h)
        (slice_set jobs worker (get_or jobs worker 0 + 1))
    jobs-more = fill_by_all (jobs_of (Dispatch ticket worker part offset epoch attempt ∷ h)) _ n 0
        (length-set jobs worker _ ∙ jobs-length)
        (λ k below. more-at k below (worker == k) refl)

-- another event changes nothing
pub jobs-same : (n : ℕ) (e : Event) (h : List Event) (jobs : List ℕ)
    → ((ticket worker part offset epoch attempt : ℕ)
    → e ≡ Dispatch ticket worker part offset epoch attempt → ⊥)
    → AreJobs n h jobs → AreJobs n (e ∷ h) jobs
jobs-same n (Dispatch ticket worker part offset epoch attempt) h jobs other are =
    absurd (other ticket worker part offset epoch attempt refl)
jobs-same n e h jobs other are = are

-- zeros before the first event
pub jobs-none : (n : ℕ) → AreJobs n [] (replicate n 0)
jobs-none n = fill_by_all (jobs_of []) (replicate n 0) n 0 (length-replicate n 0)
    (λ k below. get_or-replicate n k 0 0 below)
