-- What leaves the records that may be dispatched, and the next one, as they were.
use Rattle.std.proofs.Common.{◌≡◌, ℕ, false, not, ◌||◌, List, [], ◌∷◌, length, Option, refl, ap}
use Rattle.std.specs.Prelude.{nat_lt, option_map}
use Rattle.std.specs.Option.{option_map_or}
use Rattle.pc_model.specs.declared.event.Event.{Event}
use Rattle.pc_model.specs.Record.{Record}
use Rattle.pc_model.specs.Numbers.{least_of, first_some}
use Rattle.pc_model.specs.Given.{Given}
use Rattle.pc_model.specs.Epochs.{epoch_of}
use Rattle.pc_model.specs.Known.{polled_records}
use Rattle.pc_model.specs.Pressure.{is_below_high}
use Rattle.pc_model.specs.Retry.{now_of, failures_of, ready_of}
use Rattle.pc_model.specs.Next.{OrderingKey, ordering_key, is_busy, is_before, is_first, is_eligible_record, eligible_offsets, cyclic_order, last_part, next_of_part, next_record}
use Rattle.pc_model.specs.OneMore.{SamePart}
use Rattle.pc_model.proofs.ListLemmas.{filter-same, list_all-same}
use Rattle.pc_model.proofs.KnownLaws.{polled_records-same, is_complete-same, is_blocked-same, high_of-same}

-- the first that gives something is the same where each gives the same
first_some-same : {X Y : Type 0} (f g : X → Option Y) → ((x : X) → f x ≡ g x) →
    (xs : List X) → first_some f xs ≡ first_some g xs
first_some-same f g same [] = refl
first_some-same f g same (x ∷ xs) = rw (same x, first_some-same f g same xs)

-- a part of which the same is said at the same time, whose ordering keys are as busy as they were
module _ (given : Given) (p : ℕ) (h k : List Event) (same : SamePart given p h k)
    (busy : (key : OrderingKey) → is_busy given k key ≡ is_busy given h key)
    (now : now_of k ≡ now_of h) where
  failures_of-same : (o : ℕ) → failures_of k p o ≡ failures_of h p o
  failures_of-same o = rw (same.epoch, same.failures (epoch_of h p) o)

  ready_of-same : (o : ℕ) → ready_of k p o ≡ ready_of h p o
  ready_of-same o = rw (same.epoch, same.ready (epoch_of h p) o)

  is_first-same : (r : Record) → is_first given k p r ≡ is_first given h p r
  unfolding is_first
  is_first-same r = rw (polled_records-same given p h k same)
      (list_all-same _ _ (λ (q : Record). ap (λ c. not (is_before given p q r) || c)
      (is_complete-same given p h k same q.offset)) (polled_records given h p))

  is_below_high-same : (o : ℕ) → is_below_high given k p o ≡ is_below_high given h p o
  is_below_high-same o = ap (λ high. option_map_or (nat_lt o) high false)
      (high_of-same given p h k same)

  is_eligible_record-same : (r : Record) → is_eligible_record given k p r
      ≡ is_eligible_record given h p r
  unfolding is_eligible_record
  is_eligible_record-same r = rw (
    is_complete-same given p h k same r.offset,
    busy
        (ordering_key given.setup.settings.order p r),
    is_first-same r,
    failures_of-same r.offset,
    ready_of-same r.offset,
    now,
    is_blocked-same given p h k same,
    is_below_high-same r.offset,
  )

  pub eligible_offsets-same : eligible_offsets given k p ≡ eligible_offsets given h p
  unfolding eligible_offsets
  eligible_offsets-same = rw (
    same.held,
    polled_records-same given p h k same,
    filter-same (is_eligible_record given k p)
        (is_eligible_record given h p) is_eligible_record-same (polled_records given h p),
  )

-- where that holds of every part, and the last dispatch was of the same part, the next record is
-- the same
pub next_record-same : (given : Given) (h k : List Event) → ((p : ℕ) → SamePart given p h k) →
    ((key : OrderingKey) → is_busy given k key ≡ is_busy given h key) → now_of k ≡ now_of h →
    last_part k ≡ last_part h →
    next_record given k ≡ next_record given h
unfolding next_record
next_record-same given h k same busy now last = rw last
    (first_some-same (next_of_part given k) (next_of_part given h)
    (λ p. ap (λ os. option_map (λ o. (p, o)) (least_of os))
    (eligible_offsets-same given p h k (same p) busy now))
    (cyclic_order (length given.logs) (last_part h)))
