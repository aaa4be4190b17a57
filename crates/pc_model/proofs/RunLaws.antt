-- What leaves the tests of a run as they were, and what a success adds to them.
use Rattle.std.proofs.Common.{◌≡◌, ℕ, ◌+◌, false, ◌&&◌, List, ◌∷◌, Option, Some, None, refl, ap}
use Rattle.std.specs.Prelude.{nat_le, slice_get}
use Rattle.std.specs.Option.{option_map_or}
use Rattle.pc_model.specs.declared.event.Event.{Event}
use Rattle.pc_model.specs.declared.event.Event.TheVariants.{Success}
use Rattle.pc_model.specs.Record.{Record}
use Rattle.pc_model.specs.Given.{Given}
use Rattle.pc_model.specs.Jobs.{is_draining}
use Rattle.pc_model.specs.Epochs.{epoch_of}
use Rattle.pc_model.specs.Known.{unpolled_records}
use Rattle.pc_model.specs.Pressure.{is_upto_high}
use Rattle.pc_model.specs.Next.{is_before}
use Rattle.pc_model.specs.Run.{open_records, may_poll_next, poll_number, is_commit_due, is_unsaved, is_spent, is_given_up, is_part_at_rest, success_count}
use Rattle.pc_model.specs.OneMore.{SamePart}
use Rattle.pc_model.proofs.ListLemmas.{list_any-same, list_all-same}
use Rattle.pc_model.proofs.KnownLaws.{unpolled_records-same, is_blocked-same, high_of-same, is_stored-same, open_records-same}

success_count-success : (h : List Event) (t : ℕ) (answer : List ℕ) → success_count
    (Success t answer ∷ h) ≡ success_count h + 1
success_count-success h t answer = refl

-- a part of which the same is said in two histories
module _ (given : Given) (p : ℕ) (h k : List Event) (same : SamePart given p h k) where
  is_upto_high-same : (o : ℕ) → is_upto_high given k p o ≡ is_upto_high given h p o
  is_upto_high-same o = ap (λ high. option_map_or (nat_le o) high false)
      (high_of-same given p h k same)

  is_commit_due-same : is_commit_due given k p ≡ is_commit_due given h p
  is_commit_due-same = rw (
    same.held,
    same.epoch,
    same.fresh
        (epoch_of h p),
    is_blocked-same given p h k same,
  )

  is_unsaved-same : is_unsaved given k p ≡ is_unsaved given h p
  is_unsaved-same = rw (
    same.held,
    is_stored-same given p h k same,
    same.epoch,
    same.unstored
        (epoch_of h p),
  )

  is_spent-same : (r : Record) → is_spent given k p r ≡ is_spent given h p r
  is_spent-same r = rw (same.epoch, same.failures (epoch_of h p) r.offset)

  is_given_up-same : (r : Record) → is_given_up given k p r ≡ is_given_up given h p r
  unfolding is_given_up
  is_given_up-same r = rw (
    is_spent-same r,
    open_records-same given p h k same,
    is_blocked-same
        given p h k same,
    is_upto_high-same r.offset,
    list_any-same _ _ (λ (q : Record). ap (λ b. is_before given p q r && b) (is_spent-same q))
        (open_records given h p),
  )

  may_poll_next-same : (r : Option Record) → may_poll_next given k p r ≡ may_poll_next given h p r
  may_poll_next-same None = refl
  may_poll_next-same (Some r) = rw (is_blocked-same given p h k same, is_upto_high-same r.offset)

  -- and which both drain or both do not
  module _ (draining : is_draining k ≡ is_draining h) where
    pub poll_number-same : poll_number given k p ≡ poll_number given h p
    unfolding poll_number
    poll_number-same = rw (
      same.held,
      draining,
      unpolled_records-same given p h k same,
      open_records-same given p h k same,
      may_poll_next-same (slice_get (unpolled_records given h p) 0),
    )

    pub is_part_at_rest-same : is_part_at_rest given k p ≡ is_part_at_rest given h p
    is_part_at_rest-same = rw (
      is_commit_due-same,
      poll_number-same,
      open_records-same given p h k same,
      list_all-same (is_given_up given k p) (is_given_up given h p) is_given_up-same
          (open_records given h p),
    )
