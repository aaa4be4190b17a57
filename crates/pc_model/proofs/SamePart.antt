-- An event that does not touch a part changes nothing of what is said of it, and what is the same
-- of a part in two histories.
use Rattle.std.proofs.Common.{◌≡◌, ℕ, false, ◌==◌, ◌&&◌, List, ◌∷◌, Option, Some, None, refl, ◌∙◌}
use Rattle.std.specs.Option.{option_map_or}
use Rattle.pc_model.specs.declared.event.Event.{Event}
use Rattle.pc_model.specs.declared.event.Event.TheVariants.{Assign, Poll, Dispatch, Success, Failure, Stale, Commit as Committed, CommitFailed, Revoke, Lost, Crash, Tick, Drain, Done, Closed}
use Rattle.pc_model.specs.Given.{Given}
use Rattle.pc_model.specs.Jobs.{Job, job_of}
use Rattle.pc_model.specs.Known.{is_job_at}
use Rattle.pc_model.specs.OneMore.{is_job_of_part, touches, SamePart}

-- a job of another part is at none of the part's offsets
is_job_at-other : (j : Option Job) (p e o : ℕ) → is_job_of_part j p ≡ false → is_job_at j p e o
    ≡ false
is_job_at-other None p e o apart = refl
is_job_at-other (Some j) p e o apart = simp apart

-- a job of another part is no success of the part
is_success_of-other : (j : Option Job) (p e : ℕ) → is_job_of_part j p ≡ false → option_map_or
    (λ k. (k.part == p) && (k.epoch == e)) j false ≡ false
is_success_of-other None p e apart = refl
is_success_of-other (Some j) p e apart = simp apart

-- a history is as it is
SamePart-refl : (given : Given) (p : ℕ) (h : List Event) → SamePart given p h h
SamePart-refl given p h = record {
  epoch = refl;
  held = refl;
  assigned = refl;
  polled = refl;
  succeeded = λ e o. refl;
  failures =
      λ e o. refl;
  ready = λ e o. refl;
  stored = refl;
  size = refl;
  fresh = λ e. refl;
  unstored = λ e. refl;
}

SamePart-trans : {given : Given} {p : ℕ} {h k l : List Event} → SamePart given p h k →
    SamePart given p k l → SamePart given p h l
SamePart-trans f g = record {
  epoch = g.epoch ∙ f.epoch;
  held = g.held ∙ f.held;
  assigned = g.assigned ∙ f.assigned;
  polled =
      g.polled ∙ f.polled;
  succeeded = λ e o. g.succeeded e o ∙ f.succeeded e o;
  failures =
      λ e o. g.failures e o ∙ f.failures e o;
  ready = λ e o. g.ready e o ∙ f.ready e o;
  stored = g.stored ∙ f.stored;
  size = g.size ∙ f.size;
  fresh = λ e. g.fresh e ∙ f.fresh e;
  unstored = λ e. g.unstored e ∙ f.unstored e;
}

-- an event that does not touch the part leaves it as it was
pub other_part : (given : Given) (p : ℕ) (v : Event) (h : List Event) → touches v h p ≡ false →
    SamePart given p h (v ∷ h)
other_part given p (Assign q epoch position text) h apart = record {
  epoch = simp apart;
  held = simp apart;
  assigned = simp apart;
  polled = simp apart;
  succeeded =
      λ e o. refl;
  failures = λ e o. refl;
  ready = λ e o. refl;
  stored = simp apart;
  size = simp apart;
  fresh = λ e. simp apart;
  unstored =
      λ e. simp apart;
}
other_part given p (Poll q count last) h apart = record {
  epoch = refl;
  held = refl;
  assigned = refl;
  polled = simp apart;
  succeeded =
      λ e o. refl;
  failures = λ e o. refl;
  ready = λ e o. refl;
  stored = refl;
  size = refl;
  fresh = λ e. refl;
  unstored = λ e. refl;
}
other_part given p (Dispatch ticket worker q o epoch attempt) h apart = record {
  epoch = refl;
  held = refl;
  assigned = refl;
  polled = refl;
  succeeded = λ e o. refl;
  failures =
      λ e o. refl;
  ready = λ e o. refl;
  stored = refl;
  size = refl;
  fresh = λ e. refl;
  unstored = λ e. refl;
}
other_part given p (Success ticket answer) h apart = record {
  epoch = refl;
  held = refl;
  assigned = refl;
  polled = refl;
  succeeded = λ e o. simp (is_job_at-other (job_of h ticket) p e o apart);
  failures =
      λ e o. refl;
  ready = λ e o. refl;
  stored = refl;
  size = refl;
  fresh = λ e. simp (is_success_of-other (job_of h ticket) p e apart);
  unstored = λ e. simp (is_success_of-other (job_of h ticket) p e apart);
}
other_part given p (Failure ticket code ready) h apart = record {
  epoch = refl;
  held = refl;
  assigned = refl;
  polled = refl;
  succeeded = λ e o. refl;
  failures = λ e o. simp (is_job_at-other (job_of h ticket) p e o apart);
  ready =
      λ e o. simp (is_job_at-other (job_of h ticket) p e o apart);
  stored = refl;
  size = refl;
  fresh = λ e. refl;
  unstored = λ e. refl;
}
other_part given p (Stale ticket) h apart = record {
  epoch = refl;
  held = refl;
  assigned = refl;
  polled = refl;
  succeeded = λ e o. refl;
  failures =
      λ e o. refl;
  ready = λ e o. refl;
  stored = refl;
  size = refl;
  fresh = λ e. refl;
  unstored = λ e. refl;
}
other_part given p (Committed q position text size) h apart = record {
  epoch = refl;
  held = refl;
  assigned = refl;
  polled = refl;
  succeeded = λ e o. refl;
  failures =
      λ e o. refl;
  ready = λ e o. refl;
  stored = simp apart;
  size = simp apart;
  fresh = λ e. simp apart;
  unstored = λ e. simp apart;
}
other_part given p (CommitFailed q position text size) h apart = record {
  epoch = refl;
  held = refl;
  assigned = refl;
  polled = refl;
  succeeded = λ e o. refl;
  failures =
      λ e o. refl;
  ready = λ e o. refl;
  stored = simp apart;
  size = simp apart;
  fresh = λ e. simp apart;
  unstored = λ e. refl;
}
other_part given p (Revoke q epoch) h apart = record {
  epoch = simp apart;
  held = simp apart;
  assigned = refl;
  polled = refl;
  succeeded =
      λ e o. refl;
  failures = λ e o. refl;
  ready = λ e o. refl;
  stored = refl;
  size = refl;
  fresh = λ e. refl;
  unstored = λ e. refl;
}
other_part given p (Lost q epoch) h apart = record {
  epoch = simp apart;
  held = simp apart;
  assigned = refl;
  polled = refl;
  succeeded =
      λ e o. refl;
  failures = λ e o. refl;
  ready = λ e o. refl;
  stored = refl;
  size = refl;
  fresh = λ e. refl;
  unstored = λ e. refl;
}
other_part given p Crash h apart = cc
other_part given p (Tick now) h apart = record {
  epoch = refl;
  held = refl;
  assigned = refl;
  polled = refl;
  succeeded = λ e o. refl;
  failures =
      λ e o. refl;
  ready = λ e o. refl;
  stored = refl;
  size = refl;
  fresh = λ e. refl;
  unstored = λ e. refl;
}
other_part given p Drain h apart = record {
  epoch = refl;
  held = refl;
  assigned = refl;
  polled = refl;
  succeeded = λ e o. refl;
  failures =
      λ e o. refl;
  ready = λ e o. refl;
  stored = refl;
  size = refl;
  fresh = λ e. refl;
  unstored = λ e. refl;
}
other_part given p Done h apart = record {
  epoch = refl;
  held = refl;
  assigned = refl;
  polled = refl;
  succeeded = λ e o. refl;
  failures =
      λ e o. refl;
  ready = λ e o. refl;
  stored = refl;
  size = refl;
  fresh = λ e. refl;
  unstored = λ e. refl;
}
other_part given p Closed h apart = record {
  epoch = refl;
  held = refl;
  assigned = refl;
  polled = refl;
  succeeded = λ e o. refl;
  failures =
      λ e o. refl;
  ready = λ e o. refl;
  stored = refl;
  size = refl;
  fresh = λ e. refl;
  unstored = λ e. refl;
}
