-- What one more event changes of what a held part knows: of its polled and known records and of
-- which are complete.
use Rattle.std.proofs.Common.{◌≡◌, ℕ, ◌+◌, true, false, not, ◌&&◌, ◌||◌, ◌==◌, List, [], ◌∷◌, ◌++◌, take, drop, Some, refl, ap, sym, ◌∙◌}
use Rattle.std.specs.Prelude.{filter, nat_lt, nat_le}
use Rattle.std.specs.List.{list_all}
use Rattle.std.specs.Option.{option_map_or}
use Rattle.std.proofs.lemmas.List.{drop-drop}
use Rattle.pc_model.specs.BestMap.{is_pressed}
use Rattle.pc_model.specs.declared.event.Event.{Event}
use Rattle.pc_model.specs.declared.event.Event.TheVariants.{Assign, Poll, Success}
use Rattle.pc_model.specs.declared.commit.Commit.{Commit}
use Rattle.pc_model.specs.Record.{Record}
use Rattle.pc_model.specs.Given.{Given, records_of}
use Rattle.pc_model.specs.Jobs.{Job, job_of}
use Rattle.pc_model.specs.Epochs.{epoch_of}
use Rattle.pc_model.specs.Stored.{may_store, map_end, passes}
use Rattle.pc_model.specs.Marks.{high_at, position_at, commit_at}
use Rattle.pc_model.specs.Known.{assigned_commit, begin_of, polled_count, records_from_begin, polled_records, unpolled_records, known_records, has_succeeded, is_complete, marks_of, high_of, position_of, commit_of}
use Rattle.pc_model.specs.Lawful.{is_stored}
use Rattle.pc_model.specs.Pressure.{is_blocked}
use Rattle.pc_model.specs.Run.{open_records}
use Rattle.pc_model.specs.OneMore.{SamePart, with_complete}
use Rattle.pc_model.proofs.ListLemmas.{same_number, take-add, filter-same, map-same, map-map, or-assoc}

-- ---- a part of which the same is said in two histories

module _ (given : Given) (p : ℕ) (h k : List Event) (same : SamePart given p h k) where
  records_from_begin-same : records_from_begin given k p ≡ records_from_begin given h p
  records_from_begin-same = ap
      (λ (c : Commit). filter (λ r. nat_le c.position r.offset) (records_of given p)) same.assigned

  pub polled_records-same : polled_records given k p ≡ polled_records given h p
  unfolding polled_records
  polled_records-same = ap (λ n. take n (records_from_begin given k p)) same.polled
      ∙ ap (λ rs. take (polled_count h p) rs) records_from_begin-same

  pub unpolled_records-same : unpolled_records given k p ≡ unpolled_records given h p
  unfolding unpolled_records
  unpolled_records-same = ap (λ n. drop n (records_from_begin given k p)) same.polled
      ∙ ap (λ rs. drop (polled_count h p) rs) records_from_begin-same

  known_records-same : known_records given k p ≡ known_records given h p
  unfolding known_records
  known_records-same = rw (polled_records-same, unpolled_records-same, same.assigned)

  pub is_complete-same : (o : ℕ) → is_complete k p o ≡ is_complete h p o
  unfolding is_complete
  is_complete-same o = rw (same.epoch, same.assigned, same.succeeded (epoch_of h p) o)

  pub marks_of-same : marks_of given k p ≡ marks_of given h p
  unfolding marks_of
  marks_of-same = rw known_records-same
      (map-same _ _ (λ (r : Record). ap (λ c. record { offset = r.offset; is_complete = c })
      (is_complete-same r.offset)) (known_records given h p))

  pub position_of-same : position_of given k p ≡ position_of given h p
  position_of-same = ap (λ (c : Commit). position_at c.position (marks_of given k p)) same.assigned
      ∙ ap (λ ms. position_at (begin_of h p) ms) marks_of-same

  pub high_of-same : high_of given k p ≡ high_of given h p
  high_of-same = ap high_at marks_of-same

  pub commit_of-same : commit_of given k p ≡ commit_of given h p
  commit_of-same = ap (λ (c : Commit). commit_at given.setup.settings.map_limit c.position
      (marks_of given k p)) same.assigned
      ∙ ap (λ ms. commit_at given.setup.settings.map_limit (begin_of h p) ms) marks_of-same

  pub is_stored-same : is_stored given k p ≡ is_stored given h p
  unfolding is_stored
  is_stored-same = ap (λ n. list_all (λ c. c.position == n) (may_store given k p)) position_of-same
      ∙ ap (λ cs. list_all (λ c. c.position == position_of given h p) cs) same.stored

  pub is_blocked-same : is_blocked given k p ≡ is_blocked given h p
  is_blocked-same = ap (λ s. option_map_or
      (λ size. is_pressed size given.setup.settings.map_limit given.setup.settings.press_percent) s false) same.size

  pub open_records-same : open_records given k p ≡ open_records given h p
  unfolding open_records
  open_records-same = rw polled_records-same
      (filter-same _ _ (λ (r : Record). ap not (is_complete-same r.offset))
      (polled_records given h p))

-- ---- an assignment

module _ (given : Given) (h : List Event) (p epoch position : ℕ) (text : List ℕ) where
  pub assigned_commit-assign : assigned_commit (Assign p epoch position text ∷ h) p ≡ record
      { position = position; map = text }
  assigned_commit-assign = simp (same_number p)

  pub polled_count-assign : polled_count (Assign p epoch position text ∷ h) p ≡ 0
  polled_count-assign = simp (same_number p)

  pub polled_records-assign : polled_records given (Assign p epoch position text ∷ h) p ≡ []
  unfolding polled_records
  polled_records-assign = rw polled_count-assign

  pub unpolled_records-assign :
      unpolled_records given (Assign p epoch position text ∷ h) p ≡ filter
      (λ r. nat_le position r.offset) (records_of given p)
  unfolding unpolled_records
  unpolled_records-assign = rw polled_count-assign
      (ap (λ (c : Commit). filter (λ r. nat_le c.position r.offset) (records_of given p))
      assigned_commit-assign)

  pub known_records-assign : known_records given (Assign p epoch position text ∷ h) p
      ≡ filter (λ r. nat_lt r.offset (map_end (record { position = position; map = text })))
      (filter (λ r. nat_le position r.offset) (records_of given p))
  unfolding known_records
  known_records-assign = rw (polled_records-assign, unpolled_records-assign, assigned_commit-assign)

-- ---- a poll

module _ (given : Given) (h : List Event) (p count last : ℕ) where
  pub polled_count-poll : polled_count (Poll p count last ∷ h) p ≡ polled_count h p + count
  polled_count-poll = simp (same_number p)

  -- the next records come behind those that were polled
  pub polled_records-poll : polled_records given (Poll p count last ∷ h) p
      ≡ polled_records given h p ++ take count (unpolled_records given h p)
  unfolding polled_records unpolled_records
  polled_records-poll = rw polled_count-poll
      (take-add (records_from_begin given h p) (polled_count h p) count)

  pub unpolled_records-poll : unpolled_records given (Poll p count last ∷ h) p ≡ drop count
      (unpolled_records given h p)
  unfolding unpolled_records
  unpolled_records-poll = rw
      (polled_count-poll, drop-drop count (polled_count h p) (records_from_begin given h p))

  known_records-poll : known_records given (Poll p count last ∷ h) p
      ≡ (polled_records given h p ++ take count (unpolled_records given h p))
      ++ filter (λ r. nat_lt r.offset (map_end (assigned_commit h p)))
      (drop count (unpolled_records given h p))
  unfolding known_records
  known_records-poll = rw (polled_records-poll, unpolled_records-poll)

  pub is_complete-poll : (o : ℕ) → is_complete (Poll p count last ∷ h) p o ≡ is_complete h p o
  unfolding is_complete
  is_complete-poll o = refl

-- ---- a success of a current job

module _ (given : Given) (h : List Event) (t : ℕ) (answer : List ℕ) (j : Job)
    (of : job_of h t ≡ Some j) where
  -- the job's offset succeeded in the job's epoch
  has_succeeded-success : (e o : ℕ) →
      has_succeeded (Success t answer ∷ h) j.part e o
      ≡ (((j.epoch == e) && (j.offset == o)) || has_succeeded h j.part e o)
  has_succeeded-success e o = rw of (simp (same_number j.part))

  module _ (current : (j.epoch == epoch_of h j.part) ≡ true) where
    pub is_complete-success : (o : ℕ) → is_complete (Success t answer ∷ h) j.part o
        ≡ ((j.offset == o) || is_complete h j.part o)
    unfolding is_complete
    is_complete-success o = rw (has_succeeded-success (epoch_of h j.part) o, current)
        (or-assoc (j.offset == o) (has_succeeded h j.part (epoch_of h j.part) o)
        (passes (assigned_commit h j.part) o))

    -- one more known offset is complete
    pub marks_of-success : marks_of given (Success t answer ∷ h) j.part ≡ with_complete j.offset
        (marks_of given h j.part)
    unfolding marks_of known_records polled_records unpolled_records
    marks_of-success =
        map-same _ _ (λ (r : Record). ap (λ c. record { offset = r.offset; is_complete = c })
        (is_complete-success r.offset)) (known_records given h j.part)
        ∙ sym (map-map (λ m. record {
          offset = m.offset;
          is_complete =
              (j.offset == m.offset) || m.is_complete;
        })
        (λ r. record { offset = r.offset; is_complete = is_complete h j.part r.offset })
        (known_records given h j.part))
