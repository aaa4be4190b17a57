-- What a part knows at its assignment: what the stored commit says, and nothing else.
use Rattle.std.proofs.Common.{◌≡◌, ℕ, ◌+◌, Bool, List, ◌∷◌, map, refl, ap, ◌∙◌, arith}
use Rattle.pc_model.specs.declared.event.Event.{Event}
use Rattle.pc_model.specs.declared.event.Event.TheVariants.{Assign}
use Rattle.pc_model.specs.declared.commit.Commit.{Commit}
use Rattle.pc_model.specs.Record.{Record}
use Rattle.pc_model.specs.Given.{Given, records_of}
use Rattle.pc_model.specs.Epochs.{epoch_of}
use Rattle.pc_model.specs.Stored.{passes}
use Rattle.pc_model.specs.Known.{unpolled_records, is_complete, marks_of}
use Rattle.pc_model.specs.Lawful.{IsLegal}
use Rattle.pc_model.proofs.ListLemmas.{map-same}
use Rattle.pc_model.proofs.EpochLaws.{epoch_of-assign}
use Rattle.pc_model.proofs.KnownLaws.{assigned_commit-assign, known_records-assign, unpolled_records-assign}
use Rattle.pc_laws.proofs.SucceededLaw.{unsucceeded-later}
use Rattle.pc_cursor.specs.Cursor.{not_below}
use Rattle.pc_commit.specs.Resume.{mapped_records, resumed_marks}

module _ (given : Given) (h : List Event) (p epoch : ℕ) where
  -- an offset is complete where the stored commit passes over it
  is_complete-assign : IsLegal given h → (stored : Commit) (o : ℕ)
      → is_complete (Assign p epoch stored.position stored.map ∷ h) p o ≡ passes stored o
  unfolding is_complete
  is_complete-assign legal stored o =
      let next : epoch_of (Assign p epoch stored.position stored.map ∷ h) p ≡ epoch_of h p + 1 =
      epoch_of-assign h p epoch stored.position stored.map in
      rw (
        unsucceeded-later given h legal p
            (epoch_of (Assign p epoch stored.position stored.map ∷ h) p) o (omega (arith, next)),
        assigned_commit-assign given h p epoch stored.position stored.map,
      ) refl

  -- the part knows the records of which the stored map says something
  pub marks_of-assign : IsLegal given h → (stored : Commit)
      → marks_of given (Assign p epoch stored.position stored.map ∷ h) p
      ≡ resumed_marks stored (records_of given p)
  unfolding marks_of
  marks_of-assign legal stored =
      ap (λ (rs : List Record). map (λ r. record {
        offset = r.offset;
        is_complete = is_complete (Assign p epoch stored.position stored.map ∷ h) p r.offset;
      }) rs)
      (known_records-assign given h p epoch stored.position stored.map)
      ∙ map-same _ _
      (λ (r : Record). ap (λ (b : Bool). record { offset = r.offset; is_complete = b })
      (is_complete-assign legal stored r.offset)) (mapped_records stored (records_of given p))

  -- its records from the position on are still to be polled
  pub unpolled-begin : (position : ℕ) (text : List ℕ)
      → unpolled_records given (Assign p epoch position text ∷ h) p
      ≡ not_below position (records_of given p)
  unpolled-begin position text = unpolled_records-assign given h p epoch position text
