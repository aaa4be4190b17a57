-- Where the entries of a part are its polled, incomplete records, the ready ones are those that the
-- definitions of eligible records say.
use Rattle.std.proofs.Common.{◌≡◌, ℕ, Bool, true, false, not, ◌&&◌, ◌||◌, cond, List, [], ◌∷◌, map, refl, ap, ◌∙◌}
use Rattle.std.specs.Prelude.{filter}
use Rattle.std.specs.List.{list_all}
use Rattle.pc_model.specs.declared.choices.Order.{Order}
use Rattle.pc_model.specs.declared.choices.Order.TheVariants.{None as NoOrder, Partition, Key}
use Rattle.pc_model.specs.declared.event.Event.{Event}
use Rattle.pc_model.specs.Record.{Record}
use Rattle.pc_model.specs.Given.{Given}
use Rattle.pc_model.specs.Known.{is_complete, polled_records}
use Rattle.pc_model.specs.Next.{ordering_key, is_before as is_before_record, is_first as is_first_record}
use Rattle.pc_shards.specs.Entries.{Entry, is_before, is_first, key_of, ready_offsets}
use Rattle.pc_shards.specs.OpenEntries.{entry_of, open_entries}

-- an entry has the ordering key of its record
pub key_of-entry : (order : Order) (p : ℕ) (busy : Record → Bool) (failures : Record → ℕ) (r : Record)
    → key_of order p (entry_of busy failures r) ≡ ordering_key order p r
key_of-entry NoOrder p busy failures r = refl
key_of-entry Partition p busy failures r = refl
key_of-entry Key p busy failures r = refl

module _ (given : Given) (h : List Event) (p : ℕ) (busy : Record → Bool) (failures : Record → ℕ) where
  before-entry : (q r : Record) → is_before given.setup.settings.order p (entry_of busy failures q) (entry_of busy failures r)
      ≡ is_before_record given p q r
  before-entry q r = rw (
    key_of-entry given.setup.settings.order p busy failures q,
    key_of-entry given.setup.settings.order p busy failures r,
  ) refl

  first-among : (r : Record) (rs : List Record) → is_first given.setup.settings.order p
      (map (entry_of busy failures) (filter (λ q. not (is_complete h p q.offset)) rs)) (entry_of busy failures r)
      ≡ list_all (λ q. not (is_before_record given p q r) || is_complete h p q.offset) rs
  first-among r [] = refl
  first-among r (q ∷ rs) = elim (is_complete h p q.offset) as (λ c. is_first given.setup.settings.order p
      (map (entry_of busy failures) (cond (not c) (q ∷ filter (λ q. not (is_complete h p q.offset)) rs)
      (filter (λ q. not (is_complete h p q.offset)) rs))) (entry_of busy failures r)
      ≡ ((not (is_before_record given p q r) || c)
      && list_all (λ q. not (is_before_record given p q r) || is_complete h p q.offset) rs)) [
        | true ↦ first-among r rs ∙ ap (λ c. c && list_all (λ q.
            not (is_before_record given p q r) || is_complete h p q.offset) rs)
            (or-true (not (is_before_record given p q r)))
        | false ↦ rw (
          before-entry q r,
          first-among r rs,
          or-false (not
              (is_before_record given p q r)),
        ) refl
      ]
    where
      or-true : (b : Bool) → true ≡ (b || true)
      or-true true = refl
      or-true false = refl

      or-false : (b : Bool) → (b || false) ≡ b
      or-false true = refl
      or-false false = refl

  -- it is the first of its key where its record is
  pub is_first-entry : (r : Record) → is_first given.setup.settings.order p (open_entries given h p busy failures)
      (entry_of busy failures r) ≡ is_first_record given h p r
  unfolding is_first_record
  is_first-entry r = first-among r (polled_records given h p)

  abbrev is_kept : Entry → Bool
  is_kept e = is_first given.setup.settings.order p (open_entries given h p busy failures) e && not e.is_busy

  abbrev is_next : Record → Bool
  is_next r = is_first_record given h p r && not (busy r)

  ready-among : (rs : List Record)
      → map (λ e. e.record.offset) (filter is_kept (map (entry_of busy failures) (filter (λ r. not
      (is_complete h p r.offset)) rs)))
      ≡ map (λ r. r.offset) (filter (λ r. not (is_complete h p r.offset) && is_next r) rs)
  ready-among [] = refl
  ready-among (r ∷ rs) =
      let same : is_kept (entry_of busy failures r) ≡ is_next r = ap (λ b. b && not (busy r))
      (is_first-entry r) in
      elim (is_complete h p r.offset) as (λ c. map (λ (e : Entry). e.record.offset) (filter is_kept
      (map (entry_of busy failures) (cond (not c) (r ∷ filter (λ r. not (is_complete h p r.offset)) rs)
      (filter (λ r. not (is_complete h p r.offset)) rs))))
      ≡ map (λ (r : Record). r.offset) (cond (not c && is_next r)
      (r ∷ filter (λ r. not (is_complete h p r.offset) && is_next r) rs)
      (filter (λ r. not (is_complete h p r.offset) && is_next r) rs))) [
        | true ↦ ready-among rs
        | false ↦ one-more r rs (is_kept (entry_of busy failures r)) (is_next r) same (ready-among rs)
      ]
    where
      one-more : (r : Record) (rs : List Record) (a b : Bool) → a ≡ b
          → map (λ e. e.record.offset) (filter is_kept (map (entry_of busy failures) (filter (λ r. not
          (is_complete h p r.offset)) rs)))
          ≡ map (λ r. r.offset) (filter (λ r. not (is_complete h p r.offset) && is_next r) rs)
          → map (λ (e : Entry). e.record.offset) (cond a (entry_of busy failures r ∷ filter is_kept
          (map (entry_of busy failures) (filter (λ r. not (is_complete h p r.offset)) rs)))
          (filter is_kept (map (entry_of busy failures) (filter (λ r. not (is_complete h p r.offset)) rs))))
          ≡ map (λ (r : Record). r.offset) (cond b (r ∷ filter (λ r. not
          (is_complete h p r.offset) && is_next r) rs)
          (filter (λ r. not (is_complete h p r.offset) && is_next r) rs))
      one-more r rs true true same rest = ap (λ os. r.offset ∷ os) rest
      one-more r rs true false same rest = cc
      one-more r rs false true same rest = cc
      one-more r rs false false same rest = rest

  -- the ready offsets are those of the polled records that are incomplete, first of their key and
  -- not busy
  pub ready_offsets-records : ready_offsets given.setup.settings.order p (open_entries given h p busy failures)
      ≡ map (λ r. r.offset) (filter (λ r. not (is_complete h p r.offset)
      && (is_first_record given h p r && not (busy r))) (polled_records given h p))
  ready_offsets-records = ready-among (polled_records given h p)
