-- The rule of the lock's table: what its words, its slot and all views are at any moment.
use Rattle.std.specs.Prelude.{◌≡◌, ℕ, ◌+◌, ◌^◌, ◌<◌, ◌≤◌, Bool, true, false, List, [], ◌∷◌, length, Option, Some}
use mathlib.Core.Option.{none, some}
use mathlib.Core.Option as core
use lib.ListN.{get_elem?}
use Rattle.atomic_table.specs.Table.{State}
use Rattle.pc_model.specs.declared.event.Event.{Event}
use Rattle.pc_state_lock.specs.Heading.{Heading}
use Rattle.pc_state_lock.specs.History.{Continues, times_covered}
use Rattle.pc_state_lock.specs.declared.view.Stage.{Stage}
use Rattle.pc_state_lock.specs.declared.view.Stage.TheVariants.{Rests, Waits, Turns}
use Rattle.pc_state_lock.specs.declared.view.View.{View}

-- what holds of the stage of pass id, which has seen this much: tickets are distinct, and lie from
-- `serving` on below `drawn`; the one that is served has the slot, and has seen the whole list
abbrev pub IsStaged : List Event → ℕ → ℕ → Bool → (ℕ → ℕ) → ℕ → List Event → Stage → Type 0
IsStaged list serving drawn away owner id seen Rests = Unit {0}
IsStaged list serving drawn away owner id seen (Waits ticket) =
    (serving ≤ ticket) × (ticket < drawn) × (owner ticket ≡ id)
IsStaged list serving drawn away owner id seen (Turns ticket) =
    (ticket ≡ serving) × (ticket < drawn) × (owner ticket ≡ id) × (away ≡ true) × (seen ≡ list)

-- how many tickets a pass has at this stage
abbrev pub tickets : Stage → ℕ
tickets Rests = 0
tickets (Waits ticket) = 1
tickets (Turns ticket) = 1

module _ {V : Type 0} where
  -- the sum of a number of each view
  abbrev pub total : (View V → ℕ) → List (View V) → ℕ
  total f [] = 0
  total f (v ∷ views) = f v + total f views

  -- how many spans of all passes have the place
  abbrev pub times_taken : ℕ → List (View V) → ℕ
  times_taken place views = total (λ v. times_covered place v.mine) views

  -- how many passes have a ticket
  abbrev pub tickets_out : List (View V) → ℕ
  tickets_out views = total (λ v. tickets v.stage) views

  -- what holds of the view of pass id
  pub record Fits (list : List Event) (serving drawn : ℕ) (away : Bool) (owner : ℕ → ℕ) (id : ℕ)
      (v : View V) : Type 0 where
    pub seen : Continues list v.seen
    pub told : Continues list v.told
    pub within : (place : ℕ) → length v.seen ≤ place → length v.told ≤ place
        → times_covered place v.mine ≡ 0
    pub staged : IsStaged list serving drawn away owner id v.seen v.stage

  -- the slot is out with the pass whose ticket is served
  pub record IsAway (serving : ℕ) (homes : List (core.Option (Option V)))
      (views : List (View V)) : Type 0 where
    pub empty : homes ≡ none ∷ []
    pub holder : ℕ
    pub view : View V
    pub there : get_elem? views holder ≡ some view
    pub turns : view.stage ≡ Turns serving

  module _ (heading : V → Heading) (history : V → List Event) (start : V) where
    -- the slot is at home, with a value of the heading and of this list
    pub record IsHome (list : List Event) (homes : List (core.Option (Option V))) : Type 0 where
      pub value : V
      pub there : homes ≡ some (Some value) ∷ []
      pub headed : heading value ≡ heading start
      pub listed : history value ≡ list

    -- where the slot is
    abbrev pub IsPlaced : ℕ → List Event → List (core.Option (Option V)) → List (View V) → Bool
        → Type 0
    IsPlaced serving list homes views false = IsHome list homes
    IsPlaced serving list homes views true = IsAway serving homes views

    -- the rule at these words, slots and views, where the shared history is the list
    pub record IsKeptAt (drawn serving : ℕ) (list : List Event)
        (homes : List (core.Option (Option V))) (views : List (View V)) : Type 0 where
      -- whether the slot is out
      pub away : Bool
      -- which pass has a ticket
      pub owner : ℕ → ℕ
      -- all tickets from `serving` on are out with some pass
      pub all_out : drawn ≡ serving + tickets_out views
      pub small : drawn < 2 ^ 64
      pub placed : IsPlaced serving list homes views away
      pub fits : (id : ℕ) (v : View V) → get_elem? views id ≡ some v
          → Fits list serving drawn away owner id v
      -- no place is in two spans
      pub apart : (place : ℕ) → times_taken place views ≤ 1

    -- the rule of the table
    pub record IsKept (s : State (Option V) (View V)) : Type 0 where
      pub drawn : ℕ
      pub serving : ℕ
      pub list : List Event
      pub words : s.words ≡ drawn ∷ serving ∷ length list ∷ []
      pub kept : IsKeptAt drawn serving list s.homes s.views
