-- The views of passes, and what each step tells of the pass that makes it.
use Rattle.std.specs.Prelude.{◌≡◌, ◌≢◌, ℕ, ◌≤◌, List, [], ◌∷◌, ◌++◌, length, Option, None, Some}
use Rattle.atomic_table.specs.Table.{Me, Step, rest}
use Rattle.pc_model.specs.declared.event.Event.{Event}
use Rattle.pc_state_lock.specs.Heading.{Heading}
use Rattle.pc_state_lock.specs.History.{Continues, longer, AreApart, AreBelow}
use Rattle.pc_state_lock.specs.declared.view.Stage.TheVariants.{Rests, Waits, Turns}
use Rattle.pc_state_lock.specs.declared.view.View.{View}

-- a view, and the slots that are out with its pass
abbrev pub Standing : Type 0 → Type 0
Standing V = Me (Option V) (View V)

module _ {V : Type 0} where
  -- the view of the first pass
  abbrev pub first_view : (V → List Event) → V → View V
  first_view history start =
      record { stage = Rests; start = Some start; seen = history start; told = []; mine = [] }

  -- the view of a pass that has seen what another has
  abbrev pub newcomer : View V → View V
  newcomer v = record v { stage = Rests; told = []; mine = [] }

  -- the view of a pass that another was joined to
  abbrev pub joined : View V → View V → View V
  joined v w = record v { told = w.seen; mine = v.mine ++ w.mine }

  -- the view that a joined pass leaves behind
  abbrev pub spent : View V
  spent = record { stage = Rests; start = None; seen = []; told = []; mine = [] }

  -- the view of a pass with a ticket
  abbrev pub with_ticket : ℕ → View V → View V
  with_ticket ticket v = record v { stage = Waits ticket }

  -- the view of a pass that has the turn, and has seen the whole list
  abbrev pub with_turn : ℕ → List Event → View V → View V
  with_turn ticket list v = record v { stage = Turns ticket; seen = list }

  -- the view after its turn's events are counted, which are those that the list has more
  abbrev pub with_span : List Event → View V → View V
  with_span list v = record v { seen = list; mine = (length v.seen, length list) ∷ v.mine }

  -- the view of a pass after its turn
  abbrev pub at_rest : View V → View V
  at_rest v = record v { stage = Rests }

  -- the view of a pass that has compared what it was told
  abbrev pub with_longer : View V → View V
  with_longer v = record v { seen = longer v.seen v.told; told = [] }

  -- where the expected ticket was there it is drawn, and else nothing changes
  abbrev pub drawn : Step (Option V) → Standing V → ℕ → Standing V → Type 0
  drawn st m found m' =
      (found ≡ st.first → m' ≡ (with_ticket found m.0, m.1)) × (found ≢ st.first → m' ≡ m)

  -- the pass has the slot, with a value of the heading, whose list continues what it has seen
  pub record TakesSlot (heading : V → Heading) (history : V → List Event) (ticket : ℕ)
      (m m' : Standing V) : Type 0 where
    pub value : V
    pub is : m' ≡ (with_turn ticket (history value) m.0, (0, Some value) ∷ [])
    pub headed : (start : V) → m.0.start ≡ Some start → heading value ≡ heading start
    pub later : Continues (history value) m.0.seen

  -- a ticket that waits is served later, or now
  abbrev pub looked : (V → Heading) → (V → List Event) → Step (Option V) → Standing V → ℕ
      → Standing V → Type 0
  looked heading history st m found m' =
      (ticket : ℕ) → m.0.stage ≡ Waits ticket → m.1 ≡ []
      → (found ≤ ticket)
      × (found ≡ ticket → TakesSlot heading history ticket m m')
      × (found ≢ ticket → m' ≡ m)

  -- the events that the turn added are the pass's, and lie beside all of its others
  pub record IsCounted (list : List Event) (m m' : Standing V) : Type 0 where
    pub is : m' ≡ (with_span list m.0, m.1)
    pub apart : AreApart m'.0.mine
    pub below : AreBelow (length list) m'.0.mine

  -- the events of the value in the slot are counted
  abbrev pub counted : (V → List Event) → Step (Option V) → Standing V → ℕ → Standing V → Type 0
  counted history st m found m' =
      (value : V) → m.1 ≡ (0, Some value) ∷ [] → m.0.told ≡ [] → IsCounted (history value) m m'

  -- the slot is given back
  abbrev pub passed : Step (Option V) → Standing V → ℕ → Standing V → Type 0
  passed st m found m' = m' ≡ (at_rest m.0, rest m.1)

  -- of what the pass has seen and what it was told, the longer continues the other
  pub record IsCompared (m m' : Standing V) : Type 0 where
    pub is : m' ≡ (with_longer m.0, m.1)
    pub own : Continues m'.0.seen m.0.seen
    pub other : Continues m'.0.seen m.0.told
    pub apart : AreApart m'.0.mine
    pub below : AreBelow (length m'.0.seen) m'.0.mine

  abbrev pub compared : Step (Option V) → Standing V → ℕ → Standing V → Type 0
  compared st m found m' = IsCompared m m'
