-- What a mailbox delivers. A result in the queue carries its sender's number and its place, counted
-- from 0, among that sender's results.
use Rattle.std.specs.Prelude.{◌≡◌, ◌<◌, ◌≤◌, ℕ, suc, ◌==◌, List, [], ◌∷◌, ◌++◌, length, slice_index_or, slice_set, if◌then◌else◌}
use mathlib.Core.Option.{some}
use lib.ListN.{get_elem?}
use Rattle.pc_mailbox.specs.declared.delivery.Letter.{Letter}
use Rattle.pc_mailbox.specs.declared.delivery.Known.{Known}
use Rattle.pc_mailbox.specs.declared.delivery.Known.TheVariants.{Sends, Receives, Joins, Spare}

module _ {T : Type 0} where
  -- results with their places, the first of which is n
  abbrev pub placed : ℕ → List T → List (ℕ × T)
  placed n [] = []
  placed n (x ∷ xs) = (n, x) ∷ placed (suc n) xs

  -- what the queue holds of a sender, with the places, oldest first
  abbrev pub queued : ℕ → List (Letter T) → List (ℕ × T)
  queued sender [] = []
  queued sender (x ∷ xs) = if x.sender == sender then (x.place, x.value) ∷ queued sender xs else queued sender xs

  -- what was taken of a sender
  abbrev pub of_sender : List (List T) → ℕ → List T
  of_sender taken sender = slice_index_or taken sender []

  -- What one pass knows: a sender what it put, under its own number, and the inbox what it took.
  -- Each sender has one pass, and so has the inbox.
  abbrev pub Fits : ℕ → List (List T) → (ℕ → ℕ) → (ℕ → List T) → ℕ → Known T → Type 0
  Fits reader taken seat put pass (Sends number own) = (seat number ≡ pass) × (own ≡ put number) × (number < length taken)
  Fits reader taken seat put pass (Receives got misses) = (reader ≡ pass) × (got ≡ taken)
  Fits reader taken seat put pass (Joins number own got misses) = (seat number ≡ pass) × (own ≡ put number) × (number < length taken) × (reader ≡ pass) × (got ≡ taken)
  Fits reader taken seat put pass Spare = Unit {0}

  -- The rule of the queue, in every state: of each sender, what was taken and then what the queue
  -- holds is what it put, each at its place.
  pub record Delivers (items : List (Letter T)) (views : List (Known T)) : Type 0 where
    pub reader : ℕ
    pub taken : List (List T)
    pub seat : ℕ → ℕ
    pub put : ℕ → List T
    pub in_order : (sender : ℕ) → placed 0 (of_sender taken sender) ++ queued sender items ≡ placed 0 (put sender)
    pub none_other : (sender : ℕ) → length taken ≤ sender → put sender ≡ []
    pub known : (pass : ℕ) (v : Known T) → get_elem? views pass ≡ some v → Fits reader taken seat put pass v

  -- the results that a sender put
  abbrev pub put_of : Known T → List T
  put_of (Sends number put) = put
  put_of (Receives taken misses) = []
  put_of (Joins number put taken misses) = put
  put_of Spare = []

  -- the results that were taken, of each sender
  abbrev pub taken_of : Known T → List (List T)
  taken_of (Sends number put) = []
  taken_of (Receives taken misses) = taken
  taken_of (Joins number put taken misses) = taken
  taken_of Spare = []

  -- how often none was found
  abbrev pub misses_of : Known T → ℕ
  misses_of (Sends number put) = 0
  misses_of (Receives taken misses) = misses
  misses_of (Joins number put taken misses) = misses
  misses_of Spare = 0

  -- a sender's number
  abbrev pub number_of : Known T → ℕ
  number_of (Sends number put) = number
  number_of (Receives taken misses) = 0
  number_of (Joins number put taken misses) = number
  number_of Spare = 0

  -- a sender puts one more
  abbrev pub with_put : Known T → T → Known T
  with_put (Sends number put) x = Sends number (put ++ x ∷ [])
  with_put (Receives taken misses) x = Receives taken misses
  with_put (Joins number put taken misses) x = Joins number put taken misses
  with_put Spare x = Spare

  -- the inbox took one more of a sender
  abbrev pub with_taken : List (List T) → ℕ → T → List (List T)
  with_taken taken sender x = slice_set taken sender (of_sender taken sender ++ x ∷ [])

  -- the inbox takes, of one sender, the result at the place that follows those taken of it
  abbrev pub TakesNext : Known T → Letter T → Known T → Type 0
  TakesNext v x w = (x.sender < length (taken_of v)) × (x.place ≡ length (of_sender (taken_of v) x.sender))
      × (w ≡ Receives (with_taken (taken_of v) x.sender x.value) (misses_of v))

  -- the inbox found none
  abbrev pub with_miss : Known T → Known T
  with_miss v = Receives (taken_of v) (suc (misses_of v))

  -- there is one more sender, with the next number
  abbrev pub with_sender : Known T → Known T
  with_sender v = Receives (taken_of v ++ [] ∷ []) (misses_of v)

  abbrev pub new_sender : Known T → Known T
  new_sender v = Sends (length (taken_of v)) []

  -- the inbox and a sender, and each of them again
  abbrev pub joined : Known T → Known T → Known T
  joined v w = Joins (number_of w) (put_of w) (taken_of v) (misses_of v)

  abbrev pub inbox_of : Known T → Known T
  inbox_of v = Receives (taken_of v) (misses_of v)

  abbrev pub sender_of : Known T → Known T
  sender_of v = Sends (number_of v) (put_of v)

  -- the one list begins with the other
  abbrev pub IsFront : List T → List T → Type 0
  IsFront front all = (rest : List T) × (all ≡ front ++ rest)

  -- what was taken of the sender is the front of what it put
  abbrev pub Agrees : Known T → Type 0
  Agrees v = IsFront (of_sender (taken_of v) (number_of v)) (put_of v)
