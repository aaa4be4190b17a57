-- What a pool counts of a history and of an inbox: the results that were settled, those that were
-- taken, and the worker of each dispatch.
use Rattle.std.specs.Prelude.{ℕ, ◌+◌, List, [], ◌∷◌, length, map, sum}
use Rattle.pc_model.specs.declared.event.Event.{Event}
use Rattle.pc_model.specs.declared.event.Event.TheVariants.{Dispatch, Success, Failure, Stale}

-- how many results were settled
abbrev pub settled_count : List Event → ℕ
settled_count [] = 0
settled_count (Success ticket answer ∷ h) = settled_count h + 1
settled_count (Failure ticket code ready ∷ h) = settled_count h + 1
settled_count (Stale ticket ∷ h) = settled_count h + 1
settled_count (_ ∷ h) = settled_count h

-- how many results were taken, of all senders
abbrev pub taken_count : {T : Type 0} → List (List T) → ℕ
taken_count taken = sum (map length taken)

-- the worker of each dispatch, the latest first
abbrev pub dispatch_workers : List Event → List ℕ
dispatch_workers [] = []
dispatch_workers (Dispatch ticket worker part offset epoch attempt ∷ h) = worker ∷ dispatch_workers h
dispatch_workers (_ ∷ h) = dispatch_workers h
