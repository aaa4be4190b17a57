-- What a run asks, at three places each of worked histories, the oldest event first.
use Rattle.std.specs.Prelude.{ℕ, List, [], ◌∷◌, take, reverse, codes, refl}
use Rattle.pc_model.specs.declared.choices.Order.TheVariants.{Partition}
use Rattle.pc_model.specs.declared.choices.Work.TheVariants.{Length}
use Rattle.pc_model.specs.declared.setup.Setup.{Setup}
use Rattle.pc_model.specs.declared.event.Event.{Event}
use Rattle.pc_model.specs.declared.event.Event.TheVariants.{Assign, Poll, Dispatch, Success, Failure, Commit, Tick}
use Rattle.pc_model.specs.Record.{Record}
use Rattle.pc_model.specs.Defaults.{default_settings}
use Rattle.pc_model.specs.Ranges.{settings_fault}
use Rattle.pc_model.specs.Rows.{row_record}

-- the first n events of a history, the newest first
abbrev pub at : List Event → ℕ → List Event
at history n = reverse (take n history)

-- two records are read ahead, and a commit is due after each success
unfoldable pub small_setup : Setup
unfolding settings_fault
small_setup = record {
  settings = record default_settings { buffer = 2; poll_max = 2; commit_every = 1 };
  in_range = refl;
}

-- a poll of what the buffer takes, a success, its commit, and a poll of one more
abbrev pub small_steps : List Event
small_steps = Assign 0 1 0 [] ∷ Poll 0 2 1 ∷ Dispatch 1 0 0 0 1 1 ∷ Success 1 (codes "1")
    ∷ Commit 0 1 [] 0 ∷ Poll 0 1 2 ∷ []

-- the records of a part run one after the other, and the first fails more often than it may
unfoldable pub spent_setup : Setup
unfolding settings_fault
spent_setup = record {
  settings = record default_settings {
    order = Partition;
    rules = record
        { work = Length; fails = record { part = 0; offset = 0; times = 9 } ∷ [] };
    give_up = 2;
  };
  in_range = refl;
}

-- it fails twice, 100 after 100, and the others wait for it and never run
abbrev pub spent_steps : List Event
spent_steps = Assign 0 1 0 [] ∷ Poll 0 3 2 ∷ Dispatch 1 0 0 0 1 1 ∷ Failure 1 1 100 ∷ Tick 100
    ∷ Dispatch 2 0 0 0 1 2 ∷ Failure 2 1 200 ∷ []

-- the first two records of the log
abbrev pub first_record : Record
first_record = row_record 0 (codes "a") (codes "x")

abbrev pub second_record : Record
second_record = row_record 1 (codes "b") (codes "yy")
