-- What is kept of a part, and of which marks that is said.
use Rattle.std.specs.Prelude.{ℕ, ◌+◌, ◌-◌, ◌^◌, ◌≡◌, ◌<◌, ◌≤◌, ◌==◌, Bool, false, max, nat_lt, if◌then◌else◌, List, [], ◌∷◌, ◌++◌, map, filter, length, take, drop, Option, Some, None, IfSome}
use Rattle.std.specs.List.{list_any}
use Rattle.std.specs.Option.{option_map_or}
use Rattle.pc_model.specs.Bits.{AreRuns}
use Rattle.pc_model.specs.Marks.{Mark, offsets_of, incomplete_offsets, high_at, end_at}
use Rattle.pc_partition.specs.declared.counts.Counts.{Counts}
use Rattle.pc_partition.specs.Counts.{AreCounted}
use Rattle.pc_partition.specs.Runs.{offsets_in, without}

-- the incomplete known offsets in order, the greatest complete one, the offset after the known ones,
-- and the offset after the polled ones
pub record Window : Type 0 where
  pub incomplete : List ℕ
  pub high : Option ℕ
  pub after : ℕ
  pub polled_to : ℕ

-- the offsets rise from a least one on, and are at most 2^63 - 2
abbrev pub RisesFrom : ℕ → List ℕ → Type 0
RisesFrom least [] = least < 2 ^ 63
RisesFrom least (o ∷ os) = (least ≤ o) × (o < 2 ^ 63 - 1) × RisesFrom (o + 1) os

-- the window is that of a part with this begin and these marks, of which the first n were polled
pub record StandsFor (w : Window) (begin n : ℕ) (marks : List Mark) : Type 0 where
  pub rises : RisesFrom begin (offsets_of marks)
  pub polled : n ≤ length marks
  pub incomplete : w.incomplete ≡ incomplete_offsets marks
  pub high : w.high ≡ high_at marks
  pub after : w.after ≡ end_at begin marks
  pub polled_to : w.polled_to ≡ end_at begin (take n marks)

-- how many polled offsets are incomplete
abbrev pub open_polled : Window → ℕ
open_polled w = length (filter (λ o. nat_lt o w.polled_to) w.incomplete)

-- marks of offsets with whether each is complete
abbrev pub marks_of_pairs : List (ℕ × Bool) → List Mark
marks_of_pairs pairs = map (λ pair. record { offset = pair.0; is_complete = pair.1 }) pairs

-- a mark of an offset that is new
abbrev pub new_mark : ℕ → Mark
new_mark o = record { offset = o; is_complete = false }

-- the offsets are the next that are known and not polled, as far as there are such
abbrev pub AreNext : ℕ → List Mark → List ℕ → Type 0
AreNext n marks offsets = take (length marks - n) offsets ≡ take (length offsets)
    (drop n (offsets_of marks))

-- the marks with the offsets that were not known
abbrev pub with_polled : ℕ → List Mark → List ℕ → List Mark
with_polled n marks offsets = marks ++ map new_mark (drop (length marks - n) offsets)

-- bits, and nothing where there are none
abbrev pub some_bits : List Bool → Option (List Bool)
some_bits [] = None
some_bits (bit ∷ bits) = Some (bit ∷ bits)

-- ---- the state

-- what a state keeps: the window, and for how many more incomplete offsets there is room
pub record PartitionView : Type 0 where
  pub window : Window
  pub room : ℕ

-- what the fields of a state say of each other
pub record IsState (runs : List (ℕ × ℕ)) (high : Option ℕ) (counts : Counts)
    (after polled_to pending left capacity : ℕ) : Type 0 where
  pub in_order : AreRuns 0 after runs
  pub high_below : IfSome high (λ h. h < after)
  pub high_apart : IfSome high (λ h. list_any (λ o. o == h) (offsets_in runs) ≡ false)
  pub counted : AreCounted high runs counts
  pub polled_within : polled_to ≤ after
  pub small : after < 2 ^ 63
  pub pending_is : pending ≡ length (filter (λ o. nat_lt o polled_to) (offsets_in runs))
  pub left_is : left ≡ length (offsets_in runs)
  pub room : left ≤ capacity

-- ---- one offset

-- the window where one more offset is known, which is above those that were
abbrev pub inherit_window : ℕ → Bool → Window → Window
inherit_window o is_complete w = record {
  incomplete = if is_complete then w.incomplete else w.incomplete ++ o ∷ [];
  high = if is_complete then Some o else w.high;
  after = o + 1;
  polled_to = w.polled_to;
}

-- the window where one more offset, which follows those polled, is polled
abbrev pub poll_window : ℕ → Window → Window
poll_window o w = record {
  incomplete = if nat_lt o w.after then w.incomplete else w.incomplete ++ o ∷ [];
  high = w.high;
  after = if nat_lt o w.after then w.after else o + 1;
  polled_to = o + 1;
}

-- the same with each of some offsets
abbrev pub poll_all : List ℕ → Window → Window
poll_all [] w = w
poll_all (o ∷ os) w = poll_all os (poll_window o w)

-- the window where an offset that was incomplete is complete
abbrev pub succeed_window : ℕ → Window → Window
succeed_window o w = record w
    { incomplete = without o w.incomplete; high = Some (option_map_or (max o) w.high o) }
