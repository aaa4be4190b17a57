-- Lists that grow, newest first, and spans of places in them. The oldest entry has place 0.
use Rattle.std.specs.Prelude.{◌≡◌, ℕ, ◌+◌, ◌≤◌, List, [], ◌∷◌, ◌++◌, length, nat_le, nat_lt, ◌&&◌, if◌then◌else◌}

-- the later list has some more entries, newer than all of the earlier one
pub record Continues {A : Type 0} (later earlier : List A) : Type 0 where
  pub added : List A
  pub is : later ≡ added ++ earlier

-- the longer of two lists
abbrev pub longer : {A : Type 0} → List A → List A → List A
longer xs ys = if nat_lt (length xs) (length ys) then ys else xs

-- a span has the places from its first number on, below its second
abbrev pub covers : ℕ → ℕ × ℕ → ℕ
covers place span = if nat_le span.0 place && nat_lt place span.1 then 1 else 0

-- how many of the spans have the place
abbrev pub times_covered : ℕ → List (ℕ × ℕ) → ℕ
times_covered place [] = 0
times_covered place (span ∷ spans) = covers place span + times_covered place spans

-- no two of the spans have a place in common
abbrev pub AreApart : List (ℕ × ℕ) → Type 0
AreApart spans = (place : ℕ) → times_covered place spans ≤ 1

-- the spans have no place from n on
abbrev pub AreBelow : ℕ → List (ℕ × ℕ) → Type 0
AreBelow n spans = (place : ℕ) → n ≤ place → times_covered place spans ≡ 0
