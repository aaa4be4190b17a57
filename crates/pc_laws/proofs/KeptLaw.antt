-- All that every legal history keeps.
use Rattle.std.proofs.Common.{◌≡◌, ℕ, suc, ◌≤◌, ◌<◌, false, List, [], ◌∷◌, ◌++◌, take, drop, refl, ap, ◌∙◌, arith, inl, inr}
use Rattle.std.specs.Prelude.{filter, nat_lt}
use Rattle.std.proofs.lemmas.Bool.{cases_Bool, cases_lt, ltb-true, lt-ltb}
use Rattle.std.proofs.lemmas.List.{append_assoc, take-append-drop}
use Rattle.pc_model.specs.declared.event.Event.{Event}
use Rattle.pc_model.specs.Record.{Record}
use Rattle.pc_model.specs.Given.{Given}
use Rattle.pc_model.specs.Known.{assigned_commit, polled_count, records_from_begin, polled_records, unpolled_records, known_records}
use Rattle.pc_model.specs.Stored.{map_end}
use Rattle.pc_model.specs.Lawful.{IsLegal}
use Rattle.pc_laws.specs.Lists.{IsFront}
use Rattle.pc_laws.specs.Kept.{IsKept}
use Rattle.pc_laws.proofs.Lists.{true-not-false}
use Rattle.pc_laws.proofs.Rising.{Rises}
use Rattle.pc_laws.proofs.Blocked.{Rises-drop}
use Rattle.pc_laws.proofs.SoundLaw.{keeps_passing}
use Rattle.pc_laws.proofs.PositionLaw.{is_in_order, from_begin-rises}
use Rattle.pc_laws.proofs.JobsLaw.{keeps_jobs}
use Rattle.pc_laws.proofs.HighLaw.{blocked_has_high}

-- no offset from the end on lies below it
pub none-below : (end n : ℕ) (rs : List Record) → end ≤ n → Rises n rs → filter
    (λ r. nat_lt r.offset end) rs ≡ []
none-below end n [] le rises = refl
none-below end n (r ∷ rs) le rises = elim (cases_Bool (nat_lt r.offset end)) [
  | inl lt ↦ let below : r.offset < end = ltb-true r.offset end lt in let above : n ≤ r.offset =
      rises.0 in absurd (omega arith)
  | inr out ↦ rw out (none-below end (suc r.offset) rs
      (let above : n ≤ r.offset = rises.0 in omega arith) rises.2)
]

pub end-le : (end o : ℕ) → nat_lt o end ≡ false → end ≤ suc o
end-le end o out = elim (cases_lt o end)
    [ inl lt ↦ true-not-false (nat_lt o end) (lt-ltb o end lt) out | inr le ↦ omega arith ]

-- those below an end are the first
below-front : (end n : ℕ) (rs : List Record) → Rises n rs → IsFront
    (filter (λ r. nat_lt r.offset end) rs) rs
below-front end n [] rises = record { rest = []; whole = refl }
below-front end n (r ∷ rs) rises = elim (cases_Bool (nat_lt r.offset end)) [
  | inl lt ↦ let more = below-front end (suc r.offset) rs rises.2 in
      record { rest = more.rest; whole = rw lt (ap (λ (xs : List Record). r ∷ xs) more.whole) }
  | inr out ↦ record {
    rest = r ∷ rs;
    whole = rw (out, none-below end (suc r.offset) rs (end-le end r.offset out) rises.2) refl;
  }
]

polled-front : (given : Given) (h : List Event) (p : ℕ) → IsFront (polled_records given h p)
    (records_from_begin given h p)
unfolding polled_records
polled-front given h p = record {
  rest = drop (polled_count h p) (records_from_begin given h p);
  whole = take-append-drop (polled_count h p) (records_from_begin given h p);
}

known-front : (given : Given) (h : List Event) (p : ℕ) → IsLegal given h → IsFront
    (known_records given h p) (records_from_begin given h p)
unfolding known_records polled_records unpolled_records
known-front given h p legal =
    let below = below-front (map_end (assigned_commit h p)) 0
    (drop (polled_count h p) (records_from_begin given h p))
    (Rises-drop (polled_count h p) 0 (records_from_begin given h p)
    (from_begin-rises given h legal p)) in
    record {
      rest = below.rest;
      whole = append_assoc (take (polled_count h p) (records_from_begin given h p))
          (filter (λ r. nat_lt r.offset (map_end (assigned_commit h p)))
          (drop (polled_count h p) (records_from_begin given h p))) below.rest
          ∙ ap (λ (xs : List Record). take (polled_count h p) (records_from_begin given h p) ++ xs)
          below.whole
          ∙ take-append-drop (polled_count h p) (records_from_begin given h p);
    }

pub is_kept : (given : Given) (h : List Event) → IsLegal given h → IsKept given h
is_kept given h legal = record {
  polled = λ p. polled-front given h p;
  known = λ p. known-front given h p legal;
  passing = λ told. keeps_passing given h told legal;
  jobs = keeps_jobs given h legal;
  high = λ p. blocked_has_high given h p legal;
  order = λ told p. is_in_order given h p told legal;
}

pub prefix_is_legal : (given : Given) (k h : List Event) → IsLegal given (k ++ h) → IsLegal given h
prefix_is_legal given [] h legal = legal
prefix_is_legal given (v ∷ k) h legal = prefix_is_legal given k h legal.2
