-- What a summary says, record by record and part by part.
use Rattle.std.proofs.Common.{◌≡◌, ℕ, zero, suc, ◌+◌, ◌<◌, ◌≤◌, Bool, true, false, not, cond, leb, ltb, List, [], ◌∷◌, ◌++◌, length, take, Option, Some, None, Ok, Err, filter, refl, sym, ap, subst, ◌∙◌, append_assoc, add-zero, unwrap_or, arith, inl, inr}
use Rattle.std.specs.List.{flat_map, last_or, range_with_len, AllByRecursion}
use Rattle.std.specs.Option.{option_map, option_map_or}
use Rattle.std.proofs.lemmas.List.{length-append, length-take, take-append-le, take-take, append-nil}
use Rattle.std.proofs.Math.Seq.{take-append_seam, take-length}
use Rattle.std.proofs.lemmas.Grind.{flat_map-append}
use Rattle.std.proofs.lemmas.List.Elements.{filter-append}
use Rattle.std.proofs.lemmas.Bool.{cases_Bool, cases_lt, lt-ltb, lt-leb, le-leb}
use Rattle.pc_model.specs.declared.choices.Work.{Work}
use Rattle.pc_model.specs.declared.commit.Commit.{Commit}
use Rattle.pc_model.specs.declared.map_fault.MapFault.{MapFault}
use Rattle.pc_model.specs.declared.event.Event.{Event}
use Rattle.pc_model.specs.declared.setup.Setup.{Setup}
use Rattle.pc_model.specs.Epochs.{is_held}
use Rattle.pc_model.specs.Given.{no_commit, rises_from}
use Rattle.pc_model.specs.MapReading.{map_reading}
use Rattle.pc_model.specs.Record.{Record}
use Rattle.pc_model.specs.Stored.{map_bits, passes}
use Rattle.pc_cursor.specs.Cursor.{not_below}
use Rattle.pc_cursor.proofs.BatchFacts.{and-right, rises-lower}
use Rattle.pc_broker_log.specs.Logs.{log_at}
use Rattle.pc_broker_log.proofs.PolledLemmas.{rises-filter}
use Rattle.pc_offset_map.specs.declared.map.OffsetMap.{OffsetMap}
use Rattle.pc_print.specs.MapBits.{bits_in}
use Rattle.pc_print.specs.Passed.{IsReadOf, is_over, lines_past}
use Rattle.pc_print.specs.declared.passed.Passed.{Passed}
use Rattle.pc_print.specs.Summary.{end_line, end_of, first_assigned, first_commit, held_among, not_passed, part_summary, record_line, summary_of}

-- ---- a text that grows

-- what a text began with stays where more is put
pub kept-more : (old now more : List ℕ) → take (length old) now ≡ old → take (length old) (now ++ more) ≡ old
kept-more old now more kept =
    let within : length old ≤ length now = omega (arith, ap length kept, length-take (length old) now) in
    take-append-le (length old) now more within ∙ kept

-- what keeps a longer front keeps a shorter one
pub front : (old tail now new : List ℕ) {m n : ℕ} → m ≡ length old → n ≡ length now → now ≡ old ++ tail
    → take n new ≡ now → take m new ≡ old
front old tail now new at to is kept =
    let within : length old ≤ length now = omega (arith, ap length is, length-append old tail) in
    rw at (sym (take-take (length old) (length now) new within) ∙ ap (take (length old)) (rw to at kept) ∙ ap (take (length old)) is ∙ take-append_seam old tail)

-- ---- a commit's map

pub bits-read : (c : Commit) (map : Option OffsetMap) → map_reading c.position c.map ≡ Ok (option_map (λ m. m.bits) map)
    → bits_in map ≡ map_bits c
unfolding map_bits
bits-read c None is = rw is refl
bits-read c (Some m) is = rw is refl

pub bits-unread : (c : Commit) (fault : MapFault) → map_reading c.position c.map ≡ Err fault → [] ≡ map_bits c
unfolding map_bits
bits-unread c fault is = rw is refl

-- ---- one record after the other

-- some of the records were put, and others are left
pub record IsPutting (work : Work) (p : ℕ) (passed : Passed) (old : List ℕ) (all : List Record)
    (now : List ℕ) (place : ℕ) (left : List Record) : Type 0 where
  pub whole : now ++ lines_past work p passed left ≡ old ++ lines_past work p passed all
  pub kept : take (length old) now ≡ old
  pub ends : end_of place left ≡ end_of passed.position all
  pub rises : rises_from 0 left ≡ true

end_of-some : (r : Record) (rs : List Record) (m n : ℕ)
    → option_map_or (λ (q : Record). q.offset + 1) (last_or (Some r) rs) m
    ≡ option_map_or (λ (q : Record). q.offset + 1) (last_or (Some r) rs) n
end_of-some r [] m n = refl
end_of-some r (q ∷ rs) m n = end_of-some q rs m n

end_of-next : (place : ℕ) (r : Record) (rs : List Record) → end_of place (r ∷ rs) ≡ end_of (r.offset + 1) rs
end_of-next place r [] = refl
end_of-next place r (q ∷ rs) = end_of-some q rs place (r.offset + 1)

-- the records from an offset on rise too
pub rises-left : (from : ℕ) (rs left : List Record) → rises_from 0 rs ≡ true → left ≡ not_below from rs → rises_from 0 left ≡ true
rises-left from rs left rises is = rw is (rises-filter (λ r. leb from r.offset) 0 rs rises)

pub putting-start : (work : Work) (p : ℕ) (passed : Passed) (old : List ℕ) (all : List Record)
    → rises_from 0 all ≡ true → IsPutting work p passed old all old passed.position all
putting-start work p passed old all rises = record {
  whole = refl;
  kept = take-length old;
  ends = refl;
  rises = rises;
}

module _ (work : Work) (p : ℕ) (passed : Passed) (old : List ℕ) (all : List Record) (now : List ℕ) (place : ℕ)
    (left : List Record) (r : Record) (rest : List Record)
    (putting : IsPutting work p passed old all now place left) (is : left ≡ r ∷ rest) where
  rest_rises : rises_from 0 rest ≡ true
  rest_rises =
      let rises : rises_from 0 (r ∷ rest) ≡ true = subst (λ (rs : List Record). rises_from 0 rs ≡ true) is putting.rises in
      rises-lower 0 (suc r.offset) rest (omega arith) (and-right (ltb r.offset _) _ (and-right (leb 0 r.offset) _ rises))

  -- the next record is passed over
  pub putting-passed : is_over passed r.offset ≡ true → IsPutting work p passed old all now (r.offset + 1) rest
  putting-passed over = record {
    whole = rw (is, over) at putting.whole;
    kept = putting.kept;
    ends = sym (end_of-next place r rest) ∙ rw is at putting.ends;
    rises = rest_rises;
  }

  -- the next record is put
  pub putting-put : (more : List ℕ) → is_over passed r.offset ≡ false → more ≡ now ++ record_line work p r
      → IsPutting work p passed old all more (r.offset + 1) rest
  putting-put more other put = record {
    whole = rw put (append_assoc now (record_line work p r) _ ∙ rw (is, other) at putting.whole);
    kept = rw put (kept-more old now (record_line work p r) putting.kept);
    ends = sym (end_of-next place r rest) ∙ rw is at putting.ends;
    rises = rest_rises;
  }

-- ---- the lines of a part

is_over-passes : (c : Commit) (passed : Passed) (o : ℕ) → IsReadOf c passed → is_over passed o ≡ passes c o
unfolding is_over passes
is_over-passes c passed o is = rw (is.position, is.bits) refl

passes-below : (c : Commit) (o : ℕ) → o < c.position → passes c o ≡ true
unfolding passes
passes-below c o less = rw (lt-ltb o c.position less) refl

-- the records over which it does not pass stand from its position on
pub past-passes : (c : Commit) (passed : Passed) (rs : List Record) → IsReadOf c passed
    → filter (λ (r : Record). not (is_over passed r.offset)) (not_below c.position rs) ≡ not_passed c rs
past-passes c passed [] is = refl
past-passes c passed (r ∷ rs) is =
    elim (cases_lt r.offset c.position) [
      | inl less ↦ rw (lt-leb c.position r.offset less, passes-below c r.offset less) (past-passes c passed rs is)
      | inr more ↦ rw (le-leb c.position r.offset more, is_over-passes c passed r.offset is)
          (ap (λ (x : List Record). cond (not (passes c r.offset)) (r ∷ x) x) (past-passes c passed rs is))
    ]

-- what was put of a part are its lines
pub part-is : (work : Work) (c : Commit) (p : ℕ) (passed : Passed) (rs : List Record) (old put new : List ℕ) (from place : ℕ)
    → IsReadOf c passed → from ≡ c.position → put ≡ old ++ lines_past work p passed (not_below from rs)
    → place ≡ end_of from (not_below from rs) → new ≡ put ++ end_line p place
    → new ≡ old ++ part_summary work c p rs
unfolding part_summary
part-is work c p passed rs old put new from place is at lines ends last =
    last ∙ rw (lines, ends, at, past-passes c passed rs is) (append_assoc old (flat_map (record_line work p) (not_passed c rs)) _)

-- ---- one part after the other

range-more : (a n : ℕ) → range_with_len a (suc n) ≡ range_with_len a n ++ (a + n) ∷ []
range-more a zero = ap (λ (x : ℕ). x ∷ []) (sym (add-zero a))
range-more a (suc n) =
    let same : a + 1 + n ≡ a + suc n = omega arith in
    ap (λ (xs : List ℕ). a ∷ xs) (range-more (a + 1) n ∙ ap (λ (x : ℕ). range_with_len (a + 1) n ++ x ∷ []) same)

-- the parts below this one that are held, and this one where it is
held-more : (h : List Event) (p : ℕ) → filter (is_held h) (range_with_len 0 (p + 1))
    ≡ filter (is_held h) (range_with_len 0 p) ++ cond (is_held h p) (p ∷ []) []
held-more h p =
    let next : p + 1 ≡ suc p = omega arith in
    let here : 0 + p ≡ p = omega arith in
    let parts : range_with_len 0 (p + 1) ≡ range_with_len 0 p ++ p ∷ [] =
    ap (range_with_len 0) next ∙ range-more 0 p ∙ ap (λ (x : ℕ). range_with_len 0 p ++ x ∷ []) here in
    ap (filter (is_held h)) parts ∙ filter-append (is_held h) (range_with_len 0 p) (p ∷ [])

-- the lines of the held parts below this one
abbrev pub lines_upto : Setup → List (Option (List Record)) → List Event → ℕ → List ℕ
lines_upto setup logs h p = flat_map (λ q. part_summary setup.settings.rules.work (first_commit h q) q (unwrap_or (log_at logs q) []))
    (filter (is_held h) (range_with_len 0 p))

-- a part that is not held has no lines
pub upto-other : (setup : Setup) (logs : List (Option (List Record))) (h : List Event) (p : ℕ) (old now : List ℕ)
    → false ≡ is_held h p → now ≡ old ++ lines_upto setup logs h p → now ≡ old ++ lines_upto setup logs h (p + 1)
upto-other setup logs h p old now other is =
    is ∙ ap (λ (ps : List ℕ). old ++ flat_map (λ q. part_summary setup.settings.rules.work (first_commit h q) q (unwrap_or (log_at logs q) [])) ps)
    (sym (held-more h p ∙ rw (← other) (append-nil _)))

-- the lines of a part that is held stand behind those of the parts before it
pub upto-held : (setup : Setup) (logs : List (Option (List Record))) (h : List Event) (p : ℕ) (old now new : List ℕ) (c : Commit)
    → true ≡ is_held h p → first_assigned h p ≡ Some c → now ≡ old ++ lines_upto setup logs h p
    → new ≡ now ++ part_summary setup.settings.rules.work c p (unwrap_or (log_at logs p) [])
    → new ≡ old ++ lines_upto setup logs h (p + 1)
upto-held setup logs h p old now new c held first is more =
    let work = setup.settings.rules.work in
    let lines = λ (q : ℕ). part_summary work (first_commit h q) q (unwrap_or (log_at logs q) []) in
    let parts : filter (is_held h) (range_with_len 0 (p + 1)) ≡ filter (is_held h) (range_with_len 0 p) ++ p ∷ [] =
    held-more h p ∙ rw (← held) refl in
    let one : part_summary work c p (unwrap_or (log_at logs p) []) ≡ flat_map lines (p ∷ []) =
    ap (λ (o : Option Commit). part_summary work (unwrap_or o no_commit) p (unwrap_or (log_at logs p) [])) (sym first)
    ∙ sym (append-nil _) in
    let behind : new ≡ (old ++ lines_upto setup logs h p) ++ flat_map lines (p ∷ []) = rw (← is, ← one) more in
    behind ∙ append_assoc old _ _ ∙ ap (λ (t : List ℕ). old ++ t)
    (sym (flat_map-append lines (filter (is_held h) (range_with_len 0 p)) (p ∷ [])) ∙ ap (flat_map lines) (sym parts))

pub summary-is : (setup : Setup) (logs : List (Option (List Record))) (h : List Event) → summary_of setup logs h ≡ lines_upto setup logs h (length logs)
unfolding summary_of
summary-is setup logs h = refl

-- ---- the law

same-parts : (work : Work) (logs : List (Option (List Record))) (h k : List Event) (ps : List ℕ)
    → ((p : ℕ) → is_held h p ≡ true → first_assigned h p ≡ first_assigned k p)
    → AllByRecursion (λ p. is_held h p ≡ true) ps
    → flat_map (λ p. part_summary work (first_commit h p) p (unwrap_or (log_at logs p) [])) ps
    ≡ flat_map (λ p. part_summary work (first_commit k p) p (unwrap_or (log_at logs p) [])) ps
same-parts work logs h k [] same held = refl
same-parts work logs h k (p ∷ ps) same held =
    ap (λ (o : Option Commit). part_summary work (unwrap_or o no_commit) p (unwrap_or (log_at logs p) [])
    ++ flat_map (λ p. part_summary work (first_commit h p) p (unwrap_or (log_at logs p) [])) ps) (same p held.0)
    ∙ ap (λ (t : List ℕ). part_summary work (first_commit k p) p (unwrap_or (log_at logs p) []) ++ t)
    (same-parts work logs h k ps same held.1)

filtered : (f : ℕ → Bool) (ps : List ℕ) → AllByRecursion (λ p. f p ≡ true) (filter f ps)
filtered f [] = tt
filtered f (p ∷ ps) = elim (cases_Bool (f p)) [
  | inl t ↦ rw t (t, filtered f ps)
  | inr e ↦ rw e (filtered f ps)
]

-- a summary goes by the parts that are held and their first assignments
pub summary-same : (setup : Setup) (logs : List (Option (List Record))) (h k : List Event)
    → held_among logs h ≡ held_among logs k
    → ((p : ℕ) → is_held h p ≡ true → first_assigned h p ≡ first_assigned k p)
    → summary_of setup logs h ≡ summary_of setup logs k
unfolding summary_of
summary-same setup logs h k parts same =
    same-parts setup.settings.rules.work logs h k (held_among logs h) same (filtered (is_held h) (range_with_len 0 (length logs)))
    ∙ ap (flat_map (λ p. part_summary setup.settings.rules.work (first_commit k p) p (unwrap_or (log_at logs p) []))) parts
