-- A blocked part: unless it had a success since its last commit, its commit still has that commit's
-- size.
use Rattle.std.proofs.Common.{◌≡◌, ℕ, zero, suc, ◌+◌, ◌-◌, ◌≤◌, ◌<◌, true, false, ◌&&◌, ◌==◌, List, [], ◌∷◌, ◌++◌, take, drop, Option, Some, None, refl, ap, sym, subst, ◌∙◌, arith, inl, inr, zero-add}
use Rattle.std.proofs.Math.Nat.{suc-add}
use Rattle.std.specs.Prelude.{filter, nat_le, nat_lt, slice_get, option_map}
use Rattle.std.specs.Option.{option_map_or}
use Rattle.std.proofs.lemmas.Bool.{cases_Bool, eqb-true, leb-true, ltb-true, lt-ltb}
use Rattle.pc_model.specs.declared.event.Event.{Event}
use Rattle.pc_model.specs.declared.event.Event.TheVariants.{Assign, Poll, Success, Commit as Committed, CommitFailed, Revoke, Lost, Crash}
use Rattle.pc_model.specs.declared.commit.SizedCommit.{SizedCommit}
use Rattle.pc_model.specs.Record.{Record}
use Rattle.pc_model.specs.Given.{Given}
use Rattle.pc_model.specs.Jobs.{Job, job_of}
use Rattle.pc_model.specs.Epochs.{epoch_of, is_held, is_current, is_current_ticket}
use Rattle.pc_model.specs.Stored.{map_end}
use Rattle.pc_model.specs.Marks.{high_at, commit_at}
use Rattle.pc_model.specs.Known.{assigned_commit, begin_of, polled_count, records_from_begin, polled_records, unpolled_records, known_records, is_complete, marks_of, high_of, commit_of}
use Rattle.pc_model.specs.Pressure.{last_size, is_blocked}
use Rattle.pc_model.specs.Run.{new_successes}
use Rattle.pc_model.specs.OneMore.{is_job_of_part, SamePart}
use Rattle.pc_model.specs.Lawful.{IsLegal, PollIsLawful, CommitIsLawful}
use Rattle.pc_model.proofs.SamePart.{other_part}
use Rattle.pc_model.proofs.KnownLaws.{commit_of-same, is_blocked-same, polled_count-poll}
use Rattle.pc_laws.specs.Lists.{In}
use Rattle.pc_laws.proofs.Lists.{and-right, In-append, In-filtered, greatest_of-In}
use Rattle.pc_laws.proofs.Rising.{Rises, Rises-In, Rises-lower, known_of}
use Rattle.pc_laws.proofs.Passing.{marks_by, In-complete_offsets}
use Rattle.pc_laws.proofs.PositionLaw.{known_by, from_begin-rises, held_apart}

-- ---- a poll up to the high adds nothing to what is known

-- records all of which stand below an end stay in the filter
filter-all : (end : ℕ) (rs : List Record) →
    ((r : Record) → In r rs → r.offset < end) → filter (λ r. nat_lt r.offset end) rs ≡ rs
filter-all end [] below = refl
filter-all end (r ∷ rs) below = rw
    (lt-ltb r.offset end (below r (inl refl)), filter-all end rs (λ s i. below s (inr i))) refl

-- the next c records are below the end where the last of them is
take-filter : (c end : ℕ) (rs : List Record) → ((r : Record) → In r (take c rs) → r.offset < end)
    → take c rs ++ filter (λ r. nat_lt r.offset end) (drop c rs) ≡ filter
    (λ r. nat_lt r.offset end) rs
take-filter zero end rs below = refl
take-filter (suc c) end [] below = refl
take-filter (suc c) end (r ∷ rs) below =
    rw (lt-ltb r.offset end (below r (inl refl)))
    (ap (λ qs. r ∷ qs) (take-filter c end rs (λ q i. below q (inr i))))

known_of-same : (k c end : ℕ) (rs : List Record) →
    ((r : Record) → In r (take c (drop k rs)) → r.offset < end) → known_of (k + c) end rs
    ≡ known_of k end rs
known_of-same zero c end rs below = rw zero-add (take-filter c end rs below)
known_of-same (suc k) c end [] below = rw suc-add refl
known_of-same (suc k) c end (r ∷ rs) below = rw suc-add
    (ap (λ qs. r ∷ qs) (known_of-same k c end rs below))

-- a record that is found at a place stands in the list
slice_get-In : (c o : ℕ) (rs : List Record) → option_map (λ (r : Record). r.offset) (slice_get rs c)
    ≡ Some o → (s : Record) × In s rs × (s.offset ≡ o)
slice_get-In c o [] e = cc
slice_get-In zero o (q ∷ qs) e = let is : q.offset ≡ o = cc in (q, inl refl, is)
slice_get-In (suc c) o (q ∷ qs) e = let at = slice_get-In c o qs e in (at.0, inr at.1, at.2)

-- the first records of a rising log up to a place are not above the one at that place
take-le : (c n o : ℕ) (rs : List Record) → Rises n rs → option_map (λ (r : Record). r.offset)
    (slice_get rs c) ≡ Some o
    → (r : Record) → In r (take (suc c) rs) → r.offset ≤ o
take-le c n o [] rises last r i = absurd i
take-le zero n o (q ∷ qs) rises last r (inl same) = let is : q.offset ≡ o = cc in let at : r.offset
    ≡ q.offset = ap (λ (x : Record). x.offset) same in omega arith
take-le zero n o (q ∷ qs) rises last r (inr none) = absurd none
take-le (suc c) n o (q ∷ qs) rises last r (inl same) =
    let at = slice_get-In c o qs last in let is : at.0.offset ≡ o = at.2 in let r_is : r.offset
    ≡ q.offset = ap (λ (x : Record). x.offset) same in
    let above : suc q.offset ≤ at.0.offset =
    (Rises-In (suc q.offset) at.0 qs rises.2 at.1).0 in omega arith
take-le (suc c) n o (q ∷ qs) rises last r (inr i) = take-le c (suc q.offset) o qs rises.2 last r i

pub drop-In : {X : Type 0} (k : ℕ) (x : X) (xs : List X) → In x (drop k xs) → In x xs
drop-In zero x xs i = i
drop-In (suc k) x [] i = i
drop-In (suc k) x (y ∷ ys) i = inr (drop-In k x ys i)

-- a record of the rest stands above each of the first
pub drop-above : (k n : ℕ) (rs : List Record) → Rises n rs →
    (s r : Record) → In s (take k rs) → In r (drop k rs) → s.offset < r.offset
drop-above zero n rs rises s r i j = absurd i
drop-above (suc k) n [] rises s r i j = absurd i
drop-above (suc k) n (q ∷ qs) rises s r (inl same) j =
    let at : s.offset ≡ q.offset = ap (λ (x : Record). x.offset) same in
    let above : suc q.offset ≤ r.offset =
    (Rises-In (suc q.offset) r qs rises.2 (drop-In k r qs j)).0 in omega arith
drop-above (suc k) n (q ∷ qs) rises s r (inr i) j = drop-above k (suc q.offset) qs rises.2 s r i j

pub Rises-drop : (k n : ℕ) (rs : List Record) → Rises n rs → Rises n (drop k rs)
Rises-drop zero n rs rises = rises
Rises-drop (suc k) n [] rises = tt
Rises-drop (suc k) n (q ∷ qs) rises = let le : n ≤ q.offset = rises.0 in Rises-lower n
    (suc q.offset) (drop k qs) (omega arith) (Rises-drop k (suc q.offset) qs rises.2)

-- the high is a complete known offset
pub high_of-In : (given : Given) (h : List Event) (p g : ℕ) → high_of given h p ≡ Some g
    → (s : Record) × In s (known_by given h p) × (s.offset ≡ g) × (is_complete h p g ≡ true)
unfolding high_at marks_of known_records polled_records unpolled_records
high_of-In given h p g e = In-complete_offsets (is_complete h p) (known_by given h p) g
    (greatest_of-In g _ e)

upto_high : (o : ℕ) (high : Option ℕ) → option_map_or (nat_le o) high false ≡ true →
    (g : ℕ) × (high ≡ Some g) × (o ≤ g)
upto_high o None e = cc
upto_high o (Some g) e = (g, refl, leb-true o g e)

module _ (given : Given) (h : List Event) (legal : IsLegal given h) (p count last : ℕ)
    (lawful : PollIsLawful given h p count last)
    (blocked : is_blocked given h p ≡ true) where
  -- each record of such a poll is one of which the assignment's map says something
  polled-below : (r : Record) → In r
      (take count (drop (polled_count h p) (records_from_begin given h p))) → r.offset < map_end
      (assigned_commit h p)
  unfolding unpolled_records
  polled-below r i =
      let rises = from_begin-rises given h legal p in
      let rest = Rises-drop (polled_count h p) 0 (records_from_begin given h p) rises in
      let high = upto_high last (high_of given h p) (lawful.pressed blocked) in
      let top = high_of-In given h p high.0 high.1 in
      let top_is : top.0.offset ≡ high.0 = top.2 in
      let last_le : last ≤ high.0 = high.2 in
      let some : 0 < count = lawful.some in
      let is : count ≡ suc (count - 1) = omega arith in
      let within : In r (take (suc (count - 1))
      (drop (polled_count h p) (records_from_begin given h p))) = rw (← is) i in
      let le : r.offset ≤ last = take-le (count - 1) 0 last
      (drop (polled_count h p) (records_from_begin given h p)) rest lawful.last_is r within in
      let last_record = slice_get-In (count - 1) last
      (drop (polled_count h p) (records_from_begin given h p)) lawful.last_is in
      let last_record_is : last_record.0.offset ≡ last = last_record.2 in
      elim (In-append top.0 (take (polled_count h p) (records_from_begin given h p)) _ top.1) [
        | inl polled ↦
            let above : top.0.offset < last_record.0.offset = drop-above (polled_count h p) 0
            (records_from_begin given h p) rises top.0 last_record.0 polled last_record.1 in
            absurd (omega arith)
        | inr rest_top ↦
            let below : top.0.offset < map_end (assigned_commit h p) =
            ltb-true top.0.offset (map_end (assigned_commit h p))
            (In-filtered (λ q. nat_lt q.offset (map_end (assigned_commit h p))) top.0 _
            rest_top).1 in
            omega arith
      ]

  -- so the part's commit stays as it is
  commit_of-poll : commit_of given (Poll p count last ∷ h) p ≡ commit_of given h p
  unfolding marks_of known_records polled_records unpolled_records is_complete
  commit_of-poll =
      ap (λ (rs : List Record). commit_at given.setup.settings.map_limit (begin_of h p)
      (marks_by (is_complete h p) rs))
      (ap (λ (n : ℕ). known_of n (map_end (assigned_commit h p)) (records_from_begin given h p))
      (polled_count-poll given h p count last)
      ∙ known_of-same (polled_count h p) count (map_end (assigned_commit h p))
      (records_from_begin given h p) polled-below)

-- ---- the commit of a blocked part

-- the part's commit has the size of its last one, unless it had a success since
abbrev KeepsSize : Given → List Event → ℕ → Type 0
KeepsSize given h p = (size : ℕ) → is_held h p ≡ true → last_size h p ≡ Some size →
    is_blocked given h p ≡ true
    → new_successes h p (epoch_of h p) ≡ 0 → (commit_of given h p).size ≡ size

some-same : (x y : ℕ) → ◌≡◌ {A = Option ℕ} (Some x) (Some y) → x ≡ y
some-same x y e = cc

lawful-size : (given : Given) (h : List Event) (p position : ℕ) (text : List ℕ) (size : ℕ) →
    CommitIsLawful given h p position text size
    → (commit_of given h p).size ≡ size
lawful-size given h p position text size lawful = ap (λ (c : SizedCommit). c.size) lawful.commit_is

-- a success of a current job of the part is a new one
new-job : (h : List Event) (j : Option Job) (p : ℕ) → option_map_or (is_current h) j false ≡ true →
    is_job_of_part j p ≡ true
    → option_map_or (λ k. (k.part == p) && (k.epoch == epoch_of h p)) j false ≡ true
new-job h None p current of = cc
new-job h (Some j) p current of =
    let part : j.part ≡ p = eqb-true j.part p of in
    let epoch : (j.epoch == epoch_of h j.part) ≡ true = and-right (is_held h j.part)
    (j.epoch == epoch_of h j.part) current in
    rw (of, ← part, epoch) refl

new-success : (h : List Event) (t p : ℕ) (answer : List ℕ) → is_current_ticket h t ≡ true →
    is_job_of_part (job_of h t) p ≡ true
    → new_successes (Success t answer ∷ h) p (epoch_of h p) ≡ 0 → ⊥
new-success h t p answer current of none = let more = rw
    (new-job h (job_of h t) p current of) at none in omega (arith, more)

-- an event that leaves what is said of the part
same-keeps : (given : Given) (v : Event) (h : List Event) (p : ℕ) → SamePart given p h (v ∷ h) →
    KeepsSize given h p → KeepsSize given (v ∷ h) p
same-keeps given v h p same keeps size held last blocked none =
    ap (λ (c : SizedCommit). c.size) (commit_of-same given p h (v ∷ h) same)
    ∙ keeps size (sym same.held ∙ held) (sym same.size ∙ last)
    (sym (is_blocked-same given p h (v ∷ h) same) ∙ blocked)
    (rw (same.epoch, same.fresh (epoch_of h p)) at none)

pub keeps_size : (given : Given) (h : List Event) (p : ℕ) → IsLegal given h → KeepsSize given h p
unfolding marks_of known_records polled_records unpolled_records is_complete
keeps_size given [] p legal size held last blocked none = cc
keeps_size given (Assign q epoch position text ∷ h) p legal size held last blocked none = elim
    (cases_Bool (q == p)) [
      | inl same ↦ let nothing = rw same at last in cc nothing
      | inr apart ↦ same-keeps given (Assign q epoch position text) h p
          (other_part given p (Assign q epoch position text) h apart)
          (keeps_size given h p legal.2) size held last blocked none
    ]
keeps_size given (Poll q count last ∷ h) p legal size held is blocked none = elim
    (cases_Bool (q == p)) [
      | inl same ↦
          let part : q ≡ p = eqb-true q p same in
          ap (λ (c : SizedCommit). c.size)
          (subst (λ (u : ℕ). commit_of given (Poll u count last ∷ h) p ≡ commit_of given h p)
          (sym part)
          (commit_of-poll given h legal.2 p count last
          (subst (λ (u : ℕ). PollIsLawful given h u count last) part legal.0) blocked))
          ∙ keeps_size given h p legal.2 size held is blocked none
      | inr apart ↦ same-keeps given (Poll q count last) h p
          (other_part given p (Poll q count last) h apart)
          (keeps_size given h p legal.2) size held is blocked none
    ]
keeps_size given (Committed q position text size ∷ h) p legal s held last blocked none = elim
    (cases_Bool (q == p)) [
      | inl same ↦
          let part : q ≡ p = eqb-true q p same in let is : Some size ≡ Some s = rw same at last in
          lawful-size given h p position text size
          (subst (λ (u : ℕ). CommitIsLawful given h u position text size) part legal.0)
          ∙ some-same size s is
      | inr apart ↦ same-keeps given (Committed q position text size) h p
          (other_part given p (Committed q position text size) h apart)
          (keeps_size given h p legal.2) s held last blocked none
    ]
keeps_size given (CommitFailed q position text size ∷ h) p legal s held last blocked none = elim
    (cases_Bool (q == p)) [
      | inl same ↦
          let part : q ≡ p = eqb-true q p same in let is : Some size ≡ Some s = rw same at last in
          lawful-size given h p position text size
          (subst (λ (u : ℕ). CommitIsLawful given h u position text size) part legal.0)
          ∙ some-same size s is
      | inr apart ↦ same-keeps given (CommitFailed q position text size) h p
          (other_part given p (CommitFailed q position text size) h apart)
          (keeps_size given h p legal.2) s held last blocked none
    ]
keeps_size given (Success t answer ∷ h) p legal size held last blocked none = elim
    (cases_Bool (is_job_of_part (job_of h t) p)) [
      | inr apart ↦ same-keeps given (Success t answer) h p
          (other_part given p (Success t answer) h apart)
          (keeps_size given h p legal.2) size held last blocked none
      | inl of ↦ absurd (new-success h t p answer legal.0.current of none)
    ]
keeps_size given (Revoke q epoch ∷ h) p legal size held last blocked none =
    let at = held_apart (q == p) (is_held h p) held in
    same-keeps given (Revoke q epoch) h p (other_part given p (Revoke q epoch) h at.0)
    (keeps_size given h p legal.2) size held last blocked none
keeps_size given (Lost q epoch ∷ h) p legal size held last blocked none =
    let at = held_apart (q == p) (is_held h p) held in
    same-keeps given (Lost q epoch) h p (other_part given p (Lost q epoch) h at.0)
    (keeps_size given h p legal.2) size held last blocked none
keeps_size given (Crash ∷ h) p legal size held last blocked none = cc
keeps_size given (v ∷ h) p legal size held last blocked none =
    keeps_size given h p legal.2 size held last blocked none
