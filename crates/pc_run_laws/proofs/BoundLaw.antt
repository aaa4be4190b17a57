-- The bound: each event of a run is of one of eleven kinds, and none of these has too many.
use Rattle.std.proofs.Common.{◌≡◌, ℕ, zero, suc, ◌+◌, ◌*◌, ◌≤◌, Bool, true, false, not, ◌&&◌, ◌||◌, List, [], ◌∷◌, map, length, refl, ap, sym, subst, arith, eq-eqb, mul-add}
use Rattle.std.proofs.Math.Nat.{suc-mul}
use Rattle.pc_model.specs.declared.event.Event.{Event}
use Rattle.pc_model.specs.declared.event.Event.TheVariants.{Assign, Poll, Dispatch, Success, Failure, Stale, Commit as Committed, CommitFailed, Revoke, Lost, Crash, Tick, Drain, Done, Closed}
use Rattle.pc_model.specs.declared.step.Step.{Step}
use Rattle.pc_model.specs.Given.{Given, records_of}
use Rattle.pc_model.specs.Jobs.{has_ended, is_draining, open_jobs}
use Rattle.pc_model.specs.Lawful.{IsLegal}
use Rattle.pc_model.specs.Run.{is_commit_due}
use Rattle.pc_model.specs.Steps.{follows, place_of}
use Rattle.pc_model.specs.Pace.{is_paced, is_time, saves_at_rest}
use Rattle.pc_model.specs.Bound.{assigns_in, event_bound, failing_sum, load_of, logged_parts, total_load}
use Rattle.pc_laws.specs.Lists.{In}
use Rattle.pc_laws.proofs.OrderlyLaw.{next_record-In}
use Rattle.pc_run_laws.specs.Run.{IsRun}
use Rattle.pc_run_laws.proofs.RestLaw.{paced-before}
use Rattle.pc_run_laws.proofs.Tally.{Test, add_if, add_if-apart, add_if-one, classes, never, sum-add, sum-le, sum-ones, sum_of, tally}
use Rattle.pc_run_laws.proofs.RecordCounts.{fails}
use Rattle.pc_run_laws.proofs.PartCounts.{assigned, dispatches_of, dues_of, fails_of, legal-before, part-few, polls_of}
use Rattle.pc_run_laws.proofs.Moves.{assigned-few, blocks, held-logged, moves, pending, revokes}
use Rattle.pc_run_laws.proofs.Drains.{drains, drains-once, finishes, finishes-once, saves-once, saves_of}
use Rattle.pc_run_laws.proofs.Ticks.{dispatches, due-few, due_ticks, early-few, early_ticks, open-few, results}

abbrev polls : Test
polls (Poll q count last) h = true
polls _ h = false

abbrev dues : Given → Test
dues given (Committed q position text size) h = is_commit_due given h q
dues given (CommitFailed q position text size) h = is_commit_due given h q
dues given _ h = false

abbrev saves : Given → Test
saves given (Committed q position text size) h = not (is_commit_due given h q) && saves_at_rest given h q
saves given (CommitFailed q position text size) h = not (is_commit_due given h q) && saves_at_rest given h q
saves given _ h = false

-- ---- the kinds

-- a commit is due, saves, or begins a revocation
commit-kinds : (due rest : Bool) → add_if due 0 + add_if (not due && rest) 0 + add_if (not (due || rest)) 0 ≡ 1
commit-kinds true rest = refl
commit-kinds false true = refl
commit-kinds false false = refl

tick-kinds : (due : Bool) → add_if due 0 + add_if (not due) 0 ≡ 1
tick-kinds true = refl
tick-kinds false = refl

kinds : Given → List Event → ℕ
kinds given h = tally never dispatches h + tally never results h + tally never polls h
    + tally never (dues given) h + tally never (saves given) h + tally never (revokes given) h
    + tally never (due_ticks given) h + tally never (early_ticks given) h + tally never moves h
    + tally never drains h + tally never finishes h

-- one more event is of one of them
kind : Given → Event → List Event → ℕ
kind given e h = add_if (dispatches e h) 0 + add_if (results e h) 0 + add_if (polls e h) 0
    + add_if (dues given e h) 0 + add_if (saves given e h) 0 + add_if (revokes given e h) 0
    + add_if (due_ticks given e h) 0 + add_if (early_ticks given e h) 0 + add_if (moves e h) 0
    + add_if (drains e h) 0 + add_if (finishes e h) 0

one-kind : (given : Given) (steps : List Step) (e : Event) (h : List Event)
    → is_paced given steps (e ∷ h) ≡ true → kind given e h ≡ 1
unfolding kind
one-kind given steps (Committed q position text size) h pace =
    let one = commit-kinds (is_commit_due given h q) (saves_at_rest given h q) in omega arith
one-kind given steps (CommitFailed q position text size) h pace =
    let one = commit-kinds (is_commit_due given h q) (saves_at_rest given h q) in omega arith
one-kind given steps (Tick now) h pace = let one = tick-kinds (is_time given h now) in omega arith
one-kind given steps (Assign q epoch position text) h pace = refl
one-kind given steps (Poll q count last) h pace = refl
one-kind given steps (Dispatch t w q o e a) h pace = refl
one-kind given steps (Success t answer) h pace = refl
one-kind given steps (Failure t code ready) h pace = refl
one-kind given steps (Stale t) h pace = refl
one-kind given steps (Revoke q epoch) h pace = refl
one-kind given steps (Lost q epoch) h pace = refl
one-kind given steps Crash h pace = refl
one-kind given steps Drain h pace = refl
one-kind given steps Done h pace = refl
one-kind given steps Closed h pace = cc

more-kinds : (given : Given) (e : Event) (h : List Event) → kinds given (e ∷ h) ≡ kind given e h + kinds given h
unfolding kinds kind
more-kinds given e h =
    let a : tally never dispatches (e ∷ h) ≡ add_if (dispatches e h) 0 + tally never dispatches h =
    add_if-apart (dispatches e h) (tally never dispatches h) in
    let b : tally never results (e ∷ h) ≡ add_if (results e h) 0 + tally never results h =
    add_if-apart (results e h) (tally never results h) in
    let c : tally never polls (e ∷ h) ≡ add_if (polls e h) 0 + tally never polls h =
    add_if-apart (polls e h) (tally never polls h) in
    let d : tally never (dues given) (e ∷ h) ≡ add_if (dues given e h) 0 + tally never (dues given) h =
    add_if-apart (dues given e h) (tally never (dues given) h) in
    let f : tally never (saves given) (e ∷ h) ≡ add_if (saves given e h) 0 + tally never (saves given) h =
    add_if-apart (saves given e h) (tally never (saves given) h) in
    let g : tally never (revokes given) (e ∷ h) ≡ add_if (revokes given e h) 0 + tally never (revokes given) h =
    add_if-apart (revokes given e h) (tally never (revokes given) h) in
    let i : tally never (due_ticks given) (e ∷ h) ≡ add_if (due_ticks given e h) 0 + tally never (due_ticks given) h =
    add_if-apart (due_ticks given e h) (tally never (due_ticks given) h) in
    let j : tally never (early_ticks given) (e ∷ h) ≡ add_if (early_ticks given e h) 0 + tally never (early_ticks given) h =
    add_if-apart (early_ticks given e h) (tally never (early_ticks given) h) in
    let k : tally never moves (e ∷ h) ≡ add_if (moves e h) 0 + tally never moves h =
    add_if-apart (moves e h) (tally never moves h) in
    let l : tally never drains (e ∷ h) ≡ add_if (drains e h) 0 + tally never drains h =
    add_if-apart (drains e h) (tally never drains h) in
    let m : tally never finishes (e ∷ h) ≡ add_if (finishes e h) 0 + tally never finishes h =
    add_if-apart (finishes e h) (tally never finishes h) in
    omega arith

nil-kinds : (given : Given) → 0 ≡ kinds given []
unfolding kinds
nil-kinds given = refl

length-kinds : (given : Given) (steps : List Step) (h : List Event) → is_paced given steps h ≡ true
    → length h ≡ kinds given h
length-kinds given steps [] pace = nil-kinds given
length-kinds given steps (e ∷ h) pace =
    let rest : length h ≡ kinds given h = length-kinds given steps h (paced-before given steps e h pace) in
    let one : kind given e h ≡ 1 = one-kind given steps e h pace in
    let more : kinds given (e ∷ h) ≡ kind given e h + kinds given h = more-kinds given e h in
    omega arith

-- ---- the parts

dispatch-part : (given : Given) (e : Event) (h : List Event) → IsLegal given (e ∷ h) → dispatches e h ≡ true
    → (p : ℕ) × In p (logged_parts given) × (dispatches_of p e h ≡ true)
dispatch-part given (Dispatch t w q o e a) h legal is =
    (q, held-logged given h q legal.2 (next_record-In given h q o legal.0.record_is).0, eq-eqb q q refl)
dispatch-part given e h legal is = cc

fails-dispatch : (given : Given) (e : Event) (h : List Event) → fails given e h ≡ true → dispatches e h ≡ true
fails-dispatch given (Dispatch t w q o e a) h is = refl
fails-dispatch given e h is = cc

fails-part : (given : Given) (e : Event) (h : List Event) → IsLegal given (e ∷ h) → fails given e h ≡ true
    → (p : ℕ) × In p (logged_parts given) × (fails_of given p e h ≡ true)
fails-part given e h legal is =
    let of = dispatch-part given e h legal (fails-dispatch given e h is) in
    (of.0, of.1, rw (of.2, is) refl)

poll-part : (given : Given) (e : Event) (h : List Event) → IsLegal given (e ∷ h) → polls e h ≡ true
    → (p : ℕ) × In p (logged_parts given) × (polls_of p e h ≡ true)
poll-part given (Poll q count last) h legal is = (q, held-logged given h q legal.2 legal.0.held, eq-eqb q q refl)
poll-part given e h legal is = cc

due-part : (given : Given) (e : Event) (h : List Event) → IsLegal given (e ∷ h) → dues given e h ≡ true
    → (p : ℕ) × In p (logged_parts given) × (dues_of given p e h ≡ true)
due-part given (Committed q position text size) h legal is =
    (q, held-logged given h q legal.2 legal.0.held, rw (eq-eqb q q refl, is) refl)
due-part given (CommitFailed q position text size) h legal is =
    (q, held-logged given h q legal.2 legal.0.held, rw (eq-eqb q q refl, is) refl)
due-part given e h legal is = cc

save-part : (given : Given) (e : Event) (h : List Event) → IsLegal given (e ∷ h) → saves given e h ≡ true
    → (p : ℕ) × In p (logged_parts given) × (saves_of given p e h ≡ true)
save-part given (Committed q position text size) h legal is =
    (q, held-logged given h q legal.2 legal.0.held, rw (eq-eqb q q refl) is)
save-part given (CommitFailed q position text size) h legal is =
    (q, held-logged given h q legal.2 legal.0.held, rw (eq-eqb q q refl) is)
save-part given e h legal is = cc

sum-twice : (f : ℕ → ℕ) (ps : List ℕ) → sum_of (λ p. 2 * f p) ps ≡ 2 * sum_of f ps
sum-twice f [] = refl
sum-twice f (p ∷ ps) = let rest : sum_of (λ q. 2 * f q) ps ≡ 2 * sum_of f ps = sum-twice f ps in omega arith

sum-loads : (given : Given) (steps : List Step) (ps : List ℕ)
    → sum_of (λ p. 4 * ((load_of given steps p).assigns * ((load_of given steps p).records + (load_of given steps p).failures))) ps
    ≡ 4 * total_load (map (load_of given steps) ps)
sum-loads given steps [] = refl
sum-loads given steps (p ∷ ps) =
    let rest : sum_of (λ q. 4 * ((load_of given steps q).assigns * ((load_of given steps q).records + (load_of given steps q).failures))) ps
    ≡ 4 * total_load (map (load_of given steps) ps) = sum-loads given steps ps in
    let here : 4 * ((load_of given steps p).assigns * ((load_of given steps p).records + (load_of given steps p).failures)
    + total_load (map (load_of given steps) ps))
    ≡ 4 * ((load_of given steps p).assigns * ((load_of given steps p).records + (load_of given steps p).failures))
    + 4 * total_load (map (load_of given steps) ps) = mul-add 4 _ _ in
    omega arith

mul-mono : (a b c : ℕ) → a ≤ b → a * c ≤ b * c
mul-mono zero b c le = omega arith
mul-mono (suc a) zero c le = absurd (omega arith)
mul-mono (suc a) (suc b) c le =
    let rest : a * c ≤ b * c = mul-mono a b c (omega arith) in
    let l : suc a * c ≡ a * c + c = suc-mul a c in
    let r : suc b * c ≡ b * c + c = suc-mul b c in omega arith

length-map : {X Y : Type 0} (f : X → Y) (xs : List X) → length (map f xs) ≡ length xs
length-map f [] = refl
length-map f (x ∷ xs) = ap suc (length-map f xs)

add-times : (b k n : ℕ) → b * (n + 1) + k ≤ (b + k) * (n + 1)
add-times b zero n = omega arith
add-times b (suc k) n =
    let rest : b * (n + 1) + k ≤ (b + k) * (n + 1) = add-times b k n in
    let next : suc (b + k) * (n + 1) ≡ (b + k) * (n + 1) + (n + 1) = suc-mul (b + k) (n + 1) in
    let is : b + suc k ≡ suc (b + k) = omega arith in
    subst (λ (m : ℕ). b * (n + 1) + suc k ≤ m * (n + 1)) (sym is) (omega arith)

module _ (given : Given) (steps : List Step) (h : List Event) (legal : IsLegal given h)
    (follow : follows given steps h ≡ true) (pace : is_paced given steps h ≡ true) where
  abbrev parts : List ℕ
  parts = logged_parts given

  -- what a part comes to
  abbrev part-of : ℕ → ℕ
  part-of p = 2 * tally never (dispatches_of p) h + tally never (polls_of p) h + tally never (dues_of given p) h
      + 2 * tally never (fails_of given p) h

  part-load : (p : ℕ) → part-of p
      ≤ 4 * ((load_of given steps p).assigns * ((load_of given steps p).records + (load_of given steps p).failures))
  part-load p =
      let few : part-of p ≤ 4 * (tally never (assigned p) h
      * (length (records_of given p) + failing_sum given p (records_of given p))) = part-few given p h legal in
      let times : tally never (assigned p) h ≤ assigns_in steps p = assigned-few given steps h p legal follow in
      let more : tally never (assigned p) h * (length (records_of given p) + failing_sum given p (records_of given p))
      ≤ assigns_in steps p * (length (records_of given p) + failing_sum given p (records_of given p)) =
      mul-mono _ _ _ times in
      omega arith

  all-parts : 2 * tally never dispatches h + tally never polls h + tally never (dues given) h
      + 2 * tally never (fails given) h ≤ 4 * total_load (map (load_of given steps) parts)
  all-parts =
      let d : tally never dispatches h ≤ sum_of (λ p. tally never (dispatches_of p) h) parts =
      classes never dispatches dispatches_of {P = IsLegal given} parts (legal-before given) (dispatch-part given) h legal in
      let f : tally never (fails given) h ≤ sum_of (λ p. tally never (fails_of given p) h) parts =
      classes never (fails given) (fails_of given) {P = IsLegal given} parts (legal-before given) (fails-part given) h legal in
      let q : tally never polls h ≤ sum_of (λ p. tally never (polls_of p) h) parts =
      classes never polls polls_of {P = IsLegal given} parts (legal-before given) (poll-part given) h legal in
      let u : tally never (dues given) h ≤ sum_of (λ p. tally never (dues_of given p) h) parts =
      classes never (dues given) (dues_of given) {P = IsLegal given} parts (legal-before given) (due-part given) h legal in
      let two : sum_of (λ p. 2 * tally never (dispatches_of p) h) parts
      ≡ 2 * sum_of (λ p. tally never (dispatches_of p) h) parts = sum-twice (λ p. tally never (dispatches_of p) h) parts in
      let two_f : sum_of (λ p. 2 * tally never (fails_of given p) h) parts
      ≡ 2 * sum_of (λ p. tally never (fails_of given p) h) parts = sum-twice (λ p. tally never (fails_of given p) h) parts in
      let s1 : sum_of (λ p. 2 * tally never (dispatches_of p) h + tally never (polls_of p) h) parts
      ≡ sum_of (λ p. 2 * tally never (dispatches_of p) h) parts + sum_of (λ p. tally never (polls_of p) h) parts =
      sum-add (λ p. 2 * tally never (dispatches_of p) h) (λ p. tally never (polls_of p) h) parts in
      let s2 : sum_of (λ p. 2 * tally never (dispatches_of p) h + tally never (polls_of p) h + tally never (dues_of given p) h) parts
      ≡ sum_of (λ p. 2 * tally never (dispatches_of p) h + tally never (polls_of p) h) parts
      + sum_of (λ p. tally never (dues_of given p) h) parts =
      sum-add (λ p. 2 * tally never (dispatches_of p) h + tally never (polls_of p) h) (λ p. tally never (dues_of given p) h) parts in
      let s3 : sum_of part-of parts
      ≡ sum_of (λ p. 2 * tally never (dispatches_of p) h + tally never (polls_of p) h + tally never (dues_of given p) h) parts
      + sum_of (λ p. 2 * tally never (fails_of given p) h) parts =
      sum-add (λ p. 2 * tally never (dispatches_of p) h + tally never (polls_of p) h + tally never (dues_of given p) h)
      (λ p. 2 * tally never (fails_of given p) h) parts in
      let le : sum_of part-of parts
      ≤ sum_of (λ p. 4 * ((load_of given steps p).assigns * ((load_of given steps p).records + (load_of given steps p).failures))) parts =
      sum-le _ _ parts (λ p i. part-load p) in
      let is : sum_of (λ p. 4 * ((load_of given steps p).assigns * ((load_of given steps p).records + (load_of given steps p).failures))) parts
      ≡ 4 * total_load (map (load_of given steps) parts) = sum-loads given steps parts in
      omega arith

  all-saves : tally never (saves given) h ≤ length parts
  all-saves =
      let s : tally never (saves given) h ≤ sum_of (λ p. tally never (saves_of given p) h) parts =
      classes never (saves given) (saves_of given) {P = IsLegal given} parts (legal-before given) (save-part given) h legal in
      let each : sum_of (λ p. tally never (saves_of given p) h) parts ≤ sum_of (λ (p : ℕ). 1) parts =
      sum-le _ _ parts (λ p i. saves-once given steps h p legal follow pace) in
      let ones : sum_of (λ (p : ℕ). 1) parts ≡ length parts = sum-ones parts in omega arith

  all-moves : tally never moves h + tally never (revokes given) h ≤ length steps * (length parts + 1)
  all-moves =
      let at = blocks given steps h legal follow pace in
      let few : tally never moves h + tally never (revokes given) h + length (place_of given h).left
      ≤ (place_of given h).begun * (length parts + 1) + pending given h = at.few in
      let left : (place_of given h).begun + pending given h ≤ length steps = at.left in
      let times : ((place_of given h).begun + pending given h) * (length parts + 1)
      ≤ length steps * (length parts + 1) = mul-mono _ _ (length parts + 1) left in
      let one : (place_of given h).begun * (length parts + 1) + pending given h
      ≤ ((place_of given h).begun + pending given h) * (length parts + 1) =
      add-times (place_of given h).begun (pending given h) (length parts) in
      omega arith

  pub bounded : length h + length (open_jobs h) + 2 ≤ event_bound given steps
  unfolding kinds
  bounded =
      let all : length h ≡ kinds given h = length-kinds given steps h pace in
      let open_ones : tally never results h + length (open_jobs h) ≤ tally never dispatches h = open-few given h legal in
      let due : tally never (due_ticks given) h ≤ tally never (fails given) h = due-few given h legal in
      let early : tally never (early_ticks given) h ≤ tally never (fails given) h = early-few given steps h legal pace in
      let loads : 2 * tally never dispatches h + tally never polls h + tally never (dues given) h
      + 2 * tally never (fails given) h ≤ 4 * total_load (map (load_of given steps) parts) = all-parts in
      let saved : tally never (saves given) h ≤ length parts = all-saves in
      let moved : tally never moves h + tally never (revokes given) h ≤ length steps * (length parts + 1) = all-moves in
      let drained : tally never drains h ≤ add_if (is_draining h) 0 = drains-once given steps h legal follow pace in
      let drained_one : add_if (is_draining h) 0 ≤ 1 = add_if-one (is_draining h) in
      let finished : tally never finishes h ≤ add_if (has_ended h) 0 = finishes-once given h legal in
      let finished_one : add_if (has_ended h) 0 ≤ 1 = add_if-one (has_ended h) in
      let size : length (map (load_of given steps) parts) ≡ length parts = length-map (load_of given steps) parts in
      let le : length h + length (open_jobs h) + 2
      ≤ 4 * total_load (map (load_of given steps) parts) + length steps * (length parts + 1) + length parts + 4 = omega arith in
      subst (λ (n : ℕ). length h + length (open_jobs h) + 2
      ≤ 4 * total_load (map (load_of given steps) parts) + length steps * (n + 1) + n + 4) (sym size) le

pub is_bounded : (given : Given) (steps : List Step) (h : List Event) → IsRun given steps h
    → length h + length (open_jobs h) + 2 ≤ event_bound given steps
is_bounded given steps h run = bounded given steps h run.legal run.follows run.paced
