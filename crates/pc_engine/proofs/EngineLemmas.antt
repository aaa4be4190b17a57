-- What an engine's type keeps after each event.
use Rattle.std.proofs.Common.{◌≡◌, ◌⊎◌, ℕ, zero, suc, ◌+◌, ◌≤◌, ◌<◌, Bool, true, false, ◌==◌, cond, List, [], ◌∷◌, map, length, Option, Some, None, Result, Ok, Err, refl, ap, sym, subst, ◌∙◌, arith, inl, inr, eq-eqb}
use Rattle.std.specs.Prelude.{◌^◌, ◌&&◌, bytes_eq, find, nat_lt, unwrap_or}
use Rattle.std.specs.List.{range_with_len}
use Rattle.std.specs.Option.{option_or, option_map_or}
use Rattle.std.proofs.lemmas.Bool.{cases_Bool, cases_lt, eqb-true, lt-ltb, ltb-true}
use Rattle.pc_model.specs.declared.setup.Setup.{Setup}
use Rattle.pc_model.specs.declared.outcome.Start.{Start}
use Rattle.pc_model.proofs.SetupLaws.{setup-within}
use Rattle.pc_model.specs.declared.commit.Commit.{Commit}
use Rattle.pc_model.specs.declared.event.Event.{Event}
use Rattle.pc_model.specs.declared.event.Event.TheVariants.{Assign, Revoke, Lost, Crash}
use Rattle.pc_model.specs.Record.{Record}
use Rattle.pc_model.specs.Given.{Given, has_log, start_of, no_commit}
use Rattle.pc_model.specs.Jobs.{has_ended, is_draining}
use Rattle.pc_model.specs.Epochs.{epoch_of, is_held}
use Rattle.pc_model.specs.Stored.{stored_after, is_entry, same_commit}
use Rattle.pc_model.specs.Known.{commit_of}
use Rattle.pc_model.proofs.ListLemmas.{map-same, same_number}
use Rattle.pc_laws.specs.Lists.{In}
use Rattle.pc_laws.proofs.Lists.{or-right, true-not-false}
use Rattle.pc_laws.proofs.PositionLaw.{held_apart}
use Rattle.std.proofs.lemmas.Slice.Eq.{bytes_eq-Decides}
use Rattle.pc_task.specs.Jobs.{Outcomes}
use Rattle.pc_engine.specs.declared.fault.EngineFault.{EngineFault}
use Rattle.pc_engine.specs.declared.fault.EngineFault.TheVariants.{Closed, Draining, NoMemory, Client, BadMap, UnknownPart, AlreadyHeld, NotHeld, JournalFull}
use Rattle.pc_model.specs.declared.choices.BadMapRule.{BadMapRule}
use Rattle.pc_model.specs.declared.map_fault.MapFault.{MapFault}
use Rattle.pc_offset_client.specs.declared.fault.ClientFault.{ClientFault}
use Rattle.pc_offset_client.specs.declared.fault.ClientFault.TheVariants as client
use Rattle.pc_model.proofs.BrokerLaws.{stored_for-with_stored}
use Rattle.pc_model.specs.Broker.{Broker}
use Rattle.pc_offset_client.specs.Client.{CommitGives, Accepts, GROUP, kept_for}
use Rattle.pc_engine.specs.Fault.{engine_fault_of}
use Rattle.pc_engine.specs.declared.engine.Committed.{Committed as Receipt}
use Rattle.pc_engine.specs.Effect.{Does, IsFetched, IsStored, StoresOnly, refuses, assign_after, commit_after, is_full, refused_by, assign_step, assign_refusal, commit_refusal, commit_step}
use Rattle.pc_engine.specs.Engine.{first_assigned, start_at, starts_by, given_by}
use Rattle.pc_commit.specs.Resume.{map_refusal}
use Rattle.pc_model.specs.declared.commit.SizedCommit.{SizedCommit}

not-lt : (p n : ℕ) → n ≤ p → nat_lt p n ≡ false
not-lt p n le = elim (cases_Bool (nat_lt p n))
    [ inl lt ↦ let below : p < n = ltb-true p n lt in absurd (omega arith) | inr no_lt ↦ no_lt ]

lt-suc : (p n : ℕ) → nat_lt p n ≡ nat_lt (suc p) (suc n)
lt-suc p n = elim (cases_lt p n) [
  | inl lt ↦ lt-ltb p n lt ∙ sym (lt-ltb (suc p) (suc n) (omega arith))
  | inr le ↦ not-lt p n le ∙ sym (not-lt (suc p) (suc n) (omega arith))
]

-- ---- the given start

find-start : (f : ℕ → Start) → ((q : ℕ) → (f q).part ≡ q) →
    (a n p : ℕ) → a ≤ p → p < a + n → find (λ s. s.part == p) (map f (range_with_len a n)) ≡ Some
    (f p)
find-start f part a zero p from to = absurd (omega arith)
find-start f part a (suc n) p from to = elim (cases_Bool (a == p)) [
  | inl same ↦ let is : a ≡ p = eqb-true a p same in
      let test : ((f a).part == p) ≡ true = ap (λ (x : ℕ). x == p) (part a) ∙ same in rw test
      (ap (λ (q : ℕ). Some (f q)) is)
  | inr apart ↦
      let other : a ≡ p → ⊥ = λ (e : a ≡ p). true-not-false (a == p) (eq-eqb a p e) apart in
      let test : ((f a).part == p) ≡ false = ap (λ (x : ℕ). x == p) (part a) ∙ apart in
      rw test (find-start f part (a + 1) n p (omega (arith, other)) (omega arith))
]

pub start_of-given_by : (setup : Setup) (logs : List (Option (List Record))) (p : ℕ) (h : List Event) (outcomes : Outcomes) (kept : ℕ → Commit) → p < length logs
    → start_of (given_by setup logs h true outcomes kept) p ≡ unwrap_or (first_assigned h p) (kept p)
start_of-given_by setup logs p h outcomes kept below =
    ap (λ (o : Option Start). option_map_or
    (λ s. record { position = s.position; map = s.map }) o no_commit)
    (find-start (λ q. start_at (λ u. unwrap_or (first_assigned h u) (kept u)) q) (λ q. refl) 0 (length logs) p
    (omega arith) (omega arith))

pub start-kept : (setup : Setup) (logs : List (Option (List Record))) (p : ℕ) (told : Bool) (outcomes : Outcomes) (kept : ℕ → Commit) → told ≡ true → p < length logs →
    kept p ≡ start_of (given_by setup logs [] told outcomes kept) p
start-kept setup logs p true outcomes kept is below = sym (start_of-given_by setup logs p [] outcomes kept below)
start-kept setup logs p false outcomes kept is below = cc

-- a start that each part keeps is the start
starts_by-same : (n : ℕ) (h k : List Event) (kept kept' : ℕ → Commit)
    → ((q : ℕ) → unwrap_or (first_assigned k q) (kept' q) ≡ unwrap_or (first_assigned h q) (kept q))
    → starts_by k kept' n ≡ starts_by h kept n
starts_by-same n h k kept kept' same =
    map-same _ _ (λ (q : ℕ). ap
    (λ (c : Commit). record { part = q; position = c.position; map = c.map }) (same q))
    (range_with_len 0 n)

pub given_by-same : (setup : Setup) (logs : List (Option (List Record))) (h k : List Event) (told : Bool)
    (outcomes : Outcomes) (kept kept' : ℕ → Commit)
    → (told ≡ true → (q : ℕ) → unwrap_or (first_assigned k q) (kept' q) ≡ unwrap_or
    (first_assigned h q) (kept q))
    → given_by setup logs k told outcomes kept' ≡ given_by setup logs h told outcomes kept
given_by-same setup logs h k false outcomes kept kept' same = refl
given_by-same setup logs h k true outcomes kept kept' same =
    ap (λ (ss : List Start). record {
      setup = setup;
      logs = logs;
      start = ss;
      is_told = true;
      outcome = outcomes setup.settings.rules;
    })
    (starts_by-same (length logs) h k kept kept' (same refl))

-- ---- a part that is held was assigned

option_or-left : (a b : Option Commit) (c : Commit) → a ≡ Some c → option_or a b ≡ Some c
option_or-left a b c is = rw is refl

pub option_or-none : (a : Option Commit) → option_or a None ≡ a
option_or-none None = refl
option_or-none (Some c) = refl

first-more : (a : Option Commit) (b : Bool) (c : Commit) → b ≡ true →
    (d : Commit) × (option_or a (cond b (Some c) None) ≡ Some d)
first-more None b c is = (c, rw is refl)
first-more (Some d) b c is = (d, refl)

pub held-assigned : (h : List Event) (p : ℕ) → is_held h p ≡ true →
    (c : Commit) × (first_assigned h p ≡ Some c)
held-assigned [] p held = cc
held-assigned (Assign q epoch position text ∷ h) p held = elim (cases_Bool (q == p)) [
  | inl same ↦ first-more (first_assigned h p) (q == p)
      (record { position = position; map = text }) same
  | inr apart ↦ let before : is_held h p ≡ true = rw apart at held in
      let first = held-assigned h p before in
      (first.0, option_or-left (first_assigned h p) _ first.0 first.1)
]
held-assigned (Revoke q epoch ∷ h) p held =
    let before = held_apart (q == p) (is_held h p) held in let first = held-assigned h p before.1 in
    (first.0, option_or-left (first_assigned h p) None first.0 first.1)
held-assigned (Lost q epoch ∷ h) p held =
    let before = held_apart (q == p) (is_held h p) held in let first = held-assigned h p before.1 in
    (first.0, option_or-left (first_assigned h p) None first.0 first.1)
held-assigned (Crash ∷ h) p held = cc
held-assigned (v ∷ h) p held = let first = held-assigned h p held in
    (first.0, option_or-left (first_assigned h p) None first.0 first.1)

pub unwrap-or-some : (a : Option Commit) (c d e : Commit) → c ≡ e → unwrap_or (option_or a (Some c)) d
    ≡ unwrap_or a e
unwrap-or-some None c d e same = same
unwrap-or-some (Some x) c d e same = refl

-- ---- what a call that was not refused knows

pub record MayAssign (given : Given) (h : List Event) (p : ℕ) : Type 0 where
  pub runs : has_ended h ≡ false
  pub known : has_log given p ≡ true
  pub flows : is_draining h ≡ false
  pub free : is_held h p ≡ false
  pub room : is_full h 1 ≡ false

pub may_assign : (given : Given) (h : List Event) (p : ℕ) → assign_refusal given h p ≡ None →
    MayAssign given h p
may_assign given h p none = elim (cases_Bool (has_ended h)) [
  | inl ended ↦ let out = rw ended at none in cc out
  | inr runs ↦ elim (cases_Bool (has_log given p)) [
    | inr unknown ↦ let out = rw (runs, unknown) at none in cc out
    | inl known ↦ elim (cases_Bool (is_draining h)) [
      | inl draining ↦ let out = rw (runs, known, draining) at none in cc out
      | inr flows ↦ elim (cases_Bool (is_held h p)) [
        | inl held ↦ let out = rw (runs, known, flows, held) at none in cc out
        | inr free ↦ elim (cases_Bool (is_full h 1)) [
          | inl full ↦ let out = rw (runs, known, flows, free, full) at none in cc out
          | inr room ↦ record {
            runs = runs;
            known = known;
            flows = flows;
            free = free;
            room =
                room;
          }
        ]
      ]
    ]
  ]
]

pub record MayCommit (given : Given) (h : List Event) (p : ℕ) : Type 0 where
  pub runs : has_ended h ≡ false
  pub known : has_log given p ≡ true
  pub held : is_held h p ≡ true
  pub room : is_full h 1 ≡ false

pub may_commit : (given : Given) (h : List Event) (p : ℕ) → commit_refusal given h p ≡ None →
    MayCommit given h p
may_commit given h p none = elim (cases_Bool (has_ended h)) [
  | inl ended ↦ let out = rw ended at none in cc out
  | inr runs ↦ elim (cases_Bool (has_log given p)) [
    | inr unknown ↦ let out = rw (runs, unknown) at none in cc out
    | inl known ↦ elim (cases_Bool (is_held h p)) [
      | inr free ↦ let out = rw (runs, known, free) at none in cc out
      | inl held ↦ elim (cases_Bool (is_full h 1)) [
        | inl full ↦ let out = rw (runs, known, held, full) at none in cc out
        | inr room ↦ record { runs = runs; known = known; held = held; room = room }
      ]
    ]
  ]
]

-- ---- what a refusal of a part with or without a log is

-- after an end all is refused
pub assign-closed : (r : Result (Unit {0}) EngineFault) (f : EngineFault) (given : Given) (h : List Event) (p : ℕ)
    → r ≡ Err f → f ≡ Closed → has_ended h ≡ true → r ≡ refused_by (assign_refusal given h p)
assign-closed r f given h p was is ended = rw ended (was ∙ ap (λ (x : EngineFault). Err x) is)

pub commit-closed : (r : Result (Unit {0}) EngineFault) (f : EngineFault) (given : Given) (h : List Event) (p : ℕ)
    → r ≡ Err f → f ≡ Closed → has_ended h ≡ true → r ≡ refused_by (commit_refusal given h p)
commit-closed r f given h p was is ended = rw ended (was ∙ ap (λ (x : EngineFault). Err x) is)

-- while it drains none is assigned
pub assign-draining : (r : Result (Unit {0}) EngineFault) (f : EngineFault) (given : Given) (h : List Event) (p : ℕ)
    → has_ended h ≡ false → has_log given p ≡ true → r ≡ Err f → f ≡ Draining
    → is_draining h ≡ true → r ≡ refused_by (assign_refusal given h p)
assign-draining r f given h p runs known was is drains = rw (runs, known, drains)
    (was ∙ ap (λ (x : EngineFault). Err x) is)

-- without a log the part is not known
pub assign-unknown : (r : Result (Unit {0}) EngineFault) (f : EngineFault) (given : Given) (h : List Event) (p : ℕ)
    → has_ended h ≡ false → r ≡ Err f → f ≡ UnknownPart → has_log given p ≡ false
    → r ≡ refused_by (assign_refusal given h p)
assign-unknown r f given h p runs was is unknown = rw (runs, unknown) (was ∙ ap (λ (x : EngineFault). Err x) is)

pub commit-unknown : (r : Result (Unit {0}) EngineFault) (f : EngineFault) (given : Given) (h : List Event) (p : ℕ)
    → has_ended h ≡ false → r ≡ Err f → f ≡ UnknownPart → has_log given p ≡ false
    → r ≡ refused_by (commit_refusal given h p)
commit-unknown r f given h p runs was is unknown = rw (runs, unknown) (was ∙ ap (λ (x : EngineFault). Err x) is)

-- of a held part an assignment is refused, and else only for want of room
pub assign-held : (given : Given) (h : List Event) (p : ℕ) → has_ended h ≡ false → is_draining h ≡ false
    → has_log given p ≡ true → true ≡ is_held h p
    → ◌≡◌ {A = Result (Unit {0}) EngineFault} (Err AlreadyHeld) (refused_by (assign_refusal given h p))
assign-held given h p runs flows known held = rw (runs, known, flows, ← held) refl

room-is : (b : Bool) → ◌≡◌ {A = Result (Unit {0}) EngineFault} (cond b (Err JournalFull) (Ok tt))
    (refused_by (cond b (Some JournalFull) None))
room-is true = refl
room-is false = refl

pub assign-room : (r : Result (Unit {0}) EngineFault) (given : Given) (h : List Event) (p : ℕ) → has_ended h ≡ false → is_draining h ≡ false
    → has_log given p ≡ true → false ≡ is_held h p
    → r ≡ cond (is_full h 1) (Err JournalFull) (Ok tt)
    → r ≡ refused_by (assign_refusal given h p)
assign-room r given h p runs flows known free was = rw (runs, known, flows, ← free) (was ∙ room-is (is_full h 1))

-- of a part that is not held a commit is refused, and else only for want of room
pub commit-free : (given : Given) (h : List Event) (p : ℕ) → has_ended h ≡ false
    → has_log given p ≡ true → false ≡ is_held h p
    → ◌≡◌ {A = Result (Unit {0}) EngineFault} (Err NotHeld) (refused_by (commit_refusal given h p))
commit-free given h p runs known free = rw (runs, known, ← free) refl

pub commit-room : (r : Result (Unit {0}) EngineFault) (given : Given) (h : List Event) (p : ℕ) → has_ended h ≡ false
    → has_log given p ≡ true → true ≡ is_held h p
    → r ≡ cond (is_full h 1) (Err JournalFull) (Ok tt)
    → r ≡ refused_by (commit_refusal given h p)
commit-room r given h p runs known held was = rw (runs, known, ← held) (was ∙ room-is (is_full h 1))

pub refused-none : (u : Unit {0}) (o : Option EngineFault) → ◌≡◌ {A = Result (Unit {0}) EngineFault}
    (Ok u) (refused_by o) → o ≡ None
refused-none u None e = refl
refused-none u (Some fault) e = cc

-- a refusal adds nothing, and neither does want of memory
does-refuses : (f : EngineFault) (h h' : List Event) → h' ≡ h
    → Does {A = Unit {0}} (Err f) (refuses f) h h'
does-refuses NoMemory h h' same = same
does-refuses f h h' same = (refl, same)

does-refuses_receipt : (f : EngineFault) (h h' : List Event) → h' ≡ h
    → Does {A = Receipt} (Err f) (refuses f) h h'
does-refuses_receipt NoMemory h h' same = same
does-refuses_receipt f h h' same = (refl, same)

not-ok : (f : EngineFault) → ◌≡◌ {A = Result (Unit {0}) EngineFault} (Err f) (Ok tt) → ⊥
not-ok f is = cc

fault-is : (f g : EngineFault) → ◌≡◌ {A = Result (Unit {0}) EngineFault} (Err f) (Err g) → f ≡ g
fault-is f g is = cc

does-refused : (o : Option EngineFault) (f : EngineFault) (given : Given) (h h' : List Event)
    (p : ℕ) (outcome : Result Commit ClientFault) → ◌≡◌ {A = Result (Unit {0}) EngineFault}
    (Err f) (refused_by o) → h' ≡ h
    → Does (Err f) (assign_after given h p outcome o) h h'
does-refused None f given h h' p outcome is same = absurd (not-ok f is)
does-refused (Some g) f given h h' p outcome is same =
    subst (λ (x : EngineFault). Does {A = Unit {0}} (Err f) (refuses x) h h') (fault-is f g is)
    (does-refuses f h h' same)

-- nothing is said where the client was not asked
fetched-none : (told : Bool) (b : Broker) (f f' p : ℕ) → IsFetched told b f f' p (Err client.NoMemory)
fetched-none told b f f' p = record { cause = λ is. cc; gives = λ told. tt }

stored-none : (told : Bool) (b b' : Broker) (f f' p : ℕ) (c : Commit) → b' ≡ b
    → IsStored told b b' f f' p c (Err client.NoMemory)
stored-none told b b' f f' p c same = record { cause = λ is. cc; gives = λ told. same }

-- an assignment that is refused before the link is asked
pub assign-refused : (r : Result (Unit {0}) EngineFault) (f : EngineFault) (given : Given)
    (h h' : List Event) (p : ℕ) (told : Bool) (b : Broker) (n n' : ℕ) → r ≡ Err f
    → ◌≡◌ {A = Result (Unit {0}) EngineFault} (Err f) (refused_by (assign_refusal given h p))
    → h' ≡ h
    → (outcome : Result Commit ClientFault)
    × IsFetched told b n n' p outcome × Does r (assign_step given h p outcome) h h'
assign-refused r f given h h' p told b n n' was is same = (
  Err client.NoMemory,
  fetched-none told b n n' p,
  subst (λ (x : Result (Unit {0}) EngineFault). Does x (assign_step given h p (Err client.NoMemory)) h h') (sym was)
      (does-refused (assign_refusal given h p) f given h h' p (Err client.NoMemory) is same),
)

-- an assignment for which there was no memory
pub assign-unmade : (r : Result (Unit {0}) EngineFault) (given : Given)
    (h h' : List Event) (p : ℕ) (told : Bool) (b : Broker) (n n' : ℕ) → r ≡ Err NoMemory → h' ≡ h
    → (outcome : Result Commit ClientFault)
    × IsFetched told b n n' p outcome × Does r (assign_step given h p outcome) h h'
assign-unmade r given h h' p told b n n' was same = (
  Err client.NoMemory,
  fetched-none told b n n' p,
  subst (λ (x : Result (Unit {0}) EngineFault). Does x (assign_step given h p (Err client.NoMemory)) h h') (sym was) same,
)

-- an assignment whose fetch failed
assign-unfetched : (r : Result (Unit {0}) EngineFault) (f : ClientFault) (given : Given)
    (h h' : List Event) (p : ℕ) (told : Bool) (b : Broker) (n n' : ℕ) → r ≡ Err (engine_fault_of f)
    → assign_refusal given h p ≡ None → IsFetched told b n n' p (Err f) → h' ≡ h
    → (outcome : Result Commit ClientFault)
    × IsFetched told b n n' p outcome × Does r (assign_step given h p outcome) h h'
assign-unfetched r f given h h' p told b n n' was none gives same = (
  Err f,
  gives,
  subst (λ (x : Result (Unit {0}) EngineFault). Does x (assign_step given h p (Err f)) h h') (sym was)
      (rw none (does-refuses (engine_fault_of f) h h' same)),
)

-- an assignment whose map does not read
assign-misread : (r : Result (Unit {0}) EngineFault) (f : EngineFault) (given : Given)
    (h h' : List Event) (p : ℕ) (told : Bool) (b : Broker) (n n' : ℕ) (stored : Commit) (rule : BadMapRule)
    → r ≡ Err f → assign_refusal given h p ≡ None → IsFetched told b n n' p (Ok stored)
    → rule ≡ given.setup.settings.bad_map
    → (f ≡ NoMemory) ⊎ ((m : MapFault) × (f ≡ BadMap m) × (map_refusal rule stored ≡ Some m))
    → h' ≡ h
    → (outcome : Result Commit ClientFault)
    × IsFetched told b n n' p outcome × Does r (assign_step given h p outcome) h h'
assign-misread r f given h h' p told b n n' stored rule was none gives same_rule (inl is) same =
    assign-unmade r given h h' p told b n n' (was ∙ ap (λ (x : EngineFault). Err x) is) same
assign-misread r f given h h' p told b n n' stored rule was none gives same_rule (inr bad) same = (
  Ok stored,
  gives,
  subst (λ (x : Result (Unit {0}) EngineFault). Does x (assign_step given h p (Ok stored)) h h')
      (sym (was ∙ ap (λ (x : EngineFault). Err x) bad.1))
      (rw (none, ← same_rule, bad.2) (refl, same)),
)

-- the effect of an assignment that nothing refuses
pub assign-does : (setup : Setup) (logs : List (Option (List Record))) (h : List Event) (told : Bool) (outcomes : Outcomes) (kept : ℕ → Commit)
    (p epoch : ℕ) (stored : Commit) (h' : List Event)
    → assign_refusal (given_by setup logs h told outcomes kept) h p ≡ None → map_refusal setup.settings.bad_map stored
    ≡ None → epoch ≡ epoch_of h p
    → h' ≡ Assign p (epoch + 1) stored.position stored.map ∷ h
    → Does {A = Unit {0}} (Ok tt)
    (assign_step (given_by setup logs h told outcomes kept) h p (Ok stored)) h h'
assign-does setup logs h told outcomes kept p epoch stored h' none reads is after =
    rw (none, reads) (
      refl,
      after ∙ ap (λ (e : ℕ). Assign p (e + 1) stored.position stored.map ∷ h) is,
    )

-- ---- the entries that may be stored

pub In-entry : (cs : List Commit) (c : Commit) → In c cs → is_entry cs c ≡ true
In-entry [] c i = absurd i
In-entry (d ∷ cs) c (inl same) = rw
    (← same, same_number c.position, (bytes_eq-Decides c.map c.map).1 refl) refl
In-entry (d ∷ cs) c (inr i) = or-right (same_commit c d) (is_entry cs c) (In-entry cs c i)

-- ---- a commit that was stored or failed, as its calls tell it

pub stored-other : (b : Bool) (c : Commit) (cs : List Commit) → b ≡ false → stored_after
    (cond b (Some c) None) None cs ≡ cs
stored-other b c cs is = rw is refl

pub failed-other : (b : Bool) (c : Commit) (cs : List Commit) → b ≡ false → stored_after None
    (cond b (Some c) None) cs ≡ cs
failed-other b c cs is = rw is refl

-- the part has this commit now, and each other part the one that it had
pub record KeepsAt (before after : ℕ → Commit) (part : ℕ) (commit : Commit) : Type 0 where
  pub changed : after part ≡ commit
  pub others : (q : ℕ) → (q ≡ part → ⊥) → after q ≡ before q

-- the part has this commit now or the one that it had, and each other part the one that it had
abbrev pub MayKeepAt : (ℕ → Commit) → (ℕ → Commit) → ℕ → Commit → Type 0
MayKeepAt before after part commit = ((q : ℕ) → after q ≡ before q) ⊎ KeepsAt before after part commit

pub keeps-others : (kept kept' : ℕ → Commit) (p : ℕ) (c : Commit) → MayKeepAt kept kept' p c → (q : ℕ) →
    (q ≡ p → ⊥) → kept' q ≡ kept q
keeps-others kept kept' p c (inl all) q other = all q
keeps-others kept kept' p c (inr at) q other = at.others q other

apart-eqb : (a b : ℕ) → (a ≡ b → ⊥) → (a == b) ≡ false
apart-eqb a b other = elim (cases_Bool (a == b)) [
  | inl same ↦ absurd (other (eqb-true a b same))
  | inr apart ↦ apart
]

-- an accepted commit is the one that is kept for its part
pub kept_for-accepts : (b b' : Broker) (p : ℕ) (c : Commit) → Accepts b b' p c
    → KeepsAt (kept_for b) (kept_for b') p c
kept_for-accepts b b' p c accepts = rw accepts.stored (record {
  changed = rw (stored_for-with_stored b GROUP p c GROUP p, same_number p) refl;
  others = λ q other. let apart : (p == q) ≡ false = apart-eqb p q (λ (e : p ≡ q). other (sym e)) in
      rw (stored_for-with_stored b GROUP p c GROUP q, apart) refl;
})

other-test : (a : Bool) (may : ℕ → Bool) (p q : ℕ) → may p ≡ true → (a && may q) ≡ false
    → (a && (p == q)) ≡ false
other-test false known p q is out = refl
other-test true known p q is out = apart-eqb p q
    (λ (e : p ≡ q). true-not-false (known q) (ap known (sym e) ∙ is) out)

-- the store changed for that part alone
pub stores_only-accepts : (may : ℕ → Bool) (b b' : Broker) (p : ℕ) (c : Commit) → may p ≡ true
    → Accepts b b' p c → StoresOnly may b b'
stores_only-accepts known b b' p c is accepts = rw accepts.stored (record {
  topic = refl;
  parts = refl;
  memberships = refl;
  others = λ group q out. rw (stored_for-with_stored b GROUP p c group q, other-test (bytes_eq GROUP group) known p q is out) refl;
})

pub stores_only-same : (may : ℕ → Bool) (b b' : Broker) → b' ≡ b → StoresOnly may b b'
stores_only-same known b b' same = rw same (record {
  topic = refl;
  parts = refl;
  memberships = refl;
  others = λ group q out. refl;
})

-- what may be stored after a commit that failed
pub may_keep-failed : (b b' : Broker) (p : ℕ) (c : Commit) (f : ClientFault)
    → CommitGives b b' p c (Err f) → MayKeepAt (kept_for b) (kept_for b') p c
may_keep-failed b b' p c client.LinkFailed (inl same) = inl (λ (q : ℕ). ap (λ (x : Broker). kept_for x q) same)
may_keep-failed b b' p c client.LinkFailed (inr accepts) = inr (kept_for-accepts b b' p c accepts)
may_keep-failed b b' p c (client.Refused code) refuses = inl (λ (q : ℕ). ap (λ (x : Broker). kept_for x q) refuses.same)
may_keep-failed b b' p c client.NoMemory same = inl (λ (q : ℕ). ap (λ (x : Broker). kept_for x q) same)
may_keep-failed b b' p c (client.BadReply fault) gives = absurd gives
may_keep-failed b b' p c (client.OtherReply asked got) gives = absurd gives

-- a commit by a history that is this one
sized-along : (setup : Setup) (logs : List (Option (List Record))) (h k : List Event) (told : Bool)
    (outcomes : Outcomes) (kept : ℕ → Commit) (p : ℕ) (sized : SizedCommit) → k ≡ h
    → sized ≡ commit_of (given_by setup logs k told outcomes kept) k p
    → sized ≡ commit_of (given_by setup logs h told outcomes kept) h p
sized-along setup logs h k told outcomes kept p sized same is =
    subst (λ (x : List Event). sized ≡ commit_of (given_by setup logs x told outcomes kept) x p) same is

-- a map within the limit of a setup is within that of a message
pub small-map : (setup : Setup) (n : ℕ) → n ≤ setup.settings.map_limit → n < 2 ^ 15
small-map setup n le = let limit : setup.settings.map_limit ≤ 4096 = (setup-within setup).map_limit.most in
    omega arith

-- ---- what is said of a commit

pub same-failure : (f g : ClientFault) → ◌≡◌ {A = Result Receipt EngineFault} (Err (Client f)) (Err (Client g))
    → ◌≡◌ {A = Result (Unit {0}) ClientFault} (Err f) (Err g)
same-failure f g is = cc

refused-not : (o : Option EngineFault) (f : EngineFault) → o ≡ None → o ≡ Some f → ⊥
refused-not o f none some = cc

does-refused_commit : (o : Option EngineFault) (f : EngineFault) (given : Given) (h h' : List Event)
    (p : ℕ) (outcome : Result (Unit {0}) ClientFault) → ◌≡◌ {A = Result (Unit {0}) EngineFault}
    (Err f) (refused_by o) → h' ≡ h
    → Does {A = Receipt} (Err f) (commit_after given h p outcome o) h h'
does-refused_commit None f given h h' p outcome is same = absurd (not-ok f is)
does-refused_commit (Some g) f given h h' p outcome is same =
    subst (λ (x : EngineFault). Does {A = Receipt} (Err f) (refuses x) h h') (fault-is f g is)
    (does-refuses_receipt f h h' same)

-- a commit that is refused before the link is asked
pub commit-refused : (r : Result Receipt EngineFault) (f : EngineFault) (given : Given)
    (h h' : List Event) (p : ℕ) (told : Bool) (b b' : Broker) (n n' : ℕ) → r ≡ Err f
    → ◌≡◌ {A = Result (Unit {0}) EngineFault} (Err f) (refused_by (commit_refusal given h p))
    → b' ≡ b → h' ≡ h
    → (outcome : Result (Unit {0}) ClientFault)
    × IsStored told b b' n n' p (commit_of given h p).commit outcome
    × Does r (commit_step given h p outcome) h h'
commit-refused r f given h h' p told b b' n n' was is stays same = (
  Err client.NoMemory,
  stored-none told b b' n n' p _ stays,
  subst (λ (x : Result Receipt EngineFault). Does x (commit_step given h p (Err client.NoMemory)) h h') (sym was)
      (does-refused_commit (commit_refusal given h p) f given h h' p (Err client.NoMemory) is same),
)

-- a commit for which there was no memory
pub commit-unmade : (r : Result Receipt EngineFault) (given : Given)
    (h h' : List Event) (p : ℕ) (told : Bool) (b b' : Broker) (n n' : ℕ) → r ≡ Err NoMemory → b' ≡ b → h' ≡ h
    → (outcome : Result (Unit {0}) ClientFault)
    × IsStored told b b' n n' p (commit_of given h p).commit outcome
    × Does r (commit_step given h p outcome) h h'
commit-unmade r given h h' p told b b' n n' was stays same = (
  Err client.NoMemory,
  stored-none told b b' n n' p _ stays,
  subst (λ (x : Result Receipt EngineFault). Does x (commit_step given h p (Err client.NoMemory)) h h') (sym was) same,
)

-- what a broker stores after a commit failed
pub stores_only-failed : (may : ℕ → Bool) (b b' : Broker) (p : ℕ) (c : Commit) (f : ClientFault)
    → may p ≡ true → CommitGives b b' p c (Err f) → StoresOnly may b b'
stores_only-failed known b b' p c client.LinkFailed is (inl same) = stores_only-same known b b' same
stores_only-failed known b b' p c client.LinkFailed is (inr accepts) = stores_only-accepts known b b' p c is accepts
stores_only-failed known b b' p c (client.Refused code) is refuses = stores_only-same known b b' refuses.same
stores_only-failed known b b' p c client.NoMemory is same = stores_only-same known b b' same
stores_only-failed known b b' p c (client.BadReply fault) is gives = absurd gives
stores_only-failed known b b' p c (client.OtherReply asked got) is gives = absurd gives
