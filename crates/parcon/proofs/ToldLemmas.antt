-- A play over files and a link that tell what they hold, where nothing fails, is decided by its
-- inputs.
use Rattle.std.proofs.Common.{◌≡◌, ◌⊎◌, ◌≤◌, ◌+◌, inl, inr, ℕ, ◌-◌, Bool, true, false, ◌&&◌, cond, List, [], ◌∷◌, map, length, Option, Some, None, Result, Ok, Err, refl, ap, sym, subst, ◌∙◌, arith, true≢false}
use Rattle.std.specs.Prelude.{take, IfOk, ℤ, bytes_eq, is_none, nat_lt, not, ok_or, unwrap_or, pos, negsuc, if◌then◌else◌, ◌^◌}
use Rattle.std.specs.List.{AllByRecursion}
use Rattle.std.specs.Ordering.{int_eq}
use Rattle.std.proofs.lemmas.Bool.{cases_Bool, lt-ltb, ltb-true}
use Rattle.std.proofs.lemmas.Bool.Decides.{Decides-int_eq}
use Rattle.std.proofs.lemmas.Slice.Eq.{bytes_eq-Decides}
use Rattle.pc_model.specs.declared.commit.Commit.{Commit as StoredCommit}
use Rattle.pc_model.specs.declared.event.Event.{Event}
use Rattle.pc_model.specs.declared.api.TheConstants.{NO_ERROR, OFFSET_METADATA_TOO_LARGE, UNKNOWN_TOPIC_OR_PARTITION}
use Rattle.pc_model.specs.declared.limits.TheConstants.{MAX_METADATA_BYTES}
use Rattle.pc_model.specs.Record.{Record}
use Rattle.pc_model.specs.Broker.{Broker, Membership, has_part, membership_refusal, place_code}
use Rattle.pc_model.specs.Given.{Given, no_commit}
use Rattle.pc_model.specs.Known.{commit_of}
use Rattle.pc_world.specs.World.{HasRisen}
use Rattle.pc_offset_client.specs.declared.fault.ClientFault.{ClientFault}
use Rattle.pc_offset_client.specs.declared.fault.ClientFault.TheVariants as client
use Rattle.pc_offset_client.specs.Client.{CommitGives, FetchGives, TOPIC, commit_code, item_of, kept_for, with_commit}
use Rattle.pc_script.specs.declared.play.PlayAct.{PlayAct}
use Rattle.pc_script.specs.declared.play.PlayAct.TheVariants.{Assign, Commit, Revoke}
use Rattle.pc_script.specs.declared.play.PlayLine.{PlayLine}
use Rattle.pc_task.specs.Jobs.{PlainJob}
use Rattle.pc_engine.specs.declared.fault.EngineFault.{EngineFault}
use Rattle.pc_engine.specs.Effect.{assign_after, assign_refusal, commit_after, commit_refusal, revoke_after, revoke_refusal}
use Rattle.pc_inputs.specs.declared.status.Status.{Status}
use Rattle.pc_inputs.specs.declared.status.Status.TheVariants as status
use Rattle.pc_inputs.specs.Command.{Command, CommandFiles, command_of, files_in, files_of}
use Rattle.pc_inputs.specs.Command.Command.{Bulk as BulkOf, Play as PlayOf, Run as RunOf}
use Rattle.pc_inputs.specs.Reading.{◌>>=◌, AreAnswers, FileRead, IsAnswer, IsConfigAnswer, command_answered, ReadAnswer, Reads}
use Rattle.pc_inputs.specs.Reading.ReadAnswer.{Bytes, Failed, TooLong}
use Rattle.pc_inputs.specs.Plan.{Planned, logs_read, plan_behind, plan_to_play}
use Rattle.parcon.specs.Starts.{SendsStart, SendsStarts, Sent, commit_at}
use Rattle.pc_model.specs.declared.outcome.Start.{Start}
use Rattle.pc_model.specs.declared.setup.Setup.{Setup}
use Rattle.pc_play.specs.Play.{Asked, Asks, Entry, Fetches, LineStep, Moment, Play, PlaysTo, Stores, Trace, Unless, after_line, after_step, call_notice, done_by, start, step_of}
use Rattle.parcon.specs.Ending.{lines_in, output_of, wanted_status}
use Rattle.parcon.specs.Written.{with_bytes}
use Rattle.parcon.specs.Promise.{CarriesOut, Ends, FilesSeen, IsCall, IsCarriedOut, Outside, given_of, lines_after, link_at, starts_in, with_link}
use Rattle.parcon.specs.Told.{AreTold, EndsAlike, IsFaultless, IsTold, IsToldCall, IsToldPlay, Serves, end_told, lines_told, told_logs, told_plan, told_starts, ToldPlay, answer_told, asks_link, failure_count, fetched_from, has_failed, is_accepted, store_told, store_unless, store_with, stored_by, told_answer, told_config, IsConfigTold, told_play, told_reads}
use Rattle.pc_inputs.proofs.ReadingLemmas.{risen-earlier, risen-later}
use Rattle.parcon.proofs.SetupLemmas.{same-settings}

cond-true : {A : Type 0} (b : Bool) (x y : A) → b ≡ true → cond b x y ≡ x
cond-true b x y is = rw is refl

cond-false : {A : Type 0} (b : Bool) (x y : A) → b ≡ false → cond b x y ≡ y
cond-false b x y is = rw is refl

-- ---- what the broker answers

fetched-is : (b : Broker) (p : ℕ) (asked : Asked) → FetchGives b p asked
    → (asked ≡ Err client.LinkFailed → ⊥) → (asked ≡ Err client.NoMemory → ⊥)
    → asked ≡ fetched_from b p
fetched-is b p (Ok c) gives failed forgot =
    ap (λ (x : StoredCommit). Ok x) gives.1
    ∙ sym (cond-true (has_part b TOPIC (pos p)) _ _ gives.0)
fetched-is b p (Err (client.Refused code)) gives failed forgot =
    ap (λ (x : ℤ). Err (client.Refused x)) gives.1
    ∙ sym (cond-false (has_part b TOPIC (pos p)) _ _ gives.0)
fetched-is b p (Err client.LinkFailed) gives failed forgot = absurd (failed refl)
fetched-is b p (Err client.NoMemory) gives failed forgot = absurd (forgot refl)
fetched-is b p (Err (client.BadReply fault)) gives failed forgot = absurd gives
fetched-is b p (Err (client.OtherReply asked got)) gives failed forgot = absurd gives

not-equal : (a b : ℤ) → (a ≡ b → ⊥) → int_eq a b ≡ false
not-equal a b other = elim (cases_Bool (int_eq a b)) [
  | inl same ↦ absurd (other ((Decides-int_eq a b).0 same))
  | inr differ ↦ differ
]

stored-is : (b b' : Broker) (p : ℕ) (c : StoredCommit) (asked : Asked)
    → CommitGives b b' p c (done_by asked) → (asked ≡ Err client.LinkFailed → ⊥)
    → (asked ≡ Err client.NoMemory → ⊥)
    → (done_by asked ≡ done_by (stored_by b p c)) × (b' ≡ store_with b p c)
stored-is b b' p c (Ok x) gives failed forgot =
    let is : is_accepted b p c ≡ true = (Decides-int_eq (commit_code b p c) NO_ERROR).1 gives.code
    in (
      ap done_by (sym (cond-true (is_accepted b p c) _ _ is)),
      gives.stored ∙ sym (cond-true (is_accepted b p c) _ _ is),
    )
stored-is b b' p c (Err (client.Refused code)) gives failed forgot =
    let is : is_accepted b p c ≡ false = not-equal (commit_code b p c) NO_ERROR
    (λ (e : commit_code b p c ≡ NO_ERROR). gives.other (gives.is ∙ e)) in (
      ap (λ (x : ℤ). Err (client.Refused x)) gives.is
          ∙ ap done_by (sym (cond-false (is_accepted b p c) _ _ is)),
      gives.same ∙ sym (cond-false (is_accepted b p c) _ _ is),
    )
stored-is b b' p c (Err client.LinkFailed) gives failed forgot = absurd (failed refl)
stored-is b b' p c (Err client.NoMemory) gives failed forgot = absurd (forgot refl)
stored-is b b' p c (Err (client.BadReply fault)) gives failed forgot = absurd gives
stored-is b b' p c (Err (client.OtherReply asked got)) gives failed forgot = absurd gives

-- a broker that serves the part
served : (b : Broker) (p : ℕ) → Serves b p → has_part b TOPIC (pos p) ≡ true
served b p serves =
    ap (λ (t : List ℕ). bytes_eq TOPIC t && nat_lt p b.parts) serves.topic
    ∙ ap (λ (x : Bool). bytes_eq TOPIC TOPIC && x) (lt-ltb p b.parts serves.part)
    ∙ ap (λ (x : Bool). x && true) ((bytes_eq-Decides TOPIC TOPIC).1 refl)

pub served-fetch : (b : Broker) (p : ℕ) → Serves b p → fetched_from b p ≡ Ok (kept_for b p)
served-fetch b p serves = cond-true (has_part b TOPIC (pos p)) _ _ (served b p serves)

not-too-long : (n : ℕ) → n ≤ MAX_METADATA_BYTES → nat_lt MAX_METADATA_BYTES n ≡ false
not-too-long n short = elim (cases_Bool (nat_lt MAX_METADATA_BYTES n)) [
  | inl long ↦ let more = ltb-true MAX_METADATA_BYTES n long in absurd (omega (arith, short, more))
  | inr fits ↦ fits
]

pub served-commit : (b : Broker) (p : ℕ) (c : StoredCommit) → Serves b p
    → length c.map ≤ MAX_METADATA_BYTES
    → (stored_by b p c ≡ Ok no_commit) × (store_with b p c ≡ with_commit b p c)
served-commit b p c serves short =
    let code : commit_code b p c ≡ NO_ERROR =
    ap (λ (m : Option Membership). unwrap_or (membership_refusal m [] (negsuc 0))
    (place_code b TOPIC (item_of p c))) serves.members
    ∙ ap (λ (x : Bool). if not x then UNKNOWN_TOPIC_OR_PARTITION
    else if nat_lt MAX_METADATA_BYTES (length c.map) then OFFSET_METADATA_TOO_LARGE else NO_ERROR)
    (served b p serves)
    ∙ ap (λ (x : Bool). if x then OFFSET_METADATA_TOO_LARGE else NO_ERROR)
    (not-too-long (length c.map) short) in
    let is : is_accepted b p c ≡ true = (Decides-int_eq (commit_code b p c) NO_ERROR).1 code in
    (cond-true (is_accepted b p c) _ _ is, cond-true (is_accepted b p c) _ _ is)

-- ---- one line

fetches-told : {A : Type 0} (x : Option EngineFault) (step : Option EngineFault → Asked → A) (p : ℕ)
    (m : Moment) (e : Entry) → ((fault : EngineFault) (a b : Asked)
    → step (Some fault) a ≡ step (Some fault) b)
    → Unless x (Fetches true p m e) m e.after → (HasRisen m.faults e.after.faults → ⊥)
    → (step x e.asked ≡ step x (fetched_from m.store p)) × (e.after.store ≡ m.store)
fetches-told (Some fault) step p m e same stays calm =
    (same fault _ _, ap (λ (n : Moment). n.store) stays)
fetches-told None step p m e same asks calm = (
  ap (step None) (fetched-is m.store p e.asked (asks.fetched.gives refl)
      (λ (is : e.asked ≡ Err client.LinkFailed). calm (asks.fetched.cause is)) asks.answered),
  asks.keeps refl,
)

stores-told : {A : Type 0} (x : Option EngineFault)
    (step : Option EngineFault → Result (Unit {0}) ClientFault → A) (p : ℕ) (c : StoredCommit)
    (m : Moment) (e : Entry) → ((fault : EngineFault) (a b : Result (Unit {0}) ClientFault)
    → step (Some fault) a ≡ step (Some fault) b)
    → Unless x (Stores true p c m e) m e.after → (HasRisen m.faults e.after.faults → ⊥)
    → (step x (done_by e.asked) ≡ step x (done_by (stored_by m.store p c)))
    × (e.after.store ≡ store_unless x m.store (store_with m.store p c))
stores-told (Some fault) step p c m e same stays calm =
    (same fault _ _, ap (λ (n : Moment). n.store) stays)
stores-told None step p c m e same asks calm =
    let is = stored-is m.store e.after.store p c e.asked (asks.stored.gives refl)
    (λ (is : e.asked ≡ Err client.LinkFailed). calm (asks.stored.cause (ap done_by is)))
    asks.answered in
    (ap (step None) is.0, is.1)

-- what a line comes to, and what the broker stores after it
line-told : (given : Given) (h : List Event) (hand : List PlainJob) (act : PlayAct) (m : Moment)
    (e : Entry) → Asks true given h act m e → (HasRisen m.faults e.after.faults → ⊥)
    → (step_of given h hand act e.asked
    ≡ step_of given h hand act (answer_told given h act m.store))
    × (e.after.store ≡ store_told given h act m.store)
line-told given h hand (Assign p) m e asks calm =
    fetches-told (assign_refusal given h p)
    (λ x a. let step = assign_after given h p a x in
    record { events = step.events; hand = hand; notice = call_notice step.answer }) p m e
    (λ fault a b. refl) asks calm
line-told given h hand (Commit p) m e asks calm =
    stores-told (commit_refusal given h p)
    (λ x a. let step = commit_after given h p a x in
    record { events = step.events; hand = hand; notice = call_notice step.answer }) p
    (commit_of given h p).commit m e (λ fault a b. refl) asks calm
line-told given h hand (Revoke p) m e asks calm =
    stores-told (revoke_refusal given h p)
    (λ x a. let step = revoke_after given h p a x in
    record { events = step.events; hand = hand; notice = call_notice step.answer }) p
    (commit_of given h p).commit m e (λ fault a b. refl) asks calm
line-told given h hand act m e asks calm = (refl, ap (λ (n : Moment). n.store) asks)

-- ---- the counts

unless-later : (x : Option EngineFault) (A : Type 0) (m n : Moment) → (A → m.faults ≤ n.faults)
    → Unless x A m n → m.faults ≤ n.faults
unless-later (Some fault) A m n later same =
    subst (λ (k : Moment). m.faults ≤ k.faults) (sym same) (omega arith)
unless-later None A m n later asks = later asks

asks-later : (told : Bool) (given : Given) (h : List Event) (act : PlayAct) (m : Moment) (e : Entry)
    → Asks told given h act m e → m.faults ≤ e.after.faults
asks-later told given h (Assign p) m e asks =
    unless-later (assign_refusal given h p) (Fetches told p m e) m e.after (λ a. a.later) asks
asks-later told given h (Commit p) m e asks =
    unless-later (commit_refusal given h p) (Stores told p (commit_of given h p).commit m e) m
    e.after (λ a. a.later) asks
asks-later told given h (Revoke p) m e asks =
    unless-later (revoke_refusal given h p) (Stores told p (commit_of given h p).commit m e) m
    e.after (λ a. a.later) asks
asks-later told given h act m e asks =
    subst (λ (k : Moment). m.faults ≤ k.faults) (sym asks) (omega arith)

trace-later : (told : Bool) (given : Given) (s t : Play) (m n : Moment) (lines : List PlayLine)
    (entries : List Entry) → Trace told given s m lines entries t n → m.faults ≤ n.faults
unfolding Trace
trace-later told given s t m n [] [] trace =
    subst (λ (k : Moment). m.faults ≤ k.faults) trace.1 (omega arith)
trace-later told given s t m n [] (e ∷ entries) trace = absurd trace
trace-later told given s t m n (line ∷ lines) [] trace = absurd trace
trace-later told given s t m n (line ∷ lines) (e ∷ entries) trace =
    let first = asks-later told given s.history line.act m e trace.0 in
    let rest = trace-later told given (after_line given s line e.asked) t e.after n lines entries
    trace.1 in
    omega (arith, first, rest)

-- ---- all lines

trace-told : (given : Given) (s t : Play) (m n : Moment) (lines : List PlayLine)
    (entries : List Entry) → Trace true given s m lines entries t n
    → (HasRisen m.faults n.faults → ⊥)
    → told_play given s m.store lines ≡ record { play = t; store = n.store }
unfolding Trace told_play
trace-told given s t m n [] [] trace calm =
    ap (λ (p : Play). record { play = p; store = m.store }) trace.0
    ∙ ap (λ (k : Moment). record { play = t; store = k.store }) trace.1
trace-told given s t m n [] (e ∷ entries) trace calm = absurd trace
trace-told given s t m n (line ∷ lines) [] trace calm = absurd trace
trace-told given s t m n (line ∷ lines) (e ∷ entries) trace calm =
    let first = asks-later true given s.history line.act m e trace.0 in
    let rest = trace-later true given (after_line given s line e.asked) t e.after n lines entries
    trace.1 in
    let is = line-told given s.history s.hand line.act m e trace.0
    (λ rose. calm (risen-later m.faults e.after.faults n.faults first rest rose)) in
    ap (λ (step : LineStep). told_play given (after_step s line.line step)
    (store_told given s.history line.act m.store) lines) (sym is.0)
    ∙ ap (λ (b : Broker). told_play given (after_line given s line e.asked) b lines) (sym is.1)
    ∙ trace-told given (after_line given s line e.asked) t e.after n lines entries trace.1
    (λ rose. calm (risen-earlier m.faults e.after.faults n.faults first rose))

-- ---- the files

answer-told : (told : Option (List ℕ)) (a b : ℕ) (x : ReadAnswer) → IsTold told
    → IsAnswer told a b x → (HasRisen a b → ⊥) → x ≡ told_answer told
answer-told None a b x tells is calm = absurd (true≢false tells)
answer-told (Some contents) a b (Bytes bytes) tells is calm =
    let same : bytes ≡ contents = is.1 contents refl in
    let short : length contents ≤ 268_435_456 =
    subst (λ (l : List ℕ). length l ≤ 268_435_456) same is.0 in
    ap (λ (l : List ℕ). Bytes l) same
    ∙ sym (cond-false (nat_lt 268_435_456 (length contents)) TooLong (Bytes contents)
    (not-longer (length contents) short))
  where
    not-longer : (n : ℕ) → n ≤ 268_435_456 → nat_lt 268_435_456 n ≡ false
    not-longer n short = elim (cases_Bool (nat_lt 268_435_456 n)) [
      | inl long ↦ let more = ltb-true 268_435_456 n long in absurd (omega (arith, short, more))
      | inr fits ↦ fits
    ]
answer-told (Some contents) a b Failed tells is calm = absurd (calm is)
answer-told (Some contents) a b TooLong tells is calm =
    sym (cond-true (nat_lt 268_435_456 (length contents)) TooLong (Bytes contents)
    (lt-ltb 268_435_456 (length contents) (is contents refl)))

logs-told : (contents : List ℕ → Option (List ℕ)) (f f' : List ℕ → ℕ) (names : List (List ℕ))
    (reads : List FileRead) → map (λ r. r.name) reads ≡ names
    → AllByRecursion (λ r. IsAnswer (contents r.name) (f r.name) (f' r.name) r.answer) reads
    → AllByRecursion (λ name. IsTold (contents name)) names
    → ((name : List ℕ) → HasRisen (f name) (f' name) → ⊥)
    → reads ≡ map (λ name. record { name = name; answer = told_answer (contents name) }) names
logs-told contents f f' names reads named each told calm =
    told-names reads each
    (subst (λ (ns : List (List ℕ)). AllByRecursion (λ name. IsTold (contents name)) ns)
    (sym named) told)
    ∙ ap (map (λ name. record { name = name; answer = told_answer (contents name) })) named
  where
    told-names : (rs : List FileRead)
        → AllByRecursion (λ r. IsAnswer (contents r.name) (f r.name) (f' r.name) r.answer) rs
        → AllByRecursion (λ name. IsTold (contents name)) (map (λ r. r.name) rs)
        → rs ≡ map (λ name. record { name = name; answer = told_answer (contents name) })
        (map (λ r. r.name) rs)
    told-names [] all tells = refl
    told-names (r ∷ rs) all tells =
        ap (λ (x : ReadAnswer). record { name = r.name; answer = x } ∷ rs)
        (answer-told (contents r.name) (f r.name) (f' r.name) r.answer tells.0 all.0 (calm r.name))
        ∙ ap (λ (l : List FileRead).
        record { name = r.name; answer = told_answer (contents r.name) } ∷ l)
        (told-names rs all.1 tells.1)

config-told : (contents : List ℕ → Option (List ℕ)) (f f' : List ℕ → ℕ)
    (name : Option (List ℕ)) (x : ReadAnswer) → IsConfigAnswer name contents f f' x
    → IsConfigTold name contents → ((name : List ℕ) → HasRisen (f name) (f' name) → ⊥)
    → x ≡ told_config name contents
config-told contents f f' None x is tells calm = is
config-told contents f f' (Some name) x is tells calm =
    answer-told (contents name) (f name) (f' name) x tells is (calm name)

-- what words say of the plan of reads
abbrev plan_by : Option Command → Reads → Result Planned Status
plan_by o reads = ok_or o status.Usage >>= (λ command. command_answered command reads)
    >>= plan_behind

-- the reads of the files that words name, where these are told
record AreToldReads (words : List (List ℕ)) (contents : List ℕ → Option (List ℕ)) (reads : Reads)
    : Type 0 where
  logs : logs_read reads.logs ≡ logs_read (told_reads words contents).logs
  plan : plan_to_play words reads ≡ plan_to_play words (told_reads words contents)

reads-told : (words : List (List ℕ)) (contents : List ℕ → Option (List ℕ)) (f f' : List ℕ → ℕ)
    (reads : Reads) → AreAnswers (files_of words) contents f f' reads
    → AreTold (command_of words) contents
    → ((name : List ℕ) → HasRisen (f name) (f' name) → ⊥) → AreToldReads words contents reads
reads-told words contents f f' reads are told calm =
    by (command_of words) refl told
  where
    -- words that name no file
    unnamed : (o : Option Command) → command_of words ≡ o → (files_in o).logs ≡ []
        → plan_by o reads ≡ plan_by o (told_reads words contents)
        → AreToldReads words contents reads
    unnamed o is no_files same =
        let no_logs : (files_of words).logs ≡ [] =
        ap (λ (o : Option Command). (files_in o).logs) is ∙ no_files in
        let none = logs-told contents f f' [] reads.logs (are.logs.named ∙ no_logs) are.logs.each tt
        calm in
        record {
          logs = ap logs_read (none ∙ sym (ap (map (λ name. record {
            name = name;
            answer = told_answer (contents name);
          })) no_logs));
          plan = ap (λ (o : Option Command). plan_by o reads) is ∙ same
              ∙ sym (ap (λ (o : Option Command). plan_by o (told_reads words contents)) is);
        }

    by : (o : Option Command) → command_of words ≡ o → AreTold o contents
        → AreToldReads words contents reads
    by None is tells = unnamed None is refl refl
    by (Some (RunOf files summary)) is tells = unnamed (Some (RunOf files summary)) is refl refl
    by (Some (BulkOf seed records workers)) is tells =
        unnamed (Some (BulkOf seed records workers)) is refl refl
    by (Some (PlayOf files)) is tells =
        let named : files_of words ≡ files = ap files_in is in
        let config = config-told contents f f' (files_of words).config reads.config are.config
        (subst (λ (x : CommandFiles). IsConfigTold x.config contents) (sym named) tells.0) calm in
        let all : AllByRecursion (λ name. IsTold (contents name)) (files_of words).logs =
        subst (λ (x : CommandFiles). AllByRecursion (λ name. IsTold (contents name)) x.logs)
        (sym named) tells.1 in
        let last : IsTold (contents (files_of words).script) =
        subst (λ (x : CommandFiles). IsTold (contents x.script)) (sym named) tells.2 in
        let logs = logs-told contents f f' (files_of words).logs reads.logs are.logs.named
        are.logs.each all calm in
        let script = answer-told (contents (files_of words).script) (f (files_of words).script)
        (f' (files_of words).script) reads.script last are.script (calm (files_of words).script) in
        let told_all : Reads = told_reads words contents in
        let same : reads ≡ told_all =
        ap (λ (x : ReadAnswer). record { config = x; logs = reads.logs; script = reads.script })
        config
        ∙ ap (λ (l : List FileRead).
        record { config = told_all.config; logs = l; script = reads.script }) logs
        ∙ ap (λ (x : ReadAnswer).
        record { config = told_all.config; logs = told_all.logs; script = x }) script in
        record {
          logs = ap (λ (r : Reads). logs_read r.logs) same;
          plan = ap (plan_to_play words) same;
        }

-- ---- a whole call

memory_or_not : (s : Status) → (s ≡ status.NoMemory) ⊎ (s ≡ status.NoMemory → ⊥)
memory_or_not status.NoMemory = inl refl
memory_or_not s = inr (λ is. cc)

-- ---- the starts

as_asked : Sent → Asked
as_asked (Ok done) = Ok no_commit
as_asked (Err fault) = Err fault

asked-is : (answer : Sent) → done_by (as_asked answer) ≡ answer
unfolding as_asked
asked-is (Ok done) = refl
asked-is (Err fault) = refl

start-told : (s : Start) (m n : Moment) (answer : Sent) → SendsStart true s m n answer
    → (HasRisen m.faults n.faults → ⊥)
    → (answer ≡ done_by (stored_by m.store s.part (commit_at s)))
    × (n.store ≡ store_with m.store s.part (commit_at s))
start-told s m n answer sends calm =
    let same = asked-is answer in
    let is = stored-is m.store n.store s.part (commit_at s) (as_asked answer)
    (subst (λ (a : Sent). CommitGives m.store n.store s.part (commit_at s) a) (sym same)
    (sends.stored.gives refl))
    (λ (e : as_asked answer ≡ Err client.LinkFailed).
    calm (sends.stored.cause (sym same ∙ ap done_by e)))
    (λ (e : as_asked answer ≡ Err client.NoMemory). sends.answered (sym same ∙ ap done_by e)) in
    (sym same ∙ is.0, is.1)

sends-later : (told : Bool) (starts : List Start) (m n : Moment) (answer : Sent)
    → SendsStarts told starts m n answer → m.faults ≤ n.faults
sends-later told [] m n answer sends =
    subst (λ (k : Moment). m.faults ≤ k.faults) (sym sends.1) (omega arith)
sends-later told (s ∷ starts) m n answer (inl (fault, is, sends)) = sends.later
sends-later told (s ∷ starts) m n answer (inr (next, first, more)) =
    let a = first.later in
    let b = sends-later told starts next n answer more in
    omega (arith, a, b)

-- what was answered and what is stored is what the broker's steps say
abbrev AreToldStarts : List Start → Broker → Broker → Sent → Type 0
AreToldStarts starts b b' answer = (answer ≡ (told_starts starts b).answer)
    × (b' ≡ (told_starts starts b).store)

stopped-told : (s : Start) (starts : List Start) (b b' : Broker) (fault : ClientFault)
    → ◌≡◌ {A = Sent} (Err fault) (done_by (stored_by b s.part (commit_at s)))
    → b' ≡ store_with b s.part (commit_at s) → AreToldStarts (s ∷ starts) b b' (Err fault)
unfolding told_starts
stopped-told s starts b b' fault = by (is_accepted b s.part (commit_at s))
  where
    by : (t : Bool)
        → ◌≡◌ {A = Sent} (Err fault) (done_by (cond t (Ok no_commit) (Err (client.Refused
        (commit_code b s.part (commit_at s))))))
        → b' ≡ cond t (with_commit b s.part (commit_at s)) b
        → (◌≡◌ {A = Sent} (Err fault) (cond t (told_starts starts (with_commit b s.part (commit_at
        s)))
        (record {
          answer = Err (client.Refused (commit_code b s.part (commit_at s)));
          store = b;
        })).answer)
        × (b' ≡ (cond t (told_starts starts (with_commit b s.part (commit_at s)))
        (record {
          answer = Err (client.Refused (commit_code b s.part (commit_at s)));
          store = b;
        })).store)
    by true is same = absurd (never is)
      where
        never : ◌≡◌ {A = Sent} (Err fault) (Ok tt) → ⊥
        never e = cc
    by false is same = (is, same)

next-told : (s : Start) (starts : List Start) (b next b' : Broker) (answer : Sent)
    → ◌≡◌ {A = Sent} (Ok tt) (done_by (stored_by b s.part (commit_at s)))
    → next ≡ store_with b s.part (commit_at s) → AreToldStarts starts next b' answer
    → AreToldStarts (s ∷ starts) b b' answer
unfolding told_starts
next-told s starts b next b' answer = by (is_accepted b s.part (commit_at s))
  where
    by : (t : Bool)
        → ◌≡◌ {A = Sent} (Ok tt) (done_by (cond t (Ok no_commit) (Err (client.Refused (commit_code b
        s.part (commit_at s))))))
        → next ≡ cond t (with_commit b s.part (commit_at s)) b
        → AreToldStarts starts next b' answer
        → (answer ≡ (cond t (told_starts starts (with_commit b s.part (commit_at s)))
        (record {
          answer = Err (client.Refused (commit_code b s.part (commit_at s)));
          store = b;
        })).answer)
        × (b' ≡ (cond t (told_starts starts (with_commit b s.part (commit_at s)))
        (record {
          answer = Err (client.Refused (commit_code b s.part (commit_at s)));
          store = b;
        })).store)
    by true is same rest = subst (λ (k : Broker). AreToldStarts starts k b' answer) same rest
    by false is same rest = absurd (never is)
      where
        never : ◌≡◌ {A = Sent} (Ok tt) (Err (client.Refused (commit_code b s.part (commit_at s))))
            → ⊥
        never e = cc

sends-told : (starts : List Start) (m n : Moment) (answer : Sent)
    → SendsStarts true starts m n answer → (HasRisen m.faults n.faults → ⊥)
    → AreToldStarts starts m.store n.store answer
unfolding told_starts
sends-told [] m n answer sends calm = (sends.0, ap (λ (k : Moment). k.store) sends.1)
sends-told (s ∷ starts) m n answer (inl (fault, is, sends)) calm =
    let told = start-told s m n (Err fault) sends calm in
    subst (λ (a : Sent). AreToldStarts (s ∷ starts) m.store n.store a) (sym is)
    (stopped-told s starts m.store n.store fault told.0 told.1)
sends-told (s ∷ starts) m n answer (inr (next, first, more)) calm =
    let later = sends-later true starts next n answer more in
    let told = start-told s m next (Ok tt) first
    (λ rose. calm (risen-later m.faults next.faults n.faults first.later later rose)) in
    next-told s starts m.store next.store n.store answer told.0 told.1
    (sends-told starts next n answer more
    (λ rose. calm (risen-earlier m.faults next.faults n.faults first.later rose)))

-- ---- the lines behind the starts

-- a play ended as these inputs alone decide
record IsToldEnd (given : Given) (lines : Result (List PlayLine) Status) (store store' : Broker)
    (written written' : Option (List ℕ)) (s : Status) (history : List Event) : Type 0 where
  status_is : s ≡ wanted_status lines
  history_is : history ≡ (told_play given start store (lines_in lines)).play.history
  store_is : store' ≡ (told_play given start store (lines_in lines)).store
  written_is : written' ≡ with_bytes written (output_of (wanted_status lines)
      (told_play given start store (lines_in lines)).play)

-- a play that was not cut short is such
ends-told : (given : Given) (lines : Result (List PlayLine) Status) (before after : Outside)
    (s : Status) (history : List Event) → Ends given lines before after s history
    → before.is_told ≡ true → (HasRisen before.link_faults after.link_faults → ⊥)
    → (HasRisen before.write_faults after.write_faults → ⊥) → (s ≡ status.NoMemory → ⊥)
    → IsToldEnd given lines before.store after.store before.written after.written s history
ends-told given lines before after s history ends tells calls writes not =
    let plays : PlaysTo before.is_told given start (link_at before) (lines_in lines) ends.play
    ends.last = subst (λ (ls : List PlayLine). PlaysTo before.is_told given start (link_at before)
    ls ends.play ends.last) (ends.all not) ends.plays in
    let trace : Trace true given start (link_at before) (lines_in lines) plays.entries ends.play
    ends.last = subst (λ (b : Bool). Trace b given start (link_at before) (lines_in lines)
    plays.entries ends.play ends.last) tells plays.trace in
    let end = trace-told given start ends.play (link_at before) ends.last (lines_in lines)
    plays.entries trace (λ rose. calls
    (subst (λ (m : Moment). HasRisen before.link_faults m.faults) (sym (ends.end not)) rose)) in
    let wanted : s ≡ wanted_status lines = elim ends.output.status [
      | inl whole ↦ whole.0
      | inr other ↦ elim other [
        | inl sunk ↦ absurd (writes sunk.1)
        | inr none ↦ absurd (not none)
      ]
    ] in
    record {
      status_is = wanted;
      history_is = ends.history_is ∙ ap (λ (t : ToldPlay). t.play.history) (sym end);
      store_is = ap (λ (m : Moment). m.store) (ends.end not)
          ∙ ap (λ (t : ToldPlay). t.store) (sym end);
      written_is = ends.output.whole wanted ∙ ap (λ (t : ToldPlay).
          with_bytes before.written (output_of (wanted_status lines) t.play)) (sym end);
    }

-- the count of a play that went through did not fall
ends-later : (given : Given) (lines : Result (List PlayLine) Status) (before after : Outside)
    (s : Status) (history : List Event) → Ends given lines before after s history
    → (s ≡ status.NoMemory → ⊥) → before.link_faults ≤ after.link_faults
ends-later given lines before after s history ends not =
    let later = trace-later before.is_told given start ends.play (link_at before) ends.last
    (take ends.count (lines_in lines)) ends.plays.entries ends.plays.trace in
    subst (λ (m : Moment). before.link_faults ≤ m.faults) (sym (ends.end not)) later

-- ---- a whole call

carried-told : (logs : List (Option (List Record))) (plan : Result Planned Status)
    (before after : Outside) (s : Status) (history : List Event)
    → CarriesOut logs plan before after s history → before.is_told ≡ true
    → (HasRisen before.link_faults after.link_faults → ⊥)
    → (HasRisen before.write_faults after.write_faults → ⊥) → (s ≡ status.NoMemory → ⊥)
    → IsToldPlay logs plan before after s history
carried-told logs plan before after s history carries tells calls writes not =
    let begins = carries.begins in
    let starts = starts_in plan in
    let all : SendsStarts before.is_told starts (link_at before) begins.last carries.answer =
    subst (λ (ss : List Start). SendsStarts before.is_told ss (link_at before) begins.last
    carries.answer) (begins.all not) begins.sends in
    let sent : SendsStarts true starts (link_at before) carries.between carries.answer =
    subst (λ (m : Moment). SendsStarts true starts (link_at before) m carries.answer)
    (sym (begins.end not))
    (subst (λ (b : Bool). SendsStarts b starts (link_at before) begins.last carries.answer) tells
    all) in
    let first = sends-later true starts (link_at before) carries.between carries.answer sent in
    let last = ends-later (given_of carries.setup logs before.is_told carries.between.store)
    (lines_after carries.answer plan) (with_link before carries.between) after s history
    carries.plays.ends not in
    let told = sends-told starts (link_at before) carries.between carries.answer sent
    (λ rose. calls (risen-later before.link_faults carries.between.faults after.link_faults first
    last rose)) in
    let end = ends-told (given_of carries.setup logs before.is_told carries.between.store)
    (lines_after carries.answer plan) (with_link before carries.between) after s history
    carries.plays.ends tells
    (λ rose. calls (risen-earlier before.link_faults carries.between.faults after.link_faults first
    rose)) writes not in
    let begin = told_starts starts before.store in
    let at_told = subst (λ (b : Bool). IsToldEnd
    (given_of carries.setup logs b carries.between.store) (lines_after carries.answer plan)
    carries.between.store after.store before.written after.written s history) tells end in
    let at_store = subst (λ (b : Broker). IsToldEnd (given_of carries.setup logs true b)
    (lines_after carries.answer plan) b after.store before.written after.written s history) told.1
    at_told in
    let at : IsToldEnd (given_of carries.setup logs true begin.store)
    (lines_after begin.answer plan) begin.store after.store before.written after.written s history
    = subst (λ (a : Sent). IsToldEnd (given_of carries.setup logs true begin.store)
    (lines_after a plan) begin.store after.store before.written after.written s history) told.0
    at_store in
    record {
      setup = carries.setup;
      setup_is = carries.setup_is;
      status_is = at.status_is;
      history_is = at.history_is;
      store_is = at.store_is;
      written_is = at.written_is;
    }

pub call-told : (words : List (List ℕ)) (files files' : FilesSeen) (before after : Outside)
    (s : Status) (history : List Event) → IsCall words files files' before after s history
    → AreTold (command_of words) files.contents → before.is_told ≡ true
    → IsFaultless files files' before after
    → (s ≡ status.NoMemory) ⊎ IsToldCall words files before after s history
call-told words files files' before after s history call told tells faultless =
    elim (memory_or_not s) [
      | inl forgot ↦ inl forgot
      | inr not ↦
          let are = reads-told words files.contents files.faults files'.faults call.reads
          call.answers told faultless.reads in
          let carried : IsCarriedOut (told_logs words files) (told_plan words files) before after s
          history = subst (λ (p : Result Planned Status). IsCarriedOut (told_logs words files) p
          before after s history) are.plan
          (subst (λ (logs : List (Option (List Record))). IsCarriedOut logs
          (plan_to_play words call.reads) before after s history) are.logs call.carried_out) in
          elim carried [
            | inl gives_up ↦ inl gives_up.memory
            | inr carries ↦ inr (carried-told (told_logs words files) (told_plan words files)
                before after s history carries tells faultless.calls faultless.writes not)
          ]
    ]

-- where a plan leads does not depend on the setup beyond the plan's settings
ends-same : (setup setup2 : Setup) (logs : List (Option (List Record)))
    (plan : Result Planned Status) (store : Broker) → IfOk plan (λ p. setup.settings ≡ p.settings)
    → IfOk plan (λ p. setup2.settings ≡ p.settings)
    → end_told setup logs plan store ≡ end_told setup2 logs plan store
unfolding told_play
ends-same setup setup2 logs (Ok p) store is is2 =
    ap (λ (x : Setup). end_told x logs (Ok p) store) (same-settings setup setup2 (is ∙ sym is2))
ends-same setup setup2 logs (Err s) store is is2 = refl

-- two plays with the same inputs
plays-alike : (logs : List (Option (List Record))) (plan : Result Planned Status)
    (before before2 after after2 : Outside) (s s2 : Status) (history history2 : List Event)
    → before.store ≡ before2.store → before.written ≡ before2.written
    → IsToldPlay logs plan before after s history
    → IsToldPlay logs plan before2 after2 s2 history2
    → EndsAlike after after2 s s2 history history2
plays-alike logs plan before before2 after after2 s s2 history history2 store written first second =
    record {
      status_is = first.status_is ∙ ap (λ (b : Broker). wanted_status (lines_told plan b)) store
          ∙ sym second.status_is;
      history_is = first.history_is ∙ ap (λ (t : ToldPlay). t.play.history) end
          ∙ sym second.history_is;
      store_is = first.store_is ∙ ap (λ (t : ToldPlay). t.store) end ∙ sym second.store_is;
      written_is = first.written_is
          ∙ ap (λ (w : Option (List ℕ)). with_bytes w
          (output_of (wanted_status (lines_told plan before.store))
          (end_told first.setup logs plan before.store).play)) written
          ∙ ap (λ (b : Broker). with_bytes before2.written
          (output_of (wanted_status (lines_told plan b))
          (end_told first.setup logs plan before.store).play)) store
          ∙ ap (λ (t : ToldPlay). with_bytes before2.written
          (output_of (wanted_status (lines_told plan before2.store)) t.play)) end
          ∙ sym second.written_is;
    }
  where
    end : end_told first.setup logs plan before.store
        ≡ end_told second.setup logs plan before2.store
    end = ap (end_told first.setup logs plan) store
        ∙ ends-same first.setup second.setup logs plan before2.store first.setup_is second.setup_is

-- two calls with the same told inputs
calls-alike : (words : List (List ℕ)) (files files2 : FilesSeen)
    (before before2 after after2 : Outside) (s s2 : Status) (history history2 : List Event)
    → files.contents ≡ files2.contents → before.store ≡ before2.store
    → before.written ≡ before2.written → IsToldCall words files before after s history
    → IsToldCall words files2 before2 after2 s2 history2
    → EndsAlike after after2 s s2 history history2
calls-alike words files files2 before before2 after after2 s s2 history history2 same store written
    first second = plays-alike (told_logs words files) (told_plan words files) before before2 after
    after2 s s2 history history2 store written first
    (subst (λ (c : List ℕ → Option (List ℕ)). IsToldPlay
    (logs_read (told_reads words c).logs) (plan_to_play words (told_reads words c)) before2 after2
    s2 history2) (sym same) second)

pub calls-determined : (words : List (List ℕ)) (files files' files2 files2' : FilesSeen)
    (before after before2 after2 : Outside) (s s2 : Status) (history history2 : List Event)
    → IsCall words files files' before after s history
    → IsCall words files2 files2' before2 after2 s2 history2
    → AreTold (command_of words) files.contents → files.contents ≡ files2.contents
    → before.is_told ≡ true → before2.is_told ≡ true → before.store ≡ before2.store
    → before.written ≡ before2.written → IsFaultless files files' before after
    → IsFaultless files2 files2' before2 after2
    → (s ≡ status.NoMemory) ⊎ (s2 ≡ status.NoMemory) ⊎ EndsAlike after after2 s s2 history history2
calls-determined words files files' files2 files2' before after before2 after2 s s2 history history2
    call call2 told same tells tells2 store written calm calm2 =
    both (call-told words files files' before after s history call told tells calm)
    (call-told words files2 files2' before2 after2 s2 history2 call2
    (subst (AreTold (command_of words)) same told) tells2 calm2)
  where
    both : (s ≡ status.NoMemory) ⊎ IsToldCall words files before after s history
        → (s2 ≡ status.NoMemory) ⊎ IsToldCall words files2 before2 after2 s2 history2
        → (s ≡ status.NoMemory) ⊎ (s2 ≡ status.NoMemory)
        ⊎ EndsAlike after after2 s s2 history history2
    both (inl forgot) second = inl forgot
    both (inr first) (inl forgot) = inr (inl forgot)
    both (inr first) (inr second) = inr (inr (calls-alike words files files2 before before2 after
        after2 s s2 history history2 same store written first second))

-- ---- how often the link failed

-- what a failed call says of the counts
abbrev Rose : Bool → Moment → Moment → Type 0
Rose b m n = b ≡ true → HasRisen m.faults n.faults

has-failed : (a : Asked) → has_failed a ≡ true → a ≡ Err client.LinkFailed
has-failed (Ok c) is = cc
has-failed (Err client.LinkFailed) is = refl
has-failed (Err client.NoMemory) is = cc
has-failed (Err (client.Refused code)) is = cc
has-failed (Err (client.BadReply fault)) is = cc
has-failed (Err (client.OtherReply asked got)) is = cc

unless-rose : (x : Option EngineFault) (A : Type 0) (a : Asked) (m n : Moment)
    → (A → a ≡ Err client.LinkFailed → HasRisen m.faults n.faults) → Unless x A m n
    → Rose (is_none x && has_failed a) m n
unless-rose (Some fault) A a m n cause asks is = absurd (true≢false (sym is))
unless-rose None A a m n cause asks is = cause asks (has-failed a is)

line-rose : (told : Bool) (given : Given) (h : List Event) (act : PlayAct) (m : Moment)
    (e : Entry) → Asks told given h act m e
    → Rose (asks_link given h act && has_failed e.asked) m e.after
line-rose told given h (Assign p) m e asks =
    unless-rose (assign_refusal given h p) (Fetches told p m e) e.asked m e.after
    (λ a is. a.fetched.cause is) asks
line-rose told given h (Commit p) m e asks =
    unless-rose (commit_refusal given h p) (Stores told p (commit_of given h p).commit m e) e.asked
    m
    e.after (λ a is. a.stored.cause (ap done_by is)) asks
line-rose told given h (Revoke p) m e asks =
    unless-rose (revoke_refusal given h p) (Stores told p (commit_of given h p).commit m e) e.asked
    m
    e.after (λ a is. a.stored.cause (ap done_by is)) asks
line-rose told given h act m e asks = λ is. absurd (true≢false (sym is))

-- one more count
count-more : (b : Bool) (m n k : Moment) (count : ℕ) → m.faults ≤ n.faults → n.faults ≤ k.faults
    → Rose b m n → (count + n.faults ≤ k.faults) ⊎ (2 ^ 64 - 1 ≤ k.faults)
    → ((if b then 1 else 0) + count + m.faults ≤ k.faults) ⊎ (2 ^ 64 - 1 ≤ k.faults)
count-more b m n k count le more rose (inr top) = inr top
count-more false m n k count le more rose (inl fits) = inl (omega arith)
count-more true m n k count le more rose (inl fits) = elim (rose refl) [
  | inl lt ↦ inl (omega (arith, lt, fits))
  | inr top ↦ inr (omega (arith, top, more))
]

pub failures-counted : (told : Bool) (given : Given) (s t : Play) (m n : Moment)
    (lines : List PlayLine) (entries : List Entry) → Trace told given s m lines entries t n
    → (failure_count given s lines entries + m.faults ≤ n.faults) ⊎ (2 ^ 64 - 1 ≤ n.faults)
unfolding Trace failure_count
failures-counted told given s t m n [] [] trace =
    let le : m.faults ≤ n.faults =
    subst (λ (k : Moment). m.faults ≤ k.faults) trace.1 (omega arith) in
    inl (omega (arith, le))
failures-counted told given s t m n [] (e ∷ entries) trace = absurd trace
failures-counted told given s t m n (line ∷ lines) [] trace = absurd trace
failures-counted told given s t m n (line ∷ lines) (e ∷ entries) trace =
    count-more (asks_link given s.history line.act && has_failed e.asked) m e.after n
    (failure_count given (after_line given s line e.asked) lines entries)
    (asks-later told given s.history line.act m e trace.0)
    (trace-later told given (after_line given s line e.asked) t e.after n lines entries trace.1)
    (line-rose told given s.history line.act m e trace.0)
    (failures-counted told given (after_line given s line e.asked) t e.after n lines entries
    trace.1)
