-- From the bytes of the files to the logs and the lines.
use Rattle.std.proofs.Common.{◌≡◌, ◌≤◌, ◌<◌, ◌+◌, inl, inr, ℕ, Bool, true, false, cond, List, [], ◌∷◌, ◌++◌, map, length, Option, Some, None, Result, Ok, Err, refl, ap, sym, subst, ◌∙◌, append_assoc, arith, suc, ltb, leb, set, replicate, ◌-◌, take, drop, get_or}
use Rattle.std.specs.Prelude.{◌&&◌, ok_or, unwrap_or}
use Rattle.std.proofs.lemmas.Bool.{cases_Bool, leb-true, lt-ltb, ltb-true, ltb-false}
use Rattle.std.proofs.lemmas.List.{append-nil, map-append}
use Rattle.std.proofs.lemmas.List.Sums.{sum_by-append, sum_by-cons, sum_by_push}
use Rattle.pc_model.specs.Record.{Record}
use Rattle.pc_model.specs.Given.{rises_from}
use Rattle.pc_batch.specs.Batch.{Placed}
use Rattle.pc_cursor.specs.declared.fault.LogFault.{LogFault}
use Rattle.pc_cursor.specs.Log.{all_batches, all_records, batches_of, contents_of, list_of, records_of}
use Rattle.pc_cursor.proofs.LogLaws.{batches_of-is}
use Rattle.pc_cursor.proofs.Standing.{checked-rise}
use Rattle.pc_inputs.specs.declared.status.Status.{Status}
use Rattle.pc_inputs.specs.Reading.{◌>>=◌, ReadAnswer, FileRead, FileText, FileTexts, Reads, answered, command_answered, config_answered, files_answered, log_answered, logs_answered, within}
use Rattle.pc_inputs.specs.Command.{Command, command_of}
use Rattle.pc_inputs.specs.Command.Command.{Bulk, Play, Run}
use Rattle.pc_inputs.specs.Reading.ReadAnswer.{Bytes, Failed, TooLong}
use Rattle.pc_broker_log.specs.declared.fault.AddFault.{AddFault}
use Rattle.pc_broker_log.specs.declared.fault.AddFault.TheVariants.{NoMemory, TooManyRecords}
use Rattle.pc_broker_log.specs.Logs.{add_refusal, log_at, record_total, with_log}
use Rattle.pc_inputs.specs.declared.status.Status.TheVariants.{Limit, Usage}
use Rattle.pc_inputs.specs.declared.status.LimitKind.TheVariants.{LogBytes, Records}
use Rattle.pc_inputs.specs.Plan.{all_rise, AddsLog, IsOverfull, checked_logs, few_records, log_of, log_or_status, logs_of, logs_read, logs_with}
use Rattle.pc_inputs.proofs.ListLemmas.{map-around, map-next}
use Rattle.pc_inputs.proofs.ReadingLemmas.{joined, joined-none, joined-more}

-- ---- steps that went through

pub record Went {X Y : Type 0} (r : Result X Status) (f : X → Result Y Status) (y : Y)
    : Type 0 where
  pub x : X
  pub first : r ≡ Ok x
  pub then : f x ≡ Ok y

err-not-ok : {Y : Type 0} (s : Status) (y : Y) → ◌≡◌ {A = Result Y Status} (Err s) (Ok y) → ⊥
err-not-ok s y is = cc

pub ok-is : {Y : Type 0} (a b : Y) → ◌≡◌ {A = Result Y Status} (Ok a) (Ok b) → a ≡ b
ok-is a b is = cc

pub went : {X Y : Type 0} (r : Result X Status) (f : X → Result Y Status) (y : Y)
    → (r >>= f) ≡ Ok y → Went r f y
went (Ok x) f y is = record { x = x; first = refl; then = is }
went (Err s) f y is = absurd (err-not-ok s y is)

-- ---- the records of a file's bytes

read-rise : (bytes : List ℕ) (r : Result (List Placed) LogFault) → all_batches bytes ≡ r
    → rises_from 0 (all_records bytes) ≡ true
unfolding batches_of
read-rise bytes (Ok batches) is = checked-rise bytes (record {
  whole = is ∙ ap (λ (b : List Placed). Ok b) (sym (batches_of-is bytes batches is));
})
read-rise bytes (Err fault) is = ap
    (λ (r : Result (List Placed) LogFault). rises_from 0 (records_of (contents_of (list_of r)))) is

both : (a b : Bool) → a ≡ true → b ≡ true → (a && b) ≡ true
both true b first others = others
both false b first others = cc

-- the offsets of each log rise
pub texts-rise : (texts : List FileText)
    → all_rise (logs_of texts) ≡ true
texts-rise [] = refl
texts-rise (text ∷ texts) = both (rises_from 0 (all_records text.bytes)) _
    (read-rise text.bytes (all_batches text.bytes) refl) (texts-rise texts)

pub logs-rise : (reads : List FileRead)
    → all_rise (logs_read reads) ≡ true
logs-rise [] = refl
logs-rise (read ∷ reads) = both (rises_from 0 (unwrap_or (log_of read.answer) [])) _
    (rise read.answer) (logs-rise reads)
  where
    rise : (x : ReadAnswer) → rises_from 0 (unwrap_or (log_of x) []) ≡ true
    rise (Bytes bytes) = read-rise bytes (all_batches bytes) refl
    rise Failed = refl
    rise TooLong = refl

-- ---- logs that were read

bytes-answered : (name bytes : List ℕ) (x : ReadAnswer) → answered name x ≡ Ok bytes
    → x ≡ Bytes bytes
bytes-answered name bytes (Bytes b) is = ap Bytes (ok-is b bytes is)
bytes-answered name bytes Failed is = absurd (err-not-ok _ bytes is)
bytes-answered name bytes TooLong is = absurd (err-not-ok _ bytes is)

within-same : (s : Status) (bytes fitting : List ℕ) (long : Bool)
    → cond long (Err s) (Ok bytes) ≡ Ok fitting → bytes ≡ fitting
within-same s bytes fitting true is = absurd (err-not-ok s fitting is)
within-same s bytes fitting false is = ok-is bytes fitting is

log-answered : (used : ℕ) (read : FileRead) (text : FileText)
    → log_answered used read ≡ Ok text → read.answer ≡ Bytes text.bytes
log-answered used read text is =
    let first = went (answered read.name read.answer) (λ bytes. within used bytes
    >>= λ fitting. Ok (record { name = read.name; bytes = fitting })) text is in
    let second = went (within used first.x)
    (λ fitting. Ok (record { name = read.name; bytes = fitting })) text first.then in
    bytes-answered read.name first.x read.answer first.first
    ∙ ap Bytes (within-same (Limit LogBytes 268_435_456) first.x second.x
    (ltb 268_435_456 (used + length first.x)) second.first
    ∙ ap (λ (t : FileText). t.bytes)
    (ok-is (record { name = read.name; bytes = second.x }) text second.then))

-- the logs of the reads are those of the bytes that they gave
pub logs-read-are : (used : ℕ) (reads : List FileRead) (texts : List FileText)
    → logs_answered used reads ≡ Ok texts → logs_read reads ≡ logs_of texts
logs-read-are used [] texts is = ap logs_of (ok-is [] texts is)
logs-read-are used (read ∷ reads) texts is =
    let first = went (log_answered used read) (λ text.
    logs_answered (used + length text.bytes) reads >>= λ others. Ok (text ∷ others)) texts is in
    let others = went (logs_answered (used + length first.x.bytes) reads)
    (λ others. Ok (first.x ∷ others)) texts first.then in
    ap (λ (x : ReadAnswer). log_of x ∷ logs_read reads) (log-answered used read first.x first.first)
    ∙ ap (λ (l : List (Option (List Record))). Some (all_records first.x.bytes) ∷ l)
    (logs-read-are (used + length first.x.bytes) reads others.x others.first)
    ∙ ap logs_of (ok-is (first.x ∷ others.x) texts others.then)

-- the bytes of the logs, where all files were read
pub files-logs : (words : List (List ℕ)) (reads : Reads) (texts : FileTexts)
    → files_answered words reads ≡ Ok texts → logs_answered 0 reads.logs ≡ Ok texts.logs
files-logs words reads texts is =
    let named = went (ok_or (command_of words) Usage) (λ command. command_answered command reads)
    texts is in
    by named.x named.then
  where
    by : (command : Command) → command_answered command reads ≡ Ok texts
        → logs_answered 0 reads.logs ≡ Ok texts.logs
    by (Run files summary) is = absurd (err-not-ok Usage texts is)
    by (Bulk seed records workers) is = absurd (err-not-ok Usage texts is)
    by (Play files) is =
        let config = went (config_answered files.config reads.config) (λ config.
        logs_answered 0 reads.logs >>= λ logs. answered files.script reads.script
        >>= λ script. Ok (record { config = config; logs = logs; script = script })) texts is in
        let logs = went (logs_answered 0 reads.logs) (λ logs. answered files.script reads.script
        >>= λ script. Ok (record { config = config.x; logs = logs; script = script })) texts
        config.then in
        let script = went (answered files.script reads.script)
        (λ script. Ok (record { config = config.x; logs = logs.x; script = script })) texts
        logs.then in
        logs.first ∙ ap (λ (t : FileTexts). Ok t.logs)
        (ok-is (record { config = config.x; logs = logs.x; script = script.x }) texts script.then)

-- ---- logs that were checked

log-checked : (name : List ℕ) (r : Result (List Placed) LogFault) (log : List Placed)
    → log_or_status name r ≡ Ok log → r ≡ Ok log
log-checked name (Ok batches) log is = ap (λ (b : List Placed). Ok b) (ok-is batches log is)
log-checked name (Err fault) log is = absurd (err-not-ok _ log is)

pub logs-checked : (texts : List FileText) (logs : List (List Placed))
    → checked_logs texts ≡ Ok logs → logs_with logs ≡ logs_of texts
logs-checked [] logs is = ap logs_with (sym (ok-is [] logs is))
logs-checked (text ∷ texts) logs is =
    let first = went (log_or_status text.name (all_batches text.bytes)) (λ log.
    checked_logs texts >>= λ others. Ok (log ∷ others)) logs is in
    let others = went (checked_logs texts) (λ others. Ok (first.x ∷ others)) logs first.then in
    let batches = batches_of-is text.bytes first.x
    (log-checked text.name (all_batches text.bytes) first.x first.first) in
    ap logs_with (sym (ok-is (first.x ∷ others.x) logs others.then))
    ∙ ap (λ (b : List Placed). Some (records_of (contents_of b)) ∷ logs_with others.x) (sym batches)
    ∙ ap (λ (l : List (Option (List Record))). Some (all_records text.bytes) ∷ l)
    (logs-checked texts others.x others.first)

-- the logs so far are checked
pub record AreChecked (texts : List FileText) (logs : List (List Placed)) : Type 0 where
  pub with_more : (more : List FileText) → checked_logs (texts ++ more)
      ≡ joined logs (checked_logs more)

pub checked-none : AreChecked [] []
checked-none = record { with_more = λ more. joined-none (checked_logs more) }

-- what comes of a log and of those behind it
abbrev behind_log : List FileText → Result (List Placed) Status → Result (List (List Placed)) Status
behind_log more log = log >>= λ l. checked_logs more >>= λ logs. Ok (l ∷ logs)

module _ (texts : List FileText) (logs : List (List Placed)) (text : FileText)
    (are : AreChecked texts logs) where
  with-log : (r : Result (List Placed) Status) (more : List FileText)
      → r ≡ log_or_status text.name (all_batches text.bytes)
      → checked_logs (texts ++ text ∷ more) ≡ joined logs (behind_log more r)
  with-log r more is = are.with_more (text ∷ more)
      ∙ ap (λ (l : Result (List Placed) Status). joined logs (behind_log more l)) (sym is)

  pub checked-more : (log : List Placed)
      → Ok log ≡ log_or_status text.name (all_batches text.bytes)
      → AreChecked (texts ++ text ∷ []) (logs ++ log ∷ [])
  checked-more log is = record {
    with_more = λ more. ap checked_logs (append_assoc texts (text ∷ []) more)
        ∙ with-log (Ok log) more is ∙ joined-more logs log (checked_logs more);
  }

  pub checked-fault : (back : List FileText) (s : Status)
      → Err s ≡ log_or_status text.name (all_batches text.bytes)
      → checked_logs (texts ++ text ∷ back) ≡ Err s
  checked-fault back s is = with-log (Err s) back is

pub checked-all : (texts : List FileText) (logs : List (List Placed)) → AreChecked texts logs
    → checked_logs texts ≡ Ok logs
checked-all texts logs are = ap checked_logs (sym (append-nil texts)) ∙ are.with_more []
    ∙ ap (λ (l : List (List Placed)). Ok l) (append-nil logs)

-- ---- the number of records

abbrev size : Option (List Record) → ℕ
size log = length (unwrap_or log [])

not-ltb : (m n : ℕ) → n ≤ m → ltb m n ≡ false
not-ltb m n le = elim (cases_Bool (ltb m n)) [
  | inl lt ↦ let below : m < n = ltb-true m n lt in absurd (omega arith)
  | inr no_lt ↦ no_lt
]

total-with : (front back : List (Option (List Record))) (log : List Record)
    → record_total front + length log ≤ record_total (front ++ Some log ∷ back)
total-with front back log =
    let all = sum_by-append size front (Some log ∷ back) in
    let last = sum_by-cons size (Some log) back in
    omega (arith, all, last)

-- with one log too many there are too many, whatever logs are behind it
pub overfull : (front back : List (Option (List Record))) (log : List Record) (s : Status)
    → IsOverfull front log s → Err s ≡ few_records (front ++ Some log ∷ back)
overfull front back log s over =
    ap (λ (x : Status). Err x) over.says
    ∙ ap (λ (b : Bool). cond b (Err (Limit Records 1_000_000)) (Ok (front ++ Some log ∷ back)))
    (sym (lt-ltb 1_000_000 (record_total (front ++ Some log ∷ back))
    (omega (arith, over.many, total-with front back log))))

pub few-enough : (logs : List (Option (List Record))) → record_total logs ≤ 1_000_000
    → Ok logs ≡ few_records logs
few-enough logs few =
    ap (λ (b : Bool). cond b (Err (Limit Records 1_000_000)) (Ok logs))
    (sym (not-ltb 1_000_000 (record_total logs) few))

-- ---- one log more

appended : (logs : List (Option (List Record))) (log : Option (List Record))
    → set (logs ++ None ∷ []) (length logs) log ≡ logs ++ log ∷ []
appended [] log = refl
appended (x ∷ logs) log = ap (λ (l : List (Option (List Record))). x ∷ l) (appended logs log)

none-behind : (logs : List (Option (List Record))) → log_at logs (length logs) ≡ None
none-behind [] = refl
none-behind (x ∷ logs) = none-behind logs

not-leb : (m n : ℕ) → n < m → leb m n ≡ false
not-leb m n lt = elim (cases_Bool (leb m n)) [
  | inl le ↦ let below : m ≤ n = leb-true m n le in absurd (omega arith)
  | inr no_le ↦ no_le
]

-- the next part is refused its log only where there are too many records with it
refusal-next : (logs : List (Option (List Record))) (n : ℕ) → length logs < 1_024
    → add_refusal logs (length logs) n
    ≡ cond (ltb 1_000_000 (record_total logs + n)) (Some TooManyRecords) None
refusal-next logs n known =
    rw (not-leb 1_024 (length logs) known, none-behind logs) refl

same-fault : (e f : AddFault) → ◌≡◌ {A = Result (Unit {0}) AddFault} (Err e) (Err f) → e ≡ f
same-fault e f is = cc

no-fault : (f : AddFault) → ◌≡◌ {A = Result (Unit {0}) AddFault} (Ok tt) (Err f) → ⊥
no-fault f is = cc

module _ (logs : List (Option (List Record))) (part : ℕ) (log : List Record)
    (next : part ≡ length logs) (known : part < 1_024) where
  refusal-is : (b : Bool) → ltb 1_000_000 (record_total logs + length log) ≡ b
      → add_refusal logs part (length log) ≡ cond b (Some TooManyRecords) None
  refusal-is b is =
      ap (λ (p : ℕ). add_refusal logs p (length log)) next
      ∙ refusal-next logs (length log)
      (subst (λ (n : ℕ). n < 1_024) next known)
      ∙ ap (λ (c : Bool). cond c (Some TooManyRecords) None) is

  pub log-added : (logs' : List (Option (List Record))) (x : Unit {0})
      → logs' ≡ with_log logs part log
      → ((f : AddFault) → add_refusal logs part (length log) ≡ Some f
      → ◌≡◌ {A = Result (Unit {0}) AddFault} (Ok x) (Err f))
      → AddsLog logs log logs'
  log-added logs' x is refused =
      let one : part + 1 - length logs ≡ 1 = omega (arith, next) in
      record {
        appended = is
            ∙ ap (λ (n : ℕ). set (logs ++ replicate n None) part (Some log)) one
            ∙ ap (λ (n : ℕ). set (logs ++ None ∷ []) n (Some log)) next
            ∙ appended logs (Some log);
        few = elim (cases_Bool (ltb 1_000_000 (record_total logs + length log))) [
          | inl over ↦
              absurd (no-fault TooManyRecords (refused TooManyRecords (refusal-is true over)))
          | inr fits ↦ ltb-false 1_000_000 (record_total logs + length log) fits
        ];
      }

  -- a refusal but for want of memory is that there are too many records
  pub log-refused : (f : AddFault) → (f ≡ NoMemory → ⊥)
      → ((e : AddFault) → add_refusal logs part (length log) ≡ Some e
      → ◌≡◌ {A = Result (Unit {0}) AddFault} (Err f) (Err e))
      → (add_refusal logs part (length log) ≡ None → f ≡ NoMemory)
      → (f ≡ TooManyRecords) × (1_000_000 < record_total logs + length log)
  log-refused f other refused allowed =
      elim (cases_Bool (ltb 1_000_000 (record_total logs + length log))) [
        | inl over ↦ (
          same-fault f TooManyRecords (refused TooManyRecords (refusal-is true over)),
          ltb-true 1_000_000 (record_total logs + length log) over,
        )
        | inr fits ↦ absurd (other (allowed (refusal-is false fits)))
      ]

-- ---- the loops

-- a log more was checked, the texts being those of some items
pub checked-next : {X : Type 0} (f : X → FileText) (xs : List X) (i : ℕ) (x : X)
    (bytes : List ℕ) (logs logs' : List (List Placed)) (log : List Placed) → i < length xs
    → x ≡ get_or xs i x → bytes ≡ (f x).bytes
    → Ok log ≡ log_or_status (f x).name (all_batches bytes)
    → logs' ≡ logs ++ log ∷ [] → AreChecked (map f (take i xs)) logs
    → AreChecked (map f (take (i + 1) xs)) logs'
checked-next f xs i x bytes logs logs' log below item same is more are =
    subst (λ (texts : List FileText). AreChecked texts logs') (sym (map-next f xs i x below item))
    (subst (AreChecked (map f (take i xs) ++ f x ∷ [])) (sym more)
    (checked-more (map f (take i xs)) logs (f x) are log
    (is ∙ ap (λ (b : List ℕ). log_or_status (f x).name (all_batches b)) same)))

-- a log does not read
pub checked-stops : {X : Type 0} (f : X → FileText) (xs : List X) (i : ℕ) (x : X)
    (bytes : List ℕ) (logs : List (List Placed)) (s : Status) → i < length xs
    → x ≡ get_or xs i x → bytes ≡ (f x).bytes
    → Err s ≡ log_or_status (f x).name (all_batches bytes) → AreChecked (map f (take i xs)) logs
    → checked_logs (map f xs) ≡ Err s
checked-stops f xs i x bytes logs s below item same is are =
    ap checked_logs (sym (map-around f xs i x below item))
    ∙ checked-fault (map f (take i xs)) logs (f x) are (map f (drop (suc i) xs)) s
    (is ∙ ap (λ (b : List ℕ). log_or_status (f x).name (all_batches b)) same)

-- the records of logs with one more
logs-with-more : (logs : List (List Placed)) (log : List Placed)
    → logs_with (logs ++ log ∷ [])
    ≡ logs_with logs ++ Some (records_of (contents_of log)) ∷ []
logs-with-more logs log =
    map-append (λ (l : List Placed). Some (records_of (contents_of l))) logs (log ∷ [])

total-more : (logs : List (Option (List Record))) (log : List Record)
    → record_total (logs ++ Some log ∷ []) ≡ record_total logs + length log
total-more logs log = sum_by_push size logs (Some log)

-- what a log that was added makes of the table
pub table-next : (logs logs' : List (Option (List Record))) (checked : List (List Placed))
    (log : List Placed) → logs ≡ logs_with checked
    → AddsLog logs (records_of (contents_of log)) logs'
    → (logs' ≡ logs_with (checked ++ log ∷ []))
    × (record_total (logs_with (checked ++ log ∷ [])) ≤ 1_000_000)
table-next logs logs' checked log is adds =
    let after : logs' ≡ logs_with (checked ++ log ∷ []) = adds.appended
    ∙ ap (λ (l : List (Option (List Record))). l ++ Some (records_of (contents_of log)) ∷ []) is
    ∙ sym (logs-with-more checked log) in (
      after,
      subst (λ (l : List (Option (List Record))). record_total l ≤ 1_000_000)
          (sym adds.appended ∙ after)
          (subst (λ (n : ℕ). n ≤ 1_000_000)
          (sym (total-more logs (records_of (contents_of log)))) adds.few),
    )

-- a log that was one too many is one too many of all
pub table-overfull : (logs : List (Option (List Record))) (checked rest all : List (List Placed))
    (log : List Placed) (s : Status) → logs ≡ logs_with checked → checked ++ log ∷ rest ≡ all
    → IsOverfull logs (records_of (contents_of log)) s → Err s ≡ few_records (logs_with all)
table-overfull logs checked rest all log s is split over =
    overfull logs (logs_with rest) (records_of (contents_of log)) s over
    ∙ ap (λ (l : List (Option (List Record))).
    few_records (l ++ Some (records_of (contents_of log)) ∷ logs_with rest)) is
    ∙ ap few_records (sym (map-append (λ (l : List Placed). Some (records_of (contents_of l)))
    checked (log ∷ rest)))
    ∙ ap (λ (l : List (List Placed)). few_records (logs_with l)) split

-- logs that are few are the logs
pub few-are : (logs few : List (Option (List Record))) → Ok few ≡ few_records logs → few ≡ logs
few-are logs few is =
    by_test (ltb 1_000_000 (record_total logs)) is
  where
    by_test : (b : Bool) → Ok few ≡ cond b (Err (Limit Records 1_000_000)) (Ok logs) → few ≡ logs
    by_test true both = absurd (err-not-ok (Limit Records 1_000_000) few (sym both))
    by_test false both = ok-is few logs both
