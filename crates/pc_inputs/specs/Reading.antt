-- What the reads of a command's files answered, and the bytes that they gave.
use Rattle.std.specs.Prelude.{ℕ, ◌≡◌, ◌≤◌, ◌<◌, ◌+◌, nat_lt, Bool, List, [], ◌∷◌, length, map, ok_or, unwrap_or, Option, Some, None, Result, Ok, Err, if◌then◌else◌}
use Rattle.std.specs.List.{AllByRecursion}
use Rattle.pc_model.specs.declared.limits.TheConstants.{MAX_FILE_BYTES, MAX_LOG_BYTES}
use Rattle.std.specs.Option.{option_map_or}
use Rattle.std.specs.declared.vec.Vec.{Vec}
use Rattle.pc_world.specs.World.{HasRisen}
use Rattle.pc_inputs.specs.declared.reading.LogText.{LogText}
use Rattle.pc_inputs.specs.declared.reading.RunTexts.{RunTexts}
use Rattle.pc_inputs.specs.declared.reading.Texts.{Texts}
use Rattle.pc_inputs.specs.declared.status.Status.{Status}
use Rattle.pc_inputs.specs.declared.status.Status.TheVariants as status
use Rattle.pc_inputs.specs.declared.status.LimitKind.TheVariants.{FileBytes, LogBytes}
use Rattle.pc_inputs.specs.Command.{Command, CommandFiles, command_of, files_in, run_files_in}
use Rattle.pc_inputs.specs.Command.Command.{Bulk, Play, Run}

-- ---- what the reads answered

-- what a read of a file answered
pub data ReadAnswer : Type 0 where
  Bytes : List ℕ → ReadAnswer
  Failed : ReadAnswer
  TooLong : ReadAnswer

-- an answer that may come of a file with these contents, as far as they are told, where the count
-- of its own faults went from the one number to the other: bytes are those that are told, a failure
-- was counted, and a file that is too long has more bytes than a file may have
abbrev pub IsAnswer : Option (List ℕ) → ℕ → ℕ → ReadAnswer → Type 0
IsAnswer told before after (Bytes bytes) =
    (length bytes ≤ MAX_FILE_BYTES) × ((contents : List ℕ) → told ≡ Some contents → bytes ≡ contents)
IsAnswer told before after Failed = HasRisen before after
IsAnswer told before after TooLong = (contents : List ℕ) → told ≡ Some contents
    → MAX_FILE_BYTES < length contents

-- the name of a log's file, and what its read answered
pub record FileRead : Type 0 where
  pub name : List ℕ
  pub answer : ReadAnswer

-- what the reads of a command's files answered: that of the configuration, those of the logs, in
-- the order of the parts, and that of the script. A read that was not made has an answer, too, which
-- it could have had
pub record Reads : Type 0 where
  pub config : ReadAnswer
  pub logs : List FileRead
  pub script : ReadAnswer

-- the answer that may come of the read of a configuration: where no file is named, no bytes
abbrev pub IsConfigAnswer : Option (List ℕ) → (List ℕ → Option (List ℕ)) → (List ℕ → ℕ)
    → (List ℕ → ℕ) → ReadAnswer → Type 0
IsConfigAnswer None told before after answer = answer ≡ Bytes []
IsConfigAnswer (Some name) told before after answer =
    IsAnswer (told name) (before name) (after name) answer

-- the answers that may come of the reads of logs with these names
pub record AreLogAnswers (names : List (List ℕ)) (told : List ℕ → Option (List ℕ))
    (before after : List ℕ → ℕ) (reads : List FileRead) : Type 0 where
  pub named : map (λ read. read.name) reads ≡ names
  pub each : AllByRecursion
      (λ read. IsAnswer (told read.name) (before read.name) (after read.name) read.answer) reads

-- the answers that may come of the reads of a command's files
pub record AreAnswers (files : CommandFiles) (told : List ℕ → Option (List ℕ))
    (before after : List ℕ → ℕ) (reads : Reads) : Type 0 where
  pub config : IsConfigAnswer files.config told before after reads.config
  pub logs : AreLogAnswers files.logs told before after reads.logs
  pub script : IsAnswer (told files.script) (before files.script) (after files.script) reads.script

-- ---- the bytes that they gave

-- the name of a log's file, and its bytes
pub record FileText : Type 0 where
  pub name : List ℕ
  pub bytes : List ℕ

-- the bytes of a command's files, where a configuration without a file is the empty text
pub record FileTexts : Type 0 where
  pub config : List ℕ
  pub logs : List FileText
  pub script : List ℕ

abbrev pub text_of : LogText → FileText
text_of text = record { name = text.name.now; bytes = text.bytes.items }

abbrev pub config_text : {A : Type 0} → Option (Vec ℕ A) → List ℕ
config_text config = option_map_or (λ bytes. bytes.items) config []

abbrev pub texts_of : Texts → FileTexts
texts_of texts = record {
  config = config_text texts.config;
  logs = map text_of texts.logs.items;
  script = texts.script.items;
}

-- the same of a run's files, with whether only the summary is wanted
pub record RunFileTexts : Type 0 where
  pub texts : FileTexts
  pub summary : Bool

abbrev pub run_texts_of : RunTexts → RunFileTexts
run_texts_of run = record { texts = texts_of run.texts; summary = run.summary }

infixl 10 ◌>>=◌
abbrev pub ◌>>=◌ : {X Y : Type 0} → Result X Status → (X → Result Y Status) → Result Y Status
(Ok x) >>= f = f x
(Err s) >>= f = Err s

-- the bytes of a read, or the status that a read without bytes ends with
abbrev pub answered : List ℕ → ReadAnswer → Result (List ℕ) Status
answered name (Bytes bytes) = Ok bytes
answered name Failed = Err (status.ReadFault name)
answered name TooLong = Err (status.Limit FileBytes MAX_FILE_BYTES)

-- bytes after this many others, unless they are more together than all logs may have
abbrev pub within : ℕ → List ℕ → Result (List ℕ) Status
within before bytes = if nat_lt MAX_LOG_BYTES (before + length bytes)
    then Err (status.Limit LogBytes MAX_LOG_BYTES) else Ok bytes

-- the bytes of a log after others that have this many, or the status that its read ends with
abbrev pub log_answered : ℕ → FileRead → Result FileText Status
log_answered before read =
    do
      bytes ← answered read.name read.answer
      fitting ← within before bytes
      Ok (record { name = read.name; bytes = fitting })

-- the bytes of logs after others that have this many, or the status of the first that has one
abbrev pub logs_answered : ℕ → List FileRead → Result (List FileText) Status
logs_answered before [] = Ok []
logs_answered before (read ∷ reads) =
    do
      text ← log_answered before read
      texts ← logs_answered (before + length text.bytes) reads
      Ok (text ∷ texts)

-- the bytes of the configuration, none where no file is named
abbrev pub config_answered : Option (List ℕ) → ReadAnswer → Result (List ℕ) Status
config_answered name answer = answered (unwrap_or name []) answer

-- the bytes of a command's files, or the status of the first read that has one
abbrev pub bytes_answered : CommandFiles → Reads → Result FileTexts Status
bytes_answered files reads =
    do
      config ← config_answered files.config reads.config
      logs ← logs_answered 0 reads.logs
      script ← answered files.script reads.script
      Ok (record { config = config; logs = logs; script = script })

-- the same of the files of a play: another command is no play
abbrev pub command_answered : Command → Reads → Result FileTexts Status
command_answered (Play files) reads = bytes_answered files reads
command_answered (Run files summary) reads = Err status.Usage
command_answered (Bulk seed records workers) reads = Err status.Usage

-- the bytes of a run's files, with whether only the summary is wanted
abbrev pub run_files_answered : CommandFiles → Bool → Reads → Result RunFileTexts Status
run_files_answered files summary reads =
    do
      texts ← bytes_answered files reads
      Ok (record { texts = texts; summary = summary })

-- the same of a command: another one is no run
abbrev pub run_answered : Command → Reads → Result RunFileTexts Status
run_answered (Play files) reads = Err status.Usage
run_answered (Run files summary) reads = run_files_answered files summary reads
run_answered (Bulk seed records workers) reads = Err status.Usage

-- the bytes of the files of the play that the words ask for, or the status that ends it before all
-- are read: of the words, of the reads of the configuration, of the logs and of the script, the
-- first that applies
abbrev pub files_answered : List (List ℕ) → Reads → Result FileTexts Status
files_answered words reads =
    do
      command ← ok_or (command_of words) status.Usage
      command_answered command reads

-- the same of a run
abbrev pub run_words_answered : List (List ℕ) → Reads → Result RunFileTexts Status
run_words_answered words reads =
    do
      command ← ok_or (command_of words) status.Usage
      run_answered command reads

-- ---- what comes of a file, unless it is out of memory

-- the bytes or the status of one read
pub record IsFromFile (name : List ℕ) (told : Option (List ℕ)) (before after : ℕ)
    (got : Result (List ℕ) Status) : Type 0 where
  pub answer : ReadAnswer
  pub is_answer : IsAnswer told before after answer
  pub read : answered name answer ≡ got

-- the same of the read of a configuration
pub record IsFromConfig (name : Option (List ℕ)) (told : List ℕ → Option (List ℕ))
    (before after : List ℕ → ℕ) (got : Result (List ℕ) Status) : Type 0 where
  pub answer : ReadAnswer
  pub is_answer : IsConfigAnswer name told before after answer
  pub read : config_answered name answer ≡ got

-- the same of the read of a log after others that have this many bytes
pub record IsFromLog (name : List ℕ) (told : Option (List ℕ)) (before after used : ℕ)
    (got : Result FileText Status) : Type 0 where
  pub answer : ReadAnswer
  pub is_answer : IsAnswer told before after answer
  pub text : log_answered used (record { name = name; answer = answer }) ≡ got

-- the same of the reads of all logs
pub record IsFromLogs (names : List (List ℕ)) (told : List ℕ → Option (List ℕ))
    (before after : List ℕ → ℕ) (got : Result (List FileText) Status) : Type 0 where
  pub reads : List FileRead
  pub answers : AreLogAnswers names told before after reads
  pub texts : logs_answered 0 reads ≡ got

-- the same of the reads of a command's files
pub record IsFromCommand (files : CommandFiles) (told : List ℕ → Option (List ℕ))
    (before after : List ℕ → ℕ) (got : Result FileTexts Status) : Type 0 where
  pub reads : Reads
  pub answers : AreAnswers files told before after reads
  pub texts : bytes_answered files reads ≡ got

-- the same of a run's files
pub record IsFromRunFiles (files : CommandFiles) (summary : Bool)
    (told : List ℕ → Option (List ℕ)) (before after : List ℕ → ℕ)
    (got : Result RunFileTexts Status) : Type 0 where
  pub reads : Reads
  pub answers : AreAnswers files told before after reads
  pub texts : run_files_answered files summary reads ≡ got

-- the same of the reads of the files that the words name, by what comes of their command
pub record IsFromWords {X : Type 0} (named : Option Command → CommandFiles)
    (asked : Command → Reads → Result X Status) (words : List (List ℕ))
    (told : List ℕ → Option (List ℕ)) (before after : List ℕ → ℕ) (got : Result X Status)
    : Type 0 where
  pub reads : Reads
  pub answers : AreAnswers (named (command_of words)) told before after reads
  pub texts : (ok_or (command_of words) status.Usage >>= λ command. asked command reads) ≡ got

-- what comes of a play
abbrev pub IsFromFiles : List (List ℕ) → (List ℕ → Option (List ℕ)) → (List ℕ → ℕ) → (List ℕ → ℕ)
    → Result FileTexts Status → Type 0
IsFromFiles = IsFromWords files_in command_answered

-- what comes of a run
abbrev pub IsFromRun : List (List ℕ) → (List ℕ → Option (List ℕ)) → (List ℕ → ℕ) → (List ℕ → ℕ)
    → Result RunFileTexts Status → Type 0
IsFromRun = IsFromWords run_files_in run_answered
