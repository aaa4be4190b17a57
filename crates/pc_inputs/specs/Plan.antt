-- What a command carries out: the logs of its files, and the lines or the steps of its script.
use Rattle.std.specs.Prelude.{ℕ, ◌≡◌, ◌<◌, ◌≤◌, ◌+◌, ◌++◌, length, Bool, nat_lt, List, [], ◌∷◌, map, unwrap_or, Option, Some, None, Result, Ok, Err, if◌then◌else◌}
use Rattle.pc_model.specs.declared.limits.TheConstants.{MAX_RECORDS, MAX_SCRIPT_LINES}
use Rattle.std.specs.List.{list_all}
use Rattle.pc_model.specs.Record.{Record}
use Rattle.pc_model.specs.Given.{rises_from}
use Rattle.pc_script.specs.declared.play.PlayLine.{PlayLine}
use Rattle.pc_script.specs.declared.fault.ScriptReadFault.{ScriptReadFault}
use Rattle.pc_script.specs.declared.fault.ScriptReadFault.TheVariants.{Bad, TooManyLines, NoMemory}
use Rattle.pc_model.specs.declared.step.Step.{Step}
use Rattle.pc_config.specs.Config.{Configured}
use Rattle.pc_script.specs.PlayScript.{script_of}
use Rattle.pc_script.specs.Steps.{steps_of}
use Rattle.pc_batch.specs.Batch.{Placed}
use Rattle.pc_cursor.specs.declared.fault.LogFault.{LogFault}
use Rattle.pc_cursor.specs.Log.{all_batches, all_records, contents_of, records_of}
use Rattle.pc_broker_log.specs.Logs.{record_total}
use Rattle.pc_inputs.specs.declared.status.Status.{Status}
use Rattle.pc_inputs.specs.declared.status.Status.TheVariants as status
use Rattle.pc_inputs.specs.declared.status.LimitKind.TheVariants.{Records, ScriptLines}
use Rattle.pc_model.specs.declared.setup.Settings.{Settings}
use Rattle.pc_inputs.specs.declared.plan.Ground.{Ground}
use Rattle.pc_inputs.specs.declared.plan.Plan.{Plan}
use Rattle.pc_inputs.specs.declared.plan.RunPlan.{RunPlan}
use Rattle.pc_inputs.specs.Configuration.{configured_in}
use Rattle.pc_inputs.specs.Reading.{◌>>=◌, ReadAnswer, FileRead, FileText, FileTexts, Reads, RunFileTexts, files_answered, run_words_answered}
use Rattle.pc_inputs.specs.Reading.ReadAnswer.{Bytes, Failed, TooLong}

-- ---- logs

-- the records of a log that was read: of bytes that are no log there are none
abbrev pub log_of : ReadAnswer → Option (List Record)
log_of (Bytes bytes) = Some (all_records bytes)
log_of Failed = None
log_of TooLong = None

-- the records of the logs that were read: at place k those of part k
abbrev pub logs_read : List FileRead → List (Option (List Record))
logs_read reads = map (λ read. log_of read.answer) reads

-- the records of the logs with these bytes
abbrev pub logs_of : List FileText → List (Option (List Record))
logs_of texts = map (λ text. Some (all_records text.bytes)) texts

-- the records of the logs of these batches
abbrev pub logs_with : List (List Placed) → List (Option (List Record))
logs_with logs = map (λ log. Some (records_of (contents_of log))) logs

-- the batches of a file's log, unless it does not read
abbrev pub log_or_status : List ℕ → Result (List Placed) LogFault → Result (List Placed) Status
log_or_status name (Ok batches) = Ok batches
log_or_status name (Err fault) = Err (status.BadLog name fault.place fault.fault)

-- the batches of each log, or the status of the first that does not read
abbrev pub checked_logs : List FileText → Result (List (List Placed)) Status
checked_logs [] = Ok []
checked_logs (text ∷ texts) =
    do
      log ← log_or_status text.name (all_batches text.bytes)
      logs ← checked_logs texts
      Ok (log ∷ logs)

-- the logs, unless they have more than 1,000,000 records together
abbrev pub few_records : List (Option (List Record))
    → Result (List (Option (List Record))) Status
few_records logs = if nat_lt MAX_RECORDS (record_total logs)
    then Err (status.Limit Records MAX_RECORDS) else Ok logs

-- the logs with one more, which together have at most 1,000,000 records
pub record AddsLog (before : List (Option (List Record))) (log : List Record)
    (after : List (Option (List Record))) : Type 0 where
  pub appended : after ≡ before ++ Some log ∷ []
  pub few : record_total before + length log ≤ MAX_RECORDS

-- with one log more they have too many, which this status says
pub record IsOverfull (before : List (Option (List Record))) (log : List Record) (s : Status)
    : Type 0 where
  pub many : MAX_RECORDS < record_total before + length log
  pub says : s ≡ status.Limit Records MAX_RECORDS

-- ---- lines

-- the status of a script that does not read
abbrev pub script_status : ScriptReadFault → Status
script_status (Bad fault) = status.BadScript fault.line fault.kind
script_status TooManyLines = status.Limit ScriptLines MAX_SCRIPT_LINES
script_status NoMemory = status.NoMemory

-- the lines of a script, unless it does not read
abbrev pub lines_or_status : Result (List PlayLine) ScriptReadFault → Result (List PlayLine) Status
lines_or_status (Ok lines) = Ok lines
lines_or_status (Err fault) = Err (script_status fault)

-- the steps of a script, unless it does not read
abbrev pub steps_or_status : Result (List Step) ScriptReadFault → Result (List Step) Status
steps_or_status (Ok steps) = Ok steps
steps_or_status (Err fault) = Err (script_status fault)

-- ---- what a command stands on

-- what the configuration gives, or the status that ends a command before its script: of the
-- configuration, of the logs in order, and of the number of their records, the first that applies
abbrev pub ground_behind : FileTexts → Result Configured Status
ground_behind texts =
    do
      configured ← configured_in texts.config
      logs ← checked_logs texts.logs
      few ← few_records (logs_with logs)
      Ok configured

-- what the code keeps of it
abbrev pub ground : Ground → Configured
ground found = record { settings = found.setup.settings; workers = found.workers }

-- ---- a play

-- with which settings which lines are played
pub record Planned : Type 0 where
  pub settings : Settings
  pub lines : List PlayLine

-- the play of these texts, or the status that ends it before it begins
abbrev pub plan_behind : FileTexts → Result Planned Status
plan_behind texts =
    do
      ground ← ground_behind texts
      lines ← lines_or_status (script_of texts.script)
      Ok (record { settings = ground.settings; lines = lines })

-- the play that these words and these reads ask for, or the status that ends it before it begins
abbrev pub plan_to_play : List (List ℕ) → Reads → Result Planned Status
plan_to_play words reads =
    do
      texts ← files_answered words reads
      plan_behind texts

-- what the code keeps of it
abbrev pub planned : Plan → Planned
planned plan = record { settings = plan.setup.settings; lines = plan.script }

-- ---- a run

-- with which settings how many workers go through which steps, and whether only the summary is
-- wanted
pub record PlannedRun : Type 0 where
  pub settings : Settings
  pub workers : ℕ
  pub steps : List Step
  pub summary : Bool

-- the run of these texts, or the status that ends it before it begins; its steps are over as many
-- parts as there are logs
abbrev pub run_behind : RunFileTexts → Result PlannedRun Status
run_behind run =
    do
      ground ← ground_behind run.texts
      steps ← steps_or_status (steps_of run.texts.script (length run.texts.logs))
      Ok (record {
        settings = ground.settings;
        workers = ground.workers;
        steps = steps;
        summary = run.summary;
      })

-- the run that these words and these reads ask for, or the status that ends it before it begins
abbrev pub plan_to_run : List (List ℕ) → Reads → Result PlannedRun Status
plan_to_run words reads =
    do
      run ← run_words_answered words reads
      run_behind run

-- what the code keeps of it
abbrev pub planned_run : RunPlan → PlannedRun
planned_run plan = record {
  settings = plan.setup.settings;
  workers = plan.workers;
  steps = plan.steps;
  summary = plan.summary;
}

-- whether the offsets of each log rise
abbrev pub all_rise : List (Option (List Record)) → Bool
all_rise logs = list_all (λ log. rises_from 0 (unwrap_or log [])) logs
