-- The promise of a run, from what the pool reports.
use Rattle.std.proofs.Common.{◌≡◌, ◌⊎◌, ◌≤◌, ◌<◌, inl, inr, ℕ, Bool, true, false, zero, suc, List, [], ◌∷◌, ◌++◌, length, map, reverse, Option, Some, Result, Ok, Err, refl, ap, sym, subst, ◌∙◌, arith}
use Rattle.std.specs.Prelude.{OnOk, ok_or, slice_get, is_some}
use Rattle.std.specs.Option.{option_flatten}
use Rattle.std.proofs.lemmas.List.{append-nil}
use Rattle.pc_model.specs.declared.commit.Commit.{Commit}
use Rattle.pc_model.specs.declared.event.Event.{Event}
use Rattle.pc_model.specs.declared.event.Event.TheVariants.{Done as AllDone}
use Rattle.pc_model.specs.declared.outcome.Start.{Start}
use Rattle.pc_model.specs.declared.setup.Setup.{Setup}
use Rattle.pc_model.specs.declared.step.Step.{Step}
use Rattle.pc_model.specs.Broker.{Broker}
use Rattle.pc_model.specs.Epochs.{is_held}
use Rattle.pc_model.specs.Given.{Given, has_log, records_of}
use Rattle.pc_model.specs.Lawful.{IsLegal}
use Rattle.pc_model.specs.Record.{Record}
use Rattle.pc_model.specs.Stored.{may_store, passes}
use Rattle.pc_laws.specs.Lists.{In}
use Rattle.pc_laws.proofs.SoundLaw.{is_sound}
use Rattle.pc_laws.proofs.OrderlyLaw.{is_orderly}
use Rattle.pc_laws.proofs.DoneLaw.{done_is_stored}
use Rattle.pc_mailbox.specs.Ends.{Receiving}
use Rattle.pc_offset_client.specs.Client.{kept_for}
use Rattle.pc_offset_client.specs.declared.fault.ClientFault.{ClientFault}
use Rattle.pc_offset_client.specs.declared.fault.ClientFault.TheVariants as client
use Rattle.pc_engine.specs.Effect.{StoresOnly}
use Rattle.pc_script.specs.Steps.{AreAllowed, steps_of}
use Rattle.pc_script.specs.declared.fault.ScriptReadFault.{ScriptReadFault}
use Rattle.pc_inputs.specs.declared.status.Status.{Status}
use Rattle.pc_inputs.specs.declared.status.Status.TheVariants as status
use Rattle.pc_inputs.specs.declared.status.Status.TheVariants.{LinkFault, NoMemory, SinkFault, Usage, Whole}
use Rattle.pc_inputs.specs.Command.{Command, command_of, run_files_of}
use Rattle.pc_inputs.specs.Command.Command.{Bulk, Play, Run}
use Rattle.pc_inputs.specs.Status.{client_status, fault_line}
use Rattle.pc_inputs.specs.Reading.{◌>>=◌, FileText, IsFromRun, Reads, RunFileTexts, answered, config_answered, logs_answered, run_answered, run_files_answered, run_words_answered, bytes_answered, FileTexts}
use Rattle.pc_inputs.specs.Plan.{PlannedRun, all_rise, ground_behind, logs_of, logs_read, plan_to_run, run_behind, steps_or_status}
use Rattle.pc_inputs.proofs.ReadingLemmas.{any-answers, status-is}
use Rattle.pc_inputs.proofs.PlanLemmas.{logs-read-are, ok-is, went}
use Rattle.pc_pool.specs.declared.ending.Ending.{Ending}
use Rattle.pc_pool.specs.declared.ending.Ending.TheVariants as ending
use Rattle.pc_pool.specs.Ending.{HasEnding}
use Rattle.pc_pool.specs.Report.{IsReport, LeavesStore}
use Rattle.pc_play.specs.Play.{Moment}
use Rattle.pc_play.proofs.NoLine.{aborted-same, kept-at-start}
use Rattle.parcon.specs.declared.output.OutputFault.{OutputFault}
use Rattle.parcon.specs.declared.output.OutputFault.TheVariants as output
use Rattle.parcon.specs.Starts.{Sends, Sent, SendsStarts}
use Rattle.parcon.specs.Written.{HasFront, IsWritten, status_after, with_bytes}
use Rattle.parcon.specs.Promise.{FilesSeen, Outside, given_of, link_at, with_link}
use Rattle.parcon.specs.RunEnding.{ending_status, journal_text, last_lines, run_text}
use Rattle.parcon.specs.RunPromise.{IsRunCall, IsRunOut, Runs, heading_of}
use Rattle.parcon.proofs.PromiseLemmas.{all-begin, unwritten}
use Rattle.parcon.proofs.SetupLemmas.{default_setup}
use Rattle.parcon.proofs.WrittenLemmas.{text_of-lines, unchanged}
use Rattle.pc_print.specs.Line.{line_of}
use Rattle.std.specs.List.{flat_map}
use Rattle.pc_world.specs.World.{HasRisen}

-- ---- the output

-- where a run has not ended with all done, its last line is the fault line
pub last-fault : (setup : Setup) (logs : List (Option (List Record))) (h : List Event) (e : Ending)
    → (e ≡ ending.Done → ⊥) → last_lines setup logs h e ≡ fault_line (ending_status e)
last-fault setup logs h ending.Done not = absurd (not refl)
last-fault setup logs h (ending.Undrained p o n) not = refl
last-fault setup logs h (ending.Client fault) not = refl
last-fault setup logs h (ending.BadMap p fault) not = refl
last-fault setup logs h ending.JournalFull not = refl
last-fault setup logs h ending.NoMemory not = refl

-- where it did not run out of memory, it is the journal and the last lines
pub run-lines : (summary : Bool) (setup : Setup) (logs : List (Option (List Record)))
    (h : List Event) (e : Ending) → (e ≡ ending.NoMemory → ⊥)
    → run_text summary setup logs h e ≡ journal_text summary h ++ last_lines setup logs h e
run-lines summary setup logs h ending.Done not = refl
run-lines summary setup logs h (ending.Undrained p o n) not = refl
run-lines summary setup logs h (ending.Client fault) not = refl
run-lines summary setup logs h (ending.BadMap p fault) not = refl
run-lines summary setup logs h ending.JournalFull not = refl
run-lines summary setup logs h ending.NoMemory not = absurd (not refl)

-- the lines of a journal's events, oldest first, are its text
pub journal-lines : (events h : List Event) (summary : Bool) → events ≡ reverse h → summary ≡ false
    → flat_map line_of events ≡ journal_text summary h
journal-lines events h summary is whole =
    ap (flat_map line_of) is ∙ text_of-lines h
    ∙ sym (ap (λ (b : Bool). journal_text b h) whole)

-- an ending is no fault of the sink
never-sink : (e : Ending) → ending_status e ≡ SinkFault → ⊥
never-sink ending.Done is = cc
never-sink (ending.Undrained p o n) is = cc
never-sink (ending.Client fault) is = cc
never-sink (ending.BadMap p fault) is = cc
never-sink ending.JournalFull is = cc
never-sink ending.NoMemory is = cc

-- nor out of memory, but where the run was
only-memory : (e : Ending) → ending_status e ≡ NoMemory → e ≡ ending.NoMemory
only-memory ending.Done is = cc
only-memory (ending.Undrained p o n) is = cc
only-memory (ending.Client fault) is = cc
only-memory (ending.BadMap p fault) is = cc
only-memory ending.JournalFull is = cc
only-memory ending.NoMemory is = refl

-- it is whole only where all is done
only-done : (e : Ending) → ending_status e ≡ Whole → e ≡ ending.Done
only-done ending.Done is = refl
only-done (ending.Undrained p o n) is = cc
only-done (ending.Client fault) is = cc
only-done (ending.BadMap p fault) is = cc
only-done ending.JournalFull is = cc
only-done ending.NoMemory is = cc

whole-is-not-sink : SinkFault ≡ Whole → ⊥
whole-is-not-sink is = cc

whole-is-not-memory : NoMemory ≡ Whole → ⊥
whole-is-not-memory is = cc

-- what was put of a text that is no fault of the outside
pub ending-written : (text : List ℕ) (put : Result (Unit {0}) OutputFault) (e : Ending)
    (given : Status) (before now : Option (List ℕ)) (f f' : ℕ) → (e ≡ ending.NoMemory → ⊥)
    → OnOk put (now ≡ with_bytes before text) → HasFront before now text
    → (put ≡ Err output.SinkFailed → HasRisen f f') → OnOk put (f' ≡ f)
    → given ≡ status_after (ending_status e) put
    → IsWritten before now f f' text (ending_status e) given
ending-written text (Ok done) e given before now f f' not whole front failed unfailed is =
    record { status = inl (is, unfailed); front = front; whole = λ same. whole }
ending-written text (Err output.SinkFailed) e given before now f f' not whole front failed unfailed is =
    record {
      status = inr (inl (is, failed refl));
      front = front;
      whole = λ same. absurd (never-sink e (sym same ∙ is));
    }
ending-written text (Err output.NoMemory) e given before now f f' not whole front failed unfailed is =
    record {
      status = inr (inr is);
      front = front;
      whole = λ same. absurd (not (only-memory e (sym same ∙ is)));
    }

-- ---- a run that the pool reports

-- what a status of a run says that is whole
pub is-done : (e : Ending) (s : Status) (before after : Option (List ℕ)) (f f' : ℕ) (text : List ℕ)
    → IsWritten before after f f' text (ending_status e) s → s ≡ Whole → e ≡ ending.Done
is-done e s before after f f' text written whole = by written.status
  where
    by : ((s ≡ ending_status e) × (f' ≡ f)) ⊎ ((s ≡ SinkFault) × HasRisen f f') ⊎ (s ≡ NoMemory)
        → e ≡ ending.Done
    by (inl wanted) = only-done e (sym wanted.0 ∙ whole)
    by (inr (inl failed)) = absurd (whole-is-not-sink (sym failed.0 ∙ whole))
    by (inr (inr memory)) = absurd (whole-is-not-memory (sym memory ∙ whole))

module _ (setup : Setup) (logs : List (Option (List Record))) (plan : PlannedRun)
    (before after : Outside) where
  abbrev known : Given
  known = given_of setup logs before.is_told before.store

  -- where nothing was done the broker has what may be stored
  none-left : IsLegal known [] → before.is_told ≡ true → after.store ≡ before.store
      → LeavesStore (heading_of known plan before) [] after.store
  none-left legal told same =
      let kept = kept-at-start setup logs before.is_told before.store legal in
      record {
        only = subst (λ (b : Broker). StoresOnly (has_log known) before.store b) (sym same)
            (kept.others told);
        kept = λ p log. subst (λ (b : Broker). In (kept_for b p) (may_store known [] p)) (sym same)
            (kept.stored told p log);
      }

  -- where all is done, each commit that may be stored passes over every record of a held part
  all-committed : (h : List Event) (used : ℕ) (e : Ending) → IsLegal known h
      → HasEnding (heading_of known plan before) known.is_told h after.store used after.link_faults e
      → e ≡ ending.Done → (p : ℕ) → is_held h p ≡ true → (c : Commit) → In c (may_store known h p)
      → (r : Record) → In r (records_of known p) → passes c r.offset ≡ true
  all-committed h used ending.Done legal done is p held c stored r i =
      done_is_stored known done.before (subst (IsLegal known) done.last legal) p
      (subst (λ (k : List Event). is_held k p ≡ true) done.last held) c
      (subst (λ (k : List Event). In c (may_store known k p)) done.last stored) r i
  all-committed h used e legal cause is p held c stored r i = absurd (other e is)
    where
      other : (x : Ending) → x ≡ ending.Done → ⊥
      other x same = cc

  -- a run whose pool reports this
  pub runs-reported : {T : Type 0} (status : Status) (h h' : List Event)
      (inbox : Option (Receiving T)) (returned : ℕ) (e : Ending) (jobs : List ℕ)
      → IsReport {T = T} (heading_of known plan before) after.is_told h' inbox returned after.store
      after.link_faults e jobs
      → h ≡ h'
      → IsWritten before.written after.written before.write_faults after.write_faults
      (run_text plan.summary setup logs h' e) (ending_status e) status
      → Runs setup logs known plan before after status h
  runs-reported status h h' inbox returned e jobs report same written =
      let legal : IsLegal known h' = report.is_run.legal in
      let told : before.is_told ≡ true → after.is_told ≡ true = λ is. report.told_is ∙ is in
      let cause = subst (λ (t : Bool). HasEnding (heading_of known plan before) t h' after.store
      report.used after.link_faults e) report.told_is report.ending in
      subst (λ (k : List Event). Runs setup logs known plan before after status k) (sym same)
      (record {
        is_run = report.is_run;
        sound = λ is. is_sound known h' is legal;
        orderly = is_orderly known h' legal;
        workers = report.workers;
        causes = λ is. report.causes (told is);
        stored = λ is. (report.stores (told is)).kept;
        others = λ is. (report.stores (told is)).only;
        ended = e;
        used = report.used;
        cause = cause;
        output = written;
        committed = λ whole. all-committed h' report.used e legal cause
            (is-done e status before.written after.written before.write_faults after.write_faults
            (run_text plan.summary setup logs h' e) written whole);
      })

  -- a run for whose start there was no memory
  pub runs-none : (status : Status) (h : List Event) → IsLegal known []
      → link_at after ≡ link_at before → h ≡ [] → status ≡ NoMemory
      → after.written ≡ before.written → Runs setup logs known plan before after status h
  runs-none status h legal same none memory written =
      subst (λ (k : List Event). Runs setup logs known plan before after status k) (sym none)
      (record {
        is_run = record { legal = legal; follows = refl; paced = refl };
        sound = λ is. is_sound known [] is legal;
        orderly = is_orderly known [] legal;
        workers = refl;
        causes = λ is. record {
          counts = [];
          caused = tt;
          last = let now = ap (λ (m : Moment). m.faults) same in omega (arith, now);
        };
        stored = λ is. (none-left legal is (ap (λ (m : Moment). m.store) same)).kept;
        others = λ is. (none-left legal is (ap (λ (m : Moment). m.store) same)).only;
        ended = ending.NoMemory;
        used = 0;
        cause = tt;
        output = unwritten before.written after.written before.write_faults after.write_faults []
            NoMemory status (λ is. refl) memory written;
        committed = λ whole. absurd (whole-is-not-memory (sym memory ∙ whole));
      })

-- ---- a plan that is carried out, or not

-- nothing was sent, and nothing was run
pub run-none : (logs : List (Option (List Record))) (plan : Result PlannedRun Status)
    (before after : Outside) (s status : Status) (h : List Event)
    → link_at after ≡ link_at before → (s ≡ NoMemory) ⊎ (plan ≡ Err s) → h ≡ []
    → IsWritten before.written after.written before.write_faults after.write_faults
    (fault_line s) s status → (s ≡ NoMemory → status ≡ NoMemory)
    → IsRunOut logs plan before after status h
run-none logs plan before after s status h same (inl wanting) none written memory =
    inl (record {
      memory = memory wanting;
      nothing = none;
      link = same;
      written = unchanged before.written after.written s wanting written.front;
    })
run-none logs plan before after s status h same (inr is) none written memory =
    subst (λ (p : Result PlannedRun Status). IsRunOut logs p before after status h) (sym is)
    (inr (record {
      setup = default_setup;
      setup_is = tt;
      answer = Ok tt;
      between = link_at before;
      begins = record {
        count = 0;
        last = link_at before;
        sends = (refl, refl);
        all = λ not. refl;
        end = λ not. refl;
        stopped = aborted-same before.is_told (link_at before) (link_at before) refl;
      };
      ends = record { none = none; link = same; output = written };
    }))

module _ (setup : Setup) (logs : List (Option (List Record))) (plan : PlannedRun) (before : Outside)
    (between : Moment) (after : Outside) (status : Status) (h : List Event) where
  -- all starts were stored, and the plan was run
  pub run-started : setup.settings ≡ plan.settings
      → SendsStarts before.is_told plan.settings.starts (link_at before) between (Ok tt)
      → Runs setup logs (given_of setup logs before.is_told between.store) plan
      (with_link before between) after status h
      → IsRunOut logs (Ok plan) before after status h
  run-started of sends runs = inr (record {
    setup = setup;
    setup_is = of;
    answer = Ok tt;
    between = between;
    begins = all-begin before.is_told plan.settings.starts (link_at before) between (Ok tt) status
        sends;
    ends = runs;
  })

  -- one was not stored, or memory ran out
  pub run-unsent : (fault : ClientFault) → setup.settings ≡ plan.settings
      → Sends before.is_told plan.settings.starts (link_at before) between (Err fault)
      → all_rise logs ≡ true → link_at after ≡ between → h ≡ []
      → IsWritten before.written after.written before.write_faults after.write_faults
      (fault_line (client_status fault)) (client_status fault) status
      → (client_status fault ≡ NoMemory → status ≡ NoMemory)
      → IsRunOut logs (Ok plan) before after status h
  run-unsent client.NoMemory of sends rise same none written memory = inr (record {
    setup = setup;
    setup_is = of;
    answer = Ok tt;
    between = between;
    begins = record {
      count = sends.count;
      last = sends.last;
      sends = sends.sends;
      all = λ not. absurd (not (memory refl));
      end = λ not. absurd (not (memory refl));
      stopped = sends.stopped;
    };
    ends = runs-none setup logs plan (with_link before between) after status h rise same none
        (memory refl) (unchanged before.written after.written NoMemory refl written.front);
  })
  run-unsent fault of sends rise same none written memory = inr (record {
    setup = setup;
    setup_is = of;
    answer = Err fault;
    between = between;
    begins = all-begin before.is_told plan.settings.starts (link_at before) between (Err fault)
        status sends;
    ends = record { none = none; link = same; output = written };
  })

-- what a step with a status says of the plan
pub run-status-of : {A : Type 0} (plan : Result PlannedRun Status) (s : Status)
    → ◌≡◌ {A = Result A Status} (Err s) (Err NoMemory)
    ⊎ ◌≡◌ {A = Result PlannedRun Status} (Err s) plan
    → (s ≡ NoMemory) ⊎ (plan ≡ Err s)
run-status-of plan s (inl is) = inl (status-is s NoMemory is)
run-status-of plan s (inr is) = inr (sym is)

-- a plan with the same logs
pub run-along : (logs logs' : List (Option (List Record))) (plan plan' : Result PlannedRun Status)
    (before after : Outside) (status : Status) (h : List Event) → logs ≡ logs' → plan ≡ plan'
    → IsRunOut logs plan before after status h → IsRunOut logs' plan' before after status h
run-along logs logs' plan plan' before after status h are is carried =
    subst (λ (p : Result PlannedRun Status). IsRunOut logs' p before after status h) is
    (subst (λ (l : List (Option (List Record))). IsRunOut l plan before after status h) are carried)

-- ---- a call of the program

err-not-ok : {Y : Type 0} (s : Status) (y : Y) → ◌≡◌ {A = Result Y Status} (Err s) (Ok y) → ⊥
err-not-ok s y is = cc

-- the bytes of the logs, where all files of a run were read
run-logs : (words : List (List ℕ)) (reads : Reads) (run : RunFileTexts)
    → run_words_answered words reads ≡ Ok run → logs_answered 0 reads.logs ≡ Ok run.texts.logs
run-logs words reads run is =
    let named = went (ok_or (command_of words) Usage) (λ command. run_answered command reads) run is in
    by named.x named.then
  where
    by : (command : Command) → run_answered command reads ≡ Ok run
        → logs_answered 0 reads.logs ≡ Ok run.texts.logs
    by (Play files) is = absurd (err-not-ok Usage run is)
    by (Bulk seed records workers) is = absurd (err-not-ok Usage run is)
    by (Run files summary) is =
        let texts = went (bytes_answered files reads)
        (λ texts. Ok (record { texts = texts; summary = summary })) run is in
        let config = went (config_answered files.config reads.config) (λ config.
        logs_answered 0 reads.logs >>= λ logs. answered files.script reads.script
        >>= λ script. Ok (record { config = config; logs = logs; script = script })) texts.x
        texts.first in
        let logs = went (logs_answered 0 reads.logs) (λ logs. answered files.script reads.script
        >>= λ script. Ok (record { config = config.x; logs = logs; script = script })) texts.x
        config.then in
        let script = went (answered files.script reads.script)
        (λ script. Ok (record { config = config.x; logs = logs.x; script = script })) texts.x
        logs.then in
        logs.first
        ∙ ap (λ (t : FileTexts). Ok t.logs)
        (ok-is (record { config = config.x; logs = logs.x; script = script.x }) texts.x script.then)
        ∙ ap (λ (t : RunFileTexts). Ok t.texts.logs)
        (ok-is (record { texts = texts.x; summary = summary }) run texts.then)

module _ (words : List (List ℕ)) (files files' : FilesSeen) (before after : Outside) where
  -- the files were read, and this came of them
  pub call-run : (run : RunFileTexts) (status : Status) (h : List Event)
      → IsFromRun words files.contents files.faults files'.faults (Ok run)
      → IsRunOut (logs_of run.texts.logs) (run_behind run) before after status h
      → IsRunCall words files files' before after status h
  call-run run status h from carried = record {
    reads = from.reads;
    answers = from.answers;
    carried_out = run-along (logs_of run.texts.logs) (logs_read from.reads.logs) (run_behind run)
        (plan_to_run words from.reads) before after status h
        (sym (logs-read-are 0 from.reads.logs run.texts.logs
        (run-logs words from.reads run from.texts)))
        (sym (ap (λ (r : Result RunFileTexts Status). r >>= run_behind) from.texts)) carried;
  }

  -- the files were not read, or memory ran out for it
  pub call-unrun : {A : Type 0} (s status : Status) (h : List Event)
      → ◌≡◌ {A = Result A Status} (Err s) (Err NoMemory)
      ⊎ IsFromRun words files.contents files.faults files'.faults (Err s)
      → link_at after ≡ link_at before → h ≡ []
      → IsWritten before.written after.written before.write_faults after.write_faults
      (fault_line s) s status → (s ≡ NoMemory → status ≡ NoMemory)
      → IsRunCall words files files' before after status h
  call-unrun s status h (inl is) same none written memory =
      let any = any-answers (run_files_of words) files.contents files.faults files'.faults in
      record {
        reads = any.0;
        answers = any.1;
        carried_out = run-none (logs_read any.0.logs) (plan_to_run words any.0) before after s status
            h same (inl (status-is s NoMemory is)) none written memory;
      }
  call-unrun s status h (inr from) same none written memory = record {
    reads = from.reads;
    answers = from.answers;
    carried_out = run-none (logs_read from.reads.logs) (plan_to_run words from.reads) before after s
        status h same
        (inr (ap (λ (r : Result RunFileTexts Status). r >>= run_behind) from.texts)) none written
        memory;
  }

-- ---- the steps of a plan

-- what a run's steps were read from
planned-steps : (run : RunFileTexts) (plan : PlannedRun) → run_behind run ≡ Ok plan
    → steps_of run.texts.script (length run.texts.logs) ≡ Ok plan.steps
planned-steps run plan is =
    let ground = went (ground_behind run.texts) (λ g.
    steps_or_status (steps_of run.texts.script (length run.texts.logs)) >>= λ steps. Ok (record {
      settings = g.settings;
      workers = g.workers;
      steps = steps;
      summary = run.summary;
    })) plan is in
    let steps = went (steps_or_status (steps_of run.texts.script (length run.texts.logs)))
    (λ steps. Ok (record {
      settings = ground.x.settings;
      workers = ground.x.workers;
      steps = steps;
      summary = run.summary;
    })) plan ground.then in
    read (steps_of run.texts.script (length run.texts.logs)) steps.x steps.first
    ∙ ap (λ (p : PlannedRun). Ok p.steps) (ok-is (record {
      settings = ground.x.settings;
      workers = ground.x.workers;
      steps = steps.x;
      summary = run.summary;
    }) plan steps.then)
  where
    read : (r : Result (List Step) ScriptReadFault) (steps : List Step)
        → steps_or_status r ≡ Ok steps → r ≡ Ok steps
    read (Ok some) steps is = ap (λ (x : List Step). Ok x) (ok-is some steps is)
    read (Err fault) steps is = absurd (err-not-ok _ steps is)

logs-count : (texts : List FileText) → length (logs_of texts) ≡ length texts
logs-count [] = refl
logs-count (text ∷ texts) = ap suc (logs-count texts)

-- its steps are over the parts of its logs
pub run-allowed : (run : RunFileTexts) (plan : PlannedRun) (logs : List (Option (List Record)))
    → ((text : List ℕ) (parts : ℕ) (steps : List Step) → steps_of text parts ≡ Ok steps
    → AreAllowed parts [] steps)
    → run_behind run ≡ Ok plan → logs ≡ logs_of run.texts.logs
    → AreAllowed (length logs) [] plan.steps
run-allowed run plan logs law is are =
    subst (λ (n : ℕ). AreAllowed n [] plan.steps)
    (sym (ap (λ (l : List (Option (List Record))). length l) are ∙ logs-count run.texts.logs))
    (law run.texts.script (length run.texts.logs) plan.steps (planned-steps run plan is))

-- and each of these parts has a log
some-log : (texts : List FileText) (p : ℕ) → p < length (logs_of texts)
    → is_some (option_flatten (slice_get (logs_of texts) p)) ≡ true
some-log [] p below = absurd (omega arith)
some-log (text ∷ texts) zero below = refl
some-log (text ∷ texts) (suc p) below = some-log texts p (omega arith)

pub run-logged : (texts : List FileText) (logs : List (Option (List Record)))
    → logs ≡ logs_of texts → (p : ℕ) → p < length logs
    → is_some (option_flatten (slice_get logs p)) ≡ true
run-logged texts logs are p below =
    subst (λ (l : List (Option (List Record))). is_some (option_flatten (slice_get l p)) ≡ true)
    (sym are)
    (some-log texts p (subst (λ (l : List (Option (List Record))). p < length l) are below))
