-- The promise from what the steps of a play answered.
use Rattle.std.proofs.Common.{◌≡◌, ◌⊎◌, inl, inr, ℕ, List, [], ◌++◌, length, Option, Result, Ok, Err, refl, ap, sym, subst, ◌∙◌, arith}
use Rattle.std.specs.Prelude.{Bool, true, MatchResult}
use Rattle.std.proofs.lemmas.List.{append-nil, take_all}
use Rattle.pc_model.specs.Outcomes.{outcome_of}
use Rattle.pc_model.specs.Broker.{Broker}
use Rattle.pc_offset_client.specs.Client.{kept_for}
use Rattle.pc_engine.specs.Engine.{given_by}
use Rattle.pc_model.specs.declared.event.Event.{Event}
use Rattle.pc_model.specs.declared.setup.Setup.{Setup}
use Rattle.pc_model.specs.Record.{Record}
use Rattle.pc_model.specs.Given.{Given}
use Rattle.pc_model.specs.Lawful.{IsLegal}
use Rattle.pc_model.specs.Stored.{may_store}
use Rattle.pc_laws.specs.Lists.{In}
use Rattle.pc_laws.proofs.SoundLaw.{is_sound}
use Rattle.pc_laws.proofs.OrderlyLaw.{is_orderly}
use Rattle.pc_script.specs.declared.play.PlayLine.{PlayLine}
use Rattle.pc_play.specs.declared.remark.Remark.{Remark}
use Rattle.pc_inputs.specs.declared.status.Status.{Status}
use Rattle.pc_inputs.specs.declared.status.Status.TheVariants.{LinkFault, Whole, NoMemory}
use Rattle.pc_inputs.specs.Command.{files_of}
use Rattle.pc_inputs.specs.Reading.{◌>>=◌, FileTexts, IsFromFiles}
use Rattle.pc_inputs.specs.Plan.{Planned, all_rise, logs_of, logs_read, plan_behind, plan_to_play}
use Rattle.parcon.specs.Starts.{Begins, Sends, Sent, SendsStarts}
use Rattle.pc_model.specs.declared.outcome.Start.{Start}
use Rattle.pc_offset_client.specs.declared.fault.ClientFault.{ClientFault}
use Rattle.pc_offset_client.specs.declared.fault.ClientFault.TheVariants as client
use Rattle.pc_play.specs.Play.{IsAborted, Moment, IsPlayed, Play, PlaysTo, start}
use Rattle.pc_inputs.specs.Status.{client_status, fault_line}
use Rattle.parcon.specs.Ending.{output_of, play_text, text_with, wanted_status}
use Rattle.parcon.specs.Written.{HasFront, IsWritten, with_bytes}
use Rattle.parcon.specs.Promise.{Ends, FilesSeen, IsCall, IsCarriedOut, Outside, Plays, given_of, link_at, with_link}
use Rattle.pc_play.specs.Kept.{IsKept}
use Rattle.pc_play.proofs.NoLine.{aborted-same}
use Rattle.parcon.proofs.WrittenLemmas.{front-none, unchanged, with_bytes-none}
use Rattle.pc_inputs.proofs.ReadingLemmas.{any-answers, status-is}
use Rattle.pc_inputs.proofs.PlanLemmas.{files-logs, logs-read-are, logs-rise}
use Rattle.parcon.proofs.SetupLemmas.{default_setup}
use Rattle.pc_play.proofs.NoLine.{kept-at-start, plays-nowhere}

whole-no-line : fault_line Whole ≡ []
unfolding fault_line
whole-no-line = refl

-- a play that went through has no fault line
pub play-output : (play : Play) → play_text play ≡ output_of Whole play
play-output play = sym (ap (λ (x : List ℕ). play_text play ++ x) whole-no-line
    ∙ append-nil (play_text play))

whole-not-memory : Whole ≡ NoMemory → ⊥
whole-not-memory is = cc

-- nothing is written when out of memory
pub unwritten : (before after : Option (List ℕ)) (f f' : ℕ) (text : List ℕ) (wanted given : Status)
    → (wanted ≡ NoMemory → text ≡ []) → given ≡ NoMemory → after ≡ before
    → IsWritten before after f f' text wanted given
unwritten before after f f' text wanted given empty is same = record {
  status = inr (inr is);
  front = subst (λ (x : Option (List ℕ)). HasFront before x text) (sym same)
      (front-none before text);
  whole = λ whole. same ∙ sym (with_bytes-none before)
      ∙ sym (ap (with_bytes before) (empty (sym whole ∙ is)));
}

none-no-line : (s : Status) → s ≡ NoMemory → output_of s start ≡ []
unfolding fault_line
none-no-line s is = ap (λ (x : Status). output_of x start) is

-- ---- how a play ends

module _ (given : Given) (before after : Outside) where
  -- nothing was played when out of memory
  pub ends-wanting : (lines : Result (List PlayLine) Status) (status : Status) (h : List Event)
      → status ≡ NoMemory → h ≡ [] → after.written ≡ before.written
      → link_at after ≡ link_at before → Ends given lines before after status h
  ends-wanting lines status h is none same link = record {
    count = 0;
    play = start;
    last = link_at before;
    plays = plays-nowhere before.is_told given start (link_at before);
    history_is = none;
    all = λ not. absurd (not is);
    end = λ not. absurd (not is);
    stopped = aborted-same before.is_told (link_at before) (link_at after) link;
    output = unwritten before.written after.written before.write_faults after.write_faults
        (output_of (wanted_status lines) start) (wanted_status lines) status
        (none-no-line (wanted_status lines)) is same;
  }

  -- the play did not begin, as the lines say or when out of memory
  pub ends-unplayed : (lines : Result (List PlayLine) Status) (s status : Status)
      (h : List Event) → (s ≡ NoMemory) ⊎ (lines ≡ Err s) → h ≡ []
      → link_at after ≡ link_at before
      → IsWritten before.written after.written before.write_faults after.write_faults
      (fault_line s) s status → (s ≡ NoMemory → status ≡ NoMemory)
      → Ends given lines before after status h
  ends-unplayed lines s status h (inl wanting) none link written memory =
      ends-wanting lines status h (memory wanting) none
      (unchanged before.written after.written s wanting written.front) link
  ends-unplayed lines s status h (inr is) none link written memory =
      subst (λ (l : Result (List PlayLine) Status). Ends given l before after status h) (sym is)
      (record {
        count = 0;
        play = start;
        last = link_at before;
        plays = plays-nowhere before.is_told given start (link_at before);
        history_is = none;
        all = λ not. refl;
        end = λ not. link;
        stopped = aborted-same before.is_told (link_at before) (link_at after) link;
        output = written;
      })

  -- the play went through, or memory ran out in it
  pub ends-played : {V E : Type 0} (items : V → List Remark) (lines : List PlayLine)
      (remarks : Result V E) (status : Status) (h h' : List Event) (last : Moment)
      → IsPlayed items before.is_told given lines (link_at before) last h' remarks
      → h ≡ h' → link_at after ≡ last
      → MatchResult remarks
      (λ r. IsWritten before.written after.written before.write_faults after.write_faults
      (text_with h' (items r)) Whole status)
      (λ e. (status ≡ NoMemory) × (after.written ≡ before.written))
      → Ends given (Ok lines) before after status h
  ends-played items lines (Ok r) status h h' last plays same link written = record {
    count = length lines;
    play = record { history = h'; hand = plays.0; remarks = items r };
    last = last;
    plays = subst (λ (l : List PlayLine). PlaysTo before.is_told given start (link_at before) l
        (record { history = h'; hand = plays.0; remarks = items r }) last)
        (sym (take_all (length lines) lines (omega arith))) plays.1;
    history_is = same;
    all = λ not. take_all (length lines) lines (omega arith);
    end = λ not. link;
    stopped = aborted-same before.is_told last (link_at after) link;
    output = subst (λ (t : List ℕ). IsWritten before.written after.written before.write_faults
        after.write_faults t Whole status)
        (play-output (record { history = h'; hand = plays.0; remarks = items r })) written;
  }
  ends-played items lines (Err e) status h h' last stops same link written = record {
    count = stops.count;
    play = stops.play;
    last = stops.last;
    plays = stops.plays;
    history_is = same ∙ stops.history_is;
    all = λ not. absurd (not written.0);
    end = λ not. absurd (not written.0);
    stopped = subst (λ (m : Moment). IsAborted before.is_told stops.last m) (sym link)
        stops.stopped;
    output = unwritten before.written after.written before.write_faults after.write_faults
        (output_of Whole stops.play) Whole status (λ is. absurd (whole-not-memory is)) written.0
        written.1;
  }

-- ---- from what a play keeps

-- a history that is kept is sound over a link that tells its store, and orderly
pub plays-kept : (given : Given) (lines : Result (List PlayLine) Status) (before after : Outside)
    (status : Status) (h h' : List Event) → IsKept given before.store after.store h' → h ≡ h'
    → Ends given lines before after status h → Plays given lines before after status h
plays-kept given lines before after status h h' is same ends =
    let legal : IsLegal given h = subst (IsLegal given) (sym same) is.legal in
    record {
      legal = legal;
      sound = λ told. is_sound given h told legal;
      orderly = is_orderly given h legal;
      stored = λ told p log. subst
          (λ (k : List Event). In (kept_for after.store p) (may_store given k p))
          (sym same) (is.stored told p log);
      others = is.others;
      ends = ends;
    }

-- a play that did not begin
pub plays-none : (setup : Setup) (logs : List (Option (List Record)))
    (lines : Result (List PlayLine) Status) (before after : Outside) (s status : Status)
    (h : List Event) → IsLegal (given_by setup logs [] before.is_told outcome_of (kept_for before.store)) []
    → link_at after ≡ link_at before → (s ≡ NoMemory) ⊎ (lines ≡ Err s) → h ≡ []
    → IsWritten before.written after.written before.write_faults after.write_faults
    (fault_line s) s status → (s ≡ NoMemory → status ≡ NoMemory)
    → Plays (given_by setup logs [] before.is_told outcome_of (kept_for before.store)) lines before after
    status h
plays-none setup logs lines before after s status h legal same is none written memory =
    plays-kept (given_by setup logs [] before.is_told outcome_of (kept_for before.store)) lines before after
    status h []
    (subst (λ (b : Broker). IsKept (given_by setup logs [] before.is_told outcome_of (kept_for before.store))
    before.store b []) (sym (ap (λ (m : Moment). m.store) same)) (kept-at-start setup logs
    before.is_told before.store legal))
    none
    (ends-unplayed (given_by setup logs [] before.is_told outcome_of (kept_for before.store)) before after
    lines s status h is none same written memory)

-- a plan that is not carried out: nothing was sent, and nothing was played
pub carried-none : (logs : List (Option (List Record))) (plan : Result Planned Status)
    (before after : Outside) (s status : Status) (h : List Event) → all_rise logs ≡ true
    → link_at after ≡ link_at before → (s ≡ NoMemory) ⊎ (plan ≡ Err s) → h ≡ []
    → IsWritten before.written after.written before.write_faults after.write_faults
    (fault_line s) s status → (s ≡ NoMemory → status ≡ NoMemory)
    → IsCarriedOut logs plan before after status h
carried-none logs plan before after s status h rise same (inl wanting) none written memory =
    inl (record {
      memory = memory wanting;
      nothing = none;
      link = same;
      written = unchanged before.written after.written s wanting written.front;
    })
carried-none logs plan before after s status h rise same (inr is) none written memory =
    subst (λ (p : Result Planned Status). IsCarriedOut logs p before after status h) (sym is)
    (inr (record {
      setup = default_setup;
      setup_is = tt;
      answer = Ok tt;
      between = link_at before;
      begins = record {
        count = 0;
        last = link_at before;
        sends = (refl, refl);
        all = λ not. refl;
        end = λ not. refl;
        stopped = aborted-same before.is_told (link_at before) (link_at before) refl;
      };
      plays = plays-none default_setup logs (Err s) before after s status h rise same (inr refl)
          none
          written memory;
    }))

-- ---- the starts were sent

-- all that were to be sent
pub all-begin : (told : Bool) (starts : List Start) (m n : Moment) (answer : Sent) (status : Status)
    → SendsStarts told starts m n answer → Begins told starts m n answer status
all-begin told starts m n answer status sends = record {
  count = length starts;
  last = n;
  sends = subst (λ (ss : List Start). SendsStarts told ss m n answer)
      (sym (take_all (length starts) starts (omega arith))) sends;
  all = λ not. take_all (length starts) starts (omega arith);
  end = λ not. refl;
  stopped = aborted-same told n n refl;
}

module _ (setup : Setup) (logs : List (Option (List Record))) (lines : List PlayLine)
    (before : Outside) (between : Moment) (after : Outside) (status : Status) (h : List Event) where
  -- all were stored, and the lines were played
  pub carried-played : SendsStarts before.is_told setup.settings.starts (link_at before) between (Ok
      tt)
      → Plays (given_of setup logs before.is_told between.store) (Ok lines)
      (with_link before between) after status h
      → IsCarriedOut logs (Ok (record { settings = setup.settings; lines = lines })) before after
      status h
  carried-played sends plays = inr (record {
    setup = setup;
    setup_is = refl;
    answer = Ok tt;
    between = between;
    begins = all-begin before.is_told setup.settings.starts (link_at before) between (Ok tt) status
        sends;
    plays = plays;
  })

  -- one was not stored, or memory ran out
  pub carried-unsent : (fault : ClientFault)
      → Sends before.is_told setup.settings.starts (link_at before) between (Err fault)
      → all_rise logs ≡ true → link_at after ≡ between → h ≡ []
      → IsWritten before.written after.written before.write_faults after.write_faults
      (fault_line (client_status fault)) (client_status fault) status
      → (client_status fault ≡ NoMemory → status ≡ NoMemory)
      → IsCarriedOut logs (Ok (record { settings = setup.settings; lines = lines })) before after
      status h
  carried-unsent client.NoMemory sends rise same none written memory = inr (record {
    setup = setup;
    setup_is = refl;
    answer = Ok tt;
    between = between;
    begins = record {
      count = sends.count;
      last = sends.last;
      sends = sends.sends;
      all = λ not. absurd (not (memory refl));
      end = λ not. absurd (not (memory refl));
      stopped = sends.stopped;
    };
    plays = plays-none setup logs (Ok lines) (with_link before between) after NoMemory status h rise
        same (inl refl) none written memory;
  })
  carried-unsent fault sends rise same none written memory = inr (record {
    setup = setup;
    setup_is = refl;
    answer = Err fault;
    between = between;
    begins = all-begin before.is_told setup.settings.starts (link_at before) between (Err fault)
        status sends;
    plays = plays-none setup logs (Err (LinkFault fault)) (with_link before between) after
        (LinkFault fault) status h rise same (inr refl) none written memory;
  })

-- what a step with a status says of the plan
pub status-of : {A : Type 0} (plan : Result Planned Status) (s : Status)
    → ◌≡◌ {A = Result A Status} (Err s) (Err NoMemory)
    ⊎ ◌≡◌ {A = Result Planned Status} (Err s) plan
    → (s ≡ NoMemory) ⊎ (plan ≡ Err s)
status-of plan s (inl is) = inl (status-is s NoMemory is)
status-of plan s (inr is) = inr (sym is)

-- a plan with the same logs
pub carried-along : (logs logs' : List (Option (List Record))) (plan plan' : Result Planned Status)
    (before after : Outside) (status : Status) (h : List Event) → logs ≡ logs' → plan ≡ plan'
    → IsCarriedOut logs plan before after status h → IsCarriedOut logs' plan' before after status h
carried-along logs logs' plan plan' before after status h are is carried =
    subst (λ (p : Result Planned Status). IsCarriedOut logs' p before after status h) is
    (subst (λ (l : List (Option (List Record))). IsCarriedOut l plan before after status h) are
    carried)

-- ---- a call of the program

module _ (words : List (List ℕ)) (files files' : FilesSeen) (before after : Outside) where
  -- the files were read, and this came of them
  pub call-played : (texts : FileTexts) (status : Status) (h : List Event)
      → IsFromFiles words files.contents files.faults files'.faults (Ok texts)
      → IsCarriedOut (logs_of texts.logs) (plan_behind texts) before after status h
      → IsCall words files files' before after status h
  call-played texts status h from carried = record {
    reads = from.reads;
    answers = from.answers;
    carried_out = carried-along (logs_of texts.logs) (logs_read from.reads.logs)
        (plan_behind texts) (plan_to_play words from.reads) before after status h
        (sym (logs-read-are 0 from.reads.logs texts.logs
        (files-logs words from.reads texts from.texts)))
        (sym (ap (λ (r : Result FileTexts Status). r >>= plan_behind) from.texts)) carried;
  }

  -- the files were not read, or memory was wanting for it
  pub call-unplayed : {A : Type 0} (s status : Status) (h : List Event)
      → ◌≡◌ {A = Result A Status} (Err s) (Err NoMemory)
      ⊎ IsFromFiles words files.contents files.faults files'.faults (Err s)
      → link_at after ≡ link_at before → h ≡ []
      → IsWritten before.written after.written before.write_faults after.write_faults
      (fault_line s) s status → (s ≡ NoMemory → status ≡ NoMemory)
      → IsCall words files files' before after status h
  call-unplayed s status h (inl is) same none written memory =
      let any = any-answers (files_of words) files.contents files.faults files'.faults in
      record {
        reads = any.0;
        answers = any.1;
        carried_out = carried-none (logs_read any.0.logs) (plan_to_play words any.0) before after s
            status h (logs-rise any.0.logs) same (inl (status-is s NoMemory is)) none written
            memory;
      }
  call-unplayed s status h (inr from) same none written memory = record {
    reads = from.reads;
    answers = from.answers;
    carried_out = carried-none (logs_read from.reads.logs) (plan_to_play words from.reads) before
        after s status h (logs-rise from.reads.logs) same
        (inr (ap (λ (r : Result FileTexts Status). r >>= plan_behind) from.texts)) none written
        memory;
  }
