-- What is kept of a history after an event that begins a drain or ends it.
use Rattle.std.proofs.Common.{◌≡◌, ℕ, false, List, ◌∷◌, length, refl, ap, sym, ◌∙◌, get_or}
use Rattle.pc_model.specs.declared.event.Event.{Event}
use Rattle.pc_model.specs.declared.event.Event.TheVariants.{Closed, Done, Drain}
use Rattle.pc_model.specs.Given.{Given}
use Rattle.pc_model.specs.Jobs.{jobs_of, open_jobs}
use Rattle.pc_model.specs.OneMore.{touches}
use Rattle.pc_model.specs.Retry.{now_of}
use Rattle.pc_model.specs.Next.{last_part}
use Rattle.pc_model.proofs.SamePart.{other_part}
use Rattle.pc_state.specs.declared.ledger.Ledger.{Ledger}
use Rattle.pc_state.specs.declared.state.State.{State}
use Rattle.pc_state.specs.Ledger.{Counts}
use Rattle.pc_state.specs.State.{Knows, MayCome}
use Rattle.pc_state.proofs.OpenJobsLemmas.{AreOpen-along}
use Rattle.pc_state.proofs.OutLemmas.{out-along}
use Rattle.pc_state.proofs.StateLemmas.{AreWaiting-along, entries-same, is_out-same, part-same, waiting-same}

-- an event that says nothing of any part nor of any job
knows-quiet : (given : Given) (h : List Event) (v : Event) (s : State) (ledger : Ledger)
    → Knows given h s → MayCome given v h → ((p : ℕ) → touches v h p ≡ false)
    → jobs_of (v ∷ h) ≡ jobs_of h → open_jobs (v ∷ h) ≡ open_jobs h → now_of (v ∷ h) ≡ now_of h
    → last_part (v ∷ h) ≡ last_part h → Counts given (v ∷ h) ledger
    → Knows given (v ∷ h) (record s { ledger = ledger })
knows-quiet given h v s ledger knows may untouched jobs same_open now last counts = record {
  setup = knows.setup;
  logs = knows.logs;
  legal = may.legal;
  limit = may.limit;
  count = knows.count;
  few = knows.few;
  few_records = knows.few_records;
  each = λ q d within. part-same given h (v ∷ h) q (get_or s.parts.items q d)
      (other_part given q v h (untouched q)) (knows.each q d within);
  order = knows.order;
  entries = λ q. let same = other_part given q v h (untouched q) in
      knows.entries q ∙ sym (entries-same given h (v ∷ h) q same now
      (λ held o. is_out-same h (v ∷ h) q o same_open same.epoch));
  waiting = AreWaiting-along given h (v ∷ h) s.retries.retries
      (λ q. let same = other_part given q v h (untouched q) in
      waiting-same given h (v ∷ h) q same now
      (λ held o. is_out-same h (v ∷ h) q o same_open same.epoch)) knows.waiting;
  places = rw same_open knows.places;
  part_places = λ q held. let same = other_part given q v h (untouched q) in
      rw (out-along h (v ∷ h) q same_open same.epoch)
      (knows.part_places q (sym same.held ∙ held));
  clock = knows.clock ∙ sym now;
  jobs = AreOpen-along h (v ∷ h) s.jobs same_open knows.jobs;
  dispatched = knows.dispatched ∙ ap length (sym jobs);
  last = knows.last ∙ sym last;
  ledger = counts;
}

module _ (given : Given) (h : List Event) (s : State) (ledger : Ledger) (knows : Knows given h s)
  where
    pub knows-drain : MayCome given Drain h → Counts given (Drain ∷ h) ledger
        → Knows given (Drain ∷ h) (record s { ledger = ledger })
    knows-drain may counts = knows-quiet given h Drain s ledger knows may (λ p. refl) refl refl refl
        refl counts

    pub knows-done : MayCome given Done h → Counts given (Done ∷ h) ledger
        → Knows given (Done ∷ h) (record s { ledger = ledger })
    knows-done may counts = knows-quiet given h Done s ledger knows may (λ p. refl) refl refl refl
        refl counts

    pub knows-closed : MayCome given Closed h → Counts given (Closed ∷ h) ledger
        → Knows given (Closed ∷ h) (record s { ledger = ledger })
    knows-closed may counts = knows-quiet given h Closed s ledger knows may (λ p. refl) refl refl refl
        refl counts
