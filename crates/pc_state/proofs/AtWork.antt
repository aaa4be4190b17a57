-- A record that was polled and is incomplete, as that of a job which is out and current.
use Rattle.std.proofs.Common.{cond, ◌≡◌, ℕ, ◌<◌, Bool, true, false, not, map, ◌&&◌, ◌==◌, List, [], ◌∷◌, length, Option, Some, None, refl, ap, sym, subst, ◌∙◌, inl, inr, eq-eqb, get_or, slice_get}
use Rattle.std.specs.Prelude.{filter, find, is_some}
use Rattle.std.specs.List.{list_any}
use Rattle.std.specs.Option.{option_flatten, option_map, unwrap_or}
use Rattle.std.proofs.lemmas.Bool.{cases_Bool, eqb-true}
use Rattle.std.proofs.lemmas.Option.{slice_get_within}
use Rattle.pc_model.specs.declared.event.Event.{Event}
use Rattle.pc_model.specs.Record.{Record}
use Rattle.pc_model.specs.Marks.{incomplete_offsets}
use Rattle.pc_model.specs.Given.{Given, record_at, records_of}
use Rattle.pc_model.specs.Jobs.{Job, is_settled, job_of, open_jobs}
use Rattle.pc_model.specs.Epochs.{epoch_of, is_current, is_held}
use Rattle.pc_model.specs.Known.{is_complete, known_records, marks_of, polled_records}
use Rattle.pc_model.specs.Next.{is_first as is_first_record}
use Rattle.pc_model.specs.Retry.{failures_of}
use Rattle.pc_model.specs.Lawful.{IsLegal}
use Rattle.pc_laws.specs.Lists.{In}
use Rattle.pc_laws.proofs.Lists.{In-append_left, In-filter, In-filtered, In-find, In-map, In-mapped, list_any-In, true-not-false}
use Rattle.pc_laws.proofs.FirstLaw.{job-first, record_at-In}
use Rattle.pc_laws.proofs.KeptLaw.{is_kept}
use Rattle.pc_laws.proofs.Rising.{Rises-same, legal-rises}
use Rattle.pc_laws.proofs.OrderlyLaw.{polled-record}
use Rattle.pc_laws.proofs.Passing.{In-incomplete, option_cases}
use Rattle.pc_shards.proofs.Lists.{and-both}
use Rattle.pc_shards.specs.Entries.{Entry, entry_at, is_first, is_first_offset, of_part}
use Rattle.pc_shards.specs.OpenEntries.{entry_of, open_entries}
use Rattle.pc_shards.proofs.OpenEntriesLaws.{is_first-entry}
use Rattle.pc_state.specs.declared.jobs.OpenJob.{OpenJob}
use Rattle.pc_state.specs.declared.part.HeldPart.{HeldPart}
use Rattle.pc_state.specs.declared.part.PartState.{PartState}
use Rattle.pc_state.specs.declared.state.State.{State}
pub use Rattle.pc_state.specs.Calls.{IsAtWork}
use Rattle.pc_state.specs.OpenJobs.{kept_job, open_job}
use Rattle.pc_state.specs.State.{Knows, KnowsHeld, KnowsPart, PartKeeps, entries_of, is_kept_back}
use Rattle.pc_laws.proofs.TicketLaw.{find-open_jobs}
use Rattle.pc_state.proofs.StateLemmas.{entries-free, entries-held}

unsettled : (o : Option Job) (settled : Bool) (j : Job) → cond settled None o ≡ Some j → o ≡ Some j
unsettled o true j is = cc
unsettled o false j is = is

pub at-work : (given : Given) (h : List Event) (t p o : ℕ) (job : OpenJob)
    → option_map kept_job (open_job h t) ≡ Some job → job.part ≡ p → job.offset ≡ o
    → job.epoch ≡ epoch_of h p → is_held h p ≡ true → IsAtWork h t p o
unfolding open_job
at-work given h t p o job kept part offset epoch held =
    elim (option_cases (find (λ (j : Job). j.ticket == t) (open_jobs h))) [
      | inl none ↦ let nothing = rw none at kept in cc nothing
      | inr some ↦
          let same : Some (kept_job some.0) ≡ Some job = rw some.1 at kept in
          let is : kept_job some.0 ≡ job = cc in
          let at = In-find (λ (j : Job). j.ticket == t) some.0 (open_jobs h) some.1 in
          record {
            job = some.0;
            is = unsettled (job_of h t) (is_settled h t) some.0 (sym (find-open_jobs h t) ∙ some.1);
            out = at.0;
            ticket = eqb-true some.0.ticket t at.1;
            part = ap (λ (k : OpenJob). k.part) is ∙ part;
            offset = ap (λ (k : OpenJob). k.offset) is ∙ offset;
            epoch = ap (λ (k : OpenJob). k.epoch) is ∙ epoch;
            held = held;
          }
    ]

-- its record, which was polled and is incomplete, and is the first of its key
pub record IsOpen (given : Given) (h : List Event) (p o : ℕ) : Type 0 where
  pub entry : Record
  pub polled : In entry (polled_records given h p)
  pub offset : entry.offset ≡ o
  pub incomplete : is_complete h p o ≡ false
  pub first : is_first_record given h p entry ≡ true

pub open-at : (given : Given) (h : List Event) (t p o : ℕ) → IsLegal given h
    → IsAtWork h t p o
    → IsOpen given h p o
open-at given h t p o legal work =
    let current : is_current h work.job ≡ true =
    subst (λ (q : ℕ). (is_held h q && (work.job.epoch == epoch_of h q)) ≡ true) (sym work.part)
    (rw (work.held, eq-eqb work.job.epoch (epoch_of h p) work.epoch) refl) in
    let works = (is_kept given h legal).jobs.working work.job work.out current in
    record {
      entry = works.polled.0;
      polled = subst (λ (q : ℕ). In works.polled.0 (polled_records given h q)) work.part
          works.polled.1;
      offset = works.polled.2 ∙ work.offset;
      incomplete = subst (λ (u : ℕ). is_complete h p u ≡ false) work.offset
          (subst (λ (q : ℕ). is_complete h q work.job.offset ≡ false) work.part works.incomplete);
      first = subst (λ (q : ℕ). is_first_record given h q works.polled.0 ≡ true) work.part
          (job-first given h legal work.job works.polled.0 work.out current works.polled.1
          works.polled.2);
    }

-- its part has a log
pub polled-below : (given : Given) (h : List Event) (p : ℕ) (r : Record) → In r
    (polled_records given h p)
    → p < length given.logs
polled-below given h p r i = below (slice_get given.logs p) refl (polled-record given h p r i).0
  where
    below : (log : Option (Option (List Record))) → slice_get given.logs p ≡ log
        → In r (unwrap_or (option_flatten log) []) → p < length given.logs
    below None is j = absurd j
    below (Some log) is j = slice_get_within given.logs p log is

-- its entry is the first of its ordering key
open-first : (given : Given) (h : List Event) (p o : ℕ) → is_held h p ≡ true → IsOpen given h p o
    → is_first_offset given.setup.settings.order p (entries_of given h p) o ≡ true
open-first given h p o held at =
    let busy : Record → Bool = λ r. is_kept_back given h p r.offset in
    let failures : Record → ℕ = λ r. failures_of h p r.offset in
    let incomplete : not (is_complete h p at.entry.offset) ≡ true =
    subst (λ (u : ℕ). not (is_complete h p u) ≡ true) (sym at.offset) (ap not at.incomplete) in
    let i : In (entry_of busy failures at.entry) (open_entries given h p busy failures) =
    In-map (entry_of busy failures) at.entry
    (filter (λ (r : Record). not (is_complete h p r.offset)) (polled_records given h p))
    (In-filter (λ (r : Record). not (is_complete h p r.offset)) at.entry (polled_records given h p)
    at.polled incomplete) in
    let first : is_first given.setup.settings.order p (open_entries given h p busy failures)
    (entry_of busy failures at.entry) ≡ true =
    is_first-entry given h p busy failures at.entry ∙ at.first in
    subst (λ (es : List Entry). is_first_offset given.setup.settings.order p es o ≡ true)
    (sym (entries-held given h p held))
    (list_any-In (λ (e : Entry). (e.record.offset == o) && is_first given.setup.settings.order p
    (open_entries given h p busy failures) e)
    (entry_of busy failures at.entry) (open_entries given h p busy failures) i
    (and-both (at.entry.offset == o) _ (eq-eqb at.entry.offset o at.offset) first))

pub some-same : {X : Type 0} {x y : X} → ◌≡◌ {A = Option X} (Some x) (Some y) → x ≡ y
some-same is = cc

-- the entry of a record is found by its offset, where no other is there
find-entry : (o : ℕ) (busy : Record → Bool) (failures : Record → ℕ) (keep : Record → Bool)
    (r : Record) (rs : List Record) → In r rs → r.offset ≡ o → keep r ≡ true
    → ((q : Record) → In q rs → q.offset ≡ o → q ≡ r)
    → find (λ (e : Entry). e.record.offset == o) (map (entry_of busy failures) (filter keep rs))
    ≡ Some (entry_of busy failures r)
find-entry o busy failures keep r [] i at kept only = absurd i
find-entry o busy failures keep r (q ∷ qs) i at kept only = elim (cases_Bool (q.offset == o)) [
  | inl here ↦
      let same : q ≡ r = only q (inl refl) (eqb-true q.offset o here) in
      let keeps : keep q ≡ true = ap keep same ∙ kept in
      rw (keeps, here) (ap (λ (x : Record). Some (entry_of busy failures x)) same)
  | inr apart ↦
      let more = find-entry o busy failures keep r qs (later apart i) at kept
      (λ x j is. only x (inr j) is) in
      elim (cases_Bool (keep q)) [
        | inl keeps ↦ rw (keeps, apart) more
        | inr out ↦ rw out more
      ]
]
  where
    later : (q.offset == o) ≡ false → In r (q ∷ qs) → In r qs
    later apart (inl same) = true-not-false (q.offset == o)
        (eq-eqb q.offset o (ap (λ (x : Record). x.offset) (sym same) ∙ at)) apart
    later apart (inr j) = j

module _ (given : Given) (h : List Event) (p o : ℕ) (legal : IsLegal given h)
    (at : IsOpen given h p o) where
  open-only : (q : Record) → In q (polled_records given h p) → q.offset ≡ o → q ≡ at.entry
  open-only q i is = Rises-same 0 q at.entry (records_of given p) (legal-rises given h legal p)
      (polled-record given h p q i).0 (polled-record given h p at.entry at.polled).0
      (is ∙ sym at.offset)

  pub open-record : record_at given p o ≡ Some at.entry
  open-record = subst (λ (u : ℕ). record_at given p u ≡ Some at.entry) at.offset
      (record_at-In given h legal p at.entry (polled-record given h p at.entry at.polled).0)

-- in the state its entry is found by its offset
pub entry-found : (given : Given) (h : List Event) (s : State) (p o : ℕ) → Knows given h s
    → is_held h p ≡ true → (at : IsOpen given h p o)
    → find (λ e. e.record.offset == o) (of_part s.shards p)
    ≡ Some (entry_of (λ r. is_kept_back given h p r.offset) (λ r. failures_of h p r.offset) at.entry)
entry-found given h s p o knows held at = rw (knows.entries p, entries-held given h p held)
    (find-entry o (λ r. is_kept_back given h p r.offset) (λ r. failures_of h p r.offset)
    (λ r. not (is_complete h p r.offset)) at.entry (polled_records given h p) at.polled at.offset
    (subst (λ (u : ℕ). not (is_complete h p u) ≡ true) (sym at.offset) (ap not at.incomplete))
    (open-only given h p o knows.legal at))

-- in the state its offset is the first of its key
pub state-first : (given : Given) (h : List Event) (s : State) (p o : ℕ) → Knows given h s
    → is_held h p ≡ true → IsOpen given h p o
    → is_first_offset s.shards.order p (of_part s.shards p) o ≡ true
state-first given h s p o knows held at = rw (knows.order, knows.entries p)
    (open-first given h p o held at)

-- and in the window it is incomplete
pub window-incomplete : (given : Given) (h : List Event) (p o : ℕ) (held : HeldPart)
    → IsOpen given h p o
    → KnowsHeld given h p held → list_any (λ u. u == o) held.window.window.incomplete ≡ true
unfolding marks_of known_records
window-incomplete given h p o held at knows =
    subst (λ (os : List ℕ). list_any (λ u. u == o) os ≡ true) (sym knows.stands.incomplete)
    (list_any-In (λ (u : ℕ). u == o) at.entry.offset
    (incomplete_offsets (marks_of given h p))
    (In-incomplete (is_complete h p) (known_records given h p) at.entry
    (In-append_left at.entry (polled_records given h p) _ at.polled)
    (subst (λ (u : ℕ). is_complete h p u ≡ false) (sym at.offset) at.incomplete))
    (eq-eqb at.entry.offset o at.offset))

-- the record of an entry that the state has is the log's
pub entry-record : (given : Given) (h : List Event) (s : State) (p o : ℕ) (e : Entry)
    → Knows given h s → entry_at o (of_part s.shards p) ≡ Some e
    → record_at given p o ≡ Some e.record
entry-record given h s p o e knows found = elim (cases_Bool (is_held h p)) [
  | inl held ↦
      let busy : Record → Bool = λ r. is_kept_back given h p r.offset in
      let failures : Record → ℕ = λ r. failures_of h p r.offset in
      let here : entry_at o (open_entries given h p busy failures) ≡ Some e =
      rw (knows.entries p, entries-held given h p held) at found in
      let in_part = In-find (λ (x : Entry). x.record.offset == o) e
      (open_entries given h p busy failures) here in
      let from = In-mapped (entry_of busy failures) e
      (filter (λ (r : Record). not (is_complete h p r.offset)) (polled_records given h p)) in_part.0 in
      let polled = (In-filtered (λ (r : Record). not (is_complete h p r.offset)) from.0
      (polled_records given h p) from.1).0 in
      let same : from.0 ≡ e.record = ap (λ (x : Entry). x.record) from.2 in
      subst (λ (r : Record). record_at given p o ≡ Some r) same
      (subst (λ (u : ℕ). record_at given p u ≡ Some from.0)
      (ap (λ (r : Record). r.offset) same ∙ eqb-true e.record.offset o in_part.1)
      (record_at-In given h knows.legal p from.0 (polled-record given h p from.0 polled).0))
  | inr free ↦
      let nothing : ◌≡◌ {A = Option Entry} None (Some e) =
      rw (knows.entries p, entries-free given h p free) at found in
      cc nothing
]

-- what is kept of the part
pub held-known : (given : Given) (h : List Event) (s : State) (p : ℕ) (part : PartState)
    (held : HeldPart)
    → Knows given h s → p < length given.logs → part ≡ get_or s.parts.items p part
    → part.held ≡ Some held → KnowsHeld given h p held
held-known given h s p part held knows below is some =
    let keeps : PartKeeps given h p part = subst (λ (x : PartState). PartKeeps given h p x) (sym is)
    (knows.each p part below) in
    subst (λ (x : Option HeldPart). KnowsPart given h p x) some keeps.knows

pub held-some : (given : Given) (h : List Event) (s : State) (p : ℕ) (part : PartState)
    → Knows given h s → p < length given.logs → is_held h p ≡ true
    → part ≡ get_or s.parts.items p part → part.held ≡ None → ⊥
held-some given h s p part knows below held is none =
    let keeps : PartKeeps given h p part = subst (λ (x : PartState). PartKeeps given h p x) (sym is)
    (knows.each p part below) in
    let nothing : false ≡ true = ap is_some (sym none) ∙ keeps.held ∙ held in cc nothing
