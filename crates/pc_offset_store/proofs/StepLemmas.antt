-- The step of a request that was answered, and of one whose reply is too long.
use Rattle.std.proofs.Common.{◌≡◌, ℕ, ◌<◌, ◌^◌, ℤ, List, length, map, Ok, Err, ltb, refl, sym, ap, subst, inl, inr, ◌∙◌}
use Rattle.std.specs.Prelude.{FitsSigned}
use Rattle.std.specs.Int.{w32}
use Rattle.std.specs.List.{flat_map}
use Rattle.std.proofs.lemmas.Bool.{cases_Bool, lt-ltb, ltb-true}
use Rattle.pc_model.specs.Broker.{Broker, Request, Stored, Commits, Fetches, TooLong as LongReply, after_request, commit_reply_of, fetch_entry, fetch_reply_of, item_code, reply_body, step_of}
use Rattle.pc_model.specs.Messages.{AreTopics, CommitCode, CommitRequest, FetchRequest, FetchEntry, IsCommitCode, IsCommitItem, IsCommitReply, IsEntry, IsFetchReply, IsFrame, IsPart, Topic, commit_reply_body, fetch_reply_body, frame_spelling}
use Rattle.pc_offset_wire.specs.declared.fetch.FetchEntry as wire
use Rattle.pc_offset_wire.specs.declared.write_fault.WireWriteFault.{WireWriteFault}
use Rattle.pc_offset_wire.specs.declared.write_fault.WireWriteFault.TheVariants.{TooLong as LongFrame, NoMemory as NoFrame}
use Rattle.pc_offset_wire.specs.Replies.{answered_topics, code_of, commit_reply_to, fetch_reply_to}
use Rattle.pc_offset_wire.specs.Views.{plain_fetch_entry}
use Rattle.pc_world.specs.World.{AreStorable}
use Rattle.pc_offset_store.specs.Store.{accepted_of, codes_of, entries_of, fault_of, put_each}
use Rattle.pc_offset_store.specs.Steps.{IsReply}
use Rattle.pc_offset_store.proofs.AnswerLemmas.{are-answered, topics_made, topics_seen}
use Rattle.pc_offset_store.proofs.FoldLemmas.{after-request, storing}
use Rattle.pc_offset_store.proofs.EntryLemmas.{code-fits, entry-fits}

-- ---- any request

step-fits : (b : Broker) (r : Request) (frame : List ℕ) → IsFrame frame (reply_body b r)
    → step_of b (Ok r) ≡ Ok (frame, after_request r b)
step-fits b r frame spelled =
    rw (lt-ltb _ _ spelled.short) (ap (λ (text : List ℕ). Ok (text, after_request r b)) (sym spelled.is))

step-long : (b : Broker) (r : Request) → (length (reply_body b r) < 2 ^ 31 → ⊥)
    → step_of b (Ok r) ≡ Err LongReply
step-long b r long = elim (cases_Bool (ltb (length (reply_body b r)) (2 ^ 31))) [
  | inl short ↦ absurd (long (ltb-true _ _ short))
  | inr is ↦ rw is refl
]

-- a writer's fault, where the step is that of a reply that is too long
pub refused : {V : Type 0} (view : V → List ℕ) (r : Request) (b : Broker) (fault : WireWriteFault)
    → (fault ≡ LongFrame → step_of b (Ok r) ≡ Err LongReply)
    → IsReply {V = V} (Err (fault_of fault)) view r b b
refused view r b LongFrame long = (long refl, refl)
refused view r b NoFrame long = refl

-- ---- commits

module _ (b : Broker) (r : CommitRequest) (codes : List ℤ) (are : codes ≡ flat_map (codes_of b r) r.topics) where
  same-codes : commit_reply_to r codes ≡ commit_reply_of b r
  same-codes = ap (λ (topics : List (Topic CommitCode)). record { correlation = r.correlation; topics = topics })
      (ap (answered_topics code_of r.topics) are ∙ topics_made (item_code b r) code_of r.topics)

  commits-step : (frame : List ℕ) → IsCommitReply frame (commit_reply_to r codes)
      → step_of b (Ok (Commits r)) ≡ Ok (frame, after_request (Commits r) b)
  unfolding reply_body
  commits-step frame is = step-fits b (Commits r) frame (subst (IsCommitReply frame) same-codes is).spelled

  pub commits-long : FitsSigned w32 r.correlation → AreTopics IsCommitItem r.topics
      → ((frame : List ℕ) → IsCommitReply frame (commit_reply_to r codes) → ⊥)
      → step_of b (Ok (Commits r)) ≡ Err LongReply
  unfolding reply_body
  commits-long fits topics none = step-long b (Commits r)
      (λ short. none (frame_spelling (commit_reply_body (commit_reply_of b r)))
      (subst (IsCommitReply _) (sym same-codes) (record {
        correlation = fits;
        topics = are-answered IsCommitItem IsCommitCode
            (λ name item. record { part = item.part; code = item_code b r name item })
            (λ name item is. code-fits b r name item is) r.topics topics;
        spelled = record { short = short; is = refl };
      })))

-- what was accepted is stored
pub commits-done : (b after : Broker) (r : CommitRequest) (codes : List ℤ) (accepted : List Stored)
    (frame : List ℕ) → codes ≡ flat_map (codes_of b r) r.topics
    → accepted ≡ flat_map (accepted_of b r) r.topics → after ≡ storing b (put_each accepted b.commits)
    → IsCommitReply frame (commit_reply_to r codes) → step_of b (Ok (Commits r)) ≡ Ok (frame, after)
commits-done b after r codes accepted frame are these stored is =
    commits-step b r codes are frame is
    ∙ ap (λ (c : Broker). Ok (frame, c)) (after-request b r
    ∙ ap (λ (ss : List Stored). storing b (put_each ss b.commits)) (sym these) ∙ sym stored)

-- ---- fetches

module _ (b : Broker) (r : FetchRequest) (entries : List wire.FetchEntry)
    (are : map plain_fetch_entry entries ≡ flat_map (entries_of b r) r.topics) where
  abbrev paired : ℤ → FetchEntry → ℤ × FetchEntry
  paired part entry = (part, entry)

  same-entries : fetch_reply_to r entries ≡ fetch_reply_of b r
  same-entries = ap (λ (topics : List (Topic (ℤ × FetchEntry))). record { correlation = r.correlation; topics = topics })
      (topics_seen plain_fetch_entry paired r.topics entries
      ∙ ap (answered_topics paired r.topics) are
      ∙ topics_made (fetch_entry b r.group) paired r.topics)

  pub fetches-step : (frame : List ℕ) → IsFetchReply frame (fetch_reply_to r entries)
      → step_of b (Ok (Fetches r)) ≡ Ok (frame, b)
  unfolding reply_body
  fetches-step frame is = step-fits b (Fetches r) frame (subst (IsFetchReply frame) same-entries is).spelled

  pub fetches-long : AreStorable b → FitsSigned w32 r.correlation → AreTopics IsPart r.topics
      → ((frame : List ℕ) → IsFetchReply frame (fetch_reply_to r entries) → ⊥)
      → step_of b (Ok (Fetches r)) ≡ Err LongReply
  unfolding reply_body
  fetches-long all fits topics none = step-long b (Fetches r)
      (λ short. none (frame_spelling (fetch_reply_body (fetch_reply_of b r)))
      (subst (IsFetchReply _) (sym same-entries) (record {
        correlation = fits;
        topics = are-answered IsPart IsEntry (λ name part. (part, fetch_entry b r.group name part))
            (λ name part is. entry-fits b r.group name part all is) r.topics topics;
        spelled = record { short = short; is = refl };
      })))
