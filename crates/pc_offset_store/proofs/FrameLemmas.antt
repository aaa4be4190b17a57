-- A frame is answered as the request that it is.
use Rattle.std.proofs.Common.{◌≡◌, ◌∙◌, ℕ, ◌≤◌, ◌<◌, ◌^◌, List, length, Result, Ok, Err, true, false, ltb, refl, ap, subst, inl, inr, arith}
use Rattle.std.specs.Prelude.{IfOk, OnErr, OnOk}
use Rattle.std.proofs.lemmas.Bool.{cases_Bool, lt-ltb, ltb-true, ltb-false}
use Rattle.pc_model.specs.declared.wire_fault.WireFault.{WireFault}
use Rattle.pc_model.specs.Broker.{Broker, Request, Refusal, Unread, TooLong as LongReply, after_request, broker_step, commits_read, fetches_read, is_fetch, reply_body, request_reading, step_of}
use Rattle.pc_model.specs.Messages.{CommitRequest, FetchRequest, frame_spelling}
use Rattle.pc_model.specs.MessageReading.{commit_request_reading, fetch_request_reading}
use Rattle.pc_world.specs.declared.link.TheConstants.{MAX_FRAME_BYTES}
use Rattle.pc_offset_store.specs.declared.fault.BrokerFault.{BrokerFault}
use Rattle.pc_offset_store.specs.declared.fault.BrokerFault.TheVariants.{NoMemory, TooLong, UnknownPart, Wire}
use Rattle.pc_offset_store.specs.Steps.{IsAnswered, IsReply}

-- ---- the request of a frame

pub commits-reading : (frame : List ℕ) (read : Result CommitRequest WireFault) → is_fetch frame ≡ false
    → commit_request_reading frame ≡ read → request_reading frame ≡ commits_read read
unfolding request_reading
commits-reading frame read key e = rw key (ap commits_read e)

pub fetches-reading : (frame : List ℕ) (read : Result FetchRequest WireFault) → is_fetch frame ≡ true
    → fetch_request_reading frame ≡ read → request_reading frame ≡ fetches_read read
unfolding request_reading
fetches-reading frame read key e = rw key (ap fetches_read e)

-- a fact that holds whatever the result
pub on_ok : {T E P : Type 0} (result : Result T E) → P → OnOk result P
on_ok (Ok x) p = p
on_ok (Err e) p = tt

-- ---- what a frame is answered

pub answered-unread : (b : Broker) (frame : List ℕ) (fault : WireFault)
    → request_reading frame ≡ Err fault → (broker_step b frame ≡ Err (Unread fault)) × (b ≡ b)
answered-unread b frame fault e = (ap (step_of b) e, refl)

module _ {V : Type 0} (view : V → List ℕ) where
  abbrev done : List ℕ × Broker → Result (List ℕ × Broker) Refusal
  done step = Ok step

  not-long : (b : Broker) (r : Request) → length (reply_body b r) < 2 ^ 31
      → step_of b (Ok r) ≡ Err LongReply → ⊥
  not-long b r short e =
      let fits = lt-ltb _ _ short in
      let is : done (frame_spelling (reply_body b r), after_request r b) ≡ Err LongReply = rw fits at e in
      absurd cc

  long-frame : (b : Broker) (r : Request) (frame : List ℕ)
      → (length frame ≤ MAX_FRAME_BYTES → length (reply_body b r) < 2 ^ 31)
      → step_of b (Ok r) ≡ Err LongReply → MAX_FRAME_BYTES < length frame
  long-frame b r frame short e = elim (cases_Bool (ltb MAX_FRAME_BYTES (length frame))) [
    | inl long ↦ ltb-true _ _ long
    | inr few ↦ absurd (not-long b r (short (ltb-false _ _ few)) e)
  ]

  pub answered-reply : (result : Result V BrokerFault) (r : Request) (frame : List ℕ) (old new : Broker)
      → request_reading frame ≡ Ok r
      → (length frame ≤ MAX_FRAME_BYTES → length (reply_body old r) < 2 ^ 31)
      → IsReply result view r old new → IsAnswered result view frame old new
  answered-reply (Ok reply) r frame old new read short is = ap (step_of old) read ∙ is
  answered-reply (Err TooLong) r frame old new read short is =
      (ap (step_of old) read ∙ is.0, long-frame old r frame short is.0, is.1)
  answered-reply (Err NoMemory) r frame old new read short is = is
  answered-reply (Err UnknownPart) r frame old new read short is = absurd is
  answered-reply (Err (Wire fault)) r frame old new read short is = absurd is

  -- ---- what the answer tells

  pub answer-step : (result : Result V BrokerFault) (frame : List ℕ) (old new : Broker)
      → IsAnswered result view frame old new
      → IfOk result (λ reply. broker_step old frame ≡ Ok (view reply, new))
  answer-step (Ok reply) frame old new is = is
  answer-step (Err fault) frame old new is = tt

  pub answer-stays : (result : Result V BrokerFault) (frame : List ℕ) (old new : Broker)
      → IsAnswered result view frame old new → OnErr result (new ≡ old)
  answer-stays (Ok reply) frame old new is = tt
  answer-stays (Err (Wire fault)) frame old new is = is.1
  answer-stays (Err TooLong) frame old new is = is.2
  answer-stays (Err NoMemory) frame old new is = is
  answer-stays (Err UnknownPart) frame old new is = absurd is

  module _ (result : Result V BrokerFault) (frame : List ℕ) (old new : Broker)
      (is : IsAnswered result view frame old new) where
    at : (fault : BrokerFault) → result ≡ Err fault → IsAnswered {V = V} (Err fault) view frame old new
    at fault e = subst (λ (r : Result V BrokerFault). IsAnswered r view frame old new) e is

    pub answer-unread : (fault : WireFault) → result ≡ Err (Wire fault)
        → broker_step old frame ≡ Err (Unread fault)
    answer-unread fault e = (at (Wire fault) e).0

    pub answer-long : result ≡ Err TooLong → broker_step old frame ≡ Err LongReply
    answer-long e = (at TooLong e).0

    pub answer-known : result ≡ Err UnknownPart → ⊥
    answer-known e = at UnknownPart e

    pub answer-short : length frame ≤ MAX_FRAME_BYTES → result ≡ Err TooLong → ⊥
    answer-short le e = let long = (at TooLong e).1 in absurd (omega arith)
