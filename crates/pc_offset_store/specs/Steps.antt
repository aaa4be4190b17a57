-- How a broker answers a request, and a frame: by the step, and a fault changes nothing.
use Rattle.std.specs.Prelude.{◌≡◌, ◌<◌, ℕ, List, [], ◌∷◌, Result, Ok, Err, length}
use Rattle.pc_model.specs.Broker.{Broker, Refusal, Request, Unread, TooLong as LongReply, broker_step, step_of}
use Rattle.pc_world.specs.declared.link.TheConstants.{MAX_FRAME_BYTES}
use Rattle.pc_offset_store.specs.declared.fault.BrokerFault.{BrokerFault}
use Rattle.pc_offset_store.specs.declared.fault.BrokerFault.TheVariants.{NoMemory, TooLong, UnknownPart, Wire}

-- what a request was answered, whose reply is seen by view
abbrev pub IsReply : {V : Type 0} → Result V BrokerFault → (V → List ℕ) → Request → Broker → Broker
    → Type 0
IsReply (Ok reply) view request old new = step_of old (Ok request) ≡ Ok (view reply, new)
IsReply (Err TooLong) view request old new =
    (step_of old (Ok request) ≡ Err LongReply) × (new ≡ old)
IsReply (Err NoMemory) view request old new = new ≡ old
IsReply (Err UnknownPart) view request old new = ⊥
IsReply (Err (Wire fault)) view request old new = ⊥

-- what a frame was answered; only a reply to a frame that no link is given is too long
abbrev pub IsAnswered : {V : Type 0} → Result V BrokerFault → (V → List ℕ) → List ℕ → Broker → Broker
    → Type 0
IsAnswered (Ok reply) view frame old new = broker_step old frame ≡ Ok (view reply, new)
IsAnswered (Err (Wire fault)) view frame old new =
    (broker_step old frame ≡ Err (Unread fault)) × (new ≡ old)
IsAnswered (Err TooLong) view frame old new =
    (broker_step old frame ≡ Err LongReply) × (MAX_FRAME_BYTES < length frame) × (new ≡ old)
IsAnswered (Err NoMemory) view frame old new = new ≡ old
IsAnswered (Err UnknownPart) view frame old new = ⊥

-- ---- many frames

-- the frames were answered with these replies, one after the other
abbrev pub AreAnswered : List (List ℕ × List ℕ) → Broker → Broker → Type 0
AreAnswered [] old new = new ≡ old
AreAnswered (x ∷ xs) old new =
    (between : Broker) × (broker_step old x.0 ≡ Ok (x.1, between)) × AreAnswered xs between new

-- the broker after a step, which is as before where there is none
abbrev pub after_step : Result (List ℕ × Broker) Refusal → Broker → Broker
after_step (Ok step) b = step.1
after_step (Err refusal) b = b

-- the steps of some frames, one after the other
abbrev pub after_frames : List (List ℕ) → Broker → Broker
after_frames [] b = b
after_frames (frame ∷ frames) b = after_frames frames (after_step (broker_step b frame) b)
