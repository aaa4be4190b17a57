-- What a broker stores of a request that failed.
use Rattle.std.proofs.Common.{◌≡◌, ◌∙◌, ℕ, List, length, Result, Ok, Err, IsOk, refl, sym, ap, true≢false, arith}
use Rattle.std.specs.Prelude.{Bool, true, false, cond, nat_lt, is_err, ◌^◌}
use Rattle.std.proofs.lemmas.List.{take_all}
use Rattle.pc_model.specs.declared.wire_fault.WireFault.{WireFault}
use Rattle.pc_model.specs.Messages.{frame_spelling}
use Rattle.pc_model.specs.Broker.{Broker, Request, Commits, Fetches, Refusal, TooLong, named_items, after_items, after_some, after_request, reply_body, step_of}
use Rattle.pc_world.specs.World.{MayStore}

-- none of the items
pub MayStore-none : (read : Result Request WireFault) (b : Broker) → IsOk read → MayStore read b b
unfolding after_items
MayStore-none (Ok (Commits r)) b ok = record { request = Commits r; is_read = refl; some = 0; stored = refl }
MayStore-none (Ok (Fetches r)) b ok = record { request = Fetches r; is_read = refl; some = 0; stored = refl }
MayStore-none (Err fault) b ok = absurd (true≢false (sym ok))

-- all of them
after_some-all : (r : Request) (b : Broker) → (n : ℕ) × (after_some n r b ≡ after_request r b)
after_some-all (Commits r) b = (length (named_items r.topics), ap (λ items. after_items r items b) (take_all _ (named_items r.topics) (omega arith)))
after_some-all (Fetches r) b = (0, refl)

-- the broker after a step, if there was one
after_step : Result (List ℕ × Broker) Refusal → Broker → Broker
after_step (Ok step) b = step.1
after_step (Err refusal) b = b

the_broker : (text reply : List ℕ) (after c : Broker) (fits : Bool) → (cond {A = Result (List ℕ × Broker) Refusal} fits (Ok (text, after)) (Err TooLong)) ≡ Ok (reply, c) → after ≡ c
unfolding after_step
the_broker text reply after c true is = ap (λ step. after_step step c) is
the_broker text reply after c false is = ap (λ step. after_step step after) is

pub MayStore-all : (read : Result Request WireFault) (b c : Broker) (reply : List ℕ) → step_of b read ≡ Ok (reply, c) → MayStore read b c
MayStore-all (Err fault) b c reply is = absurd (true≢false (ap is_err is))
MayStore-all (Ok r) b c reply is = let all = after_some-all r b in record {
  request = r;
  is_read = refl;
  some = all.0;
  stored = sym (the_broker (frame_spelling (reply_body b r)) reply (after_request r b) c (nat_lt (length (reply_body b r)) (2 ^ 31)) is) ∙ sym all.1;
}
