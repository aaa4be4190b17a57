-- What a broker stores after some frames were answered.
use Rattle.std.proofs.Common.{◌≡◌, ◌∙◌, ℕ, List, [], ◌∷◌, map, Result, sym, ap}
use Rattle.pc_model.specs.Broker.{Broker, Refusal}
use Rattle.pc_offset_store.specs.Steps.{AreAnswered, after_frames, after_step}

-- the broker is the fold of the steps over the frames
pub answered-frames : (xs : List (List ℕ × List ℕ)) (old new : Broker) → AreAnswered xs old new
    → new ≡ after_frames (map (λ x. x.0) xs) old
answered-frames [] old new are = are
answered-frames (x ∷ xs) old new are =
    answered-frames xs are.0 new are.2
    ∙ ap (after_frames (map (λ x. x.0) xs))
    (sym (ap (λ (step : Result (List ℕ × Broker) Refusal). after_step step old) are.1))
