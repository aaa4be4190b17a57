use Rattle.std.proofs.Common.{arith, ◌≤◌, ◌<◌, ◌%◌, ◌+◌, ◌≡◌, length, ap, ◌∙◌, ◌++◌, set, length-set, take, List, ℕ, Result, Ok, Err, cond, ◌/◌, ◌-◌}
use Rattle.std.specs.Prelude.{OnOk, is_ok}
use Rattle.pc_bytes.specs.Varint.{groups_of}
use Rattle.pc_bytes.proofs.PutLemmas.{put-step, put-last, left-step}
use Rattle.pc_bytes.proofs.varint.put_groups.Goals as goal

pub loop-rest-preserved : goal.loop-rest-preserved
loop-rest-preserved c =
    let l = c.loop-rest in
    let high : 128 ≤ l.rest = omega arith in
    let left = left-step l.len l.rest l.invariant.room l.invariant.left high in
    let room : l.len < length l.groups = omega arith in
    let by : l.rest / c.from-rest.result ≡ l.rest / 128 = ap (λ (d : ℕ). l.rest / d) c.from-rest.ensures in
    record {
      told =
          ap (λ (d : ℕ). take (l.len + 1) (set l.groups l.len (l.rest % d + 128)) ++ groups_of (9 - (l.len + 1)) (l.rest / c.from-rest.result)) c.from-in-loop-rest.ensures
          ∙ put-step l.groups l.len l.rest (l.rest / c.from-rest.result) _ room left.0 high by l.invariant.told;
      size = omega (arith, length-set {A = ℕ});
      room = omega (arith, left.0);
      left = rw by left.1;
    }

at_ok : {E : Type 0} (r : Result (Unit {0}) E) (new old front whole : List ℕ) → new ≡ cond (is_ok r) (old ++ front) old → front ≡ whole → OnOk r (new ≡ old ++ whole)
at_ok (Ok x) new old front whole items last = items ∙ ap (λ (l : List ℕ). old ++ l) last
at_ok (Err e) new old front whole items last = tt

pub returns-clause-ok : goal.returns-clause-ok
returns-clause-ok c =
    let room : c.loop-rest.len < length c.loop-rest.groups = omega arith in
    let low : c.loop-rest.rest < 128 = omega arith in
    let last = put-last c.loop-rest.groups c.loop-rest.len c.loop-rest.rest _ room low c.loop-rest.invariant.told in
    at_ok c.extend_from_slice.result _ _ _ _ c.extend_from_slice.ensures.items last
