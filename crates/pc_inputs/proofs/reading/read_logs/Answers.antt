-- The logs so far are read.
use Rattle.std.proofs.Common.{◌≡◌, ◌<◌, ℕ, List, get_or, ◌+◌, ◌∙◌, ◌∷◌, [], Ok, Err, inr, ap, map, sym, subst, arith, refl, length, length-append}
use Rattle.std.specs.Borrow.{Bor}
use Rattle.std.proofs.lemmas.List.{get_or_default, map-append}
use Rattle.std.proofs.lemmas.Result.{err_from_is_err_and}
use Rattle.std.specs.Result.{result_map_both}
use Rattle.pc_inputs.specs.declared.status.Status.{Status}
use Rattle.pc_inputs.specs.Reading.{IsFromLog, IsFromLogs, text_of}
use Rattle.pc_inputs.proofs.ListLemmas.{map-all}
use Rattle.pc_inputs.proofs.ReadingLemmas.{le-trans, read-all, read-next, read-stops, step-fault, was-read}
use Rattle.pc_inputs.proofs.reading.read_logs.Goals as goal

-- the name at a place
abbrev word : List (Bor (List ℕ)) → ℕ → Bor (List ℕ)
word names i = get_or names i (record { ref_ptr = (0, 0); now = [] })

word-is : (names : List (Bor (List ℕ))) (i : ℕ) → i < length names
    → word names i ≡ get_or names i (word names i)
word-is names i below = get_or_default names i _ (word names i) below

pub loop-name-preserved : goal.loop-name-preserved
loop-name-preserved g c = record {
  read = read-next (λ n. n.now) c.args.names.now c.loop-name.name-index (word c.args.names.now
      c.loop-name.name-index)
      (word c.args.names.now c.loop-name.name-index).now (g.F.Files.told c.args.files.now)
      (g.F.Files.told c.loop-name.files)
      (g.F.Files.faults c.args.files.now) (g.F.Files.faults c.loop-name.files)
      (g.F.Files.faults c.read_log.new.files) (map text_of c.loop-name.logs.items)
      c.loop-name.used c.loop-name-test.true (word-is c.args.names.now c.loop-name.name-index
      c.loop-name-test.true) refl
      c.loop-name.invariant.count c.in_ok-log.ensures.count c.loop-name.invariant.keeps
      c.loop-name.invariant.read (text_of c.in_ok-log.log) (map text_of c.push.new.self.items)
      c.len.result (c.len.ensures ∙ c.in_ok-log.log.bytes.ok.0)
      (ap (map text_of) c.in_ok-push.ensures.items
      ∙ map-append text_of c.loop-name.logs.items (c.in_ok-log.log ∷ []))
      (was-read c.in_ok-log.log c.in_ok-log.ensures.text);
  fits = omega (arith, c.len.ensures, c.in_ok-log.log.bytes.ok.0, c.in_ok-log.ensures.fits);
  many = ap length c.in_ok-push.ensures.items
      ∙ length-append c.loop-name.logs.items (c.in_ok-log.log ∷ [])
      ∙ ap (λ n. n + 1) c.loop-name.invariant.many;
  keeps = λ n. c.in_ok-log.ensures.keeps n ∙ c.loop-name.invariant.keeps n;
  count = λ n. le-trans _ _ _ (c.loop-name.invariant.count n) (c.in_ok-log.ensures.count n);
}

pub returns-in_err-log-clause-texts : goal.returns-in_err-log-clause-texts
returns-in_err-log-clause-texts g c =
    let got = err_from_is_err_and c.from_residual.result c.from_residual.ensures.1 in
    let is = got.1 ∙ ap (λ (s : Status). Err s) got.2 in
    step-fault {
    B = IsFromLog (word c.args.names.now c.loop-name.name-index).now
    (g.F.Files.told c.loop-name.files (word c.args.names.now c.loop-name.name-index).now)
    (g.F.Files.faults c.loop-name.files (word c.args.names.now c.loop-name.name-index).now)
    (g.F.Files.faults c.read_log.new.files (word c.args.names.now c.loop-name.name-index).now)
    c.loop-name.used (Err c.in_err-log.field-0.0)
    } c.from_residual.result c.in_err-log.field-0.0 is c.in_err-log.ensures.text
    (λ log. subst (λ r. IsFromLogs (map (λ n. n.now) c.args.names.now)
    (g.F.Files.told c.args.files.now) (g.F.Files.faults c.args.files.now)
    (g.F.Files.faults c.read_log.new.files)
    (result_map_both (λ logs. map text_of logs.items) (λ s. s) r)) (sym is)
    (read-stops (λ n. n.now) c.args.names.now c.loop-name.name-index (word c.args.names.now
    c.loop-name.name-index)
    (word c.args.names.now c.loop-name.name-index).now (g.F.Files.told c.args.files.now)
    (g.F.Files.told c.loop-name.files)
    (g.F.Files.faults c.args.files.now) (g.F.Files.faults c.loop-name.files)
    (g.F.Files.faults c.read_log.new.files) (map text_of c.loop-name.logs.items)
    c.loop-name.used c.loop-name-test.true (word-is c.args.names.now c.loop-name.name-index
    c.loop-name-test.true) refl
    c.loop-name.invariant.count c.in_err-log.ensures.count c.loop-name.invariant.keeps
    c.loop-name.invariant.read c.in_err-log.field-0.0 log))

pub returns-clause-texts : goal.returns-clause-texts
returns-clause-texts g c = inr (subst (λ names. IsFromLogs names
    (g.F.Files.told c.args.files.now) (g.F.Files.faults c.args.files.now)
    (g.F.Files.faults c.loop-name.files) (Ok (map text_of c.loop-name.logs.items)))
    (map-all (λ n. n.now) c.args.names.now c.loop-name.name-index c.loop-name-test.false)
    (read-all _ (g.F.Files.told c.args.files.now) (g.F.Files.faults c.args.files.now)
    (g.F.Files.faults c.loop-name.files) (map text_of c.loop-name.logs.items) c.loop-name.used
    c.loop-name.invariant.read))
