-- Each way out of the reading is what the definition gives.
use Rattle.std.proofs.Common.{◌∙◌, ℕ, List, Err, Ok, inr, ap, map, sym, subst, arith}
use Rattle.std.specs.Borrow.{Bor}
use Rattle.std.specs.Result.{result_map_both}
use Rattle.std.proofs.lemmas.Result.{err_from_is_err_and}
use Rattle.pc_inputs.specs.declared.status.Status.{Status}
use Rattle.pc_inputs.specs.Words.{plain_files}
use Rattle.pc_inputs.specs.Reading.{IsFromConfig, IsFromFile, IsFromCommand, IsFromLogs, config_text, text_of, texts_of}
use Rattle.pc_inputs.proofs.ReadingLemmas.{all-read, config-unread, logs-unread, script-unread, step-fault, was-read}
use Rattle.pc_inputs.proofs.reading.read_command.Goals as goal

pub returns-in_err-config-clause-texts : goal.returns-in_err-config-clause-texts
returns-in_err-config-clause-texts g c =
    let got = err_from_is_err_and c.from_residual.result c.from_residual.ensures.1 in
    let is = got.1 ∙ ap (λ (s : Status). Err s) got.2 in
    let files = plain_files c.args.names.now in
    step-fault {
    B = IsFromConfig files.config (g.F.Files.told c.args.files.now)
    (g.F.Files.faults c.args.files.now) (g.F.Files.faults c.read_config.new.files)
    (Err c.in_err-config.field-0.0)
    } c.from_residual.result c.in_err-config.field-0.0 is c.in_err-config.ensures.text
    (λ config. subst (λ r. IsFromCommand files (g.F.Files.told c.args.files.now)
    (g.F.Files.faults c.args.files.now) (g.F.Files.faults c.read_config.new.files)
    (result_map_both texts_of (λ s. s) r)) (sym is)
    (config-unread (g.F.Files.told c.args.files.now) (g.F.Files.faults c.args.files.now)
    (g.F.Files.faults c.read_config.new.files) files (g.F.Files.faults c.read_config.new.files)
    c.in_err-config.field-0.0 c.in_err-config.ensures.count (λ n. omega arith) config))

pub returns-in_err-logs-clause-texts : goal.returns-in_err-logs-clause-texts
returns-in_err-logs-clause-texts g c =
    let got = err_from_is_err_and c.from_residual-in_err-logs.result
    c.from_residual-in_err-logs.ensures.1 in
    let is = got.1 ∙ ap (λ (s : Status). Err s) got.2 in
    let files = plain_files c.args.names.now in
    step-fault {
    B = IsFromLogs (map (λ n. n.now) c.as_slice.result.now)
    (g.F.Files.told c.read_config.new.files) (g.F.Files.faults c.read_config.new.files)
    (g.F.Files.faults c.read_logs.new.files) (Err c.in_err-logs.field-0.0)
    } c.from_residual-in_err-logs.result c.in_err-logs.field-0.0 is c.in_err-logs.ensures.texts
    (λ logs. subst (λ r. IsFromCommand files (g.F.Files.told c.args.files.now)
    (g.F.Files.faults c.args.files.now) (g.F.Files.faults c.read_logs.new.files)
    (result_map_both texts_of (λ s. s) r)) (sym is)
    (logs-unread (g.F.Files.told c.args.files.now) (g.F.Files.faults c.args.files.now)
    (g.F.Files.faults c.read_logs.new.files) files (g.F.Files.faults c.read_config.new.files)
    (g.F.Files.told c.read_config.new.files) (config_text c.in_ok-config.config)
    c.in_ok-config.ensures.count c.in_ok-config.ensures.keeps
    (was-read c.in_ok-config.config c.in_ok-config.ensures.text)
    (g.F.Files.faults c.read_logs.new.files) c.in_err-logs.field-0.0 c.in_err-logs.ensures.count
    (λ n. omega arith)
    (subst (λ (l : List (Bor (List ℕ))). IsFromLogs (map (λ n. n.now) l)
    (g.F.Files.told c.read_config.new.files) (g.F.Files.faults c.read_config.new.files)
    (g.F.Files.faults c.read_logs.new.files) (Err c.in_err-logs.field-0.0))
    c.as_slice.ensures.value logs)))

pub returns-in_err-script-clause-texts : goal.returns-in_err-script-clause-texts
returns-in_err-script-clause-texts g c =
    let got = err_from_is_err_and c.from_residual-in_err-script.result
    c.from_residual-in_err-script.ensures.1 in
    let is = got.1 ∙ ap (λ (s : Status). Err s) got.2 in
    let files = plain_files c.args.names.now in
    step-fault {
    B = IsFromFile files.script (g.F.Files.told c.read_logs.new.files files.script)
    (g.F.Files.faults c.read_logs.new.files files.script)
    (g.F.Files.faults c.read.new.files files.script) (Err c.in_err-script.field-0.0)
    } c.from_residual-in_err-script.result c.in_err-script.field-0.0 is
    c.in_err-script.ensures.answer
    (λ script. subst (λ r. IsFromCommand files (g.F.Files.told c.args.files.now)
    (g.F.Files.faults c.args.files.now) (g.F.Files.faults c.read.new.files)
    (result_map_both texts_of (λ s. s) r)) (sym is)
    (script-unread (g.F.Files.told c.args.files.now) (g.F.Files.faults c.args.files.now)
    (g.F.Files.faults c.read.new.files) files (g.F.Files.faults c.read_config.new.files)
    (g.F.Files.told c.read_config.new.files) (config_text c.in_ok-config.config)
    c.in_ok-config.ensures.count c.in_ok-config.ensures.keeps
    (was-read c.in_ok-config.config c.in_ok-config.ensures.text)
    (g.F.Files.faults c.read_logs.new.files) (g.F.Files.told c.read_logs.new.files)
    (map text_of c.in_ok-logs.logs.items) c.in_ok-logs.ensures.count c.in_err-script.ensures.count
    (λ n. c.in_ok-logs.ensures.keeps n ∙ c.in_ok-config.ensures.keeps n)
    (subst (λ (l : List (Bor (List ℕ))). IsFromLogs (map (λ n. n.now) l)
    (g.F.Files.told c.read_config.new.files) (g.F.Files.faults c.read_config.new.files)
    (g.F.Files.faults c.read_logs.new.files) (Ok (map text_of c.in_ok-logs.logs.items)))
    c.as_slice.ensures.value (was-read c.in_ok-logs.logs c.in_ok-logs.ensures.texts))
    c.in_err-script.field-0.0 script))

pub returns-clause-texts : goal.returns-clause-texts
returns-clause-texts g c =
    let files = plain_files c.args.names.now in
    inr (all-read (g.F.Files.told c.args.files.now) (g.F.Files.faults c.args.files.now)
    (g.F.Files.faults c.read.new.files) files (g.F.Files.faults c.read_config.new.files)
    (g.F.Files.told c.read_config.new.files) (config_text c.in_ok-config.config)
    c.in_ok-config.ensures.count c.in_ok-config.ensures.keeps
    (was-read c.in_ok-config.config c.in_ok-config.ensures.text)
    (g.F.Files.faults c.read_logs.new.files) (g.F.Files.told c.read_logs.new.files)
    (map text_of c.in_ok-logs.logs.items) c.in_ok-logs.ensures.count c.in_ok-script.ensures.count
    (λ n. c.in_ok-logs.ensures.keeps n ∙ c.in_ok-config.ensures.keeps n)
    (subst (λ (l : List (Bor (List ℕ))). IsFromLogs (map (λ n. n.now) l)
    (g.F.Files.told c.read_config.new.files) (g.F.Files.faults c.read_config.new.files)
    (g.F.Files.faults c.read_logs.new.files) (Ok (map text_of c.in_ok-logs.logs.items)))
    c.as_slice.ensures.value (was-read c.in_ok-logs.logs c.in_ok-logs.ensures.texts))
    c.in_ok-script.script.items
    (was-read c.in_ok-script.script c.in_ok-script.ensures.answer))
