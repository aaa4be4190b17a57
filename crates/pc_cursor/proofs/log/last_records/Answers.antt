use Rattle.std.proofs.Common.{◌≡◌, ℕ, suc, ◌-◌, true, false, ltb, List, length, Result, Ok, Err, ap, sym, subst, ◌∙◌, rules, tests, arith}
use Rattle.std.specs.Prelude.{slice_get}
use Rattle.std.specs.List.{AllWithin}
use Rattle.std.proofs.lemmas.List.Sorted.{IsPartitionPoint-from_clause}
use Rattle.pc_model.specs.Record.{Record}
use Rattle.pc_batch.specs.declared.fault.BatchFault.{BatchFault}
use Rattle.pc_batch.specs.Batch.{Placed, batch_from, given_by}
use Rattle.pc_cursor.specs.declared.entry.Entry.{Entry}
use Rattle.pc_cursor.proofs.LogLemmas.{batch_from-fault}
use Rattle.pc_cursor.proofs.SeekLaws.{HasLast, befores-part, no-last, one-last}
use Rattle.pc_cursor.proofs.log.last_records.Goals as goal

-- the batch that was read is the one that has the last record
read-same : (log : List ℕ) (place : ℕ) (records : List Record) (b : Placed)
    → HasLast log place records → batch_from log place ≡ Ok b
    → slice_get (given_by b.contents) (length (given_by b.contents) - 1)
    ≡ slice_get records (length records - 1)
read-same log place records b has e =
    ap (λ (x : Placed). slice_get (given_by x.contents) (length (given_by x.contents) - 1))
    (same b has.batch (sym e ∙ has.read)) ∙ has.same
  where
    same : (x y : Placed) → ◌≡◌ {A = Result Placed BatchFault} (Ok x) (Ok y) → x ≡ y
    same x y e = cc

read-none : (log : List ℕ) (place : ℕ) (records : List Record) (f : BatchFault)
    → HasLast log place records → batch_from log place ≡ Err f → ⊥
read-none log place records f has e = not_both has.batch (sym has.read ∙ e)
  where
    not_both : (x : Placed) → ◌≡◌ {A = Result Placed BatchFault} (Ok x) (Err f) → ⊥
    not_both x e = cc

pub returns-then-behind-eq0 : goal.returns-then-behind-eq0
returns-then-behind-eq0 c =
    let log = c.args.bytes.now in
    let entries = c.args.entries.now in
    let at = IsPartitionPoint-from_clause (λ (e : Entry). ltb e.before c.args.count) entries
    c.partition_point-behind.result c.partition_point-behind.ensures.partitioned
    (befores-part log entries c.args.count c.requires.index)
    (λ a r f k. search (rules, tests)) in
    let none = no-last log entries c.args.count c.requires.index c.requires.counted
    (subst (λ (n : ℕ). AllWithin (λ (e : Entry). ltb e.before c.args.count
    ≡ false) entries n (length entries)) c.if-behind-eq0.true at.1) in
    ap (λ (l : List Record). slice_get l (length l - 1)) (c.none.ensures ∙ sym none)

pub returns-in-Ok : goal.returns-in-Ok
returns-in-Ok c =
    let log = c.args.bytes.now in
    let entries = c.args.entries.now in
    let n = c.partition_point-behind.result in
    let at = IsPartitionPoint-from_clause (λ (e : Entry). ltb e.before c.args.count) entries
    c.partition_point-behind.result c.partition_point-behind.ensures.partitioned
    (befores-part log entries c.args.count c.requires.index)
    (λ a r f k. search (rules, tests)) in
    let e : n ≡ suc (n - 1) = omega arith in
    let has = one-last log entries c.args.count (n - 1) _ c.requires.index c.requires.counted
    (omega arith)
    (subst (λ (m : ℕ). AllWithin (λ (x : Entry). ltb x.before c.args.count
    ≡ true) entries 0 m) e at.0)
    (subst (λ (m : ℕ). AllWithin (λ (x : Entry). ltb x.before c.args.count
    ≡ false) entries m (length entries)) e at.1) in
    ap (λ (l : List Record). slice_get l (length l - 1)) c.records.ensures
    ∙ read-same log _ _ c.in-Ok.batch has c.in-Ok.ensures.value

pub returns-in-Err : goal.returns-in-Err
returns-in-Err c =
    let log = c.args.bytes.now in
    let entries = c.args.entries.now in
    let n = c.partition_point-behind.result in
    let at = IsPartitionPoint-from_clause (λ (e : Entry). ltb e.before c.args.count) entries
    c.partition_point-behind.result c.partition_point-behind.ensures.partitioned
    (befores-part log entries c.args.count c.requires.index)
    (λ a r f k. search (rules, tests)) in
    let e : n ≡ suc (n - 1) = omega arith in
    let has = one-last log entries c.args.count (n - 1) _ c.requires.index c.requires.counted
    (omega arith)
    (subst (λ (m : ℕ). AllWithin (λ (x : Entry). ltb x.before c.args.count
    ≡ true) entries 0 m) e at.0)
    (subst (λ (m : ℕ). AllWithin (λ (x : Entry). ltb x.before c.args.count
    ≡ false) entries m (length entries)) e at.1) in
    absurd (read-none log _ _ c.in-Err.field-0 has
    (batch_from-fault log _ c.in-Err.field-0 c.in-Err.ensures.fault))
