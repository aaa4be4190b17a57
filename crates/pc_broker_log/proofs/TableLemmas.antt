-- A table of logs, and what one log more makes of it.
use Rattle.std.proofs.Common.{◌≡◌, ℕ, zero, suc, ◌+◌, ◌-◌, ◌<◌, ◌≤◌, Bool, true, false, cond, ◌&&◌, get_or, set, replicate, List, [], ◌∷◌, ◌++◌, map, length, Option, Some, None, refl, sym, ap, subst, ◌∙◌, append_assoc, arith, Bor, leb, ltb}
use Rattle.std.specs.Prelude.{is_some, option_map, unwrap_or, slice_get}
use Rattle.std.specs.List.{list_all, sum_by}
use Rattle.std.specs.Option.{option_flatten, option_copied, IfSome}
use Rattle.std.proofs.lemmas.Option.{slice_get-map}
use Rattle.std.proofs.lemmas.List.{length-set, length-append, length-replicate, length-map, map-set, map-append, append-nil}
use Rattle.std.proofs.lemmas.List.Sums.{sum_by-append, sum_by-cons, sum_by-set}
use Rattle.pc_model.specs.Record.{Record}
use Rattle.pc_model.specs.Given.{rises_from}
use Rattle.pc_batch.specs.Batch.{Placed}
use Rattle.pc_cursor.specs.Log.{contents_of, records_of}
use Rattle.pc_cursor.proofs.BatchFacts.{and-left, and-right}
use Rattle.std.proofs.lemmas.Bool.{leb-false, ltb-false}
use Rattle.pc_broker_log.specs.declared.fault.AddFault.{AddFault}
use Rattle.pc_broker_log.specs.declared.fault.AddFault.TheVariants.{UnknownPart, TwiceGiven, TooManyRecords}
use Rattle.pc_broker_log.specs.Logs.{logs_of, log_at, record_total, with_log, add_refusal, IsTable}

-- ---- the view

map-replicate : {X Y : Type 0} (f : X → Y) (n : ℕ) (x : X)
    → map f (replicate n x) ≡ replicate n (f x)
map-replicate f zero x = refl
map-replicate f (suc n) x = ap (λ l. f x ∷ l) (map-replicate f n x)

abbrev records_in : Option (List Placed) → Option (List Record)
records_in log = option_map (λ (batches : List Placed). records_of (contents_of batches)) log

pub logs_of-with : (items : List (Option (List Placed))) (part : ℕ) (log : List Placed)
    → logs_of (set (items ++ replicate (part + 1 - length items) None) part (Some log))
    ≡ with_log (logs_of items) part (records_of (contents_of log))
logs_of-with items part log =
    map-set records_in (items ++ replicate (part + 1 - length items) None) part (Some log)
    ∙ ap (λ (l : List (Option (List Record))). set l part (Some (records_of (contents_of log))))
    (map-append records_in items (replicate (part + 1 - length items) None)
    ∙ ap (λ (l : List (Option (List Record))). logs_of items
    ++ l) (map-replicate records_in (part + 1 - length items) None)
    ∙ ap (λ (n : ℕ). logs_of items ++ replicate (part + 1 - n) None)
    (sym (length-map items records_in)))

log_at-view : (items : List (Option (List Placed))) (part : ℕ)
    → log_at (logs_of items) part ≡ records_in (option_flatten (slice_get items part))
log_at-view items part = ap option_flatten (slice_get-map records_in items part)
    ∙ flat (slice_get items part)
  where
    flat : (o : Option (Option (List Placed))) → option_flatten (option_map records_in o)
        ≡ records_in (option_flatten o)
    flat None = refl
    flat (Some None) = refl
    flat (Some (Some log)) = refl

-- ---- each log rises

abbrev rises : Option (List Record) → Bool
rises log = rises_from 0 (unwrap_or log [])

pub log-rises : (logs : List (Option (List Record))) (part : ℕ) (log : List Record)
    → list_all (λ log. rises_from 0 (unwrap_or log [])) logs ≡ true → log_at logs part ≡ Some log
    → rises_from 0 log ≡ true
log-rises [] part log all e = absurd cc
log-rises (x ∷ xs) zero log all e = ap (λ (o : Option (List Record)). rises o) (sym e)
    ∙ and-left (rises x) _ all
log-rises (x ∷ xs) (suc part) log all e = log-rises xs part log (and-right (rises x) _ all) e

both : (a b : Bool) → a ≡ true → b ≡ true → (a && b) ≡ true
both a b ea eb = rw (ea, eb) refl

all-set : (logs : List (Option (List Record))) (part : ℕ) (log : Option (List Record))
    → list_all rises logs ≡ true → rises log ≡ true → list_all rises (set logs part log) ≡ true
all-set [] part log all e = refl
all-set (x ∷ xs) zero log all e = both (rises log) (list_all rises xs) e (and-right (rises x) _ all)
all-set (x ∷ xs) (suc part) log all e = both (rises x) _ (and-left (rises x) _ all)
    (all-set xs part log (and-right (rises x) _ all) e)

all-padded : (logs : List (Option (List Record))) (n : ℕ) → list_all rises logs ≡ true
    → list_all rises (logs ++ replicate n None) ≡ true
all-padded [] zero all = refl
all-padded [] (suc n) all = all-padded [] n all
all-padded (x ∷ xs) n all = both (rises x) _ (and-left (rises x) _ all)
    (all-padded xs n (and-right (rises x) _ all))

-- ---- the number of records

abbrev size : Option (List Record) → ℕ
size log = length (unwrap_or log [])

none-sized : (n : ℕ) → sum_by size (replicate n None) ≡ 0
none-sized zero = refl
none-sized (suc n) = let e = sum_by-cons size None (replicate n None) in
    omega (arith, e, none-sized n)

slot-none : (logs : List (Option (List Record))) (n part : ℕ) → is_some (log_at logs part) ≡ false
    → get_or (logs ++ replicate n None) part None ≡ None
slot-none [] zero part e = refl
slot-none [] (suc n) zero e = refl
slot-none [] (suc n) (suc part) e = slot-none [] n part refl
slot-none (None ∷ xs) n zero e = refl
slot-none (Some x ∷ xs) n zero e = absurd cc
slot-none (x ∷ xs) n (suc part) e = slot-none xs n part e

places-with : (logs : List (Option (List Record))) (part : ℕ) (log : List Record)
    → length (with_log logs part log) ≡ length logs + (part + 1 - length logs)
places-with logs part log =
    length-set (logs ++ replicate (part + 1 - length logs) None) part (Some log)
    ∙ length-append logs (replicate (part + 1 - length logs) None)
    ∙ ap (λ (n : ℕ). length logs + n) (length-replicate (part + 1 - length logs) None)

pub total-with : (logs : List (Option (List Record))) (part : ℕ) (log : List Record)
    → is_some (log_at logs part) ≡ false → record_total (with_log logs part log)
    ≡ record_total logs + length log
total-with logs part log free =
    let n = part + 1 - length logs in
    let padded = logs ++ replicate n None in
    let long : length (logs ++ replicate n None) ≡ length logs + n =
    length-append logs (replicate n None) ∙ ap (λ (m : ℕ). length logs + m)
    (length-replicate n None) in
    let changed = sum_by-set size (logs ++ replicate n None) part (Some log) None
    (omega (arith, long)) in
    let slot = ap size (slot-none logs n part free) in
    let all = sum_by-append size logs (replicate n None) in
    omega (arith, changed, slot, all, none-sized n)

-- ---- the last place

at-set : (ys : List (Option (List Record))) (part i : ℕ) (log : List Record) → part < length ys
    → is_some (log_at ys i) ≡ true → is_some (log_at (set ys part (Some log)) i) ≡ true
at-set [] part i log lt e = absurd (omega arith)
at-set (y ∷ ys) zero zero log lt e = refl
at-set (y ∷ ys) zero (suc i) log lt e = e
at-set (y ∷ ys) (suc part) zero log lt e = e
at-set (y ∷ ys) (suc part) (suc i) log lt e = at-set ys part i log (omega arith) e

at-same : (ys : List (Option (List Record))) (part : ℕ) (log : List Record) → part < length ys
    → is_some (log_at (set ys part (Some log)) part) ≡ true
at-same [] part log lt = absurd (omega arith)
at-same (y ∷ ys) zero log lt = refl
at-same (y ∷ ys) (suc part) log lt = at-same ys part log (omega arith)

greatest-with : (logs : List (Option (List Record))) (part n : ℕ) (log : List Record)
    → n ≡ part + 1 - length logs → (0 < length logs
    → is_some (log_at logs (length logs - 1)) ≡ true)
    → is_some (log_at (set (logs ++ replicate n None) part (Some log)) (length logs + n - 1)) ≡ true
greatest-with logs part zero log e old =
    let same : logs ++ replicate 0 None ≡ logs = append-nil logs in
    let last : length logs + 0 - 1 ≡ length logs - 1 = omega arith in
    subst (λ (l : List (Option (List Record))). is_some
    (log_at (set l part (Some log)) (length logs + 0 - 1)) ≡ true) (sym same)
    (subst (λ (m : ℕ). is_some (log_at (set logs part (Some log)) m)
    ≡ true) (sym last) (at-set logs part (length logs - 1) log (omega arith)
    (old (omega arith))))
greatest-with logs part (suc n) log e old =
    let last : length logs + suc n - 1 ≡ part = omega arith in
    subst (λ (m : ℕ). is_some (log_at (set (logs ++ replicate (suc n) None) part (Some log)) m)
    ≡ true) (sym last)
    (at-same (logs ++ replicate (suc n) None) part log
    (omega (
      arith,
      length-append logs (replicate (suc n) None),
      length-replicate {A = Option (List Record)} (suc n) None,
    )))

-- ---- a table with one log more

table-none : IsTable [] 0
table-none = record {
  counted = refl;
  few = omega arith;
  places = omega arith;
  greatest =
      λ some. absurd (omega arith);
  rise = refl;
}

table-with : (logs : List (Option (List Record))) (records part : ℕ) (log : List Record)
    → IsTable logs records → part < 1024 → is_some (log_at logs part) ≡ false
    → records + length log ≤ 1000000
    → rises_from 0 log ≡ true → IsTable (with_log logs part log) (records + length log)
table-with logs records part log t known free few rise =
    let long = places-with logs part log in
    record {
      counted = omega (arith, t.counted, total-with logs part log free);
      few = few;
      places = omega (arith, long, t.places);
      greatest = λ some. subst (λ (m : ℕ). is_some (log_at (with_log logs part log) (m - 1))
          ≡ true) (sym long) (greatest-with logs part (part + 1 - length logs) log refl t.greatest);
      rise = all-set (logs ++ replicate (part + 1 - length logs) None) part (Some log)
          (all-padded logs (part + 1 - length logs) t.rise) rise;
    }

-- ---- a log that is lent from the table

pub lent-rises : (items : List (Option (List Placed))) (part records : ℕ) (o : Option (List Placed))
    (r : Option (Bor (List Placed))) → IsTable (logs_of items) records
    → slice_get items part ≡ Some o → option_copied r ≡ o
    → IfSome r (λ log. rises_from 0 (records_of (contents_of log.now)) ≡ true)
lent-rises items part records o None t at same = tt
lent-rises items part records o (Some log) t at same =
    log-rises (logs_of items) part (records_of (contents_of log.now)) t.rise
    (log_at-view items part ∙ ap (λ (x : Option (Option (List Placed))). records_in
    (option_flatten x)) (at ∙ ap (λ (x : Option (List Placed)). Some x) (sym same)))

-- ---- more places

replicate-push : {X : Type 0} (n : ℕ) (x : X) → replicate n x ++ x ∷ [] ≡ replicate (suc n) x
replicate-push zero x = refl
replicate-push (suc n) x = ap (λ l. x ∷ l) (replicate-push n x)

-- the places so far: those of before, and new ones without a log
pub record IsGrown (before now : List (Option (List Placed))) : Type 0 where
  pub more : length before ≤ length now
  pub same : now ≡ before ++ replicate (length now - length before) None

grown-none : (before : List (Option (List Placed))) → IsGrown before before
grown-none before =
    let e : length before - length before ≡ 0 = omega arith in
    record {
      more = omega arith;
      same = sym (ap (λ (n : ℕ). before ++ replicate n None) e
          ∙ append-nil before);
    }

grown-more : (before now : List (Option (List Placed))) → IsGrown before now
    → IsGrown before (now ++ None ∷ [])
grown-more before now g =
    let long : length (now ++ None ∷ []) ≡ length now + 1 = length-append now (None ∷ []) in
    let n : suc (length now - length before) ≡ length (now ++ None ∷ []) - length before =
    omega (arith, long, g.more) in
    record {
      more = omega (arith, long, g.more);
      same = ap (λ (l : List (Option (List Placed))). l ++ None ∷ []) g.same
          ∙ append_assoc before (replicate (length now - length before) None) (None ∷ [])
          ∙ ap (λ (l : List (Option (List Placed))). before
          ++ l) (replicate-push (length now - length before) None)
          ∙ ap (λ (m : ℕ). before ++ replicate m None) n;
    }

grown-all : (before now : List (Option (List Placed))) (len : ℕ) → IsGrown before now
    → len ≤ length now → length now - length before ≤ len - length before
    → now ≡ before ++ replicate (len - length before) None
grown-all before now len g enough few = g.same ∙ ap (λ (m : ℕ). before
    ++ replicate m None) (let e : length now - length before ≡ len - length before = omega arith in
    e)

-- ---- a log that is not refused

pub no-refusal : (r : Option AddFault) → ((fault : AddFault) → r ≡ Some fault → ⊥) → r ≡ None
no-refusal None never = refl
no-refusal (Some fault) never = absurd (never fault refl)

-- what holds where a log is not refused
pub record IsFree (logs : List (Option (List Record))) (part records : ℕ) : Type 0 where
  pub known : part < 1024
  pub free : is_some (log_at logs part) ≡ false
  pub few : record_total logs + records ≤ 1000000

free-part : (logs : List (Option (List Record))) (part records : ℕ)
    → add_refusal logs part records ≡ None → IsFree logs part records
free-part logs part records e = by_tests (leb 1024 part) (is_some (log_at logs part))
    (ltb 1000000 (record_total logs + records)) refl refl refl e
  where
    by_tests : (a b c : Bool) → leb 1024 part ≡ a → is_some (log_at logs part) ≡ b
        → ltb 1000000 (record_total logs + records) ≡ c
        → ◌≡◌ {A = Option AddFault} (cond a (Some UnknownPart)
        (cond b (Some TwiceGiven) (cond c (Some TooManyRecords) None))) None
        → IsFree logs part records
    by_tests true b c ea eb ec e = absurd cc
    by_tests false true c ea eb ec e = absurd cc
    by_tests false false true ea eb ec e = absurd cc
    by_tests false false false ea eb ec e = record {
      known = leb-false 1024 part ea;
      free = eb;
      few = ltb-false 1000000 (record_total logs + records) ec;
    }

-- the table with a log that is not refused
pub table-added : (items grown : List (Option (List Placed))) (records part n : ℕ)
    (log : List Placed) → IsTable (logs_of items) records
    → grown ≡ items ++ replicate (part + 1 - length items) None
    → add_refusal (logs_of items) part n ≡ None → n ≡ length (records_of (contents_of log))
    → rises_from 0 (records_of (contents_of log)) ≡ true
    → IsTable (logs_of (set grown part (Some log))) (records + n)
table-added items grown records part n log t grows allowed counted rise =
    let f = free-part (logs_of items) part n allowed in
    let made = table-with (logs_of items) records part
    (records_of (contents_of log)) t f.known f.free
    (omega (arith, t.counted, f.few, counted)) rise in
    let view = ap (λ (l : List (Option (List Placed))). logs_of (set l part (Some log))) grows
    ∙ logs_of-with items part log in
    subst (λ (l : List (Option (List Record))). IsTable l (records + n)) (sym view)
    (subst (λ (m : ℕ). IsTable (with_log (logs_of items) part (records_of (contents_of log)))
    (records + m)) (sym counted) made)
