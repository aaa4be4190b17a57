-- The lists that were read are in their ranges.
use Rattle.std.proofs.Common.{◌≡◌, ℕ, ℤ, ◌+◌, ◌≤◌, ◌^◌, ◌-◌, Bool, true, false, cond, leb, List, [], ◌∷◌, ◌++◌, length, length-append, append-nil, append_assoc, Option, Some, None, Result, Ok, Err, refl, sym, ap, subst, ◌∙◌, arith}
use Rattle.std.specs.Prelude.{◌&&◌, ◌==◌, pos, negsuc}
use Rattle.std.specs.List.{list_all, list_any}
use Rattle.std.specs.Option.{option_or}
use Rattle.std.proofs.lemmas.Bool.{and_parts, leb-true}
use Rattle.toml.specs.Data.{Data, Members, as_integer, as_table}
use Rattle.pc_model.specs.declared.setup.SetupField.TheVariants as field
use Rattle.pc_model.specs.declared.setup.SetupFault.{SetupFault}
use Rattle.pc_model.specs.declared.setup.SetupFault.TheVariants.{PartTwice}
use Rattle.pc_model.specs.declared.outcome.FailRule.{FailRule}
use Rattle.pc_model.specs.declared.outcome.Start.{Start}
use Rattle.pc_model.specs.Numbers.{first_some}
use Rattle.pc_model.specs.Ranges.{delay_fault, delays_fault, rule_fault, rules_fault, start_fault, starts_fault, twice_fault}
use Rattle.pc_config.specs.declared.key.Key.{Key}
use Rattle.pc_config.specs.declared.key.Key.TheVariants as key
use Rattle.pc_config.specs.declared.place.Place.TheVariants as place
use Rattle.pc_config.specs.declared.fault.ConfigFault.{ConfigFault}
use Rattle.pc_config.specs.declared.fault.KeyFault.{KeyFault}
use Rattle.pc_config.specs.declared.fault.KeyFault.TheVariants.{Bad, Beyond}
use Rattle.pc_config.specs.Keys.{least_of, most_of}
use Rattle.pc_config.specs.Faults.{◌>>=◌, public}
use Rattle.pc_config.specs.Members.{number_in, number_of, number_needed, integer_at, text_at, list_at, known_keys}
use Rattle.pc_config.specs.Lists.{read_each, count_in, list_fits, list_or, is_integer, is_table, delay_of, delays_of, fail_numbers, fail_of, fail_item, fails_of, new_part, map_in, map_or_empty, start_place, start_map, start_values, start_of, start_item, starts_of}
use Rattle.pc_config.proofs.ConfigLemmas.{range_fault-in}

-- the steps of a reading that did not fail
pub bind_ok : {A B E : Type 0} (r : Result A E) (f : A → Result B E) (y : B) → (r >>= f) ≡ Ok y → (x : A) × (r ≡ Ok x) × (f x ≡ Ok y)
bind_ok (Ok x) f y e = (x, refl, e)
bind_ok (Err fault) f y e = absurd cc

ok_is : {A E : Type 0} (x y : A) → ◌≡◌ {A = Result A E} (Ok x) (Ok y) → x ≡ y
ok_is x y e = cc

public_ok : {A : Type 0} (r : Result A KeyFault) (x : A) → public r ≡ Ok x → r ≡ Ok x
public_ok (Ok y) x e = cc
public_ok (Err fault) x e = absurd cc

chosen_ok : {A : Type 0} (b : Bool) (x : A) (fault : KeyFault) (y : A) → cond b (Ok x) (Err fault) ≡ Ok y → (b ≡ true) × (x ≡ y)
chosen_ok true x fault y e = (refl, ok_is x y e)
chosen_ok false x fault y e = absurd cc

not_chosen_ok : {A : Type 0} (b : Bool) (x : A) (fault : KeyFault) (y : A) → cond b (Err fault) (Ok x) ≡ Ok y → (b ≡ false) × (x ≡ y)
not_chosen_ok true x fault y e = absurd cc
not_chosen_ok false x fault y e = (refl, ok_is x y e)

abbrev IsIn : Key → ℕ → Type 0
IsIn k n = (least_of k ≤ n) × (n ≤ most_of k)

within : (k : Key) (n : ℕ) → (leb (least_of k) n && leb n (most_of k)) ≡ true → IsIn k n
within k n e =
    let parts = and_parts (leb (least_of k) n) (leb n (most_of k)) e in
    (leb-true (least_of k) n parts.0, leb-true n (most_of k) parts.1)

number_in_ok : (k : Key) (z : ℤ) (n : ℕ) → number_in k z ≡ Ok n → IsIn k n
number_in_ok k (pos m) n e =
    let found = chosen_ok (leb (least_of k) m && leb m (most_of k)) m (Beyond k) n e in
    subst (IsIn k) found.1 (within k m found.0)
number_in_ok k (negsuc m) n e = absurd cc

number_of_ok : (k : Key) (value : Option ℤ) (n : ℕ) → number_of k value ≡ Ok n → IsIn k n
number_of_ok k None n e = absurd cc
number_of_ok k (Some z) n e = number_in_ok k z n e

number_needed_ok : (k : Key) (value : Option (Option ℤ)) (n : ℕ) → number_needed k value ≡ Ok n → IsIn k n
number_needed_ok k None n e = absurd cc
number_needed_ok k (Some value) n e = number_of_ok k value n e

count_in_ok : (k : Key) (n : ℕ) (u : Unit {0}) → count_in k n ≡ Ok u → IsIn k n
count_in_ok k n u e = within k n (chosen_ok (leb (least_of k) n && leb n (most_of k)) tt (Beyond k) u e).0

fits_ok : (k : Key) (all_fit : Bool) (n : ℕ) (u : Unit {0}) → cond all_fit (count_in k n) (Err (Bad k)) ≡ Ok u → IsIn k n
fits_ok k true n u e = count_in_ok k n u e
fits_ok k false n u e = absurd cc

-- ---- lists

either : {X : Type 0} (first : Option X) (second : Option X) → option_or first second ≡ None → (first ≡ None) × (second ≡ None)
either None second e = (refl, e)
either (Some x) second e = absurd cc

more : {B : Type 0} (fault : B → Option SetupFault) (before : List B) (y : B) → first_some fault before ≡ None → fault y ≡ None → first_some fault (before ++ y ∷ []) ≡ None
more fault [] y none one = rw one refl
more fault (b ∷ before) y none one =
    let parts = either (fault b) (first_some fault before) none in
    rw (parts.0, more fault before y parts.1 one) refl

module _ {A B : Type 0} (read : List B → A → Result B ConfigFault) where
  -- as many as there were items
  length-read_each : (before : List B) (xs : List A) (all : List B) → read_each read before xs ≡ Ok all → length all ≡ length before + length xs
  unfolding read_each
  length-read_each before [] all e = ap length (sym (ok_is before all e)) ∙ omega arith
  length-read_each before (x ∷ xs) all e =
      let one = bind_ok (read before x) (λ y. read_each read (before ++ y ∷ []) xs) all e in
      let rest = length-read_each (before ++ one.0 ∷ []) xs all one.2 in
      grind (arith, rest, length-append before (one.0 ∷ []))

  -- what each reading keeps holds of all that was read
  read_each-keeps : (P : List B → Type 0) → ((before : List B) (x : A) (y : B) → P before → read before x ≡ Ok y → P (before ++ y ∷ [])) → (before : List B) (xs : List A) (all : List B) → P before → read_each read before xs ≡ Ok all → P all
  unfolding read_each
  read_each-keeps P keeps before [] all holds e = subst P (ok_is before all e) holds
  read_each-keeps P keeps before (x ∷ xs) all holds e =
      let one = bind_ok (read before x) (λ y. read_each read (before ++ y ∷ []) xs) all e in
      read_each-keeps P keeps (before ++ one.0 ∷ []) xs all (keeps before x one.0 holds one.1) one.2

  -- none of what was read has a fault
  first_some-read_each : (fault : B → Option SetupFault) → ((before : List B) (x : A) (y : B) → read before x ≡ Ok y → fault y ≡ None) → (xs : List A) (all : List B) → read_each read [] xs ≡ Ok all → first_some fault all ≡ None
  first_some-read_each fault good xs all e =
      read_each-keeps (λ (ys : List B). first_some fault ys ≡ None) (λ before x y none one. more fault before y none (good before x y one)) [] xs all refl e

-- a list that was read: the default, or its items, as many as the key takes
list_or_ok : {B : Type 0} (P : List B → Type 0) (k : Key) (is_item : Data → Bool) (read : List B → Data → Result B ConfigFault) (default : List B) (value : Option (Option (List Data))) (all : List B) → list_or k is_item read default value ≡ Ok all → P default → ((items : List Data) → IsIn k (length items) → read_each read [] items ≡ Ok all → P all) → P all
list_or_ok P k is_item read default None all e first rest = subst P (ok_is default all e) first
list_or_ok P k is_item read default (Some None) all e first rest = absurd cc
list_or_ok P k is_item read default (Some (Some items)) all e first rest =
    let fit = bind_ok (public (list_fits k is_item items)) (λ _. read_each read [] items) all e in
    rest items (fits_ok k (list_all is_item items) (length items) fit.0 (public_ok (list_fits k is_item items) fit.0 fit.1)) fit.2

delay_in_range : (before : List ℕ) (d : Data) (n : ℕ) → delay_of before d ≡ Ok n → delay_fault n ≡ None
delay_in_range before d n e =
    let fits = number_of_ok key.Delay (as_integer d) n (public_ok (number_of key.Delay (as_integer d)) n e) in
    range_fault-in field.Delay n fits.0 fits.1

pub delays_of-in_range : (ms : Members) (all : List ℕ) → delays_of ms ≡ Ok all → delays_fault all ≡ None
unfolding delays_of
delays_of-in_range ms all e =
    list_or_ok (λ ds. delays_fault ds ≡ None) key.Delays is_integer delay_of (100 ∷ []) (list_at key.Delays ms) all e refl (λ items many read.
    let same : length all ≡ length items = length-read_each delay_of [] items all read ∙ omega arith in
    let none : first_some delay_fault all ≡ None = first_some-read_each delay_of delay_fault delay_in_range items all read in
    rw (range_fault-in field.Delays (length all) (omega (arith, same, many.0)) (omega (arith, same, many.1)), none) refl)

-- ---- fail

fail_numbers_ok : (ms : Members) (r : FailRule) → fail_numbers ms ≡ Ok r → rule_fault r ≡ None
unfolding fail_numbers
fail_numbers_ok ms r e =
    let parts : Result ℕ KeyFault = number_needed key.FailPart (integer_at key.FailPart ms) in
    let offsets : Result ℕ KeyFault = number_needed key.FailOffset (integer_at key.FailOffset ms) in
    let times : Result ℕ KeyFault = number_needed key.FailTimes (integer_at key.FailTimes ms) in
    let part = bind_ok parts (λ part. offsets >>= (λ offset. times >>= (λ n. Ok (record { part = part; offset = offset; times = n })))) r e in
    let offset = bind_ok offsets (λ offset. times >>= (λ n. Ok (record { part = part.0; offset = offset; times = n }))) r part.2 in
    let n = bind_ok times (λ n. Ok (record { part = part.0; offset = offset.0; times = n })) r offset.2 in
    let part_in = number_needed_ok key.FailPart (integer_at key.FailPart ms) part.0 part.1 in
    let offset_in = number_needed_ok key.FailOffset (integer_at key.FailOffset ms) offset.0 offset.1 in
    let times_in = number_needed_ok key.FailTimes (integer_at key.FailTimes ms) n.0 n.1 in
    let good : rule_fault (record { part = part.0; offset = offset.0; times = n.0 }) ≡ None =
    rw (range_fault-in field.FailPart part.0 part_in.0 part_in.1, range_fault-in field.FailOffset offset.0 offset_in.0 offset_in.1, range_fault-in field.FailTimes n.0 times_in.0 times_in.1) refl in
    subst (λ (rule : FailRule). rule_fault rule ≡ None) (ok_is (record { part = part.0; offset = offset.0; times = n.0 }) r n.2) good

fail_of_ok : (t : Option Members) (r : FailRule) → fail_of t ≡ Ok r → rule_fault r ≡ None
fail_of_ok None r e = absurd cc
fail_of_ok (Some ms) r e =
    let known = bind_ok (known_keys place.Fail ms) (λ _. public (fail_numbers ms)) r e in
    fail_numbers_ok ms r (public_ok (fail_numbers ms) r known.2)

pub fails_of-in_range : (ms : Members) (all : List FailRule) → fails_of ms ≡ Ok all → rules_fault all ≡ None
unfolding fails_of
fails_of-in_range ms all e =
    list_or_ok (λ fs. rules_fault fs ≡ None) key.Fail is_table fail_item [] (list_at key.Fail ms) all e refl (λ items many read.
    let same : length all ≡ length items = length-read_each fail_item [] items all read ∙ omega arith in
    let none : first_some rule_fault all ≡ None = first_some-read_each fail_item rule_fault (λ before d r one. fail_of_ok (as_table d) r one) items all read in
    rw (range_fault-in field.Fails (length all) (omega (arith, same, many.0)) (omega (arith, same, many.1)), none) refl)

-- ---- start

new_part_ok : (before : List Start) (n part : ℕ) → new_part before n ≡ Ok part → (n ≡ part) × (list_any (λ s. s.part == part) before ≡ false)
new_part_ok before n part e =
    let found = not_chosen_ok (list_any (λ s. s.part == n) before) n (Bad key.StartPart) part e in
    (found.1, subst (λ (k : ℕ). list_any (λ s. s.part == k) before ≡ false) found.1 found.0)

map_in_ok : (value : Option (List ℕ)) (text : List ℕ) → map_in value ≡ Ok text → length text ≤ 4096
map_in_ok None text e = absurd cc
map_in_ok (Some given) text e =
    let fit = bind_ok (count_in key.StartMap (length given)) (λ _. Ok given) text e in
    subst (λ (t : List ℕ). length t ≤ 4096) (ok_is given text fit.2) (count_in_ok key.StartMap (length given) fit.0 fit.1).1

map_or_empty_ok : (value : Option (Option (List ℕ))) (text : List ℕ) → map_or_empty value ≡ Ok text → length text ≤ 4096
map_or_empty_ok None text e = subst (λ (t : List ℕ). length t ≤ 4096) (ok_is [] text e) (omega arith)
map_or_empty_ok (Some value) text e = map_in_ok value text e

start_map_ok : (ms : Members) (text : List ℕ) → start_map ms ≡ Ok text → length text ≤ 4096
unfolding start_map
start_map_ok ms text e = map_or_empty_ok (text_at key.StartMap ms) text e

pub record IsPlace (before : List Start) (given : ℕ × ℕ) : Type 0 where
  pub part : given.0 ≤ 1023
  pub position : given.1 ≤ 2 ^ 63 - 1
  pub free : list_any (λ s. s.part == given.0) before ≡ false

start_place_ok : (before : List Start) (ms : Members) (given : ℕ × ℕ) → start_place before ms ≡ Ok given → IsPlace before given
unfolding start_place
start_place_ok before ms given e =
    let numbers : Result ℕ KeyFault = number_needed key.StartPart (integer_at key.StartPart ms) in
    let positions : Result ℕ KeyFault = number_needed key.StartPosition (integer_at key.StartPosition ms) in
    let n = bind_ok numbers (λ n. new_part before n >>= (λ part. positions >>= (λ position. Ok (part, position)))) given e in
    let part = bind_ok (new_part before n.0) (λ part. positions >>= (λ position. Ok (part, position))) given n.2 in
    let position = bind_ok positions (λ position. Ok (part.0, position)) given part.2 in
    let free = new_part_ok before n.0 part.0 part.1 in
    let part_in = number_needed_ok key.StartPart (integer_at key.StartPart ms) n.0 n.1 in
    let position_in = number_needed_ok key.StartPosition (integer_at key.StartPosition ms) position.0 position.1 in
    let good : IsPlace before (part.0, position.0) = record { part = omega (arith, free.0, part_in.1); position = position_in.1; free = free.1 } in
    subst (λ (p : ℕ × ℕ). IsPlace before p) (ok_is (part.0, position.0) given position.2) good

-- a start in range, of a part that none before has
abbrev IsGoodStart : List Start → Start → Type 0
IsGoodStart before s = (start_fault s ≡ None) × (list_any (λ t. t.part == s.part) before ≡ false)

start_values_ok : (before : List Start) (ms : Members) (s : Start) → start_values before ms ≡ Ok s → IsGoodStart before s
unfolding start_values
start_values_ok before ms s e =
    let given = bind_ok (public (start_place before ms)) (λ given. public (start_map ms) >>= (λ text. Ok (record { part = given.0; position = given.1; map = text }))) s e in
    let text = bind_ok (public (start_map ms)) (λ text. Ok (record { part = given.0.0; position = given.0.1; map = text })) s given.2 in
    let at = start_place_ok before ms given.0 (public_ok (start_place before ms) given.0 given.1) in
    let short = start_map_ok ms text.0 (public_ok (start_map ms) text.0 text.1) in
    let good : start_fault (record { part = given.0.0; position = given.0.1; map = text.0 }) ≡ None =
    rw (range_fault-in field.StartPart given.0.0 (omega arith) at.part, range_fault-in field.StartPosition given.0.1 (omega arith) at.position, range_fault-in field.StartMap (length text.0) (omega arith) short) refl in
    subst (λ (start : Start). IsGoodStart before start) (ok_is (record { part = given.0.0; position = given.0.1; map = text.0 }) s text.2) (good, at.free)

start_of_ok : (before : List Start) (t : Option Members) (s : Start) → start_of before t ≡ Ok s → IsGoodStart before s
start_of_ok before None s e = absurd cc
start_of_ok before (Some ms) s e =
    let known = bind_ok (known_keys place.Start ms) (λ _. start_values before ms) s e in
    start_values_ok before ms s known.2

not_twice : (b : Bool) (fault : SetupFault) (rest : Option SetupFault) → cond b (Some fault) rest ≡ None → (b ≡ false) × (rest ≡ None)
not_twice true fault rest e = absurd cc
not_twice false fault rest e = (refl, e)

twice_fault-more : (earlier before : List Start) (s : Start) → twice_fault earlier before ≡ None → list_any (λ t. t.part == s.part) (earlier ++ before) ≡ false → twice_fault earlier (before ++ s ∷ []) ≡ None
twice_fault-more earlier [] s none free = rw (subst (λ (ss : List Start). list_any (λ t. t.part == s.part) ss ≡ false) (append-nil earlier) free) refl
twice_fault-more earlier (b ∷ before) s none free =
    let once = not_twice (list_any (λ t. t.part == b.part) earlier) (PartTwice b.part) (twice_fault (earlier ++ b ∷ []) before) none in
    rw (once.0, twice_fault-more (earlier ++ b ∷ []) before s once.1 (rw (append_assoc earlier (b ∷ []) before) free)) refl

pub starts_of-in_range : (ms : Members) (all : List Start) → starts_of ms ≡ Ok all → starts_fault all ≡ None
unfolding starts_of
starts_of-in_range ms all e =
    list_or_ok (λ ss. starts_fault ss ≡ None) key.Start is_table start_item [] (list_at key.Start ms) all e refl (λ items many read.
    let same : length all ≡ length items = length-read_each start_item [] items all read ∙ omega arith in
    let none : first_some start_fault all ≡ None = first_some-read_each start_item start_fault (λ before d s one. (start_of_ok before (as_table d) s one).0) items all read in
    let once : twice_fault [] all ≡ None = read_each-keeps start_item (λ (ss : List Start). twice_fault [] ss ≡ None) (λ before d s holds one. twice_fault-more [] before s holds (start_of_ok before (as_table d) s one).1) [] items all refl read in
    rw (range_fault-in field.Starts (length all) (omega (arith, same, many.0)) (omega (arith, same, many.1)), none, once) refl)
