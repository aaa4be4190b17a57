-- The plain lists of a value and of a table.
use Rattle.std.proofs.Common.{◌≡◌, ℕ, Bool, true, false, cond, Option, Some, None, option_map, Bor, option_copied, Less, List, [], ◌∷◌, map, String, Global, string_bytes, refl, sym, ap, ◌∙◌}
use Rattle.std.specs.List.{AllByRecursion, filter, find, fold, reduce}
use Rattle.std.specs.List.Sorted.{IsStrictlySortedBy}
use Rattle.std.specs.String.{string_cmp}
use Rattle.std.specs.Map.{keys_of}
use Rattle.toml.specs.View.{view, items_view, members_view}
use Rattle.toml.specs.declared.value.Value.{Value}
use Rattle.pc_config.specs.Members.{lesser, list_of, words_in}

abbrev Entry : Type 0
Entry = String Global × Value

pub list_of-view : (vs : List Value) → list_of (items_view vs) ≡ map view vs
list_of-view [] = refl
list_of-view (v ∷ vs) = ap (λ ds. view v ∷ ds) (list_of-view vs)

kept : (b : Bool) (a x : List ℕ) (xs : List (List ℕ)) → lesser a x ≡ a → fold lesser a xs ≡ a → fold lesser a (cond b (x ∷ xs) xs) ≡ a
kept true a x xs one more = ap (λ b. fold lesser b xs) one ∙ more
kept false a x xs one more = more

-- a key below all others stays the least
least_below : (test : List ℕ → Bool) (k : String Global) (es : List Entry) → AllByRecursion (λ y. string_cmp k y ≡ Less) (keys_of es) → fold lesser (string_bytes k) (filter test (words_in (members_view es))) ≡ string_bytes k
least_below test k [] h = refl
least_below test k (e ∷ es) h = kept (test (string_bytes e.0)) (string_bytes k) (string_bytes e.0) (filter test (words_in (members_view es))) (rw h.0 refl) (least_below test k es h.1)

first : (b : Bool) (s : String Global) (words : List (List ℕ)) (rest : Option (String Global)) → fold lesser (string_bytes s) words ≡ string_bytes s → reduce lesser words ≡ option_map string_bytes rest → reduce lesser (cond b (string_bytes s ∷ words) words) ≡ option_map string_bytes (cond b (Some s) rest)
first true s words rest least more = ap Some least
first false s words rest least more = more

least_found : (test : List ℕ → Bool) (es : List Entry) → IsStrictlySortedBy string_cmp (keys_of es) → reduce lesser (filter test (words_in (members_view es))) ≡ option_map string_bytes (find (λ word. test (string_bytes word)) (keys_of es))
unfolding IsStrictlySortedBy
least_found test [] h = refl
least_found test (e ∷ es) h = first (test (string_bytes e.0)) e.0 (filter test (words_in (members_view es))) (find (λ word. test (string_bytes word)) (keys_of es)) (least_below test e.0 es h.0) (least_found test es h.1)

bytes_of : (r : Option (Bor (String Global))) → option_map (λ w. string_bytes w.now) r ≡ option_map string_bytes (option_copied r)
bytes_of None = refl
bytes_of (Some w) = refl

-- the first of a table's keys that passes is the least one, since the keys ascend
pub least-view : (test : List ℕ → Bool) (es : List Entry) (r : Option (Bor (String Global))) → option_copied r ≡ find (λ word. test (string_bytes word)) (keys_of es) → IsStrictlySortedBy string_cmp (keys_of es) → option_map (λ w. string_bytes w.now) r ≡ reduce lesser (filter test (words_in (members_view es)))
least-view test es r e ascend = bytes_of r ∙ ap (option_map string_bytes) e ∙ sym (least_found test es ascend)
