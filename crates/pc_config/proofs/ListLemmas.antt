-- Reading a list item by item.
use Rattle.std.proofs.Common.{◌≡◌, ℕ, ◌+◌, ◌<◌, ◌≤◌, Bool, true, false, List, [], ◌∷◌, ◌++◌, length, map, drop, get_or, Result, Ok, Err, refl, sym, ap, ◌∙◌}
use Rattle.std.proofs.lemmas.List.{drop_all, drop_more, length-map}
use Rattle.std.proofs.lemmas.List.Folds.{list_all-map}
use Rattle.std.specs.List.{list_all}
use Rattle.toml.specs.Data.{Data}
use Rattle.toml.specs.View.{view}
use Rattle.toml.specs.declared.value.Value.{Value}
use Rattle.pc_config.specs.declared.key.Key.{Key}
use Rattle.pc_config.specs.declared.fault.KeyFault.TheVariants.{Bad}
use Rattle.pc_config.specs.declared.fault.ConfigFault.{ConfigFault}
use Rattle.pc_config.specs.Faults.{◌>>=◌}
use Rattle.pc_config.specs.Lists.{read_each, count_in, list_fits}

module _ {A B V : Type 0} (read : List B → A → Result B ConfigFault) (seen : V → A) (before : List B) (all : List V) (i : ℕ) (whole : Result (List B) ConfigFault) (left : read_each read before (map seen (drop i all)) ≡ whole) where
  then_rest : Result B ConfigFault → Result (List B) ConfigFault
  then_rest r = r >>= (λ y. read_each read (before ++ y ∷ []) (map seen (drop (i + 1) all)))

  here : (x : V) → i < length all → x ≡ get_or all i x → then_rest (read before (seen x)) ≡ whole
  unfolding read_each then_rest
  here x within is =
      let front : drop i all ≡ x ∷ drop (i + 1) all = drop_more all i x within ∙ ap (λ v. v ∷ drop (i + 1) all) (sym is) in
      let one : read_each read before (map seen (drop i all)) ≡ then_rest (read before (seen x)) = rw front refl in
      sym one ∙ left

  -- one item more
  pub read_each-next : (x : V) (y : B) → i < length all → x ≡ get_or all i x → read before (seen x) ≡ Ok y → read_each read (before ++ y ∷ []) (map seen (drop (i + 1) all)) ≡ whole
  unfolding then_rest
  read_each-next x y within is one = sym (ap then_rest one) ∙ here x within is

  -- a fault
  pub read_each-fault : (x : V) (fault : ConfigFault) → i < length all → x ≡ get_or all i x → read before (seen x) ≡ Err fault → whole ≡ Err fault
  unfolding then_rest
  read_each-fault x fault within is one = sym (here x within is) ∙ ap then_rest one

-- no item is left
pub read_each-end : {A B V : Type 0} (read : List B → A → Result B ConfigFault) (seen : V → A) (before : List B) (all : List V) (i : ℕ) (whole : Result (List B) ConfigFault) → read_each read before (map seen (drop i all)) ≡ whole → length all ≤ i → whole ≡ Ok before
unfolding read_each
read_each-end read seen before all i whole left past =
    let none : read_each read before (map seen (drop i all)) ≡ Ok before = rw (drop_all i all past) refl in
    sym left ∙ none

-- a list of one type
pub list_fits-all : (k : Key) (is_item : Data → Bool) (vs : List Value) → list_all (λ v. is_item (view v)) vs ≡ true → list_fits k is_item (map view vs) ≡ count_in k (length vs)
list_fits-all k is_item vs e = rw (list_all-map is_item view vs, e, length-map vs view) refl

-- a list with an item of another type
pub list_fits-not : (k : Key) (is_item : Data → Bool) (vs : List Value) → list_all (λ v. is_item (view v)) vs ≡ false → list_fits k is_item (map view vs) ≡ Err (Bad k)
list_fits-not k is_item vs e = rw (list_all-map is_item view vs, e) refl
