-- The best map by the sizes of the texts.
use Rattle.std.proofs.Common.{◌≡◌, ◌↔◌, ℕ, ◌<◌, ◌≤◌, Bool, List, [], ◌∷◌, length, refl, sym, ap, ◌∙◌, arith, inl, inr}
use Rattle.std.proofs.lemmas.Bool.{cases_Bool, le-leb, lt-leb}
use Rattle.std.proofs.lemmas.Option.{some_pair_parts}
use Rattle.std.specs.Option.{IfSome, option_map}
use Rattle.std.specs.Prelude.{nat_le, nat_lt}
use Rattle.std.specs.Result.{IfOk}
use Rattle.std.specs.declared.option.Option.{Option}
use Rattle.std.specs.declared.option.Option.TheVariants.{None, Some}
use Rattle.std.specs.declared.result.Result.{Result}
use Rattle.std.specs.declared.result.Result.TheVariants.{Ok, Err}
use Rattle.pc_model.proofs.BestMapLemmas.{length-map_text, size-best_map}
use Rattle.pc_model.specs.BestMap.{BestMap, best_map, limited, map_text, shorter, shortest_text, spelled_text, text_of}
use Rattle.pc_model.specs.MapSpelling.{spelling_of}
use Rattle.pc_choice.specs.Sizes.{sized, smaller_size, text_size}

-- ---- sizes

-- the size of a letter's text
text_size-spelled : (letter : ℕ) (spelling : Option (List ℕ)) → option_map sized (spelled_text letter spelling) ≡ text_size letter (option_map (length {A = ℕ}) spelling)
text_size-spelled letter None = refl
text_size-spelled letter (Some bytes) = elim (cases_Bool (nat_le (length (map_text letter bytes)) 4294967294)) [
  | inl short ↦
      let same = rw (length-map_text letter bytes) at short in rw (short, same, length-map_text letter bytes) refl
  | inr long ↦ let same = rw (length-map_text letter bytes) at long in rw (long, same) refl
]

-- the size of a letter's text
text_size-text_of : (letter : ℕ) (bits : List Bool) → option_map sized (text_of letter bits) ≡ text_size letter (option_map (length {A = ℕ}) (spelling_of letter bits))
unfolding text_of
text_size-text_of letter bits = text_size-spelled letter (spelling_of letter bits)

-- the size of the shorter text
smaller_size-shorter : (first second : Option (ℕ × List ℕ)) → option_map sized (shorter first second) ≡ smaller_size (option_map sized first) (option_map sized second)
smaller_size-shorter None second = refl
smaller_size-shorter (Some first) None = refl
smaller_size-shorter (Some first) (Some second) = elim (cases_Bool (nat_lt (length second.1) (length first.1))) [
  | inl less ↦ rw less refl
  | inr not_less ↦ rw not_less refl
]

-- the size of the shortest text
pub smaller_size-shortest_text : (bits : List Bool) (l n o e : Option ℕ) → l ≡ option_map length (spelling_of 108 bits) → n ≡ option_map length (spelling_of 110 bits) → o ≡ option_map length (spelling_of 111 bits) → e ≡ option_map length (spelling_of 101 bits)
    → smaller_size (smaller_size (smaller_size (text_size 108 l) (text_size 110 n)) (text_size 111 o)) (text_size 101 e) ≡ option_map sized (shortest_text bits)
unfolding shortest_text
smaller_size-shortest_text bits l n o e is_l is_n is_o is_e =
    rw (is_l, is_n, is_o, is_e, ← text_size-text_of 108 bits, ← text_size-text_of 110 bits, ← text_size-text_of 111 bits, ← text_size-text_of 101 bits)
    (sym (smaller_size-shorter (shorter (shorter (text_of 108 bits) (text_of 110 bits)) (text_of 111 bits)) (text_of 101 bits)
    ∙ ap (λ (s : Option (ℕ × ℕ)). smaller_size s (option_map sized (text_of 101 bits))) (smaller_size-shorter (shorter (text_of 108 bits) (text_of 110 bits)) (text_of 111 bits)
    ∙ ap (λ (s : Option (ℕ × ℕ)). smaller_size s (option_map sized (text_of 111 bits))) (smaller_size-shorter (text_of 108 bits) (text_of 110 bits)))))

-- ---- the best map

-- no bits
pub best_map-empty : (bits : List Bool) (limit : ℕ) → length bits ≡ 0 → best_map bits limit ≡ record { letter = None; text = []; size = 0 }
unfolding best_map
best_map-empty [] limit none = refl
best_map-empty (bit ∷ bits) limit none = absurd (omega arith)

-- bits
best_map-some : (bits : List Bool) (limit : ℕ) → (length bits ≡ 0 → ⊥) → best_map bits limit ≡ limited limit (shortest_text bits)
unfolding best_map
best_map-some [] limit some = absurd (some refl)
best_map-some (bit ∷ bits) limit some = refl

-- no encoding holds the bits
pub best_map-none : (bits : List Bool) (limit : ℕ) → (length bits ≡ 0 → ⊥) → None ≡ option_map sized (shortest_text bits) → best_map bits limit ≡ record { letter = None; text = []; size = 4294967295 }
best_map-none bits limit some none = best_map-some bits limit some ∙ go (shortest_text bits) none where
  go : (best : Option (ℕ × List ℕ)) → None ≡ option_map sized best → limited limit best ≡ record { letter = None; text = []; size = 4294967295 }
  go None is = refl
  go (Some text) is = cc is

-- the shortest text is too long
pub best_map-long : (bits : List Bool) (limit letter size : ℕ) → (length bits ≡ 0 → ⊥) → Some (letter, size) ≡ option_map sized (shortest_text bits) → limit < size
    → best_map bits limit ≡ record { letter = None; text = []; size = size }
best_map-long bits limit letter size some is long = best_map-some bits limit some ∙ go (shortest_text bits) is where
  go : (best : Option (ℕ × List ℕ)) → Some (letter, size) ≡ option_map sized best → limited limit best ≡ record { letter = None; text = []; size = size }
  go None is = cc is
  go (Some text) is =
      let same : size ≡ length text.1 = (some_pair_parts letter text.0 size (length text.1) is).1 in rw (same, lt-leb (length text.1) limit (omega (arith, same, long))) refl

-- ---- the chosen spelling

-- a text is that of a spelling
abbrev IsSpelled : List Bool → Option (ℕ × List ℕ) → Type 0
IsSpelled bits best = IfSome best (λ text. (bytes : List ℕ) × (spelling_of text.0 bits ≡ Some bytes) × (text.1 ≡ map_text text.0 bytes))

-- one of two texts
IsSpelled-shorter : (bits : List Bool) (first second : Option (ℕ × List ℕ)) → IsSpelled bits first → IsSpelled bits second → IsSpelled bits (shorter first second)
IsSpelled-shorter bits None second a b = b
IsSpelled-shorter bits (Some first) None a b = a
IsSpelled-shorter bits (Some first) (Some second) a b = elim (cases_Bool (nat_lt (length second.1) (length first.1))) [
  | inl less ↦ rw less b
  | inr not_less ↦ rw not_less a
]

-- the text of a letter
IsSpelled-text_of : (letter : ℕ) (bits : List Bool) → IsSpelled bits (text_of letter bits)
unfolding text_of
IsSpelled-text_of letter bits = go (spelling_of letter bits) refl where
  go : (spelling : Option (List ℕ)) → spelling_of letter bits ≡ spelling → IsSpelled bits (spelled_text letter spelling)
  go None is = tt
  go (Some bytes) is = elim (cases_Bool (nat_le (length (map_text letter bytes)) 4294967294)) [
    | inl short ↦ rw short (bytes, is, refl)
    | inr long ↦ rw long tt
  ]

-- the shortest text
IsSpelled-shortest_text : (bits : List Bool) → IsSpelled bits (shortest_text bits)
unfolding shortest_text
IsSpelled-shortest_text bits =
    IsSpelled-shorter bits _ _ (IsSpelled-shorter bits _ _ (IsSpelled-shorter bits _ _ (IsSpelled-text_of 108 bits) (IsSpelled-text_of 110 bits)) (IsSpelled-text_of 111 bits)) (IsSpelled-text_of 101 bits)

-- the shortest text by its letter and its size
shortest_text-spelled : (bits : List Bool) (letter size : ℕ) → Some (letter, size) ≡ option_map sized (shortest_text bits)
    → (bytes : List ℕ) × (spelling_of letter bits ≡ Some bytes) × (shortest_text bits ≡ Some (letter, map_text letter bytes)) × (length (map_text letter bytes) ≡ size)
shortest_text-spelled bits letter size is = go (shortest_text bits) refl is (IsSpelled-shortest_text bits) where
  go : (best : Option (ℕ × List ℕ)) → shortest_text bits ≡ best → Some (letter, size) ≡ option_map sized best → IsSpelled bits best
      → (bytes : List ℕ) × (spelling_of letter bits ≡ Some bytes) × (shortest_text bits ≡ Some (letter, map_text letter bytes)) × (length (map_text letter bytes) ≡ size)
  go None same is spelled = cc is
  go (Some (m, text)) same is (bytes, spelling, text_is) =
      let parts = some_pair_parts letter m size (length text) is in
      let letter_is = parts.0 in
      let size_is = parts.1 in
      (bytes, rw letter_is spelling, rw (letter_is, ← text_is) same, rw (letter_is, ← text_is) (sym size_is))

-- the shortest text is short enough
pub best_map-fits : (bits : List Bool) (limit letter size : ℕ) (text : List ℕ) → (length bits ≡ 0 → ⊥) → Some (letter, size) ≡ option_map sized (shortest_text bits) → size ≤ limit
    → Some text ≡ option_map (map_text letter) (spelling_of letter bits) → best_map bits limit ≡ record { letter = Some letter; text = text; size = size }
best_map-fits bits limit letter size text some is fits spelled =
    let best = shortest_text-spelled bits letter size is in
    let text_is : text ≡ map_text letter best.0 = cc (rw best.1 at spelled) in
    best_map-some bits limit some ∙ rw (best.2, best.3, le-leb size limit fits, text_is) refl

-- the chosen spelling is there
pub spelled-some : (bits : List Bool) (letter size : ℕ) → Some (letter, size) ≡ option_map sized (shortest_text bits) → None ≡ option_map (map_text letter) (spelling_of letter bits) → ⊥
spelled-some bits letter size is none =
    let best = shortest_text-spelled bits letter size is in let wrong = rw best.1 at none in cc wrong

-- ---- the laws of a choice

-- a best map has no letter
abbrev HasNoLetter : BestMap → Type 0
HasNoLetter best = (best.letter ≡ None) ↔ (best.text ≡ [])

-- a text that was spelled is not empty
HasNoLetter-limited : (bits : List Bool) (limit : ℕ) (best : Option (ℕ × List ℕ)) → IsSpelled bits best → HasNoLetter (limited limit best)
HasNoLetter-limited bits limit None spelled = (λ h. refl, λ h. refl)
HasNoLetter-limited bits limit (Some (letter, text)) (bytes, spelling, is) = elim (cases_Bool (nat_le (length text) limit)) [
  | inl fits ↦
      let filled : text ≡ [] → ⊥ = λ (empty : text ≡ []).
      (let len = length-map_text letter bytes in
      let same : length text ≡ length (map_text letter bytes) = ap length is in
      let none : length text ≡ 0 = ap length empty in
      omega (arith, len, same, none)) in
      rw fits (λ h. cc h, λ h. absurd (filled h))
  | inr long ↦ rw long (λ h. refl, λ h. refl)
]

-- the best map has no letter exactly where its text is empty
pub HasNoLetter-best_map : (bits : List Bool) (limit : ℕ) → HasNoLetter (best_map bits limit)
unfolding best_map
HasNoLetter-best_map [] limit = (λ h. refl, λ h. refl)
HasNoLetter-best_map (bit ∷ bits) limit = HasNoLetter-limited (bit ∷ bits) limit (shortest_text (bit ∷ bits)) (IsSpelled-shortest_text (bit ∷ bits))

-- a choice that is the best map has no letter exactly where its text is empty
pub no_letter : {X E : Type 0} (letter : X → Option ℕ) (text : X → List ℕ) (bits : List Bool) (limit : ℕ) (result : Result X E)
    → IfOk result (λ choice. letter choice ≡ (best_map bits limit).letter) → IfOk result (λ choice. text choice ≡ (best_map bits limit).text)
    → IfOk result (λ choice. (letter choice ≡ None) ↔ (text choice ≡ []))
no_letter letter text bits limit (Ok choice) letter_is text_is = rw (letter_is, text_is) (HasNoLetter-best_map bits limit)
no_letter letter text bits limit (Err e) letter_is text_is = tt

-- no other text is shorter
pub no_shorter_text : {X E : Type 0} (size : X → ℕ) (bits : List Bool) (limit : ℕ) (result : Result X E) → IfOk result (λ choice. size choice ≡ (best_map bits limit).size)
    → IfOk result (λ choice. (letter : ℕ) (other : ℕ × List ℕ) → text_of letter bits ≡ Some other → size choice ≤ length other.1)
no_shorter_text size bits limit (Ok choice) is =
    λ letter other text. rw is (size-best_map letter limit bits other text)
no_shorter_text size bits limit (Err e) is = tt
