-- What is written of an event is read again, and what is read is written so.
use Rattle.std.proofs.Common.{◌≡◌, ℕ, ◌-◌, ◌^◌, ◌<◌, ◌≤◌, Bool, true, false, cond, eqb, leb, List, [], ◌∷◌, ◌++◌, Option, Some, None, refl, sym, ap, subst, ◌∙◌, inl, inr, arith}
use Rattle.std.specs.Prelude.{codes, IsUtf8, ◌⊎◌}
use Rattle.std.specs.Fmt.{decimal}
use Rattle.std.specs.List.{slice_split, AllByRecursion}
use Rattle.std.specs.Str.{bytes_eq, is_utf8}
use Rattle.std.proofs.lemmas.Bool.{eqb-true, le-leb, leb-true}
use Rattle.std.proofs.lemmas.List.{append-nil}
use Rattle.std.proofs.lemmas.Option.{cond_some}
use Rattle.std.proofs.lemmas.Slice.Eq.{bytes_eq-Decides}
use Rattle.std.proofs.lemmas.Str.{IsUtf8-from_is_utf8, is_utf8-from_IsUtf8}
use Rattle.pc_lines.specs.Decimal.{number_of}
use Rattle.pc_lines.specs.Escape.{IsBytes, unescaped_of}
use Rattle.pc_lines.specs.Pieces.{is_space}
use Rattle.pc_lines.proofs.DecimalLemmas.{number_of-decimal, decimal-number_of}
use Rattle.pc_lines.proofs.EscapeLemmas.{unescaped_of-escaped_of, escaped_of-unescaped_of}
use Rattle.pc_model.specs.declared.event.Event.{Event}
use Rattle.pc_model.specs.declared.event.Event.TheVariants as event
use Rattle.pc_print.specs.declared.event_word.EventWord.{EventWord}
use Rattle.pc_print.specs.declared.event_word.EventWord.TheVariants as word
use Rattle.pc_print.specs.Line.{marked, named, commit_words, event_words, spaced, bare_line_of, IsEvent}
use Rattle.pc_print.specs.Reading.{◌>>=◌, Words, number_at, after_name, marked_bytes, bytes_at, named_at, small_at, large_at, named_small, named_large, if_text, map_at, assign_at, poll_at, dispatch_at, success_at, failure_at, stale_at, tick_at, commit_at, end_at, stored, ended, event_word_of, behind_word, at_end, event_of_words, event_of}
use Rattle.pc_print.proofs.WordLemmas.{AreVisible, name_visible, decimal_visible, marked_visible, slice_split-spaced, spaced-slice_split}
use Rattle.pc_print.proofs.Utf8Lemmas.{IsBytes-from_IsUtf8}

-- ---- what is written is read again, word by word

number_again : (most n : ℕ) (rest : Words) → n ≤ most → n < 2 ^ 64 → number_at most (decimal n ∷ rest) ≡ Some (n, rest)
unfolding number_at
number_again most n rest within small = rw (number_of-decimal n small, le-leb n most within) refl

small_again : (n : ℕ) (rest : Words) → n < 2 ^ 32 → small_at (decimal n ∷ rest) ≡ Some (n, rest)
small_again n rest lt = number_again (2 ^ 32 - 1) n rest (omega arith) (omega arith)

large_again : (n : ℕ) (rest : Words) → n < 2 ^ 64 → large_at (decimal n ∷ rest) ≡ Some (n, rest)
large_again n rest lt = number_again (2 ^ 64 - 1) n rest (omega arith) lt

name_again : (name : List ℕ) (rest : Words) → after_name name (name ∷ rest) ≡ Some rest
unfolding after_name
name_again name rest = rw (bytes_eq-Decides name name).1 refl

named_again : (name : List ℕ) (most n : ℕ) (rest : Words) → n ≤ most → n < 2 ^ 64 → named_at name most (name ∷ decimal n ∷ rest) ≡ Some (n, rest)
unfolding named_at
named_again name most n rest within small = rw (name_again name (decimal n ∷ rest), number_again most n rest within small) refl

named_small_again : (name : List ℕ) (n : ℕ) (rest : Words) → n < 2 ^ 32 → named_small name (name ∷ decimal n ∷ rest) ≡ Some (n, rest)
named_small_again name n rest lt = named_again name (2 ^ 32 - 1) n rest (omega arith) (omega arith)

named_large_again : (name : List ℕ) (n : ℕ) (rest : Words) → n < 2 ^ 64 → named_large name (name ∷ decimal n ∷ rest) ≡ Some (n, rest)
named_large_again name n rest lt = named_again name (2 ^ 64 - 1) n rest (omega arith) lt

bytes_again : (bytes : List ℕ) (rest : Words) → IsBytes bytes → bytes_at (marked bytes ∷ rest) ≡ Some (bytes, rest)
unfolding bytes_at
bytes_again bytes rest small = rw (unescaped_of-escaped_of bytes small) refl

map_again : (map : List ℕ) (rest : Words) → IsUtf8 map → map_at (codes "map" ∷ marked map ∷ rest) ≡ Some (map, rest)
unfolding map_at
map_again map rest text = rw (name_again (codes "map") (marked map ∷ rest), bytes_again map rest (IsBytes-from_IsUtf8 map text), is_utf8-from_IsUtf8 map text) refl

-- ---- event by event

words_again : (e : Event) → IsEvent e → event_of_words (event_words e) ≡ Some e
unfolding event_of_words event_word_of behind_word assign_at poll_at dispatch_at success_at failure_at stale_at tick_at commit_at end_at
words_again (event.Assign part epoch position map) h = rw (small_again part _ h.0, named_large_again (codes "epoch") epoch _ h.1, named_large_again (codes "at") position _ h.2, map_again map [] h.3) refl
words_again (event.Poll part count last) h = rw (small_again part _ h.0, named_small_again (codes "count") count _ h.1, named_large_again (codes "last") last [] h.2) refl
words_again (event.Dispatch ticket worker part offset epoch attempt) h =
    rw (large_again ticket _ h.0, named_small_again (codes "worker") worker _ h.1, named_small_again (codes "part") part _ h.2, named_large_again (codes "offset") offset _ h.3, named_large_again (codes "epoch") epoch _ h.4, named_small_again (codes "attempt") attempt [] h.5) refl
words_again (event.Success ticket answer) h = rw (large_again ticket _ h.0, bytes_again answer [] h.1) refl
words_again (event.Failure ticket code ready_at) h = rw (large_again ticket _ h.0, named_small_again (codes "code") code _ h.1, named_large_again (codes "ready") ready_at [] h.2) refl
words_again (event.Stale ticket) h = rw (large_again ticket [] h) refl
words_again (event.Commit part position map size) h = rw (small_again part _ h.0, named_large_again (codes "at") position _ h.1, map_again map _ h.2, named_small_again (codes "size") size [] h.3) refl
words_again (event.CommitFailed part position map size) h = rw (small_again part _ h.0, named_large_again (codes "at") position _ h.1, map_again map _ h.2, named_small_again (codes "size") size [] h.3) refl
words_again (event.Revoke part epoch) h = rw (small_again part _ h.0, named_large_again (codes "epoch") epoch [] h.1) refl
words_again (event.Lost part epoch) h = rw (small_again part _ h.0, named_large_again (codes "epoch") epoch [] h.1) refl
words_again event.Crash h = refl
words_again (event.Tick now) h = rw (large_again now [] h) refl
words_again event.Drain h = refl
words_again event.Done h = refl
words_again event.Closed h = refl

-- ---- what is read is written so, word by word

bind_some : {A B : Type 0} (o : Option A) (f : A → Option B) (y : B) → (o >>= f) ≡ Some y → (x : A) × (o ≡ Some x) × (f x ≡ Some y)
bind_some None f y e = absurd cc
bind_some (Some x) f y e = (x, refl, e)

some_is : {A : Type 0} {x y : A} → Some x ≡ Some y → x ≡ y
some_is e = cc

chosen : {A : Type 0} (b : Bool) (x other : Option A) (y : A) → cond b x other ≡ Some y → ((b ≡ true) × (x ≡ Some y)) ⊎ (other ≡ Some y)
chosen true x other y e = inl (refl, e)
chosen false x other y e = inr e

chosen_some : {A : Type 0} (b : Bool) (o : Option A) (y : A) → cond b o None ≡ Some y → (b ≡ true) × (o ≡ Some y)
chosen_some true o y e = (refl, e)
chosen_some false o y e = absurd cc

number_takes : (most : ℕ) (words : Words) (found : ℕ × Words) → number_at most words ≡ Some found → (words ≡ decimal found.0 ∷ found.1) × (found.0 ≤ most)
unfolding number_at
number_takes most [] found e = absurd cc
number_takes most (text ∷ rest) found e =
    let n = bind_some (number_of text) (λ n. cond (leb n most) (Some (n, rest)) None) found e in
    let test = cond_some (leb n.0 most) (n.0, rest) found n.2 in
    let spelled = decimal-number_of text n.0 n.1 in
    subst (λ (x : ℕ × Words). (text ∷ rest ≡ decimal x.0 ∷ x.1) × (x.0 ≤ most)) test.1 (ap (λ (t : List ℕ). t ∷ rest) (sym spelled.0), leb-true n.0 most test.0)

name_takes : (name : List ℕ) (words rest : Words) → after_name name words ≡ Some rest → words ≡ name ∷ rest
unfolding after_name
name_takes name [] rest e = absurd cc
name_takes name (text ∷ more) rest e =
    let test = cond_some (bytes_eq text name) more rest e in
    ap (λ (t : List ℕ). t ∷ more) ((bytes_eq-Decides text name).0 test.0) ∙ ap (λ (r : Words). name ∷ r) test.1

named_takes : (name : List ℕ) (most : ℕ) (words : Words) (found : ℕ × Words) → named_at name most words ≡ Some found → (words ≡ name ∷ decimal found.0 ∷ found.1) × (found.0 ≤ most)
unfolding named_at
named_takes name most words found e =
    let behind = bind_some (after_name name words) (number_at most) found e in
    let number = number_takes most behind.0 found behind.2 in
    (name_takes name words behind.0 behind.1 ∙ ap (λ (r : Words). name ∷ r) number.0, number.1)

marked_takes : (text bytes : List ℕ) → marked_bytes text ≡ Some bytes → (text ≡ marked bytes) × IsBytes bytes
marked_takes [] bytes e = absurd cc
marked_takes (b ∷ text) bytes e =
    let found = chosen_some (eqb b 61) (unescaped_of text) bytes e in
    let spelled = escaped_of-unescaped_of text bytes found.1 in
    (ap (λ (x : ℕ). x ∷ text) (eqb-true b 61 found.0) ∙ ap (λ (t : List ℕ). 61 ∷ t) (sym spelled.0), spelled.1)

bytes_takes : (words : Words) (found : List ℕ × Words) → bytes_at words ≡ Some found → (words ≡ marked found.0 ∷ found.1) × IsBytes found.0
unfolding bytes_at
bytes_takes [] found e = absurd cc
bytes_takes (text ∷ rest) found e =
    let bytes = bind_some (marked_bytes text) (λ bytes. Some (bytes, rest)) found e in
    let one = marked_takes text bytes.0 bytes.1 in
    subst (λ (x : List ℕ × Words). (text ∷ rest ≡ marked x.0 ∷ x.1) × IsBytes x.0) (some_is bytes.2) (ap (λ (t : List ℕ). t ∷ rest) one.0, one.1)

map_takes : (words : Words) (found : List ℕ × Words) → map_at words ≡ Some found → (words ≡ codes "map" ∷ marked found.0 ∷ found.1) × IsUtf8 found.0
unfolding map_at
map_takes words found e =
    let behind = bind_some (after_name (codes "map") words) (λ rest. bytes_at rest >>= λ bytes. if_text bytes.0 >>= λ text. Some (text, bytes.1)) found e in
    let bytes = bind_some (bytes_at behind.0) (λ bytes. if_text bytes.0 >>= λ text. Some (text, bytes.1)) found behind.2 in
    let text = bind_some (if_text bytes.0.0) (λ text. Some (text, bytes.0.1)) found bytes.2 in
    let test = cond_some (is_utf8 bytes.0.0) bytes.0.0 text.0 text.1 in
    let one = bytes_takes behind.0 bytes.0 bytes.1 in
    let whole : words ≡ codes "map" ∷ marked bytes.0.0 ∷ bytes.0.1 = name_takes (codes "map") words behind.0 behind.1 ∙ ap (λ (r : Words). codes "map" ∷ r) one.0 in
    let is : (bytes.0.0, bytes.0.1) ≡ found = ap (λ (t : List ℕ). (t, bytes.0.1)) test.1 ∙ some_is {x = (text.0, bytes.0.1)} text.2 in
    subst (λ (x : List ℕ × Words). (words ≡ codes "map" ∷ marked x.0 ∷ x.1) × IsUtf8 x.0) is (whole, IsUtf8-from_is_utf8 bytes.0.0 test.0)

-- ---- event by event

-- the words behind the first, and what is left, are those of an event
record Found (name : List ℕ) (words : Words) (found : Event × Words) : Type 0 where
  whole : name ∷ words ≡ event_words found.0 ++ found.1
  fits : IsEvent found.0

small_takes : (words : Words) (found : ℕ × Words) → small_at words ≡ Some found → (words ≡ decimal found.0 ∷ found.1) × (found.0 < 2 ^ 32)
small_takes words found e = let taken = number_takes (2 ^ 32 - 1) words found e in (taken.0, omega (arith, taken.1))

large_takes : (words : Words) (found : ℕ × Words) → large_at words ≡ Some found → (words ≡ decimal found.0 ∷ found.1) × (found.0 < 2 ^ 64)
large_takes words found e = let taken = number_takes (2 ^ 64 - 1) words found e in (taken.0, omega (arith, taken.1))

named_small_takes : (name : List ℕ) (words : Words) (found : ℕ × Words) → named_small name words ≡ Some found → (words ≡ name ∷ decimal found.0 ∷ found.1) × (found.0 < 2 ^ 32)
named_small_takes name words found e = let taken = named_takes name (2 ^ 32 - 1) words found e in (taken.0, omega (arith, taken.1))

named_large_takes : (name : List ℕ) (words : Words) (found : ℕ × Words) → named_large name words ≡ Some found → (words ≡ name ∷ decimal found.0 ∷ found.1) × (found.0 < 2 ^ 64)
named_large_takes name words found e = let taken = named_takes name (2 ^ 64 - 1) words found e in (taken.0, omega (arith, taken.1))

-- one word more, and two
one : (a : List ℕ) {words rest : Words} → words ≡ rest → a ∷ words ≡ a ∷ rest
one a e = ap (λ (r : Words). a ∷ r) e

two : (a b : List ℕ) {words rest : Words} → words ≡ rest → a ∷ b ∷ words ≡ a ∷ b ∷ rest
two a b e = ap (λ (r : Words). a ∷ b ∷ r) e

assign_takes : (words : Words) (found : Event × Words) → assign_at words ≡ Some found → Found (codes "assign") words found
unfolding assign_at
assign_takes words found e =
    let part = bind_some (small_at words) (λ part. named_large (codes "epoch") part.1 >>= λ epoch. named_large (codes "at") epoch.1 >>= λ position. map_at position.1 >>= λ map. Some (event.Assign part.0 epoch.0 position.0 map.0, map.1)) found e in
    let epoch = bind_some (named_large (codes "epoch") part.0.1) (λ epoch. named_large (codes "at") epoch.1 >>= λ position. map_at position.1 >>= λ map. Some (event.Assign part.0.0 epoch.0 position.0 map.0, map.1)) found part.2 in
    let position = bind_some (named_large (codes "at") epoch.0.1) (λ position. map_at position.1 >>= λ map. Some (event.Assign part.0.0 epoch.0.0 position.0 map.0, map.1)) found epoch.2 in
    let map = bind_some (map_at position.0.1) (λ map. Some (event.Assign part.0.0 epoch.0.0 position.0.0 map.0, map.1)) found position.2 in
    let w0 = small_takes words part.0 part.1 in
    let w1 = named_large_takes (codes "epoch") part.0.1 epoch.0 epoch.1 in
    let w2 = named_large_takes (codes "at") epoch.0.1 position.0 position.1 in
    let w3 = map_takes position.0.1 map.0 map.1 in
    let whole = one (codes "assign") (w0.0 ∙ one (decimal part.0.0) (w1.0 ∙ two (codes "epoch") (decimal epoch.0.0) (w2.0 ∙ two (codes "at") (decimal position.0.0) (w3.0)))) in
    subst (λ (x : Event × Words). Found (codes "assign") words x) (some_is {x = (event.Assign part.0.0 epoch.0.0 position.0.0 map.0.0, map.0.1)} map.2) (record { whole = whole; fits = (w0.1, w1.1, w2.1, w3.1) })

poll_takes : (words : Words) (found : Event × Words) → poll_at words ≡ Some found → Found (codes "poll") words found
unfolding poll_at
poll_takes words found e =
    let part = bind_some (small_at words) (λ part. named_small (codes "count") part.1 >>= λ count. named_large (codes "last") count.1 >>= λ last. Some (event.Poll part.0 count.0 last.0, last.1)) found e in
    let count = bind_some (named_small (codes "count") part.0.1) (λ count. named_large (codes "last") count.1 >>= λ last. Some (event.Poll part.0.0 count.0 last.0, last.1)) found part.2 in
    let last = bind_some (named_large (codes "last") count.0.1) (λ last. Some (event.Poll part.0.0 count.0.0 last.0, last.1)) found count.2 in
    let w0 = small_takes words part.0 part.1 in
    let w1 = named_small_takes (codes "count") part.0.1 count.0 count.1 in
    let w2 = named_large_takes (codes "last") count.0.1 last.0 last.1 in
    let whole = one (codes "poll") (w0.0 ∙ one (decimal part.0.0) (w1.0 ∙ two (codes "count") (decimal count.0.0) (w2.0))) in
    subst (λ (x : Event × Words). Found (codes "poll") words x) (some_is {x = (event.Poll part.0.0 count.0.0 last.0.0, last.0.1)} last.2) (record { whole = whole; fits = (w0.1, w1.1, w2.1) })

dispatch_takes : (words : Words) (found : Event × Words) → dispatch_at words ≡ Some found → Found (codes "dispatch") words found
unfolding dispatch_at
dispatch_takes words found e =
    let ticket = bind_some (large_at words) (λ ticket. named_small (codes "worker") ticket.1 >>= λ worker. named_small (codes "part") worker.1 >>= λ part. named_large (codes "offset") part.1 >>= λ offset. named_large (codes "epoch") offset.1 >>= λ epoch. named_small (codes "attempt") epoch.1 >>= λ attempt. Some (event.Dispatch ticket.0 worker.0 part.0 offset.0 epoch.0 attempt.0, attempt.1)) found e in
    let worker = bind_some (named_small (codes "worker") ticket.0.1) (λ worker. named_small (codes "part") worker.1 >>= λ part. named_large (codes "offset") part.1 >>= λ offset. named_large (codes "epoch") offset.1 >>= λ epoch. named_small (codes "attempt") epoch.1 >>= λ attempt. Some (event.Dispatch ticket.0.0 worker.0 part.0 offset.0 epoch.0 attempt.0, attempt.1)) found ticket.2 in
    let part = bind_some (named_small (codes "part") worker.0.1) (λ part. named_large (codes "offset") part.1 >>= λ offset. named_large (codes "epoch") offset.1 >>= λ epoch. named_small (codes "attempt") epoch.1 >>= λ attempt. Some (event.Dispatch ticket.0.0 worker.0.0 part.0 offset.0 epoch.0 attempt.0, attempt.1)) found worker.2 in
    let offset = bind_some (named_large (codes "offset") part.0.1) (λ offset. named_large (codes "epoch") offset.1 >>= λ epoch. named_small (codes "attempt") epoch.1 >>= λ attempt. Some (event.Dispatch ticket.0.0 worker.0.0 part.0.0 offset.0 epoch.0 attempt.0, attempt.1)) found part.2 in
    let epoch = bind_some (named_large (codes "epoch") offset.0.1) (λ epoch. named_small (codes "attempt") epoch.1 >>= λ attempt. Some (event.Dispatch ticket.0.0 worker.0.0 part.0.0 offset.0.0 epoch.0 attempt.0, attempt.1)) found offset.2 in
    let attempt = bind_some (named_small (codes "attempt") epoch.0.1) (λ attempt. Some (event.Dispatch ticket.0.0 worker.0.0 part.0.0 offset.0.0 epoch.0.0 attempt.0, attempt.1)) found epoch.2 in
    let w0 = large_takes words ticket.0 ticket.1 in
    let w1 = named_small_takes (codes "worker") ticket.0.1 worker.0 worker.1 in
    let w2 = named_small_takes (codes "part") worker.0.1 part.0 part.1 in
    let w3 = named_large_takes (codes "offset") part.0.1 offset.0 offset.1 in
    let w4 = named_large_takes (codes "epoch") offset.0.1 epoch.0 epoch.1 in
    let w5 = named_small_takes (codes "attempt") epoch.0.1 attempt.0 attempt.1 in
    let whole = one (codes "dispatch") (w0.0 ∙ one (decimal ticket.0.0) (w1.0 ∙ two (codes "worker") (decimal worker.0.0) (w2.0 ∙ two (codes "part") (decimal part.0.0) (w3.0 ∙ two (codes "offset") (decimal offset.0.0) (w4.0 ∙ two (codes "epoch") (decimal epoch.0.0) (w5.0)))))) in
    subst (λ (x : Event × Words). Found (codes "dispatch") words x) (some_is {x = (event.Dispatch ticket.0.0 worker.0.0 part.0.0 offset.0.0 epoch.0.0 attempt.0.0, attempt.0.1)} attempt.2) (record { whole = whole; fits = (w0.1, w1.1, w2.1, w3.1, w4.1, w5.1) })

success_takes : (words : Words) (found : Event × Words) → success_at words ≡ Some found → Found (codes "success") words found
unfolding success_at
success_takes words found e =
    let ticket = bind_some (large_at words) (λ ticket. bytes_at ticket.1 >>= λ answer. Some (event.Success ticket.0 answer.0, answer.1)) found e in
    let answer = bind_some (bytes_at ticket.0.1) (λ answer. Some (event.Success ticket.0.0 answer.0, answer.1)) found ticket.2 in
    let w0 = large_takes words ticket.0 ticket.1 in
    let w1 = bytes_takes ticket.0.1 answer.0 answer.1 in
    let whole = one (codes "success") (w0.0 ∙ one (decimal ticket.0.0) (w1.0)) in
    subst (λ (x : Event × Words). Found (codes "success") words x) (some_is {x = (event.Success ticket.0.0 answer.0.0, answer.0.1)} answer.2) (record { whole = whole; fits = (w0.1, w1.1) })

failure_takes : (words : Words) (found : Event × Words) → failure_at words ≡ Some found → Found (codes "failure") words found
unfolding failure_at
failure_takes words found e =
    let ticket = bind_some (large_at words) (λ ticket. named_small (codes "code") ticket.1 >>= λ code. named_large (codes "ready") code.1 >>= λ ready. Some (event.Failure ticket.0 code.0 ready.0, ready.1)) found e in
    let code = bind_some (named_small (codes "code") ticket.0.1) (λ code. named_large (codes "ready") code.1 >>= λ ready. Some (event.Failure ticket.0.0 code.0 ready.0, ready.1)) found ticket.2 in
    let ready = bind_some (named_large (codes "ready") code.0.1) (λ ready. Some (event.Failure ticket.0.0 code.0.0 ready.0, ready.1)) found code.2 in
    let w0 = large_takes words ticket.0 ticket.1 in
    let w1 = named_small_takes (codes "code") ticket.0.1 code.0 code.1 in
    let w2 = named_large_takes (codes "ready") code.0.1 ready.0 ready.1 in
    let whole = one (codes "failure") (w0.0 ∙ one (decimal ticket.0.0) (w1.0 ∙ two (codes "code") (decimal code.0.0) (w2.0))) in
    subst (λ (x : Event × Words). Found (codes "failure") words x) (some_is {x = (event.Failure ticket.0.0 code.0.0 ready.0.0, ready.0.1)} ready.2) (record { whole = whole; fits = (w0.1, w1.1, w2.1) })

stale_takes : (words : Words) (found : Event × Words) → stale_at words ≡ Some found → Found (codes "stale") words found
unfolding stale_at
stale_takes words found e =
    let ticket = bind_some (large_at words) (λ ticket. Some (event.Stale ticket.0, ticket.1)) found e in
    let w0 = large_takes words ticket.0 ticket.1 in
    let whole = one (codes "stale") (w0.0) in
    subst (λ (x : Event × Words). Found (codes "stale") words x) (some_is {x = (event.Stale ticket.0.0, ticket.0.1)} ticket.2) (record { whole = whole; fits = w0.1 })

tick_takes : (words : Words) (found : Event × Words) → tick_at words ≡ Some found → Found (codes "tick") words found
unfolding tick_at
tick_takes words found e =
    let now = bind_some (large_at words) (λ now. Some (event.Tick now.0, now.1)) found e in
    let w0 = large_takes words now.0 now.1 in
    let whole = one (codes "tick") (w0.0) in
    subst (λ (x : Event × Words). Found (codes "tick") words x) (some_is {x = (event.Tick now.0.0, now.0.1)} now.2) (record { whole = whole; fits = w0.1 })

record FoundCommit (words : Words) (found : (ℕ × ℕ × List ℕ × ℕ) × Words) : Type 0 where
  whole : words ≡ commit_words found.0.0 found.0.1 found.0.2 found.0.3 ++ found.1
  fits : (found.0.0 < 2 ^ 32) × (found.0.1 < 2 ^ 64) × IsUtf8 found.0.2 × (found.0.3 < 2 ^ 32)

commit_takes : (words : Words) (found : (ℕ × ℕ × List ℕ × ℕ) × Words) → commit_at words ≡ Some found → FoundCommit words found
unfolding commit_at
commit_takes words found e =
    let part = bind_some (small_at words) (λ part. named_large (codes "at") part.1 >>= λ position. map_at position.1 >>= λ map. named_small (codes "size") map.1 >>= λ size. Some ((part.0, position.0, map.0, size.0), size.1)) found e in
    let position = bind_some (named_large (codes "at") part.0.1) (λ position. map_at position.1 >>= λ map. named_small (codes "size") map.1 >>= λ size. Some ((part.0.0, position.0, map.0, size.0), size.1)) found part.2 in
    let map = bind_some (map_at position.0.1) (λ map. named_small (codes "size") map.1 >>= λ size. Some ((part.0.0, position.0.0, map.0, size.0), size.1)) found position.2 in
    let size = bind_some (named_small (codes "size") map.0.1) (λ size. Some ((part.0.0, position.0.0, map.0.0, size.0), size.1)) found map.2 in
    let w0 = small_takes words part.0 part.1 in
    let w1 = named_large_takes (codes "at") part.0.1 position.0 position.1 in
    let w2 = map_takes position.0.1 map.0 map.1 in
    let w3 = named_small_takes (codes "size") map.0.1 size.0 size.1 in
    let whole = w0.0 ∙ one (decimal part.0.0) (w1.0 ∙ two (codes "at") (decimal position.0.0) (w2.0 ∙ two (codes "map") (marked map.0.0) (w3.0))) in
    subst (λ (x : (ℕ × ℕ × List ℕ × ℕ) × Words). FoundCommit words x) (some_is {x = ((part.0.0, position.0.0, map.0.0, size.0.0), size.0.1)} size.2) (record { whole = whole; fits = (w0.1, w1.1, w2.1, w3.1) })

record FoundEnd (words : Words) (found : (ℕ × ℕ) × Words) : Type 0 where
  whole : words ≡ decimal found.0.0 ∷ named (codes "epoch") found.0.1 ++ found.1
  fits : (found.0.0 < 2 ^ 32) × (found.0.1 < 2 ^ 64)

end_takes : (words : Words) (found : (ℕ × ℕ) × Words) → end_at words ≡ Some found → FoundEnd words found
unfolding end_at
end_takes words found e =
    let part = bind_some (small_at words) (λ part. named_large (codes "epoch") part.1 >>= λ epoch. Some ((part.0, epoch.0), epoch.1)) found e in
    let epoch = bind_some (named_large (codes "epoch") part.0.1) (λ epoch. Some ((part.0.0, epoch.0), epoch.1)) found part.2 in
    let w0 = small_takes words part.0 part.1 in
    let w1 = named_large_takes (codes "epoch") part.0.1 epoch.0 epoch.1 in
    let whole = w0.0 ∙ one (decimal part.0.0) (w1.0) in
    subst (λ (x : (ℕ × ℕ) × Words). FoundEnd words x) (some_is {x = ((part.0.0, epoch.0.0), epoch.0.1)} epoch.2) (record { whole = whole; fits = (w0.1, w1.1) })

stored_takes : (name : List ℕ) (make : ℕ → ℕ → List ℕ → ℕ → Event) (words : Words) (found : Event × Words)
    → ((part position size : ℕ) (map : List ℕ) → event_words (make part position map size) ≡ name ∷ commit_words part position map size)
    → ((part position size : ℕ) (map : List ℕ) → (part < 2 ^ 32) × (position < 2 ^ 64) × IsUtf8 map × (size < 2 ^ 32) → IsEvent (make part position map size))
    → stored make words ≡ Some found → Found name words found
stored_takes name make words found spelled ranges e =
    let commit = bind_some (commit_at words) (λ c. Some (make c.0.0 c.0.1 c.0.2 c.0.3, c.1)) found e in
    let c = commit.0.0 in
    let taken = commit_takes words commit.0 commit.1 in
    let whole = one name taken.whole ∙ ap (λ (front : Words). front ++ commit.0.1) (sym (spelled c.0 c.1 c.3 c.2)) in
    subst (λ (x : Event × Words). Found name words x) (some_is {x = (make c.0 c.1 c.2 c.3, commit.0.1)} commit.2) (record { whole = whole; fits = ranges c.0 c.1 c.3 c.2 taken.fits })

ended_takes : (name : List ℕ) (make : ℕ → ℕ → Event) (words : Words) (found : Event × Words)
    → ((part epoch : ℕ) → event_words (make part epoch) ≡ name ∷ decimal part ∷ named (codes "epoch") epoch)
    → ((part epoch : ℕ) → (part < 2 ^ 32) × (epoch < 2 ^ 64) → IsEvent (make part epoch))
    → ended make words ≡ Some found → Found name words found
ended_takes name make words found spelled ranges e =
    let end = bind_some (end_at words) (λ c. Some (make c.0.0 c.0.1, c.1)) found e in
    let c = end.0.0 in
    let taken = end_takes words end.0 end.1 in
    let whole = one name taken.whole ∙ ap (λ (front : Words). front ++ end.0.1) (sym (spelled c.0 c.1)) in
    subst (λ (x : Event × Words). Found name words x) (some_is {x = (make c.0 c.1, end.0.1)} end.2) (record { whole = whole; fits = ranges c.0 c.1 taken.fits })

alone_takes : (name : List ℕ) (e : Event) (words : Words) (found : Event × Words) → event_words e ≡ name ∷ [] → IsEvent e → Some (e, words) ≡ Some found → Found name words found
alone_takes name e words found spelled fits is =
    subst (λ (x : Event × Words). Found name words x) (some_is is) (record { whole = ap (λ (front : Words). front ++ words) (sym spelled); fits = fits })

-- ---- a whole line

-- the text of a first word
first_text : EventWord → List ℕ
first_text word.Assign = codes "assign"
first_text word.Poll = codes "poll"
first_text word.Dispatch = codes "dispatch"
first_text word.Success = codes "success"
first_text word.Failure = codes "failure"
first_text word.Stale = codes "stale"
first_text word.Commit = codes "commit"
first_text word.CommitFailed = codes "commit-failed"
first_text word.Revoke = codes "revoke"
first_text word.Lost = codes "lost"
first_text word.Crash = codes "crash"
first_text word.Tick = codes "tick"
first_text word.Drain = codes "drain"
first_text word.Done = codes "done"
first_text word.Closed = codes "closed"

none_some : {A : Type 0} {x : A} → None ≡ Some x → ⊥
none_some e = cc

-- it is this word, or one of the others
this_or : (text name : List ℕ) (w v : EventWord) (others : Option EventWord) → first_text w ≡ name → (others ≡ Some v → text ≡ first_text v) → cond (bytes_eq text name) (Some w) others ≡ Some v → text ≡ first_text v
this_or text name w v others spelled rest e =
    elim (chosen (bytes_eq text name) (Some w) others v e) [
      | inl this ↦ (bytes_eq-Decides text name).0 this.0 ∙ sym spelled ∙ ap first_text (some_is this.1)
      | inr other ↦ rest other
    ]

event_word_takes : (text : List ℕ) (v : EventWord) → event_word_of text ≡ Some v → text ≡ first_text v
unfolding event_word_of first_text
event_word_takes text v =
    this_or text (codes "assign") word.Assign v _ refl (
    this_or text (codes "poll") word.Poll v _ refl (
    this_or text (codes "dispatch") word.Dispatch v _ refl (
    this_or text (codes "success") word.Success v _ refl (
    this_or text (codes "failure") word.Failure v _ refl (
    this_or text (codes "stale") word.Stale v _ refl (
    this_or text (codes "commit") word.Commit v _ refl (
    this_or text (codes "commit-failed") word.CommitFailed v _ refl (
    this_or text (codes "revoke") word.Revoke v _ refl (
    this_or text (codes "lost") word.Lost v _ refl (
    this_or text (codes "crash") word.Crash v _ refl (
    this_or text (codes "tick") word.Tick v _ refl (
    this_or text (codes "drain") word.Drain v _ refl (
    this_or text (codes "done") word.Done v _ refl (
    this_or text (codes "closed") word.Closed v _ refl (
    λ e. absurd (none_some e))))))))))))))))

behind_takes : (v : EventWord) (words : Words) (found : Event × Words) → behind_word v words ≡ Some found → Found (first_text v) words found
unfolding behind_word first_text
behind_takes word.Assign words found e = assign_takes words found e
behind_takes word.Poll words found e = poll_takes words found e
behind_takes word.Dispatch words found e = dispatch_takes words found e
behind_takes word.Success words found e = success_takes words found e
behind_takes word.Failure words found e = failure_takes words found e
behind_takes word.Stale words found e = stale_takes words found e
behind_takes word.Commit words found e = stored_takes (codes "commit") event.Commit words found (λ _ _ _ _. refl) (λ _ _ _ _ h. h) e
behind_takes word.CommitFailed words found e = stored_takes (codes "commit-failed") event.CommitFailed words found (λ _ _ _ _. refl) (λ _ _ _ _ h. h) e
behind_takes word.Revoke words found e = ended_takes (codes "revoke") event.Revoke words found (λ _ _. refl) (λ _ _ h. h) e
behind_takes word.Lost words found e = ended_takes (codes "lost") event.Lost words found (λ _ _. refl) (λ _ _ h. h) e
behind_takes word.Crash words found e = alone_takes (codes "crash") event.Crash words found refl tt e
behind_takes word.Tick words found e = tick_takes words found e
behind_takes word.Drain words found e = alone_takes (codes "drain") event.Drain words found refl tt e
behind_takes word.Done words found e = alone_takes (codes "done") event.Done words found refl tt e
behind_takes word.Closed words found e = alone_takes (codes "closed") event.Closed words found refl tt e

nothing_left : (found : Event × Words) (e : Event) → at_end found ≡ Some e → (found.0 ≡ e) × (found.1 ≡ [])
nothing_left (first, []) e is = (some_is is, refl)
nothing_left (first, word ∷ words) e is = absurd (none_some is)

-- words that are read are those of the event
words_take : (words : Words) (e : Event) → event_of_words words ≡ Some e → (words ≡ event_words e) × IsEvent e
unfolding event_of_words
words_take [] e is = absurd (none_some is)
words_take (text ∷ words) e is =
    let first = bind_some (event_word_of text) (λ first. behind_word first words >>= at_end) e is in
    let behind = bind_some (behind_word first.0 words) at_end e first.2 in
    let taken : Found text words behind.0 = subst (λ (t : List ℕ). Found t words behind.0) (sym (event_word_takes text first.0 first.1)) (behind_takes first.0 words behind.0 behind.1) in
    let end = nothing_left behind.0 e behind.2 in
    (taken.whole ∙ ap (λ (rest : Words). event_words behind.0.0 ++ rest) end.1 ∙ append-nil (event_words behind.0.0) ∙ ap event_words end.0, subst IsEvent end.0 taken.fits)

-- ---- lines

pub words_visible : (e : Event) → IsEvent e → AllByRecursion AreVisible (event_words e)
words_visible (event.Assign part epoch position map) h = (name_visible (codes "assign") refl, (decimal_visible part (omega (arith, h.0)), (name_visible (codes "epoch") refl, (decimal_visible epoch h.1, (name_visible (codes "at") refl, (decimal_visible position h.2, (name_visible (codes "map") refl, (marked_visible map (IsBytes-from_IsUtf8 map h.3), tt))))))))
words_visible (event.Poll part count last) h = (name_visible (codes "poll") refl, (decimal_visible part (omega (arith, h.0)), (name_visible (codes "count") refl, (decimal_visible count (omega (arith, h.1)), (name_visible (codes "last") refl, (decimal_visible last h.2, tt))))))
words_visible (event.Dispatch ticket worker part offset epoch attempt) h = (name_visible (codes "dispatch") refl, (decimal_visible ticket h.0, (name_visible (codes "worker") refl, (decimal_visible worker (omega (arith, h.1)), (name_visible (codes "part") refl, (decimal_visible part (omega (arith, h.2)), (name_visible (codes "offset") refl, (decimal_visible offset h.3, (name_visible (codes "epoch") refl, (decimal_visible epoch h.4, (name_visible (codes "attempt") refl, (decimal_visible attempt (omega (arith, h.5)), tt))))))))))))
words_visible (event.Success ticket answer) h = (name_visible (codes "success") refl, (decimal_visible ticket h.0, (marked_visible answer h.1, tt)))
words_visible (event.Failure ticket code ready_at) h = (name_visible (codes "failure") refl, (decimal_visible ticket h.0, (name_visible (codes "code") refl, (decimal_visible code (omega (arith, h.1)), (name_visible (codes "ready") refl, (decimal_visible ready_at h.2, tt))))))
words_visible (event.Stale ticket) h = (name_visible (codes "stale") refl, (decimal_visible ticket h, tt))
words_visible (event.Commit part position map size) h = (name_visible (codes "commit") refl, (decimal_visible part (omega (arith, h.0)), (name_visible (codes "at") refl, (decimal_visible position h.1, (name_visible (codes "map") refl, (marked_visible map (IsBytes-from_IsUtf8 map h.2), (name_visible (codes "size") refl, (decimal_visible size (omega (arith, h.3)), tt))))))))
words_visible (event.CommitFailed part position map size) h = (name_visible (codes "commit-failed") refl, (decimal_visible part (omega (arith, h.0)), (name_visible (codes "at") refl, (decimal_visible position h.1, (name_visible (codes "map") refl, (marked_visible map (IsBytes-from_IsUtf8 map h.2), (name_visible (codes "size") refl, (decimal_visible size (omega (arith, h.3)), tt))))))))
words_visible (event.Revoke part epoch) h = (name_visible (codes "revoke") refl, (decimal_visible part (omega (arith, h.0)), (name_visible (codes "epoch") refl, (decimal_visible epoch h.1, tt))))
words_visible (event.Lost part epoch) h = (name_visible (codes "lost") refl, (decimal_visible part (omega (arith, h.0)), (name_visible (codes "epoch") refl, (decimal_visible epoch h.1, tt))))
words_visible event.Crash h = (name_visible (codes "crash") refl, tt)
words_visible (event.Tick now) h = (name_visible (codes "tick") refl, (decimal_visible now h, tt))
words_visible event.Drain h = (name_visible (codes "drain") refl, tt)
words_visible event.Done h = (name_visible (codes "done") refl, tt)
words_visible event.Closed h = (name_visible (codes "closed") refl, tt)

split_words : (words : Words) (e : Event) → event_of_words words ≡ Some e → AllByRecursion AreVisible words → slice_split is_space (spaced words) ≡ words
unfolding event_of_words
split_words [] e is h = absurd (none_some is)
split_words (word ∷ words) e is h = slice_split-spaced word words h.0 h.1

-- a line that is read is the event's
pub event_of-takes : (line : List ℕ) (e : Event) → event_of line ≡ Some e → (bare_line_of e ≡ line) × IsEvent e
event_of-takes line e is =
    let taken = words_take (slice_split is_space line) e is in
    (ap spaced (sym taken.0) ∙ spaced-slice_split line, taken.1)

-- the line of an event is read as the event
pub event_of-bare_line_of : (e : Event) → IsEvent e → event_of (bare_line_of e) ≡ Some e
event_of-bare_line_of e h =
    let again = words_again e h in
    ap event_of_words (split_words (event_words e) e again (words_visible e h)) ∙ again
