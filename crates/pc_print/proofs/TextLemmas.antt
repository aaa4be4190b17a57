-- Texts and histories.
use Rattle.std.proofs.Common.{◌≡◌, ℕ, suc, ◌+◌, List, [], ◌∷◌, ◌++◌, length, Option, Some, None, Result, Ok, Err, refl, sym, ap, subst, ◌∙◌, append_assoc, arith}
use Rattle.std.specs.List.{AllByRecursion}
use Rattle.std.proofs.lemmas.List.{append-nil}
use Rattle.pc_lines.specs.Pieces.{lines_of}
use Rattle.pc_model.specs.declared.event.Event.{Event}
use Rattle.pc_print.specs.Line.{event_words, bare_line_of, line_of, text_of, AreEvents, IsEnded, IsEventLine, IsFirstBad}
use Rattle.pc_print.specs.declared.fault.JournalTextFault.{JournalTextFault}
use Rattle.pc_print.specs.declared.fault.JournalTextFault.TheVariants as text
use Rattle.pc_print.specs.Reading.{ReadsEvent, ReadsHistory, event_of, then_events, events_over, history_of}
use Rattle.pc_print.proofs.WordLemmas.{spaced_one_line, lines_of-line, ended_lines, ended_lines-lines_of}
use Rattle.pc_print.proofs.ReadingLemmas.{words_visible, event_of-takes, event_of-bare_line_of}

line_of-is : (e : Event) → line_of e ≡ bare_line_of e ++ 10 ∷ []
unfolding line_of
line_of-is e = refl

-- ---- what is read is written so

then_takes : (n : ℕ) (read : Option Event) (others : Event → Result (List Event) ℕ) (h : List Event) → then_events n read others ≡ Ok h → (e : Event) × (read ≡ Some e) × (others e ≡ Ok h)
then_takes n None others h is = absurd cc
then_takes n (Some e) others h is = (e, refl, is)

err_is : {x y : ℕ} → ◌≡◌ {A = Result (List Event) ℕ} (Err x) (Err y) → x ≡ y
err_is e = cc

ok_not_err : {x : List Event} {y : ℕ} → ◌≡◌ {A = Result (List Event) ℕ} (Ok x) (Err y) → ⊥
ok_not_err e = cc

none_some : {A : Type 0} {x : A} → None ≡ Some x → ⊥
none_some e = cc

ok_is : {x y : List Event} → ◌≡◌ {A = Result (List Event) ℕ} (Ok x) (Ok y) → x ≡ y
ok_is e = cc

-- events over those before
record Over (before : List Event) (lines : List (List ℕ)) (h : List Event) : Type 0 where
  text : text_of h ≡ text_of before ++ ended_lines lines
  fits : AreEvents h

over_takes : (before : List Event) (n : ℕ) (lines : List (List ℕ)) (h : List Event) → AreEvents before → events_over before n lines ≡ Ok h → Over before lines h
unfolding events_over
over_takes before n [] h fits is = subst (Over before []) (ok_is is) (record { text = sym (append-nil (text_of before)); fits = fits })
over_takes before n (line ∷ lines) h fits is =
    let read = then_takes n (event_of line) (λ e. events_over (e ∷ before) (n + 1) lines) h is in
    let e = read.0 in
    let taken = event_of-takes line e read.1 in
    let rest = over_takes (e ∷ before) (n + 1) lines h (taken.1, fits) read.2 in
    let here : line_of e ≡ line ++ 10 ∷ [] = line_of-is e ∙ ap (λ (l : List ℕ). l ++ 10 ∷ []) taken.0 in
    record {
      text = rest.text ∙ append_assoc (text_of before) (line_of e) (ended_lines lines) ∙ ap (λ (l : List ℕ). text_of before ++ (l ++ ended_lines lines)) here;
      fits = rest.fits;
    }

-- a text that is read is the history's, but for the last line feed, which may be missing
pub history_of-takes : (text : List ℕ) (h : List Event) → history_of text ≡ Ok h → IsEnded text (text_of h) × AreEvents h
unfolding history_of
history_of-takes text h is =
    let over = over_takes [] 1 (lines_of text) h tt is in
    (subst (IsEnded text) (sym over.text) (ended_lines-lines_of text), over.fits)

-- ---- what is written is read again

-- the lines of a history, the oldest first, and then others
lines_over : List Event → List (List ℕ) → List (List ℕ)
lines_over [] others = others
lines_over (e ∷ before) others = lines_over before (bare_line_of e ∷ others)

lines_of-text_of : (h : List Event) (more : List ℕ) → AreEvents h → lines_of (text_of h ++ more) ≡ lines_over h (lines_of more)
unfolding lines_over
lines_of-text_of [] more fits = refl
lines_of-text_of (e ∷ before) more fits =
    let here : line_of e ++ more ≡ bare_line_of e ++ 10 ∷ more = ap (λ (l : List ℕ). l ++ more) (line_of-is e) ∙ append_assoc (bare_line_of e) (10 ∷ []) more in
    ap lines_of (append_assoc (text_of before) (line_of e) more)
    ∙ lines_of-text_of before (line_of e ++ more) fits.1
    ∙ ap (lines_over before) (ap lines_of here ∙ lines_of-line (bare_line_of e) more (spaced_one_line (event_words e) (words_visible e fits.0)))

over_again : (h : List Event) (n : ℕ) (others : List (List ℕ)) → AreEvents h → events_over [] n (lines_over h others) ≡ events_over h (n + length h) others
unfolding events_over lines_over
over_again [] n others fits = ap (λ (k : ℕ). events_over [] k others) (omega arith)
over_again (e ∷ before) n others fits =
    let next : n + length before + 1 ≡ n + suc (length before) = omega arith in
    over_again before n (bare_line_of e ∷ others) fits.1
    ∙ ap (λ read. then_events (n + length before) read (λ e. events_over (e ∷ before) (n + length before + 1) others)) (event_of-bare_line_of e fits.0)
    ∙ ap (λ (k : ℕ). events_over (e ∷ before) k others) next

-- the text of a history is read as the history
pub history_of-text_of : (h : List Event) → AreEvents h → history_of (text_of h) ≡ Ok h
unfolding history_of events_over
history_of-text_of h fits =
    ap history_of (sym (append-nil (text_of h))) ∙ ap (events_over [] 1) (lines_of-text_of h [] fits) ∙ over_again h 1 [] fits

-- ---- line by line

module _ (before : List Event) (n : ℕ) (line : List ℕ) (more rest : List (List ℕ)) (whole : Result (List Event) ℕ) (front : rest ≡ line ∷ more) (left : events_over before n rest ≡ whole) where
  read_here : then_events n (event_of line) (λ e. events_over (e ∷ before) (n + 1) more) ≡ whole
  unfolding events_over
  read_here = sym (ap (events_over before n) front) ∙ left

  -- a line that is an event's
  pub events_over-read : (e : Event) → event_of line ≡ Some e → events_over (e ∷ before) (n + 1) more ≡ whole
  events_over-read e read = sym (ap (λ r. then_events n r (λ e. events_over (e ∷ before) (n + 1) more)) read) ∙ read_here

  -- a line that is none's
  pub events_over-bad : (fault : JournalTextFault) → ReadsEvent n (Err fault) (event_of line) → ReadsHistory (Err fault) whole
  events_over-bad (text.Bad at) given = sym read_here ∙ ap (λ r. then_events n r (λ e. events_over (e ∷ before) (n + 1) more)) given.1 ∙ ap (λ (k : ℕ). Err k) (sym given.0)
  events_over-bad text.NoMemory given = tt

pub history_of-is : (text : List ℕ) → history_of text ≡ events_over [] 1 (lines_of text)
unfolding history_of
history_of-is text = refl

-- no line is left
pub events_over-end : (before : List Event) (n : ℕ) (rest : List (List ℕ)) (whole : Result (List Event) ℕ) → rest ≡ [] → events_over before n rest ≡ whole → whole ≡ Ok before
unfolding events_over
events_over-end before n rest whole none left = sym left ∙ ap (events_over before n) none

-- ---- the first line that is no event's

-- the same, where the lines are numbered from k on
record FirstBad (lines : List (List ℕ)) (k n : ℕ) : Type 0 where
  front : List (List ℕ)
  line : List ℕ
  rest : List (List ℕ)
  parts : lines ≡ front ++ line ∷ rest
  number : n ≡ length front + k
  good : AllByRecursion IsEventLine front
  bad : IsEventLine line → ⊥

no_event : (line : List ℕ) → event_of line ≡ None → IsEventLine line → ⊥
no_event line none (e, fits, is) = none_some (sym none ∙ ap event_of (sym is) ∙ event_of-bare_line_of e fits)

one_more : (line : List ℕ) (lines : List (List ℕ)) (k n : ℕ) → IsEventLine line → FirstBad lines (k + 1) n → FirstBad (line ∷ lines) k n
one_more line lines k n good later = record {
  front = line ∷ later.front;
  line = later.line;
  rest = later.rest;
  parts = ap (λ (ls : List (List ℕ)). line ∷ ls) later.parts;
  number = omega (arith, later.number);
  good = (good, later.good);
  bad = later.bad;
}

bad_here : (line : List ℕ) (lines : List (List ℕ)) (k n : ℕ) → event_of line ≡ None → k ≡ n → FirstBad (line ∷ lines) k n
bad_here line lines k n none is = record {
  front = [];
  line = line;
  rest = lines;
  parts = refl;
  number = omega arith;
  good = tt;
  bad = no_event line none;
}

at_line : (line : List ℕ) (lines : List (List ℕ)) (k n : ℕ) (read : Option Event) (others : Event → Result (List Event) ℕ) → event_of line ≡ read → ((e : Event) → others e ≡ Err n → FirstBad lines (k + 1) n) → then_events k read others ≡ Err n → FirstBad (line ∷ lines) k n
at_line line lines k n None others is later e = bad_here line lines k n is (err_is e)
at_line line lines k n (Some event) others is later e =
    let taken = event_of-takes line event is in
    one_more line lines k n (event, taken.1, taken.0) (later event e)

over_bad : (before : List Event) (k : ℕ) (lines : List (List ℕ)) (n : ℕ) → events_over before k lines ≡ Err n → FirstBad lines k n
unfolding events_over
over_bad before k [] n e = absurd (ok_not_err e)
over_bad before k (line ∷ lines) n e =
    at_line line lines k n (event_of line) (λ event. events_over (event ∷ before) (k + 1) lines) refl (λ event. over_bad (event ∷ before) (k + 1) lines n) e

pub history_of-bad : (text : List ℕ) (n : ℕ) → history_of text ≡ Err n → IsFirstBad (lines_of text) n
unfolding history_of
history_of-bad text n e =
    let first = over_bad [] 1 (lines_of text) n e in
    record { front = first.front; line = first.line; rest = first.rest; parts = first.parts; number = first.number; good = first.good; bad = first.bad }
