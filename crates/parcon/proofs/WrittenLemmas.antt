-- Texts on their way into a sink.
use Rattle.std.proofs.Common.{◌≡◌, ◌≤◌, ◌<◌, inl, inr, ℕ, ◌+◌, ◌-◌, List, [], ◌∷◌, ◌++◌, length, take, drop, reverse, get_or, Option, Some, None, Result, Ok, Err, refl, ap, sym, subst, ◌∙◌, append_assoc, arith, add-one, length-drop}
use Rattle.std.specs.Prelude.{OnOk, OnErr}
use Rattle.std.specs.List.{flat_map}
use Rattle.std.proofs.lemmas.List.{take-append-drop, take_all, append-nil, flat_map_more, reverse-append}
use Rattle.std.proofs.Math.Seq.{take-suc}
use Rattle.std.proofs.lemmas.Grind.{flat_map-append}
use Rattle.pc_model.specs.declared.event.Event.{Event}
use Rattle.pc_print.specs.Line.{line_of, text_of}
use Rattle.pc_world.specs.World.{HasRisen}
use Rattle.pc_world.specs.declared.sink.SinkFailed.{SinkFailed}
use Rattle.pc_play.specs.declared.remark.Remark.{Remark}
use Rattle.parcon.specs.Remark.{remark_line}
use Rattle.parcon.specs.Ending.{text_with}
use Rattle.pc_inputs.specs.Status.{fault_line}
use Rattle.pc_inputs.specs.declared.status.Status.{Status}
use Rattle.pc_inputs.specs.declared.status.Status.TheVariants.{SinkFault, NoMemory}
use Rattle.parcon.specs.declared.output.OutputFault.{OutputFault}
use Rattle.parcon.specs.declared.output.OutputFault.TheVariants as output
use Rattle.parcon.specs.Written.{with_bytes, HasFront, IsOnItsWay, IsWritten, status_after}

with_bytes-more : (told : Option (List ℕ)) (a b : List ℕ)
    → with_bytes (with_bytes told a) b ≡ with_bytes told (a ++ b)
with_bytes-more None a b = refl
with_bytes-more (Some w) a b = ap (λ (x : List ℕ). Some x) (append_assoc w a b)

pub with_bytes-none : (told : Option (List ℕ)) → with_bytes told [] ≡ told
with_bytes-none None = refl
with_bytes-none (Some w) = ap (λ (x : List ℕ). Some x) (append-nil w)

-- ---- a text on its way

-- nothing is written yet
pub way-begin : (told : Option (List ℕ)) (text : List ℕ) → IsOnItsWay told told text text
way-begin told text = record { front = []; whole = refl; appended = sym (with_bytes-none told) }

-- the first bytes of the buffer are written
pub way-on : (before now now' : Option (List ℕ)) (buffer text : List ℕ) (n : ℕ) → n ≤ length buffer
    → IsOnItsWay before now buffer text → now' ≡ with_bytes now (take n buffer)
    → IsOnItsWay before now' (take (length buffer - n) (drop n buffer)) text
way-on before now now' buffer text n fits way is =
    let short : length (drop n buffer) ≤ length buffer - n = omega (arith, length-drop n buffer) in
    record {
      front = way.front ++ take n buffer;
      whole = ap (λ (x : List ℕ). (way.front ++ take n buffer) ++ x)
          (take_all (length buffer - n) (drop n buffer) short)
          ∙ append_assoc way.front (take n buffer) (drop n buffer)
          ∙ ap (λ (x : List ℕ). way.front ++ x) (take-append-drop n buffer) ∙ way.whole;
      appended = is ∙ ap (λ (x : Option (List ℕ)). with_bytes x (take n buffer)) way.appended
          ∙ with_bytes-more before way.front (take n buffer);
    }

-- the text and the buffer grow by the same bytes
pub way-put : (before now : Option (List ℕ)) (buffer buffer' text bytes : List ℕ)
    → IsOnItsWay before now buffer text → buffer' ≡ buffer ++ bytes
    → IsOnItsWay before now buffer' (text ++ bytes)
way-put before now buffer buffer' text bytes way is = record {
  front = way.front;
  whole = ap (λ (x : List ℕ). way.front ++ x) is
      ∙ sym (append_assoc way.front buffer bytes) ∙ ap (λ (x : List ℕ). x ++ bytes) way.whole;
  appended = way.appended;
}

-- the buffer is written whole
pub way-whole : (before now now' : Option (List ℕ)) (buffer text : List ℕ)
    → IsOnItsWay before now buffer text → now' ≡ with_bytes now buffer
    → now' ≡ with_bytes before text
way-whole before now now' buffer text way is =
    is ∙ ap (λ (x : Option (List ℕ)). with_bytes x buffer) way.appended
    ∙ with_bytes-more before way.front buffer ∙ ap (with_bytes before) way.whole

pub way-empty : (before now : Option (List ℕ)) (buffer text : List ℕ) → buffer ≡ []
    → now ≡ with_bytes before text → IsOnItsWay before now buffer text
way-empty before now buffer text empty is = record {
  front = text;
  whole = ap (λ (x : List ℕ). text ++ x) empty ∙ append-nil text;
  appended = is;
}

-- ---- the front of a text

-- what is on its way has its front there
pub front-of-way : (before now : Option (List ℕ)) (buffer text : List ℕ)
    → IsOnItsWay before now buffer text → HasFront before now text
front-of-way before now buffer text way = record {
  front = way.front;
  rest = buffer;
  whole = way.whole;
  appended = way.appended;
}

-- the first bytes of the buffer are written
pub front-of-buffer : (before now now' : Option (List ℕ)) (buffer text : List ℕ)
    → IsOnItsWay before now buffer text → HasFront now now' buffer → HasFront before now' text
front-of-buffer before now now' buffer text way has = record {
  front = way.front ++ has.front;
  rest = has.rest;
  whole = append_assoc way.front has.front has.rest
      ∙ ap (λ (x : List ℕ). way.front ++ x) has.whole ∙ way.whole;
  appended = has.appended ∙ ap (λ (x : Option (List ℕ)). with_bytes x has.front) way.appended
      ∙ with_bytes-more before way.front has.front;
}

-- a longer text has the same front
pub front-longer : (before now : Option (List ℕ)) (text more : List ℕ) → HasFront before now text
    → HasFront before now (text ++ more)
front-longer before now text more has = record {
  front = has.front;
  rest = has.rest ++ more;
  whole = sym (append_assoc has.front has.rest more) ∙ ap (λ (x : List ℕ). x ++ more) has.whole;
  appended = has.appended;
}

pub front-whole : (before now : Option (List ℕ)) (text : List ℕ) → now ≡ with_bytes before text
    → HasFront before now text
front-whole before now text is =
    record { front = text; rest = []; whole = append-nil text; appended = is }

pub front-none : (told : Option (List ℕ)) (text : List ℕ) → HasFront told told text
front-none told text = front-of-way told told text text (way-begin told text)

-- the lines of the first items, and those of all
pub front-of-all : {X : Type 0} (line : X → List ℕ) (xs : List X) (i : ℕ)
    (before now : Option (List ℕ)) (text : List ℕ)
    → HasFront before now (text ++ flat_map line (take i xs))
    → HasFront before now (text ++ flat_map line xs)
front-of-all line xs i before now text has =
    subst (HasFront before now)
    (append_assoc text (flat_map line (take i xs)) (flat_map line (drop i xs))
    ∙ ap (λ (x : List ℕ). text ++ x) (sym (flat_map-append line (take i xs) (drop i xs))
    ∙ ap (flat_map line) (take-append-drop i xs)))
    (front-longer before now (text ++ flat_map line (take i xs)) (flat_map line (drop i xs)) has)

-- one line more
pub lines-more : {X : Type 0} (line : X → List ℕ) (xs : List X) (i : ℕ) (x d : X) (text : List ℕ)
    → i < length xs → x ≡ get_or xs i d
    → (text ++ flat_map line (take i xs)) ++ line x ≡ text ++ flat_map line (take (i + 1) xs)
lines-more line xs i x d text below is =
    flat_map_more line text (take i xs) x
    ∙ ap (λ ys. text ++ flat_map line ys)
    (ap (λ y. take i xs ++ y ∷ []) is ∙ sym (take-suc xs i d below)
    ∙ ap (λ (n : ℕ). take n xs) (sym (add-one i)))

-- ---- what an answer says

pub way-flushed : (r : Result (Unit {0}) SinkFailed) (before now : Option (List ℕ))
    (buffer text : List ℕ) → OnOk r (buffer ≡ []) → OnOk r (now ≡ with_bytes before text)
    → OnOk r (IsOnItsWay before now buffer text)
way-flushed (Ok done) before now buffer text empty is = way-empty before now buffer text empty is
way-flushed (Err fault) before now buffer text empty is = tt

pub on_err : {T E : Type 0} {P : Type 0} (r : Result T E) → P → OnErr r P
on_err (Ok x) p = tt
on_err (Err e) p = p

-- ---- the text of a history, from the oldest event on

pub text_of-lines : (h : List Event) → flat_map line_of (reverse h) ≡ text_of h
text_of-lines [] = refl
text_of-lines (e ∷ h) =
    ap (flat_map line_of) (reverse-append (e ∷ []) h) ∙ flat_map-append line_of (reverse h) (e ∷ [])
    ∙ ap (λ (x : List ℕ). flat_map line_of (reverse h) ++ x) (append-nil (line_of e))
    ∙ ap (λ (x : List ℕ). x ++ line_of e) (text_of-lines h)

-- the lines of a journal's events, oldest first, and then the remarks are the text of the play
pub text_with-lines : (events : List Event) (h : List Event) (remarks : List Remark)
    → events ≡ reverse h
    → flat_map line_of events ++ flat_map remark_line remarks
    ≡ text_with h remarks
text_with-lines events h remarks is =
    ap (λ (x : List ℕ). x ++ flat_map remark_line remarks)
    (ap (flat_map line_of) is ∙ text_of-lines h)

-- ---- the fault line of a status

cons-nil : (x : ℕ) (xs : List ℕ) → x ∷ xs ≡ [] → ⊥
cons-nil x xs is = cc

nil-front : (xs ys : List ℕ) → xs ++ ys ≡ [] → xs ≡ []
nil-front [] ys is = refl
nil-front (x ∷ xs) ys is = absurd (cons-nil x (xs ++ ys) is)

-- the front of an empty text is all of it
whole-empty : (before now : Option (List ℕ)) (text : List ℕ) → HasFront before now text
    → text ≡ [] → now ≡ with_bytes before text
whole-empty before now text has empty = has.appended
    ∙ ap (with_bytes before) (nil-front has.front has.rest (has.whole ∙ empty) ∙ sym empty)

-- the statuses of the outside's faults have no line
no-line-sink : fault_line SinkFault ≡ []
unfolding fault_line
no-line-sink = refl

no-line-memory : fault_line NoMemory ≡ []
unfolding fault_line
no-line-memory = refl

pub fault-written : (put : Result (Unit {0}) OutputFault) (s given : Status)
    (before now : Option (List ℕ)) (f f' : ℕ)
    → OnOk put (now ≡ with_bytes before (fault_line s)) → HasFront before now (fault_line s)
    → (put ≡ Err output.SinkFailed → HasRisen f f') → OnOk put (f' ≡ f)
    → given ≡ status_after s put
    → IsWritten before now f f' (fault_line s) s given
fault-written (Ok done) s given before now f f' whole front failed unfailed is =
    record { status = inl (is, unfailed); front = front; whole = λ same. whole }
fault-written (Err output.SinkFailed) s given before now f f' whole front failed unfailed is = record {
  status = inr (inl (is, failed refl));
  front = front;
  whole = λ same. whole-empty before now (fault_line s) front
      (ap fault_line (sym same ∙ is) ∙ no-line-sink);
}
fault-written (Err output.NoMemory) s given before now f f' whole front failed unfailed is = record {
  status = inr (inr is);
  front = front;
  whole = λ same. whole-empty before now (fault_line s) front
      (ap fault_line (sym same ∙ is) ∙ no-line-memory);
}

-- the front of an empty text changes nothing
pub unchanged : (before now : Option (List ℕ)) (s : Status) → s ≡ NoMemory
    → HasFront before now (fault_line s) → now ≡ before
unchanged before now s is has =
    let empty : fault_line s ≡ [] = ap fault_line is ∙ no-line-memory in
    whole-empty before now (fault_line s) has empty ∙ ap (with_bytes before) empty
    ∙ with_bytes-none before

-- want of memory leaves the sink alone
pub memory-written : (before : Option (List ℕ)) (f : ℕ) (s : Status) → s ≡ NoMemory
    → IsWritten before before f f (fault_line s) s NoMemory
memory-written before f s is = record {
  status = inl (sym is, refl);
  front = front-none before (fault_line s);
  whole = λ same. sym (ap (with_bytes before) (ap fault_line is ∙ no-line-memory)
      ∙ with_bytes-none before);
}
