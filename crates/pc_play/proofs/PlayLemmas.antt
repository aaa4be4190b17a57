-- What a line's call does to a play, and what lines do one after the other.
use Rattle.std.proofs.Common.{◌≡◌, ◌<◌, inl, inr, ℕ, ◌+◌, Bool, true, false, List, [], ◌∷◌, ◌++◌, length, take, get_or, Option, None, refl, ap, sym, subst, ◌∙◌, arith, zero, suc, add-one}
use Rattle.std.specs.Prelude.{IsErr, OnErr, Result, Ok, Err}
use Rattle.std.proofs.lemmas.List.{append-nil}
use Rattle.std.proofs.Math.Seq.{take-suc}
use Rattle.pc_laws.proofs.Lists.{true-not-false}
use Rattle.pc_model.specs.declared.event.Event.{Event}
use Rattle.pc_model.specs.Given.{Given, has_log}
use Rattle.pc_model.specs.Lawful.{IsLegal}
use Rattle.pc_model.specs.Stored.{may_store}
use Rattle.pc_laws.specs.Lists.{In}
use Rattle.pc_script.specs.declared.play.PlayLine.{PlayLine}
use Rattle.pc_offset_client.specs.Client.{kept_for}
use Rattle.pc_model.specs.Broker.{Broker}
use Rattle.pc_engine.specs.Effect.{StoresOnly}
use Rattle.pc_play.specs.declared.remark.Remark.{Remark}
use Rattle.pc_play.specs.declared.remark.Notice.{Notice}
use Rattle.pc_play.specs.declared.hand.Hand.{Hand}
use Rattle.pc_play.specs.Hand.{AreIn, HasInHand}
use Rattle.pc_play.specs.Play.{Asked, Asks, Breaks, Entry, LeadTo, LeadsTo, Makes, IsPlayed, Moment, Play, PlaysTo, StopsIn, Trace, after_line, remarks_on, start, step_of}
use Rattle.pc_play.proofs.NoLine.{aborted-same, plays-nowhere}
use Rattle.pc_play.proofs.HandLemmas.{expects-start}
use Rattle.pc_script.specs.PlayScript.{ArePlayable, IsPlayable}
use Rattle.pc_task.specs.Jobs.{PlainJob}
use Rattle.pc_play.specs.Kept.{IsKept}

false-not-true : false ≡ true → ⊥
false-not-true is = true-not-false true refl (sym is)

-- ---- the store

-- what is stored changed for some parts alone, and then again
stores_only-trans : (may : ℕ → Bool) (a b c : Broker) → StoresOnly may a b → StoresOnly may b c
    → StoresOnly may a c
stores_only-trans may a b c first then_more = record {
  topic = then_more.topic ∙ first.topic;
  parts = then_more.parts ∙ first.parts;
  memberships = then_more.memberships ∙ first.memberships;
  others = λ group q out. then_more.others group q out ∙ first.others group q out;
}

pub stores_only-next : (may may' : ℕ → Bool) (a b c : Broker) → may' ≡ may → StoresOnly may a b
    → StoresOnly may' b c → StoresOnly may a c
stores_only-next may may' a b c same first then_more = stores_only-trans may a b c first
    (subst (λ (m : ℕ → Bool). StoresOnly m b c) same then_more)

-- ---- one line

-- where the play stands after a line whose call came to this
line-end : (given : Given) (line : PlayLine) (h h' : List Event) (jobs : List PlainJob)
    (remarks remarks' : List Remark) (asked : Asked) (notice : Option Notice)
    → h' ≡ (step_of given h jobs line.act asked).events ++ h
    → notice ≡ (step_of given h jobs line.act asked).notice
    → remarks' ≡ remarks ++ remarks_on line.line notice
    → after_line given (record { history = h; hand = jobs; remarks = remarks }) line asked
    ≡ record {
      history = h';
      hand = (step_of given h jobs line.act asked).hand;
      remarks = remarks';
    }
line-end given line h h' jobs remarks remarks' asked notice events notice_is pushed =
    ap (λ (k : List Event). record {
      history = k;
      hand = (step_of given h jobs line.act asked).hand;
      remarks = remarks ++ remarks_on line.line (step_of given h jobs line.act asked).notice;
    }) (sym events)
    ∙ ap (λ (n : Option Notice). record {
      history = h';
      hand = (step_of given h jobs line.act asked).hand;
      remarks = remarks ++ remarks_on line.line n;
    }) (sym notice_is)
    ∙ ap (λ (l : List Remark). record {
      history = h';
      hand = (step_of given h jobs line.act asked).hand;
      remarks = l;
    }) (sym pushed)

-- a line, with a remark or without one
pub line-leads : (told : Bool) (given : Given) (line : PlayLine) (h h' : List Event)
    (jobs : List PlainJob) (hand : Hand) (remarks remarks' : List Remark) (notice : Option Notice)
    (m m' : Moment) → remarks' ≡ remarks ++ remarks_on line.line notice
    → Makes told given h jobs line.act m m' h' hand notice
    → LeadsTo told given (record { history = h; hand = jobs; remarks = remarks }) line m m' h' hand
    remarks'
line-leads told given line h h' jobs hand remarks remarks' notice m m' pushed made = record {
  asked = made.comes.asked;
  asks = made.comes.asks;
  jobs = (step_of given h jobs line.act made.comes.asked).hand;
  end = line-end given line h h' jobs remarks remarks' made.comes.asked notice made.comes.events
      made.notice_is pushed;
  in_hand = made.in_hand;
}

pub no-remark : (n : ℕ) (remarks : List Remark) → remarks ≡ remarks ++ remarks_on n None
no-remark n remarks = sym (append-nil remarks)

-- each line of a script is one that may be played
pub playable-at : (lines : List PlayLine) (i : ℕ) (d : PlayLine) → i < length lines
    → ArePlayable lines → IsPlayable (get_or lines i d).act
playable-at [] i d below are = absurd (omega (arith, below))
playable-at (line ∷ lines) zero d below are = are.0
playable-at (line ∷ lines) (suc i) d below are = playable-at lines i d (omega (arith, below)) are.1

-- ---- one line after the other

-- lines after others
trace-append : (told : Bool) (given : Given) (s t u : Play) (m n k : Moment)
    (xs ys : List PlayLine) (es fs : List Entry) → Trace told given s m xs es t n
    → Trace told given t n ys fs u k → Trace told given s m (xs ++ ys) (es ++ fs) u k
unfolding Trace
trace-append told given s t u m n k [] ys [] fs first next =
    subst (λ (p : Play). Trace told given p m ys fs u k) (sym first.0)
    (subst (λ (q : Moment). Trace told given t q ys fs u k) (sym first.1) next)
trace-append told given s t u m n k [] ys (e ∷ es) fs first next = absurd first
trace-append told given s t u m n k (x ∷ xs) ys [] fs first next = absurd first
trace-append told given s t u m n k (x ∷ xs) ys (e ∷ es) fs first next = (
  first.0,
  trace-append told given (after_line given s x e.asked) t u e.after n k xs ys es fs first.1 next,
)

-- one line more
plays-more : (told : Bool) (given : Given) (s t u : Play) (m n k : Moment) (lines : List PlayLine)
    (line : PlayLine) (asked : Asked) → PlaysTo told given s m lines t n
    → Asks told given t.history line.act n (record { asked = asked; after = k })
    → after_line given t line asked ≡ u → PlaysTo told given s m (lines ++ line ∷ []) u k
unfolding Trace
plays-more told given s t u m n k lines line asked plays asks end = record {
  entries = plays.entries ++ record { asked = asked; after = k } ∷ [];
  trace = trace-append told given s t u m n k lines (line ∷ []) plays.entries
      (record { asked = asked; after = k } ∷ []) plays.trace (asks, (end, refl));
}

plays-next : (told : Bool) (given : Given) (s t u : Play) (m n k : Moment) (lines : List PlayLine)
    (i : ℕ) (line d : PlayLine) (asked : Asked) → i < length lines → line ≡ get_or lines i d
    → PlaysTo told given s m (take i lines) t n
    → Asks told given t.history line.act n (record { asked = asked; after = k })
    → after_line given t line asked ≡ u → PlaysTo told given s m (take (i + 1) lines) u k
plays-next told given s t u m n k lines i line d asked below is plays asks end =
    subst (λ (l : List PlayLine). PlaysTo told given s m l u k)
    (ap (λ (x : PlayLine). take i lines ++ x ∷ []) is ∙ sym (take-suc lines i d below)
    ∙ ap (λ (n : ℕ). take n lines) (sym (add-one i)))
    (plays-more told given s t u m n k (take i lines) line asked plays asks end)

-- no line leads on with what is in hand
pub lead-none : (told : Bool) (given : Given) (h : List Event) (jobs : List PlainJob) (hand : Hand)
    (remarks : List Remark) (m : Moment) → HasInHand given h jobs hand
    → LeadTo told given (record { history = h; hand = jobs; remarks = remarks }) [] m m h hand
    remarks
lead-none told given h jobs hand remarks m has = record {
  jobs = jobs;
  plays = plays-nowhere told given (record { history = h; hand = jobs; remarks = remarks }) m;
  in_hand = has;
}

module _ (told : Bool) (given : Given) (s : Play) (lines : List PlayLine) (i : ℕ)
    (line d : PlayLine) (m n k : Moment) (h h' : List Event) (hand : Hand)
    (remarks : List Remark) (below : i < length lines) (is : line ≡ get_or lines i d)
    (led : LeadTo told given s (take i lines) m n h hand remarks) where
  -- one line more
  pub lead-next : (hand' : Hand) (remarks' : List Remark)
      → ((jobs : List PlainJob) → HasInHand given h jobs hand
      → LeadsTo told given (record { history = h; hand = jobs; remarks = remarks }) line n k h' hand'
      remarks')
      → LeadTo told given s (take (i + 1) lines) m k h' hand' remarks'
  lead-next hand' remarks' step =
      let next = step led.jobs led.in_hand in
      record {
        jobs = next.jobs;
        plays = plays-next told given s
            (record { history = h; hand = led.jobs; remarks = remarks })
            (record { history = h'; hand = next.jobs; remarks = remarks' }) m n k lines i line d
            next.asked below is led.plays next.asks next.end;
        in_hand = next.in_hand;
      }

  -- memory ran out at this line
  pub lead-stops : ((jobs : List PlainJob) → HasInHand given h jobs hand
      → Breaks told given h jobs line.act n k h')
      → StopsIn told given s lines m k h'
  lead-stops step = stopped (step led.jobs led.in_hand)
    where
      stopped : Breaks told given h led.jobs line.act n k h' → StopsIn told given s lines m k h'
      stopped (inl left) = record {
        count = i;
        play = record { history = h; hand = led.jobs; remarks = remarks };
        last = n;
        plays = led.plays;
        history_is = left.0;
        stopped = left.1;
      }
      stopped (inr comes) = record {
        count = i + 1;
        play = after_line given (record { history = h; hand = led.jobs; remarks = remarks }) line
            comes.asked;
        last = k;
        plays = plays-next told given s
            (record { history = h; hand = led.jobs; remarks = remarks }) _ m n k lines i line d
            comes.asked below is led.plays comes.asks refl;
        history_is = comes.events;
        stopped = aborted-same told k k refl;
      }

-- ---- the whole play

-- the lines changed what is stored for the parts with a log alone, too
pub kept-from : (given given' : Given) (told told' : Bool) (store0 store store' : Broker)
    (h : List Event) → given' ≡ given → given'.is_told ≡ told' → told' ≡ told
    → (told ≡ true → StoresOnly (has_log given) store0 store)
    → IsKept given' store store' h → IsKept given store0 store' h
kept-from given given' told told' store0 store store' h same told_is same_told keeps is = record {
  legal = subst (λ (x : Given). IsLegal x h) same is.legal;
  stored = λ t p log. subst (λ (x : Given). In (kept_for store' p) (may_store x h p)) same
      (is.stored (ap (λ (x : Given). x.is_told) same ∙ t) p
      (ap (λ (x : Given). has_log x p) same ∙ log));
  others = λ t. stores_only-next (has_log given) (has_log given') store0 store store'
      (ap has_log same)
      (keeps (sym same_told ∙ sym told_is ∙ ap (λ (x : Given). x.is_told) same ∙ t))
      (is.others (ap (λ (x : Given). x.is_told) same ∙ t));
}

-- with no event and no job in hand the lines lead on from the start
module _ (told : Bool) (given : Given) (h : List Event) (remarks : List Remark)
    (lines : List PlayLine) (m m' : Moment) (h' : List Event) (hand : Hand) (no_events : h ≡ [])
    (no_remarks : remarks ≡ []) (none : AreIn hand []) where
  at-start : record { history = h; hand = []; remarks = remarks } ≡ start
  at-start = ap (λ (k : List Event). record { history = k; hand = []; remarks = remarks }) no_events
      ∙ ap (λ (l : List Remark). record { history = []; hand = []; remarks = l }) no_remarks

  has-none : HasInHand given h [] hand
  has-none = let e = expects-start given in
      subst (λ (k : List Event). HasInHand given k [] hand) (sym no_events)
      (record { each = none; expected = e.expected; fresh = e.fresh })

  pub lead-from-start : (hand' : Hand) (remarks' : List Remark)
      → ((jobs : List PlainJob) → HasInHand given h jobs hand → LeadTo told given
      (record { history = h; hand = jobs; remarks = remarks }) lines m m' h' hand' remarks')
      → (jobs : List PlainJob) × PlaysTo told given start m lines
      (record { history = h'; hand = jobs; remarks = remarks' }) m'
  lead-from-start hand' remarks' lead =
      let led = lead [] has-none in (
        led.jobs,
        subst (λ (s : Play). PlaysTo told given s m lines
            (record { history = h'; hand = led.jobs; remarks = remarks' }) m') at-start led.plays,
      )

  pub stops-from-start : ((jobs : List PlainJob) → HasInHand given h jobs hand
      → StopsIn told given (record { history = h; hand = jobs; remarks = remarks }) lines m m' h')
      → StopsIn told given start lines m m' h'
  stops-from-start stops =
      subst (λ (s : Play). StopsIn told given s lines m m' h') at-start (stops [] has-none)

-- memory ran out before the first line
pub stops-at-once : (told : Bool) (given : Given) (lines : List PlayLine) (m m' : Moment)
    (h : List Event) → h ≡ [] → m' ≡ m → StopsIn told given start lines m m' h
stops-at-once told given lines m m' h none same = record {
  count = 0;
  play = start;
  last = m;
  plays = plays-nowhere told given start m;
  history_is = none;
  stopped = aborted-same told m m' same;
}

-- ---- what an answer says

pub played-err : {V E : Type 0} (items : V → List Remark) (told : Bool) (given : Given)
    (lines : List PlayLine) (m m' : Moment) (h : List Event) (r : Result V E) → IsErr r
    → StopsIn told given start lines m m' h → IsPlayed items told given lines m m' h r
played-err items told given lines m m' h (Ok v) is stops = absurd (false-not-true is)
played-err items told given lines m m' h (Err e) is stops = stops

-- what was left of a play that was played so
module _ {V E : Type 0} (items : V → List Remark) (told : Bool) (given : Given)
    (lines : List PlayLine) (m m' m'' : Moment) (h h' : List Event) (r : Result V E)
    (same : h' ≡ h) (link : m'' ≡ m') where
  pub left-ok : (v : V) → r ≡ Ok v
      → (jobs : List PlainJob) × PlaysTo told given start m lines
      (record { history = h; hand = jobs; remarks = items v }) m'
      → IsPlayed items told given lines m m'' h' r
  left-ok v is plays =
      subst (λ (x : Result V E). IsPlayed items told given lines m m'' h' x) (sym is)
      (subst (λ (k : List Event). IsPlayed {V = V} {E = E} items told given lines m m'' k (Ok v))
      (sym same)
      (subst (λ (n : Moment). IsPlayed {V = V} {E = E} items told given lines m n h (Ok v))
      (sym link) plays))

  pub left-err : (e : E) → r ≡ Err e → StopsIn told given start lines m m' h
      → IsPlayed items told given lines m m'' h' r
  left-err e is stops =
      subst (λ (x : Result V E). IsPlayed items told given lines m m'' h' x) (sym is)
      (subst (λ (k : List Event). StopsIn told given start lines m m'' k) (sym same)
      (subst (λ (n : Moment). StopsIn told given start lines m n h) (sym link) stops))

pub on-err : {T E P : Type 0} (r : Result T E) → P → OnErr r P
on-err (Ok x) p = tt
on-err (Err e) p = p
