-- Each step on the lock's table keeps the rule.
use Rattle.std.proofs.Common.{◌≡◌, ◌≢◌, ℕ, ◌+◌, ◌%◌, ◌^◌, ◌<◌, ◌≤◌, eqb, eq-eqb, ne_eqb, Bool, true, false, if◌then◌else◌, List, [], ◌∷◌, ◌++◌, length, set, get_or, refl, sym, ap, ◌∙◌, subst, ⊎_elim, arith, Option, Some, None}
use Rattle.std.proofs.Math.Nat.{mod-eq_of_lt}
use Rattle.std.proofs.lemmas.Bool.{cases_lt}
use mathlib.Core.Logic.{dite}
use mathlib.Core.Option.{none, some, some-injective, some-ne-none}
use native.Mathlib.Decide.{ℕ_discrete}
use lib.ListN.{get_elem?}
use prog.Atomic.{either}
use Rattle.atomic_table.specs.Table.{State, Act, keeps, takes, gives, step, Valid, homes_after, carried_after, opening, Allows, Splits, Joins}
use Rattle.atomic_table.proofs.Lists.{set_again, set_else, set_here, exchanged}
use Rattle.pc_model.specs.declared.event.Event.{Event}
use Rattle.pc_state_lock.specs.Heading.{Heading}
use Rattle.pc_state_lock.specs.History.{Continues, longer, times_covered}
use Rattle.pc_state_lock.specs.Views.{Standing, first_view, newcomer, joined, spent, with_ticket, with_turn, with_span, at_rest, with_longer, drawn, looked, IsCounted, counted, passed, compared}
use Rattle.pc_state_lock.specs.Rule.{IsStaged, tickets, times_taken, tickets_out, Fits, IsAway, IsHome, IsPlaced, IsKeptAt, IsKept}
use Rattle.pc_state_lock.specs.declared.view.Stage.{Stage}
use Rattle.pc_state_lock.specs.declared.view.Stage.TheVariants.{Rests, Waits, Turns}
use Rattle.pc_state_lock.specs.declared.view.View.{View}
use Rattle.pc_state_lock.proofs.HistoryLemmas.{Continues-same, Continues-none, Continues-further, Continues-length, longer-own, longer-other, longer-within, longer-whole, times_covered-append, covers-most, covers-before, covers-behind}
use Rattle.pc_state_lock.proofs.ViewLemmas.{total-le, total-set, total-snoc, total-none, each-set, each-snoc, at_within, IsAway-set, IsAway-snoc}

-- who has which ticket once this one is given to pass id
abbrev given_to : ℕ → ℕ → (ℕ → ℕ) → ℕ → ℕ
given_to ticket id owner t = if eqb t ticket then id else owner t

given_here : (ticket id : ℕ) (owner : ℕ → ℕ) → given_to ticket id owner ticket ≡ id
given_here ticket id owner = ap (λ (b : Bool). if b then id else owner ticket) (eq-eqb ticket ticket refl)

given_else : (ticket id : ℕ) (owner : ℕ → ℕ) (t : ℕ) → t ≢ ticket → given_to ticket id owner t ≡ owner t
given_else ticket id owner t other = ap (λ (b : Bool). if b then id else owner t) (ne_eqb t ticket other)

-- the value that was taken last, or else this one
abbrev first_carried : {A : Type 0} → A → List (ℕ × A) → A
first_carried x [] = x
first_carried x (y ∷ ys) = y.1

-- the others' stages after a ticket is drawn
staged_drawn : (list : List Event) (serving next : ℕ) (away : Bool) (owner : ℕ → ℕ)
    (id j : ℕ) (seen : List Event) (st : Stage)
    → IsStaged list serving next away owner j seen st
    → IsStaged list serving (next + 1) away (given_to next id owner) j seen st
staged_drawn list serving next away owner id j seen Rests h = tt
staged_drawn list serving next away owner id j seen (Waits t) h = let below : t < next = h.1 in
    (h.0, omega arith, given_else next id owner t (λ e. omega arith) ∙ h.2)
staged_drawn list serving next away owner id j seen (Turns t) h = let below : t < next = h.1 in
    (h.0, omega arith, given_else next id owner t (λ e. omega arith) ∙ h.2, h.3, h.4)

-- the others' stages where pass id has the ticket that is served
staged_else : (list list' : List Event) (serving serving' next : ℕ) (away away' : Bool) (owner : ℕ → ℕ)
    (id j : ℕ) (seen : List Event) → owner serving ≡ id → j ≢ id → serving' ≤ serving + 1
    → (st : Stage) → IsStaged list serving next away owner j seen st
    → IsStaged list' serving' next away' owner j seen st
staged_else list list' serving serving' next away away' owner id j seen own other near Rests h = tt
staged_else list list' serving serving' next away away' owner id j seen own other near (Waits t) h =
    let from : serving ≤ t = h.0 in let apart : t ≢ serving = λ e. other (sym h.2 ∙ (ap owner e ∙ own)) in
    (omega arith, h.1, h.2)
staged_else list list' serving serving' next away away' owner id j seen own other near (Turns t) h =
    absurd (other (sym h.2 ∙ (ap owner h.0 ∙ own)))

-- the own stage after the pass has compared what it was told
staged_longer : (list : List Event) (serving next : ℕ) (away : Bool) (owner : ℕ → ℕ)
    (id : ℕ) (seen told : List Event) → Continues list told
    → (st : Stage) → IsStaged list serving next away owner id seen st
    → IsStaged list serving next away owner id (longer seen told) st
staged_longer list serving next away owner id seen told f Rests h = tt
staged_longer list serving next away owner id seen told f (Waits t) h = h
staged_longer list serving next away owner id seen told f (Turns t) h =
    (h.0, h.1, h.2, h.3, longer-whole list seen told h.4 f)

-- how many of the pass's spans have the place
abbrev spans_at : {V : Type 0} → ℕ → View V → ℕ
spans_at place v = times_covered place v.mine

-- how many tickets the pass has
abbrev tickets_of : {V : Type 0} → View V → ℕ
tickets_of v = tickets v.stage

module _ {V : Type 0} (heading : V → Heading) (history : V → List Event) (start : V) where
  abbrev Homes : Type 0
  Homes = List (mathlib.Core.Option.Option (Option V))

  abbrev Views : Type 0
  Views = List (View V)

  abbrev St : Type 0
  St = State (Option V) (View V)

  abbrev Kept : ℕ → ℕ → List Event → Homes → Views → Type 0
  Kept = IsKeptAt heading history start

  abbrev Rule : St → Type 0
  Rule = IsKept heading history start

  abbrev Placed : ℕ → List Event → Homes → Views → Bool → Type 0
  Placed = IsPlaced heading history start

  -- the slot stays where it is
  placed_set : (serving : ℕ) (list : List Event) (homes : Homes) (views : Views) (id : ℕ) (v w : View V)
      → get_elem? views id ≡ some v → (v.stage ≡ Turns serving → w.stage ≡ Turns serving)
      → (b : Bool) → Placed serving list homes views b → Placed serving list homes (set views id w) b
  placed_set serving list homes views id v w at keeps_turn false h = h
  placed_set serving list homes views id v w at keeps_turn true h =
      IsAway-set serving homes views id v w at keeps_turn h

  -- a slot that is out is so whatever the list is
  placed_relist : (serving : ℕ) (list list' : List Event) (homes : Homes) (views : Views) (id : ℕ)
      (v w : View V) → get_elem? views id ≡ some v → (v.stage ≡ Turns serving → w.stage ≡ Turns serving)
      → (b : Bool) → b ≡ true → Placed serving list homes views b
      → Placed serving list' homes (set views id w) b
  placed_relist serving list list' homes views id v w at keeps_turn false out h = absurd (cc)
  placed_relist serving list list' homes views id v w at keeps_turn true out h =
      IsAway-set serving homes views id v w at keeps_turn h

  is_empty : (serving : ℕ) (list : List Event) (homes : Homes) (views : Views) (b : Bool) → b ≡ true
      → Placed serving list homes views b → homes ≡ none ∷ []
  is_empty serving list homes views false out h = absurd (cc)
  is_empty serving list homes views true out h = h.empty

  placed_snoc : (serving : ℕ) (list : List Event) (homes : Homes) (views : Views) (w : View V) (b : Bool)
      → Placed serving list homes views b → Placed serving list homes (views ++ w ∷ []) b
  placed_snoc serving list homes views w false h = h
  placed_snoc serving list homes views w true h = IsAway-snoc serving homes views w h

  -- a view with the same spans leaves them apart
  apart_set : (views : Views) (id : ℕ) (v w : View V) → get_elem? views id ≡ some v → w.mine ≡ v.mine
      → ((place : ℕ) → times_taken place views ≤ 1) → (place : ℕ) → times_taken place (set views id w) ≤ 1
  apart_set views id v w at same apart place =
      let e = total-set (spans_at place) views id v w at in
      let f : times_covered place w.mine ≡ times_covered place v.mine = ap (times_covered place) same in
      let a = apart place in omega arith

  -- a view with as many tickets leaves all of them out
  all_out_set : (next serving : ℕ) (views : Views) (id : ℕ) (v w : View V) → get_elem? views id ≡ some v
      → tickets w.stage ≡ tickets v.stage
      → next ≡ serving + tickets_out views → next ≡ serving + tickets_out (set views id w)
  all_out_set next serving views id v w at same all = let e = total-set tickets_of views id v w at in
      omega arith

  module _ (next serving : ℕ) (list : List Event) (homes : Homes) (views : Views)
      (r : Kept next serving list homes views) (id : ℕ) (v : View V) (at : get_elem? views id ≡ some v) where
    draws_at : v.stage ≡ Rests → next + 1 < 2 ^ 64
        → Kept (next + 1) serving list homes (set views id (with_ticket next v))
    draws_at rests fewer = let all = r.all_out in let f = r.fits id v at in record {
      away = r.away;
      owner = given_to next id r.owner;
      all_out = let e = total-set tickets_of views id v (with_ticket next v) at in
          let none_out : tickets v.stage ≡ 0 = ap tickets rests in omega arith;
      small = fewer;
      placed = placed_set serving list homes views id v (with_ticket next v) at
          (λ e. absurd (cc)) r.away r.placed;
      fits = each-set (Fits list serving (next + 1) r.away (given_to next id r.owner)) views id (with_ticket next v)
          record {
            seen = f.seen;
            told = f.told;
            within = f.within;
            staged =
                (omega arith, omega arith, given_here next id r.owner);
          }
          (λ j u other there. let g = r.fits j u there in
          record {
            seen = g.seen;
            told = g.told;
            within = g.within;
            staged =
                staged_drawn list serving next r.away r.owner id j u.seen u.stage g.staged;
          });
      apart = apart_set views id v (with_ticket next v) at refl r.apart;
    }

    not_away : v.stage ≡ Waits serving → IsAway serving homes views → ⊥
    not_away waits out =
        let mine = subst (IsStaged list serving next r.away r.owner id v.seen) waits (r.fits id v at).staged in
        let its = subst (IsStaged list serving next r.away r.owner out.holder out.view.seen) out.turns (r.fits out.holder out.view out.there).staged in
        let same : out.holder ≡ id = sym its.2 ∙ mine.2 in
        let one : out.view ≡ v = some-injective out.view v (sym out.there ∙ (ap (get_elem? views) same
        ∙ at)) in
        let stages : out.view.stage ≡ v.stage = ap (λ (u : View V). u.stage) one in
        let turns = out.turns in
        absurd (cc)

    home_of : v.stage ≡ Waits serving → (b : Bool) → Placed serving list homes views b
        → IsHome heading history start list homes
    home_of waits false h = h
    home_of waits true h = absurd (not_away waits h)

    takes_at : v.stage ≡ Waits serving → Kept next serving list (none ∷ [])
        (set views id (with_turn serving list v))
    takes_at waits = let f = r.fits id v at in let mine =
        subst (IsStaged list serving next r.away r.owner id v.seen) waits f.staged in
        let w : View V = with_turn serving list v in record {
          away = true;
          owner = r.owner;
          all_out = all_out_set next serving views id v w at (sym (ap tickets waits)) r.all_out;
          small = r.small;
          placed = record {
            empty = refl;
            holder = id;
            view = w;
            there =
                set_here views id w (at_within views id v at);
            turns = refl;
          };
          fits = each-set (Fits list serving next true r.owner) views id w
              record {
                seen = Continues-same list;
                told = f.told;
                within = λ place l m.
                    let n = Continues-length list v.seen f.seen in
                    f.within place (omega arith) m;
                staged = (refl, mine.1, mine.2, refl, refl);
              }
              (λ j u other there. let g = r.fits j u there in record {
                seen = g.seen;
                told = g.told;
                within = g.within;
                staged = staged_else list list serving serving next r.away true r.owner id j u.seen mine.2 other (omega arith) u.stage g.staged;
              });
          apart = apart_set views id v w at refl r.apart;
        }

    module _ (ticket : ℕ) (turns : v.stage ≡ Turns ticket) where
      own : IsStaged list serving next r.away r.owner id v.seen (Turns ticket)
      own = subst (IsStaged list serving next r.away r.owner id v.seen) turns (r.fits id v at).staged

      own_served : r.owner serving ≡ id
      own_served = ap r.owner (sym own.0) ∙ own.2

      no_place : (place : ℕ) → length list ≤ place → times_taken place views ≡ 0
      no_place place l = total-none (spans_at place) views (λ j u there. let g = r.fits j u there in
          let a = Continues-length list u.seen g.seen in let b = Continues-length list u.told g.told in
          g.within place (omega arith) (omega arith))

      apart_counted : (list' : List Event) (place : ℕ)
          → times_taken place (set views id (with_span list' v)) ≤ 1
      apart_counted list' place =
          let e = total-set (spans_at place) views id v (with_span list' v) at in
          let seen : length v.seen ≡ length list = ap length own.4 in
          let a = r.apart place in
          let most = covers-most place (length v.seen) (length list') in
          ⊎_elim
          (λ (l : place < length v.seen). let z = covers-before place (length v.seen) (length list') l in
          omega arith)
          (λ (l : length v.seen ≤ place). let z = no_place place (omega arith) in omega arith)
          (cases_lt place (length v.seen))

      counts_at : (list' : List Event) → Continues list' v.seen
          → Kept next serving list' homes (set views id (with_span list' v))
      counts_at list' more =
          let f = r.fits id v at in let w : View V = with_span list' v in
          let longer_list : Continues list' list = subst (Continues list') own.4 more in
          record {
            away = r.away;
            owner = r.owner;
            all_out = all_out_set next serving views id v w at refl r.all_out;
            small = r.small;
            placed = placed_relist serving list list' homes views id v w at (λ e. e) r.away own.3 r.placed;
            fits = each-set (Fits list' serving next r.away r.owner) views id w
                record {
                  seen = Continues-same list';
                  told = Continues-further list' list v.told longer_list f.told;
                  within = λ place l m. let n = Continues-length list' v.seen more in
                      let a = covers-behind place (length v.seen) (length list') l in
                      let b = f.within place (omega arith) m in omega arith;
                  staged = subst (IsStaged list' serving next r.away r.owner id list') (sym turns)
                      (own.0, own.1, own.2, own.3, refl);
                }
                (λ j u other there. let g = r.fits j u there in record {
                  seen = Continues-further list' list u.seen longer_list g.seen;
                  told = Continues-further list' list u.told longer_list g.told;
                  within = g.within;
                  staged = staged_else list list' serving serving next r.away r.away r.owner id j u.seen own_served other (omega arith) u.stage g.staged;
                });
            apart = apart_counted list';
          }

      leaves_at : (value : V) → heading value ≡ heading start → v.seen ≡ history value
          → Kept next (serving + 1) list (some (Some value) ∷ []) (set views id (at_rest v))
      leaves_at value headed listed = let f = r.fits id v at in let served : ticket ≡ serving = own.0 in
          let drawn_before : ticket < next = own.1 in record {
            away = false;
            owner = r.owner;
            all_out = let e = total-set tickets_of views id v (at_rest v) at in
                let one_out : tickets v.stage ≡ 1 = ap tickets turns in let all = r.all_out in omega arith;
            small = r.small;
            placed = record { value = value; there = refl; headed = headed; listed = sym listed ∙ own.4 };
            fits = each-set (Fits list (serving + 1) next false r.owner) views id (at_rest v)
                record { seen = f.seen; told = f.told; within = f.within; staged = tt }
                (λ j u other there. let g = r.fits j u there in record {
                  seen = g.seen;
                  told = g.told;
                  within = g.within;
                  staged = staged_else list list serving (serving + 1) next r.away false r.owner id j u.seen own_served other (omega arith) u.stage g.staged;
                });
            apart = apart_set views id v (at_rest v) at refl r.apart;
          }

    compares_at : Kept next serving list homes (set views id (with_longer v))
    compares_at = let f = r.fits id v at in let w : View V = with_longer v in record {
      away = r.away;
      owner = r.owner;
      all_out = all_out_set next serving views id v w at refl r.all_out;
      small = r.small;
      placed = placed_set serving list homes views id v w at (λ e. e) r.away r.placed;
      fits = each-set (Fits list serving next r.away r.owner) views id w
          record {
            seen = longer-within list v.seen v.told f.seen f.told;
            told = Continues-none list;
            within = λ place l m. let a =
                Continues-length (longer v.seen v.told) v.seen (longer-own list v.seen v.told f.seen f.told) in
                let b = Continues-length (longer v.seen v.told) v.told (longer-other list v.seen v.told f.seen f.told) in f.within place (omega arith) (omega arith);
            staged = staged_longer list serving next r.away r.owner id v.seen v.told f.told v.stage f.staged;
          }
          (λ j u other there. r.fits j u there);
      apart = apart_set views id v w at refl r.apart;
    }

    splits_at : Kept next serving list homes (set views id v ++ newcomer v ∷ [])
    splits_at = let f = r.fits id v at in let P : Views
        → Type 0 = λ vs. Kept next serving list homes (vs ++ newcomer v ∷ []) in
        subst P (sym (set_again views id v at)) record {
          away = r.away;
          owner = r.owner;
          all_out = let e = total-snoc tickets_of views (newcomer v) in let all = r.all_out in omega arith;
          small = r.small;
          placed = placed_snoc serving list homes views (newcomer v) r.away r.placed;
          fits = each-snoc (Fits list serving next r.away r.owner) views (newcomer v)
              (λ j. record { seen = f.seen; told = Continues-none list; within = λ place l m. refl; staged = tt })
              r.fits;
          apart = λ place. let e = total-snoc (spans_at place) views (newcomer v) in let a = r.apart place in
              omega arith;
        }

    joins_at : (other : ℕ) (w : View V) → ¬ (other ≡ id)
        → get_elem? (set views id (joined v w)) other ≡ some w → v.told ≡ [] → w.told ≡ [] → w.stage ≡ Rests
        → Kept next serving list homes (set (set views id (joined v w)) other spent)
    joins_at other w others there quiet quiet' rests =
        let u : View V = joined v w in
        let there' : get_elem? views other ≡ some w = sym (set_else views id other u others) ∙ there in
        let f = r.fits id v at in let g = r.fits other w there' in
        let one : (place : ℕ) → times_taken place (set views id u) + times_covered place v.mine ≡ times_taken place views + times_covered place u.mine = λ place. total-set (spans_at place) views id v u at in
        record {
          away = r.away;
          owner = r.owner;
          all_out = all_out_set next serving (set views id u) other w spent there (sym (ap tickets rests))
              (all_out_set next serving views id v u at refl r.all_out);
          small = r.small;
          placed = placed_set serving list homes (set views id u) other w spent there
              (λ e. absurd (cc)) r.away (placed_set serving list homes views id v u at
              (λ e. e) r.away r.placed);
          fits = each-set (Fits list serving next r.away r.owner) (set views id u) other spent
              record {
                seen = Continues-none list;
                told = Continues-none list;
                within = λ place l m. refl;
                staged = tt;
              }
              (λ j x _ at_j. each-set (Fits list serving next r.away r.owner) views id u
              record {
                seen = f.seen;
                told = g.seen;
                within = λ place l m. let e = times_covered-append place v.mine w.mine in
                    let a = ap (λ (t : List Event). length t) quiet in
                    let b = ap (λ (t : List Event). length t) quiet' in
                    let c = f.within place l (omega arith) in let d = g.within place m (omega arith) in
                    omega arith;
                staged = f.staged;
              }
              (λ i y _ at_i. r.fits i y at_i) j x at_j);
          apart = λ place. let e = times_covered-append place v.mine w.mine in let a = one place in
              let b = total-set (spans_at place) (set views id u) other w spent there in
              let c = r.apart place in omega arith;
        }

  -- the table as it is made
  pub opens : (count : ℕ) → count ≡ length (history start)
      → Rule (opening (0 ∷ 0 ∷ count ∷ []) (Some start ∷ []) (first_view history start))
  opens count counted = record {
    drawn = 0;
    serving = 0;
    list = history start;
    words = ap (λ (n : ℕ). 0 ∷ 0 ∷ n ∷ []) counted;
    kept = record {
      away = false;
      owner = λ _. 0;
      all_out = refl;
      small = omega arith;
      placed = record { value = start; there = refl; headed = refl; listed = refl };
      fits = each-snoc (Fits (history start) 0 0 false (λ _. 0)) [] (first_view history start)
          (λ j. record {
            seen = Continues-same (history start);
            told = Continues-none (history start);
            within = λ place l m. refl;
            staged = tt;
          })
          (λ j u there. absurd (some-ne-none u (sym there)));
      apart = λ place. omega arith;
    };
  }

  -- a step that changes no word and no view
  rests_at : (s : St) (r : Rule s) (id : ℕ) (v : View V) → get_elem? s.views id ≡ some v
      → Rule record {
        words = r.drawn ∷ r.serving ∷ length r.list ∷ [];
        homes = s.homes;
        views =
            set s.views id v;
      }
  rests_at s r id v at = record {
    drawn = r.drawn;
    serving = r.serving;
    list = r.list;
    words = refl;
    kept =
        subst (Kept r.drawn r.serving r.list s.homes) (sym (set_again s.views id v at)) r.kept;
  }

  pub splits : (id : ℕ) (v : View V) → Splits Rule id v v (newcomer v)
  splits id v s r at = record {
    drawn = r.drawn;
    serving = r.serving;
    list = r.list;
    words = r.words;
    kept =
        splits_at r.drawn r.serving r.list s.homes s.views r.kept id v at;
  }

  pub joins : (id : ℕ) (v : View V) (other : ℕ) (w : View V) → v.told ≡ [] → w.told ≡ [] → w.stage ≡ Rests
      → Joins Rule id v other w (joined v w) spent
  joins id v other w quiet quiet' rests s r at others there = record {
    drawn = r.drawn;
    serving = r.serving;
    list = r.list;
    words = r.words;
    kept = joins_at r.drawn r.serving r.list s.homes s.views r.kept id v at other w others there quiet quiet' rests;
  }

  module _ (n id : ℕ) (m : Standing V) where
    pub draws : (next : ℕ) → m.0.stage ≡ Rests → next + 1 < 2 ^ 64
        → Allows Rule n id m 0 (λ k. either (eqb k next) (next + 1) k)
        (drawn (step n 0 next (next + 1) none) m)
    draws next rests fewer s r _ at _ =
        let P : List ℕ → Type 0 = λ ws. (w : View V) × (a : Act (Option V)) × Valid s.homes m.1 a
        × Rule (record {
          words = set ws 0 (either (eqb (get_or ws 0 0) next) (next + 1) (get_or ws 0 0));
          homes = homes_after s.homes m.1 a;
          views = set s.views id w;
        })
        × drawn (step n 0 next (next + 1) none) m (get_or ws 0 0) (w, carried_after m.1 a) in
        let F : ℕ → Type 0 = λ k. (w : View V) × (a : Act (Option V)) × Valid s.homes m.1 a
        × Rule (record {
          words = k ∷ r.serving ∷ length r.list ∷ [];
          homes = homes_after s.homes m.1 a;
          views = set s.views id w;
        })
        × drawn (step n 0 next (next + 1) none) m r.drawn (w, carried_after m.1 a) in
        subst P (sym r.words) (exchanged r.drawn next (next + 1) F
        (λ (e : r.drawn ≡ next).
        let kept : Kept (r.drawn + 1) r.serving r.list s.homes (set s.views id (with_ticket r.drawn m.0)) =
        draws_at r.drawn r.serving r.list s.homes s.views r.kept id m.0 at rests (omega arith) in (
          with_ticket r.drawn m.0,
          keeps,
          tt,
          record {
            drawn = next + 1;
            serving = r.serving;
            list = r.list;
            words = refl;
            kept = subst (λ (k : ℕ). Kept (k + 1) r.serving r.list s.homes (set s.views id (with_ticket r.drawn m.0))) e kept;
          },
          ((λ _. refl), (λ ne. absurd (ne e))),
        ))
        (λ (ne : r.drawn ≢ next). (
          m.0,
          keeps,
          tt,
          rests_at s r id m.0 at,
          (
            (λ e. absurd (ne e)),
            (λ _. refl),
          ),
        )))

    pub looks : (ticket : ℕ) → m.0.stage ≡ Waits ticket → m.1 ≡ [] → m.0.start ≡ Some start
        → Allows Rule n id m 1 (λ k. k) (looked heading history (step n 1 0 0 none) m)
    looks ticket waits empty started s r _ at _ =
        let P : List ℕ → Type 0 = λ ws. (w : View V) × (a : Act (Option V)) × Valid s.homes m.1 a
        × Rule (record {
          words = set ws 1 (get_or ws 1 0);
          homes = homes_after s.homes m.1 a;
          views =
              set s.views id w;
        })
        × looked heading history (step n 1 0 0 none) m (get_or ws 1 0) (w, carried_after m.1 a) in
        let staged = subst (IsStaged r.list r.serving r.drawn r.kept.away r.kept.owner id m.0.seen) waits (r.kept.fits id m.0 at).staged in
        let from : r.serving ≤ ticket = staged.0 in
        subst P (sym r.words) (dite (ℕ_discrete r.serving ticket)
        (λ (e : r.serving ≡ ticket).
        let now : m.0.stage ≡ Waits r.serving = waits ∙ ap Waits (sym e) in
        let home = home_of r.drawn r.serving r.list s.homes s.views r.kept id m.0 at now r.kept.away r.kept.placed in
        let w : View V = with_turn r.serving (history home.value) m.0 in
        let kept : Kept r.drawn r.serving r.list (none ∷ []) (set s.views id w) =
        subst (λ (l : List Event). Kept r.drawn r.serving r.list (none ∷ [])
        (set s.views id (with_turn r.serving l m.0))) (sym home.listed)
        (takes_at r.drawn r.serving r.list s.homes s.views r.kept id m.0 at now) in (
          w,
          takes 0 (Some home.value),
          ap (λ (hs : Homes). get_elem? hs 0) home.there,
          record {
            drawn = r.drawn;
            serving = r.serving;
            list = r.list;
            words = refl;
            kept = subst (λ (hs : Homes). Kept r.drawn r.serving r.list (set hs 0 none) (set s.views id w))
                (sym home.there) kept;
          },
          λ t is _. let same : r.serving ≡ t = cc in (
            omega arith,
            (λ _. record {
              value = home.value;
              is = λ i. (with_turn (same i) (history home.value) m.0, (0, Some home.value) ∷ empty i);
              headed = λ first known. let one : start ≡ first = cc in home.headed ∙ ap heading one;
              later = subst (λ (l : List Event). Continues l m.0.seen) (sym home.listed)
                  (r.kept.fits id m.0 at).seen;
            }),
            (λ ne. absurd (ne same)),
          ),
        ))
        (λ (ne : r.serving ≢ ticket). (
          m.0,
          keeps,
          tt,
          rests_at s r id m.0 at,
          λ t is _. let same : ticket ≡ t = cc in (
            omega arith,
            (λ e. absurd (ne (e ∙ sym same))),
            (λ _. refl),
          ),
        )))

    pub counts : (ticket count : ℕ) (value : V) → m.0.stage ≡ Turns ticket → m.1 ≡ (0, Some value) ∷ []
        → m.0.told ≡ [] → Continues (history value) m.0.seen → count ≡ length (history value)
        → Allows Rule n id m 2 (λ _. count) (λ _. counted history (step n 2 count 0 none) m count)
    counts ticket count value turns carried quiet more counted_is s r _ at _ =
        let P : List ℕ → Type 0 = λ ws. (w : View V) × (a : Act (Option V)) × Valid s.homes m.1 a
        × Rule (record {
          words = set ws 2 count;
          homes = homes_after s.homes m.1 a;
          views =
              set s.views id w;
        })
        × counted history (step n 2 count 0 none) m count (w, carried_after m.1 a) in
        let list' : List Event = history value in
        let w : View V = with_span list' m.0 in
        let kept : Kept r.drawn r.serving list' s.homes (set s.views id w) =
        counts_at r.drawn r.serving r.list s.homes s.views r.kept id m.0 at ticket turns list' more in
        let there : get_elem? (set s.views id w) id ≡ some w =
        set_here s.views id w (at_within s.views id m.0 at) in
        let short : length m.0.told ≡ 0 = ap (λ (l : List Event). length l) quiet in
        subst P (sym r.words) (
          w,
          keeps,
          tt,
          record {
            drawn = r.drawn;
            serving = r.serving;
            list = list';
            words = ap
                (λ (k : ℕ). r.drawn ∷ r.serving ∷ k ∷ []) counted_is;
            kept = kept;
          },
          λ other is _. let one : Some value ≡ Some other = ap (first_carried None) (sym carried ∙ is) in
              let same : value ≡ other = cc in subst
              (λ (x : V). IsCounted (history x) m (w, m.1)) same record {
                is = refl;
                apart = λ place. let a = kept.apart place in
                    let b = total-le (spans_at place) (set s.views id w) id w there in omega arith;
                below = λ place l. (kept.fits id w there).within place l (omega arith);
              },
        )

    pub leaves : (ticket : ℕ) (value : V) → m.0.stage ≡ Turns ticket → m.1 ≡ (0, Some value) ∷ []
        → heading value ≡ heading start → m.0.seen ≡ history value
        → Allows Rule n id m 1 (λ k. (k + 1) % 2 ^ 64) (passed (step n 1 1 0 none) m)
    leaves ticket value turns carried headed listed s r _ at _ =
        let P : List ℕ → Type 0 = λ ws. (w : View V) × (a : Act (Option V)) × Valid s.homes m.1 a
        × Rule (record {
          words = set ws 1 ((get_or ws 1 0 + 1) % 2 ^ 64);
          homes = homes_after s.homes m.1 a;
          views = set s.views id w;
        })
        × passed (step n 1 1 0 none) m (get_or ws 1 0) (w, carried_after m.1 a) in
        let mine = own r.drawn r.serving r.list s.homes s.views r.kept id m.0 at ticket turns in
        let served : ticket ≡ r.serving = mine.0 in
        let before : ticket < r.drawn = mine.1 in
        let fewer = r.kept.small in
        let next : (r.serving + 1) % 2 ^ 64 ≡ r.serving + 1 = mod-eq_of_lt (omega arith) in
        let kept : Kept r.drawn (r.serving + 1) r.list (some (Some value) ∷ [])
        (set s.views id (at_rest m.0)) =
        leaves_at r.drawn r.serving r.list s.homes s.views r.kept id m.0 at ticket turns value headed listed in
        let empty : s.homes ≡ none ∷ [] =
        is_empty r.serving r.list s.homes s.views r.kept.away mine.3 r.kept.placed in
        let Q : Homes × List (ℕ × Option V) → Type 0 =
        λ z. Kept r.drawn (r.serving + 1) r.list (homes_after z.0 z.1 gives)
        (set s.views id (at_rest m.0)) in
        subst P (sym r.words) (
          at_rest m.0,
          gives,
          tt,
          record {
            drawn = r.drawn;
            serving = r.serving + 1;
            list = r.list;
            words = ap (λ (k : ℕ). r.drawn ∷ k ∷ length r.list ∷ []) next;
            kept = subst Q (λ i. (sym empty i, sym carried i)) kept;
          },
          refl,
        )

    pub compares : Allows Rule n id m 0 (λ k. k) (compared (step n 0 0 0 none) m)
    compares s r _ at _ =
        let P : List ℕ → Type 0 = λ ws. (w : View V) × (a : Act (Option V)) × Valid s.homes m.1 a
        × Rule (record {
          words = set ws 0 (get_or ws 0 0);
          homes = homes_after s.homes m.1 a;
          views =
              set s.views id w;
        })
        × compared (step n 0 0 0 none) m (get_or ws 0 0) (w, carried_after m.1 a) in
        let f = r.kept.fits id m.0 at in
        let w : View V = with_longer m.0 in
        let kept : Kept r.drawn r.serving r.list s.homes (set s.views id w) =
        compares_at r.drawn r.serving r.list s.homes s.views r.kept id m.0 at in
        let there : get_elem? (set s.views id w) id ≡ some w =
        set_here s.views id w (at_within s.views id m.0 at) in
        subst P (sym r.words) (
          w,
          keeps,
          tt,
          record { drawn = r.drawn; serving = r.serving; list = r.list; words = refl; kept = kept },
          record {
            is = refl;
            own = longer-own r.list m.0.seen m.0.told f.seen f.told;
            other = longer-other r.list m.0.seen m.0.told f.seen f.told;
            apart = λ place. let a = kept.apart place in
                let b = total-le (spans_at place) (set s.views id w) id w there in omega arith;
            below = λ place l. (kept.fits id w there).within place l (omega arith);
          },
        )
