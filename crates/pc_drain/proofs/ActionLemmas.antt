-- Why an action is the first that applies.
use Rattle.std.proofs.Common.{◌≡◌, ◌∙◌, ℕ, Bool, true, false, not, ◌&&◌, inl, inr, List, [], ◌∷◌, Option, Some, None, refl, ap, sym, subst}
use Rattle.std.specs.Prelude.{cond, find, if◌then◌else◌, is_none, is_some, nat_lt, unwrap_or}
use Rattle.std.specs.List.{list_all}
use Rattle.std.proofs.lemmas.Bool.{and_from, cases_Bool}
use Rattle.pc_model.specs.declared.event.Event.{Event}
use Rattle.pc_model.specs.Given.{Given, parts_of}
use Rattle.pc_model.specs.Jobs.{is_draining}
use Rattle.pc_model.specs.Pace.{is_tended}
use Rattle.pc_model.specs.Run.{is_at_rest, is_commit_due, is_unsaved, poll_number}
use Rattle.pc_laws.proofs.Lists.{In, In-find, list_all-each}
use Rattle.pc_laws.proofs.Passing.{option_cases}
use Rattle.pc_drain.specs.declared.action.Action.{Action}
use Rattle.pc_drain.specs.declared.action.Action.TheVariants.{MoveClock, Commit, Poll, BeginDrain, Save, Finish, Rest}
use Rattle.pc_drain.specs.Action.{action_of, commit_action, is_clock_due, last_action, poll_action, rest_action, save_action}

-- where nothing is found, no item passes
pub find-none : {X : Type 0} (f : X → Bool) (x : X) (xs : List X) → find f xs ≡ None → In x xs
    → f x ≡ false
find-none f x [] e i = elim i [ ]
find-none {X} f x (y ∷ ys) e i = elim (cases_Bool (f y)) [
  | inl t ↦
      let is : ◌≡◌ {A = Option X} (Some y) None =
      subst (λ b. cond b (Some y) (find f ys) ≡ None) t e in
      cc
  | inr n ↦
      let rest : find f ys ≡ None = subst (λ b. cond b (Some y) (find f ys) ≡ None) n e in
      elim i [
        | inl same ↦ rw same n
        | inr j ↦ find-none f x ys rest j
      ]
]

-- a number that is there
some-number : (o : Option ℕ) → is_some o ≡ true → o ≡ Some (unwrap_or o 0)
some-number (Some n) e = refl
some-number None e = cc

none-number : (o : Option ℕ) → is_some o ≡ false → is_none o ≡ true
none-number (Some n) e = cc
none-number None e = refl

-- the steps are used up, and the run is at rest
pub record IsOver (given : Given) (h : List Event) (last : Bool) : Type 0 where
  pub last_is : last ≡ true
  pub rests : is_at_rest given h ≡ true

-- what holds where the action is the first that applies
abbrev pub IsReason : Given → List Event → ℕ → Bool → Action → Type 0
IsReason given h now last MoveClock = is_clock_due given h now ≡ true
IsReason given h now last (Commit p) = is_commit_due given h p ≡ true
IsReason given h now last (Poll p n) = poll_number given h p ≡ Some n
IsReason given h now last BeginDrain = IsOver given h last × (is_draining h ≡ false)
IsReason given h now last (Save p) =
    IsOver given h last × (is_draining h ≡ true) × (is_unsaved given h p ≡ true)
IsReason given h now last Finish = IsOver given h last × (is_draining h ≡ true)
    × (find (is_unsaved given h) (parts_of given) ≡ None)
IsReason given h now last Rest = (list_all (is_tended given h) (parts_of given) ≡ true)
    × (last ≡ true → is_at_rest given h ≡ false)

module _ (given : Given) (h : List Event) (now : ℕ) (last : Bool) where
  abbrev Reason : Action → Type 0
  Reason a = IsReason given h now last a

  by-save : (o : Option ℕ) → find (is_unsaved given h) (parts_of given) ≡ o → IsOver given h last
      → is_draining h ≡ true → Reason (save_action o)
  by-save None none over drains = (over, drains, none)
  by-save (Some p) found over drains =
      (over, drains, (In-find (is_unsaved given h) p (parts_of given) found).1)

  by-drain : (b : Bool) → is_draining h ≡ b → IsOver given h last
      → Reason (if b then save_action (find (is_unsaved given h) (parts_of given)) else BeginDrain)
  by-drain true drains over =
      by-save (find (is_unsaved given h) (parts_of given)) refl over drains
  by-drain false flows over = (over, flows)

  -- nothing is to be done before a record is dispatched
  tended : find (is_commit_due given h) (parts_of given) ≡ None
      → find (λ p. is_some (poll_number given h p)) (parts_of given) ≡ None
      → list_all (is_tended given h) (parts_of given) ≡ true
  tended due none = list_all-each (is_tended given h) (parts_of given)
      (λ p i. and_from (not (is_commit_due given h p)) (is_none (poll_number given h p))
      (ap not (find-none (is_commit_due given h) p (parts_of given) due i))
      (none-number (poll_number given h p)
      (find-none (λ q. is_some (poll_number given h q)) p (parts_of given) none i)))

  by-last : (a b : Bool) → last ≡ a → is_at_rest given h ≡ b
      → list_all (is_tended given h) (parts_of given) ≡ true
      → Reason (if a && b then rest_action given h else Rest)
  by-last true true used rests all =
      by-drain (is_draining h) refl (record { last_is = used; rests = rests })
  by-last true false used goes all = (all, λ e. goes)
  by-last false b left rests all =
      (all, λ e. let is : false ≡ true = sym left ∙ e in cc)

  by-poll : (o : Option ℕ) → find (λ p. is_some (poll_number given h p)) (parts_of given) ≡ o
      → find (is_commit_due given h) (parts_of given) ≡ None
      → Reason (poll_action given h o (last_action given h last))
  by-poll None none due = by-last last (is_at_rest given h) refl refl (tended due none)
  by-poll (Some p) found due = some-number (poll_number given h p)
      (In-find (λ q. is_some (poll_number given h q)) p (parts_of given) found).1

  by-commit : (o : Option ℕ) → find (is_commit_due given h) (parts_of given) ≡ o
      → Reason (commit_action o (poll_action given h
      (find (λ p. is_some (poll_number given h p)) (parts_of given)) (last_action given h last)))
  by-commit None none =
      by-poll (find (λ p. is_some (poll_number given h p)) (parts_of given)) refl none
  by-commit (Some p) found = (In-find (is_commit_due given h) p (parts_of given) found).1

  by-clock : (b : Bool) → is_clock_due given h now ≡ b → Reason (if b then MoveClock
      else commit_action (find (is_commit_due given h) (parts_of given)) (poll_action given h
      (find (λ p. is_some (poll_number given h p)) (parts_of given)) (last_action given h last)))
  by-clock true due = due
  by-clock false none = by-commit (find (is_commit_due given h) (parts_of given)) refl

  pub reason : Reason (action_of given h now last)
  reason = by-clock (is_clock_due given h now) refl
