-- What `clap` makes of the words, and what the definition says of them.
use Rattle.std.proofs.Common.{◌≡◌, ◌∙◌, ◌⊎◌, inl, inr, ℕ, Bool, true, false, List, [], ◌∷◌, map, length, Option, Some, None, refl, sym, ap, subst}
use Rattle.std.specs.Prelude.{if◌then◌else◌, ◌||◌, ◌&&◌, is_some, fold, unwrap_or, option_and_then}
use Rattle.std.specs.List.{AllByRecursion}
use Rattle.std.proofs.lemmas.List.{append-nil, length-map}
use Rattle.std.proofs.lemmas.Str.{IsUtf8-string_bytes}
use Rattle.std.specs.Str.{IsUtf8, bytes_eq}
use Rattle.std.specs.Prelude.{Result, Ok, Err, ok_or, string_bytes}
use Rattle.std.specs.List.{list_all}
use Rattle.std.specs.Result.{result_map_both}
use Rattle.std.proofs.lemmas.List.Folds.{list_all-map}
use Rattle.pc_inputs.specs.declared.words.Said.{Said as SaidWords}
use Rattle.pc_inputs.specs.declared.command.Command.{Command as WordCommand}
use Rattle.pc_inputs.specs.declared.status.Status.{Status}
use Rattle.std.specs.Borrow.{Bor}
use Rattle.std.specs.declared.string.String.{String}
use Rattle.clap.specs.Matches.{found_of, one_text}
use Rattle.clap.specs.declared.parser.matches.ArgMatches.{ArgMatches}
use Rattle.clap.specs.declared.error.kind.ErrorKind.{ErrorKind}
use Rattle.clap.proofs.WalkLemmas.{first_value-rows, one_text-rows, raw_values-rows}
use Rattle.pc_inputs.specs.Words.{CONFIG, FILES, SUMMARY, IsFlag, found_in, is_set, plain_command, plain_said, command_app, refused}
use Rattle.pc_inputs.specs.declared.status.Status.TheVariants.{NoMemory, Usage}
use Rattle.clap.specs.Walk.{one_of, rows_of, Held, Row, Text, Walk, Waiting, idle, positional, option, all_of, first_of, settled, settled_rows, walked, used, with_default, has_row, finished, walk_from, nothing_held}
use Rattle.clap.specs.Simple.{built, matches_of, entered}
use Rattle.clap.specs.Faults.{fault_of, settle_fault, turn_fault, walk_fault, use_fault, default_fault, defaults_fault, given_default_fault, entered_fault, check_fault}
use Rattle.clap.specs.Kinds.{IsAmong, Kinds, or_else}
use Rattle.clap.specs.declared.error.kind.ErrorKind.TheVariants.{OutOfMemory}
use Rattle.pc_inputs.specs.Command.{Command, are_files, bulk_in, is_name, is_file_count, Said, by_kind, said_by, said_files, summary_kind, with_config, with_file, with_summary, word_kind}
use Rattle.pc_inputs.specs.Command.WordKind.{Config, Unknown}
use Rattle.pc_inputs.proofs.WordLooks.{IsEnd, IsLong, IsPlain, Looks, looks}
use Rattle.pc_inputs.proofs.WordSteps.Pending.{nothing, a_file, a_config}
use Rattle.pc_inputs.proofs.WordSteps.Place.{back}
use Rattle.pc_inputs.proofs.WordSteps.Order.{plain, flagged}
use Rattle.pc_inputs.proofs.WordSteps.{top, rules, config_rule, summary_rule, files_rule, Order, flag_text, is_flagged, rows_at, rows_at-config, rows_at-summary, rows_at-files, with_defaults, config-used, config-once, config-free, summary-used, summary-free, summary-once, with_flag-none, joined-order, joined-summary, joined-summary-twice, flag-turn, flag-walked, flag-valued-turn, Pending, pending_of, with_pending, joined, held_at, joined-config, joined-twice, settles, walk_at, free, due, plain-turn, plain-walked, end-turn, end-walked, unknown-turn, short-turn, valued-turn, valued-walked, named-turn, named-walked, due-plain-turn, due-plain-walked, due-end-turn, due-end-walked, due-long-turn, due-short-turn, behind-turn, behind-walked, due-behind-turn}

-- ---- all words

-- what a walk over the words comes to
abbrev ended : Walk → List Text → Held
ended w words = (fold (walked rules []) w words).held

abbrev kinds_at : Walk → List Text → Kinds
kinds_at w words = or_else (walk_fault top [] w words) (settle_fault rules false (ended w words))

abbrev rows_end : Walk → List Text → List Row
rows_end w words = (settled rules (ended w words)).rows

-- it fails where the words say nothing, and else found what they say
abbrev pub Agrees : Kinds → List Row → Option Said → Type 0
Agrees kinds rows None = kinds ≡ [] → ⊥
Agrees kinds rows (Some said) = (kinds ≡ []) × ((first : Order)
    × (is_flagged first ≡ said.summary) × (rows ≡ rows_at said.config said.files first))

none-first : (a b : Kinds) → or_else a b ≡ [] → a ≡ []
none-first [] b is = refl
none-first (k ∷ ks) b is = is

module _ (w : Walk) (word : Text) (words : List Text) where
  steps : (w' : Walk) (a : Option Said) → turn_fault top [] w word ≡ []
      → walked rules [] w word ≡ w'
      → Agrees (kinds_at w' words) (rows_end w' words) a
      → Agrees (kinds_at w (word ∷ words)) (rows_end w (word ∷ words)) a
  unfolding walk_fault
  steps w' a turn moved agrees =
      subst (λ (t : Kinds). Agrees (or_else (or_else t (walk_fault top [] (walked rules [] w word)
      words)) (settle_fault rules false (ended (walked rules [] w word) words)))
      (rows_end (walked rules [] w word) words) a) (sym turn)
      (subst (λ (v : Walk). Agrees (kinds_at v words) (rows_end v words) a) (sym moved) agrees)

  stumbles : (turn_fault top [] w word ≡ [] → ⊥) → kinds_at w (word ∷ words) ≡ [] → ⊥
  unfolding walk_fault
  stumbles turn none = turn (none-first _ _ (none-first _ _ none))

joined-nothing : (config : Option Text) (files : List Text) (first : Order)
    → joined config files first (Some (said_files []))
    ≡ Some (record { config = config; summary = is_flagged first; files = files })
joined-nothing None files (plain b) =
    ap (λ (fs : List Text). Some (said_files fs)) (append-nil files)
joined-nothing (Some c) files (plain b) =
    ap (λ (fs : List Text). Some (record { config = Some c; summary = false; files = fs })) (append-nil files)
joined-nothing None files (flagged place b) =
    ap (λ (fs : List Text). Some (record { config = None; summary = true; files = fs })) (append-nil files)
joined-nothing (Some c) files (flagged place b) =
    ap (λ (fs : List Text). Some (record { config = Some c; summary = true; files = fs })) (append-nil files)

pending-none : (p : Pending) → with_pending p None ≡ None
pending-none nothing = refl
pending-none (a_file v) = refl
pending-none (a_config v) = refl

abbrev AgreesAt : Walk → List Text → Option Said → Type 0
AgreesAt w words a = Agrees (kinds_at w words) (rows_end w words) a

-- a walk that stops where something is pending
ends : (config : Option Text) (files : List Text) (first : Order) (p : Pending) (waiting : Waiting)
    (is_trailing : Bool)
    → AgreesAt (walk_at (rows_at config files first) (pending_of p) waiting is_trailing) []
    (joined config files first (with_pending p (Some (said_files []))))
unfolding walk_fault
ends config files first p waiting is_trailing = elim (settles config files first p) [
  | inl c ↦ subst (λ (a : Option Said). Agrees (settle_fault rules false (held_at config files first
      (pending_of p)))
      (settled_rows rules (pending_of p) (rows_at config files first)) a) (sym (c.none (Some
      (said_files [])))) c.fault
  | inr s ↦ subst (λ (a : Option Said). Agrees (settle_fault rules false (held_at config files first
      (pending_of p)))
      (settled_rows rules (pending_of p) (rows_at config files first)) a)
      (sym (s.same (Some (said_files [])) ∙ joined-nothing s.config' s.files' s.first')) (
        s.fault,
        (s.first', refl, s.rows),
      )
]

-- the words behind `--` are files
behind : (words : List Text) (config : Option Text) (files : List Text) (first : Order) (p : Pending)
    (waiting : Waiting)
    → AgreesAt (walk_at (rows_at config files first) (pending_of p) waiting true) words
    (joined config files first (with_pending p (Some (said_files words))))
behind [] config files first p waiting = ends config files first p waiting true
behind (word ∷ words) config files first p waiting = elim (settles config files first p) [
  | inl c ↦ subst (AgreesAt (walk_at (rows_at config files first) (pending_of p) waiting true) (word
      ∷ words))
      (sym (c.none (Some (said_files (word ∷ words)))))
      (stumbles (walk_at (rows_at config files first) (pending_of p) waiting true) word words
      (λ none. c.fault (sym (behind-turn (rows_at config files first) word p waiting) ∙ none)))
  | inr s ↦ subst (AgreesAt (walk_at (rows_at config files first) (pending_of p) waiting true) (word
      ∷ words))
      (sym (s.same (Some (said_files (word ∷ words)))))
      (steps (walk_at (rows_at config files first) (pending_of p) waiting true) word words
      (walk_at (rows_at s.config' s.files' s.first') (Some (FILES, word ∷ [])) positional true) _
      (behind-turn (rows_at config files first) word p waiting ∙ s.fault)
      (behind-walked (rows_at config files first) word p waiting
      ∙ ap (λ (rows : List Row). walk_at rows (Some (FILES, word ∷ [])) positional true) s.rows)
      (behind words s.config' s.files' s.first' (a_file word) positional))
]

due-behind : (words : List Text) (rows : List Row) (waiting : Waiting)
    → kinds_at (walk_at rows due waiting true) words ≡ [] → ⊥
unfolding walk_fault
due-behind [] rows waiting none = cc
due-behind (word ∷ words) rows waiting none =
    stumbles (walk_at rows due waiting true) word words (due-behind-turn rows word waiting) none

-- where a walk stands in front of words among which options may be
data Stage : Type 0 where
  at_ease : Pending → Bool → Stage
  awaiting : Stage

abbrev pending_at : Stage → Option (Text × List Text)
pending_at (at_ease p b) = pending_of p
pending_at awaiting = due

abbrev waiting_at : Stage → Waiting
waiting_at (at_ease p b) = free b
waiting_at awaiting = option CONFIG

abbrev said_at : Stage → List Text → Option Said
said_at (at_ease p b) words = with_pending p (said_by false words)
said_at awaiting words = said_by true words

abbrev stage_walk : Option Text → List Text → Order → Stage → Walk
stage_walk config files first at =
    walk_at (rows_at config files first) (pending_at at) (waiting_at at) false

abbrev IsNext : Text → List Text → Type 0
IsNext word words = (config : Option Text) (files : List Text) (first : Order) (at : Stage)
    → AgreesAt (stage_walk config files first at) words (joined config files first (said_at at words))

module _ (word : Text) (words : List Text) (config : Option Text) (files : List Text) (first : Order)
  where
    none-agrees : (p : Pending) (b : Bool)
        → (turn_fault top [] (stage_walk config files first (at_ease p b)) word ≡ [] → ⊥)
        → AgreesAt (stage_walk config files first (at_ease p b)) (word ∷ words) (joined config files first
        (with_pending p None))
    none-agrees p b turn =
        subst (AgreesAt (stage_walk config files first (at_ease p b)) (word ∷ words))
        (sym (ap (joined config files first) (pending-none p) ∙ with_flag-none (is_flagged first)))
        (stumbles (stage_walk config files first (at_ease p b)) word words turn)

    file-agrees : (p : Pending) (b : Bool) → IsPlain word → IsNext word words
        → AgreesAt (stage_walk config files first (at_ease p b)) (word ∷ words)
        (joined config files first (with_pending p (with_file word (said_by false words))))
    file-agrees p b is next = elim (settles config files first p) [
      | inl c ↦ subst (AgreesAt (stage_walk config files first (at_ease p b)) (word ∷ words))
          (sym (c.none (with_file word (said_by false words))))
          (stumbles (stage_walk config files first (at_ease p b)) word words
          (λ none. c.fault (sym (plain-turn (rows_at config files first) word p b is) ∙ none)))
      | inr s ↦ subst (AgreesAt (stage_walk config files first (at_ease p b)) (word ∷ words))
          (sym (s.same (with_file word (said_by false words))))
          (steps (stage_walk config files first (at_ease p b)) word words
          (stage_walk s.config' s.files' s.first' (at_ease (a_file word) true)) _
          (plain-turn (rows_at config files first) word p b is ∙ s.fault)
          (plain-walked (rows_at config files first) word p b is
          ∙ ap (λ (rows : List Row). walk_at rows (Some (FILES, word ∷ [])) positional false)
          s.rows)
          (next s.config' s.files' s.first' (at_ease (a_file word) true)))
    ]

    end-agrees : (p : Pending) (b : Bool) → IsEnd word
        → AgreesAt (stage_walk config files first (at_ease p b)) (word ∷ words)
        (joined config files first (with_pending p (Some (said_files words))))
    end-agrees p b is = steps (stage_walk config files first (at_ease p b)) word words
        (walk_at (rows_at config files first) (pending_of p) (free b) true) _
        (end-turn (rows_at config files first) word (pending_of p) b is)
        (end-walked (rows_at config files first) word (pending_of p) b is)
        (behind words config files first p (free b))

    named-agrees : (p : Pending) (b : Bool) (is : IsLong word) → bytes_eq CONFIG is.name ≡ true
        → is.value ≡ None → IsNext word words
        → AgreesAt (stage_walk config files first (at_ease p b)) (word ∷ words)
        (joined config files first (with_pending p (said_by true words)))
    named-agrees p b is named bare next = elim (settles config files first p) [
      | inl c ↦ subst (AgreesAt (stage_walk config files first (at_ease p b)) (word ∷ words))
          (sym (c.none (said_by true words)))
          (stumbles (stage_walk config files first (at_ease p b)) word words
          (λ none. c.fault (none-first _ _ (sym (named-turn (rows_at config files first) word
          (pending_of p) b is named bare) ∙ none))))
      | inr s ↦ subst (AgreesAt (stage_walk config files first (at_ease p b)) (word ∷ words))
          (sym (s.same (said_by true words)))
          (steps (stage_walk config files first (at_ease p b)) word words
          (stage_walk s.config' s.files' s.first' awaiting) _
          (named-turn (rows_at config files first) word (pending_of p) b is named bare
          ∙ ap (λ (k : Kinds). or_else k []) s.fault)
          (named-walked (rows_at config files first) word (pending_of p) b is named bare
          ∙ ap (λ (rows : List Row). walk_at rows due (option CONFIG) false) s.rows)
          (next s.config' s.files' s.first' awaiting))
    ]

    value-turn : (p : Pending) (b : Bool) (is : IsLong word) (v : Text)
        → bytes_eq CONFIG is.name ≡ true → is.value ≡ Some v
        → (config' : Option Text) (files' : List Text) (first' : Order)
        → settle_fault rules false (held_at config files first (pending_of p)) ≡ []
        → settled_rows rules (pending_of p) (rows_at config files first) ≡ rows_at config' files'
        first'
        → turn_fault top [] (stage_walk config files first (at_ease p b)) word
        ≡ or_else (use_fault false config_rule (v ∷ []) (rows_at config' files' first')) []
    value-turn p b is v named valued config' files' first' fault rows =
        valued-turn (rows_at config files first) word (pending_of p) b is v named valued
        ∙ ap (λ (k : Kinds). or_else (or_else k (use_fault false config_rule (v ∷ []) (settled_rows
        rules (pending_of p) (rows_at config files first)))) []) fault
        ∙ ap (λ (r : List Row). or_else (use_fault false config_rule (v ∷ []) r) []) rows

    -- once what was pending is settled
    value-settled : (p : Pending) (b : Bool) (is : IsLong word) (v : Text)
        → bytes_eq CONFIG is.name ≡ true → is.value ≡ Some v → IsNext word words
        → (config' : Option Text) (files' : List Text) (first' : Order)
        → settle_fault rules false (held_at config files first (pending_of p)) ≡ []
        → settled_rows rules (pending_of p) (rows_at config files first) ≡ rows_at config' files'
        first'
        → AgreesAt (stage_walk config files first (at_ease p b)) (word ∷ words)
        (joined config' files' first' (with_config v (said_by false words)))
    value-settled p b is v named valued next (Some c) files' first' fault rows =
        subst (AgreesAt (stage_walk config files first (at_ease p b)) (word ∷ words))
        (sym (joined-twice c files' first' v (said_by false words)))
        (stumbles (stage_walk config files first (at_ease p b)) word words (λ none.
        config-once c files' first' v (none-first _ _
        (sym (value-turn p b is v named valued (Some c) files' first' fault rows) ∙ none))))
    value-settled p b is v named valued next None files' first' fault rows =
        let now = config-used files' first' v in
        subst (AgreesAt (stage_walk config files first (at_ease p b)) (word ∷ words))
        (sym (joined-config files' first' v (said_by false words)
        ∙ joined-order (Some v) files' first' now.order (said_by false words) now.same))
        (steps (stage_walk config files first (at_ease p b)) word words
        (stage_walk (Some v) files' now.order (at_ease nothing false)) _
        (value-turn p b is v named valued None files' first' fault rows
        ∙ ap (λ (k : Kinds). or_else k []) (config-free files' first' v))
        (valued-walked (rows_at config files first) word (pending_of p) b is v named valued
        ∙ ap (λ (r : List Row). walk_at (used config_rule (v ∷ []) r) None idle false) rows
        ∙ ap (λ (r : List Row). walk_at r None idle false) now.rows)
        (next (Some v) files' now.order (at_ease nothing false)))

    value-agrees : (p : Pending) (b : Bool) (is : IsLong word) (v : Text)
        → bytes_eq CONFIG is.name ≡ true → is.value ≡ Some v → IsNext word words
        → AgreesAt (stage_walk config files first (at_ease p b)) (word ∷ words)
        (joined config files first (with_pending p (with_config v (said_by false words))))
    value-agrees p b is v named valued next = elim (settles config files first p) [
      | inl c ↦ subst (AgreesAt (stage_walk config files first (at_ease p b)) (word ∷ words))
          (sym (c.none (with_config v (said_by false words))))
          (stumbles (stage_walk config files first (at_ease p b)) word words
          (λ none. c.fault (none-first _ _ (none-first _ _
          (sym (valued-turn (rows_at config files first) word (pending_of p) b is v named valued)
          ∙ none)))))
      | inr s ↦ subst (AgreesAt (stage_walk config files first (at_ease p b)) (word ∷ words))
          (sym (s.same (with_config v (said_by false words))))
          (value-settled p b is v named valued next s.config' s.files' s.first' s.fault s.rows)
    ]

    flag-settled-turn : (p : Pending) (b : Bool) (is : IsLong word) → bytes_eq CONFIG is.name ≡ false
        → bytes_eq SUMMARY is.name ≡ true → is.value ≡ None
        → (config' : Option Text) (files' : List Text) (first' : Order)
        → settle_fault rules false (held_at config files first (pending_of p)) ≡ []
        → settled_rows rules (pending_of p) (rows_at config files first) ≡ rows_at config' files'
        first'
        → turn_fault top [] (stage_walk config files first (at_ease p b)) word
        ≡ or_else (use_fault false summary_rule [] (rows_at config' files' first')) []
    flag-settled-turn p b is other named bare config' files' first' fault rows =
        flag-turn (rows_at config files first) word (pending_of p) b is other named bare
        ∙ ap (λ (k : Kinds). or_else (or_else k (use_fault false summary_rule [] (settled_rows
        rules (pending_of p) (rows_at config files first)))) []) fault
        ∙ ap (λ (r : List Row). or_else (use_fault false summary_rule [] r) []) rows

    -- once what was pending is settled
    flag-settled : (p : Pending) (b : Bool) (is : IsLong word) → bytes_eq CONFIG is.name ≡ false
        → bytes_eq SUMMARY is.name ≡ true → is.value ≡ None → IsNext word words
        → (config' : Option Text) (files' : List Text) (first' : Order)
        → settle_fault rules false (held_at config files first (pending_of p)) ≡ []
        → settled_rows rules (pending_of p) (rows_at config files first) ≡ rows_at config' files'
        first'
        → AgreesAt (stage_walk config files first (at_ease p b)) (word ∷ words)
        (joined config' files' first' (with_summary (said_by false words)))
    flag-settled p b is other named bare next config' files' (flagged place t) fault rows =
        subst (AgreesAt (stage_walk config files first (at_ease p b)) (word ∷ words))
        (sym (joined-summary-twice config' files' place t (said_by false words)))
        (stumbles (stage_walk config files first (at_ease p b)) word words (λ none.
        summary-once config' files' place t (none-first _ _
        (sym (flag-settled-turn p b is other named bare config' files' (flagged place t) fault rows)
        ∙ none))))
    flag-settled p b is other named bare next config' files' (plain t) fault rows =
        subst (AgreesAt (stage_walk config files first (at_ease p b)) (word ∷ words))
        (sym (joined-summary config' files' back t (said_by false words)))
        (steps (stage_walk config files first (at_ease p b)) word words
        (stage_walk config' files' (flagged back t) (at_ease nothing false)) _
        (flag-settled-turn p b is other named bare config' files' (plain t) fault rows
        ∙ ap (λ (k : Kinds). or_else k []) (summary-free config' files' t))
        (flag-walked (rows_at config files first) word (pending_of p) b is other named bare
        ∙ ap (λ (r : List Row). walk_at (used summary_rule [] r) None idle false) rows
        ∙ ap (λ (r : List Row). walk_at r None idle false) (summary-used config' files' t))
        (next config' files' (flagged back t) (at_ease nothing false)))

    flag-agrees : (p : Pending) (b : Bool) (is : IsLong word) → bytes_eq CONFIG is.name ≡ false
        → bytes_eq SUMMARY is.name ≡ true → is.value ≡ None → IsNext word words
        → AgreesAt (stage_walk config files first (at_ease p b)) (word ∷ words)
        (joined config files first (with_pending p (with_summary (said_by false words))))
    flag-agrees p b is other named bare next = elim (settles config files first p) [
      | inl c ↦ subst (AgreesAt (stage_walk config files first (at_ease p b)) (word ∷ words))
          (sym (c.none (with_summary (said_by false words))))
          (stumbles (stage_walk config files first (at_ease p b)) word words
          (λ none. c.fault (none-first _ _ (none-first _ _
          (sym (flag-turn (rows_at config files first) word (pending_of p) b is other named bare)
          ∙ none)))))
      | inr s ↦ subst (AgreesAt (stage_walk config files first (at_ease p b)) (word ∷ words))
          (sym (s.same (with_summary (said_by false words))))
          (flag-settled p b is other named bare next s.config' s.files' s.first' s.fault s.rows)
    ]

    -- the word is no option's, or that of the configuration, or the flag
    long-agrees : (p : Pending) (b : Bool) (is : IsLong word) → IsNext word words
        → AgreesAt (stage_walk config files first (at_ease p b)) (word ∷ words)
        (joined config files first (with_pending p (by_kind (word_kind word) word words (said_by true
        words)
        (said_by false words))))
    long-agrees p b is next = rw (is.not_end, is.hyphened, is.kind) (go (bytes_eq CONFIG is.name)
        (bytes_eq SUMMARY is.name) is.value refl refl refl)
      where
        go : (t u : Bool) (value : Option Text) → bytes_eq CONFIG is.name ≡ t
            → bytes_eq SUMMARY is.name ≡ u → is.value ≡ value
            → AgreesAt (stage_walk config files first (at_ease p b)) (word ∷ words)
            (joined config files first (with_pending p (by_kind (if t then Config value
            else if u then summary_kind value else Unknown) word
            words (said_by true words) (said_by false words))))
        go false false value named flag valued = none-agrees p b (λ none.
            let same = unknown-turn (rows_at config files first) word (pending_of p) b is named flag in
            cc)
        go false true (Some v) named flag valued = none-agrees p b (λ none.
            let same = flag-valued-turn (rows_at config files first) word (pending_of p) b is v named
            flag valued in
            cc)
        go false true None named flag valued = flag-agrees p b is named flag valued next
        go true u (Some v) named flag valued = value-agrees p b is v named valued next
        go true u None named flag valued = named-agrees p b is named valued next

    ease-agrees : (p : Pending) (b : Bool) → Looks word → IsNext word words
        → AgreesAt (stage_walk config files first (at_ease p b)) (word ∷ words)
        (joined config files first (with_pending p (by_kind (word_kind word) word words (said_by true
        words)
        (said_by false words))))
    ease-agrees p b (inl is) next = rw is.is (end-agrees p b is)
    ease-agrees p b (inr (inl is)) next = rw (is.not_end, is.hyphened) (file-agrees p b is next)
    ease-agrees p b (inr (inr (inl is))) next = long-agrees p b is next
    ease-agrees p b (inr (inr (inr is))) next = rw (is.not_end, is.hyphened, is.kind) (none-agrees p
        b
        (λ none.
        let same = short-turn (rows_at config files first) word (pending_of p) b is in cc))

    none-due : AgreesAt (stage_walk config files first awaiting) (word ∷ words) None
        → AgreesAt (stage_walk config files first awaiting) (word ∷ words)
        (joined config files first None)
    none-due agrees = subst (AgreesAt (stage_walk config files first awaiting) (word ∷ words))
        (sym (with_flag-none (is_flagged first))) agrees

    due-agrees : Looks word → IsNext word words
        → AgreesAt (stage_walk config files first awaiting) (word ∷ words) (joined config files first
        (said_by true (word ∷ words)))
    due-agrees (inl is) next = rw is.hyphened
        (none-due (steps (stage_walk config files first awaiting) word words (walk_at (rows_at config files
        first) due (option CONFIG) true) None
        (due-end-turn (rows_at config files first) word is) (due-end-walked (rows_at config files
        first) word is)
        (due-behind words (rows_at config files first) (option CONFIG))))
    due-agrees (inr (inl is)) next = rw is.hyphened
        (steps (stage_walk config files first awaiting) word words (stage_walk config files first
        (at_ease (a_config word) false)) _
        (due-plain-turn (rows_at config files first) word is) (due-plain-walked (rows_at config
        files
        first) word is)
        (next config files first (at_ease (a_config word) false)))
    due-agrees (inr (inr (inl is))) next = rw is.hyphened
        (none-due (stumbles (stage_walk config files first awaiting) word words (due-long-turn (rows_at config
        files first) word is)))
    due-agrees (inr (inr (inr is))) next = rw is.hyphened
        (none-due (stumbles (stage_walk config files first awaiting) word words (due-short-turn (rows_at
        config
        files first) word is)))

agrees : (words : List Text) → AllByRecursion IsUtf8 words
    → (config : Option Text) (files : List Text) (first : Order) (at : Stage)
    → AgreesAt (stage_walk config files first at) words (joined config files first (said_at at words))
unfolding walk_fault
agrees [] texts config files first (at_ease p b) = ends config files first p (free b) false
agrees [] texts config files first awaiting =
    subst (AgreesAt (stage_walk config files first awaiting) []) (sym (with_flag-none (is_flagged first)))
    (λ none. cc)
agrees (word ∷ words) texts config files first (at_ease p b) =
    ease-agrees word words config files first p b (looks word texts.0) (λ c fs o at. agrees words
    texts.1 c fs o at)
agrees (word ∷ words) texts config files first awaiting =
    due-agrees word words config files first (looks word texts.0) (λ c fs o at. agrees words texts.1
    c fs o at)

joined-start : (a : Option Said) → joined None [] (plain true) a ≡ a
joined-start None = refl
joined-start (Some said) = refl

or-true : (b : Bool) → (b || true) ≡ true
or-true true = refl
or-true false = refl

or-nothing : (k : Kinds) → or_else k [] ≡ k
or-nothing [] = refl
or-nothing (x ∷ k) = refl

-- only the flag has a default
same-either : (t : Bool) (rows : List Row) → (if t then rows else rows) ≡ rows
same-either true rows = refl
same-either false rows = refl

config-default : (rows : List Row) → with_default rows config_rule ≡ rows
config-default rows = same-either (has_row CONFIG rows) rows

files-default : (rows : List Row) → with_default rows files_rule ≡ rows
files-default rows = same-either (has_row FILES rows) rows

summary-fault : (rows : List Row) → default_fault rows summary_rule ≡ []
summary-fault rows = go (has_row SUMMARY rows)
  where
    go : (t : Bool) → (if t || false then [] else given_default_fault summary_rule summary_rule.defaults) ≡ []
    go true = refl
    go false = refl

no-defaults : (rows : List Row) → defaults_fault rows rules ≡ []
unfolding defaults_fault
no-defaults rows = rw (
  or-true (has_row CONFIG rows),
  config-default rows,
  summary-fault rows,
  or-true (has_row FILES (with_defaults rows)),
) refl

finished-rows : (h : Held) → finished rules h ≡ with_defaults (settled rules h).rows
finished-rows h = ap (λ (rows : List Row). with_default (with_defaults rows) files_rule)
    (config-default (settled rules h).rows)
    ∙ files-default (with_defaults (settled rules h).rows)

no-more : (h : Held) (stop : Option (Text × List Text))
    → or_else (entered_fault (built command_app) stop) (or_else (settle_fault rules false h)
    (or_else (defaults_fault (settled rules h).rows rules) (check_fault top (finished rules h)
    (is_some (entered (built command_app) stop)))))
    ≡ settle_fault rules false h
no-more h None = rw no-defaults (or-nothing (settle_fault rules false h))
no-more h (Some p) = rw no-defaults (or-nothing (settle_fault rules false h))

-- the same of what is found at the end
abbrev pub Finds : Kinds → List Row → Option Said → Type 0
Finds kinds rows None = kinds ≡ [] → ⊥
Finds kinds rows (Some said) = (kinds ≡ []) × ((first : Order)
    × (is_flagged first ≡ said.summary)
    × (rows ≡ with_defaults (rows_at said.config said.files first)))

finds : (kinds : Kinds) (rows : List Row) (a : Option Said) → Agrees kinds rows a
    → Finds kinds (with_defaults rows) a
finds kinds rows None agrees = agrees
finds kinds rows (Some said) agrees =
    (agrees.0, (agrees.1.0, agrees.1.1, ap with_defaults agrees.1.2))

-- `clap` refuses the words that say nothing, and finds in the others what they say
pub words-agree : (words : List Text) → AllByRecursion IsUtf8 words
    → Finds (fault_of command_app words) (matches_of command_app words) (said_by false words)
words-agree words texts =
    let all = subst (AgreesAt (stage_walk None [] (plain true) (at_ease nothing false)) words) (joined-start
    (said_by false words))
    (agrees words texts None [] (plain true) (at_ease nothing false)) in
    let w = fold (walked rules []) (walk_from nothing_held) words in
    let kinds : fault_of command_app words ≡ kinds_at (walk_from nothing_held) words =
    ap (or_else (walk_fault top [] (walk_from nothing_held) words)) (no-more w.held w.stopped) in
    let rows : matches_of command_app words ≡ with_defaults (rows_end (walk_from nothing_held) words) = finished-rows
    w.held in
    subst (λ (k : Kinds). Finds k (matches_of command_app words) (said_by false words)) (sym kinds)
    (subst (λ (r : List Row). Finds (kinds_at (walk_from nothing_held) words) r (said_by false
    words)) (sym rows) (finds (kinds_at (walk_from nothing_held) words) (rows_end (walk_from nothing_held) words)
    (said_by false words) all))

-- ---- what the code's call says

pub texts-are : {Z : Type 0} (words : List (String Z))
    → AllByRecursion IsUtf8 (map string_bytes words)
texts-are [] = tt
texts-are (word ∷ words) = (IsUtf8-string_bytes word, texts-are words)

found-rows : (m : ArgMatches) (rows : List Row) → rows_of (found_of m) ≡ rows
    → found_in m ≡ record {
      config = first_of CONFIG rows;
      summary = is_set (one_of SUMMARY rows);
      files = unwrap_or (all_of FILES rows) [];
    }
found-rows m rows are = rw (
  first_value-rows (found_of m) CONFIG,
  one_text-rows (found_of m) SUMMARY,
  raw_values-rows (found_of m) FILES,
  are,
) refl

set-is : (flag : Bool) → is_set (Some (flag_text flag)) ≡ flag
set-is true = refl
set-is false = refl

rows-say : (said : Said) (first : Order) (rows : List Row) → is_flagged first ≡ said.summary
    → rows ≡ with_defaults (rows_at said.config said.files first)
    → record {
      config = first_of CONFIG rows;
      summary = is_set (one_of SUMMARY rows);
      files = unwrap_or (all_of FILES rows) [];
    } ≡ said
rows-say said first rows flag are = rw (
  are,
  rows_at-config said.config said.files first,
  rows_at-summary said.config said.files first,
  rows_at-files said.config said.files first,
  flag,
) (ap (λ (summary : Bool). record { config = said.config; summary = summary; files = said.files })
    (set-is said.summary))

-- the words that were taken say what was found
pub clap-found : (m : ArgMatches) (words : List Text) → AllByRecursion IsUtf8 words
    → rows_of (found_of m) ≡ matches_of command_app words → fault_of command_app words ≡ []
    → said_by false words ≡ Some (found_in m)
clap-found m words texts rows taken = go (said_by false words) (words-agree words texts)
  where
    go : (a : Option Said) → Finds (fault_of command_app words) (matches_of command_app words) a
        → a ≡ Some (found_in m)
    go None finds = absurd (finds taken)
    go (Some said) finds = ap (λ (s : Said). Some s)
        (sym (found-rows m (matches_of command_app words) rows
        ∙ rows-say said finds.1.0 (matches_of command_app words) finds.1.1 finds.1.2))

flag-is : (flag : Bool) → IsFlag (Some (flag_text flag))
flag-is true = inl refl
flag-is false = inr refl

-- and the flag that was found is one
pub clap-flag : (m : ArgMatches) (words : List Text) → AllByRecursion IsUtf8 words
    → rows_of (found_of m) ≡ matches_of command_app words → fault_of command_app words ≡ []
    → IsFlag (one_text (found_of m) SUMMARY)
clap-flag m words texts rows taken = go (said_by false words) (words-agree words texts)
  where
    go : (a : Option Said) → Finds (fault_of command_app words) (matches_of command_app words) a
        → IsFlag (one_text (found_of m) SUMMARY)
    go None finds = absurd (finds taken)
    go (Some said) finds =
        let is : one_text (found_of m) SUMMARY ≡ Some (flag_text (is_flagged finds.1.0)) =
        one_text-rows (found_of m) SUMMARY ∙ ap (one_of SUMMARY) (rows ∙ finds.1.2)
        ∙ rows_at-summary said.config said.files finds.1.0 in
        subst IsFlag (sym is) (flag-is (is_flagged finds.1.0))

not-among : (k : ErrorKind) (kinds : Kinds) → kinds ≡ [] → IsAmong k kinds → ⊥
not-among k [] none among = among
not-among k (x ∷ kinds) none among = cc

refused-cases : (k : ErrorKind) → (refused k ≡ NoMemory) ⊎ ((k ≡ OutOfMemory → ⊥)
    × (refused k ≡ Usage))
refused-cases OutOfMemory = inl refl
refused-cases k = inr ((λ is. cc), refl)

-- words that were refused say nothing, unless memory ran out
pub clap-refused : (words : List Text) (k : ErrorKind) → AllByRecursion IsUtf8 words
    → (k ≡ OutOfMemory) ⊎ IsAmong k (fault_of command_app words)
    → (refused k ≡ NoMemory) ⊎ ((refused k ≡ Usage) × (said_by false words ≡ None))
clap-refused words k texts kinds = go (refused-cases k) kinds (said_by false words) (words-agree
    words texts)
  where
    go : (refused k ≡ NoMemory) ⊎ ((k ≡ OutOfMemory → ⊥) × (refused k ≡ Usage))
        → (k ≡ OutOfMemory) ⊎ IsAmong k (fault_of command_app words)
        → (a : Option Said) → Finds (fault_of command_app words) (matches_of command_app words) a
        → (refused k ≡ NoMemory) ⊎ ((refused k ≡ Usage) × (a ≡ None))
    go (inl memory) kinds a agrees = inl memory
    go (inr other) (inl memory) a agrees = absurd (other.0 memory)
    go (inr other) (inr among) None agrees = inr (other.1, refl)
    go (inr other) (inr among) (Some said) agrees = absurd (not-among k (fault_of command_app words)
        agrees.0 among)

-- ---- the command by what the words say

-- the words say nothing, or memory ran out
pub asked-err : (asked : Said → Option Command) (r : Result WordCommand Status) (fault : Status) (said : Option Said) → r ≡ Err fault
    → (◌≡◌ {A = Result SaidWords Status} (Err fault) (Err NoMemory))
    ⊎ (◌≡◌ {A = Result Said Status} (Err fault) (ok_or said Usage))
    → (r ≡ Err NoMemory)
    ⊎ (result_map_both plain_command (λ s. s) r ≡ ok_or (option_and_then asked said) Usage)
asked-err asked r fault said is (inl memory) = inl (is
    ∙ ap (λ (s : Status). Err s) (fault-is fault NoMemory memory))
  where
    fault-is : (a b : Status) → ◌≡◌ {A = Result SaidWords Status} (Err a) (Err b) → a ≡ b
    fault-is a b same = cc
asked-err asked r fault None is (inr none) = inr (ap (result_map_both plain_command (λ s. s)) is
    ∙ ap (λ (s : Status). Err s) (fault-is fault Usage none))
  where
    fault-is : (a b : Status) → ◌≡◌ {A = Result Said Status} (Err a) (Err b) → a ≡ b
    fault-is a b same = cc
asked-err asked r fault (Some said) is (inr none) = absurd (never none)
  where
    never : ◌≡◌ {A = Result Said Status} (Err fault) (Ok said) → ⊥
    never same = cc

-- the words say this
pub asked-ok : (asked : Said → Option Command) (words : SaidWords) (said : Option Said) (r : Result Command Status)
    → (◌≡◌ {A = Result SaidWords Status} (Ok words) (Err NoMemory))
    ⊎ (◌≡◌ {A = Result Said Status} (Ok (plain_said words)) (ok_or said Usage))
    → r ≡ ok_or (asked (plain_said words)) Usage → r ≡ ok_or (option_and_then asked said) Usage
asked-ok asked words said r (inl memory) is = absurd (never memory)
  where
    never : ◌≡◌ {A = Result SaidWords Status} (Ok words) (Err NoMemory) → ⊥
    never same = cc
asked-ok asked words None r (inr none) is = absurd (never none)
  where
    never : ◌≡◌ {A = Result Said Status} (Ok (plain_said words)) (Err Usage) → ⊥
    never same = cc
asked-ok asked words (Some said) r (inr some) is =
    is ∙ ap (λ (s : Said). ok_or (asked s) Usage) (same (plain_said words) said some)
  where
    same : (a b : Said) → ◌≡◌ {A = Result Said Status} (Ok a) (Ok b) → a ≡ b
    same a b is = cc

-- what of a command is asked for, as the whole answers it
pub bulk-err : (o : Option Command) (s : Status)
    → (◌≡◌ {A = Result WordCommand Status} (Err s) (Err NoMemory))
    ⊎ (◌≡◌ {A = Result Command Status} (Err s) (ok_or o Usage))
    → (s ≡ NoMemory) ⊎ (◌≡◌ {A = Result Command Status} (Err s) (ok_or (bulk_in o) Usage))
bulk-err o s (inl memory) = inl cc
bulk-err None s (inr none) = inr none
bulk-err (Some command) s (inr none) = absurd (never none)
  where
    never : ◌≡◌ {A = Result Command Status} (Err s) (Ok command) → ⊥
    never same = cc

pub bulk-ok : (o : Option Command) (command : Command)
    → ◌≡◌ {A = Result Command Status} (Ok command) (ok_or o Usage)
    → ok_or (bulk_in (Some command)) Usage ≡ ok_or (bulk_in o) Usage
bulk-ok None command is = absurd (never is)
  where
    never : ◌≡◌ {A = Result Command Status} (Ok command) (Err Usage) → ⊥
    never same = cc
bulk-ok (Some made) command is = ap (λ (c : Command). ok_or (bulk_in (Some c)) Usage) (same is)
  where
    same : ◌≡◌ {A = Result Command Status} (Ok command) (Ok made) → command ≡ made
    same is = cc

-- ---- the files of a command

-- words of the number of a command's files are these where their names are
pub files-test : (words : List (Bor Text)) (n : ℕ) (names : Bool) → n ≡ length words
    → true ≡ is_file_count n → names ≡ list_all (λ word. is_name word.now) words
    → names ≡ are_files (map (λ s. s.now) words)
files-test words n names many counted named =
    named ∙ sym (list_all-map is_name (λ s. s.now) words)
    ∙ ap (λ (b : Bool). b && list_all is_name (map (λ s. s.now) words))
    (counted ∙ ap is_file_count (many ∙ sym (length-map words (λ s. s.now))))
