-- What `clap` makes of one word.
use Rattle.std.proofs.Common.{◌≡◌, ◌∙◌, ◌⊎◌, inl, inr, Bool, true, false, List, [], ◌∷◌, ◌++◌, Option, Some, None, refl, sym, ap, append_assoc}
use Rattle.std.specs.Prelude.{if◌then◌else◌, codes, is_some, slice_get, unwrap_or}
use Rattle.std.specs.Str.{bytes_eq}
use Rattle.pc_inputs.specs.Words.{CONFIG, FILES, SUMMARY, command_app}
use Rattle.clap.specs.Walk.{Held, Rule, Row, Text, Walk, Waiting, idle, positional, option, all_of, first_of, one_of, settled_rows, walked, used, with_default}
use Rattle.clap.specs.Simple.{Shape, built, new_rule, is_simple}
use Rattle.clap.specs.Faults.{is_simple_and_free, settle_fault, turn_fault, use_fault, flags_fault}
use Rattle.clap.specs.Kinds.{or_else}
use Rattle.clap.specs.declared.error.kind.ErrorKind.TheVariants.{InvalidValue, TooManyValues, UnknownArgument}
use Rattle.clap.specs.declared.builder.value_parser.Reading.TheVariants.{AsWritten}
use Rattle.clap.specs.declared.parser.matches.ValueSource.TheVariants.{CommandLine}
use Rattle.pc_inputs.specs.Command.{Said, with_config, with_file, with_summary}
use Rattle.pc_inputs.proofs.WordLooks.{IsEnd, IsLong, IsPlain, IsShort}

-- ---- the command of `clap`

pub app-simple : is_simple_and_free command_app ≡ true
app-simple = refl

pub app-is_simple : is_simple command_app ≡ true
app-is_simple = refl

abbrev pub top : Shape
top = (built command_app).top

abbrev pub rules : List Rule
rules = top.rules

abbrev pub config_rule : Rule
config_rule = unwrap_or (slice_get rules 0) (new_rule [])

abbrev pub summary_rule : Rule
summary_rule = unwrap_or (slice_get rules 1) (new_rule [])

abbrev pub files_rule : Rule
files_rule = unwrap_or (slice_get rules 2) (new_rule [])

-- ---- rows

abbrev pub row : Text → List Text → Row
row id values = record {
  id = id;
  values = values;
  count = None;
  source = Some CommandLine;
  reading
      = AsWritten;
}

-- the rows of a file of the configuration and other files, the one or the other first
abbrev pub file_rows : Option Text → List Text → Bool → List Row
file_rows None [] first = []
file_rows None (f ∷ fs) first = row FILES (f ∷ fs) ∷ []
file_rows (Some c) [] first = row CONFIG (c ∷ []) ∷ []
file_rows (Some c) (f ∷ fs) true = row CONFIG (c ∷ []) ∷ row FILES (f ∷ fs) ∷ []
file_rows (Some c) (f ∷ fs) false = row FILES (f ∷ fs) ∷ row CONFIG (c ∷ []) ∷ []

-- the row of the wish for the summary alone
abbrev pub summary_row : Row
summary_row = row SUMMARY (codes "true" ∷ [])

-- where it stands among the others
pub data Place : Type 0 where
  front : Place
  middle : Place
  back : Place

-- the text of a flag
abbrev pub flag_text : Bool → Text
flag_text true = codes "true"
flag_text false = codes "false"

abbrev pub with_row : Place → List Row → List Row
with_row front rows = summary_row ∷ rows
with_row middle [] = summary_row ∷ []
with_row middle (r ∷ rows) = r ∷ summary_row ∷ rows
with_row back rows = rows ++ summary_row ∷ []

-- the order of the rows, without that row or with it
pub data Order : Type 0 where
  plain : Bool → Order
  flagged : Place → Bool → Order

abbrev pub is_flagged : Order → Bool
is_flagged (plain first) = false
is_flagged (flagged place first) = true

abbrev pub rows_at : Option Text → List Text → Order → List Row
rows_at config files (plain first) = file_rows config files first
rows_at config files (flagged place first) = with_row place (file_rows config files first)

-- the rows at the end, where a flag that does not stand has its default
abbrev pub with_defaults : List Row → List Row
with_defaults rows = with_default rows summary_rule

pub rows_at-config : (c : Option Text) (fs : List Text) (o : Order)
    → first_of CONFIG (with_defaults (rows_at c fs o)) ≡ c
rows_at-config None [] (plain first) = refl
rows_at-config None [] (flagged front first) = refl
rows_at-config None [] (flagged middle first) = refl
rows_at-config None [] (flagged back first) = refl
rows_at-config None (f ∷ fs) (plain first) = refl
rows_at-config None (f ∷ fs) (flagged front first) = refl
rows_at-config None (f ∷ fs) (flagged middle first) = refl
rows_at-config None (f ∷ fs) (flagged back first) = refl
rows_at-config (Some c) [] (plain first) = refl
rows_at-config (Some c) [] (flagged front first) = refl
rows_at-config (Some c) [] (flagged middle first) = refl
rows_at-config (Some c) [] (flagged back first) = refl
rows_at-config (Some c) (f ∷ fs) (plain true) = refl
rows_at-config (Some c) (f ∷ fs) (flagged front true) = refl
rows_at-config (Some c) (f ∷ fs) (flagged middle true) = refl
rows_at-config (Some c) (f ∷ fs) (flagged back true) = refl
rows_at-config (Some c) (f ∷ fs) (plain false) = refl
rows_at-config (Some c) (f ∷ fs) (flagged front false) = refl
rows_at-config (Some c) (f ∷ fs) (flagged middle false) = refl
rows_at-config (Some c) (f ∷ fs) (flagged back false) = refl

pub rows_at-summary : (c : Option Text) (fs : List Text) (o : Order)
    → one_of SUMMARY (with_defaults (rows_at c fs o)) ≡ Some (flag_text (is_flagged o))
rows_at-summary None [] (plain first) = refl
rows_at-summary None [] (flagged front first) = refl
rows_at-summary None [] (flagged middle first) = refl
rows_at-summary None [] (flagged back first) = refl
rows_at-summary None (f ∷ fs) (plain first) = refl
rows_at-summary None (f ∷ fs) (flagged front first) = refl
rows_at-summary None (f ∷ fs) (flagged middle first) = refl
rows_at-summary None (f ∷ fs) (flagged back first) = refl
rows_at-summary (Some c) [] (plain first) = refl
rows_at-summary (Some c) [] (flagged front first) = refl
rows_at-summary (Some c) [] (flagged middle first) = refl
rows_at-summary (Some c) [] (flagged back first) = refl
rows_at-summary (Some c) (f ∷ fs) (plain true) = refl
rows_at-summary (Some c) (f ∷ fs) (flagged front true) = refl
rows_at-summary (Some c) (f ∷ fs) (flagged middle true) = refl
rows_at-summary (Some c) (f ∷ fs) (flagged back true) = refl
rows_at-summary (Some c) (f ∷ fs) (plain false) = refl
rows_at-summary (Some c) (f ∷ fs) (flagged front false) = refl
rows_at-summary (Some c) (f ∷ fs) (flagged middle false) = refl
rows_at-summary (Some c) (f ∷ fs) (flagged back false) = refl

pub rows_at-files : (c : Option Text) (fs : List Text) (o : Order)
    → unwrap_or (all_of FILES (with_defaults (rows_at c fs o))) [] ≡ fs
rows_at-files None [] (plain first) = refl
rows_at-files None [] (flagged front first) = refl
rows_at-files None [] (flagged middle first) = refl
rows_at-files None [] (flagged back first) = refl
rows_at-files None (f ∷ fs) (plain first) = refl
rows_at-files None (f ∷ fs) (flagged front first) = refl
rows_at-files None (f ∷ fs) (flagged middle first) = refl
rows_at-files None (f ∷ fs) (flagged back first) = refl
rows_at-files (Some c) [] (plain first) = refl
rows_at-files (Some c) [] (flagged front first) = refl
rows_at-files (Some c) [] (flagged middle first) = refl
rows_at-files (Some c) [] (flagged back first) = refl
rows_at-files (Some c) (f ∷ fs) (plain true) = refl
rows_at-files (Some c) (f ∷ fs) (flagged front true) = refl
rows_at-files (Some c) (f ∷ fs) (flagged middle true) = refl
rows_at-files (Some c) (f ∷ fs) (flagged back true) = refl
rows_at-files (Some c) (f ∷ fs) (plain false) = refl
rows_at-files (Some c) (f ∷ fs) (flagged front false) = refl
rows_at-files (Some c) (f ∷ fs) (flagged middle false) = refl
rows_at-files (Some c) (f ∷ fs) (flagged back false) = refl

-- one use more, which leaves the flag as it is
pub record KeepsFlag (now : List Row) (c : Option Text) (fs : List Text) (o : Order) : Type 0 where
  pub order : Order
  pub same : is_flagged order ≡ is_flagged o
  pub rows : now ≡ rows_at c fs order

pub file-used : (c : Option Text) (fs : List Text) (o : Order) (v : Text)
    → KeepsFlag (used files_rule (v ∷ []) (rows_at c fs o)) c (fs ++ v ∷ []) o
file-used None [] (plain first) v = record { order = plain true; same = refl; rows = refl }
file-used None [] (flagged front first) v = record { order = flagged front true; same = refl; rows = refl }
file-used None [] (flagged middle first) v = record { order = flagged front true; same = refl; rows = refl }
file-used None [] (flagged back first) v = record { order = flagged front true; same = refl; rows = refl }
file-used None (f ∷ fs) (plain first) v = record { order = plain true; same = refl; rows = refl }
file-used None (f ∷ fs) (flagged front first) v = record { order = flagged front true; same = refl; rows = refl }
file-used None (f ∷ fs) (flagged middle first) v = record { order = flagged middle true; same = refl; rows = refl }
file-used None (f ∷ fs) (flagged back first) v = record { order = flagged back true; same = refl; rows = refl }
file-used (Some c) [] (plain first) v = record { order = plain true; same = refl; rows = refl }
file-used (Some c) [] (flagged front first) v = record { order = flagged front true; same = refl; rows = refl }
file-used (Some c) [] (flagged middle first) v = record { order = flagged middle true; same = refl; rows = refl }
file-used (Some c) [] (flagged back first) v = record { order = flagged middle true; same = refl; rows = refl }
file-used (Some c) (f ∷ fs) (plain true) v = record { order = plain true; same = refl; rows = refl }
file-used (Some c) (f ∷ fs) (flagged front true) v = record { order = flagged front true; same = refl; rows = refl }
file-used (Some c) (f ∷ fs) (flagged middle true) v = record { order = flagged middle true; same = refl; rows = refl }
file-used (Some c) (f ∷ fs) (flagged back true) v = record { order = flagged back true; same = refl; rows = refl }
file-used (Some c) (f ∷ fs) (plain false) v = record { order = plain false; same = refl; rows = refl }
file-used (Some c) (f ∷ fs) (flagged front false) v = record { order = flagged front false; same = refl; rows = refl }
file-used (Some c) (f ∷ fs) (flagged middle false) v = record { order = flagged middle false; same = refl; rows = refl }
file-used (Some c) (f ∷ fs) (flagged back false) v = record { order = flagged back false; same = refl; rows = refl }

pub config-used : (fs : List Text) (o : Order) (v : Text)
    → KeepsFlag (used config_rule (v ∷ []) (rows_at None fs o)) (Some v) fs o
config-used [] (plain first) v = record { order = plain true; same = refl; rows = refl }
config-used [] (flagged front first) v = record { order = flagged front true; same = refl; rows = refl }
config-used [] (flagged middle first) v = record { order = flagged front true; same = refl; rows = refl }
config-used [] (flagged back first) v = record { order = flagged front true; same = refl; rows = refl }
config-used (f ∷ fs) (plain first) v = record { order = plain false; same = refl; rows = refl }
config-used (f ∷ fs) (flagged front first) v = record { order = flagged front false; same = refl; rows = refl }
config-used (f ∷ fs) (flagged middle first) v = record { order = flagged middle false; same = refl; rows = refl }
config-used (f ∷ fs) (flagged back first) v = record { order = flagged middle false; same = refl; rows = refl }

pub config-once : (c : Text) (fs : List Text) (o : Order) (v : Text)
    → use_fault false config_rule (v ∷ []) (rows_at (Some c) fs o) ≡ [] → ⊥
config-once c [] (plain first) v is = cc
config-once c [] (flagged front first) v is = cc
config-once c [] (flagged middle first) v is = cc
config-once c [] (flagged back first) v is = cc
config-once c (f ∷ fs) (plain true) v is = cc
config-once c (f ∷ fs) (flagged front true) v is = cc
config-once c (f ∷ fs) (flagged middle true) v is = cc
config-once c (f ∷ fs) (flagged back true) v is = cc
config-once c (f ∷ fs) (plain false) v is = cc
config-once c (f ∷ fs) (flagged front false) v is = cc
config-once c (f ∷ fs) (flagged middle false) v is = cc
config-once c (f ∷ fs) (flagged back false) v is = cc

pub config-free : (fs : List Text) (o : Order) (v : Text)
    → use_fault false config_rule (v ∷ []) (rows_at None fs o) ≡ []
config-free [] (plain first) v = refl
config-free [] (flagged front first) v = refl
config-free [] (flagged middle first) v = refl
config-free [] (flagged back first) v = refl
config-free (f ∷ fs) (plain first) v = refl
config-free (f ∷ fs) (flagged front first) v = refl
config-free (f ∷ fs) (flagged middle first) v = refl
config-free (f ∷ fs) (flagged back first) v = refl

-- the flag
pub summary-used : (c : Option Text) (fs : List Text) (first : Bool)
    → used summary_rule [] (rows_at c fs (plain first)) ≡ rows_at c fs (flagged back first)
summary-used None [] first = refl
summary-used None (f ∷ fs) first = refl
summary-used (Some c) [] first = refl
summary-used (Some c) (f ∷ fs) true = refl
summary-used (Some c) (f ∷ fs) false = refl

pub summary-free : (c : Option Text) (fs : List Text) (first : Bool)
    → use_fault false summary_rule [] (rows_at c fs (plain first)) ≡ []
summary-free None [] first = refl
summary-free None (f ∷ fs) first = refl
summary-free (Some c) [] first = refl
summary-free (Some c) (f ∷ fs) true = refl
summary-free (Some c) (f ∷ fs) false = refl

pub summary-once : (c : Option Text) (fs : List Text) (place : Place) (first : Bool)
    → use_fault false summary_rule [] (rows_at c fs (flagged place first)) ≡ [] → ⊥
summary-once None [] front first is = cc
summary-once None [] middle first is = cc
summary-once None [] back first is = cc
summary-once None (f ∷ fs) front first is = cc
summary-once None (f ∷ fs) middle first is = cc
summary-once None (f ∷ fs) back first is = cc
summary-once (Some c) [] front first is = cc
summary-once (Some c) [] middle first is = cc
summary-once (Some c) [] back first is = cc
summary-once (Some c) (f ∷ fs) front true is = cc
summary-once (Some c) (f ∷ fs) middle true is = cc
summary-once (Some c) (f ∷ fs) back true is = cc
summary-once (Some c) (f ∷ fs) front false is = cc
summary-once (Some c) (f ∷ fs) middle false is = cc
summary-once (Some c) (f ∷ fs) back false is = cc

-- ---- what is pending

-- an argument that has its value, and is not used yet
pub data Pending : Type 0 where
  nothing : Pending
  a_file : Text → Pending
  a_config : Text → Pending

abbrev pub pending_of : Pending → Option (Text × List Text)
pending_of nothing = None
pending_of (a_file v) = Some (FILES, v ∷ [])
pending_of (a_config v) = Some (CONFIG, v ∷ [])

abbrev pub with_pending : Pending → Option Said → Option Said
with_pending nothing said = said
with_pending (a_file v) said = with_file v said
with_pending (a_config v) said = with_config v said

-- the files that were said before, and what the words behind them say
abbrev pub joined_files : Option Text → List Text → Option Said → Option Said
joined_files config files None = None
joined_files None files (Some said) = Some (record said { files = files ++ said.files })
joined_files (Some c) files (Some said) = if is_some said.config then None
    else Some (record { config = Some c; summary = said.summary; files = files ++ said.files })

abbrev pub with_flag : Bool → Option Said → Option Said
with_flag true said = with_summary said
with_flag false said = said

-- what was said before, and what the words behind it say
abbrev pub joined : Option Text → List Text → Order → Option Said → Option Said
joined config files o a = with_flag (is_flagged o) (joined_files config files a)

pub with_flag-none : (flag : Bool) → with_flag flag None ≡ None
with_flag-none true = refl
with_flag-none false = refl

abbrev pub held_at : Option Text → List Text → Order → Option (Text × List Text) → Held
held_at config files o pending =
    record { rows = rows_at config files o; pending = pending; skip = 0 }

pub record CannotSettle (config : Option Text) (files : List Text) (o : Order) (p : Pending)
    : Type 0 where
  pub fault : settle_fault rules false (held_at config files o (pending_of p)) ≡ [] → ⊥
  pub none : (a : Option Said) → joined config files o (with_pending p a) ≡ None

pub record SettlesTo (config : Option Text) (files : List Text) (o : Order) (p : Pending)
    : Type 0 where
  pub config' : Option Text
  pub files' : List Text
  pub first' : Order
  pub fault : settle_fault rules false (held_at config files o (pending_of p)) ≡ []
  pub rows : settled_rows rules (pending_of p) (rows_at config files o)
      ≡ rows_at config' files' first'
  pub same : (a : Option Said) → joined config files o (with_pending p a) ≡ joined config' files' first' a

joined_files-file : (config : Option Text) (files : List Text) (v : Text) (a : Option Said)
    → joined_files config files (with_file v a) ≡ joined_files config (files ++ v ∷ []) a
joined_files-file config files v None = refl
joined_files-file None files v (Some said) =
    ap (λ (fs : List Text). Some (record said { files = fs }))
    (sym (append_assoc files (v ∷ []) said.files))
joined_files-file (Some c) files v (Some said) =
    ap (λ (fs : List Text). if is_some said.config then None else Some (record {
      config = Some c;
      summary = said.summary;
      files = fs;
    }))
    (sym (append_assoc files (v ∷ []) said.files))

joined_files-config : (files : List Text) (v : Text) (a : Option Said)
    → joined_files None files (with_config v a) ≡ joined_files (Some v) files a
joined_files-config files v None = refl
joined_files-config files v (Some said) = go said.config
  where
    go : (config : Option Text)
        → joined_files None files (with_config v (Some (record said { config = config })))
        ≡ joined_files (Some v) files (Some (record said { config = config }))
    go None = refl
    go (Some c) = refl

joined_files-twice : (c : Text) (files : List Text) (v : Text) (a : Option Said)
    → joined_files (Some c) files (with_config v a) ≡ None
joined_files-twice c files v None = refl
joined_files-twice c files v (Some said) = go said.config
  where
    go : (config : Option Text)
        → joined_files (Some c) files (with_config v (Some (record said { config = config }))) ≡ None
    go None = refl
    go (Some c) = refl

pub joined-config : (files : List Text) (o : Order) (v : Text) (a : Option Said)
    → joined None files o (with_config v a) ≡ joined (Some v) files o a
joined-config files o v a = ap (with_flag (is_flagged o)) (joined_files-config files v a)

pub joined-twice : (c : Text) (files : List Text) (o : Order) (v : Text) (a : Option Said)
    → joined (Some c) files o (with_config v a) ≡ None
joined-twice c files o v a =
    ap (with_flag (is_flagged o)) (joined_files-twice c files v a) ∙ with_flag-none (is_flagged o)

-- the same with another order
pub joined-order : (config : Option Text) (files : List Text) (o first' : Order) (a : Option Said)
    → is_flagged first' ≡ is_flagged o → joined config files o a ≡ joined config files first' a
joined-order config files o first' a same =
    ap (λ (flag : Bool). with_flag flag (joined_files config files a)) (sym same)

-- the flag is said
pub joined-summary : (config : Option Text) (files : List Text) (place : Place) (first : Bool) (a : Option Said)
    → joined config files (plain first) (with_summary a) ≡ joined config files (flagged place first) a
joined-summary None files place first None = refl
joined-summary (Some c) files place first None = refl
joined-summary None files place first (Some said) = go said.summary
  where
    go : (summary : Bool)
        → joined_files None files (with_summary (Some (record said { summary = summary })))
        ≡ with_summary (joined_files None files (Some (record said { summary = summary })))
    go true = refl
    go false = refl
joined-summary (Some c) files place first (Some said) = go said.summary said.config
  where
    go : (summary : Bool) (config : Option Text)
        → joined_files (Some c) files (with_summary (Some (record said { config = config; summary = summary })))
        ≡ with_summary (joined_files (Some c) files (Some (record said { config = config; summary = summary })))
    go true None = refl
    go true (Some d) = refl
    go false None = refl
    go false (Some d) = refl

-- and said twice
pub joined-summary-twice : (config : Option Text) (files : List Text) (place : Place) (first : Bool) (a : Option Said)
    → joined config files (flagged place first) (with_summary a) ≡ None
joined-summary-twice None files place first None = refl
joined-summary-twice (Some c) files place first None = refl
joined-summary-twice None files place first (Some said) = go said.summary
  where
    go : (summary : Bool)
        → with_summary (joined_files None files (with_summary (Some (record said { summary = summary }))))
        ≡ None
    go true = refl
    go false = refl
joined-summary-twice (Some c) files place first (Some said) = go said.summary said.config
  where
    go : (summary : Bool) (config : Option Text)
        → with_summary (joined_files (Some c) files (with_summary (Some (record said { config = config; summary = summary }))))
        ≡ None
    go true None = refl
    go true (Some d) = refl
    go false None = refl
    go false (Some d) = refl

pub settles : (config : Option Text) (files : List Text) (o : Order) (p : Pending)
    → CannotSettle config files o p ⊎ SettlesTo config files o p
settles config files o nothing = inr (record {
  config' = config;
  files' = files;
  first' = o;
  fault = refl;
  rows = refl;
  same = λ a. refl;
})
settles config files o (a_file v) =
    let now = file-used config files o v in
    inr (record {
      config' = config;
      files' = files ++ v ∷ [];
      first' = now.order;
      fault = refl;
      rows = now.rows;
      same = λ a. ap (with_flag (is_flagged o)) (joined_files-file config files v a)
          ∙ joined-order config (files ++ v ∷ []) o now.order a now.same;
    })
settles None files o (a_config v) =
    let now = config-used files o v in
    inr (record {
      config' = Some v;
      files' = files;
      first' = now.order;
      fault = config-free files o v;
      rows = now.rows;
      same = λ a. joined-config files o v a ∙ joined-order (Some v) files o now.order a now.same;
    })
settles (Some c) files o (a_config v) = inl (record {
  fault = config-once c files o v;
  none = joined-twice c files o v;
})

-- ---- one word of the walk

abbrev pub walk_at : List Row → Option (Text × List Text) → Waiting → Bool → Walk
walk_at rows pending waiting is_trailing = record {
  held = record { rows = rows; pending = pending; skip = 0 };
  waiting = waiting;
  position = 1;
  is_trailing = is_trailing;
  stopped = None;
}

-- nothing waits for a value, or the files do
abbrev pub free : Bool → Waiting
free true = positional
free false = idle

abbrev pub due : Option (Text × List Text)
due = Some (CONFIG, [])

module _ (rows : List Row) (word : Text) where
  pub plain-turn : (p : Pending) (b : Bool) → IsPlain word
      → turn_fault top [] (walk_at rows (pending_of p) (free b) false) word ≡ settle_fault rules
      false (record { rows = rows; pending = pending_of p; skip = 0 })
  plain-turn nothing true is = rw (is.not_end, is.long, is.short) refl
  plain-turn nothing false is = rw (is.not_end, is.long, is.short) refl
  plain-turn (a_file v) true is = rw (is.not_end, is.long, is.short) refl
  plain-turn (a_file v) false is = rw (is.not_end, is.long, is.short) refl
  plain-turn (a_config v) true is = rw (is.not_end, is.long, is.short) refl
  plain-turn (a_config v) false is = rw (is.not_end, is.long, is.short) refl

  pub plain-walked : (p : Pending) (b : Bool) → IsPlain word
      → walked rules [] (walk_at rows (pending_of p) (free b) false) word ≡ walk_at (settled_rows
      rules (pending_of p) rows) (Some (FILES, word ∷ [])) positional false
  unfolding walked
  plain-walked nothing true is = rw (is.not_end, is.long, is.short) refl
  plain-walked nothing false is = rw (is.not_end, is.long, is.short) refl
  plain-walked (a_file v) true is = rw (is.not_end, is.long, is.short) refl
  plain-walked (a_file v) false is = rw (is.not_end, is.long, is.short) refl
  plain-walked (a_config v) true is = rw (is.not_end, is.long, is.short) refl
  plain-walked (a_config v) false is = rw (is.not_end, is.long, is.short) refl

  pub end-turn : (pending : Option (Text × List Text)) (b : Bool) → IsEnd word
      → turn_fault top [] (walk_at rows pending (free b) false) word ≡ []
  end-turn pending true is = rw is.is refl
  end-turn pending false is = rw is.is refl

  pub end-walked : (pending : Option (Text × List Text)) (b : Bool) → IsEnd word
      → walked rules [] (walk_at rows pending (free b) false) word ≡ walk_at rows pending (free b)
      true
  unfolding walked
  end-walked pending true is = rw is.is refl
  end-walked pending false is = rw is.is refl

  pub unknown-turn : (pending : Option (Text × List Text)) (b : Bool) (is : IsLong word)
      → bytes_eq CONFIG is.name ≡ false → bytes_eq SUMMARY is.name ≡ false
      → turn_fault top [] (walk_at rows pending (free b) false) word ≡ UnknownArgument ∷ []
  unknown-turn pending true is other another = rw (is.not_end, is.long, other, another) refl
  unknown-turn pending false is other another = rw (is.not_end, is.long, other, another) refl

  -- the flag, and the flag with a value
  pub flag-turn : (pending : Option (Text × List Text)) (b : Bool) (is : IsLong word)
      → bytes_eq CONFIG is.name ≡ false → bytes_eq SUMMARY is.name ≡ true → is.value ≡ None
      → turn_fault top [] (walk_at rows pending (free b) false) word
      ≡ or_else (or_else (settle_fault rules false (record { rows = rows; pending = pending; skip = 0 }))
      (use_fault false summary_rule [] (settled_rows rules pending rows))) []
  flag-turn pending true is other named bare = rw (is.not_end, is.long, other, named, bare) refl
  flag-turn pending false is other named bare = rw (is.not_end, is.long, other, named, bare) refl

  pub flag-walked : (pending : Option (Text × List Text)) (b : Bool) (is : IsLong word)
      → bytes_eq CONFIG is.name ≡ false → bytes_eq SUMMARY is.name ≡ true → is.value ≡ None
      → walked rules [] (walk_at rows pending (free b) false) word
      ≡ walk_at (used summary_rule [] (settled_rows rules pending rows)) None idle false
  unfolding walked
  flag-walked pending true is other named bare = rw (is.not_end, is.long, other, named, bare) refl
  flag-walked pending false is other named bare = rw (is.not_end, is.long, other, named, bare) refl

  pub flag-valued-turn : (pending : Option (Text × List Text)) (b : Bool) (is : IsLong word) (v : Text)
      → bytes_eq CONFIG is.name ≡ false → bytes_eq SUMMARY is.name ≡ true → is.value ≡ Some v
      → turn_fault top [] (walk_at rows pending (free b) false) word ≡ TooManyValues ∷ []
  flag-valued-turn pending true is v other named valued = rw (is.not_end, is.long, other, named, valued) refl
  flag-valued-turn pending false is v other named valued = rw (is.not_end, is.long, other, named, valued) refl

  pub short-turn : (pending : Option (Text × List Text)) (b : Bool) (is : IsShort word)
      → turn_fault top [] (walk_at rows pending (free b) false) word ≡ UnknownArgument ∷ []
  unfolding flags_fault
  short-turn pending true is = rw (is.not_end, is.long, is.short, is.long_enough, is.first) refl
  short-turn pending false is = rw (is.not_end, is.long, is.short, is.long_enough, is.first) refl

  pub valued-turn : (pending : Option (Text × List Text)) (b : Bool) (is : IsLong word) (v : Text)
      → bytes_eq CONFIG is.name ≡ true → is.value ≡ Some v
      → turn_fault top [] (walk_at rows pending (free b) false) word
      ≡ or_else (or_else (settle_fault rules false (record {
        rows = rows;
        pending = pending;
        skip =
            0;
      }))
      (use_fault false config_rule (v ∷ []) (settled_rows rules pending rows))) []
  valued-turn pending true is v named valued = rw (is.not_end, is.long, named, valued) refl
  valued-turn pending false is v named valued = rw (is.not_end, is.long, named, valued) refl

  pub valued-walked : (pending : Option (Text × List Text)) (b : Bool) (is : IsLong word) (v : Text)
      → bytes_eq CONFIG is.name ≡ true → is.value ≡ Some v
      → walked rules [] (walk_at rows pending (free b) false) word
      ≡ walk_at (used config_rule (v ∷ []) (settled_rows rules pending rows)) None idle false
  unfolding walked
  valued-walked pending true is v named valued = rw (is.not_end, is.long, named, valued) refl
  valued-walked pending false is v named valued = rw (is.not_end, is.long, named, valued) refl

  pub named-turn : (pending : Option (Text × List Text)) (b : Bool) (is : IsLong word)
      → bytes_eq CONFIG is.name ≡ true → is.value ≡ None
      → turn_fault top [] (walk_at rows pending (free b) false) word
      ≡ or_else (settle_fault rules false (record { rows = rows; pending = pending; skip = 0 })) []
  named-turn pending true is named bare = rw (is.not_end, is.long, named, bare) refl
  named-turn pending false is named bare = rw (is.not_end, is.long, named, bare) refl

  pub named-walked : (pending : Option (Text × List Text)) (b : Bool) (is : IsLong word)
      → bytes_eq CONFIG is.name ≡ true → is.value ≡ None
      → walked rules [] (walk_at rows pending (free b) false) word
      ≡ walk_at (settled_rows rules pending rows) due (option CONFIG) false
  unfolding walked
  named-walked pending true is named bare = rw (is.not_end, is.long, named, bare) refl
  named-walked pending false is named bare = rw (is.not_end, is.long, named, bare) refl

  -- where the file of the configuration is due
  pub due-plain-turn : IsPlain word → turn_fault top [] (walk_at rows due (option CONFIG) false)
      word ≡
      []
  due-plain-turn is = rw (is.not_end, is.long, is.short) refl

  pub due-plain-walked : IsPlain word
      → walked rules [] (walk_at rows due (option CONFIG) false) word ≡ walk_at rows (Some (
        CONFIG,
        word ∷ [],
      )) idle false
  unfolding walked
  due-plain-walked is = rw (is.not_end, is.long, is.short) refl

  pub due-end-turn : IsEnd word → turn_fault top [] (walk_at rows due (option CONFIG) false) word ≡
      []
  due-end-turn is = rw is.is refl

  pub due-end-walked : IsEnd word
      → walked rules [] (walk_at rows due (option CONFIG) false) word ≡ walk_at rows due (option
      CONFIG) true
  unfolding walked
  due-end-walked is = rw is.is refl

  pub due-long-turn : IsLong word → turn_fault top [] (walk_at rows due (option CONFIG) false) word
      ≡ []
      → ⊥
  due-long-turn is none = go (bytes_eq CONFIG is.name) (bytes_eq SUMMARY is.name) is.value refl refl refl none
    where
      go : (t u : Bool) (v : Option Text) → bytes_eq CONFIG is.name ≡ t → bytes_eq SUMMARY is.name ≡ u
          → is.value ≡ v → turn_fault top [] (walk_at rows due (option CONFIG) false) word ≡ [] → ⊥
      go false false v named flag valued none =
          let same : turn_fault top [] (walk_at rows due (option CONFIG) false) word ≡
          UnknownArgument ∷ [] = rw (is.not_end, is.long, named, flag) refl in
          cc
      go false true (Some v) named flag valued none =
          let same : turn_fault top [] (walk_at rows due (option CONFIG) false) word ≡ TooManyValues
          ∷ [] = rw (is.not_end, is.long, named, flag, valued) refl in
          cc
      go false true None named flag valued none =
          let same : turn_fault top [] (walk_at rows due (option CONFIG) false) word ≡ InvalidValue
          ∷ [] = rw (is.not_end, is.long, named, flag, valued) refl in
          cc
      go true u (Some v) named flag valued none =
          let same : turn_fault top [] (walk_at rows due (option CONFIG) false) word ≡ InvalidValue
          ∷ [] = rw (is.not_end, is.long, named, valued) refl in
          cc
      go true u None named flag valued none =
          let same : turn_fault top [] (walk_at rows due (option CONFIG) false) word ≡ InvalidValue
          ∷ [] = rw (is.not_end, is.long, named, valued) refl in
          cc

  pub due-short-turn : IsShort word → turn_fault top [] (walk_at rows due (option CONFIG) false)
      word ≡
      [] → ⊥
  unfolding flags_fault
  due-short-turn is none =
      let same : turn_fault top [] (walk_at rows due (option CONFIG) false) word ≡ UnknownArgument ∷
      [] =
      rw (is.not_end, is.long, is.short, is.long_enough, is.first) refl in
      cc

  -- after `--`
  pub behind-turn : (p : Pending) (waiting : Waiting)
      → turn_fault top [] (walk_at rows (pending_of p) waiting true) word ≡ settle_fault rules false
      (record { rows = rows; pending = pending_of p; skip = 0 })
  behind-turn nothing waiting = refl
  behind-turn (a_file v) waiting = refl
  behind-turn (a_config v) waiting = refl

  pub behind-walked : (p : Pending) (waiting : Waiting)
      → walked rules [] (walk_at rows (pending_of p) waiting true) word ≡ walk_at (settled_rows
      rules (pending_of p) rows) (Some (FILES, word ∷ [])) positional true
  unfolding walked
  behind-walked nothing waiting = refl
  behind-walked (a_file v) waiting = refl
  behind-walked (a_config v) waiting = refl

  pub due-behind-turn : (waiting : Waiting) → turn_fault top [] (walk_at rows due waiting true) word
      ≡
      [] → ⊥
  due-behind-turn waiting none = cc
