-- The command that words make.
use Rattle.std.specs.Prelude.{ℕ, ◌+◌, ◌-◌, ◌==◌, Bool, true, false, not, nat_le, ◌&&◌, List, [], ◌∷◌, length, take, slice_index_or, Option, Some, None, is_some, option_and_then, option_map, ◌||◌, if◌then◌else◌, codes}
use Rattle.std.specs.List.{after_first, before_first, list_all, list_any}
use Rattle.std.specs.Option.{option_map_or}
use Rattle.std.specs.Str.{bytes_eq}
use Rattle.pc_model.specs.declared.limits.TheConstants.{MAX_PARTS, MAX_RECORDS, MAX_WORKERS}
use Rattle.pc_lines.specs.Decimal.{number_of}

-- ---- one word

-- what a word is, where options may still come
pub data WordKind : Type 0 where
  -- `--`: the words after it are files, whatever they look like
  EndOfOptions : WordKind
  -- `--config`, and the file that it names in the form `--config=FILE`
  Config : Option (List ℕ) → WordKind
  -- `--summary`
  Summary : WordKind
  File : WordKind
  -- no option has this name
  Unknown : WordKind

-- a word that begins with a hyphen and is more than that hyphen
abbrev pub is_hyphened : List ℕ → Bool
is_hyphened [] = false
is_hyphened (first ∷ []) = false
is_hyphened (first ∷ second ∷ rest) = first == 45

-- what stands in a word before its first `=`, and what stands after it, if it has one
abbrev pub option_name : List ℕ → List ℕ
option_name = before_first (λ b. b == 61)

abbrev pub option_value : List ℕ → Option (List ℕ)
option_value word = if list_any (λ b. b == 61) word then Some (after_first (λ b. b == 61) word)
    else None

-- `--summary` takes no value
abbrev pub summary_kind : Option (List ℕ) → WordKind
summary_kind None = Summary
summary_kind (Some value) = Unknown

abbrev pub option_kind : List ℕ → WordKind
option_kind word = if bytes_eq (codes "--config") (option_name word)
    then Config (option_value word)
    else if bytes_eq (codes "--summary") (option_name word)
    then summary_kind (option_value word) else Unknown

abbrev pub word_kind : List ℕ → WordKind
word_kind word = if bytes_eq word (codes "--") then EndOfOptions
    else if is_hyphened word then option_kind word else File

-- ---- all words

-- what words say: the file of the configuration, if one is named, whether only the summary is
-- wanted, and the other files
pub record Said : Type 0 where
  pub config : Option (List ℕ)
  pub summary : Bool
  pub files : List (List ℕ)

-- words that are all files
abbrev pub said_files : List (List ℕ) → Said
said_files words = record { config = None; summary = false; files = words }

-- one file more, in front of the others
abbrev pub with_file : List ℕ → Option Said → Option Said
with_file name None = None
with_file name (Some said) = Some (record said { files = name ∷ said.files })

-- the file of the configuration, which is named once
abbrev pub with_config : List ℕ → Option Said → Option Said
with_config name None = None
with_config name (Some said) = if is_some said.config then None
    else Some (record said { config = Some name })

-- the wish for the summary alone, which is said once
abbrev pub with_summary : Option Said → Option Said
with_summary None = None
with_summary (Some said) = if said.summary then None else Some (record said { summary = true })

-- the word in front of others, by what these say if a file of the configuration is due, and if
-- none is
abbrev pub by_kind : WordKind → List ℕ → List (List ℕ) → Option Said → Option Said → Option Said
by_kind EndOfOptions word words due others = Some (said_files words)
by_kind (Config None) word words due others = due
by_kind (Config (Some name)) word words due others = with_config name others
by_kind Summary word words due others = with_summary others
by_kind File word words due others = with_file word others
by_kind Unknown word words due others = None

-- what these words say, if anything; after `--config` the first of them is its file
abbrev pub said_by : Bool → List (List ℕ) → Option Said
said_by true [] = None
said_by true (word ∷ words) = if is_hyphened word then None
    else with_config word (said_by false words)
said_by false [] = Some (said_files [])
said_by false (word ∷ words) = by_kind (word_kind word) word words (said_by true words) (said_by false words)

-- ---- commands

-- the names of a command's files: that of the configuration, if it has one, those of the logs, of
-- which the one at place k is that of part k, and that of the script
pub record CommandFiles : Type 0 where
  pub config : Option (List ℕ)
  pub logs : List (List ℕ)
  pub script : List ℕ

pub data Command : Type 0 where
  Play : CommandFiles → Command
  -- with whether only the summary is wanted
  Run : CommandFiles → Bool → Command
  -- the seed of the logs, the number of their records, and that of the workers
  Bulk : ℕ → ℕ → ℕ → Command

-- a file is named by a word that is not empty
abbrev pub is_name : List ℕ → Bool
is_name word = not (length word == 0)

-- and that of the configuration by one that looks like no option
abbrev pub is_config_name : List ℕ → Bool
is_config_name word = is_name word && not (is_hyphened word)

-- whether there are as many files as a command has: 1 to 1,024 logs and a script
abbrev pub is_file_count : ℕ → Bool
is_file_count n = nat_le 2 n && nat_le n (MAX_PARTS + 1)

abbrev pub are_files : List (List ℕ) → Bool
are_files words = is_file_count (length words) && list_all is_name words

-- whether these are the files of a command
abbrev pub are_command_files : Said → Bool
are_command_files said = are_files said.files && option_map_or is_config_name said.config true

-- the last of the files is the script
abbrev pub command_files : Said → CommandFiles
command_files said = record {
  config = said.config;
  logs = take (length said.files - 1) said.files;
  script = slice_index_or said.files (length said.files - 1) [];
}

-- a play has no summary
abbrev pub play_of : Said → Option Command
play_of said = if are_command_files said && not said.summary then Some (Play (command_files said))
    else None

abbrev pub run_of : Said → Option Command
run_of said = if are_command_files said then Some (Run (command_files said) said.summary) else None

-- the number of a word, where it is one from the least to the most
abbrev pub number_within : ℕ → ℕ → List ℕ → Option ℕ
number_within least most word = option_and_then
    (λ n. if nat_le least n && nat_le n most then Some n else None) (number_of word)

-- three numbers: any, at most 1,000,000, and 1 to 256
abbrev pub bulk_numbers : List (List ℕ) → Option Command
bulk_numbers (seed ∷ records ∷ workers ∷ []) =
    option_and_then (λ s. option_and_then (λ r. option_map (λ w. Bulk s r w)
    (number_within 1 MAX_WORKERS workers)) (number_within 0 MAX_RECORDS records)) (number_of seed)
bulk_numbers words = None

-- a bulk run has no option
abbrev pub bulk_of : Said → Option Command
bulk_of said = if is_some said.config || said.summary then None else bulk_numbers said.files

-- the command that the words make, if they make one
abbrev pub command_of : List (List ℕ) → Option Command
command_of [] = None
command_of (name ∷ words) =
    if bytes_eq name (codes "play") then option_and_then play_of (said_by false words)
    else if bytes_eq name (codes "run") then option_and_then run_of (said_by false words)
    else if bytes_eq name (codes "bulk") then option_and_then bulk_of (said_by false words)
    else None

-- the files of a play: words that are no play name none
abbrev pub no_files : CommandFiles
no_files = record { config = None; logs = []; script = [] }

abbrev pub files_in : Option Command → CommandFiles
files_in None = no_files
files_in (Some (Play files)) = files
files_in (Some (Run files summary)) = no_files
files_in (Some (Bulk seed records workers)) = no_files

abbrev pub files_of : List (List ℕ) → CommandFiles
files_of words = files_in (command_of words)

-- and those of a run
abbrev pub run_files_in : Option Command → CommandFiles
run_files_in None = no_files
run_files_in (Some (Play files)) = no_files
run_files_in (Some (Run files summary)) = files
run_files_in (Some (Bulk seed records workers)) = no_files

abbrev pub run_files_of : List (List ℕ) → CommandFiles
run_files_of words = run_files_in (command_of words)

-- the run over logs that are made, if the words ask for one
abbrev pub bulk_in : Option Command → Option Command
bulk_in (Some (Bulk seed records workers)) = Some (Bulk seed records workers)
bulk_in command = None
