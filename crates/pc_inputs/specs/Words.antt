-- What `clap` finds in words.
use Rattle.std.specs.Prelude.{ℕ, ◌≡◌, ◌⊎◌, ◌≤◌, length, Bool, List, [], true, false, Option, None, Some, map, option_map, unwrap_or, codes}
use Rattle.std.specs.Str.{bytes_eq}
use Rattle.pc_model.specs.declared.limits.TheConstants.{MAX_PARTS}
use Rattle.clap.specs.Simple.{App, new_app, new_rule, on_top, with_rule}
use Rattle.clap.specs.declared.builder.action.ArgAction.TheVariants.{Append, Set, SetTrue}
use Rattle.clap.specs.Matches.{first_value, found_of, matched_of, one_text, raw_values}
use Rattle.clap.specs.declared.parser.matches.ArgMatches.{ArgMatches}
use Rattle.clap.specs.declared.error.kind.ErrorKind.{ErrorKind}
use Rattle.clap.specs.declared.error.kind.ErrorKind.TheVariants.{OutOfMemory}
use Rattle.pc_inputs.specs.declared.status.Status.{Status}
use Rattle.pc_inputs.specs.declared.status.Status.TheVariants.{NoMemory, Usage}
use Rattle.pc_inputs.specs.declared.words.Said.{Said as SaidWords}
use Rattle.pc_inputs.specs.declared.command.Command.{Command as WordCommand}
use Rattle.pc_inputs.specs.declared.command.Command.TheVariants.{Bulk as BulkWords, Play as PlayWords, Run as RunWords}
use Rattle.pc_inputs.specs.declared.command.BulkRun.{BulkRun}
use Rattle.pc_inputs.specs.declared.command.CommandFiles.{CommandFiles as FileWords}
use Rattle.pc_inputs.specs.Command.{Command, CommandFiles, Said}
use Rattle.pc_inputs.specs.Command.Command.{Bulk, Play, Run}

-- the ids of the option that names the file of the configuration, of the wish for the summary
-- alone, and of all other files
abbrev pub CONFIG : List ℕ
CONFIG = codes "config"

abbrev pub SUMMARY : List ℕ
SUMMARY = codes "summary"

abbrev pub FILES : List ℕ
FILES = codes "files"

-- the command that `clap` reads the words by
abbrev pub command_app : App
command_app = with_rule (with_rule (with_rule
    (on_top (λ s. record s { no_binary_name = true; disable_help_flag = true })
    (new_app (codes "parcon")))
    (record (new_rule CONFIG) { long = Some CONFIG; action = Some Set }))
    (record (new_rule SUMMARY) { long = Some SUMMARY; action = Some SetTrue }))
    (record (new_rule FILES) { action = Some Append })

-- what the words say, as their plain texts
abbrev pub plain_said : SaidWords → Said
plain_said said = record {
  config = option_map (λ s. s.now) said.config;
  summary = said.summary;
  files = map (λ s. s.now) said.files.items;
}

-- whether the text of a flag says that it stands
abbrev pub is_set : Option (List ℕ) → Bool
is_set None = false
is_set (Some text) = bytes_eq text (codes "true")

-- the text of a flag
abbrev pub IsFlag : Option (List ℕ) → Type 0
IsFlag text = (text ≡ Some (codes "true")) ⊎ (text ≡ Some (codes "false"))

-- what `clap` found of the options and of the files
abbrev pub found_in : ArgMatches → Said
found_in matches = record {
  config = first_value (found_of matches) CONFIG;
  summary = is_set (one_text (found_of matches) SUMMARY);
  files = unwrap_or (option_map raw_values (matched_of (found_of matches) FILES)) [];
}

-- the status of words that `clap` refused
abbrev pub refused : ErrorKind → Status
refused OutOfMemory = NoMemory
refused kind = Usage

-- the names of a command's files, as their plain texts
abbrev pub plain_files : FileWords → CommandFiles
plain_files files = record {
  config = option_map (λ s. s.now) files.config;
  logs = map (λ s. s.now) files.logs.items;
  script = files.script.now;
}

abbrev pub plain_bulk : BulkRun → Command
plain_bulk bulk = Bulk bulk.seed bulk.records bulk.workers

abbrev pub plain_command : WordCommand → Command
plain_command (PlayWords files) = Play (plain_files files)
plain_command (RunWords files summary) = Run (plain_files files) summary
plain_command (BulkWords bulk) = plain_bulk bulk

-- at most as many logs as there may be parts
abbrev pub AreFew : FileWords → Type 0
AreFew files = length files.logs.items ≤ MAX_PARTS

-- so it is of a command with files
abbrev pub HasFewLogs : WordCommand → Type 0
HasFewLogs (PlayWords files) = AreFew files
HasFewLogs (RunWords files summary) = AreFew files
HasFewLogs (BulkWords bulk) = Unit {0}
