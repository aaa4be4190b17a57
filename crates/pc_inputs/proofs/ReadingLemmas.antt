-- From the answers of the reads to the bytes of the files.
use Rattle.std.proofs.Common.{◌≡◌, ◌≤◌, ◌<◌, ◌+◌, ◌⊎◌, inl, inr, ℕ, Bool, true, false, List, [], ◌∷◌, ◌++◌, map, length, take, drop, get_or, Option, Some, None, Result, Ok, Err, refl, ap, sym, subst, ◌∙◌, append_assoc, arith, suc, ltb}
use Rattle.std.specs.Prelude.{ok_or}
use Rattle.std.specs.List.{AllByRecursion}
use Rattle.std.proofs.lemmas.Bool.{cases_lt, ltb-true, ltb-false}
use Rattle.std.proofs.lemmas.List.{append-nil, map-append}
use Rattle.pc_world.specs.World.{HasRisen, AppendsFile}
use Rattle.std.specs.Result.{result_map_both}
use Rattle.pc_inputs.specs.declared.status.Status.{Status}
use Rattle.pc_inputs.specs.declared.status.Status.TheVariants.{NoMemory, Usage}
use Rattle.pc_inputs.specs.Command.{Command, CommandFiles, command_of, files_in, run_files_in}
use Rattle.pc_inputs.specs.Command.Command.{Play, Run}
use Rattle.pc_inputs.specs.Reading.{◌>>=◌, ReadAnswer, IsAnswer, FileRead, Reads, AreLogAnswers, AreAnswers, FileText, FileTexts, IsConfigAnswer, IsFromConfig, IsFromFile, IsFromFiles, IsFromLog, IsFromLogs, IsFromCommand, IsFromRun, IsFromRunFiles, IsFromWords, RunFileTexts, answered, command_answered, run_answered, bytes_answered, log_answered, logs_answered, within}
use Rattle.pc_inputs.proofs.ListLemmas.{map-around, map-next}
use Rattle.pc_inputs.specs.Reading.ReadAnswer.{Bytes, Failed, TooLong}

-- ---- counts of faults

-- a count that rose stays risen
pub risen-later : (a b c : ℕ) → a ≤ b → b ≤ c → HasRisen a b → HasRisen a c
risen-later a b c le more (inl lt) = inl (omega arith)
risen-later a b c le more (inr top) = elim (cases_lt b c) [
  | inl lt ↦ inl (omega arith)
  | inr ge ↦ inr (let same : c ≡ b = omega arith in same ∙ top)
]

-- a count that rose after a moment rose after an earlier one
pub risen-earlier : (a b c : ℕ) → a ≤ b → HasRisen b c → HasRisen a c
risen-earlier a b c le (inl lt) = inl (omega arith)
risen-earlier a b c le (inr top) = inr top

-- no name's count fell
abbrev pub IsLater : (List ℕ → ℕ) → (List ℕ → ℕ) → Type 0
IsLater before after = (n : List ℕ) → before n ≤ after n

pub le-trans : (a b c : ℕ) → a ≤ b → b ≤ c → a ≤ c
le-trans a b c le more = omega arith

-- ---- answers of reads

answer-later : (told : Option (List ℕ)) (a b c : ℕ) (x : ReadAnswer) → a ≤ b → b ≤ c
    → IsAnswer told a b x → IsAnswer told a c x
answer-later told a b c (Bytes bytes) le more is = is
answer-later told a b c Failed le more is = risen-later a b c le more is
answer-later told a b c TooLong le more is = is

answer-earlier : (told : Option (List ℕ)) (a b c : ℕ) (x : ReadAnswer) → a ≤ b
    → IsAnswer told b c x → IsAnswer told a c x
answer-earlier told a b c (Bytes bytes) le is = is
answer-earlier told a b c Failed le is = risen-earlier a b c le is
answer-earlier told a b c TooLong le is = is

-- a file that was appended to nothing
pub file-read : (told : Option (List ℕ)) (f f' : ℕ) (name before bytes : List ℕ) → before ≡ []
    → AppendsFile 268_435_456 told before bytes → IsFromFile name told f f' (Ok bytes)
file-read told f f' name before bytes empty file =
    let is : bytes ≡ file.contents = file.behind
    ∙ ap (λ (x : List ℕ). x ++ file.contents) empty in
    record {
      answer = Bytes bytes;
      is_answer = (
        subst (λ (x : List ℕ). length x ≤ 268_435_456) (sym is) file.short,
        λ contents told_is. is ∙ file.as_told contents told_is,
      );
      read = refl;
    }

-- ---- the answer of a read that was not made

abbrev some_answer_of : List ℕ → Bool → ReadAnswer
some_answer_of contents true = TooLong
some_answer_of contents false = Bytes contents

abbrev pub some_answer : Option (List ℕ) → ReadAnswer
some_answer None = Bytes []
some_answer (Some contents) = some_answer_of contents (ltb 268_435_456 (length contents))

contents-are : (a b : List ℕ) → Some a ≡ Some b → a ≡ b
contents-are a b is = cc

not-told : (a : List ℕ) → ◌≡◌ {A = Option (List ℕ)} None (Some a) → ⊥
not-told a is = cc

some-answer-of : (contents : List ℕ) (f f' : ℕ) (long : Bool)
    → ltb 268_435_456 (length contents) ≡ long
    → IsAnswer (Some contents) f f' (some_answer_of contents long)
some-answer-of contents f f' true is = λ bytes same.
    subst (λ (x : List ℕ). 268_435_456 < length x) (contents-are contents bytes same)
    (ltb-true 268_435_456 (length contents) is)
some-answer-of contents f f' false is = (
  ltb-false 268_435_456 (length contents) is,
  λ bytes same. contents-are contents bytes same,
)

pub some-answer : (told : Option (List ℕ)) (f f' : ℕ) → IsAnswer told f f' (some_answer told)
some-answer None f f' = (omega arith, λ contents is. absurd (not-told contents is))
some-answer (Some contents) f f' = some-answer-of contents f f'
    (ltb 268_435_456 (length contents)) refl

-- logs that were not read
abbrev unread : (List ℕ → Option (List ℕ)) → List (List ℕ) → List FileRead
unread told [] = []
unread told (name ∷ names) =
    record { name = name; answer = some_answer (told name) } ∷ unread told names

unread-answers : (names : List (List ℕ)) (told : List ℕ → Option (List ℕ))
    (f f' : List ℕ → ℕ)
    → AreLogAnswers names told f f' (unread told names)
unread-answers [] told f f' = record { named = refl; each = tt }
unread-answers (name ∷ names) told f f' =
    let others = unread-answers names told f f' in
    record {
      named = ap (λ (l : List (List ℕ)). name ∷ l) others.named;
      each = (some-answer (told name) (f name) (f' name), others.each);
    }

-- ---- answers of several reads

each-later : (told : List ℕ → Option (List ℕ)) (a b c : List ℕ → ℕ) (reads : List FileRead)
    → IsLater a b → IsLater b c
    → AllByRecursion (λ r. IsAnswer (told r.name) (a r.name) (b r.name) r.answer) reads
    → AllByRecursion (λ r. IsAnswer (told r.name) (a r.name) (c r.name) r.answer) reads
each-later told a b c [] le more each = tt
each-later told a b c (r ∷ reads) le more each = (
  answer-later (told r.name) (a r.name) (b r.name) (c r.name) r.answer (le r.name) (more r.name)
      each.0,
  each-later told a b c reads le more each.1,
)

each-append : (told : List ℕ → Option (List ℕ)) (a c : List ℕ → ℕ) (reads more : List FileRead)
    → AllByRecursion (λ r. IsAnswer (told r.name) (a r.name) (c r.name) r.answer) reads
    → AllByRecursion (λ r. IsAnswer (told r.name) (a r.name) (c r.name) r.answer) more
    → AllByRecursion (λ r. IsAnswer (told r.name) (a r.name) (c r.name) r.answer) (reads ++ more)
each-append told a c [] more each last = last
each-append told a c (r ∷ reads) more each last =
    (each.0, each-append told a c reads more each.1 last)

pub answers-later : (names : List (List ℕ)) (told : List ℕ → Option (List ℕ))
    (a b c : List ℕ → ℕ) (reads : List FileRead) → IsLater a b → IsLater b c
    → AreLogAnswers names told a b reads
    → AreLogAnswers names told a c reads
answers-later names told a b c reads le more are = record {
  named = are.named;
  each = each-later told a b c reads le more are.each;
}

answers-append : (front back : List (List ℕ)) (told : List ℕ → Option (List ℕ))
    (a c : List ℕ → ℕ) (reads more : List FileRead) → AreLogAnswers front told a c reads
    → AreLogAnswers back told a c more → AreLogAnswers (front ++ back) told a c (reads ++ more)
answers-append front back told a c reads more are last = record {
  named = map-append (λ (r : FileRead). r.name) reads more
      ∙ ap (λ (l : List (List ℕ)). l ++ map (λ r. r.name) more) are.named
      ∙ ap (λ (l : List (List ℕ)). front ++ l) last.named;
  each = each-append told a c reads more are.each last.each;
}

-- one read more, after the others
answers-cons : (name : List ℕ) (back : List (List ℕ)) (told told' : List ℕ → Option (List ℕ))
    (a b c : List ℕ → ℕ) (x : ReadAnswer) (more : List FileRead) → IsLater a b
    → ((n : List ℕ) → told' n ≡ told n) → IsAnswer (told' name) (b name) (c name) x
    → AreLogAnswers back told a c more
    → AreLogAnswers (name ∷ back) told a c (record { name = name; answer = x } ∷ more)
answers-cons name back told told' a b c x more le keeps is last = record {
  named = ap (λ (l : List (List ℕ)). name ∷ l) last.named;
  each = (
    answer-earlier (told name) (a name) (b name) (c name) x (le name)
        (subst (λ (t : Option (List ℕ)). IsAnswer t (b name) (c name) x) (keeps name) is),
    last.each,
  );
}

-- ---- steps with a status

-- a list in front of what comes of the rest
abbrev pub joined : {X : Type 0} → List X → Result (List X) Status → Result (List X) Status
joined front (Ok more) = Ok (front ++ more)
joined front (Err s) = Err s

pub joined-none : {X : Type 0} (r : Result (List X) Status) → r ≡ joined [] r
joined-none (Ok more) = refl
joined-none (Err s) = refl

pub joined-more : {X : Type 0} (front : List X) (x : X) (r : Result (List X) Status)
    → joined front (r >>= (λ more. Ok (x ∷ more))) ≡ joined (front ++ x ∷ []) r
joined-more front x (Ok more) = ap (λ l. Ok l) (sym (append_assoc front (x ∷ []) more))
joined-more front x (Err s) = refl

-- ---- the reads of the logs so far

pub record AreRead (names : List (List ℕ)) (told : List ℕ → Option (List ℕ))
    (before after : List ℕ → ℕ) (texts : List FileText) (used : ℕ) : Type 0 where
  pub reads : List FileRead
  pub answers : AreLogAnswers names told before after reads
  -- what comes of these and of more reads
  pub with_more : (more : List FileRead) → logs_answered 0 (reads ++ more)
      ≡ joined texts (logs_answered used more)

pub read-none : (told : List ℕ → Option (List ℕ)) (f : List ℕ → ℕ) → AreRead [] told f f [] 0
read-none told f = record {
  reads = [];
  answers = record { named = refl; each = tt };
  with_more = λ more. joined-none (logs_answered 0 more);
}

-- what comes of a log and of the logs behind it
abbrev after_log : ℕ → List FileRead → Result FileText Status → Result (List FileText) Status
after_log used more text = text >>= λ t. logs_answered (used + length t.bytes) more
    >>= λ texts. Ok (t ∷ texts)

module _ (names : List (List ℕ)) (name : List ℕ) (told told' : List ℕ → Option (List ℕ))
    (f0 f1 f2 : List ℕ → ℕ) (texts : List FileText) (used : ℕ) (later : IsLater f0 f1)
    (last : IsLater f1 f2) (keeps : (n : List ℕ) → told' n ≡ told n)
    (are : AreRead names told f0 f1 texts used) where
  -- what comes of the reads so far, of this one and of more
  with-answer : (answer : ReadAnswer) (r : Result FileText Status) (more : List FileRead)
      → log_answered used (record { name = name; answer = answer }) ≡ r
      → logs_answered 0 (are.reads ++ record { name = name; answer = answer } ∷ more)
      ≡ joined texts (after_log used more r)
  with-answer answer r more is =
      are.with_more (record { name = name; answer = answer } ∷ more)
      ∙ ap (λ (t : Result FileText Status). joined texts (after_log used more t)) is

  pub read-more : (text : FileText) → IsFromLog name (told' name) (f1 name) (f2 name) used (Ok text)
      → AreRead (names ++ name ∷ []) told f0 f2 (texts ++ text ∷ [])
      (used + length text.bytes)
  read-more text log = record {
    reads = are.reads ++ record { name = name; answer = log.answer } ∷ [];
    answers = answers-append names (name ∷ []) told f0 f2 are.reads
        (record { name = name; answer = log.answer } ∷ [])
        (answers-later names told f0 f1 f2 are.reads later last are.answers)
        (answers-cons name [] told told' f0 f1 f2 log.answer [] later keeps log.is_answer
        (record { named = refl; each = tt }));
    with_more = λ more.
        ap (logs_answered 0)
        (append_assoc are.reads (record { name = name; answer = log.answer } ∷ []) more)
        ∙ with-answer log.answer (Ok text) more log.text
        ∙ joined-more texts text (logs_answered (used + length text.bytes) more);
  }

  pub read-fault : (back : List (List ℕ)) (s : Status)
      → IsFromLog name (told' name) (f1 name) (f2 name) used (Err s)
      → IsFromLogs (names ++ name ∷ back) told f0 f2 (Err s)
  read-fault back s log = record {
    reads = are.reads ++ record { name = name; answer = log.answer } ∷ unread told back;
    answers = answers-append names (name ∷ back) told f0 f2 are.reads
        (record { name = name; answer = log.answer } ∷ unread told back)
        (answers-later names told f0 f1 f2 are.reads later last are.answers)
        (answers-cons name back told told' f0 f1 f2 log.answer (unread told back) later keeps
        log.is_answer (unread-answers back told f0 f2));
    texts = with-answer log.answer (Err s) (unread told back) log.text;
  }

pub read-all : (names : List (List ℕ)) (told : List ℕ → Option (List ℕ)) (f f' : List ℕ → ℕ)
    (texts : List FileText) (used : ℕ) → AreRead names told f f' texts used
    → IsFromLogs names told f f' (Ok texts)
read-all names told f f' texts used are = record {
  reads = are.reads;
  answers = are.answers;
  texts = ap (logs_answered 0) (sym (append-nil are.reads)) ∙ are.with_more []
      ∙ ap (λ (l : List FileText). Ok l) (append-nil texts);
}

-- ---- the loop over the names

module _ {X : Type 0} (f : X → List ℕ) (xs : List X) (i : ℕ) (x : X) (name : List ℕ)
    (told told' : List ℕ → Option (List ℕ)) (f0 f1 f2 : List ℕ → ℕ) (texts : List FileText)
    (used : ℕ) (below : i < length xs) (item : x ≡ get_or xs i x) (named : name ≡ f x)
    (later : IsLater f0 f1) (last : IsLater f1 f2) (keeps : (n : List ℕ) → told' n ≡ told n)
    (are : AreRead (map f (take i xs)) told f0 f1 texts used) where
  pub read-next : (text : FileText) (texts' : List FileText) (size : ℕ)
      → size ≡ length text.bytes → texts' ≡ texts ++ text ∷ []
      → IsFromLog name (told' name) (f1 name) (f2 name) used (Ok text)
      → AreRead (map f (take (i + 1) xs)) told f0 f2 texts' (used + size)
  read-next text texts' size sized more log =
      subst (λ (names : List (List ℕ)). AreRead names told f0 f2 texts' (used + size))
      (ap (λ (n : List ℕ). map f (take i xs) ++ n ∷ []) named ∙ sym (map-next f xs i x below item))
      (subst (λ (ts : List FileText). AreRead (map f (take i xs) ++ name ∷ []) told f0 f2 ts
      (used + size)) (sym more)
      (subst (λ (n : ℕ). AreRead (map f (take i xs) ++ name ∷ []) told f0 f2
      (texts ++ text ∷ []) (used + n)) (sym sized)
      (read-more (map f (take i xs)) name told told' f0 f1 f2 texts used later last keeps are text
      log)))

  pub read-stops : (s : Status) → IsFromLog name (told' name) (f1 name) (f2 name) used (Err s)
      → IsFromLogs (map f xs) told f0 f2 (Err s)
  read-stops s log =
      subst (λ (names : List (List ℕ)). IsFromLogs names told f0 f2 (Err s))
      (ap (λ (n : List ℕ). map f (take i xs) ++ n ∷ map f (drop (suc i) xs)) named
      ∙ map-around f xs i x below item)
      (read-fault (map f (take i xs)) name told told' f0 f1 f2 texts used later last keeps are
      (map f (drop (suc i) xs)) s log)

-- ---- a read behind others that have so many bytes

pub log-read : (name : List ℕ) (told : Option (List ℕ)) (f f' used : ℕ) (bytes : List ℕ)
    (got : Result FileText Status) → IsFromFile name told f f' (Ok bytes)
    → (within used bytes >>= λ b. Ok (record { name = name; bytes = b })) ≡ got
    → IsFromLog name told f f' used got
log-read name told f f' used bytes got file is = record {
  answer = file.answer;
  is_answer = file.is_answer;
  text = ap (λ (r : Result (List ℕ) Status). r >>= λ b. within used b
      >>= λ c. Ok (record { name = name; bytes = c })) file.read ∙ is;
}

pub log-unread : (name : List ℕ) (told : Option (List ℕ)) (f f' used : ℕ) (s : Status)
    → IsFromFile name told f f' (Err s) → IsFromLog name told f f' used (Err s)
log-unread name told f f' used s file = record {
  answer = file.answer;
  is_answer = file.is_answer;
  text = ap (λ (r : Result (List ℕ) Status). r >>= λ b. within used b
      >>= λ c. Ok (record { name = name; bytes = c })) file.read;
}

-- ---- the read of a configuration

-- no file is named
pub no-config : (told : List ℕ → Option (List ℕ)) (f : List ℕ → ℕ)
    → IsFromConfig None told f f (Ok [])
no-config told f = record { answer = Bytes []; is_answer = refl; read = refl }

-- this file is
pub config-from : (name : List ℕ) (told : List ℕ → Option (List ℕ)) (f f' : List ℕ → ℕ)
    (got : Result (List ℕ) Status) → IsFromFile name (told name) (f name) (f' name) got
    → IsFromConfig (Some name) told f f' got
config-from name told f f' got file =
    record { answer = file.answer; is_answer = file.is_answer; read = file.read }

abbrev some_config : Option (List ℕ) → (List ℕ → Option (List ℕ)) → ReadAnswer
some_config None told = Bytes []
some_config (Some name) told = some_answer (told name)

some-config : (name : Option (List ℕ)) (told : List ℕ → Option (List ℕ)) (f f' : List ℕ → ℕ)
    → IsConfigAnswer name told f f' (some_config name told)
some-config None told f f' = refl
some-config (Some name) told f f' = some-answer (told name) (f name) (f' name)

config-later : (name : Option (List ℕ)) (told : List ℕ → Option (List ℕ)) (a b c : List ℕ → ℕ)
    (x : ReadAnswer) → IsLater a b → IsLater b c → IsConfigAnswer name told a b x
    → IsConfigAnswer name told a c x
config-later None told a b c x le more is = is
config-later (Some name) told a b c x le more is =
    answer-later (told name) (a name) (b name) (c name) x (le name) (more name) is

-- some answers may come of any files
pub any-answers : (files : CommandFiles) (told : List ℕ → Option (List ℕ)) (f f' : List ℕ → ℕ)
    → (reads : Reads) × AreAnswers files told f f' reads
any-answers files told f f' = (
  record {
    config = some_config files.config told;
    logs = unread told files.logs;
    script = some_answer (told files.script);
  },
  record {
    config = some-config files.config told f f';
    logs = unread-answers files.logs told f f';
    script = some-answer (told files.script) (f files.script) (f' files.script);
  },
)

-- ---- the configuration, the logs, and then the script

-- words that are no command name no file
pub no-command : {X : Type 0} (named : Option Command → CommandFiles) (asked : Command → Reads → Result X Status) (words : List (List ℕ))
    (told : List ℕ → Option (List ℕ)) (f f' : List ℕ → ℕ)
    → command_of words ≡ None → IsFromWords named asked words told f f' (Err Usage)
no-command named asked words told f f' none =
    let any = any-answers (named (command_of words)) told f f' in
    record {
      reads = any.0;
      answers = any.1;
      texts = ap (λ (o : Option Command). ok_or o Usage >>= λ command. asked command any.0) none;
    }

-- nor do those of another command
pub other-command : {X : Type 0} (named : Option Command → CommandFiles) (asked : Command → Reads → Result X Status)
    (words : List (List ℕ)) (told : List ℕ → Option (List ℕ)) (f f' : List ℕ → ℕ)
    (command : Command) → ((reads : Reads) → asked command reads ≡ Err Usage)
    → command_of words ≡ Some command → IsFromWords named asked words told f f' (Err Usage)
other-command named asked words told f f' command other is =
    let any = any-answers (named (command_of words)) told f f' in
    record {
      reads = any.0;
      answers = any.1;
      texts = ap (λ (o : Option Command). ok_or o Usage >>= λ command. asked command any.0) is
          ∙ other any.0;
    }

-- what the words make, as the call answers it
pub command-ok : (o : Option Command) (command : Command)
    → ◌≡◌ {A = Result Command Status} (Ok command) (ok_or o Usage) → o ≡ Some command
command-ok None command is = cc
command-ok (Some made) command is = cc

pub command-err : (o : Option Command) (s : Status)
    → ◌≡◌ {A = Result Command Status} (Err s) (ok_or o Usage) → (o ≡ None) × (s ≡ Usage)
command-err None s is = (refl, cc)
command-err (Some command) s is = absurd (never command s is)
  where
    never : (command : Command) (s : Status)
        → ◌≡◌ {A = Result Command Status} (Err s) (Ok command) → ⊥
    never command s is = cc

each-earlier : (told told' : List ℕ → Option (List ℕ)) (a b c : List ℕ → ℕ)
    (reads : List FileRead) → IsLater a b → ((n : List ℕ) → told' n ≡ told n)
    → AllByRecursion (λ r. IsAnswer (told' r.name) (b r.name) (c r.name) r.answer) reads
    → AllByRecursion (λ r. IsAnswer (told r.name) (a r.name) (c r.name) r.answer) reads
each-earlier told told' a b c [] le keeps each = tt
each-earlier told told' a b c (r ∷ reads) le keeps each = (
  answer-earlier (told r.name) (a r.name) (b r.name) (c r.name) r.answer (le r.name)
      (subst (λ (t : Option (List ℕ)). IsAnswer t (b r.name) (c r.name) r.answer) (keeps r.name)
      each.0),
  each-earlier told told' a b c reads le keeps each.1,
)

-- logs that were read after something else
logs-behind : (names : List (List ℕ)) (told told' : List ℕ → Option (List ℕ))
    (a b c : List ℕ → ℕ) (got : Result (List FileText) Status) → IsLater a b
    → ((n : List ℕ) → told' n ≡ told n) → IsFromLogs names told' b c got
    → IsFromLogs names told a c got
logs-behind names told told' a b c got le keeps logs = record {
  reads = logs.reads;
  answers = record {
    named = logs.answers.named;
    each = each-earlier told told' a b c logs.reads le keeps logs.answers.each;
  };
  texts = logs.texts;
}

-- what comes of the reads of a play's files, by what came of the first of them
abbrev behind_config : CommandFiles → Reads → Result (List ℕ) Status → Result FileTexts Status
behind_config files reads config = config >>= λ c. logs_answered 0 reads.logs
    >>= λ l. answered files.script reads.script
    >>= λ s. Ok (record { config = c; logs = l; script = s })

abbrev behind_logs : CommandFiles → Reads → List ℕ → Result (List FileText) Status
    → Result FileTexts Status
behind_logs files reads config logs = logs >>= λ l. answered files.script reads.script
    >>= λ s. Ok (record { config = config; logs = l; script = s })

later-later : (a b c : List ℕ → ℕ) → IsLater a b → IsLater b c → IsLater a c
later-later a b c le more n = le-trans (a n) (b n) (c n) (le n) (more n)

-- the reads of the files of a command that the words make
pub command-read : {X : Type 0} (files : Option Command → CommandFiles)
    (asked : Command → Reads → Result X Status) (words : List (List ℕ))
    (told : List ℕ → Option (List ℕ)) (f f' : List ℕ → ℕ) (command : Command) (reads : Reads)
    (got : Result X Status) → command_of words ≡ Some command
    → AreAnswers (files (Some command)) told f f' reads → asked command reads ≡ got
    → IsFromWords files asked words told f f' got
command-read files asked words told f f' command reads got named answers is = record {
  reads = reads;
  answers = subst (λ (o : Option Command). AreAnswers (files o) told f f' reads) (sym named)
      answers;
  texts = ap (λ (o : Option Command). ok_or o Usage >>= λ command. asked command reads) named ∙ is;
}

-- those of a play
pub play-read : (words : List (List ℕ)) (told : List ℕ → Option (List ℕ)) (f f' : List ℕ → ℕ)
    (files : CommandFiles) (got : Result FileTexts Status) → command_of words ≡ Some (Play files)
    → IsFromCommand files told f f' got → IsFromFiles words told f f' got
play-read words told f f' files got named from =
    command-read files_in command_answered words told f f' (Play files) from.reads got named from.answers from.texts

-- those of a run
pub run-read : (words : List (List ℕ)) (told : List ℕ → Option (List ℕ)) (f f' : List ℕ → ℕ)
    (files : CommandFiles) (summary : Bool) (got : Result RunFileTexts Status)
    → command_of words ≡ Some (Run files summary)
    → IsFromRunFiles files summary told f f' got → IsFromRun words told f f' got
run-read words told f f' files summary got named from =
    command-read run_files_in run_answered words told f f' (Run files summary) from.reads got named from.answers from.texts

-- the bytes of a run's files, and the wish for the summary alone
pub run-texts : (files : CommandFiles) (summary : Bool) (told : List ℕ → Option (List ℕ))
    (f f' : List ℕ → ℕ) (texts : FileTexts) → IsFromCommand files told f f' (Ok texts)
    → IsFromRunFiles files summary told f f' (Ok (record { texts = texts; summary = summary }))
run-texts files summary told f f' texts from = record {
  reads = from.reads;
  answers = from.answers;
  texts = ap (λ (r : Result FileTexts Status). r
      >>= λ texts. Ok (record { texts = texts; summary = summary })) from.texts;
}

pub run-unread : (files : CommandFiles) (summary : Bool) (told : List ℕ → Option (List ℕ))
    (f f' : List ℕ → ℕ) (s : Status) → IsFromCommand files told f f' (Err s)
    → IsFromRunFiles files summary told f f' (Err s)
run-unread files summary told f f' s from = record {
  reads = from.reads;
  answers = from.answers;
  texts = ap (λ (r : Result FileTexts Status). r
      >>= λ texts. Ok (record { texts = texts; summary = summary })) from.texts;
}

module _ (told : List ℕ → Option (List ℕ)) (f0 f3 : List ℕ → ℕ) (files : CommandFiles) where
  -- the answers of the reads are what comes of the files
  from-answers : (reads : Reads) (got : Result FileTexts Status)
      → AreAnswers files told f0 f3 reads → bytes_answered files reads ≡ got
      → IsFromCommand files told f0 f3 got
  from-answers reads got are is = record { reads = reads; answers = are; texts = is }

  -- the read of the configuration ended the play
  pub config-unread : (f1 : List ℕ → ℕ) (s : Status) → IsLater f0 f1 → IsLater f1 f3
      → IsFromConfig files.config told f0 f1 (Err s) → IsFromCommand files told f0 f3 (Err s)
  config-unread f1 s later last config =
      let reads : Reads = record {
        config = config.answer;
        logs = unread told files.logs;
        script = some_answer (told files.script);
      } in
      from-answers reads (Err s)
      (record {
        config = config-later files.config told f0 f1 f3 config.answer later last config.is_answer;
        logs = unread-answers files.logs told f0 f3;
        script = some-answer (told files.script) (f0 files.script) (f3 files.script);
      })
      (ap (behind_config files reads) config.read)

  module _ (f1 : List ℕ → ℕ) (told1 : List ℕ → Option (List ℕ)) (text : List ℕ)
      (later : IsLater f0 f1) (keeps : (n : List ℕ) → told1 n ≡ told n)
      (config : IsFromConfig files.config told f0 f1 (Ok text)) where
    -- the reads of the logs ended the play
    pub logs-unread : (f2 : List ℕ → ℕ) (s : Status) → IsLater f1 f2 → IsLater f2 f3
        → IsFromLogs files.logs told1 f1 f2 (Err s) → IsFromCommand files told f0 f3 (Err s)
    logs-unread f2 s next last from =
        let logs = logs-behind files.logs told told1 f0 f1 f2 (Err s) later keeps from in
        let reads : Reads = record {
          config = config.answer;
          logs = logs.reads;
          script = some_answer (told files.script);
        } in
        from-answers reads (Err s)
        (record {
          config = config-later files.config told f0 f1 f3 config.answer later
              (later-later f1 f2 f3 next last) config.is_answer;
          logs = answers-later files.logs told f0 f2 f3 logs.reads (later-later f0 f1 f2 later next)
              last logs.answers;
          script = some-answer (told files.script) (f0 files.script) (f3 files.script);
        })
        (ap (behind_config files reads) config.read ∙ ap (behind_logs files reads text) logs.texts)

    module _ (f2 : List ℕ → ℕ) (told2 : List ℕ → Option (List ℕ)) (texts : List FileText)
        (next : IsLater f1 f2) (last : IsLater f2 f3) (keeps2 : (n : List ℕ) → told2 n ≡ told n)
        (from : IsFromLogs files.logs told1 f1 f2 (Ok texts)) where
      -- the script's read gave this
      script-answered : (r : Result (List ℕ) Status) (got : Result FileTexts Status)
          → IsFromFile files.script (told2 files.script) (f2 files.script) (f3 files.script) r
          → (r >>= λ s. Ok (record { config = text; logs = texts; script = s })) ≡ got
          → IsFromCommand files told f0 f3 got
      script-answered r got script is =
          let logs = logs-behind files.logs told told1 f0 f1 f2 (Ok texts) later keeps from in
          let reads : Reads = record {
            config = config.answer;
            logs = logs.reads;
            script = script.answer;
          } in
          from-answers reads got
          (record {
            config = config-later files.config told f0 f1 f3 config.answer later
                (later-later f1 f2 f3 next last) config.is_answer;
            logs = answers-later files.logs told f0 f2 f3 logs.reads
                (later-later f0 f1 f2 later next) last logs.answers;
            script = answer-earlier (told files.script) (f0 files.script) (f2 files.script)
                (f3 files.script) script.answer
                (le-trans (f0 files.script) (f1 files.script) (f2 files.script) (later files.script)
                (next files.script))
                (subst (λ (t : Option (List ℕ)).
                IsAnswer t (f2 files.script) (f3 files.script) script.answer)
                (keeps2 files.script) script.is_answer);
          })
          (ap (behind_config files reads) config.read
          ∙ ap (behind_logs files reads text) logs.texts
          ∙ ap (λ (s : Result (List ℕ) Status). s
          >>= λ t. Ok (record { config = text; logs = texts; script = t })) script.read ∙ is)

      -- the script's read ended the play
      pub script-unread : (s : Status)
          → IsFromFile files.script (told2 files.script) (f2 files.script) (f3 files.script) (Err s)
          → IsFromCommand files told f0 f3 (Err s)
      script-unread s script = script-answered (Err s) (Err s) script refl

      -- all were read
      pub all-read : (last_text : List ℕ)
          → IsFromFile files.script (told2 files.script) (f2 files.script) (f3 files.script)
          (Ok last_text)
          → IsFromCommand files told f0 f3
          (Ok (record { config = text; logs = texts; script = last_text }))
      all-read last_text script = script-answered (Ok last_text) _ script refl

-- ---- what the steps on the way answered

ok-no-memory : {A : Type 0} (v : A) → ◌≡◌ {A = Result A Status} (Ok v) (Err NoMemory) → ⊥
ok-no-memory v is = cc

-- what was read came of the file
pub was-read : {A B : Type 0} (v : A) → ◌≡◌ {A = Result A Status} (Ok v) (Err NoMemory) ⊎ B → B
was-read v (inl is) = absurd (ok-no-memory v is)
was-read v (inr b) = b

pub status-is : {A : Type 0} (s t : Status) → ◌≡◌ {A = Result A Status} (Err s) (Err t) → s ≡ t
status-is s t is = cc

-- the status of a step is that of the whole
pub step-fault : {A C B D : Type 0} (r : Result C Status) (s : Status) → r ≡ Err s
    → ◌≡◌ {A = Result A Status} (Err s) (Err NoMemory) ⊎ B → (B → D)
    → (r ≡ Err NoMemory) ⊎ D
step-fault r s was (inl is) others =
    inl (was ∙ ap (λ (x : Status). Err x) (status-is s NoMemory is))
step-fault r s was (inr b) others = inr (others b)

-- words that make no command, as the whole answers them
pub command-fault : {C V X : Type 0} (view : V → X) (named : Option Command → CommandFiles)
    (asked : Command → Reads → Result X Status)
    (words : List (List ℕ)) (told : List ℕ → Option (List ℕ))
    (f : List ℕ → ℕ) (r : Result V Status) (s : Status) → r ≡ Err s
    → ◌≡◌ {A = Result C Status} (Err s) (Err NoMemory)
    ⊎ ◌≡◌ {A = Result Command Status} (Err s) (ok_or (command_of words) Usage)
    → (r ≡ Err NoMemory)
    ⊎ IsFromWords named asked words told f f (result_map_both view (λ s. s) r)
command-fault {V = V} view named asked words told f r s was fault =
    step-fault r s was fault (λ none.
    let is = command-err (command_of words) s none in
    subst (λ (x : Result V Status). IsFromWords named asked words told f f (result_map_both view (λ s. s) x))
    (sym (was ∙ ap (λ (x : Status). Err x) is.1)) (no-command named asked words told f f is.0))
