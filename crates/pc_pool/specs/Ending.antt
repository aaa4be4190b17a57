-- What each ending of a run means.
use Rattle.std.specs.Prelude.{ℕ, ◌≡◌, ◌<◌, ◌⊎◌, ⊤, ℤ, pos, Bool, true, false, List, ◌∷◌, length, Some, slice_get}
use Rattle.std.specs.Option.{option_map_or}
use Rattle.pc_model.specs.declared.api.TheConstants.{UNKNOWN_TOPIC_OR_PARTITION}
use Rattle.pc_model.specs.declared.limits.TheConstants.{MAX_EVENTS}
use Rattle.pc_model.specs.declared.commit.Commit.{Commit}
use Rattle.pc_model.specs.declared.event.Event.{Event}
use Rattle.pc_model.specs.declared.event.Event.TheVariants.{CommitFailed, Done as AllDone}
use Rattle.pc_model.specs.declared.map_fault.MapFault.{MapFault}
use Rattle.pc_model.specs.Bound.{event_bound, may_assign}
use Rattle.pc_model.specs.Broker.{Broker, has_part}
use Rattle.pc_model.specs.Epochs.{is_held}
use Rattle.pc_model.specs.Given.{has_log}
use Rattle.pc_model.specs.Jobs.{is_draining}
use Rattle.pc_model.specs.Retry.{failures_of}
use Rattle.pc_model.specs.Run.{is_at_rest}
use Rattle.pc_model.specs.Steps.{place_of}
use Rattle.pc_world.specs.World.{HasRisen}
use Rattle.pc_offset_client.specs.declared.fault.ClientFault.{ClientFault}
use Rattle.pc_offset_client.specs.declared.fault.ClientFault.TheVariants.{LinkFailed, Refused, BadReply, OtherReply, NoMemory as Forgot}
use Rattle.pc_offset_client.specs.Client.{TOPIC, commit_code, kept_for}
use Rattle.pc_commit.specs.Resume.{map_refusal}
use Rattle.pc_state.specs.Queries.{first_unfinished}
use Rattle.pc_drain.specs.Causes.{HaveCauses, is_refused}
use Rattle.pc_state_lock.specs.Heading.{Heading}
use Rattle.pc_pool.specs.declared.ending.Ending.{Ending}
use Rattle.pc_pool.specs.declared.ending.Ending.TheVariants.{Done, Undrained, Client, BadMap, JournalFull, NoMemory}

-- all blocks of the steps were begun
abbrev pub AreUsedUp : Heading → List Event → Type 0
AreUsedUp run h = (place_of run.given h).begun ≡ length run.steps

-- all is done
pub record IsDone (run : Heading) (h : List Event) : Type 0 where
  pub used : AreUsedUp run h
  pub before : List Event
  pub last : h ≡ AllDone ∷ before

-- the run is at rest and drained, and its first record that is left has failed as often as it may
pub record IsUndrained (run : Heading) (h : List Event) (p o failures : ℕ) : Type 0 where
  pub used : AreUsedUp run h
  pub drains : is_draining h ≡ true
  pub rests : is_at_rest run.given h ≡ true
  pub first : first_unfinished run.given h ≡ Some (p, o)
  pub failed : failures ≡ failures_of h p o
  pub spent : failures ≡ run.given.setup.settings.give_up

-- What made the link's client fail: its link, whose count of faults rose then, or a broker that
-- answers this code. A link that tells its store gives no other answer.
abbrev pub HasCause : Bool → ℕ → ℕ → ℤ → ClientFault → Type 0
HasCause told before after code LinkFailed = HasRisen before after
HasCause told before after code (Refused answered) = told ≡ true → answered ≡ code
HasCause told before after code (BadReply fault) = told ≡ false
HasCause told before after code (OtherReply asked got) = told ≡ false
HasCause told before after code Forgot = ⊥

-- the commit failed that was to save a part, in the drain, and it is the last event
pub record IsUnsaved (run : Heading) (told : Bool) (h : List Event) (faults : ℕ) (failed : ClientFault)
    : Type 0 where
  pub used : AreUsedUp run h
  pub drains : is_draining h ≡ true
  pub part : ℕ
  pub commit : Commit
  pub size : ℕ
  pub before : List Event
  pub last : h ≡ CommitFailed part commit.position commit.map size ∷ before
  pub cause : HasCause told run.faults faults (commit_code run.store part commit) failed

-- whether the step at this place assigns the part
abbrev pub assigns_at : Heading → ℕ → ℕ → Bool
assigns_at run used p = option_map_or (λ step. may_assign step.act p) (slice_get run.steps used) false

-- the fetch for the part failed which the step that was due assigns: what made it fail comes on top
-- of the causes of the failed commits
pub record IsUnfetched (run : Heading) (told : Bool) (h : List Event) (used faults : ℕ)
    (failed : ClientFault) : Type 0 where
  pub part : ℕ
  pub assigned : assigns_at run used part ≡ true
  pub logged : has_log run.given part ≡ true
  pub free : is_held h part ≡ false
  pub count : ℕ
  pub causes : told ≡ true → HaveCauses (is_refused run.store) run.faults h count
  pub cause : HasCause told count faults UNKNOWN_TOPIC_OR_PARTITION failed
  pub unknown : (code : ℤ) → failed ≡ Refused code → told ≡ true
      → has_part run.store TOPIC (pos part) ≡ false

-- the stored map does not read of the part which the step that was due assigns
pub record IsUnread (run : Heading) (told : Bool) (h : List Event) (store : Broker) (used p : ℕ)
    (fault : MapFault) : Type 0 where
  pub assigned : assigns_at run used p ≡ true
  pub logged : has_log run.given p ≡ true
  pub free : is_held h p ≡ false
  pub stored : Commit
  pub kept : told ≡ true → stored ≡ kept_for store p
  pub refused : map_refusal run.given.setup.settings.bad_map stored ≡ Some fault

-- What an ending means. Memory may run out at any time, and nothing is asked of a run that ends with it.
abbrev pub HasEnding : Heading → Bool → List Event → Broker → ℕ → ℕ → Ending → Type 0
HasEnding run told h store used faults Done = IsDone run h
HasEnding run told h store used faults (Undrained p o failures) = IsUndrained run h p o failures
HasEnding run told h store used faults (Client failed) =
    IsUnsaved run told h faults failed ⊎ IsUnfetched run told h used faults failed
HasEnding run told h store used faults (BadMap p fault) = IsUnread run told h store used p fault
HasEnding run told h store used faults JournalFull = MAX_EVENTS < event_bound run.given run.steps
HasEnding run told h store used faults NoMemory = ⊤
