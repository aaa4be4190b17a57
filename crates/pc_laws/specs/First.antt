-- That a job has the first record of its ordering key that is left.
use Rattle.std.specs.Prelude.{◌≡◌, ◌<◌, true, List}
use Rattle.pc_model.specs.declared.event.Event.{Event}
use Rattle.pc_model.specs.Record.{Record}
use Rattle.pc_model.specs.Given.{Given}
use Rattle.pc_model.specs.Jobs.{Job}
use Rattle.pc_model.specs.Known.{polled_records, is_complete}
use Rattle.pc_model.specs.Next.{ordering_key, has_key}
use Rattle.pc_laws.specs.Lists.{In}

-- each polled record of the job's ordering key that lies before the job's is complete
pub record IsFirstOfItsKey (given : Given) (h : List Event) (j : Job) : Type 0 where
  pub earlier : (r : Record) → In r (polled_records given h j.part) → r.offset < j.offset
      → has_key given (ordering_key given.setup.settings.order j.part r) j ≡ true
      → is_complete h j.part r.offset ≡ true
