-- What a link some of whose calls fail shows.
use Rattle.std.specs.Prelude.{ℕ}
use Rattle.pc_world.specs.declared.failing_link.FailingLink.{FailingLink}

-- the link to which the calls are handed on
abbrev pub inner : {L : Type 0} → FailingLink L → L
inner l = l.link

-- how often it has failed
abbrev pub faults_of : {L : Type 0} → FailingLink L → ℕ
faults_of l = l.faults.count
