-- A held part is known, and as many of its jobs are out as the ledger says.
use Rattle.std.proofs.Common.{arith}
use Rattle.pc_laws.proofs.HeldLaw.{held-has_log, log-below}
use Rattle.pc_state.proofs.state.State.make_places.Goals as goal

pub make_place-requires : goal.make_place-requires
make_place-requires c = let (given, h, knows, held) = c.requires in (
  given,
  h,
  knows.ledger,
  log-below given.logs c.args.part (held-has_log given h c.args.part knows.legal held),
  held,
  omega (arith, knows.limit),
)

pub returns-clause-part : goal.returns-clause-part
returns-clause-part c = λ given h knows held.
    let out = c.in_ok-out.ensures.out given h knows.ledger
    (log-below given.logs c.args.part (held-has_log given h c.args.part knows.legal held)) held in
    let le = c.in_ok-reserve_part.ensures.room in omega (arith, out, le)
