-- One job less is in hand.
use Rattle.std.specs.HashMap.{hash_map_len}
use Rattle.pc_play.proofs.hand.Hand.abandon.Given as goal

abbrev pub decreases-loop-ticket : goal.decreases-loop-ticket
decreases-loop-ticket l = hash_map_len l.jobs
