-- One run more.
use Rattle.pc_runlength.proofs.ReadingLemmas.{last_run, next_run, next_run_fits}
use Rattle.pc_runlength.proofs.reading.read_bits.Goals as goal

pub push-requires : goal.push-requires
push-requires c =
    next_run_fits _ c.loop-i.i _ _ _ c.loop-i.bit c.loop-i-test.true c.number_at.ensures c.loop-i.invariant c.requires.small

pub loop-i-preserved : goal.loop-i-preserved
loop-i-preserved c =
    next_run c.args.width c.loop-i.i c.number_at.result c.args.bytes.now c.loop-i.bits c.push.new.self c.loop-i.bit c.loop-i-test.true c.number_at.ensures c.loop-i.invariant c.in_ok-push.ensures.ok

pub returns : goal.returns
returns c = last_run _ c.loop-i.i _ _ c.loop-i.bit c.loop-i-test.false c.loop-i.invariant
