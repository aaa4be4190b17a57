-- Only the last run that begins at the offset or before it can have it.
use Rattle.std.proofs.Common.{sym}
use Rattle.pc_partition.proofs.RunsLemmas.{IsSearched, searched-none, searched-some}
use Rattle.pc_partition.proofs.runs.contains.Goals as goal

pub returns-then-count-eq0 : goal.returns-then-count-eq0
returns-then-count-eq0 c =
    let is : IsSearched c.args.runs.now c.args.offset c.count_upto-count.result = record {
      in_order = c.requires;
      within = c.count_upto-count.ensures.within;
      upto = c.count_upto-count.ensures.upto;
      above = c.count_upto-count.ensures.above;
    } in
    sym (searched-none _ _ _ is c.if-count-eq0.true)

pub returns : goal.returns
returns c =
    let is : IsSearched c.args.runs.now c.args.offset c.count_upto-count.result = record {
      in_order = c.requires;
      within = c.count_upto-count.ensures.within;
      upto = c.count_upto-count.ensures.upto;
      above = c.count_upto-count.ensures.above;
    } in
    sym (searched-some _ _ _ (0, 0) is c.if-count-eq0.false)
