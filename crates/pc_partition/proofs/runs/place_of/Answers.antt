-- The search finds the run that has the offset.
use Rattle.pc_partition.proofs.RunsLemmas.{IsCut-searched, IsSearched, searched-not_none}
use Rattle.pc_partition.proofs.runs.place_of.Goals as goal

pub overflow_sub-result : goal.overflow_sub-result
overflow_sub-result c =
    let is : IsSearched c.args.runs.now c.args.offset c.count_upto.result = record {
      in_order = c.requires.in_order;
      within = c.count_upto.ensures.within;
      upto = c.count_upto.ensures.upto;
      above = c.count_upto.ensures.above;
    } in
    searched-not_none _ _ _ is c.requires.has

pub returns : goal.returns
returns c =
    let is : IsSearched c.args.runs.now c.args.offset c.count_upto.result = record {
      in_order = c.requires.in_order;
      within = c.count_upto.ensures.within;
      upto = c.count_upto.ensures.upto;
      above = c.count_upto.ensures.above;
    } in
    IsCut-searched _ _ _ is c.requires.has
