-- The items of an array are a plain list.
use Rattle.std.proofs.Common.{Some, option_map, sym, ap, ◌∙◌}
use Rattle.pc_config.specs.Members.{list_of}
use Rattle.pc_config.proofs.MemberLemmas.{list_of-view}
use Rattle.pc_config.proofs.member.items_in.Goals as goal

pub returns-in-Some : goal.returns-in-Some
returns-in-Some c = rw c.as_slice.ensures.value (ap Some (sym (list_of-view c.in-Some.items.now.items)) ∙ ap (option_map list_of) c.in-Some.ensures)
