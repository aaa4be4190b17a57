-- Each record is above those before it, and when none is left all were taken.
use Rattle.std.proofs.Common.{◌+◌, ◌++◌, ℕ, List, length, map, drop, refl, ap, subst, ◌∙◌, arith}
use Rattle.std.proofs.lemmas.List.{length-map}
use Rattle.pc_batch.specs.Record.{plain}
use Rattle.pc_model.specs.Record.{Record}
use Rattle.pc_model.specs.Marks.{Mark}
use Rattle.pc_partition.specs.Window.{AreNext, StandsFor, with_polled}
use Rattle.pc_shards.specs.Entries.{of_part}
use Rattle.pc_cursor.specs.declared.cursor.Cursor.{Cursor}
use Rattle.pc_state.specs.Polls.{is_open_in}
use Rattle.pc_state.proofs.AddLemmas.{above-those-before}
use Rattle.pc_state.proofs.TakeLemmas.{last-offsets, taking-log, taking-more, taking-offsets}
use Rattle.pc_state.proofs.polls.take_in.Goals as goal

pub add_open-requires : goal.add_open-requires
add_open-requires c =
    let taking = c.records.invariant.taking in
    rw taking.entries (above-those-before (of_part c.args.shards.now c.args.part)
    (λ (r : Record). is_open_in c.args.held.now.window.window r.offset) c.args.held.now.window.window.polled_to
    c.args.next.left taking.taken c.next.new.self.left (plain c.in-Some.record) c.requires.rises c.requires.above
    (taking.left ∙ ap (λ (rs : List Record). taking.taken ++ rs) c.in-Some.ensures.steps.0))

pub records-preserved : goal.records-preserved
records-preserved c =
    let before = c.records.invariant.others in
    let now = c.in_ok-add_open.ensures.others in record {
      can_next = tt;
      finite = tt;
      taking = taking-more c.args.held.now.window.window c.args.next c.records.left c.next.new.self
          c.records.offsets.items c.push.new.self.items (of_part c.args.shards.now c.args.part)
          (of_part c.records.shards c.args.part) (of_part c.add_open.new.shards c.args.part)
          (plain c.in-Some.record) c.records.invariant.taking c.in-Some.ensures.steps.0
          c.in-Some.ensures.steps.1 c.in_ok-push.ensures.items c.in_ok-add_open.ensures.added;
      others = record {
        order = now.order ∙ before.order;
        others = λ q apart. now.others q apart ∙ before.others q apart;
      };
    }

pub returns-clause-taken : goal.returns-clause-taken
returns-clause-taken c =
    let offsets = taking-offsets c.args.held.now.window.window c.args.next c.records.left
    c.records.offsets.items (of_part c.args.shards.now c.args.part) (of_part c.records.shards c.args.part)
    c.records.invariant.taking c.in_default.ensures.steps.0.0 in record {
      count = omega (
        arith,
        c.len.ensures,
        c.records.offsets.ok.0,
        ap length offsets,
        length-map {B = ℕ} c.args.next.left (λ r. r.offset),
      );
      last = c.last_of.ensures ∙ last-offsets c.args.next.left _ (c.deref-2.ensures.value ∙ offsets);
    }

pub returns-clause-held : goal.returns-clause-held
returns-clause-held c =
    let taking = c.records.invariant.taking in
    let none = c.in_default.ensures.steps.0.0 in
    let offsets = taking-offsets c.args.held.now.window.window c.args.next c.records.left
    c.records.offsets.items (of_part c.args.shards.now c.args.part) (of_part c.records.shards c.args.part)
    taking none in record {
      window = subst (λ (os : List ℕ). (begin n : ℕ) (marks : List Mark)
          → StandsFor c.args.held.now.window.window begin n marks → AreNext n marks os
          → StandsFor c.polled.new.self.window begin (n + length os) (with_polled n marks os))
          (c.deref.ensures.value ∙ offsets) c.in_ok-polled.ensures.polled;
      rest = ap (λ (x : Cursor). x.left) c.new-held.ensures ∙ c.rest.ensures ∙ c.in_default.ensures.steps.1
          ∙ taking-log c.args.held.now.window.window c.args.next c.records.left c.records.offsets.items
          (of_part c.args.shards.now c.args.part) (of_part c.records.shards c.args.part) taking none
          ∙ ap (λ (rs : List Record). drop (length (map (λ (r : Record). r.offset) c.args.next.left)) rs)
          c.requires.log;
      size = refl;
    }
