use Rattle.std.proofs.Common.{None, Some, sym, ◌∙◌, ap}
use Rattle.ftl_deps.specs.reads.Meant.{meant}
use Rattle.ftl_nest_check.specs.stages.Nested.{nests_of}
use Rattle.ftl_nests.specs.Nests.{nest_placing_of}
use Rattle.ftl_schedule.specs.stages.Stages.{kind_of}
use Rattle.ftl_example.proofs.nests.examples.EarlyTests.{and_false, and_told, both, by_hosts, early_alone, neither}
use Rattle.ftl_example.proofs.nests.examples.EarlyTests.{reader_alone}
use Rattle.ftl_example.proofs.nests.examples.early_steps.is_early_in.Goals as goal

pub returns-in-None-None : goal.returns-in-None-None
returns-in-None-None c =
    let g = meant c.args.tree.now.checked in
    let t = c.args.tree.now.tree in
    let at = nest_placing_of (nests_of c.args.placed.now) in
    let r = c.args.reader.step in
    let x = c.args.step in
    let kind = kind_of c.args.kind in
    let of_x = sym c.in-None-None.is-0 ∙ c.host-early.ensures.host ∙ ap at.host c.attr_of.ensures.attr in
    let of_r = sym c.in-None-None.is-1 ∙ c.host-late.ensures.host ∙ ap at.host c.attr_of-2.ensures.attr in
    record {
      early =
          c.is_near.ensures.near
          ∙ neither g t at r x c.requires.sound.law c.node_count-nodes.ensures.is_tree c.requires.reader.step c.requires.step
          kind
          ∙ by_hosts g t at r x kind None None of_x of_r;
    }

pub returns-then-is_topdown : goal.returns-then-is_topdown
returns-then-is_topdown c =
    let g = meant c.args.tree.now.checked in
    let t = c.args.tree.now.tree in
    let at = nest_placing_of (nests_of c.args.placed.now) in
    let r = c.args.reader.step in
    let x = c.args.step in
    let kind = kind_of c.args.kind in
    let k = c.in-None-Some.field-0-1 in
    let of_x = sym c.in-None-Some.is-0 ∙ c.host-early.ensures.host ∙ ap at.host c.attr_of.ensures.attr in
    let of_r = sym c.in-None-Some.is-1 ∙ c.host-late.ensures.host ∙ ap at.host c.attr_of-2.ensures.attr in
    record {
      early =
          and_told _ _ c.is_over.result (sym c.is_topdown.ensures.kind ∙ c.if-is_topdown.true) c.is_over.ensures.over
          ∙ reader_alone g t at r x c.requires.sound.law c.node_count-nodes.ensures.is_tree c.requires.reader.step
          c.requires.step kind k
          ∙ by_hosts g t at r x kind None (Some k) of_x of_r;
    }

pub returns-then-is_over : goal.returns-then-is_over
returns-then-is_over c =
    let g = meant c.args.tree.now.checked in
    let t = c.args.tree.now.tree in
    let at = nest_placing_of (nests_of c.args.placed.now) in
    let r = c.args.reader.step in
    let x = c.args.step in
    let kind = kind_of c.args.kind in
    let h = c.in-Some-Some.field-0-0 in
    let k = c.in-Some-Some.field-0-1 in
    let of_x = sym c.in-Some-Some.is-0 ∙ c.host-early.ensures.host ∙ ap at.host c.attr_of.ensures.attr in
    let of_r = sym c.in-Some-Some.is-1 ∙ c.host-late.ensures.host ∙ ap at.host c.attr_of-2.ensures.attr in
    record {
      early =
          and_told _ _ c.is_inner_early.result (sym c.is_over-in-Some-Some.ensures.over ∙ c.if-is_over.true)
          c.is_inner_early.ensures.early
          ∙ both g t at r x c.requires.sound.law c.node_count-nodes.ensures.is_tree c.requires.reader.step c.requires.step
          kind h k c.args.reader.host (c.requires.reader.is k (sym of_r))
          ∙ by_hosts g t at r x kind (Some h) (Some k) of_x of_r;
    }

pub returns-else-is_over : goal.returns-else-is_over
returns-else-is_over c =
    let g = meant c.args.tree.now.checked in
    let t = c.args.tree.now.tree in
    let at = nest_placing_of (nests_of c.args.placed.now) in
    let r = c.args.reader.step in
    let x = c.args.step in
    let kind = kind_of c.args.kind in
    let h = c.in-Some-Some.field-0-0 in
    let k = c.in-Some-Some.field-0-1 in
    let of_x = sym c.in-Some-Some.is-0 ∙ c.host-early.ensures.host ∙ ap at.host c.attr_of.ensures.attr in
    let of_r = sym c.in-Some-Some.is-1 ∙ c.host-late.ensures.host ∙ ap at.host c.attr_of-2.ensures.attr in
    record {
      early =
          and_false _ _ c.is_over-in-Some-Some.result c.is_over-in-Some-Some.ensures.over c.if-is_over.false
          ∙ both g t at r x c.requires.sound.law c.node_count-nodes.ensures.is_tree c.requires.reader.step c.requires.step
          kind h k c.args.reader.host (c.requires.reader.is k (sym of_r))
          ∙ by_hosts g t at r x kind (Some h) (Some k) of_x of_r;
    }

pub returns-then-is_bottomup : goal.returns-then-is_bottomup
returns-then-is_bottomup c =
    let g = meant c.args.tree.now.checked in
    let t = c.args.tree.now.tree in
    let at = nest_placing_of (nests_of c.args.placed.now) in
    let r = c.args.reader.step in
    let x = c.args.step in
    let kind = kind_of c.args.kind in
    let h = c.in-Some-None.field-0-0 in
    let of_x = sym c.in-Some-None.is-0 ∙ c.host-early.ensures.host ∙ ap at.host c.attr_of.ensures.attr in
    let of_r = sym c.in-Some-None.is-1 ∙ c.host-late.ensures.host ∙ ap at.host c.attr_of-2.ensures.attr in
    record {
      early =
          and_told _ _ c.is_over-then-is_bottomup.result (sym c.is_bottomup.ensures.kind ∙ c.if-is_bottomup.true)
          c.is_over-then-is_bottomup.ensures.over
          ∙ early_alone g t at r x c.requires.sound.law c.node_count-nodes.ensures.is_tree c.requires.reader.step
          c.requires.step kind h
          ∙ by_hosts g t at r x kind (Some h) None of_x of_r;
    }
