use Rattle.std.proofs.Common.{◌+◌, ◌*◌, ◌≤◌, leb, map, ap, ◌∙◌, leb-true, arith}
use Rattle.ftl_deps.specs.reads.Meant.{meant}
use Rattle.ftl_model.specs.layout.Table.{instance_count}
use Rattle.ftl_model.specs.layout.Tree.{size}
use Rattle.ftl_step_value.proofs.limits.faults.Bounds.{few_reads, narrow_rows, on_true, rules_within, widths_within}
use Rattle.ftl_step_value.proofs.limits.faults.NoFault.{no_fault}
use Rattle.ftl_deps.specs.parts.RuleParts.{parts_meant}
use Rattle.ftl_step_value.proofs.limits.faults.bound.is_far_from_limits.Goals as goal

pub rule_bound-rules-requires : goal.rule_bound-rules-requires
rule_bound-rules-requires c =
    let g = meant c.args.tree.now.checked in
    record {
      few =
          few_reads g c.requires.sound c.as_slice.result.now
          (ap (map parts_meant) c.as_slice.ensures ∙ c.requires.tables.parts);
    }

pub greatest_width-widest-requires : goal.greatest_width-widest-requires
greatest_width-widest-requires c =
    let g = meant c.args.tree.now.checked in
    record {
      narrow =
          narrow_rows g c.requires.sound c.as_slice-2.result.now
          (c.as_slice-2.ensures ∙ c.requires.tables.attributes);
    }

pub returns : goal.returns
returns c =
    let t = c.args.tree.now in
    let g = meant t.checked in
    let b = c.rule_bound-rules.result in
    let widest = c.greatest_width-widest.result in
    let most = c.most_kids.result in
    let rules = rules_within g b c.as_slice.result.now
    (ap (map parts_meant) c.as_slice.ensures ∙ c.requires.tables.parts) c.rule_bound-rules.ensures.within in
    let narrow = widths_within g widest c.as_slice-2.result.now (c.as_slice-2.ensures ∙ c.requires.tables.attributes)
    c.greatest_width-widest.ensures.within in
    let is = c.total_bound.ensures.total in
    let low = c.if-total_bound-gt67108864.false in
    let total : b.once * instance_count g t.tree + b.each * widest * size t.tree ≤ 67108864 = omega (arith, is, low) in
    record {
      none =
          on_true (leb (b.once + b.each * most) 1048576)
          (λ within.
          no_fault g c.requires.sound.law t.tree c.node_count-nodes.ensures.is_tree b rules widest most narrow
          c.most_kids.ensures.within total
          (leb-true (b.once + b.each * most) 1048576 within));
    }
