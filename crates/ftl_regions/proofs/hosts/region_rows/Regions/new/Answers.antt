use Rattle.std.proofs.Common.{◌+◌, ◌≤◌, arith}
use Rattle.ftl_base.specs.Widths.{greatest_of_width}
use Rattle.ftl_deps.specs.reads.Meant.{meant}
use Rattle.ftl_meaning.proofs.lawful.Lawfulness.{faultless_lawful}
use Rattle.ftl_meaning.proofs.lawful.WithinLimits.{within_limits}
use Rattle.ftl_regions.proofs.hosts.WalkLaws.{regions_are}
use Rattle.ftl_regions.proofs.hosts.region_rows.Regions.new.Goals as goal

pub invariant_of-result : goal.invariant_of-result
invariant_of-result c =
    let g = c.args.checked.now.grammar in
    let width = c.args.checked.now.width in
    let limits = within_limits g c.grammar-lawful.ensures.lawful (greatest_of_width width) in
    let few : (meant c.args.checked.now).interface_count + (meant c.args.checked.now).class_count ≤ 2048 =
    (let i = limits.interfaces in let k = limits.classes in omega (arith, i, k)) in
    regions_are (meant c.args.checked.now)
    (faultless_lawful g width
    (record { faults = c.grammar-lawful.ensures.lawful; kinds = c.grammar-lawful.ensures.kinds }))
    c.in_ok-leads.leads c.in_ok-leads.ensures.steps c.close.new.self few c.close.ensures.size c.close.ensures.closed
