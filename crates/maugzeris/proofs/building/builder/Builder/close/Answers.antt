use Rattle.std.proofs.Common.{subst, sym}
use Rattle.ftl_base.specs.Widths.{greatest_of_width}
use Rattle.ftl_building.specs.building.PartDocument.{PartDocument}
use Rattle.ftl_building.specs.building.PartWithin.{PartIsWithin}
use Rattle.maugzeris.proofs.building.builder.Builder.close.Goals as goal

pub invariant_of-self : goal.invariant_of-self
invariant_of-self c =
    let i = c.self.inside in
    let greatest = greatest_of_width i.rules.now.checked.width in
    subst (λ (p : PartDocument). PartIsWithin greatest p) (sym c.close.ensures.closed)
    (c.numbers_stay_within.ensures.closed greatest i.document c.self.invariant)
