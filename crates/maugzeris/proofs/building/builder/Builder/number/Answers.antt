use Rattle.std.proofs.Common.{ℤ, subst, sym, to_z, of_z, w64}
use Rattle.std.proofs.lemmas.Int.{to_z-of_z}
use Rattle.ftl_base.specs.Widths.{greatest_of_width}
use Rattle.ftl_building.specs.building.Calls.{with_number}
use Rattle.ftl_model.specs.layout.TreeOf.{IsInput}
use Rattle.maugzeris.specs.building.PageParts.{IsNumber, PagePart}
use Rattle.maugzeris.proofs.building.Numbers.{stays_within}
use Rattle.maugzeris.proofs.building.builder.Builder.number.Goals as goal

pub invariant_of-self : goal.invariant_of-self
invariant_of-self c =
    let i = c.self.inside in
    let name = c.args.name.now in
    let value = c.args.value in
    let passed = to_z w64 (of_z w64 value) in
    let greatest = greatest_of_width i.rules.now.checked.width in
    let small = subst (λ (p : PagePart). IsNumber p value) (sym c.self.view_is) c.requires.takes.1 in
    let within = subst (λ (n : ℤ). IsInput greatest n) (sym (to_z-of_z w64 value c.ranges.value)) small in
    stays_within greatest i.document c.number.new.self (with_number name passed i.document) c.number.result
    c.number.ensures.number c.number.ensures.unchanged c.self.invariant
    (c.numbers_stay_within.ensures.number greatest name passed i.document within c.self.invariant)
