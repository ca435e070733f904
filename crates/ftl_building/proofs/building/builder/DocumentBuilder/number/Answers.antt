use Rattle.std.proofs.Common.{[], ◌∷◌, ◌++◌, refl, ap₂, ◌∙◌, w64}
use Rattle.std.proofs.lemmas.Int.{to_z-of_z}
use Rattle.ftl_document.specs.declared.syntax.row.WrittenRow.TheVariants as rows
use Rattle.ftl_building.specs.building.Calls.{with_number}
use Rattle.ftl_building.specs.building.PartInside.{part_inside}
use Rattle.ftl_building.proofs.building.Kept.{kept_at, kept_of, number_kept, view_at}
use Rattle.ftl_building.proofs.building.builder.DocumentBuilder.number.Goals as goal

pub invariant_of-self-2 : goal.invariant_of-self-2
invariant_of-self-2 c =
    let i = c.self.inside in
    let q = c.args.self.now in
    let all = i.rows.items in
    let h = kept_of (part_inside i) q i.class i.places all i.levels i.nodes c.self.view_is c.self.invariant in
    let more = all ++ (rows.Number c.args.name.now c.args.value ∷ []) in
    kept_at (with_number c.args.name.now c.args.value q) i.class i.places more i.levels i.nodes
    (number_kept q i.class i.places all i.levels i.nodes h c.args.name.now c.args.value c.requires.takes)
    i.places c.push.new.self.items refl
    (c.in_ok-push.ensures.items
    ∙ ap₂ (λ x v. all ++ (rows.Number x v ∷ [])) c.new.ensures.name (to_z-of_z w64 c.args.value c.ranges.value))

pub returns-clause-number : goal.returns-clause-number
returns-clause-number c =
    let i = c.self.inside in
    let q = c.args.self.now in
    let all = i.rows.items in
    let h = kept_of (part_inside i) q i.class i.places all i.levels i.nodes c.self.view_is c.self.invariant in
    let more = all ++ (rows.Number c.args.name.now c.args.value ∷ []) in
    view_at (with_number c.args.name.now c.args.value q) i.class i.places more i.levels i.nodes
    (number_kept q i.class i.places all i.levels i.nodes h c.args.name.now c.args.value c.requires.takes)
    i.places c.push.new.self.items refl
    (c.in_ok-push.ensures.items
    ∙ ap₂ (λ x v. all ++ (rows.Number x v ∷ [])) c.new.ensures.name (to_z-of_z w64 c.args.value c.ranges.value))
