use Rattle.std.proofs.Common.{◌≡◌, ◌+◌, [], get_or, ap, ap₂, sym, ◌∙◌, arith}
use Rattle.std.proofs.lemmas.List.{get_or_default}
use Rattle.std.proofs.lemmas.List.Elements.{Contains-get_or}
use Rattle.std.proofs.lemmas.List.Sums.{sum_by_more}
use Rattle.ftl_tree.specs.boxes.PieceRoom.{field_room}
use Rattle.ftl_tree.proofs.boxes.pieces.row_room.Goals as goal

pub bounds-attributes-attr : goal.bounds-attributes-attr
bounds-attributes-attr c =
    c.requires.known _ (Contains-get_or c.args.row.now c.loop-attr.attr-index 0 c.loop-attr-test.true)

pub loop-attr-preserved : goal.loop-attr-preserved
loop-attr-preserved c =
    let pieces = c.args.attributes.now in
    let row = c.args.row.now in
    let k = c.loop-attr.attr-index in
    let known = c.requires.known _ (Contains-get_or row k 0 c.loop-attr-test.true) in
    let piece = c.index-attributes-attr.is
    ∙ get_or_default pieces (get_or row k 0) c.index-attributes-attr.result [] known in
    let sum : c.in-Some.more ≡ c.loop-attr.room + c.field_room.result = grind arith in
    sum
    ∙ ap₂ (λ m n. m + n) c.loop-attr.invariant (c.field_room.ensures.room ∙ ap field_room piece)
    ∙ sym (sum_by_more (λ a. field_room (get_or pieces a [])) row k 0 c.loop-attr-test.true)
