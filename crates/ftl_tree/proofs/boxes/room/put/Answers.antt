use Rattle.std.proofs.Common.{◌++◌, take, ap, ◌∙◌, arith}
use Rattle.std.proofs.lemmas.Slice.{take-put_mid}
use Rattle.ftl_tree.proofs.boxes.room.put.Goals as goal

pub returns-clause-text : goal.returns-clause-text
returns-clause-text c =
    take-put_mid c.args.end _ c.args.bytes.now c.copy_from_slice.new.self _
    (omega (arith, c.copy_from_slice.ensures.len)) (omega (arith, c.requires.room))
    ∙ ap (λ xs. take c.args.end c.args.bytes.now ++ xs) c.copy_from_slice.ensures.after
