use Rattle.std.proofs.Common.{ap, sym, ◌∙◌, subst, get_or, pos, ◌∷◌, []}
use Rattle.ftl_deps.specs.reads.Meant.{meant}
use Rattle.ftl_order.specs.orders.Lawful.{IsLawful}
use Rattle.ftl_meaning.specs.faults.Checked.{CheckedGrammar}
use Rattle.ftl_tree.specs.trees.CheckedTree.{CheckedTree}
use Rattle.ftl_edits.specs.declared.meaning.types.Edit.{Edit}
use Rattle.ftl_relayout.specs.laws.Edits.{IsInputEdit}
use Rattle.ftl_relayout.specs.relayouter.Relaid.{tree_with_edits}
use Rattle.ftl_relayout.proofs.relayouter.Applying.{edit_then, edited_more}
use Rattle.ftl_relayout.proofs.relayouter.call.apply.Goals as goal

pub apply_one-requires : goal.apply_one-requires
apply_one-requires c =
    let t = c.args.tree.now in
    let d : Edit = record { node = 0; attr = 0; value = pos 0 } in
    let e = get_or c.args.edits.now c.loop-edit.edit-index d in
    let law = subst (λ (k : CheckedGrammar). IsLawful (meant k)) c.checked.ensures.grammar c.is_sound.ensures.sound.law in
    let is =
    edit_then (meant t.checked) law c.args.edits.now t.tree c.requires.edits c.loop-edit.edit-index d
    c.loop-edit-test.true in
    record { edit = subst (λ (x : CheckedTree). IsInputEdit (meant x.checked) x.tree e) (sym c.loop-edit.invariant) is }

pub loop-edit-preserved : goal.loop-edit-preserved
loop-edit-preserved c =
    let t = c.args.tree.now in
    let d : Edit = record { node = 0; attr = 0; value = pos 0 } in
    let e = get_or c.args.edits.now c.loop-edit.edit-index d in
    c.apply_one.ensures.edited
    ∙ ap (λ (x : CheckedTree). tree_with_edits x (e ∷ [])) c.loop-edit.invariant
    ∙ ap (λ f. record { checked = t.checked; tree = f })
    (sym (edited_more (meant t.checked) t.tree c.args.edits.now c.loop-edit.edit-index d c.loop-edit-test.true))
