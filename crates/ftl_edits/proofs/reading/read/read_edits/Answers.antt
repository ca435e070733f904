use Rattle.std.proofs.Common.{List, sym, ap, ◌∙◌, subst}
use Rattle.ftl_base.specs.Widths.{greatest_of_width}
use Rattle.ftl_model.specs.layout.Outcome.{Gives}
use Rattle.ftl_meaning.specs.faults.Checked.{CheckedGrammar}
use Rattle.ftl_edits.specs.declared.syntax.written.WrittenEdit.{WrittenEdit}
use Rattle.ftl_edits.specs.syntax.Read.{AreWithin}
use Rattle.ftl_edits.specs.declared.meaning.types.Edit.{Edit}
use Rattle.ftl_edits.specs.declared.meaning.fault.EditFault.TheVariants.{OutOfMemory}
use Rattle.ftl_edits.specs.meaning.Meaning.{edits_of}
use Rattle.ftl_edits.specs.meaning.Editable.{AreEditsOf, greatest_of}
use Rattle.ftl_edits.proofs.reading.AnswerLemmas.{given_answer, if_given}
use Rattle.ftl_edits.proofs.reading.read.read_edits.Goals as goal

pub returns-in-Ok-clause-answer : goal.returns-in-Ok-clause-answer
returns-in-Ok-clause-answer c =
    let t = c.args.tree.now in
    given_answer t c.args.scanned.now c.in-Ok.written c.edits_of.result c.in-Ok.ensures.answer
    (subst (λ (w : List WrittenEdit). Gives OutOfMemory (λ (edits : List Edit). edits) c.edits_of.result (edits_of t w))
    c.as_slice.ensures c.edits_of.ensures.exact)

-- the values are of the tokens' width, and so of the tree's
pub returns-in-Ok-clause-editable : goal.returns-in-Ok-clause-editable
returns-in-Ok-clause-editable c =
    let t = c.args.tree.now in
    let within : AreWithin (greatest_of t) c.in-Ok.written =
    subst (λ n. AreWithin n c.in-Ok.written)
    (c.requires.width ∙ ap (λ (k : CheckedGrammar). greatest_of_width k.width) (sym c.requires.tree))
    c.in-Ok.ensures.values in
    if_given t c.in-Ok.written (AreEditsOf t)
    (λ found is. c.edits_name_inputs.ensures.editable t c.in-Ok.written found within is) c.edits_of.result
    (subst (λ (w : List WrittenEdit). Gives OutOfMemory (λ (edits : List Edit). edits) c.edits_of.result (edits_of t w))
    c.as_slice.ensures c.edits_of.ensures.exact)
