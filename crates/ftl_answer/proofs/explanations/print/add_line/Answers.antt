use Rattle.std.proofs.Common.{◌≡◌, ◌<◌, List, OnOk, ap, get_or, length, refl, subst, sym, ◌∙◌, ℕ}
use Rattle.ftl_meaning.specs.faults.Checked.{CheckedGrammar, all_attributes, attribute_at}
use Rattle.ftl_answer.proofs.explanations.InstanceRows.{line_of_row, no_row, row_at, row_within}
use Rattle.ftl_answer.proofs.explanations.print.add_line.Goals as goal

pub bounds-rows-instance : goal.bounds-rows-instance
bounds-rows-instance c =
    row_within c.args.tree.now c.tree_is_lawful.ensures.is_tree c.tree_is_lawful.ensures.faultless c.args.instance
    c.args.rows.now c.requires.rows c.requires.instance

pub attr_name-requires : goal.attr_name-requires
attr_name-requires c =
    let row = get_or c.args.rows.now c.args.instance no_row in
    let is =
    row_at c.args.tree.now c.tree_is_lawful.ensures.is_tree c.tree_is_lawful.ensures.faultless c.args.instance
    c.args.rows.now no_row row c.requires.rows c.requires.instance refl in
    record {
      within =
          subst (λ (k : CheckedGrammar). row.attr < length (all_attributes k.grammar)) (sym c.checked.ensures.grammar)
          is.known;
    }

pub returns : goal.returns
returns c =
    let t = c.args.tree.now in
    let row = get_or c.args.rows.now c.args.instance no_row in
    let is =
    row_at t c.tree_is_lawful.ensures.is_tree c.tree_is_lawful.ensures.faultless c.args.instance c.args.rows.now no_row
    row c.requires.rows c.requires.instance refl in
    let name =
    c.text.ensures.text ∙ c.attr_name.ensures.name
    ∙ ap (λ (k : CheckedGrammar). (attribute_at k.grammar row.attr).decl.name) c.checked.ensures.grammar in
    record {
      line =
          subst (λ (xs : List ℕ). OnOk c.around.result (c.around.new.out.items ≡ xs))
          (line_of_row t c.tree_is_lawful.ensures.is_tree c.tree_is_lawful.ensures.faultless c.args.instance row is
          c.args.out.now.items c.number.new.out.items c.text.result.now c.in_ok-number.ensures.added name)
          c.around.ensures.added;
    }
