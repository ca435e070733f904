use Rattle.std.proofs.Common.{◌≡◌, ◌∙◌, ap, sym, subst, arith, rules, List, [], ◌∷◌, ◌++◌}
use Rattle.std.proofs.lemmas.Grind.{common_steps}
use Rattle.std.proofs.lemmas.List.Elements.{All-append, All-cons, All-nil}
use Rattle.ftl_edits.specs.declared.meaning.types.Edit.{Edit}
use Rattle.ftl_edits.specs.meaning.Editable.{AreEditsOf, IsEditOf}
use Rattle.ftl_tree.specs.trees.CheckedTree.{CheckedTree}
use Rattle.maugzeris.specs.pages.PageState.{edit, tree_on}
use Rattle.maugzeris.proofs.pages.SameTree.{same_tree}
use Rattle.maugzeris.proofs.pages.page.Page.set_input.Goals as goal

pub invariant_of-self : goal.invariant_of-self
invariant_of-self c =
    let v = c.self.invariant in
    record {
      tree = v.tree;
      relayouter = v.relayouter;
      code = v.code;
      edits = subst (λ (es : List Edit). AreEditsOf c.self.inside.tree es) (sym c.in_err-push.ensures.err) v.edits;
      fits = v.fits;
      solved = v.solved;
    }

pub invariant_of-self-2 : goal.invariant_of-self-2
invariant_of-self-2 c =
    let v = c.self.invariant in
    let t = c.self.inside.tree in
    let e = edit c.args.node c.args.attr c.args.value in
    let is : t ≡ tree_on c.args.self.now =
    same_tree t c.self.inside.rules.now.checked v.tree ∙ ap tree_on c.self.view_is in
    let pushed : c.push.new.self ≡ c.self.inside.edits ++ (e ∷ []) =
    first_of (search rules, cc, grind (arith, common_steps)) in
    record {
      tree = v.tree;
      relayouter = v.relayouter;
      code = v.code;
      edits =
          subst (λ (es : List Edit). AreEditsOf t es) (sym pushed)
          (All-append (IsEditOf t) c.self.inside.edits (e ∷ []) v.edits
          (All-cons (IsEditOf t) e [] (subst (λ (u : CheckedTree). IsEditOf u e) (sym is) c.requires.takes)
          (All-nil (IsEditOf t))));
      fits = v.fits;
      solved = v.solved;
    }
