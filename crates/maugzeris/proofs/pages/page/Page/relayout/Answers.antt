use Rattle.std.proofs.Common.{◌≡◌, ◌∙◌, ap, sym, subst, arith, rules, true, List, []}
use Rattle.std.proofs.lemmas.Bool.{both_ways}
use Rattle.std.proofs.lemmas.Grind.{common_steps}
use Rattle.std.proofs.lemmas.List.Elements.{All-nil}
use Rattle.ftl_deps.specs.reads.Meant.{meant}
use Rattle.ftl_edits.specs.declared.meaning.types.Edit.{Edit}
use Rattle.ftl_edits.specs.meaning.Editable.{AreEditsOf, IsEditOf}
use Rattle.ftl_step_value.specs.limits.faults.PlanFaults.{first_fault}
use Rattle.ftl_model.specs.layout.Table.{SolvesList}
use Rattle.ftl_model.specs.layout.Values.{Value}
use Rattle.ftl_nest_check.specs.stages.Nested.{nests_of}
use Rattle.ftl_nests.specs.Nests.{outer_schedule}
use Rattle.ftl_relayout.proofs.relaid.Relays.{relaid_given}
use Rattle.ftl_step_value.specs.value.StepValue.{IsCodeFor}
use Rattle.ftl_tree.specs.trees.CheckedTree.{CheckedTree}
use Rattle.ftl_visit.specs.compiled.RuleCode.{Compiled}
use Rattle.ftl_visit.specs.rule_values.Runs.{CountedCode}
use Rattle.maugzeris.specs.pages.PageState.{IsLaidOut, IsLaidOutAnew, PageState}
use Rattle.maugzeris.proofs.pages.Anew.{anew, state}
use Rattle.maugzeris.proofs.pages.Values.{are_there}
use Rattle.maugzeris.proofs.pages.page.Page.relayout.Goals as goal

pub invariant_of-self : goal.invariant_of-self
invariant_of-self c =
    let x = c.self.inside in
    let v = c.self.invariant in
    let k = x.rules.now.checked in
    let same = c.in_err-touched.ensures in
    record {
      tree = ap (λ (t : CheckedTree). t.checked) same.tree_stays ∙ v.tree;
      relayouter = v.relayouter;
      code = subst (λ (r : CountedCode). IsCodeFor k r.programs) (sym same.runner_stays) v.code;
      edits = subst (λ (t : CheckedTree). AreEditsOf t x.edits) (sym same.tree_stays) v.edits;
      fits = λ before.
          ap (λ (t : CheckedTree). first_fault (meant k) (outer_schedule (nests_of x.rules.now.schedule)) t.tree)
          same.tree_stays
          ∙ v.fits before;
      solved = λ laid.
          subst (λ (vs : List Value). SolvesList (meant k) c.relaid.new.tree.tree vs) (sym same.values_stay)
          (subst (λ (t : CheckedTree). SolvesList (meant k) t.tree x.values.items) (sym same.tree_stays) (v.solved laid));
    }

pub invariant_of-self-2 : goal.invariant_of-self-2
invariant_of-self-2 c =
    let x = c.self.inside in
    let v = c.self.invariant in
    let k = x.rules.now.checked in
    let u = c.relaid.new.tree in
    let given = c.in_ok-touched.ensures.relaid in
    let none : c.new.result ≡ [] = first_of (search rules, cc, grind (arith, common_steps)) in
    let laid : x.laid_out ≡ true =
    are_there x.laid_out x.values.items (SolvesList (meant k) x.tree.tree)
    (subst IsLaidOut (sym c.self.view_is) c.requires.laid_out) in
    record {
      tree = c.in_ok-touched.ensures.grammar ∙ v.tree;
      relayouter = v.relayouter;
      code = subst (λ (p : Compiled). IsCodeFor k p) (sym given.programs) v.code;
      edits = subst (λ (es : List Edit). AreEditsOf u es) (sym none) (All-nil (IsEditOf u));
      fits = λ before. absurd (both_ways x.laid_out before laid);
      solved = λ laid.
          (relaid_given k x.tree u x.edits x.values.items c.relaid.new.values.items x.runner c.relaid.new.runner
          c.in_ok-touched.touched v.tree given).solves;
    }

pub returns-clause-anew : goal.returns-clause-anew
returns-clause-anew c =
    let x = c.self.inside in
    let v = c.self.invariant in
    let k = x.rules.now.checked in
    let s = x.rules.now.schedule in
    let u = c.relaid.new.tree in
    let new = c.relaid.new.values.items in
    let touched = c.in_ok-touched.touched in
    let none : c.new.result ≡ [] = first_of (search rules, cc, grind (arith, common_steps)) in
    let laid : x.laid_out ≡ true =
    are_there x.laid_out x.values.items (SolvesList (meant k) x.tree.tree)
    (subst IsLaidOut (sym c.self.view_is) c.requires.laid_out) in
    subst (λ (es : List Edit). IsLaidOutAnew c.args.self.now (state k s x.laid_out u.tree es new) touched) (sym none)
    (subst (λ (p : PageState). IsLaidOutAnew p (state k s x.laid_out u.tree [] new) touched) c.self.view_is
    (anew k s x.laid_out x.tree u x.edits x.values.items new x.runner c.relaid.new.runner touched v.tree laid
    c.in_ok-touched.ensures.relaid))
