-- A page that was laid out anew.
use Rattle.std.proofs.Common.{◌≡◌, ℕ, Bool, true, refl, sym, subst, List, [], unwrap_or}
use Rattle.ftl_deps.specs.reads.Meant.{meant}
use Rattle.ftl_edits.specs.declared.meaning.types.Edit.{Edit}
use Rattle.ftl_meaning.specs.faults.Checked.{CheckedGrammar}
use Rattle.ftl_model.specs.layout.Table.{SolvesList}
use Rattle.ftl_model.specs.layout.Tree.{Forest}
use Rattle.ftl_model.specs.layout.Values.{Value}
use Rattle.ftl_nest_check.specs.declared.stages.types.NestingSchedule.{NestingSchedule}
use Rattle.ftl_relayout.proofs.relaid.Relays.{relaid_given, tree_given}
use Rattle.ftl_relayout.specs.relaid.Relaid.{IsRelaid}
use Rattle.ftl_relayout.specs.relayouter.Relaid.{RelayoutGives}
use Rattle.ftl_tree.specs.trees.CheckedTree.{CheckedTree}
use Rattle.ftl_visit.specs.rule_values.Runs.{CountedCode}
use Rattle.maugzeris.specs.pages.PageInside.{values_if}
use Rattle.maugzeris.specs.pages.PageState.{IsLaidOutAnew, PageState}
use Rattle.maugzeris.proofs.pages.Values.{if_there, those_there}

abbrev pub state : CheckedGrammar → NestingSchedule → Bool → Forest → List Edit → List Value → PageState
state k s b t es values =
    record { checked = k; schedule = s; tree = t; edits = es; values = values_if b values }

-- the page after the edits, of which none is left
pub anew : (k : CheckedGrammar) (s : NestingSchedule) (b : Bool) (t u : CheckedTree) (es : List Edit)
    (old new : List Value) (r q : CountedCode) (touched : List ℕ) → t.checked ≡ k → b ≡ true
    → RelayoutGives t u es old new r q touched
    → IsLaidOutAnew (state k s b t.tree es old) (state k s b u.tree [] new) touched
anew k s b t u es old new r q touched grammar laid x =
    let relaid = relaid_given k t u es old new r q touched grammar x in
    record {
      checked = refl;
      schedule = refl;
      tree = tree_given k t u es old new r q touched grammar x;
      edits = refl;
      laid_out = if_there b new (SolvesList (meant k) u.tree) laid relaid.solves;
      relaid =
          subst (λ (vs : List Value). IsRelaid k u.tree vs (unwrap_or (values_if b new) []) touched)
          (sym (those_there b old laid))
          (subst (λ (vs : List Value). IsRelaid k u.tree old vs touched) (sym (those_there b new laid)) relaid);
    }
