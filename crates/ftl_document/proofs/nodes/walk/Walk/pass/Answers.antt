use Rattle.std.proofs.Common.{suc, ◌+◌, ◌∷◌, ◌<◌, ◌∙◌, refl, sym, subst, ap, ap₂, arith, List, length}
use Rattle.ftl_document.specs.declared.syntax.row.WrittenRow.TheVariants as rows
use Rattle.ftl_meaning.specs.faults.Numbering.{class_at}
use Rattle.ftl_document.specs.faults.Nodes.{child_number}
use Rattle.ftl_document.specs.nodes.Walk.{wanted_of}
use Rattle.ftl_tree.specs.declared.rows.row.Place.{Place}
use Rattle.ftl_document.specs.nodes.Steps.{list_region}
use Rattle.ftl_document.specs.declared.nodes.stack.Region.{Region}
use Rattle.ftl_document.proofs.nodes.NextSteps.{class_known, kid_next, next_as, step_at}
use Rattle.ftl_document.proofs.nodes.Steps.{single_place}
use Rattle.ftl_document.proofs.nodes.walk.Walk.pass.Goals as goal

pub child_number-child-requires : goal.child_number-child-requires
child_number-child-requires c =
    let w = c.requires.walked in
    record {
      ready = c.requires.ready;
      within = class_known c.args.self.now.checked.now.grammar w.node c.args.self.now.rows.now
          c.args.progress.now c.args.region c.requires.within w.walked;
    }

pub next_node-next-requires-clause-class : goal.next_node-next-requires-clause-class
next_node-next-requires-clause-class c =
    let w = c.requires.walked in
    class_known c.args.self.now.checked.now.grammar w.node c.args.self.now.rows.now c.args.progress.now
    c.args.region c.requires.within w.walked

pub next_node-next-requires-clause-child : goal.next_node-next-requires-clause-child
next_node-next-requires-clause-child c =
    let w = c.requires.walked in
    let g = c.args.self.now.checked.now.grammar in
    let r = c.args.region in
    let f = step_at g w.node c.args.self.now.rows.now c.args.progress.now r c.requires.within w.walked
    c.args.row.now (rows.Single c.in-Single.name c.in-Single.class c.in-Single.below) c.in-Single.is c.requires.row in
    subst (λ n. n < length (class_at g r.class).children) (sym c.child_number-child.ensures.child) f.0

pub enter-requires-clause-next : goal.enter-requires-clause-next
enter-requires-clause-next c =
    let w = c.requires.walked in
    let g = c.args.self.now.checked.now.grammar in
    let r = c.args.region in
    let p = c.args.progress.now in
    let xs = c.args.self.now.rows.now in
    let t = c.next_node-next.ensures in
    let next = c.next_node-next.result in
    let child = child_number g r.class c.in-Single.name in
    let f = step_at g w.node xs p r c.requires.within w.walked c.args.row.now
    (rows.Single c.in-Single.name c.in-Single.class c.in-Single.below) c.in-Single.is c.requires.row in
    record {
      node = w.node;
      is = next_as g w.node xs p c.in-Single.class next.class.now (wanted_of g r.class child) next.wanted
          (suc p.at) next.from (suc p.at + c.in-Single.below) next.end r.node next.parent (single_place child)
          next.place t.name (t.wanted ∙ ap (wanted_of g r.class) c.child_number-child.ensures.child) t.from t.end
          t.parent (t.place ∙ ap single_place c.child_number-child.ensures.child) f.1;
    }

pub returns-in-Single-clause-exact : goal.returns-in-Single-clause-exact
returns-in-Single-clause-exact c node h =
    let g = c.args.self.now.checked.now.grammar in
    let r = c.args.region in
    let p = c.args.progress.now in
    let xs = c.args.self.now.rows.now in
    let t = c.next_node-next.ensures in
    let next = c.next_node-next.result in
    let child = child_number g r.class c.in-Single.name in
    let f = step_at g node xs p r c.requires.within h c.args.row.now
    (rows.Single c.in-Single.name c.in-Single.class c.in-Single.below) c.in-Single.is c.requires.row in
    c.enter.ensures.exact node
    (next_as g node xs p c.in-Single.class next.class.now (wanted_of g r.class child) next.wanted
    (suc p.at) next.from (suc p.at + c.in-Single.below) next.end r.node next.parent (single_place child) next.place
    t.name (t.wanted ∙ ap (wanted_of g r.class) c.child_number-child.ensures.child) t.from t.end t.parent
    (t.place ∙ ap single_place c.child_number-child.ensures.child) f.1)

pub returns-in-Number-clause-exact : goal.returns-in-Number-clause-exact
returns-in-Number-clause-exact c node h =
    let g = c.args.self.now.checked.now.grammar in
    let f = step_at g node c.args.self.now.rows.now c.args.progress.now c.args.region c.requires.within h
    c.args.row.now (rows.Number c.in-Number.name c.in-Number.value) c.in-Number.is c.requires.row in
    f _ (record {
      stack = c.requires.within.stack;
      at = omega arith;
      number = refl;
      count = refl;
      rows = refl;
      inputs = refl;
    })

pub child_number-child-requires-in-List : goal.child_number-child-requires-in-List
child_number-child-requires-in-List c =
    let w = c.requires.walked in
    record {
      ready = c.requires.ready;
      within = class_known c.args.self.now.checked.now.grammar w.node c.args.self.now.rows.now
          c.args.progress.now c.args.region c.requires.within w.walked;
    }

pub returns-in_ok-open_list-in-List-clause-exact : goal.returns-in_ok-open_list-in-List-clause-exact
returns-in_ok-open_list-in-List-clause-exact c node h =
    let g = c.args.self.now.checked.now.grammar in
    let r = c.args.region in
    let p = c.args.progress.now in
    let f = step_at g node c.args.self.now.rows.now p r c.requires.within h c.args.row.now
    (rows.List c.in-List.name c.in-List.below) c.in-List.is c.requires.row in
    let told = c.in_ok-open_list-in-List.ensures.passed in
    f.1 c.open_list.new.self
    (record {
      stack = told.stack
          ∙ ap₂ (λ n (rs : List Region). list_region (suc p.at + c.in-List.below) r n ∷ rs)
          c.child_number-child-in-List.ensures.child c.requires.within.stack;
      at = told.at;
      number = told.number;
      count = told.count;
      rows = told.rows;
      inputs = told.inputs;
    })

pub next_node-next-requires-in-Kid-clause-class : goal.next_node-next-requires-in-Kid-clause-class
next_node-next-requires-in-Kid-clause-class c =
    let w = c.requires.walked in
    class_known c.args.self.now.checked.now.grammar w.node c.args.self.now.rows.now c.args.progress.now
    c.args.region c.requires.within w.walked

pub next_node-next-requires-in-Kid-clause-child : goal.next_node-next-requires-in-Kid-clause-child
next_node-next-requires-in-Kid-clause-child c =
    let w = c.requires.walked in
    let g = c.args.self.now.checked.now.grammar in
    let r = c.args.region in
    let f = step_at g w.node c.args.self.now.rows.now c.args.progress.now r c.requires.within w.walked
    c.args.row.now (rows.Kid c.in-Kid.class c.in-Kid.below) c.in-Kid.is c.requires.row in
    subst (λ (x : Place). x.child < length (class_at g r.class).children) (sym c.place_of_kid-place.ensures.place) f.0

pub with_next_kid-requires : goal.with_next_kid-requires
with_next_kid-requires c =
    let w = c.requires.walked in
    let g = c.args.self.now.checked.now.grammar in
    let r = c.args.region in
    let f = step_at g w.node c.args.self.now.rows.now c.args.progress.now r c.requires.within w.walked
    c.args.row.now (rows.Kid c.in-Kid.class c.in-Kid.below) c.in-Kid.is c.requires.row in
    let kids = f.1 in
    let nodes = w.walked.nodes in
    let few = w.walked.few in
    record { few = omega (arith, kids, nodes, few) }

pub enter-requires-in-Kid-clause-next : goal.enter-requires-in-Kid-clause-next
enter-requires-in-Kid-clause-next c =
    let w = c.requires.walked in
    let g = c.args.self.now.checked.now.grammar in
    let r = c.args.region in
    let p = c.args.progress.now in
    let xs = c.args.self.now.rows.now in
    let t = c.next_node-next-in-Kid.ensures in
    let next = c.next_node-next-in-Kid.result in
    let f = step_at g w.node xs p r c.requires.within w.walked c.args.row.now
    (rows.Kid c.in-Kid.class c.in-Kid.below) c.in-Kid.is c.requires.row in
    record {
      node = w.node;
      is = kid_next g w.node xs p r c.requires.within.outer c.replace.new.self c.with_next_kid.result c.in-Kid.class
          c.in-Kid.below next c.requires.within.stack c.with_next_kid.ensures.next c.in_ok-replace-in-Kid.ensures.replaced
          t.name (t.wanted ∙ ap (λ (x : Place). wanted_of g r.class x.child) c.place_of_kid-place.ensures.place)
          t.from t.end t.parent (t.place ∙ c.place_of_kid-place.ensures.place) f.2;
    }

pub returns-in_ok-replace-in-Kid-clause-exact : goal.returns-in_ok-replace-in-Kid-clause-exact
returns-in_ok-replace-in-Kid-clause-exact c node h =
    let g = c.args.self.now.checked.now.grammar in
    let r = c.args.region in
    let p = c.args.progress.now in
    let xs = c.args.self.now.rows.now in
    let t = c.next_node-next-in-Kid.ensures in
    let next = c.next_node-next-in-Kid.result in
    let f = step_at g node xs p r c.requires.within h c.args.row.now
    (rows.Kid c.in-Kid.class c.in-Kid.below) c.in-Kid.is c.requires.row in
    c.enter-in-Kid.ensures.exact node
    (kid_next g node xs p r c.requires.within.outer c.replace.new.self c.with_next_kid.result c.in-Kid.class
    c.in-Kid.below next c.requires.within.stack c.with_next_kid.ensures.next c.in_ok-replace-in-Kid.ensures.replaced
    t.name (t.wanted ∙ ap (λ (x : Place). wanted_of g r.class x.child) c.place_of_kid-place.ensures.place)
    t.from t.end t.parent (t.place ∙ c.place_of_kid-place.ensures.place) f.2)
