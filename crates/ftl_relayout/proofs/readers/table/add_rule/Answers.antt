use Rattle.std.proofs.Common.{◌≡◌, map, ap, sym, subst}
use Rattle.std.proofs.lemmas.Grind.{common_steps}
use Rattle.std.proofs.Common.{arith}
use Rattle.ftl_deps.specs.declared.parts.rule_parts.RuleParts.TheVariants.{FirstThen, FoldOver, Plain}
use Rattle.ftl_deps.specs.parts.RuleParts.{parts_meant, read_meant}
use Rattle.ftl_model.specs.layout.AttributeGrammar.{Parts, first_then, fold_over, plain}
use Rattle.ftl_relayout.specs.declared.readers.reader.When.TheVariants as when
use Rattle.ftl_relayout.specs.readers.Tables.{Comes, IsOfParts, IsOfReads}
use Rattle.ftl_relayout.proofs.queue.Trails.{on_ok}
use Rattle.ftl_relayout.proofs.readers.Comings.{comes_as, comes_both, each_of, first_of, later_of, of_fold, of_plain, of_two, plain_of, start_of}
use Rattle.ftl_relayout.proofs.readers.table.add_rule.Goals as goal

pub returns-in-Plain : goal.returns-in-Plain
returns-in-Plain c =
    let i = c.args.info in
    let qs = c.as_slice.result.now in
    let same : c.args.parts.now ≡ Plain qs = grind (arith, common_steps) in
    record {
      comes =
          on_ok c.add_reads.result
          (λ came.
          subst (λ (p : Parts). Comes c.args.classes c.args.lists.now c.add_reads.new.lists (IsOfParts i p)) (sym (ap parts_meant same))
          (comes_as c.args.classes c.args.lists.now c.add_reads.new.lists (IsOfReads i when.Always qs) (IsOfParts i (plain (map read_meant qs)))
          came (of_plain i qs) (plain_of i qs)))
          c.add_reads.ensures.comes;
    }

pub returns-in_ok-add_reads-in-FirstThen : goal.returns-in_ok-add_reads-in-FirstThen
returns-in_ok-add_reads-in-FirstThen c =
    let i = c.args.info in
    let xs = c.as_slice-in-FirstThen.result.now in
    let ys = c.as_slice-in-FirstThen-2.result.now in
    let same : c.args.parts.now ≡ FirstThen xs ys = grind (arith, common_steps) in
    record {
      comes =
          on_ok c.add_reads-in-FirstThen-2.result
          (λ came.
          subst (λ (p : Parts). Comes c.args.classes c.args.lists.now c.add_reads-in-FirstThen-2.new.lists (IsOfParts i p))
          (sym (ap parts_meant same))
          (comes_both c.args.classes c.args.lists.now c.add_reads-in-FirstThen.new.lists c.add_reads-in-FirstThen-2.new.lists
          (IsOfReads i when.First xs) (IsOfReads i when.Later ys)
          (IsOfParts i (first_then (map read_meant xs) (map read_meant ys)))
          c.in_ok-add_reads-in-FirstThen.ensures.comes came (of_two i xs ys) (first_of i xs ys) (later_of i xs ys)))
          c.add_reads-in-FirstThen-2.ensures.comes;
    }

pub returns-in_ok-add_reads-in-FoldOver : goal.returns-in_ok-add_reads-in-FoldOver
returns-in_ok-add_reads-in-FoldOver c =
    let i = c.args.info in
    let child = c.in-FoldOver.child in
    let xs = c.as_slice-in-FoldOver.result.now in
    let ys = c.as_slice-in-FoldOver-2.result.now in
    let same : c.args.parts.now ≡ FoldOver child xs ys = grind (arith, common_steps) in
    record {
      comes =
          on_ok c.add_reads-in-FoldOver-2.result
          (λ came.
          subst (λ (p : Parts). Comes c.args.classes c.args.lists.now c.add_reads-in-FoldOver-2.new.lists (IsOfParts i p))
          (sym (ap parts_meant same))
          (comes_both c.args.classes c.args.lists.now c.add_reads-in-FoldOver.new.lists c.add_reads-in-FoldOver-2.new.lists
          (IsOfReads i when.Always xs) (IsOfReads i (when.EachKid child) ys)
          (IsOfParts i (fold_over child (map read_meant xs) (map read_meant ys)))
          c.in_ok-add_reads-in-FoldOver.ensures.comes came (of_fold i child xs ys) (start_of i child xs ys)
          (each_of i child xs ys)))
          c.add_reads-in-FoldOver-2.ensures.comes;
    }
