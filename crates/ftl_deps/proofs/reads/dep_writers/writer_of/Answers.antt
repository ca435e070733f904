use Rattle.std.proofs.Common.{None, Some, ◌∙◌}
use Rattle.ftl_deps.specs.reads.Meant.{meant}
use Rattle.ftl_deps.specs.reads.Products.{at_product}
use Rattle.ftl_deps.proofs.reads.FirstRules.{writer_found}
use Rattle.ftl_deps.proofs.reads.dep_writers.writer_of.Goals as goal

pub returns-in-None : goal.returns-in-None
returns-in-None c = record {
  writer =
      writer_found (meant c.args.checked.now) c.args.class c.args.read (at_product c.args.first.now) c.requires.first
      None c.in-None.ensures.product;
}

pub returns-in-Some : goal.returns-in-Some
returns-in-Some c = record {
  writer =
      c.first_of.ensures.rule
      ∙ writer_found (meant c.args.checked.now) c.args.class c.args.read (at_product c.args.first.now) c.requires.first
      (Some c.in-Some.product) c.in-Some.ensures.product;
}
