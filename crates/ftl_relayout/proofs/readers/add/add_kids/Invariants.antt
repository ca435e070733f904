use Rattle.std.proofs.Common.{ℕ, ◌≤◌, ◌<◌, Contains}
use Rattle.ftl_deps.specs.reads.Products.{name_of_info}
use Rattle.ftl_model.specs.layout.Path.{node_at}
use Rattle.ftl_order.specs.steps.Steps.{target_of_rule}
use Rattle.ftl_relayout.specs.keys.Keys.{key_of}
use Rattle.ftl_relayout.specs.readers.Sites.{Adds, IsKeyOfKid, site_grammar, site_placing}
use Rattle.ftl_relayout.proofs.readers.add.add_kids.Given as goal

-- the keys for the kids before this one have come
abbrev pub invariant-loop-kid : goal.invariant-loop-kid
invariant-loop-kid l = record {
  adds : Adds l.fn.waiting.keys l.waiting.keys (IsKeyOfKid l.site l.node l.reader l.fn.kids);
  all : (n : ℕ) → l.fn.kids.from ≤ n → n < l.kid
      → Contains l.waiting.keys
      (key_of (site_grammar l.site) (site_placing l.site) l.site.tree.now.tree
      (target_of_rule (node_at l.site.tree.now.tree l.node) (name_of_info l.reader.info) n));
}
