use Rattle.std.proofs.Common.{ℕ, ◌<◌, Contains, get_or}
use Rattle.ftl_model.specs.layout.Path.{node_at}
use Rattle.ftl_relayout.specs.declared.readers.reader.Reader.{Reader}
use Rattle.ftl_relayout.specs.readers.Readers.{IsKeyBy, seen_as}
use Rattle.ftl_relayout.specs.readers.Sites.{Adds, IsReaderKeyAt, site_grammar, site_placing}
use Rattle.ftl_relayout.proofs.readers.add.add_at.Given as goal

-- what reads it by the readers before this one has come
abbrev pub invariant-loop-reader : goal.invariant-loop-reader
invariant-loop-reader l = record {
  adds : Adds l.fn.waiting.keys l.waiting.keys (IsReaderKeyAt l.site l.node (seen_as l.place l.attr));
  all : (j : ℕ) (d : Reader) → j < l.reader-index → (k : ℕ)
      → IsKeyBy (site_grammar l.site) (site_placing l.site) l.site.tree.now.tree (node_at l.site.tree.now.tree l.node)
      (seen_as l.place l.attr) (get_or l.list j d) k
      → Contains l.waiting.keys k;
}
