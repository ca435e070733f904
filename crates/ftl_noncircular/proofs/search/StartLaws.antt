-- Where the walks of a class start and end.
use Rattle.std.proofs.Common.{◌≡◌, ℕ, ◌<◌, true, List, length, get_or, sym, ap, ◌∙◌, subst, arith}
use Rattle.ftl_model.specs.layout.AttributeGrammar.{AttributeGrammar}
use Rattle.ftl_noncircular.specs.walks.WalkTables.{EndWithin, WalkTable}
use Rattle.ftl_noncircular.specs.declared.search.shape.Shape.{Shape}
use Rattle.ftl_noncircular.specs.search.Numbers.{vertex_count}
use Rattle.ftl_noncircular.specs.search.Pairs.{AreWalksOf, StartAtPorts}
use Rattle.ftl_noncircular.specs.search.Searches.{HasReads, Rows}
use Rattle.ftl_noncircular.specs.search.Shapes.{IsShapeOf, inherited_of}
use Rattle.ftl_noncircular.specs.search.Tables.{IsTable}
use Rattle.ftl_noncircular.proofs.search.NumberLaws.{number_low}

module _ (g : AttributeGrammar) (s : Shape) (shape : IsShapeOf g s) (k : ℕ) (known : k < g.class_count) where
  abbrev sources : List ℕ
  sources = inherited_of s (g.interface k)

  pub source_known : (j : ℕ) → j < length sources → get_or sources j 0 < g.attribute_count
  source_known j within =
      let i = shape.classes.interfaces_known k known in
      shape.attributes.shared_known (g.interface k) (get_or sources j 0) i
      ((shape.ports.inherited (g.interface k) i).are j within).0

  source_low : (j : ℕ) → j < length sources → get_or s.places (get_or sources j 0) 0 < 64
  source_low j within =
      let i = shape.classes.interfaces_known k known in
      shape.attributes.places.child_low (g.interface k) (get_or sources j 0) i
      ((shape.ports.inherited (g.interface k) i).are j within).0

  -- the starts, attribute by attribute
  pub starts_are : (starts attrs : List ℕ) (count : ℕ) → attrs ≡ sources → count ≡ length attrs
      → IsTable (λ j x. x ≡ get_or s.places (get_or attrs j 0) 0) 0 count starts → StartAtPorts g s k starts
  starts_are starts attrs count are all table = record {
    count = table.size ∙ all ∙ ap length are;
    each = λ j within.
        table.each j (let e = table.size in omega (arith, e, within))
        ∙ ap (λ (xs : List ℕ). get_or s.places (get_or xs j 0) 0) are;
  }

  pub starts_low : (starts : List ℕ) (edges : Rows) → StartAtPorts g s k starts → length edges ≡ vertex_count g k
      → (j : ℕ) → j < length starts → get_or starts j 0 < length edges
  starts_low starts edges are size j within =
      let at = are.each j within in
      let e = are.count in
      let low = source_low j (omega (arith, e, within)) in
      omega (arith, at, low, size)

  pub ends_low : (edges : Rows) → HasReads g s.places true k edges → EndWithin edges
  ends_low edges has a b e =
      let h = has.are a b e in
      let low = number_low g s.places shape.attributes.places k known
      (λ c under. shape.classes.children_known k c known under) h.1 h.4.1 in
      let at = h.3 in
      let size = has.size in
      omega (arith, low, at, size)

pub walks_by : (g : AttributeGrammar) (s : Shape) (k : ℕ) (edges : Rows) (starts : List ℕ) (w : WalkTable)
    → w.edges ≡ edges → w.starts ≡ starts → HasReads g s.places true k edges → StartAtPorts g s k starts
    → AreWalksOf g s k w
walks_by g s k edges starts w same_edges same_starts has are = record {
  starts = subst (StartAtPorts g s k) (sym same_starts) are;
  edges = subst (HasReads g s.places true k) (sym same_edges) has;
}
