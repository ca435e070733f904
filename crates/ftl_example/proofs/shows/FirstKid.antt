-- The first of some trees fits its class and its place (private in ftl_model).
use Rattle.ftl_model.specs.layout.Tree.{Forest, none, tree, IsTree, class_of, child_of, inputs_of, below_of}
use Rattle.ftl_model.specs.layout.AttributeGrammar.{AttributeGrammar}
use Rattle.ftl_model.specs.layout.TreeOf.{FitBelow, FitsClass, FitsChild}

module _ (g : AttributeGrammar) where
  pub first_fits : (above : _) (f : Forest) → IsTree f → FitBelow g above f
      → FitsClass g (class_of f) (inputs_of f) (below_of f) × FitBelow g (class_of f) (below_of f)
  first_fits above none is h = absurd is
  first_fits above (tree k d i b s) is h = (h.1, h.2)

  pub first_stands : (above : _) (f : Forest) → IsTree f → FitBelow g above f → FitsChild g above (child_of f) (class_of f)
  first_stands above none is h = absurd is
  first_stands above (tree k d i b s) is h = h.0
