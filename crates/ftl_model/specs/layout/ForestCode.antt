-- How a value that is a family of trees is told from another: by the list of its nodes.
use Rattle.std.specs.Prelude.{ℕ, List, ℤ, refl}
use Rattle.std.specs.Coded.{Coded, code_by, coded×, coded_ℕ, coded_ℤ, coded_list}
use Rattle.ftl_model.specs.layout.Tree.{Forest}
use Rattle.ftl_model.specs.layout.Shape.{Shape, shape, shapes, forest_of}
use Rattle.ftl_model.specs.layout.ShapeLaws.{forest_of-shapes}

-- a node, as its four parts
abbrev pub shape_code : Coded Shape
shape_code =
    code_by (ℕ × (ℕ × (List ℤ × ℕ)))
    (coded× coded_ℕ (coded× coded_ℕ (coded× (coded_list coded_ℤ) coded_ℕ)))
    (λ s. (s.class, (s.child, (s.inputs, s.below))))
    (λ p. shape p.0 p.1.0 p.1.1.0 p.1.1.1)
    (λ _. refl)

-- a family of trees, as the list of its nodes
abbrev pub forest_code : Coded Forest
forest_code = code_by (List Shape) (coded_list shape_code) shapes forest_of forest_of-shapes
