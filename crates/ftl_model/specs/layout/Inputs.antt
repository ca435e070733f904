-- Trees that are the same but for the numbers of their inputs.
use Rattle.std.specs.Prelude.{◌≡◌, length}
use Rattle.ftl_model.specs.layout.Tree.{Forest, none, tree}

-- the same classes at the same places, with as many inputs each
abbrev pub IsSameButInputs : Forest → Forest → Type 0
IsSameButInputs none none = Unit {0}
IsSameButInputs none (tree class child inputs below beside) = ⊥
IsSameButInputs (tree class child inputs below beside) none = ⊥
IsSameButInputs (tree class child inputs below beside) (tree class' child' inputs' below' beside') =
    (class ≡ class') × (child ≡ child') × (length inputs ≡ length inputs')
    × IsSameButInputs below below' × IsSameButInputs beside beside'
