-- Trees whose inputs are all 0.
use Rattle.std.specs.Prelude.{◌≡◌, ℕ, zero, suc, List, [], ◌∷◌, length, ℤ, pos}
use Rattle.ftl_model.specs.layout.Tree.{Forest, none, tree}
use Rattle.ftl_model.specs.layout.AttributeGrammar.{AttributeGrammar, class_inputs}

abbrev pub zeros : ℕ → List ℤ
zeros zero = []
zeros (suc n) = pos 0 ∷ zeros n

-- as many zeros as the class has inputs
abbrev pub bare_inputs : AttributeGrammar → ℕ → List ℤ
bare_inputs g class = zeros (length (class_inputs g class))

abbrev pub IsBare : AttributeGrammar → Forest → Type 0
IsBare g none = Unit {0}
IsBare g (tree class child inputs below beside) =
    (inputs ≡ bare_inputs g class) × IsBare g below × IsBare g beside
