-- What trees that are the same but for their inputs have in common.
use Rattle.std.specs.Prelude.{◌≡◌, ◌↔◌}
use Rattle.ftl_model.specs.layout.Tree.{Forest}
use Rattle.ftl_model.specs.layout.Path.{Path, Has, class_at, kids_at, size_at, number_of, preorder}
use Rattle.ftl_model.specs.layout.AttributeGrammar.{AttributeGrammar}
use Rattle.ftl_model.specs.layout.Solves.{Instance, IsInstance}
use Rattle.ftl_model.specs.layout.Table.{instances, instance_count, instance_number}
use Rattle.ftl_model.specs.layout.Inputs.{IsSameButInputs}

-- of any two such trees
abbrev pub OfSameTrees : (Forest → Forest → Type 0) → Type 0
OfSameTrees P = (t u : Forest) → IsSameButInputs t u → P t u

-- the same nodes
abbrev pub HaveSameNodes : Forest → Forest → Type 0
HaveSameNodes t u = (p : Path) → Has t p ↔ Has u p

-- each node has the same class in both
abbrev pub HaveSameClasses : Forest → Forest → Type 0
HaveSameClasses t u = (p : Path) → class_at t p ≡ class_at u p

-- each node has as many kids in each child
abbrev pub HaveSameKids : Forest → Forest → Type 0
HaveSameKids t u = (p : Path) → kids_at t p ≡ kids_at u p

-- each node has as many nodes below it
abbrev pub HaveSameSizes : Forest → Forest → Type 0
HaveSameSizes t u = (p : Path) → size_at t p ≡ size_at u p

-- each node has the same number in preorder
abbrev pub HaveSameNumbers : Forest → Forest → Type 0
HaveSameNumbers t u = (p : Path) → number_of t p ≡ number_of u p

-- the nodes stand in the same order
abbrev pub HaveSamePreorder : Forest → Forest → Type 0
HaveSamePreorder t u = preorder t ≡ preorder u

-- the same instances, with the same numbers
abbrev pub HaveSameInstances : Forest → Forest → Type 0
HaveSameInstances t u = (g : AttributeGrammar) (i : Instance) → IsInstance g t i ↔ IsInstance g u i

-- the lists of instances are equal
abbrev pub ListSameInstances : Forest → Forest → Type 0
ListSameInstances t u = (g : AttributeGrammar) → instances g t ≡ instances g u

-- there are as many instances
abbrev pub CountSameInstances : Forest → Forest → Type 0
CountSameInstances t u = (g : AttributeGrammar) → instance_count g t ≡ instance_count g u

-- each instance has the same number
abbrev pub NumberSameInstances : Forest → Forest → Type 0
NumberSameInstances t u = (g : AttributeGrammar) (i : Instance) → instance_number g t i ≡ instance_number g u i
