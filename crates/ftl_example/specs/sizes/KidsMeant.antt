-- Kids as code has them.
use Rattle.std.specs.Prelude.{ℕ, ◌<◌, List, [], ◌∷◌}
use Rattle.ftl_example.specs.sizes.Place.{Kid, any, of_class}
use Rattle.ftl_example.specs.declared.sizes.kid.Kid as code_kid
use Rattle.ftl_example.specs.declared.sizes.kid.Kid.TheVariants as kid
use Rattle.ftl_example.specs.declared.sizes.kid.Kids.{Kids}
use Rattle.ftl_example.specs.declared.sizes.kid.Kids.TheVariants as kids

-- the kid that code calls so
abbrev pub kid_meant : code_kid.Kid → Kid
kid_meant kid.Any = any
kid_meant (kid.OfClass k) = of_class k

-- the kids
abbrev pub kids_meant : Kids → List Kid
kids_meant kids.Nothing = []
kids_meant (kids.One x) = kid_meant x ∷ []
kids_meant (kids.Two x y) = kid_meant x ∷ kid_meant y ∷ []

-- a kid of a class is of one that there is
abbrev pub IsKnownKid : (classes : ℕ) → code_kid.Kid → Type 0
IsKnownKid classes kid.Any = Unit {0}
IsKnownKid classes (kid.OfClass k) = k < classes

-- each of these is
abbrev pub AreKnownKids : (classes : ℕ) → Kids → Type 0
AreKnownKids classes kids.Nothing = Unit {0}
AreKnownKids classes (kids.One x) = IsKnownKid classes x
AreKnownKids classes (kids.Two x y) = IsKnownKid classes x × IsKnownKid classes y
