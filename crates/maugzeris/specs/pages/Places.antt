-- Where the nodes of a page stand below their parents.
use Rattle.std.specs.Prelude.{ℕ, List, Option, Some, None, if◌then◌else◌}
use Rattle.std.specs.Option.{option_map}
use Rattle.ftl_grammar.specs.declared.syntax.rules.Child.{Child}
use Rattle.ftl_meaning.specs.faults.Numbering.{child_at}
use Rattle.ftl_model.specs.layout.Path.{Path, class_at, down, kid_at, node_at, top}
use Rattle.maugzeris.specs.pages.PageState.{PageState}

-- the child in which a node stands, as the class of its parent declares it; none of the root
abbrev pub child_along : PageState → Path → Option Child
child_along p top = None
child_along p (down child kid above) = Some (child_at p.checked.grammar (class_at p.tree above) child)

-- the same of a node by its number
abbrev pub child_on : PageState → (node : ℕ) → Option Child
child_on p n = child_along p (node_at p.tree n)

-- the name of that child
abbrev pub child_name_on : PageState → (node : ℕ) → Option (List ℕ)
child_name_on p n = option_map (λ c. c.name) (child_on p n)

-- the kid's number, if the child is a list
abbrev pub kid_if : Option Child → (kid : ℕ) → Option ℕ
kid_if None kid = None
kid_if (Some c) kid = if c.many then Some kid else None

-- as which of the kids of a list a node stands, from 0; none of the root, and of a single child
abbrev pub kid_on : PageState → (node : ℕ) → Option ℕ
kid_on p n = kid_if (child_on p n) (kid_at (node_at p.tree n))
