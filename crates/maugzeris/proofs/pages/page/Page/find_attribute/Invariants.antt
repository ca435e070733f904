use Rattle.std.proofs.Common.{◌≡◌, ◌≢◌, ℕ, take}
use Rattle.std.specs.List.{All}
use Rattle.ftl_deps.specs.reads.Meant.{meant}
use Rattle.ftl_meaning.specs.faults.Checked.{attribute_at}
use Rattle.ftl_model.specs.layout.AttributeGrammar.{attributes_of}
use Rattle.maugzeris.specs.pages.PageState.{class_on}
use Rattle.maugzeris.proofs.pages.page.Page.find_attribute.Given as goal

-- none of the attributes so far has the name
abbrev pub invariant-loop-attr : goal.invariant-loop-attr
invariant-loop-attr l =
    (l.attr-items ≡ attributes_of (meant l.self.checked) (class_on l.self l.node))
    × All (λ (a : ℕ). (attribute_at l.self.checked.grammar a).decl.name ≢ l.name) (take l.attr-index l.attr-items)
