-- Which attributes of a pass's list are of a kind and among some.
use Rattle.std.proofs.Common.{ℕ, Bool, ◌&&◌, List}
use Rattle.ftl_model.specs.lists.Lists.{is_listed}
use Rattle.ftl_model.specs.layout.AttributeGrammar.{AttributeGrammar, Sort}
use Rattle.ftl_order.specs.orders.Sequence.{is_same_sort}

-- the attribute is of this kind, and one of these
abbrev pub is_kept : AttributeGrammar → Sort → List ℕ → (attribute : ℕ) → Bool
is_kept g sort attributes a = is_same_sort (g.sort a) sort && is_listed attributes a
