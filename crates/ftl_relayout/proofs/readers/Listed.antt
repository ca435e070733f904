-- The list of an attribute's readers that stand for a class.
use Rattle.std.proofs.Common.{◌≡◌, ℕ, ◌<◌, List, [], ap, ◌∙◌, get_or, length, subst, sym, Contains}
use Rattle.std.proofs.lemmas.List.{get_or_default}
use Rattle.std.proofs.lemmas.List.Elements.{Contains-get_or}
use Rattle.ftl_deps.specs.reads.Products.{name_of_info}
use Rattle.ftl_step_value.proofs.limits.reads.Entries.{class_in_range}
use Rattle.ftl_step_value.specs.limits.reads.ReadTables.{class_in}
use Rattle.ftl_model.specs.layout.AttributeGrammar.{AttributeGrammar}
use Rattle.ftl_model.specs.layout.Tree.{size}
use Rattle.ftl_model.specs.layout.TreeOf.{IsTreeOf}
use Rattle.ftl_order.specs.orders.Lawful.{IsLawful, class_of_rule}
use Rattle.ftl_relayout.specs.declared.readers.add.ReaderSite.{ReaderSite}
use Rattle.ftl_relayout.specs.declared.readers.reader.Reader.{Reader}
use Rattle.ftl_relayout.specs.declared.readers.reader.Whose.{Whose}
use Rattle.ftl_relayout.specs.readers.Readers.{AreReaders, IsReader, attribute_read, list_at, readers_for, whose_read}
use Rattle.ftl_relayout.specs.readers.Sites.{site_grammar}
use Rattle.ftl_relayout.proofs.readers.ListPlaces.{list_within}

-- the class of a node is one of the grammar's
pub class_here : (x : ReaderSite) → IsLawful (site_grammar x) → IsTreeOf (site_grammar x) x.tree.now.tree
    → (node class : ℕ) → node < size x.tree.now.tree → class ≡ class_in x.tree.now node
    → class < (site_grammar x).class_count
class_here x law fits node class known is =
    subst (λ k. k < (site_grammar x).class_count) (sym is)
    (class_in_range (site_grammar x) law x.tree.now.tree fits node known)

module _ (g : AttributeGrammar) (lists : List (List Reader)) (are : AreReaders g lists) (a k : ℕ) (o : Whose)
    (class : k < g.class_count) where
  pub list_there : (n : ℕ) → a < g.attribute_count → n ≡ list_at g.class_count a k o → n < length lists
  list_there n known is =
      subst (λ m. m < length lists) (sym is)
      (subst (λ m. list_at g.class_count a k o < m) (sym are.long) (list_within g.class_count a k o g.attribute_count class known))

  pub list_is : (n : ℕ) (list other : List Reader) → a < g.attribute_count → n ≡ list_at g.class_count a k o
      → list ≡ get_or lists n other → list ≡ readers_for g lists a k o
  list_is n list other known at is =
      is ∙ get_or_default lists n other [] (list_there n known at) ∙ ap (λ m. get_or lists m []) at

  pub listed_reader : (list : List Reader) → list ≡ readers_for g lists a k o → (j : ℕ) (d : Reader) → j < length list
      → IsReader g (get_or list j d) × (attribute_read (get_or list j d).read ≡ a)
      × (class_of_rule (name_of_info (get_or list j d).info) ≡ k) × (whose_read (get_or list j d).read ≡ o)
  listed_reader list is j d below =
      are.only a k o (get_or list j d) class (subst (λ l. Contains l (get_or list j d)) is (Contains-get_or list j d below))
