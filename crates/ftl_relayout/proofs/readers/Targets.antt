-- The instance to which a rule gives its value, by the rule's name.
use Rattle.std.proofs.Common.{◌≡◌, ℕ, ◌<◌, refl, sym, ap, ◌∙◌, subst, Option, Some, None, Contains}
use Rattle.std.specs.Option.{IfSome}
use Rattle.ftl_deps.specs.parts.RuleParts.{parts_named, read_meant}
use Rattle.ftl_deps.specs.reads.Meant.{meant}
use Rattle.ftl_deps.specs.reads.Products.{name_of_child, name_of_info}
use Rattle.ftl_step_value.proofs.limits.reads.Entries.{there}
use Rattle.ftl_meaning.specs.declared.faults.info.RuleInfo.{RuleInfo}
use Rattle.ftl_model.specs.layout.AttributeGrammar.{AttributeGrammar, Parts, Read, RuleName, first_then, fold_over, for_child, for_self, plain}
use Rattle.ftl_model.specs.layout.Path.{class_at, down, kids_at, node_at, number_of}
use Rattle.ftl_model.specs.layout.Tree.{size}
use Rattle.ftl_model.specs.layout.TreeOf.{IsTreeOf}
use Rattle.ftl_order.proofs.orders.TreeEquations.{kid_instance}
use Rattle.ftl_order.specs.orders.Lawful.{IsLawful, IsRule, PartsForChild, PartsForSelf, class_of_rule}
use Rattle.ftl_order.specs.steps.Steps.{target_of_rule}
use Rattle.ftl_step_value.proofs.cells.KidCells.{kid_there}
use Rattle.ftl_tree.specs.trees.CheckedTree.{CheckedTree}
use Rattle.ftl_tree.specs.rows.KidRuns.{IsChildOf}
use Rattle.ftl_relayout.specs.declared.readers.reader.Reader.{Reader}
use Rattle.ftl_relayout.specs.declared.readers.reader.When.TheVariants as when
use Rattle.ftl_relayout.specs.readers.Readers.{IsReadWhen, IsReader, IsReaderAt, rule_kids}
use Rattle.ftl_relayout.specs.readers.Sites.{IsTarget}

-- of this attribute
pub target_attribute : (t : CheckedTree) (node : ℕ) (i : RuleInfo) (n : ℕ)
    → (target_of_rule (node_at t.tree node) (name_of_info i) n).attribute ≡ i.attr
target_attribute t node i n = by i.child
  where
    by : (o : Option ℕ) → (target_of_rule (node_at t.tree node) (name_of_child i.class i.attr o) n).attribute ≡ i.attr
    by None = refl
    by (Some c) = refl

module _ (t : CheckedTree) (law : IsLawful (meant t.checked)) (fits : IsTreeOf (meant t.checked) t.tree) (node : ℕ)
    (known : node < size t.tree) (i : RuleInfo) (n : ℕ) where
  -- of the node itself
  pub own_target : i.child ≡ None → IsTarget t node (name_of_info i) n node
  own_target none =
      subst (λ o. IsTarget t node (name_of_child i.class i.attr o) n node) (sym none)
      (record { known = known; is = refl })

  -- of a kid
  pub kid_target : (c : ℕ) → i.child ≡ Some c → IsRule (meant t.checked) (name_of_info i)
      → class_of_rule (name_of_info i) ≡ class_at t.tree (node_at t.tree node)
      → n < rule_kids (name_of_info i) (kids_at t.tree (node_at t.tree node))
      → (r : ℕ) → r ≡ number_of t.tree (down c n (node_at t.tree node)) → IsTarget t node (name_of_info i) n r
  kid_target c some rule of below r is =
      let g = meant t.checked in
      let p = node_at t.tree node in
      let rule' = subst (λ o. IsRule g (name_of_child i.class i.attr o)) some rule in
      let of' = subst (λ o. class_of_rule (name_of_child i.class i.attr o) ≡ class_at t.tree p) some of in
      let below' = subst (λ o. n < rule_kids (name_of_child i.class i.attr o) (kids_at t.tree p)) some below in
      let has =
      (kid_instance g law t.tree fits c n i.attr p (there g law t.tree fits node known) below'
      (subst (λ l. Contains (g.shared (g.child_interface l c)) i.attr) of' rule'.2)).0 in
      let kid = kid_there g t.tree fits node c n known has in
      subst (λ o. IsTarget t node (name_of_child i.class i.attr o) n r) (sym some)
      (record {
        known = subst (λ x. x < size t.tree) (sym is) kid.known;
        is = ap (node_at t.tree) is ∙ kid.stands;
      })

-- ---- readers at a node of the class of their rule

pub class_name : (i : RuleInfo) → class_of_rule (name_of_info i) ≡ i.class
class_name i = by i.child
  where
    by : (o : Option ℕ) → class_of_rule (name_of_child i.class i.attr o) ≡ i.class
    by None = refl
    by (Some c) = refl

module _ (t : CheckedTree) (law : IsLawful (meant t.checked)) (node : ℕ) (known : node < size t.tree) (e : Reader)
    (is : IsReader (meant t.checked) e)
    (of : class_of_rule (name_of_info e.info) ≡ class_at t.tree (node_at t.tree node)) where
  abbrev g : AttributeGrammar
  g = meant t.checked

  declared : (o : Option ℕ) → IsRule g (name_of_child e.info.class e.info.attr o)
      → class_of_rule (name_of_child e.info.class e.info.attr o) ≡ class_at t.tree (node_at t.tree node)
      → IfSome o (IsChildOf g t.tree node)
  declared None rule of = tt
  declared (Some c) rule of = record { known = known; declared = subst (λ k. c < g.child_count k) of rule.1 }

  fold_child : (w : RuleName) → IsRule g w → class_of_rule w ≡ class_at t.tree (node_at t.tree node) → (c : ℕ) (r : Read)
      → IsReadWhen (parts_named g w) (when.EachKid c) r → IsChildOf g t.tree node c
  fold_child (for_self k a) rule of c r reads = by (g.self_rule k a).parts (law.self_parts k a rule) reads
    where
      by : (parts : Parts) → PartsForSelf g k parts → IsReadWhen parts (when.EachKid c) r → IsChildOf g t.tree node c
      by (plain all) may reads = absurd reads
      by (first_then first later) may reads = absurd reads
      by (fold_over d start step) may reads = record {
        known = known;
        declared = subst (λ l. c < g.child_count l) of (subst (λ x. x < g.child_count k) reads.0 may.0.0);
      }
  fold_child (for_child k d a) rule of c r reads = by (g.child_rule k d a).parts (law.child_parts k d a rule) reads
    where
      by : (parts : Parts) → PartsForChild g k d parts → IsReadWhen parts (when.EachKid c) r → IsChildOf g t.tree node c
      by (plain all) may reads = absurd reads
      by (first_then first later) may reads = absurd reads
      by (fold_over f start step) may reads = absurd may

  pub reader_at : IsReaderAt t node e
  reader_at = record {
    child = declared e.info.child is.rule of;
    fold = λ c each.
        fold_child (name_of_info e.info) is.rule of c (read_meant e.read)
        (subst (λ x. IsReadWhen (parts_named g (name_of_info e.info)) x (read_meant e.read)) each is.reads);
  }
