-- What instances read, by the rules that the tables have.
use Rattle.std.proofs.Common.{◌≡◌, ℕ, ◌<◌, length, Some, None, refl, sym, ◌∙◌, ap, subst, inl, inr}
use Rattle.std.proofs.lemmas.List.{length-map}
use Rattle.std.proofs.lemmas.List.Elements.{Contains-get_or}
use Rattle.std.proofs.lemmas.List.Quantifiers.{position-Some}
use Rattle.ftl_model.specs.layout.AttributeGrammar.{AttributeGrammar, Sort, for_child, for_self, inherited, input, local, read_occurrences, synthesized}
use Rattle.ftl_model.specs.layout.Path.{Has, Path, class_at, down, kids_at, top}
use Rattle.ftl_model.specs.layout.Solves.{instance_of, seen_from}
use Rattle.ftl_model.specs.layout.Tree.{Forest}
use Rattle.ftl_model.specs.layout.TreeOf.{IsTreeOf}
use Rattle.ftl_order.specs.orders.Lawful.{IsLawful, IsOwnSort, IsRule, OfClass, class_of_rule}
use Rattle.ftl_order.specs.orders.Reads.{equation_reads}
use Rattle.ftl_order.proofs.orders.TreeEquations.{kid_rule, own_rule, root_inherits_nothing}
use Rattle.ftl_order.specs.dependencies.Writers.{is_of_class}
use Rattle.ftl_order.proofs.dependencies.ClassRules.{kid_is, kid_passes, own_is, own_passes}
use Rattle.ftl_order.proofs.dependencies.Places.{none_passes}
use Rattle.ftl_items.specs.stage_items.Limits.{read_count}
use Rattle.ftl_deps.specs.parts.RuleParts.{parts_named}
use Rattle.ftl_visit.specs.visits.Visits.{rule_number}
use Rattle.ftl_step_value.specs.limits.reads.ReadTables.{rule_at}

-- a rule of a number, with what it reads
pub record ReadsBy (g : AttributeGrammar) (t : Forest) (r : ℕ) (runs_at : Path) (number : ℕ) (p : Path) (a : ℕ) :
    Type 0 where
  pub within : r < length g.rules
  pub class : class_of_rule (rule_at g r) ≡ class_at t runs_at
  pub reads : read_count g t (instance_of p a)
      ≡ length (read_occurrences (parts_named g (rule_at g r)) (kids_at t runs_at) number)

module _ (g : AttributeGrammar) (law : IsLawful g) (t : Forest) (fits : IsTreeOf g t) where
  own_reads : (sort : Sort) (p : Path) (a : ℕ) → g.sort a ≡ sort → IsOwnSort sort
      → read_count g t (instance_of p a)
      ≡ length (read_occurrences (parts_named g (for_self (class_at t p) a)) (kids_at t p) 0)
  own_reads sort p a is (inl e) =
      ap (λ s. length (equation_reads g t s p a)) (is ∙ e)
      ∙ length-map (read_occurrences (g.self_rule (class_at t p) a).parts (kids_at t p) 0) (seen_from p)
  own_reads sort p a is (inr e) =
      ap (λ s. length (equation_reads g t s p a)) (is ∙ e)
      ∙ length-map (read_occurrences (g.self_rule (class_at t p) a).parts (kids_at t p) 0) (seen_from p)

  -- the node's own class has the rule
  pub by_own_rule : (p : Path) (a r : ℕ) → rule_number g (class_at t p) None a ≡ Some r → ReadsBy g t r p 0 p a
  by_own_rule p a r found =
      let at = position-Some (is_of_class (class_at t p) None a) g.rules r (for_self 0 0) found in
      let is : rule_at g r ≡ for_self (class_at t p) a = own_is (class_at t p) a (rule_at g r) at.1 in
      let rule : IsRule g (for_self (class_at t p) a) =
      subst (IsRule g) is (law.rules_are (rule_at g r) (Contains-get_or g.rules r (for_self 0 0) at.0)) in
      record {
        within = at.0;
        class = ap class_of_rule is;
        reads =
            own_reads (g.sort a) p a refl rule.2
            ∙ ap (λ w. length (read_occurrences (parts_named g w) (kids_at t p) 0)) (sym is);
      }

  -- the class of the node above has it
  pub by_kid_rule : (c k : ℕ) (q : Path) (a r : ℕ) → rule_number g (class_at t q) (Some c) a ≡ Some r
      → ReadsBy g t r q k (down c k q) a
  by_kid_rule c k q a r found =
      let at = position-Some (is_of_class (class_at t q) (Some c) a) g.rules r (for_self 0 0) found in
      let is : rule_at g r ≡ for_child (class_at t q) c a = kid_is (class_at t q) c a (rule_at g r) at.1 in
      let rule : IsRule g (for_child (class_at t q) c a) =
      subst (IsRule g) is (law.rules_are (rule_at g r) (Contains-get_or g.rules r (for_self 0 0) at.0)) in
      record {
        within = at.0;
        class = ap class_of_rule is;
        reads =
            ap (λ s. length (equation_reads g t s (down c k q) a)) rule.3
            ∙ length-map (read_occurrences (g.child_rule (class_at t q) c a).parts (kids_at t q) k) (seen_from q)
            ∙ ap (λ w. length (read_occurrences (parts_named g w) (kids_at t q) k)) (sym is);
      }

  -- an attribute that the node's own class has no rule for is inherited, or an input
  no_own : (p : Path) (a : ℕ) → Has t p → OfClass g (class_at t p) a → rule_number g (class_at t p) None a ≡ None
      → IsOwnSort (g.sort a) → ⊥
  no_own p a here of none own =
      none_passes (is_of_class (class_at t p) None a) g.rules none (for_self (class_at t p) a)
      (law.rules_have (for_self (class_at t p) a) (own_rule g t fits p a here of own)) (own_passes (class_at t p) a)

  none_by : (sort : Sort) (p : Path) (a : ℕ) → g.sort a ≡ sort → (IsOwnSort sort → ⊥) → (sort ≡ inherited → ⊥)
      → read_count g t (instance_of p a) ≡ 0
  none_by input p a is own above = ap (λ s. length (equation_reads g t s p a)) is
  none_by inherited p a is own above = absurd (above refl)
  none_by synthesized p a is own above = absurd (own (inl refl))
  none_by local p a is own above = absurd (own (inr refl))

  pub at_root : (a : ℕ) → Has t top → OfClass g (class_at t top) a → rule_number g (class_at t top) None a ≡ None
      → read_count g t (instance_of top a) ≡ 0
  at_root a here of none =
      none_by (g.sort a) top a refl (no_own top a here of none) (root_inherits_nothing g law t fits a here of)

  pub without_rules : (c k : ℕ) (q : Path) (a : ℕ) → Has t (down c k q) → OfClass g (class_at t (down c k q)) a
      → rule_number g (class_at t (down c k q)) None a ≡ None → rule_number g (class_at t q) (Some c) a ≡ None
      → read_count g t (instance_of (down c k q) a) ≡ 0
  without_rules c k q a here of none none_above =
      none_by (g.sort a) (down c k q) a refl (no_own (down c k q) a here of none)
      (λ e.
      none_passes (is_of_class (class_at t q) (Some c) a) g.rules none_above (for_child (class_at t q) c a)
      (law.rules_have (for_child (class_at t q) c a) (kid_rule g law t fits c k q a here of e))
      (kid_passes (class_at t q) c a))
