-- The rule that computes an instance: where there is none, the instance is an input, and reads nothing.
use Rattle.std.proofs.Common.{◌≡◌, ◌≢◌, ℕ, ◌<◌, Option, Some, None, List, [], get_or, length, map, refl, sym, ◌∙◌, ap, subst}
use Rattle.std.specs.Option.{IsSome, option_map, option_or}
use Rattle.ftl_deps.specs.reads.Meant.{meant}
use Rattle.ftl_deps.proofs.reads.RuleNumbers.{rules_long}
use Rattle.ftl_meaning.specs.faults.Checked.{CheckedGrammar, all_rules}
use Rattle.ftl_meaning.specs.faults.FirstFault.{first_fault}
use Rattle.ftl_model.proofs.layout.Standing.{node_at-number_of, number_of-lt}
use Rattle.ftl_model.specs.layout.AttributeGrammar.{AttributeGrammar, Sort, inherited, input, local, synthesized}
use Rattle.ftl_model.specs.layout.Path.{Has, Path, class_at, down, kids_at, node_at, number_of, parent_of, top}
use Rattle.ftl_model.specs.layout.Solves.{Instance, IsInstance, instance_of}
use Rattle.ftl_model.specs.layout.Table.{instance_count, instance_number, instances}
use Rattle.ftl_model.specs.layout.Tree.{Forest, size}
use Rattle.ftl_model.specs.layout.TreeOf.{IsTreeOf}
use Rattle.ftl_order.proofs.orders.Instances.{instance_here}
use Rattle.ftl_order.proofs.orders.TreeEquations.{root_inherits_nothing}
use Rattle.ftl_order.specs.orders.Lawful.{IsLawful, OfClass}
use Rattle.ftl_order.specs.orders.Reads.{equation_reads, reads_of}
use Rattle.ftl_order.specs.declared.steps.step.Step.{Step}
use Rattle.ftl_step_value.specs.cells.ReadCells.{read_cells}
use Rattle.ftl_visit.specs.visits.Visits.{rule_number}
use Rattle.maugzeris.specs.pages.Instances.{Computes, IsInstanceOn, attribute_of, instance_on, node_of, reads_on, rule_above}
use Rattle.maugzeris.specs.pages.Instances.{rule_at_node, rule_on}
use Rattle.ftl_demand.proofs.demand.Writers.{inherited_here, kid_writer, own_writer, rule_above as has_rule_above}
use Rattle.maugzeris.specs.pages.PageState.{PageState, class_on}

none_is_not_some : (o : Option ℕ) → o ≡ None → IsSome o → ⊥
none_is_not_some None e some = let z : ⊥ = cc in z
none_is_not_some (Some n) e some = let z : ⊥ = cc in z

neither : (o p : Option ℕ) → option_or o p ≡ None → (o ≡ None) × (p ≡ None)
neither None p e = (refl, e)
neither (Some n) p e = absurd (let z : ⊥ = cc in z)

module _ (g : AttributeGrammar) (law : IsLawful g) (t : Forest) (fits : IsTreeOf g t) where
  -- an inherited attribute has a rule of the class above
  no_rule_above : (p : Path) (a : ℕ) → Has t p → OfClass g (class_at t p) a → rule_above g t p a ≡ None
      → g.sort a ≡ inherited → ⊥
  no_rule_above top a here of none is = root_inherits_nothing g law t fits a here of is
  no_rule_above (down c k q) a here of none is =
      none_is_not_some (rule_number g (class_at t q) (Some c) a) none
      (has_rule_above g law t fits c k a q (rule_number g (class_at t q) (Some c) a) here of is refl)

  -- what no rule computes is an input
  pub is_input : (p : Path) (a : ℕ) → Has t p → OfClass g (class_at t p) a → rule_at_node g t p a ≡ None
      → g.sort a ≡ input
  is_input p a here of none = by (g.sort a) refl
    where
      no_rules : (rule_number g (class_at t p) None a ≡ None) × (rule_above g t p a ≡ None)
      no_rules = neither (rule_number g (class_at t p) None a) (rule_above g t p a) none

      by : (sort : Sort) → g.sort a ≡ sort → g.sort a ≡ input
      by input is = is
      by inherited is = absurd (no_rule_above p a here of no_rules.1 is)
      by synthesized is =
          absurd
          (let up = inherited_here g law t fits p a here of no_rules.0 (λ e. let z : ⊥ = cc in z) in
          let z : ⊥ = cc in z)
      by local is =
          absurd
          (let up = inherited_here g law t fits p a here of no_rules.0 (λ e. let z : ⊥ = cc in z) in
          let z : ⊥ = cc in z)

  input_reads : (sort : Sort) (p : Path) (a : ℕ) → sort ≡ input → equation_reads g t sort p a ≡ []
  input_reads input p a is = refl
  input_reads inherited p a is = absurd (let z : ⊥ = cc in z)
  input_reads synthesized p a is = absurd (let z : ⊥ = cc in z)
  input_reads local p a is = absurd (let z : ⊥ = cc in z)

  -- so it reads nothing
  pub reads_nothing : (n : ℕ) (d : Instance) → n < instance_count g t
      → rule_at_node g t (get_or (instances g t) n d).node (get_or (instances g t) n d).attribute ≡ None
      → reads_of g t (get_or (instances g t) n d) ≡ []
  reads_nothing n d below none =
      let i = get_or (instances g t) n d in
      let valid = (instance_here g t law fits n d below).0 in
      input_reads (g.sort i.attribute) i.node i.attribute (is_input i.node i.attribute valid.0 valid.1 none)

  -- the instance of a number, by its node and its attribute
  pub by_node : (n node attr : ℕ) (d : Instance) → n < instance_count g t
      → node ≡ number_of t (get_or (instances g t) n d).node → attr ≡ (get_or (instances g t) n d).attribute
      → instance_of (node_at t node) attr ≡ get_or (instances g t) n d
  by_node n node attr d below is same =
      let i = get_or (instances g t) n d in
      let valid = (instance_here g t law fits n d below).0 in
      ap (λ m. instance_of (node_at t m) attr) is
      ∙ ap (λ q. instance_of q attr) (node_at-number_of t i.node valid.0)
      ∙ ap (instance_of i.node) same

  -- ---- the rule by the node and its parent

  own_case : (q : Path) (a r : ℕ) → rule_number g (class_at t q) None a ≡ Some r → rule_at_node g t q a ≡ Some r
  own_case q a r e = ap (λ o. option_or o (rule_above g t q a)) e

  above_case : (q : Path) (a : ℕ) → rule_number g (class_at t q) None a ≡ None
      → rule_at_node g t q a ≡ rule_above g t q a
  above_case q a e = ap (λ o. option_or o (rule_above g t q a)) e

  root_case : (q : Path) (a : ℕ) → None ≡ option_map (number_of t) (parent_of q) → rule_above g t q a ≡ None
  root_case top a e = refl
  root_case (down c k above) a e = absurd (let z : ⊥ = cc in z)

-- an attribute of a node of a page
module _ (p : PageState) (law : IsLawful (meant p.checked)) (fits : IsTreeOf (meant p.checked) p.tree) (node attr : ℕ)
    (known : node < size p.tree)
  where
    abbrev ruled : Option ℕ
    ruled = rule_at_node (meant p.checked) p.tree (node_at p.tree node) attr

    -- a rule of its own class
    pub own_computes : (r : ℕ) → Some r ≡ rule_number (meant p.checked) (class_on p node) None attr
        → Computes p node attr (record { node = node; rule = r; kid = 0 })
    own_computes r found =
        let w = own_writer (meant p.checked) law p.tree fits node attr r known (sym found) in
        record {
          step = w.step;
          target = w.target;
          rule = own_case (meant p.checked) law p.tree fits (node_at p.tree node) attr r (sym found);
        }

    -- the root has no rule of a class above
    pub root_has_none : None ≡ rule_number (meant p.checked) (class_on p node) None attr
        → None ≡ option_map (number_of p.tree) (parent_of (node_at p.tree node)) → ruled ≡ None
    root_has_none none root =
        above_case (meant p.checked) law p.tree fits (node_at p.tree node) attr (sym none)
        ∙ root_case (meant p.checked) law p.tree fits (node_at p.tree node) attr root

    module _ (parent child kid : ℕ) (above : node_at p.tree node ≡ down child kid (node_at p.tree parent))
        (none : None ≡ rule_number (meant p.checked) (class_on p node) None attr)
      where
        above_is : ruled ≡ rule_number (meant p.checked) (class_on p parent) (Some child) attr
        above_is =
            above_case (meant p.checked) law p.tree fits (node_at p.tree node) attr (sym none)
            ∙ ap (λ q. rule_above (meant p.checked) p.tree q attr) above

        -- a rule of the class above
        pub kid_computes : (r : ℕ) → parent < size p.tree → kid < kids_at p.tree (node_at p.tree parent) child
            → Some r ≡ rule_number (meant p.checked) (class_on p parent) (Some child) attr
            → Computes p node attr (record { node = parent; rule = r; kid = kid })
        kid_computes r there among found =
            let w = kid_writer (meant p.checked) law p.tree fits parent child kid attr r there among (sym found) in
            record {
              step = w.step;
              target = w.target ∙ ap (λ q. instance_of q attr) (sym above);
              rule = above_is ∙ sym found;
            }

        -- or none
        pub kid_has_none : None ≡ rule_number (meant p.checked) (class_on p parent) (Some child) attr → ruled ≡ None
        kid_has_none found = above_is ∙ sym found

-- the instance of a page that has this node and this attribute
module _ (p : PageState) (law : IsLawful (meant p.checked)) (fits : IsTreeOf (meant p.checked) p.tree) (i node attr : ℕ)
    (below : IsInstanceOn p i) (node_is : node ≡ node_of p i) (attr_is : attr ≡ attribute_of p i)
  where
    pub here : instance_of (node_at p.tree node) attr ≡ instance_on p i
    here = by_node (meant p.checked) law p.tree fits i node attr (instance_of top 0) below node_is attr_is

    pub rule_is : rule_at_node (meant p.checked) p.tree (node_at p.tree node) attr ≡ rule_on p i
    rule_is = ap (λ (x : Instance). rule_at_node (meant p.checked) p.tree x.node x.attribute) here

    -- what the step reads is what the instance reads
    pub reads_are : (x : Step) → Computes p node attr x → read_cells (meant p.checked) p.tree x ≡ reads_on p i
    reads_are x computes =
        ap (λ (j : Instance). map (instance_number (meant p.checked) p.tree) (reads_of (meant p.checked) p.tree j))
        (computes.target ∙ here)

    -- where no rule computes it, it reads nothing
    pub none_read : rule_at_node (meant p.checked) p.tree (node_at p.tree node) attr ≡ None → [] ≡ reads_on p i
    none_read none =
        ap (map (instance_number (meant p.checked) p.tree))
        (sym (reads_nothing (meant p.checked) law p.tree fits i (instance_of top 0) below (sym rule_is ∙ none)))

-- a rule of a checked grammar has a number among those of the text
pub rule_known : (k c : CheckedGrammar) → k ≡ c → first_fault k.grammar ≡ None → (r : ℕ)
    → r < length (meant c).rules → r < length (all_rules c.grammar)
rule_known k c same none r within =
    subst (λ n. r < n)
    (rules_long c (subst (λ (q : CheckedGrammar). first_fault q.grammar ≡ None) same none)) within
