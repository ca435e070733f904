-- The steps whose rules run at a node and read an occurrence there, by the readers of its attribute.
use Rattle.std.proofs.Common.{◌≡◌, ◌≢◌, ℕ, ◌<◌, refl, sym, ap, ◌∙◌, subst, inl, inr, arith, List, Contains, Option}
use Rattle.ftl_deps.specs.parts.RuleParts.{parts_named, read_meant}
use Rattle.ftl_deps.specs.reads.Products.{name_of_info}
use Rattle.ftl_model.specs.layout.AttributeGrammar.{AttributeGrammar, Occurrence, RuleName, Sort, for_child, for_self, inherited, input, local, synthesized}
use Rattle.ftl_model.specs.layout.Path.{Has, Path, at as tree_at, class_at, down, kids_at, top}
use Rattle.ftl_model.specs.layout.Solves.{Instance, instance_of, rule_kid, rule_node, rule_of}
use Rattle.ftl_model.specs.layout.Tree.{Forest, below_of}
use Rattle.ftl_model.specs.layout.TreeOf.{IsTreeOf}
use Rattle.ftl_order.proofs.orders.Kids.{kid_counted}
use Rattle.ftl_order.proofs.orders.TreeEquations.{kid_instance, kid_rule, own_rule, root_inherits_nothing}
use Rattle.ftl_order.specs.orders.Lawful.{IsLawful, IsOwnSort, IsRule, OfClass, class_of_rule}
use Rattle.ftl_order.specs.orders.LegalOrder.{IsStep}
use Rattle.ftl_order.specs.orders.Schedule.{Placing}
use Rattle.ftl_order.specs.steps.Steps.{target_of_rule}
use Rattle.ftl_tree.specs.declared.rows.row.Place.{Place}
use Rattle.ftl_relayout.specs.declared.readers.reader.Reader.{Reader}
use Rattle.ftl_relayout.specs.declared.readers.reader.Whose.{Whose}
use Rattle.ftl_relayout.specs.keys.Keys.{key_of}
use Rattle.ftl_relayout.specs.laws.Readers.{IsReadBy}
use Rattle.ftl_relayout.specs.readers.Readers.{AreReaders, IsHitWhen, IsKeyBy, IsReadWhen, IsReader, IsReaderKey, readers_for, rule_kids, seen_as, whose_at, whose_read}
use Rattle.ftl_relayout.proofs.readers.HitReads.{attribute_is, hit_read, read_back, read_by_hit, whose_is}

module _ (g : AttributeGrammar) (law : IsLawful g) (at : Placing) (t : Forest) (fits : IsTreeOf g t) where
  -- ---- from a rule for a kid to the step

  -- a step whose rule has this name and runs at the node for this kid
  pub record RunsBy (v : Path) (w : RuleName) (n : ℕ) (q : Instance) : Type 0 where
    pub step : IsStep g t q
    pub runs : rule_node (g.sort q.attribute) q.node ≡ v
    pub kid : rule_kid (g.sort q.attribute) q.node ≡ n
    pub parts : (rule_of g t (g.sort q.attribute) q.node q.attribute).parts ≡ parts_named g w

  own_runs : (sort : Sort) (v : Path) (a : ℕ) → g.sort a ≡ sort → IsOwnSort sort
      → (rule_node sort v ≡ v) × (rule_kid sort v ≡ 0)
      × ((rule_of g t sort v a).parts ≡ (g.self_rule (class_at t v) a).parts) × (sort ≢ input)
  own_runs sort v a is (inl e) =
      subst (λ s. (rule_node s v ≡ v) × (rule_kid s v ≡ 0)
      × ((rule_of g t s v a).parts ≡ (g.self_rule (class_at t v) a).parts) × (s ≢ input)) (sym e)
      (refl, refl, refl, (λ z. let y : ⊥ = cc in y))
  own_runs sort v a is (inr e) =
      subst (λ s. (rule_node s v ≡ v) × (rule_kid s v ≡ 0)
      × ((rule_of g t s v a).parts ≡ (g.self_rule (class_at t v) a).parts) × (s ≢ input)) (sym e)
      (refl, refl, refl, (λ z. let y : ⊥ = cc in y))

  pub runs_by : (v : Path) (w : RuleName) (n : ℕ) → Has t v → IsRule g w → class_of_rule w ≡ class_at t v
      → n < rule_kids w (kids_at t v) → RunsBy v w n (target_of_rule v w n)
  runs_by v (for_self k a) n has rule of below =
      let own = own_runs (g.sort a) v a refl rule.2 in
      record {
        step = ((has, subst (λ c. OfClass g c a) of rule.1), own.3);
        runs = own.0;
        kid = own.1 ∙ (let z : 0 ≡ n = omega (arith, below) in z);
        parts = own.2 ∙ ap (λ c. (g.self_rule c a).parts) (sym of);
      }
  runs_by v (for_child k c a) n has rule of below =
      let q = instance_of (down c n v) a in
      record {
        step = (
          kid_instance g law t fits c n a v has below
              (subst (λ l. Contains (g.shared (g.child_interface l c)) a) of rule.2),
          (λ e. let i = rule.3 in let y : ⊥ = cc (e, i) in y),
        );
        runs = ap (λ s. rule_node s (down c n v)) rule.3;
        kid = ap (λ s. rule_kid s (down c n v)) rule.3;
        parts =
            ap (λ s. (rule_of g t s (down c n v) a).parts) rule.3
            ∙ ap (λ l. (g.child_rule l c a).parts) (sym of);
      }

  -- what a reader reads for a kid its step reads
  pub reader_key : (v : Path) (o : Occurrence) (e : Reader) (key : ℕ) → Has t v → IsReader g e
      → class_of_rule (name_of_info e.info) ≡ class_at t v → IsKeyBy g at t v o e key → IsReaderKey g at t v o key
  reader_key v o e key has is of by =
      let w = name_of_info e.info in
      let q = target_of_rule v w by.number in
      let r = runs_by v w by.number has is.rule of by.below in
      record {
        reader = q;
        step = r.step;
        runs = r.runs;
        reads =
            subst (λ n. IsReadBy (rule_of g t (g.sort q.attribute) q.node q.attribute).parts (kids_at t v) n o) (sym r.kid)
            (subst (λ p. IsReadBy p (kids_at t v) by.number o) (sym r.parts)
            (read_by_hit (parts_named g w) (kids_at t v) by.number o e.when (read_meant e.read) is.reads by.hit));
        key_is = by.key_is;
      }

  -- ---- from the step to its rule

  -- the rule of a step
  pub record RuleHere (v : Path) (q : Instance) : Type 0 where
    pub name : RuleName
    pub rule : IsRule g name
    pub class : class_of_rule name ≡ class_at t v
    pub below : rule_kid (g.sort q.attribute) q.node < rule_kids name (kids_at t v)
    pub parts : (rule_of g t (g.sort q.attribute) q.node q.attribute).parts ≡ parts_named g name
    pub target : target_of_rule v name (rule_kid (g.sort q.attribute) q.node) ≡ q

  abbrev pub RuleBy : Sort → Path → ℕ → Path → Type 0
  RuleBy sort p a v =
      (w : RuleName) × IsRule g w × (class_of_rule w ≡ class_at t v) × (rule_kid sort p < rule_kids w (kids_at t v))
      × ((rule_of g t sort p a).parts ≡ parts_named g w) × (target_of_rule v w (rule_kid sort p) ≡ instance_of p a)

  own_by : (sort : Sort) (p : Path) (a : ℕ) → g.sort a ≡ sort → IsOwnSort sort → Has t p → OfClass g (class_at t p) a
      → (k : ℕ) → k ≡ 0 → (v : Path) → p ≡ v
      → (w : RuleName) × IsRule g w × (class_of_rule w ≡ class_at t v) × (k < rule_kids w (kids_at t v))
      × ((g.self_rule (class_at t p) a).parts ≡ parts_named g w) × (target_of_rule v w k ≡ instance_of p a)
  own_by sort p a is own has of k none v here = (
    for_self (class_at t p) a,
    own_rule g t fits p a has of (subst IsOwnSort (sym is) own),
    ap (class_at t) here,
    omega (arith, none),
    refl,
    ap (λ x. instance_of x a) (sym here),
  )

  rule_by : (sort : Sort) (p : Path) (a : ℕ) → g.sort a ≡ sort → sort ≢ input → Has t p → OfClass g (class_at t p) a
      → (v : Path) → rule_node sort p ≡ v → RuleBy sort p a v
  rule_by input p a is computed has of v here = absurd (computed refl)
  rule_by inherited top a is computed has of v here = absurd (root_inherits_nothing g law t fits a has of is)
  rule_by inherited (down c n p) a is computed has of v here = (
    for_child (class_at t p) c a,
    kid_rule g law t fits c n p a has of is,
    ap (class_at t) here,
    subst (λ x. n < kids_at t x c) here (kid_counted c n (below_of (tree_at t p)) has),
    refl,
    ap (λ x. instance_of (down c n x) a) (sym here),
  )
  rule_by synthesized p a is computed has of v here = own_by synthesized p a is (inl refl) has of 0 refl v here
  rule_by local p a is computed has of v here = own_by local p a is (inr refl) has of 0 refl v here

  pub rule_here : (v : Path) (q : Instance) → IsStep g t q → rule_node (g.sort q.attribute) q.node ≡ v → RuleHere v q
  rule_here v q step runs =
      let r = rule_by (g.sort q.attribute) q.node q.attribute refl step.1 step.0.0 step.0.1 v runs in
      record { name = r.0; rule = r.1; class = r.2; below = r.3; parts = r.4; target = r.5 }

  -- ---- from a step to its readers

  -- a reader in the list of its attribute for the node's class, by which the step of this key reads
  pub record ListedKey (lists : List (List Reader)) (v : Path) (o : Occurrence) (a : ℕ) (of : Whose) (key : ℕ) : Type 0 where
    pub reader : Reader
    pub listed : Contains (readers_for g lists a (class_at t v) of) reader
    pub class : class_of_rule (name_of_info reader.info) ≡ class_at t v
    pub by : IsKeyBy g at t v o reader key

  pub listed_key : (lists : List (List Reader)) → AreReaders g lists → (v : Path) (place : Option Place) (a key : ℕ)
      → a < g.attribute_count → IsReaderKey g at t v (seen_as place a) key
      → ListedKey lists v (seen_as place a) a (whose_at place) key
  listed_key lists are v place a key known k =
      let q = k.reader in
      let o = seen_as place a in
      let kids = kids_at t v in
      let n = rule_kid (g.sort q.attribute) q.node in
      let r = rule_here v q k.step k.runs in
      let h = hit_read (parts_named g r.name) kids n o (subst (λ p. IsReadBy p kids n o) r.parts k.reads) in
      let back = read_back h.read in
      let hit : IsHitWhen kids n h.time (read_meant back.0) o =
      subst (λ x. IsHitWhen kids n h.time x o) (sym back.1) h.hit in
      let names = attribute_is kids n h.time back.0 place a hit in
      let found =
      are.has r.name h.time back.0 r.rule (subst (IsReadWhen (parts_named g r.name) h.time) (sym back.1) h.reads)
      (omega (arith, names, known)) in
      record {
        reader = found.0;
        listed =
            subst (λ x. Contains (readers_for g lists a (class_at t v) x) found.0) (whose_is kids n h.time back.0 place a hit)
            (subst (λ l. Contains (readers_for g lists a l (whose_read back.0)) found.0) r.class
            (subst (λ x. Contains (readers_for g lists x (class_of_rule r.name) (whose_read back.0)) found.0) names found.1));
        class = ap class_of_rule found.2 ∙ r.class;
        by = record {
          number = n;
          below = subst (λ w. n < rule_kids w kids) (sym found.2) r.below;
          hit =
              subst (λ x. IsHitWhen kids n x (read_meant found.0.read) o) (sym found.3)
              (subst (λ x. IsHitWhen kids n h.time (read_meant x) o) (sym found.4) hit);
          key_is =
              ap (λ w. key_of g at t (target_of_rule v w n)) found.2
              ∙ ap (key_of g at t) r.target
              ∙ k.key_is;
        };
      }
