-- The reads of rules as edges.
use Rattle.std.proofs.Common.{◌≡◌, ℕ, ◌+◌, ◌<◌, Bool, true, false, List, length, get_or, refl, sym, ap, ◌∙◌, subst}
use Rattle.std.proofs.Common.{inl, inr, arith, Contains, Option, Some, None, []}
use Rattle.std.proofs.lemmas.Bool.{cases_lt}
use Rattle.std.proofs.lemmas.List.{get_or-map, get_or_default, length-map}
use Rattle.std.proofs.lemmas.List.Elements.{Contains-get_or}
use Rattle.lane_rows.specs.Matrix.{entry}
use Rattle.ftl_model.proofs.lists.Rising.{in_map, map_has}
use Rattle.ftl_model.specs.layout.AttributeGrammar.{AttributeGrammar, Read, RuleName, each_read, for_child, for_self}
use Rattle.ftl_model.specs.layout.AttributeGrammar.{last_read, prev_read, self_read, single_read, this_read}
use Rattle.ftl_model.specs.layout.Solves.{rule_named}
use Rattle.ftl_order.specs.orders.Lawful.{IsLawful, IsRule, class_of_rule}
use Rattle.ftl_order.specs.dependencies.DepReads.{dep_read, reads_of_parts, rule_reads}
use Rattle.ftl_order.specs.declared.dependencies.dep_read.DepRead.{DepRead}
use Rattle.ftl_order.proofs.dependencies.ReadsThere.{IsThere, read_there}
use Rattle.ftl_deps.specs.reads.DepRows.{DepRows, dep_rows, reads_at}
use Rattle.ftl_deps.specs.reads.Meant.{meant}
use Rattle.ftl_deps.specs.reads.Products.{name_of_child, name_of_info}
use Rattle.ftl_deps.proofs.reads.RuleNumbers.{info_is, info_rule, rules_long}
use Rattle.ftl_meaning.specs.declared.faults.info.RuleInfo.{RuleInfo}
use Rattle.ftl_meaning.specs.faults.Checked.{CheckedGrammar, all_rules, rule_info_at}
use Rattle.ftl_meaning.specs.faults.FirstFault.{first_fault}
use Rattle.ftl_meaning.specs.faults.Kinds.{HasKinds}
use Rattle.ftl_meaning.proofs.lawful.Lawfulness.{faultless_lawful}
use Rattle.ftl_noncircular.specs.search.Pairs.{KeepsEntries}
use Rattle.ftl_noncircular.specs.grammars.Noncircular.{Dependence, Edge, IsVertex, MakesEdge, Vertex, target_vertex}
use Rattle.ftl_noncircular.specs.grammars.Noncircular.{vertex_of}
use Rattle.ftl_noncircular.specs.search.Circles.{vertex_at}
use Rattle.ftl_noncircular.specs.search.Numbers.{number, vertex_count}
use Rattle.ftl_noncircular.specs.search.RuleEdges.{IsEntered, IsRuleEntered, makes_edge, no_read, read_vertex, rule_at}
use Rattle.ftl_noncircular.specs.search.Searches.{AreEdges, HasReads, HaveReads, Rows}

-- ---- reads

read_vertex_is : (g : AttributeGrammar) (r : Read) → read_vertex (dep_read g r) ≡ vertex_of r
read_vertex_is g (self_read a) = refl
read_vertex_is g (single_read c a) = refl
read_vertex_is g (each_read c a) = refl
read_vertex_is g (this_read c a) = refl
read_vertex_is g (prev_read c a) = refl
read_vertex_is g (last_read c a) = refl

edge_made : (g : AttributeGrammar) (prevs : Bool) (r : Read) → makes_edge prevs (dep_read g r).form ≡ true
    → MakesEdge prevs r
edge_made g true r e = tt
edge_made g false (self_read a) e = tt
edge_made g false (single_read c a) e = tt
edge_made g false (each_read c a) e = tt
edge_made g false (this_read c a) e = tt
edge_made g false (prev_read c a) e = cc
edge_made g false (last_read c a) e = tt

made_edge : (g : AttributeGrammar) (prevs : Bool) (r : Read) → MakesEdge prevs r
    → makes_edge prevs (dep_read g r).form ≡ true
made_edge g true (self_read a) h = refl
made_edge g true (single_read c a) h = refl
made_edge g true (each_read c a) h = refl
made_edge g true (this_read c a) h = refl
made_edge g true (prev_read c a) h = refl
made_edge g true (last_read c a) h = refl
made_edge g false (self_read a) h = refl
made_edge g false (single_read c a) h = refl
made_edge g false (each_read c a) h = refl
made_edge g false (this_read c a) h = refl
made_edge g false (prev_read c a) h = absurd h
made_edge g false (last_read c a) h = refl

there_vertex : (g : AttributeGrammar) (law : IsLawful g) (k : ℕ) (r : Read) → IsThere g law k r
    → IsVertex g k (vertex_of r)
there_vertex g law k (self_read a) h = h
there_vertex g law k (single_read c a) h = h
there_vertex g law k (each_read c a) h = h
there_vertex g law k (this_read c a) h = h
there_vertex g law k (prev_read c a) h = h
there_vertex g law k (last_read c a) h = h

target_is_vertex : (g : AttributeGrammar) (w : RuleName) → IsRule g w → IsVertex g (class_of_rule w) (target_vertex w)
target_is_vertex g (for_self k a) h = h.1
target_is_vertex g (for_child k c a) h = (h.1, h.2)

-- a read of a rule is an edge
pub edge_of_read : (g : AttributeGrammar) → IsLawful g → (prevs : Bool) (class : ℕ) (w : RuleName) (d : DepRead)
    → IsRule g w → class_of_rule w ≡ class → Contains (rule_reads g w) d → makes_edge prevs d.form ≡ true
    → Edge g (Dependence g) prevs class (read_vertex d) (target_vertex w)
edge_of_read g law prevs class w d rule same there makes =
    let m = in_map (dep_read g) (reads_of_parts (rule_named g w).parts) d there in
    let at : vertex_of m.from ≡ read_vertex d = sym (read_vertex_is g m.from) ∙ ap read_vertex m.is in
    let made = edge_made g prevs m.from (subst (λ (x : DepRead). makes_edge prevs x.form ≡ true) (sym m.is) makes) in (
      subst (IsVertex g class) at
          (subst (λ k. IsVertex g k (vertex_of m.from)) same
          (there_vertex g law (class_of_rule w) m.from (read_there g law w m.from rule m.there))),
      subst (λ k. IsVertex g k (target_vertex w)) same (target_is_vertex g w rule),
      inl (w, rule, same, refl, (m.from, m.there, made, sym at)),
    )

-- ---- rules by number

target_of_child : (k a : ℕ) (child : Option ℕ) → target_vertex (name_of_child k a child) ≡ vertex_at child a
target_of_child k a None = refl
target_of_child k a (Some c) = refl

class_of_child : (k a : ℕ) (child : Option ℕ) → class_of_rule (name_of_child k a child) ≡ k
class_of_child k a None = refl
class_of_child k a (Some c) = refl

module _ (g : AttributeGrammar) (c : CheckedGrammar) (is_meant : g ≡ meant c) (none : first_fault c.grammar ≡ None)
    (n : ℕ)
    (within : n < length (all_rules c.grammar)) where
  pub rule_known : IsRule g (rule_at g n)
  rule_known =
      subst (λ (x : AttributeGrammar). IsRule x (rule_at x n)) (sym is_meant)
      (subst (IsRule (meant c)) (sym (info_is c none n within)) (info_rule c none n within))

  pub rule_within : n < length g.rules
  rule_within =
      subst (λ (x : AttributeGrammar). n < length x.rules) (sym is_meant)
      (subst (λ m. n < m) (sym (rules_long c none)) within)

  pub row_is : (t : DepRows) → t ≡ dep_rows g → reads_at t n ≡ rule_reads g (rule_at g n)
  row_is t is = ap (λ (x : DepRows). reads_at x n) is
      ∙ get_or-map (rule_reads g) g.rules n (for_self 0 0) [] rule_within

  pub row_within : (t : DepRows) → t ≡ dep_rows g → n < length t.reads
  row_within t is =
      let long : length t.reads ≡ length g.rules = ap (λ (x : DepRows). length x.reads) is
      ∙ length-map g.rules (rule_reads g) in
      let known = rule_within in
      omega (arith, long, known)

  module _ (i : RuleInfo) (is : i ≡ rule_info_at c.grammar n) where
    rule_is : rule_at g n ≡ name_of_info i
    rule_is =
        ap (λ (x : AttributeGrammar). rule_at x n) is_meant ∙ info_is c none n within ∙ ap name_of_info (sym is)

    pub rule_target : target_vertex (rule_at g n) ≡ vertex_at i.child i.attr
    rule_target = ap target_vertex rule_is ∙ target_of_child i.class i.attr i.child

    pub rule_class : class_of_rule (rule_at g n) ≡ i.class
    rule_class = ap class_of_rule rule_is ∙ class_of_child i.class i.attr i.child

-- how many rules there are
pub rules_counted : (g : AttributeGrammar) (c : CheckedGrammar) → g ≡ meant c → first_fault c.grammar ≡ None
    → length (all_rules c.grammar) ≡ length g.rules
rules_counted g c is none = sym (ap (λ (x : AttributeGrammar). length x.rules) is ∙ rules_long c none)

-- it is lawful
pub lawful_meant : (g : AttributeGrammar) (c : CheckedGrammar) → g ≡ meant c → first_fault c.grammar ≡ None
    → HasKinds c.grammar → IsLawful g
lawful_meant g c is none kinds =
    subst IsLawful (sym is) (faultless_lawful c.grammar c.width (record { faults = none; kinds = kinds }))

-- ---- the reads of a rule by number

pub read_edge : (g : AttributeGrammar) → IsLawful g → (prevs : Bool) (class : ℕ) (w : RuleName) → IsRule g w
    → class_of_rule w ≡ class → (reads : List DepRead) → reads ≡ rule_reads g w → (m : ℕ) → m < length reads
    → (v : Vertex) → target_vertex w ≡ v → makes_edge prevs (get_or reads m no_read).form ≡ true
    → Edge g (Dependence g) prevs class (read_vertex (get_or reads m no_read)) v
read_edge g law prevs class w rule same reads are m within v target makes =
    subst (Edge g (Dependence g) prevs class (read_vertex (get_or reads m no_read))) target
    (edge_of_read g law prevs class w (get_or reads m no_read) rule same
    (subst (λ (ds : List DepRead). Contains ds (get_or reads m no_read)) are (Contains-get_or reads m no_read within))
    makes)

pub entered_all : (g : AttributeGrammar) (places : List ℕ) (prevs : Bool) (edges : Rows) (w : RuleName)
    (reads : List DepRead) → reads ≡ rule_reads g w → (v : Vertex) → target_vertex w ≡ v
    → ((m : ℕ) → m < length reads → IsEntered places prevs edges (get_or reads m no_read) v)
    → (d : DepRead) → Contains (rule_reads g w) d → IsEntered places prevs edges d (target_vertex w)
entered_all g places prevs edges w reads are v target each d there =
    let here : Contains reads d = subst (λ (ds : List DepRead). Contains ds d) (sym are) there in
    let at : get_or reads here.0 no_read ≡ d = get_or_default reads here.0 no_read d here.1 ∙ here.2 in
    subst (IsEntered places prevs edges d) (sym target)
    (subst (λ (x : DepRead). IsEntered places prevs edges x v) at (each here.0 here.1))

pub read_more : (places : List ℕ) (prevs : Bool) (before now : Rows) (reads : List DepRead) (index : ℕ) (v : Vertex)
    → KeepsEntries before now → ((m : ℕ) → m < index → IsEntered places prevs before (get_or reads m no_read) v)
    → IsEntered places prevs now (get_or reads index no_read) v
    → (m : ℕ) → m < index + 1 → IsEntered places prevs now (get_or reads m no_read) v
read_more places prevs before now reads index v kept old here m below = elim (cases_lt m index) [
  | inl less ↦ λ makes. kept _ _ (old m less makes)
  | inr above ↦
      let at : index ≡ m = omega (arith, below, above) in
      subst (λ j. IsEntered places prevs now (get_or reads j no_read) v) at here
]

pub rule_more : (g : AttributeGrammar) (places : List ℕ) (prevs : Bool) (class : ℕ) (before now : Rows) (rule : ℕ)
    → KeepsEntries before now → ((r : ℕ) → r < rule → IsRuleEntered g places prevs class before (rule_at g r))
    → IsRuleEntered g places prevs class now (rule_at g rule)
    → (r : ℕ) → r < rule + 1 → IsRuleEntered g places prevs class now (rule_at g r)
rule_more g places prevs class before now rule kept old here r below = elim (cases_lt r rule) [
  | inl less ↦ λ same d there makes. kept _ _ (old r less same d there makes)
  | inr above ↦
      let at : rule ≡ r = omega (arith, below, above) in
      subst (λ j. IsRuleEntered g places prevs class now (rule_at g j)) at here
]

-- ---- all rules

pub none_entered : (edges : Rows) (g : AttributeGrammar) (places : List ℕ) (prevs : Bool) (class : ℕ)
    → ((a b : ℕ) → entry edges a b ≡ false) → AreEdges g places prevs class edges
none_entered edges g places prevs class none x y e = absurd (let z : ⊥ = cc (none x y, e) in z)

entered_read : (g : AttributeGrammar) (places : List ℕ) (prevs : Bool) (class : ℕ) (edges : Rows)
    → ((w : RuleName) → IsRule g w → IsRuleEntered g places prevs class edges w) → HaveReads g places prevs class edges
entered_read g places prevs class edges entered x y is_x is_y h =
    let w = h.0 in
    let r = h.4.0 in
    let there = map_has_read g w r h.4.1 in
    let made = made_edge g prevs r h.4.2 in
    subst (λ v. entry edges (number places v) (number places y) ≡ true) (read_vertex_is g r ∙ sym h.4.3)
    (subst (λ v. entry edges (number places (read_vertex (dep_read g r))) (number places v) ≡ true) (sym h.3)
    (entered w h.1 h.2 (dep_read g r) there made))
  where
    map_has_read : (g : AttributeGrammar) (w : RuleName) (r : Read) → Contains (reads_of_parts (rule_named g w).parts) r
        → Contains (rule_reads g w) (dep_read g r)
    map_has_read g w r there = map_has (dep_read g) (reads_of_parts (rule_named g w).parts) r there

-- after all rules
pub all_entered : (g : AttributeGrammar) → IsLawful g
    → (places : List ℕ) (prevs : Bool) (class count : ℕ) (edges : Rows)
    → count ≡ length g.rules → length edges ≡ vertex_count g class → AreEdges g places prevs class edges
    → ((r : ℕ) → r < count → IsRuleEntered g places prevs class edges (rule_at g r))
    → HasReads g places prevs class edges
all_entered g law places prevs class count edges all size are entered = record {
  size = size;
  are = are;
  have = entered_read g places prevs class edges (λ w rule.
      let there = law.rules_have w rule in
      subst (IsRuleEntered g places prevs class edges) (at_place g.rules w there)
      (entered there.0 (let b = there.1 in omega (arith, all, b))));
}
  where
    at_place : (ws : List RuleName) (w : RuleName) (there : Contains ws w) → get_or ws there.0 (for_self 0 0) ≡ w
    at_place ws w there = get_or_default ws there.0 (for_self 0 0) w there.1 ∙ there.2
