-- Pairs that are put into a class.
use Rattle.std.proofs.Common.{◌≡◌, ℕ, ◌+◌, ◌<◌, Bool, true, List, length, get_or, refl, sym, ap, ◌∙◌, subst, inl, inr}
use Rattle.std.proofs.Common.{arith, Contains}
use Rattle.std.proofs.lemmas.Bool.{cases_lt}
use Rattle.lane_rows.specs.Matrix.{entry}
use Rattle.ftl_model.specs.layout.AttributeGrammar.{AttributeGrammar}
use Rattle.ftl_noncircular.specs.walks.WalkTables.{IsFrom, LeadNoFurther, WalkTable}
use Rattle.ftl_noncircular.specs.grammars.Noncircular.{Dependence, Edge, of_child, of_self}
use Rattle.ftl_noncircular.specs.declared.search.pair_list.Pair.{Pair}
use Rattle.ftl_noncircular.specs.declared.search.shape.Shape.{Shape}
use Rattle.ftl_noncircular.specs.search.Numbers.{number, vertex_count}
use Rattle.ftl_noncircular.specs.search.Searches.{AreNoted, HasReads, Rows}
use Rattle.ftl_noncircular.specs.search.Pairs.{AreWalksOf, HasPairBelow, IsPair, KeepsEntries}
use Rattle.ftl_noncircular.specs.search.Shapes.{IsShapeOf, inherited_of}
use Rattle.ftl_noncircular.proofs.search.NumberLaws.{number_low}
use Rattle.ftl_noncircular.proofs.search.PairLaws.{OneEntryMore, entry_cases, entry_kept}
use Rattle.ftl_noncircular.proofs.search.SearchLaws.{put_sound}

module _ (g : AttributeGrammar) (s : Shape) (class child : ℕ) (p : Pair) (shape : IsShapeOf g s)
    (known : class < g.class_count) (is_child : child < g.child_count class) (pair : IsPair g p)
    (same : g.child_interface class child ≡ p.interface) where
  pub edge_of_pair : (prevs : Bool) → Edge g (Dependence g) prevs class (of_child child p.from) (of_child child p.to)
  edge_of_pair prevs = (
    (is_child, subst (λ i. Contains (g.shared i) p.from) (sym same) pair.from),
    (is_child, subst (λ i. Contains (g.shared i) p.to) (sym same) pair.to),
    inr (refl, pair.from_sort, pair.to_sort, pair.depends),
  )

  pub from_low : number s.places (of_child child p.from) < vertex_count g class
  from_low =
      number_low g s.places shape.attributes.places class known
      (λ c under. shape.classes.children_known class c known under) (of_child child p.from) (edge_of_pair true).0

  pub to_low : number s.places (of_child child p.to) < vertex_count g class
  to_low =
      number_low g s.places shape.attributes.places class known
      (λ c under. shape.classes.children_known class c known under) (of_child child p.to) (edge_of_pair true).1

  pub few : child < 16
  few = let under = shape.classes.children_few class known in omega (arith, under, is_child)

  -- the edge is put
  pub put_reads : (prevs : Bool) (before now : Rows) → HasReads g s.places prevs class before
      → length now ≡ length before
      → OneEntryMore before now (number s.places (of_child child p.from)) (number s.places (of_child child p.to))
      → HasReads g s.places prevs class now
  put_reads prevs before now has size more = record {
    size = size ∙ has.size;
    are =
        put_sound g s.places prevs class before now (of_child child p.from) (of_child child p.to) has.are
        (edge_of_pair prevs)
        (entry_cases before now (number s.places (of_child child p.from)) (number s.places (of_child child p.to)) more);
    have = λ v w is_v is_w read.
        entry_kept before now (number s.places (of_child child p.from)) (number s.places (of_child child p.to)) more
        (number s.places v) (number s.places w) (has.have v w is_v is_w read);
  }

  pub put_walks : (before now : WalkTable) → AreWalksOf g s class before → now.starts ≡ before.starts
      → length now.edges ≡ length before.edges
      → OneEntryMore before.edges now.edges (number s.places (of_child child p.from))
      (number s.places (of_child child p.to))
      → AreWalksOf g s class now
  put_walks before now walks starts size more = record {
    starts = record {
      count = ap length starts ∙ walks.starts.count;
      each = λ j within.
          ap (λ (xs : List ℕ). get_or xs j 0) starts
          ∙ walks.starts.each j (subst (λ (xs : List ℕ). j < length xs) starts within);
    };
    edges = put_reads true before.edges now.edges walks.edges size more;
  }

-- one child more
pub has_below_more : (g : AttributeGrammar) (s : Shape) (before now : Rows) (k : ℕ) (p : Pair) (child : ℕ)
    → KeepsEntries before now → HasPairBelow g s before k p child
    → (child < g.child_count k → g.child_interface k child ≡ p.interface
    → entry now (number s.places (of_child child p.from)) (number s.places (of_child child p.to)) ≡ true)
    → HasPairBelow g s now k p (child + 1)
has_below_more g s before now k p child kept has here c under known same =
    elim (cases_lt c child) [
      | inl below ↦ kept _ _ (has c below known same)
      | inr above ↦
          let at : child ≡ c = omega (arith, under, above) in
          subst
          (λ d. entry now (number s.places (of_child d p.from)) (number s.places (of_child d p.to)) ≡ true)
          at
          (here (subst (λ d. d < g.child_count k) (sym at) known)
          (subst (λ d. g.child_interface k d ≡ p.interface) (sym at) same))
    ]

pub further_on : (a b c : WalkTable) → length b.starts ≡ length a.starts → LeadNoFurther a b → LeadNoFurther b c
    → LeadNoFurther a c
further_on a b c count first second k x within from = first k x within (second k x (omega (arith, within, count)) from)

pub no_further_same : (a : WalkTable) → LeadNoFurther a a
no_further_same a k b within from = from

-- where walks lead to no more, nothing is left to be found
pub still_noted : (g : AttributeGrammar) (s : Shape) (class : ℕ) (before now : WalkTable) (found : Rows)
    → IsShapeOf g s → class < g.class_count → AreWalksOf g s class before → AreWalksOf g s class now
    → LeadNoFurther before now → AreNoted g s.places class before.edges found
    → AreNoted g s.places class now.edges found
still_noted g s class before now found shape known old new no_more noted a b port from =
    let sources = inherited_of s (g.interface class) in
    let first =
    (shape.ports.inherited (g.interface class) (shape.classes.interfaces_known class known)).have a port.from
    port.from_sort in
    let within_old : first.0 < length before.starts =
    (let f = first.1 in let e = old.starts.count in omega (arith, f, e)) in
    let within_new : first.0 < length now.starts =
    (let f = first.1 in let e = new.starts.count in omega (arith, f, e)) in
    let at_old = old.starts.each first.0 within_old ∙ ap (λ x. get_or s.places x 0) first.2 in
    let at_new = new.starts.each first.0 within_new ∙ ap (λ x. get_or s.places x 0) first.2 in
    noted a b port
    (subst (λ x. IsFrom before.edges x (number s.places (of_self b))) at_old
    (no_more first.0 (number s.places (of_self b)) within_old
    (subst (λ x. IsFrom now.edges x (number s.places (of_self b))) (sym at_new) from)))
