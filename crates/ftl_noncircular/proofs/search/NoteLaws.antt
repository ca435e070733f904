-- What the walks of a class show.
use Rattle.std.proofs.Common.{◌≡◌, ℕ, ◌<◌, true, List, length, get_or, sym, ap, ◌∙◌, subst, arith}
use Rattle.lane_rows.specs.Matrix.{entry}
use Rattle.ftl_model.specs.layout.AttributeGrammar.{AttributeGrammar}
use Rattle.ftl_noncircular.specs.walks.WalkTables.{IsFrom, WalkTable}
use Rattle.ftl_noncircular.specs.grammars.Noncircular.{IsPort}
use Rattle.ftl_noncircular.specs.declared.search.pair_list.PairList.{PairList}
use Rattle.ftl_noncircular.specs.declared.search.shape.Shape.{Shape}
use Rattle.ftl_noncircular.specs.search.Searches.{AreNoted, Rows}
use Rattle.ftl_noncircular.specs.search.Pairs.{AreWalksOf, IsLonger, IsNotedFrom, IsPair}
use Rattle.ftl_noncircular.specs.search.Shapes.{IsShapeOf, inherited_of, synthesized_of}
use Rattle.ftl_noncircular.proofs.search.SearchLaws.{noted_sound}

module _ (g : AttributeGrammar) (s : Shape) (class : ℕ) (w : WalkTable) (shape : IsShapeOf g s)
    (known : class < g.class_count) (walks : AreWalksOf g s class w) where
  abbrev pub interface : ℕ
  interface = g.interface class

  abbrev pub sources : List ℕ
  sources = inherited_of s interface

  abbrev pub targets : List ℕ
  targets = synthesized_of s interface

  pub interface_known : interface < g.interface_count
  interface_known = shape.classes.interfaces_known class known

  port : (j m : ℕ) → j < length sources → m < length targets → IsPort g class (get_or sources j 0) (get_or targets m 0)
  port j m first second =
      let from = (shape.ports.inherited interface interface_known).are j first in
      let to = (shape.ports.synthesized interface interface_known).are m second in
      record { known = known; from = from.0; from_sort = from.1; to = to.0; to_sort = to.1 }

  pub start_within : (j : ℕ) → j < length w.starts → j < length sources
  start_within j within = let e = walks.starts.count in omega (arith, within, e)

  pub target_known : (m : ℕ) → m < length targets → get_or targets m 0 < g.attribute_count
  target_known m within =
      shape.attributes.shared_known interface (get_or targets m 0) interface_known
      ((shape.ports.synthesized interface interface_known).are m within).0

  pub target_low : (m : ℕ) → m < length targets → get_or s.places (get_or targets m 0) 0 < length w.edges
  target_low m within =
      let low =
      shape.attributes.places.child_low interface (get_or targets m 0) interface_known
      ((shape.ports.synthesized interface interface_known).are m within).0 in
      let size = walks.edges.size in
      omega (arith, low, size)

  pub shown_pair : (j m : ℕ) → j < length w.starts → m < length targets
      → IsFrom w.edges (get_or w.starts j 0) (get_or s.places (get_or targets m 0) 0)
      → IsPair g (record { interface = interface; from = get_or sources j 0; to = get_or targets m 0 })
  shown_pair j m first second from =
      let here = port j m (start_within j first) second in
      record {
        known = interface_known;
        from = here.from;
        from_sort = here.from_sort;
        to = here.to;
        to_sort = here.to_sort;
        depends =
            noted_sound g s.places class w.edges shape.attributes.places
            (λ c under. shape.classes.children_known class c known under) walks.edges.are (get_or sources j 0)
            (get_or targets m 0) here
            (subst (λ x. IsFrom w.edges x (get_or s.places (get_or targets m 0) 0)) (walks.starts.each j first) from);
      }

  -- all starts were gone through
  pub all_noted : (found : Rows)
      → ((j : ℕ) → j < length w.starts → IsNotedFrom g s class w found j (length targets))
      → AreNoted g s.places class w.edges found
  all_noted found each a b here from =
      let first = (shape.ports.inherited interface interface_known).have a here.from here.from_sort in
      let second = (shape.ports.synthesized interface interface_known).have b here.to here.to_sort in
      let within : first.0 < length w.starts =
      (let f = first.1 in let e = walks.starts.count in omega (arith, f, e)) in
      let start = walks.starts.each first.0 within ∙ ap (λ x. get_or s.places x 0) first.2 in
      subst (λ x. entry found x b ≡ true) first.2
      (subst (λ y. entry found (get_or sources first.0 0) y ≡ true) second.2
      (each first.0 within second.0 second.1 second.1
      (subst (λ x. IsFrom w.edges x (get_or s.places (get_or targets second.0 0) 0)) (sym start)
      (subst (λ y. IsFrom w.edges (get_or s.places a 0) (get_or s.places y 0)) (sym second.2) from))))

-- what was noted stays so
pub noted_longer : (g : AttributeGrammar) (s : Shape) (class : ℕ) (w : WalkTable) (before now : PairList) (j count : ℕ)
    → IsLonger before now → IsNotedFrom g s class w before.has j count → IsNotedFrom g s class w now.has j count
noted_longer g s class w before now j count longer noted m below within from =
    longer.kept _ _ (noted m below within from)
