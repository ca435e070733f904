-- The attributes of an interface that are printed.
use Rattle.std.proofs.Common.{◌≡◌, ◌↔◌, ℕ, suc, ◌+◌, ◌<◌, Bool, true, false, cond, sym, ◌∙◌, ap, subst, arith, List, [], ◌∷◌, length, get_or, map, take, filter, Contains, Some, None}
use Rattle.std.specs.List.{slice_get}
use Rattle.std.proofs.lemmas.List.{get_or-map, length-map}
use Rattle.std.proofs.lemmas.List.Elements.{Contains-get_or}
use Rattle.std.proofs.lemmas.Option.{get_or_from_slice_get, slice_get_within}
use Rattle.ftl_model.proofs.lists.Elements.{filter_has, in_filter}
use Rattle.ftl_model.proofs.lists.Rising.{Rising, in_map, map_has, rising-map}
use Rattle.ftl_grammar.specs.syntax.Trees as trees
use Rattle.ftl_grammar.specs.syntax.Trees.{NameText}
use Rattle.ftl_grammar.specs.declared.syntax.rules.AttrDecl.{AttrDecl}
use Rattle.ftl_grammar.specs.declared.syntax.rules.Grammar.{Grammar}
use Rattle.ftl_grammar.specs.declared.syntax.rules.Interface.{Interface}
use Rattle.ftl_meaning.specs.faults.FirstFault.{attribute_names, first_fault}
use Rattle.ftl_meaning.specs.faults.Numbering.{interface_at, interface_of, is_among, numbered, shared_attributes, shared_count}
use Rattle.ftl_meaning.specs.grammars.GrammarOf.{declaration_at, names_of, shown_attributes}
use Rattle.ftl_meaning.proofs.lawful.Numbers.{in_numbered, numbered_has, shared_at}
use Rattle.ftl_meaning.specs.names.Places.{IsInterface, OfMeanings, OfRightMeanings}
use Rattle.ftl_meaning.specs.names.Shown.{IsShownOnce, Rises, ShowsEachName, ShowsInOrder, ShowsItsNames, ShowsItsOwn}
use Rattle.ftl_meaning.proofs.names.Names.{among_in, in_among, one_place}
use Rattle.ftl_meaning.proofs.names.NoNameFault.{attributes_once, shown_known}
use Rattle.ftl_meaning.proofs.names.Numbered.{entry_at}

-- ---- lists that rise

rising-filter : {X : Type 0} (R : X → X → Type 0) (p : X → Bool) (xs : List X) → Rising R xs → Rising R (filter p xs)
rising-filter R p [] r = tt
rising-filter R p (x ∷ xs) r =
    elim (p x) as (λ b. Rising R (cond b (x ∷ filter p xs) (filter p xs))) [
      | true ↦ ((λ y h. r.0 y (in_filter p xs y h).0), rising-filter R p xs r.1)
      | false ↦ rising-filter R p xs r.1
    ]

rising-numbered : {X : Type 0} (n : ℕ) (xs : List X) → Rising (λ a b. a.0 < b.0) (numbered n xs)
rising-numbered n [] = tt
rising-numbered n (x ∷ xs) = (
  (λ p h. let e = (in_numbered (suc n) xs p h).number in omega (arith, e)),
  rising-numbered (suc n) xs,
)

rises : (ns : List ℕ) → Rising (λ a b. a < b) ns → Rises ns
rises [] r = tt
rises (n ∷ ns) r = (r.0, rises ns r.1)

-- ---- what is shown of an interface

module _ (g : Grammar) (i : ℕ) where
  abbrev has_shown_name : ℕ × AttrDecl → Bool
  has_shown_name = λ a. is_among (interface_at g i).shown a.1.name

  -- what is shown is an attribute of the interface by its number, whose name is shown
  pub shown_from : (a : ℕ) → Contains (shown_attributes g i) a
      → (p : ℕ × AttrDecl) × Contains (shared_attributes g i) p × (has_shown_name p ≡ true) × (p.0 ≡ a)
  shown_from a h =
      let m = in_map (λ p. p.0) (filter has_shown_name (shared_attributes g i)) a h in
      let f = in_filter has_shown_name (shared_attributes g i) m.from m.there in
      (m.from, f.0, f.1, m.is)

  -- and each such attribute is shown
  pub is_shown : (p : ℕ × AttrDecl) → Contains (shared_attributes g i) p
      → Contains (interface_at g i).shown p.1.name → Contains (shown_attributes g i) p.0
  is_shown p there named =
      map_has (λ p. p.0) (filter has_shown_name (shared_attributes g i)) p
      (filter_has has_shown_name (shared_attributes g i) p there (in_among (interface_at g i).shown p.1.name named))

  pub in_order : Rises (shown_attributes g i)
  in_order =
      rises (shown_attributes g i)
      (rising-map (λ a b. a < b) (λ p. p.0) (filter has_shown_name (shared_attributes g i))
      (rising-filter (λ a b. a.0 < b.0) has_shown_name (shared_attributes g i)
      (rising-numbered (shared_count (take i g.interfaces)) (interface_at g i).attrs)))

  pub own : (a : ℕ) → Contains (shown_attributes g i) a → Contains (map (λ p. p.0) (shared_attributes g i)) a
  own a h =
      let t = shown_from a h in
      subst (Contains (map (λ p. p.0) (shared_attributes g i))) t.3 (map_has (λ p. p.0) (shared_attributes g i) t.0 t.1)

  -- a number and its declaration: shown by name
  pub by_name : (a : ℕ) (d : AttrDecl) → Contains (shared_attributes g i) (a, d)
      → (Contains (shown_attributes g i) a → Contains (interface_at g i).shown d.name)
      × (Contains (interface_at g i).shown d.name → Contains (shown_attributes g i) a)
  by_name a d there = (
    (λ h.
        let t = shown_from a h in
        let same : t.0.1 ≡ d = sym (shared_at g i t.0 t.1).1 ∙ ap (declaration_at g) t.3 ∙ (shared_at g i (a, d) there).1 in
        subst (λ (e : AttrDecl). Contains (interface_at g i).shown e.name) same
        (among_in (interface_at g i).shown t.0.1.name t.2)),
    (λ h. is_shown (a, d) there h),
  )

-- ---- what is shown of a class

module _ (g : Grammar) (none : first_fault g ≡ None) (k : ℕ) (known : interface_of g k < length g.interfaces) where
  abbrev i : ℕ
  i = interface_of g k

  abbrev base : ℕ
  base = shared_count (take i g.interfaces)

  abbrev attrs : List AttrDecl
  attrs = (interface_at g i).attrs

  there : Contains g.interfaces (interface_at g i)
  there = Contains-get_or g.interfaces i (trees.interface [] [] []) known

  -- the name at a place
  name_at : (n : ℕ) (d : AttrDecl) → n < length attrs
      → (n < length (attribute_names attrs)) × (get_or (attribute_names attrs) n [] ≡ (get_or attrs n d).name)
  name_at n d within = (
    subst (λ m. n < m) (sym (length-map attrs (λ x. x.name))) within,
    get_or-map (λ (x : AttrDecl). x.name) attrs n d [] within,
  )

  -- each name that is shown has one attribute that is
  pub once : (name : NameText) → Contains (interface_at g i).shown name → IsShownOnce (names_of g) k name
  once name shown =
      let has = in_map (λ (x : AttrDecl). x.name) attrs name (shown_known g none (interface_at g i) there name shown) in
      let d = has.from in
      let place = has.there.0 in
      let within = has.there.1 in
      let here : get_or attrs place d ≡ d = has.there.2 in
      let entry : Contains (shared_attributes g i) (base + place, d) =
      subst (λ e. Contains (numbered base attrs) (base + place, e)) here (numbered_has base attrs place d within) in
      let name_here = name_at place d within in
      record {
        attribute = base + place;
        shown = is_shown g i (base + place, d) entry (subst (Contains (interface_at g i).shown) (sym has.is) shown);
        named = ap (λ (x : AttrDecl). x.name) (shared_at g i (base + place, d) entry).1 ∙ has.is;
        alone =
            λ b shown_b named_b.
            let t = shown_from g i b shown_b in
            let s = in_numbered base attrs t.0 t.1 in
            let name_there = name_at s.place d s.known in
            let is : get_or (attribute_names attrs) s.place [] ≡ name =
            name_there.1
            ∙ ap (λ (x : AttrDecl). x.name) (s.is d ∙ sym (shared_at g i t.0 t.1).1 ∙ ap (declaration_at g) t.3)
            ∙ named_b in
            let same : s.place ≡ place =
            one_place (attribute_names attrs) (attributes_once g none (interface_at g i) there) s.place place name_there.0 name_here.0
            (is ∙ sym (name_here.1 ∙ ap (λ (x : AttrDecl). x.name) here ∙ has.is)) in
            sym t.3 ∙ s.number ∙ ap (λ n. base + n) same;
      }

-- ---- of each class

interface_is : (g : Grammar) (i : ℕ) (y : Interface) → IsInterface g i y → interface_at g i ≡ y
interface_is g i y at = get_or_from_slice_get g.interfaces i y (trees.interface [] [] []) at

pub shows_its_names : OfMeanings ShowsItsNames
shows_its_names greatest g k y under n a d at_a at_d =
    let i = interface_of g k in
    let same = interface_is g i y under.under in
    subst (λ (z : Interface). Contains (shown_attributes g i) a ↔ Contains z.shown d.name) same
    (by_name g i a d
    (entry_at (shared_count (take i g.interfaces)) (interface_at g i).attrs n a d at_a
    (subst (λ (z : Interface). slice_get z.attrs n ≡ Some d) (sym same) at_d)))

pub shows_its_own : OfMeanings ShowsItsOwn
shows_its_own greatest g k y under a h = own g (interface_of g k) a h

pub shows_in_order : OfMeanings ShowsInOrder
shows_in_order greatest g k y under = in_order g (interface_of g k)

pub shows_each_name : OfRightMeanings ShowsEachName
shows_each_name greatest g none k y under name shown =
    once g none k (slice_get_within g.interfaces (interface_of g k) y under.under) name
    (subst (λ (z : Interface). Contains z.shown name) (sym (interface_is g (interface_of g k) y under.under)) shown)
