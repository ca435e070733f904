-- The places of attributes, owner by owner, are their places among those of each class.
use Rattle.std.proofs.Common.{◌≡◌, ℕ, suc, ◌+◌, ◌-◌, ◌<◌, ◌≤◌, None, List, [], ◌++◌, length, get_or, take, map, sum_by, inr, ⊎_elim}
use Rattle.std.proofs.Common.{sym, subst, ap, ap₂, ◌∙◌, arith, length-append, Contains}
use mathlib.Core.Path.{fun_ext}
use Rattle.std.specs.List.{flat_map, range_with_len}
use Rattle.std.proofs.Math.Seq.{take-suc}
use Rattle.std.proofs.lemmas.List.{flat_map_more, get_or-append-add, get_or_append_left}
use Rattle.std.proofs.lemmas.List.Concat.{get_or-flat_map, length-flat_map}
use Rattle.std.proofs.lemmas.List.Elements.{Contains-append_cases}
use Rattle.std.proofs.lemmas.List.Folds.{length-flat_map-take}
use Rattle.std.proofs.lemmas.List.FromFn.{get_or-range_with_len, length-range_with_len}
use Rattle.ftl_model.specs.lists.Lists.{place_in}
use Rattle.ftl_model.proofs.lists.Elements.{in_range_from}
use Rattle.ftl_grammar.specs.syntax.Trees as trees
use Rattle.ftl_grammar.specs.declared.syntax.rules.Class.{Class}
use Rattle.ftl_grammar.specs.declared.syntax.rules.Grammar.{Grammar}
use Rattle.ftl_grammar.specs.declared.syntax.rules.Interface.{Interface}
use Rattle.ftl_meaning.specs.faults.FirstFault.{first_fault}
use Rattle.ftl_meaning.specs.faults.Numbering.{class_at, interface_at, interface_number, interface_of, own_count}
use Rattle.ftl_meaning.specs.faults.Numbering.{shared_count}
use Rattle.ftl_meaning.proofs.lawful.RequiredRules.{interface_known}
use Rattle.ftl_meaning.proofs.lawful.Numbers.{map-numbered}
use Rattle.ftl_meaning.specs.grammars.GrammarOf.{grammar_of}
use Rattle.ftl_model.specs.layout.AttributeGrammar.{attributes_of}
use Rattle.ftl_tree.specs.rows.ClassRows.{AreAttributePlaces, IsOutsideRun}
use Rattle.ftl_tree.proofs.rows.AttributePlaces.{place_inside, place_second}
use Rattle.ftl_tree.specs.trees.OwnerPlaces.{own_places, shared_places}

-- one piece more
pub one_more : {X E : Type 0} (f : X → List E) (before now next : List E) (xs : List X) (i : ℕ) (d : X) → i < length xs
    → now ≡ before ++ flat_map f (take i xs) → next ≡ now ++ f (get_or xs i d)
    → next ≡ before ++ flat_map f (take (i + 1) xs)
one_more f before now next xs i d h so_far is =
    is
    ∙ ap (λ ys. ys ++ f (get_or xs i d)) so_far
    ∙ flat_map_more f before (take i xs) (get_or xs i d)
    ∙ ap (λ ys. before ++ flat_map f ys)
    (sym (take-suc xs i d h) ∙ ap (λ n. take n xs) (let z : suc i ≡ i + 1 = omega arith in z))

-- runs of numbers, as many as there are entries, end to end
module _ {X E : Type 0} (list : X → List E) (from : X → ℕ) where
  abbrev run : X → List ℕ
  run x = range_with_len (from x) (length (list x))

  -- together they are as long as the entries
  pub length-runs : (xs : List X) → length (flat_map run xs) ≡ length (flat_map list xs)
  length-runs xs =
      length-flat_map run xs
      ∙ ap (λ f. sum_by f xs) (fun_ext (λ x. length-range_with_len (from x) (length (list x))))
      ∙ sym (length-flat_map list xs)

  -- a number of the run of an entry
  pub number-in : (xs : List X) (i j : ℕ) (d : X) → i < length xs → j < length (list (get_or xs i d))
      → get_or (flat_map run xs) (length (flat_map list (take i xs)) + j) 0 ≡ from (get_or xs i d) + j
  number-in xs i j d h few =
      ap (λ m. get_or (flat_map run xs) (m + j) 0) (sym (length-runs (take i xs)))
      ∙ get_or-flat_map run xs i j d 0 h
      (omega (arith, few, length-range_with_len (from (get_or xs i d)) (length (list (get_or xs i d)))))
      ∙ get_or-range_with_len (from (get_or xs i d)) (length (list (get_or xs i d))) j 0 few

module _ (g : Grammar) (no_fault : first_fault g ≡ None) (w : ℕ) where
  abbrev all : List ℕ
  all = shared_places g ++ own_places g

  abbrev pub behind_shared : Class → ℕ
  behind_shared x = length (interface_at g (interface_number g x.interface)).attrs

  shared_length : length (shared_places g) ≡ shared_count g.interfaces
  shared_length = length-runs (λ (x : Interface). x.attrs) (λ (x : Interface). 0) g.interfaces

  own_length : length (own_places g) ≡ own_count g.classes
  own_length = length-runs (λ (x : Class). x.attrs) behind_shared g.classes

  -- an attribute of an interface
  shared_number : (i j : ℕ) → i < length g.interfaces → j < length (interface_at g i).attrs
      → get_or all (shared_count (take i g.interfaces) + j) 0 ≡ j
  shared_number i j h few =
      let within = length-flat_map-take (λ (x : Interface). x.attrs) g.interfaces i (trees.interface [] [] []) h in
      get_or_append_left (shared_places g) (own_places g) 0 (shared_count (take i g.interfaces) + j)
      (omega (arith, within, few, shared_length))
      ∙ number-in (λ (x : Interface). x.attrs) (λ (x : Interface). 0) g.interfaces i j (trees.interface [] [] []) h few
      ∙ (omega arith)

  -- an attribute of a class's own
  own_number : (k j : ℕ) → k < length g.classes → j < length (class_at g k).attrs
      → get_or all ((shared_count g.interfaces + own_count (take k g.classes)) + j) 0
      ≡ length (interface_at g (interface_of g k)).attrs + j
  own_number k j h few =
      let at : (shared_count g.interfaces + own_count (take k g.classes)) + j
      ≡ length (shared_places g) + (own_count (take k g.classes) + j) = omega (arith, shared_length) in
      ap (λ m. get_or all m 0) at
      ∙ get_or-append-add (shared_places g) (own_places g) (own_count (take k g.classes) + j) 0
      ∙ number-in (λ (x : Class). x.attrs) behind_shared g.classes k j (trees.class [] [] [] [] []) h few

  -- the attributes of a class are two runs, the second behind the first
  module _ (k : ℕ) (h : k < length g.classes) where
    abbrev interface : ℕ
    interface = interface_of g k

    abbrev first : ℕ
    first = shared_count (take interface g.interfaces)

    abbrev count : ℕ
    count = length (interface_at g interface).attrs

    abbrev own_first : ℕ
    own_first = shared_count g.interfaces + own_count (take k g.classes)

    abbrev own : ℕ
    own = length (class_at g k).attrs

    known : interface < length g.interfaces
    known = interface_known g no_fault k h

    runs : attributes_of (grammar_of w g) k ≡ range_with_len first count ++ range_with_len own_first own
    runs =
        ap₂ (λ xs ys. xs ++ ys) (map-numbered first (interface_at g interface).attrs)
        (map-numbered own_first (class_at g k).attrs)

    behind : first + count ≤ own_first
    behind =
        omega (
          arith,
          length-flat_map-take (λ (x : Interface). x.attrs) g.interfaces interface (trees.interface [] [] []) known,
        )

    in_shared : (a : ℕ) → (first ≤ a) × (a < first + count)
        → get_or all a 0 ≡ place_in (range_with_len first count ++ range_with_len own_first own) a
    in_shared a inside =
        let low = inside.0 in
        let high = inside.1 in
        let at : a ≡ first + (a - first) = omega (arith, low) in
        ap (λ m. get_or all m 0) at
        ∙ shared_number interface (a - first) known (omega (arith, low, high))
        ∙ sym (place_inside first count a (range_with_len own_first own) low high)

    in_own : (a : ℕ) → (own_first ≤ a) × (a < own_first + own)
        → get_or all a 0 ≡ place_in (range_with_len first count ++ range_with_len own_first own) a
    in_own a inside =
        let low = inside.0 in
        let high = inside.1 in
        let at : a ≡ own_first + (a - own_first) = omega (arith, low) in
        let outside : IsOutsideRun first count a = inr (omega (arith, low, behind)) in
        ap (λ m. get_or all m 0) at
        ∙ own_number k (a - own_first) h (omega (arith, low, high))
        ∙ sym (place_second first count own_first own a outside low high)

    place_of : (a : ℕ) → Contains (attributes_of (grammar_of w g) k) a
        → get_or all a 0 ≡ place_in (attributes_of (grammar_of w g) k) a
    place_of a has =
        ⊎_elim (λ s. in_shared a (in_range_from first count a s)) (λ o. in_own a (in_range_from own_first own a o))
        (Contains-append_cases (range_with_len first count) (range_with_len own_first own) a
        (subst (λ xs. Contains xs a) runs has))
        ∙ ap (λ xs. place_in xs a) (sym runs)

  pub places_are : AreAttributePlaces (grammar_of w g) all
  places_are = record {
    length_is = length-append (shared_places g) (own_places g) ∙ ap₂ (λ m n. m + n) shared_length own_length;
    each = λ k a h has. place_of k h a has;
  }
