-- The places of attributes, owner by owner, tell the attributes of a class and of an interface apart.
use Rattle.std.proofs.Common.{◌≡◌, ◌⊎◌, ℕ, zero, suc, ◌+◌, ◌-◌, ◌<◌, ◌≤◌, None, List, [], ◌∷◌, ◌++◌, length, get_or}
use Rattle.std.proofs.Common.{take, sum_by, inl, inr, ⊎_elim, sym, subst, ap, ap₂, ◌∙◌, arith, length-append}
use Rattle.std.proofs.Common.{Contains}
use mathlib.Core.Path.{fun_ext}
use Rattle.std.specs.List.{flat_map, range_with_len}
use Rattle.std.proofs.Math.Seq.{take-suc}
use Rattle.std.proofs.lemmas.List.{flat_map_more, get_or-append-add, get_or_append_left}
use Rattle.std.proofs.lemmas.List.Concat.{get_or-flat_map, length-flat_map}
use Rattle.std.proofs.lemmas.List.Elements.{Contains-append_cases}
use Rattle.std.proofs.lemmas.List.Folds.{length-flat_map-take}
use Rattle.std.proofs.lemmas.List.FromFn.{get_or-range_with_len, length-range_with_len}
use Rattle.ftl_base.specs.Widths.{greatest_of_width}
use Rattle.ftl_deps.specs.reads.Meant.{meant}
use Rattle.ftl_grammar.specs.syntax.Trees as trees
use Rattle.ftl_grammar.specs.declared.syntax.rules.Class.{Class}
use Rattle.ftl_grammar.specs.declared.syntax.rules.Interface.{Interface}
use Rattle.ftl_meaning.specs.faults.Checked.{CheckedGrammar}
use Rattle.ftl_meaning.specs.faults.FirstFault.{first_fault}
use Rattle.ftl_meaning.specs.faults.Numbering.{class_at, interface_at, own_count, shared_count}
use Rattle.ftl_meaning.proofs.lawful.WithinLimits.{within_limits}
use Rattle.ftl_meaning.proofs.lawful.RequiredRules.{interface_known}
use Rattle.ftl_model.proofs.lists.Elements.{in_range_from}
use Rattle.ftl_order.specs.orders.Lawful.{OfClass}
use Rattle.ftl_noncircular.specs.search.Numbers.{ArePlaces}
use Rattle.ftl_noncircular.specs.search.Tables.{own_places, shared_places}
use Rattle.ftl_noncircular.proofs.search.OwnerLaws.{private_run, shared_run}

pub range-next : (a n : ℕ) → range_with_len a (n + 1) ≡ range_with_len a n ++ (a + n) ∷ []
range-next a zero = let e : a + 0 ≡ a = omega arith in ap (λ m. m ∷ []) (sym e)
range-next a (suc n) =
    let two : suc n + 1 ≡ suc (n + 1) = omega arith in
    let e : a + suc n ≡ (a + 1) + n = omega arith in
    ap (range_with_len a) two
    ∙ ap (λ ys. a ∷ ys) (range-next (a + 1) n)
    ∙ ap (λ m. a ∷ (range_with_len (a + 1) n ++ m ∷ [])) (sym e)

-- one piece more
pub one_more : {X E : Type 0} (f : X → List E) (before now next : List E) (xs : List X) (i : ℕ) (d : X) → i < length xs
    → now ≡ before ++ flat_map f (take i xs) → next ≡ now ++ f (get_or xs i d)
    → next ≡ before ++ flat_map f (take (i + 1) xs)
one_more f before now next xs i d h so_far is =
    is
    ∙ ap (λ ys. ys ++ f (get_or xs i d)) so_far
    ∙ flat_map_more f before (take i xs) (get_or xs i d)
    ∙ ap (λ ys. before ++ flat_map f ys)
    (sym (take-suc xs i d h) ∙ ap (λ n. take n xs) (let z : suc i ≡ i + 1 = omega arith in z))

-- runs of numbers, as many as there are entries, end to end
module _ {X E : Type 0} (list : X → List E) (first : ℕ) where
  abbrev run : X → List ℕ
  run x = range_with_len first (length (list x))

  -- together they are as long as the entries
  pub length-runs : (xs : List X) → length (flat_map run xs) ≡ length (flat_map list xs)
  length-runs xs =
      length-flat_map run xs
      ∙ ap (λ f. sum_by f xs) (fun_ext (λ x. length-range_with_len first (length (list x))))
      ∙ sym (length-flat_map list xs)

  -- a number of the run of an entry
  pub number-in : (xs : List X) (i j : ℕ) (d : X) → i < length xs → j < length (list (get_or xs i d))
      → get_or (flat_map run xs) (length (flat_map list (take i xs)) + j) 0 ≡ first + j
  number-in xs i j d h few =
      ap (λ m. get_or (flat_map run xs) (m + j) 0) (sym (length-runs (take i xs)))
      ∙ get_or-flat_map run xs i j d 0 h
      (omega (arith, few, length-range_with_len first (length (list (get_or xs i d)))))
      ∙ get_or-range_with_len first (length (list (get_or xs i d))) j 0 few

-- a number, and where it stands in a run
record IsPlaced (place first base a : ℕ) : Type 0 where
  pub place_is : place + first ≡ base + a
  pub low : place < base + 64
  pub high : base ≤ place

module _ (c : CheckedGrammar) (none : first_fault c.grammar ≡ None) where
  abbrev pub all_places : List ℕ
  all_places = shared_places c.grammar ++ own_places c.grammar

  shared_length : length (shared_places c.grammar) ≡ shared_count c.grammar.interfaces
  shared_length = length-runs (λ (x : Interface). x.attrs) 0 c.grammar.interfaces

  own_length : length (own_places c.grammar) ≡ own_count c.grammar.classes
  own_length = length-runs (λ (x : Class). x.attrs) 64 c.grammar.classes

  pub places_count : length all_places ≡ (meant c).attribute_count
  places_count =
      length-append (shared_places c.grammar) (own_places c.grammar) ∙ ap₂ (λ m n. m + n) shared_length own_length

  pub few_shared : (i : ℕ) → i < length c.grammar.interfaces → length (interface_at c.grammar i).attrs ≤ 64
  few_shared i h =
      omega (
        arith,
        (within_limits c.grammar none (greatest_of_width c.width)).shared i h,
        ap length (shared_run c i),
        length-range_with_len (shared_count (take i c.grammar.interfaces)) (length (interface_at c.grammar i).attrs),
      )

  pub few_own : (k : ℕ) → k < length c.grammar.classes → length (class_at c.grammar k).attrs ≤ 64
  few_own k h =
      omega (
        arith,
        (within_limits c.grammar none (greatest_of_width c.width)).private k h,
        ap length (private_run c k),
        length-range_with_len (shared_count c.grammar.interfaces + own_count (take k c.grammar.classes))
            (length (class_at c.grammar k).attrs),
      )

  -- an attribute of an interface
  shared_number : (i j : ℕ) → i < length c.grammar.interfaces → j < length (interface_at c.grammar i).attrs
      → get_or all_places (shared_count (take i c.grammar.interfaces) + j) 0 ≡ 0 + j
  shared_number i j h few =
      let within = length-flat_map-take (λ (x : Interface). x.attrs) c.grammar.interfaces i (trees.interface [] [] [])
      h in
      get_or_append_left (shared_places c.grammar) (own_places c.grammar) 0
      (shared_count (take i c.grammar.interfaces) + j)
      (omega (arith, within, few, shared_length))
      ∙ number-in (λ (x : Interface). x.attrs) 0 c.grammar.interfaces i j (trees.interface [] [] []) h few

  -- an attribute of a class's own
  own_number : (k j : ℕ) → k < length c.grammar.classes → j < length (class_at c.grammar k).attrs
      → get_or all_places ((shared_count c.grammar.interfaces + own_count (take k c.grammar.classes)) + j) 0 ≡ 64 + j
  own_number k j h few =
      let at : (shared_count c.grammar.interfaces + own_count (take k c.grammar.classes)) + j
      ≡ length (shared_places c.grammar) + (own_count (take k c.grammar.classes) + j) = omega (arith, shared_length) in
      ap (λ m. get_or all_places m 0) at
      ∙ get_or-append-add (shared_places c.grammar) (own_places c.grammar) (own_count (take k c.grammar.classes) + j) 0
      ∙ number-in (λ (x : Class). x.attrs) 64 c.grammar.classes k j (trees.class [] [] [] [] []) h few

  shared_placed : (i a : ℕ) → i < length c.grammar.interfaces → Contains ((meant c).shared i) a
      → IsPlaced (get_or all_places a 0) (shared_count (take i c.grammar.interfaces)) 0 a
  shared_placed i a known there =
      let first = shared_count (take i c.grammar.interfaces) in
      let inside = in_range_from first (length (interface_at c.grammar i).attrs) a
      (subst (λ (xs : List ℕ). Contains xs a) (shared_run c i) there) in
      let low = inside.0 in
      let high = inside.1 in
      let at : first + (a - first) ≡ a = omega (arith, low) in
      let is = ap (λ m. get_or all_places m 0) (sym at)
      ∙ shared_number i (a - first) known (omega (arith, low, high)) in
      let few = few_shared i known in
      record {
        place_is = omega (arith, is, low);
        low = omega (arith, is, low, high, few);
        high = omega arith;
      }

  own_placed : (k a : ℕ) → k < length c.grammar.classes → Contains ((meant c).private k) a
      → IsPlaced (get_or all_places a 0) (shared_count c.grammar.interfaces + own_count (take k c.grammar.classes)) 64 a
  own_placed k a known there =
      let first = shared_count c.grammar.interfaces + own_count (take k c.grammar.classes) in
      let inside = in_range_from first (length (class_at c.grammar k).attrs) a
      (subst (λ (xs : List ℕ). Contains xs a) (private_run c k) there) in
      let low = inside.0 in
      let high = inside.1 in
      let at : first + (a - first) ≡ a = omega (arith, low) in
      let is = ap (λ m. get_or all_places m 0) (sym at) ∙ own_number k (a - first) known (omega (arith, low, high)) in
      let few = few_own k known in
      record {
        place_is = omega (arith, is, low);
        low = omega (arith, is, low, high, few);
        high = omega (arith, is);
      }

  of_class_placed : (k a : ℕ) → k < length c.grammar.classes → OfClass (meant c) k a
      → IsPlaced (get_or all_places a 0) (shared_count (take ((meant c).interface k) c.grammar.interfaces)) 0 a
      ⊎ IsPlaced (get_or all_places a 0) (shared_count c.grammar.interfaces + own_count (take k c.grammar.classes)) 64 a
  of_class_placed k a known there =
      ⊎_elim
      (λ shared. inl (shared_placed ((meant c).interface k) a (interface_known c.grammar none k known) shared))
      (λ own. inr (own_placed k a known own))
      (Contains-append_cases ((meant c).shared ((meant c).interface k)) ((meant c).private k) a there)

  low_by : (p f o a : ℕ) → IsPlaced p f 0 a ⊎ IsPlaced p o 64 a → p < 128
  low_by p f o a (inl h) = let l = h.low in omega (arith, l)
  low_by p f o a (inr h) = let l = h.low in omega (arith, l)

  once_by : (p q f o a b : ℕ) → p ≡ q → IsPlaced p f 0 a ⊎ IsPlaced p o 64 a → IsPlaced q f 0 b ⊎ IsPlaced q o 64 b
      → a ≡ b
  once_by p q f o a b e (inl h) (inl l) = let x = h.place_is in let y = l.place_is in omega (arith, e, x, y)
  once_by p q f o a b e (inl h) (inr l) = let x = h.low in let y = l.high in absurd (omega (arith, e, x, y))
  once_by p q f o a b e (inr h) (inl l) = let x = h.high in let y = l.low in absurd (omega (arith, e, x, y))
  once_by p q f o a b e (inr h) (inr l) = let x = h.place_is in let y = l.place_is in omega (arith, e, x, y)

  pub are_places : ArePlaces (meant c) all_places
  are_places = record {
    self_low = λ k a known there. low_by _ _ _ _ (of_class_placed k a known there);
    self_once = λ k a b known first second e.
        once_by _ _ _ _ a b e (of_class_placed k a known first) (of_class_placed k b known second);
    child_low = λ i a known there. let h = shared_placed i a known there in let l = h.low in omega (arith, l);
    child_once = λ i a b known first second e.
        let h = shared_placed i a known first in
        let l = shared_placed i b known second in
        let x = h.place_is in
        let y = l.place_is in
        omega (arith, e, x, y);
  }
