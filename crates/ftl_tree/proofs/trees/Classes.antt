-- The attributes of classes, by how many are declared.
use Rattle.std.proofs.Common.{◌≡◌, ℕ, zero, suc, ◌+◌, ◌<◌, ◌≤◌, None, Bool, true, false, cond, List, [], ◌∷◌, ◌++◌, filter, length, get_or, map, sum, sum_by, take, refl, sym, ap, ap₂, ◌∙◌, arith, length-append}
use Rattle.std.specs.List.{range_with_len}
use Rattle.std.proofs.lemmas.List.Concat.{length-flat_map}
use Rattle.std.proofs.lemmas.List.Elements.{filter-append}
use Rattle.std.proofs.lemmas.List.Folds.{length-flat_map-take}
use Rattle.std.proofs.lemmas.List.FromFn.{length-range_with_len}
use Rattle.std.proofs.lemmas.List.Sums.{sum-map, sum_by-cons}
use Rattle.ftl_grammar.specs.syntax.Trees as trees
use Rattle.ftl_grammar.specs.declared.syntax.rules.Class.{Class}
use Rattle.ftl_grammar.specs.declared.syntax.rules.Grammar.{Grammar}
use Rattle.ftl_grammar.specs.declared.syntax.rules.Interface.{Interface}
use Rattle.ftl_meaning.specs.faults.FirstFault.{first_fault}
use Rattle.ftl_meaning.specs.faults.Numbering.{class_at, interface_at, interface_of, own_count, shared_count}
use Rattle.ftl_meaning.specs.grammars.GrammarOf.{grammar_of}
use Rattle.ftl_meaning.proofs.lawful.RequiredRules.{interface_known}
use Rattle.ftl_meaning.proofs.lawful.Numbers.{map-numbered}
use Rattle.ftl_meaning.proofs.lawful.WithinLimits.{within_limits}
use Rattle.ftl_tree.specs.declared.rows.class_row.ClassRow.{ClassRow}
use Rattle.ftl_tree.specs.rows.ClassRows.{IsClassRow}
use Rattle.ftl_tree.specs.rows.Rows.{sums_from}
use Rattle.ftl_tree.proofs.rows.KidRows.{range-next}
use Rattle.ftl_tree.specs.trees.OwnerRuns.{own_counts, shared_counts}

-- the sum of the first so many
pub sums_at : {X : Type 0} (f : X → ℕ) (xs : List X) (n i : ℕ) → i ≤ length xs → get_or (sums_from n (map f xs)) i 0 ≡ n + sum_by f (take i xs)
sums_at f [] n zero h = omega arith
sums_at f (x ∷ xs) n zero h = omega arith
sums_at f [] n (suc i) h = absurd (omega (arith, h))
sums_at f (x ∷ xs) n (suc i) h =
    sums_at f xs (n + f x) i (omega (arith, h)) ∙ omega (arith, sum_by-cons f x (take i xs))

-- the attributes of all interfaces, and of all classes
pub sum_shared : (g : Grammar) → sum (shared_counts g) ≡ shared_count g.interfaces
sum_shared g = sum-map (λ (x : Interface). length x.attrs) g.interfaces ∙ sym (length-flat_map (λ (x : Interface). x.attrs) g.interfaces)

pub sum_own : (g : Grammar) → sum (own_counts g) ≡ own_count g.classes
sum_own g = sum-map (λ (x : Class). length x.attrs) g.classes ∙ sym (length-flat_map (λ (x : Class). x.attrs) g.classes)

pub first_shared : (g : Grammar) (i : ℕ) → i ≤ length g.interfaces → get_or (sums_from 0 (shared_counts g)) i 0 ≡ shared_count (take i g.interfaces)
first_shared g i h =
    sums_at (λ (x : Interface). length x.attrs) g.interfaces 0 i h
    ∙ omega (arith, length-flat_map (λ (x : Interface). x.attrs) (take i g.interfaces))

pub first_own : (g : Grammar) (k : ℕ) → k ≤ length g.classes → get_or (sums_from 0 (own_counts g)) k 0 ≡ own_count (take k g.classes)
first_own g k h =
    sums_at (λ (x : Class). length x.attrs) g.classes 0 k h
    ∙ omega (arith, length-flat_map (λ (x : Class). x.attrs) (take k g.classes))

module _ (g : Grammar) (no_fault : first_fault g ≡ None) (w : ℕ) where
  pub few_attributes : shared_count g.interfaces + own_count g.classes ≤ 2048
  few_attributes = (within_limits g no_fault w).attributes

  pub few_shared : (i : ℕ) → i < length g.interfaces → length (interface_at g i).attrs ≤ 64
  few_shared i h =
      omega (
        arith,
        (within_limits g no_fault w).shared i h,
        ap length (map-numbered (shared_count (take i g.interfaces)) (interface_at g i).attrs),
        length-range_with_len (shared_count (take i g.interfaces)) (length (interface_at g i).attrs),
      )

  pub few_own : (k : ℕ) → k < length g.classes → length (class_at g k).attrs ≤ 64
  few_own k h =
      omega (
        arith,
        (within_limits g no_fault w).private k h,
        ap length (map-numbered (shared_count g.interfaces + own_count (take k g.classes)) (class_at g k).attrs),
        length-range_with_len (shared_count g.interfaces + own_count (take k g.classes)) (length (class_at g k).attrs),
      )

  -- a row of these numbers is that of the class
  pub row_of_class : (k : ℕ) (row : ClassRow) → k < length g.classes
      → row.shared_first ≡ shared_count (take (interface_of g k) g.interfaces) → row.shared_count ≡ length (interface_at g (interface_of g k)).attrs
      → row.own_first ≡ shared_count g.interfaces + own_count (take k g.classes) → row.own_count ≡ length (class_at g k).attrs
      → IsClassRow (grammar_of w g) k row
  row_of_class k row h sf sc of oc =
      let i = interface_of g k in
      let known = interface_known g no_fault k h in
      let shared = length-flat_map-take (λ (x : Interface). x.attrs) g.interfaces i (trees.interface [] [] []) known in
      let own = length-flat_map-take (λ (x : Class). x.attrs) g.classes k (trees.class [] [] [] [] []) h in
      record {
        attributes =
            ap₂ (λ xs ys. xs ++ ys)
            (map-numbered (shared_count (take i g.interfaces)) (interface_at g i).attrs ∙ ap₂ range_with_len (sym sf) (sym sc))
            (map-numbered (shared_count g.interfaces + own_count (take k g.classes)) (class_at g k).attrs ∙ ap₂ range_with_len (sym of) (sym oc));
        shared = omega (arith, shared, sf, sc);
        own = omega (arith, own, of, oc);
        few = omega (arith, few_shared i known, few_own k h, sc, oc);
      }

-- one more that passes, or none
pub passed_next : (p : ℕ → Bool) (a : ℕ) → length (filter p (range_with_len 0 (a + 1))) ≡ length (filter p (range_with_len 0 a)) + cond (p a) 1 0
passed_next p a =
    ap (λ xs. length (filter p xs)) (range-next 0 a ∙ ap (λ m. range_with_len 0 a ++ m ∷ []) (let e : 0 + a ≡ a = omega arith in e))
    ∙ ap length (filter-append p (range_with_len 0 a) (a ∷ []))
    ∙ length-append (filter p (range_with_len 0 a)) (filter p (a ∷ []))
    ∙ ap (λ n. length (filter p (range_with_len 0 a)) + n) (go (p a))
  where
    go : (b : Bool) → length (cond b (a ∷ []) []) ≡ cond b 1 0
    go true = refl
    go false = refl

pub at_most_one : (b : Bool) → cond b 1 0 ≤ 1
at_most_one true = omega arith
at_most_one false = omega arith
