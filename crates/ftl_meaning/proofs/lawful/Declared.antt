-- Attributes are numbered as they are declared.
use Rattle.std.proofs.Common.{◌≡◌, ℕ, zero, suc, ◌+◌, ◌<◌, refl, sym, ◌∙◌, ap, ap₂, arith, List, [], ◌∷◌, ◌++◌, length, get_or, take, flat_map, length-append}
use Rattle.std.specs.List.{range_with_len}
use Rattle.ftl_order.specs.orders.Lawful.{declared}
use Rattle.ftl_grammar.specs.syntax.Trees as trees
use Rattle.ftl_grammar.specs.declared.syntax.rules.Class.{Class}
use Rattle.ftl_grammar.specs.declared.syntax.rules.Grammar.{Grammar}
use Rattle.ftl_grammar.specs.declared.syntax.rules.Interface.{Interface}
use Rattle.ftl_meaning.specs.faults.Numbering.{class_at, interface_at, own_count, shared_count}
use Rattle.ftl_meaning.specs.grammars.GrammarOf.{grammar_of}
use Rattle.ftl_meaning.proofs.lawful.Numbers.{map-numbered}

-- a range and the one that goes on where it ends
range-append : (a m n : ℕ) → range_with_len a m ++ range_with_len (a + m) n ≡ range_with_len a (m + n)
range-append a zero n =
    ap₂ range_with_len (let z : a + 0 ≡ a = omega arith in z) (let z : n ≡ 0 + n = omega arith in z)
range-append a (suc m) n =
    ap (λ (ns : List ℕ). a ∷ (range_with_len (a + 1) m ++ ns))
    (ap (λ k. range_with_len k n) (let z : a + suc m ≡ (a + 1) + m = omega arith in z))
    ∙ ap (λ (ns : List ℕ). a ∷ ns) (range-append (a + 1) m n)
    ∙ ap (λ k. range_with_len a k) (let z : suc (m + n) ≡ suc m + n = omega arith in z)

-- pieces that are ranges, each from the end of the one before it, are a range
pieces : {X A : Type 0} (f : X → List A) (d : X) (xs : List X) (base from : ℕ) (h : ℕ → List ℕ)
    → ((i : ℕ) → i < length xs → h (from + i)
    ≡ range_with_len (base + length (flat_map f (take i xs))) (length (f (get_or xs i d))))
    → flat_map h (range_with_len from (length xs)) ≡ range_with_len base (length (flat_map f xs))
pieces f d [] base from h each = refl
pieces f d (x ∷ xs) base from h each =
    ap₂ (λ (ns ms : List ℕ). ns ++ ms)
    (ap h (let z : from ≡ from + 0 = omega arith in z) ∙ each 0 (omega arith)
    ∙ ap (λ b. range_with_len b (length (f x))) (let z : base + 0 ≡ base = omega arith in z))
    (pieces f d xs (base + length (f x)) (from + 1) h
    (λ i below.
    ap h (let z : (from + 1) + i ≡ from + suc i = omega arith in z)
    ∙ each (suc i) (omega (arith, below))
    ∙ ap (λ b. range_with_len b (length (f (get_or xs i d))))
    (let z : base + length (f x ++ flat_map f (take i xs)) ≡ (base + length (f x)) + length (flat_map f (take i xs)) = omega (arith, length-append (f x) (flat_map f (take i xs))) in
    z)))
    ∙ range-append base (length (f x)) (length (flat_map f xs))
    ∙ ap (range_with_len base) (sym (length-append (f x) (flat_map f xs)))

-- the attributes that are declared, in order, are the numbers below their count
pub declared_in_order : (w : ℕ) (g : Grammar)
    → declared (grammar_of w g) ≡ range_with_len 0 (grammar_of w g).attribute_count
declared_in_order w g =
    ap₂ (λ (ns ms : List ℕ). ns ++ ms)
    (pieces (λ (x : Interface). x.attrs) (trees.interface [] [] []) g.interfaces 0 0 (grammar_of w g).shared
    (λ i below. shared i))
    (pieces (λ (x : Class). x.attrs) (trees.class [] [] [] [] []) g.classes (shared_count g.interfaces) 0
    (grammar_of w g).private (λ k below. own k))
    ∙ ap (λ (b : ℕ). range_with_len 0 (shared_count g.interfaces) ++ range_with_len b (own_count g.classes))
    (let z : shared_count g.interfaces ≡ 0 + shared_count g.interfaces = omega arith in z)
    ∙ range-append 0 (shared_count g.interfaces) (own_count g.classes)
  where
    shared : (i : ℕ) → (grammar_of w g).shared (0 + i)
        ≡ range_with_len (0 + length (flat_map (λ (x : Interface). x.attrs) (take i g.interfaces))) (length (interface_at g i).attrs)
    shared i =
        ap (grammar_of w g).shared (let z : 0 + i ≡ i = omega arith in z)
        ∙ map-numbered (shared_count (take i g.interfaces)) (interface_at g i).attrs
        ∙ ap (λ b. range_with_len b (length (interface_at g i).attrs))
        (let z : shared_count (take i g.interfaces) ≡ 0 + shared_count (take i g.interfaces) = omega arith in z)

    own : (k : ℕ) → (grammar_of w g).private (0 + k)
        ≡ range_with_len (shared_count g.interfaces + length (flat_map (λ (x : Class). x.attrs) (take k g.classes))) (length (class_at g k).attrs)
    own k =
        ap (grammar_of w g).private (let z : 0 + k ≡ k = omega arith in z)
        ∙ map-numbered (shared_count g.interfaces + own_count (take k g.classes)) (class_at g k).attrs
