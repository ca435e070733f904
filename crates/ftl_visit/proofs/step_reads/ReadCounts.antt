-- How much reads are of.
use Rattle.std.proofs.Common.{◌≡◌, inl, ℕ, zero, suc, ◌+◌, ◌*◌, ◌-◌, ◌<◌, ◌≤◌, ◌==◌, true, false, if◌then◌else◌, List, [], ◌∷◌, ◌++◌, flat_map, length, refl, sym, ◌∙◌, ap, ap₂, arith, length-append}
use Rattle.std.specs.List.{range_with_len}
use Rattle.ftl_model.specs.layout.AttributeGrammar.{AttributeGrammar, Read, each_read, last_read, prev_read, seen_by, self_read, single_read, this_read, occurrences}
use Rattle.ftl_model.specs.layout.Path.{Has, Path, at, down, kids_at, node_at, size_at, top}
use Rattle.ftl_model.specs.layout.Tree.{Forest, below_of, none, tree, count_in, size}
use Rattle.ftl_model.specs.layout.TreeOf.{IsTreeOf}
use Rattle.ftl_model.proofs.layout.Numbering.{has-node_at}
use Rattle.ftl_model.proofs.layout.Standing.{has_parent}
use Rattle.ftl_order.proofs.orders.Kids.{root_there}
use Rattle.ftl_order.proofs.orders.Ranges.{above_range}

-- at each later kid a read is of as many as at the first of these
one_later : (kids : ℕ → ℕ) (n : ℕ) (r : Read)
    → length (occurrences kids (suc n) r) ≡ length (occurrences kids 1 r)
one_later kids n (self_read a) = refl
one_later kids n (single_read c a) = refl
one_later kids n (each_read c a) = refl
one_later kids n (this_read c a) = refl
one_later kids n (prev_read c a) = refl
one_later kids n (last_read c a) = refl

all_later : (kids : ℕ → ℕ) (n : ℕ) (rs : List Read) → length (seen_by kids (suc n) rs) ≡ length (seen_by kids 1 rs)
all_later kids n [] = refl
all_later kids n (r ∷ rs) =
    length-append (occurrences kids (suc n) r) (seen_by kids (suc n) rs)
    ∙ ap₂ (λ a b. a + b) (one_later kids n r) (all_later kids n rs)
    ∙ sym (length-append (occurrences kids 1 r) (seen_by kids 1 rs))

at_later : (kids : ℕ → ℕ) (n : ℕ) (rs : List Read) → 0 < n
    → length (seen_by kids n rs) ≡ length (seen_by kids 1 rs)
at_later kids zero rs more = absurd (let z : ⊥ = omega (arith, more) in z)
at_later kids (suc n) rs more = all_later kids n rs

later_steps : (kids : ℕ → ℕ) (from m : ℕ) (rs : List Read) → 0 < from
    → length (flat_map (λ n. seen_by kids n rs) (range_with_len from m)) ≡ m * length (seen_by kids 1 rs)
later_steps kids from zero rs more = let z : 0 ≡ 0 * length (seen_by kids 1 rs) = omega arith in z
later_steps kids from (suc m) rs more =
    length-append (seen_by kids from rs) (flat_map (λ n. seen_by kids n rs) (range_with_len (from + 1) m))
    ∙ ap₂ (λ a b. a + b) (at_later kids from rs more) (later_steps kids (from + 1) m rs (omega (arith, more)))
    ∙ times m (length (seen_by kids 1 rs))
  where
    times : (m n : ℕ) → n + m * n ≡ suc m * n
    times m n = grind arith

-- what a fold reads over one kid and more
pub step_reads : (kids : ℕ → ℕ) (m : ℕ) (rs : List Read) → 0 < m
    → length (flat_map (λ n. seen_by kids n rs) (range_with_len 0 m))
    ≡ length (seen_by kids 0 rs) + (m - 1) * length (seen_by kids 1 rs)
step_reads kids zero rs more = absurd (let z : ⊥ = omega (arith, more) in z)
step_reads kids (suc m) rs more =
    length-append (seen_by kids 0 rs) (flat_map (λ n. seen_by kids n rs) (range_with_len 1 m))
    ∙ ap (λ n. length (seen_by kids 0 rs) + n) (later_steps kids 1 m rs (omega arith))
    ∙ ap (λ n. length (seen_by kids 0 rs) + n * length (seen_by kids 1 rs)) (let z : m ≡ suc m - 1 = omega arith in z)

pub no_steps : (kids : ℕ → ℕ) (m : ℕ) (rs : List Read) → m ≡ 0
    → length (flat_map (λ n. seen_by kids n rs) (range_with_len 0 m)) ≡ 0
no_steps kids m rs is = ap (λ k. length (flat_map (λ n. seen_by kids n rs) (range_with_len 0 k))) is

-- a fold reads its start and its step
pub fold_reads : (kids : ℕ → ℕ) (n m : ℕ) (start step : List Read)
    → length (seen_by kids n start ++ flat_map (λ n. seen_by kids n step) (range_with_len 0 m))
    ≡ length (seen_by kids n start) + length (flat_map (λ n. seen_by kids n step) (range_with_len 0 m))
fold_reads kids n m start step =
    length-append (seen_by kids n start) (flat_map (λ n. seen_by kids n step) (range_with_len 0 m))

-- there are no more kids than nodes
pub kids_few : (c : ℕ) (f : Forest) → count_in c f ≤ size f
kids_few c none = omega arith
kids_few c (tree class child inputs below beside) =
    elim (child == c) as (λ b. (if b then suc (count_in c beside) else count_in c beside) ≤ suc (size below + size
    beside)) [
      | true ↦ let i = kids_few c beside in omega (arith, i)
      | false ↦ let i = kids_few c beside in omega (arith, i)
    ]

-- the tree at a node has no more nodes than that at the root
size_within : (t : Forest) (p : Path) → Has t p → size_at t p ≤ size_at t top
size_within t top h = omega arith
size_within t (down c k q) h =
    let r = above_range t q (down c k q) h (inl refl) in
    let first = r.0 in
    let last = r.1 in
    let i = size_within t q (has_parent t c k q h) in
    omega (arith, first, last, i)

-- a tree of a grammar has its root and what is below
whole : (g : AttributeGrammar) (t : Forest) → IsTreeOf g t → size t ≡ size_at t top
whole g none fits = absurd fits
whole g (tree class child inputs below beside) fits =
    let alone : size beside ≡ 0 = ap size fits.4 in
    let z : suc (size below + size beside) ≡ suc (size below) = omega (arith, alone) in
    z

-- a node has no more kids in a child than the tree has nodes
pub few_kids : (g : AttributeGrammar) (t : Forest) (n c : ℕ) → IsTreeOf g t → n < size t
    → kids_at t (node_at t n) c ≤ size t
few_kids g t n c fits known =
    let p = node_at t n in
    let all = whole g t fits in
    let here = size_within t p (has-node_at t n (root_there g t fits) (omega (arith, all, known))) in
    let kids = kids_few c (below_of (at t p)) in
    omega (arith, here, all, kids)

-- the reads of the later steps
pub ruleset later_reads = (step_reads, no_steps)
