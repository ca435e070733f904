-- Kids that are there, by number.
use Rattle.std.proofs.Common.{◌≡◌, ℕ, zero, suc, ◌-◌, ◌<◌, List, [], refl, arith, Contains, subst}
use Rattle.ftl_model.proofs.lists.Elements.{here_in}
use Rattle.ftl_model.specs.layout.AttributeGrammar.{AttributeGrammar, Read, first_then, kid, kid_before, read_occurrences, seen_by}
use Rattle.ftl_model.specs.layout.Path.{Has, at, down, kids_at, node_at, number_of}
use Rattle.ftl_model.specs.layout.Tree.{Forest, below_of, size}
use Rattle.ftl_model.specs.layout.TreeOf.{IsTreeOf}
use Rattle.ftl_model.proofs.layout.Fits.{kid_stands}
use Rattle.ftl_model.proofs.layout.Standing.{node_at-number_of, number_of-lt}
use Rattle.ftl_order.proofs.orders.Kids.{kid_counted}
use Rattle.ftl_tree.specs.rows.KidRuns.{IsChildOf}
use Rattle.ftl_step_value.proofs.limits.reads.Entries.{whole}

-- a kid of a node, and the number of it
pub record KidThere (g : AttributeGrammar) (t : Forest) (node child number : ℕ) : Type 0 where
  pub at_child : IsChildOf g t node child
  pub counted : number < kids_at t (node_at t node) child
  pub known : number_of t (down child number (node_at t node)) < size t
  pub stands : node_at t (number_of t (down child number (node_at t node))) ≡ down child number (node_at t node)

pub kid_there : (g : AttributeGrammar) (t : Forest) → IsTreeOf g t → (node child number : ℕ) → node < size t
    → Has t (down child number (node_at t node)) → KidThere g t node child number
kid_there g t fits node child number known has =
    let p = node_at t node in
    let q = down child number p in
    let below = number_of-lt t q has in
    let all = whole g t fits in
    record {
      at_child = record { known = known; declared = (kid_stands g t child number p fits has).declared };
      counted = kid_counted child number (below_of (at t p)) has;
      known = (let z : number_of t q < size t = omega (arith, below, all) in z);
      stands = node_at-number_of t q has;
    }

-- the kid before one is seen where there is one
pub before_in : (c a n : ℕ) → 0 < n → Contains (kid_before c a n) (kid c (n - 1) a)
before_in c a zero some = absurd (let z : ⊥ = omega (arith, some) in z)
before_in c a (suc n) some =
    subst (λ m. Contains (kid_before c a (suc n)) (kid c m a)) (let z : n ≡ suc n - 1 = omega arith in z)
    (here_in (kid c n a) [])

-- which part of a rule for kids is read
pub first_seen : (kids : ℕ → ℕ) (k : ℕ) (first later : List Read) → k ≡ 0
    → read_occurrences (first_then first later) kids k ≡ seen_by kids k first
first_seen kids zero first later is = refl
first_seen kids (suc k) first later is = absurd (let z : ⊥ = omega (arith, is) in z)

pub later_seen : (kids : ℕ → ℕ) (k : ℕ) (first later : List Read) → 0 < k
    → read_occurrences (first_then first later) kids k ≡ seen_by kids k later
later_seen kids zero first later some = absurd (let z : ⊥ = omega (arith, some) in z)
later_seen kids (suc k) first later some = refl
