-- The kids of a node: a kid is there exactly where its number is below the count.
use Rattle.std.proofs.Common.{◌≡◌, ℕ, zero, suc, ◌+◌, ◌<◌, ◌≤◌, ◌==◌, true, false, if◌then◌else◌, arith}
use Rattle.ftl_model.specs.layout.AttributeGrammar.{AttributeGrammar}
use Rattle.ftl_model.specs.layout.Path.{Has, Path, class_at}
use Rattle.ftl_model.specs.layout.Tree.{Forest, IsTree, below_of, class_of, count_in, from_kid, none, size, tree}
use Rattle.ftl_model.specs.layout.TreeOf.{IsTreeOf}
use Rattle.ftl_model.proofs.layout.Fits.{fits_at}

pub kid_exists : (c k : ℕ) (f : Forest) → k < count_in c f → IsTree (from_kid c k f)
kid_exists c k none h = absurd (let z : ⊥ = omega (arith, h) in z)
kid_exists c zero (tree class child inputs below beside) h =
    (elim (child == c) as
    (λ b. zero < (if b then suc (count_in c beside) else count_in c beside)
    → IsTree (if b then tree class child inputs below beside else from_kid c zero beside))
    [ true ↦ λ h. tt | false ↦ λ h. kid_exists c zero beside h ]) h
kid_exists c (suc k) (tree class child inputs below beside) h =
    (elim (child == c) as
    (λ b. suc k < (if b then suc (count_in c beside) else count_in c beside)
    → IsTree (if b then from_kid c k beside else from_kid c (suc k) beside))
    [ true ↦ λ h. kid_exists c k beside (omega (arith, h)) | false ↦ λ h. kid_exists c (suc k) beside h ]) h

pub kid_counted : (c k : ℕ) (f : Forest) → IsTree (from_kid c k f) → k < count_in c f
kid_counted c k none h = absurd h
kid_counted c zero (tree class child inputs below beside) h =
    (elim (child == c) as
    (λ b. IsTree (if b then tree class child inputs below beside else from_kid c zero beside)
    → zero < (if b then suc (count_in c beside) else count_in c beside))
    [ true ↦ λ h. omega arith | false ↦ λ h. kid_counted c zero beside h ]) h
kid_counted c (suc k) (tree class child inputs below beside) h =
    (elim (child == c) as
    (λ b. IsTree (if b then from_kid c k beside else from_kid c (suc k) beside)
    → suc k < (if b then suc (count_in c beside) else count_in c beside)) [
      | true ↦ λ h. let i = kid_counted c k beside h in omega (arith, i)
      | false ↦ λ h. kid_counted c
          (suc k) beside h
    ]) h

-- the trees from a kid on are no more than all
pub kid_size : (c k : ℕ) (f : Forest) → size (from_kid c k f) ≤ size f
kid_size c k none = omega arith
kid_size c zero (tree class child inputs below beside) =
    elim (child == c) as
    (λ b. size (if b then tree class child inputs below beside else from_kid c zero beside) ≤ suc
    (size below + size beside))
    [ true ↦ omega arith | false ↦ let i = kid_size c zero beside in omega arith ]
kid_size c (suc k) (tree class child inputs below beside) =
    elim (child == c) as
    (λ b. size (if b then from_kid c k beside else from_kid c (suc k) beside) ≤ suc (size below + size beside))
    [ true ↦ let i = kid_size c k beside in omega arith | false ↦ let i = kid_size c (suc k) beside in omega arith ]

pub below_size : (f : Forest) → IsTree f → size (below_of f) < size f
below_size none h = absurd h
below_size (tree class child inputs below beside) h = omega arith

pub class_known : (g : AttributeGrammar) (t : Forest) → IsTreeOf g t → (p : Path) → Has t p
    → class_at t p < g.class_count
class_known g t fits p h = (fits_at g t p fits h).class.known

pub root_interface : (g : AttributeGrammar) (t : Forest) → IsTreeOf g t
    → g.interface (class_of t) ≡ g.root
root_interface g none h = absurd h
root_interface g (tree class child inputs below beside) h = h.0

pub root_there : (g : AttributeGrammar) (t : Forest) → IsTreeOf g t → IsTree t
root_there g none h = h
root_there g (tree class child inputs below beside) h = tt
