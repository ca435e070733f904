-- Expressions as what they compute; R is what stands for a read.
use Rattle.std.specs.Prelude.{ℕ, List, [], ◌∷◌, ◌++◌}
use Rattle.ftl_base.specs.declared.comparison.Cmp.{Cmp}

mutual
  -- what computes a number
  pub data Formula (R : Type 0) : Type 0 where
    literal : ℕ → Formula R
    read : R → Formula R
    -- what is read, or the formula where there is nothing to read
    read_or : R → Formula R → Formula R
    negated : Formula R → Formula R
    sum : Formula R → Formula R → Formula R
    difference : Formula R → Formula R → Formula R
    product : Formula R → Formula R → Formula R
    quotient : Formula R → ℕ → Formula R
    least : Formula R → Formula R → Formula R
    greatest : Formula R → Formula R → Formula R
    choice : Question R → Formula R → Formula R → Formula R

  -- what computes a truth
  pub data Question (R : Type 0) : Type 0 where
    compared : Cmp → Formula R → Formula R → Question R
    denied : Question R → Question R
    both : Question R → Question R → Question R
    either : Question R → Question R → Question R

abbrev mutual
  -- what a formula reads, in text order
  pub reads_of : {R : Type 0} → Formula R → List R
  reads_of (literal n) = []
  reads_of (read r) = r ∷ []
  reads_of (read_or r f) = r ∷ reads_of f
  reads_of (negated f) = reads_of f
  reads_of (sum f g) = reads_of f ++ reads_of g
  reads_of (difference f g) = reads_of f ++ reads_of g
  reads_of (product f g) = reads_of f ++ reads_of g
  reads_of (quotient f n) = reads_of f
  reads_of (least f g) = reads_of f ++ reads_of g
  reads_of (greatest f g) = reads_of f ++ reads_of g
  reads_of (choice q f g) = reads_in q ++ (reads_of f ++ reads_of g)

  -- what a question reads, in text order
  pub reads_in : {R : Type 0} → Question R → List R
  reads_in (compared c f g) = reads_of f ++ reads_of g
  reads_in (denied q) = reads_in q
  reads_in (both p q) = reads_in p ++ reads_in q
  reads_in (either p q) = reads_in p ++ reads_in q
