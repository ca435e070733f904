-- The phase of an item: what lies in a range, and what comes before what.
use Rattle.std.proofs.Common.{◌≡◌, ◌≢◌, ◌⊎◌, ℕ, ◌+◌, ◌*◌, ◌/◌, ◌<◌, ◌≤◌, Bool, true, false, if◌then◌else◌, leb, leb-true, refl, sym, ap, subst, inl, inr, arith}
use Rattle.std.proofs.Math.Nat.{div-mul-le_self}
use Rattle.ftl_model.specs.layout.AttributeGrammar.{AttributeGrammar}
use Rattle.ftl_model.specs.layout.Path.{Path, down}
use Rattle.ftl_model.specs.layout.Table.{first_instance}
use Rattle.ftl_model.specs.layout.Tree.{Forest}
use Rattle.ftl_order.specs.orders.Schedule.{PassKind, bottomup, inorder, topdown}
use Rattle.ftl_items.specs.stage_items.Cut.{begins_by}
use Rattle.ftl_items.specs.stage_items.Items.{hands_on}
use Rattle.ftl_items.proofs.stage_items.HandingLaws.{kid_of}
use Rattle.ftl_items.proofs.stage_items.Homes.{open_all}
use Rattle.ftl_cells.specs.work_phases.Phases.{ComesBefore, IsCellOfRange}
use Rattle.ftl_cells.specs.declared.work_phases.phase.Phase.{Phase}
use Rattle.ftl_cells.specs.declared.work_phases.phase.Phase.TheVariants.{First, Range, Last}
use Rattle.ftl_plan.specs.phases.StagePhases.{cells_end, item_phase, range_phase}

-- the number of a range, or 0
abbrev number_in : Phase → ℕ
number_in First = 0
number_in (Range b) = b
number_in Last = 0

first_or_later : (x : Phase) → (First ≡ x) ⊎ ComesBefore First x
first_or_later First = inl refl
first_or_later (Range b) = inr tt
first_or_later Last = inr tt

last_or_earlier : (x : Phase) → (x ≡ Last) ⊎ ComesBefore x Last
last_or_earlier First = inr tt
last_or_earlier (Range b) = inr tt
last_or_earlier Last = inl refl

-- a tree takes the phase of the range in which all its cells lie
pub record TakesRange (g : AttributeGrammar) (t : Forest) (size b : ℕ) (p : Path) : Type 0 where
  pub is : first_instance g t p / size ≡ b
  pub end : cells_end g t p ≤ (b + 1) * size

module _ (g : AttributeGrammar) (t : Forest) (size : ℕ) (p : Path) where
  takes_range : (b : ℕ) → range_phase g t size p ≡ Range b → TakesRange g t size b p
  takes_range b e =
      let n = first_instance g t p / size in
      let end = cells_end g t p in
      (elim (leb end ((n + 1) * size)) as
      (λ c. (leb end ((n + 1) * size) ≡ c) → (if c then Range n else Last) ≡ Range b → TakesRange g t size b p) [
        | true ↦ λ f e.
            let same : n ≡ b = ap number_in e in
            record {
              is = same;
              end = subst (λ k. end ≤ (k + 1) * size) same (leb-true end ((n + 1) * size) f);
            }
        | false ↦ λ f e. absurd (let z : ⊥ = cc in z)
      ]) refl e

  pub in_range : (b cell : ℕ) → TakesRange g t size b p → first_instance g t p ≤ cell → cell < cells_end g t p
      → IsCellOfRange size b cell
  in_range b cell takes from to =
      let low =
      subst (λ k. k * size ≤ first_instance g t p) takes.is (div-mul-le_self (first_instance g t p) size) in
      let high = takes.end in
      (omega (arith, low, from), omega (arith, high, to))

module _ (g : AttributeGrammar) (is_whole : Path → Bool) (t : Forest) (size : ℕ) where
  -- an item in a range is a whole tree of a topdown or bottomup pass
  pub record IsRanged (kind : PassKind) (b : ℕ) (p : Path) : Type 0 where
    pub some : kind ≢ inorder
    pub whole : is_whole p ≡ true
    pub takes : TakesRange g t size b p

  tree_ranged : (kind : PassKind) (alone : Phase) (p : Path) (b : ℕ) → kind ≢ inorder → (alone ≡ Range b → ⊥)
      → (if is_whole p then range_phase g t size p else alone) ≡ Range b → IsRanged kind b p
  tree_ranged kind alone p b some other e =
      (elim (is_whole p) as
      (λ c. (is_whole p ≡ c) → (if c then range_phase g t size p else alone) ≡ Range b → IsRanged kind b p) [
        | true ↦ λ f e. record { some = some; whole = f; takes = takes_range g t size p b e }
        | false ↦ λ f e. absurd (other e)
      ]) refl e

  pub ranged : (kind : PassKind) (p : Path) (b : ℕ) → item_phase g is_whole t size kind p ≡ Range b → IsRanged kind b p
  ranged topdown p b e =
      tree_ranged topdown First p b (λ e. let z : ⊥ = cc in z) (λ e. let z : ⊥ = cc in z) e
  ranged bottomup p b e =
      tree_ranged bottomup Last p b (λ e. let z : ⊥ = cc in z) (λ e. let z : ⊥ = cc in z) e
  ranged inorder p b e = absurd (let z : ⊥ = cc in z)

  -- an item at a kid's node begins only where the node's own tree is not one item
  alone_at : (alone : Phase) (c k : ℕ) (p : Path) → begins_by is_whole (down c k p) ≡ true
      → (if is_whole p then range_phase g t size p else alone) ≡ alone
  alone_at alone c k p begun =
      ap (λ b. if b then range_phase g t size p else alone) (open_all is_whole p begun p (inl refl))

  abbrev IsOrdered : (x y : Phase) → Type 0
  IsOrdered x y = (x ≡ y) ⊎ ComesBefore x y

  pub ordered : (kind : PassKind) (p q : Path)
      → (kind ≢ inorder → (begins_by is_whole p ≡ true) × (begins_by is_whole q ≡ true))
      → hands_on kind p q ≡ true → IsOrdered (item_phase g is_whole t size kind p) (item_phase g is_whole t size kind q)
  ordered topdown p q begun e =
      let kid = kid_of p q e in
      let there = subst (λ r. begins_by is_whole r ≡ true) kid.is (begun (λ e. let z : ⊥ = cc in z)).1 in
      subst (λ x. IsOrdered x (item_phase g is_whole t size topdown q)) (sym (alone_at First kid.child kid.kid p there))
      (first_or_later (item_phase g is_whole t size topdown q))
  ordered bottomup p q begun e =
      let kid = kid_of q p e in
      let there = subst (λ r. begins_by is_whole r ≡ true) kid.is (begun (λ e. let z : ⊥ = cc in z)).0 in
      subst (IsOrdered (item_phase g is_whole t size bottomup p)) (sym (alone_at Last kid.child kid.kid q there))
      (last_or_earlier (item_phase g is_whole t size bottomup p))
  ordered inorder p q begun e = absurd (let z : ⊥ = grind arith in z)
