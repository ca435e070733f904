-- Of which kind a cell is in a stage: by the sort of its attribute and the stage that computes it.
use Rattle.std.proofs.Common.{◌≡◌, ◌≢◌, ◌⊎◌, ℕ, ◌<◌, ◌==◌, true, false, if◌then◌else◌, ltb, ltb-true, ltb-false, refl, ap, inl, inr, ⊎_elim, arith, eqb-true, eq-eqb}
use Rattle.ftl_cells.specs.declared.shared.kind.CellKind.TheVariants.{Given, Target, Later}
use Rattle.ftl_model.specs.layout.AttributeGrammar.{Sort, inherited, input, local, synthesized}
use Rattle.ftl_items.specs.stage_items.StageWork.{kind_by, kind_by_stage}

stage_target : (n stage : ℕ) → n ≡ stage → kind_by_stage n stage ≡ Target
stage_target n stage e =
    elim (ltb n stage) as (λ b. (ltb n stage ≡ b) → (if b then Given else (if n == stage then Target else Later)) ≡ Target) [
      | true ↦ λ f. absurd (let l = ltb-true n stage f in let z : ⊥ = omega (arith, l, e) in z)
      | false ↦ λ f. ap (λ b. if b then Target else Later) (eq-eqb n stage e)
    ] refl

stage_given : (n stage : ℕ) → n < stage → kind_by_stage n stage ≡ Given
stage_given n stage less =
    elim (ltb n stage) as (λ b. (ltb n stage ≡ b) → (if b then Given else (if n == stage then Target else Later)) ≡ Given) [
      | true ↦ λ f. refl
      | false ↦ λ f. absurd (let l = ltb-false n stage f in let z : ⊥ = omega (arith, l, less) in z)
    ] refl

target_stage : (n stage : ℕ) → kind_by_stage n stage ≡ Target → n ≡ stage
target_stage n stage e =
    (elim (ltb n stage) as (λ b. (if b then Given else (if n == stage then Target else Later)) ≡ Target → n ≡ stage) [
      | true ↦ λ e. absurd (let z : ⊥ = cc in z)
      | false ↦ λ e.
          (elim (n == stage) as (λ b. (n == stage ≡ b) → (if b then Target else Later) ≡ Target → n ≡ stage)
          [ true ↦ λ f e. eqb-true n stage f | false ↦ λ f e. absurd (let z : ⊥ = cc in z) ]) refl e
    ]) e

pub kind_target : (sort : Sort) (n stage : ℕ) → sort ≢ input → n ≡ stage → kind_by sort n stage ≡ Target
kind_target input n stage computed e = absurd (computed refl)
kind_target inherited n stage computed e = stage_target n stage e
kind_target synthesized n stage computed e = stage_target n stage e
kind_target local n stage computed e = stage_target n stage e

pub kind_given : (sort : Sort) (n stage : ℕ) → (sort ≡ input) ⊎ (n < stage) → kind_by sort n stage ≡ Given
kind_given input n stage h = refl
kind_given inherited n stage h = ⊎_elim (λ e. absurd (let z : ⊥ = cc in z)) (λ less. stage_given n stage less) h
kind_given synthesized n stage h = ⊎_elim (λ e. absurd (let z : ⊥ = cc in z)) (λ less. stage_given n stage less) h
kind_given local n stage h = ⊎_elim (λ e. absurd (let z : ⊥ = cc in z)) (λ less. stage_given n stage less) h

pub target_kind_of : (sort : Sort) (n stage : ℕ) → kind_by sort n stage ≡ Target → (sort ≢ input) × (n ≡ stage)
target_kind_of input n stage e = absurd (let z : ⊥ = cc in z)
target_kind_of inherited n stage e = ((grind arith), target_stage n stage e)
target_kind_of synthesized n stage e = ((grind arith), target_stage n stage e)
target_kind_of local n stage e = ((grind arith), target_stage n stage e)

given_stage : (n stage : ℕ) → kind_by_stage n stage ≡ Given → n < stage
given_stage n stage e =
    (elim (ltb n stage) as
    (λ b. (ltb n stage ≡ b) → (if b then Given else (if n == stage then Target else Later)) ≡ Given → n < stage) [
      | true ↦ λ f e. ltb-true n stage f
      | false ↦ λ f e.
          absurd
          ((elim (n == stage) as (λ b. (if b then Target else Later) ≡ Given → ⊥)
          [ true ↦ λ e. let z : ⊥ = cc in z | false ↦ λ e. let z : ⊥ = cc in z ]) e)
    ]) refl e

pub given_kind_of : (sort : Sort) (n stage : ℕ) → kind_by sort n stage ≡ Given → (sort ≡ input) ⊎ (n < stage)
given_kind_of input n stage e = inl refl
given_kind_of inherited n stage e = inr (given_stage n stage e)
given_kind_of synthesized n stage e = inr (given_stage n stage e)
given_kind_of local n stage e = inr (given_stage n stage e)
