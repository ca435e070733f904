-- In a schedule with each computed attribute once, a pass that lists one is the pass of its place, and lists it once.
use Rattle.std.proofs.Common.{◌≡◌, ℕ, zero, suc, ◌+◌, ◌<◌, ◌≤◌, ◌==◌, true, false, cond, if◌then◌else◌, refl, sym, ◌∙◌, ap, subst, arith, List, [], ◌∷◌, ◌++◌, length, get_or, flat_map, count_by, Contains}
use Rattle.std.proofs.lemmas.List.{get_or_default}
use Rattle.std.proofs.lemmas.List.Elements.{Contains-append_left, Contains-append_right}
use Rattle.std.proofs.lemmas.List.Sums.{sum_by-append}
use Rattle.ftl_model.specs.lists.Lists.{is_listed}
use Rattle.ftl_model.proofs.lists.Elements.{in_flat_map, nothing_in}
use Rattle.ftl_model.proofs.lists.Listed.{counted_in, is_there, listed}
use Rattle.ftl_order.specs.orders.Schedule.{Pass, Schedule, empty_pass, entries, has_entry, pass_at, pass_in_stage, pass_of, stage_of}
use Rattle.ftl_items.proofs.stage_items.Pieces.{in_counted}

abbrev listed_in : List Pass → List ℕ
listed_in passes = flat_map (λ (pass : Pass). pass.attributes) passes

abbrev pub many : ℕ → List ℕ → ℕ
many a xs = count_by (λ b. b == a) xs

pub many-append : (a : ℕ) (xs ys : List ℕ) → many a (xs ++ ys) ≡ many a xs + many a ys
many-append a xs ys = sum_by-append (λ b. cond (b == a) 1 0) xs ys

in_later : (passes : List Pass) (n a : ℕ) → Contains (get_or passes n empty_pass).attributes a
    → Contains (listed_in passes) a
in_later [] n a h = absurd (nothing_in a h)
in_later (pass ∷ passes) zero a h = Contains-append_left pass.attributes (listed_in passes) a h
in_later (pass ∷ passes) (suc n) a h =
    Contains-append_right pass.attributes (listed_in passes) a (in_later passes n a h)

pub entry_there : (passes : List Pass) (a : ℕ) → has_entry passes a ≡ true → Contains (listed_in passes) a
entry_there [] a e = absurd (let z : ⊥ = grind arith in z)
entry_there (pass ∷ passes) a e =
    elim (is_listed pass.attributes a) as
    (λ b. (is_listed pass.attributes a ≡ b) → (if b then true else has_entry passes a) ≡ true
    → Contains (listed_in (pass ∷ passes)) a) [
      | true ↦ λ f e. Contains-append_left pass.attributes (listed_in passes) a (is_there pass.attributes a f)
      | false ↦ λ f e. Contains-append_right pass.attributes (listed_in passes) a (entry_there passes a e)
    ]
    refl e

-- in one stage
pub record PassHere (passes : List Pass) (n a : ℕ) : Type 0 where
  pub is : pass_of passes a ≡ n
  pub there : has_entry passes a ≡ true
  pub few : many a (get_or passes n empty_pass).attributes ≤ 1

pass_here : (passes : List Pass) (n a : ℕ) → many a (listed_in passes) ≤ 1
    → Contains (get_or passes n empty_pass).attributes a
    → PassHere passes n a
pass_here [] n a few h = absurd (nothing_in a h)
pass_here (pass ∷ passes) zero a few h =
    let e = many-append a pass.attributes (listed_in passes) in
    let l = listed pass.attributes a h in
    record {
      is = ap (λ b. if b then 0 else suc (pass_of passes a)) l;
      there = ap (λ b. if b then true else has_entry passes a) l;
      few = omega (arith, e, few);
    }
pass_here (pass ∷ passes) (suc n) a few h =
    let e = many-append a pass.attributes (listed_in passes) in
    let later = in_counted (listed_in passes) a (in_later passes n a h) in
    elim (is_listed pass.attributes a) as
    (λ b. (is_listed pass.attributes a ≡ b) → PassHere (pass ∷ passes) (suc n) a) [
      | true ↦ λ f.
          absurd
          (let c = in_counted pass.attributes a (is_there pass.attributes a f) in
          let z : ⊥ = omega (arith, c, later, e, few) in
          z)
      | false ↦ λ f.
          let i = pass_here passes n a (omega (arith, e, few)) h in
          record {
            is = ap (λ b. if b then 0 else suc (pass_of passes a)) f ∙ ap suc i.is;
            there = ap (λ b. if b then true else has_entry passes a) f ∙ i.there;
            few = i.few;
          }
    ]
    refl

pub in_stages : (stages : Schedule) (m n a : ℕ) → Contains (pass_at stages m n).attributes a
    → Contains (entries stages) a
in_stages [] m n a h = absurd (nothing_in a h)
in_stages (passes ∷ stages) zero n a h =
    Contains-append_left (listed_in passes) (entries stages) a (in_later passes n a h)
in_stages (passes ∷ stages) (suc m) n a h =
    Contains-append_right (listed_in passes) (entries stages) a (in_stages stages m n a h)

-- in the schedule
pub record StageHere (s : Schedule) (m n a : ℕ) : Type 0 where
  pub stage : stage_of s a ≡ m
  pub pass : pass_in_stage s a ≡ n
  pub few : many a (pass_at s m n).attributes ≤ 1

pub stage_here : (s : Schedule) (m n a : ℕ) → many a (entries s) ≤ 1 → Contains (pass_at s m n).attributes a
    → StageHere s m n a
stage_here [] m n a few h = absurd (nothing_in a h)
stage_here (passes ∷ stages) zero n a few h =
    let e = many-append a (listed_in passes) (entries stages) in
    let here = pass_here passes n a (omega (arith, e, few)) h in
    let first : stage_of (passes ∷ stages) a ≡ 0 = ap (λ b. if b then 0 else suc (stage_of stages a)) here.there in
    record {
      stage = first;
      pass = ap (λ m. pass_of (get_or (passes ∷ stages) m []) a) first ∙ here.is;
      few = here.few;
    }
stage_here (passes ∷ stages) (suc m) n a few h =
    let e = many-append a (listed_in passes) (entries stages) in
    elim (has_entry passes a) as
    (λ b. (has_entry passes a ≡ b) → StageHere (passes ∷ stages) (suc m) n a) [
      | true ↦ λ f.
          absurd
          (let c = in_counted (listed_in passes) a (entry_there passes a f) in
          let later = in_counted (entries stages) a (in_stages stages m n a h) in
          let z : ⊥ = omega (arith, c, later, e, few) in
          z)
      | false ↦ λ f.
          let i = stage_here stages m n a (omega (arith, e, few)) h in
          let next : stage_of (passes ∷ stages) a ≡ suc (stage_of stages a) =
          ap (λ b. if b then 0 else suc (stage_of stages a)) f in
          record {
            stage = next ∙ ap suc i.stage;
            pass = ap (λ m. pass_of (get_or (passes ∷ stages) m []) a) next ∙ i.pass;
            few = i.few;
          }
    ]
    refl

-- a pass that lists an entry
pub record Found (s : Schedule) (a : ℕ) : Type 0 where
  pub stage : ℕ
  pub pass : ℕ
  pub known : pass < length (get_or s stage [])
  pub there : Contains (pass_at s stage pass).attributes a

found_in : (s : Schedule) (a : ℕ) → Contains (entries s) a → Found s a
found_in s a h =
    let stage = in_flat_map listed_in s a h in
    let passes = stage.0 in
    let pass = in_flat_map (λ (pass : Pass). pass.attributes) passes a stage.2 in
    let m = stage.1.0 in
    let n = pass.1.0 in
    let is_stage : get_or s m [] ≡ passes = get_or_default s m [] passes stage.1.1 ∙ stage.1.2 in
    let is_pass : get_or passes n empty_pass ≡ pass.0 = get_or_default passes n empty_pass pass.0 pass.1.1 ∙ pass.1.2 in
    record {
      stage = m;
      pass = n;
      known = subst (λ ps. n < length ps) (sym is_stage) pass.1.1;
      there =
          subst (λ ps. Contains (get_or ps n empty_pass).attributes a) (sym is_stage)
          (subst (λ (p : Pass). Contains p.attributes a) (sym is_pass) pass.2);
    }

-- the pass of an attribute's place is there, and lists it
pub record ListedAt (s : Schedule) (a : ℕ) : Type 0 where
  pub known : pass_in_stage s a < length (get_or s (stage_of s a) [])
  pub there : Contains (pass_at s (stage_of s a) (pass_in_stage s a)).attributes a

pub listed_at : (s : Schedule) (a : ℕ) → many a (entries s) ≡ 1 → ListedAt s a
listed_at s a once =
    let f = found_in s a (counted_in (entries s) a (omega (arith, once))) in
    let here = stage_here s f.stage f.pass a (omega (arith, once)) f.there in
    record {
      known =
          subst (λ m. pass_in_stage s a < length (get_or s m [])) (sym here.stage)
          (subst (λ n. n < length (get_or s f.stage [])) (sym here.pass) f.known);
      there =
          subst (λ m. Contains (pass_at s m (pass_in_stage s a)).attributes a) (sym here.stage)
          (subst (λ n. Contains (pass_at s f.stage n).attributes a) (sym here.pass) f.there);
    }
