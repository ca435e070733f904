-- A schedule without nests, as one that may have them.
use Rattle.std.proofs.Common.{◌≡◌, ℕ, zero, suc, true, false, if◌then◌else◌, refl, sym, ◌∙◌, ap, ap₂, subst, inl, inr, ⊎_elim, arith, List, [], ◌∷◌, map, length, get_or, Option, None}
use Rattle.std.proofs.lemmas.List.{append-nil}
use mathlib.Core.Path.{fun_ext}
use Rattle.ftl_model.specs.layout.AttributeGrammar.{AttributeGrammar, Read}
use Rattle.ftl_model.specs.layout.Solves.{Instance}
use Rattle.ftl_model.specs.layout.Tree.{Forest}
use Rattle.ftl_model.specs.layout.Values.{Value}
use Rattle.ftl_model.specs.lists.Lists.{is_listed}
use Rattle.ftl_cells.specs.shared.Shape.{WorkShape}
use Rattle.ftl_order.specs.orders.LegalOrder.{MustPrecede, turn_of}
use Rattle.ftl_order.specs.orders.Schedule.{Pass, Schedule, EachStandsOnce, empty_pass, pass_at, placing_of}
use Rattle.ftl_order.specs.orders.Sequence.{sequence}
use Rattle.ftl_order.specs.orders.Pairs.{Where}
use Rattle.ftl_order.specs.orders.Ordered.{VisitPlace, visit_place, IsOrderedRead, IsOrdered}
use Rattle.ftl_items.specs.stage_items.Items.{PassForm, form_of, pass_place}
use Rattle.ftl_items.specs.stage_items.StageWork.{kind_of, stage_work, work_by}
use Rattle.ftl_nests.specs.Hosted.{HostedFirst, MustPrecedeWithNests}
use Rattle.ftl_nests.specs.NestItems.{is_whole_with, nest_form, nest_work, visit_with}
use Rattle.ftl_nests.specs.Nests.{NestPlacing, NestingPass, host_of, whole_stage, outer_schedule, no_pass, nesting_pass, home_pass, nest_placing_of, NestRow, IsNestOrderedRead, IsNestOrdered}
use Rattle.ftl_nests.specs.Flat.{plain, plain_pass}

whole_plain : (passes : List Pass) → whole_stage (map plain_pass passes) ≡ passes
whole_plain [] = refl
whole_plain (pass ∷ passes) =
    ap₂ (λ xs ps. (record { kind = pass.kind; attributes = xs }) ∷ ps) (append-nil pass.attributes) (whole_plain passes)

pub outer_plain : (s : Schedule) → outer_schedule (plain s) ≡ s
outer_plain [] = refl
outer_plain (passes ∷ s) = ap₂ (λ x xs. x ∷ xs) (whole_plain passes) (outer_plain s)

no_nest_at : (passes : List Pass) (n : ℕ) → (get_or (map plain_pass passes) n no_pass).nest ≡ None
no_nest_at [] n = refl
no_nest_at (pass ∷ passes) zero = refl
no_nest_at (pass ∷ passes) (suc n) = no_nest_at passes n

no_nests : (s : Schedule) (m n : ℕ) → (nesting_pass (plain s) m n).nest ≡ None
no_nests [] m n = refl
no_nests (passes ∷ s) zero n = no_nest_at passes n
no_nests (passes ∷ s) (suc m) n = no_nests s m n

no_host : (s : Schedule) (a : ℕ) → (nest_placing_of (plain s)).host a ≡ None
no_host s a =
    let p = home_pass (plain s) a in
    elim (is_listed p.attributes a) as (λ b. (if b then None else host_of p.nest) ≡ None) [
      | true ↦ refl
      | false ↦ ap host_of (no_nests s (placing_of (outer_schedule (plain s)) a).stage (placing_of (outer_schedule (plain s)) a).pass)
    ]

plain_read : (s : Schedule) (place : Where) (r : Read) (x y : VisitPlace) → IsOrderedRead (placing_of s) place r x y
    → IsNestOrderedRead (nest_placing_of (plain s)) place r x y
plain_read s place r x y ordered =
    ⊎_elim (λ stage. inl stage)
    (λ here.
    inr (
      here.0,
      subst (λ h. NestRow h ((nest_placing_of (plain s)).host y.attribute)
          ((nest_placing_of (plain s)).outer y.attribute).kind (nest_placing_of (plain s)) place r x y) (sym (no_host s x.attribute))
          (subst (λ h. NestRow None h ((nest_placing_of (plain s)).outer y.attribute).kind (nest_placing_of (plain s)) place r x y)
          (sym (no_host s y.attribute)) here.1),
    ))
    (subst (λ z. IsOrderedRead (placing_of z) place r x y) (sym (outer_plain s)) ordered)

pub plain_ordered : (g : AttributeGrammar) (s : Schedule) → IsOrdered g s → IsNestOrdered g (plain s)
plain_ordered g s ordered =
    record {
      once = subst (λ z. EachStandsOnce g z) (sym (outer_plain s)) ordered.once;
      sides = λ m n nest e. absurd (let f = no_nests s m n in let z : ⊥ = grind (arith, e, f) in z);
      pairs = λ pair is.
          plain_read s pair.runs_at pair.read (visit_place g pair.writer) (visit_place g pair.reader) (ordered.pairs pair is);
    }

-- ---- the other way

plain_read_back : (s : Schedule) (place : Where) (r : Read) (x y : VisitPlace)
    → IsNestOrderedRead (nest_placing_of (plain s)) place r x y → IsOrderedRead (placing_of s) place r x y
plain_read_back s place r x y ordered =
    let at = nest_placing_of (plain s) in
    subst (λ z. IsOrderedRead (placing_of z) place r x y) (outer_plain s)
    (⊎_elim (λ stage. inl stage)
    (λ here.
    inr (
      here.0,
      subst (λ h. NestRow None h (at.outer y.attribute).kind at place r x y) (no_host s y.attribute)
          (subst (λ h. NestRow h (at.host y.attribute) (at.outer y.attribute).kind at place r x y)
          (no_host s x.attribute) here.1),
    ))
    ordered)

pub plain_ordered_back : (g : AttributeGrammar) (s : Schedule) → IsNestOrdered g (plain s) → IsOrdered g s
plain_ordered_back g s ordered =
    record {
      once = subst (λ z. EachStandsOnce g z) (outer_plain s) ordered.once;
      pairs = λ pair is.
          plain_read_back s pair.runs_at pair.read (visit_place g pair.writer) (visit_place g pair.reader)
          (ordered.pairs pair is);
    }

-- ---- which step must precede which

module _ (g : AttributeGrammar) (s : Schedule) (t : Forest) (i j : Instance) where
  abbrev at : NestPlacing
  at = nest_placing_of (plain s)

  abbrev First : Option ℕ → Option ℕ → Type 0
  First a b = HostedFirst t a b (at.outer j.attribute).kind at (turn_of g i) (turn_of g j)

  pub precedes_plain : MustPrecedeWithNests g t at i j → MustPrecede g t s i j
  precedes_plain first =
      subst (λ z. MustPrecede g t z i j) (outer_plain s)
      (⊎_elim (λ stage. inl stage)
      (λ here.
      inr (
        here.0,
        subst (λ b. First None b) (no_host s j.attribute)
            (subst (λ a. First a (at.host j.attribute)) (no_host s i.attribute) here.1),
      ))
      first)

  pub plain_precedes : MustPrecede g t s i j → MustPrecedeWithNests g t at i j
  plain_precedes first =
      ⊎_elim (λ stage. inl stage)
      (λ here.
      inr (
        here.0,
        subst (λ a. First a (at.host j.attribute)) (sym (no_host s i.attribute))
            (subst (λ b. First None b) (sym (no_host s j.attribute)) here.1),
      ))
      (subst (λ z. MustPrecede g t z i j) (sym (outer_plain s)) first)

-- ---- the work of a stage

pass_plain : (passes : List Pass) (m : ℕ)
    → get_or (map plain_pass passes) m no_pass ≡ plain_pass (get_or passes m empty_pass)
pass_plain [] m = refl
pass_plain (pass ∷ passes) zero = refl
pass_plain (pass ∷ passes) (suc m) = pass_plain passes m

stage_plain : (s : Schedule) (stage : ℕ) → get_or (plain s) stage [] ≡ map plain_pass (get_or s stage [])
stage_plain [] stage = refl
stage_plain (passes ∷ s) zero = refl
stage_plain (passes ∷ s) (suc stage) = stage_plain s stage

count_plain : (passes : List Pass) → length (map plain_pass passes) ≡ length passes
count_plain [] = refl
count_plain (pass ∷ passes) = ap suc (count_plain passes)

module _ (g : AttributeGrammar) (s : Schedule) (t : Forest) (grain stage : ℕ) where
  nesting_pass_plain : (m : ℕ) → nesting_pass (plain s) stage m ≡ plain_pass (pass_at s stage m)
  nesting_pass_plain m =
      ap (λ passes. get_or passes m no_pass) (stage_plain s stage) ∙ pass_plain (get_or s stage []) m

  -- the form of this pass in a schedule whose outer one is this
  abbrev form_in : (m : ℕ) → NestingPass → Schedule → PassForm
  form_in m pass outer =
      record {
        cut = record { kind = pass.kind; is_whole = is_whole_with pass.nest t grain };
        visit = visit_with g t pass.kind pass.attributes pass.nest;
        sequence = sequence g (placing_of outer) (pass_place stage m) t;
      }

  form_plain : (m : ℕ) → nest_form g (plain s) t grain stage m ≡ form_of g s stage t grain m
  form_plain m = ap₂ (form_in m) (nesting_pass_plain m) (outer_plain s)

  pub work_plain : (solution : List Value) (max_reads max_stack : ℕ)
      → nest_work g (plain s) t grain stage solution max_reads max_stack
      ≡ stage_work g s t grain stage solution max_reads max_stack
  work_plain solution max_reads max_stack =
      ap (λ count. work count (nest_form g (plain s) t grain stage) (outer_schedule (plain s)))
      (ap length (stage_plain s stage) ∙ count_plain (get_or s stage []))
      ∙ ap₂ (λ forms outer. work (length (get_or s stage [])) forms outer) (fun_ext form_plain) (outer_plain s)
    where
      work : (count : ℕ) → (ℕ → PassForm) → Schedule → WorkShape
      work count forms outer = work_by g t count forms (kind_of g outer stage) solution max_reads max_stack
