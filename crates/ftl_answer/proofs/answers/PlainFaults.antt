-- The first fault of a schedule that nests nothing.
use Rattle.std.proofs.Common.{◌≡◌, ℕ, zero, suc, true, false, if◌then◌else◌, refl, ◌∙◌, ap, ap₂, List, [], ◌∷◌, map, get_or, Option, None}
use Rattle.std.specs.List.{enumerate_from, position}
use Rattle.std.specs.Option.{option_or}
use Rattle.std.specs.Prelude.{◌&&◌, ◌||◌, Bool, not, nat_lt}
use mathlib.Core.Path.{fun_ext}
use Rattle.ftl_model.specs.layout.AttributeGrammar.{AttributeGrammar, RuleName}
use Rattle.ftl_model.specs.lists.FirstAlong.{first_along}
use Rattle.ftl_model.specs.lists.Lists.{is_listed}
use Rattle.ftl_order.specs.declared.dependencies.dep_read.DepRead.{DepRead}
use Rattle.ftl_order.specs.declared.faults.fault.VerifyFault.{VerifyFault}
use Rattle.ftl_order.specs.dependencies.DepReads.{rule_reads}
use Rattle.ftl_order.specs.dependencies.Writers.{is_writer}
use Rattle.ftl_order.specs.faults.FirstFault.{fault_by, first_fault, first_missing, first_twice, first_unordered, unordered_writer}
use Rattle.ftl_order.specs.faults.OrderedReads.{is_one_pass}
use Rattle.ftl_order.specs.orders.Lawful.{class_of_rule}
use Rattle.ftl_order.specs.orders.Ordered.{VisitPlace, visit_place}
use Rattle.ftl_order.specs.orders.Schedule.{Pass, Schedule, entries, placing_of}
use Rattle.ftl_schedule.specs.places.Standing.{is_ordered_at}
use Rattle.ftl_regions.specs.pairs.NestReads.{first_refused, in_nests, is_nest_ordered, refused_writer}
use Rattle.ftl_nests.specs.Flat.{plain, plain_pass}
use Rattle.ftl_nests.specs.Nests.{NestPlacing, home_pass, host_of, nest_placing_of, nesting_pass, no_pass, outer_schedule}
use Rattle.ftl_nests.proofs.Plain.{outer_plain}
use Rattle.ftl_nest_check.specs.check.NestFault.{first_nest_fault}

-- ---- no attribute has a host

no_nest_at : (passes : List Pass) (n : ℕ) → (get_or (map plain_pass passes) n no_pass).nest ≡ None
no_nest_at [] n = refl
no_nest_at (pass ∷ passes) zero = refl
no_nest_at (pass ∷ passes) (suc n) = no_nest_at passes n

no_nests : (s : Schedule) (m n : ℕ) → (nesting_pass (plain s) m n).nest ≡ None
no_nests [] m n = refl
no_nests (passes ∷ s) zero n = no_nest_at passes n
no_nests (passes ∷ s) (suc m) n = no_nests s m n

pub no_host : (s : Schedule) (a : ℕ) → (nest_placing_of (plain s)).host a ≡ None
no_host s a =
    let p = home_pass (plain s) a in
    let at = placing_of (outer_schedule (plain s)) a in
    elim (is_listed p.attributes a) as (λ b. (if b then None else host_of p.nest) ≡ None) [
      | true ↦ refl
      | false ↦ ap host_of (no_nests s at.stage at.pass)
    ]

-- ---- so reads are told as without nests

module _ (g : AttributeGrammar) (s : Schedule) where
  abbrev at : NestPlacing
  at = nest_placing_of (plain s)

  abbrev told_by : DepRead → VisitPlace → VisitPlace → Option ℕ → Option ℕ → Bool
  told_by d x y h k =
      nat_lt (at.outer x.attribute).stage (at.outer y.attribute).stage
      || (is_one_pass (at.outer x.attribute) (at.outer y.attribute)
      && in_nests h k (at.outer y.attribute).kind at d x y)

  told : (d : DepRead) (x y : VisitPlace) → is_nest_ordered at d x y ≡ is_ordered_at (placing_of s) d x y
  told d x y =
      ap₂ (told_by d x y) (no_host s x.attribute) (no_host s y.attribute)
      ∙ ap (λ (z : Schedule). is_ordered_at (placing_of z) d x y) (outer_plain s)

  pub writer_same : (w : RuleName) (d : DepRead) → refused_writer g at w d ≡ unordered_writer g (placing_of s) w d
  writer_same w d =
      ap (λ (test : RuleName → Bool). position test g.rules)
      (fun_ext (λ v.
      ap (λ b. is_writer g (class_of_rule w) d v && not b) (told d (visit_place g v) (visit_place g w))))

  refused_same : first_refused g at ≡ first_unordered g (placing_of s)
  refused_same =
      ap (λ (f : ℕ × RuleName → Option VerifyFault). first_along f (enumerate_from 0 g.rules))
      (fun_ext (λ r.
      ap (λ (f : DepRead → Option ℕ). first_along (λ d. fault_by r.0 (f d)) (rule_reads g r.1))
      (fun_ext (λ d. writer_same r.1 d))))

  pub plain_fault : first_nest_fault g (plain s) ≡ first_fault g s
  plain_fault =
      ap₂
      (λ (these : List ℕ) (rest : Option VerifyFault). option_or (first_twice [] these) (option_or (first_missing g these) rest))
      (ap entries (outer_plain s)) refused_same
