-- In a schedule that keeps the sides of its nests, each attribute stands on its side of each.
use Rattle.std.proofs.Common.{◌≡◌, ℕ, zero, suc, Bool, true, false, if◌then◌else◌, refl, sym, ◌∙◌, ap, ap₂, subst, ⊎_elim, arith, List, [], ◌∷◌, get_or, length, Option, None, Some, Contains}
use Rattle.std.proofs.lemmas.List.Elements.{Contains-append_cases}
use Rattle.ftl_model.specs.lists.Lists.{is_listed}
use Rattle.ftl_model.proofs.lists.Listed.{is_there, listed}
use Rattle.ftl_model.specs.layout.AttributeGrammar.{AttributeGrammar}
use Rattle.ftl_model.specs.layout.Solves.{Instance}
use Rattle.ftl_model.specs.layout.Tree.{Forest}
use Rattle.ftl_model.specs.layout.TreeOf.{IsTreeOf}
use Rattle.ftl_order.specs.orders.Lawful.{IsLawful}
use Rattle.ftl_order.specs.orders.LegalOrder.{IsStep}
use Rattle.ftl_order.specs.orders.Schedule.{EachStandsOnce, IsOnePass, Pass, empty_pass, entries, pass_at, pass_in_stage, placing_of, stage_of}
use Rattle.ftl_items.proofs.stage_items.Passes.{listed_at, many}
use Rattle.ftl_items.proofs.stage_items.VisitLaws.{attribute_of_step}
use Rattle.ftl_nests.specs.Nests.{AreSidesKept, KeepsSides, Nest, NestingPass, NestingSchedule, home_pass, host_in, host_of, inner_stages, nesting_pass, no_pass, outer_schedule, nest_placing_of, whole_pass, whole_stage}
use Rattle.ftl_nests.specs.Region.{IsClosed, OfRegion}
use Rattle.ftl_nests.proofs.Writers.{HasSides}

pub outer_stage_at : (s : NestingSchedule) (m : ℕ) → get_or (outer_schedule s) m [] ≡ whole_stage (get_or s m [])
outer_stage_at [] m = refl
outer_stage_at (passes ∷ s) zero = refl
outer_stage_at (passes ∷ s) (suc m) = outer_stage_at s m

whole_at : (passes : List NestingPass) (n : ℕ)
    → get_or (whole_stage passes) n empty_pass ≡ whole_pass (get_or passes n no_pass)
whole_at [] n = refl
whole_at (pass ∷ passes) zero = refl
whole_at (pass ∷ passes) (suc n) = whole_at passes n

length_whole : (passes : List NestingPass) → length (whole_stage passes) ≡ length passes
length_whole [] = refl
length_whole (pass ∷ passes) = ap suc (length_whole passes)

-- a pass of the outer schedule is the whole of the one that nests
pub outer_pass_at : (s : NestingSchedule) (m n : ℕ) → pass_at (outer_schedule s) m n ≡ whole_pass (nesting_pass s m n)
outer_pass_at s m n =
    ap (λ passes. get_or passes n empty_pass) (outer_stage_at s m) ∙ whole_at (get_or s m []) n

pub outer_length : (s : NestingSchedule) (m : ℕ) → length (get_or (outer_schedule s) m []) ≡ length (get_or s m [])
outer_length s m = ap length (outer_stage_at s m) ∙ length_whole (get_or s m [])

-- a nest with its host
pub record Hosts (nest : Option Nest) (k : ℕ) : Type 0 where
  pub it : Nest
  pub is : nest ≡ Some it
  pub host : it.host ≡ k

some_is : (h k : ℕ) → Some h ≡ Some k → h ≡ k
some_is h k e = grind arith

pub hosts : (nest : Option Nest) (k : ℕ) → host_of nest ≡ Some k → Hosts nest k
hosts None k e = absurd (let z : ⊥ = grind arith in z)
hosts (Some nest) k e = record { it = nest; is = refl; host = some_is nest.host k e }

-- where an attribute of a pass stands: in its own list, or in its nest
pub host_some : (pass : NestingPass) (a k : ℕ) → host_in pass a ≡ Some k
    → (host_of pass.nest ≡ Some k) × (is_listed pass.attributes a ≡ false)
host_some pass a k e = go (is_listed pass.attributes a) refl e
  where
    go : (b : Bool) → is_listed pass.attributes a ≡ b → (if b then None else host_of pass.nest) ≡ Some k
        → (host_of pass.nest ≡ Some k) × (is_listed pass.attributes a ≡ false)
    go true f e = absurd (let z : ⊥ = grind arith in z)
    go false f e = (e, f)

pub nest_lists : (pass : NestingPass) (a k : ℕ) → host_in pass a ≡ Some k → Contains (whole_pass pass).attributes a
    → Contains (entries (inner_stages pass.nest)) a
nest_lists pass a k e c =
    let f = (host_some pass a k e).1 in
    ⊎_elim (λ own. absurd (let l = listed pass.attributes a own in let z : ⊥ = grind (arith, f, l) in z)) (λ inner. inner)
    (Contains-append_cases pass.attributes (entries (inner_stages pass.nest)) a c)

nothing_nested : (nest : Option Nest) (a : ℕ) → host_of nest ≡ None → Contains (entries (inner_stages nest)) a → ⊥
nothing_nested None a e c = let b = c.1 in let z : ⊥ = omega (arith, b) in z
nothing_nested (Some nest) a e c = let z : ⊥ = grind (arith, e) in z

pub own_lists : (pass : NestingPass) (a : ℕ) → host_in pass a ≡ None → Contains (whole_pass pass).attributes a
    → Contains pass.attributes a
own_lists pass a e c = go (is_listed pass.attributes a) refl e
  where
    go : (b : Bool) → is_listed pass.attributes a ≡ b → (if b then None else host_of pass.nest) ≡ None
        → Contains pass.attributes a
    go true f e = is_there pass.attributes a f
    go false f e =
        ⊎_elim (λ own. own) (λ inner. absurd (nothing_nested pass.nest a e inner))
        (Contains-append_cases pass.attributes (entries (inner_stages pass.nest)) a c)

module _ (s : NestingSchedule) where
  pub one_home : (a b : ℕ) → IsOnePass (placing_of (outer_schedule s) a) (placing_of (outer_schedule s) b)
      → home_pass s a ≡ home_pass s b
  one_home a b one = ap₂ (λ m n. nesting_pass s m n) one.0 one.1

module _ (g : AttributeGrammar) (s : NestingSchedule) (once : EachStandsOnce g (outer_schedule s)) (t : Forest)
    (law : IsLawful g) (fits : IsTreeOf g t) where
  pub many_outer : (i : Instance) → IsStep g t i → many i.attribute (entries (outer_schedule s)) ≡ 1
  many_outer i step = once i.attribute (attribute_of_step g law t fits i step) step.1

  -- the pass of a step lists it, its own list or its nest's
  pub home_lists : (i : Instance) → IsStep g t i → Contains (whole_pass (home_pass s i.attribute)).attributes i.attribute
  home_lists i step =
      subst (λ (p : Pass). Contains p.attributes i.attribute)
      (outer_pass_at s (stage_of (outer_schedule s) i.attribute) (pass_in_stage (outer_schedule s) i.attribute))
      (listed_at (outer_schedule s) i.attribute (many_outer i step)).there

module _ (g : AttributeGrammar) (s : NestingSchedule) (once : EachStandsOnce g (outer_schedule s))
    (keeps : AreSidesKept g s) where
  kept : (a k : ℕ) (nest : Hosts (home_pass s a).nest k) → KeepsSides g (home_pass s a).attributes nest.it
  kept a k nest = keeps (stage_of (outer_schedule s) a) (pass_in_stage (outer_schedule s) a) nest.it nest.is

  module _ (t : Forest) (law : IsLawful g) (fits : IsTreeOf g t) where
    pub sides_kept : HasSides g t (nest_placing_of s)
    sides_kept =
        record {
          closed = λ a k e.
              let nest = hosts (home_pass s a).nest k (host_some (home_pass s a) a k e).0 in
              subst (IsClosed g) nest.host (kept a k nest).closed;
          inner = λ i k step e.
              let a = i.attribute in
              let nest = hosts (home_pass s a).nest k (host_some (home_pass s a) a k e).0 in
              subst (λ h. OfRegion g h a) nest.host
              ((kept a k nest).inner a
              (subst (λ n. Contains (entries (inner_stages n)) a) nest.is
              (nest_lists (home_pass s a) a k e (home_lists g s once t law fits i step))));
          own = λ a b k one none some region.
              let f : host_of (home_pass s a).nest ≡ Some k =
              ap (λ (p : NestingPass). host_of p.nest) (one_home s a b one) ∙ (host_some (home_pass s b) b k some).0 in
              let nest = hosts (home_pass s a).nest k f in
              (kept a k nest).own a (own_listed (home_pass s a) a k none f)
              (subst (λ h. OfRegion g h a) (sym nest.host) region);
          one_nest = λ a b h k one eh ek.
              some_is h k
              (sym (host_some (home_pass s a) a h eh).0
              ∙ ap (λ (p : NestingPass). host_of p.nest) (one_home s a b one)
              ∙ (host_some (home_pass s b) b k ek).0);
        }
      where
        own_listed : (pass : NestingPass) (a k : ℕ) → host_in pass a ≡ None → host_of pass.nest ≡ Some k
            → Contains pass.attributes a
        own_listed pass a k e f = go (is_listed pass.attributes a) refl e
          where
            go : (b : Bool) → is_listed pass.attributes a ≡ b → (if b then None else host_of pass.nest) ≡ None
                → Contains pass.attributes a
            go true x e = is_there pass.attributes a x
            go false x e = absurd (let z : ⊥ = grind (arith, e, f) in z)
