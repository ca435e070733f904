-- The first writer of a read tells whether a schedule with nests has all of its writers earlier.
use Rattle.std.proofs.Common.{◌≡◌, ℕ, ◌<◌, ◌&&◌, ◌||◌, nat_lt, Bool, true, false, if◌then◌else◌, List, length, get_or, Option, Some, None, ◌==◌, eqb-true, arith, refl, sym, ◌∙◌, ap}
use Rattle.std.proofs.lemmas.Bool.{and_parts}
use Rattle.ftl_model.specs.layout.AttributeGrammar.{AttributeGrammar, RuleName, for_child, for_self}
use Rattle.ftl_order.specs.orders.Lawful.{class_of_rule}
use Rattle.ftl_order.specs.orders.Ordered.{VisitPlace, visit_place}
use Rattle.ftl_order.specs.orders.Schedule.{PassKind, Placing}
use Rattle.ftl_order.specs.dependencies.DepReads.{rule_reads}
use Rattle.ftl_order.specs.dependencies.Writers.{first_writer, is_above, is_below, is_writer, writes_at}
use Rattle.ftl_order.specs.declared.dependencies.dep_read.DepRead.{DepRead}
use Rattle.ftl_order.specs.declared.dependencies.dep_read.Site.{Site}
use Rattle.ftl_order.specs.declared.dependencies.dep_read.Site.TheVariants as sites
use Rattle.ftl_order.specs.faults.FirstFault.{fault_by}
use Rattle.ftl_order.specs.faults.OrderedReads.{in_pass_by, is_one_pass}
use Rattle.ftl_order.specs.declared.faults.fault.VerifyFault.{VerifyFault}
use Rattle.ftl_order.specs.declared.faults.fault.VerifyFault.TheVariants.{Unordered}
use Rattle.ftl_meaning.specs.faults.Checked.{CheckedGrammar, all_rules}
use Rattle.ftl_meaning.specs.faults.FirstFault.{first_fault}
use Rattle.ftl_deps.specs.reads.DepRows.{DepRows, dep_rows, writer_at}
use Rattle.ftl_deps.specs.reads.Meant.{meant}
use Rattle.ftl_schedule.specs.check.RuleAt.{read_at, rule_at}
use Rattle.ftl_schedule.specs.places.Standing.{is_ordered_at}
use Rattle.ftl_schedule.proofs.check.FaultsAlong.{numbered_end, numbered_here, numbered_later}
use Rattle.ftl_schedule.proofs.check.FirstWriters.{first_of_both}
use Rattle.ftl_schedule.proofs.check.OneWriter.{of_class}
use Rattle.ftl_schedule.proofs.check.RuleCount.{rules_counted, writer_there}
use Rattle.ftl_nests.specs.Nests.{NestPlacing}
use Rattle.ftl_regions.specs.pairs.NestReads.{in_nests, is_nest_ordered, refused_writer}

-- ---- rules that write what one rule reads stand alike

module _ (g : AttributeGrammar) (k : ℕ) where
  above_attribute : (a : ℕ) (v : RuleName) → is_above g k a v ≡ true → (visit_place g v).attribute ≡ a
  above_attribute a (for_self l b) e = cc
  above_attribute a (for_child l d b) e =
      sym (eqb-true a b (and_parts (a == b) (g.child_interface l d == g.interface k) e).0)

  below_attribute : (c : Option ℕ) (a : ℕ) (v : RuleName) → is_below g k c a v ≡ true → (visit_place g v).attribute ≡ a
  below_attribute None a v e = cc
  below_attribute (Some c) a (for_self l b) e =
      sym (eqb-true a b (and_parts (a == b) (g.interface l == g.child_interface k c) e).0)
  below_attribute (Some c) a (for_child l d b) e = cc

  -- for one attribute
  one_attribute : (v u : RuleName) (s : Site) (c : Option ℕ) (a : ℕ) → writes_at g k s c a v ≡ true
      → writes_at g k s c a u ≡ true → (visit_place g v).attribute ≡ (visit_place g u).attribute
  one_attribute v u sites.Input c a e f = cc
  one_attribute v u sites.SameVisit c a e f =
      ap (λ w. (visit_place g w).attribute) (of_class k c a v e ∙ sym (of_class k c a u f))
  one_attribute v u sites.Above c a e f = above_attribute a v e ∙ sym (above_attribute a u f)
  one_attribute v u sites.Below c a e f = below_attribute c a v e ∙ sym (below_attribute c a u f)

  -- and earlier in a pass alike
  pass_alike : (at : Placing) (kind : PassKind) (d : DepRead) (y : VisitPlace) (v u : RuleName) (s : Site) (c : Option ℕ)
      (a : ℕ) → writes_at g k s c a v ≡ true → writes_at g k s c a u ≡ true
      → in_pass_by s kind at d (visit_place g v) y ≡ in_pass_by s kind at d (visit_place g u) y
  pass_alike at kind d y v u sites.Input c a e f = refl
  pass_alike at kind d y v u sites.SameVisit c a e f =
      ap (λ w. in_pass_by sites.SameVisit kind at d (visit_place g w) y) (of_class k c a v e ∙ sym (of_class k c a u f))
  pass_alike at kind d y v u sites.Above c a e f = refl
  pass_alike at kind d y v u sites.Below c a e f = refl

module _ (g : AttributeGrammar) (at : NestPlacing) (k : ℕ) (w : RuleName) (d : DepRead) (v u : RuleName)
    (e : is_writer g k d v ≡ true) (f : is_writer g k d u ≡ true) where
  abbrev x : VisitPlace
  x = visit_place g v

  abbrev z : VisitPlace
  z = visit_place g u

  abbrev y : VisitPlace
  y = visit_place g w

  same : x.attribute ≡ z.attribute
  same = one_attribute g k v u d.site d.child d.attr e f

  in_pass_alike : (places : Placing) (kind : PassKind)
      → in_pass_by d.site kind places d x y ≡ in_pass_by d.site kind places d z y
  in_pass_alike places kind = pass_alike g k places kind d y v u d.site d.child d.attr e f

  ordered_alike : (places : Placing) → is_ordered_at places d x y ≡ is_ordered_at places d z y
  ordered_alike places =
      ap (λ a. nat_lt (places a).stage (places y.attribute).stage
      || (is_one_pass (places a) (places y.attribute)
      && in_pass_by d.site (places y.attribute).kind places d x y)) same
      ∙ ap (λ b. nat_lt (places z.attribute).stage (places y.attribute).stage
      || (is_one_pass (places z.attribute) (places y.attribute) && b)) (in_pass_alike places (places y.attribute).kind)

  nests_alike : (hx hy : Option ℕ) (kind : PassKind) → in_nests hx hy kind at d x y ≡ in_nests hx hy kind at d z y
  nests_alike None None kind = in_pass_alike at.outer kind
  nests_alike (Some h) (Some j) kind = ordered_alike at.inner
  nests_alike None (Some j) kind = refl
  nests_alike (Some h) None kind = refl

  -- the schedule has one writer of a read earlier exactly where it has another
  pub nest_writers_alike : is_nest_ordered at d x y ≡ is_nest_ordered at d z y
  nest_writers_alike =
      ap (λ a. nat_lt (at.outer a).stage (at.outer y.attribute).stage
      || (is_one_pass (at.outer a) (at.outer y.attribute)
      && in_nests (at.host a) (at.host y.attribute) (at.outer y.attribute).kind at d x y)) same
      ∙ ap (λ b. nat_lt (at.outer z.attribute).stage (at.outer y.attribute).stage
      || (is_one_pass (at.outer z.attribute) (at.outer y.attribute) && b))
      (nests_alike (at.host z.attribute) (at.host y.attribute) (at.outer y.attribute).kind)

-- ---- the first writer tells

-- the first writer, where the schedule doesn't have it earlier
abbrev late_in_nests : AttributeGrammar → NestPlacing → (reader : RuleName) → DepRead → Option ℕ → Option ℕ
late_in_nests g at w d None = None
late_in_nests g at w d (Some n) =
    if is_nest_ordered at d (visit_place g (rule_at g n)) (visit_place g w) then None else Some n

first_tells : (g : AttributeGrammar) (at : NestPlacing) (w : RuleName) (d : DepRead)
    → refused_writer g at w d ≡ late_in_nests g at w d (first_writer g (class_of_rule w) d)
first_tells g at w d = by (first_writer g (class_of_rule w) d) refl
  where
    test : RuleName → Bool
    test v = is_nest_ordered at d (visit_place g v) (visit_place g w)

    alike : (u v : RuleName) → is_writer g (class_of_rule w) d u ≡ true → is_writer g (class_of_rule w) d v ≡ true
        → test u ≡ test v
    alike u v e f = nest_writers_alike g at (class_of_rule w) w d u v e f

    by : (o : Option ℕ) → first_writer g (class_of_rule w) d ≡ o → refused_writer g at w d ≡ late_in_nests g at w d o
    by None e =
        let first = first_of_both (is_writer g (class_of_rule w) d) test (for_self 0 0) alike g.rules in
        grind (arith, first, e)
    by (Some n) e =
        let first = first_of_both (is_writer g (class_of_rule w) d) test (for_self 0 0) alike g.rules in
        grind (arith, first, e)

module _ (c : CheckedGrammar) (none : first_fault c.grammar ≡ None) (n : ℕ) (within : n < length (all_rules c.grammar))
    (t : DepRows) (is : t ≡ dep_rows (meant c)) (k : ℕ)
    (place : k < length (rule_reads (meant c) (rule_at (meant c) n))) (at : NestPlacing) where
  abbrev reader : RuleName
  reader = rule_at (meant c) n

  abbrev read : DepRead
  read = read_at (rule_reads (meant c) reader) k

  fault_is : (o : Option ℕ) → writer_at t n k ≡ o
      → fault_by n (refused_writer (meant c) at reader read) ≡ fault_by n (late_in_nests (meant c) at reader read o)
  fault_is o writer =
      ap (fault_by n)
      (first_tells (meant c) at reader read
      ∙ ap (late_in_nests (meant c) at reader read)
      (sym (ap (λ (x : DepRows). writer_at x n k) is ∙ writer_there c none n within k place) ∙ writer))

  pub no_nest_writer : writer_at t n k ≡ None → fault_by n (refused_writer (meant c) at reader read) ≡ None
  no_nest_writer writer = fault_is None writer

  pub by_nest_writer : (v : ℕ) → writer_at t n k ≡ Some v
      → fault_by n (refused_writer (meant c) at reader read)
      ≡ (if is_nest_ordered at read (visit_place (meant c) (rule_at (meant c) v)) (visit_place (meant c) reader) then None
      else Some (Unordered n v))
  by_nest_writer v writer =
      fault_is (Some v) writer
      ∙ by (is_nest_ordered at read (visit_place (meant c) (rule_at (meant c) v)) (visit_place (meant c) reader))
    where
      by : (b : Bool) → fault_by n (if b then None else Some v) ≡ (if b then None else Some (Unordered n v))
      by true = refl
      by false = refl

-- the steps of a loop over all rules
pub ruleset rule_steps = (numbered_here, numbered_later, numbered_end, rules_counted)
