-- The table of ordered reads with nests as tests, over what a rule reads by number; and the first pair that fails one.
use Rattle.std.specs.Prelude.{◌≡◌, ◌↔◌, ℕ, ◌&&◌, ◌||◌, Bool, true, false, not, nat_lt, Option, Some, None}
use Rattle.std.specs.List.{enumerate_from, position}
use Rattle.ftl_model.specs.lists.FirstAlong.{first_along}
use Rattle.ftl_model.specs.layout.AttributeGrammar.{AttributeGrammar, RuleName}
use Rattle.ftl_order.specs.orders.Lawful.{IsLawful, class_of_rule}
use Rattle.ftl_order.specs.orders.Ordered.{VisitPlace, visit_place}
use Rattle.ftl_order.specs.orders.Pairs.{IsPair, Pair}
use Rattle.ftl_order.specs.orders.Schedule.{PassKind, bottomup, inorder, topdown}
use Rattle.ftl_order.specs.dependencies.DepReads.{dep_read, rule_reads}
use Rattle.ftl_order.specs.dependencies.Writers.{is_writer}
use Rattle.ftl_order.specs.declared.dependencies.dep_read.DepRead.{DepRead}
use Rattle.ftl_order.specs.faults.FirstFault.{fault_by}
use Rattle.ftl_order.specs.faults.OrderedReads.{in_pass_by, is_one_pass}
use Rattle.ftl_order.specs.declared.faults.fault.VerifyFault.{VerifyFault}
use Rattle.ftl_schedule.specs.places.Standing.{is_ordered_at}
use Rattle.ftl_nests.specs.Nests.{EachPairNestOrdered, IsNestOrderedRead, NestPlacing}

-- whether a pass is topdown
abbrev pub is_topdown : PassKind → Bool
is_topdown topdown = true
is_topdown bottomup = false
is_topdown inorder = false

-- whether a pass is bottomup
abbrev pub is_bottomup : PassKind → Bool
is_bottomup topdown = false
is_bottomup bottomup = true
is_bottomup inorder = false

-- in one outer pass of this kind, by the nests that the writer x and the reader y stand in
abbrev pub in_nests : Option ℕ → Option ℕ → PassKind → NestPlacing → DepRead → (x y : VisitPlace) → Bool
in_nests None None kind at d x y = in_pass_by d.site kind at.outer d x y
in_nests (Some h) (Some k) kind at d x y = is_ordered_at at.inner d x y
in_nests None (Some k) kind at d x y = is_topdown kind
in_nests (Some h) None kind at d x y = is_bottomup kind

-- whether the writer stands in an earlier outer stage, or earlier in the same outer pass
abbrev pub is_nest_ordered : NestPlacing → DepRead → (x y : VisitPlace) → Bool
is_nest_ordered at d x y =
    nat_lt (at.outer x.attribute).stage (at.outer y.attribute).stage
    || (is_one_pass (at.outer x.attribute) (at.outer y.attribute)
    && in_nests (at.host x.attribute) (at.host y.attribute) (at.outer y.attribute).kind at d x y)

-- the pair of a grammar, as a read by number and two places in visits
pub record IsPairAt (g : AttributeGrammar) (pair : Pair) (d : DepRead) (x y : VisitPlace) : Type 0 where
  pub lawful : IsLawful g
  pub there : IsPair g pair
  pub read : dep_read g pair.read ≡ d
  pub writer : visit_place g pair.writer ≡ x
  pub reader : visit_place g pair.reader ≡ y

-- what is told of a read and two places is whether each pair that they are is ordered
abbrev pub TellsPairs : NestPlacing → DepRead → (x y : VisitPlace) → Bool → Type 0
TellsPairs at d x y told =
    (g : AttributeGrammar) (pair : Pair) → IsPairAt g pair d x y
    → (told ≡ true) ↔ IsNestOrderedRead at pair.runs_at pair.read x y

-- ---- all pairs

-- the first rule by number that writes what is read and isn't earlier
abbrev pub refused_writer : AttributeGrammar → NestPlacing → (reader : RuleName) → DepRead → Option ℕ
refused_writer g at w d =
    position
    (λ v. is_writer g (class_of_rule w) d v && not (is_nest_ordered at d (visit_place g v) (visit_place g w)))
    g.rules

-- the first fault of a rule's reads, in the order of the text
abbrev pub refused_reads : AttributeGrammar → NestPlacing → ℕ × RuleName → Option VerifyFault
refused_reads g at r = first_along (λ d. fault_by r.0 (refused_writer g at r.1 d)) (rule_reads g r.1)

-- the first pair that isn't ordered: by reader, then in the order of its text, then by writer
abbrev pub first_refused : AttributeGrammar → NestPlacing → Option VerifyFault
first_refused g at = first_along (refused_reads g at) (enumerate_from 0 g.rules)

-- there is none exactly where each pair is ordered
abbrev pub NoneRefusedIsOrdered : Type 0
NoneRefusedIsOrdered =
    (g : AttributeGrammar) (at : NestPlacing) → IsLawful g
    → (first_refused g at ≡ None) ↔ EachPairNestOrdered g at
