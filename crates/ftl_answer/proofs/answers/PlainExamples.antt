-- The pair of the first fault of a schedule that nests nothing, and its examples.
use Rattle.std.proofs.Common.{ℕ, sym, ◌∙◌, subst, inl, inr, ⊎_elim, Option, None}
use Rattle.ftl_model.specs.layout.AttributeGrammar.{Read}
use Rattle.ftl_order.specs.orders.Ordered.{IsOrderedRead, VisitPlace, visit_place}
use Rattle.ftl_order.specs.orders.Pairs.{Where}
use Rattle.ftl_order.specs.orders.Schedule.{Schedule, placing_of}
use Rattle.ftl_nests.specs.Flat.{plain}
use Rattle.ftl_nests.specs.Nests.{IsNestOrderedRead, NestPlacing, NestRow, nest_placing_of}
use Rattle.ftl_nests.proofs.Plain.{outer_plain, plain_precedes, precedes_plain}
use Rattle.ftl_answer.specs.answers.Plain.{PlainHasTheExamples, PlainHasThePair}
use Rattle.ftl_answer.proofs.answers.PlainFaults.{no_host, plain_fault, writer_same}

-- ---- reads are ordered as without nests

module _ (s : Schedule) (place : Where) (r : Read) (x y : VisitPlace) where
  abbrev at : NestPlacing
  at = nest_placing_of (plain s)

  abbrev InPass : Option ℕ → Option ℕ → Type 0
  InPass h k = NestRow h k (at.outer y.attribute).kind at place r x y

  with_nests : IsOrderedRead (placing_of s) place r x y → IsNestOrderedRead at place r x y
  with_nests ordered =
      ⊎_elim (λ stage. inl stage)
      (λ here.
      inr (
        here.0,
        subst (λ h. InPass h (at.host y.attribute)) (sym (no_host s x.attribute))
            (subst (λ k. InPass None k) (sym (no_host s y.attribute)) here.1),
      ))
      (subst (λ z. IsOrderedRead (placing_of z) place r x y) (sym (outer_plain s)) ordered)

  without_nests : IsNestOrderedRead at place r x y → IsOrderedRead (placing_of s) place r x y
  without_nests ordered =
      subst (λ z. IsOrderedRead (placing_of z) place r x y) (outer_plain s)
      (⊎_elim (λ stage. inl stage)
      (λ here.
      inr (
        here.0,
        subst (λ k. InPass None k) (no_host s y.attribute)
            (subst (λ h. InPass h (at.host y.attribute)) (no_host s x.attribute) here.1),
      ))
      ordered)

-- ---- the pair

pub plain_pair : PlainHasThePair
plain_pair g s pair = (
  (λ (r, w, e, p). (
    r,
    w,
    sym (plain_fault g s) ∙ e,
    record {
      reader_is = p.reader_is;
      writer_is = p.writer_is;
      is = p.is;
      unordered = λ ordered.
          p.unordered
          (with_nests s pair.runs_at pair.read (visit_place g pair.writer) (visit_place g pair.reader) ordered);
      place = p.place;
      there = p.there;
      first = λ j less. sym (writer_same g s pair.reader _) ∙ p.first j less;
    },
  )),
  (λ (r, w, e, p). (
    r,
    w,
    plain_fault g s ∙ e,
    record {
      reader_is = p.reader_is;
      writer_is = p.writer_is;
      is = p.is;
      unordered = λ ordered.
          p.unordered
          (without_nests s pair.runs_at pair.read (visit_place g pair.writer) (visit_place g pair.reader) ordered);
      place = p.place;
      there = p.there;
      first = λ j less. writer_same g s pair.reader _ ∙ p.first j less;
    },
  )),
)

-- ---- its examples

pub plain_examples : PlainHasTheExamples
plain_examples g s pair t r w steps = (
  (λ x. record {
    tree = x.tree;
    bare = x.bare;
    shows = x.shows;
    fewest = x.fewest;
    legal = record {
      steps = x.legal.steps;
      all = x.legal.all;
      once = x.legal.once;
      legal = λ m n d less below first. x.legal.legal m n d less below (plain_precedes g s t _ _ first);
    };
    wrong = x.wrong;
  }),
  (λ x. record {
    tree = x.tree;
    bare = x.bare;
    shows = x.shows;
    fewest = x.fewest;
    legal = record {
      steps = x.legal.steps;
      all = x.legal.all;
      once = x.legal.once;
      legal = λ m n d less below first. x.legal.legal m n d less below (precedes_plain g s t _ _ first);
    };
    wrong = x.wrong;
  }),
)
