-- What stands at the places of the blocks of an inorder visit.
use Rattle.std.proofs.Common.{◌≡◌, ℕ, zero, suc, ◌+◌, ◌-◌, ◌<◌, List, [], ◌∷◌, ◌++◌, drop, get_or, length, refl, sym, ◌∙◌, ap, subst, arith, length-drop}
use Rattle.ftl_model.specs.layout.AttributeGrammar.{AttributeGrammar}
use Rattle.ftl_schedule.specs.declared.syntax.kind.PassKind.TheVariants.{InOrder}
use Rattle.ftl_visit.specs.visits.Visits.{inherited_rules, locals, visit_of}
use Rattle.ftl_visit.specs.declared.visits.visit_op.VisitOp.{VisitOp}
use Rattle.ftl_visit.specs.declared.visits.visit_op.VisitOp.TheVariants.{Begin, Rule, Visit}
use Rattle.ftl_cursors.specs.sequence.BlockPlaces.{places_from, places_in}
use Rattle.ftl_cursors.specs.declared.sequence.block_places.BlockPlaces.{BlockPlaces}
use Rattle.ftl_cursors.proofs.sequence.VisitShape.{AreRules, block_of, blocks_from, first_block, inherited_are, locals_are, visit_is}

-- behind the first operation from a place on
pub drop_next : (n : ℕ) (all : List VisitOp) (op : VisitOp) (ops : List VisitOp) → drop n all ≡ op ∷ ops
    → drop (suc n) all ≡ ops
drop_next zero [] op ops is = absurd (cc)
drop_next zero (first ∷ all) op ops is = cc
drop_next (suc n) [] op ops is = absurd (cc)
drop_next (suc n) (first ∷ all) op ops is = drop_next n all op ops is

-- where an operation stands is a place
pub drop_within : (n : ℕ) (all : List VisitOp) (op : VisitOp) (ops : List VisitOp) → drop n all ≡ op ∷ ops
    → n < length all
drop_within n all op ops is =
    let more : length (drop n all) ≡ suc (length ops) = ap length is in
    let rest = length-drop n all in
    omega arith

-- where what comes behind some rules stands
record Passed (all : List VisitOp) (n b : ℕ) (rules ops : List VisitOp) : Type 0 where
  place : ℕ
  same : places_from n b (rules ++ ops) ≡ places_from place b ops
  there : drop place all ≡ ops

rules_passed : (all : List VisitOp) (n b : ℕ) (rules ops : List VisitOp) → AreRules rules
    → drop n all ≡ rules ++ ops → Passed all n b rules ops
rules_passed all n b [] ops are is = record { place = n; same = refl; there = is }
rules_passed all n b (Rule r ∷ rules) ops are is =
    let later = rules_passed all (suc n) b rules ops are (drop_next n all (Rule r) (rules ++ ops) is) in
    record { place = later.place; same = later.same; there = later.there }
rules_passed all n b (Begin c ∷ rules) ops are is = absurd are
rules_passed all n b (Visit c ∷ rules) ops are is = absurd are

-- a place of no block
abbrev pub nowhere : BlockPlaces
nowhere = record { begin = 0; visit = 0 }

module _ (g : AttributeGrammar) (class : ℕ) (attributes : List ℕ) where
  -- the block of a child is at these places
  pub record IsBlock (all : List VisitOp) (c rest : ℕ) (x : BlockPlaces) : Type 0 where
    pub begin : drop x.begin all ≡ Begin c ∷ block_of g class attributes c rest
    pub visit : drop x.visit all ≡ Visit c ∷ blocks_from g class attributes (c + 1) rest

  -- so it is in the list
  pub record HasBlock (all : List VisitOp) (c rest j : ℕ) (places : List BlockPlaces) : Type 0 where
    pub known : j < length places
    pub is : IsBlock all c rest (get_or places j nowhere)

  module _ (all : List VisitOp) where
    -- the first block, and what comes behind it
    record First (d count n b : ℕ) : Type 0 where
      end : ℕ
      places : places_from n b (blocks_from g class attributes d (suc count))
          ≡ record { begin = n; visit = end } ∷ places_from (suc end) n (blocks_from g class attributes (d + 1) count)
      begin : drop n all ≡ Begin d ∷ block_of g class attributes d count
      visit : drop end all ≡ Visit d ∷ blocks_from g class attributes (d + 1) count

    first_placed : (d count n b : ℕ) → drop n all ≡ blocks_from g class attributes d (suc count)
        → First d count n b
    first_placed d count n b is =
        let ops = Visit d ∷ blocks_from g class attributes (d + 1) count in
        let rules = inherited_rules g class d attributes in
        let shape = first_block g class attributes d count in
        let begun : drop n all ≡ Begin d ∷ (rules ++ ops) = is ∙ shape in
        let passed =
        rules_passed all (suc n) n rules ops (inherited_are g class attributes d)
        (drop_next n all (Begin d) (rules ++ ops) begun) in
        record {
          end = passed.place;
          places = ap (places_from n b) shape ∙ passed.same;
          begin = begun;
          visit = passed.there;
        }

    blocks_placed : (j c d rest count n b : ℕ) → c ≡ d + j → count ≡ suc (j + rest)
        → drop n all ≡ blocks_from g class attributes d count
        → HasBlock all c rest j (places_from n b (blocks_from g class attributes d count))
    blocks_placed zero c d rest count n b at size is =
        let same : d ≡ c = omega arith in
        let long : suc rest ≡ count = omega arith in
        let first = first_placed d rest n b (is ∙ ap (blocks_from g class attributes d) (sym long)) in
        subst (λ c. HasBlock all c rest 0 (places_from n b (blocks_from g class attributes d count))) same
        (subst (λ m. HasBlock all d rest 0 (places_from n b (blocks_from g class attributes d m))) long
        (subst (HasBlock all d rest 0) (sym first.places)
        (record { known = omega arith; is = record { begin = first.begin; visit = first.visit } })))
    blocks_placed (suc j) c d rest count n b at size is =
        let long : suc (suc j + rest) ≡ count = omega arith in
        let first = first_placed d (suc j + rest) n b (is ∙ ap (blocks_from g class attributes d) (sym long)) in
        let later =
        blocks_placed j c (d + 1) rest (suc j + rest) (suc first.end) n (omega arith) (omega arith)
        (drop_next first.end all (Visit d) (blocks_from g class attributes (d + 1) (suc j + rest)) first.visit) in
        subst (λ m. HasBlock all c rest (suc j) (places_from n b (blocks_from g class attributes d m))) long
        (subst (HasBlock all c rest (suc j)) (sym first.places)
        (record { known = (let less = later.known in omega arith); is = later.is }))

  -- the places of a visit have the block of each child
  pub block_placed : (c : ℕ) → c < g.child_count class
      → HasBlock (visit_of g InOrder attributes class) c (g.child_count class - (c + 1)) c
      (places_in (visit_of g InOrder attributes class))
  block_placed c declared =
      let count = g.child_count class in
      let visit = visit_of g InOrder attributes class in
      let shape = visit_is g class attributes in
      let passed =
      rules_passed visit 0 0 (locals g class attributes) (blocks_from g class attributes 0 count)
      (locals_are g class attributes) shape in
      subst (HasBlock visit c (count - (c + 1)) c) (sym (ap places_in shape ∙ passed.same))
      (blocks_placed visit c c 0 (count - (c + 1)) count passed.place 0 (omega arith) (omega arith) passed.there)

-- what comes behind a place where an operation stands
pub behind_is : (n : ℕ) (all : List VisitOp) (op : VisitOp) (ops : List VisitOp) → drop n all ≡ op ∷ ops
    → drop (n + 1) all ≡ ops
behind_is n all op ops is =
    ap (λ m. drop m all) (let z : n + 1 ≡ suc n = omega arith in z) ∙ drop_next n all op ops is
