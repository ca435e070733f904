-- The pairs of the stack grammar.
use Rattle.std.proofs.Common.{◌≡◌, ◌⊎◌, ℕ, zero, suc, ◌<◌, refl, sym, subst, subst₂, ⊎_elim, lit<, arith, List, [], ◌∷◌, Contains}
use Rattle.std.specs.List.{AllByRecursion}
use Rattle.ftl_model.proofs.lists.Elements.{each_in}
use Rattle.ftl_model.proofs.lists.Listed.{listed}
use Rattle.ftl_model.specs.layout.AttributeGrammar.{Part, Read, RuleName, each_read, first_part, for_child, for_self, from_part, inherited, plain_part, prev_read, reads_in, self_read, single_read, synthesized, then_part, with_part}
use Rattle.ftl_model.specs.layout.Solves.{rule_named}
use Rattle.ftl_model.specs.layout.Stack.{stack, stack_rules}
use Rattle.ftl_order.specs.orders.Lawful.{class_of_rule, declared}
use Rattle.ftl_order.specs.orders.Pairs.{IsPair, IsReader, Pair, Where, Writes, WritesKid, WritesOwn, child_class, parent_class}
use Rattle.ftl_order.proofs.orders.PartReads.{first_then_reads, fold_reads, plain_reads}
use Rattle.ftl_order.specs.worked.WorkedSchedules.{pair_of, stack_pairs}
use Rattle.ftl_order.proofs.worked.StackLawful.{each_rule, stack_lawful}

-- the writers of a synthesized attribute of a box
box_writers : (P : Where → RuleName → Type 0) (k a : ℕ) → P child_class (for_self 1 a) → P child_class (for_self 2 a)
    → (runs_at : Where) (w : RuleName) → WritesKid stack synthesized k 0 a runs_at w → P runs_at w
box_writers P k a column word runs_at w h = subst₂ P (sym h.3) (sym h.4) (below h.0 h.1 h.2)
  where
    below : (b : ℕ) → b < 3 → stack.interface b ≡ 1 → P child_class (for_self b a)
    below zero known e = absurd (let z : ⊥ = omega (arith, e) in z)
    below (suc zero) known e = column
    below (suc (suc zero)) known e = word
    below (suc (suc (suc b))) known e = absurd (let z : ⊥ = omega (arith, known) in z)

-- the writers of an inherited attribute of a box
above_writers : (P : Where → RuleName → Type 0) (a : ℕ) → P parent_class (for_child 0 0 a)
    → P parent_class (for_child 1 0 a)
    → (runs_at : Where) (w : RuleName) → WritesOwn stack inherited 1 a runs_at w → P runs_at w
above_writers P a sheet column runs_at w h = subst₂ P (sym h.5) (sym h.6) (above h.0 h.1 h.2 h.3)
  where
    above : (k c : ℕ) → k < 3 → c < stack.child_count k → P parent_class (for_child k c a)
    above zero zero known declared = sheet
    above zero (suc c) known declared = absurd (let z : ⊥ = omega (arith, declared) in z)
    above (suc zero) zero known declared = column
    above (suc zero) (suc c) known declared = absurd (let z : ⊥ = omega (arith, declared) in z)
    above (suc (suc zero)) c known declared = absurd (let z : ⊥ = omega (arith, declared) in z)
    above (suc (suc (suc k))) c known declared = absurd (let z : ⊥ = omega (arith, known) in z)

-- the pairs of one read of a part are listed
abbrev Listed : RuleName → Part → Read → Type 0
Listed reader part r =
    (runs_at : Where) (w : RuleName) → Writes stack (class_of_rule reader) r runs_at w
    → Contains stack_pairs (pair_of reader part r runs_at w)

abbrev PairsListed : RuleName → Type 0
PairsListed reader = (part : Part) (r : Read) → Contains (reads_in (rule_named stack reader).parts part) r
    → Listed reader part r

-- those of a rule of one part, and of a fold without reads at its start
plain_listed : (reader : RuleName) (reads : List Read) → AllByRecursion (Listed reader plain_part) reads
    → (part : Part) (r : Read) → (part ≡ plain_part) × Contains reads r → Listed reader part r
plain_listed reader reads h part r is =
    subst (λ p. Listed reader p r) (sym is.0) (each_in (Listed reader plain_part) reads h r is.1)

fold_listed : (reader : RuleName) (step : List Read) → AllByRecursion (Listed reader with_part) step
    → (part : Part) (r : Read) → ((part ≡ from_part) × Contains [] r) ⊎ ((part ≡ with_part) × Contains step r)
    → Listed reader part r
fold_listed reader step h part r is =
    ⊎_elim (λ start. each_in (λ x. Listed reader part x) [] tt r start.1)
    (λ turn. subst (λ p. Listed reader p r) (sym turn.0) (each_in (Listed reader with_part) step h r turn.1)) is

y_listed : PairsListed (for_child 1 0 2)
y_listed part r h =
    ⊎_elim
    (λ first. subst (λ p. Listed (for_child 1 0 2) p r) (sym first.0)
    (each_in (Listed (for_child 1 0 2) first_part) (self_read 2 ∷ []) (
      above_writers (λ p w. Contains stack_pairs (pair_of (for_child 1 0 2) first_part (self_read 2) p w)) 2
          (8, lit< tt, refl) (9, lit< tt, refl),
      tt,
    ) r first.1))
    (λ later. subst (λ p. Listed (for_child 1 0 2) p r) (sym later.0)
    (each_in (Listed (for_child 1 0 2) then_part) (prev_read 0 2 ∷ (prev_read 0 4 ∷ [])) (
      (λ p w h. subst₂ (λ q x. Contains stack_pairs (pair_of (for_child 1 0 2) then_part (prev_read 0 2) q x))
          (sym h.0) (sym h.1) (10, lit< tt, refl)),
      (
        box_writers (λ p w. Contains stack_pairs (pair_of (for_child 1 0 2) then_part (prev_read 0 4) p w)) 1 4
            (11, lit< tt, refl) (12, lit< tt, refl),
        tt,
      ),
    ) r later.1))
    (first_then_reads (self_read 2 ∷ []) (prev_read 0 2 ∷ (prev_read 0 4 ∷ [])) part r h)

rules_listed : AllByRecursion PairsListed stack_rules
rules_listed = (
  (λ part r h. plain_listed (for_self 0 0) (single_read 0 4 ∷ []) (
    box_writers (λ p w. Contains stack_pairs (pair_of (for_self 0 0) plain_part (single_read 0 4) p w)) 0 4
        (0, lit< tt, refl) (1, lit< tt, refl),
    tt,
  ) part r (plain_reads (single_read 0 4 ∷ []) part r h)),
  (
    (λ part r h. plain_listed (for_child 0 0 1) [] tt part r (plain_reads [] part r h)),
    (
      (λ part r h. plain_listed (for_child 0 0 2) [] tt part r (plain_reads [] part r h)),
      (
        (λ part r h. fold_listed (for_self 1 3) (each_read 0 3 ∷ []) (
          box_writers (λ p w. Contains stack_pairs (pair_of (for_self 1 3) with_part (each_read 0 3) p w)) 1 3
              (2, lit< tt, refl) (3, lit< tt, refl),
          tt,
        ) part r (fold_reads 0 [] (each_read 0 3 ∷ []) part r h)),
        (
          (λ part r h. fold_listed (for_self 1 4) (each_read 0 4 ∷ []) (
            box_writers (λ p w. Contains stack_pairs (pair_of (for_self 1 4) with_part (each_read 0 4) p w)) 1 4
                (4, lit< tt, refl) (5, lit< tt, refl),
            tt,
          ) part r (fold_reads 0 [] (each_read 0 4 ∷ []) part r h)),
          (
            (λ part r h. plain_listed (for_child 1 0 1) (self_read 1 ∷ []) (
              above_writers (λ p w. Contains stack_pairs (pair_of (for_child 1 0 1) plain_part (self_read 1) p w)) 1
                  (6, lit< tt, refl) (7, lit< tt, refl),
              tt,
            ) part r (plain_reads (self_read 1 ∷ []) part r h)),
            (
              y_listed,
              (
                (λ part r h. plain_listed (for_self 2 3) (self_read 5 ∷ []) ((λ p w h. absurd h), tt) part r
                    (plain_reads (self_read 5 ∷ []) part r h)),
                (
                  (λ part r h. plain_listed (for_self 2 4) (self_read 6 ∷ []) ((λ p w h. absurd h), tt) part r
                      (plain_reads (self_read 6 ∷ []) part r h)),
                  tt,
                ),
              ),
            ),
          ),
        ),
      ),
    ),
  ),
)

pub pairs_listed : (pair : Pair) → IsPair stack pair → Contains stack_pairs pair
pairs_listed pair h =
    each_rule PairsListed rules_listed pair.reader h.0.0 pair.part pair.read h.0.1 pair.runs_at pair.writer h.1

-- a rule of the list has this read
is_read : (reader : RuleName) (part : Part) (r : Read) → Contains stack_rules reader
    → Contains (reads_in (rule_named stack reader).parts part) r → IsReader stack reader part r
is_read reader part r listed h = (stack_lawful.rules_are reader listed, h)

sheet_h_is_read : IsReader stack (for_self 0 0) plain_part (single_read 0 4)
sheet_h_is_read = is_read (for_self 0 0) plain_part (single_read 0 4) (0, lit< tt, refl) (0, lit< tt, refl)

column_w_is_read : IsReader stack (for_self 1 3) with_part (each_read 0 3)
column_w_is_read = is_read (for_self 1 3) with_part (each_read 0 3) (3, lit< tt, refl) (0, lit< tt, refl)

column_h_is_read : IsReader stack (for_self 1 4) with_part (each_read 0 4)
column_h_is_read = is_read (for_self 1 4) with_part (each_read 0 4) (4, lit< tt, refl) (0, lit< tt, refl)

x_is_read : IsReader stack (for_child 1 0 1) plain_part (self_read 1)
x_is_read = is_read (for_child 1 0 1) plain_part (self_read 1) (5, lit< tt, refl) (0, lit< tt, refl)

y_is_read : IsReader stack (for_child 1 0 2) first_part (self_read 2)
y_is_read = is_read (for_child 1 0 2) first_part (self_read 2) (6, lit< tt, refl) (0, lit< tt, refl)

prev_y_is_read : IsReader stack (for_child 1 0 2) then_part (prev_read 0 2)
prev_y_is_read = is_read (for_child 1 0 2) then_part (prev_read 0 2) (6, lit< tt, refl) (0, lit< tt, refl)

prev_h_is_read : IsReader stack (for_child 1 0 2) then_part (prev_read 0 4)
prev_h_is_read = is_read (for_child 1 0 2) then_part (prev_read 0 4) (6, lit< tt, refl) (1, lit< tt, refl)

pub listed_pairs : (pair : Pair) → Contains stack_pairs pair → IsPair stack pair
listed_pairs =
    each_in (IsPair stack) stack_pairs
    ((sheet_h_is_read, (1, lit< tt, refl, refl, refl)), ((sheet_h_is_read, (2, lit< tt, refl, refl, refl)), ((column_w_is_read, (1, lit< tt, refl, refl, refl)), ((column_w_is_read, (2, lit< tt, refl, refl, refl)), ((column_h_is_read, (1, lit< tt, refl, refl, refl)), ((column_h_is_read, (2, lit< tt, refl, refl, refl)), ((x_is_read, (0, 0, lit< tt, lit< tt, refl, refl, refl)), ((x_is_read, (1, 0, lit< tt, lit< tt, refl, refl, refl)), ((y_is_read, (0, 0, lit< tt, lit< tt, refl, refl, refl)), ((y_is_read, (1, 0, lit< tt, lit< tt, refl, refl, refl)), ((prev_y_is_read, (refl, refl)), ((prev_h_is_read, (1, lit< tt, refl, refl, refl)), ((prev_h_is_read, (2, lit< tt, refl, refl, refl)), tt)))))))))))))
