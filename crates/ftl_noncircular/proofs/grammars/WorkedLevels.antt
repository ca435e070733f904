-- Grammars whose vertices have levels, so that they are noncircular.
use Rattle.std.proofs.Common.{◌≡◌, ℕ, suc, ◌<◌, ◌≤◌, ◌==◌, Bool, true, false, if◌then◌else◌, refl, sym, ap, lit<, lit≤, arith, [], ◌∷◌, Contains}
use Rattle.std.proofs.lemmas.Bool.{false≢true}
use Rattle.ftl_model.proofs.lists.Elements.{each_in, nothing_in}
use Rattle.ftl_model.specs.layout.AttributeGrammar.{Read, RuleName, Sort, each_read, for_child, for_self, inherited, input, local, prev_read, self_read, single_read, synthesized}
use Rattle.ftl_model.specs.layout.Stack.{stack, stack_sort}
use Rattle.ftl_order.specs.orders.Lawful.{IsLawful, IsRule, MayReadForChild, MayReadForSelf, MayReadLater}
use Rattle.ftl_order.proofs.worked.StackLawful.{each_rule as each_stack_rule}
use Rattle.ftl_noncircular.specs.grammars.Noncircular.{IsNoncircular, Vertex, of_child, of_self}
use Rattle.ftl_noncircular.specs.grammars.Worked.{FrameParts, back, by_prev, frame_sort, framed, twisted}
use Rattle.ftl_noncircular.proofs.grammars.Levels.{EachRises, Rises, noncircular_by_levels}
use Rattle.ftl_noncircular.proofs.grammars.WorkedLawful.{PartsAllowed, each_rule, frame_lawful, kid_one, own_one}

-- a family that has all, and one that has none

abbrev all_pairs : ℕ → ℕ → Bool
all_pairs a b = true

abbrev no_pairs : ℕ → ℕ → Bool
no_pairs a b = false

none_read : (P : Read → Type 0) (r : Read) → Contains [] r → P r
none_read P r h = absurd (nothing_in r h)

-- ---- the twisted grammar

abbrev twisted_own : Sort → ℕ
twisted_own inherited = 0
twisted_own input = 0
twisted_own synthesized = 9
twisted_own local = 9

abbrev twisted_kid : (start : ℕ) → Sort → ℕ
twisted_kid start inherited = start
twisted_kid start input = suc start
twisted_kid start synthesized = suc start
twisted_kid start local = suc start

-- of the kids of a box r comes before l
abbrev start_of : (child : ℕ) → ℕ
start_of c = if c == 1 then 3 else 1

abbrev twisted_level : (class : ℕ) → Vertex → ℕ
twisted_level class (of_self a) = twisted_own (frame_sort a)
twisted_level class (of_child c a) = twisted_kid (start_of c) (frame_sort a)

abbrev TwistedRises : RuleName → Read → Type 0
TwistedRises = Rises (framed twisted) twisted_level all_pairs

pub twisted_noncircular : IsNoncircular (framed twisted)
twisted_noncircular =
    noncircular_by_levels (framed twisted) twisted_level all_pairs
    (record {
      rules = each_rule twisted (EachRises (framed twisted) twisted_level all_pairs) (none_read _) (none_read _)
          (none_read _) (none_read _) (none_read _)
          (each_in (TwistedRises (for_self 2 4)) (single_read 1 4 ∷ []) (lit< tt, tt))
          (none_read _) (none_read _)
          (each_in (TwistedRises (for_child 2 1 3)) (single_read 2 4 ∷ []) (lit< tt, tt))
          (each_in (TwistedRises (for_child 2 2 3)) (self_read 3 ∷ []) (lit< tt, tt))
          (each_in (TwistedRises (for_self 3 4)) (self_read 3 ∷ []) (lit< tt, tt));
      kids = λ class c a b ia sb has.
          let x : twisted_level class (of_child c a) ≡ start_of c = ap (twisted_kid (start_of c)) ia in
          let y : twisted_level class (of_child c b) ≡ suc (start_of c) = ap (twisted_kid (start_of c)) sb in
          let z : twisted_level class (of_child c a) < twisted_level class (of_child c b) = omega (arith, x, y) in z;
      ports = λ class a b port h. refl;
    })

pub twisted_lawful : IsLawful (framed twisted)
twisted_lawful =
    frame_lawful twisted
    (each_rule twisted (PartsAllowed twisted) (own_one twisted 0) (kid_one twisted 0 0)
    (kid_one twisted 0 0) (kid_one twisted 0 1) (own_one twisted 1)
    (each_in (MayReadForSelf (framed twisted) 2) (single_read 1 4 ∷ []) (((lit< tt, refl), (1, lit< tt, refl)), tt))
    (kid_one twisted 2 0) (kid_one twisted 2 0)
    (each_in (MayReadForChild (framed twisted) 2 1) (single_read 2 4 ∷ []) (((lit< tt, refl), (1, lit< tt, refl)), tt))
    (each_in (MayReadForChild (framed twisted) 2 2) (self_read 3 ∷ []) ((0, lit< tt, refl), tt))
    (each_in (MayReadForSelf (framed twisted) 3) (self_read 3 ∷ []) ((0, lit< tt, refl), tt)))

-- ---- where no synthesized attribute depends on an inherited one of its node

abbrev turned : Sort → ℕ
turned inherited = 1
turned input = 0
turned synthesized = 0
turned local = 0

abbrev turned_level : (class : ℕ) → Vertex → ℕ
turned_level class (of_self a) = turned (frame_sort a)
turned_level class (of_child c a) = turned (frame_sort a)

module _ (p : FrameParts) where
  abbrev TurnedRises : RuleName → Read → Type 0
  TurnedRises = Rises (framed p) turned_level no_pairs

  abbrev EachTurnedRises : RuleName → Type 0
  EachTurnedRises = EachRises (framed p) turned_level no_pairs

  turned_noncircular : ((w : RuleName) → IsRule (framed p) w → EachTurnedRises w) → IsNoncircular (framed p)
  turned_noncircular rise =
      noncircular_by_levels (framed p) turned_level no_pairs
      (record {
        rules = rise;
        kids = λ class c a b ia sb has. absurd (false≢true has);
        ports = λ class a b port h.
            let x : turned (frame_sort a) ≡ 1 = ap turned port.from_sort in
            let y : turned (frame_sort b) ≡ 0 = ap turned port.to_sort in
            absurd (let z : ⊥ = omega (arith, h, x, y) in z);
      })

-- `prev` stays among the kids of a list
prev_stays : (1 ≤ 1) × ((true ≡ false) → ⊥)
prev_stays = (lit≤ tt, (λ e. false≢true (sym e)))

pub by_prev_noncircular : IsNoncircular (framed by_prev)
by_prev_noncircular =
    turned_noncircular by_prev
    (each_rule by_prev (EachTurnedRises by_prev) (none_read _)
    (each_in (TurnedRises by_prev (for_child 0 0 0)) (prev_read 0 1 ∷ []) (prev_stays, tt))
    (each_in (TurnedRises by_prev (for_child 0 0 1)) (prev_read 0 0 ∷ []) (prev_stays, tt))
    (none_read _) (none_read _) (none_read _) (none_read _) (none_read _) (none_read _) (none_read _) (none_read _))

pub by_prev_lawful : IsLawful (framed by_prev)
by_prev_lawful =
    frame_lawful by_prev
    (each_rule by_prev (PartsAllowed by_prev) (own_one by_prev 0) (
      (lit< tt, refl),
      each_in (MayReadForChild (framed by_prev) 0 0) [] tt,
      each_in (MayReadLater (framed by_prev) 0 0) (prev_read 0 1 ∷ [])
          ((refl, (lit< tt, refl), (1, lit< tt, refl)), tt),
    ) (
      (lit< tt, refl),
      each_in (MayReadForChild (framed by_prev) 0 0) [] tt,
      each_in (MayReadLater (framed by_prev) 0 0) (prev_read 0 0 ∷ [])
          ((refl, (lit< tt, refl), (0, lit< tt, refl)), tt),
    )
    (kid_one by_prev 0 1) (own_one by_prev 1) (own_one by_prev 2) (kid_one by_prev 2 0)
    (kid_one by_prev 2 0) (kid_one by_prev 2 1) (kid_one by_prev 2 2) (own_one by_prev 3))

pub back_noncircular : IsNoncircular (framed back)
back_noncircular =
    turned_noncircular back
    (each_rule back (EachTurnedRises back) (none_read _) (none_read _) (none_read _)
    (each_in (TurnedRises back (for_child 0 1 3)) (single_read 1 4 ∷ []) (lit< tt, tt)) (none_read _)
    (none_read _) (none_read _) (none_read _) (none_read _) (none_read _) (none_read _))

pub back_lawful : IsLawful (framed back)
back_lawful =
    frame_lawful back
    (each_rule back (PartsAllowed back) (own_one back 0) (kid_one back 0 0)
    (kid_one back 0 0)
    (each_in (MayReadForChild (framed back) 0 1) (single_read 1 4 ∷ []) (((lit< tt, refl), (1, lit< tt, refl)), tt))
    (own_one back 1) (own_one back 2) (kid_one back 2 0) (kid_one back 2 0)
    (kid_one back 2 1) (kid_one back 2 2) (own_one back 3))

-- ---- the stack grammar

abbrev stack_own : Sort → ℕ
stack_own input = 0
stack_own synthesized = 5
stack_own inherited = 6
stack_own local = 5

abbrev stack_kid : Sort → ℕ
stack_kid input = 0
stack_kid synthesized = 1
stack_kid inherited = 7
stack_kid local = 0

abbrev stack_level : (class : ℕ) → Vertex → ℕ
stack_level class (of_self a) = stack_own (stack_sort a)
stack_level class (of_child c a) = stack_kid (stack_sort a)

abbrev StackRises : RuleName → Read → Type 0
StackRises = Rises stack stack_level no_pairs

stack_rises : (w : RuleName) → IsRule stack w → EachRises stack stack_level no_pairs w
stack_rises =
    each_stack_rule (EachRises stack stack_level no_pairs) (
      each_in (StackRises (for_self 0 0)) (single_read 0 4 ∷ []) (lit< tt, tt),
      (
        (none_read _),
        (
          (none_read _),
          (
            each_in (StackRises (for_self 1 3)) (each_read 0 3 ∷ []) (lit< tt, tt),
            (
              each_in (StackRises (for_self 1 4)) (each_read 0 4 ∷ []) (lit< tt, tt),
              (
                each_in (StackRises (for_child 1 0 1)) (self_read 1 ∷ []) (lit< tt, tt),
                (
                  each_in (StackRises (for_child 1 0 2))
                      (self_read 2 ∷ prev_read 0 2 ∷ prev_read 0 4 ∷ [])
                      (lit< tt, ((lit≤ tt, prev_stays.1), ((lit≤ tt, prev_stays.1), tt))),
                  (
                    each_in (StackRises (for_self 2 3)) (self_read 5 ∷ []) (lit< tt, tt),
                    (each_in (StackRises (for_self 2 4)) (self_read 6 ∷ []) (lit< tt, tt), tt),
                  ),
                ),
              ),
            ),
          ),
        ),
      ),
    )

pub stack_noncircular : IsNoncircular stack
stack_noncircular =
    noncircular_by_levels stack stack_level no_pairs
    (record {
      rules = stack_rises;
      kids = λ class c a b ia sb has. absurd (false≢true has);
      ports = λ class a b port h.
          let x : stack_own (stack_sort a) ≡ 6 = ap stack_own port.from_sort in
          let y : stack_own (stack_sort b) ≡ 5 = ap stack_own port.to_sort in
          absurd (let z : ⊥ = omega (arith, h, x, y) in z);
    })
