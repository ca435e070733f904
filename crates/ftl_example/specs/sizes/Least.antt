-- The least sizes of trees by rounds: of a tree whose root's class is of an interface.
use Rattle.std.specs.Prelude.{◌≡◌, ◌↔◌, ℕ, zero, suc, ◌+◌, ◌<◌, ◌≤◌, ◌==◌, nat_le, if◌then◌else◌, Option, None, Some}
use Rattle.ftl_model.specs.layout.Tree.{Forest, size}
use Rattle.ftl_model.specs.layout.AttributeGrammar.{AttributeGrammar}
use Rattle.ftl_model.specs.layout.TreeOf.{IsTreeIn}

abbrev pub plus : Option ℕ → Option ℕ → Option ℕ
plus None y = None
plus (Some a) None = None
plus (Some a) (Some b) = Some (a + b)

abbrev pub lesser : Option ℕ → Option ℕ → Option ℕ
lesser None y = y
lesser (Some a) None = Some a
lesser (Some a) (Some b) = if nat_le a b then Some a else Some b

-- the sizes of the single children before the n-th, in all
abbrev pub singles : AttributeGrammar → (ℕ → Option ℕ) → (class n : ℕ) → Option ℕ
singles g size class zero = Some 0
singles g size class (suc n) =
    if g.is_list class n then singles g size class n
    else plus (size (g.child_interface class n)) (singles g size class n)

abbrev pub class_size : AttributeGrammar → (ℕ → Option ℕ) → ℕ → Option ℕ
class_size g size class = plus (Some 1) (singles g size class (g.child_count class))

-- the least over the classes of the interface before the n-th
abbrev pub best : AttributeGrammar → (ℕ → Option ℕ) → (i n : ℕ) → Option ℕ
best g size i zero = None
best g size i (suc n) =
    if g.interface n == i then lesser (best g size i n) (class_size g size n) else best g size i n

-- the least sizes after so many rounds
abbrev pub least : AttributeGrammar → ℕ → ℕ → Option ℕ
least g zero i = None
least g (suc k) i = best g (least g k) i g.class_count

-- each class is of one of the first `count` interfaces
abbrev pub HasInterfaces : AttributeGrammar → ℕ → Type 0
HasInterfaces g count = (class : ℕ) → class < g.class_count → g.interface class < count

abbrev pub IsLeastSize : AttributeGrammar → ℕ → ℕ → Type 0
IsLeastSize g i n =
    ((t : Forest) × IsTreeIn g i t × (size t ≡ n)) × ((t : Forest) → IsTreeIn g i t → n ≤ size t)

-- after as many rounds as there are interfaces: a size is the least, and there is none where no tree is
abbrev pub RoundsGiveLeast : AttributeGrammar → Type 0
RoundsGiveLeast g =
    (count i : ℕ) → HasInterfaces g count
    → ((n : ℕ) → least g count i ≡ Some n → IsLeastSize g i n)
    × ((least g count i ≡ None) ↔ ((t : Forest) → IsTreeIn g i t → ⊥))

-- a size counted up to a number, which stands for every larger one
abbrev pub capped : ℕ → Option ℕ → Option ℕ
capped most None = None
capped most (Some n) = Some (if nat_le n most then n else most)

abbrev pub singles_up_to : ℕ → AttributeGrammar → (ℕ → Option ℕ) → (class n : ℕ) → Option ℕ
singles_up_to most g size class zero = capped most (Some 0)
singles_up_to most g size class (suc n) =
    if g.is_list class n then singles_up_to most g size class n
    else capped most (plus (size (g.child_interface class n)) (singles_up_to most g size class n))

abbrev pub best_up_to : ℕ → AttributeGrammar → (ℕ → Option ℕ) → (i n : ℕ) → Option ℕ
best_up_to most g size i zero = None
best_up_to most g size i (suc n) =
    if g.interface n == i
    then lesser (best_up_to most g size i n)
    (capped most (plus (Some 1) (singles_up_to most g size n (g.child_count n))))
    else best_up_to most g size i n

-- the rounds with sizes counted so
abbrev pub least_up_to : ℕ → AttributeGrammar → ℕ → ℕ → Option ℕ
least_up_to most g zero i = None
least_up_to most g (suc k) i = best_up_to most g (least_up_to most g k) i g.class_count

abbrev pub CountedUpTo : AttributeGrammar → Type 0
CountedUpTo g = (most k i : ℕ) → least_up_to most g k i ≡ capped most (least g k i)
