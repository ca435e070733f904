-- Who reads an instance: the reads of a rule at a node, one by one.
use Rattle.std.specs.Prelude.{◌≡◌, ◌⊎◌, ◌↔◌, ℕ, zero, suc, ◌<◌, List, Contains}
use Rattle.ftl_model.specs.layout.AttributeGrammar.{AttributeGrammar, Occurrence, Parts, Read, each_read, first_then}
use Rattle.ftl_model.specs.layout.AttributeGrammar.{fold_over, kid, last_read, own, plain, prev_read}
use Rattle.ftl_model.specs.layout.AttributeGrammar.{read_occurrences, self_read, single_read, this_read}
use Rattle.ftl_model.specs.layout.Path.{Path, down, kids_at}
use Rattle.ftl_model.specs.layout.Solves.{Instance, rule_kid, rule_node, rule_of}
use Rattle.ftl_model.specs.layout.Tree.{Forest}
use Rattle.ftl_order.specs.orders.LegalOrder.{IsStep}
use Rattle.ftl_order.specs.orders.Reads.{Reads}

-- a read is of this occurrence, where there are so many kids in each child and this one is at hand
abbrev pub IsHit : (kids : ℕ → ℕ) → (at_hand : ℕ) → Read → Occurrence → Type 0
IsHit kids h (self_read a) o = own a ≡ o
IsHit kids h (single_read c a) o = kid c 0 a ≡ o
IsHit kids h (each_read c a) o = kid c h a ≡ o
IsHit kids h (this_read c a) o = kid c h a ≡ o
IsHit kids h (prev_read c a) o = (k : ℕ) × (h ≡ suc k) × (kid c k a ≡ o)
IsHit kids h (last_read c a) o = (k : ℕ) × (kids c ≡ suc k) × (kid c k a ≡ o)

-- one of some reads is
abbrev pub OneHits : (kids : ℕ → ℕ) → (at_hand : ℕ) → List Read → Occurrence → Type 0
OneHits kids h reads o = (r : Read) × Contains reads r × IsHit kids h r o

-- a rule for the kid of this number has a read of the occurrence, in a part that is read there
abbrev pub IsReadBy : Parts → (kids : ℕ → ℕ) → (number : ℕ) → Occurrence → Type 0
IsReadBy (plain reads) kids h o = OneHits kids h reads o
IsReadBy (first_then first later) kids zero o = OneHits kids 0 first o
IsReadBy (first_then first later) kids (suc k) o = OneHits kids (suc k) later o
IsReadBy (fold_over c start step) kids h o =
    OneHits kids h start o ⊎ ((n : ℕ) × (n < kids c) × OneHits kids n step o)

-- an occurrence at the node where a step runs is the instance: of the node itself, or of a kid of it
abbrev pub IsSeenAs : Path → Instance → Occurrence → Type 0
IsSeenAs v i (own a) = (i.node ≡ v) × (i.attribute ≡ a)
IsSeenAs v i (kid c k a) = (i.node ≡ down c k v) × (i.attribute ≡ a)

-- the rule of a step has a read of the instance
abbrev pub IsReaderOf : AttributeGrammar → Forest → Instance → Instance → Type 0
IsReaderOf g t q i =
    (o : Occurrence) × IsSeenAs (rule_node (g.sort q.attribute) q.node) i o
    × IsReadBy (rule_of g t (g.sort q.attribute) q.node q.attribute).parts
    (kids_at t (rule_node (g.sort q.attribute) q.node)) (rule_kid (g.sort q.attribute) q.node) o

-- of a list of occurrences
abbrev pub ReadsAreHits : Type 0
ReadsAreHits =
    (parts : Parts) (kids : ℕ → ℕ) (h : ℕ) (o : Occurrence)
    → Contains (read_occurrences parts kids h) o ↔ IsReadBy parts kids h o

-- and so what reads an instance runs at its node or at its parent
abbrev pub ReadersAreNear : Type 0
ReadersAreNear =
    (g : AttributeGrammar) (t : Forest) (q i : Instance) → IsStep g t q → Reads g t q i ↔ IsReaderOf g t q i
