-- Pairs of a read and a rule that writes what is read. They speak of rules and of no tree.
use Rattle.std.specs.Prelude.{◌≡◌, ℕ, ◌<◌, Bool, true, false, Contains}
use Rattle.ftl_model.specs.layout.AttributeGrammar.{AttributeGrammar, Part, Read, RuleName, Sort, each_read, for_child}
use Rattle.ftl_model.specs.layout.AttributeGrammar.{for_self, inherited, input, last_read, local, prev_read, reads_in}
use Rattle.ftl_model.specs.layout.AttributeGrammar.{self_read, single_read, synthesized, this_read}
use Rattle.ftl_model.specs.layout.Solves.{rule_named}
use Rattle.ftl_order.specs.orders.Lawful.{IsRule, class_of_rule}

-- the grammar has this rule, and this part of it has this read
abbrev pub IsReader : AttributeGrammar → RuleName → Part → Read → Type 0
IsReader g w part r = IsRule g w × Contains (reads_in (rule_named g w).parts part) r

-- where the writer runs: at the node of the reader, at its parent, or at one of its kids
pub data Where : Type 0 where
  same_class : Where
  parent_class : Where
  child_class : Where

-- what writes attribute `a` of the node itself, by its kind: an inherited one the rules of all classes with a child of
-- the node's interface, an input none
abbrev pub WritesOwn : AttributeGrammar → Sort → (class a : ℕ) → Where → RuleName → Type 0
WritesOwn g input class a runs_at w = ⊥
WritesOwn g inherited class a runs_at w =
    (above : ℕ) × (c : ℕ) × (above < g.class_count) × (c < g.child_count above)
    × (g.child_interface above c ≡ g.interface class) × (runs_at ≡ parent_class) × (w ≡ for_child above c a)
WritesOwn g synthesized class a runs_at w = (runs_at ≡ same_class) × (w ≡ for_self class a)
WritesOwn g local class a runs_at w = (runs_at ≡ same_class) × (w ≡ for_self class a)

-- what writes attribute `a` of a kid in child `c`: a synthesized one the rules of all classes of the child's interface
abbrev pub WritesKid : AttributeGrammar → Sort → (class c a : ℕ) → Where → RuleName → Type 0
WritesKid g input class c a runs_at w = ⊥
WritesKid g inherited class c a runs_at w = (runs_at ≡ same_class) × (w ≡ for_child class c a)
WritesKid g synthesized class c a runs_at w =
    (below : ℕ) × (below < g.class_count) × (g.interface below ≡ g.child_interface class c)
    × (runs_at ≡ child_class) × (w ≡ for_self below a)
WritesKid g local class c a runs_at w = ⊥

-- rule `w` writes what a rule of this class reads
abbrev pub Writes : AttributeGrammar → (class : ℕ) → Read → Where → RuleName → Type 0
Writes g class (self_read a) runs_at w = WritesOwn g (g.sort a) class a runs_at w
Writes g class (single_read c a) runs_at w = WritesKid g (g.sort a) class c a runs_at w
Writes g class (each_read c a) runs_at w = WritesKid g (g.sort a) class c a runs_at w
Writes g class (this_read c a) runs_at w = WritesKid g (g.sort a) class c a runs_at w
Writes g class (prev_read c a) runs_at w = WritesKid g (g.sort a) class c a runs_at w
Writes g class (last_read c a) runs_at w = WritesKid g (g.sort a) class c a runs_at w

-- a read of a part of a rule, a rule that writes what is read, and where that one runs
pub record Pair : Type 0 where
  pub reader : RuleName
  pub part : Part
  pub read : Read
  pub writer : RuleName
  pub runs_at : Where

-- the reader has this read, and the writer writes what it reads
abbrev pub IsPair : AttributeGrammar → Pair → Type 0
IsPair g pair =
    IsReader g pair.reader pair.part pair.read
    × Writes g (class_of_rule pair.reader) pair.read pair.runs_at pair.writer

-- whether a read is by `prev`
abbrev pub is_by_prev : Read → Bool
is_by_prev (self_read a) = false
is_by_prev (single_read c a) = false
is_by_prev (each_read c a) = false
is_by_prev (this_read c a) = false
is_by_prev (prev_read c a) = true
is_by_prev (last_read c a) = false

-- the child that is read; 0 where the node itself is
abbrev pub child_read : Read → ℕ
child_read (self_read a) = 0
child_read (single_read c a) = c
child_read (each_read c a) = c
child_read (this_read c a) = c
child_read (prev_read c a) = c
child_read (last_read c a) = c
