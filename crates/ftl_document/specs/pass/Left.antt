-- What is left of the nodes that are open.
use Rattle.std.specs.Prelude.{ℕ, ◌-◌, ◌<◌, List, [], ◌∷◌, length, drop}
use Rattle.ftl_tokens.specs.declared.scanner.kind.Kind.TheVariants as kind
use Rattle.ftl_tokens.specs.scanner.Tokenized.{fixed}
use Rattle.ftl_grammar.specs.declared.syntax.rules.Grammar.{Grammar}
use Rattle.ftl_meaning.specs.faults.Numbering.{children_of}
use Rattle.ftl_document.specs.syntax.Braces.{deepest}
use Rattle.ftl_document.specs.declared.pass.open_nodes.OpenNode.{OpenNode}
use Rattle.ftl_document.specs.declared.pass.open_nodes.Within.{Within}
use Rattle.ftl_document.specs.declared.pass.open_nodes.Within.TheVariants.{Braces, List as in_list}
use Rattle.ftl_document.specs.declared.pass.passed.Standing.{Standing}
use Rattle.ftl_document.specs.pass.Good.{AreChildren, AreKids, IsNode, State, before}

-- an open node whose next child is this one
abbrev pub at_child : (class node child : ℕ) → OpenNode
at_child k n c = record { class = k; node = n; child = c; within = Braces }

-- one in a list, whose next node stands so, and whose next child is this one
abbrev pub at_kid : (class node child : ℕ) → Standing → OpenNode
at_kid k n c kid = record { class = k; node = n; child = c; within = in_list kid }

-- the classes of open nodes are the grammar's
abbrev pub AreKnown : Grammar → List OpenNode → Type 0
AreKnown g [] = Unit {0}
AreKnown g (o ∷ os) = (o.class < length g.classes) × AreKnown g os

-- the children of an open node from the next one on, and its `}`
abbrev pub AreChildrenLeft : Grammar → (greatest depth : ℕ) → OpenNode → State → State → Type 0
AreChildrenLeft g greatest depth o s t =
    AreChildren g greatest depth o.node (drop o.child (children_of g o.class)) s (before (fixed kind.RightBrace ∷ []) t)

-- the nodes of the list that is open from this one on, its `]`, and then the same
pub record AreKidsLeft (g : Grammar) (greatest depth : ℕ) (o : OpenNode) (kid : Standing) (s t : State) : Type 0 where
  pub behind : State
  pub kids : AreKids g greatest depth kid.wanted kid.parent kid.place.child kid.place.kid s
      (before (fixed kind.RightBracket ∷ []) behind)
  pub children : AreChildrenLeft g greatest depth o behind t

-- what is left of an open node
abbrev pub IsOneLeft : Grammar → (greatest depth : ℕ) → OpenNode → Within → State → State → Type 0
IsOneLeft g greatest depth o Braces s t = AreChildrenLeft g greatest depth o s t
IsOneLeft g greatest depth o (in_list kid) s t = AreKidsLeft g greatest depth o kid s t

-- what is left of open nodes, from the innermost one on
pub data IsLeft (g : Grammar) (greatest : ℕ) : List OpenNode → State → State → Type 0 where
  nothing_left : {s : State} → IsLeft g greatest [] s s
  one_left : {o : OpenNode} {os : List OpenNode} {s t u : State}
      → IsOneLeft g greatest (deepest - length (o ∷ os)) o o.within s t → IsLeft g greatest os t u
      → IsLeft g greatest (o ∷ os) s u

-- a node that stands so in the innermost open one, and what is then left of these
pub record IsNodeLeft (g : Grammar) (greatest : ℕ) (next : Standing) (os : List OpenNode) (s t : State) : Type 0 where
  pub behind : State
  pub node : IsNode g greatest (deepest - length os) next.wanted next.parent next.place.child next.place.kid s behind
  pub left : IsLeft g greatest os behind t

-- from these open nodes and this state a turn led to those: what is then left was left, behind what it took
pub record IsTurn (g : Grammar) (greatest : ℕ) (os : List OpenNode) (s : State) (ps : List OpenNode) (t : State) : Type 0 where
  pub known : AreKnown g ps
  pub left : (end : State) → IsLeft g greatest ps t end → IsLeft g greatest os s end

-- the same of a node that stands so in the innermost open one
pub record IsNodeTurn (g : Grammar) (greatest : ℕ) (next : Standing) (os : List OpenNode) (s : State)
    (ps : List OpenNode) (t : State) : Type 0 where
  pub known : AreKnown g ps
  pub left : (end : State) → IsLeft g greatest ps t end → IsNodeLeft g greatest next os s end
