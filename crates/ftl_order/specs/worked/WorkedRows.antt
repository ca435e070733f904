-- The rows of the table of ordered reads for one pass, each at one case or more, in passes of each kind.
use Rattle.std.specs.Prelude.{ℕ, List, [], ◌∷◌}
use Rattle.ftl_model.specs.layout.AttributeGrammar.{Read, each_read, prev_read, self_read, single_read, this_read}
use Rattle.ftl_order.specs.orders.Ordered.{IsOrderedRead, VisitPlace}
use Rattle.ftl_order.specs.orders.Pairs.{Where, child_class, parent_class, same_class}
use Rattle.ftl_order.specs.orders.Schedule.{PassKind, Placing, bottomup, inorder, topdown}

-- one pass that lists the attributes in the order of their numbers
abbrev pub one_pass : PassKind → Placing
one_pass kind a = record { stage = 0; pass = 0; kind = kind; index = a }

-- a rule for a local
abbrev pub for_local : ℕ → VisitPlace
for_local a = record { attribute = a; block = 0; child = 0 }

-- a rule for the kids of a child
abbrev pub for_kids : (attribute child : ℕ) → VisitPlace
for_kids a c = record { attribute = a; block = 1; child = c }

-- a rule for a synthesized attribute
abbrev pub for_synthesized : ℕ → VisitPlace
for_synthesized a = record { attribute = a; block = 2; child = 0 }

-- a read in a pass of a kind, with its writer and its reader
pub record RowCase : Type 0 where
  pub kind : PassKind
  pub runs_at : Where
  pub read : Read
  pub writer : VisitPlace
  pub reader : VisitPlace

-- a case of these parts
abbrev pub row_case : PassKind → Where → Read → VisitPlace → VisitPlace → RowCase
row_case kind runs_at read writer reader =
    record { kind = kind; runs_at = runs_at; read = read; writer = writer; reader = reader }

-- the table orders the read
abbrev pub IsOrderedCase : RowCase → Type 0
IsOrderedCase x = IsOrderedRead (one_pass x.kind) x.runs_at x.read x.writer x.reader

-- cases that are ordered
abbrev pub ordered_rows : List RowCase
ordered_rows =
    -- the writer's key is smaller, or it is the rule itself read by `prev`
    row_case topdown same_class (self_read 0) (for_synthesized 0) (for_synthesized 1)
    ∷ (row_case bottomup same_class (self_read 0) (for_synthesized 0) (for_synthesized 1)
    ∷ (row_case topdown same_class (prev_read 0 1) (for_kids 1 0) (for_kids 1 0)
    ∷ (row_case bottomup same_class (prev_read 0 1) (for_kids 1 0) (for_kids 1 0)
    -- of one attribute, the child is declared earlier
    ∷ (row_case topdown same_class (single_read 0 1) (for_kids 1 0) (for_kids 1 1)
    ∷ (row_case inorder same_class (single_read 0 1) (for_kids 1 0) (for_kids 1 1)
    -- the writer runs at the parent, or at a kid
    ∷ (row_case topdown parent_class (self_read 1) (for_kids 1 0) (for_synthesized 0)
    ∷ (row_case bottomup child_class (each_read 0 1) (for_synthesized 1) (for_synthesized 0)
    -- the writer's block is earlier; the same child's by `prev`; the same block with a smaller key
    ∷ (row_case inorder same_class (self_read 1) (for_local 1) (for_synthesized 0)
    ∷ (row_case inorder same_class (single_read 0 1) (for_kids 1 0) (for_kids 0 1)
    ∷ (row_case inorder same_class (prev_read 0 1) (for_kids 1 0) (for_kids 0 0)
    ∷ (row_case inorder same_class (self_read 0) (for_synthesized 0) (for_synthesized 1)
    -- the writer runs at the parent; at a kid, for a synthesized attribute; at a child declared earlier; by `prev`
    ∷ (row_case inorder parent_class (self_read 1) (for_kids 1 0) (for_local 0)
    ∷ (row_case inorder child_class (each_read 0 1) (for_synthesized 1) (for_synthesized 0)
    ∷ (row_case inorder child_class (single_read 0 1) (for_synthesized 1) (for_kids 0 1)
    ∷ (row_case inorder child_class (prev_read 0 1) (for_synthesized 1) (for_kids 0 0)
    ∷ [])))))))))))))))

-- cases that are not
abbrev pub refused_rows : List RowCase
refused_rows =
    -- the key is the same or larger, also by `prev`
    row_case topdown same_class (self_read 0) (for_synthesized 0) (for_synthesized 0)
    ∷ (row_case bottomup same_class (self_read 1) (for_synthesized 1) (for_synthesized 0)
    ∷ (row_case topdown same_class (prev_read 0 1) (for_kids 1 0) (for_kids 0 0)
    ∷ (row_case bottomup same_class (prev_read 0 1) (for_kids 1 0) (for_kids 0 0)
    -- of one attribute, the child is declared later
    ∷ (row_case topdown same_class (single_read 1 1) (for_kids 1 1) (for_kids 1 0)
    ∷ (row_case bottomup same_class (single_read 1 1) (for_kids 1 1) (for_kids 1 0)
    -- the writer runs at a kid, or at the parent
    ∷ (row_case topdown child_class (each_read 0 0) (for_synthesized 0) (for_synthesized 1)
    ∷ (row_case bottomup parent_class (self_read 0) (for_kids 0 0) (for_synthesized 1)
    -- the writer's block is later; the same block with a larger key
    ∷ (row_case inorder same_class (self_read 0) (for_synthesized 0) (for_local 1)
    ∷ (row_case inorder same_class (single_read 1 0) (for_kids 0 1) (for_kids 1 0)
    ∷ (row_case inorder same_class (this_read 0 1) (for_kids 1 0) (for_kids 0 0)
    -- the writer runs at a kid, for a local; for the same child but not by `prev`; for a child declared earlier
    ∷ (row_case inorder child_class (each_read 0 0) (for_synthesized 0) (for_local 1)
    ∷ (row_case inorder child_class (this_read 0 0) (for_synthesized 0) (for_kids 1 0)
    ∷ (row_case inorder child_class (single_read 1 0) (for_synthesized 0) (for_kids 1 0)
    ∷ [])))))))))))))
