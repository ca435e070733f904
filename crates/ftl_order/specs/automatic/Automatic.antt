-- The automatic schedule: one pass in each stage, each the one that takes the most of what is left. It is found, or it
-- is stuck with what is left.
use Rattle.std.specs.Prelude.{◌≡◌, ◌≢◌, ◌⊎◌, ℕ, nat_le, if◌then◌else◌, List, [], ◌∷◌, ◌++◌, length, Contains}
use Rattle.ftl_model.specs.lists.Lists.{AreDistinct, NoneFalls}
use Rattle.ftl_model.specs.layout.AttributeGrammar.{AttributeGrammar}
use Rattle.ftl_order.specs.orders.Ordered.{IsOrdered}
use Rattle.ftl_order.specs.orders.Schedule.{Pass, PassKind, Schedule, bottomup, entries, inorder, topdown}
use Rattle.ftl_order.specs.automatic.Fitting.{IsComputed, IsListOf}

-- a pass of this kind with these attributes
abbrev pub pass_of_kind : PassKind → List ℕ → Pass
pass_of_kind kind attributes = record { kind = kind; attributes = attributes }

-- Of the lists of the three kinds: the larger of the first two, the topdown one in a tie, and the inorder one where
-- both are empty.
abbrev pub chosen : (down up in_order : List ℕ) → Pass
chosen [] [] in_order = pass_of_kind inorder in_order
chosen [] (b ∷ up) in_order = pass_of_kind bottomup (b ∷ up)
chosen (a ∷ down) up in_order =
    if nat_le (length up) (length (a ∷ down)) then pass_of_kind topdown (a ∷ down) else pass_of_kind bottomup up

-- the next pass after what is done; it is empty where nothing can be taken
pub record IsNext (g : AttributeGrammar) (done : List ℕ) (pass : Pass) : Type 0 where
  pub down : List ℕ
  pub up : List ℕ
  pub in_order : List ℕ
  pub is_down : IsListOf g topdown done down
  pub is_up : IsListOf g bottomup done up
  pub is_in_order : IsListOf g inorder done in_order
  pub is : pass ≡ chosen down up in_order

-- after what is done the stages are of one pass each, the next one, and go on until nothing can be taken
abbrev pub IsChainAfter : AttributeGrammar → (done : List ℕ) → Schedule → Type 0
IsChainAfter g done [] = (pass : Pass) × IsNext g done pass × (pass.attributes ≡ [])
IsChainAfter g done (passes ∷ stages) =
    (pass : Pass) × (passes ≡ pass ∷ []) × IsNext g done pass × (pass.attributes ≢ [])
    × IsChainAfter g (done ++ pass.attributes) stages

-- the chain of passes of a grammar
abbrev pub IsChain : AttributeGrammar → Schedule → Type 0
IsChain g s = IsChainAfter g [] s

-- the automatic schedule: the chain, where it takes each computed attribute
pub record IsAutomatic (g : AttributeGrammar) (s : Schedule) : Type 0 where
  pub chain : IsChain g s
  pub whole : (a : ℕ) → IsComputed g a → Contains (entries s) a

-- the computed attributes that a schedule has not, in the order of their numbers
pub record IsLeft (g : AttributeGrammar) (s : Schedule) (left : List ℕ) : Type 0 where
  pub distinct : AreDistinct left
  pub ascending : NoneFalls (λ a. a) left
  pub computed : (a : ℕ) → Contains left a → IsComputed g a
  pub left_out : (a : ℕ) → Contains left a → Contains (entries s) a → ⊥
  pub whole : (a : ℕ) → IsComputed g a → Contains (entries s) a ⊎ Contains left a

-- there is no automatic schedule: the chain ends and leaves these attributes
pub record IsStuck (g : AttributeGrammar) (left : List ℕ) : Type 0 where
  pub passes : Schedule
  pub chain : IsChain g passes
  pub is_left : IsLeft g passes left
  pub some : left ≢ []

-- some schedule is ordered, of any stages and passes
abbrev pub SomeScheduleIsOrdered : AttributeGrammar → Type 0
SomeScheduleIsOrdered g = (s : Schedule) × IsOrdered g s
