-- What reads are of neighbours, read by read.
use Rattle.std.proofs.Common.{◌≡◌, List, [], ◌∷◌, ◌++◌, Option, Some, None, refl, ap, append_assoc}
use Rattle.std.proofs.lemmas.Option.{none-some, same_Some}
use Rattle.ftl_step_value.specs.neighbours.NeighbourParts.{with_first}
use Rattle.ftl_step_value.specs.declared.neighbours.reads.NeighbourRead.{NeighbourRead}

-- these in front of the others, if there are others
abbrev pub after : List NeighbourRead → Option (List NeighbourRead) → Option (List NeighbourRead)
after front None = None
after front (Some ns) = Some (front ++ ns)

pub after_nothing : (ns : Option (List NeighbourRead)) → after [] ns ≡ ns
after_nothing None = refl
after_nothing (Some ns) = refl

-- one more of them
pub after_one : (front : List NeighbourRead) (n : NeighbourRead) (rest : Option (List NeighbourRead))
    → after (front ++ n ∷ []) rest ≡ after front (with_first (Some n) rest)
after_one front n None = refl
after_one front n (Some ns) = ap Some (append_assoc front (n ∷ []) ns)

-- there are all where there is the first and the others
pub record IsWithFirst (first : Option NeighbourRead) (rest : Option (List NeighbourRead)) (ns : List NeighbourRead) : Type 0 where
  pub one : NeighbourRead
  pub others : List NeighbourRead
  pub first_is : first ≡ Some one
  pub rest_is : rest ≡ Some others
  pub all : one ∷ others ≡ ns

pub first_and_rest : (first : Option NeighbourRead) (rest : Option (List NeighbourRead)) (ns : List NeighbourRead)
    → with_first first rest ≡ Some ns → IsWithFirst first rest ns
first_and_rest None rest ns is = absurd (none-some ns is)
first_and_rest (Some n) None ns is = absurd (none-some ns is)
first_and_rest (Some n) (Some others) ns is =
    record { one = n; others = others; first_is = refl; rest_is = refl; all = same_Some (n ∷ others) ns is }
