-- There is a test of pairs that is closed and has none but those of the least family: pairs are added one by one, each
-- from a list of those that may be, until no walk asks for another.
use Rattle.std.proofs.Common.{◌≡◌, ◌⊎◌, ℕ, zero, suc, ◌≤◌, ◌==◌, Bool, true, false, if◌then◌else◌, refl, sym, subst, inl, inr, ⊎_elim, arith, eqb-true, eq-eqb, List, flat_map, map, length, Contains}
use Rattle.std.specs.List.{range_with_len}
use Rattle.ftl_model.specs.layout.AttributeGrammar.{AttributeGrammar}
use Rattle.ftl_model.proofs.lists.Elements.{flat_map_has, range_has}
use Rattle.ftl_model.proofs.lists.Rising.{map_has}
use Rattle.ftl_order.proofs.automatic.Choices.{Decided, decided_both}
use Rattle.ftl_noncircular.specs.grammars.Noncircular.{Dependence, Edge, IsClosed, IsPort, family_of, of_self}
use Rattle.ftl_noncircular.specs.grammars.NoncircularLaws.{IsSound}
use Rattle.ftl_noncircular.specs.grammars.Walks.{Walk}
use Rattle.ftl_noncircular.proofs.grammars.Decisions.{decided_some}
use Rattle.ftl_noncircular.proofs.grammars.EdgesDecided.{decided_port, decided_walks}
use Rattle.ftl_noncircular.proofs.grammars.Found.{dependence_is_closed, walk_more}
use Rattle.ftl_noncircular.proofs.grammars.Walking.{left_fewer, left_has, left_without}

-- two attributes of a class's interface
record PortAt : Type 0 where
  class : ℕ
  from : ℕ
  to : ℕ

abbrev port_at : (class from to : ℕ) → PortAt
port_at k a b = record { class = k; from = a; to = b }

-- all of them
abbrev ports_of : List ℕ → (class : ℕ) → List PortAt
ports_of attributes k = flat_map (λ a. map (port_at k a) attributes) attributes

abbrev ports : AttributeGrammar → List PortAt
ports g = flat_map (λ k. ports_of (g.shared (g.interface k)) k) (range_with_len 0 g.class_count)

port_listed : (g : AttributeGrammar) (k a b : ℕ) → IsPort g k a b → Contains (ports g) (port_at k a b)
port_listed g k a b p =
    let known = p.known in
    flat_map_has (λ k. ports_of (g.shared (g.interface k)) k) (range_with_len 0 g.class_count) k (port_at k a b)
    (range_has 0 g.class_count k (omega arith) (omega (arith, known)))
    (flat_map_has (λ a. map (port_at k a) (g.shared (g.interface k))) (g.shared (g.interface k)) a (port_at k a b) p.from
    (map_has (port_at k a) (g.shared (g.interface k)) b p.to))

-- ---- one pair more

abbrev with_pair : (ℕ → ℕ → Bool) → (a b : ℕ) → ℕ → ℕ → Bool
with_pair has a b c d = if c == a then (if d == b then true else has c d) else has c d

pair_stands : (has : ℕ → ℕ → Bool) (a b : ℕ) → with_pair has a b a b ≡ true
pair_stands has a b = grind (arith, eq-eqb a a refl, eq-eqb b b refl)

pairs_stay : (has : ℕ → ℕ → Bool) (a b c d : ℕ) → has c d ≡ true → with_pair has a b c d ≡ true
pairs_stay has a b c d h = by (c == a) (d == b)
  where
    by : (s t : Bool) → (if s then (if t then true else has c d) else has c d) ≡ true
    by true true = refl
    by true false = h
    by false t = h

pair_cases : (has : ℕ → ℕ → Bool) (a b c d : ℕ) → with_pair has a b c d ≡ true
    → ((c ≡ a) × (d ≡ b)) ⊎ (has c d ≡ true)
pair_cases has a b c d h = by (c == a) (d == b) refl refl h
  where
    by : (s t : Bool) → (c == a) ≡ s → (d == b) ≡ t → (if s then (if t then true else has c d) else has c d) ≡ true
        → ((c ≡ a) × (d ≡ b)) ⊎ (has c d ≡ true)
    by true true e f h = inl (eqb-true c a e, eqb-true d b f)
    by true false e f h = inr h
    by false t e f h = inr h

module _ (g : AttributeGrammar) where
  -- what asks for a pair: a walk from one attribute to the other
  abbrev IsAsked : (ℕ → ℕ → Bool) → PortAt → Type 0
  IsAsked has p =
      IsPort g p.class p.from p.to × Walk (Edge g (family_of has) true p.class) (of_self p.from) (of_self p.to)

  decided_asked : (has : ℕ → ℕ → Bool) (p : PortAt) → Decided (IsAsked has p)
  decided_asked has p =
      decided_both (decided_port g p.class p.from p.to)
      (decided_walks g has true p.class (of_self p.from) (of_self p.to))

  -- each pair that may be is still in the list, or is there
  abbrev Covers : List PortAt → (ℕ → ℕ → Bool) → Type 0
  Covers rest has = (k a b : ℕ) → IsPort g k a b → Contains rest (port_at k a b) ⊎ (has a b ≡ true)

  abbrev HasClosed : Type 0
  HasClosed = (has : ℕ → ℕ → Bool) × IsSound g has × IsClosed g (family_of has)

  more_sound : (has : ℕ → ℕ → Bool) → IsSound g has → (p : PortAt) → IsAsked has p
      → IsSound g (with_pair has p.from p.to)
  more_sound has sound p asked c d h =
      ⊎_elim
      (λ same. subst (λ a. Dependence g a d) (sym same.0) (subst (Dependence g p.from) (sym same.1)
      (dependence_is_closed g p.class p.from p.to asked.0
      (walk_more g (family_of has) (Dependence g) sound true p.class (of_self p.from) (of_self p.to) asked.1))))
      (λ old. sound c d old)
      (pair_cases has p.from p.to c d h)

  covers_on : (has : ℕ → ℕ → Bool) (rest : List PortAt) (p : PortAt) (h : Contains rest p) → Covers rest has
      → Covers (left_without h.0 rest) (with_pair has p.from p.to)
  covers_on has rest p h covers k a b port =
      ⊎_elim
      (λ listed.
      ⊎_elim
      (λ same. inr (subst (λ q. with_pair has p.from p.to q.from q.to ≡ true) same (pair_stands has p.from p.to)))
      (λ left. inl left) (left_has h.0 rest p (port_at k a b) h.1 h.2 listed))
      (λ old. inr (pairs_stay has p.from p.to a b old))
      (covers k a b port)

  -- nothing asks for a pair
  at_end : (rest : List PortAt) (has : ℕ → ℕ → Bool) → IsSound g has → Covers rest has
      → ((p : PortAt) × Contains rest p × IsAsked has p → ⊥) → HasClosed
  at_end rest has sound covers none = (
    has,
    sound,
    λ k a b port walk.
        ⊎_elim (λ listed. absurd (none (port_at k a b, listed, (port, walk)))) (λ there. there) (covers k a b port),
  )

  closing : (n : ℕ) (rest : List PortAt) → length rest ≤ n → (has : ℕ → ℕ → Bool) → IsSound g has → Covers rest has
      → HasClosed
  closing zero rest few has sound covers =
      ⊎_elim
      (λ some. absurd
      (let h = some.1 in let one = left_fewer h.0 rest h.1 in let z : ⊥ = omega (arith, one, few) in z))
      (at_end rest has sound covers) (decided_some (IsAsked has) (decided_asked has) rest)
  closing (suc n) rest few has sound covers =
      ⊎_elim
      (λ some.
      let h = some.1 in
      let one = left_fewer h.0 rest h.1 in
      closing n (left_without h.0 rest) (omega (arith, one, few)) (with_pair has some.0.from some.0.to)
      (more_sound has sound some.0 some.2) (covers_on has rest some.0 h covers))
      (at_end rest has sound covers) (decided_some (IsAsked has) (decided_asked has) rest)

  pub closed_family : HasClosed
  closed_family =
      closing (length (ports g)) (ports g) (omega arith) (λ a b. false)
      (λ a b e. absurd (let z : ⊥ = grind (arith, e) in z)) (λ k a b p. inl (port_listed g k a b p))
