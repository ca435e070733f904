-- A lawful grammar is noncircular, or has one first circular vertex.
use Rattle.std.proofs.Common.{◌≡◌, ◌≢◌, inl, inr, ⊎_elim, refl, sym, ap, ◌∙◌, ℕ, Option, Some, None, Result, Ok, Err}
use Rattle.std.proofs.lemmas.Bool.{cases_order}
use Rattle.ftl_deps.specs.reads.Meant.{meant}
use Rattle.ftl_meaning.specs.faults.Checked.{CheckedGrammar}
use Rattle.ftl_model.specs.layout.AttributeGrammar.{AttributeGrammar}
use Rattle.ftl_noncircular.specs.grammars.FirstCircular.{IsDecided, IsEarlier, IsFirstCircular}
use Rattle.ftl_noncircular.specs.grammars.Noncircular.{IsNoncircular, Vertex, of_child, of_self}
use Rattle.ftl_noncircular.specs.search.Circles.{TellsCircles, vertex_at}
use Rattle.ftl_noncircular.specs.declared.search.fault.CircularFault.{CircularFault}
use Rattle.ftl_noncircular.specs.declared.search.fault.CircularFault.TheVariants.{Circular, OutOfMemory}
use Rattle.ftl_answer.specs.refusals.CircularLines.{circular_line}
use Rattle.ftl_answer.specs.answers.Answer.{refused}
use Rattle.ftl_answer.specs.answers.Texts.{noncircular_grammar}
use Rattle.ftl_answer.proofs.answers.Ones.{HasOne, result_one}

-- ---- first circular vertices

module _ (g : AttributeGrammar) where
  -- the first of two first ones that comes earlier
  none_earlier : (k : ℕ) (v : Vertex) (l : ℕ) (w : Vertex) → IsFirstCircular g k v → IsFirstCircular g l w
      → IsEarlier k v l w → ⊥
  none_earlier k v l w p q before = q.first k v p.known p.vertex before p.circular

  abbrev Is : ℕ → Option ℕ → ℕ → Type 0
  Is k c a = IsFirstCircular g k (vertex_at c a)

  -- of one class
  same_place : (k l : ℕ) → k ≡ l → (c d : Option ℕ) (a b : ℕ) → Is k c a → Is l d b → (c ≡ d) × (a ≡ b)
  same_place k l e None None a b p q =
      ⊎_elim (λ same. (refl, same))
      (⊎_elim (λ less. absurd (none_earlier k (of_self a) l (of_self b) p q (inr (e, less))))
      (λ more. absurd (none_earlier l (of_self b) k (of_self a) q p (inr (sym e, more)))))
      (cases_order a b)
  same_place k l e None (Some d) a b p q =
      absurd (none_earlier k (of_self a) l (of_child d b) p q (inr (e, tt)))
  same_place k l e (Some c) None a b p q =
      absurd (none_earlier l (of_self b) k (of_child c a) q p (inr (sym e, tt)))
  same_place k l e (Some c) (Some d) a b p q =
      ⊎_elim
      (λ child.
      ⊎_elim (λ same. (ap (λ n. Some n) child, same))
      (⊎_elim (λ less. absurd (none_earlier k (of_child c a) l (of_child d b) p q (inr (e, inr (child, less)))))
      (λ more. absurd (none_earlier l (of_child d b) k (of_child c a) q p (inr (sym e, inr (sym child, more))))))
      (cases_order a b))
      (⊎_elim (λ less. absurd (none_earlier k (of_child c a) l (of_child d b) p q (inr (e, inl less))))
      (λ more. absurd (none_earlier l (of_child d b) k (of_child c a) q p (inr (sym e, inl more)))))
      (cases_order c d)

  same_fault : (k l : ℕ) (c d : Option ℕ) (a b : ℕ) → k ≡ l → (c ≡ d) × (a ≡ b) → Circular k c a ≡ Circular l d b
  same_fault k l c d a b class (child, attribute) =
      ap (λ n. Circular n c a) class ∙ (ap (λ o. Circular l o a) child ∙ ap (λ n. Circular l d n) attribute)

  -- two are one
  one_first : (k l : ℕ) (c d : Option ℕ) (a b : ℕ) → Is k c a → Is l d b → Circular k c a ≡ Circular l d b
  one_first k l c d a b p q =
      ⊎_elim (λ class. same_fault k l c d a b class (same_place k l class c d a b p q))
      (⊎_elim (λ less. absurd (none_earlier k (vertex_at c a) l (vertex_at d b) p q (inl less)))
      (λ more. absurd (none_earlier l (vertex_at d b) k (vertex_at c a) q p (inl more))))
      (cases_order k l)

-- ---- what is told of a grammar

module _ (c : CheckedGrammar) where
  abbrev Told : Result CheckedGrammar CircularFault → Type 0
  Told = TellsCircles c

  -- the failure, as a result of these types
  abbrev failed : CircularFault → Result CheckedGrammar CircularFault
  failed e = Err e

  abbrev Other : Type 0
  Other = (answer : Result CheckedGrammar CircularFault) × (answer ≢ failed OutOfMemory) × Told answer

  of_vertex : (class : ℕ) (v : Vertex) → IsFirstCircular (meant c) class v → Other
  of_vertex class (of_self a) first = (Err (Circular class None a), λ e. absurd cc, first)
  of_vertex class (of_child d a) first = (Err (Circular class (Some d) a), λ e. absurd cc, first)

  some_told : IsDecided (meant c) → Other
  some_told (inl none) = (Ok c, λ e. absurd cc, (refl, none))
  some_told (inr (class, v, first)) = of_vertex class v first

  not_both : (k : ℕ) (v : Vertex) → IsNoncircular (meant c) → IsFirstCircular (meant c) k v → ⊥
  not_both k v none first = none k v first.known first.vertex first.circular

  any_two_told : (one other : Result CheckedGrammar CircularFault) → one ≢ failed OutOfMemory
      → other ≢ failed OutOfMemory → Told one → Told other → one ≡ other
  any_two_told (Ok k) (Ok l) one other p q = ap (λ x. Ok x) (p.0 ∙ sym q.0)
  any_two_told (Ok k) (Err (Circular class child a)) one other p q =
      absurd (not_both class (vertex_at child a) p.1 q)
  any_two_told (Ok k) (Err OutOfMemory) one other p q = absurd (other refl)
  any_two_told (Err (Circular class child a)) (Ok l) one other p q =
      absurd (not_both class (vertex_at child a) q.1 p)
  any_two_told (Err OutOfMemory) (Ok l) one other p q = absurd (one refl)
  any_two_told (Err (Circular k d a)) (Err (Circular l e b)) one other p q =
      ap failed (one_first (meant c) k l d e a b p q)
  any_two_told (Err (Circular k d a)) (Err OutOfMemory) one other p q = absurd (other refl)
  any_two_told (Err OutOfMemory) (Err e) one other p q = absurd (one refl)

  pub noncircular_one : IsDecided (meant c) → HasOne (noncircular_grammar c)
  noncircular_one decided =
      result_one OutOfMemory (λ fault. refused 5 (circular_line c.grammar fault)) Told (some_told decided) any_two_told
