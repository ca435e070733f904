-- One list of a kind, one chain, and one list of attributes that are left.
use Rattle.std.proofs.Common.{◌≡◌, ℕ, Bool, true, false, leb, if◌then◌else◌, refl, sym, ◌∙◌, ap, ap₂, subst}
use Rattle.std.proofs.Common.{⊎_elim, arith, leb-false, List, [], ◌∷◌, ◌++◌, length, Contains}
use Rattle.ftl_model.proofs.lists.Elements.{here_in}
use Rattle.ftl_model.specs.layout.AttributeGrammar.{AttributeGrammar}
use Rattle.ftl_order.specs.orders.Schedule.{Pass, PassKind, Schedule, bottomup, entries, inorder, topdown}
use Rattle.ftl_order.specs.automatic.Automatic.{IsAutomatic, IsChain, IsChainAfter, IsLeft, IsNext, IsStuck, chosen, pass_of_kind}
use Rattle.ftl_order.specs.automatic.Fitting.{Fits, HasAll, IsListOf}
use Rattle.ftl_order.proofs.automatic.Lists.{at_most_both, same_numbers}

pub one_list : (g : AttributeGrammar) (kind : PassKind) (done xs ys : List ℕ) → IsListOf g kind done xs
    → IsListOf g kind done ys → xs ≡ ys
one_list g kind done xs ys x y =
    at_most_both xs ys (x.least ys y.fits (y.largest xs x.fits)) (y.least xs x.fits (x.largest ys y.fits))

module _ (g : AttributeGrammar) where
  one_next : (done : List ℕ) (p q : Pass) → IsNext g done p → IsNext g done q → p ≡ q
  one_next done p q x y =
      x.is
      ∙ ap₂ (λ a b. chosen a b x.in_order) (one_list g topdown done x.down y.down x.is_down y.is_down)
      (one_list g bottomup done x.up y.up x.is_up y.is_up)
      ∙ ap (chosen y.down y.up) (one_list g inorder done x.in_order y.in_order x.is_in_order y.is_in_order)
      ∙ sym y.is

  pub one_chain_after : (done : List ℕ) (s t : Schedule) → IsChainAfter g done s → IsChainAfter g done t → s ≡ t
  one_chain_after done [] [] h k = refl
  one_chain_after done [] (q ∷ t) h k =
      absurd (k.3 (ap (λ (p : Pass). p.attributes) (one_next done k.0 h.0 k.2 h.1) ∙ h.2))
  one_chain_after done (p ∷ s) [] h k =
      absurd (h.3 (ap (λ (p : Pass). p.attributes) (one_next done h.0 k.0 h.2 k.1) ∙ k.2))
  one_chain_after done (p ∷ s) (q ∷ t) h k =
      let same = one_next done h.0 k.0 h.2 k.2 in
      ap₂ (λ x y. x ∷ y) (h.1 ∙ ap (λ x. x ∷ []) same ∙ sym k.1)
      (one_chain_after (done ++ h.0.attributes) s t h.4
      (subst (λ (x : Pass). IsChainAfter g (done ++ x.attributes) t) (sym same) k.4))

pub one_chain : (g : AttributeGrammar) (s t : Schedule) → IsChain g s → IsChain g t → s ≡ t
one_chain g s t = one_chain_after g [] s t

pub one_automatic : (g : AttributeGrammar) (s t : Schedule) → IsAutomatic g s → IsAutomatic g t → s ≡ t
one_automatic g s t h k = one_chain g s t h.chain k.chain

left_has : (g : AttributeGrammar) (s : Schedule) (xs ys : List ℕ) → IsLeft g s xs → IsLeft g s ys → HasAll xs ys
left_has g s xs ys h k a in_y =
    ⊎_elim (λ old. absurd (k.left_out a in_y old)) (λ new. new) (h.whole a (k.computed a in_y))

pub one_left : (g : AttributeGrammar) (xs ys : List ℕ) → IsStuck g xs → IsStuck g ys → xs ≡ ys
one_left g xs ys h k =
    let same = one_chain g k.passes h.passes k.chain h.chain in
    let other = subst (λ s. IsLeft g s ys) same k.is_left in
    same_numbers xs ys (record { distinct = h.is_left.distinct; ascending = h.is_left.ascending })
    (record { distinct = k.is_left.distinct; ascending = k.is_left.ascending })
    (left_has g h.passes xs ys h.is_left other) (left_has g h.passes ys xs other h.is_left)

pub not_both : (g : AttributeGrammar) (s : Schedule) (left : List ℕ) → IsAutomatic g s → IsStuck g left → ⊥
not_both g s [] h k = k.some refl
not_both g s (a ∷ left) h k =
    let same = one_chain g s k.passes h.chain k.chain in
    k.is_left.left_out a (here_in a left)
    (subst (λ t. Contains (entries t) a) same (h.whole a (k.is_left.computed a (here_in a left))))

-- ---- the pass that is chosen

chosen_fits : (g : AttributeGrammar) (done down up in_order : List ℕ) → Fits g topdown done down
    → Fits g bottomup done up → Fits g inorder done in_order
    → Fits g (chosen down up in_order).kind done (chosen down up in_order).attributes
chosen_fits g done [] [] in_order d u i = i
chosen_fits g done [] (b ∷ up) in_order d u i = u
chosen_fits g done (a ∷ down) up in_order d u i = by (leb (length up) (length (a ∷ down)))
  where
    by : (t : Bool)
        → Fits g (if t then pass_of_kind topdown (a ∷ down) else pass_of_kind bottomup up).kind done
        (if t then pass_of_kind topdown (a ∷ down) else pass_of_kind bottomup up).attributes
    by true = d
    by false = u

pub next_fits : (g : AttributeGrammar) (done : List ℕ) (pass : Pass) → IsNext g done pass
    → Fits g pass.kind done pass.attributes
next_fits g done pass h =
    subst (λ (p : Pass). Fits g p.kind done p.attributes) (sym h.is)
    (chosen_fits g done h.down h.up h.in_order h.is_down.fits h.is_up.fits h.is_in_order.fits)

-- the three lists are empty
pub record AllEmpty (down up in_order : List ℕ) : Type 0 where
  pub down_empty : down ≡ []
  pub up_empty : up ≡ []
  pub in_order_empty : in_order ≡ []

no_entry : {X : Type 0} (a : ℕ) (xs : List ℕ) → a ∷ xs ≡ [] → X
no_entry a xs e = let z : ⊥ = grind (arith, e) in absurd z

pub chosen_empty : (down up in_order : List ℕ) → (chosen down up in_order).attributes ≡ [] → AllEmpty down up in_order
chosen_empty [] [] in_order e = record { down_empty = refl; up_empty = refl; in_order_empty = e }
chosen_empty [] (b ∷ up) in_order e = no_entry b up e
chosen_empty (a ∷ down) up in_order e = by (leb (length up) (length (a ∷ down))) refl e
  where
    by : (t : Bool) → leb (length up) (length (a ∷ down)) ≡ t
        → (if t then pass_of_kind topdown (a ∷ down) else pass_of_kind bottomup up).attributes ≡ []
        → AllEmpty (a ∷ down) up in_order
    by true is e = no_entry a down e
    by false is e =
        let more = leb-false (length up) (length (a ∷ down)) is in
        let few : length up ≡ 0 = ap length e in
        absurd (let z : ⊥ = omega (arith, more, few) in z)
