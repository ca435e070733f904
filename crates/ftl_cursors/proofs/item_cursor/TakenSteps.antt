-- A cursor over steps, by what is left of them.
use Rattle.std.proofs.Common.{◌≡◌, ℕ, ◌+◌, ◌<◌, List, [], ◌∷◌, drop, get_or, length, MatchOption, Option, Some, None, sym, ◌∙◌, ap, add-one}
use Rattle.std.proofs.Math.Seq.{drop-cons}
use Rattle.ftl_order.specs.declared.steps.step.Step.{Step}
use Rattle.ftl_cursors.specs.item_cursor.ItemSteps.{no_step}

-- where there is one more, it is taken
pub record Taken (xs : List Step) (k : ℕ) (o : Option Step) (rest : List Step) : Type 0 where
  pub is : o ≡ Some (get_or xs k no_step)
  pub left : rest ≡ drop (k + 1) xs

pub taken : (xs : List Step) (k : ℕ) (o : Option Step) (now rest : List Step) → k < length xs → now ≡ drop k xs
    → MatchOption o ((now ≡ []) × (rest ≡ [])) (λ x. now ≡ x ∷ rest)
    → Taken xs k o rest
taken xs k o now rest within is next = by o next
  where
    first : now ≡ get_or xs k no_step ∷ drop (k + 1) xs
    first = is ∙ drop-cons xs k no_step within ∙ ap (λ n. get_or xs k no_step ∷ drop n xs) (sym (add-one k))

    by : (o : Option Step) → MatchOption o ((now ≡ []) × (rest ≡ [])) (λ x. now ≡ x ∷ rest) → Taken xs k o rest
    by None h = absurd (let z : get_or xs k no_step ∷ drop (k + 1) xs ≡ [] = sym first ∙ h.0 in let y : ⊥ = cc in y)
    by (Some x) h =
        let z : get_or xs k no_step ∷ drop (k + 1) xs ≡ x ∷ rest = sym first ∙ h in
        record { is = cc; left = cc }
