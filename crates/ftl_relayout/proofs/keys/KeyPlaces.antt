-- The places of attributes in keys, one after the other.
use Rattle.std.proofs.Common.{◌≡◌, ℕ, ◌+◌, ◌<◌, ap, sym, ◌∙◌, subst, ⊎_elim, arith, List, [], ◌∷◌, ◌++◌, length, get_or}
use Rattle.std.proofs.lemmas.Bool.{cases_lt}
use Rattle.std.proofs.lemmas.List.{get_or-append-add, get_or_append_left, length-append}
use Rattle.ftl_deps.specs.reads.Meant.{meant}
use Rattle.ftl_meaning.specs.faults.Checked.{CheckedGrammar}
use Rattle.ftl_model.specs.layout.Tree.{Forest}
use Rattle.ftl_schedule.specs.declared.stages.types.Schedule.{Schedule}
use Rattle.ftl_relayout.specs.declared.keys.places.KeyPlace.{KeyPlace}
use Rattle.ftl_relayout.specs.keys.KeyPlaces.{IsKeyPlace}
use Rattle.ftl_relayout.specs.keys.KeysHere.{placing}
use Rattle.ftl_relayout.specs.laws.TreeNets.{HasSmallKeys}

module _ (c : CheckedGrammar) (s : Schedule) where
  abbrev pub AreEach : List KeyPlace → Type 0
  AreEach xs = (a : ℕ) (d : KeyPlace) → a < length xs → IsKeyPlace c s a (get_or xs a d)

  pub each_more : (xs : List KeyPlace) (x : KeyPlace) → AreEach xs → IsKeyPlace c s (length xs) x
      → AreEach (xs ++ (x ∷ []))
  each_more xs x each last a d below =
      ⊎_elim
      (λ less. subst (IsKeyPlace c s a) (sym (get_or_append_left xs (x ∷ []) d a less)) (each a d less))
      (λ more.
      let long = length-append xs (x ∷ []) in
      let at : length xs + 0 ≡ a = omega (arith, long, more, below) in
      let is : get_or (xs ++ (x ∷ [])) a d ≡ x =
      ap (λ n. get_or (xs ++ (x ∷ [])) n d) (sym at) ∙ get_or-append-add xs (x ∷ []) 0 d in
      subst (IsKeyPlace c s a) (sym is)
      (subst (λ n. IsKeyPlace c s n x) (let z : length xs ≡ a = omega (arith, at) in z) last))
      (cases_lt a (length xs))

  -- what of a key is of the attribute alone is small
  pub stage_small : (t : Forest) → HasSmallKeys (meant c) (placing s) t → (a : ℕ) (x : KeyPlace) → IsKeyPlace c s a x
      → x.stage < 2097152
  stage_small t small a x is = let b = small.stages a in let e = is.stage in omega (arith, b, e)

  pub index_small : (t : Forest) → HasSmallKeys (meant c) (placing s) t → (a : ℕ) (x : KeyPlace) → IsKeyPlace c s a x
      → x.index < 2097152
  index_small t small a x is = let b = small.places a in let e = is.index in omega (arith, b, e)
