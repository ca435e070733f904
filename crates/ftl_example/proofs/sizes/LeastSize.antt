-- The rounds give the least sizes.
use Rattle.std.proofs.Common.{◌≡◌, ℕ, suc, ◌+◌, ◌≤◌, refl, sym, ◌∙◌, subst, arith, Option, None, Some}
use Rattle.ftl_model.specs.layout.Tree.{Forest, none, tree, size}
use Rattle.ftl_model.specs.layout.AttributeGrammar.{AttributeGrammar}
use Rattle.ftl_model.specs.layout.TreeOf.{IsTreeIn}
use Rattle.ftl_example.specs.shows.Bare.{bare_inputs}
use Rattle.ftl_example.specs.sizes.Least.{least, HasInterfaces, RoundsGiveLeast}
use Rattle.ftl_example.proofs.sizes.Built.{Node, built}
use Rattle.ftl_example.proofs.sizes.Fewest.{fewest}

module _ (g : AttributeGrammar) where
  tree_of : (i n : ℕ) → Node g i n → (t : Forest) × IsTreeIn g i t × (size t ≡ n)
  tree_of i n node = (
    tree node.class 0 (bare_inputs g node.class) node.below none,
    (node.interface, node.fits, node.fit_below, refl, refl),
    (let e = node.nodes in let z : suc (size node.below + 0) ≡ n = omega (arith, e) in z),
  )

  at_least : (count i : ℕ) → HasInterfaces g count → (t : Forest) → IsTreeIn g i t
      → (m : ℕ) × (least g count i ≡ Some m) × (m ≤ size t)
  at_least count i known none h = absurd h
  at_least count i known (tree k d inputs b s) h =
      let f = fewest g count known k inputs b h.1 h.2 in
      (f.0, subst (λ j. least g count j ≡ Some f.0) h.0 f.1, (let l = f.2 in omega (arith, l)))

  some_same : (a b : ℕ) → Some a ≡ Some b → a ≡ b
  some_same a b e = grind arith

  some_or_none : (count i : ℕ) (o : Option ℕ) → least g count i ≡ o → ((t : Forest) → IsTreeIn g i t → ⊥) → least g count i ≡ None
  some_or_none count i None e never = e
  some_or_none count i (Some n) e never = let t = tree_of i n (built g count i n e) in absurd (never t.0 t.1)

  pub rounds_give_least : RoundsGiveLeast g
  rounds_give_least count i known = (
    (λ n e. (
      tree_of i n (built g count i n e),
      (λ t h. let l = at_least count i known t h in
          let same = some_same n l.0 (sym e ∙ l.1) in let m = l.2 in omega (arith, same, m)),
    )),
    (
      (λ e t h. let l = at_least count i known t h in let f : None ≡ Some l.0 = sym e ∙ l.1 in let z : ⊥ = grind arith in z),
      (λ never. some_or_none count i (least g count i) refl never),
    ),
  )
