-- One key more.
use Rattle.std.proofs.Common.{◌≡◌, ◌⊎◌, ℕ, ◌+◌, ◌<◌, Contains, sym, subst, inl, inr, ⊎_elim, arith}
use Rattle.std.proofs.lemmas.Bool.{cases_lt}
use Rattle.ftl_deps.specs.reads.Products.{name_of_info}
use Rattle.ftl_model.specs.layout.Path.{node_at}
use Rattle.ftl_order.specs.steps.Steps.{target_of_rule}
use Rattle.ftl_relayout.specs.keys.Keys.{key_of}
use Rattle.ftl_relayout.specs.readers.Sites.{IsKeyOfKid, site_grammar, site_placing}
use Rattle.ftl_relayout.proofs.readers.Inserts.{adds_both, adds_one, adds_same}
use Rattle.ftl_relayout.proofs.readers.add.add_kids.Goals as goal

at_most : (m n : ℕ) → m < n + 1 → (m < n) ⊎ (m ≡ n)
at_most m n h = ⊎_elim (λ less. inl less) (λ more. inr (let e : m ≡ n = omega (arith, h, more) in e)) (cases_lt m n)

pub loop-kid-preserved : goal.loop-kid-preserved
loop-kid-preserved c =
    let x = c.args.site.now in
    let e = c.args.reader.now in
    let kid = c.loop-kid.kid in
    let ks = c.loop-kid.waiting.keys in
    let after = c.insert.new.self.keys in
    let key = c.step_key-key.result in
    let K = λ (n : ℕ). key_of (site_grammar x) (site_placing x) x.tree.now.tree
    (target_of_rule (node_at x.tree.now.tree c.args.node) (name_of_info e.info) n) in
    let P = IsKeyOfKid x c.args.node e c.args.kids in
    let here = c.step_key-key.ensures.key in
    let least = c.loop-kid.auto.kid in
    let below = c.loop-kid-test.true in
    let i = c.in_ok-insert.ensures.inserted in
    let one : P key = record { number = kid; least = least; below = below; key_is = sym here } in
    record {
      adds =
          adds_both c.args.waiting.now.keys ks after P P c.loop-kid.invariant.adds (λ k h. h) (adds_one ks after key P i one);
      all = λ n from to.
          ⊎_elim (λ less. i.keeps (K n) (c.loop-kid.invariant.all n from less))
          (λ same. subst (λ (m : ℕ). Contains after (K m)) (sym same) (subst (Contains after) here i.has))
          (at_most n kid to);
    }

pub returns-clause-all : goal.returns-clause-all
returns-clause-all c = λ k h.
    let past = c.loop-kid-test.false in
    let below = h.below in
    subst (Contains c.loop-kid.waiting.keys) h.key_is
    (c.loop-kid.invariant.all h.number h.least (omega (arith, past, below)))

pub returns-in_err-insert-clause-adds : goal.returns-in_err-insert-clause-adds
returns-in_err-insert-clause-adds c =
    adds_same c.args.waiting.now.keys c.loop-kid.waiting.keys c.insert.new.self.keys
    (IsKeyOfKid c.args.site.now c.args.node c.args.reader.now c.args.kids) (sym c.in_err-insert.ensures.stays)
    c.loop-kid.invariant.adds
