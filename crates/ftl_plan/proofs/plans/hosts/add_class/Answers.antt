use Rattle.std.proofs.Common.{[], ◌∷◌, List, ℕ, Contains, subst, sym}
use Rattle.std.proofs.lemmas.List.Elements.{Contains-append_left, Contains-append_right}
use Rattle.ftl_model.proofs.lists.Elements.{here_in}
use Rattle.ftl_plan.proofs.plans.hosts.add_class.Goals as goal

pub returns-then-is_among : goal.returns-then-is_among
returns-then-is_among c = record {
  kept = λ a there. there;
  class = subst (λ (xs : List ℕ). Contains xs c.args.class) c.as_slice.ensures.value (c.is_among.ensures.among c.if-is_among.true);
}

pub returns : goal.returns
returns c =
    let old = c.args.hosts.now.items in
    let new = c.args.class in
    let grown = sym c.in_ok-push.ensures.items in
    record {
      kept = λ a there.
          subst (λ (xs : List ℕ). Contains xs a) grown (Contains-append_left old (new ∷ []) a there);
      class =
          subst (λ (xs : List ℕ). Contains xs new) grown
          (Contains-append_right old (new ∷ []) new (here_in new []));
    }
