use Rattle.std.proofs.Common.{◌∙◌, sym, subst, inl, inr, ⊎_elim, false}
use Rattle.ftl_noncircular.specs.search.Shapes.{IsOwner, owner_at}
use Rattle.ftl_noncircular.proofs.search.CircleLaws.{either_true, of_class_has, of_class_is, true_either}
use Rattle.ftl_noncircular.proofs.search.circles.is_of_class.Goals as goal

pub returns : goal.returns
returns g c =
    let s = c.args.shape.now in
    let a = c.args.attr in
    let k = c.args.class in
    let shape = c.requires.0 in
    let known = c.requires.1.0 in
    let within = c.requires.1.1 in
    let interface = c.interface_of-interface.ensures.interface ∙ shape.classes.interfaces k known in
    record {
      of_class = (
        (λ e.
            of_class_has g.g s shape a within k known
            (⊎_elim (λ p. inl (c.is_owner.ensures.owner.0 p))
            (λ q. inr (subst (λ i. IsOwner false i (owner_at s a)) interface (c.is_owner-2.ensures.owner.0 q)))
            (either_true c.is_owner.result c.is_owner-2.result e))),
        (λ there.
            true_either c.is_owner.result c.is_owner-2.result
            (⊎_elim (λ p. inl (c.is_owner.ensures.owner.1 p))
            (λ q. inr (c.is_owner-2.ensures.owner.1 (subst (λ i. IsOwner false i (owner_at s a)) (sym interface) q)))
            (of_class_is g.g s shape a within k known there))),
      );
    }
