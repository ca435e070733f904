use Rattle.ftl_regions.proofs.hosts.laws.kept_sides.Goals as goal

pub returns : goal.returns
returns c = record {
  kept = λ g attributes nest. (
    (λ h. (h.closed, h.own, h.inner)),
    (λ h. record { closed = h.0; own = h.1; inner = h.2 }),
  );
}
