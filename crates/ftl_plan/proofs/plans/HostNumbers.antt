-- The host classes of the passes of stages, among some.
use Rattle.std.proofs.Common.{◌≡◌, ℕ, ◌+◌, ◌<◌, ◌∙◌, ap, subst, sym, arith, Option, None, Some, List, ◌∷◌, get_or, length, map, take, Contains}
use Rattle.std.specs.List.{All}
use Rattle.std.proofs.lemmas.List.{get_or-map, length-map, map_more, take_more}
use Rattle.std.proofs.lemmas.List.Elements.{All-from_get_or, All-get_or, All-push}
use Rattle.ftl_model.proofs.lists.Elements.{here_in, later_in}
use Rattle.ftl_nest_check.specs.declared.stages.types.NestingPass.{NestingPass}
use Rattle.ftl_nest_check.specs.declared.stages.types.NestingStage.{NestingStage}
use Rattle.ftl_plan.specs.plans.PlannedStages.{AreHostsAmong, HasAll, HasHost, HasHosts, pass_host, pass_hosts}
use Rattle.ftl_plan.proofs.plans.FewPasses.{no_stage}

-- none, and then these
abbrev pub all_hosts : List ℕ → List (Option ℕ)
all_hosts hosts = None ∷ map Some hosts

-- a host class among these is one of them
host_among : (hosts : List ℕ) (h : Option ℕ) → HasHost hosts h → Contains (all_hosts hosts) h
host_among hosts None has = here_in None (map Some hosts)
host_among hosts (Some a) has =
    let below = has.1 in
    later_in None (Some a) (map Some hosts) (
      has.0,
      (let long = length-map hosts Some in let z : has.0 < length (map Some hosts) = omega (arith, below, long) in z),
      get_or-map Some hosts has.0 a (Some a) below ∙ ap Some has.2,
    )

pub hosts_among : (hosts : List ℕ) (stages : List NestingStage) → All (HasHosts hosts) stages
    → All (AreHostsAmong (all_hosts hosts)) stages
hosts_among hosts stages all =
    All-from_get_or (AreHostsAmong (all_hosts hosts)) stages no_stage
    (λ i below.
    let these = pass_hosts (get_or stages i no_stage).passes in
    let here = All-get_or (HasHosts hosts) stages i no_stage below all in
    All-from_get_or (Contains (all_hosts hosts)) these None
    (λ m known. host_among hosts (get_or these m None) (All-get_or (HasHost hosts) these m None known here)))

-- ---- where more come

more : (old new : List ℕ) → HasAll old new → (h : Option ℕ) → HasHost old h → HasHost new h
more old new has None there = tt
more old new has (Some a) there = has a there

all_more : (old new : List ℕ) → HasAll old new → (hs : List (Option ℕ)) → All (HasHost old) hs → All (HasHost new) hs
all_more old new has hs all =
    All-from_get_or (HasHost new) hs None
    (λ i below. more old new has (get_or hs i None) (All-get_or (HasHost old) hs i None below all))

-- one more pass
pub pass_more : (old new : List ℕ) → HasAll old new → (passes : List NestingPass) (n : ℕ) (p : NestingPass)
    → n < length passes → p ≡ get_or passes n p → All (HasHost old) (pass_hosts (take n passes))
    → HasHost new (pass_host p) → All (HasHost new) (pass_hosts (take (n + 1) passes))
pass_more old new has passes n p below here all there =
    subst (All (HasHost new)) (sym (map_more pass_host passes n p below))
    (All-push (HasHost new) (pass_hosts (take n passes)) (pass_host (get_or passes n p))
    (all_more old new has (pass_hosts (take n passes)) all)
    (subst (λ (q : NestingPass). HasHost new (pass_host q)) here there))

-- one more stage
pub stage_more : (old new : List ℕ) → HasAll old new → (stages : List NestingStage) (n : ℕ) (s : NestingStage)
    → n < length stages → s ≡ get_or stages n s → All (HasHosts old) (take n stages) → HasHosts new s
    → All (HasHosts new) (take (n + 1) stages)
stage_more old new has stages n s below here all there =
    subst (All (HasHosts new)) (sym (take_more stages n s below))
    (All-push (HasHosts new) (take n stages) (get_or stages n s)
    (All-from_get_or (HasHosts new) (take n stages) no_stage
    (λ i known.
    all_more old new has (pass_hosts (get_or (take n stages) i no_stage).passes)
    (All-get_or (HasHosts old) (take n stages) i no_stage known all)))
    (subst (HasHosts new) here there))
