-- What the host of a nest comes from.
use Rattle.std.proofs.Common.{◌≡◌, ℕ, Bool, true, false, cond, refl, subst, Option, Some, None, Result, Ok, Err}
use Rattle.ftl_grammar.specs.declared.syntax.rules.Grammar.{Grammar}
use Rattle.ftl_meaning.specs.faults.Checked.{class_named}
use Rattle.ftl_schedule.specs.declared.names.fault.ScheduleFault.{ScheduleFault}
use Rattle.ftl_schedule.specs.declared.names.fault.ScheduleFault.TheVariants.{OpenNest}
use Rattle.ftl_schedule.proofs.names.NamedParts.{same_Ok}
use Rattle.ftl_nest_text.specs.declared.syntax.types.WrittenNest.{WrittenNest}
use Rattle.ftl_nest_text.specs.names.RegionTests.{RegionTests}
use Rattle.ftl_nest_text.specs.names.NestNamed.{closed_host, host_named}

-- it is the class of the name, and the nest is closed
pub record IsHostOf (tests : RegionTests) (g : Grammar) (nest : WrittenNest) (host : ℕ) : Type 0 where
  pub named : class_named g nest.host ≡ Some host
  pub closed : tests.is_closed host ≡ true

pub host_from : (tests : RegionTests) (g : Grammar) (nest : WrittenNest) (host : ℕ)
    → host_named tests g nest ≡ Ok host → IsHostOf tests g nest host
host_from tests g nest host e = by_class (class_named g nest.host) refl e
  where
    by_test : (k : ℕ) → class_named g nest.host ≡ Some k → (b : Bool) → tests.is_closed k ≡ b
        → (let r : Result ℕ ScheduleFault = cond b (Ok k) (Err (OpenNest nest.host)) in r) ≡ Ok host
        → IsHostOf tests g nest host
    by_test k named true closed e =
        subst (IsHostOf tests g nest) (same_Ok k host e) (record { named = named; closed = closed })
    by_test k named false closed e = absurd (cc e)

    by_class : (o : Option ℕ) → class_named g nest.host ≡ o → closed_host tests nest o ≡ Ok host
        → IsHostOf tests g nest host
    by_class None named e = absurd (cc e)
    by_class (Some k) named e = by_test k named (tests.is_closed k) refl e
