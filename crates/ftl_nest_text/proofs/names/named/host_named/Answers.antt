use Rattle.std.proofs.Common.{◌≡◌, ◌↔◌, Bool, true, if◌then◌else◌, Some, Ok, Err, ap, subst, sym, ◌∙◌}
use Rattle.ftl_deps.specs.reads.Meant.{meant}
use Rattle.ftl_grammar.specs.syntax.Trees.{NameText}
use Rattle.ftl_meaning.specs.faults.Checked.{CheckedGrammar, class_named}
use Rattle.ftl_nests.specs.Region.{IsClosed}
use Rattle.ftl_schedule.specs.declared.names.fault.ScheduleFault.TheVariants.{OpenNest}
use Rattle.ftl_nest_text.specs.names.RegionTests.{region_tests}
use Rattle.ftl_nest_text.proofs.names.CheckedTests.{host_told, told}
use Rattle.ftl_nest_text.proofs.names.named.host_named.Goals as goal

pub returns-then-is_closed-clause-exact : goal.returns-then-is_closed-clause-exact
returns-then-is_closed-clause-exact c =
    let checked = c.args.checked.now in
    let nest = c.args.nest.now in
    let is : class_named checked.grammar nest.host ≡ Some c.in-Some.host =
    ap (class_named checked.grammar) (sym c.text.ensures.text) ∙ sym c.find_class.ensures.class ∙ c.in-Some.is in
    let closed : (c.is_closed.result ≡ true) ↔ IsClosed (meant checked) c.in-Some.host =
    subst (λ (x : CheckedGrammar). (c.is_closed.result ≡ true) ↔ IsClosed (meant x) c.in-Some.host) c.requires.regions
    c.is_closed.ensures.closed in
    host_told checked (region_tests (meant checked))
    (told checked c.grammar-lawful.ensures.lawful c.grammar-lawful.ensures.kinds) nest c.in-Some.host c.is_closed.result
    is closed
    ∙ ap (λ (b : Bool). if b then Ok c.in-Some.host else Err (OpenNest nest.host)) c.if-is_closed.true

pub returns-in_ok-host-clause-exact : goal.returns-in_ok-host-clause-exact
returns-in_ok-host-clause-exact c =
    let checked = c.args.checked.now in
    let nest = c.args.nest.now in
    let is : class_named checked.grammar nest.host ≡ Some c.in-Some.host =
    ap (class_named checked.grammar) (sym c.text.ensures.text) ∙ sym c.find_class.ensures.class ∙ c.in-Some.is in
    let closed : (c.is_closed.result ≡ true) ↔ IsClosed (meant checked) c.in-Some.host =
    subst (λ (x : CheckedGrammar). (c.is_closed.result ≡ true) ↔ IsClosed (meant x) c.in-Some.host) c.requires.regions
    c.is_closed.ensures.closed in
    λ other.
    host_told checked (region_tests (meant checked))
    (told checked c.grammar-lawful.ensures.lawful c.grammar-lawful.ensures.kinds) nest c.in-Some.host c.is_closed.result
    is closed
    ∙ ap (λ (b : Bool). if b then Ok c.in-Some.host else Err (OpenNest nest.host)) c.if-is_closed.false
    ∙ ap (λ (h : NameText). Err (OpenNest h)) (sym c.in_ok-host.ensures.text)
