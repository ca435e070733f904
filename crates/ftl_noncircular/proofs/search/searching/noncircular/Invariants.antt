use Rattle.ftl_deps.specs.reads.Meant.{meant}
use Rattle.ftl_noncircular.proofs.search.searching.noncircular.Given as goal

abbrev pub ghost-first_circular : goal.ghost-first_circular
ghost-first_circular a = meant a.checked.now
