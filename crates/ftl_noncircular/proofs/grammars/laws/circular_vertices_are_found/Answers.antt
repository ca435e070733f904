use Rattle.ftl_noncircular.proofs.grammars.Found.{found_decides}
use Rattle.ftl_noncircular.proofs.grammars.laws.circular_vertices_are_found.Goals as goal

pub returns : goal.returns
returns c = record { found = λ g has sound closed. found_decides g has sound closed }
