use Rattle.std.proofs.Common.{List, sym, subst}
use Rattle.ftl_base.specs.Widths.{greatest_of_width}
use Rattle.ftl_visit.specs.compiled.KeptCode.{IsKept}
use Rattle.ftl_visit.specs.compiled.Pieces.{kept_piece, piece}
use Rattle.ftl_visit.specs.declared.rule_code.instruction.Instruction.{Instruction}
use Rattle.ftl_visit.proofs.compiled.programs.Programs.code.Goals as goal

pub new-requires : goal.new-requires
new-requires c =
    let g = greatest_of_width c.self.inside.width in
    let row = c.self.inside.built.instructions.items in
    let range = c.in_ok-range.range in
    let runs = c.in_ok-range.ensures.runs in
    let here : IsKept g (piece row range) (kept_piece row range) range.reads =
    record {
      counts = runs.reads;
      stands = runs.stands;
      computes = runs.computes;
      does = runs.does;
      deep = runs.kept_deep;
    } in
    record {
      kept =
          subst (λ (xs : List Instruction). IsKept g (piece c.deref.result.now range) (kept_piece xs range) range.reads)
          (sym c.deref-2.ensures.value)
          (subst (λ (xs : List Instruction). IsKept g (piece xs range) (kept_piece row range) range.reads)
          (sym c.deref.ensures.value) here);
    }
