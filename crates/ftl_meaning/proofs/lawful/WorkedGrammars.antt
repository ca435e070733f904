-- Worked grammars have no fault.
use Rattle.std.proofs.Common.{refl}
use Rattle.ftl_meaning.specs.faults.Worked as written
use Rattle.ftl_meaning.proofs.faults.WorkedFormulas.{of-adding, of-num, of-reading, of-stacked, of-widest}
use Rattle.ftl_meaning.specs.lawful.Faultless.{IsFaultless}
use Rattle.ftl_meaning.proofs.faults.WorkedKinds.{kinds_by}

-- the stack grammar as it is written
pub stack_faultless : IsFaultless written.stack
stack_faultless =
    record {
      faults = simp (of-num, of-reading, of-adding, of-stacked, of-widest) refl;
      kinds = kinds_by written.stack ((tt, tt), ((tt, (tt, (tt, (tt, tt)))), tt)) (tt, (tt, ((tt, (tt, tt)), tt)));
    }
