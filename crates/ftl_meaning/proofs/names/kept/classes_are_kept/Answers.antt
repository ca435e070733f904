use Rattle.std.proofs.Common.{refl}
use Rattle.ftl_meaning.proofs.names.Standing.{class_interfaces, class_names, root}
use Rattle.ftl_meaning.proofs.names.kept.classes_are_kept.Goals as goal

pub returns : goal.returns
returns c = record {
  interfaces = λ greatest g. refl;
  classes = λ greatest g. refl;
  interface = class_interfaces;
  root = root;
  name = class_names;
}
