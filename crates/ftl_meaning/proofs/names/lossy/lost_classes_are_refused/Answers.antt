use Rattle.std.proofs.Common.{◌≡◌, refl, ap, arith, get_or}
use Rattle.std.proofs.lemmas.Bool.{true≢false}
use Rattle.ftl_meaning.specs.faults.Numbering.{child_at, class_at, interface_at}
use Rattle.ftl_meaning.specs.grammars.Worked.{two}
use Rattle.ftl_meaning.proofs.names.lossy.lost_classes_are_refused.Goals as goal

pub returns : goal.returns
returns c = record {
  child = λ h. let e : 2 ≡ 3 = h 0 (class_at two 0) refl in omega (arith, e);
  kid =
      λ h.
      let e : 2 ≡ 1 = (h 0 (class_at two 0) refl 0 (child_at two 0 0) refl).alone 2 (interface_at two 2) refl refl in
      omega (arith, e);
  list = λ h. true≢false (h 0 (class_at two 0) refl 0 (child_at two 0 0) refl);
  interface =
      λ h. let e : 1 ≡ 0 = (h 1 (class_at two 1) refl).alone 1 (interface_at two 1) refl refl in omega (arith, e);
  root = λ h. let e : 0 ≡ 1 = h.alone 0 (interface_at two 0) refl refl in omega (arith, e);
  name = λ h. let e : 67 ≡ 76 = ap (λ ns. get_or ns 0 0) (h 1 (class_at two 1) refl) in omega (arith, e);
}
