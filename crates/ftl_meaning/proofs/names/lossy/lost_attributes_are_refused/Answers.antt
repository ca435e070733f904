use Rattle.std.proofs.Common.{◌≡◌, refl, ap, arith, get_or}
use Rattle.ftl_meaning.specs.faults.Numbering.{class_at, interface_at}
use Rattle.ftl_meaning.specs.grammars.Worked.{two}
use Rattle.ftl_meaning.proofs.names.lossy.lost_attributes_are_refused.Goals as goal

pub returns : goal.returns
returns c = record {
  lost = λ h. (h 1 (interface_at two 1) refl).1.1.1;
  doubled = λ h. (h 0 (interface_at two 0) refl).1;
  swapped =
      λ h. let e : 122 ≡ 120 = ap (λ ns. get_or ns 0 0) (h 1 (interface_at two 1) refl).0.name in omega (arith, e);
  sorts = λ h. let e = (h 0 (interface_at two 0) refl).0.sort in grind (arith, e);
  own = λ h. let e : 97 ≡ 112 = ap (λ ns. get_or ns 0 0) (h 0 (class_at two 0) refl).0.name in omega (arith, e);
  more = λ h. let e : 10 ≡ 9 = h in omega (arith, e);
}
