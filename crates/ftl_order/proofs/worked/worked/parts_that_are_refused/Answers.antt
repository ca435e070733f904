use Rattle.std.proofs.Common.{◌≡◌, true, false, refl, inl, lit<, arith}
use Rattle.ftl_model.specs.layout.AttributeGrammar.{each_read, for_self, last_read, prev_read}
use Rattle.ftl_order.proofs.worked.worked.parts_that_are_refused.Goals as goal

differ : true ≡ false → ⊥
differ e = grind arith

differ_too : false ≡ true → ⊥
differ_too e = grind arith

pub returns : goal.returns
returns c =
    record {
      first_prev = λ h. h.1 (prev_read 0 0) (0, lit< tt, refl);
      plain_prev = λ h. h (prev_read 0 0) (0, lit< tt, refl);
      start_this = λ h. h.1 (each_read 0 4) (0, lit< tt, refl);
      list_last = λ h. differ (h (last_read 0 4) (0, lit< tt, refl)).0.1;
      list_fold = λ h. h;
      single_first = λ h. differ_too h.0.1;
      root_inherits = λ h. h.root_sorts 1 (0, lit< tt, refl) refl;
      rules_missing = λ h. (let z : ⊥ = omega (arith, (h.rules_have (for_self 0 0) (lit< tt, (0, lit< tt, refl), inl refl)).1) in z);
      rules_turned = λ h. (let z : ⊥ = omega (arith, h.rules_by_class.0 (for_self 0 0) (7, lit< tt, refl)) in z);
    }
