-- What is known of attributes, owner by owner.
use Rattle.std.specs.Prelude.{ℕ, true, false, List, map}
use Rattle.ftl_grammar.specs.declared.syntax.rules.Class.{Class}
use Rattle.ftl_grammar.specs.declared.syntax.rules.Grammar.{Grammar}
use Rattle.ftl_grammar.specs.declared.syntax.rules.Interface.{Interface}
use Rattle.ftl_meaning.specs.declared.faults.info.AttrInfo.{AttrInfo}
use Rattle.ftl_meaning.specs.faults.Checked.{attribute_info, declared}

-- of those of an interface
unfoldable pub shared_infos : Grammar → ℕ × Interface → List AttrInfo
shared_infos g x = map (λ a. attribute_info g (declared false x.0 a)) x.1.attrs

-- of a class's own
unfoldable pub own_infos : Grammar → ℕ × Class → List AttrInfo
own_infos g k = map (λ a. attribute_info g (declared true k.0 a)) k.1.attrs
