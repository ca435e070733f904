-- The texts compute, digits included.
use Rattle.std.proofs.Common.{refl}
use Rattle.std.specs.Fmt.{digits}
use Rattle.ftl_model.proofs.layout.worked.highest_words_of_both_widths.Goals as goal

pub returns-clause-text : goal.returns-clause-text
unfolding digits
returns-clause-text c = refl

pub returns-clause-wide_text : goal.returns-clause-wide_text
unfolding digits
returns-clause-wide_text c = refl

pub returns-clause-widest_text : goal.returns-clause-widest_text
unfolding digits
returns-clause-widest_text c = refl
