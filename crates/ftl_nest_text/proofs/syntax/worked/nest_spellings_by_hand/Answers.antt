-- The reader reads these lists whole.
use Rattle.std.proofs.Common.{[], refl}
use Rattle.ftl_tokens.specs.reading.Reader.{next_kind, rest_of, same_kind, is_at, expect, take_name, is_name}
use Rattle.ftl_tokens.specs.reading.Reader.{at_end, chain}
use Rattle.ftl_schedule.specs.syntax.Reading.{take_kind, attribute, more_attribute, pass, more_pass, stage, more_stage}
use Rattle.ftl_nest_text.specs.syntax.NestReading.{take_nest_word, inner_stages, inner, nest, more_nest, nesting_pass}
use Rattle.ftl_nest_text.specs.syntax.NestReading.{more_nesting_pass, nesting_stage, more_nesting_stage}
use Rattle.ftl_nest_text.specs.syntax.NestReading.{nesting_stages, nesting_schedule}
use Rattle.ftl_nest_text.proofs.syntax.NestSchedules.{is_spelled}
use Rattle.ftl_nest_text.proofs.syntax.worked.nest_spellings_by_hand.Goals as goal

pub returns-clause-stages : goal.returns-clause-stages
unfolding nesting_schedule nesting_stages nesting_stage nesting_pass more_nesting_pass more_nesting_stage more_nest nest
    take_nest_word inner inner_stages take_kind attribute more_attribute pass more_pass stage more_stage
    next_kind rest_of same_kind is_at expect take_name is_name at_end chain
returns-clause-stages c = is_spelled _ [] _ refl

pub returns-clause-beside : goal.returns-clause-beside
unfolding nesting_schedule nesting_stages nesting_stage nesting_pass more_nesting_pass more_nesting_stage more_nest nest
    take_nest_word inner inner_stages take_kind attribute more_attribute pass more_pass stage more_stage
    next_kind rest_of same_kind is_at expect take_name is_name at_end chain
returns-clause-beside c = is_spelled _ [] _ refl

pub returns-clause-none : goal.returns-clause-none
unfolding nesting_schedule nesting_stages nesting_stage nesting_pass more_nesting_pass more_nesting_stage more_nest nest
    take_nest_word inner inner_stages take_kind attribute more_attribute pass more_pass stage more_stage
    next_kind rest_of same_kind is_at expect take_name is_name at_end chain
returns-clause-none c = is_spelled _ [] _ refl
