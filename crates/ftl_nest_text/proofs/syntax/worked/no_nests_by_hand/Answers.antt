-- The reader refuses these lists.
use Rattle.std.proofs.Common.{refl}
use Rattle.ftl_tokens.specs.reading.Reader.{next_kind, rest_of, same_kind, is_at, expect, take_name, is_name}
use Rattle.ftl_tokens.specs.reading.Reader.{at_end, chain}
use Rattle.ftl_tokens.specs.reading.Place.{place_of}
use Rattle.ftl_schedule.specs.syntax.Reading.{take_kind, attribute, more_attribute, pass, more_pass, stage, more_stage}
use Rattle.ftl_nest_text.specs.syntax.NestReading.{take_nest_word, inner_stages, inner, nest, more_nest, nesting_pass}
use Rattle.ftl_nest_text.specs.syntax.NestReading.{more_nesting_pass, nesting_stage, more_nesting_stage}
use Rattle.ftl_nest_text.specs.syntax.NestReading.{nesting_stages, nesting_schedule}
use Rattle.ftl_nest_text.specs.syntax.NestWorked.{text_behind_inorder}
use Rattle.ftl_nest_text.proofs.syntax.NestSchedules.{is_no_schedule, refused}
use Rattle.ftl_nest_text.proofs.syntax.worked.no_nests_by_hand.Goals as goal

pub returns-clause-behind_inorder : goal.returns-clause-behind_inorder
unfolding nesting_schedule nesting_stages nesting_stage nesting_pass more_nesting_pass more_nesting_stage more_nest nest
    take_nest_word inner inner_stages take_kind attribute more_attribute pass more_pass stage more_stage
    next_kind rest_of same_kind is_at expect take_name is_name at_end chain
returns-clause-behind_inorder c = refused _ _ refl

pub returns-clause-in_a_nest : goal.returns-clause-in_a_nest
unfolding nesting_schedule nesting_stages nesting_stage nesting_pass more_nesting_pass more_nesting_stage more_nest nest
    take_nest_word inner inner_stages take_kind attribute more_attribute pass more_pass stage more_stage
    next_kind rest_of same_kind is_at expect take_name is_name at_end chain
returns-clause-in_a_nest c = refused _ _ refl

pub returns-clause-end : goal.returns-clause-end
unfolding nesting_schedule nesting_stages nesting_stage nesting_pass more_nesting_pass more_nesting_stage more_nest nest
    take_nest_word inner inner_stages take_kind attribute more_attribute pass more_pass stage more_stage
    next_kind rest_of same_kind is_at expect take_name is_name at_end chain
returns-clause-end c = refused _ _ refl

pub returns-clause-host : goal.returns-clause-host
unfolding nesting_schedule nesting_stages nesting_stage nesting_pass more_nesting_pass more_nesting_stage more_nest nest
    take_nest_word inner inner_stages take_kind attribute more_attribute pass more_pass stage more_stage
    next_kind rest_of same_kind is_at expect take_name is_name at_end chain
returns-clause-host c = refused _ _ refl

pub returns-clause-semicolon : goal.returns-clause-semicolon
unfolding nesting_schedule nesting_stages nesting_stage nesting_pass more_nesting_pass more_nesting_stage more_nest nest
    take_nest_word inner inner_stages take_kind attribute more_attribute pass more_pass stage more_stage
    next_kind rest_of same_kind is_at expect take_name is_name at_end chain
returns-clause-semicolon c = refused _ _ refl

pub returns-clause-place : goal.returns-clause-place
unfolding nesting_schedule nesting_stages nesting_stage nesting_pass more_nesting_pass more_nesting_stage more_nest nest
    take_nest_word inner inner_stages take_kind attribute more_attribute pass more_pass stage more_stage
    next_kind rest_of same_kind is_at expect take_name is_name at_end chain place_of
returns-clause-place c = (is_no_schedule text_behind_inorder _ 4 12 refl refl refl).place
