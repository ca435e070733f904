use Rattle.maugzeris.proofs.refusals.Places.{by_digits, no_end, no_place}
use Rattle.maugzeris.proofs.refusals.place.byte_for.Goals as goal

pub returns-in_default-after-4 : goal.returns-in_default-after-4
returns-in_default-after-4 c =
    record {
      byte = no_place c.args.section c.args.what.now c.args.line.now c.in-Some.rest.now c.name_of.result.now
          c.in-Some-after.rest.now c.in-Some-after-2.rest.now c.in-Some-after-3.rest.now c.in-Some.ensures.rest
          c.name_of.ensures.name c.in-Some-after.ensures.rest c.in-Some-after-2.ensures.rest
          c.in-Some-after-3.ensures.rest c.in_default-after-4.ensures.rest;
    }

pub returns-in_default-before_line_feed : goal.returns-in_default-before_line_feed
returns-in_default-before_line_feed c =
    record {
      byte = no_end c.args.section c.args.what.now c.args.line.now c.in-Some.rest.now c.name_of.result.now
          c.in-Some-after.rest.now c.in-Some-after-2.rest.now c.in-Some-after-3.rest.now c.in-Some.ensures.rest
          c.name_of.ensures.name c.in-Some-after.ensures.rest c.in-Some-after-2.ensures.rest
          c.in-Some-after-3.ensures.rest c.in-Some-after-4.rest.now c.in-Some-after-4.ensures.rest
          c.in_default-before_line_feed.ensures.line;
    }

pub returns : goal.returns
returns c =
    record {
      byte = by_digits c.args.section c.args.what.now c.args.line.now c.in-Some.rest.now c.name_of.result.now
          c.in-Some-after.rest.now c.in-Some-after-2.rest.now c.in-Some-after-3.rest.now c.in-Some.ensures.rest
          c.name_of.ensures.name c.in-Some-after.ensures.rest c.in-Some-after-2.ensures.rest
          c.in-Some-after-3.ensures.rest c.in-Some-after-4.rest.now c.in-Some-after-4.ensures.rest
          c.in-Some-before_line_feed.digits.now c.in-Some-before_line_feed.ensures.line c.number_of.result
          c.number_of.ensures.number;
    }
