use Rattle.std.proofs.Common.{Err, ap, arith, subst}
use Rattle.ftl_edge.specs.Counts.{RoseBy}
use Rattle.ftl_answer.proofs.reading.requests.ReadBytes.{of_whole, too_long_asked}
use Rattle.ftl_answer.proofs.reading.requests.words.of_page.Goals as goal

pub returns-in-Ok-clause-asked : goal.returns-in-Ok-clause-asked
returns-in-Ok-clause-asked g c =
    of_whole (g.S.Source.remaining c.args.source.now) c.in-Ok.bytes.items _ c.in-Ok.ensures.whole
    (record {
      comes = c.in_ok-obeyed-in-Ok.ensures.comes;
      counted =
          λ reads short.
          subst (λ n. RoseBy n (g.S.Source.taken c.args.source.now) (g.S.Source.taken c.read_all.new.source))
          c.in-Ok.bytes.ok.0 c.in-Ok.ensures.counted;
      over = λ reads many. absurd (omega (arith, many, c.in-Ok.bytes.ok.0, c.in-Ok.ensures.short));
    })

pub returns-in-Err-TooLong-clause-asked : goal.returns-in-Err-TooLong-clause-asked
returns-in-Err-TooLong-clause-asked g c =
    too_long_asked (g.S.Source.remaining c.args.source.now) c.args.command c.in_ok-refused-in-Err-TooLong.field-0 _ _
    c.requires.reads (c.in-Err-TooLong.ensures.too_long (ap Err c.in-Err-TooLong.field-0-is))
    (c.in-Err-TooLong.ensures.over (ap Err c.in-Err-TooLong.field-0-is))
    c.in_ok-refused-in-Err-TooLong.ensures.answer

pub returns-in-Err-TooLong-clause-end : goal.returns-in-Err-TooLong-clause-end
returns-in-Err-TooLong-clause-end g c = λ short. absurd (short c.in_ok-refused-in-Err-TooLong.ensures.answer)
