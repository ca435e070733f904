use Rattle.std.proofs.Common.{string_bytes}
use Rattle.std.specs.Prelude.{is_some}
use Rattle.ftl_showing.proofs.formats.FormatLemmas.{format_of}
use Rattle.ftl_showing.proofs.formats.page.formatted.Goals as goal

pub returns : goal.returns
returns c = record {
  page =
      format_of string_bytes (is_some c.args.source.now.named) c.args.source.now.grammar.now
      c.args.source.now.has_schedule c.args.rules.now c.args.page.now
      (record {
        width = c.args.source.now.width;
        named = c.in_ok-named.named;
        grammar = c.in_ok-grammar.grammar;
        schedule = c.in_ok-schedule.schedule;
        document = c.in_ok-document.document;
        edits = c.in_ok-edits.edits;
      })
      c.page_of_parts.result
      (record {
        grammar = c.in_ok-grammar.ensures.text;
        schedule = c.in_ok-schedule.ensures.text;
        document = c.in_ok-document.ensures.text;
      })
      c.page_of_parts.ensures.page;
}
