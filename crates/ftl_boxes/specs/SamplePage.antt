-- What is answered to the size of a sample and the name of its grammar.
use Rattle.std.specs.Prelude.{ℕ, ◌||◌, ◌==◌, nat_lt, List, Option, Some, None, Result, Ok, Err, if◌then◌else◌}
use Rattle.ftl_boxes.specs.declared.fault.SampleFault.{SampleFault}
use Rattle.ftl_boxes.specs.declared.fault.SampleFault.TheVariants.{NameUnknown, SizeRange}
use Rattle.ftl_boxes.specs.declared.grammar.Grammar.{Grammar}
use Rattle.ftl_boxes.specs.Shipped.{shipped_grammar}
use Rattle.ftl_boxes.specs.Sample.{sample_text}

-- the sample of n pieces of this grammar, where there is one: n is from 1 to 200000
abbrev pub sample_page_in : Option Grammar → ℕ → Result (List ℕ) SampleFault
sample_page_in None n = Err NameUnknown
sample_page_in (Some g) n = if n == 0 || nat_lt 200000 n then Err (SizeRange n) else Ok (sample_text g n)

-- the sample of n pieces of the grammar of this name
abbrev pub sample_page_of : List ℕ → ℕ → Result (List ℕ) SampleFault
sample_page_of name n = sample_page_in (shipped_grammar name) n
