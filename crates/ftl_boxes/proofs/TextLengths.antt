-- How long the texts are.
use Rattle.std.proofs.Common.{◌≡◌, ℕ, ◌≤◌, List, Option, Some, None, length, refl, arith}
use Rattle.std.specs.Prelude.{IfSome, option_map}
use Rattle.ftl_boxes.specs.declared.grammar.Grammar.{Grammar}
use Rattle.ftl_boxes.specs.declared.grammar.Grammar.TheVariants.{Stack, Block, Inline, Float, Table, Flow}
use Rattle.ftl_boxes.specs.Stack.{stack_text}
use Rattle.ftl_boxes.specs.Block.{block_text}
use Rattle.ftl_boxes.specs.Inline.{inline_text}
use Rattle.ftl_boxes.specs.Float.{float_text}
use Rattle.ftl_boxes.specs.Table.{table_text}
use Rattle.ftl_boxes.specs.Flow.{flow_text}
use Rattle.ftl_boxes.specs.Shipped.{text_of, shipped_grammar, shipped_text}

-- no text has more bytes than the longest
length-text_of : (grammar : Grammar) → length (text_of grammar) ≤ 4282
unfolding stack_text block_text inline_text float_text table_text flow_text
length-text_of Stack = let e : length stack_text ≡ 466 = refl in omega (arith, e)
length-text_of Block = let e : length block_text ≡ 933 = refl in omega (arith, e)
length-text_of Inline = let e : length inline_text ≡ 1276 = refl in omega (arith, e)
length-text_of Float = let e : length float_text ≡ 2245 = refl in omega (arith, e)
length-text_of Table = let e : length table_text ≡ 2432 = refl in omega (arith, e)
length-text_of Flow = let e : length flow_text ≡ 4282 = refl in omega (arith, e)

few_bytes : (grammar : Option Grammar) → IfSome (option_map text_of grammar) (λ text. length text ≤ 4282)
few_bytes None = tt
few_bytes (Some grammar) = length-text_of grammar

pub length-shipped_text : (name : List ℕ) → IfSome (shipped_text name) (λ text. length text ≤ 4282)
length-shipped_text name = few_bytes (shipped_grammar name)
