-- Of each grammar that comes with the program a sample of so many pieces as there may be can be made.
use Rattle.std.proofs.Common.{◌≡◌, refl, ℕ, ◌<◌, ◌≤◌, Bool, true, false, List, Option, Some, None, Result, Ok, Err, arith}
use Rattle.std.proofs.lemmas.Bool.{le-ltb, ne_eqb}
use Rattle.std.specs.Prelude.{◌||◌, ◌==◌, if◌then◌else◌, nat_lt, is_some}
use Rattle.ftl_boxes.specs.Sample.{sample_text}
use Rattle.ftl_boxes.specs.SamplePage.{sample_page_in, sample_page_of}
use Rattle.ftl_boxes.specs.Shipped.{shipped_grammar}
use Rattle.ftl_boxes.specs.declared.fault.SampleFault.TheVariants.{SizeRange}
use Rattle.ftl_boxes.specs.declared.grammar.Grammar.{Grammar}

made_by : (g : Grammar) (n : ℕ) (zero many : Bool) → zero ≡ false → many ≡ false
    → (text : List ℕ) × ((if zero || many then Err (SizeRange n) else Ok (sample_text g n)) ≡ Ok text)
made_by g n false false some few = (sample_text g n, refl)
made_by g n false true some few = absurd cc
made_by g n true many some few = absurd cc

made : (g : Grammar) (n : ℕ) → 0 < n → n ≤ 200000 → (text : List ℕ) × (sample_page_in (Some g) n ≡ Ok text)
made g n some few =
    made_by g n (n == 0) (nat_lt 200000 n) (ne_eqb n 0 (λ e. omega (arith, some, e))) (le-ltb 200000 n few)

made_of : (o : Option Grammar) (n : ℕ) → 0 < n → n ≤ 200000 → is_some o ≡ true
    → (text : List ℕ) × (sample_page_in o n ≡ Ok text)
made_of None n some few is = absurd cc
made_of (Some g) n some few is = made g n some few

pub sample_is_there : (name : List ℕ) (n : ℕ) → 0 < n → n ≤ 200000 → is_some (shipped_grammar name) ≡ true
    → (text : List ℕ) × (sample_page_of name n ≡ Ok text)
sample_is_there name n some few is = made_of (shipped_grammar name) n some few is
