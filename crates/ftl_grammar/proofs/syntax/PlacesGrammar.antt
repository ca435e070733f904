-- Where the reader of grammars refuses a token, no grammar is spelled, and that is the place at which the tokens go
-- wrong.
use Rattle.std.proofs.Common.{◌≡◌, ℕ, zero, suc, ◌+◌, ◌<◌, [], Err, subst, arith}
use Rattle.ftl_tokens.specs.reading.Reader.{Tokens}
use Rattle.ftl_tokens.specs.reading.Place.{LongestFront}
use Rattle.ftl_tokens.proofs.reading.KeptPrefix.{HasPrefix, KeepsPrefix, Grown}
use Rattle.ftl_tokens.proofs.reading.Went.{got}
use Rattle.ftl_tokens.proofs.reading.Places.{Placed, none_spelled, longest_front}
use Rattle.ftl_grammar.specs.declared.syntax.rules.Grammar.{Grammar}
use Rattle.ftl_grammar.specs.syntax.GrammarSpelling.{SpellsGrammar}
use Rattle.ftl_grammar.specs.syntax.ExpressionReading.{expr}
use Rattle.ftl_grammar.specs.syntax.GrammarReading.{bracket_depth, grammar, grammar_level}
use Rattle.ftl_grammar.proofs.syntax.CondPrefix.{expr_prefix}
use Rattle.ftl_grammar.proofs.syntax.GrammarPrefix.{grammar_level_prefix}
use Rattle.ftl_grammar.proofs.syntax.Heads.{height}
use Rattle.ftl_grammar.proofs.syntax.CondWent.{expr_went}
use Rattle.ftl_grammar.proofs.syntax.GrammarWent.{grammar_level_went}
use Rattle.ftl_grammar.proofs.syntax.CondAlike.{expr_alike}
use Rattle.ftl_grammar.proofs.syntax.GrammarAlike.{grammar_level_alike}

-- no grammar is spelled by the tokens, and they go wrong where these are left
pub record NoGrammar (ts rest : Tokens) : Type 0 where
  pub none : (g : Grammar) → SpellsGrammar ts g → ⊥
  pub wrong : LongestFront SpellsGrammar ts rest

-- what the reader of grammars reads is spelled, and what stands before a refused token goes on to a grammar
pub grammar_prefix : KeepsPrefix SpellsGrammar grammar
unfolding grammar
grammar_prefix = grammar_level_prefix (expr_prefix bracket_depth)

-- at each depth that is more than the brackets that are open at once, what spells a grammar is read to its end
pub grammar_went : {ts : Tokens} {g : Grammar} → SpellsGrammar ts g → (n : ℕ) → height ts < n
    → grammar_level (expr n) ts ≡ got g []
grammar_went spells zero small = absurd (omega arith)
grammar_went spells (suc n) small = (grammar_level_went (expr_went (suc n)) spells small).reads

-- readers at other depths are like the reader of grammars, and read all that is spelled
grammar_placed : Placed SpellsGrammar height bracket_depth bracket_depth grammar
    (λ k. grammar_level (expr (bracket_depth + k)))
unfolding grammar
grammar_placed = record {
  alike = λ k.
      let deeper = expr_alike bracket_depth (bracket_depth + k) (omega arith) in
      grammar_level_alike {n = 64} (expr_prefix bracket_depth) (expr_prefix (bracket_depth + k)) deeper;
  reads = λ spells k small. grammar_went spells (bracket_depth + k) (omega arith);
}

-- where the reader of grammars refuses a token
pub no_grammar : (ts rest : Tokens) → height ts < bracket_depth → grammar ts ≡ Err rest → NoGrammar ts rest
no_grammar ts rest small e =
    let grown : Grown SpellsGrammar ts rest = subst (λ o. HasPrefix SpellsGrammar o ts) e (grammar_prefix.keeps ts) in
    record {
      none = λ g spells. none_spelled grammar_placed ts rest g small e grown spells;
      wrong = longest_front grammar_placed ts rest small e grown;
    }
