-- Each front goes on to `root R;`, and with the next token to nothing.
use Rattle.std.proofs.Common.{◌≡◌, [], ◌∷◌, ◌++◌, refl, ap}
use Rattle.ftl_tokens.specs.declared.scanner.kind.Kind.TheVariants as kind
use Rattle.ftl_tokens.specs.scanner.Tokenized.{Symbol, name, fixed}
use Rattle.ftl_tokens.specs.reading.Reader.{Tokens}
use Rattle.ftl_tokens.specs.reading.Place.{Begins, place_of}
use Rattle.ftl_grammar.specs.declared.syntax.rules.Grammar.{Grammar}
use Rattle.ftl_grammar.specs.syntax.Trees as trees
use Rattle.ftl_grammar.specs.syntax.GrammarSpelling.{SpellsGrammar, grammar_of, no_declarations}
use Rattle.ftl_grammar.proofs.syntax.worked.worked_places.Goals as goal

-- what every grammar begins with
shortest : SpellsGrammar (fixed kind.Root ∷ name [] ∷ fixed kind.Semicolon ∷ []) (trees.grammar [] [] [])
shortest = grammar_of no_declarations

-- no grammar begins with `root ;`
no_name : {ts : Tokens} {g : Grammar} → SpellsGrammar ts g → (more : Tokens)
    → ts ≡ fixed kind.Root ∷ fixed kind.Semicolon ∷ more → ⊥
no_name (grammar_of s) more e = cc

pub returns-clause-next : goal.returns-clause-next
unfolding place_of
returns-clause-next c = record {
  rest = fixed kind.Semicolon ∷ [];
  wrong = record {
    front = fixed kind.Root ∷ [];
    split = refl;
    begins = record { more = name [] ∷ fixed kind.Semicolon ∷ []; value = trees.grammar [] [] []; spells = shortest };
    longest = longest;
  };
  place = refl;
}
  where
    longest : (t : Symbol) (more : Tokens) → fixed kind.Semicolon ∷ [] ≡ t ∷ more
        → Begins SpellsGrammar ((fixed kind.Root ∷ []) ++ (t ∷ [])) → ⊥
    longest t more e begins =
        let same : t ≡ fixed kind.Semicolon = cc in
        no_name begins.spells begins.more (ap (λ u. fixed kind.Root ∷ u ∷ begins.more) same)

pub returns-clause-end : goal.returns-clause-end
unfolding place_of
returns-clause-end c = record {
  rest = [];
  wrong = record {
    front = fixed kind.Root ∷ [];
    split = refl;
    begins = record { more = name [] ∷ fixed kind.Semicolon ∷ []; value = trees.grammar [] [] []; spells = shortest };
    longest = λ t more e begins. absurd (let two : [] ≡ t ∷ more = e in cc);
  };
  place = refl;
}

pub returns-clause-start : goal.returns-clause-start
unfolding place_of
returns-clause-start c = record {
  rest = [];
  wrong = record {
    front = [];
    split = refl;
    begins = record {
      more = fixed kind.Root ∷ name [] ∷ fixed kind.Semicolon ∷ [];
      value = trees.grammar [] [] [];
      spells = shortest;
    };
    longest = λ t more e begins. absurd (let two : [] ≡ t ∷ more = e in cc);
  };
  place = refl;
}
