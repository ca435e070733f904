-- The fields of a context.
use Rattle.maugzeris_c.specs.context.State.{ContextState}
use Rattle.maugzeris_c.specs.declared.context.entries.Context.TheInside.{Inside}

-- the lists that the fields hold
abbrev pub context_inside : Inside → ContextState
context_inside c =
    record {
      grammars = c.grammars.items;
      rules = c.rules.items;
      pages = c.pages.items;
      refusal = c.refusal.items;
    }
