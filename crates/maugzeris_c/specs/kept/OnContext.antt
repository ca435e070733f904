-- What a call does to the context that C holds.
use Rattle.std.specs.Prelude.{◌≡◌, ℕ, Option, None, MatchOption, IsSomeAnd, if◌then◌else◌, nat_eq}
use Rattle.maugzeris_c.specs.context.State.{ContextState}
use Rattle.maugzeris_c.specs.declared.kept.held.Held.{Held}

-- the context, where C holds one
abbrev pub context_in : Held → Option ContextState
context_in h = if nat_eq h.live 1 then h.owner.value else None

-- Where C holds a context, it holds one after the call, which does this to it; where it holds none, the status is 11,
-- and that stays so.
abbrev pub OnContext : (old new : Held) → (status : ℕ) → (Does : ContextState → ContextState → Type 0) → Type 0
OnContext old new status Does =
    MatchOption (context_in old) ((status ≡ 11) × (new ≡ old)) (λ c. IsSomeAnd (context_in new) (Does c))
