-- What a handle owns.
use base.Fml.{Fml, ftrue}
use denote.RawPtr.{Ptr}
use Rattle.std.specs.Prelude.{Option, Some, None}
use Rattle.std.specs.Box.Ownership.{box_owns}
use Rattle.std.specs.Coded.{Coded, coded_option}
use Rattle.std.specs.Global.{Global}
use Rattle.std_heap.specs.contracts.GlobalAllocator.TheImpl.{ghosts}
use Rattle.maugzeris_c.specs.contracts.context.entries.Context.{the_row}

-- what a box of the context owns, where there is one
abbrev pub owns_context : Global → Ptr → Option the_row.Denot → Fml
owns_context alloc at None = ftrue
owns_context alloc at (Some context) = box_owns (ghosts.dealloc_token alloc) the_row at context

abbrev pub context_coded : Coded (Option the_row.Denot)
context_coded = coded_option the_row.coded
