use Rattle.ftl_showing.proofs.lines.why.beginning.Goals as goal

-- an Overflow that read none
pub returns-in-None : goal.returns-in-None
returns-in-None c = record {
  begins = record { is = c.loop-read.invariant; reads = c.in_ok-next.ensures.none c.in-None.is };
}
