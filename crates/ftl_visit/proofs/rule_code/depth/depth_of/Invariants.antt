use Rattle.std.proofs.Common.{◌≡◌, ◌≤◌, max, drop}
use Rattle.ftl_visit.specs.rule_code.Depth.{deepest, depth_of}
use Rattle.ftl_visit.proofs.rule_code.depth.depth_of.Given as goal

-- what is left is as deep as the whole, or what was seen is
abbrev pub invariant-loop-instruction : goal.invariant-loop-instruction
invariant-loop-instruction l =
    (max l.depth (deepest (drop l.instruction-index l.code) l.values l.truths) ≡ depth_of l.code)
    × (l.values ≤ l.instruction-index) × (l.truths ≤ l.instruction-index) × (max l.values l.truths ≤ l.depth)
