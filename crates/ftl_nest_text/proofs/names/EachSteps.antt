-- What the entries of a list stand for, as steps of a loop over it.
use Rattle.ftl_schedule.proofs.names.EachInTurn.{each_end, each_fault, each_more}

pub ruleset each_steps = (each_more, each_fault, each_end)
