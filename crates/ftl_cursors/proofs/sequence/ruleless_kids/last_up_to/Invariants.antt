use Rattle.std.proofs.Common.{◌-◌, ◌<◌, ◌≤◌, get_or}
use Rattle.ftl_cursors.proofs.sequence.ruleless_kids.last_up_to.Given as goal

abbrev pub invariant-search : goal.invariant-search
invariant-search l = record {
  order : l.kid ≤ l.last;
  some : l.last < l.end;
  within : l.end ≤ l.kid_count;
  number : get_or l.kids l.last 0 ≤ l.number;
}

abbrev pub decreases-search : goal.decreases-search
decreases-search l = l.end - l.last
