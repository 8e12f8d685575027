use Rattle.history.proofs.Consistent.{made_is_consistent, stays_consistent, captures_are_counted, captures_grow, captured_by_the_rule, nothing_twice, starts_count}
use Rattle.history.proofs.laws.laws_of_captures.Goals as goal

pub returns : goal.returns
returns c = record {
  made = made_is_consistent;
  stays = stays_consistent;
  counted = captures_are_counted;
  grow = captures_grow;
  by_the_rule = captured_by_the_rule;
  nothing_twice = nothing_twice;
  starts = starts_count;
}
