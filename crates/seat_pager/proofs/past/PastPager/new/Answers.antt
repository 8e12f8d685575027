use Rattle.std.proofs.Common.{rules}
use Rattle.seat_pager.proofs.Looks.{pins_test}
use Rattle.seat_pager.proofs.past.PastPager.new.Goals as goal

pub invariant_of-result : goal.invariant_of-result
invariant_of-result g c = record {
  looking_now = c.requires.looking_now;
  counted = search rules;
  pinned = pins_test (g.S.Seat.view c.args.seat) c.args.snapshot c.requires.pinned c.requires.looking_now;
}
