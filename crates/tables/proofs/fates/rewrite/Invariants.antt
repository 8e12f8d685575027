use Rattle.std.proofs.Common.{◌≡◌, ◌≤◌, ◌++◌, drop, length, take}
use Rattle.tables.specs.Fates.{rewritten}
use Rattle.tables.proofs.fates.rewrite.Given as goal

abbrev pub invariant-loop-fate : goal.invariant-loop-fate
invariant-loop-fate l = record {
  split : l.yielded ++ l.fate-iterator.rest.items ≡ l.fn.fates;
  place : l.place ≡ length l.yielded;
  kept : l.kept ≤ l.place;
  long : length l.rows.items ≡ length l.initial.rows.items;
  front : take l.kept l.rows.items ≡ rewritten l.yielded (take l.place l.initial.rows.items);
  back : drop l.place l.rows.items ≡ drop l.place l.initial.rows.items;
}
