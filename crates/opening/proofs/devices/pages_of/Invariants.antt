use Rattle.std.proofs.Common.{◌≡◌, ◌≤◌, ◌<◌, ℕ, [], length, get_or, vec_capacity}
use Rattle.disk_model.specs.Runs.{OnlyReads, SameDevice}
use Rattle.opening.specs.Opening.{page_at}
use Rattle.opening.proofs.devices.pages_of.Given as goal

abbrev pub invariant-pages : goal.invariant-pages
invariant-pages g l = record {
  same : SameDevice g.D.Disk.extent g.D.Disk.is_honest l.fn.disk l.disk;
  count : g.D.Disk.faults l.disk ≡ g.D.Disk.faults l.fn.disk;
  room : l.count ≤ vec_capacity l.pages;
  long : length l.pages.items ≡ l.number;
  read : g.D.Disk.is_honest l.fn.disk → (k : ℕ) → k < l.number → get_or l.pages.items k [] ≡ page_at (g.D.Disk.state l.fn.disk).seen k;
  quiet : g.D.Disk.is_honest l.fn.disk → OnlyReads g.D.Disk.remembers g.D.Disk.state g.D.Disk.clock l.fn.disk l.disk;
}
