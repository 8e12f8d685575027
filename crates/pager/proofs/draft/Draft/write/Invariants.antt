use Rattle.std.proofs.Common.{◌≡◌, drop}
use Rattle.pager.specs.Draft.{drafted}
use Rattle.pager.specs.Pages.{Leads}
use Rattle.pager.proofs.draft.Draft.write.Given as goal

abbrev pub invariant-loop-place : goal.invariant-loop-place
invariant-loop-place g l = record {
  made : Leads (g.P.Pager.tells l.fn.pager) (g.P.Pager.tells l.pager) (λ was now. now ≡ drafted was (drop l.place l.self.list));
  goes : g.P.Pager.goes l.fn.pager l.pager;
  size : g.P.Pager.size l.pager ≡ g.P.Pager.size l.fn.pager;
  steady : g.P.Pager.faults l.pager ≡ g.P.Pager.faults l.fn.pager;
}
