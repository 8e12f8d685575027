use Rattle.std.proofs.Common.{◌<◌, ℕ, List, sym, subst, arith}
use Rattle.std.specs.List.{AllByRecursion}
use Rattle.history.specs.Writes.{pages_of}
use Rattle.archive_tests.proofs.trial.Trial.takes.Goals as goal

pub returns : goal.returns
returns g c = λ all. record {
  some = omega (arith, c.len-count.ensures, c.if-count-lt1.false);
  few = omega (arith, c.len-count.ensures, c.if-count-gt-BATCH.false);
  first = omega (arith, c.if-first-held.false, c.first-first.ensures, c.held.ensures);
  low = omega (arith, c.first-first.ensures, c.low-low.ensures, c.if-low-first.false);
  room = omega (arith, c.first-first.ensures, c.low-low.ensures, c.len-count.ensures, c.low.ensures, c.max-least.ensures, c.saturating_sub.ensures, c.if-saturating_sub-least.false, c.args.self.now.sized.1);
  end = omega (arith, c.first-first.ensures, c.len-count.ensures, c.if-first.false, c.if-count-gt-BATCH.false);
  pages =
      subst (λ (n : ℕ). AllByRecursion (λ page. page < n) (pages_of c.args.batch.now.images)) (sym c.args.self.now.sized.0)
      (subst (λ (ps : List ℕ). AllByRecursion (λ page. page < c.args.self.now.page_count) ps) c.pages.ensures (c.are_pages.ensures all));
}
