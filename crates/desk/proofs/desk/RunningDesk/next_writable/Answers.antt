use Rattle.std.proofs.Common.{arith, sym, ◌∙◌}
use Rattle.desk.proofs.Sent.{dirty_inside}
use Rattle.desk.proofs.desk.RunningDesk.next_writable.Goals as goal

pub overflow_add-from : goal.overflow_add-from
overflow_add-from g c =
    let whole = c.requires in
    omega (arith, dirty_inside whole.desk c.in-Some.page whole.fits (sym (whole.is.pages.marks c.in-Some.page) ∙ c.in-Some.ensures.1), whole.fits.history.right.pages.1)

pub loop-page-smaller : goal.loop-page-smaller
loop-page-smaller g c =
    let whole = c.requires in
    omega (arith, dirty_inside whole.desk c.in-Some.page whole.fits (sym (whole.is.pages.marks c.in-Some.page) ∙ c.in-Some.ensures.1), whole.is.whole, c.in-Some.ensures.0)
