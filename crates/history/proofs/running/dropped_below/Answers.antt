use Rattle.std.proofs.Common.{◌≡◌, ◌∙◌, sym, ap, length, drop, leb}
use Rattle.std.specs.List.{position}
use Rattle.std.specs.Option.{unwrap_or}
use Rattle.history.specs.declared.entry.Mark.{Mark}
use Rattle.history.proofs.PageLists.{kept-drop, place_is}
use Rattle.history.proofs.running.dropped_below.Goals as goal

pub returns-clause-kept : goal.returns-clause-kept
returns-clause-kept c =
    let marks = c.args.marks.now in
    let place : c.unwrap_or.result ≡ unwrap_or (position (λ (mark : Mark). leb c.args.below mark.number) marks) (length marks) = cc in
    ap (λ n. drop n marks) (place ∙ place_is (λ (mark : Mark). leb c.args.below mark.number) marks) ∙ sym (kept-drop c.args.below marks)
