use Rattle.std.proofs.Common.{◌≡◌, ◌≤◌, ◌+◌, ◌%◌, ◌^◌, ◌∙◌, ℕ, List, sym, ap, subst, drop}
use Rattle.std.specs.List.{AllByRecursion}
use Rattle.std.proofs.lemmas.List.{drop-drop}
use Rattle.history.specs.declared.entry.Base.{Base}
use Rattle.history.specs.declared.entry.Change.TheVariants.{Drop}
use Rattle.history.specs.declared.entry.Mark.{Mark}
use Rattle.history.specs.Marks.{newest, kept_marks}
use Rattle.history.specs.History.{base_after}
use Rattle.history.specs.Running.{stamped_base}
use Rattle.history.proofs.MarkLaws.{kept-newest}
use Rattle.history.proofs.Stamps.{dropping}
use Rattle.history.proofs.running.RunningBase.drop_below.Goals as goal

-- the marks that are left
left : (old new : List Mark) (dropped more result below : ℕ) (marks : List Mark) → drop result new ≡ drop (dropped + more) old → drop dropped old ≡ marks → drop more marks ≡ kept_marks below marks
    → drop result new ≡ kept_marks below (drop dropped old)
left old new dropped more result below marks forgot is kept = forgot ∙ sym (drop-drop more dropped old) ∙ ap (drop more) is ∙ kept ∙ ap (kept_marks below) (sym is)

pub invariant_of-self : goal.invariant_of-self
invariant_of-self c =
    let marks : List Mark = drop c.self.inside.dropped c.self.inside.marks.items in
    let is : marks ≡ c.args.self.now.marks = ap (λ (b : Base). b.marks) c.self.view_is in
    let kept = subst (λ (l : List Mark). drop c.dropped_below-more.result l ≡ kept_marks c.args.below l) c.marks.ensures c.dropped_below-more.ensures.kept in
    let after = left c.self.inside.marks.items c.forget-self-inside.new.marks.items c.self.inside.dropped c.dropped_below-more.result c.forget-self-inside.result c.args.below c.args.self.now.marks c.forget-self-inside.ensures.kept is kept in
    let within = subst (λ (l : List Mark). c.args.below ≤ newest l) (sym is) c.requires.1 in
    record {
      kept = c.forget-self-inside.ensures.half;
      room = subst (λ n. 131072 ≤ n) (sym c.forget-self-inside.ensures.room) c.self.invariant.room;
      pages = c.self.invariant.pages;
      below = subst (λ n. AllByRecursion (λ stamp. stamp ≤ n) c.self.inside.stamps.items) (sym (kept-newest c.args.below marks within).0 ∙ sym (ap newest after)) c.self.invariant.below;
    }

pub returns : goal.returns
returns c =
    let marks : List Mark = drop c.self.inside.dropped c.self.inside.marks.items in
    let is : marks ≡ c.args.self.now.marks = ap (λ (b : Base). b.marks) c.self.view_is in
    let kept = subst (λ (l : List Mark). drop c.dropped_below-more.result l ≡ kept_marks c.args.below l) c.marks.ensures c.dropped_below-more.ensures.kept in
    let after = left c.self.inside.marks.items c.forget-self-inside.new.marks.items c.self.inside.dropped c.dropped_below-more.result c.forget-self-inside.result c.args.below c.args.self.now.marks c.forget-self-inside.ensures.kept is kept in
    let within = subst (λ (l : List Mark). c.args.below ≤ newest l) (sym is) c.requires.1 in
    ap (λ (l : List Mark). stamped_base c.self.inside.capacity ((c.self.inside.changes + 1) % 2 ^ 64) c.self.inside.captures l c.self.inside.stamps.items) after
    ∙ dropping c.self.inside.capacity c.self.inside.changes c.self.inside.captures c.args.below marks c.self.inside.stamps.items within
    ∙ ap (λ (b : Base). base_after b (Drop c.args.below)) c.self.view_is
