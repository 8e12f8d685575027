use Rattle.std.proofs.Common.{◌≡◌, ◌∙◌, ◌<◌, ◌≤◌, ◌-◌, ℕ, sym, ap, subst, arith, length, get_or, drop, Some, List}
use Rattle.std.proofs.lemmas.List.{get_or_default}
use Rattle.history.specs.declared.journal.Line.{Line}
use Rattle.history.specs.LineLaws.{NoCommitOf}
use Rattle.history.specs.Lines.{changed_since}
use Rattle.journal_book.specs.Book.{change_end, Book}
use Rattle.journal_book.proofs.Ends.{since_none, since_some, end_within}
use Rattle.journal_book.proofs.book.Book.changed_since.Goals as goal

pub returns-then-end-place : goal.returns-then-end-place
returns-then-end-place c =
    let lines : c.self.inside.lines.items ≡ c.args.self.now.lines = ap (λ (b : Book). b.lines) c.self.view_is in
    let inside : c.args.page < length c.self.inside.changed.items = omega (arith, c.requires.page, ap (λ (b : Book). b.pages) c.self.view_is) in
    let end : c.index.result.now ≡ change_end c.args.page c.self.inside.lines.items = c.index.ensures ∙ get_or_default c.self.inside.changed.items c.args.page c.index.result.now 0 inside ∙ c.self.invariant.changes c.args.page inside in
    sym (since_none c.args.who c.args.page c.args.place c.args.self.now.lines (subst (λ (l : List Line). change_end c.args.page l ≤ c.args.place) lines (omega (arith, end, c.if-end-place.true))))

pub index-requires-2 : goal.index-requires-2
index-requires-2 c =
    let inside : c.args.page < length c.self.inside.changed.items = omega (arith, c.requires.page, ap (λ (b : Book). b.pages) c.self.view_is) in
    let end : c.index.result.now ≡ change_end c.args.page c.self.inside.lines.items = c.index.ensures ∙ get_or_default c.self.inside.changed.items c.args.page c.index.result.now 0 inside ∙ c.self.invariant.changes c.args.page inside in
    omega (arith, end, c.if-end-place.false, end_within c.args.page c.self.inside.lines.items)

pub returns : goal.returns
returns c =
    let lines : c.self.inside.lines.items ≡ c.args.self.now.lines = ap (λ (b : Book). b.lines) c.self.view_is in
    let inside : c.args.page < length c.self.inside.changed.items = omega (arith, c.requires.page, ap (λ (b : Book). b.pages) c.self.view_is) in
    let end : c.index.result.now ≡ change_end c.args.page c.self.inside.lines.items = c.index.ensures ∙ get_or_default c.self.inside.changed.items c.args.page c.index.result.now 0 inside ∙ c.self.invariant.changes c.args.page inside in
    let there : c.index-2.result.now ≡ get_or c.self.inside.lines.items (change_end c.args.page c.self.inside.lines.items - 1) c.index-2.result.now =
    c.index-2.ensures ∙ ap (λ (n : ℕ). get_or c.self.inside.lines.items (n - 1) c.index-2.result.now) end in
    ap (λ (l : Line). Some l.who) there
    ∙ sym (since_some c.args.who c.args.page c.args.place c.self.inside.lines.items c.index-2.result.now (subst (λ (l : List Line). NoCommitOf c.args.who (drop c.args.place l)) (sym lines) c.requires.own) (omega (arith, end, c.if-end-place.false)))
    ∙ ap (changed_since c.args.who c.args.page c.args.place) lines
