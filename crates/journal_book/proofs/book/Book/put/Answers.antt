use Rattle.std.proofs.Common.{◌≡◌, ◌∙◌, ◌+◌, ℕ, [], ◌∷◌, ◌++◌, length, arith, ap, vec_capacity}
use Rattle.journal_book.specs.Book.{Book, marked}
use Rattle.journal_book.proofs.Ends.{book_pushed, pages_pushed, book_is}
use Rattle.journal_book.proofs.book.Book.put.Goals as goal

pub invariant_of-self : goal.invariant_of-self
invariant_of-self c =
    let room = rw (← c.self.view_is) at c.requires.room in
    let place : c.len.result ≡ length c.self.inside.lines.items = omega (arith, c.len.ensures) in
    let few = rw (← c.self.view_is) at c.requires.images in
    book_pushed c.self.inside.lines.items c.push.new.self.items c.args.line (vec_capacity c.self.inside.lines) c.self.inside.images c.self.inside.kept c.self.inside.workers (vec_capacity c.push.new.self) c.args.kept c.args.workers
    c.self.inside.stop c.first_of-self-inside.result c.self.inside.changed.items c.mark.new.table.items c.written-writes.result.now
    c.self.invariant room c.requires.workers (omega (arith, c.in-Ok.ensures.capacity)) few c.in-Ok.ensures.items c.written-writes.ensures c.first_of-self-inside.ensures
    (c.mark.ensures ∙ ap (λ (n : ℕ). marked c.self.inside.changed.items (n + 1) c.written-writes.result.now) place)

pub returns : goal.returns
returns c =
    let items : c.push.new.self.items ≡ c.self.inside.lines.items ++ c.args.line ∷ [] = c.in-Ok.ensures.items in
    book_is (length c.mark.new.table.items) c.args.self.now.pages c.push.new.self.items (c.args.self.now.lines ++ c.args.line ∷ []) c.args.kept c.args.workers
    (pages_pushed c.self.inside.changed.items c.mark.new.table.items (c.len.result + 1) c.written-writes.result.now c.mark.ensures ∙ ap (λ (b : Book). b.pages) c.self.view_is)
    (items ∙ ap (λ (b : Book). b.lines ++ c.args.line ∷ []) c.self.view_is)
