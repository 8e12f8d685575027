use Rattle.std.proofs.Common.{◌≡◌, ◌<◌, ◌≤◌, ◌+◌, ◌%◌, ◌^◌, ◌∙◌, ◌++◌, ◌∷◌, [], ℕ, List, length, sym, ap, subst, drop, take, arith}
use Rattle.std.specs.Prelude.{Some, None}
use Rattle.std.specs.List.{AllByRecursion}
use Rattle.std.proofs.lemmas.List.{drop-append-le, length_push}
use Rattle.history.specs.declared.entry.Base.{Base}
use Rattle.history.specs.declared.entry.Change.TheVariants.{Commit}
use Rattle.history.specs.declared.entry.Mark.{Mark}
use Rattle.history.specs.declared.writes.PageImage.{PageImage}
use Rattle.history.specs.Marks.{newest}
use Rattle.history.specs.Writes.{pages_of}
use Rattle.history.specs.History.{base_after, capturing}
use Rattle.history.specs.Right.{IsRight}
use Rattle.history.specs.Running.{stamped_base, with_stamps}
use Rattle.history.proofs.MarkLaws.{newest-push}
use Rattle.history.proofs.PageLists.{written_back}
use Rattle.history.proofs.Stamps.{committed, declaring, length-with_stamps, stamps_bounded, stamps_higher}
use Rattle.history.proofs.running.RunningBase.commit.Goals as goal

-- the stamps that stand in their vector behind a commit
stood : (items slice new : List ℕ) (writes others : List PageImage) (count number other : ℕ) → count ≡ length items → slice ≡ items → others ≡ writes → number ≡ other → new ≡ with_stamps number slice (pages_of others)
    → take count (new ++ drop (length new) items) ≡ with_stamps other items (pages_of writes)
stood items slice new writes others count number other long is are told made =
    let all : new ≡ with_stamps other items (pages_of writes) =
    made ∙ ap (λ n. with_stamps n slice (pages_of others)) told ∙ ap (λ (l : List ℕ). with_stamps other l (pages_of others)) is ∙ ap (λ (l : List PageImage). with_stamps other items (pages_of l)) are in
    written_back items new count (ap length all ∙ length-with_stamps other items (pages_of writes)) long ∙ all

pub invariant_of-self : goal.invariant_of-self
invariant_of-self c =
    let marks : List Mark = drop c.self.inside.dropped c.self.inside.marks.items in
    let is : marks ≡ c.args.self.now.marks = ap (λ (b : Base). b.marks) c.self.view_is in
    let number = c.newest-number.ensures ∙ ap newest (c.marks.ensures ∙ sym is) in
    let stamps = stood c.self.inside.stamps.items c.deref_mut.result.now c.stamp_writes.new.stamps c.args.writes.now c.images-in-None.result.now c.self.inside.stamps.len c.newest-number.result (newest marks) c.self.inside.stamps.ok.0 c.deref_mut.ensures.value c.images-in-None.ensures.value number c.stamp_writes.ensures in
    record {
      kept = c.self.invariant.kept;
      room = c.self.invariant.room;
      pages = omega (arith, ap length stamps, length-with_stamps (newest marks) c.self.inside.stamps.items (pages_of c.args.writes.now), c.self.invariant.pages);
      below = subst (λ (l : List ℕ). AllByRecursion (λ stamp. stamp ≤ newest marks) l) (sym stamps) (stamps_bounded (newest marks) c.self.inside.stamps.items (pages_of c.args.writes.now) c.self.invariant.below);
    }

pub overflow_add-number : goal.overflow_add-number
overflow_add-number c =
    let right = subst (λ l. IsRight c.args.self.now (Commit l c.args.writes.now)) c.in-Some.is c.requires in
    let old : Base = c.args.self.now in
    let captures : ℕ = old.captures + length (pages_of (capturing old c.args.writes.now)) in
    let next : newest (old.marks ++ record { number = newest old.marks + 1; label = c.in-Some.label; start = captures } ∷ []) ≡ newest old.marks + 1 =
    newest-push old.marks (record { number = newest old.marks + 1; label = c.in-Some.label; start = captures }) in
    let number : c.newest-number.result ≡ newest old.marks = c.newest-number.ensures ∙ ap newest c.marks.ensures in
    omega (arith, next, right.2.newest, number)

pub invariant_of-self-in-Some : goal.invariant_of-self-in-Some
invariant_of-self-in-Some c =
    let marks : List Mark = drop c.self.inside.dropped c.self.inside.marks.items in
    let is : marks ≡ c.args.self.now.marks = ap (λ (b : Base). b.marks) c.self.view_is in
    let number : c.newest-number.result ≡ newest marks = c.newest-number.ensures ∙ ap newest (c.marks.ensures ∙ sym is) in
    let mark : Mark = record { number = c.newest-number.result + 1; label = c.in-Some.label; start = c.self.inside.captures + c.captured_count-count.result } in
    let items : c.push_reserved.new.self.items ≡ c.self.inside.marks.items ++ mark ∷ [] = c.push_reserved.ensures.items in
    let more : length c.push_reserved.new.self.items ≡ length c.self.inside.marks.items + 1 = ap length items ∙ length_push c.self.inside.marks.items mark in
    let newer : newest (drop c.self.inside.dropped c.push_reserved.new.self.items) ≡ c.newest-number.result + 1 =
    ap (λ (l : List Mark). newest (drop c.self.inside.dropped l)) items
    ∙ ap newest (drop-append-le c.self.inside.dropped c.self.inside.marks.items (mark ∷ []) (omega (arith, c.self.invariant.kept)))
    ∙ newest-push marks mark in
    record {
      kept = omega (arith, more, c.self.invariant.kept);
      room = subst (λ n. 131072 ≤ n) (sym c.push_reserved.ensures.capacity) c.self.invariant.room;
      pages = c.self.invariant.pages;
      below = stamps_higher (newest marks) _ c.self.inside.stamps.items (omega (arith, newer, number)) c.self.invariant.below;
    }

pub returns-in-None : goal.returns-in-None
returns-in-None c =
    let marks : List Mark = drop c.self.inside.dropped c.self.inside.marks.items in
    let is : marks ≡ c.args.self.now.marks = ap (λ (b : Base). b.marks) c.self.view_is in
    let number = c.newest-number.ensures ∙ ap newest (c.marks.ensures ∙ sym is) in
    let stamps = stood c.self.inside.stamps.items c.deref_mut.result.now c.stamp_writes.new.stamps c.args.writes.now c.images-in-None.result.now c.self.inside.stamps.len c.newest-number.result (newest marks) c.self.inside.stamps.ok.0 c.deref_mut.ensures.value c.images-in-None.ensures.value number c.stamp_writes.ensures in
    let base : Base = stamped_base c.self.inside.capacity c.self.inside.changes c.self.inside.captures marks c.self.inside.stamps.items in
    let count : c.captured_count-count.result ≡ length (capturing base c.args.writes.now) =
    c.captured_count-count.ensures ∙ ap (λ (l : List PageImage). length (capturing c.args.self.now l)) c.images.ensures.value ∙ ap (λ (b : Base). length (capturing b c.args.writes.now)) (sym c.self.view_is) in
    let within = subst (λ n. AllByRecursion (λ (write : PageImage). write.page < n) c.args.writes.now) (sym (ap (λ (b : Base). b.page_count) c.self.view_is)) c.requires.0 in
    ap (λ n. stamped_base c.self.inside.capacity ((c.self.inside.changes + 1) % 2 ^ 64) (c.self.inside.captures + n) marks (take c.self.inside.stamps.len (c.stamp_writes.new.stamps ++ drop (length c.stamp_writes.new.stamps) c.self.inside.stamps.items))) count
    ∙ ap (λ (l : List ℕ). stamped_base c.self.inside.capacity ((c.self.inside.changes + 1) % 2 ^ 64) (c.self.inside.captures + length (capturing base c.args.writes.now)) marks l) stamps
    ∙ committed c.self.inside.capacity c.self.inside.changes c.self.inside.captures marks c.self.inside.stamps.items c.args.writes.now c.images.ensures.rising within
    ∙ ap (λ (b : Base). base_after b (Commit None c.args.writes.now)) c.self.view_is
    ∙ ap (λ l. base_after c.args.self.now (Commit l c.args.writes.now)) (sym c.in-None.is)

pub returns-in-Some : goal.returns-in-Some
returns-in-Some c =
    let marks : List Mark = drop c.self.inside.dropped c.self.inside.marks.items in
    let is : marks ≡ c.args.self.now.marks = ap (λ (b : Base). b.marks) c.self.view_is in
    let number : c.newest-number.result ≡ newest marks = c.newest-number.ensures ∙ ap newest (c.marks.ensures ∙ sym is) in
    let base : Base = stamped_base c.self.inside.capacity c.self.inside.changes c.self.inside.captures marks c.self.inside.stamps.items in
    let count : c.captured_count-count.result ≡ length (capturing base c.args.writes.now) =
    c.captured_count-count.ensures ∙ ap (λ (l : List PageImage). length (capturing c.args.self.now l)) c.images.ensures.value ∙ ap (λ (b : Base). length (capturing b c.args.writes.now)) (sym c.self.view_is) in
    let mark : Mark = record { number = c.newest-number.result + 1; label = c.in-Some.label; start = c.self.inside.captures + c.captured_count-count.result } in
    let items : drop c.self.inside.dropped c.push_reserved.new.self.items ≡ marks ++ mark ∷ [] =
    ap (drop c.self.inside.dropped) c.push_reserved.ensures.items ∙ drop-append-le c.self.inside.dropped c.self.inside.marks.items (mark ∷ []) (omega (arith, c.self.invariant.kept)) in
    let changes : ℕ = (c.self.inside.changes + 1) % 2 ^ 64 in
    ap (λ (l : List Mark). stamped_base c.self.inside.capacity changes (c.self.inside.captures + c.captured_count-count.result) l c.self.inside.stamps.items) items
    ∙ ap (λ n. stamped_base c.self.inside.capacity changes (c.self.inside.captures + n) (marks ++ record { number = c.newest-number.result + 1; label = c.in-Some.label; start = c.self.inside.captures + n } ∷ []) c.self.inside.stamps.items) count
    ∙ ap (λ n. stamped_base c.self.inside.capacity changes (c.self.inside.captures + length (capturing base c.args.writes.now)) (marks ++ record { number = n + 1; label = c.in-Some.label; start = c.self.inside.captures + length (capturing base c.args.writes.now) } ∷ []) c.self.inside.stamps.items) number
    ∙ declaring c.self.inside.capacity c.self.inside.changes c.self.inside.captures marks c.self.inside.stamps.items c.in-Some.label c.args.writes.now c.self.invariant.below
    ∙ ap (λ (b : Base). base_after b (Commit (Some c.in-Some.label) c.args.writes.now)) c.self.view_is
    ∙ ap (λ l. base_after c.args.self.now (Commit l c.args.writes.now)) (sym c.in-Some.is)
