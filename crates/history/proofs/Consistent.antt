-- Histories stay consistent, and capture by the rule.
use Rattle.std.proofs.Common.{◌≡◌, ◌+◌, ◌∙◌, ◌||◌, ◌&&◌, not, ℕ, Bool, true, false, cond, List, [], ◌∷◌, ◌++◌, length, drop, map, Some, None, refl, sym, ap, subst, arith, length-append}
use Rattle.std.specs.Prelude.{filter}
use Rattle.std.specs.List.{AllByRecursion}
use Rattle.std.proofs.lemmas.Bool.{and_right}
use Rattle.std.proofs.lemmas.List.{append-nil, drop-append-le, map-append, drop_all}
use Rattle.history.specs.declared.entry.Base.{Base}
use Rattle.history.specs.declared.entry.Mark.{Mark}
use Rattle.history.specs.declared.entry.Change.{Change}
use Rattle.history.specs.declared.entry.Change.TheVariants.{Commit, Drop}
use Rattle.history.specs.declared.writes.PageImage.{PageImage}
use Rattle.history.specs.Marks.{newest, newest_start, start_of, AreMarks}
use Rattle.history.specs.Writes.{pages_of, is_among}
use Rattle.history.specs.History.{is_declared, capturing, base_after, State, after, before_write, captured_by, History, now, captures, with_change}
use Rattle.history.specs.Laws.{captured_since, IsConsistent, KeepsNewest, AllKeepNewest, MadeIsConsistent, StaysConsistent, CapturesAreCounted, CapturesGrow, CapturedByTheRule, NothingTwice, StartsCount}
use Rattle.history.proofs.PageLists.{pages_of-before}
use Rattle.history.proofs.MarkLaws.{newest_start-push, kept-newest, rise-more, rise-push, rise-kept, top-newest, newest_start-within, start-append, start-push}
use Rattle.history.proofs.Captures.{now-with, with_changes-step, with_changes-none, captures-count, captures-grow, captured-length, among-append, among-with_pages, undeclared-none, filter-same}

-- the pages that a base tells as captured are those with a capture since the newest snapshot
abbrev Traced : State → List PageImage → ℕ → Type 0
Traced state images page = is_among page state.base.captured ≡ (is_declared state.base.marks && is_among page (pages_of (drop (newest_start state.base.marks) images)))

pages_of-append : (xs ys : List PageImage) → pages_of (xs ++ ys) ≡ pages_of xs ++ pages_of ys
pages_of-append xs ys = map-append (λ (image : PageImage). image.page) xs ys

-- one more commit without a declaration
both_more : (declared captured since new : Bool) → captured ≡ (declared && since) → (declared ≡ false → new ≡ false) → (captured || new) ≡ (declared && (since || new))
both_more true captured since new e none = ap (λ b. b || new) e
both_more false captured since new e none = ap (λ b. b || new) e ∙ none refl

traced_after : (state : State) (images : List PageImage) (change : Change) (page : ℕ) → KeepsNewest state.base change → length images ≡ state.base.captures → AreMarks state.base.captures state.base.marks → Traced state images page
    → Traced (after state change) (images ++ captured_by state change) page
traced_after state images (Commit None writes) page keeps count marks traced =
    let new : List PageImage = captured_by state (Commit None writes) in
    let start : ℕ = newest_start state.base.marks in
    let written : List ℕ = pages_of (capturing state.base writes) in
    let since : pages_of (drop start (images ++ new)) ≡ pages_of (drop start images) ++ written =
    ap pages_of (drop-append-le start images new (omega (arith, count, newest_start-within state.base.captures 0 0 state.base.marks marks)))
    ∙ pages_of-append (drop start images) new ∙ ap (λ (t : List ℕ). pages_of (drop start images) ++ t) (pages_of-before state.pages (capturing state.base writes)) in
    among-with_pages page written state.base.captured
    ∙ both_more (is_declared state.base.marks) (is_among page state.base.captured) (is_among page (pages_of (drop start images))) (is_among page written) traced
    (λ undeclared. ap (λ (ws : List PageImage). is_among page (pages_of ws)) (undeclared-none state.base writes undeclared))
    ∙ sym (ap (λ (t : List ℕ). is_declared state.base.marks && is_among page t) since ∙ ap (λ b. is_declared state.base.marks && b) (among-append page (pages_of (drop start images)) written))
traced_after state images (Commit (Some label) writes) page keeps count marks traced =
    let new : List PageImage = captured_by state (Commit (Some label) writes) in
    let total : ℕ = state.base.captures + length (pages_of (capturing state.base writes)) in
    let mark : Mark = record { number = newest state.base.marks + 1; label = label; start = total } in
    let whole : length (images ++ new) ≡ total = omega (arith, count, length-append images new, captured-length state (Commit (Some label) writes)) in
    let none : drop (newest_start (state.base.marks ++ mark ∷ [])) (images ++ new) ≡ [] = drop_all (newest_start (state.base.marks ++ mark ∷ [])) (images ++ new) (omega (arith, whole, newest_start-push state.base.marks mark)) in
    sym (ap (λ (t : List PageImage). is_declared (state.base.marks ++ mark ∷ []) && is_among page (pages_of t)) none ∙ and_right (is_declared (state.base.marks ++ mark ∷ [])) false refl)
traced_after state images (Drop below) page keeps count marks traced =
    let kept = kept-newest below state.base.marks keeps in
    rw (kept.1, kept.2, append-nil) traced

pub marks_after : (state : State) (change : Change) → KeepsNewest state.base change → AreMarks state.base.captures state.base.marks → AreMarks (after state change).base.captures (after state change).base.marks
marks_after state (Commit None writes) keeps marks = rise-more state.base.captures (state.base.captures + length (pages_of (capturing state.base writes))) 0 0 state.base.marks (omega arith) marks
marks_after state (Commit (Some label) writes) keeps marks =
    let total : ℕ = state.base.captures + length (pages_of (capturing state.base writes)) in
    rise-push state.base.captures 0 0 state.base.marks (record { number = newest state.base.marks + 1; label = label; start = total }) marks (omega arith) (omega (arith, top-newest state.base.marks))
marks_after state (Drop below) keeps marks = rise-kept state.base.captures 0 0 below state.base.marks marks

pub step_consistent : (history : History) (change : Change) → IsConsistent history → KeepsNewest (now history).base change → IsConsistent (with_change history change)
step_consistent history change fine keeps =
    let next : now (with_change history change) ≡ after (now history) change = now-with history change in
    let count : length (captures history) ≡ (now history).base.captures = captures-count history fine.counted fine.known in
    record {
      counted = fine.counted;
      known = omega (arith, fine.known, ap (λ (s : State). s.base.captures) next, captured-length (now history) change);
      marks = subst (λ (s : State). AreMarks s.base.captures s.base.marks) (sym next) (marks_after (now history) change keeps fine.marks);
      captured = λ page.
          subst (λ (xs : List PageImage). Traced (now (with_change history change)) xs page) (sym (captures-grow history fine.counted fine.known change))
          (subst (λ (s : State). Traced s (captures history ++ captured_by (now history) change) page) (sym next) (traced_after (now history) (captures history) change page keeps count fine.marks (fine.captured page)));
    }

pub next_keeps : (history : History) (change : Change) (more : List Change) → AllKeepNewest (base_after (now history).base change) more → AllKeepNewest (now (with_change history change)).base more
next_keeps history change more all = subst (λ (s : State). AllKeepNewest s.base more) (sym (now-with history change)) all

pub stays_consistent : StaysConsistent
stays_consistent history [] fine all = subst IsConsistent (sym (with_changes-none history)) fine
stays_consistent history (change ∷ more) fine all =
    subst IsConsistent (sym (with_changes-step history change more)) (stays_consistent (with_change history change) more (step_consistent history change fine all.0) (next_keeps history change more all.1))

pub made_is_consistent : MadeIsConsistent
made_is_consistent base pages none zero_is empty = record {
  counted = omega (arith, zero_is);
  known = omega arith;
  marks = rw none (omega arith);
  captured = λ page. rw (empty, none) refl;
}

pub captures_are_counted : CapturesAreCounted
captures_are_counted history fine = captures-count history fine.counted fine.known

pub captures_grow : CapturesGrow
captures_grow history change fine = captures-grow history fine.counted fine.known change

same_test : (declared captured since : Bool) → captured ≡ (declared && since) → (declared && not captured) ≡ (declared && not since)
same_test true captured since e = ap not e
same_test false captured since e = refl

pub captured_by_the_rule : CapturedByTheRule
captured_by_the_rule history label writes fine =
    ap (map (before_write (now history).pages))
    (filter-same (λ (write : PageImage). is_declared (now history).base.marks && not (is_among write.page (now history).base.captured)) (λ (write : PageImage). is_declared (now history).base.marks && not (is_among write.page (captured_since history))) writes
    (λ write. same_test (is_declared (now history).base.marks) (is_among write.page (now history).base.captured) (is_among write.page (captured_since history)) (fine.captured write.page)))

none_left : (declared : Bool) (since : List ℕ) (writes : List PageImage) → AllByRecursion (λ write. is_among write.page since ≡ true) writes → filter (λ (write : PageImage). declared && not (is_among write.page since)) writes ≡ []
none_left declared since [] all = refl
none_left declared since (write ∷ writes) all =
    let fails : (declared && not (is_among write.page since)) ≡ false = ap (λ b. declared && not b) all.0 ∙ and_right declared false refl in
    ap (λ b. cond b (write ∷ filter (λ (w : PageImage). declared && not (is_among w.page since)) writes) (filter (λ (w : PageImage). declared && not (is_among w.page since)) writes)) fails ∙ none_left declared since writes all.1

pub nothing_twice : NothingTwice
nothing_twice history label writes fine all = captured_by_the_rule history label writes fine ∙ ap (map (before_write (now history).pages)) (none_left (is_declared (now history).base.marks) (captured_since history) writes all)

pub starts_count : StartsCount
starts_count history label writes fine =
    let change : Change = Commit (Some label) writes in
    let next : now (with_change history change) ≡ after (now history) change = now-with history change in
    let base : Base = (now history).base in
    let total : ℕ = base.captures + length (pages_of (capturing base writes)) in
    let mark : Mark = record { number = newest base.marks + 1; label = label; start = total } in
    let later : IsConsistent (with_change history change) = step_consistent history change fine tt in
    let count : length (captures (with_change history change)) ≡ total = captures_are_counted (with_change history change) later ∙ ap (λ (s : State). s.base.captures) next in (
      ap (λ (s : State). start_of (newest base.marks + 1) s.base.marks) next ∙ start-push base.captures 0 0 base.marks mark fine.marks (omega (arith, top-newest base.marks)) ∙ sym count,
      λ number kept. ap (λ (s : State). start_of number s.base.marks) next ∙ start-append number base.marks (mark ∷ []) kept,
    )
