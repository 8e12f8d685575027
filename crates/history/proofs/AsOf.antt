-- A page as of a retained snapshot is that page just after the commit that declared it.
use Rattle.std.proofs.Common.{◌≡◌, inl, inr, ◌≤◌, ◌+◌, ◌-◌, ◌∙◌, ◌||◌, ◌&&◌, not, ℕ, zero, suc, Bool, true, false, cond, eqb, List, [], ◌∷◌, ◌++◌, length, drop, take, map, Option, Some, None, refl, sym, ap, arith}
use Rattle.std.specs.Prelude.{slice_get, option_map, unwrap_or}
use Rattle.std.specs.List.{position, position_from}
use Rattle.std.proofs.lemmas.Bool.{cases_Bool, and_parts, or_right, eqb-true, cond-true, cond-false}
use Rattle.std.proofs.lemmas.List.{drop-append-le, length-map, drop-map, take_rest, drop_all, drop-drop}
use Rattle.std.proofs.lemmas.Iterator.Adapters.{position_from-zero}
use Rattle.history.specs.declared.entry.Base.{Base}
use Rattle.history.specs.declared.entry.Mark.{Mark}
use Rattle.history.specs.declared.entry.Change.{Change}
use Rattle.history.specs.declared.entry.Change.TheVariants.{Commit, Drop}
use Rattle.history.specs.declared.writes.PageImage.{PageImage}
use Rattle.history.specs.Marks.{newest, newest_start, start_of, is_retained, AreMarks}
use Rattle.history.specs.Writes.{pages_of, is_among}
use Rattle.history.specs.History.{is_declared, captures_page, capturing, with_write, written, base_after, bases_after, State, after, before_write, captured_by, History, now, captures, with_change, with_changes, bytes_at, pages_as_of}
use Rattle.history.specs.Laws.{captured_since, IsConsistent, KeepsNewest, AllKeepNewest, AsOfTheDeclaration, AsOfStays}
use Rattle.history.proofs.MarkLaws.{newest-push, kept-newest, newest_start-within, start-le, start-kept, start-append, retained-push, retained-kept}
use Rattle.history.proofs.Captures.{now-with, run-append, run-base, with_changes-step, with_changes-none, captures-count, captures-grow}
use Rattle.history.proofs.Consistent.{step_consistent, next_keeps, starts_count}

-- the bytes of the first image of a page, else what the pages have
abbrev pub over : (ℕ → List ℕ) → List PageImage → ℕ → List ℕ
over pages [] page = pages page
over pages (image ∷ images) page = cond (eqb image.page page) image.bytes (over pages images page)

get_at : (images : List PageImage) (place : ℕ) (image : PageImage) (rest : List PageImage) → drop place images ≡ image ∷ rest → slice_get images place ≡ Some image
get_at [] zero image rest e = absurd cc
get_at [] (suc place) image rest e = absurd cc
get_at (x ∷ images) zero image rest e = cc
get_at (x ∷ images) (suc place) image rest e = get_at images place image rest e

drop_next : (images : List PageImage) (place : ℕ) (image : PageImage) (rest : List PageImage) → drop place images ≡ image ∷ rest → drop (place + 1) images ≡ rest
drop_next images place image rest e = sym (drop-drop 1 place images) ∙ ap (drop 1) e

met : (images rest : List PageImage) (start i page : ℕ) (bytes : List ℕ) → drop (start + i) images ≡ rest
    → bytes_at images bytes (option_map (λ place. start + place) (position_from (λ other. eqb other page) i (pages_of rest))) ≡ over (λ p. bytes) rest page
met images [] start i page bytes e = refl
met images (image ∷ rest) start i page bytes e =
    go (eqb image.page page) (met images rest start (i + 1) page bytes (ap (λ n. drop n images) (let k : start + (i + 1) ≡ start + i + 1 = omega arith in k) ∙ drop_next images (start + i) image rest e)) where
      go : (b : Bool) → bytes_at images bytes (option_map (λ place. start + place) (position_from (λ other. eqb other page) (i + 1) (pages_of rest))) ≡ over (λ p. bytes) rest page
          → bytes_at images bytes (option_map (λ place. start + place) (cond b (Some i) (position_from (λ other. eqb other page) (i + 1) (pages_of rest)))) ≡ cond b image.bytes (over (λ p. bytes) rest page)
      go true again = ap (λ (o : Option PageImage). unwrap_or (option_map (λ (x : PageImage). x.bytes) o) bytes) (get_at images (start + i) image rest e)
      go false again = again

over-constant : (pages : ℕ → List ℕ) (images : List PageImage) (page : ℕ) → over (λ p. pages page) images page ≡ over pages images page
over-constant pages [] page = refl
over-constant pages (image ∷ images) page = ap (cond (eqb image.page page) image.bytes) (over-constant pages images page)

-- a page as of a snapshot, without numbers
pub as_of-over : (history : History) (number page : ℕ) → pages_as_of history number page ≡ over (now history).pages (drop (start_of number (now history).base.marks) (captures history)) page
as_of-over history number page =
    let images : List PageImage = captures history in
    let start : ℕ = start_of number (now history).base.marks in
    let bytes : List ℕ = (now history).pages page in
    let test : ℕ → Bool = λ other. eqb other page in
    let part : take (length images - start) (drop start (pages_of images)) ≡ pages_of (drop start images) =
    ap (λ n. take (n - start) (drop start (pages_of images))) (sym (length-map images (λ (image : PageImage). image.page))) ∙ take_rest (pages_of images) start ∙ drop-map (λ (image : PageImage). image.page) start images in
    ap (λ (ps : List ℕ). bytes_at images bytes (option_map (λ place. start + place) (position test ps))) part
    ∙ ap (λ (o : Option ℕ). bytes_at images bytes (option_map (λ place. start + place) o)) (position_from-zero test (pages_of (drop start images)))
    ∙ met images (drop start images) start 0 page bytes (let k : start + 0 ≡ start = omega arith in ap (λ n. drop n images) k)
    ∙ over-constant (now history).pages (drop start images) page

over-append : (pages : ℕ → List ℕ) (xs ys : List PageImage) (page : ℕ) → over pages (xs ++ ys) page ≡ over (over pages ys) xs page
over-append pages [] ys page = refl
over-append pages (x ∷ xs) ys page = ap (cond (eqb x.page page) x.bytes) (over-append pages xs ys page)

over-same : (f g : ℕ → List ℕ) (xs : List PageImage) (page : ℕ) → f page ≡ g page → over f xs page ≡ over g xs page
over-same f g [] page e = e
over-same f g (x ∷ xs) page e = ap (cond (eqb x.page page) x.bytes) (over-same f g xs page e)

-- where an image of the page is there, the pages don't count
over-met : (f g : ℕ → List ℕ) (xs : List PageImage) (page : ℕ) → is_among page (pages_of xs) ≡ true → over f xs page ≡ over g xs page
over-met f g [] page e = absurd cc
over-met f g (x ∷ xs) page e = go (eqb x.page page) (over-met f g xs page) e where
  go : (b : Bool) → (is_among page (pages_of xs) ≡ true → over f xs page ≡ over g xs page) → (b || is_among page (pages_of xs)) ≡ true → cond b x.bytes (over f xs page) ≡ cond b x.bytes (over g xs page)
  go true again k = refl
  go false again k = again k

-- a page that is not written stays
pub unwritten : (pages : ℕ → List ℕ) (writes : List PageImage) (page : ℕ) → is_among page (pages_of writes) ≡ false → written pages writes page ≡ pages page
unwritten pages [] page e = refl
unwritten pages (write ∷ writes) page e = go (eqb write.page page) refl e (unwritten (with_write pages write) writes page) where
  go : (b : Bool) → eqb write.page page ≡ b → (b || is_among page (pages_of writes)) ≡ false → (is_among page (pages_of writes) ≡ false → written (with_write pages write) writes page ≡ with_write pages write page) → written (with_write pages write) writes page ≡ pages page
  go true is k again = absurd cc
  go false is k again = again k ∙ cond-false (eqb write.page page) write.bytes (pages page) is

-- over what a commit writes, what it captured gives the bytes from before it
undone : (base : Base) (f g : ℕ → List ℕ) (writes : List PageImage) (page : ℕ) → captures_page base page ≡ true → (is_among page (pages_of writes) ≡ false → g page ≡ f page)
    → over g (map (before_write f) (capturing base writes)) page ≡ f page
undone base f g [] page catches h = h refl
undone base f g (write ∷ writes) page catches h = go (eqb write.page page) refl (λ i. undone base f g writes page catches i) where
  rest : List PageImage
  rest = map (before_write f) (capturing base writes)

  go : (b : Bool) → eqb write.page page ≡ b → ((is_among page (pages_of writes) ≡ false → g page ≡ f page) → over g (map (before_write f) (capturing base writes)) page ≡ f page)
      → over g (map (before_write f) (cond (captures_page base write.page) (write ∷ capturing base writes) (capturing base writes))) page ≡ f page
  go true e again =
      let is : write.page ≡ page = eqb-true write.page page e in
      ap (λ (t : List PageImage). over g (map (before_write f) t) page) (cond-true (captures_page base write.page) (write ∷ capturing base writes) (capturing base writes) (ap (captures_page base) is ∙ catches))
      ∙ cond-true (eqb write.page page) (f write.page) (over g (map (before_write f) (capturing base writes)) page) e
      ∙ ap f is
  go false e again =
      let more : over g (map (before_write f) (capturing base writes)) page ≡ f page = again (λ i. h (ap (λ b. b || is_among page (pages_of writes)) e ∙ i)) in
      step (captures_page base write.page) more where
        step : (b : Bool) → over g (map (before_write f) (capturing base writes)) page ≡ f page → over g (map (before_write f) (cond b (write ∷ capturing base writes) (capturing base writes))) page ≡ f page
        step true more = cond-false (eqb write.page page) (f write.page) (over g (map (before_write f) (capturing base writes)) page) e ∙ more
        step false more = more

undone_by : (state : State) (change : Change) (page : ℕ) → captures_page state.base page ≡ true → over (after state change).pages (captured_by state change) page ≡ state.pages page
undone_by state (Commit label writes) page catches = undone state.base state.pages (written state.pages writes) writes page catches (λ i. unwritten state.pages writes page i)
undone_by state (Drop below) page catches = refl

among-drop : (page n : ℕ) (xs : List PageImage) → is_among page (pages_of (drop n xs)) ≡ true → is_among page (pages_of xs) ≡ true
among-drop page zero xs e = e
among-drop page (suc n) [] e = e
among-drop page (suc n) (x ∷ xs) e = or_right (eqb x.page page) (is_among page (pages_of xs)) (among-drop page n xs e)

-- a snapshot that is retained behind a change was there before it, unless the change declared it
pub retained_before : (base : Base) (change : Change) (number : ℕ) → number ≤ newest base.marks → is_retained number (base_after base change).marks ≡ true → is_retained number base.marks ≡ true
retained_before base (Commit None writes) number le kept = kept
retained_before base (Commit (Some label) writes) number le kept =
    let total : ℕ = base.captures + length (pages_of (capturing base writes)) in
    let mark : Mark = record { number = newest base.marks + 1; label = label; start = total } in
    retained-push number base.marks mark kept (λ is. absurd (omega (arith, is, le)))
retained_before base (Drop below) number le kept = retained-kept number below base.marks kept

pub newest_rises : (base : Base) (change : Change) → KeepsNewest base change → newest base.marks ≤ newest (base_after base change).marks
newest_rises base (Commit None writes) keeps = omega arith
newest_rises base (Commit (Some label) writes) keeps =
    let total : ℕ = base.captures + length (pages_of (capturing base writes)) in
    omega (arith, newest-push base.marks (record { number = newest base.marks + 1; label = label; start = total }))
newest_rises base (Drop below) keeps = omega (arith, (kept-newest below base.marks keeps).0)

retained_at_first : (base : Base) (more : List Change) (number : ℕ) → AllKeepNewest base more → number ≤ newest base.marks → is_retained number (bases_after base more).marks ≡ true → is_retained number base.marks ≡ true
retained_at_first base [] number all le kept = kept
retained_at_first base (change ∷ more) number all le kept =
    retained_before base change number le (retained_at_first (base_after base change) more number all.1 (omega (arith, le, newest_rises base change all.0)) kept)

pub base_behind_all : (history : History) (more : List Change) → (now (with_changes history more)).base ≡ bases_after (now history).base more
base_behind_all history more = ap (λ (s : State). s.base) (run-append history.origin history.changes more) ∙ run-base (now history) more

-- the start of a snapshot that is retained before and behind a change
start_same : (base : Base) (change : Change) (number : ℕ) → AreMarks base.captures base.marks → is_retained number base.marks ≡ true → is_retained number (base_after base change).marks ≡ true → start_of number (base_after base change).marks ≡ start_of number base.marks
start_same base (Commit None writes) number marks was kept = refl
start_same base (Commit (Some label) writes) number marks was kept =
    let total : ℕ = base.captures + length (pages_of (capturing base writes)) in
    start-append number base.marks (record { number = newest base.marks + 1; label = label; start = total } ∷ []) was
start_same base (Drop below) number marks was kept = start-kept base.captures 0 0 number below base.marks marks kept

declared_if : (number : ℕ) (marks : List Mark) → is_retained number marks ≡ true → is_declared marks ≡ true
declared_if number [] e = absurd cc
declared_if number (mark ∷ marks) e = refl

catches_if : (declared captured : Bool) → declared ≡ true → captured ≡ false → (declared && not captured) ≡ true
catches_if true true a b = absurd cc
catches_if true false a b = refl
catches_if false captured a b = absurd cc

-- one change leaves each page as of a snapshot that is retained before and behind it
one_stays : (history : History) (change : Change) (number : ℕ) → IsConsistent history → is_retained number (now history).base.marks ≡ true → is_retained number (base_after (now history).base change).marks ≡ true → (page : ℕ)
    → pages_as_of (with_change history change) number page ≡ pages_as_of history number page
one_stays history change number fine was kept page =
    let state : State = now history in
    let next : now (with_change history change) ≡ after state change = now-with history change in
    let images : List PageImage = captures history in
    let new : List PageImage = captured_by state change in
    let start : ℕ = start_of number state.base.marks in
    let count : length images ≡ state.base.captures = captures-count history fine.counted fine.known in
    let early : start ≤ newest_start state.base.marks = start-le state.base.captures 0 0 number state.base.marks fine.marks in
    let within : start ≤ length images = omega (arith, count, early, newest_start-within state.base.captures 0 0 state.base.marks fine.marks) in
    as_of-over (with_change history change) number page
    ∙ ap (λ (s : State). over s.pages (drop (start_of number s.base.marks) (captures (with_change history change))) page) next
    ∙ ap (λ (xs : List PageImage). over (after state change).pages (drop (start_of number (after state change).base.marks) xs) page) (captures-grow history fine.counted fine.known change)
    ∙ ap (λ n. over (after state change).pages (drop n (images ++ new)) page) (start_same state.base change number fine.marks was kept)
    ∙ ap (λ (xs : List PageImage). over (after state change).pages xs page) (drop-append-le start images new within)
    ∙ over-append (after state change).pages (drop start images) new page
    ∙ elim (cases_Bool (is_among page state.base.captured)) [
      | inl had ↦
          let since : is_among page (captured_since history) ≡ true = (and_parts (is_declared state.base.marks) (is_among page (captured_since history)) (sym (fine.captured page) ∙ had)).1 in
          let later : drop (newest_start state.base.marks) images ≡ drop (newest_start state.base.marks - start) (drop start images) =
          (let k : newest_start state.base.marks ≡ start + (newest_start state.base.marks - start) = omega (arith, early) in ap (λ n. drop n images) k) ∙ sym (drop-drop (newest_start state.base.marks - start) start images) in
          over-met (over (after state change).pages new) state.pages (drop start images) page (among-drop page (newest_start state.base.marks - start) (drop start images) (ap (λ (xs : List PageImage). is_among page (pages_of xs)) (sym later) ∙ since))
      | inr free ↦ over-same (over (after state change).pages new) state.pages (drop start images) page (undone_by state change page (catches_if (is_declared state.base.marks) (is_among page state.base.captured) (declared_if number state.base.marks was) free))
    ]
    ∙ sym (as_of-over history number page)

still : (history : History) (more : List Change) (number : ℕ) → AllKeepNewest (now history).base more → number ≤ newest (now history).base.marks → is_retained number (now (with_changes history more)).base.marks ≡ true → is_retained number (now history).base.marks ≡ true
still history more number all le kept = retained_at_first (now history).base more number all le (ap (λ (b : Base). is_retained number b.marks) (sym (base_behind_all history more)) ∙ kept)

pub as_of_stays : AsOfStays
as_of_stays history [] number fine all le kept page = ap (λ (h : History). pages_as_of h number page) (with_changes-none history)
as_of_stays history (change ∷ more) number fine all le kept page =
    let step : History = with_change history change in
    let next : now step ≡ after (now history) change = now-with history change in
    let later : is_retained number (now (with_changes step more)).base.marks ≡ true = ap (λ (h : History). is_retained number (now h).base.marks) (sym (with_changes-step history change more)) ∙ kept in
    let keeps : AllKeepNewest (now step).base more = next_keeps history change more all.1 in
    let up : number ≤ newest (now step).base.marks = omega (arith, le, newest_rises (now history).base change all.0, ap (λ (s : State). newest s.base.marks) next) in
    let there : is_retained number (now step).base.marks ≡ true = still step more number keeps up later in
    let behind : is_retained number (base_after (now history).base change).marks ≡ true = ap (λ (s : State). is_retained number s.base.marks) (sym next) ∙ there in
    ap (λ (h : History). pages_as_of h number page) (with_changes-step history change more)
    ∙ as_of_stays step more number (step_consistent history change fine all.0) keeps up later page
    ∙ one_stays history change number fine (retained_before (now history).base change number le behind) behind page

-- at its declaration a page as of a snapshot is the page
at_declaration : (history : History) (label : List ℕ) (writes : List PageImage) → IsConsistent history → (page : ℕ)
    → pages_as_of (with_change history (Commit (Some label) writes)) (newest (now history).base.marks + 1) page ≡ (now (with_change history (Commit (Some label) writes))).pages page
at_declaration history label writes fine page =
    let declared : History = with_change history (Commit (Some label) writes) in
    let number : ℕ = newest (now history).base.marks + 1 in
    let none : drop (start_of number (now declared).base.marks) (captures declared) ≡ [] = drop_all (start_of number (now declared).base.marks) (captures declared) (omega (arith, (starts_count history label writes fine).0)) in
    as_of-over declared number page ∙ ap (λ (xs : List PageImage). over (now declared).pages xs page) none

pub as_of_the_declaration : AsOfTheDeclaration
as_of_the_declaration history label writes more fine all kept page =
    let change : Change = Commit (Some label) writes in
    let declared : History = with_change history change in
    let number : ℕ = newest (now history).base.marks + 1 in
    let base : Base = (now history).base in
    let mark : Mark = record { number = number; label = label; start = base.captures + length (pages_of (capturing base writes)) } in
    let le : number ≤ newest (now declared).base.marks = omega (arith, ap (λ (s : State). newest s.base.marks) (now-with history change), newest-push base.marks mark) in
    as_of_stays declared more number (step_consistent history change fine tt) all le kept page ∙ at_declaration history label writes fine page
