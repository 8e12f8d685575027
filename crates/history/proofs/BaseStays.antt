-- The base behind a right change is right.
use Rattle.std.proofs.Common.{◌≡◌, ◌<◌, ◌≤◌, ◌+◌, ◌∙◌, ◌||◌, not, ℕ, Bool, true, false, cond, eqb, leb, ltb, List, [], ◌∷◌, ◌++◌, length, Some, None, refl, ap, arith}
use Rattle.std.specs.List.{AllByRecursion}
use Rattle.std.proofs.lemmas.Bool.{and_parts, and_from, or_parts, ltb-true, ltb-false, leb-true, le-leb, eqb-false, ne_eqb, not-true}
use Rattle.history.specs.declared.entry.Base.{Base}
use Rattle.history.specs.declared.entry.Mark.{Mark}
use Rattle.history.specs.declared.entry.Change.TheVariants.{Commit, Drop}
use Rattle.history.specs.declared.writes.PageImage.{PageImage}
use Rattle.history.specs.Marks.{oldest, newest, kept_marks}
use Rattle.history.specs.Writes.{pages_of, rises, is_among}
use Rattle.history.specs.History.{is_declared, captures_page, capturing, with_page, with_pages}
use Rattle.history.specs.Laws.{StaysRight}
use Rattle.history.proofs.MarkLaws.{newest_start-push, kept-newest, newest_start-within}
use Rattle.history.proofs.Captures.{among-with_page, undeclared-none}
use Rattle.history.proofs.Journals.{base_marks, kept-oldest}

-- ---- pages in their places

length-with_page : (page : ℕ) (pages : List ℕ) → length (with_page page pages) ≡ length pages + 1
length-with_page page [] = refl
length-with_page page (other ∷ pages) = go (ltb page other) (length-with_page page pages) where
  go : (b : Bool) → length (with_page page pages) ≡ length pages + 1 → length (cond b (page ∷ other ∷ pages) (other ∷ with_page page pages)) ≡ length (other ∷ pages) + 1
  go true again = omega arith
  go false again = omega (arith, again)

length-with_pages : (more pages : List ℕ) → length (with_pages more pages) ≡ length pages + length more
length-with_pages [] pages = omega arith
length-with_pages (page ∷ more) pages = omega (arith, length-with_pages more (with_page page pages), length-with_page page pages)

rises-with_page : (least page : ℕ) (pages : List ℕ) → least ≤ page → is_among page pages ≡ false → rises least pages ≡ true → rises least (with_page page pages) ≡ true
rises-with_page least page [] le new up = and_from _ _ (le-leb least page le) refl
rises-with_page least page (other ∷ pages) le new up =
    let here = and_parts (leb least other) (rises (other + 1) pages) up in
    let apart = or_parts (eqb other page) (is_among page pages) new in
    go (ltb page other) refl here.0 here.1 (eqb-false other page apart.0) (λ above. rises-with_page (other + 1) page pages above apart.1 here.1) where
      go : (b : Bool) → ltb page other ≡ b → leb least other ≡ true → rises (other + 1) pages ≡ true → (other ≡ page → ⊥) → (other + 1 ≤ page → rises (other + 1) (with_page page pages) ≡ true)
          → rises least (cond b (page ∷ other ∷ pages) (other ∷ with_page page pages)) ≡ true
      go true lt first rest apart again = and_from _ _ (le-leb least page le) (and_from _ _ (le-leb (page + 1) other (omega (arith, ltb-true page other lt))) rest)
      go false ge first rest apart again = and_from _ _ first (again (omega (arith, ltb-false page other ge, apart)))

-- pages above a number are not among those of a smaller one
apart_from : (least page : ℕ) (pages : List ℕ) → rises least pages ≡ true → page < least → is_among page pages ≡ false
apart_from least page [] up lt = refl
apart_from least page (other ∷ pages) up lt =
    let both = and_parts (leb least other) (rises (other + 1) pages) up in
    let ge : least ≤ other = leb-true least other both.0 in
    ap (λ b. b || is_among page pages) (ne_eqb other page (λ is. absurd (omega (arith, is, ge, lt)))) ∙ apart_from (other + 1) page pages both.1 (omega (arith, ge, lt))

rises-with_pages : (least : ℕ) (more pages : List ℕ) → rises least more ≡ true → AllByRecursion (λ page. is_among page pages ≡ false) more → rises 0 pages ≡ true → rises 0 (with_pages more pages) ≡ true
rises-with_pages least [] pages rise new up = up
rises-with_pages least (page ∷ more) pages rise new up =
    let both = and_parts (leb least page) (rises (page + 1) more) rise in
    rises-with_pages (page + 1) more (with_page page pages) both.1 (still_new (page + 1) more both.1 (omega arith) new.1) (rises-with_page 0 page pages (omega arith) new.0 up) where
      still_new : (n : ℕ) (rest : List ℕ) → rises n rest ≡ true → page < n → AllByRecursion (λ p. is_among p pages ≡ false) rest → AllByRecursion (λ p. is_among p (with_page page pages) ≡ false) rest
      still_new n [] r lt all = tt
      still_new n (p ∷ rest) r lt all =
          let here = and_parts (leb n p) (rises (p + 1) rest) r in
          let above : n ≤ p = leb-true n p here.0 in (
            among-with_page p page pages ∙ ap (λ b. b || is_among p pages) (ne_eqb page p (λ is. absurd (omega (arith, is, above, lt)))) ∙ all.0,
            still_new (p + 1) rest here.1 (omega (arith, above, lt)) all.1,
          )

all-with_page : (limit page : ℕ) (pages : List ℕ) → page < limit → AllByRecursion (λ p. p < limit) pages → AllByRecursion (λ p. p < limit) (with_page page pages)
all-with_page limit page [] lt all = (lt, tt)
all-with_page limit page (other ∷ pages) lt all = go (ltb page other) (all-with_page limit page pages lt all.1) where
  go : (b : Bool) → AllByRecursion (λ p. p < limit) (with_page page pages) → AllByRecursion (λ p. p < limit) (cond b (page ∷ other ∷ pages) (other ∷ with_page page pages))
  go true again = (lt, all)
  go false again = (all.0, again)

all-with_pages : (limit : ℕ) (more pages : List ℕ) → AllByRecursion (λ p. p < limit) more → AllByRecursion (λ p. p < limit) pages → AllByRecursion (λ p. p < limit) (with_pages more pages)
all-with_pages limit [] pages new all = all
all-with_pages limit (page ∷ more) pages new all = all-with_pages limit more (with_page page pages) new.1 (all-with_page limit page pages new.0 all)

-- ---- the pages that a commit captures

rises-higher : (least more : ℕ) (pages : List ℕ) → least ≤ more → rises more pages ≡ true → rises least pages ≡ true
rises-higher least more [] le up = refl
rises-higher least more (page ∷ pages) le up =
    let both = and_parts (leb more page) (rises (page + 1) pages) up in
    and_from _ _ (le-leb least page (omega (arith, le, leb-true more page both.0))) both.1

capturing-rises : (base : Base) (least : ℕ) (writes : List PageImage) → rises least (pages_of writes) ≡ true → rises least (pages_of (capturing base writes)) ≡ true
capturing-rises base least [] up = refl
capturing-rises base least (write ∷ writes) up =
    let both = and_parts (leb least write.page) (rises (write.page + 1) (pages_of writes)) up in
    go (captures_page base write.page) both.0 (capturing-rises base (write.page + 1) writes both.1) where
      go : (b : Bool) → leb least write.page ≡ true → rises (write.page + 1) (pages_of (capturing base writes)) ≡ true → rises least (pages_of (cond b (write ∷ capturing base writes) (capturing base writes))) ≡ true
      go true first again = and_from _ _ first again
      go false first again = rises-higher least (write.page + 1) (pages_of (capturing base writes)) (omega (arith, leb-true least write.page first)) again

capturing-new : (base : Base) (writes : List PageImage) → AllByRecursion (λ page. is_among page base.captured ≡ false) (pages_of (capturing base writes))
capturing-new base [] = tt
capturing-new base (write ∷ writes) = go (captures_page base write.page) refl (capturing-new base writes) where
  go : (b : Bool) → captures_page base write.page ≡ b → AllByRecursion (λ page. is_among page base.captured ≡ false) (pages_of (capturing base writes)) → AllByRecursion (λ page. is_among page base.captured ≡ false) (pages_of (cond b (write ∷ capturing base writes) (capturing base writes)))
  go true is again = (not-true (is_among write.page base.captured) (and_parts (is_declared base.marks) (not (is_among write.page base.captured)) is).1, again)
  go false is again = again

capturing-below : (base : Base) (limit : ℕ) (writes : List PageImage) → AllByRecursion (λ write. write.page < limit) writes → AllByRecursion (λ page. page < limit) (pages_of (capturing base writes))
capturing-below base limit [] all = tt
capturing-below base limit (write ∷ writes) all = go (captures_page base write.page) (capturing-below base limit writes all.1) where
  go : (b : Bool) → AllByRecursion (λ page. page < limit) (pages_of (capturing base writes)) → AllByRecursion (λ page. page < limit) (pages_of (cond b (write ∷ capturing base writes) (capturing base writes)))
  go true again = (all.0, again)
  go false again = again

-- ---- marks

kept-fewer : (below : ℕ) (marks : List Mark) → length (kept_marks below marks) ≤ length marks
kept-fewer below [] = omega arith
kept-fewer below (mark ∷ marks) = go (leb below mark.number) (kept-fewer below marks) where
  go : (b : Bool) → length (kept_marks below marks) ≤ length marks → length (cond b (mark ∷ marks) (kept_marks below marks)) ≤ length (mark ∷ marks)
  go true again = omega arith
  go false again = omega (arith, again)

none_declared : (marks : List Mark) → is_declared marks ≡ true → marks ≡ [] → ⊥
none_declared [] e is = absurd cc
none_declared (mark ∷ marks) e is = absurd cc

some_declared : (marks : List Mark) (below : ℕ) → oldest marks < below → below ≤ newest marks → is_declared marks ≡ true
some_declared [] below lt le = absurd (omega (arith, lt, le))
some_declared (mark ∷ marks) below lt le = refl

push_some : (marks : List Mark) (mark : Mark) → marks ++ mark ∷ [] ≡ [] → ⊥
push_some [] mark e = absurd cc
push_some (first ∷ marks) mark e = absurd cc

pub stays_right : StaysRight
stays_right base (Commit None writes) right rise may =
    let new : List ℕ = pages_of (capturing base writes) in
    record {
      pages = right.pages;
      capacity = right.capacity;
      limits = may.2;
      marks = base_marks base (Commit None writes) tt right.marks;
      undeclared = λ none. omega (arith, right.undeclared none, ap (λ (ws : List PageImage). length (pages_of ws)) (undeclared-none base writes (ap is_declared none)));
      rising = rises-with_pages 0 new base.captured (capturing-rises base 0 writes rise) (capturing-new base writes) right.rising;
      in_store = all-with_pages base.page_count new base.captured (capturing-below base base.page_count writes may.0) right.in_store;
      captured = omega (arith, length-with_pages new base.captured, right.captured, newest_start-within base.captures 0 0 base.marks right.marks);
    }
stays_right base (Commit (Some label) writes) right rise may =
    let total : ℕ = base.captures + length (pages_of (capturing base writes)) in
    let mark : Mark = record { number = newest base.marks + 1; label = label; start = total } in
    record {
      pages = right.pages;
      capacity = right.capacity;
      limits = may.2;
      marks = base_marks base (Commit (Some label) writes) tt right.marks;
      undeclared = λ none. absurd (push_some base.marks mark none);
      rising = refl;
      in_store = tt;
      captured = omega (arith, newest_start-push base.marks mark);
    }
stays_right base (Drop below) right rise may =
    let kept = kept-newest below base.marks may.1 in
    let up = kept-oldest base.captures 0 0 below base.marks right.marks may.1 in
    record {
      pages = right.pages;
      capacity = right.capacity;
      limits = record { total = right.limits.total; room = omega (arith, right.limits.room, up.1); retained = omega (arith, right.limits.retained, kept-fewer below base.marks); newest = omega (arith, right.limits.newest, kept.0) };
      marks = base_marks base (Drop below) may.1 right.marks;
      undeclared = λ none. absurd (none_declared (kept_marks below base.marks) (kept.2 ∙ some_declared base.marks below may.0 may.1) none);
      rising = right.rising;
      in_store = right.in_store;
      captured = omega (arith, right.captured, kept.1);
    }
