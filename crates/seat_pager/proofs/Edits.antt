-- Which pages edits reach, and pages under edits.
use Rattle.std.proofs.Common.{◌≡◌, ◌≢◌, ◌∙◌, ◌+◌, ◌≤◌, ◌⊎◌, ◌==◌, ◌||◌, ◌&&◌, ℕ, Bool, true, false, cond, eqb, leb, ltb, List, [], ◌∷◌, length, Option, Some, IsTrue, refl, sym, ap, inl, inr, arith}
use Rattle.std.proofs.lemmas.Bool.{eq-eqb, leb-true, le-leb, ltb-true, ltb-false}
use Rattle.std.proofs.lemmas.Bool.Decides.{eqb_tells}
use Rattle.history.specs.History.{with_page, with_write, written}
use Rattle.history.specs.Writes.{is_among, pages_of, rises}
use Rattle.history.specs.declared.writes.PageImage.{PageImage}
use Rattle.history.proofs.AsOf.{unwritten}
use Rattle.history.proofs.Captures.{among-with_page}
use Rattle.journal_law.specs.Pages.{Pages as Bytes}
use Rattle.journal_law.specs.Seats.{AlsoEdits}
use Rattle.pager.specs.Pages as pager
use Rattle.pager.proofs.Overlays.{same_pages}
use Rattle.seat_pager.specs.Transaction.{is_asked, is_marked, under}

-- writes over pages that agree on one leave it equal
pub written_at : (writes : List PageImage) (page : ℕ) (one other : Bytes) → one page ≡ other page → written one writes page ≡ written other writes page
written_at [] page one other same = same
written_at (w ∷ writes) page one other same = written_at writes page (with_write one w) (with_write other w) (by_test (w.page == page))
  where
    by_test : (here : Bool) → cond here w.bytes (one page) ≡ cond here w.bytes (other page)
    by_test true = refl
    by_test false = same

-- a page that is written is as it was written, whatever it was
touched : (writes : List PageImage) (page : ℕ) (one other : Bytes) → is_among page (pages_of writes) ≡ true → written one writes page ≡ written other writes page
touched [] page one other is = cc
touched (w ∷ writes) page one other is = by_test (w.page == page) refl is (touched writes page (with_write one w) (with_write other w))
  where
    by_test : (here : Bool) → (w.page == page) ≡ here → (here || is_among page (pages_of writes)) ≡ true
        → (is_among page (pages_of writes) ≡ true → written (with_write one w) writes page ≡ written (with_write other w) writes page) → written (with_write one w) writes page ≡ written (with_write other w) writes page
    by_test true e h rest = written_at writes page (with_write one w) (with_write other w) (rw e refl)
    by_test false e h rest = rest h

-- the edits reach the pages that they reached, and the one that was edited
pub edited_is : (old new : List PageImage) (page : ℕ) (bytes : List ℕ) → AlsoEdits old page bytes new → (other : ℕ) → is_among other (pages_of new) ≡ ((other == page) || is_among other (pages_of old))
edited_is old new page bytes also other = by_test (is_among other (pages_of new)) refl
  where
    -- the bytes there do not depend on the pages below
    same : (other ≡ page) ⊎ (is_among other (pages_of old) ≡ true) → (one two : Bytes) → with_write (written one old) (record { page = page; bytes = bytes }) other ≡ with_write (written two old) (record { page = page; bytes = bytes }) other
    same (inl is) one two = rw (eq-eqb page other (sym is)) refl
    same (inr is) one two = rw (touched old other one two is) refl

    unreached : is_among other (pages_of new) ≡ false → ((other ≡ page) ⊎ (is_among other (pages_of old) ≡ true)) → ⊥
    unreached e is =
        let below : Bytes = λ q. [] in
        let above : Bytes = λ q. 0 ∷ [] in
        let first : below other ≡ with_write (written below old) (record { page = page; bytes = bytes }) other = sym (unwritten below new other e) ∙ also.writes below other in
        let second : above other ≡ with_write (written above old) (record { page = page; bytes = bytes }) other = sym (unwritten above new other e) ∙ also.writes above other in
        let both : below other ≡ above other = first ∙ same is below above ∙ sym second in
        differ both
      where
        differ : ◌≡◌ {A = List ℕ} [] (0 ∷ []) → ⊥
        differ e = cc

    reached : (a b : Bool) → (a ≡ true) ⊎ (b ≡ true) → true ≡ (a || b)
    reached true b is = refl
    reached false b (inl is) = cc
    reached false b (inr is) = sym is

    by_test : (there : Bool) → is_among other (pages_of new) ≡ there → there ≡ ((other == page) || is_among other (pages_of old))
    by_test true e = reached (other == page) (is_among other (pages_of old)) (first (also.only other e))
      where
        first : (other ≡ page) ⊎ (is_among other (pages_of old) ≡ true) → ((other == page) ≡ true) ⊎ (is_among other (pages_of old) ≡ true)
        first (inl is) = inl (eq-eqb other page is)
        first (inr is) = inr is
    by_test false e = neither (eqb_tells other page)
      where
        neither : (((other == page) ≡ true) × (other ≡ page)) ⊎ (((other == page) ≡ false) × (other ≢ page)) → false ≡ ((other == page) || is_among other (pages_of old))
        neither (inl is) = absurd (unreached e (inl is.1))
        neither (inr is) = rest (is_among other (pages_of old)) refl
          where
            rest : (b : Bool) → is_among other (pages_of old) ≡ b → false ≡ ((other == page) || b)
            rest true h = absurd (unreached e (inr h))
            rest false h = rw (is.0) refl

-- an edit stands over the others
pub under_edit : (base : pager.Pages) (asked : Option ℕ) (old new : List PageImage) (page : ℕ) (bytes : List ℕ) → AlsoEdits old page bytes new → under base asked new ≡ pager.with_bytes (under base asked old) page bytes
under_edit base asked old new page bytes also =
    same_pages (under base asked new) (pager.with_bytes (under base asked old) page bytes)
    (λ q. also.writes base.at q ∙ flip q (eqb_tells q page))
    (λ q. ap (λ (b : Bool). is_asked q asked || (b || base.edited q)) (edited_is old new page bytes also q) ∙ order (is_asked q asked) (q == page) (is_among q (pages_of old)) (base.edited q))
  where
    flip : (q : ℕ) → (((q == page) ≡ true) × (q ≡ page)) ⊎ (((q == page) ≡ false) × (q ≢ page)) → cond (page == q) bytes (written base.at old q) ≡ cond (q == page) bytes (written base.at old q)
    flip q (inl is) = rw (is.0, eq-eqb page q (sym is.1)) refl
    flip q (inr is) = rw is.0 (apart q (eqb_tells page q) is.1)
      where
        apart : (q : ℕ) → (((page == q) ≡ true) × (page ≡ q)) ⊎ (((page == q) ≡ false) × (page ≢ q)) → q ≢ page → cond (page == q) bytes (written base.at old q) ≡ written base.at old q
        apart q (inl e) other = absurd (other (sym e.1))
        apart q (inr e) other = rw e.0 refl

    order : (a b c d : Bool) → (a || ((b || c) || d)) ≡ (b || (a || (c || d)))
    order true true c d = refl
    order true false c d = refl
    order false true c d = refl
    order false false c d = refl

-- ---- one page too many

rises-weaker : (least more : ℕ) (pages : List ℕ) → least ≤ more → IsTrue (rises more pages) → IsTrue (rises least pages)
rises-weaker least more [] le is = refl
rises-weaker least more (page ∷ pages) le is = by_test (leb more page) refl is
  where
    by_test : (here : Bool) → leb more page ≡ here → (here && rises (page + 1) pages) ≡ true → (leb least page && rises (page + 1) pages) ≡ true
    by_test true e h = rw (le-leb least page (omega (arith, leb-true more page e))) h
    by_test false e h = cc

rises-with : (least page : ℕ) (pages : List ℕ) → least ≤ page → IsTrue (rises least pages) → is_among page pages ≡ false → IsTrue (rises least (with_page page pages))
rises-with least page [] le is none = rw (le-leb least page le) refl
rises-with least page (other ∷ pages) le is none = by_order (ltb page other) refl (eqb_tells other page) (leb least other) refl is none (rises-with (other + 1) page pages)
  where
    by_order : (below : Bool) → ltb page other ≡ below → (((other == page) ≡ true) × (other ≡ page)) ⊎ (((other == page) ≡ false) × (other ≢ page))
        → (here : Bool) → leb least other ≡ here → (here && rises (other + 1) pages) ≡ true → ((other == page) || is_among page pages) ≡ false
        → (other + 1 ≤ page → IsTrue (rises (other + 1) pages) → is_among page pages ≡ false → IsTrue (rises (other + 1) (with_page page pages)))
        → rises least (cond below (page ∷ other ∷ pages) (other ∷ with_page page pages)) ≡ true
    by_order below e tells false e2 h none rest = cc
    by_order below e (inl same) true e2 h none rest = absurd (differ (sym (rw same.0 at none)))
      where
        differ : false ≡ true → ⊥
        differ e = cc
    by_order true e (inr apart) true e2 h none rest = rw (le-leb least page le, le-leb (page + 1) other (omega (arith, ltb-true page other e))) h
    by_order false e (inr apart) true e2 h none rest =
        rw e2 (rest (omega (arith, ltb-false page other e, apart.1)) h (rw apart.0 at none))

length-with : (page : ℕ) (pages : List ℕ) → length (with_page page pages) ≡ length pages + 1
length-with page [] = refl
length-with page (other ∷ pages) = by_order (ltb page other) (length-with page pages)
  where
    by_order : (below : Bool) → length (with_page page pages) ≡ length pages + 1 → length (cond below (page ∷ other ∷ pages) (other ∷ with_page page pages)) ≡ length (other ∷ pages) + 1
    by_order true rest = omega arith
    by_order false rest = omega (arith, rest)

length-pages : (edits : List PageImage) → length (pages_of edits) ≡ length edits
length-pages [] = refl
length-pages (edit ∷ edits) = omega (arith, length-pages edits)

-- as many edits as an attempt may have, and one page more
pub one_too_many : (edits : List PageImage) (limit page : ℕ) → IsTrue (rises 0 (pages_of edits)) → length edits ≡ limit → is_among page (pages_of edits) ≡ false
    → (pages : List ℕ) × IsTrue (rises 0 pages) × (length pages ≡ limit + 1) × ((other : ℕ) → is_among other pages ≡ true → is_marked other (Some page) edits ≡ true)
one_too_many edits limit page rise many none = (
  with_page page (pages_of edits),
  rises-with 0 page (pages_of edits) (omega arith) rise none,
  omega (arith, length-with page (pages_of edits), length-pages edits, many),
  λ other is. flip other (eqb_tells page other) (is_among other (pages_of edits)) (sym (among-with_page other page (pages_of edits)) ∙ is),
)
  where
    flip : (other : ℕ) → (((page == other) ≡ true) × (page ≡ other)) ⊎ (((page == other) ≡ false) × (page ≢ other)) → (b : Bool) → (eqb page other || b) ≡ true → ((other == page) || b) ≡ true
    flip other (inl same) b is = rw (eq-eqb other page (sym same.1)) refl
    flip other (inr apart) b is = rest (other == page) (rw apart.0 at is)
      where
        rest : (a : Bool) → b ≡ true → (a || b) ≡ true
        rest true e = refl
        rest false e = e
