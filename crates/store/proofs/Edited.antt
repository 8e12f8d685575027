-- Edits in rising page, and pages under them.
use Rattle.std.proofs.Common.{◌≡◌, ◌≢◌, ◌∙◌, ◌⊎◌, ◌+◌, ◌<◌, ◌≤◌, ◌==◌, ◌||◌, ◌&&◌, ℕ, Bool, true, false, cond, eqb, leb, ltb, List, [], ◌∷◌, refl, sym, ap, inl, inr, arith}
use Rattle.std.specs.Prelude.{Option, Some, None, unwrap_or}
use Rattle.std.proofs.lemmas.Bool.{eqb-true, eq-eqb, leb-true, ltb-false}
use Rattle.std.proofs.lemmas.Bool.Decides.{eqb_tells}
use Rattle.history.specs.declared.writes.PageImage.{PageImage}
use Rattle.history.specs.History.{with_write, written}
use Rattle.history.specs.Writes.{is_among, pages_of, rises}
use Rattle.history.proofs.AsOf.{unwritten}
use Rattle.journal_book.specs.Works.{own_edit, with_edit}
use Rattle.journal_book.proofs.EditLists.{edit_among, edit_rises}
use Rattle.journal_law.specs.Pages.{Pages}
use Rattle.journal_law.specs.Seats.{AlsoEdits}

pub written_at : (writes : List PageImage) (page : ℕ) (one other : Pages) → one page ≡ other page → written one writes page ≡ written other writes page
written_at [] page one other same = same
written_at (w ∷ writes) page one other same = written_at writes page (with_write one w) (with_write other w) (by_test (w.page == page))
  where
    by_test : (here : Bool) → cond here w.bytes (one page) ≡ cond here w.bytes (other page)
    by_test true = refl
    by_test false = same

both : (a b : Bool) → (a && b) ≡ true → (a ≡ true) × (b ≡ true)
both true b e = (refl, e)
both false b e = absurd cc

differs : (a b : ℕ) → a ≢ b → (a == b) ≡ false
differs a b other = by_test (a == b) refl
  where
    by_test : (same : Bool) → (a == b) ≡ same → same ≡ false
    by_test true e = absurd (other (eqb-true a b e))
    by_test false e = refl

-- a page below where the list may begin is none of it
below_none : (least page : ℕ) (pages : List ℕ) → rises least pages ≡ true → page < least → is_among page pages ≡ false
below_none least page [] up lt = refl
below_none least page (first ∷ pages) up lt =
    let parts = both (leb least first) (rises (first + 1) pages) up in
    let above : least ≤ first = leb-true least first parts.0 in
    rw (differs first page (λ e. absurd (omega (arith, e)))) (below_none (first + 1) page pages parts.1 (omega arith))

pub own_written : (least : ℕ) (edits : List PageImage) (page : ℕ) (base : Pages) → rises least (pages_of edits) ≡ true → written base edits page ≡ unwrap_or (own_edit page edits) (base page)
own_written least [] page base up = refl
own_written least (w ∷ edits) page base up =
    let parts = both (leb least w.page) (rises (w.page + 1) (pages_of edits)) up in
    by_test parts.1 (eqb_tells w.page page) (own_written (w.page + 1) edits page (with_write base w) parts.1)
  where
    by_test : rises (w.page + 1) (pages_of edits) ≡ true → (((w.page == page) ≡ true) × (w.page ≡ page)) ⊎ (((w.page == page) ≡ false) × (w.page ≢ page))
        → written (with_write base w) edits page ≡ unwrap_or (own_edit page edits) (with_write base w page)
        → written (with_write base w) edits page ≡ unwrap_or (cond (w.page == page) (Some w.bytes) (own_edit page edits)) (base page)
    by_test up (inl is) rest =
        rw is.0 (unwritten (with_write base w) edits page (below_none (w.page + 1) page (pages_of edits) up (omega (arith, is.1))) ∙ ap (λ (b : Bool). cond b w.bytes (base page)) is.0)
    by_test up (inr is) rest = rest ∙ ap (λ (b : Bool). unwrap_or (own_edit page edits) (cond b w.bytes (base page))) is.0 ∙ sym (ap (λ (b : Bool). unwrap_or (cond b (Some w.bytes) (own_edit page edits)) (base page)) is.0)

pub edit_found : (edits : List PageImage) (page : ℕ) (base : Pages) (bytes : List ℕ) → rises 0 (pages_of edits) ≡ true → Some bytes ≡ own_edit page edits → bytes ≡ written base edits page
edit_found edits page base bytes up is = ap (λ (o : Option (List ℕ)). unwrap_or o (base page)) is ∙ sym (own_written 0 edits page base up)

pub edit_missing : (edits : List PageImage) (page : ℕ) (base : Pages) → rises 0 (pages_of edits) ≡ true → None ≡ own_edit page edits → base page ≡ written base edits page
edit_missing edits page base up is = ap (λ (o : Option (List ℕ)). unwrap_or o (base page)) is ∙ sym (own_written 0 edits page base up)

-- one edit more is written over the others
more_written : (least : ℕ) (image : PageImage) (images : List PageImage) (base : Pages) (page : ℕ) → rises least (pages_of images) ≡ true → written base (with_edit image images) page ≡ with_write (written base images) image page
more_written least image [] base page up = refl
more_written least image (other ∷ images) base page up =
    let parts = both (leb least other.page) (rises (other.page + 1) (pages_of images)) up in
    by_order parts.1 (ltb other.page image.page) refl (eqb_tells image.page other.page) (more_written (other.page + 1) image images (with_write base other) page parts.1)
  where
    -- the image is below the rest, and takes the place of the first or stands before it
    alone : (ws : List PageImage) (f : Pages) → is_among image.page (pages_of ws) ≡ false → f image.page ≡ image.bytes → ((q : ℕ) → image.page ≢ q → written f ws q ≡ written base (other ∷ images) q) → written f ws page ≡ with_write (written base (other ∷ images)) image page
    alone ws f none here rest = by_page (eqb_tells image.page page)
      where
        by_page : (((image.page == page) ≡ true) × (image.page ≡ page)) ⊎ (((image.page == page) ≡ false) × (image.page ≢ page)) → written f ws page ≡ cond (image.page == page) image.bytes (written base (other ∷ images) page)
        by_page (inl is) = rw is.0 (ap (written f ws) (sym is.1) ∙ unwritten f ws image.page none ∙ here)
        by_page (inr is) = rw is.0 (rest page is.1)

    self : with_write base image image.page ≡ image.bytes
    self = ap (λ (b : Bool). cond b image.bytes (base image.page)) (eq-eqb image.page image.page refl)

    by_order : rises (other.page + 1) (pages_of images) ≡ true → (b : Bool) → ltb other.page image.page ≡ b → (((image.page == other.page) ≡ true) × (image.page ≡ other.page)) ⊎ (((image.page == other.page) ≡ false) × (image.page ≢ other.page))
        → written (with_write base other) (with_edit image images) page ≡ with_write (written (with_write base other) images) image page
        → written base (cond b (other ∷ with_edit image images) (cond (image.page == other.page) (image ∷ images) (image ∷ other ∷ images))) page ≡ with_write (written base (other ∷ images)) image page
    by_order up true e tells rest = rest
    by_order up false e (inl is) rest =
        rw is.0
        (alone images (with_write base image) (below_none (other.page + 1) image.page (pages_of images) up (omega (arith, is.1))) self
        (λ q apart. written_at images q (with_write base image) (with_write base other)
        (ap (λ (b : Bool). cond b image.bytes (base q)) (differs image.page q apart) ∙ sym (ap (λ (b : Bool). cond b other.bytes (base q)) (differs other.page q (λ e. apart (is.1 ∙ e)))))))
    by_order up false e (inr is) rest =
        let below : image.page < other.page = omega (arith, ltb-false _ _ e, is.1) in
        rw is.0
        (alone (other ∷ images) (with_write base image)
        (ap (λ (b : Bool). b || is_among image.page (pages_of images)) (differs other.page image.page (λ e. is.1 (sym e))) ∙ below_none (other.page + 1) image.page (pages_of images) up (omega (arith, below)))
        self
        (λ q apart. written_at (other ∷ images) q (with_write base image) base (ap (λ (b : Bool). cond b image.bytes (base q)) (differs image.page q apart))))

pub also_edits : (images : List PageImage) (page : ℕ) (bytes : List ℕ) → rises 0 (pages_of images) ≡ true → AlsoEdits images page bytes (with_edit (record { page = page; bytes = bytes }) images)
also_edits images page bytes up = record {
  writes = λ base other. more_written 0 (record { page = page; bytes = bytes }) images base other up;
  rise = edit_rises 0 (record { page = page; bytes = bytes }) images up (omega arith);
  only = λ other is. by_test other (eqb_tells page other) (sym (edit_among other (record { page = page; bytes = bytes }) images) ∙ is);
}
  where
    by_test : (other : ℕ) → (((page == other) ≡ true) × (page ≡ other)) ⊎ (((page == other) ≡ false) × (page ≢ other)) → (eqb page other || is_among other (pages_of images)) ≡ true → (other ≡ page) ⊎ (is_among other (pages_of images) ≡ true)
    by_test other (inl is) h = inl (sym is.1)
    by_test other (inr is) h = inr (sym (ap (λ (b : Bool). b || is_among other (pages_of images)) is.0) ∙ h)
