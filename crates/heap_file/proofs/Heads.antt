-- What the first page of a chain holds while an entry goes to the end of the chain.
use Rattle.std.proofs.Common.{◌≡◌, ◌≢◌, ◌<◌, ◌++◌, ◌∷◌, ◌∙◌, ℕ, List, [], Result, Ok, Err, true, false, eqb, inr, refl, sym, subst, ap, arith}
use Rattle.std.proofs.lemmas.Bool.{eq-eqb, ne_eqb}
use Rattle.retro_base.specs.declared.refusal.Refusal.{Refusal}
use Rattle.pager.specs.Pages.{Pages, broken, with_bytes}
use Rattle.pager.specs.Root.{next_page, root_bytes, root_in, taken}
use Rattle.pager.specs.declared.root.Root.{Root}
use Rattle.heap_file.specs.declared.page.HeapPage.{HeapPage}
use Rattle.heap_file.specs.declared.page.Entry.{Entry}
use Rattle.heap_file.specs.Chain.{IsAt, last_page}
use Rattle.heap_file.specs.HeapPage.{IsHeapPage, IsNarrow, page_bytes, have_room}
use Rattle.heap_file.specs.Work.{appended, lengthened, with_head}
use Rattle.heap_file.proofs.Ones.{differ}
use Rattle.heap_file.proofs.Packing.{written_holds}
use Rattle.heap_file.proofs.Ways.{appended_long}

-- a page that was written holds what was written
pub at-own : (size : ℕ) (pages : Pages) (page : ℕ) (held : HeapPage) → 0 < page → page < size → IsNarrow held → IsHeapPage held → IsAt size (with_bytes pages page (page_bytes held)) page held
at-own size pages page held some there narrow is = record {
  named = some;
  there = there;
  holds = rw (eq-eqb page page refl) (written_holds held narrow.next narrow.next_number narrow.last is);
}

-- another page holds what it held
pub at-other : (size : ℕ) (pages : Pages) (page other : ℕ) (bytes : List ℕ) (held : HeapPage) → page ≢ other → IsAt size pages page held → IsAt size (with_bytes pages other bytes) page held
at-other size pages page other bytes held differ is = record {
  named = is.named;
  there = is.there;
  holds = rw (ne_eqb page other differ) is.holds;
}

-- an answer has one value
ok_is : {A : Type 0} (r : Result A Refusal) (x y : A) → r ≡ Ok x → r ≡ Ok y → x ≡ y
ok_is r x y p q = cc (p, q)

-- taking a page leaves what each page behind the root page holds
pub at-taken : (size : ℕ) (pages after : Pages) (next page : ℕ) (held : HeapPage) → taken size pages ≡ Ok (next, after) → IsAt size pages page held → IsAt size after page held
at-taken size pages after next page held took is = from-root (root_in size pages) refl
  where
    zero-differs : page ≢ 0
    zero-differs e = omega (arith, e, is.named)

    step : (root : Root) → root_in size pages ≡ Ok root → (n : Result (ℕ × Root) Refusal) → next_page size pages root ≡ n → IsAt size after page held
    step root e (Ok found) f =
        let same : after ≡ with_bytes pages 0 (root_bytes found.1) =
        ap (λ (p : ℕ × Pages). p.1) (ok_is (taken size pages) (next, after) (found.0, with_bytes pages 0 (root_bytes found.1)) took (rw (e, f) refl)) in
        subst (λ (p : Pages). IsAt size p page held) (sym same) (at-other size pages page 0 (root_bytes found.1) held zero-differs is)
    step root e (Err why) f =
        differ (next, after) why (sym took ∙ (rw (e, f) refl))

    from-root : (r : Result Root Refusal) → root_in size pages ≡ r → IsAt size after page held
    from-root (Ok root) e = step root e (next_page size pages root) refl
    from-root (Err why) e =
        differ (next, after) why (sym took ∙ (rw e refl))

-- a step's answer that is handed on, with what the first page holds after it
pub head_on : (size first : ℕ) (P Q : Result (ℕ × Pages) Refusal → Type 0) (a : Result ((ℕ × HeapPage) × Pages) Refusal) → ((r : Result (ℕ × Pages) Refusal) → P r → Q r) → with_head size first P a → with_head size first Q a
head_on size first P Q (Ok answer) go h = (go (Ok (answer.0.0, answer.1)) h.0, h.1)
head_on size first P Q (Err why) go h = go (Err why) h

-- a last page that names a next one
pub ended : (size : ℕ) (pages : Pages) (first : ℕ) (entry : Entry) (head tail : HeapPage) (why : Refusal) → IsAt size pages first head → IsAt size pages (last_page first head) tail → eqb 0 tail.next ≡ false → why ≡ broken (last_page first head) → appended size pages first entry (Err why)
ended size pages first entry head tail why one last end is =
    inr (head, one, inr (tail, last, rw end (ap (λ (w : Refusal). Err w) (sym is))))

-- an entry that fits in the last page
pub fitted : (size : ℕ) (pages after : Pages) (first last : ℕ) (entry : Entry) (head tail : HeapPage) → last_page first head ≡ last → IsAt size pages first head → IsAt size pages last tail → eqb 0 tail.next ≡ true → have_room (tail.entries ++ entry ∷ []) ≡ true → after ≡ with_bytes pages last (page_bytes (record tail { entries = tail.entries ++ entry ∷ [] })) → appended size pages first entry (Ok (last, after))
fitted size pages after first last entry head tail named one at end room stored =
    subst (λ (l : ℕ). IsAt size pages l tail → after ≡ with_bytes pages l (page_bytes (record tail { entries = tail.entries ++ entry ∷ [] })) → appended size pages first entry (Ok (l, after))) named
    (λ at stored. (head, one, (tail, at, rw (end, room) (ap (λ (p : Pages). Ok (last_page first head, p)) (sym stored)))))
    at stored

-- an entry that does not
pub long : (size : ℕ) (pages : Pages) (first last : ℕ) (entry : Entry) (head tail : HeapPage) → last_page first head ≡ last → IsAt size pages first head → IsAt size pages last tail → eqb 0 tail.next ≡ true → have_room (tail.entries ++ entry ∷ []) ≡ false → (a : Result (ℕ × Pages) Refusal) → lengthened size pages first last tail entry a → appended size pages first entry a
long size pages first last entry head tail named one at end room a =
    subst (λ (l : ℕ). IsAt size pages l tail → lengthened size pages first l tail entry a → appended size pages first entry a) named
    (λ at h. appended_long size pages first entry head tail one at end room a h)
    at
