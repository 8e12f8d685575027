-- Ways along chains, and refusals that are handed on.
use Rattle.heap_file.proofs.Positions.{find-at, find-none}
use Rattle.std.specs.Option.{option_map}
use Rattle.std.proofs.Common.{◌≡◌, ◌≢◌, ◌⊎◌, ◌&&◌, not, ◌<◌, ◌≤◌, ◌++◌, ℕ, true, false, List, [], ◌∷◌, length, get_or, Some, None, Bool, cond, Result, Ok, Err, eqb, ltb, inl, inr, refl, sym, subst, ap, arith}
use Rattle.std.proofs.lemmas.Bool.{lt-ltb, ltb-false, ltb-true}
use Rattle.retro_base.specs.declared.refusal.Refusal.{Refusal}
use Rattle.pager.specs.Pages.{Pages, broken, with_bytes}
use Rattle.pager.specs.Root.{page_in, freed}
use Rattle.pager.specs.Stop.{Allowed, AllowedStop}
use Rattle.pager.specs.declared.stop.Stop.{Stop}
use Rattle.pager.specs.declared.stop.Stop.TheVariants as stop
use Rattle.heap_file.specs.declared.page.HeapPage.{HeapPage}
use Rattle.heap_file.specs.declared.chain.Link.{Link}
use Rattle.heap_file.specs.declared.page.Entry.{Entry}
use Rattle.heap_file.specs.Chain.{IsAt, IsWay, IsOpenWay, last_page, met, page_there}
use Rattle.heap_file.specs.Work.{appended, lengthened, row_numbered, renamed, unlinked, removed, changed, without, place_of}
use Rattle.heap_file.specs.HeapPage.{have_room, page_bytes}

-- a refusal that is handed on is allowed where it was
pub allowed_stop : {F : Type 0} {P Q : Refusal → Type 0} (e : Stop F) → ((why : Refusal) → P why → Q why) → AllowedStop P e → AllowedStop Q e
allowed_stop (stop.Refused why) go (inl memory) = inl memory
allowed_stop (stop.Refused why) go (inr allowed) = inr (go why allowed)
allowed_stop (stop.Pager fault) go allowed = tt

-- page 0, and a page outside the store, holds nothing
pub not-there : (size : ℕ) (pages : Pages) (page : ℕ) → (page ≡ 0) ⊎ (size ≤ page) → (held : HeapPage) → IsAt size pages page held → ⊥
not-there size pages page (inl zero) held at = omega (arith, zero, at.named)
not-there size pages page (inr past) held at = omega (arith, past, at.there)

-- what is read of a page other than page 0
pub page-read : (size : ℕ) (pages : Pages) (page : ℕ) → 0 < page → (r : Result (List ℕ) Refusal) → page_in size pages page ≡ r → page_there size pages page r
page-read size pages page some r is =
    subst (λ (x : Result (List ℕ) Refusal). page_there size pages page x) is (go (ltb page size) refl)
  where
    go : (b : Bool) → ltb page size ≡ b → page_there size pages page (cond b (Ok (pages.at page)) (Err (broken page)))
    go true e = (some, ltb-true page size e, refl)
    go false e = (refl, inr (ltb-false page size e))

-- one page more on a way
pub leads-more : (size : ℕ) (pages : Pages) (from page : ℕ) (held : HeapPage) (links : List Link) → IsWay size pages from links page → IsAt size pages page held → IsWay size pages from (links ++ record { page = page; held = held } ∷ []) held.next
leads-more size pages from page held [] leads at = (sym leads, at, refl)
leads-more size pages from page held (link ∷ links) leads at =
    (leads.0, leads.1, leads-more size pages link.held.next page held links leads.2 at)

-- a way goes on where its last page names a next one
pub goes_on : (links : List Link) (link : Link) (page : ℕ) → page ≢ 0 → IsOpenWay (links ++ link ∷ []) page
goes_on [] link page named = named
goes_on (first ∷ links) link page named = named

-- an answer that is handed on is allowed where it was
pub allowed_on : {X Y F : Type 0} (view : X → Y) (P Q : Result Y Refusal → Type 0) (r : Result X (Stop F)) → ((a : Result Y Refusal) → P a → Q a) → Allowed view P r → Allowed view Q r
allowed_on view P Q (Ok x) go allowed = go (Ok (view x)) allowed
allowed_on view P Q (Err e) go allowed = allowed_stop e (λ why h. go (Err why) h) allowed

-- an entry that does not fit in the last page
pub appended_long : (size : ℕ) (pages : Pages) (first : ℕ) (entry : Entry) (head tail : HeapPage) → IsAt size pages first head → IsAt size pages (last_page first head) tail → eqb 0 tail.next ≡ true → have_room (tail.entries ++ entry ∷ []) ≡ false → (a : Result (ℕ × Pages) Refusal) → lengthened size pages first (last_page first head) tail entry a → appended size pages first entry a
appended_long size pages first entry head tail one last end room (Ok y) h = (head, one, (tail, last, rw (end, room) h))
appended_long size pages first entry head tail one last end room (Err why) h = inr (head, one, inr (tail, last, rw (end, room) h))

-- the row at the place of a number
pub row-placed : (number : ℕ) (entries : List Entry) (i : ℕ) (d : Entry) → place_of number entries ≡ Some i → row_numbered number entries ≡ Some (get_or entries i d).row
row-placed number entries i d at = ap (option_map (λ (entry : Entry). entry.row)) (find-at (λ (entry : Entry). eqb entry.number number) entries i d at)

-- no row under a number that has no place
pub row-none : (number : ℕ) (entries : List Entry) → place_of number entries ≡ None → row_numbered number entries ≡ None
row-none number entries none = ap (option_map (λ (entry : Entry). entry.row)) (find-none (λ (entry : Entry). eqb entry.number number) entries none)

-- a page that is freed once its chain goes past it
pub unlinked_end : (size : ℕ) (pages mid : Pages) (first previous page next : ℕ) (before : HeapPage) → IsAt size pages previous before → renamed size (with_bytes pages previous (page_bytes (record before { next = next }))) first previous next (Ok (tt, mid)) → (a : Result (Unit {0} × Pages) Refusal) → freed size mid page ≡ a → unlinked size pages first previous page next a
unlinked_end size pages mid first previous page next before at named (Ok y) e = (before, at, ((tt, mid), named, e))
unlinked_end size pages mid first previous page next before at named (Err why) e = inr (before, at, inr ((tt, mid), named, e))

-- a page that leaves its chain
pub removed_out : (size : ℕ) (pages : Pages) (first page number previous place : ℕ) (held behind : HeapPage) → IsAt size pages page held → place_of number held.entries ≡ Some place → (not (eqb page first) && eqb (length (without held place).entries) 0) ≡ true → met size pages first page (Ok (previous, behind)) → (a : Result (Unit {0} × Pages) Refusal) → unlinked size pages first previous page held.next a → removed size pages first page number a
removed_out size pages first page number previous place held behind at is leaves found (Ok y) h = (held, at, (place, is, rw leaves ((previous, behind), found, h)))
removed_out size pages first page number previous place held behind at is leaves found (Err why) h = inr (held, at, inr (place, is, rw leaves (inr ((previous, behind), found, h))))

-- the same pages of the same store
pub renamed_at : (size width : ℕ) (pages shown : Pages) (first last next : ℕ) (a : Result (Unit {0} × Pages) Refusal) → width ≡ size → shown ≡ pages → renamed width shown first last next a → renamed size pages first last next a
renamed_at size width pages shown first last next a e f h =
    subst (λ (s : ℕ). renamed s pages first last next a) e (subst (λ (p : Pages). renamed width p first last next a) f h)

-- a row that moves to the end of its chain
pub changed_moved : (size : ℕ) (pages : Pages) (first page place : ℕ) (held : HeapPage) (entry : Entry) → IsAt size pages page held → place_of entry.number held.entries ≡ Some place → have_room ((without held place).entries ++ entry ∷ []) ≡ false → (a : Result (ℕ × Pages) Refusal) → appended size (with_bytes pages page (page_bytes (without held place))) first entry a → changed size pages first page entry a
changed_moved size pages first page place held entry at is room (Ok y) h = (held, at, (place, is, rw room h))
changed_moved size pages first page place held entry at is room (Err why) h = inr (held, at, inr (place, is, rw room h))

-- the same pages of the same store
pub appended_at : (size width : ℕ) (pages shown : Pages) (first : ℕ) (entry : Entry) (a : Result (ℕ × Pages) Refusal) → width ≡ size → shown ≡ pages → appended width shown first entry a → appended size pages first entry a
appended_at size width pages shown first entry a e f h =
    subst (λ (s : ℕ). appended s pages first entry a) e (subst (λ (p : Pages). appended width p first entry a) f h)
