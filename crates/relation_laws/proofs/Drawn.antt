-- The pages that are taken next, once a row was added or changed, or a table made.
use Rattle.std.proofs.Common.{◌≡◌, ◌≢◌, ◌∙◌, ◌<◌, ◌+◌, ◌-◌, ◌++◌, ◌^◌, ◌⊎◌, ◌==◌, ℕ, Bool, true, false, List, [], ◌∷◌, Result, Ok, Err, inl, inr, refl, sym, ap, subst, arith}
use Rattle.std.specs.List.{AllByRecursion, Contains}
use Rattle.retro_base.specs.declared.refusal.Refusal.{Refusal}
use Rattle.values.specs.declared.value.Value.{Value}
use Rattle.pager.specs.Pages.{Pages, broken, with_bytes}
use Rattle.pager.specs.Root.{taken}
use Rattle.heap_file.specs.declared.page.Entry.{Entry}
use Rattle.heap_file.specs.declared.page.HeapPage.{HeapPage}
use Rattle.pager.specs.Allows.{◌>>=◌, either, only}
use Rattle.heap_file.specs.Chain.{heap_page, last_page}
use Rattle.heap_file.specs.HeapPage.{empty_page, page_bytes, have_room}
use Rattle.heap_file.specs.Work.{added, appended, lengthened, made, page_with}
use Rattle.heap_laws.specs.Store.{WellFormed, free_pages, next_free, times}
use Rattle.heap_laws.specs.Table.{AddsRow, EditsExactly, IsAdded, MakesTable, Table, has_room}
use Rattle.heap_laws.proofs.Editing.{free-same}
use Rattle.heap_laws.proofs.Reading.{ok-one, reads}
use Rattle.heap_laws.proofs.Roots.{take-answer}
use Rattle.heap_laws.proofs.Routes.{written-other}
use Rattle.heap_laws.proofs.Stores.{root-apart}
use Rattle.relation_laws.proofs.Drawing.{Draws, all-times, draws-none, draws-one, ok-no}
use Rattle.relation_laws.proofs.Reaching.{Within, all-imp, among-chains, held-count, not-any, one-chain, own, own-first, own-last}

-- the root page after a step: as it was, or as taking a page left it
abbrev pub RootStep : ℕ → Pages → Pages → Type 0
RootStep size pages after = (after.at 0 ≡ pages.at 0) ⊎ ((next : ℕ × Pages) × (taken size pages ≡ Ok next) × (after.at 0 ≡ next.1.at 0))

shift : (size : ℕ) (pages mid after : Pages) → RootStep size pages mid → after.at 0 ≡ mid.at 0 → RootStep size pages after
shift size pages mid after (inl same) root = inl (root ∙ same)
shift size pages mid after (inr step) root = inr (step.0, step.1, root ∙ step.2)

-- an entry that is put at the end of a table
pub append-step : (size : ℕ) (pages : Pages) (firsts indexes : List ℕ) (first : ℕ) (entry : Entry) (y : ℕ × Pages) → WellFormed size pages firsts indexes → appended size pages first entry (Ok y) → RootStep size pages y.1
append-step size pages firsts indexes first entry y well (head, at, (tail, at_last, work)) = whole (0 == tail.next) work
  where
    room : (b : Bool) → either b (only (Ok (last_page first head, with_bytes pages (last_page first head) (page_bytes (record tail { entries = tail.entries ++ entry ∷ [] }))))) (lengthened size pages first (last_page first head) tail entry) (Ok y) → RootStep size pages y.1
    room true h =
        inl (ap (λ (z : ℕ × Pages). z.1.at 0) (sym (ok-one h)) ∙ written-other pages (last_page first head) 0 (page_bytes (record tail { entries = tail.entries ++ entry ∷ [] })) (λ e. absurd (omega (arith, e, at_last.named))))
    room false (next, take, (found, found_at, h)) =
        let one = with_bytes next.1 next.0 (page_bytes (page_with entry)) in
        let two = with_bytes one (last_page first head) (page_bytes (record tail { next = next.0 })) in
        let behind = (take-answer size pages firsts indexes (Ok next) well take).behind in
        inr (
          next,
          take,
          ap (λ (z : ℕ × Pages). z.1.at 0) (sym (ok-one h)) ∙ written-other two first 0 (page_bytes (record found { last = next.0 })) (λ e. absurd (omega (arith, e, at.named)))
              ∙ written-other one (last_page first head) 0 (page_bytes (record tail { next = next.0 })) (λ e. absurd (omega (arith, e, at_last.named))) ∙ written-other next.1 next.0 0 (page_bytes (page_with entry)) (λ e. absurd (omega (arith, e, behind))),
        )

    whole : (b : Bool) → either b (either (have_room (tail.entries ++ entry ∷ [])) (only (Ok (last_page first head, with_bytes pages (last_page first head) (page_bytes (record tail { entries = tail.entries ++ entry ∷ [] }))))) (lengthened size pages first (last_page first head) tail entry)) (only (Err (broken (last_page first head)))) (Ok y) → RootStep size pages y.1
    whole true h = room (have_room (tail.entries ++ entry ∷ [])) h
    whole false h = ok-no h

pub add-step : (size : ℕ) (pages : Pages) (firsts indexes : List ℕ) (first : ℕ) (row : List Value) (y : (ℕ × ℕ) × Pages) → WellFormed size pages firsts indexes → added size pages first row (Ok y) → RootStep size pages y.1
add-step size pages firsts indexes first row y well (head, at, work) = go (head.next_number == 2 ^ 64 - 1) work
  where
    counted : Result ((ℕ × ℕ) × Pages) Refusal → Type 0
    counted = appended size pages first (record { number = head.next_number; row = row }) >>= λ (placed : ℕ × Pages). heap_page size placed.1 first >>= λ (after : HeapPage). only (Ok ((head.next_number, placed.0), with_bytes placed.1 first (page_bytes (record after { next_number = head.next_number + 1 }))))

    go : (b : Bool) → either b (only (Err (broken first))) counted (Ok y) → RootStep size pages y.1
    go true h = ok-no h
    go false (placed, append, (found, found_at, h)) =
        shift size pages placed.1 y.1 (append-step size pages firsts indexes first (record { number = head.next_number; row = row }) placed well append)
        (ap (λ (z : (ℕ × ℕ) × Pages). z.1.at 0) (sym (ok-one h)) ∙ written-other placed.1 first 0 (page_bytes (record found { next_number = head.next_number + 1 })) (λ e. absurd (omega (arith, e, at.named))))

pub make-step : (size : ℕ) (pages : Pages) (firsts indexes : List ℕ) (y : ℕ × Pages) → WellFormed size pages firsts indexes → made size pages (Ok y) → RootStep size pages y.1
make-step size pages firsts indexes y well (next, take, h) =
    inr (next, take, ap (λ (z : ℕ × Pages). z.1.at 0) (sym (ok-one h)) ∙ written-other next.1 next.0 0 (page_bytes empty_page) (λ e. absurd (omega (arith, e, (take-answer size pages firsts indexes (Ok next) well take).behind))))

-- a page of a table is none of the free list
own-taken : (size : ℕ) (pages : Pages) (firsts indexes : List ℕ) (first : ℕ) (well : WellFormed size pages firsts indexes) (has : Contains firsts first) (p q : ℕ) → 0 < times p well.free → 0 < times q (own size pages firsts indexes first well has) → p ≡ q → ⊥
own-taken size pages firsts indexes first well has p q free here e =
    absurd (omega (arith, free, subst (λ (k : ℕ). 0 < times k (own size pages firsts indexes first well has)) (sym e) here, one-chain p well.chains (reads size pages firsts indexes first well has).one.chain (among-chains size pages firsts indexes first well has), held-count size pages firsts indexes well p, well.once p))

zero-taken : (size : ℕ) (pages : Pages) (firsts indexes : List ℕ) (well : WellFormed size pages firsts indexes) (p : ℕ) → 0 < times p well.free → p ≡ 0 → ⊥
zero-taken size pages firsts indexes well p free e =
    absurd (omega (arith, subst (λ (k : ℕ). 0 < times k well.free) e free, held-count size pages firsts indexes well 0, root-apart size pages firsts indexes well))

-- a step that takes no page edits the table's own pages alone
pub step-none : (size : ℕ) (pages after : Pages) (firsts indexes : List ℕ) (first : ℕ) (well : WellFormed size pages firsts indexes) (has : Contains firsts first) (list : List ℕ) → EditsExactly pages after list → AllByRecursion (λ q. 0 < times q (own size pages firsts indexes first well has)) list → RootStep size pages after → free_pages size after ≡ free_pages size pages → Draws pages after 0
step-none size pages after firsts indexes first well has list edits all (inl root) none =
    draws-none size pages after firsts indexes well root
    (all-times well.free (λ p. after.at p ≡ pages.at p) (λ p free. edits.same p (not-any p list (all-imp (λ q. 0 < times q (own size pages firsts indexes first well has)) (λ q. p ≡ q → ⊥) list (λ q here e. own-taken size pages firsts indexes first well has p q free here e) all))))
step-none size pages after firsts indexes first well has list edits all (inr (next, take, root)) none =
    absurd (omega (arith, none, free-same size next.1 after root, (take-answer size pages firsts indexes (Ok next) well take).takes.one_less))

-- a step that takes one edits that page, the root page and the table's own
pub step-one : (size : ℕ) (pages after : Pages) (firsts indexes : List ℕ) (first : ℕ) (well : WellFormed size pages firsts indexes) (has : Contains firsts first) (list : List ℕ) → EditsExactly pages after list → AllByRecursion (Within size pages firsts indexes first well has) list → RootStep size pages after → 1 + free_pages size after ≡ free_pages size pages → Draws pages after 1
step-one size pages after firsts indexes first well has list edits all (inl root) one = absurd (omega (arith, one, free-same size pages after root))
step-one size pages after firsts indexes first well has list edits all (inr (next, take, root)) one =
    draws-one size pages after firsts indexes next well take root
    (λ p free differ. edits.same p (not-any p list (all-imp (Within size pages firsts indexes first well has) (λ q. p ≡ q → ⊥) list (λ q within e. go p free differ q within e) all)))
  where
    go : (p : ℕ) → 0 < times p well.free → p ≢ next_free pages → (q : ℕ) → Within size pages firsts indexes first well has q → p ≡ q → ⊥
    go p free differ q (inl zero_) e = zero-taken size pages firsts indexes well p free (e ∙ zero_)
    go p free differ q (inr (inl here)) e = own-taken size pages firsts indexes first well has p q free here e
    go p free differ q (inr (inr next)) e = differ (e ∙ next)

-- how many pages a row opens
abbrev pub opens_of : Bool → ℕ
opens_of true = 0
opens_of false = 1

pub add-draws : (size : ℕ) (pages : Pages) (firsts indexes : List ℕ) (first : ℕ) (table : Table) (row : List Value) (y : (ℕ × ℕ) × Pages) → WellFormed size pages firsts indexes → Contains firsts first → added size pages first row (Ok y) → (adds : AddsRow size pages firsts indexes first table row y.0 y.1)
    → Draws pages y.1 (opens_of (has_room adds.tail (record { number = table.next_number; row = row })))
add-draws size pages firsts indexes first table row y well has work adds = go (has_room adds.tail (record { number = table.next_number; row = row })) adds.effect
  where
    step : RootStep size pages y.1
    step = add-step size pages firsts indexes first row y well work

    first_own : 0 < times first (own size pages firsts indexes first well has)
    first_own = own-first size pages firsts indexes first well has

    last_own : 0 < times adds.last (own size pages firsts indexes first well has)
    last_own = own-last size pages firsts indexes first adds.last adds.tail well has adds.ends

    go : (b : Bool) → IsAdded b size pages y.1 first adds.last y.0.1 → Draws pages y.1 (opens_of b)
    go true effect = step-none size pages y.1 firsts indexes first well has (first ∷ adds.last ∷ []) effect.2 (first_own, (last_own, tt)) step effect.1
    go false effect = step-one size pages y.1 firsts indexes first well has (first ∷ adds.last ∷ y.0.1 ∷ 0 ∷ []) effect.1 (inr (inl first_own), (inr (inl last_own), (inr (inr effect.0.next), (inl refl, tt)))) step effect.0.one_less

pub make-draws : (size : ℕ) (pages : Pages) (firsts indexes : List ℕ) (some : ℕ) (y : ℕ × Pages) → WellFormed size pages firsts indexes → Contains firsts some → made size pages (Ok y) → MakesTable size pages firsts indexes y.0 y.1 → Draws pages y.1 1
make-draws size pages firsts indexes some y well has work makes =
    step-one size pages y.1 firsts indexes some well has (y.0 ∷ 0 ∷ []) makes.edits (inr (inr makes.takes.next), (inl refl, tt)) (make-step size pages firsts indexes y well work) makes.takes.one_less
