-- Which pages a piece of work edits.
use Rattle.std.proofs.Common.{◌≡◌, ◌∙◌, ◌<◌, ◌+◌, ◌^◌, ◌⊎◌, ◌==◌, not, cond, ℕ, Bool, true, false, List, [], ◌∷◌, Ok, inl, inr, refl, sym, ap, subst, arith}
use Rattle.std.specs.List.{AllByRecursion, Contains}
use Rattle.std.proofs.lemmas.Bool.Decides.{eqb_tells}
use Rattle.values.specs.declared.value.Value.{Value}
use Rattle.pager.specs.Pages.{Pages}
use Rattle.heap_file.specs.declared.chain.Placed.{Placed}
use Rattle.heap_file.specs.declared.page.HeapPage.{HeapPage}
use Rattle.heap_laws.specs.Store.{WellFormed, times}
use Rattle.heap_laws.specs.Table.{EditsExactly, EndsAt, IsRemoved, IsStorable, IsTable, RemovesRow, Table, leaves, with_changed, without_row}
use Rattle.heap_laws.proofs.Counts.{one_if}
use Rattle.heap_laws.proofs.Reading.{reads}
use Rattle.heap_laws.proofs.Removing.{removes-row}
use Rattle.heap_laws.proofs.Routes.{times-cons}
use Rattle.relation.proofs.Halves.{row_changed, row_removed}
use Rattle.relation_laws.specs.Needs.{changes_open, moved_to, next_pages, page_under, taken_after}
use Rattle.relation_laws.specs.Reach.{IsPageOf, IsUntouched, with_root}
use Rattle.relation_laws.specs.Work.{EditsWithin}
use Rattle.relation_laws.proofs.Changed.{Goes}
use Rattle.relation_laws.proofs.Counting.{one-change, opens-behind}
use Rattle.relation_laws.proofs.Deleting.{StillThere, fitting-left, still-without, taken_out}
use Rattle.relation_laws.proofs.Drawing.{Draws, draws-pages, draws-still, draws-then}
use Rattle.relation_laws.proofs.Leaving.{Closed, closed-removed, walk}
use Rattle.relation_laws.proofs.Lists.{all-at, contains-cases, contains-cons, contains-head}
use Rattle.relation_laws.proofs.Needing.{next-more}
use Rattle.relation_laws.proofs.Reaching.{Touches, own, previous-own, untouched, untouched-then}
use Rattle.relation_laws.proofs.Updating.{numbers_of, still-changed}
use Rattle.pager.specs.Allows.{in_turn}
use Rattle.pager.proofs.Turns.{left_pages}

-- a page is one of these, or apart from each
in-or-off : (T : ℕ → Type 0) (list : List ℕ) (page : ℕ) → AllByRecursion T list → AllByRecursion (λ q. page ≡ q → ⊥) list ⊎ T page
in-or-off T [] page all = inl tt
in-or-off T (q ∷ list) page all = elim (eqb_tells page q) [
  | inl same ↦ inr (subst T (sym same.1) all.0)
  | inr differ ↦ rest differ.1 (in-or-off T list page all.1)
]
  where
    rest : (page ≡ q → ⊥) → AllByRecursion (λ p. page ≡ p → ⊥) list ⊎ T page → AllByRecursion (λ p. page ≡ p → ⊥) (q ∷ list) ⊎ T page
    rest off (inl all_off) = inl (off, all_off)
    rest off (inr here) = inr here

pub within-touches : (T : ℕ → Type 0) (pages after : Pages) (list : List ℕ) → Touches pages after list → AllByRecursion T list → EditsWithin pages after T
within-touches T pages after list touches all page = go (in-or-off T list page all)
  where
    go : AllByRecursion (λ q. page ≡ q → ⊥) list ⊎ T page → IsUntouched pages after page ⊎ T page
    go (inl off) = inl (touches page off)
    go (inr here) = inr here

pub within-edits : (T : ℕ → Type 0) (pages after : Pages) (list : List ℕ) → EditsExactly pages after list → AllByRecursion T list → EditsWithin pages after T
within-edits T pages after list edits = within-touches T pages after list (λ page off. untouched pages after list page edits off)

pub within-then : (S T U : ℕ → Type 0) (pages mid after : Pages) → ((page : ℕ) → S page → U page) → ((page : ℕ) → T page → U page) → EditsWithin pages mid S → EditsWithin mid after T → EditsWithin pages after U
within-then S T U pages mid after left right one two page = go (one page) (two page)
  where
    go : IsUntouched pages mid page ⊎ S page → IsUntouched mid after page ⊎ T page → IsUntouched pages after page ⊎ U page
    go (inl a) (inl b) = inl (untouched-then pages mid after page a b)
    go (inl a) (inr b) = inr (right page b)
    go (inr a) b = inr (left page a)

pub within-wider : (S T : ℕ → Type 0) (pages after : Pages) → ((page : ℕ) → S page → T page) → EditsWithin pages after S → EditsWithin pages after T
within-wider S T pages after wider within page = go (within page)
  where
    go : IsUntouched pages after page ⊎ S page → IsUntouched pages after page ⊎ T page
    go (inl same) = inl same
    go (inr here) = inr (wider page here)

pub all-contained : (list : List ℕ) (P : ℕ → Type 0) → ((p : ℕ) → Contains list p → P p) → AllByRecursion P list
all-contained [] P go = tt
all-contained (q ∷ list) P go = (go q (contains-head q list), all-contained list P (λ p has. go p (contains-cons p q list has)))

pub contains-times : (list : List ℕ) (p : ℕ) → 0 < times p list → Contains list p
contains-times [] p some = absurd (omega (arith, some))
contains-times (q ∷ list) p some = elim (eqb_tells q p) [
  | inl same ↦ subst (λ (k : ℕ). Contains (q ∷ list) k) same.1 (contains-head q list)
  | inr differ ↦ contains-cons p q list (contains-times list p (omega (arith, some, times-cons p q list, ap one_if differ.0)))
]

-- a page of a table of a store
pub own-page : (size : ℕ) (pages : Pages) (firsts indexes : List ℕ) (first : ℕ) (well : WellFormed size pages firsts indexes) (has : Contains firsts first) (p : ℕ) → 0 < times p (own size pages firsts indexes first well has) → IsPageOf size pages first p
own-page size pages firsts indexes first well has p some =
    let read = reads size pages firsts indexes first well has in
    (read.one.chain.links, (read.some, read.few, read.route.leads), contains-times (own size pages firsts indexes first well has) p some)

-- the page of a row of that number
under-page : (T : ℕ → Type 0) (number : ℕ) (rows : List Placed) (found : Placed) → found.number ≡ number → Contains rows found → AllByRecursion (λ (placed : Placed). T placed.page) rows → T (page_under number rows)
under-page T number [] found is has all = absurd (omega (arith, has.1))
under-page T number (placed ∷ rows) found is has all = elim (eqb_tells placed.number number) [
  | inl same ↦ rw same.0 all.0
  | inr differ ↦ rw differ.0 (under-page T number rows found is (contains-cases placed found rows has (λ here. absurd (differ.1 (ap (λ (p : Placed). p.number) here ∙ is))) (λ there. there)) all.1)
]

-- the pages of rows, one of which moves
moved-pages : (T : ℕ → Type 0) (change : ℕ × List Value) (to : ℕ) (rows : List Placed) → AllByRecursion (λ (placed : Placed). T placed.page) rows → T to → AllByRecursion (λ (placed : Placed). T placed.page) (moved_to change to rows)
moved-pages T change to [] all here = tt
moved-pages T change to (placed ∷ rows) all here = (go (placed.number == change.0), moved-pages T change to rows all.1 here)
  where
    go : (b : Bool) → T (cond b (record { number = change.0; page = to; row = change.1 }) placed).page
    go true = here
    go false = all.0

pub all-root : (T : ℕ → Type 0) (list : List ℕ) → T 0 → AllByRecursion T list → AllByRecursion T (with_root list)
all-root T [] root all = tt
all-root T (page ∷ list) root all = (root, all)

-- the pages that a step takes, and those that the steps behind it take
split-next : (T : ℕ → Type 0) (pages mid : Pages) (opens rest : ℕ) → Draws pages mid opens → (opens ≡ 0) ⊎ (opens ≡ 1) → AllByRecursion T (with_root (next_pages pages (opens + rest))) → AllByRecursion T (with_root (next_pages pages opens)) × AllByRecursion T (with_root (next_pages mid rest))
split-next T pages mid opens rest draws (inl none) all =
    (subst (λ (n : ℕ). AllByRecursion T (with_root (next_pages pages n))) (sym none) tt, subst (λ (l : List ℕ). AllByRecursion T (with_root l)) same all)
  where
    zero-sum : (n : ℕ) → n ≡ 0 → n + rest ≡ 0 + rest
    zero-sum n e = omega (arith, e)

    same : next_pages pages (opens + rest) ≡ next_pages mid rest
    same = ap (next_pages pages) (zero-sum opens none ∙ sum) ∙ sym (draws-pages pages mid 0 0 rest (subst (Draws pages mid) none draws))
      where
        sum : 0 + rest ≡ rest
        sum = omega arith
split-next T pages mid opens rest draws (inr one) all =
    (subst (λ (n : ℕ). AllByRecursion T (with_root (next_pages pages n))) (sym one) (here.0, (here.1.0, tt)), all-root T (next_pages mid rest) here.0 here.1.1)
  where
    one-sum : (n : ℕ) → n ≡ 1 → n + rest ≡ 1 + rest
    one-sum n e = omega (arith, e)

    same : next_pages pages (opens + rest) ≡ taken_after pages 0 ∷ next_pages mid rest
    same = ap (next_pages pages) (one-sum opens one) ∙ sym (next-more pages mid rest (subst (Draws pages mid) one draws))

    here : AllByRecursion T (0 ∷ taken_after pages 0 ∷ next_pages mid rest)
    here = subst (λ (l : List ℕ). AllByRecursion T (with_root l)) same all

goes-opens : (here room : Bool) (page last next to end opens : ℕ) → Goes here room page last next to end opens → (opens ≡ 0) ⊎ (opens ≡ 1)
goes-opens true room page last next to end opens goes = inl goes.2
goes-opens false true page last next to end opens goes = inl goes.2
goes-opens false false page last next to end opens goes = inr goes.2

goes-within : (T : ℕ → Type 0) (here room : Bool) (page last : ℕ) (pages : Pages) (to end opens : ℕ) → Goes here room page last (taken_after pages 0) to end opens → T page → T last → AllByRecursion T (with_root (next_pages pages opens)) → T to × T end
goes-within T true room page last pages to end opens goes here there next = (subst T (sym goes.0) here, subst T (sym goes.1) there)
goes-within T false true page last pages to end opens goes here there next = (subst T (sym goes.0) there, subst T (sym goes.1) there)
goes-within T false false page last pages to end opens goes here there next =
    let taken : T (taken_after pages 0) = (subst (λ (n : ℕ). AllByRecursion T (with_root (next_pages pages n))) goes.2 next).1.0 in
    (subst T (sym goes.0) taken, subst T (sym goes.1) taken)

-- changes edit the pages where the rows stand, the ends of the table, and the pages that they take
pub changes-within : (T : ℕ → Type 0) (size : ℕ) (pages after : Pages) (firsts indexes : List ℕ) (first : ℕ) (rows : List Placed) (table : Table) (changes : List (ℕ × List Value)) (last : ℕ) (tail : HeapPage) → WellFormed size pages firsts indexes → Contains firsts first → IsTable size pages first table → AllByRecursion (λ (change : ℕ × List Value). IsStorable change.1) changes → StillThere first rows table (numbers_of changes) → EndsAt size pages first last tail
    → T first → T last → AllByRecursion (λ (placed : Placed). T placed.page) table.rows → AllByRecursion T (with_root (next_pages pages (changes_open (taken_after pages) last table.rows changes)))
    → in_turn (row_changed size first rows) changes pages (Ok (tt, after)) → EditsWithin pages after T
changes-within T size pages after firsts indexes first rows table [] last tail well among is storable there ends at_first at_last on next h = λ page. inl (ap (λ (p : Pages). p.at page) (sym (left_pages pages after h)), ap (λ (p : Pages). p.edited page) (sym (left_pages pages after h)))
changes-within T size pages after firsts indexes first rows table (change ∷ changes) last tail well among is storable there ends at_first at_last on next h =
    let step = one-change size pages firsts indexes first rows table change last tail h.0 well among is storable.0 there.0 ends h.1 in
    let here : T (page_under change.0 table.rows) = under-page T change.0 table.rows there.0.0 there.0.1 there.0.2 on in
    let moved : Placed = record { number = change.0; page = h.0.0; row = change.1 } in
    let count = opens-behind pages h.0.1 last table.rows change changes h.0.0 step.end step.opens step.goes step.draws in
    let parts = split-next T pages h.0.1 step.opens (changes_open (taken_after h.0.1) step.end (moved_to change h.0.0 table.rows) changes) step.draws (goes-opens _ _ _ _ _ _ _ _ step.goes) (subst (λ (n : ℕ). AllByRecursion T (with_root (next_pages pages n))) count next) in
    let ways = goes-within T _ _ _ _ pages _ _ _ step.goes here at_last parts.0 in
    within-then T T T pages h.0.1 after (λ p t. t) (λ p t. t)
    (within-touches T pages h.0.1 (page_under change.0 table.rows ∷ first ∷ last ∷ with_root (next_pages pages step.opens)) step.touches (here, (at_first, (at_last, parts.0))))
    (changes-within T size h.0.1 after firsts indexes first rows (with_changed table moved) changes step.end step.next step.well among step.shows storable.1 (still-changed first rows table moved (numbers_of changes) there.1 there.2) step.ends
    at_first ways.1 (moved-pages T change h.0.0 table.rows on ways.0) parts.1 h.2)

-- the pages that are taken behind those that changes open
pub changes-draw : (size : ℕ) (pages after : Pages) (firsts indexes : List ℕ) (first : ℕ) (rows : List Placed) (table : Table) (changes : List (ℕ × List Value)) (last : ℕ) (tail : HeapPage) → WellFormed size pages firsts indexes → Contains firsts first → IsTable size pages first table → AllByRecursion (λ (change : ℕ × List Value). IsStorable change.1) changes → StillThere first rows table (numbers_of changes) → EndsAt size pages first last tail
    → in_turn (row_changed size first rows) changes pages (Ok (tt, after)) → Draws pages after (changes_open (taken_after pages) last table.rows changes)
changes-draw size pages after firsts indexes first rows table [] last tail well among is storable there ends h = subst (λ (p : Pages). Draws pages p 0) (left_pages pages after h) (draws-still pages)
changes-draw size pages after firsts indexes first rows table (change ∷ changes) last tail well among is storable there ends h =
    let step = one-change size pages firsts indexes first rows table change last tail h.0 well among is storable.0 there.0 ends h.1 in
    let moved : Placed = record { number = change.0; page = h.0.0; row = change.1 } in
    let count = opens-behind pages h.0.1 last table.rows change changes h.0.0 step.end step.opens step.goes step.draws in
    let rest = changes-draw size h.0.1 after firsts indexes first rows (with_changed table moved) changes step.end step.next step.well among step.shows storable.1 (still-changed first rows table moved (numbers_of changes) there.1 there.2) step.ends h.2 in
    subst (Draws pages after) (sym count) (draws-then pages h.0.1 after step.opens (changes_open (taken_after h.0.1) step.end (moved_to change h.0.0 table.rows) changes) step.draws rest)

-- one row that is taken out edits the pages of its table, and the root page
removed-within : (T : ℕ → Type 0) (size : ℕ) (pages after : Pages) (firsts indexes : List ℕ) (first : ℕ) (table : Table) (page number : ℕ) (well : WellFormed size pages firsts indexes) → Contains firsts first → Closed T size pages → T first → T page → RemovesRow size pages firsts indexes first table page number after → EditsWithin pages after (λ p. (p ≡ 0) ⊎ T p)
removed-within T size pages after firsts indexes first table page number well has closed head_in here removes = go (leaves first page removes.held) removes.effect
  where
    before : (removes.previous ≡ 0) ⊎ (0 < times removes.previous (own size pages firsts indexes first well has)) → (removes.previous ≡ 0) ⊎ T removes.previous
    before (inl none) = inl none
    before (inr some) =
        let read = reads size pages firsts indexes first well has in
        inr (walk T size pages closed first read.one.chain.links read.route.leads head_in removes.previous (contains-times (own size pages firsts indexes first well has) removes.previous some))

    renamed_first : (b : Bool) → AllByRecursion (λ p. (p ≡ 0) ⊎ T p) (cond b (first ∷ []) [])
    renamed_first true = (inr head_in, tt)
    renamed_first false = tt

    go : (b : Bool) → IsRemoved b size pages after first removes.previous page removes.held → EditsWithin pages after (λ p. (p ≡ 0) ⊎ T p)
    go false effect = within-edits (λ p. (p ≡ 0) ⊎ T p) pages after (page ∷ []) effect.1 (inr here, tt)
    go true effect =
        within-edits (λ p. (p ≡ 0) ⊎ T p) pages after (removes.previous ∷ page ∷ 0 ∷ cond (removes.held.next == 0) (first ∷ []) []) effect.1
        (before (previous-own size pages firsts indexes first page removes.previous removes.held well has removes.stood), (inr here, (inl refl, renamed_first (removes.held.next == 0))))

-- rows that are taken out edit the pages of their table, and the root page
pub removes-within : (T : ℕ → Type 0) (size : ℕ) (pages after : Pages) (firsts indexes : List ℕ) (first : ℕ) (rows : List Placed) (table : Table) (numbers : List ℕ) → ((page : ℕ) → T page → page < 2 ^ 32) → WellFormed size pages firsts indexes → Contains firsts first → IsTable size pages first table → StillThere first rows table numbers
    → Closed T size pages → T first → AllByRecursion (λ (placed : Placed). T placed.page) table.rows → in_turn (row_removed size first rows) numbers pages (Ok (tt, after)) → EditsWithin pages after (λ p. (p ≡ 0) ⊎ T p)
removes-within T size pages after firsts indexes first rows table [] small well has is there closed head_in on h = λ page. inl (ap (λ (p : Pages). p.at page) (sym (left_pages pages after h)), ap (λ (p : Pages). p.edited page) (sym (left_pages pages after h)))
removes-within T size pages after firsts indexes first rows table (number ∷ numbers) small well has is there closed head_in on h =
    let found = there.0.0 in
    let work = taken_out size first rows found number pages (Ok h.0) there.0.1 there.0.3 h.1 in
    let one = removes-row size pages firsts indexes first table found (Ok h.0) well has is there.0.2 work in
    let here : T found.page = all-at (λ (placed : Placed). T placed.page) table.rows found on there.0.2 in
    let without : IsTable size h.0.1 first (without_row table number) = subst (λ (n : ℕ). IsTable size h.0.1 first (without_row table n)) there.0.1 one.shows in
    within-then (λ p. (p ≡ 0) ⊎ T p) (λ p. (p ≡ 0) ⊎ T p) (λ p. (p ≡ 0) ⊎ T p) pages h.0.1 after (λ p t. t) (λ p t. t)
    (removed-within T size pages h.0.1 firsts indexes first table found.page found.number well has closed head_in here one)
    (removes-within T size h.0.1 after firsts indexes first rows (without_row table number) numbers small one.well has without (still-without first rows table number numbers there.1 there.2)
    (closed-removed T size pages h.0.1 closed small first found.page found.number head_in here work) head_in
    (fitting-left (λ (placed : Placed). T placed.page) (λ (placed : Placed). not (placed.number == number)) table.rows on) h.2)
