-- Each call takes the pages that it needs.
use Rattle.std.proofs.Common.{◌≡◌, ◌∙◌, ◌<◌, ◌+◌, cond, ℕ, Bool, true, false, List, [], ◌∷◌, Result, Ok, Err, inl, inr, sym, ap, subst, arith}
use Rattle.std.specs.List.{AllByRecursion, Contains}
use Rattle.retro_base.specs.declared.refusal.Refusal.{Refusal}
use Rattle.values.specs.declared.value.Value.{Value}
use Rattle.pager.specs.Pages.{Pages}
use Rattle.heap_file.specs.declared.chain.Placed.{Placed}
use Rattle.heap_file.specs.declared.page.HeapPage.{HeapPage}
use Rattle.heap_file.specs.HeapPage.{IsEntry}
use Rattle.heap_laws.specs.Store.{WellFormed, free_pages}
use Rattle.heap_laws.specs.Table.{EndsAt, IsStorable, IsTable, Table, with_changed}
use Rattle.heap_laws.proofs.Appending.{head-sized, storable-entry}
use Rattle.heap_laws.proofs.Changing.{changes-row}
use Rattle.heap_laws.proofs.Orders.{number_of}
use Rattle.heap_laws.proofs.Reading.{reads, rows-numbered, rows-read as table-read}
use Rattle.heap_laws.proofs.Rows.{keyed-contains}
use Rattle.relation.proofs.Halves.{page_of, row_changed}
use Rattle.relation_laws.specs.Needs.{TakesNeeded, changes_open, has_room_for, moved_to, next_pages, page_under, taken_after}
use Rattle.relation_laws.specs.Reach.{with_root}
use Rattle.relation_laws.proofs.Changed.{Goes, full-both, moves}
use Rattle.relation_laws.proofs.Deleting.{StillThere}
use Rattle.relation_laws.proofs.Drawing.{Draws}
use Rattle.relation_laws.proofs.Reaching.{Touches}
use Rattle.relation_laws.proofs.Updating.{changed_at, numbers_of, still-changed}
use Rattle.relation_laws.proofs.Weighing.{under-one}
use Rattle.pager.specs.Allows.{in_turn}
use Rattle.pager.proofs.Turns.{left_pages}

-- a change that is made
pub record Change (size : ℕ) (pages after : Pages) (firsts indexes : List ℕ) (first last : ℕ) (table : Table) (change : ℕ × List Value) (to : ℕ) : Type 0 where
  pub well : WellFormed size after firsts indexes
  pub shows : IsTable size after first (with_changed table (record { number = change.0; page = to; row = change.1 }))
  pub end : ℕ
  pub opens : ℕ
  pub next : HeapPage
  pub ends : EndsAt size after first end next
  pub goes : Goes (has_room_for change (page_under change.0 table.rows) table.rows) (has_room_for change last table.rows) (page_under change.0 table.rows) last (taken_after pages 0) to end opens
  pub draws : Draws pages after opens
  pub touches : Touches pages after (page_under change.0 table.rows ∷ first ∷ last ∷ with_root (next_pages pages opens))
  pub takes : opens + free_pages size after ≡ free_pages size pages

pub one-change : (size : ℕ) (pages : Pages) (firsts indexes : List ℕ) (first : ℕ) (rows : List Placed) (table : Table) (change : ℕ × List Value) (last : ℕ) (tail : HeapPage) (y : ℕ × Pages) → WellFormed size pages firsts indexes → Contains firsts first → IsTable size pages first table → IsStorable change.1
    → (found : Placed) × (found.number ≡ change.0) × Contains table.rows found × (page_of first change.0 rows ≡ Ok found.page) → EndsAt size pages first last tail → row_changed size first rows change pages (Ok y) → Change size pages y.1 firsts indexes first last table change y.0
one-change size pages firsts indexes first rows table change last tail y well among is storable there ends h =
    let found = there.0 in
    let work = changed_at size first rows found change pages (Ok y) there.1 there.3 h in
    let one = changes-row size pages firsts indexes first table found change.1 (Ok y) well among is there.2 storable work in
    let read = reads size pages firsts indexes first well among in
    let numbered = table-read size pages first table read.one.chain.links read.one.lawful.head is read.route.leads read.head_at in
    let sized = head-sized size pages first read.one.chain.links read.one.lawful.head read.route read.head_at in
    let entry : IsEntry (record { number = found.number; row = change.1 }) = storable-entry found.number change.1 (omega (arith, sized.next_number, numbered.next_number, (rows-numbered size pages firsts indexes first table well among is found.number).1 (keyed-contains number_of table.rows found there.2))) storable in
    let move = moves size pages firsts indexes first table found change.1 y last tail well among is there.2 entry work one.well ends in
    let under = under-one change.0 table.rows found (rows-numbered size pages firsts indexes first table well among is change.0).0 there.2 there.1 in
    record {
      well = one.well;
      shows = subst (λ (n : ℕ). IsTable size y.1 first (with_changed table (record { number = n; page = y.0; row = change.1 }))) there.1 one.shows;
      end = move.end;
      opens = move.opens;
      next = move.next;
      ends = move.ends;
      goes = subst (λ (p : ℕ). Goes (has_room_for change p table.rows) (has_room_for change last table.rows) p last (taken_after pages 0) y.0 move.end move.opens) (sym under)
          (subst (λ (n : ℕ). Goes (has_room_for (n, change.1) found.page table.rows) (has_room_for (n, change.1) last table.rows) found.page last (taken_after pages 0) y.0 move.end move.opens) there.1 move.goes);
      draws = move.draws;
      touches = subst (λ (p : ℕ). Touches pages y.1 (p ∷ first ∷ last ∷ with_root (next_pages pages move.opens))) (sym under) move.touches;
      takes = move.takes;
    }

-- the pages that are taken next, once some were taken
abbrev shifted : (ℕ → ℕ) → ℕ → ℕ → ℕ
shifted next opens others = next (opens + others)

next-behind : (pages mid : Pages) (opens count : ℕ) → Draws pages mid opens → opens ≡ count → taken_after mid ≡ shifted (taken_after pages) count
next-behind pages mid opens count draws same = (λ i others. draws.goes others i) ∙ ap (shifted (taken_after pages)) same

next-same : (pages mid : Pages) (opens : ℕ) → Draws pages mid opens → opens ≡ 0 → taken_after mid ≡ taken_after pages
next-same pages mid opens draws same = next-behind pages mid opens 0 draws same ∙ (λ i others. taken_after pages (plus-zero others i))
  where
    plus-zero : (n : ℕ) → 0 + n ≡ n
    plus-zero n = omega arith

-- a change and those behind it open what they open one after the other
pub opens-behind : (pages mid : Pages) (last : ℕ) (rows : List Placed) (change : ℕ × List Value) (changes : List (ℕ × List Value)) (to end opens : ℕ) → Goes (has_room_for change (page_under change.0 rows) rows) (has_room_for change last rows) (page_under change.0 rows) last (taken_after pages 0) to end opens → Draws pages mid opens
    → changes_open (taken_after pages) last rows (change ∷ changes) ≡ opens + changes_open (taken_after mid) end (moved_to change to rows) changes
opens-behind pages mid last rows change changes to end opens goes draws = go (has_room_for change (page_under change.0 rows) rows) (has_room_for change last rows) goes
  where
    page : ℕ
    page = page_under change.0 rows

    sum-zero : {a b : ℕ} → 0 + a ≡ b → a ≡ b
    sum-zero e = omega (arith, e)

    at_one : (next : ℕ → ℕ) (n to_ end_ : ℕ) → taken_after mid ≡ next → to ≡ to_ → end ≡ end_ → opens ≡ n → n + changes_open next end_ (moved_to change to_ rows) changes ≡ opens + changes_open (taken_after mid) end (moved_to change to rows) changes
    at_one next n to_ end_ a b c d = sym (ap (λ (k : ℕ). k + changes_open (taken_after mid) end (moved_to change to rows) changes) d ∙ ap (λ (f : ℕ → ℕ). n + changes_open f end (moved_to change to rows) changes) a ∙ ap (λ (e : ℕ). n + changes_open next e (moved_to change to rows) changes) c ∙ ap (λ (t : ℕ). n + changes_open next end_ (moved_to change t rows) changes) b)

    go : (here room : Bool) → Goes here room page last (taken_after pages 0) to end opens
        → cond here (changes_open (taken_after pages) last (moved_to change page rows) changes)
        (cond room (changes_open (taken_after pages) last (moved_to change last rows) changes) (1 + changes_open (λ place. taken_after pages (1 + place)) (taken_after pages 0) (moved_to change (taken_after pages 0) rows) changes))
        ≡ opens + changes_open (taken_after mid) end (moved_to change to rows) changes
    go true room goes = sum-zero (at_one (taken_after pages) 0 page last (next-same pages mid opens draws goes.2) goes.0 goes.1 goes.2)
    go false true goes = sum-zero (at_one (taken_after pages) 0 last last (next-same pages mid opens draws goes.2) goes.0 goes.1 goes.2)
    go false false goes = at_one (λ place. taken_after pages (1 + place)) 1 (taken_after pages 0) (taken_after pages 0) (next-behind pages mid opens 1 draws goes.2) goes.0 goes.1 goes.2

-- changes take the pages that they open
pub needed : (size : ℕ) (pages : Pages) (firsts indexes : List ℕ) (first : ℕ) (rows : List Placed) (table : Table) (changes : List (ℕ × List Value)) (last : ℕ) (tail : HeapPage) (answer : Result (Unit {0} × Pages) Refusal) → WellFormed size pages firsts indexes → Contains firsts first → IsTable size pages first table → AllByRecursion (λ (change : ℕ × List Value). IsStorable change.1) changes → StillThere first rows table (numbers_of changes) → EndsAt size pages first last tail
    → in_turn (row_changed size first rows) changes pages answer → TakesNeeded size pages (changes_open (taken_after pages) last table.rows changes) answer
needed size pages firsts indexes first rows table [] last tail (Ok y) well among is storable there ends h = omega (arith, ap (λ (p : Pages). free_pages size p) (left_pages pages y.1 h))
needed size pages firsts indexes first rows table [] last tail (Err why) well among is storable there ends h = absurd cc
needed size pages firsts indexes first rows table (change ∷ changes) last tail (Ok y) well among is storable there ends h =
    let step = one-change size pages firsts indexes first rows table change last tail h.0 well among is storable.0 there.0 ends h.1 in
    let rest = needed size h.0.1 firsts indexes first rows (with_changed table (record { number = change.0; page = h.0.0; row = change.1 })) changes step.end step.next (Ok y) step.well among step.shows storable.1 (still-changed first rows table (record { number = change.0; page = h.0.0; row = change.1 }) (numbers_of changes) there.1 there.2) step.ends h.2 in
    let count = opens-behind pages h.0.1 last table.rows change changes h.0.0 step.end step.opens step.goes step.draws in
    omega (arith, count, step.takes, rest)
needed size pages firsts indexes first rows table (change ∷ changes) last tail (Err why) well among is storable there ends (inl h) =
    let found = there.0.0 in
    let stop = changes-row size pages firsts indexes first table found change.1 (Err why) well among is there.0.2 storable.0 (changed_at size first rows found change pages (Err why) there.0.1 there.0.3 h) in
    let both = full-both size pages firsts indexes first table found change.1 last tail well among is ends stop.1 in
    let under = under-one change.0 table.rows found (rows-numbered size pages firsts indexes first table well among is change.0).0 there.0.2 there.0.1 in
    let here : has_room_for change (page_under change.0 table.rows) table.rows ≡ false = subst (λ (p : ℕ). has_room_for change p table.rows ≡ false) (sym under) (subst (λ (n : ℕ). has_room_for (n, change.1) found.page table.rows ≡ false) there.0.1 both.0) in
    let end : has_room_for change last table.rows ≡ false = subst (λ (n : ℕ). has_room_for (n, change.1) last table.rows ≡ false) there.0.1 both.1 in
    omega (arith, stop.1.none, opens-one (has_room_for change (page_under change.0 table.rows) table.rows) (has_room_for change last table.rows) here end)
  where
    opens-one : (here room : Bool) → here ≡ false → room ≡ false
        → 0 < cond here (changes_open (taken_after pages) last (moved_to change (page_under change.0 table.rows) table.rows) changes)
        (cond room (changes_open (taken_after pages) last (moved_to change last table.rows) changes) (1 + changes_open (λ place. taken_after pages (1 + place)) (taken_after pages 0) (moved_to change (taken_after pages 0) table.rows) changes))
    opens-one true room p q = absurd cc
    opens-one false true p q = absurd cc
    opens-one false false p q = omega arith
needed size pages firsts indexes first rows table (change ∷ changes) last tail (Err why) well among is storable there ends (inr h) =
    let step = one-change size pages firsts indexes first rows table change last tail h.0 well among is storable.0 there.0 ends h.1 in
    let rest = needed size h.0.1 firsts indexes first rows (with_changed table (record { number = change.0; page = h.0.0; row = change.1 })) changes step.end step.next (Err why) step.well among step.shows storable.1 (still-changed first rows table (record { number = change.0; page = h.0.0; row = change.1 }) (numbers_of changes) there.1 there.2) step.ends h.2 in
    let count = opens-behind pages h.0.1 last table.rows change changes h.0.0 step.end step.opens step.goes step.draws in
    omega (arith, count, step.takes, rest)
