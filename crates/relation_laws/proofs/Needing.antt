-- The pages that added rows take.
use Rattle.std.proofs.Common.{◌≡◌, ◌∙◌, ◌<◌, ◌≤◌, ◌+◌, ◌-◌, ◌++◌, ◌^◌, ◌||◌, cond, ℕ, suc, Bool, true, false, nat_le, List, [], ◌∷◌, ◌==◌, length, map, Ok, Err, inl, inr, refl, sym, ap, subst, arith, length-append, append-nil}
use Rattle.std.specs.List.{AllByRecursion, Contains, list_any}
use Rattle.std.proofs.lemmas.List.Concat.{flat_map-append, flat_map-cons}
use Rattle.retro_base.specs.Fields.{field_bytes}
use Rattle.retro_base.specs.declared.refusal.Refusal.{Refusal}
use Rattle.retro_base.proofs.FieldLaws.{length-field_bytes}
use Rattle.values.specs.declared.value.Value.{Value}
use Rattle.sql_tree.specs.declared.statement.Column.{Column as TableColumn}
use Rattle.row_codec.specs.RowCode.{row_code}
use Rattle.row_codec.proofs.Codes.{row_size}
use Rattle.pager.specs.Pages.{Pages}
use Rattle.heap_file.specs.declared.page.Entry.{Entry}
use Rattle.heap_file.specs.declared.page.HeapPage.{HeapPage}
use Rattle.heap_file.specs.declared.page.TheConstants.{ENTRY_BYTES}
use Rattle.heap_file.specs.declared.chain.Link.{Link}
use Rattle.heap_file.specs.Chain.{IsAt, IsWay, last_page}
use Rattle.heap_file.specs.HeapPage.{entry_bytes, entry_code}
use Rattle.heap_file.specs.Work.{added}
use Rattle.heap_laws.specs.Store.{WellFormed, free_pages, times}
use Rattle.heap_laws.specs.Table.{AddsRow, EditsExactly, EndsAt, IsAdded, IsStorable, IsTable, MakesTable, Table, has_room, with_row}
use Rattle.heap_laws.proofs.Adding.{adds-row, tail-there}
use Rattle.heap_laws.proofs.Editing.{edits-as}
use Rattle.heap_laws.proofs.Reading.{reads}
use Rattle.heap_laws.proofs.Routes.{at-one, at-same, pages_on}
use Rattle.relation.specs.declared.catalog.TheConstants.{CATALOG}
use Rattle.relation.specs.declared.row.CatalogRow.TheVariants.{Table as TableOf}
use Rattle.relation.specs.CatalogRow.{row_values}
use Rattle.relation.specs.Work.{all_added, row_of_index, rows_of_columns, rows_of_table}
use Rattle.relation_laws.specs.Needs.{next_pages, pages_opened, entry_size, taken_after}
use Rattle.relation_laws.specs.Reach.{IsUntouched, with_root}
use Rattle.relation_laws.specs.Tables.{PlainTables}
use Rattle.relation_laws.proofs.Drawing.{Draws, draws-pages, draws-still, draws-then, next-first}
use Rattle.relation_laws.proofs.Drawn.{add-draws, opens_of}
use Rattle.relation_laws.proofs.Filling.{add-ends, entries_after}
use Rattle.relation_laws.proofs.Reaching.{made-spares, own-first, own-last}
use Rattle.relation_laws.proofs.Singling.{firsts_of, has-catalog}
use Rattle.relation_laws.proofs.TableStores.{IsTableStoreOf}
use Rattle.pager.proofs.Turns.{left_pages}

pub entry-length : (number : ℕ) (row : List Value) → length (entry_code (record { number = number; row = row })) ≡ entry_size row
entry-length number row =
    omega (arith, length-append (field_bytes 2 (length (row_code number row))) (row_code number row), length-field_bytes 2 (length (row_code number row)), row_size number row)

bytes-one : (entry : Entry) → length (entry_bytes (entry ∷ [])) ≡ length (entry_code entry)
bytes-one entry = ap length (flat_map-cons entry_code entry [] ∙ append-nil (entry_code entry))

pub bytes-push : (entries : List Entry) (entry : Entry) → length (entry_bytes (entries ++ entry ∷ [])) ≡ length (entry_bytes entries) + length (entry_code entry)
bytes-push entries entry =
    omega (arith, ap length (flat_map-append entry_code entries (entry ∷ [])), length-append (entry_bytes entries) (entry_bytes (entry ∷ [])), bytes-one entry)

-- the last page of a table is one
pub ends-one : (size : ℕ) (pages : Pages) (first last other : ℕ) (tail also : HeapPage) → EndsAt size pages first last tail → EndsAt size pages first other also → tail ≡ also
ends-one size pages first last other tail also one two =
    let heads : one.head ≡ two.head = at-one size size pages first one.head two.head one.at_first two.at_first in
    let same : last ≡ other = sym one.named ∙ ap (λ (h : HeapPage). cond (h.last == 0) first h.last) heads ∙ two.named in
    at-one size size pages other tail also (subst (λ (p : ℕ). IsAt size pages p tail) same one.at_last) two.at_last

pub last-one : (size : ℕ) (pages : Pages) (first last other : ℕ) (tail also : HeapPage) → EndsAt size pages first last tail → EndsAt size pages first other also → last ≡ other
last-one size pages first last other tail also one two =
    let heads : one.head ≡ two.head = at-one size size pages first one.head two.head one.at_first two.at_first in
    sym one.named ∙ ap (λ (h : HeapPage). cond (h.last == 0) first h.last) heads ∙ two.named

-- edits after edits
or-assoc : (a b c : Bool) → (a || (b || c)) ≡ ((a || b) || c)
or-assoc true b c = refl
or-assoc false b c = refl

or-none : (a b : Bool) → (a || b) ≡ false → (a ≡ false) × (b ≡ false)
or-none true b e = absurd cc
or-none false b e = (refl, e)

edits-then : (pages mid after : Pages) (one two all : List ℕ) → ((p : ℕ) → list_any (λ other. p == other) all ≡ (list_any (λ other. p == other) two || list_any (λ other. p == other) one)) → EditsExactly pages mid one → EditsExactly mid after two → EditsExactly pages after all
edits-then pages mid after one two all joined first_half second_half = record {
  same = λ p none.
      let parts = or-none (list_any (λ other. p == other) two) (list_any (λ other. p == other) one) (sym (joined p) ∙ none) in
      second_half.same p parts.0 ∙ first_half.same p parts.1;
  edited = λ p.
      second_half.edited p ∙ ap (λ (b : Bool). list_any (λ other. p == other) two || b) (first_half.edited p)
      ∙ or-assoc (list_any (λ other. p == other) two) (list_any (λ other. p == other) one) (pages.edited p) ∙ ap (λ (b : Bool). b || pages.edited p) (sym (joined p));
}

-- the page that a row opens, if it opens one, and the last page then
abbrev opens_ : Bool → ℕ → List ℕ
opens_ room page = cond room [] (page ∷ [])

abbrev end_in : Bool → ℕ → ℕ → ℕ
end_in room last page = cond room last page

-- the edits of a row and of those behind it
rows-join : (pages mid after : Pages) (first last page : ℕ) (room : Bool) (more : List ℕ) → EditsExactly pages mid (first ∷ last ∷ with_root (opens_ room page)) → EditsExactly mid after (first ∷ end_in room last page ∷ with_root more) → EditsExactly pages after (first ∷ last ∷ with_root (opens_ room page ++ more))
rows-join pages mid after first last page true more one two =
    edits-then pages mid after (first ∷ last ∷ []) (first ∷ last ∷ with_root more) (first ∷ last ∷ with_root more) (λ p. again (p == first) (p == last) (list_any (λ other. p == other) (with_root more))) one two
  where
    again : (f l x : Bool) → (f || (l || x)) ≡ ((f || (l || x)) || (f || (l || false)))
    again true l x = refl
    again false true x = refl
    again false false true = refl
    again false false false = refl
rows-join pages mid after first last page false [] one two =
    edits-then pages mid after (first ∷ last ∷ 0 ∷ page ∷ []) (first ∷ page ∷ []) (first ∷ last ∷ 0 ∷ page ∷ []) (λ p. again (p == first) (p == last) (p == 0) (p == page)) one two
  where
    again : (f l z n : Bool) → (f || (l || (z || (n || false)))) ≡ ((f || (n || false)) || (f || (l || (z || (n || false)))))
    again true l z n = refl
    again false true z true = refl
    again false true z false = refl
    again false false true true = refl
    again false false true false = refl
    again false false false true = refl
    again false false false false = refl
rows-join pages mid after first last page false (q ∷ more) one two =
    edits-then pages mid after (first ∷ last ∷ 0 ∷ page ∷ []) (first ∷ page ∷ 0 ∷ q ∷ more) (first ∷ last ∷ 0 ∷ page ∷ q ∷ more) (λ p. again (p == first) (p == last) (p == 0) (p == page) (list_any (λ other. p == other) (q ∷ more))) one two
  where
    again : (f l z n y : Bool) → (f || (l || (z || (n || y)))) ≡ ((f || (n || (z || y))) || (f || (l || (z || (n || false)))))
    again true l z n y = refl
    again false true z true y = refl
    again false true true false y = refl
    again false true false false true = refl
    again false true false false false = refl
    again false false true true y = refl
    again false false true false y = refl
    again false false false true y = refl
    again false false false false true = refl
    again false false false false false = refl

-- a row that is added opens a page where it has no room, and the rows behind it go on from where it stands
record Steps (size : ℕ) (pages after : Pages) (first last : ℕ) (tail : HeapPage) (row : List Value) : Type 0 where
  room : Bool
  page : ℕ
  next : HeapPage
  ends : EndsAt size after first (end_in room last page) next
  opens : (rows : List (List Value)) → pages_opened (length (entry_bytes tail.entries)) (row ∷ rows) ≡ length (opens_ room page) + pages_opened (length (entry_bytes next.entries)) rows
  takes : length (opens_ room page) + free_pages size after ≡ free_pages size pages
  edits : EditsExactly pages after (first ∷ last ∷ with_root (opens_ room page))
  are : opens_ room page ≡ next_pages pages (length (opens_ room page))
  draws : Draws pages after (length (opens_ room page))

-- a page that is taken, and those behind it
pub next-more : (pages mid : Pages) (count : ℕ) → Draws pages mid 1 → taken_after pages 0 ∷ next_pages mid count ≡ next_pages pages (1 + count)
next-more pages mid count draws = ap (λ (l : List ℕ). taken_after pages 0 ∷ l) (draws-pages pages mid 1 0 count draws) ∙ ap (next_pages pages) more
  where
    more : suc count ≡ 1 + count
    more = omega arith

-- the pages that a row opens, before those that the rows behind it open
open-join : (pages mid : Pages) (room : Bool) (page count : ℕ) → opens_ room page ≡ next_pages pages (length (opens_ room page)) → Draws pages mid (length (opens_ room page)) → opens_ room page ++ next_pages mid count ≡ next_pages pages (length (opens_ room page) + count)
open-join pages mid true page count are draws = draws-pages pages mid 0 0 count draws ∙ ap (next_pages pages) same
  where
    same : count ≡ 0 + count
    same = omega arith
open-join pages mid false page count are draws = ap (λ (l : List ℕ). l ++ next_pages mid count) are ∙ next-more pages mid count draws

steps : (size : ℕ) (pages : Pages) (firsts indexes : List ℕ) (first : ℕ) (table : Table) (row : List Value) (y : (ℕ × ℕ) × Pages) (last : ℕ) (tail : HeapPage) → WellFormed size pages firsts indexes → Contains firsts first → IsTable size pages first table → IsStorable row → table.next_number < 2 ^ 64 - 1
    → added size pages first row (Ok y) → AddsRow size pages firsts indexes first table row y.0 y.1 → EndsAt size pages first last tail → Steps size pages y.1 first last tail row
steps size pages firsts indexes first table row y last tail well has shows storable small work adds ends =
    let put = add-ends size pages firsts indexes first table row y well has shows storable small work in
    let entry : Entry = record { number = table.next_number; row = row } in
    let tails : put.tail ≡ tail = ends-one size pages first put.last last put.tail tail put.ends ends in
    let lasts : put.last ≡ last = last-one size pages first put.last last put.tail tail put.ends ends in
    let others : adds.tail ≡ tail = ends-one size pages first adds.last last adds.tail tail adds.ends ends in
    go (has_room tail entry) put.to put.ended.tail put.ended.ends
    (subst (λ (n : ℕ). has_room tail entry ≡ nat_le n ENTRY_BYTES) (bytes-push tail.entries entry ∙ ap (λ (k : ℕ). length (entry_bytes tail.entries) + k) (entry-length table.next_number row)) refl)
    (subst (λ (t : HeapPage). put.ended.tail.entries ≡ entries_after (has_room t entry) t entry) tails put.ended.are)
    (λ room. put.stays (subst (λ (t : HeapPage). has_room t entry ≡ true) (sym tails) room) ∙ lasts)
    (λ room. put.moves (subst (λ (t : HeapPage). has_room t entry ≡ false) (sym tails) room))
    (subst (λ (l : ℕ). IsAdded (has_room tail entry) size pages y.1 first l y.0.1) (last-one size pages first adds.last last adds.tail tail adds.ends ends) (subst (λ (t : HeapPage). IsAdded (has_room t entry) size pages y.1 first adds.last y.0.1) others adds.effect))
    (subst (λ (t : HeapPage). Draws pages y.1 (opens_of (has_room t entry))) others (add-draws size pages firsts indexes first table row y well has work adds))
  where
    turn : (f l n z : Bool) → (f || (l || (n || (z || false)))) ≡ (f || (l || (z || (n || false))))
    turn true l n z = refl
    turn false true n z = refl
    turn false false true true = refl
    turn false false true false = refl
    turn false false false true = refl
    turn false false false false = refl

    go : (b : Bool) (to : ℕ) (next : HeapPage) → EndsAt size y.1 first to next → b ≡ nat_le (length (entry_bytes tail.entries) + entry_size row) ENTRY_BYTES
        → next.entries ≡ entries_after b tail (record { number = table.next_number; row = row }) → (b ≡ true → to ≡ last) → (b ≡ false → to ≡ y.0.1)
        → IsAdded b size pages y.1 first last y.0.1 → Draws pages y.1 (opens_of b) → Steps size pages y.1 first last tail row
    go true to next ended e are stays moves effect draws =
        let long : length (entry_bytes next.entries) ≡ length (entry_bytes tail.entries) + entry_size row = ap (λ (es : List Entry). length (entry_bytes es)) are ∙ bytes-push tail.entries (record { number = table.next_number; row = row }) ∙ ap (λ (k : ℕ). length (entry_bytes tail.entries) + k) (entry-length table.next_number row) in
        record {
          room = true;
          page = y.0.1;
          next = next;
          ends = subst (λ (p : ℕ). EndsAt size y.1 first p next) (stays refl) ended;
          opens = λ rows. omega (arith, ap (λ (b : Bool). cond b (pages_opened (length (entry_bytes tail.entries) + entry_size row) rows) (1 + pages_opened (entry_size row) rows)) e, ap (λ (n : ℕ). pages_opened n rows) long);
          takes = omega (arith, effect.1);
          edits = effect.2;
          are = refl;
          draws = draws;
        }
    go false to next ended e are stays moves effect draws =
        let long : length (entry_bytes next.entries) ≡ entry_size row = ap (λ (es : List Entry). length (entry_bytes es)) are ∙ bytes-one (record { number = table.next_number; row = row }) ∙ entry-length table.next_number row in
        record {
          room = false;
          page = y.0.1;
          next = next;
          ends = subst (λ (p : ℕ). EndsAt size y.1 first p next) (moves refl) ended;
          opens = λ rows. omega (arith, ap (λ (b : Bool). cond b (pages_opened (length (entry_bytes tail.entries) + entry_size row) rows) (1 + pages_opened (entry_size row) rows)) e, ap (λ (n : ℕ). pages_opened n rows) long);
          takes = omega (arith, effect.0.one_less);
          edits = edits-as pages y.1 (first ∷ last ∷ y.0.1 ∷ 0 ∷ []) (first ∷ last ∷ 0 ∷ y.0.1 ∷ []) (λ p. turn (p == first) (p == last) (p == y.0.1) (p == 0)) effect.1;
          are = ap (λ (p : ℕ). p ∷ []) (effect.0.next ∙ next-first pages);
          draws = draws;
        }

-- rows that are added take the pages that they open
pub rows-take : (size : ℕ) (pages after : Pages) (firsts indexes : List ℕ) (first : ℕ) (table : Table) (rows : List (List Value)) (last : ℕ) (tail : HeapPage) → WellFormed size pages firsts indexes → Contains firsts first → IsTable size pages first table → AllByRecursion IsStorable rows → table.next_number + length rows < 2 ^ 64 → EndsAt size pages first last tail
    → all_added size first rows pages (Ok (tt, after)) → pages_opened (length (entry_bytes tail.entries)) rows + free_pages size after ≡ free_pages size pages
rows-take size pages after firsts indexes first table [] last tail well among is storable room ends h = omega (arith, ap (λ (p : Pages). free_pages size p) (left_pages pages after h))
rows-take size pages after firsts indexes first table (row ∷ rows) last tail well among is storable room ends h =
    let one = adds-row size pages firsts indexes first table row (Ok h.0) well among is storable.0 (omega (arith, room)) h.1 in
    let step = steps size pages firsts indexes first table row h.0 last tail well among is storable.0 (omega (arith, room)) h.1 one ends in
    let rest = rows-take size h.0.1 after firsts indexes first (with_row table h.0.0.1 row) rows (end_in step.room last step.page) step.next one.well among one.shows storable.1 (omega (arith, room)) step.ends h.2 in
    let opens = step.opens rows in
    omega (arith, rest, opens, step.takes)

-- the pages that are taken behind those that added rows open
pub rows-draw : (size : ℕ) (pages after : Pages) (firsts indexes : List ℕ) (first : ℕ) (table : Table) (rows : List (List Value)) (last : ℕ) (tail : HeapPage) → WellFormed size pages firsts indexes → Contains firsts first → IsTable size pages first table → AllByRecursion IsStorable rows → table.next_number + length rows < 2 ^ 64 → EndsAt size pages first last tail
    → all_added size first rows pages (Ok (tt, after)) → Draws pages after (pages_opened (length (entry_bytes tail.entries)) rows)
rows-draw size pages after firsts indexes first table [] last tail well among is storable room ends h = subst (λ (p : Pages). Draws pages p 0) (left_pages pages after h) (draws-still pages)
rows-draw size pages after firsts indexes first table (row ∷ rows) last tail well among is storable room ends h =
    let one = adds-row size pages firsts indexes first table row (Ok h.0) well among is storable.0 (omega (arith, room)) h.1 in
    let step = steps size pages firsts indexes first table row h.0 last tail well among is storable.0 (omega (arith, room)) h.1 one ends in
    let rest = rows-draw size h.0.1 after firsts indexes first (with_row table h.0.0.1 row) rows (end_in step.room last step.page) step.next one.well among one.shows storable.1 (omega (arith, room)) step.ends h.2 in
    subst (Draws pages after) (sym (step.opens rows)) (draws-then pages h.0.1 after (length (opens_ step.room step.page)) (pages_opened (length (entry_bytes step.next.entries)) rows) step.draws rest)

-- the pages that added rows edit
pub rows-edit : (size : ℕ) (pages after : Pages) (firsts indexes : List ℕ) (first : ℕ) (table : Table) (rows : List (List Value)) (last : ℕ) (tail : HeapPage) → WellFormed size pages firsts indexes → Contains firsts first → IsTable size pages first table → AllByRecursion IsStorable rows → table.next_number + length rows < 2 ^ 64 → EndsAt size pages first last tail → 1 ≤ length rows
    → all_added size first rows pages (Ok (tt, after)) → EditsExactly pages after (first ∷ last ∷ with_root (next_pages pages (pages_opened (length (entry_bytes tail.entries)) rows)))
rows-edit size pages after firsts indexes first table [] last tail well among is storable room ends some h = absurd (omega (arith, some))
rows-edit size pages after firsts indexes first table (row ∷ []) last tail well among is storable room ends some h =
    let one = adds-row size pages firsts indexes first table row (Ok h.0) well among is storable.0 (omega (arith, room)) h.1 in
    let step = steps size pages firsts indexes first table row h.0 last tail well among is storable.0 (omega (arith, room)) h.1 one ends in
    let count : length (opens_ step.room step.page) ≡ pages_opened (length (entry_bytes tail.entries)) (row ∷ []) = omega (arith, step.opens []) in
    subst (λ (n : ℕ). EditsExactly pages after (first ∷ last ∷ with_root (next_pages pages n))) count
    (subst (λ (l : List ℕ). EditsExactly pages after (first ∷ last ∷ with_root l)) step.are (subst (λ (p : Pages). EditsExactly pages p (first ∷ last ∷ with_root (opens_ step.room step.page))) (left_pages h.0.1 after h.2) step.edits))
rows-edit size pages after firsts indexes first table (row ∷ next ∷ rows) last tail well among is storable room ends some h =
    let one = adds-row size pages firsts indexes first table row (Ok h.0) well among is storable.0 (omega (arith, room)) h.1 in
    let step = steps size pages firsts indexes first table row h.0 last tail well among is storable.0 (omega (arith, room)) h.1 one ends in
    let count = pages_opened (length (entry_bytes step.next.entries)) (next ∷ rows) in
    let rest = rows-edit size h.0.1 after firsts indexes first (with_row table h.0.0.1 row) (next ∷ rows) (end_in step.room last step.page) step.next one.well among one.shows storable.1 (omega (arith, room)) step.ends (omega arith) h.2 in
    let joined : opens_ step.room step.page ++ next_pages h.0.1 count ≡ next_pages pages (pages_opened (length (entry_bytes tail.entries)) (row ∷ next ∷ rows)) =
    open-join pages h.0.1 step.room step.page count step.are step.draws ∙ ap (next_pages pages) (sym (step.opens (next ∷ rows))) in
    subst (λ (l : List ℕ). EditsExactly pages after (first ∷ last ∷ with_root l)) joined (rows-join pages h.0.1 after first last step.page step.room (next_pages h.0.1 count) step.edits rest)

-- rows that are refused open more pages than are free
pub rows-full : (size : ℕ) (pages : Pages) (firsts indexes : List ℕ) (first : ℕ) (table : Table) (rows : List (List Value)) (why : Refusal) (last : ℕ) (tail : HeapPage) → WellFormed size pages firsts indexes → Contains firsts first → IsTable size pages first table → AllByRecursion IsStorable rows → table.next_number + length rows < 2 ^ 64 → EndsAt size pages first last tail
    → all_added size first rows pages (Err why) → free_pages size pages < pages_opened (length (entry_bytes tail.entries)) rows
rows-full size pages firsts indexes first table [] why last tail well among is storable room ends h = absurd cc
rows-full size pages firsts indexes first table (row ∷ rows) why last tail well among is storable room ends (inl h) =
    let full = (adds-row size pages firsts indexes first table row (Err why) well among is storable.0 (omega (arith, room)) h).1 in
    let same : full.tail ≡ tail = ends-one size pages first full.last last full.tail tail full.ends ends in
    none (nat_le (length (entry_bytes tail.entries) + entry_size row) ENTRY_BYTES) refl full.none (subst (λ (t : HeapPage). has_room t (record { number = table.next_number; row = row }) ≡ false) same full.room)
  where
    clash : true ≡ false → ⊥
    clash e = absurd cc

    none : (b : Bool) → nat_le (length (entry_bytes tail.entries) + entry_size row) ENTRY_BYTES ≡ b → free_pages size pages ≡ 0 → has_room tail (record { number = table.next_number; row = row }) ≡ false
        → free_pages size pages < cond b (pages_opened (length (entry_bytes tail.entries) + entry_size row) rows) (1 + pages_opened (entry_size row) rows)
    none true e free room = absurd (clash (sym e ∙ sym (ap (λ (n : ℕ). nat_le n ENTRY_BYTES) (bytes-push tail.entries (record { number = table.next_number; row = row }) ∙ ap (λ (k : ℕ). length (entry_bytes tail.entries) + k) (entry-length table.next_number row))) ∙ room))
    none false e free room = omega (arith, free)
rows-full size pages firsts indexes first table (row ∷ rows) why last tail well among is storable room ends (inr h) =
    let one = adds-row size pages firsts indexes first table row (Ok h.0) well among is storable.0 (omega (arith, room)) h.1 in
    let step = steps size pages firsts indexes first table row h.0 last tail well among is storable.0 (omega (arith, room)) h.1 one ends in
    let rest = rows-full size h.0.1 firsts indexes first (with_row table h.0.0.1 row) rows why (end_in step.room last step.page) step.next one.well among one.shows storable.1 (omega (arith, room)) step.ends h.2 in
    let opens = step.opens rows in
    omega (arith, rest, opens, step.takes)

-- each table has a last page
pub ends-there : (size : ℕ) (pages : Pages) (firsts indexes : List ℕ) (first : ℕ) → WellFormed size pages firsts indexes → Contains firsts first → (last : ℕ) × (tail : HeapPage) × EndsAt size pages first last tail
ends-there size pages firsts indexes first well has =
    let read = reads size pages firsts indexes first well has in
    let tail = tail-there size pages firsts indexes first well has read.one.lawful.head read.head_at in
    (last_page first read.one.lawful.head, tail.0, record { head = read.one.lawful.head; at_first = read.head_at; named = refl; at_last = tail.1 })

-- rows of one length before others open as many pages
opened-as : (taken : ℕ) (row other : List Value) (rows : List (List Value)) → entry_size row ≡ entry_size other → pages_opened taken (row ∷ rows) ≡ pages_opened taken (other ∷ rows)
opened-as taken row other rows long =
    ap (λ (n : ℕ). cond (nat_le (taken + n) ENTRY_BYTES) (pages_opened (taken + n) rows) (1 + pages_opened n rows)) long

-- a table's row in the catalog is as long whatever its first page is
pub opened-same : (taken : ℕ) (name : List ℕ) (first other : ℕ) (columns : List TableColumn) → pages_opened taken (map row_values (rows_of_table name first columns)) ≡ pages_opened taken (map row_values (rows_of_table name other columns))
opened-same taken name first other columns =
    opened-as taken (row_values (TableOf (record { name = name; first = first }))) (row_values (TableOf (record { name = name; first = other }))) (map row_values (rows_of_columns name 0 columns)) refl

-- an index's row is as long whatever its column's place and its root page are
pub opened-index : (taken : ℕ) (name table : List ℕ) (place other root next : ℕ) → pages_opened taken (row_values (row_of_index name table place root) ∷ []) ≡ pages_opened taken (row_values (row_of_index name table other next) ∷ [])
opened-index taken name table place other root next = opened-as taken (row_values (row_of_index name table place root)) (row_values (row_of_index name table other next)) [] refl

-- a table ends where it did where its pages are left alone
pub ends-kept : (size : ℕ) (pages after : Pages) (firsts indexes : List ℕ) (first : ℕ) (well : WellFormed size pages firsts indexes) (has : Contains firsts first) → ((links : List Link) → IsWay size pages first links 0 → (p : ℕ) → 0 < times p (pages_on links) → IsUntouched pages after p) → (last : ℕ) (tail : HeapPage) → EndsAt size pages first last tail → EndsAt size after first last tail
ends-kept size pages after firsts indexes first well has spared last tail ends =
    let read = reads size pages firsts indexes first well has in
    let same = spared read.one.chain.links read.route.leads in
    record {
      head = ends.head;
      at_first = at-same size pages after first ends.head (same first (own-first size pages firsts indexes first well has)).0 ends.at_first;
      named = ends.named;
      at_last = at-same size pages after last tail (same last (own-last size pages firsts indexes first last tail well has ends)).0 ends.at_last;
    }

-- the catalog ends where it did once a table's first page is made
pub ends-made : {all : PlainTables} (size : ℕ) (pages : Pages) (is : IsTableStoreOf size pages all) (table : ℕ × Pages) → MakesTable size pages (firsts_of is.store.found) is.store.held table.0 table.1 → (last : ℕ) (tail : HeapPage) → EndsAt size pages CATALOG last tail → EndsAt size table.1 CATALOG last tail
ends-made size pages is table makes last tail ends =
    ends-kept size pages table.1 (firsts_of is.store.found) is.store.held CATALOG is.store.heap (has-catalog is.store.found) (made-spares size pages table.1 (firsts_of is.store.found) is.store.held table.0 is.store.heap makes CATALOG (has-catalog is.store.found)) last tail ends
