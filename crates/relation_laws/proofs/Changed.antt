-- The pages that changed rows take.
use Rattle.std.proofs.Common.{◌≡◌, ◌∙◌, ◌<◌, ◌+◌, ◌==◌, cond, ℕ, Bool, true, false, nat_le, List, [], ◌∷◌, length, Some, Ok, inl, inr, refl, sym, ap, subst, arith}
use Rattle.std.specs.List.{Contains, insert}
use Rattle.std.proofs.lemmas.List.Sorted.{Contains-permutation, IsPermutation-sym}
use Rattle.values.specs.declared.value.Value.{Value}
use Rattle.pager.specs.Pages.{Pages, with_bytes}
use Rattle.heap_file.specs.declared.chain.Placed.{Placed}
use Rattle.heap_file.specs.declared.page.Entry.{Entry}
use Rattle.heap_file.specs.declared.page.HeapPage.{HeapPage}
use Rattle.heap_file.specs.declared.page.TheConstants.{ENTRY_BYTES}
use Rattle.pager.specs.Allows.{either, only}
use Rattle.heap_file.specs.Chain.{IsAt, last_page, met, rows_of}
use Rattle.heap_file.specs.HeapPage.{IsEntry, entry_bytes, page_bytes}
use Rattle.heap_file.specs.Work.{place_of, appended, changed, without}
use Rattle.heap_file.proofs.Packing.{with_fits, without_fits}
use Rattle.heap_laws.specs.Store.{IsSized, WellFormed, free_pages, next_free, times}
use Rattle.heap_laws.specs.Table.{ChangeIsFull, EditsExactly, EndsAt, IsTable, Table, has_room, without_row}
use Rattle.heap_laws.proofs.Adding.{IsPut, put-answer, tail-there}
use Rattle.heap_laws.proofs.Appending.{update-head}
use Rattle.heap_laws.proofs.Editing.{Finished, edits-none, edits-write, free-same}
use Rattle.heap_laws.proofs.Meeting.{changed-met, changed_met, meets}
use Rattle.heap_laws.proofs.Reading.{Reads, ok-one, reads, rows-read}
use Rattle.heap_laws.proofs.Removing.{place-there, take-out, without-sized}
use Rattle.heap_laws.proofs.Routes.{IsRoute, around, link_of, route-update, written-other}
use Rattle.heap_laws.proofs.Rows.{Standing, standing}
use Rattle.heap_laws.proofs.Spotting.{spot}
use Rattle.relation_laws.specs.Needs.{bytes_on, has_room_for, next_pages, entry_size, taken_after}
use Rattle.relation_laws.specs.Reach.{with_root}
use Rattle.relation_laws.proofs.Drawing.{Draws, draws-then, next-first}
use Rattle.relation_laws.proofs.Drawn.{RootStep, append-step, step-none, step-one}
use Rattle.relation_laws.proofs.Filling.{put-ends}
use Rattle.relation_laws.proofs.Needing.{bytes-push, ends-one, entry-length, last-one}
use Rattle.relation_laws.proofs.Reaching.{Touches, own, own-first, own-last, own-met, untouched, untouched-then}
use Rattle.relation_laws.proofs.Weighing.{on-last, on-page}

-- Where a changed row goes: it stays on its page where that has room, else it goes to the last page where that has room, else to the next one, which is the last then.
abbrev pub Goes : Bool → Bool → ℕ → ℕ → ℕ → ℕ → ℕ → ℕ → Type 0
Goes true room page last next to end opens = (to ≡ page) × (end ≡ last) × (opens ≡ 0)
Goes false true page last next to end opens = (to ≡ last) × (end ≡ last) × (opens ≡ 0)
Goes false false page last next to end opens = (to ≡ next) × (end ≡ next) × (opens ≡ 1)

-- where a changed row goes, what the last page of its table is then, and which pages are edited
pub record Moves (size : ℕ) (pages after : Pages) (first last page : ℕ) (change : ℕ × List Value) (rows : List Placed) (to : ℕ) : Type 0 where
  pub end : ℕ
  pub opens : ℕ
  pub next : HeapPage
  pub ends : EndsAt size after first end next
  pub goes : Goes (has_room_for change page rows) (has_room_for change last rows) page last (taken_after pages 0) to end opens
  pub takes : opens + free_pages size after ≡ free_pages size pages
  pub draws : Draws pages after opens
  pub touches : Touches pages after (page ∷ first ∷ last ∷ with_root (next_pages pages opens))

-- a page that is written leaves the last page of a chain, where it names the same one
ends-after : (size : ℕ) (pages : Pages) (firsts indexes : List ℕ) (first last page : ℕ) (tail held now : HeapPage) → IsAt size pages page held → IsSized now → now.last ≡ held.last → now.next_number ≡ held.next_number → WellFormed size (with_bytes pages page (page_bytes now)) firsts indexes → Contains firsts first
    → EndsAt size pages first last tail → (next : HeapPage) × EndsAt size (with_bytes pages page (page_bytes now)) first last next
ends-after size pages firsts indexes first last page tail held now at sized lasts numbers well has ends =
    let head = update-head size pages first ends.head page held now ends.at_first at sized lasts numbers in
    let named : last_page first head.0 ≡ last = ap (λ (l : ℕ). cond (l == 0) first l) head.2 ∙ ends.named in
    let there = tail-there size (with_bytes pages page (page_bytes now)) firsts indexes first well has head.0 head.1 in
    (there.0, record { head = head.0; at_first = head.1; named = named; at_last = subst (λ (p : ℕ). IsAt size (with_bytes pages page (page_bytes now)) p there.0) named there.1 })

-- whether there is room, by the bytes of the rows
room-is : (page : ℕ) (held : HeapPage) (number : ℕ) (row : List Value) (rows : List Placed) → bytes_on page rows ≡ length (entry_bytes held.entries) → has_room held (record { number = number; row = row }) ≡ nat_le (bytes_on page rows + entry_size row) ENTRY_BYTES
room-is page held number row rows weighs =
    ap (λ (n : ℕ). nat_le n ENTRY_BYTES) (bytes-push held.entries (record { number = number; row = row }) ∙ ap (λ (k : ℕ). length (entry_bytes held.entries) + k) (entry-length number row) ∙ ap (λ (k : ℕ). k + entry_size row) (sym weighs))

-- a store with a row taken out: the rows that are left weigh what stands on their page and on the last one
record Out (size : ℕ) (pages : Pages) (firsts indexes : List ℕ) (first : ℕ) (table : Table) (placed : Placed) (last : ℕ) (rest : HeapPage) : Type 0 where
  held : HeapPage
  there : IsAt size pages placed.page held
  finished : Finished size pages (with_bytes pages placed.page (page_bytes rest)) firsts indexes first (without_row table placed.number)
  weighs : bytes_on placed.page (without_row table placed.number).rows ≡ length (entry_bytes rest.entries)
  tail : HeapPage
  ends : EndsAt size (with_bytes pages placed.page (page_bytes rest)) first last tail
  weighs_last : bytes_on last (without_row table placed.number).rows ≡ length (entry_bytes tail.entries)

out-of : (size : ℕ) (pages : Pages) (firsts indexes : List ℕ) (first : ℕ) (table : Table) (placed : Placed) (found : ℕ × HeapPage) (place last : ℕ) (tail : HeapPage) → WellFormed size pages firsts indexes → Contains firsts first → IsTable size pages first table
    → met size pages first placed.page (Ok found) → place_of placed.number found.1.entries ≡ Some place → EndsAt size pages first last tail → Out size pages firsts indexes first table placed last (without found.1 place)
out-of size pages firsts indexes first table placed found place last tail well has shows at here ends =
    let read = reads size pages firsts indexes first well has in
    let it = spot size pages first placed.page placed.number found.0 place found.1 read.one.chain.links read.route.leads at here in
    let route = subst (IsRoute size pages first) it.links_are read.route in
    let stands = around size pages first it.before (link_of placed.page found.1) it.behind route in
    let rest = without found.1 place in
    let sized = without-sized found.1 place (place-there read.one.chain.links placed.page placed.number found.0 found.1 place it) stands.sized_here in
    let finished = take-out size pages firsts indexes first table placed.page placed.number found.0 found.1 place well has shows read it in
    let end = ends-after size pages firsts indexes first last placed.page tail found.1 rest stands.here sized refl refl finished.well has ends in
    record {
      held = found.1;
      there = stands.here;
      finished = finished;
      weighs = on-page size (with_bytes pages placed.page (page_bytes rest)) first (without_row table placed.number) it.before placed.page rest it.behind (route-update size pages first it.before (link_of placed.page found.1) it.behind rest route refl sized) finished.shows;
      tail = end.0;
      ends = end.1;
      weighs_last = on-last size (with_bytes pages placed.page (page_bytes rest)) firsts indexes first (without_row table placed.number) last end.0 finished.well has finished.shows end.1;
    }

-- a page with a changed row in its place
kept-sized : (size : ℕ) (pages : Pages) (firsts indexes : List ℕ) (first : ℕ) (placed : Placed) (row : List Value) (found : ℕ × HeapPage) (place : ℕ) → WellFormed size pages firsts indexes → Contains firsts first → IsEntry (record { number = placed.number; row = row })
    → met size pages first placed.page (Ok found) → place_of placed.number found.1.entries ≡ Some place → has_room (without found.1 place) (record { number = placed.number; row = row }) ≡ true
    → IsSized (record (without found.1 place) { entries = insert (without found.1 place).entries place (record { number = placed.number; row = row }) })
kept-sized size pages firsts indexes first placed row found place well has is at here room =
    let read = reads size pages firsts indexes first well has in
    let it = spot size pages first placed.page placed.number found.0 place found.1 read.one.chain.links read.route.leads at here in
    let stands = around size pages first it.before (link_of placed.page found.1) it.behind (subst (IsRoute size pages first) it.links_are read.route) in
    record {
      page = with_fits (without found.1 place) place (record { number = placed.number; row = row }) (without_fits found.1 place (place-there read.one.chain.links placed.page placed.number found.0 found.1 place it) stands.sized_here.page) is room;
      next = stands.sized_here.next;
      next_number = stands.sized_here.next_number;
      last = stands.sized_here.last;
    }

found-at : (size : ℕ) (pages : Pages) (firsts indexes : List ℕ) (first : ℕ) (placed : Placed) (found : ℕ × HeapPage) (place : ℕ) → WellFormed size pages firsts indexes → Contains firsts first → met size pages first placed.page (Ok found) → place_of placed.number found.1.entries ≡ Some place → IsAt size pages placed.page found.1
found-at size pages firsts indexes first placed found place well has at here =
    let read = reads size pages firsts indexes first well has in
    let it = spot size pages first placed.page placed.number found.0 place found.1 read.one.chain.links read.route.leads at here in
    (around size pages first it.before (link_of placed.page found.1) it.behind (subst (IsRoute size pages first) it.links_are read.route)).here

next-same : (pages out : Pages) → out.at 0 ≡ pages.at 0 → next_free out ≡ next_free pages
next-same pages out same = ap (λ (bytes : List ℕ). next_free (record { at = λ page. bytes; edited = λ page. false })) same

-- a changed row that goes to the end of its table
moves-on : (size : ℕ) (pages : Pages) (firsts indexes : List ℕ) (first : ℕ) (table : Table) (placed : Placed) (row : List Value) (y : ℕ × Pages) (last : ℕ) (tail rest : HeapPage) → WellFormed size pages firsts indexes → Contains firsts first → IsTable size pages first table → IsEntry (record { number = placed.number; row = row }) → EndsAt size pages first last tail
    → (has_own : Contains firsts first × ((well : WellFormed size pages firsts indexes) (has : Contains firsts first) → 0 < times placed.page (own size pages firsts indexes first well has)))
    → Out size pages firsts indexes first table placed last rest → has_room rest (record { number = placed.number; row = row }) ≡ false
    → appended size (with_bytes pages placed.page (page_bytes rest)) first (record { number = placed.number; row = row }) (Ok y) → Moves size pages y.1 first last placed.page (placed.number, row) table.rows y.0
moves-on size pages firsts indexes first table placed row y last tail rest well has shows is ends has_own out full h =
    let entry : Entry = record { number = placed.number; row = row } in
    let taken : Pages = with_bytes pages placed.page (page_bytes rest) in
    let put = put-answer size taken firsts indexes first entry (Ok y) out.finished.well has is h in
    let ended = put-ends size taken firsts indexes first entry y out.finished.well has is h in
    let tails : ended.tail ≡ out.tail = ends-one size taken first ended.last last ended.tail out.tail ended.ends out.ends in
    let lasts : ended.last ≡ last = last-one size taken first ended.last last ended.tail out.tail ended.ends out.ends in
    let puts : put.tail ≡ out.tail = ends-one size taken first put.last last put.tail out.tail put.ends out.ends in
    let goals : put.last ≡ last = last-one size taken first put.last last put.tail out.tail put.ends out.ends in
    let effect : IsPut (has_room out.tail entry) size taken y.1 first last y.0 = subst (λ (l : ℕ). IsPut (has_room out.tail entry) size taken y.1 first l y.0) goals (subst (λ (t : HeapPage). IsPut (has_room t entry) size taken y.1 first put.last y.0) puts put.effect) in
    choose (has_room out.tail entry) ended.to ended.ended.tail ended.ended.ends (room-is last out.tail placed.number row (without_row table placed.number).rows out.weighs_last)
    (λ room. ended.stays (subst (λ (t : HeapPage). has_room t entry ≡ true) (sym tails) room) ∙ lasts) (λ room. ended.moves (subst (λ (t : HeapPage). has_room t entry ≡ false) (sym tails) room)) effect
  where
    root : (with_bytes pages placed.page (page_bytes rest)).at 0 ≡ pages.at 0
    root = written-other pages placed.page 0 (page_bytes rest) (λ e. absurd (omega (arith, e, out.there.named)))

    none : has_room_for (placed.number, row) placed.page table.rows ≡ false
    none = sym (room-is placed.page rest placed.number row (without_row table placed.number).rows out.weighs) ∙ full

    step : RootStep size (with_bytes pages placed.page (page_bytes rest)) y.1
    step = append-step size (with_bytes pages placed.page (page_bytes rest)) firsts indexes first (record { number = placed.number; row = row }) y out.finished.well h

    out-edits : EditsExactly pages (with_bytes pages placed.page (page_bytes rest)) (placed.page ∷ [])
    out-edits = edits-write pages pages [] placed.page (page_bytes rest) (edits-none pages)

    out-draws : Draws pages (with_bytes pages placed.page (page_bytes rest)) 0
    out-draws = step-none size pages (with_bytes pages placed.page (page_bytes rest)) firsts indexes first well has (placed.page ∷ []) out-edits (has_own.1 well has, tt) (inl root) (free-same size pages (with_bytes pages placed.page (page_bytes rest)) root)

    first_own : 0 < times first (own size (with_bytes pages placed.page (page_bytes rest)) firsts indexes first out.finished.well has)
    first_own = own-first size (with_bytes pages placed.page (page_bytes rest)) firsts indexes first out.finished.well has

    last_own : 0 < times last (own size (with_bytes pages placed.page (page_bytes rest)) firsts indexes first out.finished.well has)
    last_own = own-last size (with_bytes pages placed.page (page_bytes rest)) firsts indexes first last out.tail out.finished.well has out.ends

    choose : (b : Bool) (to : ℕ) (next : HeapPage) → EndsAt size y.1 first to next → b ≡ has_room_for (placed.number, row) last table.rows → (b ≡ true → to ≡ last) → (b ≡ false → to ≡ y.0)
        → IsPut b size (with_bytes pages placed.page (page_bytes rest)) y.1 first last y.0 → Moves size pages y.1 first last placed.page (placed.number, row) table.rows y.0
    choose true to next ended room stays moves_ effect = record {
      end = last;
      opens = 0;
      next = next;
      ends = subst (λ (p : ℕ). EndsAt size y.1 first p next) (stays refl) ended;
      goes = subst (λ (b : Bool). Goes b (has_room_for (placed.number, row) last table.rows) placed.page last (taken_after pages 0) y.0 last 0) (sym none) (subst (λ (b : Bool). Goes false b placed.page last (taken_after pages 0) y.0 last 0) room (effect.0, refl, refl));
      takes = omega (arith, effect.1, free-same size pages (with_bytes pages placed.page (page_bytes rest)) root);
      draws = draws-then pages (with_bytes pages placed.page (page_bytes rest)) y.1 0 0 out-draws (step-none size (with_bytes pages placed.page (page_bytes rest)) y.1 firsts indexes first out.finished.well has (last ∷ []) effect.2 (last_own, tt) step effect.1);
      touches = λ q off. untouched-then pages (with_bytes pages placed.page (page_bytes rest)) y.1 q (untouched pages (with_bytes pages placed.page (page_bytes rest)) (placed.page ∷ []) q out-edits (off.0, tt)) (untouched (with_bytes pages placed.page (page_bytes rest)) y.1 (last ∷ []) q effect.2 (off.1.1.0, tt));
    }
    choose false to next ended room stays moves_ effect =
        let fresh : y.0 ≡ taken_after pages 0 = effect.0.next ∙ next-same pages (with_bytes pages placed.page (page_bytes rest)) root ∙ next-first pages in
        record {
          end = y.0;
          opens = 1;
          next = next;
          ends = subst (λ (p : ℕ). EndsAt size y.1 first p next) (moves_ refl) ended;
          goes = subst (λ (b : Bool). Goes b (has_room_for (placed.number, row) last table.rows) placed.page last (taken_after pages 0) y.0 y.0 1) (sym none) (subst (λ (b : Bool). Goes false b placed.page last (taken_after pages 0) y.0 y.0 1) room (fresh, fresh, refl));
          takes = omega (arith, effect.0.one_less, free-same size pages (with_bytes pages placed.page (page_bytes rest)) root);
          draws = draws-then pages (with_bytes pages placed.page (page_bytes rest)) y.1 0 1 out-draws (step-one size (with_bytes pages placed.page (page_bytes rest)) y.1 firsts indexes first out.finished.well has (first ∷ last ∷ y.0 ∷ 0 ∷ []) effect.1 (inr (inl first_own), (inr (inl last_own), (inr (inr effect.0.next), (inl refl, tt)))) step effect.0.one_less);
          touches = λ q off. untouched-then pages (with_bytes pages placed.page (page_bytes rest)) y.1 q (untouched pages (with_bytes pages placed.page (page_bytes rest)) (placed.page ∷ []) q out-edits (off.0, tt))
              (untouched (with_bytes pages placed.page (page_bytes rest)) y.1 (first ∷ last ∷ y.0 ∷ 0 ∷ []) q effect.1 (off.1.0, (off.1.1.0, ((λ e. off.1.1.1.1.0 (e ∙ fresh)), (off.1.1.1.0, tt)))));
        }

-- a changed row, wherever it goes
moves-met : (size : ℕ) (pages : Pages) (firsts indexes : List ℕ) (first : ℕ) (table : Table) (placed : Placed) (row : List Value) (y : ℕ × Pages) (last : ℕ) (tail : HeapPage) → WellFormed size pages firsts indexes → Contains firsts first → IsTable size pages first table → IsEntry (record { number = placed.number; row = row })
    → changed_met size pages first placed.page (record { number = placed.number; row = row }) (Ok y) → WellFormed size y.1 firsts indexes → EndsAt size pages first last tail → Moves size pages y.1 first last placed.page (placed.number, row) table.rows y.0
moves-met size pages firsts indexes first table placed row y last tail well has shows is (found, at, (place, here, work)) well_after ends =
    go (has_room (without found.1 place) (record { number = placed.number; row = row })) refl (out-of size pages firsts indexes first table placed found place last tail well has shows at here ends) work
  where
    go : (b : Bool) → has_room (without found.1 place) (record { number = placed.number; row = row }) ≡ b → Out size pages firsts indexes first table placed last (without found.1 place)
        → either b (only (Ok (placed.page, with_bytes pages placed.page (page_bytes (record (without found.1 place) { entries = insert (without found.1 place).entries place (record { number = placed.number; row = row }) })))))
        (appended size (with_bytes pages placed.page (page_bytes (without found.1 place))) first (record { number = placed.number; row = row })) (Ok y) → Moves size pages y.1 first last placed.page (placed.number, row) table.rows y.0
    go true e out h =
        let now : HeapPage = record (without found.1 place) { entries = insert (without found.1 place).entries place (record { number = placed.number; row = row }) } in
        let sized = kept-sized size pages firsts indexes first placed row found place well has is at here e in
        let page_at = found-at size pages firsts indexes first placed found place well has at here in
        let still : WellFormed size (with_bytes pages placed.page (page_bytes now)) firsts indexes = subst (λ (z : ℕ × Pages). WellFormed size z.1 firsts indexes) (sym (ok-one h)) well_after in
        let end = ends-after size pages firsts indexes first last placed.page tail found.1 now page_at sized refl refl still has ends in
        let root : (with_bytes pages placed.page (page_bytes now)).at 0 ≡ pages.at 0 = written-other pages placed.page 0 (page_bytes now) (λ e. absurd (omega (arith, e, out.there.named))) in
        let same = free-same size pages (with_bytes pages placed.page (page_bytes now)) root in
        let edits = edits-write pages pages [] placed.page (page_bytes now) (edits-none pages) in
        let room : has_room_for (placed.number, row) placed.page table.rows ≡ true = sym (room-is placed.page (without found.1 place) placed.number row (without_row table placed.number).rows out.weighs) ∙ e in
        subst (λ (z : ℕ × Pages). Moves size pages z.1 first last placed.page (placed.number, row) table.rows z.0) (ok-one h) (record {
          end = last;
          opens = 0;
          next = end.0;
          ends = end.1;
          goes = subst (λ (b : Bool). Goes b (has_room_for (placed.number, row) last table.rows) placed.page last (taken_after pages 0) placed.page last 0) (sym room) (refl, refl, refl);
          takes = omega (arith, same);
          draws = step-none size pages (with_bytes pages placed.page (page_bytes now)) firsts indexes first well has (placed.page ∷ []) edits (own-met size pages firsts indexes first placed.page found.0 found.1 well has at, tt) (inl root) same;
          touches = λ q off. untouched pages (with_bytes pages placed.page (page_bytes now)) (placed.page ∷ []) q edits (off.0, tt);
        })
    go false e out h = moves-on size pages firsts indexes first table placed row y last tail (without found.1 place) well has shows is ends (has, λ w c. own-met size pages firsts indexes first placed.page found.0 found.1 w c at) out e h

-- the same where its page is known
pub moves : (size : ℕ) (pages : Pages) (firsts indexes : List ℕ) (first : ℕ) (table : Table) (placed : Placed) (row : List Value) (y : ℕ × Pages) (last : ℕ) (tail : HeapPage) → WellFormed size pages firsts indexes → Contains firsts first → IsTable size pages first table → Contains table.rows placed → IsEntry (record { number = placed.number; row = row })
    → changed size pages first placed.page (record { number = placed.number; row = row }) (Ok y) → WellFormed size y.1 firsts indexes → EndsAt size pages first last tail → Moves size pages y.1 first last placed.page (placed.number, row) table.rows y.0
moves size pages firsts indexes first table placed row y last tail well has shows among_rows is change well_after ends =
    moves-met size pages firsts indexes first table placed row y last tail well has shows is (changed-met size pages first placed.page (record { number = placed.number; row = row }) (meets size pages first read.one.chain.links placed read.route read.few stands) (Ok y) change) well_after ends
  where
    read : Reads size pages firsts indexes first well
    read = reads size pages firsts indexes first well has

    stands : Standing read.one.chain.links placed
    stands =
        let rows = rows-read size pages first table read.one.chain.links read.one.lawful.head shows read.route.leads read.head_at in
        standing read.one.chain.links placed (Contains-permutation table.rows (rows_of read.one.chain.links) placed (IsPermutation-sym (rows_of read.one.chain.links) table.rows rows.permutation) among_rows)

-- a change that is refused has room nowhere
pub full-both : (size : ℕ) (pages : Pages) (firsts indexes : List ℕ) (first : ℕ) (table : Table) (placed : Placed) (row : List Value) (last : ℕ) (tail : HeapPage) → WellFormed size pages firsts indexes → Contains firsts first → IsTable size pages first table → EndsAt size pages first last tail
    → ChangeIsFull size pages first placed.page (record { number = placed.number; row = row }) → (has_room_for (placed.number, row) placed.page table.rows ≡ false) × (has_room_for (placed.number, row) last table.rows ≡ false)
full-both size pages firsts indexes first table placed row last tail well has shows ends full =
    let stands = full.stands in
    let out = out-of size pages firsts indexes first table placed (stands.previous, stands.held) stands.place last tail well has shows stands.stood stands.here ends in
    let rest : HeapPage = without stands.held stands.place in
    let ended : EndsAt size (with_bytes pages placed.page (page_bytes rest)) first full.last full.tail = subst (λ (h : HeapPage). EndsAt size (with_bytes pages placed.page (page_bytes h)) first full.last full.tail) stands.rest_is stands.ends in
    let tails : full.tail ≡ out.tail = ends-one size (with_bytes pages placed.page (page_bytes rest)) first full.last last full.tail out.tail ended out.ends in (
      sym (room-is placed.page rest placed.number row (without_row table placed.number).rows out.weighs) ∙ subst (λ (h : HeapPage). has_room h (record { number = placed.number; row = row }) ≡ false) stands.rest_is full.room_here,
      sym (room-is last out.tail placed.number row (without_row table placed.number).rows out.weighs_last) ∙ subst (λ (h : HeapPage). has_room h (record { number = placed.number; row = row }) ≡ false) tails full.room_last,
    )
