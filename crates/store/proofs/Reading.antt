-- What a reader of the past is given is right.
use Rattle.std.proofs.Common.{◌≡◌, ◌∙◌, ◌+◌, ◌-◌, ◌≤◌, ◌<◌, ◌⊎◌, ◌++◌, ◌||◌, ℕ, Bool, true, false, cond, eqb, max, List, [], ◌∷◌, length, map, take, drop, Option, position, refl, sym, ap, subst, inl, inr, ⊎_elim, arith, append_assoc, append-nil, eq-eqb}
use Rattle.std.specs.Prelude.{◌==◌, filter}
use Rattle.std.specs.Option.{option_map}
use Rattle.std.specs.List.{AllByRecursion}
use Rattle.std.proofs.lemmas.Bool.{cases_lt, eqb-true}
use Rattle.std.proofs.lemmas.List.{drop-append-le, drop-drop, take-append-le, take-append-drop, length-append, length-drop, length-map, map-append}
use Rattle.retro_base.specs.declared.who.Who.{Who}
use Rattle.history.specs.declared.entry.Base.{Base}
use Rattle.history.specs.declared.journal.Line.{Line}
use Rattle.history.specs.declared.writes.PageImage.{PageImage}
use Rattle.history.specs.History.{History, bytes_at, captures, now, pages_as_of}
use Rattle.history.specs.Journal.{after_journal}
use Rattle.history.specs.Laws.{IsConsistent}
use Rattle.history.specs.Lines.{base_of, lines_of, pinned_by}
use Rattle.history.specs.Marks.{is_retained, newest, start_of}
use Rattle.history.specs.Sound.{IsSound, Pin, pins_of, same_item}
use Rattle.history.specs.Writes.{is_among, pages_of}
use Rattle.history.proofs.Items.{others_pins_stay}
use Rattle.history.proofs.Journals.{front_is_sound, journal_captures_grow, pinned_are_retained}
use Rattle.history.proofs.Lines.{base_after_journal}
use Rattle.history.proofs.MarkLaws.{retained-newest}
use Rattle.history.proofs.SoundLaws.{base_stays_right}
use Rattle.page_table.specs.Table.{IsFirstMet, Table}
use Rattle.race_model.specs.Apart.{ToldBelow}
use Rattle.race_model.specs.Fits.{HistoryFits, VaultFits}
use Rattle.race_model.specs.Reading.{PeekTold}
use Rattle.race_model.specs.Vault.{Maplog, Vault, listing}
use Rattle.race_model.proofs.Apart.{all_outlive_lines}
use Rattle.race_model.proofs.Readings.{oldest-start}
use Rattle.skippy.specs.Mappings.{Mappings, pages_in}
use Rattle.archive.specs.Side.{IsLowestOf, Shows}
use Rattle.archive.proofs.Tables.{table_is_shown, table_stays}
use Rattle.store.specs.Past.{IsTableIn, all_mapped}

-- ---- what an open look pins

all_retained : (who : Who) (pins : List Pin) (P : ℕ → Type 0) → AllByRecursion (λ (pin : Pin). P pin.snapshot) pins → (snapshot : ℕ) → is_among snapshot (pinned_by who pins) ≡ true → P snapshot
all_retained who [] P all snapshot e = absurd cc
all_retained who (pin ∷ pins) P all snapshot e = at (same_item pin.who who) e (all_retained who pins P all.1 snapshot) where
  first : (test : Bool) → eqb pin.snapshot snapshot ≡ test → test || is_among snapshot (pinned_by who pins) ≡ true → (is_among snapshot (pinned_by who pins) ≡ true → P snapshot) → P snapshot
  first true f h later = subst P (eqb-true pin.snapshot snapshot f) all.0
  first false f h later = later h

  at : (test : Bool) → is_among snapshot (map (λ (p : Pin). p.snapshot) (cond test (pin ∷ filter (λ (p : Pin). same_item p.who who) pins) (filter (λ (p : Pin). same_item p.who who) pins))) ≡ true
      → (is_among snapshot (pinned_by who pins) ≡ true → P snapshot) → P snapshot
  at true h later = first (eqb pin.snapshot snapshot) refl h later
  at false h later = later h

pub pinned_retained : (base : Base) (lines : List Line) (who : Who) (snapshot : ℕ) → IsSound base lines → is_among snapshot (pinned_by who (pins_of base [] lines)) ≡ true → is_retained snapshot (base_of base lines).marks ≡ true
pinned_retained base lines who snapshot sound e = all_retained who (pins_of base [] lines) (λ n. is_retained n (base_of base lines).marks ≡ true) (pinned_are_retained base lines sound) snapshot e

-- lines of other sessions leave what an item pins
pub pins_stay : (base : Base) (who : Who) (lines rest : List Line) → lines_of who.session rest ≡ [] → pinned_by who (pins_of base [] (lines ++ rest)) ≡ pinned_by who (pins_of base [] lines)
pins_stay base who lines [] none = ap (λ (l : List Line). pinned_by who (pins_of base [] l)) (append-nil lines)
pins_stay base who lines (line ∷ rest) none = at (pins_stay base who (lines ++ line ∷ []) rest) (eqb line.who.session who.session) refl where
  at : (lines_of who.session rest ≡ [] → pinned_by who (pins_of base [] ((lines ++ line ∷ []) ++ rest)) ≡ pinned_by who (pins_of base [] (lines ++ line ∷ []))) → (test : Bool) → eqb line.who.session who.session ≡ test
      → pinned_by who (pins_of base [] (lines ++ line ∷ rest)) ≡ pinned_by who (pins_of base [] lines)
  at goes true e = absurd (cc (none, ap (λ (b : Bool). cond b (line ∷ lines_of who.session rest) (lines_of who.session rest)) e))
  at goes false e =
      let other : who ≡ line.who → ⊥ = λ is. absurd (cc (e, eq-eqb line.who.session who.session (ap (λ (w : Who). w.session) (sym is)))) in
      ap (λ (l : List Line). pinned_by who (pins_of base [] l)) (sym (append_assoc lines (line ∷ []) rest))
      ∙ (goes (sym (ap (λ (b : Bool). cond b (line ∷ lines_of who.session rest) (lines_of who.session rest)) e) ∙ none)
      ∙ others_pins_stay base lines line who other)

-- ---- the start of a snapshot

-- the first capture of page 0 among so many from a number on
abbrev met_among : ℕ → List ℕ → ℕ → Option ℕ
met_among start pages count = option_map (λ place. start + place) (position (λ other. other == 0) (take count (drop start pages)))

module _ (history : History) (consistent : IsConsistent history) where
  abbrev First : Base
  First = (now history).base

  -- while a snapshot is retained its start stays
  pub start_stays : (lines more : List Line) (n : ℕ) → IsSound First (lines ++ more) → is_retained n (base_of First lines).marks ≡ true → is_retained n (base_of First (lines ++ more)).marks ≡ true
      → start_of n (base_of First (lines ++ more)).marks ≡ start_of n (base_of First lines).marks
  start_stays lines more n sound was is =
      let here = base_after_journal history lines in
      let there = base_after_journal history (lines ++ more) in
      let right = base_stays_right First lines (front_is_sound First lines more sound) in
      let start : ℕ = start_of n (base_of First lines).marks in
      let told : PeekTold = record { snapshot = n; page = 0; start = start; upto = 0; bytes = pages_as_of (after_journal history lines) n 0 } in
      let pages : List ℕ = pages_of (captures (after_journal history lines)) in
      let none : 0 - start ≡ 0 = omega arith in
      let below : ToldBelow 0 told (after_journal history lines) = record {
        there = omega arith;
        fits = record {
          known = subst (λ (b : Base). n ≤ newest b.marks) (sym here) (retained-newest (base_of First lines).captures 0 0 n (base_of First lines).marks right.marks was);
          upto = omega arith;
          start = λ r. ap (λ (b : Base). start_of n b.marks) (sym here);
          reads = λ r. sym (ap (λ k. bytes_at (captures (after_journal history lines)) told.bytes (met_among start pages k)) none);
        };
      } in
      let later = all_outlive_lines.told 0 told history lines more consistent sound below in
      sym (later.fits.start (ap (λ (b : Base). is_retained n b.marks) there ∙ is) ∙ ap (λ (b : Base). start_of n b.marks) there)

-- ---- tables

-- pages mapped in a range are the same in a longer list
same_front : (xs ys : List ℕ) (from to bound : ℕ) → bound ≤ length xs → to ≤ max from bound → take (to - from) (drop from (xs ++ ys)) ≡ take (to - from) (drop from xs)
same_front xs ys from to bound few within = by (cases_lt from to) where
  by : (from < to) ⊎ (to ≤ from) → take (to - from) (drop from (xs ++ ys)) ≡ take (to - from) (drop from xs)
  by (inl some) =
      let inside : from ≤ length xs = omega (arith, few, within, some) in
      let room = length-drop from xs in
      ap (take (to - from)) (drop-append-le from xs ys inside) ∙ take-append-le (to - from) (drop from xs) ys (omega (arith, room, few, within, some))
  by (inr none) = let count : to - from ≡ 0 = omega arith in ap (λ n. take n (drop from (xs ++ ys))) count ∙ sym (ap (λ n. take n (drop from xs)) count)

-- and the same as in the list in which they are the first
same_part : (xs ys : List ℕ) (from count : ℕ) → (count ≡ 0) ⊎ (from + count ≤ length xs) → take count (drop from (xs ++ ys)) ≡ take count (drop from xs)
same_part xs ys from count (inl none) = ap (λ n. take n (drop from (xs ++ ys))) none ∙ sym (ap (λ n. take n (drop from xs)) none)
same_part xs ys from count (inr few) = let room = length-drop from xs in ap (take count) (drop-append-le from xs ys (omega (arith, few))) ∙ take-append-le count (drop from xs) ys (omega (arith, room, few))

-- a table stays one where the journal goes on
pub table_goes_on : (history : History) (lines more : List Line) (table : Table) → IsConsistent history → IsSound (now history).base (lines ++ more) → IsTableIn (after_journal history lines) table → IsTableIn (after_journal history (lines ++ more)) table
table_goes_on history lines more table consistent sound is =
    let old : List PageImage = captures (after_journal history lines) in
    let new : List PageImage = captures (after_journal history (lines ++ more)) in
    let front : take (length old) new ≡ old = journal_captures_grow history lines more consistent sound in
    let whole : new ≡ old ++ drop (length old) new = sym (ap (λ (l : List PageImage). l ++ drop (length old) new) (sym front) ∙ take-append-drop (length old) new) in
    let rest : List PageImage = drop (length old) new in
    let pages : pages_of new ≡ pages_of old ++ pages_of rest = ap pages_of whole ∙ map-append (λ (i : PageImage). i.page) old rest in
    let count : length (pages_of old) ≡ length old = length-map old (λ (i : PageImage). i.page) in
    let none : table.start - 0 ≡ table.start = omega arith in
    let longer : length old ≤ length new = let e = ap length whole in let f = length-append old rest in omega (arith, e, f) in
    record {
      met = table_stays table (all_mapped (after_journal history lines)) (all_mapped (after_journal history (lines ++ more))) is.met (omega arith)
          (ap (λ (l : List ℕ). take (table.covered - table.start) (drop (table.start - 0) l)) pages
          ∙ (ap (λ k. take (table.covered - table.start) (drop k (pages_of old ++ pages_of rest))) none
          ∙ (same_front (pages_of old) (pages_of rest) table.start table.covered (length old) (let c = count in omega (arith, c)) is.within ∙ ap (λ k. take (table.covered - table.start) (drop k (pages_of old))) (sym none))));
      within = let w = is.within in omega (arith, w, longer);
    }

module _ (history : History) (floor : ℕ) (vault : Vault) (fits : VaultFits history floor vault) (right : HistoryFits history floor) (levels : Mappings) (held : ℕ) (shows : Shows levels held vault.mappings) (lowest : IsLowestOf levels.low vault) (n : ℕ)
    (retained : is_retained n (now history).base.marks ≡ true) where
  -- memory has all mappings from the snapshot's start on
  pub above_low : levels.low ≤ start_of n (now history).base.marks
  above_low =
      let old = oldest-start (now history).base.captures 0 0 n (now history).base.marks right.consistent.marks retained in
      ⊎_elim (λ (e : lowest.maplog ≡ listing vault vault.mappings). let same = lowest.same in let low = ap (λ (m : Maplog). m.mappings.low) e in let needed = fits.mappings.needed in omega (arith, old, same, low, needed))
      (λ other. let same = lowest.same in let needed = (fits.others lowest.maplog other).0.needed in omega (arith, old, same, needed)) lowest.is

  module _ (table : Table) (start : table.start ≡ start_of n (now history).base.marks) where
    from_low : levels.low ≤ table.start
    from_low = let a = above_low in omega (arith, a, start)

    mapped : table.covered ≤ max table.start held → pages_in vault.mappings table.start table.covered ≡ pages_in (all_mapped history) table.start table.covered
    mapped known =
        let low : vault.mappings.low ≤ table.start = let a = shows.above in let b = from_low in omega (arith, a, b) in
        let place : table.start - 0 ≡ vault.mappings.low + (table.start - vault.mappings.low) = omega (arith, low) in
        let all : List ℕ = pages_of (captures history) in
        let part : (table.covered - table.start ≡ 0) ⊎ ((table.start - vault.mappings.low) + (table.covered - table.start) ≤ length vault.mappings.pages) =
        (let e = shows.end in let k = shows.low in ⊎_elim (λ less. inr (omega (arith, known, e, k, low, less))) (λ more. inl (omega (arith, more))) (cases_lt table.start table.covered)) in
        sym (ap (take (table.covered - table.start))
        (ap (λ k. drop k all) place ∙ (sym (drop-drop (table.start - vault.mappings.low) vault.mappings.low all) ∙ ap (drop (table.start - vault.mappings.low)) fits.mappings.same))
        ∙ same_part vault.mappings.pages fits.mappings.later (table.start - vault.mappings.low) (table.covered - table.start) part)

    -- a table of the history's captures is one of the mappings in memory, and so the other way round
    pub table_in_memory : table.covered ≤ max table.start held → IsFirstMet table (all_mapped history) → IsFirstMet table levels
    table_in_memory known met =
        (table_is_shown table levels held vault.mappings shows from_low known).0
        (table_stays table (all_mapped history) vault.mappings met (let a = shows.above in let b = from_low in omega (arith, a, b)) (mapped known))

    pub table_of_history : table.covered ≤ max table.start held → IsFirstMet table levels → IsFirstMet table (all_mapped history)
    table_of_history known met =
        table_stays table vault.mappings (all_mapped history) ((table_is_shown table levels held vault.mappings shows from_low known).1 met) (omega arith) (sym (mapped known))
