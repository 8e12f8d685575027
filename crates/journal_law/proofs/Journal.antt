-- The law of the journal.
use Rattle.std.proofs.Common.{◌≡◌, ◌≢◌, ◌++◌, ◌==◌, ◌&&◌, ℕ, Bool, true, false, cond, List, [], ◌∷◌, Option, Some, None, map, filter, refl, ap, sym, subst, ◌∙◌, append_assoc, append-nil, arith}
use Rattle.std.proofs.lemmas.Bool.Decides.{nat_tests}
use Rattle.std.proofs.lemmas.List.{map-append}
use Rattle.std.proofs.lemmas.List.Elements.{filter-append}
use Rattle.retro_base.specs.declared.device.Device.{Device}
use Rattle.retro_base.specs.declared.who.Who.{Who}
use Rattle.history.specs.declared.journal.Line.{Line}
use Rattle.history.specs.declared.journal.What.{What}
use Rattle.history.specs.Lines.{lines_of}
use Rattle.history.specs.Sound.{same_item}
use Rattle.journal_law.specs.Facts.{AllFit, AreOthers, Fits, HasSeen, OwnFit}
use Rattle.journal_law.specs.Fates.{Fate, IsReply, fate, fate_behind, fate_with, reply}
use Rattle.journal_law.specs.Language.{Language}
use Rattle.journal_law.specs.Laws.{IsClosed, LawOfTheJournal}
use Rattle.journal_law.specs.Lawful.{AtEach, HasRuns, IsCut, IsRun, ItemsRise, KeepsRules, Lawful, Opening}
use Rattle.journal_law.specs.Own.{own}
use Rattle.journal_law.specs.Pages.{Pages, page_step, page_world}
use Rattle.journal_law.specs.Shows.{Shows, ShowsAlong, step, world}
use Rattle.journal_law.specs.World.{World}

pub page_append : (opening : World Pages) (xs ys : List Line) → page_world opening (xs ++ ys) ≡ page_world (page_world opening xs) ys
page_append opening [] ys = refl
page_append opening (line ∷ xs) ys = page_append (page_step opening line) xs ys

pub split_front : (front rest before after : List Line) (line : Line) → front ++ rest ≡ before ++ line ∷ after → AreOthers line.who.session rest → (more : List Line) × (front ≡ before ++ line ∷ more)
split_front [] rest before after line e others = absurd (not_inside rest before after line e others)
  where
    not_inside : (rest before after : List Line) (line : Line) → rest ≡ before ++ line ∷ after → AreOthers line.who.session rest → ⊥
    not_inside [] [] after line e others = cc
    not_inside [] (b ∷ before) after line e others = cc
    not_inside (x ∷ rest) [] after line e others =
        let same : x ≡ line = cc in
        others.0 (ap (λ (l : Line). l.who.session) same)
    not_inside (x ∷ rest) (b ∷ before) after line e others =
        let same : rest ≡ before ++ line ∷ after = cc in
        not_inside rest before after line same others.1
split_front (f ∷ front) rest [] after line e others =
    let same : f ≡ line = cc in
    (front, ap (λ (l : Line). l ∷ front) same)
split_front (f ∷ front) rest (b ∷ before) after line e others =
    let same : f ≡ b = cc in
    let tail : front ++ rest ≡ before ++ line ∷ after = cc in
    let found = split_front front rest before after line tail others in
    (found.0, ap (λ (l : Line). l ∷ front) same ∙ ap (λ (ls : List Line). b ∷ ls) found.1)

-- items of two sessions are two
pub apart : (a b : Who) → a.session ≢ b.session → same_item a b ≡ false
apart a b other = by_test (a.phase == b.phase) (a.session == b.session) refl
  where
    by_test : (phase same : Bool) → (a.session == b.session) ≡ same → (phase && same && (a.item == b.item)) ≡ false
    by_test phase true e = absurd (other (grind (arith, nat_tests)))
    by_test true false e = refl
    by_test false false e = refl

pub own_append : (who : Who) (xs ys : List Line) → own who (xs ++ ys) ≡ own who xs ++ own who ys
own_append who xs ys =
    ap (map (λ (line : Line). line.what)) (filter-append (λ (line : Line). same_item line.who who) xs ys)
    ∙ map-append (λ (line : Line). line.what) (filter (λ (line : Line). same_item line.who who) xs) (filter (λ (line : Line). same_item line.who who) ys)

-- lines of other sessions are none of an item's
pub own_others : (who : Who) (lines : List Line) → AreOthers who.session lines → own who lines ≡ []
own_others who [] others = refl
own_others who (line ∷ lines) others = rw (apart line.who who others.0) (own_others who lines others.1)

pub own_lines : (journal front : List Line) (who : Who) → HasSeen who.session front journal → own who journal ≡ own who front
own_lines journal front who seen =
    ap (own who) seen.whole ∙ own_append who front seen.rest ∙ ap (λ (whats : List What). own who front ++ whats) (own_others who seen.rest seen.others) ∙ append-nil (own who front)

other_number : (a b : ℕ) → a ≢ b → (a == b) ≡ false
other_number a b other = by_test (a == b) refl
  where
    by_test : (same : Bool) → (a == b) ≡ same → same ≡ false
    by_test true e = absurd (other (grind (arith, nat_tests)))
    by_test false e = refl

lines_of_others : (session : ℕ) (lines : List Line) → AreOthers session lines → lines_of session lines ≡ []
lines_of_others session [] others = refl
lines_of_others session (line ∷ lines) others = rw (other_number line.who.session session others.0) (lines_of_others session lines others.1)

pub lines_of_seen : (session : ℕ) (journal front : List Line) → HasSeen session front journal → lines_of session journal ≡ lines_of session front
lines_of_seen session journal front seen =
    ap (lines_of session) seen.whole ∙ filter-append (λ (line : Line). line.who.session == session) front seen.rest
    ∙ ap (λ (lines : List Line). lines_of session front ++ lines) (lines_of_others session seen.rest seen.others) ∙ append-nil (lines_of session front)

module _ (L : Language) (items : Who → Option L.Item) where
  pub world_append : (opening : World L.Tables) (xs ys : List Line) → world L items opening (xs ++ ys) ≡ world L items (world L items opening xs) ys
  world_append opening [] ys = refl
  world_append opening (line ∷ xs) ys = world_append (step L items opening line) xs ys

  pub along_here : (pages : World Pages) (tables : World L.Tables) (lines : List Line) → ShowsAlong L items pages tables lines → Shows L pages tables
  along_here pages tables [] shows = shows
  along_here pages tables (line ∷ lines) shows = shows.0

  -- at the end
  pub along_end : (pages : World Pages) (tables : World L.Tables) (lines : List Line) → ShowsAlong L items pages tables lines → Shows L (page_world pages lines) (world L items tables lines)
  along_end pages tables [] shows = shows
  along_end pages tables (line ∷ lines) shows = along_end (page_step pages line) (step L items tables line) lines shows.1

  -- along a beginning
  pub along_front : (pages : World Pages) (tables : World L.Tables) (xs ys : List Line) → ShowsAlong L items pages tables (xs ++ ys) → ShowsAlong L items pages tables xs
  along_front pages tables [] ys shows = along_here pages tables ys shows
  along_front pages tables (line ∷ xs) ys shows = (shows.0, along_front (page_step pages line) (step L items tables line) xs ys shows.1)

  -- and behind one line more
  pub along_more : (pages : World Pages) (tables : World L.Tables) (lines : List Line) (line : Line) → ShowsAlong L items pages tables lines
      → Shows L (page_world pages (lines ++ line ∷ [])) (world L items tables (lines ++ line ∷ [])) → ShowsAlong L items pages tables (lines ++ line ∷ [])
  along_more pages tables [] line shows more = (shows, more)
  along_more pages tables (l ∷ lines) line shows more = (shows.0, along_more (page_step pages l) (step L items tables l) lines line shows.1 more)

  along_rest : (o : Opening L) (tables : World L.Tables) (before rest : List Line) → ShowsAlong L items o.opened.pages tables before
      → ((front after : List Line) (line : Line) → before ++ rest ≡ front ++ line ∷ after → Fits L items o.opened front line) → ShowsAlong L items o.opened.pages tables (before ++ rest)
  along_rest o tables before [] shows fits = rw append-nil shows
  along_rest o tables before (line ∷ rest) shows fits =
      let here = fits before rest line refl in
      let next = along_more o.opened.pages tables before line shows (here tables shows).0 in
      let whole : (before ++ line ∷ []) ++ rest ≡ before ++ line ∷ rest = append_assoc before (line ∷ []) rest in
      subst (ShowsAlong L items o.opened.pages tables) whole (along_rest o tables (before ++ line ∷ []) rest next (λ front after l e. fits front after l (sym whole ∙ e)))

  -- a line of its own fits what stands before it
  fit_at : (o : Opening L) (session : ℕ) (done before more : List Line) (line : Line) → OwnFit L items o.opened session done (before ++ line ∷ more) → line.who.session ≡ session → Fits L items o.opened (done ++ before) line
  fit_at o session done [] more line fits mine = subst (λ (ls : List Line). Fits L items o.opened ls line) (sym (append-nil done)) (fits.0 mine)
  fit_at o session done (l ∷ before) more line fits mine =
      subst (λ (ls : List Line). Fits L items o.opened ls line) (append_assoc done (l ∷ []) before) (fit_at o session (done ++ l ∷ []) before more line fits.1 mine)

  -- each line fits, by what its session knew
  pub each_fits : (o : Opening L) (journal : List Line) → AllFit L items o.opened journal → (before after : List Line) (line : Line) → journal ≡ before ++ line ∷ after → Fits L items o.opened before line
  each_fits o journal all before after line e =
      let one = all line.who.session in
      let found = split_front one.front one.seen.rest before after line (sym one.seen.whole ∙ e) one.seen.others in
      fit_at o line.who.session [] before found.0 line (subst (OwnFit L items o.opened line.who.session []) found.1 one.fits) refl

  pub shows : (o : Opening L) (journal : List Line) → Shows L o.opened.pages o.tables → AllFit L items o.opened journal → ShowsAlong L items o.opened.pages o.tables journal
  shows o journal opening all = along_rest o o.tables [] journal opening (each_fits o journal all)

  pub rules : (o : Opening L) (journal : List Line) → Shows L o.opened.pages o.tables → AllFit L items o.opened journal → AtEach L items (KeepsRules L items o) journal
  rules o journal opening all before after line e =
      let along = along_front o.opened.pages o.tables before (line ∷ after) (subst (ShowsAlong L items o.opened.pages o.tables) e (shows o journal opening all)) in
      (each_fits o journal all before after line e o.tables along).1

  -- ---- shape

  runs_of : (session : ℕ) (journal front : List Line) → HasSeen session front journal → HasRuns L items session front → HasRuns L items session journal
  runs_of session journal front seen has = record {
    order = subst ItemsRise (sym (lines_of_seen session journal front seen)) has.order;
    runs = λ who item mine is. subst (IsRun (L.kind item)) (sym (same who mine)) (has.runs who item mine is);
    cut = λ who later item mine is short phase mine2 behind. same later mine2 ∙ has.cut who later item mine is (subst (IsCut (L.kind item)) (same who mine) short) phase mine2 behind;
  }
    where
      same : (who : Who) → who.session ≡ session → own who journal ≡ own who front
      same who mine = own_lines journal front who (subst (λ (n : ℕ). HasSeen n front journal) (sym mine) seen)

  pub lawful : (o : Opening L) (ending : Device → ℕ) (journal : List Line) → Shows L o.opened.pages o.tables → AllFit L items o.opened journal → IsClosed ending journal → Lawful L items o ending journal
  lawful o ending journal opening all closed = record {
    shape = record { phases = closed.phases; sessions = λ session. runs_of session journal (all session).front (all session).seen (all session).runs };
    at_each = rules o journal opening all;
    differ = closed.differ;
    counted = closed.counted;
  }

  -- ---- replies

  pub fate_append : (who : Who) (now : World L.Tables) (known : Option (Fate L.Tables)) (xs ys : List Line)
      → fate_behind L items who now known (xs ++ ys) ≡ fate_behind L items who (world L items now xs) (fate_behind L items who now known xs) ys
  fate_append who now known [] ys = refl
  fate_append who now known (line ∷ xs) ys = fate_append who (step L items now line) (cond (same_item line.who who) (Some (fate_with now line.what known)) known) xs ys

  -- nothing becomes of an item by lines of other sessions
  pub no_fate : (who : Who) (now : World L.Tables) (known : Option (Fate L.Tables)) (lines : List Line) → AreOthers who.session lines → fate_behind L items who now known lines ≡ known
  no_fate who now known [] others = refl
  no_fate who now known (line ∷ lines) others = rw (apart line.who who others.0) (no_fate who (step L items now line) known lines others.1)

  pub told : (o : Opening L) (journal front : List Line) (who : Who) (item : L.Item) (text : List ℕ) → Shows L o.opened.pages o.tables → AllFit L items o.opened journal →
      HasSeen who.session front journal → IsReply L items o.opened.pages who item front text → text ≡ reply L item (fate L items who o.tables journal)
  told o journal front who item text opening all seen is =
      let along = along_front o.opened.pages o.tables front seen.rest (subst (ShowsAlong L items o.opened.pages o.tables) seen.whole (shows o journal opening all)) in
      let same : fate L items who o.tables journal ≡ fate L items who o.tables front =
      ap (fate L items who o.tables) seen.whole
      ∙ fate_append who o.tables None front seen.rest
      ∙ no_fate who (world L items o.tables front) (fate L items who o.tables front) seen.rest seen.others in
      is o.tables along ∙ ap (reply L item) (sym same)

pub law : (L : Language) → LawOfTheJournal L
law L = record { shows = shows L; lawful = lawful L; replies = told L; own_lines = own_lines }
