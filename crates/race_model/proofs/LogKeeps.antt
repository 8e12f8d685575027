-- The log, from a base on, tells the mappings: with a change more, behind a cut, and at an opening.
use Rattle.std.proofs.Common.{◌≡◌, ◌≤◌, ◌+◌, ◌-◌, ◌∙◌, ℕ, List, [], ◌∷◌, ◌++◌, length, take, drop, refl, sym, ap, subst, arith, length-drop, append_assoc}
use Rattle.std.specs.List.{AllByRecursion}
use Rattle.std.proofs.lemmas.List.{append-nil, drop-append-le, drop_all, take_all, take-append-le}
use Rattle.history.specs.declared.entry.Base.{Base}
use Rattle.history.specs.declared.entry.Change.{Change}
use Rattle.history.specs.declared.writes.PageImage.{PageImage}
use Rattle.history.specs.Marks.{newest_start}
use Rattle.history.specs.Writes.{pages_of}
use Rattle.history.specs.Right.{IsBase, IsRight, AreRight, MayFollow, WritesRise}
use Rattle.history.specs.History.{State, base_after, bases_after, run, captured_by, captures_of, History, now, captures, with_change}
use Rattle.history.specs.Laws.{captured_since}
use Rattle.history.proofs.Captures.{run-append, run-base}
use Rattle.history.proofs.BaseStays.{stays_right}
use Rattle.skippy.specs.Mappings.{end_of}
use Rattle.replay.specs.Joined.{differ, are_among, mapped_since}
use Rattle.replay.specs.Opened.{Contents, opened, slot_images}
use Rattle.replay.proofs.Belonging.{opened_captures, opened_is_consistent}
use Rattle.race_model.specs.Desk.{behind}
use Rattle.race_model.specs.Fits.{HistoryFits, LogFits, all_mappings, AreOfStore}
use Rattle.race_model.proofs.Lists.{pages_of-append, pages_of-length, pages_of-drop, drop-to, begins_is}
use Rattle.race_model.proofs.Histories.{keeps_newest, captures_of-append, run_count, count, floor_within, pages_count, grown, oldest-newest, since_differ, since_listed}

all-more : {X : Type 0} (P : X → Type 0) (xs : List X) (x : X) → AllByRecursion P xs → P x → AllByRecursion P (xs ++ x ∷ [])
all-more P [] x all is = (is, tt)
all-more P (y ∷ xs) x all is = (all.0, all-more P xs x all.1 is)

right_more : (base : Base) (changes : List Change) (change : Change) → AreRight base changes → IsRight (bases_after base changes) change → AreRight base (changes ++ change ∷ [])
right_more base [] change right is = (is, tt)
right_more base (first ∷ changes) change right is = (right.0, right_more (base_after base first) changes change right.1 is)

module _ (history : History) (past rest : List Change) (split : past ++ rest ≡ history.changes) where
  -- the changes end where the history does
  pub whole : run (behind history past) rest ≡ now history
  whole = sym (run-append history.origin past rest) ∙ ap (run history.origin) split

  pub base_whole : bases_after (behind history past).base rest ≡ (now history).base
  base_whole = sym (run-base (behind history past) rest) ∙ ap (λ (s : State). s.base) whole

  pub counts : (now history).base.captures ≡ (behind history past).base.captures + length (captures_of (behind history past) rest)
  counts = ap (λ (s : State). s.base.captures) (sym whole) ∙ run_count (behind history past) rest

module _ (history : History) (floor : ℕ) (fits : HistoryFits history floor) where
  all_length : length (all_mappings history floor).pages ≡ (now history).base.captures - floor
  all_length = length-drop floor (pages_of (captures history)) ∙ ap (λ n. n - floor) (pages_count history fits.consistent)

  module _ (past rest : List Change) (log : LogFits history floor past rest) (change : Change) (may : MayFollow (now history).base change) where
    abbrev more : List ℕ
    more = pages_of (captured_by (now history) change)

    abbrev base_count : ℕ
    base_count = (behind history past).base.captures

    all_grown : (all_mappings (with_change history change) floor).pages ≡ (all_mappings history floor).pages ++ more
    all_grown =
        ap (λ (images : List PageImage). drop floor (pages_of images)) (grown history fits.consistent change (keeps_newest (now history).base change may.right))
        ∙ ap (drop floor) (pages_of-append (captures history) (captured_by (now history) change))
        ∙ drop-append-le floor (pages_of (captures history)) (pages_of (captured_by (now history) change)) (omega (arith, pages_of-length (captures history), floor_within history floor fits))

    same_mapped : mapped_since (behind history past).base (all_mappings (with_change history change) floor) ≡ mapped_since (behind history past).base (all_mappings history floor)
    same_mapped =
        ap (λ (ps : List ℕ). drop (newest_start (behind history past).base.marks - floor) ps)
        (ap (take (base_count - floor)) all_grown ∙ take-append-le (base_count - floor) (all_mappings history floor).pages more (omega (arith, all_length, counts history past rest log.split)))

    pub log_with : LogFits (with_change history change) floor past (rest ++ change ∷ [])
    log_with = record {
      split = sym (append_assoc past rest (change ∷ [])) ∙ ap (λ (t : List Change). t ++ change ∷ []) log.split;
      fits = record {
        base = log.fits.base;
        right = right_more (behind history past).base rest change log.fits.right (subst (λ (b : Base). IsRight b change) (sym (base_whole history past rest log.split)) may.right);
        rises = all-more WritesRise rest change log.fits.rises may.rises;
        different = ap differ same_mapped ∙ log.fits.different;
        listed = ap (λ (ps : List ℕ). are_among ps (behind history past).base.captured) same_mapped ∙ log.fits.listed;
        same =
            let caps : List PageImage = captures_of (behind history past) rest in
            let caps_more : captures_of (behind history past) (rest ++ change ∷ []) ≡ caps ++ captured_by (now history) change =
            captures_of-append (behind history past) rest (change ∷ []) ∙ ap (λ (t : List PageImage). caps ++ t) (append-nil (captured_by (run (behind history past) rest) change) ∙ ap (λ (s : State). captured_by s change) (whole history past rest log.split)) in
            ap (drop (base_count - floor)) all_grown
            ∙ drop-append-le (base_count - floor) (all_mappings history floor).pages more (omega (arith, all_length, counts history past rest log.split))
            ∙ ap (λ (ps : List ℕ). ps ++ more) log.fits.same
            ∙ sym (drop-append-le (floor - base_count) (pages_of caps) more (omega (arith, pages_of-length caps, counts history past rest log.split, floor_within history floor fits, count history fits.consistent)))
            ∙ ap (drop (floor - base_count)) (sym (ap pages_of caps_more ∙ pages_of-append caps (captured_by (now history) change)));
      };
    }

  -- behind a cut the log is the base of now alone
  pub log_cut : LogFits history floor history.changes []
  log_cut =
      let base : Base = (now history).base in
      let low : floor ≤ newest_start base.marks = omega (arith, fits.floor_low, oldest-newest base.captures 0 0 base.marks fits.consistent.marks) in
      let since : mapped_since base (all_mappings history floor) ≡ captured_since history =
      ap (drop (newest_start base.marks - floor)) (take_all (base.captures - floor) (all_mappings history floor).pages (omega (arith, all_length)))
      ∙ drop-to floor (newest_start base.marks - floor) (newest_start base.marks) (pages_of (captures history)) (omega (arith, low))
      ∙ sym (pages_of-drop (newest_start base.marks) (captures history)) in
      record {
        split = append-nil history.changes;
        fits = record {
          base = fits.right;
          right = tt;
          rises = tt;
          different = ap differ since ∙ since_differ history floor fits;
          listed = ap (λ (ps : List ℕ). are_among ps base.captured) since ∙ since_listed history floor fits;
          same = drop_all (base.captures - floor) (all_mappings history floor).pages (omega (arith, all_length)) ∙ sym (drop_all (floor - base.captures) [] (omega arith));
        };
      }

-- ---- at an opening

pages_of-slots : (slots : ℕ → List ℕ) (capacity number : ℕ) (pages : List ℕ) → pages_of (slot_images slots capacity number pages) ≡ pages
pages_of-slots slots capacity number [] = refl
pages_of-slots slots capacity number (page ∷ pages) = ap (λ (ps : List ℕ). page ∷ ps) (pages_of-slots slots capacity (number + 1) pages)

right_all : (base : Base) (changes : List Change) → IsBase base → AreRight base changes → AllByRecursion WritesRise changes → IsBase (bases_after base changes)
right_all base [] is right rise = is
right_all base (change ∷ changes) is right rise = right_all (base_after base change) changes (stays_right base change is rise.0 right.0) right.1 rise.1

module _ (contents : Contents) (store : AreOfStore contents) where
  abbrev low : ℕ
  low = contents.mappings.low

  abbrev base : Base
  base = contents.log.base

  abbrev mapped : List ℕ
  mapped = contents.mappings.pages

  abbrev caps : List PageImage
  caps = captures_of (opened contents).origin contents.log.changes

  pub history_opened : HistoryFits (opened contents) contents.mappings.low
  history_opened = record {
    consistent = opened_is_consistent contents store.right;
    right = subst IsBase (sym (run-base (opened contents).origin contents.log.changes)) (right_all base contents.log.changes store.right.base store.right.right store.rises);
    floor_low = store.right.joined.holds_changes.needed;
  }

  -- all mappings: those that the Maplog keeps, and behind them those of the log's changes
  pub all_opened : (all_mappings (opened contents) low).pages ≡ mapped ++ drop (end_of contents.mappings - base.captures) (pages_of caps)
  all_opened =
      sym (pages_of-drop low (captures (opened contents)))
      ∙ ap pages_of (opened_captures contents)
      ∙ pages_of-append (slot_images contents.slots base.capacity low mapped) (drop (end_of contents.mappings - base.captures) caps)
      ∙ ap (λ (ps : List ℕ). ps ++ pages_of (drop (end_of contents.mappings - base.captures) caps)) (pages_of-slots contents.slots base.capacity low mapped)
      ∙ ap (λ (ps : List ℕ). mapped ++ ps) (pages_of-drop (end_of contents.mappings - base.captures) caps)

  same_since : mapped_since base (all_mappings (opened contents) low) ≡ mapped_since base contents.mappings
  same_since =
      ap (λ (ps : List ℕ). drop (newest_start base.marks - low) (take (base.captures - low) ps)) all_opened
      ∙ ap (drop (newest_start base.marks - low)) (take-append-le (base.captures - low) mapped (drop (end_of contents.mappings - base.captures) (pages_of caps)) (omega (arith, store.right.joined.holds_base.counted)))

  pub log_opened : LogFits (opened contents) contents.mappings.low [] contents.log.changes
  log_opened = record {
    split = refl;
    fits = record {
      base = store.right.base;
      right = store.right.right;
      rises = store.rises;
      different = ap differ same_since ∙ store.right.joined.holds_base.different;
      listed = ap (λ (ps : List ℕ). are_among ps base.captured) same_since ∙ store.right.joined.holds_base.captured;
      same =
          let front : List ℕ = drop (base.captures - low) mapped in
          let counted = store.right.joined.holds_base.counted in
          ap (drop (base.captures - low)) all_opened
          ∙ drop-append-le (base.captures - low) mapped (drop (end_of contents.mappings - base.captures) (pages_of caps)) (omega (arith, counted))
          ∙ ap (λ (ps : List ℕ). front ++ ps) (sym (drop-to (low - base.captures) (length front) (end_of contents.mappings - base.captures) (pages_of caps) (omega (arith, length-drop (base.captures - low) mapped, counted))))
          ∙ sym (begins_is front (drop (low - base.captures) (pages_of caps)) store.right.joined.holds_changes.same);
    };
  }
