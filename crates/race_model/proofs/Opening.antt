-- An image of the desk's devices beside one of the archive's opens to the history.
use Rattle.std.proofs.Common.{◌≡◌, ◌⊎◌, inl, inr, ◌≤◌, ◌<◌, ◌+◌, ◌-◌, ◌%◌, ◌∙◌, ℕ, zero, suc, List, [], ◌∷◌, ◌++◌, length, take, drop, replicate, get_or, refl, sym, ap, arith, length-append, length-drop}
use Rattle.std.proofs.lemmas.Bool.{cases_lt}
use Rattle.std.proofs.lemmas.List.{drop-append-le, take-append-le, drop-take, get_or_append_left, get_or-append_right, get_or-drop, length-replicate, drop_all, length-take}
use Rattle.history.specs.declared.entry.Base.{Base}
use Rattle.history.specs.declared.entry.Change.{Change}
use Rattle.history.specs.declared.log.Version.{Version}
use Rattle.history.specs.declared.writes.PageImage.{PageImage}
use Rattle.history.specs.Marks.{newest_start, oldest_start}
use Rattle.history.specs.Writes.{pages_of}
use Rattle.history.specs.History.{State, run, captures_of, History, now, captures}
use Rattle.history.specs.Laws.{IsConsistent}
use Rattle.history.proofs.Consistent.{captures_are_counted}
use Rattle.skippy.specs.Mappings.{Mappings, end_of}
use Rattle.replay.specs.Joined.{differ, are_among, begins_with, mapped_since}
use Rattle.replay.specs.Opened.{Contents, opened, slot_images, forgotten}
use Rattle.replay.proofs.Belonging.{held_long, opened_is_consistent}
use Rattle.race_model.specs.Desk.{behind, captured, capacity_of, log_from, is_written}
use Rattle.race_model.specs.Fits.{HistoryFits, LogFits, WasSent, MappingsFit, all_mappings, AreOfStore}
use Rattle.race_model.specs.Images.{HoldsCaptures, OpenTo}
use Rattle.race_model.proofs.Alike.{Alike, alike-pages, alike-page, alike-bytes, alike-length, captures_alike, base_alike, run_alike, run_over, late_alike, is_written-append}
use Rattle.race_model.proofs.Lists.{same_at, image_eq, pages_of-get, drop-to, begins, differ-drop, are_among-drop}
use Rattle.race_model.proofs.Histories.{captures_of-append, run_count, capacity_stays, count, pages_count, oldest_within}
use Rattle.race_model.proofs.LogKeeps.{whole}

-- the captures behind a base and behind what the archive held at the opening, by number
pub captured_behind : (history : History) (past rest : List Change) → history.origin.base.captures ≤ length history.held → past ++ rest ≡ history.changes
    → (number : ℕ) → (behind history past).base.captures ≤ number → length history.held ≤ number
    → captured history number ≡ get_or (captures_of (behind history past) rest) (number - (behind history past).base.captures) forgotten
captured_behind history past rest counted split number le known =
    let first : ℕ = (behind history past).base.captures in
    let held : ℕ = length history.held in
    let origin : ℕ = history.origin.base.captures in
    let parts : captures_of history.origin history.changes ≡ captures_of history.origin past ++ captures_of (behind history past) rest = ap (captures_of history.origin) (sym split) ∙ captures_of-append history.origin past rest in
    let sum : first ≡ origin + length (captures_of history.origin past) = run_count history.origin past in
    get_or-append_right history.held (drop (held - origin) (captures_of history.origin history.changes)) held number forgotten refl known
    ∙ get_or-drop (held - origin) (captures_of history.origin history.changes) (number - held) forgotten
    ∙ ap (λ t. get_or (captures_of history.origin history.changes) t forgotten) (omega (arith, counted, known))
    ∙ ap (λ (t : List PageImage). get_or t (number - origin) forgotten) parts
    ∙ get_or-append_right (captures_of history.origin past) (captures_of (behind history past) rest) (length (captures_of history.origin past)) (number - origin) forgotten refl (omega (arith, sum, le))
    ∙ ap (λ t. get_or (captures_of (behind history past) rest) t forgotten) (omega (arith, sum, le))

-- what an image of the pages' device has there
abbrev pub ImageFits : History → List Change → List Change → ℕ → (ℕ → List ℕ) → ℕ → Type 0
ImageFits history past rest need pages page = (pages page ≡ (behind history past).pages page) ⊎ WasSent (behind history past) rest need page

-- the pages of the image under the log's changes
abbrev over : History → List Change → (ℕ → List ℕ) → State
over history past pages = record { base = (behind history past).base; pages = pages }

module _ (history : History) (past rest : List Change) (need : ℕ) (pages : ℕ → List ℕ) (split : past ++ rest ≡ history.changes) (fits : (page : ℕ) → ImageFits history past rest need pages page) where
  base_same : (run (over history past pages) rest).base ≡ (now history).base
  base_same = base_alike (behind history past).base pages (behind history past).pages rest ∙ ap (λ (s : State). s.base) (whole history past rest split)

  pages_same : (page : ℕ) → (run (over history past pages) rest).pages page ≡ (now history).pages page
  pages_same page = elim (fits page) [
    | inl same ↦ run_alike (behind history past).base pages (behind history past).pages rest page same
    | inr sent ↦ run_over (behind history past).base pages (behind history past).pages rest page (ap (is_written page) (sym sent.split) ∙ is_written-append page sent.early sent.late sent.written)
  ] ∙ ap (λ (s : State). s.pages page) (whole history past rest split)

  caps_alike : Alike (λ page. ⊥) (captures_of (over history past pages) rest) (captures_of (behind history past) rest)
  caps_alike = captures_alike (λ page. ⊥) (behind history past).base pages (behind history past).pages rest (λ page never. absurd never)

  -- below need an image of the pages may have lost what a page was
  bytes_same : (place : ℕ) → need ≤ (behind history past).base.captures + place
      → (get_or (captures_of (over history past pages) rest) place forgotten).bytes ≡ (get_or (captures_of (behind history past) rest) place forgotten).bytes
  bytes_same place le =
      let page : ℕ = (get_or (captures_of (behind history past) rest) place forgotten).page in
      let base : Base = (behind history past).base in
      let f : ℕ → List ℕ = (behind history past).pages in
      elim (fits page) [
        | inl same ↦ alike-bytes (captures_alike (λ q. q ≡ page) base pages f rest (λ q e. ap pages e ∙ same ∙ sym (ap f e))) place refl
        | inr sent ↦
            let naive : State = over history past pages in
            let early : List Change = sent.early in
            let late : List Change = sent.late in
            let first : List PageImage = captures_of (behind history past) early in
            let len : length (captures_of naive early) ≡ length first = alike-length (captures_alike (λ q. ⊥) base pages f early (λ q never. absurd never)) in
            let cut_naive : captures_of naive rest ≡ captures_of naive early ++ captures_of (run naive early) late = ap (captures_of naive) (sym sent.split) ∙ captures_of-append naive early late in
            let cut : captures_of (behind history past) rest ≡ first ++ captures_of (run (behind history past) early) late = ap (captures_of (behind history past)) (sym sent.split) ∙ captures_of-append (behind history past) early late in
            elim (cases_lt place (length first)) [
              | inl lt ↦
                  let is : (get_or first place forgotten).page ≡ page =
                  sym (ap (λ (i : PageImage). i.page) (get_or_append_left first (captures_of (run (behind history past) early) late) forgotten place lt)) ∙ sym (ap (λ (t : List PageImage). (get_or t place forgotten).page) cut) in
                  let below : base.captures + place < need = sent.below place lt is in
                  absurd (omega (arith, below, le))
              | inr ge ↦
                  let n : ℕ = length first in
                  let right_naive : get_or (captures_of naive rest) place forgotten ≡ get_or (captures_of (run naive early) late) (place - n) forgotten =
                  ap (λ (t : List PageImage). get_or t place forgotten) cut_naive ∙ get_or-append_right (captures_of naive early) (captures_of (run naive early) late) n place forgotten len ge in
                  let right : get_or (captures_of (behind history past) rest) place forgotten ≡ get_or (captures_of (run (behind history past) early) late) (place - n) forgotten =
                  ap (λ (t : List PageImage). get_or t place forgotten) cut ∙ get_or-append_right first (captures_of (run (behind history past) early) late) n place forgotten refl ge in
                  let same : Alike (λ q. q ≡ page) (captures_of (run naive early) late) (captures_of (run (behind history past) early) late) =
                  late_alike (λ q. q ≡ page) base pages f early late (λ q e. ap (run naive early).pages e ∙ run_over base pages f early page sent.written ∙ sym (ap (run (behind history past) early).pages e)) in
                  ap (λ (i : PageImage). i.bytes) right_naive ∙ alike-bytes same (place - n) (sym (ap (λ (i : PageImage). i.page) right)) ∙ sym (ap (λ (i : PageImage). i.bytes) right)
            ]
      ]

-- ---- mappings that fit, beside a log that tells all of them

module _ (history : History) (floor : ℕ) (fits : HistoryFits history floor) (mappings : Mappings) (is : MappingsFit history floor mappings) where
  window : drop (mappings.low - floor) (all_mappings history floor).pages ≡ mappings.pages ++ is.later
  window = drop-to floor (mappings.low - floor) mappings.low (pages_of (captures history)) (omega (arith, is.above)) ∙ is.same

  low_within : mappings.low ≤ (now history).base.captures
  low_within = omega (arith, is.needed, oldest_within history fits.consistent)

  pub end_within : end_of mappings ≤ (now history).base.captures
  end_within =
      omega (arith, low_within, length-drop mappings.low (pages_of (captures history)), pages_count history fits.consistent, ap (λ (ps : List ℕ). length ps) is.same, length-append mappings.pages is.later)

  -- the page of a capture that is mapped
  pub page_mapped : (number : ℕ) → mappings.low ≤ number → number < end_of mappings → get_or mappings.pages (number - mappings.low) 0 ≡ (captured history number).page
  page_mapped number above within =
      sym (get_or_append_left mappings.pages is.later 0 (number - mappings.low) (omega (arith, above, within)))
      ∙ ap (λ (ps : List ℕ). get_or ps (number - mappings.low) 0) (sym is.same)
      ∙ get_or-drop mappings.low (pages_of (captures history)) (number - mappings.low) 0
      ∙ ap (λ n. get_or (pages_of (captures history)) n 0) (let k : mappings.low + (number - mappings.low) ≡ number = omega (arith, above) in k)
      ∙ pages_of-get (captures history) number

  module _ (past rest : List Change) (log : LogFits history floor past rest) (based : (behind history past).base.captures ≤ end_of mappings) where
    abbrev base : Base
    base = (behind history past).base

    abbrev low : ℕ
    low = mappings.low

    abbrev all : List ℕ
    all = (all_mappings history floor).pages

    -- how many of the mappings since the base's newest snapshot are forgotten
    abbrev fewer : ℕ
    fewer = ((low - floor) + (newest_start base.marks - low)) - (newest_start base.marks - floor)

    since_is : mapped_since base mappings ≡ drop fewer (mapped_since base (all_mappings history floor))
    since_is =
        let front : take (base.captures - low) mappings.pages ≡ drop (low - floor) (take (base.captures - floor) all) =
        sym (take-append-le (base.captures - low) mappings.pages is.later (omega (arith, based)))
        ∙ ap (take (base.captures - low)) (sym window)
        ∙ sym (drop-take (low - floor) (base.captures - low) all)
        ∙ shorter (cases_lt base.captures low) in
        ap (drop (newest_start base.marks - low)) front
        ∙ drop-to (low - floor) (newest_start base.marks - low) ((low - floor) + (newest_start base.marks - low)) (take (base.captures - floor) all) refl
        ∙ sym (drop-to (newest_start base.marks - floor) fewer ((low - floor) + (newest_start base.marks - low)) (take (base.captures - floor) all) (omega (arith, is.above)))
      where
        shorter : (base.captures < low) ⊎ (low ≤ base.captures) → drop (low - floor) (take ((low - floor) + (base.captures - low)) all) ≡ drop (low - floor) (take (base.captures - floor) all)
        shorter (inl lt) = none (low - floor) ((low - floor) + (base.captures - low)) (omega (arith, lt)) ∙ sym (none (low - floor) (base.captures - floor) (omega (arith, lt))) where
          none : (n m : ℕ) → m ≤ n → drop n (take m all) ≡ []
          none n m le = drop_all n (take m all) (omega (arith, le, length-take m all))
        shorter (inr ge) = ap (λ n. drop (low - floor) (take n all)) (omega (arith, ge, is.above))

    -- from the base on the mappings are those of what the changes capture
    same_from : drop (low - base.captures) (pages_of (captures_of (behind history past) rest)) ≡ drop (base.captures - low) mappings.pages ++ is.later
    same_from =
        let n : ℕ = (low - floor) + (base.captures - low) in
        sym (drop-to (floor - base.captures) (n - (base.captures - floor)) (low - base.captures) (pages_of (captures_of (behind history past) rest)) (omega (arith, is.above)))
        ∙ ap (drop (n - (base.captures - floor))) (sym log.fits.same)
        ∙ drop-to (base.captures - floor) (n - (base.captures - floor)) n all (omega (arith, is.above))
        ∙ sym (drop-to (low - floor) (base.captures - low) n all refl)
        ∙ ap (drop (base.captures - low)) window
        ∙ drop-append-le (base.captures - low) mappings.pages is.later (omega (arith, based))

-- ---- the captures of the store that is opened

slot_at : (slots : ℕ → List ℕ) (capacity first : ℕ) (pages : List ℕ) (i : ℕ) → i < length pages → get_or (slot_images slots capacity first pages) i forgotten ≡ record { page = get_or pages i 0; bytes = slots ((first + i) % capacity) }
slot_at slots capacity first [] i lt = absurd (omega arith)
slot_at slots capacity first (page ∷ pages) zero lt =
    let none : first ≡ first + 0 = omega arith in
    ap (λ (n : ℕ). let r : PageImage = record { page = page; bytes = slots (n % capacity) } in r) none
slot_at slots capacity first (page ∷ pages) (suc i) lt =
    let sum : (first + 1) + i ≡ first + suc i = omega arith in
    slot_at slots capacity (first + 1) pages i (omega arith) ∙ ap (λ (n : ℕ). let r : PageImage = record { page = get_or pages i 0; bytes = slots (n % capacity) } in r) sum

module _ (contents : Contents) where
  abbrev mapped : Mappings
  mapped = contents.mappings

  abbrev behind_held : List PageImage
  behind_held = drop (length (opened contents).held - contents.log.base.captures) (captures_of (opened contents).origin contents.log.changes)

  pub opened_held : (number : ℕ) → mapped.low ≤ number → number < end_of mapped
      → captured (opened contents) number ≡ record { page = get_or mapped.pages (number - mapped.low) 0; bytes = contents.slots (number % contents.log.base.capacity) }
  opened_held number above within =
      let forgot : List PageImage = replicate mapped.low forgotten in
      let slots : List PageImage = slot_images contents.slots contents.log.base.capacity mapped.low mapped.pages in
      let sum : mapped.low + (number - mapped.low) ≡ number = omega (arith, above) in
      get_or_append_left (forgot ++ slots) behind_held forgotten number (omega (arith, held_long contents, within))
      ∙ get_or-append_right forgot slots mapped.low number forgotten (length-replicate mapped.low forgotten) above
      ∙ slot_at contents.slots contents.log.base.capacity mapped.low mapped.pages (number - mapped.low) (omega (arith, above, within))
      ∙ ap (λ (n : ℕ). let r : PageImage = record { page = get_or mapped.pages (number - mapped.low) 0; bytes = contents.slots (n % contents.log.base.capacity) } in r) sum

  pub opened_later : contents.log.base.captures ≤ end_of mapped → (number : ℕ) → end_of mapped ≤ number
      → captured (opened contents) number ≡ get_or (captures_of (opened contents).origin contents.log.changes) (number - contents.log.base.captures) forgotten
  opened_later counted number above =
      captured_behind (opened contents) [] contents.log.changes (omega (arith, held_long contents, counted)) refl number (omega (arith, counted, above)) (omega (arith, held_long contents, above))

-- The law: beside an image of the archive that holds `need` captures, an image of the desk's devices opens to the history.
module _ (version : Version) (history : History) (floor : ℕ) (past rest : List Change) (need : ℕ) (pages : ℕ → List ℕ) (mappings : Mappings) (slots : ℕ → List ℕ) (fits : HistoryFits history floor)
    (log : LogFits history floor past rest) (known : length history.held ≤ need) (based : (behind history past).base.captures ≤ need) (image : (page : ℕ) → ImageFits history past rest need pages page)
    (holds : HoldsCaptures history floor need mappings slots) where
  abbrev contents : Contents
  contents = record { log = log_from version history past rest; pages = pages; mappings = mappings; slots = slots }

  abbrev at : Base
  at = (behind history past).base

  capacity_is : at.capacity ≡ capacity_of history
  capacity_is = capacity_stays history.origin past

  same_base : (now (opened contents)).base ≡ (now history).base
  same_base = base_same history past rest need pages log.split image

  counted : at.captures ≤ end_of mappings
  counted = omega (arith, based, holds.enough)

  of_store : AreOfStore contents
  of_store = record {
    right = record {
      base = log.fits.base;
      right = log.fits.right;
      joined = record {
        holds_base = record {
          counted = counted;
          room = omega (arith, holds.mapped.room, capacity_is);
          different = ap differ (since_is history floor fits mappings holds.mapped past rest log counted) ∙ differ-drop (fewer history floor fits mappings holds.mapped past rest log counted) (mapped_since at (all_mappings history floor)) log.fits.different;
          captured = ap (λ (ps : List ℕ). are_among ps at.captured) (since_is history floor fits mappings holds.mapped past rest log counted)
              ∙ are_among-drop (fewer history floor fits mappings holds.mapped past rest log counted) (mapped_since at (all_mappings history floor)) at.captured log.fits.listed;
        };
        holds_changes = record {
          known = omega (arith, end_within history floor fits mappings holds.mapped, ap (λ (b : Base). b.captures) same_base);
          needed = omega (arith, holds.mapped.needed, ap (λ (b : Base). oldest_start b.marks) same_base);
          same = ap (begins_with (drop (at.captures - mappings.low) mappings.pages))
              (ap (drop (mappings.low - at.captures)) (alike-pages (caps_alike history past rest need pages log.split image)) ∙ same_from history floor fits mappings holds.mapped past rest log counted)
              ∙ begins (drop (at.captures - mappings.low) mappings.pages) holds.mapped.later;
        };
      };
    };
    rises = log.fits.rises;
  }

  same_capture : (number : ℕ) → oldest_start (now history).base.marks ≤ number → captured (opened contents) number ≡ captured history number
  same_capture number ge = elim (cases_lt number (end_of mappings)) [
    | inl held ↦
        let above : mappings.low ≤ number = omega (arith, holds.mapped.needed, ge) in
        opened_held contents number above held
        ∙ image_eq (record { page = get_or mappings.pages (number - mappings.low) 0; bytes = slots (number % at.capacity) }) (captured history number)
        (page_mapped history floor fits mappings holds.mapped number above held) (ap (λ n. slots (number % n)) capacity_is ∙ holds.filled number ge held)
    | inr later ↦
        let place : ℕ = number - at.captures in
        opened_later contents counted number later
        ∙ image_eq (get_or (captures_of (over history past pages) rest) place forgotten) (get_or (captures_of (behind history past) rest) place forgotten)
        (alike-page (caps_alike history past rest need pages log.split image) place) (bytes_same history past rest need pages log.split image place (omega (arith, holds.enough, later, counted)))
        ∙ sym (captured_behind history past rest fits.consistent.counted log.split number (omega (arith, counted, later)) (omega (arith, known, holds.enough, later)))
  ]

  pub opens : OpenTo contents version history
  opens = record {
    in_version = refl;
    store = of_store;
    same = record {
      base = same_base;
      pages = pages_same history past rest need pages log.split image;
      captures =
          let start : ℕ = oldest_start (now history).base.marks in
          let consistent : IsConsistent (opened contents) = opened_is_consistent contents of_store.right in
          let total : length (captures (opened contents)) ≡ length (captures history) = captures_are_counted (opened contents) consistent ∙ ap (λ (b : Base). b.captures) same_base ∙ sym (count history fits.consistent) in
          same_at (drop start (captures (opened contents))) (drop start (captures history)) (omega (arith, total, length-drop start (captures (opened contents)), length-drop start (captures history)))
          (λ place. get_or-drop start (captures (opened contents)) place forgotten ∙ same_capture (start + place) (omega arith) ∙ sym (get_or-drop start (captures history) place forgotten));
    };
  }
