-- What readers are told, and what the vault finds for them.
use Rattle.std.proofs.Common.{◌≡◌, inl, inr, ◌≤◌, ◌<◌, ◌+◌, ◌-◌, ◌%◌, ◌∙◌, ◌||◌, ℕ, zero, suc, Bool, true, false, cond, eqb, leb, List, [], ◌∷◌, ◌++◌, length, take, drop, get_or, max, Option, Some, None, refl, sym, ap, subst, arith, length-drop, length-take}
use Rattle.std.specs.Prelude.{slice_get, unwrap_or, option_map}
use Rattle.std.specs.List.{AllByRecursion, position, position_from}
use Rattle.std.proofs.lemmas.Bool.{cases_lt, or_cases, eqb-true, leb-false}
use Rattle.std.proofs.lemmas.List.{take-append-drop, take-append-le, drop-append-le, drop-drop, take_all, get_or-take, get_or-drop}
use Rattle.std.proofs.lemmas.Iterator.Adapters.{position_from-zero}
use Rattle.retro_base.specs.FirstMet.{first_met}
use Rattle.history.specs.declared.entry.Base.{Base}
use Rattle.history.specs.declared.entry.Mark.{Mark}
use Rattle.history.specs.declared.entry.Change.{Change}
use Rattle.history.specs.declared.entry.Change.TheVariants.{Commit, Drop}
use Rattle.history.specs.declared.writes.PageImage.{PageImage}
use Rattle.history.specs.Marks.{newest, oldest_start, start_of, is_retained, kept_marks, MarksRise}
use Rattle.history.specs.Writes.{pages_of}
use Rattle.history.specs.Laws.{IsConsistent, KeepsNewest}
use Rattle.history.specs.History.{State, capturing, base_after, History, now, captures, captured_by, with_change, bytes_at, pages_as_of}
use Rattle.history.proofs.MarkLaws.{start-le, start-append, start-kept, newest_start-within, retained-append, retained-newest}
use Rattle.history.proofs.Captures.{now-with}
use Rattle.history.proofs.AsOf.{over, as_of-over, as_of_stays, newest_rises, retained_before}
use Rattle.skippy.specs.Mappings.{end_of, first_in}
use Rattle.replay.specs.Opened.{forgotten}
use Rattle.race_model.specs.Desk.{Desk, capacity_of}
use Rattle.race_model.specs.Vault.{Vault}
use Rattle.race_model.specs.Fits.{HistoryFits, VaultFits}
use Rattle.race_model.specs.Reading.{PeekTold, told_of, in_slot, found}
use Rattle.race_model.specs.Machine.{KeepsPins}
use Rattle.race_model.specs.Images.{IsSameWorld}
use Rattle.race_model.specs.Invariant.{ToldFits}
use Rattle.race_model.proofs.Lists.{pages_of-drop, drop-to}
use Rattle.race_model.proofs.Histories.{count, drop_with}

-- ---- the first image of a page

pages_of-take : (n : ℕ) (xs : List PageImage) → pages_of (take n xs) ≡ take n (pages_of xs)
pages_of-take zero xs = refl
pages_of-take (suc n) [] = refl
pages_of-take (suc n) (x ∷ xs) = ap (λ ps. x.page ∷ ps) (pages_of-take n xs)

get_at : (images : List PageImage) (place : ℕ) (image : PageImage) (rest : List PageImage) → drop place images ≡ image ∷ rest → slice_get images place ≡ Some image
get_at [] zero image rest e = absurd cc
get_at [] (suc place) image rest e = absurd cc
get_at (x ∷ images) zero image rest e = cc
get_at (x ∷ images) (suc place) image rest e = get_at images place image rest e

met : (images rest more : List PageImage) (start i page : ℕ) (bytes : List ℕ) → drop (start + i) images ≡ rest ++ more
    → bytes_at images bytes (option_map (λ place. start + place) (position_from (λ other. eqb other page) i (pages_of rest))) ≡ over (λ p. bytes) rest page
met images [] more start i page bytes e = refl
met images (image ∷ rest) more start i page bytes e =
    go (eqb image.page page) (met images rest more start (i + 1) page bytes (ap (λ n. drop n images) (let k : start + (i + 1) ≡ (start + i) + 1 = omega arith in k) ∙ sym (drop-drop 1 (start + i) images) ∙ ap (drop 1) e)) where
      go : (b : Bool) → bytes_at images bytes (option_map (λ place. start + place) (position_from (λ other. eqb other page) (i + 1) (pages_of rest))) ≡ over (λ p. bytes) rest page
          → bytes_at images bytes (option_map (λ place. start + place) (cond b (Some i) (position_from (λ other. eqb other page) (i + 1) (pages_of rest)))) ≡ cond b image.bytes (over (λ p. bytes) rest page)
      go true again = ap (λ (o : Option PageImage). unwrap_or (option_map (λ (x : PageImage). x.bytes) o) bytes) (get_at images (start + i) image (rest ++ more) e)
      go false again = again

-- from one number up to another
abbrev pub part : ℕ → ℕ → List PageImage → List PageImage
part from to images = take (to - from) (drop from images)

pub as_part : (images : List PageImage) (from to page : ℕ) (bytes : List ℕ) → bytes_at images bytes (first_met (pages_of images) from to page) ≡ over (λ p. bytes) (part from to images) page
as_part images from to page bytes =
    let test : ℕ → Bool = λ other. eqb other page in
    ap (λ (ps : List ℕ). bytes_at images bytes (option_map (λ place. from + place) (position test ps)))
    (ap (take (to - from)) (sym (pages_of-drop from images)) ∙ sym (pages_of-take (to - from) (drop from images)))
    ∙ ap (λ (o : Option ℕ). bytes_at images bytes (option_map (λ place. from + place) o)) (position_from-zero test (pages_of (part from to images)))
    ∙ met images (part from to images) (drop (to - from) (drop from images)) from 0 page bytes (let k : from + 0 ≡ from = omega arith in ap (λ n. drop n images) k ∙ sym (take-append-drop (to - from) (drop from images)))

over-append : (pages : ℕ → List ℕ) (xs ys : List PageImage) (page : ℕ) → over pages (xs ++ ys) page ≡ over (over pages ys) xs page
over-append pages [] ys page = refl
over-append pages (x ∷ xs) ys page = ap (cond (eqb x.page page) x.bytes) (over-append pages xs ys page)

over-same : (f g : ℕ → List ℕ) (xs : List PageImage) (page : ℕ) → f page ≡ g page → over f xs page ≡ over g xs page
over-same f g [] page e = e
over-same f g (x ∷ xs) page e = ap (cond (eqb x.page page) x.bytes) (over-same f g xs page e)

-- ---- snapshots that stay retained

pub oldest-start : (count n s number : ℕ) (marks : List Mark) → MarksRise count n s marks → is_retained number marks ≡ true → oldest_start marks ≤ start_of number marks
oldest-start count n s number [] rise is = absurd cc
oldest-start count n s number (mark ∷ []) rise is = go (eqb mark.number number) is where
  go : (b : Bool) → (b || false) ≡ true → mark.start ≤ cond b mark.start 0
  go true e = omega arith
  go false e = absurd cc
oldest-start count n s number (mark ∷ next ∷ marks) rise is = go (eqb mark.number number) is (oldest-start count mark.number mark.start number (next ∷ marks) rise.2) where
  go : (b : Bool) → (b || is_retained number (next ∷ marks)) ≡ true → (is_retained number (next ∷ marks) ≡ true → next.start ≤ start_of number (next ∷ marks)) → mark.start ≤ cond b mark.start (start_of number (next ∷ marks))
  go true e again = omega arith
  go false e again = omega (arith, again e, rise.2.1)

-- a drop leaves what is not below its bound
kept_retained : (number below : ℕ) (marks : List Mark) → below ≤ number → is_retained number marks ≡ true → is_retained number (kept_marks below marks) ≡ true
kept_retained number below [] le is = is
kept_retained number below (mark ∷ marks) le is = go (leb below mark.number) refl (kept_retained number below marks le) where
  go : (b : Bool) → leb below mark.number ≡ b → (is_retained number marks ≡ true → is_retained number (kept_marks below marks) ≡ true) → is_retained number (cond b (mark ∷ marks) (kept_marks below marks)) ≡ true
  go true e again = is
  go false e again = elim (or_cases (eqb mark.number number) (is_retained number marks) is) [
    | inl same ↦ absurd (omega (arith, leb-false below mark.number e, eqb-true mark.number number same, le))
    | inr later ↦ again later
  ]

retained_after : (base : Base) (change : Change) (pins : List ℕ) (pin : ℕ) → KeepsPins pins change → ((below : ℕ) → AllByRecursion (λ p. below ≤ p) pins → below ≤ pin) → is_retained pin base.marks ≡ true → is_retained pin (base_after base change).marks ≡ true
retained_after base (Commit None writes) pins pin keeps at is = is
retained_after base (Commit (Some label) writes) pins pin keeps at is =
    retained-append pin base.marks (record { number = newest base.marks + 1; label = label; start = base.captures + length (pages_of (capturing base writes)) } ∷ []) is
retained_after base (Drop below) pins pin keeps at is = kept_retained pin below base.marks (at below keeps) is

start_same : (base : Base) (change : Change) (number : ℕ) → MarksRise base.captures 0 0 base.marks → is_retained number base.marks ≡ true → is_retained number (base_after base change).marks ≡ true → start_of number (base_after base change).marks ≡ start_of number base.marks
start_same base (Commit None writes) number marks was kept = refl
start_same base (Commit (Some label) writes) number marks was kept =
    start-append number base.marks (record { number = newest base.marks + 1; label = label; start = base.captures + length (pages_of (capturing base writes)) } ∷ []) was
start_same base (Drop below) number marks was kept = start-kept base.captures 0 0 number below base.marks marks kept

-- ---- what was told

module _ (history : History) (fine : IsConsistent history) where
  pub start_within : (number : ℕ) → start_of number (now history).base.marks ≤ (now history).base.captures
  start_within number =
      omega (arith, start-le (now history).base.captures 0 0 number (now history).base.marks fine.marks, newest_start-within (now history).base.captures 0 0 (now history).base.marks fine.marks)

  pub pin_with : (change : Change) (pins : List ℕ) (pin : ℕ) → KeepsPins pins change → ((below : ℕ) → AllByRecursion (λ p. below ≤ p) pins → below ≤ pin)
      → is_retained pin (now history).base.marks ≡ true → is_retained pin (now (with_change history change)).base.marks ≡ true
  pin_with change pins pin keeps at is = subst (λ (s : State). is_retained pin s.base.marks ≡ true) (sym (now-with history change)) (retained_after (now history).base change pins pin keeps at is)

  pub told_with : (change : Change) → KeepsNewest (now history).base change → (acked : ℕ) → acked ≤ (now history).base.captures → (told : PeekTold) → ToldFits history acked told → ToldFits (with_change history change) acked told
  told_with change keeps acked pending told f =
      let base : Base = (now history).base in
      let after : (now (with_change history change)).base ≡ base_after base change = ap (λ (s : State). s.base) (now-with history change) in
      let was : is_retained told.snapshot (now (with_change history change)).base.marks ≡ true → is_retained told.snapshot base.marks ≡ true =
      λ kept. retained_before base change told.snapshot f.known (ap (λ (b : Base). is_retained told.snapshot b.marks) (sym after) ∙ kept) in
      record {
        known = omega (arith, f.known, newest_rises base change (keeps), ap (λ (b : Base). newest b.marks) after);
        upto = f.upto;
        start = λ kept.
            f.start (was kept)
            ∙ sym (start_same base change told.snapshot fine.marks (was kept) (ap (λ (b : Base). is_retained told.snapshot b.marks) (sym after) ∙ kept))
            ∙ ap (λ (b : Base). start_of told.snapshot b.marks) (sym after);
        reads = λ kept.
            let from : told.start ≤ base.captures = omega (arith, f.start (was kept), start_within told.snapshot) in
            let same : part told.start told.upto (captures (with_change history change)) ≡ part told.start told.upto (captures history) =
            ap (take (told.upto - told.start)) (drop_with history fine change keeps told.start from)
            ∙ take-append-le (told.upto - told.start) (drop told.start (captures history)) (captured_by (now history) change) (omega (arith, length-drop told.start (captures history), count history fine, f.upto, pending)) in
            as_of_stays history (change ∷ []) told.snapshot fine (keeps, tt) f.known kept told.page
            ∙ f.reads (was kept)
            ∙ as_part (captures history) told.start told.upto told.page told.bytes
            ∙ ap (λ (l : List PageImage). over (λ p. told.bytes) l told.page) (sym same)
            ∙ sym (as_part (captures (with_change history change)) told.start told.upto told.page told.bytes);
      }

  pub told_up : (acked more : ℕ) → acked ≤ more → (told : PeekTold) → ToldFits history acked told → ToldFits history more told
  told_up acked more le told f = record { known = f.known; upto = omega (arith, f.upto, le); start = f.start; reads = f.reads }

-- images up to a number, and then those from there on or from the start on
split_at : (images : List PageImage) (from mid to : ℕ) → length images ≡ to → drop from images ≡ part from mid images ++ part (max from mid) to images
split_at images from mid to total =
    let later : part (max from mid) to images ≡ drop (max from mid) images = take_all (to - max from mid) (drop (max from mid) images) (omega (arith, length-drop (max from mid) images, total)) in
    sym (take-append-drop (mid - from) (drop from images))
    ∙ ap (λ (l : List PageImage). part from mid images ++ l) (drop-to from (mid - from) (max from mid) images (omega arith) ∙ sym later)

over-constant : (pages : ℕ → List ℕ) (images : List PageImage) (page : ℕ) → over pages images page ≡ over (λ p. pages page) images page
over-constant pages [] page = refl
over-constant pages (image ∷ images) page = ap (cond (eqb image.page page) image.bytes) (over-constant pages images page)

pub told_fits : (desk : Desk) → HistoryFits desk.history desk.floor → (snapshot page : ℕ) → is_retained snapshot (now desk.history).base.marks ≡ true → ToldFits desk.history desk.acked (told_of desk snapshot page)
told_fits desk fits snapshot page retained =
    let start : ℕ = start_of snapshot (now desk.history).base.marks in
    let images : List PageImage = captures desk.history in
    let current : List ℕ = (now desk.history).pages page in
    let later : List PageImage = part (max start desk.acked) (length images) images in
    let told : List ℕ = bytes_at images current (first_met (pages_of images) (max start desk.acked) (length images) page) in
    record {
      known = retained-newest (now desk.history).base.captures 0 0 snapshot (now desk.history).base.marks fits.consistent.marks retained;
      upto = omega arith;
      start = λ kept. refl;
      reads = λ kept.
          as_of-over desk.history snapshot page
          ∙ ap (λ (l : List PageImage). over (now desk.history).pages l page) (split_at images start desk.acked (length images) refl)
          ∙ over-append (now desk.history).pages (part start desk.acked images) later page
          ∙ over-same (over (now desk.history).pages later) (λ p. told) (part start desk.acked images) page
          (over-constant (now desk.history).pages later page ∙ sym (as_part images (max start desk.acked) (length images) page current))
          ∙ sym (as_part images start desk.acked page told);
    }

-- ---- what the vault finds

pub option_map-add : (a b c : ℕ) (o : Option ℕ) → a + b ≡ c → option_map (λ place. a + place) (option_map (λ place. b + place) o) ≡ option_map (λ place. c + place) o
option_map-add a b c None e = refl
option_map-add a b c (Some k) e = let sum : a + (b + k) ≡ c + k = omega (arith, e) in ap (λ n. Some n) sum

met_in : (vault : Vault) (capacity first i page : ℕ) (bytes : List ℕ) (rest : List PageImage) → ((j : ℕ) → j < length rest → vault.slots ((first + (i + j)) % capacity) ≡ (get_or rest j forgotten).bytes)
    → in_slot vault capacity bytes (option_map (λ place. first + place) (position_from (λ other. eqb other page) i (pages_of rest))) ≡ over (λ p. bytes) rest page
met_in vault capacity first i page bytes [] slots = refl
met_in vault capacity first i page bytes (x ∷ rest) slots =
    go (eqb x.page page)
    (met_in vault capacity first (i + 1) page bytes rest (λ j lt. ap (λ n. vault.slots ((first + n) % capacity)) (let k : (i + 1) + j ≡ i + suc j = omega arith in k) ∙ slots (suc j) (omega (arith, lt)))) where
      go : (b : Bool) → in_slot vault capacity bytes (option_map (λ place. first + place) (position_from (λ other. eqb other page) (i + 1) (pages_of rest))) ≡ over (λ p. bytes) rest page
          → in_slot vault capacity bytes (option_map (λ place. first + place) (cond b (Some i) (position_from (λ other. eqb other page) (i + 1) (pages_of rest)))) ≡ cond b x.bytes (over (λ p. bytes) rest page)
      go true again = ap (λ n. vault.slots ((first + n) % capacity)) (let k : i ≡ i + 0 = omega arith in k) ∙ slots 0 (omega arith)
      go false again = again

module _ (history : History) (floor : ℕ) (fits : HistoryFits history floor) (vault : Vault) (f : VaultFits history floor vault) where
  abbrev low : ℕ
  low = vault.mappings.low

  abbrev capacity : ℕ
  capacity = capacity_of history

  -- the mappings from one number up to another are of the captures there
  mapped_part : (from to : ℕ) → low ≤ from → to ≤ end_of vault.mappings → take ((to - low) - (from - low)) (drop (from - low) vault.mappings.pages) ≡ pages_of (part from to (captures history))
  mapped_part from to above within = elim (cases_lt (end_of vault.mappings) from) [
    | inl none ↦
        let zero_is : (to - low) - (from - low) ≡ 0 = omega (arith, none, within) in
        let zero_too : to - from ≡ 0 = omega (arith, none, within) in
        ap (λ n. take n (drop (from - low) vault.mappings.pages)) zero_is ∙ sym (ap (λ n. pages_of (take n (drop from (captures history)))) zero_too)
    | inr there ↦
        let n : (to - low) - (from - low) ≡ to - from = omega (arith, above) in
        ap (λ k. take k (drop (from - low) vault.mappings.pages)) n
        ∙ sym (take-append-le (to - from) (drop (from - low) vault.mappings.pages) f.mappings.later (omega (arith, length-drop (from - low) vault.mappings.pages, within, above)))
        ∙ ap (take (to - from)) (sym (drop-append-le (from - low) vault.mappings.pages f.mappings.later (omega (arith, there))) ∙ ap (drop (from - low)) (sym f.mappings.same) ∙ drop-to low (from - low) from (pages_of (captures history)) (omega (arith, above)))
        ∙ ap (take (to - from)) (sym (pages_of-drop from (captures history)))
        ∙ sym (pages_of-take (to - from) (drop from (captures history)))
  ]

  -- so a page's first mapping there is its first capture there
  pub first_is : (from to page : ℕ) → low ≤ from → to ≤ end_of vault.mappings → first_in vault.mappings from to page ≡ option_map (λ place. from + place) (position (λ other. eqb other page) (pages_of (part from to (captures history))))
  first_is from to page above within =
      let test : ℕ → Bool = λ other. eqb other page in
      ap (λ (ps : List ℕ). option_map (λ place. low + place) (option_map (λ place. (from - low) + place) (position test ps))) (mapped_part from to above within)
      ∙ option_map-add low (from - low) from (position test (pages_of (part from to (captures history)))) (omega (arith, above))

  pub found_is : (told : PeekTold) (acked : ℕ) → acked ≤ end_of vault.mappings → ToldFits history acked told → is_retained told.snapshot (now history).base.marks ≡ true → found vault capacity told ≡ pages_as_of history told.snapshot told.page
  found_is told acked held fit retained =
      let start : oldest_start (now history).base.marks ≤ told.start = omega (arith, fit.start retained, oldest-start (now history).base.captures 0 0 told.snapshot (now history).base.marks fits.consistent.marks retained) in
      let within : told.upto ≤ end_of vault.mappings = omega (arith, fit.upto, held) in
      let rest : List PageImage = part told.start told.upto (captures history) in
      ap (in_slot vault capacity told.bytes) (first_is told.start told.upto told.page (omega (arith, start, f.mappings.needed)) within)
      ∙ ap (λ (o : Option ℕ). in_slot vault capacity told.bytes (option_map (λ place. told.start + place) o)) (position_from-zero (λ other. eqb other told.page) (pages_of rest))
      ∙ met_in vault capacity told.start 0 told.page told.bytes rest
      (λ j lt.
      let inside : j < told.upto - told.start = omega (arith, lt, length-take (told.upto - told.start) (drop told.start (captures history))) in
      (let k : 0 + j ≡ j = omega arith in ap (λ n. vault.slots ((told.start + n) % capacity)) k)
      ∙ (f.slots (told.start + j) (omega (arith, start)) (omega (arith, inside, within, f.held))).1
      ∙ ap (λ (i : PageImage). i.bytes) (sym (get_or-take (told.upto - told.start) (drop told.start (captures history)) j forgotten inside ∙ get_or-drop told.start (captures history) j forgotten)))
      ∙ sym (as_part (captures history) told.start told.upto told.page told.bytes)
      ∙ sym (fit.reads retained)

-- ---- one world

pub same_past : (history other : History) (floor : ℕ) → HistoryFits other floor → IsSameWorld history other → (snapshot page : ℕ) → is_retained snapshot (now other).base.marks ≡ true → pages_as_of history snapshot page ≡ pages_as_of other snapshot page
same_past history other floor fits same snapshot page retained =
    let oldest : ℕ = oldest_start (now other).base.marks in
    let start : ℕ = start_of snapshot (now other).base.marks in
    let above : oldest ≤ start = oldest-start (now other).base.captures 0 0 snapshot (now other).base.marks fits.consistent.marks retained in
    as_of-over history snapshot page
    ∙ ap (λ (b : Base). over (now history).pages (drop (start_of snapshot b.marks) (captures history)) page) same.base
    ∙ ap (λ (l : List PageImage). over (now history).pages l page)
    (sym (drop-to oldest (start - oldest) start (captures history) (omega (arith, above))) ∙ ap (drop (start - oldest)) same.captures ∙ drop-to oldest (start - oldest) start (captures other) (omega (arith, above)))
    ∙ over-same (now history).pages (now other).pages (drop start (captures other)) page (same.pages page)
    ∙ sym (as_of-over other snapshot page)
