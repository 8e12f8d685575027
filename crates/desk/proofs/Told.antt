-- What a reader is told, and what a batch takes.
use Rattle.std.proofs.Common.{◌≡◌, ◌∙◌, ◌≤◌, ◌<◌, ◌+◌, ◌-◌, ◌||◌, inl, inr, ℕ, suc, Bool, true, false, cond, eqb, List, [], ◌∷◌, length, take, drop, get_or, refl, sym, ap, arith, length-drop, length-take, ◌⊎◌}
use Rattle.std.specs.Prelude.{Option, Some, None, max, min, unwrap_or, position, ◌==◌}
use Rattle.std.specs.Option.{option_map}
use Rattle.std.proofs.lemmas.Bool.{both_ways, cases_eq, cases_lt, ne_eqb, eq-eqb}
use Rattle.std.proofs.lemmas.List.{take_all, get_or-drop}
use Rattle.std.proofs.lemmas.List.Quantifiers.{position-Some}
use Rattle.std.proofs.lemmas.Option.{slice_get-get_or}
use Rattle.disk_model.specs.Disk.{State}
use Rattle.retro_base.specs.FirstMet.{first_met}
use Rattle.retro_base.specs.declared.limits.TheConstants.{BATCH}
use Rattle.history.specs.declared.entry.Base.{Base}
use Rattle.history.specs.declared.entry.Mark.{Mark}
use Rattle.history.specs.declared.writes.PageImage.{PageImage}
use Rattle.history.specs.Marks.{is_retained, oldest, oldest_start, start_of}
use Rattle.history.specs.Writes.{pages_of}
use Rattle.history.specs.History.{now, captures, bytes_at}
use Rattle.history.proofs.Consistent.{captures_are_counted}
use Rattle.records.specs.Entries.{IsNumberedFrom}
use Rattle.replay.specs.Opened.{forgotten}
use Rattle.copy_queue.specs.Pending.{Pending}
use Rattle.race_model.specs.Desk.{Desk}
use Rattle.race_model.specs.Fits.{DeskFits}
use Rattle.race_model.specs.Machine.{batch_of, MayTake}
use Rattle.race_model.specs.Reading.{told_of}
use Rattle.race_model.specs.Vault.{Batch}
use Rattle.race_model.proofs.Lists.{drop-to, pages_of-drop, pages_of-length}
use Rattle.desk.specs.declared.desk.RunningDesk.{RunningDesk}
use Rattle.desk.specs.Desk.{IsDesk, pending_of}
use Rattle.desk.specs.Steps.{next_of}
use Rattle.desk.proofs.Steps.{counted}

-- ---- the start of a retained snapshot

pub record StartsAt (first number : ℕ) (marks : List Mark) : Type 0 where
  pub from : first ≤ number
  pub within : number - first < length marks
  pub start : (d : Mark) → (get_or marks (number - first) d).start ≡ start_of number marks

pub starts_at : (first number : ℕ) (marks : List Mark) → IsNumberedFrom first marks → is_retained number marks ≡ true → StartsAt first number marks
starts_at first number [] numbered retained = absurd cc
starts_at first number (mark ∷ marks) numbered retained = elim (cases_eq mark.number number) [
  | inl same ↦
      let none : number - first ≡ 0 = omega (arith, same, numbered.0) in
      record {
        from = omega (arith, same, numbered.0);
        within = omega (arith, none);
        start = λ d. ap (λ (n : ℕ). (get_or (mark ∷ marks) n d).start) none ∙ sym (ap (λ (b : Bool). cond b mark.start (start_of number marks)) (eq-eqb mark.number number same));
      }
  | inr other ↦
      let later = starts_at (first + 1) number marks numbered.1 (rest (eqb mark.number number) (ne_eqb mark.number number other) retained) in
      let more : number - first ≡ suc (number - (first + 1)) = omega (arith, later.from) in
      record {
        from = omega (arith, later.from);
        within = omega (arith, later.from, later.within);
        start = λ d. ap (λ (n : ℕ). (get_or (mark ∷ marks) n d).start) more ∙ later.start d ∙ sym (ap (λ (b : Bool). cond b mark.start (start_of number marks)) (ne_eqb mark.number number other));
      }
]
  where
    rest : (b : Bool) → b ≡ false → b || is_retained number marks ≡ true → is_retained number marks ≡ true
    rest true never e = absurd (both_ways true never refl)
    rest false same e = e

pub oldest_numbered : (number : ℕ) (marks : List Mark) → IsNumberedFrom (oldest marks) marks → is_retained number marks ≡ true → StartsAt (oldest marks) number marks
oldest_numbered number marks = starts_at (oldest marks) number marks

-- ---- the first pending capture of a page

mapped : (a b c : ℕ) (o : Option ℕ) → a ≡ b + c → option_map (λ place. a + place) o ≡ option_map (λ place. b + place) (option_map (λ place. c + place) o)
mapped a b c None same = refl
mapped a b c (Some place) same = ap Some (omega (arith, same))

-- the first from a number on is the first among those from an earlier number on
met_behind : (pages : List ℕ) (acked start page : ℕ) → acked ≤ length pages
    → first_met pages (max start acked) (length pages) page ≡ option_map (λ place. acked + place) (first_met (drop acked pages) (start - acked) (length (drop acked pages)) page)
met_behind pages acked start page le =
    let test : ℕ → Bool = λ other. other == page in
    mapped (max start acked) acked (start - acked) (position test (take (length pages - max start acked) (drop (max start acked) pages))) (omega arith)
    ∙ ap (λ (l : List ℕ). option_map (λ place. acked + place) (option_map (λ place. (start - acked) + place) (position test (take (length pages - max start acked) l)))) (sym (drop-to acked (start - acked) (max start acked) pages (omega arith)))
    ∙ ap (λ (n : ℕ). option_map (λ place. acked + place) (option_map (λ place. (start - acked) + place) (position test (take n (drop (start - acked) (drop acked pages))))))
    (let same : length pages - max start acked ≡ length (drop acked pages) - (start - acked) = omega (arith, length-drop acked pages) in same)

-- a capture that is met is there
met_within : (pages : List ℕ) (from to page place : ℕ) → to ≤ length pages → first_met pages from to page ≡ Some place → place < to
met_within pages from to page place le met = go (position (λ other. other == page) (take (to - from) (drop from pages))) refl met where
  go : (o : Option ℕ) → position (λ other. other == page) (take (to - from) (drop from pages)) ≡ o → option_map (λ p. from + p) o ≡ Some place → place < to
  go None is e = absurd cc
  go (Some p) is e =
      let at = position-Some (λ (other : ℕ). other == page) (take (to - from) (drop from pages)) p 0 is in
      let same : from + p ≡ place = cc in
      omega (arith, at.0, same, length-take (to - from) (drop from pages), length-drop from pages)

pub found_within : (queue : Pending) (from page place : ℕ) → first_met (pages_of queue.images) from (length queue.images) page ≡ Some place → place < length queue.images
found_within queue from page place met = met_within (pages_of queue.images) from (length queue.images) page place (omega (arith, pages_of-length queue.images)) met

met_pending : (images : List PageImage) (acked start page : ℕ) → acked ≤ length images
    → first_met (pages_of images) (max start acked) (length images) page ≡ option_map (λ place. acked + place) (first_met (pages_of (drop acked images)) (start - acked) (length (drop acked images)) page)
met_pending images acked start page le =
    ap (λ (n : ℕ). first_met (pages_of images) (max start acked) n page) (sym (pages_of-length images))
    ∙ met_behind (pages_of images) acked start page (omega (arith, le, pages_of-length images))
    ∙ ap (λ (n : ℕ). option_map (λ place. acked + place) (first_met (drop acked (pages_of images)) (start - acked) n page)) (ap (λ (l : List ℕ). length l) (sym (pages_of-drop acked images)) ∙ pages_of-length (drop acked images))
    ∙ ap (λ (l : List ℕ). option_map (λ place. acked + place) (first_met l (start - acked) (length (drop acked images)) page)) (sym (pages_of-drop acked images))

-- its bytes are those among the pending, or these
bytes_pending : (images : List PageImage) (bytes : List ℕ) (acked : ℕ) (o : Option ℕ) → ((place : ℕ) → o ≡ Some place → place < length (drop acked images)) → bytes_at images bytes (option_map (λ place. acked + place) o) ≡ bytes_at (drop acked images) bytes o
bytes_pending images bytes acked None within = refl
bytes_pending images bytes acked (Some place) within =
    let lt = within place refl in
    ap (λ (o : Option PageImage). unwrap_or (option_map (λ image. image.bytes) o) bytes)
    (slice_get-get_or images (acked + place) forgotten (omega (arith, lt, length-drop acked images)) ∙ ap Some (sym (get_or-drop acked images place forgotten)) ∙ sym (slice_get-get_or (drop acked images) place forgotten lt))

told_bytes : (images : List PageImage) (bytes : List ℕ) (acked start page : ℕ) → acked ≤ length images
    → bytes_at images bytes (first_met (pages_of images) (max start acked) (length images) page) ≡ bytes_at (drop acked images) bytes (first_met (pages_of (drop acked images)) (start - acked) (length (drop acked images)) page)
told_bytes images bytes acked start page le =
    ap (bytes_at images bytes) (met_pending images acked start page le)
    ∙ bytes_pending images bytes acked (first_met (pages_of (drop acked images)) (start - acked) (length (drop acked images)) page)
    (λ place met. met_within (pages_of (drop acked images)) (start - acked) (length (drop acked images)) page place (omega (arith, pages_of-length (drop acked images))) met)

module _ {D : Type 0} (honest : D → Type 0) (state : D → State) (old : RunningDesk D) (desk : Desk) (is : IsDesk honest state old desk) (f : DeskFits desk) (told : honest old.pool.file.disk) (snapshot page : ℕ) where
  abbrev met : Option ℕ
  met = first_met (pages_of old.queue.images) (start_of snapshot old.base.marks - old.queue.first) (length old.queue.images) page

  told_is : (told_of desk snapshot page).bytes ≡ bytes_at old.queue.images ((now desk.history).pages page) met
  told_is =
      told_bytes (captures desk.history) ((now desk.history).pages page) desk.acked (start_of snapshot (now desk.history).base.marks) page (omega (arith, f.pending, captures_are_counted desk.history f.history.consistent))
      ∙ ap (λ (l : List PageImage). bytes_at l ((now desk.history).pages page) (first_met (pages_of l) (start_of snapshot (now desk.history).base.marks - desk.acked) (length l) page)) (sym (is.bytes told))
      ∙ ap (λ (n : ℕ). bytes_at old.queue.images ((now desk.history).pages page) (first_met (pages_of old.queue.images) (start_of snapshot (now desk.history).base.marks - n) (length old.queue.images) page)) (sym is.first)
      ∙ ap (λ (b : Base). bytes_at old.queue.images ((now desk.history).pages page) (first_met (pages_of old.queue.images) (start_of snapshot b.marks - old.queue.first) (length old.queue.images) page)) (sym is.base)

  pub told_capture : (place : ℕ) (image : PageImage) → met ≡ Some place → image ≡ get_or old.queue.images place image → image.bytes ≡ (told_of desk snapshot page).bytes
  told_capture place image is_met at =
      ap (λ (i : PageImage). i.bytes) at
      ∙ ap (λ (o : Option PageImage). unwrap_or (option_map (λ i. i.bytes) o) ((now desk.history).pages page)) (sym (slice_get-get_or old.queue.images place image (found_within old.queue _ page place is_met)))
      ∙ ap (bytes_at old.queue.images ((now desk.history).pages page)) (sym is_met) ∙ sym told_is

  pub told_page : (bytes : List ℕ) → met ≡ None → bytes ≡ (now desk.history).pages page → bytes ≡ (told_of desk snapshot page).bytes
  told_page bytes none same = same ∙ ap (bytes_at old.queue.images ((now desk.history).pages page)) (sym none) ∙ sym told_is

-- ---- the next batch

taken : {X : Type 0} (limit : ℕ) (xs : List X) → take limit xs ≡ take (min limit (length xs)) xs
taken limit xs = go (cases_lt limit (length xs)) where
  go : (limit < length xs) ⊎ (length xs ≤ limit) → take limit xs ≡ take (min limit (length xs)) xs
  go (inl lt) = ap (λ (n : ℕ). take n xs) (omega (arith, lt))
  go (inr le) = take_all limit xs le ∙ sym (take_all (min limit (length xs)) xs (omega (arith, le)))

module _ {D : Type 0} (honest : D → Type 0) (state : D → State) (running : RunningDesk D) (desk : Desk) (is : IsDesk honest state running desk) (f : DeskFits desk) where
  pub takes : honest running.pool.file.disk → 0 < length running.queue.images → (batch : Batch) → batch ≡ next_of running.base running.queue → (count : ℕ) × MayTake desk count × (batch ≡ batch_of desk count)
  takes told some batch same = (
    min BATCH (length running.queue.images),
    record { some = omega (arith, some); few = omega arith; there = omega (arith, counted honest state running desk is f, is.first, ap (λ (b : Base). b.captures) is.base) },
    same
        ∙ ap (λ (l : List PageImage). let b : Batch = record { first = running.queue.first; low = min (oldest_start running.base.marks) running.queue.first; images = l } in b)
        (taken BATCH running.queue.images ∙ ap (take (min BATCH (length running.queue.images))) (is.bytes told))
        ∙ ap (λ (n : ℕ). let b : Batch = record { first = n; low = min (oldest_start running.base.marks) n; images = take (min BATCH (length running.queue.images)) (pending_of desk) } in b) is.first
        ∙ ap (λ (x : Base). let b : Batch = record { first = desk.acked; low = min (oldest_start x.marks) desk.acked; images = take (min BATCH (length running.queue.images)) (pending_of desk) } in b) is.base,
  )

  pub takes_none : length running.queue.images ≤ 0 → (count : ℕ) → MayTake desk count → ⊥
  takes_none none count may = omega (arith, none, may.some, may.there, counted honest state running desk is f, is.first, ap (λ (b : Base). b.captures) is.base)

-- ---- what tests say of lengths

pub none_there : (n : ℕ) (b : Bool) → b ≡ (n == 0) → b ≡ true → n ≤ 0
none_there n b is e = elim (cases_eq n 0) [ inl same ↦ omega (arith, same) | inr other ↦ absurd (both_ways b (is ∙ ne_eqb n 0 other) e) ]

pub some_there : (n : ℕ) (b : Bool) → b ≡ (n == 0) → b ≡ false → 0 < n
some_there n b is e = elim (cases_eq n 0) [ inl same ↦ absurd (both_ways b e (is ∙ eq-eqb n 0 same)) | inr other ↦ omega (arith, other) ]

-- what was filled is the front
pub filled : {X : Type 0} (place end limit : ℕ) (xs : List X) → end ≡ min (length xs) limit → end ≤ place → place ≤ end → take place xs ≡ take limit xs
filled place end limit xs is from to = ap (λ (n : ℕ). take n xs) (omega (arith, is, from, to)) ∙ sym (taken limit xs)

-- what was met from the start
pub met_is : (queue : Pending) (from start page : ℕ) (found o : Option ℕ) → from ≡ start → found ≡ first_met (pages_of queue.images) (from - queue.first) (length queue.images) page → found ≡ o
    → first_met (pages_of queue.images) (start - queue.first) (length queue.images) page ≡ o
met_is queue from start page found o same met is = ap (λ (n : ℕ). first_met (pages_of queue.images) (n - queue.first) (length queue.images) page) (sym same) ∙ sym met ∙ is
