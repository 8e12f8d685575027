-- The pages as of a snapshot of a store that was opened.
use Rattle.std.proofs.Common.{◌≡◌, ◌≤◌, ◌<◌, ◌+◌, ◌-◌, ◌%◌, ◌++◌, ◌∙◌, ◌||◌, ℕ, zero, suc, Bool, true, false, cond, eqb, List, [], ◌∷◌, length, take, drop, replicate, Option, Some, None, refl, sym, ap, arith}
use Rattle.std.specs.Prelude.{slice_get, unwrap_or, option_map, position}
use Rattle.std.proofs.lemmas.List.{drop-drop, drop-append-le, drop_at, length-replicate}
use Rattle.history.specs.declared.entry.Mark.{Mark}
use Rattle.history.specs.declared.writes.PageImage.{PageImage}
use Rattle.history.specs.History.{History, now, captures, captures_of, bytes_at}
use Rattle.history.specs.Marks.{is_retained, start_of, oldest_start, MarksRise}
use Rattle.history.specs.Writes.{pages_of}
use Rattle.skippy.specs.Mappings.{end_of}
use Rattle.replay.specs.Opened.{Contents, opened, slot_images, forgotten}
use Rattle.replay.specs.Laws.{PastByFirstCapture}
use Rattle.replay.proofs.Belonging.{held_long, opened_is_consistent}

-- the start of a retained snapshot is not below the oldest one's
start_above : (captures n s number : ℕ) (marks : List Mark) → MarksRise captures n s marks → is_retained number marks ≡ true → oldest_start marks ≤ start_of number marks
start_above captures n s number [] rise is = absurd cc
start_above captures n s number (mark ∷ []) rise is = go (eqb mark.number number) is where
  go : (b : Bool) → (b || false) ≡ true → mark.start ≤ cond b mark.start 0
  go true e = omega arith
  go false e = absurd cc
start_above captures n s number (mark ∷ next ∷ marks) rise is = go (eqb mark.number number) is (start_above captures mark.number mark.start number (next ∷ marks) rise.2) where
  go : (b : Bool) → (b || is_retained number (next ∷ marks)) ≡ true → (is_retained number (next ∷ marks) ≡ true → next.start ≤ start_of number (next ∷ marks)) → mark.start ≤ cond b mark.start (start_of number (next ∷ marks))
  go true e again = omega arith
  go false e again = omega (arith, again e, rise.2.1)

-- a mapping that is met is not before where it is looked for
met_above : (from number : ℕ) (found : Option ℕ) → option_map (λ place. from + place) found ≡ Some number → from ≤ number
met_above from number None e = absurd cc
met_above from number (Some place) e = let is : from + place ≡ number = in_some (from + place) number e in omega (arith, is) where
  in_some : (a b : ℕ) → Some a ≡ Some b → a ≡ b
  in_some a b e = cc

record At (slots : ℕ → List ℕ) (capacity number : ℕ) (images : List PageImage) : Type 0 where
  image : PageImage
  rest : List PageImage
  is : images ≡ image ∷ rest
  bytes : image.bytes ≡ slots (number % capacity)

-- the capture at a place of those in the slots
slot_at : (slots : ℕ → List ℕ) (capacity first : ℕ) (pages : List ℕ) (i : ℕ) → i < length pages → At slots capacity (first + i) (drop i (slot_images slots capacity first pages))
slot_at slots capacity first [] i lt = absurd (omega arith)
slot_at slots capacity first (page ∷ pages) zero lt =
    let none : first ≡ first + 0 = omega arith in
    record { image = record { page = page; bytes = slots (first % capacity) }; rest = slot_images slots capacity (first + 1) pages; is = refl; bytes = ap (λ (n : ℕ). slots (n % capacity)) none }
slot_at slots capacity first (page ∷ pages) (suc i) lt =
    let more = slot_at slots capacity (first + 1) pages i (omega arith) in
    let sum : (first + 1) + i ≡ first + suc i = omega arith in
    record { image = more.image; rest = more.rest; is = more.is; bytes = more.bytes ∙ ap (λ (n : ℕ). slots (n % capacity)) sum }

got : (images : List PageImage) (place : ℕ) (image : PageImage) (rest : List PageImage) → drop place images ≡ image ∷ rest → slice_get images place ≡ Some image
got [] zero image rest e = absurd cc
got [] (suc place) image rest e = absurd cc
got (first ∷ images) zero image rest e = cc
got (first ∷ images) (suc place) image rest e = got images place image rest e

module _ (contents : Contents) where
  abbrev low : ℕ
  low = contents.mappings.low

  -- a capture that the archive holds has the bytes of its slot
  held_bytes : (number : ℕ) (other : List ℕ) → low ≤ number → number < end_of contents.mappings → bytes_at (captures (opened contents)) other (Some number) ≡ contents.slots (number % contents.log.base.capacity)
  held_bytes number other above within =
      let forgot : List PageImage = replicate low forgotten in
      let slots : List PageImage = slot_images contents.slots contents.log.base.capacity low contents.mappings.pages in
      let behind : List PageImage = drop (length (opened contents).held - contents.log.base.captures) (captures_of (opened contents).origin contents.log.changes) in
      let i : ℕ = number - low in
      let sum : low + i ≡ number = omega (arith, above) in
      let at = slot_at contents.slots contents.log.base.capacity low contents.mappings.pages i (omega (arith, above, within)) in
      let there : drop number (captures (opened contents)) ≡ at.image ∷ (at.rest ++ behind) =
      drop-append-le number (forgot ++ slots) behind (omega (arith, held_long contents, within))
      ∙ ap (λ (l : List PageImage). l ++ behind)
      (ap (λ (n : ℕ). drop n (forgot ++ slots)) (sym sum) ∙ sym (drop-drop i low (forgot ++ slots)) ∙ ap (drop i) (drop_at forgot slots low (length-replicate low forgotten)) ∙ at.is) in
      ap (λ (o : Option PageImage). unwrap_or (option_map (λ (image : PageImage). image.bytes) o) other) (got (captures (opened contents)) number at.image (at.rest ++ behind) there)
      ∙ at.bytes
      ∙ ap (λ (n : ℕ). contents.slots (n % contents.log.base.capacity)) sum

pub past_by_first_capture : PastByFirstCapture
past_by_first_capture contents snapshot page right retained =
    let history : History = opened contents in
    let consistent = opened_is_consistent contents right in
    let start : ℕ = start_of snapshot (now history).base.marks in
    let needed = right.joined.holds_changes.needed in
    let from : contents.mappings.low ≤ start = omega (arith, needed, start_above (now history).base.captures 0 0 snapshot (now history).base.marks consistent.marks retained) in (
      λ number met within.
          let above : contents.mappings.low ≤ number = omega (arith, from, met_above start number (position (λ other. eqb other page) (take (length (captures history) - start) (drop start (pages_of (captures history))))) met) in
          (above, ap (bytes_at (captures history) ((now history).pages page)) met ∙ held_bytes contents number ((now history).pages page) above within),
      λ none. ap (bytes_at (captures history) ((now history).pages page)) none,
    )
