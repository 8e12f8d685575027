-- A book with one line more, and its table of last changes.
use Rattle.std.proofs.Common.{◌≡◌, ◌∙◌, ◌<◌, ◌≤◌, ◌+◌, ◌-◌, ◌||◌, ◌&&◌, not, ℕ, zero, suc, Bool, true, false, cond, eqb, ltb, List, [], ◌∷◌, ◌++◌, length, drop, set, get_or, Option, Some, None, refl, sym, ap, subst, arith, length-append}
use Rattle.std.specs.Option.{option_or}
use Rattle.std.specs.List.{AllByRecursion}
use Rattle.std.proofs.lemmas.List.{get_or-set_same, get_or-set_other, get_or-drop, length-set, drop_more}
use Rattle.std.proofs.lemmas.Bool.{eqb-true, eqb-false}
use Rattle.std.proofs.lemmas.Bool.Decides.{nat_tests}
use Rattle.retro_base.specs.declared.limits.TheConstants.{JOURNAL_IMAGES, WORKER_LINES}
use Rattle.retro_base.specs.declared.who.Who.{Who}
use Rattle.history.specs.declared.journal.Line.{Line}
use Rattle.history.specs.declared.journal.What.{What}
use Rattle.history.specs.declared.journal.What.TheVariants.{Began, Done, Overlapped, RolledBack, Looked, LookedAll, Unlooked, Dropped, Refused, Fault}
use Rattle.history.specs.declared.stop.Stop.{Stop}
use Rattle.history.specs.declared.writes.PageImage.{PageImage}
use Rattle.history.specs.LineLaws.{NoCommitOf}
use Rattle.history.specs.Lines.{images_of, images_in, changes_page, change_by, last_change, changed_since, stop_of, first_stop}
use Rattle.history.specs.Sound.{same_item}
use Rattle.history.specs.Writes.{pages_of, is_among}
use Rattle.history.proofs.Items.{apart_items}
use Rattle.history.proofs.Lines.{images_in_one_more, first_stop_in_one_more}
use Rattle.journal_book.specs.Book.{Book, writes_of, change_end, AreEnds, marked, IsBook}

abbrev book : ℕ → List Line → ℕ → ℕ → Book
book pages lines kept workers = record { pages = pages; lines = lines; kept = kept; workers = workers }

pub changes_by_writes : (page : ℕ) (what : What) → changes_page page what ≡ is_among page (pages_of (writes_of what))
changes_by_writes page Began = refl
changes_by_writes page (Done label writes) = refl
changes_by_writes page (Overlapped session item) = refl
changes_by_writes page RolledBack = refl
changes_by_writes page (Looked snapshot) = refl
changes_by_writes page LookedAll = refl
changes_by_writes page Unlooked = refl
changes_by_writes page (Dropped below) = refl
changes_by_writes page (Refused why) = refl
changes_by_writes page (Fault device count call) = refl

pub images_by_writes : (what : What) → images_of what ≡ length (writes_of what)
images_by_writes Began = refl
images_by_writes (Done label writes) = refl
images_by_writes (Overlapped session item) = refl
images_by_writes RolledBack = refl
images_by_writes (Looked snapshot) = refl
images_by_writes LookedAll = refl
images_by_writes Unlooked = refl
images_by_writes (Dropped below) = refl
images_by_writes (Refused why) = refl
images_by_writes (Fault device count call) = refl

above : (n : ℕ) (c : ℕ) → cond (ltb 0 (n + 1)) (n + 1 + 1) c ≡ suc n + 1
above n c = grind (arith, nat_tests)

pub end_in_one_more : (page : ℕ) (lines : List Line) (line : Line) → change_end page (lines ++ line ∷ []) ≡ cond (changes_page page line.what) (length lines + 1) (change_end page lines)
end_in_one_more page [] line = refl
end_in_one_more page (first ∷ lines) line = go (changes_page page line.what) (end_in_one_more page lines line) where
  rest : ℕ → ℕ
  rest n = cond (ltb 0 n) (n + 1) (cond (changes_page page first.what) 1 0)

  go : (b : Bool) → change_end page (lines ++ line ∷ []) ≡ cond b (length lines + 1) (change_end page lines)
      → rest (change_end page (lines ++ line ∷ [])) ≡ cond b (length (first ∷ lines) + 1) (rest (change_end page lines))
  go true e = ap rest e ∙ above (length lines) (cond (changes_page page first.what) 1 0)
  go false e = ap rest e

pub length-marked : (ends : List ℕ) (place : ℕ) (writes : List PageImage) → length (marked ends place writes) ≡ length ends
length-marked ends place [] = refl
length-marked ends place (write ∷ writes) = length-marked (set ends write.page place) place writes ∙ length-set ends write.page place

pub set_at_page : (ends : List ℕ) (place page other : ℕ) (b : Bool) → eqb other page ≡ b → page < length ends → get_or (set ends other place) page 0 ≡ cond b place (get_or ends page 0)
set_at_page ends place page other true e inside = rw (eqb-true other page e) (get_or-set_same ends page place 0 inside)
set_at_page ends place page other false e inside = get_or-set_other ends other page place 0 (λ same. eqb-false other page e (sym same))

pub marked_at : (ends : List ℕ) (place page : ℕ) (writes : List PageImage) → page < length ends
    → get_or (marked ends place writes) page 0 ≡ cond (is_among page (pages_of writes)) place (get_or ends page 0)
marked_at ends place page [] inside = refl
marked_at ends place page (write ∷ writes) inside =
    marked_at (set ends write.page place) place page writes (omega (arith, length-set ends write.page place))
    ∙ go (eqb write.page page) refl (is_among page (pages_of writes)) where
      go : (b : Bool) → eqb write.page page ≡ b → (c : Bool) → cond c place (get_or (set ends write.page place) page 0) ≡ cond (b || c) place (get_or ends page 0)
      go true e true = refl
      go true e false = set_at_page ends place page write.page true e inside
      go false e true = refl
      go false e false = set_at_page ends place page write.page false e inside

pub mark_more : (ends : List ℕ) (place : ℕ) (writes : List PageImage) (i : ℕ) (write : PageImage) → i < length writes → write ≡ get_or writes i write
    → marked (set ends write.page place) place (drop (i + 1) writes) ≡ marked ends place (drop i writes)
mark_more ends place writes i write lt is = ap (λ (ws : List PageImage). marked ends place ws) (ap (λ (w : PageImage). w ∷ drop (i + 1) writes) is ∙ sym (drop_more writes i write lt))

pub all-drop : (P : PageImage → Type 0) (i : ℕ) (writes : List PageImage) → AllByRecursion P writes → AllByRecursion P (drop i writes)
all-drop P zero writes all = all
all-drop P (suc i) [] all = tt
all-drop P (suc i) (write ∷ writes) all = all-drop P i writes all.1

pub ends_more : (ends : List ℕ) (lines : List Line) (line : Line) → AreEnds ends lines → AreEnds (marked ends (length lines + 1) (writes_of line.what)) (lines ++ line ∷ [])
ends_more ends lines line are page inside =
    let within : page < length ends = omega (arith, length-marked ends (length lines + 1) (writes_of line.what)) in
    marked_at ends (length lines + 1) page (writes_of line.what) within
    ∙ ap (λ (n : ℕ). cond (is_among page (pages_of (writes_of line.what))) (length lines + 1) n) (are page within)
    ∙ ap (λ (b : Bool). cond b (length lines + 1) (change_end page lines)) (sym (changes_by_writes page line.what))
    ∙ sym (end_in_one_more page lines line)

pub end_within : (page : ℕ) (lines : List Line) → change_end page lines ≤ length lines
end_within page [] = omega arith
end_within page (first ∷ lines) = go (changes_page page first.what) (change_end page lines) (end_within page lines) where
  go : (b : Bool) (n : ℕ) → n ≤ length lines → cond (ltb 0 n) (n + 1) (cond b 1 0) ≤ suc (length lines)
  go b n le = grind (arith, nat_tests)

end-drop : (page place : ℕ) (lines : List Line) → change_end page (drop place lines) ≡ change_end page lines - place
end-drop page zero lines = omega arith
end-drop page (suc place) [] = omega arith
end-drop page (suc place) (first ∷ lines) = end-drop page place lines ∙ go (changes_page page first.what) (change_end page lines) where
  go : (b : Bool) (n : ℕ) → n - place ≡ cond (ltb 0 n) (n + 1) (cond b 1 0) - suc place
  go true n = grind (arith, nat_tests)
  go false n = grind (arith, nat_tests)

-- where no line changes the page there is no last change
none_last : (who : Who) (page : ℕ) (lines : List Line) → change_end page lines ≡ 0 → last_change who page lines ≡ None
none_last who page [] e = refl
none_last who page (first ∷ lines) e =
    let both = parts (changes_page page first.what) (change_end page lines) e in
    ap (λ (o : Option Who). option_or o (change_by who page first)) (none_last who page lines both.0)
    ∙ ap (λ (b : Bool). cond (b && not (same_item first.who who)) (Some first.who) None) both.1
  where
    parts : (b : Bool) (n : ℕ) → cond (ltb 0 n) (n + 1) (cond b 1 0) ≡ 0 → (n ≡ 0) × (b ≡ false)
    parts true n e = absurd (grind (arith, nat_tests))
    parts false n e = (grind (arith, nat_tests), refl)

commits : (page : ℕ) (what : What) → changes_page page what ≡ true → (label : Option (List ℕ)) × (writes : List PageImage) × (what ≡ Done label writes)
commits page (Done label writes) e = (label, writes, refl)
commits page Began e = absurd cc
commits page (Overlapped session item) e = absurd cc
commits page RolledBack e = absurd cc
commits page (Looked snapshot) e = absurd cc
commits page LookedAll e = absurd cc
commits page Unlooked e = absurd cc
commits page (Dropped below) e = absurd cc
commits page (Refused why) e = absurd cc
commits page (Fault device count call) e = absurd cc

-- else it is the line at the place before the end
some_last : (who : Who) (page : ℕ) (lines : List Line) (d : Line) → NoCommitOf who lines → 0 < change_end page lines
    → last_change who page lines ≡ Some (get_or lines (change_end page lines - 1) d).who
some_last who page [] d own some = absurd (omega arith)
some_last who page (first ∷ lines) d own some = go (changes_page page first.what) refl (change_end page lines) refl some (some_last who page lines d own.1) where
  far : (b : Bool) (m : ℕ) → cond (ltb 0 (suc m)) (suc m + 1) (cond b 1 0) - 1 ≡ suc m
  far b m = grind (arith, nat_tests)

  go : (b : Bool) → changes_page page first.what ≡ b → (n : ℕ) → change_end page lines ≡ n → 0 < cond (ltb 0 n) (n + 1) (cond b 1 0)
      → (0 < change_end page lines → last_change who page lines ≡ Some (get_or lines (change_end page lines - 1) d).who)
      → option_or (last_change who page lines) (change_by who page first) ≡ Some (get_or (first ∷ lines) (cond (ltb 0 n) (n + 1) (cond b 1 0) - 1) d).who
  go false e zero f lt again = absurd (omega (arith, lt))
  go true e zero f lt again =
      let which = commits page first.what e in
      let other : same_item first.who who ≡ false = apart_items first.who who (λ is. own.0 which.0 which.1 is which.2) in
      ap (λ (o : Option Who). option_or o (change_by who page first)) (none_last who page lines f)
      ∙ ap (λ (b : Bool). cond (b && not (same_item first.who who)) (Some first.who) None) e
      ∙ ap (λ (b : Bool). cond (not b) (Some first.who) None) other
  go b e (suc m) f lt again =
      ap (λ (o : Option Who). option_or o (change_by who page first)) (again (omega (arith, f)))
      ∙ ap (λ (n : ℕ). Some (get_or lines (n - 1) d).who) f
      ∙ ap (λ (n : ℕ). Some (get_or lines n d).who) (omega arith)
      ∙ ap (λ (n : ℕ). Some (get_or (first ∷ lines) n d).who) (sym (far b m))

pub since_none : (who : Who) (page place : ℕ) (lines : List Line) → change_end page lines ≤ place → changed_since who page place lines ≡ None
since_none who page place lines le = none_last who page (drop place lines) (end-drop page place lines ∙ omega arith)

pub since_some : (who : Who) (page place : ℕ) (lines : List Line) (d : Line) → NoCommitOf who (drop place lines) → place < change_end page lines
    → changed_since who page place lines ≡ Some (get_or lines (change_end page lines - 1) d).who
since_some who page place lines d own lt =
    let e : change_end page (drop place lines) ≡ change_end page lines - place = end-drop page place lines in
    some_last who page (drop place lines) d own (omega (arith, e))
    ∙ ap (λ (n : ℕ). Some (get_or (drop place lines) (n - 1) d).who) e
    ∙ ap (λ (l : Line). Some l.who) (get_or-drop place lines (change_end page lines - place - 1) d)
    ∙ ap (λ (n : ℕ). Some (get_or lines n d).who) (omega arith)

pub book_pushed : (lines new : List Line) (line : Line) (capacity images kept workers new_capacity new_kept new_workers : ℕ) (stop new_stop : Option Stop) (ends new_ends : List ℕ) (writes : List PageImage)
    → IsBook lines capacity images kept workers stop ends → new_kept + new_workers + 1 ≤ kept + workers → new_workers ≤ WORKER_LINES → capacity ≤ new_capacity
    → images_in lines + length (writes_of line.what) ≤ JOURNAL_IMAGES
    → new ≡ lines ++ line ∷ [] → writes ≡ writes_of line.what → new_stop ≡ option_or stop (stop_of line.what) → new_ends ≡ marked ends (length lines + 1) writes
    → IsBook new new_capacity (images + length writes) new_kept new_workers new_stop new_ends
book_pushed lines new line capacity images kept workers new_capacity new_kept new_workers stop new_stop ends new_ends writes is room two more few items written first marks =
    let count : length new ≡ length lines + 1 = ap (λ (l : List Line). length l) items ∙ length-append lines (line ∷ []) in
    let total : images_in new ≡ images_in lines + images_of line.what = ap images_in items ∙ images_in_one_more lines line in
    let few_writes : length writes ≡ length (writes_of line.what) = ap (λ (l : List PageImage). length l) written in
    record {
      counted = omega (arith, is.counted, total, images_by_writes line.what);
      within = omega (arith, is.counted, few);
      memory = omega (arith, count, is.memory);
      places = omega (arith, count, is.places);
      two_workers = two;
      stops = first ∙ ap (λ (o : Option Stop). option_or o (stop_of line.what)) is.stops ∙ sym (first_stop_in_one_more lines line) ∙ ap first_stop (sym items);
      changes = subst (λ (l : List Line). AreEnds new_ends l) (sym items)
          (subst (λ (e : List ℕ). AreEnds e (lines ++ line ∷ [])) (sym (marks ∙ ap (marked ends (length lines + 1)) written)) (ends_more ends lines line is.changes));
    }

pub pages_pushed : (ends new_ends : List ℕ) (place : ℕ) (writes : List PageImage) → new_ends ≡ marked ends place writes → length new_ends ≡ length ends
pages_pushed ends new_ends place writes e = ap (λ (l : List ℕ). length l) e ∙ length-marked ends place writes

pub book_is : (pages other : ℕ) (lines more : List Line) (kept workers : ℕ) → pages ≡ other → lines ≡ more → book pages lines kept workers ≡ book other more kept workers
book_is pages other lines more kept workers p e = cc
