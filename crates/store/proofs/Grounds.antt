-- The pages that a store was opened with, now and at each retained snapshot, are those of the history that it was opened to.
use Rattle.std.proofs.Common.{◌≡◌, ◌<◌, ◌≤◌, ◌%◌, ◌-◌, ◌==◌, ◌∙◌, ℕ, Bool, true, false, cond, eqb, List, [], ◌∷◌, drop, get_or, length, map, Option, Some, None, refl, sym, ap, subst, inl, arith}
use Rattle.std.specs.Prelude.{unwrap_or}
use Rattle.std.specs.List.{AllByRecursion}
use Rattle.std.specs.Option.{option_map}
use Rattle.std.proofs.lemmas.Bool.Decides.{nat_tests}
use Rattle.std.proofs.lemmas.List.{take_rest}
use Rattle.std.proofs.lemmas.Option.{slice_get-get_or}
use Rattle.retro_base.specs.FirstMet.{first_met}
use Rattle.disk_model.specs.Disk.{State}
use Rattle.history.specs.declared.entry.Base.{Base}
use Rattle.history.specs.declared.entry.Mark.{Mark as MarkOf}
use Rattle.history.specs.declared.writes.PageImage.{PageImage}
use Rattle.history.specs.History.{History, bytes_at, now, pages_as_of}
use Rattle.history.specs.Journal.{after_journal}
use Rattle.history.specs.Marks.{AreMarks, MarksRise, is_retained, start_of}
use Rattle.history.specs.Sound.{IsSound}
use Rattle.history.specs.Writes.{pages_of}
use Rattle.history.proofs.AsOf.{over}
use Rattle.history.proofs.Captures.{with_changes-none}
use Rattle.journal_law.specs.Pages.{Pages}
use Rattle.journal_law.specs.World.{Mark}
use Rattle.race_model.specs.Desk.{Desk, capacity_of}
use Rattle.race_model.specs.Fits.{VaultFits}
use Rattle.race_model.specs.Reading.{in_slot, told_of}
use Rattle.race_model.specs.Vault.{Vault, listing}
use Rattle.race_model.proofs.Apart.{past_over_lines}
use Rattle.race_model.proofs.Readings.{as_part}
use Rattle.replay.specs.Opened.{forgotten}
use Rattle.desk.proofs.Told.{found_within, told_capture, told_page}
use Rattle.skippy.specs.Mappings.{end_of, first_in}
use Rattle.archive.specs.Archive.{Running}
use Rattle.archive.proofs.Finding.{shows_first}
use Rattle.store_core.specs.declared.desk_core.Core.{Core}
use Rattle.store_core.specs.Core.{IsCore}
use Rattle.store.specs.Start.{AreJustOpened}
use Rattle.store.proofs.Finding.{some_is}
use Rattle.store.proofs.Reading.{above_low}
use Rattle.store.specs.Ground.{first_image, pages_of_core, past_of, slot_or, world_of}
use Rattle.store.specs.Worlds.{AreMarksOf, IsWorldOf}
use Rattle.store.proofs.ReadGiven.{pages_are}
use Rattle.store.proofs.Worlds.{all_both, all_more, self_retained}

-- ---- the first image of a page

first_over : (page : ℕ) (bytes : List ℕ) (images : List PageImage) → first_image page bytes images ≡ over (λ p. bytes) images page
first_over page bytes [] = refl
first_over page bytes (x ∷ images) = ap (cond (eqb x.page page) x.bytes) (first_over page bytes images)

first_met_image : (page : ℕ) (bytes : List ℕ) (k : ℕ) (images : List PageImage) → first_image page bytes (drop k images) ≡ bytes_at images bytes (first_met (pages_of images) k (length images) page)
first_met_image page bytes k images =
    first_over page bytes (drop k images)
    ∙ (ap (λ (l : List PageImage). over (λ p. bytes) l page) (sym (take_rest images k)) ∙ sym (as_part images k (length images) page bytes))

-- ---- the starts of marks

-- the start of each mark is that of its number
starts_own : (c n s : ℕ) (ms : List MarkOf) → MarksRise c n s ms → AllByRecursion (λ (m : MarkOf). (n < m.number) × (start_of m.number ms ≡ m.start)) ms
starts_own c n s [] rise = tt
starts_own c n s (m ∷ ms) rise = ((rise.0, here), all_more _ _ ms later (starts_own c m.number m.start ms rise.2)) where
  here : start_of m.number (m ∷ ms) ≡ m.start
  here =
      let same : (m.number == m.number) ≡ true = grind (arith, nat_tests) in
      ap (λ (b : Bool). cond b m.start (start_of m.number ms)) same

  later : (x : MarkOf) → (m.number < x.number) × (start_of x.number ms ≡ x.start) → (n < x.number) × (start_of x.number (m ∷ ms) ≡ x.start)
  later x e =
      let low = rise.0 in
      let up = e.0 in
      let apart : (m.number == x.number) ≡ false = grind (arith, nat_tests, up) in
      (omega (arith, low, up), ap (λ (b : Bool). cond b m.start (start_of x.number ms)) apart ∙ e.1)

-- ---- what the desk has in memory of a page as of a snapshot

module _ {D : Type 0} (is_honest : D → Type 0) (state : D → State) (opening : History) (core : Core D) (plain : Desk) (is : IsCore is_honest state opening core plain) (honest : is_honest core.desk.pool.file.disk) (n page : ℕ) where
  abbrev From : ℕ
  From = start_of n core.desk.base.marks - core.desk.queue.first

  abbrev Now : List ℕ
  Now = pages_of_core state core page

  abbrev Met : Option ℕ
  Met = first_met (pages_of core.desk.queue.images) From (length core.desk.queue.images) page

  told_bytes : first_image page Now (drop From core.desk.queue.images) ≡ (told_of plain n page).bytes
  told_bytes = first_met_image page Now From core.desk.queue.images ∙ at Met refl where
    at : (m : Option ℕ) → Met ≡ m → bytes_at core.desk.queue.images Now m ≡ (told_of plain n page).bytes
    at None e = told_page is_honest state core.desk plain is.is is.fits honest n page Now e (pages_are is_honest state opening core plain is honest page)
    at (Some place) e =
        let within : place < length core.desk.queue.images = found_within core.desk.queue From page place e in
        let image : PageImage = get_or core.desk.queue.images place forgotten in
        let there = slice_get-get_or core.desk.queue.images place forgotten within in
        ap (λ (o : Option PageImage). unwrap_or (option_map (λ (i : PageImage). i.bytes) o) Now) there
        ∙ told_capture is_honest state core.desk plain is.is is.fits honest n page place image e (some_is image (get_or core.desk.queue.images place image) (sym there ∙ slice_get-get_or core.desk.queue.images place image within))

-- ---- a core and an archive that were just opened

module _ {D : Type 0} (is_honest : D → Type 0) (state : D → State) (core : Core D) (archive : Running D) (just : AreJustOpened is_honest state core archive) (pages : is_honest core.desk.pool.file.disk) (slots : is_honest archive.pagelog.disk) where
  abbrev H : History
  H = just.origin.history

  abbrev Plain : Desk
  Plain = just.opened.core.plain

  abbrev V : Vault
  V = just.opened.vault.vault

  core_is : IsCore is_honest state H core Plain
  core_is = just.opened.core.is

  seen_is : Plain.history ≡ after_journal H []
  seen_is = core_is.journal ∙ ap (after_journal H) just.lines

  plain_is : Plain.history ≡ H
  plain_is = seen_is ∙ with_changes-none H

  fits : VaultFits H just.origin.floor V
  fits = subst (λ (h : History). VaultFits h just.origin.floor V) (with_changes-none H) (just.opened.vault.fits pages)

  sound : IsSound (now H).base []
  sound = subst (IsSound (now H).base) just.lines core_is.ledger.sound

  slots_same : (bytes : List ℕ) (o : Option ℕ) → slot_or state archive bytes o ≡ in_slot V (capacity_of H) bytes o
  slots_same bytes None = refl
  slots_same bytes (Some number) = (just.opened.vault.is.slots slots).reads (number % archive.pagelog.blocks) ∙ ap (λ (k : ℕ). V.slots (number % k)) just.opened.vault.slots

  module _ (n page : ℕ) (retained : is_retained n (now H).base.marks ≡ true) where
    abbrev Start : ℕ
    Start = start_of n core.desk.base.marks

    held : Plain.acked ≤ end_of V.mappings
    held =
        let first = core_is.is.first in
        let few = just.held in
        let end = just.opened.vault.is.mapped.shows.end in
        omega (arith, first, few, end)

    found_is : in_slot V (capacity_of H) (told_of Plain n page).bytes (first_in V.mappings (told_of Plain n page).start Plain.acked page) ≡ pages_as_of H n page
    found_is =
        past_over_lines H [] [] Plain V (listing V V.mappings) n page sound seen_is core_is.fits
        (subst (λ (k : ℕ). VaultFits (after_journal H []) k V) (sym just.opened.core.floor) (just.opened.vault.fits pages))
        (inl refl) held
        (ap (λ (h : History). is_retained n (now h).base.marks) plain_is ∙ retained)
        (ap (λ (h : History). is_retained n (now h).base.marks) (with_changes-none H) ∙ retained)
        ∙ ap (λ (h : History). pages_as_of h n page) (with_changes-none H)

    above : archive.side.levels.low ≤ Start
    above =
        let a = above_low H just.origin.floor V fits just.opened.fits archive.side.levels archive.side.held just.opened.vault.is.mapped.shows just.opened.vault.is.mapped.lowest n retained in
        let e = ap (λ (b : Base). start_of n b.marks) just.opened.base in
        omega (arith, a, e)

    start_is : Start ≡ (told_of Plain n page).start
    start_is = ap (λ (b : Base). start_of n b.marks) core_is.is.base

    same_first : first_in archive.side.levels Start core.desk.queue.first page ≡ first_in V.mappings (told_of Plain n page).start Plain.acked page
    same_first =
        shows_first archive.side.levels archive.side.held V.mappings Start core.desk.queue.first page just.opened.vault.is.mapped.shows above just.held
        ∙ (λ i. first_in V.mappings (start_is i) (core_is.is.first i) page)

    past_is : past_of state core archive Start page ≡ pages_as_of H n page
    past_is =
        slots_same (first_image page (pages_of_core state core page) (drop (Start - core.desk.queue.first) core.desk.queue.images)) (first_in archive.side.levels Start core.desk.queue.first page)
        ∙ (ap (λ (bytes : List ℕ). in_slot V (capacity_of H) bytes (first_in archive.side.levels Start core.desk.queue.first page)) (told_bytes is_honest state H core Plain core_is pages n page)
        ∙ (ap (in_slot V (capacity_of H) (told_of Plain n page).bytes) same_first ∙ found_is))

  marks_are : (ms : List MarkOf) → AllByRecursion (λ (m : MarkOf). (is_retained m.number (now H).base.marks ≡ true) × (start_of m.number core.desk.base.marks ≡ m.start)) ms
      → AreMarksOf H ms (map (λ (mark : MarkOf). let p : Mark Pages = record { number = mark.number; label = mark.label; held = past_of state core archive mark.start } in p) ms)
  marks_are [] all = tt
  marks_are (m ∷ ms) all = (refl, refl, λ page. ap (λ (k : ℕ). past_of state core archive k page) (sym all.0.1) ∙ past_is m.number page all.0.0, marks_are ms all.1)

  all_marks : AllByRecursion (λ (m : MarkOf). (is_retained m.number (now H).base.marks ≡ true) × (start_of m.number core.desk.base.marks ≡ m.start)) core.desk.base.marks
  all_marks =
      let rise : AreMarks core.desk.base.captures core.desk.base.marks = subst (λ (b : Base). AreMarks b.captures b.marks) just.opened.base just.opened.fits.consistent.marks in
      all_both (λ (m : MarkOf). is_retained m.number (now H).base.marks ≡ true) (λ (m : MarkOf). start_of m.number core.desk.base.marks ≡ m.start) core.desk.base.marks
      (subst (λ (b : Base). AllByRecursion (λ (m : MarkOf). is_retained m.number b.marks ≡ true) core.desk.base.marks) (sym just.opened.base) (self_retained core.desk.base.marks))
      (all_more _ _ core.desk.base.marks (λ m x. x.1) (starts_own core.desk.base.captures 0 0 core.desk.base.marks rise))

  pub opened_world : IsWorldOf H (world_of state core archive)
  opened_world = record {
    current = λ page. pages_are is_honest state H core Plain core_is pages page ∙ ap (λ (h : History). (now h).pages page) plain_is;
    marks = subst (λ (ms : List MarkOf). AreMarksOf H ms (world_of state core archive).marks) (sym (ap (λ (b : Base). b.marks) just.opened.base)) (marks_are core.desk.base.marks all_marks);
  }
