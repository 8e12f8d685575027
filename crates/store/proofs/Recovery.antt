-- What readers see of a store that was just opened, and of what a crash leaves of one that is closed.
use Rattle.std.proofs.Common.{◌≡◌, ◌≤◌, ◌+◌, ◌-◌, ◌%◌, ◌∙◌, inl, inr, ℕ, Bool, true, cond, eqb, max, drop, length, List, [], ◌∷◌, Option, Some, None, map, refl, ap, sym, subst, arith, eq-eqb, ne_eqb, length-drop}
use Rattle.std.specs.List.{AllByRecursion}
use Rattle.std.proofs.lemmas.List.{drop-drop, take_all}
use Rattle.block_file.specs.Blocks.{block_at}
use Rattle.disk_model.specs.Disk.{State}
use Rattle.history.specs.declared.entry.Base.{Base}
use Rattle.history.specs.declared.entry.Change.{Change}
use Rattle.history.specs.declared.entry.Change.TheVariants.{Commit, Drop}
use Rattle.history.specs.declared.entry.Mark.{Mark as MarkOf}
use Rattle.history.specs.declared.journal.Line.{Line}
use Rattle.history.specs.declared.writes.PageImage.{PageImage}
use Rattle.history.specs.History.{History, captures, now, pages_as_of, with_change}
use Rattle.history.specs.Journal.{after_journal}
use Rattle.history.specs.Laws.{IsConsistent, KeepsNewest}
use Rattle.history.specs.Lines.{doubt_in}
use Rattle.history.specs.Marks.{MarksRise, is_retained, oldest_start, start_of}
use Rattle.history.specs.Sound.{IsSound}
use Rattle.history.proofs.AsOf.{over}
use Rattle.history.proofs.Captures.{with_changes-none}
use Rattle.history.proofs.MarkLaws.{retained-above}
use Rattle.journal_law.specs.Pages.{Pages, page_world}
use Rattle.journal_law.specs.World.{Mark, World}
use Rattle.race_model.specs.Desk.{Desk, capacity_of}
use Rattle.race_model.specs.Fits.{HistoryFits, VaultFits}
use Rattle.race_model.specs.Images.{IsSameWorld}
use Rattle.race_model.specs.Reading.{in_slot, told_of}
use Rattle.race_model.specs.Vault.{Vault, listing}
use Rattle.race_model.proofs.Apart.{history_outlives_lines, vault_finds}
use Rattle.race_model.proofs.Histories.{fits_with, keeps_newest}
use Rattle.race_model.proofs.Readings.{as_part, oldest-start, part, same_past, told_fits}
use Rattle.replay.specs.Opened.{Contents, opened}
use Rattle.skippy.specs.Mappings.{end_of, first_in}
use Rattle.archive.specs.Archive.{Running}
use Rattle.archive.proofs.Finding.{shows_first}
use Rattle.store_core.specs.declared.desk_core.Core.{Core}
use Rattle.store.specs.declared.start.Start.{Start}
use Rattle.store.specs.Crashes.{OpensTo}
use Rattle.store.specs.Start.{AreJustOpened}
use Rattle.store.proofs.Leaving.{sound_journal}
use Rattle.store.specs.Recovery.{ClosedShows, OpeningShows, OpensShown, ShowsOneOf, changed_world}
use Rattle.store.specs.Ground.{first_image, pages_of_core, past_of, slot_or, world_of}
use Rattle.store.specs.Worlds.{AreMarksOf, IsWorldOf}
use Rattle.store.proofs.ReadGiven.{pages_are}
use Rattle.store.proofs.Worlds.{all_both, all_more, commit_step, drop_step, marks_same, self_retained, world_is}

-- ---- what opens to a history

-- no reader can tell the two histories apart, so both show the same pages
same_world_shows : (history other : History) (floor : ℕ) (world : World Pages) → HistoryFits other floor → IsSameWorld history other → IsWorldOf other world → IsWorldOf history world
same_world_shows history other floor world fits one is =
    let marks : (now history).base.marks ≡ (now other).base.marks = ap (λ (b : Base). b.marks) one.base in
    record {
      current = λ page. is.current page ∙ sym (one.pages page);
      marks = subst (λ (ms : List MarkOf). AreMarksOf history ms world.marks) (sym marks)
          (marks_same other history (now other).base.marks world.marks (all_more _ _ (now other).base.marks (λ m kept. λ page. same_past history other floor fits one m.number page kept) (self_retained (now other).base.marks)) is.marks);
    }

change_step : (h : History) (w : World Pages) (change : Change) → IsConsistent h → KeepsNewest (now h).base change → IsWorldOf h w → IsWorldOf (with_change h change) (changed_world change w)
change_step h w (Commit label writes) right keeps is = commit_step h w label writes right is
change_step h w (Drop below) right keeps is = drop_step h w below right keeps is

module _ (history : History) (floor : ℕ) (world : World Pages) (lines : List Line) (contents : Contents) (fits : HistoryFits history floor) (is : IsWorldOf history world) (sound : IsSound (now history).base lines) where
  abbrev Here : History
  Here = after_journal history lines

  right : HistoryFits Here floor
  right = history_outlives_lines history floor [] lines sound (subst (λ (h : History). HistoryFits h floor) (sym (with_changes-none history)) fits)

  here : IsWorldOf Here (page_world world lines)
  here = world_is history world lines fits.consistent is sound

  as_before : IsSameWorld (opened contents) Here → IsWorldOf (opened contents) (page_world world lines)
  as_before same = same_world_shows (opened contents) Here floor (page_world world lines) right same here

  shown_with : (doubt : Option Change) → OpensTo contents Here doubt → ShowsOneOf contents (page_world world lines) doubt
  shown_with None same = as_before same
  shown_with (Some change) (inl same) = inl (as_before same)
  shown_with (Some change) (inr (may, same)) = inr (same_world_shows (opened contents) (with_change Here change) floor (changed_world change (page_world world lines)) (fits_with Here floor right change may) same
      (change_step Here (page_world world lines) change right.consistent (keeps_newest (now Here).base change may.right) here))

pub opens_shown : OpensShown
opens_shown history floor world lines doubt contents fits is sound = shown_with history floor world lines contents fits is sound doubt

-- ---- the opening

first_over : (page : ℕ) (bytes : List ℕ) (images : List PageImage) → first_image page bytes images ≡ over (λ p. bytes) images page
first_over page bytes [] = refl
first_over page bytes (image ∷ images) = ap (cond (eqb image.page page) image.bytes) (first_over page bytes images)

-- each snapshot has the start of its own mark
starts_own : (c n s : ℕ) (ms : List MarkOf) → MarksRise c n s ms → AllByRecursion (λ (m : MarkOf). start_of m.number ms ≡ m.start) ms
starts_own c n s [] rise = tt
starts_own c n s (m ∷ ms) rise = (first, all_more _ _ ms (λ x both. later x both.0 both.1) (all_both _ _ ms (self_retained ms) (starts_own c m.number m.start ms rise.2))) where
  first : start_of m.number (m ∷ ms) ≡ m.start
  first = ap (λ (b : Bool). cond b m.start (start_of m.number ms)) (eq-eqb m.number m.number refl)

  later : (x : MarkOf) → is_retained x.number ms ≡ true → start_of x.number ms ≡ x.start → start_of x.number (m ∷ ms) ≡ x.start
  later x there own =
      let above = retained-above c m.number m.start x.number ms rise.2 there in
      ap (λ (b : Bool). cond b m.start (start_of x.number ms)) (ne_eqb m.number x.number (λ same. omega (arith, above, same))) ∙ own

module _ {D : Type 0} (is_honest : D → Type 0) (state : D → State) (core : Core D) (archive : Running D) (just : AreJustOpened is_honest state core archive) (honest_pages : is_honest core.desk.pool.file.disk) (honest_slots : is_honest archive.pagelog.disk) where
  abbrev Origin_ : History
  Origin_ = just.origin.history

  abbrev Plain : Desk
  Plain = just.opened.core.plain

  abbrev Vaulted : Vault
  Vaulted = just.opened.vault.vault

  plain_is : Plain.history ≡ Origin_
  plain_is = just.opened.core.is.journal ∙ (ap (after_journal Origin_) just.lines ∙ with_changes-none Origin_)

  fits_here : HistoryFits Plain.history Plain.floor
  fits_here = just.opened.core.is.fits.history

  vault_fits : VaultFits Plain.history Plain.floor Vaulted
  vault_fits = subst (λ (h : History). VaultFits h Plain.floor Vaulted) (sym (plain_is ∙ sym (with_changes-none Origin_))) (subst (λ (n : ℕ). VaultFits (after_journal Origin_ []) n Vaulted) (sym just.opened.core.floor) (just.opened.vault.fits honest_pages))

  base_is : (now Plain.history).base ≡ core.desk.base
  base_is = sym just.opened.core.is.is.base

  acked_is : core.desk.queue.first ≡ Plain.acked
  acked_is = just.opened.core.is.is.first

  held_is : Plain.acked ≤ end_of Vaulted.mappings
  held_is = let h = just.held in let e = just.opened.vault.is.mapped.shows.end in let a = acked_is in omega (arith, h, e, a)

  page_is : (page : ℕ) → pages_of_core state core page ≡ (now Plain.history).pages page
  page_is page = pages_are is_honest state Origin_ core Plain just.opened.core.is honest_pages page

  module _ (number page : ℕ) (retained : is_retained number (now Plain.history).base.marks ≡ true) where
    abbrev Start_ : ℕ
    Start_ = start_of number (now Plain.history).base.marks

    abbrev Images : List PageImage
    Images = captures Plain.history

    -- what the desk has of it
    pending_is : drop (Start_ - core.desk.queue.first) core.desk.queue.images ≡ part (max Start_ Plain.acked) (length Images) Images
    pending_is =
        let a = acked_is in
        let place : core.desk.queue.first + (Start_ - core.desk.queue.first) ≡ max Start_ Plain.acked = omega (arith, a) in
        ap (drop (Start_ - core.desk.queue.first)) (just.opened.core.is.is.bytes honest_pages ∙ ap (λ (n : ℕ). drop n Images) (sym a))
        ∙ (drop-drop (Start_ - core.desk.queue.first) core.desk.queue.first Images
        ∙ (ap (λ (n : ℕ). drop n Images) place
        ∙ sym (take_all (length Images - max Start_ Plain.acked) (drop (max Start_ Plain.acked) Images) (let l = length-drop (max Start_ Plain.acked) Images in omega (arith, l)))))

    bytes_are : first_image page (pages_of_core state core page) (drop (Start_ - core.desk.queue.first) core.desk.queue.images) ≡ (told_of Plain number page).bytes
    bytes_are =
        ap (λ (b : List ℕ). first_image page b (drop (Start_ - core.desk.queue.first) core.desk.queue.images)) (page_is page)
        ∙ (ap (first_image page ((now Plain.history).pages page)) pending_is
        ∙ (first_over page ((now Plain.history).pages page) (part (max Start_ Plain.acked) (length Images) Images)
        ∙ sym (as_part Images (max Start_ Plain.acked) (length Images) page ((now Plain.history).pages page))))

    -- and what the archive has
    low_is : archive.side.levels.low ≤ Start_
    low_is =
        let l = just.opened.vault.is.mapped.lowest in
        let needed : l.maplog.mappings.low ≤ oldest_start (now Plain.history).base.marks =
        elim l.is [
          | inl e ↦ let q = ap (λ m. m.mappings.low) e in let n = vault_fits.mappings.needed in omega (arith, q, n)
          | inr among ↦ (vault_fits.others l.maplog among).0.needed
        ] in
        let s = oldest-start (now Plain.history).base.captures 0 0 number (now Plain.history).base.marks fits_here.consistent.marks retained in
        let e = l.same in
        omega (arith, needed, s, e)

    first_is : first_in archive.side.levels Start_ core.desk.queue.first page ≡ first_in Vaulted.mappings Start_ Plain.acked page
    first_is =
        shows_first archive.side.levels archive.side.held Vaulted.mappings Start_ core.desk.queue.first page just.opened.vault.is.mapped.shows low_is just.held
        ∙ ap (λ (n : ℕ). first_in Vaulted.mappings Start_ n page) acked_is

    slot_is : (bytes : List ℕ) (place : Option ℕ) → slot_or state archive bytes place ≡ in_slot Vaulted (capacity_of Plain.history) bytes place
    slot_is bytes None = refl
    slot_is bytes (Some place) =
        ap (λ (n : ℕ). block_at (state archive.pagelog.disk).seen (place % n)) (just.opened.vault.slots ∙ ap capacity_of (sym plain_is))
        ∙ (just.opened.vault.is.slots honest_slots).reads (place % capacity_of Plain.history)

    past_is : past_of state core archive Start_ page ≡ pages_as_of Plain.history number page
    past_is =
        ap (λ (b : List ℕ). slot_or state archive b (first_in archive.side.levels Start_ core.desk.queue.first page)) bytes_are
        ∙ (ap (slot_or state archive (told_of Plain number page).bytes) first_is
        ∙ (slot_is (told_of Plain number page).bytes (first_in Vaulted.mappings Start_ Plain.acked page)
        ∙ vault_finds Plain.history Plain.floor Plain.acked Vaulted (listing Vaulted Vaulted.mappings) (told_of Plain number page) fits_here vault_fits (inl refl) held_is (told_fits Plain fits_here number page retained) retained))

  marks_are : (ms : List MarkOf) → AllByRecursion (λ (m : MarkOf). (page : ℕ) → past_of state core archive m.start page ≡ pages_as_of Plain.history m.number page) ms
      → AreMarksOf Plain.history ms (map (λ (m : MarkOf). let held : Mark Pages = record { number = m.number; label = m.label; held = past_of state core archive m.start } in held) ms)
  marks_are [] all = tt
  marks_are (m ∷ ms) all = (refl, refl, all.0, marks_are ms all.1)

  all_are : AllByRecursion (λ (m : MarkOf). (page : ℕ) → past_of state core archive m.start page ≡ pages_as_of Plain.history m.number page) (now Plain.history).base.marks
  all_are =
      let marks : List MarkOf = (now Plain.history).base.marks in
      all_more _ _ marks (λ m both. λ page. ap (λ (n : ℕ). past_of state core archive n page) (sym both.1) ∙ past_is m.number page both.0)
      (all_both _ _ marks (self_retained marks) (starts_own (now Plain.history).base.captures 0 0 marks fits_here.consistent.marks))

  pub opening_world : IsWorldOf Origin_ (world_of state core archive)
  opening_world = subst (λ (h : History). IsWorldOf h (world_of state core archive)) plain_is (record {
    current = page_is;
    marks = subst (λ (b : Base). AreMarksOf Plain.history (now Plain.history).base.marks (map (λ (m : MarkOf). let held : Mark Pages = record { number = m.number; label = m.label; held = past_of state core archive m.start } in held) b.marks)) base_is
        (marks_are (now Plain.history).base.marks all_are);
  })

pub opening_shows : {D : Type 0} (is_honest : D → Type 0) (state : D → State) → OpeningShows is_honest state
opening_shows is_honest state core archive just pages slots = opening_world is_honest state core archive just pages slots

-- ---- a store that is closed

pub closed_shows : {D : Type 0} (is_honest : D → Type 0) (state : D → State) (faults : D → ℕ) → ClosedShows is_honest state faults
closed_shows {D = D} is_honest state faults start limit seats left closes just begun =
    let crashes = closes.crashes just.origin begun in
    let world : World Pages = world_of state start.core.value start.archive.value in
    let is : IsWorldOf just.origin.history world = opening_world is_honest state start.core.value start.archive.value just begun.honest.pages begun.honest.pagelog in
    let lines : List Line = left.journal in
    let sound : IsSound (now just.origin.history).base lines =
    subst (λ (b : Base). IsSound b lines) (ap (λ (s : Start D). s.core.value.desk.base) closes.begun ∙ sym just.opened.base) (subst (λ (l : List Line). IsSound closes.side.start.core.value.desk.base l) (sym closes.lines) (sound_journal is_honest state closes.side closes.stands)) in
    λ devices images.
    let holds = crashes devices images in
    record {
      contents = holds.contents;
      hold = holds.hold;
      joined = holds.joined;
      shows = opens_shown just.origin.history just.origin.floor world lines (doubt_in lines) holds.contents just.opened.fits is sound
          (subst (λ (l : List Line). OpensTo holds.contents (after_journal just.origin.history l) (doubt_in l)) (sym closes.lines) holds.opens);
    }
