-- A core and an archive that were just opened.
use Rattle.std.proofs.Common.{◌≡◌, ◌≤◌, ◌∙◌, ◌+◌, ◌-◌, ◌++◌, ℕ, List, [], ◌∷◌, length, drop, replicate, refl, sym, ap, subst, arith, append_assoc}
use Rattle.std.proofs.lemmas.List.{length-map, map-append, length-replicate}
use Rattle.std.proofs.Math.Seq.{drop-append_seam}
use Rattle.block_file.specs.Blocks.{block_at}
use Rattle.disk_model.specs.declared.four.Sizes.{Sizes}
use Rattle.disk_model.specs.Disk.{State}
use Rattle.history.specs.declared.entry.Base.{Base}
use Rattle.history.specs.declared.log.Version.{Version}
use Rattle.history.specs.declared.writes.PageImage.{PageImage}
use Rattle.history.specs.History.{History, captures_of}
use Rattle.history.specs.Writes.{pages_of}
use Rattle.history.proofs.Captures.{with_changes-none}
use Rattle.race_model.specs.Fits.{DeskFits, VaultFits}
use Rattle.race_model.specs.Reopened.{opened_desk, opened_vault}
use Rattle.race_model.proofs.Grows.{contains_none}
use Rattle.race_model.proofs.Histories.{capacity_stays}
use Rattle.race_model.proofs.Opening.{opened_held}
use Rattle.replay.specs.Opened.{Contents, forgotten, opened, slot_images}
use Rattle.skippy.specs.Mappings.{Mappings}
use Rattle.desk.specs.Fetched.{contents_of}
use Rattle.archive.specs.Archive.{Running}
use Rattle.archive.specs.Fetching.{IsOpened}
use Rattle.store_core.specs.declared.desk_core.Core.{Core}
use Rattle.store_core.specs.Core.{FetchesCore}
use Rattle.store.specs.Start.{AreOpenedTo}

pages_of-slots : (slots : ℕ → List ℕ) (capacity number : ℕ) (pages : List ℕ) → pages_of (slot_images slots capacity number pages) ≡ pages
pages_of-slots slots capacity number [] = refl
pages_of-slots slots capacity number (page ∷ pages) = ap (λ (ps : List ℕ). page ∷ ps) (pages_of-slots slots capacity (number + 1) pages)

-- The vault that mappings open to fits the history that they open to.
vault_fits : (version : Version) (contents : Contents) → DeskFits (opened_desk contents) → length contents.mappings.pages ≤ contents.log.base.capacity → VaultFits (opened contents) contents.mappings.low (opened_vault version contents)
vault_fits version contents fits few =
    let low : ℕ = contents.mappings.low in
    let forgot : List PageImage = replicate low forgotten in
    let slots : List PageImage = slot_images contents.slots contents.log.base.capacity low contents.mappings.pages in
    let rest : List PageImage = drop (length (opened contents).held - contents.log.base.captures) (captures_of (opened contents).origin contents.log.changes) in
    let all : pages_of ((forgot ++ slots) ++ rest) ≡ pages_of forgot ++ (pages_of slots ++ pages_of rest) =
    map-append (λ (i : PageImage). i.page) (forgot ++ slots) rest
    ∙ (ap (λ (l : List ℕ). l ++ pages_of rest) (map-append (λ (i : PageImage). i.page) forgot slots) ∙ append_assoc (pages_of forgot) (pages_of slots) (pages_of rest)) in
    let count : length (pages_of forgot) ≡ low = length-map forgot (λ (i : PageImage). i.page) ∙ length-replicate low forgotten in
    record {
      mappings = record {
        above = omega arith;
        needed = fits.history.floor_low;
        later = pages_of rest;
        same = ap (drop low) all
            ∙ (ap (λ k. drop k (pages_of forgot ++ (pages_of slots ++ pages_of rest))) (sym count)
            ∙ (drop-append_seam (pages_of forgot) (pages_of slots ++ pages_of rest)
            ∙ ap (λ (l : List ℕ). l ++ pages_of rest) (pages_of-slots contents.slots contents.log.base.capacity low contents.mappings.pages)));
        room = few;
      };
      others = λ other never. absurd (contains_none other never);
      held = omega arith;
      laid = fits.pending;
      room = omega arith;
      slots = λ number ge lt. (refl, sym (ap (λ (i : PageImage). i.bytes) (opened_held contents number (let a = fits.history.floor_low in omega (arith, a, ge)) lt)));
    }

-- They were opened to the history of the log over the pages' bytes, with these mappings and the slots as their device has them.
pub opened_to : {D : Type 0} (is_honest : D → Type 0) (state : D → State) (version : Version) (log pages maplog : D) (mappings : Mappings) (core : Core D) (archive : Running D) (sizes : Sizes) (fetched : FetchesCore is_honest state version log pages mappings core)
    → mappings ≡ archive.side.levels → IsOpened is_honest state version sizes.pages sizes.capacity maplog archive → core.desk.base.capacity ≡ sizes.capacity → core.desk.base.page_count ≡ sizes.pages
    → let contents : Contents = contents_of fetched.list (state pages).seen mappings (block_at (state archive.pagelog.disk).seen) in AreOpenedTo is_honest state core archive (record { history = opened contents; floor = mappings.low; log = fetched.list.version; maplog = version })
opened_to is_honest state version log pages maplog mappings core archive sizes fetched same fresh capacity page_count =
    let slots : ℕ → List ℕ = block_at (state archive.pagelog.disk).seen in
    let contents : Contents = contents_of fetched.list (state pages).seen mappings slots in
    let is = fetched.is slots in
    let size : core.desk.base.capacity ≡ contents.log.base.capacity = ap (λ (b : Base). b.capacity) is.is.base ∙ capacity_stays (opened contents).origin (opened contents).changes in
    let few : length mappings.pages ≤ contents.log.base.capacity = let f = fresh.few in let e = ap (λ (m : Mappings). length m.pages) same in omega (arith, f, e, size, capacity) in
    let vault = vault_fits version contents is.fits few in
    record {
      base = sym is.is.base;
      fits = is.fits.history;
      core = record { plain = opened_desk contents; is = is; floor = refl; in_version = (refl, tt) };
      vault = record {
        vault = opened_vault version contents;
        is = fresh.vault contents same (λ honest slot. refl);
        captured = slots;
        numbers = subst (λ (h : History). VaultFits h mappings.low (opened_vault version contents)) (sym (with_changes-none (opened contents))) vault;
        fits = λ honest. subst (λ (h : History). VaultFits h mappings.low (opened_vault version contents)) (sym (with_changes-none (opened contents))) vault;
        slots = fresh.slots ∙ (sym capacity ∙ size);
        pages = fresh.log.pages ∙ (sym page_count ∙ ap (λ (b : Base). b.page_count) is.is.base);
        in_version = (refl, tt);
      };
    }
