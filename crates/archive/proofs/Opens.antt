-- What an opening tells of its devices.
use Rattle.std.proofs.Common.{◌≡◌, inl, inr, ◌∙◌, ◌+◌, ◌*◌, ◌<◌, ◌≤◌, ◌↔◌, ℕ, List, [], None, is_some, length, refl, sym, ap, subst, arith}
use Rattle.disk_model.specs.Disk.{IsDurable, State}
use Rattle.disk_model.specs.Sizes.{maplog_half}
use Rattle.area_log.specs.Listed.{closed_gate, DeviceStandsFor}
use Rattle.history.specs.declared.log.Version.{Version}
use Rattle.records.specs.Maplog.{IsMaplog}
use Rattle.skippy.specs.Mappings.{end_of, Mappings, push}
use Rattle.map_log.specs.Log.{FetchedMappings, IsFetched, IsMapArea, MapArea}
use Rattle.map_log.proofs.Records.{keeps_lists}
use Rattle.block_file.specs.Blocks.{block_at, FillsDevice}
use Rattle.replay.specs.Opened.{Contents}
use Rattle.race_model.specs.Reopened.{opened_vault}
use Rattle.race_model.specs.Vault.{listing}
use Rattle.archive.specs.Archive.{IsVault, Running}
use Rattle.archive.proofs.Sides.{shows_self}
use Rattle.archive.specs.Fetching.{IsOpened, NotAnArchive, TooMany}

-- bytes list these mappings, and their closed gate stands there
record StandsTo (version : Version) (page_count capacity : ℕ) (bytes : List ℕ) (mappings : Mappings) (gate : ℕ) : Type 0 where
  pub stands : DeviceStandsFor (maplog_half capacity) (IsMaplog version page_count capacity) bytes mappings
  pub at : gate ≡ closed_gate stands

-- a log of more mappings than there are slots
pub too_many : (version : Version) (page_count capacity extent : ℕ) (is_honest : Type 0) (log : MapArea) (mappings : Mappings) (old new : State) (broken : ℕ) → IsFetched version page_count capacity log → (is_honest → FetchedMappings log mappings old new)
    → extent ≡ 2 * maplog_half capacity → capacity < length mappings.pages → broken ≡ log.area.log.place + log.area.log.gate → NotAnArchive version page_count capacity extent is_honest old.seen broken
too_many version page_count capacity extent is_honest log mappings old new broken is fetched whole many told = inr (whole, there)
  where
    there : is_honest → TooMany version page_count capacity old.seen broken
    there honest =
        subst (λ v. TooMany v page_count capacity old.seen broken) is.in_version
        (subst (λ p. TooMany log.version p capacity old.seen broken) is.pages
        (subst (λ k. TooMany log.version log.page_count k old.seen broken) is.images
        (record { mappings = mappings; stands = (fetched honest).lists; many = omega (arith, many, is.images); told = told ∙ (fetched honest).closed })))

-- mappings that were pushed onto none
pub pushed_all : (mappings levels none : Mappings) (low : ℕ) (pages : List ℕ) → low ≡ mappings.low → pages ≡ mappings.pages → none ≡ (let m : Mappings = record { low = low; pages = [] } in m) → levels ≡ push none pages → levels ≡ mappings
pushed_all mappings levels none low pages same all is pushed =
    pushed ∙ ap (λ (m : Mappings). push m pages) is ∙ ap (λ n. let m : Mappings = record { low = n; pages = pages } in m) same ∙ ap (λ (ps : List ℕ). let m : Mappings = record { low = mappings.low; pages = ps } in m) all

-- the opened vault of the mappings in memory
pub is_opened_vault : {D : Type 0} (is_honest : D → Type 0) (state : D → State) (archive : Running D) (version : Version) (page_count capacity : ℕ) (old : State) (area : IsMapArea archive.side.log) → IsFetched version page_count capacity archive.side.log
    → archive.side.held ≡ end_of archive.side.levels → archive.laid ≡ archive.side.held → archive.first_fault ≡ None → (is_honest archive.side.disk → FetchedMappings archive.side.log archive.side.levels old (state archive.side.disk))
    → (is_honest archive.pagelog.disk → IsDurable (state archive.pagelog.disk)) → (contents : Contents) → contents.mappings ≡ archive.side.levels
    → (is_honest archive.pagelog.disk → (slot : ℕ) → contents.slots slot ≡ block_at (state archive.pagelog.disk).seen slot)
    → FillsDevice is_honest state archive.pagelog → IsVault is_honest state archive (opened_vault version contents)
is_opened_vault is_honest state archive version page_count capacity old area is held laid going fetched durable contents same slots fills = record {
  stopped = sym (ap is_some going);
  mapped = record {
    in_version = sym is.in_version;
    shows = shows_self archive.side.levels archive.side.held contents.mappings (sym same) (ap (λ (m : Mappings). end_of m) same ∙ sym held);
    lowest = record { maplog = listing (opened_vault version contents) contents.mappings; is = inl refl; same = ap (λ (m : Mappings). m.low) same };
    going = λ goes. sym same;
    keeps = λ told goes. rw same (fetched told).keeps;
    images = λ told image at.
        record {
          maplog = listing (opened_vault version contents) contents.mappings;
          is = inl refl;
          lists = rw (same, ← is.in_version) (keeps_lists archive.side.log area archive.side.levels (state archive.side.disk) (fetched told).keeps image at);
        };
  };
  laid = ap (λ (m : Mappings). end_of m) same ∙ sym held ∙ sym laid;
  slots = λ told. record { reads = λ slot. sym (slots told slot); sure = λ slot none place within. durable told place };
  fills = fills;
}

-- an archive that was opened
pub is_opened : {D : Type 0} (is_honest : D → Type 0) (state : D → State) (archive : Running D) (version : Version) (page_count capacity : ℕ) (maplog : D) → IsFetched version page_count capacity archive.side.log → archive.side.held ≡ end_of archive.side.levels
    → length archive.side.levels.pages ≤ capacity → archive.pagelog.blocks ≡ capacity → archive.laid ≡ archive.side.held → archive.first_fault ≡ None → (is_honest maplog → FetchedMappings archive.side.log archive.side.levels (state maplog) (state archive.side.disk))
    → (is_honest maplog ↔ is_honest archive.side.disk) → {pagelog : D} → (is_honest pagelog → IsDurable (state archive.pagelog.disk)) → (is_honest pagelog ↔ is_honest archive.pagelog.disk) → FillsDevice is_honest state archive.pagelog → IsOpened is_honest state version page_count capacity maplog archive
is_opened is_honest state archive version page_count capacity maplog is held few slots laid going fetched same settled alike fills = record {
  log = is;
  held = held;
  few = few;
  slots = slots;
  laid = laid;
  going = going;
  mappings = λ told. (there told).stands;
  closed = λ told. (there told).at;
  vault = λ contents mapped slotted. is_opened_vault is_honest state archive version page_count capacity (state maplog) is.is is held laid going (λ told. fetched (same.1 told)) (λ told. settled (alike.1 told)) contents mapped slotted fills;
}
  where
    there : is_honest maplog → StandsTo version page_count capacity (state maplog).seen archive.side.levels (archive.side.log.area.log.place + archive.side.log.area.log.gate)
    there told =
        subst (λ v. StandsTo v page_count capacity (state maplog).seen archive.side.levels (archive.side.log.area.log.place + archive.side.log.area.log.gate)) is.in_version
        (subst (λ p. StandsTo archive.side.log.version p capacity (state maplog).seen archive.side.levels (archive.side.log.area.log.place + archive.side.log.area.log.gate)) is.pages
        (subst (λ k. StandsTo archive.side.log.version archive.side.log.page_count k (state maplog).seen archive.side.levels (archive.side.log.area.log.place + archive.side.log.area.log.gate)) is.images
        (record { stands = (fetched told).lists; at = (fetched told).closed })))
