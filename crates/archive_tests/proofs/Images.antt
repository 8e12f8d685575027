-- What each image has behind a call that succeeded.
use Rattle.std.proofs.Common.{◌≡◌, ◌∙◌, ◌+◌, ◌%◌, inl, inr, ℕ, [], List, Result, Ok, Err, OnOk, subst, arith}
use Rattle.std.specs.Prelude.{Contains}
use Rattle.disk_model.specs.Moments.{Clock}
use Rattle.disk_mem.specs.Disks.{Device}
use Rattle.disk_mem.specs.History.{state_of}
use Rattle.block_file.proofs.Blocks.{image_settled}
use Rattle.map_log.specs.Log.{ListsMappings, MapArea}
use Rattle.race_model.specs.Vault.{Batch, IsMaplogOf, Maplog, Vault}
use Rattle.race_model.specs.declared.fault.Fault.{Fault}
use Rattle.archive.specs.Archive.{Running, Turns, TurnsByLaying}
use Rattle.archive.specs.Side.{IsMapSide, ListsMaplogOf, Side}
use Rattle.archive_tests.specs.OnMemDisks.{EachImage, HasCaptures, Lists}

pub laid_images : (old new : Running Device) (vault : Vault) (batch : Batch) (clock : Device → Clock) (r : Result (Unit {0}) Fault) → TurnsByLaying (λ _. Unit {0}) (Unit {0}) (λ device. state_of device.past) clock old new vault batch r
    → OnOk r (EachImage new.pagelog.disk (HasCaptures old.pagelog.blocks batch))
laid_images old new vault batch clock (Err e) turns = tt
laid_images old new vault batch clock (Ok x) turns = λ image is place below.
    let laying = turns.steps in
    let slots = laying.is.slots tt in
    let slot = (batch.first + place) % old.pagelog.blocks in
    image_settled (state_of new.pagelog.disk.past) image slot is (slots.sure slot (laying.holds.settled slot)) ∙ (slots.reads slot ∙ laying.holds.bytes place below)

none_in : (maplog : Maplog) → Contains [] maplog → ⊥
none_in maplog (i, below, is) = omega (arith, below)

lists_one : (log : MapArea) (vault : Vault) (maplog : Maplog) (image : List ℕ) → vault.version ≡ log.version → vault.others ≡ [] → IsMaplogOf vault maplog
    → ListsMappings maplog.version log.page_count log.capacity maplog.mappings image → Lists log vault.mappings image
lists_one log vault maplog image same none (inl e) lists =
    subst (λ version. ListsMappings version log.page_count log.capacity vault.mappings image) same
    (subst (λ (m : Maplog). ListsMappings m.version log.page_count log.capacity m.mappings image) e lists)
lists_one log vault maplog image same none (inr other) lists = absurd (none_in maplog (subst (λ (others : List Maplog). Contains others maplog) none other))

pub turned_images : {T : Type 0} (old new : Running Device) (done failed : Vault) (clock : Device → Clock) (r : Result T Fault) → Turns (λ _. Unit {0}) (Unit {0}) (λ device. state_of device.past) clock old new done failed r → done.others ≡ []
    → OnOk r (EachImage new.side.disk (Lists new.side.log done.mappings))
turned_images old new done failed clock (Err e) turns none = tt
turned_images old new done failed clock (Ok x) turns none = λ image is.
    let mapped = turns.steps.mapped in
    let listed = mapped.images tt image is in
    lists_one new.side.log done listed.maplog image mapped.in_version none listed.is listed.lists
