-- Mappings that are put behind the others.
use Rattle.std.proofs.Common.{◌≡◌, ◌∙◌, ◌+◌, ◌≤◌, ◌<◌, ◌++◌, ℕ, List, length, None, Some, Result, Err, sym, ap, subst, arith, length-append}
use Rattle.std.specs.List.{AllByRecursion}
use Rattle.std.proofs.lemmas.List.{length-map}
use Rattle.retro_base.specs.declared.limits.TheConstants.{MAX_CAPTURES}
use Rattle.retro_base.specs.declared.refusal.Refusal.{Refusal}
use Rattle.retro_base.specs.declared.refusal.Refusal.TheVariants.{DiskFault}
use Rattle.gate_log.specs.Cause.{IsDiskFault}
use Rattle.area_log.specs.Area.{AfterWrite, after_write, Area}
use Rattle.history.specs.declared.writes.PageImage.{PageImage}
use Rattle.history.specs.Writes.{pages_of}
use Rattle.records.specs.Maplog.{IsMappingBody, map_entry_bytes}
use Rattle.records.specs.declared.map_entry.MapEntry.TheVariants.{Run}
use Rattle.skippy.specs.Mappings.{Mappings, end_of, push}
use Rattle.map_log.proofs.Records.{all-append}
use Rattle.map_log.proofs.Runs.{pages-fit}
use Rattle.map_log.specs.Log.{IsMapArea, MapArea, with_area}
use Rattle.race_model.specs.Vault.{Batch}
use Rattle.archive.specs.Side.{IsEntering, IsSide, MapsBehind, Side}
use Rattle.archive.proofs.Sides.{area_after}

pub length-pages : (images : List PageImage) → length (pages_of images) ≡ length images
length-pages images = length-map images (λ (image : PageImage). image.page)

pub run_body_is : (log : MapArea) (first : ℕ) (m : Mappings) (pages run : List ℕ) → IsMapArea log → first ≡ end_of m → 1 ≤ length pages → length pages ≤ 64 → end_of m + length pages ≤ MAX_CAPTURES
    → AllByRecursion (λ page. page < log.page_count) pages → run ≡ map_entry_bytes log.version (Run first pages) → IsMappingBody log.version log.page_count m run (Run first pages)
run_body_is log first m pages run area here some few end in_store spelled =
    record { spelled = spelled; fits = (omega (arith, here, end), some, omega (arith, few), pages-fit log.page_count _ pages area.fits in_store); right = (here, end, in_store) }

-- a log that failed does not go on
fault_kept : (area done new : Area) (r : Result (Unit {0}) Refusal) (why : Refusal) → new ≡ after_write area done r → r ≡ Err why → IsDiskFault why → new.fault ≡ None → ⊥
fault_kept area done new r (DiskFault which count) is refused fault none =
    let kept : Some count ≡ None = sym (ap (λ (a : Area). a.fault) (is ∙ ap (λ (x : Result (Unit {0}) Refusal). after_write area done x) refused)) ∙ none in absurd cc
fault_kept area done new r why is refused fault none = absurd fault

module _ {D : Type 0} (extent : D → ℕ) (old new : Side D) (batch : Batch) (side : IsSide extent old) (asks : IsEntering old batch) (going : old.log.area.fault ≡ None) (pages : List ℕ) (same : pages ≡ pages_of batch.images) (size : extent new.disk ≡ extent old.disk)
    {done : Area} {r : Result (Unit {0}) Refusal} (is : new.log ≡ with_area old.log (after_write old.log.area done r)) (after : AfterWrite old.log.area done r new.log.area) (levels : new.levels ≡ push old.levels pages) where
  count : length pages ≡ length batch.images
  count = ap (λ (ps : List ℕ). length ps) same ∙ length-pages batch.images

  end_there : end_of new.levels ≡ old.held + length batch.images
  end_there = ap (λ (m : Mappings). end_of m) levels ∙ omega (arith, side.going going, count, length-append old.levels.pages pages)

  side_there : old.held ≤ new.held → new.held ≤ old.held + length batch.images → (new.log.area.fault ≡ None → end_of new.levels ≡ new.held) → IsSide extent new
  side_there least most goes =
      let low : new.levels.low ≡ old.levels.low = ap (λ (m : Mappings). m.low) levels in
      let capacity : new.log.capacity ≡ old.log.capacity = ap (λ (l : MapArea). l.capacity) is in
      let store : new.log.page_count ≡ old.log.page_count = ap (λ (l : MapArea). l.page_count) is in
      let in_store : AllByRecursion (λ page. page < old.log.page_count) (old.levels.pages ++ pages) =
      all-append (λ page. page < old.log.page_count) old.levels.pages pages side.sound.pages (subst (λ (ps : List ℕ). AllByRecursion (λ page. page < old.log.page_count) ps) (sym same) asks.pages) in
      record {
        log = area_after old new side.log is after;
        whole = omega (arith, size, side.whole, after.size);
        low = omega (arith, low, side.low, least);
        known = omega (arith, end_there, most);
        going = goes;
        few = omega (arith, end_there, low, capacity, asks.room);
        sound = record {
          end = omega (arith, end_there, asks.end);
          pages = subst (λ (n : ℕ). AllByRecursion (λ page. page < n) new.levels.pages) (sym store) (subst (λ (ps : List ℕ). AllByRecursion (λ page. page < old.log.page_count) ps) (sym (ap (λ (m : Mappings). m.pages) levels)) in_store);
        };
      }

  pub entered_side : new.held ≡ old.held + length batch.images → IsSide extent new
  entered_side held = side_there (omega (arith, held)) (omega (arith, held)) (λ goes. omega (arith, end_there, held))

  pub entered_side_failed : new.held ≡ old.held → (new.log.area.fault ≡ None → ⊥) → IsSide extent new
  entered_side_failed held stops = side_there (omega (arith, held)) (omega (arith, held)) (λ goes. absurd (stops goes))

  pub stops_there : (why : Refusal) → r ≡ Err why → IsDiskFault why → new.log.area.fault ≡ None → ⊥
  stops_there why refused fault none = fault_kept old.log.area done new.log.area r why (ap (λ (l : MapArea). l.area) is) refused fault none

-- a call that failed leaves the captures as they were
pub maps_failed : {D : Type 0} (old new : Side D) (pages : List ℕ) (r : Result (Unit {0}) Refusal) (why : Refusal) → r ≡ Err why → IsDiskFault why → new.held ≡ old.held → MapsBehind old pages r new
maps_failed old new pages r why refused fault held =
    subst (λ (x : Result (Unit {0}) Refusal). MapsBehind old pages x new) (sym refused) (record { held = tt; levels = tt; going = tt; left = held; untouched = λ no. absurd (no fault) })
