-- The making of an empty Maplog.
use Rattle.std.proofs.Common.{◌≡◌, ◌⊎◌, ⊎_elim, inl, inr, ◌∙◌, ◌*◌, ◌/◌, ◌<◌, ◌^◌, ◌∷◌, [], ℕ, List, length, Result, Ok, Err, OnOk, refl, sym, subst, arith}
use Rattle.disk_model.specs.Disk.{State}
use Rattle.disk_model.specs.Moments.{Clock}
use Rattle.disk_model.specs.Sizes.{maplog_half}
use Rattle.disk_model.proofs.Moments.{weaker}
use Rattle.retro_base.specs.declared.refusal.Refusal.{Refusal}
use Rattle.history.specs.declared.log.Version.{Version}
use Rattle.records.specs.declared.map_entry.MapEntry.TheVariants.{Start}
use Rattle.records.specs.Maplog.{IsMaplog, map_entry_bytes}
use Rattle.area_log.specs.Making.{ListsOrNone, Makes}
use Rattle.area_log.specs.Regions.{DeviceLists, NoneCounts}
use Rattle.map_log.specs.Log.{IsBlank, ListsMappings, MakesNone, none_yet}
use Rattle.map_log.proofs.Records.{maplog_alone}

on_ok : {T E P Q : Type 0} (r : Result T E) → OnOk r P → (P → Q) → OnOk r Q
on_ok (Ok x) h f = f h
on_ok (Err e) h f = tt

-- a start alone, from 0 on
start_stands : (version : Version) (page_count capacity : ℕ) → capacity < 2 ^ 32 → IsMaplog version page_count capacity (map_entry_bytes version (Start 0 capacity) ∷ []) none_yet
start_stands version page_count capacity small =
    maplog_alone version page_count capacity (map_entry_bytes version (Start 0 capacity)) none_yet
    (record { entry = Start 0 capacity; spelled = refl; fits = (omega arith, small); start = record { low = 0; is = refl; right = omega arith; none = refl } })

module _ {Disk : Type 0} (version : Version) (page_count capacity : ℕ) (remembers : Type 0) (state : Disk → State) (clock : Disk → Clock) (old new : Disk) (result : Result (Unit {0}) Refusal) where
  pub makes_none : (extent : ℕ) (bodies : List (List ℕ)) → capacity < 2 ^ 32 → bodies ≡ map_entry_bytes version (Start 0 capacity) ∷ [] → extent ≡ 2 * maplog_half capacity → length (state new).seen ≡ extent
      → IsBlank extent (state old) → Makes extent bodies remembers state clock old new result → MakesNone version page_count capacity remembers state clock old new result
  makes_none extent bodies small is whole long blank makes =
      let half : extent / 2 ≡ maplog_half capacity = omega (arith, whole) in
      let stands : IsMaplog version page_count capacity bodies none_yet = subst (λ (bs : List (List ℕ)). IsMaplog version page_count capacity bs none_yet) (sym is) (start_stands version page_count capacity small) in
      record {
        lists = on_ok result (makes.lists blank.zeros) (λ lists. record { size = long ∙ whole; bodies = bodies; lists = subst (λ (h : ℕ). DeviceLists h bodies (state new).seen) half lists; stands = stands });
        durable = makes.durable;
        any_moment = weaker remembers (clock old) (clock new) (ListsOrNone extent bodies) (λ image. NoneCounts (maplog_half capacity) image 0 ⊎ ListsMappings version page_count capacity none_yet image)
            (λ image one. ⊎_elim (λ none. inl (subst (λ (h : ℕ). NoneCounts h image 0) half none))
            (λ lists. inr (record { size = one.whole ∙ whole; bodies = bodies; lists = subst (λ (h : ℕ). DeviceLists h bodies image) half lists; stands = stands })) one.lists)
            (makes.any_moment blank.zeros blank.durable);
      }
