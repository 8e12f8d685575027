-- A log of bodies as a log of mappings.
use Rattle.std.proofs.Common.{List, [], length, ◌+◌, ◌*◌, ap, arith, drop, inl, inr, length-append, refl, subst, suc, sym, zero, ℕ, ⊎_elim, ◌++◌, ◌-◌, ◌<◌, ◌∙◌, ◌∷◌, ◌≡◌}
use Rattle.std.specs.Prelude.{Result, Ok, Err, OnOk}
use Rattle.std.proofs.lemmas.List.{length-drop}
use Rattle.std.specs.List.{AllByRecursion}
use Rattle.disk_model.specs.Disk.{State, IsImage}
use Rattle.disk_model.specs.Moments.{Clock}
use Rattle.disk_model.specs.Sizes.{maplog_half}
use Rattle.disk_model.proofs.Moments.{weaker, started}
use Rattle.skippy.specs.Mappings.{Mappings}
use Rattle.history.specs.declared.log.Version.{Version}
use Rattle.records.specs.InTurn.{InTurn, reached}
use Rattle.records.specs.declared.map_entry.MapEntry.{MapEntry}
use Rattle.records.specs.declared.map_entry.MapEntry.TheVariants.{Start, Run, Low}
use Rattle.records.specs.Maplog.{IsMaplog, IsMappingBody, IsRightMapping, IsStartBody, mappings_after}
use Rattle.records.proofs.Turns.{in_turn-push, reached-push}
use Rattle.retro_base.specs.declared.refusal.Refusal.{Refusal}
use Rattle.gate_log.specs.Region.{gate_behind}
use Rattle.area_log.specs.Area.{Area, Fetched, ListsEither, Writes}
use Rattle.area_log.specs.Regions.{DeviceLists}
use Rattle.area_log.proofs.Areas.{at_rest, whole_at_rest}
use Rattle.area_log.proofs.Fetches.{place_there}
use Rattle.map_log.specs.Log.{AreSound, FetchedMappings, IsMapArea, Keeps, ListsMappings, ListsOneOf, MapArea, Puts, with_area}

-- one body more is the mappings behind its record
pub maplog_more : (version : Version) (page_count capacity : ℕ) (bodies : List (List ℕ)) (mappings : Mappings) (body : List ℕ) (entry : MapEntry) → IsMaplog version page_count capacity bodies mappings
    → IsMappingBody version page_count mappings body entry → IsMaplog version page_count capacity (bodies ++ body ∷ []) (mappings_after mappings entry)
maplog_more version page_count capacity [] mappings body entry is more = absurd is
maplog_more version page_count capacity (first ∷ bodies) mappings body entry is more = record {
  start = is.start;
  entries = is.entries ++ entry ∷ [];
  first = is.first;
  others = in_turn-push (IsMappingBody version page_count) mappings_after is.start bodies is.entries body entry is.others (subst (λ (m : Mappings). IsMappingBody version page_count m body entry) is.kept more);
  kept = ap (λ (m : Mappings). mappings_after m entry) is.kept ∙ sym (reached-push (IsMappingBody version page_count) mappings_after is.start is.entries entry);
}

-- the body of a start alone keeps none
pub maplog_alone : (version : Version) (page_count capacity : ℕ) (body : List ℕ) (mappings : Mappings) → IsStartBody version capacity body mappings → IsMaplog version page_count capacity (body ∷ []) mappings
maplog_alone version page_count capacity body mappings is = record { start = mappings; entries = []; first = is; others = tt; kept = refl }

module _ (log : MapArea) (is : IsMapArea log) (mappings : Mappings) where
  lists_there : (bodies : List (List ℕ)) → IsMaplog log.version log.page_count log.capacity bodies mappings → (image : List ℕ) → length image ≡ 2 * log.area.log.size → DeviceLists log.area.log.size bodies image
      → ListsMappings log.version log.page_count log.capacity mappings image
  lists_there bodies stands image whole lists = record { size = whole ∙ ap (λ (s : ℕ). 2 * s) is.size; bodies = bodies; lists = subst (λ (s : ℕ). DeviceLists s bodies image) is.size lists; stands = stands }

  -- what is kept is what each image lists
  pub keeps_lists : (state : State) → Keeps log mappings state → (image : List ℕ) → IsImage state image → ListsMappings log.version log.page_count log.capacity mappings image
  keeps_lists state keeps image at = lists_there keeps.bodies keeps.stands image (whole_at_rest log.area keeps.bodies state keeps.holds image at) (at_rest log.area keeps.bodies state keeps.holds image at)

-- what follows on success
on_ok : {T E P Q : Type 0} (r : Result T E) → OnOk r P → (P → Q) → OnOk r Q
on_ok (Ok x) h f = f h
on_ok (Err e) h f = tt

module _ {Disk : Type 0} (log after : MapArea) (is : IsMapArea log) (mappings next : Mappings) (remembers : Type 0) (state : Disk → State) (clock : Disk → Clock) (old new : Disk) (result : Result (Unit {0}) Refusal) (keeps : Keeps log mappings (state old)) where
  -- a write of bodies is one of mappings
  pub puts_there : (area : Area) (list : List (List ℕ) → List (List ℕ)) → Writes log.area area list remembers state clock old new result → after ≡ with_area log area
      → IsMaplog log.version log.page_count log.capacity (list keeps.bodies) next → Puts log after mappings next remembers state clock old new result
  puts_there area list writes behind stands = record {
    keeps = on_ok result (writes.holds keeps.bodies keeps.holds)
        (λ holds. subst (λ (l : MapArea). Keeps l next (state new)) (sym behind) (record { bodies = list keeps.bodies; stands = stands; holds = holds }));
    any_moment = weaker remembers (clock old) (clock new) (ListsEither log.area.log.size keeps.bodies (list keeps.bodies)) (ListsOneOf log mappings next)
        (λ image one. ⊎_elim (λ lists. inl (lists_there log is mappings keeps.bodies keeps.stands image one.whole lists)) (λ lists. inr (lists_there log is next (list keeps.bodies) stands image one.whole lists)) one.lists)
        (writes.any_moment keeps.bodies keeps.holds);
  }

module _ {Disk : Type 0} (log after : MapArea) (is : IsMapArea log) (mappings next : Mappings) (remembers : Type 0) (state : Disk → State) (clock : Disk → Clock) (disk : Disk) (result : Result (Unit {0}) Refusal) (keeps : Keeps log mappings (state disk)) where
  -- a refusal without a call of the device
  pub puts_nothing : OnOk result (Keeps after next (state disk)) → ((image : List ℕ) → (clock disk).left_since (clock disk).moment image → IsImage (state disk) image) → Puts log after mappings next remembers state clock disk disk result
  puts_nothing refused only = record {
    keeps = refused;
    any_moment = started remembers (clock disk) (ListsOneOf log mappings next) (λ image left. inl (keeps_lists log is mappings (state disk) keeps image (only image left)));
  }

-- mappings behind right records are sound
pub all-append : {X : Type 0} (P : X → Type 0) (xs ys : List X) → AllByRecursion P xs → AllByRecursion P ys → AllByRecursion P (xs ++ ys)
all-append P [] ys all more = more
all-append P (x ∷ xs) ys all more = (all.0, all-append P xs ys all.1 more)

pub all-drop : {X : Type 0} (P : X → Type 0) (n : ℕ) (xs : List X) → AllByRecursion P xs → AllByRecursion P (drop n xs)
all-drop P zero xs all = all
all-drop P (suc n) [] all = tt
all-drop P (suc n) (x ∷ xs) all = all-drop P n xs all.1

sound_after : (page_count : ℕ) (mappings : Mappings) (entry : MapEntry) → AreSound page_count mappings → IsRightMapping page_count mappings entry → AreSound page_count (mappings_after mappings entry)
sound_after page_count mappings (Start low capacity) sound right = absurd right
sound_after page_count mappings (Run first pages) sound right =
    record { end = omega (arith, right.1, length-append mappings.pages pages); pages = all-append (λ page. page < page_count) mappings.pages pages sound.pages right.2 }
sound_after page_count mappings (Low low) sound right =
    record { end = omega (arith, right, sound.end, length-drop (low - mappings.low) mappings.pages); pages = all-drop (λ page. page < page_count) (low - mappings.low) mappings.pages sound.pages }

module _ (version : Version) (page_count : ℕ) where
  sound_reached : (start : Mappings) (bodies : List (List ℕ)) (entries : List MapEntry) → AreSound page_count start → InTurn (IsMappingBody version page_count) mappings_after start bodies entries → AreSound page_count (reached mappings_after start entries)
  sound_reached start [] [] sound all = sound
  sound_reached start [] (entry ∷ entries) sound all = absurd all
  sound_reached start (body ∷ bodies) [] sound all = absurd all
  sound_reached start (body ∷ bodies) (entry ∷ entries) sound all = sound_reached (mappings_after start entry) bodies entries (sound_after page_count start entry sound all.0.right) all.1

  pub maplog_sound : (capacity : ℕ) (bodies : List (List ℕ)) (mappings : Mappings) → IsMaplog version page_count capacity bodies mappings → AreSound page_count mappings
  maplog_sound capacity [] mappings is = absurd is
  maplog_sound capacity (body ∷ bodies) mappings is =
      let begin : AreSound page_count is.start = subst (λ (m : Mappings). AreSound page_count m) (sym is.first.start.none) (record { end = omega (arith, is.first.start.right); pages = tt }) in
      subst (λ (m : Mappings). AreSound page_count m) (sym is.kept) (sound_reached is.start bodies is.entries begin is.others)

-- a log that was read
pub fetched_mappings : (log : MapArea) (bodies : List (List ℕ)) (mappings : Mappings) (old new : State) → log.area.log.size ≡ maplog_half log.capacity → Fetched (maplog_half log.capacity) log.area bodies old new → length old.seen ≡ 2 * maplog_half log.capacity
    → new.seen ≡ old.seen → log.area.log.gate ≡ gate_behind bodies → IsMaplog log.version log.page_count log.capacity bodies mappings → FetchedMappings log mappings old new
fetched_mappings log bodies mappings old new halves fetched size same gate stands = record {
  lists = record { size = size; bodies = bodies; lists = fetched.lists; stands = stands };
  keeps = record { bodies = bodies; stands = stands; holds = fetched.holds };
  closed =
      ap (λ n. log.area.log.place + n) gate
      ∙ ap (λ n. n + gate_behind bodies) (sym (place_there (maplog_half log.capacity) (IsMaplog log.version log.page_count log.capacity) log.area bodies old new fetched size same halves));
}
