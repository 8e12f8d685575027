-- Mappings as runs.
use Rattle.std.proofs.Common.{◌≡◌, ◌∙◌, ◌+◌, ◌-◌, ◌*◌, ◌<◌, ◌≤◌, ◌^◌, ◌++◌, ◌∷◌, [], ℕ, zero, suc, List, length, take, drop, min, inl, inr, refl, sym, ap, subst, arith, length-append}
use Rattle.std.proofs.Math.Seq.{take-add}
use Rattle.std.proofs.lemmas.List.{length-take, length-drop, take_all}
use Rattle.std.proofs.lemmas.List.FromFn.{map-range_with_len_more}
use Rattle.std.proofs.lemmas.Bool.{cases_lt}
use Rattle.std.proofs.lemmas.Grind.{div_ceil_times}
use Rattle.std.specs.Int.{div_ceil}
use Rattle.std.specs.List.{AllByRecursion, flat_map}
use Rattle.retro_base.specs.Framing.{records_of}
use Rattle.retro_base.specs.Fields.{field_bytes}
use Rattle.retro_base.proofs.FieldLaws.{length-field_bytes}
use Rattle.retro_base.specs.declared.limits.TheConstants.{MAX_CAPTURES}
use Rattle.gate_log.proofs.Framing.{length-records-push}
use Rattle.history.specs.declared.log.Version.{Version}
use Rattle.history.specs.declared.log.Version.TheVariants.{One, Two}
use Rattle.history.specs.Log.{version_number}
use Rattle.records.specs.Entries.{page_width}
use Rattle.records.specs.declared.map_entry.MapEntry.TheVariants.{Start, Run}
use Rattle.records.specs.Maplog.{IsMaplog, IsMappingBody, map_entry_bytes}
use Rattle.map_log.specs.Bodies.{bodies_to, maplog_bodies, run_at}
use Rattle.map_log.proofs.Records.{all-drop, maplog_alone, maplog_more}

pub all-take : {X : Type 0} (P : X → Type 0) (n : ℕ) (xs : List X) → AllByRecursion P xs → AllByRecursion P (take n xs)
all-take P zero xs all = tt
all-take P (suc n) [] all = tt
all-take P (suc n) (x ∷ xs) all = (all.0, all-take P n xs all.1)

-- pages of a store fit where the store's fit
pub pages-fit : (page_count limit : ℕ) (pages : List ℕ) → page_count ≤ limit → AllByRecursion (λ page. page < page_count) pages → AllByRecursion (λ page. page < limit) pages
pages-fit page_count limit [] le all = tt
pages-fit page_count limit (page ∷ pages) le all = (omega (arith, le, all.0), pages-fit page_count limit pages le all.1)

pub length-pages : (version : Version) (pages : List ℕ) → length (flat_map (field_bytes (page_width version)) pages) ≡ page_width version * length pages
length-pages version [] = omega arith
length-pages version (page ∷ pages) =
    omega (arith, length-append (field_bytes (page_width version) page) (flat_map (field_bytes (page_width version)) pages), length-field_bytes (page_width version) page, length-pages version pages)

pub length-run : (version : Version) (first : ℕ) (pages : List ℕ) → length (map_entry_bytes version (Run first pages)) ≡ 13 + page_width version * length pages
length-run version first pages =
    omega (arith, length-append (field_bytes 8 first) (field_bytes 4 (length pages) ++ flat_map (field_bytes (page_width version)) pages), length-append (field_bytes 4 (length pages)) (flat_map (field_bytes (page_width version)) pages), length-field_bytes 8 first, length-field_bytes 4 (length pages), length-pages version pages)

length-start : (version : Version) (low capacity : ℕ) → length (map_entry_bytes version (Start low capacity)) ≡ 15
length-start version low capacity =
    omega (arith, length-append (field_bytes 2 (version_number version)) (field_bytes 8 low ++ field_bytes 4 capacity), length-append (field_bytes 8 low) (field_bytes 4 capacity), length-field_bytes 2 (version_number version), length-field_bytes 8 low, length-field_bytes 4 capacity)

pub length-start_body : (version : Version) (low capacity : ℕ) (bodies : List (List ℕ)) → bodies ≡ map_entry_bytes version (Start low capacity) ∷ [] → length (records_of bodies) ≡ 20
length-start_body version low capacity bodies is =
    ap (λ (bs : List (List ℕ)). length (records_of bs)) is ∙ omega (arith, length-start version low capacity, length-records-push [] (map_entry_bytes version (Start low capacity)))

-- the part of the pages that a run has
pub run_part : (pages : List ℕ) (from to : ℕ) → to ≡ min (length pages) (from + 4096) → from ≤ length pages → take (to - from) (drop from pages) ≡ take 4096 (drop from pages)
run_part pages from to is within = elim (cases_lt (length pages) (from + 4096)) [
  | inl less ↦
      let rest : length (drop from pages) ≤ to - from = omega (arith, length-drop from pages) in
      let more : length (drop from pages) ≤ 4096 = omega (arith, length-drop from pages) in
      take_all (to - from) (drop from pages) rest ∙ sym (take_all 4096 (drop from pages) more)
  | inr full ↦ let count : to - from ≡ 4096 = omega arith in ap (λ (n : ℕ). take n (drop from pages)) count
]

-- one run more
pub bodies-more : (version : Version) (capacity low : ℕ) (pages : List ℕ) (count : ℕ) → bodies_to version capacity low pages (count + 1) ≡ bodies_to version capacity low pages count ++ map_entry_bytes version (run_at low pages count) ∷ []
bodies-more version capacity low pages count =
    ap (λ (bs : List (List ℕ)). map_entry_bytes version (Start low capacity) ∷ bs) (map-range_with_len_more (λ index. map_entry_bytes version (run_at low pages index)) 0 count count (omega arith))

module _ (version : Version) (capacity low : ℕ) (pages : List ℕ) where
  -- the bytes of so many records, all runs but the last of them full
  size_to : (count : ℕ) → count * 4096 < length pages + 4096
      → length (records_of (bodies_to version capacity low pages count)) ≡ 20 + 18 * count + page_width version * min (length pages) (count * 4096)
  size_to zero some =
      let none : min (length pages) (0 * 4096) ≡ 0 = omega arith in
      let nothing : page_width version * min (length pages) (0 * 4096) ≡ page_width version * 0 = ap (λ (n : ℕ). page_width version * n) none in
      omega (arith, nothing, length-start version low capacity, length-records-push [] (map_entry_bytes version (Start low capacity)))
  size_to (suc count) some =
      subst (λ (n : ℕ). length (records_of (bodies_to version capacity low pages n)) ≡ 20 + 18 * n + page_width version * min (length pages) (n * 4096)) (omega arith) (one_more count (omega (arith, some)) (size_to count (omega (arith, some))))
    where
      add_up : (before after count many body run width : ℕ) → after ≡ before + body + 5 → body ≡ 13 + width * run → run ≡ min 4096 (many - count * 4096) → count * 4096 < many → before ≡ 20 + 18 * count + width * min many (count * 4096)
          → after ≡ 20 + 18 * (count + 1) + width * min many ((count + 1) * 4096)
      add_up before after count many body run width a b c d e =
          let front : min many (count * 4096) ≡ count * 4096 = omega arith in
          let whole : min many ((count + 1) * 4096) ≡ count * 4096 + run = omega arith in
          let left : width * min many (count * 4096) ≡ width * (count * 4096) = ap (λ (n : ℕ). width * n) front in
          let right : width * min many ((count + 1) * 4096) ≡ width * (count * 4096 + run) = ap (λ (n : ℕ). width * n) whole in
          omega (arith, left, right)

      one_more : (count : ℕ) → count * 4096 < length pages → length (records_of (bodies_to version capacity low pages count)) ≡ 20 + 18 * count + page_width version * min (length pages) (count * 4096)
          → length (records_of (bodies_to version capacity low pages (count + 1))) ≡ 20 + 18 * (count + 1) + page_width version * min (length pages) ((count + 1) * 4096)
      one_more count less before =
          let run : List ℕ = take 4096 (drop (count * 4096) pages) in
          add_up (length (records_of (bodies_to version capacity low pages count))) (length (records_of (bodies_to version capacity low pages (count + 1)))) count (length pages) (length (map_entry_bytes version (run_at low pages count))) (length run) (page_width version)
          (ap (λ (bs : List (List ℕ)). length (records_of bs)) (bodies-more version capacity low pages count) ∙ length-records-push (bodies_to version capacity low pages count) (map_entry_bytes version (run_at low pages count)))
          (length-run version (low + count * 4096) run)
          (omega (arith, length-take 4096 (drop (count * 4096) pages), length-drop (count * 4096) pages)) less before

  -- so many runs are that many pages' mappings
  stands_to : (page_count count : ℕ) → count * 4096 < length pages + 4096 → low + length pages ≤ MAX_CAPTURES → capacity < 2 ^ 32 → page_count ≤ 256 ^ page_width version → AllByRecursion (λ page. page < page_count) pages
      → IsMaplog version page_count capacity (bodies_to version capacity low pages count) (record { low = low; pages = take (count * 4096) pages })
  stands_to page_count zero some end small fits all =
      maplog_alone version page_count capacity (map_entry_bytes version (Start low capacity)) (record { low = low; pages = [] })
      (record { entry = Start low capacity; spelled = refl; fits = (omega (arith, end), small); start = record { low = low; is = refl; right = omega (arith, end); none = refl } })
  stands_to page_count (suc count) some end small fits all =
      subst (λ (n : ℕ). IsMaplog version page_count capacity (bodies_to version capacity low pages n) (record { low = low; pages = take (n * 4096) pages })) (omega arith)
      (one_more count (omega (arith, some)) (stands_to page_count count (omega (arith, some)) end small fits all))
    where
      one_more : (count : ℕ) → count * 4096 < length pages → IsMaplog version page_count capacity (bodies_to version capacity low pages count) (record { low = low; pages = take (count * 4096) pages })
          → IsMaplog version page_count capacity (bodies_to version capacity low pages (count + 1)) (record { low = low; pages = take ((count + 1) * 4096) pages })
      one_more count less before =
          let front : List ℕ = take (count * 4096) pages in
          let run : List ℕ = take 4096 (drop (count * 4096) pages) in
          let reach : length front ≡ count * 4096 = omega (arith, length-take (count * 4096) pages) in
          let long : length run ≡ min 4096 (length pages - count * 4096) = omega (arith, length-take 4096 (drop (count * 4096) pages), length-drop (count * 4096) pages) in
          let sum : count * 4096 + 4096 ≡ (count + 1) * 4096 = omega arith in
          let next : front ++ run ≡ take ((count + 1) * 4096) pages = sym (take-add (count * 4096) 4096 pages) ∙ ap (λ (n : ℕ). take n pages) sum in
          let here : low + count * 4096 ≡ low + length front = omega arith in
          let part : AllByRecursion (λ page. page < page_count) run = all-take (λ page. page < page_count) 4096 (drop (count * 4096) pages) (all-drop (λ page. page < page_count) (count * 4096) pages all) in
          let body : IsMappingBody version page_count (record { low = low; pages = front }) (map_entry_bytes version (run_at low pages count)) (run_at low pages count) = record {
            spelled = refl;
            fits = (omega (arith, end), omega arith, omega arith, pages-fit page_count (256 ^ page_width version) run fits part);
            right = (here, omega (arith, end), part);
          } in
          subst (λ (ps : List ℕ). IsMaplog version page_count capacity (bodies_to version capacity low pages (count + 1)) (record { low = low; pages = ps })) next
          (subst (λ (bs : List (List ℕ)). IsMaplog version page_count capacity bs (record { low = low; pages = front ++ run })) (sym (bodies-more version capacity low pages count))
          (maplog_more version page_count capacity (bodies_to version capacity low pages count) (record { low = low; pages = front }) (map_entry_bytes version (run_at low pages count)) (run_at low pages count) before body))

  count_there : div_ceil (length pages) 4096 * 4096 < length pages + 4096
  count_there = (div_ceil_times (length pages) 4096 (omega arith)).1

  whole_there : length pages ≤ div_ceil (length pages) 4096 * 4096
  whole_there = (div_ceil_times (length pages) 4096 (omega arith)).0

  -- all runs are all mappings
  pub bodies_stand : (page_count : ℕ) → low + length pages ≤ MAX_CAPTURES → capacity < 2 ^ 32 → page_count ≤ 256 ^ page_width version → AllByRecursion (λ page. page < page_count) pages
      → IsMaplog version page_count capacity (maplog_bodies version capacity low pages) (record { low = low; pages = pages })
  bodies_stand page_count end small fits all =
      subst (λ (ps : List ℕ). IsMaplog version page_count capacity (maplog_bodies version capacity low pages) (record { low = low; pages = ps })) (take_all (div_ceil (length pages) 4096 * 4096) pages whole_there)
      (stands_to page_count (div_ceil (length pages) 4096) count_there end small fits all)

  -- how many bytes their records have
  pub bodies_size : length (records_of (maplog_bodies version capacity low pages)) ≤ 38 + 5 * length pages
  bodies_size =
      let all : min (length pages) (div_ceil (length pages) 4096 * 4096) ≡ length pages = omega (arith, whole_there) in
      bound version (div_ceil (length pages) 4096) (length pages) (length (records_of (maplog_bodies version capacity low pages))) (size_to (div_ceil (length pages) 4096) count_there ∙ ap (λ (n : ℕ). 20 + 18 * div_ceil (length pages) 4096 + page_width version * n) all) count_there
    where
      bound : (version : Version) (count many size : ℕ) → size ≡ 20 + 18 * count + page_width version * many → count * 4096 < many + 4096 → size ≤ 38 + 5 * many
      bound One count many size is few = omega arith
      bound Two count many size is few = omega arith
