-- The bodies of the Maplog.
use Rattle.std.proofs.Common.{◌≡◌, ◌∙◌, ◌<◌, ◌+◌, ℕ, suc, List, [], ◌∷◌, length, take, get_or, refl, sym, ap, subst, arith}
use Rattle.history.specs.declared.log.Version.{Version}
use Rattle.skippy.specs.Mappings.{Mappings}
use Rattle.records.specs.declared.map_entry.MapEntry.{MapEntry}
use Rattle.records.specs.declared.map_entry.MapEntry.TheVariants.{Start}
use Rattle.gate_log.specs.Bodies.{BreaksBehind, BreaksAs}
use Rattle.records.specs.InTurn.{InTurn, stopping, reached}
use Rattle.records.specs.Maplog.{map_entry_bytes, MapEntryFits, mappings_after, IsRightMapping, IsStart, IsStartBody, IsMappingBody, IsMaplog}
use Rattle.records.specs.Laws.{IsReadOneWay}
use Rattle.records.proofs.MapSpelling.{one_map_entry}
use Rattle.std.specs.Prelude.{Result, Ok, Err}
use Rattle.records.specs.declared.decoding.DecodeError.{DecodeError}
use Rattle.records.specs.declared.decoding.DecodeError.TheVariants.{OutOfMemory, Malformed}
use Rattle.records.specs.Finds.{Finds, FindsNone}
use Rattle.records.proofs.Turns as turns

start_in : (low capacity lower more : ℕ) → Start low capacity ≡ Start lower more → (low ≡ lower) × (capacity ≡ more)
start_in low capacity lower more e = (cc, cc)

module _ (version : Version) (page_count capacity : ℕ) where
  pub one_start : (body : List ℕ) (start other : Mappings) → IsStartBody version capacity body start → IsStartBody version capacity body other → start ≡ other
  one_start body start other this that =
      let same = start_in this.start.low capacity that.start.low capacity (sym this.start.is ∙ one_map_entry version this.entry that.entry this.fits that.fits (sym this.spelled ∙ that.spelled) ∙ that.start.is) in
      this.start.none ∙ ap (λ (n : ℕ). let m : Mappings = record { low = n; pages = [] } in m) same.0 ∙ sym that.start.none

  pub one_mapping : (place : Mappings) (body : List ℕ) (entry other : MapEntry) → IsMappingBody version page_count place body entry → IsMappingBody version page_count place body other → entry ≡ other
  one_mapping place body entry other this that = one_map_entry version entry other this.fits that.fits (sym this.spelled ∙ that.spelled)

  none : (x : Mappings) → IsMaplog version page_count capacity [] x → ⊥
  none x is = is

  parts : (body : List ℕ) (bodies : List (List ℕ)) (x : Mappings) → IsMaplog version page_count capacity (body ∷ bodies) x
      → (place : Mappings) × (items : List MapEntry) × IsStartBody version capacity body place × InTurn (IsMappingBody version page_count) mappings_after place bodies items
  parts body bodies x is = (is.start, is.entries, is.first, is.others)

  pub whole : (body : List ℕ) (bodies : List (List ℕ)) (place : Mappings) (items : List MapEntry) → IsStartBody version capacity body place → InTurn (IsMappingBody version page_count) mappings_after place bodies items
      → (x : Mappings) × IsMaplog version page_count capacity (body ∷ bodies) x
  whole body bodies place items first all = (reached mappings_after place items, record { start = place; entries = items; first = first; others = all; kept = refl })

  pub empty_breaks : BreaksBehind (IsMaplog version page_count capacity) [] []
  empty_breaks = turns.breaks_empty (IsStartBody version capacity) (IsMappingBody version page_count) mappings_after (IsMaplog version page_count capacity) none parts whole one_start one_mapping

  pub first_breaks : (body : List ℕ) (bodies : List (List ℕ)) → ((start : Mappings) → IsStartBody version capacity body start → ⊥) → BreaksBehind (IsMaplog version page_count capacity) (body ∷ bodies) []
  first_breaks = turns.breaks_first (IsStartBody version capacity) (IsMappingBody version page_count) mappings_after (IsMaplog version page_count capacity) none parts whole one_start one_mapping

  pub later_breaks : (first : List ℕ) (bodies : List (List ℕ)) (start : Mappings) (entries : List MapEntry) (i : ℕ) → IsStartBody version capacity first start → i < length bodies → InTurn (IsMappingBody version page_count) mappings_after start (take i bodies) entries
      → ((entry : MapEntry) → IsMappingBody version page_count (reached mappings_after start entries) (get_or bodies i []) entry → ⊥) → BreaksBehind (IsMaplog version page_count capacity) (first ∷ bodies) (first ∷ take i bodies)
  later_breaks = turns.breaks_behind (IsStartBody version capacity) (IsMappingBody version page_count) mappings_after (IsMaplog version page_count capacity) none parts whole one_start one_mapping

  one_maplog : (bodies : List (List ℕ)) (x y : Mappings) → IsMaplog version page_count capacity bodies x → IsMaplog version page_count capacity bodies y → x ≡ y
  one_maplog [] x y this that = absurd this
  one_maplog (body ∷ bodies) x y this that =
      let starts = one_start body this.start that.start this.first that.first in
      let entries = turns.in_turn-one (IsMappingBody version page_count) mappings_after one_mapping this.start bodies this.entries that.entries this.others
      (subst (λ (m : Mappings). InTurn (IsMappingBody version page_count) mappings_after m bodies that.entries) (sym starts) that.others) in
      this.kept ∙ ap (λ (m : Mappings). reached mappings_after m this.entries) starts ∙ ap (λ (es : List MapEntry). reached mappings_after that.start es) entries ∙ sym that.kept

  pub maplog_one_way : IsReadOneWay (IsMaplog version page_count capacity)
  maplog_one_way = record {
    one_value = one_maplog;
    one_front = turns.one_front (IsStartBody version capacity) (IsMappingBody version page_count) mappings_after (IsMaplog version page_count capacity) none parts whole one_start one_mapping;
    not_both = λ bodies front x is breaks. breaks.broken x is;
  }

-- ---- what is found of a body

abbrev Spells : Version → List ℕ → MapEntry → Type 0
Spells version body entry = MapEntryFits version entry × (body ≡ map_entry_bytes version entry)

pub no_start_there : (version : Version) (capacity : ℕ) (body : List ℕ) (e : DecodeError) → FindsNone (Spells version body) e → FindsNone (IsStartBody version capacity body) e
no_start_there version capacity body OutOfMemory none = tt
no_start_there version capacity body Malformed none = λ start is. none is.entry (is.fits, is.spelled)

pub start_there : (version : Version) (capacity : ℕ) (body : List ℕ) (entry : MapEntry) (r : Result Mappings DecodeError) → Spells version body entry → Finds (IsStart capacity entry) r → Finds (IsStartBody version capacity body) r
start_there version capacity body entry (Ok start) spells found = record { entry = entry; spelled = spells.1; fits = spells.0; start = found }
start_there version capacity body entry (Err OutOfMemory) spells found = tt
start_there version capacity body entry (Err Malformed) spells found = λ start is.
    found start (subst (λ (x : MapEntry). IsStart capacity x start) (one_map_entry version is.entry entry is.fits spells.0 (sym is.spelled ∙ spells.1)) is.start)

pub no_mapping_there : (version : Version) (page_count : ℕ) (place : Mappings) (body : List ℕ) (e : DecodeError) → FindsNone (Spells version body) e → FindsNone (IsMappingBody version page_count place body) e
no_mapping_there version page_count place body OutOfMemory none = tt
no_mapping_there version page_count place body Malformed none = λ entry is. none entry (is.fits, is.spelled)

pub mapping_there : (version : Version) (page_count : ℕ) (place : Mappings) (body : List ℕ) (entry : MapEntry) (r : Result MapEntry DecodeError) → Spells version body entry
    → Finds (λ (found : MapEntry). (found ≡ entry) × IsRightMapping page_count place found) r → Finds (IsMappingBody version page_count place body) r
mapping_there version page_count place body entry (Ok other) spells found =
    let same = sym found.0 in
    record { spelled = spells.1 ∙ ap (map_entry_bytes version) same; fits = subst (MapEntryFits version) same spells.0; right = found.1 }
mapping_there version page_count place body entry (Err OutOfMemory) spells found = tt
mapping_there version page_count place body entry (Err Malformed) spells found = λ other is. found other (one_map_entry version other entry is.fits spells.0 (sym is.spelled ∙ spells.1), is.right)

-- ---- where the list breaks

pub breaks_later : (version : Version) (page_count capacity : ℕ) (first : List ℕ) (bodies : List (List ℕ)) (start place : Mappings) (entries : List MapEntry) (body : List ℕ) (i : ℕ) (e : DecodeError) → IsStartBody version capacity first start → i < length bodies → InTurn (IsMappingBody version page_count) mappings_after start (take i bodies) entries
    → place ≡ reached mappings_after start entries → get_or bodies i [] ≡ body → FindsNone (IsMappingBody version page_count place body) e → BreaksAs (IsMaplog version page_count capacity) (first ∷ bodies) (stopping e (i + 1))
breaks_later version page_count capacity first bodies start place entries body i OutOfMemory head lt all at is none = tt
breaks_later version page_count capacity first bodies start place entries body i Malformed head lt all at is none =
    let next : i + 1 ≡ suc i = omega arith in
    let front : first ∷ take i bodies ≡ take (i + 1) (first ∷ bodies) = sym (ap (λ (m : ℕ). take m (first ∷ bodies)) next) in
    subst (λ (l : List (List ℕ)). BreaksBehind (IsMaplog version page_count capacity) (first ∷ bodies) l) front
    (later_breaks version page_count capacity first bodies start entries i head lt all
    (λ entry there. none entry (subst (λ (p : Mappings). IsMappingBody version page_count p body entry) (sym at) (subst (λ (b : List ℕ). IsMappingBody version page_count (reached mappings_after start entries) b entry) is there))))

pub breaks_at_first : (version : Version) (page_count capacity : ℕ) (first : List ℕ) (bodies : List (List ℕ)) (e : DecodeError) → FindsNone (IsStartBody version capacity first) e → BreaksAs (IsMaplog version page_count capacity) (first ∷ bodies) (stopping e 0)
breaks_at_first version page_count capacity first bodies OutOfMemory none = tt
breaks_at_first version page_count capacity first bodies Malformed none = first_breaks version page_count capacity first bodies none
