-- What is read of the Maplog is what the bytes say, and what they say is read.
use Rattle.std.proofs.Common.{◌≡◌, ◌<◌, ◌^◌, ◌++◌, ◌∙◌, ◌&&◌, ℕ, zero, suc, Bool, true, false, cond, leb, eqb, List, [], ◌∷◌, length, Option, Some, None, Result, Ok, Err, refl, sym, ap, subst, arith}
use Rattle.std.specs.List.{AllByRecursion, flat_map}
use Rattle.std.proofs.lemmas.Bool.{leb-true, le-leb, eqb-true, eq-eqb, and_parts}
use Rattle.std.proofs.lemmas.List.{append-nil, nil_from_length}
use Rattle.retro_base.specs.Fields.{field_bytes}
use Rattle.records.specs.declared.decoding.DecodeError.{DecodeError}
use Rattle.records.specs.declared.decoding.DecodeError.TheVariants.{OutOfMemory, Malformed}
use Rattle.history.specs.declared.log.Version.{Version}
use Rattle.history.specs.declared.log.Version.TheVariants.{One, Two}
use Rattle.records.specs.Entries.{page_width}
use Rattle.history.specs.Log.{version_number}
use Rattle.records.specs.Reading.{◌>>=◌, Decodes, where_true, take_number, take_list}
use Rattle.records.proofs.Bytes.{IsBytes}
use Rattle.records.proofs.Fields.{bind_some, where_some, some_is, Takes, Takes-then, number_takes, number_taken}
use Rattle.records.proofs.Lists.{AllInTurn, list_takes, list_taken}
use Rattle.records.specs.declared.map_entry.MapEntry.{MapEntry}
use Rattle.records.specs.declared.map_entry.MapEntry.TheVariants.{Start, Run, Low}
use Rattle.records.specs.declared.map_entry.TheConstants.{RUN_PAGES}
use Rattle.records.specs.Finds.{Finds}
use Rattle.records.specs.Maplog.{map_entry_bytes, MapEntryFits}
use Rattle.records.specs.MapReading.{take_start, take_mapped, no_matter, take_run, take_low, take_map_entry, whole_map_entry}

IsBytes-behind : (b : ℕ) (bytes : List ℕ) → IsBytes (b ∷ bytes) → IsBytes bytes
IsBytes-behind b bytes fits i = fits (suc i)

where_at : {A : Type 0} (b : Bool) (o : Option A) (y : A) → cond b o None ≡ Some y → (b ≡ true) × (o ≡ Some y)
where_at true o y e = (refl, e)
where_at false o y e = absurd cc

-- ---- a start

start_takes : (version : Version) (bytes : List ℕ) (x : MapEntry × List ℕ) → IsBytes bytes → take_start version bytes ≡ Some x → Takes (1 ∷ bytes) (map_entry_bytes version x.0) x.1 × MapEntryFits version x.0
unfolding take_start
start_takes version bytes x fits e =
    let a = bind_some (take_number 2 bytes) (λ number. take_number 8 number.1 >>= λ low. take_number 4 low.1 >>= λ capacity. where_true (eqb number.0 (version_number version)) (Start low.0 capacity.0, capacity.1)) x e in
    let b = bind_some (take_number 8 a.0.1) (λ low. take_number 4 low.1 >>= λ capacity. where_true (eqb a.0.0 (version_number version)) (Start low.0 capacity.0, capacity.1)) x a.2 in
    let d = bind_some (take_number 4 b.0.1) (λ capacity. where_true (eqb a.0.0 (version_number version)) (Start b.0.0 capacity.0, capacity.1)) x b.2 in
    let g = where_some (eqb a.0.0 (version_number version)) (Start b.0.0 d.0.0, d.0.1) x d.2 in
    let t0 = number_takes 2 bytes a.0 fits a.1 in
    let t1 = number_takes 8 a.0.1 b.0 t0.0.rest_fits b.1 in
    let t2 = number_takes 4 b.0.1 d.0 t1.0.rest_fits d.1 in
    let is : a.0.0 ≡ version_number version = eqb-true a.0.0 (version_number version) g.0 in
    let number = subst (λ (n : ℕ). Takes bytes (field_bytes 2 n) a.0.1) is t0.0 in
    let whole = Takes-then bytes (field_bytes 2 (version_number version)) a.0.1 (field_bytes 8 b.0.0 ++ field_bytes 4 d.0.0) d.0.1 number (Takes-then a.0.1 (field_bytes 8 b.0.0) b.0.1 (field_bytes 4 d.0.0) d.0.1 t1.0 t2.0) in
    subst (λ (y : MapEntry × List ℕ). Takes (1 ∷ bytes) (map_entry_bytes version y.0) y.1 × MapEntryFits version y.0) g.1
    (record { parts = ap (λ (t : List ℕ). 1 ∷ t) whole.parts; rest_fits = whole.rest_fits }, (omega (arith, t1.1), omega (arith, t2.1)))

version_small : (version : Version) → version_number version < 256 ^ 2
version_small One = omega arith
version_small Two = omega arith

start_taken : (version : Version) (low capacity : ℕ) → low < 2 ^ 64 → capacity < 2 ^ 32 → take_start version (field_bytes 2 (version_number version) ++ (field_bytes 8 low ++ (field_bytes 4 capacity ++ []))) ≡ Some (Start low capacity, [])
unfolding take_start
start_taken version low capacity a b =
    rw (number_taken 2 (version_number version) (field_bytes 8 low ++ (field_bytes 4 capacity ++ [])) (version_small version), number_taken 8 low (field_bytes 4 capacity ++ []) (omega (arith, a)), number_taken 4 capacity [] (omega (arith, b)), eq-eqb (version_number version) (version_number version) refl)
    refl

-- ---- a run

-- each page of a run fits its field
abbrev PageInTurn : Version → ℕ → ℕ → Type 0
PageInTurn version number page = page < 256 ^ page_width version

mapped_takes : (version : Version) (number : ℕ) (bytes : List ℕ) (x : ℕ × List ℕ) → IsBytes bytes → take_mapped version number bytes ≡ Some x → Takes bytes (field_bytes (page_width version) x.0) x.1 × PageInTurn version number x.0
mapped_takes version number bytes x fits e = number_takes (page_width version) bytes x fits e

mapped_taken : (version : Version) (number page : ℕ) (rest : List ℕ) → PageInTurn version number page → take_mapped version number (field_bytes (page_width version) page ++ rest) ≡ Some (page, rest)
mapped_taken version number page rest lt = number_taken (page_width version) page rest lt

all_of : (version : Version) (number : ℕ) (pages : List ℕ) → AllInTurn (PageInTurn version) no_matter number pages → AllByRecursion (λ page. page < 256 ^ page_width version) pages
all_of version number [] all = tt
all_of version number (page ∷ pages) all = (all.0, all_of version 0 pages all.1)

all_in_turn : (version : Version) (number : ℕ) (pages : List ℕ) → AllByRecursion (λ page. page < 256 ^ page_width version) pages → AllInTurn (PageInTurn version) no_matter number pages
all_in_turn version number [] all = tt
all_in_turn version number (page ∷ pages) all = (all.0, all_in_turn version 0 pages all.1)

run_takes : (version : Version) (bytes : List ℕ) (x : MapEntry × List ℕ) → IsBytes bytes → take_run version bytes ≡ Some x → Takes (2 ∷ bytes) (map_entry_bytes version x.0) x.1 × MapEntryFits version x.0
unfolding take_run
run_takes version bytes x fits e =
    let a = bind_some (take_number 8 bytes) (λ first. take_number 4 first.1 >>= λ count. (cond (leb 1 count.0 && leb count.0 RUN_PAGES) (take_list (take_mapped version) no_matter count.0 0 count.1) None) >>= λ pages. Some (Run first.0 pages.0, pages.1)) x e in
    let b = bind_some (take_number 4 a.0.1) (λ count. (cond (leb 1 count.0 && leb count.0 RUN_PAGES) (take_list (take_mapped version) no_matter count.0 0 count.1) None) >>= λ pages. Some (Run a.0.0 pages.0, pages.1)) x a.2 in
    let d = bind_some (cond (leb 1 b.0.0 && leb b.0.0 RUN_PAGES) (take_list (take_mapped version) no_matter b.0.0 0 b.0.1) None) (λ pages. Some (Run a.0.0 pages.0, pages.1)) x b.2 in
    let g = where_at (leb 1 b.0.0 && leb b.0.0 RUN_PAGES) (take_list (take_mapped version) no_matter b.0.0 0 b.0.1) d.0 d.1 in
    let both = and_parts (leb 1 b.0.0) (leb b.0.0 RUN_PAGES) g.0 in
    let t0 = number_takes 8 bytes a.0 fits a.1 in
    let t1 = number_takes 4 a.0.1 b.0 t0.0.rest_fits b.1 in
    let l = list_takes (take_mapped version) (field_bytes (page_width version)) (PageInTurn version) no_matter (mapped_takes version) b.0.0 0 b.0.1 d.0 t1.0.rest_fits g.1 in
    let counted : Takes a.0.1 (field_bytes 4 (length d.0.0)) b.0.1 = subst (λ (n : ℕ). Takes a.0.1 (field_bytes 4 n) b.0.1) (sym l.1) t1.0 in
    let listed = Takes-then a.0.1 (field_bytes 4 (length d.0.0)) b.0.1 (flat_map (field_bytes (page_width version)) d.0.0) d.0.1 counted l.0 in
    let whole = Takes-then bytes (field_bytes 8 a.0.0) a.0.1 (field_bytes 4 (length d.0.0) ++ flat_map (field_bytes (page_width version)) d.0.0) d.0.1 t0.0 listed in
    subst (λ (y : MapEntry × List ℕ). Takes (2 ∷ bytes) (map_entry_bytes version y.0) y.1 × MapEntryFits version y.0) (some_is (Run a.0.0 d.0.0, d.0.1) x d.2) (
      record { parts = ap (λ (t : List ℕ). 2 ∷ t) whole.parts; rest_fits = whole.rest_fits },
      (omega (arith, t0.1), omega (arith, l.1, leb-true 1 b.0.0 both.0), omega (arith, l.1, leb-true b.0.0 RUN_PAGES both.1), all_of version 0 d.0.0 l.2),
    )

run_taken : (version : Version) (first : ℕ) (pages : List ℕ) → MapEntryFits version (Run first pages)
    → take_run version (field_bytes 8 first ++ (field_bytes 4 (length pages) ++ (flat_map (field_bytes (page_width version)) pages ++ []))) ≡ Some (Run first pages, [])
unfolding take_run
run_taken version first pages fits =
    let rest : List ℕ = flat_map (field_bytes (page_width version)) pages ++ [] in
    let small : length pages < 256 ^ 4 = omega (arith, fits.2) in
    rw (
      number_taken 8 first (field_bytes 4 (length pages) ++ rest) (omega (arith, fits.0)),
      number_taken 4 (length pages) rest small,
      le-leb 1 (length pages) fits.1,
      le-leb (length pages) RUN_PAGES fits.2,
      list_taken (take_mapped version) (field_bytes (page_width version)) (PageInTurn version) no_matter (mapped_taken version) 0 pages [] (all_in_turn version 0 pages fits.3),
    )
    refl

-- ---- a low mark

low_takes : (version : Version) (bytes : List ℕ) (x : MapEntry × List ℕ) → IsBytes bytes → take_low bytes ≡ Some x → Takes (3 ∷ bytes) (map_entry_bytes version x.0) x.1 × MapEntryFits version x.0
unfolding take_low
low_takes version bytes x fits e =
    let a = bind_some (take_number 8 bytes) (λ low. Some (Low low.0, low.1)) x e in
    let t = number_takes 8 bytes a.0 fits a.1 in
    subst (λ (y : MapEntry × List ℕ). Takes (3 ∷ bytes) (map_entry_bytes version y.0) y.1 × MapEntryFits version y.0) (some_is (Low a.0.0, a.0.1) x a.2)
    (record { parts = ap (λ (t : List ℕ). 3 ∷ t) t.0.parts; rest_fits = t.0.rest_fits }, omega (arith, t.1))

low_taken : (low : ℕ) → low < 2 ^ 64 → take_low (field_bytes 8 low ++ []) ≡ Some (Low low, [])
unfolding take_low
low_taken low lt = rw (number_taken 8 low [] (omega (arith, lt))) refl

-- ---- any record

entry_takes : (version : Version) (bytes : List ℕ) (x : MapEntry × List ℕ) → IsBytes bytes → take_map_entry version bytes ≡ Some x → Takes bytes (map_entry_bytes version x.0) x.1 × MapEntryFits version x.0
unfolding take_map_entry
entry_takes version [] x fits e = absurd cc
entry_takes version (zero ∷ bytes) x fits e = absurd cc
entry_takes version (suc zero ∷ bytes) x fits e = start_takes version bytes x (IsBytes-behind 1 bytes fits) e
entry_takes version (suc (suc zero) ∷ bytes) x fits e = run_takes version bytes x (IsBytes-behind 2 bytes fits) e
entry_takes version (suc (suc (suc zero)) ∷ bytes) x fits e = low_takes version bytes x (IsBytes-behind 3 bytes fits) e
entry_takes version (suc (suc (suc (suc tag))) ∷ bytes) x fits e = absurd cc

entry_taken : (version : Version) (entry : MapEntry) → MapEntryFits version entry → take_map_entry version (map_entry_bytes version entry) ≡ Some (entry, [])
unfolding take_map_entry
entry_taken version (Start low capacity) fits =
    ap (take_start version) (ap (λ (t : List ℕ). field_bytes 2 (version_number version) ++ (field_bytes 8 low ++ t)) (sym (append-nil (field_bytes 4 capacity)))) ∙ start_taken version low capacity fits.0 fits.1
entry_taken version (Run first pages) fits =
    ap (take_run version) (ap (λ (t : List ℕ). field_bytes 8 first ++ (field_bytes 4 (length pages) ++ t)) (sym (append-nil (flat_map (field_bytes (page_width version)) pages)))) ∙ run_taken version first pages fits
entry_taken version (Low low) fits = ap take_low (sym (append-nil (field_bytes 8 low))) ∙ low_taken low fits

pub whole_takes : (version : Version) (bytes : List ℕ) (entry : MapEntry) → IsBytes bytes → whole_map_entry version bytes ≡ Some entry → MapEntryFits version entry × (bytes ≡ map_entry_bytes version entry)
unfolding whole_map_entry
whole_takes version bytes entry fits e =
    let a = bind_some (take_map_entry version bytes) (λ x. where_true (eqb (length x.1) 0) x.0) entry e in
    let g = where_some (eqb (length a.0.1) 0) a.0.0 entry a.2 in
    let none : a.0.1 ≡ [] = nil_from_length a.0.1 (eqb-true _ _ g.0) in
    let t = entry_takes version bytes a.0 fits a.1 in
    subst (λ (y : MapEntry). MapEntryFits version y × (bytes ≡ map_entry_bytes version y)) g.1 (t.1, t.0.parts ∙ ap (λ r. map_entry_bytes version a.0.0 ++ r) none ∙ append-nil (map_entry_bytes version a.0.0))

pub whole_taken : (version : Version) (entry : MapEntry) → MapEntryFits version entry → whole_map_entry version (map_entry_bytes version entry) ≡ Some entry
unfolding whole_map_entry
whole_taken version entry fits = rw (entry_taken version entry fits) refl

-- a record has one list of bytes, and a list of bytes is of one record
pub one_map_entry : (version : Version) (entry other : MapEntry) → MapEntryFits version entry → MapEntryFits version other → map_entry_bytes version entry ≡ map_entry_bytes version other → entry ≡ other
one_map_entry version entry other fits fit e = some_is entry other (sym (whole_taken version entry fits) ∙ ap (whole_map_entry version) e ∙ whole_taken version other fit)

pub is_found : (version : Version) (bytes : List ℕ) (r : Result MapEntry DecodeError) → IsBytes bytes → Decodes (λ e. e) r (whole_map_entry version bytes)
    → Finds (λ entry. MapEntryFits version entry × (bytes ≡ map_entry_bytes version entry)) r
is_found version bytes (Ok entry) fits given = whole_takes version bytes entry fits given
is_found version bytes (Err OutOfMemory) fits given = tt
is_found version bytes (Err Malformed) fits given = λ entry is. let some : Some entry ≡ None = sym (whole_taken version entry is.0) ∙ ap (whole_map_entry version) (sym is.1) ∙ given in absurd cc
