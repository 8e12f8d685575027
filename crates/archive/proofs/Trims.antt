-- Mappings below a number that are forgotten.
use Rattle.std.proofs.Common.{◌≡◌, ◌∙◌, ◌-◌, ◌≤◌, ◌<◌, ◌∷◌, ℕ, List, drop, max, Result, Err, refl, sym, ap, subst, arith}
use Rattle.std.specs.Prelude.{Contains}
use Rattle.std.proofs.lemmas.List.{length-drop}
use Rattle.retro_base.specs.declared.refusal.Refusal.{Refusal}
use Rattle.gate_log.specs.Cause.{IsDiskFault}
use Rattle.history.specs.declared.log.Version.{Version}
use Rattle.records.specs.Maplog.{IsMappingBody, map_entry_bytes}
use Rattle.records.specs.declared.map_entry.MapEntry.TheVariants.{Low}
use Rattle.skippy.specs.Mappings.{Mappings, end_of, trim}
use Rattle.race_model.specs.Vault.{Maplog, trim_to}
use Rattle.archive.specs.Side.{Lowers, Side}

pub trim_to_is : (m : Mappings) (low : ℕ) → m.low ≤ low → trim_to m low ≡ trim m low
trim_to_is m low above = let most : max m.low low ≡ low = omega arith in ap (λ n. trim m n) most

pub trim_self : (m : Mappings) → trim m m.low ≡ m
trim_self m = let none : m.low - m.low ≡ 0 = omega arith in ap (λ n. let r : Mappings = record { low = m.low; pages = drop n m.pages } in r) none

pub trim_to_none : (m : Mappings) (low : ℕ) → low ≤ m.low → trim_to m low ≡ m
trim_to_none m low below = let most : max m.low low ≡ m.low = omega arith in ap (λ n. trim m n) most ∙ trim_self m

-- a number raised to the lowest mapping
pub trim_to_max : (m : Mappings) (low least : ℕ) → least ≡ max low m.low → trim_to m least ≡ trim_to m low
trim_to_max m low least is = let most : max m.low least ≡ max m.low low = omega arith in ap (λ n. trim m n) most

pub trim_end : (m : Mappings) (low held : ℕ) → m.low ≤ low → low ≤ held → end_of m ≡ held → end_of (trim m low) ≡ held
trim_end m low held above within end = omega (arith, length-drop (low - m.low) m.pages, end)

pub first_of : (maplog : Maplog) (others : List Maplog) → Contains (maplog ∷ others) maplog
first_of maplog others = (0, omega arith, refl)

pub low_body_is : (version : Version) (page_count low : ℕ) (m : Mappings) (mark : List ℕ) → m.low ≤ low → low ≤ end_of m → low < 18446744073709551616 → mark ≡ map_entry_bytes version (Low low) → IsMappingBody version page_count m mark (Low low)
low_body_is version page_count low m mark above within fits spelled = record { spelled = spelled; fits = fits; right = (above, within) }

-- a call that failed leaves memory as it was
pub lowers_failed : {D : Type 0} (old new : Side D) (low : ℕ) (r : Result (Unit {0}) Refusal) (why : Refusal) → r ≡ Err why → IsDiskFault why → new.held ≡ old.held → new.levels ≡ old.levels → Lowers old low r new
lowers_failed old new low r why refused fault held levels =
    subst (λ (x : Result (Unit {0}) Refusal). Lowers old low x new) (sym refused) (record { held = held; levels = tt; going = tt; left = levels; untouched = λ no. absurd (no fault) })
