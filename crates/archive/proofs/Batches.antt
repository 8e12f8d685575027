-- A batch that is entered behind a trim.
use Rattle.std.proofs.Common.{◌≡◌, ◌⊎◌, ⊎_elim, inl, inr, ◌∙◌, ◌+◌, ◌-◌, ◌≤◌, ◌<◌, ◌∷◌, [], ℕ, zero, suc, List, drop, Result, Ok, Err, IfErr, sym, ap, subst, arith, true≢false}
use Rattle.std.specs.Prelude.{Contains}
use Rattle.std.proofs.lemmas.Bool.{cases_lt}
use Rattle.std.proofs.lemmas.List.{length-drop, drop-drop}
use Rattle.disk_model.specs.Disk.{State}
use Rattle.disk_model.specs.Moments.{Clock, LeavesOnly}
use Rattle.disk_model.proofs.Moments.{joined, weaker}
use Rattle.retro_base.specs.declared.refusal.Refusal.{Refusal}
use Rattle.gate_log.specs.Cause.{IsDiskFault}
use Rattle.skippy.specs.Mappings.{Mappings, end_of, trim}
use Rattle.race_model.specs.Machine.{entered, enter_failed, trimmed, trim_failed}
use Rattle.race_model.specs.Vault.{IsMaplogOf, Batch, enter_into, listing, Maplog, trim_to, Vault}
use Rattle.map_log.specs.Log.{MapArea}
use Rattle.archive.specs.Side.{IsMapSide, ListsMaplogOf, Moves, SameSide, Shows, Side, stopped_with}
use Rattle.archive.proofs.Sides.{lists_same}
use Rattle.archive.proofs.Trims.{trim_to_is, trim_to_none}

-- what memory shows of trimmed mappings it shows of the whole ones
shows_whole : (levels : Mappings) (held : ℕ) (m : Mappings) (low : ℕ) → m.low ≤ low → low ≤ end_of m → Shows levels held (trim m low) → Shows levels held m
shows_whole levels held m low above within shows = record {
  above = omega (arith, shows.above);
  low = shows.low;
  known = shows.known;
  end = omega (arith, shows.end, length-drop (low - m.low) m.pages);
  same =
      let place : low - m.low + (levels.low - low) ≡ levels.low - m.low = omega (arith, shows.above) in
      sym (drop-drop (levels.low - low) (low - m.low) m.pages ∙ ap (λ n. drop n m.pages) place) ∙ shows.same;
}

shows_before : (levels : Mappings) (held : ℕ) (m : Mappings) (low : ℕ) → low ≤ end_of m → Shows levels held (trim_to m low) → Shows levels held m
shows_before levels held m low within shows = by (cases_lt m.low low)
  where
    by : (m.low < low) ⊎ (low ≤ m.low) → Shows levels held m
    by (inl above) =
        let more : m.low ≤ low = omega arith in
        shows_whole levels held m low more within (subst (λ (x : Mappings). Shows levels held x) (trim_to_is m low more) shows)
    by (inr below) = subst (λ (x : Mappings). Shows levels held x) (trim_to_none m low below) shows

-- the Maplogs that a failed trim, or a failed entering behind it, may leave are those of the batch's failing
module _ (vault : Vault) (batch : Batch) where
  first_more : (x : Maplog) (others : List Maplog) (m : Maplog) → Contains (x ∷ []) m → Contains (x ∷ others) m
  first_more x others m (zero, less, is) = (0, omega arith, is)
  first_more x others m (suc k, less, is) = absurd (omega (arith, less))

  one_more : (x y m : Maplog) → Contains (y ∷ []) m → Contains (x ∷ y ∷ []) m
  one_more x y m (zero, less, is) = (1, omega arith, is)
  one_more x y m (suc k, less, is) = absurd (omega (arith, less))

  trim_is : (maplog : Maplog) → IsMaplogOf (trim_failed vault batch.low) maplog → IsMaplogOf (enter_failed vault batch) maplog
  trim_is maplog is =
      ⊎_elim (λ same. inl same) (λ there. inr (first_more (listing vault (trim_to vault.mappings batch.low)) (listing vault (enter_into vault.mappings batch) ∷ []) maplog there)) is

  enter_is : (maplog : Maplog) → IsMaplogOf (stopped_with (trimmed vault batch.low) (listing vault (enter_into vault.mappings batch) ∷ [])) maplog → IsMaplogOf (enter_failed vault batch) maplog
  enter_is maplog is =
      ⊎_elim (λ same. inr (0, omega arith, sym same)) (λ there. inr (one_more (listing vault (trim_to vault.mappings batch.low)) (listing vault (enter_into vault.mappings batch)) maplog there)) is

  module _ (log : MapArea) (image : List ℕ) where
    trim_covers : ListsMaplogOf log (trim_failed vault batch.low) image → ListsMaplogOf log (enter_failed vault batch) image
    trim_covers some = record { maplog = some.maplog; is = trim_is some.maplog some.is; lists = some.lists }

    enter_covers : ListsMaplogOf log (stopped_with (trimmed vault batch.low) (listing vault (enter_into vault.mappings batch) ∷ [])) image → ListsMaplogOf log (enter_failed vault batch) image
    enter_covers some = record { maplog = some.maplog; is = enter_is some.maplog some.is; lists = some.lists }

module _ {D : Type 0} (is_honest : D → Type 0) (remembers : Type 0) (state : D → State) (clock : D → Clock) (vault : Vault) (batch : Batch) where
  trim_failing : (side : Side D) → IsMapSide is_honest state side (trim_failed vault batch.low) → IsMapSide is_honest state side (enter_failed vault batch)
  trim_failing side is = record {
    in_version = is.in_version;
    shows = is.shows;
    lowest = record { maplog = is.lowest.maplog; is = trim_is vault batch is.lowest.maplog is.lowest.is; same = is.lowest.same };
    going = λ on. absurd (true≢false on);
    keeps = λ told on. absurd (true≢false on);
    images = λ told image at. trim_covers vault batch side.log image (is.images told image at);
  }

  enter_failing : (side : Side D) → batch.low ≤ end_of vault.mappings → IsMapSide is_honest state side (stopped_with (trimmed vault batch.low) (listing vault (enter_into vault.mappings batch) ∷ [])) → IsMapSide is_honest state side (enter_failed vault batch)
  enter_failing side within is = record {
    in_version = is.in_version;
    shows = shows_before side.levels side.held vault.mappings batch.low within is.shows;
    lowest = record { maplog = is.lowest.maplog; is = enter_is vault batch is.lowest.maplog is.lowest.is; same = is.lowest.same };
    going = λ on. absurd (true≢false on);
    keeps = λ told on. absurd (true≢false on);
    images = λ told image at. enter_covers vault batch side.log image (is.images told image at);
  }

  trim_leaves : (old new : Side D) (r : Result (Unit {0}) Refusal) → Moves is_honest remembers state clock old new (trimmed vault batch.low) (trim_failed vault batch.low) r → is_honest old.disk
      → LeavesOnly remembers (clock old.disk) (clock new.disk) (ListsMaplogOf old.log (enter_failed vault batch))
  trim_leaves old new r first told =
      weaker remembers (clock old.disk) (clock new.disk) (ListsMaplogOf old.log (trim_failed vault batch.low)) (ListsMaplogOf old.log (enter_failed vault batch)) (λ image some. trim_covers vault batch old.log image some) (first.any_moment told)

  -- a trim that was refused
  pub trim_refused : (old new : Side D) (s r : Result (Unit {0}) Refusal) (why : Refusal) → s ≡ Err why → r ≡ Err why → Moves is_honest remembers state clock old new (trimmed vault batch.low) (trim_failed vault batch.low) s
      → Moves is_honest remembers state clock old new (entered vault batch) (enter_failed vault batch) r
  trim_refused old new s r why was refused first =
      let there = subst (λ (x : Result (Unit {0}) Refusal). Moves is_honest remembers state clock old new (trimmed vault batch.low) (trim_failed vault batch.low) x) was first in
      subst (λ (x : Result (Unit {0}) Refusal). Moves is_honest remembers state clock old new (entered vault batch) (enter_failed vault batch) x) (sym refused)
      (record { steps = tt; fails = λ fault. trim_failing new (there.fails fault); any_moment = trim_leaves old new (Err why) there })

  -- a trim, and an entering behind it
  pub entered_behind : (old mid new : Side D) (r : Result (Unit {0}) Refusal) → batch.low ≤ end_of vault.mappings → SameSide is_honest old mid → Moves is_honest remembers state clock old mid (trimmed vault batch.low) (trim_failed vault batch.low) (Ok tt)
      → Moves is_honest remembers state clock mid new (entered vault batch) (stopped_with (trimmed vault batch.low) (listing vault (enter_into vault.mappings batch) ∷ [])) r → Moves is_honest remembers state clock old new (entered vault batch) (enter_failed vault batch) r
  entered_behind old mid new r within same first second = record {
    steps = second.steps;
    fails = fails r second.fails;
    any_moment = λ told.
        joined remembers (clock old.disk) (clock mid.disk) (clock new.disk) (ListsMaplogOf old.log (enter_failed vault batch)) (trim_leaves old mid (Ok tt) first told)
        (weaker remembers (clock mid.disk) (clock new.disk) (ListsMaplogOf mid.log (stopped_with (trimmed vault batch.low) (listing vault (enter_into vault.mappings batch) ∷ []))) (ListsMaplogOf old.log (enter_failed vault batch))
        (λ image some. lists_same mid.log old.log (enter_failed vault batch) image (sym same.page_count) (sym same.capacity) (enter_covers vault batch mid.log image some))
        (second.any_moment (same.honest.0 told)));
  }
    where
      fails : (r : Result (Unit {0}) Refusal) → IfErr r (λ why. IsDiskFault why → IsMapSide is_honest state new (stopped_with (trimmed vault batch.low) (listing vault (enter_into vault.mappings batch) ∷ [])))
          → IfErr r (λ why. IsDiskFault why → IsMapSide is_honest state new (enter_failed vault batch))
      fails (Ok x) given = tt
      fails (Err e) given = λ fault. enter_failing new within (given fault)
