-- One call of the Maplog's device, and the vault behind it.
use Rattle.std.proofs.Common.{◌≡◌, ◌↔◌, ◌^◌, ⊎_elim, inl, inr, ◌∙◌, ◌-◌, ◌≤◌, ◌++◌, ◌∷◌, [], ℕ, false, List, length, take, drop, Result, Ok, Err, OnOk, IfErr, refl, sym, ap, subst, arith, true≢false}
use Rattle.std.specs.Prelude.{Contains}
use Rattle.std.proofs.lemmas.List.{take_all, length-append}
use Rattle.disk_model.specs.Disk.{State, IsImage}
use Rattle.disk_model.specs.Moments.{Clock, LeavesOnly}
use Rattle.disk_model.specs.Sizes.{maplog_half}
use Rattle.disk_model.proofs.Moments.{now_has, started, weaker}
use Rattle.retro_base.specs.declared.refusal.Refusal.{Refusal}
use Rattle.gate_log.specs.Cause.{IsDiskFault}
use Rattle.area_log.specs.Area.{AfterWrite, Area}
use Rattle.records.specs.Entries.{page_width}
use Rattle.skippy.specs.Mappings.{Mappings, end_of, push}
use Rattle.map_log.specs.Log.{IsMapArea, Keeps, ListsMappings, ListsOneOf, MapArea, with_area}
use Rattle.map_log.proofs.Records.{keeps_lists}
use Rattle.race_model.specs.Vault.{listing, Maplog, Vault}
use Rattle.archive.specs.Side.{IsMapSide, ListsMaplogOf, Moves, SameSide, Shows, Side, stopped_with, with_mappings}

-- memory that is the mappings shows them
pub shows_self : (levels : Mappings) (held : ℕ) (m : Mappings) → levels ≡ m → end_of m ≡ held → Shows levels held m
shows_self levels held m is end =
    let low : levels.low ≡ m.low = ap (λ (x : Mappings). x.low) is in
    let none : levels.low - m.low ≡ 0 = omega arith in
    let pages : levels.pages ≡ m.pages = ap (λ (x : Mappings). x.pages) is in
    let many : length levels.pages ≡ length m.pages = ap (λ (ps : List ℕ). length ps) pages in
    let all : length levels.pages ≤ held - levels.low = omega (arith, end, many) in
    record {
      above = omega arith;
      low = omega (arith, end);
      known = omega (arith, end, many);
      end = end;
      same = ap (λ n. drop n m.pages) none ∙ sym pages ∙ sym (take_all (held - levels.low) levels.pages all);
    }

-- mappings that were added behind do not change what is shown
pub shows_more : (m : Mappings) (held : ℕ) (more : List ℕ) → end_of m ≡ held → Shows (push m more) held m
shows_more m held more end = record {
  above = omega arith;
  low = omega (arith, end);
  known = omega (arith, end, length-append m.pages more);
  end = end;
  same =
      let none : m.low - m.low ≡ 0 = omega arith in
      let all : held - m.low ≡ length m.pages = omega (arith, end) in
      ap (λ n. drop n m.pages) none ∙ sym (ap (λ n. take n (m.pages ++ more)) all ∙ front m.pages more);
}
  where
    front : (xs ys : List ℕ) → take (length xs) (xs ++ ys) ≡ xs
    front [] ys = refl
    front (x ∷ xs) ys = ap (λ r. x ∷ r) (front xs ys)

-- a side whose log another area has
pub same_side_of : {D : Type 0} (is_honest : D → Type 0) (old new : Side D) {area : Area} → (is_honest old.disk ↔ is_honest new.disk) → new.log ≡ with_area old.log area → SameSide is_honest old new
same_side_of is_honest old new honest is = record { honest = honest; in_version = ap (λ (l : MapArea). l.version) is; page_count = ap (λ (l : MapArea). l.page_count) is; capacity = ap (λ (l : MapArea). l.capacity) is }

pub area_after : {D : Type 0} (old new : Side D) {area done : Area} {r : Result (Unit {0}) Refusal} → IsMapArea old.log → new.log ≡ with_area old.log area → AfterWrite old.log.area done r new.log.area → IsMapArea new.log
area_after old new log is after =
    let version : new.log.version ≡ old.log.version = ap (λ (l : MapArea). l.version) is in
    let pages : new.log.page_count ≡ old.log.page_count = ap (λ (l : MapArea). l.page_count) is in
    let capacity : new.log.capacity ≡ old.log.capacity = ap (λ (l : MapArea). l.capacity) is in
    record {
      device = after.device ∙ log.device;
      size = after.size ∙ log.size ∙ ap maplog_half (sym capacity);
      fits = subst (λ v. new.log.page_count ≤ 256 ^ page_width v) (sym version) (omega (arith, pages, log.fits));
      most = omega (arith, capacity, log.most);
    }

-- a log of the same store and version
pub lists_same : (log other : MapArea) (vault : Vault) (image : List ℕ) → other.page_count ≡ log.page_count → other.capacity ≡ log.capacity → ListsMaplogOf log vault image → ListsMaplogOf other vault image
lists_same log other vault image page_count capacity some = record {
  maplog = some.maplog;
  is = some.is;
  lists =
      subst (λ (p : ℕ). ListsMappings some.maplog.version p other.capacity some.maplog.mappings image) (sym page_count)
      (subst (λ (k : ℕ). ListsMappings some.maplog.version log.page_count k some.maplog.mappings image) (sym capacity) some.lists);
}

-- the one mappings or the others, as Maplogs
one_of : (log : MapArea) (vault : Vault) (next : Mappings) (others : List Maplog) (image : List ℕ) → vault.version ≡ log.version → Contains others (listing vault next) → ListsOneOf log vault.mappings next image → ListsMaplogOf log (stopped_with vault others) image
one_of log vault next others image same there lists = ⊎_elim
    (λ is. record { maplog = listing vault vault.mappings; is = inl refl; lists = as_vault vault.mappings is })
    (λ is. record { maplog = listing vault next; is = inr there; lists = as_vault next is }) lists
  where
    as_vault : (m : Mappings) → ListsMappings log.version log.page_count log.capacity m image → ListsMappings vault.version log.page_count log.capacity m image
    as_vault m is = subst (λ v. ListsMappings v log.page_count log.capacity m image) (sym same) is

module _ {D : Type 0} (is_honest : D → Type 0) (remembers : Type 0) (state : D → State) (clock : D → Clock) where
  -- the vault of a side whose device was called
  module _ (old new : Side D) (vault : Vault) (next : Mappings) (others : List Maplog) (is : IsMapSide is_honest state old vault) (there : Contains others (listing vault next)) (same : SameSide is_honest old new)
      (run : is_honest old.disk → LeavesOnly remembers (clock old.disk) (clock new.disk) (ListsOneOf old.log vault.mappings next)) where
    leaves : is_honest old.disk → LeavesOnly remembers (clock old.disk) (clock new.disk) (ListsMaplogOf old.log (stopped_with vault others))
    leaves told =
        weaker remembers (clock old.disk) (clock new.disk) (ListsOneOf old.log vault.mappings next) (ListsMaplogOf old.log (stopped_with vault others)) (λ image one. one_of old.log vault next others image is.in_version there one) (run told)

    -- a call that failed, and memory that shows the mappings as before
    pub failed_side : ((t : ℕ) (image : List ℕ) → is_honest new.disk → t ≤ (clock new.disk).moment → IsImage (state new.disk) image → (clock new.disk).left_since t image) → Shows new.levels new.held vault.mappings → new.levels.low ≡ vault.mappings.low
        → IsMapSide is_honest state new (stopped_with vault others)
    failed_side counts_now shows low = record {
      in_version = is.in_version ∙ sym same.in_version;
      shows = shows;
      lowest = record { maplog = listing vault vault.mappings; is = inl refl; same = sym low };
      going = λ on. absurd (true≢false on);
      keeps = λ told on. absurd (true≢false on);
      images = λ told image at.
          lists_same old.log new.log (stopped_with vault others) image same.page_count same.capacity
          (now_has remembers (clock old.disk) (clock new.disk) (ListsMaplogOf old.log (stopped_with vault others)) (IsImage (state new.disk)) (leaves (same.honest.1 told)) (λ t i le left. counts_now t i told le left) image at);
    }

    pub moves_failed : (done : Vault) (r : Result (Unit {0}) Refusal) (why : Refusal) → r ≡ Err why → IsMapSide is_honest state new (stopped_with vault others) → Moves is_honest remembers state clock old new done (stopped_with vault others) r
    moves_failed done r why refused failed =
        subst (λ (x : Result (Unit {0}) Refusal). Moves is_honest remembers state clock old new done (stopped_with vault others) x) (sym refused)
        (record { steps = tt; fails = λ fault. failed; any_moment = leaves })

    -- a call that succeeded
    pub moves_done : IsMapArea new.log → new.levels ≡ next → end_of next ≡ new.held → (is_honest old.disk → Keeps new.log next (state new.disk)) → Moves is_honest remembers state clock old new (with_mappings vault next) (stopped_with vault others) (Ok tt)
    moves_done area levels end keeps = record {
      steps = record {
        in_version = is.in_version ∙ sym same.in_version;
        shows = shows_self new.levels new.held next levels end;
        lowest = record { maplog = listing vault next; is = inl refl; same = sym (ap (λ (m : Mappings). m.low) levels) };
        going = λ goes. levels;
        keeps = λ told goes. keeps (same.honest.1 told);
        images = λ told image at.
            record {
              maplog = listing vault next;
              is = inl refl;
              lists =
                  subst (λ v. ListsMappings v new.log.page_count new.log.capacity next image) (same.in_version ∙ sym is.in_version)
                  (keeps_lists new.log area next (state new.disk) (keeps (same.honest.1 told)) image at);
            };
      };
      fails = tt;
      any_moment = leaves;
    }

  -- the vault of a side whose device was not called
  module _ (side : Side D) (vault : Vault) (others : List Maplog) (is : IsMapSide is_honest state side vault) (goes : vault.stopped ≡ false) (area : IsMapArea side.log) where
    rests : is_honest side.disk → (image : List ℕ) → IsImage (state side.disk) image → ListsMaplogOf side.log (stopped_with vault others) image
    rests told image at = record {
      maplog = listing vault vault.mappings;
      is = inl refl;
      lists =
          subst (λ v. ListsMappings v side.log.page_count side.log.capacity vault.mappings image) (sym is.in_version)
          (keeps_lists side.log area vault.mappings (state side.disk) (is.keeps told goes) image at);
    }

    pub moves_nothing : ((image : List ℕ) → is_honest side.disk → (clock side.disk).left_since (clock side.disk).moment image → IsImage (state side.disk) image) → (done : Vault) (r : Result (Unit {0}) Refusal)
        → OnOk r (IsMapSide is_honest state side done) → Moves is_honest remembers state clock side side done (stopped_with vault others) r
    moves_nothing only_now done r owed = record {
      steps = owed;
      fails = fails r;
      any_moment = λ told. started remembers (clock side.disk) (ListsMaplogOf side.log (stopped_with vault others)) (λ image left. rests told image (only_now image told left));
    }
      where
        failed : IsMapSide is_honest state side (stopped_with vault others)
        failed = record { in_version = is.in_version; shows = is.shows; lowest = record { maplog = listing vault vault.mappings; is = inl refl; same = sym (ap (λ (m : Mappings). m.low) (is.going goes)) }; going = λ on. absurd (true≢false on); keeps = λ told on. absurd (true≢false on); images = rests }

        fails : (r : Result (Unit {0}) Refusal) → IfErr r (λ why. IsDiskFault why → IsMapSide is_honest state side (stopped_with vault others))
        fails (Ok x) = tt
        fails (Err e) = λ fault. failed
