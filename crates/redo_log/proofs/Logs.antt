-- A list of bodies as a log.
use Rattle.std.proofs.Common.{◌≡◌, ◌∙◌, false, ◌/◌, length, replicate, ◌⊎◌, ⊎_elim, inl, inr, ℕ, List, [], ◌∷◌, ◌++◌, ◌*◌, refl, sym, subst, ap, arith}
use Rattle.std.specs.Prelude.{Some, Result, Ok, Err, IsErr, OnOk}
use Rattle.std.proofs.lemmas.Bool.{both_ways}
use Rattle.disk_model.specs.Disk.{State, IsImage}
use Rattle.disk_model.specs.Moments.{Clock}
use Rattle.disk_model.proofs.Moments.{started, weaker}
use Rattle.retro_base.specs.declared.device.Device.TheVariants as kinds
use Rattle.retro_base.specs.declared.limits.TheConstants.{LOG_REGION_BYTES}
use Rattle.retro_base.specs.declared.refusal.Refusal.{Refusal}
use Rattle.history.specs.declared.entry.Base.{Base}
use Rattle.history.specs.declared.entry.Change.{Change}
use Rattle.history.specs.declared.log.Log.{Log}
use Rattle.history.specs.declared.log.Version.{Version}
use Rattle.history.specs.History.{base_after, bases_after}
use Rattle.records.specs.declared.entry.Entry.TheVariants as entries
use Rattle.records.specs.Entries.{BaseFits, entry_bytes}
use Rattle.history.specs.Right.{AreRight, IsBase}
use Rattle.records.specs.InTurn.{InTurn}
use Rattle.records.specs.Log.{IsLog, IsChangeBody}
use Rattle.area_log.specs.Area.{Area, Holds, IsRead, ListsEither, Writes}
use Rattle.area_log.specs.Making.{ListsOrNone, Makes}
use Rattle.area_log.specs.Regions.{DeviceLists, NoneCounts}
use Rattle.redo_log.specs.Made.{MakesLog}
use Rattle.area_log.proofs.Areas.{at_rest, whole_at_rest}
use Rattle.redo_log.specs.Redo.{base_alone, base_at_end, IsReadLog, IsRedo, Keeps, ListsLog, ListsOneOf, one_more, Redo, WritesLog}

turn_more : (version : Version) (base : Base) (bodies : List (List ℕ)) (changes : List Change) (body : List ℕ) (change : Change) → InTurn (IsChangeBody version) base_after base bodies changes → IsChangeBody version (bases_after base changes) body change → InTurn (IsChangeBody version) base_after base (bodies ++ body ∷ []) (changes ++ change ∷ [])
turn_more version base [] [] body change all more = (more, tt)
turn_more version base [] (first ∷ changes) body change all more = absurd all
turn_more version base (first ∷ bodies) [] body change all more = absurd all
turn_more version base (first ∷ bodies) (one ∷ changes) body change all more = (all.0, turn_more version (base_after base one) bodies changes body change all.1 more)

-- one body more is one change more
pub log_more : (version : Version) (bodies : List (List ℕ)) (log : Log) (body : List ℕ) (change : Change) → IsLog version bodies log → IsChangeBody version (base_at_end log) body change → IsLog version (bodies ++ body ∷ []) (one_more log change)
log_more version [] log body change is more = absurd is
log_more version (first ∷ bodies) log body change is more = (is.0, is.1, turn_more version log.base bodies log.changes body change is.2 more)

-- the body of a right base is a log
pub log_alone : (version : Version) (base : Base) → BaseFits version base → IsBase base → IsLog version (entry_bytes version (entries.Base base) ∷ []) (base_alone version base)
log_alone version base fits right = (refl, record { spelled = refl; fits = fits; right = right }, tt)

pub listed_version : (version : Version) (bodies : List (List ℕ)) (log : Log) → IsLog version bodies log → log.version ≡ version
listed_version version [] log is = absurd is
listed_version version (first ∷ bodies) log is = is.0

pub base_fits : (version : Version) (bodies : List (List ℕ)) (log : Log) → IsLog version bodies log → BaseFits version log.base
base_fits version [] log is = absurd is
base_fits version (first ∷ bodies) log is = is.1.fits

pub lists_log : (version : Version) (size : ℕ) (log : Log) (bodies : List (List ℕ)) (bytes : List ℕ) → size ≡ LOG_REGION_BYTES → IsLog version bodies log → length bytes ≡ 2 * size → DeviceLists size bodies bytes → ListsLog log bytes
lists_log version size log bodies bytes is stands whole lists = record {
  size = whole ∙ ap (λ (n : ℕ). 2 * n) is;
  bodies = bodies;
  stands = subst (λ (v : Version). IsLog v bodies log) (sym (listed_version version bodies log stands)) stands;
  lists = subst (λ (n : ℕ). DeviceLists n bodies bytes) is lists;
}

-- what is kept is what each image lists
pub keeps_lists : (redo : Redo) (log : Log) (state : State) → IsRedo redo → Keeps redo log state → (image : List ℕ) → IsImage state image → ListsLog log image
keeps_lists redo log state known keeps image is = lists_log redo.version redo.area.log.size log keeps.bodies image known.size keeps.stands (whole_at_rest redo.area keeps.bodies state keeps.holds image is) (at_rest redo.area keeps.bodies state keeps.holds image is)

-- so it is in records of its own version
pub own_version : (version : Version) (bodies : List (List ℕ)) (log : Log) → IsLog version bodies log → IsLog log.version bodies log
own_version version bodies log stands = subst (λ (v : Version). IsLog v bodies log) (sym (listed_version version bodies log stands)) stands

-- what a read list stands for
pub read_right : (version : Version) (redo : Redo) (extent : ℕ) (bodies : List (List ℕ)) (log : Log) → extent ≡ 2 * LOG_REGION_BYTES → IsRead kinds.Log extent bodies redo.area → redo.version ≡ version → IsLog version bodies log → IsBase log.base → AreRight log.base log.changes → IsReadLog version redo log
read_right version redo extent bodies log size read running stands base right = record {
  known = record { device = read.device; size = omega (arith, read.size, size) };
  going = read.going;
  running = running;
  bodies = bodies;
  stands = stands;
  listed = listed_version version bodies log stands;
  base = base;
  fits = base_fits version bodies log stands;
  changes = right;
}

-- what holds, holds on success
pub if_ok : {T E P : Type 0} (r : Result T E) → P → OnOk r P
if_ok (Ok x) h = h
if_ok (Err e) h = tt

-- what follows on success
pub on_ok : {T E P Q : Type 0} (r : Result T E) → OnOk r P → (P → Q) → OnOk r Q
on_ok (Ok x) h f = f h
on_ok (Err e) h f = tt

not_ok : {T E : Type 0} (P : Type 0) (r : Result T E) → IsErr r → OnOk r P
not_ok P (Ok x) is = absurd (both_ways false refl is)
not_ok P (Err e) is = tt

module _ {Disk : Type 0} (remembers : Type 0) (state : Disk → State) (clock : Disk → Clock) (old new : Disk) where
  -- a device that is as it was still leaves what it lists
  pub rests : (redo : Redo) (log after : Log) (result : Result (Unit {0}) Refusal) → IsErr result → IsRedo redo → Keeps redo log (state old) → ((image : List ℕ) → (clock old).left_since (clock old).moment image → IsImage (state old) image) → WritesLog redo log after remembers state clock old old result
  rests redo log after result failed known keeps only = record {
    keeps = not_ok _ result failed;
    any_moment = started remembers (clock old) (ListsOneOf log (Some after)) (λ image left. record { log = log; may = inl refl; lists = keeps_lists redo log (state old) known keeps image (only image left) });
  }

  -- a write of bodies is one of logs
  pub writes_log : (before after : Area) (next : Version) (version : Version) (known : before.log.size ≡ LOG_REGION_BYTES) (list : List (List ℕ) → List (List ℕ)) (log done : Log) (bodies : List (List ℕ)) (result : Result (Unit {0}) Refusal)
      → IsLog version bodies log → Holds before bodies (state old) → IsLog done.version (list bodies) done → OnOk result (next ≡ done.version)
      → Writes before after list remembers state clock old new result → WritesLog (record { area = after; version = next }) log done remembers state clock old new result
  writes_log before after next version known list log done bodies result stands holds more same writes = record {
    keeps = go result (writes.holds bodies holds) same;
    any_moment = weaker remembers (clock old) (clock new) (ListsEither before.log.size bodies (list bodies)) (ListsOneOf log (Some done))
        (λ image either. ⊎_elim
        (λ lists. record { log = log; may = inl refl; lists = lists_log version before.log.size log bodies image known stands either.whole lists })
        (λ lists. record { log = done; may = inr refl; lists = lists_log done.version before.log.size done (list bodies) image known more either.whole lists }) either.lists)
        (writes.any_moment bodies holds);
  } where
    go : (r : Result (Unit {0}) Refusal) → OnOk r (Holds after (list bodies) (state new)) → OnOk r (next ≡ done.version) → OnOk r (Keeps (record { area = after; version = next }) done (state new))
    go (Ok x) held is = record { bodies = list bodies; stands = subst (λ (v : Version). IsLog v (list bodies) done) (sym is) more; holds = held }
    go (Err e) held is = tt

  -- a list that is made is a log
  pub makes_log : (extent : ℕ) (version : Version) (base : Base) (body : List ℕ) (result : Result (Unit {0}) Refusal) → extent ≡ 2 * LOG_REGION_BYTES → body ≡ entry_bytes version (entries.Base base) → BaseFits version base → IsBase base
      → (state old).seen ≡ replicate extent 0 → length (state new).seen ≡ extent → Makes extent (body ∷ []) remembers state clock old new result → MakesLog (base_alone version base) remembers state clock old new result
  makes_log extent version base body result size spelled fits right zeros long makes =
      let half : extent / 2 ≡ LOG_REGION_BYTES = ap (λ (n : ℕ). n / 2) size in
      let stands : IsLog version (body ∷ []) (base_alone version base) = (refl, record { spelled = spelled; fits = fits; right = right }, tt) in
      let twice : extent ≡ 2 * (extent / 2) = omega (arith, size) in
      let listed : (bytes : List ℕ) → length bytes ≡ extent → DeviceLists (extent / 2) (body ∷ []) bytes → ListsLog (base_alone version base) bytes =
      λ bytes whole lists. lists_log version (extent / 2) (base_alone version base) (body ∷ []) bytes half stands (whole ∙ twice) lists in
      record {
        lists = on_ok result (makes.lists zeros) (listed (state new).seen long);
        durable = makes.durable;
        any_moment = λ durable.
            weaker remembers (clock old) (clock new) (ListsOrNone extent (body ∷ [])) (λ image. NoneCounts LOG_REGION_BYTES image 0 ⊎ ListsLog (base_alone version base) image)
            (λ image either. ⊎_elim (λ none. inl (subst (λ (n : ℕ). NoneCounts n image 0) half none)) (λ lists. inr (listed image either.whole lists)) either.lists) (makes.any_moment zeros durable);
      }
