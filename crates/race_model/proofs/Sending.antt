-- Batches that the desk takes.
use Rattle.std.proofs.Common.{◌≡◌, ◌≤◌, ◌<◌, ◌+◌, ◌-◌, ◌∙◌, ℕ, zero, suc, Bool, true, false, cond, List, [], ◌∷◌, ◌++◌, length, take, drop, map, refl, sym, ap, subst, arith, length-drop}
use Rattle.std.specs.Prelude.{filter}
use Rattle.std.specs.List.{AllByRecursion}
use Rattle.std.proofs.lemmas.List.{drop_at, take-append-drop, length-take-le}
use Rattle.history.specs.declared.entry.Base.{Base}
use Rattle.history.specs.declared.entry.Change.{Change}
use Rattle.history.specs.declared.entry.Change.TheVariants.{Commit, Drop}
use Rattle.history.specs.declared.writes.PageImage.{PageImage}
use Rattle.history.specs.Writes.{pages_of}
use Rattle.history.specs.History.{State, now, after, captures, captures_of, captures_page, captured_by, before_write, base_after, bases_after}
use Rattle.history.specs.Right.{AreRight}
use Rattle.race_model.specs.Desk.{Desk, behind, capacity_of}
use Rattle.race_model.specs.Fits.{DeskFits, BatchFits}
use Rattle.race_model.specs.Machine.{MayTake, batch_of}
use Rattle.race_model.specs.Vault.{Vault, Batch}
use Rattle.race_model.specs.Apart.{BatchesFit, MaySend}
use Rattle.race_model.proofs.Lists.{pages_of-append, pages_of-drop, drop-to}
use Rattle.race_model.proofs.Histories.{page_count_after, captures_of-append, run_count, count, room, capacity_stays}
use Rattle.race_model.proofs.LogKeeps.{base_whole}
use Rattle.race_model.proofs.VaultKeeps.{enter_end}

all_append : (P : ℕ → Type 0) (xs ys : List ℕ) → AllByRecursion P xs → AllByRecursion P ys → AllByRecursion P (xs ++ ys)
all_append P [] ys all more = more
all_append P (x ∷ xs) ys all more = (all.0, all_append P xs ys all.1 more)

all_drop : (P : ℕ → Type 0) (n : ℕ) (xs : List ℕ) → AllByRecursion P xs → AllByRecursion P (drop n xs)
all_drop P zero xs all = all
all_drop P (suc n) [] all = all
all_drop P (suc n) (x ∷ xs) all = all_drop P n xs all.1

all_take : (P : ℕ → Type 0) (n : ℕ) (xs : List PageImage) → AllByRecursion P (pages_of xs) → AllByRecursion P (pages_of (take n xs))
all_take P zero xs all = tt
all_take P (suc n) [] all = all
all_take P (suc n) (x ∷ xs) all = (all.0, all_take P n xs all.1)

-- the pages that right changes capture are those of the store
written_in : (state : State) (size : ℕ) (test : PageImage → Bool) (writes : List PageImage) → AllByRecursion (λ write. write.page < size) writes → AllByRecursion (λ page. page < size) (pages_of (map (before_write state.pages) (filter test writes)))
written_in state size test [] all = tt
written_in state size test (write ∷ writes) all = go (test write) (written_in state size test writes all.1) where
  go : (b : Bool) → AllByRecursion (λ page. page < size) (pages_of (map (before_write state.pages) (filter test writes))) → AllByRecursion (λ page. page < size) (pages_of (map (before_write state.pages) (cond b (write ∷ filter test writes) (filter test writes))))
  go true rest = (all.0, rest)
  go false rest = rest

captured_in : (state : State) (changes : List Change) → AreRight state.base changes → AllByRecursion (λ page. page < state.base.page_count) (pages_of (captures_of state changes))
captured_in state [] right = tt
captured_in state (Commit label writes ∷ changes) right =
    subst (AllByRecursion (λ page. page < state.base.page_count)) (sym (pages_of-append (captured_by state (Commit label writes)) (captures_of (after state (Commit label writes)) changes)))
    (all_append (λ page. page < state.base.page_count) (pages_of (captured_by state (Commit label writes))) (pages_of (captures_of (after state (Commit label writes)) changes))
    (written_in state state.base.page_count (λ write. captures_page state.base write.page) writes right.0.0) (captured_in (after state (Commit label writes)) changes right.1))
captured_in state (Drop below ∷ changes) right = captured_in (after state (Drop below)) changes right.1

drop-past : {X : Type 0} (n : ℕ) (xs ys : List X) → length xs ≤ n → drop n (xs ++ ys) ≡ drop (n - length xs) ys
drop-past n xs ys le = sym (drop-to (length xs) (n - length xs) n (xs ++ ys) (omega (arith, le))) ∙ ap (drop (n - length xs)) (drop_at xs ys (length xs) refl)

page_count_stays : (base : Base) (changes : List Change) → (bases_after base changes).page_count ≡ base.page_count
page_count_stays base [] = refl
page_count_stays base (change ∷ changes) = page_count_stays (base_after base change) changes ∙ page_count_after base change

module _ (desk : Desk) (f : DeskFits desk) where
  abbrev first : ℕ
  first = (behind desk.history desk.past).base.captures

  -- what is not acknowledged was captured by the log's changes
  pending_is : drop desk.acked (captures desk.history) ≡ drop (desk.acked - first) (captures_of (behind desk.history desk.past) desk.rest)
  pending_is =
      let held : ℕ = length desk.history.held in
      let origin : ℕ = desk.history.origin.base.captures in
      let known : held ≤ desk.acked = omega (arith, f.known, f.needed) in
      let counted : origin ≤ held = f.history.consistent.counted in
      let early : List PageImage = captures_of desk.history.origin desk.past in
      let sum : first ≡ origin + length early = run_count desk.history.origin desk.past in
      let parts : captures_of desk.history.origin desk.history.changes ≡ early ++ captures_of (behind desk.history desk.past) desk.rest =
      ap (captures_of desk.history.origin) (sym f.log.split) ∙ captures_of-append desk.history.origin desk.past desk.rest in
      drop-past desk.acked desk.history.held (drop (held - origin) (captures_of desk.history.origin desk.history.changes)) known
      ∙ drop-to (held - origin) (desk.acked - held) (desk.acked - origin) (captures_of desk.history.origin desk.history.changes) (omega (arith, known, counted))
      ∙ ap (drop (desk.acked - origin)) parts
      ∙ drop-past (desk.acked - origin) early (captures_of (behind desk.history desk.past) desk.rest) (omega (arith, sum, f.based, f.needed))
      ∙ ap (λ n. drop n (captures_of (behind desk.history desk.past) desk.rest)) (omega (arith, sum))

  pending_in : AllByRecursion (λ page. page < (now desk.history).base.page_count) (pages_of (drop desk.acked (captures desk.history)))
  pending_in =
      let late : List PageImage = captures_of (behind desk.history desk.past) desk.rest in
      let pages : (now desk.history).base.page_count ≡ (behind desk.history desk.past).base.page_count =
      ap (λ (b : Base). b.page_count) (sym (base_whole desk.history desk.past desk.rest f.log.split)) ∙ page_count_stays (behind desk.history desk.past).base desk.rest in
      subst (λ n. AllByRecursion (λ page. page < n) (pages_of (drop desk.acked (captures desk.history)))) (sym pages)
      (subst (AllByRecursion (λ page. page < (behind desk.history desk.past).base.page_count)) (sym (ap pages_of pending_is ∙ pages_of-drop (desk.acked - first) late))
      (all_drop (λ page. page < (behind desk.history desk.past).base.page_count) (desk.acked - first) (pages_of late) (captured_in (behind desk.history desk.past) desk.rest f.log.fits.right)))

  taken : (n : ℕ) → MayTake desk n → length (batch_of desk n).images ≡ n
  taken n may =
      let total : length (captures desk.history) ≡ (now desk.history).base.captures = count desk.history f.history.consistent in
      length-take-le n (drop desk.acked (captures desk.history)) (omega (arith, total, may.there, length-drop desk.acked (captures desk.history)))

  pub batch_fits : (n : ℕ) → MayTake desk n → BatchFits desk.history (batch_of desk n)
  batch_fits n may =
      let images : List PageImage = drop desk.acked (captures desk.history) in
      let len : length (take n images) ≡ n = taken n may in
      let slots : (now desk.history).base.capacity ≡ capacity_of desk.history = capacity_stays desk.history.origin desk.history.changes in
      record {
        low = omega arith;
        above = omega arith;
        later = drop n images;
        same = sym (take-append-drop n images);
        within = omega (arith, len, may.there);
        room = omega (arith, len, may.there, may.few, room desk.history desk.floor f.history, f.history.right.capacity.0, slots);
        pages = all_take (λ page. page < (now desk.history).base.page_count) n images pending_in;
      }

pub batches_fit : BatchesFit
batches_fit desk n f some few there = let may : MayTake desk n = record { some = some; few = omega (arith, few); there = there } in (may, batch_fits desk f n may)

pub may_send : MaySend
may_send desk vault n f may knows =
    let batch : Batch = batch_of desk n in
    let fits : BatchFits desk.history batch = batch_fits desk f n may in
    record {
      lay = record { first = knows };
      enter = λ slots loose. record { first = knows; laid = omega arith };
      holds = enter_end desk.history desk.floor vault.mappings batch fits knows ∙ omega (arith, taken desk f n may, knows);
      known = fits.within;
    }
