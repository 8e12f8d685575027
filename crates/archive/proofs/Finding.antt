-- The first mapping of a page below a limit.
use Rattle.std.proofs.Common.{◌≡◌, ◌∙◌, ◌+◌, ◌-◌, ◌*◌, ◌≤◌, ◌<◌, ◌⊎◌, ◌∷◌, [], ℕ, zero, suc, List, Bool, true, false, cond, Option, Some, None, is_some, Ok, Err, nat_eq, nat_lt, position, length, take, drop, refl, sym, ap, subst, arith, inl, inr}
use Rattle.std.proofs.lemmas.Bool.{cases_lt}
use borrow.Author.Tests.{lt-ltb, le-ltb}
use Rattle.std.proofs.lemmas.List.{take-take, drop-drop, drop-take}
use Rattle.std.specs.List.{position_from}
use Rattle.std.specs.Option.{option_map}
use Rattle.std.proofs.lemmas.Iterator.Adapters.{position_from-zero}
use Rattle.skippy.specs.Mappings.{Mappings, first_in, IsTailOf}
use Rattle.page_table.specs.Table.{Table, IsFirstMet}
use Rattle.archive.specs.Finding.{below}
use Rattle.disk_model.specs.Disk.{State, Unchanged}
use Rattle.retro_base.specs.declared.limits.TheConstants.{PAGE_BYTES}
use Rattle.block_file.specs.Blocks.{block_at, SameFile, slot_of}
use Rattle.race_model.specs.Reading.{in_slot}
use Rattle.race_model.specs.Vault.{Vault}
use Rattle.race_model.specs.declared.fault.Fault.{Fault}
use Rattle.archive.specs.Archive.{Finds, IsVault, Running}
use Rattle.archive.specs.Side.{IsMapSide, Shows, Side}

lt_true : (a b : ℕ) → a < b → nat_lt a b ≡ true
lt_true a b less = lt-ltb a b less

lt_false : (a b : ℕ) → b ≤ a → nat_lt a b ≡ false
lt_false a b more = le-ltb a b more

at_least : (test : ℕ → Bool) (limit from : ℕ) (xs : List ℕ) → limit ≤ from → below limit (position_from test from xs) ≡ None
at_least test limit from [] more = refl
at_least test limit from (x ∷ xs) more =
    let rest = at_least test limit (from + 1) xs (omega arith) in
    elim (test x) as (λ b. below limit (cond b (Some from) (position_from test (from + 1) xs)) ≡ None)
    [ true ↦ ap (λ b. cond b (Some from) None) (lt_false from limit more) | false ↦ rest ]

from_take : (test : ℕ → Bool) (from few many : ℕ) (xs : List ℕ) → few ≤ many → position_from test from (take few xs) ≡ below (from + few) (position_from test from (take many xs))
from_take test from zero many xs less = sym (at_least test (from + 0) from (take many xs) (omega arith))
from_take test from (suc few) zero xs less = absurd (omega arith)
from_take test from (suc few) (suc many) [] less = refl
from_take test from (suc few) (suc many) (x ∷ xs) less =
    let here : from < from + suc few = omega arith in
    let limit : from + 1 + few ≡ from + suc few = omega arith in
    let rest : position_from test (from + 1) (take few xs) ≡ below (from + suc few) (position_from test (from + 1) (take many xs))
    = from_take test (from + 1) few many xs (omega arith) ∙ ap (λ n. below n (position_from test (from + 1) (take many xs))) limit in
    elim (test x) as (λ b. cond b (Some from) (position_from test (from + 1) (take few xs)) ≡ below (from + suc few) (cond b (Some from) (position_from test (from + 1) (take many xs))))
    [ true ↦ sym (ap (λ b. cond b (Some from) None) (lt_true from (from + suc few) here)) | false ↦ rest ]

below_shift : (by limit : ℕ) (o : Option ℕ) → option_map (λ place. by + place) (below limit o) ≡ below (by + limit) (option_map (λ place. by + place) o)
below_shift by limit None = refl
below_shift by limit (Some place) = go (cases_lt place limit)
  where
    go : (place < limit) ⊎ (limit ≤ place) → option_map (λ place. by + place) (below limit (Some place)) ≡ below (by + limit) (Some (by + place))
    go (inl less) =
        let more : by + place < by + limit = omega arith in
        ap (λ b. option_map (λ place. by + place) (cond b (Some place) None)) (lt_true place limit less) ∙ sym (ap (λ b. cond b (Some (by + place)) None) (lt_true (by + place) (by + limit) more))
    go (inr not_less) =
        let more : by + limit ≤ by + place = omega arith in
        ap (λ b. option_map (λ place. by + place) (cond b (Some place) None)) (lt_false place limit not_less) ∙ sym (ap (λ b. cond b (Some (by + place)) None) (lt_false (by + place) (by + limit) more))

position_take : (test : ℕ → Bool) (few many : ℕ) (xs : List ℕ) → few ≤ many → position test (take few xs) ≡ below few (position test (take many xs))
position_take test few many xs less =
    let zeroth : 0 + few ≡ few = omega arith in
    position_from-zero test (take few xs) ∙ from_take test 0 few many xs less ∙ ap (λ n. below n (position_from test 0 (take many xs))) zeroth
    ∙ ap (below few) (sym (position_from-zero test (take many xs)))

-- the first mapping below a number is the first of more, if that is below it
pub first_in-below : (m : Mappings) (from upto to page : ℕ) → m.low ≤ from → from ≤ upto → upto ≤ to → first_in m from upto page ≡ below upto (first_in m from to page)
first_in-below m from upto to page low first less =
    let few : (upto - m.low) - (from - m.low) ≤ (to - m.low) - (from - m.low) = omega arith in
    let limit : m.low + ((from - m.low) + ((upto - m.low) - (from - m.low))) ≡ upto = omega arith in
    let test : ℕ → Bool = λ other. nat_eq other page in
    let rest : List ℕ = drop (from - m.low) m.pages in
    let all : Option ℕ = position test (take ((to - m.low) - (from - m.low)) rest) in
    ap (λ o. option_map (λ place. m.low + place) (option_map (λ place. (from - m.low) + place) o)) (position_take test ((upto - m.low) - (from - m.low)) ((to - m.low) - (from - m.low)) rest few)
    ∙ ap (option_map (λ place. m.low + place)) (below_shift (from - m.low) ((upto - m.low) - (from - m.low)) all)
    ∙ below_shift m.low ((from - m.low) + ((upto - m.low) - (from - m.low))) (option_map (λ place. (from - m.low) + place) all)
    ∙ ap (λ n. below n (first_in m from to page)) limit

below_less : (few many : ℕ) (o : Option ℕ) → few ≤ many → below many o ≡ None → below few o ≡ None
below_less few many None less none = refl
below_less few many (Some place) less none = go (cases_lt place many)
  where
    go : (place < many) ⊎ (many ≤ place) → below few (Some place) ≡ None
    go (inl before) = let some : Some place ≡ None = sym (ap (λ b. cond b (Some place) None) (lt_true place many before)) ∙ none in absurd cc
    go (inr behind) = ap (λ b. cond b (Some place) None) (lt_false place few (omega arith))

first_in-none : (m : Mappings) (from upto page : ℕ) → upto ≤ from → first_in m from upto page ≡ None
first_in-none m from upto page none =
    let count : (upto - m.low) - (from - m.low) ≡ 0 = omega arith in
    ap (λ n. option_map (λ place. m.low + place) (option_map (λ place. (from - m.low) + place) (position (λ other. nat_eq other page) (take n (drop (from - m.low) m.pages))))) count

-- the same, wherever the number is
pub first_in-cut : (m : Mappings) (from upto to page : ℕ) → m.low ≤ from → from ≤ to → upto ≤ to → first_in m from upto page ≡ below upto (first_in m from to page)
first_in-cut m from upto to page low ordered less = go (cases_lt upto from)
  where
    go : (upto < from) ⊎ (from ≤ upto) → first_in m from upto page ≡ below upto (first_in m from to page)
    go (inr first) = first_in-below m from upto to page low first less
    go (inl before) =
        let short : upto ≤ from = omega arith in
        first_in-none m from upto page short
        ∙ sym (below_less upto from (first_in m from to page) short (sym (first_in-below m from from to page low (omega arith) ordered) ∙ first_in-none m from from page (omega arith)))

pub tail_self : (m : Mappings) → IsTailOf m m
tail_self m = record {
  above = omega arith;
  within = omega arith;
  same = let none : m.low - m.low ≡ 0 = omega arith in sym (ap (λ n. let r : Mappings = record { low = m.low; pages = drop n m.pages } in r) none);
}

-- what a table that covers enough finds below the limit is the first mapping below it
pub found_below : (levels : Mappings) (table : Table) (start upto page : ℕ) (found : Option ℕ) → IsFirstMet table levels → table.start ≡ start → table.start ≤ table.covered → upto ≤ table.covered
    → found ≡ first_in levels table.start table.covered page → below upto found ≡ first_in levels start upto page
found_below levels table start upto page found met same ordered enough tells =
    ap (below upto) tells ∙ sym (first_in-cut levels table.start upto table.covered page met.above ordered enough) ∙ ap (λ n. first_in levels n upto page) same

shifted : (a b c d : ℕ) (o : Option ℕ) → a + b ≡ c + d → option_map (λ place. a + place) (option_map (λ place. b + place) o) ≡ option_map (λ place. c + place) (option_map (λ place. d + place) o)
shifted a b c d None same = refl
shifted a b c d (Some place) same = let e : a + (b + place) ≡ c + (d + place) = omega arith in ap Some e

-- in memory so many mappings from a number on are the vault's
pub shown_part : (levels : Mappings) (held : ℕ) (m : Mappings) (from n : ℕ) → Shows levels held m → levels.low ≤ from → (from - levels.low) + n ≤ held - levels.low → take n (drop (from - levels.low) levels.pages) ≡ take n (drop (from - m.low) m.pages)
shown_part levels held m from n shows low few =
    let a : ℕ = from - levels.low in
    let whole : held - levels.low ≡ (from - levels.low) + ((held - levels.low) - (from - levels.low)) = omega arith in
    let less : n ≤ (held - levels.low) - (from - levels.low) = omega arith in
    let place : levels.low - m.low + (from - levels.low) ≡ from - m.low = omega (arith, shows.above) in
    sym (take-take n ((held - levels.low) - (from - levels.low)) (drop (from - levels.low) levels.pages) less)
    ∙ ap (take n) (sym (drop-take (from - levels.low) ((held - levels.low) - (from - levels.low)) levels.pages)
    ∙ ap (λ k. drop (from - levels.low) (take k levels.pages)) (sym whole)
    ∙ ap (drop (from - levels.low)) (sym shows.same)
    ∙ drop-drop (from - levels.low) (levels.low - m.low) m.pages
    ∙ ap (λ k. drop k m.pages) place)

-- in memory a page's first mapping below `held` is that of the vault's mappings
pub shows_first : (levels : Mappings) (held : ℕ) (m : Mappings) (from upto page : ℕ) → Shows levels held m → levels.low ≤ from → upto ≤ held → first_in levels from upto page ≡ first_in m from upto page
shows_first levels held m from upto page shows low known = go (cases_lt from upto)
  where
    go : (from < upto) ⊎ (upto ≤ from) → first_in levels from upto page ≡ first_in m from upto page
    go (inr none) = first_in-none levels from upto page none ∙ sym (first_in-none m from upto page none)
    go (inl some) =
        let count : (upto - levels.low) - (from - levels.low) ≡ (upto - m.low) - (from - m.low) = omega (arith, shows.above) in
        let few : (from - levels.low) + ((upto - m.low) - (from - m.low)) ≤ held - levels.low = omega (arith, shows.above) in
        let shift : levels.low + (from - levels.low) ≡ m.low + (from - m.low) = omega (arith, shows.above) in
        ap (λ n. option_map (λ place. levels.low + place) (option_map (λ place. (from - levels.low) + place) (position (λ other. nat_eq other page) (take n (drop (from - levels.low) levels.pages))))) count
        ∙ ap (λ r. option_map (λ place. levels.low + place) (option_map (λ place. (from - levels.low) + place) (position (λ other. nat_eq other page) r))) (shown_part levels held m from ((upto - m.low) - (from - m.low)) shows low few)
        ∙ shifted levels.low (from - levels.low) m.low (from - m.low) (position (λ other. nat_eq other page) (take ((upto - m.low) - (from - m.low)) (drop (from - m.low) m.pages))) shift

-- the archive finds what the vault has
module _ {D : Type 0} (is_honest : D → Type 0) (state : D → State) (old new : Running D) (vault : Vault) (is : IsVault is_honest state old vault) (start upto page : ℕ) (above : old.side.levels.low ≤ start) (known : upto ≤ old.side.held) where
  same_first : first_in old.side.levels start upto page ≡ first_in vault.mappings start upto page
  same_first = shows_first old.side.levels old.side.held vault.mappings start upto page is.mapped.shows above known

  -- the vault of an archive that has read
  pub stays_vault : new.side ≡ old.side → new.laid ≡ old.laid → new.first_fault ≡ old.first_fault → SameFile is_honest old.pagelog new.pagelog → (is_honest old.pagelog.disk → Unchanged (state old.pagelog.disk) (state new.pagelog.disk)) → IsVault is_honest state new vault
  stays_vault side laid fault file unchanged = record {
    stopped = is.stopped ∙ ap is_some (sym fault);
    mapped = subst (λ (s : Side D). IsMapSide is_honest state s vault) (sym side) is.mapped;
    laid = is.laid ∙ sym laid;
    slots = λ told.
        let was = file.honest.1 told in
        record {
          reads = λ slot. ap (λ (bytes : List ℕ). block_at bytes slot) (unchanged was).same ∙ (is.slots was).reads slot;
          sure = λ slot none place within loose. (is.slots was).sure slot none place within (((unchanged was).loose place).0 loose);
        };
    fills = λ told. let was = file.honest.1 told in ap length (unchanged was).same ∙ (is.fills was ∙ ap (λ n. PAGE_BYTES * n) (sym file.blocks));
  }

  pub finds_some : (number : ℕ) (before after : List ℕ) → IsVault is_honest state new vault → Some number ≡ first_in old.side.levels start upto page → (is_honest old.pagelog.disk → after ≡ block_at (state old.pagelog.disk).seen (slot_of old.pagelog.blocks number))
      → Finds is_honest state old new vault start upto page before after (Ok true)
  finds_some number before after stays there read = record {
    stays = stays;
    found = ap is_some (there ∙ same_first);
    bytes = λ told. read told ∙ (is.slots told).reads (slot_of old.pagelog.blocks number) ∙ ap (in_slot vault old.pagelog.blocks before) (there ∙ same_first);
  }

  pub finds_none : (bytes : List ℕ) → IsVault is_honest state new vault → None ≡ first_in old.side.levels start upto page → Finds is_honest state old new vault start upto page bytes bytes (Ok false)
  finds_none bytes stays there = record {
    stays = stays;
    found = ap is_some (there ∙ same_first);
    bytes = λ told. ap (in_slot vault old.pagelog.blocks bytes) (there ∙ same_first);
  }

  pub finds_nothing : (before after : List ℕ) (e : Fault) → IsVault is_honest state new vault → Finds is_honest state old new vault start upto page before after (Err e)
  finds_nothing before after e stays = record { stays = stays; found = tt; bytes = λ told. tt }
