-- What fits a history fits it when it has gone on; and what the desk told stays right until the vault finds.
use Rattle.std.proofs.Common.{◌≡◌, inl, inr, ◌≤◌, ◌+◌, ◌-◌, ◌∙◌, ◌++◌, ◌∷◌, [], ℕ, List, Bool, true, eqb, max, drop, take, ap, sym, subst, arith}
use Rattle.std.specs.Prelude.{position, option_map}
use Rattle.history.specs.declared.entry.Base.{Base}
use Rattle.history.specs.declared.entry.Change.{Change}
use Rattle.history.specs.declared.journal.Line.{Line}
use Rattle.history.specs.Marks.{is_retained}
use Rattle.history.specs.History.{History, State, now, base_after, bases_after, with_change, with_changes, pages_as_of}
use Rattle.history.specs.Journal.{changes_of, after_journal}
use Rattle.history.specs.Laws.{IsConsistent, KeepsNewest, AllKeepNewest}
use Rattle.history.specs.Right.{AllMayFollow}
use Rattle.history.specs.Sound.{IsSound}
use Rattle.history.proofs.Captures.{now-with, with_changes-step, with_changes-none}
use Rattle.history.proofs.Consistent.{step_consistent, next_keeps, stays_consistent}
use Rattle.history.proofs.AsOf.{base_behind_all}
use Rattle.history.proofs.Journals.{changes-append, journal_keeps, newest-split, with_changes-append}
use Rattle.history.proofs.SoundLaws.{changes_may_follow}
use Rattle.skippy.specs.Mappings.{end_of}
use Rattle.race_model.specs.Desk.{capacity_of}
use Rattle.race_model.specs.Vault.{Maplog, Vault, Batch, IsMaplogOf}
use Rattle.race_model.specs.Fits.{HistoryFits, MappingsFit, VaultFits, BatchFits}
use Rattle.race_model.specs.Apart.{HistoryOutlives, HistoryOutlivesLines, Outlives, OutlivesLines, ToldBelow, AllOutlive, VaultFinds, FindsAlike, PastIsRight, PastOverLines, TrimLeaves}
use Rattle.race_model.specs.Reading.{PeekTold, told_of, found}
use Rattle.race_model.proofs.Lists.{drop-to}
use Rattle.race_model.proofs.Grows.{contains_none, vault_with, batch_with}
use Rattle.race_model.proofs.Histories.{keeps_newest, count_with, fits_with}
use Rattle.race_model.proofs.Readings.{option_map-add, told_with, told_fits, first_is, found_is}
use Rattle.race_model.proofs.VaultKeeps.{trim_end}

-- ---- lists of changes

may_split : (base : Base) (xs ys : List Change) → AllMayFollow base (xs ++ ys) → AllMayFollow (bases_after base xs) ys
may_split base [] ys all = all
may_split base (x ∷ xs) ys all = may_split (base_after base x) xs ys all.1

all_keep : (base : Base) (changes : List Change) → AllMayFollow base changes → AllKeepNewest base changes
all_keep base [] may = tt
all_keep base (change ∷ changes) may = (keeps_newest base change may.0.right, all_keep (base_after base change) changes may.1)

-- ---- a history goes on

pub history_outlives : HistoryOutlives
history_outlives history floor [] fits may = subst (λ (h : History). HistoryFits h floor) (sym (with_changes-none history)) fits
history_outlives history floor (change ∷ more) fits may =
    let step : History = with_change history change in
    let rest = subst (λ (b : Base). AllMayFollow b more) (sym (ap (λ (s : State). s.base) (now-with history change))) may.1 in
    subst (λ (h : History). HistoryFits h floor) (sym (with_changes-step history change more)) (history_outlives step floor more (fits_with history floor fits change may.0) rest)

-- the changes of more lines, and where they lead
lines_append : (history : History) (lines more : List Line)
    → after_journal history (lines ++ more) ≡ with_changes (after_journal history lines) (changes_of (bases_after (now history).base (changes_of (now history).base lines)) more)
lines_append history lines more =
    let base : Base = (now history).base in
    let first : List Change = changes_of base lines in
    ap (with_changes history) (changes-append base lines more) ∙ with_changes-append history first (changes_of (bases_after base first) more)

more_may : (history : History) (lines more : List Line) → IsSound (now history).base (lines ++ more)
    → AllMayFollow (now (after_journal history lines)).base (changes_of (bases_after (now history).base (changes_of (now history).base lines)) more)
more_may history lines more sound =
    let base : Base = (now history).base in
    let first : List Change = changes_of base lines in
    let second : List Change = changes_of (bases_after base first) more in
    subst (λ (b : Base). AllMayFollow b second) (sym (base_behind_all history first)) (may_split base first second (subst (AllMayFollow base) (changes-append base lines more) (changes_may_follow base (lines ++ more) sound)))

pub history_outlives_lines : HistoryOutlivesLines
history_outlives_lines history floor lines more sound fits =
    subst (λ (h : History). HistoryFits h floor) (sym (lines_append history lines more))
    (history_outlives (after_journal history lines) floor (changes_of (bases_after (now history).base (changes_of (now history).base lines)) more) fits (more_may history lines more sound))

-- what one change leaves, all leave
abbrev OutlivesOne : (History → Type 0) → Type 0
OutlivesOne Fit = (history : History) (change : Change) → IsConsistent history → KeepsNewest (now history).base change → Fit history → Fit (with_change history change)

outlives : (Fit : History → Type 0) → OutlivesOne Fit → Outlives Fit
outlives Fit one history [] fine keeps fit = subst Fit (sym (with_changes-none history)) fit
outlives Fit one history (change ∷ more) fine keeps fit =
    subst Fit (sym (with_changes-step history change more))
    (outlives Fit one (with_change history change) more (step_consistent history change fine keeps.0) (next_keeps history change more keeps.1) (one history change fine keeps.0 fit))

over_lines : (Fit : History → Type 0) → Outlives Fit → OutlivesLines Fit
over_lines Fit all history lines more fine sound fit =
    let base : Base = (now history).base in
    let first : List Change = changes_of base lines in
    let second : List Change = changes_of (bases_after base first) more in
    let both = newest-split base first second (subst (AllKeepNewest base) (changes-append base lines more) (journal_keeps base [] (lines ++ more) sound.keeps)) in
    let there : History = with_changes history first in
    subst Fit (sym (lines_append history lines more))
    (all there second (stays_consistent history first fine both.0) (subst (λ (b : Base). AllKeepNewest b second) (sym (base_behind_all history first)) both.1) fit)

vault_one : (floor : ℕ) (vault : Vault) → OutlivesOne (λ history. VaultFits history floor vault)
vault_one floor vault history change fine keeps fit = vault_with history floor fine change keeps vault fit

batch_one : (batch : Batch) → OutlivesOne (λ history. BatchFits history batch)
batch_one batch history change fine keeps fit = batch_with history fine change keeps batch fit

told_one : (acked : ℕ) (told : PeekTold) → OutlivesOne (ToldBelow acked told)
told_one acked told history change fine keeps fit = record {
  there = omega (arith, fit.there, count_with history fine change keeps);
  fits = told_with history fine change keeps acked fit.there told fit.fits;
}

pub all_outlive : AllOutlive Outlives
all_outlive = record {
  vault = λ floor vault. outlives (λ history. VaultFits history floor vault) (vault_one floor vault);
  batch = λ batch. outlives (λ history. BatchFits history batch) (batch_one batch);
  told = λ acked told. outlives (ToldBelow acked told) (told_one acked told);
}

pub all_outlive_lines : AllOutlive OutlivesLines
all_outlive_lines = record {
  vault = λ floor vault. over_lines (λ history. VaultFits history floor vault) (all_outlive.vault floor vault);
  batch = λ batch. over_lines (λ history. BatchFits history batch) (all_outlive.batch batch);
  told = λ acked told. over_lines (ToldBelow acked told) (all_outlive.told acked told);
}

-- ---- what the vault finds

-- a vault that has whichever of its mappings memory keeps
module _ (history : History) (floor : ℕ) (vault : Vault) (f : VaultFits history floor vault) (kept : Maplog) (are : IsMaplogOf vault kept) where
  abbrev kept_vault : Vault
  kept_vault = record vault { mappings = kept.mappings; others = [] }

  kept_within : MappingsFit history floor kept.mappings × (end_of vault.mappings ≤ end_of kept.mappings) × (end_of kept.mappings ≤ vault.laid)
  kept_within = elim are [
    | inl e ↦ subst (λ (m : Maplog). MappingsFit history floor m.mappings × (end_of vault.mappings ≤ end_of m.mappings) × (end_of m.mappings ≤ vault.laid)) (sym e) (f.mappings, omega arith, f.held)
    | inr other ↦ ((f.others kept other).0, (f.others kept other).1, (f.others kept other).2)
  ]

  kept_fits : VaultFits history floor kept_vault
  kept_fits = record {
    mappings = kept_within.0;
    others = λ other never. absurd (contains_none other never);
    held = kept_within.2;
    laid = f.laid;
    room = omega (arith, f.room, kept_within.1);
    slots = f.slots;
  }

pub vault_finds : VaultFinds
vault_finds history floor acked vault kept told fits f are held fit retained =
    found_is history floor fits (kept_vault history floor vault f kept are) (kept_fits history floor vault f kept are) told acked (omega (arith, held, (kept_within history floor vault f kept are).1)) fit retained

pub finds_alike : FindsAlike
finds_alike history floor vault kept start upto page fits f are above within =
    let kept_is = kept_within history floor vault f kept are in
    first_is history floor fits (kept_vault history floor vault f kept are) (kept_fits history floor vault f kept are) start upto page (omega (arith, above, kept_is.0.needed)) (omega (arith, within, kept_is.1))
    ∙ sym (first_is history floor fits vault f start upto page (omega (arith, above, f.mappings.needed)) within)

pub past_is_right : PastIsRight
past_is_right desk more vault kept snapshot page fits may f are held retained still =
    let told : PeekTold = told_of desk snapshot page in
    let later : History = with_changes desk.history more in
    let keeps : AllKeepNewest (now desk.history).base more = all_keep (now desk.history).base more may in
    let later_told = all_outlive.told desk.acked told desk.history more fits.history.consistent keeps (record { there = fits.pending; fits = told_fits desk fits.history snapshot page retained }) in
    vault_finds later desk.floor desk.acked vault kept told (history_outlives desk.history desk.floor more fits.history may) f are held later_told.fits still

pub past_over_lines : PastOverLines
past_over_lines opening lines more desk vault kept snapshot page sound seen fits f are held retained still =
    let second : List Change = changes_of (bases_after (now opening).base (changes_of (now opening).base lines)) more in
    let goes : after_journal opening (lines ++ more) ≡ with_changes desk.history second = lines_append opening lines more ∙ ap (λ (h : History). with_changes h second) (sym seen) in
    let may : AllMayFollow (now desk.history).base second = subst (λ (h : History). AllMayFollow (now h).base second) (sym seen) (more_may opening lines more sound) in
    subst (λ (h : History). found (record vault { mappings = kept.mappings }) (capacity_of h) (told_of desk snapshot page) ≡ pages_as_of h snapshot page) (sym goes)
    (past_is_right desk second vault kept snapshot page fits may (subst (λ (h : History). VaultFits h desk.floor vault) goes f) are held retained
    (subst (λ (h : History). is_retained snapshot (now h).base.marks ≡ true) goes still))

pub trim_leaves : TrimLeaves
trim_leaves vault low held = (
  trim_end vault.mappings low held,
  λ start upto page above.
      let from : ℕ = vault.mappings.low in
      let to : ℕ = max vault.mappings.low low in
      let test : ℕ → Bool = λ other. eqb other page in
      let pages : List ℕ = vault.mappings.pages in
      let same : drop (start - to) (drop (to - from) pages) ≡ drop (start - from) pages = drop-to (to - from) (start - to) (start - from) pages (omega (arith, above)) in
      let as_many : (upto - to) - (start - to) ≡ (upto - from) - (start - from) = omega (arith, above) in
      ap (λ (ps : List ℕ). option_map (λ place. to + place) (option_map (λ place. (start - to) + place) (position test (take ((upto - to) - (start - to)) ps)))) same
      ∙ option_map-add to (start - to) start (position test (take ((upto - to) - (start - to)) (drop (start - from) pages))) (omega (arith, above))
      ∙ ap (λ n. option_map (λ place. start + place) (position test (take n (drop (start - from) pages)))) as_many
      ∙ sym (option_map-add from (start - from) start (position test (take ((upto - from) - (start - from)) (drop (start - from) pages))) (omega (arith, above))),
)
