-- What fits a history fits it with one change more.
use Rattle.std.proofs.Common.{◌≡◌, ◌⊎◌, inl, inr, ◌≤◌, ◌<◌, ◌∙◌, ℕ, zero, suc, List, [], ◌∷◌, ◌++◌, drop, sym, ap, subst, arith, append_assoc}
use Rattle.std.specs.Prelude.{Contains}
use Rattle.std.specs.List.{AllByRecursion}
use Rattle.std.proofs.lemmas.List.{drop-append-le}
use Rattle.history.specs.declared.entry.Change.{Change}
use Rattle.history.specs.declared.writes.PageImage.{PageImage}
use Rattle.history.specs.Writes.{pages_of}
use Rattle.history.specs.Right.{MayFollow}
use Rattle.history.specs.History.{State, History, now, captures, captured_by, with_change}
use Rattle.history.proofs.Captures.{now-with}
use Rattle.history.specs.Laws.{IsConsistent, KeepsNewest}
use Rattle.skippy.specs.Mappings.{Mappings}
use Rattle.race_model.specs.Vault.{Vault, Batch}
use Rattle.race_model.specs.Fits.{HistoryFits, MappingsFit, VaultFits, BatchFits, WasSent}
use Rattle.race_model.specs.Images.{HoldsCaptures}
use Rattle.race_model.proofs.Lists.{pages_of-append, pages_of-length}
use Rattle.race_model.proofs.Histories.{keeps_newest, page_count_after, count, oldest_within, grown, count_with, start_with, captured_with, drop_with}
use Rattle.race_model.proofs.Opening.{end_within}

pub contains_cons : {X : Type 0} (x y : X) (xs : List X) → Contains (x ∷ xs) y → (y ≡ x) ⊎ Contains xs y
contains_cons x y xs (zero, lt, e) = inl (sym e)
contains_cons x y xs (suc k, lt, e) = inr (k, omega (arith, lt), e)

pub contains_none : {X : Type 0} (y : X) → Contains [] y → ⊥
contains_none y (k, lt, e) = absurd (omega (arith, lt))

pub all_at : {X : Type 0} (P : X → Type 0) (xs : List X) (x : X) → AllByRecursion P xs → Contains xs x → P x
all_at P [] x all is = absurd (contains_none x is)
all_at P (y ∷ xs) x all is = elim (contains_cons y x xs is) [ inl e ↦ subst P (sym e) all.0 | inr later ↦ all_at P xs x all.1 later ]

pub all_map : {X : Type 0} (P Q : X → Type 0) (xs : List X) → ((x : X) → P x → Q x) → AllByRecursion P xs → AllByRecursion Q xs
all_map P Q [] leads all = tt
all_map P Q (x ∷ xs) leads all = (leads x all.0, all_map P Q xs leads all.1)

pub sent_with : (start : State) (change : Change) (rest : List Change) (need page : ℕ) → WasSent start rest need page → WasSent start (rest ++ change ∷ []) need page
sent_with start change rest need page sent = record {
  early = sent.early;
  late = sent.late ++ change ∷ [];
  split = sym (append_assoc sent.early sent.late (change ∷ [])) ∙ ap (λ (t : List Change). t ++ change ∷ []) sent.split;
  written = sent.written;
  below = sent.below;
}

pub sent_up : (start : State) (rest : List Change) (need more page : ℕ) → need ≤ more → WasSent start rest need page → WasSent start rest more page
sent_up start rest need more page le sent = record { early = sent.early; late = sent.late; split = sent.split; written = sent.written; below = λ place lt e. omega (arith, sent.below place lt e, le) }

module _ (history : History) (floor : ℕ) (fine : IsConsistent history) (change : Change) (keeps : KeepsNewest (now history).base change) where
  pub mappings_with : (mappings : Mappings) → MappingsFit history floor mappings → MappingsFit (with_change history change) floor mappings
  mappings_with mappings is = record {
    above = is.above;
    needed = omega (arith, is.needed, start_with history fine change keeps);
    later = is.later ++ pages_of (captured_by (now history) change);
    same = ap (λ (images : List PageImage). drop mappings.low (pages_of images)) (grown history fine change keeps)
        ∙ ap (drop mappings.low) (pages_of-append (captures history) (captured_by (now history) change))
        ∙ drop-append-le mappings.low (pages_of (captures history)) (pages_of (captured_by (now history) change)) (omega (arith, pages_of-length (captures history), count history fine, is.needed, oldest_within history fine))
        ∙ ap (λ (ps : List ℕ). ps ++ pages_of (captured_by (now history) change)) is.same
        ∙ append_assoc mappings.pages is.later (pages_of (captured_by (now history) change));
    room = is.room;
  }

  pub vault_with : (vault : Vault) → VaultFits history floor vault → VaultFits (with_change history change) floor vault
  vault_with vault f = record {
    mappings = mappings_with vault.mappings f.mappings;
    others = λ other is. (mappings_with other.mappings (f.others other is).0, (f.others other is).1, (f.others other is).2, (f.others other is).3);
    held = f.held;
    laid = omega (arith, f.laid, count_with history fine change keeps);
    room = f.room;
    slots = λ number ge lt. (
      (f.slots number (omega (arith, ge, start_with history fine change keeps)) lt).0,
      (f.slots number (omega (arith, ge, start_with history fine change keeps)) lt).1 ∙ ap (λ (i : PageImage). i.bytes) (sym (captured_with history fine change keeps number (omega (arith, lt, f.laid)))),
    );
  }

module _ (history : History) (fine : IsConsistent history) (change : Change) (keeps : KeepsNewest (now history).base change) where
  pages_stay : (now (with_change history change)).base.page_count ≡ (now history).base.page_count
  pages_stay = ap (λ (s : State). s.base.page_count) (now-with history change) ∙ page_count_after (now history).base change

  pub batch_with : (batch : Batch) → BatchFits history batch → BatchFits (with_change history change) batch
  batch_with batch f = record {
    low = omega (arith, f.low, start_with history fine change keeps);
    above = f.above;
    later = f.later ++ captured_by (now history) change;
    same = drop_with history fine change keeps batch.first (omega (arith, f.within)) ∙ ap (λ (t : List PageImage). t ++ captured_by (now history) change) f.same ∙ append_assoc batch.images f.later (captured_by (now history) change);
    within = omega (arith, f.within, count_with history fine change keeps);
    room = f.room;
    pages = subst (λ n. AllByRecursion (λ page. page < n) (pages_of batch.images)) (sym pages_stay) f.pages;
  }

pub holds_with : (history : History) (floor : ℕ) (fits : HistoryFits history floor) (change : Change) (may : MayFollow (now history).base change) (n : ℕ) (mappings : Mappings) (slots : ℕ → List ℕ) → HoldsCaptures history floor n mappings slots
    → HoldsCaptures (with_change history change) floor n mappings slots
holds_with history floor fits change may n mappings slots holds =
    let keeps : KeepsNewest (now history).base change = keeps_newest (now history).base change may.right in
    record {
      mapped = mappings_with history floor fits.consistent change keeps mappings holds.mapped;
      enough = holds.enough;
      filled = λ number ge lt.
          holds.filled number (omega (arith, ge, start_with history fits.consistent change keeps)) lt
          ∙ ap (λ (i : PageImage). i.bytes) (sym (captured_with history fits.consistent change keeps number (omega (arith, lt, end_within history floor fits mappings holds.mapped))));
    }
