-- Entries that are too many for a page by one, in two parts.
use Rattle.std.proofs.Common.{◌≡◌, ◌≤◌, ◌+◌, ◌*◌, ℕ, Bool, true, false, leb, List, [], ◌∷◌, length, take, drop, refl, sym, ap, arith, ◌∙◌}
use Rattle.std.specs.List.{AllByRecursion}
use Rattle.std.proofs.lemmas.Bool.{leb-true, leb-false}
use Rattle.std.proofs.lemmas.List.{take-append-drop}
use Rattle.pager.specs.Index.{IsFound}
use Rattle.pager.specs.declared.index.Found.{Found}
use Rattle.index_page.specs.IndexPage.{FourFit, HalvesFit, entry_code, half, more_for_half, width}
use Rattle.index_page.proofs.Packing.{entry-short, width-append, width-cons, width-most}

-- the first part fills half
fills : (total filled : ℕ) (entries : List Found) → total ≤ filled + width entries → total ≤ 2 * (filled + width (take (more_for_half total filled entries) entries))
fills total filled [] e = omega arith
fills total filled (entry ∷ rest) e =
    step (leb total (2 * filled)) refl (fills total (filled + length (entry_code entry)) rest (omega (arith, width-cons entry rest)))
  where
    step : (b : Bool) → leb total (2 * filled) ≡ b → total ≤ 2 * (filled + length (entry_code entry) + width (take (more_for_half total (filled + length (entry_code entry)) rest) rest)) → total ≤ 2 * (filled + width (take (more_for_half total filled (entry ∷ rest)) (entry ∷ rest)))
    step true h more = rw h (omega (arith, leb-true _ _ h))
    step false h more = rw h (omega (arith, more, width-cons entry (take (more_for_half total (filled + length (entry_code entry)) rest) rest)))

-- and at most one entry more
ends : (total filled : ℕ) (entries : List Found) → AllByRecursion IsFound entries → 2 * filled ≤ total + 434 → 2 * (filled + width (take (more_for_half total filled entries) entries)) ≤ total + 434
ends total filled [] is e = omega arith
ends total filled (entry ∷ rest) is e = step (leb total (2 * filled)) refl (ends total (filled + length (entry_code entry)) rest is.1)
  where
    step : (b : Bool) → leb total (2 * filled) ≡ b → (2 * (filled + length (entry_code entry)) ≤ total + 434 → 2 * (filled + length (entry_code entry) + width (take (more_for_half total (filled + length (entry_code entry)) rest) rest)) ≤ total + 434) → 2 * (filled + width (take (more_for_half total filled (entry ∷ rest)) (entry ∷ rest))) ≤ total + 434
    step true h more = rw h (omega arith)
    step false h more =
        rw h (omega (arith, more (omega (arith, leb-false _ _ h, entry-short entry is.0)), width-cons entry (take (more_for_half total (filled + length (entry_code entry)) rest) rest)))

pub halves_fit : HalvesFit
halves_fit entries is most =
    let total = width entries in
    let front = take (half entries) entries in
    let back = drop (half entries) entries in
    let all : width entries ≡ width front + width back = ap width (sym (take-append-drop (half entries) entries)) ∙ width-append front back in
    let long = fills total 0 entries (omega arith) in
    let short = ends total 0 entries is (omega arith) in
    (omega (arith, short), omega (arith, long, all))

pub four_fit : FourFit
four_fit entries is few = omega (arith, width-most entries is)
