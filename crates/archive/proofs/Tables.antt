-- Tables that are kept.
use Rattle.std.proofs.Common.{◌≡◌, ◌∙◌, ◌+◌, ◌-◌, ◌≤◌, ◌<◌, ◌⊎◌, ℕ, List, drop, max, take, sym, ap, arith, inl, inr}
use Rattle.std.proofs.lemmas.Bool.{cases_lt}
use Rattle.skippy.proofs.FirstLemmas.{firsts}
use Rattle.skippy.proofs.ScanLemmas.{first_mappings-firsts}
use Rattle.skippy.specs.Mappings.{Mappings, pages_in}
use Rattle.archive.specs.Laws.{TableIsShown, TableStays}
use Rattle.archive.specs.Side.{Shows}
use Rattle.archive.proofs.Finding.{shown_part}

pub table_stays : TableStays
table_stays table old new met low same = record {
  above = low;
  entries =
      met.entries ∙ first_mappings-firsts old table.start table.covered met.above ∙ ap (λ (pages : List ℕ). firsts table.start pages) (sym same)
      ∙ sym (first_mappings-firsts new table.start table.covered low);
}

-- in memory the mappings of a range are the vault's
same_pages : (levels : Mappings) (held : ℕ) (m : Mappings) (from to : ℕ) → Shows levels held m → levels.low ≤ from → to ≤ max from held → pages_in levels from to ≡ pages_in m from to
same_pages levels held m from to shows low known = by (cases_lt from to)
  where
    by : (from < to) ⊎ (to ≤ from) → pages_in levels from to ≡ pages_in m from to
    by (inl some) = let few : (from - levels.low) + (to - from) ≤ held - levels.low = omega (arith, known) in shown_part levels held m from (to - from) shows low few
    by (inr none) =
        let count : to - from ≡ 0 = omega arith in
        ap (λ n. take n (drop (from - levels.low) levels.pages)) count ∙ sym (ap (λ n. take n (drop (from - m.low) m.pages)) count)

pub table_is_shown : TableIsShown
table_is_shown table levels held mappings shows low known =
    let same : pages_in levels table.start table.covered ≡ pages_in mappings table.start table.covered = same_pages levels held mappings table.start table.covered shows low known in
    (λ met. table_stays table mappings levels met low same, λ met. table_stays table levels mappings met (omega (arith, shows.above, low)) (sym same))
