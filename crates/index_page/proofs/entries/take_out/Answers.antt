use Rattle.std.proofs.Common.{◌≡◌, ◌∙◌, ◌<◌, true, length, get_or, sym, ap, inl, inr, arith}
use Rattle.pager.specs.Index.{same_found}
use Rattle.index_page.specs.Entries.{entry_place}
use Rattle.index_page.proofs.Placing.{IsNoneAt, there, taken_out-none, taken_out-remove}
use Rattle.index_page.proofs.entries.take_out.Goals.{else-place-len-via-then-place-len+else-is_same, else-place-len-via-else-place-len}
use Rattle.index_page.proofs.entries.take_out.Goals as goal

pub returns-then-is_same : goal.returns-then-is_same
returns-then-is_same c =
    let entry = c.args.entry.now in
    let entries = c.args.entries in
    let at = c.index.result.now in
    let k : c.place_of-place.result ≡ entry_place entry entries = c.place_of-place.ensures.place ∙ ap (entry_place entry) (c.deref.ensures.value ∙ c.from-entries.ensures) in
    let lt : entry_place entry entries < length entries = omega (arith, ap length c.from-entries.ensures, c.len.ensures) in
    let is : at ≡ get_or entries (entry_place entry entries) at = c.index.ensures ∙ there c.from-entries.result.items entries c.place_of-place.result (entry_place entry entries) at c.from-entries.ensures k in
    let same : same_found at entry ≡ true = sym c.is_same.ensures ∙ c.if-is_same.true in
    c.from.ensures ∙ (rw (c.remove.ensures.items, c.from-entries.ensures, k) (sym (taken_out-remove entry entries at lt is same)))

pub returns : goal.returns
returns c =
    let entry = c.args.entry.now in
    let entries = c.args.entries in
    let k : c.place_of-place.result ≡ entry_place entry entries = c.place_of-place.ensures.place ∙ ap (entry_place entry) (c.deref.ensures.value ∙ c.from-entries.ensures) in
    let none : IsNoneAt (λ found. same_found found entry) entries (entry_place entry entries) =
    elim c.else-place-len.branch [
      | else-place-len-via-then-place-len+else-is_same w ↦ inr (w.index.result.now, w.index.ensures ∙ there c.from-entries.result.items entries c.place_of-place.result (entry_place entry entries) w.index.result.now c.from-entries.ensures k, sym w.is_same.ensures ∙ w.if-is_same.false)
      | else-place-len-via-else-place-len w ↦ inl (omega (arith, ap length c.from-entries.ensures, c.len.ensures, w.if-place-len.false))
    ] in
    c.from-2.ensures ∙ (rw (c.from-entries.ensures) (sym (taken_out-none entry entries none)))
