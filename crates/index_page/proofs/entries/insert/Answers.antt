use Rattle.std.proofs.Common.{◌≡◌, ◌∙◌, ◌<◌, true, length, get_or, sym, ap, inl, inr, arith}
use Rattle.std.specs.Ordering.{is_eq}
use Rattle.pager.specs.Index.{found_cmp}
use Rattle.index_page.specs.Entries.{entry_place}
use Rattle.index_page.proofs.Placing.{IsNoneAt, there, inserted-insert, inserted-replace}
use Rattle.index_page.proofs.entries.insert.Goals.{else-place-len-via-then-place-len+else-is_like, else-place-len-via-else-place-len}
use Rattle.index_page.proofs.entries.insert.Goals as goal

pub returns-then-is_like : goal.returns-then-is_like
returns-then-is_like c =
    let entry = c.args.entry in
    let entries = c.args.entries in
    let at = c.index.result.now in
    let k : c.place_of-place.result ≡ entry_place entry entries = c.place_of-place.ensures.place ∙ ap (entry_place entry) (c.deref.ensures.value ∙ c.from-entries.ensures) in
    let lt : entry_place entry entries < length entries = omega (arith, ap length c.from-entries.ensures, c.len.ensures) in
    let is : at ≡ get_or entries (entry_place entry entries) at = c.index.ensures ∙ there c.from-entries.result.items entries c.place_of-place.result (entry_place entry entries) at c.from-entries.ensures k in
    let like : is_eq (found_cmp at entry) ≡ true = sym c.is_like.ensures ∙ c.if-is_like.true in
    c.from.ensures ∙ c.in_ok-insert.ensures.items ∙ (rw (c.remove.ensures.items, c.from-entries.ensures, k) (sym (inserted-replace entry entries at lt is like)))

pub returns : goal.returns
returns c =
    let entry = c.args.entry in
    let entries = c.args.entries in
    let k : c.place_of-place.result ≡ entry_place entry entries = c.place_of-place.ensures.place ∙ ap (entry_place entry) (c.deref.ensures.value ∙ c.from-entries.ensures) in
    let none : IsNoneAt (λ found. is_eq (found_cmp found entry)) entries (entry_place entry entries) =
    elim c.else-place-len.branch [
      | else-place-len-via-then-place-len+else-is_like w ↦ inr (w.index.result.now, w.index.ensures ∙ there c.from-entries.result.items entries c.place_of-place.result (entry_place entry entries) w.index.result.now c.from-entries.ensures k, sym w.is_like.ensures ∙ w.if-is_like.false)
      | else-place-len-via-else-place-len w ↦ inl (omega (arith, ap length c.from-entries.ensures, c.len.ensures, w.if-place-len.false))
    ] in
    c.from-2.ensures ∙ c.in_ok-insert-2.ensures.items ∙ (rw (c.from-entries.ensures, k) (sym (inserted-insert entry entries none)))
