use Rattle.std.proofs.Common.{◌≡◌, ◌≤◌, ◌∙◌, ◌++◌, ℕ, List, length, replicate, sym, ap, subst, drop, take, arith}
use Rattle.std.specs.List.{AllByRecursion}
use Rattle.std.proofs.lemmas.List.{length-replicate}
use Rattle.history.specs.declared.entry.Base.{Base}
use Rattle.history.specs.declared.entry.Mark.{Mark}
use Rattle.history.specs.Marks.{newest}
use Rattle.history.specs.Running.{stamped_base, with_stamps}
use Rattle.history.proofs.PageLists.{written_back}
use Rattle.history.proofs.Stamps.{length-with_stamps, stamps_bounded, zeros_bounded, opened_base}
use Rattle.history.proofs.running.RunningBase.new.Goals as goal

-- the stamps that stand in their vector
stood : (base : Base) (items slice new pages : List ℕ) (marks : List Mark) (count number : ℕ) → count ≡ length items → slice ≡ items → items ≡ replicate base.page_count 0 → marks ≡ base.marks → pages ≡ base.captured → number ≡ newest marks
    → new ≡ with_stamps number slice pages → take count (new ++ drop (length new) items) ≡ with_stamps (newest base.marks) (replicate base.page_count 0) base.captured
stood base items slice new pages marks count number long is zeros are all told made =
    let stamps : new ≡ with_stamps (newest base.marks) (replicate base.page_count 0) base.captured =
    made ∙ ap (λ n. with_stamps n slice pages) (told ∙ ap newest are) ∙ ap (λ (l : List ℕ). with_stamps (newest base.marks) l pages) (is ∙ zeros) ∙ ap (with_stamps (newest base.marks) (replicate base.page_count 0)) all in
    written_back items new count (ap length stamps ∙ length-with_stamps (newest base.marks) (replicate base.page_count 0) base.captured ∙ sym (ap length zeros)) long ∙ stamps

pub invariant_of-result : goal.invariant_of-result
invariant_of-result c =
    let base : Base = c.args.base in
    let stamps = stood base c.in_ok-stamps.stamps.items c.deref_mut.result.now c.stamp_pages.new.stamps c.as_slice-2.result.now c.as_slice.result.now c.in_ok-stamps.stamps.len c.newest-number.result c.in_ok-stamps.stamps.ok.0 c.deref_mut.ensures.value (c.in_ok-stamps.ensures.items_if_clones_equal (λ y same. same)) c.as_slice.ensures c.as_slice-2.ensures c.newest-number.ensures c.stamp_pages.ensures in
    let items : c.reserve_exact.new.self.items ≡ base.marks = c.in_ok-reserve_exact.ensures.items ∙ c.from-marks.ensures in
    record {
      kept = omega arith;
      room = omega (arith, c.in_ok-reserve_exact.ensures.ok);
      pages = omega (arith, ap length stamps, length-with_stamps (newest base.marks) (replicate base.page_count 0) base.captured, length-replicate {A = ℕ} base.page_count 0, c.requires.pages.1);
      below =
          subst (λ n. AllByRecursion (λ stamp. stamp ≤ n) (take c.in_ok-stamps.stamps.len (c.stamp_pages.new.stamps ++ drop (length c.stamp_pages.new.stamps) c.in_ok-stamps.stamps.items))) (sym (ap newest items))
          (subst (λ (l : List ℕ). AllByRecursion (λ stamp. stamp ≤ newest base.marks) l) (sym stamps) (stamps_bounded (newest base.marks) (replicate base.page_count 0) base.captured (zeros_bounded (newest base.marks) base.page_count)));
    }

pub returns : goal.returns
returns c =
    let base : Base = c.args.base in
    let stamps = stood base c.in_ok-stamps.stamps.items c.deref_mut.result.now c.stamp_pages.new.stamps c.as_slice-2.result.now c.as_slice.result.now c.in_ok-stamps.stamps.len c.newest-number.result c.in_ok-stamps.stamps.ok.0 c.deref_mut.ensures.value (c.in_ok-stamps.ensures.items_if_clones_equal (λ y same. same)) c.as_slice.ensures c.as_slice-2.ensures c.newest-number.ensures c.stamp_pages.ensures in
    let items : c.reserve_exact.new.self.items ≡ base.marks = c.in_ok-reserve_exact.ensures.items ∙ c.from-marks.ensures in
    ap (λ (l : List Mark). stamped_base base.capacity base.changes base.captures l (take c.in_ok-stamps.stamps.len (c.stamp_pages.new.stamps ++ drop (length c.stamp_pages.new.stamps) c.in_ok-stamps.stamps.items))) items
    ∙ ap (stamped_base base.capacity base.changes base.captures base.marks) stamps
    ∙ opened_base base c.requires
