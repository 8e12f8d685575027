use Rattle.std.proofs.Common.{◌≡◌, ◌∙◌, ◌-◌, ◌++◌, ◌+◌, ℕ, List, [], length, drop, refl, sym, ap, arith}
use Rattle.std.proofs.lemmas.List.{length-map}
use Rattle.history.specs.declared.replaying.Replayed.{Replayed}
use Rattle.history.specs.declared.writes.PageImage.{PageImage}
use Rattle.history.specs.History.{State, run, captures_of}
use Rattle.history.specs.Replayed.{page_in, state_of}
use Rattle.skippy.specs.Mappings.{end_of}
use Rattle.replay.specs.Opened.{Contents, contents_of, opened, slot_images}
use Rattle.replay.proofs.Belonging.{opened_captures, store_count}
use Rattle.replay.proofs.opened.join.Goals as goal

pub holds_changes-requires-clause-captured : goal.holds_changes-requires-clause-captured
holds_changes-requires-clause-captured c =
    let first : State = record { base = c.args.log.base; pages = page_in c.args.pages } in
    let state = c.in_ok-store.ensures.state ∙ ap (λ (r : Replayed). run (state_of r) c.as_slice.result.now) c.in_ok-first.ensures in
    let caps = c.in_ok-store.ensures.captures ∙ ap (λ (r : Replayed). r.captures ++ captures_of (state_of r) c.as_slice.result.now) c.in_ok-first.ensures in
    let count = store_count c.in_ok-store.store first [] c.as_slice.result.now refl state caps in
    let told : length c.in_ok-captured.captured.items ≡ length c.in_ok-store.store.captures =
    ap (λ (l : List ℕ). length l) c.in_ok-captured.ensures ∙ length-map c.as_slice-2.result.now (λ (image : PageImage). image.page) ∙ ap (λ (l : List PageImage). length l) c.as_slice-2.ensures in
    count ∙ ap (λ n. c.args.log.base.captures + n) (sym (ap (λ (l : List ℕ). length l) c.deref.ensures.value ∙ told))

pub from_place-requires : goal.from_place-requires
from_place-requires c =
    let first : State = record { base = c.args.log.base; pages = page_in c.args.pages } in
    let state = c.in_ok-store.ensures.state ∙ ap (λ (r : Replayed). run (state_of r) c.as_slice.result.now) c.in_ok-first.ensures in
    let caps = c.in_ok-store.ensures.captures ∙ ap (λ (r : Replayed). r.captures ++ captures_of (state_of r) c.as_slice.result.now) c.in_ok-first.ensures in
    let count = store_count c.in_ok-store.store first [] c.as_slice.result.now refl state caps in
    let holds = c.if-not-holds_changes.ensures.0 refl in
    omega (arith, count, holds.known, c.end-held.ensures.same, ap (λ (l : List PageImage). length l) c.as_slice-3.ensures)

pub returns-clause-opens : goal.returns-clause-opens
returns-clause-opens c =
    let contents : Contents = contents_of c.args.log c.args.pages c.args.mappings.now c.args.slots.now in
    let first : State = (opened contents).origin in
    let state : state_of c.in_ok-store.store ≡ run first c.args.log.changes =
    c.in_ok-store.ensures.state ∙ ap (λ (r : Replayed). run (state_of r) c.as_slice.result.now) c.in_ok-first.ensures ∙ ap (run first) c.as_slice.ensures in
    let caps : c.in_ok-store.store.captures ≡ captures_of first c.args.log.changes =
    c.in_ok-store.ensures.captures ∙ ap (λ (r : Replayed). r.captures ++ captures_of (state_of r) c.as_slice.result.now) c.in_ok-first.ensures ∙ ap (captures_of first) c.as_slice.ensures in
    record {
      base = c.in_ok-to_base.ensures ∙ ap (λ (s : State). s.base) state;
      pages = λ page. ap (λ (s : State). s.pages page) state;
      low = c.low.ensures;
      held = c.end-held.ensures.same;
      captures =
          c.from.ensures
          ∙ c.in_ok-extend_from_slice.ensures.items
          ∙ ap (λ (l : List PageImage). c.in_ok-images.images.items ++ l)
          (c.from_place.ensures ∙ ap (drop (c.end-held.result - c.args.log.base.captures)) (c.as_slice-3.ensures ∙ caps) ∙ ap (λ (n : ℕ). drop (n - c.args.log.base.captures) (captures_of first c.args.log.changes)) c.end-held.ensures.same)
          ∙ ap (λ (l : List PageImage). l ++ drop (end_of c.args.mappings.now - c.args.log.base.captures) (captures_of first c.args.log.changes))
          (c.in_ok-images.ensures ∙ ap (λ (n : ℕ). slot_images (page_in c.args.slots.now) n c.args.mappings.now.low c.args.mappings.now.pages) c.requires.slots)
          ∙ sym (opened_captures contents);
    }
