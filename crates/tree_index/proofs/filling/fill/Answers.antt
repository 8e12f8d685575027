use Rattle.std.proofs.Common.{◌≡◌, ◌≤◌, ◌∷◌, ◌∙◌, [], ℕ, ap, get_or, inl, inr, refl, arith, subst, sym}
use Rattle.std.proofs.lemmas.Bool.Decides.{eqb_tells}
use Rattle.std.specs.Option.{option_copied}
use Rattle.std.proofs.lemmas.List.{get_or_default}
use Rattle.pager.specs.Index.{IsFound}
use Rattle.pager.specs.declared.index.Found.{Found}
use Rattle.index_page.proofs.Packing.{entry-short, width-cons, width-least}
use Rattle.index_page.specs.IndexPage.{width}
use Rattle.index_page.specs.Entries.{entry_inserted}
use Rattle.tree_index.proofs.Climbed.{head-rest}
use Rattle.tree_index.proofs.Following.{all-next, filled-next, follows-belongs, follows-itself, room-for}
use Rattle.tree_index.specs.Filling.{BelongsWith, Follows}
use Rattle.tree_index.proofs.filling.fill.Goals as goal

pub width-used-requires : goal.width-used-requires
width-used-requires c = rw c.as_slice.ensures (omega (arith, width-least c.args.held, c.requires.held.fits))

pub overflow_add-used : goal.overflow_add-used
overflow_add-used c =
    let e = c.entry-item.result in
    let found : IsFound e = (rw c.from_ref.ensures.value at c.width.ensures.lawful).0 in
    let wide : c.width.result ≡ width (e ∷ []) = rw c.from_ref.ensures.value at c.width.ensures.width in
    omega (arith, wide, width-cons e [], entry-short e found, c.entries.invariant.fits)

pub returns-then-not-follows : goal.returns-then-not-follows
returns-then-not-follows c =
    let inv = c.entries.invariant in
    let head = head-rest c.args.entries.now c.index-entries-0.result c.requires.some c.index-entries-0.is in
    let first = c.index-entries-0.result in
    let itself = follows-itself first c.args.way.now (option_copied c.bound_of-bound.result) c.bound_of-bound.ensures in
    let begins : (n : ℕ) → c.entries.count ≡ n → 1 ≤ n = λ n e. elim (eqb_tells n 0) [
      | inr some ↦ omega (arith, some.1)
      | inl none ↦
          let at : c.entries.entry-index ≡ 0 = omega (arith, inv.counted, e, none.1) in
          let same : c.entry-item.result ≡ first = c.entry-item.is ∙ ap (λ (i : ℕ). get_or c.args.entries.now i c.entry-item.result) at ∙ get_or_default c.args.entries.now 0 c.entry-item.result first c.requires.some ∙ sym c.index-entries-0.is in
          absurd (c.if-not-follows.ensures (subst (λ (x : Found). Follows first (option_copied c.bound_of-bound.result) x) (sym same) itself))
    ] in
    record {
      first = c.index-entries-0.result;
      rest = head.0;
      begin = head.1;
      some = begins c.entries.count refl;
      among = omega (arith, inv.counted, c.entries-test.true);
      all = inl refl;
      belong = rw inv.counted inv.belong;
      fills = rw inv.counted inv.fills;
    }

pub entries-preserved : goal.entries-preserved
entries-preserved c =
    let inv = c.entries.invariant in
    let e = c.entry-item.result in
    let found : IsFound e = (rw c.from_ref.ensures.value at c.width.ensures.lawful).0 in
    let wide : c.width.result ≡ width (e ∷ []) = rw c.from_ref.ensures.value at c.width.ensures.width in
    let room = room-for e c.entries.held c.entries.used inv.writable found inv.taken (omega (arith, wide, c.if-used-gt-ENTRY_BYTES.false)) in
    let held : c.in_ok-held.held ≡ entry_inserted e c.entries.held = c.in_ok-held.ensures ∙ ap (λ (x : Found). entry_inserted x c.entries.held) c.in_ok-copy_of.ensures in
    record {
      counted = omega (arith, inv.counted);
      belong = all-next (BelongsWith c.index-entries-0.result c.args.way.now) c.args.entries.now c.entries.entry-index e c.entries-test.true c.entry-item.is inv.belong
          (follows-belongs c.index-entries-0.result e c.args.way.now (option_copied c.bound_of-bound.result) c.bound_of-bound.ensures c.if-not-follows.ensures);
      fills = rw held (filled-next c.args.held c.args.entries.now c.entries.entry-index e c.entries.held c.entries-test.true c.entry-item.is inv.fills room.0);
      writable = rw held room.0;
      taken = rw held (omega (arith, room.1, wide));
      fits = omega (arith, c.if-used-gt-ENTRY_BYTES.false);
    }
