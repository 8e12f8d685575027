use Rattle.std.proofs.Common.{◌∙◌, ◌+◌, ◌++◌, ℕ, List, [], length, refl, sym, ap, subst, arith}
use Rattle.std.proofs.lemmas.Bool.{both_ways}
use Rattle.block_file.specs.Blocks.{block_at}
use Rattle.copy_queue.specs.Pending.{Pending}
use Rattle.history.specs.declared.entry.Base.{Base}
use Rattle.history.specs.declared.entry.Change.{Change}
use Rattle.history.specs.declared.writes.PageImage.{PageImage}
use Rattle.history.specs.Right.{AreRight}
use Rattle.replay.specs.Joined.{HoldsChanges}
use Rattle.skippy.specs.Mappings.{end_of}
use Rattle.history.specs.History.{State as Place}
use Rattle.desk.proofs.Again.{redone_none}
use Rattle.desk.proofs.Joined.{are_joined, captured_count, memory_of, not_joined, pending_room, readable_right, redone_as}
use Rattle.desk.proofs.fetch.joined.Goals as goal

pub redo_all-requires-clause-right : goal.redo_all-requires-clause-right
redo_all-requires-clause-right g c =
    subst (λ (l : List Change). AreRight c.in_ok-redone.redone.base l) (sym c.as_slice.ensures) (subst (λ (b : Base). AreRight b c.args.list.changes) (sym c.in_ok-redone.ensures.0) (readable_right c.args.list c.requires.read))

pub holds_changes-requires-clause-captured : goal.holds_changes-requires-clause-captured
holds_changes-requires-clause-captured g c =
    let honest = g.D.Disk.is_honest in
    let state = g.D.Disk.state in
    let origin : Place = record { base = c.args.list.base; pages = block_at c.requires.side.bytes } in
    let is = redone_as honest state c.redo_all.new.redone c.redo_all.new.pool origin _ _ _ _ c.end.ensures.same c.as_slice.ensures
    (c.in_ok-redo_all.ensures.redone origin (redone_none honest state c.in_ok-redone.redone c.args.pool.now origin c.end.result c.in_ok-redone.ensures.0 c.in_ok-redone.ensures.1 c.in_ok-redone.ensures.2 c.requires.side.side)) in
    captured_count honest state c.args.list c.requires.side.bytes c.args.mappings.now (λ slot. []) c.redo_all.new.redone c.redo_all.new.pool is
    ∙ ap (λ (l : List ℕ). c.args.list.base.captures + length l) (sym c.deref.ensures.value)

pub returns-then-not-holds_changes-clause-cause : goal.returns-then-not-holds_changes-clause-cause
returns-then-not-holds_changes-clause-cause g c = λ extent bytes side.
    let honest = g.D.Disk.is_honest in
    let state = g.D.Disk.state in
    let origin : Place = record { base = c.args.list.base; pages = block_at bytes } in
    let is = redone_as honest state c.redo_all.new.redone c.redo_all.new.pool origin _ _ _ _ c.end.ensures.same c.as_slice.ensures
    (c.in_ok-redo_all.ensures.redone origin (redone_none honest state c.in_ok-redone.redone c.args.pool.now origin c.end.result c.in_ok-redone.ensures.0 c.in_ok-redone.ensures.1 c.in_ok-redone.ensures.2 side)) in (
      refl,
      λ slots joined. not_joined honest state c.args.list bytes c.args.mappings.now slots c.redo_all.new.redone c.redo_all.new.pool is
          (λ holds. both_ways c.holds_changes.result c.if-not-holds_changes.true
          (c.holds_changes.ensures.1 (subst (λ (l : List ℕ). HoldsChanges c.args.list.base.captures c.redo_all.new.redone.base l c.args.mappings.now) (sym c.deref.ensures.value) holds))) joined,
      c.in_ok-redo_all.ensures.cause,
    )

pub add-requires : goal.add-requires
add-requires g c =
    let honest = g.D.Disk.is_honest in
    let state = g.D.Disk.state in
    let bytes = c.requires.side.bytes in
    let origin : Place = record { base = c.args.list.base; pages = block_at bytes } in
    let is = redone_as honest state c.redo_all.new.redone c.redo_all.new.pool origin _ _ _ _ c.end.ensures.same c.as_slice.ensures
    (c.in_ok-redo_all.ensures.redone origin (redone_none honest state c.in_ok-redone.redone c.args.pool.now origin c.end.result c.in_ok-redone.ensures.0 c.in_ok-redone.ensures.1 c.in_ok-redone.ensures.2 c.requires.side.side)) in
    let holds = subst (λ (l : List ℕ). HoldsChanges c.args.list.base.captures c.redo_all.new.redone.base l c.args.mappings.now) c.deref.ensures.value (c.holds_changes.ensures.0 c.if-not-holds_changes.false) in
    let joined = are_joined honest state c.args.list bytes c.args.mappings.now (λ slot. []) c.redo_all.new.redone c.redo_all.new.pool is (c.in_ok-holds_base.ensures.0 c.if-not-branch.false) holds in
    let room = pending_room honest state c.args.list bytes c.args.mappings.now (λ slot. []) c.redo_all.new.redone c.redo_all.new.pool is c.requires.read joined in
    omega (arith, room, ap (λ (q : Pending). q.first) c.new-queue.ensures, ap (λ (q : Pending). length q.images) c.new-queue.ensures, c.end-2.ensures.same, ap (λ (l : List PageImage). length l) c.deref-2.ensures.value)

pub returns-clause-memory : goal.returns-clause-memory
returns-clause-memory g c = λ bytes slots side.
    let honest = g.D.Disk.is_honest in
    let state = g.D.Disk.state in
    let origin : Place = record { base = c.args.list.base; pages = block_at bytes } in
    let is = redone_as honest state c.redo_all.new.redone c.redo_all.new.pool origin _ _ _ _ c.end.ensures.same c.as_slice.ensures
    (c.in_ok-redo_all.ensures.redone origin (redone_none honest state c.in_ok-redone.redone c.args.pool.now origin c.end.result c.in_ok-redone.ensures.0 c.in_ok-redone.ensures.1 c.in_ok-redone.ensures.2 side)) in
    let holds = subst (λ (l : List ℕ). HoldsChanges c.args.list.base.captures c.redo_all.new.redone.base l c.args.mappings.now) c.deref.ensures.value (c.holds_changes.ensures.0 c.if-not-holds_changes.false) in
    memory_of honest state c.args.list bytes c.args.mappings.now slots c.redo_all.new.redone c.redo_all.new.pool is c.add.new.self
    (are_joined honest state c.args.list bytes c.args.mappings.now slots c.redo_all.new.redone c.redo_all.new.pool is (c.in_ok-holds_base.ensures.0 c.if-not-branch.false) holds)
    (c.redo_all.ensures.same.blocks ∙ c.requires.whole) c.in_ok-redo_all.ensures.free
    (c.in_ok-add.ensures.done
    ∙ ap (λ (q : Pending). let r : Pending = record { first = q.first; images = q.images ++ c.deref-2.result.now } in r) c.new-queue.ensures
    ∙ ap (λ (n : ℕ). let r : Pending = record { first = n; images = c.deref-2.result.now } in r) c.end-2.ensures.same
    ∙ ap (λ (l : List PageImage). let r : Pending = record { first = end_of c.args.mappings.now; images = l } in r) c.deref-2.ensures.value)
