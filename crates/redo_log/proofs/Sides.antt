-- The log's device behind a call.
use Rattle.std.proofs.Common.{◌≡◌, ◌≤◌, ◌∙◌, ap, ℕ, List, Bool, true, false, inl, refl, subst}
use Rattle.std.specs.Prelude.{Option, Some, None, Result, Ok, Err, IfErr, OnOk}
use Rattle.std.proofs.lemmas.Bool.{both_ways}
use Rattle.disk_model.specs.Disk.{State, IsImage}
use Rattle.disk_model.specs.Moments.{Clock, LeavesOnly}
use Rattle.retro_base.specs.declared.refusal.Refusal.{Refusal}
use Rattle.area_log.specs.Area.{AfterWrite, Area}
use Rattle.history.specs.declared.log.Log.{Log}
use Rattle.redo_log.specs.Redo.{IsRedo, Keeps, ListsOneOf, WritesLog}
use Rattle.redo_log.specs.Side.{IsLogSide, LogSide}
use Rattle.redo_log.proofs.Logs.{keeps_lists}

module _ {D : Type 0} (honest : D → Type 0) (state : D → State) where
  -- a device whose log goes on
  pub side_of : (side : LogSide D) (sure : Log) (other : Option Log) → IsRedo side.log → side.log.area.fault ≡ None → (honest side.disk → Keeps side.log sure (state side.disk)) → IsLogSide honest state side sure other false
  side_of side sure other known going keeps = record {
    going = λ _. going;
    keeps = λ told _. keeps told;
    images = λ told image is. record { log = sure; may = inl refl; lists = keeps_lists side.log sure (state side.disk) known (keeps told) image is };
  }

  -- once writes stop the device need only list one of its logs
  pub side_stops : (side : LogSide D) (sure : Log) (other : Option Log) (stopped : Bool) → IsLogSide honest state side sure other stopped → IsLogSide honest state side sure other true
  side_stops side sure other stopped is = record {
    going = λ on. absurd (both_ways true on refl);
    keeps = λ told on. absurd (both_ways true on refl);
    images = is.images;
  }

  -- so it is behind a call that leaves one of two
  pub side_failed : (remembers : Type 0) (clock : D → Clock) (old new : D) (side : LogSide D) (sure : Log) (other : Option Log) → side.disk ≡ new → (honest new → honest old) → ((t : ℕ) (image : List ℕ) → honest new → t ≤ (clock new).moment → IsImage (state new) image → (clock new).left_since t image)
      → (honest old → LeavesOnly remembers (clock old) (clock new) (ListsOneOf sure other)) → IsLogSide honest state side sure other true
  side_failed remembers clock old new side sure other is back counts leaves = record {
    going = λ on. absurd (both_ways true on refl);
    keeps = λ told on. absurd (both_ways true on refl);
    images = λ told image at.
        let told_new = subst (λ (d : D). honest d) is told in
        let at_new = subst (λ (d : D). IsImage (state d) image) is at in
        let run = leaves (back told_new) in
        run.each image (counts (clock old).moment image told_new run.later at_new);
  }

err_also : {T E : Type 0} (P : Type 0) (Q : E → Type 0) (r : Result T E) → P → IfErr r (λ e. Q e → P)
err_also P Q (Ok x) h = tt
err_also P Q (Err e) h = λ q. h

module _ {D : Type 0} (honest : D → Type 0) (state : D → State) (remembers : Type 0) (clock : D → Clock) (old new : LogSide D) (result : Result (Unit {0}) Refusal) (sure grown : Log) (before : Option Log) (is : IsLogSide honest state old sure before false)
    (writes : honest old.disk → Keeps old.log sure (state old.disk) → WritesLog new.log sure grown remembers state clock old.disk new.disk result) where
  pub call_leaves : honest old.disk → LeavesOnly remembers (clock old.disk) (clock new.disk) (ListsOneOf sure (Some grown))
  call_leaves told = (writes told (is.keeps told refl)).any_moment

  pub call_failed : (Q : Refusal → Type 0) → (honest new.disk → honest old.disk) → ((t : ℕ) (image : List ℕ) → honest new.disk → t ≤ (clock new.disk).moment → IsImage (state new.disk) image → (clock new.disk).left_since t image)
      → IfErr result (λ e. Q e → IsLogSide honest state new sure (Some grown) true)
  call_failed Q back counts = err_also _ Q result (side_failed honest state remembers clock old.disk new.disk new sure (Some grown) refl back counts call_leaves)

  pub call_done : (done : Area) (after : Option Log) → (honest new.disk → honest old.disk) → AfterWrite old.log.area done result new.log.area → done.fault ≡ old.log.area.fault → IsRedo old.log → OnOk result (IsLogSide honest state new grown after false)
  call_done done after back write fault known = go result write (λ told. (writes (back told) (is.keeps (back told) refl)).keeps) where
    redo : IsRedo new.log
    redo = record { device = write.device ∙ known.device; size = write.size ∙ known.size }

    go : (r : Result (Unit {0}) Refusal) → AfterWrite old.log.area done r new.log.area → (honest new.disk → OnOk r (Keeps new.log grown (state new.disk))) → OnOk r (IsLogSide honest state new grown after false)
    go (Ok x) behind keeps = side_of honest state new grown after redo (ap (λ (a : Area). a.fault) behind.is ∙ fault ∙ is.going refl) keeps
    go (Err e) behind keeps = tt
