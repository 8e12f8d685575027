-- A frame that is added, unless memory ran out; and pages that are written one after the other.
use Rattle.std.proofs.Common.{◌≡◌, ◌⊎◌, inl, inr, ◌∙◌, ◌<◌, ◌||◌, ◌++◌, ℕ, List, [], ◌∷◌, Bool, true, false, cond, eqb, Some, None, refl, sym, ap, subst, Contains}
use Rattle.std.specs.Prelude.{IfSome, Result, Ok, Err, OnOk, OnErr}
use Rattle.std.specs.BTreeMap.{BTreeMap}
use Rattle.std.proofs.lemmas.Bool.{both_ways, cases_eq, eq-eqb, ne_eqb}
use Rattle.std.proofs.lemmas.List.{map-append}
use Rattle.std.proofs.Math.Path.{fun_ext}
use Rattle.disk_model.specs.Disk.{State}
use Rattle.lru.specs.LruCache.{LruCache}
use Rattle.retro_base.specs.declared.refusal.Refusal.{Refusal}
use Rattle.history.specs.declared.writes.PageImage.{PageImage}
use Rattle.history.specs.History.{with_write, written}
use Rattle.history.specs.Writes.{is_among, pages_of}
use Rattle.history.proofs.Captures.{among-append}
use Rattle.page_pool.specs.declared.frames.Frame.{Frame}
use Rattle.page_pool.specs.Frames.{frame_at, frame_in, is_dirty_in, SetsFrame}
use Rattle.page_pool.specs.Side.{dirty_behind, IsPageSide, IsPool, Pool, with_page}
use Rattle.page_pool.proofs.Apart.{pool_add, shows_set}
use Rattle.page_pool.proofs.Counts.{marks_same, sets_same}

-- the frame was added, or the frames are as before
pub record Tried (r : Result (Unit {0}) Refusal) (old new : BTreeMap ℕ Frame) (page : ℕ) (frame : Frame) : Type 0 where
  pub done : OnOk r (SetsFrame (frame_in old) (frame_in new) page (Some frame))
  pub refused : OnErr r (new.entries ≡ old.entries)
  pub none : frame_in old page ≡ None
  pub clean : frame.is_dirty ≡ false

module _ (old new : BTreeMap ℕ Frame) (page : ℕ) (frame : Frame) (clean : LruCache ℕ (List ℕ)) (pages count : ℕ) (pool : IsPool (frame_in old) clean pages count) where
  same_marks : SetsFrame (frame_in old) (frame_in new) page (Some frame) → frame_in old page ≡ None → frame.is_dirty ≡ false → (other : ℕ) → is_dirty_in (frame_in new other) ≡ is_dirty_in (frame_in old other)
  same_marks sets none unchanged = marks_same (frame_in old) (frame_in new) page (Some frame) sets pages count pool.frames (unchanged ∙ ap is_dirty_in (sym none))

  pub pool_tried : (r : Result (Unit {0}) Refusal) → Tried r old new page frame → page < pages → ((bytes : List ℕ) → Contains clean.entries (page, bytes) → ⊥) → IsPool (frame_in new) clean pages count
  pool_tried (Ok x) tried lt gone =
      let are = sets_same (frame_in old) (frame_in new) page (Some frame) tried.done pages count pool.frames (λ some. lt) (tried.clean ∙ ap is_dirty_in (sym tried.none)) in
      pool_add (frame_in old) (frame_in new) page clean pages count count pool are frame tried.done gone
  pool_tried (Err e) tried lt gone = subst (λ (l : List (ℕ × Frame)). IsPool (frame_at l) clean pages count) (sym tried.refused) pool

  pub side_tried : {D : Type 0} (honest : D → Type 0) (state : D → State) (before : Pool D) (now device : ℕ → List ℕ) (loose dirty : ℕ → Bool) (r : Result (Unit {0}) Refusal) → Tried r old new page frame
      → before.frames ≡ old.entries → (honest before.file.disk → frame.bytes ≡ now page) → IsPageSide honest state before now device loose dirty → IsPageSide honest state (record before { frames = new.entries }) now device loose dirty
  side_tried honest state before now device loose dirty (Err e) tried at bytes side = subst (λ (l : List (ℕ × Frame)). IsPageSide honest state (record before { frames = l }) now device loose dirty) (at ∙ sym tried.refused) side
  side_tried honest state before now device loose dirty (Ok x) tried at bytes side = record {
    marks = λ other. same_marks tried.done tried.none tried.clean other ∙ ap (λ (l : List (ℕ × Frame)). is_dirty_in (frame_at l other)) (sym at) ∙ side.marks other;
    settled = side.settled;
    unsettled = side.unsettled;
    shows = λ told. record {
      frames = shows_set (frame_in old) (frame_in new) page (Some frame) now now tried.done (λ other apart. refl) (subst (λ (l : List (ℕ × Frame)). (other : ℕ) → IfSome (frame_at l other) (λ f. f.bytes ≡ now other)) at (side.shows told).frames) (bytes told);
      clean = (side.shows told).clean;
    };
    reads = side.reads;
    same = side.same;
  }

-- one write more
pub written_push : (pages : ℕ → List ℕ) (writes : List PageImage) (write : PageImage) → written pages (writes ++ write ∷ []) ≡ with_write (written pages writes) write
written_push pages [] write = refl
written_push pages (first ∷ writes) write = written_push (with_write pages first) writes write

dirty_at : (dirty : ℕ → Bool) (writes : List PageImage) (write : PageImage) (page : ℕ) → with_page (dirty_behind dirty writes) write.page true page ≡ dirty_behind dirty (writes ++ write ∷ []) page
dirty_at dirty writes write page =
    go (cases_eq page write.page) ∙ ap (λ b. dirty page || b) (sym (ap (is_among page) (map-append (λ (i : PageImage). i.page) writes (write ∷ [])) ∙ among-append page (pages_of writes) (write.page ∷ []))) where
      last : (a b c d : Bool) → b ≡ c → (a || (d || (c || false))) ≡ cond b true (a || d)
      last true true c d e = refl
      last true false c d e = refl
      last false true true d e = d_true d where
        d_true : (d : Bool) → (d || (true || false)) ≡ true
        d_true true = refl
        d_true false = refl
      last false true false d e = absurd (both_ways false refl (sym e))
      last false false true d e = absurd (both_ways true (sym e) refl)
      last false false false true e = refl
      last false false false false e = refl

      flip : (page ≡ write.page) ⊎ (page ≡ write.page → ⊥) → eqb page write.page ≡ eqb write.page page
      flip (inl is) = eq-eqb page write.page is ∙ sym (eq-eqb write.page page (sym is))
      flip (inr apart) = ne_eqb page write.page apart ∙ sym (ne_eqb write.page page (λ is. apart (sym is)))

      go : (page ≡ write.page) ⊎ (page ≡ write.page → ⊥) → with_page (dirty_behind dirty writes) write.page true page ≡ (dirty page || (is_among page (pages_of writes) || is_among page (write.page ∷ [])))
      go cases = sym (last (dirty page) (eqb page write.page) (eqb write.page page) (is_among page (pages_of writes)) (flip cases))

pub dirty_push : (dirty : ℕ → Bool) (writes : List PageImage) (write : PageImage) → with_page (dirty_behind dirty writes) write.page true ≡ dirty_behind dirty (writes ++ write ∷ [])
dirty_push dirty writes write = fun_ext (dirty_at dirty writes write)
