-- Commits that a limit refuses.
use Rattle.std.proofs.Common.{◌≡◌, ◌≤◌, ◌+◌, ◌-◌, ◌⊎◌, ◌||◌, ◌&&◌, ℕ, Bool, true, false, cond, eqb, List, [], ◌∷◌, length, Option, Some, None, refl, sym, ap, inl, inr, arith, ne_eqb}
use Rattle.std.specs.Prelude.{is_some, nat_le, nat_lt}
use Rattle.std.specs.Option.{option_or}
use Rattle.std.proofs.lemmas.Bool.{leb-true, ltb-false, ltb-true}
use Rattle.std.proofs.lemmas.List.{length-map}
use Rattle.retro_base.specs.declared.limits.TheConstants.{JOURNAL_IMAGES, MAX_CAPTURES, RETAINED_SNAPSHOTS}
use Rattle.retro_base.specs.declared.refusal.Refusal.{Refusal}
use Rattle.retro_base.specs.declared.refusal.Refusal.TheVariants as refusal
use Rattle.history.specs.declared.entry.Base.{Base}
use Rattle.history.specs.declared.entry.Change.TheVariants.{Commit}
use Rattle.history.specs.declared.entry.Mark.{Mark as MarkOf}
use Rattle.history.specs.declared.journal.Line.{Line}
use Rattle.history.specs.declared.writes.PageImage.{PageImage}
use Rattle.history.specs.History.{base_after, capturing, declared}
use Rattle.history.specs.Lines.{images_in}
use Rattle.history.specs.Marks.{newest, oldest_start}
use Rattle.journal_law.specs.Lawful.{ArchiveNeeds, IsCommitRefused}
use Rattle.txn_set.specs.Refused.{archive_refused, captures_behind, counts_of, images_refused, snapshots_refused, start_behind, where_so}
use Rattle.store.proofs.Finding.{some_is}

-- a refusal that holds where its test does
where_is : (test : Bool) (x why : Refusal) → where_so test x ≡ Some why → (test ≡ true) × (x ≡ why)
where_is true x why e = (refl, some_is x why e)
where_is false x why e = absurd (cc e)

module _ (base : Base) (lines : List Line) (label : Option (List ℕ)) (writes : List PageImage) where
  -- it is one of the three limits
  pub record IsLimit (why : Refusal) : Type 0 where
    pub images : ℕ
    pub count : ℕ
    pub what : ((why ≡ refusal.JournalFull count images) × IsCommitRefused base lines label writes (refusal.JournalFull count images)) ⊎ ((why ≡ refusal.SnapshotsFull count) × IsCommitRefused base lines label writes (refusal.SnapshotsFull count)) ⊎ ((why ≡ refusal.ArchiveFull count images) × IsCommitRefused base lines label writes (refusal.ArchiveFull count images))

  pub images_limit : (why : Refusal) → images_refused lines writes ≡ Some why → IsLimit why
  images_limit why e =
      let w = where_is (nat_lt JOURNAL_IMAGES (images_in lines + length writes)) (refusal.JournalFull (length lines) (images_in lines + length writes)) why e in
      record { images = images_in lines + length writes; count = length lines; what = inl (sym w.1, (refl, refl, ltb-true JOURNAL_IMAGES (images_in lines + length writes) w.0)) }

  pub snapshots_limit : (why : Refusal) → snapshots_refused (counts_of base writes) (is_some label) ≡ Some why → IsLimit why
  snapshots_limit why e =
      let w = where_is (is_some label && (nat_le RETAINED_SNAPSHOTS (length base.marks) || nat_le 4294967295 (newest base.marks))) (refusal.SnapshotsFull (length base.marks)) why e in
      record { images = 0; count = length base.marks; what = inr (inl (sym w.1, parts (is_some label) (nat_le RETAINED_SNAPSHOTS (length base.marks)) refl (nat_le 4294967295 (newest base.marks)) refl w.0)) } where
        parts : (declares many : Bool) → nat_le RETAINED_SNAPSHOTS (length base.marks) ≡ many → (last : Bool) → nat_le 4294967295 (newest base.marks) ≡ last → (declares && (many || last)) ≡ true
            → (declares ≡ true) × (length base.marks ≡ length base.marks) × ((RETAINED_SNAPSHOTS ≤ length base.marks) ⊎ (4294967295 ≤ newest base.marks))
        parts true true m last l f = (refl, refl, inl (leb-true RETAINED_SNAPSHOTS (length base.marks) m))
        parts true false m true l f = (refl, refl, inr (leb-true 4294967295 (newest base.marks) l))
        parts true false m false l f = absurd (cc f)
        parts false many m last l f = absurd (cc f)

  abbrev After : Base
  After = base_after base (Commit label writes)

  ever_is : captures_behind (counts_of base writes) ≡ After.captures
  ever_is = ap (λ (n : ℕ). base.captures + n) (sym (length-map (capturing base writes) (λ (w : PageImage). w.page)))

  start_is : start_behind (counts_of base writes) (is_some label) ≡ oldest_start After.marks
  start_is = at label base.marks where
    at : (l : Option (List ℕ)) (ms : List MarkOf) → cond (is_some l && eqb (length ms) 0) (captures_behind (counts_of base writes)) (oldest_start ms) ≡ oldest_start (declared ms After.captures l)
    at None ms = refl
    at (Some text) [] = ever_is
    at (Some text) (m ∷ ms) = ap (λ (b : Bool). cond b (captures_behind (counts_of base writes)) m.start) (ne_eqb (length (m ∷ ms)) 0 (λ e. absurd (omega (arith, e))))

  abbrev Kept : ℕ
  Kept = captures_behind (counts_of base writes) - start_behind (counts_of base writes) (is_some label)

  needs : ArchiveNeeds base label writes Kept (captures_behind (counts_of base writes))
  needs = record { ever_is = ever_is; kept_is = ap (λ (n : ℕ). captures_behind (counts_of base writes) - n) start_is }

  pub archive_limit : (why : Refusal) → archive_refused (counts_of base writes) (is_some label) ≡ Some why → IsLimit why
  archive_limit why e = at (nat_lt base.capacity Kept) refl e where
    at : (test : Bool) → nat_lt base.capacity Kept ≡ test → option_or (where_so test (refusal.ArchiveFull Kept base.capacity)) (where_so (nat_lt MAX_CAPTURES (captures_behind (counts_of base writes))) (refusal.ArchiveFull (captures_behind (counts_of base writes)) MAX_CAPTURES)) ≡ Some why → IsLimit why
    at true t f = record {
      images = base.capacity;
      count = Kept;
      what = inr (inr (sym (some_is _ why f), (Kept, captures_behind (counts_of base writes), needs, inl (refl, refl, ltb-true base.capacity Kept t))));
    }
    at false t f =
        let w = where_is (nat_lt MAX_CAPTURES (captures_behind (counts_of base writes))) (refusal.ArchiveFull (captures_behind (counts_of base writes)) MAX_CAPTURES) why f in
        record {
          images = MAX_CAPTURES;
          count = captures_behind (counts_of base writes);
          what = inr (inr (sym w.1, (Kept, captures_behind (counts_of base writes), needs, inr (ltb-false base.capacity Kept t, refl, refl, ltb-true MAX_CAPTURES (captures_behind (counts_of base writes)) w.0))));
        }
