-- A commit that is not refused is right, and its line sound.
use Rattle.std.proofs.Common.{◌≡◌, ◌+◌, ◌-◌, ◌<◌, ◌≤◌, ◌^◌, ◌&&◌, ◌||◌, ℕ, suc, Bool, true, false, cond, eqb, ltb, leb, List, [], ◌∷◌, ◌++◌, length, Option, Some, None, refl, sym, ap, subst, arith, length-append}
use Rattle.std.specs.Prelude.{is_some, option_map}
use Rattle.std.specs.Option.{option_or}
use Rattle.std.proofs.lemmas.Bool.{ltb-false, leb-false, eqb-true}
use Rattle.retro_base.specs.declared.limits.TheConstants.{MAX_CAPTURES, RETAINED_SNAPSHOTS}
use Rattle.retro_base.specs.declared.refusal.Refusal.{Refusal}
use Rattle.retro_base.specs.declared.refusal.Refusal.TheVariants.{ArchiveFull}
use Rattle.history.specs.declared.entry.Base.{Base}
use Rattle.history.specs.declared.entry.Mark.{Mark}
use Rattle.history.specs.declared.entry.Change.TheVariants.{Commit}
use Rattle.history.specs.declared.journal.Line.{Line}
use Rattle.history.specs.declared.writes.PageImage.{PageImage}
use Rattle.history.specs.History.{base_after, capturing, declared}
use Rattle.history.specs.Lines.{base_of}
use Rattle.history.specs.Marks.{newest, oldest_start}
use Rattle.history.specs.Right.{IsBase, IsWithinLimits}
use Rattle.history.specs.Sound.{KeepsRules, pins_of}
use Rattle.history.specs.Writes.{pages_of}
use Rattle.history.proofs.SoundLaws.{base_stays_right, sound_with_one_more}
use Rattle.history.specs.declared.stop.Stop.{Stop}
use Rattle.journal_book.specs.declared.work.Transaction.{Transaction}
use Rattle.txn_set.specs.declared.counts.Counts.{Counts}
use Rattle.txn_set.specs.Laws.{CommitsAreRight, CommitsStaySound, DeskGoesOn, ImagesFit}
use Rattle.txn_set.specs.Refused.{archive_refused, captures_behind, commit_refused, counts_of, first_changed, images_refused, leaves_record, overlap, snapshots_refused, start_behind, stopped, stopped_refused, where_so}

none_first : {X : Type 0} (a b : Option X) → option_or a b ≡ None → a ≡ None
none_first None b e = refl
none_first (Some x) b e = absurd cc

none_next : {X : Type 0} (a b : Option X) → option_or a b ≡ None → b ≡ None
none_next None b e = e
none_next (Some x) b e = absurd cc

not_so : (test : Bool) (why : Refusal) → where_so test why ≡ None → test ≡ false
not_so false why e = refl
not_so true why e = absurd cc

newest-push : (marks : List Mark) (mark : Mark) → newest (marks ++ mark ∷ []) ≡ mark.number
newest-push [] mark = refl
newest-push (first ∷ []) mark = refl
newest-push (first ∷ next ∷ marks) mark = newest-push (next ∷ marks) mark

pages-length : (images : List PageImage) → length (pages_of images) ≡ length images
pages-length [] = refl
pages-length (image ∷ images) = ap (λ n. suc n) (pages-length images)

or_none : (a b : Bool) → a || b ≡ false → (a ≡ false) × (b ≡ false)
or_none true b e = absurd cc
or_none false b e = (refl, e)

behind_overlap : (fault : Option Stop) (counts : Counts) (lines : List Line) (t : Transaction) (declares : Bool) → commit_refused fault counts lines t declares ≡ None
    → option_or (images_refused lines t.edits) (option_or (snapshots_refused counts declares) (archive_refused counts declares)) ≡ None
behind_overlap fault counts lines t declares none =
    none_next (option_map overlap (first_changed lines t t.reads.keys)) _ (none_next (stopped_refused fault declares t.edits) _ (none_next t.kept _ none))

marks_fit : (base : Base) (writes : List PageImage) (count : ℕ) (label : Option (List ℕ)) → IsBase base → snapshots_refused (counts_of base writes) (is_some label) ≡ None
    → (length (declared base.marks count label) ≤ RETAINED_SNAPSHOTS) × (newest (declared base.marks count label) < 2 ^ 32)
marks_fit base writes count None is e = (is.limits.retained, is.limits.newest)
marks_fit base writes count (Some label) is e =
    let parts = or_none (leb RETAINED_SNAPSHOTS (length base.marks)) (leb 4294967295 (newest base.marks)) (not_so _ _ e) in
    let few = leb-false _ _ parts.0 in
    let low = leb-false _ _ parts.1 in
    let mark : Mark = record { number = newest base.marks + 1; label = label; start = count } in
    (omega (arith, few, length-append base.marks (mark ∷ [])), omega (arith, low, newest-push base.marks mark))

-- the start of the oldest snapshot behind the commit
start_is : (marks : List Mark) (captures : ℕ) (label : Option (List ℕ)) → cond (is_some label && eqb (length marks) 0) captures (oldest_start marks) ≡ oldest_start (declared marks captures label)
start_is marks captures None = refl
start_is [] captures (Some label) = refl
start_is (mark ∷ marks) captures (Some label) = ap (λ (b : Bool). cond b captures mark.start) (go (eqb (suc (length marks)) 0) refl) where
  go : (b : Bool) → eqb (suc (length marks)) 0 ≡ b → eqb (suc (length marks)) 0 ≡ false
  go true e = absurd (omega (arith, eqb-true _ _ e))
  go false e = e

-- what is not refused keeps the limits
limits_kept : (base : Base) (fault : Option Stop) (lines : List Line) (t : Transaction) (label : Option (List ℕ)) → IsBase base → commit_refused fault (counts_of base t.edits) lines t (is_some label) ≡ None
    → IsWithinLimits base.capacity (base_after base (Commit label t.edits)).captures (base_after base (Commit label t.edits)).marks
limits_kept base fault lines t label is none =
    let counts : Counts = counts_of base t.edits in
    let last = none_next (images_refused lines t.edits) _ (behind_overlap fault counts lines t (is_some label) none) in
    let snapshots = none_first (snapshots_refused counts (is_some label)) _ last in
    let archive = none_next (snapshots_refused counts (is_some label)) (archive_refused counts (is_some label)) last in
    let needed : ℕ = captures_behind counts - start_behind counts (is_some label) in
    let room = ltb-false _ _ (not_so _ _ (none_first (where_so (ltb counts.capacity needed) (ArchiveFull needed counts.capacity)) _ archive)) in
    let total = ltb-false _ _ (not_so _ _ (none_next (where_so (ltb counts.capacity needed) (ArchiveFull needed counts.capacity)) _ archive)) in
    let same : captures_behind counts ≡ base.captures + length (pages_of (capturing base t.edits)) = ap (λ n. base.captures + n) (sym (pages-length (capturing base t.edits))) in
    let marks = marks_fit base t.edits (base.captures + length (pages_of (capturing base t.edits))) label is snapshots in
    let start : start_behind counts (is_some label) ≡ oldest_start (declared base.marks (captures_behind counts) label) = start_is base.marks (captures_behind counts) label in
    record {
      total = subst (λ n. n ≤ MAX_CAPTURES) same total;
      room = subst (λ n. n - oldest_start (declared base.marks n label) ≤ base.capacity) same (subst (λ n. captures_behind counts - n ≤ base.capacity) start room);
      retained = marks.0;
      newest = marks.1;
    }

pub commits_are_right : CommitsAreRight
commits_are_right base fault lines t label is inside none does = (inside, does, limits_kept base fault lines t label is none)

pub images_fit : ImagesFit
images_fit base fault lines t label none =
    ltb-false _ _ (not_so _ _ (none_first (images_refused lines t.edits) _ (behind_overlap fault (counts_of base t.edits) lines t (is_some label) none)))

pub desk_goes_on : DeskGoesOn
desk_goes_on base None lines t label none leaves = refl
desk_goes_on base (Some stop) lines t label none leaves = absurd (no_stop (leaves_record label t.edits) leaves (none_first (stopped_refused (Some stop) (is_some label) t.edits) _ (none_next t.kept _ none))) where
  no_stop : (b : Bool) → b ≡ true → cond b (Some (stopped stop)) None ≡ None → ⊥
  no_stop true e f = absurd cc
  no_stop false e f = absurd cc

pub commits_stay_sound : CommitsStaySound
commits_stay_sound opening fault lines line t label sound place up inside none is =
    (sound_with_one_more opening lines line).1 (
      sound,
      place,
      subst (KeepsRules (base_of opening lines) (pins_of opening [] lines)) (sym is) (record {
        rises = up;
        in_store = inside;
        limits = limits_kept (base_of opening lines) fault lines t label (base_stays_right opening lines sound) none;
      }),
    )
