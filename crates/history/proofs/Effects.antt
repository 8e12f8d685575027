-- What drops and commits leave.
use Rattle.std.proofs.Common.{◌≡◌, ◌≤◌, ◌+◌, ◌∙◌, ◌&&◌, not, ℕ, Bool, true, false, cond, ltb, leb, List, [], ◌∷◌, ◌++◌, filter, Option, Some, None, refl, sym, ap, subst, arith}
use Rattle.std.specs.Option.{option_or, option_to_list}
use Rattle.std.proofs.lemmas.Bool.{le-leb, le-ltb, leb-true, ltb-false, cond-true}
use Rattle.retro_base.specs.declared.who.Who.{Who}
use Rattle.history.specs.declared.entry.Base.{Base}
use Rattle.history.specs.declared.entry.Mark.{Mark}
use Rattle.history.specs.declared.entry.Change.TheVariants.{Drop}
use Rattle.history.specs.declared.journal.What.{What}
use Rattle.history.specs.declared.journal.What.TheVariants.{Began, Done, Overlapped, RolledBack, Looked, LookedAll, Unlooked, Dropped, Refused, Fault}
use Rattle.history.specs.declared.writes.PageImage.{PageImage}
use Rattle.history.specs.History.{written, bases_after}
use Rattle.history.specs.Journal.{change_of, pages_behind}
use Rattle.history.specs.LineLaws.{DropLeaves, CommitsAreSound, CommitsHoldImages, OthersHoldNoImages, CommitIsLastChange, UnchangedStays}
use Rattle.history.specs.Lines.{base_of, images_of, images_in, changes_page, change_by, last_change}
use Rattle.history.specs.Marks.{oldest, kept_marks, MarksRise}
use Rattle.history.specs.Sound.{same_item, KeepsRules, pins_of}
use Rattle.history.specs.Writes.{pages_of, is_among}
use Rattle.history.proofs.AsOf.{unwritten}
use Rattle.history.proofs.Items.{apart_items, or-parts}
use Rattle.history.proofs.Journals.{front_is_sound}
use Rattle.history.proofs.Lines.{base_of_one_more, images_in_one_more, last_change_in_one_more}
use Rattle.history.proofs.SoundLaws.{items_are, base_stays_right, sound_with_one_more}

-- ---- drops

-- marks above a number are all from it on
all_from : (captures n s below : ℕ) (marks : List Mark) → MarksRise captures n s marks → below ≤ n → filter (λ (mark : Mark). leb below mark.number) marks ≡ marks
all_from captures n s below [] h le = refl
all_from captures n s below (mark ∷ marks) h le =
    let rest : List Mark = filter (λ (m : Mark). leb below m.number) marks in
    cond-true (leb below mark.number) (mark ∷ rest) rest (le-leb below mark.number (omega (arith, h.0, le)))
    ∙ ap (λ (l : List Mark). mark ∷ l) (all_from captures mark.number mark.start below marks h.2 (omega (arith, h.0, le)))

kept-filter : (captures n s below : ℕ) (marks : List Mark) → MarksRise captures n s marks → kept_marks below marks ≡ filter (λ (mark : Mark). leb below mark.number) marks
kept-filter captures n s below [] h = refl
kept-filter captures n s below (mark ∷ marks) h = go (leb below mark.number) refl (kept-filter captures mark.number mark.start below marks h.2) where
  rest : List Mark
  rest = filter (λ (m : Mark). leb below m.number) marks

  go : (b : Bool) → leb below mark.number ≡ b → kept_marks below marks ≡ rest → cond b (mark ∷ marks) (kept_marks below marks) ≡ cond b (mark ∷ rest) rest
  go true is again = ap (λ (l : List Mark). mark ∷ l) (sym (all_from captures mark.number mark.start below marks h.2 (leb-true below mark.number is)))
  go false is again = again

kept-all : (below : ℕ) (marks : List Mark) → below ≤ oldest marks → kept_marks below marks ≡ marks
kept-all below [] le = refl
kept-all below (mark ∷ marks) le = cond-true (leb below mark.number) (mark ∷ marks) (kept_marks below marks) (le-leb below mark.number le)

-- the base behind a drop
dropped : Base → ℕ → Base
dropped base below = bases_after base (option_to_list (change_of base (Dropped below)))

dropped_none : (base : Base) (below : ℕ) → below ≤ oldest base.marks → dropped base below ≡ base
unfolding dropped
dropped_none base below le = ap (λ (b : Bool). bases_after base (option_to_list (cond b (Some (Drop below)) None))) (le-ltb (oldest base.marks) below le)

dropped_marks : (base : Base) (below : ℕ) → (dropped base below).marks ≡ kept_marks below base.marks
unfolding dropped
dropped_marks base below = go (ltb (oldest base.marks) below) refl where
  go : (b : Bool) → ltb (oldest base.marks) below ≡ b → (bases_after base (option_to_list (cond b (Some (Drop below)) None))).marks ≡ kept_marks below base.marks
  go true is = refl
  go false is = sym (kept-all below base.marks (ltb-false (oldest base.marks) below is))

pub drop_leaves : DropLeaves
unfolding dropped
drop_leaves base lines line below sound what =
    let before : Base = base_of base lines in
    let right = base_stays_right base lines (front_is_sound base lines (line ∷ []) sound) in
    let is : base_of base (lines ++ line ∷ []) ≡ dropped before below =
    base_of_one_more base lines line ∙ ap (λ (w : What). bases_after before (option_to_list (change_of before w))) what in (
      ap (λ (b : Base). b.marks) is ∙ dropped_marks before below ∙ kept-filter before.captures 0 0 below before.marks right.marks,
      λ le. is ∙ dropped_none before below le,
    )

-- ---- commits

pub commits_are_sound : CommitsAreSound
commits_are_sound base lines line label writes sound room follows what =
    let keeps : KeepsRules (base_of base lines) (pins_of base [] lines) (Done label writes) = record { rises = follows.rises; in_store = follows.right.0; limits = follows.right.2 } in
    (sound_with_one_more base lines line).1 (sound, room, subst (KeepsRules (base_of base lines) (pins_of base [] lines)) (sym what) keeps)

pub commits_hold_images : CommitsHoldImages
commits_hold_images lines line label writes what = images_in_one_more lines line ∙ ap (λ (w : What). images_in lines + images_of w) what

no_images : (what : What) → ((label : Option (List ℕ)) (writes : List PageImage) → what ≡ Done label writes → ⊥) → images_of what ≡ 0
no_images Began never = refl
no_images (Done label writes) never = absurd (never label writes refl)
no_images (Overlapped session item) never = refl
no_images RolledBack never = refl
no_images (Looked snapshot) never = refl
no_images LookedAll never = refl
no_images Unlooked never = refl
no_images (Dropped below) never = refl
no_images (Refused why) never = refl
no_images (Fault device count call) never = refl

pub others_hold_no_images : OthersHoldNoImages
others_hold_no_images lines line never = omega (arith, images_in_one_more lines line, no_images line.what never)

pub commit_is_last_change : CommitIsLastChange
commit_is_last_change who page lines line label writes apart what among =
    let changes : changes_page page line.what ≡ true = ap (changes_page page) what ∙ among in
    let other : same_item line.who who ≡ false = apart_items line.who who apart in
    let here : change_by who page line ≡ Some line.who =
    ap (λ (b : Bool). cond (b && not (same_item line.who who)) (Some line.who) None) changes ∙ ap (λ (b : Bool). cond (not b) (Some line.who) None) other in
    last_change_in_one_more who page lines line ∙ ap (λ (o : Option Who). option_or o (last_change who page lines)) here

-- a line that neither changes the page for another item nor is a commit of this one
page_stays : (pages : ℕ → List ℕ) (who other : Who) (page : ℕ) (what : What) → cond (changes_page page what && not (same_item other who)) (Some other) None ≡ None
    → ((label : Option (List ℕ)) (writes : List PageImage) → other ≡ who → what ≡ Done label writes → ⊥) → pages_behind pages what page ≡ pages page
page_stays pages who other page Began none own = refl
page_stays pages who other page (Done label writes) none own = go (is_among page (pages_of writes)) refl (same_item other who) refl none where
  go : (b : Bool) → is_among page (pages_of writes) ≡ b → (c : Bool) → same_item other who ≡ c → cond (b && not c) (Some other) None ≡ None → written pages writes page ≡ pages page
  go false is c same e = unwritten pages writes page is
  go true is true same e = absurd (own label writes (items_are other who same) refl)
  go true is false same e = absurd cc
page_stays pages who other page (Overlapped session item) none own = refl
page_stays pages who other page RolledBack none own = refl
page_stays pages who other page (Looked snapshot) none own = refl
page_stays pages who other page LookedAll none own = refl
page_stays pages who other page Unlooked none own = refl
page_stays pages who other page (Dropped below) none own = refl
page_stays pages who other page (Refused why) none own = refl
page_stays pages who other page (Fault device count call) none own = refl

pub unchanged_stays : UnchangedStays
unchanged_stays pages who page [] none own = refl
unchanged_stays pages who page (line ∷ more) none own =
    let both = or-parts (last_change who page more) (change_by who page line) none in
    unchanged_stays (pages_behind pages line.what) who page more both.0 own.1 ∙ page_stays pages who line.who page line.what both.1 own.0
