-- What is decoded has these bytes, and what has these bytes is decoded.
use Rattle.std.proofs.Common.{◌≡◌, ◌<◌, ◌≤◌, ◌+◌, ◌-◌, ◌^◌, ◌++◌, ◌∙◌, ℕ, zero, suc, Bool, true, false, cond, ◌&&◌, ltb, leb, eqb, List, [], ◌∷◌, length, take, drop, Option, Some, None, Result, Ok, Err, refl, sym, ap, subst, arith, append_assoc}
use Rattle.std.specs.Prelude.{IfOk}
use Rattle.std.specs.List.{flat_map, AllByRecursion}
use Rattle.std.proofs.lemmas.Bool.{ltb-false, le-ltb, leb-true, le-leb, eqb-true, eq-eqb, and_parts, and_from}
use Rattle.std.proofs.lemmas.List.{append-nil, drop_at, take-append-drop, drop-drop, length-drop, length-append, nil_from_length}
use Rattle.retro_base.specs.declared.limits.TheConstants.{EDITED_PAGES}
use Rattle.retro_base.specs.Fields.{number_at, field_bytes}
use Rattle.history.specs.declared.entry.Base.{Base}
use Rattle.history.specs.declared.entry.Mark.{Mark}
use Rattle.history.specs.declared.entry.Change.{Change}
use Rattle.history.specs.declared.entry.Change.TheVariants.{Commit, Drop}
use Rattle.records.specs.declared.entry.Entry.{Entry}
use Rattle.records.specs.declared.entry.Entry.TheVariants as entries
use Rattle.history.specs.declared.log.Version.{Version}
use Rattle.history.specs.declared.log.Version.TheVariants as version
use Rattle.records.specs.declared.decoding.DecodeError.{DecodeError}
use Rattle.history.specs.declared.writes.PageImage.{PageImage}
use Rattle.history.specs.Marks.{oldest, newest}
use Rattle.records.specs.Entries.{IsNumberedFrom}
use Rattle.history.specs.Writes.{pages_of, rises}
use Rattle.records.specs.Entries.{page_width, declaration_bytes, mark_bytes, write_bytes, base_bytes, change_bytes, entry_bytes, MarkFits, BaseFits, WriteFits, ChangeFits, EntryFits}
use Rattle.history.specs.Log.{version_number}
use Rattle.records.specs.Laws.{OneEntry}
use Rattle.records.specs.Reading.{◌>>=◌, Decodes, where_true, take_number, take_declaration, take_mark, take_page, take_image, take_list, take_marks, base_from, take_base, take_commit, take_drop, take_entry, whole_entry, after_mark, after_page, after_image}
use Rattle.retro_base.proofs.FieldLaws.{length-field_bytes}
use Rattle.records.proofs.Bytes.{IsBytes, IsBytes-drop, field_of-number, number-drop, number-lt, number-again}
use Rattle.records.proofs.Fields.{bind_some, where_some, some_is, Takes, Takes-then, number_takes, number_taken, declaration_takes, declaration_taken, mark_takes, mark_taken, page_takes, page_taken, image_takes, image_taken}
use Rattle.records.proofs.Lists.{AllInTurn, list_takes, list_taken}

-- ---- marks

abbrev MarkInTurn : ℕ → Mark → Type 0
MarkInTurn number mark = (mark.number ≡ number) × MarkFits mark

marks_are : (number : ℕ) (marks : List Mark) → AllInTurn MarkInTurn after_mark number marks → IsNumberedFrom number marks × AllByRecursion MarkFits marks
marks_are number [] all = (tt, tt)
marks_are number (mark ∷ marks) all =
    let rest = marks_are (mark.number + 1) marks all.1 in
    ((all.0.0, subst (λ n. IsNumberedFrom (n + 1) marks) all.0.0 rest.0), (all.0.1, rest.1))

marks_in_turn : (number : ℕ) (marks : List Mark) → IsNumberedFrom number marks → AllByRecursion MarkFits marks → AllInTurn MarkInTurn after_mark number marks
marks_in_turn number [] numbered all = tt
marks_in_turn number (mark ∷ marks) numbered all =
    ((numbered.0, all.0), marks_in_turn (mark.number + 1) marks (subst (λ n. IsNumberedFrom (n + 1) marks) (sym numbered.0) numbered.1) all.1)

pub newest-numbered : (number : ℕ) (mark : Mark) (marks : List Mark) → IsNumberedFrom number (mark ∷ marks) → newest (mark ∷ marks) ≡ number + length marks
newest-numbered number mark [] numbered = omega (arith, numbered.0)
newest-numbered number mark (next ∷ marks) numbered = omega (arith, newest-numbered (number + 1) next marks numbered.1)

record AreMarksOf (bytes : List ℕ) (old new : ℕ) (x : List Mark × List ℕ) : Type 0 where
  taken : Takes bytes (flat_map mark_bytes x.0) x.1
  fit : AllByRecursion MarkFits x.0
  numbered : IsNumberedFrom (oldest x.0) x.0
  oldest_is : oldest x.0 ≡ old
  newest_is : newest x.0 ≡ new

many_marks : (old new : ℕ) (bytes : List ℕ) (x : List Mark × List ℕ) → old ≤ new → Takes bytes (flat_map mark_bytes x.0) x.1 → length x.0 ≡ new + 1 - old → IsNumberedFrom old x.0 × AllByRecursion MarkFits x.0 → AreMarksOf bytes old new x
many_marks old new bytes ([], rest) le taken len all = absurd (omega (arith, le, len))
many_marks old new bytes (mark ∷ marks, rest) le taken len all = record {
  taken = taken;
  fit = all.1;
  numbered = subst (λ n. IsNumberedFrom n (mark ∷ marks)) (sym all.0.0) all.0;
  oldest_is = all.0.0;
  newest_is = omega (arith, newest-numbered old mark marks all.0, len, le);
}

marks_take : (old new : ℕ) (bytes : List ℕ) (x : List Mark × List ℕ) → IsBytes bytes → take_marks old new bytes ≡ Some x → AreMarksOf bytes old new x
unfolding take_marks
marks_take old new bytes x fits e = go (ltb new old) refl e where
  go : (b : Bool) → ltb new old ≡ b → cond b (where_true (eqb old 1 && eqb new 0) ([], bytes)) (take_list take_mark after_mark (new + 1 - old) old bytes) ≡ Some x → AreMarksOf bytes old new x
  go true lt h =
      let none : List Mark × List ℕ = ([], bytes) in
      let g = where_some (eqb old 1 && eqb new 0) none x h in
      let both = and_parts (eqb old 1) (eqb new 0) g.0 in
      subst (AreMarksOf bytes old new) g.1 (record { taken = record { parts = refl; rest_fits = fits }; fit = tt; numbered = tt; oldest_is = sym (eqb-true old 1 both.0); newest_is = sym (eqb-true new 0 both.1) })
  go false le h =
      let t = list_takes take_mark mark_bytes MarkInTurn after_mark mark_takes (new + 1 - old) old bytes x fits h in
      many_marks old new bytes x (ltb-false new old le) t.0 t.1 (marks_are old x.0 t.2)

marks_taken : (marks : List Mark) (rest : List ℕ) → IsNumberedFrom (oldest marks) marks → AllByRecursion MarkFits marks → take_marks (oldest marks) (newest marks) (flat_map mark_bytes marks ++ rest) ≡ Some (marks, rest)
unfolding take_marks
marks_taken [] rest numbered all = refl
marks_taken (mark ∷ marks) rest numbered all =
    let n : newest (mark ∷ marks) ≡ mark.number + length marks = newest-numbered mark.number mark marks numbered in
    let up : ltb (newest (mark ∷ marks)) mark.number ≡ false = le-ltb _ _ (omega (arith, n)) in
    let count : newest (mark ∷ marks) + 1 - mark.number ≡ suc (length marks) = omega (arith, n) in
    rw (up, count) (list_taken take_mark mark_bytes MarkInTurn after_mark (λ number m r p. ap (λ t. take_mark t (mark_bytes m ++ r)) (sym p.0) ∙ mark_taken m r p.1) mark.number (mark ∷ marks) rest (marks_in_turn mark.number (mark ∷ marks) numbered all))

-- ---- pages and images that rise

module _ (version : Version) where
  abbrev PageInTurn : ℕ → ℕ → Type 0
  PageInTurn least page = (least ≤ page) × (page < 256 ^ page_width version)

  abbrev ImageInTurn : ℕ → PageImage → Type 0
  ImageInTurn least image = (least ≤ image.page) × WriteFits version image

  pages_are : (least : ℕ) (pages : List ℕ) → AllInTurn PageInTurn after_page least pages → (rises least pages ≡ true) × AllByRecursion (λ page. page < 256 ^ page_width version) pages
  pages_are least [] all = (refl, tt)
  pages_are least (page ∷ pages) all =
      let rest = pages_are (page + 1) pages all.1 in
      (and_from _ _ (le-leb least page all.0.0) rest.0, (all.0.1, rest.1))

  pages_in_turn : (least : ℕ) (pages : List ℕ) → rises least pages ≡ true → AllByRecursion (λ page. page < 256 ^ page_width version) pages → AllInTurn PageInTurn after_page least pages
  pages_in_turn least [] up all = tt
  pages_in_turn least (page ∷ pages) up all =
      let both = and_parts (leb least page) (rises (page + 1) pages) up in
      ((leb-true least page both.0, all.0), pages_in_turn (page + 1) pages both.1 all.1)

  images_are : (least : ℕ) (images : List PageImage) → AllInTurn ImageInTurn after_image least images → (rises least (pages_of images) ≡ true) × AllByRecursion (WriteFits version) images
  images_are least [] all = (refl, tt)
  images_are least (image ∷ images) all =
      let rest = images_are (image.page + 1) images all.1 in
      (and_from _ _ (le-leb least image.page all.0.0) rest.0, (all.0.1, rest.1))

  images_in_turn : (least : ℕ) (images : List PageImage) → rises least (pages_of images) ≡ true → AllByRecursion (WriteFits version) images → AllInTurn ImageInTurn after_image least images
  images_in_turn least [] up all = tt
  images_in_turn least (image ∷ images) up all =
      let both = and_parts (leb least image.page) (rises (image.page + 1) (pages_of images)) up in
      ((leb-true least image.page both.0, all.0), images_in_turn (image.page + 1) images both.1 all.1)

-- ---- fields at places

field_there : (w place : ℕ) (bytes : List ℕ) → place + w ≤ length bytes → IsBytes bytes → Takes (drop place bytes) (field_bytes w (number_at w bytes place)) (drop (place + w) bytes)
field_there w place bytes le fits =
    let there : List ℕ = drop place bytes in
    let front : field_bytes w (number_at w bytes place) ≡ take w there = ap (field_bytes w) (number-drop w place bytes) ∙ field_of-number w there (omega (arith, length-drop place bytes)) (IsBytes-drop place bytes fits) in
    record {
      parts = sym (take-append-drop w there) ∙ ap (λ t. t ++ drop w there) (sym front) ∙ ap (λ t. field_bytes w (number_at w bytes place) ++ t) (drop-drop w place bytes);
      rest_fits = IsBytes-drop (place + w) bytes fits;
    }

number_fits : (w place : ℕ) (bytes : List ℕ) → IsBytes bytes → number_at w bytes place < 256 ^ w
number_fits w place bytes fits = rw (number-drop w place bytes) (number-lt w (drop place bytes) (IsBytes-drop place bytes fits))

-- what stands at a place of bytes, and what stands behind it
record At (w value place : ℕ) (bytes rest : List ℕ) : Type 0 where
  value_is : number_at w bytes place ≡ value
  rest_is : drop (place + w) bytes ≡ rest
  long : place + w ≤ length bytes

field_at : (w value place : ℕ) (bytes rest : List ℕ) → 0 < w → value < 256 ^ w → drop place bytes ≡ field_bytes w value ++ rest → At w value place bytes rest
field_at w value place bytes rest wide lt e = record {
  value_is = number-drop w place bytes ∙ ap (λ t. number_at w t 0) e ∙ number-again w value rest lt;
  rest_is = sym (drop-drop w place bytes) ∙ ap (drop w) e ∙ drop_at (field_bytes w value) rest w (length-field_bytes w value);
  long = omega (arith, wide, length-drop place bytes, ap length e, length-append (field_bytes w value) rest, length-field_bytes w value);
}

-- ---- a base

-- the fields in front of a base's marks, and what stands behind them
abbrev head : ℕ → ℕ → ℕ → ℕ → ℕ → ℕ → ℕ → ℕ → List ℕ → List ℕ
head version pages capacity changes captures old new count behind =
    field_bytes 2 version ++ (field_bytes 4 pages ++ (field_bytes 4 capacity ++ (field_bytes 8 changes ++ (field_bytes 8 captures ++ (field_bytes 4 old ++ (field_bytes 4 new ++ (field_bytes 4 count ++ behind)))))))

heads_there : (bytes text rest : List ℕ) → 39 ≤ length bytes → IsBytes bytes → Takes (drop 39 bytes) text rest
    → Takes (drop 1 bytes) (head (number_at 2 bytes 1) (number_at 4 bytes 3) (number_at 4 bytes 7) (number_at 8 bytes 11) (number_at 8 bytes 19) (number_at 4 bytes 27) (number_at 4 bytes 31) (number_at 4 bytes 35) text) rest
heads_there bytes text rest le fits t =
    let b : List ℕ = bytes in
    let n : ℕ → ℕ → ℕ = λ w p. number_at w b p in
    let t35 = Takes-then (drop 35 b) (field_bytes 4 (n 4 35)) (drop 39 b) text rest (field_there 4 35 b (omega arith) fits) t in
    let x35 : List ℕ = field_bytes 4 (n 4 35) ++ text in
    let t31 = Takes-then (drop 31 b) (field_bytes 4 (n 4 31)) (drop 35 b) x35 rest (field_there 4 31 b (omega arith) fits) t35 in
    let x31 : List ℕ = field_bytes 4 (n 4 31) ++ x35 in
    let t27 = Takes-then (drop 27 b) (field_bytes 4 (n 4 27)) (drop 31 b) x31 rest (field_there 4 27 b (omega arith) fits) t31 in
    let x27 : List ℕ = field_bytes 4 (n 4 27) ++ x31 in
    let t19 = Takes-then (drop 19 b) (field_bytes 8 (n 8 19)) (drop 27 b) x27 rest (field_there 8 19 b (omega arith) fits) t27 in
    let x19 : List ℕ = field_bytes 8 (n 8 19) ++ x27 in
    let t11 = Takes-then (drop 11 b) (field_bytes 8 (n 8 11)) (drop 19 b) x19 rest (field_there 8 11 b (omega arith) fits) t19 in
    let x11 : List ℕ = field_bytes 8 (n 8 11) ++ x19 in
    let t7 = Takes-then (drop 7 b) (field_bytes 4 (n 4 7)) (drop 11 b) x11 rest (field_there 4 7 b (omega arith) fits) t11 in
    let x7 : List ℕ = field_bytes 4 (n 4 7) ++ x11 in
    let t3 = Takes-then (drop 3 b) (field_bytes 4 (n 4 3)) (drop 7 b) x7 rest (field_there 4 3 b (omega arith) fits) t7 in
    let x3 : List ℕ = field_bytes 4 (n 4 3) ++ x7 in
    Takes-then (drop 1 b) (field_bytes 2 (n 2 1)) (drop 3 b) x3 rest (field_there 2 1 b (omega arith) fits) t3

-- the same where the numbers are told
heads_told : (version pages capacity changes captures old new count : ℕ) (bytes text rest : List ℕ) → 39 ≤ length bytes → IsBytes bytes → Takes (drop 39 bytes) text rest
    → number_at 2 bytes 1 ≡ version → number_at 4 bytes 3 ≡ pages → number_at 4 bytes 7 ≡ capacity → number_at 8 bytes 11 ≡ changes → number_at 8 bytes 19 ≡ captures → number_at 4 bytes 27 ≡ old → number_at 4 bytes 31 ≡ new → number_at 4 bytes 35 ≡ count
    → Takes (drop 1 bytes) (head version pages capacity changes captures old new count text) rest
heads_told version pages capacity changes captures old new count bytes text rest le fits t e1 e2 e3 e4 e5 e6 e7 e8 =
    rw (← e1, ← e2, ← e3, ← e4, ← e5, ← e6, ← e7, ← e8) (heads_there bytes text rest le fits t)

record HeadAt (version pages capacity changes captures old new count : ℕ) (bytes behind : List ℕ) : Type 0 where
  version_is : number_at 2 bytes 1 ≡ version
  pages_is : number_at 4 bytes 3 ≡ pages
  capacity_is : number_at 4 bytes 7 ≡ capacity
  changes_is : number_at 8 bytes 11 ≡ changes
  captures_is : number_at 8 bytes 19 ≡ captures
  oldest_is : number_at 4 bytes 27 ≡ old
  newest_is : number_at 4 bytes 31 ≡ new
  count_is : number_at 4 bytes 35 ≡ count
  behind_is : drop 39 bytes ≡ behind
  long : 39 ≤ length bytes

head_at : (version pages capacity changes captures old new count : ℕ) (bytes behind : List ℕ) → version < 256 ^ 2 → pages < 256 ^ 4 → capacity < 256 ^ 4 → changes < 256 ^ 8 → captures < 256 ^ 8 → old < 256 ^ 4 → new < 256 ^ 4 → count < 256 ^ 4
    → drop 1 bytes ≡ head version pages capacity changes captures old new count behind → HeadAt version pages capacity changes captures old new count bytes behind
head_at version pages capacity changes captures old new count bytes behind f1 f2 f3 f4 f5 f6 f7 f8 e =
    let r8 : List ℕ = field_bytes 4 count ++ behind in
    let r7 : List ℕ = field_bytes 4 new ++ r8 in
    let r6 : List ℕ = field_bytes 4 old ++ r7 in
    let r5 : List ℕ = field_bytes 8 captures ++ r6 in
    let r4 : List ℕ = field_bytes 8 changes ++ r5 in
    let r3 : List ℕ = field_bytes 4 capacity ++ r4 in
    let r2 : List ℕ = field_bytes 4 pages ++ r3 in
    let a1 = field_at 2 version 1 bytes r2 (omega arith) f1 e in
    let a2 = field_at 4 pages 3 bytes r3 (omega arith) f2 a1.rest_is in
    let a3 = field_at 4 capacity 7 bytes r4 (omega arith) f3 a2.rest_is in
    let a4 = field_at 8 changes 11 bytes r5 (omega arith) f4 a3.rest_is in
    let a5 = field_at 8 captures 19 bytes r6 (omega arith) f5 a4.rest_is in
    let a6 = field_at 4 old 27 bytes r7 (omega arith) f6 a5.rest_is in
    let a7 = field_at 4 new 31 bytes r8 (omega arith) f7 a6.rest_is in
    let a8 = field_at 4 count 35 bytes behind (omega arith) f8 a7.rest_is in
    record {
      version_is = a1.value_is;
      pages_is = a2.value_is;
      capacity_is = a3.value_is;
      changes_is = a4.value_is;
      captures_is = a5.value_is;
      oldest_is = a6.value_is;
      newest_is = a7.value_is;
      count_is = a8.value_is;
      behind_is = a8.rest_is;
      long = a8.long;
    }

unless_none : {A : Type 0} (b : Bool) (o : Option A) (y : A) → cond b None o ≡ Some y → (b ≡ false) × (o ≡ Some y)
unless_none true o y e = absurd cc
unless_none false o y e = (refl, e)

where_at : {A : Type 0} (b : Bool) (o : Option A) (y : A) → cond b o None ≡ Some y → (b ≡ true) × (o ≡ Some y)
where_at true o y e = (refl, e)
where_at false o y e = absurd cc

version_small : (version : Version) → version_number version < 256 ^ 2
version_small version.One = omega arith
version_small version.Two = omega arith

base_spelt : (version : Version) (base : Base) → base_bytes version base
    ≡ 1 ∷ head (version_number version) base.page_count base.capacity base.changes base.captures (oldest base.marks) (newest base.marks) (length base.captured) (flat_map mark_bytes base.marks ++ flat_map (field_bytes (page_width version)) base.captured)
base_spelt version base = simp append_assoc

base_takes : (version : Version) (bytes : List ℕ) (x : Base × List ℕ) → IsBytes (1 ∷ bytes) → take_base version (1 ∷ bytes) ≡ Some x → Takes (1 ∷ bytes) (base_bytes version x.0) x.1 × BaseFits version x.0
unfolding take_base base_from
base_takes version bytes x fits e =
    let b : List ℕ = 1 ∷ bytes in
    let g = unless_none (ltb (length b) 39) (cond (eqb (number_at 2 b 1) (version_number version)) (base_from version b) None) x e in
    let v = where_at (eqb (number_at 2 b 1) (version_number version)) (base_from version b) x g.1 in
    let le : 39 ≤ length b = ltb-false _ _ g.0 in
    let made : List Mark × List ℕ → List ℕ × List ℕ → Base × List ℕ = λ marks captured.
    (record { page_count = number_at 4 b 3; capacity = number_at 4 b 7; changes = number_at 8 b 11; captures = number_at 8 b 19; marks = marks.0; captured = captured.0 }, captured.1) in
    let m = bind_some (take_marks (number_at 4 b 27) (number_at 4 b 31) (drop 39 b)) (λ marks. take_list (take_page version) after_page (number_at 4 b 35) 0 marks.1 >>= λ captured. Some (made marks captured)) x v.1 in
    let p = bind_some (take_list (take_page version) after_page (number_at 4 b 35) 0 m.0.1) (λ captured. Some (made m.0 captured)) x m.2 in
    let tm = marks_take (number_at 4 b 27) (number_at 4 b 31) (drop 39 b) m.0 (IsBytes-drop 39 b fits) m.1 in
    let tp = list_takes (take_page version) (field_bytes (page_width version)) (PageInTurn version) after_page (page_takes version) (number_at 4 b 35) 0 m.0.1 p.0 tm.taken.rest_fits p.1 in
    let rise = pages_are version 0 p.0.0 tp.2 in
    let both = Takes-then (drop 39 b) (flat_map mark_bytes m.0.0) m.0.1 (flat_map (field_bytes (page_width version)) p.0.0) p.0.1 tm.taken tp.0 in
    let whole = heads_told (version_number version) (number_at 4 b 3) (number_at 4 b 7) (number_at 8 b 11) (number_at 8 b 19) (oldest m.0.0) (newest m.0.0) (length p.0.0) b (flat_map mark_bytes m.0.0 ++ flat_map (field_bytes (page_width version)) p.0.0) p.0.1 le fits both
    (eqb-true _ _ v.0) refl refl refl refl (sym tm.oldest_is) (sym tm.newest_is) (sym tp.1) in
    subst (λ (y : Base × List ℕ). Takes b (base_bytes version y.0) y.1 × BaseFits version y.0) (some_is (made m.0 p.0) x p.2) (
      record { parts = ap (λ (t : List ℕ). 1 ∷ t) whole.parts ∙ ap (λ (t : List ℕ). t ++ p.0.1) (sym (base_spelt version (made m.0 p.0).0)); rest_fits = whole.rest_fits },
      record {
        page_count = omega (arith, number_fits 4 3 b fits);
        capacity = omega (arith, number_fits 4 7 b fits);
        changes = omega (arith, number_fits 8 11 b fits);
        captures = omega (arith, number_fits 8 19 b fits);
        horizon = (omega (arith, tm.oldest_is, number_fits 4 27 b fits), omega (arith, tm.newest_is, number_fits 4 31 b fits));
        marks = tm.fit;
        numbered = tm.numbered;
        count = omega (arith, tp.1, number_fits 4 35 b fits);
        rising = rise.0;
        pages = rise.1;
      },
    )

base_taken : (version : Version) (base : Base) (rest : List ℕ) → BaseFits version base → take_base version (base_bytes version base ++ rest) ≡ Some (base, rest)
unfolding take_base base_from
base_taken version base rest fits =
    let marks : List ℕ = flat_map mark_bytes base.marks in
    let pages : List ℕ = flat_map (field_bytes (page_width version)) base.captured in
    let b : List ℕ = base_bytes version base ++ rest in
    let grouped : drop 1 b ≡ head (version_number version) base.page_count base.capacity base.changes base.captures (oldest base.marks) (newest base.marks) (length base.captured) (marks ++ (pages ++ rest)) = simp append_assoc in
    let h = head_at (version_number version) base.page_count base.capacity base.changes base.captures (oldest base.marks) (newest base.marks) (length base.captured) b (marks ++ (pages ++ rest)) (version_small version) (omega (arith, fits.page_count)) (omega (arith, fits.capacity))
    (omega (arith, fits.changes)) (omega (arith, fits.captures)) (omega (arith, fits.horizon.0)) (omega (arith, fits.horizon.1)) (omega (arith, fits.count)) grouped in
    let m : take_marks (number_at 4 b 27) (number_at 4 b 31) (drop 39 b) ≡ Some (base.marks, pages ++ rest) = rw (h.oldest_is, h.newest_is, h.behind_is) (marks_taken base.marks (pages ++ rest) fits.numbered fits.marks) in
    let p : take_list (take_page version) after_page (number_at 4 b 35) 0 (pages ++ rest) ≡ Some (base.captured, rest) = rw h.count_is
    (list_taken (take_page version) (field_bytes (page_width version)) (PageInTurn version) after_page (λ least page r t. page_taken version least page r t.0 t.1) 0 base.captured rest (pages_in_turn version 0 base.captured fits.rising fits.pages)) in
    let long : ltb (length b) 39 ≡ false = le-ltb _ _ h.long in
    let same : eqb (number_at 2 b 1) (version_number version) ≡ true = eq-eqb _ _ h.version_is in
    rw (long, same, m, p, h.pages_is, h.capacity_is, h.changes_is, h.captures_is) refl

-- ---- a commit, a drop

commit_takes : (version : Version) (bytes : List ℕ) (x : Change × List ℕ) → IsBytes bytes → take_commit version bytes ≡ Some x → Takes (2 ∷ bytes) (change_bytes version x.0) x.1 × ChangeFits version x.0
unfolding take_commit
commit_takes version bytes x fits e =
    let images : ℕ × List ℕ → Option (List PageImage × List ℕ) = λ count. cond (leb count.0 EDITED_PAGES) (take_list (take_image version) after_image count.0 0 count.1) None in
    let a = bind_some (take_declaration bytes) (λ label. take_number 2 label.1 >>= λ count. images count >>= λ writes. Some (Commit label.0 writes.0, writes.1)) x e in
    let b = bind_some (take_number 2 a.0.1) (λ count. images count >>= λ writes. Some (Commit a.0.0 writes.0, writes.1)) x a.2 in
    let c = bind_some (images b.0) (λ writes. Some (Commit a.0.0 writes.0, writes.1)) x b.2 in
    let few = where_at (leb b.0.0 EDITED_PAGES) (take_list (take_image version) after_image b.0.0 0 b.0.1) c.0 c.1 in
    let t0 = declaration_takes bytes a.0 fits a.1 in
    let t1 = number_takes 2 a.0.1 b.0 t0.0.rest_fits b.1 in
    let t2 = list_takes (take_image version) (write_bytes version) (ImageInTurn version) after_image (image_takes version) b.0.0 0 b.0.1 c.0 t1.0.rest_fits few.1 in
    let all = images_are version 0 c.0.0 t2.2 in
    let both = Takes-then a.0.1 (field_bytes 2 b.0.0) b.0.1 (flat_map (write_bytes version) c.0.0) c.0.1 t1.0 t2.0 in
    let whole = Takes-then bytes (declaration_bytes a.0.0) a.0.1 (field_bytes 2 b.0.0 ++ flat_map (write_bytes version) c.0.0) c.0.1 t0.0 both in
    let counted : Takes bytes (declaration_bytes a.0.0 ++ (field_bytes 2 (length c.0.0) ++ flat_map (write_bytes version) c.0.0)) c.0.1 = rw t2.1 whole in
    let made : Change × List ℕ = (Commit a.0.0 c.0.0, c.0.1) in
    subst (λ (y : Change × List ℕ). Takes (2 ∷ bytes) (change_bytes version y.0) y.1 × ChangeFits version y.0) (some_is made x c.2) (
      record { parts = ap (λ (t : List ℕ). 2 ∷ t) counted.parts; rest_fits = counted.rest_fits },
      (t0.1, omega (arith, t2.1, leb-true b.0.0 EDITED_PAGES few.0), all.0, all.1),
    )

commit_taken : (version : Version) (label : Option (List ℕ)) (writes : List PageImage) (rest : List ℕ) → ChangeFits version (Commit label writes)
    → take_commit version (declaration_bytes label ++ (field_bytes 2 (length writes) ++ flat_map (write_bytes version) writes) ++ rest) ≡ Some (Commit label writes, rest)
unfolding take_commit
commit_taken version label writes rest fits =
    let images : List ℕ = flat_map (write_bytes version) writes in
    let grouped : declaration_bytes label ++ (field_bytes 2 (length writes) ++ images) ++ rest ≡ declaration_bytes label ++ (field_bytes 2 (length writes) ++ (images ++ rest)) = simp append_assoc in
    let few : leb (length writes) EDITED_PAGES ≡ true = le-leb _ _ fits.1 in
    ap (take_commit version) grouped
    ∙ rw (
      declaration_taken label (field_bytes 2 (length writes) ++ (images ++ rest)) fits.0,
      number_taken 2 (length writes) (images ++ rest) (omega (arith, fits.1)),
      few,
      list_taken (take_image version) (write_bytes version) (ImageInTurn version) after_image (λ least image r t. image_taken version least image r t.0 t.1) 0 writes rest (images_in_turn version 0 writes fits.2 fits.3),
    ) refl

drop_takes : (bytes : List ℕ) (x : Change × List ℕ) (version : Version) → IsBytes bytes → take_drop bytes ≡ Some x → Takes (3 ∷ bytes) (change_bytes version x.0) x.1 × ChangeFits version x.0
unfolding take_drop
drop_takes bytes x version fits e =
    let a = bind_some (take_number 4 bytes) (λ below. Some (Drop below.0, below.1)) x e in
    let t = number_takes 4 bytes a.0 fits a.1 in
    let made : Change × List ℕ = (Drop a.0.0, a.0.1) in
    subst (λ (y : Change × List ℕ). Takes (3 ∷ bytes) (change_bytes version y.0) y.1 × ChangeFits version y.0) (some_is made x a.2) (
      record { parts = ap (λ (r : List ℕ). 3 ∷ r) t.0.parts; rest_fits = t.0.rest_fits },
      omega (arith, t.1),
    )

drop_taken : (below : ℕ) (rest : List ℕ) → below < 2 ^ 32 → take_drop (field_bytes 4 below ++ rest) ≡ Some (Drop below, rest)
unfolding take_drop
drop_taken below rest lt = rw (number_taken 4 below rest (omega (arith, lt))) refl

-- ---- an entry, whole

IsBytes-behind : (b : ℕ) (bytes : List ℕ) → IsBytes (b ∷ bytes) → IsBytes bytes
IsBytes-behind b bytes h i = h (suc i)

entry_takes : (version : Version) (bytes : List ℕ) (x : Entry × List ℕ) → IsBytes bytes → take_entry version bytes ≡ Some x → Takes bytes (entry_bytes version x.0) x.1 × EntryFits version x.0
unfolding take_entry
entry_takes version [] x fits e = absurd cc
entry_takes version (zero ∷ bytes) x fits e = absurd cc
entry_takes version (suc zero ∷ bytes) x fits e =
    let a = bind_some (take_base version (1 ∷ bytes)) (λ base. Some (entries.Base base.0, base.1)) x e in
    subst (λ (y : Entry × List ℕ). Takes (1 ∷ bytes) (entry_bytes version y.0) y.1 × EntryFits version y.0) (some_is (entries.Base a.0.0, a.0.1) x a.2) (base_takes version bytes a.0 fits a.1)
entry_takes version (suc (suc zero) ∷ bytes) x fits e =
    let a = bind_some (take_commit version bytes) (λ change. Some (entries.Change change.0, change.1)) x e in
    subst (λ (y : Entry × List ℕ). Takes (2 ∷ bytes) (entry_bytes version y.0) y.1 × EntryFits version y.0) (some_is (entries.Change a.0.0, a.0.1) x a.2) (commit_takes version bytes a.0 (IsBytes-behind 2 bytes fits) a.1)
entry_takes version (suc (suc (suc zero)) ∷ bytes) x fits e =
    let a = bind_some (take_drop bytes) (λ change. Some (entries.Change change.0, change.1)) x e in
    subst (λ (y : Entry × List ℕ). Takes (3 ∷ bytes) (entry_bytes version y.0) y.1 × EntryFits version y.0) (some_is (entries.Change a.0.0, a.0.1) x a.2) (drop_takes bytes a.0 version (IsBytes-behind 3 bytes fits) a.1)
entry_takes version (suc (suc (suc (suc tag))) ∷ bytes) x fits e = absurd cc

entry_taken : (version : Version) (entry : Entry) (rest : List ℕ) → EntryFits version entry → take_entry version (entry_bytes version entry ++ rest) ≡ Some (entry, rest)
unfolding take_entry
entry_taken version (entries.Base base) rest fits = rw (base_taken version base rest fits) refl
entry_taken version (entries.Change (Commit label writes)) rest fits = rw (commit_taken version label writes rest fits) refl
entry_taken version (entries.Change (Drop below)) rest fits = rw (drop_taken below rest fits) refl

pub whole_takes : (version : Version) (bytes : List ℕ) (entry : Entry) → IsBytes bytes → whole_entry version bytes ≡ Some entry → EntryFits version entry × (bytes ≡ entry_bytes version entry)
unfolding whole_entry
whole_takes version bytes entry fits e =
    let a = bind_some (take_entry version bytes) (λ x. where_true (eqb (length x.1) 0) x.0) entry e in
    let g = where_some (eqb (length a.0.1) 0) a.0.0 entry a.2 in
    let none : a.0.1 ≡ [] = nil_from_length a.0.1 (eqb-true _ _ g.0) in
    let t = entry_takes version bytes a.0 fits a.1 in
    subst (λ (y : Entry). EntryFits version y × (bytes ≡ entry_bytes version y)) g.1 (t.1, t.0.parts ∙ ap (λ r. entry_bytes version a.0.0 ++ r) none ∙ append-nil (entry_bytes version a.0.0))

pub whole_taken : (version : Version) (entry : Entry) → EntryFits version entry → whole_entry version (entry_bytes version entry) ≡ Some entry
unfolding whole_entry
whole_taken version entry fits =
    let all : take_entry version (entry_bytes version entry) ≡ Some (entry, []) = ap (take_entry version) (sym (append-nil (entry_bytes version entry))) ∙ entry_taken version entry [] fits in
    rw all refl

pub is_found : (version : Version) (bytes : List ℕ) (r : Result Entry DecodeError) → IsBytes bytes → Decodes (λ e. e) r (whole_entry version bytes) → IfOk r (λ entry. EntryFits version entry × (bytes ≡ entry_bytes version entry))
is_found version bytes (Ok entry) fits given = whole_takes version bytes entry fits given
is_found version bytes (Err e) fits given = tt

-- an entry has one list of bytes, and a list of bytes is of one entry
pub one_entry : OneEntry
one_entry version entry other fits fit e = some_is entry other (sym (whole_taken version entry fits) ∙ ap (whole_entry version) e ∙ whole_taken version other fit)
