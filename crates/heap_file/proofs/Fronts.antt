-- Rows that go to one page, one after the other and at once.
use Rattle.std.proofs.Common.{◌≡◌, ◌≢◌, ◌<◌, ◌≤◌, ◌∙◌, ◌+◌, ◌-◌, ◌^◌, ◌++◌, ◌∷◌, ◌||◌, ℕ, zero, suc, Bool, true, false, List, [], Ok, Err, Result, cond, eqb, drop-cons, get_or, length, take, drop, ap, sym, subst, refl, arith, append_assoc, inl, inr}
use Rattle.std.specs.Prelude.{IsTrue}
use Rattle.std.specs.List.{AllByRecursion}
use Rattle.std.proofs.lemmas.Bool.{ne_eqb, le-leb, leb-true}
use Rattle.std.proofs.lemmas.List.{drop-take, length-append, length-drop, take_all, take-append-drop, take-take, take_more}
use Rattle.std.proofs.lemmas.List.Concat.{flat_map-append}
use Rattle.retro_base.specs.declared.refusal.Refusal.{Refusal}
use Rattle.values.specs.declared.value.Value.{Value}
use Rattle.pager.specs.Pages.{Pages, broken, with_bytes}
use Rattle.pager.proofs.Overlays.{same_pages}
use Rattle.heap_file.specs.declared.page.Entry.{Entry}
use Rattle.heap_file.specs.declared.page.HeapPage.{HeapPage}
use Rattle.heap_file.specs.Chain.{IsAt, heap_page, last_page}
use Rattle.heap_file.specs.Filling.{entries_from, placed_from}
use Rattle.heap_file.specs.HeapPage.{IsEntry, IsHeapPage, IsNarrow, entry_bytes, entry_code, have_room, page_bytes}
use Rattle.heap_file.specs.Work.{added, all_placed}
use Rattle.heap_file.proofs.Heads.{at-other, at-own, ended, fitted}

twice : (b : Bool) (x y z : List ℕ) → cond b y (cond b x z) ≡ cond b y z
twice true x y z = refl
twice false x y z = refl

marked : (b m : Bool) → (b || (b || m)) ≡ (b || m)
marked true m = refl
marked false m = refl

-- a page that is written again holds what was written last
pub again : (pages : Pages) (page : ℕ) (x y : List ℕ) → with_bytes (with_bytes pages page x) page y ≡ with_bytes pages page y
again pages page x y = same_pages _ _ (λ n. twice (eqb n page) x y (pages.at n)) (λ n. marked (eqb n page) (pages.edited n))

twice_two : (b c : Bool) (x y u v z : List ℕ) → cond b v (cond c y (cond b u (cond c x z))) ≡ cond b v (cond c y z)
twice_two true c x y u v z = refl
twice_two false true x y u v z = refl
twice_two false false x y u v z = refl

marked_two : (b c m : Bool) → (b || (c || (b || (c || m)))) ≡ (b || (c || m))
marked_two true c m = refl
marked_two false true m = refl
marked_two false false m = refl

-- two pages that are written again
again_two : (pages : Pages) (first last : ℕ) (x y u v : List ℕ) → with_bytes (with_bytes (with_bytes (with_bytes pages last x) first u) last y) first v ≡ with_bytes (with_bytes pages last y) first v
again_two pages first last x y u v =
    same_pages _ _
    (λ n. twice_two (eqb n first) (eqb n last) x y u v (pages.at n))
    (λ n. marked_two (eqb n first) (eqb n last) (pages.edited n))

-- the row of that number and values as an entry
abbrev pub entry_with : ℕ → List Value → Entry
entry_with number row = record { number = number; row = row }

abbrev pub page_plus : HeapPage → List Entry → HeapPage
page_plus held entries = record held { entries = held.entries ++ entries }

abbrev pub counted : HeapPage → ℕ → HeapPage
counted held count = record held { next_number = held.next_number + count }

-- fewer entries fit where more do
front_fits : (held : HeapPage) (entry : Entry) (entries : List Entry) → IsHeapPage (page_plus held (entry ∷ entries)) → IsHeapPage (page_plus held (entry ∷ []))
front_fits held entry entries is =
    let whole : held.entries ++ entry ∷ entries ≡ (held.entries ++ entry ∷ []) ++ entries = sym (append_assoc held.entries (entry ∷ []) entries) in
    let size : length (entry_bytes (held.entries ++ entry ∷ entries)) ≡ length (entry_bytes (held.entries ++ entry ∷ [])) + length (entry_bytes entries) =
    ap (λ (es : List Entry). length (entry_bytes es)) whole ∙ ap length (flat_map-append entry_code (held.entries ++ entry ∷ []) entries) ∙ length-append (entry_bytes (held.entries ++ entry ∷ [])) (entry_bytes entries) in
    record {
      lawful = front_of (held.entries ++ entry ∷ []) entries (subst (AllByRecursion IsEntry) whole is.lawful);
      fits = le-leb _ _ (omega (arith, size, leb-true _ _ is.fits));
    }
  where
    front_of : (xs ys : List Entry) → AllByRecursion IsEntry (xs ++ ys) → AllByRecursion IsEntry xs
    front_of [] ys all = tt
    front_of (x ∷ xs) ys all = (all.0, front_of xs ys all.1)

-- a row that goes to a last page behind the first
step_behind : (size : ℕ) (pages : Pages) (first last : ℕ) (head tail : HeapPage) (row : List Value) → first ≢ last → last_page first head ≡ last → IsAt size pages first head → IsAt size pages last tail → eqb 0 tail.next ≡ true → head.next_number < 2 ^ 64 - 1 → have_room (tail.entries ++ entry_with head.next_number row ∷ []) ≡ true → added size pages first row (Ok ((head.next_number, last), with_bytes (with_bytes pages last (page_bytes (page_plus tail (entry_with head.next_number row ∷ [])))) first (page_bytes (counted head 1))))
step_behind size pages first last head tail row apart named one at end fits room =
    let more : eqb head.next_number (2 ^ 64 - 1) ≡ false = ne_eqb head.next_number (2 ^ 64 - 1) (λ e. omega (arith, e)) in
    let entry = entry_with head.next_number row in
    let put : Pages = with_bytes pages last (page_bytes (page_plus tail (entry ∷ []))) in
    (head, one, rw more ((last, put), fitted size pages put first last entry head tail named one at end room refl, (head, at-other size pages first last (page_bytes (page_plus tail (entry ∷ []))) head apart one, refl)))

-- rows that go to a last page behind the first
pub placed_behind : (size first last : ℕ) (rows : List (List Value)) (pages : Pages) (head tail : HeapPage) → first ≢ last → last_page first head ≡ last → IsAt size pages first head → IsAt size pages last tail → eqb 0 tail.next ≡ true → IsNarrow head → IsNarrow tail → IsHeapPage head → IsHeapPage (page_plus tail (entries_from head.next_number rows)) → head.next_number + length rows < 2 ^ 64 → 1 ≤ length rows → all_placed size first rows pages (Ok (placed_from head.next_number last (length rows), with_bytes (with_bytes pages last (page_bytes (page_plus tail (entries_from head.next_number rows)))) first (page_bytes (counted head (length rows)))))
placed_behind size first last [] pages head tail apart named one at end narrow also is whole bound some = absurd (omega arith)
placed_behind size first last (row ∷ []) pages head tail apart named one at end narrow also is whole bound some =
    let step = step_behind size pages first last head tail row apart named one at end (omega arith) whole.fits in
    (_, step, (([], _), refl, refl))
placed_behind size first last (row ∷ (other ∷ rows)) pages head tail apart named one at end narrow also is whole bound some =
    let number = head.next_number in
    let entry = entry_with number row in
    let rest : List (List Value) = other ∷ rows in
    let behind : List Entry = entries_from (number + 1) rest in
    let step = step_behind size pages first last head tail row apart named one at end (omega arith) (front_fits tail entry behind whole).fits in
    let tail_now : HeapPage = page_plus tail (entry ∷ []) in
    let head_now : HeapPage = counted head 1 in
    let put : Pages = with_bytes pages last (page_bytes tail_now) in
    let now : Pages = with_bytes put first (page_bytes head_now) in
    let narrow_now : IsNarrow head_now = record { next = narrow.next; next_number = omega arith; last = narrow.last } in
    let is_now : IsHeapPage head_now = record { lawful = is.lawful; fits = is.fits } in
    let tail_narrow : IsNarrow tail_now = record { next = also.next; next_number = also.next_number; last = also.last } in
    let tail_is : IsHeapPage tail_now = front_fits tail entry behind whole in
    let at_first : IsAt size now first head_now = at-own size put first head_now one.named one.there narrow_now is_now in
    let at_last : IsAt size now last tail_now = at-other size put last first (page_bytes head_now) tail_now (λ e. apart (sym e)) (at-own size pages last tail_now at.named at.there tail_narrow tail_is) in
    let joined : (tail.entries ++ entry ∷ []) ++ behind ≡ tail.entries ++ entry ∷ behind = append_assoc tail.entries (entry ∷ []) behind in
    let whole_now : IsHeapPage (page_plus tail_now behind) = subst (λ (es : List Entry). IsHeapPage (record tail { entries = es })) (sym joined) whole in
    let others = placed_behind size first last (other ∷ rows) now head_now tail_now apart named at_first at_last end narrow_now tail_narrow is_now whole_now (omega arith) (omega arith) in
    let page : page_plus tail_now behind ≡ page_plus tail (entry ∷ behind) = ap (λ (es : List Entry). record tail { entries = es }) joined in
    let count : number + 1 + length rest ≡ number + length (row ∷ rest) = omega arith in
    let first_page : counted head_now (length rest) ≡ counted head (length (row ∷ rest)) = ap (λ (n : ℕ). record head { next_number = n }) count in
    let after : with_bytes (with_bytes now last (page_bytes (page_plus tail_now behind))) first (page_bytes (counted head_now (length rest))) ≡ with_bytes (with_bytes pages last (page_bytes (page_plus tail (entry ∷ behind)))) first (page_bytes (counted head (length (row ∷ rest)))) =
    again_two pages first last (page_bytes tail_now) (page_bytes (page_plus tail_now behind)) (page_bytes head_now) (page_bytes (counted head_now (length rest)))
    ∙ (λ i. with_bytes (with_bytes pages last (page_bytes (page i))) first (page_bytes (first_page i))) in
    (_, step, (_, others, ap (λ (p : Pages). Ok (placed_from number last (length (row ∷ rest)), p)) after))

-- a row that goes to a first page that is the last
step_first : (size : ℕ) (pages : Pages) (first : ℕ) (head : HeapPage) (row : List Value) → last_page first head ≡ first → IsAt size pages first head → eqb 0 head.next ≡ true → IsNarrow head → head.next_number < 2 ^ 64 - 1 → IsHeapPage (page_plus head (entry_with head.next_number row ∷ [])) → added size pages first row (Ok ((head.next_number, first), with_bytes pages first (page_bytes (counted (page_plus head (entry_with head.next_number row ∷ [])) 1))))
step_first size pages first head row named one end narrow fits is =
    let more : eqb head.next_number (2 ^ 64 - 1) ≡ false = ne_eqb head.next_number (2 ^ 64 - 1) (λ e. omega (arith, e)) in
    let entry = entry_with head.next_number row in
    let held : HeapPage = page_plus head (entry ∷ []) in
    let put : Pages = with_bytes pages first (page_bytes held) in
    let at : IsAt size put first held = at-own size pages first held one.named one.there (record { next = narrow.next; next_number = narrow.next_number; last = narrow.last }) is in
    (head, one, rw more ((first, put), fitted size pages put first first entry head head named one one end is.fits refl, (held, at, ap (λ (p : Pages). Ok ((head.next_number, first), p)) (again pages first (page_bytes held) (page_bytes (counted held 1))))))

-- rows that go to a first page that is the last
pub placed_first : (size first : ℕ) (rows : List (List Value)) (pages : Pages) (head : HeapPage) → last_page first head ≡ first → IsAt size pages first head → eqb 0 head.next ≡ true → IsNarrow head → IsHeapPage (page_plus head (entries_from head.next_number rows)) → head.next_number + length rows < 2 ^ 64 → 1 ≤ length rows → all_placed size first rows pages (Ok (placed_from head.next_number first (length rows), with_bytes pages first (page_bytes (counted (page_plus head (entries_from head.next_number rows)) (length rows)))))
placed_first size first [] pages head named one end narrow whole bound some = absurd (omega arith)
placed_first size first (row ∷ []) pages head named one end narrow whole bound some =
    (_, step_first size pages first head row named one end narrow (omega arith) whole, (([], _), refl, refl))
placed_first size first (row ∷ (other ∷ rows)) pages head named one end narrow whole bound some =
    let number = head.next_number in
    let entry = entry_with number row in
    let rest : List (List Value) = other ∷ rows in
    let behind : List Entry = entries_from (number + 1) rest in
    let held_is = front_fits head entry behind whole in
    let step = step_first size pages first head row named one end narrow (omega arith) held_is in
    let now_head : HeapPage = counted (page_plus head (entry ∷ [])) 1 in
    let now : Pages = with_bytes pages first (page_bytes now_head) in
    let now_narrow : IsNarrow now_head = record { next = narrow.next; next_number = omega arith; last = narrow.last } in
    let now_is : IsHeapPage now_head = record { lawful = held_is.lawful; fits = held_is.fits } in
    let at : IsAt size now first now_head = at-own size pages first now_head one.named one.there now_narrow now_is in
    let joined : (head.entries ++ entry ∷ []) ++ behind ≡ head.entries ++ entry ∷ behind = append_assoc head.entries (entry ∷ []) behind in
    let whole_now : IsHeapPage (page_plus now_head behind) = record {
      lawful = subst (AllByRecursion IsEntry) (sym joined) whole.lawful;
      fits = subst (λ (es : List Entry). IsTrue (have_room es)) (sym joined) whole.fits;
    } in
    let others = placed_first size first (other ∷ rows) now now_head named at end now_narrow whole_now (omega arith) (omega arith) in
    let count : number + 1 + length rest ≡ number + length (row ∷ rest) = omega arith in
    let page : counted (page_plus now_head behind) (length rest) ≡ counted (page_plus head (entry ∷ behind)) (length (row ∷ rest)) =
    λ i. record head { entries = joined i; next_number = count i } in
    let after : with_bytes now first (page_bytes (counted (page_plus now_head behind) (length rest))) ≡ with_bytes pages first (page_bytes (counted (page_plus head (entry ∷ behind)) (length (row ∷ rest)))) =
    again pages first (page_bytes now_head) (page_bytes (counted (page_plus now_head behind) (length rest)))
    ∙ ap (λ (p : HeapPage). with_bytes pages first (page_bytes p)) page in
    (_, step, (_, others, ap (λ (p : Pages). Ok (placed_from number first (length (row ∷ rest)), p)) after))

-- the answer of adding rows behind others that were added
abbrev pub behind_placed : List (ℕ × ℕ) → Result (List (ℕ × ℕ) × Pages) Refusal → Result (List (ℕ × ℕ) × Pages) Refusal
behind_placed placed (Ok answer) = Ok (placed ++ answer.0, answer.1)
behind_placed placed (Err why) = Err why

abbrev pub placed_in : Result (List (ℕ × ℕ) × Pages) Refusal → List (ℕ × ℕ) × Pages → List (ℕ × ℕ) × Pages
placed_in (Ok answer) other = answer
placed_in (Err why) other = other

abbrev pub answered : List (ℕ × ℕ) → Pages → Result (List (ℕ × ℕ) × Pages) Refusal
answered placed pages = Ok (placed, pages)

-- the parts of one answer
same_parts : (p q : List (ℕ × ℕ)) (m n : Pages) → answered p m ≡ answered q n → (p ≡ q) × (m ≡ n)
same_parts p q m n e =
    let both : (p, m) ≡ (q, n) = ap (λ (r : Result (List (ℕ × ℕ) × Pages) Refusal). placed_in r (p, m)) e in
    (ap (λ (x : List (ℕ × ℕ) × Pages). x.0) both, ap (λ (x : List (ℕ × ℕ) × Pages). x.1) both)

-- rows are added behind others that were added
pub all_placed-join : (size first : ℕ) (xs ys : List (List Value)) (pages mid : Pages) (placed : List (ℕ × ℕ)) (a : Result (List (ℕ × ℕ) × Pages) Refusal) → all_placed size first xs pages (Ok (placed, mid)) → all_placed size first ys mid a → all_placed size first (xs ++ ys) pages (behind_placed placed a)
all_placed-join size first [] ys pages mid placed a h more =
    let same = same_parts [] placed pages mid h in
    subst (λ (ps : List (ℕ × ℕ)). all_placed size first ys pages (behind_placed ps a)) same.0 (rw (bare a) (subst (λ (p : Pages). all_placed size first ys p a) (sym same.1) more))
  where
    bare : (b : Result (List (ℕ × ℕ) × Pages) Refusal) → behind_placed [] b ≡ b
    bare (Ok answer) = refl
    bare (Err why) = refl
all_placed-join size first (x ∷ xs) ys pages mid placed (Err why) h more =
    let same = same_parts (h.0.0 ∷ h.2.0.0) placed h.2.0.1 mid h.2.2 in
    inr (h.0, h.1, inl (all_placed-join size first xs ys h.0.1 h.2.0.1 h.2.0.0 (Err why) h.2.1 (subst (λ (p : Pages). all_placed size first ys p (Err why)) (sym same.1) more)))
all_placed-join size first (x ∷ xs) ys pages mid placed (Ok answer) h more =
    let same = same_parts (h.0.0 ∷ h.2.0.0) placed h.2.0.1 mid h.2.2 in
    let others = all_placed-join size first xs ys h.0.1 h.2.0.1 h.2.0.0 (Ok answer) h.2.1 (subst (λ (p : Pages). all_placed size first ys p (Ok answer)) (sym same.1) more) in
    (h.0, h.1, (_, others, ap (λ (ps : List (ℕ × ℕ)). Ok (ps ++ answer.0, answer.1)) same.0))

-- one place more
pub placed_from-more : (number page count : ℕ) → placed_from number page (suc count) ≡ placed_from number page count ++ (number + count, page) ∷ []
placed_from-more number page zero = ap (λ (n : ℕ). (n, page) ∷ []) (omega arith)
placed_from-more number page (suc count) =
    let one : number + 1 + count ≡ number + suc count = omega arith in
    ap (λ (ps : List (ℕ × ℕ)). (number, page) ∷ ps) (placed_from-more (number + 1) page count) ∙ ap (λ (n : ℕ). (number, page) ∷ (placed_from (number + 1) page count ++ (n, page) ∷ [])) one

pub length-placed_from : (number page count : ℕ) → length (placed_from number page count) ≡ count
length-placed_from number page zero = refl
length-placed_from number page (suc count) = ap suc (length-placed_from (number + 1) page count)

-- one row more
pub entries_from-more : (number : ℕ) (rows : List (List Value)) (row : List Value) → entries_from number (rows ++ row ∷ []) ≡ entries_from number rows ++ entry_with (number + length rows) row ∷ []
entries_from-more number [] row = ap (λ (n : ℕ). entry_with n row ∷ []) (omega arith)
entries_from-more number (first ∷ rows) row =
    let one : number + 1 + length rows ≡ number + length (first ∷ rows) = omega arith in
    ap (λ (es : List Entry). entry_with number first ∷ es) (entries_from-more (number + 1) rows row) ∙ ap (λ (n : ℕ). entry_with number first ∷ (entries_from (number + 1) rows ++ entry_with n row ∷ [])) one

-- a refusal of the first row is that of all
first_refused : (size first : ℕ) (rows : List (List Value)) (pages : Pages) (why : Refusal) → 1 ≤ length rows → ((row : List Value) → added size pages first row (Err why)) → all_placed size first rows pages (Err why)
first_refused size first [] pages why some refused = absurd (omega arith)
first_refused size first (row ∷ rows) pages why some refused = inl (refused row)

-- a last page that cannot be read
pub last_broken : (size first : ℕ) (rows : List (List Value)) (pages : Pages) (head : HeapPage) (why : Refusal) → 1 ≤ length rows → head.next_number < 2 ^ 64 - 1 → IsAt size pages first head → heap_page size pages (last_page first head) (Err why) → all_placed size first rows pages (Err why)
last_broken size first rows pages head why some fits one broken =
    let more : eqb head.next_number (2 ^ 64 - 1) ≡ false = ne_eqb head.next_number (2 ^ 64 - 1) (λ e. omega (arith, e)) in
    first_refused size first rows pages why some (λ row. inr (head, one, rw more (inl (inr (head, one, inl broken)))))

-- a last page that names a next one
pub last_ended : (size first : ℕ) (rows : List (List Value)) (pages : Pages) (head tail : HeapPage) (why : Refusal) → 1 ≤ length rows → head.next_number < 2 ^ 64 - 1 → IsAt size pages first head → IsAt size pages (last_page first head) tail → eqb 0 tail.next ≡ false → why ≡ broken (last_page first head) → all_placed size first rows pages (Err why)
last_ended size first rows pages head tail why some fits one last end is =
    let more : eqb head.next_number (2 ^ 64 - 1) ≡ false = ne_eqb head.next_number (2 ^ 64 - 1) (λ e. omega (arith, e)) in
    first_refused size first rows pages why some (λ row. inr (head, one, rw more (inl (ended size pages first (entry_with head.next_number row) head tail why one last end is))))

-- a row behind the first of some rows
around : (rows : List (List Value)) (count : ℕ) (row : List Value) → count < length rows → row ≡ get_or rows count row → take count rows ++ row ∷ drop (suc count) rows ≡ rows
around rows count row lt is =
    ap (λ (x : List Value). take count rows ++ x ∷ drop (suc count) rows) is ∙ ap (λ (l : List (List Value)). take count rows ++ l) (sym (drop-cons rows count row lt)) ∙ take-append-drop count rows

-- a row is refused behind the first of some rows
pub stopped_at : (size first : ℕ) (rows : List (List Value)) (pages mid : Pages) (count : ℕ) (row : List Value) (placed : List (ℕ × ℕ)) (why : Refusal) → count < length rows → row ≡ get_or rows count row → all_placed size first (take count rows) pages (Ok (placed, mid)) → added size mid first row (Err why) → all_placed size first rows pages (Err why)
stopped_at size first rows pages mid count row placed why lt is done refused =
    subst (λ (l : List (List Value)). all_placed size first l pages (Err why)) (around rows count row lt is) (all_placed-join size first (take count rows) (row ∷ drop (suc count) rows) pages mid placed (Err why) done (inl refused))

-- a row is added behind the first of some rows
pub one_more : (size first : ℕ) (rows : List (List Value)) (pages mid after : Pages) (count : ℕ) (row : List Value) (placed : List (ℕ × ℕ)) (spot : ℕ × ℕ) → count < length rows → row ≡ get_or rows count row → all_placed size first (take count rows) pages (Ok (placed, mid)) → added size mid first row (Ok (spot, after)) → all_placed size first (take (count + 1) rows) pages (Ok (placed ++ spot ∷ [], after))
one_more size first rows pages mid after count row placed spot lt is done more =
    let front : take count rows ++ row ∷ [] ≡ take (count + 1) rows = ap (λ (x : List Value). take count rows ++ x ∷ []) is ∙ sym (take_more rows count row lt) in
    subst (λ (l : List (List Value)). all_placed size first l pages (Ok (placed ++ spot ∷ [], after))) front (all_placed-join size first (take count rows) (row ∷ []) pages mid placed (Ok (spot ∷ [], after)) done ((spot, after), more, (([], after), refl, refl)))

-- some of the rows behind the first of them are added
pub some_more : (size first : ℕ) (rows : List (List Value)) (pages mid after : Pages) (done more : ℕ) (placed others : List (ℕ × ℕ)) → all_placed size first (take done rows) pages (Ok (placed, mid)) → all_placed size first (take more (drop done rows)) mid (Ok (others, after)) → all_placed size first (take (done + more) rows) pages (Ok (placed ++ others, after))
some_more size first rows pages mid after done more placed others first_done then_done =
    let whole : take done rows ++ take more (drop done rows) ≡ take (done + more) rows =
    cc (take-take done (done + more) rows (omega arith), drop-take done more rows, take-append-drop done (take (done + more) rows)) in
    subst (λ (l : List (List Value)). all_placed size first l pages (Ok (placed ++ others, after))) whole (all_placed-join size first (take done rows) (take more (drop done rows)) pages mid placed (Ok (others, after)) first_done then_done)

-- the rows behind the first of them are refused
pub rest_stopped : (size first : ℕ) (rows : List (List Value)) (pages mid : Pages) (done : ℕ) (placed : List (ℕ × ℕ)) (why : Refusal) → all_placed size first (take done rows) pages (Ok (placed, mid)) → all_placed size first (drop done rows) mid (Err why) → all_placed size first rows pages (Err why)
rest_stopped size first rows pages mid done placed why is refused =
    subst (λ (l : List (List Value)). all_placed size first l pages (Err why)) (take-append-drop done rows) (all_placed-join size first (take done rows) (drop done rows) pages mid placed (Err why) is refused)

-- what stands from a place on
pub slice_rest : {A : Type 0} (done : ℕ) (rows : List A) → take (length rows - done) (drop done rows) ≡ drop done rows
slice_rest done rows = take_all (length rows - done) (drop done rows) (omega (arith, length-drop done rows))
