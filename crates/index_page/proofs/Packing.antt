-- Entries that stand first in bytes, and what a page holds.
use Rattle.std.proofs.Common.{◌⊎◌, ◌≡◌, ◌<◌, ◌≤◌, ◌^◌, ◌+◌, ◌-◌, ◌*◌, ◌++◌, ◌∙◌, ℕ, List, [], ◌∷◌, length, get_or, take, drop, replicate, Some, None, Ok, Err, inl, inr, refl, sym, ap, subst, arith, append_assoc}
use Rattle.std.specs.Int.{w64, cast_unsigned}
use Rattle.std.specs.List.{AllByRecursion}
use Rattle.std.proofs.lemmas.Bool.{cases_lt, lt-ltb}
use Rattle.std.proofs.lemmas.List.{take_at, drop_at, drop-drop, drop-replicate, take-append-drop, take-take, get_or-take, get_or-drop, get_or_past, length-append, length-drop, length-take-le, append-nil}
use Rattle.std.proofs.lemmas.List.Concat.{flat_map-cons, flat_map-append}
use Rattle.std.proofs.lemmas.Nat.{be_bytes_2, be_bytes_4}
use Rattle.retro_base.specs.Fields.{field_bytes, number_at}
use Rattle.retro_base.proofs.FieldLaws.{length-field_bytes, number_at-field, number_at-fits, number_at-same}
use Rattle.retro_base.specs.declared.refusal.Refusal.{Refusal}
use Rattle.retro_base.specs.declared.refusal.Refusal.TheVariants.{OutOfMemory}
use Rattle.values.specs.declared.value.Value.{Value}
use Rattle.values.specs.declared.value.Value.TheVariants.{Int, Text}
use Rattle.row_codec.specs.RowCode.{row_code, value_code, encoded, IsEncoded, IsDecoded, IsValue}
use Rattle.row_codec.proofs.Codes.{encoded_whole, same_parts, one_row}
use Rattle.pager.specs.Index.{IsFound, IsIndexed}
use Rattle.pager.specs.Pages.{Pages}
use Rattle.pager.specs.Root.{page_in}
use Rattle.pager.specs.declared.index.Found.{Found}
use Rattle.index_page.specs.declared.page.Form.{Form}
use Rattle.index_page.specs.declared.page.Form.TheVariants as form
use Rattle.index_page.specs.declared.page.IndexPage.{IndexPage}
use Rattle.index_page.specs.IndexPage.{row_of, entry_code, entry_bytes, width, IsFirstFound, IsOnlyValue, HoldsOneIndex, WrittenHoldsIndex, page_bytes, header, form_byte}

-- what may be indexed may stand in a row, and takes at most 202 bytes
pub value-is : (value : Value) → IsIndexed value → IsValue value
value-is (Int n) is = is
value-is (Text t) is = is

pub indexed-is : (value : Value) → IsValue value → IsIndexed value
indexed-is (Int n) is = is
indexed-is (Text t) is = is

pub value-short : (value : Value) → IsIndexed value → length (value_code value) ≤ 202
value-short (Int n) is = omega (arith, length-field_bytes 8 (cast_unsigned w64 n))
value-short (Text t) is = omega (arith, is.0)

pub length-row_of : (entry : Found) → length (row_of entry) ≡ 9 + length (value_code entry.value)
unfolding row_of
length-row_of entry =
    let value = value_code entry.value in
    omega (arith, length-append (field_bytes 8 entry.number) (1 ∷ (value ++ [])), length-field_bytes 8 entry.number, length-append value [])

pub length-entry : (entry : Found) → length (entry_code entry) ≡ 15 + length (value_code entry.value)
length-entry entry =
    let row : List ℕ = row_of entry in
    omega (arith, length-row_of entry, length-append (field_bytes 2 (length row)) (field_bytes 4 entry.page ++ row), length-append (field_bytes 4 entry.page) row, length-field_bytes 2 (length row), length-field_bytes 4 entry.page)

pub entry-short : (entry : Found) → IsFound entry → length (entry_code entry) ≤ 217
entry-short entry is = omega (arith, length-entry entry, value-short entry.value is.value)

-- the row of an entry is encoded
pub row-encoded : (entry : Found) → IsFound entry → IsEncoded (row_of entry) entry.number (entry.value ∷ [])
unfolding row_of
row-encoded entry is = record {
  fits = is.number;
  lawful = record { some = omega arith; few = omega arith; values = (value-is entry.value is.value, tt) };
  code = refl;
  short = row-short entry is;
}
  where
    row-short : (entry : Found) → IsFound entry → length (row_code entry.number (entry.value ∷ [])) ≤ 900
    row-short entry is =
        let value = value_code entry.value in
        omega (arith, value-short entry.value is.value, length-append (field_bytes 8 entry.number) (1 ∷ (value ++ [])), length-field_bytes 8 entry.number, length-append value [])

pub width-cons : (entry : Found) (rest : List Found) → width (entry ∷ rest) ≡ length (entry_code entry) + width rest
width-cons entry rest = ap length (flat_map-cons entry_code entry rest) ∙ length-append (entry_code entry) (entry_bytes rest)

pub width-append : (a b : List Found) → width (a ++ b) ≡ width a + width b
width-append a b = ap length (flat_map-append entry_code a b) ∙ length-append (entry_bytes a) (entry_bytes b)

-- entries take at most so many bytes, and at least two each
pub width-most : (entries : List Found) → AllByRecursion IsFound entries → width entries ≤ 217 * length entries
width-most [] is = omega arith
width-most (entry ∷ rest) is = omega (arith, width-cons entry rest, entry-short entry is.0, width-most rest is.1)

pub width-least : (entries : List Found) → 2 * length entries ≤ width entries
width-least [] = omega arith
width-least (entry ∷ rest) = omega (arith, width-cons entry rest, length-entry entry, width-least rest)

-- two bytes are the field of their number, and the next four
field_2 : (bytes : List ℕ) → ((i : ℕ) → get_or bytes i 0 < 256) → 2 ≤ length bytes → field_bytes 2 (number_at 2 bytes 0) ≡ take 2 bytes
unfolding field_bytes number_at
field_2 bytes small room =
    let part = take 2 bytes in
    let long : length part ≡ 2 = length-take-le 2 bytes room in
    let fits : (i : ℕ) → get_or part i 0 < 256 = λ i.
    elim (cases_lt i 2) [
      | inl lt ↦ rw (get_or-take 2 bytes i 0 lt) (small i)
      | inr le ↦ rw (get_or_past part i 0 (omega arith)) (omega arith)
    ] in
    be_bytes_2 part _ long fits (number_at-same 2 bytes part 0 0 (sym (take-take 2 2 bytes (omega arith))) ∙ omega arith)

field_4 : (bytes : List ℕ) → ((i : ℕ) → get_or bytes i 0 < 256) → 6 ≤ length bytes → field_bytes 4 (number_at 4 bytes 2) ≡ take 4 (drop 2 bytes)
unfolding field_bytes number_at
field_4 bytes small room =
    let part = take 4 (drop 2 bytes) in
    let long : length part ≡ 4 = length-take-le 4 (drop 2 bytes) (omega (arith, length-drop 2 bytes)) in
    let fits : (i : ℕ) → get_or part i 0 < 256 = λ i.
    elim (cases_lt i 4) [
      | inl lt ↦ rw (get_or-take 4 (drop 2 bytes) i 0 lt, get_or-drop) (small (2 + i))
      | inr le ↦ rw (get_or_past part i 0 (omega arith)) (omega arith)
    ] in
    be_bytes_4 part _ long fits (number_at-same 4 bytes part 2 0 (sym (take-take 4 4 (drop 2 bytes) (omega arith))) ∙ omega arith)

-- an entry and bytes behind it
entry_front : (entry : Found) (behind : List ℕ) → entry_code entry ++ behind ≡ field_bytes 2 (length (row_of entry)) ++ (field_bytes 4 entry.page ++ (row_of entry ++ behind))
entry_front entry behind =
    append_assoc (field_bytes 2 (length (row_of entry))) (field_bytes 4 entry.page ++ row_of entry) behind ∙ ap (λ (bytes : List ℕ). field_bytes 2 (length (row_of entry)) ++ bytes) (append_assoc (field_bytes 4 entry.page) (row_of entry) behind)

-- what bytes say of the entry that stands first in them
pub record Parts (bytes : List ℕ) (entry : Found) (behind : List ℕ) : Type 0 where
  pub long : number_at 2 bytes 0 ≡ length (row_of entry)
  pub page : number_at 4 bytes 2 ≡ entry.page
  pub row : drop 6 bytes ≡ row_of entry ++ behind

pub entry_parts : (bytes : List ℕ) (entry : Found) (behind : List ℕ) → IsFound entry → bytes ≡ entry_code entry ++ behind → Parts bytes entry behind
entry_parts bytes entry behind is e =
    let row : List ℕ = row_of entry in
    let f2 = field_bytes 2 (length row) in
    let f4 = field_bytes 4 entry.page in
    let l2 = length-field_bytes 2 (length row) in
    let l4 = length-field_bytes 4 entry.page in
    let whole : bytes ≡ f2 ++ (f4 ++ (row ++ behind)) = e ∙ entry_front entry behind in
    let split : bytes ≡ (f2 ++ f4) ++ (row ++ behind) = whole ∙ sym (append_assoc f2 f4 (row ++ behind)) in
    record {
      long = rw whole (number_at-field 2 (length row) 0 [] (f4 ++ (row ++ behind)) refl (omega (arith, length-row_of entry, value-short entry.value is.value)));
      page = rw whole (number_at-field 4 entry.page 2 f2 (row ++ behind) l2 (omega (arith, is.page)));
      row = rw split (drop_at (f2 ++ f4) (row ++ behind) 6 (omega (arith, length-append f2 f4)));
    }

-- an entry that stands first in bytes is the only one
pub same_entry : (a b : Found) (x y : List ℕ) → IsFound a → IsFound b → entry_code a ++ x ≡ entry_code b ++ y → (a ≡ b) × (x ≡ y)
same_entry a b x y is also e =
    let left = entry_parts (entry_code a ++ x) a x is refl in
    let right = entry_parts (entry_code a ++ x) b y also e in
    let parts = same_parts (row_of a) (row_of b) x y (sym left.long ∙ right.long) (sym left.row ∙ right.row) in
    let one = one_row (row_of a) a.number b.number (a.value ∷ []) (b.value ∷ []) (row-encoded a is) (subst (λ (code : List ℕ). IsEncoded code b.number (b.value ∷ [])) (sym parts.0) (row-encoded b also)) in
    (made (head a.value b.value one.1) one.0 (sym left.page ∙ right.page), parts.1)
  where
    head : (v w : Value) → v ∷ [] ≡ w ∷ [] → v ≡ w
    head v w p = cc

    made : a.value ≡ b.value → a.number ≡ b.number → a.page ≡ b.page → a ≡ b
    made p q r = λ i. record { value = p i; number = q i; page = r i }

-- entries that stand first in bytes begin any longer list of entries that stand first
pub same_front : (es bs : List Found) (x y : List ℕ) → length es ≤ length bs → AllByRecursion IsFound es → AllByRecursion IsFound bs → entry_bytes es ++ x ≡ entry_bytes bs ++ y → (more : List Found) × (bs ≡ es ++ more) × AllByRecursion IsFound more × (x ≡ entry_bytes more ++ y)
same_front [] bs x y short is also e = (bs, refl, also, e)
same_front (a ∷ es) [] x y short is also e = absurd (omega arith)
same_front (a ∷ es) (b ∷ bs) x y short is also e =
    let split : entry_code a ++ (entry_bytes es ++ x) ≡ entry_code b ++ (entry_bytes bs ++ y) =
    sym (ap (λ (bytes : List ℕ). bytes ++ x) (flat_map-cons entry_code a es) ∙ append_assoc (entry_code a) (entry_bytes es) x) ∙ e ∙ (ap (λ (bytes : List ℕ). bytes ++ y) (flat_map-cons entry_code b bs) ∙ append_assoc (entry_code b) (entry_bytes bs) y) in
    let one = same_entry a b _ _ is.0 also.0 split in
    let more = same_front es bs x y (omega arith) is.1 also.1 one.1 in
    (more.0, cc (one.0, more.1), more.2, more.3)

-- so many entries that stand first in bytes are the only ones
pub same_entries : (es bs : List Found) (x y : List ℕ) → length es ≡ length bs → AllByRecursion IsFound es → AllByRecursion IsFound bs → entry_bytes es ++ x ≡ entry_bytes bs ++ y → es ≡ bs
same_entries es bs x y long is also e =
    let front = same_front es bs x y (omega arith) is also e in
    let none : length front.0 ≡ 0 = omega (arith, ap length front.1, length-append es front.0) in
    sym (front.1 ∙ without front.0 none)
  where
    without : (more : List Found) → length more ≡ 0 → es ++ more ≡ es
    without [] none = append-nil es
    without (m ∷ ms) none = absurd cc

-- where no entry stands behind the entries read so far, no more entries stand there
pub no_more : (bytes behind : List ℕ) (count end : ℕ) (read entries : List Found) → length read < count → AllByRecursion IsFound read → bytes ≡ entry_bytes read ++ drop end bytes → IsFirstFound (drop end bytes) None → length entries ≡ count → AllByRecursion IsFound entries → bytes ≡ entry_bytes entries ++ behind → ⊥
no_more bytes behind count end read entries short is so_far none long also e =
    let front = same_front read entries (drop end bytes) behind (omega arith) is also (sym so_far ∙ e) in
    stuck front.0 (omega (arith, ap length front.1, length-append read front.0)) front.2 front.3
  where
    stuck : (more : List Found) → 0 < length more → AllByRecursion IsFound more → drop end bytes ≡ entry_bytes more ++ behind → ⊥
    stuck [] some lawful is = omega arith
    stuck (v ∷ vs) some lawful is =
        none v (entry_bytes vs ++ behind) lawful.0 (is ∙ ap (λ (b : List ℕ). b ++ behind) (flat_map-cons entry_code v vs) ∙ append_assoc (entry_code v) (entry_bytes vs) behind)

-- fewer than six bytes begin with no entry
pub short_for_entry : (bytes : List ℕ) → length bytes < 6 → IsFirstFound bytes None
short_for_entry bytes short entry behind is e =
    omega (arith, ap length e, length-append (entry_code entry) behind, length-entry entry)

-- an entry does not reach past the bytes
pub past_the_end : (bytes : List ℕ) → 6 ≤ length bytes → length bytes < 6 + number_at 2 bytes 0 → IsFirstFound bytes None
past_the_end bytes some over entry behind is e =
    let parts = entry_parts bytes entry behind is e in
    omega (arith, parts.long, ap length parts.row, length-append (row_of entry) behind, length-drop 6 bytes)

-- the row of an entry that stands first in bytes
pub row_there : (bytes : List ℕ) (entry : Found) (behind : List ℕ) → IsFound entry → bytes ≡ entry_code entry ++ behind → IsEncoded (take (number_at 2 bytes 0) (drop 6 bytes)) entry.number (entry.value ∷ [])
row_there bytes entry behind is e =
    let parts = entry_parts bytes entry behind is e in
    let part : take (number_at 2 bytes 0) (drop 6 bytes) ≡ row_of entry = rw (parts.long, parts.row) (take_at (row_of entry) behind _ refl) in
    subst (λ (code : List ℕ). IsEncoded code entry.number (entry.value ∷ [])) (sym part) (row-encoded entry is)

-- an entry whose bytes are no row's is none
pub no_row_there : (bytes : List ℕ) → IsDecoded (take (number_at 2 bytes 0) (drop 6 bytes)) None → IsFirstFound bytes None
no_row_there bytes none entry behind is e = none entry.number (entry.value ∷ []) (row_there bytes entry behind is e)

-- nor is one whose row has no value, or several
pub no_value_there : (bytes : List ℕ) (number : ℕ) (row : List Value) → IsEncoded (take (number_at 2 bytes 0) (drop 6 bytes)) number row → IsOnlyValue row None → IsFirstFound bytes None
no_value_there bytes number row there none entry behind is e =
    let one = one_row (take (number_at 2 bytes 0) (drop 6 bytes)) number entry.number row (entry.value ∷ []) there (row_there bytes entry behind is e) in
    none entry.value one.1

-- an entry whose bytes are those of a row of one value
pub entry_there : (bytes : List ℕ) (number : ℕ) (value : Value) → ((i : ℕ) → get_or bytes i 0 < 256) → 6 + number_at 2 bytes 0 ≤ length bytes → IsEncoded (take (number_at 2 bytes 0) (drop 6 bytes)) number (value ∷ []) → IsFirstFound bytes (Some (record { value = value; number = number; page = number_at 4 bytes 2 }, 6 + number_at 2 bytes 0))
unfolding row_of
entry_there bytes number value small room is =
    let n = number_at 2 bytes 0 in
    let part = take n (drop 6 bytes) in
    let code = row_code number (value ∷ []) in
    let long : length part ≡ n = length-take-le n (drop 6 bytes) (omega (arith, length-drop 6 bytes)) in
    let two : field_bytes 2 (length code) ≡ take 2 bytes = ap (λ (k : ℕ). field_bytes 2 k) (sym (ap length is.code) ∙ long) ∙ field_2 bytes small (omega arith) in
    let four : field_bytes 4 (number_at 4 bytes 2) ≡ take 4 (drop 2 bytes) = field_4 bytes small (omega arith) in
    let rest : part ++ drop (6 + n) bytes ≡ drop 6 bytes = ap (λ (b : List ℕ). part ++ b) (sym (drop-drop n 6 bytes)) ∙ take-append-drop n (drop 6 bytes) in
    let behind_two : take 4 (drop 2 bytes) ++ drop 6 bytes ≡ drop 2 bytes = ap (λ (b : List ℕ). take 4 (drop 2 bytes) ++ b) (sym (drop-drop 4 2 bytes)) ∙ take-append-drop 4 (drop 2 bytes) in
    let split : take 2 bytes ++ (take 4 (drop 2 bytes) ++ (part ++ drop (6 + n) bytes)) ≡ bytes =
    ap (λ (b : List ℕ). take 2 bytes ++ (take 4 (drop 2 bytes) ++ b)) rest ∙ ap (λ (b : List ℕ). take 2 bytes ++ b) behind_two ∙ take-append-drop 2 bytes in (
      record { value = indexed-is value is.lawful.values.0; number = is.fits; page = omega (arith, number_at-fits 4 bytes 2 (λ i. rw get_or-drop (small (2 + i)))) },
      room,
      sym (entry_front (record { value = value; number = number; page = number_at 4 bytes 2 }) (drop (6 + n) bytes) ∙ (rw (two, four, ← is.code) split)),
    )

-- the bytes of a page hold one thing alone
same_form : (p q : Form) → form_byte p ≡ form_byte q → p ≡ q
same_form form.Run form.Run e = refl
same_form form.Run form.Inner e = absurd (omega arith)
same_form form.Run form.Leaf e = absurd (omega arith)
same_form form.Inner form.Run e = absurd (omega arith)
same_form form.Inner form.Inner e = refl
same_form form.Inner form.Leaf e = absurd (omega arith)
same_form form.Leaf form.Run e = absurd (omega arith)
same_form form.Leaf form.Inner e = absurd (omega arith)
same_form form.Leaf form.Leaf e = refl

pub holds_one : HoldsOneIndex
holds_one bytes p q is also =
    made (same_form p.form q.form (sym is.form ∙ also.form)) (sym is.link ∙ also.link)
    (same_entries p.entries q.entries is.behind also.behind (sym is.count ∙ also.count) is.lawful also.lawful (sym is.packed ∙ also.packed))
  where
    made : p.form ≡ q.form → p.link ≡ q.link → p.entries ≡ q.entries → p ≡ q
    made a b c = λ i. record { form = a i; link = b i; entries = c i }

-- a page that was written holds what was written
pub written_holds : WrittenHoldsIndex
unfolding page_bytes
written_holds page link is =
    let f1 = form_byte page.form in
    let f2 = field_bytes 2 (length page.entries) in
    let f4 = field_bytes 4 page.link in
    let body : List ℕ = entry_bytes page.entries in
    let zeros : List ℕ = replicate (1016 - width page.entries) 0 in
    let rest : List ℕ = body ++ zeros in
    let few : length page.entries < 256 ^ 2 = omega (arith, width-least page.entries, is.fits) in
    let a : page_bytes page ≡ (f1 ∷ 0 ∷ []) ++ (f2 ++ (f4 ++ rest)) = simp append_assoc in
    let b : page_bytes page ≡ (f1 ∷ 0 ∷ f2) ++ (f4 ++ rest) = simp append_assoc in
    let e : page_bytes page ≡ header page ++ rest = simp append_assoc in
    let l2 = length-field_bytes 2 (length page.entries) in
    let l4 = length-field_bytes 4 page.link in
    record {
      form = refl;
      count = rw a (number_at-field 2 (length page.entries) 2 (f1 ∷ 0 ∷ []) _ refl few);
      link = rw b (number_at-field 4 page.link 4 (f1 ∷ 0 ∷ f2) _ (omega arith) link);
      behind = zeros;
      packed = rw e (drop_at (header page) rest 8 (omega (arith, length-append (f1 ∷ 0 ∷ f2) f4)));
      lawful = is.lawful;
    }

pub length-header : (page : IndexPage) → length (header page) ≡ 8
length-header page =
    let f2 = field_bytes 2 (length page.entries) in
    let f4 = field_bytes 4 page.link in
    omega (arith, length-field_bytes 2 (length page.entries), length-field_bytes 4 page.link, length-append (form_byte page.form ∷ 0 ∷ f2) f4)

-- bytes that are put behind the first eight of a page
put_behind : (front body : List ℕ) → length front ≡ 8 → take 8 (front ++ replicate 1016 0) ++ (body ++ drop (8 + length body) (front ++ replicate 1016 0)) ≡ front ++ body ++ replicate (1016 - length body) 0
put_behind front body long =
    let rest : drop (8 + length body) (front ++ replicate 1016 0) ≡ replicate (1016 - length body) 0 =
    sym (drop-drop (length body) 8 (front ++ replicate 1016 0)) ∙ ap (drop (length body)) (drop_at front (replicate 1016 0) 8 long) ∙ drop-replicate (length body) 1016 0 in
    rw (take_at front (replicate 1016 0) 8 long, rest) (sym (append_assoc front body (replicate (1016 - length body) 0)))

-- entries that are put behind a header
pub behind_header : (page : IndexPage) → take 8 (header page ++ replicate 1016 0) ++ (entry_bytes page.entries ++ drop (8 + width page.entries) (header page ++ replicate 1016 0)) ≡ page_bytes page
unfolding page_bytes
behind_header page = put_behind (header page) (entry_bytes page.entries) (length-header page)

-- the row of an entry is never refused
pub row-refused : (entry : Found) (why : Refusal) → IsFound entry → (why ≡ OutOfMemory) ⊎ (encoded entry.number (entry.value ∷ []) ≡ Err why) → why ≡ OutOfMemory
unfolding row_of
row-refused entry why is (inl memory) = memory
row-refused entry why is (inr refused) = absurd (differ (sym taken ∙ refused))
  where
    code : List ℕ
    code = row_code entry.number (entry.value ∷ [])

    taken : encoded entry.number (entry.value ∷ []) ≡ Ok (row_code entry.number (entry.value ∷ []))
    taken = encoded_whole entry.number (entry.value ∷ []) code refl (row-encoded entry is).short

    differ : Ok (row_code entry.number (entry.value ∷ [])) ≡ Err why → ⊥
    differ e = cc

-- the bytes of a page that is there
pub page_in-bytes : (size : ℕ) (pages : Pages) (page : ℕ) (bytes : List ℕ) → page < size → page_in size pages page ≡ Ok bytes → pages.at page ≡ bytes
page_in-bytes size pages page bytes there is =
    let found : page_in size pages page ≡ Ok (pages.at page) = rw (lt-ltb page size there) refl in
    cc
