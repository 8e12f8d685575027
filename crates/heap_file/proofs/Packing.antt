-- Entries that stand first in bytes, and what a page holds.
use Rattle.std.proofs.Common.{◌⊎◌, ◌≡◌, ◌<◌, ◌≤◌, ◌^◌, ◌+◌, ◌-◌, ◌*◌, ◌++◌, ◌∙◌, ℕ, suc, List, [], ◌∷◌, length, get_or, take, drop, replicate, Some, None, Ok, Err, inl, inr, refl, sym, ap, subst, arith, append_assoc}
use Rattle.std.specs.List.{AllByRecursion}
use Rattle.std.proofs.lemmas.Bool.{cases_lt, le-leb, leb-true}
use Rattle.std.proofs.lemmas.List.{take_at, drop_at, drop-drop, drop-replicate, drop_more, take-append-drop, take-take, get_or-take, get_or_past, length-append, length-drop, length-take-le, append-nil}
use Rattle.std.proofs.lemmas.List.Concat.{flat_map-cons, flat_map-append}
use Rattle.std.proofs.lemmas.List.Elements.{All-from_recursion, recursion_from_All, All-append, All-cons, All-take, All-drop}
use Rattle.std.proofs.lemmas.Nat.{be_bytes_2}
use Rattle.retro_base.specs.Fields.{field_bytes, number_at}
use Rattle.retro_base.proofs.FieldLaws.{length-field_bytes, number_at-field, number_at-same}
use Rattle.values.specs.declared.value.Value.{Value}
use Rattle.retro_base.specs.declared.refusal.Refusal.{Refusal}
use Rattle.retro_base.specs.declared.refusal.Refusal.TheVariants.{OutOfMemory}
use Rattle.values.specs.Row.{row_bytes}
use Rattle.row_codec.specs.RowCode.{row_code, encoded, IsEncoded, IsDecoded, IsRow}
use Rattle.row_codec.proofs.Codes.{same_parts, one_row, row_size}
use Rattle.heap_file.specs.declared.page.Entry.{Entry}
use Rattle.heap_file.specs.declared.page.HeapPage.{HeapPage}
use Rattle.heap_file.specs.declared.page.TheConstants.{ENTRY_BYTES}
use Rattle.heap_file.specs.HeapPage.{HaveRoom, entry_code, entry_bytes, IsEntry, IsShort, IsFirstEntry, HoldsRows, HoldsOne, ZeroIsEmpty, WrittenHolds, IsHeapPage, page_bytes, header}
use Rattle.heap_file.specs.Work.{page_with, without}

-- two bytes are the field of their number
field_of : (bytes : List ℕ) → ((i : ℕ) → get_or bytes i 0 < 256) → 2 ≤ length bytes → field_bytes 2 (number_at 2 bytes 0) ≡ take 2 bytes
unfolding field_bytes number_at
field_of bytes small room =
    let part = take 2 bytes in
    let long : length part ≡ 2 = length-take-le 2 bytes room in
    let fits : (i : ℕ) → get_or part i 0 < 256 = λ i.
    elim (cases_lt i 2) [
      | inl lt ↦ rw (get_or-take 2 bytes i 0 lt) (small i)
      | inr le ↦ rw (get_or_past part i 0 (omega arith)) (omega arith)
    ] in
    be_bytes_2 part _ long fits (number_at-same 2 bytes part 0 0 (sym (take-take 2 2 bytes (omega arith))) ∙ omega arith)

-- one more entry behind others
pub length-push : (entries : List Entry) (entry : Entry) → length (entry_bytes (entries ++ entry ∷ [])) ≡ length (entry_bytes entries) + length (entry_code entry)
length-push entries entry =
    ap length (flat_map-append entry_code entries (entry ∷ [])) ∙ length-append (entry_bytes entries) (entry_code entry ++ []) ∙ ap (λ (bytes : List ℕ). length (entry_bytes entries) + length bytes) (append-nil (entry_code entry))

-- the first of some entries take no more bytes than all
pub length-taken : (entries : List Entry) (count : ℕ) → length (entry_bytes (take count entries)) ≤ length (entry_bytes entries)
length-taken entries count =
    omega (arith, ap (λ (es : List Entry). length (entry_bytes es)) (take-append-drop count entries), ap length (flat_map-append entry_code (take count entries) (drop count entries)), length-append (entry_bytes (take count entries)) (entry_bytes (drop count entries)))

-- an entry and bytes behind it
entry_front : (entry : Entry) (behind : List ℕ) → entry_code entry ++ behind ≡ field_bytes 2 (length (row_code entry.number entry.row)) ++ (row_code entry.number entry.row ++ behind)
entry_front entry behind = append_assoc _ _ behind

-- what bytes say of the entry that stands first in them
pub entry_parts : (bytes : List ℕ) (entry : Entry) (behind : List ℕ) → IsEntry entry → bytes ≡ entry_code entry ++ behind → (number_at 2 bytes 0 ≡ length (row_code entry.number entry.row)) × (drop 2 bytes ≡ row_code entry.number entry.row ++ behind)
entry_parts bytes entry behind is e =
    let code = row_code entry.number entry.row in
    let whole : bytes ≡ field_bytes 2 (length code) ++ (code ++ behind) = e ∙ entry_front entry behind in (
      rw whole (number_at-field 2 (length code) 0 [] (code ++ behind) refl (omega (arith, is.short))),
      rw whole (drop_at (field_bytes 2 (length code)) (code ++ behind) 2 (length-field_bytes 2 (length code))),
    )

-- an entry that stands first in bytes is the only one
pub same_entry : (a b : Entry) (x y : List ℕ) → IsEntry a → IsEntry b → entry_code a ++ x ≡ entry_code b ++ y → (a ≡ b) × (x ≡ y)
same_entry a b x y is also e =
    let left = entry_parts (entry_code a ++ x) a x is refl in
    let right = entry_parts (entry_code a ++ x) b y also e in
    let parts = same_parts (row_code a.number a.row) (row_code b.number b.row) x y (sym left.0 ∙ right.0) (sym left.1 ∙ right.1) in
    let one = one_row (row_code a.number a.row) a.number b.number a.row b.row is (subst (λ (code : List ℕ). IsEncoded code b.number b.row) (sym parts.0) also) in
    (made one.0 one.1, parts.1)
  where
    made : a.number ≡ b.number → a.row ≡ b.row → a ≡ b
    made p q = λ i. record { number = p i; row = q i }

-- entries that stand first in bytes begin any longer list of entries that stand first
pub same_front : (es bs : List Entry) (x y : List ℕ) → length es ≤ length bs → AllByRecursion IsEntry es → AllByRecursion IsEntry bs → entry_bytes es ++ x ≡ entry_bytes bs ++ y → (more : List Entry) × (bs ≡ es ++ more) × AllByRecursion IsEntry more × (x ≡ entry_bytes more ++ y)
same_front [] bs x y short is also e = (bs, refl, also, e)
same_front (a ∷ es) [] x y short is also e = absurd (omega arith)
same_front (a ∷ es) (b ∷ bs) x y short is also e =
    let split : entry_code a ++ (entry_bytes es ++ x) ≡ entry_code b ++ (entry_bytes bs ++ y) =
    sym (ap (λ (bytes : List ℕ). bytes ++ x) (flat_map-cons entry_code a es) ∙ append_assoc (entry_code a) (entry_bytes es) x) ∙ e ∙ (ap (λ (bytes : List ℕ). bytes ++ y) (flat_map-cons entry_code b bs) ∙ append_assoc (entry_code b) (entry_bytes bs) y) in
    let one = same_entry a b _ _ is.0 also.0 split in
    let more = same_front es bs x y (omega arith) is.1 also.1 one.1 in
    (more.0, cc (one.0, more.1), more.2, more.3)

-- so many entries that stand first in bytes are the only ones
pub same_entries : (es bs : List Entry) (x y : List ℕ) → length es ≡ length bs → AllByRecursion IsEntry es → AllByRecursion IsEntry bs → entry_bytes es ++ x ≡ entry_bytes bs ++ y → es ≡ bs
same_entries es bs x y long is also e =
    let front = same_front es bs x y (omega arith) is also e in
    let none : length front.0 ≡ 0 = omega (arith, ap length front.1, length-append es front.0) in
    sym (front.1 ∙ without front.0 none)
  where
    without : (more : List Entry) → length more ≡ 0 → es ++ more ≡ es
    without [] none = append-nil es
    without (m ∷ ms) none = absurd cc

-- where no entry stands behind the entries read so far, no more entries stand there
pub no_more : (bytes behind : List ℕ) (count end : ℕ) (read entries : List Entry) → length read < count → AllByRecursion IsEntry read → bytes ≡ entry_bytes read ++ drop end bytes → IsFirstEntry (drop end bytes) None → length entries ≡ count → AllByRecursion IsEntry entries → bytes ≡ entry_bytes entries ++ behind → ⊥
no_more bytes behind count end read entries short is so_far none long also e =
    let front = same_front read entries (drop end bytes) behind (omega arith) is also (sym so_far ∙ e) in
    stuck front.0 (omega (arith, ap length front.1, length-append read front.0)) front.2 front.3
  where
    stuck : (more : List Entry) → 0 < length more → AllByRecursion IsEntry more → drop end bytes ≡ entry_bytes more ++ behind → ⊥
    stuck [] some lawful is = omega arith
    stuck (v ∷ vs) some lawful is =
        none v (entry_bytes vs ++ behind) lawful.0 (is ∙ ap (λ (b : List ℕ). b ++ behind) (flat_map-cons entry_code v vs) ∙ append_assoc (entry_code v) (entry_bytes vs) behind)

-- fewer than two bytes begin with no entry
pub short_for_entry : (bytes : List ℕ) → length bytes < 2 → IsFirstEntry bytes None
short_for_entry bytes short entry behind is e =
    omega (arith, ap length (e ∙ entry_front entry behind), length-append (field_bytes 2 (length (row_code entry.number entry.row))) (row_code entry.number entry.row ++ behind), length-field_bytes 2 (length (row_code entry.number entry.row)))

-- an entry does not reach past the bytes
pub past_the_end : (bytes : List ℕ) → 2 ≤ length bytes → length bytes < 2 + number_at 2 bytes 0 → IsFirstEntry bytes None
past_the_end bytes some over entry behind is e =
    let parts = entry_parts bytes entry behind is e in
    omega (arith, parts.0, ap length parts.1, length-append (row_code entry.number entry.row) behind, length-drop 2 bytes)

-- an entry whose bytes are no row's is none
pub no_row_there : (bytes : List ℕ) → IsDecoded (take (number_at 2 bytes 0) (drop 2 bytes)) None → IsFirstEntry bytes None
no_row_there bytes none entry behind is e =
    let parts = entry_parts bytes entry behind is e in
    let part : take (number_at 2 bytes 0) (drop 2 bytes) ≡ row_code entry.number entry.row = rw (parts.0, parts.1) (take_at (row_code entry.number entry.row) behind _ refl) in
    none entry.number entry.row (subst (λ (code : List ℕ). IsEncoded code entry.number entry.row) (sym part) is)

-- an entry whose bytes are a row's
pub entry_there : (bytes : List ℕ) (number : ℕ) (row : List Value) → ((i : ℕ) → get_or bytes i 0 < 256) → 2 + number_at 2 bytes 0 ≤ length bytes → IsEncoded (take (number_at 2 bytes 0) (drop 2 bytes)) number row → IsFirstEntry bytes (Some (record { number = number; row = row }, 2 + number_at 2 bytes 0))
entry_there bytes number row small room is =
    let n = number_at 2 bytes 0 in
    let part = take n (drop 2 bytes) in
    let long : length part ≡ n = length-take-le n (drop 2 bytes) (omega (arith, length-drop 2 bytes)) in
    let field : field_bytes 2 (length (row_code number row)) ≡ take 2 bytes = ap (λ (k : ℕ). field_bytes 2 k) (sym (ap length is.code) ∙ long) ∙ field_of bytes small (omega arith) in
    let split : bytes ≡ take 2 bytes ++ (part ++ drop (2 + n) bytes) =
    sym (take-append-drop 2 bytes) ∙ ap (λ (rest : List ℕ). take 2 bytes ++ rest) (sym (take-append-drop n (drop 2 bytes)) ∙ ap (λ (rest : List ℕ). part ++ rest) (drop-drop n 2 bytes)) in (
      subst (λ (code : List ℕ). IsEncoded code number row) is.code is,
      room,
      split ∙ (rw (field, ← is.code) (sym (append_assoc (take 2 bytes) part (drop (2 + n) bytes)))),
    )

-- the bytes of a page hold one thing alone
pub holds_one : HoldsOne
holds_one bytes p q is also =
    made (sym is.next ∙ also.next) (sym is.next_number ∙ also.next_number) (sym is.last ∙ also.last)
    (same_entries p.entries q.entries is.behind also.behind (sym is.count ∙ also.count) is.lawful also.lawful (sym is.packed ∙ also.packed))
  where
    made : p.next ≡ q.next → p.next_number ≡ q.next_number → p.last ≡ q.last → p.entries ≡ q.entries → p ≡ q
    made a b c d = λ i. record { next = a i; next_number = b i; last = c i; entries = d i }

-- a page that was never written is an empty heap page
pub zero_is_empty : ZeroIsEmpty
unfolding number_at
zero_is_empty = record {
  kind = omega arith;
  count = refl;
  next = refl;
  next_number = refl;
  last = refl;
  behind = replicate ENTRY_BYTES 0;
  packed = refl;
  lawful = tt;
}

-- entries take at least two bytes each
pub entries-few : (entries : List Entry) → 2 * length entries ≤ length (entry_bytes entries)
entries-few [] = omega arith
entries-few (entry ∷ entries) =
    let code = row_code entry.number entry.row in
    rw (flat_map-cons entry_code entry entries)
    (omega (arith, entries-few entries, length-append (entry_code entry) (entry_bytes entries), length-append (field_bytes 2 (length code)) code, length-field_bytes 2 (length code)))

-- a page that was written holds what was written
pub written_holds : WrittenHolds
unfolding page_bytes
written_holds page next number last is =
    let f2 = field_bytes 2 (length page.entries) in
    let f4 = field_bytes 4 page.next in
    let f8 = field_bytes 8 page.next_number in
    let g4 = field_bytes 4 page.last in
    let body : List ℕ = entry_bytes page.entries in
    let zeros : List ℕ = replicate (ENTRY_BYTES - length body) 0 in
    let rest : List ℕ = body ++ zeros in
    let few : length page.entries < 256 ^ 2 = omega (arith, entries-few page.entries, leb-true _ _ is.fits) in
    let a : page_bytes page ≡ (1 ∷ 0 ∷ []) ++ (f2 ++ (f4 ++ (f8 ++ (g4 ++ rest)))) = simp append_assoc in
    let b : page_bytes page ≡ (1 ∷ 0 ∷ f2) ++ (f4 ++ (f8 ++ (g4 ++ rest))) = simp append_assoc in
    let c : page_bytes page ≡ ((1 ∷ 0 ∷ f2) ++ f4) ++ (f8 ++ (g4 ++ rest)) = simp append_assoc in
    let d : page_bytes page ≡ (((1 ∷ 0 ∷ f2) ++ f4) ++ f8) ++ (g4 ++ rest) = simp append_assoc in
    let e : page_bytes page ≡ header page ++ rest = simp append_assoc in
    let l2 = length-field_bytes 2 (length page.entries) in
    let l4 = length-field_bytes 4 page.next in
    let l8 = length-field_bytes 8 page.next_number in
    let m4 = length-field_bytes 4 page.last in
    record {
      kind = omega arith;
      count = rw a (number_at-field 2 (length page.entries) 2 (1 ∷ 0 ∷ []) _ refl few);
      next = rw b (number_at-field 4 page.next 4 (1 ∷ 0 ∷ f2) _ (omega arith) next);
      next_number = rw c (number_at-field 8 page.next_number 8 ((1 ∷ 0 ∷ f2) ++ f4) _ (omega (arith, length-append (1 ∷ 0 ∷ f2) f4)) number);
      last = rw d (number_at-field 4 page.last 16 (((1 ∷ 0 ∷ f2) ++ f4) ++ f8) _ (omega (arith, length-append ((1 ∷ 0 ∷ f2) ++ f4) f8, length-append (1 ∷ 0 ∷ f2) f4)) last);
      behind = zeros;
      packed = rw e (drop_at (header page) rest 20 (omega (arith, length-append (((1 ∷ 0 ∷ f2) ++ f4) ++ f8) g4, length-append ((1 ∷ 0 ∷ f2) ++ f4) f8, length-append (1 ∷ 0 ∷ f2) f4)));
      lawful = is.lawful;
    }

pub length-header : (page : HeapPage) → length (header page) ≡ 20
length-header page =
    let f2 = field_bytes 2 (length page.entries) in
    let f4 = field_bytes 4 page.next in
    let f8 = field_bytes 8 page.next_number in
    let g4 = field_bytes 4 page.last in
    omega (arith, length-field_bytes 2 (length page.entries), length-field_bytes 4 page.next, length-field_bytes 8 page.next_number, length-field_bytes 4 page.last, length-append (((1 ∷ 0 ∷ f2) ++ f4) ++ f8) g4, length-append ((1 ∷ 0 ∷ f2) ++ f4) f8, length-append (1 ∷ 0 ∷ f2) f4)

-- bytes that are put behind the first twenty of a page
put_behind : (front body : List ℕ) → length front ≡ 20 → take 20 (front ++ replicate ENTRY_BYTES 0) ++ (body ++ drop (20 + length body) (front ++ replicate ENTRY_BYTES 0)) ≡ front ++ body ++ replicate (ENTRY_BYTES - length body) 0
put_behind front body long =
    let rest : drop (20 + length body) (front ++ replicate ENTRY_BYTES 0) ≡ replicate (ENTRY_BYTES - length body) 0 =
    sym (drop-drop (length body) 20 (front ++ replicate ENTRY_BYTES 0)) ∙ ap (drop (length body)) (drop_at front (replicate ENTRY_BYTES 0) 20 long) ∙ drop-replicate (length body) ENTRY_BYTES 0 in
    rw (take_at front (replicate ENTRY_BYTES 0) 20 long, rest) (sym (append_assoc front body (replicate (ENTRY_BYTES - length body) 0)))

-- entries that are put behind a header
pub behind_header : (page : HeapPage) → take 20 (header page ++ replicate ENTRY_BYTES 0) ++ (entry_bytes page.entries ++ drop (20 + length (entry_bytes page.entries)) (header page ++ replicate ENTRY_BYTES 0)) ≡ page_bytes page
unfolding page_bytes
behind_header page = put_behind (header page) (entry_bytes page.entries) (length-header page)

-- a short row is encoded
pub short_encoded : (number : ℕ) (row : List Value) → IsShort row → encoded number row ≡ Ok (row_code number row)
short_encoded number row is =
    rw (le-leb (row_bytes row) 900 is.short) refl

-- the only refusal of its encoding
pub short_refused : (number : ℕ) (row : List Value) (why : Refusal) → IsShort row → (why ≡ OutOfMemory) ⊎ (encoded number row ≡ Err why) → why ≡ OutOfMemory
short_refused number row why is (inl memory) = memory
short_refused number row why is (inr refused) = absurd (differ (sym (short_encoded number row is) ∙ refused))
  where
    differ : Ok (row_code number row) ≡ Err why → ⊥
    differ e = cc

-- what is an entry is short
pub short_entry : (entry : Entry) → IsEntry entry → IsShort entry.row
short_entry entry is = record {
  some = is.lawful.some;
  few = is.lawful.few;
  short = omega (arith, row_size entry.number entry.row, is.short);
}

-- a row that can be stored, under a number
pub entry_is : (entry : Entry) → entry.number < 2 ^ 64 → IsRow entry.row → IsShort entry.row → IsEntry entry
entry_is entry fits row is = record { fits = fits; lawful = row; code = refl; short = omega (arith, row_size entry.number entry.row, is.short) }

-- a page with one more entry at its end can be written where it fits
pub pushed_fits : (page : HeapPage) (entry : Entry) → IsHeapPage page → IsEntry entry → HaveRoom (page.entries ++ entry ∷ []) → IsHeapPage (record page { entries = page.entries ++ entry ∷ [] })
pushed_fits page entry is one room = record {
  lawful = recursion_from_All IsEntry (page.entries ++ entry ∷ []) (All-append IsEntry page.entries (entry ∷ []) (All-from_recursion IsEntry page.entries is.lawful) (All-from_recursion IsEntry (entry ∷ []) (one, tt)));
  fits = room;
}

-- one of some entries
pub short_among : (entries : List Entry) (i : ℕ) (entry : Entry) → AllByRecursion IsEntry entries → i < length entries → entry ≡ get_or entries i entry → IsShort entry.row
short_among entries i entry all lt is =
    short_entry entry (rw is (All-from_recursion IsEntry entries all i entry lt))

-- a page with one entry can be written
pub one_entry : (entry : Entry) → IsEntry entry → IsHeapPage (page_with entry)
one_entry entry is =
    let code = row_code entry.number entry.row in
    record {
      lawful = (is, tt);
      fits = rw (flat_map-cons entry_code entry []) (le-leb _ _ (omega (arith, is.short, length-append (entry_code entry) [], length-append (field_bytes 2 (length code)) code, length-field_bytes 2 (length code))));
    }

-- what the bytes of a page hold can be written
pub held_fits : (bytes : List ℕ) (page : HeapPage) → length bytes ≡ 1024 → HoldsRows bytes page → IsHeapPage page
held_fits bytes page long is = record {
  lawful = is.lawful;
  fits = le-leb _ _ (omega (arith, ap length is.packed, length-drop 20 bytes, length-append (entry_bytes page.entries) is.behind));
}

-- a page without one of its entries can be written
pub without_fits : (page : HeapPage) (place : ℕ) → place < length page.entries → IsHeapPage page → IsHeapPage (without page place)
without_fits page place lt is =
    let entry : Entry = get_or page.entries place (record { number = 0; row = [] }) in
    let split : page.entries ≡ take place page.entries ++ entry ∷ drop (place + 1) page.entries =
    sym (take-append-drop place page.entries) ∙ ap (λ (es : List Entry). take place page.entries ++ es) (drop_more page.entries place (record { number = 0; row = [] }) lt) in
    let more : length (entry_bytes page.entries) ≡ length (entry_bytes (take place page.entries)) + (length (entry_code entry) + length (entry_bytes (drop (place + 1) page.entries))) =
    ap (λ (es : List Entry). length (entry_bytes es)) split ∙ ap length (flat_map-append entry_code (take place page.entries) (entry ∷ drop (place + 1) page.entries) ∙ ap (λ (b : List ℕ). entry_bytes (take place page.entries) ++ b) (flat_map-cons entry_code entry (drop (place + 1) page.entries))) ∙ (rw (length-append (entry_bytes (take place page.entries)) (entry_code entry ++ entry_bytes (drop (place + 1) page.entries)), length-append (entry_code entry) (entry_bytes (drop (place + 1) page.entries))) refl) in
    let one : place + 1 ≡ suc place = omega arith in
    let same : length (entry_bytes (drop (place + 1) page.entries)) ≡ length (entry_bytes (drop (suc place) page.entries)) = ap (λ (n : ℕ). length (entry_bytes (drop n page.entries))) one in
    record {
      lawful = recursion_from_All IsEntry (without page place).entries (All-append IsEntry (take place page.entries) (drop (suc place) page.entries) (All-take IsEntry place page.entries (All-from_recursion IsEntry page.entries is.lawful)) (All-drop IsEntry (suc place) page.entries (All-from_recursion IsEntry page.entries is.lawful)));
      fits = rw (flat_map-append entry_code (take place page.entries) (drop (suc place) page.entries), length-append (entry_bytes (take place page.entries)) (entry_bytes (drop (suc place) page.entries))) (le-leb _ _ (omega (arith, more, same, leb-true _ _ is.fits)));
    }

-- a page with one more entry can be written where it fits
pub with_fits : (page : HeapPage) (place : ℕ) (entry : Entry) → IsHeapPage page → IsEntry entry → HaveRoom (page.entries ++ entry ∷ []) → IsHeapPage (record page { entries = take place page.entries ++ entry ∷ drop place page.entries })
with_fits page place entry is one room =
    let front = take place page.entries in
    let rest = drop place page.entries in
    let all : length (entry_bytes page.entries) ≡ length (entry_bytes front) + length (entry_bytes rest) =
    ap (λ (es : List Entry). length (entry_bytes es)) (sym (take-append-drop place page.entries)) ∙ ap length (flat_map-append entry_code front rest) ∙ length-append (entry_bytes front) (entry_bytes rest) in
    let more : length (entry_bytes (page.entries ++ entry ∷ [])) ≡ length (entry_bytes page.entries) + length (entry_bytes (entry ∷ [])) = ap length (flat_map-append entry_code page.entries (entry ∷ [])) ∙ length-append (entry_bytes page.entries) (entry_bytes (entry ∷ [])) in
    let last : length (entry_bytes (entry ∷ [])) ≡ length (entry_code entry) = ap length (flat_map-cons entry_code entry [] ∙ append-nil (entry_code entry)) in
    let whole : length (entry_bytes (front ++ entry ∷ rest)) ≡ length (entry_bytes front) + (length (entry_code entry) + length (entry_bytes rest)) =
    ap length (flat_map-append entry_code front (entry ∷ rest)) ∙ length-append (entry_bytes front) (entry_bytes (entry ∷ rest)) ∙ ap (λ (k : ℕ). length (entry_bytes front) + k) (ap length (flat_map-cons entry_code entry rest) ∙ length-append (entry_code entry) (entry_bytes rest)) in
    let lawful = All-from_recursion IsEntry page.entries is.lawful in
    record {
      lawful = recursion_from_All IsEntry (front ++ entry ∷ rest) (All-append IsEntry front (entry ∷ rest) (All-take IsEntry place page.entries lawful) (All-cons IsEntry entry rest one (All-drop IsEntry place page.entries lawful)));
      fits = le-leb _ _ (omega (arith, leb-true _ _ room));
    }
