-- A page that is walked entry by entry, and the rows of it that pass so far.
use Rattle.std.proofs.Common.{Bool, true, false, ◌≡◌, ◌∙◌, ◌⊎◌, ◌<◌, ◌≤◌, ◌+◌, ◌-◌, ◌++◌, ℕ, List, [], ◌∷◌, length, drop, map, slice_index, Some, None, Result, Ok, Err, inl, inr, refl, sym, ap, subst, arith, append_assoc}
use Rattle.std.specs.List.{AllByRecursion}
use Rattle.std.proofs.lemmas.List.{append-nil, append_cancel_left, drop-drop, length-append, map-append}
use Rattle.std.proofs.lemmas.List.Concat.{flat_map-append}
use Rattle.std.proofs.lemmas.List.Elements.{All-from_recursion, recursion_from_All, All-append}
use Rattle.retro_base.specs.Fields.{number_at}
use Rattle.retro_base.specs.declared.refusal.Refusal.{Refusal}
use Rattle.retro_base.specs.declared.refusal.Refusal.TheVariants.{OutOfMemory}
use Rattle.pager.specs.Pages.{broken}
use Rattle.heap_file.specs.declared.chain.Placed.{Placed}
use Rattle.heap_file.specs.declared.page.Entry.{Entry}
use Rattle.heap_file.specs.declared.page.HeapPage.{HeapPage}
use Rattle.heap_file.specs.HeapPage.{AreFirstEntries, HoldsRows, IsEntry, IsFirstEntry, entry_bytes, entry_code}
use Rattle.heap_file.specs.Sieving.{onto, passing, refused, walked}
use Rattle.heap_file.proofs.Packing.{no_more, same_entries, same_front}
use Rattle.heap_file.specs.Chain.{rows_on}
use Rattle.heap_file.proofs.Sieves.{Test, passing-append, passing-by, passing-not}

-- an entry of a page as a row of its table
abbrev pub placed : ℕ → Entry → Placed
placed page entry = record { number = entry.number; page = page; row = entry.row }

-- the rows of the entries behind those that were met
onto_both : (front xs : List Placed) (r : Result (List Placed) Refusal) → onto front (onto xs r) ≡ onto (front ++ xs) r
onto_both front xs (Ok ys) = ap (λ (l : List Placed). Ok l) (sym (append_assoc front xs ys))
onto_both front xs (Err why) = refl

onto-append : (passes : Test) (front kept xs ys : List Placed) → onto front (passing passes xs) ≡ Ok kept → onto front (passing passes (xs ++ ys)) ≡ onto kept (passing passes ys)
onto-append passes front kept xs ys e = by (passing passes xs) refl
  where
    by : (r : Result (List Placed) Refusal) → passing passes xs ≡ r → onto front (passing passes (xs ++ ys)) ≡ onto kept (passing passes ys)
    by (Ok k) is =
        let whole : Ok (front ++ k) ≡ Ok kept = sym (ap (onto front) is) ∙ e in
        let same : front ++ k ≡ kept = cc whole in
        ap (onto front) (passing-append passes xs ys k is) ∙ onto_both front k (passing passes ys) ∙ ap (λ (l : List Placed). onto l (passing passes ys)) same
    by (Err why) is =
        let no : Err why ≡ Ok kept = sym (ap (onto front) is) ∙ e in absurd (cc no)

-- a row that is refused behind those that were met, whatever is behind it
onto-refused : (passes : Test) (kept ys : List Placed) (row : Placed) (why : Refusal) → onto kept (passing passes (row ∷ [])) ≡ Err why → onto kept (passing passes (row ∷ ys)) ≡ Err why
onto-refused passes kept ys row why e = by (passes row) refl
  where
    by : (r : Result Bool Refusal) → passes row ≡ r → onto kept (passing passes (row ∷ ys)) ≡ Err why
    by (Err other) is = ap (onto kept) (passing-not passes row ys other is ∙ sym (passing-not passes row [] other is)) ∙ e
    by (Ok true) is = let no : Ok (kept ++ row ∷ []) ≡ Err why = sym (ap (onto kept) (passing-by passes row [] true is)) ∙ e in absurd (cc no)
    by (Ok false) is = let no : Ok (kept ++ []) ≡ Err why = sym (ap (onto kept) (passing-by passes row [] false is)) ∙ e in absurd (cc no)

-- what was met so far: the entries, and the rows of them that pass behind those before
pub record Met (passes : Test) (seen : List Placed → Type 0) (bytes : List ℕ) (page count end : ℕ) (front kept : List Placed) : Type 0 where
  pub done : List Entry
  pub many : length done ≡ count
  pub lawful : AllByRecursion IsEntry done
  pub read : bytes ≡ entry_bytes done ++ drop end bytes
  pub passed : onto front (passing passes (map (placed page) done)) ≡ Ok kept
  pub shown : seen (map (placed page) done)

module _ (passes : Test) (seen : List Placed → Type 0) (bytes : List ℕ) (page count end : ℕ) (front kept : List Placed) (met : Met passes seen bytes page count end front kept) where
  module _ (entry : Entry) (size : ℕ) (there : IsFirstEntry (drop end bytes) (Some (entry, size))) where
    -- the entries with this one
    abbrev with_it : List Entry
    with_it = met.done ++ entry ∷ []

    all : AllByRecursion IsEntry with_it
    all = recursion_from_All IsEntry with_it (All-append IsEntry met.done (entry ∷ []) (All-from_recursion IsEntry met.done met.lawful) (All-from_recursion IsEntry (entry ∷ []) (there.0, tt)))

    read_with : bytes ≡ entry_bytes with_it ++ drop (end + size) bytes
    read_with =
        met.read
        ∙ ap (λ (b : List ℕ). entry_bytes met.done ++ b) (there.2 ∙ ap (λ (b : List ℕ). entry_code entry ++ b) (drop-drop size end bytes))
        ∙ sym (append_assoc (entry_bytes met.done) (entry_code entry) (drop (end + size) bytes))
        ∙ ap (λ (b : List ℕ). b ++ drop (end + size) bytes) (sym (flat_map-append entry_code met.done (entry ∷ []) ∙ ap (λ (b : List ℕ). entry_bytes met.done ++ b) (append-nil (entry_code entry))))

    rows_with : map (placed page) with_it ≡ map (placed page) met.done ++ placed page entry ∷ []
    rows_with = map-append (placed page) met.done (entry ∷ [])

    -- one entry more
    pub one-more : (after : List Placed → Type 0) (more : List Placed) → onto kept (passing passes (placed page entry ∷ [])) ≡ Ok more → ((rows : List Placed) → seen rows → after (rows ++ placed page entry ∷ [])) → Met passes after bytes page (count + 1) (end + size) front more
    one-more after more e goes = record {
      done = with_it;
      many = omega (arith, met.many, length-append met.done (entry ∷ []));
      lawful = all;
      read = read_with;
      passed = ap (λ (rows : List Placed). onto front (passing passes rows)) rows_with ∙ onto-append passes front kept (map (placed page) met.done) (placed page entry ∷ []) met.passed ∙ e;
      shown = subst after (sym rows_with) (goes (map (placed page) met.done) met.shown);
    }

    module _ (whole : List ℕ) (packed : drop 20 whole ≡ bytes) (total : ℕ) (room : count < total) (is_total : number_at 2 whole 2 ≡ total) (kind : slice_index whole 0 ≤ 1) where
      -- the entries behind it do not stand there
      not_behind : AreFirstEntries (drop (end + size) bytes) (total - count - 1) None → (held : HeapPage) → HoldsRows whole held → ⊥
      not_behind none held holds =
          let front = same_front with_it held.entries (drop (end + size) bytes) holds.behind (omega (arith, met.many, is_total, holds.count, length-append met.done (entry ∷ []))) all holds.lawful (sym read_with ∙ sym packed ∙ holds.packed) in
          none front.0 holds.behind (omega (arith, met.many, is_total, holds.count, length-append met.done (entry ∷ []), ap length front.1, length-append with_it front.0)) front.2 front.3

      -- the page with those that stand behind it
      abbrev page_with : List Entry → HeapPage
      page_with others = record { next = number_at 4 whole 4; next_number = number_at 8 whole 8; last = number_at 4 whole 16; entries = with_it ++ others }

      holds_with : (others : List Entry) → AreFirstEntries (drop (end + size) bytes) (total - count - 1) (Some others) → HoldsRows whole (page_with others)
      holds_with others are = record {
        kind = kind;
        count = omega (arith, is_total, met.many, are.0, length-append met.done (entry ∷ []), length-append with_it others);
        next = refl;
        next_number = refl;
        last = refl;
        behind = are.2;
        packed = packed ∙ read_with ∙ ap (λ (b : List ℕ). entry_bytes with_it ++ b) are.3 ∙ sym (append_assoc (entry_bytes with_it) (entry_bytes others) are.2) ∙ ap (λ (b : List ℕ). b ++ are.2) (sym (flat_map-append entry_code with_it others));
        lawful = recursion_from_All IsEntry (with_it ++ others) (All-append IsEntry with_it others (All-from_recursion IsEntry with_it all) (All-from_recursion IsEntry others are.1));
      }

      refused_with : (others : List Entry) (why : Refusal) → onto kept (passing passes (placed page entry ∷ [])) ≡ Err why → onto front (passing passes (map (placed page) (with_it ++ others))) ≡ Err why
      refused_with others why e =
          let rows : map (placed page) (with_it ++ others) ≡ map (placed page) met.done ++ placed page entry ∷ map (placed page) others =
          map-append (placed page) with_it others ∙ ap (λ (l : List Placed). l ++ map (placed page) others) rows_with ∙ append_assoc (map (placed page) met.done) (placed page entry ∷ []) (map (placed page) others) in
          ap (λ (l : List Placed). onto front (passing passes l)) rows
          ∙ onto-append passes front kept (map (placed page) met.done) (placed page entry ∷ map (placed page) others) met.passed
          ∙ onto-refused passes kept (map (placed page) others) (placed page entry) why e

      -- its row is refused
      pub refused-here : (after : List Placed) (why answer : Refusal) → (why ≡ OutOfMemory) ⊎ (onto kept (passing passes (placed page entry ∷ [])) ≡ Err why) → refused (drop (end + size) bytes) (total - count - 1) page why answer → walked passes whole page front after (Err answer)
      refused-here after why answer e (inl memory) = inl memory
      refused-here after why answer e (inr (inl none)) = inr (inl (none.0, not_behind none.1))
      refused-here after why answer (inl memory) (inr (inr is)) = inl (is.0 ∙ memory)
      refused-here after why answer (inr e) (inr (inr is)) =
          inr (inr (page_with is.1, holds_with is.1 is.2, refused_with is.1 answer (e ∙ ap (λ (r : Refusal). Err r) (sym is.0))))

  module _ (whole : List ℕ) (packed : drop 20 whole ≡ bytes) (total : ℕ) (is_total : number_at 2 whole 2 ≡ total) where
    -- no entry stands there
    pub broken-here : (after : List Placed) (why : Refusal) → count < total → IsFirstEntry (drop end bytes) None → why ≡ broken page → walked passes whole page front after (Err why)
    broken-here after why room none is = inr (inl (is, λ held holds. no_more bytes holds.behind total end met.done held.entries (omega (arith, met.many)) met.lawful met.read none (omega (arith, is_total, holds.count)) holds.lawful (sym packed ∙ holds.packed)))

    -- all entries were met
    pub met-all : (next : ℕ) → slice_index whole 0 ≤ 1 → count ≡ total → next ≡ number_at 4 whole 4 → walked passes whole page front kept (Ok next)
    met-all next kind full is = (
      record { next = number_at 4 whole 4; next_number = number_at 8 whole 8; last = number_at 4 whole 16; entries = met.done },
      record {
        kind = kind;
        count = omega (arith, is_total, met.many);
        next = refl;
        next_number = refl;
        last = refl;
        behind = drop end bytes;
        packed = packed ∙ met.read;
        lawful = met.lawful;
      },
      sym is,
      met.passed,
    )

    -- and what the page holds is these
    pub shown-all : (held : HeapPage) → HoldsRows whole held → count ≡ total → seen (rows_on (record { page = page; held = held }))
    shown-all held holds full =
        let same : met.done ≡ held.entries = same_entries met.done held.entries (drop end bytes) holds.behind (omega (arith, is_total, met.many, holds.count)) met.lawful holds.lawful (sym met.read ∙ sym packed ∙ holds.packed) in
        subst (λ (entries : List Entry). seen (map (placed page) entries)) same met.shown
