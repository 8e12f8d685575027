use Rattle.std.proofs.Common.{◌++◌, append_assoc, ◌≡◌, ◌∙◌, ◌⊎◌, ◌+◌, ◌-◌, ◌≤◌, ◌∷◌, [], List, ℕ, length, drop, take, slice_index, Some, None, Ok, Err, ap, sym, subst, arith}
use Rattle.std.proofs.lemmas.List.{length-drop, take_rest}
use Rattle.retro_base.specs.Fields.{number_at}
use Rattle.retro_base.specs.declared.refusal.Refusal.TheVariants.{OutOfMemory}
use Rattle.heap_file.specs.HeapPage.{IsFirstEntry}
use Rattle.heap_file.specs.Sieving.{onto, passing, refused}
use Rattle.heap_file.specs.declared.chain.Placed.{Placed}
use Rattle.heap_file.specs.declared.page.Entry.{Entry}
use Rattle.heap_file.proofs.Sieves.{Test}
use Rattle.heap_file.proofs.Sifts.{all-pass-on}
use Rattle.heap_file.proofs.Walks.{broken-here, met-all, one-more, placed, refused-here, shown-all}
use Rattle.heap_file.proofs.scanning.push_passing.Goals as goal

pub returns-in_default-clause-walked : goal.returns-in_default-clause-walked
returns-in_default-clause-walked g c =
    let bytes = c.bytes-bytes.result.now in
    let entries = take (length bytes - 20) (drop 20 bytes) in
    let same = c.bytes-bytes.ensures.same in
    let none : IsFirstEntry (drop c.entries.end entries) None = rw (take_rest entries c.entries.end, c.in_default.is) at c.in_ok-entry.ensures.found in
    broken-here (g.S.Sieve.passes c.args.sieve.now) (λ rows. (start : g.row.S.Denot) (before : List Placed) → g.S.Sieve.met start before c.args.sieve.now → g.S.Sieve.met start (before ++ rows) c.entries.sieve) entries c.args.number c.entries.place c.entries.end c.args.kept.now.items c.entries.kept.items c.entries.invariant.met
    c.args.page.now (ap (drop 20) (sym same) ∙ sym (take_rest bytes 20)) c.from-count.result (sym (c.from-count.ensures ∙ c.get_u16.ensures ∙ ap (λ (b : List ℕ). number_at 2 b 2) same))
    c.entries.kept.items _ c.entries-test.true none c.broken-in_default.ensures

pub returns-in-Err-clause-walked : goal.returns-in-Err-clause-walked
returns-in-Err-clause-walked g c =
    let bytes = c.bytes-bytes.result.now in
    let entries = take (length bytes - 20) (drop 20 bytes) in
    let same = c.bytes-bytes.ensures.same in
    let entry : Entry = record { number = c.in-Some.entry; row = c.first_entry_into.new.row } in
    let there : IsFirstEntry (drop c.entries.end entries) (Some (entry, c.in-Some.length)) = rw (take_rest entries c.entries.end, c.in-Some.is) at c.in_ok-entry.ensures.found in
    let why = subst (λ (t : Test). (c.in-Err.why ≡ OutOfMemory) ⊎ (onto c.entries.kept.items (passing t (placed c.args.number entry ∷ [])) ≡ Err c.in-Err.why)) c.entries.invariant.stays c.in-Err.ensures.passing in
    let behind = rw (take_rest entries (c.entries.end + c.in-Some.length)) at c.refused.ensures in
    refused-here (g.S.Sieve.passes c.args.sieve.now) (λ rows. (start : g.row.S.Denot) (before : List Placed) → g.S.Sieve.met start before c.args.sieve.now → g.S.Sieve.met start (before ++ rows) c.entries.sieve) entries c.args.number c.entries.place c.entries.end c.args.kept.now.items c.entries.kept.items c.entries.invariant.met
    entry c.in-Some.length there c.args.page.now (ap (drop 20) (sym same) ∙ sym (take_rest bytes 20)) c.from-count.result c.entries-test.true (sym (c.from-count.ensures ∙ c.get_u16.ensures ∙ ap (λ (b : List ℕ). number_at 2 b 2) same))
    (subst (λ (b : List ℕ). slice_index b 0 ≤ 1) same c.if-bytes-gt-HEAP_PAGE.false) c.keep_passing.new.kept.items c.in-Err.why c.refused.result why behind

pub entries-preserved : goal.entries-preserved
entries-preserved g c =
    let bytes = c.bytes-bytes.result.now in
    let entries = take (length bytes - 20) (drop 20 bytes) in
    let inv = c.entries.invariant in
    let entry : Entry = record { number = c.in-Some.entry; row = c.first_entry_into.new.row } in
    let there : IsFirstEntry (drop c.entries.end entries) (Some (entry, c.in-Some.length)) = rw (take_rest entries c.entries.end, c.in-Some.is) at c.in_ok-entry.ensures.found in
    let ok = c.in_default-keep_passing.ensures in
    record {
      met = one-more (g.S.Sieve.passes c.args.sieve.now) (λ rows. (start : g.row.S.Denot) (before : List Placed) → g.S.Sieve.met start before c.args.sieve.now → g.S.Sieve.met start (before ++ rows) c.entries.sieve) entries c.args.number c.entries.place c.entries.end c.args.kept.now.items c.entries.kept.items inv.met entry c.in-Some.length there (λ rows. (start : g.row.S.Denot) (before : List Placed) → g.S.Sieve.met start before c.args.sieve.now → g.S.Sieve.met start (before ++ rows) c.keep_passing.new.sieve) c.keep_passing.new.kept.items
          (subst (λ (t : Test). onto c.entries.kept.items (passing t (placed c.args.number entry ∷ [])) ≡ Ok c.keep_passing.new.kept.items) inv.stays ok.passing)
          (λ rows seen start before at. subst (λ (l : List Placed). g.S.Sieve.met start l c.keep_passing.new.sieve) (append_assoc before rows (placed c.args.number entry ∷ [])) (ok.met start (before ++ rows) (seen start before at)));
      within = omega (arith, inv.within, there.1, length-drop c.entries.end entries);
      passed = λ all. all-pass-on (g.S.Sieve.passes c.entries.sieve) (g.S.Sieve.passes c.args.sieve.now) c.entries.kept.items c.keep_passing.new.kept.items inv.stays (inv.passed all) ok.passed;
      stays = ok.stays ∙ inv.stays;
    }

pub returns-clause-walked : goal.returns-clause-walked
returns-clause-walked g c =
    let bytes = c.bytes-bytes.result.now in
    let entries = take (length bytes - 20) (drop 20 bytes) in
    let same = c.bytes-bytes.ensures.same in
    met-all (g.S.Sieve.passes c.args.sieve.now) (λ rows. (start : g.row.S.Denot) (before : List Placed) → g.S.Sieve.met start before c.args.sieve.now → g.S.Sieve.met start (before ++ rows) c.entries.sieve) entries c.args.number c.entries.place c.entries.end c.args.kept.now.items c.entries.kept.items c.entries.invariant.met
    c.args.page.now (ap (drop 20) (sym same) ∙ sym (take_rest bytes 20)) c.from-count.result (sym (c.from-count.ensures ∙ c.get_u16.ensures ∙ ap (λ (b : List ℕ). number_at 2 b 2) same))
    c.get_u32.result (subst (λ (b : List ℕ). slice_index b 0 ≤ 1) same c.if-bytes-gt-HEAP_PAGE.false) (omega arith) (c.get_u32.ensures ∙ ap (λ (b : List ℕ). number_at 4 b 4) same)

pub returns-clause-met : goal.returns-clause-met
returns-clause-met g c = λ start front before held holds.
    let bytes = c.bytes-bytes.result.now in
    let entries = take (length bytes - 20) (drop 20 bytes) in
    let same = c.bytes-bytes.ensures.same in
    shown-all (g.S.Sieve.passes c.args.sieve.now) (λ rows. (start : g.row.S.Denot) (before : List Placed) → g.S.Sieve.met start before c.args.sieve.now → g.S.Sieve.met start (before ++ rows) c.entries.sieve) entries c.args.number c.entries.place c.entries.end c.args.kept.now.items c.entries.kept.items c.entries.invariant.met
    c.args.page.now (ap (drop 20) (sym same) ∙ sym (take_rest bytes 20)) c.from-count.result (sym (c.from-count.ensures ∙ c.get_u16.ensures ∙ ap (λ (b : List ℕ). number_at 2 b 2) same))
    held holds (omega arith) start front before
