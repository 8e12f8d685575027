use Rattle.std.proofs.Common.{◌≡◌, ◌+◌, ◌++◌, ◌∷◌, [], ℕ, ap, arith, length}
use Rattle.std.specs.Prelude.{nat_le}
use Rattle.heap_file.specs.HeapPage.{entry_bytes}
use Rattle.heap_file.specs.declared.page.TheConstants.{ENTRY_BYTES}
use Rattle.heap_file.proofs.Packing.{length-push}
use Rattle.heap_file.proofs.page.has_room.Goals as goal

pub returns-clause-room : goal.returns-clause-room
returns-clause-room c =
    let entries = c.args.entries.now in
    let entry = c.args.entry.now in
    let sum : c.entries_length.result + c.entry_length.result ≡ length (entry_bytes (entries ++ entry ∷ [])) = omega (arith, length-push entries entry, c.entries_length.ensures, c.entry_length.ensures.length) in
    ap (λ (n : ℕ). nat_le n ENTRY_BYTES) sum
