use Rattle.std.proofs.Common.{◌≡◌, ◌∙◌, ◌+◌, ◌-◌, ℕ, None, Some, subst, take, drop, arith}
use Rattle.retro_base.specs.Fields.{number_at}
use Rattle.row_codec.specs.RowCode.{IsDecoded}
use Rattle.heap_file.proofs.Packing.{short_for_entry, past_the_end, no_row_there, entry_there}
use Rattle.heap_file.proofs.entries.first_entry_into.Goals as goal

pub returns-then-bytes-lt-LENGTH_BYTES-clause-found : goal.returns-then-bytes-lt-LENGTH_BYTES-clause-found
returns-then-bytes-lt-LENGTH_BYTES-clause-found c = short_for_entry c.args.bytes.now c.if-bytes-lt-LENGTH_BYTES.true

pub returns-then-end-bytes-clause-found : goal.returns-then-end-bytes-clause-found
returns-then-end-bytes-clause-found c =
    let n : c.from-end.result ≡ number_at 2 c.args.bytes.now 0 = c.from-end.ensures ∙ c.get_u16.ensures in
    past_the_end c.args.bytes.now (omega arith) (omega arith)

pub returns-in_default-clause-found : goal.returns-in_default-clause-found
returns-in_default-clause-found c =
    let bytes = c.args.bytes.now in
    let n : c.from-end.result ≡ number_at 2 bytes 0 = c.from-end.ensures ∙ c.get_u16.ensures in
    let long : 2 + c.from-end.result - 2 ≡ number_at 2 bytes 0 = omega arith in
    no_row_there bytes (subst (λ (k : ℕ). IsDecoded (take k (drop 2 bytes)) None) long (rw c.in_default.is at c.in_ok-number.ensures.decoded))

pub returns-clause-found : goal.returns-clause-found
returns-clause-found c =
    let bytes = c.args.bytes.now in
    let n : c.from-end.result ≡ number_at 2 bytes 0 = c.from-end.ensures ∙ c.get_u16.ensures in
    let long : 2 + c.from-end.result - 2 ≡ number_at 2 bytes 0 = omega arith in
    rw n (entry_there bytes c.in-Some.number c.decode_into.new.row (λ i. omega (arith, c.type_inv.bytes i)) (omega arith)
    (subst (λ (k : ℕ). IsDecoded (take k (drop 2 bytes)) (Some (c.in-Some.number, c.decode_into.new.row))) long (rw c.in-Some.is at c.in_ok-number.ensures.decoded)))
